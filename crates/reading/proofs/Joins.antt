-- Traces one after another.
use Rattle.std.proofs.Common.{◌≡◌, ℕ, List, Some, None, Option, refl, ap₂}
use Rattle.std.proofs.lemmas.List.{append_assoc}
use Rattle.rows.specs.Rows.{Entry}
use Rattle.table.specs.declared.refusal.Fault.{Fault}
use Rattle.reading.specs.Trace.{Trace, ◌then◌}

assoc_at : (es fs : List Entry) (ps qs : List ℕ) (o p : Option Fault) (u : Trace) →
    (record { entries = es; positions = ps; stop = o } then record { entries = fs; positions = qs; stop = p }) then u ≡
    record { entries = es; positions = ps; stop = o } then (record { entries = fs; positions = qs; stop = p } then u)
assoc_at es fs ps qs (Some e) p u = refl
assoc_at es fs ps qs None (Some e) u = refl
assoc_at es fs ps qs None None u = ap₂ (λ x y. record { entries = x; positions = y; stop = u.stop }) (append_assoc es fs u.entries) (append_assoc ps qs u.positions)

pub then_assoc : (s t u : Trace) → (s then t) then u ≡ s then (t then u)
then_assoc s t u = assoc_at s.entries t.entries s.positions t.positions s.stop t.stop u
