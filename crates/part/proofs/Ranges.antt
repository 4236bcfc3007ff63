-- A range whose end is at fault. Assumes nothing.
use Rattle.std.proofs.Common.{ℕ, ◌+◌, ◌-◌, List, length, take, drop, Ok, Err, subst, inr}
use Rattle.std.proofs.lemmas.List.{take_rest}
use Rattle.line_fault.specs.declared.Key.{Key}
use Rattle.line_fault.specs.declared.LineFault.{LineFault}
use Rattle.part.specs.Reads.{Unsigned, FirstDots, RangeRead}

pub bad_end : (key : Key) (bs : List ℕ) (p n : ℕ) (e : LineFault) → FirstDots bs p → Unsigned 64 key (take p bs) (Ok n) → Unsigned 64 key (take (length bs - (p + 2)) (drop (p + 2) bs)) (Err e) → RangeRead key bs (Err e)
bad_end key bs p n e d from to = inr (p, d, inr (n, from, subst (λ (t : List ℕ). Unsigned 64 key t (Err e)) (take_rest bs (p + 2)) to))
