-- What a run store stands for.
use Rattle.std.specs.Prelude.{◌≡◌, ℕ, ◌<◌, ◌≤◌, List, length, ℤ}
use Rattle.std.proofs.Common.{arith}
use Rattle.store.specs.declared.reading.Spot.{Spot}
use Rattle.store.specs.Growing.{list_items, list_most}
use Rattle.store.specs.Stores.{Meaning}
use Rattle.runs.specs.declared.Run.{Run}
use Rattle.runs.specs.declared.RunStore.{RunStore}
use Rattle.runs.specs.Runs.{spread, Located}

abbrev pub records : RunStore → List Run
records s = list_items s.records.list

abbrev pub run_most : RunStore → ℕ
run_most s = list_most s.records.list

abbrev pub run_levels : RunStore → List ℤ
run_levels s = spread (records s)

abbrev pub run_meaning : RunStore → Meaning
run_meaning s = record { levels = run_levels s; most = run_most s }

-- a spot at a record is before the level at the place, and any other is past the last, where only the length stands
abbrev pub RunStands : RunStore → Spot → ℕ → Type 0
RunStands s t n = (t.index < length (records s) → Located (records s) n t) × (length (records s) ≤ t.index → n ≡ length (run_levels s))

pub run_bounded : (s : RunStore) → (length (run_levels s) ≤ run_most s) × (run_most s ≤ 2147483647)
run_bounded s = (omega arith, omega arith)
