use Rattle.std.proofs.Common.{◌≡◌, ℕ, ◌<◌, ◌≤◌, List, length, take}
use Rattle.runs.specs.declared.Run.{Run}
use Rattle.runs.specs.Kept.{records}
use Rattle.runs.specs.Runs.{spread}
use Rattle.runs.proofs.RunStore.find.Given as goal

-- xs are the records in front, of n levels, and the place is before n
pub record Passed (items xs : List Run) (n place : ℕ) : Type 0 where
  pub front : xs ≡ take (length xs) items
  pub within : length xs ≤ length items
  pub before : n ≡ length (spread xs)
  pub ahead : place < n

abbrev pub invariant-loop-run : goal.invariant-loop-run
invariant-loop-run l = Passed (records l.self) l.runs l.before l.place

abbrev pub decreases-loop-run : goal.decreases-loop-run
decreases-loop-run l = length l.runs
