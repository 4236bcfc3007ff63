use Rattle.std.proofs.Common.{◌≡◌, ℕ, ◌+◌, ◌<◌, length, get_or}
use Rattle.histogram.specs.Tallies.{occurrences}
use Rattle.histogram.proofs.Histogram.new.Given as goal

-- what is counted and what is left make up the levels
abbrev pub invariant-loop-level : goal.invariant-loop-level
invariant-loop-level g l =
    (length l.counts ≡ 17)
    × ((k : ℕ) → k < 17 → get_or l.counts k 0 + occurrences k l.level-iterator ≡ occurrences k (g.S.LevelStore.meaning l.fn.below).levels)
