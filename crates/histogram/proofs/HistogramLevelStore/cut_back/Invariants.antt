use Rattle.std.proofs.Common.{◌≡◌, ℕ, ◌+◌, ◌<◌, length, get_or, take}
use Rattle.histogram.specs.Tallies.{occurrences}
use Rattle.histogram.proofs.HistogramLevelStore.cut_back.Given as goal

-- what is kept and what is left to count off make up the counts
abbrev pub invariant-loop-level : goal.invariant-loop-level
invariant-loop-level g l =
    (length l.counts ≡ 17)
    × ((k : ℕ) → k < 17 → get_or l.counts k 0 ≡ occurrences k (take l.kept (g.S.LevelStore.meaning l.fn.self.below).levels) + occurrences k l.level-iterator)
