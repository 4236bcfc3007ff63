use Rattle.std.proofs.Common.{◌≤◌, length}
use Rattle.tally.specs.Answer.{slots_trace}
use Rattle.walk.specs.Walk.{Counted, rest}
use Rattle.walk.proofs.walk_through.Given as goal

abbrev pub invariant-loop-found : goal.invariant-loop-found
invariant-loop-found l =
    Counted l.counts.entries l.counts.values (rest l.walk) (slots_trace l.rows)
    × (l.counts.entries ≤ 2147483647)
    × (l.counts.values ≤ l.counts.entries)

abbrev pub decreases-loop-found : goal.decreases-loop-found
decreases-loop-found l = length (rest l.walk).entries
