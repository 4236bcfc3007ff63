use Rattle.std.proofs.Common.{◌≡◌, ◌-◌, ◌≤◌, length, Some}
use Rattle.reading.specs.Along.{inside, along}
use Rattle.tally.specs.Sizes.{sizes}
use Rattle.tally.proofs.walk.+tally_at.Given as goal

abbrev pub decreases-tally_at : goal.decreases-tally_at
decreases-tally_at l = length (along l.slots.branch.now) - l.slots.node

abbrev pub invariant-loop-from : goal.invariant-loop-from
invariant-loop-from l =
    (l.fn.slots.from ≤ l.from) × (l.from ≤ l.to)
    × (sizes (inside l.branch) (along l.branch) l.node l.fn.slots.from (l.from - l.fn.slots.from) ≡ Some (l.all.entries, l.all.values))
    × (l.all.entries ≤ 2147483647) × (l.all.values ≤ l.all.entries)

abbrev pub decreases-loop-from : goal.decreases-loop-from
decreases-loop-from l = l.to - l.from
