use Rattle.std.proofs.Common.{◌≡◌, ◌-◌, ◌≤◌, Some}
use Rattle.reading.specs.Along.{inside, along}
use Rattle.tally.specs.Sizes.{sizes}
use Rattle.tally.proofs.flat.tally_flat.Given as goal

abbrev pub invariant-loop-i : goal.invariant-loop-i
invariant-loop-i l = (l.slots.from ≤ l.i) × (l.i ≤ l.slots.to) × (sizes (inside l.slots.branch.now) (along l.slots.branch.now) l.slots.node l.slots.from (l.i - l.slots.from) ≡ Some (l.i - l.slots.from, l.values)) × (l.values ≤ l.i - l.slots.from)

abbrev pub decreases-loop-i : goal.decreases-loop-i
decreases-loop-i l = l.slots.to - l.i
