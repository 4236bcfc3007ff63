use Rattle.std.proofs.Common.{◌≡◌, ◌-◌, length}
use Rattle.reading.specs.Along.{along}
use Rattle.walk.specs.Walk.{SlotIn, ahead}
use Rattle.walk.proofs.frames.Walk.descend.Given as goal

abbrev pub invariant-down : goal.invariant-down
invariant-down l = SlotIn l.self l.v × (ahead l.self l.v ≡ ahead l.initial.self l.initial.v)

abbrev pub decreases-down : goal.decreases-down
decreases-down l = length (along l.self.rows.branch.now) - l.v.node
