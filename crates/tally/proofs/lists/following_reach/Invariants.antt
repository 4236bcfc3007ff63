use Rattle.reading.specs.Along.{inside, along}
use Rattle.tally.proofs.Following.{Follows}
use Rattle.tally.proofs.lists.following_reach.Given as goal

abbrev pub invariant-loop-i : goal.invariant-loop-i
invariant-loop-i l = Follows (inside l.slots.branch.now) (along l.slots.branch.now) l.slots.node l.slots.from l.i l.span l.bare
