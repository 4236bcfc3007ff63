use Rattle.std.proofs.Common.{◌≡◌}
use Rattle.walk.specs.Walk.{rest, lists}
use Rattle.walk.proofs.frames.Walk.settle.Given as goal

abbrev pub invariant-loop-innermost : goal.invariant-loop-innermost
invariant-loop-innermost l = rest l.self ≡ rest l.initial.self

abbrev pub decreases-loop-innermost : goal.decreases-loop-innermost
decreases-loop-innermost l = lists l.self
