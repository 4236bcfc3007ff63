use Rattle.std.proofs.Common.{◌∙◌}
use Rattle.walk.proofs.Stack.{top_is, popped}
use Rattle.walk.proofs.frames.Walk.settle.Goals as goal

pub loop-innermost-preserved : goal.loop-innermost-preserved
loop-innermost-preserved c =
    let w = c.loop-innermost.self in
    let x = c.in-Some.innermost.now in
    let top = top_is w.frames.items c.deref.result.now x c.deref.ensures.0 c.in-Some.ensures.value in
    popped w c.pop.new.self.items x top.0 top.1 c.if-innermost.false c.pop.ensures.rest ∙ c.loop-innermost.invariant
