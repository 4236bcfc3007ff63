use Rattle.std.proofs.Common.{◌∙◌}
use Rattle.walk.proofs.Stack.{entered_framed, entered}
use Rattle.walk.proofs.frames.Walk.descend.Goals as goal

pub invariant_of-self-clause-framed : goal.invariant_of-self-clause-framed
invariant_of-self-clause-framed c = entered_framed c.down.self c.down.v c.in-Enters.first c.in-Enters.others c.in_ok-entry.field-0 c.in-Enters.is c.in_ok-entry.ensures c.push.new.self.items c.push.ensures.items

pub down-preserved : goal.down-preserved
down-preserved c =
    let e = entered c.down.self c.down.v c.in-Enters.first c.in-Enters.others c.in_ok-entry.field-0 c.in-Enters.is c.in_ok-entry.ensures c.push.new.self.items c.push.ensures.items in
    (e.0, e.1 ∙ c.down.invariant.1)
