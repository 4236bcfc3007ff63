use Rattle.std.proofs.Common.{refl, sym, subst}
use Rattle.reading.specs.Along.{inside, along}
use Rattle.reading.specs.Reading.{node_on}
use Rattle.tally.specs.Reaching.{Reached}
use Rattle.tally.proofs.Ranges.{null_reach}
use Rattle.tally.proofs.lists.alike_reach.Goals as goal

pub returns : goal.returns
returns c =
    let b = inside c.args.slots.branch.now in
    let ns = along c.args.slots.branch.now in
    subst (Reached b ns c.args.slots.node c.args.slots.from c.args.slots.to) (sym c.then_some.ensures)
    (null_reach b ns c.args.slots.branch.now.sound c.args.slots.node c.args.slots.from c.args.slots.on c.args.slots.to c.same_from-c.result c.same_from-c.ensures (sym c.if-is_valid.ensures) (node_on ns c.args.slots.node).nullable refl)
