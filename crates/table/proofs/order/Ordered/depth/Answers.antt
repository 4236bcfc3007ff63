use Rattle.std.proofs.Common.{◌∙◌, ap, length, inl, arith}
use Rattle.std.proofs.lemmas.List.{length-reverse}
use Rattle.std.proofs.lemmas.Iterator.Consumers.{YieldsList-from_first, count_from_yields_List}
use Rattle.table.specs.Table.{line}
use Rattle.table.specs.Upward.{upward}
use Rattle.table.proofs.Upward.{upward_short}
use Rattle.table.proofs.order.Ordered.depth.Goals as goal

pub count-requires-clause-fits : goal.count-requires-clause-fits
count-requires-clause-fits c =
    inl (omega (arith, ap length c.ancestors.ensures, upward_short c.args.self.nodes.now c.args.self.count c.args.of c.requires c.args.self.rising, c.ranges.of.fits))

pub returns : goal.returns
returns c =
    count_from_yields_List c.ancestors.result c.count.result c.count.ensures.ran (YieldsList-from_first (λ x. x) upward _ c.ancestors.ensures)
    ∙ length-reverse (line c.args.self.nodes.now c.args.of)
