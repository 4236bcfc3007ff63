use Rattle.std.proofs.Common.{◌∙◌, eqb, rules}
use borrow.Author.Tests.{tests}
use Rattle.std.proofs.lemmas.Iterator.Consumers.{YieldsList-from_first}
use Rattle.std.proofs.lemmas.Iterator.Search.{any_from_yields_List}
use Rattle.table.specs.Table.{line}
use Rattle.table.specs.Upward.{upward}
use Rattle.table.proofs.Upward.{any_among}
use Rattle.table.proofs.order.Ordered.is_above.Goals as goal

pub returns : goal.returns
returns c =
    any_from_yields_List (λ x. eqb x c.args.above) c.any.new.self _ _ c.any.ensures.ran (YieldsList-from_first (λ x. x) upward _ c.ancestors-upward.ensures) (λ x b q k. search (rules, tests))
    ∙ any_among c.args.above (line c.args.self.nodes.now c.args.of)
