use Rattle.std.proofs.Common.{Bool, eqb, ◌∙◌, rules}
use borrow.Author.Tests.{tests}
use Rattle.std.proofs.lemmas.Iterator.{YieldsList-from_slice}
use Rattle.std.proofs.lemmas.Iterator.Consumers.{YieldsList-from_filter, count_from_yields_List}
use Rattle.table.specs.declared.node.Node.{Node}
use Rattle.table.proofs.Counts.{many_nodes}
use Rattle.table.proofs.rules.count_leaves.Goals as goal

pub returns : goal.returns
returns c =
    let test : Node → Bool = λ node. eqb node.kind 0 in
    count_from_yields_List c.filter.result c.count.result c.count.ensures.ran
    (YieldsList-from_filter _ test (YieldsList-from_slice c.args.nodes.now cc) c.filter.ensures.closure (λ x b q k. search (rules, tests)))
    ∙ many_nodes test c.args.nodes.now
