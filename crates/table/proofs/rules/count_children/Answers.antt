use Rattle.std.proofs.Common.{ℕ, ◌+◌, Bool, eqb, arith}
use Rattle.table.specs.Table.{parent_of}
use Rattle.table.proofs.Counts.{many_more, many_low}
use Rattle.table.proofs.rules.count_children.Goals as goal

pub loop-node-preserved : goal.loop-node-preserved
loop-node-preserved c =
    let test : ℕ → Bool = λ j. eqb (parent_of c.args.nodes.now j) c.args.of in
    let i = c.loop-node.node-index in
    let more = many_more test i c.loop-node.count c.loop-node.invariant.1 in
    (omega (arith, c.from-count.ensures, more, many_low test (i + 1)), omega (arith, c.from-count.ensures, more))
