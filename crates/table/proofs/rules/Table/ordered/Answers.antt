use Rattle.table.proofs.Shapes.{holds_rising}
use Rattle.table.proofs.rules.Table.ordered.Goals as goal

pub invariant_of-result-clause-rising : goal.invariant_of-result-clause-rising
invariant_of-result-clause-rising c = holds_rising c.args.self.nodes.now c.args.self.holds
