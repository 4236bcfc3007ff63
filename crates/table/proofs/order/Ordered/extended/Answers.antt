use Rattle.std.proofs.Common.{subst, sym, add-one}
use Rattle.table.specs.Table.{Rising}
use Rattle.table.proofs.Shapes.{rising_more}
use Rattle.table.proofs.order.Ordered.extended.Goals as goal

pub invariant_of-result-clause-rising : goal.invariant_of-result-clause-rising
invariant_of-result-clause-rising c =
    let ns = c.args.self.nodes.now in
    let n = c.args.self.count in
    subst (Rising ns) (sym (add-one n)) (rising_more ns n c.args.self.rising (sym c.if-not-is_next_placed.ensures))
