use Rattle.std.proofs.Common.{sym, subst, true, ◌≡◌}
use Rattle.table.specs.Table.{table_holds}
use Rattle.table.specs.Buffers.{node_held}
use Rattle.table.proofs.Counts.{each_more}
use Rattle.table.proofs.Shapes.{holds_rising, bad_buffers}
use Rattle.table.proofs.buffers.surveyed.Goals as goal

pub is_held-requires-clause-rising : goal.is_held-requires-clause-rising
is_held-requires-clause-rising c = holds_rising c.args.source.now.nodes.now (subst (λ ns. table_holds ns ≡ true) c.in_ok-table.ensures c.in_ok-table.table.holds)

pub returns-then-not-is_held : goal.returns-then-not-is_held
returns-then-not-is_held c =
    bad_buffers c.args.source.now c.loop-i.i (subst (λ ns. table_holds ns ≡ true) c.in_ok-table.ensures c.in_ok-table.table.holds) c.loop-i-test.true c.if-not-is_held.ensures

pub loop-i-preserved : goal.loop-i-preserved
loop-i-preserved c = each_more (node_held c.args.source.now) c.loop-i.i c.loop-i.invariant (sym c.if-not-is_held.ensures)
