use Rattle.std.proofs.Common.{◌≡◌, true}
use Rattle.table.specs.Table.{each_below, node_fits}
use Rattle.table.proofs.rules.Table.new.Given as goal

abbrev pub invariant-loop-i : goal.invariant-loop-i
invariant-loop-i l = (l.ordered.nodes.now ≡ l.nodes) × (l.ordered.count ≡ l.i) × (each_below l.i (node_fits l.nodes) ≡ true)
