use Rattle.std.proofs.Common.{◌≡◌, ◌≤◌, eqb}
use Rattle.table.specs.Table.{how_many, parent_of}
use Rattle.table.proofs.rules.count_children.Given as goal

abbrev pub invariant-loop-node : goal.invariant-loop-node
invariant-loop-node l = (l.count ≤ l.node-index) × (l.count ≡ how_many l.node-index (λ j. eqb (parent_of l.nodes j) l.of))
