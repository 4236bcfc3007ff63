use Rattle.table.proofs.Paths.{Counting}
use Rattle.table.proofs.leaf_path.greatest_levels.Given as goal

abbrev pub invariant-loop-node : goal.invariant-loop-node
invariant-loop-node l = Counting l.path l.node-index l.definition l.repetition
