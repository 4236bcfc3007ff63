use Rattle.std.proofs.Common.{◌≡◌, true}
use Rattle.table.specs.Table.{each_below}
use Rattle.table.specs.Buffers.{node_held}
use Rattle.table.proofs.buffers.surveyed.Given as goal

abbrev pub invariant-loop-i : goal.invariant-loop-i
invariant-loop-i l = each_below l.i (node_held l.source) ≡ true
