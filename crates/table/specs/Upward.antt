-- The nodes that a walk up from a node still meets.
use Rattle.std.specs.Prelude.{ℕ, List, [], Some, None, Option, reverse}
use Rattle.table.specs.declared.node.Node.{Node}
use Rattle.table.specs.declared.order.Ancestors.{Ancestors}
use Rattle.table.specs.Table.{line}

-- a node and its ancestors, from it up to the root
abbrev pub upward_from : List Node → Option ℕ → List ℕ
upward_from ns None = []
upward_from ns (Some i) = reverse (line ns i)

abbrev pub upward : Ancestors → List ℕ
upward a = upward_from a.ordered.nodes.now a.next
