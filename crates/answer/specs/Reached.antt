-- Which node a refusal speaks of. Assumes nothing.
use Rattle.std.specs.Prelude.{ℕ, Some, None, Option}
use Rattle.table.specs.declared.refusal.Refusal.{Refusal}
use Rattle.table.specs.declared.refusal.Refusal.TheVariants.{Table, Buffers, NotALeaf, RowRange, Reached, TooManyEntries}

-- the node of the place that a walk reached; no other refusal has a place
abbrev pub reached_node : Refusal → Option ℕ
reached_node (Reached fault) = Some fault.node
reached_node Table = None
reached_node Buffers = None
reached_node NotALeaf = None
reached_node RowRange = None
reached_node TooManyEntries = None
