-- The buffers and the nodes of a branch, and the slots of a list over its validity.
use Rattle.std.specs.Prelude.{ℕ, List}
use Rattle.table.specs.declared.leaf_path.PathNode.{PathNode}
use Rattle.reading.specs.declared.branch.Branch.{Branch}
use Rattle.reading.specs.declared.slot.Slot.{Slot}
use Rattle.reading.specs.declared.validity.Validity.{Validity}
use Rattle.reading.specs.Bits.{valid_in}
use Rattle.reading.specs.Slots.{Buffers, buffers, Span, slots_by}

abbrev pub inside : Branch → Buffers
inside b = buffers b.validity.now b.offsets32.now b.offsets64.now

abbrev pub along : Branch → List PathNode
along b = b.nodes.now

abbrev pub slots_with : Validity → (ℕ → Span) → List Slot
slots_with v spans = slots_by (valid_in v.bytes.now v.start) v.slots spans
