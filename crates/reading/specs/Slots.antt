-- What the slots of lists hold: where their elements stand in the list's child.
use Rattle.std.specs.Prelude.{ℕ, zero, suc, ◌+◌, ◌*◌, ◌^◌, ◌<◌, ◌≤◌, Bool, cond, List, map, length, ℤ, pos, negsuc, ◌-ℤ◌, Some, None, Option, ◌==◌, nat_le, slice_index_or}
use Rattle.std.specs.List.{range_with_len}
use Rattle.table.specs.declared.node.Kind.{Kind}
use Rattle.table.specs.declared.node.Source.{Source}
use Rattle.table.specs.declared.leaf_path.PathNode.{PathNode}
use Rattle.reading.specs.declared.slot.Slot.{Slot}
use Rattle.reading.specs.Bits.{valid_in, BitsIn}

-- the buffers that every node reads: validity bytes, and offsets of either width
pub record Buffers : Type 0 where
  pub bytes : List ℕ
  pub narrow : List ℤ
  pub wide : List ℤ

abbrev pub buffers : List ℕ → List ℤ → List ℤ → Buffers
buffers bytes narrow wide = record { bytes = bytes; narrow = narrow; wide = wide }

abbrev pub held_by : Source → Buffers
held_by s = buffers s.validity.now s.offsets32.now s.offsets64.now

abbrev pub valid : Buffers → Option ℕ → ℕ → Bool
valid b start i = valid_in b.bytes start i

-- the elements of one slot: their first place in the child and how many they are; none where the span is wrong
abbrev pub Span : Type 0
Span = Option (ℕ × ℕ)

-- a span past its child is wrong
abbrev pub within : ℕ → ℕ → ℕ → Span
within most from count = cond (nat_le (from + count) most) (Some (from, count)) None

-- so is one that is negative or falling; one without elements is empty, wherever it stands
abbrev pub span : ℕ → ℤ → ℤ → Span
span most from (pos zero) = Some (0, 0)
span most (pos a) (pos (suc k)) = within most a (suc k)
span most (negsuc a) (pos (suc k)) = None
span most from (negsuc k) = None

-- an offset list goes from one offset to the next, a view has an offset and a size
abbrev pub listed : ℕ → List ℤ → ℕ → Span
listed most offsets at = span most (slice_index_or offsets at (pos 0)) (slice_index_or offsets (at + 1) (pos 0) -ℤ slice_index_or offsets at (pos 0))

abbrev pub viewed : ℕ → List ℤ → ℕ → ℕ → Span
viewed most offsets at size = span most (slice_index_or offsets at (pos 0)) (slice_index_or offsets size (pos 0))

-- the elements of slot i of a valid list, over a child of so many slots
abbrev pub span_at : Buffers → PathNode → Kind → ℕ → ℕ → Span
span_at b n Kind.Leaf most i = None
span_at b n Kind.Struct most i = None
span_at b n Kind.List most i = listed most b.narrow (n.offsets + i)
span_at b n Kind.LargeList most i = listed most b.wide (n.offsets + i)
span_at b n Kind.FixedSizeList most i = within most (i * n.size) n.size
span_at b n Kind.ListView most i = viewed most b.narrow (n.offsets + i) (n.sizes + i)
span_at b n Kind.LargeListView most i = viewed most b.wide (n.offsets + i) (n.sizes + i)

-- a slot that holds something has its first place and the place after its last
abbrev pub held : Span → Slot
held None = Slot.Wrong
held (Some s) = cond (s.1 == 0) Slot.Empty (Slot.Spanned (s.0, s.0 + s.1))

-- validity is looked at first
abbrev pub slot_by : (ℕ → Bool) → (ℕ → Span) → ℕ → Slot
slot_by there spans i = cond (there i) (held (spans i)) Slot.Null

-- so many slots of a list, one after the other
abbrev pub slots_by : (ℕ → Bool) → ℕ → (ℕ → Span) → List Slot
slots_by there count spans = map (slot_by there spans) (range_with_len 0 count)

abbrev pub slot_at : Buffers → PathNode → ℕ → ℕ → Slot
slot_at b n most i = slot_by (valid b n.validity) (span_at b n n.kind most) i

-- the numbers of a node's slots are in the buffers
abbrev pub SpansIn : Buffers → PathNode → Kind → Type 0
SpansIn b n Kind.Leaf = Unit {0}
SpansIn b n Kind.Struct = Unit {0}
SpansIn b n Kind.List = n.offsets + n.slots < length b.narrow
SpansIn b n Kind.LargeList = n.offsets + n.slots < length b.wide
SpansIn b n Kind.FixedSizeList = n.slots * n.size < 2 ^ 64
SpansIn b n Kind.ListView = (n.offsets + n.slots ≤ length b.narrow) × (n.sizes + n.slots ≤ length b.narrow)
SpansIn b n Kind.LargeListView = (n.offsets + n.slots ≤ length b.wide) × (n.sizes + n.slots ≤ length b.wide)

-- what reading a node's slots asks of the buffers
abbrev pub NodeIn : Buffers → PathNode → Type 0
NodeIn b n = BitsIn b.bytes n.slots n.validity × SpansIn b n n.kind
