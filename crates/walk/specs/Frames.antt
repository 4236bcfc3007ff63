-- What frames, slots to visit and stretches stand for.
use Rattle.std.specs.Prelude.{◌≡◌, ℕ, zero, suc, ◌+◌, ◌-◌, ◌*◌, ◌<◌, ◌≤◌, List, [], ◌∷◌, length, drop, replicate, Some, None, Option, IfSome, slice_index_or}
use Rattle.std.specs.List.{range_with_len}
use Rattle.rows.specs.Rows.{entry}
use Rattle.table.specs.declared.leaf_path.PathNode.{PathNode}
use Rattle.reading.specs.Slots.{Buffers}
use Rattle.reading.specs.Reading.{node_on}
use Rattle.reading.specs.Trace.{Trace, whole, ◌then◌, each_trace, trace_at}
use Rattle.walk.specs.declared.visit.Visit.{Visit}
use Rattle.walk.specs.declared.visit.Frame.{Frame}
use Rattle.walk.specs.declared.visit.Stretch.{Stretch}

-- a slot to visit, below so many lists
abbrev pub visit_trace : Buffers → List PathNode → ℕ → ℕ → Visit → Trace
visit_trace b ns row own v = trace_at b row (drop v.node ns) own v.rep v.def v.slot

pub record VisitIn (ns : List PathNode) (own : ℕ) (v : Visit) : Type 0 where
  pub under : own ≤ v.node
  pub node : v.node < length ns
  pub slot : v.slot < (node_on ns v.node).slots
  pub rep : v.rep ≤ 8
  pub def : v.def ≤ 2 * v.node

-- the elements of a list that are still to come, below so many lists with that one
abbrev pub elements_trace : Buffers → List PathNode → ℕ → ℕ → ℕ → ℕ → ℕ → ℕ → Trace
elements_trace b ns row own k d from count = each_trace (λ j. trace_at b row (drop k ns) own own d j) count from

abbrev pub unused : Frame
unused = record { node = 0; next = 0; end = 0; def = 0 }

-- the last frame is that of the innermost list
abbrev pub innermost : List Frame → Frame
innermost fs = slice_index_or fs (length fs - 1) unused

-- the frame number f, below f lists, has elements of the next one left
abbrev pub frame_trace : Buffers → List PathNode → ℕ → ℕ → Frame → Trace
frame_trace b ns row f x = elements_trace b ns row (f + 1) x.node x.def x.next (x.end - x.next)

-- the first so many frames, the innermost first
abbrev pub left : Buffers → List PathNode → ℕ → List Frame → ℕ → Trace
left b ns row fs zero = whole [] []
left b ns row fs (suc f) = frame_trace b ns row f (slice_index_or fs f unused) then left b ns row fs f

pub record FrameIn (ns : List PathNode) (f : ℕ) (x : Frame) : Type 0 where
  pub under : f < x.node
  pub node : x.node < length ns
  pub order : x.next ≤ x.end
  pub slots : x.end ≤ (node_on ns x.node).slots
  pub def : x.def ≤ 2 * x.node

abbrev pub FramesIn : List PathNode → List Frame → Type 0
FramesIn ns fs = (f : ℕ) → f < length fs → FrameIn ns f (slice_index_or fs f unused)

-- the levels below at most eight nodes
pub record StretchIn (s : Stretch) : Type 0 where
  pub some : 0 < s.count
  pub rep : s.rep ≤ 8
  pub def : s.def ≤ 16

-- the leaf slots from a first one on, if they are present
abbrev pub slots_from : Option ℕ → ℕ → List ℕ
slots_from None count = []
slots_from (Some first) count = range_with_len first count

-- a leaf slot, if it is present as the first one is
abbrev pub slot_like : Option ℕ → ℕ → List ℕ
slot_like None j = []
slot_like (Some first) j = j ∷ []

-- what a stretch stands for
abbrev pub emitted : Stretch → Trace
emitted s = whole (replicate s.count (entry s.rep s.def)) (slots_from s.first s.count)

-- a frame with slots left
pub record Open (ns : List PathNode) (x : Frame) : Type 0 where
  pub node : x.node < length ns
  pub some : x.next < x.end
  pub slots : x.end ≤ (node_on ns x.node).slots
  pub def : x.def ≤ 2 * x.node

-- slot j of a frame
abbrev pub visit_of : ℕ → Frame → ℕ → Visit
visit_of own x j = record { node = x.node; slot = j; rep = own; def = x.def }

-- a frame past so many elements
abbrev pub passed : Frame → ℕ → Frame
passed x count = record { node = x.node; next = x.next + count; end = x.end; def = x.def }

-- the first slots of a frame, one entry each and all alike
pub record Alike (b : Buffers) (ns : List PathNode) (own : ℕ) (x : Frame) (s : Stretch) : Type 0 where
  pub rep : s.rep ≡ own
  pub first : IfSome s.first (λ slot. slot ≡ x.next)
  pub each : (row j : ℕ) → x.next ≤ j → j < x.next + s.count → visit_trace b ns row own (visit_of own x j) ≡ whole (entry own s.def ∷ []) (slot_like s.first j)
  pub inside : x.next + s.count ≤ x.end
