-- What the parts of an accepted statement are. Assumes nothing.
use Rattle.std.specs.Prelude.{◌≡◌, ℕ, Bool, true, List, [], ◌∷◌, Some, None, Ok, Err, vec_items, string_bytes, codes, Option, Result}
use Rattle.std.specs.Borrow.{Bor}
use Rattle.std.specs.Fn.{Shared, FnReturnsAt}
use Rattle.line_fault.specs.declared.Key.{Key}
use Rattle.line_fault.specs.declared.Key.TheVariants.{Leaf, Rows, Parent, Slots, Size, Validity, Offsets, Sizes, Name, Offset}
use Rattle.line_fault.specs.declared.LineFault.{LineFault}
use Rattle.line_fault.specs.declared.LineFault.TheVariants.{Missing}
use Rattle.words.specs.Words.{same}
use Rattle.part.specs.Reads.{Unsigned, Signed, ByteRead, RangeRead, KindRead, kind_named, NullabilityRead}
use Rattle.keyed.specs.Keyed.{values, Part, Optional, Named, misplaced}
use Rattle.statement.specs.declared.Action.{Action}
use Rattle.statement.specs.declared.Action.TheVariants.{Survey, Measure}
use Rattle.statement.specs.declared.NamedNode.{NamedNode}
use Rattle.statement.specs.declared.Statement.{Statement}
use Rattle.statement.specs.declared.Statement.TheVariants as said
use Rattle.table.specs.declared.Node.{Node}

-- leaf and rows are what their words say, each stands once, and no other word does
abbrev pub MeasureRead : List (List ℕ) → Action → Type 0
MeasureRead ws Survey = ⊥
MeasureRead ws (Measure leaf rows) = (misplaced (Leaf ∷ Rows ∷ []) 1 ws ≡ None) × Part (Unsigned 64 Leaf) (Err (Missing Leaf)) Leaf (values Leaf ws) (Ok leaf) × Part (RangeRead Rows) (Err (Missing Rows)) Rows (values Rows ws) (Ok rows)

-- each part of a node is what its word says, or what it is where no word gives it
pub record NodeRead (kind : ℕ) (nullable : Bool) (ws : List (List ℕ)) (node : Node) : Type 0 where
  pub its_kind : node.kind ≡ kind
  pub its_nullable : node.nullable ≡ nullable
  pub its_parent : Part (Unsigned 8 Parent) (Ok 255) Parent (values Parent ws) (Ok node.parent)
  pub its_slots : Part (Unsigned 32 Slots) (Ok 0) Slots (values Slots ws) (Ok node.slots)
  pub its_size : Part (Unsigned 32 Size) (Ok 0) Size (values Size ws) (Ok node.size)
  pub its_validity : Part (Optional (Unsigned 64 Validity)) (Ok None) Validity (values Validity ws) (Ok node.validity)
  pub its_offsets : Part (Unsigned 64 Offsets) (Ok 0) Offsets (values Offsets ws) (Ok node.offsets)
  pub its_sizes : Part (Unsigned 64 Sizes) (Ok 0) Sizes (values Sizes ws) (Ok node.sizes)

-- the keys of a node's parts
abbrev pub node_keys : List Key
node_keys = Parent ∷ Slots ∷ Size ∷ Validity ∷ Offsets ∷ Sizes ∷ Name ∷ []

-- kind and nullability come first, then the parts, in any order; the name is its word's value, byte for byte
abbrev pub NodeSays : List (List ℕ) → NamedNode → Type 0
NodeSays [] n = ⊥
NodeSays (kind ∷ []) n = ⊥
NodeSays (kind ∷ nullable ∷ ws) n = (k : ℕ) × (b : Bool) × KindRead (kind_named kind) kind (Ok k) × NullabilityRead nullable (Ok b) × (misplaced node_keys 3 ws ≡ None) × NodeRead k b ws n.node × Named string_bytes (values Name ws) n.name

abbrev pub ActionSays : List ℕ → List (List ℕ) → Action → Type 0
ActionSays first ws Survey = (same first (codes "survey") ≡ true) × (ws ≡ [])
ActionSays first ws (Measure leaf rows) = (same first (codes "measure") ≡ true) × MeasureRead ws (Measure leaf rows)

-- each word says one item, in their order
abbrev pub Each : {X : Type 0} → (List ℕ → Result X LineFault → Type 0) → List (List ℕ) → List X → Type 0
Each means [] [] = ⊥ → ⊥
Each means [] (x ∷ xs) = ⊥
Each means (w ∷ ws) [] = ⊥
Each means (w ∷ ws) (x ∷ xs) = means w (Ok x) × Each means ws xs

-- each word says the item that `read` may give of it
pub record ReadsEach {F X : Type 0} (g : Shared F (Bor (List ℕ) × Unit {0}) (Result X LineFault)) (read : F) (ws : List (List ℕ)) (xs : List X) : Type 0 where
  pub items : Each (FnReturnsAt g read) ws xs

-- the first word tells the statement, and those behind it what it holds
abbrev pub Says : List ℕ → List (List ℕ) → Statement → Type 0
Says first ws (said.Node n) = (same first (codes "node") ≡ true) × NodeSays ws n
Says first ws (said.Validity v) = (same first (codes "validity") ≡ true) × Each ByteRead ws (vec_items v)
Says first ws (said.Offsets32 v) = (same first (codes "offsets32") ≡ true) × Each (Signed 32 Offset) ws (vec_items v)
Says first ws (said.Offsets64 v) = (same first (codes "offsets64") ≡ true) × Each (Signed 64 Offset) ws (vec_items v)
Says first ws said.Clear = (same first (codes "clear") ≡ true) × (ws ≡ [])
Says first ws (said.Do a) = ActionSays first ws a

-- a line that is read says nothing just where it has no words
abbrev pub LineSays : List (List ℕ) → Option Statement → Type 0
LineSays [] None = ⊥ → ⊥
LineSays [] (Some s) = ⊥
LineSays (first ∷ ws) None = ⊥
LineSays (first ∷ ws) (Some s) = Says first ws s
