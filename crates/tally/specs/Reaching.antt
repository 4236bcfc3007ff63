-- Neighbouring slots by the slots below them.
use Rattle.std.specs.Prelude.{◌≡◌, ℕ, zero, suc, ◌+◌, ◌-◌, ◌*◌, ◌<◌, ◌≤◌, Bool, true, cond, ◌&&◌, List, [], ◌∷◌, length, ℤ, pos, Some, None, Option, ◌==◌, slice_index_or, unsigned_abs}
use Rattle.rows.specs.Rows.{one}
use Rattle.table.specs.declared.node.Kind.{Kind}
use Rattle.table.specs.declared.leaf_path.PathNode.{PathNode}
use Rattle.table.specs.Paths.{Step, ends, passes, repeats, step_of}
use Rattle.reading.specs.Slots.{Buffers, valid}
use Rattle.reading.specs.Reading.{node_on}
use Rattle.reading.specs.Along.{inside, along}
use Rattle.tally.specs.declared.range.SlotRange.{SlotRange}
use Rattle.tally.specs.declared.reach.Reach.{Reach}
use Rattle.reading.specs.Packed.{packed}
use Rattle.tally.specs.Sizes.{◌plus◌, size_at, sizes}

-- whether slot i has a value below it, where only structs lie above the leaf
abbrev pub holds_by : Step → Bool → Bool → Bool
holds_by ends there below = there
holds_by passes there below = there && below
holds_by (repeats s) there below = there && below

abbrev pub holds : Buffers → List PathNode → ℕ → Bool
holds b [] i = true
holds b (n ∷ ns) i = holds_by (step_of n n.kind) (valid b n.validity i) (holds b ns i)

-- of the slots that pass a test, those that hold a value; each is one entry
pub record Holding (b : Buffers) (ns : List PathNode) (i count : ℕ) (test : ℕ → Bool) (out : ℕ) : Type 0 where
  pub digits : out ≡ packed (λ j. test j && holds b ns j) count i
  pub size : (j : ℕ) → i ≤ j → j < i + count → test j ≡ true → size_at b ns j ≡ Some (1, one (holds b ns j))

abbrev pub HeldBelow : Buffers → List PathNode → ℕ → ℕ → ℕ → Option ℕ → Type 0
HeldBelow b ns i count live None = Unit {0}
HeldBelow b ns i count live (Some out) = (test : ℕ → Bool) → live ≡ packed test count i → Holding b ns i count test out

-- slots of node k whose size is that of a range of child slots, and some entries more
pub record Reaches (b : Buffers) (ns : List PathNode) (k from end : ℕ) (x : Reach) : Type 0 where
  pub some : 0 < x.slots
  pub inside : from + x.slots ≤ end
  pub order : x.from ≤ x.to
  pub child : x.from < x.to → (k + 1 < length ns) × (x.to ≤ (node_on ns (k + 1)).slots)
  pub size : sizes b ns k from x.slots ≡ Some (x.bare, 0) plus sizes b ns (k + 1) x.from (x.to - x.from)

abbrev pub Reached : Buffers → List PathNode → ℕ → ℕ → ℕ → Option Reach → Type 0
Reached b ns k from end None = Unit {0}
Reached b ns k from end (Some x) = Reaches b ns k from end x

abbrev pub ReachedIn : SlotRange → Option Reach → Type 0
ReachedIn s r = Reached (inside s.branch.now) (along s.branch.now) s.node s.from s.to r

-- c slots from `from` on are valid
abbrev pub AllValid : Buffers → PathNode → ℕ → ℕ → Type 0
AllValid b n from c = (j : ℕ) → from ≤ j → j < from + c → valid b n.validity j ≡ true

-- an offset, where it is not below zero
abbrev pub place_at : List ℤ → ℕ → ℕ
place_at os j = unsigned_abs (slice_index_or os j (pos 0))

-- how many of c lists, by their offsets, are empty
abbrev pub empties : List ℤ → ℕ → ℕ → ℕ
empties os zero at = 0
empties os (suc c) at = one (place_at os at == place_at os (at + 1)) + empties os c (at + 1)

-- the offsets of c lists, which rise
pub record Rises (os : List ℤ) (at c : ℕ) : Type 0 where
  pub whole : (j : ℕ) → at ≤ j → j ≤ at + c → slice_index_or os j (pos 0) ≡ pos (place_at os j)
  pub up : (j : ℕ) → at ≤ j → j < at + c → place_at os j ≤ place_at os (j + 1)

-- c lists between c + 1 rising offsets, as one range below them
pub record Rising (os : List ℤ) (c most : ℕ) (x : Reach) : Type 0 where
  pub slots : x.slots ≡ c
  pub starts : x.from ≡ place_at os 0
  pub ends : x.to ≡ place_at os c
  pub within : x.to ≤ most
  pub order : x.from ≤ x.to
  pub rises : Rises os 0 c
  pub bare : x.bare ≡ empties os c 0

abbrev pub Rose : List ℤ → ℕ → Option Reach → Type 0
Rose os most None = Unit {0}
Rose os most (Some x) = Rising os (length os - 1) most x

-- c lists of one size, as one range below them
pub record SizedAlike (size from c most : ℕ) (x : Reach) : Type 0 where
  pub slots : x.slots ≡ c
  pub starts : x.from ≡ from * size
  pub ends : x.to ≡ (from + c) * size
  pub within : x.to ≤ most
  pub bare : x.bare ≡ cond (size == 0) c 0

abbrev pub SameSized : ℕ → ℕ → ℕ → ℕ → Option Reach → Type 0
SameSized size from c most None = Unit {0}
SameSized size from c most (Some x) = SizedAlike size from c most x

-- a kind that repeats
abbrev pub Repeats : Kind → Type 0
Repeats Kind.Leaf = ⊥
Repeats Kind.Struct = ⊥
Repeats Kind.List = Unit {0}
Repeats Kind.LargeList = Unit {0}
Repeats Kind.FixedSizeList = Unit {0}
Repeats Kind.ListView = Unit {0}
Repeats Kind.LargeListView = Unit {0}
