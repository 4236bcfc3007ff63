-- How many entries and values a range of slots has, if it meets no fault.
use Rattle.std.specs.Prelude.{ℕ, zero, suc, ◌+◌, Bool, true, false, List, [], ◌∷◌, drop, Some, None, Option}
use Rattle.table.specs.declared.leaf_path.PathNode.{PathNode}
use Rattle.table.specs.Paths.{Step, ends, passes, repeats, step_of}
use Rattle.reading.specs.Slots.{Buffers, Span, valid, span_at}
use Rattle.reading.specs.Reading.{child_slots}

-- the entries and the values
abbrev pub Size : Type 0
Size = Option (ℕ × ℕ)

infixr 60 ◌plus◌
abbrev pub ◌plus◌ : Size → Size → Size
None plus t = None
(Some x) plus None = None
(Some x) plus (Some y) = Some (x.0 + y.0, x.1 + y.1)

-- the slots a, a + 1, .. of which there are k
abbrev pub each_size : (ℕ → Size) → ℕ → ℕ → Size
each_size go zero a = Some (0, 0)
each_size go (suc k) a = go a plus each_size go k (a + 1)

-- a null is one entry, and a fault where the step is required
abbrev pub may_size : (nullable there : Bool) → Size → Size
may_size true true x = x
may_size true false x = Some (1, 0)
may_size false true x = x
may_size false false x = None

abbrev pub span_size : Span → (ℕ → ℕ → Size) → Size
span_size None go = None
span_size (Some s) go = go s.0 s.1

-- a list without elements is one entry
abbrev pub spread_size : (ℕ → Size) → ℕ → ℕ → Size
spread_size go a zero = Some (1, 0)
spread_size go a (suc k) = go a plus each_size go k (a + 1)

abbrev pub step_size : Step → (nullable there : Bool) → Span → (ℕ → Size) → ℕ → Size
step_size ends n there sp below i = may_size n there (Some (1, 1))
step_size passes n there sp below i = may_size n there (below i)
step_size (repeats s) n there sp below i = may_size n there (span_size sp (spread_size below))

-- slot i of the path ns
abbrev pub size_at : Buffers → List PathNode → ℕ → Size
size_at b [] i = Some (1, 1)
size_at b (n ∷ ns) i = step_size (step_of n n.kind) n.nullable (valid b n.validity i) (span_at b n n.kind (child_slots ns) i) (size_at b ns) i

-- so many slots of node k
abbrev pub sizes : Buffers → List PathNode → ℕ → ℕ → ℕ → Size
sizes b ns k from count = each_size (size_at b (drop k ns)) count from
