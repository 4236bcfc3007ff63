-- What a path of nodes over the buffers reads as: at each slot of its first node, a row or the first fault in visiting order.
use Rattle.std.specs.Prelude.{◌≡◌, ℕ, zero, suc, ◌+◌, Bool, true, false, List, [], ◌∷◌, length, Some, None, Ok, Err, Option, Result, slice_index_or, refl}
use Rattle.std.proofs.Common.{ap}
use Rattle.rows.specs.Rows.{Path, May, Elements, Row}
use Rattle.table.specs.declared.refusal.Cause.{Cause}
use Rattle.table.specs.declared.refusal.Fault.{Fault}
use Rattle.table.specs.declared.leaf_path.PathNode.{PathNode}
use Rattle.table.specs.Paths.{Step, ends, passes, repeats, step_of, above, path, no_path_node}
use Rattle.reading.specs.Slots.{Buffers, Span, valid, span_at}

-- a null in a required node, and a wrong span, each with node, slot and row
abbrev pub null_fault : PathNode → ℕ → ℕ → Fault
null_fault n i row = record { cause = Cause.RequiredNull; node = n.number; slot = i; row = row }

abbrev pub span_fault : PathNode → ℕ → ℕ → Fault
span_fault n i row = record { cause = Cause.WrongSpan; node = n.number; slot = i; row = row }

-- how many slots the next node of a path has
abbrev pub child_slots : List PathNode → ℕ
child_slots [] = 0
child_slots (n ∷ ns) = n.slots

abbrev pub Reading : Type 0 → Type 0
Reading X = Result X Fault

abbrev pub map_read : {X Y : Type 0} → (X → Y) → Reading X → Reading Y
map_read f (Ok x) = Ok (f x)
map_read f (Err e) = Err e

abbrev pub then_read : {X Y : Type 0} → Reading X → (X → Reading Y) → Reading Y
then_read (Ok x) f = f x
then_read (Err e) f = Err e

abbrev pub Sized : Type 0 → ℕ → Type 0
Sized X k = (xs : List X) × (length xs ≡ k)

-- so many readings in a row
abbrev pub reads : {X : Type 0} → (ℕ → Reading X) → (k : ℕ) → ℕ → Reading (Sized X k)
reads f zero a = Ok ([], refl)
reads f (suc k) a = then_read (f a) (λ x. map_read (λ xs. (x ∷ xs.0, ap suc xs.1)) (reads f k (a + 1)))

-- a slot that may be null: a null is a fault where the node is required
abbrev pub may_read : {X : Type 0} (nullable there : Bool) → Fault → Reading X → Reading (May nullable X)
may_read true true e x = map_read Some x
may_read true false e x = Ok None
may_read false true e x = x
may_read false false e x = Err e

-- a wrong span is a fault
abbrev pub span_read : {X : Type 0} → Span → Fault → (ℕ → ℕ → Reading X) → Reading X
span_read None e f = Err e
span_read (Some s) e f = f s.0 s.1

-- the elements of a span; of a fixed-size list they are always as many
abbrev pub elements_read : {X : Type 0} (s : Option ℕ) → (ℕ → Reading X) → ℕ → ℕ → Reading (Elements s X)
elements_read None f from count = map_read (λ xs. xs.0) (reads f count from)
elements_read (Some k) f from count = reads f k from

-- one step at slot i, with its two faults, by what the step below reads as
abbrev pub step_read : (s : Step) (nullable there : Bool) → Fault → Fault → Span → (p : Path) → (ℕ → Reading (Row ℕ p)) → ℕ → Reading (Row ℕ (above s nullable p))
step_read ends n there e g sp p below i = may_read n there e (Ok i)
step_read passes n there e g sp p below i = may_read n there e (below i)
step_read (repeats s) n there e g sp p below i = may_read n there e (span_read sp g (elements_read s below))

-- the row at slot i of the path ns, whose leaves hold their slot numbers, or the first fault met
abbrev pub read : Buffers → ℕ → (ns : List PathNode) → ℕ → Reading (Row ℕ (path ns))
read b row [] i = Ok i
read b row (n ∷ ns) i =
    step_read (step_of n n.kind) n.nullable (valid b n.validity i) (null_fault n i row) (span_fault n i row) (span_at b n n.kind (child_slots ns) i) (path ns) (read b row ns) i

-- the rows from a root slot on
abbrev pub rows : Buffers → (ns : List PathNode) → ℕ → (count : ℕ) → Reading (Sized (Row ℕ (path ns)) count)
rows b ns from count = reads (λ row. read b row ns row) count from

-- node number k of a path
abbrev pub node_on : List PathNode → ℕ → PathNode
node_on ns k = slice_index_or ns k no_path_node
