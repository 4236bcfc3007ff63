-- What a walk over a range of rows meets, up to its first fault.
use Rattle.std.specs.Prelude.{◌≡◌, ℕ, zero, suc, ◌+◌, Bool, true, false, List, [], ◌∷◌, ◌++◌, Some, None, Ok, Err, Option}
use Rattle.rows.specs.Rows.{Entry, entry, entries, all_values}
use Rattle.table.specs.declared.refusal.Fault.{Fault}
use Rattle.table.specs.declared.leaf_path.PathNode.{PathNode}
use Rattle.table.specs.Paths.{Step, ends, passes, repeats, step_of, path}
use Rattle.reading.specs.Slots.{Buffers, Span, valid, span_at}
use Rattle.reading.specs.Reading.{null_fault, span_fault, child_slots, Reading, rows}

-- the entries and the leaf slots met, and the fault that ended it, if any
pub record Trace : Type 0 where
  pub entries : List Entry
  pub positions : List ℕ
  pub stop : Option Fault

abbrev pub whole : List Entry → List ℕ → Trace
whole es ps = record { entries = es; positions = ps; stop = None }

abbrev pub stopped : Fault → Trace
stopped e = record { entries = []; positions = []; stop = Some e }

-- one trace and then another, unless the first stopped
infixr 60 ◌then◌
abbrev pub after : Trace → Trace → Option Fault → Trace
after s t (Some e) = s
after s t None = record { entries = s.entries ++ t.entries; positions = s.positions ++ t.positions; stop = t.stop }

abbrev pub ◌then◌ : Trace → Trace → Trace
s then t = after s t s.stop

-- the slots a, a + 1, .. of which there are k
abbrev pub each_trace : (ℕ → Trace) → ℕ → ℕ → Trace
each_trace go zero a = whole [] []
each_trace go (suc k) a = go a then each_trace go k (a + 1)

-- null at any step is one entry; anything else goes on, one level up where the step is nullable
abbrev pub may_trace : (nullable there : Bool) → Fault → ℕ → ℕ → (ℕ → Trace) → Trace
may_trace true true e r d go = go (d + 1)
may_trace true false e r d go = whole (entry r d ∷ []) []
may_trace false true e r d go = go d
may_trace false false e r d go = stopped e

abbrev pub span_trace : Span → Fault → (ℕ → ℕ → Trace) → Trace
span_trace None e go = stopped e
span_trace (Some s) e go = go s.0 s.1

-- a list at the levels r and d: its first element goes on at r, the others at the list's own level
abbrev pub spread_trace : ℕ → ℕ → ℕ → (ℕ → ℕ → Trace) → ℕ → ℕ → Trace
spread_trace r d own go a zero = whole (entry r d ∷ []) []
spread_trace r d own go a (suc k) = go r a then each_trace (go own) k (a + 1)

abbrev pub step_trace : Step → (nullable there : Bool) → Fault → Fault → Span → ℕ → ℕ → ℕ → (ℕ → ℕ → ℕ → ℕ → Trace) → ℕ → Trace
step_trace ends n there e g sp own r d below i = may_trace n there e r d (λ f. whole (entry r f ∷ []) (i ∷ []))
step_trace passes n there e g sp own r d below i = may_trace n there e r d (λ f. below own r f i)
step_trace (repeats s) n there e g sp own r d below i =
    may_trace n there e r d (λ f. span_trace sp g (spread_trace r f (own + 1) (λ q j. below (own + 1) q (f + 1) j)))

-- slot i of the path ns, at the levels r and d, below `own` lists
abbrev pub trace_at : Buffers → ℕ → List PathNode → ℕ → ℕ → ℕ → ℕ → Trace
trace_at b row [] own r d i = whole (entry r d ∷ []) (i ∷ [])
trace_at b row (n ∷ ns) own r d i =
    step_trace (step_of n n.kind) n.nullable (valid b n.validity i) (null_fault n i row) (span_fault n i row) (span_at b n n.kind (child_slots ns) i) own r d (trace_at b row ns) i

-- the rows from a root slot on
abbrev pub trace : Buffers → List PathNode → ℕ → ℕ → Trace
trace b ns from count = each_trace (λ row. trace_at b row ns 0 0 0 row) count from

-- a reading and a trace of the same slots: both whole, with the same entries and positions, or both with the same fault
abbrev pub Agrees : {X : Type 0} → (X → List Entry) → (X → List ℕ) → Reading X → Trace → Type 0
Agrees es ps (Ok x) t = t ≡ whole (es x) (ps x)
Agrees es ps (Err e) t = t.stop ≡ Some e

-- the trace of a range is the striping of the rows read there, and their leaves, or stops at the fault that the reading meets first
abbrev pub TraceIsStriping : Type 0
TraceIsStriping =
    (b : Buffers) (ns : List PathNode) (from count : ℕ)
    → Agrees (λ xs. entries ℕ (path ns) xs.0) (λ xs. all_values ℕ (path ns) xs.0) (rows b ns from count) (trace b ns from count)
