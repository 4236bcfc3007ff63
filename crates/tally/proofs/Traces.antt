-- What the size of a range of slots says of their trace.
use Rattle.std.proofs.Common.{◌≡◌, ℕ, zero, suc, ◌+◌, Bool, true, false, List, [], ◌∷◌, ◌++◌, length, ◌-◌, drop, Some, None, Option, sym, refl, ap, ◌∙◌, subst, ap₂}
use Rattle.std.proofs.lemmas.List.{length-append}
use Rattle.rows.specs.Rows.{entry}
use Rattle.table.specs.declared.refusal.Fault.{Fault}
use Rattle.table.specs.declared.leaf_path.PathNode.{PathNode}
use Rattle.table.specs.Paths.{Step, ends, passes, repeats, step_of}
use Rattle.reading.specs.Slots.{Buffers, Span, valid, span_at}
use Rattle.reading.specs.Reading.{null_fault, span_fault, child_slots}
use Rattle.reading.specs.Trace.{Trace, whole, after, ◌then◌, each_trace, may_trace, span_trace, spread_trace, step_trace, trace_at, trace}
use Rattle.tally.specs.declared.measured.Measured.{Measured}
use Rattle.tally.specs.Sizes.{Size, ◌plus◌, each_size, may_size, span_size, spread_size, step_size, size_at}
use Rattle.reading.specs.Along.{inside, along}
use Rattle.tally.specs.declared.range.SlotRange.{SlotRange}
use Rattle.tally.specs.Answer.{slots_trace, Tallied, SizedIn}

-- a trace of that size
abbrev pub OfSize : Trace → Size → Type 0
OfSize t None = Unit {0}
OfSize t (Some x) = (t.stop ≡ None) × (length t.entries ≡ x.0) × (length t.positions ≡ x.1)

after_none : (s t : Trace) (o : Option Fault) → o ≡ None → after s t o ≡ record { entries = s.entries ++ t.entries; positions = s.positions ++ t.positions; stop = t.stop }
after_none s t o e = ap (λ p. after s t p) e

then_size : (s t : Trace) (x y : Size) → OfSize s x → OfSize t y → OfSize (s then t) (x plus y)
then_size s t None y h g = tt
then_size s t (Some x) None h g = tt
then_size s t (Some x) (Some y) h g =
    subst (λ u. OfSize u (Some (x.0 + y.0, x.1 + y.1))) (sym (after_none s t s.stop h.0)) (
      g.0,
      length-append s.entries t.entries ∙ ap₂ (λ a b. a + b) h.1 g.1,
      length-append s.positions t.positions ∙ ap₂ (λ a b. a + b) h.2 g.2,
    )

each_of : (go : ℕ → Trace) (f : ℕ → Size) → ((j : ℕ) → OfSize (go j) (f j)) → (k a : ℕ) → OfSize (each_trace go k a) (each_size f k a)
each_of go f h zero a = (refl, refl, refl)
each_of go f h (suc k) a = then_size (go a) (each_trace go k (a + 1)) (f a) (each_size f k (a + 1)) (h a) (each_of go f h k (a + 1))

may_of : (n there : Bool) (e : Fault) (r d : ℕ) (go : ℕ → Trace) (x : Size) → ((f : ℕ) → OfSize (go f) x) → OfSize (may_trace n there e r d go) (may_size n there x)
may_of true true e r d go x h = h (d + 1)
may_of true false e r d go x h = (refl, refl, refl)
may_of false true e r d go x h = h d
may_of false false e r d go x h = tt

spread_of : (r d own : ℕ) (go : ℕ → ℕ → Trace) (f : ℕ → Size) → ((q j : ℕ) → OfSize (go q j) (f j)) → (a c : ℕ) → OfSize (spread_trace r d own go a c) (spread_size f a c)
spread_of r d own go f h a zero = (refl, refl, refl)
spread_of r d own go f h a (suc k) = then_size (go r a) (each_trace (go own) k (a + 1)) (f a) (each_size f k (a + 1)) (h r a) (each_of (go own) f (h own) k (a + 1))

span_of : (sp : Span) (e : Fault) (go : ℕ → ℕ → Trace) (f : ℕ → ℕ → Size) → ((a c : ℕ) → OfSize (go a c) (f a c)) → OfSize (span_trace sp e go) (span_size sp f)
span_of None e go f h = tt
span_of (Some s) e go f h = h s.0 s.1

step_of_size : (s : Step) (n there : Bool) (e x : Fault) (sp : Span) (own r d : ℕ) (go : ℕ → ℕ → ℕ → ℕ → Trace) (f : ℕ → Size) → ((o q g j : ℕ) → OfSize (go o q g j) (f j)) → (i : ℕ) →
    OfSize (step_trace s n there e x sp own r d go i) (step_size s n there sp f i)
step_of_size ends n there e x sp own r d go f h i = may_of n there e r d (λ g. whole (entry r g ∷ []) (i ∷ [])) (Some (1, 1)) (λ g. (refl, refl, refl))
step_of_size passes n there e x sp own r d go f h i = may_of n there e r d (λ g. go own r g i) (f i) (λ g. h own r g i)
step_of_size (repeats s) n there e x sp own r d go f h i =
    may_of n there e r d (λ g. span_trace sp x (spread_trace r g (own + 1) (λ q j. go (own + 1) q (g + 1) j))) (span_size sp (spread_size f)) (λ g.
    span_of sp x (spread_trace r g (own + 1) (λ q j. go (own + 1) q (g + 1) j)) (spread_size f) (λ a c. spread_of r g (own + 1) (λ q j. go (own + 1) q (g + 1) j) f (λ q j. h (own + 1) q (g + 1) j) a c))

slot_of_size : (b : Buffers) (row : ℕ) (ns : List PathNode) (own r d i : ℕ) → OfSize (trace_at b row ns own r d i) (size_at b ns i)
slot_of_size b row [] own r d i = (refl, refl, refl)
slot_of_size b row (n ∷ ns) own r d i =
    step_of_size (step_of n n.kind) n.nullable (valid b n.validity i) (null_fault n i row) (span_fault n i row) (span_at b n n.kind (child_slots ns) i) own r d (trace_at b row ns) (size_at b ns) (λ o q g j. slot_of_size b row ns o q g j) i

trace_of_size : (b : Buffers) (ns : List PathNode) (from count : ℕ) → OfSize (trace b ns from count) (each_size (size_at b ns) count from)
trace_of_size b ns from count = each_of (λ row. trace_at b row ns 0 0 0 row) (size_at b ns) (λ row. slot_of_size b row ns 0 0 0 row) count from

-- a size of some slots is a tally of their trace
pub tallied : (s : SlotRange) (r : Option Measured) → SizedIn s r → Tallied (slots_trace s) r
tallied s None h = tt
tallied s (Some x) h =
    let t = subst (OfSize (slots_trace s)) h.0 (trace_of_size (inside s.branch.now) (drop s.node (along s.branch.now)) s.from (s.to - s.from)) in
    (t.0, sym t.1, sym t.2, h.1)
