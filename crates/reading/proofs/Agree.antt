-- The trace of a slot is the striping of the row read there.
use Rattle.std.proofs.Common.{◌≡◌, ℕ, zero, suc, ◌+◌, ◌*◌, Bool, true, false, cond, leb, List, [], ◌∷◌, ◌++◌, Some, None, Ok, Err, Option, sym, refl, ap, ◌∙◌, subst, ap₂}
use Rattle.rows.specs.Rows.{Path, Row, items, Entry, entry, stripe, each, may, spread, kept, values}
use Rattle.table.specs.declared.node.Kind.{Kind}
use Rattle.table.specs.declared.refusal.Fault.{Fault}
use Rattle.table.specs.declared.leaf_path.PathNode.{PathNode}
use Rattle.table.specs.Paths.{Step, ends, passes, repeats, step_of, above, path}
use Rattle.reading.specs.Slots.{Buffers, Span, valid, span_at}
use Rattle.reading.specs.Reading.{null_fault, span_fault, child_slots, Reading, map_read, then_read, may_read, span_read, elements_read, Sized, reads, step_read, read}
use Rattle.reading.specs.Trace.{Trace, whole, after, ◌then◌, each_trace, may_trace, span_trace, spread_trace, step_trace, trace_at, Agrees, TraceIsStriping}

pub may_agrees : {X : Type 0} (n there : Bool) (e : Fault) (r d : ℕ) (es : ℕ → X → List Entry) (ps : X → List ℕ) (x : Reading X) (go : ℕ → Trace) → ((f : ℕ) → Agrees (es f) ps x (go f)) → Agrees (may n r d es) (kept n ps) (may_read n there e x) (may_trace n there e r d go)
may_agrees true true e r d es ps (Ok x) go h = h (d + 1)
may_agrees true true e r d es ps (Err x) go h = h (d + 1)
may_agrees true false e r d es ps x go h = refl
may_agrees false true e r d es ps (Ok x) go h = h d
may_agrees false true e r d es ps (Err x) go h = h d
may_agrees false false e r d es ps x go h = refl

-- one more reading in front of some others
join : {X : Type 0} (k : ℕ) (es fs : X → List Entry) (ps : X → List ℕ) (x : Reading X) (t : Trace) (xs : Reading (Sized X k)) (u : Trace) → Agrees es ps x t → Agrees (λ ys. each fs ys.0) (λ ys. each ps ys.0) xs u → (gs : List X → List Entry) → ((y : X) (ys : List X) → gs (y ∷ ys) ≡ es y ++ each fs ys) → Agrees (λ ys. gs ys.0) (λ ys. each ps ys.0) (then_read x (λ y. map_read {Y = Sized X (suc k)} (λ ys. (y ∷ ys.0, ap suc ys.1)) xs)) (t then u)
join k es fs ps (Ok x) t (Ok xs) u h g gs q = ap₂ (λ a b. a then b) h g ∙ ap (λ c. whole c (ps x ++ each ps xs.0)) (sym (q x xs.0))
join k es fs ps (Ok x) t (Err e) u h g gs q = ap (λ a. (a then u).stop) h ∙ g
join k es fs ps (Err e) t xs u h g gs q = ap (λ o. (after t u o).stop) h ∙ h

pub each_agrees : {X : Type 0} (es : X → List Entry) (ps : X → List ℕ) (f : ℕ → Reading X) (go : ℕ → Trace) → ((i : ℕ) → Agrees es ps (f i) (go i)) → (k a : ℕ) → Agrees (λ xs. each es xs.0) (λ xs. each ps xs.0) (reads f k a) (each_trace go k a)
each_agrees es ps f go h zero a = refl
each_agrees es ps f go h (suc k) a = join k es es ps (f a) (go a) (reads f k (a + 1)) (each_trace go k (a + 1)) (h a) (each_agrees es ps f go h k (a + 1)) (each es) (λ y ys. refl)

pub spread_agrees : {X : Type 0} (r d own : ℕ) (es : ℕ → X → List Entry) (ps : X → List ℕ) (f : ℕ → Reading X) (go : ℕ → ℕ → Trace) → ((q i : ℕ) → Agrees (es q) ps (f i) (go q i)) → (a c : ℕ) → Agrees (λ xs. spread r d es own xs.0) (λ xs. each ps xs.0) (reads f c a) (spread_trace r d own go a c)
spread_agrees r d own es ps f go h a zero = refl
spread_agrees r d own es ps f go h a (suc k) = join k (es r) (es own) ps (f a) (go r a) (reads f k (a + 1)) (each_trace (go own) k (a + 1)) (h r a) (each_agrees (es own) ps f (go own) (h own) k (a + 1)) (spread r d es own) (λ y ys. refl)

map_agrees : {X Y : Type 0} (g : X → Y) (es : Y → List Entry) (ps : Y → List ℕ) (x : Reading X) (t : Trace) → Agrees (λ z. es (g z)) (λ z. ps (g z)) x t → Agrees es ps (map_read g x) t
map_agrees g es ps (Ok x) t h = h
map_agrees g es ps (Err e) t h = h

-- a fixed-size list's span has its fixed size
abbrev pub FitsSize : Option ℕ → Span → Type 0
FitsSize None sp = Unit {0}
FitsSize (Some k) None = Unit {0}
FitsSize (Some k) (Some s) = s.1 ≡ k

abbrev pub FitsStep : Step → Span → Type 0
FitsStep ends sp = Unit {0}
FitsStep passes sp = Unit {0}
FitsStep (repeats s) sp = FitsSize s sp

within_fits : (b : Bool) (a k : ℕ) → FitsSize (Some k) (cond b (Some (a, k)) None)
within_fits true a k = refl
within_fits false a k = tt

pub fits : (b : Buffers) (n : PathNode) (k : Kind) (slots i : ℕ) → FitsStep (step_of n k) (span_at b n k slots i)
fits b n Kind.Leaf slots i = tt
fits b n Kind.Struct slots i = tt
fits b n Kind.List slots i = tt
fits b n Kind.LargeList slots i = tt
fits b n Kind.FixedSizeList slots i = within_fits (leb (i * n.size + n.size) slots) (i * n.size) n.size
fits b n Kind.ListView slots i = tt
fits b n Kind.LargeListView slots i = tt

list_agrees : {X : Type 0} (s : Option ℕ) (sp : Span) (e : Fault) (r d own : ℕ) (es : ℕ → X → List Entry) (ps : X → List ℕ) (f : ℕ → Reading X) (go : ℕ → ℕ → Trace) → FitsSize s sp → ((q i : ℕ) → Agrees (es q) ps (f i) (go q i)) → Agrees (λ ys. spread r d es own (items s ys)) (λ ys. each ps (items s ys)) (span_read sp e (elements_read s f)) (span_trace sp e (spread_trace r d own go))
list_agrees None None e r d own es ps f go fit h = refl
list_agrees None (Some sp) e r d own es ps f go fit h = map_agrees (λ xs. xs.0) (spread r d es own) (each ps) (reads f sp.1 sp.0) (spread_trace r d own go sp.0 sp.1) (spread_agrees r d own es ps f go h sp.0 sp.1)
list_agrees (Some k) None e r d own es ps f go fit h = refl
list_agrees (Some k) (Some sp) e r d own es ps f go fit h = subst (λ c. Agrees (λ xs. spread r d es own xs.0) (λ xs. each ps xs.0) (reads f k sp.0) (spread_trace r d own go sp.0 c)) (sym fit) (spread_agrees r d own es ps f go h sp.0 k)

step_agrees : (s : Step) (n there : Bool) (e x : Fault) (sp : Span) (p : Path) (own r d : ℕ) (f : ℕ → Reading (Row ℕ p)) (go : ℕ → ℕ → ℕ → ℕ → Trace) → FitsStep s sp →
    ((o q g i : ℕ) → Agrees (stripe ℕ p o q g) (values ℕ p) (f i) (go o q g i)) → (i : ℕ) →
    Agrees (stripe ℕ (above s n p) own r d) (values ℕ (above s n p)) (step_read s n there e x sp p f i) (step_trace s n there e x sp own r d go i)
step_agrees ends n there e x sp p own r d f go fit h i =
    may_agrees n there e r d (λ g _. entry r g ∷ []) (λ a. a ∷ []) (Ok i) (λ g. whole (entry r g ∷ []) (i ∷ [])) (λ g. refl)
step_agrees passes n there e x sp p own r d f go fit h i =
    may_agrees n there e r d (λ g y. stripe ℕ p own r g y) (values ℕ p) (f i) (λ g. go own r g i) (λ g. h own r g i)
step_agrees (repeats s) n there e x sp p own r d f go fit h i =
    may_agrees n there e r d (λ g ys. spread r g (λ q y. stripe ℕ p (own + 1) q (g + 1) y) (own + 1) (items s ys)) (λ ys. each (values ℕ p) (items s ys))
    (span_read sp x (elements_read s f)) (λ g. span_trace sp x (spread_trace r g (own + 1) (λ q j. go (own + 1) q (g + 1) j)))
    (λ g. list_agrees s sp x r g (own + 1) (λ q y. stripe ℕ p (own + 1) q (g + 1) y) (values ℕ p) f (λ q j. go (own + 1) q (g + 1) j) fit (λ q j. h (own + 1) q (g + 1) j))

pub slot_agrees : (b : Buffers) (row : ℕ) (ns : List PathNode) (own r d i : ℕ) → Agrees (stripe ℕ (path ns) own r d) (values ℕ (path ns)) (read b row ns i) (trace_at b row ns own r d i)
slot_agrees b row [] own r d i = refl
slot_agrees b row (n ∷ ns) own r d i =
    step_agrees (step_of n n.kind) n.nullable (valid b n.validity i) (null_fault n i row) (span_fault n i row) (span_at b n n.kind (child_slots ns) i) (path ns) own r d
    (read b row ns) (trace_at b row ns) (fits b n n.kind (child_slots ns) i) (λ o q g j. slot_agrees b row ns o q g j) i

pub trace_is_striping_lem : TraceIsStriping
trace_is_striping_lem b ns from count =
    each_agrees (stripe ℕ (path ns) 0 0 0) (values ℕ (path ns)) (λ row. read b row ns row) (λ row. trace_at b row ns 0 0 0 row) (λ row. slot_agrees b row ns 0 0 0 row) count from
