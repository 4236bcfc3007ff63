-- Slots whose elements follow one another.
use Rattle.std.proofs.Common.{◌≡◌, ℕ, zero, suc, ◌+◌, ◌-◌, ◌*◌, ◌<◌, ◌≤◌, Bool, true, false, cond, eqb, leb, List, length, get_or, drop, ℤ, pos, negsuc, ◌-ℤ◌, Some, None, Option, sym, refl, ap, ◌∙◌, subst, ap₂, arith}
use Rattle.std.specs.Option.{unwrap_or}
use Rattle.std.proofs.lemmas.Bool.{leb-true, eqb-true, eqb-false}
use Rattle.table.specs.declared.node.Kind.{Kind}
use Rattle.table.specs.declared.leaf_path.PathNode.{PathNode}
use Rattle.reading.specs.declared.slot.Slot.{Slot}
use Rattle.reading.specs.Slots.{Buffers, Span, valid, within, span, span_at, held, slot_at}
use Rattle.reading.specs.Reading.{node_on}
use Rattle.tally.specs.Sizes.{Size, ◌plus◌, each_size, size_at, sizes}
use Rattle.tally.specs.declared.reach.Reach.{Reach}
use Rattle.tally.specs.Reaching.{Repeats, Reaches}
use Rattle.tally.proofs.Adding.{zero_plus, plus_zero, shuffle, size_on, spread-some}
use Rattle.tally.proofs.Nodes.{size_null, size_list}

-- a span lies in its child
abbrev Fits : ℕ → Span → Type 0
Fits most None = Unit {0}
Fits most (Some s) = s.0 + s.1 ≤ most

cond_fits : (t : Bool) (most a c : ℕ) → (t ≡ true → a + c ≤ most) → Fits most (cond t (Some (a, c)) None)
cond_fits true most a c h = h refl
cond_fits false most a c h = tt

within_fits : (most a c : ℕ) → Fits most (within most a c)
within_fits most a c = cond_fits (leb (a + c) most) most a c (λ e. leb-true (a + c) most e)

span_fits : (most : ℕ) (p q : ℤ) → Fits most (span most p q)
span_fits most p (pos zero) = omega arith
span_fits most (pos a) (pos (suc c)) = within_fits most a (suc c)
span_fits most (negsuc a) (pos (suc c)) = tt
span_fits most p (negsuc c) = tt

at_fits : (b : Buffers) (n : PathNode) (k : Kind) (most i : ℕ) → Fits most (span_at b n k most i)
at_fits b n Kind.Leaf most i = tt
at_fits b n Kind.Struct most i = tt
at_fits b n Kind.List most i = span_fits most (get_or b.narrow (n.offsets + i) (pos 0)) (get_or b.narrow (n.offsets + i + 1) (pos 0) -ℤ get_or b.narrow (n.offsets + i) (pos 0))
at_fits b n Kind.LargeList most i = span_fits most (get_or b.wide (n.offsets + i) (pos 0)) (get_or b.wide (n.offsets + i + 1) (pos 0) -ℤ get_or b.wide (n.offsets + i) (pos 0))
at_fits b n Kind.FixedSizeList most i = within_fits most (i * n.size) n.size
at_fits b n Kind.ListView most i = span_fits most (get_or b.narrow (n.offsets + i) (pos 0)) (get_or b.narrow (n.sizes + i) (pos 0))
at_fits b n Kind.LargeListView most i = span_fits most (get_or b.wide (n.offsets + i) (pos 0)) (get_or b.wide (n.sizes + i) (pos 0))

not_null : (q : Bool) (p : ℕ × ℕ) → Slot.Null ≡ cond q Slot.Empty (Slot.Spanned p) → true ≡ false
not_null true p e = cc
not_null false p e = cc

is_null : (t : Bool) (sp : Span) → Slot.Null ≡ cond t (held sp) Slot.Null → t ≡ false
is_null true None e = cc
is_null true (Some s) e = not_null (eqb s.1 0) (s.0, s.0 + s.1) e
is_null false sp e = refl

-- a slot that is valid and holds no element
record Bare (t : Bool) (sp : Span) : Type 0 where
  pub there : t ≡ true
  pub start : ℕ
  pub is : sp ≡ Some (start, 0)

bare_held : (sp : Span) → Slot.Empty ≡ held sp → Bare true sp
bare_held None e = absurd cc
bare_held (Some s) e = by (eqb s.1 0) refl e
  where
    by : (t : Bool) → eqb s.1 0 ≡ t → Slot.Empty ≡ cond t Slot.Empty (Slot.Spanned (s.0, s.0 + s.1)) → Bare true (Some s)
    by true q e = record { there = refl; start = s.0; is = ap (λ c. Some (s.0, c)) (eqb-true s.1 0 q) }
    by false q e = absurd cc

is_bare : (t : Bool) (sp : Span) → Slot.Empty ≡ cond t (held sp) Slot.Null → Bare t sp
is_bare true sp e = bare_held sp e
is_bare false sp e = absurd cc

-- a slot that is valid and holds the elements from one place to another
record Full (t : Bool) (sp : Span) (start stop : ℕ) : Type 0 where
  pub there : t ≡ true
  pub is : sp ≡ Some (start, stop - start)
  pub order : start < stop

full-held : (sp : Span) (start stop : ℕ) → Slot.Spanned (start, stop) ≡ held sp → Full true sp start stop
full-held None start stop e = absurd cc
full-held (Some s) start stop e = by (eqb s.1 0) refl e
  where
    by : (t : Bool) → eqb s.1 0 ≡ t → Slot.Spanned (start, stop) ≡ cond t Slot.Empty (Slot.Spanned (s.0, s.0 + s.1)) → Full true (Some s) start stop
    by true q e = absurd cc
    by false q e =
        let p : ◌≡◌ {A = ℕ × ℕ} (start, stop) (s.0, s.0 + s.1) = cc in
        let a : start ≡ s.0 = ap (λ x. x.0) p in
        let z : stop ≡ s.0 + s.1 = ap (λ x. x.1) p in
        let some = eqb-false s.1 0 q in
        let c : s.1 ≡ stop - start = omega arith in
        record { there = refl; is = ap₂ (λ x y. Some (x, y)) (sym a) c; order = omega arith }

is_full : (t : Bool) (sp : Span) (start stop : ℕ) → Slot.Spanned (start, stop) ≡ cond t (held sp) Slot.Null → Full t sp start stop
is_full true sp start stop e = full-held sp start stop e
is_full false sp start stop e = absurd cc

-- the slots of node k from `from` on, below i, are one range below, if they have elements, and some entries more
abbrev first_of : Option (ℕ × ℕ) → ℕ
first_of span = (unwrap_or span (0, 0)).0

abbrev last_of : Option (ℕ × ℕ) → ℕ
last_of span = (unwrap_or span (0, 0)).1

abbrev Begun : Option (ℕ × ℕ) → ℕ → ℕ → Type 0
Begun None from i = Unit {0}
Begun (Some s) from i = from < i

pub record Follows (b : Buffers) (ns : List PathNode) (k from i : ℕ) (span : Option (ℕ × ℕ)) (bare : ℕ) : Type 0 where
  pub order : first_of span ≤ last_of span
  pub fits : last_of span ≤ (node_on ns (k + 1)).slots
  pub few : bare ≤ i - from
  pub begun : Begun span from i
  pub size : sizes b ns k from (i - from) ≡ Some (bare, 0) plus sizes b ns (k + 1) (first_of span) (last_of span - first_of span)

begun_on : (span : Option (ℕ × ℕ)) (from i : ℕ) → Begun span from i → Begun span from (i + 1)
begun_on None from i h = tt
begun_on (Some s) from i h = omega arith

pub some_begun : (b : Buffers) (ns : List PathNode) (k from i : ℕ) (span : Option (ℕ × ℕ)) (bare : ℕ) → Follows b ns k from i span bare → (s : ℕ × ℕ) → span ≡ Some s → from < i
some_begun b ns k from i span bare h s e = subst (λ o. Begun o from i) e h.begun

pub alike : (b : Buffers) (ns : List PathNode) (k from i : ℕ) (span span' : Option (ℕ × ℕ)) (bare bare' : ℕ) → span' ≡ span → bare' ≡ bare → Follows b ns k from i span bare → Follows b ns k from i span' bare'
alike b ns k from i span span' bare bare' p q h = subst (λ o. Follows b ns k from i o bare') (sym p) (subst (Follows b ns k from i span) (sym q) h)

-- so many slots, some of them at least, as a reach
pub reached_over : (b : Buffers) (ns : List PathNode) (k from i end : ℕ) (span : Option (ℕ × ℕ)) (bare : ℕ) → k + 1 < length ns → from < i → i ≤ end → Follows b ns k from i span bare →
    (x : Reach) → x ≡ record { slots = i - from; from = first_of span; to = last_of span; bare = bare } → Reaches b ns k from end x
reached_over b ns k from i end span bare next some le h x e =
    subst (Reaches b ns k from end) (sym e) (record { some = omega arith; inside = omega arith; order = h.order; child = λ _. (next, h.fits); size = h.size })

-- slot i behind slots that are one range below and some entries more
module _ (b : Buffers) (ns : List PathNode) (k from i first last bare : ℕ) (lt : k < length ns) (next : k + 1 < length ns) (rep : Repeats (node_on ns k).kind) (low : from ≤ i) (order : first ≤ last)
    (had : sizes b ns k from (i - from) ≡ Some (bare, 0) plus sizes b ns (k + 1) first (last - first)) where
  abbrev n : PathNode
  n = node_on ns k

  abbrev most : ℕ
  most = (node_on ns (k + 1)).slots

  abbrev f : ℕ → Size
  f = size_at b (drop (k + 1) ns)

  abbrev g : ℕ → Size
  g = size_at b (drop k ns)

  on : (x : Size) → g i ≡ x → sizes b ns k from (i + 1 - from) ≡ (Some (bare, 0) plus sizes b ns (k + 1) first (last - first)) plus x
  on x e = size_on g from i 1 low ∙ ap₂ (λ p q. p plus q) had (plus_zero (g i) ∙ e)

  one_more : g i ≡ Some (1, 0) → sizes b ns k from (i + 1 - from) ≡ Some (bare + 1, 0) plus sizes b ns (k + 1) first (last - first)
  one_more e =
      on (Some (1, 0)) e ∙ shuffle bare 1 (sizes b ns (k + 1) first (last - first)) (Some (0, 0))
      ∙ ap (λ x. Some (bare + 1, 0) plus x) (plus_zero (sizes b ns (k + 1) first (last - first)))

  null_more : n.nullable ≡ true → Slot.Null ≡ slot_at b n most i → sizes b ns k from (i + 1 - from) ≡ Some (bare + 1, 0) plus sizes b ns (k + 1) first (last - first)
  null_more nullable e = one_more (size_null b ns k lt i nullable (is_null (valid b n.validity i) (span_at b n n.kind most i) e))

  empty_more : Slot.Empty ≡ slot_at b n most i → sizes b ns k from (i + 1 - from) ≡ Some (bare + 1, 0) plus sizes b ns (k + 1) first (last - first)
  empty_more e =
      let h : Bare (valid b n.validity i) (span_at b n n.kind most i) = is_bare (valid b n.validity i) (span_at b n n.kind most i) e in
      one_more (size_list b ns k lt i rep h.there next (Some (h.start, 0)) (sym h.is))

  module _ (start stop : ℕ) (e : Slot.Spanned (start, stop) ≡ slot_at b n most i) where
    full : Full (valid b n.validity i) (span_at b n n.kind most i) start stop
    full = is_full (valid b n.validity i) (span_at b n n.kind most i) start stop e

    stop_fits : (start < stop) × (stop ≤ most)
    stop_fits =
        let o = full.order in
        let h : start + (stop - start) ≤ most = subst (Fits most) full.is (at_fits b n n.kind most i) in
        (o, omega arith)

    slot_is : g i ≡ each_size f (stop - start) start
    slot_is =
        let o = full.order in
        size_list b ns k lt i rep full.there next (Some (start, stop - start)) (sym full.is) ∙ spread-some f start (stop - start) (omega arith)

    behind : sizes b ns k from (i + 1 - from) ≡ Some (bare, 0) plus (sizes b ns (k + 1) first (last - first) plus each_size f (stop - start) start)
    behind =
        let z : bare + 0 ≡ bare = omega arith in
        on (each_size f (stop - start) start) slot_is
        ∙ ap (λ x. (Some (bare, 0) plus sizes b ns (k + 1) first (last - first)) plus x) (sym (zero_plus (each_size f (stop - start) start)))
        ∙ shuffle bare 0 (sizes b ns (k + 1) first (last - first)) (each_size f (stop - start) start)
        ∙ ap (λ x. Some (x, 0) plus (sizes b ns (k + 1) first (last - first) plus each_size f (stop - start) start)) z

    -- the first elements
    first_more : first ≡ last → sizes b ns k from (i + 1 - from) ≡ Some (bare, 0) plus sizes b ns (k + 1) start (stop - start)
    first_more q =
        let z : last - first ≡ 0 = omega arith in
        behind ∙ ap (λ x. Some (bare, 0) plus (each_size f x first plus each_size f (stop - start) start)) z ∙ ap (λ x. Some (bare, 0) plus x) (zero_plus (each_size f (stop - start) start))

    -- those behind the last
    next_more : start ≡ last → sizes b ns k from (i + 1 - from) ≡ Some (bare, 0) plus sizes b ns (k + 1) first (stop - first)
    next_more q =
        let o = full.order in
        let m : last + (stop - start) - first ≡ stop - first = omega arith in
        behind ∙ ap (λ x. Some (bare, 0) plus (each_size f (last - first) first plus each_size f (stop - start) x)) q
        ∙ ap (λ x. Some (bare, 0) plus x) (sym (size_on f first last (stop - start) order) ∙ ap (λ x. each_size f x first) m)

-- one slot more
module _ (b : Buffers) (ns : List PathNode) (k from i : ℕ) (lt : k < length ns) (next : k + 1 < length ns) (rep : Repeats (node_on ns k).kind) (low : from ≤ i) (bare : ℕ) where
  pub null_follows : (span : Option (ℕ × ℕ)) → Follows b ns k from i span bare → (node_on ns k).nullable ≡ true → Slot.Null ≡ slot_at b (node_on ns k) (node_on ns (k + 1)).slots i → Follows b ns k from (i + 1) span (bare + 1)
  null_follows span h nullable e =
      let f = h.few in
      record { order = h.order; fits = h.fits; few = omega arith; begun = begun_on span from i h.begun; size = null_more b ns k from i (first_of span) (last_of span) bare lt next rep low h.order h.size nullable e }

  pub empty_follows : (span : Option (ℕ × ℕ)) → Follows b ns k from i span bare → Slot.Empty ≡ slot_at b (node_on ns k) (node_on ns (k + 1)).slots i → Follows b ns k from (i + 1) span (bare + 1)
  empty_follows span h e =
      let f = h.few in
      record { order = h.order; fits = h.fits; few = omega arith; begun = begun_on span from i h.begun; size = empty_more b ns k from i (first_of span) (last_of span) bare lt next rep low h.order h.size e }

  pub first_follows : (start stop : ℕ) → Follows b ns k from i None bare → Slot.Spanned (start, stop) ≡ slot_at b (node_on ns k) (node_on ns (k + 1)).slots i → Follows b ns k from (i + 1) (Some (start, stop)) bare
  first_follows start stop h e =
      let f = h.few in
      let s = stop_fits b ns k from i 0 0 bare lt next rep low h.order h.size start stop e in
      record { order = omega (arith, s.0); fits = s.1; few = omega arith; begun = omega arith; size = first_more b ns k from i 0 0 bare lt next rep low h.order h.size start stop e refl }

  pub next_follows : (first last start stop : ℕ) → last ≡ start → Follows b ns k from i (Some (first, last)) bare → Slot.Spanned (start, stop) ≡ slot_at b (node_on ns k) (node_on ns (k + 1)).slots i →
      Follows b ns k from (i + 1) (Some (first, stop)) bare
  next_follows first last start stop q h e =
      let f = h.few in
      let o : first ≤ last = h.order in
      let s = stop_fits b ns k from i first last bare lt next rep low o h.size start stop e in
      record { order = omega (arith, s.0); fits = s.1; few = omega arith; begun = omega arith; size = next_more b ns k from i first last bare lt next rep low o h.size start stop e (sym q) }
