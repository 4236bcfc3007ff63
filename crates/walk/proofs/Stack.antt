-- How a walk's frames change what is left.
use Rattle.std.proofs.Common.{◌≡◌, ℕ, zero, suc, ◌+◌, ◌-◌, ◌<◌, ◌≤◌, List, [], ◌∷◌, ◌++◌, length, get_or, slice_get, take, drop, set, Some, None, Ok, sym, refl, ap, ◌∙◌, subst, ap₂, arith}
use Rattle.std.proofs.Math.ListN.{get_or-append}
use Rattle.std.proofs.Math.Seq.{get_or-append_seam}
use Rattle.std.proofs.lemmas.List.{get_or-set_same, get_or-set_other, get_or-take, length-append, length-set, length-take-le}
use Rattle.std.proofs.lemmas.Option.{none-some, same_Some, slice_get_within, slice_get-get_or}
use borrow.Author.Count.{below_more}
use Rattle.table.specs.declared.leaf_path.PathNode.{PathNode}
use Rattle.walk.specs.declared.visit.Frame.{Frame}
use Rattle.walk.specs.declared.visit.Visit.{Visit}
use Rattle.reading.specs.Slots.{Buffers}
use Rattle.reading.specs.Along.{inside, along}
use Rattle.reading.proofs.Joins.{then_assoc}
use Rattle.reading.specs.Trace.{Trace, ◌then◌, each_trace, trace_at, trace}
use Rattle.walk.specs.declared.visit.Look.{Look}
use Rattle.walk.specs.declared.visit.Look.TheVariants.{Enters}
use Rattle.walk.specs.declared.frames.Walk.{Walk}
use Rattle.walk.specs.Frames.{visit_trace, VisitIn, visit_of, elements_trace, unused, innermost, frame_trace, left, FrameIn, FramesIn, passed}
use Rattle.walk.specs.Walk.{rest, ahead, Looked}

pub each_more : (go : ℕ → Trace) (n a : ℕ) → 0 < n → each_trace go n a ≡ go a then each_trace go (n - 1) (a + 1)
each_more go zero a h = absurd (omega arith)
each_more go (suc k) a h = ap (λ z. go a then each_trace go z (a + 1)) (omega arith)

module _ (b : Buffers) (ns : List PathNode) (row : ℕ) where
  -- what is left goes by the frames below alone
  left_alike : (fs gs : List Frame) (f : ℕ) → ((k : ℕ) → k < f → get_or fs k unused ≡ get_or gs k unused) → left b ns row fs f ≡ left b ns row gs f
  left_alike fs gs zero h = refl
  left_alike fs gs (suc f) h = ap₂ (λ y t. frame_trace b ns row f y then t) (h f (omega arith)) (left_alike fs gs f (λ k l. h k (omega arith)))

  -- the innermost frame comes first
  pub left_top : (fs : List Frame) → 0 < length fs → left b ns row fs (length fs) ≡ frame_trace b ns row (length fs - 1) (innermost fs) then left b ns row fs (length fs - 1)
  left_top fs h = let q : length fs ≡ suc (length fs - 1) = omega arith in ap (λ z. left b ns row fs z) q

  pub left_set : (fs : List Frame) (x : Frame) → 0 < length fs → left b ns row (set fs (length fs - 1) x) (length fs) ≡ frame_trace b ns row (length fs - 1) x then left b ns row fs (length fs - 1)
  left_set fs x h =
      let q : length fs ≡ suc (length fs - 1) = omega arith in
      let at : length fs - 1 < length fs = omega arith in
      ap (λ z. left b ns row (set fs (length fs - 1) x) z) q
      ∙ ap₂ (λ y t. frame_trace b ns row (length fs - 1) y then t) (get_or-set_same fs (length fs - 1) x unused at)
      (left_alike (set fs (length fs - 1) x) fs (length fs - 1) (λ k l. get_or-set_other fs (length fs - 1) k x unused (omega arith)))

  -- a frame put on top
  pub left_push : (fs : List Frame) (x : Frame) → left b ns row (fs ++ x ∷ []) (length fs + 1) ≡ frame_trace b ns row (length fs) x then left b ns row fs (length fs)
  left_push fs x =
      let q : length fs + 1 ≡ suc (length fs) = omega arith in
      ap (λ z. left b ns row (fs ++ x ∷ []) z) q
      ∙ ap₂ (λ y t. frame_trace b ns row (length fs) y then t) (get_or-append_seam fs x [] unused)
      (left_alike (fs ++ x ∷ []) fs (length fs) (λ k l. get_or-append fs (x ∷ []) unused k l))

  -- the innermost frame gives its next element
  pub left_step : (fs gs : List Frame) → 0 < length fs → (innermost fs).next < (innermost fs).end → gs ≡ set fs (length fs - 1) (passed (innermost fs) 1) → left b ns row fs (length fs) ≡ visit_trace b ns row (length fs) (visit_of (length fs) (innermost fs) (innermost fs).next) then left b ns row gs (length fs)
  left_step fs gs h lt e =
      let x : Frame = innermost fs in
      let f : ℕ = length fs - 1 in
      let d : f + 1 ≡ length fs = omega arith in
      let m : x.end - x.next - 1 ≡ x.end - (x.next + 1) = omega arith in
      let below : Trace = left b ns row fs f in
      let one : ℕ → Trace = λ q. trace_at b row (drop x.node ns) q q x.def x.next in
      let some : 0 < x.end - x.next = omega arith in
      left_top fs h
      ∙ ap (λ t. t then below) (each_more (λ j. trace_at b row (drop x.node ns) (f + 1) (f + 1) x.def j) (x.end - x.next) x.next some)
      ∙ then_assoc (one (f + 1)) (elements_trace b ns row (f + 1) x.node x.def (x.next + 1) (x.end - x.next - 1)) below
      ∙ ap₂ (λ q n. one q then (elements_trace b ns row (f + 1) x.node x.def (x.next + 1) n then below)) d m
      ∙ ap (λ t. one (length fs) then t) (sym (left_set fs (passed x 1) h) ∙ ap (λ l. left b ns row l (length fs)) (sym e))

  -- and is left once it has none
  pub left_pop : (fs gs : List Frame) → 0 < length fs → (innermost fs).end ≤ (innermost fs).next → gs ≡ take (length fs - 1) fs → left b ns row gs (length gs) ≡ left b ns row fs (length fs)
  left_pop fs gs h le e =
      let x : Frame = innermost fs in
      let f : ℕ = length fs - 1 in
      let m : 0 ≡ x.end - x.next = omega arith in
      let n : length gs ≡ f = ap length e ∙ length-take-le f fs (omega arith) in
      ap₂ (λ l k. left b ns row l k) e n
      ∙ left_alike (take f fs) fs f (λ k l. get_or-take f fs k unused l)
      ∙ ap (λ k. elements_trace b ns row (f + 1) x.node x.def x.next k then left b ns row fs f) m
      ∙ sym (left_top fs h)

-- the last of some frames, as the slice says it
pub top_is : (fs xs : List Frame) (x : Frame) → xs ≡ fs → Some x ≡ slice_get xs (length xs - 1) → (0 < length fs) × (x ≡ innermost fs)
top_is fs xs x e h =
    let lt : length xs - 1 < length xs = slice_get_within xs (length xs - 1) x (sym h) in
    let at : x ≡ innermost xs = same_Some x (innermost xs) (h ∙ slice_get-get_or xs (length xs - 1) unused lt) in
    subst (λ l. (0 < length l) × (x ≡ innermost l)) e (omega arith, at)

pub top_none : (fs xs : List Frame) → xs ≡ fs → None ≡ slice_get xs (length xs - 1) → length fs ≡ 0
top_none fs [] e h = sym (ap length e)
top_none fs (y ∷ xs) e h =
    let lt : length (y ∷ xs) - 1 < length (y ∷ xs) = omega arith in
    absurd (none-some (innermost (y ∷ xs)) (h ∙ slice_get-get_or (y ∷ xs) (length (y ∷ xs) - 1) unused lt))

pub push_framed : (ns : List PathNode) (fs gs : List Frame) (x : Frame) → FramesIn ns fs → FrameIn ns (length fs) x → gs ≡ fs ++ x ∷ [] → FramesIn ns gs
push_framed ns fs gs x i h e =
    let n : length gs ≡ length fs + 1 = ap length e ∙ length-append fs (x ∷ []) in
    let P : ℕ → Type 0 = λ f. FrameIn ns f (get_or gs f unused) in
    let low : (f : ℕ) → f < length fs → P f = λ f l. subst (FrameIn ns f) (sym (ap (λ l. get_or l f unused) e ∙ get_or-append fs (x ∷ []) unused f l)) (i f l) in
    let here : P (length fs) = subst (FrameIn ns (length fs)) (sym (ap (λ l. get_or l (length fs) unused) e ∙ get_or-append_seam fs x [] unused)) h in
    λ f l. below_more P (length fs) low here f (omega arith)

module _ (w : Walk) where
  abbrev b : Buffers
  b = inside w.rows.branch.now

  abbrev ns : List PathNode
  ns = along w.rows.branch.now

  abbrev fs : List Frame
  fs = w.frames.items

  abbrev rows : Trace
  rows = trace b (drop w.rows.node ns) w.rows.from (w.rows.to - w.rows.from)

  pub popped : (gs : List Frame) (x : Frame) → 0 < length fs → x ≡ innermost fs → x.end ≤ x.next → gs ≡ take (length fs - 1) fs → left b ns w.row gs (length gs) then rows ≡ rest w
  popped gs x some is le e =
      let done : (innermost fs).end ≤ (innermost fs).next = subst (λ y. y.end ≤ y.next) is le in
      ap (λ t. t then rows) (left_pop b ns w.row fs gs some done e)

  pub advance_frame : (gs : List Frame) (x : Frame) (r : ℕ) → 0 < length fs → x ≡ innermost fs → (innermost fs).next < (innermost fs).end → gs ≡ set fs (length fs - 1) (passed (innermost fs) 1) → r ≡ length gs → (rest w ≡ visit_trace b ns w.row (length gs) (record { node = x.node; slot = x.next; rep = r; def = x.def }) then (left b ns w.row gs (length gs) then rows)) × VisitIn ns (length gs) (record { node = x.node; slot = x.next; rep = r; def = x.def })
  advance_frame gs x r some is lt e q =
      let n : length gs ≡ length fs = ap length e ∙ length-set fs (length fs - 1) (passed (innermost fs) 1) in
      let m : r ≡ length fs = q ∙ n in
      let i : FrameIn ns (length fs - 1) (innermost fs) = w.framed (length fs - 1) (omega arith) in
      let few = w.rows.branch.now.sound.few in
      let deep = w.deep in
      let v : Visit = visit_of (length fs) (innermost fs) (innermost fs).next in
      let one : rest w ≡ visit_trace b ns w.row (length fs) v then (left b ns w.row gs (length fs) then rows) =
      ap (λ t. t then rows) (left_step b ns w.row fs gs some lt e) ∙ then_assoc (visit_trace b ns w.row (length fs) v) (left b ns w.row gs (length fs)) rows in
      let at : VisitIn ns (length fs) v = record { under = omega (arith, i.under); node = i.node; slot = omega (arith, i.slots); rep = omega arith; def = i.def } in
      let P : Frame → ℕ → ℕ → Type 0 = λ y k o. (rest w ≡ visit_trace b ns w.row o (record { node = y.node; slot = y.next; rep = k; def = y.def }) then (left b ns w.row gs o then rows)) × VisitIn ns o (record { node = y.node; slot = y.next; rep = k; def = y.def }) in
      subst (λ y. P y r (length gs)) (sym is) (subst (λ k. P (innermost fs) k (length gs)) (sym m) (subst (P (innermost fs) (length fs)) (sym n) (one, at)))

  pub advance_row : length fs ≡ 0 → w.rows.from < w.rows.to → (rest w ≡ visit_trace b ns w.rows.from (length fs) (record { node = w.rows.node; slot = w.rows.from; rep = 0; def = 0 }) then (left b ns w.rows.from fs (length fs) then trace b (drop w.rows.node ns) (w.rows.from + 1) (w.rows.to - (w.rows.from + 1)))) × VisitIn ns (length fs) (record { node = w.rows.node; slot = w.rows.from; rep = 0; def = 0 })
  advance_row z lt =
      let m : w.rows.to - w.rows.from - 1 ≡ w.rows.to - (w.rows.from + 1) = omega arith in (
        ap (λ d. left b ns w.row fs d then rows) z ∙ each_more (λ row. trace_at b row (drop w.rows.node ns) 0 0 0 row) (w.rows.to - w.rows.from) w.rows.from (omega arith) ∙ ap₂ (λ d n. trace_at b w.rows.from (drop w.rows.node ns) d 0 0 w.rows.from then (left b ns w.rows.from fs d then trace b (drop w.rows.node ns) (w.rows.from + 1) n)) (sym z) m,
        record { under = omega arith; node = w.rows.on; slot = omega (arith, w.rows.within); rep = omega arith; def = omega arith },
      )

  -- a further list is entered
  module _ (v u : Visit) (x : Frame) (k : Look) (is : k ≡ Enters u x) (l : Looked w v (Ok k)) where
    enters : Looked w v (Ok (Enters u x))
    enters = subst (λ z. Looked w v (Ok z)) is l

    pub entered_framed : (gs : List Frame) → gs ≡ fs ++ x ∷ [] → FramesIn ns gs
    entered_framed gs e = push_framed ns fs gs x w.framed enters.2 e

    pub entered : (gs : List Frame) → gs ≡ fs ++ x ∷ [] → VisitIn ns (length gs) u × (visit_trace b ns w.row (length gs) u then (left b ns w.row gs (length gs) then rows) ≡ ahead w v)
    entered gs e =
        let n : length fs + 1 ≡ length gs = sym (ap length e ∙ length-append fs (x ∷ [])) in
        let one : Trace = visit_trace b ns w.row (length fs + 1) u in
        let others : Trace = frame_trace b ns w.row (length fs) x in
        let old : Trace = left b ns w.row fs (length fs) in
        subst (λ o. VisitIn ns o u × (visit_trace b ns w.row o u then (left b ns w.row gs o then rows) ≡ ahead w v)) n (
          enters.1,
          ap (λ t. one then (t then rows)) (ap (λ l. left b ns w.row l (length fs + 1)) e ∙ left_push b ns w.row fs x)
              ∙ ap (λ t. one then t) (then_assoc others old rows)
              ∙ sym (then_assoc one others (old then rows))
              ∙ ap (λ t. t then (old then rows)) (sym enters.0),
        )
