-- A run of leaves that are alike is one stretch.
use Rattle.std.proofs.Common.{◌≡◌, ℕ, zero, suc, ◌+◌, ◌-◌, ◌<◌, ◌≤◌, List, [], ◌∷◌, length, drop, set, replicate, Some, None, Ok, Err, Option, IfSome, sym, refl, ap, ◌∙◌, subst, ap₂, arith}
use Rattle.table.specs.declared.leaf_path.PathNode.{PathNode}
use Rattle.table.specs.declared.refusal.Fault.{Fault}
use Rattle.walk.specs.declared.visit.Frame.{Frame}
use Rattle.walk.specs.declared.visit.Stretch.{Stretch}
use Rattle.rows.specs.Rows.{entry}
use Rattle.reading.specs.Slots.{Buffers}
use Rattle.reading.specs.Along.{inside, along}
use Rattle.reading.specs.Trace.{Trace, whole, stopped, ◌then◌, each_trace, trace_at, trace}
use Rattle.walk.specs.declared.frames.Walk.{Walk}
use Rattle.walk.specs.Frames.{slots_from, slot_like, visit_of, Alike, visit_trace, StretchIn, emitted, frame_trace, left, innermost, passed}
use Rattle.walk.specs.Walk.{rest, Ready, ChainRun}
use Rattle.reading.proofs.Joins.{then_assoc}
use Rattle.std.proofs.lemmas.List.{length-set}
use Rattle.walk.proofs.Stack.{left_top, left_set, left_step}

-- the first m and then the others
pub each_split : (go : ℕ → Trace) (m n a : ℕ) → each_trace go (m + n) a ≡ each_trace go m a then each_trace go n (a + m)
each_split go zero n a =
    let p : zero + n ≡ n = omega arith in
    let q : a ≡ a + zero = omega arith in
    ap₂ (λ k i. each_trace go k i) p q
each_split go (suc m) n a =
    let p : suc m + n ≡ suc (m + n) = omega arith in
    let q : a + 1 + m ≡ a + suc m = omega arith in
    ap (λ k. each_trace go k a) p ∙ ap (λ t. go a then t) (each_split go m n (a + 1)) ∙ sym (then_assoc (go a) (each_trace go m (a + 1)) (each_trace go n (a + 1 + m))) ∙ ap (λ i. (go a then each_trace go m (a + 1)) then each_trace go n i) q

abbrev run_of : ℕ → ℕ → Option ℕ → ℕ → Trace
run_of r f o c = whole (replicate c (entry r f)) (slots_from o c)

-- null slots, and present ones from a on
nulls_emit : (go : ℕ → Trace) (r f c a : ℕ) → ((j : ℕ) → a ≤ j → j < a + c → go j ≡ whole (entry r f ∷ []) []) → each_trace go c a ≡ run_of r f None c
nulls_emit go r f zero a h = refl
nulls_emit go r f (suc c) a h = ap₂ (λ s t. s then t) (h a (omega arith) (omega arith)) (nulls_emit go r f c (a + 1) (λ j l m. h j (omega arith) (omega arith)))

values_emit : (go : ℕ → Trace) (r f c a : ℕ) → ((j : ℕ) → a ≤ j → j < a + c → go j ≡ whole (entry r f ∷ []) (j ∷ [])) → each_trace go c a ≡ run_of r f (Some a) c
values_emit go r f zero a h = refl
values_emit go r f (suc c) a h = ap₂ (λ s t. s then t) (h a (omega arith) (omega arith)) (values_emit go r f c (a + 1) (λ j l m. h j (omega arith) (omega arith)))

run_emits : (go : ℕ → Trace) (r f : ℕ) (o : Option ℕ) (c a : ℕ) → IfSome o (λ slot. slot ≡ a) → ((j : ℕ) → a ≤ j → j < a + c → go j ≡ whole (entry r f ∷ []) (slot_like o j)) → each_trace go c a ≡ run_of r f o c
run_emits go r f None c a e h = nulls_emit go r f c a h
run_emits go r f (Some slot) c a e h = values_emit go r f c a h ∙ ap (λ k. run_of r f (Some k) c) (sym e)

-- such slots are one stretch
alike_split : (go : ℕ → Trace) (own : ℕ) (x : Frame) (s : Stretch) → s.rep ≡ own → IfSome s.first (λ slot. slot ≡ x.next) → x.next + s.count ≤ x.end → ((j : ℕ) → x.next ≤ j → j < x.next + s.count → go j ≡ whole (entry own s.def ∷ []) (slot_like s.first j)) → each_trace go (x.end - x.next) x.next ≡ emitted s then each_trace go (x.end - (x.next + s.count)) (x.next + s.count)
alike_split go own x s r a i h =
    let e : x.end - x.next ≡ s.count + (x.end - (x.next + s.count)) = omega arith in
    ap (λ k. each_trace go k x.next) e ∙ each_split go s.count (x.end - (x.next + s.count)) x.next ∙ ap (λ t. t then each_trace go (x.end - (x.next + s.count)) (x.next + s.count)) (run_emits go own s.def s.first s.count x.next a h ∙ ap (λ q. run_of q s.def s.first s.count) (sym r))

-- the innermost list's elements
module _ (b : Buffers) (ns : List PathNode) (row : ℕ) (fs : List Frame) (some : 0 < length fs) where
  list_split : (gs : List Frame) (s : Stretch) → Alike b ns (length fs) (innermost fs) s → gs ≡ set fs (length fs - 1) (passed (innermost fs) s.count) → left b ns row fs (length fs) ≡ emitted s then left b ns row gs (length gs)
  list_split gs s h q =
      let x : Frame = innermost fs in
      let f : ℕ = length fs - 1 in
      let e : length fs ≡ f + 1 = omega arith in
      let n : length gs ≡ length fs = ap length q ∙ length-set fs f (passed x s.count) in
      let below : Trace = left b ns row fs f in
      let go : ℕ → ℕ → Trace = λ o j. visit_trace b ns row o (visit_of o x j) in
      let sp : each_trace (go (length fs)) (x.end - x.next) x.next ≡ emitted s then each_trace (go (length fs)) (x.end - (x.next + s.count)) (x.next + s.count) = alike_split (go (length fs)) (length fs) x s h.rep h.first h.inside (h.each row) in
      let g : frame_trace b ns row f x ≡ emitted s then frame_trace b ns row f (passed x s.count) = subst (λ o. each_trace (go o) (x.end - x.next) x.next ≡ emitted s then each_trace (go o) (x.end - (x.next + s.count)) (x.next + s.count)) e sp in
      left_top b ns row fs some ∙ ap (λ t. t then below) g ∙ then_assoc (emitted s) (frame_trace b ns row f (passed x s.count)) below ∙ ap (λ t. emitted s then t) (sym (left_set b ns row fs (passed x s.count) some) ∙ ap₂ (λ l k. left b ns row l k) (sym q) (sym n))

  list_stop : (e : Fault) → (innermost fs).next < (innermost fs).end → visit_trace b ns row (length fs) (visit_of (length fs) (innermost fs) (innermost fs).next) ≡ stopped e → left b ns row fs (length fs) ≡ stopped e
  list_stop e lt h =
      let more : Trace = left b ns row (set fs (length fs - 1) (passed (innermost fs) 1)) (length fs) in
      left_step b ns row fs (set fs (length fs - 1) (passed (innermost fs) 1)) some lt refl ∙ ap (λ t. t then more) h

module _ (w : Walk) where
  abbrev b : Buffers
  b = inside w.rows.branch.now

  abbrev ns : List PathNode
  ns = along w.rows.branch.now

  abbrev fs : List Frame
  fs = w.frames.items

  abbrev after_rows : ℕ → Trace
  after_rows next = trace b (drop w.rows.node ns) next (w.rows.to - next)

  module _ (x : Frame) (some : 0 < length fs) (is : x ≡ innermost fs) where
    pub list_stops : (e : Fault) → Ready w → ChainRun w x (Err e) → rest w ≡ stopped e
    list_stops e r h =
        let at : ChainRun w (innermost fs) (Err e) = subst (λ y. ChainRun w y (Err e)) is h in
        ap (λ t. t then after_rows w.rows.from) (list_stop b ns w.row fs some e (r some) at)

    pub list_goes : (gs : List Frame) (s : Stretch) → ChainRun w x (Ok (Some s)) → gs ≡ set fs (length fs - 1) (passed (innermost fs) s.count) → (rest w ≡ emitted s then (left b ns w.row gs (length gs) then after_rows w.rows.from)) × StretchIn s
    list_goes gs s h e =
        let at : ChainRun w (innermost fs) (Ok (Some s)) = subst (λ y. ChainRun w y (Ok (Some s))) is h in
        (ap (λ t. t then after_rows w.rows.from) (list_split b ns w.row fs some gs s at.0 e) ∙ then_assoc (emitted s) (left b ns w.row gs (length gs)) (after_rows w.rows.from), at.1)

  module _ (flat : length fs ≡ 0) (some : w.rows.from < w.rows.to) where
    abbrev go : ℕ → Trace
    go = λ row. trace_at b row (drop w.rows.node ns) 0 0 0 row

    pub rows_go : (s : Stretch) → Alike b ns (length fs) (record { node = w.rows.node; next = w.rows.from; end = w.rows.to; def = 0 }) s → rest w ≡ emitted s then (left b ns w.rows.from fs (length fs) then after_rows (w.rows.from + s.count))
    rows_go s h =
        let at : Alike b ns 0 (record { node = w.rows.node; next = w.rows.from; end = w.rows.to; def = 0 }) s = subst (λ o. Alike b ns o (record { node = w.rows.node; next = w.rows.from; end = w.rows.to; def = 0 }) s) flat h in
        ap (λ d. left b ns w.row fs d then after_rows w.rows.from) flat ∙ alike_split go 0 (record { node = w.rows.node; next = w.rows.from; end = w.rows.to; def = 0 }) s at.rep at.first at.inside (λ j lo hi. at.each j j lo hi) ∙ ap (λ d. emitted s then (left b ns w.rows.from fs d then after_rows (w.rows.from + s.count))) (sym flat)
