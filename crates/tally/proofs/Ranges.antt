-- The sizes of neighbouring slots by those of one range of slots below them.
use Rattle.std.proofs.Common.{◌≡◌, ℕ, zero, suc, ◌+◌, ◌-◌, ◌*◌, ◌<◌, ◌≤◌, Bool, true, false, cond, eqb, List, map, length, get_or, take, drop, ℤ, pos, ◌-ℤ◌, Some, None, Option, sym, refl, ap, ◌∙◌, subst, ap₂, mul-le-mul_right, suc-mul, add-mul, arith, eq-eqb, ne_eqb, le-leb}
use native.Mathlib.Decide.{dec_lt}
use borrow.Author.Differences.{ints}
use Rattle.std.specs.Bool.{then_some}
use Rattle.std.proofs.lemmas.List.{map-id, get_or-take, get_or-drop, length-take, length-drop}
use Rattle.rows.specs.Rows.{one}
use Rattle.table.specs.declared.node.Kind.{Kind}
use Rattle.table.specs.declared.leaf_path.PathNode.{PathNode}
use Rattle.reading.specs.Bits.{SameRun}
use Rattle.reading.specs.Slots.{Buffers, SpansIn, Span, valid, within, span, listed, span_at}
use Rattle.reading.specs.Reading.{node_on}
use Rattle.reading.specs.Sound.{ChildOf, Sound}
use Rattle.tally.specs.declared.reach.Reach.{Reach}
use Rattle.tally.specs.Sizes.{Size, ◌plus◌, each_size, span_size, spread_size, size_at, sizes}
use Rattle.tally.specs.Reaching.{Repeats, Reaches, Reached, AllValid, place_at, empties, Rises, Rose, SameSized}
use Rattle.tally.proofs.Adding.{zero_plus, shuffle, size_split, each_ext, each_null, spread-some}
use Rattle.tally.proofs.Nodes.{size_null, size_struct, size_list}
use Rattle.tally.proofs.Offsets.{rises_all}

-- the span between two offsets that rise
abbrev between_span : ℕ → ℕ → Span
between_span a zero = Some (0, 0)
between_span a (suc c) = Some (a, suc c)

span_between : (most a c : ℕ) → a + c ≤ most → span most (pos a) (pos c) ≡ between_span a c
span_between most a zero h = refl
span_between most a (suc c) h = ap (λ t. cond t (Some (a, suc c)) None) (le-leb (a + suc c) most h)

spread_between : (f : ℕ → Size) (a c : ℕ) → span_size (between_span a c) (spread_size f) ≡ Some (one (eqb c 0), 0) plus each_size f c a
spread_between f a zero = refl
spread_between f a (suc c) = sym (ap (λ t. Some (one t, 0) plus each_size f (suc c) a) (ne_eqb (suc c) 0 (λ n. omega arith)) ∙ zero_plus (each_size f (suc c) a))

-- a list between two offsets
offset_size : (f : ℕ → Size) (most a z : ℕ) (p q : ℤ) → p ≡ pos a → q ≡ pos z → a ≤ z → z ≤ most → span_size (span most p (q -ℤ p)) (spread_size f) ≡ Some (one (eqb a z), 0) plus each_size f (z - a) a
offset_size f most a z p q e g le lt =
    let d : pos z -ℤ pos a ≡ pos (z - a) = omega (arith, ints) in
    let t : eqb (z - a) 0 ≡ eqb a z = elim (dec_lt a z) [ yes h ↦ ne_eqb (z - a) 0 (λ n. omega arith) ∙ sym (ne_eqb a z (λ n. omega arith)) | no h ↦ eq-eqb (z - a) 0 (omega arith) ∙ sym (eq-eqb a z (omega arith)) ] in
    ap₂ (λ x y. span_size (span most x (y -ℤ x)) (spread_size f)) e g
    ∙ ap (λ y. span_size (span most (pos a) y) (spread_size f)) d
    ∙ ap (λ s. span_size s (spread_size f)) (span_between most a (z - a) (omega arith))
    ∙ spread_between f a (z - a)
    ∙ ap (λ b. Some (one b, 0) plus each_size f (z - a) a) t

-- c lists by rising offsets: their children are one range
rise_size : (os : List ℤ) (f g : ℕ → Size) (most c at i : ℕ) → Rises os at c → place_at os (at + c) ≤ most → ((j : ℕ) → j < c → g (i + j) ≡ span_size (listed most os (at + j)) (spread_size f)) →
    each_size g c i ≡ Some (empties os c at, 0) plus each_size f (place_at os (at + c) - place_at os at) (place_at os at)
rise_size os f g most zero at i r le h =
    let q : at + zero ≡ at = omega arith in
    let z : place_at os at - place_at os at ≡ 0 = omega arith in
    sym (ap (λ j. Some (0, 0) plus each_size f (place_at os j - place_at os at) (place_at os at)) q ∙ ap (λ n. Some (0, 0) plus each_size f n (place_at os at)) z)
rise_size os f g most (suc c) at i r le h =
    let q : at + 1 + c ≡ at + suc c = omega arith in
    let i0 : i + 0 ≡ i = omega arith in
    let a0 : at + 0 ≡ at = omega arith in
    let u : place_at os at ≤ place_at os (at + 1) = r.up at (omega arith) (omega arith) in
    let v : place_at os (at + 1) ≤ place_at os (at + suc c) = subst (λ n. place_at os (at + 1) ≤ place_at os n) q (rises_all os at (suc c) r (at + 1) c (omega arith) (omega arith)) in
    let first : g i ≡ Some (one (eqb (place_at os at) (place_at os (at + 1))), 0) plus each_size f (place_at os (at + 1) - place_at os at) (place_at os at) =
    subst (λ n. g n ≡ span_size (listed most os at) (spread_size f)) i0 (subst (λ n. g (i + 0) ≡ span_size (listed most os n) (spread_size f)) a0 (h 0 (omega arith)))
    ∙ offset_size f most (place_at os at) (place_at os (at + 1)) (get_or os at (pos 0)) (get_or os (at + 1) (pos 0)) (r.whole at (omega arith) (omega arith)) (r.whole (at + 1) (omega arith) (omega arith)) u (omega arith) in
    let rest : each_size g c (i + 1) ≡ Some (empties os c (at + 1), 0) plus each_size f (place_at os (at + 1 + c) - place_at os (at + 1)) (place_at os (at + 1)) =
    rise_size os f g most c (at + 1) (i + 1) (record { whole = λ j l m. r.whole j (omega arith) (omega arith); up = λ j l m. r.up j (omega arith) (omega arith) }) (subst (λ n. place_at os n ≤ most) (sym q) le) (λ j l.
    let p : i + 1 + j ≡ i + (j + 1) = omega arith in
    let s : at + 1 + j ≡ at + (j + 1) = omega arith in
    ap g p ∙ h (j + 1) (omega arith) ∙ ap (λ n. span_size (listed most os n) (spread_size f)) (sym s)) in
    let m : place_at os (at + 1) - place_at os at + (place_at os (at + suc c) - place_at os (at + 1)) ≡ place_at os (at + suc c) - place_at os at = omega arith in
    let w : place_at os at + (place_at os (at + 1) - place_at os at) ≡ place_at os (at + 1) = omega arith in
    ap₂ (λ x y. x plus y) first (rest ∙ ap (λ n. Some (empties os c (at + 1), 0) plus each_size f (place_at os n - place_at os (at + 1)) (place_at os (at + 1))) q)
    ∙ shuffle (one (eqb (place_at os at) (place_at os (at + 1)))) (empties os c (at + 1)) (each_size f (place_at os (at + 1) - place_at os at) (place_at os at)) (each_size f (place_at os (at + suc c) - place_at os (at + 1)) (place_at os (at + 1)))
    ∙ ap (λ t. Some (empties os (suc c) at, 0) plus t) (sym (ap (λ n. each_size f n (place_at os at)) (sym m) ∙ size_split f (place_at os (at + 1) - place_at os at) (place_at os (at + suc c) - place_at os (at + 1)) (place_at os at) ∙ ap (λ n. each_size f (place_at os (at + 1) - place_at os at) (place_at os at) plus each_size f (place_at os (at + suc c) - place_at os (at + 1)) n) w))

-- lists of one size that is not 0
blocks : (f g : ℕ → Size) (s c i : ℕ) → ((j : ℕ) → i ≤ j → j < i + c → g j ≡ each_size f s (j * s)) → each_size g c i ≡ each_size f (c * s) (i * s)
blocks f g s zero i h = let q : 0 * s ≡ 0 = omega arith in sym (ap (λ n. each_size f n (i * s)) q)
blocks f g s (suc c) i h =
    let p : (i + 1) * s ≡ i * s + s = omega (arith, add-mul i 1 s) in
    let q : suc c * s ≡ s + c * s = omega (arith, suc-mul c s) in
    ap₂ (λ x y. x plus y) (h i (omega arith) (omega arith)) (blocks f g s c (i + 1) (λ j l m. h j (omega arith) (omega arith)) ∙ ap (λ n. each_size f (c * s) n) p)
    ∙ sym (ap (λ n. each_size f n (i * s)) q ∙ size_split f s (c * s) (i * s))

within_all : (most a c : ℕ) → a + c ≤ most → within most a c ≡ Some (a, c)
within_all most a c h = ap (λ t. cond t (Some (a, c)) None) (le-leb (a + c) most h)

sized_size : (f g : ℕ → Size) (most s c i : ℕ) → (i + c) * s ≤ most → ((j : ℕ) → i ≤ j → j < i + c → g j ≡ span_size (within most (j * s) s) (spread_size f)) →
    each_size g c i ≡ Some (cond (eqb s 0) c 0, 0) plus each_size f ((i + c) * s - i * s) (i * s)
sized_size f g most zero c i le h =
    let z : (i + c) * 0 - i * 0 ≡ 0 = omega arith in
    let e : c ≡ c + 0 = omega arith in
    each_null g c i (λ j l m. h j l m ∙ ap (λ s. span_size s (spread_size f)) (within_all most (j * 0) 0 (omega arith)))
    ∙ ap (λ n. Some (n, 0)) e ∙ sym (ap (λ n. Some (c, 0) plus each_size f n (i * 0)) z)
sized_size f g most (suc s) c i le h =
    let d : (i + c) * suc s ≡ i * suc s + c * suc s = add-mul i c (suc s) in
    let z : c * suc s ≡ (i + c) * suc s - i * suc s = omega arith in
    blocks f g (suc s) c i (λ j l m.
    let t : suc j * suc s ≤ (i + c) * suc s = mul-le-mul_right (suc s) (omega arith) in
    h j l m ∙ ap (λ x. span_size x (spread_size f)) (within_all most (j * suc s) (suc s) (omega (arith, suc-mul j (suc s)))) ∙ spread-some f (j * suc s) (suc s) (omega arith))
    ∙ ap (λ n. each_size f n (i * suc s)) z
    ∙ sym (ap (λ t. Some (cond t c 0, 0) plus each_size f ((i + c) * suc s - i * suc s) (i * suc s)) (ne_eqb (suc s) 0 (λ e. omega arith)) ∙ zero_plus (each_size f ((i + c) * suc s - i * suc s) (i * suc s)))

list_child : (ns : List PathNode) (k slots : ℕ) (q : Kind) → Repeats q → ChildOf ns k slots q → k + 1 < length ns
list_child ns k slots Kind.Leaf r h = absurd r
list_child ns k slots Kind.Struct r h = absurd r
list_child ns k slots Kind.List r h = h
list_child ns k slots Kind.LargeList r h = h
list_child ns k slots Kind.FixedSizeList r h = h
list_child ns k slots Kind.ListView r h = h
list_child ns k slots Kind.LargeListView r h = h

module _ (b : Buffers) (ns : List PathNode) (sound : Sound b ns) (k from : ℕ) (lt : k < length ns) where
  abbrev n : PathNode
  n = node_on ns k

  abbrev most : ℕ
  most = (node_on ns (k + 1)).slots

  abbrev f : ℕ → Size
  f = size_at b (drop (k + 1) ns)

  abbrev g : ℕ → Size
  g = size_at b (drop k ns)

  pub child_there : Repeats n.kind → k + 1 < length ns
  child_there r = list_child ns k n.slots n.kind r (sound.child k lt)

  nulls : (end c : ℕ) → SameRun b.bytes n.validity from end c → valid b n.validity from ≡ false → n.nullable ≡ true → Reaches b ns k from end (record { slots = c; from = 0; to = 0; bare = c })
  nulls end c run there nullable =
      let e : c ≡ c + 0 = omega arith in
      record {
        some = run.some;
        inside = run.inside;
        order = omega arith;
        child = λ h. absurd (omega arith);
        size = each_null g c from (λ j l m. size_null b ns k lt j nullable (run.same j l m ∙ there)) ∙ ap (λ x. Some (x, 0)) e;
      }

  pub null_reach : (end c : ℕ) → SameRun b.bytes n.validity from end c → valid b n.validity from ≡ false → (t : Bool) → n.nullable ≡ t → Reached b ns k from end (then_some t (record { slots = c; from = 0; to = 0; bare = c }))
  null_reach end c run there true e = nulls end c run there e
  null_reach end c run there false e = tt

  -- what is reached below a nearer end is reached below a later one
  pub wider : (end c : ℕ) → from + c ≤ end → (r : Option Reach) → Reached b ns k from (from + c) r → Reached b ns k from end r
  wider end c le None h = tt
  wider end c le (Some x) h = record { some = h.some; inside = (let i = h.inside in omega arith); order = h.order; child = h.child; size = h.size }

  module _ (c : ℕ) (some : 0 < c) (fits : from + c ≤ n.slots) (there : AllValid b n from c) where
    pub structs : n.kind ≡ Kind.Struct → Reaches b ns k from (from + c) (record { slots = c; from = from; to = from + c; bare = 0 })
    structs is =
        let e : c ≡ from + c - from = omega arith in
        let child : (k + 1 < length ns) × (n.slots ≤ most) = subst (ChildOf ns k n.slots) is (sound.child k lt) in
        record {
          some = some;
          inside = omega arith;
          order = omega arith;
          child = λ h. (child.0, omega (arith, child.1));
          size = each_ext g f c from (λ j l m. size_struct b ns k lt j is (there j l m)) ∙ ap (λ z. each_size f z from) e ∙ sym (zero_plus (sizes b ns (k + 1) from (from + c - from)));
        }

    -- os are the offsets behind one number of all of them
    lists : (all os : List ℤ) → length os ≡ c + 1 → ((j : ℕ) → j < c + 1 → get_or os j (pos 0) ≡ get_or all (n.offsets + from + j) (pos 0)) → Repeats n.kind → ((j : ℕ) → span_at b n n.kind most j ≡ listed most all (n.offsets + j)) → (r : Option Reach) → Rose os most r → Reached b ns k from (from + c) r
    lists all os long part rep spans None h = tt
    lists all os long part rep spans (Some x) h =
        let d : length os - 1 ≡ c = omega arith in
        let z : 0 + c ≡ c = omega arith in
        let same : x.slots ≡ c = h.slots ∙ d in
        let ends : x.to ≡ place_at os (0 + c) = h.ends ∙ ap (place_at os) (d ∙ sym z) in
        record {
          some = subst (λ z. 0 < z) (sym same) some;
          inside = omega arith;
          order = h.order;
          child = λ _. (child_there rep, h.within);
          size =
              ap (λ z. each_size g z from) same
              ∙ rise_size os f g most c 0 from (subst (Rises os 0) d h.rises) (subst (λ z. z ≤ most) ends h.within) (λ j m.
              let e : n.offsets + from + j ≡ n.offsets + (from + j) = omega arith in
              let e' : n.offsets + from + (j + 1) ≡ n.offsets + (from + j) + 1 = omega arith in
              let j0 : 0 + j ≡ j = omega arith in
              let p : get_or os j (pos 0) ≡ get_or all (n.offsets + (from + j)) (pos 0) = part j (omega arith) ∙ ap (λ i. get_or all i (pos 0)) e in
              let q : get_or os (j + 1) (pos 0) ≡ get_or all (n.offsets + (from + j) + 1) (pos 0) = part (j + 1) (omega arith) ∙ ap (λ i. get_or all i (pos 0)) e' in
              size_list b ns k lt (from + j) rep (there (from + j) (omega arith) (omega arith)) (child_there rep) (listed most os (0 + j)) (ap (listed most os) j0 ∙ ap₂ (λ s t. span most s (t -ℤ s)) p q ∙ sym (spans (from + j))))
              ∙ sym (ap (λ z. Some (z, 0) plus each_size f (x.to - x.from) x.from) (h.bare ∙ ap (λ l. empties os l 0) d) ∙ ap₂ (λ a z. Some (empties os c 0, 0) plus each_size f (z - a) a) h.starts ends);
        }

    pub sized : n.kind ≡ Kind.FixedSizeList → (r : Option Reach) → SameSized n.size from c most r → Reached b ns k from (from + c) r
    sized is None h = tt
    sized is (Some x) h =
        let rep : Repeats n.kind = subst Repeats (sym is) tt in
        let same : x.slots ≡ c = h.slots in
        let top : from * n.size ≤ (from + c) * n.size = mul-le-mul_right n.size (omega arith) in
        let p = h.starts in
        let q = h.ends in
        record {
          some = subst (λ z. 0 < z) (sym same) some;
          inside = omega arith;
          order = omega arith;
          child = λ _. (child_there rep, h.within);
          size =
              ap (λ z. each_size g z from) same
              ∙ sized_size f g most n.size c from (subst (λ z. z ≤ most) h.ends h.within) (λ j l m.
              size_list b ns k lt j rep (there j l m) (child_there rep) (within most (j * n.size) n.size) (sym (ap (λ z. span_at b n z most j) is)))
              ∙ sym (ap (λ z. Some (z, 0) plus each_size f (x.to - x.from) x.from) h.bare ∙ ap₂ (λ a z. Some (cond (eqb n.size 0) c 0, 0) plus each_size f (z - a) a) h.starts h.ends);
        }

    -- as many of some offsets as c lists have
    cut_lists : (all : List ℤ) (many : ℕ) → many ≡ c + 1 → n.offsets + from + c < length all → Repeats n.kind → ((j : ℕ) → span_at b n n.kind most j ≡ listed most all (n.offsets + j)) → (r : Option Reach) → Rose (map (λ (x : ℤ). x) (take many (drop (n.offsets + from) all))) most r → Reached b ns k from (from + c) r
    cut_lists all many e room rep spans r h =
        let os : List ℤ = take many (drop (n.offsets + from) all) in
        let p = length-take many (drop (n.offsets + from) all) in
        let q = length-drop (n.offsets + from) all in
        lists all os (omega arith) (λ j l. get_or-take many (drop (n.offsets + from) all) j (pos 0) (omega arith) ∙ get_or-drop (n.offsets + from) all j (pos 0)) rep spans r (subst (λ os. Rose os most r) (map-id os) h)

    pub narrow_lists : n.kind ≡ Kind.List → (many : ℕ) → many ≡ c + 1 → (r : Option Reach) → Rose (map (λ (x : ℤ). x) (take many (drop (n.offsets + from) b.narrow))) most r → Reached b ns k from (from + c) r
    narrow_lists is many e = let room = subst (SpansIn b n) is (sound.inside k lt).1 in cut_lists b.narrow many e (omega (arith, fits, room)) (subst Repeats (sym is) tt) (λ j. ap (λ z. span_at b n z most j) is)

    pub wide_lists : n.kind ≡ Kind.LargeList → (many : ℕ) → many ≡ c + 1 → (r : Option Reach) → Rose (map (λ (x : ℤ). x) (take many (drop (n.offsets + from) b.wide))) most r → Reached b ns k from (from + c) r
    wide_lists is many e = let room = subst (SpansIn b n) is (sound.inside k lt).1 in cut_lists b.wide many e (omega (arith, fits, room)) (subst Repeats (sym is) tt) (λ j. ap (λ z. span_at b n z most j) is)
