-- Sources that differ only in fields that are not read.
use Rattle.std.proofs.Common.{◌≡◌, ℕ, zero, suc, ◌+◌, ◌*◌, Bool, cond, ◌&&◌, eqb, leb, List, [], ◌∷◌, ◌++◌, map, length, get_or, Some, None, Ok, Err, Option, sym, refl, ap, ◌∙◌, ap₂}
use Rattle.std.proofs.lemmas.List.{length-map}
use Rattle.table.specs.declared.node.Node.{Node}
use Rattle.table.specs.declared.node.Kind.{Kind}
use Rattle.table.specs.declared.refusal.Refusal.{Refusal}
use Rattle.table.specs.Kinds.{kind_of}
use Rattle.table.specs.Table.{each_below, how_many, no_node, node_at, parent_of, way, line, among, placed, children, kind_fits, node_fits, table_holds, is_leaf, leaves}
use Rattle.table.specs.Buffers.{slots_fit, child_fits, under_parent, validity_fits, offsets_fit, node_held, buffers_hold}
use Rattle.table.specs.Unread.{has_size, has_offsets, has_sizes, used, NotRead}

each_same : (n : ℕ) (f g : ℕ → Bool) → ((i : ℕ) → f i ≡ g i) → each_below n f ≡ each_below n g
each_same zero f g e = refl
each_same (suc n) f g e = ap₂ (λ x y. x && y) (each_same n f g e) (e n)

many_same : (n : ℕ) (f g : ℕ → Bool) → ((i : ℕ) → f i ≡ g i) → how_many n f ≡ how_many n g
many_same zero f g e = refl
many_same (suc n) f g e = ap₂ (λ b m. cond b (suc m) m) (e n) (many_same n f g e)

get_or_used : (ns : List Node) (i : ℕ) → get_or (map used ns) i no_node ≡ used (get_or ns i no_node)
get_or_used [] i = refl
get_or_used (n ∷ ns) zero = refl
get_or_used (n ∷ ns) (suc i) = get_or_used ns i

-- what the tests of a node read
kind_used : (o : Option Kind) (size count path : ℕ) → kind_fits o size count path ≡ kind_fits o (cond (has_size o) size 0) count path
kind_used None size count path = refl
kind_used (Some Kind.Leaf) size count path = refl
kind_used (Some Kind.Struct) size count path = refl
kind_used (Some Kind.List) size count path = refl
kind_used (Some Kind.LargeList) size count path = refl
kind_used (Some Kind.FixedSizeList) size count path = refl
kind_used (Some Kind.ListView) size count path = refl
kind_used (Some Kind.LargeListView) size count path = refl

child_used : (up n : Node) (o : Option Kind) → o ≡ kind_of up.kind → child_fits o up n ≡ child_fits o (used up) (used n)
child_used up n None e = refl
child_used up n (Some Kind.Leaf) e = refl
child_used up n (Some Kind.Struct) e = refl
child_used up n (Some Kind.List) e = refl
child_used up n (Some Kind.LargeList) e = refl
child_used up n (Some Kind.FixedSizeList) e = ap (λ o. leb (cond (has_size o) up.size 0 * up.slots) n.slots) e
child_used up n (Some Kind.ListView) e = refl
child_used up n (Some Kind.LargeListView) e = refl

offsets_used : (n : Node) (x y : ℕ) (o : Option Kind) → o ≡ kind_of n.kind → offsets_fit o n x y ≡ offsets_fit o (used n) x y
offsets_used n x y None e = refl
offsets_used n x y (Some Kind.Leaf) e = refl
offsets_used n x y (Some Kind.Struct) e = refl
offsets_used n x y (Some Kind.List) e = ap (λ o. leb (cond (has_offsets o) n.offsets 0 + (n.slots + 1)) x) e
offsets_used n x y (Some Kind.LargeList) e = ap (λ o. leb (cond (has_offsets o) n.offsets 0 + (n.slots + 1)) y) e
offsets_used n x y (Some Kind.FixedSizeList) e = refl
offsets_used n x y (Some Kind.ListView) e =
    ap (λ o. leb (cond (has_offsets o) n.offsets 0 + n.slots) x && leb (cond (has_sizes o) n.sizes 0 + n.slots) x) e
offsets_used n x y (Some Kind.LargeListView) e =
    ap (λ o. leb (cond (has_offsets o) n.offsets 0 + n.slots) y && leb (cond (has_sizes o) n.sizes 0 + n.slots) y) e

-- a test that does not read them
through : {X : Type 0} (f : Node → X) → ((n : Node) → f n ≡ f (used n)) → (n m : Node) → used n ≡ used m → f n ≡ f m
through f u n m e = u n ∙ ap f e ∙ sym (u m)

module _ (ns ms : List Node) (e : map used ns ≡ map used ms) where
  long : length ns ≡ length ms
  long = sym (length-map ns used) ∙ ap length e ∙ length-map ms used

  at : (i : ℕ) → used (node_at ns i) ≡ used (node_at ms i)
  at i = sym (get_or_used ns i) ∙ ap (λ l. get_or l i no_node) e ∙ get_or_used ms i

  parents : (i : ℕ) → parent_of ns i ≡ parent_of ms i
  parents i = ap (λ (n : Node). n.parent) (at i)

  ways : (k i : ℕ) → way ns k i ≡ way ms k i
  ways zero i = refl
  ways (suc k) i = ap (λ w. cond (eqb i 0) [] w ++ i ∷ []) (ways k (parent_of ns i) ∙ ap (way ms k) (parents i))

  lines : (i : ℕ) → line ns i ≡ line ms i
  lines i = ways (length ns) i ∙ ap (λ k. way ms k i) long

  placed_same : (i : ℕ) → placed ns i ≡ placed ms i
  placed_same zero = ap (λ p. eqb p 255) (parents 0)
  placed_same (suc i) = ap₂ among (parents (suc i)) (lines i)

  children-same : (i : ℕ) → children ns i ≡ children ms i
  children-same i =
      many_same (length ns) (λ j. eqb (parent_of ns j) i) (λ j. eqb (parent_of ms j) i) (λ j. ap (λ p. eqb p i) (parents j))
      ∙ ap (λ n. how_many n (λ j. eqb (parent_of ms j) i)) long

  fits_same : (i : ℕ) → node_fits ns i ≡ node_fits ms i
  fits_same i =
      ap₂ (λ x y. x && y) (placed_same i)
      (ap₂ (λ c p. kind_fits (kind_of (node_at ns i).kind) (node_at ns i).size c p) (children-same i) (ap length (lines i))
      ∙ through (λ (n : Node). kind_fits (kind_of n.kind) n.size (children ms i) (length (line ms i))) (λ n. kind_used (kind_of n.kind) n.size (children ms i) (length (line ms i)))
      (node_at ns i) (node_at ms i) (at i))

  pub holds_same : table_holds ns ≡ table_holds ms
  holds_same =
      ap₂ (λ x y. x && y) (ap (λ n. leb 1 n && leb n 64) long) (each_same (length ns) (node_fits ns) (node_fits ms) fits_same ∙ ap (λ n. each_below n (node_fits ms)) long)

  pub leaves-same : leaves ns ≡ leaves ms
  leaves-same =
      many_same (length ns) (is_leaf ns) (is_leaf ms) (λ i. ap (λ (n : Node). eqb n.kind 0) (at i)) ∙ ap (λ n. how_many n (is_leaf ms)) long

  child_same : (n m i j : Node) → used n ≡ used m → used i ≡ used j → child_fits (kind_of n.kind) n i ≡ child_fits (kind_of m.kind) m j
  child_same n m i j a b =
      child_used n i (kind_of n.kind) refl ∙ ap₂ (λ (x y : Node). child_fits (kind_of x.kind) x y) a b ∙ sym (child_used m j (kind_of m.kind) refl)

  under_same : (i : ℕ) → under_parent ns i ≡ under_parent ms i
  under_same zero = refl
  under_same (suc i) =
      child_same (node_at ns (parent_of ns (suc i))) (node_at ms (parent_of ms (suc i))) (node_at ns (suc i)) (node_at ms (suc i))
      (at (parent_of ns (suc i)) ∙ ap (λ p. used (node_at ms p)) (parents (suc i))) (at (suc i))

  pub rest-same : (i : ℕ) (bytes : List ℕ) (x y : ℕ) →
      (validity_fits (node_at ns i).validity (node_at ns i).slots bytes && offsets_fit (kind_of (node_at ns i).kind) (node_at ns i) x y)
      ≡ (validity_fits (node_at ms i).validity (node_at ms i).slots bytes && offsets_fit (kind_of (node_at ms i).kind) (node_at ms i) x y)
  rest-same i bytes x y =
      through (λ (n : Node). validity_fits n.validity n.slots bytes && offsets_fit (kind_of n.kind) n x y)
      (λ n. ap (λ b. validity_fits n.validity n.slots bytes && b) (offsets_used n x y (kind_of n.kind) refl)) (node_at ns i) (node_at ms i) (at i)

  pub front_same : (i : ℕ) → (slots_fit (node_at ns i) ≡ slots_fit (node_at ms i)) × (under_parent ns i ≡ under_parent ms i)
  front_same i = (ap slots_fit (at i), under_same i)

pub not_read : NotRead
not_read s t e v x y =
    let ns = s.nodes.now in
    let ms = t.nodes.now in
    let held : (i : ℕ) → node_held s i ≡ node_held t i = λ i.
    ap₂ (λ a b. a && b) (front_same ns ms e i).0 (ap₂ (λ a b. a && b) (front_same ns ms e i).1
    (rest-same ns ms e i s.validity.now (length s.offsets32.now) (length s.offsets64.now)
    ∙ ap (λ bytes. validity_fits (node_at ms i).validity (node_at ms i).slots bytes && offsets_fit (kind_of (node_at ms i).kind) (node_at ms i) (length s.offsets32.now) (length s.offsets64.now)) v
    ∙ ap₂ (λ p q. validity_fits (node_at ms i).validity (node_at ms i).slots t.validity.now && offsets_fit (kind_of (node_at ms i).kind) (node_at ms i) p q) (ap length x) (ap length y))) in
    let buffers : buffers_hold s ≡ buffers_hold t =
    each_same (length ns) (node_held s) (node_held t) held ∙ ap (λ n. each_below n (node_held t)) (long ns ms e) in
    ap₂ (λ a b. cond a (cond b (Ok (leaves ns)) (Err Refusal.Buffers)) (Err Refusal.Table)) (holds_same ns ms e) buffers
    ∙ ap (λ n. cond (table_holds ms) (cond (buffers_hold t) (Ok n) (Err Refusal.Buffers)) (Err Refusal.Table)) (leaves-same ns ms e)
