-- What the rules say of a node and of the way to it, as facts for the layers above.
use Rattle.std.proofs.Common.{◌≡◌, ℕ, zero, suc, ◌+◌, ◌*◌, ◌<◌, ◌≤◌, Bool, true, false, cond, ◌&&◌, eqb, List, [], ◌∷◌, ◌++◌, length, get_or, Some, None, Option, sym, refl, ap, ◌∙◌, subst, inl, inr, arith}
use Rattle.std.proofs.lemmas.List.{length_push, get_or_push, get_or_append_left}
use Rattle.std.proofs.lemmas.Bool.{and_parts, leb-true, eqb-true, eq-eqb, cases_eq, cases_lt, both_ways}
use Rattle.table.specs.declared.node.Node.{Node}
use Rattle.table.specs.declared.node.Kind.{Kind}
use Rattle.table.specs.declared.node.Source.{Source}
use Rattle.table.specs.Kinds.{kind_of}
use Rattle.table.specs.Table.{line, way, parent_of, children, node_at, few, each_below, placed, size_fits, children_fit, path_fits, kind_fits, node_fits, table_holds, Rising}
use Rattle.table.specs.Buffers.{slots_fit, child_fits, under_parent, validity_fits, offsets_fit, node_held, buffers_hold}
use Rattle.table.proofs.Counts.{each_at, many_some}
use Rattle.table.proofs.Lines.{fewer, way_on}
use Rattle.table.proofs.Shapes.{holds_rising}
use Rattle.table.proofs.Paths.{way-some}

-- one node of a table that meets the rules
module _ (ns : List Node) (h : table_holds ns ≡ true) (i : ℕ) (l : i < length ns) where
  by_kind : kind_fits (kind_of (node_at ns i).kind) (node_at ns i).size (children ns i) (length (line ns i)) ≡ true
  by_kind =
      (and_parts (placed ns i) (kind_fits (kind_of (node_at ns i).kind) (node_at ns i).size (children ns i) (length (line ns i)))
      (each_at (node_fits ns) (length ns) i l (and_parts (few ns) (each_below (length ns) (node_fits ns)) h).1)).1

  pub known_kind : (k : Kind) × (kind_of (node_at ns i).kind ≡ Some k)
  known_kind = known (kind_of (node_at ns i).kind) by_kind
    where
      known : (o : Option Kind) → kind_fits o (node_at ns i).size (children ns i) (length (line ns i)) ≡ true → (k : Kind) × (o ≡ Some k)
      known None e = let z : ◌≡◌ {A = Bool} true false = sym e in absurd (both_ways true z refl)
      known (Some k) e = (k, refl)

  pub parent_first : 0 < i → parent_of ns i < i
  parent_first p = holds_rising ns h i p l

  pub fits_as : (k : Kind) → kind_of (node_at ns i).kind ≡ Some k →
      (size_fits k (node_at ns i).size ≡ true) × (children_fit k (children ns i) ≡ true) × (path_fits k (length (line ns i)) ≡ true)
  fits_as k e =
      let f : kind_fits (Some k) (node_at ns i).size (children ns i) (length (line ns i)) ≡ true =
      subst (λ o. kind_fits o (node_at ns i).size (children ns i) (length (line ns i)) ≡ true) e by_kind in
      let p = and_parts (size_fits k (node_at ns i).size) (children_fit k (children ns i) && path_fits k (length (line ns i))) f in
      let q = and_parts (children_fit k (children ns i)) (path_fits k (length (line ns i))) p.1 in
      (p.0, q.0, q.1)

-- a leaf has nothing below it
pub inner : (ns : List Node) → table_holds ns ≡ true → (i : ℕ) → i < length ns → 0 < i → kind_of (node_at ns (parent_of ns i)).kind ≡ Some Kind.Leaf → ⊥
inner ns h i l p e =
    let q = parent_first ns h i l p in
    let n : children ns (parent_of ns i) ≡ 0 = eqb-true (children ns (parent_of ns i)) 0 (fits_as ns h (parent_of ns i) (omega arith) Kind.Leaf e).1 in
    let m = many_some (λ j. eqb (parent_of ns j) (parent_of ns i)) (length ns) i l (eq-eqb (parent_of ns i) (parent_of ns i) refl) in
    omega arith

-- one node of a source that meets the rules of slot counts and buffers
module _ (s : Source) (b : buffers_hold s ≡ true) (i : ℕ) (l : i < length s.nodes.now) where
  abbrev node : Node
  node = node_at s.nodes.now i

  abbrev narrow : ℕ
  narrow = length s.offsets32.now

  abbrev wide : ℕ
  wide = length s.offsets64.now

  pub held : (slots_fit node ≡ true) × (under_parent s.nodes.now i ≡ true) × (validity_fits node.validity node.slots s.validity.now ≡ true)
      × (offsets_fit (kind_of node.kind) node narrow wide ≡ true)
  held =
      let v = validity_fits node.validity node.slots s.validity.now in
      let o = offsets_fit (kind_of node.kind) node narrow wide in
      let p = and_parts (slots_fit node) (under_parent s.nodes.now i && (v && o)) (each_at (node_held s) (length s.nodes.now) i l b) in
      let q = and_parts (under_parent s.nodes.now i) (v && o) p.1 in
      let r = and_parts v o q.1 in
      (p.0, q.0, r.0, r.1)

  pub slots_few : node.slots ≤ 2147483647
  slots_few = leb-true node.slots 2147483647 held.0

  abbrev up : Node
  up = node_at s.nodes.now node.parent

  child_as : (i : ℕ) → 0 < i → under_parent s.nodes.now i ≡ true →
      child_fits (kind_of (node_at s.nodes.now (node_at s.nodes.now i).parent).kind) (node_at s.nodes.now (node_at s.nodes.now i).parent) (node_at s.nodes.now i) ≡ true
  child_as zero p e = absurd (omega arith)
  child_as (suc j) p e = e

  pub struct_slots : 0 < i → kind_of up.kind ≡ Some Kind.Struct → node.slots ≡ up.slots
  struct_slots p e = eqb-true node.slots up.slots (subst (λ o. child_fits o up node ≡ true) e (child_as i p held.1))

  pub fixed_slots : 0 < i → kind_of up.kind ≡ Some Kind.FixedSizeList → up.size * up.slots ≤ node.slots
  fixed_slots p e = leb-true (up.size * up.slots) node.slots (subst (λ o. child_fits o up node ≡ true) e (child_as i p held.1))

-- the way to a node: it ends with the node, and each number on it is the parent of the next
way_last : (ns : List Node) (k i : ℕ) → 0 < k → (n : ℕ) → length (way ns k i) ≡ n + 1 → get_or (way ns k i) n 0 ≡ i
way_last ns zero i p n e = absurd (omega arith)
way_last ns (suc k) i p n e =
    let w = cond (eqb i 0) [] (way ns k (parent_of ns i)) in
    get_or_push w i 0 n (let f = length_push w i in omega arith)

pub line_last : (ns : List Node) (i : ℕ) → i < length ns → (n : ℕ) → length (line ns i) ≡ n + 1 → get_or (line ns i) n 0 ≡ i
line_last ns i l n e = way_last ns (length ns) i (omega arith) n e

way_chain : (ns : List Node) (f i : ℕ) → i < f → Rising ns (i + 1) → (k : ℕ) → k + 1 < length (way ns f i) → parent_of ns (get_or (way ns f i) (k + 1) 0) ≡ get_or (way ns f i) k 0
way_chain ns zero i a r k l = absurd (omega arith)
way_chain ns (suc f) i a r k l =
    elim (cases_eq i 0) [
      | inl e ↦ (let q : k + 1 < 1 = rw e at l in absurd (omega arith))
      | inr d ↦
          let p : parent_of ns i < i = r i (omega arith) (omega arith) in
          let w = way ns f (parent_of ns i) in
          let s : way ns (suc f) i ≡ w ++ i ∷ [] = way_on ns f i (omega arith) in
          let n = ap length s ∙ length_push w i in
          rw s (elim (cases_lt (k + 1) (length w)) [
            | inl m ↦
                ap (parent_of ns) (get_or_append_left w (i ∷ []) 0 (k + 1) m)
                ∙ way_chain ns f (parent_of ns i) (omega arith) (fewer ns (i + 1) (parent_of ns i + 1) (omega arith) r) k m
                ∙ sym (get_or_append_left w (i ∷ []) 0 k (omega arith))
            | inr m ↦
                let z : length w ≡ k + 1 = omega arith in
                ap (parent_of ns) (get_or_push w i 0 (k + 1) z) ∙ sym (way_last ns f (parent_of ns i) (omega arith) k z) ∙ sym (get_or_append_left w (i ∷ []) 0 k (omega arith))
          ])
    ]

pub line_chain : (ns : List Node) → table_holds ns ≡ true → (i : ℕ) → i < length ns → (k : ℕ) → k + 1 < length (line ns i) → parent_of ns (get_or (line ns i) (k + 1) 0) ≡ get_or (line ns i) k 0
line_chain ns h i l k m = way_chain ns (length ns) i l (fewer ns (length ns) (i + 1) (omega arith) (holds_rising ns h)) k m

way_first : (ns : List Node) (f i : ℕ) → i < f → Rising ns (i + 1) → get_or (way ns f i) 0 0 ≡ 0
way_first ns zero i a r = refl
way_first ns (suc f) i a r =
    elim (cases_eq i 0) [
      | inl e ↦ rw e refl
      | inr d ↦
          let p : parent_of ns i < i = r i (omega arith) (omega arith) in
          let w = way ns f (parent_of ns i) in
          let s : way ns (suc f) i ≡ w ++ i ∷ [] = way_on ns f i (omega arith) in
          let q = fewer ns (i + 1) (parent_of ns i + 1) (omega arith) r in
          ap (λ x. get_or x 0 0) s ∙ get_or_append_left w (i ∷ []) 0 0 (way-some ns (parent_of ns i) f (omega arith)) ∙ way_first ns f (parent_of ns i) (omega arith) q
    ]

pub line_first : (ns : List Node) → table_holds ns ≡ true → (i : ℕ) → i < length ns → get_or (line ns i) 0 0 ≡ 0
line_first ns h i l = way_first ns (length ns) i l (fewer ns (length ns) (i + 1) (omega arith) (holds_rising ns h))
