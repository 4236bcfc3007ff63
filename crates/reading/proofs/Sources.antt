-- The path to a leaf of a source that meets its rules stays in the buffers.
use Rattle.std.proofs.Common.{◌≡◌, ℕ, ◌+◌, ◌*◌, ◌^◌, ◌<◌, ◌≤◌, true, leb, List, length, get_or, Some, None, Option, sym, refl, ap, ◌∙◌, subst, inl, inr, mul-le-mul, arith}
use Rattle.std.proofs.lemmas.List.{length-map, get_or-map}
use Rattle.std.proofs.lemmas.Bool.{and_parts, leb-true, eqb-true, cases_lt, cases_eq}
use Rattle.table.specs.declared.node.Node.{Node}
use Rattle.table.specs.declared.node.Kind.{Kind}
use Rattle.table.specs.declared.node.Source.{Source}
use Rattle.table.specs.declared.leaf_path.PathNode.{PathNode}
use Rattle.table.specs.Kinds.{kind_of}
use Rattle.table.specs.Table.{line, parent_of, node_at, few, each_below, placed, kind_fits, node_fits, children, table_holds, is_leaf}
use Rattle.table.specs.Buffers.{validity_fits, offsets_fit, buffers_hold}
use Rattle.table.specs.Paths.{known, path_node, no_path_node, nodes_to}
use Rattle.table.proofs.Counts.{each_at}
use Rattle.table.proofs.Laws.{held, slots_few, fits_as, struct_slots, line_last, line_chain}
use Rattle.table.proofs.Leaves.{LeafOf, leaf_of, line_low}
use Rattle.table.proofs.Paths.{line-some}
use Rattle.reading.specs.Bits.{BitsIn}
use Rattle.reading.specs.Slots.{SpansIn, NodeIn, held_by}
use Rattle.reading.specs.Reading.{node_on}
use Rattle.reading.specs.Sound.{ChildOf, SourcesAreSound}

bits_in : (v : Option ℕ) (slots : ℕ) (bytes : List ℕ) → validity_fits v slots bytes ≡ true → BitsIn bytes slots v
bits_in None slots bytes e = tt
bits_in (Some start) slots bytes e = leb-true (start + slots) (8 * length bytes) e

known_some : (o : Option Kind) (k : Kind) → known o ≡ k → (k ≡ Kind.Leaf → ⊥) → o ≡ Some k
known_some None k e h = absurd (h (sym e))
known_some (Some q) k e h = ap Some e

is_struct : (k : Kind) → Kind.Leaf ≡ k → k ≡ Kind.Struct → ⊥
is_struct k a b = let z : ◌≡◌ {A = ℕ} 0 1 = cc in omega arith

-- one node of a source that meets its rules, as it stands on a path
module _ (s : Source) (h : table_holds s.nodes.now ≡ true) (b : buffers_hold s ≡ true) (i : ℕ) (l : i < length s.nodes.now) where
  abbrev ns : List Node
  ns = s.nodes.now

  abbrev node : PathNode
  node = path_node ns i

  fixed_small : kind_of (node_at ns i).kind ≡ Some Kind.FixedSizeList → node.slots * node.size < 2 ^ 64
  fixed_small e =
      let z = leb-true node.size 65535 (fits_as ns h i l Kind.FixedSizeList e).0 in
      let m : node.slots * node.size ≤ 2147483647 * 65535 = mul-le-mul (slots_few s b i l) z in
      omega arith

  spans_as : (o : Option Kind) → kind_of (node_at ns i).kind ≡ o → offsets_fit o (node_at ns i) (length s.offsets32.now) (length s.offsets64.now) ≡ true → SpansIn (held_by s) node (known o)
  spans_as None q e = tt
  spans_as (Some Kind.Leaf) q e = tt
  spans_as (Some Kind.Struct) q e = tt
  spans_as (Some Kind.List) q e = let m = leb-true (node.offsets + (node.slots + 1)) (length s.offsets32.now) e in omega arith
  spans_as (Some Kind.LargeList) q e = let m = leb-true (node.offsets + (node.slots + 1)) (length s.offsets64.now) e in omega arith
  spans_as (Some Kind.FixedSizeList) q e = fixed_small q
  spans_as (Some Kind.ListView) q e =
      let p = and_parts (leb (node.offsets + node.slots) (length s.offsets32.now)) (leb (node.sizes + node.slots) (length s.offsets32.now)) e in
      (leb-true (node.offsets + node.slots) (length s.offsets32.now) p.0, leb-true (node.sizes + node.slots) (length s.offsets32.now) p.1)
  spans_as (Some Kind.LargeListView) q e =
      let p = and_parts (leb (node.offsets + node.slots) (length s.offsets64.now)) (leb (node.sizes + node.slots) (length s.offsets64.now)) e in
      (leb-true (node.offsets + node.slots) (length s.offsets64.now) p.0, leb-true (node.sizes + node.slots) (length s.offsets64.now) p.1)

  node_in : NodeIn (held_by s) node
  node_in = (bits_in node.validity node.slots s.validity.now (held s b i l).2, spans_as (kind_of (node_at ns i).kind) refl (held s b i l).3)

-- node number k of the path to a leaf
module _ (s : Source) (leaf : ℕ) (h : table_holds s.nodes.now ≡ true) (b : buffers_hold s ≡ true) (l : leaf < length s.nodes.now) (e : is_leaf s.nodes.now leaf ≡ true) where
  abbrev nodes : List Node
  nodes = s.nodes.now

  abbrev path : List PathNode
  path = nodes_to nodes leaf

  lf : LeafOf nodes leaf
  lf = leaf_of nodes leaf h l (eqb-true (node_at nodes leaf).kind 0 e)

  long : length path ≡ length (line nodes leaf)
  long = length-map (line nodes leaf) (path_node nodes)

  some : 0 < length path
  some = let m = long in let p = line-some nodes leaf (omega arith) in omega arith

  few_on : length path ≤ 8
  few_on = let m = long in let p = lf.short in omega arith

  root_parent : parent_of nodes 0 ≡ 255
  root_parent =
      let p = and_parts (few nodes) (each_below (length nodes) (node_fits nodes)) h in
      let f = and_parts (placed nodes 0) (kind_fits (kind_of (node_at nodes 0).kind) (node_at nodes 0).size (children nodes 0) (length (line nodes 0))) (each_at (node_fits nodes) (length nodes) 0 (omega arith) p.1) in
      eqb-true (parent_of nodes 0) 255 f.0

  module _ (k : ℕ) (lt : k < length path) where
    abbrev at : ℕ
    at = get_or (line nodes leaf) k 0

    on_line : k < length (line nodes leaf)
    on_line = let m = long in omega arith

    at_low : at < length nodes
    at_low = let a = line_low nodes leaf lf.rising k on_line in omega arith

    at_is : node_on path k ≡ path_node nodes at
    at_is = get_or-map (path_node nodes) (line nodes leaf) k 0 no_path_node on_line

    small : (node_on path k).slots ≤ 2147483647
    small = subst (λ n. n.slots ≤ 2147483647) (sym at_is) (slots_few s b at at_low)

    inside_on : NodeIn (held_by s) (node_on path k)
    inside_on = subst (NodeIn (held_by s)) (sym at_is) (node_in s h b at at_low)

    -- only the last node is a leaf
    more : ((node_on path k).kind ≡ Kind.Leaf → ⊥) → k + 1 < length path
    more no-leaf =
        elim (cases_lt (k + 1) (length path)) [
          | inl m ↦ m
          | inr m ↦
              let g = long in
              let q : at ≡ leaf = line_last nodes leaf l k (omega arith) in
              let z = eqb-true (node_at nodes leaf).kind 0 e in
              absurd (no-leaf (ap (λ n. n.kind) at_is ∙ ap (λ j. known (kind_of (node_at nodes j).kind)) q ∙ ap (λ j. known (kind_of j)) z))
        ]

    -- a struct's child has its slots
    below : (node_on path k).kind ≡ Kind.Struct → k + 1 < length path → (node_on path k).slots ≤ (node_on path (k + 1)).slots
    below struct_is_lem m =
        let g = long in
        let next : ℕ = get_or (line nodes leaf) (k + 1) 0 in
        let p : parent_of nodes next ≡ at = line_chain nodes h leaf l k (omega arith) in
        let low : next ≤ leaf = line_low nodes leaf lf.rising (k + 1) (omega arith) in
        let u : node_on path (k + 1) ≡ path_node nodes next = get_or-map (path_node nodes) (line nodes leaf) (k + 1) 0 no_path_node (omega arith) in
        let w = lf.few in
        let a = at_low in
        let pos_next : 0 < next = elim (cases_eq next 0) [ inl z ↦ (let y : 255 ≡ at = sym root_parent ∙ ap (parent_of nodes) (sym z) ∙ p in absurd (omega arith)) | inr z ↦ omega arith ] in
        let kind-is : known (kind_of (node_at nodes at).kind) ≡ Kind.Struct = ap (λ n. n.kind) (sym at_is) ∙ struct_is_lem in
        let o : kind_of (node_at nodes (node_at nodes next).parent).kind ≡ Some Kind.Struct =
        ap (λ j. kind_of (node_at nodes j).kind) p ∙ known_some (kind_of (node_at nodes at).kind) Kind.Struct kind-is (λ x. is_struct Kind.Struct (sym x) refl) in
        let t : (node_at nodes next).slots ≡ (node_at nodes (node_at nodes next).parent).slots = struct_slots s b next (omega arith) pos_next o in
        let v : (node_on path k).slots ≡ (node_at nodes at).slots = ap (λ n. n.slots) at_is in
        let x : (node_on path (k + 1)).slots ≡ (node_at nodes next).slots = ap (λ n. n.slots) u in
        let y : (node_at nodes (node_at nodes next).parent).slots ≡ (node_at nodes at).slots = ap (λ j. (node_at nodes j).slots) p in
        omega arith

    child_as : (q : Kind) → (node_on path k).kind ≡ q → ChildOf path k (node_on path k).slots q
    child_as Kind.Leaf z = tt
    child_as Kind.Struct z = (let m = more (λ x. is_struct (node_on path k).kind (sym x) z) in (m, below z m))
    child_as Kind.List z = more (λ x. let y : ◌≡◌ {A = ℕ} 0 1 = cc in omega arith)
    child_as Kind.LargeList z = more (λ x. let y : ◌≡◌ {A = ℕ} 0 1 = cc in omega arith)
    child_as Kind.FixedSizeList z = more (λ x. let y : ◌≡◌ {A = ℕ} 0 1 = cc in omega arith)
    child_as Kind.ListView z = more (λ x. let y : ◌≡◌ {A = ℕ} 0 1 = cc in omega arith)
    child_as Kind.LargeListView z = more (λ x. let y : ◌≡◌ {A = ℕ} 0 1 = cc in omega arith)

    child_on : ChildOf path k (node_on path k).slots (node_on path k).kind
    child_on = child_as (node_on path k).kind refl

pub sources_are_sound_lem : SourcesAreSound
sources_are_sound_lem s leaf h b l e = record {
  some = some s leaf h b l e;
  few = few_on s leaf h b l e;
  small = small s leaf h b l e;
  inside = inside_on s leaf h b l e;
  child = child_on s leaf h b l e;
}
