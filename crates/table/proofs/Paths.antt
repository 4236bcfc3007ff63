-- How the path to a leaf is written down, and its levels counted.
use Rattle.std.proofs.Common.{◌≡◌, ℕ, zero, suc, ◌+◌, ◌-◌, ◌*◌, ◌<◌, ◌≤◌, Bool, true, false, cond, eqb, List, [], ◌∷◌, ◌++◌, map, length, get_or, drop, set, Some, None, Option, sym, refl, ap, ◌∙◌, arith}
use Rattle.std.proofs.lemmas.List.{append_assoc, map-append, length_push, length-map, set-append_right, drop-set, drop_more, drop_all}
use Rattle.std.specs.Int.{from_bool}
use Rattle.rows.specs.Rows.{Path, leaf, struct, list, over, most, deep}
use Rattle.table.specs.declared.node.Node.{Node}
use Rattle.table.specs.declared.node.Kind.{Kind}
use Rattle.table.specs.declared.leaf_path.PathNode.{PathNode}
use Rattle.table.specs.Table.{line, way, parent_of, Rising}
use Rattle.table.specs.Paths.{step_of, above, path, path_node, no_path_node, nodes_to}
use Rattle.table.proofs.Lines.{line_root, line_step, fewer}

-- a node has a line of one node at least
pub way-some : (ns : List Node) (i k : ℕ) → 0 < k → 1 ≤ length (way ns k i)
way-some ns i zero p = absurd (omega arith)
way-some ns i (suc k) p = omega (arith, length_push (cond (eqb i 0) [] (way ns k (parent_of ns i))) i)

pub line-some : (ns : List Node) (i : ℕ) → 0 < length ns → 1 ≤ length (line ns i)
line-some ns i p = way-some ns i (length ns) p

-- one node up
pub up_is : (ns : List Node) (n i : ℕ) → i < n → n ≤ length ns → Rising ns n → 0 < i → (parent_of ns i < i) × (length (line ns i) ≡ length (line ns (parent_of ns i)) + 1)
up_is ns n i l m r p =
    (r i p l, ap length (line_step ns i (omega arith) p (fewer ns n (i + 1) (omega arith) r)) ∙ length_push (line ns (parent_of ns i)) i)

-- the root is written first
pub led_root : (ns : List Node) → 0 < length ns → (old : List PathNode) → 0 < length old → set old 0 (path_node ns 0) ≡ nodes_to ns 0 ++ drop 1 old
led_root ns p old q = drop-set old 0 (path_node ns 0) q ∙ ap (λ w. map (path_node ns) w ++ drop 1 old) (sym (line_root ns p))

-- and a node behind the nodes that lead to its parent
pub led_more : (ns : List Node) (n i : ℕ) → i < n → n ≤ length ns → Rising ns n → 0 < i → (old written : List PathNode) (d : ℕ) → d ≡ length (line ns (parent_of ns i)) →
    d < length old → written ≡ nodes_to ns (parent_of ns i) ++ drop d old →
    (set written d (path_node ns i) ≡ nodes_to ns i ++ drop (d + 1) old) × (d + 1 ≡ length (line ns i))
led_more ns n i l m r p old written d e q w =
    let s = line_step ns i (omega arith) p (fewer ns n (i + 1) (omega arith) r) in
    let x : PathNode = path_node ns i in
    let up = nodes_to ns (parent_of ns i) in
    let long : length up ≡ d = length-map (line ns (parent_of ns i)) (path_node ns) ∙ sym e in
    let here : nodes_to ns i ≡ up ++ x ∷ [] = ap (map (path_node ns)) s ∙ map-append (path_node ns) (line ns (parent_of ns i)) (i ∷ []) in
    let put : set (drop d old) 0 x ≡ x ∷ drop (d + 1) old = ap (λ xs. set xs 0 x) (drop_more old d no_path_node q) in
    let zero_is : d - d ≡ 0 = omega arith in (
      ap (λ xs. set xs d x) w ∙ set-append_right up (drop d old) d d x long (omega arith) ∙ ap (λ k. up ++ set (drop d old) k x) zero_is ∙ ap (λ xs. up ++ xs) put
          ∙ sym (ap (λ xs. xs ++ drop (d + 1) old) here ∙ append_assoc up (x ∷ []) (drop (d + 1) old)),
      (let f = ap length s ∙ length_push (line ns (parent_of ns i)) i in omega arith),
    )

-- the levels of the first i nodes of a path are counted
pub record Counting (nodes : List PathNode) (i definition repetition : ℕ) : Type 0 where
  pub low : definition ≤ 2 * i
  pub few : repetition ≤ i
  pub most_is : most (path nodes) 0 ≡ most (path (drop i nodes)) definition
  pub deep_is : deep (path nodes) 0 ≡ deep (path (drop i nodes)) repetition

-- a level is raised by a nullable step's one
pub over_is : (b : Bool) (d : ℕ) → d + from_bool b ≡ over b d
over_is true d = refl
over_is false d = omega arith

pub over_low : (b : Bool) (d : ℕ) → over b d ≤ d + 1
over_low true d = omega arith
over_low false d = omega arith

pub list_if : (n : PathNode) (k : Kind) → (k ≡ Kind.Leaf → ⊥) → (k ≡ Kind.Struct → ⊥) → (p : Path) → (s : Option ℕ) × (above (step_of n k) n.nullable p ≡ list n.nullable s p)
list_if n Kind.Leaf a b p = absurd (a refl)
list_if n Kind.Struct a b p = absurd (b refl)
list_if n Kind.List a b p = (None, refl)
list_if n Kind.LargeList a b p = (None, refl)
list_if n Kind.FixedSizeList a b p = (Some n.size, refl)
list_if n Kind.ListView a b p = (None, refl)
list_if n Kind.LargeListView a b p = (None, refl)

module _ (nodes : List PathNode) (i d r : ℕ) (h : Counting nodes i d r) (l : i < length nodes) where
  abbrev here : PathNode
  here = get_or nodes i no_path_node

  abbrev rest : Path
  rest = path (drop (i + 1) nodes)

  left : path (drop i nodes) ≡ above (step_of here here.kind) here.nullable rest
  left = ap path (drop_more nodes i no_path_node l)

  pub counted_leaf : (to : ℕ) → to ≡ over here.nullable d → here.kind ≡ Kind.Leaf → (to ≡ most (path nodes) 0) × (r ≡ deep (path nodes) 0)
  counted_leaf to e k =
      let f = left ∙ ap (λ o. above (step_of here o) here.nullable rest) k in
      (e ∙ sym (h.most_is ∙ ap (λ p. most p d) f), sym (h.deep_is ∙ ap (λ p. deep p r) f))

  pub counted_struct : (to : ℕ) → to ≡ over here.nullable d → here.kind ≡ Kind.Struct → Counting nodes (i + 1) to r
  counted_struct to e k =
      let b = over_low here.nullable d in
      let f : path (drop i nodes) ≡ struct here.nullable rest = left ∙ ap (λ o. above (step_of here o) here.nullable rest) k in
      record {
        low = (let a = h.low in omega arith);
        few = (let a = h.few in omega arith);
        most_is = h.most_is ∙ ap (λ p. most p d) f ∙ ap (most rest) (sym e);
        deep_is = h.deep_is ∙ ap (λ p. deep p r) f;
      }

  pub counted_list : (to : ℕ) → to ≡ over here.nullable d → (here.kind ≡ Kind.Leaf → ⊥) → (here.kind ≡ Kind.Struct → ⊥) → Counting nodes (i + 1) (to + 1) (r + 1)
  counted_list to e x y =
      let b = over_low here.nullable d in
      let f = left ∙ (list_if here here.kind x y rest).1 in
      record {
        low = (let a = h.low in omega arith);
        few = (let a = h.few in omega arith);
        most_is = h.most_is ∙ ap (λ p. most p d) f ∙ ap (λ z. most rest (z + 1)) (sym e);
        deep_is = h.deep_is ∙ ap (λ p. deep p r) f;
      }

pub counted_all : (nodes : List PathNode) (i d r : ℕ) → Counting nodes i d r → length nodes ≤ i → (d ≡ most (path nodes) 0) × (r ≡ deep (path nodes) 0)
counted_all nodes i d r h l =
    let e : path (drop i nodes) ≡ leaf false = ap path (drop_all i nodes l) in
    (sym (h.most_is ∙ ap (λ p. most p d) e), sym (h.deep_is ∙ ap (λ p. deep p r) e))
