-- The levels of a leaf of a table that meets the rules are at most 15 and 7.
use Rattle.std.proofs.Common.{◌≡◌, ℕ, zero, suc, ◌+◌, ◌-◌, ◌*◌, ◌<◌, ◌≤◌, Bool, true, false, List, [], ◌∷◌, length, get_or, ap, ◌∙◌, arith}
use Rattle.table.specs.declared.node.Node.{Node}
use Rattle.table.specs.declared.node.Kind.{Kind}
use Rattle.table.specs.Kinds.{kind_of}
use Rattle.rows.specs.Rows.{Path, leaf, struct, list, over, most, deep}
use Rattle.table.specs.Table.{line, node_at, table_holds, is_leaf}
use Rattle.table.specs.declared.leaf_path.PathNode.{PathNode}
use Rattle.table.specs.Paths.{Step, ends, passes, repeats, step_of, above, path, path_node, no_path_node, nodes_to, path_of, known}
use Rattle.std.proofs.lemmas.Bool.{eqb-true}
use Rattle.table.proofs.Laws.{line_last}
use Rattle.table.proofs.Leaves.{leaf_of}
use Rattle.table.proofs.Paths.{line-some, over_low}
use Rattle.std.proofs.lemmas.List.{length-map, get_or-map}

-- how many steps a path has before its leaf
abbrev pub before : Path → ℕ
before (leaf n) = 0
before (struct n p) = suc (before p)
before (list n s p) = suc (before p)

most_low : (p : Path) (d : ℕ) → most p d ≤ 2 * before p + 1 + d
most_low (leaf n) d = omega (arith, over_low n d)
most_low (struct n p) d = omega (arith, over_low n d, most_low p (over n d))
most_low (list n s p) d = omega (arith, over_low n d, most_low p (over n d + 1))

deep_low : (p : Path) (d : ℕ) → deep p d ≤ before p + d
deep_low (leaf n) d = omega arith
deep_low (struct n p) d = omega (arith, deep_low p d)
deep_low (list n s p) d = omega (arith, deep_low p (d + 1))

step_low : (s : Step) (n : Bool) (p : Path) → before (above s n p) ≤ suc (before p)
step_low ends n p = omega arith
step_low passes n p = omega arith
step_low (repeats s) n p = omega arith

-- a path through nodes of which the last is a leaf
through_low : (ns : List PathNode) (n : ℕ) → length ns ≡ n + 1 → (get_or ns n no_path_node).kind ≡ Kind.Leaf → before (path ns) ≤ n
through_low [] n l e = absurd (omega arith)
through_low (x ∷ []) zero l e =
    let f : before (path (x ∷ [])) ≡ 0 = ap (λ k. before (above (step_of x k) x.nullable (leaf false))) e in
    omega arith
through_low (x ∷ []) (suc n) l e = absurd (omega arith)
through_low (x ∷ y ∷ xs) zero l e = absurd (omega arith)
through_low (x ∷ y ∷ xs) (suc n) l e =
    omega (arith, step_low (step_of x x.kind) x.nullable (path (y ∷ xs)), through_low (y ∷ xs) n (omega arith) e)

-- the last node of a path to a leaf is a leaf
pub last_leaf : (ns : List Node) (i : ℕ) → i < length ns → (node_at ns i).kind ≡ 0 → (n : ℕ) → length (nodes_to ns i) ≡ n + 1 → get_or (nodes_to ns i) n no_path_node ≡ path_node ns i
last_leaf ns i l z n e =
    let m = length-map (line ns i) (path_node ns) in
    get_or-map (path_node ns) (line ns i) n 0 no_path_node (omega arith) ∙ ap (path_node ns) (line_last ns i l n (omega arith))

pub levels_small : (ns : List Node) → table_holds ns ≡ true → (i : ℕ) → i < length ns → is_leaf ns i ≡ true →
    (most (path_of ns i) 0 ≤ 15) × (deep (path_of ns i) 0 ≤ 7)
levels_small ns h i l e =
    let z : (node_at ns i).kind ≡ 0 = eqb-true (node_at ns i).kind 0 e in
    let s = (leaf_of ns i h l z).short in
    let one = line-some ns i (omega arith) in
    let m = length-map (line ns i) (path_node ns) in
    let n : ℕ = length (nodes_to ns i) - 1 in
    let q : length (nodes_to ns i) ≡ n + 1 = omega arith in
    let k : (get_or (nodes_to ns i) n no_path_node).kind ≡ Kind.Leaf = ap (λ x. x.kind) (last_leaf ns i l z n q) ∙ ap (λ j. known (kind_of j)) z in
    let a = through_low (nodes_to ns i) n q k in
    (omega (arith, most_low (path_of ns i) 0), omega (arith, deep_low (path_of ns i) 0))
