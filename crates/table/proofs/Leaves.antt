-- A leaf of a table that meets the rules.
use Rattle.std.proofs.Common.{◌≡◌, ℕ, zero, suc, ◌+◌, ◌-◌, ◌<◌, ◌≤◌, Bool, true, false, cond, ◌&&◌, eqb, ltb, leb, List, [], ◌∷◌, ◌++◌, length, get_or, take, drop, replicate, None, Option, Ok, Err, sym, refl, ap, ◌∙◌, arith}
use Rattle.std.specs.List.{AllByRecursion as All}
use Rattle.std.proofs.ByRecursion.{All-append, All-weaker, All-get_or}
use Rattle.std.proofs.lemmas.List.{take_at, drop-replicate, length-map}
use Rattle.std.proofs.lemmas.Bool.{and_parts, and_from, cond-true, cond_both, leb-true, lt-ltb, eq-eqb, eqb-false}
use Rattle.table.specs.declared.node.Node.{Node}
use Rattle.table.specs.declared.node.Kind.{Kind}
use Rattle.table.specs.declared.refusal.Refusal.{Refusal}
use Rattle.table.specs.declared.leaf_path.PathNode.{PathNode}
use Rattle.table.specs.declared.leaf_path.LeafPath.{LeafPath}
use Rattle.table.specs.Kinds.{kind_of}
use Rattle.rows.specs.Rows.{most, deep}
use Rattle.table.specs.Table.{line, way, parent_of, children, node_at, few, each_below, placed, kind_fits, node_fits, table_holds, is_leaf, Rising}
use Rattle.table.specs.Paths.{path, path_of, path_node, no_path_node, nodes_to, leaf_path, leaf_answer}
use Rattle.table.proofs.Counts.{each_at}
use Rattle.table.proofs.Lines.{fewer}
use Rattle.table.proofs.Shapes.{holds_rising}

all_low : (ns : List Node) (k i : ℕ) → Rising ns (i + 1) → All (λ x. x ≤ i) (way ns k i)
all_low ns zero i r = tt
all_low ns (suc k) i r =
    All-append (λ x. x ≤ i) (cond (eqb i 0) [] (way ns k (parent_of ns i))) (i ∷ [])
    (cond_both (eqb i 0) [] (way ns k (parent_of ns i)) (λ xs. All (λ x. x ≤ i) xs) (λ _. tt) (λ e.
    let d = eqb-false i 0 e in
    let p : 0 < i = omega arith in
    let l : parent_of ns i < i = r i p (omega arith) in
    All-weaker (λ x. x ≤ parent_of ns i) (λ x. x ≤ i) (λ x h. omega arith) (way ns k (parent_of ns i)) (all_low ns k (parent_of ns i) (fewer ns (i + 1) (parent_of ns i + 1) (omega arith) r)))
    ) (omega arith, tt)

-- every node on the way to a node stands before it or is it
pub line_low : (ns : List Node) (i : ℕ) → Rising ns (i + 1) → (k : ℕ) → k < length (line ns i) → get_or (line ns i) k 0 ≤ i
line_low ns i r k l = All-get_or (λ x. x ≤ i) (line ns i) k 0 l (all_low ns (length ns) i r)

pub record LeafOf (ns : List Node) (i : ℕ) : Type 0 where
  pub within : i < length ns
  pub leaf : is_leaf ns i ≡ true
  pub few : length ns ≤ 64
  pub rising : Rising ns (i + 1)
  pub short : length (line ns i) ≤ 8

short_if : (k size count path : ℕ) → k ≡ 0 → kind_fits (kind_of k) size count path ≡ true → path ≤ 8
short_if k size count path e h =
    let h0 : kind_fits (kind_of 0) size count path ≡ true = rw e at h in
    leb-true path 8 (and_parts (eqb count 0) (leb path 8) (and_parts true (eqb count 0 && leb path 8) h0).1).1

pub leaf_of : (ns : List Node) (i : ℕ) → table_holds ns ≡ true → i < length ns → (node_at ns i).kind ≡ 0 → LeafOf ns i
leaf_of ns i h l z =
    let p = and_parts (few ns) (each_below (length ns) (node_fits ns)) h in
    let f = and_parts (placed ns i) (kind_fits (kind_of (node_at ns i).kind) (node_at ns i).size (children ns i) (length (line ns i))) (each_at (node_fits ns) (length ns) i l p.1) in
    record {
      within = l;
      leaf = eq-eqb (node_at ns i).kind 0 z;
      few = leb-true (length ns) 64 (and_parts (leb 1 (length ns)) (leb (length ns) 64) p.0).1;
      rising = fewer ns (length ns) (i + 1) (omega arith) (holds_rising ns h);
      short = short_if (node_at ns i).kind (node_at ns i).size (children ns i) (length (line ns i)) z f.1;
    }

-- a node made by default is what stands in the places that a path does not fill
pub blank_is : (n : PathNode) →
    (n.number ≡ 0) × ((n.kind ≡ Kind.Leaf) × ((n.nullable ≡ false) × ((n.slots ≡ 0) × ((n.size ≡ 0) × ((n.validity ≡ None) × ((n.offsets ≡ 0) × (n.sizes ≡ 0))))))) → n ≡ no_path_node
blank_is n e =
    same n.number n.kind n.nullable n.slots n.size n.validity n.offsets n.sizes e.0 e.1.0 e.1.1.0 e.1.1.1.0 e.1.1.1.1.0 e.1.1.1.1.1.0 e.1.1.1.1.1.1.0 e.1.1.1.1.1.1.1
  where
    same : (a : ℕ) (k : Kind) (b : Bool) (d f : ℕ) (o : Option ℕ) (g h : ℕ) → a ≡ 0 → k ≡ Kind.Leaf → b ≡ false → d ≡ 0 → f ≡ 0 → o ≡ None → g ≡ 0 → h ≡ 0 →
        record { number = a; kind = k; nullable = b; slots = d; size = f; validity = o; offsets = g; sizes = h } ≡ no_path_node
    same a k b d f o g h p q r s t u v w = rw (p, q, r, s, t, u, v, w) refl

-- the places behind a path keep what stood there
pub filled : (ns : List Node) (i count : ℕ) (blank : PathNode) → blank ≡ no_path_node → (nodes : List PathNode) → nodes ≡ nodes_to ns i ++ drop count (replicate 8 blank) →
    nodes ≡ nodes_to ns i ++ replicate (8 - count) no_path_node
filled ns i count blank b nodes e = e ∙ ap (λ xs. nodes_to ns i ++ xs) (ap (λ x. drop count (replicate 8 x)) b ∙ drop-replicate count 8 no_path_node)

module _ (ns : List Node) (i : ℕ) (h : LeafOf ns i) (count : ℕ) (nodes : List PathNode) (c : count ≡ length (line ns i)) (e : nodes ≡ nodes_to ns i ++ replicate (8 - count) no_path_node) where
  long : count ≡ length (nodes_to ns i)
  long = c ∙ sym (length-map (line ns i) (path_node ns))

  pub front : take count nodes ≡ nodes_to ns i
  front = ap (take count) e ∙ take_at (nodes_to ns i) (replicate (8 - count) no_path_node) count (sym long)

  pub front_length : count ≡ length (take count nodes)
  front_length = long ∙ ap length (sym front)

  pub front_short : length (take count nodes) ≤ 8
  front_short = let f = ap length front in let s = h.short in let l = long in omega arith

  pub led : (d r : ℕ) → d ≡ most (path (take count nodes)) 0 → r ≡ deep (path (take count nodes)) 0 →
      Ok (record { nodes = nodes; count = count; definition = d; repetition = r }) ≡ leaf_answer ns i
  led d r x y =
      let a : nodes ≡ nodes_to ns i ++ replicate (8 - length (nodes_to ns i)) no_path_node = e ∙ ap (λ m. nodes_to ns i ++ replicate (8 - m) no_path_node) long in
      let l = long in
      let u : d ≡ most (path_of ns i) 0 = x ∙ ap (λ p. most (path p) 0) front in
      let v : r ≡ deep (path_of ns i) 0 = y ∙ ap (λ p. deep (path p) 0) front in
      let s : ◌≡◌ {A = LeafPath} (record { nodes = nodes; count = count; definition = d; repetition = r }) (leaf_path ns i) = cc in
      ap Ok s ∙ sym (cond-true (ltb i (length ns) && is_leaf ns i) (Ok (leaf_path ns i)) (Err Refusal.NotALeaf) (and_from (ltb i (length ns)) (is_leaf ns i) (lt-ltb i (length ns) h.within) h.leaf))
