-- What `measure` knows once a leaf is located and its range accepted.
use Rattle.std.proofs.Common.{◌≡◌, ℕ, ◌-◌, ◌<◌, ◌≤◌, true, cond, ltb, leb, List, length, take, replicate, Ok, Err, Result, sym, refl, ap, ◌∙◌, subst, inl, inr, arith}
use Rattle.std.proofs.lemmas.List.{take_at, get_or-map}
use Rattle.std.proofs.lemmas.Bool.{and_parts, and_from, ltb-true, cond-true, cond-false, cases_Bool, le-leb}
use Rattle.table.specs.declared.node.Node.{Node}
use Rattle.table.specs.declared.node.Source.{Source}
use Rattle.table.specs.declared.refusal.Refusal.{Refusal}
use Rattle.table.specs.declared.leaf_path.LeafPath.{LeafPath}
use Rattle.table.specs.Table.{line, node_at, table_holds, is_leaf}
use Rattle.table.specs.Buffers.{buffers_hold}
use Rattle.table.specs.Paths.{path_node, no_path_node, nodes_to, leaf_path, leaf_answer, locate_answer}
use Rattle.table.proofs.Laws.{line_first}
use Rattle.table.proofs.Paths.{line-some}
use Rattle.reading.specs.Slots.{held_by}
use Rattle.reading.specs.Reading.{node_on}
use Rattle.reading.specs.Trace.{trace}
use Rattle.reading.specs.Sound.{Sound}
use Rattle.reading.proofs.Sources.{sources_are_sound_lem}
use Rattle.tally.specs.declared.measured.Measured.{Measured}
use Rattle.walk.specs.Measured.{outcome, names_leaf, holds_rows, measure_answer}

pub record Located (s : Source) (leaf : ℕ) (p : LeafPath) : Type 0 where
  pub table : table_holds s.nodes.now ≡ true
  pub buffers : buffers_hold s ≡ true
  pub names : names_leaf s leaf ≡ true
  pub path : p ≡ leaf_path s.nodes.now leaf

never : (p : LeafPath) (r : Refusal) → ◌≡◌ {A = Result LeafPath Refusal} (Ok p) (Err r) → ⊥
never p r e = let z : ◌≡◌ {A = ℕ} 0 1 = cc in omega arith

pub located : (s : Source) (leaf : ℕ) (p : LeafPath) → Ok p ≡ locate_answer s leaf → Located s leaf p
located s leaf p e =
    let ns = s.nodes.now in
    let inner : Result LeafPath Refusal = cond (buffers_hold s) (leaf_answer ns leaf) (Err Refusal.Buffers) in
    elim (cases_Bool (table_holds ns)) [
      | inr h ↦ absurd (never p Refusal.Table (e ∙ cond-false (table_holds ns) inner (Err Refusal.Table) h))
      | inl h ↦ elim (cases_Bool (buffers_hold s)) [
        | inr b ↦ absurd (never p Refusal.Buffers (e ∙ cond-true (table_holds ns) inner (Err Refusal.Table) h ∙ cond-false (buffers_hold s) (leaf_answer ns leaf) (Err Refusal.Buffers) b))
        | inl b ↦
            let f = e ∙ cond-true (table_holds ns) inner (Err Refusal.Table) h ∙ cond-true (buffers_hold s) (leaf_answer ns leaf) (Err Refusal.Buffers) b in
            elim (cases_Bool (names_leaf s leaf)) [
              | inr l ↦ absurd (never p Refusal.NotALeaf (f ∙ cond-false (names_leaf s leaf) (Ok (leaf_path ns leaf)) (Err Refusal.NotALeaf) l))
              | inl l ↦
                  let g : ◌≡◌ {A = Result LeafPath Refusal} (Ok p) (Ok (leaf_path ns leaf)) = f ∙ cond-true (names_leaf s leaf) (Ok (leaf_path ns leaf)) (Err Refusal.NotALeaf) l in
                  let q : p ≡ leaf_path ns leaf = cc in
                  record { table = h; buffers = b; names = l; path = q }
            ]
      ]
    ]

module _ (s : Source) (leaf : ℕ) (p : LeafPath) (h : Located s leaf p) where
  abbrev ns : List Node
  ns = s.nodes.now

  pub leaf_low : leaf < length ns
  leaf_low = ltb-true leaf (length ns) (and_parts (ltb leaf (length ns)) (is_leaf ns leaf) h.names).0

  pub nodes_are : take p.count p.nodes ≡ nodes_to ns leaf
  nodes_are =
      ap (λ q. take q.count q.nodes) h.path
      ∙ take_at (nodes_to ns leaf) (replicate (8 - length (nodes_to ns leaf)) no_path_node) (length (nodes_to ns leaf)) refl

  pub sound_along : Sound (held_by s) (take p.count p.nodes)
  sound_along =
      subst (Sound (held_by s)) (sym nodes_are)
      (sources_are_sound_lem s leaf h.table h.buffers leaf_low (and_parts (ltb leaf (length ns)) (is_leaf ns leaf) h.names).1)

  pub root_slots : (node_on (take p.count p.nodes) 0).slots ≡ (node_at ns 0).slots
  root_slots =
      let l = leaf_low in
      let one = line-some ns leaf (omega arith) in
      ap (λ q. (node_on q 0).slots) nodes_are ∙ ap (λ n. n.slots) (get_or-map (path_node ns) (line ns leaf) 0 0 no_path_node (omega arith)) ∙ ap (λ i. (node_at ns i).slots) (line_first ns h.table leaf leaf_low)

  pub answered : (from to : ℕ) → from ≤ to → to ≤ (node_at ns 0).slots → (r : Result Measured Refusal) → r ≡ outcome (trace (held_by s) (take p.count p.nodes) from (to - from)) → r ≡ measure_answer s leaf from to
  answered from to a b r e =
      let range : holds_rows s from to ≡ true = and_from (leb from to) (leb to (node_at ns 0).slots) (le-leb from to a) (le-leb to (node_at ns 0).slots b) in
      let out : Result Measured Refusal = outcome (trace (held_by s) (nodes_to ns leaf) from (to - from)) in
      let ranged : Result Measured Refusal = cond (holds_rows s from to) out (Err Refusal.RowRange) in
      let named : Result Measured Refusal = cond (names_leaf s leaf) ranged (Err Refusal.NotALeaf) in
      let buffered : Result Measured Refusal = cond (buffers_hold s) named (Err Refusal.Buffers) in
      e ∙ ap (λ q. outcome (trace (held_by s) q from (to - from))) nodes_are
      ∙ sym (cond-true (table_holds ns) buffered (Err Refusal.Table) h.table ∙ cond-true (buffers_hold s) named (Err Refusal.Buffers) h.buffers
      ∙ cond-true (names_leaf s leaf) ranged (Err Refusal.NotALeaf) h.names ∙ cond-true (holds_rows s from to) out (Err Refusal.RowRange) range)
