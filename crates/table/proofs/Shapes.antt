-- Tables that meet the rules, and tables that have a node against them.
use Rattle.std.proofs.Common.{◌≡◌, ℕ, zero, suc, ◌<◌, true, false, cond, List, length, Ok, Err, sym, ◌∙◌, inl, inr, add-one, arith}
use Rattle.std.proofs.lemmas.Bool.{and_left, and_right, and_parts, cond-false, cond-true, cases_lt, both_ways}
use Rattle.table.specs.declared.node.Node.{Node}
use Rattle.table.specs.declared.refusal.Refusal.{Refusal}
use Rattle.table.specs.declared.node.Source.{Source}
use Rattle.table.specs.Kinds.{kind_of}
use Rattle.table.specs.Table.{line, among, parent_of, children, node_at, few, each_below, placed, kind_fits, node_fits, table_holds, leaves, Rising}
use Rattle.table.specs.Buffers.{node_held, buffers_hold, survey_answer}
use Rattle.table.proofs.Counts.{each_stop}
use Rattle.table.proofs.Lines.{among_low}

pub misfit : (ns : List Node) (i : ℕ) → i < length ns → node_fits ns i ≡ false → table_holds ns ≡ false
misfit ns i l e = and_right (few ns) (each_below (length ns) (node_fits ns)) (each_stop (node_fits ns) (length ns) i l e)

pub misplaced : (ns : List Node) (i : ℕ) → i < length ns → placed ns i ≡ false → table_holds ns ≡ false
misplaced ns i l e = misfit ns i l (and_left (placed ns i) (kind_fits (kind_of (node_at ns i).kind) (node_at ns i).size (children ns i) (length (line ns i))) e)

-- one node more that stands where it may
pub rising_more : (ns : List Node) (i : ℕ) → Rising ns i → placed ns i ≡ true → Rising ns (suc i)
rising_more ns i r e j p l =
    elim (cases_lt j i) [
      | inl k ↦ r j p k
      | inr k ↦ (let s : j ≡ i = omega arith in rw s (here i r e (omega arith)))
    ]
  where
    here : (i : ℕ) → Rising ns i → placed ns i ≡ true → 0 < i → parent_of ns i < i
    here zero r e p = absurd (omega arith)
    here (suc i) r e p =
        elim (cases_lt i (parent_of ns (suc i))) [
          | inl k ↦ absurd (both_ways (among (parent_of ns (suc i)) (line ns i)) (among_low ns (parent_of ns (suc i)) (length ns) i k (rw (add-one i) r)) e)
          | inr k ↦ omega arith
        ]

rising_below : (ns : List Node) (n : ℕ) → each_below n (node_fits ns) ≡ true → Rising ns n
rising_below ns zero e = λ j p l. absurd (omega arith)
rising_below ns (suc n) e =
    let p = and_parts (each_below n (node_fits ns)) (node_fits ns n) e in
    rising_more ns n (rising_below ns n p.0) (and_parts (placed ns n) (kind_fits (kind_of (node_at ns n).kind) (node_at ns n).size (children ns n) (length (line ns n))) p.1).0

-- in a table that meets the rules each node but the root stands behind its parent
pub holds_rising : (ns : List Node) → table_holds ns ≡ true → Rising ns (length ns)
holds_rising ns e = rising_below ns (length ns) (and_parts (few ns) (each_below (length ns) (node_fits ns)) e).1

pub bad_buffers : (s : Source) (i : ℕ) → table_holds s.nodes.now ≡ true → i < length s.nodes.now → false ≡ node_held s i → Err Refusal.Buffers ≡ survey_answer s
bad_buffers s i h l e =
    sym (cond-true (table_holds s.nodes.now) (cond (buffers_hold s) (Ok (leaves s.nodes.now)) (Err Refusal.Buffers)) (Err Refusal.Table) h
    ∙ cond-false (buffers_hold s) (Ok (leaves s.nodes.now)) (Err Refusal.Buffers) (each_stop (node_held s) (length s.nodes.now) i l (sym e)))
