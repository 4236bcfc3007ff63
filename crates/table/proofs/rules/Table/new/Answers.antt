use Rattle.std.proofs.Common.{◌≡◌, ℕ, Bool, List, length, refl, sym, ◌∙◌, arith}
use Rattle.std.proofs.lemmas.Bool.{and_from, and_right}
use Rattle.table.specs.declared.node.Node.{Node}
use Rattle.table.specs.Kinds.{kind_of}
use Rattle.table.specs.Table.{node_at, node_fits, is_leaf, placed, kind_fits, children, line}
use Rattle.table.proofs.Counts.{each_more, many_low}
use Rattle.table.proofs.Shapes.{misfit, misplaced}
use Rattle.table.proofs.rules.Table.new.Goals as goal

abbrev by_kind : List Node → ℕ → Bool
by_kind ns i = kind_fits (kind_of (node_at ns i).kind) (node_at ns i).size (children ns i) (length (line ns i))

pub overflow_cast-result : goal.overflow_cast-result
overflow_cast-result c = omega (arith, many_low (is_leaf c.args.nodes.now) (length c.args.nodes.now), c.count_leaves.ensures)

pub returns-in_default : goal.returns-in_default
returns-in_default c =
    let here = rw (c.loop-i.invariant.0, c.loop-i.invariant.1) at c.in_default.ensures in
    (refl, misplaced c.args.nodes.now c.loop-i.i c.loop-i-test.true here)

pub returns-then-not-fits : goal.returns-then-not-fits
returns-then-not-fits c =
    let ns = c.args.nodes.now in
    let i = c.loop-i.i in
    let same : c.in-Some.more.nodes.now ≡ ns = c.in-Some.ensures.1 ∙ c.loop-i.invariant.0 in
    let here = rw same at c.if-not-fits.ensures in
    (refl, misfit ns i c.loop-i-test.true (and_right (placed ns i) (by_kind ns i) (sym here)))

pub loop-i-preserved : goal.loop-i-preserved
loop-i-preserved c =
    let ns = c.args.nodes.now in
    let i = c.loop-i.i in
    let same : c.in-Some.more.nodes.now ≡ ns = c.in-Some.ensures.1 ∙ c.loop-i.invariant.0 in
    let stands = rw (c.loop-i.invariant.0, c.loop-i.invariant.1) at c.in-Some.ensures.0 in
    let here = rw same at c.if-not-fits.ensures in
    (same, omega (arith, c.in-Some.ensures.2, c.loop-i.invariant.1), each_more (node_fits ns) i c.loop-i.invariant.2 (and_from (placed ns i) (by_kind ns i) stands (sym here)))
