use Rattle.std.proofs.Common.{ap, ◌∙◌, length-set, arith, rules}
use Rattle.std.proofs.lemmas.List.Sums.{sum_by-take-drop}
use Rattle.histogram.specs.Tallies.{occurrences}
use Rattle.histogram.proofs.Counts.{one, counted_off, one_more}
use Rattle.histogram.proofs.Same.{passed_on}
use Rattle.histogram.proofs.HistogramLevelStore.cut_back.Goals as goal

pub loop-level-init : goal.loop-level-init
loop-level-init g c =
    let s = c.args.self.now in
    let rest = c.into_iter-level-iterator.ensures.into_iter_gives ∙ c.starting_at-level-items.ensures in
    (search rules, λ k h. omega (arith, s.counted k h, sum_by-take-drop (one k) (g.S.LevelStore.meaning s.below).levels c.args.kept, ap (occurrences k) rest))

pub loop-level-preserved : goal.loop-level-preserved
loop-level-preserved g c =
    let x = c.in-Some.level in
    let counts = c.loop-level.counts in
    let long = c.loop-level.invariant.0 in
    let off = counted_off counts x c.slot.result (search rules) c.slot.ensures.slot (omega arith) in (
      length-set counts c.slot.result _ ∙ long,
      λ k h. omega (arith, c.loop-level.invariant.1 k h, off k, one_more k c.loop-level.level-iterator c.next.new.self x c.in-Some.ensures.steps),
    )

pub returns-in_err-cut_back-clause-levels : goal.returns-in_err-cut_back-clause-levels
returns-in_err-cut_back-clause-levels g c = passed_on _ c.args.self.now c.cut_back.new.self _ _ _ c.from_residual.result c.from_residual.ensures.1 c.in_err-cut_back.ensures.levels
