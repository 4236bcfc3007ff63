use Rattle.std.proofs.Common.{length-set, ◌∙◌, arith, rules}
use Rattle.histogram.proofs.Counts.{counted_on, one_more}
use Rattle.histogram.proofs.Histogram.new.Goals as goal

pub loop-level-preserved : goal.loop-level-preserved
loop-level-preserved g c =
    let x = c.in-Some.level in
    let counts = c.loop-level.counts in
    let long = c.loop-level.invariant.0 in
    let on = counted_on counts x c.slot.result (search rules) c.slot.ensures.slot (omega arith) in (
      length-set counts c.slot.result _ ∙ long,
      λ k h. omega (arith, c.loop-level.invariant.1 k h, on k, one_more k c.loop-level.level-iterator c.next.new.self x c.in-Some.ensures.steps),
    )
