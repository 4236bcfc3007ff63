use Rattle.std.proofs.Common.{length, length-set, ap, ◌∙◌, arith}
use Rattle.runs.specs.Runs.{spread}
use Rattle.runs.specs.Kept.{records}
use Rattle.runs.proofs.RunStoreLevelStore.put.Goals as goal

pub invariant_of-self : goal.invariant_of-self
invariant_of-self c =
    let s = c.args.self.now in
    let long = ap length (c.split.ensures.levels c.args.place c.find-spot.ensures) ∙ length-set (spread (records s)) c.args.place _ in
    record { counted = omega (arith, s.counted, long); fits = omega (arith, s.fits, c.split.ensures.most) }
