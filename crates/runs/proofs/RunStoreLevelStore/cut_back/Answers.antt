use Rattle.std.proofs.Common.{length, ap, arith}
use Rattle.std.proofs.lemmas.List.{length-take-le}
use Rattle.runs.specs.Runs.{spread}
use Rattle.runs.specs.Kept.{records}
use Rattle.runs.proofs.RunStoreLevelStore.cut_back.Goals as goal

pub invariant_of-self : goal.invariant_of-self
invariant_of-self c =
    let s = c.args.self.now in
    let long = ap length (c.trim.ensures.levels c.args.kept c.find-spot.ensures) in
    record { counted = omega (arith, s.counted, long, length-take-le c.args.kept (spread (records s)) (omega (arith, s.counted))); fits = omega (arith, s.fits, c.trim.ensures.most) }
