use Rattle.std.proofs.Common.{ap, ◌∙◌, arith, w16, SFits, rules}
use Rattle.std.proofs.lemmas.Int.{to_z-of_z}
use Rattle.runs.specs.declared.Run.{Run}
use Rattle.runs.specs.Kept.{records}
use Rattle.runs.proofs.Spots.{located-level}
use Rattle.runs.proofs.RunStoreLevelStore.at.Goals as goal

pub returns : goal.returns
returns c =
    let t = c.find-spot.result in
    let r = c.at.result in
    let fits : SFits w16 r.level = search rules in
    (omega arith, λ d. to_z-of_z w16 _ fits ∙ ap (λ (r : Run). r.level) (c.at.ensures r) ∙ located-level (records c.args.self.now) c.args.place t c.find-spot.ensures r d)
