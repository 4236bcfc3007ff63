use Rattle.std.proofs.Common.{◌≡◌, length, replicate, take, sym, refl, ap, ◌∙◌, arith, w16, SFits, rules}
use Rattle.std.proofs.lemmas.Int.{to_z-of_z}
use Rattle.std.proofs.lemmas.List.{length-replicate, take-replicate}
use Rattle.level_data.specs.Forms.{form_levels}
use Rattle.level_data.specs.Data.{data_levels}
use Rattle.level_data.proofs.LevelDataLevelStore.cut_back.Goals as goal

pub returns-in-Uniform-clause-levels : goal.returns-in-Uniform-clause-levels
returns-in-Uniform-clause-levels c =
    let d = c.args.self.now in
    let u = c.in-Uniform in
    let held = u.field-1 in
    let kept = c.args.kept in
    let fits : SFits w16 u.value = search rules in
    let levels : data_levels d ≡ replicate held u.value = ap (λ f. form_levels f d.list) u.is in
    record {
      inside = omega (arith, c.length.ensures);
      levels = ap (replicate kept) (to_z-of_z w16 u.value fits)
          ∙ sym (ap (take kept) levels ∙ take-replicate kept held u.value (omega (arith, c.length.ensures, ap length levels, length-replicate held u.value)));
      most = refl;
    }
