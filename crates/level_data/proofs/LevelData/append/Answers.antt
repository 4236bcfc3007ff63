use Rattle.std.proofs.Common.{◌≡◌, ◌+◌, ◌++◌, length, replicate, sym, refl, ap, ◌∙◌, arith, w16, SFits, to_z, rules}
use Rattle.std.proofs.lemmas.Int.{to_z-of_z}
use Rattle.std.proofs.lemmas.List.{length-replicate, replicate-append-replicate}
use Rattle.level_data.specs.Forms.{form_levels}
use Rattle.level_data.specs.Data.{data_levels}
use Rattle.level_data.proofs.Materials.{appended_list}
use Rattle.level_data.proofs.LevelData.append.Goals as goal

pub returns-in-Uniform-clause-levels : goal.returns-in-Uniform-clause-levels
returns-in-Uniform-clause-levels c =
    let d = c.args.self.now in
    let u = c.in-Uniform in
    let level = c.args.level in
    let count = c.args.count in
    let fits : SFits w16 u.value = search rules in
    let same : u.value ≡ level = sym (to_z-of_z w16 u.value fits) ∙ ap (to_z w16) c.if-value-level.true ∙ to_z-of_z w16 level c.ranges.level in
    let held : data_levels d ≡ replicate u.held u.value = ap (λ f. form_levels f d.list) u.is in
    record {
      room = omega (arith, ap length held, length-replicate u.held u.value, c.most.ensures, c.length.ensures);
      levels = ap (replicate (u.held + count)) (to_z-of_z w16 u.value fits)
          ∙ sym (replicate-append-replicate u.held count u.value) ∙ ap (λ q. q ++ replicate count u.value) (sym held)
          ∙ ap (λ v. data_levels d ++ replicate count v) same;
      most = refl;
    }

pub returns-in-Materialized-clause-levels : goal.returns-in-Materialized-clause-levels
returns-in-Materialized-clause-levels c =
    let fits : SFits w16 c.args.level = c.ranges.level in
    appended_list c.args.self.now _ _ c.in-Materialized.is c.args.level c.args.count c.append.result (simp to_z-of_z at c.append.ensures.list)
