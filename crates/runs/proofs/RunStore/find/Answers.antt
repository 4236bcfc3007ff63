use Rattle.std.proofs.Common.{◌≡◌, ℕ, ◌+◌, ◌-◌, ◌<◌, List, [], ◌∷◌, ◌++◌, length, take, sym, refl, ap, ◌∙◌, arith}
use Rattle.std.proofs.lemmas.List.{length-append, take_at, take-take}
use Rattle.runs.specs.declared.Run.{Run}
use Rattle.runs.specs.Runs.{spread}
use Rattle.runs.specs.Kept.{records}
use Rattle.runs.proofs.Spreads.{long-push}
use Rattle.runs.proofs.RunStore.find.Invariants.{Passed}
use Rattle.runs.proofs.RunStore.find.Goals as goal

passed_more : (items xs ys : List Run) (last : Run) (n place : ℕ) → Passed items xs n place → xs ≡ ys ++ (last ∷ []) → place < n - last.count → Passed items ys (n - last.count) place
passed_more items xs ys last n place on e more =
    let long : length xs ≡ length ys + 1 = ap length e ∙ length-append ys (last ∷ []) in
    let levels : n ≡ length (spread ys) + last.count = on.before ∙ ap (λ q. length (spread q)) e ∙ long-push ys last in
    record {
      front = sym (take_at ys (last ∷ []) (length ys) refl) ∙ ap (take (length ys)) (sym e ∙ on.front) ∙ take-take (length ys) (length xs) items (omega arith);
      within = omega (arith, on.within);
      before = omega arith;
      ahead = more;
    }

pub loop-run-preserved : goal.loop-run-preserved
loop-run-preserved c = passed_more (records c.args.self.now) c.loop-run.runs.now c.in-Some.front.now c.in-Some.run'.now _ c.args.place c.loop-run.invariant c.in-Some.ensures.cases.0 (omega arith)
