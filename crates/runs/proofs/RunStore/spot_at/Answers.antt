use Rattle.std.proofs.Common.{◌≡◌, ◌<◌, ◌≤◌, length, get_or, ap, ◌∙◌, arith}
use Rattle.std.proofs.lemmas.List.{take_all, get_or_default}
use Rattle.std.proofs.lemmas.List.Elements.{All-get_or}
use Rattle.runs.specs.declared.Run.{Run}
use Rattle.runs.specs.Runs.{spread}
use Rattle.runs.specs.Kept.{records}
use Rattle.runs.proofs.Spreads.{long_next}
use Rattle.runs.proofs.RunStore.spot_at.Goals as goal

pub returns-in-Some : goal.returns-in-Some
returns-in-Some c = λ within.
    let items = records c.args.self.now in
    let i = c.args.index in
    let r = c.in-Some.run'.now in
    let here : i < length items = omega (arith, c.in-Some.ensures.lookup.3.0, ap length c.as_slice.ensures) in
    let is : r ≡ get_or items i r = c.in-Some.ensures.lookup.1 ∙ ap (λ xs. get_or xs i r) c.as_slice.ensures in
    let count : r.count ≡ (get_or items i r).count = ap (λ (r : Run). r.count) is in
    let some = All-get_or (λ (r : Run). 0 < r.count) items i r here c.args.self.now.records.none_empty in (
      λ h. record {
        within = here;
        at = omega (arith, long_next items i r here);
        inside = λ e. omega (arith, ap (λ (r : Run). r.count) (get_or_default items i e r here));
      },
      λ past. absurd (omega arith),
    )

pub returns-in-None : goal.returns-in-None
returns-in-None c = λ within.
    let items = records c.args.self.now in
    let past : length items ≤ c.args.index = omega (arith, c.in-None.ensures.lookup.3, ap length c.as_slice.ensures) in
    (λ here. absurd (omega arith), λ h. omega (arith, ap (λ q. length (spread q)) (take_all c.args.index items past)))
