use Rattle.std.proofs.Common.{sym, ◌∙◌, rules, tests}
use Rattle.std.proofs.lemmas.Iterator.{YieldsList-from_slice}
use Rattle.std.proofs.lemmas.Iterator.Search.{position_from_yields_List}
use Rattle.keyed.proofs.Places.{is_other, told_at, none_told}
use Rattle.keyed.proofs.only.Goals as goal

pub returns-in-Some : goal.returns-in-Some
returns-in-Some c =
    told_at c.args.keys.now c.args.before c.texts.result.now c.args.words.now c.in-Some.index _ c.texts.ensures (sym c.in-Some.is ∙ position_from_yields_List (is_other c.args.keys.now) _ _ c.position.result c.position.ensures.ran (YieldsList-from_slice _ c.iter.ensures.rest) (λ x b q k. search (rules, tests))) c.saturating_add.ensures

pub returns-in-None : goal.returns-in-None
returns-in-None c =
    none_told c.args.keys.now c.args.before c.texts.result.now c.args.words.now c.texts.ensures (sym c.in-None.is ∙ position_from_yields_List (is_other c.args.keys.now) _ _ c.position.result c.position.ensures.ran (YieldsList-from_slice _ c.iter.ensures.rest) (λ x b q k. search (rules, tests)))
