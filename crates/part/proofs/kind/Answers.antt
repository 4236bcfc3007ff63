use Rattle.std.proofs.Common.{sym, ◌∙◌, rules}
use Rattle.std.proofs.lemmas.Iterator.{YieldsList-from_slice}
use Rattle.std.proofs.lemmas.Iterator.Search.{position_from_yields_List}
use Rattle.part.proofs.KindWords.{has_word, kind_found, none_found}
use Rattle.part.proofs.kind.Goals as goal

pub returns-in-Some : goal.returns-in-Some
returns-in-Some c =
    kind_found c.args.text.now c.in-Some.number (sym c.in-Some.is ∙ position_from_yields_List (has_word c.args.text.now) _ _ c.position-number.result c.position-number.ensures.ran (YieldsList-from_slice _ c.iter.ensures.rest) (λ x b q k. search rules))

pub returns-in-None : goal.returns-in-None
returns-in-None c =
    none_found c.args.text.now c.read.result (sym c.in-None.is ∙ position_from_yields_List (has_word c.args.text.now) _ _ c.position-number.result c.position-number.ensures.ran (YieldsList-from_slice _ c.iter.ensures.rest) (λ x b q k. search rules)) c.read.ensures
