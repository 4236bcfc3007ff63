use Rattle.std.proofs.Common.{is_some, ◌∙◌, rules}
use Rattle.std.proofs.lemmas.Iterator.{YieldsList-from_slice}
use Rattle.std.proofs.lemmas.Iterator.Search.{any_from_yields_List}
use Rattle.keyed.specs.Keyed.{value_of}
use Rattle.keyed.proofs.Places.{list_any-one_of}
use Rattle.keyed.proofs.is_one_of.Goals as goal

pub returns : goal.returns
returns c =
    any_from_yields_List (λ key. is_some (value_of key c.args.word.now)) _ _ c.any.result c.any.ensures.ran (YieldsList-from_slice c.args.keys.now c.iter.ensures.rest) (λ x b q k. search rules) ∙ list_any-one_of c.args.keys.now c.args.word.now
