use Rattle.std.proofs.Common.{ℕ, List, [], ◌∷◌, Option, sym, ap, ◌∙◌}
use Rattle.std.specs.Option.{option_copied}
use Rattle.keyed.specs.Keyed.{after, further}
use Rattle.keyed.proofs.Fronts.{stripped}
use Rattle.keyed.proofs.value_of.Goals as goal

pub returns : goal.returns
returns c =
    let key = stripped c.as_bytes.result.now c.args.word.now c.strip_prefix.result c.strip_prefix.ensures.cases ∙ ap (λ (front : List ℕ). after front c.args.word.now) (c.as_bytes.ensures.value ∙ c.word.ensures) in
    stripped (61 ∷ []) c.in_ok-strip_prefix.field-0.now c.strip_prefix-2.result c.strip_prefix-2.ensures.cases ∙ ap (λ (o : Option (List ℕ)). further (61 ∷ []) o) (sym (ap option_copied c.in_ok-strip_prefix.was) ∙ key)
