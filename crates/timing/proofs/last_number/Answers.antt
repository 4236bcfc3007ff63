use Rattle.std.proofs.Common.{rules, sym, subst, map, string_bytes}
use Rattle.std.specs.List.{FoldsTo}
use Rattle.std.proofs.lemmas.List.{at_drop_more}
use Rattle.timing.specs.Words.{NumberOr}
use Rattle.timing.proofs.last_number.Goals as goal

-- what this word makes of the number, and those behind it of that
pub loop-word-preserved : goal.loop-word-preserved
loop-word-preserved g c = λ n rest. c.loop-word.invariant n
    (subst (λ words. FoldsTo (NumberOr c.args.most) c.loop-word.last words n)
    (sym (at_drop_more (map string_bytes) c.args.words.now c.loop-word.word-index c.word-item.result c.loop-word-test.true))
    (c.number_or-last.result, search rules, rest))
