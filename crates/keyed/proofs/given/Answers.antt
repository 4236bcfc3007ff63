use Rattle.std.proofs.Common.{[], sym}
use Rattle.keyed.proofs.Parts.{first_found, second_found, none_found}
use Rattle.keyed.proofs.given.Goals as goal
use Rattle.keyed.proofs.given.Goals.{in-Some+else-is_some, in_default}

pub returns-then-is_some : goal.returns-then-is_some
returns-then-is_some c = second_found c.args.key c.texts-word-items.result.now c.args.words.now c.loop-word.word-index _ c.in-Some.value c.loop-word.found c.texts-word-items.ensures c.loop-word-test.true (sym c.if-is_some.ensures) c.in-Some.ensures c.loop-word.invariant

pub loop-word-preserved : goal.loop-word-preserved
loop-word-preserved c = elim c.match-value_of.branch [
  | in-Some+else-is_some w ↦ first_found c.args.key c.texts-word-items.result.now c.loop-word.word-index _ w.in-Some.value c.loop-word.found _ c.loop-word-test.true (sym w.if-is_some.ensures) w.found-is w.in-Some.ensures c.loop-word.invariant
  | in_default w ↦ none_found c.args.key c.texts-word-items.result.now c.loop-word.word-index (record { ref_ptr = (0, 0); now = [] }) c.loop-word.found _ c.loop-word-test.true w.found-is w.in_default.ensures c.loop-word.invariant
]
