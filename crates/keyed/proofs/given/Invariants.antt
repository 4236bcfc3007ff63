-- what was found is the value of the words so far
use Rattle.keyed.proofs.Parts.{Found}
use Rattle.keyed.proofs.given.Given as goal

abbrev pub invariant-loop-word : goal.invariant-loop-word
invariant-loop-word l = Found l.key l.word-items l.word-index l.found
