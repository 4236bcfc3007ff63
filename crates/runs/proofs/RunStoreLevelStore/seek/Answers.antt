use Rattle.std.proofs.Common.{arith}
use Rattle.runs.proofs.RunStoreLevelStore.seek.Goals as goal

pub returns-then-place-self : goal.returns-then-place-self
returns-then-place-self c = λ within. (λ here. c.find.ensures, λ past. absurd (omega (arith, c.find.ensures.within)))
