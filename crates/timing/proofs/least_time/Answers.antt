use Rattle.std.proofs.Common.{rules, of_calls}
use Rattle.timing.proofs.Turns.{one_before}
use Rattle.timing.proofs.least_time.Goals as goal

-- this run, and those to come, are those that were to come before it
pub loop-before-preserved : goal.loop-before-preserved
loop-before-preserved g c = (search (rules, of_calls), search rules, λ last rest. c.loop-before.invariant.2 last (one_before _ _ _ _ _ last (search rules) (search (rules, of_calls)) rest))
