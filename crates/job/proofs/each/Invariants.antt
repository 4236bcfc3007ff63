-- each word so far has given its item
use Rattle.std.proofs.Common.{map, take, vec_items}
use Rattle.std.specs.Fn.{FnReturnsAt}
use Rattle.job.specs.Lines.{Each}
use Rattle.job.proofs.each.Given as goal

abbrev pub invariant-loop-word : goal.invariant-loop-word
invariant-loop-word g l = Each (FnReturnsAt g.F.Fn l.read) (map (λ w. w.now) (take l.word-index l.word-items)) (vec_items l.items)
