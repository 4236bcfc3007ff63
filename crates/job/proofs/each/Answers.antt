use Rattle.std.proofs.Common.{[], vec_items, rules}
use Rattle.std.specs.Fn.{FnReturnsAt}
use Rattle.job.proofs.Items.{each_more}
use Rattle.job.proofs.each.Goals as goal

pub loop-word-preserved : goal.loop-word-preserved
loop-word-preserved g c = each_more (FnReturnsAt g.F.Fn c.args.read) c.texts-word-items.result.now c.loop-word.word-index (record { ref_ptr = (0, 0); now = [] }) (vec_items c.loop-word.items) _ c.in_ok-read.field-0 c.loop-word-test.true c.loop-word.invariant (search rules) c.in_ok-push.ensures.items
