use Rattle.std.proofs.Common.{length, sym, ap, ◌∙◌}
use Rattle.std.proofs.lemmas.List.FromFn.{length-range_with_len}
use Rattle.walk.specs.Frames.{slots_from}
use Rattle.walk.proofs.visit.Stretch.values.Goals as goal

pub returns-in-Some-clause-count : goal.returns-in-Some-clause-count
returns-in-Some-clause-count c = sym (ap (λ o. length (slots_from o c.args.self.now.count)) c.in-Some.is ∙ length-range_with_len _ c.args.self.now.count)
