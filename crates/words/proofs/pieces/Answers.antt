use Rattle.std.proofs.Common.{ap, ◌∙◌, rules, tests}
use Rattle.std.specs.Slice.Iter.{split_rest, split_done, split_callee}
use Rattle.std.proofs.lemmas.Iterator.Splits.{YieldsList-from_slice_split}
use Rattle.std.proofs.lemmas.Iterator.Consumers.{map_from_collect, YieldsList-from_filter}
use Rattle.words.specs.Words.{blank}
use Rattle.words.proofs.Parting.{some_bytes, parted_is}
use Rattle.words.proofs.pieces.Goals as goal

pub returns : goal.returns
returns c =
    let split = c.filter.ensures.source in
    rw (parted_is c.args.text.now) at (map_from_collect _ c.collect.ensures.ran (YieldsList-from_filter _ some_bytes (YieldsList-from_slice_split _ blank c.args.text.now (ap split_rest split ∙ c.split.ensures.rest) (ap split_done split ∙ c.split.ensures.done) (ap split_callee split ∙ c.split.ensures.closure) (λ x b q k. search rules)) c.filter.ensures.closure (λ x b q k. search (rules, tests))))
