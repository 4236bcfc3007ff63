use Rattle.tally.proofs.Traces.{tallied}
use Rattle.tally.proofs.walk.tally.Goals as goal

pub returns : goal.returns
returns c = tallied c.args.slots c.tally_at.result c.tally_at.ensures
