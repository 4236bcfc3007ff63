use Rattle.reading.proofs.Agree.{trace_is_striping_lem}
use Rattle.reading.proofs.trace_is_striping.Goals as goal

pub returns : goal.returns
returns c = trace_is_striping_lem
