use Rattle.table.proofs.Small.{levels_small}
use Rattle.table.proofs.levels_are_small.Goals as goal

pub returns : goal.returns
returns c = levels_small
