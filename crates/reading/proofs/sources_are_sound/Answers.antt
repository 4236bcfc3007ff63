use Rattle.reading.proofs.Sources.{sources_are_sound_lem}
use Rattle.reading.proofs.sources_are_sound.Goals as goal

pub returns : goal.returns
returns c = sources_are_sound_lem
