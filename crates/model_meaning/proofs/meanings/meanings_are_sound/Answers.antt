use Rattle.model_meaning.proofs.meanings.meanings_are_sound.Goals as goal
use Rattle.model_meaning.proofs.BoxSoundLemmas.{box_sound}
use Rattle.model_meaning.proofs.MapSoundLemmas.{map_sound}
use Rattle.model_meaning.proofs.HighestLemmas.{highest_in_range}

pub returns : goal.returns
returns c = record { mailbox = box_sound; map = map_sound; highest = highest_in_range }
