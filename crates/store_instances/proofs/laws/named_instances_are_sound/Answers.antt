use Rattle.store_instances.proofs.SoundInstanceLemmas.{instances_sound}
use Rattle.store_instances.proofs.laws.named_instances_are_sound.Goals as goal

pub returns : goal.returns
returns c = instances_sound c.meanings_are_sound.ensures.map
