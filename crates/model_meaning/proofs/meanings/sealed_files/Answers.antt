use Rattle.model_meaning.proofs.meanings.sealed_files.Goals as goal
use Rattle.model_meaning.proofs.SealedLemmas.{sealed_is, sealed_rises}

pub returns : goal.returns
returns c = record { named = sealed_is; rising = sealed_rises }
