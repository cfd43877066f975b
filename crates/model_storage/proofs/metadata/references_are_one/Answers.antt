use Rattle.std.proofs.Common.{refl}
use Rattle.model_storage.proofs.MetadataLemmas.{refs_same}
use Rattle.model_storage.proofs.ReferenceLemmas.{references_same}
use Rattle.model_storage.proofs.metadata.references_are_one.Goals as goal

pub returns : goal.returns
returns c = record { reads_back = λ refs some fit. record { some = some; fit = fit; spelled = refl }; text = references_same; written = λ text refs h. h.spelled; lines = refs_same }
