use Rattle.model_storage.proofs.MetadataLemmas.{metadata_same, metadata_text_same}
use Rattle.model_storage.proofs.metadata.metadata_is_one.Goals as goal

pub returns : goal.returns
returns c = record { lines = metadata_same; text = metadata_text_same }
