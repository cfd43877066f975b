use Rattle.model_storage.proofs.MetadataLemmas.{first_bad_same, no_bad_line}
use Rattle.model_storage.proofs.metadata.first_bad_line_is_one.Goals as goal

pub returns : goal.returns
returns c = record { one = first_bad_same; none = no_bad_line }
