-- What a reader of metadata lines gives.
use Rattle.std.specs.Prelude.{ℕ, List, Result, Ok, Err}
use Rattle.model_storage.specs.declared.metadata_value.Metadata.{Metadata}
use Rattle.model_storage.specs.Metadata.{IsMetadataText, IsFirstBadLine}
use Rattle.dbox_metadata.specs.declared.error.MetaError.{MetaError}
use Rattle.dbox_metadata.specs.declared.error.MetaError.TheVariants.{BadLine, NoMemory}

-- what a reading of the text gives, but for lack of memory: the metadata that it says, or its first bad line
abbrev pub MetadataGives : List ℕ → Result Metadata MetaError → Type 0
MetadataGives text (Ok meta) = IsMetadataText text meta
MetadataGives text (Err (BadLine offset)) = IsFirstBadLine text offset
MetadataGives text (Err NoMemory) = ⊥

-- some text says this metadata
abbrev pub IsSaidByText : Metadata → Type 0
IsSaidByText meta = (text : List ℕ) × IsMetadataText text meta
