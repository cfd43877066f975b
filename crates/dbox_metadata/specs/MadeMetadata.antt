-- Metadata as a store makes it.
use Rattle.std.specs.Prelude.{◌≡◌, ◌<◌, ◌^◌, [], length, IfSome}
use Rattle.std.specs.List.{AllByRecursion}
use Rattle.mdbox_base.specs.Words.{IsName, IsOctets}
use Rattle.model_storage.specs.declared.metadata_value.Metadata.{Metadata}
use Rattle.model_storage.specs.References.{ReferenceFits}

-- each part is what a line can have, and there is no unknown line
pub record IsMadeMetadata (meta : Metadata) : Type 0 where
  pub received : IfSome meta.received (λ n. n < 2 ^ 64)
  pub physical : IfSome meta.physical (λ n. n < 2 ^ 64)
  pub virtual_size : IfSome meta.virtual_size (λ n. n < 2 ^ 64)
  pub guid : IfSome meta.guid (λ guid. (length guid.0 ≡ 16) × IsOctets guid.0)
  pub origin : IfSome meta.origin IsName
  pub refs : AllByRecursion ReferenceFits meta.refs
  pub unknown : meta.unknown ≡ []
