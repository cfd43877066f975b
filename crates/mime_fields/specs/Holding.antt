-- A parameter's value as far as a boundary can hold it.
use Rattle.std.specs.Prelude.{ℕ, List, length, nat_le, if◌then◌else◌}
use Rattle.mime_fields.specs.declared.held.Held.{Held}
use Rattle.mime_fields.specs.declared.held.Held.TheVariants as helds

abbrev pub held : List ℕ → Held
held text = if nat_le (length text) 70 then helds.Whole text else helds.TooLong
