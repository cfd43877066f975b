-- Refusals of a place, as refusals of the whole file.
use Rattle.std.specs.Prelude.{◌≡◌}
use Rattle.model_storage.specs.declared.places.PlaceError.{PlaceError}
use Rattle.model_storage.specs.declared.places.PlaceError.TheVariants as place
use Rattle.model_storage.specs.declared.places.ScanError.{ScanError}
use Rattle.model_storage.specs.declared.places.ScanError.TheVariants as scan

-- the file's refusal at a place
abbrev pub refusal_of : PlaceError → ScanError
refusal_of (place.Truncated offset) = scan.Truncated offset
refusal_of (place.BadMessage offset) = scan.BadMessage offset

abbrev pub HasCause : PlaceError → ScanError → Type 0
HasCause cause error = error ≡ refusal_of cause
