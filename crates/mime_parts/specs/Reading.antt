-- The state of the reader, against what is found in the message.
use Rattle.std.specs.Prelude.{◌≡◌, ◌≢◌, ◌<◌, ◌≤◌, ◌+◌, ℕ, List, [], ◌∷◌, ◌++◌, length, map, drop, Bool, true, false, Option, Some, None}
use Rattle.model_mime.specs.declared.mime.Part.{Part}
use Rattle.model_mime.specs.Lines.{lines_from}
use Rattle.model_mime.specs.declared.mime.Coding.{Coding}
use Rattle.model_mime.specs.declared.mime.Kind.{Kind}
use Rattle.model_mime.specs.declared.mime.Kind.TheVariants as kinds
use Rattle.model_mime.specs.Parts.{Found, found_in, whole_entity, is_other}
use Rattle.model_mime.specs.Parts.Found.{APart}
use Rattle.mime_parts.specs.ToCome.{to_come, open_found}
use Rattle.mime_parts.specs.declared.reader.Place.{Place}
use Rattle.mime_parts.specs.declared.reader.Place.TheVariants as places
use Rattle.mime_parts.specs.declared.reader.Reader.{Reader}

-- an entity is open on a level that is left, and starts up to there
abbrev pub IsOpen : Place → ℕ → ℕ → Type 0
IsOpen places.Between levels at = Unit {0}
IsOpen (places.Head start) levels at = (0 < levels) × (start ≤ at)
IsOpen (places.Body start body coding other) levels at = start ≤ at

abbrev pub found_parts : List Part → List Found
found_parts parts = map (λ p. APart p) parts

-- What was found up to a place and what is still to come are all that is found.
pub record IsRead (message : List ℕ) (s : Reader) (at : ℕ) : Type 0 where
  pub levels : ℕ
  pub few : levels + length s.stack.items ≡ 64
  pub few_parts : length s.parts.items ≤ 10000
  pub open_here : IsOpen s.place levels at
  pub before : s.before ≤ at
  pub within : at ≤ length message
  pub all : found_parts s.parts.items ++ to_come message 64 s.stack.items s.place s.before (lines_from at (drop at message)) (length message) ≡ found_in message 64 (whole_entity message)

-- the boundary that an entity of this kind opens
abbrev pub boundary_in : Kind → List (List ℕ)
boundary_in (kinds.Multipart b) = b ∷ []
boundary_in _ = []

-- Where the reader stands after a header block that says this: between parts, or in a leaf's body.
abbrev pub after_head : ℕ → ℕ → Coding → Kind → Place
after_head start body coding (kinds.Multipart b) = places.Between
after_head start body coding kind = places.Body start body coding (is_other kind)

-- no multipart and no header block is open
pub record IsOutsideParts (s : Reader) : Type 0 where
  pub alone : s.stack.items ≡ []
  pub body : (start : ℕ) → s.place ≢ places.Head start

-- From a place on no line changes what is found: it is what would be if the message ended there.
abbrev pub ReadingEndsAs : List ℕ → Reader → ℕ → Type 0
ReadingEndsAs message s at =
    (levels : ℕ) → levels + length s.stack.items ≡ 64
    → to_come message 64 s.stack.items s.place s.before (lines_from at (drop at message)) (length message) ≡ open_found message levels s.place [] (length message)

-- a header block is open only on a level that is left
abbrev pub HasLevel : Place → ℕ → Type 0
HasLevel (places.Head start) levels = 0 < levels
HasLevel _ levels = Unit {0}

-- what an open entity gives where it ends
abbrev pub Flushes : Option Part → List ℕ → Place → ℕ → Type 0
Flushes None message p end = (levels : ℕ) → HasLevel p levels → open_found message levels p [] end ≡ []
Flushes (Some part) message p end = (levels : ℕ) → HasLevel p levels → open_found message levels p [] end ≡ APart part ∷ []

-- What is open is ended, and its part added: there are still few; else there are too many.
pub record Ended (message : List ℕ) (old new : Reader) (end : ℕ) (going : Bool) : Type 0 where
  pub stack : new.stack.items ≡ old.stack.items
  pub place : new.place ≡ old.place
  pub found : List Found
  pub gives : (levels : ℕ) → HasLevel old.place levels → open_found message levels old.place [] end ≡ found
  pub parts : going ≡ true → (length new.parts.items ≤ 10000) × (found_parts new.parts.items ≡ found_parts old.parts.items ++ found)
  pub many : going ≡ false → 10000 < length (found_parts old.parts.items ++ found)
