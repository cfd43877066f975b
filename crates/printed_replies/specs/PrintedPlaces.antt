-- The places that are printed with the replies of a script.
use Rattle.std.specs.Prelude.{◌≡◌, ◌≤◌, ◌⊎◌, ℕ, List, length, slice_get, Some}
use Rattle.mdbox_base.specs.declared.replies.Reply.{Reply}
use Rattle.mdbox_base.specs.declared.script.JournalEntry.{JournalEntry}
use Rattle.request_text.specs.BatchText.{places_told, request_steps}
use Rattle.request_text.specs.declared.places.Places.{Places}
use Rattle.request_text.specs.declared.places.Places.TheVariants as places

-- the number is one of these places
abbrev pub IsAmong : ℕ → Places → Type 0
IsAmong n (places.One step) = step ≡ Some n
IsAmong n (places.Two copied removed) = (copied ≡ Some n) ⊎ (removed ≡ Some n)

-- the number is printed as a place with the reply to this request
abbrev pub IsPrintedWith : List JournalEntry → List Reply → ℕ → ℕ → Type 0
IsPrintedWith journal given request n = (reply : Reply) × (slice_get given request ≡ Some reply) × IsAmong n (places_told (request_steps journal request) reply)

-- Every number from 1 to the journal's length is printed, with one reply, and no other number is.
pub record NumberJournal (journal : List JournalEntry) (given : List Reply) : Type 0 where
  pub all : (n : ℕ) → 1 ≤ n → n ≤ length journal → (request : ℕ) × IsPrintedWith journal given request n
  pub once : (n a b : ℕ) → IsPrintedWith journal given a n → IsPrintedWith journal given b n → a ≡ b
  pub within : (n request : ℕ) → IsPrintedWith journal given request n → (1 ≤ n) × (n ≤ length journal)
