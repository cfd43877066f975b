-- A log: a head, and behind it gates of one octet with a record between each two of them. Numbers are big-endian.
use Rattle.std.specs.Prelude.{◌≡◌, ◌≢◌, ◌<◌, ◌≤◌, ◌^◌, ◌+◌, ℕ, List, [], ◌∷◌, ◌++◌, length, take, All, Option, Some, None, ◌⊎◌, codes}
use Rattle.std.specs.Int.{w32, to_be_bytes}
use Rattle.mdbox_base.specs.Words.{IsOctets}
use Rattle.model_logs.specs.declared.log_head.LogHead.{LogHead}
use Rattle.model_logs.specs.declared.log_head.LogKind.{LogKind}
use Rattle.model_logs.specs.declared.log_head.LogKind.TheVariants.{Root, Map, Box}

-- the letter of a log's kind: R, M or B
abbrev pub kind_letter : LogKind → ℕ
kind_letter Root = 82
kind_letter Map = 77
kind_letter Box = 66

-- a log of this kind may have this version: that of a mailbox 1 or 2, any other 1
abbrev pub IsVersionOf : LogKind → ℕ → Type 0
IsVersionOf Root version = version ≡ 1
IsVersionOf Map version = version ≡ 1
IsVersionOf Box version = (version ≡ 1) ⊎ (version ≡ 2)

-- the version in which a log of this kind is written
abbrev pub version_of : LogKind → ℕ
version_of Root = 1
version_of Map = 1
version_of Box = 2

-- a head as the code's type can hold it, with a version that its kind may have
pub record HeadFits (head : LogHead) : Type 0 where
  pub version : IsVersionOf head.kind head.version
  pub store : length head.store.0 ≡ 8
  pub octets : IsOctets head.store.0
  pub number : head.number < 2 ^ 32
  pub generation : head.generation < 2 ^ 32

-- the 25 octets of a head: seven letters and the digit of the version stand first
unfoldable pub head_octets : LogHead → List ℕ
head_octets head = codes "MDBXLOG" ++ (48 + head.version) ∷ (head.store.0 ++ kind_letter head.kind ∷ (to_be_bytes w32 head.number ++ to_be_bytes w32 head.generation))

-- a record: the entry's length in 4 octets, and the entry
abbrev pub record_octets : List ℕ → List ℕ
record_octets entry = to_be_bytes w32 (length entry) ++ entry

-- what a record can hold: at least one octet, and a length that 4 octets can say
pub record EntryFits (entry : List ℕ) : Type 0 where
  pub some : 1 ≤ length entry
  pub short : length entry < 2 ^ 32

-- open gates, each with the record behind it
abbrev pub opened : List (List ℕ) → List ℕ
opened [] = []
opened (entry ∷ entries) = 1 ∷ record_octets entry ++ opened entries

-- a head, and open gates with these entries behind it
abbrev pub log_front : LogHead → List (List ℕ) → List ℕ
log_front head entries = head_octets head ++ opened entries

-- A gate is open where its value is 1 and something follows it. Any other gate ends the log, whatever follows it.
abbrev pub EndsLog : ℕ → List ℕ → Type 0
EndsLog gate behind = (gate ≢ 1) ⊎ (behind ≡ [])

-- The octets are a log with this head and these entries: the head, an open gate and a record for each entry, and a
-- gate that ends the log. What follows that gate is no part of the log.
pub record IsLog (octets : List ℕ) (head : LogHead) (entries : List (List ℕ)) : Type 0 where
  pub head_fits : HeadFits head
  pub entries_fit : All EntryFits entries
  pub gate : ℕ
  pub behind : List ℕ
  pub spelled : octets ≡ log_front head entries ++ gate ∷ behind
  pub ends : EndsLog gate behind

-- where the last gate of a log with these entries stands
abbrev pub end_from : ℕ → List (List ℕ) → ℕ
end_from gate [] = gate
end_from gate (entry ∷ entries) = end_from (gate + 5 + length entry) entries

abbrev pub log_end : List (List ℕ) → ℕ
log_end entries = end_from 25 entries

-- where the record of each entry stands: behind its gate
abbrev pub record_places_from : ℕ → List (List ℕ) → List ℕ
record_places_from gate [] = []
record_places_from gate (entry ∷ entries) = (gate + 1) ∷ record_places_from (gate + 5 + length entry) entries

abbrev pub record_places : List (List ℕ) → List ℕ
record_places entries = record_places_from 25 entries

-- a file with these octets, where there is a file
abbrev pub IsLogFile : Option (List ℕ) → LogHead → List (List ℕ) → Type 0
IsLogFile None head entries = ⊥
IsLogFile (Some octets) head entries = IsLog octets head entries

-- Which heads are taken: only this one, or any where none is asked for.
abbrev pub IsTaken : Option LogHead → LogHead → Type 0
IsTaken None head = Unit {0}
IsTaken (Some asked) head = head ≡ asked

-- the octets are the beginning of a head that is taken, or all of it
pub record BeginsHead (asked : Option LogHead) (octets : List ℕ) : Type 0 where
  pub head : LogHead
  pub fits : HeadFits head
  pub is_taken : IsTaken asked head
  pub more : List ℕ
  pub spelled : octets ++ more ≡ head_octets head

-- The head, or the first gate behind it, isn't whole, and this is the first place: the octets before it begin a head
-- that is taken, and the file ends there, or no such head has the octet that stands there.
pub record IsHeadDamaged (asked : Option LogHead) (octets : List ℕ) (place : ℕ) : Type 0 where
  pub within : place ≤ length octets
  pub begins : BeginsHead asked (take place octets)
  pub ends : (place ≡ length octets) ⊎ ((place < length octets) × (place < 25) × (BeginsHead asked (take (place + 1) octets) → ⊥))

-- the octets begin with a whole record and a gate
pub record BeginsRecord (octets : List ℕ) : Type 0 where
  pub entry : List ℕ
  pub fits : EntryFits entry
  pub gate : ℕ
  pub behind : List ℕ
  pub spelled : octets ≡ record_octets entry ++ gate ∷ behind

-- The head is whole and taken, and behind an open gate, at this place, no whole record with a gate stands: its length
-- is 0, or the file ends before.
pub record IsRecordDamaged (asked : Option LogHead) (octets : List ℕ) (place : ℕ) : Type 0 where
  pub head : LogHead
  pub head_fits : HeadFits head
  pub is_taken : IsTaken asked head
  pub entries : List (List ℕ)
  pub entries_fit : All EntryFits entries
  pub behind : List ℕ
  pub spelled : octets ≡ log_front head entries ++ 1 ∷ behind
  pub some : behind ≢ []
  pub no_record : BeginsRecord behind → ⊥
  pub is : place ≡ length (log_front head entries) + 1

-- The octets are no log with a head that is taken, and this is where they are damaged.
abbrev pub IsDamagedAt : Option LogHead → List ℕ → ℕ → Type 0
IsDamagedAt asked octets place = IsHeadDamaged asked octets place ⊎ IsRecordDamaged asked octets place
