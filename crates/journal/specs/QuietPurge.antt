-- What a purge beside no other task leaves, and a resync.
use Rattle.std.specs.Prelude.{◌≡◌, ◌≢◌, ◌≤◌, ◌↔◌, ◌+◌, ◌==◌, ◌&&◌, ℕ, Bool, true, false, not, List, [], ◌∷◌, length, map, filter, take, drop, slice_get, Some, None, All, AllPairs, Contains}
use Rattle.std.specs.List.Sorted.{IsStrictlyIncreasing}
use Rattle.disk_model.specs.Disk.{Files}
use Rattle.disk_model.specs.declared.name.FileName.TheVariants as file
use Rattle.mdbox_base.specs.declared.entries.InstRow.{InstRow}
use Rattle.model_meaning.specs.MapMeaning.{MapRecord, MapMeaning, named_instances, is_sealed}
use Rattle.model_storage.specs.StorageFile.{IsHeaderLine}
use Rattle.list_machine.specs.Run.{RunEvent, Run, before, own_events, reply_of}

-- regions lie one directly after another, from this offset to the end
abbrev pub RunTo : ℕ → List MapRecord → ℕ → Type 0
RunTo offset [] end = offset ≡ end
RunTo offset (row ∷ rows) end = (row.offset ≡ offset) × RunTo (offset + row.size) rows end

-- A storage file is clean: it is its header line, for message headers of 30 octets, and the messages that the map has in it, one or more, with counts above
-- 0, one directly after another.
pub record IsClean (m : MapMeaning) (number : ℕ) (octets : List ℕ) : Type 0 where
  pub header : List ℕ
  pub rows : List MapRecord
  pub begins : IsHeaderLine header 30 × (take (length header) octets ≡ header)
  pub some : rows ≢ []
  pub mapped : All (λ row. Contains m.records row × (row.file ≡ number) × (1 ≤ row.count)) rows
  pub every : All (λ row. row.file ≡ number → Contains rows row) m.records
  pub whole : RunTo (length header) rows (length octets)

abbrev pub IsCleanFile : Files → MapMeaning → ℕ → Type 0
IsCleanFile files m number = (octets : List ℕ) × (files (file.Mail number) ≡ Some octets) × IsClean m number octets

-- a record of an unsealed file with count 0: it goes
abbrev pub goes : MapMeaning → MapRecord → Bool
goes m row = not (is_sealed m row.file) && (row.count == 0)

-- what a purge keeps of a record: all but its place
abbrev pub apart_from_place : MapRecord → MapRecord
apart_from_place row = record row { file = 0; offset = 0 }

-- the region of a record, whose place may be another, has the same octets
pub record HasSameOctets (old new : Files) (before after : MapRecord) : Type 0 where
  pub there : List ℕ
  pub now : List ℕ
  pub in_old : old (file.Mail before.file) ≡ Some there
  pub in_new : new (file.Mail after.file) ≡ Some now
  pub same : take after.size (drop after.offset now) ≡ take before.size (drop before.offset there)

abbrev pub AllHaveSameOctets : Files → Files → List MapRecord → List MapRecord → Type 0
AllHaveSameOctets old new [] [] = Unit {0}
AllHaveSameOctets old new (before ∷ rest) (after ∷ more) = HasSameOctets old new before after × AllHaveSameOctets old new rest more
AllHaveSameOctets old new before after = ⊥

-- these are all numbers of which this holds, in rising order
pub record AreAllOf (Holds : ℕ → Type 0) (numbers : List ℕ) : Type 0 where
  pub rising : IsStrictlyIncreasing numbers
  pub exactly : (n : ℕ) → Contains numbers n ↔ Holds n

-- A quiet purge, from these files and this map's meaning to those: each file that isn't sealed is clean, each instance
-- that is there is named, the records that went are those of unsealed files with count 0, and each that stays keeps all but
-- its place, and its region's octets. The same files are sealed, which are as they were, with their records in their places, and
-- the mailboxes are the same. The numbers are those of the records that went, of the files that were neither sealed nor clean,
-- and of the instances that went.
pub record PurgesQuietly (old new : Files) (before after : MapMeaning) (dropped files instances : ℕ) : Type 0 where
  pub clean : (n : ℕ) (octets : List ℕ) → new (file.Mail n) ≡ Some octets → is_sealed after n ≡ false → IsClean after n octets
  pub only_named : (hash id octets : List ℕ) → new (file.Inst hash id) ≡ Some octets → (inst : InstRow) × Contains (named_instances after) inst × (inst.hash.0 ≡ hash) × (inst.id.0 ≡ id)
  pub stay : map apart_from_place after.records ≡ map apart_from_place (filter (λ row. not (goes before row)) before.records)
  pub regions : AllHaveSameOctets old new (filter (λ row. not (goes before row)) before.records) after.records
  pub seals : after.sealed ≡ before.sealed
  pub boxes : after.boxes ≡ before.boxes
  pub untouched : (n : ℕ) → is_sealed before n ≡ true → new (file.Mail n) ≡ old (file.Mail n)
  pub places : All (λ row. is_sealed before row.file ≡ true → Contains after.records row) before.records
  pub dropped_are : dropped ≡ length (filter (goes before) before.records)
  pub numbers : List ℕ
  pub numbers_are : AreAllOf (λ n. (old (file.Mail n) ≢ None) × (is_sealed before n ≡ false) × (IsCleanFile old before n → ⊥)) numbers
  pub files_are : files ≡ length numbers
  pub gone : List (List ℕ × List ℕ)
  pub gone_once : AllPairs (λ a b. a ≢ b) gone
  pub gone_are : (hash id : List ℕ) → Contains gone (hash, id) ↔ ((old (file.Inst hash id) ≢ None) × (new (file.Inst hash id) ≡ None))
  pub instances_are : instances ≡ length gone

-- A purge is quiet: no event of another request stands between its first and its last, and every other request of the
-- run that has begun before it is answered before it.
pub record IsQuiet (run : Run) (request first last : ℕ) : Type 0 where
  pub alone : (n : ℕ) (event : RunEvent) → slice_get run.events n ≡ Some event → first ≤ n → n ≤ last → event.request ≡ request
  pub answered : (i : ℕ) → i ≢ request → own_events i (before first run) ≢ [] → reply_of i (before first run) ≢ None
