-- What a task claims of an open store, and how much of each thing all tasks claim.
use Rattle.std.specs.Prelude.{◌≡◌, ◌≤◌, ◌<◌, ◌+◌, ◌==◌, ◌&&◌, ℕ, Bool, List, [], All, None, sum_by, if◌then◌else◌, is_some}
use Rattle.mdbox_base.specs.declared.ids.InstId.{InstId}
use Rattle.sis_store.specs.Instances.{holders_in}
use Rattle.storage_files.specs.Files.{IsUntakenFile, is_doomed_in, is_emptied_in, is_taken_in, pins_in, place_begun_in}
use Rattle.storage_files.specs.declared.file.MailFile.{MailFile}
use Rattle.store_core.specs.Dues.{due_at}
use Rattle.store_core.specs.MadeLogs.{has_made_log}
use Rattle.store_core.specs.Value.{StoreValue, none_due}

-- ---- things

-- A thing of which a task may claim some: what is due of a record, by map uid; pins of a storage file; a storage file that it has
-- taken to add to it, or to empty it; the octets that it is placing there in pieces; the removal of a doomed file that has no pin
-- any more; holds of an instance; and the log of a mailbox that it has made and not named yet.
pub data Thing : Type 0 where
  Due : (uid : ℕ) → Thing
  Pinned : (file : ℕ) → Thing
  Taken : (file : ℕ) → Thing
  Emptied : (file : ℕ) → Thing
  PlacingPieces : (file : ℕ) → Thing
  Removing : (file : ℕ) → Thing
  Held : (id : InstId) → Thing
  Made : (number : ℕ) → Thing

abbrev pub one_if : Bool → ℕ
one_if b = if b then 1 else 0

-- a doomed file that has no pin: whoever doomed it, or gave back its last pin, is to remove it
abbrev pub is_to_remove : {D : Type 0} → ℕ → StoreValue D → Bool
is_to_remove file store = is_doomed_in file store.files.files && (pins_in file store.files.files == 0)

-- how much of a thing all tasks claim, as the store knows it
abbrev pub amount_in : {D : Type 0} → Thing → StoreValue D → ℕ
amount_in (Due uid) store = due_at uid store
amount_in (Pinned file) store = pins_in file store.files.files
amount_in (Taken file) store = one_if (is_taken_in file store.files.files)
amount_in (Emptied file) store = one_if (is_emptied_in file store.files.files)
amount_in (PlacingPieces file) store = one_if (is_some (place_begun_in file store.files.files))
amount_in (Removing file) store = one_if (is_to_remove file store)
amount_in (Held id) store = holders_in id store.instances.known
amount_in (Made number) store = one_if (has_made_log number store)

-- ---- claims

-- how much of each thing a task claims
abbrev pub Claims : Type 0
Claims = Thing → ℕ

-- the claims of no task, and of one that has begun nothing or was replied
abbrev pub no_claims : Claims
no_claims thing = 0

abbrev pub ClaimsNothing : Claims → Type 0
ClaimsNothing mine = (thing : Thing) → mine thing ≡ 0

-- a task that claims only what is due of records
abbrev pub claims_of_dues : (ℕ → ℕ) → Claims
claims_of_dues due (Due uid) = due uid
claims_of_dues due thing = 0

-- what two tasks claim together
abbrev pub both_claims : Claims → Claims → Claims
both_claims mine other thing = mine thing + other thing

-- a task claims no more than all tasks do
abbrev pub AreIn : {D : Type 0} → StoreValue D → Claims → Type 0
AreIn store mine = (thing : Thing) → mine thing ≤ amount_in thing store

-- other tasks than this one claim some of a thing
abbrev pub OthersClaim : {D : Type 0} → Claims → StoreValue D → Thing → Type 0
OthersClaim mine store thing = mine thing < amount_in thing store

-- An event moves only its own task's claims: by as much as these rise or fall, those of all tasks do.
abbrev pub MovesClaims : {D : Type 0} → Claims → Claims → StoreValue D → StoreValue D → Type 0
MovesClaims mine mine_now old new = (thing : Thing) → amount_in thing new + mine thing ≡ amount_in thing old + mine_now thing

-- What a row of tasks claims together. It adds up where it is all that the store knows of: each due, pin, taken file, held instance
-- and log is some task's.
abbrev pub total_claims : List Claims → Claims
total_claims each thing = sum_by (λ mine. mine thing) each

abbrev pub AddsUp : {D : Type 0} → StoreValue D → List Claims → Type 0
AddsUp store each = (thing : Thing) → amount_in thing store ≡ total_claims each thing

-- A store of which no task claims anything, as when it was opened: nothing is due, nobody has taken, doomed or pinned a storage file,
-- nobody holds an instance, and no log was made.
pub record IsUnusedFile (f : MailFile) : Type 0 where
  pub free : IsUntakenFile f
  pub unplaced : f.begun ≡ None
  pub unpinned : f.pins ≡ 0

pub record HasNoTask {D : Type 0} (store : StoreValue D) : Type 0 where
  pub dues : store.dues ≡ none_due store.map.records
  pub files : All IsUnusedFile store.files.files
  pub instances : All (λ k. k.holders ≡ 0) store.instances.known
  pub made : store.made ≡ []
