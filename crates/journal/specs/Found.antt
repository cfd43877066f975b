-- What a run tells of what its events found: which storage files and instances it knows, and which of them are in use. It is
-- of a store that was opened: opening removes what no record names, so what is there at the start is named or sealed.
use Rattle.std.specs.Prelude.{◌≡◌, ◌≢◌, ◌≤◌, ◌<◌, ◌==◌, ◌+◌, ◌&&◌, ◌||◌, ◌⊎◌, ℕ, Bool, true, false, not, List, All, AllPairs, Contains, count_by, flat_map, is_none, slice_get, Option, Some, None}
use Rattle.std.specs.List.{list_any}
use Rattle.std.specs.Option.{IfSome}
use Rattle.std.specs.Str.{bytes_eq}
use Rattle.mdbox_base.specs.declared.entries.InstRow.{InstRow}
use Rattle.mdbox_base.specs.declared.requests.Request.{Request}
use Rattle.mdbox_base.specs.declared.requests.Request.TheVariants as request
use Rattle.mdbox_base.specs.declared.replies.Refusal.{Refusal}
use Rattle.mdbox_base.specs.declared.replies.Refusal.TheVariants as refusal
use Rattle.model_meaning.specs.MapMeaning.{MapRecord, MapMeaning, named_instances, is_sealed}
use Rattle.model_meaning.specs.MapFits.{HasRecord}
use Rattle.model_store.specs.Stands.{IsLess}
use Rattle.list_machine.specs.Run.{EventPart, First, StoresRecord, Last, RemovesInstance, ReadsFile, RunEvent, Run, TakenFile, before, map_of, own_events, reply_of, is_one_of, is_doomed, has_unpinned}
use Rattle.journal.specs.Journal.{Requests}
use Rattle.journal.specs.Events.{Around, is_done, is_reading}

-- ---- storage files

-- a file is there, as far as the run tells: a record named it as the run began, it is sealed, or an event made it; and none
-- removed it
abbrev pub is_known_file : Run → ℕ → Bool
is_known_file run file =
    (list_any (λ row. row.file == file) (map_of (before 0 run)).records || (is_sealed (map_of run) file || list_any (λ e. is_one_of e.made file) run.events))
    && not (list_any (λ e. is_one_of e.removed file) run.events)

-- a record of the map lies in the file
abbrev pub is_named_file : MapMeaning → ℕ → Bool
is_named_file m file = list_any (λ row. row.file == file) m.records

-- an event that wasn't refused took this file, or drew it as a target
abbrev pub took_file : ℕ → RunEvent → Bool
took_file file event = is_none event.refused && list_any (λ t. (t.file == file) || (t.target == file)) event.files

-- A delivery gives its file back as it stores the record; a purge its source and its target as it dooms or removes the source.
abbrev pub is_storing : EventPart → Bool
is_storing StoresRecord = true
is_storing part = false

abbrev pub gave_back : ℕ → List RunEvent → Bool
gave_back file own = list_any (λ e. is_storing e.part || (is_one_of e.doomed file || is_one_of e.removed file)) own
    || list_any (λ t. (t.target == file) && is_done own t) (flat_map (λ e. e.files) own)

-- a file is taken: by an event of a request that isn't answered, and hasn't given it back
abbrev pub is_taken : Run → ℕ → Bool
is_taken run file = list_any (λ e. took_file file e && (is_none (reply_of e.request run) && not (gave_back file (own_events e.request run)))) run.events

-- a file that may be taken: it is there, and neither taken nor sealed nor doomed
pub record IsFreeFile (run : Run) (file : ℕ) : Type 0 where
  pub some : 1 ≤ file
  pub known : is_known_file run file ≡ true
  pub untaken : is_taken run file ≡ false
  pub unsealed : is_sealed (map_of run) file ≡ false
  pub undoomed : is_doomed run file ≡ false

-- two records of a file, between whose regions octets lie that are no region's
pub record HasGap (m : MapMeaning) (file : ℕ) : Type 0 where
  pub first : MapRecord
  pub second : MapRecord
  pub first_here : Contains m.records first × (first.file ≡ file)
  pub second_here : Contains m.records second × (second.file ≡ file)
  pub apart : first.offset + first.size < second.offset
  pub none_between : All (λ row. row.file ≡ file → (row.offset ≤ first.offset) ⊎ (second.offset ≤ row.offset)) m.records

-- A purge takes free files, each once: every one that has a record with count 0, no record at all, or a gap between regions.
pub record FindsFiles (run : Run) (files : List ℕ) : Type 0 where
  pub once : AllPairs (λ a b. a ≢ b) files
  pub free : All (IsFreeFile run) files
  pub every : All (λ row. row.count ≡ 0 → IsFreeFile run row.file → Contains files row.file) (map_of run).records
  pub bare : (file : ℕ) → IsFreeFile run file → is_named_file (map_of run) file ≡ false → Contains files file
  pub gaps : (file : ℕ) → IsFreeFile run file → HasGap (map_of run) file → Contains files file

-- A resync lists each file once, that is there or that a record names, and each that has a record.
pub record ListsFiles (run : Run) (files : List ℕ) : Type 0 where
  pub once : AllPairs (λ a b. a ≢ b) files
  pub known : All (λ file. (is_known_file run file || is_named_file (map_of run) file) ≡ true) files
  pub every : All (λ row. Contains files row.file) (map_of run).records

-- the file that a resync reads next: it has read as many as it has events that read
abbrev pub file_to_read : List RunEvent → Option ℕ
file_to_read own = slice_get (flat_map (λ e. e.listed) own) (count_by (λ e. is_reading e.part) own)

-- What it finds damaged there are regions of that file's records, each once.
pub record FindsDamage (run : Run) (own : List RunEvent) (damaged : List ℕ) : Type 0 where
  pub once : AllPairs (λ a b. a ≢ b) damaged
  pub here : All (λ uid. HasRecord (map_of run) uid (λ row. file_to_read own ≡ Some row.file)) damaged

-- ---- instances

abbrev pub is_same_instance : InstRow → InstRow → Bool
is_same_instance a b = bytes_eq a.hash.0 b.hash.0 && bytes_eq a.id.0 b.id.0

-- an instance is there, as far as the run tells: a record named it as the run began, or an event placed it; and none removed it
abbrev pub is_known_instance : Run → InstRow → Bool
is_known_instance run instance =
    (list_any (is_same_instance instance) (named_instances (map_of (before 0 run))) || list_any (λ e. list_any (is_same_instance instance) e.placed) run.events)
    && not (list_any (λ e. list_any (is_same_instance instance) e.gone) run.events)

-- a request that isn't answered found it equal, or placed it
abbrev pub is_held : Run → InstRow → Bool
is_held run instance =
    list_any (λ e. is_none (reply_of e.request run) && (list_any (is_same_instance instance) e.equal || list_any (is_same_instance instance) e.placed)) run.events

-- a request that hasn't unpinned pinned it
abbrev pub is_pinned_instance : Run → InstRow → Bool
is_pinned_instance run instance = list_any (λ e. list_any (λ p. list_any (is_same_instance instance) p.instances) e.pins && not (has_unpinned e.request run)) run.events

-- an instance that may be removed: it is there, no record names it, and nobody holds or pins it
pub record IsFreeInstance (run : Run) (instance : InstRow) : Type 0 where
  pub known : is_known_instance run instance ≡ true
  pub unnamed : list_any (is_same_instance instance) (named_instances (map_of run)) ≡ false
  pub unheld : is_held run instance ≡ false
  pub unpinned : is_pinned_instance run instance ≡ false

-- A purge finds the instance with the least id that may be removed, and none if and only if there is none.
abbrev pub FindsInstance : Run → Option InstRow → Type 0
FindsInstance run None = (instance : InstRow) → IsFreeInstance run instance → ⊥
FindsInstance run (Some instance) = IsFreeInstance run instance × ((other : InstRow) → IsFreeInstance run other → IsLess other.id.0 instance.id.0 → ⊥)

-- ---- what each event finds

-- What a delivery finds: a candidate that is there, and a file that may be taken and appended to.
pub record FindsPlace (run : Run) (around : Around) : Type 0 where
  pub candidate : IfSome around.candidate (λ instance. is_known_instance run instance ≡ true)
  pub room : IfSome around.room (IsFreeFile run)
  pub unbarred : IfSome around.room (λ file. is_one_of run.barred file ≡ false)

abbrev pub PurgeFinds : Around → Run → EventPart → Type 0
PurgeFinds around run First = FindsFiles run around.files
PurgeFinds around run RemovesInstance = FindsInstance run around.instance
PurgeFinds around run Last = FindsInstance run around.instance
PurgeFinds around run part = Unit {0}

abbrev pub ResyncFinds : Around → Run → RunEvent → EventPart → Type 0
ResyncFinds around run event First = ListsFiles run around.files
ResyncFinds around run event ReadsFile = FindsDamage run (own_events event.request run) around.damaged
ResyncFinds around run event part = Unit {0}

-- An event that was refused by a stopped store, by a fault or for lack of memory found nothing.
abbrev pub has_looked : Option Refusal → Bool
has_looked None = true
has_looked (Some (refusal.StoreFull most)) = true
has_looked refused = false

-- What each event finds agrees with the run. What only the disk tells (octets, lengths, which files are clean) stands elsewhere.
abbrev pub AgreesWithRun : Around → Run → Request → RunEvent → EventPart → Type 0
AgreesWithRun around run (request.Deliver name time octets) event part = has_looked event.refused ≡ true → FindsPlace run around
AgreesWithRun around run request.Purge event part = has_looked event.refused ≡ true → PurgeFinds around run part
AgreesWithRun around run request.Resync event part = has_looked event.refused ≡ true → ResyncFinds around run event part
AgreesWithRun around run request event part = Unit {0}

abbrev pub AgreeWithRun : (ℕ → Around) → Requests → Run → Type 0
AgreeWithRun around script run = (n : ℕ) (event : RunEvent) (asked : ℕ × Request) → slice_get run.events n ≡ Some event → slice_get script event.request ≡ Some asked
    → AgreesWithRun (around n) (before n run) asked.1 event event.part
