-- What the events of a run did, and what is read of it.
use Rattle.std.specs.Prelude.{◌+◌, ◌==◌, ◌&&◌, nat_lt, ℕ, Bool, true, false, not, List, [], ◌∷◌, ◌++◌, length, filter, flat_map, fold, sum_by, take, if◌then◌else◌, Option, Some, None, is_none}
use Rattle.std.specs.List.{list_any}
use Rattle.std.specs.Option.{option_or}
use Rattle.mdbox_base.specs.declared.entries.Highest.{Highest}
use Rattle.mdbox_base.specs.declared.entries.InstRow.{InstRow}
use Rattle.mdbox_base.specs.declared.entries.BoxEntry.{BoxEntry}
use Rattle.mdbox_base.specs.declared.entries.BoxEntry.TheVariants as box
use Rattle.mdbox_base.specs.declared.entries.MapEntry.{MapEntry}
use Rattle.mdbox_base.specs.declared.entries.MapEntry.TheVariants as map
use Rattle.mdbox_base.specs.declared.replies.Refusal.{Refusal}
use Rattle.mdbox_base.specs.declared.replies.Reply.{Reply}
use Rattle.model_meaning.specs.MapMeaning.{MapRecord, MapMeaning, map_meaning, no_numbers, count_given}

-- Which part of its request an event did. `First` is the first event of each request, and the only one of most. `Last`
-- is the event at which a delivery, a copy or the first half of a move adds its message, a make its mailbox, and the one
-- at which a purge or a resync is answered. `GivesBack` lowers counts, behind a refused `Last` or behind a message that
-- left. `StartsOver` is that of a request that is to begin again: of a make whose number was overtaken, whose log it removes,
-- and of a copy whose source's name names another mailbox than as it began. `RemovesLog` removes the log of a mailbox that was
-- deleted.
pub data EventPart : Type 0 where
  First : EventPart
  Compares : EventPart
  PlacesInstance : EventPart
  TakesFile : (new : Bool) → EventPart
  PlacesMessage : EventPart
  StoresRecord : EventPart
  Last : EventPart
  SecondHalf : EventPart
  GivesBack : EventPart
  StartsOver : EventPart
  RemovesLog : EventPart
  ReadsPiece : EventPart
  Unpins : EventPart
  RemovesFile : EventPart
  MakesTarget : EventPart
  CopiesMessage : EventPart
  Switches : EventPart
  RemovesInstance : EventPart
  ReadsFile : EventPart

-- an entry that was appended to the log of a mailbox
pub record BoxAppend : Type 0 where
  pub mailbox : ℕ
  pub entry : BoxEntry

-- A storage file that an event took, with the number drawn for its target, or 0; and a file that a fetch pinned, with the
-- number of pieces that it has to read, and the instances among them.
pub record TakenFile : Type 0 where
  pub file : ℕ
  pub target : ℕ

pub record Pin : Type 0 where
  pub file : ℕ
  pub pieces : ℕ
  pub instances : List InstRow

-- What one event did: a part of a request of a lane, the request by its place in the script. Where it was refused, it
-- says with what; where its request ended with it, what was replied. Then the entries that it appended, the records of the
-- messages that it removed, the number of the mailbox from which it began to copy, or 0, how many numbers of each kind it drew, the GUID that it gave, the storage files that it took (a
-- purge: also those that it would have taken), those that a resync listed, the file that it made, the pin that it began, the
-- record that it copied, the files that it doomed and removed, the instances that it compared with a part of a message, found
-- equal, placed and removed, the records whose regions it found damaged, and the number of device calls as it ended.
pub record RunEvent : Type 0 where
  pub lane : ℕ
  pub request : ℕ
  pub part : EventPart
  pub refused : Option Refusal
  pub reply : Option Reply
  pub map_entries : List MapEntry
  pub box_entries : List BoxAppend
  pub owes : List ℕ
  pub source : ℕ
  pub drew : Highest
  pub given : List (List ℕ)
  pub files : List TakenFile
  pub listed : List ℕ
  pub made : List ℕ
  pub pins : List Pin
  pub copied : List ℕ
  pub doomed : List ℕ
  pub removed : List ℕ
  pub compared : List InstRow
  pub equal : List InstRow
  pub placed : List InstRow
  pub gone : List InstRow
  pub damaged : List ℕ
  pub moment : ℕ

-- an event that did nothing
abbrev pub event_of : ℕ → ℕ → EventPart → ℕ → RunEvent
event_of lane request part moment = record {
  lane = lane;
  request = request;
  part = part;
  refused = None;
  reply = None;
  map_entries = [];
  box_entries = [];
  owes = [];
  source = 0;
  drew = no_numbers;
  given = [];
  files = [];
  listed = [];
  made = [];
  pins = [];
  copied = [];
  doomed = [];
  removed = [];
  compared = [];
  equal = [];
  placed = [];
  gone = [];
  damaged = [];
  moment = moment;
}

-- A run: the store's id, the entries of the map log, the numbers drawn and the storage files to which nothing may be appended
-- as it began, and what its events did, in order.
pub record Run : Type 0 where
  pub store : List ℕ
  pub start : List MapEntry
  pub opened : Highest
  pub barred : List ℕ
  pub events : List RunEvent

-- the run up to an event, and with one event more
abbrev pub before : ℕ → Run → Run
before n run = record run { events = take n run.events }

abbrev pub and_then : Run → RunEvent → Run
and_then run event = record run { events = run.events ++ event ∷ [] }

-- the entries of the map log, and what they mean
abbrev pub entries_of : Run → List MapEntry
entries_of run = run.start ++ flat_map (λ e. e.map_entries) run.events

abbrev pub map_of : Run → MapMeaning
map_of run = map_meaning run.store (entries_of run)

-- the numbers drawn: those at the start, and one for each that an event drew
abbrev pub drawn_also : Highest → Highest → Highest
drawn_also a b = record { file = a.file + b.file; map = a.map + b.map; instance = a.instance + b.instance; mailbox = a.mailbox + b.mailbox }

abbrev pub drawn_of : Run → Highest
drawn_of run = fold (λ drawn e. drawn_also drawn e.drew) run.opened run.events

-- the first that these tell
abbrev pub first_in : {X Y : Type 0} → (X → Option Y) → List X → Option Y
first_in f [] = None
first_in f (x ∷ xs) = option_or (f x) (first_in f xs)

-- and the last
abbrev pub last_in : {X Y : Type 0} → (X → Option Y) → List X → Option Y
last_in f [] = None
last_in f (x ∷ xs) = option_or (last_in f xs) (f x)

-- the events of one request
abbrev pub own_events : ℕ → Run → List RunEvent
own_events request run = filter (λ e. e.request == request) run.events

-- the reply of a request, as far as the run went
abbrev pub reply_of : ℕ → Run → Option Reply
reply_of request run = first_in (λ e. e.reply) (own_events request run)

-- the GUIDs that other requests gave
abbrev pub given_by_others : ℕ → Run → List (List ℕ)
given_by_others request run = flat_map (λ e. e.given) (filter (λ e. not (e.request == request)) run.events)

-- ---- what entries tell

-- the UID and the GUID of the first message that these entries add, and the number of the first mailbox that they make
abbrev pub uid_in : BoxEntry → Option ℕ
uid_in (box.A uid flags time size map_uid guid words) = Some uid.0
uid_in entry = None

abbrev pub map_uid_in : BoxEntry → Option ℕ
map_uid_in (box.A uid flags time size map_uid guid words) = Some map_uid.0
map_uid_in entry = None

abbrev pub guid_in : BoxEntry → Option (List ℕ)
guid_in (box.A uid flags time size map_uid guid words) = Some guid.0
guid_in entry = None

abbrev pub number_in : MapEntry → Option ℕ
number_in (map.B mailbox generation name) = Some mailbox.0
number_in entry = None

abbrev pub uid_added : List BoxAppend → Option ℕ
uid_added entries = first_in (λ x. uid_in x.entry) entries

abbrev pub guid_added : List BoxAppend → Option (List ℕ)
guid_added entries = first_in (λ x. guid_in x.entry) entries

abbrev pub number_made : List MapEntry → Option ℕ
number_made entries = first_in number_in entries

-- the UID that a request's copy got, as far as the run went
abbrev pub uid_copied : ℕ → Run → Option ℕ
uid_copied request run = uid_added (flat_map (λ e. e.box_entries) (own_events request run))

-- the number of the mailbox from which a request's copy was begun last, or 0
abbrev pub source_of : ℕ → Run → ℕ
source_of request run = fold (λ last e. if nat_lt 0 e.source then e.source else last) 0 (own_events request run)

-- ---- the numbers of a purge and a resync

-- how many records an entry drops, and how many counts it changes
abbrev pub dropped_in : MapEntry → ℕ
dropped_in (map.P file target moved dropped) = length dropped
dropped_in entry = 0

abbrev pub one_corrected : MapEntry → MapRecord → ℕ
one_corrected (map.T counts) row = if count_given row.uid counts row.count == row.count then 0 else 1
one_corrected entry row = 0

abbrev pub corrected_in : MapMeaning → MapEntry → ℕ
corrected_in m entry = sum_by (one_corrected entry) m.records

-- how many different numbers these are
abbrev pub how_many : List ℕ → ℕ
how_many [] = 0
how_many (n ∷ rest) = if list_any (λ m. m == n) rest then how_many rest else how_many rest + 1

-- What the events of a request dropped, doomed or removed, and found damaged, as far as the run went.
abbrev pub dropped_by : ℕ → Run → ℕ
dropped_by request run = sum_by (λ e. sum_by dropped_in e.map_entries) (own_events request run)

abbrev pub files_gone_by : ℕ → Run → ℕ
files_gone_by request run = how_many (flat_map (λ e. e.doomed ++ e.removed) (own_events request run))

abbrev pub instances_gone_by : ℕ → Run → ℕ
instances_gone_by request run = sum_by (λ e. length e.gone) (own_events request run)

abbrev pub damaged_by : ℕ → Run → ℕ
damaged_by request run = sum_by (λ e. length e.damaged) (own_events request run)

-- ---- what a purge would write

-- a record that a purge of this file copies
abbrev pub is_copied_from : ℕ → MapRecord → Bool
is_copied_from file row = (row.file == file) && nat_lt 0 row.count

-- the files of which something is copied, each of which gets a target
abbrev pub with_targets : MapMeaning → List TakenFile → List TakenFile
with_targets m files = filter (λ t. list_any (is_copied_from t.file) m.records) files

-- the length of a target: its header line, and the regions that are copied
abbrev pub target_length : MapMeaning → ℕ → ℕ
target_length m file = 9 + sum_by (λ row. if is_copied_from file row then row.size else 0) m.records

-- ---- pins and dooms

abbrev pub is_one_of : List ℕ → ℕ → Bool
is_one_of numbers n = list_any (λ m. m == n) numbers

abbrev pub is_unpinning_part : EventPart → Bool
is_unpinning_part Unpins = true
is_unpinning_part part = false

-- an event that took its request's pins away: one that was refused did not
abbrev pub is_unpinning : RunEvent → Bool
is_unpinning event = is_none event.refused && is_unpinning_part event.part

abbrev pub has_unpinned : ℕ → Run → Bool
has_unpinned request run = list_any is_unpinning (own_events request run)

-- a file is pinned: by a request that hasn't unpinned
abbrev pub is_pinned : Run → ℕ → Bool
is_pinned run file = list_any (λ e. list_any (λ p. p.file == file) e.pins && not (has_unpinned e.request run)) run.events

-- a file is doomed, and not removed
abbrev pub is_doomed : Run → ℕ → Bool
is_doomed run file = list_any (λ e. is_one_of e.doomed file) run.events && not (list_any (λ e. is_one_of e.removed file) run.events)
