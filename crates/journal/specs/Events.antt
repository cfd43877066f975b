-- The events of each request: what stands behind what, and what each one does.
use Rattle.std.specs.Prelude.{◌≡◌, ◌≢◌, ◌≤◌, ◌<◌, ◌↔◌, ◌+◌, ◌-◌, ◌/◌, ◌==◌, ◌&&◌, ◌||◌, nat_lt, nat_le, ℕ, Bool, true, false, not, List, [], ◌∷◌, ◌++◌, length, map, filter, find, flat_map, sum_by, count_by, slice_get, if◌then◌else◌, Option, Some, None, IsTrue, Contains, ◌⊎◌, All, is_some, is_none, option_map}
use Rattle.std.specs.List.{list_any}
use Rattle.std.specs.Str.{bytes_eq}
use Rattle.std.specs.Option.{IfSome, option_map_or, option_or}
use Rattle.mdbox_base.specs.declared.ids.MapUid.{MapUid}
use Rattle.mdbox_base.specs.declared.entries.Highest.{Highest}
use Rattle.mdbox_base.specs.declared.entries.InstRow.{InstRow}
use Rattle.mdbox_base.specs.declared.entries.MapPlace.{MapPlace}
use Rattle.mdbox_base.specs.declared.entries.MapCount.{MapCount}
use Rattle.mdbox_base.specs.declared.entries.BoxEntry.{BoxEntry}
use Rattle.mdbox_base.specs.declared.entries.BoxEntry.TheVariants as box
use Rattle.mdbox_base.specs.declared.entries.MapEntry.{MapEntry}
use Rattle.mdbox_base.specs.declared.entries.MapEntry.TheVariants as entry
use Rattle.mdbox_base.specs.declared.requests.Request.{Request}
use Rattle.mdbox_base.specs.declared.requests.Request.TheVariants as request
use Rattle.mdbox_base.specs.declared.replies.Refusal.{Refusal}
use Rattle.mdbox_base.specs.declared.replies.Refusal.TheVariants as refusal
use Rattle.mdbox_base.specs.declared.replies.Reply.{Reply}
use Rattle.model_lists.specs.Lists.{ListedMessage, Mailbox, Lists, refs_of}
use Rattle.model_meaning.specs.MapMeaning.{MapMeaning, MapRecord, record_of, box_named, count_given, no_numbers, guid_file, instance_number, number_at}
use Rattle.model_meaning.specs.MapFits.{MapFits, HasRecord}
use Rattle.list_machine.specs.Run.{EventPart, First, Compares, PlacesInstance, TakesFile, PlacesMessage, StoresRecord, Last, SecondHalf, GivesBack, StartsOver, RemovesLog, ReadsPiece, Unpins, RemovesFile, MakesTarget, CopiesMessage, Switches, RemovesInstance, ReadsFile, BoxAppend, TakenFile, RunEvent, event_of, Run, and_then, map_of, drawn_of, own_events, reply_of, source_of, uid_copied, with_targets, is_copied_from, first_in, last_in, map_uid_in, is_one_of, is_pinned, is_doomed}
use Rattle.model_mime.specs.Parts.{parts_in}
use Rattle.list_machine.specs.Machine.{mailbox_named, message_at, message_numbered, is_step, first_refusal, checks_of}
use Rattle.journal.specs.Journal.{Requests, refusal_in}

-- What an event finds as it begins that stands in no list, in no entry and in no earlier event: in the files, and in what
-- other tasks hold. Of a delivery: how many detached parts its message has, the next candidate that the next part is to be
-- compared with, and the storage file that has room for the message. Of a purge: the storage files that it takes, and the
-- next instance that may be removed. Of a resync: the storage files, and the records of the next file whose regions aren't
-- messages of their size and GUID.
pub record Around : Type 0 where
  pub parts : ℕ
  pub candidate : Option InstRow
  pub room : Option ℕ
  pub files : List ℕ
  pub instance : Option InstRow
  pub damaged : List ℕ

-- ---- the order of the parts

-- A delivery: each part of the message is compared with its candidates, and placed where none is equal; then a storage
-- file is taken, a new one only if none has room, the message placed, stored in the map, and added.
abbrev pub instances_found : ℕ → Run → List InstRow
instances_found request run = flat_map (λ e. e.equal ++ e.placed) (own_events request run)

abbrev pub behind_delivery : Around → Run → RunEvent → EventPart → Option EventPart
behind_delivery around run event (TakesFile new) = Some PlacesMessage
behind_delivery around run event PlacesMessage = Some StoresRecord
behind_delivery around run event StoresRecord = Some Last
behind_delivery around run event Last = None
behind_delivery around run event GivesBack = None
behind_delivery around run event part =
    if nat_lt (length (instances_found event.request run)) around.parts
    then (if is_some around.candidate then Some Compares else Some PlacesInstance)
    else Some (TakesFile (is_none around.room))

-- A make creates a log, and then names it, or removes it and begins again where its number was overtaken.
abbrev pub behind_make : Bool → EventPart → Option EventPart
behind_make overtaken First = if overtaken then Some StartsOver else Some Last
behind_make overtaken StartsOver = Some First
behind_make overtaken part = None

-- A copy raises the count and adds the message. If its source's name names another mailbox by then, it gives the count back
-- and begins again. A move then removes the message from its source, where it is still there, and lowers the count.
abbrev pub behind_copy : Bool → Bool → EventPart → Option EventPart
behind_copy elsewhere ends First = if elsewhere then Some StartsOver else Some Last
behind_copy elsewhere ends StartsOver = Some GivesBack
behind_copy elsewhere ends GivesBack = if ends then None else Some First
behind_copy elsewhere ends part = None

abbrev pub behind_move : Bool → Bool → RunEvent → EventPart → Option EventPart
behind_move elsewhere ends event Last = Some SecondHalf
behind_move elsewhere ends event SecondHalf = if nat_lt 0 (length event.box_entries) then Some GivesBack else None
behind_move elsewhere ends event part = behind_copy elsewhere ends part

-- A deletion removes the mailbox from the map, and then its log.
abbrev pub behind_delete : EventPart → Option EventPart
behind_delete First = Some RemovesLog
behind_delete part = None

abbrev pub behind_expunge : EventPart → Option EventPart
behind_expunge First = Some GivesBack
behind_expunge part = None

-- A fetch reads its pieces and unpins; the last to unpin a doomed file removes it.
abbrev pub is_piece : EventPart → Bool
is_piece ReadsPiece = true
is_piece part = false

abbrev pub piece_left : ℕ → Run → Bool
piece_left request run =
    nat_lt (count_by (λ e. is_piece e.part) (own_events request run)) (sum_by (λ e. sum_by (λ p. p.pieces) e.pins) (own_events request run))

abbrev pub leaves_doomed : ℕ → Run → Bool
leaves_doomed request run = list_any (λ e. list_any (λ p. is_doomed run p.file && not (is_pinned run p.file)) e.pins) (own_events request run)

abbrev pub behind_fetch : Run → RunEvent → EventPart → Option EventPart
behind_fetch run event Unpins = if leaves_doomed event.request run then Some RemovesFile else None
behind_fetch run event RemovesFile = None
behind_fetch run event part = if piece_left event.request run then Some ReadsPiece else Some Unpins

-- A purge goes from file to file, in the order in which it took them, and then from instance to instance. It makes the
-- target of a file that has one, copies its messages, switches it, and removes it where it isn't pinned; a file whose
-- records all have count 0 is switched at once, and one without records removed.
abbrev pub is_done : List RunEvent → TakenFile → Bool
is_done own taken = list_any (λ e. is_one_of e.doomed taken.file || is_one_of e.removed taken.file) own

abbrev pub next_taken : List RunEvent → Option TakenFile
next_taken own = find (λ t. not (is_done own t)) (flat_map (λ e. e.files) own)

abbrev pub purge_goes_on : Around → Run → Option TakenFile → Option EventPart
purge_goes_on around run None = if is_some around.instance then Some RemovesInstance else Some Last
purge_goes_on around run (Some taken) =
    if nat_lt 0 taken.target then Some MakesTarget else (if list_any (λ row. row.file == taken.file) (map_of run).records then Some Switches else Some RemovesFile)

-- the messages of a file that are still to be copied
abbrev pub copies_left : List RunEvent → Run → Option TakenFile → List MapRecord
copies_left own run None = []
copies_left own run (Some taken) = filter (λ row. is_copied_from taken.file row && not (list_any (λ e. is_one_of e.copied row.uid) own)) (map_of run).records

abbrev pub purge_copies : Run → List RunEvent → Option EventPart
purge_copies run own = if nat_lt 0 (length (copies_left own run (next_taken own))) then Some CopiesMessage else Some Switches

-- The events up to that which doomed a file; and whether the file was pinned then. If it was, the fetch that unpins it last
-- removes it, and the purge goes on, however long that takes.
abbrev pub until_doomed : ℕ → List RunEvent → List RunEvent
until_doomed file [] = []
until_doomed file (event ∷ events) = if is_one_of event.doomed file then event ∷ [] else event ∷ until_doomed file events

abbrev pub was_pinned : Run → ℕ → Bool
was_pinned run file = is_pinned (record run { events = until_doomed file run.events }) file

abbrev pub behind_purge : Around → Run → RunEvent → EventPart → Option EventPart
behind_purge around run event MakesTarget = purge_copies run (own_events event.request run)
behind_purge around run event CopiesMessage = purge_copies run (own_events event.request run)
behind_purge around run event Switches =
    if list_any (λ file. was_pinned run file) event.doomed then purge_goes_on around run (next_taken (own_events event.request run)) else Some RemovesFile
behind_purge around run event Last = None
behind_purge around run event part = purge_goes_on around run (next_taken (own_events event.request run))

-- A resync reads each file that it listed.
abbrev pub is_reading : EventPart → Bool
is_reading ReadsFile = true
is_reading part = false

abbrev pub file_left : List RunEvent → Bool
file_left own = nat_lt (count_by (λ e. is_reading e.part) own) (sum_by (λ e. length e.listed) own)

abbrev pub behind_resync : Run → RunEvent → EventPart → Option EventPart
behind_resync run event Last = None
behind_resync run event part = if file_left (own_events event.request run) then Some ReadsFile else Some Last

-- the mailbox number that a request drew last, as far as the run went
abbrev pub number_drawn : ℕ → ℕ → ℕ → List RunEvent → ℕ
number_drawn request last drawn [] = last
number_drawn request last drawn (e ∷ es) =
    number_drawn request (if (e.request == request) && nat_lt 0 e.drew.mailbox then drawn + e.drew.mailbox else last) (drawn + e.drew.mailbox) es

abbrev pub number_of : Run → ℕ → ℕ
number_of run request = number_drawn request 0 run.opened.mailbox run.events

-- a make's number is no longer above the highest
abbrev pub is_overtaken : Run → ℕ → Bool
is_overtaken run request = nat_le (number_of run request) (map_of run).highest.mailbox

-- the name of a copy's source names another mailbox than as the copy began last
abbrev pub is_elsewhere : Run → ℕ → List ℕ → Bool
is_elsewhere run request name = option_map_or (λ box. not (box.number == source_of request run)) (box_named (map_of run) name) false

-- A reply is a refusal if and only if an event of the request was refused, and then it is the last such refusal.
abbrev pub last_refusal : List RunEvent → Option Refusal
last_refusal [] = None
last_refusal (event ∷ rest) = option_or (last_refusal rest) event.refused

-- A count that is given back ends a copy whose addition was refused, and a move that has added its message.
abbrev pub ends_with_count : Run → ℕ → Bool
ends_with_count run request = is_some (uid_copied request run) || is_some (last_refusal (own_events request run))

-- The part behind an event that did its own: none where the request is answered.
abbrev pub part_behind : Around → Run → Request → RunEvent → Option EventPart
part_behind around run (request.Deliver name time octets) event = behind_delivery around run event event.part
part_behind around run (request.Make name) event = behind_make (is_overtaken run event.request) event.part
part_behind around run (request.Copy name uid target) event = behind_copy (is_elsewhere run event.request name) (ends_with_count run event.request) event.part
part_behind around run (request.Move name uid target) event = behind_move (is_elsewhere run event.request name) (ends_with_count run event.request) event event.part
part_behind around run (request.Delete name) event = behind_delete event.part
part_behind around run (request.Expunge name uid) event = behind_expunge event.part
part_behind around run (request.Fetch name uid) event = behind_fetch run event event.part
part_behind around run request.Purge event = behind_purge around run event event.part
part_behind around run request.Resync event = behind_resync run event event.part
part_behind around run request event = None

-- The part behind an event that was refused: counts are given back where an addition was refused, unless the store is
-- stopped, and a fetch unpins also where it met a read fault or damage.
abbrev pub behind_addition : EventPart → Refusal → Option EventPart
behind_addition Last refusal.Stopped = None
behind_addition Last refused = Some GivesBack
behind_addition StartsOver refusal.Stopped = None
behind_addition StartsOver refused = Some GivesBack
behind_addition part refused = None

abbrev pub behind_piece : EventPart → Refusal → Option EventPart
behind_piece ReadsPiece refusal.ReadFault = Some Unpins
behind_piece ReadsPiece (refusal.Damaged file offset) = Some Unpins
behind_piece part refused = None

abbrev pub behind_refused : Request → EventPart → Refusal → Option EventPart
behind_refused (request.Deliver name time octets) part refused = behind_addition part refused
behind_refused (request.Copy name uid target) part refused = behind_addition part refused
behind_refused (request.Move name uid target) part refused = behind_addition part refused
behind_refused (request.Fetch name uid) part refused = behind_piece part refused
behind_refused request part refused = None

abbrev pub behind_event : Around → Run → Request → RunEvent → Option Refusal → Option EventPart
behind_event around run request event None = part_behind around run request event
behind_event around run request event (Some refused) = behind_refused request event.part refused

-- The next part of a request behind these events of it: the first, or the one behind the last of them.
abbrev pub next_part : Around → Run → Request → List RunEvent → Option EventPart
next_part around run request [] = Some First
next_part around run request (event ∷ []) = behind_event around run request event event.refused
next_part around run request (event ∷ more ∷ rest) = next_part around run request (more ∷ rest)

-- ---- what a part does

-- an event that did nothing, of the same part, with the same reply at the same moment
abbrev pub plain : RunEvent → RunEvent
plain event = record (event_of event.lane event.request event.part event.moment) { reply = event.reply }

-- An event that was refused did nothing: a purge tells the files that it would have taken, and what was refused for lack of
-- memory or by a fault may have drawn its numbers before.
abbrev pub DidNothing : RunEvent → Type 0
DidNothing event = event ≡ record (plain event) { refused = event.refused; files = event.files; drew = event.drew }

-- the numbers that a part draws
abbrev pub draws : Run → RunEvent → Request → EventPart → Highest
draws run event (request.Make name) First = record no_numbers { mailbox = 1 }
draws run event (request.Deliver name time octets) PlacesInstance = record no_numbers { instance = 1 }
draws run event (request.Deliver name time octets) (TakesFile true) = record no_numbers { file = 1 }
draws run event (request.Deliver name time octets) StoresRecord = record no_numbers { map = 1 }
draws run event request.Purge First = record no_numbers { file = length (with_targets (map_of run) event.files) }
draws run event request part = no_numbers

-- the record that a request holds: that whose count it raised last, or that it stored
abbrev pub uid_raised : MapEntry → Option ℕ
uid_raised (entry.U uid) = Some uid.0
uid_raised (entry.S origin count uid file offset size guid instances) = Some uid.0
uid_raised other = None

abbrev pub uid_held : ℕ → Run → Option ℕ
uid_held request run = last_in uid_raised (flat_map (λ e. e.map_entries) (own_events request run))

-- the record of a listed message
abbrev pub IsRecord : Run → Lists → List ℕ → ℕ → MapRecord → Type 0
IsRecord run lists name uid row = (message : ListedMessage) × (message_at name uid lists ≡ Some message) × (record_of (map_of run) message.guid ≡ Some row)

-- one entry for the log of the mailbox with this name, and one for the map log
abbrev pub adds_to : Mailbox → BoxEntry → List BoxAppend
adds_to mailbox added = record { mailbox = mailbox.number; entry = added } ∷ []

abbrev pub lowers : ℕ → List MapEntry
lowers uid = entry.D (record { 0 = uid } ∷ []) ∷ []

-- a message is removed, and its record owed
abbrev pub Removes : Run → Lists → List ℕ → ℕ → RunEvent → Type 0
Removes run lists name uid event =
    (mailbox : Mailbox) × (row : MapRecord) × (mailbox_named name lists ≡ Some mailbox) × IsRecord run lists name uid row
    × (event ≡ record (plain event) { box_entries = adds_to mailbox (box.R (record { 0 = uid })); owes = row.uid ∷ [] })

-- the message is removed from the mailbox with this number, where it is there
abbrev pub RemovesIfThere : Run → ℕ → ℕ → RunEvent → Option ListedMessage → Type 0
RemovesIfThere run number uid event None = event ≡ plain event
RemovesIfThere run number uid event (Some message) =
    (row : MapRecord) × (record_of (map_of run) message.guid ≡ Some row)
    × (event ≡ record (plain event) { box_entries = record { mailbox = number; entry = box.R (record { 0 = uid }) } ∷ []; owes = row.uid ∷ [] })

-- a message is added with the next UID, of the record that the request holds
abbrev pub Adds : Run → Lists → List ℕ → RunEvent → ListedMessage → Type 0
Adds run lists target event message =
    (mailbox : Mailbox) × (held : ℕ) × (mailbox_named target lists ≡ Some mailbox) × (uid_held event.request run ≡ Some held)
    × (event ≡ record (plain event) {
      box_entries = adds_to mailbox (box.A (record { 0 = mailbox.next_uid }) message.flags message.time (length message.octets) (record { 0 = held }) (record { 0 = message.guid }) message.words);
    })

-- the count of the record that is held, or owed, is lowered
abbrev pub Lowers : Option ℕ → RunEvent → Type 0
Lowers uid event = (lowered : ℕ) × (uid ≡ Some lowered) × (event ≡ record (plain event) { map_entries = lowers lowered })

abbrev pub owed_by : ℕ → Run → Option ℕ
owed_by request run = first_in (λ uid. Some uid) (flat_map (λ e. e.owes) (own_events request run))

-- What the events of a copy do, or of the first half of a move.
abbrev pub DidCopy : Run → Lists → List ℕ → ℕ → List ℕ → RunEvent → EventPart → Type 0
DidCopy run lists name uid target event First =
    (mailbox : Mailbox) × (row : MapRecord) × (mailbox_named name lists ≡ Some mailbox) × IsRecord run lists name uid row
    × (event ≡ record (plain event) { map_entries = entry.U (record { 0 = row.uid }) ∷ []; source = mailbox.number })
DidCopy run lists name uid target event Last = (message : ListedMessage) × (message_at name uid lists ≡ Some message) × Adds run lists target event message
DidCopy run lists name uid target event StartsOver = event ≡ plain event
DidCopy run lists name uid target event GivesBack = Lowers (uid_held event.request run) event
DidCopy run lists name uid target event part = ⊥

-- What the events of a delivery do. Instance, file and record get the next number, the GUID is the store's id, the file
-- taken and the place of the message, and the record names the instances that were found equal or placed.
abbrev pub file_taken : ℕ → Run → Option ℕ
file_taken request run = first_in (λ taken. Some taken.file) (flat_map (λ e. e.files) (own_events request run))

abbrev pub guid_given : ℕ → Run → Option (List ℕ)
guid_given request run = first_in (λ guid. Some guid) (flat_map (λ e. e.given) (own_events request run))

abbrev pub DidDeliver : Around → Run → Lists → List ℕ → ℕ → List ℕ → RunEvent → EventPart → Type 0
DidDeliver around run lists name time octets event First = event ≡ plain event
DidDeliver around run lists name time octets event Compares =
    (candidate : InstRow) × (same : Bool) × (around.candidate ≡ Some candidate)
    × (event ≡ record (plain event) { compared = candidate ∷ []; equal = if same then candidate ∷ [] else [] })
DidDeliver around run lists name time octets event PlacesInstance =
    (instance : InstRow) × (instance_number run.store instance.id.0 ≡ (drawn_of run).instance + 1)
    × (event ≡ record (plain event) { placed = instance ∷ []; drew = record no_numbers { instance = 1 } })
DidDeliver around run lists name time octets event (TakesFile new) =
    event ≡ record (plain event) {
      files = record { file = option_map_or (λ file. file) around.room ((drawn_of run).file + 1); target = 0 } ∷ [];
      made = if new then ((drawn_of run).file + 1) ∷ [] else [];
      drew = if new then record no_numbers { file = 1 } else no_numbers;
    }
DidDeliver around run lists name time octets event PlacesMessage =
    (guid : List ℕ) × (file_taken event.request run ≡ Some (guid_file run.store guid)) × (length guid ≡ 16) × (event ≡ record (plain event) { given = guid ∷ [] })
DidDeliver around run lists name time octets event StoresRecord =
    (guid : List ℕ) × (size : ℕ) × (guid_given event.request run ≡ Some guid)
    × (event ≡ record (plain event) {
      map_entries = entry.S 0 1 (record { 0 = (drawn_of run).map + 1 }) (record { 0 = guid_file run.store guid }) (number_at 12 guid) size (record { 0 = guid }) (instances_found event.request run) ∷ [];
      drew = record no_numbers { map = 1 };
    })
DidDeliver around run lists name time octets event Last =
    (guid : List ℕ) × (guid_given event.request run ≡ Some guid) × Adds run lists name event (record { uid = 0; flags = 0; time = time; guid = guid; octets = octets; words = [] })
DidDeliver around run lists name time octets event GivesBack = Lowers (uid_held event.request run) event
DidDeliver around run lists name time octets event part = ⊥

abbrev pub DidMake : Run → List ℕ → RunEvent → EventPart → Type 0
DidMake run name event First = event ≡ record (plain event) { drew = record no_numbers { mailbox = 1 } }
DidMake run name event Last = event ≡ record (plain event) { map_entries = entry.B (record { 0 = number_of run event.request }) 1 name ∷ [] }
DidMake run name event part = event ≡ plain event

-- What the events of a purge do: it takes files and draws a number for each target, one after another; it makes a target, and
-- copies each record that has a count; a file is switched, by the counts at that event, and doomed; files and instances are removed.
abbrev pub targets_of : MapMeaning → ℕ → List TakenFile → List ℕ
targets_of m drawn [] = []
targets_of m drawn (taken ∷ rest) =
    if list_any (is_copied_from taken.file) m.records then (drawn + 1) ∷ targets_of m (drawn + 1) rest else 0 ∷ targets_of m drawn rest

abbrev pub doomed_last : List RunEvent → List ℕ
doomed_last [] = []
doomed_last (event ∷ []) = event.doomed
doomed_last (event ∷ more ∷ rest) = doomed_last (more ∷ rest)

-- the file that a purge removes: the one that its last event switched, if that had no pin then, else the next of those that it took
abbrev pub file_to_remove : Run → List RunEvent → Option ℕ
file_to_remove run own = option_or (first_in (λ file. if was_pinned run file then None else Some file) (doomed_last own)) (option_map (λ taken. taken.file) (next_taken own))

-- the message that is copied next: the one with the least offset
abbrev pub IsCopiedNext : List MapRecord → MapRecord → Type 0
IsCopiedNext left row = Contains left row × All (λ other. row.offset ≤ other.offset) left

abbrev pub DidPurge : Around → Run → RunEvent → EventPart → Type 0
DidPurge around run event First =
    (files : List TakenFile) × (map (λ t. t.target) files ≡ targets_of (map_of run) (drawn_of run).file files)
    × (event ≡ record (plain event) { files = files; drew = record no_numbers { file = length (with_targets (map_of run) files) } })
DidPurge around run event MakesTarget = (taken : TakenFile) × (next_taken (own_events event.request run) ≡ Some taken) × (event ≡ record (plain event) { made = taken.target ∷ [] })
DidPurge around run event CopiesMessage =
    (row : MapRecord) × IsCopiedNext (copies_left (own_events event.request run) run (next_taken (own_events event.request run))) row × (event ≡ record (plain event) { copied = row.uid ∷ [] })
DidPurge around run event Switches =
    (taken : TakenFile) × (target : ℕ) × (moved : List MapPlace) × (dropped : List MapUid) × (next_taken (own_events event.request run) ≡ Some taken)
    × All (λ place. HasRecord (map_of run) place.uid.0 (λ row. 1 ≤ row.count)) moved × (target ≢ 0 → target ≡ taken.target)
    × (event ≡ record (plain event) { map_entries = entry.P (record { 0 = taken.file }) target moved dropped ∷ []; doomed = taken.file ∷ [] })
DidPurge around run event RemovesFile =
    (file : ℕ) × (file_to_remove run (own_events event.request run) ≡ Some file) × (is_pinned run file ≡ false) × (list_any (λ row. row.file == file) (map_of run).records ≡ false)
    × (event ≡ record (plain event) { removed = file ∷ [] })
DidPurge around run event RemovesInstance = (instance : InstRow) × (around.instance ≡ Some instance) × (event ≡ record (plain event) { gone = instance ∷ [] })
DidPurge around run event part = event ≡ plain event

-- What tasks hold and owe of a record: holds begin with `U` and `S` and end with `A`, debts begin with a removal, and `D`
-- ends either.
abbrev pub begun_in : ℕ → RunEvent → ℕ
begun_in uid event = count_by (λ e. option_map_or (λ u. u == uid) (uid_raised e) false) event.map_entries + count_by (λ u. u == uid) event.owes

abbrev pub added_in : ℕ → BoxAppend → Bool
added_in uid x = option_map_or (λ u. u == uid) (map_uid_in x.entry) false

abbrev pub lowered_in : ℕ → MapEntry → ℕ
lowered_in uid (entry.D uids) = count_by (λ u. u.0 == uid) uids
lowered_in uid other = 0

abbrev pub ended_in : ℕ → RunEvent → ℕ
ended_in uid event = count_by (added_in uid) event.box_entries + sum_by (lowered_in uid) event.map_entries

abbrev pub due_of : Run → ℕ → ℕ
due_of run uid = sum_by (begun_in uid) run.events - sum_by (ended_in uid) run.events

-- The counts are right: of each GUID the references, and what tasks hold and owe of its record.
abbrev pub AreRight : Run → Lists → Type 0
AreRight run lists = (row : MapRecord) → Contains (map_of run).records row → row.count ≡ refs_of lists row.guid + due_of run row.uid

-- What the events of a resync do: files are listed and read; then every count that is wrong is put right by one entry, or
-- none is wrong and nothing is appended.
abbrev pub corrects : List MapCount → List MapEntry
corrects [] = []
corrects (count ∷ counts) = entry.T (count ∷ counts) ∷ []

abbrev pub DidResync : Around → Run → Lists → RunEvent → EventPart → Type 0
DidResync around run lists event First = event ≡ record (plain event) { listed = around.files }
DidResync around run lists event ReadsFile = event ≡ record (plain event) { damaged = around.damaged }
DidResync around run lists event Last =
    (counts : List MapCount) × All (λ given. HasRecord (map_of run) given.uid.0 (λ row. row.count ≢ given.count)) counts × AreRight (and_then run event) lists
    × (event ≡ record (plain event) { map_entries = corrects counts })
DidResync around run lists event part = event ≡ plain event

-- What the events of a fetch do: it pins the file and the instances of the listed message, and has as many pieces to read as its
-- region and its instances have, of 65,536 octets each.
abbrev pub pieces_to_read : MapRecord → ℕ
pieces_to_read row = (row.size + 65535) / 65536 + sum_by (λ i. (i.size + 65535) / 65536) row.instances

abbrev pub DidFetch : Run → Lists → List ℕ → ℕ → RunEvent → EventPart → Type 0
DidFetch run lists name uid event First =
    (row : MapRecord) × IsRecord run lists name uid row × (event ≡ record (plain event) { pins = record { file = row.file; pieces = pieces_to_read row; instances = row.instances } ∷ [] })
DidFetch run lists name uid event RemovesFile =
    (file : ℕ) × IsTrue (list_any (λ e. list_any (λ p. p.file == file) e.pins) (own_events event.request run)) × (is_doomed run file ≡ true) × (is_pinned run file ≡ false)
    × (event ≡ record (plain event) { removed = file ∷ [] })
DidFetch run lists name uid event part = event ≡ plain event

-- The counts fall, of each record that the mailbox lists, by as much as it lists of it; and of no other, since each amount is 1 at least.
abbrev pub AreListings : Run → Mailbox → List MapCount → Type 0
AreListings run mailbox amounts =
    (row : MapRecord) → Contains (map_of run).records row → count_given row.uid amounts 0 ≡ count_by (λ message. bytes_eq message.guid row.guid) mailbox.messages

-- What the events of a deletion do, and that of a renaming.
abbrev pub DidDelete : Run → Lists → List ℕ → RunEvent → EventPart → Type 0
DidDelete run lists name event First =
    (mailbox : Mailbox) × (amounts : List MapCount) × (mailbox_named name lists ≡ Some mailbox) × AreListings run mailbox amounts
    × (event ≡ record (plain event) { map_entries = entry.X (record { 0 = mailbox.number }) amounts ∷ [] })
DidDelete run lists name event part = event ≡ plain event

abbrev pub DidRename : Lists → List ℕ → List ℕ → RunEvent → EventPart → Type 0
DidRename lists name target event First =
    (mailbox : Mailbox) × (mailbox_named name lists ≡ Some mailbox) × (event ≡ record (plain event) { map_entries = entry.V (record { 0 = mailbox.number }) target ∷ [] })
DidRename lists name target event part = event ≡ plain event

-- What an event did that wasn't refused, and that it did nothing else.
abbrev pub DidPart : Around → Run → Lists → Request → RunEvent → EventPart → Type 0
DidPart around run lists (request.Deliver name time octets) event part = DidDeliver around run lists name time octets event part
DidPart around run lists (request.Flag name uid flags) event First =
    (mailbox : Mailbox) × (mailbox_named name lists ≡ Some mailbox) × (event ≡ record (plain event) { box_entries = adds_to mailbox (box.F uid flags) })
DidPart around run lists (request.Keywords name uid words) event First =
    (mailbox : Mailbox) × (mailbox_named name lists ≡ Some mailbox) × (event ≡ record (plain event) { box_entries = adds_to mailbox (box.K uid words) })
DidPart around run lists (request.Expunge name uid) event First = Removes run lists name uid.0 event
DidPart around run lists (request.Expunge name uid) event GivesBack = Lowers (owed_by event.request run) event
DidPart around run lists (request.Move name uid target) event SecondHalf =
    RemovesIfThere run (source_of event.request run) uid.0 event (message_numbered (source_of event.request run) uid.0 lists)
DidPart around run lists (request.Move name uid target) event part = DidCopy run lists name uid.0 target event part
DidPart around run lists (request.Copy name uid target) event part = DidCopy run lists name uid.0 target event part
DidPart around run lists (request.Make name) event part = DidMake run name event part
DidPart around run lists (request.Delete name) event part = DidDelete run lists name event part
DidPart around run lists (request.Rename name target) event part = DidRename lists name target event part
DidPart around run lists (request.Fetch name uid) event part = DidFetch run lists name uid.0 event part
DidPart around run lists request.Purge event part = DidPurge around run event part
DidPart around run lists request.Resync event part = DidResync around run lists event part
DidPart around run lists request event part = event ≡ plain event

-- ---- an event

-- the parts whose event is a step of the journal, where it isn't refused
abbrev pub is_step_part : Request → EventPart → Bool
is_step_part (request.List name) First = true
is_step_part (request.Fetch name uid) First = true
is_step_part (request.Flag name uid flags) First = true
is_step_part (request.Keywords name uid words) First = true
is_step_part (request.Expunge name uid) First = true
is_step_part request.Counts First = true
is_step_part (request.Deliver name time octets) Last = true
is_step_part (request.Copy name uid target) Last = true
is_step_part (request.Move name uid target) Last = true
is_step_part (request.Move name uid target) SecondHalf = true
is_step_part (request.Make name) Last = true
is_step_part (request.Delete name) First = true
is_step_part (request.Rename name target) First = true
is_step_part request.Purge Last = true
is_step_part request.Resync Last = true
is_step_part request part = false

-- The event of a refusal is a step too, but for lack of memory, faults and damage.
abbrev pub makes_step : Request → EventPart → Option Refusal → Bool
makes_step request part None = is_step_part request part
makes_step request part (Some refusal) = is_step refusal

-- What an event finds is so: a delivered message has as many detached parts as can be detached, and the files that a purge
-- tells as it begins, also where it is refused, are those that it finds.
abbrev pub TellsFiles : Around → RunEvent → EventPart → Type 0
TellsFiles around event First = map (λ t. t.file) event.files ≡ around.files
TellsFiles around event part = Unit {0}

abbrev pub Finds : Around → Request → RunEvent → Type 0
Finds around (request.Deliver name time octets) event = around.parts ≡ length (filter (λ part. part.detachable) (parts_in octets))
Finds around request.Purge event = TellsFiles around event event.part
Finds around request event = Unit {0}

-- The parts that take no memory: what they need was taken before.
abbrev pub has_memory : EventPart → Request → Bool
has_memory SecondHalf request = true
has_memory GivesBack request = true
has_memory StartsOver request = true
has_memory RemovesLog request = true
has_memory ReadsPiece request = true
has_memory Unpins request = true
has_memory RemovesFile request = true
has_memory MakesTarget request = true
has_memory CopiesMessage request = true
has_memory Switches request = true
has_memory RemovesInstance request = true
has_memory Last request.Purge = true
has_memory part request = false

-- The parts that read octets of storage files or instances: only they can meet a read fault, and only a fetch's damage. As it
-- begins, a purge reads the header lines that tell which files are clean.
abbrev pub reads_octets : EventPart → Request → Bool
reads_octets Compares request = true
reads_octets ReadsPiece request = true
reads_octets CopiesMessage request = true
reads_octets ReadsFile request = true
reads_octets First request.Purge = true
reads_octets part request = false

abbrev pub MayMeet : EventPart → Request → Refusal → Type 0
MayMeet part request refusal.ReadFault = reads_octets part request ≡ true
MayMeet part request (refusal.Damaged file offset) = is_piece part ≡ true
MayMeet part request refused = Unit {0}

-- an event that was refused by a read fault
abbrev pub is_fault : Option Refusal → Bool
is_fault (Some refusal.ReadFault) = true
is_fault refused = false

abbrev pub is_faulted : RunEvent → Bool
is_faulted event = is_fault event.refused

abbrev pub IsRepliedBy : List RunEvent → Option Reply → Type 0
IsRepliedBy own None = Unit {0}
IsRepliedBy own (Some given) = last_refusal own ≡ refusal_in given

-- An event of a request: it does the next part. It is refused if one of its checks refuses it, and then does nothing; a
-- part that isn't refused does its own and nothing else, and its entries fit the map. The request is answered with it if and
-- only if no part stands behind it.
pub record IsEvent (around after : Around) (run : Run) (lists : Lists) (request : Request) (event : RunEvent) : Type 0 where
  pub finds : Finds around request event
  pub part_is : next_part around run request (own_events event.request run) ≡ Some event.part
  pub refused : (refusal : Refusal) → event.refused ≡ Some refusal → is_step refusal ≡ true → first_refusal run lists (checks_of run request event) ≡ Some refusal
  pub undone : (refusal : Refusal) → event.refused ≡ Some refusal → DidNothing event × (is_step refusal ≡ true → event.drew ≡ no_numbers)
  pub drew : event.refused ≢ None → (event.drew ≡ no_numbers) ⊎ (event.drew ≡ draws run event request event.part)
  pub memory : event.refused ≡ Some refusal.NoMemory → has_memory event.part request ≡ false
  pub may : IfSome event.refused (MayMeet event.part request)
  pub allowed : event.refused ≡ None → first_refusal run lists (checks_of run request event) ≡ None
  pub did : event.refused ≡ None → DidPart around run lists request event event.part
  pub fits : All (MapFits (map_of run)) event.map_entries
  pub ends : (event.reply ≢ None) ↔ (behind_event after (and_then run event) request event event.refused ≡ None)
  pub replied : IsRepliedBy (own_events event.request run ++ event ∷ []) event.reply

-- An event is the next one of its lane: it is one of the first request of the lane that isn't answered.
pub record IsNextEvent (around after : Around) (script : Requests) (run : Run) (lists : Lists) (event : RunEvent) : Type 0 where
  pub asked : ℕ × Request
  pub request_is : slice_get script event.request ≡ Some asked
  pub lane_is : event.lane ≡ asked.0
  pub earlier : (i : ℕ) (q : ℕ × Request) → i < event.request → slice_get script i ≡ Some q → q.0 ≡ asked.0 → reply_of i run ≢ None
  pub unanswered : reply_of event.request run ≡ None
  pub is_event : IsEvent around after run lists asked.1 event
