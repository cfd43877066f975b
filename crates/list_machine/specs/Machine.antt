-- The list machine: which answers a store may give. Mailbox lists are changed one step at a time; a move is a copy and
-- then an expunge (after RFC 6851, but with two steps that others see).
use Rattle.std.specs.Prelude.{◌≡◌, ◌≤◌, ◌<◌, ◌+◌, ◌^◌, ◌==◌, ℕ, nat_le, nat_lt, Bool, true, false, List, [], ◌∷◌, ◌++◌, length, map, find, sum_by, if◌then◌else◌, Option, Some, None, option_and_then, is_none, is_some, All, ◌≢◌, codes, count_by}
use Rattle.std.specs.List.{list_any}
use Rattle.std.specs.Option.{option_map_or, option_or}
use Rattle.std.specs.Str.{bytes_eq}
use Rattle.mdbox_base.specs.Words.{IsName, IsOctets, count_different}
use Rattle.mdbox_base.specs.Keywords.{AreWords}
use Rattle.mdbox_base.specs.declared.requests.Request.{Request}
use Rattle.mdbox_base.specs.declared.requests.Request.TheVariants as request
use Rattle.mdbox_base.specs.declared.replies.Refusal.{Refusal}
use Rattle.mdbox_base.specs.declared.replies.Refusal.TheVariants as refusal
use Rattle.mdbox_base.specs.declared.replies.Reply.{Reply}
use Rattle.mdbox_base.specs.declared.replies.Reply.TheVariants as reply
use Rattle.model_lists.specs.Lists.{ListedMessage, Mailbox, Lists, change_first, refs_of, empty_mailbox, listing_row}
use Rattle.model_meaning.specs.MapMeaning.{MapMeaning, count_of, named_instances}
use Rattle.list_machine.specs.Run.{EventPart, First, PlacesInstance, TakesFile, StoresRecord, Last, SecondHalf, StartsOver, TakenFile, RunEvent, Run, map_of, drawn_of, given_by_others, guid_added, number_made, uid_copied, corrected_in, dropped_by, files_gone_by, instances_gone_by, damaged_by, source_of, with_targets, target_length}

-- ---- lists

abbrev pub has_name : List ℕ → Mailbox → Bool
has_name name mailbox = bytes_eq mailbox.name name

abbrev pub is_message_of_uid : ℕ → ListedMessage → Bool
is_message_of_uid uid message = message.uid == uid

-- the mailbox with this name, and a message of it
abbrev pub mailbox_named : List ℕ → Lists → Option Mailbox
mailbox_named name lists = find (has_name name) lists

abbrev pub message_in : ℕ → Mailbox → Option ListedMessage
message_in uid mailbox = find (is_message_of_uid uid) mailbox.messages

abbrev pub message_at : List ℕ → ℕ → Lists → Option ListedMessage
message_at name uid lists = option_and_then (message_in uid) (mailbox_named name lists)

-- the mailbox with this number, and a message of it
abbrev pub has_number : ℕ → Mailbox → Bool
has_number number mailbox = mailbox.number == number

abbrev pub mailbox_numbered : ℕ → Lists → Option Mailbox
mailbox_numbered number lists = find (has_number number) lists

abbrev pub message_numbered : ℕ → ℕ → Lists → Option ListedMessage
message_numbered number uid lists = option_and_then (message_in uid) (mailbox_numbered number lists)

-- the first that passes leaves
abbrev pub without_first : {X : Type 0} → (X → Bool) → List X → List X
without_first test [] = []
without_first test (x ∷ xs) = if test x then xs else x ∷ without_first test xs

-- the mailbox with this name has other messages
abbrev pub change_messages : List ℕ → (List ListedMessage → List ListedMessage) → Lists → Lists
change_messages name change lists = change_first (has_name name) (λ mailbox. record mailbox { messages = change mailbox.messages }) lists

-- a message has other flags, or other keywords, or leaves
abbrev pub set_flags : List ℕ → ℕ → ℕ → Lists → Lists
set_flags name uid flags lists = change_messages name (change_first (is_message_of_uid uid) (λ message. record message { flags = flags })) lists

abbrev pub set_words : List ℕ → ℕ → List (List ℕ) → Lists → Lists
set_words name uid words lists = change_messages name (change_first (is_message_of_uid uid) (λ message. record message { words = words })) lists

abbrev pub expunge : List ℕ → ℕ → Lists → Lists
expunge name uid lists = change_messages name (without_first (is_message_of_uid uid)) lists

-- a message leaves the mailbox with this number
abbrev pub expunge_from : ℕ → ℕ → Lists → Lists
expunge_from number uid lists = change_first (has_number number) (λ mailbox. record mailbox { messages = without_first (is_message_of_uid uid) mailbox.messages }) lists

-- the mailbox with this name leaves, or has another
abbrev pub delete_mailbox : List ℕ → Lists → Lists
delete_mailbox name lists = without_first (has_name name) lists

abbrev pub rename_mailbox : List ℕ → List ℕ → Lists → Lists
rename_mailbox name target lists = change_first (has_name name) (λ mailbox. record mailbox { name = target }) lists

-- a message is added last to a mailbox, with its next UID
abbrev pub add_last : ListedMessage → Mailbox → Mailbox
add_last message mailbox = record mailbox {
  next_uid = mailbox.next_uid + 1;
  messages = mailbox.messages ++ record message { uid = mailbox.next_uid } ∷ [];
}

abbrev pub add_message : List ℕ → ListedMessage → Lists → Lists
add_message name message lists = change_first (has_name name) (add_last message) lists

-- ---- refusals

-- What an event looks at before it does its part.
pub data Check : Type 0 where
  HasMailbox : (name : List ℕ) → Check
  IsNotInbox : (name : List ℕ) → Check
  IsNewName : (name : List ℕ) → Check
  HasUid : (name : List ℕ) → (uid : ℕ) → Check
  RoomForMailbox : Check
  RoomForMessage : (name : List ℕ) → Check
  NextUid : (name : List ℕ) → Check
  NextMapUid : Check
  NextFiles : (many : ℕ) → Check
  TargetFits : (octets : ℕ) → Check
  NextInstance : Check
  NextMailbox : Check
  MayBeCopied : (name : List ℕ) → (uid : ℕ) → Check

abbrev pub refused_where : Bool → Refusal → Option Refusal
refused_where holds refusal = if holds then Some refusal else None

-- the number behind this one would be above 4,294,967,294
abbrev pub is_used_up : ℕ → Bool
is_used_up drawn = nat_le 4294967294 drawn

-- What a check refuses: no mailbox has the name; it is INBOX; a mailbox has it; no message has the UID; 1,024 mailboxes are there;
-- 1,000,000 messages are listed; a number that the event would draw, or the length of a purge's target, would be above
-- 4,294,967,294; the count that is kept of the message's GUID is 65,535.
abbrev pub refusal_at : Run → Lists → Check → Option Refusal
refusal_at run lists (HasMailbox name) = refused_where (is_none (mailbox_named name lists)) refusal.NoMailbox
refusal_at run lists (IsNotInbox name) = refused_where (bytes_eq name (codes "INBOX")) refusal.Inbox
refusal_at run lists (IsNewName name) = refused_where (is_some (mailbox_named name lists)) refusal.Exists
refusal_at run lists (HasUid name uid) = refused_where (is_none (message_at name uid lists)) refusal.NoMessage
refusal_at run lists RoomForMailbox = refused_where (nat_le 1024 (length lists)) (refusal.TooManyMailboxes 1024)
refusal_at run lists (RoomForMessage name) =
    refused_where (option_map_or (λ m. nat_le 1000000 (length m.messages)) (mailbox_named name lists) false) (refusal.MailboxFull 1000000)
refusal_at run lists (NextUid name) =
    refused_where (option_map_or (λ m. nat_le 4294967295 m.next_uid) (mailbox_named name lists) false) (refusal.StoreFull 4294967294)
refusal_at run lists NextMapUid = refused_where (is_used_up (drawn_of run).map) (refusal.StoreFull 4294967294)
refusal_at run lists (NextFiles many) = refused_where (nat_lt 4294967294 ((drawn_of run).file + many)) (refusal.StoreFull 4294967294)
refusal_at run lists (TargetFits octets) = refused_where (nat_lt 4294967294 octets) (refusal.StoreFull 4294967294)
refusal_at run lists NextInstance = refused_where (is_used_up (drawn_of run).instance) (refusal.StoreFull 4294967294)
refusal_at run lists NextMailbox = refused_where (is_used_up (drawn_of run).mailbox) (refusal.StoreFull 4294967294)
refusal_at run lists (MayBeCopied name uid) =
    refused_where (option_map_or (λ m. nat_le 65535 (count_of (map_of run) m.guid)) (message_at name uid lists) false) (refusal.TooManyCopies 65535)

-- the first refusal of these checks
abbrev pub first_refusal : Run → Lists → List Check → Option Refusal
first_refusal run lists [] = None
first_refusal run lists (check ∷ checks) = option_or (refusal_at run lists check) (first_refusal run lists checks)

-- The checks of an event, in their order: mailbox (of a copy the source, then the target), INBOX, name, message, mailboxes, room,
-- numbers, copies.
abbrev pub copy_checks : List ℕ → ℕ → List ℕ → EventPart → List Check
copy_checks name uid target First =
    HasMailbox name ∷ HasMailbox target ∷ HasUid name uid ∷ RoomForMessage target ∷ NextUid target ∷ MayBeCopied name uid ∷ []
copy_checks name uid target Last = HasMailbox name ∷ HasMailbox target ∷ HasUid name uid ∷ RoomForMessage target ∷ NextUid target ∷ []
copy_checks name uid target StartsOver = HasMailbox name ∷ HasMailbox target ∷ HasUid name uid ∷ RoomForMessage target ∷ NextUid target ∷ []
copy_checks name uid target part = []

abbrev pub deliver_checks : List ℕ → EventPart → List Check
deliver_checks name First = HasMailbox name ∷ RoomForMessage name ∷ NextUid name ∷ NextMapUid ∷ []
deliver_checks name PlacesInstance = NextInstance ∷ []
deliver_checks name (TakesFile true) = NextFiles 1 ∷ []
deliver_checks name StoresRecord = NextMapUid ∷ []
deliver_checks name Last = HasMailbox name ∷ RoomForMessage name ∷ NextUid name ∷ []
deliver_checks name part = []

abbrev pub make_checks : List ℕ → EventPart → List Check
make_checks name First = IsNewName name ∷ RoomForMailbox ∷ NextMailbox ∷ []
make_checks name Last = IsNewName name ∷ RoomForMailbox ∷ []
make_checks name StartsOver = IsNewName name ∷ RoomForMailbox ∷ []
make_checks name part = []

-- A purge looks at the numbers of all its targets, and at the length of each.
abbrev pub purge_checks : MapMeaning → List TakenFile → List Check
purge_checks m files = NextFiles (length (with_targets m files)) ∷ map (λ t. TargetFits (target_length m t.file)) (with_targets m files)

abbrev pub part_checks : Run → RunEvent → Request → EventPart → List Check
part_checks run event (request.Deliver name time octets) part = deliver_checks name part
part_checks run event (request.List name) First = HasMailbox name ∷ []
part_checks run event (request.Fetch name uid) First = HasMailbox name ∷ HasUid name uid.0 ∷ []
part_checks run event (request.Flag name uid flags) First = HasMailbox name ∷ HasUid name uid.0 ∷ []
part_checks run event (request.Keywords name uid words) First = HasMailbox name ∷ HasUid name uid.0 ∷ []
part_checks run event (request.Copy name uid target) part = copy_checks name uid.0 target part
part_checks run event (request.Move name uid target) part = copy_checks name uid.0 target part
part_checks run event (request.Expunge name uid) First = HasMailbox name ∷ HasUid name uid.0 ∷ []
part_checks run event (request.Make name) part = make_checks name part
part_checks run event (request.Delete name) First = HasMailbox name ∷ IsNotInbox name ∷ []
part_checks run event (request.Rename name target) First = HasMailbox name ∷ IsNotInbox name ∷ IsNewName target ∷ []
part_checks run event request.Purge First = purge_checks (map_of run) event.files
part_checks run event request part = []

abbrev pub checks_of : Run → Request → RunEvent → List Check
checks_of run request event = part_checks run event request event.part

-- ---- steps

-- A copy, or the first half of a move: the message as it is listed now goes last into the target.
pub record IsCopied (old : Lists) (name : List ℕ) (uid : ℕ) (target : List ℕ) (given : ℕ) (new : Lists) : Type 0 where
  pub message : ListedMessage
  pub mailbox : Mailbox
  pub source_is : message_at name uid old ≡ Some message
  pub target_is : mailbox_named target old ≡ Some mailbox
  pub given_is : given ≡ mailbox.next_uid
  pub new_is : new ≡ add_message target message old

-- A delivery: the message goes last into the mailbox, with flags 0, no keywords and a GUID of its own, which the event's entry tells.
pub record IsDelivered (run : Run) (event : RunEvent) (old : Lists) (name : List ℕ) (time : ℕ) (octets : List ℕ) (given : ℕ) (guid : List ℕ) (new : Lists) : Type 0 where
  pub mailbox : Mailbox
  pub target_is : mailbox_named name old ≡ Some mailbox
  pub given_is : given ≡ mailbox.next_uid
  pub guid_is : guid_added event.box_entries ≡ Some guid
  pub guid_length : length guid ≡ 16
  pub guid_octets : IsOctets guid
  pub guid_unlisted : refs_of old guid ≡ 0
  pub guid_new : All (λ other. other ≢ guid) (given_by_others event.request run)
  pub new_is : new ≡ add_message name (record { uid = given; flags = 0; time = time; guid = guid; octets = octets; words = [] }) old

-- A make: an empty mailbox is last, with the number that the event's entry tells: above all others and above the highest
-- of the map, and drawn.
pub record IsMade (run : Run) (event : RunEvent) (old : Lists) (name : List ℕ) (new : Lists) : Type 0 where
  pub number : ℕ
  pub number_is : number_made event.map_entries ≡ Some number
  pub above : All (λ mailbox. mailbox.number < number) old
  pub fresh : (map_of run).highest.mailbox < number
  pub drawn : number ≤ (drawn_of run).mailbox
  pub fits : number ≤ 4294967294
  pub new_is : new ≡ old ++ empty_mailbox number name ∷ []

-- The numbers of a count: records, listed messages, the sum of the counts that are kept, and different instances.
pub record AreCounts (run : Run) (lists : Lists) (records references counts instances : ℕ) : Type 0 where
  pub records_are : records ≡ length (map_of run).records
  pub references_are : references ≡ sum_by (λ mailbox. length mailbox.messages) lists
  pub counts_are : counts ≡ sum_by (λ row. row.count) (map_of run).records
  pub instances_are : instances ≡ count_different (map (λ instance. instance.id.0) (named_instances (map_of run)))

-- The numbers of a purge: what its own events dropped, doomed or removed.
pub record ArePurged (run : Run) (event : RunEvent) (dropped files instances : ℕ) : Type 0 where
  pub dropped_are : dropped ≡ dropped_by event.request run
  pub files_are : files ≡ files_gone_by event.request run
  pub instances_are : instances ≡ instances_gone_by event.request run

-- The numbers of a resync: the records whose count its last event changes, and the regions that its own events found damaged.
pub record AreResynced (run : Run) (event : RunEvent) (corrected damaged : ℕ) : Type 0 where
  pub corrected_are : corrected ≡ sum_by (corrected_in (map_of run)) event.map_entries
  pub damaged_are : damaged ≡ damaged_by event.request run

-- The second half of a move: where the mailbox with the number of the copy's source is there and lists the message, it leaves,
-- else nothing changes.
abbrev pub IsSecondHalf : Lists → ℕ → ℕ → Bool → Lists → Type 0
IsSecondHalf old number uid gone new =
    (gone ≡ is_none (message_numbered number uid old)) × (new ≡ (if gone then old else expunge_from number uid old))

-- From the old lists a part of a request that isn't refused may give this reply and lead to the new lists.
abbrev pub Does : Run → RunEvent → Lists → Request → EventPart → Reply → Lists → Type 0
Does run event old (request.List name) First (reply.Listed rows) new =
    (mailbox : Mailbox) × (mailbox_named name old ≡ Some mailbox) × (rows ≡ map listing_row mailbox.messages) × (new ≡ old)
Does run event old (request.Fetch name uid) First (reply.Fetched octets) new =
    (message : ListedMessage) × (message_at name uid.0 old ≡ Some message) × (octets ≡ message.octets) × (new ≡ old)
Does run event old (request.Flag name uid flags) First reply.Done new = new ≡ set_flags name uid.0 flags old
Does run event old (request.Keywords name uid words) First reply.Done new = new ≡ set_words name uid.0 words old
Does run event old (request.Make name) Last reply.Done new = IsMade run event old name new
Does run event old (request.Delete name) First reply.Done new = new ≡ delete_mailbox name old
Does run event old (request.Rename name target) First reply.Done new = new ≡ rename_mailbox name target old
Does run event old (request.Deliver name time octets) Last (reply.Saved uid guid) new = IsDelivered run event old name time octets uid.0 guid.0 new
Does run event old (request.Copy name uid target) Last (reply.Copied given) new = IsCopied old name uid.0 target given.0 new
Does run event old (request.Move name uid target) Last (reply.Copied given) new = IsCopied old name uid.0 target given.0 new
Does run event old (request.Move name uid target) SecondHalf (reply.Moved given gone) new =
    (uid_copied event.request run ≡ Some given.0) × IsSecondHalf old (source_of event.request run) uid.0 gone new
Does run event old (request.Expunge name uid) First reply.Done new = new ≡ expunge name uid.0 old
Does run event old request.Counts First (reply.Counted records references counts instances) new =
    AreCounts run old records references counts instances × (new ≡ old)
Does run event old request.Purge Last (reply.Purged dropped files instances) new = ArePurged run event dropped files instances × (new ≡ old)
Does run event old request.Resync Last (reply.Resynced corrected damaged) new = AreResynced run event corrected damaged × (new ≡ old)
Does run event old request part reply new = ⊥

-- What a part of a request answers: a refusal, which is the first of its checks and changes nothing, or, where none of them
-- refuses, what it does.
abbrev pub PartAnswers : Run → RunEvent → Lists → Request → EventPart → Reply → Lists → Type 0
PartAnswers run event old request part (reply.Refused refusal) new = (first_refusal run old (part_checks run event request part) ≡ Some refusal) × (new ≡ old)
PartAnswers run event old request part reply new = (first_refusal run old (part_checks run event request part) ≡ None) × Does run event old request part reply new

-- A step, by an event that begins when the run has come so far.
abbrev pub Answers : Run → Lists → Request → RunEvent → Reply → Lists → Type 0
Answers run old request event reply new = PartAnswers run event old request event.part reply new

-- the refusals that are steps; the others, lack of memory, faults and damage, are none
abbrev pub is_step : Refusal → Bool
is_step refusal.NoMemory = false
is_step refusal.ReadFault = false
is_step refusal.Stopped = false
is_step (refusal.Damaged file offset) = false
is_step refusal = true

-- ---- requests

-- A request that can be asked: the new name of a mailbox is one, flags are bits below 32, keywords are those of a message, a
-- delivery's time has 64 bits and its message at most 67,108,864 octets.
abbrev pub RequestInRange : Request → Type 0
RequestInRange (request.Make name) = IsName name
RequestInRange (request.Rename name target) = IsName target
RequestInRange (request.Flag name uid flags) = flags ≤ 31
RequestInRange (request.Keywords name uid words) = AreWords words
RequestInRange (request.Deliver name time octets) = (time < 2 ^ 64) × (length octets ≤ 67108864)
RequestInRange request = Unit {0}

-- ---- references

-- 1 where the message is there and has this GUID, else 0
abbrev pub one_of_guid : List ℕ → Option ListedMessage → ℕ
one_of_guid guid None = 0
one_of_guid guid (Some message) = if bytes_eq message.guid guid then 1 else 0

-- How many references to a GUID a step adds: a delivery one to its own, a copy one to that of its source.
abbrev pub refs_added : Lists → Request → EventPart → Reply → List ℕ → ℕ
refs_added old (request.Deliver name time octets) Last (reply.Saved uid given) guid = if bytes_eq given.0 guid then 1 else 0
refs_added old (request.Copy name uid target) Last (reply.Copied given) guid = one_of_guid guid (message_at name uid.0 old)
refs_added old (request.Move name uid target) Last (reply.Copied given) guid = one_of_guid guid (message_at name uid.0 old)
refs_added old request part reply guid = 0

-- how many messages of the mailbox have this GUID, 0 where there is none
abbrev pub refs_within : List ℕ → Option Mailbox → ℕ
refs_within guid mailbox = option_map_or (λ m. count_by (λ message. bytes_eq message.guid guid) m.messages) mailbox 0

-- How many it takes: an expunge, and the second half of a move, one from that of the message, where it is listed; a deletion
-- those of all that the mailbox lists. The second half of a move finds its mailbox by the number that its run tells.
abbrev pub refs_taken : Run → RunEvent → Lists → Request → EventPart → Reply → List ℕ → ℕ
refs_taken run event old (request.Expunge name uid) First reply.Done guid = one_of_guid guid (message_at name uid.0 old)
refs_taken run event old (request.Move name uid target) SecondHalf (reply.Moved given gone) guid = one_of_guid guid (message_numbered (source_of event.request run) uid.0 old)
refs_taken run event old (request.Delete name) First reply.Done guid = refs_within guid (mailbox_named name old)
refs_taken run event old request part reply guid = 0
