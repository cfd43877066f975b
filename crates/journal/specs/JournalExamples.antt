-- Five runs: a delivery and a listing; a copy whose message is expunged between its two events; two moves of one message, the
-- second of which finds it gone; a purge beside a fetch that has pinned its file; and a resync.
use Rattle.std.specs.Prelude.{ℕ, true, false, List, [], ◌∷◌, ◌++◌, codes, Some, None, ◌==◌, if◌then◌else◌}
use Rattle.mdbox_base.specs.declared.entries.MapEntry.{MapEntry}
use Rattle.mdbox_base.specs.declared.entries.MapEntry.TheVariants as map
use Rattle.mdbox_base.specs.declared.entries.BoxEntry.TheVariants as box
use Rattle.mdbox_base.specs.declared.requests.Request.TheVariants as request
use Rattle.mdbox_base.specs.declared.replies.Refusal.TheVariants as refusal
use Rattle.mdbox_base.specs.declared.replies.Reply.TheVariants as reply
use Rattle.model_lists.specs.Lists.{ListedMessage, Mailbox, Lists}
use Rattle.model_meaning.specs.MapMeaning.{no_numbers}
use Rattle.model_logs.specs.LogExamples.{example_store}
use Rattle.model_meaning.specs.MeaningExamples.{example_guid, example_made}
use Rattle.list_machine.specs.Run.{First, TakesFile, PlacesMessage, StoresRecord, Last, SecondHalf, GivesBack, ReadsPiece, Unpins, RemovesFile, MakesTarget, CopiesMessage, Switches, ReadsFile, RunEvent, event_of, Run}
use Rattle.journal.specs.Journal.{Requests, JournalStep}
use Rattle.mdbox_base.specs.declared.script.Half.TheVariants.{Whole, CopyHalf, ExpungeHalf}
use Rattle.journal.specs.Events.{Around}

abbrev pub inbox : List ℕ
inbox = codes "INBOX"

abbrev pub hello : List ℕ
hello = codes "Hello"

abbrev pub message : ℕ → ListedMessage
message uid = record { uid = uid; flags = 0; time = 7; guid = example_guid; octets = hello; words = [] }

abbrev pub mailbox : ℕ → List ℕ → ℕ → List ListedMessage → Mailbox
mailbox number name next messages = record { number = number; name = name; next_uid = next; messages = messages }

-- no part is detached, no instance may go, and no file has room
abbrev pub nothing_around : Around
nothing_around = record { parts = 0; candidate = None; room = None; files = []; instance = None; damaged = [] }

abbrev pub first_script : Requests
first_script = (1, request.Deliver inbox 7 hello) ∷ (1, request.List inbox) ∷ []

abbrev pub first_lists : Lists
first_lists = mailbox 1 inbox 1 [] ∷ []

abbrev pub lists_saved : Lists
lists_saved = mailbox 1 inbox 2 (message 1 ∷ []) ∷ []

abbrev pub stored : MapEntry
stored = map.S 0 1 (record { 0 = 1 }) (record { 0 = 1 }) 0x10 0x5e (record { 0 = example_guid }) []

abbrev pub first_event : RunEvent
first_event = event_of 1 0 First 0

abbrev pub takes_event : RunEvent
takes_event = record (event_of 1 0 (TakesFile true) 3) { files = record { file = 1; target = 0 } ∷ []; made = 1 ∷ []; drew = record no_numbers { file = 1 } }

abbrev pub places_event : RunEvent
places_event = record (event_of 1 0 PlacesMessage 5) { given = example_guid ∷ [] }

abbrev pub stores_event : RunEvent
stores_event = record (event_of 1 0 StoresRecord 9) { map_entries = stored ∷ []; drew = record no_numbers { map = 1 } }

abbrev pub adds_event : RunEvent
adds_event = record (event_of 1 0 Last 13) {
  reply = Some (reply.Saved (record { 0 = 1 }) (record { 0 = example_guid }));
  box_entries = record { mailbox = 1; entry = box.A (record { 0 = 1 }) 0 7 5 (record { 0 = 1 }) (record { 0 = example_guid }) [] } ∷ [];
}

abbrev pub lists_event : RunEvent
lists_event = record (event_of 1 1 First 13) { reply = Some (reply.Listed (record { uid = record { 0 = 1 }; flags = 0; size = 5; time = 7; guid = record { 0 = example_guid }; words = [] } ∷ [])) }

abbrev pub first_run : Run
first_run = record {
  store = example_store;
  start = example_made ∷ [];
  opened = record { file = 0; map = 0; instance = 0; mailbox = 1 };
  barred = [];
  events = first_event ∷ takes_event ∷ places_event ∷ stores_event ∷ adds_event ∷ lists_event ∷ [];
}

abbrev pub step_saved : JournalStep
step_saved = record { lane = 1; request = 0; half = Whole; event = 4; answer = reply.Saved (record { 0 = 1 }) (record { 0 = example_guid }); left = lists_saved }

abbrev pub step_listed : JournalStep
step_listed = record {
  lane = 1;
  request = 1;
  half = Whole;
  event = 5;
  answer = reply.Listed (record { uid = record { 0 = 1 }; flags = 0; size = 5; time = 7; guid = record { 0 = example_guid }; words = [] } ∷ []);
  left = lists_saved;
}

abbrev pub first_journal : List JournalStep
first_journal = step_saved ∷ step_listed ∷ []

abbrev pub second_script : Requests
second_script = (1, request.Copy inbox (record { 0 = 1 }) inbox) ∷ (2, request.Expunge inbox (record { 0 = 1 })) ∷ []

abbrev pub lists_left : Lists
lists_left = mailbox 1 inbox 2 [] ∷ []

abbrev pub raise_event : RunEvent
raise_event = record (event_of 1 0 First 4) { map_entries = map.U (record { 0 = 1 }) ∷ []; source = 1 }

abbrev pub remove_event : RunEvent
remove_event = record (event_of 2 1 First 8) { box_entries = record { mailbox = 1; entry = box.R (record { 0 = 1 }) } ∷ []; owes = 1 ∷ [] }

abbrev pub lower_event : RunEvent
lower_event = record (event_of 2 1 GivesBack 12) { reply = Some reply.Done; map_entries = map.D (record { 0 = 1 } ∷ []) ∷ [] }

abbrev pub refused_event : RunEvent
refused_event = record (event_of 1 0 Last 12) { refused = Some refusal.NoMessage }

abbrev pub back_event : RunEvent
back_event = record (event_of 1 0 GivesBack 16) { reply = Some (reply.Refused refusal.NoMessage); map_entries = map.D (record { 0 = 1 } ∷ []) ∷ [] }

abbrev pub second_run : Run
second_run = record {
  store = example_store;
  start = example_made ∷ stored ∷ [];
  opened = record { file = 1; map = 1; instance = 0; mailbox = 1 };
  barred = [];
  events = raise_event ∷ remove_event ∷ lower_event ∷ refused_event ∷ back_event ∷ [];
}

abbrev pub step_expunged : JournalStep
step_expunged = record { lane = 2; request = 1; half = Whole; event = 1; answer = reply.Done; left = lists_left }

abbrev pub step_refused : JournalStep
step_refused = record { lane = 1; request = 0; half = Whole; event = 3; answer = reply.Refused refusal.NoMessage; left = lists_left }

abbrev pub second_journal : List JournalStep
second_journal = step_expunged ∷ step_refused ∷ []

abbrev pub a_box : List ℕ
a_box = codes "A"

abbrev pub b_box : List ℕ
b_box = codes "B"

abbrev pub third_script : Requests
third_script = (1, request.Move inbox (record { 0 = 1 }) a_box) ∷ (2, request.Move inbox (record { 0 = 1 }) b_box) ∷ []

abbrev pub three : List ListedMessage → List ListedMessage → List ListedMessage → ℕ → ℕ → Lists
three x y z m n = mailbox 1 inbox 2 x ∷ mailbox 2 a_box m y ∷ mailbox 3 b_box n z ∷ []

abbrev pub added : ℕ → RunEvent → RunEvent
added number event = record event { box_entries = record { mailbox = number; entry = box.A (record { 0 = 1 }) 0 7 5 (record { 0 = 1 }) (record { 0 = example_guid }) [] } ∷ [] }

abbrev pub third_lists : Lists
third_lists = three (message 1 ∷ []) [] [] 1 1

abbrev pub third_run : Run
third_run = record {
  store = example_store;
  start = example_made ∷ map.B (record { 0 = 2 }) 1 a_box ∷ map.B (record { 0 = 3 }) 1 b_box ∷ stored ∷ [];
  opened = record { file = 1; map = 1; instance = 0; mailbox = 3 };
  barred = [];
  events = record (event_of 1 0 First 4) { map_entries = map.U (record { 0 = 1 }) ∷ []; source = 1 }
      ∷ record (event_of 2 1 First 8) { map_entries = map.U (record { 0 = 1 }) ∷ []; source = 1 }
      ∷ added 2 (event_of 1 0 Last 12)
      ∷ added 3 (event_of 2 1 Last 16)
      ∷ record (event_of 1 0 SecondHalf 20) { box_entries = record { mailbox = 1; entry = box.R (record { 0 = 1 }) } ∷ []; owes = 1 ∷ [] }
      ∷ record (event_of 2 1 SecondHalf 20) { reply = Some (reply.Moved (record { 0 = 1 }) true) }
      ∷ record (event_of 1 0 GivesBack 24) { reply = Some (reply.Moved (record { 0 = 1 }) false); map_entries = map.D (record { 0 = 1 } ∷ []) ∷ [] }
      ∷ [];
}

abbrev pub third_journal : List JournalStep
third_journal = record { lane = 1; request = 0; half = CopyHalf; event = 2; answer = reply.Copied (record { 0 = 1 }); left = three (message 1 ∷ []) (message 1 ∷ []) [] 2 1 }
    ∷ record { lane = 2; request = 1; half = CopyHalf; event = 3; answer = reply.Copied (record { 0 = 1 }); left = three (message 1 ∷ []) (message 1 ∷ []) (message 1 ∷ []) 2 2 }
    ∷ record { lane = 1; request = 0; half = ExpungeHalf; event = 4; answer = reply.Moved (record { 0 = 1 }) false; left = three [] (message 1 ∷ []) (message 1 ∷ []) 2 2 }
    ∷ record { lane = 2; request = 1; half = ExpungeHalf; event = 5; answer = reply.Moved (record { 0 = 1 }) true; left = three [] (message 1 ∷ []) (message 1 ∷ []) 2 2 }
    ∷ []

abbrev pub stored_two : MapEntry
stored_two = map.S 0 0 (record { 0 = 2 }) (record { 0 = 1 }) 0x6e 0x5e (record { 0 = example_store ++ (0 ∷ 0 ∷ 0 ∷ 1 ∷ 0 ∷ 0 ∷ 0 ∷ 0x6e ∷ []) }) []

abbrev pub fourth_script : Requests
fourth_script = (1, request.Fetch inbox (record { 0 = 1 })) ∷ (2, request.Purge) ∷ []

abbrev pub switched : MapEntry
switched = map.P (record { 0 = 1 }) 2 (record { uid = record { 0 = 1 }; offset = 9 } ∷ []) (record { 0 = 2 } ∷ [])

abbrev pub pins_event : RunEvent
pins_event = record (event_of 1 0 First 0) { pins = record { file = 1; pieces = 1; instances = [] } ∷ [] }

abbrev pub takes_files_event : RunEvent
takes_files_event = record (event_of 2 1 First 1) { files = record { file = 1; target = 2 } ∷ []; drew = record no_numbers { file = 1 } }

abbrev pub target_event : RunEvent
target_event = record (event_of 2 1 MakesTarget 4) { made = 2 ∷ [] }

abbrev pub copies_event : RunEvent
copies_event = record (event_of 2 1 CopiesMessage 6) { copied = 1 ∷ [] }

abbrev pub switches_event : RunEvent
switches_event = record (event_of 2 1 Switches 10) { map_entries = switched ∷ []; doomed = 1 ∷ [] }

abbrev pub purged_event : RunEvent
purged_event = record (event_of 2 1 Last 11) { reply = Some (reply.Purged 1 1 0) }

abbrev pub reads_event : RunEvent
reads_event = event_of 1 0 ReadsPiece 11

abbrev pub unpins_event : RunEvent
unpins_event = event_of 1 0 Unpins 11

abbrev pub removes_event : RunEvent
removes_event = record (event_of 1 0 RemovesFile 12) { reply = Some (reply.Fetched hello); removed = 1 ∷ [] }

abbrev pub fourth_run : Run
fourth_run = record {
  store = example_store;
  start = example_made ∷ stored ∷ stored_two ∷ [];
  opened = record { file = 1; map = 2; instance = 0; mailbox = 1 };
  barred = [];
  events = pins_event ∷ takes_files_event ∷ target_event ∷ copies_event ∷ switches_event ∷ reads_event ∷ unpins_event ∷ purged_event ∷ removes_event ∷ [];
}

-- what its events find: the purge takes the one file
abbrev pub fourth_around : ℕ → Around
fourth_around n = if n == 1 then record nothing_around { files = 1 ∷ [] } else nothing_around

abbrev pub fourth_journal : List JournalStep
fourth_journal = record { lane = 1; request = 0; half = Whole; event = 0; answer = reply.Fetched hello; left = lists_saved }
    ∷ record { lane = 2; request = 1; half = Whole; event = 7; answer = reply.Purged 1 1 0; left = lists_saved }
    ∷ []

-- a resync that finds one count too high
abbrev pub fifth_run : Run
fifth_run = record {
  store = example_store;
  start = example_made ∷ stored ∷ [];
  opened = record { file = 1; map = 1; instance = 0; mailbox = 1 };
  barred = [];
  events = record (event_of 1 0 First 0) { listed = 1 ∷ [] }
      ∷ event_of 1 0 ReadsFile 2
      ∷ record (event_of 1 0 Last 6) { reply = Some (reply.Resynced 1 0); map_entries = map.T (record { uid = record { 0 = 1 }; count = 0 } ∷ []) ∷ [] }
      ∷ [];
}
