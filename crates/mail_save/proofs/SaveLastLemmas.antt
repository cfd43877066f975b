-- The last events of a delivery, by the clause of a step: the message is added, or refused, and its record given back.
use Rattle.mail_save.proofs.Common.{◌≡◌, ◌≤◌, ◌<◌, ◌+◌, ◌^◌, ℕ, Bool, true, false, List, [], ◌∷◌, ◌++◌, ◌⊎◌, Option, Some, None, refl, sym, ◌∙◌, ap, subst, append_assoc, arith, inl, inr, find, if◌then◌else◌, slice_get, option_map, option_or, bytes_eq, All-nil, All-cons, told_calls, NoFault, Guid}
use Rattle.mail_save.proofs.Common.{Uid, Refusal, Reply, Lists, lists_by, meanings_by, BoxMeaning, MapFits, MapBox, MapMeaning, map_applied, no_numbers, ShowLists, IsSettledFor, Leaves, Last, GivesBack, RunEvent, Run, and_then, map_of, own_events, first_refusal, part_checks, is_step, Around}
use Rattle.mail_save.proofs.Common.{FindsPlace, drawn_none, one_due, Seen, ShowsSeen, Lasts, step_calm, unstepped, comes_drawn, box_refusal, StepsWithRoom, IsAddingMessage, IsLoweringCount}
use Rattle.std.specs.Prelude.{length}
use Rattle.mdbox_base.specs.Streams.{Rose}
use Rattle.mdbox_base.specs.declared.entries.BoxEntry.TheVariants as box_entry
use Rattle.mdbox_base.specs.declared.entries.MapEntry.TheVariants as map_entry
use Rattle.mdbox_base.specs.declared.progress.Did.TheVariants as did
use Rattle.mdbox_base.specs.declared.replies.Refusal.TheVariants as refusal
use Rattle.mdbox_base.specs.declared.replies.Reply.TheVariants as reply
use Rattle.mdbox_base.specs.declared.script.Half.TheVariants as half
use Rattle.model_lists.specs.Lists.{Mailbox, refs_of}
use Rattle.model_store.specs.Listing.{meaning_named}
use Rattle.list_machine.specs.Run.{event_of}
use Rattle.list_machine.specs.Machine.{IsDelivered, add_message}
use Rattle.list_machine.proofs.MachineOrderLemmas.{answers_well}
use Rattle.journal.specs.Journal.{halves_of, IsReplyOf}
use Rattle.journal.specs.Events.{adds_to, lowers}
use Rattle.task_steps.proofs.SeenLemmas.{no_guids}
use Rattle.task_steps.proofs.EventLaws.{CanRefuse, did_check, did_fall, did_forget, did_part, did_stop, ends_well, no_reply, own_event, refusal_event, refuses, replied_so, some_reply, stands_by, stopped_answer}
use Rattle.task_steps.proofs.OneEventLemmas.{first_reply, never_more}
use Rattle.mail_save.specs.SaveStages.{IsOwnGuid}
use Rattle.mail_save.proofs.SaveRunLemmas.{adds_next, gives_back_behind, gives_back_next, given_before, held_stored, held_refused, saved_refusal, lowered_refusal}
use Rattle.mail_save.proofs.SaveDidLemmas.{some_part, HasRun, KeepsTelling, StaysSo, comes_stored, comes_to_more, refused_left, tells_on}
use Rattle.mail_save.proofs.SaveFrontLemmas.{SeesAround, finds_place, own_first}
use Rattle.mail_save.proofs.SaveListLemmas.{AddsTo, adds_to_box, box_checked, has_room, made_of}
use Rattle.mail_save.proofs.SaveRefusedLemmas.{deliver, step_replied, lowering_why}

-- ---- the mailbox that it is added to

-- In the store as it is seen, the mailbox with this name has this number, and room for a message with this UID, its next. No message
-- with the GUID is listed yet.
pub record FindsBox (name guid : List ℕ) (uid number : ℕ) (seen : Seen) : Type 0 where
  pub m : BoxMeaning
  pub named : meaning_named name seen.map.boxes seen.meanings ≡ Some m
  pub number_is : option_map (λ b. b.number) (find (λ b. bytes_eq b.name name) seen.map.boxes) ≡ Some number
  pub next : uid ≡ m.next
  pub room : length m.rows < 1000000
  pub more : m.next < 4294967295
  pub unlisted : (lists : Lists) → ShowsSeen seen lists → refs_of lists guid ≡ 0

-- what is asked of a request
pub record IsInRange (time : ℕ) (octets : List ℕ) : Type 0 where
  pub timed : time < 2 ^ 64
  pub small : length octets ≤ 67108864

abbrev pub delivered : List ℕ → ℕ → List ℕ → List ℕ → ℕ → Lists → Lists
delivered name time octets guid uid lists = add_message name (record { uid = uid; flags = 0; time = time; guid = guid; octets = octets; words = [] }) lists

abbrev pub adding : ℕ → ℕ → Mailbox → ℕ → List ℕ → List ℕ → ℕ → Option Reply → ℕ → RunEvent
adding lane place mailbox time octets guid held ended calls = record (event_of lane place Last calls) {
  reply = ended;
  box_entries = adds_to mailbox (box_entry.A (record { 0 = mailbox.next_uid }) 0 time (length octets) (record { 0 = held }) (record { 0 = guid }) []);
}

room_allows : (run : Run) (name time_octets guid : List ℕ) (time uid number : ℕ) (seen : Seen) (lists : Lists) (event : RunEvent) → FindsBox name guid uid number seen → ShowLists seen.map.boxes seen.meanings lists → first_refusal run lists (part_checks run event (deliver name time time_octets) Last) ≡ None
room_allows run name octets guid time uid number seen lists event f h =
    box_checked run name seen.map.boxes seen.meanings lists [] h ∙ (ap (λ (o : Option BoxMeaning). option_or (box_refusal o) None) f.named ∙ ap (λ (r : Option Refusal). option_or r None) (has_room f.m f.room f.more))

box_known : (name : List ℕ) (time : ℕ) (octets guid : List ℕ) (uid number held : ℕ) (seen : Seen) (lists : Lists) → FindsBox name guid uid number seen → ShowsSeen seen lists → AddsTo name time octets guid uid number seen.map.boxes seen.meanings held lists
box_known name time octets guid uid number held seen lists f shows = adds_to_box name time octets guid uid number seen.map.boxes seen.meanings held lists f.m f.named f.number_is f.next shows.0 shows.1

is_delivered : (run : Run) (lane place : ℕ) (said : List Reply) (name : List ℕ) (time : ℕ) (octets guid : List ℕ) (uid number held : ℕ) (seen : Seen) (lists : Lists) (ended : Option Reply) (calls : ℕ) → FindsBox name guid uid number seen → ShowsSeen seen lists → IsOwnGuid guid run place
    → (k : AddsTo name time octets guid uid number seen.map.boxes seen.meanings held lists) → IsDelivered run (adding lane place k.mailbox time octets guid held ended calls) lists name time octets uid guid (delivered name time octets guid uid lists)
is_delivered run lane place said name time octets guid uid number held seen lists ended calls f shows own k = record {
  mailbox = k.mailbox;
  target_is = k.named;
  given_is = k.given_is;
  guid_is = refl;
  guid_length = own.long;
  guid_octets = own.each;
  guid_unlisted = f.unlisted lists shows;
  guid_new = own.once;
  new_is = refl;
}

saved_runs : (uid : Uid) (guid : Guid) → Some (reply.Saved uid guid) ≡ stopped_answer → ⊥
saved_runs uid guid e = let k : reply.Saved uid guid ≡ reply.Refused refusal.Stopped = cc e in cc k

ended_due : (old new held uid : ℕ) → new + one_due held uid ≡ old → new + ((0 + one_due held uid) + 0) ≡ old + 0
ended_due old new held uid e = omega (arith, e)

-- ---- it is added

-- What the append made of the store: the mailbox lists the message, and one less is due of its record.
pub record AddsMessage (name : List ℕ) (time : ℕ) (octets guid : List ℕ) (uid number held : ℕ) (old new : Seen) : Type 0 where
  pub ran : old.stopped ≡ false
  pub runs : new.stopped ≡ false
  pub map : new.map ≡ old.map
  pub drawn : new.drawn ≡ old.drawn
  pub taken : new.meanings ≡ meanings_by number (made_of octets (record { 0 = uid }) time (record { 0 = held }) (record { 0 = guid })) old.map.boxes old.meanings
  pub due : (other : ℕ) → new.due other + one_due held other ≡ old.due other
  pub tells : KeepsTelling old new
  pub moments : (lists : Lists) → IsSettledFor lists old.history → Leaves lists (lists_by number octets (made_of octets (record { 0 = uid }) time (record { 0 = held }) (record { 0 = guid })) lists) old.history new.history
  pub settled : (lists : Lists) → IsSettledFor lists old.history → IsSettledFor (lists_by number octets (made_of octets (record { 0 = uid }) time (record { 0 = held }) (record { 0 = guid })) lists) new.history
  pub grows : Lasts old.map old.history new.history
  pub quiet : NoFault old.faults new.faults

-- the lists are shown by a map and meanings
shows_as : (new : Seen) (boxes : List MapBox) (meanings : List BoxMeaning) (lists : Lists) → new.map.boxes ≡ boxes → new.meanings ≡ meanings → ShowLists boxes meanings lists → ShowLists new.map.boxes new.meanings lists
shows_as new boxes meanings lists b m h = subst (λ (bs : List MapBox). ShowLists bs new.meanings lists) (sym b) (subst (λ (ms : List BoxMeaning). ShowLists boxes ms lists) (sym m) h)

pub saved_message : (around after : Around) (name : List ℕ) (time : ℕ) (octets : List ℕ) (guid : Guid) (held number : ℕ) (uid : Uid) (Stands : Run → ℕ → List Reply → Type 0) (old new : Seen) → SeesAround octets around old → IsInRange time octets → FindsBox name guid.0 uid.0 number old → AddsMessage name time octets guid.0 uid.0 number held old new
    → StepsWithRoom (IsAddingMessage guid.0 held) Stands around after (deliver name time octets) old new (did.Step half.Whole) (Some (reply.Saved uid guid))
saved_message around after name time octets guid held number uid Stands old new sees range f a = λ run lane place said lists come shows stood.
    let q = deliver name time octets in
    let k = box_known name time octets guid.0 uid.0 number held old lists f shows in
    let ended = Some (reply.Saved uid guid) in
    let event : RunEvent = adding lane place k.mailbox time octets guid.0 held ended (told_calls new.history) in
    let left : Lists = delivered name time octets guid.0 uid.0 lists in
    let s = stood.0.0 in
    let allowed = room_allows run name octets guid.0 time uid.0 number old lists event f shows.1 in
    let made = is_delivered run lane place said name time octets guid.0 uid.0 number held old lists ended (told_calls new.history) f shows stood.0.1 k in (
      (did_part around after run lane place said q lists left old new (did.Step half.Whole) ended ended event
          (record {
            own = own_event event refl;
            finds = sees.parts;
            found = λ looked. finds_place octets around run old sees come a.ran (stood.1 a.ran);
            part_is = adds_next around run name time octets guid.0 held (own_events place run) s;
            allowed = allowed;
            did = (guid.0, given_before place run guid.0 held s, (k.mailbox, held, k.named, held_stored place run guid.0 held s, refl));
            fits = All-nil (MapFits (map_of run));
            ends = record { 0 = λ e. refl; 1 = λ e g. some_reply (reply.Saved uid guid) g };
            replied = saved_refusal (own_events place run) guid.0 held event s refl;
          })
          (comes_to_more run event old new come (comes_drawn run event old new come a.map (a.drawn ∙ sym (drawn_none old.drawn)) a.grows.grows refl refl) (λ other. ended_due (old.due other) (new.due other) held other (a.due other))
          (record { pins = refl; unpins = refl; doomed = refl; removed = refl; gone = refl }) (tells_on event old new refl refl refl a.tells))
          (no_guids run event refl)
          (answers_well run lists q event (reply.Saved uid guid) left shows.0 (range.timed, range.small) (allowed, made), shows_as new old.map.boxes _ left (ap (λ (m : MapMeaning). m.boxes) a.map) a.taken k.shows)
          a.grows refl ((allowed, made), refl) (
            refl,
            refl,
            a.runs,
            record {
              stops = λ settled. subst (λ (ls : Lists). Leaves lists ls old.history new.history) k.by (a.moments lists settled.0);
              settled = λ settled. subst (λ (ls : Lists). IsSettledFor ls new.history) k.by (a.settled lists settled.0);
            },
          )
          (ends_well q said event ended ended (did.Step half.Whole) old new refl a.ran a.runs a.quiet (λ x. x) (saved_runs uid guid) (λ some. ap (λ (r : List Reply). slice_get (halves_of q) (length r)) stood.0.2)
          (first_reply q said ended (reply.Saved uid guid) stood.0.2 refl))).so,
      λ e. absurd (never_more _ e),
    )

-- ---- a change failed

-- the append stopped the store, of which a crash may leave the lists with the message
pub record FailsToAdd (time : ℕ) (octets guid : List ℕ) (uid number held : ℕ) (old new : Seen) : Type 0 where
  pub ran : old.stopped ≡ false
  pub stopped : new.stopped ≡ true
  pub stays : StaysSo no_numbers old new
  pub rose : Rose old.faults.changes new.faults.changes
  pub moments : (lists : Lists) → IsSettledFor lists old.history → Leaves lists (lists_by number octets (made_of octets (record { 0 = uid }) time (record { 0 = held }) (record { 0 = guid })) lists) old.history new.history

add_stops : (around : Around) (run : Run) (place : ℕ) (name : List ℕ) (time : ℕ) (octets guid : List ℕ) (held : ℕ) (said : List Reply) (seen : Seen) → SeesAround octets around seen → IsAddingMessage guid held run place said
    → CanRefuse around run place (deliver name time octets) Last refusal.Stopped stopped_answer no_numbers
add_stops around run place name time octets guid held said seen sees stood =
    refuses around run place (deliver name time octets) Last refusal.Stopped no_numbers (λ lane calls. sees.parts) (λ lane calls looked. absurd (unstepped looked)) (adds_next around run name time octets guid held (own_events place run) stood.0) refl

pub unsaved_stopped : (around after : Around) (name : List ℕ) (time : ℕ) (octets guid : List ℕ) (held : ℕ) (Stands : Run → ℕ → List Reply → Type 0) (seen : Seen) → SeesAround octets around seen → seen.stopped ≡ true
    → StepsWithRoom (IsAddingMessage guid held) Stands around after (deliver name time octets) seen seen did.Quiet stopped_answer
unsaved_stopped around after name time octets guid held Stands seen sees stopped = λ run lane place said lists come shows stood. (
  (did_stop around after run lane place said (deliver name time octets) Last lists seen (add_stops around run place name time octets guid held said seen sees stood.0) come shows stopped).so,
  λ e. absurd (never_more _ e),
)

pub broken_save : (around after : Around) (name : List ℕ) (time : ℕ) (octets : List ℕ) (guid : Guid) (held number : ℕ) (uid : Uid) (Stands : Run → ℕ → List Reply → Type 0) (old new : Seen) → SeesAround octets around old → FindsBox name guid.0 uid.0 number old → FailsToAdd time octets guid.0 uid.0 number held old new
    → StepsWithRoom (IsAddingMessage guid.0 held) Stands around after (deliver name time octets) old new (did.Broken half.Whole) stopped_answer
broken_save around after name time octets guid held number uid Stands old new sees f a = λ run lane place said lists come shows stood.
    let q = deliver name time octets in
    let k = box_known name time octets guid.0 uid.0 number held old lists f shows in
    let would : RunEvent = adding lane place k.mailbox time octets guid.0 held None (told_calls new.history) in
    let left : Lists = delivered name time octets guid.0 uid.0 lists in
    let s = stood.0.0 in
    let allowed = room_allows run name octets guid.0 time uid.0 number old lists would f shows.1 in
    let made = is_delivered run lane place said name time octets guid.0 uid.0 number held old lists None (told_calls new.history) f shows stood.0.1 k in (
      (did_fall around after run lane place said q Last lists old new (did.Broken half.Whole) no_numbers (add_stops around run place name time octets guid.0 held said old sees stood.0)
          (refused_left run lane place Last refusal.Stopped stopped_answer no_numbers lists old new come a.stays shows) a.ran a.stopped a.rose (λ event. inl refl) tt (
            record { refused = refl; unanswered = refl; ran = a.ran; stopped = a.stopped },
            refl,
            (
              record {
                would = would;
                lane_is = refl;
                request_is = refl;
                part_is = refl;
                did = λ found e. (guid.0, given_before place run guid.0 held s, (k.mailbox, held, k.named, held_stored place run guid.0 held s, refl));
                answer = reply.Saved uid guid;
                left = left;
                made = ((allowed, made), refl);
              },
              λ settled. subst (λ (ls : Lists). Leaves lists ls old.history new.history) k.by (a.moments lists settled.0),
            ),
          )).so,
      λ e. absurd (never_more _ e),
    )

-- ---- it is refused, and goes on

add_goes_on : (around : Around) (run : Run) (place : ℕ) (name : List ℕ) (time : ℕ) (octets guid : List ℕ) (held : ℕ) (said : List Reply) (why : Refusal) (seen : Seen) → SeesAround octets around seen → IsAddingMessage guid held run place said → FindsPlace run around → (why ≡ refusal.Stopped → ⊥)
    → CanRefuse around run place (deliver name time octets) Last why None no_numbers
add_goes_on around run place name time octets guid held said why seen sees stood place_is other = record {
  finds = λ lane calls. sees.parts;
  found = λ lane calls looked. place_is;
  part_is = adds_next around run name time octets guid held (own_events place run) stood.0;
  ends = record { 0 = λ h. absurd (h refl); 1 = λ h. absurd (some_part GivesBack (sym (gives_back_behind name time octets why other) ∙ h)) };
  replied = λ given e. absurd (no_reply given e);
}

lowers_next : (place lane calls : ℕ) (run : Run) (guid : List ℕ) (held : ℕ) (said : List Reply) (why : Refusal) (answer : List Reply) → IsAddingMessage guid held run place said → answer ≡ (if is_step why then reply.Refused why ∷ [] else []) → (is_step why ≡ true) ⊎ (why ≡ refusal.NoMemory)
    → IsLoweringCount held why (and_then run (refusal_event lane place Last why None no_numbers calls)) place answer
lowers_next place lane calls run guid held said why answer stood is cause =
    let s = stood.0 in
    let event : RunEvent = refusal_event lane place Last why None no_numbers calls in (
      record {
        rows = s.rows;
        file = s.file;
        guid = guid;
        front = s.front;
        second = s.second;
        third = s.third;
        fourth = s.fourth;
        fifth = event;
        own_are = own_first place run event (s.front ++ s.second ∷ s.third ∷ s.fourth ∷ []) refl s.own_are ∙ append_assoc s.front (s.second ∷ s.third ∷ s.fourth ∷ []) (event ∷ []);
        attached = s.attached;
        took = s.took;
        placed = s.placed;
        stored = s.stored;
        refused = record { part = refl; refused = refl; bare = refl };
      },
      is,
      cause,
    )

pub refused_message : (around after : Around) (name : List ℕ) (time : ℕ) (octets guid : List ℕ) (held : ℕ) (why : Refusal) (old new : Seen) → SeesAround octets around old → is_step why ≡ true → box_refusal (meaning_named name old.map.boxes old.meanings) ≡ Some why → HasRun old new → StaysSo no_numbers old new
    → StepsWithRoom (IsAddingMessage guid held) (IsLoweringCount held why) around after (deliver name time octets) old new (did.Step half.Whole) None
refused_message around after name time octets guid held why old new sees step refuses h stays = λ run lane place said lists come shows stood.
    let q = deliver name time octets in
    stands_by around after run lane place said q lists old new (did.Step half.Whole) None (refusal_event lane place Last why None no_numbers (told_calls new.history)) (Some (reply.Refused why)) (IsLoweringCount held why)
    (did_check around after run lane place said q Last lists old new why None half.Whole (add_goes_on around run place name time octets guid held said why old sees stood.0 (finds_place octets around run old sees come h.ran (stood.1 h.ran)) (step_calm why refusal.Stopped step refl)) (refused_left run lane place Last why None no_numbers lists old new come stays shows) h.ran h.runs (h.leads lists) h.quiet step refl
    (ap (λ (r : List Reply). slice_get (half.Whole ∷ []) (length r)) stood.0.2) (λ event. box_checked run name old.map.boxes old.meanings lists [] shows.1 ∙ ap (λ (r : Option Refusal). option_or r None) refuses) (λ given e. absurd (no_reply given e)))
    (λ goes_on. lowers_next place lane (told_calls new.history) run guid held said why (said ++ reply.Refused why ∷ []) stood.0 (ap (λ (r : List Reply). r ++ reply.Refused why ∷ []) stood.0.2 ∙ sym (ap (λ (b : Bool). if b then reply.Refused why ∷ [] else []) step)) (inl step))

pub forgotten_message : (around after : Around) (name : List ℕ) (time : ℕ) (octets guid : List ℕ) (held : ℕ) (old new : Seen) → SeesAround octets around old → HasRun old new → StaysSo no_numbers old new
    → StepsWithRoom (IsAddingMessage guid held) (IsLoweringCount held refusal.NoMemory) around after (deliver name time octets) old new did.Quiet None
forgotten_message around after name time octets guid held old new sees h stays = λ run lane place said lists come shows stood.
    let q = deliver name time octets in
    stands_by around after run lane place said q lists old new did.Quiet None (refusal_event lane place Last refusal.NoMemory None no_numbers (told_calls new.history)) None (IsLoweringCount held refusal.NoMemory)
    (did_forget around after run lane place said q Last lists old new None no_numbers (add_goes_on around run place name time octets guid held said refusal.NoMemory old sees stood.0 (finds_place octets around run old sees come h.ran (stood.1 h.ran)) (λ e. let k : refusal.NoMemory ≡ refusal.Stopped = e in cc k)) (refused_left run lane place Last refusal.NoMemory None no_numbers lists old new come stays shows) h.ran h.runs (h.leads lists) h.quiet refl (λ event. inl refl)
    (λ given e. absurd (no_reply given e)))
    (λ goes_on. lowers_next place lane (told_calls new.history) run guid held said refusal.NoMemory said stood.0 stood.0.2 (inr refl))

-- ---- it is given back

abbrev pub giving_back : ℕ → ℕ → ℕ → Refusal → ℕ → RunEvent
giving_back lane place uid why calls = record (event_of lane place GivesBack calls) { reply = Some (reply.Refused why); map_entries = lowers uid }

lowered_ends : (old new held uid : ℕ) → new + one_due held uid ≡ old → new + (0 + (0 + (0 + one_due held uid))) ≡ old + 0
lowered_ends old new held uid e = omega (arith, e)

lowered_reply : (name : List ℕ) (time : ℕ) (octets : List ℕ) (said : List Reply) (why : Refusal) → said ≡ (if is_step why then reply.Refused why ∷ [] else []) → (is_step why ≡ true) ⊎ (why ≡ refusal.NoMemory) → IsReplyOf (deliver name time octets) said (reply.Refused why)
lowered_reply name time octets said why is (inl s) = subst (λ (l : List Reply). IsReplyOf (deliver name time octets) l (reply.Refused why)) (sym (is ∙ ap (λ (b : Bool). if b then reply.Refused why ∷ [] else []) s)) (step_replied name time octets why s)
lowered_reply name time octets said why is (inr m) =
    subst (λ (w : Refusal). IsReplyOf (deliver name time octets) said (reply.Refused w)) (sym m) (is ∙ ap (λ (w : Refusal). if is_step w then reply.Refused w ∷ [] else []) m)

pub lowers_count : (around after : Around) (name : List ℕ) (time : ℕ) (octets : List ℕ) (held : ℕ) (why : Refusal) (Stands : Run → ℕ → List Reply → Type 0) (old new : Seen) → SeesAround octets around old → HasRun old new → MapFits old.map (map_entry.D (record { 0 = held } ∷ [])) → new.map ≡ map_applied (map_entry.D (record { 0 = held } ∷ [])) old.map → new.drawn ≡ old.drawn
    → ((other : ℕ) → new.due other + one_due held other ≡ old.due other) → KeepsTelling old new
    → StepsWithRoom (IsLoweringCount held why) Stands around after (deliver name time octets) old new did.Quiet (Some (reply.Refused why))
lowers_count around after name time octets held why Stands old new sees h fits taken drawn due tells = λ run lane place said lists come shows stood.
    let q = deliver name time octets in
    let event : RunEvent = giving_back lane place held why (told_calls new.history) in
    let s = stood.0.0 in
    let other = lowering_why why stood.0.2 in (
      (did_part around after run lane place said q lists lists old new did.Quiet (Some (reply.Refused why)) None event
          (record {
            own = own_event event refl;
            finds = sees.parts;
            found = λ looked. finds_place octets around run old sees come h.ran (stood.1 h.ran);
            part_is = gives_back_next around run name time octets held why (own_events place run) other s;
            allowed = refl;
            did = (held, held_refused place run held why s, refl);
            fits = All-cons (MapFits (map_of run)) (map_entry.D (record { 0 = held } ∷ [])) [] (subst (λ (m : MapMeaning). MapFits m (map_entry.D (record { 0 = held } ∷ []))) (sym come.come.map_is) fits) (All-nil (MapFits (map_of run)));
            ends = record { 0 = λ e. refl; 1 = λ e f. some_reply (reply.Refused why) f };
            replied = lowered_refusal (own_events place run) held why event s refl;
          })
          (comes_to_more run event old new come (comes_stored run event (map_entry.D (record { 0 = held } ∷ [])) old new come taken (drawn ∙ sym (drawn_none old.drawn)) h.grows refl refl) (λ u. lowered_ends (old.due u) (new.due u) held u (due u))
          (record { pins = refl; unpins = refl; doomed = refl; removed = refl; gone = refl }) (tells_on event old new refl refl refl tells))
          (no_guids run event refl) (h.shown lists shows) h.grows refl refl (refl, h.runs ∙ sym h.ran, h.leads lists)
          (ends_well q said event None (Some (reply.Refused why)) did.Quiet old new refl h.ran h.runs h.quiet (λ x. x) (λ e. other (let k : reply.Refused why ≡ reply.Refused refusal.Stopped = cc e in cc k)) (λ some. absurd (unstepped some))
          (replied_so q said (reply.Refused why) (lowered_reply name time octets said why stood.0.1 stood.0.2)))).so,
      λ e. absurd (never_more _ e),
    )
