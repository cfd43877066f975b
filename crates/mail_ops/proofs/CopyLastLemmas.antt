-- The second event of a copy or a move, by the clause of a step: the message is added, or it is refused, and the count given back.
use Rattle.mail_ops.proofs.Common.{All-nil, common_steps, nat_tests, ◌≡◌, ◌≤◌, ◌+◌, ℕ, Bool, true, false, List, [], ◌∷◌, ◌++◌, map, Option, Some, None, refl, sym, ◌∙◌, ap, subst, arith, inl, inr, ◌⊎◌, length, slice_get, if◌then◌else◌, option_or, eq-eqb, ne_eqb, History, Faults, told_calls, MapEntry}
use Rattle.mail_ops.proofs.Common.{BoxNo, MapUid, Uid, ListRow, Refusal, Reply, Request, Half, lists_by, meanings_by, ListedMessage, Mailbox, Lists, AreWellFormed, listing_row, LogRow, BoxMeaning, MapMeaning, map_meaning, no_numbers, listed_row, ShowLists, IsSettledFor, Leaves, First, Last, GivesBack, StartsOver, EndsInPart}
use Rattle.mail_ops.proofs.Common.{RunEvent, event_of, Run, and_then, map_of, own_events, first_refusal, part_checks, is_step, mailbox_named, answers_well, halves_of, IsReplyOf, Around, is_elsewhere, last_refusal, next_part, own_more, own_other, Brings, due_at, IsStore, StoreValue, indexes_of}
use Rattle.mail_ops.proofs.Common.{one_due, number_named, HasComeTo, IsKept, MapTook, MapFell, lowering_of, IsHolding, copy_refusal, added_copy, AddsRow, FellAdding, seen_of, CanRefuse, did_check, did_fall, did_forget, did_own, did_stop, ends_well, no_reply, own_event, refuses, replied_so}
use Rattle.mail_ops.proofs.Common.{some_reply, stands_by, stays_left, comes_along, stays_itself, first_reply, mail_still, never_more, nothing, tells_itself}
use Rattle.mdbox_base.specs.declared.entries.BoxEntry.TheVariants as box_entry
use Rattle.mdbox_base.specs.declared.progress.Did.TheVariants as did
use Rattle.mdbox_base.specs.declared.replies.Refusal.TheVariants as refusal
use Rattle.mdbox_base.specs.declared.replies.Reply.TheVariants as reply
use Rattle.mdbox_base.specs.declared.requests.Request.TheVariants as request
use Rattle.mdbox_base.specs.declared.script.Half.TheVariants as half_is
use Rattle.model_appends.specs.Amounts.{due_by_box}
use Rattle.model_store.specs.Settled.{files_of}
use Rattle.model_store.specs.Stands.{AreMailboxes}
use Rattle.model_store.proofs.StandsLemmas.{map_same}
use Rattle.list_machine.specs.Machine.{IsCopied, add_message, copy_checks}
use Rattle.list_machine.specs.Run.{uid_added}
use Rattle.journal.specs.Events.{adds_to, lowers}
use Rattle.entry_steps.proofs.AppendListLemmas.{added_by}
use Rattle.mail_ops.specs.CopyStages.{IsToRaise, IsBeginningAgain, IsGivingBack, adding_part, answered_by}
use Rattle.mail_ops.specs.Copying.{CopyPlace, IsNamedElsewhere}
use Rattle.mail_ops.proofs.CopyFirstLemmas.{CopyingClause, place_free, copy_steps}
use Rattle.mail_ops.proofs.CopyPartLemmas.{IsCopying, adds_next, back_ends, back_goes_on, begins_next, copy_copies, elsewhere_is, gives_back_next, holding_next}
use Rattle.mail_ops.proofs.CopyPlaceLemmas.{place_checked, place_checks}
use Rattle.task_steps.proofs.EventLaws.{last_with, refusal_event, step_calm}
use Rattle.mail_ops.proofs.FlagEventLemmas.{shown_on}
use Rattle.mail_ops.proofs.FlagListLemmas.{numbered}
use Rattle.mail_ops.proofs.LastEventLemmas.{copied_by, copied_new, ends_in, ends_still, held_by, held_same, last_before, source_by, unrefused_more, unrefused_still}
use Rattle.mail_ops.proofs.LoweringLemmas.{comes_with, lowered_due, shows_still, leads_still, one_fits}
use Rattle.mail_ops.proofs.MessageLemmas.{ShownRow, shown_row, shown_guid, record_of_row, store_is_sound, stored_by}
use Rattle.mail_ops.proofs.NamedListLemmas.{ShownBox, ShowsBox, shows_box}
use Rattle.mail_ops.proofs.RemovalLemmas.{took_tells, box_tells, box_fell_stays, map_fell_stays}
use Rattle.mail_ops.proofs.ShownEntryLemmas.{shown_entry}
use Rattle.mail_ops.proofs.ToldLemmas.{memory_runs, some_part}

-- ---- the message that is added

-- the source and the target, in lists that are shown
pub record CopyKnown {D : Type 0} (store : StoreValue D) (name : List ℕ) (uid : Uid) (target : List ℕ) (row : LogRow) (number : ℕ) (given : Uid) (lists : Lists) : Type 0 where
  pub source : ℕ
  pub shown : ShownRow name uid.0 source lists row
  pub mailbox : Mailbox
  pub named : mailbox_named target lists ≡ Some mailbox
  pub number_is : mailbox.number ≡ number
  pub given_is : given.0 ≡ mailbox.next_uid
  pub by : lists_by number shown.message.octets (added_copy given row) lists ≡ add_message target shown.message lists
  pub shows : ShowLists store.map.boxes (meanings_by number (added_copy given row) store.map.boxes (indexes_of store.boxes)) (add_message target shown.message lists)

message_as : (row : LogRow) (message : ListedMessage) (given : ℕ) (target : List ℕ) (lists : Lists) → listed_row row ≡ listing_row message
    → add_message target (record { uid = given; flags = row.flags; time = row.time; guid = row.guid; octets = message.octets; words = row.words }) lists ≡ add_message target message lists
message_as row message given target lists e =
    ap (λ (r : ListRow). add_message target (record { uid = given; flags = r.flags; time = r.time; guid = r.guid.0; octets = message.octets; words = r.words }) lists) e

made_alike : (row : LogRow) (message : ListedMessage) (given : Uid) → listed_row row ≡ listing_row message → map listed_row (record { uid = given.0; flags = row.flags; time = row.time; size = row.size; map_uid = row.map_uid; guid = row.guid; words = row.words } ∷ [])
    ≡ map listing_row (record { uid = given.0; flags = row.flags; time = row.time; guid = row.guid; octets = message.octets; words = row.words } ∷ [])
made_alike row message given e = ap (λ (r : ListRow). record { uid = record { 0 = given.0 }; flags = row.flags; size = r.size; time = row.time; guid = record { 0 = row.guid }; words = row.words } ∷ []) e

copy_gives : (lists : Lists) (target : List ℕ) (row : LogRow) (message : ListedMessage) (number : ℕ) (given : Uid) (mailbox : Mailbox) → AreWellFormed lists → mailbox_named target lists ≡ Some mailbox → mailbox.number ≡ number → given.0 ≡ mailbox.next_uid → listed_row row ≡ listing_row message
    → lists_by number message.octets (added_copy given row) lists ≡ add_message target message lists
copy_gives lists target row message number given mailbox well named number_is given_is same =
    subst (λ (k : ℕ). lists_by k message.octets (added_copy given row) lists ≡ add_message target message lists) number_is
    (added_by lists target mailbox message.octets given row.flags row.time row.size (record { 0 = row.map_uid }) (record { 0 = row.guid }) row.words well named given_is ∙ message_as row message given.0 target lists same)

pub copy_known : {D : Type 0} → (store : StoreValue D) (name : List ℕ) (uid : Uid) (target : List ℕ) (row : LogRow) (number : ℕ) (given : Uid) (lists : Lists) → CopyPlace name uid.0 target store row number given.0 → AreWellFormed lists → ShowLists store.map.boxes (indexes_of store.boxes) lists
    → CopyKnown store name uid target row number given lists
copy_known store name uid target row number given lists at well h =
    let s = shown_row store name uid.0 at.source row lists at.from h in
    let t : ShownBox target lists at.m = subst (ShowsBox target lists) at.to.named (shows_box target store.map.boxes (indexes_of store.boxes) lists h) in
    let number_is = numbered target number store.map.boxes (indexes_of store.boxes) lists t.mailbox h at.to.number_is t.named in
    let given_is : given.0 ≡ t.mailbox.next_uid = at.next_is ∙ sym t.next in
    let by = copy_gives lists target row s.message number given t.mailbox well t.named number_is given_is s.same in
    record {
      source = at.source;
      shown = s;
      mailbox = t.mailbox;
      named = t.named;
      number_is = number_is;
      given_is = given_is;
      by = by;
      shows = subst (λ (ls : Lists). ShowLists store.map.boxes (meanings_by number (added_copy given row) store.map.boxes (indexes_of store.boxes)) ls) by
          (shown_entry number s.message.octets (added_copy given row) store.map.boxes (indexes_of store.boxes) lists (made_alike row s.message given s.same) h);
    }

-- ---- what is stored

boxes_settled : {D : Type 0} → (now : History) (store : StoreValue D) (lists : Lists) → IsStore (Some now) store → store.stopped ≡ false → IsSettledFor lists (Some now) → AreMailboxes (files_of now.now) store.map store.map.boxes lists
boxes_settled h store lists s runs settled =
    let opens = (s.running runs).opens in
    let same = map_same (files_of h.now) settled.store store.map.store settled.entries s.entries settled.safe.stands.map_log opens.passed.map_log in
    let there : AreMailboxes (files_of h.now) (map_meaning store.map.store s.entries) (map_meaning store.map.store s.entries).boxes lists =
    subst (λ (id : List ℕ). AreMailboxes (files_of h.now) (map_meaning id s.entries) (map_meaning id s.entries).boxes lists) same.0
    (subst (λ (es : List MapEntry). AreMailboxes (files_of h.now) (map_meaning settled.store es) (map_meaning settled.store es).boxes lists) same.1 settled.safe.stands.mailboxes) in
    subst (λ (m : MapMeaning). AreMailboxes (files_of h.now) m m.boxes lists) (sym s.map_is) there

-- the source stores the octets that are listed, and so does the copy
pub brings_copy : {D : Type 0} → (history : Option History) (store : StoreValue D) (name : List ℕ) (uid : Uid) (target : List ℕ) (row : LogRow) (number : ℕ) (given : Uid) (lists : Lists) → IsStore history store → store.stopped ≡ false → (at : CopyPlace name uid.0 target store row number given.0)
    → (k : CopyKnown store name uid target row number given lists) → IsSettledFor lists history → Brings store.map (added_copy given row) k.shown.message.octets history
brings_copy None store name uid target row number given lists is runs at k settled = absurd settled
brings_copy (Some h) store name uid target row number given lists is runs at k settled =
    let r = record_of_row (Some h) store name uid.0 at.source row is at.from in
    let guid : row.guid ≡ k.shown.message.guid = shown_guid name uid.0 k.source lists row k.shown in (
      record {
        uid = refl;
        flags = refl;
        time = refl;
        guid = refl;
        size = sym (ap (λ (n : ListRow). n.size) k.shown.same);
        words = refl;
        entry = r.entry;
        found = r.found;
        same = r.guid_is;
        octets = stored_by (files_of h.now) store.map store.map.boxes lists name uid.0 k.shown.message r.entry (store_is_sound (Some h) store is) (boxes_settled h store lists is runs settled) k.shown.there (r.by_guid k.shown.message.guid guid);
      },
      tt,
    )

-- ---- it is refused, and goes on

-- the name of its source, in the run
pub named_in : {D : Type 0} → (pins : ℕ → ℕ) (run : Run) (name : List ℕ) (source : ℕ) (store : StoreValue D) (history : Option History) (faults : Faults) → HasComeTo run (seen_of pins store history faults) → number_named store.map name ≡ Some source → number_named (map_of run) name ≡ Some source
named_in pins run name source store history faults come named = ap (λ (m : MapMeaning). number_named m name) come.come.map_is ∙ named

add_goes_on : (around : Around) (run : Run) (place : ℕ) (q : Request) (name : List ℕ) (uid : Uid) (target : List ℕ) (half : Half) (elsewhere : Bool) (why : Refusal) → IsCopying q name uid target half → next_part around run q (own_events place run) ≡ Some (adding_part elsewhere) → (why ≡ refusal.Stopped → ⊥)
    → CanRefuse around run place q (adding_part elsewhere) why None no_numbers
add_goes_on around run place q name uid target half elsewhere why c next other = record {
  finds = λ lane calls. c.finds around _;
  found = λ lane calls. c.found around run _ (adding_part elsewhere);
  part_is = next;
  ends = record { 0 = λ h. absurd (h refl); 1 = λ h. absurd (some_part GivesBack (sym (c.refused_adding elsewhere why other) ∙ h)) };
  replied = λ given e. absurd (no_reply given e);
}

-- The store is stopped, or stops. In one that was stopped before, the name of the source may name another mailbox.
add_stops : (around : Around) (run : Run) (place : ℕ) (q : Request) (name : List ℕ) (uid : Uid) (target : List ℕ) (half : Half) (elsewhere : Bool) → IsCopying q name uid target half → next_part around run q (own_events place run) ≡ Some (adding_part elsewhere)
    → CanRefuse around run place q (adding_part elsewhere) refusal.Stopped (Some (reply.Refused refusal.Stopped)) no_numbers
add_stops around run place q name uid target half elsewhere c next = refuses around run place q (adding_part elsewhere) refusal.Stopped no_numbers (λ lane calls. c.finds around _) (λ lane calls. c.found around run _ (adding_part elsewhere)) next (c.stopped_adding elsewhere)

-- the request gives the count back behind such an event
gives_back_then : (run : Run) (event : RunEvent) (place : ℕ) (said now : List Reply) (held : MapUid) (source : ℕ) (why : Refusal) (elsewhere : Bool) → IsHolding held source run place said → event.request ≡ place → event.part ≡ adding_part elsewhere → event.refused ≡ Some why → event.map_entries ≡ [] → now ≡ answered_by why → (is_step why ≡ true) ⊎ (why ≡ refusal.NoMemory)
    → IsGivingBack held why (and_then run event) place now
gives_back_then run event place said now held source why elsewhere h own part refused bare is cause = record {
  elsewhere = elsewhere;
  last = ends_in place run event (adding_part elsewhere) own part;
  refused = refused;
  held_is = held_same place run event own bare ∙ h.held_is;
  said_is = is;
  cause = cause;
}

adding_checks : (name : List ℕ) (uid : ℕ) (target : List ℕ) (elsewhere : Bool) → copy_checks name uid target (adding_part elsewhere) ≡ place_checks name uid target []
adding_checks name uid target true = refl
adding_checks name uid target false = refl

pub place_refuses : {D : Type 0} → (run : Run) (q : Request) (name : List ℕ) (uid : Uid) (target : List ℕ) (half : Half) (elsewhere : Bool) (store : StoreValue D) (lists : Lists) (why : Option Refusal) → IsCopying q name uid target half → ShowLists store.map.boxes (indexes_of store.boxes) lists → copy_refusal name uid.0 target store ≡ why
    → (event : RunEvent) → first_refusal run lists (part_checks run event q (adding_part elsewhere)) ≡ option_or why None
place_refuses run q name uid target half elsewhere store lists why c h e = λ event.
    ap (first_refusal run lists) (c.checks run event (adding_part elsewhere) ∙ adding_checks name uid.0 target elsewhere) ∙ (place_checked run name uid.0 target store lists [] h ∙ ap (λ (r : Option Refusal). option_or r None) e)

pub add_refused : {D : Type 0} → (q : Request) (name : List ℕ) (uid : Uid) (target : List ℕ) (half : Half) (held : MapUid) (source : ℕ) (store : StoreValue D) (history : Option History) (faults : Faults) (why : Refusal) → IsCopying q name uid target half → store.stopped ≡ false → copy_refusal name uid.0 target store ≡ Some why
    → CopyingClause q (IsHolding held source) (IsGivingBack held why) store store history history faults faults (did.Step half) None
add_refused q name uid target half held source store history faults why c runs refuses = λ around behind pins run lane place said lists come shows stood.
    let elsewhere = is_elsewhere run place name in
    let step = copy_steps name uid.0 target store why refuses in
    let none = stood.calm.unanswered in
    let event : RunEvent = refusal_event lane place (adding_part elsewhere) why None no_numbers (told_calls history) in
    stands_by around behind run lane place said q lists (seen_of pins store history faults) (seen_of pins store history faults) (did.Step half) None event (Some (reply.Refused why)) (IsGivingBack held why)
    (did_check around behind run lane place said q (adding_part elsewhere) lists (seen_of pins store history faults) (seen_of pins store history faults) why None half (add_goes_on around run place q name uid target half elsewhere why c (holding_next around run q name uid target half held source place said c stood) (step_calm why refusal.Stopped step refl)) (stays_left _ _ _ _ _ _ _ _ _ come (stays_itself (seen_of pins store history faults)) shows) runs runs (nothing lists (seen_of pins store history faults)) refl step (c.half_adding elsewhere) (ap (λ (s : List Reply). slice_get (halves_of q) (length s)) none ∙ (c.halves ∙ ap Some (sym (c.half_adding elsewhere)))) (place_refuses run q name uid target half elsewhere store lists (Some why) c shows.1 refuses) (λ given e. absurd (no_reply given e)))
    (λ goes_on. gives_back_then run event place said (said ++ reply.Refused why ∷ []) held source why elsewhere stood refl refl refl refl (ap (λ (s : List Reply). s ++ reply.Refused why ∷ []) none ∙ sym (ap (λ (b : Bool). if b then reply.Refused why ∷ [] else []) step)) (inl step))

pub add_unremembered : {D : Type 0} → (q : Request) (name : List ℕ) (uid : Uid) (target : List ℕ) (half : Half) (held : MapUid) (source : ℕ) (store : StoreValue D) (history : Option History) (faults : Faults) → IsCopying q name uid target half → store.stopped ≡ false → number_named store.map name ≡ Some source
    → CopyingClause q (IsHolding held source) (IsGivingBack held refusal.NoMemory) store store history history faults faults did.Quiet None
add_unremembered q name uid target half held source store history faults c runs named = λ around behind pins run lane place said lists come shows stood.
    let seen = seen_of pins store history faults in
    let event : RunEvent = refusal_event lane place Last refusal.NoMemory None no_numbers (told_calls history) in
    stands_by around behind run lane place said q lists seen seen did.Quiet None event None (IsGivingBack held refusal.NoMemory)
    (did_forget around behind run lane place said q Last lists seen seen None no_numbers (add_goes_on around run place q name uid target half false refusal.NoMemory c (adds_next around run q name uid target half held source place said c stood (named_in pins run name source store history faults come named)) memory_runs) (stays_left _ _ _ _ _ _ _ _ _ come (stays_itself seen) shows) runs runs (nothing lists seen) refl c.memory_last
    (λ event. inl refl) (λ given e. absurd (no_reply given e)))
    (λ goes_on. gives_back_then run event place said said held source refusal.NoMemory false stood refl refl refl refl stood.calm.unanswered (inr refl))

pub add_stopped : {D : Type 0} → (q : Request) (name : List ℕ) (uid : Uid) (target : List ℕ) (half : Half) (held : MapUid) (source : ℕ) (Stands : Run → ℕ → List Reply → Type 0) (store : StoreValue D) (history : Option History) (faults : Faults) → IsCopying q name uid target half → store.stopped ≡ true
    → CopyingClause q (IsHolding held source) Stands store store history history faults faults did.Quiet (Some (reply.Refused refusal.Stopped))
add_stopped q name uid target half held source Stands store history faults c stopped = λ around behind pins run lane place said lists come shows stood. (
  (did_stop around behind run lane place said q (adding_part (is_elsewhere run place name)) lists (seen_of pins store history faults)
      (add_stops around run place q name uid target half (is_elsewhere run place name) c (holding_next around run q name uid target half held source place said c stood)) come shows stopped).so,
  λ e. absurd (never_more _ e),
)

-- ---- it is added

abbrev pub adding : ℕ → ℕ → Mailbox → ListedMessage → ℕ → Option Reply → ℕ → RunEvent
adding lane place mailbox message held ended calls = record (event_of lane place Last calls) {
  reply = ended;
  box_entries = adds_to mailbox (box_entry.A (record { 0 = mailbox.next_uid }) message.flags message.time (length message.octets) (record { 0 = held }) (record { 0 = message.guid }) message.words);
}

pub added_due : {D : Type 0} → (held : MapUid) (given : Uid) (row : LogRow) (m : BoxMeaning) (old new : StoreValue D) (uid : ℕ) → held.0 ≡ row.map_uid → one_due held.0 uid ≤ due_at uid old → due_at uid new ≡ due_by_box m (added_copy given row) (λ other. due_at other old) uid
    → due_at uid new + one_due held.0 uid ≡ due_at uid old
added_due held given row m old new uid holds some due =
    subst (λ (u : ℕ). due_at uid new + one_due u uid ≡ due_at uid old) (sym holds) (lowered_due (record { 0 = row.map_uid }) old new uid (subst (λ (u : ℕ). one_due u uid ≤ due_at uid old) holds some) due)

pub ended_due : (old new held uid : ℕ) → new + one_due held uid ≡ old → new + ((0 + one_due held uid) + 0) ≡ old + 0
ended_due old new held uid e = omega (arith, e)

copied_runs : (given : Uid) → Some (reply.Copied given) ≡ Some (reply.Refused refusal.Stopped) → ⊥
copied_runs given e = let k : reply.Copied given ≡ reply.Refused refusal.Stopped = cc e in cc k

pub is_copied : {D : Type 0} → (store : StoreValue D) (name : List ℕ) (uid : Uid) (target : List ℕ) (row : LogRow) (number : ℕ) (given : Uid) (lists : Lists) → (k : CopyKnown store name uid target row number given lists) → IsCopied lists name uid.0 target given.0 (add_message target k.shown.message lists)
is_copied store name uid target row number given lists k = record { message = k.shown.message; mailbox = k.mailbox; source_is = k.shown.there; target_is = k.named; given_is = k.given_is; new_is = refl }

pub copy_added : {D : Type 0} → (name : List ℕ) (uid : Uid) (target : List ℕ) (held : MapUid) (source : BoxNo) (given : Uid) (Stands : Run → ℕ → List Reply → Type 0) (old new : StoreValue D) (before after : Option History) (began faulted : Faults) → IsStore before old → old.stopped ≡ false → ((other : ℕ) → one_due held.0 other ≤ due_at other old)
    → AddsRow name uid target held source given old new before after began faulted → CopyingClause (request.Copy name uid target) (IsHolding held source.0) Stands old new before after began faulted (did.Step half_is.Whole) (Some (reply.Copied given))
copy_added name uid target held source given Stands old new before after began faulted is ran due r = λ around behind pins run lane place said lists come shows stood.
    let q = request.Copy name uid target in
    let c = copy_copies name uid target in
    let k = copy_known old name uid target r.row r.number given lists r.at shows.0 shows.1 in
    let ended = Some (reply.Copied given) in
    let event : RunEvent = adding lane place k.mailbox k.shown.message held.0 ended (told_calls after) in
    let a = r.took.appends in
    let seen = seen_of pins old before began in
    let later = seen_of pins new after faulted in
    let allowed = place_refuses run q name uid target half_is.Whole false old lists None c shows.1 (place_free name uid.0 target old r.row r.number given.0 r.at) event in
    let copied = is_copied old name uid target r.row r.number given lists k in (
      (did_own around behind run lane place said q lists (add_message target k.shown.message lists) seen later (did.Step half_is.Whole) ended ended event
          (record {
            own = own_event event refl;
            finds = tt;
            found = tt;
            part_is = adds_next around run q name uid target half_is.Whole held source.0 place said c stood (named_in pins run name source.0 old before began come (r.at.from.box.number_is ∙ ap Some r.source_is));
            allowed = allowed;
            fits = All-nil _;
            did = (k.shown.message, k.shown.there, (k.mailbox, held.0, k.named, stood.held_is, refl));
            ends = record { 0 = λ e. refl; 1 = λ e f. some_reply (reply.Copied given) f };
            replied = last_before (own_events place run) event refl ∙ stood.calm.unrefused;
          }) (record { made = refl; pins = refl; unpins = refl; doomed = refl; removed = refl; given = refl; placed = refl; gone = refl }) come (comes_along run event seen later come a.map a.drawn a.grows refl refl refl)
          (λ other. ended_due (due_at other old) (due_at other new) held.0 other (added_due held given r.row r.at.m old new other r.holds (due other) (r.took.due r.at.m other r.at.to.numbered)))
          (box_tells pins r.number (added_copy given r.row) old new before after began faulted (λ runs. ran) a) (
            answers_well run lists q event (reply.Copied given) (add_message target k.shown.message lists) shows.0 tt (allowed, copied),
            shown_on seen later _ (add_message target k.shown.message lists) a.map r.took.taken k.shows,
          ) a.grows (a.stays old.map) refl ((allowed, copied), refl) (
            refl,
            refl,
            r.took.runs,
            record {
              stops = λ s. subst (λ (ls : Lists). Leaves lists ls before after) k.by (a.moments lists k.shown.message.octets (brings_copy before old name uid target r.row r.number given lists is ran r.at k s.0) s.0);
              settled = λ s. subst (λ (ls : Lists). IsSettledFor ls after) k.by (r.took.settled lists k.shown.message.octets (brings_copy before old name uid target r.row r.number given lists is ran r.at k s.0) s.0);
            },
          )
          (ends_well q said event ended ended (did.Step half_is.Whole) seen later refl ran r.took.runs r.took.unfailed (λ x. x) (copied_runs given) (λ some. ap (λ (s : List Reply). slice_get (halves_of q) (length s)) stood.calm.unanswered)
          (first_reply q said ended (reply.Copied given) stood.calm.unanswered refl))).so,
      λ e. absurd (never_more _ e),
    )

-- ---- it fell

pub add_fell : {D : Type 0} → (q : Request) (name : List ℕ) (uid : Uid) (target : List ℕ) (half : Half) (held : MapUid) (source : BoxNo) (Stands : Run → ℕ → List Reply → Type 0) (old new : StoreValue D) (before after : Option History) (began faulted : Faults) → IsCopying q name uid target half → IsStore before old → old.stopped ≡ false
    → FellAdding name uid target held source old new before after began faulted → CopyingClause q (IsHolding held source.0) Stands old new before after began faulted (did.Broken half) (Some (reply.Refused refusal.Stopped))
add_fell q name uid target half held source Stands old new before after began faulted c is ran r = λ around behind pins run lane place said lists come shows stood.
    let k = copy_known old name uid target r.row r.number r.given lists r.at shows.0 shows.1 in
    let would : RunEvent = adding lane place k.mailbox k.shown.message held.0 None (told_calls after) in
    let seen = seen_of pins old before began in
    let later = seen_of pins new after faulted in
    let allowed = place_refuses run q name uid target half false old lists None c shows.1 (place_free name uid.0 target old r.row r.number r.given.0 r.at) would in (
      (did_fall around behind run lane place said q Last lists seen later (did.Broken half) no_numbers (add_stops around run place q name uid target half false c (adds_next around run q name uid target half held source.0 place said c stood (named_in pins run name source.0 old before began come (r.at.from.box.number_is ∙ ap Some r.source_is))))
          (stays_left _ _ _ _ _ _ _ _ _ come (box_fell_stays pins r.number (added_copy r.given r.row) old new before after began faulted r.fell) (shows.0, shown_on seen later (indexes_of old.boxes) lists r.fell.appends.map r.fell.indexes shows.1)) ran r.fell.stopped r.fell.rose (λ event. inl refl) tt (
            record { refused = refl; unanswered = refl; ran = ran; stopped = r.fell.stopped },
            c.half_adding false,
            (
              record {
                would = would;
                lane_is = refl;
                request_is = refl;
                part_is = refl;
                did = λ found e. c.did_last found run lists would (k.shown.message, k.shown.there, (k.mailbox, held.0, k.named, stood.held_is, refl));
                answer = reply.Copied r.given;
                left = add_message target k.shown.message lists;
                made = (c.answers run lists would r.given (add_message target k.shown.message lists) allowed (is_copied old name uid target r.row r.number r.given lists k), refl);
              },
              λ s. subst (λ (ls : Lists). Leaves lists ls before after) k.by (r.fell.appends.moments lists k.shown.message.octets (brings_copy before old name uid target r.row r.number r.given lists is ran r.at k s.0) s.0),
            ),
          )).so,
      λ e. absurd (never_more _ e),
    )

-- ---- it is given back

abbrev pub giving_back : ℕ → ℕ → ℕ → Refusal → ℕ → RunEvent
giving_back lane place uid why calls = record (event_of lane place GivesBack calls) { reply = Some (reply.Refused why); map_entries = lowers uid }

given_for : (why : Refusal) → (is_step why ≡ true) ⊎ (why ≡ refusal.NoMemory) → why ≡ refusal.Stopped → ⊥
given_for why cause e = grind (arith, common_steps, nat_tests)

given_reply : (q : Request) (name : List ℕ) (uid : Uid) (target : List ℕ) (half : Half) (said : List Reply) (why : Refusal) → IsCopying q name uid target half → said ≡ answered_by why → (is_step why ≡ true) ⊎ (why ≡ refusal.NoMemory) → IsReplyOf q said (reply.Refused why)
given_reply q name uid target half said why c is (inl s) = subst (λ (l : List Reply). IsReplyOf q l (reply.Refused why)) (sym (is ∙ ap (λ (b : Bool). if b then reply.Refused why ∷ [] else []) s)) (c.replied why s)
given_reply q name uid target half said why c is (inr m) =
    subst (λ (w : Refusal). IsReplyOf q said (reply.Refused w)) (sym m) (is ∙ ap answered_by m)

back_stops : (around : Around) (run : Run) (place : ℕ) (said : List Reply) (q : Request) (name : List ℕ) (uid : Uid) (target : List ℕ) (half : Half) (held : MapUid) (why : Refusal) → IsCopying q name uid target half → IsGivingBack held why run place said
    → CanRefuse around run place q GivesBack refusal.Stopped (Some (reply.Refused refusal.Stopped)) no_numbers
back_stops around run place said q name uid target half held why c b =
    refuses around run place q GivesBack refusal.Stopped no_numbers (λ lane calls. c.finds around _) (λ lane calls. c.found around run _ GivesBack) (gives_back_next around run q name uid target half held why place said c (given_for why b.cause) b) (c.refused_back refusal.Stopped)

pub back_stopped : {D : Type 0} → (q : Request) (name : List ℕ) (uid : Uid) (target : List ℕ) (half : Half) (held : MapUid) (why : Refusal) (Stands : Run → ℕ → List Reply → Type 0) (store : StoreValue D) (history : Option History) (faults : Faults) → IsCopying q name uid target half → store.stopped ≡ true
    → CopyingClause q (IsGivingBack held why) Stands store store history history faults faults did.Quiet (Some (reply.Refused refusal.Stopped))
back_stopped q name uid target half held why Stands store history faults c stopped = λ around behind pins run lane place said lists come shows stood. (
  (did_stop around behind run lane place said q GivesBack lists (seen_of pins store history faults) (back_stops around run place said q name uid target half held why c stood) come shows stopped).so,
  λ e. absurd (never_more _ e),
)

pub back_fell : {D : Type 0} → (q : Request) (name : List ℕ) (uid : Uid) (target : List ℕ) (half : Half) (held : MapUid) (why : Refusal) (Stands : Run → ℕ → List Reply → Type 0) (old new : StoreValue D) (before after : Option History) (began faulted : Faults) → IsCopying q name uid target half → old.stopped ≡ false → MapFell old new before after began faulted
    → CopyingClause q (IsGivingBack held why) Stands old new before after began faulted did.Failed (Some (reply.Refused refusal.Stopped))
back_fell q name uid target half held why Stands old new before after began faulted c ran f = λ around behind pins run lane place said lists come shows stood.
    let seen = seen_of pins old before began in
    let later = seen_of pins new after faulted in (
      (did_fall around behind run lane place said q GivesBack lists seen later did.Failed no_numbers (back_stops around run place said q name uid target half held why c stood)
          (stays_left _ _ _ _ _ _ _ _ _ come (map_fell_stays pins old new before after began faulted f) (shows_still pins old new before after began faulted lists f.appends shows)) ran f.stopped f.rose (λ event. inl refl) tt (record { refused = refl; unanswered = refl; ran = ran; stopped = f.stopped }, λ s. f.appends.moments lists s.0)).so,
      λ e. absurd (never_more _ e),
    )

pub lowered_ends : (old new held uid : ℕ) → new + one_due held uid ≡ old → new + (0 + (0 + (0 + one_due held uid))) ≡ old + 0
lowered_ends old new held uid e = omega (arith, e)

pub given_back : {D : Type 0} → (q : Request) (name : List ℕ) (uid : Uid) (target : List ℕ) (half : Half) (held : MapUid) (why : Refusal) (Stands : Run → ℕ → List Reply → Type 0) (old new : StoreValue D) (before after : Option History) (began faulted : Faults) → IsCopying q name uid target half → old.stopped ≡ false
    → ((other : ℕ) → one_due held.0 other ≤ due_at other old) → MapTook (lowering_of held) old new before after began faulted → CopyingClause q (IsGivingBack held why) Stands old new before after began faulted did.Quiet (Some (reply.Refused why))
given_back q name uid target half held why Stands old new before after began faulted c ran due t = λ around behind pins run lane place said lists come shows stood.
    let event : RunEvent = giving_back lane place held.0 why (told_calls after) in
    let a = t.appends in
    let seen = seen_of pins old before began in
    let later = seen_of pins new after faulted in
    let other = given_for why stood.cause in
    let refused = last_before (own_events place run) event refl ∙ (ap last_refusal stood.last.own_is ∙ last_with stood.last.earlier stood.last.last why stood.refused) in (
      (did_own around behind run lane place said q lists lists seen later did.Quiet (Some (reply.Refused why)) None event
          (record {
            own = own_event event refl;
            finds = c.finds around event;
            found = c.found around run event GivesBack;
            part_is = gives_back_next around run q name uid target half held why place said c other stood;
            allowed = ap (first_refusal run lists) (c.checks run event GivesBack);
            fits = one_fits run seen (lowering_of held) come t.fits;
            did = c.did_back around run lists event (held.0, stood.held_is, refl);
            ends = record { 0 = λ e. back_ends behind (and_then run event) q name uid target half event why c refl (ap last_refusal (own_more place run event (eq-eqb place place refl)) ∙ refused); 1 = λ e f. some_reply (reply.Refused why) f };
            replied = refused;
          }) (record { made = refl; pins = refl; unpins = refl; doomed = refl; removed = refl; given = refl; placed = refl; gone = refl }) come (comes_with run event (lowering_of held) seen later come t.taken a.drawn a.grows refl refl refl)
          (λ u. lowered_ends (due_at u old) (due_at u new) held.0 u (lowered_due held old new u (due u) (t.due u)))
          (took_tells pins (lowering_of held) old new before after began faulted ran t) (shows_still pins old new before after began faulted lists a shows) a.grows (a.stays old.map) (sym c.steps_back) refl (refl, t.runs ∙ sym ran, leads_still pins (lowering_of held) old new before after began faulted lists t)
          (ends_well q said event None (Some (reply.Refused why)) did.Quiet seen later refl ran t.runs t.unfailed (λ x. x) (λ e. other (let k : reply.Refused why ≡ reply.Refused refusal.Stopped = cc e in cc k)) (λ some. absurd (let k : false ≡ true = some in cc k))
          (replied_so q said (reply.Refused why) (given_reply q name uid target half said why c stood.said_is stood.cause)))).so,
      λ e. absurd (never_more _ e),
    )

-- ---- the name of its source names another mailbox: it gives the count back, and begins again

abbrev pub starting_over : ℕ → ℕ → ℕ → RunEvent
starting_over lane place calls = event_of lane place StartsOver calls

pub add_elsewhere : {D : Type 0} → (q : Request) (name : List ℕ) (uid : Uid) (target : List ℕ) (half : Half) (held : MapUid) (source : ℕ) (store : StoreValue D) (history : Option History) (faults : Faults) → IsCopying q name uid target half → store.stopped ≡ false → IsNamedElsewhere name uid.0 target source store
    → CopyingClause q (IsHolding held source) (IsBeginningAgain held) store store history history faults faults did.Quiet None
add_elsewhere q name uid target half held source store history faults c runs n = λ around behind pins run lane place said lists come shows stood.
    let seen = seen_of pins store history faults in
    let event : RunEvent = starting_over lane place (told_calls history) in
    let elsewhere = elsewhere_is run place name source n.other (named_in pins run name n.other store history faults come n.named) n.differs stood.source_is in
    stands_by around behind run lane place said q lists seen seen did.Quiet None event None (IsBeginningAgain held)
    (did_own around behind run lane place said q lists lists seen seen did.Quiet None None event
    (record {
      own = own_event event refl;
      finds = c.finds around event;
      found = c.found around run event StartsOver;
      part_is = holding_next around run q name uid target half held source place said c stood ∙ ap (λ (b : Bool). Some (adding_part b)) elsewhere;
      allowed = place_refuses run q name uid target half true store lists None c shows.1 n.free event;
      fits = All-nil _;
      did = c.did_over around run lists event refl;
      ends = record { 0 = λ h. absurd (h refl); 1 = λ h. absurd (some_part GivesBack (sym (c.behind_over behind (and_then run event) event refl) ∙ h)) };
      replied = tt;
    }) (record { made = refl; pins = refl; unpins = refl; doomed = refl; removed = refl; given = refl; placed = refl; gone = refl }) come (comes_along run event seen seen come refl refl (omega arith) refl refl refl) (λ other. refl) (tells_itself seen) shows (omega arith) (mail_still seen.map seen.history) (sym c.steps_over) refl
    (refl, refl, nothing lists seen)
    (ends_well q said event None None did.Quiet seen seen refl runs runs refl (λ x. x) (λ e. no_reply (reply.Refused refusal.Stopped) e) (λ some. absurd (let f : false ≡ true = some in cc f)) (λ given e. absurd (no_reply given e))))
    (λ goes_on. record {
      calm = unrefused_more run event place said refl refl stood.calm;
      last = ends_in place run event StartsOver refl refl;
      held_is = held_same place run event refl refl ∙ stood.held_is;
      uncopied = copied_new place run event refl stood.uncopied;
    })

again_stops : (around : Around) (run : Run) (place : ℕ) (said : List Reply) (q : Request) (name : List ℕ) (uid : Uid) (target : List ℕ) (half : Half) (held : MapUid) → IsCopying q name uid target half → IsBeginningAgain held run place said → CanRefuse around run place q GivesBack refusal.Stopped (Some (reply.Refused refusal.Stopped)) no_numbers
again_stops around run place said q name uid target half held c b =
    refuses around run place q GivesBack refusal.Stopped no_numbers (λ lane calls. c.finds around _) (λ lane calls. c.found around run _ GivesBack) (begins_next around run q name uid target half held place said c b) (c.refused_back refusal.Stopped)

pub again_stopped : {D : Type 0} → (q : Request) (name : List ℕ) (uid : Uid) (target : List ℕ) (half : Half) (held : MapUid) (Stands : Run → ℕ → List Reply → Type 0) (store : StoreValue D) (history : Option History) (faults : Faults) → IsCopying q name uid target half → store.stopped ≡ true
    → CopyingClause q (IsBeginningAgain held) Stands store store history history faults faults did.Quiet (Some (reply.Refused refusal.Stopped))
again_stopped q name uid target half held Stands store history faults c stopped = λ around behind pins run lane place said lists come shows stood. (
  (did_stop around behind run lane place said q GivesBack lists (seen_of pins store history faults) (again_stops around run place said q name uid target half held c stood) come shows stopped).so,
  λ e. absurd (never_more _ e),
)

pub again_fell : {D : Type 0} → (q : Request) (name : List ℕ) (uid : Uid) (target : List ℕ) (half : Half) (held : MapUid) (Stands : Run → ℕ → List Reply → Type 0) (old new : StoreValue D) (before after : Option History) (began faulted : Faults) → IsCopying q name uid target half → old.stopped ≡ false → MapFell old new before after began faulted
    → CopyingClause q (IsBeginningAgain held) Stands old new before after began faulted did.Failed (Some (reply.Refused refusal.Stopped))
again_fell q name uid target half held Stands old new before after began faulted c ran f = λ around behind pins run lane place said lists come shows stood.
    let seen = seen_of pins old before began in
    let later = seen_of pins new after faulted in (
      (did_fall around behind run lane place said q GivesBack lists seen later did.Failed no_numbers (again_stops around run place said q name uid target half held c stood)
          (stays_left _ _ _ _ _ _ _ _ _ come (map_fell_stays pins old new before after began faulted f) (shows_still pins old new before after began faulted lists f.appends shows)) ran f.stopped f.rose (λ event. inl refl) tt (record { refused = refl; unanswered = refl; ran = ran; stopped = f.stopped }, λ s. f.appends.moments lists s.0)).so,
      λ e. absurd (never_more _ e),
    )

abbrev pub giving_again : ℕ → ℕ → ℕ → ℕ → RunEvent
giving_again lane place uid calls = record (event_of lane place GivesBack calls) { map_entries = lowers uid }

-- the request is to raise a count behind such an event
raises_then : (run : Run) (event : RunEvent) (place : ℕ) (said : List Reply) (held : MapUid) → IsBeginningAgain held run place said → event.request ≡ place → event.part ≡ GivesBack → event.refused ≡ None → event.box_entries ≡ [] → IsToRaise (and_then run event) place said
raises_then run event place said held stood own part unrefused unlisted = record {
  calm = unrefused_more run event place said own unrefused stood.calm;
  last = inr (ends_in place run event GivesBack own part);
  uncopied = copied_new place run event own stood.uncopied ∙ ap uid_added unlisted;
}

pub begun_again : {D : Type 0} → (q : Request) (name : List ℕ) (uid : Uid) (target : List ℕ) (half : Half) (held : MapUid) (old new : StoreValue D) (before after : Option History) (began faulted : Faults) → IsCopying q name uid target half → old.stopped ≡ false
    → ((other : ℕ) → one_due held.0 other ≤ due_at other old) → MapTook (lowering_of held) old new before after began faulted → CopyingClause q (IsBeginningAgain held) IsToRaise old new before after began faulted did.Quiet None
begun_again q name uid target half held old new before after began faulted c ran due t = λ around behind pins run lane place said lists come shows stood.
    let event : RunEvent = giving_again lane place held.0 (told_calls after) in
    let a = t.appends in
    let seen = seen_of pins old before began in
    let later = seen_of pins new after faulted in
    let raises = raises_then run event place said held stood refl refl refl refl in
    stands_by around behind run lane place said q lists seen later did.Quiet None event None IsToRaise
    (did_own around behind run lane place said q lists lists seen later did.Quiet None None event
    (record {
      own = own_event event refl;
      finds = c.finds around event;
      found = c.found around run event GivesBack;
      part_is = begins_next around run q name uid target half held place said c stood;
      allowed = ap (first_refusal run lists) (c.checks run event GivesBack);
      fits = one_fits run seen (lowering_of held) come t.fits;
      did = c.did_back around run lists event (held.0, stood.held_is, refl);
      ends = record { 0 = λ h. absurd (h refl); 1 = λ h. absurd (back_goes_on behind (and_then run event) q name uid target half event c refl raises.uncopied raises.calm.unrefused h) };
      replied = tt;
    }) (record { made = refl; pins = refl; unpins = refl; doomed = refl; removed = refl; given = refl; placed = refl; gone = refl }) come (comes_with run event (lowering_of held) seen later come t.taken a.drawn a.grows refl refl refl)
    (λ u. lowered_ends (due_at u old) (due_at u new) held.0 u (lowered_due held old new u (due u) (t.due u)))
    (took_tells pins (lowering_of held) old new before after began faulted ran t) (shows_still pins old new before after began faulted lists a shows) a.grows (a.stays old.map) (sym c.steps_back) refl (refl, t.runs ∙ sym ran, leads_still pins (lowering_of held) old new before after began faulted lists t)
    (ends_well q said event None None did.Quiet seen later refl ran t.runs t.unfailed (λ x. x) (λ e. no_reply (reply.Refused refusal.Stopped) e) (λ some. absurd (let f : false ≡ true = some in cc f)) (λ given e. absurd (no_reply given e))))
    (λ goes_on. raises)

-- ---- as other requests go on

pub to_raise_kept : IsKept IsToRaise
to_raise_kept run place said event e new stood =
    let same = own_other place run event (ne_eqb event.request place e) in record {
      calm = unrefused_still run event place said same stood.calm;
      last = by_last same stood.last;
      uncopied = copied_by place run (and_then run event) same ∙ stood.uncopied;
    }
  where
    by_last : own_events place (and_then run event) ≡ own_events place run → (own_events place run ≡ []) ⊎ EndsInPart GivesBack (own_events place run) → (own_events place (and_then run event) ≡ []) ⊎ EndsInPart GivesBack (own_events place (and_then run event))
    by_last same (inl none) = inl (same ∙ none)
    by_last same (inr last) = inr (ends_still (own_events place run) (own_events place (and_then run event)) GivesBack same last)

pub holding_kept : (held : MapUid) (source : ℕ) → IsKept (IsHolding held source)
holding_kept held source run place said event e new stood =
    let same = own_other place run event (ne_eqb event.request place e) in record {
      calm = unrefused_still run event place said same stood.calm;
      last = ends_still (own_events place run) (own_events place (and_then run event)) First same stood.last;
      held_is = held_by place run (and_then run event) same ∙ stood.held_is;
      source_is = source_by place run (and_then run event) same ∙ stood.source_is;
      uncopied = copied_by place run (and_then run event) same ∙ stood.uncopied;
    }

pub giving_back_kept : (held : MapUid) (why : Refusal) → IsKept (IsGivingBack held why)
giving_back_kept held why run place said event e new stood =
    let same = own_other place run event (ne_eqb event.request place e) in record {
      elsewhere = stood.elsewhere;
      last = ends_still (own_events place run) (own_events place (and_then run event)) (adding_part stood.elsewhere) same stood.last;
      refused = stood.refused;
      held_is = held_by place run (and_then run event) same ∙ stood.held_is;
      said_is = stood.said_is;
      cause = stood.cause;
    }

pub beginning_again_kept : (held : MapUid) → IsKept (IsBeginningAgain held)
beginning_again_kept held run place said event e new stood =
    let same = own_other place run event (ne_eqb event.request place e) in record {
      calm = unrefused_still run event place said same stood.calm;
      last = ends_still (own_events place run) (own_events place (and_then run event)) StartsOver same stood.last;
      held_is = held_by place run (and_then run event) same ∙ stood.held_is;
      uncopied = copied_by place run (and_then run event) same ∙ stood.uncopied;
    }
