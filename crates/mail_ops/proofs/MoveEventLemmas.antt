-- The events of a move that a copy doesn't have, by the clause of a step.
use Rattle.mail_ops.proofs.Common.{All-nil, ◌≡◌, ◌≤◌, ◌+◌, ℕ, Bool, true, false, List, [], ◌∷◌, ◌++◌, Option, Some, None, refl, sym, ◌∙◌, ap, subst, arith, inl, length, slice_get, ne_eqb, History, Faults, told_calls, BoxNo, MapUid, Uid, ListRow, Refusal, Reply, ListedMessage, Lists, AreWellFormed, lists_by}
use Rattle.mail_ops.proofs.Common.{meanings_by, LogRow, MapMeaning, record_of, no_numbers, ShowLists, IsSettledFor, Leaves, Last, GivesBack, RunEvent, event_of, Run, and_then, map_of, own_events, source_of, answers_well, halves_of, Around, is_elsewhere, last_refusal, own_other, due_at, IsStore}
use Rattle.mail_ops.proofs.Common.{StoreValue, indexes_of, one_due, number_named, HasComeTo, IsKept, tells_itself, MapTook, MapFell, lowering_of, IsHolding, added_copy, AddsRow, seen_of, CanRefuse, did_fall, did_own, did_stop, ends_well, no_reply}
use Rattle.mail_ops.proofs.Common.{own_event, refuses, replied_so, some_reply, stands_by, stays_left, comes_along, never_more, mail_still, nothing}
use Rattle.std.specs.Prelude.{is_none}
use Rattle.mdbox_base.specs.declared.entries.BoxEntry.TheVariants as box_entry
use Rattle.mdbox_base.specs.declared.progress.Did.TheVariants as did
use Rattle.mdbox_base.specs.declared.replies.Refusal.TheVariants as refusal
use Rattle.mdbox_base.specs.declared.replies.Reply.TheVariants as reply
use Rattle.mdbox_base.specs.declared.requests.Request.TheVariants as request
use Rattle.mdbox_base.specs.declared.script.Half.TheVariants as half
use Rattle.list_machine.specs.Run.{SecondHalf}
use Rattle.list_machine.specs.Machine.{add_message, expunge_from, message_numbered}
use Rattle.journal.specs.Events.{RemovesIfThere, lowers}
use Rattle.entry_steps.proofs.AppendListLemmas.{removed_from}
use Rattle.mail_ops.specs.Messages.{IsRowIn, row_numbered}
use Rattle.mail_ops.specs.MoveStages.{HasCopied, HasMoved}
use Rattle.mail_ops.specs.Moving.{FellFrom, RemovesFrom}
use Rattle.mail_ops.proofs.CopyFirstLemmas.{CopyingClause, place_free}
use Rattle.mail_ops.proofs.CopyLastLemmas.{copy_known, adding, added_due, ended_due, is_copied, brings_copy, named_in, place_refuses, lowered_ends}
use Rattle.mail_ops.proofs.CopyPartLemmas.{adds_next}
use Rattle.mail_ops.proofs.FlagEventLemmas.{shown_on}
use Rattle.mail_ops.proofs.LastEventLemmas.{copied_by, copied_new, copied_still, ends_in, ends_still, held_by, held_same, last_before, source_by, source_same, unrefused_then}
use Rattle.mail_ops.proofs.LoweringLemmas.{comes_with, lowered_due, shows_still, leads_still, one_fits}
use Rattle.mail_ops.proofs.MessageLemmas.{RecordOfRow, none_in, record_in, shown_in}
use Rattle.mail_ops.proofs.MovePartLemmas.{copied_ends, move_copies, removes_next, lowers_next}
use Rattle.mail_ops.proofs.RemovalLemmas.{took_tells, brings_removal, box_tells, removal_due, box_fell_stays, map_fell_stays}
use Rattle.mail_ops.proofs.ShownEntryLemmas.{shown_entry}
use Rattle.mail_ops.proofs.ToldLemmas.{some_part}

moved_runs : (copied : Uid) (gone : Bool) → Some (reply.Moved copied gone) ≡ Some (reply.Refused refusal.Stopped) → ⊥
moved_runs copied gone e = let k : reply.Moved copied gone ≡ reply.Refused refusal.Stopped = cc e in cc k

-- ---- the message is added, and the request goes on

pub move_added : {D : Type 0} → (name : List ℕ) (uid : Uid) (target : List ℕ) (held : MapUid) (copied : Uid) (source : BoxNo) (old new : StoreValue D) (before after : Option History) (began faulted : Faults) → IsStore before old → old.stopped ≡ false → ((other : ℕ) → one_due held.0 other ≤ due_at other old)
    → AddsRow name uid target held source copied old new before after began faulted → CopyingClause (request.Move name uid target) (IsHolding held source.0) (HasCopied held copied source.0) old new before after began faulted (did.Step half.CopyHalf) None
move_added name uid target held copied source old new before after began faulted is ran due r = λ around behind pins run lane place said lists come shows stood.
    let q = request.Move name uid target in
    let c = move_copies name uid target in
    let k = copy_known old name uid target r.row r.number copied lists r.at shows.0 shows.1 in
    let event : RunEvent = adding lane place k.mailbox k.shown.message held.0 None (told_calls after) in
    let a = r.took.appends in
    let named : number_named old.map name ≡ Some source.0 = r.at.from.box.number_is ∙ ap Some r.source_is in
    let seen = seen_of pins old before began in
    let later = seen_of pins new after faulted in
    let allowed = place_refuses run q name uid target half.CopyHalf false old lists None c shows.1 (place_free name uid.0 target old r.row r.number copied.0 r.at) event in
    let done = is_copied old name uid target r.row r.number copied lists k in
    stands_by around behind run lane place said q lists seen later (did.Step half.CopyHalf) None event (Some (reply.Copied copied)) (HasCopied held copied source.0)
    (did_own around behind run lane place said q lists (add_message target k.shown.message lists) seen later (did.Step half.CopyHalf) None (Some (reply.Copied copied)) event
    (record {
      own = own_event event refl;
      finds = tt;
      found = tt;
      part_is = adds_next around run q name uid target half.CopyHalf held source.0 place said c stood (named_in pins run name source.0 old before began come named);
      allowed = allowed;
      fits = All-nil _;
      did = (k.shown.message, k.shown.there, (k.mailbox, held.0, k.named, stood.held_is, refl));
      ends = record { 0 = λ e. absurd (e refl); 1 = λ e. absurd (some_part SecondHalf e) };
      replied = tt;
    }) (record { made = refl; pins = refl; unpins = refl; doomed = refl; removed = refl; given = refl; placed = refl; gone = refl }) come (comes_along run event seen later come a.map a.drawn a.grows refl refl refl)
    (λ other. ended_due (due_at other old) (due_at other new) held.0 other (added_due held copied r.row r.at.m old new other r.holds (due other) (r.took.due r.at.m other r.at.to.numbered)))
    (box_tells pins r.number (added_copy copied r.row) old new before after began faulted (λ runs. ran) a) (
      answers_well run lists q event (reply.Copied copied) (add_message target k.shown.message lists) shows.0 tt (allowed, done),
      shown_on seen later _ (add_message target k.shown.message lists) a.map r.took.taken k.shows,
    ) a.grows (a.stays old.map) refl ((allowed, done), refl) (
      refl,
      refl,
      r.took.runs,
      record {
        stops = λ s. subst (λ (ls : Lists). Leaves lists ls before after) k.by (a.moments lists k.shown.message.octets (brings_copy before old name uid target r.row r.number copied lists is ran r.at k s.0) s.0);
        settled = λ s. subst (λ (ls : Lists). IsSettledFor ls after) k.by (r.took.settled lists k.shown.message.octets (brings_copy before old name uid target r.row r.number copied lists is ran r.at k s.0) s.0);
      },
    )
    (ends_well q said event (Some (reply.Copied copied)) None (did.Step half.CopyHalf) seen later refl ran r.took.runs r.took.unfailed (λ x. x) (λ e. no_reply (reply.Refused refusal.Stopped) e) (λ some. ap (λ (s : List Reply). slice_get (halves_of q) (length s)) stood.calm.unanswered)
    (λ x e. absurd (no_reply x e))))
    (λ goes_on. record {
      unrefused = unrefused_then place run event refl refl stood.calm.unrefused;
      last = ends_in place run event Last refl refl;
      held_is = held_same place run event refl refl ∙ stood.held_is;
      source_is = source_same place run event refl refl ∙ stood.source_is;
      copied_is = copied_new place run event refl stood.uncopied ∙ ap Some (sym k.given_is);
      said_is = ap (λ (s : List Reply). s ++ reply.Copied copied ∷ []) stood.calm.unanswered;
    })

-- ---- the third event: its refusal, as the store is stopped

removes_stops : (around : Around) (run : Run) (place : ℕ) (said : List Reply) (name : List ℕ) (uid : Uid) (target : List ℕ) (held : MapUid) (copied : Uid) (source : ℕ) → HasCopied held copied source run place said
    → CanRefuse around run place (request.Move name uid target) SecondHalf refusal.Stopped (Some (reply.Refused refusal.Stopped)) no_numbers
removes_stops around run place said name uid target held copied source h = refuses around run place (request.Move name uid target) SecondHalf refusal.Stopped no_numbers (λ lane calls. tt) (λ lane calls. tt) (removes_next around run name uid target held copied source place said h) refl

pub removal_stopped : {D : Type 0} → (name : List ℕ) (uid : Uid) (target : List ℕ) (held : MapUid) (copied : Uid) (source : ℕ) (Stands : Run → ℕ → List Reply → Type 0) (store : StoreValue D) (history : Option History) (faults : Faults) → store.stopped ≡ true
    → CopyingClause (request.Move name uid target) (HasCopied held copied source) Stands store store history history faults faults did.Quiet (Some (reply.Refused refusal.Stopped))
removal_stopped name uid target held copied source Stands store history faults stopped = λ around behind pins run lane place said lists come shows stood. (
  (did_stop around behind run lane place said (request.Move name uid target) SecondHalf lists (seen_of pins store history faults) (removes_stops around run place said name uid target held copied source stood) come shows stopped).so,
  λ e. absurd (never_more _ e),
)

-- ---- the message has gone

abbrev pub telling_gone : ℕ → ℕ → Uid → ℕ → RunEvent
telling_gone lane place copied calls = record (event_of lane place SecondHalf calls) { reply = Some (reply.Moved copied true) }

pub move_gone : {D : Type 0} → (name : List ℕ) (uid : Uid) (target : List ℕ) (held : MapUid) (copied : Uid) (source : ℕ) (Stands : Run → ℕ → List Reply → Type 0) (store : StoreValue D) (history : Option History) (faults : Faults) → store.stopped ≡ false → row_numbered source uid.0 store ≡ None
    → CopyingClause (request.Move name uid target) (HasCopied held copied source) Stands store store history history faults faults (did.Step half.ExpungeHalf) (Some (reply.Moved copied true))
move_gone name uid target held copied source Stands store history faults runs missing = λ around behind pins run lane place said lists come shows stood.
    let q = request.Move name uid target in
    let none = ap (λ (n : ℕ). message_numbered n uid.0 lists) stood.source_is ∙ none_in store source uid.0 lists missing shows.1 in
    let event : RunEvent = telling_gone lane place copied (told_calls history) in
    let seen = seen_of pins store history faults in
    let ended = Some (reply.Moved copied true) in (
      (did_own around behind run lane place said q lists lists seen seen (did.Step half.ExpungeHalf) ended ended event
          (record {
            own = own_event event refl;
            finds = tt;
            found = tt;
            part_is = removes_next around run name uid target held copied source place said stood;
            allowed = refl;
            fits = All-nil _;
            did = subst (λ (o : Option ListedMessage). RemovesIfThere run (source_of place run) uid.0 event o) (sym none) refl;
            ends = record { 0 = λ e. refl; 1 = λ e f. some_reply (reply.Moved copied true) f };
            replied = last_before (own_events place run) event refl ∙ stood.unrefused;
          }) (record { made = refl; pins = refl; unpins = refl; doomed = refl; removed = refl; given = refl; placed = refl; gone = refl }) come (comes_along run event seen seen come refl refl (omega arith) refl refl refl) (λ other. refl) (tells_itself seen) shows (omega arith) (mail_still seen.map seen.history) refl
          ((refl, (stood.copied_is, (sym (ap is_none none), refl))), refl) (refl, refl, runs, nothing lists seen)
          (ends_well q said event ended ended (did.Step half.ExpungeHalf) seen seen refl runs runs refl (λ x. x) (moved_runs copied true) (λ some. ap (λ (s : List Reply). slice_get (halves_of q) (length s)) stood.said_is)
          (replied_so q (said ++ reply.Moved copied true ∷ []) (reply.Moved copied true) (ap (λ (s : List Reply). s ++ reply.Moved copied true ∷ []) stood.said_is)))).so,
      λ e. absurd (never_more _ e),
    )

-- ---- the message is removed

abbrev pub taking_away : ℕ → ℕ → ℕ → Uid → ℕ → ℕ → RunEvent
taking_away lane place number uid owed calls = record (event_of lane place SecondHalf calls) { box_entries = record { mailbox = number; entry = box_entry.R uid } ∷ []; owes = owed ∷ [] }

taken_due : (old new owed uid : ℕ) → new ≡ old + one_due owed uid → new + 0 ≡ old + (0 + (0 + one_due owed uid))
taken_due old new owed uid e = omega (arith, e)

-- what is known of a row that is to be removed, by the number of its mailbox
record LeavingKnown {D : Type 0} (store : StoreValue D) (uid : Uid) (number at : ℕ) (row : LogRow) (lists : Lists) (run : Run) : Type 0 where
  recorded : RecordOfRow store.map row
  message : ListedMessage
  there : message_numbered at uid.0 lists ≡ Some message
  is_record : record_of (map_of run) message.guid ≡ Some recorded.entry
  by : lists_by number [] (box_entry.R uid) lists ≡ expunge_from at uid.0 lists
  shows : ShowLists store.map.boxes (meanings_by number (box_entry.R uid) store.map.boxes (indexes_of store.boxes)) (expunge_from at uid.0 lists)

leaving_known : {D : Type 0} → (pins : ℕ → ℕ) → (history : Option History) (faults : Faults) (store : StoreValue D) (uid : Uid) (number at : ℕ) (row : LogRow) (lists : Lists) (run : Run) → IsStore history store → IsRowIn number uid.0 store row → at ≡ number → AreWellFormed lists
    → ShowLists store.map.boxes (indexes_of store.boxes) lists → HasComeTo run (seen_of pins store history faults) → LeavingKnown store uid number at row lists run
leaving_known pins history faults store uid number at row lists run is row_is same well h come =
    let s = shown_in store number uid.0 row lists row_is h in
    let r = record_in history store number uid.0 row is row_is in
    let by = removed_from lists number [] uid well ∙ ap (λ (n : ℕ). expunge_from n uid.0 lists) (sym same) in
    record {
      recorded = r;
      message = s.message;
      there = ap (λ (n : ℕ). message_numbered n uid.0 lists) same ∙ s.there;
      is_record = ap (λ (m : MapMeaning). record_of m s.message.guid) come.come.map_is ∙ r.by_guid s.message.guid (ap (λ (x : ListRow). x.guid.0) s.same);
      by = by;
      shows = subst (λ (ls : Lists). ShowLists store.map.boxes (meanings_by number (box_entry.R uid) store.map.boxes (indexes_of store.boxes)) ls) by (shown_entry number [] (box_entry.R uid) store.map.boxes (indexes_of store.boxes) lists refl h);
    }

pub move_removed : {D : Type 0} → (name : List ℕ) (uid : Uid) (target : List ℕ) (held : MapUid) (copied : Uid) (source : BoxNo) (old new : StoreValue D) (before after : Option History) (began faulted : Faults) → IsStore before old → old.stopped ≡ false → RemovesFrom source uid held old new before after began faulted
    → CopyingClause (request.Move name uid target) (HasCopied held copied source.0) (HasMoved uid held copied) old new before after began faulted (did.Step half.ExpungeHalf) None
move_removed name uid target held copied source old new before after began faulted is ran r = λ around behind pins run lane place said lists come shows stood.
    let q = request.Move name uid target in
    let at = source_of place run in
    let k = leaving_known pins before began old uid source.0 at r.row lists run is r.there stood.source_is shows.0 shows.1 come in
    let event : RunEvent = taking_away lane place at uid k.recorded.entry.uid (told_calls after) in
    let a = r.took.appends in
    let seen = seen_of pins old before began in
    let later = seen_of pins new after faulted in
    let there = sym (ap is_none k.there) in
    stands_by around behind run lane place said q lists seen later (did.Step half.ExpungeHalf) None event (Some (reply.Moved copied false)) (HasMoved uid held copied)
    (did_own around behind run lane place said q lists (expunge_from at uid.0 lists) seen later (did.Step half.ExpungeHalf) None (Some (reply.Moved copied false)) event
    (record {
      own = own_event event refl;
      finds = tt;
      found = tt;
      part_is = removes_next around run name uid target held copied source.0 place said stood;
      allowed = refl;
      fits = All-nil _;
      did = subst (λ (o : Option ListedMessage). RemovesIfThere run at uid.0 event o) (sym k.there) (k.recorded.entry, k.is_record, refl);
      ends = record { 0 = λ e. absurd (e refl); 1 = λ e. absurd (some_part GivesBack e) };
      replied = tt;
    }) (record { made = refl; pins = refl; unpins = refl; doomed = refl; removed = refl; given = refl; placed = refl; gone = refl }) come (comes_along run event seen later come a.map a.drawn a.grows refl refl refl)
    (λ other. subst (λ (u : ℕ). due_at other new + 0 ≡ due_at other old + (0 + (0 + one_due u other))) (sym k.recorded.uid_is)
    (taken_due (due_at other old) (due_at other new) r.row.map_uid other (removal_due old new r.there.m uid r.row other r.there.listed (r.took.due r.there.m other r.there.numbered))))
    (box_tells pins source.0 (box_entry.R uid) old new before after began faulted (λ runs. ran) a) (
      answers_well run lists q event (reply.Moved copied false) (expunge_from at uid.0 lists) shows.0 tt (refl, (stood.copied_is, (there, refl))),
      shown_on seen later _ (expunge_from at uid.0 lists) a.map r.took.taken k.shows,
    ) a.grows (a.stays old.map) refl ((refl, (stood.copied_is, (there, refl))), refl) (
      refl,
      refl,
      r.took.runs,
      record {
        stops = λ s. subst (λ (ls : Lists). Leaves lists ls before after) k.by (a.moments lists [] (brings_removal old.map uid [] before) s.0);
        settled = λ s. subst (λ (ls : Lists). IsSettledFor ls after) k.by (r.took.settled lists [] (brings_removal old.map uid [] before) s.0);
      },
    )
    (ends_well q said event (Some (reply.Moved copied false)) None (did.Step half.ExpungeHalf) seen later refl ran r.took.runs r.took.unfailed (λ x. x) (λ e. no_reply (reply.Refused refusal.Stopped) e)
    (λ some. ap (λ (s : List Reply). slice_get (halves_of q) (length s)) stood.said_is) (λ given e. absurd (no_reply given e))))
    (λ goes_on. record {
      unrefused = unrefused_then place run event refl refl stood.unrefused;
      last = ends_in place run event SecondHalf refl refl;
      removed = ap (λ (n : ℕ). record { mailbox = n; entry = box_entry.R uid } ∷ []) (sym (source_same place run event refl refl));
      held_is = held_same place run event refl refl ∙ stood.held_is;
      copied_is = copied_still place run event copied.0 refl stood.copied_is;
      said_is = ap (λ (s : List Reply). s ++ reply.Moved copied false ∷ []) stood.said_is;
    })

pub move_broken : {D : Type 0} → (name : List ℕ) (uid : Uid) (target : List ℕ) (held : MapUid) (copied : Uid) (source : BoxNo) (Stands : Run → ℕ → List Reply → Type 0) (old new : StoreValue D) (before after : Option History) (began faulted : Faults) → IsStore before old → old.stopped ≡ false → FellFrom source uid old new before after began faulted
    → CopyingClause (request.Move name uid target) (HasCopied held copied source.0) Stands old new before after began faulted (did.Broken half.ExpungeHalf) (Some (reply.Refused refusal.Stopped))
move_broken name uid target held copied source Stands old new before after began faulted is ran r = λ around behind pins run lane place said lists come shows stood.
    let q = request.Move name uid target in
    let at = source_of place run in
    let k = leaving_known pins before began old uid source.0 at r.row lists run is r.there stood.source_is shows.0 shows.1 come in
    let would : RunEvent = taking_away lane place at uid k.recorded.entry.uid (told_calls after) in
    let seen = seen_of pins old before began in
    let later = seen_of pins new after faulted in (
      (did_fall around behind run lane place said q SecondHalf lists seen later (did.Broken half.ExpungeHalf) no_numbers (removes_stops around run place said name uid target held copied source.0 stood)
          (stays_left _ _ _ _ _ _ _ _ _ come (box_fell_stays pins source.0 (box_entry.R uid) old new before after began faulted r.fell) (shows.0, shown_on seen later (indexes_of old.boxes) lists r.fell.appends.map r.fell.indexes shows.1)) ran r.fell.stopped r.fell.rose (λ event. inl refl) tt (
            record { refused = refl; unanswered = refl; ran = ran; stopped = r.fell.stopped },
            refl,
            (
              record {
                would = would;
                lane_is = refl;
                request_is = refl;
                part_is = refl;
                did = λ found e. subst (λ (o : Option ListedMessage). RemovesIfThere run at uid.0 would o) (sym k.there) (k.recorded.entry, k.is_record, refl);
                answer = reply.Moved copied false;
                left = expunge_from at uid.0 lists;
                made = ((refl, (stood.copied_is, (sym (ap is_none k.there), refl))), refl);
              },
              λ s. subst (λ (ls : Lists). Leaves lists ls before after) k.by (r.fell.appends.moments lists [] (brings_removal old.map uid [] before) s.0),
            ),
          )).so,
      λ e. absurd (never_more _ e),
    )

-- ---- the count is lowered

abbrev pub lowering_moved : ℕ → ℕ → ℕ → Uid → ℕ → RunEvent
lowering_moved lane place owed copied calls = record (event_of lane place GivesBack calls) { reply = Some (reply.Moved copied false); map_entries = lowers owed }

lowers_stops : (around : Around) (run : Run) (place : ℕ) (said : List Reply) (name : List ℕ) (uid : Uid) (target : List ℕ) (owed : MapUid) (copied : Uid) → HasMoved uid owed copied run place said
    → CanRefuse around run place (request.Move name uid target) GivesBack refusal.Stopped (Some (reply.Refused refusal.Stopped)) no_numbers
lowers_stops around run place said name uid target owed copied h = refuses around run place (request.Move name uid target) GivesBack refusal.Stopped no_numbers (λ lane calls. tt) (λ lane calls. tt) (lowers_next around run name uid target owed copied place said h) refl

pub lowering_stopped : {D : Type 0} → (name : List ℕ) (uid : Uid) (target : List ℕ) (owed : MapUid) (copied : Uid) (Stands : Run → ℕ → List Reply → Type 0) (store : StoreValue D) (history : Option History) (faults : Faults) → store.stopped ≡ true
    → CopyingClause (request.Move name uid target) (HasMoved uid owed copied) Stands store store history history faults faults did.Quiet (Some (reply.Refused refusal.Stopped))
lowering_stopped name uid target owed copied Stands store history faults stopped = λ around behind pins run lane place said lists come shows stood. (
  (did_stop around behind run lane place said (request.Move name uid target) GivesBack lists (seen_of pins store history faults) (lowers_stops around run place said name uid target owed copied stood) come shows stopped).so,
  λ e. absurd (never_more _ e),
)

pub move_unlowered : {D : Type 0} → (name : List ℕ) (uid : Uid) (target : List ℕ) (owed : MapUid) (copied : Uid) (Stands : Run → ℕ → List Reply → Type 0) (old new : StoreValue D) (before after : Option History) (began faulted : Faults) → old.stopped ≡ false → MapFell old new before after began faulted
    → CopyingClause (request.Move name uid target) (HasMoved uid owed copied) Stands old new before after began faulted did.Failed (Some (reply.Refused refusal.Stopped))
move_unlowered name uid target owed copied Stands old new before after began faulted ran f = λ around behind pins run lane place said lists come shows stood.
    let seen = seen_of pins old before began in
    let later = seen_of pins new after faulted in (
      (did_fall around behind run lane place said (request.Move name uid target) GivesBack lists seen later did.Failed no_numbers (lowers_stops around run place said name uid target owed copied stood)
          (stays_left _ _ _ _ _ _ _ _ _ come (map_fell_stays pins old new before after began faulted f) (shows_still pins old new before after began faulted lists f.appends shows)) ran f.stopped f.rose (λ event. inl refl) tt (record { refused = refl; unanswered = refl; ran = ran; stopped = f.stopped }, λ s. f.appends.moments lists s.0)).so,
      λ e. absurd (never_more _ e),
    )

pub move_lowered : {D : Type 0} → (name : List ℕ) (uid : Uid) (target : List ℕ) (owed : MapUid) (copied : Uid) (Stands : Run → ℕ → List Reply → Type 0) (old new : StoreValue D) (before after : Option History) (began faulted : Faults) → old.stopped ≡ false → ((other : ℕ) → one_due owed.0 other ≤ due_at other old)
    → MapTook (lowering_of owed) old new before after began faulted → CopyingClause (request.Move name uid target) (HasMoved uid owed copied) Stands old new before after began faulted did.Quiet (Some (reply.Moved copied false))
move_lowered name uid target owed copied Stands old new before after began faulted ran due t = λ around behind pins run lane place said lists come shows stood.
    let q = request.Move name uid target in
    let ended = Some (reply.Moved copied false) in
    let event : RunEvent = lowering_moved lane place owed.0 copied (told_calls after) in
    let a = t.appends in
    let seen = seen_of pins old before began in
    let later = seen_of pins new after faulted in (
      (did_own around behind run lane place said q lists lists seen later did.Quiet ended None event
          (record {
            own = own_event event refl;
            finds = tt;
            found = tt;
            part_is = lowers_next around run name uid target owed copied place said stood;
            allowed = refl;
            fits = one_fits run seen (lowering_of owed) come t.fits;
            did = (owed.0, stood.held_is, refl);
            ends = record { 0 = λ e. copied_ends (is_elsewhere (and_then run event) place name) place (and_then run event) copied.0 (copied_still place run event copied.0 refl stood.copied_is); 1 = λ e f. some_reply (reply.Moved copied false) f };
            replied = last_before (own_events place run) event refl ∙ stood.unrefused;
          }) (record { made = refl; pins = refl; unpins = refl; doomed = refl; removed = refl; given = refl; placed = refl; gone = refl }) come (comes_with run event (lowering_of owed) seen later come t.taken a.drawn a.grows refl refl refl)
          (λ u. lowered_ends (due_at u old) (due_at u new) owed.0 u (lowered_due owed old new u (due u) (t.due u)))
          (took_tells pins (lowering_of owed) old new before after began faulted ran t) (shows_still pins old new before after began faulted lists a shows) a.grows (a.stays old.map) refl refl (refl, t.runs ∙ sym ran, leads_still pins (lowering_of owed) old new before after began faulted lists t)
          (ends_well q said event None ended did.Quiet seen later refl ran t.runs t.unfailed (λ x. x) (moved_runs copied false) (λ some. absurd (let k : false ≡ true = some in cc k))
          (replied_so q said (reply.Moved copied false) stood.said_is))).so,
      λ e. absurd (never_more _ e),
    )

-- ---- as other requests go on

pub copied_kept : (held : MapUid) (copied : Uid) (source : ℕ) → IsKept (HasCopied held copied source)
copied_kept held copied source run place said event e new stood =
    let same = own_other place run event (ne_eqb event.request place e) in record {
      unrefused = ap last_refusal same ∙ stood.unrefused;
      last = ends_still (own_events place run) (own_events place (and_then run event)) Last same stood.last;
      held_is = held_by place run (and_then run event) same ∙ stood.held_is;
      source_is = source_by place run (and_then run event) same ∙ stood.source_is;
      copied_is = copied_by place run (and_then run event) same ∙ stood.copied_is;
      said_is = stood.said_is;
    }

pub moved_kept : (uid : Uid) (owed : MapUid) (copied : Uid) → IsKept (HasMoved uid owed copied)
moved_kept uid owed copied run place said event e new stood =
    let same = own_other place run event (ne_eqb event.request place e) in record {
      unrefused = ap last_refusal same ∙ stood.unrefused;
      last = ends_still (own_events place run) (own_events place (and_then run event)) SecondHalf same stood.last;
      removed = stood.removed ∙ ap (λ (n : ℕ). record { mailbox = n; entry = box_entry.R uid } ∷ []) (sym (source_by place run (and_then run event) same));
      held_is = held_by place run (and_then run event) same ∙ stood.held_is;
      copied_is = copied_by place run (and_then run event) same ∙ stood.copied_is;
      said_is = stood.said_is;
    }
