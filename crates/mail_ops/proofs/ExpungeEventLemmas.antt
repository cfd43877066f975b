-- The events of an expunge, by the clause of a step.
use Rattle.mail_ops.proofs.Common.{All-nil, ◌≡◌, ◌+◌, ℕ, true, false, List, [], ◌∷◌, ◌++◌, Option, Some, None, refl, sym, ◌∙◌, ap, subst, arith, ◌⊎◌, length, slice_get, inl, inr, eq-eqb, History, Faults, told_calls, MapUid, Uid, Did, Refusal, Reply, Lists, IsSettledFor, Leaves, no_numbers, First}
use Rattle.mail_ops.proofs.Common.{GivesBack, RunEvent, Run, own_events, is_step, answers_well, halves_of, IsReplyOf, Around, next_part, own_more, due_at, IsStore, StoreValue, indexes_of, one_due, Steps, MapTook, MapFell, lowering_of, expunge_amounts, RemovesRow, FellRemoving, missing_message}
use Rattle.mail_ops.proofs.Common.{AreDueIn, seen_of, ExpungeStage, CanRefuse, did_check, did_fall, did_forget, did_own, did_stop, ends_well, no_reply, own_event, refuses, replied_so, some_reply, stands_by, stays_left, comes_along, stays_itself, first_reply, never_more, nothing}
use Rattle.mdbox_base.specs.declared.entries.BoxEntry.TheVariants as box_entry
use Rattle.mdbox_base.specs.declared.progress.Did.TheVariants as did
use Rattle.mdbox_base.specs.declared.replies.Refusal.TheVariants as refusal
use Rattle.mdbox_base.specs.declared.replies.Reply.TheVariants as reply
use Rattle.mdbox_base.specs.declared.requests.Request.TheVariants as request
use Rattle.mdbox_base.specs.declared.script.Half.TheVariants as half
use Rattle.list_machine.specs.Machine.{expunge}
use Rattle.journal.specs.Stages.{ToLower, IsAtStage, removal, lowering}
use Rattle.journal.proofs.ExpungeLemmas.{owed_is, next_is, never_refused}
use Rattle.mail_ops.specs.Expunging.{IsAtExpunge}
use Rattle.mail_ops.specs.declared.expunging.ExpungeStage.TheVariants as stage
use Rattle.mail_ops.proofs.FlagEventLemmas.{shown_on}
use Rattle.mail_ops.proofs.LoweringLemmas.{comes_with, lowered_due, shows_still, leads_still, one_fits}
use Rattle.mail_ops.proofs.MessageLemmas.{missing_is, missing_refused}
use Rattle.mail_ops.proofs.RemovalLemmas.{brings_removal, box_tells, took_tells, removal_due, box_fell_stays, map_fell_stays, removal_known}
use Rattle.mail_ops.proofs.ToldLemmas.{some_part}

-- the clause of a step from one stage to another
abbrev pub ExpungeClause : {D : Type 0} → List ℕ → Uid → ExpungeStage → ExpungeStage → StoreValue D → StoreValue D → Option History → Option History → Faults → Faults → Did → Option Reply → Type 0
ExpungeClause name uid now next old new before after began then how ended =
    (around behind : Around) (pins : ℕ → ℕ) → Steps (IsAtExpunge now) (IsAtExpunge next) around behind (request.Expunge name uid) (seen_of pins old before began) (seen_of pins new after then) how ended

said_done : Some reply.Done ≡ Some (reply.Refused refusal.Stopped) → ⊥
said_done e = let k : reply.Done ≡ reply.Refused refusal.Stopped = cc e in cc k

-- ---- its refusals

first_refuses : (around : Around) (run : Run) (place : ℕ) (name : List ℕ) (uid : Uid) (why : Refusal) → own_events place run ≡ [] → CanRefuse around run place (request.Expunge name uid) First why (Some (reply.Refused why)) no_numbers
first_refuses around run place name uid why own = refuses around run place (request.Expunge name uid) First why no_numbers (λ lane calls. tt) (λ lane calls. tt) (ap (λ (es : List RunEvent). next_part around run (request.Expunge name uid) es) own) refl

last_stops : (around : Around) (run : Run) (place : ℕ) (name : List ℕ) (uid : Uid) (owed : ℕ) → IsAtStage (ToLower owed) (own_events place run) → CanRefuse around run place (request.Expunge name uid) GivesBack refusal.Stopped (Some (reply.Refused refusal.Stopped)) no_numbers
last_stops around run place name uid owed at = refuses around run place (request.Expunge name uid) GivesBack refusal.Stopped no_numbers (λ lane calls. tt) (λ lane calls. tt) (next_is around run name uid (own_events place run) at.0 at.1 at.2 at.3) refl

-- ---- a store that was stopped

pub expunge_stopped : {D : Type 0} → (name : List ℕ) (uid : Uid) (now : ExpungeStage) (store : StoreValue D) (history : Option History) (faults : Faults) → store.stopped ≡ true → ExpungeClause name uid now now store store history history faults faults did.Quiet (Some (reply.Refused refusal.Stopped))
expunge_stopped name uid stage.First store history faults stopped = λ around behind pins run lane place said lists come shows stood. (
  (did_stop around behind run lane place said (request.Expunge name uid) First lists (seen_of pins store history faults) (first_refuses around run place name uid refusal.Stopped stood.0) come shows stopped).so,
  λ e. absurd (never_more _ e),
)
expunge_stopped name uid (stage.Owing owed) store history faults stopped = λ around behind pins run lane place said lists come shows stood. (
  (did_stop around behind run lane place said (request.Expunge name uid) GivesBack lists (seen_of pins store history faults) (last_stops around run place name uid owed.0 stood.0) come shows stopped).so,
  λ e. absurd (never_more _ e),
)

-- ---- the first event

removal_box_due : (old new owed uid : ℕ) → new ≡ old + one_due owed uid → new + 0 ≡ old + (0 + (0 + one_due owed uid))
removal_box_due old new owed uid e = omega (arith, e)

pub expunge_removed : {D : Type 0} → (name : List ℕ) (uid : Uid) (owed : MapUid) (old new : StoreValue D) (before after : Option History) (began then : Faults) → IsStore before old → old.stopped ≡ false → RemovesRow name uid owed old new before after began then
    → ExpungeClause name uid stage.First (stage.Owing owed) old new before after began then (did.Step half.Whole) None
expunge_removed name uid owed old new before after began then is ran r = λ around behind pins run lane place said lists come shows stood.
    let q = request.Expunge name uid in
    let k = removal_known pins before began old name uid r.number r.row lists run is r.there shows.0 shows.1 come in
    let event : RunEvent = removal lane place k.shown.mailbox uid k.recorded.entry.uid (told_calls after) in
    let a = r.took.appends in
    let seen = seen_of pins old before began in
    let later = seen_of pins new after then in
    stands_by around behind run lane place said q lists seen later (did.Step half.Whole) None event (Some reply.Done) (IsAtExpunge (stage.Owing owed))
    (did_own around behind run lane place said q lists (expunge name uid.0 lists) seen later (did.Step half.Whole) None (Some reply.Done) event
    (record {
      own = own_event event refl;
      finds = tt;
      found = tt;
      part_is = ap (λ (es : List RunEvent). next_part around run q es) stood.0;
      allowed = k.allowed;
      fits = All-nil _;
      did = (k.shown.mailbox, k.recorded.entry, k.shown.named, k.is_record, refl);
      ends = record { 0 = λ h. absurd (h refl); 1 = λ h. absurd (some_part GivesBack h) };
      replied = tt;
    }) (record { made = refl; pins = refl; unpins = refl; doomed = refl; removed = refl; given = refl; placed = refl; gone = refl }) come (comes_along run event seen later come a.map a.drawn a.grows refl refl refl)
    (λ other. subst (λ (u : ℕ). due_at other new + 0 ≡ due_at other old + (0 + (0 + one_due u other))) (sym k.recorded.uid_is)
    (removal_box_due (due_at other old) (due_at other new) r.row.map_uid other (removal_due old new r.there.m uid r.row other r.there.listed (r.took.due r.there.m other r.there.box.numbered))))
    (box_tells pins r.number (box_entry.R uid) old new before after began then (λ runs. ran) a) (
      answers_well run lists q event reply.Done (expunge name uid.0 lists) shows.0 tt (k.allowed, refl),
      shown_on seen later _ (expunge name uid.0 lists) a.map r.took.taken k.shows,
    ) a.grows (a.stays old.map) refl ((k.allowed, refl), refl) (
      refl,
      refl,
      r.took.runs,
      record {
        stops = λ s. subst (λ (ls : Lists). Leaves lists ls before after) k.by (a.moments lists [] (brings_removal old.map uid [] before) s.0);
        settled = λ s. subst (λ (ls : Lists). IsSettledFor ls after) k.by (r.took.settled lists [] (brings_removal old.map uid [] before) s.0);
      },
    )
    (ends_well q said event (Some reply.Done) None (did.Step half.Whole) seen later refl ran r.took.runs r.took.unfailed (λ x. x) (λ e. no_reply (reply.Refused refusal.Stopped) e)
    (λ some. ap (λ (s : List Reply). slice_get (halves_of q) (length s)) stood.1) (λ given e. absurd (no_reply given e))))
    (λ goes_on. (
      (
        event,
        own_more place run event (eq-eqb place place refl) ∙ ap (λ (es : List RunEvent). es ++ event ∷ []) stood.0,
        refl,
        refl,
        ap (λ (u : ℕ). u ∷ []) (k.recorded.uid_is ∙ sym r.owes),
      ),
      ap (λ (s : List Reply). s ++ reply.Done ∷ []) stood.1,
    ))

pub expunge_broken : {D : Type 0} → (name : List ℕ) (uid : Uid) (old new : StoreValue D) (before after : Option History) (began then : Faults) → IsStore before old → old.stopped ≡ false → FellRemoving name uid old new before after began then
    → ExpungeClause name uid stage.First stage.First old new before after began then (did.Broken half.Whole) (Some (reply.Refused refusal.Stopped))
expunge_broken name uid old new before after began then is ran r = λ around behind pins run lane place said lists come shows stood.
    let q = request.Expunge name uid in
    let k = removal_known pins before began old name uid r.number r.row lists run is r.there shows.0 shows.1 come in
    let would : RunEvent = removal lane place k.shown.mailbox uid k.recorded.entry.uid (told_calls after) in
    let seen = seen_of pins old before began in
    let later = seen_of pins new after then in (
      (did_fall around behind run lane place said q First lists seen later (did.Broken half.Whole) no_numbers (first_refuses around run place name uid refusal.Stopped stood.0)
          (stays_left _ _ _ _ _ _ _ _ _ come (box_fell_stays pins r.number (box_entry.R uid) old new before after began then r.fell) (shows.0, shown_on seen later (indexes_of old.boxes) lists r.fell.appends.map r.fell.indexes shows.1)) ran r.fell.stopped r.fell.rose (λ event. inl refl) tt (
            record { refused = refl; unanswered = refl; ran = ran; stopped = r.fell.stopped },
            refl,
            (
              record {
                would = would;
                lane_is = refl;
                request_is = refl;
                part_is = refl;
                did = λ found e. (k.shown.mailbox, k.recorded.entry, k.shown.named, k.is_record, refl);
                answer = reply.Done;
                left = expunge name uid.0 lists;
                made = ((k.allowed, refl), refl);
              },
              λ s. subst (λ (ls : Lists). Leaves lists ls before after) k.by (r.fell.appends.moments lists [] (brings_removal old.map uid [] before) s.0),
            ),
          )).so,
      λ e. absurd (never_more _ e),
    )

-- refused by a check
missing_steps : (name : List ℕ) (uid : Uid) (why : Refusal) → (why ≡ refusal.NoMailbox) ⊎ (why ≡ refusal.NoMessage) → (is_step why ≡ true) × (IsReplyOf (request.Expunge name uid) (reply.Refused why ∷ []) (reply.Refused why))
missing_steps name uid refusal.NoMailbox h = (refl, refl)
missing_steps name uid refusal.NoMessage h = (refl, refl)
missing_steps name uid other (inl e) = absurd (cc e)
missing_steps name uid other (inr e) = absurd (cc e)

pub expunge_refused : {D : Type 0} → (name : List ℕ) (uid : Uid) (store : StoreValue D) (history : Option History) (faults : Faults) (why : Refusal) → store.stopped ≡ false → missing_message name uid.0 store ≡ Some why
    → ExpungeClause name uid stage.First stage.First store store history history faults faults (did.Step half.Whole) (Some (reply.Refused why))
expunge_refused name uid store history faults why runs missing = λ around behind pins run lane place said lists come shows stood.
    let q = request.Expunge name uid in
    let m = missing_steps name uid why (missing_is name uid.0 store why missing) in (
      (did_check around behind run lane place said q First lists (seen_of pins store history faults) (seen_of pins store history faults) why (Some (reply.Refused why)) half.Whole (first_refuses around run place name uid why stood.0) (stays_left _ _ _ _ _ _ _ _ _ come (stays_itself (seen_of pins store history faults)) shows) runs runs (nothing lists (seen_of pins store history faults)) refl m.0 refl (ap (λ (s : List Reply). slice_get (halves_of q) (length s)) stood.1) (λ event. missing_refused run name uid.0 store why lists shows.1 missing)
          (first_reply q said (Some (reply.Refused why)) (reply.Refused why) stood.1 m.1)).so,
      λ e. absurd (never_more _ e),
    )

pub expunge_unremembered : {D : Type 0} → (name : List ℕ) (uid : Uid) (store : StoreValue D) (history : Option History) (faults : Faults) → store.stopped ≡ false → ExpungeClause name uid stage.First stage.First store store history history faults faults did.Quiet (Some (reply.Refused refusal.NoMemory))
expunge_unremembered name uid store history faults runs = λ around behind pins run lane place said lists come shows stood.
    let q = request.Expunge name uid in
    let seen = seen_of pins store history faults in (
      (did_forget around behind run lane place said q First lists seen seen (Some (reply.Refused refusal.NoMemory)) no_numbers (first_refuses around run place name uid refusal.NoMemory stood.0) (stays_left _ _ _ _ _ _ _ _ _ come (stays_itself seen) shows) runs runs (nothing lists seen) refl refl (λ event. inl refl)
          (replied_so q said (reply.Refused refusal.NoMemory) stood.1)).so,
      λ e. absurd (never_more _ e),
    )

-- ---- the last event

last_due : (old new owed uid : ℕ) → new + one_due owed uid ≡ old → new + (0 + (0 + (0 + one_due owed uid))) ≡ old + 0
last_due old new owed uid e = omega (arith, e)

pub expunge_lowered : {D : Type 0} → (name : List ℕ) (uid : Uid) (owed : MapUid) (old new : StoreValue D) (before after : Option History) (began then : Faults) → old.stopped ≡ false → AreDueIn old (expunge_amounts (stage.Owing owed)) → MapTook (lowering_of owed) old new before after began then
    → ExpungeClause name uid (stage.Owing owed) stage.First old new before after began then did.Quiet (Some reply.Done)
expunge_lowered name uid owed old new before after began then ran due t = λ around behind pins run lane place said lists come shows stood.
    let q = request.Expunge name uid in
    let event : RunEvent = lowering lane place owed.0 (told_calls after) in
    let a = t.appends in
    let seen = seen_of pins old before began in
    let later = seen_of pins new after then in
    let at = stood.0 in (
      (did_own around behind run lane place said q lists lists seen later did.Quiet (Some reply.Done) None event
          (record {
            own = own_event event refl;
            finds = tt;
            found = tt;
            part_is = next_is around run name uid (own_events place run) at.0 at.1 at.2 at.3;
            allowed = refl;
            fits = one_fits run seen (lowering_of owed) come t.fits;
            did = (owed.0, owed_is place owed.0 run at.0 at.1 at.4, refl);
            ends = record { 0 = λ h. refl; 1 = λ h e. some_reply reply.Done e };
            replied = never_refused (own_events place run) at.0 event at.1 at.3;
          }) (record { made = refl; pins = refl; unpins = refl; doomed = refl; removed = refl; given = refl; placed = refl; gone = refl }) come (comes_with run event (lowering_of owed) seen later come t.taken a.drawn a.grows refl refl refl)
          (λ other. last_due (due_at other old) (due_at other new) owed.0 other (lowered_due owed old new other (due other) (t.due other)))
          (took_tells pins (lowering_of owed) old new before after began then ran t) (shows_still pins old new before after began then lists a shows) a.grows (a.stays old.map) refl refl (refl, t.runs ∙ sym ran, leads_still pins (lowering_of owed) old new before after began then lists t)
          (ends_well q said event None (Some reply.Done) did.Quiet seen later refl ran t.runs t.unfailed (λ x. x) said_done (λ some. absurd (let k : false ≡ true = some in cc k))
          (replied_so q said reply.Done stood.1))).so,
      λ e. absurd (never_more _ e),
    )

pub expunge_unlowered : {D : Type 0} → (name : List ℕ) (uid : Uid) (owed : MapUid) (old new : StoreValue D) (before after : Option History) (began then : Faults) → old.stopped ≡ false → MapFell old new before after began then
    → ExpungeClause name uid (stage.Owing owed) (stage.Owing owed) old new before after began then did.Failed (Some (reply.Refused refusal.Stopped))
expunge_unlowered name uid owed old new before after began then ran f = λ around behind pins run lane place said lists come shows stood.
    let seen = seen_of pins old before began in
    let later = seen_of pins new after then in (
      (did_fall around behind run lane place said (request.Expunge name uid) GivesBack lists seen later did.Failed no_numbers (last_stops around run place name uid owed.0 stood.0)
          (stays_left _ _ _ _ _ _ _ _ _ come (map_fell_stays pins old new before after began then f) (shows_still pins old new before after began then lists f.appends shows)) ran f.stopped f.rose (λ event. inl refl) tt (record { refused = refl; unanswered = refl; ran = ran; stopped = f.stopped }, λ s. f.appends.moments lists s.0)).so,
      λ e. absurd (never_more _ e),
    )
