-- The events of a deletion, by the clause of a step.
use Rattle.mail_ops.proofs.Common.{All-nil, ◌≡◌, ℕ, true, false, List, [], ◌∷◌, Option, Some, None, refl, sym, ◌∙◌, ap, subst, arith, inl, History, Faults, told_calls, BoxNo, Did, Refusal, Reply, Mailbox, Lists, AreWellFormed, BoxMeaning, MapBox, MapMeaning, MapFits, map_applied}
use Rattle.mail_ops.proofs.Common.{ShowLists, First, RunEvent, event_of, Run, own_events, no_numbers, is_step, Around, answers_well, IsReplyOf, IsStore, StoreValue, indexes_of, ShowsSeen, Steps, IsStoppedSo, HasChangedDisk, FellChanging, seen_of}
use Rattle.mail_ops.proofs.Common.{CanRefuse, IsPlain, did_fall, did_own, did_stop, ends_well, no_reply, own_event, refuses, some_reply, stands_by, stays_left, comes_along, never_more, plain_stopped}
use Rattle.std.specs.Prelude.{filter, not, ◌==◌}
use Rattle.mdbox_base.specs.declared.entries.MapCount.{MapCount}
use Rattle.mdbox_base.specs.declared.entries.MapEntry.TheVariants as map_entry
use Rattle.mdbox_base.specs.declared.progress.Did.TheVariants as did
use Rattle.mdbox_base.specs.declared.replies.Refusal.TheVariants as refusal
use Rattle.mdbox_base.specs.declared.replies.Reply.TheVariants as reply
use Rattle.mdbox_base.specs.declared.requests.Request.TheVariants as request
use Rattle.mdbox_base.specs.declared.script.Half.TheVariants as half
use Rattle.entry_steps.proofs.AppendListLemmas.{deleted_by}
use Rattle.list_machine.specs.Machine.{delete_mailbox}
use Rattle.list_machine.specs.Run.{RemovesLog}
use Rattle.model_meaning.proofs.AppliedLemmas.{boxes_by_deleted}
use Rattle.store_core.specs.Deleting.{lists_without}
use Rattle.task_steps.proofs.EventLaws.{one_reply}
use Rattle.task_steps.proofs.KeptStoreLemmas.{StaysSo}
use Rattle.task_steps.proofs.OneEventLemmas.{first_turn, next_first, plain_forgets, plain_refused, plain_refuses}
use Rattle.mail_ops.specs.Changing.{deleting_refusal}
use Rattle.mail_ops.specs.DeleteStages.{HasDeleted}
use Rattle.mail_ops.specs.Deleting.{DeletedSo, FellDeleting, IsAtDelete, RemovesBoxLog}
use Rattle.mail_ops.specs.Making.{same_lists}
use Rattle.mail_ops.specs.declared.deleting.DeleteStage.{DeleteStage}
use Rattle.mail_ops.specs.declared.deleting.DeleteStage.TheVariants as stage
use Rattle.mail_ops.proofs.ChangeCheckLemmas.{ShownMailbox, deleting_checked, deleting_steps, shown_box}
use Rattle.mail_ops.proofs.DeleteListLemmas.{listings_are, shows_without}
use Rattle.mail_ops.proofs.DeleteStageLemmas.{deleted_then, none_refused, removing_next}
use Rattle.mail_ops.proofs.LastEventLemmas.{last_before}
use Rattle.mail_ops.proofs.LoweringLemmas.{comes_with, one_fits}
use Rattle.mail_ops.proofs.MakeEventLemmas.{leads_of, shows_of, stays_of, stopped_shows, stopped_stays}
use Rattle.mail_ops.proofs.RemovalLemmas.{store_tells}
use Rattle.mail_ops.proofs.ToldLemmas.{some_part}

-- the clause of a step of a deletion
abbrev pub DeleteClause : {D : Type 0} → List ℕ → DeleteStage → DeleteStage → StoreValue D → StoreValue D → Option History → Option History → Faults → Faults → Did → Option Reply → Type 0
DeleteClause name now next old new before after began then how ended =
    (around behind : Around) (pins : ℕ → ℕ) → Steps (IsAtDelete now) (IsAtDelete next) around behind (request.Delete name) (seen_of pins old before began) (seen_of pins new after then) how ended

pub delete_is_plain : (name : List ℕ) → IsPlain (request.Delete name)
delete_is_plain name = record { found = λ around run event. tt; finds = λ around event. tt; memory = refl; behind = λ why. refl; half_is = refl; halves_are = refl }

-- ---- the store was stopped

pub deleting_stopped : {D : Type 0} → (name : List ℕ) (next : DeleteStage) (store : StoreValue D) (history : Option History) (faults : Faults) → store.stopped ≡ true → DeleteClause name stage.First next store store history history faults faults did.Quiet (Some (reply.Refused refusal.Stopped))
deleting_stopped name next store history faults stopped = λ around behind pins run lane place said lists come shows stood. (
  plain_stopped around behind run lane place said (request.Delete name) lists (seen_of pins store history faults) (delete_is_plain name) come shows stood stopped,
  λ e. absurd (never_more _ e),
)

removing_refuses : (around : Around) (run : Run) (place : ℕ) (said : List Reply) (name : List ℕ) → HasDeleted run place said → CanRefuse around run place (request.Delete name) RemovesLog refusal.Stopped (Some (reply.Refused refusal.Stopped)) no_numbers
removing_refuses around run place said name stood = refuses around run place (request.Delete name) RemovesLog refusal.Stopped no_numbers (λ lane calls. tt) (λ lane calls. tt) (removing_next around run name place said stood) refl

pub removing_stopped : {D : Type 0} → (name : List ℕ) (number : BoxNo) (generation : ℕ) (next : DeleteStage) (store : StoreValue D) (history : Option History) (faults : Faults) → store.stopped ≡ true
    → DeleteClause name (stage.RemovingLog number generation) next store store history history faults faults did.Quiet (Some (reply.Refused refusal.Stopped))
removing_stopped name number generation next store history faults stopped = λ around behind pins run lane place said lists come shows stood. (
  (did_stop around behind run lane place said (request.Delete name) RemovesLog lists (seen_of pins store history faults) (removing_refuses around run place said name stood) come shows stopped).so,
  λ e. absurd (never_more _ e),
)

-- ---- the first event is refused

step_replied : (name : List ℕ) (why : Refusal) → is_step why ≡ true → IsReplyOf (request.Delete name) (reply.Refused why ∷ []) (reply.Refused why)
step_replied name refusal.NoMemory s = absurd (let k : false ≡ true = s in cc k)
step_replied name refusal.ReadFault s = tt
step_replied name refusal.Stopped s = tt
step_replied name (refusal.Damaged file offset) s = absurd (let k : false ≡ true = s in cc k)
step_replied name why s = refl

pub deleting_refused : {D : Type 0} → (name : List ℕ) (next : DeleteStage) (store : StoreValue D) (history : Option History) (faults : Faults) (why : Refusal) → store.stopped ≡ false → deleting_refusal name store ≡ Some why
    → DeleteClause name stage.First next store store history history faults faults (did.Step half.Whole) (Some (reply.Refused why))
deleting_refused name next store history faults why runs refuses = λ around behind pins run lane place said lists come shows stood.
    let step = deleting_steps name store why refuses in (
      plain_refused around behind run lane place said (request.Delete name) lists (seen_of pins store history faults) why (delete_is_plain name) come shows stood runs step (step_replied name why step) (λ event. (deleting_checked run name store lists shows.1 ∙ refuses, refl)),
      λ e. absurd (never_more _ e),
    )

-- out of memory
pub deleting_unremembered : {D : Type 0} → (name : List ℕ) (next : DeleteStage) (store : StoreValue D) (history : Option History) (faults : Faults) → store.stopped ≡ false
    → DeleteClause name stage.First next store store history history faults faults did.Quiet (Some (reply.Refused refusal.NoMemory))
deleting_unremembered name next store history faults runs = λ around behind pins run lane place said lists come shows stood. (
  plain_forgets around behind run lane place said (request.Delete name) lists (seen_of pins store history faults) (delete_is_plain name) come shows stood runs,
  λ e. absurd (never_more _ e),
)

-- ---- the first event removes the mailbox

abbrev pub deleting_event : ℕ → ℕ → Mailbox → List MapCount → ℕ → RunEvent
deleting_event lane place mailbox amounts calls = record (event_of lane place First calls) { map_entries = map_entry.X (record { 0 = mailbox.number }) amounts ∷ [] }

-- the lists are those that the machine leaves
deleted_lists : (name : List ℕ) (number : BoxNo) (amounts : List MapCount) (lists : Lists) (m : BoxMeaning) → AreWellFormed lists → (x : ShownMailbox name number.0 lists m) → lists_without number.0 lists ≡ delete_mailbox name lists
deleted_lists name number amounts lists m well x = deleted_by lists name x.shown.mailbox number amounts well x.shown.named x.number_is

pub deleting_done : {D : Type 0} → (name : List ℕ) (number : BoxNo) (generation : ℕ) (old new : StoreValue D) (before after : Option History) (began then : Faults) → IsStore before old → old.stopped ≡ false → DeletedSo name number generation old new before after began then
    → DeleteClause name stage.First (stage.RemovingLog number generation) old new before after began then (did.Step half.Whole) None
deleting_done name number generation old new before after began then is ran d = λ around behind pins run lane place said lists come shows stood.
    let b = d.box in
    let seen = seen_of pins old before began in
    let later = seen_of pins new after then in
    let left : Lists = lists_without number.0 lists in
    let x = shown_box name number.0 old lists b.box.m b.box.box shows.1 in
    let event : RunEvent = deleting_event lane place x.shown.mailbox b.amounts (told_calls after) in
    let runs : new.stopped ≡ false = ap (λ (s : StoreValue _). s.stopped) b.same ∙ ran in
    let free = deleting_checked run name old lists shows.1 ∙ b.box.free in
    let does = deleted_lists name number b.amounts lists b.box.m shows.0 x in
    let well : AreWellFormed left = answers_well run lists (request.Delete name) event reply.Done left shows.0 tt (free, does) in
    let boxes : new.map.boxes ≡ filter (λ box. not (number.0 == box.number)) old.map.boxes = ap (λ (m : MapMeaning). m.boxes) b.map ∙ boxes_by_deleted number b.amounts old.map.boxes in
    let shown : ShowsSeen later left = (
      well,
      subst (λ (bs : List MapBox). ShowLists bs (indexes_of new.boxes) left) (sym boxes) (subst (λ (ms : List BoxMeaning). ShowLists (filter (λ box. not (number.0 == box.number)) old.map.boxes) ms left) (sym b.indexes) (shows_without number.0 old.map.boxes (indexes_of old.boxes) lists shows.1)),
    ) in
    stands_by around behind run lane place said (request.Delete name) lists seen later (did.Step half.Whole) None event (Some reply.Done) (IsAtDelete (stage.RemovingLog number generation))
    (did_own around behind run lane place said (request.Delete name) lists left seen later (did.Step half.Whole) None (Some reply.Done) event
    (record {
      own = own_event event refl;
      finds = tt;
      found = tt;
      part_is = next_first around run (request.Delete name) (own_events place run) stood.0;
      allowed = free;
      did = (x.shown.mailbox, b.amounts, x.shown.named, listings_are pins run name number b.amounts old before began b.box.m lists is come b.box.box x b.counts.listed, refl);
      fits = one_fits run seen (map_entry.X (record { 0 = x.shown.mailbox.number }) b.amounts) come (subst (λ (k : ℕ). MapFits old.map (map_entry.X (record { 0 = k }) b.amounts)) (sym x.number_is) b.counts.fits);
      ends = record { 0 = λ h. absurd (h refl); 1 = λ h. absurd (some_part RemovesLog h) };
      replied = tt;
    }) (record { made = refl; pins = refl; unpins = refl; doomed = refl; removed = refl; given = refl; placed = refl; gone = refl }) come
    (comes_with run event (map_entry.X (record { 0 = x.shown.mailbox.number }) b.amounts) seen later come (subst (λ (k : ℕ). new.map ≡ map_applied (map_entry.X (record { 0 = k }) b.amounts) old.map) (sym x.number_is) b.map) (ap (λ (s : StoreValue _). s.drawn) b.same) d.disk.change.grows refl refl refl)
    (λ uid. let e = b.due uid in omega (arith, e))
    (store_tells pins old new before after began then (λ runs. ran) (ap (λ (m : MapMeaning). m.store) b.map) (ap (λ (s : StoreValue _). s.drawn) b.same) (ap (λ (s : StoreValue _). s.files) b.same) (ap (λ (s : StoreValue _). s.instances) b.same)) shown d.disk.change.grows (d.disk.change.stays old.map) refl ((free, does), refl)
    (refl, refl, runs, record { stops = λ s. d.disk.change.moments lists s.0; settled = λ s. d.disk.settled lists s.0 })
    (ends_well (request.Delete name) said event (Some reply.Done) None (did.Step half.Whole) seen later refl ran runs d.disk.unfailed (λ x. x) (λ e. no_reply (reply.Refused refusal.Stopped) e) (λ some. first_turn (request.Delete name) said (delete_is_plain name) stood.1) (λ given e. absurd (no_reply given e))))
    (λ goes_on. deleted_then run event place said stood refl refl refl)

-- the append failed
pub deleting_fell : {D : Type 0} → (name : List ℕ) (next : DeleteStage) (old new : StoreValue D) (before after : Option History) (began then : Faults) → IsStore before old → old.stopped ≡ false → FellDeleting name old new before after began then
    → DeleteClause name stage.First next old new before after began then (did.Broken half.Whole) (Some (reply.Refused refusal.Stopped))
deleting_fell name next old new before after began then is ran f = λ around behind pins run lane place said lists come shows stood.
    let seen = seen_of pins old before began in
    let later = seen_of pins new after then in
    let stops : new.stopped ≡ true = ap (λ (s : StoreValue _). s.stopped) f.same in
    let left : Lists = lists_without f.number.0 lists in
    let x = shown_box name f.number.0 old lists f.box.m f.box.box shows.1 in
    let would : RunEvent = deleting_event lane place x.shown.mailbox f.amounts (told_calls after) in (
      (did_fall around behind run lane place said (request.Delete name) First lists seen later (did.Broken half.Whole) no_numbers (plain_refuses around run place (request.Delete name) refusal.Stopped (delete_is_plain name) stood.0)
          (stays_left _ _ _ _ _ _ _ _ _ come (stopped_stays pins old new before after began then (lists_without f.number.0) f.same f.fell.change) (stopped_shows pins old new before after began then lists f.same shows)) ran stops f.fell.rose (λ event. inl refl) tt (
            record { refused = refl; unanswered = refl; ran = ran; stopped = stops },
            refl,
            (
              record {
                would = would;
                lane_is = refl;
                request_is = refl;
                part_is = refl;
                did = λ other e. (x.shown.mailbox, f.amounts, x.shown.named, listings_are pins run name f.number f.amounts old before began f.box.m lists is come f.box.box x f.counts.listed, refl);
                answer = reply.Done;
                left = left;
                made = ((deleting_checked run name old lists shows.1 ∙ f.box.free, deleted_lists name f.number f.amounts lists f.box.m shows.0 x), refl);
              },
              λ s. f.fell.change.moments lists s.0,
            ),
          )).so,
      λ e. absurd (never_more _ e),
    )

-- ---- the second event removes the log

abbrev pub removing_event : ℕ → ℕ → ℕ → RunEvent
removing_event lane place calls = record (event_of lane place RemovesLog calls) { reply = Some reply.Done }

done_runs : Some reply.Done ≡ Some (reply.Refused refusal.Stopped) → ⊥
done_runs e = let k : reply.Done ≡ reply.Refused refusal.Stopped = cc e in cc k

-- no more than the disk has changed
log_stays : {D : Type 0} → (pins : ℕ → ℕ) (number generation : ℕ) (old new : StoreValue D) (before after : Option History) (began then : Faults) → RemovesBoxLog number generation old new before after → HasChangedDisk same_lists before after began then → StaysSo (seen_of pins old before began) (seen_of pins new after then)
log_stays pins number generation old new before after began then r d =
    stays_of pins old new before after began then same_lists (λ runs. sym (ap (λ (s : StoreValue _). s.stopped) r.same) ∙ runs) (ap (λ (s : StoreValue _). s.map) r.same) (ap (λ (s : StoreValue _). s.drawn) r.same) (ap (λ (s : StoreValue _). s.files) r.same) (ap (λ (s : StoreValue _). s.instances) r.same)
    (ap (λ (s : StoreValue _). s.dues) r.same) d.change

pub removing_done : {D : Type 0} → (name : List ℕ) (number : BoxNo) (generation : ℕ) (next : DeleteStage) (old new : StoreValue D) (before after : Option History) (began then : Faults) → old.stopped ≡ false → RemovesBoxLog number.0 generation old new before after → HasChangedDisk same_lists before after began then
    → DeleteClause name (stage.RemovingLog number generation) next old new before after began then did.Quiet (Some reply.Done)
removing_done name number generation next old new before after began then ran r d = λ around behind pins run lane place said lists come shows stood.
    let seen = seen_of pins old before began in
    let later = seen_of pins new after then in
    let runs : new.stopped ≡ false = ap (λ (s : StoreValue _). s.stopped) r.same ∙ ran in
    let stays = log_stays pins number.0 generation old new before after began then r d in
    let event : RunEvent = removing_event lane place (told_calls after) in (
      (did_own around behind run lane place said (request.Delete name) lists lists seen later did.Quiet (Some reply.Done) None event
          (record {
            own = own_event event refl;
            finds = tt;
            found = tt;
            part_is = removing_next around run name place said stood;
            allowed = refl;
            did = refl;
            fits = All-nil _;
            ends = record { 0 = λ h. refl; 1 = λ h e. some_reply reply.Done e };
            replied = last_before (own_events place run) event refl ∙ none_refused run place said stood;
          }) (record { made = refl; pins = refl; unpins = refl; doomed = refl; removed = refl; given = refl; placed = refl; gone = refl }) come (comes_along run event seen later come stays.map stays.drawn stays.grows refl refl refl) (λ uid. let e = stays.due uid in omega (arith, e)) stays.tells
          (shows_of pins old new before after began then lists (ap (λ (s : StoreValue _). s.map) r.same) (ap (λ (s : StoreValue _). s.boxes) r.same) shows) stays.grows stays.mail refl refl (refl, runs ∙ sym ran, leads_of pins old new before after began then lists d)
          (ends_well (request.Delete name) said event None (Some reply.Done) did.Quiet seen later refl ran runs d.unfailed (λ x. x) done_runs (λ some. absurd (let k : false ≡ true = some in cc k))
          (λ given e. subst (λ (g : Reply). IsReplyOf (request.Delete name) said g) (one_reply reply.Done given e) stood.answered))).so,
      λ e. absurd (never_more _ e),
    )

-- a change of the disk failed
pub removing_broke : {D : Type 0} → (name : List ℕ) (number : BoxNo) (generation : ℕ) (next : DeleteStage) (old new : StoreValue D) (before after : Option History) (began then : Faults) → old.stopped ≡ false → IsStoppedSo old new → FellChanging same_lists before after began then
    → DeleteClause name (stage.RemovingLog number generation) next old new before after began then did.Failed (Some (reply.Refused refusal.Stopped))
removing_broke name number generation next old new before after began then ran same f = λ around behind pins run lane place said lists come shows stood.
    let seen = seen_of pins old before began in
    let later = seen_of pins new after then in
    let stops : new.stopped ≡ true = ap (λ (s : StoreValue _). s.stopped) same in (
      (did_fall around behind run lane place said (request.Delete name) RemovesLog lists seen later did.Failed no_numbers (removing_refuses around run place said name stood)
          (stays_left _ _ _ _ _ _ _ _ _ come (stopped_stays pins old new before after began then same_lists same f.change) (stopped_shows pins old new before after began then lists same shows)) ran stops f.rose (λ event. inl refl) tt
          (record { refused = refl; unanswered = refl; ran = ran; stopped = stops }, λ s. f.change.moments lists s.0)).so,
      λ e. absurd (never_more _ e),
    )
