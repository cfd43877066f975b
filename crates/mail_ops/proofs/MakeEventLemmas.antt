-- The events of a make that name no mailbox, by the clause of a step.
use Rattle.mail_ops.proofs.Common.{All-nil, nat_tests, ◌≡◌, ◌≤◌, ◌<◌, ◌+◌, ℕ, Bool, true, false, List, [], ◌∷◌, ◌++◌, Option, Some, None, refl, sym, ◌∙◌, ap, arith, inl, inr, nat_le, length, slice_get, common_steps, History, Faults, told_calls, Grows, Highest, BoxNo, Did, Refusal, Reply, Lists}
use Rattle.mail_ops.proofs.Common.{MapMeaning, no_numbers, EventPart, First, Last, StartsOver, RunEvent, event_of, Run, and_then, own_events, map_of, drawn_also, is_step, halves_of, IsReplyOf, Around, next_part, StoreValue, indexes_of, MailIsKept, Seen, ShowsSeen, HasComeTo, Steps, TellsSame}
use Rattle.mail_ops.proofs.Common.{naming_refusal, making_refusal, with_drawn_box, IsStoppedSo, HasChangedDisk, FellChanging, MadeLogSo, CanBeNamed, seen_of, MakeStage, CanRefuse, did_check, did_fall, did_forget, did_own, did_stop, ends_well, fall, no_reply, own_event, refuses, replied_so}
use Rattle.mail_ops.proofs.Common.{stands_by, stays_left, comes_along, stays_itself, first_reply, never_more, mail_still, nothing, due_as_before}
use Rattle.mdbox_base.specs.declared.progress.Did.TheVariants as did
use Rattle.mdbox_base.specs.declared.replies.Refusal.TheVariants as refusal
use Rattle.mdbox_base.specs.declared.replies.Reply.TheVariants as reply
use Rattle.mdbox_base.specs.declared.requests.Request.TheVariants as request
use Rattle.mdbox_base.specs.declared.script.Half.TheVariants as half
use Rattle.journal.specs.Journal.{half_of}
use Rattle.journal.specs.Events.{is_overtaken, behind_make}
use Rattle.journal.specs.Makes.{HasCome}
use Rattle.task_steps.specs.Step.{Leads}
use Rattle.task_steps.proofs.SeenLemmas.{comes_to_on}
use Rattle.mail_ops.specs.MakeStages.{IsToMakeLog, HasMadeLog}
use Rattle.mail_ops.specs.Making.{IsAtMake, RemovesLog, ChangesDisk, same_lists}
use Rattle.mail_ops.specs.declared.making.MakeStage.TheVariants as stage
use Rattle.task_steps.proofs.EventLaws.{LeftBy, refusal_event}
use Rattle.task_steps.proofs.KeptStoreLemmas.{comes_drawn, StaysSo}
use Rattle.task_steps.proofs.UnmovedLemmas.{leaves_none}
use Rattle.store_seen.proofs.SeeingLemmas.{tells_as_before}
use Rattle.mail_ops.proofs.FlagEventLemmas.{shown_on}
use Rattle.mail_ops.proofs.MakeCheckLemmas.{naming_checked, making_checked, naming_steps, making_steps}
use Rattle.mail_ops.proofs.MakeStageLemmas.{first_next, naming_part, naming_next, makes_log_then, starts_over_then}
use Rattle.mail_ops.proofs.RemovalLemmas.{store_tells}
use Rattle.mail_ops.proofs.ToldLemmas.{some_part}

-- the clause of a step of a make
abbrev pub MakeClause : {D : Type 0} → List ℕ → MakeStage → MakeStage → StoreValue D → StoreValue D → Option History → Option History → Faults → Faults → Did → Option Reply → Type 0
MakeClause name now next old new before after began then how ended =
    (around behind : Around) (pins : ℕ → ℕ) → Steps (IsAtMake now) (IsAtMake next) around behind (request.Make name) (seen_of pins old before began) (seen_of pins new after then) how ended

-- ---- what may be refused

can_refuse : (around : Around) (run : Run) (place : ℕ) (name : List ℕ) (part : EventPart) (why : Refusal) (drew : Highest) → next_part around run (request.Make name) (own_events place run) ≡ Some part → CanRefuse around run place (request.Make name) part why (Some (reply.Refused why)) drew
can_refuse around run place name part why drew next = refuses around run place (request.Make name) part why drew (λ lane calls. tt) (λ lane calls. tt) next refl

first_refuses : (around : Around) (run : Run) (place : ℕ) (said : List Reply) (name : List ℕ) (why : Refusal) (drew : Highest) → IsToMakeLog run place said → CanRefuse around run place (request.Make name) First why (Some (reply.Refused why)) drew
first_refuses around run place said name why drew stood = can_refuse around run place name First why drew (first_next around run name place said stood)

-- the second event, whichever part it is
pub naming_refuses : (around : Around) (run : Run) (place : ℕ) (said : List Reply) (name : List ℕ) (number : ℕ) (m : MapMeaning) (overtaken : Bool) (why : Refusal) → nat_le number m.highest.mailbox ≡ overtaken → HasMadeLog number run place said → map_of run ≡ m
    → CanRefuse around run place (request.Make name) (naming_part overtaken) why (Some (reply.Refused why)) no_numbers
naming_refuses around run place said name number m overtaken why is stood come = can_refuse around run place name (naming_part overtaken) why no_numbers (naming_next around run name place said number m stood come ∙ ap (λ (b : Bool). Some (naming_part b)) is)

-- ---- what is replied

step_replied : (name : List ℕ) (why : Refusal) → is_step why ≡ true → IsReplyOf (request.Make name) (reply.Refused why ∷ []) (reply.Refused why)
step_replied name why s = grind (arith, common_steps, nat_tests)

-- of a request that hasn't answered anything before
why_replied : (name : List ℕ) (said : List Reply) (why : Refusal) → said ≡ [] → is_step why ≡ true → (given : Reply) → Some (reply.Refused why) ≡ Some given → IsReplyOf (request.Make name) (said ++ reply.Refused why ∷ []) given
why_replied name said why none s = first_reply (request.Make name) said (Some (reply.Refused why)) (reply.Refused why) none (step_replied name why s)

pub in_turn : (name : List ℕ) (said : List Reply) (part : EventPart) → said ≡ [] → slice_get (halves_of (request.Make name)) (length said) ≡ Some (half_of (request.Make name) part)
in_turn name said part none = ap (λ (before : List Reply). slice_get (half.Whole ∷ []) (length before)) none

-- ---- a store that goes on

pub stays_of : {D : Type 0} → (pins : ℕ → ℕ) → (old new : StoreValue D) (before after : Option History) (began then : Faults) (left : Lists → Lists) → (new.stopped ≡ false → old.stopped ≡ false) → new.map ≡ old.map → new.drawn ≡ old.drawn → new.files ≡ old.files → new.instances ≡ old.instances → new.dues ≡ old.dues → ChangesDisk left before after began then → StaysSo (seen_of pins old before began) (seen_of pins new after then)
stays_of pins old new before after began then left ran map drawn files instances dues c = record {
  map = map;
  drawn = drawn;
  due = λ uid. due_as_before old new uid map dues;
  tells = store_tells pins old new before after began then ran (ap (λ (m : MapMeaning). m.store) map) drawn files instances;
  grows = c.grows;
  reads = let same = c.reads in omega (arith, same);
  changes = c.changes;
  mail = c.stays old.map;
}

pub shows_of : {D : Type 0} → (pins : ℕ → ℕ) → (old new : StoreValue D) (before after : Option History) (began then : Faults) (lists : Lists) → new.map ≡ old.map → new.boxes ≡ old.boxes → ShowsSeen (seen_of pins old before began) lists → ShowsSeen (seen_of pins new after then) lists
shows_of pins old new before after began then lists map boxes shows =
    (shows.0, shown_on (seen_of pins old before began) (seen_of pins new after then) (indexes_of old.boxes) lists map (ap indexes_of boxes) shows.1)

pub leads_of : {D : Type 0} → (pins : ℕ → ℕ) → (old new : StoreValue D) (before after : Option History) (began then : Faults) (lists : Lists) → HasChangedDisk same_lists before after began then → Leads lists lists (seen_of pins old before began) (seen_of pins new after then)
leads_of pins old new before after began then lists d = record { stops = λ s. d.change.moments lists s.0; settled = λ s. d.settled lists s.0 }

-- ---- the store was stopped

pub first_stopped : {D : Type 0} → (name : List ℕ) (next : MakeStage) (store : StoreValue D) (history : Option History) (faults : Faults) → store.stopped ≡ true → MakeClause name stage.First next store store history history faults faults did.Quiet (Some (reply.Refused refusal.Stopped))
first_stopped name next store history faults stopped = λ around behind pins run lane place said lists come shows stood. (
  (did_stop around behind run lane place said (request.Make name) First lists (seen_of pins store history faults) (first_refuses around run place said name refusal.Stopped no_numbers stood) come shows stopped).so,
  λ e. absurd (never_more _ e),
)

pub naming_stopped : {D : Type 0} → (name : List ℕ) (number : BoxNo) (next : MakeStage) (store : StoreValue D) (history : Option History) (faults : Faults) → store.stopped ≡ true → MakeClause name (stage.Naming number) next store store history history faults faults did.Quiet (Some (reply.Refused refusal.Stopped))
naming_stopped name number next store history faults stopped = λ around behind pins run lane place said lists come shows stood. (
  (did_stop around behind run lane place said (request.Make name) (naming_part (nat_le number.0 store.map.highest.mailbox)) lists (seen_of pins store history faults)
      (naming_refuses around run place said name number.0 store.map (nat_le number.0 store.map.highest.mailbox) refusal.Stopped refl stood come.come.map_is) come shows stopped).so,
  λ e. absurd (never_more _ e),
)

-- ---- the first event is refused by a check

pub making_refused : {D : Type 0} → (name : List ℕ) (next : MakeStage) (store : StoreValue D) (history : Option History) (faults : Faults) (why : Refusal) → store.stopped ≡ false → making_refusal name store ≡ Some why
    → MakeClause name stage.First next store store history history faults faults (did.Step half.Whole) (Some (reply.Refused why))
making_refused name next store history faults why runs refuses = λ around behind pins run lane place said lists come shows stood.
    let step = making_steps name store why refuses in
    let none = stood.0.unanswered in (
      (did_check around behind run lane place said (request.Make name) First lists (seen_of pins store history faults) (seen_of pins store history faults) why (Some (reply.Refused why)) half.Whole (first_refuses around run place said name why no_numbers stood)
          (stays_left _ _ _ _ _ _ _ _ _ come (stays_itself (seen_of pins store history faults)) shows) runs runs (nothing lists (seen_of pins store history faults)) refl step refl (in_turn name said First none) (λ event. making_checked pins history faults run name store lists shows.1 come ∙ refuses) (why_replied name said why none step)).so,
      λ e. absurd (never_more _ e),
    )

-- ---- the first event draws a number

abbrev pub one_box : Highest
one_box = record no_numbers { mailbox = 1 }

abbrev drawing : ℕ → ℕ → ℕ → RunEvent
drawing lane place calls = record (event_of lane place First calls) { drew = one_box }

abbrev numbers : ℕ → ℕ → ℕ → ℕ → Highest
numbers file map instance mailbox = record { file = file; map = map; instance = instance; mailbox = mailbox }

pub one_drawn : (d : Highest) → drawn_also d one_box ≡ record d { mailbox = d.mailbox + 1 }
one_drawn d =
    (ap (λ (n : ℕ). numbers n (d.map + 0) (d.instance + 0) (d.mailbox + 1)) (omega arith) ∙ ap (λ (n : ℕ). numbers d.file n (d.instance + 0) (d.mailbox + 1)) (omega arith)) ∙ ap (λ (n : ℕ). numbers d.file d.map n (d.mailbox + 1)) (omega arith)

-- The store has drawn a number, and nothing else of what is seen has changed.
pub record DrawsSo (old new : Seen) : Type 0 where
  pub map : new.map ≡ old.map
  pub drawn : new.drawn ≡ record old.drawn { mailbox = old.drawn.mailbox + 1 }
  pub due : (uid : ℕ) → new.due uid ≡ old.due uid
  pub tells : TellsSame old new
  pub grows : Grows old.history new.history
  pub reads : old.faults.reads ≤ new.faults.reads
  pub changes : old.faults.changes ≤ new.faults.changes
  pub mail : MailIsKept old.map old.history new.history

drawn_then : (run : Run) (event : RunEvent) (old new : Seen) → HasComeTo run old → DrawsSo old new → event.moment ≡ told_calls new.history → event.map_entries ≡ [] → event.drew ≡ one_box → HasCome (and_then run event) new.map new.drawn (told_calls new.history)
drawn_then run event old new come d moment entries drew = comes_drawn run event old new come d.map (d.drawn ∙ sym (ap (λ (x : Highest). drawn_also old.drawn x) drew ∙ one_drawn old.drawn)) d.grows moment entries

-- a first event that drew a number, and was refused then
draws_left : (run : Run) (lane place : ℕ) (why : Refusal) (ended : Option Reply) (lists : Lists) (old new : Seen) → HasComeTo run old → DrawsSo old new → ShowsSeen new lists → LeftBy run (refusal_event lane place First why ended one_box (told_calls new.history)) lists old new
draws_left run lane place why ended lists old new come d shows =
    let event : RunEvent = refusal_event lane place First why ended one_box (told_calls new.history) in
    record {
      comes = comes_to_on run event old new come (drawn_then run event old new come d refl refl refl) (λ uid. let e = d.due uid in omega (arith, e)) (record { made = refl; pins = refl; unpins = refl; doomed = refl; removed = refl; given = refl; placed = refl; gone = refl }) d.tells;
      shows = shows;
      lasts = record { grows = d.grows; mail = d.mail };
      reads = d.reads;
      changes = d.changes;
    }

-- a store that has drawn a number
pub draws_of : {D : Type 0} → (pins : ℕ → ℕ) → (old new : StoreValue D) (before after : Option History) (began then : Faults) → (new.stopped ≡ false → old.stopped ≡ false) → new.map ≡ old.map → new.drawn ≡ record old.drawn { mailbox = old.drawn.mailbox + 1 } → new.files ≡ old.files → new.instances ≡ old.instances → new.dues ≡ old.dues
    → Grows before after → MailIsKept old.map before after → began.reads ≤ then.reads → began.changes ≤ then.changes → DrawsSo (seen_of pins old before began) (seen_of pins new after then)
draws_of pins old new before after began then ran map drawn files instances dues grows mail reads changes = record {
  map = map;
  drawn = drawn;
  due = λ uid. due_as_before old new uid map dues;
  tells = tells_as_before pins old new before after began then ran (ap (λ (m : MapMeaning). m.store) map) (ap (λ (d : Highest). d.file) drawn) (ap (λ (d : Highest). d.instance) drawn) files instances;
  grows = grows;
  mail = mail;
  reads = reads;
  changes = changes;
}

-- out of memory behind the number
pub making_unremembered : {D : Type 0} → (name : List ℕ) (next : MakeStage) (store : StoreValue D) (history : Option History) (faults : Faults) → store.stopped ≡ false
    → MakeClause name stage.First next store (with_drawn_box (store.drawn.mailbox + 1) store) history history faults faults did.Quiet (Some (reply.Refused refusal.NoMemory))
making_unremembered name next store history faults runs = λ around behind pins run lane place said lists come shows stood.
    let seen = seen_of pins store history faults in
    let new = with_drawn_box (store.drawn.mailbox + 1) store in
    let later = seen_of pins new history faults in
    let no_memory = Some (reply.Refused refusal.NoMemory) in (
      (did_forget around behind run lane place said (request.Make name) First lists seen later no_memory one_box (first_refuses around run place said name refusal.NoMemory one_box stood)
          (draws_left run lane place refusal.NoMemory no_memory lists seen later come (draws_of pins store new history history faults faults (λ runs. runs) refl refl refl refl refl (omega arith) (mail_still store.map history) (omega arith) (omega arith)) shows) runs runs
          (record { stops = λ s. leaves_none history lists lists s.0; settled = λ s. s.0 }) refl refl (λ event. inr refl) (replied_so (request.Make name) said (reply.Refused refusal.NoMemory) stood.0.unanswered)).so,
      λ e. absurd (never_more _ e),
    )

-- a change of the disk failed as the log was made
pub making_fell : {D : Type 0} → (name : List ℕ) (next : MakeStage) (old new : StoreValue D) (before after : Option History) (began then : Faults) → old.stopped ≡ false → new ≡ record (with_drawn_box (old.drawn.mailbox + 1) old) { disk = new.disk; stopped = true } → FellChanging same_lists before after began then
    → MakeClause name stage.First next old new before after began then did.Failed (Some (reply.Refused refusal.Stopped))
making_fell name next old new before after began then ran same f = λ around behind pins run lane place said lists come shows stood.
    let seen = seen_of pins old before began in
    let later = seen_of pins new after then in
    let stops : new.stopped ≡ true = ap (λ (s : StoreValue _). s.stopped) same in
    let map_is : new.map ≡ old.map = ap (λ (s : StoreValue _). s.map) same in
    let draws = draws_of pins old new before after began then (λ runs. ran) map_is (ap (λ (s : StoreValue _). s.drawn) same) (ap (λ (s : StoreValue _). s.files) same) (ap (λ (s : StoreValue _). s.instances) same) (ap (λ (s : StoreValue _). s.dues) same) f.change.grows (f.change.stays old.map) (let r = f.change.reads in omega (arith, r)) f.change.changes in (
      (did_fall around behind run lane place said (request.Make name) First lists seen later did.Failed one_box (first_refuses around run place said name refusal.Stopped one_box stood)
          (draws_left run lane place refusal.Stopped (Some (reply.Refused refusal.Stopped)) lists seen later come draws (shows_of pins old new before after began then lists map_is (ap (λ (s : StoreValue _). s.boxes) same) shows)) ran stops f.rose (λ event. inr refl) tt
          (record { refused = refl; unanswered = refl; ran = ran; stopped = stops }, λ s. f.change.moments lists s.0)).so,
      λ e. absurd (never_more _ e),
    )

makes_on : (overtaken : Bool) → behind_make overtaken First ≡ None → ⊥
makes_on true e = some_part StartsOver e
makes_on false e = some_part Last e

-- the log was made
pub making_done : {D : Type 0} → (name : List ℕ) (number : BoxNo) (old new : StoreValue D) (before after : Option History) (began then : Faults) → old.stopped ≡ false → MadeLogSo name number.0 old new before after began then
    → MakeClause name stage.First (stage.Naming number) old new before after began then did.Quiet None
making_done name number old new before after began then ran m = λ around behind pins run lane place said lists come shows stood.
    let seen = seen_of pins old before began in
    let later = seen_of pins new after then in
    let same = m.log.same in
    let runs : new.stopped ≡ false = ap (λ (s : StoreValue _). s.stopped) same ∙ ran in
    let map_is : new.map ≡ old.map = ap (λ (s : StoreValue _). s.map) same in
    let drawn_is : new.drawn ≡ record old.drawn { mailbox = old.drawn.mailbox + 1 } = ap (λ (s : StoreValue _). s.drawn) same ∙ ap (λ (n : ℕ). record old.drawn { mailbox = n }) m.log.next in
    let event : RunEvent = drawing lane place (told_calls after) in
    let draws = draws_of pins old new before after began then (λ runs. ran) map_is drawn_is (ap (λ (s : StoreValue _). s.files) same) (ap (λ (s : StoreValue _). s.instances) same) (ap (λ (s : StoreValue _). s.dues) same) m.disk.change.grows (m.disk.change.stays old.map) (let r = m.disk.change.reads in omega (arith, r)) m.disk.change.changes in
    stands_by around behind run lane place said (request.Make name) lists seen later did.Quiet None event None (IsAtMake (stage.Naming number))
    (did_own around behind run lane place said (request.Make name) lists lists seen later did.Quiet None None event
    (record {
      own = own_event event refl;
      finds = tt;
      found = tt;
      part_is = first_next around run name place said stood;
      allowed = making_checked pins before began run name old lists shows.1 come ∙ m.free;
      fits = All-nil _;
      did = refl;
      ends = record { 0 = λ h. absurd (h refl); 1 = λ h. absurd (makes_on (is_overtaken (and_then run event) place) h) };
      replied = tt;
    }) (record { made = refl; pins = refl; unpins = refl; doomed = refl; removed = refl; given = refl; placed = refl; gone = refl }) come (drawn_then run event seen later come draws refl refl refl) (λ uid. let e = draws.due uid in omega (arith, e)) draws.tells (shows_of pins old new before after began then lists map_is (ap (λ (s : StoreValue _). s.boxes) same) shows) draws.grows draws.mail refl refl
    (refl, runs ∙ sym ran, leads_of pins old new before after began then lists m.disk)
    (ends_well (request.Make name) said event None None did.Quiet seen later refl ran runs m.disk.unfailed (λ x. x) (λ e. no_reply (reply.Refused refusal.Stopped) e) (λ some. absurd (let k : false ≡ true = some in cc k)) (λ given e. absurd (no_reply given e))))
    (λ goes_on. makes_log_then run event place said number.0 stood refl refl refl refl (m.log.next ∙ ap (λ (d : Highest). d.mailbox + 1) (sym come.come.drawn_is)))

-- ---- the second event removes the log

-- what stays, if the log was removed
pub removed_stays : {D : Type 0} → (pins : ℕ → ℕ) → (number : ℕ) (old new : StoreValue D) (before after : Option History) (began then : Faults) → RemovesLog number old new before after → HasChangedDisk same_lists before after began then → StaysSo (seen_of pins old before began) (seen_of pins new after then)
removed_stays pins number old new before after began then r d =
    stays_of pins old new before after began then same_lists (λ runs. sym (ap (λ (s : StoreValue _). s.stopped) r.same) ∙ runs) (ap (λ (s : StoreValue _). s.map) r.same) (ap (λ (s : StoreValue _). s.drawn) r.same) (ap (λ (s : StoreValue _). s.files) r.same) (ap (λ (s : StoreValue _). s.instances) r.same)
    (ap (λ (s : StoreValue _). s.dues) r.same) d.change

pub removed_shows : {D : Type 0} → (pins : ℕ → ℕ) → (number : ℕ) (old new : StoreValue D) (before after : Option History) (began then : Faults) (lists : Lists) → RemovesLog number old new before after → ShowsSeen (seen_of pins old before began) lists → ShowsSeen (seen_of pins new after then) lists
removed_shows pins number old new before after began then lists r shows = shows_of pins old new before after began then lists (ap (λ (s : StoreValue _). s.map) r.same) (ap (λ (s : StoreValue _). s.boxes) r.same) shows

pub removed_runs : {D : Type 0} → (number : ℕ) (old new : StoreValue D) (before after : Option History) → RemovesLog number old new before after → old.stopped ≡ false → new.stopped ≡ false
removed_runs number old new before after r ran = ap (λ (s : StoreValue _). s.stopped) r.same ∙ ran

-- refused by a check
pub naming_refused : {D : Type 0} → (name : List ℕ) (number : BoxNo) (next : MakeStage) (old new : StoreValue D) (before after : Option History) (began then : Faults) (why : Refusal) → old.stopped ≡ false → naming_refusal name old ≡ Some why → RemovesLog number.0 old new before after → HasChangedDisk same_lists before after began then
    → MakeClause name (stage.Naming number) next old new before after began then (did.Step half.Whole) (Some (reply.Refused why))
naming_refused name number next old new before after began then why ran refuses r d = λ around behind pins run lane place said lists come shows stood.
    let seen = seen_of pins old before began in
    let later = seen_of pins new after then in
    let overtaken = nat_le number.0 old.map.highest.mailbox in
    let part = naming_part overtaken in
    let step = naming_steps name old why refuses in
    let none = stood.0.unanswered in
    let runs = removed_runs number.0 old new before after r ran in (
      (did_check around behind run lane place said (request.Make name) part lists seen later why (Some (reply.Refused why)) half.Whole (naming_refuses around run place said name number.0 old.map overtaken why refl stood come.come.map_is)
          (stays_left _ _ _ _ _ _ _ _ _ come (removed_stays pins number.0 old new before after began then r d) (removed_shows pins number.0 old new before after began then lists r shows)) ran runs (leads_of pins old new before after began then lists d) d.unfailed step refl (in_turn name said part none)
          (λ event. naming_checked run name old lists overtaken shows.1 ∙ refuses) (why_replied name said why none step)).so,
      λ e. absurd (never_more _ e),
    )

pub above_not : (a b : ℕ) → b < a → nat_le a b ≡ false
above_not a b l = grind (arith, common_steps, l)

overtaken_is : (a b : ℕ) → a ≤ b → nat_le a b ≡ true
overtaken_is a b l = grind (arith, common_steps, l)

-- out of memory
pub naming_unremembered : {D : Type 0} → (name : List ℕ) (number : BoxNo) (next : MakeStage) (old new : StoreValue D) (before after : Option History) (began then : Faults) → old.stopped ≡ false → CanBeNamed name number.0 old → RemovesLog number.0 old new before after → HasChangedDisk same_lists before after began then
    → MakeClause name (stage.Naming number) next old new before after began then did.Quiet (Some (reply.Refused refusal.NoMemory))
naming_unremembered name number next old new before after began then ran can r d = λ around behind pins run lane place said lists come shows stood.
    let seen = seen_of pins old before began in
    let later = seen_of pins new after then in
    let above = above_not number.0 old.map.highest.mailbox can.above in
    let runs = removed_runs number.0 old new before after r ran in (
      (did_forget around behind run lane place said (request.Make name) Last lists seen later (Some (reply.Refused refusal.NoMemory)) no_numbers (naming_refuses around run place said name number.0 old.map false refusal.NoMemory above stood come.come.map_is)
          (stays_left _ _ _ _ _ _ _ _ _ come (removed_stays pins number.0 old new before after began then r d) (removed_shows pins number.0 old new before after began then lists r shows)) ran runs (leads_of pins old new before after began then lists d) d.unfailed refl (λ event. inl refl)
          (replied_so (request.Make name) said (reply.Refused refusal.NoMemory) stood.0.unanswered)).so,
      λ e. absurd (never_more _ e),
    )

-- a change of the disk failed as it was removed
pub stopped_stays : {D : Type 0} → (pins : ℕ → ℕ) → (old new : StoreValue D) (before after : Option History) (began then : Faults) (left : Lists → Lists) → IsStoppedSo old new → ChangesDisk left before after began then → StaysSo (seen_of pins old before began) (seen_of pins new after then)
stopped_stays pins old new before after began then left same c =
    stays_of pins old new before after began then left (λ runs. absurd (fall new.stopped (ap (λ (s : StoreValue _). s.stopped) same) runs)) (ap (λ (s : StoreValue _). s.map) same) (ap (λ (s : StoreValue _). s.drawn) same) (ap (λ (s : StoreValue _). s.files) same) (ap (λ (s : StoreValue _). s.instances) same)
    (ap (λ (s : StoreValue _). s.dues) same) c

pub stopped_shows : {D : Type 0} → (pins : ℕ → ℕ) → (old new : StoreValue D) (before after : Option History) (began then : Faults) (lists : Lists) → IsStoppedSo old new → ShowsSeen (seen_of pins old before began) lists → ShowsSeen (seen_of pins new after then) lists
stopped_shows pins old new before after began then lists same shows = shows_of pins old new before after began then lists (ap (λ (s : StoreValue _). s.map) same) (ap (λ (s : StoreValue _). s.boxes) same) shows

pub removing_fell : {D : Type 0} → (name : List ℕ) (number : BoxNo) (next : MakeStage) (old new : StoreValue D) (before after : Option History) (began then : Faults) → old.stopped ≡ false → IsStoppedSo old new → FellChanging same_lists before after began then
    → MakeClause name (stage.Naming number) next old new before after began then did.Failed (Some (reply.Refused refusal.Stopped))
removing_fell name number next old new before after began then ran same f = λ around behind pins run lane place said lists come shows stood.
    let seen = seen_of pins old before began in
    let later = seen_of pins new after then in
    let overtaken = nat_le number.0 old.map.highest.mailbox in
    let stops : new.stopped ≡ true = ap (λ (s : StoreValue _). s.stopped) same in (
      (did_fall around behind run lane place said (request.Make name) (naming_part overtaken) lists seen later did.Failed no_numbers (naming_refuses around run place said name number.0 old.map overtaken refusal.Stopped refl stood come.come.map_is)
          (stays_left _ _ _ _ _ _ _ _ _ come (stopped_stays pins old new before after began then same_lists same f.change) (stopped_shows pins old new before after began then lists same shows)) ran stops f.rose (λ event. inl refl) tt (record { refused = refl; unanswered = refl; ran = ran; stopped = stops }, λ s. f.change.moments lists s.0)).so,
      λ e. absurd (never_more _ e),
    )

-- the number was overtaken
abbrev pub starting_over : ℕ → ℕ → ℕ → RunEvent
starting_over lane place calls = event_of lane place StartsOver calls

pub naming_overtaken : {D : Type 0} → (name : List ℕ) (number : BoxNo) (old new : StoreValue D) (before after : Option History) (began then : Faults) → old.stopped ≡ false → naming_refusal name old ≡ None → number.0 ≤ old.map.highest.mailbox → RemovesLog number.0 old new before after → HasChangedDisk same_lists before after began then
    → MakeClause name (stage.Naming number) stage.First old new before after began then did.Quiet None
naming_overtaken name number old new before after began then ran free behind_it r d = λ around behind pins run lane place said lists come shows stood.
    let seen = seen_of pins old before began in
    let later = seen_of pins new after then in
    let runs = removed_runs number.0 old new before after r ran in
    let stays = removed_stays pins number.0 old new before after began then r d in
    let event : RunEvent = starting_over lane place (told_calls after) in
    stands_by around behind run lane place said (request.Make name) lists seen later did.Quiet None event None (IsAtMake stage.First)
    (did_own around behind run lane place said (request.Make name) lists lists seen later did.Quiet None None event
    (record {
      own = own_event event refl;
      finds = tt;
      found = tt;
      part_is = naming_next around run name place said number.0 old.map stood come.come.map_is ∙ ap (λ (b : Bool). Some (naming_part b)) (overtaken_is number.0 old.map.highest.mailbox behind_it);
      allowed = naming_checked run name old lists true shows.1 ∙ free;
      fits = All-nil _;
      did = refl;
      ends = record { 0 = λ h. absurd (h refl); 1 = λ h. absurd (some_part First (over_is (is_overtaken (and_then run event) place) h)) };
      replied = tt;
    }) (record { made = refl; pins = refl; unpins = refl; doomed = refl; removed = refl; given = refl; placed = refl; gone = refl }) come (comes_along run event seen later come stays.map stays.drawn stays.grows refl refl refl) (λ uid. let e = stays.due uid in omega (arith, e)) stays.tells (removed_shows pins number.0 old new before after began then lists r shows) stays.grows stays.mail refl refl
    (refl, runs ∙ sym ran, leads_of pins old new before after began then lists d)
    (ends_well (request.Make name) said event None None did.Quiet seen later refl ran runs d.unfailed (λ x. x) (λ e. no_reply (reply.Refused refusal.Stopped) e) (λ some. absurd (let k : false ≡ true = some in cc k)) (λ given e. absurd (no_reply given e))))
    (λ goes_on. starts_over_then run event place said number.0 stood refl refl refl)
  where
    over_is : (b : Bool) → behind_make b StartsOver ≡ None → Some First ≡ None
    over_is b h = h
