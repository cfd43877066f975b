-- The events of a fetch, which read the disk at most.
use Rattle.mail_fetch.proofs.Common.{◌≡◌, ℕ, Bool, true, false, List, [], ◌∷◌, ◌++◌, Option, Some, None, refl, sym, ◌∙◌, ap, subst, arith, inl, inr, if◌then◌else◌, All-nil, History, Faults, DiskState, IsIdle, told_calls, Grows, NoFault, InstRow, Uid, Reply, Lists, MapRecord, MapMeaning}
use Rattle.mail_fetch.proofs.Common.{IsSettledFor, Leaves, EventPart, First, ReadsPiece, Unpins, RunEvent, Run, and_then, is_one_of, own_events, PartAnswers, IsReplyOf, Around, next_part, behind_event, piece_left, pieces_to_read, KnownInstance, Seen, HasComeTo, pins_of, unstepped}
use Rattle.std.specs.Prelude.{◌≢◌, ◌↔◌, ◌⊎◌}
use Rattle.disk_model.proofs.IdleLemmas.{idle-images}
use Rattle.mdbox_base.specs.declared.progress.Did.TheVariants as did
use Rattle.mdbox_base.specs.declared.replies.Refusal.TheVariants as refusal
use Rattle.mdbox_base.specs.declared.replies.Reply.TheVariants as reply
use Rattle.mdbox_base.specs.declared.requests.Request.TheVariants as request
use Rattle.mdbox_base.specs.declared.script.Half.TheVariants as half
use Rattle.model_kept.proofs.KeptLemmas.{kept_idle}
use Rattle.model_store.specs.Safe.{Safe}
use Rattle.model_store.specs.Settled.{IsSettled}
use Rattle.model_store.proofs.SettledLemmas.{settled_safe}
use Rattle.list_machine.specs.Run.{event_of}
use Rattle.list_machine.specs.Machine.{first_refusal, part_checks}
use Rattle.journal.specs.Events.{DidPart, IsRecord, plain, IsRepliedBy, is_step_part, begun_in, ended_in}
use Rattle.journal.specs.Makes.{HasCome}
use Rattle.task_steps.specs.Step.{ShowsSeen, Leads, HasNotBegun}
use Rattle.task_steps.proofs.SeenLemmas.{no_guids, due_more, doomed_still, used_still, given_still, gone_still, file_still_known, placed_still, there_before}
use Rattle.task_steps.proofs.EventLaws.{did_part, DidBy, ends_well, Lasts, no_reply, own_event}
use Rattle.task_steps.proofs.KeptStoreLemmas.{comes_along}
use Rattle.task_steps.proofs.OneEventLemmas.{first_turn, IsPlain, next_first}

-- ---- a store behind an event that reads

-- the same store, with another past, other counts of faults, other pins, and others that hold what it knows
abbrev pub behind_reading : Seen → Option History → Faults → (ℕ → ℕ) → List KnownInstance → Seen
behind_reading old history faults pins known = record old { history = history; faults = faults; pins = pins; known = known }

pub idle_grows : (old new : Option History) → IsIdle old new → Grows old new
idle_grows None new idle = grows_none new
  where
    grows_none : (h : Option History) → Grows None h
    grows_none h = omega arith
idle_grows (Some old) None idle = absurd idle.same
idle_grows (Some old) (Some new) idle = idle.each.later

pub idle_leads : (lists : Lists) (old : Seen) (history : Option History) (faults : Faults) (pins : ℕ → ℕ) (known : List KnownInstance) → IsIdle old.history history → Leads lists lists old (behind_reading old history faults pins known)
idle_leads lists old history faults pins known idle = record {
  stops = λ settled. leaves old.history history settled.0 idle;
  settled = λ settled. stays old.history history settled.0 idle;
}
  where
    leaves : (a b : Option History) → IsSettledFor lists a → IsIdle a b → Leaves lists lists a b
    leaves None b settled i = absurd settled
    leaves (Some a) b settled i = idle-images (λ image. Safe image lists ⊎ Safe image lists) (Some a) b i (λ image is. inl (settled_safe a.now lists image settled is))

    stays : (a b : Option History) → IsSettledFor lists a → IsIdle a b → IsSettledFor lists b
    stays None b settled i = absurd settled
    stays (Some a) None settled i = absurd i.same
    stays (Some a) (Some b) settled i = subst (λ (d : DiskState). IsSettled d lists) (sym i.same) settled

pub idle_lasts : (m : MapMeaning) (old new : Option History) → IsIdle old new → Lasts m old new
idle_lasts m old new idle = record { grows = idle_grows old new idle; mail = kept_idle m old new idle }

-- A run comes on with an event that may pin or unpin, and does nothing else.
pub comes_with_pins : (run : Run) (event : RunEvent) (old : Seen) (history : Option History) (faults : Faults) (pins : ℕ → ℕ) (known : List KnownInstance) → HasComeTo run old → HasCome (and_then run event) old.map old.drawn (told_calls history)
    → ((uid : ℕ) → begun_in uid event ≡ ended_in uid event) → event.made ≡ [] → event.doomed ≡ [] → event.removed ≡ [] → event.given ≡ [] → event.placed ≡ [] → event.gone ≡ [] → (old.stopped ≡ false → (file : ℕ) → pins_of (and_then run event) file ≡ pins file)
    → HasComeTo (and_then run event) (behind_reading old history faults pins known)
comes_with_pins run event old history faults pins known h come due made doomed removed given placed gone pinned = record {
  come = come;
  keeps = λ runs.
      let k = h.keeps runs in
      record {
        due = λ uid. due_more run event uid (old.due uid) (old.due uid) (k.due uid) (let d = due uid in omega (arith, d));
        pins = pinned runs;
        doomed = λ file. doomed_still run event file doomed removed ∙ k.doomed file;
        instances = λ instance. placed_still run event instance placed gone ∙ k.instances instance;
        files = λ file unsealed known. by_maker file (there_before run event old file k removed unsealed known);
      };
  used = λ file e. h.used file (sym (used_still run event file doomed removed) ∙ e);
  barred = h.barred;
  gave = λ guid e. h.gave guid (sym (given_still run event guid given) ∙ e);
  gone = λ instance e. h.gone instance (sym (gone_still run event instance gone) ∙ e);
  files = λ file e. file_still_known run event file removed (h.files file e);
}
  where
    by_maker : (file : ℕ) → (old.files file ≡ true) ⊎ (is_one_of event.made file ≡ true) → old.files file ≡ true
    by_maker file (inl there) = there
    by_maker file (inr is) = absurd (let k : false ≡ true = ap (λ (files : List ℕ). is_one_of files file) (sym made) ∙ is in cc k)

-- ---- the first event

pub fetch_is_plain : (name : List ℕ) (uid : Uid) → IsPlain (request.Fetch name uid)
fetch_is_plain name uid = record { found = λ around run event. tt; finds = λ around event. tt; memory = refl; behind = λ why. refl; half_is = refl; halves_are = refl }

pub never_none : (b : Bool) → (if b then Some ReadsPiece else Some Unpins) ≡ None → ⊥
never_none true e = cc e
never_none false e = cc e

abbrev pub pin_event : ℕ → ℕ → ℕ → ℕ → List InstRow → ℕ → RunEvent
pin_event lane place file pieces instances calls = record (event_of lane place First calls) { pins = record { file = file; pieces = pieces; instances = instances } ∷ [] }

-- The first event pins the file of the record: a step that answers the octets of the message.
pub did_pin : (around after : Around) (run : Run) (lane place : ℕ) (said : List Reply) (name : List ℕ) (uid : Uid) (lists : Lists) (old : Seen) (history : Option History) (faults : Faults) (pins : ℕ → ℕ) (known : List KnownInstance) (entry : MapRecord) (octets : List ℕ) → HasComeTo run old → ShowsSeen old lists → HasNotBegun run place said
    → old.stopped ≡ false → IsIdle old.history history → NoFault old.faults faults → IsRecord run lists name uid.0 entry → ((event : RunEvent) → PartAnswers run event lists (request.Fetch name uid) First (reply.Fetched octets) lists)
    → (old.stopped ≡ false → (file : ℕ) → pins_of (and_then run (pin_event lane place entry.file (pieces_to_read entry) entry.instances (told_calls history))) file ≡ pins file)
    → DidBy around after run lane place said (request.Fetch name uid) lists old (behind_reading old history faults pins known) (did.Step half.Whole) None (pin_event lane place entry.file (pieces_to_read entry) entry.instances (told_calls history)) (Some (reply.Fetched octets))
did_pin around after run lane place said name uid lists old history faults pins known entry octets come shows stage runs idle quiet is_record answers pinned =
    let q = request.Fetch name uid in
    let event : RunEvent = pin_event lane place entry.file (pieces_to_read entry) entry.instances (told_calls history) in
    let new : Seen = behind_reading old history faults pins known in
    did_part around after run lane place said q lists lists old new (did.Step half.Whole) None (Some (reply.Fetched octets)) event
    (record {
      own = own_event event refl;
      finds = tt;
      found = tt;
      part_is = next_first around run q (own_events place run) stage.0;
      allowed = (answers event).0;
      did = (entry, is_record, refl);
      fits = All-nil _;
      ends = record { 0 = λ h. absurd (h refl); 1 = λ e h. never_none (piece_left place (and_then run event)) e };
      replied = tt;
    }) (comes_with_pins run event old history faults pins known come (comes_along run event old new come refl refl (idle_grows old.history history idle) refl refl refl) (λ other. refl) refl refl refl refl refl refl pinned) (no_guids run event refl) shows
    (idle_lasts old.map old.history history idle) refl (answers event, refl) (refl, refl, runs, idle_leads lists old history faults pins known idle)
    (ends_well q said event (Some (reply.Fetched octets)) None (did.Step half.Whole) old new refl runs runs quiet (λ x. x) (λ e. no_reply (reply.Refused refusal.Stopped) e) (λ some. first_turn q said (fetch_is_plain name uid) stage.1) (λ given e. absurd (no_reply given e)))

-- ---- the events behind it

abbrev pub fetch_event : EventPart → ℕ → ℕ → Option Reply → ℕ → RunEvent
fetch_event part lane place ended calls = record (event_of lane place part calls) { reply = ended }

-- a part behind the first one that changes nothing of lists, entries, files and instances
pub record IsLatePart (name : List ℕ) (uid : Uid) (part : EventPart) : Type 0 where
  pub checks : (run : Run) (event : RunEvent) → part_checks run event (request.Fetch name uid) part ≡ []
  pub unstep : is_step_part (request.Fetch name uid) part ≡ false
  pub did : (around : Around) (run : Run) (lists : Lists) (event : RunEvent) → event ≡ plain event → DidPart around run lists (request.Fetch name uid) event part

pub piece_is_late : (name : List ℕ) (uid : Uid) → IsLatePart name uid ReadsPiece
piece_is_late name uid = record { checks = λ run event. refl; unstep = refl; did = λ around run lists event e. e }

pub unpin_is_late : (name : List ℕ) (uid : Uid) → IsLatePart name uid Unpins
unpin_is_late name uid = record { checks = λ run event. refl; unstep = refl; did = λ around run lists event e. e }

-- An event behind the first one that does its part: no step.
pub did_late : (around after : Around) (run : Run) (lane place : ℕ) (said : List Reply) (name : List ℕ) (uid : Uid) (lists : Lists) (old : Seen) (history : Option History) (faults : Faults) (pins : ℕ → ℕ) (known : List KnownInstance) (part : EventPart) (ended : Option Reply) → IsLatePart name uid part
    → HasComeTo run old → ShowsSeen old lists → old.stopped ≡ false → IsIdle old.history history → NoFault old.faults faults → next_part around run (request.Fetch name uid) (own_events place run) ≡ Some part
    → ((ended ≢ None) ↔ (behind_event after (and_then run (fetch_event part lane place ended (told_calls history))) (request.Fetch name uid) (fetch_event part lane place ended (told_calls history)) None ≡ None))
    → IsRepliedBy (own_events place run ++ fetch_event part lane place ended (told_calls history) ∷ []) ended → ((given : Reply) → ended ≡ Some given → IsReplyOf (request.Fetch name uid) said given) → (ended ≡ Some (reply.Refused refusal.Stopped) → ⊥)
    → (old.stopped ≡ false → (file : ℕ) → pins_of (and_then run (fetch_event part lane place ended (told_calls history))) file ≡ pins file)
    → DidBy around after run lane place said (request.Fetch name uid) lists old (behind_reading old history faults pins known) did.Quiet ended (fetch_event part lane place ended (told_calls history)) None
did_late around after run lane place said name uid lists old history faults pins known part ended late come shows runs idle quiet next ends replied given other pinned =
    let q = request.Fetch name uid in
    let event : RunEvent = fetch_event part lane place ended (told_calls history) in
    let new : Seen = behind_reading old history faults pins known in
    did_part around after run lane place said q lists lists old new did.Quiet ended None event
    (record {
      own = own_event event refl;
      finds = tt;
      found = tt;
      part_is = next;
      allowed = ap (first_refusal run lists) (late.checks run event);
      did = late.did around run lists event refl;
      fits = All-nil _;
      ends = ends;
      replied = replied;
    }) (comes_with_pins run event old history faults pins known come (comes_along run event old new come refl refl (idle_grows old.history history idle) refl refl refl) (λ uid. refl) refl refl refl refl refl refl pinned) (no_guids run event refl) shows
    (idle_lasts old.map old.history history idle) (sym late.unstep) refl (refl, refl, idle_leads lists old history faults pins known idle)
    (ends_well q said event None ended did.Quiet old new refl runs runs quiet (λ x. x) other (λ some. absurd (unstepped some)) given)
