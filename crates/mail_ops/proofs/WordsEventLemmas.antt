-- A setting of keywords as an event, which appends one entry.
use Rattle.mail_ops.proofs.Common.{All-nil, ◌≡◌, ◌⊎◌, ◌≤◌, ℕ, true, false, List, [], Option, Some, None, refl, sym, subst, arith, inl, option_map, find, bytes_eq, History, told_calls, Grows, Uid, Refusal, Reply, Lists, AreWellFormed, LogRow}
use Rattle.mail_ops.proofs.Common.{BoxMeaning, row_at, MapBox, MapMeaning, no_numbers, lists_by, meanings_by, ShowLists, meaning_named, IsSettledFor, Leaves, First, BoxAppend, RunEvent, event_of, Run, own_events, PartAnswers, answers_well, Around, Brings}
use Rattle.mail_ops.proofs.Common.{NoFault, MailIsKept, Seen, ShowsSeen, HasComeTo, HasNotBegun, TellsSame, did_fall, did_own, ends_well, own_event, some_reply, stays_left, comes_along, first_reply, IsPlain, refusal_last}
use Rattle.mdbox_base.specs.declared.entries.BoxEntry.TheVariants as entry
use Rattle.mdbox_base.specs.declared.progress.Did.TheVariants as did
use Rattle.mdbox_base.specs.declared.replies.Refusal.TheVariants as refusal
use Rattle.mdbox_base.specs.declared.replies.Reply.TheVariants as reply
use Rattle.mdbox_base.specs.declared.requests.Request.TheVariants as request
use Rattle.mdbox_base.specs.declared.script.Half.TheVariants as half
use Rattle.mdbox_base.specs.Keywords.{AreWords}
use Rattle.mdbox_base.specs.Streams.{Rose}
use Rattle.list_machine.specs.Machine.{set_words}
use Rattle.journal.specs.Events.{adds_to}
use Rattle.store_core.specs.Value.{StoreValue}
use Rattle.mail_ops.specs.Wording.{WordsAnswers}
use Rattle.task_steps.specs.Step.{DidEvent}
use Rattle.task_steps.proofs.OneEventLemmas.{first_turn, next_first, plain_refuses}
use Rattle.mail_ops.proofs.FlagEventLemmas.{done_runs, shown_on, some_mailbox}
use Rattle.mail_ops.proofs.WordsListLemmas.{is_worded}
use Rattle.mail_ops.proofs.ShownEntryLemmas.{shown_entry}

pub words_are_plain : (name : List ℕ) (uid : Uid) (words : List (List ℕ)) → IsPlain (request.Keywords name uid words)
words_are_plain name uid words = record { found = λ around run event. tt; finds = λ around event. tt; memory = refl; behind = λ why. refl; half_is = refl; halves_are = refl }

-- ---- what is known as the entry is appended

pub record GivesWords (boxes : List MapBox) (meanings : List BoxMeaning) (lists : Lists) (name : List ℕ) (number : ℕ) (uid : Uid) (words texts : List (List ℕ)) (run : Run) : Type 0 where
  pub by : lists_by number [] (entry.K uid texts) lists ≡ set_words name uid.0 words lists
  pub answers : (event : RunEvent) → PartAnswers run event lists (request.Keywords name uid words) First reply.Done (set_words name uid.0 words lists)
  pub well : AreWellFormed (set_words name uid.0 words lists)
  pub shown : ShowLists boxes (meanings_by number (entry.K uid texts) boxes meanings) (set_words name uid.0 words lists)

pub words_known : (run : Run) (boxes : List MapBox) (meanings : List BoxMeaning) (lists : Lists) (name : List ℕ) (number : ℕ) (uid : Uid) (words texts : List (List ℕ)) (m : BoxMeaning) (row : LogRow) → AreWellFormed lists → ShowLists boxes meanings lists
    → meaning_named name boxes meanings ≡ Some m → row_at m uid.0 ≡ Some row → option_map (λ b. b.number) (find (λ b. bytes_eq b.name name) boxes) ≡ Some number → texts ≡ words → AreWords words → GivesWords boxes meanings lists name number uid words texts run
words_known run boxes meanings lists name number uid words texts m row well h is found at same few =
    let r = λ (event : RunEvent). is_worded run event boxes meanings lists name number uid words m row well h is found at in
    let one = event_of 0 0 First 0 in
    let by : lists_by number [] (entry.K uid texts) lists ≡ set_words name uid.0 words lists = subst (λ (n : List (List ℕ)). lists_by number [] (entry.K uid n) lists ≡ set_words name uid.0 words lists) (sym same) (r one).0 in
    record {
      by = by;
      answers = λ event. (r event).1;
      well = answers_well run lists (request.Keywords name uid words) one reply.Done (set_words name uid.0 words lists) well few (r one).1;
      shown = subst (λ (ls : Lists). ShowLists boxes (meanings_by number (entry.K uid texts) boxes meanings) ls) by (shown_entry number [] (entry.K uid texts) boxes meanings lists refl h);
    }

-- keywords add no message, so they bring any octets
pub words_bring_none : (m : MapMeaning) (uid : Uid) (texts : List (List ℕ)) (octets : List ℕ) (h : Option History) → Brings m (entry.K uid texts) octets h
words_bring_none m uid texts octets None = tt
words_bring_none m uid texts octets (Some h) = tt

-- what the append says of a store before and after
pub record AppendsWords (old new : Seen) (number : ℕ) (uid : Uid) (texts : List (List ℕ)) : Type 0 where
  pub map_is : new.map ≡ old.map
  pub drawn_is : new.drawn ≡ old.drawn
  pub due_is : (uid : ℕ) → new.due uid ≡ old.due uid
  pub same : TellsSame old new
  pub ran : old.stopped ≡ false
  pub grows : Grows old.history new.history
  pub moments : (ls : Lists) → IsSettledFor ls old.history → Leaves ls (lists_by number [] (entry.K uid texts) ls) old.history new.history
  pub reads : old.faults.reads ≤ new.faults.reads
  pub changes : old.faults.changes ≤ new.faults.changes
  pub mail : MailIsKept old.map old.history new.history
  pub unfailed : new.stopped ≡ false → NoFault old.faults new.faults

-- ---- the event

abbrev pub words_event : ℕ → ℕ → List BoxAppend → ℕ → RunEvent
words_event lane place entries calls = record (event_of lane place First calls) { reply = Some reply.Done; box_entries = entries }

-- The keywords are set: a step that ends its request.
pub words_done : (around after : Around) (run : Run) (lane place : ℕ) (said : List Reply) (lists : Lists) (name : List ℕ) (number : ℕ) (uid : Uid) (words texts : List (List ℕ)) (old new : Seen) → HasComeTo run old → HasNotBegun run place said
    → GivesWords old.map.boxes old.meanings lists name number uid words texts run → AppendsWords old new number uid texts → new.stopped ≡ false → new.meanings ≡ meanings_by number (entry.K uid texts) old.map.boxes old.meanings
    → ((ls : Lists) → IsSettledFor ls old.history → IsSettledFor (lists_by number [] (entry.K uid texts) ls) new.history)
    → DidEvent around after run lane place said (request.Keywords name uid words) lists old new (did.Step half.Whole) (Some reply.Done)
words_done around after run lane place said lists name number uid words texts old new come stage f a runs taken settled =
    let q = request.Keywords name uid words in
    let found = some_mailbox run name lists _ (f.answers (words_event lane place [] (told_calls new.history))).0 in
    let event : RunEvent = words_event lane place (adds_to found.0 (entry.K uid words)) (told_calls new.history) in
    (did_own around after run lane place said q lists (set_words name uid.0 words lists) old new (did.Step half.Whole) (Some reply.Done) (Some reply.Done) event
    (record {
      own = own_event event refl;
      finds = tt;
      found = tt;
      part_is = next_first around run q (own_events place run) stage.0;
      allowed = (f.answers event).0;
      did = (found.0, found.1, refl);
      fits = All-nil _;
      ends = record { 0 = λ e. refl; 1 = λ e k. some_reply reply.Done k };
      replied = refusal_last (own_events place run) event stage.0;
    }) (record { made = refl; pins = refl; unpins = refl; doomed = refl; removed = refl; given = refl; placed = refl; gone = refl }) come (comes_along run event old new come a.map_is a.drawn_is a.grows refl refl refl) (λ other. let d = a.due_is other in omega (arith, d)) a.same
    (f.well, shown_on old new (meanings_by number (entry.K uid texts) old.map.boxes old.meanings) (set_words name uid.0 words lists) a.map_is taken f.shown) a.grows a.mail refl (f.answers event, refl) (
      refl,
      refl,
      runs,
      record {
        stops = λ s. subst (λ (ls : Lists). Leaves lists ls old.history new.history) f.by (a.moments lists s.0);
        settled = λ s. subst (λ (ls : Lists). IsSettledFor ls new.history) f.by (settled lists s.0);
      },
    )
    (ends_well q said event (Some reply.Done) (Some reply.Done) (did.Step half.Whole) old new refl a.ran runs (a.unfailed runs) (λ x. x) done_runs (λ some. first_turn q said (words_are_plain name uid words) stage.1) (first_reply q said (Some reply.Done) reply.Done stage.1 refl))).so

-- The append failed: it would have made that step.
pub words_broken : (around after : Around) (run : Run) (lane place : ℕ) (said : List Reply) (lists : Lists) (name : List ℕ) (number : ℕ) (uid : Uid) (words texts : List (List ℕ)) (old new : Seen) → HasComeTo run old → ShowsSeen old lists → HasNotBegun run place said
    → GivesWords old.map.boxes old.meanings lists name number uid words texts run → AppendsWords old new number uid texts → new.stopped ≡ true → new.meanings ≡ old.meanings → Rose old.faults.changes new.faults.changes
    → DidEvent around after run lane place said (request.Keywords name uid words) lists old new (did.Broken half.Whole) (Some (reply.Refused refusal.Stopped))
words_broken around after run lane place said lists name number uid words texts old new come shows stage f a stopped untaken rose =
    let q = request.Keywords name uid words in
    let found = some_mailbox run name lists _ (f.answers (words_event lane place [] (told_calls new.history))).0 in
    let would : RunEvent = words_event lane place (adds_to found.0 (entry.K uid words)) (told_calls new.history) in
    (did_fall around after run lane place said q First lists old new (did.Broken half.Whole) no_numbers (plain_refuses around run place q refusal.Stopped (words_are_plain name uid words) stage.0)
    (stays_left _ _ _ _ _ _ _ _ _ come (record { map = a.map_is; drawn = a.drawn_is; due = a.due_is; tells = a.same; grows = a.grows; mail = a.mail; reads = a.reads; changes = a.changes }) (shows.0, shown_on old new old.meanings lists a.map_is untaken shows.1)) a.ran stopped rose (λ event. inl refl) tt (
      record { refused = refl; unanswered = refl; ran = a.ran; stopped = stopped },
      refl,
      (
        record { would = would; lane_is = refl; request_is = refl; part_is = refl; did = λ around e. (found.0, found.1, refl); answer = reply.Done; left = set_words name uid.0 words lists; made = (f.answers would, refl) },
        λ s. subst (λ (ls : Lists). Leaves lists ls old.history new.history) f.by (a.moments lists s.0),
      ),
    )).so

-- ---- what is replied

pub words_answer : {D : Type 0} → (cause : Option Refusal) (old new : StoreValue D) (given : Reply) → ((why : Refusal) → cause ≡ Some why → (given ≡ reply.Refused why) × (new ≡ old))
    → (cause ≡ None → (given ≡ reply.Done) ⊎ (((given ≡ reply.Refused refusal.NoMemory) × (new ≡ old)) ⊎ ((given ≡ reply.Refused refusal.Stopped) × (new.stopped ≡ true)))) → WordsAnswers cause old new given
words_answer (Some why) old new given refused done = refused why refl
words_answer None old new given refused done = done refl
