-- A flag as an event, which appends one entry.
use Rattle.mail_ops.proofs.Common.{All-nil, ◌≡◌, ◌≤◌, ◌<◌, ℕ, true, false, List, [], Option, Some, None, refl, sym, ap, subst, arith, inl, option_copied, option_map, option_or, find, is_some, bytes_eq, History, told_calls, Grows, Uid, Refusal, Reply, Mailbox, Lists, AreWellFormed, LogRow}
use Rattle.mail_ops.proofs.Common.{BoxMeaning, row_at, MapBox, MapMeaning, no_numbers, lists_by, meanings_by, ShowLists, meaning_named, IsSettledFor, Leaves, First, BoxAppend, RunEvent, event_of, Run, own_events, PartAnswers, mailbox_named, refused_where, HasMailbox, answers_well, Around, Brings}
use Rattle.mail_ops.proofs.Common.{NoFault, MailIsKept, Seen, ShowsSeen, HasComeTo, HasNotBegun, TellsSame, did_fall, did_own, ends_well, own_event, some_reply, stays_left, comes_along, first_reply, IsPlain, refusal_last}
use Rattle.std.specs.Prelude.{is_none}
use denote.Ref.{Bor}
use Rattle.mdbox_base.specs.declared.entries.BoxEntry.TheVariants as entry
use Rattle.mdbox_base.specs.declared.progress.Did.TheVariants as did
use Rattle.mdbox_base.specs.declared.replies.Refusal.TheVariants as refusal
use Rattle.mdbox_base.specs.declared.replies.Reply.TheVariants as reply
use Rattle.mdbox_base.specs.declared.requests.Request.TheVariants as request
use Rattle.mdbox_base.specs.declared.script.Half.TheVariants as half
use Rattle.mdbox_base.specs.Streams.{Rose}
use Rattle.list_machine.specs.Machine.{set_flags, refusal_at}
use Rattle.journal.specs.Events.{adds_to}
use Rattle.task_steps.specs.Step.{DidEvent}
use Rattle.task_steps.proofs.OneEventLemmas.{first_turn, next_first, plain_refuses}
use Rattle.mail_ops.proofs.FlagListLemmas.{is_flagged}
use Rattle.mail_ops.proofs.ShownEntryLemmas.{shown_entry}

pub flag_is_plain : (name : List ℕ) (uid : Uid) (flags : ℕ) → IsPlain (request.Flag name uid flags)
flag_is_plain name uid flags = record { found = λ around run event. tt; finds = λ around event. tt; memory = refl; behind = λ why. refl; half_is = refl; halves_are = refl }

-- ---- what is known as the entry is appended

pub record Flags (boxes : List MapBox) (meanings : List BoxMeaning) (lists : Lists) (name : List ℕ) (number : ℕ) (uid : Uid) (flags bits : ℕ) (run : Run) : Type 0 where
  pub by : lists_by number [] (entry.F uid bits) lists ≡ set_flags name uid.0 flags lists
  pub answers : (event : RunEvent) → PartAnswers run event lists (request.Flag name uid flags) First reply.Done (set_flags name uid.0 flags lists)
  pub well : AreWellFormed (set_flags name uid.0 flags lists)
  pub shown : ShowLists boxes (meanings_by number (entry.F uid bits) boxes meanings) (set_flags name uid.0 flags lists)

pub flags_known : (run : Run) (boxes : List MapBox) (meanings : List BoxMeaning) (lists : Lists) (name : List ℕ) (number : ℕ) (uid : Uid) (flags bits : ℕ) (m : BoxMeaning) (row : LogRow) → AreWellFormed lists → ShowLists boxes meanings lists
    → meaning_named name boxes meanings ≡ Some m → row_at m uid.0 ≡ Some row → option_map (λ b. b.number) (find (λ b. bytes_eq b.name name) boxes) ≡ Some number → bits ≡ flags → bits < 32 → Flags boxes meanings lists name number uid flags bits run
flags_known run boxes meanings lists name number uid flags bits m row well h is found at same few =
    let r = λ (event : RunEvent). is_flagged run event boxes meanings lists name number uid flags m row well h is found at in
    let one = event_of 0 0 First 0 in
    let by : lists_by number [] (entry.F uid bits) lists ≡ set_flags name uid.0 flags lists = subst (λ (n : ℕ). lists_by number [] (entry.F uid n) lists ≡ set_flags name uid.0 flags lists) (sym same) (r one).0 in
    record {
      by = by;
      answers = λ event. (r event).1;
      well = answers_well run lists (request.Flag name uid flags) one reply.Done (set_flags name uid.0 flags lists) well (omega (arith, few, same)) (r one).1;
      shown = subst (λ (ls : Lists). ShowLists boxes (meanings_by number (entry.F uid bits) boxes meanings) ls) by (shown_entry number [] (entry.F uid bits) boxes meanings lists refl h);
    }

-- a flag adds no message, so it brings any octets
pub brings_none : (m : MapMeaning) (uid : Uid) (bits : ℕ) (octets : List ℕ) (h : Option History) → Brings m (entry.F uid bits) octets h
brings_none m uid bits octets None = tt
brings_none m uid bits octets (Some h) = tt

-- what the append says of a store before and after
pub record AppendsFlag (old new : Seen) (number : ℕ) (uid : Uid) (bits : ℕ) : Type 0 where
  pub map_is : new.map ≡ old.map
  pub drawn_is : new.drawn ≡ old.drawn
  pub due_is : (uid : ℕ) → new.due uid ≡ old.due uid
  pub same : TellsSame old new
  pub ran : old.stopped ≡ false
  pub grows : Grows old.history new.history
  pub moments : (ls : Lists) → IsSettledFor ls old.history → Leaves ls (lists_by number [] (entry.F uid bits) ls) old.history new.history
  pub reads : old.faults.reads ≤ new.faults.reads
  pub changes : old.faults.changes ≤ new.faults.changes
  pub mail : MailIsKept old.map old.history new.history
  pub unfailed : new.stopped ≡ false → NoFault old.faults new.faults

-- ---- the event

abbrev pub flag_event : ℕ → ℕ → List BoxAppend → ℕ → RunEvent
flag_event lane place entries calls = record (event_of lane place First calls) { reply = Some reply.Done; box_entries = entries }

pub some_mailbox : (run : Run) (name : List ℕ) (lists : Lists) (rest : Option Refusal) → option_or (refusal_at run lists (HasMailbox name)) rest ≡ None → (mailbox : Mailbox) × (mailbox_named name lists ≡ Some mailbox)
some_mailbox run name lists rest e = by_option (mailbox_named name lists) refl e
  where
    by_option : (o : Option Mailbox) → mailbox_named name lists ≡ o → option_or (refused_where (is_none o) refusal.NoMailbox) rest ≡ None → (mailbox : Mailbox) × (mailbox_named name lists ≡ Some mailbox)
    by_option None h f = absurd (let k : Some refusal.NoMailbox ≡ None = f in cc k)
    by_option (Some mailbox) h f = (mailbox, h)

pub done_runs : Some reply.Done ≡ Some (reply.Refused refusal.Stopped) → ⊥
done_runs e = let k : reply.Done ≡ reply.Refused refusal.Stopped = cc e in cc k

pub shown_on : (old new : Seen) (meanings : List BoxMeaning) (lists : Lists) → new.map ≡ old.map → new.meanings ≡ meanings → ShowLists old.map.boxes meanings lists → ShowLists new.map.boxes new.meanings lists
shown_on old new meanings lists map taken h =
    subst (λ (bs : List MapBox). ShowLists bs new.meanings lists) (sym (ap (λ (m : MapMeaning). m.boxes) map)) (subst (λ (ms : List BoxMeaning). ShowLists old.map.boxes ms lists) (sym taken) h)

-- The flags are set: a step that ends its request.
pub flag_done : (around after : Around) (run : Run) (lane place : ℕ) (said : List Reply) (lists : Lists) (name : List ℕ) (number : ℕ) (uid : Uid) (flags bits : ℕ) (old new : Seen) → HasComeTo run old → HasNotBegun run place said
    → Flags old.map.boxes old.meanings lists name number uid flags bits run → AppendsFlag old new number uid bits → new.stopped ≡ false → new.meanings ≡ meanings_by number (entry.F uid bits) old.map.boxes old.meanings
    → ((ls : Lists) → IsSettledFor ls old.history → IsSettledFor (lists_by number [] (entry.F uid bits) ls) new.history)
    → DidEvent around after run lane place said (request.Flag name uid flags) lists old new (did.Step half.Whole) (Some reply.Done)
flag_done around after run lane place said lists name number uid flags bits old new come stage f a runs taken settled =
    let q = request.Flag name uid flags in
    let found = some_mailbox run name lists _ (f.answers (flag_event lane place [] (told_calls new.history))).0 in
    let event : RunEvent = flag_event lane place (adds_to found.0 (entry.F uid flags)) (told_calls new.history) in
    (did_own around after run lane place said q lists (set_flags name uid.0 flags lists) old new (did.Step half.Whole) (Some reply.Done) (Some reply.Done) event
    (record {
      own = own_event event refl;
      finds = tt;
      found = tt;
      part_is = next_first around run q (own_events place run) stage.0;
      allowed = (f.answers event).0;
      did = (found.0, found.1, refl);
      fits = All-nil _;
      ends = record { 0 = λ e. refl; 1 = λ e k. some_reply reply.Done k };
      replied = refusal_last (own_events place run) event stage.0;
    }) (record { made = refl; pins = refl; unpins = refl; doomed = refl; removed = refl; given = refl; placed = refl; gone = refl }) come (comes_along run event old new come a.map_is a.drawn_is a.grows refl refl refl) (λ other. let d = a.due_is other in omega (arith, d)) a.same
    (f.well, shown_on old new (meanings_by number (entry.F uid bits) old.map.boxes old.meanings) (set_flags name uid.0 flags lists) a.map_is taken f.shown) a.grows a.mail refl (f.answers event, refl) (
      refl,
      refl,
      runs,
      record {
        stops = λ s. subst (λ (ls : Lists). Leaves lists ls old.history new.history) f.by (a.moments lists s.0);
        settled = λ s. subst (λ (ls : Lists). IsSettledFor ls new.history) f.by (settled lists s.0);
      },
    )
    (ends_well q said event (Some reply.Done) (Some reply.Done) (did.Step half.Whole) old new refl a.ran runs (a.unfailed runs) (λ x. x) done_runs (λ some. first_turn q said (flag_is_plain name uid flags) stage.1) (first_reply q said (Some reply.Done) reply.Done stage.1 refl))).so

-- The append failed: it would have made that step.
pub flag_broken : (around after : Around) (run : Run) (lane place : ℕ) (said : List Reply) (lists : Lists) (name : List ℕ) (number : ℕ) (uid : Uid) (flags bits : ℕ) (old new : Seen) → HasComeTo run old → ShowsSeen old lists → HasNotBegun run place said
    → Flags old.map.boxes old.meanings lists name number uid flags bits run → AppendsFlag old new number uid bits → new.stopped ≡ true → new.meanings ≡ old.meanings → Rose old.faults.changes new.faults.changes
    → DidEvent around after run lane place said (request.Flag name uid flags) lists old new (did.Broken half.Whole) (Some (reply.Refused refusal.Stopped))
flag_broken around after run lane place said lists name number uid flags bits old new come shows stage f a stopped untaken rose =
    let q = request.Flag name uid flags in
    let found = some_mailbox run name lists _ (f.answers (flag_event lane place [] (told_calls new.history))).0 in
    let would : RunEvent = flag_event lane place (adds_to found.0 (entry.F uid flags)) (told_calls new.history) in
    (did_fall around after run lane place said q First lists old new (did.Broken half.Whole) no_numbers (plain_refuses around run place q refusal.Stopped (flag_is_plain name uid flags) stage.0)
    (stays_left _ _ _ _ _ _ _ _ _ come (record { map = a.map_is; drawn = a.drawn_is; due = a.due_is; tells = a.same; grows = a.grows; mail = a.mail; reads = a.reads; changes = a.changes }) (shows.0, shown_on old new old.meanings lists a.map_is untaken shows.1)) a.ran stopped rose (λ event. inl refl) tt (
      record { refused = refl; unanswered = refl; ran = a.ran; stopped = stopped },
      refl,
      (
        record { would = would; lane_is = refl; request_is = refl; part_is = refl; did = λ around e. (found.0, found.1, refl); answer = reply.Done; left = set_flags name uid.0 flags lists; made = (f.answers would, refl) },
        λ s. subst (λ (ls : Lists). Leaves lists ls old.history new.history) f.by (a.moments lists s.0),
      ),
    )).so

-- ---- what was looked up

pub none_of : {R S : Type 0} → (f : R → S) (o : Option (Bor R)) (r : Option S) → is_some o ≡ false → option_map f (option_copied o) ≡ r → r ≡ None
none_of f None r gone is = sym is
none_of f (Some x) r gone is = absurd (let e : true ≡ false = gone in cc e)

pub some_of : {R S : Type 0} → (f : R → S) (o : Option (Bor R)) (r : Option S) → is_some o ≡ true → option_map f (option_copied o) ≡ r → (s : S) × (r ≡ Some s)
some_of f None r there is = absurd (let e : false ≡ true = there in cc e)
some_of f (Some x) r there is = (f x.now, sym is)
