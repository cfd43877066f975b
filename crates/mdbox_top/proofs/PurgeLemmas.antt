-- A purge alone, by the script that it is.
use Rattle.std.specs.Prelude.{◌≡◌, ◌+◌, ℕ, nat_lt, Bool, true, false, List, [], ◌∷◌, length, map, Option, Some, None}
use Rattle.std.specs.Option.{option_or}
use Rattle.std.proofs.Common.{refl, sym, ◌∙◌, subst}
use Rattle.disk_model.specs.Disk.{Faults, History}
use Rattle.mdbox_base.specs.declared.replies.Refusal.{Refusal}
use Rattle.mdbox_base.specs.declared.replies.Refusal.TheVariants as refusal
use Rattle.mdbox_base.specs.declared.replies.Reply.{Reply}
use Rattle.mdbox_base.specs.declared.replies.Reply.TheVariants as reply
use Rattle.mdbox_base.specs.declared.requests.Request.TheVariants as request
use Rattle.model_lists.specs.Lists.{Lists}
use Rattle.model_meaning.specs.MapMeaning.{MapMeaning}
use Rattle.model_store.specs.Listing.{ShowLists}
use Rattle.list_machine.specs.Machine.{PartAnswers, TargetFits, NextFiles, first_refusal, part_checks, refusal_at, refused_where}
use Rattle.list_machine.specs.Run.{EventPart, First, Last, Run, RunEvent, TakenFile, before, drawn_of, map_of, target_length, with_targets}
use Rattle.journal.specs.Journal.{AreSteps, IsReplyOf, JournalStep}
use Rattle.purge_task.specs.Clause.{KeepsRegions}
use Rattle.purge_task.specs.Dropped.{DropsUnwanted}
use Rattle.script_run.specs.LeftOpen.{IsRequestDone}
use Rattle.script_run.specs.One.{IsUndoneAlone, alone}
use Rattle.script_run.specs.Purged.{HasPurgedQuietly, IsPurgeAnswer, IsRefusedRoomAlone}
use Rattle.script_run.proofs.AloneLemmas.{left_still, may_read}
use Rattle.script_run.proofs.SomeListsLemmas.{some_lists}
use Rattle.script_run.proofs.ToldLemmas.{answers_of, replied_one, step_answers}
use Rattle.script_run.proofs.UnchangedLemmas.{listed_safe, unchanged_since}
use Rattle.mdbox_top.specs.Alone.{IsDoneAlone}
use Rattle.mdbox_top.specs.PurgeRun.{IsPurgeReply, MayReplyPurge, OpensPurged}
use Rattle.mdbox_top.proofs.OneStepLemmas.{stopped_one}
use Rattle.mdbox_top.proofs.ResyncLemmas.{alone_faults}

abbrev PurgeDone : Reply → Option History → Option History → Faults → Faults → Type 0
PurgeDone given old new began now = IsRequestDone request.Purge given old new began now

-- ---- what it replies

abbrev Full : Option Refusal → Type 0
Full o = (why : Refusal) → o ≡ Some why → why ≡ refusal.StoreFull 4294967294

full_where : (b : Bool) → Full (refused_where b (refusal.StoreFull 4294967294))
full_where true why e = let k : Some (refusal.StoreFull 4294967294) ≡ Some why = e in let z : refusal.StoreFull 4294967294 ≡ why = cc k in sym z
full_where false why e = absurd (let k : None ≡ Some why = e in cc k)

full_either : (a b : Option Refusal) → Full a → Full b → Full (option_or a b)
full_either None b f g why e = g why e
full_either (Some x) b f g why e = f why e

full_targets : {X : Type 0} → (run : Run) (lists : Lists) (octets : X → ℕ) (files : List X) → Full (first_refusal run lists (map (λ t. TargetFits (octets t)) files))
full_targets run lists octets [] = λ why e. absurd (let k : None ≡ Some why = e in cc k)
full_targets run lists octets (x ∷ files) = full_either (refusal_at run lists (TargetFits (octets x))) (first_refusal run lists (map (λ t. TargetFits (octets t)) files)) (full_where (nat_lt 4294967294 (octets x))) (full_targets run lists octets files)

full_checks : (run : Run) (event : RunEvent) (lists : Lists) (part : EventPart) → Full (first_refusal run lists (part_checks run event request.Purge part))
full_checks run event lists First =
    let m = map_of run in
    let targets = with_targets m event.files in
    full_either (refusal_at run lists (NextFiles (length targets))) (first_refusal run lists (map (λ t. TargetFits (target_length m t.file)) targets)) (full_where (nat_lt 4294967294 ((drawn_of run).file + length targets)))
    (full_targets run lists (λ (t : TakenFile). target_length m t.file) targets)
full_checks run event lists part = λ why e. absurd (let k : None ≡ Some why = e in cc k)

refused_kind : (why : Refusal) → why ≡ refusal.StoreFull 4294967294 → MayReplyPurge (reply.Refused why)
refused_kind why e = subst (λ (w : Refusal). MayReplyPurge (reply.Refused w)) (sym e) refl

answer_kind : (run : Run) (event : RunEvent) (old new : Lists) (part : EventPart) (given : Reply) → PartAnswers run event old request.Purge part given new → MayReplyPurge given
answer_kind run event old new part (reply.Refused why) p = refused_kind why (full_checks run event old part why p.0)
answer_kind run event old new Last (reply.Purged dropped files instances) p = tt
answer_kind run event old new Last given p = absurd p.1
answer_kind run event old new part given p = absurd p.1

-- the one step of its journal
step_kind : (run : Run) (start : Lists) (journal : List JournalStep) (given : Reply) → AreSteps run (alone request.Purge) start journal → answers_of journal ≡ given ∷ [] → MayReplyPurge given
step_kind run start [] given steps e = absurd (let k : [] ≡ given ∷ [] = e in cc k)
step_kind run start (step ∷ journal) given steps e =
    let a = step_answers run request.Purge start step steps.0 in
    let k : step.answer ∷ answers_of journal ≡ given ∷ [] = e in
    let same : step.answer ≡ given = cc k in
    subst MayReplyPurge same (answer_kind (before step.event run) a.event start step.left a.event.part step.answer a.answers)

reply_kind : (given : Reply) (answers : List Reply) → IsReplyOf request.Purge answers given → (answers ≡ given ∷ [] → MayReplyPurge given) → MayReplyPurge given
reply_kind (reply.Refused refusal.NoMemory) answers is by_step = tt
reply_kind (reply.Refused refusal.ReadFault) answers is by_step = tt
reply_kind (reply.Refused refusal.Stopped) answers is by_step = tt
reply_kind (reply.Refused (refusal.Damaged file offset)) answers is by_step = absurd is
reply_kind given answers is by_step = by_step is

purge_given : (given : Reply) (old new : Option History) (began now : Faults) → PurgeDone given old new began now → MayReplyPurge given
purge_given given old new began now w =
    let some = some_lists old w.done.m w.done.meanings w.done.opened in
    let s = w.done.serves some.0 some.1 (may_read request.Purge refl some.0 old) in
    reply_kind given (answers_of s.journal) (replied_one some.0 request.Purge s.run s.journal given began now s.served.legal) (λ e. step_kind s.run some.0 s.journal given s.served.legal.steps e)

-- ---- what it leaves

purge_opens : (given : Reply) (old new : Option History) (began now : Faults) → (w : PurgeDone given old new began now) → (given ≡ reply.Refused refusal.Stopped → ⊥) → (dropped : ℕ) → DropsUnwanted w.done.m w.later dropped → OpensPurged dropped w.done.m w.done.meanings new
purge_opens given old new began now w running dropped drops = record {
  map = w.later;
  listings = w.later_meanings;
  opens = w.comes.again (stopped_one given running);
  drops = drops;
  shows = λ lists formed shows.
      let may = may_read request.Purge refl lists old in
      let s = w.done.serves lists (formed, shows) may in
      subst (λ (ls : Lists). ShowLists w.later.boxes w.later_meanings ls) (left_still request.Purge s.run lists s.journal refl s.served.legal.steps) (w.comes.shows lists (formed, shows) may).1;
}

purged_runs : (given : Reply) (dropped files instances : ℕ) → given ≡ reply.Purged dropped files instances → given ≡ reply.Refused refusal.Stopped → ⊥
purged_runs given dropped files instances d s = let k : reply.Purged dropped files instances ≡ reply.Refused refusal.Stopped = sym d ∙ s in cc k

refusal_stops : (given : Reply) (why : Refusal) → given ≡ reply.Refused why → (why ≡ refusal.Stopped → ⊥) → given ≡ reply.Refused refusal.Stopped → ⊥
refusal_stops given why e running s = running (let k : reply.Refused why ≡ reply.Refused refusal.Stopped = sym e ∙ s in cc k)

refused_drops : (why : Refusal) (read new : Option History) (m later : MapMeaning) → (why ≡ refusal.Stopped → ⊥) → IsPurgeAnswer (reply.Refused why) read new m later → (dropped : ℕ) × DropsUnwanted m later dropped × KeepsRegions m later read new
refused_drops refusal.Stopped read new m later running answer = absurd (running refl)
refused_drops why read new m later running answer = answer

-- what its numbers tell
numbers_told : (given : Reply) (old new : Option History) (began now : Faults) → (w : PurgeDone given old new began now) → (dropped files instances : ℕ) → given ≡ reply.Purged dropped files instances → DropsUnwanted w.done.m w.later dropped × HasPurgedQuietly dropped files instances w.done.leaves.opened new w.done.m w.later
numbers_told given old new began now w dropped files instances e = subst (λ (r : Reply). IsPurgeAnswer r w.done.leaves.opened new w.done.m w.later) e w.comes.purged

-- what a refusal tells
refusal_told : (given : Reply) (old new : Option History) (began now : Faults) → (w : PurgeDone given old new began now) → (why : Refusal) → given ≡ reply.Refused why → (why ≡ refusal.Stopped → ⊥) → (dropped : ℕ) × DropsUnwanted w.done.m w.later dropped × KeepsRegions w.done.m w.later w.done.leaves.opened new
refusal_told given old new began now w why e running = refused_drops why w.done.leaves.opened new w.done.m w.later running (subst (λ (r : Reply). IsPurgeAnswer r w.done.leaves.opened new w.done.m w.later) e w.comes.purged)

purge_tells : (given : Reply) (old new : Option History) (began now : Faults) → PurgeDone given old new began now → IsPurgeReply old new given
unfolding purge_opens
purge_tells given old new began now w = record {
  m = w.done.m;
  meanings = w.done.meanings;
  opened = w.done.opened;
  given_is = purge_given given old new began now w;
  generation = w.done.leaves.generation;
  read = w.done.leaves.opened;
  swept = w.done.leaves.swept;
  done = λ dropped files instances e.
      purge_opens given old new began now w (purged_runs given dropped files instances e) dropped (numbers_told given old new began now w dropped files instances e).0;
  quiet = λ dropped files instances e. (numbers_told given old new began now w dropped files instances e).1;
  refused = λ why e running. let some = refusal_told given old new began now w why e running in (some.0, purge_opens given old new began now w (refusal_stops given why e running) some.0 some.1);
  kept = λ why e running. (refusal_told given old new began now w why e running).2;
  undone = λ why e read stopped. unchanged_since request.Purge given w.entries old new began now w.done (w.undone (subst (λ (r : Reply). IsUndoneAlone (alone request.Purge) (r ∷ [])) (sym e) (read, stopped)));
  room = λ limit e. subst (λ (r : Reply). IsRefusedRoomAlone (alone request.Purge) (r ∷ []) w.done.leaves.opened w.done.m) e w.comes.room;
  settled = λ running lists at. (listed_safe request.Purge given w.entries old new began now w.done refl lists at).1 (stopped_one given running);
}

pub purge_done : (given : Reply) (old new : Option History) (began now : Faults) → PurgeDone given old new began now → IsDoneAlone request.Purge given old new began now
purge_done given old new began now w = record {
  tells = purge_tells given old new began now w;
  moments = record {
    safe = λ lists at. (listed_safe request.Purge given w.entries old new began now w.done refl lists at).0;
    sealed = w.done.sealed ([], may_read request.Purge refl [] old);
  };
  rests = λ none lists at. (listed_safe request.Purge given w.entries old new began now w.done refl lists at).1 (stopped_one given (λ e. none e ((alone_faults request.Purge given old new began now w refl).stopped e)));
  faults = alone_faults request.Purge given old new began now w refl;
}
