-- A make alone, by the script that it is.
use Rattle.std.specs.Prelude.{◌≡◌, ◌⊎◌, ◌++◌, ◌∷◌, ℕ, List, [], length, Option, Some, None}
use Rattle.std.proofs.Common.{refl, sym, ◌∙◌, ap, subst, inl, inr, arith}
use Rattle.std.proofs.lemmas.List.{length-append}
use Rattle.disk_model.specs.Disk.{Faults, Files, History}
use Rattle.disk_model.proofs.MomentLemmas.{each_image-map}
use Rattle.mdbox_base.specs.declared.replies.Refusal.{Refusal}
use Rattle.mdbox_base.specs.declared.replies.Refusal.TheVariants as refusal
use Rattle.mdbox_base.specs.declared.replies.Reply.{Reply}
use Rattle.mdbox_base.specs.declared.replies.Reply.TheVariants as reply
use Rattle.mdbox_base.specs.declared.requests.Request.{Request}
use Rattle.mdbox_base.specs.declared.requests.Request.TheVariants as request
use Rattle.model_lists.specs.Lists.{Lists, empty_mailbox}
use Rattle.model_meaning.specs.BoxMeaning.{BoxMeaning, box_meaning}
use Rattle.model_meaning.specs.MapMeaning.{MapMeaning}
use Rattle.model_store.specs.Listing.{ShowLists, meaning_named}
use Rattle.model_store.specs.Safe.{Safe}
use Rattle.model_store.specs.Settled.{IsSettledFor}
use Rattle.journal.specs.Journal.{left_by}
use Rattle.mail_ops.specs.Making.{with_mailbox}
use Rattle.store_open.specs.Opened.{IsOpenedAs}
use Rattle.task_steps.specs.Serves.{IsReached}
use Rattle.script_run.specs.LeftOpen.{IsRequestDone}
use Rattle.script_run.specs.One.{AreAlongMake, AreListsTold, IsChangeAnswer, IsUndoneAlone, IsUnmadeAlone, MakesSteps, MeansByMake, alone, next_mailbox, unmade_cause, with_next_named}
use Rattle.script_run.specs.Opening.{LogsShowLists}
use Rattle.script_run.proofs.AloneLemmas.{may_read, unread}
use Rattle.script_run.proofs.DoneLemmas.{settled_safe}
use Rattle.script_run.proofs.ReachedMakeLemmas.{made_left, reached_make}
use Rattle.script_run.proofs.ShownLemmas.{ListsAnswer}
use Rattle.script_run.proofs.LeftLemmas.{told_left}
use Rattle.script_run.proofs.ToldLemmas.{shown_begins}
use Rattle.script_run.proofs.UnchangedLemmas.{unchanged_since}
use Rattle.mdbox_top.specs.Alone.{IsDoneAlone}
use Rattle.mdbox_top.specs.MakeRun.{AreMade, IsMakeReply, LeavesOpened, MakeMoments, MakeRests, lists_by_making}
use Rattle.mdbox_top.proofs.OneStepLemmas.{done_one, done_runs, one_faults, served_from, stopped_one, unfailed_by, unremembered_runs}

abbrev making : List ℕ → Request
making name = request.Make name

-- a make that was done alone
abbrev MakeDone : List ℕ → Reply → Option History → Option History → Faults → Faults → Type 0
MakeDone name given old new began now = IsRequestDone (making name) given old new began now

calm : (name : List ℕ) (given : Reply) (old new : Option History) (began now : Faults) → MakeDone name given old new began now → given ≡ reply.Refused refusal.ReadFault → ⊥
calm name given old new began now w = unread (making name) given w.entries old new began now w.done tt

-- ---- the lists that it leaves

one_more : (number : ℕ) (name : List ℕ) (lists left : Lists) → left ≡ lists → left ≡ with_mailbox number name lists → ⊥
one_more number name lists left same more =
    let k = sym (length-append lists (empty_mailbox number name ∷ [])) ∙ (sym (ap length more) ∙ ap length same) in omega (arith, k)

by_told : (next : ℕ) (name : List ℕ) (given : Reply) (lists left : Lists) → AreListsTold (making name) given lists left → AreAlongMake next name lists left → left ≡ lists_by_making next name given lists
by_told next name reply.Done lists left told (inl same) = absurd (one_more told.0 name lists left same told.2)
by_told next name reply.Done lists left told (inr made) = made
by_told next name given lists left told along = told

make_left : (name : List ℕ) (given : Reply) (old new : Option History) (began now : Faults) → (w : MakeDone name given old new began now) → (given ≡ reply.Refused refusal.Stopped → ⊥) → (lists : Lists) → (shows : LogsShowLists w.done.m w.done.meanings lists)
    → left_by lists (w.done.serves lists shows (may_read (making name) refl lists old)).journal ≡ lists_by_making (next_mailbox w.done.m) name given lists
make_left name given old new began now w running lists shows =
    let may = may_read (making name) refl lists old in
    let s = w.done.serves lists shows may in
    by_told (next_mailbox w.done.m) name given lists (left_by lists s.journal)
    (told_left lists (making name) s.run s.journal s.broken given began now _ s.m s.drawn _ w.done.meanings (shown_begins (alone (making name)) (given ∷ []) w.entries old new began now w.done lists shows may) s.served (unfailed_by given (calm name given old new began now w) running))
    (subst (λ (m : MapMeaning). AreAlongMake (next_mailbox m) name lists (left_by lists s.journal)) (w.done.begins lists shows may) (made_left name lists s.run s.journal s.broken (Some given ∷ []) began now _ s.m s.drawn _ s.served))

make_settles : (name : List ℕ) (given : Reply) (old new : Option History) (began now : Faults) → (w : MakeDone name given old new began now) → (given ≡ reply.Refused refusal.Stopped → ⊥) → (lists : Lists) → IsSettledFor lists old → IsSettledFor (lists_by_making (next_mailbox w.done.m) name given lists) new
make_settles name given old new began now w running lists at =
    let shows = w.done.shown lists (settled_safe lists old at) in
    subst (λ (ls : Lists). IsSettledFor ls new) (make_left name given old new began now w running lists shows) ((w.done.serves lists shows (may_read (making name) refl lists old)).settled (stopped_one given running) at)

-- ---- what it replies

refused_by : (cause : Option Refusal) (given : Reply) → IsChangeAnswer cause given → (given ≡ reply.Done → ⊥) → (why : Refusal) × (given ≡ reply.Refused why)
refused_by (Some why) given is undone = (why, is)
refused_by None given is undone = elim is [
  | inl done ↦ absurd (undone done)
  | inr failed ↦ elim failed [
    | inl memory ↦ (refusal.NoMemory, memory)
    | inr stopped ↦ (refusal.Stopped, stopped)
  ]
]

opens_later : (name : List ℕ) (given : Reply) (old new : Option History) (began now : Faults) → (w : MakeDone name given old new began now) → (given ≡ reply.Refused refusal.Stopped → ⊥) → (m : MapMeaning) (meanings : List BoxMeaning) → (w.later ≡ m) × (w.later_meanings ≡ meanings) → IsOpenedAs new m meanings
opens_later name given old new began now w running m meanings same =
    subst (λ (n : MapMeaning). IsOpenedAs new n meanings) same.0 (subst (λ (ms : List BoxMeaning). IsOpenedAs new w.later ms) same.1 (w.comes.again (stopped_one given running)))

make_files : (name : List ℕ) (given : Reply) (old new : Option History) (began now : Faults) → (w : MakeDone name given old new began now) → LeavesOpened w.done.m given old new
make_files name given old new began now w = record {
  generation = w.done.leaves.generation;
  opened = w.done.leaves.opened;
  swept = w.done.leaves.swept;
  stays = w.done.stays (refl, λ delivers. served_from (making name) given w.entries old new began now w.done tt);
  mail = λ running. w.done.leaves.mail refl refl (stopped_one given running);
  undone = λ running undone.
      let k = refused_by (unmade_cause (meaning_named name w.done.m.boxes w.done.meanings) w.done.m) given w.told undone in
      w.unmade (subst (λ (r : Reply). IsUnmadeAlone (alone (making name)) (r ∷ [])) (sym k.1) (λ stopped. running (k.1 ∙ ap reply.Refused stopped)));
}

make_tells : (name : List ℕ) (given : Reply) (old new : Option History) (began now : Faults) → MakeDone name given old new began now → IsMakeReply name old new given
make_tells name given old new began now w =
    let asked : Request = making name in
    let m : MapMeaning = w.done.m in
    let meanings : List BoxMeaning = w.done.meanings in
    record {
      m = m;
      meanings = meanings;
      opened = w.done.opened;
      given_is = w.told;
      refused = λ why is running memory. unchanged_since asked given w.entries old new began now w.done (w.undone (subst (λ (r : Reply). IsUndoneAlone (alone asked) (r ∷ [])) (sym is) (running, memory)));
      memory = λ e. opens_later name given old new began now w (unremembered_runs given e) m meanings (subst (λ (r : Reply). MeansByMake (alone asked) (r ∷ []) m meanings w.later w.later_meanings) e w.comes.made);
      done = λ e. record {
        map = w.later;
        changed = w.later_meanings;
        opened = w.comes.again (stopped_one given (done_runs given e));
        shows = λ lists formed shows.
            subst (λ (ls : Lists). ShowLists w.later.boxes w.later_meanings ls) (make_left name given old new began now w (done_runs given e) lists (formed, shows) ∙ ap (λ (r : Reply). lists_by_making (next_mailbox m) name r lists) e)
            (w.comes.shows lists (formed, shows) (may_read asked refl lists old)).1;
      };
      named = λ e. opens_later name given old new began now w (done_runs given e) (with_next_named name m) (meanings ++ box_meaning [] ∷ []) (subst (λ (r : Reply). MeansByMake (alone asked) (r ∷ []) m meanings w.later w.later_meanings) e w.comes.made);
      settled = make_settles name given old new began now w;
      files = make_files name given old new began now w;
    }

-- ---- what a crash leaves, and what it leaves itself

abbrev pub SafeForMade : List ℕ → Option History → Lists → ℕ → Files → Type 0
SafeForMade name old lists moment image = Safe image lists ⊎ ((some : Lists) × AreMade name old lists some × Safe image some)

make_leaves : (name : List ℕ) (given : Reply) (old new : Option History) (began now : Faults) → MakeDone name given old new began now → MakeMoments name old new
make_leaves name given old new began now w = λ lists at.
    let may = may_read (making name) refl lists old in
    let shows = w.done.shown lists (settled_safe lists old at) in
    let s = w.done.serves lists shows may in
    each_image-map (IsReached lists s.run s.journal s.broken) (SafeForMade name old lists) old new
    (λ moment image is. elim (reached_make name lists s.run s.journal s.broken (Some given ∷ []) began now _ s.m s.drawn _ s.served moment is.0 is.1) [
      | inl same ↦ inl (subst (λ (ls : Lists). Safe image ls) same is.2)
      | inr made ↦ inr (is.0, (w.done.m, w.done.meanings, w.done.opened, made ∙ ap (λ (m : MapMeaning). with_mailbox (next_mailbox m) name lists) (w.done.begins lists shows may)), is.2)
    ])
    (s.crash at)

by_reply : (name : List ℕ) (number : ℕ) (given : Reply) (lists : Lists) (new : Option History) → IsSettledFor (lists_by_making number name given lists) new → IsSettledFor lists new ⊎ IsSettledFor (with_mailbox number name lists) new
by_reply name number reply.Done lists new s = inr s
by_reply name number other lists new s = inl s

make_rests : (name : List ℕ) (given : Reply) (old new : Option History) (began now : Faults) → MakeDone name given old new began now → MakeRests name (given ≡ reply.Refused refusal.Stopped) began now old new
make_rests name given old new began now w = λ none lists at.
    let faults = one_faults (making name) given w.entries old new began now w.done tt (calm name given old new began now w) in
    elim (by_reply name (next_mailbox w.done.m) given lists new (make_settles name given old new began now w (λ e. none e (faults.stopped e)) lists at)) [
      | inl same ↦ inl same
      | inr more ↦ inr (with_mailbox (next_mailbox w.done.m) name lists, (w.done.m, w.done.meanings, w.done.opened, refl), more)
    ]

-- ---- it was done

pub make_done : (name : List ℕ) (given : Reply) (old new : Option History) (began now : Faults) → MakeDone name given old new began now → IsDoneAlone (request.Make name) given old new began now
make_done name given old new began now w = record {
  tells = make_tells name given old new began now w;
  moments = make_leaves name given old new began now w;
  rests = make_rests name given old new began now w;
  faults = one_faults (making name) given w.entries old new began now w.done tt (calm name given old new began now w);
}

pub done_alone : (asked : Request) (given : Reply) (old new : Option History) (began now : Faults) → IsRequestDone asked given old new began now → MakesSteps asked → ListsAnswer → IsDoneAlone asked given old new began now
done_alone asked given old new began now w one answer =
    done_one asked given old new began now w one answer (λ name is. subst (λ (q : Request). IsDoneAlone q given old new began now) (sym is) (make_done name given old new began now (subst (λ (q : Request). IsRequestDone q given old new began now) is w)))
