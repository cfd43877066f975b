-- A fetch alone, by the script that it is.
use Rattle.std.specs.Prelude.{◌≡◌, ℕ, true, false, List, [], ◌∷◌, Option, Some}
use Rattle.std.proofs.Common.{refl, sym, ◌∙◌, ap, subst, inl, inr}
use Rattle.std.proofs.lemmas.List.Elements.{All-head}
use Rattle.disk_model.specs.Disk.{History, Faults}
use Rattle.disk_model.proofs.BetweenLemmas.{between-same}
use Rattle.mdbox_base.specs.declared.ids.Uid.{Uid}
use Rattle.mdbox_base.specs.declared.replies.Reply.{Reply}
use Rattle.mdbox_base.specs.declared.replies.Reply.TheVariants as reply
use Rattle.mdbox_base.specs.declared.requests.Request.{Request}
use Rattle.mdbox_base.specs.declared.requests.Request.TheVariants as request
use Rattle.mdbox_base.specs.declared.script.JournalEntry.{JournalEntry}
use Rattle.model_lists.specs.Lists.{ListedMessage, Lists}
use Rattle.model_meaning.specs.BoxMeaning.{BoxMeaning, LogRow}
use Rattle.model_meaning.specs.MapMeaning.{MapMeaning, MapRecord}
use Rattle.list_machine.specs.Machine.{Does, PartAnswers, message_at}
use Rattle.list_machine.specs.Run.{EventPart, First, Run, RunEvent, before}
use Rattle.journal.specs.Journal.{AreSteps, IsReplyOf, JournalStep, refusal_in}
use Rattle.store_core.specs.Value.{StoreValue, indexes_of}
use Rattle.store_open.specs.Opened.{IsOpenedAs}
use Rattle.store_open.proofs.SweptStoreLemmas.{idle_settled}
use Rattle.mail_fetch.proofs.RecordLemmas.{IsShown, shown_by}
use Rattle.lanes.specs.Going.{TellsDamage}
use Rattle.script_run.specs.Done.{MayRead}
use Rattle.script_run.specs.LeftOpen.{IsRequestDone}
use Rattle.script_run.specs.One.{alone}
use Rattle.script_run.specs.Opening.{AreSafeFor, LogsShowLists}
use Rattle.script_run.specs.Worked.{IsWorkedOut}
use Rattle.script_run.proofs.OpenedLemmas.{none_doomed}
use Rattle.script_run.proofs.ShownLemmas.{opens_again}
use Rattle.script_run.proofs.ToldLemmas.{answers_of, replied_one, serves_one, step_answers}
use Rattle.script_run.proofs.UnchangedLemmas.{closed_since, reads_safe, unchanged_since}
use Rattle.script_run.proofs.WorkedLemmas.{worked_counted}
use Rattle.mdbox_top.specs.Alone.{IsDoneAlone}
use Rattle.mdbox_top.specs.FetchRun.{IsFetched, IsTextOf}
use Rattle.tasks_alone.specs.FetchAlone.{IsFetchAnswer}
use Rattle.tasks_alone.proofs.FetchLemmas.{IsFetchTold, StandsFetch, TakesMessage, begun_fetch, cause_of, keeps_fetch}

-- the law of the lists for which files are safe that open
abbrev pub SafeAreShown : Type 0
SafeAreShown = (old : Option History) (m : MapMeaning) (meanings : List BoxMeaning) (lists : Lists) → IsOpenedAs old m meanings → AreSafeFor lists old → LogsShowLists m meanings lists

abbrev fetching : List ℕ → Uid → Request
fetching name uid = request.Fetch name uid

abbrev FetchDone : List ℕ → Uid → Reply → Option History → Option History → Faults → Faults → Type 0
FetchDone name uid given old new began now = IsRequestDone (fetching name uid) given old new began now

-- it may be served from all lists for which the files are safe
may_fetch : (name : List ℕ) (uid : Uid) (lists : Lists) (old : Option History) → AreSafeFor lists old → MayRead (alone (fetching name uid)) lists old
may_fetch name uid lists old safe = λ fetches. inr (refl, safe)

-- ---- the octets of the message as it is listed

part_text : (run : Run) (event : RunEvent) (name : List ℕ) (uid : Uid) (lists left : Lists) (part : EventPart) (octets : List ℕ) → Does run event lists (request.Fetch name uid) part (reply.Fetched octets) left
    → (message : ListedMessage) × (message_at name uid.0 lists ≡ Some message) × (octets ≡ message.octets)
part_text run event name uid lists left First octets d = (d.0, d.1, d.2)
part_text run event name uid lists left other octets d = absurd d

-- the step of a fetch answered the octets of the message as it was listed then
step_text : (name : List ℕ) (uid : Uid) (run : Run) (lists : Lists) (octets : List ℕ) (journal : List JournalStep) → AreSteps run (alone (fetching name uid)) lists journal → answers_of journal ≡ reply.Fetched octets ∷ []
    → (message : ListedMessage) × (message_at name uid.0 lists ≡ Some message) × (octets ≡ message.octets)
step_text name uid run lists octets [] s e = absurd (let k : [] ≡ reply.Fetched octets ∷ [] = e in cc k)
step_text name uid run lists octets (step ∷ steps) s e =
    let k : step.answer ∷ answers_of steps ≡ reply.Fetched octets ∷ [] = e in
    let is : step.answer ≡ reply.Fetched octets = cc k in
    let a = step_answers run (fetching name uid) lists step s.0 in
    part_text (before step.event run) a.event name uid lists step.left a.event.part octets (subst (λ (r : Reply). PartAnswers (before step.event run) a.event lists (fetching name uid) a.event.part r step.left) is a.answers).1

text_by : (name : List ℕ) (uid : Uid) (given : Reply) (old new : Option History) (began now : Faults) → FetchDone name uid given old new began now → (lists : Lists) → AreSafeFor lists old → (row : LogRow) (entry : MapRecord) → IsShown name uid.0 lists row → IsFetchAnswer row entry new given → IsTextOf name uid.0 lists given
text_by name uid given old new began now w lists safe row entry shown (inl read) = (shown.message, shown.there, inr read)
text_by name uid given old new began now w lists safe row entry shown (inr (octets, told, inl (whole, holds, is))) =
    let s = serves_one (fetching name uid) given w.entries old new began now w.done lists safe (may_fetch name uid lists old safe) in
    let replied = subst (λ (r : Reply). IsReplyOf (fetching name uid) (answers_of s.journal) r) is (replied_one lists (fetching name uid) s.run s.journal given began now s.served.legal) in
    let m = step_text name uid s.run lists whole s.journal s.served.legal.steps replied in
    (m.0, m.1, inl (is ∙ ap reply.Fetched m.2))
text_by name uid given old new began now w lists safe row entry shown (inr (octets, told, inr (none, is))) =
    absurd (All-head (λ (one : Reply). TellsDamage (refusal_in one) → ⊥) given [] (w.done.undamaged (lists, may_fetch name uid lists old safe)) (subst (λ (r : Reply). TellsDamage (refusal_in r)) (sym is) tt))

-- ---- it was done

fetched : {D : Type 0} → (name : List ℕ) (uid : Uid) (given : Reply) (old new : Option History) (began now : Faults) (s : StoreValue D) → FetchDone name uid given old new began now → SafeAreShown → IsOpenedAs old s.map (indexes_of s.boxes) → TakesMessage name uid.0 s new given → IsFetched name uid.0 s.map (indexes_of s.boxes) old new given
fetched name uid given old new began now s w show opens taken =
    let k = taken.record_is in
    record {
      row = taken.row;
      entry = taken.entry;
      record_is = record { mailbox = k.mailbox; named = k.named; listed = k.listed; stored = k.stored; same = k.same };
      given_is = taken.given_is;
      text = λ lists safe. text_by name uid given old new began now w lists safe taken.row taken.entry (shown_by s.map.boxes (indexes_of s.boxes) lists name uid.0 k.mailbox taken.row (show old s.map (indexes_of s.boxes) lists opens safe).1 k.named k.listed) taken.given_is;
    }

pub fetch_done : {D : Type 0} → (name : List ℕ) (uid : Uid) (given : Reply) (entries : List JournalEntry) (old new : Option History) (began now : Faults) → FetchDone name uid given old new began now → IsWorkedOut D (alone (request.Fetch name uid)) 1 (Some given ∷ []) entries old new began now → SafeAreShown → IsDoneAlone (request.Fetch name uid) given old new began now
fetch_done {D} name uid given entries old new began now w k show = record {
  tells = record {
    m = s.map;
    meanings = indexes_of s.boxes;
    opened = k.opens;
    again = subst (λ (v : StoreValue D). IsOpenedAs new v.map (indexes_of v.boxes)) told.same (opens_again new k.last.store k.later (ap (λ (v : StoreValue D). v.stopped) told.same ∙ k.running));
    refused = λ why e. told.refused why (cause_of name uid.0 s k.running ∙ e);
    found = λ e. elim (told.found (cause_of name uid.0 s k.running ∙ e)) [ inl memory ↦ inl memory | inr taken ↦ inr (fetched name uid given old new began now s w show k.opens taken) ];
    settled = λ lists at. idle_settled lists k.opened new told.idle (k.settled_again lists at);
    carried = between-same _ old k.opened new k.carried told.idle.same;
    swept = (k.swept.0, k.opened, k.swept.1, told.idle);
  };
  moments = record {
    safe = λ lists at. (reads_safe (fetching name uid) given w.entries old new began now w.done refl lists at).0;
    stays = w.done.stays (refl, λ delivers. absurd (let e : false ≡ true = delivers in cc e));
    closed_well = closed_since old w.done.leaves.opened new w.done.leaves.closed_well (w.done.leaves.idle refl);
  };
  rests = λ none. (
    λ lists at. (reads_safe (fetching name uid) given w.entries old new began now w.done refl lists at).1,
    (unchanged_since (fetching name uid) given w.entries old new began now w.done (w.done.leaves.idle refl)).1,
  );
  faults = told.faults;
}
  where
    s : StoreValue D
    s = k.store

    told : IsFetchTold name uid.0 s k.opened began given k.last.store new now
    told = worked_counted (StandsFetch name uid s k.opened began) (IsFetchTold name uid.0 s k.opened began) (fetching name uid) given entries old new began now k (keeps_fetch name uid s k.opened began k.running) (begun_fetch name uid s k.opened began (λ file. none_doomed s old k.found file))
