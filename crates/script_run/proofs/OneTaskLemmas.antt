-- A script of one request: what its task knows, from one event to the next.
use Rattle.std.specs.Prelude.{◌≢◌, ◌⊎◌, ◌==◌, Bool, length, map, slice_get, slice_set, if◌then◌else◌}
use Rattle.std.proofs.Common.{◌≡◌, ◌+◌, ◌-◌, ℕ, zero, suc, true, false, List, [], ◌∷◌, Option, Some, None, refl, sym, ◌∙◌, ap, subst, arith, inl, inr}
use Rattle.std.proofs.lemmas.Option.{slice_get_within}
use Rattle.disk_model.specs.Disk.{Faults, History, IsIdle}
use Rattle.mdbox_base.specs.declared.ids.Uid.{Uid}
use Rattle.mdbox_base.specs.declared.replies.Refusal.{Refusal}
use Rattle.mdbox_base.specs.declared.replies.Refusal.TheVariants as refusal
use Rattle.mdbox_base.specs.declared.replies.Reply.{Reply}
use Rattle.mdbox_base.specs.declared.replies.Reply.TheVariants as reply
use Rattle.mdbox_base.specs.declared.requests.Request.{Request}
use Rattle.mdbox_base.specs.declared.requests.Request.TheVariants as request
use Rattle.journal.specs.Journal.{HasReply}
use Rattle.serving.specs.Lanes.{queue_of, replies_behind}
use Rattle.serving.proofs.LaneLemmas.{get_set_other, get_set_same, nat_cases, one_some}
use Rattle.store_core.specs.Value.{StoreValue}
use Rattle.task_steps.specs.Step.{ended_by}
use Rattle.task_steps.proofs.OneEventLemmas.{not_true}
use Rattle.mail_ops.specs.Expunging.{ExpungeAnswers}
use Rattle.mail_ops.specs.Messages.{missing_message}
use Rattle.mail_ops.specs.Requests.{IsOpsRequest, Replies}
use Rattle.mail_ops.specs.declared.expunging.ExpungeStage.{ExpungeStage}
use Rattle.mail_ops.specs.declared.expunging.ExpungeStage.TheVariants as expunge_stage
use Rattle.mail_ops.proofs.MessageLemmas.{not_missing}
use Rattle.lane_tasks.specs.Clause.{StaysOfRequest, TellsStore, progress_by}
use Rattle.lane_tasks.specs.Tasks.{BeginsTask, IsTaskOf}
use Rattle.lane_tasks.specs.declared.task.Task.{Task}
use Rattle.lane_tasks.specs.declared.task.Task.TheVariants as task
use Rattle.lane_tasks.proofs.StepLemmas.{ops_asked}
use Rattle.lanes.specs.Going.{AreFreshRows}
use Rattle.lanes.specs.Rows.{LaneRow, TaskGoesOn, after_event, queue_in}
use Rattle.lanes.specs.Worlds.{WorldValue}
use Rattle.lanes.specs.declared.lane.LaneEvent.{LaneEvent}
use Rattle.lanes.specs.declared.lane.Queued.{Queued}
use Rattle.lanes.proofs.SoundLemmas.{replies_many}
use Rattle.script_run.specs.One.{IsChangeAnswer}
use Rattle.script_run.proofs.ChainLemmas.{StaysOver}

pub some_reply : (a b : Reply) → Some a ≡ Some b → a ≡ b
some_reply a b e = cc e

-- ---- a fact that the events of its task keep

-- A lane has the request in turn only if it is the request's lane; then none waits, and this holds of the task.
abbrev IsRowAlone : (Task → Type 0) → ℕ → ℕ → LaneRow → Type 0
IsRowAlone Holds at k row = (queued : Queued) → row.current ≡ Some queued → (row.waiting ≡ []) × (k + 1 ≡ at) × Holds queued.task

-- Of the store, its disk and the counts of its faults: where the task is as long as there is no reply, and what is known of it with a
-- reply.
pub record IsAloneSo {D : Type 0} (Stands : Task → StoreValue D → Option History → Faults → Type 0) (Told : Reply → StoreValue D → Option History → Faults → Type 0) (at : ℕ) (world : WorldValue D) (history : Option History) (faults : Faults) : Type 0 where
  pub one : length world.replies ≡ 1
  pub rows : (k : ℕ) (row : LaneRow) → slice_get world.rows k ≡ Some row → IsRowAlone (λ t. Stands t world.store history faults) at k row
  pub told : (given : Reply) → HasReply world.replies 0 given → Told given world.store history faults

-- An event of the task leads from the one to the other.
abbrev pub KeepsCounted : {D : Type 0} → (Task → StoreValue D → Option History → Faults → Type 0) → (Reply → StoreValue D → Option History → Faults → Type 0) → Type 0
KeepsCounted Stands Told = (queued : Queued) (next : Task) (event : LaneEvent) (old new : StoreValue _) (before after : Option History) (first second : Faults) → Stands queued.task old before first → TaskGoesOn queued next event old new before after first second
    → (ended_by event.ended ≡ None → Stands next new after second) × ((given : Reply) → ended_by event.ended ≡ Some given → Told given new after second)

-- So it does whatever the counts are.
abbrev pub KeepsAlone : {D : Type 0} → (Task → StoreValue D → Option History → Type 0) → (Reply → StoreValue D → Option History → Type 0) → Type 0
KeepsAlone {D} Stands Told = KeepsCounted {D = D} (λ t store history faults. Stands t store history) (λ given store history faults. Told given store history)

pub alone_on : {D : Type 0} → (Stands : Task → StoreValue D → Option History → Faults → Type 0) (Told : Reply → StoreValue D → Option History → Faults → Type 0) (at : ℕ) → KeepsCounted Stands Told → StaysOver {D = D} (IsAloneSo Stands Told at)
alone_on {D} Stands Told at keeps lane old mid before between first counted e is = record {
  one = ap length e.works.replies_are ∙ (replies_many (ended_by e.works.event.ended) e.works.event.place old.replies ∙ is.one);
  rows = rows;
  told = λ given has. told_by (ended_by e.works.event.ended) refl given (subst (λ (rs : List (Option Reply)). HasReply rs 0 given) e.works.replies_are has);
}
  where
    own : (e.works.row.waiting ≡ []) × (lane - 1 + 1 ≡ at) × Stands e.works.goes.queued.task old.store before first
    own = is.rows (lane - 1) e.works.row e.works.there e.works.goes.queued e.works.goes.was

    steps : (ended_by e.works.event.ended ≡ None → Stands e.works.goes.next mid.store between counted) × ((given : Reply) → ended_by e.works.event.ended ≡ Some given → Told given mid.store between counted)
    steps = keeps e.works.goes.queued e.works.goes.next e.works.event old.store mid.store before between first counted own.2 e.works.goes.goes

    behind : (ended : Option Reply) → ended_by e.works.event.ended ≡ ended → (waiting : List Queued) → waiting ≡ [] → IsRowAlone (λ t. Stands t mid.store between counted) at (lane - 1) (after_event ended (record e.works.goes.queued { task = e.works.goes.next }) waiting)
    behind None ends waiting none queued h =
        let k : Some (record e.works.goes.queued { task = e.works.goes.next }) ≡ Some queued = h in
        let same : record e.works.goes.queued { task = e.works.goes.next } ≡ queued = cc k in
        (none, own.1, subst (λ (t : Task). Stands t mid.store between counted) (ap (λ (q : Queued). q.task) same) (steps.0 ends))
    behind (Some given) ends [] none queued h = absurd (let k : None ≡ Some queued = h in cc k)
    behind (Some given) ends (next ∷ rest) none queued h = absurd (cc none)

    rows : (k : ℕ) (row : LaneRow) → slice_get mid.rows k ≡ Some row → IsRowAlone (λ t. Stands t mid.store between counted) at k row
    rows k row there = by_lane (nat_cases (lane - 1) k)
      where
        here : slice_get (slice_set old.rows (lane - 1) e.works.now) k ≡ Some row
        here = sym (ap (λ (rows : List LaneRow). slice_get rows k) e.works.rows_are) ∙ there

        by_lane : (lane - 1 ≡ k) ⊎ (lane - 1 ≢ k) → IsRowAlone (λ t. Stands t mid.store between counted) at k row
        by_lane (inl same) =
            let now_is : e.works.now ≡ row = one_some e.works.now row (sym (get_set_same old.rows (lane - 1) e.works.now e.works.row e.works.there) ∙ (ap (slice_get (slice_set old.rows (lane - 1) e.works.now)) same ∙ here)) in
            subst (λ (n : ℕ). IsRowAlone (λ t. Stands t mid.store between counted) at n row) same
            (subst (λ (r : LaneRow). IsRowAlone (λ t. Stands t mid.store between counted) at (lane - 1) r) (sym e.works.goes.now_is ∙ now_is) (behind (ended_by e.works.event.ended) refl e.works.row.waiting own.0))
        by_lane (inr apart) = λ queued h.
            let other = (is.rows k row (sym (get_set_other old.rows (lane - 1) k e.works.now apart) ∙ here) queued h).1 in
            let mine = own.1 in
            absurd (apart (omega (arith, other, mine)))

    place_is : e.works.event.place ≡ 0
    place_is = let within = slice_get_within old.replies e.works.event.place None e.works.unanswered in let one = is.one in omega (arith, within, one)

    told_by : (ended : Option Reply) → ended_by e.works.event.ended ≡ ended → (given : Reply) → HasReply (replies_behind ended e.works.event.place old.replies) 0 given → Told given mid.store between counted
    told_by None ends given has =
        let k : None ≡ Some given = one_some None (Some given) (sym e.works.unanswered ∙ (ap (slice_get old.replies) place_is ∙ has)) in
        absurd (cc k)
    told_by (Some one) ends given has =
        let now : slice_get (slice_set old.replies e.works.event.place (Some one)) 0 ≡ Some (Some one) = ap (slice_get (slice_set old.replies e.works.event.place (Some one))) (sym place_is) ∙ get_set_same old.replies e.works.event.place (Some one) None e.works.unanswered in
        let k : Some one ≡ Some given = one_some (Some one) (Some given) (sym now ∙ has) in
        steps.1 given (ends ∙ k)

-- ---- as it begins

only_one : (at : ℕ) (asked : Request) (place lane : ℕ) (found : Request) → slice_get {X = ℕ × Request} ((at, asked) ∷ []) place ≡ Some (lane, found) → (at ≡ lane) × (asked ≡ found)
only_one at asked zero lane found is =
    let first : ℕ × Request = (at, asked) in
    let other : ℕ × Request = (lane, found) in
    let e : Some first ≡ Some other = is in
    let k : first ≡ other = cc e in
    (ap (λ (q : ℕ × Request). q.0) k, ap (λ (q : ℕ × Request). q.1) k)
only_one at asked (suc n) lane found is =
    let other : ℕ × Request = (lane, found) in
    absurd (let e : None ≡ Some other = is in cc e)

none_waits : (at lane place : ℕ) (waiting : List Queued) → place ∷ map (λ (q : Queued). q.place) waiting ≡ queue_of lane 0 ((at, request.Counts) ∷ []) → waiting ≡ []
none_waits at lane place waiting is = by_test (at == lane) waiting is
  where
    by_test : (b : Bool) (waiting : List Queued) → place ∷ map (λ (q : Queued). q.place) waiting ≡ (if b then 0 ∷ [] else []) → waiting ≡ []
    by_test true [] is = refl
    by_test true (next ∷ rest) is =
        let k : place ∷ next.place ∷ map (λ (q : Queued). q.place) rest ≡ 0 ∷ [] = is in
        let z : next.place ∷ map (λ (q : Queued). q.place) rest ≡ [] = cc k in
        absurd (cc z)
    by_test false waiting is = absurd (let k : place ∷ map (λ (q : Queued). q.place) waiting ≡ [] = is in cc k)

pub alone_fresh : (Holds : Task → Type 0) (at : ℕ) (asked : Request) (rows : List LaneRow) → ((t : Task) → BeginsTask asked t → Holds t) → AreFreshRows ((at, asked) ∷ []) rows → (k : ℕ) (row : LaneRow) → slice_get rows k ≡ Some row → IsRowAlone Holds at k row
alone_fresh Holds at asked rows holds are k row there queued h =
    let f = are k row there in
    let w = f.first queued h in
    let one = only_one at asked queued.place (k + 1) w.0 w.1 in
    let all : queued.place ∷ map (λ (q : Queued). q.place) row.waiting ≡ queue_of (k + 1) 0 ((at, asked) ∷ []) = subst (λ (c : Option Queued). queue_in (record { current = c; waiting = row.waiting }) ≡ queue_of (k + 1) 0 ((at, asked) ∷ [])) h f.all in
    (none_waits at (k + 1) queued.place row.waiting all, sym one.0, holds queued.task (subst (λ (q : Request). BeginsTask q queued.task) (sym one.1) w.2))

-- ---- a setting of flags

-- what the task of a listing, or of a setting of flags or keywords, tells
pub tells_ops : {D : Type 0} → (t next : Task) (asked : Request) (old new : StoreValue D) (before after : Option History) (ended : Option Reply) → IsOpsRequest asked → IsTaskOf t asked → TellsStore t next old new before after ended → (given : Reply) × (ended ≡ Some given) × Replies asked old new given
tells_ops (task.Ops t) next asked old new before after ended ops of tells = (tells.0, tells.1, subst (λ (q : Request). Replies q old new tells.0) (sym of) tells.2)
tells_ops (task.Deliver t) next (request.Deliver name time octets) old new before after ended ops of tells = absurd ops
tells_ops (task.Deliver t) next asked old new before after ended ops of tells = absurd of
tells_ops t next asked old new before after ended ops of tells = absurd (subst IsOpsRequest of ops)

abbrev pub StandsFlag : {D : Type 0} → List ℕ → Uid → ℕ → StoreValue D → Task → StoreValue D → Option History → Type 0
StandsFlag name uid flags s t store history = IsTaskOf t (request.Flag name uid flags) × (store ≡ s)

abbrev pub IsFlagTold : {D : Type 0} → List ℕ → Uid → ℕ → StoreValue D → Reply → StoreValue D → Option History → Type 0
IsFlagTold name uid flags s given store history = Replies (request.Flag name uid flags) s store given

pub keeps_flag : {D : Type 0} → (name : List ℕ) (uid : Uid) (flags : ℕ) (s : StoreValue D) → KeepsAlone (StandsFlag name uid flags s) (IsFlagTold name uid flags s)
keeps_flag name uid flags s queued next event old new before after first second is goes =
    let told = tells_ops queued.task next (request.Flag name uid flags) old new before after (ended_by event.ended) tt is.0 goes.keeps.tells in (
      λ more. absurd (let k : None ≡ Some told.0 = sym more ∙ told.1 in cc k),
      λ given e.
          let same : told.0 ≡ given = some_reply told.0 given (sym told.1 ∙ e) in
          subst (λ (v : StoreValue _). Replies (request.Flag name uid flags) v new given) is.1 (subst (λ (r : Reply). Replies (request.Flag name uid flags) old new r) same told.2),
    )

-- ---- an expunge

-- nothing has happened, or the message was there
abbrev AtExpunge : {D : Type 0} → List ℕ → Uid → StoreValue D → Option History → ExpungeStage → StoreValue D → Option History → Type 0
AtExpunge name uid s mid expunge_stage.First store history = (store ≡ s) × (history ≡ mid)
AtExpunge name uid s mid (expunge_stage.Owing owed) store history = missing_message name uid.0 s ≡ None

abbrev pub StandsExpunge : {D : Type 0} → List ℕ → Uid → StoreValue D → Option History → Task → StoreValue D → Option History → Type 0
StandsExpunge name uid s mid (task.Expunge t) store history = (t.name ≡ name) × (t.uid ≡ uid) × (store.stopped ≡ false) × AtExpunge name uid s mid t.stage store history
StandsExpunge name uid s mid (task.Ops t) store history = request.Expunge name uid ≡ t.request
StandsExpunge name uid s mid other store history = ⊥

-- Its reply is by what the store had that was opened, whose disk a refusal leaves as it was.
pub record IsChangeTold (cause : Option Refusal) (mid : Option History) (given : Reply) (history : Option History) : Type 0 where
  pub given_is : IsChangeAnswer cause given
  pub unchanged : (why : Refusal) → given ≡ reply.Refused why → (why ≡ refusal.Stopped → ⊥) → IsIdle mid history

-- the answer of a message that is there, and of one that isn't
pub there_answers : (cause : Option Refusal) (given : Reply) → cause ≡ None → (given ≡ reply.Done) ⊎ ((given ≡ reply.Refused refusal.NoMemory) ⊎ (given ≡ reply.Refused refusal.Stopped)) → IsChangeAnswer cause given
there_answers cause given none is = subst (λ (o : Option Refusal). IsChangeAnswer o given) (sym none) is

pub missing_answers : (cause : Option Refusal) (why : Refusal) → cause ≡ Some why → IsChangeAnswer cause (reply.Refused why)
missing_answers cause why some = subst (λ (o : Option Refusal). IsChangeAnswer o (reply.Refused why)) (sym some) refl

first_told : {D : Type 0} → (name : List ℕ) (uid : Uid) (old new : StoreValue D) (why : Refusal) → ExpungeAnswers name uid expunge_stage.First old new expunge_stage.First (progress_by (Some (reply.Refused why))) → IsChangeAnswer (missing_message name uid.0 old) (reply.Refused why) × ((why ≡ refusal.Stopped → ⊥) → new ≡ old)
first_told name uid old new refusal.Stopped a = (there_answers (missing_message name uid.0 old) (reply.Refused refusal.Stopped) a.1 (inr (inr refl)), λ running. absurd (running refl))
first_told name uid old new why (same, inl some) = (missing_answers (missing_message name uid.0 old) why some, λ running. same)
first_told name uid old new why (same, inr none) = (there_answers (missing_message name uid.0 old) (reply.Refused why) none.0 (inr (inl (ap reply.Refused none.1))), λ running. same)

pub one_refusal : (a b : Refusal) → reply.Refused a ≡ reply.Refused b → a ≡ b
one_refusal a b e = cc e

pub told_so : (cause : Option Refusal) (mid history : Option History) (one : Reply) → IsChangeTold cause mid one history → (given : Reply) → Some one ≡ Some given → IsChangeTold cause mid given history
told_so cause mid history one is given e = subst (λ (r : Reply). IsChangeTold cause mid r history) (some_reply one given e) is

expunge_at : {D : Type 0} → (name : List ℕ) (uid : Uid) (s : StoreValue D) (mid : Option History) (now next : ExpungeStage) (old new : StoreValue D) (before after : Option History) (ended : Option Reply) → AtExpunge name uid s mid now old before → ExpungeAnswers name uid now old new next (progress_by ended) → (new ≡ old → IsIdle before after)
    → (ended ≡ None → AtExpunge name uid s mid next new after) × ((given : Reply) → ended ≡ Some given → IsChangeTold (missing_message name uid.0 s) mid given after)
expunge_at name uid s mid expunge_stage.First (expunge_stage.Owing owed) old new before after None at a same = (
  λ more. subst (λ (v : StoreValue _). missing_message name uid.0 v ≡ None) at.0 (not_missing name uid.0 old a.0 a.1 a.2),
  λ given e. absurd (let k : None ≡ Some given = e in cc k),
)
expunge_at name uid s mid expunge_stage.First expunge_stage.First old new before after (Some (reply.Refused why)) at a same =
    let told = first_told name uid old new why a in (
      λ more. absurd (let k : Some (reply.Refused why) ≡ None = more in cc k),
      told_so (missing_message name uid.0 s) mid after (reply.Refused why)
          (record {
            given_is = subst (λ (v : StoreValue _). IsChangeAnswer (missing_message name uid.0 v) (reply.Refused why)) at.0 told.0;
            unchanged = λ other e running. subst (λ (h : Option History). IsIdle h after) at.1 (same (told.1 (λ f. running (sym (one_refusal why other e) ∙ f))));
          }),
    )
expunge_at name uid s mid (expunge_stage.Owing owed) expunge_stage.First old new before after (Some reply.Done) at a same = (
  λ more. absurd (let k : Some reply.Done ≡ None = more in cc k),
  told_so (missing_message name uid.0 s) mid after reply.Done (record { given_is = there_answers (missing_message name uid.0 s) reply.Done at (inl refl); unchanged = λ why e. absurd (let k : reply.Done ≡ reply.Refused why = e in cc k) }),
)
expunge_at name uid s mid (expunge_stage.Owing owed) (expunge_stage.Owing still) old new before after (Some (reply.Refused refusal.Stopped)) at a same = (
  λ more. absurd (let k : Some (reply.Refused refusal.Stopped) ≡ None = more in cc k),
  told_so (missing_message name uid.0 s) mid after (reply.Refused refusal.Stopped)
      (record { given_is = there_answers (missing_message name uid.0 s) (reply.Refused refusal.Stopped) at (inr (inr refl)); unchanged = λ why e running. absurd (running (sym (one_refusal refusal.Stopped why e))) }),
)
expunge_at name uid s mid now next old new before after ended at a same = absurd a

expunge_on : {D : Type 0} → (name : List ℕ) (uid : Uid) (s : StoreValue D) (mid : Option History) (t next : Task) (old new : StoreValue D) (before after : Option History) (ended : Option Reply) → StandsExpunge name uid s mid t old before → StaysOfRequest t next → TellsStore t next old new before after ended → (new ≡ old → IsIdle before after) → (ended ≡ None → new.stopped ≡ false)
    → (ended ≡ None → StandsExpunge name uid s mid next new after) × ((given : Reply) → ended ≡ Some given → IsChangeTold (missing_message name uid.0 s) mid given after)
expunge_on name uid s mid (task.Expunge t) (task.Expunge next) old new before after ended is kind tells same runs =
    let a = subst (λ (n : List ℕ). ExpungeAnswers n uid t.stage old new next.stage (progress_by ended)) is.0 (subst (λ (u : Uid). ExpungeAnswers t.name u t.stage old new next.stage (progress_by ended)) is.1 (tells is.2)) in
    let k = expunge_at name uid s mid t.stage next.stage old new before after ended is.3 a same in
    (λ more. (kind.0 ∙ is.0, kind.1 ∙ is.1, runs more, k.0 more), k.1)
expunge_on name uid s mid (task.Ops t) next old new before after ended is kind tells same runs = absurd (subst IsOpsRequest (sym is) (ops_asked t.request old new tells.0 tells.2))
expunge_on name uid s mid (task.Expunge t) next old new before after ended is kind tells same runs = absurd kind
expunge_on name uid s mid t next old new before after ended is kind tells same runs = absurd is

pub keeps_expunge : {D : Type 0} → (name : List ℕ) (uid : Uid) (s : StoreValue D) (mid : Option History) → KeepsAlone (StandsExpunge name uid s mid) (λ given store history. IsChangeTold (missing_message name uid.0 s) mid given history)
keeps_expunge name uid s mid queued next event old new before after first second is goes =
    expunge_on name uid s mid queued.task next old new before after (ended_by event.ended) is goes.keeps.request goes.keeps.tells (λ back. goes.keeps.same (ap (λ (v : StoreValue _). v.disk) back))
    (λ more. not_true new.stopped (λ stopped. let k : None ≡ Some (reply.Refused refusal.Stopped) = sym more ∙ ap ended_by (goes.stopped stopped) in cc k))

pub begun_expunge : {D : Type 0} → (name : List ℕ) (uid : Uid) (s : StoreValue D) (mid : Option History) → s.stopped ≡ false → (t : Task) → BeginsTask (request.Expunge name uid) t → StandsExpunge name uid s mid t s mid
begun_expunge name uid s mid running (task.Expunge t) b =
    let k : request.Expunge name uid ≡ request.Expunge t.name t.uid = b.is_of in
    let names : name ≡ t.name = cc k in
    let uids : uid ≡ t.uid = cc k in
    (sym names, sym uids, running, subst (λ (now : ExpungeStage). AtExpunge name uid s mid now s mid) (sym b.at) (refl, refl))
begun_expunge name uid s mid running (task.Ops t) b = b.is_of
begun_expunge name uid s mid running (task.Deliver t) b = absurd b.is_of
begun_expunge name uid s mid running t b = absurd (cc b.is_of)
