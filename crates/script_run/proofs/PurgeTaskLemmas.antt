-- A purge alone: what its task knows from one event to the next.
use Rattle.std.specs.Prelude.{◌≡◌, ◌≢◌, ℕ, false, Contains, Option, Some, None}
use Rattle.std.proofs.Common.{refl, sym, ◌∙◌, ap, subst}
use Rattle.disk_model.specs.Disk.{Between, Files, History, IsIdle}
use Rattle.disk_model.proofs.BetweenLemmas.{between-begins, between-then}
use Rattle.mdbox_base.specs.declared.replies.Refusal.{Refusal}
use Rattle.mdbox_base.specs.declared.replies.Refusal.TheVariants as refusal
use Rattle.mdbox_base.specs.declared.replies.Reply.{Reply}
use Rattle.mdbox_base.specs.declared.replies.Reply.TheVariants as reply
use Rattle.mdbox_base.specs.declared.requests.Request.TheVariants as request
use Rattle.model_meaning.specs.MapMeaning.{MapMeaning, MapRecord}
use Rattle.model_store.specs.Settled.{files_of}
use Rattle.journal.specs.QuietPurge.{PurgesQuietly}
use Rattle.store_core.specs.Value.{StoreValue}
use Rattle.task_claims.specs.Claims.{HasNoTask}
use Rattle.task_steps.specs.Step.{ended_by}
use Rattle.task_steps.proofs.OneEventLemmas.{not_true}
use Rattle.mail_ops.specs.Requests.{IsOpsRequest}
use Rattle.purge_task.specs.Clause.{KeepsRegions}
use Rattle.purge_task.specs.Dropped.{DropsFrom, DropsUnwanted, TellsCounts}
use Rattle.purge_task.specs.Found.{IsFindRefusal}
use Rattle.purge_task.specs.Keeping.{PurgeValue}
use Rattle.purge_task.specs.Quiet.{HasBeenQuiet, HaveSameRegions, IsQuietFrom, KeepsQuiet, StaysQuiet}
use Rattle.purge_task.specs.declared.task.PurgeStage.{PurgeStage}
use Rattle.purge_task.specs.declared.task.PurgeStage.TheVariants as stage
use Rattle.purge_task.proofs.DropLemmas.{drops_both, drops_none}
use Rattle.purge_task.proofs.QuietCallLemmas.{only_first, quiet_from}
use Rattle.purge_task.proofs.QuietRegionLemmas.{regions_then}
use Rattle.lane_tasks.specs.Clause.{PurgesSo, StaysOfRequest, TellsStore, progress_by}
use Rattle.lane_tasks.specs.Tasks.{BeginsTask}
use Rattle.lane_tasks.specs.declared.task.Task.{Task}
use Rattle.lane_tasks.specs.declared.task.Task.TheVariants as task
use Rattle.lane_tasks.proofs.StepLemmas.{ops_asked}
use Rattle.script_run.specs.Purged.{HasPurgedQuietly, IsPurgeAnswer, LacksRoom}
use Rattle.script_run.proofs.OneTaskLemmas.{KeepsAlone}

-- ---- what it knows

-- The map is as it was before the first event; and then it has dropped as many records as the purge has counted.
abbrev AtPurge : MapMeaning → PurgeStage → ℕ → MapMeaning → Type 0
AtPurge m stage.First dropped now = now ≡ m
AtPurge m other dropped now = DropsUnwanted m now dropped

-- As far as the disk tells, it has been quiet at this stage since the files that the opening left, and the map that the store had then.
abbrev AtQuiet : {D : Type 0} → StoreValue D → Option History → PurgeStage → PurgeValue → StoreValue D → Option History → Type 0
AtQuiet s mid at t store history = Between (λ began now. IsQuietFrom at (files_of began) s.map t store (files_of now)) mid history

-- Before the first event nothing has happened.
abbrev AtOpened : {D : Type 0} → StoreValue D → Option History → PurgeStage → StoreValue D → Option History → Type 0
AtOpened s mid stage.First store history = (history ≡ mid) × (store ≡ s)
AtOpened s mid other store history = Unit {0}

abbrev pub StandsPurge : {D : Type 0} → StoreValue D → Option History → Task → StoreValue D → Option History → Type 0
StandsPurge s mid (task.Purge t) store history = (store.stopped ≡ false) × AtPurge s.map t.stage t.dropped store.map × AtQuiet s mid t.stage t store history × AtOpened s mid t.stage store history
StandsPurge s mid (task.Ops t) store history = request.Purge ≡ t.request
StandsPurge s mid other store history = ⊥

-- Its reply tells what it made of the files that the opening left, and of the map that the store had which was opened. Where it is refused
-- but by a failed call, nothing has changed; and where it is refused for lack of numbers or room, it lacks them.
pub record IsPurgeTold {D : Type 0} (s : StoreValue D) (mid : Option History) (given : Reply) (store : StoreValue D) (history : Option History) : Type 0 where
  pub answer : IsPurgeAnswer given mid history s.map store.map
  pub unchanged : (why : Refusal) → given ≡ reply.Refused why → why ≢ refusal.ReadFault → why ≢ refusal.Stopped → IsIdle mid history
  pub room : (limit : ℕ) → given ≡ reply.Refused (refusal.StoreFull limit) → LacksRoom s.map s.files.highest mid

-- ---- event after event

-- with an event it has dropped so many
dropped_on : (m old new : MapMeaning) (at : PurgeStage) (before after : ℕ) → AtPurge m at before old → DropsFrom at before after old new → DropsUnwanted m new after
dropped_on m old new stage.First before after is drops = subst (λ (n : ℕ). DropsUnwanted m new n) (sym drops.1) (drops_none m new (drops.0 ∙ is))
dropped_on m old new at before after is drops = subst (λ (n : ℕ). DropsUnwanted m new n) (sym drops.1) (drops_both m old new before drops.0 is drops.2)

-- it goes on from another stage than the first
goes_at : (m now : MapMeaning) (at : PurgeStage) (dropped : ℕ) → at ≢ stage.First → DropsUnwanted m now dropped → AtPurge m at dropped now
goes_at m now stage.First dropped other drops = absurd (other refl)
goes_at m now at dropped other drops = drops

goes_from : {D : Type 0} → (s store : StoreValue D) (mid history : Option History) (at : PurgeStage) → at ≢ stage.First → AtOpened s mid at store history
goes_from s store mid history stage.First other = absurd (other refl)
goes_from s store mid history at other = tt

-- the first event finds the store as it was opened
opened_first : {D : Type 0} → (s store : StoreValue D) (mid before : Option History) (at : PurgeStage) → at ≡ stage.First → AtOpened s mid at store before → (before ≡ mid) × (store ≡ s)
opened_first s store mid before at first was = subst (λ (k : PurgeStage). AtOpened s mid k store before) first was

-- and changes nothing
idle_first : {D : Type 0} → (s store : StoreValue D) (mid before after : Option History) (at : PurgeStage) → at ≡ stage.First → AtOpened s mid at store before → IsIdle before after → IsIdle mid after
idle_first s store mid before after at first was idle = subst (λ (h : Option History). IsIdle h after) (opened_first s store mid before at first was).0 idle

-- what it looked for in vain
room_lacks : {D : Type 0} → (store : StoreValue D) (history : Option History) (limit : ℕ) → IsFindRefusal store history (refusal.StoreFull limit) → LacksRoom store.map store.files.highest history
room_lacks store history limit (most, (files, found, lacks)) = record { files = files; rising = found.finds.known.rising; unclean = found.finds.unclean; each = found.each; lacks = lacks }

-- a record that is there was there
was_before : (at : PurgeStage) (before after : ℕ) (old new : MapMeaning) → DropsFrom at before after old new → (now : MapRecord) → Contains new.records now → (was : MapRecord) × Contains old.records was × (was.uid ≡ now.uid)
was_before stage.First before after old new drops now there = (now, subst (λ (m : MapMeaning). Contains m.records now) drops.0 there, refl)
was_before at before after old new drops now there = let k = drops.2.stay now there in (k.0, k.1, ap (λ (r : MapRecord). r.uid) (sym k.2))

regions_at : {D : Type 0} → (at : PurgeStage) (began files later : Files) (first : MapMeaning) (t : PurgeValue) (old new : StoreValue D) → IsQuietFrom at began first t old files → ((now : MapRecord) → Contains new.map.records now → (was : MapRecord) × Contains old.map.records was × (was.uid ≡ now.uid)) → HaveSameRegions files later old.map new.map → HaveSameRegions began later first new.map
regions_at stage.First began files later first t old new from was same = subst (λ (f : Files). HaveSameRegions f later first new.map) (sym from.1) (subst (λ (m : MapMeaning). HaveSameRegions files later m new.map) (sym from.2) same)
regions_at at began files later first t old new from was same = regions_then began files later first old.map new.map was from.regions same

kept_on : {D : Type 0} → (s old new : StoreValue D) (mid before after : Option History) (t : PurgeValue) → AtQuiet s mid t.stage t old before → ((now : MapRecord) → Contains new.map.records now → (was : MapRecord) × Contains old.map.records was × (was.uid ≡ now.uid)) → KeepsRegions old.map new.map before after
    → KeepsRegions s.map new.map mid after
kept_on s old new mid before after t was rows same =
    between-then (λ began now. IsQuietFrom t.stage (files_of began) s.map t old (files_of now)) (λ was now. HaveSameRegions (files_of was) (files_of now) old.map new.map) (λ began now. HaveSameRegions (files_of began) (files_of now) s.map new.map) mid before after
    (λ began now later from kept. regions_at t.stage (files_of began) (files_of now) (files_of later) s.map t old new from rows kept) was same

-- it has been quiet with an event that goes on, and with the last one
quiet_on : {D : Type 0} → (s old new : StoreValue D) (mid before after : Option History) (t next : PurgeValue) → next.stage ≢ stage.First → AtQuiet s mid t.stage t old before → Between (StaysQuiet t next old new) before after → AtQuiet s mid next.stage next new after
quiet_on s old new mid before after t next begun was stays =
    between-then (λ began now. IsQuietFrom t.stage (files_of began) s.map t old (files_of now)) (StaysQuiet t next old new) (λ began now. IsQuietFrom next.stage (files_of began) s.map next new (files_of now)) mid before after
    (λ began now later from stay. quiet_from next.stage (files_of began) (files_of later) s.map next new begun (stay (files_of began) s.map from)) was stays

quiet_told : {D : Type 0} → (s old new : StoreValue D) (mid before after : Option History) (t : PurgeValue) (dropped files instances : ℕ) → AtQuiet s mid t.stage t old before → Between (HasBeenQuiet dropped files instances t old new) before after → HasPurgedQuietly dropped files instances mid after s.map new.map
quiet_told s old new mid before after t dropped files instances was been =
    between-then (λ began now. IsQuietFrom t.stage (files_of began) s.map t old (files_of now)) (HasBeenQuiet dropped files instances t old new) (λ began now. PurgesQuietly (files_of began) (files_of now) s.map new.map dropped files instances) mid before after
    (λ began now later from done. done (files_of began) s.map from) was been

purge_told : (m now : MapMeaning) (mid after : Option History) (t next : PurgeValue) (given : Reply) → TellsCounts t next (progress_by (Some given)) → ((given ≡ reply.Refused refusal.Stopped → ⊥) → DropsUnwanted m now next.dropped) → ((dropped files instances : ℕ) → given ≡ reply.Purged dropped files instances → HasPurgedQuietly dropped files instances mid after m now) → ((given ≡ reply.Refused refusal.Stopped → ⊥) → KeepsRegions m now mid after)
    → IsPurgeAnswer given mid after m now
purge_told m now mid after t next (reply.Purged dropped files instances) counts drops quiet kept = (subst (λ (n : ℕ). DropsUnwanted m now n) (sym counts.1.0) (drops (λ e. cc e)), quiet dropped files instances refl)
purge_told m now mid after t next (reply.Refused refusal.Stopped) counts drops quiet kept = tt
purge_told m now mid after t next given counts drops quiet kept = (next.dropped, drops (λ e. cc e), kept (λ e. cc e))

purge_at : {D : Type 0} → (s old new : StoreValue D) (mid before after : Option History) (t next : PurgeValue) (ended : Option Reply) → StandsPurge s mid (task.Purge t) old before → PurgesSo t next old new before after ended → ((ended ≡ Some (reply.Refused refusal.Stopped) → ⊥) → new.stopped ≡ false)
    → (ended ≡ None → StandsPurge s mid (task.Purge next) new after) × ((given : Reply) → ended ≡ Some given → IsPurgeTold s mid given new after)
purge_at {D} s old new mid before after t next ended stands so runs = (more, told)
  where
    dropped : (ended ≡ Some (reply.Refused refusal.Stopped) → ⊥) → DropsUnwanted s.map new.map next.dropped
    dropped other = dropped_on s.map old.map new.map t.stage t.dropped next.dropped stands.1 (so.drops (runs other))

    kept : (ended ≡ Some (reply.Refused refusal.Stopped) → ⊥) → KeepsRegions s.map new.map mid after
    kept other = kept_on s old new mid before after t stands.2 (was_before t.stage t.dropped next.dropped old.map new.map (so.drops (runs other))) (so.regions (runs other))

    same : (given : Reply) → ended ≡ Some given → ended ≡ Some (reply.Refused refusal.Stopped) → given ≡ reply.Refused refusal.Stopped
    same given e stopped = let k : Some given ≡ Some (reply.Refused refusal.Stopped) = sym e ∙ stopped in cc k

    quiet : (given : Reply) → ended ≡ Some given → (records files instances : ℕ) → given ≡ reply.Purged records files instances → HasPurgedQuietly records files instances mid after s.map new.map
    quiet given e records files instances told =
        let is_told : ended ≡ Some (reply.Purged records files instances) = e ∙ ap (λ (r : Reply). Some r) told in
        let keeps = subst (λ (o : Option Reply). KeepsQuiet t next (progress_by o) old new before after) is_told so.quiet in
        quiet_told s old new mid before after t records files instances stands.2 (keeps (runs (λ stopped. let k : Some (reply.Purged records files instances) ≡ Some (reply.Refused refusal.Stopped) = sym is_told ∙ stopped in cc k)))

    goes_on : ended ≡ None → ended ≡ Some (reply.Refused refusal.Stopped) → ⊥
    goes_on none stopped = let k : None ≡ Some (reply.Refused refusal.Stopped) = sym none ∙ stopped in cc k

    more : ended ≡ None → StandsPurge s mid (task.Purge next) new after
    more none =
        let begun : next.stage ≢ stage.First = subst (λ (a : Option Reply). TellsCounts t next (progress_by a)) none so.counts in
        let keeps = subst (λ (o : Option Reply). KeepsQuiet t next (progress_by o) old new before after) none so.quiet in
        (runs (goes_on none), goes_at s.map new.map next.stage next.dropped begun (dropped (goes_on none)), quiet_on s old new mid before after t next begun stands.2 (keeps (runs (goes_on none))), goes_from s new mid after next.stage begun)

    room : (given : Reply) → ended ≡ Some given → (limit : ℕ) → given ≡ reply.Refused (refusal.StoreFull limit) → LacksRoom s.map s.files.highest mid
    room given e limit is =
        let why : Refusal = refusal.StoreFull limit in
        let ends : ended ≡ Some (reply.Refused why) = e ∙ ap (λ (r : Reply). Some r) is in
        let first = so.refused why ends (λ k. cc k) (λ k. cc k) in
        let begun = opened_first s old mid before t.stage first stands.3 in
        let lacks = room_lacks old before limit ((so.first first).full limit (ap progress_by ends)) in
        subst (λ (h : Option History). LacksRoom s.map s.files.highest h) begun.0 (subst (λ (v : StoreValue D). LacksRoom v.map v.files.highest before) begun.1 lacks)

    told : (given : Reply) → ended ≡ Some given → IsPurgeTold s mid given new after
    told given e = record {
      answer = purge_told s.map new.map mid after t next given (subst (λ (o : Option Reply). TellsCounts t next (progress_by o)) e so.counts) (λ other. dropped (λ stopped. other (same given e stopped))) (λ records files instances told. quiet given e records files instances told) (λ other. kept (λ stopped. other (same given e stopped)));
      unchanged = λ why is read stopped. let first = so.refused why (e ∙ ap (λ (r : Reply). Some r) is) read stopped in idle_first s old mid before after t.stage first stands.3 (so.first first).idle;
      room = λ limit is. room given e limit is;
    }

purge_on : {D : Type 0} → (s : StoreValue D) (mid : Option History) (t next : Task) (old new : StoreValue D) (before after : Option History) (ended : Option Reply) → StandsPurge s mid t old before → StaysOfRequest t next → TellsStore t next old new before after ended → ((ended ≡ Some (reply.Refused refusal.Stopped) → ⊥) → new.stopped ≡ false)
    → (ended ≡ None → StandsPurge s mid next new after) × ((given : Reply) → ended ≡ Some given → IsPurgeTold s mid given new after)
purge_on s mid (task.Purge t) (task.Purge next) old new before after ended is kind tells runs = purge_at s old new mid before after t next ended is tells runs
purge_on s mid (task.Ops t) next old new before after ended is kind tells runs = absurd (subst IsOpsRequest (sym is) (ops_asked t.request old new tells.0 tells.2))
purge_on s mid (task.Purge t) next old new before after ended is kind tells runs = absurd kind
purge_on s mid t next old new before after ended is kind tells runs = absurd is

pub keeps_purge : {D : Type 0} → (s : StoreValue D) (mid : Option History) → KeepsAlone (StandsPurge s mid) (IsPurgeTold s mid)
keeps_purge s mid queued next event old new before after first second is goes =
    purge_on s mid queued.task next old new before after (ended_by event.ended) is goes.keeps.request goes.keeps.tells (λ other. not_true new.stopped (λ stopped. other (ap ended_by (goes.stopped stopped))))

-- of an open store, of which nobody claims anything
quiet_begun : {D : Type 0} → (s : StoreValue D) (mid : Option History) (t : PurgeValue) → HasNoTask s → AtQuiet s mid stage.First t s mid
quiet_begun s mid t unused = between-begins (λ began now. IsQuietFrom stage.First (files_of began) s.map t s (files_of now)) mid (λ disk. (only_first s unused, refl, refl))

pub begun_purge : {D : Type 0} → (s : StoreValue D) (mid : Option History) → HasNoTask s → s.stopped ≡ false → (t : Task) → BeginsTask request.Purge t → StandsPurge s mid t s mid
begun_purge s mid unused running (task.Purge t) b = (running, subst (λ (at : PurgeStage). AtPurge s.map at t.dropped s.map) (sym b.at) refl, subst (λ (at : PurgeStage). AtQuiet s mid at t s mid) (sym b.at) (quiet_begun s mid t unused), subst (λ (at : PurgeStage). AtOpened s mid at s mid) (sym b.at) (refl, refl))
begun_purge s mid unused running (task.Ops t) b = b.is_of
begun_purge s mid unused running (task.Deliver t) b = absurd b.is_of
begun_purge s mid unused running t b = absurd (cc b.is_of)
