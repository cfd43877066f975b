-- Where tasks begin, and that they stay where they stand, and ready, beside events of others.
use Rattle.lane_tasks.proofs.Common.{◌≡◌, ℕ, true, false, List, [], Option, None, refl, sym, ◌∙◌, ap, subst, arith, inl, ◌≢◌, ◌⊎◌, ◌≤◌, All, list_any, All-nil, Faults, History, Reply, Request, Run, RunEvent, and_then, own_events, gave_back, took_file, AreFilesInOrder, IsStore, StoreValue, Claims}
use Rattle.lane_tasks.proofs.Common.{Emptied, Held, Taken, make_claims, IsAt, MakeStage, fetch_claims, IsAtFetch, FetchStage, save_claims, IsAtSave, IsReadyToDeliver, SaveValue, SaveStage, purge_claims, IsAtPurgeStage, PurgeStage, IsMakeNumber, IsReadyTask, HasNamedFound, StandsTask, TookNoFile}
use Rattle.lane_tasks.proofs.Common.{claims_at, flat_map, Task}
use Rattle.mdbox_base.specs.declared.requests.Request.TheVariants as request
use Rattle.list_machine.specs.Run.{uid_added}
use Rattle.journal.specs.Events.{last_refusal}
use Rattle.task_claims.specs.Claims.{ClaimsNothing, Due, Made, Thing}
use Rattle.task_claims.specs.Stable.{Beside}
use Rattle.task_claims.proofs.RestLemmas.{none_claimed_of}
use Rattle.task_steps.specs.Step.{GivesNew, HasNotBegun}
use Rattle.task_steps.proofs.SeenLemmas.{not_begun_stays}
use Rattle.mail_ops.specs.Claims.{copy_claims, expunge_claims, move_claims}
use Rattle.mail_ops.specs.Copy.{IsAtCopy, IsReadyToCopy, copy_dues}
use Rattle.mail_ops.specs.CopyStages.{IsToRaise}
use Rattle.mail_ops.specs.Deleting.{IsAtDelete, IsReadyToDelete}
use Rattle.mail_ops.specs.Expunging.{IsAtExpunge, expunge_amounts, expunge_dues}
use Rattle.mail_ops.specs.Making.{IsAtMake, IsReadyToMake}
use Rattle.mail_ops.specs.Moving.{IsAtMove, IsReadyToMove, move_dues}
use Rattle.mail_ops.specs.Owing.{AreDueIn}
use Rattle.mail_ops.specs.declared.copy.CopyStage.{CopyStage}
use Rattle.mail_ops.specs.declared.copy.CopyStage.TheVariants as copy_stage
use Rattle.mail_ops.specs.declared.deleting.DeleteStage.{DeleteStage}
use Rattle.mail_ops.specs.declared.expunging.ExpungeStage.{ExpungeStage}
use Rattle.mail_ops.specs.declared.expunging.ExpungeStage.TheVariants as expunge_stage
use Rattle.mail_ops.specs.declared.making.MakeStage.TheVariants as make_stage
use Rattle.mail_ops.specs.declared.moving.MoveStage.{MoveStage}
use Rattle.mail_ops.specs.declared.moving.MoveStage.TheVariants as move_stage
use Rattle.mail_ops.specs.declared.task.TaskStage.{TaskStage}
use Rattle.mail_ops.specs.declared.task.TaskStage.TheVariants as ops_stage
use Rattle.mail_ops.proofs.CopyStepLemmas.{copy_kept}
use Rattle.mail_ops.proofs.ChangeClaimLemmas.{delete_stable}
use Rattle.mail_ops.proofs.DeleteStageLemmas.{delete_kept}
use Rattle.mail_ops.proofs.ExpungeStepLemmas.{expunge_kept}
use Rattle.mail_ops.proofs.MakeStageLemmas.{make_kept}
use Rattle.mail_ops.proofs.MoveStepLemmas.{move_kept}
use Rattle.mail_ops.proofs.StableLemmas.{copy_stable, expunge_stable, make_stable, move_stable}
use Rattle.mail_ops.proofs.StageLemmas.{stages_kept}
use Rattle.attach_detach.specs.declared.message.Prepared.{Prepared}
use Rattle.mail_fetch.specs.Claims.{IsReadyToFetch}
use Rattle.mail_fetch.proofs.StableLemmas.{fetch_stable, stay_beside}
use Rattle.mail_save.specs.SaveSeen.{HasItsParts}
use Rattle.mail_save.specs.declared.task.SaveStage.TheVariants as save_stage
use Rattle.mail_save.proofs.SaveKeptLemmas.{save_kept}
use Rattle.mail_save.proofs.SaveReadyLemmas.{begins_ready as fresh_delivery}
use Rattle.mail_save.proofs.SaveTakenLemmas.{taken_claimed}
use Rattle.mail_save.proofs.StableSaveLemmas.{save_stable}
use Rattle.purge_task.specs.Keeping.{HasPurged}
use Rattle.purge_task.proofs.BesideLemmas.{purge_stands}
use Rattle.purge_task.proofs.StableLemmas.{purge_stable}
use Rattle.resync_task.specs.Stages.{ResyncAt, IsAtResync}
use Rattle.resync_task.proofs.ResyncEventLemmas.{resyncs_are_kept}
use Rattle.lane_tasks.specs.Clause.{PassesBy, PassesInRun}
use Rattle.lane_tasks.specs.Tasks.{BeginsTask, IsAtDelivery, IsAtFirst, IsAtTask, IsFreshDelivery, TookFiles}
use Rattle.lane_tasks.specs.declared.task.Task.TheVariants as task
use Rattle.lane_tasks.proofs.FilesLemmas.{none_taken, took_none_other}
use Rattle.lane_tasks.proofs.PurgeApartLemmas.{apart_first, apart_other}
use Rattle.lane_tasks.proofs.NamedLemmas.{names_beside}
use Rattle.lane_tasks.proofs.PurgeTakenLemmas.{purge_taken}

-- ---- beside events of others

abbrev StaysReady : {D : Type 0} → Task → StoreValue D → StoreValue D → Option History → Option History → Type 0
StaysReady t old new before after = Beside (claims_at t) old new before after → IsReadyTask t old before → IsReadyTask t new after

pub task_stable : {D : Type 0} → (t : Task) (old new : StoreValue D) (before after : Option History) → IsStore before old → IsStore after new → AreFilesInOrder new.files → StaysReady t old new before after
task_stable (task.Make t) old new before after was is order b ready = (make_stable t.stage old new before after b ready.0, ready.1)
task_stable (task.Copy t) old new before after was is order b ready = copy_stable t.name t.uid t.stage old new before after b ready
task_stable (task.Move t) old new before after was is order b ready = move_stable t.name t.uid t.stage old new before after b ready
task_stable (task.Expunge t) old new before after was is order b ready = expunge_stable t.stage old new before after b ready
task_stable (task.Fetch t) old new before after was is order b ready = fetch_stable t.stage old new before after b ready
task_stable (task.Delete t) old new before after was is order b ready = delete_stable t.stage old new before after b ready
task_stable (task.Purge t) old new before after was is order b ready = purge_stable t old new before after was is order b ready
task_stable (task.Deliver t) old new before after was is order b ready = (ready.0, save_stable t.stage t.name t.time t.size ready.0 old new before after b ready.1)
task_stable t old new before after was is order b ready = tt

delivery_stays : {D : Type 0} → (t : SaveValue) (old new : StoreValue D) (before after : Option History) (asked : Request) (run : Run) (place : ℕ) (said : List Reply) (event : RunEvent) → PassesBy (task.Deliver t) old new before after → event.request ≢ place → GivesNew run event
    → IsAtDelivery t old before asked run place said → IsAtDelivery t new after asked (and_then run event) place said
delivery_stays t old new before after (request.Deliver name time octets) run place said event passes other gives at = (
  save_kept t.stage run place said event other gives at.0,
  at.1,
  λ runs. save_stable t.stage t.name t.time t.size octets old new before after (passes runs).2 (at.2 (passes runs).0),
  λ runs. names_beside t.stage old new before after run place event (passes runs).2 other (at.3 (passes runs).0),
)
delivery_stays t old new before after asked run place said event passes other gives at = absurd at

at_stays : {D : Type 0} → (t : Task) (old new : StoreValue D) (before after : Option History) (faults : Faults) (asked : Request) (run : Run) (place : ℕ) (said : List Reply) (event : RunEvent) → PassesBy t old new before after → PassesInRun t new after faults run event → event.request ≢ place → GivesNew run event
    → IsAtTask t old before asked run place said → IsAtTask t new after asked (and_then run event) place said
at_stays (task.Ops t) old new before after faults asked run place said event passes in_run other gives at = stages_kept t.stage run place said event other gives at
at_stays (task.Counts t) old new before after faults asked run place said event passes in_run other gives at = not_begun_stays run place said event other gives at
at_stays (task.Make t) old new before after faults asked run place said event passes in_run other gives at = make_kept t.stage run place said event other gives at
at_stays (task.Copy t) old new before after faults asked run place said event passes in_run other gives at = copy_kept t.stage run place said event other gives at
at_stays (task.Move t) old new before after faults asked run place said event passes in_run other gives at = move_kept t.uid t.stage run place said event other gives at
at_stays (task.Expunge t) old new before after faults asked run place said event passes in_run other gives at = expunge_kept t.stage run place said event other gives at
at_stays (task.Fetch t) old new before after faults asked run place said event passes in_run other gives at =
    stay_beside t.stage old new before after faults run event place said other (λ runs. (passes runs).0) (λ runs. ((passes runs).2, (passes runs).1, in_run.come runs)) in_run.spared at
at_stays (task.Resync t) old new before after faults asked run place said event passes in_run other gives at = resyncs_are_kept t.stage run place said event other gives at
at_stays (task.Delete t) old new before after faults asked run place said event passes in_run other gives at = delete_kept t.stage run place said event other gives at
at_stays (task.Rename t) old new before after faults asked run place said event passes in_run other gives at = not_begun_stays run place said event other gives at
at_stays (task.Purge t) old new before after faults asked run place said event passes in_run other gives at = purge_stands t old new before after run place said event (λ runs. ((passes runs).0, (passes runs).2)) other gives at
at_stays (task.Deliver t) old new before after faults asked run place said event passes in_run other gives at = delivery_stays t old new before after asked run place said event passes other gives at

took_stays : (t : Task) (run : Run) (place : ℕ) (event : RunEvent) → event.request ≢ place → TookFiles t run place → TookFiles t (and_then run event) place
took_stays (task.Purge t) run place event other took = apart_other run place event other took
took_stays (task.Deliver t) run place event other took = tt
took_stays t run place event other took = took_none_other run place event other took

pub task_stands : {D : Type 0} → (t : Task) (old new : StoreValue D) (before after : Option History) (faults : Faults) (asked : Request) (run : Run) (place : ℕ) (said : List Reply) (event : RunEvent) → PassesBy t old new before after → PassesInRun t new after faults run event → event.request ≢ place → GivesNew run event
    → StandsTask t old before asked run place said → StandsTask t new after asked (and_then run event) place said
task_stands t old new before after faults asked run place said event passes in_run other gives s = record {
  is_of = s.is_of;
  at = at_stays t old new before after faults asked run place said event passes in_run other gives s.at;
  took = took_stays t run place event other s.took;
}

-- ---- as a request begins

-- at the first stage nothing is claimed
copy_first : (now : CopyStage) → now ≡ copy_stage.First → ClaimsNothing (copy_claims now)
copy_first now e thing = ap (λ (s : CopyStage). copy_claims s thing) e ∙ none_claimed_of (copy_dues copy_stage.First) (λ u. refl) thing

move_first : (now : MoveStage) → now ≡ move_stage.First → ClaimsNothing (move_claims now)
move_first now e thing = ap (λ (s : MoveStage). move_claims s thing) e ∙ none_claimed_of (move_dues move_stage.First) (λ u. refl) thing

expunge_first : (now : ExpungeStage) → now ≡ expunge_stage.First → ClaimsNothing (expunge_claims now)
expunge_first now e thing = ap (λ (s : ExpungeStage). expunge_claims s thing) e ∙ none_claimed_of (expunge_dues expunge_stage.First) (λ u. refl) thing

make_none : (thing : Thing) → make_claims make_stage.First thing ≡ 0
make_none (Made number) = refl
make_none thing = refl

make_first : (now : MakeStage) → now ≡ make_stage.First → ClaimsNothing (make_claims now)
make_first now e thing = ap (λ (s : MakeStage). make_claims s thing) e ∙ make_none thing

save_none : (prepared : Prepared) (thing : Thing) → save_claims (save_stage.First prepared) thing ≡ 0
save_none prepared (Due uid) = refl
save_none prepared (Taken file) = refl
save_none prepared (Held id) = refl
save_none prepared thing = refl

delivery_unclaimed : (t : SaveValue) (asked : Request) → IsFreshDelivery t asked → ClaimsNothing (save_claims t.stage)
delivery_unclaimed t (request.Deliver name time octets) at thing = ap (λ (s : SaveStage). save_claims s thing) at.1 ∙ save_none at.0 thing
delivery_unclaimed t asked at thing = absurd at

pub begins_unclaimed : (asked : Request) (t : Task) → BeginsTask asked t → ClaimsNothing (claims_at t)
begins_unclaimed asked (task.Make t) b = make_first t.stage b.at
begins_unclaimed asked (task.Copy t) b = copy_first t.stage b.at
begins_unclaimed asked (task.Move t) b = move_first t.stage b.at
begins_unclaimed asked (task.Expunge t) b = expunge_first t.stage b.at
begins_unclaimed asked (task.Fetch t) b = λ thing. ap (λ (s : FetchStage). fetch_claims s thing) b.at
begins_unclaimed asked (task.Purge t) b = λ thing. ap (λ (s : PurgeStage). purge_claims s thing) b.at
begins_unclaimed asked (task.Deliver t) b = delivery_unclaimed t asked b.at
begins_unclaimed asked t b = λ thing. refl

fresh_ready : {D : Type 0} → (t : SaveValue) (name : List ℕ) (time : ℕ) (octets : List ℕ) (store : StoreValue D) (history : Option History) → IsFreshDelivery t (request.Deliver name time octets) → IsReadyToDeliver t.stage t.name t.time t.size octets store history
fresh_ready t name time octets store history at =
    subst (λ (s : SaveStage). IsReadyToDeliver s t.name t.time t.size octets store history) (sym at.1)
    (subst (λ (n : ℕ). IsReadyToDeliver (save_stage.First at.0) t.name t.time n octets store history) (sym at.2) (fresh_delivery at.0 t.name t.time octets store history at.3 at.4))

delivery_ready : {D : Type 0} → (t : SaveValue) (asked : Request) (store : StoreValue D) (history : Option History) → IsFreshDelivery t asked → (octets : List ℕ) × IsReadyToDeliver t.stage t.name t.time t.size octets store history
delivery_ready t (request.Deliver name time octets) store history at = (octets, fresh_ready t name time octets store history at)
delivery_ready t asked store history at = absurd at

pub begins_ready : {D : Type 0} → (asked : Request) (t : Task) (store : StoreValue D) (history : Option History) → BeginsTask asked t → IsReadyTask t store history
begins_ready asked (task.Make t) store history b = subst (λ (s : MakeStage). IsReadyToMake s store × IsMakeNumber s) (sym b.at) (tt, tt)
begins_ready asked (task.Copy t) store history b = subst (λ (s : CopyStage). IsReadyToCopy t.name t.uid s store) (sym b.at) (record { due = λ other. omega arith; source = tt })
begins_ready asked (task.Move t) store history b = subst (λ (s : MoveStage). IsReadyToMove t.name t.uid s store) (sym b.at) (record { due = λ other. omega arith; source = tt })
begins_ready asked (task.Expunge t) store history b = subst (λ (s : ExpungeStage). AreDueIn store (expunge_amounts s)) (sym b.at) (λ other. omega arith)
begins_ready asked (task.Fetch t) store history b = subst (λ (s : FetchStage). IsReadyToFetch s store) (sym b.at) tt
begins_ready asked (task.Delete t) store history b = subst (λ (s : DeleteStage). IsReadyToDelete s store) (sym b.at) tt
begins_ready asked (task.Purge t) store history b = (subst (λ (s : PurgeStage). HasPurged s store history) (sym b.at) tt, λ differs. absurd (differs b.at))
begins_ready asked (task.Deliver t) store history b = delivery_ready t asked store history b.at
begins_ready asked t store history b = tt

delivery_at : {D : Type 0} → (t : SaveValue) (store : StoreValue D) (history : Option History) (asked : Request) (run : Run) (place : ℕ) (said : List Reply) → IsFreshDelivery t asked → HasNotBegun run place said → IsAtDelivery t store history asked run place said
delivery_at t store history (request.Deliver name time octets) run place said at begun =
    (subst (λ (s : SaveStage). IsAtSave s run place said) (sym at.1) begun, subst (λ (s : SaveStage). HasItsParts s octets) (sym at.1) tt, λ runs. fresh_ready t name time octets store history at, λ runs. subst (λ (s : SaveStage). HasNamedFound s store run place) (sym at.1) tt)
delivery_at t store history asked run place said at begun = absurd at

-- a copy that hasn't begun is to raise a count
raises_first : (run : Run) (place : ℕ) (said : List Reply) → HasNotBegun run place said → IsToRaise run place said
raises_first run place said begun = record {
  calm = record { unrefused = ap last_refusal begun.0; unanswered = begun.1 };
  last = inl begun.0;
  uncopied = ap (λ (own : List RunEvent). uid_added (flat_map (λ (e : RunEvent). e.box_entries) own)) begun.0;
}

begins_at : {D : Type 0} → (t : Task) (store : StoreValue D) (history : Option History) (asked : Request) (run : Run) (place : ℕ) (said : List Reply) → IsAtFirst t asked → HasNotBegun run place said → IsAtTask t store history asked run place said
begins_at (task.Ops t) store history asked run place said at begun = ops_first t.stage
  where
    ops_first : (s : TaskStage) → IsAt s run place said
    ops_first ops_stage.First = begun
begins_at (task.Counts t) store history asked run place said at begun = begun
begins_at (task.Make t) store history asked run place said at begun =
    subst (λ (s : MakeStage). IsAtMake s run place said) (sym at) (record { unrefused = ap last_refusal begun.0; unanswered = begun.1 }, inl begun.0)
begins_at (task.Copy t) store history asked run place said at begun = subst (λ (s : CopyStage). IsAtCopy s run place said) (sym at) (raises_first run place said begun)
begins_at (task.Move t) store history asked run place said at begun = subst (λ (s : MoveStage). IsAtMove t.uid s run place said) (sym at) (raises_first run place said begun)
begins_at (task.Expunge t) store history asked run place said at begun = subst (λ (s : ExpungeStage). IsAtExpunge s run place said) (sym at) begun
begins_at (task.Fetch t) store history asked run place said at begun = subst (λ (s : FetchStage). IsAtFetch s store.stopped history run place said) (sym at) begun
begins_at (task.Resync t) store history asked run place said at begun = subst (λ (s : ResyncAt). IsAtResync s run place said) (sym at) begun
begins_at (task.Delete t) store history asked run place said at begun = subst (λ (s : DeleteStage). IsAtDelete s run place said) (sym at) begun
begins_at (task.Rename t) store history asked run place said at begun = begun
begins_at (task.Purge t) store history asked run place said at begun = subst (λ (s : PurgeStage). IsAtPurgeStage s t store run place said) (sym at) begun
begins_at (task.Deliver t) store history asked run place said at begun = delivery_at t store history asked run place said at begun

none_took : (run : Run) (place : ℕ) → own_events place run ≡ [] → TookNoFile run place
none_took run place none = subst (λ (own : List RunEvent). All (λ e. e.refused ≡ None → e.files ≡ []) own) (sym none) (All-nil (λ (e : RunEvent). e.refused ≡ None → e.files ≡ []))

begins_took : (t : Task) (run : Run) (place : ℕ) → own_events place run ≡ [] → TookFiles t run place
begins_took (task.Purge t) run place none = apart_first run place none
begins_took (task.Deliver t) run place none = tt
begins_took t run place none = none_took run place none

pub begins_standing : {D : Type 0} → (asked : Request) (t : Task) (store : StoreValue D) (history : Option History) (run : Run) (place : ℕ) (said : List Reply) → BeginsTask asked t → HasNotBegun run place said → StandsTask t store history asked run place said
begins_standing asked t store history run place said b begun = record {
  is_of = b.is_of;
  at = begins_at t store history asked run place said b.at begun;
  took = begins_took t run place begun.0;
}

-- ---- files

no_file_taken : (claims : Claims) (run : Run) (place : ℕ) (file : ℕ) → TookNoFile run place → list_any (took_file file) (own_events place run) ≡ true → (1 ≤ claims (Taken file)) ⊎ (1 ≤ claims (Emptied file))
no_file_taken claims run place file took is = absurd (let e : true ≡ false = sym is ∙ none_taken file (own_events place run) took in cc e)

delivery_taken : {D : Type 0} → (t : SaveValue) (store : StoreValue D) (history : Option History) (asked : Request) (run : Run) (place : ℕ) (said : List Reply) (file : ℕ) → IsAtDelivery t store history asked run place said → 1 ≤ file → list_any (took_file file) (own_events place run) ≡ true → gave_back file (own_events place run) ≡ false → 1 ≤ save_claims t.stage (Taken file)
delivery_taken t store history (request.Deliver name time octets) run place said file at some is left = taken_claimed t.stage run place said file at.0 some is left
delivery_taken t store history asked run place said file at some is left = absurd at

pub task_taken : {D : Type 0} → (t : Task) (store : StoreValue D) (history : Option History) (asked : Request) (run : Run) (place : ℕ) (said : List Reply) (file : ℕ) → StandsTask t store history asked run place said → 1 ≤ file → list_any (took_file file) (own_events place run) ≡ true → gave_back file (own_events place run) ≡ false
    → (1 ≤ claims_at t (Taken file)) ⊎ (1 ≤ claims_at t (Emptied file))
task_taken (task.Purge t) store history asked run place said file stood some is left = purge_taken t t.stage store run place said file stood.at some is left
task_taken (task.Deliver t) store history asked run place said file stood some is left = inl (delivery_taken t store history asked run place said file stood.at some is left)
task_taken t store history asked run place said file stood some is left = no_file_taken (claims_at t) run place file stood.took is
