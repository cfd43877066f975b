-- A purge of a store that is stopped.
use Rattle.purge_task.proofs.Common.{◌≡◌, ℕ, List, [], ◌∷◌, Some, true, refl, sym, ◌∙◌, subst, arith, Option, Faults, History, Did, Reply, EventPart, First, RemovesFile, Run, own_events, Around, next_part, next_taken, StoreValue, DidEvent, sources_left, IsPurgeStep, PurgeSteps, around_purging}
use Rattle.purge_task.proofs.Common.{seen_by_purge, PurgeValue, IsAtPurgeStage, IsAtSwitched, PurgeStage, Source, fall, never_more, next_first, mail_still, idle-begins}
use Rattle.mdbox_base.specs.declared.progress.Did.TheVariants as did
use Rattle.mdbox_base.specs.declared.progress.Progress.TheVariants as progress
use Rattle.mdbox_base.specs.declared.replies.Refusal.TheVariants as refusal
use Rattle.mdbox_base.specs.declared.replies.Reply.TheVariants as reply
use Rattle.mdbox_base.specs.declared.requests.Request.TheVariants as request
use Rattle.purge_task.specs.declared.task.PurgeStage.TheVariants as stage
use Rattle.task_steps.proofs.EventLaws.{did_stop}
use Rattle.purge_task.proofs.EventLemmas.{purge_refuses, same_refusal}
use Rattle.purge_task.proofs.PartLemmas.{copies_some, goes_on_some, next_copies, next_goes_on, next_removes}

-- a purge that stands at a stage has a next part
pub next_some : {D : Type 0} → (around : Around) (s : PurgeStage) (t : PurgeValue) (store : StoreValue D) (run : Run) (place : ℕ) (said : List Reply) → IsAtPurgeStage s t store run place said → (part : EventPart) × (next_part around run request.Purge (own_events place run) ≡ Some part)
next_some around stage.First t store run place said h = (First, next_first around run request.Purge (own_events place run) h.0)
next_some around (stage.Begin work) t store run place said h = let k = goes_on_some around run (next_taken (own_events place run)) in (k.0, next_goes_on around run place h.1.last ∙ k.1)
next_some around (stage.Copying work) t store run place said h = let k = copies_some run (own_events place run) in (k.0, next_copies around run place h.1.last ∙ k.1)
next_some around (stage.Removing work) t store run place said h = by_left (sources_left work) h
  where
    by_left : (left : List Source) → IsAtSwitched t left store run place said → (part : EventPart) × (next_part around run request.Purge (own_events place run) ≡ Some part)
    by_left [] h = absurd h
    by_left (source ∷ left) h = (RemovesFile, next_removes around run place source.file.0 h.1.last)
next_some around stage.Instances t store run place said h = let k = goes_on_some around run (next_taken (own_events place run)) in (k.0, next_goes_on around run place h.1.last ∙ k.1)

pub stopped_steps : {D : Type 0} → (after : Around) (t next : PurgeValue) (store : StoreValue D) (history : Option History) (faults : Faults) → next.did ≡ did.Quiet → store.stopped ≡ true → PurgeSteps [] after t next store store history history faults faults (Some (reply.Refused refusal.Stopped))
stopped_steps after t next store history faults how stopped = λ run lane place said lists come shows stood.
    let around : Around = around_purging [] store in
    let part = next_some around t.stage t store run place said stood.0 in (
      subst (λ (d : Did). DidEvent around after run lane place said request.Purge lists (seen_by_purge store history faults) (seen_by_purge store history faults) d (Some (reply.Refused refusal.Stopped))) (sym how)
          (did_stop around after run lane place said request.Purge part.0 lists (seen_by_purge store history faults) (purge_refuses around run place part.0 refusal.Stopped part.1 refl refl) come shows stopped).so,
      λ e. absurd (never_more _ e),
    )

pub stopped_says : {D : Type 0} → (t next : PurgeValue) (store : StoreValue D) (history : Option History) (faults : Faults) → next.did ≡ did.Quiet → store.stopped ≡ true → IsPurgeStep t next (progress.Done (reply.Refused refusal.Stopped)) store store history history faults faults
stopped_says t next store history faults how stopped = record {
  ready = λ e. absurd (let k : progress.Done (reply.Refused refusal.Stopped) ≡ progress.More = e in cc k);
  does = ([], λ after. stopped_steps after t next store history faults how stopped);
  first = λ begins. record { idle = idle-begins history; found = λ e. absurd (let k : progress.Done (reply.Refused refusal.Stopped) ≡ progress.More = e in cc k); full = λ most e. absurd (let k : progress.Done (reply.Refused refusal.Stopped) ≡ progress.Done (reply.Refused (refusal.StoreFull most)) = e in cc k) };
  refused = λ why e read stop. absurd (stop (same_refusal refusal.Stopped why e));
  stopped = record { 0 = λ e. stopped; 1 = λ e. refl };
  regions = λ runs. absurd (fall store.stopped stopped runs);
  claims = λ runs. absurd (fall store.stopped stopped runs);
  grows = omega arith;
  mail = mail_still store.map history;
  reads = omega arith;
  calm = λ told. refl;
  changes = omega arith;
  unfailed = λ runs. refl;
  fell = λ runs e. absurd (fall store.stopped stopped runs);
}
