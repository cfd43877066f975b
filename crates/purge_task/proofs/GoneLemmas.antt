-- The events of a purge behind its files: an instance is removed, or the reply is given.
use Rattle.purge_task.proofs.Common.{◌≡◌, ◌≤◌, ◌+◌, ℕ, false, List, [], ◌∷◌, ◌++◌, length, Option, Some, None, refl, sym, ◌∙◌, ap, subst, arith, find, is_some, sum_by, if◌then◌else◌, option_map, eq-eqb, append-nil, All-nil, Faults, History, told_calls, InstRow, Did, Reply, instance_number, Last}
use Rattle.purge_task.proofs.Common.{RemovesInstance, Run, RunEvent, TakenFile, and_then, dropped_in, how_many, own_events, Around, last_refusal, next_part, next_taken, purge_goes_on, own_more, AreInstances, KnownInstance, instance-in, found_one, is_useless, HasKnownInstances, StoreValue, DidEvent}
use Rattle.purge_task.proofs.Common.{never_more, PurgeSteps, around_purging, seen_by_purge, PurgeValue, GoesOnBehind, HaveTaken, IsAtPurge, IsAtPurgeStage, IsPurging, PurgeStage, Source, DidBy, stands_by}
use Rattle.mdbox_base.specs.declared.progress.Did.TheVariants as did
use Rattle.mdbox_base.specs.declared.script.Half.TheVariants as half
use Rattle.mdbox_base.specs.declared.replies.Reply.TheVariants as reply
use Rattle.mdbox_base.specs.declared.requests.Request.TheVariants as request
use Rattle.purge_task.specs.declared.task.PurgeStage.TheVariants as stage
use Rattle.purge_task.proofs.EventLemmas.{did_last, did_next}
use Rattle.purge_task.proofs.FreeInstanceLemmas.{finds_none, finds_one}
use Rattle.purge_task.proofs.InstanceSeenLemmas.{gone_comes, gone_event, without_it}
use Rattle.purge_task.proofs.PartLemmas.{goes_on_some, last_with, next_goes_on, next_none}
use Rattle.purge_task.proofs.RemovalLemmas.{LeavesSettled}
use Rattle.purge_task.proofs.RunLemmas.{flat_push, gone_files, sum_push, taken_still}

next_instance : (around : Around) (run : Run) (place : ℕ) (done : List Source) {D : Type 0} (t : PurgeValue) (store : StoreValue D) (said : List Reply) → IsPurging t done [] (GoesOnBehind run) store run place said
    → next_part around run request.Purge (own_events place run) ≡ (if is_some around.instance then Some RemovesInstance else Some Last)
next_instance around run place done t store said h = next_goes_on around run place h.last ∙ ap (λ (o : Option TakenFile). purge_goes_on around run o) (next_none done (own_events place run) h.taken)

at_instances : {D : Type 0} → (t : PurgeValue) (store : StoreValue D) (run : Run) (place : ℕ) (said : List Reply) → t.stage ≡ stage.Instances → IsAtPurge t store run place said → (done : List Source) × IsPurging t done [] (GoesOnBehind run) store run place said
at_instances t store run place said at h = subst (λ (x : PurgeStage). IsAtPurgeStage x t store run place said) at h

-- ---- the last event

pub last_steps : {D : Type 0} → (after : Around) (t next : PurgeValue) (store : StoreValue D) (history : Option History) (faults : Faults) → t.stage ≡ stage.Instances → next.did ≡ did.Step half.Whole → store.stopped ≡ false → HasKnownInstances history store → find (λ k. is_useless store.map k) store.instances.known ≡ None
    → PurgeSteps [] after t next store store history history faults faults (Some (reply.Purged t.dropped t.files t.instances))
last_steps after t next store history faults at how runs known none = λ run lane place said lists come shows stood.
    let h = at_instances t store run place said at stood.0 in
    let around : Around = around_purging [] store in
    let is : next_part around run request.Purge (own_events place run) ≡ Some Last = next_instance around run place h.0 t store said h.1 ∙ ap (λ (o : Option KnownInstance). if is_some (option_map (λ k. k.row) o) then Some RemovesInstance else Some Last) none in (
      subst (λ (d : Did). DidEvent around after run lane place said request.Purge lists (seen_by_purge store history faults) (seen_by_purge store history faults) d (Some (reply.Purged t.dropped t.files t.instances))) (sym how)
          (did_last around after run lane place said lists (seen_by_purge store history faults) t.dropped t.files t.instances come shows runs is h.1.unrefused h.1.unsaid
          (record { dropped_are = h.1.counted.dropped; files_are = h.1.counted.files; instances_are = h.1.counted.instances }) (λ looked. finds_none run store history faults come runs (stood.1 runs) known none)),
      λ e. absurd (never_more _ e),
    )

-- ---- an instance that goes

gone_way : {D : Type 0} → (t next : PurgeValue) (done : List Source) (lane : ℕ) (row : InstRow) (calls : ℕ) (old new : StoreValue D) (run : Run) (place : ℕ) (said : List Reply) → next.dropped ≡ t.dropped → next.files ≡ t.files → next.instances ≡ t.instances + 1 → IsPurging t done [] (GoesOnBehind run) old run place said
    → IsPurging next done [] (GoesOnBehind (and_then run (gone_event lane place row calls))) new (and_then run (gone_event lane place row calls)) place said
gone_way t next done lane row calls old new run place said dropped files instances h = record {
  unsaid = h.unsaid;
  last = record { front = own; last = event; own_are = is; unrefused = refl; behind = refl };
  unrefused = ap (λ (es : List RunEvent). last_refusal es) is ∙ (last_with own event ∙ h.unrefused);
  taken = subst (λ (es : List RunEvent). HaveTaken done [] es) (sym is) (taken_still done [] own event refl refl refl h.taken);
  copied = λ runs. All-nil _;
  counted = record {
    dropped =
        let a = sum_push (λ (e : RunEvent). sum_by dropped_in e.map_entries) own event in
        let b : sum_by dropped_in event.map_entries ≡ 0 = refl in
        let c = h.counted.dropped in
        (let e : next.dropped ≡ sum_by (λ (e : RunEvent). sum_by dropped_in e.map_entries) (own ++ event ∷ []) = omega (arith, a, b, c, dropped) in e) ∙ ap (λ (es : List RunEvent). sum_by (λ (e : RunEvent). sum_by dropped_in e.map_entries) es) (sym is);
    files = (files ∙ (h.counted.files ∙ ap (λ (fs : List ℕ). how_many fs) (sym (flat_push (λ (e : RunEvent). e.doomed ++ e.removed) own event ∙ append-nil (gone_files own))))) ∙ ap (λ (es : List RunEvent). how_many (gone_files es)) (sym is);
    instances =
        let a = sum_push (λ (e : RunEvent). length e.gone) own event in
        let b : length event.gone ≡ 1 = refl in
        let c = h.counted.instances in
        (let e : next.instances ≡ sum_by (λ (e : RunEvent). length e.gone) (own ++ event ∷ []) = omega (arith, a, b, c, instances) in e) ∙ ap (λ (es : List RunEvent). sum_by (λ (e : RunEvent). length e.gone) es) (sym is);
  };
}
  where
    event : RunEvent
    event = gone_event lane place row calls

    own : List RunEvent
    own = own_events place run

    is : own_events place (and_then run event) ≡ own ++ event ∷ []
    is = own_more place run event (eq-eqb place place refl)

never_some : {X : Type 0} → (x : X) → Some x ≡ None → ⊥
never_some x e = cc e

pub gone_steps : {D : Type 0} → (after : Around) (t next : PurgeValue) (k : KnownInstance) (disk : D) (old : StoreValue D) (before later : Option History) (began faults : Faults) → t.stage ≡ stage.Instances → next.stage ≡ stage.Instances → next.did ≡ did.Quiet → next.dropped ≡ t.dropped → next.files ≡ t.files → next.instances ≡ t.instances + 1
    → old.stopped ≡ false → HasKnownInstances before old → AreInstances old.instances → find (λ k. is_useless old.map k) old.instances.known ≡ Some k → instance_number old.map.store k.row.id.0 ≤ old.drawn.instance → LeavesSettled old.map before later began faults
    → PurgeSteps [] after t next old (without_it k.row.id disk old) before later began faults None
gone_steps after t next k disk old before later began faults at to how dropped files instances ran known ids found drawn leaves = λ run lane place said lists come shows stood.
    let h = at_instances t old run place said at stood.0 in
    let around : Around = around_purging [] old in
    let event : RunEvent = gone_event lane place k.row (told_calls later) in
    let new : StoreValue _ = without_it k.row.id disk old in
    let next_is : next_part around run request.Purge (own_events place run) ≡ Some RemovesInstance = next_instance around run place h.0 t old said h.1 ∙ ap (λ (o : Option KnownInstance). if is_some (option_map (λ k. k.row) o) then Some RemovesInstance else Some Last) found in
    let finds = finds_one run old before began k come ran (stood.1 ran) known ids found in
    let there = found_one (λ (j : KnownInstance). is_useless old.map j) old.instances.known k found in
    let so = did_next around after run lane place said lists (seen_by_purge old before began) (seen_by_purge new later faults) (gone_event 0 0 k.row 0)
    (record {
      next = next_is;
      finds = tt;
      allowed = refl;
      did = (k.row, ap (λ (o : Option KnownInstance). option_map (λ k. k.row) o) found, refl);
      fits = All-nil _;
      no_step = refl;
      goes_on = λ e. let some = goes_on_some after (and_then run event) (next_taken (own_events place (and_then run event))) in never_some some.0 (sym some.1 ∙ e);
      found = λ looked. finds;
      no_guid = refl;
    })
    (gone_comes run lane place k disk old before later began faults come ran (instance-in old.instances.known k ids.rising there.0) drawn leaves.grows) shows ran ran (record { stops = λ s. leaves.moments lists s.0; settled = λ s. leaves.rests lists s.0 }) leaves.grows leaves.mail leaves.quiet in
    stands_by around after run lane place said request.Purge lists (seen_by_purge old before began) (seen_by_purge new later faults) next.did None event None (IsAtPurge next new)
    (subst (λ (d : Did). DidBy around after run lane place said request.Purge lists (seen_by_purge old before began) (seen_by_purge new later faults) d None event None) (sym how) so)
    (λ none. subst (λ (x : PurgeStage). IsAtPurgeStage x next new (and_then run event) place said) (sym to) (h.0, gone_way t next h.0 lane k.row (told_calls later) old new run place said dropped files instances h.1))
