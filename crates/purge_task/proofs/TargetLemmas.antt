-- The event of a purge that makes a target.
use Rattle.purge_task.proofs.Common.{◌≡◌, ◌≤◌, ◌==◌, ℕ, Bool, true, false, List, [], ◌∷◌, ◌++◌, length, Option, Some, None, refl, sym, ◌∙◌, ap, subst, arith, All, nat_lt, sum_by, if◌then◌else◌, list_any, option_map_or, eq-eqb, common_steps, append-nil, All-nil, All-weaker, Faults, History}
use Rattle.purge_task.proofs.Common.{told_calls, FileNo, Did, Reply, MapRecord, is_own, number_at, MakesTarget, Run, RunEvent, Switches, RemovesFile, TakenFile, and_then, dropped_in, how_many, is_one_of, map_of, own_events, Around, last_refusal, next_part, next_taken, purge_goes_on, own_more}
use Rattle.purge_task.proofs.Common.{FilesValue, StoreValue, HasComeTo, was_given, was_used, sources_left, PurgeSteps, around_purging, seen_by_purge, PurgeValue, CopiesBehind, GoesOnBehind, HaveCopied, HaveTaken, IsAtPurge, IsAtPurgeStage, IsPurging, told_taken, PurgeStage, Source, Work, DidBy}
use Rattle.purge_task.proofs.Common.{stands_by}
use Rattle.mdbox_base.specs.declared.progress.Did.TheVariants as did
use Rattle.mdbox_base.specs.declared.requests.Request.TheVariants as request
use Rattle.purge_task.specs.declared.task.PurgeStage.TheVariants as stage
use Rattle.purge_task.proofs.EventLemmas.{did_next}
use Rattle.purge_task.proofs.PartLemmas.{copies_some, last_with, next_goes_on, next_is}
use Rattle.purge_task.proofs.RemovalLemmas.{LeavesSettled}
use Rattle.purge_task.proofs.RunLemmas.{any_still, flat_push, gone_files, sum_push, taken_still}
use Rattle.purge_task.proofs.TargetSeenLemmas.{IsMadeOf, target_comes, target_event, with_files}

made_way : {D : Type 0} → (t next : PurgeValue) (done left : List Source) (lane target calls : ℕ) (old new : StoreValue D) (run : Run) (place : ℕ) (said : List Reply) → new.map ≡ old.map → old.stopped ≡ false → next.dropped ≡ t.dropped → next.files ≡ t.files → next.instances ≡ t.instances
    → IsPurging t done left (GoesOnBehind run) old run place said → IsPurging next done left (λ doomed part. CopiesBehind part) new (and_then run (target_event lane place target calls)) place said
made_way t next done left lane target calls old new run place said map ran dropped files instances h = record {
  unsaid = h.unsaid;
  last = record { front = own; last = event; own_are = is; unrefused = refl; behind = tt };
  unrefused = ap (λ (es : List RunEvent). last_refusal es) is ∙ (last_with own event ∙ h.unrefused);
  taken = subst (λ (es : List RunEvent). HaveTaken done left es) (sym is) (taken_still done left own event refl refl refl h.taken);
  copied = λ runs. subst (λ (m : _). All (HaveCopied m (own_events place (and_then run event))) left) (sym map) (subst (λ (es : List RunEvent). All (HaveCopied old.map es) left) (sym is)
      (All-weaker (HaveCopied old.map own) (HaveCopied old.map (own ++ event ∷ [])) (λ s c. All-weaker (λ (row : MapRecord). row.file ≡ s.file.0 → list_any (λ (e : RunEvent). is_one_of e.copied row.uid) own ≡ list_any (λ place. place.uid.0 == row.uid) s.copied.items)
      (λ (row : MapRecord). row.file ≡ s.file.0 → list_any (λ (e : RunEvent). is_one_of e.copied row.uid) (own ++ event ∷ []) ≡ list_any (λ place. place.uid.0 == row.uid) s.copied.items)
      (λ row e here. any_still (λ (x : RunEvent). is_one_of x.copied row.uid) own event refl ∙ e here) old.map.records c) left (h.copied ran)));
  counted = record {
    dropped =
        let a = sum_push (λ (e : RunEvent). sum_by dropped_in e.map_entries) own event in
        let b : sum_by dropped_in event.map_entries ≡ 0 = refl in
        let c = h.counted.dropped in
        (let e : next.dropped ≡ sum_by (λ (e : RunEvent). sum_by dropped_in e.map_entries) (own ++ event ∷ []) = omega (arith, a, b, c, dropped) in e) ∙ ap (λ (es : List RunEvent). sum_by (λ (e : RunEvent). sum_by dropped_in e.map_entries) es) (sym is);
    files = (files ∙ (h.counted.files ∙ ap (λ (fs : List ℕ). how_many fs) (sym (flat_push (λ (e : RunEvent). e.doomed ++ e.removed) own event ∙ append-nil (gone_files own))))) ∙ ap (λ (es : List RunEvent). how_many (gone_files es)) (sym is);
    instances =
        let a = sum_push (λ (e : RunEvent). length e.gone) own event in
        let b : length event.gone ≡ 0 = refl in
        let c = h.counted.instances in
        (let e : next.instances ≡ sum_by (λ (e : RunEvent). length e.gone) (own ++ event ∷ []) = omega (arith, a, b, c, instances) in e) ∙ ap (λ (es : List RunEvent). sum_by (λ (e : RunEvent). length e.gone) es) (sym is);
  };
}
  where
    event : RunEvent
    event = target_event lane place target calls

    own : List RunEvent
    own = own_events place run

    is : own_events place (and_then run event) ≡ own ++ event ∷ []
    is = own_more place run event (eq-eqb place place refl)

never_some : {X : Type 0} → (x : X) → Some x ≡ None → ⊥
never_some x e = cc e

some_number : (n : ℕ) → 1 ≤ n → nat_lt 0 n ≡ true
some_number n l = grind (arith, common_steps, l)

-- A target is made that no event has used, and in which none has given a GUID.
pub target_steps : {D : Type 0} → (after : Around) (t next : PurgeValue) (work : Work) (source : Source) (left : List Source) (target : FileNo) (disk : D) (files : FilesValue) (old : StoreValue D) (before later : Option History) (began faults : Faults) → t.stage ≡ stage.Begin work → sources_left work ≡ source ∷ left
    → source.target ≡ Some target → 1 ≤ target.0 → next.stage ≡ stage.Copying work → next.did ≡ did.Quiet → next.dropped ≡ t.dropped → next.files ≡ t.files → next.instances ≡ t.instances → old.stopped ≡ false → IsMadeOf target.0 old.files.files files.files
    → ((run : Run) → HasComeTo run (seen_by_purge old before began) → was_used run target.0 ≡ false) → ((run : Run) (guid : List ℕ) → HasComeTo run (seen_by_purge old before began) → is_own old.map.store guid ≡ true → number_at 8 guid ≡ target.0 → was_given run guid ≡ false)
    → LeavesSettled old.map before later began faults → PurgeSteps [] after t next old (with_files disk files old) before later began faults None
target_steps after t next work source left target disk files old before later began faults at is target_is some to how dropped counted instances ran made unused ungiven leaves = λ run lane place said lists come shows stood.
    let around : Around = around_purging [] old in
    let stands = subst (λ (x : PurgeStage). IsAtPurgeStage x t old run place said) at stood.0 in
    let h = subst (λ (l : List Source). IsPurging t stands.0 l (GoesOnBehind run) old run place said) is stands.1 in
    let event : RunEvent = target_event lane place target.0 (told_calls later) in
    let new : StoreValue _ = with_files disk files old in
    let taken : next_taken (own_events place run) ≡ Some (told_taken source) = next_is stands.0 source left (own_events place run) h.taken in
    let number : (told_taken source).target ≡ target.0 = ap (λ (o : Option FileNo). option_map_or (λ t. t.0) o 0) target_is in
    let next_one : next_part around run request.Purge (own_events place run) ≡ Some MakesTarget = next_goes_on around run place h.last
    ∙ (ap (λ (o : Option TakenFile). purge_goes_on around run o) taken
    ∙ ap (λ (b : Bool). if b then Some MakesTarget else (if list_any (λ row. row.file == source.file.0) (map_of run).records then Some Switches else Some RemovesFile)) (ap (λ (n : ℕ). nat_lt 0 n) number ∙ some_number target.0 some)) in
    let so = did_next around after run lane place said lists (seen_by_purge old before began) (seen_by_purge new later faults) (target_event 0 0 target.0 0)
    (record {
      next = next_one;
      finds = tt;
      allowed = refl;
      did = (told_taken source, taken, ap (λ (n : ℕ). target_event lane place n (told_calls later)) (sym number));
      fits = All-nil _;
      no_step = refl;
      goes_on = λ e. let k = copies_some (and_then run event) (own_events place (and_then run event)) in never_some k.0 (sym k.1 ∙ e);
      found = λ looked. tt;
      no_guid = refl;
    })
    (target_comes run lane place target.0 disk files old before later began faults come ran made (unused run come) (λ guid own file. ungiven run guid come own file) leaves.grows) shows ran ran (record { stops = λ s. leaves.moments lists s.0; settled = λ s. leaves.rests lists s.0 }) leaves.grows leaves.mail leaves.quiet in
    stands_by around after run lane place said request.Purge lists (seen_by_purge old before began) (seen_by_purge new later faults) next.did None event None (IsAtPurge next new)
    (subst (λ (d : Did). DidBy around after run lane place said request.Purge lists (seen_by_purge old before began) (seen_by_purge new later faults) d None event None) (sym how) so)
    (λ none. subst (λ (x : PurgeStage). IsAtPurgeStage x next new (and_then run event) place said) (sym to)
    (stands.0, subst (λ (l : List Source). IsPurging next stands.0 l (λ doomed part. CopiesBehind part) new (and_then run event) place said) (sym is) (made_way t next stands.0 (source ∷ left) lane target.0 (told_calls later) old new run place said refl ran dropped counted instances h)))
