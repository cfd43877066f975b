-- The clause of an event of a purge that switches a storage file.
use Rattle.purge_task.proofs.Common.{◌≡◌, ◌≤◌, ◌<◌, ◌+◌, ◌==◌, ℕ, suc, zero, Bool, true, false, not, List, [], ◌∷◌, ◌++◌, length, Option, Some, None, refl, sym, ◌∙◌, ap, subst, arith, All, inl, inr, nat_lt, sum_by, if◌then◌else◌, list_any, option_map_or, cases_Bool, eq-eqb, common_steps, All-cons}
use Rattle.purge_task.proofs.Common.{All-head, All-nil, All-tail, All-weaker, sum_by-cons, Faults, History, told_calls, LogState, FileNo, MapUid, MapPlace, Did, Reply, HasRecord, MapFits, MapMeaning, MapRecord, map_applied, pairs_head, EventPart, RemovesFile, Run, RunEvent, Switches, and_then}
use Rattle.purge_task.proofs.Common.{dropped_in, how_many, is_one_of, map_of, own_events, Around, is_done, last_refusal, next_part, next_taken, purge_goes_on, was_pinned, own_more, FilesValue, pins_in, due_at, StoreValue, may_be_used, records_within, HasComeTo, was_used, sources_left, PurgeSteps}
use Rattle.purge_task.proofs.Common.{around_purging, seen_by_purge, AreSourcesApart, PurgeValue, IsBehindSwitch, GoesOnBehind, HaveCopied, HaveTaken, IsAtPurge, IsAtPurgeStage, IsAtSwitched, IsPurging, RemovesBehind, told_taken, PurgeStage, Source, Work, DidBy, stands_by}
use Rattle.std.specs.Prelude.{◌≢◌}
use Rattle.mdbox_base.specs.declared.entries.MapEntry.TheVariants as map_entry
use Rattle.mdbox_base.specs.declared.progress.Did.TheVariants as did
use Rattle.mdbox_base.specs.declared.requests.Request.TheVariants as request
use Rattle.model_meaning.specs.MapMeaning.{MapBox}
use Rattle.model_store.specs.Listing.{ShowLists}
use Rattle.journal.specs.Events.{behind_purge}
use Rattle.store_core.specs.Value.{indexes_of}
use Rattle.task_steps.proofs.SeenLemmas.{first_doomed, never_used, pinned_as}
use Rattle.purge_task.proofs.CopyStepLemmas.{taken_noted}
use Rattle.purge_task.proofs.EventLemmas.{did_next}
use Rattle.purge_task.proofs.PartLemmas.{goes_on_some, last_with, next_is}
use Rattle.purge_task.proofs.RemovalLemmas.{LeavesSettled}
use Rattle.purge_task.proofs.RunLemmas.{any_still, done_gone, flat_push, gone_files, many_push, one_itself, or_none, sum_push, taken_on}
use Rattle.purge_task.proofs.StageLemmas.{at_next}
use Rattle.purge_task.proofs.SwitchSeenLemmas.{IsDoomedOf, switch_comes, switch_event, with_map}
use Rattle.purge_task.proofs.WithinLemmas.{uids_within}

-- the source, with its lists spent
pub record IsSpent (source spent : Source) : Type 0 where
  pub file : spent.file ≡ source.file
  pub target : spent.target ≡ source.target

taken_spent : (source spent : Source) → IsSpent source spent → told_taken spent ≡ told_taken source
taken_spent source spent w = ap (λ (f : FileNo). record (told_taken spent) { file = f.0 }) w.file ∙ ap (λ (t : Option FileNo). record { file = source.file.0; target = option_map_or (λ t. t.0) t 0 }) w.target

abbrev copies : ℕ → RunEvent → Bool
copies uid e = is_one_of e.copied uid

-- The numbers behind a switch.
pub record CountsSwitch (t next : PurgeValue) (dropped : List MapUid) : Type 0 where
  pub dropped_are : next.dropped ≡ t.dropped + length dropped
  pub files : next.files ≡ t.files + 1
  pub instances : next.instances ≡ t.instances

switched_way : {D : Type 0} → (t next : PurgeValue) (done left : List Source) (source spent : Source) (Before After : List ℕ → EventPart → Type 0) (lane target : ℕ) (moved : List MapPlace) (dropped : List MapUid) (calls : ℕ) (old new : StoreValue D) (run : Run) (place : ℕ) (said : List Reply) → old.stopped ≡ false → IsSpent source spent
    → AreSourcesApart (source ∷ left) → All (λ s. records_within s.file.0 new.map ≡ records_within s.file.0 old.map) left → CountsSwitch t next dropped → After (source.file.0 ∷ []) Switches → IsPurging t done (source ∷ left) Before old run place said
    → IsPurging next (done ++ spent ∷ []) left After new (and_then run (switch_event lane place source.file target moved dropped calls)) place said
switched_way t next done left source spent Before After lane target moved dropped calls old new run place said ran w apart within counts behind h = record {
  unsaid = h.unsaid;
  last = record { front = own; last = event; own_are = is; unrefused = refl; behind = behind };
  unrefused = ap (λ (es : List RunEvent). last_refusal es) is ∙ (last_with own event ∙ h.unrefused);
  taken = subst (λ (es : List RunEvent). HaveTaken (done ++ spent ∷ []) left es) (sym is)
      (taken_on done spent left own event refl (λ file. or_none (is_one_of (source.file.0 ∷ []) file) ∙ (or_none (source.file.0 == file) ∙ ap (λ (n : ℕ). n == file) (sym number)))
      (All-weaker (λ (s : Source). source.file.0 < s.file.0) (λ (s : Source). spent.file.0 < s.file.0) (λ s l. omega (arith, l, number)) left (pairs_head (λ (a b : Source). a.file.0 < b.file.0) source left apart.files))
      (taken_noted done left source spent own (taken_spent source spent w) h.taken));
  copied = λ runs. subst (λ (es : List RunEvent). All (HaveCopied new.map es) left) (sym is) (rest left within (All-tail (HaveCopied old.map own) source left (h.copied ran)));
  counted = record {
    dropped =
        let a = sum_push (λ (e : RunEvent). sum_by dropped_in e.map_entries) own event in
        let b = sum_by-cons dropped_in (map_entry.P source.file target moved dropped) [] in
        let c = h.counted.dropped in
        let d = counts.dropped_are in
        (let e : next.dropped ≡ sum_by (λ (e : RunEvent). sum_by dropped_in e.map_entries) (own ++ event ∷ []) = omega (arith, a, b, c, d) in e) ∙ ap (λ (es : List RunEvent). sum_by (λ (e : RunEvent). sum_by dropped_in e.map_entries) es) (sym is);
    files = (counts.files ∙ (ap (λ (n : ℕ). n + 1) h.counted.files ∙ (sym (ap (λ (b : Bool). if b then how_many (gone_files own) else how_many (gone_files own) + 1) fresh) ∙ (sym (many_push (gone_files own) source.file.0) ∙ ap (λ (fs : List ℕ). how_many fs) (sym (flat_push (λ (e : RunEvent). e.doomed ++ e.removed) own event))))))
        ∙ ap (λ (es : List RunEvent). how_many (gone_files es)) (sym is);
    instances =
        let a = sum_push (λ (e : RunEvent). length e.gone) own event in
        let b : length event.gone ≡ 0 = refl in
        let c = h.counted.instances in
        let d = counts.instances in
        (let e : next.instances ≡ sum_by (λ (e : RunEvent). length e.gone) (own ++ event ∷ []) = omega (arith, a, b, c, d) in e) ∙ ap (λ (es : List RunEvent). sum_by (λ (e : RunEvent). length e.gone) es) (sym is);
  };
}
  where
    event : RunEvent
    event = switch_event lane place source.file target moved dropped calls

    own : List RunEvent
    own = own_events place run

    is : own_events place (and_then run event) ≡ own ++ event ∷ []
    is = own_more place run event (eq-eqb place place refl)

    number : spent.file.0 ≡ source.file.0
    number = ap (λ (f : FileNo). f.0) w.file

    fresh : is_one_of (gone_files own) source.file.0 ≡ false
    fresh = done_gone own source.file.0 ∙ All-head (λ (s : Source). is_done own (told_taken s) ≡ false) source left h.taken.left_are

    rest : (others : List Source) → All (λ s. records_within s.file.0 new.map ≡ records_within s.file.0 old.map) others → All (HaveCopied old.map own) others → All (HaveCopied new.map (own ++ event ∷ [])) others
    rest [] a b = All-nil _
    rest (s ∷ others) a b =
        All-cons (HaveCopied new.map (own ++ event ∷ [])) s others
        (uids_within s.file.0 old.map new.map (λ uid. list_any (copies uid) (own ++ event ∷ []) ≡ list_any (λ (p : MapPlace). p.uid.0 == uid) s.copied.items) (All-head (λ (x : Source). records_within x.file.0 new.map ≡ records_within x.file.0 old.map) s others a)
        (All-weaker (λ (row : MapRecord). row.file ≡ s.file.0 → list_any (copies row.uid) own ≡ list_any (λ (p : MapPlace). p.uid.0 == row.uid) s.copied.items) (λ (row : MapRecord). row.file ≡ s.file.0 → list_any (copies row.uid) (own ++ event ∷ []) ≡ list_any (λ (p : MapPlace). p.uid.0 == row.uid) s.copied.items)
        (λ row e here. any_still (copies row.uid) own event refl ∙ e here) old.map.records (All-head (HaveCopied old.map own) s others b)))
        (rest others (All-tail (λ (x : Source). records_within x.file.0 new.map ≡ records_within x.file.0 old.map) s others a) (All-tail (HaveCopied old.map own) s others b))

-- ---- its clause

-- What a call says that switched a file: the entry, and what it left.
pub record HasSwitched {D : Type 0} (source : Source) (target : ℕ) (moved : List MapPlace) (dropped : List MapUid) (old new : StoreValue D) (left : List Source) : Type 0 where
  pub fits : MapFits old.map (map_entry.P source.file target moved dropped)
  pub wanted : All (λ place. HasRecord old.map place.uid.0 (λ row. 1 ≤ row.count)) moved
  pub target_is : target ≢ 0 → target ≡ (told_taken source).target
  pub map_is : new.map ≡ map_applied (map_entry.P source.file target moved dropped) old.map
  pub due : (uid : ℕ) → due_at uid new ≡ due_at uid old
  pub boxes : new.map.boxes ≡ old.map.boxes
  pub doomed : IsDoomedOf source.file.0 old.files.files new.files.files
  pub unused : may_be_used old source.file.0 ≡ false
  pub drawn : source.file.0 ≤ old.drawn.file
  pub within : All (λ s. records_within s.file.0 new.map ≡ records_within s.file.0 old.map) left

never_some : {X : Type 0} → (x : X) → Some x ≡ None → ⊥
never_some x e = cc e

behind_some : (around : Around) (run : Run) (event : RunEvent) → behind_purge around run event Switches ≡ None → ⊥
behind_some around run event = by_test (list_any (λ file. was_pinned run file) event.doomed)
  where
    by_test : (b : Bool) → (if b then purge_goes_on around run (next_taken (own_events event.request run)) else Some RemovesFile) ≡ None → ⊥
    by_test true e = let k = goes_on_some around run (next_taken (own_events event.request run)) in never_some k.0 (sym k.1 ∙ e)
    by_test false e = never_some RemovesFile e

some_pin : (n : ℕ) → nat_lt 0 n ≡ not (n == 0)
some_pin zero = refl
some_pin (suc n) = grind (arith, common_steps)

pub switch_steps : {D : Type 0} → (after : Around) (t next : PurgeValue) (work : Work) (source spent : Source) (left : List Source) (Before : Run → List ℕ → EventPart → Type 0) (target : ℕ) (moved : List MapPlace) (dropped : List MapUid) (disk : D) (log : LogState) (dues : List ℕ) (files : FilesValue) (old : StoreValue D) (before later : Option History) (began faults : Faults)
    → ((run : Run) (place : ℕ) (said : List Reply) → IsAtPurge t old run place said → (done : List Source) × IsPurging t done (source ∷ left) (Before run) old run place said)
    → ((run : Run) (place : ℕ) (said : List Reply) (done : List Source) → HasComeTo run (seen_by_purge old before began) → IsPurging t done (source ∷ left) (Before run) old run place said → next_part (around_purging [] old) run request.Purge (own_events place run) ≡ Some Switches)
    → sources_left work ≡ spent ∷ left → IsSpent source spent → AreSourcesApart (source ∷ left) → HasSwitched source target moved dropped old (with_map disk log (map_applied (map_entry.P source.file target moved dropped) old.map) dues files old) left → IsBehindSwitch (pins_in source.file.0 old.files.files == 0) work next.stage → next.did ≡ did.Quiet → CountsSwitch t next dropped
    → old.stopped ≡ false → LeavesSettled old.map before later began faults → PurgeSteps [] after t next old (with_map disk log (map_applied (map_entry.P source.file target moved dropped) old.map) dues files old) before later began faults None
switch_steps {D = D} after t next work source spent left Before target moved dropped disk log dues files old before later began faults stands part is w apart s to how counts ran leaves = λ run lane place said lists come shows stood.
    let around : Around = around_purging [] old in
    let at = stands run place said stood.0 in
    let own : List RunEvent = own_events place run in
    let event : RunEvent = switch_event lane place source.file target moved dropped (told_calls later) in
    let taken : next_taken own ≡ Some (told_taken source) = next_is at.0 source left own at.1.taken in
    let unused : was_used run source.file.0 ≡ false = never_used run (seen_by_purge old before began) source.file.0 come s.unused in
    let came = switch_comes run lane place source.file target moved dropped disk log dues files old before later began faults come ran s.doomed unused s.drawn s.due leaves.grows in
    let pinned : was_pinned (and_then run event) source.file.0 ≡ not (pins_in source.file.0 old.files.files == 0) = (first_doomed run event source.file.0 unused (one_itself source.file.0) refl).0
    ∙ (pinned_as (and_then run event) (seen_by_purge new later faults) source.file.0 came ran ∙ (ap (λ (n : ℕ). nat_lt 0 n) (s.doomed.pins source.file.0) ∙ some_pin (pins_in source.file.0 old.files.files))) in
    let so = did_next around after run lane place said lists (seen_by_purge old before began) (seen_by_purge new later faults) (switch_event 0 0 source.file target moved dropped 0)
    (record {
      next = part run place said at.0 come at.1;
      finds = tt;
      allowed = refl;
      did = (told_taken source, target, moved, dropped, taken, subst (λ (m : MapMeaning). All (λ place. HasRecord m place.uid.0 (λ row. 1 ≤ row.count)) moved) (sym come.come.map_is) s.wanted, s.target_is, refl);
      fits = All-cons (MapFits (map_of run)) (map_entry.P source.file target moved dropped) [] (subst (λ (m : MapMeaning). MapFits m (map_entry.P source.file target moved dropped)) (sym come.come.map_is) s.fits) (All-nil _);
      no_step = refl;
      goes_on = behind_some after (and_then run event) event;
      found = λ looked. tt;
      no_guid = refl;
    })
    came (shows.0, subst (λ (bs : List MapBox). ShowLists bs (indexes_of old.boxes) lists) (sym s.boxes) shows.1) ran ran (record { stops = λ x. leaves.moments lists x.0; settled = λ x. leaves.rests lists x.0 }) leaves.grows leaves.mail leaves.quiet in
    stands_by around after run lane place said request.Purge lists (seen_by_purge old before began) (seen_by_purge new later faults) next.did None event None (IsAtPurge next new)
    (subst (λ (d : Did). DidBy around after run lane place said request.Purge lists (seen_by_purge old before began) (seen_by_purge new later faults) d None event None) (sym how) so)
    (λ none. elim (cases_Bool (pins_in source.file.0 old.files.files == 0)) [
      | inl free ↦ subst (λ (x : PurgeStage). IsAtPurgeStage x next new (and_then run event) place said) (sym (subst (λ (b : Bool). IsBehindSwitch b work next.stage) free to))
          (subst (λ (l : List Source). IsAtSwitched next l new (and_then run event) place said) (sym is) (
            at.0,
            switched_way t next at.0 left source spent (Before run) (RemovesBehind (and_then run event) spent.file.0) lane target moved dropped (told_calls later) old new run place said ran w apart s.within counts
                (ap (λ (f : FileNo). f.0 ∷ []) (sym w.file), ap (λ (f : FileNo). was_pinned (and_then run event) f.0) w.file ∙ (pinned ∙ ap (λ (b : Bool). not b) free)) at.1,
          ))
      | inr held ↦ at_next next work spent (at.0 ++ spent ∷ []) left new (and_then run event) place said is (subst (λ (b : Bool). IsBehindSwitch b work next.stage) held to)
          (switched_way t next at.0 left source spent (Before run) (GoesOnBehind (and_then run event)) lane target moved dropped (told_calls later) old new run place said ran w apart s.within counts (source.file.0, refl, pinned ∙ ap (λ (b : Bool). not b) held) at.1)
    ])
  where
    new : StoreValue D
    new = with_map disk log (map_applied (map_entry.P source.file target moved dropped) old.map) dues files old
