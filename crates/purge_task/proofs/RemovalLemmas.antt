-- An event of a purge that removes a storage file.
use Rattle.purge_task.proofs.Common.{◌≡◌, ◌≤◌, ◌+◌, ◌==◌, ◌||◌, ℕ, Bool, true, false, List, [], ◌∷◌, ◌++◌, length, map, Option, Some, None, refl, sym, ◌∙◌, ap, subst, arith, All, flat_map, nat_lt, sum_by, if◌then◌else◌, list_any, option_map, option_or, eq-eqb, ne_eqb, append-nil, All-head, All-nil}
use Rattle.purge_task.proofs.Common.{All-tail, All-weaker, Faults, Grows, History, told_calls, NoFault, Reply, MailIsKept, Lists, MapMeaning, MapRecord, IsSettledFor, Leaves, EventPart, First, RemovesFile, RemovesInstance, Run, RunEvent, Switches, TakenFile, and_then, dropped_in, how_many}
use Rattle.purge_task.proofs.Common.{is_one_of, own_events, Around, is_done, last_refusal, next_part, next_taken, was_pinned, own_more, pins_in, AreElsewhere, StoreValue, HasComeTo, ShowsSeen, sources_left, PurgeSteps, around_purging, seen_by_purge, PurgeValue, GoesOnBehind, HaveCopied, HaveTaken}
use Rattle.purge_task.proofs.Common.{IsAtPurge, IsAtPurgeStage, IsAtSwitched, IsNextStage, IsPurging, RemovesBehind, told_taken, went_on, PurgeStage, Source, Work, DidBy, fall, stands_by}
use Rattle.std.specs.Prelude.{◌≢◌}
use Rattle.mdbox_base.specs.declared.progress.Did.TheVariants as did
use Rattle.mdbox_base.specs.declared.requests.Request.TheVariants as request
use Rattle.list_machine.specs.Run.{first_in}
use Rattle.journal.specs.Events.{doomed_last, file_to_remove}
use Rattle.task_steps.proofs.SeenLemmas.{pinned_as}
use Rattle.purge_task.specs.Stages.{IsLastOf}
use Rattle.purge_task.specs.declared.task.PurgeStage.TheVariants as stage
use Rattle.purge_task.proofs.EventLemmas.{did_next}
use Rattle.purge_task.proofs.PartLemmas.{goes_on_some, last_with, next_removes}
use Rattle.purge_task.proofs.RemovalSeenLemmas.{removal_comes, removal_event, without}
use Rattle.purge_task.proofs.StageLemmas.{at_next}
use Rattle.purge_task.proofs.RunLemmas.{any_still, done_gone, done_push, flat_push, gone_files, many_push, one_other, sum_push}

own_removal : (run : Run) (lane place file calls : ℕ) → own_events place (and_then run (removal_event lane place file calls)) ≡ own_events place run ++ removal_event lane place file calls ∷ []
own_removal run lane place file calls = own_more place run (removal_event lane place file calls) (eq-eqb place place refl)

-- ---- where it leads

-- The numbers behind a removal: the file counts unless it was doomed before.
pub record CountsRemoval (t next : PurgeValue) (file : ℕ) (own : List RunEvent) : Type 0 where
  pub dropped : next.dropped ≡ t.dropped
  pub files : next.files ≡ (if is_one_of (gone_files own) file then t.files else t.files + 1)
  pub instances : next.instances ≡ t.instances

pub removed_way : {D : Type 0} → (t next : PurgeValue) (done left done_now left_now : List Source) (Before : List ℕ → _ → Type 0) (lane file calls : ℕ) (old new : StoreValue D) (run : Run) (place : ℕ) (said : List Reply) → new.map ≡ old.map → old.stopped ≡ false
    → HaveTaken done_now left_now (own_events place run ++ removal_event lane place file calls ∷ []) → (All (HaveCopied old.map (own_events place run)) left → All (HaveCopied old.map (own_events place run)) left_now) → CountsRemoval t next file (own_events place run)
    → IsPurging t done left Before old run place said → IsPurging next done_now left_now (GoesOnBehind (and_then run (removal_event lane place file calls))) new (and_then run (removal_event lane place file calls)) place said
removed_way t next done left done_now left_now Before lane file calls old new run place said map ran taken fewer counts h = record {
  unsaid = h.unsaid;
  last = record { front = own; last = event; own_are = is; unrefused = refl; behind = refl };
  unrefused = ap (λ (es : List RunEvent). last_refusal es) is ∙ (last_with own event ∙ h.unrefused);
  taken = subst (λ (es : List RunEvent). HaveTaken done_now left_now es) (sym is) taken;
  copied = λ runs. subst (λ (m : MapMeaning). All (HaveCopied m (own_events place (and_then run event))) left_now) (sym map) (subst (λ (es : List RunEvent). All (HaveCopied old.map es) left_now) (sym is)
      (All-weaker (HaveCopied old.map own) (HaveCopied old.map (own ++ event ∷ [])) (λ s c. All-weaker (λ (row : MapRecord). row.file ≡ s.file.0 → list_any (λ (e : RunEvent). is_one_of e.copied row.uid) own ≡ list_any (λ place. place.uid.0 == row.uid) s.copied.items)
      (λ (row : MapRecord). row.file ≡ s.file.0 → list_any (λ (e : RunEvent). is_one_of e.copied row.uid) (own ++ event ∷ []) ≡ list_any (λ place. place.uid.0 == row.uid) s.copied.items)
      (λ row e here. any_still (λ (x : RunEvent). is_one_of x.copied row.uid) own event refl ∙ e here) old.map.records c) left_now (fewer (h.copied ran))));
  counted = record {
    dropped =
        let a = sum_push (λ (e : RunEvent). sum_by dropped_in e.map_entries) own event in
        let b : sum_by dropped_in event.map_entries ≡ 0 = refl in
        let c = h.counted.dropped in
        let d = counts.dropped in
        (let e : next.dropped ≡ sum_by (λ (e : RunEvent). sum_by dropped_in e.map_entries) (own ++ event ∷ []) = omega (arith, a, b, c, d) in e) ∙ ap (λ (es : List RunEvent). sum_by (λ (e : RunEvent). sum_by dropped_in e.map_entries) es) (sym is);
    files = (counts.files ∙ (ap (λ (n : ℕ). if is_one_of (gone_files own) file then n else n + 1) h.counted.files ∙ (sym (many_push (gone_files own) file) ∙ ap (λ (fs : List ℕ). how_many fs) (sym (flat_push (λ (e : RunEvent). e.doomed ++ e.removed) own event)))))
        ∙ ap (λ (es : List RunEvent). how_many (gone_files es)) (sym is);
    instances =
        let a = sum_push (λ (e : RunEvent). length e.gone) own event in
        let b : length event.gone ≡ 0 = refl in
        let c = h.counted.instances in
        let d = counts.instances in
        (let e : next.instances ≡ sum_by (λ (e : RunEvent). length e.gone) (own ++ event ∷ []) = omega (arith, a, b, c, d) in e) ∙ ap (λ (es : List RunEvent). sum_by (λ (e : RunEvent). length e.gone) es) (sym is);
  };
}
  where
    event : RunEvent
    event = removal_event lane place file calls

    own : List RunEvent
    own = own_events place run

    is : own_events place (and_then run event) ≡ own ++ event ∷ []
    is = own_removal run lane place file calls

-- ---- the event

last_doomed : (front : List RunEvent) (last : RunEvent) → doomed_last (front ++ last ∷ []) ≡ last.doomed
last_doomed [] last = refl
last_doomed (e ∷ []) last = refl
last_doomed (e ∷ f ∷ front) last = last_doomed (f ∷ front) last

-- the file that the last event switched is removed next
pub removes_switched : (run : Run) (own : List RunEvent) (file : ℕ) → IsLastOf (RemovesBehind run file) own → file_to_remove run own ≡ Some file
removes_switched run own file l =
    ap (λ (fs : List ℕ). option_or (first_in (λ (n : ℕ). if was_pinned run n then None else Some n) fs) (option_map (λ (taken : TakenFile). taken.file) (next_taken own))) (ap doomed_last l.own_are ∙ (last_doomed l.front l.last ∙ (by_part l.last.part l.behind).0))
    ∙ ap (λ (b : Bool). option_or (option_or (if b then None else Some file) None) (option_map (λ (taken : TakenFile). taken.file) (next_taken own))) (by_part l.last.part l.behind).1
  where
    by_part : (part : _) → RemovesBehind run file l.last.doomed part → (l.last.doomed ≡ file ∷ []) × (was_pinned run file ≡ false)
    by_part Switches h = h
    by_part part h = absurd h

-- Behind an event that doomed no file, or one that had a pin then, the next file is removed.
pub removes_taken : (run : Run) (own : List RunEvent) (taken : TakenFile) → IsLastOf (GoesOnBehind run) own → next_taken own ≡ Some taken → file_to_remove run own ≡ Some taken.file
removes_taken run own taken l next =
    ap (λ (fs : List ℕ). option_or (first_in unpinned fs) (option_map (λ (taken : TakenFile). taken.file) (next_taken own))) (ap doomed_last l.own_are ∙ last_doomed l.front l.last)
    ∙ (ap (λ (o : Option ℕ). option_or o (option_map (λ (taken : TakenFile). taken.file) (next_taken own))) (by_part l.last.part l.behind) ∙ ap (λ (o : Option TakenFile). option_or None (option_map (λ (taken : TakenFile). taken.file) o)) next)
  where
    unpinned : ℕ → Option ℕ
    unpinned n = if was_pinned run n then None else Some n

    none_doomed : l.last.doomed ≡ [] → first_in unpinned l.last.doomed ≡ None
    none_doomed none = ap (λ (fs : List ℕ). first_in unpinned fs) none

    by_part : (part : EventPart) → GoesOnBehind run l.last.doomed part → first_in unpinned l.last.doomed ≡ None
    by_part First h = none_doomed h
    by_part RemovesFile h = none_doomed h
    by_part RemovesInstance h = none_doomed h
    by_part Switches h = ap (λ (fs : List ℕ). first_in unpinned fs) h.1 ∙ ap (λ (b : Bool). option_or (if b then None else Some h.0) None) h.2
    by_part part h = absurd h

pub none_in : (n : ℕ) (rows : List MapRecord) → AreElsewhere n rows → list_any (λ row. row.file == n) rows ≡ false
none_in n [] h = refl
none_in n (row ∷ rows) h = ap (λ (b : Bool). b || list_any (λ (r : MapRecord). r.file == n) rows) (ne_eqb row.file n (All-head (λ (r : MapRecord). r.file ≢ n) row rows h)) ∙ none_in n rows (All-tail (λ (r : MapRecord). r.file ≢ n) row rows h)

never_some : {X : Type 0} → (x : X) → Some x ≡ None → ⊥
never_some x e = cc e

pub did_removal : {D : Type 0} → (around after : Around) (run : Run) (lane place : ℕ) (said : List Reply) (lists : Lists) (file : ℕ) (disk : D) (old : StoreValue D) (before later : Option History) (began faults : Faults) → HasComeTo run (seen_by_purge old before began) → ShowsSeen (seen_by_purge old before began) lists
    → old.stopped ≡ false → pins_in file old.files.files ≡ 0 → file ≤ old.drawn.file → AreElsewhere file old.map.records → next_part around run request.Purge (own_events place run) ≡ Some RemovesFile → file_to_remove run (own_events place run) ≡ Some file
    → ((lists : Lists) → IsSettledFor lists before → Leaves lists lists before later) → ((lists : Lists) → IsSettledFor lists before → IsSettledFor lists later) → Grows before later → MailIsKept old.map before later → NoFault began faults
    → DidBy around after run lane place said request.Purge lists (seen_by_purge old before began) (seen_by_purge (without file disk old) later faults) did.Quiet None (removal_event lane place file (told_calls later)) None
did_removal around after run lane place said lists file disk old before later began faults come shows ran unpinned drawn elsewhere next removes moments rests grows mail quiet =
    did_next around after run lane place said lists (seen_by_purge old before began) (seen_by_purge (without file disk old) later faults) (removal_event 0 0 file 0)
    (record {
      next = next;
      finds = tt;
      allowed = refl;
      did = (file, removes, pinned_as run (seen_by_purge old before began) file come ran ∙ ap (λ (n : ℕ). nat_lt 0 n) unpinned, ap (λ (m : MapMeaning). list_any (λ (row : MapRecord). row.file == file) m.records) come.come.map_is ∙ none_in file old.map.records elsewhere, refl);
      fits = All-nil _;
      no_step = refl;
      goes_on = λ e. let some = goes_on_some after (and_then run event) (next_taken (own_events place (and_then run event))) in never_some some.0 (sym some.1 ∙ e);
      found = λ looked. tt;
      no_guid = refl;
    })
    (removal_comes run lane place file disk old before later began faults come ran unpinned drawn grows) shows ran ran (record { stops = λ s. moments lists s.0; settled = λ s. rests lists s.0 }) grows mail quiet
  where
    event : RunEvent
    event = removal_event lane place file (told_calls later)

-- ---- its clause

last_of : (P : Source → Type 0) (front : List Source) (last : Source) → All P (front ++ last ∷ []) → P last
last_of P [] last h = All-head P last [] h
last_of P (s ∷ front) last h = last_of P front last (All-tail P s (front ++ last ∷ []) h)

-- a file that is done already is removed: the others are as they were
taken_again : (done left : List Source) (own : List RunEvent) (lane place file calls : ℕ) → HaveTaken done left own → list_any (λ e. is_one_of e.doomed file || is_one_of e.removed file) own ≡ true → HaveTaken done left (own ++ removal_event lane place file calls ∷ [])
taken_again done left own lane place file calls h gone = record {
  taken = flat_push (λ (e : RunEvent). e.files) own event ∙ (append-nil (flat_map (λ (e : RunEvent). e.files) own) ∙ h.taken);
  done_are = All-weaker (λ (s : Source). is_done own (told_taken s) ≡ true) (λ (s : Source). is_done (own ++ event ∷ []) (told_taken s) ≡ true) (λ s e. done_push own event (told_taken s) ∙ ap (λ (b : Bool). b || (is_one_of (file ∷ []) s.file.0)) e) done h.done_are;
  left_are = All-weaker (λ (s : Source). is_done own (told_taken s) ≡ false) (λ (s : Source). is_done (own ++ event ∷ []) (told_taken s) ≡ false) (λ s e. done_push own event (told_taken s) ∙ (ap (λ (b : Bool). b || (is_one_of (file ∷ []) s.file.0)) e ∙ one_other file s.file.0 (λ same. fall (is_done own (told_taken s)) (ap (λ (n : ℕ). list_any (λ (x : RunEvent). is_one_of x.doomed n || is_one_of x.removed n) own) same ∙ gone) e))) left h.left_are;
}
  where
    event : RunEvent
    event = removal_event lane place file calls

-- What a call that removes a file leaves, on a disk: for the lists that it was settled for it is so still.
pub record LeavesSettled (m : MapMeaning) (before later : Option History) (began faults : Faults) : Type 0 where
  pub moments : (lists : Lists) → IsSettledFor lists before → Leaves lists lists before later
  pub rests : (lists : Lists) → IsSettledFor lists before → IsSettledFor lists later
  pub grows : Grows before later
  pub mail : MailIsKept m before later
  pub quiet : NoFault began faults

no_flag : {D : Type 0} → (t : PurgeValue) (store : StoreValue D) (s : PurgeStage) (run : Run) (place : ℕ) (said : List Reply) → t.stage ≡ s → IsAtPurge t store run place said → IsAtPurgeStage s t store run place said
no_flag t store s run place said at h = subst (λ (x : PurgeStage). IsAtPurgeStage x t store run place said) at h

-- A file that was switched is removed.
pub removing_steps : {D : Type 0} → (after : Around) (t next : PurgeValue) (work : Work) (source : Source) (left : List Source) (disk : D) (old : StoreValue D) (before later : Option History) (began faults : Faults) → t.stage ≡ stage.Removing work → sources_left work ≡ source ∷ left
    → IsNextStage (went_on work) next.stage → next.did ≡ did.Quiet → next.dropped ≡ t.dropped → next.files ≡ t.files → next.instances ≡ t.instances → old.stopped ≡ false → pins_in source.file.0 old.files.files ≡ 0 → source.file.0 ≤ old.drawn.file → AreElsewhere source.file.0 old.map.records
    → LeavesSettled old.map before later began faults → PurgeSteps [] after t next old (without source.file.0 disk old) before later began faults None
removing_steps after t next work source left disk old before later began faults at is to how dropped files instances ran unpinned drawn elsewhere leaves = λ run lane place said lists come shows stood.
    let at_left : IsAtSwitched t (source ∷ left) old run place said = subst (λ (l : List Source). IsAtSwitched t l old run place said) is (no_flag t old (stage.Removing work) run place said at stood.0) in
    let done : List Source = at_left.0 ++ source ∷ [] in
    let h : IsPurging t done left (RemovesBehind run source.file.0) old run place said = at_left.1 in
    let own : List RunEvent = own_events place run in
    let event : RunEvent = removal_event lane place source.file.0 (told_calls later) in
    let new : StoreValue _ = without source.file.0 disk old in
    let here : is_done own (told_taken source) ≡ true = last_of (λ (s : Source). is_done own (told_taken s) ≡ true) at_left.0 source h.taken.done_are in
    let gone : is_one_of (gone_files own) source.file.0 ≡ true = done_gone own source.file.0 ∙ here in
    let counts : CountsRemoval t next source.file.0 own = record { dropped = dropped; files = files ∙ sym (ap (λ (b : Bool). if b then t.files else t.files + 1) gone); instances = instances } in
    let taken : HaveTaken done left (own ++ event ∷ []) = taken_again done left own lane place source.file.0 (told_calls later) h.taken here in
    let way = removed_way t next done left done left (RemovesBehind run source.file.0) lane source.file.0 (told_calls later) old new run place said refl ran taken (λ c. c) counts h in
    stands_by (around_purging [] old) after run lane place said request.Purge lists (seen_by_purge old before began) (seen_by_purge new later faults) next.did None event None (IsAtPurge next new)
    (subst (λ (d : _). DidBy (around_purging [] old) after run lane place said request.Purge lists (seen_by_purge old before began) (seen_by_purge new later faults) d None event None) (sym how)
    (did_removal (around_purging [] old) after run lane place said lists source.file.0 disk old before later began faults come shows ran unpinned drawn elsewhere (next_removes (around_purging [] old) run place source.file.0 h.last) (removes_switched run own source.file.0 h.last) leaves.moments leaves.rests leaves.grows leaves.mail leaves.quiet))
    (λ none. at_next next work source done left new (and_then run event) place said is to way)
