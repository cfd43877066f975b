-- The clause of an event of a purge that removes a storage file in which no message lies.
use Rattle.purge_task.proofs.Common.{◌≡◌, ◌≤◌, ◌<◌, ◌+◌, ◌==◌, ℕ, Bool, false, List, [], ◌∷◌, ◌++◌, Option, Some, None, refl, sym, ◌∙◌, ap, subst, nat_lt, if◌then◌else◌, list_any, option_map_or, All-head, All-tail, Faults, History, told_calls, FileNo, Did, MapMeaning, pairs_head, MakesTarget}
use Rattle.purge_task.proofs.Common.{RemovesFile, RunEvent, Switches, TakenFile, and_then, is_one_of, map_of, own_events, Around, is_done, next_part, next_taken, purge_goes_on, pins_in, AreElsewhere, StoreValue, sources_left, PurgeSteps, around_purging, seen_by_purge, AreSourcesApart, PurgeValue}
use Rattle.purge_task.proofs.Common.{GoesOnBehind, HaveCopied, HaveTaken, IsAtPurge, IsAtPurgeStage, IsNextStage, IsPurging, told_taken, went_on, PurgeStage, Source, Work, DidBy, stands_by}
use Rattle.mdbox_base.specs.declared.progress.Did.TheVariants as did
use Rattle.mdbox_base.specs.declared.requests.Request.TheVariants as request
use Rattle.purge_task.specs.declared.task.PurgeStage.TheVariants as stage
use Rattle.purge_task.proofs.PartLemmas.{next_goes_on, next_is}
use Rattle.purge_task.proofs.RemovalLemmas.{CountsRemoval, LeavesSettled, did_removal, none_in, removed_way, removes_taken}
use Rattle.purge_task.proofs.RemovalSeenLemmas.{removal_event, without}
use Rattle.purge_task.proofs.RunLemmas.{done_gone, gone_files, one_alone, taken_on}
use Rattle.purge_task.proofs.StageLemmas.{at_next}

pub bare_steps : {D : Type 0} → (after : Around) (t next : PurgeValue) (work : Work) (source : Source) (left : List Source) (disk : D) (old : StoreValue D) (before later : Option History) (began faults : Faults) → t.stage ≡ stage.Begin work → sources_left work ≡ source ∷ left → source.target ≡ None → AreSourcesApart (source ∷ left)
    → IsNextStage (went_on work) next.stage → next.did ≡ did.Quiet → next.dropped ≡ t.dropped → next.files ≡ t.files + 1 → next.instances ≡ t.instances → old.stopped ≡ false → pins_in source.file.0 old.files.files ≡ 0
    → source.file.0 ≤ old.drawn.file → AreElsewhere source.file.0 old.map.records → LeavesSettled old.map before later began faults → PurgeSteps [] after t next old (without source.file.0 disk old) before later began faults None
bare_steps after t next work source left disk old before later began faults at is none apart to how dropped counted instances ran unpinned drawn elsewhere leaves = λ run lane place said lists come shows stood.
    let around : Around = around_purging [] old in
    let stands = subst (λ (x : PurgeStage). IsAtPurgeStage x t old run place said) at stood.0 in
    let h = subst (λ (l : List Source). IsPurging t stands.0 l (GoesOnBehind run) old run place said) is stands.1 in
    let own : List RunEvent = own_events place run in
    let event : RunEvent = removal_event lane place source.file.0 (told_calls later) in
    let new : StoreValue _ = without source.file.0 disk old in
    let taken : next_taken own ≡ Some (told_taken source) = next_is stands.0 source left own h.taken in
    let number : (told_taken source).target ≡ 0 = ap (λ (o : Option FileNo). option_map_or (λ t. t.0) o 0) none in
    let next_one : next_part around run request.Purge own ≡ Some RemovesFile = next_goes_on around run place h.last
    ∙ (ap (λ (o : Option TakenFile). purge_goes_on around run o) taken
    ∙ (ap (λ (n : ℕ). if nat_lt 0 n then Some MakesTarget else (if list_any (λ row. row.file == source.file.0) (map_of run).records then Some Switches else Some RemovesFile)) number
    ∙ ap (λ (b : Bool). if b then Some Switches else Some RemovesFile) (ap (λ (m : MapMeaning). list_any (λ row. row.file == source.file.0) m.records) come.come.map_is ∙ none_in source.file.0 old.map.records elsewhere))) in
    let fresh : is_one_of (gone_files own) source.file.0 ≡ false = done_gone own source.file.0 ∙ All-head (λ (s : Source). is_done own (told_taken s) ≡ false) source left h.taken.left_are in
    let counts : CountsRemoval t next source.file.0 own = record { dropped = dropped; files = counted ∙ sym (ap (λ (b : Bool). if b then t.files else t.files + 1) fresh); instances = instances } in
    let now_taken : HaveTaken (stands.0 ++ source ∷ []) left (own ++ event ∷ []) = taken_on stands.0 source left own event refl (λ file. one_alone source.file.0 file) (pairs_head (λ (a b : Source). a.file.0 < b.file.0) source left apart.files) h.taken in
    let way = removed_way t next stands.0 (source ∷ left) (stands.0 ++ source ∷ []) left (GoesOnBehind run) lane source.file.0 (told_calls later) old new run place said refl ran now_taken (λ c. All-tail (HaveCopied old.map own) source left c) counts h in
    stands_by around after run lane place said request.Purge lists (seen_by_purge old before began) (seen_by_purge new later faults) next.did None event None (IsAtPurge next new)
    (subst (λ (d : Did). DidBy around after run lane place said request.Purge lists (seen_by_purge old before began) (seen_by_purge new later faults) d None event None) (sym how)
    (did_removal around after run lane place said lists source.file.0 disk old before later began faults come shows ran unpinned drawn elsewhere next_one (removes_taken run own (told_taken source) h.last taken) leaves.moments leaves.rests leaves.grows leaves.mail leaves.quiet))
    (λ goes. at_next next work source (stands.0 ++ source ∷ []) left new (and_then run event) place said is to way)
