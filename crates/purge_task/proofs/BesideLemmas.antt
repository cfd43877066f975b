-- Where a purge stands, beside events of other tasks.
use Rattle.purge_task.proofs.Common.{◌≡◌, ◌≤◌, ◌==◌, ℕ, Bool, false, List, [], ◌∷◌, ◌++◌, Option, refl, ap, arith, All, if◌then◌else◌, list_any, eq-eqb, All-cons, All-head, All-nil, All-tail, sum_by-cons, History, MapPlace, Reply, EventPart, Run, RunEvent, and_then, is_one_of, own_events}
use Rattle.purge_task.proofs.Common.{StoreValue, Claims, Emptied, records_within, claims_of_sources, purge_claims, sources_left, PurgeValue, CopiesBehind, GoesOnBehind, HaveCopied, IsAtPurge, IsAtPurgeStage, IsAtSwitched, IsPurging, RemovesBehind, PurgeStage, Source}
use Rattle.std.specs.Prelude.{◌≢◌, drop}
use Rattle.task_claims.specs.Stable.{Beside}
use Rattle.task_claims.proofs.LeftLemmas.{emptied_left}
use Rattle.task_steps.specs.Step.{GivesNew}
use Rattle.purge_task.specs.declared.task.PurgeStage.TheVariants as stage
use Rattle.purge_task.proofs.KeptLemmas.{purge_stays}
use Rattle.purge_task.proofs.WithinLemmas.{uids_within}

abbrev SameWithin : {D : Type 0} → StoreValue D → StoreValue D → Source → Type 0
SameWithin old new s = records_within s.file.0 new.map ≡ records_within s.file.0 old.map

-- another store, in which the records of the files that are left lie where they did
store_changes : {D : Type 0} → (t : PurgeValue) (done left : List Source) (Behind : List ℕ → EventPart → Type 0) (old new : StoreValue D) (run : Run) (place : ℕ) (said : List Reply) → (new.stopped ≡ false → (old.stopped ≡ false) × All (SameWithin old new) left) → IsPurging t done left Behind old run place said
    → IsPurging t done left Behind new run place said
store_changes t done left Behind old new run place said same h = record {
  unsaid = h.unsaid;
  last = h.last;
  unrefused = h.unrefused;
  taken = h.taken;
  copied = λ runs. let s = same runs in each left s.1 (h.copied s.0);
  counted = h.counted;
}
  where
    own : List RunEvent
    own = own_events place run

    each : (rest : List Source) → All (SameWithin old new) rest → All (HaveCopied old.map own) rest → All (HaveCopied new.map own) rest
    each [] a b = All-nil _
    each (s ∷ rest) a b =
        All-cons (HaveCopied new.map own) s rest
        (uids_within s.file.0 old.map new.map (λ uid. list_any (λ (e : RunEvent). is_one_of e.copied uid) own ≡ list_any (λ (p : MapPlace). p.uid.0 == uid) s.copied.items) (All-head (SameWithin old new) s rest a) (All-head (HaveCopied old.map own) s rest b))
        (each rest (All-tail (SameWithin old new) s rest a) (All-tail (HaveCopied old.map own) s rest b))

-- each file that is left is claimed
abbrev is_file : ℕ → Source → ℕ
is_file file s = if s.file.0 == file then 1 else 0

each_claimed : (theirs : ℕ → ℕ) (left : List Source) → ((file : ℕ) → claims_of_sources left (Emptied file) ≤ theirs file) → All (λ s. 1 ≤ theirs s.file.0) left
each_claimed theirs [] more = All-nil _
each_claimed theirs (s ∷ left) more =
    All-cons (λ (x : Source). 1 ≤ theirs x.file.0) s left
    (let a = more s.file.0 in let b = sum_by-cons (is_file s.file.0) s left in let one : is_file s.file.0 s ≡ 1 = ap (λ (b : Bool). if b then 1 else 0) (eq-eqb s.file.0 s.file.0 refl) in omega (arith, a, b, one))
    (each_claimed theirs left (λ file. let a = more file in let b = sum_by-cons (is_file file) s left in omega (arith, a, b)))

same_left : {D : Type 0} → (theirs : Claims) (left : List Source) (old new : StoreValue D) (before after : Option History) → Beside theirs old new before after → ((file : ℕ) → claims_of_sources left (Emptied file) ≤ theirs (Emptied file)) → All (SameWithin old new) left
same_left theirs left old new before after b more = each left (each_claimed (λ file. theirs (Emptied file)) left more)
  where
    each : (rest : List Source) → All (λ s. 1 ≤ theirs (Emptied s.file.0)) rest → All (SameWithin old new) rest
    each [] h = All-nil _
    each (s ∷ rest) h = All-cons (SameWithin old new) s rest (emptied_left theirs old new before after s.file.0 b (All-head (λ (x : Source). 1 ≤ theirs (Emptied x.file.0)) s rest h)).0.records (each rest (All-tail (λ (x : Source). 1 ≤ theirs (Emptied x.file.0)) s rest h))

-- an event of another task, beside this one that stands at a stage: unless the store is stopped then, it ran before
abbrev Passes : {D : Type 0} → PurgeStage → StoreValue D → StoreValue D → Option History → Option History → Type 0
Passes s old new before after = new.stopped ≡ false → (old.stopped ≡ false) × Beside (purge_claims s) old new before after

stage_changes : {D : Type 0} → (s : PurgeStage) (t : PurgeValue) (old new : StoreValue D) (before after : Option History) (run : Run) (place : ℕ) (said : List Reply) → Passes s old new before after → IsAtPurgeStage s t old run place said → IsAtPurgeStage s t new run place said
stage_changes stage.First t old new before after run place said p h = h
stage_changes (stage.Begin work) t old new before after run place said p h =
    (h.0, store_changes t h.0 (sources_left work) (GoesOnBehind run) old new run place said (λ runs. let q = p runs in (q.0, same_left (purge_claims (stage.Begin work)) (sources_left work) old new before after q.1 (λ file. omega arith))) h.1)
stage_changes (stage.Copying work) t old new before after run place said p h =
    (h.0, store_changes t h.0 (sources_left work) (λ doomed part. CopiesBehind part) old new run place said (λ runs. let q = p runs in (q.0, same_left (purge_claims (stage.Copying work)) (sources_left work) old new before after q.1 (λ file. omega arith))) h.1)
stage_changes (stage.Removing work) t old new before after run place said p h = by_left (sources_left work) (λ file. omega arith) h
  where
    by_left : (left : List Source) → ((file : ℕ) → claims_of_sources (drop 1 left) (Emptied file) ≤ purge_claims (stage.Removing work) (Emptied file)) → IsAtSwitched t left old run place said → IsAtSwitched t left new run place said
    by_left [] more h = absurd h
    by_left (source ∷ left) more h =
        (h.0, store_changes t (h.0 ++ source ∷ []) left (RemovesBehind run source.file.0) old new run place said (λ runs. let q = p runs in (q.0, same_left (purge_claims (stage.Removing work)) left old new before after q.1 more)) h.1)
stage_changes stage.Instances t old new before after run place said p h = (h.0, store_changes t h.0 [] (GoesOnBehind run) old new run place said (λ runs. ((p runs).0, All-nil _)) h.1)

-- A purge stands where it stood, beside every event of another request.
pub purge_stands : {D : Type 0} → (t : PurgeValue) (old new : StoreValue D) (before after : Option History) (run : Run) (place : ℕ) (said : List Reply) (event : RunEvent) → (new.stopped ≡ false → (old.stopped ≡ false) × Beside (purge_claims t.stage) old new before after) → event.request ≢ place → GivesNew run event
    → IsAtPurge t old run place said → IsAtPurge t new (and_then run event) place said
purge_stands t old new before after run place said event passes other new_ones stood = stage_changes t.stage t old new before after (and_then run event) place said passes (purge_stays t old run place said event other new_ones stood)
