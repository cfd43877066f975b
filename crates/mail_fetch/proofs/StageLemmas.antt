-- What a fetch's step says, from one stage to another.
use Rattle.mail_fetch.proofs.Common.{◌≡◌, ◌+◌, ◌-◌, ℕ, Bool, true, false, List, Option, Some, None, inl, inr, refl, sym, ◌∙◌, ap, subst, arith, if◌then◌else◌, option_map_or, cases_eq, cases_lt, Faults, History, IsIdle, NoFault, idle-begins, Uid, Progress, Refusal, Reply, Around, end_in}
use Rattle.mail_fetch.proofs.Common.{is_doomed_in, pins_in, MailFile, file-gone, file-without, IsStore, StoreValue, MovesClaims, Thing, amount_in, no_claims, LeavesOthers, HasClaimed, IsReadyToFetch, claims_of_pinned, fetch_claims, with_claims, without_claims, FetchSteps, IsBegun, IsPieceRead}
use Rattle.mail_fetch.proofs.Common.{fetch_refusal, left_after, pieces_left, RegionValue, is_last_pin, HasPieceLeft, StoredAt, FetchStage}
use Rattle.std.specs.Prelude.{◌<◌, ◌≤◌, ◌⊎◌}
use Rattle.mdbox_base.specs.declared.progress.Did.{Did}
use Rattle.mdbox_base.specs.declared.progress.Did.TheVariants as did
use Rattle.mdbox_base.specs.declared.progress.Progress.TheVariants as progress
use Rattle.mdbox_base.specs.declared.replies.Refusal.TheVariants as refusal
use Rattle.mdbox_base.specs.declared.replies.Reply.TheVariants as reply
use Rattle.sis_store.specs.Instances.{InstancesValue}
use Rattle.storage_files.specs.Files.{FilesValue, without_file}
use Rattle.task_claims.specs.Claims.{ClaimsNothing}
use Rattle.task_claims.specs.Stable.{MovesOwnClaims}
use Rattle.task_steps.specs.Step.{ended_by}
use Rattle.mail_fetch.specs.Claims.{used_by}
use Rattle.mail_fetch.specs.Clause.{FetchesAlone, MakesOfDisk, OnlyReadsDisk}
use Rattle.mail_fetch.specs.Events.{FetchesNext, IsUnpinned, NoChangeFault}
use Rattle.mail_fetch.specs.Failed.{HasFailedRead}
use Rattle.mail_fetch.specs.Removal.{with_file_gone}
use Rattle.mail_fetch.specs.Task.{FetchValue, event_did, fetch_did}
use Rattle.mail_fetch.specs.declared.task.FetchStage.TheVariants as stage
use Rattle.mail_fetch.proofs.ClaimLemmas.{begun_ended, fall, more_is, reading_leaves, reading_moves}
use Rattle.mail_fetch.proofs.UseLemmas.{doomed_still}
use Rattle.mail_fetch.proofs.StepLemmas.{begin_steps, last_pin_steps, read_steps, stopped_steps, unpin_steps}

-- What a step says of a store as it was and as it is, but for how many events are left.
pub record StepSays {D : Type 0} (H : D → Option History) (F : D → Faults) (name : List ℕ) (uid : Uid) (now next : FetchStage) (old new : StoreValue D) (how : Did) (answer : Progress) : Type 0 where
  pub does : (around after : Around) → FetchSteps around after name uid now next old new (H old.disk) (H new.disk) (F old.disk) (F new.disk) how (ended_by answer)
  pub claims : new.stopped ≡ false → MovesOwnClaims (fetch_claims now) (fetch_claims next) answer old new (H old.disk) (H new.disk)
  pub alone : FetchesAlone name uid.0 now next how answer old new (H old.disk) (H new.disk) (F old.disk) (F new.disk)

-- It says so of a task that is seen as this, at this stage.
pub says_seen : {D : Type 0} → (H : D → Option History) (F : D → Faults) (task seen : FetchValue) (now next then_next : FetchStage) (old new : StoreValue D) (how : Did) (answer : Progress) → task ≡ seen → task.stage ≡ now → then_next ≡ next → StepSays H F task.name task.uid now next old new how answer
    → StepSays H F seen.name seen.uid seen.stage then_next old new how answer
says_seen H F task seen now next then_next old new how answer same at goes h =
    subst (λ (v : FetchValue). StepSays H F v.name v.uid v.stage then_next old new how answer) same
    (subst (λ (s : FetchStage). StepSays H F task.name task.uid s then_next old new how answer) (sym at) (subst (λ (s : FetchStage). StepSays H F task.name task.uid now s old new how answer) (sym goes) h))

-- ---- a store that is stopped

stopped_next : {D : Type 0} → (name : List ℕ) (uid : ℕ) (now : FetchStage) (store : StoreValue D) (history : Option History) (faults : Faults) → store.stopped ≡ true → FetchesNext name uid now now (progress.Done (reply.Refused refusal.Stopped)) store history faults faults
stopped_next name uid stage.First store history faults stopped =
    let why_is : fetch_refusal name uid store ≡ Some refusal.Stopped = ap (λ (t : Bool). if t then Some refusal.Stopped else fetch_refusal name uid (record store { stopped = false })) stopped in
    record {
      refused = λ why e. (ap (λ (r : Refusal). progress.Done (reply.Refused r)) (let k : refusal.Stopped ≡ why = cc (sym why_is ∙ e) in k), refl);
      begun = λ e. absurd (let k : Some refusal.Stopped ≡ None = sym why_is ∙ e in cc k);
    }
stopped_next name uid (stage.Reading region) store history faults stopped = (λ t. (refl, refl), λ runs. absurd (fall store.stopped stopped runs))
stopped_next name uid (stage.Unpinning from given) store history faults stopped = (λ t. (refl, refl), λ runs. absurd (fall store.stopped stopped runs))
stopped_next name uid (stage.Removing file given) store history faults stopped = (λ t. (refl, refl), λ runs. absurd (fall store.stopped stopped runs))

stopped_did : (now : FetchStage) (stopped : Bool) → stopped ≡ true → did.Quiet ≡ event_did now now (progress.Done (reply.Refused refusal.Stopped)) stopped
stopped_did stage.First stopped e = refl
stopped_did (stage.Reading region) stopped e = refl
stopped_did (stage.Unpinning from given) stopped e = refl
stopped_did (stage.Removing file given) stopped e = ap (λ (b : Bool). event_did (stage.Removing file given) (stage.Removing file given) (progress.Done (reply.Refused refusal.Stopped)) b) (sym e)

stays_used : {D : Type 0} → (now : FetchStage) (store : StoreValue D) → store.stopped ≡ true → store ≡ record (used_by now now store) { disk = store.disk }
stays_used stage.First store stopped = refl
stays_used (stage.Reading region) store stopped = refl
stays_used (stage.Unpinning from given) store stopped = refl
stays_used (stage.Removing file given) store stopped = ap (λ (b : Bool). record store { stopped = b }) stopped

nothing_made : (next : FetchStage) (history : Option History) (faults : Faults) → OnlyReadsDisk next history history faults faults
nothing_made next history faults = record { idle = idle-begins history; fault = record { reads = omega arith; changes = refl }; unfailed = λ none. refl }

stopped_disk : {D : Type 0} → (now : FetchStage) (store : StoreValue D) (history : Option History) (faults : Faults) → store.stopped ≡ true → MakesOfDisk now now store store history history faults faults
stopped_disk stage.First store history faults stopped = nothing_made stage.First history faults
stopped_disk (stage.Reading region) store history faults stopped = nothing_made (stage.Reading region) history faults
stopped_disk (stage.Unpinning from given) store history faults stopped = nothing_made (stage.Unpinning from given) history faults
stopped_disk (stage.Removing file given) store history faults stopped = (λ t. nothing_made (stage.Removing file given) history faults, λ runs. absurd (fall store.stopped stopped runs))

pub stopped_says : {D : Type 0} → (H : D → Option History) (F : D → Faults) (name : List ℕ) (uid : Uid) (now : FetchStage) (store : StoreValue D) → HasPieceLeft now → store.stopped ≡ true → StepSays H F name uid now now store store did.Quiet (progress.Done (reply.Refused refusal.Stopped))
stopped_says H F name uid now store left stopped = record {
  does = λ around after. stopped_steps around after name uid now store (H store.disk) (F store.disk) left stopped;
  claims = λ runs. absurd (fall store.stopped stopped runs);
  alone = record {
    replies = stopped_next name uid.0 now store (H store.disk) (F store.disk) stopped;
    did_is = stopped_did now store.stopped stopped;
    same = stays_used now store stopped;
    disk = stopped_disk now store (H store.disk) (F store.disk) stopped;
    ready = λ runs. absurd (fall store.stopped stopped runs);
  };
}

-- ---- the first event

begun_disk : {D : Type 0} → (next : FetchStage) (store : StoreValue D) → (used_by stage.First next store).disk ≡ store.disk
begun_disk stage.First store = refl
begun_disk (stage.Reading region) store = refl
begun_disk (stage.Unpinning from given) store = refl
begun_disk (stage.Removing file given) store = refl

pub first_says : {D : Type 0} → (H : D → Option History) (F : D → Faults) (name : List ℕ) (uid : Uid) (next : FetchStage) (old new : StoreValue D) (how : Did) (answer : Progress) → IsStore (H old.disk) old → old.stopped ≡ false → IsBegun name uid.0 old next answer
    → ((region : RegionValue) → next ≡ stage.Reading region → (end : ℕ) × (end_in region.from.file.0 old.files.files ≡ Some end)) → new ≡ used_by stage.First next old → MovesClaims no_claims (fetch_claims next) old new → LeavesOthers no_claims old new (H old.disk) (H new.disk) → IsReadyToFetch next new
    → how ≡ fetch_did stage.First answer → StepSays H F name uid stage.First next old new how answer
first_says {D = D} H F name uid next old new how answer is runs b there same claims leaves ready hows =
    let disk : new.disk ≡ old.disk = ap (λ (s : StoreValue D). s.disk) same ∙ begun_disk next old in
    record {
      does = λ around after.
          subst (λ (d : D). FetchSteps around after name uid stage.First next old new (H old.disk) (H d) (F old.disk) (F d) how (ended_by answer)) (sym disk)
          (subst (λ (s : StoreValue D). FetchSteps around after name uid stage.First next old s (H old.disk) (H old.disk) (F old.disk) (F old.disk) how (ended_by answer)) (sym same)
          (begin_steps around after name uid old (H old.disk) (F old.disk) next answer how is runs b there hows));
      claims = λ runs_now. record { moves = claims; leaves = leaves; ended = λ given e. begun_ended name uid.0 old next answer given b e };
      alone = record {
        replies = b;
        did_is = hows;
        same = same ∙ ap (λ (d : D). record (used_by stage.First next old) { disk = d }) (ap (λ (s : StoreValue D). s.disk) (sym same));
        disk = subst (λ (d : D). OnlyReadsDisk next (H old.disk) (H d) (F old.disk) (F d)) (sym disk) (nothing_made next (H old.disk) (F old.disk));
        ready = λ runs_now. ready;
      };
    }

-- ---- a piece

-- it claims what it did
piece_claims : (region : RegionValue) (next : FetchStage) (history : Option History) (old new : Faults) (thing : Thing) → IsPieceRead region next history old new → fetch_claims next thing ≡ claims_of_pinned region.from thing
piece_claims region next history old new thing (inr (rose, is)) = ap (λ (s : FetchStage). fetch_claims s thing) is
piece_claims region next history old new thing (inl (piece, told, goes)) = by_size (cases_lt 0 (pieces_left (left_after region.left)))
  where
    by_size : (0 < pieces_left (left_after region.left)) ⊎ (pieces_left (left_after region.left) ≤ 0) → fetch_claims next thing ≡ claims_of_pinned region.from thing
    by_size (inl more) = ap (λ (s : FetchStage). fetch_claims s thing) (goes.more more)
    by_size (inr last) = ap (λ (s : FetchStage). fetch_claims s thing) (goes.last (omega (arith, last))).1

pub reading_says : {D : Type 0} → (H : D → Option History) (F : D → Faults) (name : List ℕ) (uid : Uid) (region : RegionValue) (next : FetchStage) (old new : StoreValue D) → HasPieceLeft (stage.Reading region) → old.stopped ≡ false → new ≡ record old { disk = new.disk } → IsIdle (H old.disk) (H new.disk) → NoChangeFault (F old.disk) (F new.disk)
    → ((HasFailedRead next → ⊥) → NoFault (F old.disk) (F new.disk)) → IsPieceRead region next (H old.disk) (F old.disk) (F new.disk) → IsReadyToFetch next new → StepSays H F name uid (stage.Reading region) next old new did.Quiet progress.More
reading_says H F name uid region next old new left runs same idle fault unfailed read ready = record {
  does = λ around after. read_steps around after name uid region old new (H old.disk) (H new.disk) (F old.disk) (F new.disk) next left runs same idle fault unfailed read;
  claims = λ runs_now. record {
    moves = λ thing.
        let amount = reading_moves old new same thing in
        let mine = piece_claims region next (H old.disk) (F old.disk) (F new.disk) thing read in
        ap (λ (n : ℕ). n + claims_of_pinned region.from thing) amount ∙ ap (λ (n : ℕ). amount_in thing old + n) (sym mine);
    leaves = reading_leaves old new (H old.disk) (H new.disk) same idle (claims_of_pinned region.from);
    ended = λ given e. absurd (more_is given e);
  };
  alone = record {
    replies = (λ stopped. absurd (fall old.stopped stopped runs), λ runs_now. (refl, read));
    did_is = refl;
    same = same;
    disk = record { idle = idle; fault = fault; unfailed = unfailed };
    ready = λ runs_now. ready;
  };
}

-- ---- the event that unpins

pub unpinning_says : {D : Type 0} → (H : D → Option History) (F : D → Faults) (name : List ℕ) (uid : Uid) (from : StoredAt) (given : Reply) (next : FetchStage) (answer : Progress) (old new : StoreValue D) → old.stopped ≡ false → HasClaimed from old → IsUnpinned from given next answer old → new ≡ without_claims from old
    → MovesClaims (claims_of_pinned from) (fetch_claims next) old new → LeavesOthers (claims_of_pinned from) old new (H old.disk) (H new.disk) → IsReadyToFetch next new → StepSays H F name uid (stage.Unpinning from given) next old new did.Quiet answer
unpinning_says {D = D} H F name uid from given next answer old new runs own unpinned same claims leaves ready = by_pin (is_last_pin from.file.0 old) refl
  where
    disk : new.disk ≡ old.disk
    disk = ap (λ (s : StoreValue D). s.disk) same

    -- to this stage, with this answer
    to : (then_next : FetchStage) (then_answer : Progress) → next ≡ then_next → answer ≡ then_answer → used_by (stage.Unpinning from given) then_next old ≡ without_claims from old → ((reply : Reply) → then_answer ≡ progress.Done reply → ClaimsNothing (fetch_claims then_next))
        → ((around after : Around) → FetchSteps around after name uid (stage.Unpinning from given) then_next old (without_claims from old) (H old.disk) (H old.disk) (F old.disk) (F old.disk) did.Quiet (ended_by then_answer)) → StepSays H F name uid (stage.Unpinning from given) next old new did.Quiet answer
    to then_next then_answer next_is answer_is used ended steps = record {
      does = λ around after.
          subst (λ (n : FetchStage). FetchSteps around after name uid (stage.Unpinning from given) n old new (H old.disk) (H new.disk) (F old.disk) (F new.disk) did.Quiet (ended_by answer)) (sym next_is)
          (subst (λ (a : Progress). FetchSteps around after name uid (stage.Unpinning from given) then_next old new (H old.disk) (H new.disk) (F old.disk) (F new.disk) did.Quiet (ended_by a)) (sym answer_is)
          (subst (λ (s : StoreValue D). FetchSteps around after name uid (stage.Unpinning from given) then_next old s (H old.disk) (H s.disk) (F old.disk) (F s.disk) did.Quiet (ended_by then_answer)) (sym same) (steps around after)));
      claims = λ runs_now. record {
        moves = claims;
        leaves = leaves;
        ended = λ reply e. subst (λ (n : FetchStage). ClaimsNothing (fetch_claims n)) (sym next_is) (ended reply (sym answer_is ∙ e));
      };
      alone = record {
        replies = (λ stopped. absurd (fall old.stopped stopped runs), λ runs_now. unpinned);
        did_is = refl;
        same = same ∙ (ap (λ (d : D). record (without_claims from old) { disk = d }) (sym disk) ∙ ap (λ (s : StoreValue D). record s { disk = new.disk }) (sym used ∙ ap (λ (n : FetchStage). used_by (stage.Unpinning from given) n old) (sym next_is)));
        disk = subst (λ (d : D). OnlyReadsDisk next (H old.disk) (H d) (F old.disk) (F d)) (sym disk) (nothing_made next (H old.disk) (F old.disk));
        ready = λ runs_now. ready;
      };
    }

    by_pin : (b : Bool) → is_last_pin from.file.0 old ≡ b → StepSays H F name uid (stage.Unpinning from given) next old new did.Quiet answer
    by_pin true last = let e = unpinned.last last in
        to (stage.Removing from.file given) progress.More e.1 e.0 refl (λ reply more. absurd (more_is reply more)) (λ around after. last_pin_steps around after name uid from given old (H old.disk) (F old.disk) runs last own.claimed)
    by_pin false other = let e = unpinned.other other in
        to stage.First (progress.Done given) e.1 e.0 refl (λ reply done thing. refl) (λ around after. unpin_steps around after name uid from given old (H old.disk) (F old.disk) runs other own.claimed)

-- the stage of a task that is seen as this
pub stage_seen : (task seen : FetchValue) (now : FetchStage) → task ≡ seen → task.stage ≡ now → seen.stage ≡ now
stage_seen task seen now same at = ap (λ (v : FetchValue). v.stage) (sym same) ∙ at

-- ---- what an event makes of the store

-- no more changes than disk, storage files and instances, and whether it is stopped
only : {D : Type 0} → (s t : StoreValue D) (disk : D) (files : FilesValue) (instances : InstancesValue) (stopped : Bool) → t ≡ record s { disk = disk; files = files; instances = instances; stopped = stopped } → t ≡ record s { disk = t.disk; files = t.files; instances = t.instances; stopped = t.stopped }
only {D = D} s t disk files instances stopped e = e ∙ sym (ap (λ (v : StoreValue D). record s { disk = v.disk; files = v.files; instances = v.instances; stopped = v.stopped }) e)

pub used_only : {D : Type 0} → (now next : FetchStage) (s t : StoreValue D) → t ≡ record (used_by now next s) { disk = t.disk } → t ≡ record s { disk = t.disk; files = t.files; instances = t.instances; stopped = t.stopped }
used_only stage.First stage.First s t e = only s t t.disk s.files s.instances s.stopped e
used_only stage.First (stage.Reading region) s t e = only s t t.disk (with_claims region.from s).files (with_claims region.from s).instances s.stopped e
used_only stage.First (stage.Unpinning from given) s t e = only s t t.disk s.files s.instances s.stopped e
used_only stage.First (stage.Removing file given) s t e = only s t t.disk s.files s.instances s.stopped e
used_only (stage.Reading region) next s t e = only s t t.disk s.files s.instances s.stopped e
used_only (stage.Unpinning from given) stage.First s t e = only s t t.disk (without_claims from s).files (without_claims from s).instances s.stopped e
used_only (stage.Unpinning from given) (stage.Reading region) s t e = only s t t.disk s.files s.instances s.stopped e
used_only (stage.Unpinning from given) (stage.Unpinning other reply) s t e = only s t t.disk s.files s.instances s.stopped e
used_only (stage.Unpinning from given) (stage.Removing file reply) s t e = only s t t.disk (without_claims from s).files (without_claims from s).instances s.stopped e
used_only (stage.Removing file given) stage.First s t e = only s t t.disk (with_file_gone file.0 s).files s.instances s.stopped e
used_only (stage.Removing file given) (stage.Reading region) s t e = only s t t.disk s.files s.instances s.stopped e
used_only (stage.Removing file given) (stage.Unpinning from reply) s t e = only s t t.disk s.files s.instances s.stopped e
used_only (stage.Removing file given) (stage.Removing other reply) s t e = only s t t.disk s.files s.instances true e

-- no more files are doomed
pub used_undoomed : {D : Type 0} → (now next : FetchStage) (s t : StoreValue D) (file : ℕ) → t ≡ record (used_by now next s) { disk = t.disk } → is_doomed_in file s.files.files ≡ false → is_doomed_in file t.files.files ≡ false
used_undoomed {D = D} now next s t n e none = ap (λ (v : StoreValue D). is_doomed_in n v.files.files) e ∙ by_stages now next
  where
    gone : (number : ℕ) → is_doomed_in n (without_file number s.files.files) ≡ false
    gone number = elim (cases_eq n number) [
      | inl same ↦ ap (λ (i : ℕ). is_doomed_in i (without_file number s.files.files)) same ∙ ap (λ (o : Option MailFile). option_map_or (λ f. f.doomed) o false) (file-gone number s.files.files)
      | inr apart ↦ ap (λ (o : Option MailFile). option_map_or (λ f. f.doomed) o false) (file-without number n s.files.files apart) ∙ none
    ]

    by_stages : (a b : FetchStage) → is_doomed_in n (used_by a b s).files.files ≡ false
    by_stages stage.First stage.First = none
    by_stages stage.First (stage.Reading region) = doomed_still region.from.file.0 n (pins_in region.from.file.0 s.files.files + 1) s.files.files ∙ none
    by_stages stage.First (stage.Unpinning from given) = none
    by_stages stage.First (stage.Removing file given) = none
    by_stages (stage.Reading region) b = none
    by_stages (stage.Unpinning from given) stage.First = doomed_still from.file.0 n (pins_in from.file.0 s.files.files - 1) s.files.files ∙ none
    by_stages (stage.Unpinning from given) (stage.Reading region) = none
    by_stages (stage.Unpinning from given) (stage.Unpinning other reply) = none
    by_stages (stage.Unpinning from given) (stage.Removing file reply) = doomed_still from.file.0 n (pins_in from.file.0 s.files.files - 1) s.files.files ∙ none
    by_stages (stage.Removing file given) stage.First = gone file.0
    by_stages (stage.Removing file given) (stage.Reading region) = none
    by_stages (stage.Removing file given) (stage.Unpinning from reply) = none
    by_stages (stage.Removing file given) (stage.Removing other reply) = none

-- Only a removal that leaves the task where it was stops the store.
abbrev StaysToRemove : FetchStage → FetchStage → Type 0
StaysToRemove (stage.Removing file given) (stage.Removing other reply) = Unit {0}
StaysToRemove now next = ⊥

used_stopped : {D : Type 0} → (now next : FetchStage) (s : StoreValue D) → ((used_by now next s).stopped ≡ s.stopped) ⊎ (StaysToRemove now next × ((used_by now next s).stopped ≡ true))
used_stopped stage.First stage.First s = inl refl
used_stopped stage.First (stage.Reading region) s = inl refl
used_stopped stage.First (stage.Unpinning from given) s = inl refl
used_stopped stage.First (stage.Removing file given) s = inl refl
used_stopped (stage.Reading region) next s = inl refl
used_stopped (stage.Unpinning from given) stage.First s = inl refl
used_stopped (stage.Unpinning from given) (stage.Reading region) s = inl refl
used_stopped (stage.Unpinning from given) (stage.Unpinning other reply) s = inl refl
used_stopped (stage.Unpinning from given) (stage.Removing file reply) s = inl refl
used_stopped (stage.Removing file given) stage.First s = inl refl
used_stopped (stage.Removing file given) (stage.Reading region) s = inl refl
used_stopped (stage.Removing file given) (stage.Unpinning from reply) s = inl refl
used_stopped (stage.Removing file given) (stage.Removing other reply) s = inr (tt, refl)

-- a store that runs after an event ran before it
pub used_runs : {D : Type 0} → (now next : FetchStage) (s t : StoreValue D) → t ≡ record (used_by now next s) { disk = t.disk } → t.stopped ≡ false → s.stopped ≡ false
used_runs now next s t e runs = elim (used_stopped now next s) [
  | inl same ↦ sym same ∙ (sym (ap (λ (v : StoreValue _). v.stopped) e) ∙ runs)
  | inr halts ↦ absurd (let k : true ≡ false = sym halts.1 ∙ (sym (ap (λ (v : StoreValue _). v.stopped) e) ∙ runs) in cc k)
]

-- and one that was stopped stays so
pub used_halted : {D : Type 0} → (now next : FetchStage) (s t : StoreValue D) → t ≡ record (used_by now next s) { disk = t.disk } → s.stopped ≡ true → t.stopped ≡ true
used_halted now next s t e stopped = elim (used_stopped now next s) [
  | inl same ↦ ap (λ (v : StoreValue _). v.stopped) e ∙ (same ∙ stopped)
  | inr halts ↦ ap (λ (v : StoreValue _). v.stopped) e ∙ halts.1
]

-- In a store that is stopped after an event the request is refused by that.
pub halted_reply : {D : Type 0} → (name : List ℕ) (uid : ℕ) (now next : FetchStage) (did : Did) (answer : Progress) (old new : StoreValue D) (before later : Option History) (began faults : Faults) → FetchesAlone name uid now next did answer old new before later began faults → new.stopped ≡ true → answer ≡ progress.Done (reply.Refused refusal.Stopped)
halted_reply name uid now next did answer old new before later began faults alone halted = by_old old.stopped refl
  where
    by_stages : (a b : FetchStage) → StaysToRemove a b → old.stopped ≡ false → FetchesNext name uid a b answer old before began faults → answer ≡ progress.Done (reply.Refused refusal.Stopped)
    by_stages (stage.Removing file given) (stage.Removing other reply) stays runs said = elim (said.1 runs) [
      | inl gone ↦ absurd (let k : stage.Removing other reply ≡ stage.First = gone.1 in cc k)
      | inr failed ↦ failed.1
    ]
    by_stages stage.First b stays runs said = absurd stays
    by_stages (stage.Reading region) b stays runs said = absurd stays
    by_stages (stage.Unpinning from given) b stays runs said = absurd stays
    by_stages (stage.Removing file given) stage.First stays runs said = absurd stays
    by_stages (stage.Removing file given) (stage.Reading region) stays runs said = absurd stays
    by_stages (stage.Removing file given) (stage.Unpinning from reply) stays runs said = absurd stays

    by_stop : (a : FetchStage) → old.stopped ≡ true → FetchesNext name uid a next answer old before began faults → answer ≡ progress.Done (reply.Refused refusal.Stopped)
    by_stop stage.First stopped said = (said.refused refusal.Stopped (ap (λ (b : Bool). if b then Some refusal.Stopped else fetch_refusal name uid (record old { stopped = false })) stopped)).0
    by_stop (stage.Reading region) stopped said = (said.0 stopped).0
    by_stop (stage.Unpinning from given) stopped said = (said.0 stopped).0
    by_stop (stage.Removing file given) stopped said = (said.0 stopped).0

    by_old : (b : Bool) → old.stopped ≡ b → answer ≡ progress.Done (reply.Refused refusal.Stopped)
    by_old true stopped = by_stop now stopped alone.replies
    by_old false runs = elim (used_stopped now next old) [
      | inl same ↦ absurd (let k : true ≡ false = sym halted ∙ (ap (λ (v : StoreValue _). v.stopped) alone.same ∙ (same ∙ runs)) in cc k)
      | inr halts ↦ by_stages now next halts.0 runs alone.replies
    ]
