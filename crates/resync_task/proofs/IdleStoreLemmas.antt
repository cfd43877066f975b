-- Events of a resync that change nothing but the disk of the store, by reading it.
use Rattle.resync_task.proofs.Common.{◌≡◌, ◌≤◌, ℕ, List, Option, Some, None, inl, refl, sym, ◌∙◌, ap, subst, arith, DiskState, History, Faults, Lists, due_at, StoreValue, seen_of, no_claims, Leads, ShowsSeen, ReadsStoreOnly, StaysSo}
use Rattle.std.specs.Prelude.{◌⊎◌}
use Rattle.disk_model.specs.Disk.{Grows, IsIdle}
use Rattle.disk_model.specs.declared.name.FileName.TheVariants as file
use Rattle.disk_model.proofs.BetweenLemmas.{between-map}
use Rattle.disk_model.proofs.IdleLemmas.{idle-images}
use Rattle.model_kept.proofs.KeptLemmas.{kept_idle}
use Rattle.model_store.specs.Safe.{Safe}
use Rattle.model_store.specs.Settled.{IsSettled, IsSettledFor, Leaves}
use Rattle.model_store.proofs.SettledLemmas.{settled_safe}
use Rattle.store_core.specs.Keeping.{KeepsRest}
use Rattle.store_seen.proofs.SeeingLemmas.{tells_as_before}
use Rattle.task_claims.specs.Claims.{Due, Emptied, Held, Made, MovesClaims, Pinned, PlacingPieces, Removing, Taken, Thing, amount_in}
use Rattle.task_claims.specs.Leaving.{IsSameOrSynced, LeavesOthers, SyncsMail}
use Rattle.task_claims.proofs.CountedLemmas.{unraised_same}
use Rattle.task_claims.proofs.GoneLemmas.{gone_stays}
use Rattle.task_claims.proofs.RestLemmas.{rest_leaves, same_claims}
use Rattle.resync_task.specs.Clause.{KeepsMessages}

-- ---- the disk

pub idle_grows : (old new : Option History) → IsIdle old new → Grows old new
idle_grows None new idle = grows_none new
  where
    grows_none : (h : Option History) → Grows None h
    grows_none h = omega arith
idle_grows (Some old) None idle = absurd idle.same
idle_grows (Some old) (Some new) idle = idle.each.later

pub idle_leaves : (lists : Lists) (a b : Option History) → IsSettledFor lists a → IsIdle a b → Leaves lists lists a b
idle_leaves lists None b settled i = absurd settled
idle_leaves lists (Some a) b settled i = idle-images (λ image. Safe image lists ⊎ Safe image lists) (Some a) b i (λ image is. inl (settled_safe a.now lists image settled is))

pub idle_settled : (lists : Lists) (a b : Option History) → IsSettledFor lists a → IsIdle a b → IsSettledFor lists b
idle_settled lists None b settled i = absurd settled
idle_settled lists (Some a) None settled i = absurd i.same
idle_settled lists (Some a) (Some b) settled i = subst (λ (d : DiskState). IsSettled d lists) (sym i.same) settled

abbrev Synced : DiskState → DiskState → Type 0
Synced a b = ((number : ℕ) → IsSameOrSynced (a (file.Mail number)) (b (file.Mail number))) × ((hash id : List ℕ) → IsSameOrSynced (a (file.Inst hash id)) (b (file.Inst hash id)))

idle_syncs : (before after : Option History) → IsIdle before after → SyncsMail before after
idle_syncs before after idle =
    between-map (λ a b. b ≡ a) Synced before after (λ a b e. ((λ number. inl (ap (λ (d : DiskState). d (file.Mail number)) e)), (λ hash id. inl (ap (λ (d : DiskState). d (file.Inst hash id)) e)))) idle.same

-- ---- the store

same_amount : {D : Type 0} → (store : StoreValue D) (disk : D) (thing : Thing) → amount_in thing (record store { disk = disk }) ≡ amount_in thing store
same_amount store disk (Due uid) = refl
same_amount store disk (Pinned file) = refl
same_amount store disk (Taken file) = refl
same_amount store disk (Emptied file) = refl
same_amount store disk (PlacingPieces file) = refl
same_amount store disk (Removing file) = refl
same_amount store disk (Held id) = refl
same_amount store disk (Made number) = refl

pub reading_claims : {D : Type 0} → (old new : StoreValue D) → new ≡ record old { disk = new.disk } → MovesClaims no_claims no_claims old new
reading_claims old new same = same_claims no_claims old new (λ thing. ap (λ (s : StoreValue _). amount_in thing s) same ∙ same_amount old new.disk thing)

pub reading_leaves : {D : Type 0} → (old new : StoreValue D) (before after : Option History) → ReadsStoreOnly old new before after → LeavesOthers no_claims old new before after
reading_leaves old new before after only =
    subst (λ (s : StoreValue _). LeavesOthers no_claims old s before after) (sym only.same)
    (rest_leaves no_claims old (record old { disk = new.disk }) before after refl refl (idle_syncs before after only.idle) refl (unraised_same old.map old.map refl) (omega arith) (omega arith) (inl (λ name number is. is)) (gone_stays old (record old { disk = new.disk }) refl refl (omega arith)) (λ number uid held k. record { given = k.given; below = k.below; same = k.same }) (omega arith) (λ uid row none found listed. (listed, refl)))

pub reading_rest : {D : Type 0} → (old new : StoreValue D) → new ≡ record old { disk = new.disk } → KeepsRest old new
reading_rest old new same = same ∙ sym (ap (λ (v : StoreValue _). record old { disk = new.disk; map_log = v.map_log; map = v.map; boxes = v.boxes; drawn = v.drawn; dues = v.dues; stopped = v.stopped }) same)

pub reading_mail : (unfailed : Type 0) (before after : Option History) → IsIdle before after → KeepsMessages unfailed before after
reading_mail unfailed before after idle = record { stays = λ m. kept_idle m before after idle; left = λ ran. idle_syncs before after idle }

-- ---- as it is seen

pub reading_stays : {D : Type 0} → (pins : ℕ → ℕ) (old new : StoreValue D) (before after : Option History) (began now : Faults) → ReadsStoreOnly old new before after → began.reads ≤ now.reads → began.changes ≤ now.changes → StaysSo (seen_of pins old before began) (seen_of pins new after now)
reading_stays pins old new before after began now only reads changes = record {
  map = ap (λ (s : StoreValue _). s.map) only.same;
  drawn = ap (λ (s : StoreValue _). s.drawn) only.same;
  due = λ uid. ap (λ (s : StoreValue _). due_at uid s) only.same;
  tells = tells_as_before pins old new before after began now (λ runs. sym (ap (λ (s : StoreValue _). s.stopped) only.same) ∙ runs) (ap (λ (s : StoreValue _). s.map.store) only.same) (ap (λ (s : StoreValue _). s.drawn.file) only.same) (ap (λ (s : StoreValue _). s.drawn.instance) only.same)
      (ap (λ (s : StoreValue _). s.files) only.same) (ap (λ (s : StoreValue _). s.instances) only.same);
  grows = idle_grows before after only.idle;
  mail = kept_idle old.map before after only.idle;
  reads = reads;
  changes = changes;
}

pub reading_shows : {D : Type 0} → (pins : ℕ → ℕ) (old new : StoreValue D) (before after : Option History) (began now : Faults) (lists : Lists) → new ≡ record old { disk = new.disk } → ShowsSeen (seen_of pins old before began) lists → ShowsSeen (seen_of pins new after now) lists
reading_shows pins old new before after began now lists same shows = subst (λ (s : StoreValue _). ShowsSeen (seen_of pins s after now) lists) (sym same) (shows.0, shows.1)

pub reading_leads : {D : Type 0} → (pins : ℕ → ℕ) (old new : StoreValue D) (before after : Option History) (began now : Faults) (lists : Lists) → IsIdle before after → Leads lists lists (seen_of pins old before began) (seen_of pins new after now)
reading_leads pins old new before after began now lists idle = record { stops = λ s. idle_leaves lists before after s.0 idle; settled = λ s. idle_settled lists before after s.0 idle }
