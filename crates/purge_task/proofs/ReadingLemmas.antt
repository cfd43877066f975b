-- Calls that read, and calls one after another, as a message is copied.
use Rattle.purge_task.proofs.Common.{inl, Option, Some, None, sym, subst, arith, ◌⊎◌, DiskState, History, IsIdle, Grows, Lists, IsSettledFor, Leaves, KeepsStored}
use Rattle.disk_model.proofs.IdleLemmas.{idle-between, idle-images}
use Rattle.disk_model.proofs.MomentLemmas.{each_image-then}
use Rattle.model_store.specs.Safe.{Safe}
use Rattle.model_store.specs.Settled.{IsSettled}
use Rattle.model_store.proofs.SettledLemmas.{settled_safe}

pub idle_leaves : (lists : Lists) (old new : Option History) → IsIdle old new → IsSettledFor lists old → Leaves lists lists old new
idle_leaves lists None new idle settled = absurd settled
idle_leaves lists (Some old) new idle settled = idle-images (λ image. Safe image lists ⊎ Safe image lists) (Some old) new idle (λ image is. inl (settled_safe old.now lists image settled is))

pub idle_settled : (lists : Lists) (old new : Option History) → IsIdle old new → IsSettledFor lists old → IsSettledFor lists new
idle_settled lists None new idle settled = absurd settled
idle_settled lists (Some old) None idle settled = absurd idle.same
idle_settled lists (Some old) (Some new) idle settled = subst (λ (d : DiskState). IsSettled d lists) (sym idle.same) settled

pub idle_stored : (old new : Option History) → IsIdle old new → KeepsStored old new
idle_stored old new idle = idle-between _ old new idle (λ disk row octets stored. stored)

pub idle_grows : (old new : Option History) → IsIdle old new → Grows old new
idle_grows None new idle = omega arith
idle_grows (Some old) None idle = absurd idle.same
idle_grows (Some old) (Some new) idle = idle.each.later

pub leaves_then : (lists : Lists) (old now new : Option History) → Leaves lists lists old now → Leaves lists lists now new → Leaves lists lists old new
leaves_then lists old now new first second = each_image-then (λ n image. Safe image lists ⊎ Safe image lists) old now new first second
