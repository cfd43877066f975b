use Rattle.store_core.proofs.Common.{◌≡◌, ◌∙◌, ap, subst, refl, Lists, IsSettledFor, Leaves, KeepsStored, MailIsKept}
use Rattle.disk_model.specs.declared.name.FileName.TheVariants as file
use Rattle.store_core.proofs.StoreFileLemmas.{settled_then, stored_then, room_kept}
use Rattle.store_core.proofs.PieceLemmas.{synced_store, change_synced, left_leaves}
use Rattle.store_core.proofs.MadeLogLemmas.{made_beside}
use Rattle.store_core.proofs.KnownInstanceLemmas.{instances_placed}
use Rattle.store_core.proofs.MailStayLemmas.{synced_kept}
use Rattle.store_core.proofs.store.Store.end_place.Goals as goal

pub end_place-requires-clause-known : goal.end_place-requires-clause-known
end_place-requires-clause-known g c = (c.self.invariant.1.running (ap (λ v. v.stopped) c.self.view_is ∙ c.requires.running)).files_known c.args.file.0

pub invariant_of-self : goal.invariant_of-self
invariant_of-self g c =
    let runs = ap (λ v. v.stopped) c.self.view_is ∙ c.requires.running in (
      c.self.invariant.0,
      synced_store c.args.file.0 _ _ _ c.end_place.new.disk c.end_place.new.self c.self.invariant.1 runs (g.met.D.Disk.reads_image c.self.inside.disk) c.in-Ok.ensures.ok c.in-Ok.ensures.others c.in-Ok.ensures.synced c.in-Ok.ensures.still_known,
      room_kept _ c.end_place.new.disk c.end_place.new.self c.self.inside.drawn c.self.inside.stopped c.self.invariant.2,
      made_beside _ _ _ _ (file.Mail c.args.file.0) refl refl refl refl refl (λ number e. absurd (let w : file.Box number 1 ≡ file.Mail c.args.file.0 = e in cc w)) c.in-Ok.ensures.others c.self.invariant.3,
      instances_placed c.args.file.0 _ _ _ _ c.self.invariant.4 c.in-Ok.ensures.others refl refl refl (λ on. on),
    )

pub returns-in-Ok-clause-any_moment : goal.returns-in-Ok-clause-any_moment
returns-in-Ok-clause-any_moment g c =
    subst (λ v. (lists : Lists) → IsSettledFor lists (g.D.Disk.history v.disk) → Leaves lists lists (g.D.Disk.history v.disk) (g.D.Disk.history c.end_place.new.disk)) c.self.view_is
    (left_leaves c.args.file.0 _ _ (g.met.D.Disk.reads_image c.self.inside.disk) c.end_place.ensures.any_moment)

pub returns-in-Err-clause-any_moment : goal.returns-in-Err-clause-any_moment
returns-in-Err-clause-any_moment g c =
    subst (λ v. (lists : Lists) → IsSettledFor lists (g.D.Disk.history v.disk) → Leaves lists lists (g.D.Disk.history v.disk) (g.D.Disk.history c.end_place.new.disk)) c.self.view_is
    (left_leaves c.args.file.0 _ _ (g.met.D.Disk.reads_image c.self.inside.disk) c.end_place.ensures.any_moment)

pub returns-in-Ok-clause-settled : goal.returns-in-Ok-clause-settled
returns-in-Ok-clause-settled g c =
    subst (λ v. (lists : Lists) → IsSettledFor lists (g.D.Disk.history v.disk) → IsSettledFor lists (g.D.Disk.history c.end_place.new.disk)) c.self.view_is
    (settled_then c.args.file.0 _ _ (change_synced c.args.file.0 _ _ (g.met.D.Disk.reads_image c.self.inside.disk) c.in-Ok.ensures.others c.in-Ok.ensures.synced))

pub returns-in-Ok-clause-stored : goal.returns-in-Ok-clause-stored
returns-in-Ok-clause-stored g c =
    subst (λ v. KeepsStored (g.D.Disk.history v.disk) (g.D.Disk.history c.end_place.new.disk)) c.self.view_is
    (stored_then c.args.file.0 _ _ (change_synced c.args.file.0 _ _ (g.met.D.Disk.reads_image c.self.inside.disk) c.in-Ok.ensures.others c.in-Ok.ensures.synced))

pub returns-in-Ok-clause-mail_stays : goal.returns-in-Ok-clause-mail_stays
returns-in-Ok-clause-mail_stays g c = λ m.
    subst (λ v. MailIsKept m (g.D.Disk.history v.disk) (g.D.Disk.history c.end_place.new.disk)) c.self.view_is
    (synced_kept m c.args.file.0 _ _ c.end_place.ensures.any_moment)

pub returns-in-Err-clause-mail_stays : goal.returns-in-Err-clause-mail_stays
returns-in-Err-clause-mail_stays g c = λ m.
    subst (λ v. MailIsKept m (g.D.Disk.history v.disk) (g.D.Disk.history c.end_place.new.disk)) c.self.view_is
    (synced_kept m c.args.file.0 _ _ c.end_place.ensures.any_moment)
