use Rattle.store_core.proofs.Common.{◌≡◌, false, refl, sym, ◌∙◌, ap, subst, Lists, IsSettledFor, Leaves, KeepsStored, MailIsKept, has_made_log}
use Rattle.disk_model.specs.declared.name.FileName.TheVariants as file
use Rattle.store_core.specs.Drafts.{IsOutOfForce}
use Rattle.store_core.proofs.DraftCallLemmas.{made_draft_named}
use Rattle.store_core.proofs.KnownInstanceLemmas.{instances_logged}
use Rattle.store_core.proofs.MadeCallLemmas.{room_same}
use Rattle.store_core.proofs.MailStayLemmas.{box_log_kept}
use Rattle.store_core.proofs.UnneededLogLemmas.{besides, leaves_beside, named_but, settled_then, store_beside, stored_then}
use Rattle.store_core.proofs.store.Store.drop_log.Goals as goal

pub invariant_of-self : goal.invariant_of-self
invariant_of-self g c =
    let runs = ap (λ v. v.stopped) c.self.view_is ∙ c.requires.running in
    let free = subst (λ v. IsOutOfForce c.args.number.0 c.args.generation v.map) (sym c.self.view_is) c.requires.free in
    let unmade = subst (λ v. has_made_log c.args.number.0 v ≡ false) (sym c.self.view_is) c.requires.unmade in
    let others = named_but (file.Box c.args.number.0 c.args.generation) _ _ c.in-Ok.ensures.others in (
      c.self.invariant.0,
      store_beside c.args.number.0 c.args.generation _ _ _ c.remove_log.new.disk c.self.inside.made.items c.self.invariant.1 runs free (besides (file.Box c.args.number.0 c.args.generation) _ _ others),
      room_same _ _ refl refl c.self.invariant.2,
      made_draft_named _ _ _ _ c.args.number.0 c.args.generation runs refl refl refl unmade others c.self.invariant.3,
      instances_logged c.args.number.0 c.args.generation _ _ _ _ c.self.invariant.4 others refl refl refl (λ on. on),
    )

pub returns-in-Ok-clause-any_moment : goal.returns-in-Ok-clause-any_moment
returns-in-Ok-clause-any_moment g c =
    let runs = ap (λ v. v.stopped) c.self.view_is ∙ c.requires.running in
    let free = subst (λ v. IsOutOfForce c.args.number.0 c.args.generation v.map) (sym c.self.view_is) c.requires.free in
    subst (λ v. (lists : Lists) → IsSettledFor lists (g.D.Disk.history v.disk) → Leaves lists lists (g.D.Disk.history v.disk) (g.D.Disk.history c.remove_log.new.disk)) c.self.view_is
    (leaves_beside c.args.number.0 c.args.generation _ _ _ c.self.invariant.1 runs free (g.met.D.Disk.reads_image c.self.inside.disk) c.remove_log.ensures.any_moment)

pub returns-in-Ok-clause-mail_stays : goal.returns-in-Ok-clause-mail_stays
returns-in-Ok-clause-mail_stays g c = λ m.
    subst (λ v. MailIsKept m (g.D.Disk.history v.disk) (g.D.Disk.history c.remove_log.new.disk)) c.self.view_is
    (box_log_kept m _ c.args.number.0 c.args.generation _ _ refl c.remove_log.ensures.any_moment)

pub returns-in-Err-clause-any_moment : goal.returns-in-Err-clause-any_moment
returns-in-Err-clause-any_moment g c =
    let runs = ap (λ v. v.stopped) c.self.view_is ∙ c.requires.running in
    let free = subst (λ v. IsOutOfForce c.args.number.0 c.args.generation v.map) (sym c.self.view_is) c.requires.free in
    subst (λ v. (lists : Lists) → IsSettledFor lists (g.D.Disk.history v.disk) → Leaves lists lists (g.D.Disk.history v.disk) (g.D.Disk.history c.remove_log.new.disk)) c.self.view_is
    (leaves_beside c.args.number.0 c.args.generation _ _ _ c.self.invariant.1 runs free (g.met.D.Disk.reads_image c.self.inside.disk) c.remove_log.ensures.any_moment)

pub returns-in-Err-clause-mail_stays : goal.returns-in-Err-clause-mail_stays
returns-in-Err-clause-mail_stays g c = λ m.
    subst (λ v. MailIsKept m (g.D.Disk.history v.disk) (g.D.Disk.history c.remove_log.new.disk)) c.self.view_is
    (box_log_kept m _ c.args.number.0 c.args.generation _ _ refl c.remove_log.ensures.any_moment)

pub returns-in-Ok-clause-settled : goal.returns-in-Ok-clause-settled
returns-in-Ok-clause-settled g c =
    let runs = ap (λ v. v.stopped) c.self.view_is ∙ c.requires.running in
    let free = subst (λ v. IsOutOfForce c.args.number.0 c.args.generation v.map) (sym c.self.view_is) c.requires.free in
    subst (λ v. (lists : Lists) → IsSettledFor lists (g.D.Disk.history v.disk) → IsSettledFor lists (g.D.Disk.history c.remove_log.new.disk)) c.self.view_is
    (settled_then c.args.number.0 c.args.generation _ _ _ c.self.invariant.1 runs free (g.met.D.Disk.reads_image c.self.inside.disk) (besides (file.Box c.args.number.0 c.args.generation) _ _ (named_but (file.Box c.args.number.0 c.args.generation) _ _ c.in-Ok.ensures.others)))

pub returns-in-Ok-clause-stored : goal.returns-in-Ok-clause-stored
returns-in-Ok-clause-stored g c =
    subst (λ v. KeepsStored (g.D.Disk.history v.disk) (g.D.Disk.history c.remove_log.new.disk)) c.self.view_is
    (stored_then c.args.number.0 c.args.generation _ _ (besides (file.Box c.args.number.0 c.args.generation) _ _ (named_but (file.Box c.args.number.0 c.args.generation) _ _ c.in-Ok.ensures.others)))
