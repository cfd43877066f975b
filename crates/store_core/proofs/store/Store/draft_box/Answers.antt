use Rattle.store_core.proofs.Common.{refl, sym, ◌∙◌, ap, subst, Lists, IsSettledFor, Leaves, KeepsStored, MailIsKept, kept_begins}
use Rattle.disk_model.specs.declared.name.FileName.TheVariants as file
use Rattle.store_core.specs.Drafts.{IsNewer}
use Rattle.store_core.proofs.BoxCrashLemmas.{leaves_none}
use Rattle.store_core.proofs.DraftCallLemmas.{free_newer, made_draft_named, new_draft, newer_as}
use Rattle.store_core.proofs.DraftLemmas.{drafts_nothing}
use Rattle.store_core.proofs.KnownInstanceLemmas.{instances_logged}
use Rattle.store_core.proofs.MadeCallLemmas.{room_same}
use Rattle.store_core.proofs.MailStayLemmas.{box_log_kept}
use Rattle.store_core.proofs.UnneededLogLemmas.{besides, leaves_beside, named_but, settled_then, store_beside, stored_then}
use Rattle.store_core.proofs.store.Store.draft_box.Goals as goal

pub returns-in_err-room-clause-any_moment : goal.returns-in_err-room-clause-any_moment
returns-in_err-room-clause-any_moment g c = λ lists settled. leaves_none _ lists lists settled

pub returns-in_err-room-clause-mail_stays : goal.returns-in_err-room-clause-mail_stays
returns-in_err-room-clause-mail_stays g c = λ m. kept_begins m _

pub returns-in_err-index-clause-any_moment : goal.returns-in_err-index-clause-any_moment
returns-in_err-index-clause-any_moment g c = λ lists settled. leaves_none _ lists lists settled

pub returns-in_err-index-clause-mail_stays : goal.returns-in_err-index-clause-mail_stays
returns-in_err-index-clause-mail_stays g c = λ m. kept_begins m _

pub invariant_of-self : goal.invariant_of-self
invariant_of-self g c =
    let runs = ap (λ v. v.stopped) c.self.view_is ∙ c.requires.running in
    let newer = subst (λ v. IsNewer c.args.mailbox.0 c.args.generation v) (sym c.self.view_is) c.requires.newer in
    let free = free_newer _ c.args.mailbox.0 c.args.generation newer in
    let others = named_but (file.Box c.args.mailbox.0 c.args.generation) _ _ c.in-Ok.ensures.others in (
      c.self.invariant.0,
      store_beside c.args.mailbox.0 c.args.generation _ _ _ c.make_log.new.disk c.self.inside.made.items c.self.invariant.1 runs free (besides (file.Box c.args.mailbox.0 c.args.generation) _ _ others),
      room_same _ _ refl refl c.self.invariant.2,
      made_draft_named _ _ _ _ c.args.mailbox.0 c.args.generation runs refl refl refl newer.unmade others c.self.invariant.3,
      instances_logged c.args.mailbox.0 c.args.generation _ _ _ _ c.self.invariant.4 others refl refl refl (λ on. on),
    )

pub returns-in-Ok-clause-any_moment : goal.returns-in-Ok-clause-any_moment
returns-in-Ok-clause-any_moment g c =
    let runs = ap (λ v. v.stopped) c.self.view_is ∙ c.requires.running in
    let newer = subst (λ v. IsNewer c.args.mailbox.0 c.args.generation v) (sym c.self.view_is) c.requires.newer in
    let free = free_newer _ c.args.mailbox.0 c.args.generation newer in
    subst (λ v. (lists : Lists) → IsSettledFor lists (g.D.Disk.history v.disk) → Leaves lists lists (g.D.Disk.history v.disk) (g.D.Disk.history c.make_log.new.disk)) c.self.view_is
    (leaves_beside c.args.mailbox.0 c.args.generation _ _ _ c.self.invariant.1 runs free (g.met.D.Disk.reads_image c.self.inside.disk) c.make_log.ensures.any_moment)

pub returns-in-Ok-clause-mail_stays : goal.returns-in-Ok-clause-mail_stays
returns-in-Ok-clause-mail_stays g c = λ m.
    subst (λ v. MailIsKept m (g.D.Disk.history v.disk) (g.D.Disk.history c.make_log.new.disk)) c.self.view_is
    (box_log_kept m _ c.args.mailbox.0 c.args.generation _ _ refl c.make_log.ensures.any_moment)

pub returns-in-Err-clause-any_moment : goal.returns-in-Err-clause-any_moment
returns-in-Err-clause-any_moment g c =
    let runs = ap (λ v. v.stopped) c.self.view_is ∙ c.requires.running in
    let newer = subst (λ v. IsNewer c.args.mailbox.0 c.args.generation v) (sym c.self.view_is) c.requires.newer in
    let free = free_newer _ c.args.mailbox.0 c.args.generation newer in
    subst (λ v. (lists : Lists) → IsSettledFor lists (g.D.Disk.history v.disk) → Leaves lists lists (g.D.Disk.history v.disk) (g.D.Disk.history c.make_log.new.disk)) c.self.view_is
    (leaves_beside c.args.mailbox.0 c.args.generation _ _ _ c.self.invariant.1 runs free (g.met.D.Disk.reads_image c.self.inside.disk) c.make_log.ensures.any_moment)

pub returns-in-Err-clause-mail_stays : goal.returns-in-Err-clause-mail_stays
returns-in-Err-clause-mail_stays g c = λ m.
    subst (λ v. MailIsKept m (g.D.Disk.history v.disk) (g.D.Disk.history c.make_log.new.disk)) c.self.view_is
    (box_log_kept m _ c.args.mailbox.0 c.args.generation _ _ refl c.make_log.ensures.any_moment)

pub returns-in-Ok-clause-settled : goal.returns-in-Ok-clause-settled
returns-in-Ok-clause-settled g c =
    let runs = ap (λ v. v.stopped) c.self.view_is ∙ c.requires.running in
    let newer = subst (λ v. IsNewer c.args.mailbox.0 c.args.generation v) (sym c.self.view_is) c.requires.newer in
    let free = free_newer _ c.args.mailbox.0 c.args.generation newer in
    subst (λ v. (lists : Lists) → IsSettledFor lists (g.D.Disk.history v.disk) → IsSettledFor lists (g.D.Disk.history c.make_log.new.disk)) c.self.view_is
    (settled_then c.args.mailbox.0 c.args.generation _ _ _ c.self.invariant.1 runs free (g.met.D.Disk.reads_image c.self.inside.disk) (besides (file.Box c.args.mailbox.0 c.args.generation) _ _ (named_but (file.Box c.args.mailbox.0 c.args.generation) _ _ c.in-Ok.ensures.others)))

pub returns-in-Ok-clause-stored : goal.returns-in-Ok-clause-stored
returns-in-Ok-clause-stored g c =
    subst (λ v. KeepsStored (g.D.Disk.history v.disk) (g.D.Disk.history c.make_log.new.disk)) c.self.view_is
    (stored_then c.args.mailbox.0 c.args.generation _ _ (besides (file.Box c.args.mailbox.0 c.args.generation) _ _ (named_but (file.Box c.args.mailbox.0 c.args.generation) _ _ c.in-Ok.ensures.others)))

pub returns-in-Ok-clause-draft : goal.returns-in-Ok-clause-draft
returns-in-Ok-clause-draft g c =
    let newer = subst (λ v. IsNewer c.args.mailbox.0 c.args.generation v) (sym c.self.view_is) c.requires.newer in
    new_draft _ _ _ c.in-Ok.log c.self.inside.id.0 _ (newer_as _ _ c.args.mailbox.0 c.args.generation refl refl refl newer) c.self.invariant.0 c.in-Ok.ensures.log c.take_room.ensures (ap (λ i. i.meaning) c.in_ok-index.ensures) c.in-Ok.ensures.made

pub returns-in-Ok-clause-nothing : goal.returns-in-Ok-clause-nothing
returns-in-Ok-clause-nothing g c = drafts_nothing c.in-Ok.log _ _ _ c.take_room.ensures c.in-Ok.ensures.made
