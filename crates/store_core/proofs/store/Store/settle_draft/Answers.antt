use Rattle.store_core.proofs.Common.{refl, ◌∙◌, ap, subst, EachImage, OthersStay, SameButFor, Lists, IsSettledFor, Leaves, KeepsStored, MailIsKept}
use Rattle.disk_model.specs.declared.name.FileName.TheVariants as file
use Rattle.store_core.proofs.DraftCallLemmas.{draft_seen, draft_settled, free_newer, held_seen, made_draft_same}
use Rattle.store_core.proofs.KnownInstanceLemmas.{box_is_none, instances_beside, instances_on}
use Rattle.store_core.proofs.MadeCallLemmas.{room_same}
use Rattle.store_core.proofs.MailStayLemmas.{box_log_kept}
use Rattle.store_core.proofs.UnneededLogLemmas.{besides_same, leaves_beside, settled_then, store_beside, stored_then}
use Rattle.store_core.proofs.store.Store.settle_draft.Goals as goal

pub invariant_of-self : goal.invariant_of-self
invariant_of-self g c =
    let runs = ap (λ v. v.stopped) c.self.view_is ∙ c.requires.running in
    let d = draft_seen g.D.Disk.history _ c.args.self.now _ c.args.draft.now c.self.view_is c.draft.view_is c.requires.draft in
    let n = c.draft.inside.open_box.number.0 in
    let free = free_newer _ n c.draft.inside.generation d.newer in
    let others = subst (λ name. SameButFor name (g.D.Disk.history c.self.inside.disk) (g.D.Disk.history c.settle.new.disk)) d.name c.in-Ok.ensures.others in (
      c.self.invariant.0,
      store_beside n c.draft.inside.generation _ _ _ c.settle.new.disk c.self.inside.made.items c.self.invariant.1 runs free (besides_same (file.Box n c.draft.inside.generation) _ _ others),
      room_same _ _ refl refl c.self.invariant.2,
      made_draft_same _ _ _ _ n c.draft.inside.generation runs refl refl refl d.newer.unmade others c.self.invariant.3,
      instances_on _ _ _ _ c.self.invariant.4 (instances_beside (file.Box n c.draft.inside.generation) _ _ (box_is_none (file.Box n c.draft.inside.generation) n c.draft.inside.generation refl) others) refl refl refl (λ on. on),
    )

pub returns-in-Ok-clause-any_moment : goal.returns-in-Ok-clause-any_moment
returns-in-Ok-clause-any_moment g c =
    let runs = ap (λ v. v.stopped) c.self.view_is ∙ c.requires.running in
    let d = draft_seen g.D.Disk.history _ c.args.self.now _ c.args.draft.now c.self.view_is c.draft.view_is c.requires.draft in
    let n = c.draft.inside.open_box.number.0 in
    let free = free_newer _ n c.draft.inside.generation d.newer in
    subst (λ v. (lists : Lists) → IsSettledFor lists (g.D.Disk.history v.disk) → Leaves lists lists (g.D.Disk.history v.disk) (g.D.Disk.history c.settle.new.disk)) c.self.view_is
    (leaves_beside n c.draft.inside.generation _ _ _ c.self.invariant.1 runs free (g.met.D.Disk.reads_image c.self.inside.disk)
    (subst (λ name. EachImage (λ _ image. OthersStay name (g.D.Disk.history c.self.inside.disk) image) (g.D.Disk.history c.self.inside.disk) (g.D.Disk.history c.settle.new.disk)) d.name c.settle.ensures.others_stay))

pub returns-in-Ok-clause-mail_stays : goal.returns-in-Ok-clause-mail_stays
returns-in-Ok-clause-mail_stays g c = λ m.
    let d = draft_seen g.D.Disk.history _ c.args.self.now _ c.args.draft.now c.self.view_is c.draft.view_is c.requires.draft in
    subst (λ v. MailIsKept m (g.D.Disk.history v.disk) (g.D.Disk.history c.settle.new.disk)) c.self.view_is
    (box_log_kept m _ c.draft.inside.open_box.number.0 c.draft.inside.generation _ _ d.name c.settle.ensures.others_stay)

pub returns-in-Err-clause-any_moment : goal.returns-in-Err-clause-any_moment
returns-in-Err-clause-any_moment g c =
    let runs = ap (λ v. v.stopped) c.self.view_is ∙ c.requires.running in
    let d = draft_seen g.D.Disk.history _ c.args.self.now _ c.args.draft.now c.self.view_is c.draft.view_is c.requires.draft in
    let n = c.draft.inside.open_box.number.0 in
    let free = free_newer _ n c.draft.inside.generation d.newer in
    subst (λ v. (lists : Lists) → IsSettledFor lists (g.D.Disk.history v.disk) → Leaves lists lists (g.D.Disk.history v.disk) (g.D.Disk.history c.settle.new.disk)) c.self.view_is
    (leaves_beside n c.draft.inside.generation _ _ _ c.self.invariant.1 runs free (g.met.D.Disk.reads_image c.self.inside.disk)
    (subst (λ name. EachImage (λ _ image. OthersStay name (g.D.Disk.history c.self.inside.disk) image) (g.D.Disk.history c.self.inside.disk) (g.D.Disk.history c.settle.new.disk)) d.name c.settle.ensures.others_stay))

pub returns-in-Err-clause-mail_stays : goal.returns-in-Err-clause-mail_stays
returns-in-Err-clause-mail_stays g c = λ m.
    let d = draft_seen g.D.Disk.history _ c.args.self.now _ c.args.draft.now c.self.view_is c.draft.view_is c.requires.draft in
    subst (λ v. MailIsKept m (g.D.Disk.history v.disk) (g.D.Disk.history c.settle.new.disk)) c.self.view_is
    (box_log_kept m _ c.draft.inside.open_box.number.0 c.draft.inside.generation _ _ d.name c.settle.ensures.others_stay)

pub returns-in-Ok-clause-settled : goal.returns-in-Ok-clause-settled
returns-in-Ok-clause-settled g c =
    let runs = ap (λ v. v.stopped) c.self.view_is ∙ c.requires.running in
    let d = draft_seen g.D.Disk.history _ c.args.self.now _ c.args.draft.now c.self.view_is c.draft.view_is c.requires.draft in
    let n = c.draft.inside.open_box.number.0 in
    let free = free_newer _ n c.draft.inside.generation d.newer in
    let others = subst (λ name. SameButFor name (g.D.Disk.history c.self.inside.disk) (g.D.Disk.history c.settle.new.disk)) d.name c.in-Ok.ensures.others in
    subst (λ v. (lists : Lists) → IsSettledFor lists (g.D.Disk.history v.disk) → IsSettledFor lists (g.D.Disk.history c.settle.new.disk)) c.self.view_is
    (settled_then n c.draft.inside.generation _ _ _ c.self.invariant.1 runs free (g.met.D.Disk.reads_image c.self.inside.disk) (besides_same (file.Box n c.draft.inside.generation) _ _ others))

pub returns-in-Ok-clause-stored : goal.returns-in-Ok-clause-stored
returns-in-Ok-clause-stored g c =
    let d = draft_seen g.D.Disk.history _ c.args.self.now _ c.args.draft.now c.self.view_is c.draft.view_is c.requires.draft in
    let n = c.draft.inside.open_box.number.0 in
    let others = subst (λ name. SameButFor name (g.D.Disk.history c.self.inside.disk) (g.D.Disk.history c.settle.new.disk)) d.name c.in-Ok.ensures.others in
    subst (λ v. KeepsStored (g.D.Disk.history v.disk) (g.D.Disk.history c.settle.new.disk)) c.self.view_is (stored_then n c.draft.inside.generation _ _ (besides_same (file.Box n c.draft.inside.generation) _ _ others))

pub returns-in-Ok-clause-held : goal.returns-in-Ok-clause-held
returns-in-Ok-clause-held g c =
    let d = draft_seen g.D.Disk.history _ c.args.self.now _ c.args.draft.now c.self.view_is c.draft.view_is c.requires.draft in
    held_seen _ _ _ _ c.draft.view_is (draft_settled _ _ _ _ _ d refl refl refl c.in-Ok.ensures.held)
