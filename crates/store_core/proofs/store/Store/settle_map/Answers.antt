use Rattle.store_core.proofs.Common.{◌≡◌, refl, ◌∙◌, ap, subst, EachImage, OthersStay, SameButFor, Lists, IsSettledFor, Leaves, KeepsStored, MailIsKept}
use Rattle.disk_model.specs.declared.name.FileName.TheVariants as file
use Rattle.store_core.proofs.MadeLogLemmas.{made_beside}
use Rattle.store_core.proofs.MapDraftLemmas.{free_map, map_draft_seen, map_draft_settled, map_held_seen}
use Rattle.store_core.proofs.KnownInstanceLemmas.{instances_beside, instances_on, map_is_none}
use Rattle.store_core.proofs.MadeCallLemmas.{room_same}
use Rattle.store_core.proofs.MailStayLemmas.{map_log_kept}
use Rattle.store_core.proofs.UnneededLogLemmas.{besides_same, leaves_free, settled_free, store_free, stored_free}
use Rattle.store_core.proofs.store.Store.settle_map.Goals as goal

pub invariant_of-self : goal.invariant_of-self
invariant_of-self g c =
    let runs = ap (λ v. v.stopped) c.self.view_is ∙ c.requires.running in
    let d = map_draft_seen g.D.Disk.history _ c.args.self.now _ c.args.draft.now c.self.view_is c.draft.view_is c.requires.draft in
    let name = file.Map c.draft.inside.generation in
    let free = free_map _ _ c.draft.inside.generation c.self.invariant.1 d.other in
    let others = subst (λ name. SameButFor name (g.D.Disk.history c.self.inside.disk) (g.D.Disk.history c.settle.new.disk)) d.name c.in-Ok.ensures.others in (
      c.self.invariant.0,
      store_free name _ _ _ c.settle.new.disk c.self.inside.made.items c.self.invariant.1 runs free (besides_same name _ _ others),
      room_same _ _ refl refl c.self.invariant.2,
      made_beside _ _ _ _ name refl refl refl refl refl (λ number e. absurd (let w : file.Box number 1 ≡ file.Map c.draft.inside.generation = e in cc w)) others c.self.invariant.3,
      instances_on _ _ _ _ c.self.invariant.4 (instances_beside name _ _ (map_is_none name c.draft.inside.generation refl) others) refl refl refl (λ on. on),
    )

pub returns-in-Ok-clause-any_moment : goal.returns-in-Ok-clause-any_moment
returns-in-Ok-clause-any_moment g c =
    let runs = ap (λ v. v.stopped) c.self.view_is ∙ c.requires.running in
    let d = map_draft_seen g.D.Disk.history _ c.args.self.now _ c.args.draft.now c.self.view_is c.draft.view_is c.requires.draft in
    let name = file.Map c.draft.inside.generation in
    let free = free_map _ _ c.draft.inside.generation c.self.invariant.1 d.other in
    subst (λ v. (lists : Lists) → IsSettledFor lists (g.D.Disk.history v.disk) → Leaves lists lists (g.D.Disk.history v.disk) (g.D.Disk.history c.settle.new.disk)) c.self.view_is
    (leaves_free name _ _ _ c.self.invariant.1 runs free (g.met.D.Disk.reads_image c.self.inside.disk)
    (subst (λ name. EachImage (λ _ image. OthersStay name (g.D.Disk.history c.self.inside.disk) image) (g.D.Disk.history c.self.inside.disk) (g.D.Disk.history c.settle.new.disk)) d.name c.settle.ensures.others_stay))

pub returns-in-Ok-clause-mail_stays : goal.returns-in-Ok-clause-mail_stays
returns-in-Ok-clause-mail_stays g c = λ m.
    let d = map_draft_seen g.D.Disk.history _ c.args.self.now _ c.args.draft.now c.self.view_is c.draft.view_is c.requires.draft in
    subst (λ v. MailIsKept m (g.D.Disk.history v.disk) (g.D.Disk.history c.settle.new.disk)) c.self.view_is
    (map_log_kept m _ c.draft.inside.generation _ _ d.name c.settle.ensures.others_stay)

pub returns-in-Err-clause-any_moment : goal.returns-in-Err-clause-any_moment
returns-in-Err-clause-any_moment g c =
    let runs = ap (λ v. v.stopped) c.self.view_is ∙ c.requires.running in
    let d = map_draft_seen g.D.Disk.history _ c.args.self.now _ c.args.draft.now c.self.view_is c.draft.view_is c.requires.draft in
    let name = file.Map c.draft.inside.generation in
    let free = free_map _ _ c.draft.inside.generation c.self.invariant.1 d.other in
    subst (λ v. (lists : Lists) → IsSettledFor lists (g.D.Disk.history v.disk) → Leaves lists lists (g.D.Disk.history v.disk) (g.D.Disk.history c.settle.new.disk)) c.self.view_is
    (leaves_free name _ _ _ c.self.invariant.1 runs free (g.met.D.Disk.reads_image c.self.inside.disk)
    (subst (λ name. EachImage (λ _ image. OthersStay name (g.D.Disk.history c.self.inside.disk) image) (g.D.Disk.history c.self.inside.disk) (g.D.Disk.history c.settle.new.disk)) d.name c.settle.ensures.others_stay))

pub returns-in-Err-clause-mail_stays : goal.returns-in-Err-clause-mail_stays
returns-in-Err-clause-mail_stays g c = λ m.
    let d = map_draft_seen g.D.Disk.history _ c.args.self.now _ c.args.draft.now c.self.view_is c.draft.view_is c.requires.draft in
    subst (λ v. MailIsKept m (g.D.Disk.history v.disk) (g.D.Disk.history c.settle.new.disk)) c.self.view_is
    (map_log_kept m _ c.draft.inside.generation _ _ d.name c.settle.ensures.others_stay)

pub returns-in-Ok-clause-settled : goal.returns-in-Ok-clause-settled
returns-in-Ok-clause-settled g c =
    let runs = ap (λ v. v.stopped) c.self.view_is ∙ c.requires.running in
    let d = map_draft_seen g.D.Disk.history _ c.args.self.now _ c.args.draft.now c.self.view_is c.draft.view_is c.requires.draft in
    let name = file.Map c.draft.inside.generation in
    let free = free_map _ _ c.draft.inside.generation c.self.invariant.1 d.other in
    let others = subst (λ name. SameButFor name (g.D.Disk.history c.self.inside.disk) (g.D.Disk.history c.settle.new.disk)) d.name c.in-Ok.ensures.others in
    subst (λ v. (lists : Lists) → IsSettledFor lists (g.D.Disk.history v.disk) → IsSettledFor lists (g.D.Disk.history c.settle.new.disk)) c.self.view_is
    (settled_free name _ _ _ c.self.invariant.1 runs free (g.met.D.Disk.reads_image c.self.inside.disk) (besides_same name _ _ others))

pub returns-in-Ok-clause-stored : goal.returns-in-Ok-clause-stored
returns-in-Ok-clause-stored g c =
    let d = map_draft_seen g.D.Disk.history _ c.args.self.now _ c.args.draft.now c.self.view_is c.draft.view_is c.requires.draft in
    let name = file.Map c.draft.inside.generation in
    let others = subst (λ name. SameButFor name (g.D.Disk.history c.self.inside.disk) (g.D.Disk.history c.settle.new.disk)) d.name c.in-Ok.ensures.others in
    subst (λ v. KeepsStored (g.D.Disk.history v.disk) (g.D.Disk.history c.settle.new.disk)) c.self.view_is (stored_free name _ _ refl (besides_same name _ _ others))

pub returns-in-Ok-clause-held : goal.returns-in-Ok-clause-held
returns-in-Ok-clause-held g c =
    let d = map_draft_seen g.D.Disk.history _ c.args.self.now _ c.args.draft.now c.self.view_is c.draft.view_is c.requires.draft in
    map_held_seen _ _ _ _ c.draft.view_is (map_draft_settled _ _ _ _ _ d refl refl c.in-Ok.ensures.held)
