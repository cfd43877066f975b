use Rattle.store_core.proofs.Common.{◌≡◌, true, refl, sym, ◌∙◌, ap, subst, NamedButFor, Lists, IsSettledFor, Leaves, KeepsStored, IsUnnamed, has_made_log, MailIsKept}
use Rattle.disk_model.specs.declared.name.FileName.TheVariants as file
use Rattle.store_core.proofs.KnownInstanceLemmas.{instances_logged}
use Rattle.store_core.proofs.MadeCallLemmas.{left_others, removed, room_same}
use Rattle.store_core.proofs.UnneededLogLemmas.{besides, leaves_beside, named_but, settled_then, store_beside, stored_then, unnamed_free}
use Rattle.store_core.proofs.MailStayLemmas.{box_log_kept}
use Rattle.store_core.proofs.store.Store.remove_box.Goals as goal

pub invariant_of-self-2 : goal.invariant_of-self-2
invariant_of-self-2 g c =
    let runs = ap (λ v. v.stopped) c.self.view_is ∙ c.requires.running in
    let unnamed = subst (λ v. IsUnnamed c.args.number.0 v.map) (sym c.self.view_is) c.requires.unnamed in
    let free = unnamed_free c.args.number.0 c.args.generation c.self.inside.map.meaning unnamed in
    let others = named_but (file.Box c.args.number.0 c.args.generation) _ _ c.in_default.ensures.others in (
      c.self.invariant.0,
      store_beside c.args.number.0 c.args.generation _ _ _ c.remove_log.new.disk c.forget_log.new.made.items c.self.invariant.1 runs free (besides (file.Box c.args.number.0 c.args.generation) _ _ others),
      room_same _ _ refl refl c.self.invariant.2,
      removed _ _ _ _ c.args.number.0 c.args.generation c.self.invariant.3 runs c.forget_log.ensures refl refl others,
      instances_logged c.args.number.0 c.args.generation _ _ _ _ c.self.invariant.4 others refl refl refl (λ on. on),
    )

pub returns-clause-any_moment : goal.returns-clause-any_moment
returns-clause-any_moment g c =
    let runs = ap (λ v. v.stopped) c.self.view_is ∙ c.requires.running in
    let unnamed = subst (λ v. IsUnnamed c.args.number.0 v.map) (sym c.self.view_is) c.requires.unnamed in
    let free = unnamed_free c.args.number.0 c.args.generation c.self.inside.map.meaning unnamed in
    subst (λ v. (lists : Lists) → IsSettledFor lists (g.D.Disk.history v.disk) → Leaves lists lists (g.D.Disk.history v.disk) (g.D.Disk.history c.remove_log.new.disk)) c.self.view_is
    (leaves_beside c.args.number.0 c.args.generation _ _ _ c.self.invariant.1 runs free (g.met.D.Disk.reads_image c.self.inside.disk) c.remove_log.ensures.any_moment)

pub returns-in-Err-clause-any_moment : goal.returns-in-Err-clause-any_moment
returns-in-Err-clause-any_moment g c =
    let runs = ap (λ v. v.stopped) c.self.view_is ∙ c.requires.running in
    let unnamed = subst (λ v. IsUnnamed c.args.number.0 v.map) (sym c.self.view_is) c.requires.unnamed in
    let free = unnamed_free c.args.number.0 c.args.generation c.self.inside.map.meaning unnamed in
    subst (λ v. (lists : Lists) → IsSettledFor lists (g.D.Disk.history v.disk) → Leaves lists lists (g.D.Disk.history v.disk) (g.D.Disk.history c.remove_log.new.disk)) c.self.view_is
    (leaves_beside c.args.number.0 c.args.generation _ _ _ c.self.invariant.1 runs free (g.met.D.Disk.reads_image c.self.inside.disk) c.remove_log.ensures.any_moment)

pub returns-clause-settled : goal.returns-clause-settled
returns-clause-settled g c =
    let runs = ap (λ v. v.stopped) c.self.view_is ∙ c.requires.running in
    let unnamed = subst (λ v. IsUnnamed c.args.number.0 v.map) (sym c.self.view_is) c.requires.unnamed in
    let free = unnamed_free c.args.number.0 c.args.generation c.self.inside.map.meaning unnamed in
    subst (λ v. (lists : Lists) → IsSettledFor lists (g.D.Disk.history v.disk) → IsSettledFor lists (g.D.Disk.history c.remove_log.new.disk)) c.self.view_is
    (settled_then c.args.number.0 c.args.generation _ _ _ c.self.invariant.1 runs free (g.met.D.Disk.reads_image c.self.inside.disk) (besides (file.Box c.args.number.0 c.args.generation) _ _ (named_but (file.Box c.args.number.0 c.args.generation) _ _ c.in_default.ensures.others)))

pub returns-clause-stored : goal.returns-clause-stored
returns-clause-stored g c =
    subst (λ v. KeepsStored (g.D.Disk.history v.disk) (g.D.Disk.history c.remove_log.new.disk)) c.self.view_is (stored_then c.args.number.0 c.args.generation _ _ (besides (file.Box c.args.number.0 c.args.generation) _ _ (named_but (file.Box c.args.number.0 c.args.generation) _ _ c.in_default.ensures.others)))

pub returns-clause-spared : goal.returns-clause-spared
returns-clause-spared g c = λ other apart has. left_others c.args.number.0 other _ c.forget_log.new.made.items c.forget_log.ensures apart (subst (λ v. has_made_log other v ≡ true) (sym c.self.view_is) has)

pub returns-clause-others : goal.returns-clause-others
returns-clause-others g c = subst (λ v. NamedButFor (file.Box c.args.number.0 c.args.generation) (g.D.Disk.history v.disk) (g.D.Disk.history c.remove_log.new.disk)) c.self.view_is c.in_default.ensures.others

pub returns-clause-mail_stays : goal.returns-clause-mail_stays
returns-clause-mail_stays g c = λ m.
    subst (λ v. MailIsKept m (g.D.Disk.history v.disk) (g.D.Disk.history c.remove_log.new.disk)) c.self.view_is
    (box_log_kept m _ c.args.number.0 c.args.generation _ _ refl c.remove_log.ensures.any_moment)

pub returns-in-Err-clause-mail_stays : goal.returns-in-Err-clause-mail_stays
returns-in-Err-clause-mail_stays g c = λ m.
    subst (λ v. MailIsKept m (g.D.Disk.history v.disk) (g.D.Disk.history c.remove_log.new.disk)) c.self.view_is
    (box_log_kept m _ c.args.number.0 c.args.generation _ _ refl c.remove_log.ensures.any_moment)
