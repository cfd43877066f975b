use Rattle.store_core.proofs.Common.{◌≡◌, ◌≢◌, refl, sym, ◌∙◌, ap, subst, Lists, IsSettledFor, Leaves, KeepsStored, MailIsKept}
use Rattle.disk_model.specs.declared.name.FileName.TheVariants as file
use Rattle.store_core.proofs.MadeLogLemmas.{made_named}
use Rattle.store_core.proofs.MapDraftLemmas.{free_map}
use Rattle.store_core.proofs.KnownInstanceLemmas.{instances_named, instances_on, map_is_none}
use Rattle.store_core.proofs.MadeCallLemmas.{room_same}
use Rattle.store_core.proofs.MailStayLemmas.{map_log_kept}
use Rattle.store_core.proofs.UnneededLogLemmas.{besides, leaves_free, named_but, settled_free, store_free, stored_free}
use Rattle.store_core.proofs.store.Store.drop_map.Goals as goal

pub invariant_of-self : goal.invariant_of-self
invariant_of-self g c =
    let runs = ap (λ v. v.stopped) c.self.view_is ∙ c.requires.running in
    let name = file.Map c.args.generation in
    let free = free_map _ _ c.args.generation c.self.invariant.1 (subst (λ v. v.map_log.name ≢ file.Map c.args.generation) (sym c.self.view_is) c.requires.free) in
    let others = named_but name _ _ c.in-Ok.ensures.others in (
      c.self.invariant.0,
      store_free name _ _ _ c.remove_map_log.new.disk c.self.inside.made.items c.self.invariant.1 runs free (besides name _ _ others),
      room_same _ _ refl refl c.self.invariant.2,
      made_named _ _ _ _ name refl refl refl refl refl (λ number e. absurd (let w : file.Box number 1 ≡ file.Map c.args.generation = e in cc w)) others c.self.invariant.3,
      instances_on _ _ _ _ c.self.invariant.4 (instances_named name _ _ (map_is_none name c.args.generation refl) others) refl refl refl (λ on. on),
    )

pub returns-in-Ok-clause-any_moment : goal.returns-in-Ok-clause-any_moment
returns-in-Ok-clause-any_moment g c =
    let runs = ap (λ v. v.stopped) c.self.view_is ∙ c.requires.running in
    let name = file.Map c.args.generation in
    let free = free_map _ _ c.args.generation c.self.invariant.1 (subst (λ v. v.map_log.name ≢ file.Map c.args.generation) (sym c.self.view_is) c.requires.free) in
    subst (λ v. (lists : Lists) → IsSettledFor lists (g.D.Disk.history v.disk) → Leaves lists lists (g.D.Disk.history v.disk) (g.D.Disk.history c.remove_map_log.new.disk)) c.self.view_is
    (leaves_free name _ _ _ c.self.invariant.1 runs free (g.met.D.Disk.reads_image c.self.inside.disk) c.remove_map_log.ensures.any_moment)

pub returns-in-Ok-clause-mail_stays : goal.returns-in-Ok-clause-mail_stays
returns-in-Ok-clause-mail_stays g c = λ m.
    subst (λ v. MailIsKept m (g.D.Disk.history v.disk) (g.D.Disk.history c.remove_map_log.new.disk)) c.self.view_is
    (map_log_kept m _ c.args.generation _ _ refl c.remove_map_log.ensures.any_moment)

pub returns-in-Err-clause-any_moment : goal.returns-in-Err-clause-any_moment
returns-in-Err-clause-any_moment g c =
    let runs = ap (λ v. v.stopped) c.self.view_is ∙ c.requires.running in
    let name = file.Map c.args.generation in
    let free = free_map _ _ c.args.generation c.self.invariant.1 (subst (λ v. v.map_log.name ≢ file.Map c.args.generation) (sym c.self.view_is) c.requires.free) in
    subst (λ v. (lists : Lists) → IsSettledFor lists (g.D.Disk.history v.disk) → Leaves lists lists (g.D.Disk.history v.disk) (g.D.Disk.history c.remove_map_log.new.disk)) c.self.view_is
    (leaves_free name _ _ _ c.self.invariant.1 runs free (g.met.D.Disk.reads_image c.self.inside.disk) c.remove_map_log.ensures.any_moment)

pub returns-in-Err-clause-mail_stays : goal.returns-in-Err-clause-mail_stays
returns-in-Err-clause-mail_stays g c = λ m.
    subst (λ v. MailIsKept m (g.D.Disk.history v.disk) (g.D.Disk.history c.remove_map_log.new.disk)) c.self.view_is
    (map_log_kept m _ c.args.generation _ _ refl c.remove_map_log.ensures.any_moment)

pub returns-in-Ok-clause-settled : goal.returns-in-Ok-clause-settled
returns-in-Ok-clause-settled g c =
    let runs = ap (λ v. v.stopped) c.self.view_is ∙ c.requires.running in
    let name = file.Map c.args.generation in
    let free = free_map _ _ c.args.generation c.self.invariant.1 (subst (λ v. v.map_log.name ≢ file.Map c.args.generation) (sym c.self.view_is) c.requires.free) in
    subst (λ v. (lists : Lists) → IsSettledFor lists (g.D.Disk.history v.disk) → IsSettledFor lists (g.D.Disk.history c.remove_map_log.new.disk)) c.self.view_is
    (settled_free name _ _ _ c.self.invariant.1 runs free (g.met.D.Disk.reads_image c.self.inside.disk) (besides name _ _ (named_but name _ _ c.in-Ok.ensures.others)))

pub returns-in-Ok-clause-stored : goal.returns-in-Ok-clause-stored
returns-in-Ok-clause-stored g c =
    let name = file.Map c.args.generation in
    subst (λ v. KeepsStored (g.D.Disk.history v.disk) (g.D.Disk.history c.remove_map_log.new.disk)) c.self.view_is
    (stored_free name _ _ refl (besides name _ _ (named_but name _ _ c.in-Ok.ensures.others)))
