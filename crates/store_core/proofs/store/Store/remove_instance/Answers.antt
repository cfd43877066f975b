use Rattle.store_core.proofs.Common.{◌≡◌, ◌∙◌, None, ap, subst, refl, Grows, IfTold, SameButFor, reading, is_instance_named, MailIsKept, Lists, IsSettledFor, Leaves}
use Rattle.disk_model.specs.declared.name.FileName.TheVariants as file
use Rattle.sis_store.specs.OnDisk.{file_of}
use Rattle.store_core.specs.Removing.{KeepsStoredBeside}
use Rattle.store_core.proofs.KnownInstanceLemmas.{firm_seen}
use Rattle.store_core.proofs.InstanceRemovalLemmas.{names_others, hash_of, one_known, grown, same_removed, gone_removed, store_without, room_without, firm_without, known_without, leaves_without, settled_without, stored_without, mail_without}
use Rattle.store_core.proofs.MadeLogLemmas.{made_beside}
use Rattle.store_core.proofs.store.Store.remove_instance.Goals as goal

pub invariant_of-self-in_default : goal.invariant_of-self-in_default
invariant_of-self-in_default g c =
    let runs = ap (λ v. v.stopped) c.self.view_is ∙ c.requires.running in
    let others = names_others c.self.inside.map.meaning c.args.id.0 (ap (λ v. is_instance_named v.map c.args.id.0) c.self.view_is ∙ c.requires.unnamed) in
    let same = same_removed (file_of c.args.id c.self.inside.instances.known) _ _ c.in_default.ensures.gone in (
      c.self.invariant.0,
      store_without (hash_of c.args.id c.self.inside.instances.known) c.args.id.0 _ _ _ c.remove_instance.new.disk c.remove_instance.new.self c.self.invariant.1 runs others same,
      room_without _ c.remove_instance.new.disk c.remove_instance.new.self c.self.invariant.2,
      made_beside _ _ _ _ (file_of c.args.id c.self.inside.instances.known) refl refl refl refl refl (λ number e. absurd (let w : file.Box number 1 ≡ file_of c.args.id c.self.inside.instances.known = e in cc w)) same c.self.invariant.3,
      known_without (hash_of c.args.id c.self.inside.instances.known) c.args.id _ _ _ c.remove_instance.new.disk c.remove_instance.new.self c.self.invariant.4 runs others (one_known c.self.inside.instances c.args.id c.known_facts.ensures) c.in_default.ensures.ok same
          (gone_removed (file_of c.args.id c.self.inside.instances.known) _ _ c.in_default.ensures.gone),
    )

pub returns-clause-any_moment : goal.returns-clause-any_moment
returns-clause-any_moment g c =
    let runs = ap (λ v. v.stopped) c.self.view_is ∙ c.requires.running in
    let others = names_others c.self.inside.map.meaning c.args.id.0 (ap (λ v. is_instance_named v.map c.args.id.0) c.self.view_is ∙ c.requires.unnamed) in
    subst (λ v. (lists : Lists) → IsSettledFor lists (g.D.Disk.history v.disk) → Leaves lists lists (g.D.Disk.history v.disk) (g.D.Disk.history c.remove_instance.new.disk)) c.self.view_is
    (leaves_without (hash_of c.args.id c.self.inside.instances.known) c.args.id.0 _ _ _ c.self.invariant.1 runs others (g.met.D.Disk.reads_image c.self.inside.disk) c.remove_instance.ensures.others_stay)

pub returns-in-Err-clause-any_moment : goal.returns-in-Err-clause-any_moment
returns-in-Err-clause-any_moment g c =
    let runs = ap (λ v. v.stopped) c.self.view_is ∙ c.requires.running in
    let others = names_others c.self.inside.map.meaning c.args.id.0 (ap (λ v. is_instance_named v.map c.args.id.0) c.self.view_is ∙ c.requires.unnamed) in
    subst (λ v. (lists : Lists) → IsSettledFor lists (g.D.Disk.history v.disk) → Leaves lists lists (g.D.Disk.history v.disk) (g.D.Disk.history c.remove_instance.new.disk)) c.self.view_is
    (leaves_without (hash_of c.args.id c.self.inside.instances.known) c.args.id.0 _ _ _ c.self.invariant.1 runs others (g.met.D.Disk.reads_image c.self.inside.disk) c.remove_instance.ensures.others_stay)

pub returns-clause-settled : goal.returns-clause-settled
returns-clause-settled g c =
    let runs = ap (λ v. v.stopped) c.self.view_is ∙ c.requires.running in
    let others = names_others c.self.inside.map.meaning c.args.id.0 (ap (λ v. is_instance_named v.map c.args.id.0) c.self.view_is ∙ c.requires.unnamed) in
    subst (λ v. (lists : Lists) → IsSettledFor lists (g.D.Disk.history v.disk) → IsSettledFor lists (g.D.Disk.history c.remove_instance.new.disk)) c.self.view_is
    (settled_without (hash_of c.args.id c.self.inside.instances.known) c.args.id.0 _ _ _ c.self.invariant.1 runs others (g.met.D.Disk.reads_image c.self.inside.disk) (same_removed (file_of c.args.id c.self.inside.instances.known) _ _ c.in_default.ensures.gone))

pub returns-clause-gone : goal.returns-clause-gone
returns-clause-gone g c =
    subst (λ v. IfTold (g.D.Disk.history c.remove_instance.new.disk) (λ now. reading (now (file_of c.args.id v.instances.known)) ≡ None)) c.self.view_is
    (gone_removed (file_of c.args.id c.self.inside.instances.known) _ _ c.in_default.ensures.gone)

pub returns-clause-others : goal.returns-clause-others
returns-clause-others g c =
    subst (λ v. SameButFor (file_of c.args.id v.instances.known) (g.D.Disk.history v.disk) (g.D.Disk.history c.remove_instance.new.disk)) c.self.view_is
    (same_removed (file_of c.args.id c.self.inside.instances.known) _ _ c.in_default.ensures.gone)

pub returns-clause-stored : goal.returns-clause-stored
returns-clause-stored g c =
    subst (λ v. KeepsStoredBeside c.args.id.0 (g.D.Disk.history v.disk) (g.D.Disk.history c.remove_instance.new.disk)) c.self.view_is
    (stored_without (hash_of c.args.id c.self.inside.instances.known) c.args.id.0 _ _ (same_removed (file_of c.args.id c.self.inside.instances.known) _ _ c.in_default.ensures.gone))

pub returns-clause-mail_stays : goal.returns-clause-mail_stays
returns-clause-mail_stays g c =
    let others = names_others c.self.inside.map.meaning c.args.id.0 (ap (λ v. is_instance_named v.map c.args.id.0) c.self.view_is ∙ c.requires.unnamed) in
    subst (λ v. MailIsKept v.map (g.D.Disk.history v.disk) (g.D.Disk.history c.remove_instance.new.disk)) c.self.view_is
    (mail_without (hash_of c.args.id c.self.inside.instances.known) c.args.id.0 _ _ _ others c.remove_instance.ensures.others_stay)

pub returns-in-Err-clause-mail_stays : goal.returns-in-Err-clause-mail_stays
returns-in-Err-clause-mail_stays g c =
    let others = names_others c.self.inside.map.meaning c.args.id.0 (ap (λ v. is_instance_named v.map c.args.id.0) c.self.view_is ∙ c.requires.unnamed) in
    subst (λ v. MailIsKept v.map (g.D.Disk.history v.disk) (g.D.Disk.history c.remove_instance.new.disk)) c.self.view_is
    (mail_without (hash_of c.args.id c.self.inside.instances.known) c.args.id.0 _ _ _ others c.remove_instance.ensures.others_stay)

pub returns-clause-grows : goal.returns-clause-grows
returns-clause-grows g c = subst (λ v. Grows (g.D.Disk.history v.disk) (g.D.Disk.history c.remove_instance.new.disk)) c.self.view_is (grown _ _ _ c.remove_instance.ensures.others_stay)

pub returns-in-Err-clause-grows : goal.returns-in-Err-clause-grows
returns-in-Err-clause-grows g c = subst (λ v. Grows (g.D.Disk.history v.disk) (g.D.Disk.history c.remove_instance.new.disk)) c.self.view_is (grown _ _ _ c.remove_instance.ensures.others_stay)

pub returns-clause-firm : goal.returns-clause-firm
returns-clause-firm g c =
    let others = names_others c.self.inside.map.meaning c.args.id.0 (ap (λ v. is_instance_named v.map c.args.id.0) c.self.view_is ∙ c.requires.unnamed) in
    firm_seen g.D.Disk.history _ c.args.self.now _ c.self.view_is
    (firm_without (hash_of c.args.id c.self.inside.instances.known) c.args.id _ _ _ c.remove_instance.new.disk c.remove_instance.new.self others c.in_default.ensures.ok (same_removed (file_of c.args.id c.self.inside.instances.known) _ _ c.in_default.ensures.gone))
