use Rattle.store_core.proofs.Common.{◌≡◌, length, refl, sym, ◌∙◌, ap, subst, true, Lists, IsSettledFor, Leaves, IsUnlikeKnown, next_instance_file, KeepsStored, MailIsKept, kept_begins, kept_beside}
use Rattle.disk_model.specs.declared.name.FileName.TheVariants as file
use Rattle.sis_store.specs.Refusals.{IsPlaceError}
use Rattle.sis_store.specs.declared.error.PlaceFault.{PlaceFault}
use Rattle.store_core.proofs.BoxCrashLemmas.{leaves_none}
use Rattle.store_core.proofs.HolderLemmas.{placing_moves}
use Rattle.store_core.proofs.MadeLogLemmas.{made_named, made_stopped}
use Rattle.store_core.proofs.PlacedInstanceLemmas.{next_absent, file_made, placed_safe, placed_settled, placed_stored, placed_store, placed_known, stopped_store, stopped_known, room_placed, number_left, stopped_full, stopped_memory, stopped_fault}
use Rattle.store_core.proofs.InstanceKeepingLemmas.{kept_untouched}
use Rattle.store_core.proofs.PlacedKeepingLemmas.{found_placed, is_placed, placing_kept}
use Rattle.store_core.proofs.MailStayLemmas.{next_unknown}
use Rattle.store_core.proofs.store.Store.place_instance.Goals as goal

pub invariant_of-self : goal.invariant_of-self
invariant_of-self g c =
    let runs = ap (λ v. v.stopped) c.self.view_is ∙ c.requires.running in
    let less = number_left c.self.inside.instances.highest c.known_facts.ensures.last (λ e. absurd (cc (c.in-Ok.ensures.full e))) in
    let change = file_made _ _ _ (next_absent c.args.hash _ _ c.self.invariant.4 runs c.known_facts.ensures less) c.in-Ok.ensures.others in (
      c.self.invariant.0,
      placed_store _ _ _ _ _ c.place_instance.new.disk c.place_instance.new.self _ c.self.invariant.1 runs change refl,
      room_placed _ c.place_instance.new.disk c.place_instance.new.self _ c.self.inside.stopped c.self.invariant.2,
      made_named _ _ _ _ (next_instance_file c.args.hash c.self.inside.instances) refl refl refl refl refl (λ number e. absurd (let w : file.Box number 1 ≡ next_instance_file c.args.hash c.self.inside.instances = e in cc w)) c.in-Ok.ensures.others c.self.invariant.3,
      placed_known c.args.hash c.args.octets.now _ _ _ c.place_instance.new.disk c.place_instance.new.self _ c.self.invariant.4 runs c.known_facts.ensures c.known_facts-in-Ok.ensures less (subst (λ v. IsUnlikeKnown c.args.hash (length c.args.octets.now) c.args.octets.now v.instances.known (g.D.Disk.history v.disk)) (sym c.self.view_is) c.requires.new) c.in-Ok.ensures.ok refl change c.in-Ok.ensures.made,
    )

pub invariant_of-self-in-Err-DiskFault : goal.invariant_of-self-in-Err-DiskFault
invariant_of-self-in-Err-DiskFault g c =
    let failed = subst (λ (f : PlaceFault). IsPlaceError c.self.inside.instances c.place_instance.new.self f) c.in-Err-DiskFault.field-0-is c.in-Err-DiskFault.ensures.refused in (
      c.self.invariant.0,
      stopped_store _ _ _ c.place_instance.new.disk c.place_instance.new.self c.self.invariant.1,
      room_placed _ c.place_instance.new.disk c.place_instance.new.self _ true c.self.invariant.2,
      made_stopped _ _ _ _ refl refl refl refl refl c.self.invariant.3,
      stopped_known _ _ _ c.place_instance.new.disk c.place_instance.new.self c.self.invariant.4 failed.1,
    )

pub returns-in-Ok-clause-any_moment : goal.returns-in-Ok-clause-any_moment
returns-in-Ok-clause-any_moment g c =
    let runs = ap (λ v. v.stopped) c.self.view_is ∙ c.requires.running in
    let less = number_left c.self.inside.instances.highest c.known_facts.ensures.last (λ e. absurd (cc (c.in-Ok.ensures.full e))) in
    subst (λ v. (lists : Lists) → IsSettledFor lists (g.D.Disk.history v.disk) → Leaves lists lists (g.D.Disk.history v.disk) (g.D.Disk.history c.place_instance.new.disk)) c.self.view_is
    (placed_safe _ _ _ _ (g.met.D.Disk.reads_image c.self.inside.disk) (next_absent c.args.hash _ _ c.self.invariant.4 runs c.known_facts.ensures less) c.place_instance.ensures.any_moment)

pub returns-in-Err-DiskFault-clause-any_moment : goal.returns-in-Err-DiskFault-clause-any_moment
returns-in-Err-DiskFault-clause-any_moment g c =
    let runs = ap (λ v. v.stopped) c.self.view_is ∙ c.requires.running in
    let failed = subst (λ (f : PlaceFault). IsPlaceError c.self.inside.instances c.place_instance.new.self f) c.in-Err-DiskFault.field-0-is c.in-Err-DiskFault.ensures.refused in
    subst (λ v. (lists : Lists) → IsSettledFor lists (g.D.Disk.history v.disk) → Leaves lists lists (g.D.Disk.history v.disk) (g.D.Disk.history c.place_instance.new.disk)) c.self.view_is
    (placed_safe _ _ _ _ (g.met.D.Disk.reads_image c.self.inside.disk) (next_absent c.args.hash _ _ c.self.invariant.4 runs c.known_facts.ensures failed.0) c.place_instance.ensures.any_moment)

pub returns-in-Err-Full-clause-any_moment : goal.returns-in-Err-Full-clause-any_moment
returns-in-Err-Full-clause-any_moment g c =
    subst (λ v. (lists : Lists) → IsSettledFor lists (g.D.Disk.history v.disk) → Leaves lists lists (g.D.Disk.history v.disk) (g.D.Disk.history c.place_instance.new.disk)) c.self.view_is
    (λ lists settled. subst (λ h. Leaves lists lists (g.D.Disk.history c.self.inside.disk) h) (sym (c.in-Err-Full.ensures.untouched (λ e. absurd (cc (e, c.in-Err-Full.field-0-is))))) (leaves_none _ lists lists settled))

pub returns-in-Err-NoMemory-clause-any_moment : goal.returns-in-Err-NoMemory-clause-any_moment
returns-in-Err-NoMemory-clause-any_moment g c =
    subst (λ v. (lists : Lists) → IsSettledFor lists (g.D.Disk.history v.disk) → Leaves lists lists (g.D.Disk.history v.disk) (g.D.Disk.history c.place_instance.new.disk)) c.self.view_is
    (λ lists settled. subst (λ h. Leaves lists lists (g.D.Disk.history c.self.inside.disk) h) (sym (c.in-Err-NoMemory.ensures.untouched (λ e. absurd (cc (e, c.in-Err-NoMemory.field-0-is))))) (leaves_none _ lists lists settled))

pub returns-in-Ok-clause-settled : goal.returns-in-Ok-clause-settled
returns-in-Ok-clause-settled g c =
    let runs = ap (λ v. v.stopped) c.self.view_is ∙ c.requires.running in
    let less = number_left c.self.inside.instances.highest c.known_facts.ensures.last (λ e. absurd (cc (c.in-Ok.ensures.full e))) in
    subst (λ v. (lists : Lists) → IsSettledFor lists (g.D.Disk.history v.disk) → IsSettledFor lists (g.D.Disk.history c.place_instance.new.disk)) c.self.view_is
    (placed_settled _ _ _ _ (g.met.D.Disk.reads_image c.self.inside.disk) (file_made _ _ _ (next_absent c.args.hash _ _ c.self.invariant.4 runs c.known_facts.ensures less) c.in-Ok.ensures.others))

pub returns-in-Ok-clause-stored : goal.returns-in-Ok-clause-stored
returns-in-Ok-clause-stored g c =
    let runs = ap (λ v. v.stopped) c.self.view_is ∙ c.requires.running in
    let less = number_left c.self.inside.instances.highest c.known_facts.ensures.last (λ e. absurd (cc (c.in-Ok.ensures.full e))) in
    subst (λ v. KeepsStored (g.D.Disk.history v.disk) (g.D.Disk.history c.place_instance.new.disk)) c.self.view_is
    (placed_stored _ _ _ _ (file_made _ _ _ (next_absent c.args.hash _ _ c.self.invariant.4 runs c.known_facts.ensures less) c.in-Ok.ensures.others))

pub returns-in-Err-Full-clause-refused : goal.returns-in-Err-Full-clause-refused
returns-in-Err-Full-clause-refused g c =
    stopped_full _ c.args.self.now c.place_instance.new.disk c.place_instance.new.self c.in-Err-Full.last c.self.view_is c.self.invariant.4.kept.highest (subst (λ (f : PlaceFault). IsPlaceError c.self.inside.instances c.place_instance.new.self f) c.in-Err-Full.field-0-is c.in-Err-Full.ensures.refused)

pub returns-in-Err-NoMemory-clause-refused : goal.returns-in-Err-NoMemory-clause-refused
returns-in-Err-NoMemory-clause-refused g c =
    stopped_memory _ c.args.self.now c.place_instance.new.disk c.place_instance.new.self c.self.view_is c.self.invariant.4.kept.highest (subst (λ (f : PlaceFault). IsPlaceError c.self.inside.instances c.place_instance.new.self f) c.in-Err-NoMemory.field-0-is c.in-Err-NoMemory.ensures.refused)

pub returns-in-Err-DiskFault-clause-refused : goal.returns-in-Err-DiskFault-clause-refused
returns-in-Err-DiskFault-clause-refused g c =
    stopped_fault _ c.args.self.now c.place_instance.new.disk c.place_instance.new.self c.self.view_is c.self.invariant.4.kept.highest (subst (λ (f : PlaceFault). IsPlaceError c.self.inside.instances c.place_instance.new.self f) c.in-Err-DiskFault.field-0-is c.in-Err-DiskFault.ensures.refused)

pub returns-in-Ok-clause-found : goal.returns-in-Ok-clause-found
returns-in-Ok-clause-found g c =
    let runs = ap (λ v. v.stopped) c.self.view_is ∙ c.requires.running in
    let less = number_left c.self.inside.instances.highest c.known_facts.ensures.last (λ e. absurd (cc (c.in-Ok.ensures.full e))) in
    let change = file_made _ _ _ (next_absent c.args.hash _ _ c.self.invariant.4 runs c.known_facts.ensures less) c.in-Ok.ensures.others in
    let unlike = subst (λ v. IsUnlikeKnown c.args.hash (length c.args.octets.now) c.args.octets.now v.instances.known (g.D.Disk.history v.disk)) (sym c.self.view_is) c.requires.new in
    let placed = is_placed c.args.hash c.args.octets.now c.self.inside.instances (g.D.Disk.history c.self.inside.disk) (g.D.Disk.history c.place_instance.new.disk) (c.self.invariant.4.running runs) unlike change c.in-Ok.ensures.made in
    found_placed c.args.hash c.args.octets.now _ _ c.self.inside.instances c.place_instance.new.self c.in-Ok.id c.known_facts-in-Ok.ensures c.in-Ok.ensures.ok c.in-Ok.ensures.id placed

pub returns-in-Ok-clause-keeps : goal.returns-in-Ok-clause-keeps
returns-in-Ok-clause-keeps g c = λ _.
    let runs = ap (λ v. v.stopped) c.self.view_is ∙ c.requires.running in
    let less = number_left c.self.inside.instances.highest c.known_facts.ensures.last (λ e. absurd (cc (c.in-Ok.ensures.full e))) in
    let change = file_made _ _ _ (next_absent c.args.hash _ _ c.self.invariant.4 runs c.known_facts.ensures less) c.in-Ok.ensures.others in
    let unlike = subst (λ v. IsUnlikeKnown c.args.hash (length c.args.octets.now) c.args.octets.now v.instances.known (g.D.Disk.history v.disk)) (sym c.self.view_is) c.requires.new in
    let placed = is_placed c.args.hash c.args.octets.now c.self.inside.instances (g.D.Disk.history c.self.inside.disk) (g.D.Disk.history c.place_instance.new.disk) (c.self.invariant.4.running runs) unlike change c.in-Ok.ensures.made in
    placing_kept g.D.Disk.history c.args.hash c.args.octets.now _ c.args.self.now _ c.self.view_is c.known_facts.ensures less c.known_facts-in-Ok.ensures c.in-Ok.ensures.ok refl c.self.invariant.4.kept.named placed

pub returns-in-Ok-clause-moves : goal.returns-in-Ok-clause-moves
returns-in-Ok-clause-moves g c =
    let less = number_left c.self.inside.instances.highest c.known_facts.ensures.last (λ e. absurd (cc (c.in-Ok.ensures.full e))) in
    placing_moves c.args.hash (length c.args.octets.now) _ c.args.self.now c.place_instance.new.self c.in-Ok.id c.self.view_is c.known_facts.ensures less c.known_facts-in-Ok.ensures c.in-Ok.ensures.ok c.in-Ok.ensures.id

pub returns-in-Ok-clause-mail_stays : goal.returns-in-Ok-clause-mail_stays
returns-in-Ok-clause-mail_stays g c =
    let less = number_left c.self.inside.instances.highest c.known_facts.ensures.last (λ e. absurd (cc (c.in-Ok.ensures.full e))) in
    subst (λ v. MailIsKept v.map (g.D.Disk.history v.disk) (g.D.Disk.history c.place_instance.new.disk)) c.self.view_is
    (kept_beside _ (next_instance_file c.args.hash c.self.inside.instances) _ _ (next_unknown c.args.hash _ _ c.self.invariant.4 c.known_facts.ensures less) c.place_instance.ensures.any_moment)

pub returns-in-Err-DiskFault-clause-mail_stays : goal.returns-in-Err-DiskFault-clause-mail_stays
returns-in-Err-DiskFault-clause-mail_stays g c =
    let failed = subst (λ (f : PlaceFault). IsPlaceError c.self.inside.instances c.place_instance.new.self f) c.in-Err-DiskFault.field-0-is c.in-Err-DiskFault.ensures.refused in
    subst (λ v. MailIsKept v.map (g.D.Disk.history v.disk) (g.D.Disk.history c.place_instance.new.disk)) c.self.view_is
    (kept_beside _ (next_instance_file c.args.hash c.self.inside.instances) _ _ (next_unknown c.args.hash _ _ c.self.invariant.4 c.known_facts.ensures failed.0) c.place_instance.ensures.any_moment)

pub returns-in-Err-Full-clause-mail_stays : goal.returns-in-Err-Full-clause-mail_stays
returns-in-Err-Full-clause-mail_stays g c =
    subst (λ v. MailIsKept v.map (g.D.Disk.history v.disk) (g.D.Disk.history c.place_instance.new.disk)) c.self.view_is
    (subst (λ h. MailIsKept c.self.inside.map.meaning (g.D.Disk.history c.self.inside.disk) h) (sym (c.in-Err-Full.ensures.untouched (λ e. absurd (cc (e, c.in-Err-Full.field-0-is))))) (kept_begins _ _))

pub returns-in-Err-NoMemory-clause-mail_stays : goal.returns-in-Err-NoMemory-clause-mail_stays
returns-in-Err-NoMemory-clause-mail_stays g c =
    subst (λ v. MailIsKept v.map (g.D.Disk.history v.disk) (g.D.Disk.history c.place_instance.new.disk)) c.self.view_is
    (subst (λ h. MailIsKept c.self.inside.map.meaning (g.D.Disk.history c.self.inside.disk) h) (sym (c.in-Err-NoMemory.ensures.untouched (λ e. absurd (cc (e, c.in-Err-NoMemory.field-0-is))))) (kept_begins _ _))

pub returns-in-Err-Full-clause-keeps : goal.returns-in-Err-Full-clause-keeps
returns-in-Err-Full-clause-keeps g c = λ _.
    let failed = subst (λ (f : PlaceFault). IsPlaceError c.self.inside.instances c.place_instance.new.self f) c.in-Err-Full.field-0-is c.in-Err-Full.ensures.refused in
    kept_untouched g.D.Disk.history _ c.args.self.now _ c.self.view_is failed.2 refl (c.in-Err-Full.ensures.untouched (λ e. absurd (cc (e, c.in-Err-Full.field-0-is))))

pub returns-in-Err-NoMemory-clause-keeps : goal.returns-in-Err-NoMemory-clause-keeps
returns-in-Err-NoMemory-clause-keeps g c = λ _.
    let failed = subst (λ (f : PlaceFault). IsPlaceError c.self.inside.instances c.place_instance.new.self f) c.in-Err-NoMemory.field-0-is c.in-Err-NoMemory.ensures.refused in
    kept_untouched g.D.Disk.history _ c.args.self.now _ c.self.view_is failed.1 refl (c.in-Err-NoMemory.ensures.untouched (λ e. absurd (cc (e, c.in-Err-NoMemory.field-0-is))))
