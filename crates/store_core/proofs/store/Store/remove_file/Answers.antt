use Rattle.store_core.proofs.Common.{◌≡◌, ◌∙◌, ap, subst, refl, sym, Lists, IsSettledFor, Leaves, end_in, is_doomed_in, is_emptied_in, AreElsewhere, MailIsKept, kept_beside}
use Rattle.std.proofs.Common.{◌||◌}
use Rattle.disk_model.specs.declared.name.FileName.TheVariants as file
use Rattle.store_core.specs.Removing.{KeepsStoredBut}
use Rattle.store_core.proofs.StoreFileLemmas.{room_kept}
use Rattle.store_core.proofs.RemovalLemmas.{removed_store, removed_leaves, settled_removed, stored_but, known_there}
use Rattle.store_core.proofs.MadeLogLemmas.{made_beside}
use Rattle.store_core.proofs.KnownInstanceLemmas.{instances_placed}
use Rattle.store_core.proofs.MailStayLemmas.{bare_unknown, own_unsealed}
use Rattle.store_core.proofs.store.Store.remove_file.Goals as goal

pub invariant_of-self-in_default : goal.invariant_of-self-in_default
invariant_of-self-in_default g c =
    let runs = ap (λ v. v.stopped) c.self.view_is ∙ c.requires.running in
    let unused = subst (λ v. AreElsewhere c.args.file.0 v.map.records) (sym c.self.view_is) c.requires.unused in (
      c.self.invariant.0,
      removed_store c.args.file.0 _ _ _ c.remove_file.new.disk c.remove_file.new.self c.self.invariant.1 runs unused c.in_default.ensures.ok c.in_default.ensures.others c.in_default.ensures.still_known,
      room_kept _ c.remove_file.new.disk c.remove_file.new.self c.self.inside.drawn c.self.inside.stopped c.self.invariant.2,
      made_beside _ _ _ _ (file.Mail c.args.file.0) refl refl refl refl refl (λ number e. absurd (let w : file.Box number 1 ≡ file.Mail c.args.file.0 = e in cc w)) c.in_default.ensures.others c.self.invariant.3,
      instances_placed c.args.file.0 _ _ _ _ c.self.invariant.4 c.in_default.ensures.others refl refl refl (λ on. on),
    )

pub returns-clause-any_moment : goal.returns-clause-any_moment
returns-clause-any_moment g c =
    let runs = ap (λ v. v.stopped) c.self.view_is ∙ c.requires.running in
    let unused = subst (λ v. AreElsewhere c.args.file.0 v.map.records) (sym c.self.view_is) c.requires.unused in
    let there = ap (λ v. end_in c.args.file.0 v.files.files) c.self.view_is ∙ c.requires.there.1 in
    subst (λ v. (lists : Lists) → IsSettledFor lists (g.D.Disk.history v.disk) → Leaves lists lists (g.D.Disk.history v.disk) (g.D.Disk.history c.remove_file.new.disk)) c.self.view_is
    (removed_leaves c.args.file.0 _ _ _ c.self.invariant.1 runs unused (g.met.D.Disk.reads_image c.self.inside.disk)
    (c.remove_file.ensures.any_moment (known_there c.args.file.0 c.requires.there.0 c.self.inside.files.files _ there ((c.self.invariant.1.running runs).files_known c.args.file.0))))

pub returns-in-Err-clause-any_moment : goal.returns-in-Err-clause-any_moment
returns-in-Err-clause-any_moment g c =
    let runs = ap (λ v. v.stopped) c.self.view_is ∙ c.requires.running in
    let unused = subst (λ v. AreElsewhere c.args.file.0 v.map.records) (sym c.self.view_is) c.requires.unused in
    let there = ap (λ v. end_in c.args.file.0 v.files.files) c.self.view_is ∙ c.requires.there.1 in
    subst (λ v. (lists : Lists) → IsSettledFor lists (g.D.Disk.history v.disk) → Leaves lists lists (g.D.Disk.history v.disk) (g.D.Disk.history c.remove_file.new.disk)) c.self.view_is
    (removed_leaves c.args.file.0 _ _ _ c.self.invariant.1 runs unused (g.met.D.Disk.reads_image c.self.inside.disk)
    (c.remove_file.ensures.any_moment (known_there c.args.file.0 c.requires.there.0 c.self.inside.files.files _ there ((c.self.invariant.1.running runs).files_known c.args.file.0))))

pub returns-clause-settled : goal.returns-clause-settled
returns-clause-settled g c =
    let runs = ap (λ v. v.stopped) c.self.view_is ∙ c.requires.running in
    let unused = subst (λ v. AreElsewhere c.args.file.0 v.map.records) (sym c.self.view_is) c.requires.unused in
    subst (λ v. (lists : Lists) → IsSettledFor lists (g.D.Disk.history v.disk) → IsSettledFor lists (g.D.Disk.history c.remove_file.new.disk)) c.self.view_is
    (settled_removed c.args.file.0 _ _ _ c.self.invariant.1 runs unused (g.met.D.Disk.reads_image c.self.inside.disk) c.in_default.ensures.others)

pub returns-clause-stored : goal.returns-clause-stored
returns-clause-stored g c =
    subst (λ v. KeepsStoredBut c.args.file.0 (g.D.Disk.history v.disk) (g.D.Disk.history c.remove_file.new.disk)) c.self.view_is
    (stored_but c.args.file.0 _ _ c.in_default.ensures.others)

pub returns-clause-mail_stays : goal.returns-clause-mail_stays
returns-clause-mail_stays g c =
    let unused = subst (λ v. AreElsewhere c.args.file.0 v.map.records) (sym c.self.view_is) c.requires.unused in
    let unsealed = own_unsealed _ _ c.args.file.0 c.self.invariant.1 c.known_facts.ensures (ap (λ v. is_doomed_in c.args.file.0 v.files.files || is_emptied_in c.args.file.0 v.files.files) c.self.view_is ∙ c.requires.own) in
    subst (λ v. MailIsKept v.map (g.D.Disk.history v.disk) (g.D.Disk.history c.remove_file.new.disk)) c.self.view_is
    (kept_beside _ (file.Mail c.args.file.0) _ _ (bare_unknown _ c.args.file.0 unused unsealed) c.remove_file.ensures.others_stay)

pub returns-in-Err-clause-mail_stays : goal.returns-in-Err-clause-mail_stays
returns-in-Err-clause-mail_stays g c =
    let unused = subst (λ v. AreElsewhere c.args.file.0 v.map.records) (sym c.self.view_is) c.requires.unused in
    let unsealed = own_unsealed _ _ c.args.file.0 c.self.invariant.1 c.known_facts.ensures (ap (λ v. is_doomed_in c.args.file.0 v.files.files || is_emptied_in c.args.file.0 v.files.files) c.self.view_is ∙ c.requires.own) in
    subst (λ v. MailIsKept v.map (g.D.Disk.history v.disk) (g.D.Disk.history c.remove_file.new.disk)) c.self.view_is
    (kept_beside _ (file.Mail c.args.file.0) _ _ (bare_unknown _ c.args.file.0 unused unsealed) c.remove_file.ensures.others_stay)
