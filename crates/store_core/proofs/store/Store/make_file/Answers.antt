use Rattle.store_core.proofs.Common.{◌≡◌, ◌∙◌, ap, subst, refl, Lists, IsSettledFor, Leaves, end_in, is_taken_in, KeepsStored, MailIsKept, length}
use Rattle.store_core.proofs.KeptFileLemmas.{ends_made}
use Rattle.store_core.proofs.StoreFileLemmas.{made_store, made_leaves, change_made, settled_then, stored_then, absent_there, room_kept}
use Rattle.disk_model.specs.declared.name.FileName.TheVariants as file
use Rattle.store_core.proofs.MadeLogLemmas.{made_named}
use Rattle.store_core.proofs.KnownInstanceLemmas.{instances_made}
use Rattle.storage_files.specs.OnDisk.{IsNewOrNone}
use Rattle.store_core.proofs.MailStayLemmas.{beside_kept, unmade_unknown}
use Rattle.store_core.proofs.store.Store.make_file.Goals as goal

pub invariant_of-self-in_default : goal.invariant_of-self-in_default
invariant_of-self-in_default g c =
    let runs = ap (λ v. v.stopped) c.self.view_is ∙ c.requires.running in
    let absent = ap (λ v. end_in c.args.file.0 v.files.files) c.self.view_is ∙ c.requires.absent in (
      c.self.invariant.0,
      made_store c.args.file.0 c.args.header.now _ _ _ c.make_file.new.disk c.make_file.new.self c.self.invariant.1 runs (g.met.D.Disk.reads_image c.self.inside.disk) absent c.in_default.ensures.ok c.in_default.ensures.others c.in_default.ensures.made c.in_default.ensures.still_known,
      room_kept _ c.make_file.new.disk c.make_file.new.self c.self.inside.drawn c.self.inside.stopped c.self.invariant.2,
      made_named _ _ _ _ (file.Mail c.args.file.0) refl refl refl refl refl (λ number e. absurd (let w : file.Box number 1 ≡ file.Mail c.args.file.0 = e in cc w)) c.in_default.ensures.others c.self.invariant.3,
      instances_made c.args.file.0 _ _ _ _ c.self.invariant.4 c.in_default.ensures.others refl refl refl (λ on. on),
    )

pub returns-clause-any_moment : goal.returns-clause-any_moment
returns-clause-any_moment g c =
    let runs = ap (λ v. v.stopped) c.self.view_is ∙ c.requires.running in
    let absent = ap (λ v. end_in c.args.file.0 v.files.files) c.self.view_is ∙ c.requires.absent in
    subst (λ v. (lists : Lists) → IsSettledFor lists (g.D.Disk.history v.disk) → Leaves lists lists (g.D.Disk.history v.disk) (g.D.Disk.history c.make_file.new.disk)) c.self.view_is
    (made_leaves c.args.file.0 _ _ _ (g.met.D.Disk.reads_image c.self.inside.disk) (absent_there c.args.file.0 c.self.inside.files.files _ absent ((c.self.invariant.1.running runs).files_known c.args.file.0)) c.make_file.ensures.any_moment)

pub returns-in-Err-clause-any_moment : goal.returns-in-Err-clause-any_moment
returns-in-Err-clause-any_moment g c =
    let runs = ap (λ v. v.stopped) c.self.view_is ∙ c.requires.running in
    let absent = ap (λ v. end_in c.args.file.0 v.files.files) c.self.view_is ∙ c.requires.absent in
    subst (λ v. (lists : Lists) → IsSettledFor lists (g.D.Disk.history v.disk) → Leaves lists lists (g.D.Disk.history v.disk) (g.D.Disk.history c.make_file.new.disk)) c.self.view_is
    (made_leaves c.args.file.0 _ _ _ (g.met.D.Disk.reads_image c.self.inside.disk) (absent_there c.args.file.0 c.self.inside.files.files _ absent ((c.self.invariant.1.running runs).files_known c.args.file.0)) c.make_file.ensures.any_moment)

pub returns-clause-settled : goal.returns-clause-settled
returns-clause-settled g c =
    let runs = ap (λ v. v.stopped) c.self.view_is ∙ c.requires.running in
    let absent = ap (λ v. end_in c.args.file.0 v.files.files) c.self.view_is ∙ c.requires.absent in
    subst (λ v. (lists : Lists) → IsSettledFor lists (g.D.Disk.history v.disk) → IsSettledFor lists (g.D.Disk.history c.make_file.new.disk)) c.self.view_is
    (settled_then c.args.file.0 _ _ (change_made c.args.file.0 _ _ (g.met.D.Disk.reads_image c.self.inside.disk) (absent_there c.args.file.0 c.self.inside.files.files _ absent ((c.self.invariant.1.running runs).files_known c.args.file.0)) c.in_default.ensures.others))

pub returns-clause-stored : goal.returns-clause-stored
returns-clause-stored g c =
    let runs = ap (λ v. v.stopped) c.self.view_is ∙ c.requires.running in
    let absent = ap (λ v. end_in c.args.file.0 v.files.files) c.self.view_is ∙ c.requires.absent in
    subst (λ v. KeepsStored (g.D.Disk.history v.disk) (g.D.Disk.history c.make_file.new.disk)) c.self.view_is
    (stored_then c.args.file.0 _ _ (change_made c.args.file.0 _ _ (g.met.D.Disk.reads_image c.self.inside.disk) (absent_there c.args.file.0 c.self.inside.files.files _ absent ((c.self.invariant.1.running runs).files_known c.args.file.0)) c.in_default.ensures.others))

pub returns-clause-ends : goal.returns-clause-ends
returns-clause-ends g c =
    let taken = ap (λ v. is_taken_in c.args.file.0 v.files.files) c.self.view_is ∙ c.requires.taken in
    ends_made c.args.file.0 _ c.self.inside.files c.make_file.new.self taken c.in_default.ensures.ok

pub returns-clause-mail_stays : goal.returns-clause-mail_stays
returns-clause-mail_stays g c =
    let absent = ap (λ v. end_in c.args.file.0 v.files.files) c.self.view_is ∙ c.requires.absent in
    let taken = ap (λ v. is_taken_in c.args.file.0 v.files.files) c.self.view_is ∙ c.requires.taken in
    subst (λ v. MailIsKept v.map (g.D.Disk.history v.disk) (g.D.Disk.history c.make_file.new.disk)) c.self.view_is
    (beside_kept _ (file.Mail c.args.file.0) (IsNewOrNone (file.Mail c.args.file.0) (length c.args.header.now)) _ _ (unmade_unknown _ _ c.args.file.0 c.self.invariant.1 taken absent) c.make_file.ensures.any_moment)

pub returns-in-Err-clause-mail_stays : goal.returns-in-Err-clause-mail_stays
returns-in-Err-clause-mail_stays g c =
    let absent = ap (λ v. end_in c.args.file.0 v.files.files) c.self.view_is ∙ c.requires.absent in
    let taken = ap (λ v. is_taken_in c.args.file.0 v.files.files) c.self.view_is ∙ c.requires.taken in
    subst (λ v. MailIsKept v.map (g.D.Disk.history v.disk) (g.D.Disk.history c.make_file.new.disk)) c.self.view_is
    (beside_kept _ (file.Mail c.args.file.0) (IsNewOrNone (file.Mail c.args.file.0) (length c.args.header.now)) _ _ (unmade_unknown _ _ c.args.file.0 c.self.invariant.1 taken absent) c.make_file.ensures.any_moment)
