use Rattle.store_core.proofs.Common.{◌≡◌, ◌∙◌, ap, subst, refl, Grows, Lists, IsSettledFor, Leaves, end_in, KeepsStored, MailIsKept}
use Rattle.disk_model.specs.declared.name.FileName.TheVariants as file
use Rattle.store_core.proofs.StoreFileLemmas.{placed_leaves, settled_then, stored_then, each_grows, room_kept}
use Rattle.store_core.proofs.PieceLemmas.{pieced_store, change_pieced}
use Rattle.store_core.proofs.MadeLogLemmas.{made_beside}
use Rattle.store_core.proofs.KnownInstanceLemmas.{instances_placed}
use Rattle.storage_files.specs.Files.{place_begun_in}
use Rattle.store_core.proofs.MailStayLemmas.{added_kept, placing_taken}
use Rattle.store_core.proofs.store.Store.add_piece.Goals as goal

pub add_piece-requires-clause-known : goal.add_piece-requires-clause-known
add_piece-requires-clause-known g c = (c.self.invariant.1.running (ap (λ v. v.stopped) c.self.view_is ∙ c.requires.running)).files_known c.args.file.0

pub invariant_of-self : goal.invariant_of-self
invariant_of-self g c =
    let runs = ap (λ v. v.stopped) c.self.view_is ∙ c.requires.running in
    let ends = ap (λ v. end_in c.args.file.0 v.files.files) c.self.view_is ∙ c.requires.fits.1 in (
      c.self.invariant.0,
      pieced_store c.args.file.0 c.requires.fits.0 c.args.octets.now _ _ _ c.add_piece.new.disk c.add_piece.new.self c.self.invariant.1 runs (g.met.D.Disk.reads_image c.add_piece.new.disk) ends (c.in-Ok.ensures.ok c.requires.fits.0 ends) c.in-Ok.ensures.others c.in-Ok.ensures.added (c.add_piece.ensures.any_moment c.requires.fits.0 ends) c.in-Ok.ensures.still_known,
      room_kept _ c.add_piece.new.disk c.add_piece.new.self c.self.inside.drawn c.self.inside.stopped c.self.invariant.2,
      made_beside _ _ _ _ (file.Mail c.args.file.0) refl refl refl refl refl (λ number e. absurd (let w : file.Box number 1 ≡ file.Mail c.args.file.0 = e in cc w)) c.in-Ok.ensures.others c.self.invariant.3,
      instances_placed c.args.file.0 _ _ _ _ c.self.invariant.4 c.in-Ok.ensures.others refl refl refl (λ on. on),
    )

pub returns-in-Ok-clause-any_moment : goal.returns-in-Ok-clause-any_moment
returns-in-Ok-clause-any_moment g c =
    subst (λ v. (lists : Lists) → IsSettledFor lists (g.D.Disk.history v.disk) → Leaves lists lists (g.D.Disk.history v.disk) (g.D.Disk.history c.add_piece.new.disk)) c.self.view_is
    (placed_leaves c.args.file.0 c.requires.fits.0 _ _ (g.met.D.Disk.reads_image c.self.inside.disk) (c.add_piece.ensures.any_moment c.requires.fits.0 (ap (λ v. end_in c.args.file.0 v.files.files) c.self.view_is ∙ c.requires.fits.1)))

pub returns-in-Ok-clause-grows : goal.returns-in-Ok-clause-grows
returns-in-Ok-clause-grows g c =
    subst (λ v. Grows (g.D.Disk.history v.disk) (g.D.Disk.history c.add_piece.new.disk)) c.self.view_is
    (each_grows _ _ _ (c.add_piece.ensures.any_moment c.requires.fits.0 (ap (λ v. end_in c.args.file.0 v.files.files) c.self.view_is ∙ c.requires.fits.1)))

pub returns-in-Err-clause-any_moment : goal.returns-in-Err-clause-any_moment
returns-in-Err-clause-any_moment g c =
    subst (λ v. (lists : Lists) → IsSettledFor lists (g.D.Disk.history v.disk) → Leaves lists lists (g.D.Disk.history v.disk) (g.D.Disk.history c.add_piece.new.disk)) c.self.view_is
    (placed_leaves c.args.file.0 c.requires.fits.0 _ _ (g.met.D.Disk.reads_image c.self.inside.disk) (c.add_piece.ensures.any_moment c.requires.fits.0 (ap (λ v. end_in c.args.file.0 v.files.files) c.self.view_is ∙ c.requires.fits.1)))

pub returns-in-Err-clause-grows : goal.returns-in-Err-clause-grows
returns-in-Err-clause-grows g c =
    subst (λ v. Grows (g.D.Disk.history v.disk) (g.D.Disk.history c.add_piece.new.disk)) c.self.view_is
    (each_grows _ _ _ (c.add_piece.ensures.any_moment c.requires.fits.0 (ap (λ v. end_in c.args.file.0 v.files.files) c.self.view_is ∙ c.requires.fits.1)))

pub returns-in-Ok-clause-settled : goal.returns-in-Ok-clause-settled
returns-in-Ok-clause-settled g c =
    subst (λ v. (lists : Lists) → IsSettledFor lists (g.D.Disk.history v.disk) → IsSettledFor lists (g.D.Disk.history c.add_piece.new.disk)) c.self.view_is
    (settled_then c.args.file.0 _ _ (change_pieced c.args.file.0 c.requires.fits.0 c.args.octets.now _ _ (g.met.D.Disk.reads_image c.add_piece.new.disk) c.in-Ok.ensures.others c.in-Ok.ensures.added (c.add_piece.ensures.any_moment c.requires.fits.0 (ap (λ v. end_in c.args.file.0 v.files.files) c.self.view_is ∙ c.requires.fits.1))))

pub returns-in-Ok-clause-stored : goal.returns-in-Ok-clause-stored
returns-in-Ok-clause-stored g c =
    subst (λ v. KeepsStored (g.D.Disk.history v.disk) (g.D.Disk.history c.add_piece.new.disk)) c.self.view_is
    (stored_then c.args.file.0 _ _ (change_pieced c.args.file.0 c.requires.fits.0 c.args.octets.now _ _ (g.met.D.Disk.reads_image c.add_piece.new.disk) c.in-Ok.ensures.others c.in-Ok.ensures.added (c.add_piece.ensures.any_moment c.requires.fits.0 (ap (λ v. end_in c.args.file.0 v.files.files) c.self.view_is ∙ c.requires.fits.1))))

pub returns-in-Ok-clause-mail_stays : goal.returns-in-Ok-clause-mail_stays
returns-in-Ok-clause-mail_stays g c =
    let ends = ap (λ v. end_in c.args.file.0 v.files.files) c.self.view_is ∙ c.requires.fits.1 in
    let taken = placing_taken c.args.file.0 c.requires.begun.0 _ c.known_facts.ensures.used (ap (λ v. place_begun_in c.args.file.0 v.files.files) c.self.view_is ∙ c.requires.begun.1) in
    subst (λ v. MailIsKept v.map (g.D.Disk.history v.disk) (g.D.Disk.history c.add_piece.new.disk)) c.self.view_is
    (added_kept c.args.file.0 c.requires.fits.0 _ _ _ c.self.invariant.1 taken ends (c.add_piece.ensures.any_moment c.requires.fits.0 ends))

pub returns-in-Err-clause-mail_stays : goal.returns-in-Err-clause-mail_stays
returns-in-Err-clause-mail_stays g c =
    let ends = ap (λ v. end_in c.args.file.0 v.files.files) c.self.view_is ∙ c.requires.fits.1 in
    let taken = placing_taken c.args.file.0 c.requires.begun.0 _ c.known_facts.ensures.used (ap (λ v. place_begun_in c.args.file.0 v.files.files) c.self.view_is ∙ c.requires.begun.1) in
    subst (λ v. MailIsKept v.map (g.D.Disk.history v.disk) (g.D.Disk.history c.add_piece.new.disk)) c.self.view_is
    (added_kept c.args.file.0 c.requires.fits.0 _ _ _ c.self.invariant.1 taken ends (c.add_piece.ensures.any_moment c.requires.fits.0 ends))
