use Rattle.store_core.proofs.Common.{◌≡◌, ◌++◌, ◌∙◌, ap, subst, refl, Between, Grows, Lists, IsSettledFor, Leaves, end_in, is_taken_in, IsAddedTo, KeepsStored, MailIsKept}
use Rattle.store_core.proofs.KeptFileLemmas.{file_there, ends_longer}
use Rattle.store_core.proofs.StoreFileLemmas.{placed_store, placed_leaves, change_added, settled_then, stored_then, held_then, ends_with, each_grows, room_kept}
use Rattle.disk_model.specs.declared.name.FileName.TheVariants as file
use Rattle.store_core.proofs.MadeLogLemmas.{made_beside}
use Rattle.store_core.proofs.KnownInstanceLemmas.{instances_placed}
use Rattle.store_core.proofs.MailStayLemmas.{added_kept}
use Rattle.store_core.proofs.store.Store.place_texts.Goals as goal

pub invariant_of-self : goal.invariant_of-self
invariant_of-self g c =
    let runs = ap (λ v. v.stopped) c.self.view_is ∙ c.requires.running in (
      c.self.invariant.0,
      placed_store c.args.file.0 c.in-Ok.offset ((c.args.front.now ++ c.args.body.now) ++ c.args.back.now) _ _ _ c.place_texts.new.disk c.place_texts.new.self c.self.invariant.1 runs (g.met.D.Disk.reads_image c.self.inside.disk) c.in-Ok.ensures.offset c.in-Ok.ensures.ok c.in-Ok.ensures.others c.in-Ok.ensures.added c.in-Ok.ensures.still_known,
      room_kept _ c.place_texts.new.disk c.place_texts.new.self c.self.inside.drawn c.self.inside.stopped c.self.invariant.2,
      made_beside _ _ _ _ (file.Mail c.args.file.0) refl refl refl refl refl (λ number e. absurd (let w : file.Box number 1 ≡ file.Mail c.args.file.0 = e in cc w)) c.in-Ok.ensures.others c.self.invariant.3,
      instances_placed c.args.file.0 _ _ _ _ c.self.invariant.4 c.in-Ok.ensures.others refl refl refl (λ on. on),
    )

pub returns-in-Ok-clause-any_moment : goal.returns-in-Ok-clause-any_moment
returns-in-Ok-clause-any_moment g c =
    subst (λ v. (lists : Lists) → IsSettledFor lists (g.D.Disk.history v.disk) → Leaves lists lists (g.D.Disk.history v.disk) (g.D.Disk.history c.place_texts.new.disk)) c.self.view_is
    (placed_leaves c.args.file.0 c.requires.fits.0 _ _ (g.met.D.Disk.reads_image c.self.inside.disk) (c.place_texts.ensures.any_moment c.requires.fits.0 (ap (λ v. end_in c.args.file.0 v.files.files) c.self.view_is ∙ c.requires.fits.1)))

pub returns-in-Err-clause-any_moment : goal.returns-in-Err-clause-any_moment
returns-in-Err-clause-any_moment g c =
    subst (λ v. (lists : Lists) → IsSettledFor lists (g.D.Disk.history v.disk) → Leaves lists lists (g.D.Disk.history v.disk) (g.D.Disk.history c.place_texts.new.disk)) c.self.view_is
    (placed_leaves c.args.file.0 c.requires.fits.0 _ _ (g.met.D.Disk.reads_image c.self.inside.disk) (c.place_texts.ensures.any_moment c.requires.fits.0 (ap (λ v. end_in c.args.file.0 v.files.files) c.self.view_is ∙ c.requires.fits.1)))

pub returns-in-Ok-clause-grows : goal.returns-in-Ok-clause-grows
returns-in-Ok-clause-grows g c =
    subst (λ v. Grows (g.D.Disk.history v.disk) (g.D.Disk.history c.place_texts.new.disk)) c.self.view_is
    (each_grows _ _ _ (c.place_texts.ensures.any_moment c.requires.fits.0 (ap (λ v. end_in c.args.file.0 v.files.files) c.self.view_is ∙ c.requires.fits.1)))

pub returns-in-Err-clause-grows : goal.returns-in-Err-clause-grows
returns-in-Err-clause-grows g c =
    subst (λ v. Grows (g.D.Disk.history v.disk) (g.D.Disk.history c.place_texts.new.disk)) c.self.view_is
    (each_grows _ _ _ (c.place_texts.ensures.any_moment c.requires.fits.0 (ap (λ v. end_in c.args.file.0 v.files.files) c.self.view_is ∙ c.requires.fits.1)))

pub returns-in-Ok-clause-settled : goal.returns-in-Ok-clause-settled
returns-in-Ok-clause-settled g c =
    subst (λ v. (lists : Lists) → IsSettledFor lists (g.D.Disk.history v.disk) → IsSettledFor lists (g.D.Disk.history c.place_texts.new.disk)) c.self.view_is
    (settled_then c.args.file.0 _ _ (change_added c.args.file.0 ((c.args.front.now ++ c.args.body.now) ++ c.args.back.now) _ _ (g.met.D.Disk.reads_image c.self.inside.disk) c.in-Ok.ensures.others c.in-Ok.ensures.added))

pub returns-in-Ok-clause-held : goal.returns-in-Ok-clause-held
returns-in-Ok-clause-held g c =
    let runs = ap (λ v. v.stopped) c.self.view_is ∙ c.requires.running in
    let taken = ap (λ v. is_taken_in c.args.file.0 v.files.files) c.self.view_is ∙ c.requires.taken in
    let later = placed_store c.args.file.0 c.in-Ok.offset ((c.args.front.now ++ c.args.body.now) ++ c.args.back.now) _ _ _ c.place_texts.new.disk c.place_texts.new.self c.self.invariant.1 runs (g.met.D.Disk.reads_image c.self.inside.disk) c.in-Ok.ensures.offset c.in-Ok.ensures.ok c.in-Ok.ensures.others c.in-Ok.ensures.added c.in-Ok.ensures.still_known in
    held_then c.args.file.0 c.in-Ok.offset ((c.args.front.now ++ c.args.body.now) ++ c.args.back.now) _ _ _ c.place_texts.new.disk c.place_texts.new.self c.self.invariant.1 runs (file_there c.args.file.0 c.in-Ok.offset _ taken c.in-Ok.ensures.offset) (g.met.D.Disk.reads_image c.place_texts.new.disk) c.in-Ok.ensures.added later

pub returns-in-Ok-clause-placed : goal.returns-in-Ok-clause-placed
returns-in-Ok-clause-placed g c =
    let runs = ap (λ v. v.stopped) c.self.view_is ∙ c.requires.running in
    ends_with c.args.file.0 c.in-Ok.offset ((c.args.front.now ++ c.args.body.now) ++ c.args.back.now) c.self.inside.files.files _ _ c.in-Ok.ensures.offset ((c.self.invariant.1.running runs).files_known c.args.file.0) c.in-Ok.ensures.added

pub returns-in-Ok-clause-stored : goal.returns-in-Ok-clause-stored
returns-in-Ok-clause-stored g c =
    subst (λ v. KeepsStored (g.D.Disk.history v.disk) (g.D.Disk.history c.place_texts.new.disk)) c.self.view_is
    (stored_then c.args.file.0 _ _ (change_added c.args.file.0 ((c.args.front.now ++ c.args.body.now) ++ c.args.back.now) _ _ (g.met.D.Disk.reads_image c.self.inside.disk) c.in-Ok.ensures.others c.in-Ok.ensures.added))

pub returns-in-Ok-clause-ends : goal.returns-in-Ok-clause-ends
returns-in-Ok-clause-ends g c = ends_longer c.args.file.0 c.in-Ok.offset _ c.self.inside.files c.place_texts.new.self c.in-Ok.ensures.offset c.in-Ok.ensures.ok

pub returns-in-Ok-clause-added : goal.returns-in-Ok-clause-added
returns-in-Ok-clause-added g c =
    subst (λ v. Between (λ old new. IsAddedTo ((c.args.front.now ++ c.args.body.now) ++ c.args.back.now) (old (file.Mail c.args.file.0)) (new (file.Mail c.args.file.0))) (g.D.Disk.history v.disk) (g.D.Disk.history c.place_texts.new.disk)) c.self.view_is c.in-Ok.ensures.added

pub returns-in-Ok-clause-mail_stays : goal.returns-in-Ok-clause-mail_stays
returns-in-Ok-clause-mail_stays g c =
    let ends = ap (λ v. end_in c.args.file.0 v.files.files) c.self.view_is ∙ c.requires.fits.1 in
    let taken = ap (λ v. is_taken_in c.args.file.0 v.files.files) c.self.view_is ∙ c.requires.taken in
    subst (λ v. MailIsKept v.map (g.D.Disk.history v.disk) (g.D.Disk.history c.place_texts.new.disk)) c.self.view_is
    (added_kept c.args.file.0 c.requires.fits.0 _ _ _ c.self.invariant.1 taken ends (c.place_texts.ensures.any_moment c.requires.fits.0 ends))

pub returns-in-Err-clause-mail_stays : goal.returns-in-Err-clause-mail_stays
returns-in-Err-clause-mail_stays g c =
    let ends = ap (λ v. end_in c.args.file.0 v.files.files) c.self.view_is ∙ c.requires.fits.1 in
    let taken = ap (λ v. is_taken_in c.args.file.0 v.files.files) c.self.view_is ∙ c.requires.taken in
    subst (λ v. MailIsKept v.map (g.D.Disk.history v.disk) (g.D.Disk.history c.place_texts.new.disk)) c.self.view_is
    (added_kept c.args.file.0 c.requires.fits.0 _ _ _ c.self.invariant.1 taken ends (c.place_texts.ensures.any_moment c.requires.fits.0 ends))
