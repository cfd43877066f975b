use Rattle.std.proofs.Common.{◌≡◌, ◌≤◌, ◌++◌, ℕ, length, Some, refl, sym, ◌∙◌, subst}
use Rattle.std.proofs.lemmas.Option.{same_Some}
use Rattle.disk_model.specs.Disk.{EachImage, OthersStay, IfTold, reading}
use Rattle.disk_model.specs.declared.name.FileName.TheVariants.{Mail}
use Rattle.std.specs.Option.{option_map}
use Rattle.storage_files.specs.OnDisk.{FrontStays}
use Rattle.storage_files.proofs.AddLemmas.{held-on}
use Rattle.storage_files.specs.Files.{IsUsedFile, ending_at}
use Rattle.storage_files.proofs.FileListLemmas.{takers-kept}
use Rattle.storage_files.proofs.UseLemmas.{of-found, found-ending, use_ending, more_end}
use Rattle.storage_files.proofs.KnownLemmas.{taken-there, same-reads, added-length, known-ending}
use Rattle.storage_files.proofs.files.MailFiles.place_texts.Goals as goal

pub returns-in_err-behind-clause-any_moment : goal.returns-in_err-behind-clause-any_moment
returns-in_err-behind-clause-any_moment g c = λ end is.
    let e : c.unwrap-end.result ≡ end = same_Some _ _ (sym c.unwrap-end.ensures ∙ c.end_of.ensures ∙ is) in
    subst (λ (n : ℕ). EachImage (λ m image. FrontStays (Mail c.args.file.0) n (g.D.Disk.history c.args.disk.now) image × OthersStay (Mail c.args.file.0) (g.D.Disk.history c.args.disk.now) image) (g.D.Disk.history c.args.disk.now) (g.D.Disk.history c.add_texts.new.disk)) e c.add_texts.ensures.any_moment

pub returns-clause-any_moment : goal.returns-clause-any_moment
returns-clause-any_moment g c = λ end is.
    let e : c.unwrap-end.result ≡ end = same_Some _ _ (sym c.unwrap-end.ensures ∙ c.end_of.ensures ∙ is) in
    subst (λ (n : ℕ). EachImage (λ m image. FrontStays (Mail c.args.file.0) n (g.D.Disk.history c.args.disk.now) image × OthersStay (Mail c.args.file.0) (g.D.Disk.history c.args.disk.now) image) (g.D.Disk.history c.args.disk.now) (g.D.Disk.history c.add_texts.new.disk)) e c.add_texts.ensures.any_moment

pub change-requires : goal.change-requires
change-requires g c =
    let f = found-ending c.args.file.0 c.args.self.now.files c.unwrap-end.result (sym (sym c.unwrap-end.ensures ∙ c.end_of.ensures)) in
    of-found c.args.file.0 _ f.0 (λ f. IsUsedFile f → IsUsedFile (ending_at (c.in_ok-behind.behind) f)) c.known_facts.ensures.rising f.1
    (use_ending f.0 (c.in_ok-behind.behind) (λ old is. subst (λ (n : ℕ). old ≤ n) (sym c.in_ok-behind.ensures.end) (more_end c.unwrap-end.result (length ((c.args.front.now ++ c.args.body.now) ++ c.args.back.now)) old (sym f.2 ∙ is))))

pub returns-clause-held : goal.returns-clause-held
returns-clause-held g c = λ text keeps. held-on (Mail c.args.file.0) ((c.args.front.now ++ c.args.body.now) ++ c.args.back.now) text _ _ c.in_ok-behind.ensures.added keeps

pub returns-clause-still_known : goal.returns-clause-still_known
returns-clause-still_known g c = λ number known.
    let there = taken-there c.args.self.now.files c.args.file.0 c.requires.taken in
    let end = sym c.unwrap-end.ensures ∙ c.end_of.ensures in
    let long = subst (λ o. IfTold (g.D.Disk.history c.args.disk.now) (λ disk. option_map length (reading (disk (Mail c.args.file.0))) ≡ o)) (sym end) c.requires.known in
    rw c.change.ensures (known-ending c.args.file.0 (c.in_ok-behind.behind) c.args.self.now.files there.0 _ _ there.1 (same-reads c.args.file.0 _ _ c.in_ok-behind.ensures.others)
    (subst (λ (n : ℕ). IfTold (g.D.Disk.history c.add_texts.new.disk) (λ disk. option_map length (reading (disk (Mail c.args.file.0))) ≡ Some n)) (sym c.in_ok-behind.ensures.end) (added-length (Mail c.args.file.0) c.unwrap-end.result ((c.args.front.now ++ c.args.body.now) ++ c.args.back.now) _ _ long c.in_ok-behind.ensures.added)) number known)

pub returns-clause-taken : goal.returns-clause-taken
returns-clause-taken g c = λ number. rw c.change.ensures (takers-kept c.args.file.0 number (ending_at (c.in_ok-behind.behind)) c.args.self.now.files (λ f. refl) (λ f. refl))
