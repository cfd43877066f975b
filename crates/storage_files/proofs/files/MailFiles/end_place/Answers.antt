use Rattle.std.proofs.Common.{◌≡◌, Some, refl, sym, ap, ◌∙◌, arith}
use Rattle.std.proofs.lemmas.Option.{same_Some}
use Rattle.disk_model.specs.declared.name.FileName.TheVariants.{Mail}
use Rattle.storage_files.specs.Files.{placing_ended}
use Rattle.storage_files.proofs.AddLemmas.{synced-held}
use Rattle.storage_files.proofs.FileListLemmas.{takers-kept}
use Rattle.storage_files.proofs.UseLemmas.{begun_before, known-beside, synced-reads}
use Rattle.storage_files.proofs.files.MailFiles.end_place.Goals as goal

pub overflow_sub-result : goal.overflow_sub-result
overflow_sub-result g c =
    begun_before c.args.file.0 c.args.self.now.files c.unwrap-start.result c.unwrap-end.result c.known_facts.ensures.used c.known_facts.ensures.rising (sym (sym c.unwrap-start.ensures ∙ c.begun_of.ensures)) (sym (sym c.unwrap-end.ensures ∙ c.end_of.ensures))

pub returns-clause-count : goal.returns-clause-count
returns-clause-count g c = λ start is.
    let e : c.unwrap-start.result ≡ start = same_Some _ _ (sym c.unwrap-start.ensures ∙ c.begun_of.ensures ∙ is) in
    let l = begun_before c.args.file.0 c.args.self.now.files c.unwrap-start.result c.unwrap-end.result c.known_facts.ensures.used c.known_facts.ensures.rising (sym (sym c.unwrap-start.ensures ∙ c.begun_of.ensures)) (sym (sym c.unwrap-end.ensures ∙ c.end_of.ensures)) in
    sym c.end_of.ensures ∙ c.unwrap-end.ensures ∙ ap Some (omega (arith, e, l))

pub returns-clause-held : goal.returns-clause-held
returns-clause-held g c = λ text h. synced-held (Mail c.args.file.0) text _ _ c.in_ok-sync.ensures.synced (g.met.D.Disk.reads_image c.sync.new.disk) h

pub returns-clause-still_known : goal.returns-clause-still_known
returns-clause-still_known g c = λ number known.
    rw c.change.ensures (known-beside c.args.file.0 placing_ended c.args.self.now.files _ _ (λ f. refl) (λ f. refl) (synced-reads (Mail c.args.file.0) _ _ c.in_ok-sync.ensures.synced c.in_ok-sync.ensures.others) number known)

pub returns-clause-taken : goal.returns-clause-taken
returns-clause-taken g c = λ number. rw c.change.ensures (takers-kept c.args.file.0 number placing_ended c.args.self.now.files (λ f. refl) (λ f. refl))
