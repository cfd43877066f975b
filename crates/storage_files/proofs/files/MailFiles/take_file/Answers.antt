use Rattle.std.proofs.Common.{Option, false, refl, sym, ap, ◌∙◌}
use Rattle.std.specs.Option.{option_map_or}
use Rattle.storage_files.specs.Files.{IsUsedFile, end_in, to_empty}
use Rattle.storage_files.specs.declared.file.MailFile.{MailFile}
use Rattle.storage_files.proofs.FileListLemmas.{ends-kept}
use Rattle.storage_files.proofs.UseLemmas.{of-found, use_emptied}
use Rattle.storage_files.proofs.files.MailFiles.take_file.Goals as goal

pub change-requires : goal.change-requires
change-requires c =
    let r = c.requires.free in
    let unsealed = sym (ap (λ (o : Option MailFile). option_map_or (λ f. f.sealed) o false) r.1) ∙ c.requires.unsealed in
    of-found c.args.file.0 _ r.0 (λ f. IsUsedFile f → IsUsedFile (to_empty f)) c.known_facts.ensures.rising r.1 (use_emptied r.0 r.2 unsealed)

pub returns-clause-ends : goal.returns-clause-ends
returns-clause-ends c = λ number. ap (λ v. end_in number v.files) c.change.ensures ∙ ends-kept c.args.file.0 number to_empty c.args.self.now.files (λ f. refl) (λ f. refl)
