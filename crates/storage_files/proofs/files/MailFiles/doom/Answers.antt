use Rattle.std.proofs.Common.{refl, ap, ◌∙◌}
use Rattle.storage_files.specs.Files.{IsUsedFile, end_in, made_doomed}
use Rattle.storage_files.proofs.FileListLemmas.{ends-kept}
use Rattle.storage_files.proofs.UseLemmas.{of-found, found-emptied, use_doomed}
use Rattle.storage_files.proofs.files.MailFiles.doom.Goals as goal

pub change-requires : goal.change-requires
change-requires c =
    let e = found-emptied c.args.file.0 c.args.self.now.files c.requires.emptied in
    of-found c.args.file.0 _ e.0 (λ f. IsUsedFile f → IsUsedFile (made_doomed f)) c.known_facts.ensures.rising e.1 (use_doomed e.0 e.2)

pub returns-clause-ends : goal.returns-clause-ends
returns-clause-ends c = λ number. ap (λ v. end_in number v.files) c.change.ensures ∙ ends-kept c.args.file.0 number made_doomed c.args.self.now.files (λ f. refl) (λ f. refl)
