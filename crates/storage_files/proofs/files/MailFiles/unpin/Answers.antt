use Rattle.std.proofs.Common.{◌-◌, refl, ap, ◌∙◌}
use Rattle.storage_files.specs.Files.{IsUsedFile, end_in, with_pins}
use Rattle.storage_files.proofs.FileListLemmas.{ends-kept}
use Rattle.storage_files.proofs.UseLemmas.{of-found, found-pinned, use_pins}
use Rattle.storage_files.proofs.files.MailFiles.unpin.Goals as goal

pub change-requires : goal.change-requires
change-requires c =
    let e = found-pinned c.args.file.0 c.args.self.now.files c.requires.pinned in
    of-found c.args.file.0 _ e.0 (λ f. IsUsedFile f → IsUsedFile (with_pins (c.pins_of-pins.result - 1) f)) c.known_facts.ensures.rising e.1 (λ u. use_pins e.0 (c.pins_of-pins.result - 1) (λ some. u.pinned e.2) u)

pub returns-clause-ends : goal.returns-clause-ends
returns-clause-ends c = λ number. ap (λ v. end_in number v.files) c.change.ensures ∙ ends-kept c.args.file.0 number (with_pins (c.pins_of-pins.result - 1)) c.args.self.now.files (λ f. refl) (λ f. refl)
