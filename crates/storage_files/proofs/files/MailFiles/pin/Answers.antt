use Rattle.std.proofs.Common.{◌+◌, refl, ap, ◌∙◌}
use Rattle.std.specs.Prelude.{is_some}
use Rattle.storage_files.specs.Files.{IsUsedFile, end_in, with_pins}
use Rattle.storage_files.proofs.FileListLemmas.{ends-kept}
use Rattle.storage_files.proofs.UseLemmas.{of-found, found-ending, use_pins}
use Rattle.storage_files.proofs.files.MailFiles.pin.Goals as goal

pub change-requires : goal.change-requires
change-requires c =
    let e = found-ending c.args.file.0 c.args.self.now.files c.requires.there.0 c.requires.there.1 in
    of-found c.args.file.0 _ e.0 (λ f. IsUsedFile f → IsUsedFile (with_pins (c.pins_of-pins.result + 1) f)) c.known_facts.ensures.rising e.1 (use_pins e.0 (c.pins_of-pins.result + 1) (λ some. ap is_some e.2))

pub returns-clause-ends : goal.returns-clause-ends
returns-clause-ends c = λ number. ap (λ v. end_in number v.files) c.change.ensures ∙ ends-kept c.args.file.0 number (with_pins (c.pins_of-pins.result + 1)) c.args.self.now.files (λ f. refl) (λ f. refl)
