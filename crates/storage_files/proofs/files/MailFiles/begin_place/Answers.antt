use Rattle.std.proofs.Common.{refl, sym, ap, ◌∙◌}
use Rattle.storage_files.specs.Files.{IsUsedFile, end_in, place_begun_in, is_taken_in, placing_begun}
use Rattle.storage_files.proofs.FileListLemmas.{ends-kept, takers-kept}
use Rattle.storage_files.proofs.UseLemmas.{of-found, found-taken, use_begun, begun_here}
use Rattle.storage_files.proofs.files.MailFiles.begin_place.Goals as goal

pub change-requires : goal.change-requires
change-requires c =
    let f = found-taken c.args.file.0 c.args.self.now.files c.requires.taken in
    of-found c.args.file.0 _ f.0 (λ f. IsUsedFile f → IsUsedFile (placing_begun f)) c.known_facts.ensures.rising f.1 (use_begun f.0 f.2)

pub returns-clause-begun : goal.returns-clause-begun
returns-clause-begun c = ap (λ v. place_begun_in c.args.file.0 v.files) c.change.ensures ∙ begun_here c.args.file.0 c.args.self.now.files c.unwrap-end.result (sym (sym c.unwrap-end.ensures ∙ c.end_of.ensures))

pub returns-clause-taken : goal.returns-clause-taken
returns-clause-taken c = λ number. ap (λ v. is_taken_in number v.files) c.change.ensures ∙ takers-kept c.args.file.0 number placing_begun c.args.self.now.files (λ f. refl) (λ f. refl)

pub returns-clause-ends : goal.returns-clause-ends
returns-clause-ends c = λ number. ap (λ v. end_in number v.files) c.change.ensures ∙ ends-kept c.args.file.0 number placing_begun c.args.self.now.files (λ f. refl) (λ f. refl)
