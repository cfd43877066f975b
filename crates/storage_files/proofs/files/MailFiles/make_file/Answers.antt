use Rattle.std.proofs.Common.{length, refl}
use Rattle.disk_model.specs.declared.name.FileName.TheVariants.{Mail}
use Rattle.storage_files.specs.Files.{IsUsedFile, ending_at}
use Rattle.storage_files.proofs.FileListLemmas.{takers-kept}
use Rattle.storage_files.proofs.UseLemmas.{of-found, found-taken, use_ending, no_end}
use Rattle.storage_files.proofs.KnownLemmas.{taken-there, named-reads, kept-length, known-ending}
use Rattle.storage_files.proofs.files.MailFiles.make_file.Goals as goal

pub change-requires : goal.change-requires
change-requires g c =
    let f = found-taken c.args.file.0 c.args.self.now.files c.requires.taken in
    of-found c.args.file.0 _ f.0 (λ f. IsUsedFile f → IsUsedFile (ending_at (length c.args.header.now) f)) c.known_facts.ensures.rising f.1
    (use_ending f.0 (length c.args.header.now) (λ old is. absurd (no_end c.args.file.0 c.args.self.now.files f.0 f.1 c.requires.absent old is)))

pub returns-clause-still_known : goal.returns-clause-still_known
returns-clause-still_known g c = λ number known.
    let there = taken-there c.args.self.now.files c.args.file.0 c.requires.taken in
    rw c.change.ensures (known-ending c.args.file.0 (length c.args.header.now) c.args.self.now.files there.0 _ _ there.1 (named-reads c.args.file.0 _ _ c.in_ok-make_with.ensures.others)
    (kept-length (Mail c.args.file.0) c.args.header.now _ c.in_ok-make_with.ensures.made) number known)

pub returns-clause-taken : goal.returns-clause-taken
returns-clause-taken g c = λ number. rw c.change.ensures (takers-kept c.args.file.0 number (ending_at (length c.args.header.now)) c.args.self.now.files (λ f. refl) (λ f. refl))
