use Rattle.storage_files.proofs.KnownLemmas.{same-reads, known-without}
use Rattle.storage_files.proofs.files.MailFiles.remove_file.Goals as goal

pub returns-clause-still_known : goal.returns-clause-still_known
returns-clause-still_known g c = λ number known.
    rw c.forget.ensures (known-without c.args.file.0 c.args.self.now.files _ _ (same-reads c.args.file.0 _ _ c.in_ok-remove.ensures.others) c.in_ok-remove.ensures.gone number known)
