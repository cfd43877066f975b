use Rattle.std.proofs.Common.{refl, ◌+◌}
use Rattle.storage_files.proofs.FileListLemmas.{ends-begun}
use Rattle.storage_files.proofs.GivenLemmas.{given-new}
use Rattle.storage_files.proofs.files.MailFiles.take_new.Goals as goal

pub returns-clause-ends : goal.returns-clause-ends
returns-clause-ends c = λ number. rw c.begin.ensures (ends-begun number (record { 0 = c.self.inside.highest + 1 }) c.args.self.now.files)

pub returns-clause-given : goal.returns-clause-given
returns-clause-given c = rw c.begin.ensures (rw (← c.self.view_is) (given-new (record { 0 = c.self.inside.highest + 1 }) c.self.inside.highest c.self.inside.files.items c.self.invariant.0.below refl))
