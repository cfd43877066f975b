use Rattle.std.proofs.Common.{true, refl, ap, ◌∙◌, ◌+◌}
use Rattle.storage_files.specs.Files.{with_taken, end_in}
use Rattle.storage_files.proofs.FileListLemmas.{ends-kept, ends-begun}
use Rattle.mdbox_base.specs.declared.ids.FileNo.{FileNo}
use Rattle.storage_files.proofs.GivenLemmas.{given-known, given-new}
use Rattle.storage_files.proofs.UseLemmas.{of-contained}
use Rattle.storage_files.proofs.files.MailFiles.take_for.Goals as goal

pub change-requires : goal.change-requires
change-requires c =
    let s = rw c.deref.ensures.value at c.in-Some.ensures.some in
    rw (← c.self.view_is) (of-contained c.args.size c.in-Some.file c.self.inside.files.items s.0 c.self.invariant.0.rising s.1 s.2 s.3)

pub returns-in-Some-clause-ends : goal.returns-in-Some-clause-ends
returns-in-Some-clause-ends c = λ number. ap (λ v. end_in number v.files) c.change.ensures ∙ ends-kept c.in-Some.file.0 number (with_taken true) c.args.self.now.files (λ f. refl) (λ f. refl)

pub returns-clause-ends : goal.returns-clause-ends
returns-clause-ends c = λ number. rw c.begin.ensures (ends-begun number (record { 0 = c.self.inside.highest + 1 }) c.args.self.now.files)

pub returns-in-Some-clause-given : goal.returns-in-Some-clause-given
returns-in-Some-clause-given c =
    let s = rw c.deref.ensures.value at c.in-Some.ensures.some in
    rw c.change.ensures (rw (← c.self.view_is) (given-known c.args.size c.in-Some.file.0 c.self.inside.files.items s.0 c.self.invariant.0.rising s.1 (ap (λ (f : FileNo). f.0) s.2) s.3))

pub returns-clause-given : goal.returns-clause-given
returns-clause-given c =
    rw c.begin.ensures (rw (← c.self.view_is) (given-new (record { 0 = c.self.inside.highest + 1 }) c.self.inside.highest c.self.inside.files.items c.self.invariant.0.below refl))
