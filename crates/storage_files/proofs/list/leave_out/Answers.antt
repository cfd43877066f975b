use Rattle.std.proofs.Common.{refl, sym, ◌∙◌}
use Rattle.storage_files.proofs.FileListLemmas.{without-at, without-none}
use Rattle.storage_files.proofs.list.leave_out.Goals as goal

pub returns-in-Some-clause-items : goal.returns-in-Some-clause-items
returns-in-Some-clause-items c =
    let s = rw c.deref.ensures.value at c.in-Some.ensures.some in
    c.remove.ensures.items ∙ without-at c.args.files.now.items c.args.file.0 c.in-Some.at s.0 c.requires.rising s.1 s.2

pub returns-in_default-clause-items : goal.returns-in_default-clause-items
returns-in_default-clause-items c =
    sym (without-none c.args.file.0 c.args.files.now.items (rw c.deref.ensures.value at (c.in_default.ensures.none refl)))
