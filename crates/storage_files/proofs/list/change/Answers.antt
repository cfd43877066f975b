use Rattle.std.proofs.Common.{refl, sym}
use Rattle.storage_files.specs.Files.{change_of}
use Rattle.storage_files.proofs.FileListLemmas.{changed-set, changed-none}
use Rattle.storage_files.proofs.list.change.Goals as goal

pub returns-in-Some : goal.returns-in-Some
returns-in-Some c =
    let s = c.in-Some.ensures.some in
    rw c.of.ensures (changed-set c.args.files.now c.args.file.0 c.in-Some.at (change_of c.args.how) s.0 _ c.requires.rising s.1 s.2)

pub returns-in_default : goal.returns-in_default
returns-in_default c = sym (changed-none c.args.file.0 (change_of c.args.how) c.args.files.now (c.in_default.ensures.none refl))
