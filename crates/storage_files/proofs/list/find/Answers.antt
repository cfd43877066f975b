use Rattle.std.proofs.Common.{Some, refl, sym, ◌∙◌, ap}
use Rattle.storage_files.proofs.SearchLemmas.{got}
use Rattle.storage_files.proofs.FileListLemmas.{file-none, file-found}
use Rattle.storage_files.proofs.list.find.Goals as goal

pub returns-in-Some : goal.returns-in-Some
returns-in-Some c =
    let s = c.in-Some.ensures.some in
    ap Some (got c.args.files.now c.in-Some.at s.0 _ s.1) ∙ sym (file-found c.args.files.now c.args.file.0 c.in-Some.at s.0 c.requires.rising s.1 s.2)

pub returns-in-None : goal.returns-in-None
returns-in-None c = sym (file-none c.args.file.0 c.args.files.now (c.in-None.ensures.none refl))
