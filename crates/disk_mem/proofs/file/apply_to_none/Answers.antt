use Rattle.std.proofs.Common.{◌≡◌, true, List, refl, sym, subst}
use Rattle.disk_model.specs.Disk.{FileState}
use Rattle.disk_model.proofs.NameLemmas.{same_name-refl}
use Rattle.disk_mem.specs.declared.file.File.{File}
use Rattle.disk_mem.specs.declared.note.Change.{Change}
use Rattle.disk_mem.specs.Record.{ReadsAs, ReadsAll, changed, at_file, stepped}
use Rattle.disk_mem.proofs.StepLemmas.{reads-push, reads-none, at_file-own, at_file-other}
use Rattle.disk_mem.proofs.file.apply_to_none.Goals as goal

pub returns-in_ok-push-clause-ok : goal.returns-in_ok-push-clause-ok
returns-in_ok-push-clause-ok c = λ disk reads.
    let note = c.args.note.now in
    let file : File = record { name = note.name; is_there = true; text = c.empty.result } in
    let own : at_file note.name note (disk note.name) ≡ changed note.change (disk note.name) = at_file-own note.name note (disk note.name) (same_name-refl note.name) in
    let here : ReadsAs file (stepped note disk note.name) =
    let F : FileState → Type 0 = ReadsAs file in
    let G : Change → Type 0 = λ change. ReadsAs file (changed change (disk note.name)) in
    subst F (sym own) (subst G (sym c.in-Made.is) (refl, λ there. sym c.empty.ensures)) in
    let F : List File → Type 0 = λ files. ReadsAll files (stepped note disk) in
    subst F (sym c.in_ok-push.ensures.items)
    (reads-push c.args.files.now.items note.name file disk (stepped note disk) c.requires.not_there refl here
    (λ other apart. at_file-other other note (disk other) c.requires.not_for_all apart) reads)

pub returns-in_default : goal.returns-in_default
returns-in_default c = record {
  ok = λ disk reads. reads-none c.args.files.now.items c.args.note.now disk c.requires.not_there c.requires.not_for_all c.in_default.not-Made reads;
  err = tt;
}
