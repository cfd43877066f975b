use Rattle.std.proofs.Common.{◌∙◌, ap, Result, Ok, Err, OnErr}
use Rattle.disk_model.specs.Disk.{cut_to}
use Rattle.folder_model.specs.System.{with_content}
use Rattle.folder_model.specs.Calls.{done_by}
use Rattle.folder_model.proofs.WriteLemmas.{cut-part}
use Rattle.folder_mem.specs.Mem.{mem_model}
use Rattle.folder_mem.proofs.calls.MemFolderFolder.set_length.Goals as goal

on_err : {T E : Type 0} (r : Result T E) {P : Type 0} → P → OnErr r P
on_err (Ok x) p = tt
on_err (Err e) p = p

pub returns-clause-failed : goal.returns-clause-failed
returns-clause-failed c =
    let number = c.args.file.now.number in
    let so = c.in_ok-note.ensures.ok ∙ ap (done_by (with_content number (cut_to c.args.end))) c.begin.ensures.model in
    on_err c.finished.result (cut-part number c.args.end (mem_model c.args.self.now) (mem_model c.note.new.self) so)
