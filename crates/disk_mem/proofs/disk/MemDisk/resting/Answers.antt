use Rattle.std.proofs.Common.{refl, ap, subst, List, ◌∙◌}
use Rattle.disk_model.specs.declared.name.FileName.{FileName}
use Rattle.disk_mem.specs.declared.file.File.{File}
use Rattle.disk_mem.specs.Record.{told_of, found}
use Rattle.disk_mem.specs.Left.{IsCopy}
use Rattle.disk_mem.proofs.CopyLemmas.{rests_read}
use Rattle.disk_mem.proofs.HistoryLemmas.{told-begun}
use Rattle.disk_mem.proofs.disk.MemDisk.resting.Goals as goal

pub invariant_of-result : goal.invariant_of-result
invariant_of-result c =
    let F : List File → Type 0 = λ base. (name : FileName) → IsCopy (found base name) (found c.in_ok-files.files.items name) in
    record {
      agrees = rests_read c.args.base.items c.in_ok-files.files.items c.new.result.items c.new.ensures.items
          (subst F c.deref.ensures.value c.in_ok-files.ensures);
      counts = λ unlisted. (refl, refl, c.empty.ensures, c.empty-2.ensures);
    }

pub returns-clause-told : goal.returns-clause-told
returns-clause-told c = ap (λ notes. told_of c.args.base.items notes 0) c.new.ensures.items ∙ told-begun c.args.base.items
