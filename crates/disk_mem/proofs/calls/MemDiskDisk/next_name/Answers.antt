use Rattle.std.proofs.Common.{List, sym, subst}
use Rattle.disk_model.specs.Disk.{DiskState}
use Rattle.disk_mem.specs.declared.file.File.{File}
use Rattle.disk_mem.specs.Mem.{told}
use Rattle.disk_mem.specs.Record.{ReadsAll}
use Rattle.disk_mem.proofs.calls.MemDiskDisk.next_name.Goals as goal

pub returns-clause-past : goal.returns-clause-past
returns-clause-past c =
    let F : List File → Type 0 = λ files. ReadsAll files (told c.read_fails.new.self).now in
    (c.least_past.ensures (told c.read_fails.new.self).now (subst F (sym c.deref.ensures.value) c.read_fails.new.self.agrees)).0

pub returns-clause-next : goal.returns-clause-next
returns-clause-next c =
    let F : List File → Type 0 = λ files. ReadsAll files (told c.args.self.now).now in
    let G : DiskState → Type 0 = λ disk. ReadsAll c.read_fails.new.self.files.items disk in
    (c.least_past.ensures (told c.args.self.now).now (subst F (sym c.deref.ensures.value) (subst G c.read_fails.ensures.now c.read_fails.new.self.agrees))).1
