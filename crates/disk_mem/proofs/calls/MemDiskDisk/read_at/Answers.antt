use Rattle.std.proofs.Common.{◌≡◌, Some, List, take, drop, length, sym, ◌∙◌, ap, subst}
use Rattle.disk_model.specs.Disk.{reading, DiskState}
use Rattle.disk_mem.specs.declared.file.File.{File}
use Rattle.disk_mem.specs.Mem.{told}
use Rattle.disk_mem.specs.Record.{ReadsAll}
use Rattle.disk_mem.proofs.ReadingLemmas.{reading_octets}
use Rattle.disk_mem.proofs.calls.MemDiskDisk.read_at.Goals as goal

pub returns-in-Some-clause-octets : goal.returns-in-Some-clause-octets
returns-in-Some-clause-octets c =
    let now = (told c.args.self.now).now in
    let files : ReadsAll c.deref.result.now now =
    let F : List File → Type 0 = λ files. ReadsAll files now in
    let G : DiskState → Type 0 = λ disk. ReadsAll c.read_fails.new.self.files.items disk in
    subst F (sym c.deref.ensures.value) (subst G c.read_fails.ensures.now c.read_fails.new.self.agrees) in
    let is : reading (now c.args.name) ≡ Some c.in-Some.text.now.octets.items = c.in-Some.ensures.some now files in
    let octets = reading_octets (now c.args.name) c.in-Some.text.now.octets.items is in
    (is ∙ ap Some (sym octets), c.read.ensures.octets ∙ ap (λ octets. take (length c.args.into.now) (drop c.args.offset octets)) (sym octets))
