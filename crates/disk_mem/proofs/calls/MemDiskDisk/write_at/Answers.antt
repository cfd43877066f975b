use Rattle.std.proofs.Common.{◌≡◌, ◌<◌, ◌≤◌, ◌^◌, length, Some, None, Option, ap, arith}
use Rattle.disk_mem.specs.declared.file.File.{File}
use Rattle.disk_mem.specs.Record.{found, octets_of}
use Rattle.disk_mem.proofs.FailingLemmas.{on_ok_all}
use Rattle.disk_mem.proofs.calls.MemDiskDisk.write_at.Goals as goal

short : (file : Option File) → length (octets_of file) < 2 ^ 63
short None = omega arith
short (Some file) =
    let text = file.text.octets in
    let a : text.len ≡ length text.items = text.ok.0 in
    let b : text.len ≤ text.cap = text.ok.1 in
    let c : text.cap < 2 ^ 63 = text.small in
    omega (arith, a, b, c)

pub returns-clause-fits : goal.returns-clause-fits
returns-clause-fits c =
    let self = c.args.self.now in
    let own = self.agrees c.args.name in
    let held = ap length (own.1 c.requires.0) in
    let least : length (octets_of (found self.files.items c.args.name)) < 2 ^ 63 = short (found self.files.items c.args.name) in
    on_ok_all c.attempt_write.result (omega (arith, held, least, c.requires.1))
