use Rattle.std.proofs.Common.{◌-◌, ◌^◌, min, ap, sym, ◌∙◌}
use Rattle.disk_mem.proofs.CallCountLemmas.{told-calls}
use Rattle.disk_mem.proofs.disk.MemDisk.calls.Goals as goal

pub returns : goal.returns
returns c = (rw c.deref.ensures.value at c.run_by.ensures) ∙ ap (λ n. min n (2 ^ 64 - 1)) (sym (told-calls c.args.self.now.base.items c.args.self.now.notes.items c.args.self.now.idle))
