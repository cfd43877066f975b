use Rattle.std.proofs.Common.{◌<◌, length, arith}
use Rattle.disk_mem.proofs.CopyLemmas.{left_none}
use Rattle.disk_mem.proofs.StepLemmas.{slice_get-lt}
use Rattle.disk_mem.proofs.image.left_files.Goals as goal

pub returns : goal.returns
returns c = λ name.
    let is = c.loop-note.invariant in
    left_none c.args.choice c.args.base.now c.args.notes.now c.loop-note.made.items name is.0 is.1
    (λ k note at. is.2 k note (let below : k < length c.args.notes.now = slice_get-lt c.args.notes.now k note at in omega arith) at)
