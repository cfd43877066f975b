use Rattle.std.proofs.Common.{◌≡◌, drop, [], arith}
use Rattle.std.proofs.lemmas.List.{drop_all}
use Rattle.disk_mem.proofs.image.run_by.Goals as goal

pub returns : goal.returns
returns c =
    let none : drop c.loop-note.note-index c.args.notes.now ≡ [] = drop_all c.loop-note.note-index c.args.notes.now (omega arith) in
    let all = rw none at c.loop-note.invariant.all in
    omega (arith, all, c.loop-note.invariant.fits)
