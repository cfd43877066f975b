use Rattle.std.proofs.Common.{sym, ◌∙◌, subst, take}
use Rattle.disk_model.specs.Disk.{FileState}
use Rattle.disk_model.specs.declared.name.FileName.{FileName}
use Rattle.disk_mem.specs.Record.{HoldsAs, found, at_rest, at_file, file_after}
use Rattle.disk_mem.proofs.FollowingLemmas.{file_after-next}
use Rattle.disk_mem.proofs.image.replayed.Goals as goal

pub loop-note-preserved : goal.loop-note-preserved
loop-note-preserved c =
    let f = at_rest (found c.args.base.now c.args.name) in
    let i = c.loop-note.note-index in
    let is = c.loop-note.invariant in
    let before = file_after c.args.name (take i c.args.notes.now) f in
    let F : FileState → Type 0 = HoldsAs c.follow.new.self in
    let G : FileName → Type 0 = λ name. HoldsAs c.follow.new.self (at_file name c.note-item.result before) in (
      c.follow.ensures.name ∙ is.0,
      subst F (sym (file_after-next c.args.name c.args.notes.now i c.note-item.result f c.loop-note-test.true c.note-item.is))
          (subst G is.0 (c.in_ok-follow.ensures.shows before is.1)),
    )
