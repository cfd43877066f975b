use Rattle.std.proofs.Common.{◌++◌, ◌∷◌, [], List, take, refl, sym, ◌∙◌, subst}
use Rattle.disk_mem.specs.declared.file.File.{File}
use Rattle.disk_mem.specs.Record.{found}
use Rattle.disk_mem.proofs.CopyLemmas.{IsCopies, copies_push}
use Rattle.disk_mem.proofs.FollowingLemmas.{take-next}
use Rattle.disk_mem.proofs.image.copy_of.Goals as goal

pub loop-file-preserved : goal.loop-file-preserved
loop-file-preserved c = λ name.
    let file = c.file-item.result in
    let front = take c.loop-file.file-index c.args.files.now in
    let copy : File = record { name = file.name; is_there = file.is_there; text = c.in_ok-text.text } in
    let F : List File → Type 0 = λ files. IsCopies (found files name) (found c.push.new.self.items name) in
    let G : List File → Type 0 = λ copies. IsCopies (found (front ++ file ∷ []) name) (found copies name) in
    subst F (sym (take-next c.args.files.now c.loop-file.file-index file c.loop-file-test.true c.file-item.is))
    (subst G (sym c.in_ok-push.ensures.items)
    (copies_push front c.loop-file.copies.items file copy name (c.loop-file.invariant name)
    (record { name = refl; is_there = refl; octets = c.in_ok-text.ensures ∙ c.deref.ensures.value })))
