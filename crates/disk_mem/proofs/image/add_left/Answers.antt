use Rattle.std.proofs.Common.{◌≡◌, List, None, refl, sym, ap, ◌∙◌, subst}
use Rattle.disk_mem.specs.declared.file.File.{File}
use Rattle.disk_mem.specs.Record.{found}
use Rattle.disk_mem.specs.Left.{AreLeft, IsOneMore}
use Rattle.disk_mem.proofs.CopyLemmas.{left_push, added_push, added_there}
use Rattle.disk_mem.proofs.image.add_left.Goals as goal

pub returns-in-Some-clause-added : goal.returns-in-Some-clause-added
returns-in-Some-clause-added c =
    let F : List File → Type 0 = λ files. IsOneMore c.args.name files files in
    subst F c.deref.ensures.value (added_there c.deref.result.now c.args.name c.in-Some.field-0 c.in-Some.ensures.some)

pub returns-clause-left : goal.returns-clause-left
returns-clause-left c =
    let F : List File → Type 0 = AreLeft c.args.choice c.args.base.now c.args.notes.now in
    subst F (sym c.in_ok-push.ensures.items)
    (left_push c.args.choice c.args.base.now c.args.notes.now c.args.made.now.items c.args.name c.in_ok-file.file c.requires c.in_ok-file.ensures.name c.in_ok-file.ensures.left)

pub returns-clause-added : goal.returns-clause-added
returns-clause-added c =
    let F : List File → Type 0 = IsOneMore c.args.name c.args.made.now.items in
    let none : found c.args.made.now.items c.args.name ≡ None = ap (λ files. found files c.args.name) (sym c.deref.ensures.value) ∙ c.in-None.ensures.none refl in
    subst F (sym c.in_ok-push.ensures.items) (added_push c.args.made.now.items c.args.name c.in_ok-file.file none c.in_ok-file.ensures.name)
