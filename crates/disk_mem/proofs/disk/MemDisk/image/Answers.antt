use Rattle.std.proofs.Common.{◌≡◌, List, take, ◌∙◌, ap, subst}
use Rattle.disk_model.specs.declared.name.FileName.{FileName}
use Rattle.disk_mem.specs.declared.file.File.{File}
use Rattle.disk_mem.specs.declared.note.Note.{Note}
use Rattle.disk_mem.specs.Left.{noted, IsLeft, shown_of}
use Rattle.disk_mem.specs.Record.{found}
use Rattle.disk_mem.proofs.FollowingLemmas.{if_ok}
use Rattle.disk_mem.proofs.CopyLemmas.{image_is}
use Rattle.disk_mem.proofs.disk.MemDisk.image.Goals as goal

pub returns-clause-image : goal.returns-clause-image
returns-clause-image c =
    let self = c.args.self.now in
    let made = c.in_ok-left.left.items in
    let count : c.noted_by-count.result ≡ noted c.args.calls self.notes.items = c.noted_by-count.ensures.count ∙ ap (noted c.args.calls) c.deref.ensures.value in
    let notes : take c.noted_by-count.result c.deref-3.result.now ≡ take (noted c.args.calls self.notes.items) self.notes.items =
    ap (take c.noted_by-count.result) c.deref-3.ensures.value ∙ ap (λ n. take n self.notes.items) count in
    let F : List File → Type 0 = λ base. (name : FileName) → IsLeft c.args.choice base (take c.noted_by-count.result c.deref-3.result.now) name (shown_of (found made name)) in
    let G : List Note → Type 0 = λ notes. (name : FileName) → IsLeft c.args.choice self.base.items notes name (shown_of (found made name)) in
    let left = subst G notes (subst F c.deref-2.ensures.value c.in_ok-left.ensures) in
    if_ok c.resting.result _ _ (λ disk told. image_is self disk c.args.calls c.args.choice made c.requires left told) c.resting.ensures.told
