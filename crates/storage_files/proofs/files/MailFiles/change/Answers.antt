use Rattle.std.proofs.Common.{◌≡◌, All, sym, subst, ◌∙◌}
use Rattle.storage_files.specs.Files.{change_of, IsUsedFile}
use Rattle.storage_files.proofs.OrderLemmas.{order-changed, written-changed}
use Rattle.storage_files.proofs.FileListLemmas.{numbers-kept}
use Rattle.storage_files.proofs.files.MailFiles.change.Goals as goal

pub invariant_of-self : goal.invariant_of-self
invariant_of-self c =
    let items = c.self.inside.files.items in
    let written = written-changed items c.deref_mut.result.now c.change.new.files c.self.inside.files.len c.args.file.0 (change_of c.args.how) (c.change.auto.files ∙ c.deref_mut.ensures.len) c.deref_mut.ensures.value c.change.ensures in
    (rw written (order-changed items c.self.inside.highest c.self.inside.spare c.args.file.0 (change_of c.args.how) (numbers-kept c.args.how) (subst (λ v. All (λ f. f.file.0 ≡ c.args.file.0 → IsUsedFile f → IsUsedFile (change_of c.args.how f)) v.files) (sym c.self.view_is) c.requires) c.self.invariant.0), c.self.invariant.1)
