use Rattle.std.proofs.Common.{List, subst, sym, ◌∙◌}
use Rattle.folder_kept.specs.Open.{AreMore, IsOpenAs, IsOpenFor}
use Rattle.folder_kept.proofs.OpenLemmas.{more_among, more_pushed, pushed_as, pushed_for}
use Rattle.folder_kept.proofs.files.OpenFiles.keep.Goals as goal

pub returns-in_err-add-clause-more : goal.returns-in_err-add-clause-more
returns-in_err-add-clause-more g c =
    let files = c.args.self.now.files.items in
    let P : List _ → Type 0 = λ l. AreMore c.args.path.now c.args.file files l in
    subst P (sym c.in_err-add.ensures.err) (more_among c.args.path.now c.args.file files c.make_place.new.self.files.items c.make_place.ensures.same)

pub returns-clause-open : goal.returns-clause-open
returns-clause-open g c =
    let P : List _ → Type 0 = λ l. IsOpenAs c.in_ok-kept.kept.id c.args.is_synced l in
    subst P (sym c.in_ok-add.ensures.ok) (pushed_as c.make_place.new.self.files.items c.in_ok-opened.opened c.in_ok-kept.kept.id c.args.is_synced c.in_ok-opened.ensures.marks.0 c.in_ok-opened.ensures.marks.1)

pub returns-clause-more : goal.returns-clause-more
returns-clause-more g c =
    let files = c.args.self.now.files.items in
    let P : List _ → Type 0 = λ l. AreMore c.args.path.now c.args.file files l in
    subst P (sym c.in_ok-add.ensures.ok)
    (more_pushed c.args.path.now c.args.file files c.make_place.new.self.files.items c.in_ok-opened.opened c.make_place.ensures.same c.in_ok-opened.ensures.path (c.in_ok-opened.ensures.file ∙ c.in_ok-kept.ensures.0))

pub returns-clause-writable : goal.returns-clause-writable
returns-clause-writable g c =
    let P : List _ → Type 0 = λ l. IsOpenFor c.args.path.now c.args.is_to_write c.in_ok-kept.kept l in
    let opened = c.in_ok-opened.ensures in
    subst P (sym c.in_ok-add.ensures.ok) (pushed_for c.args.path.now c.args.is_to_write c.in_ok-kept.kept c.make_place.new.self.files.items c.in_ok-opened.opened opened.path opened.file opened.marks.0 opened.writable)
