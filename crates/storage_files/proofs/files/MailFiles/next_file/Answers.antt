use Rattle.std.proofs.Common.{◌∙◌}
use Rattle.storage_files.proofs.SearchLemmas.{next-is}
use Rattle.storage_files.proofs.files.MailFiles.next_file.Goals as goal

pub returns : goal.returns
returns c =
    let items = c.self.inside.files.items in
    let found = rw c.deref.ensures.value at c.first_made.ensures in
    rw (← c.self.view_is) (found ∙ next-is items c.args.after c.place_past.result (rw c.deref-2.ensures.value at c.place_past.ensures.before) (rw c.deref-2.ensures.value at c.place_past.ensures.behind))
