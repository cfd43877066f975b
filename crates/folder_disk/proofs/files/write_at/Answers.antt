use Rattle.folder_disk.proofs.Common.{List, Option, subst, System, Modelled, IfModelled, AreSince, IsOpenedAt}
use Rattle.folder_calls.specs.Writing.{IsOnItsWay}
use Rattle.folder_disk.proofs.FileLemmas.{on_way_at}
use Rattle.folder_disk.proofs.files.write_at.Goals as goal

pub returns-clause-passed : goal.returns-clause-passed
returns-clause-passed g c =
    let old = g.F.Folder.modelled c.args.folder.now in
    let number = g.F.Folder.number c.in-Some.file in
    let after = g.F.Folder.past c.write_all.new.folder in
    let Q : Option Modelled → Type 0 = λ m. AreSince (IsOnItsWay number c.args.offset c.args.from.now m) (g.F.Folder.past c.open_at.new.folder) after in
    let R : List System → Type 0 = λ past. AreSince (IsOnItsWay number c.args.offset c.args.from.now old) past after in
    on_way_at c.args.path.now number c.args.offset c.args.from.now old (g.F.Folder.past c.args.folder.now) after
    (subst (λ o. IfModelled old (λ s. IsOpenedAt g.F.Folder.number o (s.node c.args.path.now))) c.in-Some.is c.in_ok-file.ensures.found)
    (subst R c.in_ok-file.ensures.still (subst Q c.in_ok-file.ensures.same c.write_all.ensures.passed))
