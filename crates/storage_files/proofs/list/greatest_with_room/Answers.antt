use Rattle.std.proofs.Common.{◌≤◌, All, sym, ap, subst}
use Rattle.mdbox_base.specs.declared.ids.FileNo.{FileNo}
use Rattle.storage_files.specs.declared.file.MailFile.{MailFile}
use Rattle.storage_files.specs.Files.{MayBeTakenFor}
use Rattle.storage_files.proofs.SearchLemmas.{got, greatest, contained, within}
use Rattle.storage_files.proofs.list.greatest_with_room.Goals as goal

pub returns-in-Some-clause-some : goal.returns-in-Some-clause-some
returns-in-Some-clause-some c =
    let files = c.args.files.now in
    let s = c.in-Some.ensures.some in
    let w = within files c.in-Some.at s.0 s.1 in
    let most = greatest (MayBeTakenFor c.args.size) files c.in-Some.at s.0 c.requires.rising w s.1 c.in-Some.ensures.last in
    let same = sym (ap (λ (g : MailFile). g.file) (got files c.in-Some.at s.0 _ s.1)) in
    (s.0, contained files c.in-Some.at s.0 w s.1, same, s.2, subst (λ (n : FileNo). All (λ g. MayBeTakenFor c.args.size g → g.file.0 ≤ n.0) files) same most)
