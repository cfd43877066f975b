use Rattle.std.proofs.Common.{◌≡◌, ◌<◌, length, Option, IfSome, string_bytes, subst}
use Rattle.std.specs.List.{HoldsAt}
use Rattle.folder_kept.proofs.OpenLemmas.{open_there}
use Rattle.folder_kept.proofs.files.OpenFiles.has.Goals as goal

pub returns-in-Some-clause-open : goal.returns-in-Some-clause-open
returns-in-Some-clause-open g c e =
    let files = c.args.self.now.files.items in
    let path = c.args.path.now in
    let F : Option _ → Type 0 = λ r. IfSome r (λ at. (at < length files) × HoldsAt (λ file. string_bytes file.path ≡ path) files at) in
    open_there path files _ (subst F c.in-Some.is c.place.ensures.some)
