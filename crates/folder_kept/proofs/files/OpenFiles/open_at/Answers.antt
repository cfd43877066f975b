use Rattle.std.proofs.Common.{rules, true, arith, ◌≡◌, ◌<◌, length, get_or, Option, IfSome, string_bytes, subst, sym, ◌∙◌}
use Rattle.std.proofs.lemmas.Bool.{false≢true}
use Rattle.std.specs.List.{HoldsAt}
use Rattle.std.specs.Arc.{arc_value}
use Rattle.folder_kept.proofs.OpenLemmas.{kept_there, open_for_there}
use Rattle.folder_kept.proofs.files.OpenFiles.open_at.Goals.{else-to_write-via-then-to_write+else-not-found, else-to_write-via-else-to_write}
use Rattle.folder_kept.proofs.files.OpenFiles.open_at.Goals as goal

pub returns-clause-found : goal.returns-clause-found
returns-clause-found g c =
    let files = c.args.self.now.files.items in
    let path = c.args.path.now in
    let F : Option _ → Type 0 = λ r. IfSome r (λ at. (at < length files) × HoldsAt (λ file. string_bytes file.path ≡ path) files at) in
    let is = subst F c.in-Some.is c.place.ensures.some in
    let again = c.in_ok-again.ensures.0 in
    let found = c.index-found.ensures in
    let here : c.index-found.result.now ≡ get_or files c.in-Some.at c.index-found.result.now = cc in
    let same : arc_value c.in_ok-again.field-0.file ≡ arc_value c.index-found.result.now.file = cc in
    kept_there path files c.in-Some.at c.index-found.result.now (arc_value c.in_ok-again.field-0.file) is here same

pub returns-clause-writable : goal.returns-clause-writable
returns-clause-writable g c =
    let files = c.args.self.now.files.items in
    let path = c.args.path.now in
    let F : Option _ → Type 0 = λ r. IfSome r (λ at. (at < length files) × HoldsAt (λ file. string_bytes file.path ≡ path) files at) in
    let is = subst F c.in-Some.is c.place.ensures.some in
    let again = c.in_ok-again.ensures.0 in
    let found = c.index-found.ensures in
    let here : c.index-found.result.now ≡ get_or files c.in-Some.at c.index-found.result.now = cc in
    let same : arc_value c.in_ok-again.field-0.file ≡ arc_value c.index-found.result.now.file = cc in
    let id : c.in_ok-again.field-0.id ≡ c.index-found.result.now.id = c.in_ok-again.ensures.1 in
    let writable : c.args.to_write ≡ true → c.index-found.result.now.is_to_write ≡ true = λ e. elim c.else-to_write.branch [
      | else-to_write-via-then-to_write+else-not-found w ↦ first_of (search rules, grind arith, cc)
      | else-to_write-via-else-to_write w ↦ absurd (false≢true (sym w.if-to_write.false ∙ e))
    ] in
    open_for_there path c.args.to_write files c.in-Some.at c.index-found.result.now c.in_ok-again.field-0 is here same id writable
