use Rattle.std.proofs.Common.{◌≡◌, Some, Option, slice_get, refl, sym, ◌∙◌, subst}
use Rattle.std.proofs.lemmas.Option.{slice_get_read}
use Rattle.disk_mem.specs.declared.file.File.{File}
use Rattle.disk_mem.specs.Record.{HoldsAs, found, at_rest}
use Rattle.disk_mem.proofs.FileLemmas.{found-here}
use Rattle.disk_mem.proofs.StepLemmas.{slice_get-lt}
use Rattle.disk_mem.proofs.FollowingLemmas.{if_ok}
use Rattle.disk_mem.proofs.image.first.Goals as goal

pub returns-in-Some-clause-shows : goal.returns-in-Some-clause-shows
returns-in-Some-clause-shows c =
    let base = c.args.base.now in
    let place = c.in-Some.ensures.some in
    let at : slice_get base c.in-Some.i ≡ Some c.index-base-i.result =
    slice_get_read base _ c.in-Some.i _ refl (slice_get-lt base c.in-Some.i place.file place.at) c.index-base-i.is in
    let own : found base c.args.name ≡ Some c.index-base-i.result =
    found-here base c.args.name c.in-Some.i place.file place.at place.named place.first ∙ sym place.at ∙ at in
    if_ok c.at_rest.result _ _
    (λ file shows. let F : Option File → Type 0 = λ o. HoldsAs file (at_rest o) in subst F (sym own) shows)
    c.at_rest.ensures.shows
