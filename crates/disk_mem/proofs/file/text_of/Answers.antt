use Rattle.std.proofs.Common.{◌≡◌, Some, slice_get, refl, ◌∙◌, sym}
use Rattle.std.proofs.lemmas.Option.{slice_get_read}
use Rattle.disk_mem.proofs.StepLemmas.{slice_get-lt}
use Rattle.disk_mem.proofs.ReadingLemmas.{if_some, read_at_place, reading-there, reading-gone}
use Rattle.disk_mem.proofs.file.text_of.Goals as goal

pub returns-in-Some-clause-some : goal.returns-in-Some-clause-some
returns-in-Some-clause-some c =
    let files = c.args.files.now in
    let place = c.in-Some.ensures.some in
    let at : slice_get files c.in-Some.i ≡ Some c.index-files-i.result =
    slice_get_read files _ c.in-Some.i _ refl (slice_get-lt files c.in-Some.i place.file place.at) c.index-files-i.is in
    if_some c.shown_text.result _ _
    (λ text shown disk reads.
    let own = read_at_place files c.args.name c.in-Some.i c.index-files-i.result place at disk reads in
    let there = own.0 ∙ shown.0 in
    reading-there (disk c.args.name) _ there (own.1 there ∙ sym shown.1))
    c.shown_text.ensures.some

pub returns-in-Some-clause-none : goal.returns-in-Some-clause-none
returns-in-Some-clause-none c = λ none disk reads.
    let files = c.args.files.now in
    let place = c.in-Some.ensures.some in
    let at : slice_get files c.in-Some.i ≡ Some c.index-files-i.result =
    slice_get_read files _ c.in-Some.i _ refl (slice_get-lt files c.in-Some.i place.file place.at) c.index-files-i.is in
    let own = read_at_place files c.args.name c.in-Some.i c.index-files-i.result place at disk reads in
    reading-gone (disk c.args.name) (own.0 ∙ c.shown_text.ensures.none none)
