use Rattle.std.proofs.Common.{◌≡◌, Some, slice_get, List, sym, ◌∙◌, subst, refl}
use Rattle.std.proofs.lemmas.Option.{slice_get_read}
use Rattle.disk_mem.specs.declared.file.File.{File}
use Rattle.disk_mem.specs.Record.{ReadsAs, IsPlaceOf}
use Rattle.disk_mem.proofs.StepLemmas.{not_for_all, slice_get-lt, on_ok, on_err, reads-stepped, reads-same}
use Rattle.disk_mem.proofs.file.apply_to.Goals as goal

pub returns-in-Some : goal.returns-in-Some
returns-in-Some c =
    let files = c.args.files.now.items in
    let note = c.args.note.now in
    let place : IsPlaceOf files note.name c.in-Some.i =
    let F : List File → Type 0 = λ fs. IsPlaceOf fs note.name c.in-Some.i in subst F c.deref.ensures.value c.in-Some.ensures.some in
    let at : slice_get files c.in-Some.i ≡ Some c.index_mut.result.now =
    slice_get_read files _ c.in-Some.i _ refl (slice_get-lt files c.in-Some.i place.file place.at) c.index_mut.ensures.value in
    let one = not_for_all note.change c.in_default.not-NamesSynced in
    let named : c.apply.new.self.name ≡ note.name =
    c.apply.ensures.name ∙ (let h : Some place.file ≡ Some c.index_mut.result.now = sym place.at ∙ at in
    let e : c.index_mut.result.now ≡ place.file = cc in
    let F : File → Type 0 = λ g. g.name ≡ note.name in
    subst F (sym e) place.named) in
    record {
      ok = on_ok c.apply.result
          (λ step. reads-stepped files note c.in-Some.i c.apply.new.self one place named
          (λ f was here reads.
          let h : Some was ≡ Some c.index_mut.result.now = sym here ∙ at in
          let e : was ≡ c.index_mut.result.now = cc in
          let F : File → Type 0 = λ g. ReadsAs g f in
          step f (subst F e reads)))
          c.apply.ensures.reads;
      err = on_err c.apply.result
          (λ same. reads-same files note.name c.in-Some.i c.index_mut.result.now c.apply.new.self at place same)
          c.apply.ensures.err;
    }
