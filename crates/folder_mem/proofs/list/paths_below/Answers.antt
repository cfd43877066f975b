use Rattle.std.proofs.Common.{◌≡◌, ℕ, ◌<◌, slice_get, Some, arith, length, get_or, inl, inr, subst}
use Rattle.std.proofs.lemmas.Bool.{cases_lt}
use Rattle.std.proofs.lemmas.Option.{slice_get-get_or}
use Rattle.folder_mem.specs.declared.note.Change.{Change}
use Rattle.folder_mem.specs.Listing.{path_made}
use Rattle.folder_mem.proofs.ListLemmas.{stands_made}
use Rattle.folder_mem.proofs.list.paths_below.Goals as goal

pub loop-change-preserved : goal.loop-change-preserved
loop-change-preserved c =
    let changes = c.args.changes.now in
    let i = c.loop-change.change-index in
    let item = c.change-item.result in
    let inv = c.loop-change.invariant in
    let here : slice_get changes i ≡ Some (get_or changes i item) = slice_get-get_or changes i item c.loop-change-test.true in (
      c.in_ok-add_made.ensures.stand inv.0,
      λ k change path below at made stands. elim (cases_lt k i) [
        | inl early ↦ c.in_ok-add_made.ensures.kept path (inv.1 k change path early at made stands)
        | inr late ↦
            let same : k ≡ i = omega (arith, below, late) in
            let F : ℕ → Type 0 = λ n. slice_get changes n ≡ Some change in
            let there : slice_get changes i ≡ Some change = subst F same at in
            let read : item ≡ get_or changes i item = c.change-item.is in
            let is : change ≡ item = cc in
            let G : Change → Type 0 = λ it. path_made it ≡ Some path in
            c.in_ok-add_made.ensures.added path (subst G is made) stands
      ],
    )

pub returns : goal.returns
returns c =
    let inv = c.loop-change.invariant in
    record {
      stand = λ path has. inl (inv.0 path has);
      all = λ path stands text.
          let made = stands_made c.args.changes.now c.args.folder.now path stands in
          let below : made.0 < length c.args.changes.now = made.2 in
          inv.1 made.0 made.1 path (omega (arith, below, c.loop-change-test.false, c.loop-change.auto)) made.3 made.4 stands;
    }
