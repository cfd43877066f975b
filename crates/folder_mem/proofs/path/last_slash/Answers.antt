use Rattle.std.proofs.Common.{◌≡◌, ◌≢◌, ◌<◌, ◌+◌, ℕ, Option, Some, None, MatchOption, List, length, take, get_or, sym, ◌∙◌, subst, arith}
use Rattle.std.proofs.lemmas.List.{get_or_default}
use Rattle.folder_model.specs.Paths.{before_slash}
use Rattle.folder_mem.proofs.PathLemmas.{before_slash-here, before_slash-other}
use Rattle.folder_mem.proofs.path.last_slash.Goals as goal
use Rattle.folder_mem.proofs.path.last_slash.Goals.{then-octet-eq47, else-octet-eq47}

abbrev IsLast : List ℕ → ℕ → Option ℕ → Type 0
IsLast path i last = MatchOption last (before_slash (take i path) ≡ None) (λ place. (place < i) × (before_slash (take i path) ≡ Some (take place path)))

-- an octet that is no "/"
other : (path : List ℕ) (i : ℕ) (last : Option ℕ) → i < length path → get_or path i 0 ≢ 47 → IsLast path i last → IsLast path (i + 1) last
other path i None below apart is = before_slash-other path i (get_or path i 0) below (get_or_default path i 0 (get_or path i 0) below) apart ∙ is
other path i (Some place) below apart is = (
  omega (arith, is.0),
  before_slash-other path i (get_or path i 0) below (get_or_default path i 0 (get_or path i 0) below) apart ∙ is.1,
)

pub loop-i-preserved : goal.loop-i-preserved
loop-i-preserved c =
    let path = c.args.path.now in
    let i = c.loop-i.i in
    let F : Option ℕ → Type 0 = IsLast path (i + 1) in
    elim c.if-octet-eq47.branch [
      | then-octet-eq47 w ↦ subst F (sym w.last-is) (
        omega arith,
        before_slash-here path i (get_or path i 0) c.loop-i-test.true (get_or_default path i 0 (get_or path i 0) c.loop-i-test.true) w.if-octet-eq47.true,
      )
      | else-octet-eq47 w ↦ subst F (sym w.last-is) (other path i c.loop-i.last c.loop-i-test.true w.if-octet-eq47.false c.loop-i.invariant)
    ]
