-- The last message of a mailbox.
use Rattle.std.proofs.Common.{◌≡◌, ◌≤◌, ◌+◌, ℕ, zero, suc, List, [], ◌∷◌, length, slice_get, Some, ap, arith}
use Rattle.box_index.specs.Row.{UidsRise}
use Rattle.model_meaning.specs.BoxMeaning.{LogRow}
use Rattle.model_rewritten.specs.Rewriting.{next_from}

-- it has the greatest UID
pub last_row : (low first next place : ℕ) (rows : List LogRow) (row : LogRow) → UidsRise low rows next → place + 1 ≡ length rows → Some row ≡ slice_get rows place → (row.uid + 1 ≡ next_from first rows) × (row.uid + 1 ≤ next)
last_row low first next place [] row rise at is = absurd (omega (arith, at))
last_row low first next zero (r ∷ []) row rise at is =
    let h : Some row ≡ Some r = is in
    let same : row ≡ r = cc h in
    (ap (λ (x : LogRow). x.uid + 1) same, let up = rise.1 in let e = ap (λ (x : LogRow). x.uid) same in omega (arith, up, e))
last_row low first next (suc place) (r ∷ []) row rise at is = absurd (omega (arith, at))
last_row low first next zero (r ∷ (s ∷ rows)) row rise at is = absurd (omega (arith, at))
last_row low first next (suc place) (r ∷ (s ∷ rows)) row rise at is = last_row (r.uid + 1) (r.uid + 1) next place (s ∷ rows) row rise.1 (omega (arith, at)) is
