-- Claims of tasks beside each other.
use Rattle.std.proofs.Common.{◌≡◌, ◌≢◌, ◌≤◌, ◌<◌, ◌+◌, ℕ, List, length, slice_index_or, slice_set, refl, sym, ◌∙◌, ap, arith}
use Rattle.std.proofs.lemmas.List.Sums.{sum_by-set, get_or-le-sum_by}
use Rattle.std.proofs.lemmas.List.{get_or-set_other, length-set}
use Rattle.store_core.specs.Value.{StoreValue}
use Rattle.task_claims.specs.Claims.{AddsUp, AreIn, Claims, ClaimsNothing, MovesClaims, amount_in, both_claims, no_claims, total_claims}

within : (mine mine_now other all all_now : ℕ) → all_now + mine ≡ all + mine_now → mine + other ≤ all → mine_now + other ≤ all_now
within mine mine_now other all all_now moved due = omega (arith, moved, due)

pub others_in : {D : Type 0} → (mine mine_now theirs : Claims) (old new : StoreValue D) → MovesClaims mine mine_now old new → AreIn old (both_claims mine theirs) → AreIn new (both_claims mine_now theirs)
others_in mine mine_now theirs old new moves are = λ thing. within (mine thing) (mine_now thing) (theirs thing) (amount_in thing old) (amount_in thing new) (moves thing) (are thing)

-- ---- a row of tasks

sums : (old new mine mine_now total after : ℕ) → new + mine ≡ old + mine_now → old ≡ total → after + mine ≡ total + mine_now → new ≡ after
sums old new mine mine_now total after m o s = omega (arith, m, o, s)

-- the task at this place made an event
pub adds_up_on : {D : Type 0} → (lanes : List Claims) (i : ℕ) (d mine_now : Claims) (old new : StoreValue D) → i < length lanes → MovesClaims (slice_index_or lanes i d) mine_now old new → AddsUp old lanes → AddsUp new (slice_set lanes i mine_now)
adds_up_on lanes i d mine_now old new below moves adds = λ thing.
    sums (amount_in thing old) (amount_in thing new) (slice_index_or lanes i d thing) (mine_now thing) (total_claims lanes thing) (total_claims (slice_set lanes i mine_now) thing) (moves thing) (adds thing)
    (sum_by-set (λ (c : Claims). c thing) lanes i mine_now d below)

two : (a b total left none : ℕ) → b ≤ left → left + a ≡ total + none → none ≡ 0 → a + b ≤ total
two a b total left none l e z = omega (arith, l, e, z)

-- what two of them have is among what all have
pub two_are_in : {D : Type 0} → (lanes : List Claims) (i j : ℕ) (d : Claims) (store : StoreValue D) → i < length lanes → j < length lanes → i ≢ j → AddsUp store lanes → AreIn store (both_claims (slice_index_or lanes i d) (slice_index_or lanes j d))
two_are_in lanes i j d store first second other adds = λ thing.
    let left = slice_set lanes i no_claims in
    let there = get_or-le-sum_by (λ (c : Claims). c thing) left j d (let e = length-set lanes i no_claims in omega (arith, e, second)) in
    let same : slice_index_or left j d ≡ slice_index_or lanes j d = get_or-set_other lanes i j no_claims d (λ e. other (sym e)) in
    let b : slice_index_or lanes j d thing ≡ slice_index_or left j d thing = ap (λ (c : Claims). c thing) (sym same) in
    let s = sum_by-set (λ (c : Claims). c thing) lanes i no_claims d first in
    let a = adds thing in
    omega (arith, there, b, s, a)

-- one that claims nothing
without : (total after mine none : ℕ) → after + mine ≡ total + none → mine ≡ 0 → none ≡ 0 → total ≡ after
without total after mine none s m n = omega (arith, s, m, n)

pub adds_up_ended : {D : Type 0} → (lanes : List Claims) (i : ℕ) (d : Claims) (store : StoreValue D) → i < length lanes → ClaimsNothing (slice_index_or lanes i d) → AddsUp store lanes → AddsUp store (slice_set lanes i no_claims)
adds_up_ended lanes i d store below nothing adds = λ thing.
    adds thing ∙ without (total_claims lanes thing) (total_claims (slice_set lanes i no_claims) thing) (slice_index_or lanes i d thing) (no_claims thing) (sum_by-set (λ (c : Claims). c thing) lanes i no_claims d below) (nothing thing) refl
