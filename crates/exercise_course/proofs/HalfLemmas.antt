-- At most about half of the requests of a made script raise a count.
use Rattle.exercise_course.proofs.Common.{◌≡◌, ◌≤◌, ◌+◌, ◌*◌, ◌/◌, ◌%◌, ℕ, zero, suc, sum_by, refl, ◌∙◌, ap, arith, sum_by_push, below, made_request, made_round, made_turn}
use Rattle.std.proofs.Math.Nat.{add-mul-div_left}
use Rattle.exercise_course.proofs.BalanceLemmas.{raised_by}

-- whether a round raises a count, and whether it doesn't
abbrev turn_raises : ℕ → ℕ
turn_raises zero = 1
turn_raises (suc zero) = 1
turn_raises (suc (suc t)) = 0

abbrev turn_spares : ℕ → ℕ
turn_spares zero = 0
turn_spares (suc zero) = 0
turn_spares (suc (suc t)) = 1

abbrev round_raises : ℕ → ℕ
round_raises zero = 0
round_raises (suc s) = turn_raises (s % 4)

abbrev round_spares : ℕ → ℕ
round_spares zero = 1
round_spares (suc s) = turn_spares (s % 4)

turn_is : (number i lane round turn : ℕ) → raised_by (made_turn number i lane round turn) ≡ turn_raises turn
turn_is number i lane round zero = refl
turn_is number i lane round (suc zero) = refl
turn_is number i lane round (suc (suc zero)) = refl
turn_is number i lane round (suc (suc (suc turn))) = refl

round_is : (number i lane s : ℕ) → raised_by (made_round number i lane s) ≡ round_raises s
round_is number i lane zero = refl
round_is number i lane (suc s) = turn_is number i lane (s / 4) (s % 4)

turn_one : (t : ℕ) → turn_raises t + turn_spares t ≡ 1
turn_one zero = refl
turn_one (suc zero) = refl
turn_one (suc (suc t)) = refl

round_one : (s : ℕ) → round_raises s + round_spares s ≡ 1
round_one zero = refl
round_one (suc s) = turn_one (s % 4)

-- two rounds behind one that raises a count stands one that doesn't
two_behind : (s : ℕ) → round_raises s ≤ round_spares (s + 2)
two_behind zero = omega arith
two_behind (suc s) = by_turn (s % 4) refl
  where
    is : suc s + 2 ≡ suc (s + 2)
    is = omega arith

    by_turn : (t : ℕ) → s % 4 ≡ t → turn_raises t ≤ round_spares (suc s + 2)
    by_turn zero e =
        let r : (s + 2) % 4 ≡ 2 = omega (arith, e) in
        let k : round_spares (suc s + 2) ≡ 1 = ap round_spares is ∙ ap turn_spares r in
        omega (arith, k)
    by_turn (suc zero) e =
        let r : (s + 2) % 4 ≡ 3 = omega (arith, e) in
        let k : round_spares (suc s + 2) ≡ 1 = ap round_spares is ∙ ap turn_spares r in
        omega (arith, k)
    by_turn (suc (suc t)) e = omega arith

-- ---- sums over places

shifted : (f : ℕ → ℕ) (k n : ℕ) → sum_by (λ i. f (i + k)) (below n) ≤ sum_by f (below (n + k))
shifted f k zero = omega arith
shifted f k (suc n) =
    let r = shifted f k n in
    let a = sum_by_push (λ (i : ℕ). f (i + k)) (below n) n in
    let b = sum_by_push f (below (n + k)) (n + k) in
    let is : suc n + k ≡ suc (n + k) = omega arith in
    let c : sum_by f (below (suc n + k)) ≡ sum_by f (below (suc (n + k))) = ap (λ (m : ℕ). sum_by f (below m)) is in
    omega (arith, r, a, b, c)

few_more : (f : ℕ → ℕ) → ((i : ℕ) → f i ≤ 1) → (n k : ℕ) → sum_by f (below (n + k)) ≤ sum_by f (below n) + k
few_more f one n zero =
    let z : n + 0 ≡ n = omega arith in
    let c : sum_by f (below (n + 0)) ≡ sum_by f (below n) = ap (λ (m : ℕ). sum_by f (below m)) z in
    omega (arith, c)
few_more f one n (suc k) =
    let r = few_more f one n k in
    let is : n + suc k ≡ suc (n + k) = omega arith in
    let c : sum_by f (below (n + suc k)) ≡ sum_by f (below (suc (n + k))) = ap (λ (m : ℕ). sum_by f (below m)) is in
    let b = sum_by_push f (below (n + k)) (n + k) in
    let o = one (n + k) in
    omega (arith, r, c, b, o)

all_ones : (f g : ℕ → ℕ) → ((i : ℕ) → f i + g i ≡ 1) → (n : ℕ) → sum_by f (below n) + sum_by g (below n) ≡ n
all_ones f g one zero = refl
all_ones f g one (suc n) =
    let r = all_ones f g one n in
    let a = sum_by_push f (below n) n in
    let b = sum_by_push g (below n) n in
    let o = one n in
    omega (arith, r, a, b, o)

pub each_less : (f g : ℕ → ℕ) → ((i : ℕ) → f i ≤ g i) → (n : ℕ) → sum_by f (below n) ≤ sum_by g (below n)
each_less f g le zero = omega arith
each_less f g le (suc n) =
    let r = each_less f g le n in
    let a = sum_by_push f (below n) n in
    let b = sum_by_push g (below n) n in
    let o = le n in
    omega (arith, r, a, b, o)

pub raises_few : (lanes count number : ℕ) → 1 ≤ lanes → lanes ≤ 64 → count ≤ 100000 → sum_by (λ i. raised_by (made_request lanes number i).1) (below count) ≤ 50064
raises_few lanes count number one most few =
    let is = same (λ i. raised_by (made_request lanes number i).1) (λ i. round_raises (i / lanes)) (λ i. round_is number i (i % lanes + 1) (i / lanes)) count in
    let a = each_less (λ i. round_raises (i / lanes)) (λ i. round_spares ((i + lanes * 2) / lanes)) (λ i.
    let q : (i + lanes * 2) / lanes ≡ i / lanes + 2 = add-mul-div_left i 2 one in
    let t = two_behind (i / lanes) in
    let s : round_spares ((i + lanes * 2) / lanes) ≡ round_spares (i / lanes + 2) = ap round_spares q in
    omega (arith, t, s)) count in
    let b = shifted (λ i. round_spares (i / lanes)) (lanes * 2) count in
    let c = few_more (λ i. round_spares (i / lanes)) (λ i. let o = round_one (i / lanes) in omega (arith, o)) count (lanes * 2) in
    let d = all_ones (λ i. round_raises (i / lanes)) (λ i. round_spares (i / lanes)) (λ i. round_one (i / lanes)) count in
    omega (arith, is, a, b, c, d, most, few)
  where
    same : (f g : ℕ → ℕ) → ((i : ℕ) → f i ≡ g i) → (n : ℕ) → sum_by f (below n) ≡ sum_by g (below n)
    same f g e zero = refl
    same f g e (suc n) =
        let a = sum_by_push f (below n) n in
        let b = sum_by_push g (below n) n in
        let k = e n in
        let r = same f g e n in
        omega (arith, a, b, k, r)
