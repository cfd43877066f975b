-- Places of a script whose lanes go on one place after another: which place of a lane comes next.
use Rattle.exercise_course.proofs.Common.{◌≡◌, ◌≢◌, ◌≤◌, ◌<◌, ◌+◌, ◌*◌, ◌/◌, ◌%◌, ◌==◌, nat_lt, ℕ, zero, suc, Bool, true, false, cond, if◌then◌else◌, List, [], ◌∷◌, refl, AllByRecursion, sym, ◌∙◌, ap, arith, subst, mod-lt, eq-eqb, eqb-true, ltb-true, ltb-false, sum_by-cons}
use Rattle.std.specs.Prelude.{count_by}
use Rattle.std.proofs.Math.Nat.{mod-eq-sub-div-mul, div-mul-le_self, mod-eq_of_lt, mul-add-mod_self_right}
use Rattle.std.proofs.lemmas.Bool.{lt-ltb, le-ltb}
use Rattle.std.proofs.lemmas.Nat.{div-mul-add}

-- Places, each of a lane and a round: no two are of the same of both, and before each stand all earlier rounds of its lane.
pub record AreRounds (lane round : ℕ → ℕ) : Type 0 where
  pub apart : (i j : ℕ) → lane i ≡ lane j → round i ≡ round j → i ≡ j
  pub earlier : (i n : ℕ) → n < round i → (j : ℕ) × (j < i) × (lane j ≡ lane i) × (round j ≡ n)

-- how often a place is among these
abbrev pub times : ℕ → List ℕ → ℕ
times j xs = count_by (λ x. x == j) xs

-- each place below the count is among these once, unless its round is done
abbrev pub AreLeft : ℕ → (ℕ → ℕ) → (ℕ → ℕ) → (ℕ → ℕ) → List ℕ → Type 0
AreLeft count lane round done xs = (j : ℕ) → j < count → times j xs ≡ (if nat_lt (round j) (done (lane j)) then 0 else 1)

-- those of one lane rise
abbrev pub RiseInLanes : (ℕ → ℕ) → List ℕ → Type 0
RiseInLanes lane [] = Unit {0}
RiseInLanes lane (i ∷ xs) = AllByRecursion (λ b. lane i ≡ lane b → i ≤ b) xs × RiseInLanes lane xs

-- one more round of a lane is done
abbrev pub one_more : (ℕ → ℕ) → ℕ → ℕ → ℕ
one_more done lane l = if l == lane then done l + 1 else done l

times_more : (j i : ℕ) (xs : List ℕ) → times j (i ∷ xs) ≡ (cond (i == j) 1 0) + times j xs
times_more j i xs = sum_by-cons (λ (x : ℕ). cond (x == j) 1 0) i xs

pub times_same : (i : ℕ) (xs : List ℕ) → times i (i ∷ xs) ≡ 1 + times i xs
times_same i xs =
    let m = times_more i i xs in
    let e : ◌≡◌ {A = ℕ} (cond (i == i) 1 0) 1 = ap (λ (b : Bool). cond b 1 0) (eq-eqb i i refl) in
    omega (arith, m, e)

pub times_other : (j i : ℕ) (xs : List ℕ) → (i == j) ≡ false → times j (i ∷ xs) ≡ times j xs
times_other j i xs apart =
    let m = times_more j i xs in
    let e : ◌≡◌ {A = ℕ} (cond (i == j) 1 0) 0 = ap (λ (b : Bool). cond b 1 0) apart in
    omega (arith, m, e)

-- what holds of each holds of one that is among them
pub of_one : (P : ℕ → Type 0) (j : ℕ) (xs : List ℕ) → AllByRecursion P xs → 1 ≤ times j xs → P j
of_one P j [] a some = absurd (omega (arith, some))
of_one P j (x ∷ xs) a some = by_test (λ more. of_one P j xs a.1 more) (x == j) refl
  where
    by_test : (1 ≤ times j xs → P j) → (b : Bool) → (x == j) ≡ b → P j
    by_test next true e = subst P (eqb-true x j e) a.0
    by_test next false e = let t = times_other j x xs e in next (omega (arith, t, some))

-- a test of order, by what it says
pub lt_test : (a b x y : ℕ) → a < b → (if nat_lt a b then x else y) ≡ x
lt_test a b x y h = ap (λ (t : Bool). cond t x y) (lt-ltb a b h)

pub le_test : (a b x y : ℕ) → b ≤ a → (if nat_lt a b then x else y) ≡ y
le_test a b x y h = ap (λ (t : Bool). cond t x y) (le-ltb a b h)

-- the place that comes is of the next round of its lane
pub comes_in_turn : (count : ℕ) (lane round done : ℕ → ℕ) (i : ℕ) (xs : List ℕ) → AreRounds lane round → i < count → AreLeft count lane round done (i ∷ xs) → RiseInLanes lane (i ∷ xs) → round i ≡ done (lane i)
comes_in_turn count lane round done i xs r lt left rise = by_less (nat_lt (round i) (done (lane i))) refl
  where
    by_more : (b : Bool) → nat_lt (done (lane i)) (round i) ≡ b → done (lane i) ≤ round i → round i ≡ done (lane i)
    by_more true e le =
        let before = r.earlier i (done (lane i)) (ltb-true (done (lane i)) (round i) e) in
        let j = before.0 in
        let less = before.1 in
        let not_done : done (lane j) ≤ round j = (let a = ap done before.2 in let b = before.3 in omega (arith, a, b)) in
        let once : times j (i ∷ xs) ≡ 1 = left j (omega (arith, less, lt)) ∙ le_test (round j) (done (lane j)) 0 1 not_done in
        let other : (i == j) ≡ false = by_same (i == j) refl less in
        let t = times_other j i xs other in
        let most = of_one (λ (b : ℕ). lane i ≡ lane b → i ≤ b) j xs rise.0 (omega (arith, t, once)) (sym before.2) in
        absurd (omega (arith, most, less))
      where
        by_same : {k : ℕ} → (b : Bool) → (i == k) ≡ b → k < i → (i == k) ≡ false
        by_same {k} true e less = let s = eqb-true i k e in absurd (omega (arith, s, less))
        by_same false e less = e
    by_more false e le = let more = ltb-false (done (lane i)) (round i) e in omega (arith, le, more)

    by_less : (b : Bool) → nat_lt (round i) (done (lane i)) ≡ b → round i ≡ done (lane i)
    by_less true e =
        let none : times i (i ∷ xs) ≡ 0 = left i lt ∙ lt_test (round i) (done (lane i)) 0 1 (ltb-true (round i) (done (lane i)) e) in
        let t = times_same i xs in
        absurd (omega (arith, none, t))
    by_less false e = by_more (nat_lt (done (lane i)) (round i)) refl (ltb-false (round i) (done (lane i)) e)

-- and then its round is done
pub left_behind : (count : ℕ) (lane round done : ℕ → ℕ) (i : ℕ) (xs : List ℕ) → AreRounds lane round → AreLeft count lane round done (i ∷ xs) → round i ≡ done (lane i) → AreLeft count lane round (one_more done (lane i)) xs
left_behind count lane round done i xs r left now j lt = by_place (i == j) refl
  where
    of_lane : (b : Bool) → (lane j == lane i) ≡ b → (i == j) ≡ false → times j xs ≡ (if nat_lt (round j) (cond b (done (lane j) + 1) (done (lane j))) then 0 else 1)
    of_lane false e differs = sym (times_other j i xs differs) ∙ left j lt
    of_lane true e differs = by_less (nat_lt (round j) (done (lane j))) refl
      where
        same : done (lane j) ≡ done (lane i)
        same = ap done (eqb-true (lane j) (lane i) e)

        by_less : (b : Bool) → nat_lt (round j) (done (lane j)) ≡ b → times j xs ≡ (if nat_lt (round j) (done (lane j) + 1) then 0 else 1)
        by_less true f =
            let less = ltb-true (round j) (done (lane j)) f in
            sym (times_other j i xs differs) ∙ left j lt ∙ lt_test (round j) (done (lane j)) 0 1 less ∙ sym (lt_test (round j) (done (lane j) + 1) 0 1 (omega (arith, less)))
        by_less false f =
            let le = ltb-false (round j) (done (lane j)) f in
            let differ : round j ≢ done (lane j) = λ q. absurd (
            let one = r.apart i j (sym (eqb-true (lane j) (lane i) e)) (now ∙ sym same ∙ sym q) in
            let yes = eq-eqb i j one in
            let k : true ≡ false = sym yes ∙ differs in cc k) in
            sym (times_other j i xs differs) ∙ left j lt ∙ le_test (round j) (done (lane j)) 0 1 le ∙ sym (le_test (round j) (done (lane j) + 1) 0 1 (omega (arith, le, differ)))

    by_place : (b : Bool) → (i == j) ≡ b → times j xs ≡ (if nat_lt (round j) (one_more done (lane i) (lane j)) then 0 else 1)
    by_place false differs = of_lane (lane j == lane i) refl differs
    by_place true e =
        let same = eqb-true i j e in
        let was : times j (i ∷ xs) ≡ 1 = left j lt ∙ le_test (round j) (done (lane j)) 0 1 (let a = ap round same in let b = ap (λ (k : ℕ). done (lane k)) same in omega (arith, a, b, now)) in
        let t : times j (i ∷ xs) ≡ 1 + times j xs = subst (λ (k : ℕ). times k (i ∷ xs) ≡ 1 + times k xs) same (times_same i xs) in
        let none : times j xs ≡ 0 = omega (arith, was, t) in
        let own : one_more done (lane i) (lane j) ≡ done (lane j) + 1 = ap (λ (b : Bool). cond b (done (lane j) + 1) (done (lane j))) (eq-eqb (lane j) (lane i) (sym (ap lane same))) in
        none ∙ sym (lt_test (round j) (one_more done (lane i) (lane j)) 0 1 (let a = ap round same in let b = ap (λ (k : ℕ). done (lane k)) same in omega (arith, own, a, b, now)))

-- ---- lanes in turn

pub split : (n m : ℕ) → n ≡ n / m * m + n % m
split n m = let a = mod-eq-sub-div-mul n m in let b = div-mul-le_self n m in omega (arith, a, b)

less_rows : (n q m : ℕ) → n < q → n * m + m ≤ q * m
less_rows n zero m lt = absurd (omega (arith, lt))
less_rows n (suc q) m lt = by_order (λ less. less_rows n q m less) (nat_lt n q) refl
  where
    by_order : (n < q → n * m + m ≤ q * m) → (b : Bool) → nat_lt n q ≡ b → n * m + m ≤ suc q * m
    by_order next true e = let h = next (ltb-true n q e) in omega (arith, h)
    by_order next false e = let le = ltb-false n q e in let s : n ≡ q = omega (arith, le, lt) in subst (λ (k : ℕ). k * m + m ≤ suc q * m) (sym s) (omega arith)

pub lanes_in_turn : (lanes : ℕ) → 1 ≤ lanes → AreRounds (λ i. i % lanes + 1) (λ i. i / lanes)
lanes_in_turn lanes one = record {
  apart = λ i j l r.
      let p = split i lanes in
      let q = split j lanes in
      let rows : i / lanes * lanes ≡ j / lanes * lanes = ap (λ (k : ℕ). k * lanes) r in
      omega (arith, p, q, rows, l);
  earlier = λ i n lt.
      let rest = mod-lt i one in
      let p = split i lanes in
      let rows = less_rows n (i / lanes) lanes lt in
      let back : (n * lanes + i % lanes) % lanes ≡ i % lanes = mul-add-mod_self_right n lanes (i % lanes) ∙ mod-eq_of_lt rest in
      (n * lanes + i % lanes, omega (arith, p, rows, one), ap (λ (k : ℕ). k + 1) back, div-mul-add n lanes (i % lanes) rest);
}
