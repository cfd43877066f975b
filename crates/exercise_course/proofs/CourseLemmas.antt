-- The requests of a made script in whatever order lanes do them: each is done, and what messages weigh is as in the script's own order.
use Rattle.exercise_course.proofs.Common.{◌≡◌, ◌≢◌, ◌≤◌, ◌<◌, ◌+◌, ◌-◌, ◌*◌, ◌/◌, ◌%◌, ◌==◌, ◌⊎◌, nat_lt, ℕ, zero, suc, Bool, true, false, cond, if◌then◌else◌, List, [], ◌∷◌, ◌++◌, length, map, sum_by, Option, None, refl, AllByRecursion, option_map_or, sym, ◌∙◌, ap, arith, subst, inl, inr, mod-lt}
use Rattle.exercise_course.proofs.Common.{eqb-true, eqb-false, ltb-true, ltb-false, sum_by-cons, sum_by_push, Request, Reply, ListedMessage, Lists, add_message, mailbox_named, below, lane_name, made_request, is_hindered, is_ok}
use Rattle.std.specs.Prelude.{◌^◌, codes, fold}
use Rattle.std.proofs.lemmas.Fmt.{decimal_injective}
use Rattle.std.proofs.lemmas.List.{append_cancel_left}
use Rattle.mdbox_base.specs.Numbers.{decimal_text}
use Rattle.mdbox_base.specs.declared.requests.Request.TheVariants as request
use Rattle.mdbox_base.specs.declared.replies.Reply.TheVariants as reply
use Rattle.exercise_course.specs.InOrder.{lists_done}
use Rattle.exercise_course.proofs.BoxLemmas.{weight_of}
use Rattle.exercise_course.proofs.PlaceLemmas.{AreLeft, RiseInLanes, comes_in_turn, lanes_in_turn, le_test, left_behind, one_more, split, times, times_other, times_same}
use Rattle.exercise_course.proofs.ReadyLemmas.{IsDone, IsReady}
use Rattle.exercise_course.proofs.RoundLemmas.{GoesOn, IsLane, lane_done, lane_kept, lane_ready, round_adds, round_makes, round_takes}

-- ---- lanes

names_apart : (a b : ℕ) → a < 2 ^ 64 → b < 2 ^ 64 → a ≢ b → lane_name a ≢ lane_name b
names_apart a b la lb apart e = apart (decimal_injective a b la lb (append_cancel_left (codes "x") (decimal_text a) (decimal_text b) e))

-- how many octets the message has that a lane delivers in a round of four
abbrev pub sizes_of : ℕ → ℕ → ℕ → ℕ → ℕ
sizes_of lanes number lane c = (number % 1000 + ((1 + 4 * c) * lanes + (lane - 1))) % 1000

-- so many rounds of each lane are done
abbrev pub AreLanes : ℕ → ℕ → (ℕ → ℕ) → Lists → Type 0
AreLanes lanes number done lists = (lane : ℕ) → 1 ≤ lane → lane ≤ lanes → IsLane (sizes_of lanes number lane) (lane_name lane) (done lane) lists

abbrev pub adds : (ℕ → ℕ) → ℕ → ℕ → ℕ → ℕ
adds v lanes number i = round_adds v (sizes_of lanes number (i % lanes + 1)) (i / lanes)

abbrev pub takes : (ℕ → ℕ) → ℕ → ℕ → ℕ → ℕ
takes v lanes number i = round_takes v (sizes_of lanes number (i % lanes + 1)) (i / lanes)

abbrev pub makes : ℕ → ℕ → ℕ
makes lanes i = round_makes (i / lanes)

size_is : (lanes number i c : ℕ) → i / lanes ≡ 1 + 4 * c → (number % 1000 + i) % 1000 ≡ sizes_of lanes number (i % lanes + 1) c
size_is lanes number i c e =
    let p = split i lanes in
    let rows : i / lanes * lanes ≡ (1 + 4 * c) * lanes = ap (λ (k : ℕ). k * lanes) e in
    let place : i ≡ (1 + 4 * c) * lanes + (i % lanes + 1 - 1) = omega (arith, p, rows) in
    ap (λ (k : ℕ). (number % 1000 + k) % 1000) place

-- the lanes behind a request that is done
abbrev Advanced : ℕ → ℕ → (ℕ → ℕ) → ℕ → Lists → Lists → Type 0
Advanced lanes number done i old new = AreLanes lanes number (one_more done (i % lanes + 1)) new × GoesOn (sizes_of lanes number (i % lanes + 1)) (lane_name (i % lanes + 1)) (i / lanes) old new

advance : (lanes number : ℕ) (done : ℕ → ℕ) (i : ℕ) (old new : Lists) → 1 ≤ lanes → lanes ≤ 64 → AreLanes lanes number done old → i / lanes ≡ done (i % lanes + 1) → IsDone (made_request lanes number i).1 old new → Advanced lanes number done i old new
advance lanes number done i old new one most are now d =
    let rest = mod-lt i one in
    let lane = i % lanes + 1 in
    let own : IsLane (sizes_of lanes number lane) (lane_name lane) (i / lanes) old =
    subst (λ (n : ℕ). IsLane (sizes_of lanes number lane) (lane_name lane) n old) (sym now) (are lane (omega arith) (omega (arith, rest))) in
    let g : GoesOn (sizes_of lanes number lane) (lane_name lane) (i / lanes) old new = lane_done number i lane (i / lanes) (sizes_of lanes number lane) old new (λ c e. size_is lanes number i c e) own d in
    (each lane (omega (arith, rest, most)) g.others (subst (λ (n : ℕ). IsLane (sizes_of lanes number lane) (lane_name lane) n new) (ap (λ (n : ℕ). n + 1) now) g.own), g)
  where
    each : (lane : ℕ) → lane ≤ 64 → ((other : List ℕ) → other ≢ lane_name lane → mailbox_named other new ≡ mailbox_named other old) → IsLane (sizes_of lanes number lane) (lane_name lane) (done lane + 1) new → AreLanes lanes number (one_more done lane) new
    each lane small others own l some few = by_lane (l == lane) refl
      where
        by_lane : (b : Bool) → (l == lane) ≡ b → IsLane (sizes_of lanes number l) (lane_name l) (cond b (done l + 1) (done l)) new
        by_lane true e = subst (λ (k : ℕ). IsLane (sizes_of lanes number k) (lane_name k) (done k + 1) new) (sym (eqb-true l lane e)) own
        by_lane false e =
            lane_kept (sizes_of lanes number l) (lane_name l) (done l) old new
            (others (lane_name l) (names_apart l lane (omega (arith, few, most)) (omega (arith, small)) (eqb-false l lane e))) (are l some few)

-- ---- a course

-- A request of the script, by its place, with what it was answered and the lists that it left.
pub record Turn : Type 0 where
  pub place : ℕ
  pub answer : Reply
  pub left : Lists

abbrev pub place_of : Turn → ℕ
place_of turn = turn.place

-- each is done if it finds what it asks for, on lists of which something more holds, unless it is answered so that it stops
abbrev pub AreTurns : (Lists → Type 0) → (Reply → Bool) → ℕ → ℕ → Lists → List Turn → Type 0
AreTurns E stops lanes number old [] = Unit {0}
AreTurns E stops lanes number old (turn ∷ turns) =
    (IsReady (made_request lanes number turn.place).1 old → E old → (stops turn.answer ≡ true) ⊎ ((is_ok turn.answer ≡ true) × IsDone (made_request lanes number turn.place).1 old turn.left × E turn.left))
    × AreTurns E stops lanes number turn.left turns

abbrev pub left_of : Lists → List Turn → Lists
left_of old [] = old
left_of old (turn ∷ turns) = left_of turn.left turns

-- Each is answered OK, and what messages weigh is what it was, with what requests add and without what they take.
pub record IsWhole (lanes number : ℕ) (old : Lists) (turns : List Turn) : Type 0 where
  pub ok : AllByRecursion (λ turn. is_ok turn.answer ≡ true) turns
  pub weighs : (v : ℕ → ℕ) → weight_of v (left_of old turns) + sum_by (takes v lanes number) (map place_of turns) ≡ weight_of v old + sum_by (adds v lanes number) (map place_of turns)

pub course_is_whole : (E : Lists → Type 0) (stops : Reply → Bool) (lanes number count : ℕ) → 1 ≤ lanes → lanes ≤ 64 → count ≤ 100000 → (turns : List Turn) (old : Lists) (done : ℕ → ℕ)
    → AllByRecursion (λ turn. turn.place < count) turns
    → AreLeft count (λ i. i % lanes + 1) (λ i. i / lanes) done (map place_of turns)
    → RiseInLanes (λ i. i % lanes + 1) (map place_of turns)
    → AreLanes lanes number done old
    → E old
    → length old + sum_by (makes lanes) (map place_of turns) ≤ 1024
    → AllByRecursion (λ turn. stops turn.answer ≡ false) turns
    → AreTurns E stops lanes number old turns
    → IsWhole lanes number old turns
course_is_whole E stops lanes number count one most few [] old done within left rise are more room free steps = record { ok = tt; weighs = λ v. refl }
course_is_whole E stops lanes number count one most few (turn ∷ turns) old done within left rise are more room free steps =
    by_answer (steps.0 ready more) (λ d now_more. let a = advance lanes number done i old turn.left one most are now d in
    let l = a.1.many in
    (a.1, course_is_whole E stops lanes number count one most few turns turn.left (one_more done (i % lanes + 1)) within.1 (left_behind count lane_at round_at done i (map place_of turns) (lanes_in_turn lanes one) left now) rise.1 a.0 now_more (omega (arith, room, l, made)) free.1 steps.1))
  where
    i : ℕ
    i = turn.place

    lane_at : ℕ → ℕ
    lane_at k = k % lanes + 1

    round_at : ℕ → ℕ
    round_at k = k / lanes

    made : sum_by (makes lanes) (map place_of (turn ∷ turns)) ≡ round_makes (turn.place / lanes) + sum_by (makes lanes) (map place_of turns)
    made = sum_by-cons (makes lanes) turn.place (map place_of turns)

    now : turn.place / lanes ≡ done (turn.place % lanes + 1)
    now = comes_in_turn count (λ k. k % lanes + 1) (λ k. k / lanes) done turn.place (map place_of turns) (lanes_in_turn lanes one) within.0 left rise

    ready : IsReady (made_request lanes number turn.place).1 old
    ready =
        let rest = mod-lt turn.place one in
        let lt = within.0 in
        let small : turn.place / lanes ≤ turn.place = omega (arith, one) in
        lane_ready number turn.place (turn.place % lanes + 1) (turn.place / lanes) (sizes_of lanes number (turn.place % lanes + 1)) old (omega (arith, small, lt, few))
        (λ none. let m : round_makes (turn.place / lanes) ≡ 1 = ap round_makes none in omega (arith, m, made, room))
        (subst (λ (n : ℕ). IsLane (sizes_of lanes number (turn.place % lanes + 1)) (lane_name (turn.place % lanes + 1)) n old) (sym now) (are (turn.place % lanes + 1) (omega arith) (omega (arith, rest))))

    by_answer : (stops turn.answer ≡ true) ⊎ ((is_ok turn.answer ≡ true) × IsDone (made_request lanes number turn.place).1 old turn.left × E turn.left)
        → (IsDone (made_request lanes number turn.place).1 old turn.left → E turn.left → GoesOn (sizes_of lanes number (turn.place % lanes + 1)) (lane_name (turn.place % lanes + 1)) (turn.place / lanes) old turn.left × IsWhole lanes number turn.left turns) → IsWhole lanes number old (turn ∷ turns)
    by_answer (inl h) next = absurd (let k : true ≡ false = sym h ∙ free.0 in cc k)
    by_answer (inr h) next =
        let n = next h.1 h.2 in
        record {
          ok = (h.0, n.1.ok);
          weighs = λ v.
              let w = n.0.weighs v in
              let r = n.1.weighs v in
              let a = sum_by-cons (adds v lanes number) turn.place (map place_of turns) in
              let t = sum_by-cons (takes v lanes number) turn.place (map place_of turns) in
              omega (arith, w, r, a, t);
        }

-- ---- all places

-- each place below the count is among these once, and no other
pub record AreAllPlaces (count : ℕ) (xs : List ℕ) : Type 0 where
  pub once : (j : ℕ) → j < count → times j xs ≡ 1
  pub within : AllByRecursion (λ i. i < count) xs

pub all_left : (count lanes : ℕ) (xs : List ℕ) → AreAllPlaces count xs → AreLeft count (λ i. i % lanes + 1) (λ i. i / lanes) (λ lane. 0) xs
all_left count lanes xs a j lt = a.once j lt ∙ sym (le_test (j / lanes) 0 0 1 (omega arith))

-- a sum over the places below a number, of what is at one place alone
abbrev pub at_place : (ℕ → ℕ) → ℕ → ℕ → ℕ
at_place f i j = if i == j then f j else 0

sum_below : (f : ℕ → ℕ) (n : ℕ) → sum_by f (below (suc n)) ≡ sum_by f (below n) + f n
sum_below f n = sum_by_push f (below n) n

at_none : (f : ℕ → ℕ) (i n : ℕ) → n ≤ i → sum_by (at_place f i) (below n) ≡ 0
at_none f i zero le = refl
at_none f i (suc n) le =
    let s = sum_below (at_place f i) n in
    let r = at_none f i n (omega (arith, le)) in
    let z : at_place f i n ≡ 0 = by_test (i == n) refl in
    omega (arith, s, r, z)
  where
    by_test : (b : Bool) → (i == n) ≡ b → at_place f i n ≡ 0
    by_test true e = let k = eqb-true i n e in absurd (omega (arith, k, le))
    by_test false e = ap (λ (b : Bool). cond b (f n) 0) e

pub at_one : (f : ℕ → ℕ) (i n : ℕ) → i < n → sum_by (at_place f i) (below n) ≡ f i
at_one f i zero lt = absurd (omega (arith, lt))
at_one f i (suc n) lt = by_last (λ less. at_one f i n less) (i == n) refl
  where
    s : sum_by (at_place f i) (below (suc n)) ≡ sum_by (at_place f i) (below n) + at_place f i n
    s = sum_below (at_place f i) n

    by_last : (i < n → sum_by (at_place f i) (below n) ≡ f i) → (b : Bool) → (i == n) ≡ b → sum_by (at_place f i) (below (suc n)) ≡ f i
    by_last next true e =
        let k = eqb-true i n e in
        let r = at_none f i n (omega (arith, k)) in
        let z : at_place f i n ≡ f n = ap (λ (b : Bool). cond b (f n) 0) e in
        let same : f i ≡ f n = ap f k in
        omega (arith, s, r, z, same)
    by_last next false e =
        let apart = eqb-false i n e in
        let r = next (omega (arith, lt, apart)) in
        let z : at_place f i n ≡ 0 = ap (λ (b : Bool). cond b (f n) 0) e in
        omega (arith, s, r, z)

-- what is at a place, as often as it is among these
abbrev as_often : (ℕ → ℕ) → List ℕ → ℕ → ℕ
as_often f xs j = times j xs * f j

once_more : (f : ℕ → ℕ) (i : ℕ) (xs : List ℕ) (j : ℕ) → as_often f (i ∷ xs) j ≡ at_place f i j + as_often f xs j
once_more f i xs j = by_test (i == j) refl
  where
    by_test : (b : Bool) → (i == j) ≡ b → as_often f (i ∷ xs) j ≡ at_place f i j + as_often f xs j
    by_test true e =
        let k = eqb-true i j e in
        let t : times j (i ∷ xs) ≡ 1 + times j xs = subst (λ (m : ℕ). times m (i ∷ xs) ≡ 1 + times m xs) k (times_same i xs) in
        let z : at_place f i j ≡ f j = ap (λ (b : Bool). cond b (f j) 0) e in
        let p : times j (i ∷ xs) * f j ≡ (1 + times j xs) * f j = ap (λ (m : ℕ). m * f j) t in
        omega (arith, p, z)
    by_test false e =
        let t : times j (i ∷ xs) ≡ times j xs = times_other j i xs e in
        let z : at_place f i j ≡ 0 = ap (λ (b : Bool). cond b (f j) 0) e in
        let p : times j (i ∷ xs) * f j ≡ times j xs * f j = ap (λ (m : ℕ). m * f j) t in
        omega (arith, p, z)

pub sum_both : (f g h : ℕ → ℕ) → ((j : ℕ) → f j ≡ g j + h j) → (xs : List ℕ) → sum_by f xs ≡ sum_by g xs + sum_by h xs
sum_both f g h is [] = refl
sum_both f g h is (x ∷ xs) =
    let a = sum_by-cons f x xs in
    let b = sum_by-cons g x xs in
    let c = sum_by-cons h x xs in
    let e = is x in
    let r = sum_both f g h is xs in
    omega (arith, a, b, c, e, r)

none_often : (f : ℕ → ℕ) (xs : List ℕ) → sum_by (as_often f []) xs ≡ 0
none_often f [] = refl
none_often f (x ∷ xs) = let a = sum_by-cons (as_often f []) x xs in let r = none_often f xs in let z : as_often f [] x ≡ 0 = omega arith in omega (arith, a, r, z)

often_sum : (f : ℕ → ℕ) (count : ℕ) (xs : List ℕ) → AllByRecursion (λ i. i < count) xs → sum_by (as_often f xs) (below count) ≡ sum_by f xs
often_sum f count [] w = none_often f (below count)
often_sum f count (i ∷ xs) w =
    let both = sum_both (as_often f (i ∷ xs)) (at_place f i) (as_often f xs) (once_more f i xs) (below count) in
    let one = at_one f i count w.0 in
    let r = often_sum f count xs w.1 in
    let c = sum_by-cons f i xs in
    omega (arith, both, one, r, c)

once_below : (f : ℕ → ℕ) (count n : ℕ) (xs : List ℕ) → ((j : ℕ) → j < count → times j xs ≡ 1) → n ≤ count → sum_by (as_often f xs) (below n) ≡ sum_by f (below n)
once_below f count zero xs once le = refl
once_below f count (suc n) xs once le =
    let a = sum_below (as_often f xs) n in
    let b = sum_below f n in
    let t : times n xs * f n ≡ 1 * f n = ap (λ (m : ℕ). m * f n) (once n (omega (arith, le))) in
    let r = once_below f count n xs once (omega (arith, le)) in
    omega (arith, a, b, t, r)

pub sum_of_all : (f : ℕ → ℕ) (count : ℕ) (xs : List ℕ) → AreAllPlaces count xs → sum_by f xs ≡ sum_by f (below count)
sum_of_all f count xs a = sym (often_sum f count xs a.within) ∙ once_below f count count xs a.once (omega arith)

-- ---- the mailboxes that are made

makes_one : (k : ℕ) → round_makes k ≤ 1
makes_one zero = omega arith
makes_one (suc k) = omega arith

-- at most as many as there are requests, and as there are lanes
makes_few : (lanes n : ℕ) → 1 ≤ lanes → (sum_by (makes lanes) (below n) ≤ n) × (sum_by (makes lanes) (below n) ≤ lanes)
makes_few lanes zero one = (omega arith, omega arith)
makes_few lanes (suc n) one = by_row (makes_few lanes n one) (nat_lt n lanes) refl
  where
    s : sum_by (makes lanes) (below (suc n)) ≡ sum_by (makes lanes) (below n) + round_makes (n / lanes)
    s = sum_below (makes lanes) n

    by_quotient : (k : ℕ) → n / lanes ≡ k → lanes ≤ n → round_makes (n / lanes) ≡ 0
    by_quotient zero e le =
        let p = split n lanes in
        let z : n / lanes * lanes ≡ 0 * lanes = ap (λ (m : ℕ). m * lanes) e in
        let r = mod-lt n one in
        absurd (omega (arith, p, z, r, le))
    by_quotient (suc k) e le = ap round_makes e

    by_row : (sum_by (makes lanes) (below n) ≤ n) × (sum_by (makes lanes) (below n) ≤ lanes) → (b : Bool) → nat_lt n lanes ≡ b → (sum_by (makes lanes) (below (suc n)) ≤ suc n) × (sum_by (makes lanes) (below (suc n)) ≤ lanes)
    by_row r true e =
        let lt = ltb-true n lanes e in
        let m = makes_one (n / lanes) in
        let a = r.0 in
        (omega (arith, a, m, s), omega (arith, a, m, s, lt))
    by_row r false e =
        let z = by_quotient (n / lanes) refl (ltb-false n lanes e) in
        let a = r.0 in
        let b = r.1 in
        (omega (arith, a, z, s), omega (arith, b, z, s))

-- ---- a whole script

-- no mailbox of a lane is there
abbrev pub AreFree : ℕ → Lists → Type 0
AreFree lanes start = (lane : ℕ) → 1 ≤ lane → lane ≤ lanes → mailbox_named (lane_name lane) start ≡ None

within_turns : (count : ℕ) (turns : List Turn) → AllByRecursion (λ i. i < count) (map place_of turns) → AllByRecursion (λ (turn : Turn). turn.place < count) turns
within_turns count [] w = tt
within_turns count (turn ∷ turns) w = (w.0, within_turns count turns w.1)

pub all_are_whole : (E : Lists → Type 0) (stops : Reply → Bool) (lanes number count : ℕ) → 1 ≤ lanes → lanes ≤ 64 → count ≤ 100000 → (turns : List Turn) (start : Lists)
    → AreAllPlaces count (map place_of turns) → RiseInLanes (λ i. i % lanes + 1) (map place_of turns) → AreFree lanes start → E start → length start + lanes ≤ 1024
    → AllByRecursion (λ turn. stops turn.answer ≡ false) turns → AreTurns E stops lanes number start turns → IsWhole lanes number start turns
all_are_whole E stops lanes number count one most few turns start all rise free more room unhindered steps =
    let sum = sum_of_all (makes lanes) count (map place_of turns) all in
    let made = (makes_few lanes count one).1 in
    course_is_whole E stops lanes number count one most few turns start (λ lane. 0) (within_turns count turns all.within) (all_left count lanes (map place_of turns) all) rise
    (λ lane some low. inl (refl, free lane some low)) more (omega (arith, sum, made, room)) unhindered steps

-- ---- in order

abbrev pub anything : Lists → Type 0
anything lists = Unit {0}

times_push : (j n : ℕ) (xs : List ℕ) → times j (xs ++ n ∷ []) ≡ times j xs + (cond (n == j) 1 0)
times_push j n xs = sum_by_push (λ (x : ℕ). cond (x == j) 1 0) xs n

none_below : (n j : ℕ) → n ≤ j → times j (below n) ≡ 0
none_below zero j le = refl
none_below (suc n) j le = by_test (none_below n j (omega (arith, le))) (n == j) refl
  where
    by_test : times j (below n) ≡ 0 → (b : Bool) → (n == j) ≡ b → times j (below (suc n)) ≡ 0
    by_test r true e = let k = eqb-true n j e in absurd (omega (arith, k, le))
    by_test r false e = let p = times_push j n (below n) in let z : ◌≡◌ {A = ℕ} (cond (n == j) 1 0) 0 = ap (λ (b : Bool). cond b 1 0) e in omega (arith, p, r, z)

once_in : (n j : ℕ) → j < n → times j (below n) ≡ 1
once_in zero j lt = absurd (omega (arith, lt))
once_in (suc n) j lt = by_test (λ less. once_in n j less) (n == j) refl
  where
    by_test : (j < n → times j (below n) ≡ 1) → (b : Bool) → (n == j) ≡ b → times j (below (suc n)) ≡ 1
    by_test next true e =
        let k = eqb-true n j e in
        let p = times_push j n (below n) in
        let z : ◌≡◌ {A = ℕ} (cond (n == j) 1 0) 1 = ap (λ (b : Bool). cond b 1 0) e in
        let r = none_below n j (omega (arith, k)) in
        omega (arith, p, r, z)
    by_test next false e =
        let apart = eqb-false n j e in
        let p = times_push j n (below n) in
        let z : ◌≡◌ {A = ℕ} (cond (n == j) 1 0) 0 = ap (λ (b : Bool). cond b 1 0) e in
        let r = next (omega (arith, lt, apart)) in
        omega (arith, p, r, z)

all_push : (P : ℕ → Type 0) (xs : List ℕ) (y : ℕ) → AllByRecursion P xs → P y → AllByRecursion P (xs ++ y ∷ [])
all_push P [] y a h = (h, tt)
all_push P (x ∷ xs) y a h = (a.0, all_push P xs y a.1 h)

all_below : (count n : ℕ) → n ≤ count → AllByRecursion (λ i. i < count) (below n)
all_below count zero le = tt
all_below count (suc n) le = all_push (λ i. i < count) (below n) n (all_below count n (omega (arith, le))) (omega (arith, le))

rise_push : (lane : ℕ → ℕ) (xs : List ℕ) (n : ℕ) → RiseInLanes lane xs → AllByRecursion (λ i. i < n) xs → RiseInLanes lane (xs ++ n ∷ [])
rise_push lane [] n rise less = (tt, tt)
rise_push lane (x ∷ xs) n rise less =
    (all_push (λ b. lane x ≡ lane b → x ≤ b) xs n rise.0 (λ same. let lt = less.0 in omega (arith, lt)), rise_push lane xs n rise.1 less.1)

rise_below : (lane : ℕ → ℕ) (n : ℕ) → RiseInLanes lane (below n)
rise_below lane zero = tt
rise_below lane (suc n) = rise_push lane (below n) n (rise_below lane n) (all_below n n (omega arith))

-- the turns of the script's own order
turns_in_order : ℕ → ℕ → Lists → List ℕ → List Turn
turns_in_order lanes number old [] = []
turns_in_order lanes number old (i ∷ xs) =
    record { place = i; answer = reply.Done; left = lists_done (made_request lanes number i).1 old } ∷ turns_in_order lanes number (lists_done (made_request lanes number i).1 old) xs

done_is : (q : Request) (old : Lists) → IsReady q old → IsDone q old (lists_done q old)
done_is (request.Make name) old h = (0, refl)
done_is (request.Deliver name time octets) old h = (record { uid = 0; flags = 0; time = time; guid = []; octets = octets; words = [] }, refl, refl)
done_is (request.Copy name uid target) old h = (h.0.message, h.0.there, ap (λ (o : Option ListedMessage). option_map_or (λ message. add_message target message old) o old) h.0.there)
done_is (request.Expunge name uid) old h = refl
done_is (request.Flag name uid flags) old h = refl
done_is q old h = absurd h

places_are : (lanes number : ℕ) (old : Lists) (xs : List ℕ) → map place_of (turns_in_order lanes number old xs) ≡ xs
unfolding turns_in_order
places_are lanes number old [] = refl
places_are lanes number old (i ∷ xs) = ap (λ (t : List ℕ). i ∷ t) (places_are lanes number (lists_done (made_request lanes number i).1 old) xs)

unhindered : (lanes number : ℕ) (old : Lists) (xs : List ℕ) → AllByRecursion (λ (turn : Turn). is_hindered turn.answer ≡ false) (turns_in_order lanes number old xs)
unfolding turns_in_order
unhindered lanes number old [] = tt
unhindered lanes number old (i ∷ xs) = (refl, unhindered lanes number (lists_done (made_request lanes number i).1 old) xs)

turns_are : (lanes number : ℕ) (old : Lists) (xs : List ℕ) → AreTurns anything is_hindered lanes number old (turns_in_order lanes number old xs)
unfolding turns_in_order
turns_are lanes number old [] = tt
turns_are lanes number old (i ∷ xs) = (λ ready more. inr (refl, done_is (made_request lanes number i).1 old ready, tt), turns_are lanes number (lists_done (made_request lanes number i).1 old) xs)

left_is : (lanes number : ℕ) (old : Lists) (xs : List ℕ) → left_of old (turns_in_order lanes number old xs) ≡ fold (λ now asked. lists_done asked.1 now) old (map (made_request lanes number) xs)
unfolding turns_in_order
left_is lanes number old [] = refl
left_is lanes number old (i ∷ xs) = left_is lanes number (lists_done (made_request lanes number i).1 old) xs

-- What messages weigh in the end is what they weigh when the script is done in its own order.
pub weighs_in_order : (v : ℕ → ℕ) (lanes number count : ℕ) → 1 ≤ lanes → lanes ≤ 64 → count ≤ 100000 → (turns : List Turn) (start : Lists)
    → AreAllPlaces count (map place_of turns) → AreFree lanes start → length start + lanes ≤ 1024 → IsWhole lanes number start turns
    → weight_of v (left_of start turns) ≡ weight_of v (fold (λ now asked. lists_done asked.1 now) start (map (made_request lanes number) (below count)))
weighs_in_order v lanes number count one most few turns start all free room whole =
    let own = turns_in_order lanes number start (below count) in
    let places = places_are lanes number start (below count) in
    let own_all : AreAllPlaces count (map place_of own) = subst (AreAllPlaces count) (sym places) (record { once = once_in count; within = all_below count count (omega arith) }) in
    let own_rise : RiseInLanes (λ i. i % lanes + 1) (map place_of own) = subst (RiseInLanes (λ i. i % lanes + 1)) (sym places) (rise_below (λ i. i % lanes + 1) count) in
    let own_whole = all_are_whole anything is_hindered lanes number count one most few own start own_all own_rise free tt room (unhindered lanes number start (below count)) (turns_are lanes number start (below count)) in
    let w = whole.weighs v in
    let o = own_whole.weighs v in
    let a = sum_of_all (adds v lanes number) count (map place_of turns) all in
    let t = sum_of_all (takes v lanes number) count (map place_of turns) all in
    let b = sum_of_all (adds v lanes number) count (map place_of own) own_all in
    let s = sum_of_all (takes v lanes number) count (map place_of own) own_all in
    let same : weight_of v (left_of start turns) ≡ weight_of v (left_of start own) = omega (arith, w, o, a, t, b, s) in
    same ∙ ap (weight_of v) (left_is lanes number start (below count))
