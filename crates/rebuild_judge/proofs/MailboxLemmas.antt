-- The mailboxes that are met, each once.
use Rattle.std.proofs.Common.{refl, ◌≡◌, ◌<◌, ◌≤◌, ◌+◌, ℕ, suc, Bool, true, false, not, cond, List, [], ◌∷◌, ◌++◌, length, min, get_or, set, sym, ◌∙◌, ap, arith, Option, Some, None}
use Rattle.std.proofs.lemmas.Bool.Decides.{nat_tests}
use Rattle.std.proofs.lemmas.List.Folds.{find_at}
use Rattle.std.proofs.lemmas.Option.{slice_get_past, slice_get_read}
use Rattle.std.specs.List.{find, position, position_or_len}
use Rattle.std.specs.Option.{option_map_or}
use Rattle.std.specs.Prelude.{nat_le, nat_lt, slice_get}
use Rattle.std.specs.Str.{bytes_eq}
use Rattle.rebuild_judge.specs.Kept.{are_full, with_one_more}
use Rattle.rebuild_judge.specs.declared.mailboxes.MetMailbox.{MetMailbox}

abbrev pub is_of : List ℕ → MetMailbox → Bool
is_of name m = bytes_eq m.name name

-- ---- the place of one

place_cases : (n long place : ℕ) (b : Bool) → nat_lt n long ≡ b → cond b (Some n) None ≡ Some place → (n ≡ place) × (n < long)
place_cases n long place true t e = (cc e, grind (arith, nat_tests, t))
place_cases n long place false t e = absurd (cc e)

pub place_is : (name : List ℕ) (met : List MetMailbox) (place : ℕ) → position (is_of name) met ≡ Some place → (position_or_len (is_of name) met ≡ place) × (place < length met)
place_is name met place e =
    let p = place_cases (position_or_len (is_of name) met) (length met) place (nat_lt (position_or_len (is_of name) met) (length met)) refl e in
    (p.0, let a = p.0 in let b = p.1 in omega (arith, a, b))

none_cases : (n long : ℕ) (b : Bool) → nat_lt n long ≡ b → cond b (Some n) None ≡ None → long ≤ n
none_cases n long true t e = absurd (cc e)
none_cases n long false t e = grind (arith, nat_tests, t)

pub place_none : (name : List ℕ) (met : List MetMailbox) → position (is_of name) met ≡ None → length met ≤ position_or_len (is_of name) met
place_none name met e = none_cases (position_or_len (is_of name) met) (length met) (nat_lt (position_or_len (is_of name) met) (length met)) refl e

found_there : (name : List ℕ) (met : List MetMailbox) (place : ℕ) (m : MetMailbox) → position (is_of name) met ≡ Some place → m ≡ get_or met place m → find (is_of name) met ≡ Some m
found_there name met place m e is =
    let p = place_is name met place e in
    find_at (is_of name) met ∙ (ap (slice_get met) p.0 ∙ slice_get_read met (length met) place m refl p.1 is)

pub full_there : (name : List ℕ) (met : List MetMailbox) (place : ℕ) (m : MetMailbox) → position (is_of name) met ≡ Some place → m ≡ get_or met place m → are_full name met ≡ nat_le 1000000 m.count
full_there name met place m e is = ap (λ (o : Option MetMailbox). option_map_or (λ (x : MetMailbox). nat_le 1000000 x.count) o (nat_le 1024 (length met))) (found_there name met place m e is)

pub full_none : (name : List ℕ) (met : List MetMailbox) → position (is_of name) met ≡ None → are_full name met ≡ nat_le 1024 (length met)
full_none name met e =
    ap (λ (o : Option MetMailbox). option_map_or (λ (x : MetMailbox). nat_le 1000000 x.count) o (nat_le 1024 (length met))) (find_at (is_of name) met ∙ slice_get_past met (position_or_len (is_of name) met) (place_none name met e))

pub few_there : (name : List ℕ) (met : List MetMailbox) (place : ℕ) (m : MetMailbox) → position (is_of name) met ≡ Some place → m ≡ get_or met place m → are_full name met ≡ false → m.count < 1000000
few_there name met place m e is full = few m.count (sym (full_there name met place m e is) ∙ full)
  where
    few : (n : ℕ) → nat_le 1000000 n ≡ false → n < 1000000
    few n t = grind (arith, nat_tests, t)

-- ---- one message more

abbrev pub one_more : MetMailbox → MetMailbox
one_more m = record { name = m.name; count = m.count + 1 }

set_step : (name : List ℕ) (m : MetMailbox) (rest : List MetMailbox) (k : ℕ) (d : MetMailbox) (b : Bool) → is_of name m ≡ b → k ≡ cond (not b) (1 + position_or_len (is_of name) rest) 0
    → ((j : ℕ) → j ≡ position_or_len (is_of name) rest → j < length rest → set rest j (one_more (get_or rest j d)) ≡ with_one_more name rest) → k < suc (length rest) → set (m ∷ rest) k (one_more (get_or (m ∷ rest) k d)) ≡ with_one_more name (m ∷ rest)
set_step name m rest k d true t e more h = let z : k ≡ 0 = e in rw z (rw t refl)
set_step name m rest k d false t e more h =
    let j = position_or_len (is_of name) rest in
    let s : k ≡ suc j = omega (arith, e) in
    rw s (rw t (ap (λ (xs : List MetMailbox). m ∷ xs) (more j refl (omega (arith, h, s)))))

set_met : (name : List ℕ) (met : List MetMailbox) (k : ℕ) (d : MetMailbox) → k ≡ position_or_len (is_of name) met → k < length met → set met k (one_more (get_or met k d)) ≡ with_one_more name met
set_met name [] k d e h = absurd (omega (arith, h))
set_met name (m ∷ rest) k d e h = set_step name m rest k d (is_of name m) refl e (λ j f l. set_met name rest j d f l) h

pub one_more_there : (name : List ℕ) (met : List MetMailbox) (place : ℕ) (m : MetMailbox) → position (is_of name) met ≡ Some place → m ≡ get_or met place m → set met place (one_more m) ≡ with_one_more name met
one_more_there name met place m e is =
    let p = place_is name met place e in
    ap (λ (x : MetMailbox). set met place (one_more x)) is ∙ set_met name met place m (sym p.0) p.1

pub one_more_capped : (name : List ℕ) (met : List MetMailbox) (place count : ℕ) (m n : MetMailbox) → position (is_of name) met ≡ Some place → m ≡ get_or met place m → n ≡ get_or met place n → count ≡ min (n.count + 1) 18446744073709551615
    → are_full name met ≡ false → set met place (record { name = m.name; count = count }) ≡ with_one_more name met
one_more_capped name met place count m n e is also capped full =
    let few = few_there name met place n e also full in
    let both : Some n ≡ Some m = sym (found_there name met place n e also) ∙ found_there name met place m e is in
    let same : n ≡ m = cc both in
    let k : count ≡ n.count + 1 = omega (arith, capped, few) in
    ap (λ (x : ℕ). set met place (record { name = m.name; count = x })) (k ∙ ap (λ (x : MetMailbox). x.count + 1) same) ∙ one_more_there name met place m e is

new_step : (name : List ℕ) (m : MetMailbox) (rest : List MetMailbox) (b : Bool) → is_of name m ≡ b → suc (length rest) ≤ cond (not b) (1 + position_or_len (is_of name) rest) 0
    → (length rest ≤ position_or_len (is_of name) rest → rest ++ record { name = name; count = 1 } ∷ [] ≡ with_one_more name rest) → m ∷ (rest ++ record { name = name; count = 1 } ∷ []) ≡ with_one_more name (m ∷ rest)
new_step name m rest true t h more = absurd (omega (arith, h))
new_step name m rest false t h more = rw t (ap (λ (xs : List MetMailbox). m ∷ xs) (more (omega (arith, h))))

new_met : (name : List ℕ) (met : List MetMailbox) → length met ≤ position_or_len (is_of name) met → met ++ record { name = name; count = 1 } ∷ [] ≡ with_one_more name met
new_met name [] h = refl
new_met name (m ∷ rest) h = new_step name m rest (is_of name m) refl h (new_met name rest)

pub one_more_new : (name : List ℕ) (met : List MetMailbox) → position (is_of name) met ≡ None → met ++ record { name = name; count = 1 } ∷ [] ≡ with_one_more name met
one_more_new name met e = new_met name met (place_none name met e)
