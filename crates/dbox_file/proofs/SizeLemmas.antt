-- Which digits can begin a body's size.
use Rattle.std.specs.Prelude.{◌≡◌, ◌≤◌, ◌<◌, ◌+◌, ◌-◌, ◌*◌, true, ℕ, zero, suc, replicate, take, drop, min, List, [], ◌∷◌, ◌++◌, length, refl, IsTrue, Option, Some, None, option_and_then, ◌⊎◌}
use Rattle.std.specs.Char.{is_ascii_hexdigit}
use Rattle.std.specs.List.{list_all}
use Rattle.std.proofs.Common.{sym, ◌∙◌, ap, subst, length-append, append-nil, append_assoc, inl, inr, arith, length-drop}
use Rattle.std.proofs.lemmas.Grind.{common_steps}
use Rattle.std.proofs.lemmas.Bool.{eqb-true, eq-eqb}
use Rattle.std.proofs.lemmas.Bool.Decides.{nat_tests}
use Rattle.std.proofs.lemmas.List.{length-replicate, take_all, take-take, take-append-le, take-append-drop}
use Rattle.std.proofs.lemmas.Option.{option_and_then_some}
use Rattle.mdbox_base.specs.Numbers.{hex_digit_value, hex_from}
use Rattle.model_storage.specs.Grammars.{Begins, IsFrontOf, IsPrefixFree}
use Rattle.model_octets.proofs.PiecesLemmas.{split_same}
use Rattle.model_storage.proofs.FileLemmas.{first, second}
use Rattle.dbox_file.specs.declared.reading.Flaw.TheVariants.{Short, Bad}
use Rattle.dbox_file.specs.Reading.{Flawed}
use Rattle.dbox_file.specs.Sizes.{IsSize, is_zero_digit}
use Rattle.dbox_file.proofs.RunLemmas.{all_front, all_back, all_joined, all_replicated}

digit_counts : (c : ℕ) → is_ascii_hexdigit c ≡ true → hex_digit_value c ≡ None → ⊥
digit_counts c h e = grind (arith, common_steps, nat_tests)

there : {X : Type 0} → (o : Option X) → (o ≡ None → ⊥) → (x : X) × (o ≡ Some x)
there None h = absurd (h refl)
there (Some x) h = (x, refl)

digit_of_value : (c d : ℕ) → hex_digit_value c ≡ Some d → (is_ascii_hexdigit c ≡ true) × (d ≤ 15)
digit_of_value c d h = grind (arith, common_steps, nat_tests)

zero_digit : (c : ℕ) → hex_digit_value c ≡ Some 0 → c ≡ 48
zero_digit c h = grind (arith, common_steps, nat_tests)

-- what a digit weighs that so many follow
abbrev weight : ℕ → ℕ
weight zero = 1
weight (suc k) = 16 * weight k

-- digits behind others: their number is at least what those weigh, and each is a digit
from_digits : (ds : List ℕ) (high n : ℕ) → hex_from high ds ≡ Some n → IsTrue (list_all is_ascii_hexdigit ds) × (high * weight (length ds) ≤ n) × (n < (high + 1) * weight (length ds))
from_digits [] high n e = let h : high ≡ n = cc in (refl, omega (arith, h), omega (arith, h))
from_digits (c ∷ ds) high n e =
    let p : (d : ℕ) × (hex_digit_value c ≡ Some d) × (hex_from (16 * high + d) ds ≡ Some n) = option_and_then_some (λ (d : ℕ). hex_from (16 * high + d) ds) (hex_digit_value c) n e (λ d f g. (d, f, g)) in
    let q = digit_of_value c p.0 p.1 in
    let r = from_digits ds (16 * high + p.0) n p.2 in (
      rw q.0 r.0,
      weigh_low (weight (length ds)) high p.0 n r.1,
      weigh_high (weight (length ds)) high p.0 n q.1 r.2,
    )
  where
    weigh_low : (w high d n : ℕ) → (16 * high + d) * w ≤ n → high * (16 * w) ≤ n
    weigh_low w high d n h = grind arith

    weigh_high : (w high d n : ℕ) → d ≤ 15 → n < (16 * high + d + 1) * w → n < (high + 1) * (16 * w)
    weigh_high w high d n f h = grind arith

-- digits have a number
digits_count : (ds : List ℕ) (high : ℕ) → IsTrue (list_all is_ascii_hexdigit ds) → hex_from high ds ≡ None → ⊥
digits_count [] high h e = cc e
digits_count (c ∷ ds) high h e =
    let d = there (hex_digit_value c) (digit_counts c (first (is_ascii_hexdigit c) (list_all is_ascii_hexdigit ds) h)) in
    digits_count ds (16 * high + d.0) (second (is_ascii_hexdigit c) (list_all is_ascii_hexdigit ds) h) (sym (ap (λ (o : Option ℕ). option_and_then (λ (v : ℕ). hex_from (16 * high + v) ds) o) d.1) ∙ e)

-- zeros in front change nothing
zeros_in_front : (a b : List ℕ) → IsTrue (list_all is_zero_digit a) → hex_from 0 (a ++ b) ≡ hex_from 0 b
zeros_in_front [] b h = refl
zeros_in_front (c ∷ a) b h =
    let e : c ≡ 48 = eqb-true c 48 (first (is_zero_digit c) (list_all is_zero_digit a) h) in
    rw e (zeros_in_front a b (second (is_zero_digit c) (list_all is_zero_digit a) h))

weight_least : (k : ℕ) → 1 ≤ weight k
weight_least zero = omega arith
weight_least (suc k) = omega (arith, weight_least k)

weight_rises : (k : ℕ) → weight 8 ≤ weight (k + 8)
weight_rises zero = omega arith
weight_rises (suc k) = rw (suc_add k) (omega (arith, weight_rises k, weight_least (k + 8)))
  where
    suc_add : (k : ℕ) → suc k + 8 ≡ suc (k + 8)
    suc_add k = omega arith

-- of more than eight digits of a number below 16 ^ 8, all but the last eight are zeros
zeros_lead : (k : ℕ) (ds : List ℕ) (n : ℕ) → length ds ≡ k + 8 → hex_from 0 ds ≡ Some n → n < weight 8 → IsTrue (list_all is_zero_digit (take k ds))
zeros_lead zero ds n l e h = refl
zeros_lead (suc k) [] n l e h = absurd (omega (arith, l))
zeros_lead (suc k) (c ∷ ds) n l e h =
    let p : (d : ℕ) × (hex_digit_value c ≡ Some d) × (hex_from (16 * 0 + d) ds ≡ Some n) = option_and_then_some (λ (d : ℕ). hex_from (16 * 0 + d) ds) (hex_digit_value c) n e (λ d f g. (d, f, g)) in
    let long : length ds ≡ k + 8 = omega (arith, l) in
    let least : (16 * 0 + p.0) * weight (length ds) ≤ n = (from_digits ds (16 * 0 + p.0) n p.2).1 in
    let rises : weight 8 ≤ weight (length ds) = rw long (weight_rises k) in
    let none : p.0 ≡ 0 = no_weight p.0 (weight (length ds)) n (weight 8) least rises h in
    let mark : c ≡ 48 = zero_digit c (p.1 ∙ ap Some none) in
    let rest : hex_from 0 ds ≡ Some n = ap (λ (d : ℕ). hex_from d ds) (sym (same_high p.0 none)) ∙ p.2 in
    rw (eq-eqb c 48 mark) (zeros_lead k ds n long rest h)
  where
    no_weight : (d w n m : ℕ) → (16 * 0 + d) * w ≤ n → m ≤ w → n < m → d ≡ 0
    no_weight zero w n m a b h = refl
    no_weight (suc d) w n m a b h = absurd (grind arith)

    same_high : (d : ℕ) → d ≡ 0 → 16 * 0 + d ≡ 0
    same_high d e = omega arith

-- zeros and at most eight digits more, sixteen in all, are a size
size_of : (a b t : List ℕ) → t ≡ a ++ b → IsTrue (list_all is_zero_digit a) → IsTrue (list_all is_ascii_hexdigit b) → length b ≤ 8 → length t ≡ 16 → (n : ℕ) × IsSize t n
size_of a b t e pa pb l n =
    let d = there (hex_from 0 b) (digits_count b 0 pb) in
    let r = (from_digits b 0 d.0 d.1).2 in (
      d.0,
      record {
        count = n;
        value = ap (hex_from 0) e ∙ zeros_in_front a b pa ∙ d.1;
        fits = low_weight (length b) d.0 l r;
      },
    )
  where
    low_weight : (k n : ℕ) → k ≤ 8 → n < (0 + 1) * weight k → n ≤ 4294967295
    low_weight k n l h = omega (arith, h, weight_most k l)
      where
        below : (k j : ℕ) → weight k ≤ weight (j + k)
        below k zero = rw (none_more k) (omega arith)
          where
            none_more : (k : ℕ) → 0 + k ≡ k
            none_more k = omega arith
        below k (suc j) = rw (one_more j k) (omega (arith, below k j, weight_least (j + k)))
          where
            one_more : (j k : ℕ) → suc j + k ≡ suc (j + k)
            one_more j k = omega arith

        weight_most : (k : ℕ) → k ≤ 8 → weight k ≤ 4294967296
        weight_most k l = let e : (8 - k) + k ≡ 8 = omega arith in let h : weight k ≤ weight 8 = subst (λ (j : ℕ). weight k ≤ weight j) e (below k (8 - k)) in h

at_most : (n m : ℕ) → (n ≤ m) ⊎ (m < n)
at_most zero m = inl (omega arith)
at_most (suc n) zero = inr (omega arith)
at_most (suc n) (suc m) = elim (at_most n m) [ inl h ↦ inl (omega (arith, h)) | inr h ↦ inr (omega (arith, h)) ]

-- fewer than sixteen octets begin with no size
too_short : (t : List ℕ) → length t < 16 → Begins IsSize t → ⊥
too_short t h q = omega (arith, h, ap length q.3, length-append q.0 q.1, q.4.count)

-- they are the front of one where the first eight are zeros and the others digits
pub size_short : (t : List ℕ) → length t < 16 → IsTrue (list_all is_zero_digit (take (min (length t) 8) t)) → IsTrue (list_all is_ascii_hexdigit (drop (min (length t) 8) t)) → Flawed IsSize t Short
size_short t h pa pb = (too_short t h, more_of (at_most (length t) 8))
  where
    missing : List ℕ
    missing = replicate (16 - length t) 48

    whole : length (t ++ missing) ≡ 16
    whole = omega (arith, h, length-append t missing, length-replicate {A = ℕ} (16 - length t) 48)

    more_of : (length t ≤ 8) ⊎ (8 < length t) → IsFrontOf IsSize t
    more_of (inl l) =
        let front : take (min (length t) 8) t ≡ t = take_all (min (length t) 8) t (omega arith) in
        let zeros : IsTrue (list_all is_zero_digit (t ++ missing)) = all_joined is_zero_digit t missing (subst (λ (o : List ℕ). IsTrue (list_all is_zero_digit o)) front pa) (all_replicated is_zero_digit (16 - length t) 48 refl) in
        let s = size_of (t ++ missing) [] (t ++ missing) (sym (append-nil (t ++ missing))) zeros refl (omega arith) whole in
        (missing, s.0, s.1)
    more_of (inr l) =
        let cut : min (length t) 8 ≡ 8 = omega arith in
        let digits : IsTrue (list_all is_ascii_hexdigit (drop (min (length t) 8) t ++ missing)) = all_joined is_ascii_hexdigit (drop (min (length t) 8) t) missing pb (all_replicated is_ascii_hexdigit (16 - length t) 48 refl) in
        let e : t ++ missing ≡ take (min (length t) 8) t ++ (drop (min (length t) 8) t ++ missing) =
        ap (λ (o : List ℕ). o ++ missing) (sym (take-append-drop (min (length t) 8) t)) ∙ append_assoc (take (min (length t) 8) t) (drop (min (length t) 8) t) missing in
        let n : length (drop (min (length t) 8) t ++ missing) ≤ 8 = omega (arith, h, l, cut, length-append (drop (min (length t) 8) t) missing, length-drop (min (length t) 8) t, length-replicate {A = ℕ} (16 - length t) 48) in
        let s = size_of (take (min (length t) 8) t) (drop (min (length t) 8) t ++ missing) (t ++ missing) e pa digits n whole in
        (missing, s.0, s.1)

front_of_front : (t more : List ℕ) (n m : ℕ) → n ≤ m → n ≤ length t → (c : List ℕ) × (take m (t ++ more) ≡ take n t ++ c)
front_of_front t more n m l h =
    let e : take n (take m (t ++ more)) ≡ take n t = take-take n m (t ++ more) l ∙ take-append-le n t more h in
    (drop n (take m (t ++ more)), sym (take-append-drop n (take m (t ++ more))) ∙ ap (λ (o : List ℕ). o ++ drop n (take m (t ++ more))) e)

pub size_late : (t : List ℕ) → length t < 16 → (IsTrue (list_all is_zero_digit (take (min (length t) 8) t)) → IsTrue (list_all is_ascii_hexdigit (drop (min (length t) 8) t)) → ⊥) → Flawed IsSize t Bad
size_late t h none = (
  too_short t h,
  λ q. let p = q.2 in
      let all = from_digits (t ++ q.0) 0 q.1 p.value in
      let zeros = zeros_lead 8 (t ++ q.0) q.1 (p.count ∙ refl) p.value (omega (arith, p.fits)) in
      let f = front_of_front t q.0 (min (length t) 8) 8 (omega arith) (omega arith) in
      let high = all_front is_zero_digit (take (min (length t) 8) t) f.0 (subst (λ (o : List ℕ). IsTrue (list_all is_zero_digit o)) f.1 zeros) in
      let part = all_front is_ascii_hexdigit t q.0 all.0 in
      let low = all_back is_ascii_hexdigit (take (min (length t) 8) t) (drop (min (length t) 8) t) (subst (λ (o : List ℕ). IsTrue (list_all is_ascii_hexdigit o)) (sym (take-append-drop (min (length t) 8) t)) part) in
      none high low,
)

-- sixteen octets that are no size begin with none
pub no_size : (t digits rest : List ℕ) → t ≡ digits ++ rest → length digits ≡ 16 → ((n : ℕ) → IsSize digits n → ⊥) → Flawed IsSize t Bad
no_size t digits rest e l none = (
  λ q. let s = split_same q.0 digits q.1 rest (q.4.count ∙ sym l) (sym q.3 ∙ e) in none q.2 (subst (λ (o : List ℕ). IsSize o q.2) s.0 q.4),
  λ q. let f : (t ++ q.0) ++ [] ≡ digits ++ (rest ++ q.0) = append-nil (t ++ q.0) ∙ ap (λ (o : List ℕ). o ++ q.0) e ∙ append_assoc digits rest q.0 in
      let s = split_same (t ++ q.0) digits [] (rest ++ q.0) (q.2.count ∙ sym l) f in
      none q.1 (subst (λ (o : List ℕ). IsSize o q.1) s.0 q.2),
)

-- no size is the front of another
pub size_free : IsPrefixFree IsSize
size_free a b x y m n pa pb e =
    let s = split_same a b x y (pa.count ∙ sym pb.count) e in
    let v : Some m ≡ Some n = sym pa.value ∙ ap (hex_from 0) s.0 ∙ pb.value in
    (s.0, cc v)
