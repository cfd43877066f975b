-- Laws of rejoining.
use Rattle.std.proofs.Common.{refl, ◌≡◌, ◌≤◌, ◌+◌, ℕ, Bool, true, false, List, [], ◌∷◌, ◌++◌, length, sym, ◌∙◌, ap, subst, arith, length-append, None}
use Rattle.std.specs.Prelude.{sum_by, ◌||◌, ◌==◌, nat_lt, option_map}
use Rattle.std.proofs.lemmas.Bool.Decides.{nat_tests}
use Rattle.std.proofs.lemmas.List.Sums.{sum_by-cons}
use Rattle.mdbox_base.specs.declared.metadata.ExtRef.{ExtRef}
use Rattle.model_octets.proofs.PiecesLemmas.{split_same}
use Rattle.model_attach.specs.Rejoined.{IsWhole, IsWholeFrom, part_text, is_bad, first_bad, found_size, first_differs, join_error, one_later}

less_no : (m n : ℕ) → n ≤ m → nat_lt m n ≡ false
less_no m n h = grind (arith, nat_tests)

same_yes : (m n : ℕ) → m ≡ n → (m == n) ≡ true
same_yes m n h = grind (arith, nat_tests)

all_three : (x y z : Bool) → x ≡ false → y ≡ false → z ≡ false → (x || (y || z)) ≡ false
all_three x y z e f g = rw (e, f, g)

-- the size of a whole
pub whole_size : (place : ℕ) (whole body : List ℕ) (refs : List ExtRef) (instances : List (List ℕ)) → IsWholeFrom place whole body refs instances → length whole ≡ length body + sum_by (λ ref. ref.count) refs
whole_size place whole body [] [] h = omega (arith, ap length h)
whole_size place whole body [] (octets ∷ instances) h = absurd h
whole_size place whole body (ref ∷ refs) [] h = absurd h
whole_size place whole body (ref ∷ refs) (octets ∷ instances) h =
    omega (arith, ap length h.3, length-append h.0 (part_text ref.form octets ++ h.1), length-append (part_text ref.form octets) h.1, ap length h.4, length-append h.0 h.2, h.6, sum_by-cons (λ (ref : ExtRef). ref.count) ref refs, whole_size (ref.start + ref.count) h.1 h.2 refs instances h.7)

-- its ranges are good
pub ranges_good : (place room : ℕ) (whole body : List ℕ) (refs : List ExtRef) (instances : List (List ℕ)) → IsWholeFrom place whole body refs instances
    → room ≡ place + length body → place + length whole ≤ 4294967295 → first_bad place room refs ≡ None
unfolding first_bad
ranges_good place room whole body [] instances h e fits = refl
ranges_good place room whole body (ref ∷ refs) [] h e fits = absurd h
ranges_good place room whole body (ref ∷ refs) (octets ∷ instances) h e fits =
    let long = ap length h.3 ∙ length-append h.0 (part_text ref.form octets ++ h.1) in
    let two = length-append (part_text ref.form octets) h.1 in
    let kept = ap length h.4 ∙ length-append h.0 h.2 in
    let good : is_bad place room ref ≡ false = all_three (nat_lt ref.start place) (nat_lt (room + ref.count) (ref.start + ref.count)) (nat_lt 4294967295 (ref.start + ref.count))
    (less_no ref.start place (omega (arith, h.5))) (less_no (room + ref.count) (ref.start + ref.count) (omega (arith, e, kept, h.5))) (less_no 4294967295 (ref.start + ref.count) (omega (arith, fits, long, two, h.5, h.6))) in
    rw good (ap (option_map (λ i. 1 + i)) (ranges_good (ref.start + ref.count) (room + ref.count) h.1 h.2 refs instances h.7 (omega (arith, e, kept, h.5)) (omega (arith, fits, long, two, h.5, h.6))))

pub texts_same : (place : ℕ) (whole body : List ℕ) (refs : List ExtRef) (instances : List (List ℕ)) → IsWholeFrom place whole body refs instances → first_differs refs instances ≡ None
unfolding first_differs
texts_same place whole body [] [] h = refl
texts_same place whole body [] (octets ∷ instances) h = absurd h
texts_same place whole body (ref ∷ refs) [] h = absurd h
texts_same place whole body (ref ∷ refs) (octets ∷ instances) h = rw (same_yes _ _ h.6) (ap (option_map one_later) (texts_same (ref.start + ref.count) h.1 h.2 refs instances h.7))

-- The body, references and instances of a whole are rejoined.
pub whole_accepted : (whole body : List ℕ) (refs : List ExtRef) (instances : List (List ℕ)) → IsWhole whole body refs instances → length whole ≤ 4294967295 → join_error body (length whole) refs instances ≡ None
whole_accepted whole body refs instances h fits =
    rw (ranges_good 0 (length body) whole body refs instances h (omega arith) (omega (arith, fits)), same_yes (length whole) (found_size (length body) refs) (whole_size 0 whole body refs instances h)) (texts_same 0 whole body refs instances h)

-- A body, references and instances have one whole.
pub whole_same : (place : ℕ) (v w body : List ℕ) (refs : List ExtRef) (instances : List (List ℕ)) → IsWholeFrom place v body refs instances → IsWholeFrom place w body refs instances → v ≡ w
whole_same place v w body [] [] a b = a ∙ sym b
whole_same place v w body [] (octets ∷ instances) a b = absurd a
whole_same place v w body (ref ∷ refs) [] a b = absurd a
whole_same place v w body (ref ∷ refs) (octets ∷ instances) a b =
    let fronts = split_same a.0 b.0 a.2 b.2 (omega (arith, a.5, b.5)) (sym a.4 ∙ b.4) in
    let rest = whole_same (ref.start + ref.count) a.1 b.1 a.2 refs instances a.7 (subst (λ (x : List ℕ). IsWholeFrom (ref.start + ref.count) b.1 x refs instances) (sym fronts.1) b.7) in
    a.3 ∙ ap (λ (x : List ℕ). x ++ (part_text ref.form octets ++ a.1)) fronts.0 ∙ ap (λ (x : List ℕ). b.0 ++ (part_text ref.form octets ++ x)) rest ∙ sym b.3
