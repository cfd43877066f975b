-- Words, each behind one space, and keywords behind their number.
use Rattle.std.specs.Prelude.{◌≡◌, ◌≢◌, ◌<◌, ◌≤◌, ◌*◌, ◌^◌, ℕ, true, List, [], ◌∷◌, ◌++◌, ◌==◌, length, slice_index, IsTrue, All, refl}
use Rattle.std.specs.List.{list_all}
use Rattle.std.proofs.Common.{sym, ◌∙◌, ap, subst, arith, append_assoc, append-nil, length-append}
use Rattle.std.proofs.lemmas.Bool.{eqb-true}
use Rattle.std.proofs.lemmas.List.{take_all}
use Rattle.std.proofs.lemmas.List.Elements.{All-tail}
use Rattle.mdbox_base.specs.Keywords.{AreWords, IsAtomOctet, IsKeyword}
use Rattle.mdbox_base.specs.Numbers.{decimal_text}
use Rattle.mdbox_base.specs.Words.{is_other_than}
use Rattle.script_text.specs.Reading.{AreTextsOf, IsAtSpace, each_spaced}
use Rattle.script_text.specs.Script.{spaced}
use Rattle.script_text.proofs.CutLemmas.{all_both, both, no_cut, none_before, number_clear, other_at, until_same}

-- a text in which this octet doesn't occur
abbrev pub HasNone : ℕ → List ℕ → Type 0
HasNone mark text = IsTrue (list_all (is_other_than mark) text)

first_of_all : (P : List ℕ → Type 0) (word : List ℕ) (words : List (List ℕ)) → All P (word ∷ words) → P word
first_of_all P word words h = h 0 [] (omega arith)

-- a space stands between any two words where one stands before each but the first
pub spaced_each : (word : List ℕ) (words : List (List ℕ)) → spaced (word ∷ words) ≡ word ++ each_spaced words
spaced_each word [] = sym (append-nil word)
spaced_each word (next ∷ words) = ap (λ (t : List ℕ). word ++ 32 ∷ t) (spaced_each next words)

-- ---- octets that don't occur

-- no blank and no control octet is one of an atom
pub atom_clear : (mark : ℕ) (word : List ℕ) → mark < 33 → All IsAtomOctet word → HasNone mark word
atom_clear mark [] low h = refl
atom_clear mark (c ∷ word) low h =
    let at : IsAtomOctet c = h 0 0 (omega arith) in
    let least = at.low in
    both (is_other_than mark c) _ (other_at mark c (λ e. let k : c ≡ mark = eqb-true c mark e in omega (arith, k, low, least))) (atom_clear mark word low (All-tail IsAtomOctet c word h))

pub keywords_have_none : (mark : ℕ) (words : List (List ℕ)) → mark < 33 → AreWords words → All (HasNone mark) words
keywords_have_none mark words low are = λ k d lt. atom_clear mark _ low (are.each k d lt).atom

pub each_has_none : (mark : ℕ) (words : List (List ℕ)) → is_other_than mark 32 ≡ true → All (HasNone mark) words → HasNone mark (each_spaced words)
each_has_none mark [] other h = refl
each_has_none mark (word ∷ words) other h =
    both (is_other_than mark 32) _ other (all_both (is_other_than mark) word (each_spaced words) (first_of_all (HasNone mark) word words h) (each_has_none mark words other (All-tail (HasNone mark) word words h)))

-- ---- the first word

pub at_space : (words : List (List ℕ)) (more : List ℕ) → IsAtSpace more → IsAtSpace (each_spaced words ++ more)
at_space [] more h = h
at_space (word ∷ words) more h = refl

-- a text has one word in front and one rest
pub word_same : (a b x y : List ℕ) → HasNone 32 a → HasNone 32 b → IsAtSpace x → IsAtSpace y → a ++ x ≡ b ++ y → (a ≡ b) × (x ≡ y)
word_same a b [] [] p q h k e = (sym (append-nil a) ∙ e ∙ append-nil b, refl)
word_same a b [] (c ∷ y) p q h k e = absurd (no_cut 32 a b y p (sym (append-nil a) ∙ e ∙ ap (λ (o : ℕ). b ++ o ∷ y) k))
word_same a b (c ∷ x) [] p q h k e = absurd (no_cut 32 b a x q (sym (append-nil b) ∙ sym e ∙ ap (λ (o : ℕ). a ++ o ∷ x) h))
word_same a b (c ∷ x) (d ∷ y) p q h k e =
    let r = until_same 32 a b x y p q (sym (ap (λ (o : ℕ). a ++ o ∷ x) h) ∙ e ∙ ap (λ (o : ℕ). b ++ o ∷ y) k) in
    (r.0, ap (λ (t : List ℕ). c ∷ t) r.1 ∙ ap (λ (o : ℕ). o ∷ y) (h ∙ sym k))

-- ---- the words of a text

-- A text is these words and no others.
pub texts_same : (xs ys : List (List ℕ)) → All (HasNone 32) xs → All (HasNone 32) ys → each_spaced xs ≡ each_spaced ys → xs ≡ ys
texts_same [] [] p q e = refl
texts_same [] (y ∷ ys) p q e = absurd (cc e)
texts_same (x ∷ xs) [] p q e = absurd (cc e)
texts_same (x ∷ xs) (y ∷ ys) p q e =
    let f : x ++ each_spaced xs ≡ y ++ each_spaced ys = cc e in
    let r = word_same x y (each_spaced xs) (each_spaced ys) (first_of_all (HasNone 32) x xs p) (first_of_all (HasNone 32) y ys q) (subst IsAtSpace (append-nil (each_spaced xs)) (at_space xs [] tt)) (subst IsAtSpace (append-nil (each_spaced ys)) (at_space ys [] tt)) f in
    let s = texts_same xs ys (All-tail (HasNone 32) x xs p) (All-tail (HasNone 32) y ys q) r.1 in
    ap (λ (t : List ℕ). t ∷ xs) r.0 ∙ ap (λ (t : List (List ℕ)). y ∷ t) s

-- Behind these words comes another, so the text has more.
pub more_texts : (xs ys : List (List ℕ)) (more : List ℕ) → All (HasNone 32) xs → All (HasNone 32) ys → each_spaced xs ++ 32 ∷ more ≡ each_spaced ys → length xs < length ys
more_texts [] [] more p q e = absurd (cc e)
more_texts [] (y ∷ ys) more p q e = omega arith
more_texts (x ∷ xs) [] more p q e = absurd (cc e)
more_texts (x ∷ xs) (y ∷ ys) more p q e =
    let f : (x ++ each_spaced xs) ++ 32 ∷ more ≡ y ++ each_spaced ys = cc e in
    let r = word_same x y (each_spaced xs ++ 32 ∷ more) (each_spaced ys) (first_of_all (HasNone 32) x xs p) (first_of_all (HasNone 32) y ys q) (at_space xs (32 ∷ more) refl) (subst IsAtSpace (append-nil (each_spaced ys)) (at_space ys [] tt)) (sym (append_assoc x (each_spaced xs) (32 ∷ more)) ∙ f) in
    let s = more_texts xs ys more (All-tail (HasNone 32) x xs p) (All-tail (HasNone 32) y ys q) r.1 in
    omega (arith, s)

-- ---- keywords behind their number

pub small_count : (words : List (List ℕ)) → AreWords words → length words < 2 ^ 64
small_count words are = let few = are.few in omega (arith, few)

-- A text whose first word and rest are these is keywords behind their number: that word is the number, and the rest are the keywords.
pub counted_parts : (text number rest : List ℕ) (words : List (List ℕ)) → text ≡ number ++ rest → HasNone 32 number → IsAtSpace rest → AreWords words → text ≡ spaced (decimal_text (length words) ∷ words) → (number ≡ decimal_text (length words)) × AreTextsOf words rest
counted_parts text number rest words parts clear at are is =
    let r = word_same number (decimal_text (length words)) rest (each_spaced words) clear (number_clear 32 (length words) refl (small_count words are)) at (subst IsAtSpace (append-nil (each_spaced words)) (at_space words [] tt)) (sym parts ∙ is ∙ spaced_each (decimal_text (length words)) words) in
    (r.0, (keywords_have_none 32 words (omega arith) are, r.1))

pub counted_text : (text number rest : List ℕ) (count : ℕ) (words : List (List ℕ)) → text ≡ number ++ rest → number ≡ decimal_text count → length words ≡ count → AreTextsOf words rest → text ≡ spaced (decimal_text (length words) ∷ words)
counted_text text number rest count words parts is many are =
    parts ∙ ap (λ (t : List ℕ). t ++ rest) (is ∙ ap decimal_text (sym many)) ∙ ap (λ (t : List ℕ). decimal_text (length words) ++ t) are.1 ∙ sym (spaced_each (decimal_text (length words)) words)

-- keywords behind their number are told apart
pub counted_same : (a b : List (List ℕ)) → AreWords a → AreWords b → spaced (decimal_text (length a) ∷ a) ≡ spaced (decimal_text (length b) ∷ b) → a ≡ b
counted_same a b p q e =
    let r = counted_parts _ (decimal_text (length a)) (each_spaced a) b (spaced_each (decimal_text (length a)) a) (number_clear 32 (length a) refl (small_count a p)) (subst IsAtSpace (append-nil (each_spaced a)) (at_space a [] tt)) q e in
    texts_same a b (keywords_have_none 32 a (omega arith) p) r.1.0 r.1.1

-- no LF stands among them
pub counted_clear : (words : List (List ℕ)) → AreWords words → HasNone 10 (spaced (decimal_text (length words) ∷ words))
counted_clear words are =
    subst (HasNone 10) (sym (spaced_each (decimal_text (length words)) words)) (all_both (is_other_than 10) (decimal_text (length words)) (each_spaced words) (number_clear 10 (length words) refl (small_count words are)) (each_has_none 10 words refl (keywords_have_none 10 words (omega arith) are)))

each_short : (words : List (List ℕ)) → All IsKeyword words → length (each_spaced words) ≤ length words * 65
each_short [] h = omega arith
each_short (word ∷ words) h =
    let here : IsKeyword word = first_of_all IsKeyword word words h in
    let short = here.short in
    let rest = each_short words (All-tail IsKeyword word words h) in
    let l = length-append word (each_spaced words) in
    omega (arith, short, rest, l)

-- their text is not long
pub counted_short : (words : List (List ℕ)) → AreWords words → length (decimal_text (length words)) ≤ 20 → length (spaced (decimal_text (length words) ∷ words)) ≤ 2100
counted_short words are number =
    let few = are.few in
    let each = each_short words are.each in
    let l = length-append (decimal_text (length words)) (each_spaced words) in
    let same : length (spaced (decimal_text (length words) ∷ words)) ≡ length (decimal_text (length words) ++ each_spaced words) = ap length (spaced_each (decimal_text (length words)) words) in
    omega (arith, few, each, l, same, number)

-- ---- the words so far

-- where a space isn't met the text is at its end
pub ended : (text : List ℕ) → IsAtSpace text → ((rest : List ℕ) → text ≢ 32 ∷ rest) → text ≡ []
ended [] h none = refl
ended (c ∷ text) h none = absurd (none text (ap (λ (o : ℕ). o ∷ text) h))

-- where no octet is a space
pub whole_clear : (text : List ℕ) → ((k : ℕ) → 0 ≤ k → k < length text → (slice_index text k == 32) ≡ true → ⊥) → HasNone 32 text
whole_clear text none = subst (HasNone 32) (take_all (length text) text (omega arith)) (none_before 32 text (length text) none)
