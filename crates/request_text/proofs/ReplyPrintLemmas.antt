-- The text of a reply, piece by piece.
use Rattle.std.specs.Prelude.{◌≡◌, ◌≤◌, ◌<◌, ◌+◌, ℕ, List, [], ◌∷◌, ◌++◌, length, take, drop, get_or, flat_map, refl, Option}
use Rattle.std.proofs.Common.{sym, ◌∙◌, ap, subst, append_assoc, append-nil}
use Rattle.std.proofs.lemmas.Grind.{flat_map-append}
use Rattle.std.proofs.lemmas.List.{take-append-drop, take_all, take_more}
use Rattle.mdbox_base.specs.Numbers.{decimal_text}
use Rattle.request_text.specs.ReplyText.{keywords_text, numbers_text, ok_line}
use Rattle.piece_writer.specs.Pieces.{Gathers, WritesPrefix}
use Rattle.piece_writer.proofs.PieceLemmas.{cut_before, cut_more, passed_more, passed_kept}

numbers_split : (xs ys : List ℕ) → numbers_text (xs ++ ys) ≡ numbers_text xs ++ numbers_text ys
numbers_split [] ys = refl
numbers_split (x ∷ xs) ys = ap (λ (t : List ℕ). 32 ∷ (decimal_text x ++ t)) (numbers_split xs ys) ∙ ap (λ (t : List ℕ). 32 ∷ t) (sym (append_assoc (decimal_text x) (numbers_text xs) (numbers_text ys)))

joined : (a b c d : List ℕ) → ((a ++ b) ++ c) ++ d ≡ a ++ (b ++ (c ++ d))
joined a b c d = simp append_assoc

-- one number more
pub number_added : (ns before old mid new : List ℕ) (n i : ℕ) → i < length ns → n ≡ get_or ns i n → old ≡ before ++ numbers_text (take i ns) → mid ≡ old ++ 32 ∷ [] → new ≡ mid ++ decimal_text n
    → new ≡ before ++ numbers_text (take (i + 1) ns)
number_added ns before old mid new n i l is o m w =
    let cut : take (i + 1) ns ≡ take i ns ++ n ∷ [] = take_more ns i n l ∙ ap (λ (x : ℕ). take i ns ++ x ∷ []) (sym is) in
    let last : numbers_text (n ∷ []) ≡ 32 ∷ decimal_text n = ap (λ (t : List ℕ). 32 ∷ t) (append-nil (decimal_text n)) in
    w
    ∙ ap (λ (t : List ℕ). t ++ decimal_text n) (m ∙ ap (λ (t : List ℕ). t ++ 32 ∷ []) o)
    ∙ joined before (numbers_text (take i ns)) (32 ∷ []) (decimal_text n)
    ∙ ap (λ (t : List ℕ). before ++ t) (ap (λ (t : List ℕ). numbers_text (take i ns) ++ t) (sym last) ∙ sym (numbers_split (take i ns) (n ∷ [])) ∙ ap numbers_text (sym cut))

-- one keyword more
pub keyword_added : (words : List (List ℕ)) (before old mid new word : List ℕ) (i : ℕ) → i < length words → word ≡ get_or words i word → old ≡ before ++ keywords_text (take i words) → mid ≡ old ++ 32 ∷ [] → new ≡ mid ++ word
    → new ≡ before ++ keywords_text (take (i + 1) words)
keyword_added words before old mid new word i l is o m w =
    let cut : take (i + 1) words ≡ take i words ++ word ∷ [] = take_more words i word l ∙ ap (λ (x : List ℕ). take i words ++ x ∷ []) (sym is) in
    let last : keywords_text (word ∷ []) ≡ 32 ∷ word = append-nil (32 ∷ word) in
    w
    ∙ ap (λ (t : List ℕ). t ++ word) (m ∙ ap (λ (t : List ℕ). t ++ 32 ∷ []) o)
    ∙ joined before (keywords_text (take i words)) (32 ∷ []) word
    ∙ ap (λ (t : List ℕ). before ++ t) (ap (λ (t : List ℕ). keywords_text (take i words) ++ t) (sym last) ∙ sym (flat_map-append (λ (one : List ℕ). 32 ∷ one) (take i words) (word ∷ [])) ∙ ap keywords_text (sym cut))

-- a text that was added to the piece, and the piece then given where it was full
pub pushed_passed : (h k : Option (List ℕ)) (p q r t : List ℕ) → q ≡ p ++ t → Gathers h q [] k r → Gathers h p t k r
pushed_passed h k p q r t e a = (a.0, sym e ∙ sym (append-nil q) ∙ a.1, a.2)

pub pushed_cut : (h k : Option (List ℕ)) (p q t : List ℕ) → q ≡ p ++ t → WritesPrefix h q [] k → WritesPrefix h p t k
pushed_cut h k p q t e a = (a.0, a.1, sym e ∙ sym (append-nil q) ∙ a.2, a.3)

-- a text of three parts, one after another
pub text_cut : (h k l : Option (List ℕ)) (p q front text last : List ℕ) → Gathers h p front k q → WritesPrefix k q text l → WritesPrefix h p (front ++ (text ++ last)) l
text_cut h k l p q front text last a b = cut_more h k l p q front (text ++ last) a (cut_before k l q text last b)

pub last_cut : (h k l m : Option (List ℕ)) (p q r front text last : List ℕ) → Gathers h p front k q → Gathers k q text l r → WritesPrefix l r last m → WritesPrefix h p (front ++ (text ++ last)) m
last_cut h k l m p q r front text last a b c = cut_more h k m p q front (text ++ last) a (cut_more k l m q r text last b c)

pub last_passed : (h k l m : Option (List ℕ)) (p q r s front text last : List ℕ) → Gathers h p front k q → Gathers k q text l r → Gathers l r last m s → Gathers h p (front ++ (text ++ last)) m s
last_passed h k l m p q r s front text last a b c = passed_more h k m p q s front (text ++ last) a (passed_more k l m q r s text last b c)

-- the same text, written otherwise
pub line_cut : (h k : Option (List ℕ)) (p t u : List ℕ) → t ≡ u → WritesPrefix h p t k → WritesPrefix h p u k
line_cut h k p t u e a = subst (λ (x : List ℕ). WritesPrefix h p x k) e a

pub line_passed : (h k : Option (List ℕ)) (p q t u : List ℕ) → t ≡ u → Gathers h p t k q → Gathers h p u k q
line_passed h k p q t u e a = subst (λ (x : List ℕ). Gathers h p x k q) e a

-- a text that begins with nothing in the piece
pub from_empty : (h k : Option (List ℕ)) (p q t : List ℕ) → p ≡ [] → Gathers h p t k q → Gathers h [] t k q
from_empty h k p q t e a = subst (λ (x : List ℕ). Gathers h x t k q) e a

-- a front that was added to the piece, and a text
pub after_front : (h k : Option (List ℕ)) (p q f t : List ℕ) → q ≡ p ++ f → WritesPrefix h q t k → WritesPrefix h p (f ++ t) k
after_front h k p q f t e a = cut_more h h k p q f t (subst (λ (x : List ℕ). Gathers h p f h x) (sym e) (passed_kept h p f)) a

-- a first line that tells how many rows there are, and the rows so far, each with its text
abbrev pub rows_to : {R : Type 0} → (R → List ℕ) → List R → ℕ → List ℕ
rows_to f rows i = ok_line (numbers_text (length rows ∷ [])) ++ flat_map f (take i rows)

abbrev pub all_rows : {R : Type 0} → (R → List ℕ) → List R → List ℕ
all_rows f rows = ok_line (numbers_text (length rows ∷ [])) ++ flat_map f rows

one_row_more : {R : Type 0} → (f : R → List ℕ) (rows : List R) (row : R) (i : ℕ) → i < length rows → row ≡ get_or rows i row → rows_to f rows (i + 1) ≡ rows_to f rows i ++ f row
one_row_more {R} f rows row i l is =
    let cut : take (i + 1) rows ≡ take i rows ++ row ∷ [] = take_more rows i row l ∙ ap (λ (x : R). take i rows ++ x ∷ []) (sym is) in
    let front = ok_line (numbers_text (length rows ∷ [])) in
    ap (λ (t : List R). front ++ flat_map f t) cut
    ∙ ap (λ (t : List ℕ). front ++ t) (flat_map-append f (take i rows) (row ∷ []) ∙ ap (λ (t : List ℕ). flat_map f (take i rows) ++ t) (append-nil (f row)))
    ∙ sym (append_assoc front (flat_map f (take i rows)) (f row))

rows_rest : {R : Type 0} → (f : R → List ℕ) (rows : List R) (i : ℕ) → all_rows f rows ≡ rows_to f rows i ++ flat_map f (drop i rows)
rows_rest f rows i =
    let front = ok_line (numbers_text (length rows ∷ [])) in
    ap (λ (t : List ℕ). front ++ t) (ap (flat_map f) (sym (take-append-drop i rows)) ∙ flat_map-append f (take i rows) (drop i rows))
    ∙ sym (append_assoc front (flat_map f (take i rows)) (flat_map f (drop i rows)))

pub rows_begin : {R : Type 0} → (f : R → List ℕ) (h k : Option (List ℕ)) (rows : List R) (p q : List ℕ) → Gathers h p (ok_line (numbers_text (length rows ∷ []))) k q → Gathers h p (rows_to f rows 0) k q
rows_begin f h k rows p q first = subst (λ (t : List ℕ). Gathers h p t k q) (sym (append-nil (ok_line (numbers_text (length rows ∷ []))))) first

pub rows_go_on : {R : Type 0} → (f : R → List ℕ) (h k l : Option (List ℕ)) (rows : List R) (row : R) (p q r : List ℕ) (i : ℕ) → i < length rows → row ≡ get_or rows i row
    → Gathers h p (rows_to f rows i) k q → Gathers k q (f row) l r → Gathers h p (rows_to f rows (i + 1)) l r
rows_go_on f h k l rows row p q r i b is first second =
    subst (λ (t : List ℕ). Gathers h p t l r) (sym (one_row_more f rows row i b is)) (passed_more h k l p q r (rows_to f rows i) (f row) first second)

pub rows_cut : {R : Type 0} → (f : R → List ℕ) (h k l : Option (List ℕ)) (rows : List R) (row : R) (p q : List ℕ) (i : ℕ) → i < length rows → row ≡ get_or rows i row
    → Gathers h p (rows_to f rows i) k q → WritesPrefix k q (f row) l → WritesPrefix h p (all_rows f rows) l
rows_cut f h k l rows row p q i b is first second =
    subst (λ (t : List ℕ). WritesPrefix h p t l) (sym (rows_rest f rows (i + 1)))
    (cut_before h l p (rows_to f rows (i + 1)) (flat_map f (drop (i + 1) rows))
    (subst (λ (t : List ℕ). WritesPrefix h p t l) (sym (one_row_more f rows row i b is)) (cut_more h k l p q (rows_to f rows i) (f row) first second)))

pub rows_passed : {R : Type 0} → (f : R → List ℕ) (h k : Option (List ℕ)) (rows : List R) (p q : List ℕ) (i : ℕ) → length rows ≤ i → Gathers h p (rows_to f rows i) k q → Gathers h p (all_rows f rows) k q
rows_passed {R} f h k rows p q i a first =
    subst (λ (t : List ℕ). Gathers h p t k q) (ap (λ (t : List R). ok_line (numbers_text (length rows ∷ [])) ++ flat_map f t) (take_all i rows a)) first
