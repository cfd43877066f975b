-- Keywords in a row, each behind one space, looked at one after the other.
use Rattle.std.specs.Prelude.{◌≡◌, ◌≢◌, ◌<◌, ◌≤◌, ◌+◌, ℕ, zero, suc, true, List, [], ◌∷◌, ◌++◌, length, get_or, All, AllPairs, refl}
use Rattle.std.specs.Cmp.Lexicographic.{slice_cmp}
use Rattle.std.specs.Ordering.{nat_cmp, is_lt}
use Rattle.std.specs.declared.cmp.Ordering.{Ordering}
use Rattle.std.specs.declared.cmp.Ordering.TheVariants.{Less, Equal, Greater}
use Rattle.std.proofs.Common.{sym, ◌∙◌, ap, subst, arith, append-nil}
use Rattle.std.proofs.lemmas.Cmp.{nat_list_cmp_total}
use Rattle.std.proofs.lemmas.List.Kept.{AllPairs-cons}
use Rattle.std.proofs.lemmas.Map.Keys.{sorted_from_all_adjacent, Less-from_sorted}
use Rattle.mdbox_base.specs.Keywords.{AreWords, IsKeyword}
use Rattle.script_text.specs.Reading.{IsAtSpace, each_spaced}
use Rattle.script_text.proofs.SpacedLemmas.{HasNone, at_space, atom_clear, ended, word_same}

-- keywords, the first of them after this word, each after the one before it
abbrev pub IsRow : List ℕ → List (List ℕ) → Type 0
IsRow before [] = Unit {0}
IsRow before (word ∷ words) = IsKeyword word × (slice_cmp nat_cmp before word ≡ Less) × IsRow word words

pub record IsRowOf (before text : List ℕ) (words : List (List ℕ)) : Type 0 where
  pub row : IsRow before words
  pub text_is : text ≡ each_spaced words

-- So many keywords of the text are looked at, this one last: the text is a row if and only if what is left is one behind it.
pub record IsLeftOf (text before left : List ℕ) (many : ℕ) : Type 0 where
  pub few : many ≤ 32
  pub at : IsAtSpace left
  pub given : (words : List (List ℕ)) → IsRowOf before left words → (all : List (List ℕ)) × IsRowOf [] text all × (length all ≡ many + length words)
  pub taken : (all : List (List ℕ)) → IsRowOf [] text all → (words : List (List ℕ)) × IsRowOf before left words × (length all ≡ many + length words)

pub is_less : (o : Ordering) → is_lt o ≡ true → o ≡ Less
is_less Less e = refl
is_less Equal e = absurd (cc e)
is_less Greater e = absurd (cc e)

-- ---- a row is the keywords of a message

row_at : (before : List ℕ) (words : List (List ℕ)) → IsRow before words → (k : ℕ) (d : List ℕ) → k < length words → IsKeyword (get_or words k d)
row_at before [] row k d lt = absurd (omega (arith, lt))
row_at before (word ∷ words) row zero d lt = row.0
row_at before (word ∷ words) row (suc k) d lt = row_at word words row.2 k d (omega (arith, lt))

row_next : (before : List ℕ) (words : List (List ℕ)) → IsRow before words → (k : ℕ) (d : List ℕ) → suc k < length words → slice_cmp nat_cmp (get_or words k d) (get_or words (suc k) d) ≡ Less
row_next before [] row k d lt = absurd (omega (arith, lt))
row_next before (word ∷ []) row k d lt = absurd (omega (arith, lt))
row_next before (word ∷ next ∷ words) row zero d lt = row.2.1
row_next before (word ∷ next ∷ words) row (suc k) d lt = row_next word (next ∷ words) row.2 k d (omega (arith, lt))

row_words : (words : List (List ℕ)) → IsRow [] words → length words ≤ 32 → AreWords words
row_words words row few = record {
  few = few;
  each = λ k d lt. row_at [] words row k d lt;
  rising = λ i j d lt within. Less-from_sorted (slice_cmp nat_cmp) words i j d (sorted_from_all_adjacent nat_list_cmp_total words [] (λ k inside. subst (λ (n : ℕ). slice_cmp nat_cmp (get_or words k []) (get_or words n []) ≡ Less) (let one : suc k ≡ k + 1 = omega arith in one) (row_next [] words row k [] (omega (arith, inside))))) lt within;
}

nil_less : (word : List ℕ) → 1 ≤ length word → slice_cmp nat_cmp [] word ≡ Less
nil_less [] some = absurd (omega (arith, some))
nil_less (c ∷ word) some = refl

rising_row : (before : List ℕ) (words : List (List ℕ)) → All IsKeyword words → AllPairs (λ a b. slice_cmp nat_cmp a b ≡ Less) (before ∷ words) → IsRow before words
rising_row before [] each rising = tt
rising_row before (word ∷ words) each rising = (
  each 0 [] (omega arith),
  rising 0 1 [] (omega arith) (omega arith),
  rising_row word words (λ k d lt. each (suc k) d (omega (arith, lt))) (λ i j d lt within. rising (suc i) (suc j) d (omega (arith, lt)) (omega (arith, within))),
)

words_row : (words : List (List ℕ)) → AreWords words → IsRow [] words
words_row words are = rising_row [] words are.each (AllPairs-cons (λ a b. slice_cmp nat_cmp a b ≡ Less) [] words (λ k d lt. nil_less _ (are.each k d lt).some) are.rising)

-- ---- one after the other

pub row_begins : (text before : List ℕ) (many : ℕ) → IsAtSpace text → before ≡ [] → many ≡ 0 → IsLeftOf text before text many
row_begins text before many at e none = record {
  few = omega (arith, none);
  at = at;
  given = λ words is. (words, subst (λ (t : List ℕ). IsRowOf t text words) e is, omega (arith, none));
  taken = λ all is. (all, subst (λ (t : List ℕ). IsRowOf t text all) (sym e) is, omega (arith, none));
}

row_front : (before left word behind : List ℕ) (words : List (List ℕ)) → left ≡ 32 ∷ (word ++ behind) → HasNone 32 word → IsAtSpace behind → IsRowOf before left words
    → (more : List (List ℕ)) × (words ≡ word ∷ more) × IsKeyword word × (slice_cmp nat_cmp before word ≡ Less) × IsRowOf word behind more
row_front before left word behind [] e clear at is = absurd (let none : 32 ∷ (word ++ behind) ≡ [] = sym e ∙ is.text_is in cc none)
row_front before left word behind (first ∷ words) e clear at is =
    let both : 32 ∷ (word ++ behind) ≡ 32 ∷ (first ++ each_spaced words) = sym e ∙ is.text_is in
    let same : word ++ behind ≡ first ++ each_spaced words = cc both in
    let keyword : IsKeyword first = is.row.0 in
    let r = word_same word first behind (each_spaced words) clear (atom_clear 32 first (omega arith) keyword.atom) at (subst IsAtSpace (append-nil (each_spaced words)) (at_space words [] tt)) same in (
      words,
      ap (λ (t : List ℕ). t ∷ words) (sym r.0),
      subst IsKeyword (sym r.0) keyword,
      subst (λ (t : List ℕ). slice_cmp nat_cmp before t ≡ Less) (sym r.0) is.row.1,
      record { row = subst (λ (t : List ℕ). IsRow t words) (sym r.0) is.row.2; text_is = r.1 },
    )

pub row_more : (text before left word behind : List ℕ) (many : ℕ) → IsLeftOf text before left many → many ≢ 32 → left ≡ 32 ∷ (word ++ behind) → HasNone 32 word → IsAtSpace behind → IsKeyword word × (slice_cmp nat_cmp before word ≡ Less) → IsLeftOf text word behind (many + 1)
row_more text before left word behind many s fewer e clear at follows = record {
  few = omega (arith, s.few, fewer);
  at = at;
  given = λ words is.
      let r = s.given (word ∷ words) (record { row = (follows.0, follows.1, is.row); text_is = e ∙ ap (λ (t : List ℕ). 32 ∷ (word ++ t)) is.text_is }) in
      (r.0, r.1, omega (arith, r.2));
  taken = λ all is.
      let r = s.taken all is in
      let f = row_front before left word behind r.0 e clear at r.1 in
      (f.0, f.4, omega (arith, r.2, ap length f.1));
}

-- a thirty-third word, or one that is no keyword or not after the one before it
pub row_full : (text before left word behind : List ℕ) (many : ℕ) → IsLeftOf text before left many → many ≡ 32 → left ≡ 32 ∷ (word ++ behind) → HasNone 32 word → IsAtSpace behind → (words : List (List ℕ)) → AreWords words → text ≢ each_spaced words
row_full text before left word behind many s full e clear at words are is =
    let r = s.taken words (record { row = words_row words are; text_is = is }) in
    let f = row_front before left word behind r.0 e clear at r.1 in
    omega (arith, r.2, ap length f.1, are.few, full)

pub row_broken : (text before left word behind : List ℕ) (many : ℕ) → IsLeftOf text before left many → (IsKeyword word × (slice_cmp nat_cmp before word ≡ Less) → ⊥) → left ≡ 32 ∷ (word ++ behind) → HasNone 32 word → IsAtSpace behind → (words : List (List ℕ)) → AreWords words → text ≢ each_spaced words
row_broken text before left word behind many s not e clear at words are is =
    let r = s.taken words (record { row = words_row words are; text_is = is }) in
    let f = row_front before left word behind r.0 e clear at r.1 in
    not (f.2, f.3)

pub row_done : (text before left : List ℕ) (many : ℕ) → IsLeftOf text before left many → ((rest : List ℕ) → left ≢ 32 ∷ rest) → (words : List (List ℕ)) × AreWords words × (text ≡ each_spaced words) × (length words ≡ many)
row_done text before left many s none =
    let r = s.given [] (record { row = tt; text_is = ended left s.at none }) in
    let same : length r.0 ≡ many = omega (arith, r.2) in
    (r.0, row_words r.0 r.1.row (omega (arith, same, s.few)), r.1.text_is, same)
