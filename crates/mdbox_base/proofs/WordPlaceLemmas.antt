-- Where a text goes among keywords that rise, and how many of some texts are different.
use Rattle.std.specs.Prelude.{◌↔◌, ◌⊎◌, AllPairs, Contains, insert, if◌then◌else◌}
use Rattle.std.specs.List.{list_any}
use Rattle.std.specs.Str.{bytes_eq}
use Rattle.std.specs.Cmp.Lexicographic.{slice_cmp}
use Rattle.std.specs.Ordering.{nat_cmp, ordering_reverse, is_lt, is_eq}
use Rattle.std.specs.declared.cmp.Ordering.{Ordering}
use Rattle.std.specs.declared.cmp.Ordering.TheVariants.{Less, Equal, Greater}
use Rattle.std.specs.List.Sorted.{IsSearchInRange, IsBinarySearchResult, IsSortedBy}
use Rattle.std.proofs.Common.{◌≡◌, inl, inr, ℕ, zero, suc, ◌+◌, ◌<◌, ◌≤◌, Bool, true, false, ◌||◌, List, [], ◌∷◌, ◌++◌, length, take, drop, get_or, Result, Ok, Err, IfOk, IfErr, All, refl, sym, ◌∙◌, ap, subst, arith, append-nil, append_assoc}
use Rattle.std.proofs.lemmas.Cmp.{nat_list_cmp_total, tied_itself}
use Rattle.std.proofs.lemmas.Bool.{cases_lt}
use Rattle.std.proofs.lemmas.List.{take_more, take-append-drop}
use Rattle.std.proofs.lemmas.List.Elements.{All-nil, All-cons, All-append, All-take, All-drop, All-contains, All-push, Contains-get_or, Contains-push, Contains-append_left, Contains-append_cases, Contains-push_cases}
use Rattle.std.proofs.lemmas.List.Edits.{length-insert}
use Rattle.std.proofs.lemmas.List.Folds.{list_any-append, list_any_at, Any-from_list_any}
use Rattle.std.proofs.lemmas.List.Kept.{AllPairs-cons}
use Rattle.std.proofs.lemmas.List.Sorted.{searchable_from_sorted, IsPermutation-insert, IsPermutation-sym, Contains-permutation}
use Rattle.std.proofs.lemmas.Map.Text.{is_eq-slice_cmp}
use Rattle.std.proofs.lemmas.Slice.Eq.{bytes_eq-Decides}
use Rattle.mdbox_base.specs.Words.{count_different}
use Rattle.mdbox_base.specs.Keywords.{IsKeyword, AreWords, AreWordsOf, AreWordsWith, CanBeWords}

abbrev by_octets : List ℕ → List ℕ → Ordering
by_octets = slice_cmp nat_cmp

abbrev IsBefore : List ℕ → List ℕ → Type 0
IsBefore a b = slice_cmp nat_cmp a b ≡ Less

abbrev pub Rise : List (List ℕ) → Type 0
Rise words = AllPairs IsBefore words

pub same_octets : (a b : List ℕ) → by_octets a b ≡ Equal → a ≡ b
same_octets a b e = (bytes_eq-Decides a b).0 (sym (is_eq-slice_cmp a b) ∙ ap is_eq e)

equal_octets : (a b : List ℕ) → a ≡ b → by_octets a b ≡ Equal
equal_octets a b e = ap (by_octets a) (sym e) ∙ tied_itself nat_list_cmp_total a

turned : (a b : List ℕ) (o : Ordering) → by_octets a b ≡ o → by_octets b a ≡ ordering_reverse o
turned a b o e = nat_list_cmp_total.antisymm b a ∙ ap ordering_reverse e

-- ---- a search

pub record IsWordAt (words : List (List ℕ)) (text : List ℕ) (at : ℕ) : Type 0 where
  pub within : at < length words
  pub is : get_or words at [] ≡ text

pub record IsPlaceFor (words : List (List ℕ)) (text : List ℕ) (at : ℕ) : Type 0 where
  pub within : at ≤ length words
  pub before : (k : ℕ) (d : List ℕ) → k < at → by_octets (get_or words k d) text ≡ Less
  pub behind : (k : ℕ) (d : List ℕ) → at ≤ k → k < length words → by_octets (get_or words k d) text ≡ Greater

sorted_words : (words : List (List ℕ)) → Rise words → IsSortedBy (λ a b. is_lt (by_octets a b)) words
sorted_words words rise k d low high = ap is_lt (turned (get_or words k d) (get_or words (k + 1) d) Less (rise k (k + 1) d (omega arith) high))

pub searched_words : (words : List (List ℕ)) (text : List ℕ) → Rise words → (r : Result ℕ ℕ) → IsSearchInRange r (length words) → IsBinarySearchResult (λ word. slice_cmp nat_cmp word text) words r
    → record { found : IfOk r (IsWordAt words text); absent : IfErr r (IsPlaceFor words text) }
searched_words words text rise (Ok at) within equal = record { found = record { within = within; is = same_octets (get_or words at []) text (equal []) }; absent = tt }
searched_words words text rise (Err at) within parted =
    let up = searchable_from_sorted nat_list_cmp_total (λ (w : List ℕ). w) words text (sorted_words words rise) in
    record {
      found = tt;
      absent = record { within = within; before = λ k d lt. (parted up).0 k d (omega arith) lt; behind = λ k d le lt. (parted up).1 k d le lt };
    }

-- ---- members

pub any_of : (text : List ℕ) (words : List (List ℕ)) → list_any (bytes_eq text) words ≡ true → Contains words text
any_of text words h =
    let a = Any-from_list_any (bytes_eq text) words h in
    let is : text ≡ a.1 = (bytes_eq-Decides text a.1).0 a.4 in
    subst (Contains words) (sym is) (a.0, a.2, a.3)

pub of_any : (text : List ℕ) (words : List (List ℕ)) → Contains words text → list_any (bytes_eq text) words ≡ true
of_any text words c = list_any_at (bytes_eq text) words c.0 text c.1 ((bytes_eq-Decides text (get_or words c.0 text)).1 (sym c.2))

both_same : (a b : Bool) → (a ≡ true → b ≡ true) → (b ≡ true → a ≡ true) → a ≡ b
both_same true b f g = sym (f refl)
both_same false true f g = g refl
both_same false false f g = refl

same_any : (text : List ℕ) (words texts : List (List ℕ)) → ((word : List ℕ) → Contains words word ↔ Contains texts word) → list_any (bytes_eq text) words ≡ list_any (bytes_eq text) texts
same_any text words texts same =
    both_same (list_any (bytes_eq text) words) (list_any (bytes_eq text) texts) (λ h. of_any text texts ((same text).0 (any_of text words h))) (λ h. of_any text words ((same text).1 (any_of text texts h)))

not_there : (words : List (List ℕ)) (text : List ℕ) (at : ℕ) → IsPlaceFor words text at → Contains words text → ⊥
not_there words text at p c =
    let same : by_octets (get_or words c.0 text) text ≡ Equal = equal_octets (get_or words c.0 text) text c.2 in
    elim (cases_lt c.0 at) [
      | inl before ↦ (let e : Less ≡ Equal = sym (p.before c.0 text before) ∙ same in cc e)
      | inr behind ↦ (let e : Greater ≡ Equal = sym (p.behind c.0 text behind c.1) ∙ same in cc e)
    ]

pub is_false : (b : Bool) → (b ≡ true → ⊥) → b ≡ false
is_false true h = absurd (h refl)
is_false false h = refl

pub absent_text : (words : List (List ℕ)) (text : List ℕ) (at : ℕ) → IsPlaceFor words text at → list_any (bytes_eq text) words ≡ false
absent_text words text at p = is_false (list_any (bytes_eq text) words) (λ h. not_there words text at p (any_of text words h))

-- ---- one keyword more

pairs_insert : {X : Type 0} → (Q : X → X → Type 0) (at : ℕ) (xs : List X) (y : X) → AllPairs Q xs → All (λ x. Q x y) (take at xs) → All (Q y) (drop at xs) → AllPairs Q (take at xs ++ y ∷ drop at xs)
pairs_insert Q zero xs y p a b = AllPairs-cons Q y xs b p
pairs_insert Q (suc at) [] y p a b = AllPairs-cons Q y [] b (λ i j d lt le. absurd (omega (arith, le)))
pairs_insert Q (suc at) (x ∷ xs) y p a b =
    let head : All (Q x) xs = λ k d lt. p 0 (suc k) d (omega arith) (omega (arith, lt)) in
    let tail : AllPairs Q xs = λ i j d lt le. p (suc i) (suc j) d (omega (arith, lt)) (omega (arith, le)) in
    AllPairs-cons Q x (take at xs ++ y ∷ drop at xs)
    (All-append (Q x) (take at xs) (y ∷ drop at xs) (All-take (Q x) at xs head) (All-cons (Q x) y (drop at xs) (a 0 x (omega arith)) (All-drop (Q x) at xs head)))
    (pairs_insert Q at xs y tail (λ k d lt. a (suc k) d (omega (arith, lt))) b)

all-take : {X : Type 0} → (Q : X → Type 0) (n : ℕ) (xs : List X) → n ≤ length xs → ((k : ℕ) (d : X) → k < n → Q (get_or xs k d)) → All Q (take n xs)
all-take Q zero xs le h = All-nil Q
all-take Q (suc n) [] le h = absurd (omega (arith, le))
all-take Q (suc n) (x ∷ xs) le h = All-cons Q x (take n xs) (h 0 x (omega arith)) (all-take Q n xs (omega (arith, le)) (λ k d lt. h (suc k) d (omega (arith, lt))))

all-drop : {X : Type 0} → (Q : X → Type 0) (n : ℕ) (xs : List X) → ((k : ℕ) (d : X) → n ≤ k → k < length xs → Q (get_or xs k d)) → All Q (drop n xs)
all-drop Q zero xs h = λ k d lt. h k d (omega arith) lt
all-drop Q (suc n) [] h = All-nil Q
all-drop Q (suc n) (x ∷ xs) h = all-drop Q n xs (λ k d le lt. h (suc k) d (omega (arith, le)) (omega (arith, lt)))

rise_with : (words : List (List ℕ)) (text : List ℕ) (at : ℕ) → Rise words → IsPlaceFor words text at → Rise (insert words at text)
rise_with words text at rise p =
    pairs_insert IsBefore at words text rise
    (all-take (λ word. IsBefore word text) at words p.within p.before)
    (all-drop (IsBefore text) at words (λ k d le lt. turned (get_or words k d) text Greater (p.behind k d le lt)))

pub first_or : {X : Type 0} → (y : X) (ys : List X) (x : X) → Contains (y ∷ ys) x → (x ≡ y) ⊎ Contains ys x
first_or y ys x c = elim (Contains-append_cases (y ∷ []) ys x c) [
  | inl h ↦ inl (sym (All-contains (λ z. y ≡ z) (y ∷ []) x (All-cons (λ z. y ≡ z) y [] refl (All-nil (λ z. y ≡ z))) h))
  | inr h ↦ inr h
]

pub or_first : {X : Type 0} → (y : X) (ys : List X) (x : X) → (x ≡ y) ⊎ Contains ys x → Contains (y ∷ ys) x
or_first y ys x (inl e) = subst (Contains (y ∷ ys)) (sym e) (0, omega arith, refl)
or_first y ys x (inr c) = (suc c.0, (let lt = c.1 in omega (arith, lt)), c.2)

-- the text is there already
pub with_same : (words : List (List ℕ)) (text : List ℕ) (at : ℕ) → length words ≤ 32 → Rise words → IsWordAt words text at → AreWordsWith text words words
with_same words text at few rise here =
    let there : Contains words text = subst (Contains words) here.is (Contains-get_or words at [] here.within) in
    record {
      few = few;
      rising = rise;
      same = λ word. (λ c. inr c, λ h. elim h [ inl e ↦ subst (Contains words) (sym e) there | inr c ↦ c ]);
      count = ap (λ (b : Bool). if b then length words else length words + 1) (sym (of_any text words there));
    }

-- it is put at its place
pub with_more : (words : List (List ℕ)) (text : List ℕ) (at : ℕ) → length words < 32 → Rise words → IsPlaceFor words text at → AreWordsWith text words (insert words at text)
with_more words text at few rise p =
    let long : length (insert words at text) ≡ length words + 1 = length-insert words at text p.within in
    let moved = IsPermutation-insert words at text in
    record {
      few = omega (arith, long, few);
      rising = rise_with words text at rise p;
      same = λ word. (
        λ c. first_or text words word (Contains-permutation (insert words at text) (text ∷ words) word (IsPermutation-sym (text ∷ words) (insert words at text) moved) c),
        λ h. Contains-permutation (text ∷ words) (insert words at text) word moved (or_first text words word h),
      );
      count = long ∙ ap (λ (b : Bool). if b then length words else length words + 1) (sym (absent_text words text at p));
    }

-- ---- how many are different

bytes_turned : (a b : List ℕ) → bytes_eq a b ≡ bytes_eq b a
bytes_turned a b = both_same (bytes_eq a b) (bytes_eq b a) (λ h. (bytes_eq-Decides b a).1 (sym ((bytes_eq-Decides a b).0 h))) (λ h. (bytes_eq-Decides a b).1 (sym ((bytes_eq-Decides b a).0 h)))

count_step : (a e b : Bool) (n m : ℕ) → (e ≡ true → a ≡ b) → m ≡ (if b then n else n + 1)
    → (if a || (e || false) then m else m + 1) ≡ (if e || b then (if a then n else n + 1) else (if a then n else n + 1) + 1)
count_step true true true n m same h = h
count_step false true false n m same h = h
count_step true true false n m same h = absurd (let k : true ≡ false = same refl in cc k)
count_step false true true n m same h = absurd (let k : false ≡ true = same refl in cc k)
count_step true false true n m same h = h
count_step true false false n m same h = h
count_step false false true n m same h = ap (λ (k : ℕ). k + 1) h
count_step false false false n m same h = ap (λ (k : ℕ). k + 1) h

-- one text more behind them
pub count_more : (texts : List (List ℕ)) (text : List ℕ) → count_different (texts ++ text ∷ []) ≡ (if list_any (bytes_eq text) texts then count_different texts else count_different texts + 1)
count_more [] text = refl
count_more (t ∷ ts) text =
    ap (λ (b : Bool). if b then count_different (ts ++ text ∷ []) else count_different (ts ++ text ∷ []) + 1) (list_any-append (bytes_eq t) ts (text ∷ []))
    ∙ (count_step (list_any (bytes_eq t) ts) (bytes_eq t text) (list_any (bytes_eq text) ts) (count_different ts) (count_different (ts ++ text ∷ []))
    (λ h. ap (λ (x : List ℕ). list_any (bytes_eq x) ts) ((bytes_eq-Decides t text).0 h)) (count_more ts text)
    ∙ ap (λ (b : Bool). if b || list_any (bytes_eq text) ts then count_different (t ∷ ts) else count_different (t ∷ ts) + 1) (bytes_turned t text))

no_less : (b : Bool) (n m : ℕ) → m ≡ (if b then n else n + 1) → n ≤ m
no_less true n m h = let k : m ≡ n = h in omega (arith, k)
no_less false n m h = let k : m ≡ n + 1 = h in omega (arith, k)

-- more texts are no fewer
pub count_grows : (texts rest : List (List ℕ)) → count_different texts ≤ count_different (texts ++ rest)
count_grows texts [] = let e = ap count_different (append-nil texts) in omega (arith, e)
count_grows texts (y ∷ ys) =
    let one : count_different texts ≤ count_different (texts ++ y ∷ []) = no_less (list_any (bytes_eq y) texts) (count_different texts) (count_different (texts ++ y ∷ [])) (count_more texts y) in
    let others : count_different (texts ++ y ∷ []) ≤ count_different ((texts ++ y ∷ []) ++ ys) = count_grows (texts ++ y ∷ []) ys in
    let same : count_different ((texts ++ y ∷ []) ++ ys) ≡ count_different (texts ++ y ∷ ys) = ap count_different (append_assoc texts (y ∷ []) ys) in
    omega (arith, one, others, same)

-- ---- the keywords of the texts so far

pub record AreSoFar (texts words : List (List ℕ)) : Type 0 where
  pub each : All IsKeyword texts
  pub few : length words ≤ 32
  pub rising : Rise words
  pub same : (word : List ℕ) → Contains words word ↔ Contains texts word
  pub count : length words ≡ count_different texts

pub none_so_far : AreSoFar [] []
none_so_far = record { each = All-nil IsKeyword; few = omega arith; rising = λ i j d lt le. absurd (omega (arith, le)); same = λ word. (λ c. c, λ c. c); count = refl }

pub one_more : (texts words more : List (List ℕ)) (text : List ℕ) → AreSoFar texts words → IsKeyword text → AreWordsWith text words more → AreSoFar (texts ++ text ∷ []) more
one_more texts words more text so_far keyword with = record {
  each = All-push IsKeyword texts text so_far.each keyword;
  few = with.few;
  rising = with.rising;
  same = λ word. (
    λ c. elim ((with.same word).0 c) [
      | inl e ↦ subst (Contains (texts ++ text ∷ [])) (sym e) (Contains-push texts text)
      | inr d ↦ Contains-append_left texts (text ∷ []) word ((so_far.same word).0 d)
    ],
    λ c. (with.same word).1 (elim (Contains-push_cases texts text word c) [
      | inl d ↦ inr ((so_far.same word).1 d)
      | inr e ↦ inl (sym e)
    ]),
  );
  count = with.count
      ∙ (ap (λ (n : ℕ). if list_any (bytes_eq text) words then n else n + 1) so_far.count
      ∙ (ap (λ (b : Bool). if b then count_different texts else count_different texts + 1) (same_any text words texts so_far.same)
      ∙ sym (count_more texts text)));
}

pub words_so_far : (texts words : List (List ℕ)) → AreSoFar texts words → AreWords words
words_so_far texts words so_far = record {
  few = so_far.few;
  each = λ k d lt. All-contains IsKeyword texts (get_or words k d) so_far.each ((so_far.same (get_or words k d)).0 (Contains-get_or words k d lt));
  rising = so_far.rising;
}

pub words_are_of : (texts words : List (List ℕ)) → AreSoFar texts words → AreWordsOf texts words × CanBeWords texts
words_are_of texts words so_far = (
  record { words_are = words_so_far texts words so_far; same = so_far.same },
  record { each = so_far.each; few = let e = so_far.count in let few = so_far.few in omega (arith, e, few) },
)

-- one more is different from 32 that are
pub too_many : (texts words rest : List (List ℕ)) (text : List ℕ) → AreSoFar texts words → length words ≡ 32 → list_any (bytes_eq text) words ≡ false → CanBeWords (texts ++ text ∷ rest) → ⊥
too_many texts words rest text so_far full new can =
    let absent : list_any (bytes_eq text) texts ≡ false = sym (same_any text words texts so_far.same) ∙ new in
    let more : count_different (texts ++ text ∷ []) ≡ count_different texts + 1 = count_more texts text ∙ ap (λ (b : Bool). if b then count_different texts else count_different texts + 1) absent in
    let grown : count_different (texts ++ text ∷ []) ≤ count_different ((texts ++ text ∷ []) ++ rest) = count_grows (texts ++ text ∷ []) rest in
    let same : count_different ((texts ++ text ∷ []) ++ rest) ≡ count_different (texts ++ text ∷ rest) = ap count_different (append_assoc texts (text ∷ []) rest) in
    let count = so_far.count in
    let few = can.few in
    omega (arith, more, grown, same, count, full, few)

-- ---- a text at a place

pub next_so_far : (texts : List (List ℕ)) (i : ℕ) (words more : List (List ℕ)) (text : List ℕ) → i < length texts → text ≡ get_or texts i text → AreSoFar (take i texts) words → IsKeyword text → AreWordsWith text words more → AreSoFar (take (i + 1) texts) more
next_so_far texts i words more text within is so_far keyword with =
    subst (λ (seen : List (List ℕ)). AreSoFar seen more) (sym (take_more texts i text within ∙ ap (λ (t : List ℕ). take i texts ++ t ∷ []) (sym is)))
    (one_more (take i texts) words more text so_far keyword with)

pub not_a_keyword : (texts : List (List ℕ)) (i : ℕ) (text : List ℕ) → i < length texts → text ≡ get_or texts i text → (IsKeyword text → ⊥) → CanBeWords texts → ⊥
not_a_keyword texts i text within is other can = other (subst IsKeyword (sym is) (can.each i text within))

pub not_so_many : (texts : List (List ℕ)) (i : ℕ) (words : List (List ℕ)) (text : List ℕ) → i < length texts → text ≡ get_or texts i text → AreSoFar (take i texts) words → (length words ≡ 32) × (list_any (bytes_eq text) words ≡ false) → CanBeWords texts → ⊥
not_so_many texts i words text within is so_far full can =
    let parts : (take i texts ++ text ∷ []) ++ drop (i + 1) texts ≡ texts =
    ap (λ (seen : List (List ℕ)). seen ++ drop (i + 1) texts) (sym (take_more texts i text within ∙ ap (λ (t : List ℕ). take i texts ++ t ∷ []) (sym is))) ∙ take-append-drop (i + 1) texts in
    let whole : take i texts ++ text ∷ drop (i + 1) texts ≡ texts = sym (append_assoc (take i texts) (text ∷ []) (drop (i + 1) texts)) ∙ parts in
    too_many (take i texts) words (drop (i + 1) texts) text so_far full.0 full.1 (subst CanBeWords (sym whole) can)
