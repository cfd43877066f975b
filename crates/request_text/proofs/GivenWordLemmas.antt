-- Keywords as they are given to a command: which ones they are, and how many are different.
use Rattle.std.specs.Prelude.{◌↔◌, ◌⊎◌, All, Contains, insert, if◌then◌else◌}
use Rattle.std.specs.List.{list_any, remove}
use Rattle.std.specs.Str.{bytes_eq}
use Rattle.std.specs.Cmp.Lexicographic.{slice_cmp}
use Rattle.std.specs.Ordering.{nat_cmp, ordering_reverse}
use Rattle.std.specs.declared.cmp.Ordering.{Ordering}
use Rattle.std.specs.declared.cmp.Ordering.TheVariants.{Less, Equal, Greater}
use Rattle.std.proofs.Common.{◌≡◌, inl, inr, ℕ, zero, suc, ◌+◌, ◌<◌, ◌≤◌, Bool, true, false, List, [], ◌∷◌, ◌++◌, length, map, take, drop, get_or, refl, sym, ◌∙◌, ap, subst, arith, append-nil, append_assoc}
use Rattle.std.proofs.lemmas.Bool.{cases_lt}
use Rattle.std.proofs.lemmas.Cmp.{nat_list_cmp_total}
use Rattle.std.proofs.lemmas.List.{take_more, take-append-drop, get_or-take, length-take-le, length-append, get_or-map}
use Rattle.std.proofs.lemmas.List.Edits.{length-remove}
use Rattle.std.proofs.lemmas.List.Elements.{All-nil, All-contains, All-push, All-weaker, Contains-get_or, Contains-append_left, Contains-append_right, Contains-push}
use Rattle.std.proofs.lemmas.List.Sorted.{IsPermutation-remove, Contains-permutation}
use Rattle.mdbox_base.specs.Words.{count_different}
use Rattle.mdbox_base.specs.Keywords.{IsKeyword, AreWords, AreWordsOf, CanBeWords}
use Rattle.mdbox_base.proofs.WordPlaceLemmas.{Rise, IsWordAt, IsPlaceFor, AreSoFar, same_octets, any_of, of_any, first_or, or_first, is_false, absent_text, with_same, with_more, count_more, count_grows, none_so_far, one_more, words_are_of, too_many}
use Rattle.request_text.specs.GivenWords.{StandsAgain, text_at}

-- ---- texts are the keywords of one list at most

behind_first : (z : List ℕ) (zs : List (List ℕ)) (w : List ℕ) → Rise (z ∷ zs) → Contains zs w → slice_cmp nat_cmp z w ≡ Less
behind_first z zs w r i = let lt = i.1 in subst (λ (v : List ℕ). slice_cmp nat_cmp z v ≡ Less) i.2 (r 0 (suc i.0) w (omega arith) (omega (arith, lt)))

not_both_less : (x y : List ℕ) → slice_cmp nat_cmp x y ≡ Less → slice_cmp nat_cmp y x ≡ Less → ⊥
not_both_less x y a b = let e : Less ≡ Greater = sym a ∙ (nat_list_cmp_total.antisymm x y ∙ ap ordering_reverse b) in cc e

rise_tail : (x : List ℕ) (xs : List (List ℕ)) → Rise (x ∷ xs) → Rise xs
rise_tail x xs r = λ i j d lt le. r (suc i) (suc j) d (omega (arith, lt)) (omega (arith, le))

same_first : (x y : List ℕ) (xs ys : List (List ℕ)) → Rise (x ∷ xs) → Rise (y ∷ ys) → Contains (y ∷ ys) x → Contains (x ∷ xs) y → x ≡ y
same_first x y xs ys p q c d = elim (first_or y ys x c) [
  | inl e ↦ e
  | inr i ↦ elim (first_or x xs y d) [
    | inl e ↦ sym e
    | inr j ↦ absurd (not_both_less x y (behind_first x xs y p j) (behind_first y ys x q i))
  ]
]

-- what stands behind the first of the one stands behind the first of the other
same_behind : (x y : List ℕ) (xs ys : List (List ℕ)) (w : List ℕ) → x ≡ y → Rise (x ∷ xs) → (Contains (x ∷ xs) w → Contains (y ∷ ys) w) → Contains xs w → Contains ys w
same_behind x y xs ys w e r f c = elim (first_or y ys w (f (or_first x xs w (inr c)))) [
  | inl g ↦ (let less : slice_cmp nat_cmp x w ≡ Less = behind_first x xs w r c in let is : x ≡ w = e ∙ sym g in
      absurd (not_both_less x x (subst (λ (v : List ℕ). slice_cmp nat_cmp x v ≡ Less) (sym is) less) (subst (λ (v : List ℕ). slice_cmp nat_cmp x v ≡ Less) (sym is) less)))
  | inr d ↦ d
]

same_rising : (a b : List (List ℕ)) → Rise a → Rise b → ((word : List ℕ) → Contains a word ↔ Contains b word) → a ≡ b
same_rising [] [] p q same = refl
same_rising [] (y ∷ ys) p q same = absurd (let c : Contains [] y = (same y).1 (or_first y ys y (inl refl)) in let lt = c.1 in omega (arith, lt))
same_rising (x ∷ xs) [] p q same = absurd (let c : Contains [] x = (same x).0 (or_first x xs x (inl refl)) in let lt = c.1 in omega (arith, lt))
same_rising (x ∷ xs) (y ∷ ys) p q same =
    let first : x ≡ y = same_first x y xs ys p q ((same x).0 (or_first x xs x (inl refl))) ((same y).1 (or_first y ys y (inl refl))) in
    let others : xs ≡ ys = same_rising xs ys (rise_tail x xs p) (rise_tail y ys q) (λ word. (
      same_behind x y xs ys word first p (same word).0,
      same_behind y x ys xs word (sym first) q (same word).1,
    )) in
    ap (λ (z : List ℕ). z ∷ xs) first ∙ ap (λ (zs : List (List ℕ)). y ∷ zs) others

pub one_list : (texts a b : List (List ℕ)) → AreWordsOf texts a → AreWordsOf texts b → a ≡ b
one_list texts a b p q = same_rising a b p.words_are.rising q.words_are.rising (λ word. ((λ c. (q.same word).1 ((p.same word).0 c)), (λ c. (p.same word).1 ((q.same word).0 c))))

-- keywords in rising order are those that they say
pub themselves : (words : List (List ℕ)) → AreWords words → AreWordsOf words words
themselves words are = record { words_are = are; same = λ word. (λ c. c, λ c. c) }

-- ---- texts that are the keywords of a message can be

abbrev AmongEach : List (List ℕ) → List (List ℕ) → Type 0
AmongEach texts words = (text : List ℕ) → Contains texts text → Contains words text

others_among : (t : List ℕ) (ts words : List (List ℕ)) (c : Contains words t) → list_any (bytes_eq t) ts ≡ false → AmongEach (t ∷ ts) words → AmongEach ts (remove words c.0)
others_among t ts words c new all text d =
    let moved = IsPermutation-remove words c.0 t c.1 (sym c.2) in
    elim (first_or t (remove words c.0) text (Contains-permutation words (t ∷ remove words c.0) text moved (all text (or_first t ts text (inr d))))) [
      | inl e ↦ absurd (let there : list_any (bytes_eq t) ts ≡ true = of_any t ts (subst (Contains ts) e d) in let no : true ≡ false = sym there ∙ new in cc no)
      | inr r ↦ r
    ]

no_more_step : (t : List ℕ) (ts words : List (List ℕ)) (b : Bool) → list_any (bytes_eq t) ts ≡ b → AmongEach (t ∷ ts) words
    → ((others : List (List ℕ)) → AmongEach ts others → count_different ts ≤ length others) → (if b then count_different ts else count_different ts + 1) ≤ length words
no_more_step t ts words true is all rest = rest words (λ text d. all text (or_first t ts text (inr d)))
no_more_step t ts words false is all rest =
    let c : Contains words t = all t (or_first t ts t (inl refl)) in
    let few : count_different ts ≤ length (remove words c.0) = rest (remove words c.0) (others_among t ts words c is all) in
    let less : length (remove words c.0) + 1 ≡ length words = length-remove words c.0 c.1 in
    omega (arith, few, less)

-- texts that all stand among others have no more different ones than there are others
no_more : (texts words : List (List ℕ)) → AmongEach texts words → count_different texts ≤ length words
no_more [] words all = omega arith
no_more (t ∷ ts) words all = no_more_step t ts words (list_any (bytes_eq t) ts) refl all (λ others among. no_more ts others among)

pub given_can : (texts words : List (List ℕ)) → AreWordsOf texts words → CanBeWords texts
given_can texts words p = record {
  each = λ k d lt. All-contains IsKeyword words (get_or texts k d) p.words_are.each ((p.same (get_or texts k d)).1 (Contains-get_or texts k d lt));
  few = let less : count_different texts ≤ length words = no_more texts words (λ text c. (p.same text).1 c) in let few = p.words_are.few in omega (arith, less, few);
}

-- ---- texts that can be the keywords of a message are

pub record IsPlaced (words : List (List ℕ)) (text : List ℕ) : Type 0 where
  pub at : ℕ
  pub is : IsWordAt words text at ⊎ IsPlaceFor words text at

before_next : (w : List ℕ) (ws : List (List ℕ)) (text : List ℕ) (at : ℕ) → slice_cmp nat_cmp w text ≡ Less → IsPlaceFor ws text at → (k : ℕ) (d : List ℕ) → k < suc at → slice_cmp nat_cmp (get_or (w ∷ ws) k d) text ≡ Less
before_next w ws text at e place zero d lt = e
before_next w ws text at e place (suc k) d lt = place.before k d (omega (arith, lt))

behind_next : (w : List ℕ) (ws : List (List ℕ)) (text : List ℕ) (at : ℕ) → IsPlaceFor ws text at → (k : ℕ) (d : List ℕ) → suc at ≤ k → k < length (w ∷ ws) → slice_cmp nat_cmp (get_or (w ∷ ws) k d) text ≡ Greater
behind_next w ws text at place zero d le lt = absurd (omega (arith, le))
behind_next w ws text at place (suc k) d le lt = place.behind k d (omega (arith, le)) (omega (arith, lt))

all_behind : (w : List ℕ) (ws : List (List ℕ)) (text : List ℕ) → slice_cmp nat_cmp w text ≡ Greater → Rise (w ∷ ws) → (k : ℕ) (d : List ℕ) → k < length (w ∷ ws) → slice_cmp nat_cmp (get_or (w ∷ ws) k d) text ≡ Greater
all_behind w ws text e r zero d lt = e
all_behind w ws text e r (suc k) d lt =
    let up : slice_cmp nat_cmp w (get_or ws k d) ≡ Less = r 0 (suc k) d (omega arith) lt in
    let low : slice_cmp nat_cmp text w ≡ Less = nat_list_cmp_total.antisymm text w ∙ ap ordering_reverse e in
    nat_list_cmp_total.antisymm (get_or ws k d) text ∙ ap ordering_reverse (nat_list_cmp_total.trans text w (get_or ws k d) low up)

placed_by : (w : List ℕ) (ws : List (List ℕ)) (text : List ℕ) (o : Ordering) → slice_cmp nat_cmp w text ≡ o → Rise (w ∷ ws) → IsPlaced ws text → IsPlaced (w ∷ ws) text
placed_by w ws text Less e r placed = record {
  at = suc placed.at;
  is = elim placed.is [
    | inl here ↦ inl (record { within = (let lt = here.within in omega (arith, lt)); is = here.is })
    | inr place ↦ inr (record { within = (let le = place.within in omega (arith, le)); before = before_next w ws text placed.at e place; behind = behind_next w ws text placed.at place })
  ];
}
placed_by w ws text Equal e r placed = record { at = 0; is = inl (record { within = omega arith; is = same_octets w text e }) }
placed_by w ws text Greater e r placed = record { at = 0; is = inr (record { within = omega arith; before = λ k d lt. absurd (omega (arith, lt)); behind = λ k d le lt. all_behind w ws text e r k d lt }) }

placed : (words : List (List ℕ)) (text : List ℕ) → Rise words → IsPlaced words text
placed [] text r = record { at = 0; is = inr (record { within = omega arith; before = λ k d lt. absurd (omega (arith, lt)); behind = λ k d le lt. absurd (omega (arith, lt)) }) }
placed (w ∷ ws) text r = placed_by w ws text (slice_cmp nat_cmp w text) refl r (placed ws text (rise_tail w ws r))

next_words : (seen rest words : List (List ℕ)) (text : List ℕ) → AreSoFar seen words → CanBeWords (seen ++ text ∷ rest) → (more : List (List ℕ)) × AreSoFar (seen ++ text ∷ []) more
next_words seen rest words text so_far can =
    let keyword : IsKeyword text = All-contains IsKeyword (seen ++ text ∷ rest) text can.each (Contains-append_right seen (text ∷ rest) text (0, omega arith, refl)) in
    let place = placed words text so_far.rising in
    let few = so_far.few in
    elim place.is [
      | inl here ↦ (words, one_more seen words words text so_far keyword (with_same words text place.at few so_far.rising here))
      | inr gap ↦ elim (cases_lt (length words) 32) [
        | inl lt ↦ (insert words place.at text, one_more seen words (insert words place.at text) text so_far keyword (with_more words text place.at lt so_far.rising gap))
        | inr le ↦ absurd (too_many seen words rest text so_far (omega (arith, few, le)) (absent_text words text place.at gap) can)
      ]
    ]

more_words : (seen rest words : List (List ℕ)) → AreSoFar seen words → CanBeWords (seen ++ rest) → (more : List (List ℕ)) × AreSoFar (seen ++ rest) more
more_words seen [] words so_far can = (words, subst (λ (texts : List (List ℕ)). AreSoFar texts words) (sym (append-nil seen)) so_far)
more_words seen (y ∷ ys) words so_far can =
    let next = next_words seen ys words y so_far can in
    let whole : (seen ++ y ∷ []) ++ ys ≡ seen ++ y ∷ ys = append_assoc seen (y ∷ []) ys in
    let all = more_words (seen ++ y ∷ []) ys next.0 next.1 (subst CanBeWords (sym whole) can) in
    (all.0, subst (λ (texts : List (List ℕ)). AreSoFar texts all.0) whole all.1)

pub given_are : (texts : List (List ℕ)) → CanBeWords texts → (words : List (List ℕ)) × AreWordsOf texts words
given_are texts can = let all = more_words [] texts [] none_so_far can in (all.0, (words_are_of texts all.0 all.1).0)

-- ---- the places of texts that are different

-- Each text before this place stands at one of the places, and these texts are different.
pub record AreFound (texts : List (List ℕ)) (places : List ℕ) (place : ℕ) : Type 0 where
  pub within : place ≤ length texts
  pub below : All (λ other. other < place) places
  pub each : (earlier : ℕ) → earlier < place → StandsAgain texts places earlier
  pub count : length places ≡ count_different (take place texts)

pub none_found : (texts : List (List ℕ)) → AreFound texts [] 0
none_found texts = record { within = omega arith; below = All-nil (λ other. other < 0); each = λ earlier lt. absurd (omega (arith, lt)); count = refl }

-- a text that stands among the first ones
earlier_text : (texts : List (List ℕ)) (place other : ℕ) → place ≤ length texts → other < place → Contains (take place texts) (text_at texts other)
earlier_text texts place other le lt =
    let long : length (take place texts) ≡ place = length-take-le place texts le in
    subst (Contains (take place texts)) (get_or-take place texts other [] lt) (Contains-get_or (take place texts) other [] (omega (arith, long, lt)))

again_before : (texts : List (List ℕ)) (places : List ℕ) (place : ℕ) → AreFound texts places place → StandsAgain texts places place → list_any (bytes_eq (text_at texts place)) (take place texts) ≡ true
again_before texts places place found again =
    let lt : again.0 < place = All-contains (λ other. other < place) places again.0 found.below again.1 in
    of_any (text_at texts place) (take place texts) (subst (Contains (take place texts)) again.2 (earlier_text texts place again.0 found.within lt))

pub any_default : {X : Type 0} → (xs : List X) (i : ℕ) (d e : X) → i < length xs → get_or xs i d ≡ get_or xs i e
any_default [] i d e lt = absurd (omega (arith, lt))
any_default (x ∷ xs) zero d e lt = refl
any_default (x ∷ xs) (suc i) d e lt = any_default xs i d e (omega (arith, lt))

earlier_is : (texts : List (List ℕ)) (place other : ℕ) (text : List ℕ) → place ≤ length texts → other < place → get_or (take place texts) other text ≡ text → text_at texts other ≡ text
earlier_is texts place other text le lt e = any_default texts other [] text (omega (arith, le, lt)) ∙ (sym (get_or-take place texts other text lt) ∙ e)

new_before : (texts : List (List ℕ)) (places : List ℕ) (place : ℕ) → AreFound texts places place → (StandsAgain texts places place → ⊥) → list_any (bytes_eq (text_at texts place)) (take place texts) ≡ false
new_before texts places place found new = is_false (list_any (bytes_eq (text_at texts place)) (take place texts)) (λ h.
    let c : Contains (take place texts) (text_at texts place) = any_of (text_at texts place) (take place texts) h in
    let long : length (take place texts) ≡ place = length-take-le place texts found.within in
    let inside = c.1 in
    let lt : c.0 < place = omega (arith, long, inside) in
    let is : text_at texts c.0 ≡ text_at texts place = earlier_is texts place c.0 (text_at texts place) found.within lt c.2 in
    let again = found.each c.0 lt in
    new (again.0, again.1, again.2 ∙ is))

counted_next : (texts : List (List ℕ)) (place : ℕ) (b : Bool) → place < length texts → list_any (bytes_eq (text_at texts place)) (take place texts) ≡ b
    → count_different (take (place + 1) texts) ≡ (if b then count_different (take place texts) else count_different (take place texts) + 1)
counted_next texts place b lt is =
    ap count_different (take_more texts place [] lt) ∙ (count_more (take place texts) (text_at texts place)
    ∙ ap (λ (t : Bool). if t then count_different (take place texts) else count_different (take place texts) + 1) is)

pub found_again : (texts : List (List ℕ)) (places : List ℕ) (place : ℕ) → place < length texts → AreFound texts places place → StandsAgain texts places place → AreFound texts places (place + 1)
found_again texts places place lt found again = record {
  within = omega (arith, lt);
  below = All-weaker (λ other. other < place) (λ other. other < place + 1) (λ other l. omega (arith, l)) places found.below;
  each = λ earlier less. elim (cases_lt earlier place) [
    | inl l ↦ found.each earlier l
    | inr le ↦ (let same : place ≡ earlier = omega (arith, le, less) in subst (StandsAgain texts places) same again)
  ];
  count = found.count ∙ sym (counted_next texts place true lt (again_before texts places place found again));
}

pub found_new : (texts : List (List ℕ)) (places : List ℕ) (place : ℕ) → place < length texts → AreFound texts places place → (StandsAgain texts places place → ⊥) → AreFound texts (places ++ place ∷ []) (place + 1)
found_new texts places place lt found new = record {
  within = omega (arith, lt);
  below = All-push (λ other. other < place + 1) places place (All-weaker (λ other. other < place) (λ other. other < place + 1) (λ other l. omega (arith, l)) places found.below) (omega arith);
  each = λ earlier less. elim (cases_lt earlier place) [
    | inl l ↦ (let again = found.each earlier l in (again.0, Contains-append_left places (place ∷ []) again.0 again.1, again.2))
    | inr le ↦ (let same : place ≡ earlier = omega (arith, le, less) in (place, Contains-push places place, ap (text_at texts) same))
  ];
  count =
      let more : count_different (take (place + 1) texts) ≡ count_different (take place texts) + 1 = counted_next texts place false lt (new_before texts places place found new) in
      let count = found.count in
      let long : length (places ++ place ∷ []) ≡ length places + 1 = simp length-append in
      omega (arith, more, count, long);
}

-- one more is different from 32 that are
pub found_too_many : (texts : List (List ℕ)) (places : List ℕ) (place : ℕ) → place < length texts → AreFound texts places place → length places ≡ 32 → (StandsAgain texts places place → ⊥) → count_different texts ≤ 32 → ⊥
found_too_many texts places place lt found full new few =
    let more : count_different (take (place + 1) texts) ≡ count_different (take place texts) + 1 = counted_next texts place false lt (new_before texts places place found new) in
    let grown : count_different (take (place + 1) texts) ≤ count_different (take (place + 1) texts ++ drop (place + 1) texts) = count_grows (take (place + 1) texts) (drop (place + 1) texts) in
    let same : count_different (take (place + 1) texts ++ drop (place + 1) texts) ≡ count_different texts = ap count_different (take-append-drop (place + 1) texts) in
    let count = found.count in
    omega (arith, more, grown, same, count, full, few)

-- ---- words in memory

pub text_is : {S : Type 0} → (f : S → List ℕ) (words : List S) (i : ℕ) (word : S) → i < length words → word ≡ get_or words i word → text_at (map f words) i ≡ f word
text_is f words i word lt e = get_or-map f words i word [] lt ∙ ap f (sym e)

pub stands_at : (texts : List (List ℕ)) (places : List ℕ) (place i : ℕ) → i < length places → text_at texts (get_or places i 0) ≡ text_at texts place → StandsAgain texts places place
stands_at texts places place i lt e = (get_or places i 0, Contains-get_or places i 0 lt, e)

pub stands_nowhere : (texts : List (List ℕ)) (places : List ℕ) (place : ℕ) → ((k : ℕ) → k < length places → text_at texts (get_or places k 0) ≡ text_at texts place → ⊥) → StandsAgain texts places place → ⊥
stands_nowhere texts places place none again =
    let c = again.1 in
    none c.0 c.1 (ap (text_at texts) (any_default places c.0 0 again.0 c.1 ∙ c.2) ∙ again.2)
