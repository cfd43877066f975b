-- The mailbox of a number gets another generation at its place.
use Rattle.map_index.proofs.Common.{◌≡◌, ◌≢◌, ℕ, zero, suc, ◌<◌, ◌≤◌, ◌==◌, true, false, List, [], ◌∷◌, length, get_or, map, ap, sym, subst, refl, ◌∙◌, arith, AllPairs, position_or_len, nat_tests, All-head, All-tail, All-weaker, pairs_head, pairs_tail, BoxNo, MapBox, equal_is, Mailbox, box_of}
use Rattle.std.proofs.Common.{set, All}
use Rattle.std.proofs.lemmas.List.{get_or_default}
use Rattle.std.proofs.lemmas.List.Sums.{passes_at_first, fails_before_first}
use Rattle.mdbox_base.specs.declared.entries.MapEntry.TheVariants as entry
use Rattle.model_meaning.specs.MapMeaning.{box_changed}

abbrev BoxesRise : List Mailbox → Type 0
BoxesRise boxes = AllPairs (λ a b. a.at.number.0 < b.at.number.0) boxes

abbrev renews : BoxNo → ℕ → MapBox → MapBox
renews number generation = box_changed (entry.G number generation)

unequal : (a b : ℕ) → a ≢ b → (a == b) ≡ false
unequal a b h = grind (arith, nat_tests, h)

equal : (a b : ℕ) → a ≡ b → (a == b) ≡ true
equal a b h = grind (arith, nat_tests, h)

differs : (a b : ℕ) → (a == b) ≡ false → a ≡ b → ⊥
differs a b h e = grind (arith, nat_tests, h, e)

other_stays : (number : BoxNo) (generation : ℕ) (box : MapBox) → box.number ≢ number.0 → renews number generation box ≡ box
other_stays number generation box apart = rw (unequal number.0 box.number (λ e. apart (sym e))) refl

it_changes : (number : BoxNo) (generation : ℕ) (box : MapBox) → box.number ≡ number.0 → renews number generation box ≡ record box { generation = generation }
it_changes number generation box e = rw (equal number.0 box.number (sym e)) refl

others_stay : (number : BoxNo) (generation : ℕ) (boxes : List Mailbox) → All (λ b. b.at.number.0 ≢ number.0) boxes → map (renews number generation) (map box_of boxes) ≡ map box_of boxes
others_stay number generation [] a = refl
others_stay number generation (b ∷ boxes) a =
    let e = other_stays number generation (box_of b) (All-head (λ x. x.at.number.0 ≢ number.0) b boxes a) in
    let f = others_stay number generation boxes (All-tail (λ x. x.at.number.0 ≢ number.0) b boxes a) in
    cc (e, f)

-- the mailbox with this generation
abbrev pub with_generation : BoxNo → ℕ → Mailbox → Mailbox
with_generation number generation old = record { at = record { number = number; generation = generation }; name = old.name }

head_changes : (number : BoxNo) (generation : ℕ) (b old : Mailbox) → b.at.number.0 ≡ number.0 → old ≡ b → box_of (with_generation number generation old) ≡ renews number generation (box_of b)
head_changes number generation b old hit same = sym (it_changes number generation (box_of b) hit ∙ cc (hit, same))

one_changes : (number : BoxNo) (generation : ℕ) (boxes : List Mailbox) (place : ℕ) (old : Mailbox) → BoxesRise boxes → place < length boxes → ((d : Mailbox) → (get_or boxes place d).at.number.0 ≡ number.0) → old ≡ get_or boxes place old
    → map box_of (set boxes place (with_generation number generation old)) ≡ map (renews number generation) (map box_of boxes)
one_changes number generation [] place old rise within hit is = absurd (omega (arith, within))
one_changes number generation (b ∷ boxes) zero old rise within hit is =
    let here : b.at.number.0 ≡ number.0 = hit b in
    let first = head_changes number generation b old here is in
    let rest = others_stay number generation boxes (All-weaker (λ x. b.at.number.0 < x.at.number.0) (λ x. x.at.number.0 ≢ number.0) (λ x l e. omega (arith, l, e, here)) boxes (pairs_head (λ x y. x.at.number.0 < y.at.number.0) b boxes rise)) in
    cc (first, sym rest)
one_changes number generation (b ∷ boxes) (suc place) old rise within hit is =
    let there : (get_or boxes place b).at.number.0 ≡ number.0 = hit b in
    let less : b.at.number.0 < (get_or boxes place b).at.number.0 = rise 0 (suc place) b (omega arith) within in
    let first = other_stays number generation (box_of b) (λ e. omega (arith, there, less, e)) in
    let rest = one_changes number generation boxes place old (pairs_tail (λ x y. x.at.number.0 < y.at.number.0) b boxes rise) (omega (arith, within)) (λ d. hit d) is in
    cc (sym first, rest)

-- at the place that was found
pub renewed_at : (number : BoxNo) (generation : ℕ) (boxes : List Mailbox) (place : ℕ) (old : Mailbox) → BoxesRise boxes → place ≡ position_or_len (λ (b : Mailbox). b.at.number.0 == number.0) boxes → place < length boxes → old ≡ get_or boxes place old
    → map box_of (set boxes place (with_generation number generation old)) ≡ map (box_changed (entry.G number generation)) (map box_of boxes)
renewed_at number generation boxes place old rise e within is =
    one_changes number generation boxes place old rise within
    (λ d. equal_is _ number.0 (subst (λ (i : ℕ). ((get_or boxes i d).at.number.0 == number.0) ≡ true) (sym e) (passes_at_first (λ (b : Mailbox). b.at.number.0 == number.0) boxes d (subst (λ (i : ℕ). i < length boxes) e within)))) is

-- where there is none, nothing changes
pub renewed_nowhere : (number : BoxNo) (generation : ℕ) (boxes : List Mailbox) (place : ℕ) → place ≡ position_or_len (λ (b : Mailbox). b.at.number.0 == number.0) boxes → length boxes ≤ place → map box_of boxes ≡ map (box_changed (entry.G number generation)) (map box_of boxes)
renewed_nowhere number generation boxes place e past =
    sym (others_stay number generation boxes (λ k d lt same. differs _ number.0 (fails_before_first (λ (b : Mailbox). b.at.number.0 == number.0) boxes k d (omega (arith, e, past, lt))) same))

-- ---- another name

-- what changes only the mailbox of a number
abbrev ChangesOnly : ℕ → (MapBox → MapBox) → Type 0
ChangesOnly number change = (box : MapBox) → box.number ≢ number → change box ≡ box

untouched : (change : MapBox → MapBox) (number : ℕ) (boxes : List Mailbox) → ChangesOnly number change → All (λ b. b.at.number.0 ≢ number) boxes → map change (map box_of boxes) ≡ map box_of boxes
untouched change number [] only a = refl
untouched change number (b ∷ boxes) only a =
    let e = only (box_of b) (All-head (λ x. x.at.number.0 ≢ number) b boxes a) in
    let f = untouched change number boxes only (All-tail (λ x. x.at.number.0 ≢ number) b boxes a) in
    cc (e, f)

one_placed : (change : MapBox → MapBox) (number : ℕ) (boxes : List Mailbox) (place : ℕ) (new : Mailbox) → ChangesOnly number change → BoxesRise boxes → place < length boxes → ((d : Mailbox) → (get_or boxes place d).at.number.0 ≡ number) → box_of new ≡ change (box_of (get_or boxes place new))
    → map box_of (set boxes place new) ≡ map change (map box_of boxes)
one_placed change number [] place new only rise within hit is = absurd (omega (arith, within))
one_placed change number (b ∷ boxes) zero new only rise within hit is =
    let here : b.at.number.0 ≡ number = hit b in
    let rest = untouched change number boxes only (All-weaker (λ x. b.at.number.0 < x.at.number.0) (λ x. x.at.number.0 ≢ number) (λ x l e. omega (arith, l, e, here)) boxes (pairs_head (λ x y. x.at.number.0 < y.at.number.0) b boxes rise)) in
    cc (is, sym rest)
one_placed change number (b ∷ boxes) (suc place) new only rise within hit is =
    let there : (get_or boxes place b).at.number.0 ≡ number = hit b in
    let less : b.at.number.0 < (get_or boxes place b).at.number.0 = rise 0 (suc place) b (omega arith) within in
    let first = only (box_of b) (λ e. omega (arith, there, less, e)) in
    let rest = one_placed change number boxes place new only (pairs_tail (λ x y. x.at.number.0 < y.at.number.0) b boxes rise) (omega (arith, within)) (λ d. hit d) is in
    cc (sym first, rest)

abbrev pub named : List ℕ → Mailbox → Mailbox
named name old = record { at = old.at; name = name }

names_only : (number : BoxNo) (name : List ℕ) → ChangesOnly number.0 (box_changed (entry.V number name))
names_only number name box apart = rw (unequal number.0 box.number (λ e. apart (sym e))) refl

it_is_named : (number : BoxNo) (name : List ℕ) (box : MapBox) → box.number ≡ number.0 → box_changed (entry.V number name) box ≡ record box { name = name }
it_is_named number name box e = rw (equal number.0 box.number (sym e)) refl

pub renamed_at : (number : BoxNo) (name : List ℕ) (boxes : List Mailbox) (place : ℕ) (old : Mailbox) → BoxesRise boxes → place ≡ position_or_len (λ (b : Mailbox). b.at.number.0 == number.0) boxes → place < length boxes → old ≡ get_or boxes place old
    → map box_of (set boxes place (named name old)) ≡ map (box_changed (entry.V number name)) (map box_of boxes)
renamed_at number name boxes place old rise e within is =
    one_placed (box_changed (entry.V number name)) number.0 boxes place (named name old) (names_only number name) rise within hit
    (sym (it_is_named number name (box_of old) (ap (λ (b : Mailbox). b.at.number.0) is ∙ hit old)) ∙ ap (λ (b : Mailbox). box_changed (entry.V number name) (box_of b)) (is ∙ get_or_default boxes place old (named name old) within))
  where
    hit : (d : Mailbox) → (get_or boxes place d).at.number.0 ≡ number.0
    hit d = equal_is _ number.0 (subst (λ (i : ℕ). ((get_or boxes i d).at.number.0 == number.0) ≡ true) (sym e) (passes_at_first (λ (b : Mailbox). b.at.number.0 == number.0) boxes d (subst (λ (i : ℕ). i < length boxes) e within)))

pub renamed_nowhere : (number : BoxNo) (name : List ℕ) (boxes : List Mailbox) (place : ℕ) → place ≡ position_or_len (λ (b : Mailbox). b.at.number.0 == number.0) boxes → length boxes ≤ place → map box_of boxes ≡ map (box_changed (entry.V number name)) (map box_of boxes)
renamed_nowhere number name boxes place e past =
    sym (untouched (box_changed (entry.V number name)) number.0 boxes (names_only number name) (λ k d lt same. differs _ number.0 (fails_before_first (λ (b : Mailbox). b.at.number.0 == number.0) boxes k d (omega (arith, e, past, lt))) same))
