-- What the search for the first difference says, and heads that are not whole.
use mir.Syntax.{w8}
use Rattle.std.specs.Int.{w32, from_be_bytes}
use Rattle.mdbox_base.specs.Words.{IsOctets}
use Rattle.model_logs.specs.declared.log_head.LogHead.{LogHead}
use Rattle.model_logs.specs.declared.log_head.LogKind.{LogKind}
use Rattle.model_logs.specs.LogFile.{IsVersionOf, HeadFits, head_octets, kind_letter, IsHeadDamaged}
use Rattle.model_logs.proofs.LogFileLemmas.{head_length}
use Rattle.model_logs.proofs.LogHeadLemmas.{HasKind, MayStand, version_digit, head_damaged, head_short, same_front, head_in}
use Rattle.std.proofs.lemmas.List.{length-take-le, get_or-take, take_all, take-take}
use Rattle.std.proofs.lemmas.List.Elements.{All-from_get_or, All-take}
use Rattle.std.specs.Prelude.{position, not, ◌==◌}
use Rattle.std.specs.List.{zip, position_from}
use Rattle.std.proofs.Common.{◌≡◌, ◌≢◌, ◌⊎◌, inl, inr, ℕ, ◌+◌, ◌<◌, ◌≤◌, List, [], ◌∷◌, length, get_or, Some, None, Bool, true, false, zero, suc, refl, sym, ◌∙◌, ap, subst, take, drop, codes, Fits, arith}
use Rattle.std.proofs.lemmas.Bool.{cases_eq, eq-eqb, ne_eqb}
use Rattle.std.proofs.lemmas.Iterator.Adapters.{position_from-zero}
use Rattle.std.proofs.lemmas.List.Quantifiers.{position-Some}
use Rattle.std.proofs.lemmas.Slice.Zip.{get_or-zip, length-zip}

abbrev pub differ : ℕ × ℕ → Bool
differ pair = not (pair.0 == pair.1)

differ-true : (a b : ℕ) → differ (a, b) ≡ true → a ≡ b → ⊥
differ-true a b d e = let f : differ (a, b) ≡ false = ap not (eq-eqb a b e) in cc (d, f)

differ-false : (a b : ℕ) → differ (a, b) ≡ false → a ≡ b
differ-false a b d = elim (cases_eq a b) [ inl e ↦ e | inr n ↦ absurd (let f : differ (a, b) ≡ true = ap not (ne_eqb a b n) in cc (d, f)) ]

agree_from : (i : ℕ) (xs ys : List ℕ) → position_from differ i (zip xs ys) ≡ None → (k : ℕ) → k < length xs → k < length ys → get_or xs k 0 ≡ get_or ys k 0
agree_from i [] ys e k a b = absurd (omega arith)
agree_from i (x ∷ xs) [] e k a b = absurd (omega arith)
agree_from i (x ∷ xs) (y ∷ ys) e k a b = elim (cases_eq x y) [
  | inr n ↦ absurd (let f : differ (x, y) ≡ true = ap not (ne_eqb x y n) in let g = rw f at e in cc)
  | inl s ↦ let f : differ (x, y) ≡ false = ap not (eq-eqb x y s) in let g = rw f at e in at_place (agree_from (i + 1) xs ys g) k a b s
]
  where
    at_place : ((k : ℕ) → k < length xs → k < length ys → get_or xs k 0 ≡ get_or ys k 0) → (k : ℕ) → k < length (x ∷ xs) → k < length (y ∷ ys) → x ≡ y → get_or (x ∷ xs) k 0 ≡ get_or (y ∷ ys) k 0
    at_place later zero a b s = s
    at_place later (suc k) a b s = later k (omega arith) (omega arith)

-- no difference: the two agree as far as both go
pub agree : (xs ys : List ℕ) → position differ (zip xs ys) ≡ None → (k : ℕ) → k < length xs → k < length ys → get_or xs k 0 ≡ get_or ys k 0
agree xs ys e = agree_from 0 xs ys (sym (position_from-zero differ (zip xs ys)) ∙ e)

-- a first difference: the two agree before it, and differ there
pub differs : (xs ys : List ℕ) (i : ℕ) → position differ (zip xs ys) ≡ Some i
    → (i < length xs) × (i < length ys) × ((k : ℕ) → k < i → get_or xs k 0 ≡ get_or ys k 0) × (get_or xs i 0 ≡ get_or ys i 0 → ⊥)
differs xs ys i e =
    let p : (i < length (zip xs ys)) × (differ (get_or (zip xs ys) i (0, 0)) ≡ true) × ((k : ℕ) → k < i → differ (get_or (zip xs ys) k (0, 0)) ≡ false) = position-Some differ (zip xs ys) i (0, 0) e in
    let l : i < length (zip xs ys) = p.0 in
    let a : i < length xs = omega (arith, l, length-zip xs ys) in
    let b : i < length ys = omega (arith, l, length-zip xs ys) in (
      a,
      b,
      (λ k h.
          let ka : k < length xs = omega arith in
          let kb : k < length ys = omega arith in
          differ-false _ _ (sym (ap differ (get_or-zip xs ys k (0, 0) ka kb)) ∙ p.2 k h)),
      differ-true _ _ (sym (ap differ (get_or-zip xs ys i (0, 0) a b)) ∙ p.1),
    )

pub octets_of : (xs : List ℕ) → ((i : ℕ) → Fits w8 (get_or xs i 0)) → IsOctets xs
octets_of xs fits = All-from_get_or (λ o. o < 256) xs 0 (λ i l. let f : Fits w8 (get_or xs i 0) = fits i in omega arith)

-- a text that differs from a head's
pub other_text : (head : LogHead) (octets text : List ℕ) (place : ℕ) → HeadFits head → text ≡ head_octets head → IsOctets octets
    → position differ (zip octets text) ≡ Some place → IsHeadDamaged (Some head) octets place
other_text head octets text place f is o e =
    let d = differs octets (head_octets head) place (subst (λ (t : List ℕ). position differ (zip octets t) ≡ Some place) is e) in
    head_damaged (Some head) octets place f d.0 (omega (arith, d.1, head_length head f)) o d.2 d.3

-- a text that is shorter than a head and a gate
pub short_text : (head : LogHead) (octets text : List ℕ) → HeadFits head → text ≡ head_octets head → IsOctets octets
    → position differ (zip octets text) ≡ None → length octets ≤ 25 → IsHeadDamaged (Some head) octets (length octets)
short_text head octets text f is o e l =
    let a = agree octets (head_octets head) (subst (λ (t : List ℕ). position differ (zip octets t) ≡ None) is e) in
    head_short (Some head) octets f l o (λ k h. a k h (omega (arith, h, l, head_length head f)))

-- a text that goes on behind a head
pub same_text : (head : LogHead) (octets text : List ℕ) → HeadFits head → text ≡ head_octets head
    → position differ (zip octets text) ≡ None → 25 < length octets → take 25 octets ≡ head_octets head
same_text head octets text f is e l =
    let a = agree octets (head_octets head) (subst (λ (t : List ℕ). position differ (zip octets t) ≡ None) is e) in
    same_front octets (head_octets head) 25 (omega arith) (omega (arith, head_length head f)) (λ k h. a k (omega arith) (omega (arith, h, head_length head f)))
    ∙ take_whole (head_octets head) (head_length head f)
  where
    take_whole : (xs : List ℕ) → length xs ≡ 25 → take 25 xs ≡ xs
    take_whole xs l = take_all 25 xs (omega arith)

-- the seven letters of a log's name, as far as the octets go
abbrev Named : List ℕ → Type 0
Named octets = position differ (zip octets (codes "MDBXLOG")) ≡ None

-- so far an octet may stand where it does
named_so_far : (octets : List ℕ) → Named octets → (k : ℕ) → k < length octets → k < 7 → MayStand octets k
named_so_far octets e k l low = record { name = λ n. agree octets (codes "MDBXLOG") e k l n; version = λ at. absurd (omega (arith, at, low)); kind = λ at. absurd (omega (arith, at, low)) }

abbrev pub HasDigit : List ℕ → Type 0
HasDigit octets = (get_or octets 7 0 ≡ 49) ⊎ (get_or octets 7 0 ≡ 50)

-- the digit that a version has
pub digit_of : (version : ℕ) (octets : List ℕ) → 48 + version ≡ get_or octets 7 0 → (version ≡ 1) ⊎ (version ≡ 2) → HasDigit octets
digit_of version octets e (inl v) = inl (omega (arith, e, v))
digit_of version octets e (inr v) = inr (omega (arith, e, v))

digit_so_far : (octets : List ℕ) → Named octets → HasDigit octets → (k : ℕ) → k < length octets → k < 16 → MayStand octets k
digit_so_far octets e d k l low = record { name = λ n. agree octets (codes "MDBXLOG") e k l n; version = λ _. d; kind = λ at. absurd (omega (arith, at, low)) }

stands_so_far : (octets : List ℕ) → Named octets → HasKind octets → (k : ℕ) → k < length octets → MayStand octets k
stands_so_far octets e h k l = record { name = λ n. agree octets (codes "MDBXLOG") e k l n; version = λ _. version_digit h.0 h.1 (get_or octets 7 0) h.2 h.4; kind = λ _. h }

pub other_name : (octets : List ℕ) (place : ℕ) → IsOctets octets → position differ (zip octets (codes "MDBXLOG")) ≡ Some place → IsHeadDamaged None octets place
other_name octets place o e =
    let d = differs octets (codes "MDBXLOG") place e in
    let low : place < 7 = d.1 in
    head_damaged None octets place tt d.0 (omega (arith, low)) o
    (λ k h. record { name = λ _. d.2 k h; version = λ at. absurd (omega (arith, at, h, low)); kind = λ at. absurd (omega (arith, at, h, low)) })
    (λ m. d.3 (m.name low))

pub short_name : (octets : List ℕ) → IsOctets octets → Named octets → length octets ≤ 7 → IsHeadDamaged None octets (length octets)
short_name octets o e l = head_short None octets tt (omega (arith, l)) o (λ k h. named_so_far octets e k h (omega (arith, h, l)))

pub other_digit : (octets : List ℕ) → IsOctets octets → Named octets → 7 < length octets → (get_or octets 7 0 ≢ 49) × (get_or octets 7 0 ≢ 50) → IsHeadDamaged None octets 7
other_digit octets o e l none =
    head_damaged None octets 7 tt l (omega arith) o (λ k h. named_so_far octets e k (omega (arith, l, h)) h) (λ m. elim (m.version refl) [ inl one ↦ none.0 one | inr two ↦ none.1 two ])

pub short_kind : (octets : List ℕ) → IsOctets octets → Named octets → HasDigit octets → length octets ≤ 16 → IsHeadDamaged None octets (length octets)
short_kind octets o e d l = head_short None octets tt (omega (arith, l)) o (λ k h. digit_so_far octets e d k h (omega (arith, h, l)))

-- behind the digit of this version stands a letter of no kind that may have it
pub other_kind : (octets : List ℕ) (version : ℕ) → IsOctets octets → Named octets → 48 + version ≡ get_or octets 7 0 → (version ≡ 1) ⊎ (version ≡ 2) → 16 < length octets
    → ((kind : LogKind) → IsVersionOf kind version → kind_letter kind ≢ get_or octets 16 0) → IsHeadDamaged None octets 16
other_kind octets version o e digit v l none =
    head_damaged None octets 16 tt l (omega arith) o (λ k h. digit_so_far octets e (digit_of version octets digit v) k (omega (arith, l, h)) h) (λ m. never (m.kind refl))
  where
    never : HasKind octets → ⊥
    never k =
        let same : k.1 ≡ version = (let d : 48 + k.1 ≡ get_or octets 7 0 = k.4 in omega (arith, d, digit)) in
        none k.0 (subst (IsVersionOf k.0) same k.2) k.3

pub short_head : (octets : List ℕ) → IsOctets octets → Named octets → HasKind octets → length octets ≤ 25 → IsHeadDamaged None octets (length octets)
short_head octets o e h l = head_short None octets tt l o (λ k b. stands_so_far octets e h k b)

pub whole_head : (octets : List ℕ) (head : LogHead) → IsOctets octets → Named octets → 25 < length octets → IsVersionOf head.kind head.version → 48 + head.version ≡ get_or octets 7 0 → kind_letter head.kind ≡ get_or octets 16 0
    → head.store.0 ≡ take 8 (drop 8 (take 25 octets)) → head.number ≡ from_be_bytes w32 (take 4 (drop 17 (take 25 octets))) → head.generation ≡ from_be_bytes w32 (drop 21 (take 25 octets))
    → HeadFits head × (take 25 octets ≡ head_octets head)
whole_head octets head o e l version digit kind store number generation =
    let whole : length (take 25 octets) ≡ 25 = length-take-le 25 octets (omega (arith, l)) in
    let same : take 7 octets ≡ codes "MDBXLOG" = same_front octets (codes "MDBXLOG") 7 (omega (arith, l)) (omega arith) (λ k h. agree octets (codes "MDBXLOG") e k (omega (arith, h, l)) h) in
    let name : take 7 (take 25 octets) ≡ codes "MDBXLOG" = take-take 7 25 octets (omega arith) ∙ same in
    let number_too : 48 + head.version ≡ get_or (take 25 octets) 7 0 = digit ∙ sym (get_or-take 25 octets 7 0 (omega arith)) in
    let letter : kind_letter head.kind ≡ get_or (take 25 octets) 16 0 = kind ∙ sym (get_or-take 25 octets 16 0 (omega arith)) in
    let r : HeadFits head × (head_octets head ≡ take 25 octets) = head_in (take 25 octets) head whole (All-take (λ b. b < 256) 25 octets o) name version number_too letter store number generation in
    (r.0, sym r.1)

-- the digit of a version is an octet
pub version_small : (kind : LogKind) (version : ℕ) → IsVersionOf kind version → version ≤ 2
version_small kind version v = elim (version_digit kind version (48 + version) v refl) [ inl d ↦ omega (arith, d) | inr d ↦ omega (arith, d) ]
