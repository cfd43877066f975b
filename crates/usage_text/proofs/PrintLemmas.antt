-- A word between quotes is of printing octets.
use Rattle.std.specs.Prelude.{◌≡◌, ◌<◌, ◌≤◌, ◌+◌, ◌/◌, ◌%◌, ◌==◌, ℕ, Bool, true, false, List, [], ◌∷◌, ◌++◌, length, take, flat_map, cond, if◌then◌else◌, All, nat_lt, refl}
use Rattle.std.specs.Char.{digit_char}
use Rattle.std.specs.Char.Escape.{escape_ascii, short_escape, hex_digit_at}
use Rattle.std.proofs.Common.{arith}
use Rattle.std.proofs.lemmas.Bool.{ltb-false, ltb-true}
use Rattle.std.proofs.lemmas.List.Elements.{All-append, All-cons, All-nil}
use Rattle.usage_text.specs.BlameText.{quoted_word, IsPrinting}

if_any : {X : Type 0} → (P : X → Type 0) (b : Bool) (x y : X) → P x → P y → P (cond b x y)
if_any P true x y p q = p
if_any P false x y p q = q

if_so : {X : Type 0} → (P : X → Type 0) (b : Bool) (x y : X) → (b ≡ true → P x) → (b ≡ false → P y) → P (cond b x y)
if_so P true x y p q = p refl
if_so P false x y p q = q refl

one : (c : ℕ) (text : List ℕ) → IsPrinting c → All IsPrinting text → All IsPrinting (c ∷ text)
one c text p all = All-cons IsPrinting c text p all

none : All IsPrinting []
none = All-nil IsPrinting

abbrev IsLetter : ℕ → Type 0
IsLetter c = nat_lt 0 c ≡ true → IsPrinting c

-- the letters after a backslash, from each on
abbrev from_92 : ℕ → ℕ
from_92 c = cond (c == 92) 92 0

abbrev from_34 : ℕ → ℕ
from_34 c = cond (c == 34) 34 (from_92 c)

abbrev from_39 : ℕ → ℕ
from_39 c = cond (c == 39) 39 (from_34 c)

abbrev from_10 : ℕ → ℕ
from_10 c = cond (c == 10) 110 (from_39 c)

abbrev from_13 : ℕ → ℕ
from_13 c = cond (c == 13) 114 (from_10 c)

letter : (c : ℕ) → IsLetter (short_escape c)
letter c =
    if_any IsLetter (c == 9) 116 (from_13 c) (λ h. (omega arith, omega arith))
    (if_any IsLetter (c == 13) 114 (from_10 c) (λ h. (omega arith, omega arith))
    (if_any IsLetter (c == 10) 110 (from_39 c) (λ h. (omega arith, omega arith))
    (if_any IsLetter (c == 39) 39 (from_34 c) (λ h. (omega arith, omega arith))
    (if_any IsLetter (c == 34) 34 (from_92 c) (λ h. (omega arith, omega arith))
    (if_any IsLetter (c == 92) 92 0 (λ h. (omega arith, omega arith)) (λ h. absurd (cc h)))))))

digit : (d : ℕ) → d < 16 → IsPrinting (digit_char d)
digit d lt = if_any IsPrinting (nat_lt d 10) (48 + d) (87 + d) (omega arith, omega (arith, lt)) (omega arith, omega (arith, lt))

abbrev coded : ℕ → List ℕ
coded c = 92 ∷ 120 ∷ hex_digit_at 0x10 c ∷ hex_digit_at 1 c ∷ []

digits : (c : ℕ) → All IsPrinting (coded c)
digits c =
    let low = one (hex_digit_at 1 c) [] (digit (c / 1 % 16) (omega arith)) none in
    let both = one (hex_digit_at 0x10 c) (hex_digit_at 1 c ∷ []) (digit (c / 16 % 16) (omega arith)) low in
    let mark = one 120 (hex_digit_at 0x10 c ∷ hex_digit_at 1 c ∷ []) (omega arith, omega arith) both in
    one 92 (120 ∷ hex_digit_at 0x10 c ∷ hex_digit_at 1 c ∷ []) (omega arith, omega arith) mark

at_least : (c : ℕ) → nat_lt c 32 ≡ false → 32 ≤ c
at_least c h = ltb-false c 32 h

at_most : (c : ℕ) → nat_lt c 127 ≡ true → c ≤ 126
at_most c h = let less : c < 127 = ltb-true c 127 h in omega (arith, less)

abbrev plain_or_coded : ℕ → List ℕ
plain_or_coded c = cond (nat_lt c 127) (c ∷ []) (coded c)

abbrev low_or_not : ℕ → List ℕ
low_or_not c = cond (nat_lt c 32) (coded c) (plain_or_coded c)

escape_prints : (c : ℕ) → All IsPrinting (escape_ascii c)
escape_prints c =
    if_so (All IsPrinting) (nat_lt 0 (short_escape c)) (92 ∷ short_escape c ∷ []) (low_or_not c)
    (λ has. one 92 (short_escape c ∷ []) (omega arith, omega arith) (one (short_escape c) [] (letter c has) none))
    (λ no. if_so (All IsPrinting) (nat_lt c 32) (coded c) (plain_or_coded c) (λ low. digits c)
    (λ high. if_so (All IsPrinting) (nat_lt c 127) (c ∷ []) (coded c) (λ prints. one c [] (at_least c high, at_most c prints) none) (λ beyond. digits c)))

escapes_print : (word : List ℕ) → All IsPrinting (flat_map escape_ascii word)
escapes_print [] = none
escapes_print (c ∷ word) = All-append IsPrinting (escape_ascii c) (flat_map escape_ascii word) (escape_prints c) (escapes_print word)

points : All IsPrinting (46 ∷ 46 ∷ [])
points = one 46 (46 ∷ []) (omega arith, omega arith) (one 46 [] (omega arith, omega arith) none)

abbrev ending : List ℕ → List ℕ
ending word = if nat_lt 60 (length word) then 46 ∷ 46 ∷ [] else []

pub quoted_prints : (word : List ℕ) → All IsPrinting (quoted_word word)
quoted_prints word =
    let end : All IsPrinting (ending word) = if_any (All IsPrinting) (nat_lt 60 (length word)) (46 ∷ 46 ∷ []) [] points none in
    let rest : All IsPrinting (34 ∷ ending word) = one 34 (ending word) (omega arith, omega arith) end in
    one 34 (flat_map escape_ascii (take 60 word) ++ (34 ∷ ending word)) (omega arith, omega arith) (All-append IsPrinting (flat_map escape_ascii (take 60 word)) (34 ∷ ending word) (escapes_print (take 60 word)) rest)
