-- Which octets begin a head.
use Rattle.std.specs.Prelude.{◌≡◌, ◌<◌, ◌≤◌, ◌^◌, ◌+◌, ◌-◌, ℕ, List, [], ◌∷◌, ◌++◌, length, take, drop, refl, Option, Some, None, IfSome, ◌⊎◌, codes}
use Rattle.std.specs.Int.{w32, to_be_bytes, from_be_bytes}
use Rattle.std.proofs.Common.{inl, inr, zero, suc, subst, sym, ◌∙◌, ap, arith, get_or, length-append, length-drop, drop-cons, lit<}
use Rattle.std.proofs.Math.ListN.{get_or-append}
use Rattle.std.proofs.Math.Seq.{get_or-append_seam}
use Rattle.std.proofs.lemmas.Bool.{cases_lt, cases_eq}
use Rattle.std.proofs.lemmas.List.{take-append-drop, drop-drop, get_or-drop, get_or-take, get_or-append_right, length-take-le}
use Rattle.std.proofs.lemmas.List.Elements.{All-take, All-drop, All-append, All-from_recursion}
use Rattle.std.proofs.lemmas.Nat.{be_bytes_4}
use Rattle.mdbox_base.specs.Words.{IsOctets}
use Rattle.model_logs.specs.declared.log_head.LogHead.{LogHead}
use Rattle.model_logs.specs.declared.log_head.LogKind.{LogKind}
use Rattle.model_logs.specs.declared.log_head.LogKind.TheVariants.{Root, Map, Box}
use Rattle.model_logs.specs.LogFile.{kind_letter, IsVersionOf, HeadFits, head_octets, IsTaken, BeginsHead, IsHeadDamaged}
use Rattle.model_logs.proofs.LogFileLemmas.{head_length}

-- lists that agree up to a place
pub same_front : (xs ys : List ℕ) (n : ℕ) → n ≤ length xs → n ≤ length ys → ((k : ℕ) → k < n → get_or xs k 0 ≡ get_or ys k 0) → take n xs ≡ take n ys
same_front xs ys zero a b h = refl
same_front [] ys (suc n) a b h = absurd (omega arith)
same_front (x ∷ xs) [] (suc n) a b h = absurd (omega arith)
same_front (x ∷ xs) (y ∷ ys) (suc n) a b h =
    let first : x ≡ y = h 0 (omega arith) in
    let rest : take n xs ≡ take n ys = same_front xs ys n (omega arith) (omega arith) (λ k l. h (suc k) (omega arith)) in
    cc

-- the digit of a version and the letter of a kind that may have it
abbrev pub HasKind : List ℕ → Type 0
HasKind octets = (kind : LogKind) × (version : ℕ) × IsVersionOf kind version × (kind_letter kind ≡ get_or octets 16 0) × (48 + version ≡ get_or octets 7 0)

-- the octet at this place may stand there in a head, behind those before it
pub record MayStand (octets : List ℕ) (place : ℕ) : Type 0 where
  pub name : place < 7 → get_or octets place 0 ≡ get_or (codes "MDBXLOG") place 0
  pub version : place ≡ 7 → (get_or octets 7 0 ≡ 49) ⊎ (get_or octets 7 0 ≡ 50)
  pub kind : place ≡ 16 → HasKind octets

pub has_kind_too : (xs ys : List ℕ) → get_or xs 7 0 ≡ get_or ys 7 0 → get_or xs 16 0 ≡ get_or ys 16 0 → HasKind xs → HasKind ys
has_kind_too xs ys d l k = (k.0, k.1, k.2, k.3 ∙ l, k.4 ∙ d)

pub version_digit : (kind : LogKind) (version digit : ℕ) → IsVersionOf kind version → 48 + version ≡ digit → (digit ≡ 49) ⊎ (digit ≡ 50)
version_digit Root version digit v e = inl (omega (arith, v, e))
version_digit Map version digit v e = inl (omega (arith, v, e))
version_digit Box version digit (inl v) e = inl (omega (arith, v, e))
version_digit Box version digit (inr v) e = inr (omega (arith, v, e))

digit_too : {a b : ℕ} → a ≡ b → (b ≡ 49) ⊎ (b ≡ 50) → (a ≡ 49) ⊎ (a ≡ 50)
digit_too e (inl d) = inl (e ∙ d)
digit_too e (inr d) = inr (e ∙ d)

-- octets that are the same up to the place
stand_same : (xs ys : List ℕ) (n : ℕ) → ((k : ℕ) → k ≤ n → get_or xs k 0 ≡ get_or ys k 0) → MayStand xs n → MayStand ys n
stand_same xs ys n same m = record {
  name = λ l. sym (same n (omega arith)) ∙ m.name l;
  version = λ e. digit_too (sym (same 7 (omega (arith, e)))) (m.version e);
  kind = λ e. has_kind_too xs ys (same 7 (omega (arith, e))) (same 16 (omega (arith, e))) (m.kind e);
}

past : (xs : List ℕ) (i : ℕ) → length xs ≤ i → get_or xs i 0 ≡ 0
past [] i g = refl
past (x ∷ xs) zero g = absurd (omega arith)
past (x ∷ xs) (suc i) g = past xs i (omega arith)

pub octet_at : (xs : List ℕ) (i : ℕ) → IsOctets xs → get_or xs i 0 < 256
octet_at xs i o = elim (cases_lt i (length xs)) [ inl l ↦ o i 0 l | inr g ↦ rw (past xs i g) (lit< tt) ]

pub number_below : (bs : List ℕ) → IsOctets bs → from_be_bytes w32 bs < 2 ^ 32
number_below bs o = omega (arith, octet_at bs 0 o, octet_at bs 1 o, octet_at bs 2 o, octet_at bs 3 o)

-- 25 octets in pieces
pieces : (xs : List ℕ) → length xs ≡ 25 → xs ≡ take 7 xs ++ get_or xs 7 0 ∷ (take 8 (drop 8 xs) ++ get_or xs 16 0 ∷ (take 4 (drop 17 xs) ++ drop 21 xs))
pieces xs l =
    let a : take 7 xs ++ drop 7 xs ≡ xs = take-append-drop 7 xs in
    let v : drop 7 xs ≡ get_or xs 7 0 ∷ drop 8 xs = drop-cons xs 7 0 (omega arith) in
    let b : take 8 (drop 8 xs) ++ drop 8 (drop 8 xs) ≡ drop 8 xs = take-append-drop 8 (drop 8 xs) in
    let c : drop 8 (drop 8 xs) ≡ drop 16 xs = drop-drop 8 8 xs in
    let d : drop 16 xs ≡ get_or xs 16 0 ∷ drop 17 xs = drop-cons xs 16 0 (omega arith) in
    let e : take 4 (drop 17 xs) ++ drop 4 (drop 17 xs) ≡ drop 17 xs = take-append-drop 4 (drop 17 xs) in
    let f : drop 4 (drop 17 xs) ≡ drop 21 xs = drop-drop 4 17 xs in
    sym a
    ∙ ap (λ (t : List ℕ). take 7 xs ++ t) v
    ∙ ap (λ (t : List ℕ). take 7 xs ++ get_or xs 7 0 ∷ t) (sym b)
    ∙ ap (λ (t : List ℕ). take 7 xs ++ get_or xs 7 0 ∷ (take 8 (drop 8 xs) ++ t)) (c ∙ d)
    ∙ ap (λ (t : List ℕ). take 7 xs ++ get_or xs 7 0 ∷ (take 8 (drop 8 xs) ++ get_or xs 16 0 ∷ t)) (sym e)
    ∙ ap (λ (t : List ℕ). take 7 xs ++ get_or xs 7 0 ∷ (take 8 (drop 8 xs) ++ get_or xs 16 0 ∷ (take 4 (drop 17 xs) ++ t))) f

joined : (xs name store number generation : List ℕ) (digit letter : ℕ) → length xs ≡ 25 → name ≡ take 7 xs → digit ≡ get_or xs 7 0 → store ≡ take 8 (drop 8 xs) → letter ≡ get_or xs 16 0
    → number ≡ take 4 (drop 17 xs) → generation ≡ drop 21 xs → name ++ digit ∷ (store ++ letter ∷ (number ++ generation)) ≡ xs
joined xs name store number generation digit letter l a v b c d e = rw (a, v, b, c, d, e) (sym (pieces xs l))

-- the head that 25 octets are
pub head_in : (xs : List ℕ) (head : LogHead) → length xs ≡ 25 → IsOctets xs → take 7 xs ≡ codes "MDBXLOG" → IsVersionOf head.kind head.version → 48 + head.version ≡ get_or xs 7 0 → kind_letter head.kind ≡ get_or xs 16 0
    → head.store.0 ≡ take 8 (drop 8 xs) → head.number ≡ from_be_bytes w32 (take 4 (drop 17 xs)) → head.generation ≡ from_be_bytes w32 (drop 21 xs)
    → HeadFits head × (head_octets head ≡ xs)
unfolding head_octets
head_in xs head l o name version digit kind store number generation =
    let os : IsOctets (take 8 (drop 8 xs)) = All-take (λ b. b < 256) 8 (drop 8 xs) (All-drop (λ b. b < 256) 8 xs o) in
    let on : IsOctets (take 4 (drop 17 xs)) = All-take (λ b. b < 256) 4 (drop 17 xs) (All-drop (λ b. b < 256) 17 xs o) in
    let og : IsOctets (drop 21 xs) = All-drop (λ b. b < 256) 21 xs o in
    let ls : length (take 8 (drop 8 xs)) ≡ 8 = length-take-le 8 (drop 8 xs) (omega (arith, length-drop 8 xs)) in
    let ln : length (take 4 (drop 17 xs)) ≡ 4 = length-take-le 4 (drop 17 xs) (omega (arith, length-drop 17 xs)) in
    let lg : length (drop 21 xs) ≡ 4 = omega (arith, length-drop 21 xs) in
    let en : to_be_bytes w32 head.number ≡ take 4 (drop 17 xs) = be_bytes_4 (take 4 (drop 17 xs)) head.number ln (λ i. octet_at _ i on) number in
    let eg : to_be_bytes w32 head.generation ≡ drop 21 xs = be_bytes_4 (drop 21 xs) head.generation lg (λ i. octet_at _ i og) generation in (
      record {
        version = version;
        store = ap length store ∙ ls;
        octets = subst IsOctets (sym store) os;
        number = rw number (number_below (take 4 (drop 17 xs)) on);
        generation = rw generation (number_below (drop 21 xs) og);
      },
      joined xs (codes "MDBXLOG") head.store.0 (to_be_bytes w32 head.number) (to_be_bytes w32 head.generation) (48 + head.version) (kind_letter head.kind) l (sym name) digit store kind en eg,
    )

-- the octets of some head of version 1, of a mailbox's log: its letter may stand in each version
plain : List ℕ
plain = codes "MDBXLOG" ++ (49 ∷ 0 ∷ 0 ∷ 0 ∷ 0 ∷ 0 ∷ 0 ∷ 0 ∷ 0 ∷ 66 ∷ 0 ∷ 0 ∷ 0 ∷ 0 ∷ 0 ∷ 0 ∷ 0 ∷ 0 ∷ [])

plain_length : length plain ≡ 25
unfolding plain
plain_length = refl

plain_octets : IsOctets plain
unfolding plain
plain_octets = All-from_recursion (λ b. b < 256) plain (lit< tt, (lit< tt, (lit< tt, (lit< tt, (lit< tt, (lit< tt, (lit< tt, (lit< tt, (lit< tt, (lit< tt, (lit< tt, (lit< tt, (lit< tt, (lit< tt, (lit< tt, (lit< tt, (lit< tt, (lit< tt, (lit< tt, (lit< tt, (lit< tt, (lit< tt, (lit< tt, (lit< tt, (lit< tt, tt)))))))))))))))))))))))))

plain_name : (k : ℕ) → k < 7 → get_or plain k 0 ≡ get_or (codes "MDBXLOG") k 0
unfolding plain
plain_name k l = get_or-append (codes "MDBXLOG") (49 ∷ 0 ∷ 0 ∷ 0 ∷ 0 ∷ 0 ∷ 0 ∷ 0 ∷ 0 ∷ 66 ∷ 0 ∷ 0 ∷ 0 ∷ 0 ∷ 0 ∷ 0 ∷ 0 ∷ 0 ∷ []) 0 k l

plain_digit : get_or plain 7 0 ≡ 49
unfolding plain
plain_digit = refl

plain_letter : get_or plain 16 0 ≡ 66
unfolding plain
plain_letter = refl

box_kind : (octets : List ℕ) → (get_or octets 7 0 ≡ 49) ⊎ (get_or octets 7 0 ≡ 50) → get_or octets 16 0 ≡ 66 → HasKind octets
box_kind octets (inl d) l = (Box, 1, inl refl, sym l, sym d)
box_kind octets (inr d) l = (Box, 2, inr refl, sym l, sym d)

-- octets that may stand where they do begin a head
pub may_begin : (octets : List ℕ) (n : ℕ) → n ≤ length octets → n ≤ 25 → IsOctets octets → ((k : ℕ) → k < n → MayStand octets k) → BeginsHead None (take n octets)
may_begin octets n l short o may =
    let xs : List ℕ = take n octets ++ drop n plain in
    let front : length (take n octets) ≡ n = length-take-le n octets l in
    let back : length (drop n plain) ≡ 25 - n = length-drop n plain ∙ ap (λ (m : ℕ). m - n) plain_length in
    let whole : length xs ≡ 25 = length-append (take n octets) (drop n plain) ∙ omega (arith, front, back, short) in
    let os : IsOctets xs = All-append (λ b. b < 256) _ _ (All-take (λ b. b < 256) n octets o) (All-drop (λ b. b < 256) n plain plain_octets) in
    let at : (k : ℕ) → k < n → get_or xs k 0 ≡ get_or octets k 0 = λ k below.
    let i : k < length (take n octets) = omega (arith, front, below) in
    get_or-append (take n octets) (drop n plain) 0 k i ∙ get_or-take n octets k 0 below in
    let above : (k : ℕ) → n ≤ k → get_or xs k 0 ≡ get_or plain k 0 = λ k over.
    let here : n + (k - n) ≡ k = omega (arith, over) in
    get_or-append_right (take n octets) (drop n plain) n k 0 front over ∙ get_or-drop n plain (k - n) 0 ∙ ap (λ (m : ℕ). get_or plain m 0) here in
    let same : (k : ℕ) → k < 7 → get_or xs k 0 ≡ get_or (codes "MDBXLOG") k 0 = λ k low. elim (cases_lt k n) [
      | inl below ↦ at k below ∙ (may k below).name low
      | inr over ↦ above k over ∙ plain_name k low
    ] in
    let name : take 7 xs ≡ codes "MDBXLOG" = same_front xs (codes "MDBXLOG") 7 (omega (arith, whole)) (omega arith) same in
    let digit : (get_or xs 7 0 ≡ 49) ⊎ (get_or xs 7 0 ≡ 50) = elim (cases_lt 7 n) [
      | inl below ↦ digit_too (at 7 below) ((may 7 below).version refl)
      | inr over ↦ inl (above 7 over ∙ plain_digit)
    ] in
    let kind : HasKind xs = elim (cases_lt 16 n) [
      | inl below ↦ has_kind_too octets xs (sym (at 7 (omega (arith, below)))) (sym (at 16 below)) ((may 16 below).kind refl)
      | inr over ↦ box_kind xs digit (above 16 over ∙ plain_letter)
    ] in
    let head : LogHead = record { version = kind.1; store = record { 0 = take 8 (drop 8 xs) }; kind = kind.0; number = from_be_bytes w32 (take 4 (drop 17 xs)); generation = from_be_bytes w32 (drop 21 xs) } in
    let r : HeadFits head × (head_octets head ≡ xs) = head_in xs head whole os name kind.2 kind.4 kind.3 refl refl refl in
    record { head = head; fits = r.0; is_taken = tt; more = drop n plain; spelled = sym r.1 }

-- each octet of a head may stand where it does
pub stands : (head : LogHead) → HeadFits head → (k : ℕ) → MayStand (head_octets head) k
unfolding head_octets
stands head f k = record {
  name = λ l. get_or-append (codes "MDBXLOG") ((48 + head.version) ∷ (head.store.0 ++ kind_letter head.kind ∷ (to_be_bytes w32 head.number ++ to_be_bytes w32 head.generation))) 0 k l;
  version = λ e. version_digit head.kind head.version (48 + head.version) f.version refl;
  kind = λ e. (head.kind, head.version, f.version, sym (at_seam head.store.0 (kind_letter head.kind) _ f.store), refl);
}
  where
    at_seam : (xs : List ℕ) (y : ℕ) (ys : List ℕ) → length xs ≡ 8 → get_or (xs ++ y ∷ ys) 8 0 ≡ y
    at_seam xs y ys l = rw (← l) (get_or-append_seam xs y ys 0)

-- the octet at this place may stand there in a head that is taken, behind those before it
abbrev pub MayBe : Option LogHead → List ℕ → ℕ → Type 0
MayBe None octets place = MayStand octets place
MayBe (Some head) octets place = get_or octets place 0 ≡ get_or (head_octets head) place 0

pub begins_where : (asked : Option LogHead) (octets : List ℕ) (n : ℕ) → IfSome asked HeadFits → n ≤ length octets → n ≤ 25 → IsOctets octets
    → ((k : ℕ) → k < n → MayBe asked octets k) → BeginsHead asked (take n octets)
begins_where None octets n f l short o may = may_begin octets n l short o may
begins_where (Some head) octets n f l short o may =
    let same : take n octets ≡ take n (head_octets head) = same_front octets (head_octets head) n l (omega (arith, short, head_length head f)) may in
    record { head = head; fits = f; is_taken = refl; more = drop n (head_octets head); spelled = ap (λ (t : List ℕ). t ++ drop n (head_octets head)) same ∙ take-append-drop n (head_octets head) }

may_be : (asked : Option LogHead) (head : LogHead) (n : ℕ) → HeadFits head → IsTaken asked head → MayBe asked (head_octets head) n
may_be None head n f t = stands head f n
may_be (Some asked) head n f t = ap (λ (h : LogHead). get_or (head_octets h) n 0) t

may_same : (asked : Option LogHead) (xs ys : List ℕ) (n : ℕ) → ((k : ℕ) → k ≤ n → get_or xs k 0 ≡ get_or ys k 0) → MayBe asked xs n → MayBe asked ys n
may_same None xs ys n same m = stand_same xs ys n same m
may_same (Some head) xs ys n same m = sym (same n (omega arith)) ∙ m

pub none_begins : (asked : Option LogHead) (octets : List ℕ) (n : ℕ) → n < length octets → (MayBe asked octets n → ⊥) → BeginsHead asked (take (n + 1) octets) → ⊥
none_begins asked octets n l never b =
    let front : length (take (n + 1) octets) ≡ n + 1 = length-take-le (n + 1) octets (omega arith) in
    let at : (k : ℕ) → k ≤ n → get_or (head_octets b.head) k 0 ≡ get_or octets k 0 = λ k h.
    let i : k < length (take (n + 1) octets) = omega (arith, front, h) in
    let j : k < n + 1 = omega (arith, h) in
    ap (λ (t : List ℕ). get_or t k 0) (sym b.spelled) ∙ get_or-append (take (n + 1) octets) b.more 0 k i ∙ get_or-take (n + 1) octets k 0 j in
    never (may_same asked (head_octets b.head) octets n at (may_be asked b.head n b.fits b.is_taken))

-- the first octet that no head has there
pub head_damaged : (asked : Option LogHead) (octets : List ℕ) (place : ℕ) → IfSome asked HeadFits → place < length octets → place < 25 → IsOctets octets
    → ((k : ℕ) → k < place → MayBe asked octets k) → (MayBe asked octets place → ⊥) → IsHeadDamaged asked octets place
head_damaged asked octets place f l short o may never = record {
  within = omega arith;
  begins = begins_where asked octets place f (omega arith) (omega arith) o may;
  ends = inr (l, short, none_begins asked octets place l never);
}

-- a file that ends within the head or before the first gate
pub head_short : (asked : Option LogHead) (octets : List ℕ) → IfSome asked HeadFits → length octets ≤ 25 → IsOctets octets
    → ((k : ℕ) → k < length octets → MayBe asked octets k) → IsHeadDamaged asked octets (length octets)
head_short asked octets f short o may = record {
  within = omega arith;
  begins = begins_where asked octets (length octets) f (omega arith) short o may;
  ends = inl refl;
}

digit_decides : (octets : List ℕ) → ((get_or octets 7 0 ≡ 49) ⊎ (get_or octets 7 0 ≡ 50)) ⊎ ((get_or octets 7 0 ≡ 49) ⊎ (get_or octets 7 0 ≡ 50) → ⊥)
digit_decides octets = elim (cases_eq (get_or octets 7 0) 49) [
  | inl e ↦ inl (inl e)
  | inr no_one ↦ elim (cases_eq (get_or octets 7 0) 50) [
    | inl e ↦ inl (inr e)
    | inr no_two ↦ inr (λ d. elim d [ inl e ↦ no_one e | inr e ↦ no_two e ])
  ]
]

-- another letter than that of a mailbox's log stands only behind the digit of version 1
pub old_kind : (octets : List ℕ) (kind : LogKind) (version : ℕ) → (get_or octets 16 0 ≡ 66 → ⊥) → IsVersionOf kind version → kind_letter kind ≡ get_or octets 16 0 → 48 + version ≡ get_or octets 7 0
    → (get_or octets 7 0 ≡ 49) × ((get_or octets 16 0 ≡ 82) ⊎ (get_or octets 16 0 ≡ 77))
old_kind octets Root version no_box v l d = (omega (arith, v, d), inl (sym l))
old_kind octets Map version no_box v l d = (omega (arith, v, d), inr (sym l))
old_kind octets Box version no_box v l d = absurd (no_box (sym l))

kind_decides : (octets : List ℕ) → HasKind octets ⊎ (HasKind octets → ⊥)
kind_decides octets = elim (cases_eq (get_or octets 16 0) 66) [
  | inl letter ↦ elim (digit_decides octets) [
    | inl digit ↦ inl (box_kind octets digit letter)
    | inr never ↦ inr (λ k. never (version_digit k.0 k.1 (get_or octets 7 0) k.2 k.4))
  ]
  | inr no_box ↦ elim (cases_eq (get_or octets 7 0) 49) [
    | inr no_one ↦ inr (λ k. no_one (old_kind octets k.0 k.1 no_box k.2 k.3 k.4).0)
    | inl one ↦ elim (cases_eq (get_or octets 16 0) 82) [
      | inl root ↦ inl (Root, 1, refl, sym root, sym one)
      | inr no_root ↦ elim (cases_eq (get_or octets 16 0) 77) [
        | inl map ↦ inl (Map, 1, refl, sym map, sym one)
        | inr no_map ↦ inr (λ k. elim (old_kind octets k.0 k.1 no_box k.2 k.3 k.4).1 [ inl e ↦ no_root e | inr e ↦ no_map e ])
      ]
    ]
  ]
]

may_decides : (asked : Option LogHead) (octets : List ℕ) (place : ℕ) → MayBe asked octets place ⊎ (MayBe asked octets place → ⊥)
may_decides (Some head) octets place = cases_eq (get_or octets place 0) (get_or (head_octets head) place 0)
may_decides None octets place = elim (cases_lt place 7) [
  | inl low ↦ elim (cases_eq (get_or octets place 0) (get_or (codes "MDBXLOG") place 0)) [
    | inl e ↦ inl (record { name = λ _. e; version = λ at. absurd (omega (arith, at, low)); kind = λ at. absurd (omega (arith, at, low)) })
    | inr never ↦ inr (λ m. never (m.name low))
  ]
  | inr high ↦ elim (cases_eq place 7) [
    | inl seven ↦ elim (digit_decides octets) [
      | inl d ↦ inl (record { name = λ l. absurd (omega (arith, l, high)); version = λ _. d; kind = λ at. absurd (omega (arith, at, seven)) })
      | inr never ↦ inr (λ m. never (m.version seven))
    ]
    | inr no_seven ↦ elim (cases_eq place 16) [
      | inl at ↦ elim (kind_decides octets) [
        | inl k ↦ inl (record { name = λ l. absurd (omega (arith, l, high)); version = λ e. absurd (no_seven e); kind = λ _. k })
        | inr never ↦ inr (λ m. never (m.kind at))
      ]
      | inr off ↦ inl (record { name = λ l. absurd (omega (arith, l, high)); version = λ e. absurd (no_seven e); kind = λ e. absurd (off e) })
    ]
  ]
]

-- the places so far may stand, or one is the first that may not
pub first_place : (asked : Option LogHead) (octets : List ℕ) (n : ℕ)
    → ((k : ℕ) → k < n → MayBe asked octets k) ⊎ ((place : ℕ) × (place < n) × ((k : ℕ) → k < place → MayBe asked octets k) × (MayBe asked octets place → ⊥))
first_place asked octets zero = inl (λ k l. absurd (omega arith))
first_place asked octets (suc n) = elim (first_place asked octets n) [
  | inl all ↦ elim (may_decides asked octets n) [
    | inl here ↦ inl (λ k l. more n all here k l)
    | inr never ↦ inr (n, omega arith, all, never)
  ]
  | inr p ↦ inr (p.0, let b : p.0 < n = p.1 in omega arith, p.2, p.3)
]
  where
    more : (n : ℕ) → ((k : ℕ) → k < n → MayBe asked octets k) → MayBe asked octets n → (k : ℕ) → k < suc n → MayBe asked octets k
    more n all here k l = elim (cases_eq k n) [ inl e ↦ subst (λ (i : ℕ). MayBe asked octets i) (sym e) here | inr o ↦ all k (omega arith) ]
