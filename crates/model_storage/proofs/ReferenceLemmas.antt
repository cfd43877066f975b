-- References have one spelling, and a text spells one list of references.
use Rattle.std.specs.Prelude.{◌≡◌, ◌<◌, ◌^◌, ◌+◌, ◌%◌, ◌==◌, ◌&&◌, not, ℕ, Bool, true, false, List, [], ◌∷◌, ◌++◌, length, take, drop, flat_map, codes, IsTrue, Option, Some, None, Ok, refl, if◌then◌else◌}
use Rattle.std.specs.List.{list_all, AllByRecursion}
use Rattle.std.proofs.Common.{sym, inl, inr, ◌∙◌, ap, arith, append_assoc, append-nil, length-take, length-drop}
use Rattle.std.proofs.lemmas.Grind.{common_steps}
use Rattle.std.proofs.lemmas.Bool.{cases_lt}
use Rattle.std.proofs.lemmas.List.{get_or_past}
use Rattle.std.proofs.lemmas.Fmt.{decimal_by_steps, decimal_injective}
use Rattle.std.specs.Fmt.{decimal}
use Rattle.hex.specs.Hex.{encode_lower, IsBytes, lower_digits, decode_of}
use Rattle.hex.proofs.HexLemmas.{length-encode_with, decode_of-encode_lower}
use Rattle.mdbox_base.specs.Numbers.{is_between}
use Rattle.mdbox_base.specs.Words.{IsOctets, is_other_than}
use Rattle.mdbox_base.specs.declared.ids.Hash.{Hash}
use Rattle.mdbox_base.specs.declared.ids.InstId.{InstId}
use Rattle.mdbox_base.specs.declared.metadata.LineForm.{LineForm}
use Rattle.mdbox_base.specs.declared.metadata.ExtRef.{ExtRef}
use Rattle.model_octets.proofs.PiecesLemmas.{split_same}
use Rattle.model_storage.specs.References.{options_text, reference_text, FormFits, ReferenceFits, AreReferences}

-- what stands behind the first
abbrev pub behind : List ℕ → List ℕ
behind [] = []
behind (x ∷ xs) = xs

abbrev pub is_digit : ℕ → Bool
is_digit c = is_between 48 57 c

pub both : (a b : Bool) → IsTrue a → IsTrue b → IsTrue (a && b)
both true b ha hb = hb
both false b ha hb = cc ha

pub first : (a b : Bool) → IsTrue (a && b) → IsTrue a
first true b h = refl
first false b h = h

pub second : (a b : Bool) → IsTrue (a && b) → IsTrue b
second true b h = h
second false b h = cc h

-- a text without the mark ends at the first mark
marked : (mark b : ℕ) (rest : Bool) → IsTrue (is_other_than mark b && rest) → mark ≡ b → ⊥
marked mark b rest h e = grind (arith, common_steps, h, e)

pub until_same : (mark : ℕ) (a b x y : List ℕ) → IsTrue (list_all (is_other_than mark) a) → IsTrue (list_all (is_other_than mark) b) → a ++ mark ∷ x ≡ b ++ mark ∷ y → (a ≡ b) × (x ≡ y)
until_same mark [] [] x y pa pb e = (refl, cc)
until_same mark [] (b ∷ bs) x y pa pb e = absurd (let h : mark ≡ b = cc in marked mark b (list_all (is_other_than mark) bs) pb h)
until_same mark (a ∷ us) [] x y pa pb e = absurd (let h : a ≡ mark = cc in marked mark a (list_all (is_other_than mark) us) pa (sym h))
until_same mark (a ∷ us) (b ∷ bs) x y pa pb e =
    let h : a ≡ b = cc in
    let t : us ++ mark ∷ x ≡ bs ++ mark ∷ y = cc in
    let r : (us ≡ bs) × (x ≡ y) = until_same mark us bs x y (second (is_other_than mark a) (list_all (is_other_than mark) us) pa) (second (is_other_than mark b) (list_all (is_other_than mark) bs) pb) t in
    (cc (r.0, h), r.1)

-- tests of a list with one more at its end
pub all_more : (p : ℕ → Bool) (xs : List ℕ) (y : ℕ) → IsTrue (list_all p xs) → p y ≡ true → IsTrue (list_all p (xs ++ y ∷ []))
all_more p [] y h k = rw k refl
all_more p (x ∷ xs) y h k = both (p x) _ (first (p x) _ h) (all_more p xs y (second (p x) _ h) k)

pub all_last : (p : ℕ → Bool) (xs : List ℕ) (y : ℕ) → IsTrue (list_all p (xs ++ y ∷ [])) → IsTrue (p y)
all_last p [] y h = by_last (p y) h
  where
    by_last : (b : Bool) → IsTrue (b && true) → IsTrue b
    by_last true h = refl
    by_last false h = h
all_last p (x ∷ xs) y h = all_last p xs y (second (p x) _ h)

digit_at : (n : ℕ) → n < 10 → is_digit (48 + n) ≡ true
digit_at n lt = grind (arith, common_steps, lt)

-- the digits of a number are digits
pub decimal_digits : (n : ℕ) → n < 2 ^ 64 → IsTrue (list_all is_digit (decimal n))
decimal_digits n lt = decimal_by_steps (λ k ds. IsTrue (list_all is_digit ds))
    (λ k h. all_more is_digit [] (48 + k) refl (digit_at k h))
    (λ k ds h q. all_more is_digit ds (48 + k % 10) q (digit_at (k % 10) (omega arith))) n lt

digit_is_other : (mark c : ℕ) → is_digit mark ≡ false → is_digit c ≡ true → is_other_than mark c ≡ true
digit_is_other mark c no_digit digit = grind (arith, common_steps, no_digit, digit)

pub others : (mark : ℕ) (ds : List ℕ) → is_digit mark ≡ false → IsTrue (list_all is_digit ds) → IsTrue (list_all (is_other_than mark) ds)
others mark [] h q = refl
others mark (d ∷ ds) h q = both (is_other_than mark d) _ (digit_is_other mark d h (first (is_digit d) _ q)) (others mark ds h (second (is_digit d) _ q))

-- a number in front of a mark that is no digit
pub number_until : (mark m n : ℕ) (x y : List ℕ) → is_digit mark ≡ false → m < 2 ^ 64 → n < 2 ^ 64 → decimal m ++ mark ∷ x ≡ decimal n ++ mark ∷ y → (m ≡ n) × (x ≡ y)
number_until mark m n x y h hm hn e =
    let r = until_same mark (decimal m) (decimal n) x y (others mark (decimal m) h (decimal_digits m hm)) (others mark (decimal n) h (decimal_digits n hn)) e in
    (decimal_injective m n hm hn r.0, r.1)

-- the options
made_form : ℕ → Bool → LineForm
made_form n crlf = record { length = n; crlf = crlf }

form_numbers : (m n : ℕ) (p q : Bool) → m < 2 ^ 64 → n < 2 ^ 64 → decimal m ++ (if p then codes "C" else codes "") ≡ decimal n ++ (if q then codes "C" else codes "") → (m ≡ n) × (p ≡ q)
form_numbers m n true true hm hn e = ((number_until 67 m n [] [] refl hm hn e).0, refl)
form_numbers m n false false hm hn e = (decimal_injective m n hm hn (sym (append-nil _) ∙ e ∙ append-nil _), refl)
form_numbers m n true false hm hn e =
    let d : IsTrue (list_all is_digit (decimal m ++ 67 ∷ [])) = rw (e, append-nil (decimal n)) (decimal_digits n hn) in
    absurd (let z : IsTrue (is_digit 67) = all_last is_digit (decimal m) 67 d in cc z)
form_numbers m n false true hm hn e =
    let d : IsTrue (list_all is_digit (decimal n ++ 67 ∷ [])) = rw (← e, append-nil (decimal m)) (decimal_digits m hm) in
    absurd (let z : IsTrue (is_digit 67) = all_last is_digit (decimal n) 67 d in cc z)

front : List ℕ → ℕ
front [] = 0
front (x ∷ xs) = x

minus_or_b : (x : List ℕ) → codes "-" ≡ codes "B" ++ x → ⊥
unfolding front
minus_or_b x e = let h : 45 ≡ 66 = ap front e in omega (arith, h)

form_same : (a b : Option LineForm) → FormFits a → FormFits b → options_text a ≡ options_text b → a ≡ b
unfolding made_form
form_same None None p q e = refl
form_same None (Some g) p q e = absurd (minus_or_b _ e)
form_same (Some f) None p q e = absurd (minus_or_b _ (sym e))
form_same (Some f) (Some g) p q e =
    let r = form_numbers f.length g.length f.crlf g.crlf (omega (arith, p.most)) (omega (arith, q.most)) (ap behind e) in
    let n : f.length ≡ g.length = r.0 in
    let c : f.crlf ≡ g.crlf = r.1 in
    let h : made_form f.length f.crlf ≡ made_form g.length g.crlf = cc (n, c) in
    ap (λ (o : LineForm). Some o) h

no_space_c : (ds : List ℕ) (crlf : Bool) → IsTrue (list_all (is_other_than 32) ds) → IsTrue (list_all (is_other_than 32) (ds ++ (if crlf then codes "C" else codes "")))
no_space_c ds true h = all_more (is_other_than 32) ds 67 h refl
no_space_c ds false h = rw (append-nil ds) h

form_no_space : (a : Option LineForm) → FormFits a → IsTrue (list_all (is_other_than 32) (options_text a))
form_no_space None p = refl
form_no_space (Some f) p = no_space_c (decimal f.length) f.crlf (others 32 (decimal f.length) refl (decimal_digits f.length (omega (arith, p.most))))

-- octets in hexadecimal digits
pub octets_are_bytes : (xs : List ℕ) → IsOctets xs → IsBytes xs
octets_are_bytes xs h i =
    elim (cases_lt i (length xs)) [ inl lt ↦ h i 0 lt | inr le ↦ rw (get_or_past xs i 0 le) (omega arith) ]

pub hex_same : (xs ys : List ℕ) → IsOctets xs → IsOctets ys → encode_lower xs ≡ encode_lower ys → xs ≡ ys
hex_same xs ys p q e =
    let k : Ok xs ≡ Ok ys = sym (decode_of-encode_lower xs (octets_are_bytes xs p)) ∙ ap decode_of e ∙ decode_of-encode_lower ys (octets_are_bytes ys q) in
    cc k

hash_same : (a b : Hash) → a.0 ≡ b.0 → a ≡ b
hash_same a b e = ap (λ (n : List ℕ). let u : Hash = record { 0 = n } in u) e

id_same : (a b : InstId) → a.0 ≡ b.0 → a ≡ b
id_same a b e = ap (λ (n : List ℕ). let u : InstId = record { 0 = n } in u) e

made_ref : ℕ → ℕ → Option LineForm → Hash → InstId → ExtRef
made_ref start count form hash id = record { start = start; count = count; form = form; hash = hash; id = id }

-- the pieces of a group, with what follows it
pieces : (start count form h1 h2 hash id x : List ℕ) →
    (start ++ (codes " " ++ (count ++ (codes " " ++ (form ++ (codes " " ++ (h1 ++ (codes "/" ++ (h2 ++ (codes "/" ++ (hash ++ (codes "-" ++ id)))))))))))) ++ x
    ≡ start ++ 32 ∷ (count ++ 32 ∷ (form ++ 32 ∷ (h1 ++ 47 ∷ (h2 ++ 47 ∷ (hash ++ 45 ∷ (id ++ x))))))
pieces start count form h1 h2 hash id x = simp append_assoc

-- No group begins another.
pub reference_same : (x y : List ℕ) (r s : ExtRef) → ReferenceFits r → ReferenceFits s → reference_text r ++ x ≡ reference_text s ++ y → (r ≡ s) × (x ≡ y)
unfolding made_ref
reference_same x y r s a b e =
    let h1 : ExtRef → List ℕ = λ o. encode_lower (take 1 o.hash.0) in
    let h2 : ExtRef → List ℕ = λ o. encode_lower (take 1 (drop 1 o.hash.0)) in
    let f = sym (pieces (decimal r.start) (decimal r.count) (options_text r.form) (encode_lower (take 1 r.hash.0)) (encode_lower (take 1 (drop 1 r.hash.0))) (encode_lower r.hash.0) (encode_lower r.id.0) x)
    ∙ e ∙ pieces (decimal s.start) (decimal s.count) (options_text s.form) (encode_lower (take 1 s.hash.0)) (encode_lower (take 1 (drop 1 s.hash.0))) (encode_lower s.hash.0) (encode_lower s.id.0) y in
    let r1 = number_until 32 r.start s.start _ _ refl (omega (arith, a.start)) (omega (arith, b.start)) f in
    let r2 = number_until 32 r.count s.count _ _ refl (omega (arith, a.count)) (omega (arith, b.count)) r1.1 in
    let r3 = until_same 32 (options_text r.form) (options_text s.form) _ _ (form_no_space r.form a.form) (form_no_space s.form b.form) r2.1 in
    let l1 : length (encode_lower (take 1 r.hash.0)) ≡ length (encode_lower (take 1 s.hash.0)) = omega (arith, length-encode_with lower_digits (take 1 r.hash.0), length-encode_with lower_digits (take 1 s.hash.0), length-take 1 r.hash.0, length-take 1 s.hash.0, a.hash_length, b.hash_length) in
    let l2 : length (encode_lower (take 1 (drop 1 r.hash.0))) ≡ length (encode_lower (take 1 (drop 1 s.hash.0))) = omega (arith, length-encode_with lower_digits (take 1 (drop 1 r.hash.0)), length-encode_with lower_digits (take 1 (drop 1 s.hash.0)), length-take 1 (drop 1 r.hash.0), length-take 1 (drop 1 s.hash.0), length-drop 1 r.hash.0, length-drop 1 s.hash.0, a.hash_length, b.hash_length) in
    let l3 : length (encode_lower r.hash.0) ≡ length (encode_lower s.hash.0) = omega (arith, length-encode_with lower_digits r.hash.0, length-encode_with lower_digits s.hash.0, a.hash_length, b.hash_length) in
    let l4 : length (encode_lower r.id.0) ≡ length (encode_lower s.id.0) = omega (arith, length-encode_with lower_digits r.id.0, length-encode_with lower_digits s.id.0, a.id_length, b.id_length) in
    let r4 = split_same (encode_lower (take 1 r.hash.0)) (encode_lower (take 1 s.hash.0)) _ _ l1 r3.1 in
    let r5 = split_same (encode_lower (take 1 (drop 1 r.hash.0))) (encode_lower (take 1 (drop 1 s.hash.0))) _ _ l2 (ap behind r4.1) in
    let r6 = split_same (encode_lower r.hash.0) (encode_lower s.hash.0) _ _ l3 (ap behind r5.1) in
    let r7 = split_same (encode_lower r.id.0) (encode_lower s.id.0) _ _ l4 (ap behind r6.1) in
    let e1 : r.start ≡ s.start = r1.0 in
    let e2 : r.count ≡ s.count = r2.0 in
    let e3 : r.form ≡ s.form = form_same r.form s.form a.form b.form r3.0 in
    let e4 : r.hash ≡ s.hash = hash_same r.hash s.hash (hex_same r.hash.0 s.hash.0 a.hash b.hash r6.0) in
    let e5 : r.id ≡ s.id = id_same r.id s.id (hex_same r.id.0 s.id.0 a.id b.id r7.0) in
    let h : made_ref r.start r.count r.form r.hash r.id ≡ made_ref s.start s.count s.form s.hash s.id = cc (e1, e2, e3, e4, e5) in
    (h, r7.1)

-- the groups behind the first, each behind a space
rest_same : (rs ss : List ExtRef) → AllByRecursion ReferenceFits rs → AllByRecursion ReferenceFits ss →
    flat_map (λ r. codes " " ++ reference_text r) rs ≡ flat_map (λ r. codes " " ++ reference_text r) ss → rs ≡ ss
rest_same [] [] p q e = refl
rest_same [] (s ∷ ss) p q e = cc e
rest_same (r ∷ rs) [] p q e = cc e
rest_same (r ∷ rs) (s ∷ ss) p q e =
    let g = reference_same (flat_map (λ r. codes " " ++ reference_text r) rs) (flat_map (λ r. codes " " ++ reference_text r) ss) r s p.0 q.0 (ap behind e) in
    let h : r ≡ s = g.0 in
    let t : rs ≡ ss = rest_same rs ss p.1 q.1 g.1 in
    cc (h, t)

-- A text spells one list of references at most.
pub references_same : (text : List ℕ) (rs ss : List ExtRef) → AreReferences text rs → AreReferences text ss → rs ≡ ss
references_same text [] ss a b = absurd (omega (arith, a.some))
references_same text (r ∷ rs) [] a b = absurd (omega (arith, b.some))
references_same text (r ∷ rs) (s ∷ ss) a b =
    let g = reference_same (flat_map (λ r. codes " " ++ reference_text r) rs) (flat_map (λ r. codes " " ++ reference_text r) ss) r s a.fit.0 b.fit.0 (sym a.spelled ∙ b.spelled) in
    let h : r ≡ s = g.0 in
    let t : rs ≡ ss = rest_same rs ss a.fit.1 b.fit.1 g.1 in
    cc (h, t)
