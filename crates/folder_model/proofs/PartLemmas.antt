-- Two writes side by side do what one does.
use mathlib.Core.Path.{fun_ext}
use Rattle.std.proofs.Common.{◌≡◌, ℕ, ◌+◌, ◌<◌, ◌≤◌, max, nat_le, nat_lt, Bool, true, false, ◌||◌, List, [], ◌++◌, length, take, drop, Some, refl, sym, ◌∙◌, ap, ◌⊎◌, inl, inr, arith, get_or, slice_get, All, append_assoc, length-append}
use Rattle.std.proofs.lemmas.Bool.{and_cases, leb-false, ltb-false, false≢true}
use Rattle.std.proofs.lemmas.Bool.Decides.{nat_tests}
use Rattle.std.proofs.lemmas.List.{length-take-le, take_at, drop_at, drop-drop, length-drop, append-nil, take-append-drop, places}
use Rattle.std.proofs.lemmas.List.Elements.{All-append, All-take, All-drop}
use Rattle.std.proofs.lemmas.Option.{slice_get-get_or}
use Rattle.disk_model.specs.Disk.{FileState, covers, overlaid, written}
use Rattle.folder_model.specs.System.{IsContent, IsHalfWritten}

pub overlaid-overlaid : (o : List ℕ) (at : ℕ) (a b : List ℕ) → at ≤ length o → overlaid (overlaid o at a) (at + length a) b ≡ overlaid o at (a ++ b)
overlaid-overlaid o at a b within =
    let p = take at o ++ a in
    let n = at + length a in
    let long : length p ≡ n = length-append (take at o) a ∙ ap (λ k. k + length a) (length-take-le at o within) in
    let front : take n (p ++ drop n o) ≡ p = take_at p (drop n o) n long in
    let back : drop (n + length b) (p ++ drop n o) ≡ drop (at + length (a ++ b)) o =
    sym (drop-drop (length b) n (p ++ drop n o)) ∙ ap (λ l. drop (length b) l) (drop_at p (drop n o) n long)
    ∙ drop-drop (length b) n o ∙ ap (λ k. drop k o) (let e = length-append a b in omega (arith, e)) in
    ap (λ l. (l ++ b) ++ drop (n + length b) (p ++ drop n o)) front
    ∙ ap (λ l. (p ++ b) ++ l) back
    ∙ ap (λ l. l ++ drop (at + length (a ++ b)) o) (append_assoc (take at o) a b)

pub overlaid-nil : (o : List ℕ) (at : ℕ) → overlaid o at [] ≡ o
overlaid-nil o at =
    ap (λ l. l ++ drop (at + 0) o) (append-nil (take at o)) ∙ ap (λ k. take at o ++ drop k o) (let e : at + 0 ≡ at = omega arith in e) ∙ take-append-drop at o

-- a range in two parts
pub covers-both : (at m n i : ℕ) → covers at m i || covers (at + m) n i ≡ covers at (m + n) i
covers-both at m n i = grind (arith, nat_tests)

-- a range of nothing
pub covers-none : (at i : ℕ) → covers at 0 i ≡ false
covers-none at i = grind (arith, nat_tests)

or_assoc : (a b c : Bool) → (a || b) || c ≡ a || (b || c)
or_assoc true b c = refl
or_assoc false b c = refl

or_false : (a b : Bool) → b ≡ false → a || b ≡ a
or_false true b e = refl
or_false false b e = e

-- these places and a range
abbrev with_range : (ℕ → Bool) → ℕ → ℕ → ℕ → Bool
with_range loose at n i = loose i || covers at n i

loose-both : (loose : ℕ → Bool) (at m n k : ℕ) → k ≡ m + n → with_range (with_range loose at m) (at + m) n ≡ with_range loose at k
loose-both loose at m n k e = fun_ext (λ i. or_assoc (loose i) (covers at m i) (covers (at + m) n i) ∙ ap (λ b. loose i || b) (covers-both at m n i ∙ ap (λ j. covers at j i) (sym e)))

loose-none : (loose : ℕ → Bool) (at : ℕ) → with_range loose at 0 ≡ loose
loose-none loose at = fun_ext (λ i. or_false (loose i) (covers at 0 i) (covers-none at i))

-- files that agree in their octets, greatest lengths and loose places
written_like : (f : FileState) (octets other : List ℕ) (greatest n : ℕ) (loose or : ℕ → Bool) → octets ≡ other → greatest ≡ n → loose ≡ or
    → record f { octets = octets; greatest = greatest; is_loose = loose } ≡ record f { octets = other; greatest = n; is_loose = or }
written_like f octets other greatest n loose or a b c =
    ap (λ l. record f { octets = l; greatest = greatest; is_loose = loose }) a
    ∙ ap (λ k. record f { octets = other; greatest = k; is_loose = loose }) b
    ∙ ap (λ (l : ℕ → Bool). record f { octets = other; greatest = n; is_loose = l }) c

-- two writes side by side
pub written-written : (f : FileState) (at : ℕ) (a b : List ℕ) → at ≤ length f.octets → written (at + length a) b (written at a f) ≡ written at (a ++ b) f
written-written f at a b within =
    let long = length-append a b in
    written_like f _ _ _ _ _ _
    (overlaid-overlaid f.octets at a b within)
    (omega (arith, long))
    (loose-both f.is_loose at (length a) (length b) (length (a ++ b)) long)

-- a write of nothing
pub written-nil : (f : FileState) (at : ℕ) → at ≤ length f.octets → length f.octets ≤ f.greatest → written at [] f ≡ f
written-nil f at within below =
    written_like f _ _ _ _ _ _ (overlaid-nil f.octets at) (omega arith) (loose-none f.is_loose at)

pub length-overlaid : (old : List ℕ) (at : ℕ) (octets : List ℕ) → at ≤ length old → length (overlaid old at octets) ≡ max (length old) (at + length octets)
length-overlaid old at octets within =
    let first = length-append (take at old ++ octets) (drop (at + length octets) old) in
    let second = length-append (take at old) octets in
    let third = length-take-le at old within in
    let fourth = length-drop (at + length octets) old in
    omega (arith, first, second, third, fourth)

outside : (at n i : ℕ) → covers at n i ≡ false → (i < at) ⊎ (at + n ≤ i)
outside at n i apart = elim (and_cases (nat_le at i) (nat_lt i (at + n)) apart) [
  | inl before ↦ inl (leb-false at i before)
  | inr behind ↦ inr (ltb-false i (at + n) behind)
]

overlaid-get_or : (old : List ℕ) (at : ℕ) (text : List ℕ) (i : ℕ) → (i < at) ⊎ (at + length text ≤ i) → i < length old → get_or (overlaid old at text) i 0 ≡ get_or old i 0
overlaid-get_or old at text i apart below = grind (arith, places)

-- octets outside a write stay
pub overlaid-get : (old : List ℕ) (at : ℕ) (octets : List ℕ) (i : ℕ) → at ≤ length old → covers at (length octets) i ≡ false → i < length old → slice_get (overlaid old at octets) i ≡ slice_get old i
overlaid-get old at octets i within apart below =
    let long = length-overlaid old at octets within in
    slice_get-get_or (overlaid old at octets) i 0 (omega (arith, long))
    ∙ ap Some (overlaid-get_or old at octets i (outside at (length octets) i apart) below) ∙ sym (slice_get-get_or old i 0 below)

pub overlaid-octets : (old : List ℕ) (at : ℕ) (octets : List ℕ) → All (λ octet. octet < 256) old → All (λ octet. octet < 256) octets → All (λ octet. octet < 256) (overlaid old at octets)
overlaid-octets old at octets a b =
    All-append (λ octet. octet < 256) (take at old ++ octets) (drop (at + length octets) old)
    (All-append (λ octet. octet < 256) (take at old) octets (All-take (λ octet. octet < 256) at old a) b)
    (All-drop (λ octet. octet < 256) (at + length octets) old a)

-- a range of two parts covers what neither does not
both_apart : (at m n k i : ℕ) → k ≡ m + n → covers at k i ≡ false → (covers at m i ≡ false) × (covers (at + m) n i ≡ false)
both_apart at m n k i is apart =
    or_false_parts (covers at m i) (covers (at + m) n i) (covers-both at m n i ∙ ap (λ j. covers at j i) (sym is) ∙ apart)
  where
    or_false_parts : (a b : Bool) → a || b ≡ false → (a ≡ false) × (b ≡ false)
    or_false_parts true b e = absurd (false≢true (sym e))
    or_false_parts false b e = (refl, e)

-- A whole write is a part of a longer one.
pub written-half : (f : FileState) (at n : ℕ) (octets : List ℕ) → IsContent f → at ≤ length f.octets → length octets ≤ n → All (λ octet. octet < 256) octets
    → IsHalfWritten at n f (written at octets f)
written-half f at n octets is within at_most fit =
    let long = length-overlaid f.octets at octets within in
    record {
      size = length octets;
      octets = overlaid f.octets at octets;
      at_most = at_most;
      is = refl;
      no_shorter = omega (arith, long);
      no_longer = omega (arith, long);
      same = λ i below apart. overlaid-get f.octets at octets i within apart below;
      are_octets = overlaid-octets f.octets at octets is.are_octets fit;
    }

-- A write that failed after a whole one is a part of one over both.
pub half-written : (f g : FileState) (at m n : ℕ) (octets : List ℕ) → IsContent f → at ≤ length f.octets → length octets + m ≤ n
    → IsHalfWritten (at + length octets) m (written at octets f) g → IsHalfWritten at n f g
half-written f g at m n octets is within at_most half =
    let long = length-overlaid f.octets at octets within in
    let most : half.size ≤ m = half.at_most in
    let shorter : length (overlaid f.octets at octets) ≤ length half.octets = half.no_shorter in
    let longer : length half.octets ≤ max (length (overlaid f.octets at octets)) (at + length octets + half.size) = half.no_longer in
    record {
      size = length octets + half.size;
      octets = half.octets;
      at_most = omega arith;
      is = half.is ∙ written_like f _ _ _ _ _ _ refl (omega arith) (loose-both f.is_loose at (length octets) half.size (length octets + half.size) refl);
      no_shorter = omega (arith, long, shorter);
      no_longer = omega (arith, long, longer);
      same = λ i below apart.
          let parts = both_apart at (length octets) half.size (length octets + half.size) i refl apart in
          half.same i (omega (arith, long)) parts.1 ∙ overlaid-get f.octets at octets i within parts.0 below;
      are_octets = half.are_octets;
    }
