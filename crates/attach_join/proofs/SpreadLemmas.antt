-- A body that is spread over the octets of its whole, from the last range to the first.
use Rattle.std.proofs.Common.{refl, ◌≡◌, ◌≤◌, ◌+◌, ◌-◌, ℕ, zero, suc, Bool, true, false, List, [], ◌∷◌, ◌++◌, length, take, drop, sym, ◌∙◌, ap, subst, arith, append_assoc, append-nil, Option, None, Some}
use Rattle.std.specs.Prelude.{sum_by, option_map}
use Rattle.std.proofs.Math.ListN.{drop_of_length-le}
use Rattle.std.proofs.Math.Seq.{drop-append-add}
use Rattle.std.proofs.lemmas.List.{take-append-drop, length-take-le, length-drop, drop-take}
use Rattle.std.proofs.lemmas.List.Sums.{sum_by-cons, sum_by-append}
use Rattle.mdbox_base.specs.declared.metadata.ExtRef.{ExtRef}
use Rattle.model_attach.specs.Rejoined.{is_bad, first_bad, found_size}
use Rattle.attach_join.specs.Spread.{outside, outside_from}
use Rattle.attach_join.proofs.CheckLemmas.{bad_first, good, good_more}

abbrev pub counts : List ExtRef → ℕ
counts refs = sum_by (λ ref. ref.count) refs

-- where the range of the first of these references begins, at the earliest
abbrev pub BeginsFrom : ℕ → List ExtRef → Type 0
BeginsFrom place [] = Unit {0}
BeginsFrom place (ref ∷ refs) = place ≤ ref.start

-- ---- lists

take-behind : (a b : List ℕ) (n : ℕ) → take (length a + n) (a ++ b) ≡ a ++ take n b
take-behind [] b n = let e : 0 + n ≡ n = omega arith in ap (λ (k : ℕ). take k b) e
take-behind (x ∷ a) b n = let e : suc (length a) + n ≡ suc (length a + n) = omega arith in ap (λ (k : ℕ). take k (x ∷ (a ++ b))) e ∙ ap (λ (xs : List ℕ). x ∷ xs) (take-behind a b n)

pub drop-twice : (m n : ℕ) (xs : List ℕ) → drop n (drop m xs) ≡ drop (m + n) xs
drop-twice zero n xs = let e : n ≡ 0 + n = omega arith in ap (λ (k : ℕ). drop k xs) e
drop-twice (suc m) n [] = drop_of_length-le [] (omega arith) ∙ sym (drop_of_length-le [] (omega arith))
drop-twice (suc m) n (x ∷ xs) = let e : suc (m + n) ≡ suc m + n = omega arith in drop-twice m n xs ∙ ap (λ (k : ℕ). drop k (x ∷ xs)) e

-- the first octets of the first
take-first : (k more : ℕ) (xs : List ℕ) → take k (take (k + more) xs) ≡ take k xs
take-first zero more xs = refl
take-first (suc k) more [] = let e : suc k + more ≡ suc (k + more) = omega arith in ap (λ (j : ℕ). take (suc k) (take {A = ℕ} j [])) e
take-first (suc k) more (x ∷ xs) = let e : suc k + more ≡ suc (k + more) = omega arith in ap (λ (j : ℕ). take (suc k) (take j (x ∷ xs))) e ∙ ap (λ (ys : List ℕ). x ∷ ys) (take-first k more xs)

-- what stands behind a place: so many octets, and what is behind these
split_behind : (k n : ℕ) (xs : List ℕ) → drop k xs ≡ take n (drop k xs) ++ drop (k + n) xs
split_behind k n xs = sym (take-append-drop n (drop k xs)) ∙ ap (λ (ys : List ℕ). take n (drop k xs) ++ ys) (drop-twice k n xs)

-- ---- what is outside

-- what stands before the first range is outside
outside-front : (place : ℕ) (refs : List ExtRef) (front text : List ℕ) → BeginsFrom (place + length front) refs → outside_from place refs (front ++ text) ≡ front ++ outside_from (place + length front) refs text
outside-front place [] front text b = refl
outside-front place (ref ∷ refs) front text b =
    let gap : ref.start - place ≡ length front + (ref.start - (place + length front)) = omega (arith, b) in
    let skip : ref.start + ref.count - place ≡ length front + (ref.start + ref.count - (place + length front)) = omega (arith, b) in
    ap (λ (n : ℕ). take n (front ++ text) ++ outside_from (ref.start + ref.count) refs (drop (ref.start + ref.count - place) (front ++ text))) gap
    ∙ (ap (λ (n : ℕ). take (length front + (ref.start - (place + length front))) (front ++ text) ++ outside_from (ref.start + ref.count) refs (drop n (front ++ text))) skip
    ∙ (ap (λ (xs : List ℕ). xs ++ outside_from (ref.start + ref.count) refs (drop (length front + (ref.start + ref.count - (place + length front))) (front ++ text))) (take-behind front text (ref.start - (place + length front)))
    ∙ (ap (λ (xs : List ℕ). (front ++ take (ref.start - (place + length front)) text) ++ outside_from (ref.start + ref.count) refs xs) (drop-append-add front text (ref.start + ref.count - (place + length front)))
    ∙ append_assoc front (take (ref.start - (place + length front)) text) (outside_from (ref.start + ref.count) refs (drop (ref.start + ref.count - (place + length front)) text)))))

-- from where the first range begins
outside-range : (ref : ExtRef) (refs : List ExtRef) (text : List ℕ) → outside_from ref.start (ref ∷ refs) (drop ref.start text) ≡ outside_from (ref.start + ref.count) refs (drop (ref.start + ref.count) text)
outside-range ref refs text =
    let none : ref.start - ref.start ≡ 0 = omega arith in
    let skip : ref.start + ref.count - ref.start ≡ ref.count = omega arith in
    ap (λ (n : ℕ). take n (drop ref.start text) ++ outside_from (ref.start + ref.count) refs (drop (ref.start + ref.count - ref.start) (drop ref.start text))) none
    ∙ (ap (λ (n : ℕ). outside_from (ref.start + ref.count) refs (drop n (drop ref.start text))) skip ∙ ap (λ (xs : List ℕ). outside_from (ref.start + ref.count) refs xs) (drop-twice ref.start ref.count text))

-- ---- good ranges

none_later : (found : Option ℕ) → option_map (λ k. 1 + k) found ≡ None → found ≡ None
none_later None e = refl
none_later (Some k) e = absurd (cc e)

-- the first range is good, and so are the others
split_good : (before room : ℕ) (ref : ExtRef) (refs : List ExtRef) → first_bad before room (ref ∷ refs) ≡ None → (is_bad before room ref ≡ false) × (first_bad (ref.start + ref.count) (room + ref.count) refs ≡ None)
split_good before room ref refs none = by_test (is_bad before room ref) refl
  where
    by_test : (b : Bool) → is_bad before room ref ≡ b → (is_bad before room ref ≡ false) × (first_bad (ref.start + ref.count) (room + ref.count) refs ≡ None)
    by_test true t = absurd (let e : Some 0 ≡ None = sym (bad_first before room ref refs t) ∙ none in cc e)
    by_test false t = (t, none_later _ (sym (good_more before room ref refs t) ∙ none))

-- A range behind others begins no earlier than all their counts, and lies within what is stored and they count.
pub record IsInRanges (before room : ℕ) (front : List ExtRef) (last : ExtRef) : Type 0 where
  pub apart : before + counts front ≤ last.start
  pub inside : last.start ≤ room + counts front

in_ranges : (before room : ℕ) (front : List ExtRef) (last : ExtRef) (rest : List ExtRef) → first_bad before room (front ++ last ∷ rest) ≡ None → IsInRanges before room front last
in_ranges before room [] last rest none = let g = good before room last (split_good before room last rest none).0 in record { apart = (let a = g.0 in omega (arith, a)); inside = (let b = g.1 in omega (arith, b)) }
in_ranges before room (ref ∷ front) last rest none =
    let s = split_good before room ref (front ++ last ∷ rest) none in
    let g = good before room ref s.0 in
    let low = g.0 in
    let h = in_ranges (ref.start + ref.count) (room + ref.count) front last rest s.1 in
    let sum : counts (ref ∷ front) ≡ ref.count + counts front = sum_by-cons (λ (r : ExtRef). r.count) ref front in
    record { apart = (let a = h.apart in omega (arith, a, sum, low)); inside = (let b = h.inside in omega (arith, b, sum)) }

-- a range ends where the next one begins, at the latest
ends_before : (before room : ℕ) (front : List ExtRef) (one next : ExtRef) (rest : List ExtRef) → first_bad before room (front ++ one ∷ (next ∷ rest)) ≡ None → one.start + one.count ≤ next.start
ends_before before room [] one next rest none = (good (one.start + one.count) (room + one.count) next (split_good (one.start + one.count) (room + one.count) next rest (split_good before room one (next ∷ rest) none).1).0).0
ends_before before room (ref ∷ front) one next rest none = ends_before (ref.start + ref.count) (room + ref.count) front one next rest (split_good before room ref (front ++ one ∷ (next ∷ rest)) none).1

-- ---- the loop

-- Behind these references the body stands where it does in the whole, and its first octets are at the front still.
pub record IsSpreading (refs rest : List ExtRef) (stored left end : ℕ) (old now : List ℕ) : Type 0 where
  pub done : List ExtRef
  pub parts : refs ≡ rest ++ done
  pub ends : (front : List ExtRef) (last : ExtRef) → rest ≡ front ++ last ∷ [] → last.start + last.count ≤ end
  pub begins : BeginsFrom end done
  pub count : end ≡ left + counts rest
  pub size : length now ≡ length old
  pub within : end ≤ length now
  pub few : left ≤ stored
  pub front : take left now ≡ take left old
  pub behind : outside_from end done (drop end now) ≡ drop left (take stored old)

pub spreading_start : (refs : List ExtRef) (stored end : ℕ) (old : List ℕ) → first_bad 0 stored refs ≡ None → found_size stored refs ≡ length old → end ≡ length old → IsSpreading refs refs stored stored end old old
spreading_start refs stored end old good size is = record {
  done = [];
  parts = sym (append-nil refs);
  ends = λ front last e.
      let r = in_ranges 0 stored front last [] (ap (λ (rs : List ExtRef). first_bad 0 stored rs) (sym e) ∙ good) in
      let inside = r.inside in
      let sum : counts refs ≡ counts front + counts (last ∷ []) = ap counts e ∙ sum_by-append (λ (r : ExtRef). r.count) front (last ∷ []) in
      let one : counts (last ∷ []) ≡ last.count + counts [] = sum_by-cons (λ (r : ExtRef). r.count) last [] in
      omega (arith, inside, sum, one, size, is);
  begins = tt;
  count = is ∙ sym size;
  size = refl;
  within = omega (arith, is);
  few = omega arith;
  front = refl;
  behind = drop_of_length-le old (omega (arith, is)) ∙ sym (drop_of_length-le (take stored old) (let l = length-take-le stored old (let s = size in omega (arith, s)) in omega (arith, l)));
}

-- the numbers of the next range
pub range_of : (refs rest front : List ExtRef) (last : ExtRef) (stored left end moved : ℕ) (old now : List ℕ) → first_bad 0 stored refs ≡ None → IsSpreading refs rest stored left end old now → rest ≡ front ++ last ∷ [] → moved ≡ end - (last.start + last.count)
    → (last.start + last.count ≤ end) × (moved ≤ left) × (left - moved ≤ last.start) × (last.start ≡ left - moved + counts front)
range_of refs rest front last stored left end moved old now good s e m =
    let parts : refs ≡ front ++ last ∷ s.done = s.parts ∙ ap (λ (rs : List ExtRef). rs ++ s.done) e ∙ append_assoc front (last ∷ []) s.done in
    let r = in_ranges 0 stored front last s.done (ap (λ (rs : List ExtRef). first_bad 0 stored rs) (sym parts) ∙ good) in
    let apart = r.apart in
    let ends = s.ends front last e in
    let count = s.count in
    let sum : counts rest ≡ counts front + counts (last ∷ []) = ap counts e ∙ sum_by-append (λ (x : ExtRef). x.count) front (last ∷ []) in
    let one : counts (last ∷ []) ≡ last.count + counts [] = sum_by-cons (λ (x : ExtRef). x.count) last [] in
    (ends, omega (arith, apart, ends, count, sum, one, m), omega (arith, apart, ends, count, sum, one, m), omega (arith, apart, ends, count, sum, one, m))

pub spreading_next : (refs rest front : List ExtRef) (last : ExtRef) (stored left end moved from : ℕ) (old now new : List ℕ) → first_bad 0 stored refs ≡ None → IsSpreading refs rest stored left end old now → rest ≡ front ++ last ∷ [] → moved ≡ end - (last.start + last.count) → from ≡ left - moved
    → take from new ≡ take from now → drop (last.start + last.count) new ≡ take (left - from) (drop from now) ++ drop (last.start + last.count + (left - from)) now → length new ≡ length now
    → IsSpreading refs front stored from last.start old new
spreading_next refs rest front last stored left end moved from old now new good s e m f kept put size =
    let n = range_of refs rest front last stored left end moved old now good s e m in
    let inside = n.0 in
    let enough = n.1 in
    let low = n.2 in
    let at = n.3 in
    let within = s.within in
    let few = s.few in
    let parts : refs ≡ front ++ last ∷ s.done = s.parts ∙ ap (λ (rs : List ExtRef). rs ++ s.done) e ∙ append_assoc front (last ∷ []) s.done in
    let back : left - from ≡ moved = omega (arith, f, enough) in
    let sum : left ≡ from + moved = omega (arith, f, enough) in
    let place : last.start + last.count + (left - from) ≡ end = omega (arith, back, m, inside) in
    let first : take from now ≡ take from old =
    sym (take-first from moved now) ∙ ap (λ (k : ℕ). take from (take k now)) (sym sum) ∙ ap (take from) s.front ∙ ap (λ (k : ℕ). take from (take k old)) sum ∙ take-first from moved old in
    let long : length (take moved (drop from now)) ≡ moved = length-take-le moved (drop from now) (let d = length-drop from now in let w = s.count in omega (arith, d, within, w, sum)) in
    let mid : take moved (drop from now) ≡ take moved (drop from (take stored old)) =
    sym (drop-take from moved now) ∙ ap (λ (k : ℕ). drop from (take k now)) (sym sum) ∙ ap (drop from) s.front ∙ ap (λ (k : ℕ). drop from (take k old)) sum
    ∙ (ap (drop from) (sym (take-first (from + moved) (stored - left) old)) ∙ ap (λ (k : ℕ). drop from (take (from + moved) (take k old))) (omega (arith, sum, few)) ∙ drop-take from moved (take stored old)) in
    let moved_text : drop (last.start + last.count) new ≡ take moved (drop from now) ++ drop end now =
    put ∙ ap (λ (k : ℕ). take k (drop from now) ++ drop (last.start + last.count + (left - from)) now) back ∙ ap (λ (k : ℕ). take moved (drop from now) ++ drop k now) place in
    let seam : last.start + last.count + length (take moved (drop from now)) ≡ end = omega (arith, long, m, inside) in
    record {
      done = last ∷ s.done;
      parts = parts;
      ends = λ before one is. ends_before 0 stored before one last s.done (ap (λ (rs : List ExtRef). first_bad 0 stored rs) (sym (parts ∙ ap (λ (rs : List ExtRef). rs ++ last ∷ s.done) is ∙ append_assoc before (one ∷ []) (last ∷ s.done))) ∙ good);
      begins = omega arith;
      count = at ∙ ap (λ (k : ℕ). k + counts front) (sym f);
      size = size ∙ s.size;
      within = omega (arith, size, inside, within);
      few = omega (arith, few, sum);
      front = kept ∙ first;
      behind = outside-range last s.done new ∙ ap (λ (xs : List ℕ). outside_from (last.start + last.count) s.done xs) moved_text
          ∙ outside-front (last.start + last.count) s.done (take moved (drop from now)) (drop end now) (subst (λ (k : ℕ). BeginsFrom k s.done) (sym seam) s.begins)
          ∙ ap (λ (k : ℕ). take moved (drop from now) ++ outside_from k s.done (drop end now)) seam
          ∙ ap (λ (xs : List ℕ). take moved (drop from now) ++ xs) s.behind
          ∙ ap (λ (xs : List ℕ). xs ++ drop left (take stored old)) mid
          ∙ (ap (λ (k : ℕ). take moved (drop from (take stored old)) ++ drop k (take stored old)) sum ∙ sym (split_behind from moved (take stored old)));
    }

pub spread_all : (refs rest : List ExtRef) (stored left end : ℕ) (old now : List ℕ) → IsSpreading refs rest stored left end old now → rest ≡ [] → outside refs now ≡ take stored old
spread_all refs rest stored left end old now s none =
    let all : refs ≡ s.done = s.parts ∙ ap (λ (rs : List ExtRef). rs ++ s.done) none in
    let same : end ≡ left = s.count ∙ (ap (λ (rs : List ExtRef). left + counts rs) none ∙ omega arith) in
    let within = s.within in
    let long : length (take left now) ≡ left = length-take-le left now (omega (arith, within, same)) in
    let few = s.few in
    let seam : end ≡ 0 + length (take left now) = omega (arith, long, same) in
    let one : stored ≡ left + (stored - left) = omega (arith, few) in
    ap (λ (rs : List ExtRef). outside rs now) all ∙ (ap (outside s.done) (sym (take-append-drop left now))
    ∙ outside-front 0 s.done (take left now) (drop left now) (subst (λ (k : ℕ). BeginsFrom k s.done) seam s.begins)
    ∙ (ap (λ (k : ℕ). take left now ++ outside_from k s.done (drop left now)) (sym seam) ∙ ap (λ (k : ℕ). take left now ++ outside_from end s.done (drop k now)) (sym same))
    ∙ ap (λ (xs : List ℕ). take left now ++ xs) s.behind ∙ ap (λ (xs : List ℕ). xs ++ drop left (take stored old)) (s.front ∙ sym (ap (λ (k : ℕ). take left (take k old)) one ∙ take-first left (stored - left) old))
    ∙ take-append-drop left (take stored old))
