-- Ranges and texts, looked at one after another.
use Rattle.std.proofs.Common.{refl, ◌≡◌, ◌≢◌, ◌<◌, ◌≤◌, ◌+◌, ℕ, zero, suc, Bool, true, false, List, [], ◌∷◌, length, get_or, drop, sym, ◌∙◌, ap, arith, Some, None}
use Rattle.std.specs.Prelude.{sum_by, ◌||◌, ◌==◌, nat_lt, option_map, Option}
use Rattle.std.proofs.lemmas.Bool.Decides.{nat_tests}
use Rattle.std.proofs.lemmas.List.{length-drop, nil_from_length}
use Rattle.std.proofs.lemmas.List.Sums.{sum_by-cons}
use Rattle.std.proofs.Math.Seq.{drop-cons}
use Rattle.mdbox_base.specs.declared.metadata.ExtRef.{ExtRef}
use Rattle.model_attach.specs.declared.join_error.JoinError.{JoinError}
use Rattle.model_attach.specs.declared.join_error.JoinError.TheVariants.{InstanceDiffers}
use Rattle.model_attach.specs.Rejoined.{part_text, is_bad, first_bad, first_differs, one_later}

pub or_none : (x y : Bool) → (x || y) ≡ false → (x ≡ false) × (y ≡ false)
or_none true y e = absurd (cc)
or_none false y e = (refl, e)

pub not_less : (m n : ℕ) → nat_lt m n ≡ false → n ≤ m
not_less m n e = grind (arith, nat_tests)

-- what a good range says
pub good : (before room : ℕ) (ref : ExtRef) → is_bad before room ref ≡ false → (before ≤ ref.start) × (ref.start ≤ room) × (ref.start + ref.count ≤ 4294967295)
good before room ref t =
    let one = or_none (nat_lt ref.start before) (nat_lt (room + ref.count) (ref.start + ref.count) || nat_lt 4294967295 (ref.start + ref.count)) t in
    let two = or_none (nat_lt (room + ref.count) (ref.start + ref.count)) (nat_lt 4294967295 (ref.start + ref.count)) one.1 in
    let room_in : ref.start + ref.count ≤ room + ref.count = not_less (room + ref.count) (ref.start + ref.count) two.0 in
    (not_less ref.start before one.0, omega (arith, room_in), not_less 4294967295 (ref.start + ref.count) two.1)

-- the list from a place on
pub next_of : {X : Type 0} → (xs : List X) (i : ℕ) (x d : X) → i < length xs → x ≡ get_or xs i d → drop i xs ≡ x ∷ drop (i + 1) xs
next_of {X} xs i x d h is = let next : suc i ≡ i + 1 = omega arith in
    drop-cons xs i d h ∙ ap (λ (y : X). y ∷ drop (suc i) xs) (sym is) ∙ ap (λ (k : ℕ). x ∷ drop k xs) next

-- ---- ranges

abbrev pub later_by : ℕ → Option ℕ → Option ℕ
later_by i found = option_map (λ k. i + k) found

-- the ranges before a place are good
pub record AreGood (stored : ℕ) (refs : List ExtRef) (i before sum : ℕ) : Type 0 where
  pub within : i ≤ length refs
  pub ranges : first_bad 0 stored refs ≡ later_by i (first_bad before (stored + sum) (drop i refs))
  pub sums : sum_by (λ ref. ref.count) refs ≡ sum + sum_by (λ ref. ref.count) (drop i refs)
  pub small : sum ≤ before
  pub low : before ≤ 4294967295

same_later : (found : Option ℕ) → found ≡ later_by 0 found
same_later None = refl
same_later (Some k) = let e : k ≡ 0 + k = omega arith in ap (λ (n : ℕ). Some n) e

more_later : (i : ℕ) (found : Option ℕ) → later_by i (option_map (λ k. 1 + k) found) ≡ later_by (i + 1) found
more_later i None = refl
more_later i (Some k) = let e : i + (1 + k) ≡ i + 1 + k = omega arith in ap (λ (n : ℕ). Some n) e

pub bad_first : (before room : ℕ) (ref : ExtRef) (refs : List ExtRef) → is_bad before room ref ≡ true → first_bad before room (ref ∷ refs) ≡ Some 0
unfolding first_bad
bad_first before room ref refs t = rw t refl

pub good_more : (before room : ℕ) (ref : ExtRef) (refs : List ExtRef) → is_bad before room ref ≡ false → first_bad before room (ref ∷ refs) ≡ option_map (λ k. 1 + k) (first_bad (ref.start + ref.count) (room + ref.count) refs)
unfolding first_bad
good_more before room ref refs t = rw t refl

no_bad : (before room : ℕ) → first_bad before room [] ≡ None
unfolding first_bad
no_bad before room = refl

pub good_start : (stored : ℕ) (refs : List ExtRef) → AreGood stored refs 0 0 0
good_start stored refs = let e : stored ≡ stored + 0 = omega arith in record {
  within = omega arith;
  ranges = same_later (first_bad 0 stored refs) ∙ ap (λ (n : ℕ). later_by 0 (first_bad 0 n refs)) e;
  sums = omega arith;
  small = omega arith;
  low = omega arith;
}

pub good_next : (stored : ℕ) (refs : List ExtRef) (i before sum : ℕ) (ref d : ExtRef) (test : Bool) → AreGood stored refs i before sum → i < length refs → ref ≡ get_or refs i d
    → test ≡ is_bad before (stored + sum) ref → test ≡ false → AreGood stored refs (i + 1) (ref.start + ref.count) (sum + ref.count)
good_next stored refs i before sum ref d test was h is asked answer =
    let t : is_bad before (stored + sum) ref ≡ false = sym asked ∙ answer in
    let good = good before (stored + sum) ref t in
    let room : stored + sum + ref.count ≡ stored + (sum + ref.count) = omega arith in
    record {
      within = omega arith;
      ranges = was.ranges ∙ ap (λ (x : List ExtRef). later_by i (first_bad before (stored + sum) x)) (next_of refs i ref d h is) ∙ ap (later_by i) (good_more before (stored + sum) ref (drop (i + 1) refs) t)
          ∙ more_later i (first_bad (ref.start + ref.count) (stored + sum + ref.count) (drop (i + 1) refs)) ∙ ap (λ (n : ℕ). later_by (i + 1) (first_bad (ref.start + ref.count) n (drop (i + 1) refs))) room;
      sums = was.sums ∙ ap (λ (x : List ExtRef). sum + sum_by (λ (r : ExtRef). r.count) x) (next_of refs i ref d h is) ∙ omega (arith, sum_by-cons (λ (r : ExtRef). r.count) ref (drop (i + 1) refs));
      small = omega (arith, was.small, good.0);
      low = good.2;
    }

pub good_bad : (stored : ℕ) (refs : List ExtRef) (i before sum : ℕ) (ref d : ExtRef) (test : Bool) → AreGood stored refs i before sum → i < length refs → ref ≡ get_or refs i d
    → test ≡ is_bad before (stored + sum) ref → test ≡ true → first_bad 0 stored refs ≡ Some i
good_bad stored refs i before sum ref d test was h is asked answer =
    let n : i + 0 ≡ i = omega arith in
    was.ranges ∙ ap (λ (x : List ExtRef). later_by i (first_bad before (stored + sum) x)) (next_of refs i ref d h is) ∙ ap (later_by i) (bad_first before (stored + sum) ref (drop (i + 1) refs) (sym asked ∙ answer)) ∙ ap (λ (k : ℕ). Some k) n

pub good_end : (stored : ℕ) (refs : List ExtRef) (i before sum : ℕ) → AreGood stored refs i before sum → length refs ≤ i → (first_bad 0 stored refs ≡ None) × (sum ≡ sum_by (λ ref. ref.count) refs)
good_end stored refs i before sum was h =
    let gone : drop i refs ≡ [] = nil_from_length (drop i refs) (omega (arith, length-drop i refs)) in (
      was.ranges ∙ ap (λ (x : List ExtRef). later_by i (first_bad before (stored + sum) x)) gone ∙ ap (later_by i) (no_bad before (stored + sum)),
      sym (was.sums ∙ ap (λ (x : List ExtRef). sum + sum_by (λ (r : ExtRef). r.count) x) gone ∙ omega arith),
    )

-- ---- texts

abbrev pub error_by : ℕ → Option JoinError → Option JoinError
error_by zero e = e
error_by (suc i) e = error_by i (option_map one_later e)

error_none : (i : ℕ) → error_by i None ≡ None
error_none zero = refl
error_none (suc i) = error_none i

error_some : (i j kept found : ℕ) → error_by i (Some (InstanceDiffers j kept found)) ≡ Some (InstanceDiffers (i + j) kept found)
error_some zero j kept found = let e : j ≡ 0 + j = omega arith in ap (λ (n : ℕ). Some (InstanceDiffers n kept found)) e
error_some (suc i) j kept found = let e : i + (1 + j) ≡ suc i + j = omega arith in error_some i (1 + j) kept found ∙ ap (λ (n : ℕ). Some (InstanceDiffers n kept found)) e

-- the texts before a place are as long as they should be
pub record AreSame (refs : List ExtRef) (instances : List (List ℕ)) (i : ℕ) : Type 0 where
  pub within : i ≤ length refs
  pub texts : first_differs refs instances ≡ error_by i (first_differs (drop i refs) (drop i instances))

pub same_start : (refs : List ExtRef) (instances : List (List ℕ)) → AreSame refs instances 0
same_start refs instances = record { within = omega arith; texts = refl }

same_more : (ref : ExtRef) (refs : List ExtRef) (octets : List ℕ) (instances : List (List ℕ)) → length (part_text ref.form octets) ≡ ref.count → first_differs (ref ∷ refs) (octets ∷ instances) ≡ option_map one_later (first_differs refs instances)
unfolding first_differs
same_more ref refs octets instances e = rw (is_same (length (part_text ref.form octets)) ref.count e) refl
  where
    is_same : (m n : ℕ) → m ≡ n → (m == n) ≡ true
    is_same m n e = grind (arith, nat_tests)

differs_first : (ref : ExtRef) (refs : List ExtRef) (octets : List ℕ) (instances : List (List ℕ)) → length (part_text ref.form octets) ≢ ref.count → first_differs (ref ∷ refs) (octets ∷ instances) ≡ Some (InstanceDiffers 0 ref.count (length (part_text ref.form octets)))
unfolding first_differs
differs_first ref refs octets instances e = rw (differs (length (part_text ref.form octets)) ref.count e) refl
  where
    differs : (m n : ℕ) → m ≢ n → (m == n) ≡ false
    differs m n e = grind (arith, nat_tests)

both_next : (refs : List ExtRef) (instances : List (List ℕ)) (i : ℕ) (ref d : ExtRef) (octets : List ℕ) → length refs ≡ length instances → i < length refs → ref ≡ get_or refs i d → octets ≡ get_or instances i octets
    → first_differs (drop i refs) (drop i instances) ≡ first_differs (ref ∷ drop (i + 1) refs) (octets ∷ drop (i + 1) instances)
both_next refs instances i ref d octets one h is was =
    ap (λ (x : List ExtRef). first_differs x (drop i instances)) (next_of refs i ref d h is) ∙ ap (first_differs (ref ∷ drop (i + 1) refs)) (next_of instances i octets octets (omega (arith, one)) was)

pub same_next : (refs : List ExtRef) (instances : List (List ℕ)) (i : ℕ) (ref d : ExtRef) (octets : List ℕ) (kept found : ℕ) → AreSame refs instances i → length refs ≡ length instances → i < length refs → ref ≡ get_or refs i d → octets ≡ get_or instances i octets
    → kept ≡ ref.count → found ≡ length (part_text ref.form octets) → kept ≡ found → AreSame refs instances (i + 1)
same_next refs instances i ref d octets kept found was one h is at k f e =
    let next : suc i ≡ i + 1 = omega arith in
    record {
      within = omega arith;
      texts = was.texts ∙ ap (error_by i) (both_next refs instances i ref d octets one h is at ∙ same_more ref (drop (i + 1) refs) octets (drop (i + 1) instances) (sym f ∙ sym e ∙ k))
          ∙ ap (λ (n : ℕ). error_by n (first_differs (drop (i + 1) refs) (drop (i + 1) instances))) next;
    }

pub same_differs : (refs : List ExtRef) (instances : List (List ℕ)) (i : ℕ) (ref d : ExtRef) (octets : List ℕ) (kept found : ℕ) → AreSame refs instances i → length refs ≡ length instances → i < length refs → ref ≡ get_or refs i d → octets ≡ get_or instances i octets
    → kept ≡ ref.count → found ≡ length (part_text ref.form octets) → kept ≢ found → first_differs refs instances ≡ Some (InstanceDiffers i kept found)
same_differs refs instances i ref d octets kept found was one h is at k f ne =
    let n : i + 0 ≡ i = omega arith in
    was.texts ∙ ap (error_by i) (both_next refs instances i ref d octets one h is at ∙ differs_first ref (drop (i + 1) refs) octets (drop (i + 1) instances) (λ e. ne (k ∙ sym e ∙ sym f)))
    ∙ error_some i 0 ref.count (length (part_text ref.form octets)) ∙ rw (n, k, f) refl

none_left : (instances : List (List ℕ)) → first_differs [] instances ≡ None
unfolding first_differs
none_left instances = refl

pub same_end : (refs : List ExtRef) (instances : List (List ℕ)) (i : ℕ) → AreSame refs instances i → length refs ≤ i → first_differs refs instances ≡ None
same_end refs instances i was h =
    let gone : drop i refs ≡ [] = nil_from_length (drop i refs) (omega (arith, length-drop i refs)) in
    was.texts ∙ ap (λ (x : List ExtRef). error_by i (first_differs x (drop i instances))) gone ∙ ap (error_by i) (none_left (drop i instances)) ∙ error_none i
