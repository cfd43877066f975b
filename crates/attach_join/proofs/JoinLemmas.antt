-- Joining, one reference after another.
use Rattle.std.proofs.Common.{refl, ◌≡◌, ◌<◌, ◌≤◌, ◌+◌, ◌-◌, ℕ, Bool, true, false, cond, List, [], ◌∷◌, ◌++◌, length, get_or, drop, sym, ◌∙◌, ap, arith, append_assoc, Some, None, inl, inr, ◌⊎◌}
use Rattle.std.specs.Prelude.{◌==◌, option_map, Option, sum_by}
use Rattle.std.proofs.lemmas.Bool.Decides.{nat_tests}
use Rattle.std.proofs.lemmas.List.{length-drop, nil_from_length}
use Rattle.mdbox_base.specs.declared.metadata.ExtRef.{ExtRef}
use Rattle.model_attach.specs.declared.join_error.JoinError.TheVariants.{InstanceDiffers}
use Rattle.model_attach.specs.Rejoined.{IsWhole, IsWholeFrom, part_text, is_bad, first_bad, first_differs, one_later}
use Rattle.model_attach.proofs.RejoinedLemmas.{whole_size}
use Rattle.attach_join.proofs.CheckLemmas.{good, next_of}

map_none : {A B : Type 0} (f : A → B) (o : Option A) → option_map f o ≡ None → o ≡ None
map_none f None e = refl
map_none f (Some x) e = absurd (cc)

either : (b : Bool) → (b ≡ true) ⊎ (b ≡ false)
either true = inl refl
either false = inr refl

some_none : {A : Type 0} (x : A) → Some x ≡ None → ⊥
some_none x e = cc

-- what a list of good ranges says of the first
pub good_first : (before room : ℕ) (ref : ExtRef) (refs : List ExtRef) → first_bad before room (ref ∷ refs) ≡ None
    → (before ≤ ref.start) × (ref.start ≤ room) × (first_bad (ref.start + ref.count) (room + ref.count) refs ≡ None)
unfolding first_bad
good_first before room ref refs e = elim (either (is_bad before room ref)) [
  | inl t ↦ absurd (some_none 0 (sym (ap (λ (b : Bool). cond b (Some 0) (option_map (λ i. 1 + i) (first_bad (ref.start + ref.count) (room + ref.count) refs))) t) ∙ e))
  | inr t ↦ let all = good before room ref t in
      (all.0, all.1, map_none (λ i. 1 + i) (first_bad (ref.start + ref.count) (room + ref.count) refs) (sym (ap (λ (b : Bool). cond b (Some 0) (option_map (λ i. 1 + i) (first_bad (ref.start + ref.count) (room + ref.count) refs))) t) ∙ e))
]

is_same : (m n : ℕ) → (m == n) ≡ true → m ≡ n
is_same m n e = grind (arith, nat_tests)

-- what texts of the right length say of the first
pub same_first : (ref : ExtRef) (refs : List ExtRef) (octets : List ℕ) (instances : List (List ℕ)) → first_differs (ref ∷ refs) (octets ∷ instances) ≡ None
    → (length (part_text ref.form octets) ≡ ref.count) × (first_differs refs instances ≡ None)
unfolding first_differs
same_first ref refs octets instances e = elim (either (length (part_text ref.form octets) == ref.count)) [
  | inl t ↦ (
    is_same (length (part_text ref.form octets)) ref.count t,
    map_none one_later (first_differs refs instances) (sym (ap (λ (b : Bool). cond b (option_map one_later (first_differs refs instances)) (Some (InstanceDiffers 0 ref.count (length (part_text ref.form octets))))) t) ∙ e),
  )
  | inr t ↦ absurd (some_none (InstanceDiffers 0 ref.count (length (part_text ref.form octets))) (sym (ap (λ (b : Bool). cond b (option_map one_later (first_differs refs instances)) (Some (InstanceDiffers 0 ref.count (length (part_text ref.form octets))))) t) ∙ e))
]

-- What is joined so far is the front of the whole, up to where the last reference ends.
pub record IsJoined (body rest : List ℕ) (refs : List ExtRef) (instances : List (List ℕ)) (i before : ℕ) (out : List ℕ) : Type 0 where
  pub within : i ≤ length refs
  pub ranges : first_bad before (before + length rest) (drop i refs) ≡ None
  pub texts : first_differs (drop i refs) (drop i instances) ≡ None
  pub whole : (tail : List ℕ) → IsWholeFrom before tail rest (drop i refs) (drop i instances) → IsWhole (out ++ tail) body refs instances

pub start : (body : List ℕ) (refs : List ExtRef) (instances : List (List ℕ)) (out : List ℕ) → first_bad 0 (length body) refs ≡ None → first_differs refs instances ≡ None → out ≡ [] → IsJoined body body refs instances 0 0 out
start body refs instances out ranges texts none = let e : length body ≡ 0 + length body = omega arith in record {
  within = omega arith;
  ranges = ap (λ (n : ℕ). first_bad 0 n refs) (sym e) ∙ ranges;
  texts = texts;
  whole = λ tail h. rw none h;
}

-- the next reference begins in the rest
pub here : (body rest : List ℕ) (refs : List ExtRef) (instances : List (List ℕ)) (i before : ℕ) (out : List ℕ) (ref d : ExtRef) → IsJoined body rest refs instances i before out → i < length refs → ref ≡ get_or refs i d
    → (before ≤ ref.start) × (ref.start - before ≤ length rest)
here body rest refs instances i before out ref d r h is =
    let good = good_first before (before + length rest) ref (drop (i + 1) refs) (ap (first_bad before (before + length rest)) (sym (next_of refs i ref d h is)) ∙ r.ranges) in
    (good.0, omega (arith, good.0, good.1))

-- the next reference is joined
pub next : (body rest front behind : List ℕ) (refs : List ExtRef) (instances : List (List ℕ)) (i before gap : ℕ) (out out' new : List ℕ) (ref d : ExtRef) (octets slice : List ℕ) → IsJoined body rest refs instances i before out
    → i < length refs → length refs ≡ length instances → ref ≡ get_or refs i d → octets ≡ get_or instances i octets
    → gap ≡ ref.start - before → length front ≡ gap → length behind + gap ≡ length rest → rest ≡ front ++ behind
    → out' ≡ out ++ front → new ≡ out' ++ part_text ref.form slice → slice ≡ octets → IsJoined body behind refs instances (i + 1) (ref.start + ref.count) new
next body rest front behind refs instances i before gap out out' new ref d octets slice r h same is at size front_len back_len parts push pushed seen =
    let text : new ≡ out' ++ part_text ref.form octets = pushed ∙ ap (λ (x : List ℕ). out' ++ part_text ref.form x) seen in
    let one : drop i refs ≡ ref ∷ drop (i + 1) refs = next_of refs i ref d h is in
    let two : drop i instances ≡ octets ∷ drop (i + 1) instances = next_of instances i octets octets (omega (arith, same)) at in
    let good = good_first before (before + length rest) ref (drop (i + 1) refs) (ap (first_bad before (before + length rest)) (sym one) ∙ r.ranges) in
    let right = same_first ref (drop (i + 1) refs) octets (drop (i + 1) instances) (ap (λ (x : List ExtRef). first_differs x (octets ∷ drop (i + 1) instances)) (sym one) ∙ ap (first_differs (drop i refs)) (sym two) ∙ r.texts) in
    let room : ref.start + ref.count + length behind ≡ before + length rest + ref.count = omega (arith, good.0, size, back_len) in
    record {
      within = omega arith;
      ranges = ap (λ (n : ℕ). first_bad (ref.start + ref.count) n (drop (i + 1) refs)) room ∙ good.2;
      texts = right.1;
      whole = λ tail more. rw (text, push, append_assoc, append_assoc) (r.whole (front ++ (part_text ref.form octets ++ tail))
          (rw (one, two) (front, tail, behind, refl, parts, omega (arith, front_len, size, good.0), right.0, more)));
    }

-- the rest of the body is the last
pub finish : (body rest : List ℕ) (refs : List ExtRef) (instances : List (List ℕ)) (i before : ℕ) (out new : List ℕ) → IsJoined body rest refs instances i before out → length refs ≡ length instances → length refs ≤ i
    → new ≡ out ++ rest → IsWhole new body refs instances
finish body rest refs instances i before out new r same h push =
    let none : drop i refs ≡ [] = nil_from_length (drop i refs) (omega (arith, length-drop i refs)) in
    let none' : drop i instances ≡ [] = nil_from_length (drop i instances) (omega (arith, length-drop i instances)) in
    rw push (r.whole rest (rw (none, none') refl))

-- the whole size is the length of the whole
pub size_is : (whole body : List ℕ) (refs : List ExtRef) (instances : List (List ℕ)) (n : ℕ) → IsWhole whole body refs instances → n ≡ length body + sum_by (λ ref. ref.count) refs → length whole ≡ n
size_is whole body refs instances n h e = omega (arith, whole_size 0 whole body refs instances h, e)
