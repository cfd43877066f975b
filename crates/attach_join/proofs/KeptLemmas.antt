-- Octets of instances that are kept in the ranges of their references.
use Rattle.std.proofs.Common.{refl, ◌≡◌, ◌<◌, ◌≤◌, ◌+◌, ◌-◌, ◌*◌, ◌/◌, ℕ, List, [], ◌∷◌, ◌++◌, length, min, take, drop, sym, ◌∙◌, ap, subst, arith, append_assoc, append-nil, length-append, inl, inr, None, Option, Some}
use Rattle.std.specs.Prelude.{All, Bool, IfSome, ◌==◌, if◌then◌else◌, replicate, sum_by, true}
use Rattle.std.proofs.lemmas.Bool.Decides.{nat_tests}
use Rattle.std.proofs.Math.Seq.{drop-append-add, drop-append_seam, take-append-add}
use Rattle.std.proofs.lemmas.Bool.{cases_lt}
use Rattle.std.proofs.lemmas.List.{drop-drop, drop-take, drop_all, length-drop, length-replicate, length-take-le, nil_from_length, take-append-drop, take-append-le, take-take, take_all}
use Rattle.std.proofs.lemmas.List.Elements.{All-head, All-tail}
use Rattle.std.proofs.lemmas.List.Sums.{sum_by-cons}
use Rattle.mdbox_base.specs.declared.entries.InstRow.{InstRow}
use Rattle.mdbox_base.specs.declared.metadata.ExtRef.{ExtRef}
use Rattle.mdbox_base.specs.declared.metadata.LineForm.{LineForm}
use Rattle.model_attach.specs.declared.join_error.JoinError.{JoinError}
use Rattle.model_attach.specs.Rejoined.{IsWhole, IsWholeFrom, first_bad, found_size, part_text, range_error}
use Rattle.model_attach.proofs.RejoinedLemmas.{ranges_good, whole_size}
use Rattle.model_base64.specs.Base64Text.{IsForm, text_of}
use Rattle.b64_lines.proofs.SizeLemmas.{text_is}
use Rattle.attach_join.specs.Behind.{octets_in}
use Rattle.attach_join.specs.Kept.{FitInto, HasLongText, TextsFit, kept_in}
use Rattle.attach_join.specs.Spread.{outside, outside_from}
use Rattle.attach_join.proofs.JoinLemmas.{good_first}
use Rattle.attach_join.proofs.SpreadLemmas.{counts}

abbrev pub sizes : List InstRow → ℕ
sizes rows = sum_by (λ row. row.size) rows

abbrev pub AreForms : List ExtRef → Type 0
AreForms refs = All (λ ref. IfSome ref.form IsForm) refs

-- ---- texts

-- the text is no shorter than what it encodes
pub text_longer : (form : LineForm) (octets : List ℕ) → IsForm form → length octets ≤ length (text_of form octets)
text_longer form octets good = let a = text_is form octets (length octets) (4 * ((length octets + 2) / 3)) good refl refl in omega (arith, a)

part_longer : (form : Option LineForm) (octets : List ℕ) → IfSome form IsForm → length octets ≤ length (part_text form octets)
part_longer None octets good = omega arith
part_longer (Some form) octets good = text_longer form octets good

-- so an instance has room in its range
pub row_fits : (ref : ExtRef) (row : InstRow) → IfSome ref.form IsForm → HasLongText ref row → row.size ≤ ref.count
row_fits ref row good long =
    let some = length-replicate row.size 0 in
    let is = long (replicate row.size 0) some in
    let least = part_longer ref.form (replicate row.size 0) good in
    omega (arith, some, is, least)

-- ---- ranges

-- the ranges stand one behind another, from a place on, and end before another one
abbrev pub RangesWithin : ℕ → ℕ → List ExtRef → Type 0
RangesWithin place end [] = place ≤ end
RangesWithin place end (ref ∷ refs) = (place ≤ ref.start) × RangesWithin (ref.start + ref.count) end refs

pub within_end : (place end : ℕ) (refs : List ExtRef) → RangesWithin place end refs → place ≤ end
within_end place end [] h = h
within_end place end (ref ∷ refs) h = let first = h.0 in let rest = within_end (ref.start + ref.count) end refs h.1 in omega (arith, first, rest)

pub ranges_within : (place room end : ℕ) (refs : List ExtRef) → first_bad place room refs ≡ None → room + counts refs ≤ end → place ≤ end → RangesWithin place end refs
ranges_within place room end [] good fits low = low
ranges_within place room end (ref ∷ refs) good fits low =
    let g = good_first place room ref refs good in
    let inside = g.1 in
    let sum : counts (ref ∷ refs) ≡ ref.count + counts refs = sum_by-cons (λ (r : ExtRef). r.count) ref refs in
    (g.0, ranges_within (ref.start + ref.count) (room + ref.count) end refs g.2 (omega (arith, fits, sum)) (omega (arith, fits, sum, inside)))

-- ---- what has no whole

-- the length of a text is told by that of its octets
part_length : (form : Option LineForm) (a b : List ℕ) → IfSome form IsForm → length a ≡ length b → length (part_text form a) ≡ length (part_text form b)
part_length None a b good same = same
part_length (Some form) a b good same = sym (text_is form a (length b) (4 * ((length b + 2) / 3)) good same refl) ∙ text_is form b (length b) (4 * ((length b + 2) / 3)) good refl refl

pub long_text : (ref : ExtRef) (row : InstRow) (octets : List ℕ) → IfSome ref.form IsForm → length octets ≡ row.size → length (part_text ref.form octets) ≡ ref.count → HasLongText ref row
long_text ref row octets good size is others same = part_length ref.form others octets good (same ∙ sym size) ∙ is

-- a text of another length
pub no_long_text : (ref : ExtRef) (row : InstRow) (size count : ℕ) → HasLongText ref row → ((octets : List ℕ) → length octets ≡ row.size → size ≡ length (part_text ref.form octets)) → count ≡ ref.count → (size ≡ count → ⊥) → ⊥
no_long_text ref row size count long is at differs = differs (is (replicate row.size 0) (length-replicate row.size 0) ∙ long (replicate row.size 0) (length-replicate row.size 0) ∙ sym at)

pub whole_texts : (place : ℕ) (whole body : List ℕ) (refs : List ExtRef) (rows : List InstRow) (octets : List ℕ) → AreForms refs → IsWholeFrom place whole body refs (octets_in rows octets) → sizes rows ≤ length octets → TextsFit refs rows
whole_texts place whole body [] [] octets forms h long = tt
whole_texts place whole body [] (row ∷ rows) octets forms h long = absurd h
whole_texts place whole body (ref ∷ refs) [] octets forms h long = absurd h
whole_texts place whole body (ref ∷ refs) (row ∷ rows) octets forms h long =
    let sum : sizes (row ∷ rows) ≡ row.size + sizes rows = sum_by-cons (λ (x : InstRow). x.size) row rows in
    let left = length-drop row.size octets in (
      long_text ref row (take row.size octets) (All-head (λ (r : ExtRef). IfSome r.form IsForm) ref refs forms) (length-take-le row.size octets (omega (arith, long, sum))) h.6,
      whole_texts (ref.start + ref.count) h.1 h.2 refs rows (drop row.size octets) (All-tail (λ (r : ExtRef). IfSome r.form IsForm) ref refs forms) h.7 (omega (arith, long, sum, left)),
    )

is_same : (m n : ℕ) → m ≡ n → (m == n) ≡ true
is_same m n e = grind (arith, nat_tests)

-- the ranges and the size of a whole aren't wrong
pub whole_is_right : (text body : List ℕ) (refs : List ExtRef) (instances : List (List ℕ)) (stored whole : ℕ) (e : JoinError) (other : Option JoinError) → IsWhole text body refs instances → length body ≡ stored → length text ≡ whole → whole < 4294967296
    → range_error (first_bad 0 stored refs) (if whole == found_size stored refs then None else other) ≡ Some e → ⊥
whole_is_right text body refs instances stored whole e other h long size few wrong =
    let ranges : first_bad 0 stored refs ≡ None = ap (λ (n : ℕ). first_bad 0 n refs) (sym long) ∙ ranges_good 0 (length body) text body refs instances h (omega arith) (omega (arith, few, size)) in
    let found : whole ≡ found_size stored refs = sym size ∙ whole_size 0 text body refs instances h ∙ ap (λ (n : ℕ). found_size n refs) long in
    let none : None ≡ Some e =
    sym (ap (λ (o : Option ℕ). range_error o (if whole == found_size stored refs then None else other)) ranges ∙ ap (λ (b : Bool). if b then None else other) (is_same whole (found_size stored refs) found)) ∙ wrong in
    cc none

-- ---- lists that agree

pub agree_less : (m n : ℕ) (a b : List ℕ) → m ≤ n → take n a ≡ take n b → take m a ≡ take m b
agree_less m n a b le same = sym (take-take m n a le) ∙ ap (take m) same ∙ take-take m n b le

pub agree_part : (s c n : ℕ) (a b : List ℕ) → s + c ≤ n → take n a ≡ take n b → take c (drop s a) ≡ take c (drop s b)
agree_part s c n a b le same = sym (drop-take s c a) ∙ ap (drop s) (agree_less (s + c) n a b le same) ∙ drop-take s c b

pub agree_behind : (place next : ℕ) (a b : List ℕ) → place ≤ next → drop place a ≡ drop place b → drop next a ≡ drop next b
agree_behind place next a b le same =
    let e : next ≡ place + (next - place) = omega (arith, le) in
    ap (λ (n : ℕ). drop n a) e ∙ sym (drop-drop (next - place) place a) ∙ ap (drop (next - place)) same ∙ drop-drop (next - place) place b ∙ ap (λ (n : ℕ). drop n b) (sym e)

-- ---- more octets

-- where all of an instance was kept before
step_past : (s slot Kf Ko front back rest : List ℕ) (before skipped after size : ℕ) → size ≤ before → length s ≡ size → skipped ≡ min before size → after ≡ before - skipped → rest ≡ front ++ back → length front ≡ min (length rest) (size - skipped)
    → slot ≡ take skipped s ++ (front ++ drop (skipped + length front) s) → take (after + length back) Kf ≡ take after Ko ++ back → take (before + length rest) (slot ++ Kf) ≡ take before (s ++ Ko) ++ rest
step_past s slot Kf Ko front back rest before skipped after size past long skips left parts few put rest_is =
    let none : front ≡ [] = nil_from_length front (omega (arith, few, skips, past)) in
    let all : rest ≡ back = parts ∙ ap (λ (xs : List ℕ). xs ++ back) none in
    let same : slot ≡ s =
    put ∙ ap (λ (xs : List ℕ). xs ++ (front ++ drop (skipped + length front) s)) (take_all skipped s (omega (arith, skips, past, long)))
    ∙ ap (λ (xs : List ℕ). s ++ (xs ++ drop (skipped + length front) s)) none ∙ ap (λ (xs : List ℕ). s ++ xs) (drop_all (skipped + length front) s (omega (arith, skips, past, long))) ∙ append-nil s in
    let size_all = ap length all in
    let one : before + length rest ≡ length s + (after + length back) = omega (arith, long, skips, left, past, size_all) in
    let two : before ≡ length s + after = omega (arith, long, skips, left, past) in
    ap (λ (xs : List ℕ). take (before + length rest) (xs ++ Kf)) same ∙ ap (λ (n : ℕ). take n (s ++ Kf)) one ∙ take-append-add s Kf (after + length back) ∙ ap (λ (xs : List ℕ). s ++ xs) rest_is
    ∙ sym (append_assoc s (take after Ko) back) ∙ ap (λ (xs : List ℕ). xs ++ back) (sym (take-append-add s Ko after)) ∙ ap (λ (n : ℕ). take n (s ++ Ko) ++ back) (sym two) ∙ ap (λ (xs : List ℕ). take before (s ++ Ko) ++ xs) (sym all)

-- where some of it wasn't
step_within : (s slot Kf Ko front back rest : List ℕ) (before skipped after size : ℕ) → before < size → length s ≡ size → skipped ≡ min before size → after ≡ before - skipped → rest ≡ front ++ back → length front ≡ min (length rest) (size - skipped)
    → slot ≡ take skipped s ++ (front ++ drop (skipped + length front) s) → take (after + length back) Kf ≡ take after Ko ++ back → take (before + length rest) (slot ++ Kf) ≡ take before (s ++ Ko) ++ rest
step_within s slot Kf Ko front back rest before skipped after size less long skips left parts few put rest_is =
    let at : skipped ≡ before = omega (arith, skips, less) in
    let none : after ≡ 0 = omega (arith, left, at) in
    let t : List ℕ = drop (before + length front) s in
    let X : List ℕ = take before s ++ front in
    let is : slot ≡ take before s ++ (front ++ t) = put ∙ ap (λ (n : ℕ). take n s ++ (front ++ drop (n + length front) s)) at in
    let lens = ap length parts ∙ length-append front back in
    let first = length-take-le before s (omega (arith, less, long)) in
    let long_X = length-append (take before s) front in
    let one : before + length rest ≡ length X + length back = omega (arith, lens, first, long_X) in
    let behind : take (length back) (t ++ Kf) ≡ back = elim (cases_lt (size - skipped) (length rest)) [
      | inl more ↦
          let gone : t ≡ [] = drop_all (before + length front) s (omega (arith, few, more, at, long, less)) in
          ap (λ (xs : List ℕ). take (length back) (xs ++ Kf)) gone ∙ ap (λ (n : ℕ). take n Kf) (let e : length back ≡ after + length back = omega (arith, none) in e) ∙ rest_is ∙ ap (λ (n : ℕ). take n Ko ++ back) none
      | inr enough ↦
          let empty : back ≡ [] = nil_from_length back (omega (arith, few, enough, lens)) in
          ap (λ (xs : List ℕ). take (length xs) (t ++ Kf)) empty ∙ sym empty
    ] in
    ap (λ (xs : List ℕ). take (before + length rest) (xs ++ Kf)) (is ∙ sym (append_assoc (take before s) front t)) ∙ ap (λ (xs : List ℕ). take (before + length rest) xs) (append_assoc X t Kf)
    ∙ ap (λ (n : ℕ). take n (X ++ (t ++ Kf))) one ∙ take-append-add X (t ++ Kf) (length back) ∙ ap (λ (xs : List ℕ). X ++ xs) behind
    ∙ append_assoc (take before s) front back ∙ ap (λ (xs : List ℕ). take before s ++ xs) (sym parts)
    ∙ ap (λ (xs : List ℕ). xs ++ rest) (sym (take-append-le before s Ko (omega (arith, less, long))))

kept_step : (s slot Kf Ko front back rest : List ℕ) (before skipped after size : ℕ) → length s ≡ size → skipped ≡ min before size → after ≡ before - skipped → rest ≡ front ++ back → length front ≡ min (length rest) (size - skipped)
    → slot ≡ take skipped s ++ (front ++ drop (skipped + length front) s) → take (after + length back) Kf ≡ take after Ko ++ back → take (before + length rest) (slot ++ Kf) ≡ take before (s ++ Ko) ++ rest
kept_step s slot Kf Ko front back rest before skipped after size long skips left parts few put rest_is = elim (cases_lt before size) [
  | inl less ↦ step_within s slot Kf Ko front back rest before skipped after size less long skips left parts few put rest_is
  | inr past ↦ step_past s slot Kf Ko front back rest before skipped after size past long skips left parts few put rest_is
]

-- ---- what is written within a range

-- the end of a range, in which octets were put over others
slot_put : (now new front : List ℕ) (at size skipped : ℕ) → at + size ≤ length now → skipped + length front ≤ size → new ≡ take (at + skipped) now ++ (front ++ drop (at + skipped + length front) now)
    → take size (drop at new) ≡ take skipped (take size (drop at now)) ++ (front ++ drop (skipped + length front) (take size (drop at now)))
slot_put now new front at size skipped within fits put =
    let a : length (take at now) ≡ at = length-take-le at now (omega (arith, within)) in
    let left = length-drop at now in
    let D : List ℕ = drop at now in
    let split : take (at + skipped) now ≡ take at now ++ take skipped D = sym (take-append-drop at (take (at + skipped) now)) ∙ ap (λ (xs : List ℕ). xs ++ drop at (take (at + skipped) now)) (take-take at (at + skipped) now (omega arith)) ∙ ap (λ (xs : List ℕ). take at now ++ xs) (drop-take at skipped now) in
    let behind : drop (at + skipped + length front) now ≡ drop (skipped + length front) D = ap (λ (n : ℕ). drop n now) (let e : at + skipped + length front ≡ at + (skipped + length front) = omega arith in e) ∙ sym (drop-drop (skipped + length front) at now) in
    let whole : new ≡ take at now ++ (take skipped D ++ (front ++ drop (skipped + length front) D)) =
    put ∙ ap (λ (xs : List ℕ). xs ++ (front ++ drop (at + skipped + length front) now)) split ∙ append_assoc (take at now) (take skipped D) (front ++ drop (at + skipped + length front) now) ∙ ap (λ (xs : List ℕ). take at now ++ (take skipped D ++ (front ++ xs))) behind in
    let there : drop at new ≡ take skipped D ++ (front ++ drop (skipped + length front) D) =
    ap (drop at) whole ∙ ap (λ (n : ℕ). drop n (take at now ++ (take skipped D ++ (front ++ drop (skipped + length front) D)))) (sym a) ∙ drop-append_seam (take at now) (take skipped D ++ (front ++ drop (skipped + length front) D)) in
    let b : length (take skipped D) ≡ skipped = length-take-le skipped D (omega (arith, left, within, fits)) in
    let n : size ≡ length (take skipped D) + (length front + (size - (skipped + length front))) = omega (arith, b, fits) in
    let rest : take (size - (skipped + length front)) (drop (skipped + length front) D) ≡ drop (skipped + length front) (take size D) =
    sym (drop-take (skipped + length front) (size - (skipped + length front)) D) ∙ ap (λ (k : ℕ). drop (skipped + length front) (take k D)) (let e : skipped + length front + (size - (skipped + length front)) ≡ size = omega (arith, fits) in e) in
    ap (take size) there ∙ ap (λ (k : ℕ). take k (take skipped D ++ (front ++ drop (skipped + length front) D))) n
    ∙ take-append-add (take skipped D) (front ++ drop (skipped + length front) D) (length front + (size - (skipped + length front)))
    ∙ ap (λ (xs : List ℕ). take skipped D ++ xs) (take-append-add front (drop (skipped + length front) D) (size - (skipped + length front)))
    ∙ ap (λ (xs : List ℕ). take skipped D ++ (front ++ xs)) rest
    ∙ ap (λ (xs : List ℕ). xs ++ (front ++ drop (skipped + length front) (take size D))) (sym (take-take skipped size D (omega (arith, fits))))

-- before and behind the place nothing has changed
put_before : (now new front : List ℕ) (place m : ℕ) → place ≤ length now → m ≤ place → new ≡ take place now ++ (front ++ drop (place + length front) now) → take m new ≡ take m now
put_before now new front place m within le put =
    let a = length-take-le place now within in
    ap (take m) put ∙ take-append-le m (take place now) (front ++ drop (place + length front) now) (omega (arith, a, le)) ∙ take-take m place now le

put_behind : (now new front : List ℕ) (place : ℕ) → place ≤ length now → new ≡ take place now ++ (front ++ drop (place + length front) now) → drop (place + length front) new ≡ drop (place + length front) now
put_behind now new front place within put =
    let a = length-take-le place now within in
    ap (drop (place + length front)) put ∙ ap (λ (n : ℕ). drop (n + length front) (take place now ++ (front ++ drop (place + length front) now))) (sym a)
    ∙ drop-append-add (take place now) (front ++ drop (place + length front) now) (length front) ∙ drop-append_seam front (drop (place + length front) now)

-- ---- the loop

-- What is still to be kept stands behind what is kept, in the ranges of these references. Whatever becomes of the octets behind the place
-- where they begin, if it is kept there, all of it is.
pub record IsKeeping (all : List ExtRef) (each : List InstRow) (kept : ℕ) (octets old : List ℕ) (refs : List ExtRef) (rows : List InstRow) (before : ℕ) (rest now : List ℕ) : Type 0 where
  pub place : ℕ
  pub within : RangesWithin place (length old) refs
  pub texts : TextsFit refs rows
  pub forms : AreForms refs
  pub long : length now ≡ length old
  pub behind : drop place now ≡ drop place old
  pub room : before + length rest ≤ sizes rows
  pub on : (final : List ℕ) → length final ≡ length old → take place final ≡ take place now → take (before + length rest) (kept_in refs rows final) ≡ take before (kept_in refs rows old) ++ rest
      → outside_from place refs (drop place final) ≡ outside_from place refs (drop place old)
      → (take (kept + length octets) (kept_in all each final) ≡ take kept (kept_in all each old) ++ octets) × (outside all final ≡ outside all old)

pub all_within : (stored : ℕ) (refs : List ExtRef) (rows : List InstRow) (old : List ℕ) → FitInto (length old) stored refs rows → RangesWithin 0 (length old) refs
all_within stored refs rows old f = let size = f.size in ranges_within 0 stored (length old) refs f.ranges (omega (arith, size)) (omega arith)

pub keeping_begins : (refs : List ExtRef) (rows : List InstRow) (kept stored : ℕ) (octets old : List ℕ) → FitInto (length old) stored refs rows → AreForms refs → kept + length octets ≤ sizes rows → IsKeeping refs rows kept octets old refs rows kept octets old
keeping_begins refs rows kept stored octets old f forms room = record {
  place = 0;
  within = all_within stored refs rows old f;
  texts = f.texts;
  forms = forms;
  long = refl;
  behind = refl;
  room = room;
  on = λ final long same k o. (k, o);
}

-- the next reference and its row
pub record IsNextRange (old : List ℕ) (place : ℕ) (ref : ExtRef) (others : List ExtRef) (row : InstRow) (rows : List InstRow) : Type 0 where
  pub from : place ≤ ref.start
  pub to : ref.start + ref.count ≤ length old
  pub within : RangesWithin (ref.start + ref.count) (length old) others
  pub size : row.size ≤ ref.count
  pub text : HasLongText ref row
  pub texts : TextsFit others rows
  pub form : IfSome ref.form IsForm
  pub forms : AreForms others

pub next_range : (old : List ℕ) (place : ℕ) (refs others : List ExtRef) (named rows : List InstRow) (ref : ExtRef) (row : InstRow) → refs ≡ ref ∷ others → named ≡ row ∷ rows → RangesWithin place (length old) refs → TextsFit refs named → AreForms refs → IsNextRange old place ref others row rows
next_range old place refs others named rows ref row first second within texts forms =
    let w : RangesWithin place (length old) (ref ∷ others) = subst (RangesWithin place (length old)) first within in
    let t : TextsFit (ref ∷ others) (row ∷ rows) = subst (TextsFit (ref ∷ others)) second (subst (λ (rs : List ExtRef). TextsFit rs named) first texts) in
    let f : AreForms (ref ∷ others) = subst AreForms first forms in
    let form = All-head (λ (r : ExtRef). IfSome r.form IsForm) ref others f in
    record {
      from = w.0;
      to = within_end (ref.start + ref.count) (length old) others w.1;
      within = w.1;
      size = row_fits ref row form t.0;
      text = t.0;
      texts = t.1;
      form = form;
      forms = All-tail (λ (r : ExtRef). IfSome r.form IsForm) ref others f;
    }

-- what stands before the next range and behind it is as it was, where that is so of what is outside behind it
pub outside_on : (place : ℕ) (ref : ExtRef) (others : List ExtRef) (old now new final : List ℕ) → place ≤ ref.start → drop place now ≡ drop place old → take ref.start new ≡ take ref.start now → take (ref.start + ref.count) final ≡ take (ref.start + ref.count) new
    → outside_from (ref.start + ref.count) others (drop (ref.start + ref.count) final) ≡ outside_from (ref.start + ref.count) others (drop (ref.start + ref.count) old)
    → outside_from place (ref ∷ others) (drop place final) ≡ outside_from place (ref ∷ others) (drop place old)
outside_on place ref others old now new final from behind front same rest =
    let gap : take (ref.start - place) (drop place final) ≡ take (ref.start - place) (drop place old) =
    agree_part place (ref.start - place) (ref.start + ref.count) final new (omega (arith, from)) same ∙ agree_part place (ref.start - place) ref.start new now (omega (arith, from)) front ∙ ap (take (ref.start - place)) behind in
    let past : (xs : List ℕ) → drop (ref.start + ref.count - place) (drop place xs) ≡ drop (ref.start + ref.count) xs =
    λ xs. drop-drop (ref.start + ref.count - place) place xs ∙ ap (λ (n : ℕ). drop n xs) (let e : place + (ref.start + ref.count - place) ≡ ref.start + ref.count = omega (arith, from) in e) in
    ap (λ (xs : List ℕ). xs ++ outside_from (ref.start + ref.count) others (drop (ref.start + ref.count - place) (drop place final))) gap
    ∙ ap (λ (xs : List ℕ). take (ref.start - place) (drop place old) ++ outside_from (ref.start + ref.count) others xs) (past final)
    ∙ ap (λ (xs : List ℕ). take (ref.start - place) (drop place old) ++ xs) rest
    ∙ ap (λ (xs : List ℕ). take (ref.start - place) (drop place old) ++ outside_from (ref.start + ref.count) others xs) (sym (past old))

pub keeping_goes_on : (all : List ExtRef) (each : List InstRow) (kept : ℕ) (octets old : List ℕ) (refs others : List ExtRef) (named rows : List InstRow) (ref : ExtRef) (row : InstRow) (before skipped after : ℕ) (rest front back now new : List ℕ)
    → IsKeeping all each kept octets old refs named before rest now → refs ≡ ref ∷ others → named ≡ row ∷ rows → skipped ≡ min before row.size → after ≡ before - skipped → rest ≡ front ++ back → length front ≡ min (length rest) (row.size - skipped)
    → new ≡ take (ref.start + ref.count - row.size + skipped) now ++ (front ++ drop (ref.start + ref.count - row.size + skipped + length front) now) → length new ≡ length now → IsKeeping all each kept octets old others rows after back new
keeping_goes_on all each kept octets old refs others named rows ref row before skipped after rest front back now new k first second skips left parts few put size =
    let r = next_range old k.place refs others named rows ref row first second k.within k.texts k.forms in
    let from = r.from in
    let to = r.to in
    let fits = r.size in
    let long = k.long in
    let at : ℕ = ref.start + ref.count - row.size in
    let end : ℕ = ref.start + ref.count in
    let lens = ap length parts ∙ length-append front back in
    let most : skipped + length front ≤ row.size = omega (arith, skips, few) in
    let in_now : at + skipped ≤ length now = omega (arith, to, fits, most, long) in
    let kept_behind : drop end new ≡ drop end old =
    agree_behind (at + skipped + length front) end new now (omega (arith, fits, most)) (put_behind now new front (at + skipped) in_now put) ∙ agree_behind k.place end now old (omega (arith, from)) k.behind in
    let s : List ℕ = take row.size (drop at old) in
    let s_now : take row.size (drop at now) ≡ s = ap (take row.size) (agree_behind k.place at now old (omega (arith, from, fits)) k.behind) in
    let long_s : length s ≡ row.size = length-take-le row.size (drop at old) (let d = length-drop at old in omega (arith, d, to, fits)) in
    record {
      place = end;
      within = r.within;
      texts = r.texts;
      forms = r.forms;
      long = size ∙ long;
      behind = kept_behind;
      room =
          let room = k.room in
          let sum : sizes named ≡ row.size + sizes rows = ap sizes second ∙ sum_by-cons (λ (x : InstRow). x.size) row rows in
          omega (arith, room, sum, skips, left, lens, few);
      on = λ final same_long same kept_rest outside_rest.
          let slot : take row.size (drop at final) ≡ take skipped s ++ (front ++ drop (skipped + length front) s) =
          agree_part at row.size end final new (omega (arith, fits)) same ∙ slot_put now new front at row.size skipped (omega (arith, to, fits, long)) most put
          ∙ ap (λ (xs : List ℕ). take skipped xs ++ (front ++ drop (skipped + length front) xs)) s_now in
          let kept_all : take (before + length rest) (kept_in (ref ∷ others) (row ∷ rows) final) ≡ take before (kept_in (ref ∷ others) (row ∷ rows) old) ++ rest =
          kept_step s (take row.size (drop at final)) (kept_in others rows final) (kept_in others rows old) front back rest before skipped after row.size long_s skips left parts few slot kept_rest in
          let outside_all = outside_on k.place ref others old now new final from k.behind (put_before now new front (at + skipped) ref.start in_now (omega (arith, fits)) put) same outside_rest in
          k.on final same_long (agree_less k.place end final new (omega (arith, from)) same ∙ put_before now new front (at + skipped) k.place in_now (omega (arith, from, fits)) put)
          (subst (λ (ws : List InstRow). take (before + length rest) (kept_in refs ws final) ≡ take before (kept_in refs ws old) ++ rest) (sym second)
          (subst (λ (rs : List ExtRef). take (before + length rest) (kept_in rs (row ∷ rows) final) ≡ take before (kept_in rs (row ∷ rows) old) ++ rest) (sym first) kept_all))
          (subst (λ (rs : List ExtRef). outside_from k.place rs (drop k.place final) ≡ outside_from k.place rs (drop k.place old)) (sym first) outside_all);
    }

pub keeping_ends : (all : List ExtRef) (each : List InstRow) (kept : ℕ) (octets old : List ℕ) (refs : List ExtRef) (rows : List InstRow) (before : ℕ) (rest now : List ℕ) → IsKeeping all each kept octets old refs rows before rest now → refs ≡ []
    → (take (kept + length octets) (kept_in all each now) ≡ take kept (kept_in all each old) ++ octets) × (outside all now ≡ outside all old)
keeping_ends all each kept octets old refs rows before rest now k none =
    let texts : TextsFit [] rows = subst (λ (rs : List ExtRef). TextsFit rs rows) none k.texts in
    let no_rows = no_row rows texts in
    let room = k.room in
    let sum : sizes rows ≡ 0 = ap sizes no_rows ∙ omega arith in
    let before_is : before ≡ 0 = omega (arith, room, sum) in
    let rest_is : rest ≡ [] = nil_from_length rest (omega (arith, room, sum)) in
    k.on now k.long refl
    (subst (λ (rs : List ExtRef). take (before + length rest) (kept_in rs rows now) ≡ take before (kept_in rs rows old) ++ rest) (sym none)
    (subst (λ (xs : List ℕ). take (before + length xs) (kept_in [] rows now) ≡ take before (kept_in [] rows old) ++ xs) (sym rest_is)
    (subst (λ (n : ℕ). take (n + 0) (kept_in [] rows now) ≡ take n (kept_in [] rows old) ++ []) (sym before_is) refl)))
    (subst (λ (rs : List ExtRef). outside_from k.place rs (drop k.place now) ≡ outside_from k.place rs (drop k.place old)) (sym none) k.behind)
  where
    no_row : (ws : List InstRow) → TextsFit [] ws → ws ≡ []
    no_row [] h = refl
    no_row (w ∷ ws) h = absurd h

pub no_rows_left : (refs others : List ExtRef) (rows : List InstRow) (ref : ExtRef) → refs ≡ ref ∷ others → rows ≡ [] → TextsFit refs rows → ⊥
no_rows_left refs others rows ref first none h = subst (TextsFit (ref ∷ others)) none (subst (λ (rs : List ExtRef). TextsFit rs rows) first h)

-- what is so of the first text, and of the others
pub first_texts : (refs others : List ExtRef) (named rows : List InstRow) (ref : ExtRef) (row : InstRow) → refs ≡ ref ∷ others → named ≡ row ∷ rows → TextsFit refs named → HasLongText ref row × TextsFit others rows
first_texts refs others named rows ref row first second h = subst (TextsFit (ref ∷ others)) second (subst (λ (rs : List ExtRef). TextsFit rs named) first h)

pub with_first : (refs others : List ExtRef) (named rows : List InstRow) (ref : ExtRef) (row : InstRow) → refs ≡ ref ∷ others → named ≡ row ∷ rows → HasLongText ref row → TextsFit others rows → TextsFit refs named
with_first refs others named rows ref row first second one more = subst (λ (rs : List ExtRef). TextsFit rs named) (sym first) (subst (TextsFit (ref ∷ others)) (sym second) (one, more))

-- as many octets are kept as the rows say
kept_long : (place end : ℕ) (refs : List ExtRef) (rows : List InstRow) (whole : List ℕ) → RangesWithin place end refs → TextsFit refs rows → AreForms refs → end ≤ length whole → length (kept_in refs rows whole) ≡ sizes rows
kept_long place end [] [] whole within fit forms most = omega arith
kept_long place end [] (row ∷ rows) whole within fit forms most = absurd fit
kept_long place end (ref ∷ refs) [] whole within fit forms most = absurd fit
kept_long place end (ref ∷ refs) (row ∷ rows) whole within fit forms most =
    let size = row_fits ref row (All-head (λ (r : ExtRef). IfSome r.form IsForm) ref refs forms) fit.0 in
    let to = within_end (ref.start + ref.count) end refs within.1 in
    let at : ℕ = ref.start + ref.count - row.size in
    let left = length-drop at whole in
    let slot : length (take row.size (drop at whole)) ≡ row.size = length-take-le row.size (drop at whole) (omega (arith, left, size, to, most)) in
    let rest = kept_long (ref.start + ref.count) end refs rows whole within.1 fit.1 (All-tail (λ (r : ExtRef). IfSome r.form IsForm) ref refs forms) most in
    let all = length-append (take row.size (drop at whole)) (kept_in refs rows whole) in
    let sum : sizes (row ∷ rows) ≡ row.size + sizes rows = sum_by-cons (λ (x : InstRow). x.size) row rows in
    omega (arith, slot, rest, all, sum)

pub kept_length : (stored : ℕ) (refs : List ExtRef) (rows : List InstRow) (whole : List ℕ) → FitInto (length whole) stored refs rows → AreForms refs → length (kept_in refs rows whole) ≡ sizes rows
kept_length stored refs rows whole f forms = kept_long 0 (length whole) refs rows whole (all_within stored refs rows whole f) f.texts forms (omega arith)

-- instances have no more octets than their whole
few_sizes : (refs : List ExtRef) (rows : List InstRow) → TextsFit refs rows → AreForms refs → sizes rows ≤ counts refs
few_sizes [] [] fit forms = omega arith
few_sizes [] (row ∷ rows) fit forms = absurd fit
few_sizes (ref ∷ refs) [] fit forms = absurd fit
few_sizes (ref ∷ refs) (row ∷ rows) fit forms =
    let one = row_fits ref row (All-head (λ (r : ExtRef). IfSome r.form IsForm) ref refs forms) fit.0 in
    let rest = few_sizes refs rows fit.1 (All-tail (λ (r : ExtRef). IfSome r.form IsForm) ref refs forms) in
    let a : sizes (row ∷ rows) ≡ row.size + sizes rows = sum_by-cons (λ (x : InstRow). x.size) row rows in
    let b : counts (ref ∷ refs) ≡ ref.count + counts refs = sum_by-cons (λ (r : ExtRef). r.count) ref refs in
    omega (arith, one, rest, a, b)

pub sizes_within : (stored whole : ℕ) (refs : List ExtRef) (rows : List InstRow) → FitInto whole stored refs rows → AreForms refs → sizes rows ≤ whole
sizes_within stored whole refs rows f forms = let few = few_sizes refs rows f.texts forms in let size = f.size in omega (arith, few, size)
