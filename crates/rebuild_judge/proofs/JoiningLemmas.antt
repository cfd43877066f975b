-- Texts and sizes, compared by the sizes of instances.
use Rattle.std.proofs.Common.{refl, ◌≡◌, ◌≢◌, ◌<◌, ◌≤◌, ◌+◌, ◌*◌, ◌/◌, ℕ, Bool, true, false, List, [], length, map, get_or, sym, ◌∙◌, ap, arith, Option, Some, None, Result, Ok, Err}
use Rattle.std.proofs.lemmas.Bool.Decides.{nat_tests}
use Rattle.std.proofs.lemmas.List.{length-map, get_or-map, get_or_default}
use Rattle.std.specs.Prelude.{◌==◌, sum_by, if◌then◌else◌, IfSome}
use Rattle.attach_join.proofs.CheckLemmas.{AreSame, same_next, same_differs, same_end}
use Rattle.mdbox_base.specs.declared.metadata.ExtRef.{ExtRef}
use Rattle.mdbox_base.specs.declared.metadata.LineForm.{LineForm}
use Rattle.model_attach.specs.Rejoined.{first_bad, first_differs, found_size, is_compressed, join_error, part_text, size_error}
use Rattle.model_attach.specs.declared.join_error.JoinError.{JoinError}
use Rattle.model_attach.specs.declared.join_error.JoinError.TheVariants as join
use Rattle.model_base64.proofs.Base64Lemmas.{at_least, length-padded}
use Rattle.model_base64.specs.Base64Text.{IsForm, in_lines, line_break, padded}
use Rattle.model_found.specs.declared.reason.Reason.{Reason}
use Rattle.model_found.specs.declared.reason.Reason.TheVariants as reason
use Rattle.rebuild_judge.specs.Joining.{IsBadFor, DiffersFor, JoinsAs}

-- the text of an instance is no shorter than the instance
pub part_long : (form : Option LineForm) (octets : List ℕ) → IfSome form IsForm → length octets ≤ length (part_text form octets)
part_long None octets is = omega arith
part_long (Some form) octets is =
    let four = is.least in
    let lines : length (padded octets) ≤ length (in_lines form.length (line_break form.crlf) form.length (padded octets)) = at_least form.length (line_break form.crlf) form.length (padded octets) (omega (arith, four)) in
    sizes (length octets) (length (padded octets)) (length (in_lines form.length (line_break form.crlf) form.length (padded octets))) lines (length-padded octets)
  where
    sizes : (n p l : ℕ) → p ≤ l → p ≡ 4 * ((n + 2) / 3) → n ≤ l
    sizes n p l a b = omega (arith, a, b)

pub too_long : (form : Option LineForm) (octets : List ℕ) (size count : ℕ) → IfSome form IsForm → length octets ≡ size → count < size → false ≡ (length (part_text form octets) == count)
too_long form octets size count is e more = let long = part_long form octets is in differs (length (part_text form octets)) count (omega (arith, long, e, more))
  where
    differs : (m n : ℕ) → n < m → false ≡ (m == n)
    differs m n h = grind (arith, nat_tests)

-- ---- one after another

same_size : (octets : List (List ℕ)) (sizes : List ℕ) (i : ℕ) → map length octets ≡ sizes → i < length octets → length (get_or octets i []) ≡ get_or sizes i 0
same_size octets sizes i e h = sym (get_or-map length octets i [] 0 h) ∙ ap (λ (xs : List ℕ). get_or xs i 0) e

as_many : (octets : List (List ℕ)) (sizes : List ℕ) → map length octets ≡ sizes → length octets ≡ length sizes
as_many octets sizes e = sym (length-map octets (λ (o : List ℕ). length o)) ∙ ap (λ (ns : List ℕ). length ns) e

is_equal : (m n : ℕ) (b : Bool) → b ≡ (m == n) → b ≡ true → m ≡ n
is_equal m n b e t = equal m n (sym e ∙ t)
  where
    equal : (m n : ℕ) → (m == n) ≡ true → m ≡ n
    equal m n h = grind (arith, nat_tests)

is_unequal : (m n : ℕ) (b : Bool) → b ≡ (m == n) → b ≡ false → m ≢ n
is_unequal m n b e t = unequal m n (sym e ∙ t)
  where
    unequal : (m n : ℕ) → (m == n) ≡ false → m ≢ n
    unequal m n h = grind (arith, nat_tests)

pub texts_next : (refs : List ExtRef) (octets : List (List ℕ)) (sizes : List ℕ) (i : ℕ) (ref d : ExtRef) (b : Bool) → AreSame refs octets i → map length octets ≡ sizes → length refs ≡ length sizes → i < length refs → ref ≡ get_or refs i d
    → ((o : List ℕ) → length o ≡ get_or sizes i 0 → b ≡ (length (part_text ref.form o) == ref.count)) → b ≡ true → AreSame refs octets (i + 1)
texts_next refs octets sizes i ref d b was e one h is said t =
    let many = as_many octets sizes e in
    let o = get_or octets i [] in
    same_next refs octets i ref d o ref.count (length (part_text ref.form o)) was (one ∙ sym many) h is (get_or_default octets i [] o (omega (arith, h, one, many))) refl refl
    (sym (is_equal (length (part_text ref.form o)) ref.count b (said o (same_size octets sizes i e (omega (arith, h, one, many)))) t))

pub texts_differ : {T : Type 0} → (refs : List ExtRef) (octets : List (List ℕ)) (sizes : List ℕ) (i : ℕ) (ref d : ExtRef) (b : Bool) → AreSame refs octets i → map length octets ≡ sizes → length refs ≡ length sizes → i < length refs → ref ≡ get_or refs i d
    → ((o : List ℕ) → length o ≡ get_or sizes i 0 → b ≡ (length (part_text ref.form o) == ref.count)) → b ≡ false → (answer : Result T Reason) → answer ≡ Err reason.InstanceDiffers → DiffersFor (first_differs refs octets) answer
texts_differ refs octets sizes i ref d b was e one h is said t answer given =
    let many = as_many octets sizes e in
    let o = get_or octets i [] in
    rw (same_differs refs octets i ref d o ref.count (length (part_text ref.form o)) was (one ∙ sym many) h is (get_or_default octets i [] o (omega (arith, h, one, many))) refl refl
    (λ same. is_unequal (length (part_text ref.form o)) ref.count b (said o (same_size octets sizes i e (omega (arith, h, one, many)))) t (sym same))) given

pub texts_same : {T : Type 0} → (refs : List ExtRef) (octets : List (List ℕ)) (i : ℕ) (given : T) → AreSame refs octets i → length refs ≤ i → DiffersFor (first_differs refs octets) (Ok given)
texts_same refs octets i given was h = rw (same_end refs octets i was h) (given, refl)

-- ---- all of it

pub joins_bad : (body : List ℕ) (stored whole : ℕ) (refs : List ExtRef) (octets : List (List ℕ)) (why : Reason) → length body ≡ stored → IsBadFor stored refs why → JoinsAs (join_error body whole refs octets) (Err why)
joins_bad body stored whole refs octets why e (index, bad, is) =
    let first : first_bad 0 (length body) refs ≡ Some index = ap (λ (n : ℕ). first_bad 0 n refs) e ∙ bad in
    rw first (ap (λ (r : Reason). Err r) is)

sizes_told : (body : List ℕ) (whole found : ℕ) (rest : Option JoinError) → whole ≢ found → JoinsAs (size_error body whole found rest) (Err reason.SizeDiffers)
sizes_told body whole found rest ne = rw (differ whole found ne) (either (is_compressed body))
  where
    differ : (m n : ℕ) → m ≢ n → (m == n) ≡ false
    differ m n h = grind (arith, nat_tests)

    either : (b : Bool) → JoinsAs (Some (if b then join.Compressed else join.SizeDiffers whole found)) (Err reason.SizeDiffers)
    either true = refl
    either false = refl

pub joins_size : (body : List ℕ) (stored whole found : ℕ) (refs : List ExtRef) (octets : List (List ℕ)) → length body ≡ stored → first_bad 0 stored refs ≡ None → found ≡ stored + sum_by (λ ref. ref.count) refs → whole ≢ found
    → JoinsAs (join_error body whole refs octets) (Err reason.SizeDiffers)
joins_size body stored whole found refs octets e good is ne =
    let first : first_bad 0 (length body) refs ≡ None = ap (λ (n : ℕ). first_bad 0 n refs) e ∙ good in
    rw first (sizes_told body whole (found_size (length body) refs) (first_differs refs octets) (λ same. ne (same ∙ ap (λ (n : ℕ). n + sum_by (λ (ref : ExtRef). ref.count) refs) e ∙ sym is)))

texts_told : {T : Type 0} → (error : Option JoinError) (answer : Result T Reason) (why : Reason) → answer ≡ Err why → DiffersFor error answer → JoinsAs error (Err why)
texts_told {T} None answer why e (given, is) = absurd (let k = sym e ∙ is in cc k)
texts_told (Some (join.RangeBad index)) answer why e is = absurd is
texts_told (Some join.Compressed) answer why e is = absurd is
texts_told (Some (join.SizeDiffers kept found)) answer why e is = absurd is
texts_told (Some (join.InstanceDiffers index kept found)) answer why e is = let k = sym e ∙ is in let w : why ≡ reason.InstanceDiffers = cc k in ap (λ (r : Reason). Err r) w
texts_told (Some join.NoMemory) answer why e is = absurd is

none_told : {T : Type 0} → (error : Option JoinError) (given : T) (size : ℕ) → DiffersFor error (Ok given) → JoinsAs error (Ok size)
none_told None given size is = (size, refl)
none_told (Some (join.RangeBad index)) given size is = absurd is
none_told (Some join.Compressed) given size is = absurd is
none_told (Some (join.SizeDiffers kept found)) given size is = absurd is
none_told (Some (join.InstanceDiffers index kept found)) given size is = absurd (cc)
none_told (Some join.NoMemory) given size is = absurd is

right_size : (body : List ℕ) (stored whole : ℕ) (refs : List ExtRef) (octets : List (List ℕ)) → length body ≡ stored → first_bad 0 stored refs ≡ None → whole ≡ stored + sum_by (λ ref. ref.count) refs
    → join_error body whole refs octets ≡ first_differs refs octets
right_size body stored whole refs octets e good is =
    let first : first_bad 0 (length body) refs ≡ None = ap (λ (n : ℕ). first_bad 0 n refs) e ∙ good in
    let size : whole ≡ found_size (length body) refs = is ∙ ap (λ (n : ℕ). n + sum_by (λ (ref : ExtRef). ref.count) refs) (sym e) in
    rw first (rw (equal whole (found_size (length body) refs) size) refl)
  where
    equal : (m n : ℕ) → m ≡ n → (m == n) ≡ true
    equal m n h = grind (arith, nat_tests)

pub joins_text : {T : Type 0} → (body : List ℕ) (stored whole : ℕ) (refs : List ExtRef) (octets : List (List ℕ)) (answer : Result T Reason) (why : Reason) → length body ≡ stored → first_bad 0 stored refs ≡ None → whole ≡ stored + sum_by (λ ref. ref.count) refs
    → answer ≡ Err why → DiffersFor (first_differs refs octets) answer → JoinsAs (join_error body whole refs octets) (Err why)
joins_text body stored whole refs octets answer why e good is given differs = rw (right_size body stored whole refs octets e good is) (texts_told (first_differs refs octets) answer why given differs)

pub joins_right : {T : Type 0} → (body : List ℕ) (stored whole size : ℕ) (refs : List ExtRef) (octets : List (List ℕ)) (given : T) → length body ≡ stored → first_bad 0 stored refs ≡ None → whole ≡ stored + sum_by (λ ref. ref.count) refs
    → DiffersFor (first_differs refs octets) (Ok given) → JoinsAs (join_error body whole refs octets) (Ok size)
joins_right body stored whole size refs octets given e good is differs = rw (right_size body stored whole refs octets e good is) (none_told (first_differs refs octets) given size differs)
