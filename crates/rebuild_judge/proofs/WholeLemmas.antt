-- A body and instances that join have a whole, and the sizes of these instances are numbers of 32 bits.
use Rattle.std.proofs.Common.{refl, ◌≡◌, ◌≤◌, ◌+◌, ◌-◌, ℕ, Bool, true, false, List, [], ◌∷◌, ◌++◌, length, take, drop, map, sym, ◌∙◌, ap, arith, min, Option, Some, None}
use Rattle.std.proofs.lemmas.Bool.Decides.{nat_tests}
use Rattle.std.proofs.lemmas.List.{length-drop, length-take-le, take-append-drop}
use Rattle.std.proofs.lemmas.List.Elements.{All-head, All-tail}
use Rattle.std.specs.Prelude.{◌==◌, All, IfSome, if◌then◌else◌}
use Rattle.attach_join.proofs.CheckLemmas.{good}
use Rattle.attach_join.proofs.JoinLemmas.{good_first, same_first}
use Rattle.mdbox_base.specs.declared.entries.InstRow.{InstRow}
use Rattle.mdbox_base.specs.declared.metadata.ExtRef.{ExtRef}
use Rattle.model_attach.proofs.RejoinedLemmas.{whole_size}
use Rattle.model_attach.specs.Rejoined.{IsWhole, IsWholeFrom, first_bad, first_differs, found_size, is_bad, is_compressed, join_error, part_text, range_error, size_error}
use Rattle.model_attach.specs.declared.join_error.JoinError.{JoinError}
use Rattle.model_attach.specs.declared.join_error.JoinError.TheVariants as join
use Rattle.model_base64.specs.Base64Text.{IsForm}
use Rattle.model_taken.specs.NamedInstances.{InstanceFound}
use Rattle.rebuild_judge.proofs.JoiningLemmas.{part_long}
use Rattle.rebuild_judge.specs.Kept.{sized_rows}

-- ---- what joins

pub record Joins (body : List ℕ) (whole : ℕ) (refs : List ExtRef) (octets : List (List ℕ)) : Type 0 where
  pub ranges : first_bad 0 (length body) refs ≡ None
  pub size : whole ≡ found_size (length body) refs
  pub texts : first_differs refs octets ≡ None

no_range : (bad : Option ℕ) (rest : Option JoinError) → range_error bad rest ≡ None → (bad ≡ None) × (rest ≡ None)
no_range None rest e = (refl, e)
no_range (Some i) rest e = absurd (cc e)

no_size : (body : List ℕ) (whole found : ℕ) (rest : Option JoinError) (b : Bool) → (whole == found) ≡ b → (if b then rest else Some (if is_compressed body then join.Compressed else join.SizeDiffers whole found)) ≡ None → (whole ≡ found) × (rest ≡ None)
no_size body whole found rest true t e = (same whole found t, e)
  where
    same : (m n : ℕ) → (m == n) ≡ true → m ≡ n
    same m n h = grind (arith, nat_tests)
no_size body whole found rest false t e = absurd (cc e)

pub joins_of : (body : List ℕ) (whole : ℕ) (refs : List ExtRef) (octets : List (List ℕ)) → join_error body whole refs octets ≡ None → Joins body whole refs octets
joins_of body whole refs octets e =
    let one = no_range (first_bad 0 (length body) refs) (size_error body whole (found_size (length body) refs) (first_differs refs octets)) e in
    let two = no_size body whole (found_size (length body) refs) (first_differs refs octets) (whole == found_size (length body) refs) refl one.1 in
    record { ranges = one.0; size = two.0; texts = two.1 }

-- ---- its whole

whole_from : (place room : ℕ) (body : List ℕ) (refs : List ExtRef) (octets : List (List ℕ)) → length refs ≡ length octets → room ≡ place + length body → first_bad place room refs ≡ None → first_differs refs octets ≡ None
    → (whole : List ℕ) × IsWholeFrom place whole body refs octets
whole_from place room body [] [] one e ranges texts = (body, refl)
whole_from place room body [] (o ∷ octets) one e ranges texts = absurd (omega (arith, one))
whole_from place room body (ref ∷ refs) [] one e ranges texts = absurd (omega (arith, one))
whole_from place room body (ref ∷ refs) (o ∷ octets) one e ranges texts =
    let here = good_first place room ref refs ranges in
    let text = same_first ref refs o octets texts in
    let gap = ref.start - place in
    let front : length (take gap body) ≡ gap = length-take-le gap body (omega (arith, here.0, here.1, e)) in
    let behind = length-drop gap body in
    let more = whole_from (ref.start + ref.count) (room + ref.count) (drop gap body) refs octets (omega (arith, one)) (omega (arith, e, behind, here.0, here.1)) here.2 text.1 in
    (take gap body ++ (part_text ref.form o ++ more.0), (take gap body, more.0, drop gap body, refl, sym (take-append-drop gap body), omega (arith, front, here.0), text.0, more.1))

pub whole_of : (body : List ℕ) (whole : ℕ) (refs : List ExtRef) (octets : List (List ℕ)) → length refs ≡ length octets → join_error body whole refs octets ≡ None → (text : List ℕ) × IsWhole text body refs octets × (length text ≡ whole)
whole_of body whole refs octets one e =
    let j = joins_of body whole refs octets e in
    let w = whole_from 0 (length body) body refs octets one (omega arith) j.ranges j.texts in
    (w.0, w.1, whole_size 0 w.0 body refs octets w.1 ∙ sym j.size)

-- ---- its instances

bad_some : (before room : ℕ) (ref : ExtRef) (refs : List ExtRef) → is_bad before room ref ≡ true → first_bad before room (ref ∷ refs) ≡ Some 0
unfolding first_bad
bad_some before room ref refs t = rw t refl

count_few : (before room : ℕ) (ref : ExtRef) (refs : List ExtRef) → first_bad before room (ref ∷ refs) ≡ None → ref.count ≤ 4294967295
count_few before room ref refs e = by_test (is_bad before room ref) refl
  where
    by_test : (b : Bool) → is_bad before room ref ≡ b → ref.count ≤ 4294967295
    by_test true t = absurd (let h = bad_some before room ref refs t in let w : Some 0 ≡ None = sym h ∙ e in cc w)
    by_test false t = let g = good before room ref t in let h = g.2 in omega (arith, h)

abbrev pub row_found : InstanceFound → InstRow
row_found i = i.row

-- each instance is there as its reference names it
abbrev pub AreRows : List ExtRef → List InstanceFound → Type 0
AreRows [] [] = Unit {0}
AreRows (ref ∷ refs) (i ∷ found) = (i.row ≡ record { hash = ref.hash; id = ref.id; size = length i.octets }) × AreRows refs found
AreRows [] (i ∷ found) = ⊥
AreRows (ref ∷ refs) [] = ⊥

pub rows_are : (before room : ℕ) (refs : List ExtRef) (found : List InstanceFound) → AreRows refs found → All (λ ref. IfSome ref.form IsForm) refs → first_bad before room refs ≡ None → first_differs refs (map (λ i. i.octets) found) ≡ None
    → sized_rows refs (map (λ i. length i.octets) found) ≡ map (λ i. i.row) found
rows_are before room [] [] are forms ranges texts = refl
rows_are before room [] (i ∷ found) are forms ranges texts = absurd are
rows_are before room (ref ∷ refs) [] are forms ranges texts = absurd are
rows_are before room (ref ∷ refs) (i ∷ found) are forms ranges texts =
    let text = same_first ref refs i.octets (map (λ (j : InstanceFound). j.octets) found) texts in
    let few = count_few before room ref refs ranges in
    let long = part_long ref.form i.octets (All-head (λ (r : ExtRef). IfSome r.form IsForm) ref refs forms) in
    let fits : min (length i.octets) 4294967295 ≡ length i.octets = let a = text.0 in omega (arith, a, few, long) in
    ap (λ (n : ℕ). record { hash = ref.hash; id = ref.id; size = n } ∷ sized_rows refs (map (λ (j : InstanceFound). length j.octets) found)) fits
    ∙ (ap (λ (r : InstRow). r ∷ sized_rows refs (map (λ (j : InstanceFound). length j.octets) found)) (sym are.0)
    ∙ ap (λ (rs : List InstRow). i.row ∷ rs) (rows_are (ref.start + ref.count) (room + ref.count) refs found are.1 (All-tail (λ (r : ExtRef). IfSome r.form IsForm) ref refs forms) (good_first before room ref refs ranges).2 text.1))
