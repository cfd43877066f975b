-- Numbers of records of which some are left out: those that stay move forward, one by one.
use Rattle.store_core.proofs.Common.{◌≡◌, ◌<◌, ◌≤◌, ◌+◌, ℕ, Bool, true, false, List, [], ◌∷◌, ◌++◌, length, take, drop, get_or, Option, Some, refl, sym, ◌∙◌, ap, arith, not, list_any, option_map, option_map_or, cond-true, cond-false, slice_get-get_or, MapUid, MapRecord, has_map_uid}
use Rattle.std.specs.Prelude.{◌==◌, slice_get, slice_set, slice_index_or}
use Rattle.std.proofs.Math.Seq.{drop-length}
use Rattle.std.proofs.lemmas.List.{append_assoc, append-nil, drop_more, drop-set-lt, length-set, take_more_set}
use Rattle.map_index.proofs.ShownLemmas.{shown_behind}
use Rattle.map_index.specs.Shown.{MapRow, shown_record}
use Rattle.store_core.specs.Switching.{dues_without}

-- The numbers of records before a place, but those that are left out, stand in front; from the place on all are as they were.
pub record IsLeftOut (us : List MapUid) (rows : List MapRecord) (old now : List ℕ) (kept place : ℕ) : Type 0 where
  pub bound : kept ≤ place
  pub size : length now ≡ length old
  pub unread : drop place now ≡ drop place old
  pub left : take kept now ++ dues_without us (drop place rows) (drop place old) ≡ dues_without us rows old

pub left_begins : (us : List MapUid) (rows : List MapRecord) (old : List ℕ) → IsLeftOut us rows old old 0 0
left_begins us rows old = record { bound = omega arith; size = refl; unread = refl; left = refl }

-- ---- a place further

-- what stands there
at_place : {X : Type 0} → (xs : List X) (place : ℕ) → place < length xs → (x : X) × (slice_get xs place ≡ Some x) × (drop place xs ≡ x ∷ drop (place + 1) xs)
at_place [] place lt = absurd (omega (arith, lt))
at_place (x ∷ xs) place lt = (get_or (x ∷ xs) place x, slice_get-get_or (x ∷ xs) place x lt, drop_more (x ∷ xs) place x lt)

tails : {X : Type 0} → (a b : X) (xs ys : List X) → a ∷ xs ≡ b ∷ ys → xs ≡ ys
tails a b xs ys e = cc e

unread_on : (old now : List ℕ) (place : ℕ) → place < length now → length now ≡ length old → drop place now ≡ drop place old → drop (place + 1) now ≡ drop (place + 1) old
unread_on old now place lt size same =
    let a = at_place now place lt in
    let b = at_place old place (omega (arith, lt, size)) in
    tails a.0 b.0 (drop (place + 1) now) (drop (place + 1) old) (sym a.2 ∙ same ∙ b.2)

shown_as : (row : MapRow) (rows : List MapRecord) (place : ℕ) (us : List MapUid) → Some row ≡ option_map shown_record (slice_get rows place) → option_map_or (λ r. has_map_uid r.uid us) (slice_get rows place) false ≡ has_map_uid row.uid.0 us
shown_as row rows place us is =
    let b = shown_behind (slice_get rows place) row is in
    ap (λ (o : Option MapRecord). option_map_or (λ (r : MapRecord). has_map_uid r.uid us) o false) b.1 ∙ ap (λ (r : MapRow). has_map_uid r.uid.0 us) (sym b.2)

-- whether the record at a place is left out, by its row
pub drops_as : (row : MapRow) (rows : List MapRecord) (place : ℕ) (us : List MapUid) (is : Bool) → Some row ≡ option_map shown_record (slice_get rows place) → is ≡ list_any (λ u. u.0 == row.uid.0) us → is ≡ option_map_or (λ r. has_map_uid r.uid us) (slice_get rows place) false
drops_as row rows place us is found any = any ∙ sym (shown_as row rows place us found)

pub left_gone : (us : List MapUid) (rows : List MapRecord) (old now : List ℕ) (kept place : ℕ) → place < length rows → length old ≡ length rows → true ≡ option_map_or (λ row. has_map_uid row.uid us) (slice_get rows place) false
    → IsLeftOut us rows old now kept place → IsLeftOut us rows old now kept (place + 1)
left_gone us rows old now kept place lt size gone l =
    let bound = l.bound in
    let long = l.size in
    let row = at_place rows place lt in
    let n = at_place old place (omega (arith, lt, size)) in
    let is : has_map_uid row.0.uid us ≡ true = sym (gone ∙ ap (λ (o : Option MapRecord). option_map_or (λ (r : MapRecord). has_map_uid r.uid us) o false) row.1) in
    let rest : List ℕ = dues_without us (drop (place + 1) rows) (drop (place + 1) old) in
    let here : dues_without us (drop place rows) (drop place old) ≡ rest =
    ap (λ (rs : List MapRecord). dues_without us rs (drop place old)) row.2 ∙ ap (dues_without us (row.0 ∷ drop (place + 1) rows)) n.2 ∙ cond-false (not (has_map_uid row.0.uid us)) (n.0 ∷ rest) rest (ap not is) in
    record {
      bound = omega (arith, bound);
      size = l.size;
      unread = unread_on old now place (omega (arith, lt, size, long)) l.size l.unread;
      left = ap (λ (ns : List ℕ). take kept now ++ ns) (sym here) ∙ l.left;
    }

pub left_kept : (us : List MapUid) (rows : List MapRecord) (old now : List ℕ) (kept place number : ℕ) → place < length rows → length old ≡ length rows → false ≡ option_map_or (λ row. has_map_uid row.uid us) (slice_get rows place) false
    → number ≡ slice_index_or now place number → IsLeftOut us rows old now kept place → IsLeftOut us rows old (slice_set now kept number) (kept + 1) (place + 1)
left_kept us rows old now kept place number lt size stays read l =
    let bound = l.bound in
    let long = l.size in
    let within : place < length now = omega (arith, lt, size, long) in
    let before : kept < length now = omega (arith, bound, within) in
    let row = at_place rows place lt in
    let n : drop place now ≡ number ∷ drop (place + 1) now = drop_more now place number within ∙ ap (λ (k : ℕ). k ∷ drop (place + 1) now) (sym read) in
    let on : drop (place + 1) now ≡ drop (place + 1) old = unread_on old now place within l.size l.unread in
    let was : drop place old ≡ number ∷ drop (place + 1) old = sym l.unread ∙ n ∙ ap (λ (ns : List ℕ). number ∷ ns) on in
    let is : has_map_uid row.0.uid us ≡ false = sym (stays ∙ ap (λ (o : Option MapRecord). option_map_or (λ (r : MapRecord). has_map_uid r.uid us) o false) row.1) in
    let rest : List ℕ = dues_without us (drop (place + 1) rows) (drop (place + 1) old) in
    let here : dues_without us (drop place rows) (drop place old) ≡ number ∷ rest =
    ap (λ (rs : List MapRecord). dues_without us rs (drop place old)) row.2 ∙ ap (dues_without us (row.0 ∷ drop (place + 1) rows)) was ∙ cond-true (not (has_map_uid row.0.uid us)) (number ∷ rest) rest (ap not is) in
    record {
      bound = omega (arith, bound);
      size = length-set now kept number ∙ l.size;
      unread = drop-set-lt (place + 1) now kept number (omega (arith, bound)) ∙ on;
      left = ap (λ (ns : List ℕ). ns ++ rest) (take_more_set now kept number before) ∙ append_assoc (take kept now) (number ∷ []) rest ∙ ap (λ (ns : List ℕ). take kept now ++ ns) (sym here) ∙ l.left;
    }

-- ---- all places

pub left_ends : (us : List MapUid) (rows : List MapRecord) (old now : List ℕ) (kept place : ℕ) → place ≡ length rows → IsLeftOut us rows old now kept place → take kept now ≡ dues_without us rows old
left_ends us rows old now kept place all l =
    let none : drop place rows ≡ [] = ap (λ (p : ℕ). drop p rows) all ∙ drop-length rows in
    sym (append-nil (take kept now)) ∙ ap (λ (rs : List MapRecord). take kept now ++ dues_without us rs (drop place old)) (sym none) ∙ l.left
