-- Which files are barred.
use Rattle.std.proofs.Common.{◌≡◌, ◌≢◌, ◌<◌, ◌≤◌, ◌+◌, ◌==◌, ◌&&◌, ◌||◌, ℕ, Bool, true, false, nat_le, List, [], ◌∷◌, ◌++◌, length, map, take, drop, set, get_or, slice_get, Option, Some, All, AllPairs, if◌then◌else◌, refl, sym, ◌∙◌, ap, subst, arith}
use Rattle.std.specs.List.{list_any}
use Rattle.std.specs.Option.{option_map}
use Rattle.std.proofs.lemmas.Bool.{cond-true, cond-false, eq-eqb, ne_eqb}
use Rattle.std.proofs.lemmas.Grind.{common_steps}
use Rattle.std.proofs.Math.Seq.{take-append_seam}
use Rattle.std.proofs.lemmas.List.{set-get_or}
use Rattle.std.proofs.lemmas.List.Folds.{list_any-append}
use Rattle.std.proofs.lemmas.Option.{get_or_from_slice_get}
use Rattle.model_octets.proofs.PairLemmas.{pairs_map}
use Rattle.mdbox_base.specs.declared.ids.FileNo.{FileNo}
use Rattle.map_index.specs.Shown.{shown_record}
use Rattle.map_index.specs.Shown.{MapRow}
use Rattle.model_meaning.specs.MapMeaning.{MapRecord, is_own, number_at}
use Rattle.storage_files.specs.declared.file.FileState.{FileState}
use Rattle.store_files.specs.Barred.{names_past, barred_by}
use Rattle.store_files.proofs.PlaceLemmas.{seen_next, map_fixed, set_is_map}

abbrev Rise : List FileState → Type 0
Rise states = AllPairs (λ a b. a.file.0 < b.file.0) states

abbrev pub number_key : FileState → ℕ
number_key s = s.file.0

abbrev pub bar : FileState → FileState
bar s = record s { barred = true }

-- ---- one GUID

first_fails : (a b c : Bool) → a ≡ false → (a && b && c) ≡ false
first_fails false b c e = refl
first_fails true b c e = absurd (cc e)

second_fails : (a b c : Bool) → b ≡ false → (a && b && c) ≡ false
second_fails false b c e = refl
second_fails true false c e = refl
second_fails true true c e = absurd (cc e)

third_fails : (a b c : Bool) → c ≡ false → (a && b && c) ≡ false
third_fails false b c e = refl
third_fails true false c e = refl
third_fails true true false e = refl
third_fails true true true e = absurd (cc e)

all_pass : (a b c : Bool) → a ≡ true → b ≡ true → c ≡ true → (a && b && c) ≡ true
all_pass a b c e f g = rw (e, f, g) refl

unbarred : (store guid : List ℕ) (s : FileState) → names_past store s.file.0 s.end guid ≡ false → barred_by store guid s ≡ s
unbarred store guid s e = cond-false (names_past store s.file.0 s.end guid) (bar s) s e

-- a GUID of another store bars none
pub bars_none : (store guid : List ℕ) (states : List FileState) → is_own store guid ≡ false → states ≡ map (barred_by store guid) states
bars_none store guid states other =
    sym (map_fixed (barred_by store guid) states (λ k d lt. unbarred store guid (get_or states k d) (first_fails (is_own store guid) (number_at 8 guid == (get_or states k d).file.0) (nat_le (get_or states k d).end (number_at 12 guid)) other)))

other_number : (store guid : List ℕ) (s : FileState) → s.file.0 ≢ number_at 8 guid → barred_by store guid s ≡ s
other_number store guid s apart =
    unbarred store guid s (second_fails (is_own store guid) (number_at 8 guid == s.file.0) (nat_le s.end (number_at 12 guid)) (ne_eqb (number_at 8 guid) s.file.0 (λ e. apart (sym e))))

-- nor does one whose file isn't there
pub bars_absent : (store guid : List ℕ) (states : List FileState) → All (λ s. s.file.0 ≢ number_at 8 guid) states → states ≡ map (barred_by store guid) states
bars_absent store guid states none = sym (map_fixed (barred_by store guid) states (λ k d lt. other_number store guid (get_or states k d) (none k d lt)))

set_barred : (store guid : List ℕ) (states : List FileState) (at : ℕ) (s : FileState) → Rise states → slice_get states at ≡ Some s → s.file.0 ≡ number_at 8 guid → set states at (barred_by store guid s) ≡ map (barred_by store guid) states
set_barred store guid states at s rise e same =
    set_is_map (barred_by store guid) (λ t. t.file.0) states at s rise e (λ t apart. other_number store guid t (λ is. apart (is ∙ sym same)))

le_true : (a b : ℕ) → a ≤ b → nat_le a b ≡ true
le_true a b h = grind (arith, common_steps, h)

le_false : (a b : ℕ) → b < a → nat_le a b ≡ false
le_false a b h = grind (arith, common_steps, h)

-- the file that it names, at its end or past it
pub bars_one : (store guid : List ℕ) (states : List FileState) (at offset : ℕ) (s d : FileState) → Rise states → slice_get states at ≡ Some s → s.file.0 ≡ number_at 8 guid → is_own store guid ≡ true → offset ≡ number_at 12 guid → (get_or states at d).end ≤ offset
    → set states at (bar (get_or states at d)) ≡ map (barred_by store guid) states
bars_one store guid states at offset s d rise e same own is past =
    let got : get_or states at d ≡ s = get_or_from_slice_get states at s d e in
    let le : s.end ≤ number_at 12 guid = subst (λ (n : ℕ). s.end ≤ n) is (subst (λ (t : FileState). t.end ≤ offset) got past) in
    let passes : names_past store s.file.0 s.end guid ≡ true =
    all_pass (is_own store guid) (number_at 8 guid == s.file.0) (nat_le s.end (number_at 12 guid)) own (eq-eqb (number_at 8 guid) s.file.0 (sym same)) (le_true s.end (number_at 12 guid) le) in
    ap (λ (t : FileState). set states at (bar t)) got ∙ ap (set states at) (sym (cond-true (names_past store s.file.0 s.end guid) (bar s) s passes)) ∙ set_barred store guid states at s rise e same

-- and below its end
pub bars_no_end : (store guid : List ℕ) (states : List FileState) (at offset : ℕ) (s d : FileState) → Rise states → slice_get states at ≡ Some s → s.file.0 ≡ number_at 8 guid → offset ≡ number_at 12 guid → offset < (get_or states at d).end
    → states ≡ map (barred_by store guid) states
bars_no_end store guid states at offset s d rise e same is below =
    let got : get_or states at d ≡ s = get_or_from_slice_get states at s d e in
    let lt : number_at 12 guid < s.end = subst (λ (n : ℕ). n < s.end) is (subst (λ (t : FileState). offset < t.end) got below) in
    let stays : barred_by store guid s ≡ s = unbarred store guid s (third_fails (is_own store guid) (number_at 8 guid == s.file.0) (nat_le s.end (number_at 12 guid)) (le_false s.end (number_at 12 guid) lt)) in
    sym (set-get_or states at d) ∙ ap (set states at) (got ∙ sym stays) ∙ set_barred store guid states at s rise e same

-- ---- the GUIDs of records

-- a file, barred if the GUID of one of these records bars it
abbrev pub barred_among : List ℕ → List MapRecord → FileState → FileState
barred_among store rows s = if list_any (λ row. names_past store s.file.0 s.end row.guid) rows then bar s else s

number_kept : (b : Bool) (s : FileState) → (if b then bar s else s).file ≡ s.file
number_kept true s = refl
number_kept false s = refl

end_kept : (b : Bool) (s : FileState) → (if b then bar s else s).end ≡ s.end
end_kept true s = refl
end_kept false s = refl

bar_twice : (a b : Bool) (s : FileState) → (if b then bar (if a then bar s else s) else (if a then bar s else s)) ≡ (if a || (b || false) then bar s else s)
bar_twice true true s = refl
bar_twice true false s = refl
bar_twice false true s = refl
bar_twice false false s = refl

-- one GUID more
bar_more : (store : List ℕ) (rows : List MapRecord) (row : MapRecord) (s : FileState) → barred_by store row.guid (barred_among store rows s) ≡ barred_among store (rows ++ row ∷ []) s
bar_more store rows row s =
    let test : MapRecord → Bool = λ r. names_past store s.file.0 s.end r.guid in
    let a : Bool = list_any test rows in
    let t : FileState = if a then bar s else s in
    let number : t.file.0 ≡ s.file.0 = ap (λ (f : FileNo). f.0) (number_kept a s) in
    let asked : names_past store t.file.0 t.end row.guid ≡ test row = ap (λ (n : ℕ). names_past store n t.end row.guid) number ∙ ap (λ (n : ℕ). names_past store s.file.0 n row.guid) (end_kept a s) in
    ap (λ (b : Bool). if b then bar t else t) asked ∙ bar_twice a (test row) s ∙ ap (λ (b : Bool). if b then bar s else s) (sym (list_any-append test rows (row ∷ [])))

map_twice : {X : Type 0} → (f g h : X → X) → ((x : X) → f (g x) ≡ h x) → (xs : List X) → map f (map g xs) ≡ map h xs
map_twice f g h same [] = refl
map_twice f g h same (x ∷ xs) = ap (λ (y : _). y ∷ map f (map g xs)) (same x) ∙ ap (λ (ys : List _). h x ∷ ys) (map_twice f g h same xs)

-- one record more
pub bar_next : (store id : List ℕ) (records : List MapRecord) (place : ℕ) (o : Option MapRow) (row : MapRow) (first states more : List FileState) → store ≡ id → o ≡ option_map shown_record (slice_get records place) → o ≡ Some row
    → states ≡ map (barred_among store (take place records)) first → more ≡ map (barred_by id row.guid.0) states → more ≡ map (barred_among store (take (place + 1) records)) first
bar_next store id records place o row first states more same look is before step =
    let b = seen_next shown_record records place o row look is in
    let guid : row.guid.0 ≡ b.0.guid = ap (λ (r : MapRow). r.guid.0) b.1 in
    step ∙ ap (λ (k : List ℕ). map (barred_by k row.guid.0) states) (sym same) ∙ ap (λ (g : List ℕ). map (barred_by store g) states) guid
    ∙ ap (map (barred_by store b.0.guid)) before
    ∙ map_twice (barred_by store b.0.guid) (barred_among store (take place records)) (barred_among store (take place records ++ b.0 ∷ [])) (bar_more store (take place records) b.0) first
    ∙ ap (λ (rows : List MapRecord). map (barred_among store rows) first) (sym b.2)

-- none yet
pub bar_none : (store : List ℕ) (records : List MapRecord) (first : List FileState) → first ≡ map (barred_among store (take 0 records)) first
bar_none store [] first = sym (map_fixed (barred_among store []) first (λ k d lt. refl))
bar_none store (r ∷ rs) first = sym (map_fixed (barred_among store []) first (λ k d lt. refl))

-- files that are barred are in order still
pub bar_rises : (store : List ℕ) (rows : List MapRecord) (first states : List FileState) → states ≡ map (barred_among store rows) first → Rise first → Rise states
bar_rises store rows first states is rise =
    subst Rise (sym is) (pairs_map (λ a b. a.file.0 < b.file.0) (λ a b. a.file.0 < b.file.0) (barred_among store rows)
    (λ a b less.
    let x : (barred_among store rows a).file.0 ≡ a.file.0 = ap (λ (f : FileNo). f.0) (number_kept (list_any (λ row. names_past store a.file.0 a.end row.guid) rows) a) in
    let y : (barred_among store rows b).file.0 ≡ b.file.0 = ap (λ (f : FileNo). f.0) (number_kept (list_any (λ row. names_past store b.file.0 b.end row.guid) rows) b) in
    omega (arith, x, y, less)) first rise)

-- a list that was lent and written back
pub lent_back : (items lent new : List FileState) (len : ℕ) (f : FileState → FileState) → length new ≡ len → lent ≡ items → new ≡ map f lent → take len (new ++ drop (length new) items) ≡ map f items
lent_back items lent new len f long same is =
    subst (λ (k : ℕ). take k (new ++ drop (length new) items) ≡ map f items) long (take-append_seam new (drop (length new) items) ∙ is ∙ ap (map f) same)
