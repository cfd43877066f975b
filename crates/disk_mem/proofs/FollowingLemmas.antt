-- A file after notes, one by one, and where it was last settled.
use Rattle.std.proofs.Common.{◌≡◌, inl, inr, ℕ, ◌+◌, ◌-◌, ◌<◌, ◌≤◌, Bool, true, false, ◌||◌, ◌&&◌, cond, List, [], ◌∷◌, ◌++◌, length, take, drop, get_or, Option, Some, None, Result, Ok, Err, IfOk, refl, sym, ◌∙◌, ap, subst, arith, length-append, min, ◌^◌, nat_le, nat_lt, slice_index}
use Rattle.std.proofs.lemmas.Bool.{cases_Bool, cond-true, cond-false, false≢true, true≢false, not-true, not-false}
use Rattle.std.proofs.lemmas.List.{take_more, take-append-le, take_all, drop_all, drop-append-le}
use Rattle.disk_model.specs.Disk.{FileState, named, no_file, still, reading, covers}
use Rattle.disk_model.specs.Name.{same_name}
use Rattle.disk_model.specs.declared.name.FileName.{FileName}
use Rattle.std.proofs.lemmas.Bool.Decides.{nat_tests}
use Rattle.disk_mem.specs.declared.file.File.{File}
use Rattle.disk_mem.specs.declared.marks.Marks.{Marks}
use Rattle.disk_mem.specs.declared.note.Note.{Note}
use Rattle.disk_mem.specs.declared.note.Change.{Change}
use Rattle.disk_mem.specs.declared.note.Change.TheVariants.{Written, HalfWritten, Synced, NamesSynced}
use Rattle.disk_mem.specs.Record.{at_file, at_rest, changed, file_after, is_for_all, HoldsAs}
use Rattle.disk_mem.specs.Left.{left_octets, left_there, settled_by, settles, shown, touched, touched_by, IsTorn}
use Rattle.disk_mem.specs.Marking.{AreMarks}
use Rattle.disk_mem.proofs.StepLemmas.{at_file-all}

pub if_ok : {T E : Type 0} (r : Result T E) (P Q : T → Type 0) → ((x : T) → P x → Q x) → IfOk r P → IfOk r Q
if_ok (Ok x) P Q f p = f x p
if_ok (Err e) P Q f p = tt

pub file_after-push : (name : FileName) (notes : List Note) (note : Note) (f : FileState) → file_after name (notes ++ note ∷ []) f ≡ at_file name note (file_after name notes f)
file_after-push name [] note f = refl
file_after-push name (first ∷ notes) note f = file_after-push name notes note (at_file name first f)

pub left_octets-push : (name : FileName) (notes : List Note) (note : Note) (f : FileState) (octets : List ℕ)
    → left_octets name (notes ++ note ∷ []) f octets
    ≡ cond (settled_by name note (file_after name notes f)) (at_file name note (file_after name notes f)).octets (left_octets name notes f octets)
left_octets-push name [] note f octets = refl
left_octets-push name (first ∷ notes) note f octets = left_octets-push name notes note (at_file name first f) _

pub left_there-push : (name : FileName) (notes : List Note) (note : Note) (f : FileState) (there : Bool)
    → left_there name (notes ++ note ∷ []) f there
    ≡ cond (is_for_all note.change) (at_file name note (file_after name notes f)).is_there (left_there name notes f there)
left_there-push name [] note f there = refl
left_there-push name (first ∷ notes) note f there = left_there-push name notes note (at_file name first f) _

or-false : (b : Bool) → (b || false) ≡ b
or-false true = refl
or-false false = refl

or-assoc : (a b c : Bool) → ((a || b) || c) ≡ (a || (b || c))
or-assoc true b c = refl
or-assoc false b c = refl

pub touched-push : (name : FileName) (notes : List Note) (note : Note) (i : ℕ)
    → touched name (notes ++ note ∷ []) i ≡ (touched name notes i || (same_name name note.name && touched_by note.change i))
touched-push name [] note i = or-false (same_name name note.name && touched_by note.change i)
touched-push name (first ∷ notes) note i =
    ap (λ rest. (same_name name first.name && touched_by first.change i) || rest) (touched-push name notes note i)
    ∙ sym (or-assoc (same_name name first.name && touched_by first.change i) (touched name notes i) (same_name name note.name && touched_by note.change i))

-- one more note
pub take-next : {X : Type 0} (xs : List X) (i : ℕ) (x : X) → i < length xs → x ≡ get_or xs i x → take (i + 1) xs ≡ take i xs ++ x ∷ []
take-next xs i x below is = take_more xs i x below ∙ ap (λ y. take i xs ++ y ∷ []) (sym is)

pub file_after-next : (name : FileName) (notes : List Note) (i : ℕ) (note : Note) (f : FileState) → i < length notes → note ≡ get_or notes i note
    → file_after name (take (i + 1) notes) f ≡ at_file name note (file_after name (take i notes) f)
file_after-next name notes i note f below is =
    ap (λ front. file_after name front f) (take-next notes i note below is) ∙ file_after-push name (take i notes) note f

-- one change of the file, or of another
abbrev pub moved : Change → Bool → FileState → FileState
moved change own f = cond (is_for_all change || own) (changed change f) f

for_all-there : (change : Change) (f : FileState) → is_for_all change ≡ true → (changed change f).is_there ≡ f.is_there
for_all-there NamesSynced f all = elim (cases_Bool f.is_there) [
  | inl there ↦ ap (λ (g : FileState). g.is_there) (cond-true f.is_there (record f { is_name_loose = false }) no_file there)
  | inr gone ↦ ap (λ (g : FileState). g.is_there) (cond-false f.is_there (record f { is_name_loose = false }) no_file gone) ∙ sym gone
]
for_all-there _ f all = absurd (false≢true all)

-- a file that is settled has no loose octets
settled_firm : (change : Change) (own : Bool) (f : FileState) (i : ℕ) → settles change own f.is_there ≡ true → (moved change own f).is_loose i ≡ false
settled_firm Synced true f i settled = refl
settled_firm Synced false f i settled = absurd (false≢true settled)
settled_firm NamesSynced own f i settled =
    ap (λ (g : FileState). g.is_loose i) (cond-false f.is_there (record f { is_name_loose = false }) no_file (not-true f.is_there settled))
settled_firm _ own f i settled = absurd (false≢true settled)

named-loose : (f : FileState) (i : ℕ) → f.is_there ≡ true → (named f).is_loose i ≡ (f.is_loose i || false)
named-loose f i there =
    ap (λ (g : FileState). g.is_loose i) (cond-true f.is_there (record f { is_name_loose = false }) no_file there) ∙ sym (or-false (f.is_loose i))

-- what a change that doesn't settle it does to its loose octets
loose_step : (change : Change) (own : Bool) (f : FileState) (i : ℕ) → settles change own f.is_there ≡ false
    → (moved change own f).is_loose i ≡ (f.is_loose i || (own && touched_by change i))
loose_step (Written at text) true f i settled = refl
loose_step (Written at text) false f i settled = sym (or-false (f.is_loose i))
loose_step (HalfWritten at n) true f i settled = refl
loose_step (HalfWritten at n) false f i settled = sym (or-false (f.is_loose i))
loose_step Synced true f i settled = absurd (true≢false settled)
loose_step Synced false f i settled = sym (or-false (f.is_loose i))
loose_step NamesSynced true f i settled = named-loose f i (not-false f.is_there settled)
loose_step NamesSynced false f i settled = named-loose f i (not-false f.is_there settled)
loose_step _ true f i settled = sym (or-false (f.is_loose i))
loose_step _ false f i settled = sym (or-false (f.is_loose i))

take-push : {X : Type 0} (xs : List X) (x : X) (n : ℕ) → n ≤ length xs → take n (xs ++ x ∷ []) ≡ take n xs
take-push xs x n below = take-append-le n xs (x ∷ []) below

drop-push : {X : Type 0} (xs : List X) (x : X) (n : ℕ) → n ≤ length xs → drop n (xs ++ x ∷ []) ≡ drop n xs ++ x ∷ []
drop-push xs x n below = drop-append-le n xs (x ∷ []) below

marks_was : (name : FileName) (front : List Note) (note : Note) (f : FileState) (old new : Marks) → AreMarks name front f old
    → new.was_there ≡ cond (is_for_all note.change) old.is_there old.was_there → left_there name (front ++ note ∷ []) f f.is_there ≡ new.was_there
marks_was name front note f old new is was =
    let here = file_after name front f in
    left_there-push name front note f f.is_there
    ∙ (elim (cases_Bool (is_for_all note.change)) [
      | inl all ↦
          cond-true (is_for_all note.change) (at_file name note here).is_there (left_there name front f f.is_there) all
          ∙ ap (λ (g : FileState). g.is_there) (at_file-all name note here all) ∙ for_all-there note.change here all
          ∙ is.there ∙ sym (was ∙ cond-true (is_for_all note.change) old.is_there old.was_there all)
      | inr one ↦
          cond-false (is_for_all note.change) (at_file name note here).is_there (left_there name front f f.is_there) one
          ∙ is.was ∙ sym (was ∙ cond-false (is_for_all note.change) old.is_there old.was_there one)
    ])

-- one more note
pub marks_push : (name : FileName) (front : List Note) (note : Note) (f : FileState) (old new : Marks) → AreMarks name front f old
    → (moved note.change (same_name name note.name) (file_after name front f)).is_there ≡ new.is_there
    → new.was_there ≡ cond (is_for_all note.change) old.is_there old.was_there
    → new.settled ≡ cond (settles note.change (same_name name note.name) old.is_there) (length front + 1) old.settled
    → AreMarks name (front ++ note ∷ []) f new
marks_push name front note f old new is there was settled =
    let here = file_after name front f in
    let own = same_name name note.name in
    let push = file_after-push name front note f in
    let by : settled_by name note here ≡ settles note.change own old.is_there = ap (settles note.change own) is.there in
    let long : length (front ++ note ∷ []) ≡ length front + 1 = length-append front (note ∷ []) in
    elim (cases_Bool (settled_by name note here)) [
      | inl settles_it ↦
          let count : new.settled ≡ length front + 1 = settled ∙ cond-true _ (length front + 1) old.settled (sym by ∙ settles_it) in
          record {
            there = ap (λ (g : FileState). g.is_there) push ∙ there;
            was = marks_was name front note f old new is was;
            within = omega (arith, count, long);
            octets = left_octets-push name front note f f.octets
                ∙ cond-true (settled_by name note here) (at_file name note here).octets (left_octets name front f f.octets) settles_it
                ∙ ap (λ (g : FileState). g.octets) (sym push)
                ∙ ap (λ notes. (file_after name notes f).octets) (sym (take_all new.settled (front ++ note ∷ []) (omega (arith, count, long))));
            loose = λ i. ap (λ (g : FileState). g.is_loose i) push ∙ settled_firm note.change own here i settles_it
                ∙ ap (λ notes. touched name notes i) (sym (drop_all new.settled (front ++ note ∷ []) (omega (arith, count, long))));
          }
      | inr other ↦
          let count : new.settled ≡ old.settled = settled ∙ cond-false _ (length front + 1) old.settled (sym by ∙ other) in
          let within : old.settled ≤ length front = is.within in
          record {
            there = ap (λ (g : FileState). g.is_there) push ∙ there;
            was = marks_was name front note f old new is was;
            within = omega (arith, count, long, within);
            octets = left_octets-push name front note f f.octets
                ∙ cond-false (settled_by name note here) (at_file name note here).octets (left_octets name front f f.octets) other
                ∙ is.octets
                ∙ ap (λ notes. (file_after name notes f).octets) (sym (take-push front note old.settled within) ∙ ap (λ n. take n (front ++ note ∷ [])) (sym count));
            loose = λ i. ap (λ (g : FileState). g.is_loose i) push ∙ loose_step note.change own here i other
                ∙ ap (λ b. b || (own && touched_by note.change i)) (is.loose i)
                ∙ sym (touched-push name (drop old.settled front) note i)
                ∙ ap (λ notes. touched name notes i) (sym (drop-push front note old.settled within) ∙ ap (λ n. drop n (front ++ note ∷ [])) (sym count));
          }
    ]

-- a range within a text
pub covers-clip : (at count long start end i : ℕ) → i < long → long < 2 ^ 64 → end ≡ min (min (at + count) (2 ^ 64 - 1)) long → start ≡ min at end
    → covers at count i ≡ (nat_le start i && nat_lt i end)
covers-clip at count long start end i below short e s = grind (arith, nat_tests)

-- a file as it stands still has no loose octets
pub rest_firm : (file : Option File) (i : ℕ) → (at_rest file).is_loose i ≡ false
rest_firm None i = refl
rest_firm (Some file) i = elim (cases_Bool file.is_there) [
  | inl there ↦ ap (λ (g : FileState). g.is_loose i) (cond-true file.is_there (still file.text.octets.items) no_file there)
  | inr gone ↦ ap (λ (g : FileState). g.is_loose i) (cond-false file.is_there (still file.text.octets.items) no_file gone)
]

-- a file that shows a state holds what it reads
pub shown-reads : (file : File) (f : FileState) → HoldsAs file f → shown file ≡ reading f
shown-reads file f shows = ap (λ there. cond there (Some file.text.octets.items) None) (sym shows.0) ∙ ap (λ octets. cond f.is_there (Some octets) None) (sym shows.1)

-- a file's text that a choice of `Torn` leaves
pub torn_file : (octet : ℕ) (file : File) (f : FileState) (text : List ℕ) → file.text.octets.items ≡ text → f.is_there ≡ file.is_there → length text ≡ length f.octets
    → ((i : ℕ) → i < length f.octets → slice_index text i ≡ cond (f.is_loose i) octet (slice_index f.octets i)) → IsTorn octet f (shown file)
torn_file octet file f text is there long each = elim (cases_Bool file.is_there) [
  | inl here ↦
      let e : shown file ≡ Some text = cond-true file.is_there (Some file.text.octets.items) None here ∙ ap Some is in
      let F : Option (List ℕ) → Type 0 = IsTorn octet f in
      subst F (sym e) (there ∙ here, long, each)
  | inr gone ↦
      let e : shown file ≡ None = cond-false file.is_there (Some file.text.octets.items) None gone in
      let F : Option (List ℕ) → Type 0 = IsTorn octet f in
      subst F (sym e) (there ∙ gone)
]
