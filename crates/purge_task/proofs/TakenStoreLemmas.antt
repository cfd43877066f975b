-- What a purge has behind its first event: the sources with their targets, ready to begin, in a store of which nothing else has changed.
use Rattle.purge_task.proofs.Common.{◌≡◌, ◌≢◌, ◌≤◌, ◌+◌, ◌*◌, ◌&&◌, ◌||◌, ℕ, Bool, true, false, cond, List, [], ◌∷◌, ◌++◌, length, map, fold, Option, Some, None, refl, sym, ◌∙◌, ap, subst, arith, All, inl, inr, count_by, max, nat_lt, if◌then◌else◌, AllZip, list_any, option_and_then, option_map}
use Rattle.purge_task.proofs.Common.{option_map_or, cases_eq, eq-eqb, nat_tests, All-cons, All-filter, All-head, All-nil, All-tail, All-weaker, sum_by-cons, TakenFile, is_copied_from, target_length, with_targets, targets_of, FileNo, MapMeaning, MapRecord, greatest, MailFile, changed_in, file_begun}
use Rattle.purge_task.proofs.Common.{file_in, is_emptied_in, to_empty, file-here, file-other, StoreValue, IsFoundFile, found_numbers, messages_in, IsTargetToMake, IsToBegin, IsUnwanted, IsNewSource, told_taken, source_taken, take_all, taken_to_empty, target_drawn, targets_given, with_target}
use Rattle.purge_task.proofs.Common.{FoundFile, Source, Work}
use Rattle.std.specs.Prelude.{IfSome}
use Rattle.purge_task.specs.Reserved.{HasListRoom}
use Rattle.purge_task.proofs.FirstLemmas.{IsBegunOf}
use Rattle.purge_task.proofs.SameSeenLemmas.{bars, is_before, uses}
use Rattle.purge_task.proofs.TakeableLemmas.{zip_all}
use Rattle.purge_task.proofs.TakenClaimLemmas.{fresh_none, nothing_there}
use Rattle.purge_task.proofs.TakenLemmas.{highest_step}
use Rattle.purge_task.proofs.TakenStateLemmas.{IsDrawnFor, TargetIsDrawn, below_changed, below_step, file_same, found_before, found_last}

-- ---- files that are as they were, but for being taken

keeps_emptying : {Y : Type 0} → (value : Option MailFile → Y) (n m : ℕ) (files : List MailFile) → ((f : MailFile) → value (Some (to_empty f)) ≡ value (Some f)) → value (file_in m (changed_in n to_empty files)) ≡ value (file_in m files)
keeps_emptying value n m files same = elim (cases_eq m n) [
  | inl is ↦ subst (λ (k : ℕ). value (file_in k (changed_in n to_empty files)) ≡ value (file_in k files)) (sym is) (ap value (file-here n to_empty files (λ f. refl)) ∙ mapped (file_in n files))
  | inr other ↦ ap value (file-other n m to_empty files (λ f. refl) other)
]
  where
    mapped : (o : Option MailFile) → value (option_map to_empty o) ≡ value o
    mapped None = refl
    mapped (Some f) = same f

keeps_beginning : {Y : Type 0} → (value : Option MailFile → Y) (m n : ℕ) (files : List MailFile) → All (λ f. f.file.0 ≢ n) files → value (Some (file_begun (record { 0 = n }))) ≡ value None → value (file_in m (files ++ file_begun (record { 0 = n }) ∷ [])) ≡ value (file_in m files)
keeps_beginning value m n files none same = elim (cases_eq n m) [
  | inl is ↦ ap value (found_last m files (file_begun (record { 0 = n })) is (subst (λ (k : ℕ). All (λ f. f.file.0 ≢ k) files) is none)) ∙ (same ∙ sym (ap value (nothing_there m files (subst (λ (k : ℕ). All (λ f. f.file.0 ≢ k) files) is none))))
  | inr other ↦ ap value (found_before m files (file_begun (record { 0 = n })) other)
]

abbrev Fresh : {D : Type 0} → StoreValue D → Type 0
Fresh v = All (λ f. f.file.0 ≤ v.files.highest) v.files.files

begun_one : {D : Type 0} → (v : StoreValue D) (n : ℕ) (b : Bool) → Fresh v → IsBegunOf v.files.highest v.files.files (cond b (target_drawn (taken_to_empty n v)) (taken_to_empty n v)).files.files
begun_one v n true fresh =
    let emptied = changed_in n to_empty v.files.files in
    let none = fresh_none 0 v.files.highest emptied (below_changed n v.files.highest v.files.files fresh) in
    record {
      pins = λ m. keeps_beginning (λ (o : Option MailFile). option_map_or (λ f. f.pins) o 0) m (v.files.highest + 1) emptied none refl ∙ keeps_emptying (λ (o : Option MailFile). option_map_or (λ f. f.pins) o 0) n m v.files.files (λ f. refl);
      doomed = λ m. keeps_beginning (λ (o : Option MailFile). option_map_or (λ f. f.doomed) o false) m (v.files.highest + 1) emptied none refl ∙ keeps_emptying (λ (o : Option MailFile). option_map_or (λ f. f.doomed) o false) n m v.files.files (λ f. refl);
      ended = λ m. keeps_beginning (λ (o : Option MailFile). option_and_then (λ f. f.end) o) m (v.files.highest + 1) emptied none refl ∙ keeps_emptying (λ (o : Option MailFile). option_and_then (λ f. f.end) o) n m v.files.files (λ f. refl);
      used = λ m le. ap uses (found_before m emptied (file_begun (record { 0 = v.files.highest + 1 })) (λ e. omega (arith, e, le))) ∙ keeps_emptying uses n m v.files.files (λ f. refl);
      barred = λ m le. ap bars (found_before m emptied (file_begun (record { 0 = v.files.highest + 1 })) (λ e. omega (arith, e, le))) ∙ keeps_emptying bars n m v.files.files (λ f. refl);
      before = λ m offset le. ap (is_before offset) (found_before m emptied (file_begun (record { 0 = v.files.highest + 1 })) (λ e. omega (arith, e, le))) ∙ keeps_emptying (is_before offset) n m v.files.files (λ f. refl);
    }
begun_one v n false fresh = record {
  pins = λ m. keeps_emptying (λ (o : Option MailFile). option_map_or (λ f. f.pins) o 0) n m v.files.files (λ f. refl);
  doomed = λ m. keeps_emptying (λ (o : Option MailFile). option_map_or (λ f. f.doomed) o false) n m v.files.files (λ f. refl);
  ended = λ m. keeps_emptying (λ (o : Option MailFile). option_and_then (λ f. f.end) o) n m v.files.files (λ f. refl);
  used = λ m le. keeps_emptying uses n m v.files.files (λ f. refl);
  barred = λ m le. keeps_emptying bars n m v.files.files (λ f. refl);
  before = λ m offset le. keeps_emptying (is_before offset) n m v.files.files (λ f. refl);
}

begun_then : (d e : ℕ) (x y z : List MailFile) → d ≤ e → IsBegunOf d x y → IsBegunOf e y z → IsBegunOf d x z
begun_then d e x y z le a b = record {
  pins = λ m. b.pins m ∙ a.pins m;
  doomed = λ m. b.doomed m ∙ a.doomed m;
  ended = λ m. b.ended m ∙ a.ended m;
  used = λ m l. b.used m (omega (arith, l, le)) ∙ a.used m l;
  barred = λ m l. b.barred m (omega (arith, l, le)) ∙ a.barred m l;
  before = λ m offset l. b.before m offset (omega (arith, l, le)) ∙ a.before m offset l;
}

pub begun_all : {D : Type 0} → (sources : List Source) (v : StoreValue D) → Fresh v → IsBegunOf v.files.highest v.files.files (take_all sources v).files.files
begun_all [] v fresh = record { pins = λ m. refl; doomed = λ m. refl; ended = λ m. refl; used = λ m l. refl; barred = λ m l. refl; before = λ m offset l. refl }
begun_all (s ∷ rest) v fresh =
    let up = highest_step v s s.is_wanted in
    begun_then v.files.highest (source_taken v s).files.highest v.files.files (source_taken v s).files.files (take_all (s ∷ rest) v).files.files (omega (arith, up)) (begun_one v s.file.0 s.is_wanted fresh) (begun_all rest (source_taken v s) (below_step v s s.is_wanted fresh))

pub highest_all : {D : Type 0} → (sources : List Source) (v : StoreValue D) → (take_all sources v).files.highest ≡ v.files.highest + count_by (λ s. s.is_wanted) sources
highest_all [] v = omega arith
highest_all (s ∷ rest) v =
    let up = highest_step v s s.is_wanted in
    let more = highest_all rest (source_taken v s) in
    let sum = sum_by-cons (λ (o : Source). cond o.is_wanted 1 0) s rest in
    omega (arith, up, more, sum)

-- ---- the sources

-- what is known of a source that was found, and isn't taken yet
pub record FitsFound (m : MapMeaning) (most : ℕ) (s : Source) : Type 0 where
  pub wanted : s.is_wanted ≡ list_any (is_copied_from s.file.0) m.records
  pub target : s.target ≡ None
  pub copied : s.copied.items ≡ []
  pub dropped : s.dropped.items ≡ []
  pub room : HasListRoom (messages_in m s.file.0) s
  pub few : messages_in m s.file.0 ≤ most
  pub short : target_length m s.file.0 ≤ 4294967294

-- and of it with its target
pub record FitsGiven (m : MapMeaning) (most : ℕ) (s : Source) : Type 0 where
  pub unwanted : s.target ≡ None → IsUnwanted m s.file.0
  pub copied : s.copied.items ≡ []
  pub dropped : s.dropped.items ≡ []
  pub room : HasListRoom (messages_in m s.file.0) s
  pub few : messages_in m s.file.0 ≤ most
  pub short : target_length m s.file.0 ≤ 4294967294

greatest_first : {X : Type 0} → (f : X → ℕ) (start : ℕ) (xs : List X) → (start ≤ fold (λ most x. max most (f x)) start xs) × All (λ x. f x ≤ fold (λ most x. max most (f x)) start xs) xs
greatest_first f start [] = (omega arith, All-nil _)
greatest_first f start (x ∷ xs) =
    let r = greatest_first f (max start (f x)) xs in
    let bigger = max_both start (f x) in
    (let a = r.0 in let b = bigger.0 in omega (arith, a, b), All-cons (λ y. f y ≤ fold (λ most y. max most (f y)) (max start (f x)) xs) x xs (let a = r.0 in let b = bigger.1 in omega (arith, a, b)) r.1)
  where
    max_both : (a b : ℕ) → (a ≤ max a b) × (b ≤ max a b)
    max_both a b = (grind (arith, nat_tests), grind (arith, nat_tests))

abbrev IsCounted : MapMeaning → ℕ → FoundFile → Type 0
IsCounted m most f = IsFoundFile m f × (f.messages ≤ most) × (target_length m f.file.0 ≤ 4294967294)

pub found_fit : (m : MapMeaning) (fs : List FoundFile) (ss : List Source) → AllZip IsNewSource fs ss → All (IsFoundFile m) fs → All (λ f. target_length m f.file.0 ≤ 4294967294) fs → All (FitsFound m (greatest (λ (f : FoundFile). f.messages) fs)) ss
found_fit m fs ss z each short = zip_all (IsCounted m most) (FitsFound m most) fits fs ss z (λ k d lt. (each k d lt, (greatest_first (λ (f : FoundFile). f.messages) 0 fs).1 k d lt, short k d lt))
  where
    most : ℕ
    most = greatest (λ (f : FoundFile). f.messages) fs

    fits : (f : FoundFile) (s : Source) → IsNewSource f s → IsCounted m most f → FitsFound m most s
    fits f s n k =
        let at : f.file.0 ≡ s.file.0 = sym (ap (λ (x : FileNo). x.0) n.file) in
        let messages : f.messages ≡ messages_in m s.file.0 = k.0.messages ∙ ap (messages_in m) at in
        let a = n.room.0 in
        let b = n.room.1 in
        let l = k.1 in
        let short = k.2 in
        let length_is = ap (target_length m) at in
        record {
          wanted = n.wanted ∙ (k.0.wanted ∙ ap (λ (i : ℕ). list_any (is_copied_from i) m.records) at);
          target = n.target;
          copied = n.copied;
          dropped = n.dropped;
          room = (omega (arith, a, messages), omega (arith, b, messages));
          few = omega (arith, l, messages);
          short = omega (arith, short, length_is);
        }

none_wanted : (m : MapMeaning) (file : ℕ) → list_any (is_copied_from file) m.records ≡ false → IsUnwanted m file
none_wanted m file e = each m.records e
  where
    or_false : (a b : Bool) → (a || b) ≡ false → (a ≡ false) × (b ≡ false)
    or_false true b k = absurd (cc k)
    or_false false b k = (refl, k)

    not_copied : (row : MapRecord) → is_copied_from file row ≡ false → row.file ≡ file → row.count ≡ 0
    not_copied row k here = zero row.count (sym (ap (λ (b : Bool). b && nat_lt 0 row.count) (eq-eqb row.file file here)) ∙ k)
      where
        zero : (n : ℕ) → nat_lt 0 n ≡ false → n ≡ 0
        zero n h = grind (arith, nat_tests, h)

    each : (rows : List MapRecord) → list_any (is_copied_from file) rows ≡ false → All (λ row. row.file ≡ file → row.count ≡ 0) rows
    each [] k = All-nil _
    each (row ∷ rows) k = let b = or_false (is_copied_from file row) (list_any (is_copied_from file) rows) k in All-cons (λ (r : MapRecord). r.file ≡ file → r.count ≡ 0) row rows (not_copied row b.0) (each rows b.1)

given_fits : (m : MapMeaning) (most n : ℕ) (s : Source) (b : Bool) → s.is_wanted ≡ b → FitsFound m most s → FitsGiven m most (cond b (record s { target = Some (record { 0 = n + 1 }) }) s)
given_fits m most n s true is h = record { unwanted = λ e. absurd (let k : Some (record { 0 = n + 1 }) ≡ None = e in cc k); copied = h.copied; dropped = h.dropped; room = h.room; few = h.few; short = h.short }
given_fits m most n s false is h = record { unwanted = λ e. none_wanted m s.file.0 (sym h.wanted ∙ is); copied = h.copied; dropped = h.dropped; room = h.room; few = h.few; short = h.short }

pub all_given : (m : MapMeaning) (most n : ℕ) (ss : List Source) → All (FitsFound m most) ss → All (FitsGiven m most) (targets_given n ss)
all_given m most n [] h = All-nil _
all_given m most n (s ∷ rest) h =
    All-cons (FitsGiven m most) (with_target n s) (targets_given (cond s.is_wanted (n + 1) n) rest) (given_fits m most n s s.is_wanted refl (All-head (FitsFound m most) s rest h)) (all_given m most (cond s.is_wanted (n + 1) n) rest (All-tail (FitsFound m most) s rest h))

-- ---- as the event tells them

abbrev taken_all : List Source → List TakenFile
taken_all sources = map told_taken sources

pub numbers_told : (n : ℕ) (fs : List FoundFile) (ss : List Source) → AllZip IsNewSource fs ss → map (λ t. t.file) (taken_all (targets_given n ss)) ≡ found_numbers fs
numbers_told n [] [] z = refl
numbers_told n [] (s ∷ ss) z = elim z [ ]
numbers_told n (f ∷ fs) [] z = elim z [ ]
numbers_told n (f ∷ fs) (s ∷ ss) z =
    let first : (with_target n s).file.0 ≡ f.file.0 = ap (λ (x : FileNo). x.0) (file_same n s s.is_wanted ∙ z.0.file) in
    ap (λ (k : ℕ). k ∷ map (λ (t : TakenFile). t.file) (taken_all (targets_given (cond s.is_wanted (n + 1) n) ss))) first ∙ ap (λ (ks : List ℕ). f.file.0 ∷ ks) (numbers_told (cond s.is_wanted (n + 1) n) fs ss z.1)

targets_step : (m : MapMeaning) (n : ℕ) (s : Source) (b : Bool) (rest : List TakenFile) → list_any (is_copied_from s.file.0) m.records ≡ b → s.target ≡ None → map (λ t. t.target) rest ≡ targets_of m (cond b (n + 1) n) rest
    → map (λ t. t.target) (told_taken (cond b (record s { target = Some (record { 0 = n + 1 }) }) s) ∷ rest) ≡ targets_of m n (told_taken (cond b (record s { target = Some (record { 0 = n + 1 }) }) s) ∷ rest)
targets_step m n s true rest e none same = ap (λ (ks : List ℕ). (n + 1) ∷ ks) same ∙ sym (ap (λ (c : Bool). if c then (n + 1) ∷ targets_of m (n + 1) rest else 0 ∷ targets_of m n rest) e)
targets_step m n s false rest e none same =
    ap (λ (o : Option FileNo). option_map_or (λ t. t.0) o 0 ∷ map (λ (t : TakenFile). t.target) rest) none
    ∙ (ap (λ (ks : List ℕ). 0 ∷ ks) same ∙ sym (ap (λ (c : Bool). if c then (n + 1) ∷ targets_of m (n + 1) rest else 0 ∷ targets_of m n rest) e))

pub targets_told : (m : MapMeaning) (most n : ℕ) (ss : List Source) → All (FitsFound m most) ss → map (λ t. t.target) (taken_all (targets_given n ss)) ≡ targets_of m n (taken_all (targets_given n ss))
targets_told m most n [] h = refl
targets_told m most n (s ∷ rest) h =
    let f = All-head (FitsFound m most) s rest h in
    targets_step m n s s.is_wanted (taken_all (targets_given (cond s.is_wanted (n + 1) n) rest)) (sym f.wanted) f.target (targets_told m most (cond s.is_wanted (n + 1) n) rest (All-tail (FitsFound m most) s rest h))

wanted_step : (m : MapMeaning) (n : ℕ) (s : Source) (b : Bool) (rest : List TakenFile) (count : ℕ) → list_any (is_copied_from s.file.0) m.records ≡ b → count ≡ length (with_targets m rest) → cond b 1 0 + count ≡ length (with_targets m (told_taken (cond b (record s { target = Some (record { 0 = n + 1 }) }) s) ∷ rest))
wanted_step m n s true rest count e same =
    let k : length (with_targets m (told_taken (record s { target = Some (record { 0 = n + 1 }) }) ∷ rest)) ≡ length (told_taken (record s { target = Some (record { 0 = n + 1 }) }) ∷ with_targets m rest) = ap (λ (c : Bool). length (if c then told_taken (record s { target = Some (record { 0 = n + 1 }) }) ∷ with_targets m rest else with_targets m rest)) e in
    omega (arith, k, same)
wanted_step m n s false rest count e same =
    let k : length (with_targets m (told_taken s ∷ rest)) ≡ length (with_targets m rest) = ap (λ (c : Bool). length (if c then told_taken s ∷ with_targets m rest else with_targets m rest)) e in
    omega (arith, k, same)

pub wanted_told : (m : MapMeaning) (most n : ℕ) (ss : List Source) → All (FitsFound m most) ss → count_by (λ s. s.is_wanted) ss ≡ length (with_targets m (taken_all (targets_given n ss)))
wanted_told m most n [] h = refl
wanted_told m most n (s ∷ rest) h =
    let f = All-head (FitsFound m most) s rest h in
    sum_by-cons (λ (o : Source). cond o.is_wanted 1 0) s rest
    ∙ wanted_step m n s s.is_wanted (taken_all (targets_given (cond s.is_wanted (n + 1) n) rest)) (count_by (λ o. o.is_wanted) rest) (sym f.wanted) (wanted_told m most (cond s.is_wanted (n + 1) n) rest (All-tail (FitsFound m most) s rest h))

told_all : (P : ℕ → Type 0) (ss : List Source) → All (λ s. P s.file.0) ss → All (λ t. P t.file) (taken_all ss)
told_all P [] h = All-nil _
told_all P (s ∷ rest) h = All-cons (λ (t : TakenFile). P t.file) (told_taken s) (taken_all rest) (All-head (λ (x : Source). P x.file.0) s rest h) (told_all P rest (All-tail (λ (x : Source). P x.file.0) s rest h))

pub short_told : (m : MapMeaning) (most : ℕ) (ss : List Source) → All (FitsGiven m most) ss → All (λ t. target_length m t.file ≤ 4294967294) (with_targets m (taken_all ss))
short_told m most ss h =
    All-filter (λ (t : TakenFile). list_any (is_copied_from t.file) m.records) (λ (t : TakenFile). target_length m t.file ≤ 4294967294) (taken_all ss) (told_all (λ k. target_length m k ≤ 4294967294) ss (All-weaker (FitsGiven m most) (λ s. target_length m s.file.0 ≤ 4294967294) (λ s f. f.short) ss h))

-- ---- ready to begin

-- a source with its target, in the store behind the event
pub record IsTakenWith {D : Type 0} (work : Work) (most high : ℕ) (new : StoreValue D) (s : Source) : Type 0 where
  pub fits : FitsGiven new.map most s
  pub emptied : is_emptied_in s.file.0 new.files.files ≡ true
  pub drawn : TargetIsDrawn high new s
  pub low : s.file.0 ≤ high

pub begins_with : {D : Type 0} → (work : Work) (most high : ℕ) (new : StoreValue D) (s : Source) → All (λ row. row.file ≤ high) new.map.records → new.files.highest ≡ new.drawn.file → length work.text.items ≡ 17 + 8 * most → 17 + 8 * most + 5 ≤ new.map_log.room → IsTakenWith work most high new s → IsToBegin work new s
begins_with work most high new s rows drawn text log h =
    let few = h.fits.few in
    record {
      emptied = h.emptied;
      target = by_target s.target h.drawn h.fits.unwanted;
      short = h.fits.short;
      uncopied = h.fits.copied;
      undropped = h.fits.dropped;
      room = record { lists = h.fits.room; text = omega (arith, few, text); log = omega (arith, few, log) };
    }
  where
    by_target : (o : Option FileNo) → IfSome o (IsDrawnFor high new) → (o ≡ None → IsUnwanted new.map s.file.0) → IsTargetToMake s.file.0 o new
    by_target None d unwanted = unwanted refl
    by_target (Some t) d unwanted =
        let behind = d.behind in
        let low = h.low in (
          record {
            taken = ap (λ (o : Option MailFile). option_map_or (λ f. f.taken) o false) d.known;
            unmade = ap (λ (o : Option MailFile). option_and_then (λ f. f.end) o) d.known;
            drawn = let l = d.drawn_too in omega (arith, l, drawn);
            unnamed = All-weaker (λ row. row.file ≤ high) (λ row. row.file ≢ t.0) (λ row le same. omega (arith, le, same, behind)) new.map.records rows;
          },
          omega (arith, behind),
          omega (arith, behind, low),
        )
