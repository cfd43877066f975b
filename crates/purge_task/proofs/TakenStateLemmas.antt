-- What is known of the storage files behind the first event: each source is emptied, each target is taken and not made, and all else is as it was.
use Rattle.purge_task.proofs.Common.{◌≡◌, ◌≢◌, ℕ, ◌+◌, ◌<◌, ◌≤◌, ◌==◌, Bool, true, false, cond, Option, Some, None, List, [], ◌∷◌, ◌++◌, get_or, All, refl, sym, ap, subst, ◌∙◌, arith, AllPairs, option_map, All-nil, All-cons, All-head, All-tail, All-weaker, AllPairs-cons, FileNo, equal_yes}
use Rattle.purge_task.proofs.Common.{pairs_head, pairs_tail, pairs_nil, MailFile, changed_in, file_begun, file_in, to_empty, file-here, file-other, StoreValue, AreSourcesApart, taken_to_empty, source_taken, take_all, targets_given, target_drawn, with_target, Source}
use Rattle.std.specs.Prelude.{IfSome}
use Rattle.std.proofs.lemmas.List.Elements.{All-append}
use Rattle.purge_task.proofs.TakenLemmas.{highest_step}
use Rattle.purge_task.proofs.WalkLemmas.{unequal}

-- ---- one file more

pub found_before : (m : ℕ) (files : List MailFile) (x : MailFile) → x.file.0 ≢ m → file_in m (files ++ x ∷ []) ≡ file_in m files
found_before m [] x other = rw (unequal x.file.0 m other) refl
found_before m (y ∷ ys) x other = ap (λ (o : Option MailFile). cond (y.file.0 == m) (Some y) o) (found_before m ys x other)

pub found_last : (m : ℕ) (files : List MailFile) (x : MailFile) → x.file.0 ≡ m → All (λ f. f.file.0 ≢ m) files → file_in m (files ++ x ∷ []) ≡ Some x
found_last m [] x same none = rw (equal_yes x.file.0 m same) refl
found_last m (y ∷ ys) x same none = rw (unequal y.file.0 m (All-head (λ f. f.file.0 ≢ m) y ys none)) (found_last m ys x same (All-tail (λ f. f.file.0 ≢ m) y ys none))

other_step : {D : Type 0} → (v : StoreValue D) (s : Source) (m : ℕ) (b : Bool) → m ≤ v.files.highest → file_in m (cond b (target_drawn (taken_to_empty s.file.0 v)) (taken_to_empty s.file.0 v)).files.files ≡ file_in m (changed_in s.file.0 to_empty v.files.files)
other_step v s m true le = found_before m (changed_in s.file.0 to_empty v.files.files) (file_begun (record { 0 = v.files.highest + 1 })) (λ e. omega (arith, e, le))
other_step v s m false le = refl

-- what is known of another file stays
kept_step : {D : Type 0} → (v : StoreValue D) (s : Source) (m : ℕ) → m ≤ v.files.highest → m ≢ s.file.0 → file_in m (source_taken v s).files.files ≡ file_in m v.files.files
kept_step v s m le other = other_step v s m s.is_wanted le ∙ file-other s.file.0 m to_empty v.files.files (λ f. refl) other

emptied_step : {D : Type 0} → (v : StoreValue D) (s : Source) → s.file.0 ≤ v.files.highest → file_in s.file.0 (source_taken v s).files.files ≡ option_map to_empty (file_in s.file.0 v.files.files)
emptied_step v s le = other_step v s s.file.0 s.is_wanted le ∙ file-here s.file.0 to_empty v.files.files (λ f. refl)

higher : {D : Type 0} → (v : StoreValue D) (s : Source) → v.files.highest ≤ (source_taken v s).files.highest
higher v s = let e = highest_step v s s.is_wanted in omega (arith, e)

pub kept_all : {D : Type 0} → (sources : List Source) (v : StoreValue D) (m : ℕ) → m ≤ v.files.highest → All (λ s. m ≢ s.file.0) sources → file_in m (take_all sources v).files.files ≡ file_in m v.files.files
kept_all [] v m le others = refl
kept_all (s ∷ rest) v m le others =
    let up = higher v s in
    kept_all rest (source_taken v s) m (omega (arith, le, up)) (All-tail (λ o. m ≢ o.file.0) s rest others) ∙ kept_step v s m le (All-head (λ o. m ≢ o.file.0) s rest others)

-- ---- the sources

behind : (s : Source) (rest : List Source) → AllPairs (λ a b. a.file.0 < b.file.0) (s ∷ rest) → All (λ o. s.file.0 ≢ o.file.0) rest
behind s rest rising = All-weaker (λ o. s.file.0 < o.file.0) (λ o. s.file.0 ≢ o.file.0) (λ o lt e. omega (arith, lt, e)) rest (pairs_head (λ a b. a.file.0 < b.file.0) s rest rising)

pub emptied_all : {D : Type 0} → (sources : List Source) (v : StoreValue D) → AllPairs (λ a b. a.file.0 < b.file.0) sources → All (λ s. s.file.0 ≤ v.files.highest) sources → All (λ s. file_in s.file.0 (take_all sources v).files.files ≡ option_map to_empty (file_in s.file.0 v.files.files)) sources
emptied_all [] v rising low = All-nil _
emptied_all (s ∷ rest) v rising low =
    let up = higher v s in
    let le = All-head (λ o. o.file.0 ≤ v.files.highest) s rest low in
    let tail = All-tail (λ o. o.file.0 ≤ v.files.highest) s rest low in
    let ends = emptied_all rest (source_taken v s) (pairs_tail (λ a b. a.file.0 < b.file.0) s rest rising) (All-weaker (λ o. o.file.0 ≤ v.files.highest) (λ o. o.file.0 ≤ (source_taken v s).files.highest) (λ o l. omega (arith, l, up)) rest tail) in
    All-cons (λ o. file_in o.file.0 (take_all (s ∷ rest) v).files.files ≡ option_map to_empty (file_in o.file.0 v.files.files)) s rest
    (kept_all rest (source_taken v s) s.file.0 (omega (arith, le, up)) (behind s rest rising) ∙ emptied_step v s le)
    (λ k d lt. ends k d lt ∙ ap (option_map to_empty) (kept_step v s (get_or rest k d).file.0 (tail k d lt) (λ e. behind s rest rising k d lt (sym e))))

-- ---- the targets

-- it was drawn behind this number, and is taken to add to it, but not made
pub record IsDrawnFor {D : Type 0} (drawn : ℕ) (v : StoreValue D) (target : FileNo) : Type 0 where
  pub behind : drawn < target.0
  pub drawn_too : target.0 ≤ v.files.highest
  pub known : file_in target.0 v.files.files ≡ Some (file_begun target)

abbrev pub TargetIsDrawn : {D : Type 0} → ℕ → StoreValue D → Source → Type 0
TargetIsDrawn drawn v source = IfSome source.target (IsDrawnFor drawn v)

number_in : (most : ℕ) (x : MailFile) (b : Bool) → x.file.0 ≤ most → (cond b (to_empty x) x).file.0 ≤ most
number_in most x true le = le
number_in most x false le = le

pub below_changed : (n most : ℕ) (files : List MailFile) → All (λ f. f.file.0 ≤ most) files → All (λ f. f.file.0 ≤ most) (changed_in n to_empty files)
below_changed n most [] a = All-nil _
below_changed n most (x ∷ xs) a =
    All-cons (λ f. f.file.0 ≤ most) (cond (x.file.0 == n) (to_empty x) x) (changed_in n to_empty xs) (number_in most x (x.file.0 == n) (All-head (λ f. f.file.0 ≤ most) x xs a)) (below_changed n most xs (All-tail (λ f. f.file.0 ≤ most) x xs a))

pub below_step : {D : Type 0} → (v : StoreValue D) (s : Source) (b : Bool) → All (λ f. f.file.0 ≤ v.files.highest) v.files.files → All (λ f. f.file.0 ≤ (cond b (target_drawn (taken_to_empty s.file.0 v)) (taken_to_empty s.file.0 v)).files.highest) (cond b (target_drawn (taken_to_empty s.file.0 v)) (taken_to_empty s.file.0 v)).files.files
below_step v s true low =
    All-append (λ f. f.file.0 ≤ v.files.highest + 1) (changed_in s.file.0 to_empty v.files.files) (file_begun (record { 0 = v.files.highest + 1 }) ∷ [])
    (All-weaker (λ f. f.file.0 ≤ v.files.highest) (λ f. f.file.0 ≤ v.files.highest + 1) (λ f le. omega (arith, le)) (changed_in s.file.0 to_empty v.files.files) (below_changed s.file.0 v.files.highest v.files.files low))
    (All-cons (λ f. f.file.0 ≤ v.files.highest + 1) (file_begun (record { 0 = v.files.highest + 1 })) [] (omega arith) (All-nil (λ f. f.file.0 ≤ v.files.highest + 1)))
below_step v s false low = below_changed s.file.0 v.files.highest v.files.files low

weaker_target : {D : Type 0} → (low high : ℕ) (v : StoreValue D) (o : Option FileNo) → low ≤ high → IfSome o (IsDrawnFor high v) → IfSome o (IsDrawnFor low v)
weaker_target low high v None le h = tt
weaker_target low high v (Some t) le h = record { behind = (let b = h.behind in omega (arith, b, le)); drawn_too = h.drawn_too; known = h.known }

never_lower : {D : Type 0} → (sources : List Source) (v : StoreValue D) → v.files.highest ≤ (take_all sources v).files.highest
never_lower [] v = omega arith
never_lower (s ∷ rest) v = let a = higher v s in let b = never_lower rest (source_taken v s) in omega (arith, a, b)

first_drawn : {D : Type 0} → (v : StoreValue D) (s : Source) (rest : List Source) (b : Bool) → All (λ f. f.file.0 ≤ v.files.highest) v.files.files → All (λ o. o.file.0 ≤ v.files.highest) rest → s.target ≡ None
    → TargetIsDrawn v.files.highest (take_all rest (cond b (target_drawn (taken_to_empty s.file.0 v)) (taken_to_empty s.file.0 v))) (cond b (record s { target = Some (record { 0 = v.files.highest + 1 }) }) s)
first_drawn v s rest true low files none =
    let new = file_begun (record { 0 = v.files.highest + 1 }) in
    let there = found_last (v.files.highest + 1) (changed_in s.file.0 to_empty v.files.files) new refl (All-weaker (λ f. f.file.0 ≤ v.files.highest) (λ f. f.file.0 ≢ v.files.highest + 1) (λ f le e. omega (arith, le, e)) (changed_in s.file.0 to_empty v.files.files) (below_changed s.file.0 v.files.highest v.files.files low)) in
    let up = never_lower rest (target_drawn (taken_to_empty s.file.0 v)) in
    record {
      behind = omega arith;
      drawn_too = omega (arith, up);
      known = kept_all rest (target_drawn (taken_to_empty s.file.0 v)) (v.files.highest + 1) (omega arith) (All-weaker (λ o. o.file.0 ≤ v.files.highest) (λ o. v.files.highest + 1 ≢ o.file.0) (λ o le e. omega (arith, le, e)) rest files) ∙ there;
    }
first_drawn v s rest false low files none = subst (λ (o : Option FileNo). IfSome o (IsDrawnFor v.files.highest (take_all rest (taken_to_empty s.file.0 v)))) (sym none) tt

pub next_highest : (n : ℕ) (b : Bool) → cond b (n + 1) n ≡ n + cond b 1 0
next_highest n true = refl
next_highest n false = omega arith

pub drawn_all : {D : Type 0} → (sources : List Source) (v : StoreValue D) → All (λ f. f.file.0 ≤ v.files.highest) v.files.files → All (λ s. s.file.0 ≤ v.files.highest) sources → All (λ s. s.target ≡ None) sources → All (TargetIsDrawn v.files.highest (take_all sources v)) (targets_given v.files.highest sources)
drawn_all [] v low files none = All-nil _
drawn_all (s ∷ rest) v low files none =
    let up = highest_step v s s.is_wanted in
    let more = next_highest v.files.highest s.is_wanted in
    let ends = drawn_all rest (source_taken v s) (below_step v s s.is_wanted low) (All-weaker (λ o. o.file.0 ≤ v.files.highest) (λ o. o.file.0 ≤ (source_taken v s).files.highest) (λ o l. omega (arith, l, up)) rest (All-tail (λ o. o.file.0 ≤ v.files.highest) s rest files)) (All-tail (λ o. o.target ≡ None) s rest none) in
    let same : targets_given (source_taken v s).files.highest rest ≡ targets_given (cond s.is_wanted (v.files.highest + 1) v.files.highest) rest = ap (λ (n : ℕ). targets_given n rest) (up ∙ sym more) in
    All-cons (TargetIsDrawn v.files.highest (take_all (s ∷ rest) v)) (with_target v.files.highest s) (targets_given (cond s.is_wanted (v.files.highest + 1) v.files.highest) rest)
    (first_drawn v s rest s.is_wanted low (All-tail (λ o. o.file.0 ≤ v.files.highest) s rest files) (All-head (λ o. o.target ≡ None) s rest none))
    (subst (All (TargetIsDrawn v.files.highest (take_all (s ∷ rest) v))) same (λ k d lt. weaker_target v.files.highest (source_taken v s).files.highest (take_all (s ∷ rest) v) (get_or (targets_given (source_taken v s).files.highest rest) k d).target (higher v s) (ends k d lt)))

-- ---- all else

rest_step : {D : Type 0} → (v : StoreValue D) (s : Source) (b : Bool) → (let w = cond b (target_drawn (taken_to_empty s.file.0 v)) (taken_to_empty s.file.0 v) in w ≡ record v { files = w.files; drawn = record v.drawn { file = w.drawn.file } })
rest_step v s true = refl
rest_step v s false = refl

-- no more of the store's value has changed than its storage files and the number drawn
pub rest_all : {D : Type 0} → (sources : List Source) (v : StoreValue D) → take_all sources v ≡ record v { files = (take_all sources v).files; drawn = record v.drawn { file = (take_all sources v).drawn.file } }
rest_all [] v = refl
rest_all (s ∷ rest) v =
    rest_all rest (source_taken v s) ∙ ap (λ (u : StoreValue _). record u { files = (take_all (s ∷ rest) v).files; drawn = record u.drawn { file = (take_all (s ∷ rest) v).drawn.file } }) (rest_step v s s.is_wanted)

drawn_step : {D : Type 0} → (v : StoreValue D) (s : Source) (b : Bool) → v.drawn.file ≡ v.files.highest → (let w = cond b (target_drawn (taken_to_empty s.file.0 v)) (taken_to_empty s.file.0 v) in w.drawn.file ≡ w.files.highest)
drawn_step v s true e = refl
drawn_step v s false e = e

pub drawn_file : {D : Type 0} → (sources : List Source) (v : StoreValue D) → v.drawn.file ≡ v.files.highest → (take_all sources v).drawn.file ≡ (take_all sources v).files.highest
drawn_file [] v e = e
drawn_file (s ∷ rest) v e = drawn_file rest (source_taken v s) (drawn_step v s s.is_wanted e)

-- ---- each is another

pub file_same : (n : ℕ) (s : Source) (b : Bool) → (cond b (record s { target = Some (record { 0 = n + 1 }) }) s).file ≡ s.file
file_same n s true = refl
file_same n s false = refl

-- what holds of the numbers of files holds of them with their targets
pub given_files : (P : ℕ → Type 0) (n : ℕ) (sources : List Source) → All (λ s. P s.file.0) sources → All (λ s. P s.file.0) (targets_given n sources)
given_files P n [] a = All-nil _
given_files P n (s ∷ rest) a =
    All-cons (λ o. P o.file.0) (with_target n s) (targets_given (cond s.is_wanted (n + 1) n) rest) (subst (λ (f : FileNo). P f.0) (sym (file_same n s s.is_wanted)) (All-head (λ o. P o.file.0) s rest a)) (given_files P (cond s.is_wanted (n + 1) n) rest (All-tail (λ o. P o.file.0) s rest a))

files_apart : (n : ℕ) (sources : List Source) → AllPairs (λ a b. a.file.0 < b.file.0) sources → AllPairs (λ a b. a.file.0 < b.file.0) (targets_given n sources)
files_apart n [] rising = pairs_nil (λ a b. a.file.0 < b.file.0)
files_apart n (s ∷ rest) rising =
    AllPairs-cons (λ a b. a.file.0 < b.file.0) (with_target n s) (targets_given (cond s.is_wanted (n + 1) n) rest)
    (subst (λ (f : FileNo). All (λ o. f.0 < o.file.0) (targets_given (cond s.is_wanted (n + 1) n) rest)) (sym (file_same n s s.is_wanted)) (given_files (λ k. s.file.0 < k) (cond s.is_wanted (n + 1) n) rest (pairs_head (λ a b. a.file.0 < b.file.0) s rest rising)))
    (files_apart (cond s.is_wanted (n + 1) n) rest (pairs_tail (λ a b. a.file.0 < b.file.0) s rest rising))

abbrev IsBehind : ℕ → Source → Type 0
IsBehind n s = IfSome s.target (λ t. n < t.0)

behind_weaker : (m n : ℕ) (o : Option FileNo) → m ≤ n → IfSome o (λ t. n < t.0) → IfSome o (λ t. m < t.0)
behind_weaker m n None le h = tt
behind_weaker m n (Some t) le h = omega (arith, le, h)

first_behind : (n : ℕ) (s : Source) (b : Bool) → s.target ≡ None → IsBehind n (cond b (record s { target = Some (record { 0 = n + 1 }) }) s)
first_behind n s true none = omega arith
first_behind n s false none = subst (λ (o : Option FileNo). IfSome o (λ t. n < t.0)) (sym none) tt

given_behind : (n : ℕ) (sources : List Source) → All (λ s. s.target ≡ None) sources → All (IsBehind n) (targets_given n sources)
given_behind n [] none = All-nil _
given_behind n (s ∷ rest) none =
    let more = next_highest n s.is_wanted in
    All-cons (IsBehind n) (with_target n s) (targets_given (cond s.is_wanted (n + 1) n) rest) (first_behind n s s.is_wanted (All-head (λ o. o.target ≡ None) s rest none))
    (All-weaker (IsBehind (cond s.is_wanted (n + 1) n)) (IsBehind n) (λ o h. behind_weaker n (cond s.is_wanted (n + 1) n) o.target (omega (arith, more)) h) (targets_given (cond s.is_wanted (n + 1) n) rest) (given_behind (cond s.is_wanted (n + 1) n) rest (All-tail (λ o. o.target ≡ None) s rest none)))

abbrev TargetsRise : Source → Source → Type 0
TargetsRise a b = IfSome a.target (λ t. IfSome b.target (λ u. t.0 < u.0))

rises_over : (n : ℕ) (s : Source) (b : Bool) (others : List Source) → s.target ≡ None → All (IsBehind (cond b (n + 1) n)) others → All (TargetsRise (cond b (record s { target = Some (record { 0 = n + 1 }) }) s)) others
rises_over n s true others none a = a
rises_over n s false others none a = λ k d lt. subst (λ (o : Option FileNo). IfSome o (λ t. IfSome (get_or others k d).target (λ u. t.0 < u.0))) (sym none) tt

targets_apart : (n : ℕ) (sources : List Source) → All (λ s. s.target ≡ None) sources → AllPairs TargetsRise (targets_given n sources)
targets_apart n [] none = pairs_nil TargetsRise
targets_apart n (s ∷ rest) none =
    let tail = All-tail (λ o. o.target ≡ None) s rest none in
    AllPairs-cons TargetsRise (with_target n s) (targets_given (cond s.is_wanted (n + 1) n) rest) (rises_over n s s.is_wanted (targets_given (cond s.is_wanted (n + 1) n) rest) (All-head (λ o. o.target ≡ None) s rest none) (given_behind (cond s.is_wanted (n + 1) n) rest tail)) (targets_apart (cond s.is_wanted (n + 1) n) rest tail)

pub are_apart : (n : ℕ) (sources : List Source) → AllPairs (λ a b. a.file.0 < b.file.0) sources → All (λ s. s.target ≡ None) sources → AreSourcesApart (targets_given n sources)
are_apart n sources rising none = record { files = files_apart n sources rising; targets = targets_apart n sources none }
