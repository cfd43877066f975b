-- By its first event a purge claims the files that it empties and their targets, and nothing else.
use Rattle.purge_task.proofs.Common.{◌≡◌, ◌≢◌, inl, inr, ℕ, ◌+◌, ◌≤◌, ◌==◌, ◌&&◌, Bool, true, false, cond, Option, Some, None, List, [], ◌∷◌, ◌++◌, All, refl, sym, ap, subst, ◌∙◌, arith, is_some, option_and_then, option_map, option_map_or, cases_eq, All-head, All-tail, All-weaker, sum_by-cons}
use Rattle.purge_task.proofs.Common.{FileNo, equal_yes, MailFile, changed_in, file_begun, file_in, to_empty, file-here, file-other, StoreValue, Claims, MovesClaims, Thing, Due, Pinned, Taken, Emptied, PlacingPieces, Removing, Held, Made, amount_in, one_if, claims_of_sources, CanTake, CanTakeAll}
use Rattle.purge_task.proofs.Common.{taken_to_empty, source_taken, take_all, targets_given, target_drawn, with_target, Source}
use Rattle.task_claims.specs.Claims.{no_claims}
use Rattle.purge_task.proofs.TakenLemmas.{highest_step, rest_step}
use Rattle.purge_task.proofs.TakenStateLemmas.{below_changed, below_step, found_before, found_last, next_highest}
use Rattle.purge_task.proofs.WalkLemmas.{unequal}

-- ---- what of a file is counted

abbrev told_taken : Option MailFile → ℕ
told_taken o = one_if (option_map_or (λ f. f.taken) o false)

abbrev emptied_of : Option MailFile → ℕ
emptied_of o = one_if (option_map_or (λ f. f.emptied) o false)

abbrev placing_of : Option MailFile → ℕ
placing_of o = one_if (is_some (option_and_then (λ f. f.begun) o))

abbrev removing_of : Option MailFile → ℕ
removing_of o = one_if (option_map_or (λ f. f.doomed) o false && (option_map_or (λ f. f.pins) o 0 == 0))

abbrev pinned_of : Option MailFile → ℕ
pinned_of o = option_map_or (λ f. f.pins) o 0

-- an amount that emptying doesn't change
emptying_keeps : (amount : Option MailFile → ℕ) (n m : ℕ) (files : List MailFile) → ((f : MailFile) → amount (Some (to_empty f)) ≡ amount (Some f)) → amount (file_in m (changed_in n to_empty files)) ≡ amount (file_in m files)
emptying_keeps amount n m files same = elim (cases_eq m n) [
  | inl is ↦ subst (λ (k : ℕ). amount (file_in k (changed_in n to_empty files)) ≡ amount (file_in k files)) (sym is) (ap amount (file-here n to_empty files (λ f. refl)) ∙ mapped (file_in n files))
  | inr other ↦ ap amount (file-other n m to_empty files (λ f. refl) other)
]
  where
    mapped : (o : Option MailFile) → amount (option_map to_empty o) ≡ amount o
    mapped None = refl
    mapped (Some f) = same f

pub nothing_there : (n : ℕ) (files : List MailFile) → All (λ f. f.file.0 ≢ n) files → file_in n files ≡ None
nothing_there n [] none = refl
nothing_there n (y ∷ ys) none = rw (unequal y.file.0 n (All-head (λ f. f.file.0 ≢ n) y ys none)) (nothing_there n ys (All-tail (λ f. f.file.0 ≢ n) y ys none))

-- an amount of a file that is begun
beginning_adds : (amount : Option MailFile → ℕ) (m n : ℕ) (files : List MailFile) → All (λ f. f.file.0 ≢ n) files → amount None ≡ 0 → amount (file_in m (files ++ file_begun (record { 0 = n }) ∷ [])) ≡ amount (file_in m files) + cond (n == m) (amount (Some (file_begun (record { 0 = n })))) 0
beginning_adds amount m n files none zero_none = elim (cases_eq n m) [
  | inl is ↦ (
      let here = ap amount (found_last m files (file_begun (record { 0 = n })) is (subst (λ (k : ℕ). All (λ f. f.file.0 ≢ k) files) is none)) in
      let before = ap amount (nothing_there m files (subst (λ (k : ℕ). All (λ f. f.file.0 ≢ k) files) is none)) ∙ zero_none in
      let c : cond (n == m) (amount (Some (file_begun (record { 0 = n })))) 0 ≡ amount (Some (file_begun (record { 0 = n }))) = ap (λ (b : Bool). cond b (amount (Some (file_begun (record { 0 = n })))) 0) (equal_yes n m is) in
      omega (arith, here, before, c)
      )
  | inr other ↦ (
      let there = ap amount (found_before m files (file_begun (record { 0 = n })) other) in
      let c : ◌≡◌ {A = ℕ} (cond (n == m) (amount (Some (file_begun (record { 0 = n })))) 0) 0 = ap (λ (b : Bool). cond b (amount (Some (file_begun (record { 0 = n })))) 0) (unequal n m other) in
      omega (arith, there, c)
      )
]

-- one file is emptied
emptied_one : (n m : ℕ) (files : List MailFile) (f : MailFile) → file_in n files ≡ Some f → f.emptied ≡ false → emptied_of (file_in m (changed_in n to_empty files)) ≡ emptied_of (file_in m files) + cond (n == m) 1 0
emptied_one n m files f known free = elim (cases_eq n m) [
  | inl is ↦ (
      let here : emptied_of (file_in n (changed_in n to_empty files)) ≡ 1 = ap emptied_of (file-here n to_empty files (λ x. refl) ∙ ap (option_map to_empty) known) in
      let before : emptied_of (file_in n files) ≡ 0 = ap emptied_of known ∙ ap one_if free in
      let c : ◌≡◌ {A = ℕ} (cond (n == m) 1 0) 1 = ap (λ (b : Bool). cond b 1 0) (equal_yes n m is) in
      let there : emptied_of (file_in m (changed_in n to_empty files)) ≡ emptied_of (file_in n (changed_in n to_empty files)) = ap (λ (k : ℕ). emptied_of (file_in k (changed_in n to_empty files))) (sym is) in
      let was : emptied_of (file_in m files) ≡ emptied_of (file_in n files) = ap (λ (k : ℕ). emptied_of (file_in k files)) (sym is) in
      omega (arith, here, before, c, there, was)
      )
  | inr other ↦ (
      let there = ap emptied_of (file-other n m to_empty files (λ x. refl) (λ e. other (sym e))) in
      let c : ◌≡◌ {A = ℕ} (cond (n == m) 1 0) 0 = ap (λ (b : Bool). cond b 1 0) (unequal n m other) in
      omega (arith, there, c)
      )
]

-- ---- one source

abbrev Fresh : {D : Type 0} → StoreValue D → Type 0
Fresh v = All (λ f. f.file.0 ≤ v.files.highest) v.files.files

pub fresh_none : (n : ℕ) (most : ℕ) (files : List MailFile) → All (λ f. f.file.0 ≤ most) files → All (λ f. f.file.0 ≢ most + 1) files
fresh_none n most files low = All-weaker (λ f. f.file.0 ≤ most) (λ f. f.file.0 ≢ most + 1) (λ f le e. omega (arith, le, e)) files low

-- by how much one source moves an amount
claim_one : Source → Claims
claim_one s thing = claims_of_sources (s ∷ []) thing

pub claims_cons : (s : Source) (rest : List Source) (thing : Thing) → claims_of_sources (s ∷ rest) thing ≡ claims_of_sources (s ∷ []) thing + claims_of_sources rest thing
claims_cons s rest (Due uid) = refl
claims_cons s rest (Pinned file) = refl
claims_cons s rest (Taken file) =
    let a = sum_by-cons (λ o. cond (option_map_or (λ t. t.0 == file) o.target false) 1 0) s rest in
    let b = sum_by-cons (λ o. cond (option_map_or (λ t. t.0 == file) o.target false) 1 0) s [] in
    omega (arith, a, b)
claims_cons s rest (Emptied file) =
    let a = sum_by-cons (λ o. cond (o.file.0 == file) 1 0) s rest in
    let b = sum_by-cons (λ o. cond (o.file.0 == file) 1 0) s [] in
    omega (arith, a, b)
claims_cons s rest (PlacingPieces file) = refl
claims_cons s rest (Removing file) = refl
claims_cons s rest (Held id) = refl
claims_cons s rest (Made number) = refl

no_more : (b : Bool) → ◌≡◌ {A = ℕ} (cond b 0 0) 0
no_more true = refl
no_more false = refl

taken_claim : (s : Source) (m : ℕ) → claims_of_sources (s ∷ []) (Taken m) ≡ cond (option_map_or (λ t. t.0 == m) s.target false) 1 0
taken_claim s m = let a = sum_by-cons (λ (o : Source). cond (option_map_or (λ t. t.0 == m) o.target false) 1 0) s [] in omega (arith, a)

emptied_claim : (s : Source) (m : ℕ) → claims_of_sources (s ∷ []) (Emptied m) ≡ cond (s.file.0 == m) 1 0
emptied_claim s m = let a = sum_by-cons (λ (o : Source). cond (o.file.0 == m) 1 0) s [] in omega (arith, a)

-- one source, with a target or without
moves_one : {D : Type 0} → (v : StoreValue D) (s : Source) (b : Bool) (thing : Thing) → Fresh v → CanTake v.files.files s.file.0 → s.target ≡ None
    → amount_in thing (cond b (target_drawn (taken_to_empty s.file.0 v)) (taken_to_empty s.file.0 v)) ≡ amount_in thing v + claims_of_sources (cond b (record s { target = Some (record { 0 = v.files.highest + 1 }) }) s ∷ []) thing
moves_one v s true (Due uid) fresh can none = omega arith
moves_one v s false (Due uid) fresh can none = omega arith
moves_one v s true (Held id) fresh can none = omega arith
moves_one v s false (Held id) fresh can none = omega arith
moves_one v s true (Made number) fresh can none = omega arith
moves_one v s false (Made number) fresh can none = omega arith
moves_one v s true (Pinned m) fresh can none =
    let a = beginning_adds pinned_of m (v.files.highest + 1) (changed_in s.file.0 to_empty v.files.files) (fresh_none 0 v.files.highest (changed_in s.file.0 to_empty v.files.files) (below_changed s.file.0 v.files.highest v.files.files fresh)) refl in
    let b = emptying_keeps pinned_of s.file.0 m v.files.files (λ f. refl) in
    let c = no_more (v.files.highest + 1 == m) in
    omega (arith, a, b, c)
moves_one v s false (Pinned m) fresh can none = let b = emptying_keeps pinned_of s.file.0 m v.files.files (λ f. refl) in omega (arith, b)
moves_one v s true (PlacingPieces m) fresh can none =
    let a = beginning_adds placing_of m (v.files.highest + 1) (changed_in s.file.0 to_empty v.files.files) (fresh_none 0 v.files.highest (changed_in s.file.0 to_empty v.files.files) (below_changed s.file.0 v.files.highest v.files.files fresh)) refl in
    let b = emptying_keeps placing_of s.file.0 m v.files.files (λ f. refl) in
    let c = no_more (v.files.highest + 1 == m) in
    omega (arith, a, b, c)
moves_one v s false (PlacingPieces m) fresh can none = let b = emptying_keeps placing_of s.file.0 m v.files.files (λ f. refl) in omega (arith, b)
moves_one v s true (Removing m) fresh can none =
    let a = beginning_adds removing_of m (v.files.highest + 1) (changed_in s.file.0 to_empty v.files.files) (fresh_none 0 v.files.highest (changed_in s.file.0 to_empty v.files.files) (below_changed s.file.0 v.files.highest v.files.files fresh)) refl in
    let b = emptying_keeps removing_of s.file.0 m v.files.files (λ f. refl) in
    let c = no_more (v.files.highest + 1 == m) in
    omega (arith, a, b, c)
moves_one v s false (Removing m) fresh can none = let b = emptying_keeps removing_of s.file.0 m v.files.files (λ f. refl) in omega (arith, b)
moves_one v s true (Taken m) fresh can none =
    let a = beginning_adds told_taken m (v.files.highest + 1) (changed_in s.file.0 to_empty v.files.files) (fresh_none 0 v.files.highest (changed_in s.file.0 to_empty v.files.files) (below_changed s.file.0 v.files.highest v.files.files fresh)) refl in
    let b = emptying_keeps told_taken s.file.0 m v.files.files (λ f. refl) in
    let c = taken_claim (record s { target = Some (record { 0 = v.files.highest + 1 }) }) m in
    omega (arith, a, b, c)
moves_one v s false (Taken m) fresh can none =
    let b = emptying_keeps told_taken s.file.0 m v.files.files (λ f. refl) in
    let c = taken_claim s m in
    let d : ◌≡◌ {A = ℕ} (cond (option_map_or (λ t. t.0 == m) s.target false) 1 0) 0 = ap (λ (o : Option FileNo). cond (option_map_or (λ t. t.0 == m) o false) 1 0) none in
    omega (arith, b, c, d)
moves_one v s true (Emptied m) fresh can none =
    let a = beginning_adds emptied_of m (v.files.highest + 1) (changed_in s.file.0 to_empty v.files.files) (fresh_none 0 v.files.highest (changed_in s.file.0 to_empty v.files.files) (below_changed s.file.0 v.files.highest v.files.files fresh)) refl in
    let b = emptied_one s.file.0 m v.files.files can.f can.known can.untaken.unemptied in
    let c = no_more (v.files.highest + 1 == m) in
    let d = emptied_claim (record s { target = Some (record { 0 = v.files.highest + 1 }) }) m in
    omega (arith, a, b, c, d)
moves_one v s false (Emptied m) fresh can none =
    let b = emptied_one s.file.0 m v.files.files can.f can.known can.untaken.unemptied in
    let d = emptied_claim s m in
    omega (arith, b, d)

-- ---- all of them

moves_all : {D : Type 0} → (sources : List Source) (v : StoreValue D) (thing : Thing) → Fresh v → CanTakeAll v sources → All (λ s. s.target ≡ None) sources → amount_in thing (take_all sources v) ≡ amount_in thing v + claims_of_sources (targets_given v.files.highest sources) thing
moves_all [] v thing fresh can none = nothing thing
  where
    nothing : (t : Thing) → amount_in t v ≡ amount_in t v + claims_of_sources [] t
    nothing (Due uid) = omega arith
    nothing (Pinned m) = omega arith
    nothing (Taken m) = omega arith
    nothing (Emptied m) = omega arith
    nothing (PlacingPieces m) = omega arith
    nothing (Removing m) = omega arith
    nothing (Held id) = omega arith
    nothing (Made number) = omega arith
moves_all (s ∷ rest) v thing fresh can none =
    let up = highest_step v s s.is_wanted in
    let more = next_highest v.files.highest s.is_wanted in
    let same : targets_given (source_taken v s).files.highest rest ≡ targets_given (cond s.is_wanted (v.files.highest + 1) v.files.highest) rest = ap (λ (n : ℕ). targets_given n rest) (up ∙ sym more) in
    let first = moves_one v s s.is_wanted thing fresh (All-head (λ o. CanTake v.files.files o.file.0) s rest can.files) (All-head (λ o. o.target ≡ None) s rest none) in
    let others = moves_all rest (source_taken v s) thing (below_step v s s.is_wanted fresh) (rest_step v s rest s.is_wanted refl can) (All-tail (λ o. o.target ≡ None) s rest none) in
    let mine = claims_cons (with_target v.files.highest s) (targets_given (cond s.is_wanted (v.files.highest + 1) v.files.highest) rest) thing in
    let again = ap (λ (ss : List Source). claims_of_sources ss thing) same in
    omega (arith, first, others, mine, again)

-- By the first event a purge claims just what it takes.
pub takes_moves : {D : Type 0} → (sources : List Source) (v : StoreValue D) → All (λ f. f.file.0 ≤ v.files.highest) v.files.files → CanTakeAll v sources → All (λ s. s.target ≡ None) sources → MovesClaims no_claims (claims_of_sources (targets_given v.files.highest sources)) v (take_all sources v)
takes_moves sources v fresh can none = λ thing. (let e = moves_all sources v thing fresh can none in omega (arith, e))
