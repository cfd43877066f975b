-- The files that a purge takes, one after another.
use Rattle.purge_task.proofs.Common.{◌≡◌, ◌≢◌, ℕ, ◌+◌, ◌<◌, ◌≤◌, ◌==◌, Bool, true, false, cond, Some, None, List, [], ◌∷◌, ◌++◌, length, get_or, take, drop, All, refl, sym, ap, subst, ◌∙◌, arith, append_assoc, count_by, append-nil, drop_more, drop_all, length-take-le, All-head, All-tail}
use Rattle.purge_task.proofs.Common.{sum_by-cons, pairs_head, pairs_tail, MailFile, changed_in, file_begun, file_in, to_empty, file-other, StoreValue, CanTake, CanTakeAll, taken_to_empty, source_taken, targets_given, target_drawn, with_target, Source}
use Rattle.std.proofs.Common.{set}
use Rattle.std.proofs.lemmas.List.{take_more, take_all, set_at, get_or_at}
use Rattle.std.proofs.lemmas.List.Sums.{fold_push, sum_by_push}
use Rattle.purge_task.specs.Taken.{take_all as all_taken}

-- ---- one more

longer_step : (n : ℕ) (y : MailFile) (ys : List MailFile) (x f : MailFile) (b : Bool) → cond b (Some y) (file_in n ys) ≡ Some f → (file_in n ys ≡ Some f → file_in n (ys ++ x ∷ []) ≡ Some f) → cond b (Some y) (file_in n (ys ++ x ∷ [])) ≡ Some f
longer_step n y ys x f true e rest = e
longer_step n y ys x f false e rest = rest e

found_longer : (n : ℕ) (files : List MailFile) (x f : MailFile) → file_in n files ≡ Some f → file_in n (files ++ x ∷ []) ≡ Some f
found_longer n [] x f e = absurd (let w : None ≡ Some f = e in cc w)
found_longer n (y ∷ ys) x f e = longer_step n y ys x f (y.file.0 == n) e (found_longer n ys x f)

count_one : (s : Source) (rest : List Source) → count_by (λ o. o.is_wanted) (s ∷ rest) ≡ cond s.is_wanted 1 0 + count_by (λ o. o.is_wanted) rest
count_one s rest = sum_by-cons (λ o. cond o.is_wanted 1 0) s rest

emptied_still : (files : List MailFile) (n m : ℕ) → m ≢ n → CanTake files m → CanTake (changed_in n to_empty files) m
emptied_still files n m other can = record { f = can.f; known = file-other n m to_empty files (λ f. refl) other ∙ can.known; untaken = can.untaken; unsealed = can.unsealed }

drawn_still : (files : List MailFile) (x : MailFile) (m : ℕ) → CanTake files m → CanTake (files ++ x ∷ []) m
drawn_still files x m can = record { f = can.f; known = found_longer m files x can.f can.known; untaken = can.untaken; unsealed = can.unsealed }

others_can : {D : Type 0} → (v : StoreValue D) (s : Source) (rest : List Source) → CanTakeAll v (s ∷ rest) → All (λ o. CanTake (changed_in s.file.0 to_empty v.files.files) o.file.0) rest
others_can v s rest can = λ k d lt.
    let up = pairs_head (λ a b. a.file.0 < b.file.0) s rest can.rising k d lt in
    emptied_still v.files.files s.file.0 (get_or rest k d).file.0 (λ e. omega (arith, e, up)) (All-tail (λ o. CanTake v.files.files o.file.0) s rest can.files k d lt)

pub rest_step : {D : Type 0} → (v : StoreValue D) (s : Source) (rest : List Source) (b : Bool) → s.is_wanted ≡ b → CanTakeAll v (s ∷ rest) → CanTakeAll (cond b (target_drawn (taken_to_empty s.file.0 v)) (taken_to_empty s.file.0 v)) rest
rest_step v s rest true is can =
    let count = count_one s rest in
    let one : ◌≡◌ {A = ℕ} (cond s.is_wanted 1 0) 1 = ap (λ (b : Bool). cond b 1 0) is in
    let spare = can.spare in
    let numbers = can.numbers in
    record {
      files = λ k d lt. drawn_still (changed_in s.file.0 to_empty v.files.files) (file_begun (record { 0 = v.files.highest + 1 })) (get_or rest k d).file.0 (others_can v s rest can k d lt);
      rising = pairs_tail (λ a b. a.file.0 < b.file.0) s rest can.rising;
      spare = omega (arith, count, one, spare);
      numbers = omega (arith, count, one, numbers);
    }
rest_step v s rest false is can =
    let count = count_one s rest in
    let one : ◌≡◌ {A = ℕ} (cond s.is_wanted 1 0) 0 = ap (λ (b : Bool). cond b 1 0) is in
    let spare = can.spare in
    let numbers = can.numbers in
    record {
      files = others_can v s rest can;
      rising = pairs_tail (λ a b. a.file.0 < b.file.0) s rest can.rising;
      spare = omega (arith, count, one, spare);
      numbers = omega (arith, count, one, numbers);
    }

pub highest_step : {D : Type 0} → (v : StoreValue D) (s : Source) (b : Bool) → (cond b (target_drawn (taken_to_empty s.file.0 v)) (taken_to_empty s.file.0 v)).files.highest ≡ v.files.highest + cond b 1 0
highest_step v s true = refl
highest_step v s false = omega arith

given_step : (drawn : ℕ) (s : Source) (rest : List Source) (x : Source) (more : List Source) (b : Bool) → targets_given (cond b (drawn + 1) drawn) rest ≡ more → with_target drawn s ≡ x → with_target drawn s ∷ targets_given (cond b (drawn + 1) drawn) rest ≡ x ∷ more
given_step drawn s rest x more b e f = cc (e, f)

next_drawn : (drawn : ℕ) (b : Bool) → cond b (drawn + 1) drawn ≡ drawn + cond b 1 0
next_drawn drawn true = refl
next_drawn drawn false = omega arith

given_push : (drawn : ℕ) (xs : List Source) (s : Source) → targets_given drawn (xs ++ s ∷ []) ≡ targets_given drawn xs ++ with_target (drawn + count_by (λ o. o.is_wanted) xs) s ∷ []
given_push drawn [] s = let none : drawn + 0 ≡ drawn = omega arith in ap (λ (n : ℕ). with_target n s ∷ []) (sym none)
given_push drawn (x ∷ xs) s =
    let count = count_one x xs in
    let next = next_drawn drawn x.is_wanted in
    let sum : cond x.is_wanted (drawn + 1) drawn + count_by (λ o. o.is_wanted) xs ≡ drawn + count_by (λ o. o.is_wanted) (x ∷ xs) = omega (arith, count, next) in
    ap (λ (ys : List Source). with_target drawn x ∷ ys) (given_push (cond x.is_wanted (drawn + 1) drawn) xs s ∙ ap (λ (n : ℕ). targets_given (cond x.is_wanted (drawn + 1) drawn) xs ++ with_target n s ∷ []) sum)

pub given_long : (drawn : ℕ) (xs : List Source) → length (targets_given drawn xs) ≡ length xs
given_long drawn [] = refl
given_long drawn (x ∷ xs) = let e = given_long (cond x.is_wanted (drawn + 1) drawn) xs in omega (arith, e)

-- ---- so far

pub record AreTakenTo {D : Type 0} (i : ℕ) (all now : List Source) (old v : StoreValue D) : Type 0 where
  pub store : v ≡ all_taken (take i all) old
  pub can : CanTakeAll v (drop i all)
  pub highest : v.files.highest ≡ old.files.highest + count_by (λ o. o.is_wanted) (take i all)
  pub sources : now ≡ targets_given old.files.highest (take i all) ++ drop i all

pub taken_begins : {D : Type 0} → (all : List Source) (old : StoreValue D) → CanTakeAll old all → AreTakenTo 0 all all old old
taken_begins all old can = record { store = refl; can = can; highest = omega arith; sources = refl }

-- the next one
pub next_source : {D : Type 0} → (i : ℕ) (all now : List Source) (old v : StoreValue D) (d : Source) → i < length all → AreTakenTo i all now old v → get_or now i d ≡ get_or all i d
next_source i all now old v d lt so =
    let long = given_long old.files.highest (take i all) in
    let short = length-take-le i all (omega (arith, lt)) in
    ap (λ (xs : List Source). get_or xs i d) (so.sources ∙ ap (λ (xs : List Source). targets_given old.files.highest (take i all) ++ xs) (drop_more all i d lt)) ∙ get_or_at (targets_given old.files.highest (take i all)) (get_or all i d) (drop (i + 1) all) d i (omega (arith, long, short))

pub next_can : {D : Type 0} → (i : ℕ) (all now : List Source) (old v : StoreValue D) (d : Source) → i < length all → AreTakenTo i all now old v → CanTakeAll v (get_or all i d ∷ drop (i + 1) all)
next_can i all now old v d lt so = subst (CanTakeAll v) (drop_more all i d lt) so.can

-- what it needs
pub source_can : {D : Type 0} → (v : StoreValue D) (s : Source) (rest : List Source) → CanTakeAll v (s ∷ rest) → CanTake v.files.files s.file.0 × (s.is_wanted ≡ true → 1 ≤ v.files.spare) × (s.is_wanted ≡ true → v.files.highest < 4294967294)
source_can v s rest can =
    let count = count_one s rest in
    let spare = can.spare in
    let numbers = can.numbers in (
      All-head (λ o. CanTake v.files.files o.file.0) s rest can.files,
      (λ is. let one : ◌≡◌ {A = ℕ} (cond s.is_wanted 1 0) 1 = ap (λ (b : Bool). cond b 1 0) is in omega (arith, count, one, spare)),
      λ is. let one : ◌≡◌ {A = ℕ} (cond s.is_wanted 1 0) 1 = ap (λ (b : Bool). cond b 1 0) is in omega (arith, count, one, numbers),
    )

pub taken_more : {D : Type 0} → (i : ℕ) (all now : List Source) (old v w : StoreValue D) (s x : Source) → i < length all → s ≡ get_or all i s → AreTakenTo i all now old v → w ≡ source_taken v s → x ≡ with_target v.files.highest s → AreTakenTo (i + 1) all (set now i x) old w
taken_more i all now old v w s x lt read so stored given =
    let front : take (i + 1) all ≡ take i all ++ s ∷ [] = take_more all i s lt ∙ ap (λ (y : Source). take i all ++ y ∷ []) (sym read) in
    let back : drop i all ≡ s ∷ drop (i + 1) all = drop_more all i s lt ∙ ap (λ (y : Source). y ∷ drop (i + 1) all) (sym read) in
    let count = sum_by_push (λ (o : Source). cond o.is_wanted 1 0) (take i all) s in
    let longer : count_by (λ o. o.is_wanted) (take (i + 1) all) ≡ count_by (λ o. o.is_wanted) (take i all) + cond s.is_wanted 1 0 = ap (count_by (λ o. o.is_wanted)) front ∙ count in
    let up = ap (λ (u : StoreValue _). u.files.highest) stored ∙ highest_step v s s.is_wanted in
    let was = so.highest in
    let long = given_long old.files.highest (take i all) in
    let short = length-take-le i all (omega (arith, lt)) in
    record {
      store = stored ∙ ap (λ (u : StoreValue _). source_taken u s) so.store ∙ sym (fold_push source_taken old (take i all) s) ∙ ap (λ (xs : List Source). all_taken xs old) (sym front);
      can = subst (λ (u : StoreValue _). CanTakeAll u (drop (i + 1) all)) (sym stored) (rest_step v s (drop (i + 1) all) s.is_wanted refl (subst (CanTakeAll v) back so.can));
      highest = omega (arith, up, was, longer);
      sources = ap (λ (xs : List Source). set xs i x) (so.sources ∙ ap (λ (xs : List Source). targets_given old.files.highest (take i all) ++ xs) back)
          ∙ set_at (targets_given old.files.highest (take i all)) s (drop (i + 1) all) x i (omega (arith, long, short))
          ∙ ap (λ (y : Source). targets_given old.files.highest (take i all) ++ y ∷ drop (i + 1) all) (given ∙ ap (λ (n : ℕ). with_target n s) was)
          ∙ sym (append_assoc (targets_given old.files.highest (take i all)) (with_target (old.files.highest + count_by (λ o. o.is_wanted) (take i all)) s ∷ []) (drop (i + 1) all))
          ∙ ap (λ (xs : List Source). xs ++ drop (i + 1) all) (sym (given_push old.files.highest (take i all) s) ∙ ap (targets_given old.files.highest) (sym front));
    }

pub taken_all : {D : Type 0} → (i : ℕ) (all now : List Source) (old v : StoreValue D) → length all ≤ i → AreTakenTo i all now old v → (v ≡ all_taken all old) × (now ≡ targets_given old.files.highest all)
taken_all i all now old v le so = (
  so.store ∙ ap (λ (xs : List Source). all_taken xs old) (take_all i all le),
  so.sources ∙ ap (λ (xs : List Source). targets_given old.files.highest xs ++ drop i all) (take_all i all le) ∙ ap (λ (xs : List Source). targets_given old.files.highest all ++ xs) (drop_all i all le) ∙ append-nil (targets_given old.files.highest all),
)
