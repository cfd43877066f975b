-- The files that a purge finds, one after another in order of number.
use Rattle.purge_task.proofs.Common.{◌≡◌, inl, inr, ℕ, ◌+◌, ◌-◌, ◌<◌, ◌≤◌, ◌==◌, ◌&&◌, Bool, true, false, cond, Option, Some, None, List, [], ◌∷◌, ◌++◌, length, All, refl, sym, ap, subst, ◌∙◌, arith, AllPairs, ◌⊎◌, Contains, find, is_some, IsSome, IsStrictlyIncreasing, option_map, option_map_or}
use Rattle.purge_task.proofs.Common.{cases_lt, cases_Bool, append-nil, All-nil, All-cons, All-push, All-weaker, Contains-push, Contains-append_left, History, IfTold, IsIdle, IsCleanFile, FileNo, equal_is, equal_yes, pairs_head, pairs_tail, found_holds, files_of, MailFile, end_in, StoreValue}
use Rattle.purge_task.proofs.Common.{greatest, Found, AreAllBut, HasFound, IsFoundFile, IsFullToEnd, MayBeEmptied, found_numbers, FoundFile}
use Rattle.std.specs.Option.{option_to_list}
use Rattle.std.proofs.lemmas.Bool.{and_from}
use Rattle.std.proofs.lemmas.List.{get_or_append_left, get_or_push, length_push, map-append}
use Rattle.disk_model.proofs.IdleLemmas.{idle-back}
use Rattle.storage_files.specs.Files.{file_past, is_number_past}
use Rattle.purge_task.specs.Found.{AreUncleanFound, targets_in, IsFileFound}
use Rattle.purge_task.proofs.WalkLemmas.{both, below_is, not_below, not_below_is, unequal}

-- ---- the file that comes next

abbrev ComesAfter : Option FileNo → MailFile → Bool
ComesAfter after f = is_some f.end && is_number_past after f.file.0

-- no file that comes after is before this one
abbrev NoneEarlier : Option FileNo → FileNo → MailFile → Type 0
NoneEarlier after file f = ComesAfter after f ≡ true → file.0 ≤ f.file.0

least_step : (after : Option FileNo) (file : FileNo) (x : MailFile) (xs : List MailFile) (b : Bool) → ComesAfter after x ≡ b → All (λ f. x.file.0 < f.file.0) xs → (option_map (λ f. f.file) (find (ComesAfter after) xs) ≡ Some file → All (NoneEarlier after file) xs)
    → option_map (λ f. f.file) (cond b (Some x) (find (ComesAfter after) xs)) ≡ Some file → All (NoneEarlier after file) (x ∷ xs)
least_step after file x xs true is more rest e =
    let same : x.file ≡ file = cc e in
    let n = ap (λ (f : FileNo). f.0) same in
    All-cons (NoneEarlier after file) x xs (λ p. omega (arith, n)) (All-weaker (λ f. x.file.0 < f.file.0) (NoneEarlier after file) (λ f lt p. omega (arith, n, lt)) xs more)
least_step after file x xs false is more rest e = All-cons (NoneEarlier after file) x xs (λ p. absurd (let w : false ≡ true = sym is ∙ p in cc w)) (rest e)

least_file : (after : Option FileNo) (files : List MailFile) (file : FileNo) → AllPairs (λ a b. a.file.0 < b.file.0) files → option_map (λ f. f.file) (find (ComesAfter after) files) ≡ Some file → All (NoneEarlier after file) files
least_file after [] file rising e = absurd (let w : None ≡ Some file = e in cc w)
least_file after (x ∷ xs) file rising e =
    least_step after file x xs (ComesAfter after x) refl (pairs_head (λ a b. a.file.0 < b.file.0) x xs rising) (least_file after xs file (pairs_tail (λ a b. a.file.0 < b.file.0) x xs rising)) e

some_of : (o : Option MailFile) (file : FileNo) → option_map (λ f. f.file) o ≡ Some file → (f : MailFile) × (o ≡ Some f) × (f.file ≡ file)
some_of None file e = absurd (let w : None ≡ Some file = e in cc w)
some_of (Some f) file e = (f, refl, cc e)

none_of : (o : Option MailFile) → option_map (λ f. f.file) o ≡ None → o ≡ None
none_of None e = refl
none_of (Some f) e = absurd (let w : Some f.file ≡ None = e in cc w)

-- it comes after, and is there
found_past : (after : Option FileNo) (files : List MailFile) (file : FileNo) → option_map (λ f. f.file) (find (ComesAfter after) files) ≡ Some file → (f : MailFile) × (find (ComesAfter after) files ≡ Some f) × (f.file ≡ file)
found_past after files file e = some_of (find (ComesAfter after) files) file e

pub next_passes : (after : Option FileNo) (files : List MailFile) (file : FileNo) → file_past after files ≡ Some file → is_number_past after file.0 ≡ true
next_passes after files file e =
    let b = found_past after files file e in
    let p = found_holds (ComesAfter after) files b.0 (λ f. Unit {0}) b.1 (λ k d lt. tt) in
    subst (λ (x : FileNo). is_number_past after x.0 ≡ true) b.2 (both (is_some b.0.end) (is_number_past after b.0.file.0) p.1).1

-- a file of this number comes after
free_comes : (after : Option FileNo) (files : List MailFile) (n : ℕ) (P : MailFile → Type 0) → MayBeEmptied files n → is_number_past after n ≡ true → All (λ f. ComesAfter after f ≡ true → P f) files → (f : MailFile) × (f.file.0 ≡ n) × P f
free_comes after files n P free past all =
    let h = found_holds (λ f. f.file.0 == n) files free.f (λ f. ComesAfter after f ≡ true → P f) free.known all in
    let is = equal_is free.f.file.0 n h.1 in
    (free.f, is, h.0 (and_from (is_some free.f.end) (is_number_past after free.f.file.0) free.there (subst (λ (k : ℕ). is_number_past after k ≡ true) (sym is) past)))

next_bound : (after : Option FileNo) (files : List MailFile) (file : FileNo) (n : ℕ) → AllPairs (λ a b. a.file.0 < b.file.0) files → file_past after files ≡ Some file → MayBeEmptied files n → is_number_past after n ≡ true → file.0 ≤ n
next_bound after files file n rising e free past =
    let b = free_comes after files n (λ f. file.0 ≤ f.file.0) free past (least_file after files file rising e) in
    let is = b.1 in
    let le = b.2 in
    omega (arith, is, le)

none_step : (after : Option FileNo) (x : MailFile) (xs : List MailFile) (b : Bool) → ComesAfter after x ≡ b → (find (ComesAfter after) xs ≡ None → All (λ f. ComesAfter after f ≡ true → ⊥) xs) → cond b (Some x) (find (ComesAfter after) xs) ≡ None → All (λ f. ComesAfter after f ≡ true → ⊥) (x ∷ xs)
none_step after x xs true is rest e = absurd (let w : Some x ≡ None = e in cc w)
none_step after x xs false is rest e = All-cons (λ f. ComesAfter after f ≡ true → ⊥) x xs (λ p. let w : false ≡ true = sym is ∙ p in cc w) (rest e)

none_come : (after : Option FileNo) (files : List MailFile) → find (ComesAfter after) files ≡ None → All (λ f. ComesAfter after f ≡ true → ⊥) files
none_come after [] e = All-nil (λ f. ComesAfter after f ≡ true → ⊥)
none_come after (x ∷ xs) e = none_step after x xs (ComesAfter after x) refl (none_come after xs) e

none_free : (after : Option FileNo) (files : List MailFile) (n : ℕ) → file_past after files ≡ None → MayBeEmptied files n → is_number_past after n ≡ false
none_free after files n e free =
    elim (cases_Bool (is_number_past after n)) [
      | inl past ↦ absurd (free_comes after files n (λ f. ⊥) free past (none_come after files (none_of (find (ComesAfter after) files) e))).2
      | inr not_past ↦ not_past
    ]

-- the file that comes next is there
there_step : (after : Option FileNo) (file : FileNo) (x : MailFile) (xs : List MailFile) (b : Bool) → ComesAfter after x ≡ b → All (λ f. x.file.0 < f.file.0) xs → (option_map (λ f. f.file) (find (ComesAfter after) xs) ≡ Some file → IsSome (end_in file.0 xs))
    → option_map (λ f. f.file) (cond b (Some x) (find (ComesAfter after) xs)) ≡ Some file → IsSome (end_in file.0 (x ∷ xs))
there_step after file x xs true is more rest e =
    let same : x.file ≡ file = cc e in
    rw (equal_yes x.file.0 file.0 (ap (λ (f : FileNo). f.0) same)) (both (is_some x.end) (is_number_past after x.file.0) is).0
there_step after file x xs false is more rest e =
    let b = found_past after xs file e in
    let h = found_holds (ComesAfter after) xs b.0 (λ f. x.file.0 < f.file.0) b.1 more in
    let lt = h.0 in
    let n = ap (λ (f : FileNo). f.0) b.2 in
    rw (unequal x.file.0 file.0 (λ s. omega (arith, s, lt, n))) (rest e)

pub next_there : (after : Option FileNo) (files : List MailFile) (file : FileNo) → AllPairs (λ a b. a.file.0 < b.file.0) files → file_past after files ≡ Some file → IsSome (end_in file.0 files)
next_there after [] file rising e = absurd (let w : None ≡ Some file = e in cc w)
next_there after (x ∷ xs) file rising e =
    there_step after file x xs (ComesAfter after x) refl (pairs_head (λ a b. a.file.0 < b.file.0) x xs rising) (next_there after xs file (pairs_tail (λ a b. a.file.0 < b.file.0) x xs rising)) e

-- and its number is one
pub next_below : (after : Option FileNo) (files : List MailFile) (file : FileNo) (most : ℕ) → All (λ f. f.file.0 ≤ most) files → file_past after files ≡ Some file → file.0 ≤ most
next_below after files file most all e =
    let b = found_past after files file e in
    let h = found_holds (ComesAfter after) files b.0 (λ f. f.file.0 ≤ most) b.1 all in
    subst (λ (f : FileNo). f.0 ≤ most) b.2 h.0

-- so fewer are left
pub fewer_left : (after : Option FileNo) (file : FileNo) → is_number_past after file.0 ≡ true → file.0 ≤ 4294967294 → 4294967295 - file.0 < option_map_or (λ f. 4294967295 - f.0) after 4294967296
fewer_left None file past le = omega arith
fewer_left (Some a) file past le = let lt = below_is a.0 file.0 past in omega (arith, lt, le)

-- ---- numbers that rise

pub increasing_push : (xs : List ℕ) (y : ℕ) → IsStrictlyIncreasing xs → All (λ x. x < y) xs → IsStrictlyIncreasing (xs ++ y ∷ [])
increasing_push xs y rising all = λ k lt.
    let long = length_push xs y in
    elim (cases_lt (k + 1) (length xs)) [
      | inl l ↦ (
          let a = get_or_append_left xs (y ∷ []) 0 k (omega (arith, l)) in
          let b = get_or_append_left xs (y ∷ []) 0 (k + 1) l in
          let h = rising k l in
          omega (arith, a, b, h)
          )
      | inr ge ↦ (
          let a = get_or_append_left xs (y ∷ []) 0 k (omega (arith, long, lt, ge)) in
          let b = get_or_push xs y 0 (k + 1) (omega (arith, long, lt, ge)) in
          let h = all k 0 (omega (arith, long, lt, ge)) in
          omega (arith, a, b, h)
          )
    ]

-- ---- so far

abbrev pub IsPassedOver : {D : Type 0} → StoreValue D → Option History → ℕ → Type 0
IsPassedOver store history n = IsFullToEnd store n × IfTold history (λ now. IsCleanFile (files_of now) store.map n)

-- what was found up to this file
pub record IsFoundUpTo {D : Type 0} (store : StoreValue D) (history : Option History) (after : Option FileNo) (files : List FoundFile) : Type 0 where
  pub rising : IsStrictlyIncreasing (found_numbers files)
  pub upto : All (λ n. is_number_past after n ≡ false) (found_numbers files)
  pub free : All (MayBeEmptied store.files.files) (found_numbers files)
  pub each : All (IsFoundFile store.map) files
  pub every : (n : ℕ) → MayBeEmptied store.files.files n → is_number_past after n ≡ false → Contains (found_numbers files) n ⊎ IsPassedOver store history n
  pub unclean : IfTold history (λ now. All (λ n. IsCleanFile (files_of now) store.map n → ⊥) (found_numbers files))

told_nil : {D : Type 0} → (store : StoreValue D) (history : Option History) → IfTold history (λ now. All (λ n. IsCleanFile (files_of now) store.map n → ⊥) [])
told_nil store None = tt
told_nil store (Some h) = All-nil (λ n. IsCleanFile (files_of h.now) store.map n → ⊥)

told_push : {D : Type 0} → (store : StoreValue D) (history : Option History) (files : List FoundFile) (f : FoundFile) (n : ℕ) → found_numbers (files ++ f ∷ []) ≡ found_numbers files ++ n ∷ [] → IfTold history (λ now. All (λ k. IsCleanFile (files_of now) store.map k → ⊥) (found_numbers files)) → IfTold history (λ now. IsCleanFile (files_of now) store.map n → ⊥) → IfTold history (λ now. All (λ k. IsCleanFile (files_of now) store.map k → ⊥) (found_numbers (files ++ f ∷ [])))
told_push store None files f n e a unclean = tt
told_push store (Some h) files f n e a unclean = subst (All (λ k. IsCleanFile (files_of h.now) store.map k → ⊥)) (sym e) (All-push (λ k. IsCleanFile (files_of h.now) store.map k → ⊥) (found_numbers files) n a unclean)

told_passed : {D : Type 0} → (store : StoreValue D) (history : Option History) (numbers : List ℕ) → IsStrictlyIncreasing numbers → All (MayBeEmptied store.files.files) numbers → ((n : ℕ) → MayBeEmptied store.files.files n → Contains numbers n ⊎ IsPassedOver store history n) → IfTold history (λ now. AreAllBut (IsCleanFile (files_of now) store.map) store.files.files numbers)
told_passed store None numbers rising free every = tt
told_passed store (Some h) numbers rising free every = record { rising = rising; free = free; every = λ n may. elim (every n may) [ inl has ↦ inl has | inr over ↦ inr over.1 ] }

pub find_begins : {D : Type 0} → (store : StoreValue D) (history : Option History) → IsFoundUpTo store history None []
find_begins store history = record {
  rising = λ k lt. absurd (omega (arith, lt));
  upto = All-nil (λ n. is_number_past None n ≡ false);
  free = All-nil (MayBeEmptied store.files.files);
  each = All-nil (IsFoundFile store.map);
  every = λ n free past. absurd (let w : true ≡ false = past in cc w);
  unclean = told_nil store history;
}

not_past_more : (after : Option FileNo) (file n : ℕ) → is_number_past after file ≡ true → is_number_past after n ≡ false → n < file
not_past_more None file n p q = absurd (let w : true ≡ false = q in cc w)
not_past_more (Some a) file n p q = let lt = below_is a.0 file p in let le = not_below_is a.0 n q in omega (arith, lt, le)

-- the numbers up to the next file
upto_next : {D : Type 0} → (store : StoreValue D) (after : Option FileNo) (file : FileNo) (n : ℕ) → AllPairs (λ a b. a.file.0 < b.file.0) store.files.files → file_past after store.files.files ≡ Some file → MayBeEmptied store.files.files n → is_number_past (Some file) n ≡ false → (is_number_past after n ≡ false) ⊎ (n ≡ file.0)
upto_next store after file n rising e free q =
    elim (cases_Bool (is_number_past after n)) [
      | inr before ↦ inl before
      | inl past ↦ (let low = next_bound after store.files.files file n rising e free past in let high = not_below_is file.0 n q in inr (omega (arith, low, high)))
    ]

-- the next file is passed over
pub find_passes : {D : Type 0} → (store : StoreValue D) (history : Option History) (after : Option FileNo) (file : FileNo) (files : List FoundFile) → AllPairs (λ a b. a.file.0 < b.file.0) store.files.files → file_past after store.files.files ≡ Some file
    → IsFileFound store history file.0 None → IsFoundUpTo store history after files → IsFoundUpTo store history (Some file) files
find_passes store history after file files rising e passed so = record {
  rising = so.rising;
  upto = All-weaker (λ n. is_number_past after n ≡ false) (λ n. is_number_past (Some file) n ≡ false) (λ n q. (let lt = not_past_more after file.0 n (next_passes after store.files.files file e) q in not_below file.0 n (omega (arith, lt)))) (found_numbers files) so.upto;
  free = so.free;
  each = so.each;
  every = λ n free q. elim (upto_next store after file n rising e free q) [
    | inl before ↦ so.every n free before
    | inr same ↦ elim passed [
      | inl taken ↦ absurd (taken (subst (MayBeEmptied store.files.files) same free))
      | inr over ↦ inr (subst (IsPassedOver store history) (sym same) over)
    ]
  ];
  unclean = so.unclean;
}

-- what is found goes by the disk as it is read
pub found_back : {D : Type 0} → (store : StoreValue D) (old new : Option History) (n : ℕ) (o : Option FoundFile) → IsIdle old new → IsFileFound store new n o → IsFileFound store old n o
found_back store old new n None idle (inl taken) = inl taken
found_back store old new n None idle (inr over) = inr (over.0, idle-back (λ now. IsCleanFile (files_of now) store.map n) old new idle over.1)
found_back store old new n (Some f) idle is = (is.0, is.1, is.2, idle-back (λ now. IsCleanFile (files_of now) store.map n → ⊥) old new idle is.3)

-- the next file is found
pub find_adds : {D : Type 0} → (store : StoreValue D) (history : Option History) (after : Option FileNo) (file : FileNo) (files : List FoundFile) (f : FoundFile) → AllPairs (λ a b. a.file.0 < b.file.0) store.files.files → file_past after store.files.files ≡ Some file
    → IsFileFound store history file.0 (Some f) → IsFoundUpTo store history after files → IsFoundUpTo store history (Some file) (files ++ f ∷ [])
find_adds store history after file files f rising e is so =
    let numbers : found_numbers (files ++ f ∷ []) ≡ found_numbers files ++ file.0 ∷ [] = map-append (λ x. x.file.0) files (f ∷ []) ∙ ap (λ (n : ℕ). found_numbers files ++ n ∷ []) is.0 in
    let past = next_passes after store.files.files file e in
    let less : All (λ n. n < file.0) (found_numbers files) = All-weaker (λ n. is_number_past after n ≡ false) (λ n. n < file.0) (λ n q. not_past_more after file.0 n past q) (found_numbers files) so.upto in
    record {
      rising = subst IsStrictlyIncreasing (sym numbers) (increasing_push (found_numbers files) file.0 so.rising less);
      upto = subst (All (λ n. is_number_past (Some file) n ≡ false)) (sym numbers) (All-push (λ n. is_number_past (Some file) n ≡ false) (found_numbers files) file.0 (All-weaker (λ n. n < file.0) (λ n. is_number_past (Some file) n ≡ false) (λ n lt. not_below file.0 n (omega (arith, lt))) (found_numbers files) less) (not_below file.0 file.0 (omega arith)));
      free = subst (All (MayBeEmptied store.files.files)) (sym numbers) (All-push (MayBeEmptied store.files.files) (found_numbers files) file.0 so.free is.1);
      each = All-push (IsFoundFile store.map) files f so.each is.2;
      every = λ n free q. elim (upto_next store after file n rising e free q) [
        | inl before ↦ elim (so.every n free before) [
          | inl has ↦ inl (subst (λ (ns : List ℕ). Contains ns n) (sym numbers) (Contains-append_left (found_numbers files) (file.0 ∷ []) n has))
          | inr over ↦ inr over
        ]
        | inr same ↦ inl (subst (λ (ns : List ℕ). Contains ns n) (sym numbers) (subst (Contains (found_numbers files ++ file.0 ∷ [])) (sym same) (Contains-push (found_numbers files) file.0)))
      ];
      unclean = told_push store history files f file.0 numbers so.unclean is.3;
    }

pub find_more : {D : Type 0} → (store : StoreValue D) (history : Option History) (after : Option FileNo) (file : FileNo) (files more : List FoundFile) (o : Option FoundFile) → AllPairs (λ a b. a.file.0 < b.file.0) store.files.files → file_past after store.files.files ≡ Some file
    → IsFileFound store history file.0 o → more ≡ files ++ option_to_list o → IsFoundUpTo store history after files → IsFoundUpTo store history (Some file) more
find_more store history after file files more None rising e is added so = subst (IsFoundUpTo store history (Some file)) (sym (added ∙ append-nil files)) (find_passes store history after file files rising e is so)
find_more store history after file files more (Some f) rising e is added so = subst (IsFoundUpTo store history (Some file)) (sym added) (find_adds store history after file files f rising e is so)

-- a store with another disk
pub disk_then : {D : Type 0} → (old now new : StoreValue D) → now ≡ record old { disk = now.disk } → new ≡ record now { disk = new.disk } → new ≡ record old { disk = new.disk }
disk_then old now new first second = second ∙ ap (λ (v : StoreValue _). record v { disk = new.disk }) first

pub found_same : {D : Type 0} → (old now : StoreValue D) (history : Option History) (n : ℕ) (o : Option FoundFile) → now ≡ record old { disk = now.disk } → IsFileFound now history n o → IsFileFound old history n o
found_same old now history n None same is = subst (λ (v : StoreValue _). IsFileFound v history n None) same is
found_same old now history n (Some f) same is = subst (λ (v : StoreValue _). IsFileFound v history n (Some f)) same is

pub files_same : {D : Type 0} → (old now : StoreValue D) → now ≡ record old { disk = now.disk } → now.files ≡ old.files
files_same old now same = ap (λ (v : StoreValue _). v.files) same

-- behind the last
pub find_ends : {D : Type 0} → (store : StoreValue D) (history : Option History) (after : Option FileNo) (files : List FoundFile) → file_past after store.files.files ≡ None → IsFoundUpTo store history after files → AreUncleanFound store history files
find_ends store history after files e so = record {
  finds = record {
    known = record {
      rising = so.rising;
      free = so.free;
      every = λ n free. elim (so.every n free (none_free after store.files.files n e free)) [ inl has ↦ inl has | inr over ↦ inr over.0 ];
    };
    passed = told_passed store history (found_numbers files) so.rising so.free (λ n free. so.every n free (none_free after store.files.files n e free));
    unclean = so.unclean;
  };
  each = so.each;
}

-- ---- what is counted of them

pub has_found : {D : Type 0} → (store : StoreValue D) (history : Option History) (found : Found) (listed : List FoundFile) (drawn : ℕ) → AreUncleanFound store history found.files.items → listed ≡ found.files.items → drawn ≡ store.files.highest → (found.targets ≡ targets_in listed) × (drawn + found.targets ≤ 4294967294) × All (λ f. 9 + f.octets ≤ 4294967294) listed
    → found.most ≡ greatest (λ f. f.messages) listed → HasFound store history found
has_found store history found listed drawn are list_is is counted most =
    let fits = counted.1 in
    record {
      files = are;
      targets = counted.0 ∙ ap targets_in list_is;
      most = most ∙ ap (greatest (λ f. f.messages)) list_is;
      numbers = omega (arith, fits, is);
      short = λ k d lt. (let octets = (are.each k d lt).octets in let le = subst (All (λ f. 9 + f.octets ≤ 4294967294)) list_is counted.2 k d lt in omega (arith, octets, le));
    }
