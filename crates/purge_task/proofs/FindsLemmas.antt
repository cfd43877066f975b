-- The files that a purge finds are those that its run says it has to take.
use Rattle.purge_task.proofs.Common.{◌≡◌, ◌≤◌, ◌<◌, ◌+◌, ◌==◌, ◌||◌, ℕ, Bool, true, false, List, [], ◌∷◌, Option, Some, None, refl, sym, ◌∙◌, ap, subst, arith, All, inl, inr, AllPairs, Contains, IsSome, is_some, option_and_then, option_map_or, eq-eqb, All-cons, All-contains, All-contains_itself}
use Rattle.purge_task.proofs.Common.{All-head, All-nil, All-tail, All-weaker, Contains-append_right, Faults, History, MapMeaning, MapRecord, is_sealed, IsSoundMap, IsSoundRecord, among, Run, RunTo, file_in, is_emptied_in, is_taken_in, MailFile, AreFilesKept, knows_file, StoreValue, HasComeTo}
use Rattle.purge_task.proofs.Common.{seen_by_purge, AreAllBut, IsFullToEnd, MayBeEmptied, fall}
use Rattle.std.proofs.Common.{◌⊎◌}
use Rattle.std.specs.Prelude.{◌≢◌}
use Rattle.journal.specs.Found.{FindsFiles, HasGap, IsFreeFile, is_named_file}
use Rattle.purge_task.specs.Clause.{TellsUses}
use Rattle.purge_task.proofs.FreeInstanceLemmas.{any_has}

-- ---- regions in a row

none_contained : {X : Type 0} → (x : X) → Contains [] x → ⊥
none_contained x c = let l = c.1 in omega (arith, l)

behind_first : {X : Type 0} → (y : X) (ys : List X) (x : X) → Contains ys x → Contains (y ∷ ys) x
behind_first y ys x c = Contains-append_right (y ∷ []) ys x c

offsets_from : (start end : ℕ) (rows : List MapRecord) → RunTo start rows end → All (λ row. start ≤ row.offset) rows
offsets_from start end [] h = All-nil _
offsets_from start end (r ∷ rows) h =
    All-cons (λ (row : MapRecord). start ≤ row.offset) r rows (let e = h.0 in omega (arith, e)) (All-weaker (λ (row : MapRecord). start + r.size ≤ row.offset) (λ (row : MapRecord). start ≤ row.offset) (λ row l. omega (arith, l)) rows (offsets_from (start + r.size) end rows h.1))

-- between two regions of a row that don't touch lies another
next_region : (first second : MapRecord) (end : ℕ) (rows : List MapRecord) → RunTo (first.offset + first.size) rows end → 1 ≤ first.size → Contains rows second → first.offset + first.size < second.offset → (row : MapRecord) × Contains rows row × (first.offset < row.offset) × (row.offset < second.offset)
next_region first second end [] h some there apart = absurd (none_contained second there)
next_region first second end (r ∷ rows) h some there apart =
    (r, All-head (λ (x : MapRecord). Contains (r ∷ rows) x) r rows (All-contains_itself (r ∷ rows)), (let e = h.0 in omega (arith, e, some)), (let e = h.0 in omega (arith, e, apart)))

region_between : (start end : ℕ) (rows : List MapRecord) (first second : MapRecord) → RunTo start rows end → All (λ row. 1 ≤ row.size) rows → Contains rows first → Contains rows second → first.offset + first.size < second.offset
    → (row : MapRecord) × Contains rows row × (first.offset < row.offset) × (row.offset < second.offset)
region_between start end [] first second h sizes f s apart = absurd (none_contained first f)
region_between start end (r ∷ rows) first second h sizes f s apart = by_case (among r rows first f) (among r rows second s) (λ a b. region_between (start + r.size) end rows first second h.1 (All-tail (λ (row : MapRecord). 1 ≤ row.size) r rows sizes) a b apart)
  where
    widen : ((row : MapRecord) × Contains rows row × (first.offset < row.offset) × (row.offset < second.offset)) → (row : MapRecord) × Contains (r ∷ rows) row × (first.offset < row.offset) × (row.offset < second.offset)
    widen w = (w.0, behind_first r rows w.0 w.1, w.2, w.3)

    by_case : (r ≡ first) ⊎ Contains rows first → (r ≡ second) ⊎ Contains rows second → (Contains rows first → Contains rows second → (row : MapRecord) × Contains rows row × (first.offset < row.offset) × (row.offset < second.offset))
        → (row : MapRecord) × Contains (r ∷ rows) row × (first.offset < row.offset) × (row.offset < second.offset)
    by_case (inl a) (inl b) rest = absurd (let e : first.offset ≡ second.offset = ap (λ (x : MapRecord). x.offset) (sym a ∙ b) in omega (arith, e, apart))
    by_case (inl a) (inr b) rest =
        let offset : first.offset ≡ start = ap (λ (x : MapRecord). x.offset) (sym a) ∙ h.0 in
        let size : first.size ≡ r.size = ap (λ (x : MapRecord). x.size) (sym a) in
        widen (next_region first second end rows (subst (λ (n : ℕ). RunTo n rows end) (omega (arith, offset, size)) h.1) (let l = All-head (λ (row : MapRecord). 1 ≤ row.size) r rows sizes in omega (arith, l, size)) b apart)
    by_case (inr a) (inl b) rest = absurd (let offset : second.offset ≡ start = ap (λ (x : MapRecord). x.offset) (sym b) ∙ h.0 in let l = All-contains (λ (row : MapRecord). start + r.size ≤ row.offset) rows first (offsets_from (start + r.size) end rows h.1) a in omega (arith, offset, l, apart))
    by_case (inr a) (inr b) rest = widen (rest a b)

-- ---- files that may be emptied, by the store and by the run

either_none : (a b : Bool) → (a || b) ≡ false → (a ≡ false) × (b ≡ false)
either_none false b e = (refl, e)
either_none true b e = absurd (cc e)

none_both : (a b : Bool) → a ≡ false → b ≡ false → (a || b) ≡ false
none_both a b x y = rw (x, y) refl

some_is : {X : Type 0} → (o : Option X) → IsSome o → is_some o ≡ true
some_is None h = h
some_is (Some x) h = refl

free_of : {D : Type 0} → (run : Run) (store : StoreValue D) (history : Option History) (faults : Faults) (n : ℕ) → HasComeTo run (seen_by_purge store history faults) → store.stopped ≡ false → TellsUses run store → AreFilesKept store.files store.drawn store.map → MayBeEmptied store.files.files n → IsFreeFile run n
free_of run store history faults n come runs uses kept h = record {
  some = kept.numbered n h.f h.known;
  known = come.files n (ap (λ (o : Option MailFile). is_some (option_and_then (λ f. f.end) o)) h.known ∙ some_is h.f.end h.there);
  untaken = uses.taken n (kept.numbered n h.f h.known)
      ∙ none_both (is_taken_in n store.files.files) (is_emptied_in n store.files.files) (ap (λ (o : Option MailFile). option_map_or (λ f. f.taken) o false) h.known ∙ h.untaken.untaken) (ap (λ (o : Option MailFile). option_map_or (λ f. f.emptied) o false) h.known ∙ h.untaken.unemptied);
  unsealed = ap (λ (m : MapMeaning). is_sealed m n) come.come.map_is ∙ (sym (kept.sealed n h.f h.known) ∙ h.unsealed);
  undoomed = (come.keeps runs).doomed n ∙ (ap (λ (o : Option MailFile). option_map_or (λ f. f.doomed) o false) h.known ∙ h.untaken.undoomed);
}

emptied_of : {D : Type 0} → (run : Run) (store : StoreValue D) (history : Option History) (faults : Faults) (n : ℕ) → HasComeTo run (seen_by_purge store history faults) → store.stopped ≡ false → TellsUses run store → AreFilesKept store.files store.drawn store.map → IsFreeFile run n → MayBeEmptied store.files.files n
emptied_of run store history faults n come runs uses kept h = by_case (file_in n store.files.files) refl
  where
    there : knows_file store n ≡ true
    there = (come.keeps runs).files n h.unsealed h.known

    used : (is_taken_in n store.files.files ≡ false) × (is_emptied_in n store.files.files ≡ false)
    used = either_none (is_taken_in n store.files.files) (is_emptied_in n store.files.files) (sym (uses.taken n h.some) ∙ h.untaken)

    some_of : (o : Option ℕ) → is_some o ≡ true → IsSome o
    some_of None e = e
    some_of (Some x) e = refl

    by_case : (o : Option MailFile) → file_in n store.files.files ≡ o → MayBeEmptied store.files.files n
    by_case None is = absurd (let k : false ≡ true = sym (ap (λ (o : Option MailFile). is_some (option_and_then (λ f. f.end) o)) is) ∙ there in cc k)
    by_case (Some f) is = record {
      f = f;
      known = is;
      there = some_of f.end (sym (ap (λ (o : Option MailFile). is_some (option_and_then (λ f. f.end) o)) is) ∙ there);
      untaken = record {
        untaken = sym (ap (λ (o : Option MailFile). option_map_or (λ f. f.taken) o false) is) ∙ used.0;
        unemptied = sym (ap (λ (o : Option MailFile). option_map_or (λ f. f.emptied) o false) is) ∙ used.1;
        undoomed = sym (ap (λ (o : Option MailFile). option_map_or (λ f. f.doomed) o false) is) ∙ (sym ((come.keeps runs).doomed n) ∙ h.undoomed);
      };
      unsealed = kept.sealed n f is ∙ (sym (ap (λ (m : MapMeaning). is_sealed m n) come.come.map_is) ∙ h.unsealed);
    }

-- ---- all of them

neither : (n a b : ℕ) → a < n → n < b → (n ≤ a) ⊎ (b ≤ n) → ⊥
neither n a b x y (inl l) = omega (arith, x, l)
neither n a b x y (inr l) = omega (arith, y, l)

first_named : (n : ℕ) (m : MapMeaning) (rows : List MapRecord) → rows ≢ [] → All (λ row. Contains m.records row × (row.file ≡ n) × (1 ≤ row.count)) rows → is_named_file m n ≡ false → ⊥
first_named n m [] some mapped none = some refl
first_named n m (r ∷ rows) some mapped none =
    let h = All-head (λ (row : MapRecord). Contains m.records row × (row.file ≡ n) × (1 ≤ row.count)) r rows mapped in
    fall (is_named_file m n) (any_has (λ (row : MapRecord). row.file == n) m.records r h.0 (eq-eqb r.file n h.1)) none

pub finds_files : {D : Type 0} → (run : Run) (store : StoreValue D) (history : Option History) (faults : Faults) (numbers : List ℕ) → HasComeTo run (seen_by_purge store history faults) → store.stopped ≡ false → TellsUses run store → AreFilesKept store.files store.drawn store.map → IsSoundMap store.map → AllPairs (λ a b. a < b) numbers
    → AreAllBut (IsFullToEnd store) store.files.files numbers → FindsFiles run numbers
finds_files run store history faults numbers come runs uses kept sound rising found = record {
  once = λ i j d lt le same. let l = rising i j d lt le in omega (arith, l, same);
  free = All-weaker (MayBeEmptied store.files.files) (IsFreeFile run) (λ n h. free_of run store history faults n come runs uses kept h) numbers found.free;
  every = subst (λ (m : MapMeaning). All (λ row. row.count ≡ 0 → IsFreeFile run row.file → Contains numbers row.file) m.records) (sym come.come.map_is)
      (All-weaker (Contains store.map.records) (λ row. row.count ≡ 0 → IsFreeFile run row.file → Contains numbers row.file) (λ row there none free. by_unwanted row there none (found.every row.file (emptied_of run store history faults row.file come runs uses kept free))) store.map.records (All-contains_itself store.map.records));
  bare = λ n free none. by_bare n (sym (ap (λ (m : MapMeaning). is_named_file m n) come.come.map_is) ∙ none) (found.every n (emptied_of run store history faults n come runs uses kept free));
  gaps = λ n free gap. by_gap n (subst (λ (m : MapMeaning). HasGap m n) come.come.map_is gap) (found.every n (emptied_of run store history faults n come runs uses kept free));
}
  where
    by_unwanted : (row : MapRecord) → Contains store.map.records row → row.count ≡ 0 → Contains numbers row.file ⊎ IsFullToEnd store row.file → Contains numbers row.file
    by_unwanted row there none (inl c) = c
    by_unwanted row there none (inr full) = absurd (
        let rows = full.3.0 in let h = full.3.1 in
        let in_row = All-contains (λ (r : MapRecord). r.file ≡ row.file → Contains rows r) store.map.records row h.every there refl in
        let l = (All-contains (λ (r : MapRecord). Contains store.map.records r × (r.file ≡ row.file) × (1 ≤ r.count)) rows row h.mapped in_row).2 in
        omega (arith, l, none))

    by_bare : (n : ℕ) → is_named_file store.map n ≡ false → Contains numbers n ⊎ IsFullToEnd store n → Contains numbers n
    by_bare n none (inl c) = c
    by_bare n none (inr full) = absurd (first_named n store.map full.3.0 full.3.1.some full.3.1.mapped none)

    by_gap : (n : ℕ) → HasGap store.map n → Contains numbers n ⊎ IsFullToEnd store n → Contains numbers n
    by_gap n gap (inl c) = c
    by_gap n gap (inr full) = absurd (
        let rows = full.3.0 in let h = full.3.1 in
        let first = All-contains (λ (r : MapRecord). r.file ≡ n → Contains rows r) store.map.records gap.first h.every gap.first_here.0 gap.first_here.1 in
        let second = All-contains (λ (r : MapRecord). r.file ≡ n → Contains rows r) store.map.records gap.second h.every gap.second_here.0 gap.second_here.1 in
        let sizes = All-weaker (λ (r : MapRecord). Contains store.map.records r × (r.file ≡ n) × (1 ≤ r.count)) (λ (r : MapRecord). 1 ≤ r.size) (λ r m. (All-contains (IsSoundRecord store.map.highest.map) store.map.records r sound.records m.0).size) rows h.mapped in
        let between = region_between full.0 full.1 rows gap.first gap.second h.whole sizes first second gap.apart in
        let mapped = All-contains (λ (r : MapRecord). Contains store.map.records r × (r.file ≡ n) × (1 ≤ r.count)) rows between.0 h.mapped between.1 in
        let beside = All-contains (λ (r : MapRecord). r.file ≡ n → (r.offset ≤ gap.first.offset) ⊎ (gap.second.offset ≤ r.offset)) store.map.records between.0 gap.none_between mapped.0 mapped.1 in
        neither between.0.offset gap.first.offset gap.second.offset between.2 between.3 beside)
