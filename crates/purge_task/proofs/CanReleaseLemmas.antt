-- What a purge has taken can be given back.
use Rattle.purge_task.proofs.Common.{◌≡◌, ◌≢◌, ◌<◌, ◌||◌, ℕ, Bool, true, false, List, [], ◌∷◌, get_or, Option, Some, None, refl, sym, ◌∙◌, ap, subst, arith, inl, inr, All, AllPairs, is_some, if◌then◌else◌, IfSome, option_map, option_map_or, cases_eq, History, All-cons, All-head, All-nil, All-tail}
use Rattle.purge_task.proofs.Common.{FileNo, pairs_head, pairs_tail, IsUsedFile, changed_in, end_in, ending_at, file_in, given_back, is_emptied_in, is_taken_in, released_in, without_file, MailFile, file-here, file-other, file-without, StoreValue, sources_left, AreSourcesApart, HasPurged}
use Rattle.purge_task.proofs.Common.{IsCopyingFirst, IsTargetToMake, IsToBegin, target_released, CanRelease, Source, Work, fall}
use Rattle.purge_task.specs.Taken.{source_released}
use Rattle.purge_task.specs.declared.task.PurgeStage.TheVariants as stage
use Rattle.purge_task.proofs.BareCallLemmas.{emptied_file, untaken_in}

-- it is emptied, and its target is taken
pub record IsHeldIn (files : List MailFile) (source : Source) : Type 0 where
  pub emptied : is_emptied_in source.file.0 files ≡ true
  pub taken : IfSome source.target (λ t. is_taken_in t.0 files ≡ true)

-- they are other files, and so are their targets
pub record AreClear (a b : Source) : Type 0 where
  pub file : b.file.0 ≢ a.file.0
  pub from_target : IfSome a.target (λ t. b.file.0 ≢ t.0)
  pub target : IfSome b.target (λ u. u.0 ≢ a.file.0)
  pub targets : IfSome a.target (λ t. IfSome b.target (λ u. u.0 ≢ t.0))

pub released_other : (n m : ℕ) (files : List MailFile) → m ≢ n → file_in m (released_in n files) ≡ file_in m files
released_other n m files apart = by_flag (is_some (end_in n files))
  where
    by_flag : (b : Bool) → file_in m (if b then changed_in n given_back files else without_file n files) ≡ file_in m files
    by_flag true = file-other n m given_back files (λ f. refl) apart
    by_flag false = file-without n m files apart

target_other : (target : Option FileNo) (m : ℕ) (files : List MailFile) → IfSome target (λ t. m ≢ t.0) → file_in m (target_released target files) ≡ file_in m files
target_other None m files apart = refl
target_other (Some t) m files apart = released_other t.0 m files apart

pub source_other : (source : Source) (m : ℕ) (files : List MailFile) → m ≢ source.file.0 → IfSome source.target (λ t. m ≢ t.0) → file_in m (source_released files source) ≡ file_in m files
source_other source m files apart target = target_other source.target m (released_in source.file.0 files) target ∙ released_other source.file.0 m files apart

or_true : (a b : Bool) → b ≡ true → (a || b) ≡ true
or_true true b e = refl
or_true false b e = e

-- a later one is held still
held_still : (source s : Source) (files : List MailFile) → AreClear source s → IsHeldIn files s → IsHeldIn (source_released files source) s
held_still source s files clear h = record {
  emptied = ap (λ (o : Option MailFile). option_map_or (λ f. f.emptied) o false) (source_other source s.file.0 files clear.file clear.from_target) ∙ h.emptied;
  taken = by_target s.target clear.target clear.targets h.taken;
}
  where
    by_target : (o : Option FileNo) → IfSome o (λ u. u.0 ≢ source.file.0) → IfSome source.target (λ t. IfSome o (λ u. u.0 ≢ t.0)) → IfSome o (λ u. is_taken_in u.0 files ≡ true) → IfSome o (λ u. is_taken_in u.0 (source_released files source) ≡ true)
    by_target None apart targets taken = tt
    by_target (Some u) apart targets taken = ap (λ (o : Option MailFile). option_map_or (λ f. f.taken) o false) (source_other source u.0 files apart targets) ∙ taken

pub can_release : (sources : List Source) (files : List MailFile) → All (λ s. IfSome s.target (λ t. t.0 ≢ s.file.0)) sources → All (IsHeldIn files) sources → AllPairs AreClear sources → CanRelease sources files
can_release [] files own held clear = tt
can_release (source ∷ left) files own held clear =
    let h = All-head (IsHeldIn files) source left held in (
      or_true (is_taken_in source.file.0 files) (is_emptied_in source.file.0 files) h.emptied,
      target_held source.target (All-head (λ (s : Source). IfSome s.target (λ t. t.0 ≢ s.file.0)) source left own) h.taken,
      can_release left (source_released files source) (All-tail (λ (s : Source). IfSome s.target (λ t. t.0 ≢ s.file.0)) source left own)
          (each left (pairs_head AreClear source left clear) (All-tail (IsHeldIn files) source left held)) (pairs_tail AreClear source left clear),
    )
  where
    target_held : (o : Option FileNo) → IfSome o (λ t. t.0 ≢ source.file.0) → IfSome o (λ t. is_taken_in t.0 files ≡ true) → IfSome o (λ t. is_taken_in t.0 (released_in source.file.0 files) ≡ true)
    target_held None apart taken = tt
    target_held (Some t) apart taken = ap (λ (o : Option MailFile). option_map_or (λ f. f.taken) o false) (released_other source.file.0 t.0 files apart) ∙ taken

    each : (l : List Source) → All (AreClear source) l → All (IsHeldIn files) l → All (IsHeldIn (source_released files source)) l
    each [] clear h = All-nil _
    each (s ∷ l) clear h = All-cons (IsHeldIn (source_released files source)) s l (held_still source s files (All-head (AreClear source) s l clear) (All-head (IsHeldIn files) s l h))
        (each l (All-tail (AreClear source) s l clear) (All-tail (IsHeldIn files) s l h))

-- one file isn't emptied and taken to add to it
other_use : (n t : ℕ) (files : List MailFile) → All IsUsedFile files → is_emptied_in n files ≡ true → is_taken_in t files ≡ true → n ≢ t
other_use n t files used emptied taken same = fall (is_taken_in t files) taken (subst (λ (i : ℕ). is_taken_in i files ≡ false) same (untaken_in n files (emptied_file n files used emptied)))

pub held_clear : (a b : Source) (files : List MailFile) → All IsUsedFile files → a.file.0 < b.file.0 → IfSome a.target (λ t. IfSome b.target (λ u. t.0 < u.0)) → IsHeldIn files a → IsHeldIn files b → AreClear a b
held_clear a b files used below targets h k = record {
  file = λ same. omega (arith, same, below);
  from_target = from a.target h.taken;
  target = to b.target k.taken;
  targets = both a.target b.target targets;
}
  where
    from : (o : Option FileNo) → IfSome o (λ t. is_taken_in t.0 files ≡ true) → IfSome o (λ t. b.file.0 ≢ t.0)
    from None taken = tt
    from (Some t) taken = other_use b.file.0 t.0 files used k.emptied taken

    to : (o : Option FileNo) → IfSome o (λ u. is_taken_in u.0 files ≡ true) → IfSome o (λ u. u.0 ≢ a.file.0)
    to None taken = tt
    to (Some u) taken = λ same. other_use a.file.0 u.0 files used h.emptied taken (sym same)

    both : (o p : Option FileNo) → IfSome o (λ t. IfSome p (λ u. t.0 < u.0)) → IfSome o (λ t. IfSome p (λ u. u.0 ≢ t.0))
    both None p l = tt
    both (Some t) None l = tt
    both (Some t) (Some u) l = λ same. let k : t.0 < u.0 = l in omega (arith, k, same)

-- All that are held can be given back.
pub held_release : (sources : List Source) (files : List MailFile) → All IsUsedFile files → AreSourcesApart sources → All (IsHeldIn files) sources → CanRelease sources files
held_release sources files used apart held = can_release sources files (own sources held) held
    (λ i j d lt lj. held_clear (get_or sources i d) (get_or sources j d) files used (apart.files i j d lt lj) (apart.targets i j d lt lj) (held i d (omega (arith, lt, lj))) (held j d lj))
  where
    own : (l : List Source) → All (IsHeldIn files) l → All (λ s. IfSome s.target (λ t. t.0 ≢ s.file.0)) l
    own [] h = All-nil _
    own (s ∷ l) h = All-cons (λ (x : Source). IfSome x.target (λ t. t.0 ≢ x.file.0)) s l (by_target s.target (All-head (IsHeldIn files) s l h).taken) (own l (All-tail (IsHeldIn files) s l h))
      where
        by_target : (o : Option FileNo) → IfSome o (λ t. is_taken_in t.0 files ≡ true) → IfSome o (λ t. t.0 ≢ s.file.0)
        by_target None taken = tt
        by_target (Some t) taken = λ same. other_use s.file.0 t.0 files used (All-head (IsHeldIn files) s l h).emptied taken (sym same)

-- ---- what is left to copy

begun_held : {D : Type 0} → (work : Work) (store : StoreValue D) (s : Source) → IsToBegin work store s → IsHeldIn store.files.files s
begun_held work store s h = record { emptied = h.emptied; taken = by_target s.target h.target }
  where
    by_target : (o : Option FileNo) → IsTargetToMake s.file.0 o store → IfSome o (λ t. is_taken_in t.0 store.files.files ≡ true)
    by_target None h = tt
    by_target (Some t) h = h.0.taken

pub copying_held : {D : Type 0} → (work : Work) (store : StoreValue D) (history : Option History) → HasPurged (stage.Copying work) store history → All (IsHeldIn store.files.files) (sources_left work)
copying_held work store history h = by_left (sources_left work) h.2
  where
    rest : (l : List Source) → All (IsToBegin work store) l → All (IsHeldIn store.files.files) l
    rest [] each = All-nil _
    rest (s ∷ l) each = All-cons (IsHeldIn store.files.files) s l (begun_held work store s (All-head (IsToBegin work store) s l each)) (rest l (All-tail (IsToBegin work store) s l each))

    by_left : (l : List Source) → IsCopyingFirst l work store history → All (IsHeldIn store.files.files) l
    by_left [] none = absurd none
    by_left (s ∷ l) first = All-cons (IsHeldIn store.files.files) s l (record { emptied = first.0.emptied; taken = subst (λ (o : Option FileNo). IfSome o (λ t. is_taken_in t.0 store.files.files ≡ true)) (sym first.0.target_is) first.0.copying.taken }) (rest l first.1)

-- a target that has grown is held as before, and so are the others
pub grown_held : (n end : ℕ) (files : List MailFile) (sources : List Source) → All (IsHeldIn files) sources → All (IsHeldIn (changed_in n (ending_at end) files)) sources
grown_held n end files [] h = All-nil _
grown_held n end files (s ∷ l) h = All-cons (IsHeldIn (changed_in n (ending_at end) files)) s l one (grown_held n end files l (All-tail (IsHeldIn files) s l h))
  where
    mapped : (value : MailFile → Bool) (o : Option MailFile) → ((f : MailFile) → value (ending_at end f) ≡ value f) → option_map_or value (option_map (ending_at end) o) false ≡ option_map_or value o false
    mapped value None same = refl
    mapped value (Some f) same = same f

    keeps : (value : MailFile → Bool) (m : ℕ) → ((f : MailFile) → value (ending_at end f) ≡ value f) → option_map_or value (file_in m (changed_in n (ending_at end) files)) false ≡ option_map_or value (file_in m files) false
    keeps value m same = elim (cases_eq m n) [
      | inl is ↦ subst (λ (i : ℕ). option_map_or value (file_in i (changed_in n (ending_at end) files)) false ≡ option_map_or value (file_in i files) false) (sym is) (ap (λ (o : Option MailFile). option_map_or value o false) (file-here n (ending_at end) files (λ f. refl)) ∙ mapped value (file_in n files) same)
      | inr apart ↦ ap (λ (o : Option MailFile). option_map_or value o false) (file-other n m (ending_at end) files (λ f. refl) apart)
    ]

    by_target : (o : Option FileNo) → IfSome o (λ t. is_taken_in t.0 files ≡ true) → IfSome o (λ t. is_taken_in t.0 (changed_in n (ending_at end) files) ≡ true)
    by_target None taken = tt
    by_target (Some t) taken = keeps (λ f. f.taken) t.0 (λ f. refl) ∙ taken

    one : IsHeldIn (changed_in n (ending_at end) files) s
    one = let k = All-head (IsHeldIn files) s l h in record { emptied = keeps (λ f. f.emptied) s.file.0 (λ f. refl) ∙ k.emptied; taken = by_target s.target k.taken }
