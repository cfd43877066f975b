-- Files stay in order.
use Rattle.std.specs.Prelude.{AllPairs, not, is_some, if◌then◌else◌}
use Rattle.std.proofs.Common.{◌≡◌, inl, inr, ℕ, ◌<◌, ◌≤◌, ◌==◌, true, false, List, [], ◌∷◌, ◌++◌, length, take, drop, map, get_or, Some, None, All, refl, sym, ◌∙◌, ap, subst, arith}
use Rattle.std.specs.Option.{option_and_then}
use Rattle.std.proofs.Math.Seq.{take-append_seam}
use Rattle.std.proofs.lemmas.Bool.{cases_eq, eq-eqb, ne_eqb, cond-true, cond-false}
use Rattle.std.proofs.lemmas.List.Elements.{All-nil, All-cons, All-map, All-filter}
use Rattle.std.proofs.lemmas.List.Kept.{AllPairs-filter}
use Rattle.model_octets.proofs.PairLemmas.{pairs_head, pairs_tail, pairs_map, all_map}
use Rattle.storage_files.specs.declared.file.FileState.{FileState}
use Rattle.storage_files.specs.declared.file.MailFile.{MailFile}
use Rattle.storage_files.specs.Files.{AreFilesInOrder, IsUsedFile, file_in, end_in, changed_in, without_file, file_found}
use Rattle.storage_files.proofs.SearchLemmas.{Rise}
use Rattle.storage_files.proofs.FileListLemmas.{KeepsNumber, number_kept}

-- after a change of one that keeps numbers
pub order-changed : (files : List MailFile) (highest spare : ℕ) (n : ℕ) (step : MailFile → MailFile) → KeepsNumber step → All (λ f. f.file.0 ≡ n → IsUsedFile f → IsUsedFile (step f)) files
    → AreFilesInOrder (record { files = files; highest = highest; spare = spare }) → AreFilesInOrder (record { files = changed_in n step files; highest = highest; spare = spare })
order-changed files highest spare n step keeps stays order = record {
  rising = pairs_map (λ a b. a.file.0 < b.file.0) (λ a b. a.file.0 < b.file.0) (λ f. if f.file.0 == n then step f else f)
      (λ a b less. let x = number_kept n step a keeps in let y = number_kept n step b keeps in omega (arith, x, y, less)) files order.rising;
  below = all_map (λ f. f.file.0 ≤ highest) (λ f. f.file.0 ≤ highest) (λ f. if f.file.0 == n then step f else f)
      (λ a le. let x = number_kept n step a keeps in omega (arith, x, le)) files order.below;
  last = order.last;
  used = all_map (λ f. IsUsedFile f × (f.file.0 ≡ n → IsUsedFile f → IsUsedFile (step f))) IsUsedFile (λ f. if f.file.0 == n then step f else f) kept files
      (λ k d lt. (order.used k d lt, stays k d lt));
}
  where
    kept : (f : MailFile) → IsUsedFile f × (f.file.0 ≡ n → IsUsedFile f → IsUsedFile (step f)) → IsUsedFile (if f.file.0 == n then step f else f)
    kept f h = elim (cases_eq f.file.0 n) [
      | inl same ↦ subst IsUsedFile (sym (cond-true (f.file.0 == n) (step f) f (eq-eqb f.file.0 n same))) (h.1 same h.0)
      | inr apart ↦ subst IsUsedFile (sym (cond-false (f.file.0 == n) (step f) f (ne_eqb f.file.0 n apart))) h.0
    ]

-- a file with a number that has an end is there
pub ends-there : (n : ℕ) (files : List MailFile) → Rise files → is_some (end_in n files) ≡ true → All (λ f. f.file.0 ≡ n → is_some f.end ≡ true) files
ends-there n [] rise some = All-nil (λ f. f.file.0 ≡ n → is_some f.end ≡ true)
ends-there n (x ∷ xs) rise some = elim (cases_eq x.file.0 n) [
  | inl same ↦
      let here : end_in n (x ∷ xs) ≡ x.end = ap (option_and_then (λ f. f.end)) (cond-true (x.file.0 == n) (Some x) (file_in n xs) (eq-eqb x.file.0 n same)) in
      All-cons (λ f. f.file.0 ≡ n → is_some f.end ≡ true) x xs (λ e. sym (ap is_some here) ∙ some)
      (λ k d lt e. let l = pairs_head (λ a b. a.file.0 < b.file.0) x xs rise k d lt in absurd (omega (arith, l, e, same)))
  | inr apart ↦
      let behind : end_in n (x ∷ xs) ≡ end_in n xs = ap (option_and_then (λ f. f.end)) (cond-false (x.file.0 == n) (Some x) (file_in n xs) (ne_eqb x.file.0 n apart)) in
      All-cons (λ f. f.file.0 ≡ n → is_some f.end ≡ true) x xs (λ e. absurd (apart e))
      (ends-there n xs (pairs_tail (λ a b. a.file.0 < b.file.0) x xs rise) (sym (ap is_some behind) ∙ some))
]

-- a list that was lent and written back
pub written-changed : (items lent new : List MailFile) (len n : ℕ) (step : MailFile → MailFile) → length new ≡ len → lent ≡ items → new ≡ changed_in n step lent → take len (new ++ drop (length new) items) ≡ changed_in n step items
written-changed items lent new len n step long same is =
    subst (λ (k : ℕ). take k (new ++ drop (length new) items) ≡ changed_in n step items) long (take-append_seam new (drop (length new) items) ∙ is ∙ ap (changed_in n step) same)

-- without one of them
pub order-without : (files : List MailFile) (highest spare : ℕ) (n : ℕ)
    → AreFilesInOrder (record { files = files; highest = highest; spare = spare }) → AreFilesInOrder (record { files = without_file n files; highest = highest; spare = spare })
order-without files highest spare n order = record {
  rising = AllPairs-filter (λ a b. a.file.0 < b.file.0) (λ f. not (f.file.0 == n)) files order.rising;
  below = All-filter (λ f. not (f.file.0 == n)) (λ f. f.file.0 ≤ highest) files order.below;
  last = order.last;
  used = All-filter (λ f. not (f.file.0 == n)) IsUsedFile files order.used;
}

-- as an opening found them
found_used : (s : FileState) → IsUsedFile (file_found s)
found_used s = record {
  there = inl refl;
  pinned = λ some. refl;
  emptied = λ e. absurd (cc (let f : false ≡ true = e in f));
  doomed = λ e. absurd (cc (let f : false ≡ true = e in f));
  sealed = λ e. (refl, refl);
  placing = λ start e. absurd (cc (let f : None ≡ Some start = e in f));
}

pub order-found : (files : List FileState) (highest : ℕ) → AllPairs (λ a b. a.file.0 < b.file.0) files → All (λ f. f.file.0 ≤ highest) files → highest ≤ 4294967294
    → AreFilesInOrder (record { files = map file_found files; highest = highest; spare = 0 })
order-found files highest rising below last = record {
  rising = pairs_map (λ a b. a.file.0 < b.file.0) (λ a b. a.file.0 < b.file.0) file_found (λ a b less. less) files rising;
  below = all_map (λ f. f.file.0 ≤ highest) (λ f. f.file.0 ≤ highest) file_found (λ a le. le) files below;
  last = last;
  used = All-map IsUsedFile file_found files (λ k d lt. found_used (get_or files k d));
}
