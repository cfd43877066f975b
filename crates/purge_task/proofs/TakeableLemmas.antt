-- What was found can be taken.
use Rattle.purge_task.proofs.Common.{◌≡◌, ◌==◌, Option, ℕ, ◌<◌, ◌≤◌, Bool, cond, None, List, [], ◌∷◌, get_or, All, refl, sym, ap, subst, arith, AllPairs, count_by, AllZip, length-map, All-nil, All-cons, All-head, All-tail, AllPairs-cons, AllPairs-from_increasing, sum_by-cons, History, found_holds}
use Rattle.purge_task.proofs.Common.{pairs_head, pairs_nil, pairs_tail, equal_is, MailFile, StoreValue, HasFound, MayBeEmptied, found_numbers, IsNewSource, CanTake, CanTakeAll, Found, FoundFile, Source, Work}
use Rattle.purge_task.specs.Reserved.{IsNewWork}
use Rattle.purge_task.proofs.ListingLemmas.{mapped_at}

-- what holds of each file that was found holds of each source
pub zip_all : (P : FoundFile → Type 0) (Q : Source → Type 0) → ((f : FoundFile) (s : Source) → IsNewSource f s → P f → Q s) → (fs : List FoundFile) (ss : List Source) → AllZip IsNewSource fs ss → All P fs → All Q ss
zip_all P Q step [] [] z a = All-nil Q
zip_all P Q step [] (s ∷ ss) z a = elim z [ ]
zip_all P Q step (f ∷ fs) [] z a = elim z [ ]
zip_all P Q step (f ∷ fs) (s ∷ ss) z a = All-cons Q s ss (step f s z.0 (All-head P f fs a)) (zip_all P Q step fs ss z.1 (All-tail P f fs a))

zip_pairs : (fs : List FoundFile) (ss : List Source) → AllZip IsNewSource fs ss → AllPairs (λ a b. a.file.0 < b.file.0) fs → AllPairs (λ a b. a.file.0 < b.file.0) ss
zip_pairs [] [] z p = pairs_nil (λ a b. a.file.0 < b.file.0)
zip_pairs [] (s ∷ ss) z p = elim z [ ]
zip_pairs (f ∷ fs) [] z p = elim z [ ]
zip_pairs (f ∷ fs) (s ∷ ss) z p =
    let first = ap (λ x. x.0) z.0.file in
    AllPairs-cons (λ a b. a.file.0 < b.file.0) s ss
    (zip_all (λ g. f.file.0 < g.file.0) (λ t. s.file.0 < t.file.0) (λ g t n lt. (let e = ap (λ x. x.0) n.file in omega (arith, lt, e, first))) fs ss z.1 (pairs_head (λ a b. a.file.0 < b.file.0) f fs p))
    (zip_pairs fs ss z.1 (pairs_tail (λ a b. a.file.0 < b.file.0) f fs p))

pub zip_count : (fs : List FoundFile) (ss : List Source) → AllZip IsNewSource fs ss → count_by (λ s. s.is_wanted) ss ≡ count_by (λ f. f.is_wanted) fs
zip_count [] [] z = refl
zip_count [] (s ∷ ss) z = elim z [ ]
zip_count (f ∷ fs) [] z = elim z [ ]
zip_count (f ∷ fs) (s ∷ ss) z =
    let a = sum_by-cons (λ (o : Source). cond o.is_wanted 1 0) s ss in
    let b = sum_by-cons (λ (o : FoundFile). cond o.is_wanted 1 0) f fs in
    let one : ◌≡◌ {A = ℕ} (cond s.is_wanted 1 0) (cond f.is_wanted 1 0) = ap (λ (c : Bool). cond c 1 0) z.0.wanted in
    let rest = zip_count fs ss z.1 in
    omega (arith, a, b, one, rest)

pub of_numbers : (P : ℕ → Type 0) (fs : List FoundFile) → All P (found_numbers fs) → All (λ f. P f.file.0) fs
of_numbers P fs a = λ k d lt. subst P (mapped_at (λ (f : FoundFile). f.file.0) fs k d lt) (a k 0 (let e = length-map fs (λ f. f.file.0) in omega (arith, e, lt)))

pub rising_files : (fs : List FoundFile) → AllPairs (λ a b. a < b) (found_numbers fs) → AllPairs (λ a b. a.file.0 < b.file.0) fs
rising_files fs p = λ i j d lt l.
    let long = length-map fs (λ f. f.file.0) in
    let up = p i j 0 lt (omega (arith, long, l)) in
    let a = mapped_at (λ (f : FoundFile). f.file.0) fs i d (omega (arith, lt, l)) in
    let b = mapped_at (λ (f : FoundFile). f.file.0) fs j d l in
    omega (arith, up, a, b)

may_take : (files : List MailFile) (n : ℕ) → MayBeEmptied files n → CanTake files n
may_take files n may = record { f = may.f; known = may.known; untaken = may.untaken; unsealed = may.unsealed }

-- The sources that were made of what was found can be taken: of a store with the same storage files, and spare memory for the targets.
pub can_take_all : {D : Type 0} → (old v : StoreValue D) (history : Option History) (found : Found) (work : Work) → HasFound old history found → IsNewWork found work → v.files.files ≡ old.files.files → v.files.highest ≡ old.files.highest → found.targets ≤ v.files.spare → CanTakeAll v work.sources.items
can_take_all old v history found work has new files highest spare =
    let known = has.files.finds.known in
    let count = zip_count found.files.items work.sources.items new.sources in
    let targets = has.targets in
    let numbers = has.numbers in
    record {
      files = subst (λ (fs : List MailFile). All (λ s. CanTake fs s.file.0) work.sources.items) (sym files)
          (zip_all (λ f. MayBeEmptied old.files.files f.file.0) (λ s. CanTake old.files.files s.file.0) (λ f s n may. subst (CanTake old.files.files) (sym (ap (λ x. x.0) n.file)) (may_take old.files.files f.file.0 may)) found.files.items work.sources.items new.sources (of_numbers (MayBeEmptied old.files.files) found.files.items known.free));
      rising = zip_pairs found.files.items work.sources.items new.sources (rising_files found.files.items (AllPairs-from_increasing (found_numbers found.files.items) known.rising));
      spare = omega (arith, count, targets, spare);
      numbers = omega (arith, count, targets, numbers, highest);
    }

-- and none of them has a target yet
pub untargeted : (found : Found) (work : Work) → IsNewWork found work → All (λ s. s.target ≡ None) work.sources.items
untargeted found work new = zip_all (λ f. Unit {0}) (λ s. s.target ≡ None) (λ f s n u. n.target) found.files.items work.sources.items new.sources (λ k d lt. tt)

-- their numbers were drawn
pub files_drawn : {D : Type 0} → (v : StoreValue D) (sources : List Source) → All (λ f. f.file.0 ≤ v.files.highest) v.files.files → CanTakeAll v sources → All (λ s. s.file.0 ≤ v.files.highest) sources
files_drawn v sources below can = λ k d lt.
    let c = can.files k d lt in
    let h = found_holds (λ f. f.file.0 == (get_or sources k d).file.0) v.files.files c.f (λ f. f.file.0 ≤ v.files.highest) c.known below in
    let le = h.0 in
    let same = equal_is c.f.file.0 (get_or sources k d).file.0 h.1 in
    omega (arith, le, same)
