-- A storage file that is cut behind its last region, and synced.
use Rattle.std.proofs.Common.{inl, inr, ◌≡◌, ℕ, ◌+◌, ◌≤◌, ◌==◌, max, List, [], ◌∷◌, length, take, Option, Some, None, All, refl, sym, ◌∙◌, ap, arith}
use Rattle.std.specs.Prelude.{fold}
use Rattle.std.specs.Option.{option_map}
use Rattle.std.proofs.lemmas.List.{length-take-le}
use Rattle.std.proofs.lemmas.List.Elements.{All-nil, All-cons, All-weaker}
use Rattle.std.proofs.lemmas.Bool.{cond-true, cond-false, cases_Bool, eq-eqb}
use Rattle.std.proofs.lemmas.Option.{same_Some}
use Rattle.disk_model.specs.Disk.{FileState, History, IfTold, IsThere, Reaches, Unchanged, AfterFailed, SameButFor, after, change, cut_to, half_cut, synced, reading}
use Rattle.disk_model.specs.declared.name.FileName.{FileName}
use Rattle.disk_model.specs.declared.name.FileName.TheVariants as file
use Rattle.disk_model.proofs.MomentLemmas.{if_told-all, if_told-map, if_told-unchanged, told-after}
use Rattle.disk_model.proofs.OneFileLemmas.{same-begins, same-goes_on}
use Rattle.disk_model.proofs.ChangeAndSyncLemmas.{changed_state, state}
use Rattle.map_index.specs.Shown.{region_end}
use Rattle.model_meaning.specs.MapMeaning.{MapRecord, MapMeaning}
use Rattle.store_files.specs.Regions.{end_of}
use Rattle.store_sweep.specs.Wanted.{EndBy, EndsByLastRegion}
use Rattle.store_sweep.specs.Moments.{ImagesCarry, KeepsStore, SameThere}
use Rattle.store_sweep.proofs.HeldLemmas.{half_cut_holds, cut_holds, synced_holds, cut_carries, reads_there}
use Rattle.store_sweep.proofs.SweepStepLemmas.{Keeping, images_goes_on, images_fails, images_fails_still, images_then, holds_goes_on, reads_goes_on}
use Rattle.store_sweep.proofs.FittedLemmas.{there-step, there-then}

-- ---- the end of the last region

most_above : {X : Type 0} → (f : X → ℕ) (from : ℕ) (xs : List X) → from ≤ fold (λ most x. max most (f x)) from xs
most_above f from [] = omega arith
most_above f from (x ∷ xs) = let h = most_above f (max from (f x)) xs in omega (arith, h)

most_each : {X : Type 0} → (f : X → ℕ) (from : ℕ) (xs : List X) → All (λ x. f x ≤ fold (λ most y. max most (f y)) from xs) xs
most_each f from [] = All-nil (λ x. f x ≤ from)
most_each f from (x ∷ xs) =
    All-cons (λ y. f y ≤ fold (λ most z. max most (f z)) (max from (f x)) xs) x xs (let h = most_above f (max from (f x)) xs in omega (arith, h)) (most_each f (max from (f x)) xs)

pub end_by : (m : MapMeaning) (n : ℕ) → EndBy m n (end_of m n)
end_by m n =
    All-weaker (λ (row : MapRecord). region_end n row ≤ end_of m n) (λ (row : MapRecord). row.file ≡ n → row.offset + row.size ≤ end_of m n)
    (λ row below own. let e : region_end n row ≡ row.offset + row.size = cond-true (row.file == n) (row.offset + row.size) 0 (eq-eqb row.file n own) in omega (arith, below, e))
    m.records (most_each (region_end n) 0 m.records)

-- ---- the calls

keeping_cut : (g : ℕ) (m : MapMeaning) (n end : ℕ) (old : Option History) → EndBy m n end → IfTold old (λ disk. Reaches (disk (file.Mail n)) end) → IfTold old (Keeping g m (file.Mail n) (cut_to end))
keeping_cut g m n end old ends reaches = if_told-map _ _ old (λ disk reach found k. cut_holds g m found n end (disk (file.Mail n)) ends reach.1 k) reaches

keeping_half : (g : ℕ) (m : MapMeaning) (n end : ℕ) (old : Option History) → EndBy m n end → IfTold old (Keeping g m (file.Mail n) (half_cut end))
keeping_half g m n end old ends = if_told-all _ old (λ disk found k. half_cut_holds g m found n end (disk (file.Mail n)) ends k)

keeping_sync : (g : ℕ) (m : MapMeaning) (n : ℕ) (old : Option History) → IfTold old (Keeping g m (file.Mail n) synced)
keeping_sync g m n old = if_told-all _ old (λ disk found k. synced_holds g m found n (disk (file.Mail n)) k)

pub cut_fails : (g : ℕ) (m : MapMeaning) (n end : ℕ) (old new : Option History) → EndBy m n end → AfterFailed (change (file.Mail n) (half_cut end)) old new → ImagesCarry g m old new
cut_fails g m n end old new ends failed = images_fails g m (file.Mail n) (half_cut end) old new failed (keeping_half g m n end old ends)

pub sync_fails : (g : ℕ) (m : MapMeaning) (n end : ℕ) (old mid new : Option History) → EndBy m n end → IfTold old (λ disk. Reaches (disk (file.Mail n)) end)
    → mid ≡ after (change (file.Mail n) (cut_to end)) old → AfterFailed (λ disk. disk) mid new → ImagesCarry g m old new
sync_fails g m n end old mid new ends reaches is failed =
    images_fails_still g m old mid new (images_goes_on g m (file.Mail n) (cut_to end) old mid is (keeping_cut g m n end old ends reaches)) failed

pub shortened_images : (g : ℕ) (m : MapMeaning) (n end : ℕ) (old mid new : Option History) → EndBy m n end → IfTold old (λ disk. Reaches (disk (file.Mail n)) end)
    → mid ≡ after (change (file.Mail n) (cut_to end)) old → new ≡ after (change (file.Mail n) synced) mid → ImagesCarry g m old new
shortened_images g m n end old mid new ends reaches is synced_is =
    let keeping = keeping_cut g m n end old ends reaches in
    images_then g m old mid new (images_goes_on g m (file.Mail n) (cut_to end) old mid is keeping) (holds_goes_on g m (file.Mail n) (cut_to end) old mid is keeping)
    (images_goes_on g m (file.Mail n) synced mid new synced_is (keeping_sync g m n mid))

pub shortened_keeps : (g : ℕ) (m : MapMeaning) (n end : ℕ) (old mid new : Option History) → EndBy m n end → IfTold old (λ disk. Reaches (disk (file.Mail n)) end)
    → mid ≡ after (change (file.Mail n) (cut_to end)) old → new ≡ after (change (file.Mail n) synced) mid → KeepsStore g m old new
shortened_keeps g m n end old mid new ends reaches is synced_is = record {
  holds = λ found k.
      holds_goes_on g m (file.Mail n) synced mid new synced_is (keeping_sync g m n mid) found
      (holds_goes_on g m (file.Mail n) (cut_to end) old mid is (keeping_cut g m n end old ends reaches) found k);
  reads = λ found k.
      reads_goes_on g m (file.Mail n) synced mid new synced_is (if_told-all _ mid (λ disk found r. r)) found
      (reads_goes_on g m (file.Mail n) (cut_to end) old mid is (if_told-map _ _ old (λ disk reach found r. cut_carries g m found n end (disk (file.Mail n)) ends reach r) reaches) found k);
  told = λ t. told-after (change (file.Mail n) synced) mid new synced_is (told-after (change (file.Mail n) (cut_to end)) old mid is t);
}

pub sync_there : (n end : ℕ) (old mid : Option History) → IfTold old (λ disk. Reaches (disk (file.Mail n)) end) → mid ≡ after (change (file.Mail n) (cut_to end)) old → IfTold mid (λ disk. IsThere (disk (file.Mail n)))
sync_there n end old mid reaches is = changed_state (file.Mail n) (λ f. Reaches f end) IsThere (cut_to end) old mid is (λ f reach. reach.0) reaches

pub shortened_there : (n end : ℕ) (old mid new : Option History) → mid ≡ after (change (file.Mail n) (cut_to end)) old → new ≡ after (change (file.Mail n) synced) mid → SameThere old new
shortened_there n end old mid new is synced_is =
    there-then old mid new (there-step (file.Mail n) (cut_to end) old mid is (λ f. refl)) (there-step (file.Mail n) synced mid new synced_is (λ f. refl))

pub shortened_others : (n end : ℕ) (old mid new : Option History) → mid ≡ after (change (file.Mail n) (cut_to end)) old → new ≡ after (change (file.Mail n) synced) mid → SameButFor (file.Mail n) old new
shortened_others n end old mid new is synced_is =
    same-goes_on (file.Mail n) synced old mid new (same-goes_on (file.Mail n) (cut_to end) old old mid (same-begins (file.Mail n) old) is) synced_is

pub shortened_length : (n end : ℕ) (old mid new : Option History) → IfTold old (λ disk. Reaches (disk (file.Mail n)) end) → mid ≡ after (change (file.Mail n) (cut_to end)) old → new ≡ after (change (file.Mail n) synced) mid
    → IfTold new (λ disk. length (disk (file.Mail n)).octets ≤ end)
shortened_length n end old mid new reaches is synced_is =
    state (file.Mail n) (λ f. Reaches f end) (λ f. length f.octets ≤ end) (cut_to end) old mid new is synced_is
    (λ f reach. let l : length (take end f.octets) ≡ end = length-take-le end f.octets reach.1 in omega (arith, l)) reaches

-- ---- the length that was read

pub length_of : (f : FileState) (n : ℕ) → option_map length (reading f) ≡ Some n → IsThere f × (length f.octets ≡ n)
length_of f n e = elim (cases_Bool f.is_there) [
  | inl there ↦ (there, same_Some _ _ (sym (ap (option_map length) (reads_there f there)) ∙ e))
  | inr gone ↦ absurd (let none : reading f ≡ None = cond-false f.is_there (Some f.octets) None gone in let s : None ≡ Some n = sym (ap (option_map length) none) ∙ e in cc)
]

-- long enough to be cut
pub reaches_end : (name : FileName) (size end : ℕ) (old new : Option History) → Unchanged old new → IfTold old (λ disk. option_map length (reading (disk name)) ≡ Some size) → end ≤ size → IfTold new (λ disk. Reaches (disk name) end)
reaches_end name size end old new unchanged is within =
    if_told-unchanged _ old new unchanged (if_told-map _ _ old (λ disk e. let l = length_of (disk name) size e in (l.0, omega (arith, l.1, within))) is)

-- short enough
pub short_enough : (name : FileName) (size end : ℕ) (old new : Option History) → Unchanged old new → IfTold old (λ disk. option_map length (reading (disk name)) ≡ Some size) → size ≤ end → IfTold new (λ disk. IsThere (disk name) → length (disk name).octets ≤ end)
short_enough name size end old new unchanged is within =
    if_told-unchanged _ old new unchanged (if_told-map _ _ old (λ disk e there. let l = length_of (disk name) size e in omega (arith, l.1, within)) is)

-- no file
pub not_there : (name : FileName) (end : ℕ) (old new : Option History) → Unchanged old new → IfTold old (λ disk. reading (disk name) ≡ None) → IfTold new (λ disk. IsThere (disk name) → length (disk name).octets ≤ end)
not_there name end old new unchanged is =
    if_told-unchanged _ old new unchanged (if_told-map _ _ old (λ disk e there. absurd (let s : None ≡ Some (disk name).octets = sym e ∙ reads_there (disk name) there in cc)) is)

-- what is no storage file needs no cut
pub fits_anyway : (m : MapMeaning) (name : FileName) (f : FileState) → ((n : ℕ) → name ≡ file.Mail n → ⊥) → EndsByLastRegion m name f
fits_anyway m file.Root f apart = tt
fits_anyway m (file.Map g) f apart = tt
fits_anyway m (file.Box n g) f apart = tt
fits_anyway m (file.Mail n) f apart = absurd (apart n refl)
fits_anyway m (file.Inst hash id) f apart = tt
