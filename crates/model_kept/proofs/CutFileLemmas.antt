-- A storage file that is cut after its last region, and synced: what a crash may leave of it is what stays of it.
use Rattle.std.proofs.Common.{◌≡◌, inl, inr, ℕ, ◌+◌, ◌<◌, ◌≤◌, min, zero, suc, false, List, [], ◌∷◌, length, take, slice_get, Option, Some, None, All, refl, sym, ◌∙◌, ap, subst, arith}
use Rattle.std.proofs.lemmas.List.{take-take}
use Rattle.std.proofs.lemmas.List.Elements.{All-nil, All-cons, All-head, All-tail}
use Rattle.std.proofs.lemmas.Bool.{cases_lt, true≢false}
use Rattle.disk_model.specs.Disk.{FileState, MayHold, MayLeave, cut_to, half_cut, synced}
use Rattle.disk_model.specs.declared.name.FileName.TheVariants as file
use Rattle.disk_model.proofs.OneFileLemmas.{same_by_get}
use Rattle.model_meaning.specs.MapMeaning.{MapMeaning, is_sealed}
use Rattle.model_kept.specs.Kept.{StaysTo, StaysAt}

-- ---- the first octets of one list, and the rest of another

abbrev spliced : ℕ → List ℕ → List ℕ → List ℕ
spliced zero a b = b
spliced (suc n) [] b = []
spliced (suc n) (x ∷ a) [] = []
spliced (suc n) (x ∷ a) (y ∷ b) = x ∷ spliced n a b

spliced_long : (n : ℕ) (a b : List ℕ) → n ≤ length a → n ≤ length b → length (spliced n a b) ≡ length b
spliced_long zero a b la lb = refl
spliced_long (suc n) [] b la lb = absurd (omega (arith, la))
spliced_long (suc n) (x ∷ a) [] la lb = absurd (omega (arith, lb))
spliced_long (suc n) (x ∷ a) (y ∷ b) la lb = let h : length (spliced n a b) ≡ length b = spliced_long n a b (omega (arith, la)) (omega (arith, lb)) in cc

spliced_front : (n : ℕ) (a b : List ℕ) → n ≤ length a → n ≤ length b → take n a ≡ take n (spliced n a b)
spliced_front zero a b la lb = refl
spliced_front (suc n) [] b la lb = absurd (omega (arith, la))
spliced_front (suc n) (x ∷ a) [] la lb = absurd (omega (arith, lb))
spliced_front (suc n) (x ∷ a) (y ∷ b) la lb = let h : take n a ≡ take n (spliced n a b) = spliced_front n a b (omega (arith, la)) (omega (arith, lb)) in cc

spliced_same : (n : ℕ) (a b : List ℕ) (i : ℕ) → n ≤ length a → n ≤ length b → (i < n → slice_get a i ≡ slice_get b i) → slice_get (spliced n a b) i ≡ slice_get b i
spliced_same zero a b i la lb same = refl
spliced_same (suc n) [] b i la lb same = absurd (omega (arith, la))
spliced_same (suc n) (x ∷ a) [] i la lb same = absurd (omega (arith, lb))
spliced_same (suc n) (x ∷ a) (y ∷ b) zero la lb same = same (omega arith)
spliced_same (suc n) (x ∷ a) (y ∷ b) (suc i) la lb same = spliced_same n a b i (omega (arith, la)) (omega (arith, lb)) (λ below. same (omega (arith, below)))

spliced_all : (P : ℕ → Type 0) (n : ℕ) (a b : List ℕ) → All P a → All P b → All P (spliced n a b)
spliced_all P zero a b pa pb = pb
spliced_all P (suc n) [] b pa pb = All-nil P
spliced_all P (suc n) (x ∷ a) [] pa pb = All-nil P
spliced_all P (suc n) (x ∷ a) (y ∷ b) pa pb = All-cons P x (spliced n a b) (All-head P x a pa) (spliced_all P n a b (All-tail P x a pa) (All-tail P y b pb))

-- ---- a cut

get_in_front : (n : ℕ) (xs : List ℕ) (i : ℕ) → i < n → slice_get (take n xs) i ≡ slice_get xs i
get_in_front zero xs i l = absurd (omega (arith, l))
get_in_front (suc n) [] i l = refl
get_in_front (suc n) (x ∷ xs) zero l = refl
get_in_front (suc n) (x ∷ xs) (suc i) l = get_in_front n xs i (omega (arith, l))

-- a cut that failed may leave what one that was made does
half_left : (f : FileState) (end : ℕ) (left : Option (List ℕ)) → MayLeave (cut_to end f) left → MayLeave (half_cut end f) left
half_left f end None leaves = leaves
half_left f end (Some octets) holds = record {
  named = holds.named;
  least = holds.least;
  greatest = holds.greatest;
  same = λ i below firm. holds.same i below firm ∙ get_in_front end f.octets i (let b : i < min f.least end = below in omega arith);
  are_octets = holds.are_octets;
}

cut_left : (f : FileState) (end : ℕ) (left : Option (List ℕ)) → MayHold f f.octets → end ≤ length f.octets → MayLeave (half_cut end f) left → StaysTo end f left
cut_left f end None own reaches leaves = leaves
cut_left f end (Some octets) own reaches holds = elim (cases_lt (length octets) end) [
  | inl short ↦ (
    octets,
    record {
      named = holds.named;
      least = let l : min f.least end ≤ length octets = holds.least in omega arith;
      greatest = holds.greatest;
      same = λ i below firm. holds.same i (let l : min f.least end ≤ length octets = holds.least in omega arith) firm;
      are_octets = holds.are_octets;
    },
    refl,
  )
  | inr long ↦
      let size : length (spliced end octets f.octets) ≡ length f.octets = spliced_long end octets f.octets long reaches in (
        spliced end octets f.octets,
        record {
          named = holds.named;
          least = let l : f.least ≤ length f.octets = own.least in omega arith;
          greatest = let l : length f.octets ≤ f.greatest = own.greatest in omega arith;
          same = λ i below firm. spliced_same end octets f.octets i long reaches (λ within. holds.same i (omega arith) firm);
          are_octets = spliced_all (λ octet. octet < 256) end octets f.octets holds.are_octets own.are_octets;
        },
        spliced_front end octets f.octets long reaches,
      )
]

take_less : (n k : ℕ) (a b : List ℕ) → n ≤ k → take k a ≡ take k b → take n a ≡ take n b
take_less n k a b less same = sym (take-take n k a less) ∙ ap (take n) same ∙ take-take n k b less

stays_to_less : (n k : ℕ) (f : FileState) (left : Option (List ℕ)) → n ≤ k → StaysTo k f left → StaysTo n f left
stays_to_less n k f None less s = s
stays_to_less n k f (Some octets) less s = (s.0, s.1, take_less n k octets s.0 less s.2)

-- each region of the file ends there or before
abbrev RegionsEndBy : MapMeaning → ℕ → ℕ → Type 0
RegionsEndBy m number end = All (λ row. row.file ≡ number → row.offset + row.size ≤ end) m.records

pub half_cut_stays : (m : MapMeaning) (number end : ℕ) (f : FileState) → is_sealed m number ≡ false → RegionsEndBy m number end → MayHold f f.octets → end ≤ length f.octets
    → (left : Option (List ℕ)) → MayLeave (half_cut end f) left → StaysAt m (file.Mail number) f left
half_cut_stays m number end f unsealed ends own reaches left leaves = record {
  sealed = λ sealed. absurd (true≢false (sym sealed ∙ unsealed));
  regions = λ k d below here. stays_to_less _ end f left (ends k d below here) (cut_left f end left own reaches leaves);
}

pub cut_stays : (m : MapMeaning) (number end : ℕ) (f : FileState) → is_sealed m number ≡ false → RegionsEndBy m number end → MayHold f f.octets → end ≤ length f.octets
    → (left : Option (List ℕ)) → MayLeave (cut_to end f) left → StaysAt m (file.Mail number) f left
cut_stays m number end f unsealed ends own reaches left leaves = half_cut_stays m number end f unsealed ends own reaches left (half_left f end left leaves)

-- ---- a sync

-- it only takes away what a crash could leave
pub synced_narrows : (f : FileState) (left : Option (List ℕ)) → MayHold f f.octets → MayLeave (synced f) left → MayLeave f left
synced_narrows f None own leaves = leaves
synced_narrows f (Some octets) own holds =
    let long : length octets ≡ length f.octets = let a : length f.octets ≤ length octets = holds.least in let b : length octets ≤ length f.octets = holds.greatest in omega arith in
    let same : octets ≡ f.octets = same_by_get octets f.octets long (λ i below. holds.same i below refl) in
    subst (MayHold f) (sym same) own
