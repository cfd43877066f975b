-- Regions of a storage file: what a crash, a cut and a sync leave of them.
use Rattle.std.proofs.Common.{◌≡◌, inl, inr, ℕ, ◌+◌, ◌<◌, ◌≤◌, zero, suc, List, [], ◌∷◌, length, take, drop, slice_get, Option, Some, None, refl, sym, ◌∙◌, subst, arith}
use Rattle.std.proofs.lemmas.List.{length-take-le}
use Rattle.std.proofs.lemmas.Bool.{true≢false, false≢true}
use Rattle.disk_model.specs.Disk.{FileState, MayLeave, cut_to, half_cut, synced}
use Rattle.disk_model.proofs.LeavingLemmas.{same_front}
use Rattle.model_meaning.specs.MapMeaning.{MapRecord}
use Rattle.model_store.specs.Settled.{IsSameRegion}
use Rattle.store_sweep.specs.Held.{IsFirmRegion}

-- lists that agree at each place of a range
pub same_range : (a b : List ℕ) (at size : ℕ) → at + size ≤ length a → at + size ≤ length b → ((i : ℕ) → at ≤ i → i < at + size → slice_get a i ≡ slice_get b i) → take size (drop at a) ≡ take size (drop at b)
same_range a b zero size la lb same = same_front size a b (omega (arith, la)) (omega (arith, lb)) (λ i below. same i (omega arith) (omega arith))
same_range [] b (suc at) size la lb same = absurd (omega (arith, la))
same_range (x ∷ a) [] (suc at) size la lb same = absurd (omega (arith, lb))
same_range (x ∷ a) (y ∷ b) (suc at) size la lb same =
    same_range a b at size (omega (arith, la)) (omega (arith, lb)) (λ i from below. same (suc i) (omega arith) (omega arith))

-- the octets of the file that a region was compared with
second_is : (found : Option (List ℕ)) (octets : List ℕ) (row : MapRecord) → (s : IsSameRegion found (Some octets) row) → s.second ≡ octets
second_is found octets row s = let e : Some octets ≡ Some s.second = s.in_second in cc

pub region_long : (found : Option (List ℕ)) (octets : List ℕ) (row : MapRecord) → IsSameRegion found (Some octets) row → row.offset + row.size ≤ length octets
region_long found octets row s = subst (λ (o : List ℕ). row.offset + row.size ≤ length o) (second_is found octets row s) s.second_holds

-- other octets with the same at each place of the region
pub region_moved : (found : Option (List ℕ)) (octets other : List ℕ) (row : MapRecord) → IsSameRegion found (Some octets) row → row.offset + row.size ≤ length other
    → ((i : ℕ) → row.offset ≤ i → i < row.offset + row.size → slice_get other i ≡ slice_get octets i) → IsSameRegion found (Some other) row
region_moved found octets other row s long same = record {
  first = s.first;
  second = other;
  in_first = s.in_first;
  in_second = refl;
  first_holds = s.first_holds;
  second_holds = long;
  same = same_range other octets row.offset row.size long (region_long found octets row s) same
      ∙ subst (λ (o : List ℕ). take row.size (drop row.offset o) ≡ take row.size (drop row.offset s.first)) (second_is found octets row s) s.same;
}

-- what a crash leaves of a firm region
pub region_left : (found : Option (List ℕ)) (row : MapRecord) (f : FileState) (left : Option (List ℕ)) → IsFirmRegion found row f → MayLeave f left → IsSameRegion found left row
region_left found row f None k (inl gone) = absurd (true≢false (sym k.there ∙ gone))
region_left found row f None k (inr loose) = absurd (false≢true (sym k.name ∙ loose))
region_left found row f (Some octets) k h =
    let least : row.offset + row.size ≤ f.least = k.least in
    let long : f.least ≤ length octets = h.least in
    region_moved found f.octets octets row k.same (omega arith) (λ i from below. h.same i (omega arith) (k.firm i from below))

get_in_front : (n : ℕ) (xs : List ℕ) (i : ℕ) → i < n → slice_get (take n xs) i ≡ slice_get xs i
get_in_front zero xs i l = absurd (omega (arith, l))
get_in_front (suc n) [] i l = refl
get_in_front (suc n) (x ∷ xs) zero l = refl
get_in_front (suc n) (x ∷ xs) (suc i) l = get_in_front n xs i (omega (arith, l))

-- a region before a cut
pub region_before : (found : Option (List ℕ)) (octets : List ℕ) (row : MapRecord) (end : ℕ) → row.offset + row.size ≤ end → end ≤ length octets → IsSameRegion found (Some octets) row → IsSameRegion found (Some (take end octets)) row
region_before found octets row end behind within s =
    let l : length (take end octets) ≡ end = length-take-le end octets within in
    region_moved found octets (take end octets) row s (omega (arith, l)) (λ i from below. get_in_front end octets i (omega arith))

pub region_half_cut : (found : Option (List ℕ)) (row : MapRecord) (f : FileState) (end : ℕ) → row.offset + row.size ≤ end → IsFirmRegion found row f → IsFirmRegion found row (half_cut end f)
region_half_cut found row f end behind k = record {
  there = k.there;
  name = k.name;
  same = k.same;
  least = let l : row.offset + row.size ≤ f.least = k.least in omega arith;
  firm = k.firm;
}

pub region_cut : (found : Option (List ℕ)) (row : MapRecord) (f : FileState) (end : ℕ) → row.offset + row.size ≤ end → end ≤ length f.octets → IsFirmRegion found row f → IsFirmRegion found row (cut_to end f)
region_cut found row f end behind within k = record {
  there = k.there;
  name = k.name;
  same = region_before found f.octets row end behind within k.same;
  least = let l : row.offset + row.size ≤ f.least = k.least in omega arith;
  firm = k.firm;
}

pub region_synced : (found : Option (List ℕ)) (row : MapRecord) (f : FileState) → IsFirmRegion found row f → IsFirmRegion found row (synced f)
region_synced found row f k = record {
  there = k.there;
  name = k.name;
  same = k.same;
  least = region_long found f.octets row k.same;
  firm = λ i from below. refl;
}
