-- What is claimed of storage files that a purge gives back, and what other tasks see of them.
use Rattle.purge_task.proofs.Common.{◌≡◌, ◌≢◌, ◌+◌, ◌==◌, ◌&&◌, ℕ, zero, suc, Bool, true, false, cond, List, [], ◌∷◌, Option, Some, None, All, refl, sym, ◌∙◌, ap, subst, arith, inl, inr, AllPairs, is_some, if◌then◌else◌, IfSome, option_and_then, option_map, option_map_or, cases_eq, eq-eqb, ne_eqb}
use Rattle.purge_task.proofs.Common.{All-cons, All-contains, All-head, All-nil, All-tail, sum_by-cons, FileNo, pairs_head, pairs_tail, found_one, IsUsedFile, changed_in, end_in, file_in, given_back, is_emptied_in, is_taken_in, released_in, without_file, MailFile, ends-kept, file-gone, file-here}
use Rattle.purge_task.proofs.Common.{StoreValue, Due, Emptied, Held, Made, Pinned, PlacingPieces, Removing, Taken, Thing, amount_in, one_if, claims_of_sources, claims_of_target, target_released, all_released, Source, fall}
use Rattle.std.proofs.Common.{◌⊎◌}
use Rattle.storage_files.proofs.FileListLemmas.{ends-unmade}
use Rattle.purge_task.specs.Taken.{source_released}
use Rattle.purge_task.proofs.BareCallLemmas.{IsEmptiedFile, emptied_file, untaken_in, unplaced_in}
use Rattle.purge_task.proofs.CanReleaseLemmas.{AreClear, released_other, source_other}
use Rattle.purge_task.proofs.SameSeenLemmas.{TellsNoLess, bars, ends, is_before, tells_same, uses}
use Rattle.purge_task.proofs.TakenClaimLemmas.{claims_cons}

-- ---- one file

-- a file that is given back: one that isn't there is none then
abbrev pub back : Option MailFile → Option MailFile
back None = None
back (Some f) = if is_some f.end then Some (given_back f) else None

back_here : (n : ℕ) (files : List MailFile) → file_in n (released_in n files) ≡ back (file_in n files)
back_here n files = by_test (is_some (end_in n files)) ∙ as_back (file_in n files)
  where
    by_test : (b : Bool) → file_in n (if b then changed_in n given_back files else without_file n files) ≡ (if b then option_map given_back (file_in n files) else None)
    by_test true = file-here n given_back files (λ f. refl)
    by_test false = file-gone n files

    as_back : (o : Option MailFile) → (if is_some (option_and_then (λ f. f.end) o) then option_map given_back o else None) ≡ back o
    as_back None = refl
    as_back (Some f) = refl

-- what of a file is counted
abbrev pub adding_of : Option MailFile → ℕ
adding_of o = one_if (option_map_or (λ f. f.taken) o false)

abbrev pub emptying_of : Option MailFile → ℕ
emptying_of o = one_if (option_map_or (λ f. f.emptied) o false)

abbrev pub placing_of : Option MailFile → ℕ
placing_of o = one_if (is_some (option_and_then (λ f. f.begun) o))

abbrev pub removing_of : Option MailFile → ℕ
removing_of o = one_if (option_map_or (λ f. f.doomed) o false && (option_map_or (λ f. f.pins) o 0 == 0))

abbrev pub pinned_of : Option MailFile → ℕ
pinned_of o = option_map_or (λ f. f.pins) o 0

-- a value of a file that is given back
of_back : {X : Type 0} → (value : Option MailFile → X) (x : X) (o : Option MailFile) → value None ≡ x → ((f : MailFile) → value (Some (given_back f)) ≡ x) → value (back o) ≡ x
of_back value x None none some = none
of_back value x (Some f) none some = by_test (is_some f.end)
  where
    by_test : (b : Bool) → value (if b then Some (given_back f) else None) ≡ x
    by_test true = some f
    by_test false = none

-- So much of adding to it, of emptying it, and of placing octets in it is claimed. It isn't doomed, and as it is given back its pins stay.
pub record IsGivenBack (added emptied placed : ℕ) (o : Option MailFile) : Type 0 where
  pub adding : adding_of o ≡ added
  pub emptying : emptying_of o ≡ emptied
  pub placing : placing_of o ≡ placed
  pub undoomed : option_map_or (λ f. f.doomed) o false ≡ false
  pub pins : pinned_of (back o) ≡ pinned_of o

undoomed_back : (o : Option MailFile) → option_map_or (λ f. f.doomed) o false ≡ false → option_map_or (λ f. f.doomed) (back o) false ≡ false
undoomed_back None e = refl
undoomed_back (Some f) e = by_test (is_some f.end)
  where
    by_test : (b : Bool) → option_map_or (λ f. f.doomed) (if b then Some (given_back f) else None) false ≡ false
    by_test true = e
    by_test false = refl

unremoved : (o : Option MailFile) → option_map_or (λ f. f.doomed) o false ≡ false → removing_of o ≡ 0
unremoved o e = ap (λ (b : Bool). one_if (b && (option_map_or (λ f. f.pins) o 0 == 0))) e

-- ---- which files they are

-- It is emptied, and its target, in which octets are being placed or not, is added to.
pub record IsToGiveBack (placing : ℕ) (files : List MailFile) (s : Source) : Type 0 where
  pub apart : IfSome s.target (λ t. t.0 ≢ s.file.0)
  pub source : IsGivenBack 0 1 0 (file_in s.file.0 files)
  pub target : IfSome s.target (λ t. IsGivenBack 1 0 placing (file_in t.0 files))

pub emptied_back : (n : ℕ) (files : List MailFile) → All IsUsedFile files → is_emptied_in n files ≡ true → IsGivenBack 0 1 0 (file_in n files)
emptied_back n files used e = record {
  adding = ap one_if (untaken_in n files d);
  emptying = ap one_if e;
  placing = ap (λ (o : Option ℕ). one_if (is_some o)) (unplaced_in n files d);
  undoomed = ap (λ (o : Option MailFile). option_map_or (λ f. f.doomed) o false) d.found ∙ d.undoomed;
  pins = subst (λ (o : Option MailFile). pinned_of (back o) ≡ pinned_of o) (sym d.found) (by_end (is_some d.f.end) (d.used.emptied d.emptied).0);
}
  where
    d : IsEmptiedFile n files
    d = emptied_file n files used e

    by_end : (b : Bool) → b ≡ true → pinned_of (if b then Some (given_back d.f) else None) ≡ d.f.pins
    by_end true some = refl
    by_end false some = absurd (let k : false ≡ true = some in cc k)

-- a file that is added to
pub record IsTakenFile (n : ℕ) (files : List MailFile) : Type 0 where
  pub f : MailFile
  pub found : file_in n files ≡ Some f
  pub taken : f.taken ≡ true
  pub used : IsUsedFile f

pub taken_file : (n : ℕ) (files : List MailFile) → All IsUsedFile files → is_taken_in n files ≡ true → IsTakenFile n files
taken_file n files used taken = by_case (file_in n files) refl
  where
    by_case : (o : Option MailFile) → file_in n files ≡ o → IsTakenFile n files
    by_case None is = absurd (let k : false ≡ true = sym (ap (λ (o : Option MailFile). option_map_or (λ f. f.taken) o false) is) ∙ taken in cc k)
    by_case (Some f) is = record {
      f = f;
      found = is;
      taken = sym (ap (λ (o : Option MailFile). option_map_or (λ f. f.taken) o false) is) ∙ taken;
      used = All-contains IsUsedFile files f used (found_one (λ (g : MailFile). g.file.0 == n) files f is).0;
    }

pub taken_back : (n placing : ℕ) (files : List MailFile) → All IsUsedFile files → is_taken_in n files ≡ true → placing_of (file_in n files) ≡ placing → IsGivenBack 1 0 placing (file_in n files)
taken_back n placing files used taken placed = record {
  adding = ap one_if taken;
  emptying = ap one_if (ap (λ (o : Option MailFile). option_map_or (λ f. f.emptied) o false) d.found ∙ unflagged d.f.emptied (λ e. (d.used.emptied e).1));
  placing = placed;
  undoomed = ap (λ (o : Option MailFile). option_map_or (λ f. f.doomed) o false) d.found ∙ unflagged d.f.doomed (λ e. (d.used.doomed e).1);
  pins = subst (λ (o : Option MailFile). pinned_of (back o) ≡ pinned_of o) (sym d.found) (by_end (is_some d.f.end) refl);
}
  where
    d : IsTakenFile n files
    d = taken_file n files used taken

    unflagged : (b : Bool) → (b ≡ true → d.f.taken ≡ false) → b ≡ false
    unflagged true never = absurd (fall d.f.taken d.taken (never refl))
    unflagged false never = refl

    unpinned : (p : ℕ) → d.f.pins ≡ p → is_some d.f.end ≡ false → 0 ≡ p
    unpinned zero is none = refl
    unpinned (suc p) is none = absurd (fall (is_some d.f.end) (d.used.pinned (omega (arith, is))) none)

    by_end : (b : Bool) → is_some d.f.end ≡ b → pinned_of (if b then Some (given_back d.f) else None) ≡ d.f.pins
    by_end true is = refl
    by_end false is = unpinned d.f.pins refl is

still_back : (placing : ℕ) (source s : Source) (files : List MailFile) → AreClear source s → IsToGiveBack placing files s → IsToGiveBack placing (source_released files source) s
still_back placing source s files clear h = record {
  apart = h.apart;
  source = subst (IsGivenBack 0 1 0) (sym (source_other source s.file.0 files clear.file clear.from_target)) h.source;
  target = by_target s.target clear.target clear.targets h.target;
}
  where
    by_target : (o : Option FileNo) → IfSome o (λ u. u.0 ≢ source.file.0) → IfSome source.target (λ t. IfSome o (λ u. u.0 ≢ t.0)) → IfSome o (λ u. IsGivenBack 1 0 placing (file_in u.0 files)) → IfSome o (λ u. IsGivenBack 1 0 placing (file_in u.0 (source_released files source)))
    by_target None apart targets h = tt
    by_target (Some u) apart targets h = subst (IsGivenBack 1 0 placing) (sym (source_other source u.0 files apart targets)) h

pub each_back : (placing : ℕ) (source : Source) (files : List MailFile) (l : List Source) → All (AreClear source) l → All (IsToGiveBack placing files) l → All (IsToGiveBack placing (source_released files source)) l
each_back placing source files [] clear h = All-nil _
each_back placing source files (s ∷ l) clear h = All-cons (IsToGiveBack placing (source_released files source)) s l (still_back placing source s files (All-head (AreClear source) s l clear) (All-head (IsToGiveBack placing files) s l h))
    (each_back placing source files l (All-tail (AreClear source) s l clear) (All-tail (IsToGiveBack placing files) s l h))

-- ---- what is counted

released_value : (value : Option MailFile → ℕ) (count n m : ℕ) (files : List MailFile) → value (back (file_in n files)) + count ≡ value (file_in n files) → value (file_in m (released_in n files)) + cond (n == m) count 0 ≡ value (file_in m files)
released_value value count n m files moves = elim (cases_eq m n) [
  | inl is ↦
      let here = ap value (back_here n files) in
      let a : value (file_in m (released_in n files)) ≡ value (file_in n (released_in n files)) = ap (λ (k : ℕ). value (file_in k (released_in n files))) is in
      let b : value (file_in m files) ≡ value (file_in n files) = ap (λ (k : ℕ). value (file_in k files)) is in
      let c : ◌≡◌ {A = ℕ} (cond (n == m) count 0) count = ap (λ (b : Bool). cond b count 0) (eq-eqb n m (sym is)) in
      omega (arith, here, a, b, c, moves)
  | inr apart ↦
      let e = ap value (released_other n m files apart) in
      let c : ◌≡◌ {A = ℕ} (cond (n == m) count 0) 0 = ap (λ (b : Bool). cond b count 0) (ne_eqb n m (λ same. apart (sym same))) in
      omega (arith, e, c)
]

source_value : (value : Option MailFile → ℕ) (own other m : ℕ) (files : List MailFile) (s : Source) → IfSome s.target (λ t. t.0 ≢ s.file.0) → value (back (file_in s.file.0 files)) + own ≡ value (file_in s.file.0 files) → IfSome s.target (λ t. value (back (file_in t.0 files)) + other ≡ value (file_in t.0 files))
    → value (file_in m (source_released files s)) + (cond (s.file.0 == m) own 0 + cond (option_map_or (λ t. t.0 == m) s.target false) other 0) ≡ value (file_in m files)
source_value value own other m files s apart source target = by_target s.target apart target (released_value value own s.file.0 m files source)
  where
    by_target : (o : Option FileNo) → IfSome o (λ t. t.0 ≢ s.file.0) → IfSome o (λ t. value (back (file_in t.0 files)) + other ≡ value (file_in t.0 files)) → value (file_in m (released_in s.file.0 files)) + cond (s.file.0 == m) own 0 ≡ value (file_in m files)
        → value (file_in m (target_released o (released_in s.file.0 files))) + (cond (s.file.0 == m) own 0 + cond (option_map_or (λ t. t.0 == m) o false) other 0) ≡ value (file_in m files)
    by_target None apart target first = omega (arith, first)
    by_target (Some t) apart target first =
        let e : value (back (file_in t.0 (released_in s.file.0 files))) + other ≡ value (file_in t.0 (released_in s.file.0 files)) = subst (λ (o : Option MailFile). value (back o) + other ≡ value o) (sym (released_other s.file.0 t.0 files apart)) target in
        let second = released_value value other t.0 m (released_in s.file.0 files) e in
        omega (arith, first, second)

-- the store with these files given back
abbrev pub with_released : {D : Type 0} → List Source → StoreValue D → StoreValue D
with_released sources store = record store { files = record store.files { files = all_released sources store.files.files } }

-- octets are being placed in the target of a source
abbrev pub placing_claim : ℕ → Source → Thing → ℕ
placing_claim placing s (PlacingPieces n) = cond (option_map_or (λ t. t.0 == n) s.target false) placing 0
placing_claim placing s thing = 0

target_if : (P Q : Option MailFile → Type 0) (files : List MailFile) (o : Option FileNo) → ((file : Option MailFile) → P file → Q file) → IfSome o (λ t. P (file_in t.0 files)) → IfSome o (λ t. Q (file_in t.0 files))
target_if P Q files None f h = tt
target_if P Q files (Some t) f h = f (file_in t.0 files) h

no_more : (b : Bool) → ◌≡◌ {A = ℕ} (cond b 0 0) 0
no_more true = refl
no_more false = refl

pub source_amount : {D : Type 0} → (placing : ℕ) (s : Source) (store : StoreValue D) → IsToGiveBack placing store.files.files s → (thing : Thing) → amount_in thing (with_released (s ∷ []) store) + (claims_of_sources (s ∷ []) thing + placing_claim placing s thing) ≡ amount_in thing store
source_amount placing s store h (Due uid) = omega arith
source_amount placing s store h (Held id) = omega arith
source_amount placing s store h (Made n) = omega arith
source_amount placing s store h (Pinned n) =
    let e = source_value pinned_of 0 0 n store.files.files s h.apart (let k = h.source.pins in omega (arith, k))
    (target_if (IsGivenBack 1 0 placing) (λ o. pinned_of (back o) + 0 ≡ pinned_of o) store.files.files s.target (λ o g. (let k = g.pins in omega (arith, k))) h.target) in
    let a = no_more (s.file.0 == n) in
    let b = no_more (option_map_or (λ (t : FileNo). t.0 == n) s.target false) in
    omega (arith, e, a, b)
source_amount placing s store h (Taken n) =
    let e = source_value adding_of 0 1 n store.files.files s h.apart (let k = h.source.adding in let z = of_back adding_of 0 (file_in s.file.0 store.files.files) refl (λ f. refl) in omega (arith, k, z))
    (target_if (IsGivenBack 1 0 placing) (λ o. adding_of (back o) + 1 ≡ adding_of o) store.files.files s.target (λ o g. (let k = g.adding in let z = of_back adding_of 0 o refl (λ f. refl) in omega (arith, k, z))) h.target) in
    let a = no_more (s.file.0 == n) in
    let b = sum_by-cons (λ (s : Source). cond (option_map_or (λ (t : FileNo). t.0 == n) s.target false) 1 0) s [] in
    omega (arith, e, a, b)
source_amount placing s store h (Emptied n) =
    let e = source_value emptying_of 1 0 n store.files.files s h.apart (let k = h.source.emptying in let z = of_back emptying_of 0 (file_in s.file.0 store.files.files) refl (λ f. refl) in omega (arith, k, z))
    (target_if (IsGivenBack 1 0 placing) (λ o. emptying_of (back o) + 0 ≡ emptying_of o) store.files.files s.target (λ o g. (let k = g.emptying in let z = of_back emptying_of 0 o refl (λ f. refl) in omega (arith, k, z))) h.target) in
    let a = no_more (option_map_or (λ (t : FileNo). t.0 == n) s.target false) in
    let b = sum_by-cons (λ (s : Source). cond (s.file.0 == n) 1 0) s [] in
    omega (arith, e, a, b)
source_amount placing s store h (PlacingPieces n) =
    let e = source_value placing_of 0 placing n store.files.files s h.apart (let k = h.source.placing in let z = of_back placing_of 0 (file_in s.file.0 store.files.files) refl (λ f. refl) in omega (arith, k, z))
    (target_if (IsGivenBack 1 0 placing) (λ o. placing_of (back o) + placing ≡ placing_of o) store.files.files s.target (λ o g. (let k = g.placing in let z = of_back placing_of 0 o refl (λ f. refl) in omega (arith, k, z))) h.target) in
    let a = no_more (s.file.0 == n) in
    omega (arith, e, a)
source_amount placing s store h (Removing n) =
    let zero_of : (o : Option MailFile) → option_map_or (λ f. f.doomed) o false ≡ false → removing_of (back o) + 0 ≡ removing_of o = λ o u. (let k = unremoved o u in let z = unremoved (back o) (undoomed_back o u) in omega (arith, k, z)) in
    let e = source_value removing_of 0 0 n store.files.files s h.apart (zero_of (file_in s.file.0 store.files.files) h.source.undoomed)
    (target_if (IsGivenBack 1 0 placing) (λ o. removing_of (back o) + 0 ≡ removing_of o) store.files.files s.target (λ o g. zero_of o g.undoomed) h.target) in
    let a = no_more (s.file.0 == n) in
    let b = no_more (option_map_or (λ (t : FileNo). t.0 == n) s.target false) in
    omega (arith, e, a, b)

none_claimed : (thing : Thing) → claims_of_sources [] thing ≡ 0
none_claimed (Due uid) = refl
none_claimed (Pinned file) = refl
none_claimed (Taken file) = refl
none_claimed (Emptied file) = refl
none_claimed (PlacingPieces file) = refl
none_claimed (Removing file) = refl
none_claimed (Held id) = refl
none_claimed (Made number) = refl

none_placed : (s : Source) (thing : Thing) → placing_claim 0 s thing ≡ 0
none_placed s (Due uid) = refl
none_placed s (Pinned file) = refl
none_placed s (Taken file) = refl
none_placed s (Emptied file) = refl
none_placed s (PlacingPieces n) = no_more (option_map_or (λ (t : FileNo). t.0 == n) s.target false)
none_placed s (Removing file) = refl
none_placed s (Held id) = refl
none_placed s (Made number) = refl

-- files in whose targets nothing is being placed
pub released_amount : {D : Type 0} → (sources : List Source) (store : StoreValue D) → All (IsToGiveBack 0 store.files.files) sources → AllPairs AreClear sources → (thing : Thing) → amount_in thing (with_released sources store) + claims_of_sources sources thing ≡ amount_in thing store
released_amount [] store h clear thing = let z = none_claimed thing in omega (arith, z)
released_amount (s ∷ rest) store h clear thing =
    let one = source_amount 0 s store (All-head (IsToGiveBack 0 store.files.files) s rest h) thing in
    let z = none_placed s thing in
    let more = released_amount rest (with_released (s ∷ []) store) (each_back 0 s store.files.files rest (pairs_head AreClear s rest clear) (All-tail (IsToGiveBack 0 store.files.files) s rest h)) (pairs_tail AreClear s rest clear) thing in
    let split = claims_cons s rest thing in
    omega (arith, one, z, more, split)

target_claim : (s : Source) (left : List Source) (thing : Thing) → placing_claim 1 s thing ≡ claims_of_target (s ∷ left) thing
target_claim s left (Due uid) = refl
target_claim s left (Pinned file) = refl
target_claim s left (Taken file) = refl
target_claim s left (Emptied file) = refl
target_claim s left (PlacingPieces n) = refl
target_claim s left (Removing file) = refl
target_claim s left (Held id) = refl
target_claim s left (Made number) = refl

-- the present one, in whose target octets are being placed, and those behind it
pub present_amount : {D : Type 0} → (s : Source) (left : List Source) (store : StoreValue D) → IsToGiveBack 1 store.files.files s → All (IsToGiveBack 0 store.files.files) left → AllPairs AreClear (s ∷ left) → (thing : Thing)
    → amount_in thing (with_released (s ∷ left) store) + (claims_of_sources (s ∷ left) thing + claims_of_target (s ∷ left) thing) ≡ amount_in thing store
present_amount s left store h each clear thing =
    let one = source_amount 1 s store h thing in
    let more = released_amount left (with_released (s ∷ []) store) (each_back 0 s store.files.files left (pairs_head AreClear s left clear) each) (pairs_tail AreClear s left clear) thing in
    let split = claims_cons s left thing in
    let t = target_claim s left thing in
    omega (arith, one, more, split, t)

-- ---- what is seen

tells_then : (old now new : List MailFile) → TellsNoLess old now → TellsNoLess now new → TellsNoLess old new
tells_then old now new a b = record {
  pins = λ n. b.pins n ∙ a.pins n;
  doomed = λ n. b.doomed n ∙ a.doomed n;
  used = λ n e. b.used n (a.used n e);
  barred = λ n e. b.barred n (a.barred n e);
  gave = λ n offset e. b.gave n offset (a.gave n offset e);
  there = λ n. b.there n ∙ a.there n;
}

-- a flag that one has that isn't there
flag_back : (value : Option MailFile → Bool) → value None ≡ true → ((f : MailFile) → value (Some (given_back f)) ≡ value (Some f)) → (o : Option MailFile) → value o ≡ true → value (back o) ≡ true
flag_back value none same None e = e
flag_back value none same (Some f) e = by_test (is_some f.end)
  where
    by_test : (b : Bool) → value (if b then Some (given_back f) else None) ≡ true
    by_test true = same f ∙ e
    by_test false = none

ends_back : (o : Option MailFile) → ends (back o) ≡ ends o
ends_back None = refl
ends_back (Some f) = by_test (is_some f.end) refl
  where
    by_test : (b : Bool) → is_some f.end ≡ b → ends (if b then Some (given_back f) else None) ≡ is_some f.end
    by_test true is = refl
    by_test false is = sym is

tells_released : (n : ℕ) (files : List MailFile) (adding emptying placing : ℕ) → IsGivenBack adding emptying placing (file_in n files) → TellsNoLess files (released_in n files)
tells_released n files adding emptying placing h = record {
  pins = λ m. by_value pinned_of m h.pins;
  doomed = λ m. by_value (λ o. option_map_or (λ f. f.doomed) o false) m (undoomed_back (file_in n files) h.undoomed ∙ sym h.undoomed);
  used = λ m e. by_flag uses m (flag_back uses refl (λ f. refl) (file_in n files)) e;
  barred = λ m e. by_flag bars m (flag_back bars refl (λ f. refl) (file_in n files)) e;
  gave = λ m offset e. by_flag (is_before offset) m (flag_back (is_before offset) refl (λ f. refl) (file_in n files)) e;
  there = λ m. by_value ends m (ends_back (file_in n files));
}
  where
    by_value : {X : Type 0} → (value : Option MailFile → X) (m : ℕ) → value (back (file_in n files)) ≡ value (file_in n files) → value (file_in m (released_in n files)) ≡ value (file_in m files)
    by_value value m same = elim (cases_eq m n) [
      | inl is ↦ subst (λ (k : ℕ). value (file_in k (released_in n files)) ≡ value (file_in k files)) (sym is) (ap value (back_here n files) ∙ same)
      | inr apart ↦ ap value (released_other n m files apart)
    ]

    by_flag : (value : Option MailFile → Bool) (m : ℕ) → (value (file_in n files) ≡ true → value (back (file_in n files)) ≡ true) → value (file_in m files) ≡ true → value (file_in m (released_in n files)) ≡ true
    by_flag value m keeps e = elim (cases_eq m n) [
      | inl is ↦ subst (λ (k : ℕ). value (file_in k (released_in n files)) ≡ true) (sym is) (ap value (back_here n files) ∙ keeps (subst (λ (k : ℕ). value (file_in k files) ≡ true) is e))
      | inr apart ↦ ap value (released_other n m files apart) ∙ e
    ]

tells_source : (placing : ℕ) (s : Source) (files : List MailFile) → IsToGiveBack placing files s → TellsNoLess files (source_released files s)
tells_source placing s files h = by_target s.target h.apart h.target (tells_released s.file.0 files 0 1 0 h.source)
  where
    by_target : (o : Option FileNo) → IfSome o (λ t. t.0 ≢ s.file.0) → IfSome o (λ t. IsGivenBack 1 0 placing (file_in t.0 files)) → TellsNoLess files (released_in s.file.0 files) → TellsNoLess files (target_released o (released_in s.file.0 files))
    by_target None apart target first = first
    by_target (Some t) apart target first =
        tells_then files (released_in s.file.0 files) (released_in t.0 (released_in s.file.0 files)) first (tells_released t.0 (released_in s.file.0 files) 1 0 placing (subst (IsGivenBack 1 0 placing) (sym (released_other s.file.0 t.0 files apart)) target))

tells_all : (sources : List Source) (files : List MailFile) → All (IsToGiveBack 0 files) sources → AllPairs AreClear sources → TellsNoLess files (all_released sources files)
tells_all [] files h clear = tells_same files
tells_all (s ∷ rest) files h clear =
    tells_then files (source_released files s) (all_released rest (source_released files s)) (tells_source 0 s files (All-head (IsToGiveBack 0 files) s rest h))
    (tells_all rest (source_released files s) (each_back 0 s files rest (pairs_head AreClear s rest clear) (All-tail (IsToGiveBack 0 files) s rest h)) (pairs_tail AreClear s rest clear))

pub tells_given : (old files : List MailFile) (s : Source) (left : List Source) → TellsNoLess old files → IsToGiveBack 1 files s → All (IsToGiveBack 0 files) left → AllPairs AreClear (s ∷ left) → TellsNoLess old (all_released (s ∷ left) files)
tells_given old files s left before h each clear =
    tells_then old files (all_released (s ∷ left) files) before
    (tells_then files (source_released files s) (all_released left (source_released files s)) (tells_source 1 s files h) (tells_all left (source_released files s) (each_back 0 s files left (pairs_head AreClear s left clear) each) (pairs_tail AreClear s left clear)))

-- ---- what others have taken

-- nobody claims to add to it, to empty it, or to remove it
pub record IsFreeFile (o : Option MailFile) : Type 0 where
  pub adding : adding_of o ≡ 0
  pub emptying : emptying_of o ≡ 0
  pub removing : removing_of o ≡ 0

back_free : (o : Option MailFile) → option_map_or (λ f. f.doomed) o false ≡ false → IsFreeFile (back o)
back_free o undoomed = record { adding = of_back adding_of 0 o refl (λ f. refl); emptying = of_back emptying_of 0 o refl (λ f. refl); removing = unremoved (back o) (undoomed_back o undoomed) }

released_free : (n m : ℕ) (files : List MailFile) → option_map_or (λ f. f.doomed) (file_in n files) false ≡ false → (file_in m (released_in n files) ≡ file_in m files) ⊎ IsFreeFile (file_in m (released_in n files))
released_free n m files undoomed = elim (cases_eq m n) [
  | inl is ↦ inr (subst (λ (k : ℕ). IsFreeFile (file_in k (released_in n files))) (sym is) (subst IsFreeFile (sym (back_here n files)) (back_free (file_in n files) undoomed)))
  | inr apart ↦ inl (released_other n m files apart)
]

free_then : (m : ℕ) (old now new : List MailFile) → (file_in m now ≡ file_in m old) ⊎ IsFreeFile (file_in m now) → (file_in m new ≡ file_in m now) ⊎ IsFreeFile (file_in m new) → (file_in m new ≡ file_in m old) ⊎ IsFreeFile (file_in m new)
free_then m old now new first (inr free) = inr free
free_then m old now new (inl was) (inl same) = inl (same ∙ was)
free_then m old now new (inr free) (inl same) = inr (subst IsFreeFile (sym same) free)

source_free : (placing m : ℕ) (s : Source) (files : List MailFile) → IsToGiveBack placing files s → (file_in m (source_released files s) ≡ file_in m files) ⊎ IsFreeFile (file_in m (source_released files s))
source_free placing m s files h = by_target s.target h.apart h.target (released_free s.file.0 m files h.source.undoomed)
  where
    by_target : (o : Option FileNo) → IfSome o (λ t. t.0 ≢ s.file.0) → IfSome o (λ t. IsGivenBack 1 0 placing (file_in t.0 files)) → (file_in m (released_in s.file.0 files) ≡ file_in m files) ⊎ IsFreeFile (file_in m (released_in s.file.0 files))
        → (file_in m (target_released o (released_in s.file.0 files)) ≡ file_in m files) ⊎ IsFreeFile (file_in m (target_released o (released_in s.file.0 files)))
    by_target None apart target first = first
    by_target (Some t) apart target first =
        free_then m files (released_in s.file.0 files) (released_in t.0 (released_in s.file.0 files)) first
        (released_free t.0 m (released_in s.file.0 files) (ap (λ (o : Option MailFile). option_map_or (λ f. f.doomed) o false) (released_other s.file.0 t.0 files apart) ∙ target.undoomed))

all_free : (m : ℕ) (sources : List Source) (files : List MailFile) → All (IsToGiveBack 0 files) sources → AllPairs AreClear sources → (file_in m (all_released sources files) ≡ file_in m files) ⊎ IsFreeFile (file_in m (all_released sources files))
all_free m [] files h clear = inl refl
all_free m (s ∷ rest) files h clear =
    free_then m files (source_released files s) (all_released rest (source_released files s)) (source_free 0 m s files (All-head (IsToGiveBack 0 files) s rest h))
    (all_free m rest (source_released files s) (each_back 0 s files rest (pairs_head AreClear s rest clear) (All-tail (IsToGiveBack 0 files) s rest h)) (pairs_tail AreClear s rest clear))

-- what isn't as it was is free
pub given_free : (m : ℕ) (s : Source) (left : List Source) (files : List MailFile) → IsToGiveBack 1 files s → All (IsToGiveBack 0 files) left → AllPairs AreClear (s ∷ left) → (file_in m (all_released (s ∷ left) files) ≡ file_in m files) ⊎ IsFreeFile (file_in m (all_released (s ∷ left) files))
given_free m s left files h each clear =
    free_then m files (source_released files s) (all_released left (source_released files s)) (source_free 1 m s files h) (all_free m left (source_released files s) (each_back 0 s files left (pairs_head AreClear s left clear) each) (pairs_tail AreClear s left clear))

-- ---- where files end

ends_released : (n m : ℕ) (files : List MailFile) → end_in m (released_in n files) ≡ end_in m files
ends_released n m files = by_test (is_some (end_in n files)) refl
  where
    by_test : (b : Bool) → is_some (end_in n files) ≡ b → end_in m (if b then changed_in n given_back files else without_file n files) ≡ end_in m files
    by_test true is = ends-kept n m given_back files (λ f. refl) (λ f. refl)
    by_test false is = ends-unmade n m files is

pub ends_given : (m : ℕ) (sources : List Source) (files : List MailFile) → end_in m (all_released sources files) ≡ end_in m files
ends_given m [] files = refl
ends_given m (s ∷ rest) files = ends_given m rest (source_released files s) ∙ (by_target s.target ∙ ends_released s.file.0 m files)
  where
    by_target : (o : Option FileNo) → end_in m (target_released o (released_in s.file.0 files)) ≡ end_in m (released_in s.file.0 files)
    by_target None = refl
    by_target (Some t) = ends_released t.0 m (released_in s.file.0 files)
