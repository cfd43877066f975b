-- Storage files and instances stay at each moment of a call.
use Rattle.store_core.proofs.Common.{Contains, ◌≡◌, ◌≢◌, ◌<◌, ◌≤◌, ◌+◌, inl, inr, ℕ, Bool, true, false, List, take, Option, Some, None, All, refl, sym, ◌∙◌, ap, subst, arith, option_map, option_map_or, option_and_then, cases_Bool, true≢false, same_Some, All-weaker, All-contains_itself, Files}
use Rattle.store_core.proofs.Common.{FileState, History, EachImage, MayLeave, OthersStay, FileName, InstRow, Hash, MailIsKept, kept_beside, MapRecord, MapMeaning, is_sealed, found_holds, same_id, AreInstances, next_id, next_instance_file, KnownInstance, MailFile, AreFilesInOrder, file_in}
use Rattle.store_core.proofs.Common.{is_doomed_in, is_emptied_in, end_in, is_taken_in, FrontStays, MayGrow, EndsBehind, LiesBelowEnd, AreElsewhere, IsStore, HasKnownInstances, IsKnownRow, StoreValue}
use Rattle.std.specs.Prelude.{◌==◌}
use Rattle.std.proofs.Common.{◌||◌}
use Rattle.std.proofs.lemmas.List.{take-take}
use Rattle.disk_model.specs.declared.name.FileName.TheVariants as file
use Rattle.model_kept.specs.Kept.{StaysTo, IsUnknownTo}
use Rattle.model_kept.proofs.KeptLemmas.{left_stays, kept_one}
use Rattle.storage_files.specs.Files.{IsUsedFile, place_begun_in}
use Rattle.storage_files.specs.OnDisk.{IsLeftAsBefore}
use Rattle.storage_files.proofs.KnownLemmas.{taken-there}
use Rattle.storage_files.proofs.UseLemmas.{found-begun}
use Rattle.store_core.proofs.InstanceAppendLemmas.{of_known}
use Rattle.store_core.proofs.KeptFileLemmas.{HasFile, file_there}
use Rattle.store_core.proofs.PlacedInstanceLemmas.{all_parts, next_is_new}

-- ---- logs

pub map_log_kept : (m : MapMeaning) (name : FileName) (generation : ℕ) (old new : Option History) → name ≡ file.Map generation → EachImage (λ _ image. OthersStay name old image) old new → MailIsKept m old new
map_log_kept m name generation old new is each = kept_beside m name old new (subst (IsUnknownTo m) (sym is) (λ f octets. tt)) each

pub root_log_kept : (m : MapMeaning) (name : FileName) (old new : Option History) → name ≡ file.Root → EachImage (λ _ image. OthersStay name old image) old new → MailIsKept m old new
root_log_kept m name old new is each = kept_beside m name old new (subst (IsUnknownTo m) (sym is) (λ f octets. tt)) each

pub box_log_kept : (m : MapMeaning) (name : FileName) (number generation : ℕ) (old new : Option History) → name ≡ file.Box number generation → EachImage (λ _ image. OthersStay name old image) old new → MailIsKept m old new
box_log_kept m name number generation old new is each = kept_beside m name old new (subst (IsUnknownTo m) (sym is) (λ f octets. tt)) each

-- ---- a storage file that somebody has taken

-- it isn't sealed
taken_unsealed : {D : Type 0} → (h : Option History) (v : StoreValue D) (n : ℕ) (f : MailFile) → IsStore h v → file_in n v.files.files ≡ Some f → f.taken ≡ true → is_sealed v.map n ≡ false
taken_unsealed h v n f s found taken = elim (cases_Bool (is_sealed v.map n)) [
  | inl is ↦ absurd (true≢false (sym (s.files.sealed n f found ∙ is) ∙ (s.files.taken n f found taken).unsealed))
  | inr apart ↦ apart
]

-- each region in it ends before its end
behind_end : (n end place : ℕ) (files : List MailFile) (f : MailFile) → file_in n files ≡ Some f → MayGrow f → f.end ≡ Some end → EndsBehind n place files → place ≤ end
behind_end n end place files f found grows ends behind =
    let e = behind f found grows in
    let same : e.0 ≡ end = same_Some e.0 end (sym e.1 ∙ ends) in
    let near : place ≤ e.0 = e.2 in
    omega (arith, same, near)

rows_below : {D : Type 0} → (h : Option History) (v : StoreValue D) (n end : ℕ) → IsStore h v → HasFile n end v.files.files → All (λ row. row.file ≡ n → row.offset + row.size ≤ end) v.map.records
rows_below h v n end s has = All-weaker (LiesBelowEnd v.map.store v.files.files) (λ (row : MapRecord). row.file ≡ n → row.offset + row.size ≤ end)
    (λ row b is. behind_end n end (row.offset + row.size) v.files.files has.f has.found (s.files.taken n has.f has.found has.taken) has.ends (subst (λ (k : ℕ). EndsBehind k (row.offset + row.size) v.files.files) is b.region)) v.map.records s.files.below

front_stays : (end place : ℕ) (f : FileState) (left : Option (List ℕ)) → place ≤ end → MayLeave f (option_map (take end) left) → StaysTo place f left
front_stays end place f None le leaves = leaves
front_stays end place f (Some octets) le holds = (take end octets, holds, sym (take-take place end octets le))

-- it is added to
pub added_kept : {D : Type 0} → (n end : ℕ) (old new : Option History) (v : StoreValue D) → IsStore old v → is_taken_in n v.files.files ≡ true → end_in n v.files.files ≡ Some end
    → EachImage (λ _ image. FrontStays (file.Mail n) end old image × OthersStay (file.Mail n) old image) old new → MailIsKept v.map old new
added_kept n end old new v s taken ends each =
    let has : HasFile n end v.files.files = file_there n end v.files.files taken ends in
    kept_one v.map (file.Mail n) (FrontStays (file.Mail n) end) old new
    (λ disk image front. record {
      sealed = λ is. absurd (true≢false (sym is ∙ taken_unsealed old v n has.f s has.found has.taken));
      regions = All-weaker (λ (row : MapRecord). row.file ≡ n → row.offset + row.size ≤ end) (λ (row : MapRecord). row.file ≡ n → StaysTo (row.offset + row.size) (disk.now (file.Mail n)) (image (file.Mail n)))
          (λ row below is. front_stays end (row.offset + row.size) (disk.now (file.Mail n)) (image (file.Mail n)) (below is) front) v.map.records (rows_below old v n end s has);
    }) each

-- octets are placed in it in pieces
pub placing_taken : (n start : ℕ) (files : List MailFile) → All IsUsedFile files → place_begun_in n files ≡ Some start → is_taken_in n files ≡ true
placing_taken n start files used begun =
    let f = found-begun n files start begun in
    let u : IsUsedFile f.0 = (found_holds (λ (g : MailFile). g.file.0 == n) files f.0 IsUsedFile f.1 used).0 in
    ap (λ (o : Option MailFile). option_map_or (λ g. g.taken) o false) f.1 ∙ (u.placing start f.2).0

-- it is synced
pub synced_kept : (m : MapMeaning) (n : ℕ) (old new : Option History) → EachImage (λ _ image. IsLeftAsBefore (file.Mail n) old image × OthersStay (file.Mail n) old image) old new → MailIsKept m old new
synced_kept m n old new each = kept_one m (file.Mail n) (IsLeftAsBefore (file.Mail n)) old new (λ disk image left. left_stays m (file.Mail n) (disk.now (file.Mail n)) (image (file.Mail n)) left) each

-- ---- a storage file in which no record has its region

pub bare_unknown : (m : MapMeaning) (n : ℕ) → AreElsewhere n m.records → is_sealed m n ≡ false → IsUnknownTo m (file.Mail n)
bare_unknown m n elsewhere unsealed f octets = record {
  sealed = λ is. absurd (true≢false (sym is ∙ unsealed));
  regions = All-weaker (λ (row : MapRecord). row.file ≢ n) (λ (row : MapRecord). row.file ≡ n → StaysTo (row.offset + row.size) f octets) (λ row apart same. absurd (apart same)) m.records elsewhere;
}

-- one that is doomed or emptied isn't sealed
pub own_unsealed : {D : Type 0} → (h : Option History) (v : StoreValue D) (n : ℕ) → IsStore h v → AreFilesInOrder v.files → (is_doomed_in n v.files.files || is_emptied_in n v.files.files) ≡ true → is_sealed v.map n ≡ false
own_unsealed h v n s order own = elim (cases_Bool (is_sealed v.map n)) [
  | inl is ↦ absurd (by_found is (file_in n v.files.files) refl)
  | inr apart ↦ apart
]
  where
    told : Option MailFile → Bool
    told o = option_map_or (λ f. f.doomed) o false || option_map_or (λ f. f.emptied) o false

    by_found : is_sealed v.map n ≡ true → (o : Option MailFile) → file_in n v.files.files ≡ o → ⊥
    by_found is None found = true≢false (sym own ∙ ap told found)
    by_found is (Some f) found =
        let u : IsUsedFile f = (found_holds (λ (g : MailFile). g.file.0 == n) v.files.files f IsUsedFile found order.used).0 in
        let none = u.sealed (s.files.sealed n f found ∙ is) in
        true≢false (sym own ∙ ap told found ∙ ap (λ (b : Bool). b || f.emptied) none.1 ∙ none.0)

-- one that isn't made yet
none_ends : (n : ℕ) (files : List MailFile) (f : MailFile) (end : ℕ) → file_in n files ≡ Some f → end_in n files ≡ None → f.end ≡ Some end → ⊥
none_ends n files f end found none ends = let w : None ≡ Some end = sym none ∙ ap (option_and_then (λ (g : MailFile). g.end)) found ∙ ends in cc w

pub unmade_unknown : {D : Type 0} → (h : Option History) (v : StoreValue D) (n : ℕ) → IsStore h v → is_taken_in n v.files.files ≡ true → end_in n v.files.files ≡ None → IsUnknownTo v.map (file.Mail n)
unmade_unknown h v n s taken none =
    let f = taken-there v.files.files n taken in
    let is : f.0.taken ≡ true = sym (ap (λ (o : Option MailFile). option_map_or (λ g. g.taken) o false) f.1) ∙ taken in
    bare_unknown v.map n
    (All-weaker (LiesBelowEnd v.map.store v.files.files) (λ (row : MapRecord). row.file ≢ n)
    (λ row b same.
    let e = subst (λ (k : ℕ). EndsBehind k (row.offset + row.size) v.files.files) same b.region f.0 f.1 (s.files.taken n f.0 f.1 is) in
    none_ends n v.files.files f.0 e.0 f.1 none e.1) v.map.records s.files.below)
    (taken_unsealed h v n f.0 s f.1 is)

-- each image beside one file
pub beside_kept : (m : MapMeaning) (name : FileName) (P : Option History → Files → Type 0) (old new : Option History) → IsUnknownTo m name → EachImage (λ _ image. P old image × OthersStay name old image) old new → MailIsKept m old new
beside_kept m name P old new unknown each = kept_one m name P old new (λ disk image p. unknown (disk.now name) (image name)) each

-- ---- an instance that is placed

pub next_unknown : {D : Type 0} → (hash : Hash) (h : Option History) (v : StoreValue D) → HasKnownInstances h v → AreInstances v.instances → v.instances.highest < 4294967294 → IsUnknownTo v.map (next_instance_file hash v.instances)
next_unknown hash h v k are less f octets =
    All-weaker (λ (row : MapRecord). All (λ (inst : InstRow). inst.id ≢ next_id v.instances) row.instances)
    (λ (row : MapRecord). All (λ (inst : InstRow). inst.hash.0 ≡ hash.0 → inst.id.0 ≡ (next_id v.instances).0 → MayLeave f octets) row.instances)
    (λ row others. All-weaker (λ (inst : InstRow). inst.id ≢ next_id v.instances) (λ (inst : InstRow). inst.hash.0 ≡ hash.0 → inst.id.0 ≡ (next_id v.instances).0 → MayLeave f octets)
    (λ inst other same_hash same. absurd (other (same_id inst.id (next_id v.instances) same))) row.instances others)
    v.map.records
    (all_parts (λ (inst : InstRow). inst.id ≢ next_id v.instances) (λ (row : MapRecord). row.instances) v.map.records
    (All-weaker (IsKnownRow v.instances.known) (λ (inst : InstRow). inst.id ≢ next_id v.instances)
    (λ inst known. of_known (λ (i : InstRow). i.id ≢ next_id v.instances) v.instances.known inst none_next known) _ k.kept.named))
  where
    none_next : All (λ (j : KnownInstance). j.row.id ≢ next_id v.instances) v.instances.known
    none_next = All-weaker (Contains v.instances.known) (λ (j : KnownInstance). j.row.id ≢ next_id v.instances) (λ j among. next_is_new v.instances j are less among) v.instances.known (All-contains_itself v.instances.known)
