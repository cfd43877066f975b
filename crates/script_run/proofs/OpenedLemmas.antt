-- What a store that was opened knows of its storage files and instances is what its map tells of them.
use Rattle.std.specs.Prelude.{◌≡◌, ◌==◌, ◌&&◌, ◌||◌, ◌≤◌, nat_le, ℕ, Bool, true, false, not, cond, List, [], ◌∷◌, Contains, All, filter, find, map, is_some, if◌then◌else◌, option_and_then, Option, Some, None}
use Rattle.std.specs.List.{list_any}
use Rattle.std.specs.Option.{option_map, option_map_or}
use Rattle.std.specs.Str.{bytes_eq}
use Rattle.std.proofs.Common.{inl, inr, refl, sym, ◌∙◌, ap, subst, arith}
use Rattle.std.proofs.lemmas.Grind.{common_steps}
use Rattle.std.proofs.lemmas.List.Elements.{All-contains, All-contains_itself, All-head, All-map, All-tail, All-weaker}
use Rattle.disk_model.specs.Disk.{History}
use Rattle.mdbox_base.specs.declared.entries.InstRow.{InstRow}
use Rattle.mdbox_base.specs.declared.ids.InstId.{InstId}
use Rattle.model_meaning.specs.MapMeaning.{MapRecord, is_sealed, named_instances}
use Rattle.model_octets.proofs.SearchLemmas.{among, both_same, found_one, text_is, text_yes}
use Rattle.list_machine.specs.Run.{is_one_of}
use Rattle.journal.specs.Found.{is_same_instance}
use Rattle.sis_store.proofs.IdLemmas.{instance-in, same_id}
use Rattle.sis_store.specs.Instances.{AreInstances, has_id, instance_found, instance_in}
use Rattle.sis_store.specs.declared.instance.KnownInstance.{KnownInstance}
use Rattle.storage_files.specs.Files.{AreFilesInOrder, FilesValue, end_in, file_found, file_in, is_doomed_in, pins_in}
use Rattle.storage_files.specs.declared.file.FileState.{FileState}
use Rattle.storage_files.specs.declared.file.MailFile.{MailFile}
use Rattle.store_core.specs.Knows.{knows_file, knows_instance, is_told_of}
use Rattle.store_core.specs.Value.{StoreValue}
use Rattle.store_files.specs.Barred.{is_barred}
use Rattle.store_files.specs.Found.{IsMarked, end_found, IsFoundFiles}
use Rattle.store_files.specs.Regions.{end_of, last_end, region_numbers}
use Rattle.store_seen.specs.Seeing.{may_be_barred}
use Rattle.task_claims.specs.Claims.{IsUnusedFile}
use Rattle.store_instances.specs.FoundInstances.{IsFoundInstances}
use Rattle.store_sweep.proofs.KnownFileLemmas.{found_in}
use Rattle.script_run.specs.Opening.{barred_files}

-- ---- storage files

-- the map tells of each file that was found
found_end : (number : ℕ) (states : List FileState) → end_in number (map file_found states) ≡ end_found number states
found_end number states = ap (option_and_then (λ (f : MailFile). f.end)) (found_in number states) ∙ same (find (λ (s : FileState). s.file.0 == number) states)
  where
    same : (o : Option FileState) → option_and_then (λ (f : MailFile). f.end) (option_map file_found o) ≡ option_map (λ (s : FileState). s.end) o
    same None = refl
    same (Some s) = refl

pub found_is_told : {D : Type 0} → (s : StoreValue D) (old : Option History) → IsFoundFiles s.map old s.files → (file : ℕ) → knows_file s file ≡ true → is_told_of s.map file ≡ true
found_is_told s old f file there = by_seal (is_sealed s.map file) refl
  where
    end_is : end_in file s.files.files ≡ end_found file f.states
    end_is = ap (λ (v : FilesValue). end_in file v.files) f.is ∙ found_end file f.states

    or_true : (b : Bool) → (b || true) ≡ true
    or_true true = refl
    or_true false = refl

    unsealed : (b : Bool) → (list_any (λ row. row.file == file) s.map.records) ≡ b → is_some (last_end s.map file) ≡ true → list_any (λ row. row.file == file) s.map.records ≡ true
    unsealed true e some = e
    unsealed false e some = absurd (let k : false ≡ true = sym (ap (λ (c : Bool). is_some (if c then Some (end_of s.map file) else None)) e) ∙ some in cc k)

    by_seal : (b : Bool) → is_sealed s.map file ≡ b → is_told_of s.map file ≡ true
    by_seal true e = ap (λ (b : Bool). list_any (λ row. row.file == file) s.map.records || b) e ∙ or_true (list_any (λ row. row.file == file) s.map.records)
    by_seal false e =
        let some : is_some (last_end s.map file) ≡ true = ap is_some (sym ((f.found.ends file).unsealed e)) ∙ (ap is_some (sym end_is) ∙ there) in
        ap (λ (b : Bool). b || is_sealed s.map file) (unsealed (list_any (λ row. row.file == file) s.map.records) refl some)

-- a file in which a record has its region is there, unless it is sealed
pub named_is_there : {D : Type 0} → (s : StoreValue D) (old : Option History) → IsFoundFiles s.map old s.files → (file : ℕ) → is_sealed s.map file ≡ false → list_any (λ row. row.file == file) s.map.records ≡ true → knows_file s file ≡ true
named_is_there s old f file unsealed named =
    let end_is : end_in file s.files.files ≡ end_found file f.states = ap (λ (v : FilesValue). end_in file v.files) f.is ∙ found_end file f.states in
    ap is_some (end_is ∙ (f.found.ends file).unsealed unsealed) ∙ ap (λ (b : Bool). is_some (if b then Some (end_of s.map file) else None)) named

same_number : (x y : ℕ) → (x == y) ≡ true → x ≡ y
same_number x y k = grind (arith, common_steps, k)

at_most : (x y : ℕ) → x ≤ y → nat_le x y ≡ true
at_most x y k = grind (arith, common_steps, k)

-- one of those that pass is one of all, and passes
one_kept : (p : ℕ → Bool) (numbers : List ℕ) (n : ℕ) → is_one_of (filter p numbers) n ≡ true → (is_one_of numbers n ≡ true) × (p n ≡ true)
one_kept p [] n e = absurd (cc e)
one_kept p (m ∷ rest) n e = by_tests (λ k. one_kept p rest n k) (p m) (m == n) refl refl
  where
    or_true : (b : Bool) → (b || true) ≡ true
    or_true true = refl
    or_true false = refl

    later : (is_one_of rest n ≡ true) × (p n ≡ true) → (is_one_of (m ∷ rest) n ≡ true) × (p n ≡ true)
    later h = (ap (λ (b : Bool). (m == n) || b) h.0 ∙ or_true (m == n), h.1)

    by_tests : (is_one_of (filter p rest) n ≡ true → (is_one_of rest n ≡ true) × (p n ≡ true)) → (a b : Bool) → p m ≡ a → (m == n) ≡ b → (is_one_of (m ∷ rest) n ≡ true) × (p n ≡ true)
    by_tests kept false b f t = later (kept (sym (ap (λ (c : Bool). is_one_of (cond c (m ∷ filter p rest) (filter p rest)) n) f) ∙ e))
    by_tests kept true true f t = (ap (λ (b : Bool). b || is_one_of rest n) t, sym (ap p (same_number m n t)) ∙ f)
    by_tests kept true false f t =
        later (kept (sym (ap (λ (c : Bool). c || is_one_of (filter p rest) n) t) ∙ (sym (ap (λ (c : Bool). is_one_of (cond c (m ∷ filter p rest) (filter p rest)) n) f) ∙ e)))

-- a file of a record has a region
named_region : (rows : List MapRecord) (n : ℕ) → is_one_of (map (λ row. row.file) rows) n ≡ list_any (λ row. row.file == n) rows
named_region [] n = refl
named_region (row ∷ rows) n = ap (λ (b : Bool). (row.file == n) || b) (named_region rows n)

-- a file that is barred by the map is barred as the store knows it
pub bars_known : {D : Type 0} → (s : StoreValue D) (old : Option History) → AreFilesInOrder s.files → IsFoundFiles s.map old s.files → s.files.highest ≡ s.drawn.file → (file : ℕ) → is_one_of (barred_files s.map) file ≡ true
    → may_be_barred s file ≡ true
bars_known s old order f highest file e =
    let kept = one_kept (λ (n : ℕ). not (is_sealed s.map n) && is_barred s.map n (end_of s.map n)) (region_numbers s.map) file e in
    let marks = both (is_sealed s.map file) (is_barred s.map file (end_of s.map file)) kept.1 in
    let ends : end_found file f.states ≡ Some (end_of s.map file) =
    (f.found.ends file).unsealed marks.0 ∙ ap (λ (b : Bool). if b then Some (end_of s.map file) else None) (sym (named_region s.map.records file) ∙ kept.0) in
    by_state marks.1 (find (λ t. t.file.0 == file) f.states) refl ends
  where
    both : (a b : Bool) → (not a && b) ≡ true → (a ≡ false) × (b ≡ true)
    both true b k = absurd (cc k)
    both false b k = (refl, k)

    by_state : is_barred s.map file (end_of s.map file) ≡ true → (o : Option FileState) → find (λ t. t.file.0 == file) f.states ≡ o → option_map (λ t. t.end) o ≡ Some (end_of s.map file)
        → may_be_barred s file ≡ true
    by_state bars None is ends = absurd (let k : None ≡ Some (end_of s.map file) = ends in cc k)
    by_state bars (Some t) is ends =
        let one = found_one (λ (t : FileState). t.file.0 == file) f.states t is in
        let number : t.file.0 ≡ file = same_number t.file.0 file one.1 in
        let end : t.end ≡ end_of s.map file = cc ends in
        let mark : t.barred ≡ true = (All-contains (IsMarked s.map) f.states t f.found.marks one.0).1 ∙ (ap (λ (n : ℕ). is_barred s.map n t.end) number ∙ (ap (λ (n : ℕ). is_barred s.map file n) end ∙ bars)) in
        let known : file_in file s.files.files ≡ Some (file_found t) = ap (λ (v : FilesValue). file_in file v.files) f.is ∙ (found_in file f.states ∙ ap (option_map file_found) is) in
        let there = found_one (λ (g : MailFile). g.file.0 == file) s.files.files (file_found t) known in
        let low : file ≤ s.drawn.file = subst (λ (n : ℕ). n ≤ s.drawn.file) number (subst (λ (n : ℕ). t.file.0 ≤ n) highest (All-contains (λ (g : MailFile). g.file.0 ≤ s.files.highest) s.files.files (file_found t) order.below there.0)) in
        ap (λ (b : Bool). b && option_map_or (λ (g : MailFile). g.barred) (file_in file s.files.files) true) (at_most file s.drawn.file low) ∙ (ap (λ (o : Option MailFile). option_map_or (λ (g : MailFile). g.barred) o true) known ∙ mark)

-- no file is doomed
pub none_doomed : {D : Type 0} → (s : StoreValue D) (old : Option History) → IsFoundFiles s.map old s.files → (file : ℕ) → is_doomed_in file s.files.files ≡ false
none_doomed s old f file = ap (λ (v : FilesValue). is_doomed_in file v.files) f.is ∙ (ap (λ (o : Option MailFile). option_map_or (λ (g : MailFile). g.doomed) o false) (found_in file f.states) ∙ same (find (λ (t : FileState). t.file.0 == file) f.states))
  where
    same : (o : Option FileState) → option_map_or (λ (g : MailFile). g.doomed) (option_map file_found o) false ≡ false
    same None = refl
    same (Some t) = refl

-- nor is one pinned
pub none_pinned : {D : Type 0} → (s : StoreValue D) (old : Option History) → IsFoundFiles s.map old s.files → (file : ℕ) → pins_in file s.files.files ≡ 0
none_pinned s old f file = ap (λ (v : FilesValue). pins_in file v.files) f.is ∙ (ap (λ (o : Option MailFile). option_map_or (λ (g : MailFile). g.pins) o 0) (found_in file f.states) ∙ same (find (λ (t : FileState). t.file.0 == file) f.states))
  where
    same : (o : Option FileState) → option_map_or (λ (g : MailFile). g.pins) (option_map file_found o) 0 ≡ 0
    same None = refl
    same (Some t) = refl

-- ---- instances

-- one that passes is enough
any_there : {X : Type 0} → (p : X → Bool) (xs : List X) (x : X) → Contains xs x → p x ≡ true → list_any p xs ≡ true
any_there p [] x c h = absurd (let k = c.1 in omega (arith, k))
any_there p (y ∷ ys) x c h = elim (among y ys x c) [
  | inl e ↦ ap (λ (b : Bool). b || list_any p ys) (ap p e ∙ h)
  | inr d ↦ ap (λ (b : Bool). p y || b) (any_there p ys x d h) ∙ or_true (p y)
]
  where
    or_true : (b : Bool) → (b || true) ≡ true
    or_true true = refl
    or_true false = refl

-- a record names what is known
pub known_named : {D : Type 0} → (s : StoreValue D) → IsFoundInstances s.map s.instances → (row : InstRow) → knows_instance s row ≡ true → list_any (is_same_instance row) (named_instances s.map) ≡ true
known_named s f row known = by_found (instance_in row.id s.instances.known) refl known
  where
    by_found : (o : Option KnownInstance) → instance_in row.id s.instances.known ≡ o → option_map_or (λ k. bytes_eq k.row.hash.0 row.hash.0) o false ≡ true → list_any (is_same_instance row) (named_instances s.map) ≡ true
    by_found None is e = absurd (cc e)
    by_found (Some k) is e =
        let one = found_one (has_id row.id) s.instances.known k is in
        let hash : bytes_eq row.hash.0 k.row.hash.0 ≡ true = text_yes row.hash.0 k.row.hash.0 (sym (text_is k.row.hash.0 row.hash.0 e)) in
        let id : bytes_eq row.id.0 k.row.id.0 ≡ true = text_yes row.id.0 k.row.id.0 (sym (text_is k.row.id.0 row.id.0 one.1)) in
        any_there (is_same_instance row) (named_instances s.map) k.row (All-contains (λ (x : KnownInstance). Contains (named_instances s.map) x.row) s.instances.known k f.only one.0) (ap (λ (b : Bool). b && bytes_eq row.id.0 k.row.id.0) hash ∙ id)

-- one that passes, of those that all have this
passing : {X : Type 0} → (P : X → Type 0) (p : X → Bool) (xs : List X) → All P xs → list_any p xs ≡ true → (x : X) × P x × (p x ≡ true)
passing P p [] all e = absurd (cc e)
passing {X = X} P p (x ∷ xs) all e = by_test (λ k. passing P p xs (All-tail P x xs all) k) (p x) refl
  where
    by_test : (list_any p xs ≡ true → (y : X) × P y × (p y ≡ true)) → (b : Bool) → p x ≡ b → (y : X) × P y × (p y ≡ true)
    by_test rest true t = (x, All-head P x xs all, t)
    by_test rest false t = rest (sym (ap (λ (b : Bool). b || list_any p xs) t) ∙ e)

-- what a record names is known
named_known : {D : Type 0} → (s : StoreValue D) → IsFoundInstances s.map s.instances → (row : InstRow) → list_any (is_same_instance row) (named_instances s.map) ≡ true → knows_instance s row ≡ true
named_known s f row named =
    let one = passing (λ (r : InstRow). instance_in r.id s.instances.known ≡ Some (instance_found r)) (is_same_instance row) (named_instances s.map) f.named named in
    let same = texts (bytes_eq row.hash.0 one.0.hash.0) (bytes_eq row.id.0 one.0.id.0) one.2 in
    let id : one.0.id ≡ row.id = sym (same_id row.id one.0.id (text_is row.id.0 one.0.id.0 same.1)) in
    let found : instance_in row.id s.instances.known ≡ Some (instance_found one.0) = ap (λ (i : InstId). instance_in i s.instances.known) (sym id) ∙ one.1 in
    ap (λ (o : Option KnownInstance). option_map_or (λ (k : KnownInstance). bytes_eq k.row.hash.0 row.hash.0) o false) found ∙ text_yes one.0.hash.0 row.hash.0 (sym (text_is row.hash.0 one.0.hash.0 same.0))
  where
    texts : (a b : Bool) → (a && b) ≡ true → (a ≡ true) × (b ≡ true)
    texts true b e = (refl, e)
    texts false b e = absurd (cc e)

-- a store that was opened knows what records name
pub knows_named : {D : Type 0} → (s : StoreValue D) → IsFoundInstances s.map s.instances → (row : InstRow) → knows_instance s row ≡ list_any (is_same_instance row) (named_instances s.map)
knows_named s f row = both_same (knows_instance s row) (list_any (is_same_instance row) (named_instances s.map)) (known_named s f row) (named_known s f row)

-- ---- nothing is in use

-- no task has taken a file, or pinned one
pub none_used : {D : Type 0} → (s : StoreValue D) (old : Option History) → IsFoundFiles s.map old s.files → All IsUnusedFile s.files.files
none_used s old f = subst (λ (v : FilesValue). All IsUnusedFile v.files) (sym f.is)
    (All-map IsUnusedFile file_found f.states (All-weaker (λ (t : FileState). Contains f.states t) (λ (t : FileState). IsUnusedFile (file_found t)) (λ t own. record { free = record { untaken = refl; unemptied = refl; undoomed = refl }; unplaced = refl; unpinned = refl }) f.states (All-contains_itself f.states)))

-- nobody holds an instance
pub none_holds : {D : Type 0} → (s : StoreValue D) → AreInstances s.instances → IsFoundInstances s.map s.instances → All (λ k. k.holders ≡ 0) s.instances.known
none_holds s are f = All-weaker (Contains s.instances.known) (λ (k : KnownInstance). k.holders ≡ 0) (λ k own. unheld k own) s.instances.known (All-contains_itself s.instances.known)
  where
    unheld : (k : KnownInstance) → Contains s.instances.known k → k.holders ≡ 0
    unheld k own =
        let found : instance_in k.row.id s.instances.known ≡ Some (instance_found k.row) =
        All-contains (λ (row : InstRow). instance_in row.id s.instances.known ≡ Some (instance_found row)) (named_instances s.map) k.row f.named (All-contains (λ (x : KnownInstance). Contains (named_instances s.map) x.row) s.instances.known k f.only own) in
        let same : Some k ≡ Some (instance_found k.row) = sym (instance-in s.instances.known k are.rising own) ∙ found in
        let is : k ≡ instance_found k.row = cc same in
        ap (λ (x : KnownInstance). x.holders) is
