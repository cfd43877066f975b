-- A message that was placed can be stored in the map.
use Rattle.mail_save.proofs.Common.{◌≡◌, ◌≤◌, ◌+◌, ◌==◌, ◌&&◌, ℕ, Bool, true, false, not, inl, inr, List, [], ◌∷◌, Option, Some, None, All, refl, sym, ◌∙◌, ap, subst, arith, length, if◌then◌else◌, AllByRecursion, option_map, option_map_or, option_and_then, cases_eq, cond-false, ne_eqb, All-nil}
use Rattle.mail_save.proofs.Common.{All-cons, All-head, All-tail, History, IfTold, if_told-map, InstRow, MapUid, RowInRange, MapRecord, is_own, number_at, guid_file, files_of, AreFilesInOrder, end_in, file_in, taken-there, MailFile, IsReadyToStore, IsStore, StoreValue, HoldsRegion, entry_stored}
use Rattle.mail_save.proofs.Common.{SavedAt}
use Rattle.std.specs.Prelude.{AllPairs}
use Rattle.std.proofs.lemmas.List.Elements.{recursion_from_All}
use Rattle.disk_model.specs.Disk.{Files}
use Rattle.disk_model.specs.declared.name.FileName.TheVariants as file
use Rattle.mdbox_base.specs.Words.{IsNumber}
use Rattle.model_appends.specs.MapAppending.{stored_row}
use Rattle.model_meaning.specs.MapFits.{AgreesOn, FitsStored}
use Rattle.model_store.specs.Safe.{LiesInFile}
use Rattle.storage_files.specs.OnDisk.{IsAsKnown}
use Rattle.store_core.specs.Files.{EndsBehind, LiesBelowEnd}

-- ---- numbers

-- a file that ends has a number that was drawn
file_below : (n most end : ℕ) (files : List MailFile) → All (λ f. f.file.0 ≤ most) files → end_in n files ≡ Some end → n ≤ most
file_below n most end [] h e = absurd (let w : None ≡ Some end = e in cc)
file_below n most end (x ∷ xs) h e = elim (cases_eq x.file.0 n) [
  | inl same ↦ let low = All-head (λ (f : MailFile). f.file.0 ≤ most) x xs h in omega (arith, low, same)
  | inr apart ↦
      file_below n most end xs (All-tail (λ (f : MailFile). f.file.0 ≤ most) x xs h)
      (sym (ap (option_and_then (λ f. f.end)) (cond-false (x.file.0 == n) (Some x) (file_in n xs) (ne_eqb x.file.0 n apart))) ∙ e)
]

pub file_drawn : {D : Type 0} (at : SavedAt) (store : StoreValue D) (history : Option History) → IsStore history store → AreFilesInOrder store.files → HoldsRegion at store → at.file.0 ≤ store.drawn.file
file_drawn at store history is order held =
    let low = file_below at.file.0 store.files.highest held.end store.files.files order.below held.ends in
    let same = is.files.highest in
    omega (arith, low, same)

own_most : (which : Bool) (n most : ℕ) → n ≤ most → (if which then n else 0) ≤ most
own_most true n most le = le
own_most false n most le = omega arith

pub guid_drawn : {D : Type 0} (at : SavedAt) (store : StoreValue D) (history : Option History) → IsStore history store → AreFilesInOrder store.files → HoldsRegion at store → guid_file store.map.store at.guid.0 ≤ store.drawn.file
guid_drawn at store history is order held =
    let named = held.guid_file in
    let low = file_drawn at store history is order held in
    own_most (is_own store.map.store at.guid.0 && not (number_at 8 at.guid.0 == 4294967295)) (number_at 8 at.guid.0) store.drawn.file (omega (arith, named, low))

-- ---- it fits

pub record_fits : {D : Type 0} (uid : MapUid) (at : SavedAt) (instances : List InstRow) (store : StoreValue D) (history : Option History) → AllPairs AgreesOn instances × All (λ other. All (λ row. All (AgreesOn row) other.instances) instances) store.map.records → IsStore history store → AreFilesInOrder store.files → HoldsRegion at store
    → 1 ≤ at.size → uid.0 ≡ store.drawn.map + 1 → IsNumber uid.0 → FitsStored store.map 0 uid.0 at.file.0 at.offset at.size at.guid.0 instances
record_fits uid at instances store history agree is order held some drawn number =
    let up = is.drawn.map in
    let inside = held.inside in
    let small = held.small in
    let low = file_below at.file.0 store.files.highest held.end store.files.files order.below held.ends in
    let last = order.last in
    record {
      known_origin = omega arith;
      uid_number = number;
      uid_new = omega (arith, up, drawn);
      region = record {
        file_number = record { low = held.some; high = omega (arith, low, last) };
        some = some;
        ends = omega (arith, inside, small);
        free = held.free;
      };
      guid_new = held.guid_new;
      known = agree.1;
      earlier = agree.0;
    }

-- ---- below the end of its file

ends_behind : (number place end : ℕ) (files : List MailFile) → end_in number files ≡ Some end → place ≤ end → EndsBehind number place files
ends_behind number place end files ends low = λ f found grows. (end, sym (ap (option_and_then (λ f. f.end)) found) ∙ ends, low)

pub record_below : {D : Type 0} (uid : MapUid) (at : SavedAt) (instances : List InstRow) (store : StoreValue D) (history : Option History) → IsStore history store → HoldsRegion at store → 1 ≤ at.size
    → All (LiesBelowEnd store.map.store store.files.files) (stored_row 0 1 uid at.file at.offset at.size at.guid instances ∷ [])
record_below uid at instances store history is held some =
    let there = taken-there store.files.files at.file.0 held.taken in
    let inside = held.inside in
    let offset = held.guid_offset in
    All-cons (LiesBelowEnd store.map.store store.files.files) (stored_row 0 1 uid at.file at.offset at.size at.guid instances) [] (record {
      region = ends_behind at.file.0 (at.offset + at.size) held.end store.files.files held.ends inside;
      guid = λ own. subst (λ (n : ℕ). EndsBehind n (number_at 12 at.guid.0 + 1) store.files.files) (sym held.guid_file) (ends_behind at.file.0 (number_at 12 at.guid.0 + 1) held.end store.files.files held.ends (omega (arith, inside, offset, some)));
      undoomed = ap (λ (o : Option MailFile). option_map_or (λ f. f.doomed) o false) there.1 ∙ (is.files.taken at.file.0 there.0 there.1 (sym (ap (λ (o : Option MailFile). option_map_or (λ f. f.taken) o false) there.1) ∙ held.taken)).undoomed;
    }) (All-nil (LiesBelowEnd store.map.store store.files.files))

-- ---- in its file

some_long : (a b : ℕ) → Some a ≡ Some b → a ≡ b
some_long a b e = cc e

some_octets : (r : Option (List ℕ)) (end : ℕ) → option_map length r ≡ Some end → (octets : List ℕ) × (r ≡ Some octets) × (length octets ≡ end)
some_octets None end e = absurd (let w : None ≡ Some end = e in cc)
some_octets (Some o) end e = (o, refl, some_long (length o) end e)

region_lies : (files : Files) (row : MapRecord) (end : ℕ) → option_map length (files (file.Mail row.file)) ≡ Some end → row.offset + row.size ≤ end → LiesInFile files row
region_lies files row end is inside =
    let w = some_octets (files (file.Mail row.file)) end is in
    let long = w.2 in
    record { octets = w.0; there = w.1; inside = omega (arith, inside, long) }

pub record_lies : {D : Type 0} (uid : MapUid) (at : SavedAt) (instances : List InstRow) (store : StoreValue D) (history : Option History) → HoldsRegion at store → IsAsKnown store.files.files at.file.0 history
    → IfTold history (λ now. LiesInFile (files_of now) (stored_row 0 1 uid at.file at.offset at.size at.guid instances))
record_lies uid at instances store history held known =
    if_told-map (λ disk. option_map length (files_of disk (file.Mail at.file.0)) ≡ end_in at.file.0 store.files.files) (λ now. LiesInFile (files_of now) (stored_row 0 1 uid at.file at.offset at.size at.guid instances)) history
    (λ disk is. region_lies (files_of disk) (stored_row 0 1 uid at.file at.offset at.size at.guid instances) held.end (is ∙ held.ends) held.inside) known

-- ---- ready

pub ready_as : (rows : List InstRow) (uid : MapUid) (at : SavedAt) (next : ℕ) (history : Option History) → uid.0 ≡ next → IsReadyToStore (entry_stored rows (record { 0 = next }) at) history → IsReadyToStore (entry_stored rows uid at) history
ready_as rows uid at next history is ready = subst (λ (u : MapUid). IsReadyToStore (entry_stored rows u at) history) (ap (λ (n : ℕ). record { 0 = n }) (sym is)) ready

pub rows_in_range : (rows : List InstRow) → All RowInRange rows → AllByRecursion RowInRange rows
rows_in_range rows h = recursion_from_All RowInRange rows h
