-- What an append to a log leaves of a settled disk.
use Rattle.model_appends.proofs.Common.{◌≡◌, ◌≢◌, ◌≤◌, ℕ, true, false, Bool, List, [], ◌∷◌, ◌++◌, Option, Some, None, All, Contains, refl, sym, ◌∙◌, subst, ap, false≢true, All-weaker, All-nil, All-cons, Files, DiskState, IsImage, reading, same_name, same_name-true, same_name-apart, FileName}
use Rattle.model_appends.proofs.Common.{InstRow, MapEntry, BoxEntry, Lists, refs_of, row_made, box_meaning, BoxFits, MapRecord, MapBox, MapMeaning, map_meaning, count_of, box_text, BoxInRange, HasBox, AreListed, LiesInFile, IsThereWhole, SafeBy, files_of, HasSameRegion, HasSameInstance, AreAlike}
use Rattle.model_appends.proofs.Common.{IsSettled, CarryOver, CarriesOver, LeavesAsRead, SameBut, HasOneMore, CarryMore, message_made, lists_by}
use Rattle.disk_model.specs.Disk.{FileState, MayLeave}
use Rattle.disk_model.specs.Name.{is_log, IsLogName}
use Rattle.disk_model.specs.declared.name.FileName.TheVariants as file
use Rattle.model_logs.specs.declared.log_head.LogHead.{LogHead}
use Rattle.model_logs.specs.LogFile.{IsLogFile}
use Rattle.model_logs.proofs.LogFileLemmas.{one_log}
use Rattle.model_store.specs.Stands.{HasRoot}
use Rattle.model_store.proofs.StandsLemmas.{root_same}
use Rattle.model_store.specs.Safe.{HasAll, Safe}
use Rattle.model_store.specs.Settled.{IsSameRegion}
use Rattle.model_store.proofs.SettledLemmas.{safe_carried, has_all_carried}
use Rattle.model_store.specs.Carrying.{HasSameEntries}
use Rattle.model_store.proofs.CarryingLemmas.{each_name}
use Rattle.model_appends.specs.Appending.{LeftBut, IsBoxAppend, StatesBut}
use Rattle.model_appends.proofs.AppendFileLemmas.{log_as, mixed, mixed-here, mixed-other, same_but_mixed, carry_mixed, box_itself, SameStored, box_stored}
use Rattle.model_appends.proofs.AppendBoxLemmas.{stands_by_box_entry}

-- ---- files that are alike, name by name

same_entries : (a b : Option (List ℕ)) → b ≡ a → HasSameEntries a b
same_entries a b e = λ head entries h. subst (λ (o : Option (List ℕ)). IsLogFile o head entries) (sym e) h

pub carries_alike : (g : ℕ) (m : MapMeaning) (a b : Files) → AreAlike g m a b → (name : FileName) → CarriesOver g m a name (b name)
carries_alike g m a b e file.Root = same_entries _ _ e.root
carries_alike g m a b e (file.Map k) = λ is. same_entries _ _ (subst (λ (n : ℕ). b (file.Map n) ≡ a (file.Map n)) (sym is) e.map)
carries_alike g m a b e (file.Box k l) =
    All-weaker (λ (box : MapBox). b (file.Box box.number box.generation) ≡ a (file.Box box.number box.generation)) (λ (box : MapBox). box.number ≡ k → box.generation ≡ l → HasSameEntries (a (file.Box k l)) (b (file.Box k l)))
    (λ box s p q. let is : file.Box box.number box.generation ≡ file.Box k l = cc (p, q) in same_entries _ _ (subst (λ (n : FileName). b n ≡ a n) is s)) m.boxes e.boxes
carries_alike g m a b e (file.Mail n) =
    All-weaker (HasSameRegion a b) (λ (row : MapRecord). row.file ≡ n → IsSameRegion (a (file.Mail n)) (b (file.Mail n)) row)
    (λ row s p. subst (λ (k : ℕ). IsSameRegion (a (file.Mail k)) (b (file.Mail k)) row) p s) m.records e.regions
carries_alike g m a b e (file.Inst hash id) =
    All-weaker (λ (row : MapRecord). All (HasSameInstance a b) row.instances) (λ (row : MapRecord). All (λ (inst : InstRow). inst.hash.0 ≡ hash → inst.id.0 ≡ id → b (file.Inst hash id) ≡ a (file.Inst hash id)) row.instances)
    (λ row s. All-weaker (HasSameInstance a b) (λ (inst : InstRow). inst.hash.0 ≡ hash → inst.id.0 ≡ id → b (file.Inst hash id) ≡ a (file.Inst hash id))
    (λ inst t p q. let is : file.Inst inst.hash.0 inst.id.0 ≡ file.Inst hash id = cc (p, q) in subst (λ (n : FileName). b n ≡ a n) is t) row.instances s) m.records e.instances

-- ---- images of a settled disk but for one log

pub mixed_image : (log : FileName) (disk : DiskState) (image : Files) → IsImage disk (files_of disk) → LeftBut log disk image → IsImage disk (mixed log (files_of disk) image)
mixed_image log disk image own left = λ name. by_test (same_name name log) name refl
  where
    by_test : (t : Bool) (name : FileName) → same_name name log ≡ t → MayLeave (disk name) (mixed log (files_of disk) image name)
    by_test true name e =
        let is : name ≡ log = same_name-true name log e in
        subst (λ (n : FileName). MayLeave (disk n) (mixed log (files_of disk) image n)) (sym is) (subst (λ (o : Option (List ℕ)). MayLeave (disk log) o) (sym (mixed-here log (files_of disk) image)) (own log))
    by_test false name e =
        let apart : name ≢ log = same_name-apart name log e in
        subst (λ (o : Option (List ℕ)). MayLeave (disk name) o) (sym (mixed-other log name (files_of disk) image apart)) (left name apart)

pub others_alike : (disk : DiskState) (lists : Lists) (s : IsSettled disk lists) (log : FileName) (image : Files) → IsImage disk (files_of disk) → LeftBut log disk image → AreAlike s.safe.stands.map_log.generation (map_meaning s.store s.entries) (files_of disk) (mixed log (files_of disk) image)
others_alike disk lists s log image own left = s.alike (mixed log (files_of disk) image) (mixed_image log disk image own left)

pub others_carry : (disk : DiskState) (lists : Lists) (s : IsSettled disk lists) (log : FileName) (image : Files) → IsImage disk (files_of disk) → LeftBut log disk image → (other : FileName) → other ≢ log
    → CarriesOver s.safe.stands.map_log.generation (map_meaning s.store s.entries) (files_of disk) other (image other)
others_carry disk lists s log image own left other apart =
    subst (λ (o : Option (List ℕ)). CarriesOver s.safe.stands.map_log.generation (map_meaning s.store s.entries) (files_of disk) other o) (mixed-other log other (files_of disk) image apart)
    (carries_alike s.safe.stands.map_log.generation (map_meaning s.store s.entries) (files_of disk) (mixed log (files_of disk) image) (others_alike disk lists s log image own left) other)

-- ---- safe, with one entry more in the log of a mailbox

pub regions_as : (a b : Files) (row : MapRecord) → SameStored a b → LiesInFile a row → LiesInFile b row
regions_as a b row s h = record { octets = h.octets; there = s.mails row.file ∙ h.there; inside = h.inside }

pub instances_as : (a b : Files) (inst : InstRow) → SameStored a b → IsThereWhole a inst → IsThereWhole b inst
instances_as a b inst s h = record { octets = h.octets; there = s.instances inst.hash.0 inst.id.0 ∙ h.there; size = h.size }

pub has_all_as : (a b : Files) (m : MapMeaning) (lists other : Lists) → SameStored a b → ((guid : List ℕ) → refs_of other guid ≤ count_of m guid) → HasAll a m lists → HasAll b m other
has_all_as a b m lists other s counts h = record {
  counts = counts;
  regions = All-weaker (LiesInFile a) (LiesInFile b) (λ row r. regions_as a b row s r) m.records h.regions;
  instances = All-weaker (IsThereWhole a) (IsThereWhole b) (λ inst r. instances_as a b inst s r) _ h.instances;
}

-- the same of safe files, where the counts are enough
pub safe_by_box_entry : (a b : Files) (store : List ℕ) (entries : List MapEntry) (lists : Lists) (box : MapBox) (log : List BoxEntry) (octets : List ℕ) (e : BoxEntry) → (s : SafeBy a store entries lists)
    → Contains (map_meaning store entries).boxes box → HasBox a store box log → BoxInRange e → BoxFits (box_meaning log) e → AreListed a (map_meaning store entries) (row_made e) (message_made octets e)
    → ((guid : List ℕ) → refs_of (lists_by box.number octets e lists) guid ≤ count_of (map_meaning store entries) guid)
    → CarryMore (file.Box box.number box.generation) (box_text e) s.stands.map_log.generation (map_meaning store entries) a b → SafeBy b store entries (lists_by box.number octets e lists)
safe_by_box_entry a b store entries lists box log octets e s there has in_range fits made counts carry =
    let name : FileName = file.Box box.number box.generation in
    let m : MapMeaning = map_meaning store entries in
    let g : ℕ = s.stands.map_log.generation in
    let c : Files = mixed name a b in
    let along : CarryOver g m a c = carry_mixed name g m a b (box_itself box.number box.generation g m a) carry.others in
    record {
      stands = stands_by_box_entry a b store entries lists box log octets e s.stands there has in_range fits made carry;
      has_all = has_all_as c b m lists (lists_by box.number octets e lists) (box_stored box.number box.generation c b (same_but_mixed name a b)) counts (has_all_carried g m a c lists along s.has_all);
    }

-- ---- logs

-- two logs of one head and entries have the same entries, and one with an entry more has that more
pub same_log : (a b : Option (List ℕ)) (head : LogHead) (entries : List (List ℕ)) → IsLogFile a head entries → IsLogFile b head entries → HasSameEntries a b
same_log None b head entries h k = absurd h
same_log (Some x) b head entries h k = λ other others l.
    let one = one_log x head other entries others h l in
    subst (λ (n : LogHead). IsLogFile b n others) one.0 (subst (λ (es : List (List ℕ)). IsLogFile b head es) one.1 k)

pub more_log : (a b : Option (List ℕ)) (head : LogHead) (entries : List (List ℕ)) (entry : List ℕ) → IsLogFile a head entries → IsLogFile b head (entries ++ entry ∷ []) → HasOneMore entry a b
more_log None b head entries entry h k = absurd h
more_log (Some x) b head entries entry h k = λ other others l.
    let one = one_log x head other entries others h l in
    subst (λ (n : LogHead). IsLogFile b n (others ++ entry ∷ [])) one.0 (subst (λ (es : List (List ℕ)). IsLogFile b head (es ++ entry ∷ [])) one.1 k)

-- ---- the two kinds of images at every moment of an append

all_of : {X : Type 0} → (P : X → Type 0) → ((x : X) → P x) → (xs : List X) → All P xs
all_of P f [] = All-nil P
all_of P f (x ∷ xs) = All-cons P x xs (f x) (all_of P f xs)

-- the same entries carry over, of a log
log_carries : (log : FileName) (g : ℕ) (m : MapMeaning) (a : Files) (left : Option (List ℕ)) → IsLogName log → HasSameEntries (a log) left → CarriesOver g m a log left
log_carries file.Root g m a left is same = same
log_carries (file.Map k) g m a left is same = λ e. same
log_carries (file.Box k l) g m a left is same = all_of (λ (box : MapBox). box.number ≡ k → box.generation ≡ l → HasSameEntries (a (file.Box k l)) left) (λ box p q. same) m.boxes
log_carries (file.Mail n) g m a left is same = absurd (false≢true is)
log_carries (file.Inst hash id) g m a left is same = absurd (false≢true is)

-- An image with the log's entries and no more, which has of each other file what a crash may leave, is safe for the old lists.
pub safe_without : (disk : DiskState) (lists : Lists) (log : FileName) (image : Files) → IsSettled disk lists → IsImage disk (files_of disk) → IsLogName log → LeftBut log disk image → HasSameEntries (reading (disk log)) (image log) → Safe image lists
safe_without disk lists log image s own is left same =
    let g : ℕ = s.safe.stands.map_log.generation in
    let m : MapMeaning = map_meaning s.store s.entries in
    record {
      store = s.store;
      entries = s.entries;
      by = safe_carried (files_of disk) image s.store s.entries lists s.safe (each_name g m (files_of disk) image (λ name. by_test (same_name name log) name refl));
    }
  where
    by_test : (t : Bool) (name : FileName) → same_name name log ≡ t → CarriesOver s.safe.stands.map_log.generation (map_meaning s.store s.entries) (files_of disk) name (image name)
    by_test true name e =
        subst (λ (n : FileName). CarriesOver s.safe.stands.map_log.generation (map_meaning s.store s.entries) (files_of disk) n (image n)) (sym (same_name-true name log e))
        (log_carries log s.safe.stands.map_log.generation (map_meaning s.store s.entries) (files_of disk) (image log) is same)
    by_test false name e = others_carry disk lists s log image own left name (same_name-apart name log e)

-- With the entry of a mailbox log it is safe for the lists that this gives.
pub safe_with_box_entry : (disk : DiskState) (lists : Lists) (box : MapBox) (octets : List ℕ) (e : BoxEntry) (image : Files) → (s : IsSettled disk lists) → IsImage disk (files_of disk) → IsBoxAppend (files_of disk) s.store s.entries lists box octets e
    → LeftBut (file.Box box.number box.generation) disk image → HasOneMore (box_text e) (reading (disk (file.Box box.number box.generation))) (image (file.Box box.number box.generation)) → Safe image (lists_by box.number octets e lists)
safe_with_box_entry disk lists box octets e image s own h left more = record {
  store = s.store;
  entries = s.entries;
  by = safe_by_box_entry (files_of disk) image s.store s.entries lists box h.log octets e s.safe h.is_mailbox h.has h.in_range h.fits h.added h.counts
      (record { more = more; others = others_carry disk lists s (file.Box box.number box.generation) image own left });
}

-- ---- afterwards

no_mail : (log : FileName) → IsLogName log → (n : ℕ) → file.Mail n ≢ log
no_mail log is n e = false≢true (ap is_log e ∙ is)

-- where files agree on the rest, and on the log, they agree
alike_over : (g : ℕ) (m : MapMeaning) (a b c d : Files) (log : FileName) → IsLogName log → AreAlike g m a b → SameBut log a c → SameBut log b d → d log ≡ c log → AreAlike g m c d
alike_over g m a b c d log is e first second here = record {
  root = at file.Root e.root;
  map = at (file.Map g) e.map;
  boxes = All-weaker (λ (box : MapBox). b (file.Box box.number box.generation) ≡ a (file.Box box.number box.generation)) (λ (box : MapBox). d (file.Box box.number box.generation) ≡ c (file.Box box.number box.generation))
      (λ box p. at (file.Box box.number box.generation) p) m.boxes e.boxes;
  regions = All-weaker (HasSameRegion a b) (HasSameRegion c d) (λ row r. region row r) m.records e.regions;
  instances = All-weaker (λ (row : MapRecord). All (HasSameInstance a b) row.instances) (λ (row : MapRecord). All (HasSameInstance c d) row.instances)
      (λ row r. All-weaker (HasSameInstance a b) (HasSameInstance c d) (λ inst p. at (file.Inst inst.hash.0 inst.id.0) p) row.instances r) m.records e.instances;
}
  where
    by_test : (t : Bool) (name : FileName) → same_name name log ≡ t → b name ≡ a name → d name ≡ c name
    by_test true name p same = let q : name ≡ log = same_name-true name log p in subst (λ (n : FileName). d n ≡ c n) (sym q) here
    by_test false name p same = let apart : name ≢ log = same_name-apart name log p in second name apart ∙ same ∙ sym (first name apart)

    at : (name : FileName) → b name ≡ a name → d name ≡ c name
    at name same = by_test (same_name name log) name refl same

    region : (row : MapRecord) → HasSameRegion a b row → HasSameRegion c d row
    region row r =
        let p : c (file.Mail row.file) ≡ a (file.Mail row.file) = first (file.Mail row.file) (no_mail log is row.file) in
        let q : d (file.Mail row.file) ≡ b (file.Mail row.file) = second (file.Mail row.file) (no_mail log is row.file) in
        record { first = r.first; second = r.second; in_first = p ∙ r.in_first; in_second = q ∙ r.in_second; first_holds = r.first_holds; second_holds = r.second_holds; same = r.same }

files_but : (log : FileName) (old new : DiskState) → StatesBut log old new → SameBut log (files_of old) (files_of new)
files_but log old new s = λ other apart. ap reading (s other apart)

-- what is left now was left before, of the other files
pub left_before : (log : FileName) (old new : DiskState) (image : Files) → StatesBut log old new → IsImage new image → LeftBut log old image
left_before log old new image s is = λ other apart. subst (λ (f : FileState). MayLeave f (image other)) (s other apart) (is other)

-- a disk that reads safe files is settled, where all but one log are as they were left, and the log is left as it reads
pub settled_but : (old new : DiskState) (lists later : Lists) (log : FileName) (store : List ℕ) (entries : List MapEntry) → (s : IsSettled old lists) → IsImage old (files_of old) → IsLogName log → StatesBut log old new
    → LeavesAsRead log new → (safe : SafeBy (files_of new) store entries later)
    → ((image : Files) → IsImage new image → AreAlike safe.stands.map_log.generation (map_meaning store entries) (files_of old) (mixed log (files_of old) image)) → IsSettled new later
settled_but old new lists later log store entries s own is states leaves safe alike = record {
  store = store;
  entries = entries;
  safe = safe;
  alike = λ image i. alike_over safe.stands.map_log.generation (map_meaning store entries) (files_of old) (mixed log (files_of old) image) (files_of new) image log is (alike image i) (files_but log old new states) (same_but_mixed log (files_of old) image) (leaves (image log) (i log));
}

-- After an entry of a mailbox log the disk is settled for the lists that it gives.
pub settled_by_box_entry : (old new : DiskState) (lists : Lists) (box : MapBox) (log : List BoxEntry) (octets : List ℕ) (e : BoxEntry) → (s : IsSettled old lists) → IsImage old (files_of old)
    → Contains (map_meaning s.store s.entries).boxes box → HasBox (files_of old) s.store box log → BoxInRange e → BoxFits (box_meaning log) e → AreListed (files_of old) (map_meaning s.store s.entries) (row_made e) (message_made octets e)
    → ((guid : List ℕ) → refs_of (lists_by box.number octets e lists) guid ≤ count_of (map_meaning s.store s.entries) guid)
    → StatesBut (file.Box box.number box.generation) old new → HasOneMore (box_text e) (reading (old (file.Box box.number box.generation))) (reading (new (file.Box box.number box.generation)))
    → LeavesAsRead (file.Box box.number box.generation) new → IsSettled new (lists_by box.number octets e lists)
settled_by_box_entry old new lists box log octets e s own there has in_range fits made counts states more leaves =
    let name : FileName = file.Box box.number box.generation in
    let m : MapMeaning = map_meaning s.store s.entries in
    let g : ℕ = s.safe.stands.map_log.generation in
    let carry : CarryMore name (box_text e) g m (files_of old) (files_of new) = record {
      more = more;
      others = λ other apart. subst (λ (o : Option (List ℕ)). CarriesOver g m (files_of old) other o) (sym (ap reading (states other apart))) (others_carry old lists s name (files_of old) own (λ n _. own n) other apart);
    } in
    let safe : SafeBy (files_of new) s.store s.entries (lists_by box.number octets e lists) = safe_by_box_entry (files_of old) (files_of new) s.store s.entries lists box log octets e s.safe there has in_range fits made counts carry in
    let root : HasRoot (files_of new) s.store g = record {
      before = s.safe.stands.map_log.root.before;
      log = log_as (files_of old) (files_of new) file.Root _ _ (ap reading (states file.Root (λ p. absurd (cc p)))) s.safe.stands.map_log.root.log;
      in_range = s.safe.stands.map_log.root.in_range;
    } in
    let one : g ≡ safe.stands.map_log.generation = (root_same (files_of new) s.store s.store g safe.stands.map_log.generation root safe.stands.map_log.root).1 in
    settled_but old new lists (lists_by box.number octets e lists) name s.store s.entries s own refl states leaves safe
    (λ image i. subst (λ (k : ℕ). AreAlike k m (files_of old) (mixed name (files_of old) image)) one (others_alike old lists s name image own (left_before name old new image states i)))

-- the same of an entry that can be appended
pub safe_by_box_append : (a b : Files) (store : List ℕ) (entries : List MapEntry) (lists : Lists) (box : MapBox) (octets : List ℕ) (e : BoxEntry) → (s : SafeBy a store entries lists) → IsBoxAppend a store entries lists box octets e
    → CarryMore (file.Box box.number box.generation) (box_text e) s.stands.map_log.generation (map_meaning store entries) a b → SafeBy b store entries (lists_by box.number octets e lists)
safe_by_box_append a b store entries lists box octets e s h carry = safe_by_box_entry a b store entries lists box h.log octets e s h.is_mailbox h.has h.in_range h.fits h.added h.counts carry

pub settled_by_box_append : (old new : DiskState) (lists : Lists) (box : MapBox) (octets : List ℕ) (e : BoxEntry) → (s : IsSettled old lists) → IsImage old (files_of old) → IsBoxAppend (files_of old) s.store s.entries lists box octets e
    → StatesBut (file.Box box.number box.generation) old new → HasOneMore (box_text e) (reading (old (file.Box box.number box.generation))) (reading (new (file.Box box.number box.generation)))
    → LeavesAsRead (file.Box box.number box.generation) new → IsSettled new (lists_by box.number octets e lists)
settled_by_box_append old new lists box octets e s own h states more leaves = settled_by_box_entry old new lists box h.log octets e s own h.is_mailbox h.has h.in_range h.fits h.added h.counts states more leaves
