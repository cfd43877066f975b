-- The root log names another map log.
use Rattle.std.specs.Prelude.{◌≡◌, ◌≢◌, ◌<◌, ◌^◌, ℕ, Bool, true, false, List, [], ◌∷◌, ◌++◌, length, Option, All, refl}
use Rattle.std.specs.List.{AllByRecursion}
use Rattle.std.proofs.Common.{sym, ap, arith, subst}
use Rattle.std.proofs.lemmas.List.Elements.{All-nil, All-cons, All-weaker}
use Rattle.disk_model.specs.Disk.{Files, DiskState, IsImage, reading}
use Rattle.disk_model.specs.Name.{same_name}
use Rattle.disk_model.proofs.NameLemmas.{same_name-true, same_name-apart}
use Rattle.disk_model.specs.declared.name.FileName.{FileName}
use Rattle.disk_model.specs.declared.name.FileName.TheVariants as file
use Rattle.mdbox_base.specs.declared.entries.BoxEntry.{BoxEntry}
use Rattle.mdbox_base.specs.declared.entries.MapEntry.{MapEntry}
use Rattle.mdbox_base.specs.declared.entries.RootEntry.TheVariants as root
use Rattle.model_lists.specs.Lists.{Lists}
use Rattle.model_logs.specs.Entries.{root_text, RootInRange}
use Rattle.model_logs.specs.declared.log_head.LogKind.TheVariants as kind
use Rattle.model_meaning.proofs.FitLemmas.{each_more}
use Rattle.model_meaning.proofs.MapSoundLemmas.{map_sound}
use Rattle.model_meaning.specs.BoxMeaning.{rows_after}
use Rattle.model_meaning.specs.MapMeaning.{MapBox, MapMeaning, map_meaning, named_instances}
use Rattle.model_store.proofs.CarryingLemmas.{each_name}
use Rattle.model_store.proofs.SettledLemmas.{has_all_carried, stands_carried}
use Rattle.model_store.proofs.StandsLemmas.{root_same}
use Rattle.model_store.specs.Carrying.{HasSameEntries, CarryOver, CarriesOver}
use Rattle.model_store.specs.GoodLogs.{AreGoodLogs}
use Rattle.model_store.specs.Opening.{AreMapEntries, HasItsRecord, PassBoxes, IsCounted, Opens}
use Rattle.model_store.specs.Safe.{LiesInFile, IsThereWhole, HasAll, SafeBy, Safe}
use Rattle.model_store.specs.Settled.{files_of, AreAlike, IsSettled}
use Rattle.model_store.specs.Stands.{head_of, HasRoot, HasMap, AreMailboxes, StoredOnce, KeepsDetached, StandsBy}
use Rattle.model_appends.specs.Appending.{HasOneMore, CarryMore, SameBut, StatesBut, LeftBut, LeavesAsRead}
use Rattle.model_appends.specs.MapAppending.{LeavesAlike}
use Rattle.model_appends.proofs.AppendBoxLemmas.{once_as, detached_as}
use Rattle.model_appends.proofs.AppendFileLemmas.{SameStored, carries_from, log_as, log_more, mixed, mixed-here, mixed-other}
use Rattle.model_appends.proofs.AppendSafeLemmas.{carries_alike, has_all_as, instances_as, left_before, mixed_image, regions_as, settled_but}
use Rattle.model_rewritten.specs.OtherMap.{IsRootAppend, IsOtherMap}
use Rattle.model_rewritten.proofs.KeptMailLemmas.{mailboxes_as}
use Rattle.model_rewritten.proofs.UnneededLemmas.{passes_beside}

-- ---- files that differ in the root log alone

root_stored : (a b : Files) → SameBut file.Root a b → SameStored a b
root_stored a b s = record { mails = λ n. s (file.Mail n) (λ e. absurd (cc e)); instances = λ hash id. s (file.Inst hash id) (λ e. absurd (cc e)) }

-- the root log with one entry more
pub root_more : (a b : Files) (store : List ℕ) (g h : ℕ) → h < 2 ^ 32 → HasOneMore (root_text (root.M h)) (a file.Root) (b file.Root) → HasRoot a store g → HasRoot b store h
root_more a b store g h fits more r = record {
  before = r.before ++ root.M g ∷ [];
  log = log_more root_text a b file.Root (head_of store kind.Root 0 0) (r.before ++ root.M g ∷ []) (root.M h) more r.log;
  in_range = each_more RootInRange (r.before ++ root.M g ∷ []) (root.M h) r.in_range fits;
}

map_by_root : (a b : Files) (store : List ℕ) (entries others : List MapEntry) (lists : Lists) (generation : ℕ) → HasMap a store entries → IsRootAppend a store generation others lists → SameBut file.Root a b
    → HasOneMore (root_text (root.M generation)) (a file.Root) (b file.Root) → HasMap b store others
map_by_root a b store entries others lists generation h r same more = record {
  generation = generation;
  root = root_more a b store h.generation generation (let n = r.generation_number.high in omega (arith, n)) more h.root;
  generation_number = r.generation_number;
  log = log_as a b (file.Map generation) _ _ (same (file.Map generation) (λ e. absurd (cc e))) r.log;
  in_range = r.in_range;
  fit = r.fit;
}

-- with the root log of the second files, the first carry over to them
carry_root : (g : ℕ) (m : MapMeaning) (a b : Files) → ((name : FileName) → name ≢ file.Root → CarriesOver g m a name (b name)) → CarryOver g m (mixed file.Root b a) b
carry_root g m a b others = each_name g m (mixed file.Root b a) b (λ name. by_test (same_name name file.Root) name refl)
  where
    by_test : (t : Bool) (name : FileName) → same_name name file.Root ≡ t → CarriesOver g m (mixed file.Root b a) name (b name)
    by_test true name e =
        let is : name ≡ file.Root = same_name-true name file.Root e in
        subst (λ (n : FileName). CarriesOver g m (mixed file.Root b a) n (b n)) (sym is) (subst (λ (o : Option (List ℕ)). HasSameEntries o (b file.Root)) (sym (mixed-here file.Root b a)) (λ head entries l. l))
    by_test false name e =
        let apart : name ≢ file.Root = same_name-apart name file.Root e in
        carries_from g m (mixed file.Root b a) a name (b name) (mixed-other file.Root name b a apart) (others name apart)

-- ---- safe

stands_in_place : (a c : Files) (store : List ℕ) (entries others : List MapEntry) (lists : Lists) (generation : ℕ) → SafeBy a store entries lists → (r : IsRootAppend a store generation others lists) → (same : SameBut file.Root a c)
    → HasMap c store others → StandsBy c store others lists
stands_in_place a c store entries others lists generation s r same has =
    let n : MapMeaning = map_meaning store others in
    let stored : SameStored a c = root_stored a c same in
    record {
      map_log = has;
      mailboxes = mailboxes_as a c n n.boxes lists stored (λ number g. same (file.Box number g) (λ e. absurd (cc e))) r.mailboxes;
      one_record = (map_sound store others r.fit r.in_range).guids;
      once = once_as a c n stored r.once;
      detached = detached_as a c n stored r.detached;
    }

pub safe_by_root : (a b : Files) (store : List ℕ) (entries others : List MapEntry) (lists : Lists) (generation : ℕ) → SafeBy a store entries lists → IsRootAppend a store generation others lists
    → CarryMore file.Root (root_text (root.M generation)) generation (map_meaning store others) a b → SafeBy b store others lists
unfolding stands_in_place map_by_root
safe_by_root a b store entries others lists generation s r carry =
    let n : MapMeaning = map_meaning store others in
    let c : Files = mixed file.Root b a in
    let same : SameBut file.Root a c = λ other apart. mixed-other file.Root other b a apart in
    let more : HasOneMore (root_text (root.M generation)) (a file.Root) (c file.Root) = subst (λ (o : Option (List ℕ)). HasOneMore (root_text (root.M generation)) (a file.Root) o) (sym (mixed-here file.Root b a)) carry.more in
    let has : HasMap c store others = map_by_root a c store entries others lists generation s.stands.map_log r same more in
    let over : CarryOver generation n c b = carry_root generation n a b carry.others in
    record {
      stands = stands_carried c b store others lists (stands_in_place a c store entries others lists generation s r same has) over;
      has_all = has_all_carried generation n c b lists over (has_all_as a c n lists lists (root_stored a c same) r.all.counts r.all);
    }

-- ---- a disk that is settled

-- An image with the entry, which has of each other file what a crash may leave, is safe.
pub safe_with_root : (disk : DiskState) (lists : Lists) (others : List MapEntry) (generation : ℕ) (image : Files) → (s : IsSettled disk lists) → IsImage disk (files_of disk) → IsRootAppend (files_of disk) s.store generation others lists
    → LeavesAlike generation (map_meaning s.store others) disk → LeftBut file.Root disk image → HasOneMore (root_text (root.M generation)) (reading (disk file.Root)) (image file.Root) → Safe image lists
safe_with_root disk lists others generation image s own r alike left more =
    let n : MapMeaning = map_meaning s.store others in
    let c : Files = mixed file.Root (files_of disk) image in
    record {
      store = s.store;
      entries = others;
      by = safe_by_root (files_of disk) image s.store s.entries others lists generation s.safe r (record {
        more = more;
        others = λ other apart. subst (λ (o : Option (List ℕ)). CarriesOver generation n (files_of disk) other o) (mixed-other file.Root other (files_of disk) image apart)
            (carries_alike generation n (files_of disk) c (alike c (mixed_image file.Root disk image own left)) other);
      });
    }

pub settled_by_root : (old new : DiskState) (lists : Lists) (others : List MapEntry) (generation : ℕ) → (s : IsSettled old lists) → IsImage old (files_of old) → IsRootAppend (files_of old) s.store generation others lists
    → LeavesAlike generation (map_meaning s.store others) old → StatesBut file.Root old new → HasOneMore (root_text (root.M generation)) (reading (old file.Root)) (reading (new file.Root)) → LeavesAsRead file.Root new → IsSettled new lists
settled_by_root old new lists others generation s own r alike states more leaves =
    let n : MapMeaning = map_meaning s.store others in
    let itself : (other : FileName) → CarriesOver generation n (files_of old) other (files_of old other) = carries_alike generation n (files_of old) (files_of old) (alike (files_of old) own) in
    let carry : CarryMore file.Root (root_text (root.M generation)) generation n (files_of old) (files_of new) = record {
      more = more;
      others = λ other apart. subst (λ (o : Option (List ℕ)). CarriesOver generation n (files_of old) other o) (sym (ap reading (states other apart))) (itself other);
    } in
    let safe : SafeBy (files_of new) s.store others lists = safe_by_root (files_of old) (files_of new) s.store s.entries others lists generation s.safe r carry in
    let named : HasRoot (files_of new) s.store generation = root_more (files_of old) (files_of new) s.store s.safe.stands.map_log.generation generation (let g = r.generation_number.high in omega (arith, g)) more s.safe.stands.map_log.root in
    let one : generation ≡ safe.stands.map_log.generation = (root_same (files_of new) s.store s.store generation safe.stands.map_log.generation named safe.stands.map_log.root).1 in
    settled_but old new lists lists file.Root s.store others s own refl states leaves safe
    (λ image i. subst (λ (k : ℕ). AreAlike k n (files_of old) (mixed file.Root (files_of old) image)) one (alike (mixed file.Root (files_of old) image) (mixed_image file.Root old image own (left_before file.Root old new image states i))))

-- ---- a map log that means the same

pub other_append : (files : Files) (store : List ℕ) (entries others : List MapEntry) (lists : Lists) (generation : ℕ) → SafeBy files store entries lists → IsOtherMap files store generation entries others → IsRootAppend files store generation others lists
other_append files store entries others lists generation s o = record {
  generation_number = o.generation_number;
  log = o.log;
  in_range = o.in_range;
  fit = o.fit;
  mailboxes = subst (λ (n : MapMeaning). AreMailboxes files n n.boxes lists) (sym o.means) s.stands.mailboxes;
  once = subst (λ (n : MapMeaning). StoredOnce files n) (sym o.means) s.stands.once;
  detached = subst (λ (n : MapMeaning). KeepsDetached files n) (sym o.means) s.stands.detached;
  all = subst (λ (n : MapMeaning). HasAll files n lists) (sym o.means) s.has_all;
}

pub leaves_other : (disk : DiskState) (lists : Lists) (others : List MapEntry) (generation : ℕ) → (s : IsSettled disk lists) → map_meaning s.store others ≡ map_meaning s.store s.entries
    → ((image : Files) → IsImage disk image → image (file.Map generation) ≡ files_of disk (file.Map generation)) → LeavesAlike generation (map_meaning s.store others) disk
leaves_other disk lists others generation s means held image is =
    let alike = s.alike image is in
    subst (λ (n : MapMeaning). AreAlike generation n (files_of disk) image) (sym means) (record { root = alike.root; map = held image is; boxes = alike.boxes; regions = alike.regions; instances = alike.instances })

pub good_other : (store : List ℕ) (entries others : List MapEntry) (logs : List (List BoxEntry)) → AreGoodLogs store entries logs → AreMapEntries store others → map_meaning store others ≡ map_meaning store entries → AreGoodLogs store others logs
good_other store entries others logs good entries_good means = record {
  map_entries = entries_good;
  box_entries = good.box_entries;
  one_each = subst (λ (n : MapMeaning). length logs ≡ length n.boxes) (sym means) good.one_each;
  records = subst (λ (n : MapMeaning). AllByRecursion (λ log. All (HasItsRecord n) (rows_after log)) logs) (sym means) good.records;
  counts = subst (λ (n : MapMeaning). All (IsCounted logs) n.records) (sym means) good.counts;
}

pub all_boxes : (boxes : List MapBox) → All (λ (box : MapBox). file.Box box.number box.generation ≢ file.Root) boxes
all_boxes [] = All-nil (λ (box : MapBox). file.Box box.number box.generation ≢ file.Root)
all_boxes (box ∷ boxes) = All-cons (λ (b : MapBox). file.Box b.number b.generation ≢ file.Root) box boxes (λ e. absurd (cc e)) (all_boxes boxes)

pub opens_other : (a b : Files) (store : List ℕ) (entries others : List MapEntry) (logs : List (List BoxEntry)) (generation : ℕ) → Opens a store entries logs → IsOtherMap a store generation entries others
    → SameBut file.Root a b → HasOneMore (root_text (root.M generation)) (a file.Root) (b file.Root) → Opens b store others logs
opens_other a b store entries others logs generation o r same more =
    let m : MapMeaning = map_meaning store entries in
    let stored : SameStored a b = root_stored a b same in
    record {
      passed = record {
        map_log = record {
          generation = generation;
          root = root_more a b store o.passed.map_log.generation generation (let n = r.generation_number.high in omega (arith, n)) more o.passed.map_log.root;
          generation_number = r.generation_number;
          log = log_as a b (file.Map generation) _ _ (same (file.Map generation) (λ e. absurd (cc e))) r.log;
          in_range = r.in_range;
          fit = r.fit;
        };
        boxes = subst (λ (n : MapMeaning). PassBoxes b n n.boxes logs) (sym r.means) (passes_beside a b m file.Root m.boxes logs same (all_boxes m.boxes) o.passed.boxes);
      };
      counts = subst (λ (n : MapMeaning). All (IsCounted logs) n.records) (sym r.means) o.counts;
      regions = subst (λ (n : MapMeaning). All (LiesInFile b) n.records) (sym r.means) (All-weaker (LiesInFile a) (LiesInFile b) (λ row l. regions_as a b row stored l) m.records o.regions);
      instances = subst (λ (n : MapMeaning). All (IsThereWhole b) (named_instances n)) (sym r.means) (All-weaker (IsThereWhole a) (IsThereWhole b) (λ inst l. instances_as a b inst stored l) (named_instances m) o.instances);
    }
