-- Where a log isn't in force, whatever stands there is of no account.
use Rattle.std.specs.Prelude.{◌≡◌, ◌≢◌, ℕ, true, false, Bool, List, [], ◌∷◌, Option, All, refl}
use Rattle.std.proofs.Common.{sym, ◌∙◌, ap, subst}
use Rattle.std.proofs.lemmas.Bool.{false≢true}
use Rattle.std.proofs.lemmas.List.Elements.{All-head, All-tail, All-weaker}
use Rattle.disk_model.specs.Disk.{Files, DiskState, IsImage, reading}
use Rattle.disk_model.specs.Name.{same_name, is_log, IsLogName}
use Rattle.disk_model.proofs.NameLemmas.{same_name-true, same_name-apart}
use Rattle.disk_model.specs.declared.name.FileName.{FileName}
use Rattle.disk_model.specs.declared.name.FileName.TheVariants as file
use Rattle.mdbox_base.specs.declared.entries.BoxEntry.{BoxEntry}
use Rattle.mdbox_base.specs.declared.entries.MapEntry.{MapEntry}
use Rattle.model_lists.specs.Lists.{Lists}
use Rattle.model_meaning.specs.MapMeaning.{MapRecord, MapBox, MapMeaning, map_meaning, named_instances}
use Rattle.model_store.proofs.CarryingLemmas.{each_name}
use Rattle.model_store.proofs.SettledLemmas.{safe_carried}
use Rattle.model_store.proofs.StandsLemmas.{root_same}
use Rattle.model_store.specs.Carrying.{HasSameEntries, CarriesOver}
use Rattle.model_store.specs.Opening.{PassBoxes, Opens}
use Rattle.model_store.specs.Safe.{LiesInFile, IsThereWhole, SafeBy, Safe}
use Rattle.model_store.specs.Settled.{files_of, IsSameRegion, HasSameRegion, HasSameInstance, AreAlike, IsSettled}
use Rattle.model_store.specs.Stands.{HasRoot}
use Rattle.model_appends.specs.Appending.{LeftBut, SameBut}
use Rattle.model_appends.proofs.AppendBoxLemmas.{box_log_as}
use Rattle.model_appends.proofs.AppendFileLemmas.{SameStored, log_as, mixed, mixed-other}
use Rattle.model_appends.proofs.AppendSafeLemmas.{carries_alike, mixed_image, others_carry, regions_as, instances_as}
use Rattle.model_rewritten.specs.Unneeded.{IsUnneeded, IsBeside}

-- ---- what is no log

no_mail : (name : FileName) → IsLogName name → (n : ℕ) → file.Mail n ≢ name
no_mail name is n e = false≢true (ap is_log e ∙ is)

no_instance : (name : FileName) → IsLogName name → (hash id : List ℕ) → file.Inst hash id ≢ name
no_instance name is hash id e = false≢true (ap is_log e ∙ is)

-- ---- what stands there carries over, whatever it is

carries_nothing : (g : ℕ) (m : MapMeaning) (a : Files) (name : FileName) (left : Option (List ℕ)) → IsUnneeded g m name → CarriesOver g m a name left
carries_nothing g m a file.Root left u = absurd (u.no_root refl)
carries_nothing g m a (file.Map k) left u = λ is. absurd (u.no_map (ap (λ (n : ℕ). file.Map n) is))
carries_nothing g m a (file.Box k l) left u =
    All-weaker (λ (box : MapBox). file.Box box.number box.generation ≢ file.Box k l) (λ (box : MapBox). box.number ≡ k → box.generation ≡ l → HasSameEntries (a (file.Box k l)) left)
    (λ box apart p q. absurd (apart (cc (p, q)))) m.boxes u.no_box
carries_nothing g m a (file.Mail n) left u = absurd (false≢true u.is)
carries_nothing g m a (file.Inst hash id) left u = absurd (false≢true u.is)

-- at each name, what carries over at the others
carries_all : (g : ℕ) (m : MapMeaning) (a b : Files) (log : FileName) → IsUnneeded g m log → ((other : FileName) → other ≢ log → CarriesOver g m a other (b other)) → (name : FileName) → CarriesOver g m a name (b name)
carries_all g m a b log u others name = by_test (same_name name log) refl
  where
    by_test : (t : Bool) → same_name name log ≡ t → CarriesOver g m a name (b name)
    by_test true e = subst (λ (n : FileName). CarriesOver g m a n (b n)) (sym (same_name-true name log e)) (carries_nothing g m a log (b log) u)
    by_test false e = others name (same_name-apart name log e)

-- An image that has of each other file what a crash may leave is safe.
pub unneeded_safe : (disk : DiskState) (lists : Lists) (name : FileName) (image : Files) → (s : IsSettled disk lists) → IsImage disk (files_of disk) → IsUnneeded s.safe.stands.map_log.generation (map_meaning s.store s.entries) name
    → LeftBut name disk image → Safe image lists
unneeded_safe disk lists name image s own u left =
    let m : MapMeaning = map_meaning s.store s.entries in
    let g : ℕ = s.safe.stands.map_log.generation in
    record {
      store = s.store;
      entries = s.entries;
      by = safe_carried (files_of disk) image s.store s.entries lists s.safe (each_name g m (files_of disk) image (carries_all g m (files_of disk) image name u (λ other apart. others_carry disk lists s name image own left other apart)));
    }

-- ---- afterwards

alike_beside : (g : ℕ) (m : MapMeaning) (log : FileName) (a b : DiskState) (image : Files) → IsBeside log a b → IsUnneeded g m log → AreAlike g m (files_of a) (mixed log (files_of a) image) → AreAlike g m (files_of b) image
alike_beside g m log a b image beside u e = record {
  root = at file.Root (λ p. u.no_root (sym p)) e.root;
  map = at (file.Map g) (λ p. u.no_map (sym p)) e.map;
  boxes = λ k d lt. at (file.Box _ _) (u.no_box k d lt) (e.boxes k d lt);
  regions = All-weaker (HasSameRegion (files_of a) (mixed log (files_of a) image)) (HasSameRegion (files_of b) image) (λ row r. region row r) m.records e.regions;
  instances = All-weaker (λ (row : MapRecord). All (HasSameInstance (files_of a) (mixed log (files_of a) image)) row.instances) (λ (row : MapRecord). All (HasSameInstance (files_of b) image) row.instances)
      (λ row r. All-weaker (HasSameInstance (files_of a) (mixed log (files_of a) image)) (HasSameInstance (files_of b) image)
      (λ inst p. at (file.Inst inst.hash.0 inst.id.0) (no_instance log u.is inst.hash.0 inst.id.0) p) row.instances r) m.records e.instances;
}
  where
    at : (name : FileName) → name ≢ log → mixed log (files_of a) image name ≡ files_of a name → image name ≡ files_of b name
    at name apart same = sym (mixed-other log name (files_of a) image apart) ∙ same ∙ sym (beside.reads name apart)

    region : (row : MapRecord) → HasSameRegion (files_of a) (mixed log (files_of a) image) row → HasSameRegion (files_of b) image row
    region row r =
        let apart : file.Mail row.file ≢ log = no_mail log u.is row.file in
        subst (λ (o : Option (List ℕ)). IsSameRegion o (image (file.Mail row.file)) row) (sym (beside.reads (file.Mail row.file) apart))
        (subst (λ (o : Option (List ℕ)). IsSameRegion (reading (a (file.Mail row.file))) o row) (mixed-other log (file.Mail row.file) (files_of a) image apart) r)

-- A disk on which no other file reads or is left otherwise is settled.
pub unneeded_settled : (a b : DiskState) (lists : Lists) (name : FileName) → (s : IsSettled a lists) → IsImage a (files_of a) → IsUnneeded s.safe.stands.map_log.generation (map_meaning s.store s.entries) name → IsBeside name a b → IsSettled b lists
unneeded_settled a b lists name s own u beside =
    let m : MapMeaning = map_meaning s.store s.entries in
    let g : ℕ = s.safe.stands.map_log.generation in
    let itself : (other : FileName) → CarriesOver g m (files_of a) other (files_of a other) = carries_alike g m (files_of a) (files_of a) (s.alike (files_of a) own) in
    let safe : SafeBy (files_of b) s.store s.entries lists =
    safe_carried (files_of a) (files_of b) s.store s.entries lists s.safe (each_name g m (files_of a) (files_of b) (carries_all g m (files_of a) (files_of b) name u
    (λ other apart. subst (λ (o : Option (List ℕ)). CarriesOver g m (files_of a) other o) (sym (beside.reads other apart)) (itself other)))) in
    let root : HasRoot (files_of b) s.store g = record {
      before = s.safe.stands.map_log.root.before;
      log = log_as (files_of a) (files_of b) file.Root _ _ (beside.reads file.Root (λ p. u.no_root (sym p))) s.safe.stands.map_log.root.log;
      in_range = s.safe.stands.map_log.root.in_range;
    } in
    let one : g ≡ safe.stands.map_log.generation = (root_same (files_of b) s.store s.store g safe.stands.map_log.generation root safe.stands.map_log.root).1 in
    record {
      store = s.store;
      entries = s.entries;
      safe = safe;
      alike = λ image is.
          let before : IsImage a (mixed name (files_of a) image) = mixed_image name a image own (λ other apart. beside.leaves other apart (image other) (is other)) in
          subst (λ (k : ℕ). AreAlike k m (files_of b) image) one (alike_beside g m name a b image beside u (s.alike (mixed name (files_of a) image) before));
    }

-- ---- files that open

pub passes_beside : (a b : Files) (m : MapMeaning) (name : FileName) (boxes : List MapBox) (logs : List (List BoxEntry)) → SameBut name a b → All (λ (box : MapBox). file.Box box.number box.generation ≢ name) boxes → PassBoxes a m boxes logs → PassBoxes b m boxes logs
passes_beside a b m name [] [] same apart h = tt
passes_beside a b m name [] (log ∷ logs) same apart h = absurd h
passes_beside a b m name (box ∷ boxes) [] same apart h = absurd h
passes_beside a b m name (box ∷ boxes) (log ∷ logs) same apart h = (
  record {
    log = box_log_as a b m.store box log (same (file.Box box.number box.generation) (All-head (λ (o : MapBox). file.Box o.number o.generation ≢ name) box boxes apart)) h.0.log;
    records = h.0.records;
  },
  passes_beside a b m name boxes logs same (All-tail (λ (o : MapBox). file.Box o.number o.generation ≢ name) box boxes apart) h.1,
)

-- Files that open do so whatever stands there.
pub unneeded_opens : (a b : Files) (store : List ℕ) (entries : List MapEntry) (logs : List (List BoxEntry)) (name : FileName) → (o : Opens a store entries logs) → IsUnneeded o.passed.map_log.generation (map_meaning store entries) name
    → SameBut name a b → Opens b store entries logs
unneeded_opens a b store entries logs name o u same =
    let m : MapMeaning = map_meaning store entries in
    let g : ℕ = o.passed.map_log.generation in
    let stored : SameStored a b = record { mails = λ n. same (file.Mail n) (no_mail name u.is n); instances = λ hash id. same (file.Inst hash id) (no_instance name u.is hash id) } in
    record {
      passed = record {
        map_log = record {
          generation = g;
          root = record {
            before = o.passed.map_log.root.before;
            log = log_as a b file.Root _ _ (same file.Root (λ p. u.no_root (sym p))) o.passed.map_log.root.log;
            in_range = o.passed.map_log.root.in_range;
          };
          generation_number = o.passed.map_log.generation_number;
          log = log_as a b (file.Map g) _ _ (same (file.Map g) (λ p. u.no_map (sym p))) o.passed.map_log.log;
          in_range = o.passed.map_log.in_range;
          fit = o.passed.map_log.fit;
        };
        boxes = passes_beside a b m name m.boxes logs same u.no_box o.passed.boxes;
      };
      counts = o.counts;
      regions = All-weaker (LiesInFile a) (LiesInFile b) (λ row r. regions_as a b row stored r) m.records o.regions;
      instances = All-weaker (IsThereWhole a) (IsThereWhole b) (λ inst r. instances_as a b inst stored r) (named_instances m) o.instances;
    }
