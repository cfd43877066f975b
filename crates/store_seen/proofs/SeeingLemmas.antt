-- What is seen of a store as a run begins, and what stays of it.
use Rattle.std.proofs.Common.{◌≡◌, ◌+◌, ◌==◌, ◌&&◌, ◌||◌, ℕ, Bool, true, false, not, cond, List, [], ◌∷◌, Option, refl, sym, ◌∙◌, ap, subst, arith}
use Rattle.std.specs.Prelude.{nat_le, nat_lt, sum_by, is_some}
use Rattle.std.specs.List.{list_any}
use Rattle.std.specs.Option.{option_map_or}
use Rattle.disk_model.specs.Disk.{History, Faults, told_calls}
use Rattle.mdbox_base.specs.declared.entries.InstRow.{InstRow}
use Rattle.model_meaning.specs.MapMeaning.{MapRecord, MapMeaning, instance_number, is_own, is_sealed, named_instances, number_at}
use Rattle.list_machine.specs.Run.{RunEvent, Run, map_of, is_doomed}
use Rattle.journal.specs.Events.{begun_in, ended_in}
use Rattle.journal.specs.Found.{is_known_file, is_known_instance, is_same_instance}
use Rattle.journal.specs.Makes.{HasCome}
use Rattle.sis_store.specs.Instances.{InstancesValue, instance_in}
use Rattle.storage_files.specs.Files.{FilesValue, end_in, file_in, is_doomed_in}
use Rattle.store_core.specs.Dues.{number_beside, due_at}
use Rattle.store_core.specs.Knows.{is_told_of, knows_file, knows_instance, may_be_gone, may_have_given}
use Rattle.store_core.specs.Value.{StoreValue, none_due}
use Rattle.task_steps.specs.Step.{pins_of, was_given, was_gone, was_used, KeepsTasks, HasComeTo}
use Rattle.task_steps.specs.Tells.{TellsSame}
use Rattle.store_seen.specs.Seeing.{may_be_barred, may_be_used, seen_of, IsAtOpening}

-- ---- the beginning

no_due : (rows : List MapRecord) (uid : ℕ) → number_beside uid rows (none_due rows) ≡ 0
no_due [] uid = refl
no_due (row ∷ rows) uid = by_test (row.uid == uid) refl (no_due rows uid)
  where
    by_test : (b : Bool) → (row.uid == uid) ≡ b → number_beside uid rows (none_due rows) ≡ 0 → number_beside uid (row ∷ rows) (none_due (row ∷ rows)) ≡ 0
    by_test true t rest = ap (λ (c : Bool). cond c 0 (number_beside uid rows (none_due rows))) t
    by_test false t rest = ap (λ (c : Bool). cond c 0 (number_beside uid rows (none_due rows))) t ∙ rest

-- of a run without events a file is there that the map tells of
known_first : (run : Run) (m : MapMeaning) (file : ℕ) → run.events ≡ [] → map_of run ≡ m → is_told_of m file ≡ true → is_known_file run file ≡ true
known_first run m file none is told =
    let at : map_of (record run { events = [] }) ≡ m = subst (λ (es : List RunEvent). map_of (record run { events = es }) ≡ m) none is in
    subst (λ (es : List RunEvent). is_known_file (record run { events = es }) file ≡ true) (sym none)
    (either (list_any (λ row. row.file == file) (map_of (record run { events = [] })).records) (is_sealed (map_of (record run { events = [] })) file) (ap (λ (x : MapMeaning). is_told_of x file) at ∙ told))
  where
    either : (a b : Bool) → (a || b) ≡ true → ((a || (b || false)) && true) ≡ true
    either true b e = refl
    either false true e = refl
    either false false e = e

-- and one that is there and isn't sealed has a record's region
named_file : (run : Run) (m : MapMeaning) (file : ℕ) → run.events ≡ [] → map_of run ≡ m → is_sealed (map_of run) file ≡ false → is_known_file run file ≡ true → list_any (λ row. row.file == file) m.records ≡ true
named_file run m file none is unsealed known =
    let at : map_of (record run { events = [] }) ≡ m = subst (λ (es : List RunEvent). map_of (record run { events = es }) ≡ m) none is in
    sym (ap (λ (x : MapMeaning). list_any (λ row. row.file == file) x.records) at)
    ∙ alone (list_any (λ row. row.file == file) (map_of (record run { events = [] })).records) (is_sealed (map_of (record run { events = [] })) file)
    (subst (λ (es : List RunEvent). is_sealed (map_of (record run { events = es })) file ≡ false) none unsealed) (subst (λ (es : List RunEvent). is_known_file (record run { events = es }) file ≡ true) none known)
  where
    alone : (a b : Bool) → b ≡ false → ((a || (b || false)) && true) ≡ true → a ≡ true
    alone true b e k = refl
    alone false true e k = absurd (cc e)
    alone false false e k = k

-- and the instances are there that records name
named_first : (run : Run) (m : MapMeaning) (instance : InstRow) → run.events ≡ [] → map_of run ≡ m → is_known_instance run instance ≡ list_any (is_same_instance instance) (named_instances m)
named_first run m instance none is =
    let at : map_of (record run { events = [] }) ≡ m = subst (λ (es : List RunEvent). map_of (record run { events = es }) ≡ m) none is in
    subst (λ (es : List RunEvent). is_known_instance (record run { events = es }) instance ≡ list_any (is_same_instance instance) (named_instances m)) (sym none)
    (alone (list_any (is_same_instance instance) (named_instances (map_of (record run { events = [] })))) ∙ ap (λ (x : MapMeaning). list_any (is_same_instance instance) (named_instances x)) at)
  where
    alone : (a : Bool) → ((a || false) && true) ≡ a
    alone true = refl
    alone false = refl

pub comes_at_first : {D : Type 0} → (run : Run) (store : StoreValue D) (history : Option History) (faults : Faults) → IsAtOpening run store → HasCome run store.map store.drawn (told_calls history) → HasComeTo run (seen_of (λ file. 0) store history faults)
comes_at_first run store history faults at come = record {
  come = come;
  keeps = λ runs. record {
    due = λ uid. subst (λ (es : List RunEvent). sum_by (begun_in uid) es ≡ due_at uid store + sum_by (ended_in uid) es) (sym at.empty) (sym (none uid));
    pins = λ file. subst (λ (es : List RunEvent). pins_of (record run { events = es }) file ≡ 0) (sym at.empty) refl;
    doomed = λ file. subst (λ (es : List RunEvent). is_doomed (record run { events = es }) file ≡ false) (sym at.empty) refl ∙ sym (at.undoomed file);
    instances = λ instance. named_first run store.map instance at.empty come.map_is ∙ sym (at.named instance);
    files = λ file unsealed known. at.there file (ap (λ (m : MapMeaning). is_sealed m file) (sym come.map_is) ∙ unsealed) (named_file run store.map file at.empty come.map_is unsealed known);
  };
  used = λ file. subst (λ (es : List RunEvent). was_used (record run { events = es }) file ≡ true → may_be_used store file ≡ true) (sym at.empty) (λ e. absurd (cc e));
  barred = at.barred;
  gave = λ guid. subst (λ (es : List RunEvent). was_given (record run { events = es }) guid ≡ true → may_have_given store guid ≡ true) (sym at.empty) (λ e. absurd (cc e));
  gone = λ instance. subst (λ (es : List RunEvent). was_gone (record run { events = es }) instance ≡ true → may_be_gone store instance ≡ true) (sym at.empty) (λ e. absurd (cc e));
  files = λ file e. known_first run store.map file at.empty come.map_is (at.told file e);
}
  where
    none : (uid : ℕ) → due_at uid store + 0 ≡ 0
    none uid = let e : due_at uid store ≡ 0 = ap (λ (ns : List ℕ). number_beside uid store.map.records ns) at.free ∙ no_due store.map.records uid in omega (arith, e)

-- ---- what stays

pub due_as_before : {D : Type 0} → (old new : StoreValue D) (uid : ℕ) → new.map ≡ old.map → new.dues ≡ old.dues → due_at uid new ≡ due_at uid old
due_as_before old new uid map dues = ap (λ (m : MapMeaning). number_beside uid m.records new.dues) map ∙ ap (number_beside uid old.map.records) dues

given_as_before : {D : Type 0} → (old new : StoreValue D) (guid : List ℕ) → new.map.store ≡ old.map.store → new.drawn.file ≡ old.drawn.file → new.files ≡ old.files → may_have_given new guid ≡ may_have_given old guid
given_as_before old new guid id drawn files =
    ap (λ (s : List ℕ). is_own s guid && (nat_le (number_at 8 guid) new.drawn.file && option_map_or (λ x. option_map_or (λ end. nat_lt (number_at 12 guid) end) x.end false) (file_in (number_at 8 guid) new.files.files) true)) id
    ∙ (ap (λ (n : ℕ). is_own old.map.store guid && (nat_le (number_at 8 guid) n && option_map_or (λ x. option_map_or (λ end. nat_lt (number_at 12 guid) end) x.end false) (file_in (number_at 8 guid) new.files.files) true)) drawn
    ∙ ap (λ (f : FilesValue). is_own old.map.store guid && (nat_le (number_at 8 guid) old.drawn.file && option_map_or (λ x. option_map_or (λ end. nat_lt (number_at 12 guid) end) x.end false) (file_in (number_at 8 guid) f.files) true)) files)

pub gone_as_before : {D : Type 0} → (old new : StoreValue D) (row : InstRow) → new.map.store ≡ old.map.store → new.drawn.instance ≡ old.drawn.instance → may_be_gone new row ≡ may_be_gone old row
gone_as_before old new row id drawn = ap (λ (s : List ℕ). nat_le (instance_number s row.id.0) new.drawn.instance) id ∙ ap (λ (n : ℕ). nat_le (instance_number old.map.store row.id.0) n) drawn

pub tells_as_before : {D : Type 0} → (pins : ℕ → ℕ) (old new : StoreValue D) (before after : Option History) (began now : Faults) → (new.stopped ≡ false → old.stopped ≡ false) → new.map.store ≡ old.map.store → new.drawn.file ≡ old.drawn.file → new.drawn.instance ≡ old.drawn.instance → new.files ≡ old.files → new.instances ≡ old.instances
    → TellsSame (seen_of pins old before began) (seen_of pins new after now)
tells_as_before pins old new before after began now ran id file instance files instances = record {
  ran = ran;
  pins = λ number. refl;
  doomed = λ number. ap (λ (f : FilesValue). is_doomed_in number f.files) files;
  used = λ number. ap (λ (n : ℕ). nat_le number n && option_map_or (λ f. f.doomed) (file_in number new.files.files) true) file
      ∙ ap (λ (f : FilesValue). nat_le number old.drawn.file && option_map_or (λ x. x.doomed) (file_in number f.files) true) files;
  barred = λ number. ap (λ (n : ℕ). nat_le number n && option_map_or (λ f. f.barred) (file_in number new.files.files) true) file
      ∙ ap (λ (f : FilesValue). nat_le number old.drawn.file && option_map_or (λ x. x.barred) (file_in number f.files) true) files;
  gave = λ guid. given_as_before old new guid id file files;
  gone = λ row. gone_as_before old new row id instance;
  files = λ number. ap (λ (f : FilesValue). is_some (end_in number f.files)) files;
  instances = λ row. ap (λ (i : InstancesValue). knows_in row i) instances;
}
  where
    knows_in : InstRow → InstancesValue → Bool
    knows_in row i = knows_instance (record old { instances = i }) row
