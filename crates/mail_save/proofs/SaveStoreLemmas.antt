-- A store before and after an event of a delivery, as the event sees it.
use Rattle.mail_save.proofs.Common.{◌≡◌, ◌≤◌, ◌<◌, ◌+◌, ◌-◌, ◌^◌, ◌==◌, ◌&&◌, ◌||◌, ℕ, Bool, true, false, not, List, [], ◌∷◌, ◌++◌, length, Option, Some, None, refl, sym, ◌∙◌, ap, subst, arith, inl, inr, nat_le, nat_lt, is_some, if◌then◌else◌, w32, to_be_bytes, option_map, option_map_or}
use Rattle.mail_save.proofs.Common.{option_and_then, cases_eq, eq-eqb, ne_eqb, cond-false, common_steps, length-append, All-nil, All-cons, All-head, All-tail, All-append, History, Faults, IsOctets, Highest, InstRow, FileNo, MapUid, bit, Lists, BoxMeaning, MapBox, MapMeaning, no_numbers, is_own}
use Rattle.mail_save.proofs.Common.{guid_file, number_at, ShowLists, IsSettledFor, Leaves, drawn_also, AreFilesInOrder, changed_in, end_in, ending_at, file_begun, file_in, given_back, is_doomed_in, released_in, with_taken, without_file, file-before_begun, file-begun, file-other, MailFile}
use Rattle.mail_save.proofs.Common.{AreInstances, due_at, number_beside, knows_instance, IsStore, StoreValue, indexes_of, seen_of, fall, Lasts, one_due, ShowsSeen, around_saving, room_at, SaveStage}
use Rattle.std.specs.Prelude.{◌/◌, ◌%◌, ◌≢◌, All, cond}
use Rattle.model_meaning.specs.MapMeaning.{is_sealed}
use Rattle.storage_files.proofs.FileListLemmas.{KeepsNumber, file-here}
use Rattle.saved_message.specs.Region.{guid_of_place}
use Rattle.store_core.specs.Knows.{may_have_given}
use Rattle.store_seen.specs.Seeing.{may_be_barred, may_be_used}
use Rattle.task_steps.specs.Step.{IsSettledIn}
use Rattle.mail_save.specs.SaveEffects.{AreEndsSame}
use Rattle.mail_save.specs.SaveSeen.{candidate_at}
use Rattle.mail_save.specs.declared.task.SaveStage.TheVariants as stage
use Rattle.mail_save.proofs.PlaceLemmas.{own_place, file_of_place, offset_of_place}
use Rattle.mail_save.proofs.SaveDidLemmas.{HasRun, KeepsTelling, StaysSo}
use Rattle.mail_save.proofs.SaveFileLemmas.{value_changed}
use Rattle.mail_save.proofs.SaveFrontLemmas.{SeesAround}
use Rattle.mail_save.proofs.SaveRoomLemmas.{RoomIs, room_is, both_true, le_true, lt_true, true_le, true_lt}
use Rattle.mail_save.proofs.SeenInstanceLemmas.{KnowsAlike, candidate_known, gone_on}

-- ---- what it finds

pub room_known : {D : Type 0} → (now : SaveStage) (store : StoreValue D) (file : ℕ) → AreFilesInOrder store.files → room_at now store ≡ Some file → (size : ℕ) × RoomIs size file store.files.files
room_known (stage.Taking parts) store file order e = (length parts.laid.region, room_is (length parts.laid.region) file store.files.files order.rising e)
room_known now store file order e = absurd (let k : None ≡ Some file = e in cc k)

never_both : (b : Bool) → (b ≡ true → ⊥) → b ≡ false
never_both true f = absurd (f refl)
never_both false f = refl

pub candidate_seen : {D : Type 0} → (now : SaveStage) (store : StoreValue D) (instance : InstRow) → AreInstances store.instances → candidate_at now store ≡ Some instance → knows_instance store instance ≡ true
candidate_seen (stage.Attaching parts attaching) store instance ids e = candidate_known attaching store.instances instance ids e
candidate_seen now store instance ids e = absurd (let k : None ≡ Some instance = e in cc k)

pub sees_around : {D : Type 0} → (pins : ℕ → ℕ) (octets : List ℕ) (now : SaveStage) (store : StoreValue D) (history : Option History) (faults : Faults) → IsStore history store → AreFilesInOrder store.files → AreInstances store.instances → SeesAround octets (around_saving octets now store) (seen_of pins store history faults)
sees_around pins octets now store history faults is order ids = record {
  parts = refl;
  candidate = λ instance e. candidate_seen now store instance ids e;
  some = λ file e. let r = room_known now store file order e in is.files.numbered file r.1.f r.1.found;
  known = λ file e. let r = room_known now store file order e in ap (λ (o : Option MailFile). is_some (option_and_then (λ f. f.end) o)) r.1.found ∙ ap (λ (o : Option ℕ). is_some o) r.1.has.ends;
  unsealed = λ file e. let r = room_known now store file order e in never_both (is_sealed store.map file) (λ k. fall r.1.f.sealed (is.files.sealed file r.1.f r.1.found ∙ k) r.1.has.free.unsealed);
  undoomed = λ file e. let r = room_known now store file order e in ap (λ (o : Option MailFile). option_map_or (λ f. f.doomed) o false) r.1.found ∙ r.1.has.free.free.undoomed;
  unbarred = λ file e. let r = room_known now store file order e in ap (λ (o : Option MailFile). nat_le file store.drawn.file && option_map_or (λ f. f.barred) o true) r.1.found ∙ (ap (λ (b : Bool). nat_le file store.drawn.file && b) r.1.has.free.unbarred ∙ none_both (nat_le file store.drawn.file));
}
  where
    none_both : (b : Bool) → (b && false) ≡ false
    none_both true = refl
    none_both false = refl

-- ---- files and GUIDs

-- an offset lies before the end of a file, or there is no file
abbrev pub is_before : ℕ → Option MailFile → Bool
is_before offset o = option_map_or (λ f. option_map_or (λ end. nat_lt offset end) f.end false) o true

-- of a file that ends
ended_before : (offset end : ℕ) (o : Option MailFile) → option_and_then (λ f. f.end) o ≡ Some end → is_before offset o ≡ nat_lt offset end
ended_before offset end None e = absurd (let w : None ≡ Some end = e in cc w)
ended_before offset end (Some f) e = ap (λ (x : Option ℕ). option_map_or (λ n. nat_lt offset n) x false) e

-- ---- which are barred, doomed, or may be used

-- All that the value tells of files but their ends stays: files that may be barred or used, and those that are doomed. What a file
-- that was drawn has before its end, it has still.
pub record TellsFiles {D : Type 0} (old new : StoreValue D) : Type 0 where
  pub barred : (n : ℕ) → may_be_barred old n ≡ true → may_be_barred new n ≡ true
  pub used : (n : ℕ) → may_be_used old n ≡ true → may_be_used new n ≡ true
  pub doomed : (n : ℕ) → is_doomed_in n new.files.files ≡ is_doomed_in n old.files.files
  pub gave : (n offset : ℕ) → n ≤ old.drawn.file → is_before offset (file_in n old.files.files) ≡ true → is_before offset (file_in n new.files.files) ≡ true

-- the file is barred, or not there; and it is doomed, or not there
abbrev bars : Option MailFile → Bool
bars o = option_map_or (λ f. f.barred) o true

abbrev uses : Option MailFile → Bool
uses o = option_map_or (λ f. f.doomed) o true

abbrev dooms : Option MailFile → Bool
dooms o = option_map_or (λ f. f.doomed) o false

both_so : (a b : Bool) → a ≡ true → b ≡ true → (a && b) ≡ true
both_so a b x y = rw (x, y) refl

drawn_on : (drawn later : ℕ) (before now : Bool) (n : ℕ) → drawn ≤ later → (n ≤ drawn → before ≡ true → now ≡ true) → (nat_le n drawn && before) ≡ true → (nat_le n later && now) ≡ true
drawn_on drawn later before now n more stays e =
    let k = both_true (nat_le n drawn) before e in
    let le : n ≤ drawn = true_le n drawn k.0 in
    both_so (nat_le n later) now (le_true n later (omega (arith, le, more))) (stays le k.1)

tells_by : {D : Type 0} → (old new : StoreValue D) → old.drawn.file ≤ new.drawn.file → ((n : ℕ) → n ≤ old.drawn.file → bars (file_in n old.files.files) ≡ true → bars (file_in n new.files.files) ≡ true)
    → ((n : ℕ) → n ≤ old.drawn.file → uses (file_in n old.files.files) ≡ true → uses (file_in n new.files.files) ≡ true) → ((n : ℕ) → dooms (file_in n new.files.files) ≡ dooms (file_in n old.files.files))
    → ((n offset : ℕ) → n ≤ old.drawn.file → is_before offset (file_in n old.files.files) ≡ true → is_before offset (file_in n new.files.files) ≡ true) → TellsFiles old new
tells_by old new more barred used doomed gave = record {
  barred = λ n e. drawn_on old.drawn.file new.drawn.file (bars (file_in n old.files.files)) (bars (file_in n new.files.files)) n more (barred n) e;
  used = λ n e. drawn_on old.drawn.file new.drawn.file (uses (file_in n old.files.files)) (uses (file_in n new.files.files)) n more (used n) e;
  doomed = doomed;
  gave = gave;
}

-- where files are as they were
pub tells_same : {D : Type 0} → (old new : StoreValue D) → old.drawn.file ≤ new.drawn.file → new.files.files ≡ old.files.files → TellsFiles old new
tells_same old new more same = tells_by old new more (λ n le e. ap (λ (fs : List MailFile). bars (file_in n fs)) same ∙ e) (λ n le e. ap (λ (fs : List MailFile). uses (file_in n fs)) same ∙ e) (λ n. ap (λ (fs : List MailFile). dooms (file_in n fs)) same) (λ n offset le e. ap (λ (fs : List MailFile). is_before offset (file_in n fs)) same ∙ e)

-- what lies before its end, lies there still
rises_in : (offset file n : ℕ) (step : MailFile → MailFile) (files : List MailFile) → KeepsNumber step → ((f : MailFile) → file_in file files ≡ Some f → is_before offset (Some f) ≡ true → is_before offset (Some (step f)) ≡ true) → is_before offset (file_in n files) ≡ true → is_before offset (file_in n (changed_in file step files)) ≡ true
rises_in offset file n step files keeps rises e = elim (cases_eq n file) [
  | inl same ↦
      ap (λ (k : ℕ). is_before offset (file_in k (changed_in file step files))) same
      ∙ (ap (is_before offset) (file-here file step files keeps) ∙ by_file (file_in file files) refl (sym (ap (λ (k : ℕ). is_before offset (file_in k files)) same) ∙ e))
  | inr apart ↦ ap (is_before offset) (file-other file n step files keeps apart) ∙ e
]
  where
    by_file : (o : Option MailFile) → file_in file files ≡ o → is_before offset o ≡ true → is_before offset (option_map step o) ≡ true
    by_file None at b = refl
    by_file (Some f) at b = rises f at b

pub tells_changed : {D : Type 0} → (old new : StoreValue D) (file : ℕ) (step : MailFile → MailFile) → old.drawn.file ≤ new.drawn.file → new.files.files ≡ changed_in file step old.files.files → KeepsNumber step → ((f : MailFile) → (step f).barred ≡ f.barred) → ((f : MailFile) → (step f).doomed ≡ f.doomed)
    → ((f : MailFile) (offset : ℕ) → file_in file old.files.files ≡ Some f → is_before offset (Some f) ≡ true → is_before offset (Some (step f)) ≡ true) → TellsFiles old new
tells_changed old new file step more is keeps barred doomed rises = tells_by old new more
    (λ n le e. ap (λ (fs : List MailFile). bars (file_in n fs)) is ∙ (value_changed bars file n step old.files.files keeps (λ f at. barred f) ∙ e))
    (λ n le e. ap (λ (fs : List MailFile). uses (file_in n fs)) is ∙ (value_changed uses file n step old.files.files keeps (λ f at. doomed f) ∙ e))
    (λ n. ap (λ (fs : List MailFile). dooms (file_in n fs)) is ∙ value_changed dooms file n step old.files.files keeps (λ f at. doomed f))
    (λ n offset le e. ap (λ (fs : List MailFile). is_before offset (file_in n fs)) is ∙ rises_in offset file n step old.files.files keeps (λ f at b. rises f offset at b) e)

pub tells_taken : {D : Type 0} → (old new : StoreValue D) (file : ℕ) → old.drawn.file ≤ new.drawn.file → new.files.files ≡ changed_in file (with_taken true) old.files.files → TellsFiles old new
tells_taken old new file more is = tells_changed old new file (with_taken true) more is (λ f. refl) (λ f. refl) (λ f. refl) (λ f offset at b. b)

-- of a file that ended before
end_is : (n end : ℕ) (files : List MailFile) (f : MailFile) → end_in n files ≡ Some end → file_in n files ≡ Some f → f.end ≡ Some end
end_is n end files f ends at = sym (ap (λ (o : Option MailFile). option_and_then (λ g. g.end) o) at) ∙ ends

pub tells_ended : {D : Type 0} → (old new : StoreValue D) (file from more_octets : ℕ) → old.drawn.file ≤ new.drawn.file → end_in file old.files.files ≡ Some from → new.files.files ≡ changed_in file (ending_at (from + more_octets)) old.files.files → TellsFiles old new
tells_ended old new file from more_octets more ends is = tells_changed old new file (ending_at (from + more_octets)) more is (λ f. refl) (λ f. refl) (λ f. refl)
    (λ f offset at b. let l : offset < from = lt_true offset from (sym (ended_before offset from (Some f) (end_is file from old.files.files f ends at)) ∙ b) in true_lt offset (from + more_octets) (omega (arith, l)))

pub tells_released : {D : Type 0} → (old new : StoreValue D) (file end : ℕ) → old.drawn.file ≤ new.drawn.file → end_in file old.files.files ≡ Some end → new.files.files ≡ released_in file old.files.files → TellsFiles old new
tells_released old new file end more ends is =
    tells_changed old new file given_back more (is ∙ ap (λ (o : Option ℕ). if is_some o then changed_in file given_back old.files.files else without_file file old.files.files) ends) (λ f. refl) (λ f. refl) (λ f. refl) (λ f offset at b. b)

-- where a new one was begun, or made
begun_alike : (value : Option MailFile → Bool) (file : FileNo) (m : ℕ) (files : List MailFile) → m ≢ file.0 → value (file_in m (files ++ file_begun file ∷ [])) ≡ value (file_in m files)
begun_alike value file m files apart = ap value (file-before_begun file m files apart)

dooms_begun : (file : FileNo) (m : ℕ) (files : List MailFile) → file_in file.0 files ≡ None → dooms (file_in m (files ++ file_begun file ∷ [])) ≡ dooms (file_in m files)
dooms_begun file m files none = elim (cases_eq m file.0) [
  | inl same ↦ subst (λ (k : ℕ). dooms (file_in k (files ++ file_begun file ∷ [])) ≡ dooms (file_in k files)) (sym same) (ap dooms (file-begun file files none) ∙ sym (ap dooms none))
  | inr apart ↦ begun_alike dooms file m files apart
]

pub tells_begun : {D : Type 0} → (old new : StoreValue D) (file : FileNo) → file_in file.0 old.files.files ≡ None → file.0 ≡ old.drawn.file + 1 → old.drawn.file ≤ new.drawn.file → new.files.files ≡ old.files.files ++ file_begun file ∷ [] → TellsFiles old new
tells_begun old new file none next more is = tells_by old new more
    (λ n le e. ap (λ (fs : List MailFile). bars (file_in n fs)) is ∙ (begun_alike bars file n old.files.files (λ same. omega (arith, same, next, le)) ∙ e))
    (λ n le e. ap (λ (fs : List MailFile). uses (file_in n fs)) is ∙ (begun_alike uses file n old.files.files (λ same. omega (arith, same, next, le)) ∙ e))
    (λ n. ap (λ (fs : List MailFile). dooms (file_in n fs)) is ∙ dooms_begun file n old.files.files none)
    (λ n offset le e. ap (λ (fs : List MailFile). is_before offset (file_in n fs)) is ∙ (begun_alike (is_before offset) file n old.files.files (λ same. omega (arith, same, next, le)) ∙ e))

pub tells_made : {D : Type 0} → (old new : StoreValue D) (file : FileNo) (end : ℕ) → file_in file.0 old.files.files ≡ None → file.0 ≡ old.drawn.file + 1 → old.drawn.file ≤ new.drawn.file → new.files.files ≡ changed_in file.0 (ending_at end) (old.files.files ++ file_begun file ∷ []) → TellsFiles old new
tells_made old new file end none next more is = tells_by old new more
    (λ n le e. made bars n (λ same. omega (arith, same, next, le)) ∙ e)
    (λ n le e. made uses n (λ same. omega (arith, same, next, le)) ∙ e)
    (λ n. ap (λ (fs : List MailFile). dooms (file_in n fs)) is ∙ (value_changed dooms file.0 n (ending_at end) (old.files.files ++ file_begun file ∷ []) (λ f. refl) (λ f at. refl) ∙ dooms_begun file n old.files.files none))
    (λ n offset le e. made (is_before offset) n (λ same. omega (arith, same, next, le)) ∙ e)
  where
    made : (value : Option MailFile → Bool) (n : ℕ) → n ≢ file.0 → value (file_in n new.files.files) ≡ value (file_in n old.files.files)
    made value n apart = ap (λ (fs : List MailFile). value (file_in n fs)) is ∙ (ap value (file-other file.0 n (ending_at end) (old.files.files ++ file_begun file ∷ []) (λ f. refl) apart) ∙ begun_alike value file n old.files.files apart)

-- The same files are there. All else that is told of files stays.
pub record EndsGoOn {D : Type 0} (old new : StoreValue D) : Type 0 where
  pub tells : TellsFiles old new
  pub known : (n : ℕ) → is_some (end_in n new.files.files) ≡ true → is_some (end_in n old.files.files) ≡ true
  pub there : (n : ℕ) → is_some (end_in n old.files.files) ≡ true → is_some (end_in n new.files.files) ≡ true

pub same_ends : {D : Type 0} → (old new : StoreValue D) → TellsFiles old new → AreEndsSame old new → EndsGoOn old new
same_ends old new tells same = record { tells = tells; known = λ n e. ap (λ (o : Option ℕ). is_some o) (sym (same n)) ∙ e; there = λ n e. ap (λ (o : Option ℕ). is_some o) (same n) ∙ e }

all_true : (a b c : Bool) → a ≡ true → b ≡ true → c ≡ true → (a && (b && c)) ≡ true
all_true a b c x y z = rw (x, y, z) refl

-- ---- which GUIDs were given

pub gave_on : {D : Type 0} → (old new : StoreValue D) (guid : List ℕ) → new.map.store ≡ old.map.store → old.drawn.file ≤ new.drawn.file
    → ((n offset : ℕ) → n ≤ old.drawn.file → is_before offset (file_in n old.files.files) ≡ true → is_before offset (file_in n new.files.files) ≡ true) → may_have_given old guid ≡ true → may_have_given new guid ≡ true
gave_on old new guid id more ends e =
    let a = both_true (is_own old.map.store guid) (nat_le (number_at 8 guid) old.drawn.file && is_before (number_at 12 guid) (file_in (number_at 8 guid) old.files.files)) e in
    let b = both_true (nat_le (number_at 8 guid) old.drawn.file) (is_before (number_at 12 guid) (file_in (number_at 8 guid) old.files.files)) a.1 in
    let le : number_at 8 guid ≤ old.drawn.file = true_le (number_at 8 guid) old.drawn.file b.0 in
    all_true (is_own new.map.store guid) (nat_le (number_at 8 guid) new.drawn.file) (is_before (number_at 12 guid) (file_in (number_at 8 guid) new.files.files)) (ap (λ (s : List ℕ). is_own s guid) id ∙ a.0) (le_true (number_at 8 guid) new.drawn.file (omega (arith, le, more))) (ends (number_at 8 guid) (number_at 12 guid) le b.1)

pub tells_store : {D : Type 0} → (pins : ℕ → ℕ) (old new : StoreValue D) (before after : Option History) (began faulted : Faults) → old.stopped ≡ false → new.map.store ≡ old.map.store → old.drawn.file ≤ new.drawn.file → EndsGoOn old new → KnowsAlike old new → KeepsTelling (seen_of pins old before began) (seen_of pins new after faulted)
tells_store pins old new before after began faulted ran id more ends knows = record {
  ran = λ runs. ran;
  pins = λ file. refl;
  doomed = λ file. ends.tells.doomed file;
  used = λ file e. ends.tells.used file e;
  barred = λ file e. ends.tells.barred file e;
  gave = λ guid e. gave_on old new guid id more ends.tells.gave e;
  gone = λ instance e. gone_on old new instance id knows.drawn e;
  files = λ file e. ends.known file e;
  there = λ file e. ends.there file e;
  instances = λ instance. knows.known instance;
}

-- ---- a store that goes on, or not

pub shows_on : {D : Type 0} → (pins : ℕ → ℕ) (old new : StoreValue D) (before after : Option History) (began faulted : Faults) (lists : Lists) → new.map.boxes ≡ old.map.boxes → indexes_of new.boxes ≡ indexes_of old.boxes → ShowsSeen (seen_of pins old before began) lists → ShowsSeen (seen_of pins new after faulted) lists
shows_on pins old new before after began faulted lists boxes indexes shows =
    (shows.0, subst (λ (bs : List MapBox). ShowLists bs (indexes_of new.boxes) lists) (sym boxes) (subst (λ (ms : List BoxMeaning). ShowLists old.map.boxes ms lists) (sym indexes) shows.1))

pub has_run_in : {D : Type 0} → (pins : ℕ → ℕ) (old new : StoreValue D) (before after : Option History) (began faulted : Faults) → old.stopped ≡ false → new.stopped ≡ false → new.map.boxes ≡ old.map.boxes → indexes_of new.boxes ≡ indexes_of old.boxes → ((lists : Lists) → IsSettledIn lists (seen_of pins old before began) → Leaves lists lists before after)
    → ((lists : Lists) → IsSettledIn lists (seen_of pins old before began) → IsSettledFor lists after) → Lasts old.map before after → faulted ≡ began → HasRun (seen_of pins old before began) (seen_of pins new after faulted)
has_run_in pins old new before after began faulted ran runs boxes indexes moments rests grows same = record {
  ran = ran;
  runs = runs;
  shown = λ lists shows. shows_on pins old new before after began faulted lists boxes indexes shows;
  leads = λ lists. record { stops = λ s. moments lists s; settled = λ s. rests lists s };
  grows = grows;
  quiet = same;
}

-- where it is enough that the disk is settled
pub has_run : {D : Type 0} → (pins : ℕ → ℕ) (old new : StoreValue D) (before after : Option History) (began faulted : Faults) → old.stopped ≡ false → new.stopped ≡ false → new.map.boxes ≡ old.map.boxes → indexes_of new.boxes ≡ indexes_of old.boxes → ((lists : Lists) → IsSettledFor lists before → Leaves lists lists before after)
    → ((lists : Lists) → IsSettledFor lists before → IsSettledFor lists after) → Lasts old.map before after → faulted ≡ began → HasRun (seen_of pins old before began) (seen_of pins new after faulted)
has_run pins old new before after began faulted ran runs boxes indexes moments rests grows same = has_run_in pins old new before after began faulted ran runs boxes indexes (λ lists s. moments lists s.0) (λ lists s. rests lists s.0) grows same

pub due_stays : {D : Type 0} → (old new : StoreValue D) (uid : ℕ) → new.map ≡ old.map → new.dues ≡ old.dues → due_at uid new ≡ due_at uid old
due_stays old new uid map dues = ap (λ (m : MapMeaning). number_beside uid m.records new.dues) map ∙ ap (number_beside uid old.map.records) dues

pub stays_so : {D : Type 0} → (pins : ℕ → ℕ) (drew : Highest) (old new : StoreValue D) (before after : Option History) (began faulted : Faults) → old.stopped ≡ false → new.map ≡ old.map → new.drawn ≡ drawn_also old.drawn drew → new.dues ≡ old.dues → indexes_of new.boxes ≡ indexes_of old.boxes → old.drawn.file ≤ new.drawn.file → EndsGoOn old new → KnowsAlike old new → Lasts old.map before after
    → began.reads ≤ faulted.reads → began.changes ≤ faulted.changes → StaysSo drew (seen_of pins old before began) (seen_of pins new after faulted)
stays_so pins drew old new before after began faulted ran map drawn dues indexes more ends knows grows reads changes = record {
  map = map;
  drawn = drawn;
  due = λ uid. due_stays old new uid map dues;
  tells = tells_store pins old new before after began faulted ran (ap (λ (m : MapMeaning). m.store) map) more ends knows;
  shown = λ lists shows. shows_on pins old new before after began faulted lists (ap (λ (m : MapMeaning). m.boxes) map) indexes shows;
  grows = grows;
  reads = reads;
  changes = changes;
}

-- ---- numbers

abbrev numbers : ℕ → ℕ → ℕ → ℕ → Highest
numbers file map instance mailbox = record { file = file; map = map; instance = instance; mailbox = mailbox }

pub drawn_file : (d : Highest) (n : ℕ) → n ≡ d.file + 1 → record d { file = n } ≡ drawn_also d (record no_numbers { file = 1 })
drawn_file d n e =
    ap (λ (k : ℕ). numbers k d.map d.instance d.mailbox) e
    ∙ (ap (λ (k : ℕ). numbers (d.file + 1) k d.instance d.mailbox) (omega arith) ∙ (ap (λ (k : ℕ). numbers (d.file + 1) (d.map + 0) k d.mailbox) (omega arith) ∙ ap (λ (k : ℕ). numbers (d.file + 1) (d.map + 0) (d.instance + 0) k) (omega arith)))

pub drawn_map : (d : Highest) (n : ℕ) → n ≡ d.map + 1 → record d { map = n } ≡ drawn_also d (record no_numbers { map = 1 })
drawn_map d n e =
    ap (λ (k : ℕ). numbers d.file k d.instance d.mailbox) e
    ∙ (ap (λ (k : ℕ). numbers k (d.map + 1) d.instance d.mailbox) (omega arith) ∙ (ap (λ (k : ℕ). numbers (d.file + 0) (d.map + 1) k d.mailbox) (omega arith) ∙ ap (λ (k : ℕ). numbers (d.file + 0) (d.map + 1) (d.instance + 0) k) (omega arith)))

pub drawn_instance : (d : Highest) → record d { instance = d.instance + 1 } ≡ drawn_also d (record no_numbers { instance = 1 })
drawn_instance d = ap (λ (k : ℕ). numbers k d.map (d.instance + 1) d.mailbox) (omega arith) ∙ (ap (λ (k : ℕ). numbers (d.file + 0) k (d.instance + 1) d.mailbox) (omega arith) ∙ ap (λ (k : ℕ). numbers (d.file + 0) (d.map + 0) (d.instance + 1) k) (omega arith))

-- ---- what is due

less_one : (b : Bool) (old new : ℕ) → new ≡ old - bit (b || false) → cond b 1 0 ≤ old → new + cond b 1 0 ≡ old
less_one true old new e l = let f : new ≡ old - 1 = e in let m : 1 ≤ old = l in omega (arith, f, m)
less_one false old new e l = let f : new ≡ old - 0 = e in omega (arith, f)

own_due : {D : Type 0} → (held other : ℕ) (store : StoreValue D) → 1 ≤ due_at held store → one_due held other ≤ due_at other store
own_due held other store some = elim (cases_eq held other) [
  | inl same ↦ subst (λ (k : ℕ). one_due held k ≤ due_at k store) same (subst (λ (n : ℕ). n ≤ due_at held store) (sym (ap (λ (b : Bool). cond b 1 0) (eq-eqb held held refl))) some)
  | inr apart ↦ subst (λ (n : ℕ). n ≤ due_at other store) (sym (ap (λ (b : Bool). cond b 1 0) (ne_eqb held other apart))) (omega arith)
]

pub less_due : {D : Type 0} → (held : MapUid) (old new : StoreValue D) (other : ℕ) → 1 ≤ due_at held.0 old → due_at other new ≡ due_at other old - bit ((held.0 == other) || false) → due_at other new + one_due held.0 other ≡ due_at other old
less_due held old new other some due = less_one (held.0 == other) (due_at other old) (due_at other new) due (own_due held.0 other old some)

-- ---- the GUID of a place

below_256 : (n : ℕ) → n % 256 < 256
below_256 n = omega arith

four_octets : (n : ℕ) → IsOctets (to_be_bytes w32 n)
four_octets n =
    All-cons (λ (o : ℕ). o < 256) (n / 16777216 % 256) (n / 65536 % 256 ∷ n / 256 % 256 ∷ n % 256 ∷ []) (below_256 (n / 16777216)) (All-cons (λ (o : ℕ). o < 256) (n / 65536 % 256) (n / 256 % 256 ∷ n % 256 ∷ []) (below_256 (n / 65536))
    (All-cons (λ (o : ℕ). o < 256) (n / 256 % 256) (n % 256 ∷ []) (below_256 (n / 256)) (All-cons (λ (o : ℕ). o < 256) (n % 256) [] (below_256 n) (All-nil (λ (o : ℕ). o < 256)))))

pub place_long : (store : List ℕ) (file offset : ℕ) → length store ≡ 8 → length (guid_of_place store file offset) ≡ 16
place_long store file offset long = length-append store (to_be_bytes w32 file ++ to_be_bytes w32 offset) ∙ ap (λ (n : ℕ). n + 8) long

pub place_octets : (store : List ℕ) (file offset : ℕ) → IsOctets store → IsOctets (guid_of_place store file offset)
place_octets store file offset each =
    All-append (λ (o : ℕ). o < 256) store (to_be_bytes w32 file ++ to_be_bytes w32 offset) each (All-append (λ (o : ℕ). o < 256) (to_be_bytes w32 file) (to_be_bytes w32 offset) (four_octets file) (four_octets offset))

pub place_file : (store : List ℕ) (file offset : ℕ) → length store ≡ 8 → file ≤ 4294967294 → guid_file store (guid_of_place store file offset) ≡ file
place_file store file offset long small =
    let own = own_place store file offset long in
    let named = file_of_place store file offset long (omega (arith, small)) in
    ap (λ (b : Bool). if b && not (number_at 8 (guid_of_place store file offset) == 4294967295) then number_at 8 (guid_of_place store file offset) else 0) own
    ∙ (ap (λ (n : ℕ). if true && not (n == 4294967295) then n else 0) named ∙ ap (λ (b : Bool). if true && not b then file else 0) (ne_eqb file 4294967295 (λ e. omega (arith, e, small))))

and_false : (a b : Bool) → (a && (b && false)) ≡ false
and_false true true = refl
and_false true false = refl
and_false false b = refl

not_past : (n : ℕ) → nat_lt n n ≡ false
not_past n = grind (arith, common_steps)

past : (a b : ℕ) → a < b → nat_lt a b ≡ true
past a b l = grind (arith, common_steps, l)

-- it wasn't given, as its place is the end of the file
pub place_new : {D : Type 0} → (store : StoreValue D) (file offset : ℕ) → length store.map.store ≡ 8 → file < 2 ^ 32 → offset < 2 ^ 32 → end_in file store.files.files ≡ Some offset → may_have_given store (guid_of_place store.map.store file offset) ≡ false
place_new store file offset long f o end =
    let guid : List ℕ = guid_of_place store.map.store file offset in
    let at : is_before (number_at 12 guid) (file_in (number_at 8 guid) store.files.files) ≡ false =
    ap (λ (n : ℕ). is_before (number_at 12 guid) (file_in n store.files.files)) (file_of_place store.map.store file offset long f)
    ∙ (ended_before (number_at 12 guid) offset (file_in file store.files.files) end ∙ (ap (λ (n : ℕ). nat_lt n offset) (offset_of_place store.map.store file offset long o) ∙ not_past offset)) in
    ap (λ (b : Bool). is_own store.map.store guid && (nat_le (number_at 8 guid) store.drawn.file && b)) at ∙ and_false (is_own store.map.store guid) (nat_le (number_at 8 guid) store.drawn.file)

-- it was, once the file ends behind it
pub place_given : {D : Type 0} → (store : StoreValue D) (id : List ℕ) (file offset end : ℕ) → store.map.store ≡ id → length id ≡ 8 → file < 2 ^ 32 → offset < 2 ^ 32 → file ≤ store.drawn.file → end_in file store.files.files ≡ Some end → offset < end → may_have_given store (guid_of_place id file offset) ≡ true
place_given store id file offset end same long f o drawn ends before =
    let guid : List ℕ = guid_of_place id file offset in
    let named = file_of_place id file offset long f in
    all_true (is_own store.map.store guid) (nat_le (number_at 8 guid) store.drawn.file) (is_before (number_at 12 guid) (file_in (number_at 8 guid) store.files.files)) (ap (λ (s : List ℕ). is_own s guid) same ∙ own_place id file offset long)
    (le_true (number_at 8 guid) store.drawn.file (omega (arith, named, drawn)))
    (ap (λ (n : ℕ). is_before (number_at 12 guid) (file_in n store.files.files)) named
    ∙ (ended_before (number_at 12 guid) end (file_in file store.files.files) ends ∙ (ap (λ (n : ℕ). nat_lt n end) (offset_of_place id file offset long o) ∙ past offset end before)))

-- a file that ends has a number that was drawn
pub file_below : (n most end : ℕ) (files : List MailFile) → All (λ f. f.file.0 ≤ most) files → end_in n files ≡ Some end → n ≤ most
file_below n most end [] h e = absurd (let w : None ≡ Some end = e in cc w)
file_below n most end (x ∷ xs) h e = elim (cases_eq x.file.0 n) [
  | inl same ↦ let low = All-head (λ (f : MailFile). f.file.0 ≤ most) x xs h in omega (arith, low, same)
  | inr apart ↦
      file_below n most end xs (All-tail (λ (f : MailFile). f.file.0 ≤ most) x xs h)
      (sym (ap (option_and_then (λ f. f.end)) (cond-false (x.file.0 == n) (Some x) (file_in n xs) (ne_eqb x.file.0 n apart))) ∙ e)
]
