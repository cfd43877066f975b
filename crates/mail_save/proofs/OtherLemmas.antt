-- What an event of a delivery keeps for other deliveries.
use Rattle.mail_save.proofs.Common.{◌≡◌, ◌≢◌, ◌-◌, ℕ, Bool, true, false, List, [], ◌∷◌, All, inl, inr, refl, sym, ◌∙◌, ap, subst, arith, option_and_then, option_map_or, if◌then◌else◌, All-nil, All-cons, All-append, All-weaker, InstRow, MapEntry, FileNo, MapUid, Refusal, IsFree, MapRecord}
use Rattle.mail_save.proofs.Common.{MapMeaning, map_applied, number_at, file-before_begun, file-other, FilesValue, end_in, ending_at, file_in, is_taken_in, place_begun_in, MailFile, StoreValue, HoldsRegion, entry_stored, entry_lowered, IsLeftAlone, LowersRecord, PlacesParts, StoresNone}
use Rattle.mail_save.proofs.Common.{StoresPlaced, TakesFileFor, TakesNone, saved_row, Added, SavedParts, SavedAt, SaveStage}
use Rattle.std.specs.Prelude.{◌+◌, Option}
use Rattle.std.proofs.lemmas.Bool.{false≢true}
use Rattle.model_meaning.proofs.KeptRowLemmas.{kept_all, kept_rows}
use Rattle.model_meaning.specs.MapFits.{IsApart}
use Rattle.model_meaning.specs.MapMeaning.{record_changed, record_made, record_rules, has_map_uid}
use Rattle.mail_save.proofs.SaveFileLemmas.{released_other, taken_other}
use Rattle.mail_save.specs.Others.{IsOwnFile, KeepsOthers}
use Rattle.mail_save.specs.declared.task.SaveStage.TheVariants as stage

-- ---- records of the map

-- a record is where it was, with its GUID
record IsPlacedAs (a b : MapRecord) : Type 0 where
  file : b.file ≡ a.file
  offset : b.offset ≡ a.offset
  size : b.size ≡ a.size
  guid : b.guid ≡ a.guid

counted_as : (hit : Bool) (n : ℕ) (row : MapRecord) → IsPlacedAs row (if hit then record row { count = n } else row)
counted_as true n row = record { file = refl; offset = refl; size = refl; guid = refl }
counted_as false n row = record { file = refl; offset = refl; size = refl; guid = refl }

apart_as : (file offset size : ℕ) (a b : MapRecord) → IsPlacedAs a b → (a.file ≡ file → IsApart offset size a) → b.file ≡ file → IsApart offset size b
apart_as file offset size a b same apart is = elim (apart (sym same.file ∙ is)) [
  | inl before ↦ let o = same.offset in inl (omega (arith, before, o))
  | inr behind ↦ let o = same.offset in let s = same.size in inr (omega (arith, behind, o, s))
]

free_by : (m : MapMeaning) (e : MapEntry) (file offset size : ℕ) → ((row : MapRecord) → IsPlacedAs row (record_changed e row)) → All (λ row. row.file ≡ file → ⊥) (record_made e) → IsFree m file offset size → IsFree (map_applied e m) file offset size
free_by m e file offset size same made free =
    All-append (λ (row : MapRecord). row.file ≡ file → IsApart offset size row) (kept_rows record_rules e m.records) (record_made e)
    (kept_all record_rules e m.records (λ (row : MapRecord). row.file ≡ file → IsApart offset size row) (λ (row : MapRecord). row.file ≡ file → IsApart offset size row) (λ row apart. apart_as file offset size row (record_changed e row) (same row) apart) free)
    (All-weaker (λ (row : MapRecord). row.file ≡ file → ⊥) (λ (row : MapRecord). row.file ≡ file → IsApart offset size row) (λ row other is. absurd (other is)) (record_made e) made)

new_by : (m : MapMeaning) (e : MapEntry) (guid : List ℕ) → ((row : MapRecord) → IsPlacedAs row (record_changed e row)) → All (λ row. row.guid ≢ guid) (record_made e) → All (λ row. row.guid ≢ guid) m.records → All (λ row. row.guid ≢ guid) (map_applied e m).records
new_by m e guid same made new =
    All-append (λ (row : MapRecord). row.guid ≢ guid) (kept_rows record_rules e m.records) (record_made e)
    (kept_all record_rules e m.records (λ (row : MapRecord). row.guid ≢ guid) (λ (row : MapRecord). row.guid ≢ guid) (λ row other is. other (sym (same row).guid ∙ is)) new) made

-- ---- by what is the same

-- a storage file that is taken stays as it is
abbrev IsFileKept : {D : Type 0} → ℕ → StoreValue D → StoreValue D → Type 0
IsFileKept number old new = file_in number new.files.files ≡ file_in number old.files.files

taken_kept : (number : ℕ) (old new : List MailFile) → file_in number new ≡ file_in number old → is_taken_in number new ≡ is_taken_in number old
taken_kept number old new same = ap (λ (o : Option MailFile). option_map_or (λ f. f.taken) o false) same

ends_kept : (number : ℕ) (old new : List MailFile) → file_in number new ≡ file_in number old → end_in number new ≡ end_in number old
ends_kept number old new same = ap (λ (o : Option MailFile). option_and_then (λ f. f.end) o) same

begun_kept : (number : ℕ) (old new : List MailFile) → file_in number new ≡ file_in number old → place_begun_in number new ≡ place_begun_in number old
begun_kept number old new same = ap (λ (o : Option MailFile). option_and_then (λ f. f.begun) o) same

-- a region in such a file overlaps none still, and its GUID is new
abbrev IsRegionKept : {D : Type 0} → SavedAt → StoreValue D → Type 0
IsRegionKept at new = IsFree new.map at.file.0 at.offset at.size × All (λ row. row.guid ≢ at.guid.0) new.map.records

keeps_by : {D : Type 0} → (now : SaveStage) (old new : StoreValue D) → ((number : ℕ) → is_taken_in number old.files.files ≡ true → (IsOwnFile now number → ⊥) → IsFileKept number old new) → ((at : SavedAt) → HoldsRegion at old → (IsOwnFile now at.file.0 → ⊥) → IsRegionKept at new) → KeepsOthers now old new
keeps_by now old new files regions = record {
  files = λ number size other h.
      let k = files number h.taken other in
      record { some = h.some; taken = taken_kept number old.files.files new.files.files k ∙ h.taken; unbegun = begun_kept number old.files.files new.files.files k ∙ h.unbegun; end = h.end; ends = ends_kept number old.files.files new.files.files k ∙ h.ends; fits = h.fits };
  regions = λ at other h.
      let k = files at.file.0 h.taken other in
      let r = regions at h other in
      record {
        some = h.some;
        taken = taken_kept at.file.0 old.files.files new.files.files k ∙ h.taken;
        unbegun = begun_kept at.file.0 old.files.files new.files.files k ∙ h.unbegun;
        end = h.end;
        ends = ends_kept at.file.0 old.files.files new.files.files k ∙ h.ends;
        inside = h.inside;
        small = h.small;
        free = r.0;
        guid_file = h.guid_file;
        guid_offset = h.guid_offset;
        guid_new = r.1;
      };
}

-- where the map stays
same_map : {D : Type 0} → (at : SavedAt) (old new : StoreValue D) → new.map ≡ old.map → HoldsRegion at old → IsRegionKept at new
same_map at old new map h = subst (λ (m : MapMeaning). IsFree m at.file.0 at.offset at.size × All (λ row. row.guid ≢ at.guid.0) m.records) (sym map) (h.free, h.guid_new)

pub keeps_same : {D : Type 0} → (now : SaveStage) (old new : StoreValue D) → new.map ≡ old.map → new.files.files ≡ old.files.files → KeepsOthers now old new
keeps_same now old new map files = keeps_by now old new (λ number taken other. ap (file_in number) files) (λ at h other. same_map at old new map h)

pub alone_keeps : {D : Type 0} → (now : SaveStage) (old new : StoreValue D) → IsLeftAlone old new → KeepsOthers now old new
alone_keeps now old new k = keeps_same now old new (ap (λ v. v.map) k.same) (ap (λ v. v.files.files) k.same)

-- ---- by event

apart_of : {D : Type 0} → (old : StoreValue D) (file : FileNo) (number : ℕ) → is_taken_in file.0 old.files.files ≡ false → is_taken_in number old.files.files ≡ true → number ≢ file.0
apart_of old file number free taken is = false≢true (sym free ∙ (sym (ap (λ (n : ℕ). is_taken_in n old.files.files) is) ∙ taken))

pub taking_keeps : {D : Type 0} → (parts : SavedParts) (header size : ℕ) (file : FileNo) (old new : StoreValue D) → TakesFileFor header size file old new → KeepsOthers (stage.Taking parts) old new
taking_keeps parts header size file old new t =
    keeps_by (stage.Taking parts) old new
    (λ number taken other. ap (λ (fs : FilesValue). file_in number fs.files) t.files ∙ taken_other t.take header file old new number (apart_of old file number t.free taken) t.took)
    (λ at h other. same_map at old new (ap (λ v. v.map) t.same) h)

pub untaken_keeps : {D : Type 0} → (parts : SavedParts) (size : ℕ) (why : Refusal) (old new : StoreValue D) → TakesNone size why old new → KeepsOthers (stage.Taking parts) old new
untaken_keeps parts size why old new (inl k) = keeps_same (stage.Taking parts) old new (ap (λ v. v.map) k.1) (ap (λ v. v.files.files) k.1)
untaken_keeps parts size why old new (inr (inl k)) = keeps_same (stage.Taking parts) old new (ap (λ v. v.map) k.1.same) (ap (λ v. v.files.files) k.1.same)
untaken_keeps parts size why old new (inr (inr k)) =
    keeps_by (stage.Taking parts) old new
    (λ number taken other. ap (λ (v : StoreValue _). file_in number v.files.files) k.1.same ∙ file-before_begun k.1.file number old.files.files (apart_of old k.1.file number k.1.free taken))
    (λ at h other. same_map at old new (ap (λ v. v.map) k.1.same) h)

pub placing_keeps : {D : Type 0} → (parts : SavedParts) (file : FileNo) (at : SavedAt) (rows : List InstRow) (old new : StoreValue D) → PlacesParts parts file at rows old new → KeepsOthers (stage.Placing parts file) old new
placing_keeps parts file at rows old new p =
    keeps_by (stage.Placing parts file) old new
    (λ number taken other. ap (λ (v : StoreValue _). file_in number v.files.files) p.same ∙ file-other file.0 number (ending_at (at.offset + at.size)) old.files.files (λ f. refl) other) (λ place h other. same_map place old new (ap (λ v. v.map) p.same) h)

-- another message has another GUID, since it has another file
other_message : {D : Type 0} → (at place : SavedAt) (store : StoreValue D) → HoldsRegion at store → HoldsRegion place store → (place.file.0 ≡ at.file.0 → ⊥) → at.guid.0 ≢ place.guid.0
other_message at place store h other apart is = apart (sym other.guid_file ∙ (sym (ap (number_at 8) is) ∙ h.guid_file))

pub storing_keeps : {D : Type 0} → (at : SavedAt) (rows : List InstRow) (time size : ℕ) (room : Unit {0}) (added : Added) (old new : StoreValue D) → HoldsRegion at old → StoresPlaced at rows time size added old new → KeepsOthers (stage.Storing at rows room) old new
storing_keeps at rows time size room added old new mine s =
    keeps_by (stage.Storing at rows room) old new (λ number taken other. ap (λ (v : StoreValue _). file_in number v.files.files) s.same ∙ released_other at.file.0 number mine.end old.files.files mine.ends other) (λ place h other.
    subst (λ (m : MapMeaning). IsFree m place.file.0 place.offset place.size × All (λ row. row.guid ≢ place.guid.0) m.records) (sym s.map) (
      free_by old.map (entry_stored rows added.map_uid at) place.file.0 place.offset place.size (λ row. counted_as false 0 row)
          (All-cons (λ (row : MapRecord). row.file ≡ place.file.0 → ⊥) (saved_row rows added.map_uid at) [] (λ is. other (sym is)) (All-nil (λ (row : MapRecord). row.file ≡ place.file.0 → ⊥))) h.free,
      new_by old.map (entry_stored rows added.map_uid at) place.guid.0 (λ row. counted_as false 0 row)
          (All-cons (λ (row : MapRecord). row.guid ≢ place.guid.0) (saved_row rows added.map_uid at) [] (other_message at place old mine h other) (All-nil (λ (row : MapRecord). row.guid ≢ place.guid.0))) h.guid_new,
    ))

pub unstored_keeps : {D : Type 0} → (at : SavedAt) (rows : List InstRow) (room : Unit {0}) (why : Refusal) (old new : StoreValue D) → HoldsRegion at old → StoresNone at why old new → KeepsOthers (stage.Storing at rows room) old new
unstored_keeps at rows room why old new mine (inl k) = alone_keeps (stage.Storing at rows room) old new k.1
unstored_keeps at rows room why old new mine (inr k) =
    keeps_by (stage.Storing at rows room) old new (λ number taken other. ap (λ (v : StoreValue _). file_in number v.files.files) k.1.same ∙ released_other at.file.0 number mine.end old.files.files mine.ends other) (λ place h other. same_map place old new (ap (λ v. v.map) k.1.same) h)

pub lowering_keeps : {D : Type 0} → (uid : MapUid) (why : Refusal) (room : Unit {0}) (old new : StoreValue D) → LowersRecord uid old new → KeepsOthers (stage.GivingBack uid why room) old new
lowering_keeps uid why room old new l =
    keeps_by (stage.GivingBack uid why room) old new (λ number taken other. ap (λ (v : StoreValue _). file_in number v.files.files) l.same) (λ place h other.
    subst (λ (m : MapMeaning). IsFree m place.file.0 place.offset place.size × All (λ row. row.guid ≢ place.guid.0) m.records) (sym l.map) (
      free_by old.map (entry_lowered uid) place.file.0 place.offset place.size (λ row. counted_as (has_map_uid row.uid (uid ∷ [])) (row.count - 1) row) (All-nil (λ (row : MapRecord). row.file ≡ place.file.0 → ⊥)) h.free,
      new_by old.map (entry_lowered uid) place.guid.0 (λ row. counted_as (has_map_uid row.uid (uid ∷ [])) (row.count - 1) row) (All-nil (λ (row : MapRecord). row.guid ≢ place.guid.0)) h.guid_new,
    ))
