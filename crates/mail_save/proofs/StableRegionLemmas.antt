-- The file that a delivery has taken, the region that it has placed, and the record that it has stored stay so beside every event of
-- every other task.
use Rattle.mail_save.proofs.Common.{◌≡◌, ◌≢◌, ◌≤◌, ◌+◌, ◌==◌, ℕ, Bool, true, false, cond, List, [], ◌∷◌, map, All, Option, Some, None, refl, sym, ◌∙◌, ap, subst, arith, inl, inr, filter, option_and_then, option_map, eq-eqb, All-cons, All-head, All-nil, All-tail, Prepared, DiskState, History}
use Rattle.mail_save.proofs.Common.{reading, Mail, between-both, between-on, InstRow, IsFree, MapMeaning, MapRecord, files_of, StoresMessage, HasWritten, ids_in, end_in, file_in, place_begun_in, MailFile, due_at, IsKnownRow, StoreValue, references_to, Claims, Due, Taken, IsSameOrSynced, Beside}
use Rattle.mail_save.proofs.Common.{entry_added, HoldsFile, HoldsRegion, IsLeftSoOrGone, IsPlacedReady, saved_row, Added, SavedAt}
use Rattle.std.specs.Prelude.{◌⊎◌}
use Rattle.disk_model.specs.Disk.{FileState, Files, MayLeave}
use Rattle.disk_model.proofs.OneFileLemmas.{named-narrows}
use Rattle.model_appends.specs.Appending.{message_made}
use Rattle.model_meaning.specs.BoxMeaning.{row_made}
use Rattle.model_meaning.specs.MapFits.{IsApart}
use Rattle.model_store.specs.Stands.{AreListed, HasInstances}
use Rattle.saved_message.specs.Laid.{AreSixteen}
use Rattle.saved_message.specs.Region.{written_region}
use Rattle.saved_message.specs.Saved.{AreInstancesOf}
use Rattle.storage_files.specs.Files.{with_pins}
use Rattle.task_claims.proofs.LeftLemmas.{record_left, taken_left}
use Rattle.task_claims.proofs.StoredLemmas.{KeepsRow, instances_on, row_kept, stores_on}
use Rattle.task_claims.specs.Leaving.{but_count, known_but_pins, records_within}
use Rattle.mail_save.specs.Ready.{IsRecordReady}
use Rattle.mail_save.proofs.MailFileLemmas.{synced_reads}
use Rattle.mail_save.proofs.StableFoundLemmas.{AreRead, HoldsThese, all_claimed, rows_read}

-- ---- the storage file

ends_so : (o : Option MailFile) → option_and_then (λ f. f.end) (option_map (with_pins 0) o) ≡ option_and_then (λ f. f.end) o
ends_so None = refl
ends_so (Some f) = refl

begun_so : (o : Option MailFile) → option_and_then (λ f. f.begun) (option_map (with_pins 0) o) ≡ option_and_then (λ f. f.begun) o
begun_so None = refl
begun_so (Some f) = refl

same_end : {D : Type 0} → (number : ℕ) (old new : StoreValue D) → known_but_pins number new ≡ known_but_pins number old → end_in number new.files.files ≡ end_in number old.files.files
same_end number old new same = sym (ends_so (file_in number new.files.files)) ∙ (ap (λ (o : Option MailFile). option_and_then (λ f. f.end) o) same ∙ ends_so (file_in number old.files.files))

same_begun : {D : Type 0} → (number : ℕ) (old new : StoreValue D) → known_but_pins number new ≡ known_but_pins number old → place_begun_in number new.files.files ≡ place_begun_in number old.files.files
same_begun number old new same = sym (begun_so (file_in number new.files.files)) ∙ (ap (λ (o : Option MailFile). option_and_then (λ f. f.begun) o) same ∙ begun_so (file_in number old.files.files))

pub file_left : {D : Type 0} → (theirs : Claims) (number size : ℕ) (old new : StoreValue D) (before after : Option History) → Beside theirs old new before after → 1 ≤ theirs (Taken number) → HoldsFile number size old → HoldsFile number size new
file_left theirs number size old new before after b some h =
    let f = taken_left theirs old new before after number b some in
    record { some = h.some; taken = f.1; unbegun = same_begun number old new f.0.known ∙ h.unbegun; end = h.end; ends = same_end number old new f.0.known ∙ h.ends; fits = h.fits }

-- a region is free where the records that lie in the file are the same
all_listed : (P : MapRecord → Type 0) (number : ℕ) (rows : List MapRecord) → ((row : MapRecord) → P row → P (but_count row)) → All P rows → All P (filter (λ row. row.file == number) (map but_count rows))
all_listed P number [] on all = All-nil P
all_listed P number (r ∷ rs) on all = by_test (r.file == number) (all_listed P number rs on (All-tail P r rs all))
  where
    by_test : (t : Bool) → All P (filter (λ row. row.file == number) (map but_count rs)) → All P (cond t (but_count r ∷ filter (λ row. row.file == number) (map but_count rs)) (filter (λ row. row.file == number) (map but_count rs)))
    by_test true rest = All-cons P (but_count r) _ (on r (All-head P r rs all)) rest
    by_test false rest = rest

all_back : (P : MapRecord → Type 0) (number : ℕ) (rows : List MapRecord) → ((row : MapRecord) → P (but_count row) → P row) → ((row : MapRecord) → row.file ≢ number → P row) → All P (filter (λ row. row.file == number) (map but_count rows)) → All P rows
all_back P number [] back other all = All-nil P
all_back P number (r ∷ rs) back other all = by_test (r.file == number) refl all (λ h. all_back P number rs back other h)
  where
    differ : r.file ≡ number → (r.file == number) ≡ false → ⊥
    differ k f = let t : (r.file == number) ≡ true = eq-eqb r.file number k in let z : true ≡ false = sym t ∙ f in cc z

    by_test : (t : Bool) → (r.file == number) ≡ t → All P (cond t (but_count r ∷ filter (λ row. row.file == number) (map but_count rs)) (filter (λ row. row.file == number) (map but_count rs)))
        → (All P (filter (λ row. row.file == number) (map but_count rs)) → All P rs) → All P (r ∷ rs)
    by_test true e h rest = All-cons P r rs (back r (All-head P (but_count r) _ h)) (rest (All-tail P (but_count r) _ h))
    by_test false e h rest = All-cons P r rs (other r (λ k. differ k e)) (rest h)

free_same : (number offset size : ℕ) (m n : MapMeaning) → records_within number n ≡ records_within number m → IsFree m number offset size → IsFree n number offset size
free_same number offset size m n same free =
    all_back Apart number n.records (λ row h. h) (λ row other is. absurd (other is)) (subst (λ (rows : List MapRecord). All Apart rows) (sym same) (all_listed Apart number m.records (λ row h. h) free))
  where
    Apart : MapRecord → Type 0
    Apart row = row.file ≡ number → IsApart offset size row

pub region_left : {D : Type 0} → (theirs : Claims) (at : SavedAt) (old new : StoreValue D) (before after : Option History) → Beside theirs old new before after → 1 ≤ theirs (Taken at.file.0) → HoldsRegion at old → HoldsRegion at new
region_left theirs at old new before after b some h =
    let f = taken_left theirs old new before after at.file.0 b some in
    record {
      some = h.some;
      taken = f.1;
      unbegun = same_begun at.file.0 old new f.0.known ∙ h.unbegun;
      end = h.end;
      ends = same_end at.file.0 old new f.0.known ∙ h.ends;
      inside = h.inside;
      small = h.small;
      free = free_same at.file.0 at.offset at.size old.map new.map f.0.records h.free;
      guid_file = h.guid_file;
      guid_offset = h.guid_offset;
      guid_new = f.0.guids at.guid.0 h.guid_file h.guid_new;
    }

-- ---- what the disk has of the region

same_row : (row : MapRecord) (a b : DiskState) → IsSameOrSynced (a (Mail row.file)) (b (Mail row.file)) → AreRead row.instances a b → KeepsRow (files_of a) (files_of b) row row
same_row row a b state reads = record {
  guid = refl;
  size = refl;
  instances = refl;
  region = λ octets h. record { there = h.there; in_file = synced_reads (a (Mail row.file)) (b (Mail row.file)) state ∙ h.in_file; inside = h.inside; same = h.same };
  same = reads;
}

-- what was written is written still
written_on : (a b : Files) (row now : MapRecord) (name : List ℕ) (time : ℕ) (prepared : Prepared) → KeepsRow a b row now → HasWritten a row name time prepared → HasWritten b now name time prepared
written_on a b row now name time prepared k w =
    let r = k.region (written_region name time prepared (ids_in row.instances) row.guid) (record { there = w.there; in_file = w.in_file; inside = w.inside; same = w.region }) in
    record {
      there = r.there;
      in_file = r.in_file;
      inside = r.inside;
      region = r.same ∙ (ap (λ (rows : List InstRow). written_region name time prepared (ids_in rows) row.guid) (sym k.instances) ∙ ap (λ (g : List ℕ). written_region name time prepared (ids_in now.instances) g) (sym k.guid));
      guid = subst AreSixteen (sym k.guid) w.guid;
      ids = subst (λ (rows : List InstRow). All (λ inst. AreSixteen inst.id.0) rows) (sym k.instances) w.ids;
      instances = subst (λ (rows : List InstRow). AreInstancesOf prepared.parts rows) (sym k.instances) w.instances;
      octets = subst (λ (rows : List InstRow). HasInstances b rows (map (λ d. d.octets) prepared.parts)) (sym k.instances) (instances_on a b row.instances (map (λ d. d.octets) prepared.parts) k.same w.octets);
    }

left_on : (a b : FileState) → IsSameOrSynced a b → ((left : Option (List ℕ)) → MayLeave a left → (left ≡ reading a) ⊎ (left ≡ None)) → (left : Option (List ℕ)) → MayLeave b left → (left ≡ reading b) ⊎ (left ≡ None)
left_on a b s so left m = to (so left (came s m))
  where
    came : IsSameOrSynced a b → MayLeave b left → MayLeave a left
    came (inl e) m = subst (λ (f : FileState). MayLeave f left) e m
    came (inr e) m = named-narrows a left (subst (λ (f : FileState). MayLeave f left) e m)

    to : (left ≡ reading a) ⊎ (left ≡ None) → (left ≡ reading b) ⊎ (left ≡ None)
    to (inl e) = inl (e ∙ sym (synced_reads a b s))
    to (inr e) = inr e

pub placed_left : {D : Type 0} → (theirs : Claims) (at : SavedAt) (rows : List InstRow) (name : List ℕ) (time : ℕ) (octets : List ℕ) (old new : StoreValue D) (before after : Option History) → Beside theirs old new before after → 1 ≤ theirs (Taken at.file.0) → HoldsThese theirs rows → All (IsKnownRow old.instances.known) rows
    → IsPlacedReady at rows name time octets before → IsPlacedReady at rows name time octets after
placed_left theirs at rows name time octets old new before after b some own known p =
    let f = (taken_left theirs old new before after at.file.0 b some).0 in
    let reads = rows_read theirs rows old new before after b (all_claimed theirs rows own) known in
    record {
      prepared = p.prepared;
      can = p.can;
      written = λ uid. between-on (λ a b. KeepsRow (files_of a) (files_of b) (saved_row rows uid at) (saved_row rows uid at)) (λ now. HasWritten (files_of now) (saved_row rows uid at) name time p.prepared) (λ now. HasWritten (files_of now) (saved_row rows uid at) name time p.prepared) before after
          (λ a b k w. written_on (files_of a) (files_of b) (saved_row rows uid at) (saved_row rows uid at) name time p.prepared k w)
          (between-both (λ a b. IsSameOrSynced (a (Mail at.file.0)) (b (Mail at.file.0))) (AreRead rows) (λ a b. KeepsRow (files_of a) (files_of b) (saved_row rows uid at) (saved_row rows uid at)) before after (λ a b s r. same_row (saved_row rows uid at) a b s r) f.state reads) (p.written uid);
      left = between-on (λ a b. IsSameOrSynced (a (Mail at.file.0)) (b (Mail at.file.0))) (IsLeftSoOrGone (Mail at.file.0)) (IsLeftSoOrGone (Mail at.file.0)) before after (λ a b s so. left_on (a (Mail at.file.0)) (b (Mail at.file.0)) s so) f.state p.left;
    }

-- ---- the record that was stored

some_record : (a b : MapRecord) → Some a ≡ Some b → a ≡ b
some_record a b e = cc e

none_mine : (mine theirs due : ℕ) → mine + theirs ≤ due → 1 ≤ theirs → due ≡ 1 → mine ≡ 0
none_mine mine theirs due l s e = omega (arith, l, s, e)

pub stored_left : {D : Type 0} → (theirs : Claims) (added : Added) (name : List ℕ) (time : ℕ) (octets : List ℕ) (old new : StoreValue D) (before after : Option History) → Beside theirs old new before after → 1 ≤ theirs (Due added.map_uid.0) → IsRecordReady added name time octets old before → IsRecordReady added name time octets new after
stored_left theirs added name time octets old new before after b some r =
    let k = record_left theirs old new before after added.map_uid.0 r.row b some r.there in
    let keeps = row_kept added.map_uid.0 r.row new before after k in
    let same_guid : k.now.guid ≡ r.row.guid = ap (λ (x : MapRecord). x.guid) k.is_same in
    let none = none_mine (b.mine (Due added.map_uid.0)) (theirs (Due added.map_uid.0)) (due_at added.map_uid.0 old) (b.are (Due added.map_uid.0)) some r.alone in
    let guid : references_to old r.row.guid ≡ 0 = ap (references_to old) r.guid_is ∙ r.unlisted in
    let stays = b.leaves.unlisted added.map_uid.0 r.row none r.there guid in
    record {
      time_is = r.time_is;
      size_is = r.size_is;
      prepared = r.prepared;
      form = r.form;
      row = k.now;
      there = k.there;
      guid_is = same_guid ∙ r.guid_is;
      written = between-on (λ a b. KeepsRow (files_of a) (files_of b) r.row k.now) (λ now. HasWritten (files_of now) r.row name time r.prepared) (λ now. HasWritten (files_of now) k.now name time r.prepared) before after
          (λ a b keep w. written_on (files_of a) (files_of b) r.row k.now name time r.prepared keep w) keeps r.written;
      brings = λ uid. between-on (λ a b. KeepsRow (files_of a) (files_of b) r.row k.now) (λ now. AreListed (files_of now) old.map (row_made (entry_added uid added)) (message_made octets (entry_added uid added))) (λ now. AreListed (files_of now) new.map (row_made (entry_added uid added)) (message_made octets (entry_added uid added))) before after
          (λ a b keep l. (
            record {
              uid = l.0.uid;
              flags = l.0.flags;
              time = l.0.time;
              guid = l.0.guid;
              words = l.0.words;
              size = l.0.size;
              entry = k.now;
              found = k.there;
              same = same_guid ∙ r.guid_is;
              octets = stores_on (files_of a) (files_of b) r.row k.now octets keep (subst (λ (e : MapRecord). StoresMessage (files_of a) e octets) (some_record l.0.entry r.row (sym l.0.found ∙ r.there)) l.0.octets);
            },
            tt,
          )) keeps (r.brings uid);
      unlisted = ap (references_to new) (sym r.guid_is) ∙ stays.0;
      alone = stays.1 ∙ r.alone;
    }
