-- What a delivery leaves of records, storage files and instances to the tasks beside it, by what an event makes of them.
use Rattle.mail_save.proofs.Common.{◌≡◌, ◌≢◌, ◌≤◌, ◌+◌, ◌==◌, ℕ, false, cond, List, [], ◌∷◌, ◌++◌, take, drop, length, map, Option, Some, None, All, inl, inr, refl, sym, ◌∙◌, ap, subst, arith, filter, find, option_map, cases_eq, cond-false, ne_eqb, length-append, All-append, All-cons, All-nil, Detached}
use Rattle.mail_save.proofs.Common.{DiskState, History, Between, reading, FileName, Mail, Inst, between-both, between-map, InstRow, FileNo, MapUid, MapMeaning, MapRecord, map_applied, number_at, record_at, files_of, part_row, next_id, instance_file, file-other, FilesValue, end_in, ending_at}
use Rattle.mail_save.proofs.Common.{file_in, released_in, IsAddedTo, MailFile, Take, Known, New, Full, KeepsInstances, KeepsUids, StoreValue, Claims, IsSameOrSynced, LeavesOthers, LeavesUnlisted, HoldsRegion, HasAppended, ReadsSameMail, TakesWithHeader, WritesAttachment, entry_stored, PlacesParts}
use Rattle.mail_save.proofs.Common.{TakesFileFor, TookAs, saved_row, SavedParts, SavedAt}
use Rattle.std.proofs.Common.{get_or}
use Rattle.std.specs.Prelude.{◌⊎◌}
use Rattle.std.proofs.lemmas.List.{append-nil, drop-append-le, length-drop, take-append-le}
use Rattle.std.proofs.lemmas.Option.{same_Some}
use Rattle.disk_model.proofs.BetweenLemmas.{between-if}
use Rattle.model_appends.proofs.AppendMapLemmas.{find_first}
use Rattle.model_meaning.proofs.AppliedLemmas.{records_by_stored}
use Rattle.storage_files.specs.Files.{with_pins}
use Rattle.storage_files.specs.OnDisk.{IsAsKnown}
use Rattle.task_claims.proofs.CountedLemmas.{all_same, found_same, rows_same, same_map, unraised_same}
use Rattle.task_claims.proofs.GoneLemmas.{gone_stays}
use Rattle.task_claims.proofs.NameLemmas.{names_stay}
use Rattle.task_claims.proofs.RestLemmas.{instance_kept}
use Rattle.task_claims.specs.Leaving.{HasRegionOctets, HaveSameInstances, LeavesRecord, OthersTook, RaisesNone, SameButCounts, but_count, records_within}
use Rattle.mail_save.specs.MailFiles.{AddsInstance}
use Rattle.mail_save.specs.SaveEffects.{AreEndsSame}
use Rattle.mail_save.proofs.MailFileLemmas.{synced_reads}
use Rattle.mail_save.proofs.SaveFileLemmas.{released_other, taken_other}
use Rattle.mail_save.proofs.SaveNumberLemmas.{DrawsNumbers, LeavesLogs}

-- ---- records

-- Each is there as it was, but for its count. Of files but the delivery's own (`Own`) the records are the same, and none has got a GUID
-- that is given there.
pub record LeavesRecords (Own : ℕ → Type 0) (m n : MapMeaning) : Type 0 where
  pub records : (uid : ℕ) (row : MapRecord) → record_at m uid ≡ Some row → (now : MapRecord) × (record_at n uid ≡ Some now) × (but_count now ≡ but_count row)
  pub within : (number : ℕ) → (Own number → ⊥) → records_within number n ≡ records_within number m
  pub guids : (number : ℕ) → (Own number → ⊥) → (guid : List ℕ) → number_at 8 guid ≡ number → All (λ row. row.guid ≢ guid) m.records → All (λ row. row.guid ≢ guid) n.records
  pub unraised : RaisesNone m n

pub counts_leave : (Own : ℕ → Type 0) (m n : MapMeaning) → SameButCounts m n → RaisesNone m n → LeavesRecords Own m n
counts_leave Own m n same unraised = record {
  records = λ uid row there. found_same uid m.records n.records row same there;
  within = λ number other. rows_same number m n same;
  guids = λ number other guid of all. all_same (λ row. row.guid ≢ guid) m.records n.records (λ a b e away is. away (sym (ap (λ (r : MapRecord). r.guid) e) ∙ is)) same all;
  unraised = unraised;
}

-- the same map
pub same_leave : (Own : ℕ → Type 0) (m n : MapMeaning) → n ≡ m → LeavesRecords Own m n
same_leave Own m n e = counts_leave Own m n (same_map m n e) (unraised_same m n (ap (λ (k : MapMeaning). k.records) e))

within_more : (number : ℕ) (r : MapRecord) (xs : List MapRecord) → r.file ≢ number → filter (λ row. row.file == number) (map but_count (xs ++ r ∷ [])) ≡ filter (λ row. row.file == number) (map but_count xs)
within_more number r [] other = cond-false (r.file == number) (but_count r ∷ []) [] (ne_eqb r.file number other)
within_more number r (x ∷ xs) other = ap (λ (ys : List MapRecord). cond (x.file == number) (but_count x ∷ ys) ys) (within_more number r xs other)

-- a record is stored, of a message that lies in the delivery's own file
pub stored_leave : (uid : MapUid) (at : SavedAt) (rows : List InstRow) (m : MapMeaning) → number_at 8 at.guid.0 ≡ at.file.0 → LeavesRecords (λ number. number ≡ at.file.0) m (map_applied (entry_stored rows uid at) m)
stored_leave uid at rows m place =
    let row : MapRecord = saved_row rows uid at in
    let is : (map_applied (entry_stored rows uid at) m).records ≡ m.records ++ row ∷ [] = records_by_stored 0 1 uid at.file at.offset at.size at.guid rows m.records in
    record {
      records = λ u found there. (found, ap (λ (rs : List MapRecord). find (λ r. r.uid == u) rs) is ∙ find_first (λ r. r.uid == u) m.records (row ∷ []) found there, refl);
      within = λ number other. ap (λ (rs : List MapRecord). filter (λ r. r.file == number) (map but_count rs)) is ∙ within_more number row m.records (λ e. other (sym e));
      guids = λ number other guid of all. subst (λ (rs : List MapRecord). All (λ r. r.guid ≢ guid) rs) (sym is)
          (All-append (λ (r : MapRecord). r.guid ≢ guid) m.records (row ∷ []) all (All-cons (λ (r : MapRecord). r.guid ≢ guid) row [] (λ e. other (sym of ∙ (ap (number_at 8) (sym e) ∙ place))) (All-nil (λ (r : MapRecord). r.guid ≢ guid))));
      unraised = λ u found now there none at.
          let e : now ≡ found = same_Some now found (sym at ∙ (ap (λ (rs : List MapRecord). find (λ r. r.uid == u) rs) is ∙ find_first (λ r. r.uid == u) m.records (row ∷ []) found there)) in
          ap (λ (r : MapRecord). r.count) e ∙ none;
    }

-- ---- what is known of storage files

-- Files but the delivery's own are known as they were, and each file that is there is there still, and ends where it did or behind it.
pub record LeavesKnown (Own : ℕ → Type 0) (old new : List MailFile) : Type 0 where
  pub files : (number : ℕ) → (Own number → ⊥) → file_in number new ≡ file_in number old
  pub ends : (number end : ℕ) → end_in number old ≡ Some end → (now : ℕ) × (end_in number new ≡ Some now) × (end ≤ now)

stays : (n : ℕ) → n ≤ n
stays n = omega arith

pub same_known : (Own : ℕ → Type 0) (old new : List MailFile) → new ≡ old → LeavesKnown Own old new
same_known Own old new same = record { files = λ number other. ap (file_in number) same; ends = λ number end is. (end, ap (end_in number) same ∙ is, stays end) }

some_none : {A X : Type 0} → (o : Option A) (a : A) → o ≡ Some a → o ≡ None → X
some_none o a some none = absurd (let k : Some a ≡ None = sym some ∙ none in cc k)

took_ends : {D : Type 0} → (take : Take) (header : ℕ) (file : FileNo) (old new : StoreValue D) → TookAs take header file old new → (number end : ℕ) → end_in number old.files.files ≡ Some end → end_in number new.files.files ≡ Some end
took_ends (Known k) header file old new t number end is = t.2 number ∙ is
took_ends (New k) header file old new t number end is = elim (cases_eq number file.0) [
  | inl same ↦ some_none (end_in file.0 old.files.files) end (ap (λ (n : ℕ). end_in n old.files.files) (sym same) ∙ is) t.2
  | inr apart ↦ t.4 number apart ∙ is
]
took_ends Full header file old new t number end is = absurd t

pub taking_known : {D : Type 0} → (header size : ℕ) (file : FileNo) (old new : StoreValue D) → TakesFileFor header size file old new → LeavesKnown (λ number. number ≡ file.0) old.files.files new.files.files
taking_known header size file old new t = record {
  files = λ number other. ap (λ (fs : FilesValue). file_in number fs.files) t.files ∙ taken_other t.take header file old new number other t.took;
  ends = λ number end is. (end, took_ends t.take header file old new t.took number end is, stays end);
}

one_end : (a b : ℕ) → Some a ≡ Some b → a ≡ b
one_end a b e = cc e

pub placing_known : {D : Type 0} → (parts : SavedParts) (file : FileNo) (at : SavedAt) (rows : List InstRow) (old new : StoreValue D) → PlacesParts parts file at rows old new → LeavesKnown (λ number. number ≡ file.0) old.files.files new.files.files
placing_known parts file at rows old new p = record {
  files = λ number other. ap (λ (v : StoreValue _). file_in number v.files.files) p.same ∙ file-other file.0 number (ending_at (at.offset + at.size)) old.files.files (λ f. refl) other;
  ends = λ number end is. elim (cases_eq number file.0) [
    | inl same ↦ (
      at.offset + at.size,
      ap (λ (n : ℕ). end_in n new.files.files) same ∙ p.ends,
      let e : end ≡ at.offset = one_end end at.offset (sym is ∙ (ap (λ (n : ℕ). end_in n old.files.files) same ∙ p.began)) in omega (arith, e),
    )
    | inr apart ↦ (end, p.others number apart ∙ is, stays end)
  ];
}

pub released_known : {D : Type 0} → (at : SavedAt) (old new : StoreValue D) → HoldsRegion at old → new.files.files ≡ released_in at.file.0 old.files.files → AreEndsSame old new → LeavesKnown (λ number. number ≡ at.file.0) old.files.files new.files.files
released_known at old new h files ends = record {
  files = λ number other. ap (file_in number) files ∙ released_other at.file.0 number h.end old.files.files h.ends other;
  ends = λ number end is. (end, ends number ∙ is, stays end);
}

-- ---- files and instances on the disk

-- what a storage file reads is the beginning of what it reads then, and an instance that is there reads as it did
abbrev pub GrowsMail : DiskState → DiskState → Type 0
GrowsMail a b = ((number : ℕ) (octets : List ℕ) → reading (a (Mail number)) ≡ Some octets → (more : List ℕ) × (reading (b (Mail number)) ≡ Some (octets ++ more))) × ((hash id octets : List ℕ) → reading (a (Inst hash id)) ≡ Some octets → reading (b (Inst hash id)) ≡ Some octets)

-- storage files but the delivery's own are as they were, or their names were synced
abbrev pub SyncsBut : (ℕ → Type 0) → DiskState → DiskState → Type 0
SyncsBut Own a b = (number : ℕ) → (Own number → ⊥) → IsSameOrSynced (a (Mail number)) (b (Mail number))

pub record LeavesMailBut (Own : ℕ → Type 0) (before after : Option History) : Type 0 where
  pub files : Between (SyncsBut Own) before after
  pub grows : Between GrowsMail before after

abbrev SameMail : DiskState → DiskState → Type 0
SameMail a b = ((number : ℕ) → IsSameOrSynced (a (Mail number)) (b (Mail number))) × ((hash id : List ℕ) → IsSameOrSynced (a (Inst hash id)) (b (Inst hash id)))

abbrev OtherMail : ℕ → DiskState → DiskState → Type 0
OtherMail file a b = ((number : ℕ) → number ≢ file → IsSameOrSynced (a (Mail number)) (b (Mail number))) × ((hash id : List ℕ) → IsSameOrSynced (a (Inst hash id)) (b (Inst hash id)))

-- it reads as it did, and nothing more
no_more : (a b : Option (List ℕ)) (octets : List ℕ) → b ≡ a → a ≡ Some octets → (more : List ℕ) × (b ≡ Some (octets ++ more))
no_more a b octets same is = ([], same ∙ (is ∙ ap Some (sym (append-nil octets))))

pub mail_same : (Own : ℕ → Type 0) (before after : Option History) → ReadsSameMail before after → LeavesMailBut Own before after
mail_same Own before after same = record {
  files = between-map SameMail (SyncsBut Own) before after (λ a b s number other. s.0 number) same;
  grows = between-map SameMail GrowsMail before after
      (λ a b s. (λ number octets is. no_more (reading (a (Mail number))) (reading (b (Mail number))) octets (synced_reads (a (Mail number)) (b (Mail number)) (s.0 number)) is, λ hash id octets is. synced_reads (a (Inst hash id)) (b (Inst hash id)) (s.1 hash id) ∙ is)) same;
}

one_octets : (o : Option (List ℕ)) (a b : List ℕ) → o ≡ Some a → o ≡ Some b → a ≡ b
one_octets o a b e f = let k : Some a ≡ Some b = sym e ∙ f in cc k

pub mail_appended : (region : List ℕ) (file : ℕ) (before after : Option History) → HasAppended region file before after → LeavesMailBut (λ number. number ≡ file) before after
mail_appended region file before after h = record {
  files = between-map (OtherMail file) (SyncsBut (λ number. number ≡ file)) before after (λ a b s number other. s.0 number other) h.others;
  grows = between-both (OtherMail file) (λ a b. IsAddedTo region (a (Mail file)) (b (Mail file))) GrowsMail before after
      (λ a b s added. (λ number octets is. by_number a b s added number octets is (cases_eq number file), λ hash id octets is. synced_reads (a (Inst hash id)) (b (Inst hash id)) (s.1 hash id) ∙ is)) h.others h.added;
}
  where
    by_number : (a b : DiskState) → OtherMail file a b → IsAddedTo region (a (Mail file)) (b (Mail file)) → (number : ℕ) (octets : List ℕ) → reading (a (Mail number)) ≡ Some octets → (number ≡ file) ⊎ (number ≢ file) → (more : List ℕ) × (reading (b (Mail number)) ≡ Some (octets ++ more))
    by_number a b s added number octets is (inl same) =
        let e : added.before ≡ octets = one_octets (reading (a (Mail file))) added.before octets added.read (ap (λ (n : ℕ). reading (a (Mail n))) (sym same) ∙ is) in
        (region, ap (λ (n : ℕ). reading (b (Mail n))) same ∙ (added.reads ∙ ap (λ (o : List ℕ). Some (o ++ region)) e))
    by_number a b s added number octets is (inr apart) = no_more (reading (a (Mail number))) (reading (b (Mail number))) octets (synced_reads (a (Mail number)) (b (Mail number)) (s.0 number apart)) is

unlike_none : {X : Type 0} → (o : Option (List ℕ)) (octets : List ℕ) → o ≡ Some octets → option_map length o ≡ None → X
unlike_none o octets is none = absurd (let k : Some (length octets) ≡ None = sym (ap (option_map length) is) ∙ none in cc k)

pub mail_taken : {D : Type 0} → (header : List ℕ) (file : ℕ) (old : StoreValue D) (before after : Option History) → IsAsKnown old.files.files file before → TakesWithHeader header file old before after → LeavesMailBut (λ number. number ≡ file) before after
mail_taken header file old before after known t = by_end (end_in file old.files.files) refl
  where
    Absent : DiskState → Type 0
    Absent a = option_map length (reading (a (Mail file))) ≡ end_in file old.files.files

    by_number : (a b : DiskState) → OtherMail file a b → option_map length (reading (a (Mail file))) ≡ None → (number : ℕ) (octets : List ℕ) → reading (a (Mail number)) ≡ Some octets → (number ≡ file) ⊎ (number ≢ file) → (more : List ℕ) × (reading (b (Mail number)) ≡ Some (octets ++ more))
    by_number a b s none number octets is (inl same) = unlike_none (reading (a (Mail file))) octets (ap (λ (n : ℕ). reading (a (Mail n))) (sym same) ∙ is) none
    by_number a b s none number octets is (inr apart) = no_more (reading (a (Mail number))) (reading (b (Mail number))) octets (synced_reads (a (Mail number)) (b (Mail number)) (s.0 number apart)) is

    by_end : (o : Option ℕ) → end_in file old.files.files ≡ o → LeavesMailBut (λ number. number ≡ file) before after
    by_end (Some end) e = mail_same (λ number. number ≡ file) before after (t.known end e)
    by_end None e = record {
      files = between-map (OtherMail file) (SyncsBut (λ number. number ≡ file)) before after (λ a b s number other. s.0 number other) t.others;
      grows = between-if (OtherMail file) GrowsMail Absent before after (λ a b s none. (λ number octets is. by_number a b s (none ∙ e) number octets is (cases_eq number file), λ hash id octets is. synced_reads (a (Inst hash id)) (b (Inst hash id)) (s.1 hash id) ∙ is)) t.others known;
    }

abbrev FilesSync : DiskState → DiskState → Type 0
FilesSync a b = (number : ℕ) → IsSameOrSynced (a (Mail number)) (b (Mail number))

abbrev OthersRead : InstRow → DiskState → DiskState → Type 0
OthersRead row a b = (hash id : List ℕ) → Inst hash id ≢ instance_file row → reading (b (Inst hash id)) ≡ reading (a (Inst hash id))

mail_placed : (Own : ℕ → Type 0) (row : InstRow) (octets : List ℕ) (before after : Option History) → AddsInstance row octets before after → LeavesMailBut Own before after
mail_placed Own row octets before after h = record {
  files = between-map FilesSync (SyncsBut Own) before after (λ a b f number other. f number) h.files;
  grows = between-if (λ a b. FilesSync a b × OthersRead row a b) GrowsMail (λ a. reading (a (instance_file row)) ≡ None) before after
      (λ a b both none. (
        λ number own is. no_more (reading (a (Mail number))) (reading (b (Mail number))) own (synced_reads (a (Mail number)) (b (Mail number)) (both.0 number)) is,
        λ hash id own is. both.1 hash id (λ e. some_none (reading (a (Inst hash id))) own is (ap (λ (n : FileName). reading (a n)) e ∙ none)) ∙ is,
      ))
      (between-both FilesSync (OthersRead row) (λ a b. FilesSync a b × OthersRead row a b) before after (λ a b f o. (f, o)) h.files h.others) h.fresh;
}

-- an attachment was placed, or compared
pub mail_attached : {D : Type 0} → (Own : ℕ → Type 0) (candidate : Option InstRow) (next : Option Detached) (old : StoreValue D) (before after : Option History) → WritesAttachment candidate next old before after → LeavesMailBut Own before after
mail_attached Own None (Some part) old before after w = mail_placed Own (part_row part (next_id old.instances)) part.octets before after w
mail_attached Own None None old before after w = mail_same Own before after w
mail_attached Own (Some row) None old before after w = mail_same Own before after w
mail_attached Own (Some row) (Some part) old before after w = mail_same Own before after w

-- ---- all of it

part_behind : (size offset : ℕ) (x y : List ℕ) → offset + size ≤ length x → take size (drop offset (x ++ y)) ≡ take size (drop offset x)
part_behind size offset x y le =
    ap (take size) (drop-append-le offset x y (omega (arith, le)))
    ∙ take-append-le size (drop offset x) y (let l = length-drop offset x in omega (arith, le, l))

region_left : (row now : MapRecord) (a b : DiskState) → but_count now ≡ but_count row → GrowsMail a b → (octets : List ℕ) → HasRegionOctets (files_of a) row octets → HasRegionOctets (files_of b) now octets
region_left row now a b same grows octets h =
    let to : record row { count = now.count } ≡ now = sym (ap (λ (r : MapRecord). record r { count = now.count }) same) in
    let more = grows.0 row.file h.there h.in_file in
    subst (λ (r : MapRecord). HasRegionOctets (files_of b) r octets) to (record {
      there = h.there ++ more.0;
      in_file = more.1;
      inside = let l = length-append h.there more.0 in let i = h.inside in omega (arith, l, i);
      same = part_behind row.size row.offset h.there more.0 h.inside ∙ h.same;
    })

abbrev IsRowNow : {D : Type 0} → ℕ → MapRecord → StoreValue D → Type 0
IsRowNow uid row new = (now : MapRecord) × (record_at new.map uid ≡ Some now) × (but_count now ≡ but_count row)

record_left : {D : Type 0} → (Own : ℕ → Type 0) (uid : ℕ) (row : MapRecord) (new : StoreValue D) (before after : Option History) → LeavesMailBut Own before after → IsRowNow uid row new → LeavesRecord uid row new before after
record_left Own uid row new before after mail k = record {
  now = k.0;
  there = k.1;
  is_same = ap (λ (r : MapRecord). record r { count = k.0.count; file = k.0.file; offset = k.0.offset }) k.2;
  region = between-map GrowsMail (λ a b. (octets : List ℕ) → HasRegionOctets (files_of a) row octets → HasRegionOctets (files_of b) k.0 octets) before after (λ a b m octets h. region_left row k.0 a b k.2 m octets h) mail.grows;
  instances = between-map GrowsMail (λ a b. HaveSameInstances row.instances (files_of a) (files_of b)) before after (λ a b m. λ i d lt own is. m.1 (get_or row.instances i d).hash.0 (get_or row.instances i d).id.0 own is) mail.grows;
}

-- An event that leaves all this, and whose own file no other task has taken or is to remove, leaves to the others what is theirs.
pub leaves_by : {D : Type 0} → (mine : Claims) (Own : ℕ → Type 0) (old new : StoreValue D) (before after : Option History) → KeepsInstances old new before after → KeepsUids old new → DrawsNumbers old new → LeavesLogs old new → new.stopped ≡ false → LeavesRecords Own old.map new.map → LeavesKnown Own old.files.files new.files.files → LeavesMailBut Own before after → LeavesUnlisted mine old new
    → ((number : ℕ) → OthersTook mine old number → Own number → ⊥) → LeavesOthers mine old new before after
leaves_by mine Own old new before after keeps uids draws logs runs rows known mail unlisted apart = record {
  records = λ uid row more there. record_left Own uid row new before after mail (rows.records uid row there);
  unlisted = unlisted;
  files = λ number took. record {
    known = ap (option_map (with_pins 0)) (known.files number (apart number took));
    records = rows.within number (apart number took);
    guids = rows.guids number (apart number took);
    state = between-map (SyncsBut Own) (λ a b. IsSameOrSynced (a (Mail number)) (b (Mail number))) before after (λ a b s. s number (apart number took)) mail.files;
  };
  grow = λ number more. record {
    there = known.ends number;
    reads = between-map GrowsMail (λ a b. (octets : List ℕ) → reading (a (Mail number)) ≡ Some octets → (more : List ℕ) × (reading (b (Mail number)) ≡ Some (octets ++ more))) before after (λ a b m octets is. m.0 number octets is) mail.grows;
  };
  instances = λ row is more. instance_kept row old new before after keeps is;
  unraised = rows.unraised;
  store = keeps.store;
  numbers = draws.numbers;
  mailboxes = draws.mailboxes;
  end = logs.end runs;
  names = inl (names_stay old.map new.map draws.boxes);
  gone = gone_stays old new draws.boxes logs.made draws.mailboxes;
  compared = keeps.compared;
  firm = keeps.firm;
  uids = uids;
  room = logs.room;
  told = between-map GrowsMail (λ a b. Unit {0}) before after (λ a b m. tt) mail.grows;
}
