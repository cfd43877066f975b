-- What a delivery alone has written to the storage files and the instances, since the store was opened.
use Rattle.std.specs.Prelude.{◌≡◌, ◌≢◌, ◌≤◌, ◌+◌, ◌⊎◌, ◌||◌, ℕ, Bool, true, false, List, [], ◌∷◌, ◌++◌, length, take, drop, get_or, All, Contains, Option, Some, None, if◌then◌else◌}
use Rattle.std.specs.Option.{option_map}
use Rattle.std.specs.Str.{bytes_eq}
use Rattle.std.proofs.Common.{refl, sym, ◌∙◌, ap, subst, inl, inr, arith}
use Rattle.std.proofs.lemmas.Bool.{cases_eq}
use Rattle.std.proofs.lemmas.List.{length-append, take-append-le, drop-append-le, length-drop}
use Rattle.std.proofs.lemmas.List.Elements.{All-weaker}
use Rattle.attach_detach.specs.declared.message.Detached.{Detached}
use Rattle.disk_model.specs.Disk.{DiskState, FileState, History, IfTold, IsThere, Between, Keeps, reading}
use Rattle.disk_model.specs.declared.name.FileName.TheVariants.{Mail, Inst}
use Rattle.disk_model.proofs.BetweenLemmas.{between-then, between-both, between-if, between-map, between-since}
use Rattle.mdbox_base.specs.declared.entries.InstRow.{InstRow}
use Rattle.mdbox_base.specs.declared.ids.InstId.{InstId}
use Rattle.model_meaning.specs.MapMeaning.{MapRecord, MapMeaning, is_sealed}
use Rattle.model_octets.proofs.SearchLemmas.{text_is, text_yes}
use Rattle.model_storage.specs.WrittenFile.{written_header}
use Rattle.model_store.specs.Settled.{HasSameInstance, HasSameRegion, IsSameRegion, files_of}
use Rattle.model_store.specs.Stands.{HasInstances}
use Rattle.save_instances.specs.Attaching.{part_row}
use Rattle.sis_store.specs.Instances.{next_id}
use Rattle.storage_files.specs.Files.{FilesValue, end_in}
use Rattle.storage_files.specs.OnDisk.{IsAddedTo, IsAsKnown}
use Rattle.store_core.specs.Files.{EndsWith}
use Rattle.store_core.specs.Value.{StoreValue}
use Rattle.store_files.specs.Regions.{has_region}
use Rattle.store_sweep.specs.Moments.{IsFitted}
use Rattle.store_sweep.specs.Swept.{IsSwept}
use Rattle.task_claims.specs.Leaving.{IsSameOrSynced}
use Rattle.mail_save.proofs.MailFileLemmas.{synced_reads}
use Rattle.mail_save.specs.MailFiles.{AddsInstance, HasAppended, TakesWithHeader, ReadsSameMail, WritesAttachment}
use Rattle.mail_save.specs.declared.place.SavedAt.{SavedAt}
use Rattle.tasks_alone.specs.DeliveryAlone.{WroteMessage}
use Rattle.tasks_alone.specs.SavedMail.{AddsAttachments, AddsOnly, IsNewAttachment, ReadsBut, MailTook, MailWrote, AddedMail, TookMail, WroteMail}

-- ---- what is written

abbrev OtherMail : ℕ → DiskState → DiskState → Type 0
OtherMail file a b = ((number : ℕ) → number ≢ file → IsSameOrSynced (a (Mail number)) (b (Mail number))) × ((hash id : List ℕ) → IsSameOrSynced (a (Inst hash id)) (b (Inst hash id)))

abbrev SameMail : DiskState → DiskState → Type 0
SameMail a b = ((number : ℕ) → IsSameOrSynced (a (Mail number)) (b (Mail number))) × ((hash id : List ℕ) → IsSameOrSynced (a (Inst hash id)) (b (Inst hash id)))

-- ---- instances

-- an instance reads as it did, or is a new one
abbrev SameOrNew : List Detached → List InstRow → List ℕ → List ℕ → Option (List ℕ) → Option (List ℕ) → Type 0
SameOrNew parts rows hash id was now = (now ≡ was) ⊎ IsNewAttachment parts rows hash id was now

same_then : (parts : List Detached) (rows : List InstRow) (hash id : List ℕ) (a b c : Option (List ℕ)) → SameOrNew parts rows hash id a b → SameOrNew parts rows hash id b c → SameOrNew parts rows hash id a c
same_then parts rows hash id a b c (inl same) (inl still) = inl (still ∙ same)
same_then parts rows hash id a b c (inl same) (inr new) =
    inr (record { part = new.part; among = new.among; row = new.row; of_rows = new.of_rows; hash_is = new.hash_is; id_is = new.id_is; of_part = new.of_part; none = sym same ∙ new.none; has = new.has })
same_then parts rows hash id a b c (inr new) (inl still) =
    inr (record { part = new.part; among = new.among; row = new.row; of_rows = new.of_rows; hash_is = new.hash_is; id_is = new.id_is; of_part = new.of_part; none = new.none; has = still ∙ new.has })
same_then parts rows hash id a b c (inr new) (inr again) = absurd (let e : Some new.part.octets ≡ None = sym new.has ∙ again.none in cc e)

-- these instances, and others
abbrev pub AreAmong : List InstRow → List InstRow → Type 0
AreAmong rows more = (row : InstRow) → Contains rows row → Contains more row

same_among : (parts : List Detached) (rows more : List InstRow) (hash id : List ℕ) (a b : Option (List ℕ)) → AreAmong rows more → SameOrNew parts rows hash id a b → SameOrNew parts more hash id a b
same_among parts rows more hash id a b among (inl same) = inl same
same_among parts rows more hash id a b among (inr new) =
    inr (record { part = new.part; among = new.among; row = new.row; of_rows = among new.row new.of_rows; hash_is = new.hash_is; id_is = new.id_is; of_part = new.of_part; none = new.none; has = new.has })

same_attachments : (parts : List Detached) (rows : List InstRow) (a b : DiskState) → ((hash id : List ℕ) → IsSameOrSynced (a (Inst hash id)) (b (Inst hash id))) → AddsAttachments parts rows a b
same_attachments parts rows a b same = λ hash id. inl (synced_reads (a (Inst hash id)) (b (Inst hash id)) (same hash id))

attachments_then : (parts : List Detached) (rows : List InstRow) (a b c : DiskState) → AddsAttachments parts rows a b → AddsAttachments parts rows b c → AddsAttachments parts rows a c
attachments_then parts rows a b c first last = λ hash id. same_then parts rows hash id (reading (a (Inst hash id))) (reading (b (Inst hash id))) (reading (c (Inst hash id))) (first hash id) (last hash id)

added_then : (parts : List Detached) (rows : List InstRow) (a b c : DiskState) → AddsOnly parts rows a b → AddsOnly parts rows b c → AddsOnly parts rows a c
added_then parts rows a b c first last = record { files = λ number. last.files number ∙ first.files number; instances = attachments_then parts rows a b c first.instances last.instances }

pub added_on : (parts : List Detached) (rows : List InstRow) (old before after : Option History) → AddedMail parts rows old before → AddedMail parts rows before after → AddedMail parts rows old after
added_on parts rows old before after first last = between-then (AddsOnly parts rows) (AddsOnly parts rows) (AddsOnly parts rows) old before after (added_then parts rows) first last

pub added_among : (parts : List Detached) (rows more : List InstRow) (old new : Option History) → AreAmong rows more → AddedMail parts rows old new → AddedMail parts more old new
added_among parts rows more old new among added =
    between-map (AddsOnly parts rows) (AddsOnly parts more) old new (λ a b adds. record { files = adds.files; instances = λ hash id. same_among parts rows more hash id (reading (a (Inst hash id))) (reading (b (Inst hash id))) among (adds.instances hash id) }) added

-- an event that writes to none
pub added_none : (parts : List Detached) (rows : List InstRow) (before after : Option History) → ReadsSameMail before after → AddedMail parts rows before after
added_none parts rows before after same = between-map SameMail (AddsOnly parts rows) before after (λ a b s. record { files = λ number. synced_reads (a (Mail number)) (b (Mail number)) (s.0 number); instances = same_attachments parts rows a b s.1 }) same

-- one instance, or another
one_instance : (hash id other mine : List ℕ) → ((hash ≡ other) × (id ≡ mine)) ⊎ (Inst hash id ≢ Inst other mine)
one_instance hash id other mine = by_test (bytes_eq hash other) (bytes_eq id mine) refl refl
  where
    by_test : (s t : Bool) → bytes_eq hash other ≡ s → bytes_eq id mine ≡ t → ((hash ≡ other) × (id ≡ mine)) ⊎ (Inst hash id ≢ Inst other mine)
    by_test true true e f = inl (text_is hash other e, text_is id mine f)
    by_test false t e f = inr (λ same. let k : hash ≡ other = cc same in let n : true ≡ false = sym (text_yes hash other k) ∙ e in absurd (cc n))
    by_test true false e f = inr (λ same. let k : id ≡ mine = cc same in let n : true ≡ false = sym (text_yes id mine k) ∙ f in absurd (cc n))

attachment_new : (parts : List Detached) (rows : List InstRow) (part : Detached) (id : InstId) (a b : DiskState) → Contains parts part → Contains rows (part_row part id) → reading (a (Inst part.hash.0 id.0)) ≡ None
    → ((other mine : List ℕ) → Inst other mine ≢ Inst part.hash.0 id.0 → reading (b (Inst other mine)) ≡ reading (a (Inst other mine))) → reading (b (Inst part.hash.0 id.0)) ≡ Some part.octets → AddsAttachments parts rows a b
attachment_new parts rows part id a b among of_rows none others has = λ other mine. elim (one_instance other mine part.hash.0 id.0) [
  | inl same ↦ inr (record {
    part = part;
    among = among;
    row = part_row part id;
    of_rows = of_rows;
    hash_is = same.0;
    id_is = same.1;
    of_part = refl;
    none = ap (λ (h : List ℕ). reading (a (Inst h mine))) same.0 ∙ (ap (λ (k : List ℕ). reading (a (Inst part.hash.0 k))) same.1 ∙ none);
    has = ap (λ (h : List ℕ). reading (b (Inst h mine))) same.0 ∙ (ap (λ (k : List ℕ). reading (b (Inst part.hash.0 k))) same.1 ∙ has);
  })
  | inr apart ↦ inl (others other mine apart)
]

adds_attachment : (parts : List Detached) (rows : List InstRow) (part : Detached) (id : InstId) (before after : Option History) → Contains parts part → Contains rows (part_row part id) → AddsInstance (part_row part id) part.octets before after → AddedMail parts rows before after
adds_attachment parts rows part id before after among of_rows h =
    between-since (λ a b. (Files a b × Others a b) × (reading (a (Inst part.hash.0 id.0)) ≡ None)) (AddsOnly parts rows) (λ b. Keeps (b (Inst part.hash.0 id.0)) part.octets) before after
    (λ a b both kept. record { files = λ number. synced_reads (a (Mail number)) (b (Mail number)) (both.0.0 number); instances = attachment_new parts rows part id a b among of_rows both.1 both.0.1 kept.reads })
    (between-if (λ a b. Files a b × Others a b) (λ a b. (Files a b × Others a b) × (reading (a (Inst part.hash.0 id.0)) ≡ None)) (λ a. reading (a (Inst part.hash.0 id.0)) ≡ None) before after (λ a b both none. (both, none))
    (between-both Files Others (λ a b. Files a b × Others a b) before after (λ a b f o. (f, o)) h.files h.others) h.fresh)
    h.made
  where
    Files : DiskState → DiskState → Type 0
    Files a b = (number : ℕ) → IsSameOrSynced (a (Mail number)) (b (Mail number))

    Others : DiskState → DiskState → Type 0
    Others a b = (other mine : List ℕ) → Inst other mine ≢ Inst part.hash.0 id.0 → reading (b (Inst other mine)) ≡ reading (a (Inst other mine))

-- an event that places an attachment
pub places_attachment : {D : Type 0} → (candidate : Option InstRow) (next : Option Detached) (part : Detached) (parts : List Detached) (rows : List InstRow) (s : StoreValue D) (before after : Option History) → candidate ≡ None → next ≡ Some part → Contains parts part → Contains rows (part_row part (next_id s.instances))
    → WritesAttachment candidate next s before after → AddedMail parts rows before after
places_attachment candidate next part parts rows s before after none some among of_rows h =
    adds_attachment parts rows part (next_id s.instances) before after among of_rows
    (subst (λ (n : Option Detached). WritesAttachment None n s before after) some (subst (λ (c : Option InstRow). WritesAttachment c next s before after) none h))

-- or compares it
pub compares_attachment : {D : Type 0} → (candidate : Option InstRow) (next : Option Detached) (row : InstRow) (parts : List Detached) (rows : List InstRow) (s : StoreValue D) (before after : Option History) → candidate ≡ Some row → WritesAttachment candidate next s before after → AddedMail parts rows before after
compares_attachment candidate next row parts rows s before after some h = added_none parts rows before after (reads next (subst (λ (c : Option InstRow). WritesAttachment c next s before after) some h))
  where
    reads : (n : Option Detached) → WritesAttachment (Some row) n s before after → ReadsSameMail before after
    reads None w = w
    reads (Some part) w = w

-- instances have the octets that they had
pub instances_on : (rows : List InstRow) (octets : List (List ℕ)) (a b : DiskState) → ((hash id : List ℕ) → reading (b (Inst hash id)) ≡ reading (a (Inst hash id))) → HasInstances (files_of a) rows octets → HasInstances (files_of b) rows octets
instances_on [] [] a b same h = h
instances_on [] (text ∷ octets) a b same h = absurd h
instances_on (row ∷ rows) [] a b same h = absurd h
instances_on (row ∷ rows) (text ∷ octets) a b same h = (same row.hash.0 row.id.0 ∙ h.0, instances_on rows octets a b same h.1)

-- ---- a storage file is taken

one_octets : (o : Option (List ℕ)) (a b : List ℕ) → o ≡ Some a → o ≡ Some b → a ≡ b
one_octets o a b e f = let k : Some a ≡ Some b = sym e ∙ f in cc k

known_front : (o : Option (List ℕ)) (end : ℕ) → option_map length o ≡ Some end → (front : List ℕ) × (o ≡ Some front) × (length front ≡ end)
known_front None end e = absurd (let k : None ≡ Some end = e in cc k)
known_front (Some front) end e = let k : length front ≡ end = cc e in (front, refl, k)

no_front : (o : Option (List ℕ)) → option_map length o ≡ None → o ≡ None
no_front None e = refl
no_front (Some front) e = absurd (let k : Some (length front) ≡ None = e in cc k)

-- by the event that takes it
took_now : {D : Type 0} → (parts : List Detached) (rows : List InstRow) (time file : ℕ) (header : List ℕ) (s : StoreValue D) (before after : Option History) → header ≡ written_header time → IsAsKnown s.files.files file before → TakesWithHeader header file s before after → TookMail parts rows time file before after
took_now parts rows time file header s before after is known t = by_end (end_in file s.files.files) refl
  where
    was_there : (end : ℕ) → end_in file s.files.files ≡ Some end → (a b : DiskState) → SameMail a b → option_map length (reading (a (Mail file))) ≡ end_in file s.files.files → MailTook parts rows time file a b
    was_there end e a b same k =
        let f = known_front (reading (a (Mail file))) end (k ∙ e) in
        record { others = record { files = λ number apart. synced_reads (a (Mail number)) (b (Mail number)) (same.0 number); instances = same_attachments parts rows a b same.1 }; front = f.0; had = record { was = inl f.1 }; has = synced_reads (a (Mail file)) (b (Mail file)) (same.0 file) ∙ f.1 }

    was_made : end_in file s.files.files ≡ None → (a b : DiskState) → OtherMail file a b × (option_map length (reading (a (Mail file))) ≡ end_in file s.files.files) → Keeps (b (Mail file)) header → MailTook parts rows time file a b
    was_made e a b same k = record {
      others = record { files = λ number apart. synced_reads (a (Mail number)) (b (Mail number)) (same.0.0 number apart); instances = same_attachments parts rows a b same.0.1 };
      front = header;
      had = record { was = inr (no_front (reading (a (Mail file))) (same.1 ∙ e), is) };
      has = k.reads;
    }

    by_end : (o : Option ℕ) → end_in file s.files.files ≡ o → TookMail parts rows time file before after
    by_end (Some end) e = between-if SameMail (MailTook parts rows time file) (λ a. option_map length (reading (a (Mail file))) ≡ end_in file s.files.files) before after (was_there end e) (t.known end e) known
    by_end None e =
        between-since (λ a b. OtherMail file a b × (option_map length (reading (a (Mail file))) ≡ end_in file s.files.files)) (MailTook parts rows time file) (λ b. Keeps (b (Mail file)) header) before after (was_made e)
        (between-if (OtherMail file) (λ a b. OtherMail file a b × (option_map length (reading (a (Mail file))) ≡ end_in file s.files.files)) (λ a. option_map length (reading (a (Mail file))) ≡ end_in file s.files.files) before after (λ a b other k. (other, k)) t.others known)
        (t.made e)

-- behind attachments
added_took : (parts : List Detached) (rows : List InstRow) (time file : ℕ) (a b c : DiskState) → AddsOnly parts rows a b → MailTook parts rows time file b c → MailTook parts rows time file a c
added_took parts rows time file a b c adds took = record {
  others = record { files = λ number apart. took.others.files number apart ∙ adds.files number; instances = attachments_then parts rows a b c adds.instances took.others.instances };
  front = took.front;
  had = record { was = before took.had.was };
  has = took.has;
}
  where
    before : (reading (b (Mail file)) ≡ Some took.front) ⊎ ((reading (b (Mail file)) ≡ None) × (took.front ≡ written_header time)) → (reading (a (Mail file)) ≡ Some took.front) ⊎ ((reading (a (Mail file)) ≡ None) × (took.front ≡ written_header time))
    before (inl was) = inl (sym (adds.files file) ∙ was)
    before (inr none) = inr (sym (adds.files file) ∙ none.0, none.1)

pub took_mail : {D : Type 0} → (parts : List Detached) (rows : List InstRow) (time file : ℕ) (header : List ℕ) (s : StoreValue D) (old before after : Option History) → header ≡ written_header time → AddedMail parts rows old before → IsAsKnown s.files.files file before → TakesWithHeader header file s before after
    → TookMail parts rows time file old after
took_mail parts rows time file header s old before after is added known t =
    between-then (AddsOnly parts rows) (MailTook parts rows time file) (MailTook parts rows time file) old before after (added_took parts rows time file) added (took_now parts rows time file header s before after is known t)

-- ---- the message is added to it

but_then : (parts : List Detached) (rows : List InstRow) (file : ℕ) (a b c : DiskState) → ReadsBut parts rows file a b → ReadsBut parts rows file b c → ReadsBut parts rows file a c
but_then parts rows file a b c first last = record { files = λ number apart. last.files number apart ∙ first.files number apart; instances = attachments_then parts rows a b c first.instances last.instances }

-- what the event that adds it does, of a file that ends at this offset
pub record Adds (file offset : ℕ) (region : List ℕ) (a b : DiskState) : Type 0 where
  pub others : OtherMail file a b
  pub added : IsAddedTo region (a (Mail file)) (b (Mail file))
  pub long : option_map length (reading (a (Mail file))) ≡ Some offset

wrote : (parts : List Detached) (rows : List InstRow) (time file offset : ℕ) (region : List ℕ) (a b c : DiskState) → MailTook parts rows time file a b → Adds file offset region b c → MailWrote parts rows time file offset region a c
wrote parts rows time file offset region a b c took adds =
    let same : took.front ≡ adds.added.before = one_octets (reading (b (Mail file))) took.front adds.added.before took.has adds.added.read in
    let f = known_front (reading (b (Mail file))) offset adds.long in
    record {
      others = but_then parts rows file a b c took.others (record { files = λ number apart. synced_reads (b (Mail number)) (c (Mail number)) (adds.others.0 number apart); instances = same_attachments parts rows b c adds.others.1 });
      front = took.front;
      had = took.had;
      long = ap length (one_octets (reading (b (Mail file))) took.front f.0 took.has f.1) ∙ f.2;
      has = adds.added.reads ∙ ap (λ (x : List ℕ). Some (x ++ region)) (sym same);
    }

pub wrote_mail : {D : Type 0} → (parts : List Detached) (rows : List InstRow) (time file offset : ℕ) (region : List ℕ) (s : StoreValue D) (old before after : Option History) → TookMail parts rows time file old before → IsAsKnown s.files.files file before → end_in file s.files.files ≡ Some offset → HasAppended region file before after
    → WroteMail parts rows time file offset region old after
wrote_mail parts rows time file offset region s old before after took known ends h =
    between-then (MailTook parts rows time file) (Adds file offset region) (MailWrote parts rows time file offset region) old before after (wrote parts rows time file offset region) took
    (between-if (λ a b. OtherMail file a b × IsAddedTo region (a (Mail file)) (b (Mail file))) (Adds file offset region) (λ a. option_map length (reading (a (Mail file))) ≡ end_in file s.files.files) before after
    (λ a b both k. record { others = both.0; added = both.1; long = k ∙ ends })
    (between-both (OtherMail file) (λ a b. IsAddedTo region (a (Mail file)) (b (Mail file))) (λ a b. OtherMail file a b × IsAddedTo region (a (Mail file)) (b (Mail file))) before after (λ a b other added. (other, added)) h.others h.added) known)

-- an event that writes to no storage file
pub took_on : (parts : List Detached) (rows : List InstRow) (time file : ℕ) (old before after : Option History) → TookMail parts rows time file old before → ReadsSameMail before after → TookMail parts rows time file old after
took_on parts rows time file old before after t same =
    between-then (MailTook parts rows time file) SameMail (MailTook parts rows time file) old before after
    (λ a b c k s. record { others = but_then parts rows file a b c k.others (record { files = λ number apart. synced_reads (b (Mail number)) (c (Mail number)) (s.0 number); instances = same_attachments parts rows b c s.1 }); front = k.front; had = k.had; has = synced_reads (b (Mail file)) (c (Mail file)) (s.0 file) ∙ k.has }) t same

pub wrote_on : (parts : List Detached) (rows : List InstRow) (time file offset : ℕ) (region : List ℕ) (old before after : Option History) → WroteMail parts rows time file offset region old before → ReadsSameMail before after → WroteMail parts rows time file offset region old after
wrote_on parts rows time file offset region old before after w same =
    between-then (MailWrote parts rows time file offset region) SameMail (MailWrote parts rows time file offset region) old before after
    (λ a b c k s. record { others = but_then parts rows file a b c k.others (record { files = λ number apart. synced_reads (b (Mail number)) (c (Mail number)) (s.0 number); instances = same_attachments parts rows b c s.1 }); front = k.front; had = k.had; long = k.long; has = synced_reads (b (Mail file)) (c (Mail file)) (s.0 file) ∙ k.has }) w same

-- ---- from before the opening

part_behind : (size offset : ℕ) (x y : List ℕ) → offset + size ≤ length x → take size (drop offset (x ++ y)) ≡ take size (drop offset x)
part_behind size offset x y le =
    ap (take size) (drop-append-le offset x y (omega (arith, le)))
    ∙ take-append-le size (drop offset x) y (let l = length-drop offset x in omega (arith, le, l))

-- a region of a file that reads as it did, or has octets more
region_as : (a b c : Option (List ℕ)) (row : MapRecord) → c ≡ b → IsSameRegion a b row → IsSameRegion a c row
region_as a b c row same h = record { first = h.first; second = h.second; in_first = h.in_first; in_second = same ∙ h.in_second; first_holds = h.first_holds; second_holds = h.second_holds; same = h.same }

region_more : (a b c : Option (List ℕ)) (front region : List ℕ) (row : MapRecord) → b ≡ Some front → c ≡ Some (front ++ region) → IsSameRegion a b row → IsSameRegion a c row
region_more a b c front region row was is h =
    let same : h.second ≡ front = one_octets b h.second front h.in_second was in
    let le : row.offset + row.size ≤ length front = subst (λ (x : List ℕ). row.offset + row.size ≤ length x) same h.second_holds in
    record {
      first = h.first;
      second = front ++ region;
      in_first = h.in_first;
      in_second = is;
      first_holds = h.first_holds;
      second_holds = (let l = length-append front region in omega (arith, le, l));
      same = part_behind row.size row.offset front region le ∙ (ap (λ (x : List ℕ). take row.size (drop row.offset x)) (sym same) ∙ h.same);
    }

region_wrote : (parts : List Detached) (rows : List InstRow) (time file offset : ℕ) (region : List ℕ) (a b c : DiskState) → MailWrote parts rows time file offset region b c → (row : MapRecord) → HasSameRegion (files_of a) (files_of b) row → HasSameRegion (files_of a) (files_of c) row
region_wrote parts rows time file offset region a b c w row h = elim (cases_eq row.file file) [
  | inl own ↦ subst (λ (n : ℕ). IsSameRegion (reading (a (Mail n))) (reading (c (Mail n))) row) (sym own) (by_front (subst (λ (n : ℕ). IsSameRegion (reading (a (Mail n))) (reading (b (Mail n))) row) own h) w.had.was)
  | inr apart ↦ region_as (reading (a (Mail row.file))) (reading (b (Mail row.file))) (reading (c (Mail row.file))) row (w.others.files row.file apart) h
]
  where
    by_front : IsSameRegion (reading (a (Mail file))) (reading (b (Mail file))) row → (reading (b (Mail file)) ≡ Some w.front) ⊎ ((reading (b (Mail file)) ≡ None) × (w.front ≡ written_header time)) → IsSameRegion (reading (a (Mail file))) (reading (c (Mail file))) row
    by_front k (inl was) = region_more (reading (a (Mail file))) (reading (b (Mail file))) (reading (c (Mail file))) w.front region row was w.has k
    by_front k (inr none) = absurd (let e : Some k.second ≡ None = sym k.in_second ∙ none.0 in cc e)

-- what a sweep leaves of a sealed storage file
sealed_kept : (generation : ℕ) (m : MapMeaning) (number : ℕ) (a b : DiskState) → is_sealed m number ≡ true → ((is_sealed m number || has_region m number) ≡ true → IsThere (a (Mail number)) → IsThere (b (Mail number))) → (IsThere (b (Mail number)) → IsFitted m number (a (Mail number)) (b (Mail number))) → reading (b (Mail number)) ≡ reading (a (Mail number))
sealed_kept generation m number a b sealed kept fitted = by_there (a (Mail number)).is_there (b (Mail number)).is_there refl refl
  where
    wanted : (is_sealed m number || has_region m number) ≡ true
    wanted = ap (λ (t : Bool). t || has_region m number) sealed

    read_as : (f : FileState) (t : Bool) → f.is_there ≡ t → reading f ≡ (if t then Some f.octets else None)
    read_as f t e = ap (λ (s : Bool). if s then Some f.octets else None) e

    octets : IsFitted m number (a (Mail number)) (b (Mail number)) → (b (Mail number)).octets ≡ (a (Mail number)).octets
    octets f = elim f.content [
      | inl same ↦ same.octets
      | inr cut ↦ absurd (let k : true ≡ false = sym sealed ∙ cut.unsealed in cc k)
    ]

    by_there : (s t : Bool) → (a (Mail number)).is_there ≡ s → (b (Mail number)).is_there ≡ t → reading (b (Mail number)) ≡ reading (a (Mail number))
    by_there s true e f =
        let fit = fitted f in
        read_as (b (Mail number)) true f ∙ (ap (λ (x : List ℕ). Some x) (octets fit) ∙ sym (read_as (a (Mail number)) true fit.was))
    by_there true false e f = absurd (let k : true ≡ false = sym (kept wanted e) ∙ f in cc k)
    by_there false false e f = read_as (b (Mail number)) false f ∙ sym (read_as (a (Mail number)) false e)

-- the file of an instance is there
abbrev pub IsNamedThere : DiskState → InstRow → Type 0
IsNamedThere disk inst = reading (disk (Inst inst.hash.0 inst.id.0)) ≡ None → ⊥

-- so that it isn't one that was added
instance_kept : (parts : List Detached) (rows : List InstRow) (a b c : DiskState) (inst : InstRow) → AddsAttachments parts rows b c → IsNamedThere b inst → HasSameInstance (files_of a) (files_of b) inst → HasSameInstance (files_of a) (files_of c) inst
instance_kept parts rows a b c inst adds there h = by_case (adds inst.hash.0 inst.id.0)
  where
    by_case : SameOrNew parts rows inst.hash.0 inst.id.0 (reading (b (Inst inst.hash.0 inst.id.0))) (reading (c (Inst inst.hash.0 inst.id.0))) → reading (c (Inst inst.hash.0 inst.id.0)) ≡ reading (a (Inst inst.hash.0 inst.id.0))
    by_case (inl same) = same ∙ h
    by_case (inr new) = absurd (there new.none)

pub wrote_message : (parts : List Detached) (rows : List InstRow) (time generation : ℕ) (region : List ℕ) (m : MapMeaning) (files : FilesValue) (at : SavedAt) (old mid new : Option History) → IsSwept generation m old mid → IsAsKnown files.files at.file.0 mid → IfTold mid (λ b. All (λ row. All (IsNamedThere b) row.instances) m.records) → (is_sealed m at.file.0 ≡ true → ⊥) → WroteMail parts rows time at.file.0 at.offset region mid new → WroteMessage time region m files at old new
wrote_message parts rows time generation region m files at old mid new swept known there unsealed w = record {
  ends = told (MailWrote parts rows time at.file.0 at.offset region) (λ b. EndsWith at.offset region (b (Mail at.file.0))) mid new w (λ a b k. record { before = k.front; long = k.long; reads = k.has });
  begun = λ none. told (λ a b. MailWrote parts rows time at.file.0 at.offset region a b × (option_map length (reading (a (Mail at.file.0))) ≡ end_in at.file.0 files.files)) (λ b. reading (b (Mail at.file.0)) ≡ Some (written_header time ++ region)) mid new
      (between-if (MailWrote parts rows time at.file.0 at.offset region) (λ a b. MailWrote parts rows time at.file.0 at.offset region a b × (option_map length (reading (a (Mail at.file.0))) ≡ end_in at.file.0 files.files)) (λ a. option_map length (reading (a (Mail at.file.0))) ≡ end_in at.file.0 files.files) mid new (λ a b k n. (k, n)) w known)
      (λ a b k. begun_with a b k.0 (no_front (reading (a (Mail at.file.0))) (k.1 ∙ none)));
  regions = between-then _ (MailWrote parts rows time at.file.0 at.offset region) _ old mid new (λ a b c carry k. All-weaker (HasSameRegion (files_of a) (files_of b)) (HasSameRegion (files_of a) (files_of c)) (λ row h. region_wrote parts rows time at.file.0 at.offset region a b c k row h) m.records carry.regions) swept.reads w;
  instances = between-then _ (λ b c. MailWrote parts rows time at.file.0 at.offset region b c × All (λ row. All (IsNamedThere b) row.instances) m.records) _ old mid new
      (λ a b c carry k. λ n row lt j inst within. instance_kept parts rows a b c (get_or (get_or m.records n row).instances j inst) k.0.others.instances (k.1 n row lt j inst within) (carry.instances n row lt j inst within)) swept.reads
      (between-if (MailWrote parts rows time at.file.0 at.offset region) (λ b c. MailWrote parts rows time at.file.0 at.offset region b c × All (λ row. All (IsNamedThere b) row.instances) m.records) (λ b. All (λ row. All (IsNamedThere b) row.instances) m.records) mid new (λ b c k n. (k, n)) w there);
  sealed = between-then (λ a b. (number : ℕ) → is_sealed m number ≡ true → reading (b (Mail number)) ≡ reading (a (Mail number))) (MailWrote parts rows time at.file.0 at.offset region) _ old mid new
      (λ a b c same k number sealed. k.others.files number (λ e. unsealed (subst (λ (n : ℕ). is_sealed m n ≡ true) e sealed)) ∙ same number sealed)
      (between-both _ _ (λ a b. (number : ℕ) → is_sealed m number ≡ true → reading (b (Mail number)) ≡ reading (a (Mail number))) old mid (λ a b kept fitted number sealed. sealed_kept generation m number a b sealed (λ is there. kept (Mail number) is there) (λ there. fitted number there)) swept.kept swept.mail) w;
}
  where
    told : (R : DiskState → DiskState → Type 0) (P : DiskState → Type 0) (before after : Option History) → Between R before after → ((a b : DiskState) → R a b → P b) → IfTold after P
    told R P None after k f = subst (λ (h : Option History). IfTold h P) (sym k) tt
    told R P (Some a) None k f = tt
    told R P (Some a) (Some b) k f = f a.now b.now k

    begun_with : (a b : DiskState) → MailWrote parts rows time at.file.0 at.offset region a b → reading (a (Mail at.file.0)) ≡ None → reading (b (Mail at.file.0)) ≡ Some (written_header time ++ region)
    begun_with a b k none = elim k.had.was [
      | inl was ↦ absurd (let e : Some k.front ≡ None = sym was ∙ none in cc e)
      | inr made ↦ k.has ∙ ap (λ (x : List ℕ). Some (x ++ region)) made.1
    ]
