-- The repair of a log in force keeps the store.
use Rattle.std.proofs.Common.{inl, inr, ◌≡◌, ◌≢◌, ℕ, ◌++◌, ◌∷◌, [], true, Bool, List, Option, Some, None, All, refl, sym, ◌∙◌, ap, subst}
use Rattle.std.proofs.lemmas.List.Elements.{All-contains}
use Rattle.std.specs.Prelude.{Contains}
use Rattle.std.proofs.lemmas.Bool.{cases_Bool, true≢false}
use Rattle.std.proofs.lemmas.Option.{same_Some}
use Rattle.disk_model.specs.Disk.{Files, FileState, DiskState, History, IfTold, MayLeave, EachImage, OthersStay, SameButFor, IsThere, Keeps, reading, named, after, change_all}
use Rattle.disk_model.specs.Name.{same_name}
use Rattle.disk_model.specs.declared.name.FileName.{FileName}
use Rattle.disk_model.specs.declared.name.FileName.TheVariants as file
use Rattle.disk_model.proofs.NameLemmas.{same_name-true, same_name-eq}
use Rattle.disk_model.proofs.MomentLemmas.{each_image-map}
use Rattle.model_logs.specs.declared.log_head.LogHead.{LogHead}
use Rattle.model_logs.specs.LogFile.{IsLog, IsLogFile, log_front, HeadFits, EntryFits, EndsLog}
use Rattle.model_logs.proofs.LogFileLemmas.{one_log}
use Rattle.model_meaning.specs.MapMeaning.{MapBox, MapMeaning}
use Rattle.model_store.specs.Carrying.{HasSameEntries, CarryOver, CarriesOver}
use Rattle.model_store.proofs.CarryingLemmas.{each_name}
use Rattle.gate_log.specs.State.{LogState, InspectedLog}
use Rattle.gate_log.specs.Log.{IsFound, IsFoundKept, IsLogRead, IsLogHeld, Reads, Holds, log_text}
use Rattle.store_sweep.specs.Held.{IsHeldLog, IsHeldAt, IsHeldStore, IsReadStore}
use Rattle.store_sweep.specs.Moments.{ImagesCarry, KeepsStore, SameWhere, SameThere, LogStays}
use Rattle.store_sweep.specs.Repaired.{IsRepaired}
use Rattle.store_sweep.proofs.HeldLemmas.{left_at, reads_some, named_reads, named_keeps}

-- ---- the names of the logs in force

-- What is held and read of this name is a log.
pub record IsLogAt (g : ℕ) (m : MapMeaning) (name : FileName) : Type 0 where
  pub held : (found : Files) (f : FileState) → IsHeldAt g m found name f → IsHeldLog (found name) f
  pub holds : (found : Files) (f : FileState) → IsHeldLog (found name) f → IsHeldAt g m found name f
  pub read : (found : Files) (left : Option (List ℕ)) → CarriesOver g m found name left → HasSameEntries (found name) left
  pub reads : (found : Files) (left : Option (List ℕ)) → HasSameEntries (found name) left → CarriesOver g m found name left

pub root_log : (g : ℕ) (m : MapMeaning) → IsLogAt g m file.Root
root_log g m = record { held = λ found f h. h; holds = λ found f h. h; read = λ found left h. h; reads = λ found left h. h }

pub map_log : (g : ℕ) (m : MapMeaning) → IsLogAt g m (file.Map g)
map_log g m = record { held = λ found f h. h refl; holds = λ found f h e. h; read = λ found left h. h refl; reads = λ found left h e. h }

pub box_log : (g : ℕ) (m : MapMeaning) (box : MapBox) → Contains m.boxes box → IsLogAt g m (file.Box box.number box.generation)
box_log g m box among = record {
  held = λ found f h. All-contains (λ (b : MapBox). b.number ≡ box.number → b.generation ≡ box.generation → IsHeldLog (found (file.Box box.number box.generation)) f) m.boxes box h among refl refl;
  holds = λ found f h. λ k d below a b. h;
  read = λ found left h. All-contains (λ (b : MapBox). b.number ≡ box.number → b.generation ≡ box.generation → HasSameEntries (found (file.Box box.number box.generation)) left) m.boxes box h among refl refl;
  reads = λ found left h. λ k d below a b. h;
}

-- ---- one log

standing_log : (head : LogHead) (entries : List (List ℕ)) (gate : ℕ) (rest : List ℕ) → HeadFits head → All EntryFits entries → EndsLog gate rest → IsLog (log_front head entries ++ gate ∷ rest) head entries
standing_log head entries gate rest head_fits entries_fit ends = record { head_fits = head_fits; entries_fit = entries_fit; gate = gate; behind = rest; spelled = refl; ends = ends }

text_log : (head : LogHead) (entries : List (List ℕ)) → HeadFits head → All EntryFits entries → IsLog (log_text head entries) head entries
text_log head entries head_fits entries_fit = standing_log head entries 0 [] head_fits entries_fit (inr refl)

log_of : (found : InspectedLog) (entries : List (List ℕ)) (disk : DiskState) → (h : IsFound found entries disk) → IsLog (log_front found.head entries ++ found.gate ∷ h.rest) found.head entries
log_of found entries disk h = standing_log found.head entries found.gate h.rest h.stands.head_fits h.stands.entries_fit h.stands.ends

-- a log of the same entries carries over what a log of them does
same_log : (was : Option (List ℕ)) (octets : List ℕ) (left : Option (List ℕ)) (head : LogHead) (entries : List (List ℕ)) → HasSameEntries was (Some octets) → IsLog octets head entries → IsLogFile left head entries → HasSameEntries was left
same_log was octets left head entries same is log = λ h es l.
    let one = one_log octets h head es entries (same h es l) is in
    subst (λ (k : LogHead). IsLogFile left k es) (sym one.0) (subst (λ (xs : List (List ℕ)). IsLogFile left head xs) (sym one.1) log)

kept_found : (g : ℕ) (m : MapMeaning) (was : Files) (found : InspectedLog) (entries : List (List ℕ)) (disk : DiskState) → IsLogAt g m found.name → IsFound found entries disk → IsHeldStore g m was disk → IsFoundKept found entries disk
kept_found g m was found entries disk at h k =
    let own : IsHeldLog (was found.name) (disk found.name) = at.held was (disk found.name) (k found.name) in
    let e : own.octets ≡ log_front found.head entries ++ found.gate ∷ h.rest = same_Some _ _ (sym own.keeps.reads ∙ h.stands.reads) in
    record { count = h.count; rest = h.rest; behind = h.behind; kept = record { stands = h.stands; keeps = subst (Keeps (disk found.name)) e own.keeps } }

-- where the store is held, the log is
pub repair_kept : (g : ℕ) (m : MapMeaning) (was : Files) (found : InspectedLog) (entries : List (List ℕ)) (old : Option History) → IsLogAt g m found.name → IfTold old (IsFound found entries) → IfTold old (IsHeldStore g m was) → IfTold old (IsFoundKept found entries)
repair_kept g m was found entries None at h k = tt
repair_kept g m was found entries (Some old) at h k = kept_found g m was found entries old.now at h k

-- the octets that are held are those of the log
held_same : (g : ℕ) (m : MapMeaning) (was : Files) (found : InspectedLog) (entries : List (List ℕ)) (disk : DiskState) (left : Option (List ℕ)) → IsLogAt g m found.name → IsFound found entries disk → IsHeldStore g m was disk
    → IsLogFile left found.head entries → HasSameEntries (was found.name) left
held_same g m was found entries disk left at h k log =
    let own : IsHeldLog (was found.name) (disk found.name) = at.held was (disk found.name) (k found.name) in
    let e : own.octets ≡ log_front found.head entries ++ found.gate ∷ h.rest = same_Some _ _ (sym own.keeps.reads ∙ h.stands.reads) in
    same_log (was found.name) own.octets left found.head entries own.same (subst (λ (o : List ℕ). IsLog o found.head entries) (sym e) (log_of found entries disk h)) log

-- by name: that of the log, or another
by_name : (P : FileName → Type 0) (name : FileName) → P name → ((other : FileName) → other ≢ name → P other) → (n : FileName) → P n
by_name P name own others n = elim (cases_Bool (same_name n name)) [
  | inl same ↦ subst P (sym (same_name-true n name same)) own
  | inr apart ↦ others n (λ e. true≢false (sym (same_name-eq n name e) ∙ apart))
]

image_of : (g : ℕ) (m : MapMeaning) (was : Files) (found : InspectedLog) (entries : List (List ℕ)) (disk : DiskState) (image : Files) → IsLogAt g m found.name → IsFound found entries disk → IsHeldStore g m was disk
    → IsLogFile (image found.name) found.head entries → ((other : FileName) → other ≢ found.name → MayLeave (disk other) (image other)) → CarryOver g m was image
image_of g m was found entries disk image at h k log others =
    each_name g m was image
    (by_name (λ (n : FileName). CarriesOver g m was n (image n)) found.name
    (at.reads was (image found.name) (held_same g m was found entries disk (image found.name) at h k log))
    (λ other apart. left_at g m was other (disk other) (image other) (k other) (others other apart)))

pub repair_images : (g : ℕ) (m : MapMeaning) (found : InspectedLog) (entries : List (List ℕ)) (old new : Option History) → IsLogAt g m found.name → IfTold old (IsFound found entries)
    → ((es : List (List ℕ)) → IfTold old (IsFoundKept found es) → EachImage (λ _ image. IsLogFile (image found.name) found.head es × OthersStay found.name old image) old new) → ImagesCarry g m old new
repair_images g m found entries None new at h each was k = each entries tt
repair_images g m found entries (Some old) new at h each was k =
    each_image-map (λ _ image. IsLogFile (image found.name) found.head entries × OthersStay found.name (Some old) image) (λ _ image. CarryOver g m was image) (Some old) new
    (λ moment image is. image_of g m was found entries old.now image at h k is.0 is.1)
    (each entries (kept_found g m was found entries old.now at h k))

-- ---- after it

holds_after : (g : ℕ) (m : MapMeaning) (was : Files) (found : InspectedLog) (log : LogState) (entries : List (List ℕ)) (old new : DiskState) → IsLogAt g m found.name → log ≡ record { name = found.name; head = found.head; end = found.end; count = found.count; room = 0 }
    → IsFound found entries old → ((other : FileName) → other ≢ found.name → new other ≡ old other) → IsLogHeld log entries new → IsHeldStore g m was old → IsHeldStore g m was new
holds_after g m was found log entries old new at is h same held k =
    let there : IsLogHeld (record { name = found.name; head = found.head; end = found.end; count = found.count; room = 0 }) entries new = subst (λ (l : LogState). IsLogHeld l entries new) is held in
    by_name (λ (n : FileName). IsHeldAt g m was n (new n)) found.name
    (at.holds was (new found.name) (record {
      octets = log_text found.head entries;
      keeps = there.keeps;
      same = held_same g m was found entries old (Some (log_text found.head entries)) at h k (text_log found.head entries there.reads.head_fits there.reads.entries_fit);
    }))
    (λ other apart. subst (IsHeldAt g m was other) (sym (same other apart)) (k other))

reads_after : (g : ℕ) (m : MapMeaning) (was : Files) (found : InspectedLog) (log : LogState) (entries : List (List ℕ)) (old new : DiskState) → IsLogAt g m found.name → log ≡ record { name = found.name; head = found.head; end = found.end; count = found.count; room = 0 }
    → IsFound found entries old → ((other : FileName) → other ≢ found.name → new other ≡ old other) → IsLogRead log entries new → IsReadStore g m was old → IsReadStore g m was new
reads_after g m was found log entries old new at is h same read k =
    let there : IsLogRead (record { name = found.name; head = found.head; end = found.end; count = found.count; room = 0 }) entries new = subst (λ (l : LogState). IsLogRead l entries new) is read in
    let before : HasSameEntries (was found.name) (Some (log_front found.head entries ++ found.gate ∷ h.rest)) =
    subst (HasSameEntries (was found.name)) h.stands.reads (at.read was (reading (old found.name)) (k found.name)) in
    by_name (λ (n : FileName). CarriesOver g m was n (reading (new n))) found.name
    (at.reads was (reading (new found.name))
    (subst (HasSameEntries (was found.name)) (sym there.file)
    (same_log (was found.name) (log_front found.head entries ++ found.gate ∷ h.rest) (Some (log_text found.head entries)) found.head entries before (log_of found entries old h) (text_log found.head entries there.head_fits there.entries_fit))))
    (λ other apart. subst (λ (f : FileState). CarriesOver g m was other (reading f)) (sym (same other apart)) (k other))

pub repair_keeps : (g : ℕ) (m : MapMeaning) (found : InspectedLog) (log : LogState) (entries : List (List ℕ)) (old new : Option History) → IsLogAt g m found.name → IfTold old (IsFound found entries) → SameButFor found.name old new → IsRepaired old new found log → KeepsStore g m old new
repair_keeps g m found log entries None None at h same r = record { holds = λ was k. tt; reads = λ was k. tt; told = λ t. t }
repair_keeps g m found log entries None (Some new) at h same r = absurd (let e : Some new ≡ None = same in cc)
repair_keeps g m found log entries (Some old) None at h same r = elim same [ ]
repair_keeps g m found log entries (Some old) (Some new) at h same r = record {
  holds = λ was k. holds_after g m was found log entries old.now new.now at r.is h same (r.holds entries (kept_found g m was found entries old.now at h k)) k;
  reads = λ was k. reads_after g m was found log entries old.now new.now at r.is h same (r.reads entries h) k;
  told = λ t. tt;
}

-- each file is there as before
pub repaired_there : (found : InspectedLog) (log : LogState) (entries : List (List ℕ)) (old new : Option History) → IfTold old (IsFound found entries) → SameButFor found.name old new → IsRepaired old new found log → SameThere old new
repaired_there found log entries None new h same r = same
repaired_there found log entries (Some old) None h same r = elim same [ ]
repaired_there found log entries (Some old) (Some new) h same r =
    let read : IsLogRead log entries new.now = r.reads entries h in
    let named : log.name ≡ found.name = ap (λ (l : LogState). l.name) r.is in
    let F : FileName → Type 0 = λ n. IsThere (new.now n) in
    let there : IsThere (new.now found.name) = subst F named (reads_some (new.now log.name) (log_text log.head entries) read.file) in
    by_name (λ (n : FileName). (new.now n).is_there ≡ (old.now n).is_there) found.name
    (there ∙ sym (reads_some (old.now found.name) (log_front found.head entries ++ found.gate ∷ h.rest) h.stands.reads))
    (λ other apart. ap (λ (f : FileState). f.is_there) (same other apart))

-- ---- a log that stays as it is repaired

stays_reads : (log : LogState) (entries : List (List ℕ)) (old new : Option History) → LogStays log.name old new → Reads log entries old → Reads log entries new
stays_reads log entries None None stays h = tt
stays_reads log entries None (Some new) stays h = absurd (let e : Some new ≡ None = stays in cc)
stays_reads log entries (Some old) None stays h = elim stays [ ]
stays_reads log entries (Some old) (Some new) stays h = record { file = stays.0 ∙ h.file; end = h.end; count = h.count; head_fits = h.head_fits; entries_fit = h.entries_fit }

stays_holds : (log : LogState) (entries : List (List ℕ)) (old new : Option History) → LogStays log.name old new → Holds log entries old → Holds log entries new
stays_holds log entries None None stays h = tt
stays_holds log entries None (Some new) stays h = absurd (let e : Some new ≡ None = stays in cc)
stays_holds log entries (Some old) None stays h = elim stays [ ]
stays_holds log entries (Some old) (Some new) stays h = record {
  reads = record { file = stays.0 ∙ h.reads.file; end = h.reads.end; count = h.reads.count; head_fits = h.reads.head_fits; entries_fit = h.reads.entries_fit };
  keeps = stays.1 _ h.keeps;
}

-- a log that was repaired, and then stays
pub repaired_stays : (found : InspectedLog) (log : LogState) (old now new : Option History) → LogStays found.name now new → IsRepaired old now found log → IsRepaired old new found log
repaired_stays found log old now new stays r =
    let own : LogStays log.name now new = subst (λ (l : LogState). LogStays l.name now new) (sym r.is) stays in
    record {
      is = r.is;
      reads = λ entries h. stays_reads log entries now new own (r.reads entries h);
      holds = λ entries h. stays_holds log entries now new own (r.holds entries h);
    }

pub stays_then : (name : FileName) (old now new : Option History) → LogStays name old now → LogStays name now new → LogStays name old new
stays_then name None None new first second = second
stays_then name None (Some now) new first second = absurd (let e : Some now ≡ None = first in cc)
stays_then name (Some old) None new first second = elim first [ ]
stays_then name (Some old) (Some now) None first second = second
stays_then name (Some old) (Some now) (Some new) first second = (second.0 ∙ first.0, λ octets k. second.1 octets (first.1 octets k))

same_stays : (f g : FileState) → g ≡ f → (reading g ≡ reading f) × ((octets : List ℕ) → Keeps f octets → Keeps g octets)
same_stays f g e = (ap reading e, λ octets k. subst (λ (h : FileState). Keeps h octets) (sym e) k)

pub stays_but_for : (name other : FileName) (old new : Option History) → name ≢ other → SameButFor other old new → LogStays name old new
stays_but_for name other None new apart same = same
stays_but_for name other (Some old) None apart same = same
stays_but_for name other (Some old) (Some new) apart same = same_stays (old.now name) (new.now name) (same name apart)

pub stays_where : (test : FileName → Bool) (name : FileName) (old new : Option History) → test name ≡ true → SameWhere test old new → LogStays name old new
stays_where test name None new passes same = same
stays_where test name (Some old) None passes same = same
stays_where test name (Some old) (Some new) passes same = same_stays (old.now name) (new.now name) (same name passes)

pub stays_named : (name : FileName) (old new : Option History) → new ≡ after (change_all named) old → LogStays name old new
stays_named name None new is = is
stays_named name (Some old) new is = subst (LogStays name (Some old)) (sym is) (named_reads (old.now name), λ octets k. named_keeps (old.now name) octets k)
