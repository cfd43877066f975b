-- Switching a storage file, by the entry that a caller hands in.
use Rattle.store_core.proofs.Common.{◌≡◌, ◌==◌, ◌≤◌, ◌+◌, ◌-◌, ℕ, true, false, List, [], ◌∷◌, ◌++◌, map, length, Option, Some, refl, sym, ◌∙◌, ap, subst, History, IfTold, SameButFor, LogState, IsSameLog, Reads, Holds, MapEntry, MapPlace, FileNo, MapUid, Lists, map_text, MapInRange, MapFits}
use Rattle.store_core.proofs.Common.{MapRecord, MapMeaning, map_applied, record_at, IsSettledFor, Leaves, MailFile, FilesValue, AreFilesInOrder, is_emptied_in, made_doomed, found_holds, equal_is, AddsText, number_beside, due_at, leak_at, listed_at, KeepsStored, KeepsFirm, KeepsMadeLogs, IsStore}
use Rattle.store_core.proofs.Common.{HasKnownInstances, StoreValue}
use Rattle.mdbox_base.specs.declared.entries.MapEntry.TheVariants as entry
use Rattle.storage_files.proofs.UseLemmas.{found-emptied}
use Rattle.store_core.specs.Dues.{IsSpared}
use Rattle.store_core.specs.Switching.{Switches, PlacesLieBelow, HasCopies, HasCopiesSynced, dues_switched}
use Rattle.store_core.proofs.BoxCrashLemmas.{ReadsImage}
use Rattle.store_core.proofs.DueChangeLemmas.{as_many}
use Rattle.store_core.proofs.DueLemmas.{dues_each}
use Rattle.store_core.proofs.KeptFileLemmas.{with_change}
use Rattle.store_core.proofs.KnownInstanceLemmas.{firm_switched, instances_switched}
use Rattle.store_core.proofs.MadePlaceLemmas.{made_with_map}
use Rattle.store_core.proofs.SwitchLemmas.{Switching, store_after_switch, due_stays, leak_stays, boxes_stay}
use Rattle.store_core.proofs.SwitchCrashLemmas.{leaves_switched, settled_switched, stored_switched, spared_switched}

-- the parts of the entry, and what is known of them
pub record SwitchOf {D : Type 0} (h : Option History) (v : StoreValue D) (e : MapEntry) (n : ℕ) : Type 0 where
  pub f : FileNo
  pub t : ℕ
  pub ms : List MapPlace
  pub us : List MapUid
  pub is : e ≡ entry.P f t ms us
  pub at : f.0 ≡ n
  pub ready : Switching h v f t ms us

-- what a file that is known has been drawn
file_drawn : (fs : FilesValue) (n : ℕ) → AreFilesInOrder fs → is_emptied_in n fs.files ≡ true → n ≤ fs.highest
file_drawn fs n order is =
    let f = found-emptied n fs.files is in
    let h : (f.0.file.0 ≤ fs.highest) × ((f.0.file.0 == n) ≡ true) = found_holds (λ (g : MailFile). g.file.0 == n) fs.files f.0 (λ g. g.file.0 ≤ fs.highest) f.1 order.below in
    subst (λ (k : ℕ). k ≤ fs.highest) (equal_is f.0.file.0 n h.1) h.0

of_parts : {D : Type 0} → (h : Option History) (v : StoreValue D) (e : MapEntry) (n : ℕ) → IsStore h v → v.stopped ≡ false → Switches e n → MapInRange e → MapFits v.map e → n ≤ v.drawn.file → PlacesLieBelow e v.map v.files.files v.drawn.file → HasCopies e v.map h → SwitchOf h v e n
of_parts h v (entry.P f t ms us) n s running is in_range fits drawn places copies = record {
  f = f;
  t = t;
  ms = ms;
  us = us;
  is = refl;
  at = is;
  ready = record { store = s; running = running; in_range = in_range; fits = fits; drawn_file = subst (λ (k : ℕ). k ≤ v.drawn.file) (sym is) drawn; drawn_target = places.0; below = places.1; copied = copies };
}
of_parts h v (entry.U u) n s running is in_range fits drawn places copies = absurd is
of_parts h v (entry.D us) n s running is in_range fits drawn places copies = absurd is
of_parts h v (entry.T cs) n s running is in_range fits drawn places copies = absurd is
of_parts h v (entry.S o c u f p z g is) n s running x in_range fits drawn places copies = absurd x
of_parts h v (entry.H x) n s running is in_range fits drawn places copies = absurd is
of_parts h v (entry.B b g x) n s running is in_range fits drawn places copies = absurd is
of_parts h v (entry.G b g) n s running is in_range fits drawn places copies = absurd is
of_parts h v (entry.E f) n s running is in_range fits drawn places copies = absurd is
of_parts h v (entry.X b cs) n s running is in_range fits drawn places copies = absurd is
of_parts h v (entry.V b x) n s running is in_range fits drawn places copies = absurd is

-- by what the caller sees
pub switch_of : {D : Type 0} → (h : Option History) (v now : StoreValue D) (e : MapEntry) (n : ℕ) → IsStore h v → v ≡ now → AreFilesInOrder v.files → now.stopped ≡ false → Switches e n → MapInRange e → MapFits now.map e → is_emptied_in n now.files.files ≡ true
    → PlacesLieBelow e now.map now.files.files now.drawn.file → HasCopies e now.map h → SwitchOf h v e n
switch_of h v now e n s is order running switches in_range fits emptied places copies =
    let s2 : IsStore h now = subst (IsStore h) is s in
    let o2 : AreFilesInOrder now.files = subst (λ (x : StoreValue _). AreFilesInOrder x.files) is order in
    subst (λ (x : StoreValue _). SwitchOf h x e n) (sym is)
    (of_parts h now e n s2 running switches in_range fits (subst (λ (k : ℕ). n ≤ k) s2.files.highest (file_drawn now.files n o2 emptied)) places copies)

-- ---- afterwards

pub store_call : {D : Type 0} → (old new : Option History) (v : StoreValue D) (disk : D) (log : LogState) (m : MapMeaning) (fs : FilesValue) (dues : List ℕ) (e : MapEntry) (n : ℕ) → SwitchOf old v e n → m ≡ map_applied e v.map → fs ≡ with_change n made_doomed v.files → dues ≡ dues_switched e v.map.records v.dues
    → IsSameLog v.map_log log → SameButFor v.map_log.name old new → ((texts : List (List ℕ)) → Reads v.map_log texts old → Reads log (texts ++ map_text e ∷ []) new) → IsStore new (record v { disk = disk; map_log = log; map = m; files = fs; dues = dues })
store_call old new v disk log m fs dues e n o a b c same others added =
    store_after_switch old new v disk log m fs dues o.f o.t o.ms o.us o.ready (a ∙ ap (λ (x : MapEntry). map_applied x v.map) o.is) (b ∙ ap (λ (k : ℕ). with_change k made_doomed v.files) (sym o.at)) (c ∙ ap (λ (x : MapEntry). dues_switched x v.map.records v.dues) o.is) same others
    (λ texts r. subst (λ (x : MapEntry). Reads log (texts ++ map_text x ∷ []) new) o.is (added texts r))

pub size_call : {D : Type 0} → (h : Option History) (v : StoreValue D) → IsStore h v → length v.dues ≡ length v.map.records
size_call h v s = as_many v.map.records v.dues (dues_each s.logs v.map.records v.dues s.counts)

pub leaves_call : {D : Type 0} → (old new : Option History) (v : StoreValue D) (e : MapEntry) (n : ℕ) → SwitchOf old v e n → IfTold old ReadsImage → AddsText v.map_log (map_text e) old new → (lists : Lists) → HasCopiesSynced e v.map old → IsSettledFor lists old → Leaves lists lists old new
leaves_call old new v e n o own adds lists synced settled =
    leaves_switched old new v o.f o.t o.ms o.us o.ready own (subst (λ (x : MapEntry). AddsText v.map_log (map_text x) old new) o.is adds) lists (subst (λ (x : MapEntry). HasCopiesSynced x v.map old) o.is synced) settled

pub settled_call : {D : Type 0} → (old new : Option History) (v : StoreValue D) (log : LogState) (e : MapEntry) (n : ℕ) → SwitchOf old v e n → IfTold old ReadsImage → IsSameLog v.map_log log → SameButFor v.map_log.name old new
    → ((texts : List (List ℕ)) → Holds v.map_log texts old → Holds log (texts ++ map_text e ∷ []) new) → (lists : Lists) → HasCopiesSynced e v.map old → IsSettledFor lists old → IsSettledFor lists new
settled_call old new v log e n o own same others hold lists synced settled =
    settled_switched old new v log o.f o.t o.ms o.us o.ready own same others (λ texts held. subst (λ (x : MapEntry). Holds log (texts ++ map_text x ∷ []) new) o.is (hold texts held)) lists (subst (λ (x : MapEntry). HasCopiesSynced x v.map old) o.is synced) settled

pub due_call : {D : Type 0} → (h : Option History) (v : StoreValue D) (m : MapMeaning) (dues : List ℕ) (e : MapEntry) (n uid : ℕ) → SwitchOf h v e n → m ≡ map_applied e v.map → dues ≡ dues_switched e v.map.records v.dues → number_beside uid m.records dues ≡ due_at uid v
due_call h v m dues e n uid o a c =
    ap (λ (x : MapMeaning). number_beside uid x.records dues) (a ∙ ap (λ (x : MapEntry). map_applied x v.map) o.is)
    ∙ ap (number_beside uid (map_applied (entry.P o.f o.t o.ms o.us) v.map).records) (c ∙ ap (λ (x : MapEntry). dues_switched x v.map.records v.dues) o.is)
    ∙ due_stays h v o.f o.t o.ms o.us uid o.ready

pub leak_call : {D : Type 0} → (h : Option History) (v : StoreValue D) (m : MapMeaning) (dues : List ℕ) (e : MapEntry) (n uid : ℕ) → SwitchOf h v e n → m ≡ map_applied e v.map → dues ≡ dues_switched e v.map.records v.dues
    → number_beside uid m.records (map (λ row. row.count) m.records) - (listed_at uid v + number_beside uid m.records dues) ≡ leak_at uid v
leak_call h v m dues e n uid o a c =
    ap (λ (x : MapMeaning). number_beside uid x.records (map (λ row. row.count) x.records) - (listed_at uid v + number_beside uid x.records dues)) (a ∙ ap (λ (x : MapEntry). map_applied x v.map) o.is)
    ∙ ap (λ (ns : List ℕ). number_beside uid (map_applied (entry.P o.f o.t o.ms o.us) v.map).records (map (λ row. row.count) (map_applied (entry.P o.f o.t o.ms o.us) v.map).records) - (listed_at uid v + number_beside uid (map_applied (entry.P o.f o.t o.ms o.us) v.map).records ns)) (c ∙ ap (λ (x : MapEntry). dues_switched x v.map.records v.dues) o.is)
    ∙ leak_stays h v o.f o.t o.ms o.us uid o.ready

pub boxes_call : {D : Type 0} → (h : Option History) (v : StoreValue D) (m : MapMeaning) (e : MapEntry) (n : ℕ) → SwitchOf h v e n → m ≡ map_applied e v.map → m.boxes ≡ v.map.boxes
boxes_call h v m e n o a = ap (λ (x : MapMeaning). x.boxes) (a ∙ ap (λ (x : MapEntry). map_applied x v.map) o.is) ∙ boxes_stay h v o.f o.t o.ms o.us o.ready

pub stored_call : {D : Type 0} → (old new : Option History) (v : StoreValue D) (e : MapEntry) (n : ℕ) → SwitchOf old v e n → SameButFor v.map_log.name old new → KeepsStored old new
stored_call old new v e n o same = stored_switched old new v o.f o.t o.ms o.us o.ready same

pub spared_call : {D : Type 0} → (old new : Option History) (v w : StoreValue D) (e : MapEntry) (n uid : ℕ) (row : MapRecord) → SwitchOf old v e n → w.map ≡ map_applied e v.map → SameButFor v.map_log.name old new → record_at v.map uid ≡ Some row → 1 ≤ row.count → IsSpared uid row w old new
spared_call old new v w e n uid row o a same found some = spared_switched old new v w o.f o.t o.ms o.us uid row o.ready (a ∙ ap (λ (x : MapEntry). map_applied x v.map) o.is) same found some

pub made_call : {D : Type 0} → (old new : Option History) (v w : StoreValue D) (e : MapEntry) (n : ℕ) → SwitchOf old v e n → w.map ≡ map_applied e v.map → w.drawn ≡ v.drawn → w.made ≡ v.made → w.stopped ≡ v.stopped → SameButFor v.map_log.name old new → KeepsMadeLogs old v → KeepsMadeLogs new w
made_call old new v w e n o a d made stopped same kept =
    made_with_map old new v w o.ready.store.generation o.ready.store.map_name (boxes_call old v w.map e n o a) (ap (λ (x : MapMeaning). x.store) a) d made stopped same kept

pub instances_call : {D : Type 0} → (old new : Option History) (v w : StoreValue D) (e : MapEntry) (n : ℕ) → SwitchOf old v e n → w.map ≡ map_applied e v.map → w.instances ≡ v.instances → w.drawn ≡ v.drawn → w.stopped ≡ v.stopped
    → SameButFor v.map_log.name old new → HasKnownInstances old v → HasKnownInstances new w
instances_call old new v w e n o a i d stopped same k =
    instances_switched old new v w o.ready.store.generation o.ready.store.map_name o.f o.t o.ms o.us (a ∙ ap (λ (x : MapEntry). map_applied x v.map) o.is) i d stopped same k

pub firm_call : {D : Type 0} → (old new : Option History) (v w : StoreValue D) (e : MapEntry) (n : ℕ) → SwitchOf old v e n → w.map ≡ map_applied e v.map → w.instances ≡ v.instances → SameButFor v.map_log.name old new → KeepsFirm v w old new
firm_call old new v w e n o a i same = firm_switched o.ready.store.generation old new v w o.f o.t o.ms o.us o.ready.store.map_name same i (a ∙ ap (λ (x : MapEntry). map_applied x v.map) o.is)

pub spared_as : {D : Type 0} → (w : StoreValue D) (uid : ℕ) (row : MapRecord) (a b new : Option History) → a ≡ b → IsSpared uid row w a new → IsSpared uid row w b new
spared_as w uid row a b new is s = subst (λ (h : Option History). IsSpared uid row w h new) is s
