-- What the root log and the map log say.
use Rattle.std.proofs.Common.{◌≡◌, ◌+◌, ℕ, List, [], ◌∷◌, ◌++◌, length, map, Option, Some, None, inl, inr, refl, sym, ◌∙◌, ap, subst, arith, append-nil, length-append}
use Rattle.disk_model.specs.Disk.{DiskState, History, IfTold, reading, IsIdle}
use Rattle.disk_model.specs.declared.name.FileName.TheVariants as file
use Rattle.disk_model.proofs.MomentLemmas.{if_told-all, if_told-map, if_told-both}
use Rattle.model_logs.specs.declared.log_head.LogHead.{LogHead}
use Rattle.mdbox_base.specs.declared.entries.RootEntry.{RootEntry}
use Rattle.mdbox_base.specs.declared.entries.MapEntry.{MapEntry}
use Rattle.model_meaning.specs.MapMeaning.{MapMeaning, map_meaning}
use Rattle.map_index.specs.Value.{MapIndexValue}
use Rattle.mdbox_base.specs.Words.{IsNumber}
use Rattle.model_logs.specs.LogFile.{head_octets, IsLog}
use Rattle.model_logs.proofs.LogFileLemmas.{head_length}
use Rattle.model_logs.specs.Entries.{root_text, map_text}
use Rattle.model_store.specs.Settled.{files_of}
use Rattle.model_store.specs.Stands.{HasLog}
use Rattle.model_store.specs.Opening.{HasNoEntry, root_head, IsBadLog, AreRootEntries, IsBadMapLog, AreMapEntries}
use Rattle.gate_log.specs.Reading.{IsReading}
use Rattle.gate_log.specs.State.{InspectedLog}
use Rattle.gate_log.specs.Log.{IsFound}
use Rattle.gate_log.specs.declared.read.LogRead.{LogRead}
use Rattle.disk_model.proofs.IdleLemmas.{idle-back}
use Rattle.store_checks.specs.Replays.{NamesLast, IsRootReplay, IsMapReplay, RefusesRoot, RefusesMap}
use Rattle.store_checks.specs.declared.replay.RootReplay.{RootReplay}
use Rattle.store_checks.specs.Logs.{IsBadReplay, IsLogCause}
use Rattle.store_checks.specs.Roots.{HasId, root_log_head, root_texts, map_log_head, IsRootRead, IsRootCause, IsMapRead, IsMapCause}
use Rattle.store_checks.specs.declared.error.CheckError.{CheckError}
use Rattle.store_checks.specs.declared.error.CheckError.TheVariants as check
use Rattle.store_checks.proofs.LogReadLemmas.{has_log, found_as, Tells, bad_log}

-- ---- the root log

-- a root log's entries make this value, and this text is refused behind them
abbrev IsReplay : RootReplay → List (List ℕ) → Type 0
IsReplay value texts = IsRootReplay value.last texts

abbrev Refuses : RootReplay → List ℕ → Type 0
Refuses value text = RefusesRoot text

root_tells : (value : RootReplay) (texts : List (List ℕ)) → IsReplay value texts → Tells root_text AreRootEntries Refuses value texts
root_tells value texts f = record { entries = f.entries; texts_are = f.texts_are; good = f.good; none = λ bad refused entry is good. refused f.entries entry is good }

-- why the root log wasn't read
pub root_cause : (store : List ℕ) (value : RootReplay) (old now : Option History) (error : CheckError) → IsIdle old now → IfTold old (λ disk. HasId store (files_of disk))
    → IsLogCause IsReplay Refuses value file.Root (root_log_head store) now error → IsRootCause old error
root_cause store value old now (check.Damaged name place) idle id (is, bad) = (
  is,
  if_told-both _ _ _ old
      (λ disk i b.
      let head : root_log_head store ≡ root_head i.octets = ap root_log_head i.id_is in
      record {
        octets = i.octets;
        there = i.there;
        has_entry = i.has_entry;
        bad = subst (λ (h : LogHead). IsBadLog root_text AreRootEntries h (Some i.octets) place) head
            (bad_log root_text AreRootEntries IsReplay Refuses value (root_log_head store) (Some i.octets) place (root_tells value)
            (subst (λ (o : Option (List ℕ)). IsBadReplay IsReplay Refuses value (root_log_head store) o place) i.there b));
      })
      id (idle-back (λ (disk : DiskState). IsBadReplay IsReplay Refuses value (root_log_head store) (reading (disk file.Root)) place) old now idle bad),
)
root_cause store value old now check.NoStore idle id c = absurd c
root_cause store value old now check.DiskFault idle id c = c
root_cause store value old now check.NoMemory idle id c = c

-- a root log without entries
empty_log : (octets : List ℕ) (head : LogHead) → IsLog octets head [] → HasNoEntry (Some octets)
empty_log octets head l =
    let e : octets ≡ head_octets head ++ l.gate ∷ l.behind = l.spelled ∙ ap (λ (t : List ℕ). t ++ l.gate ∷ l.behind) (append-nil (head_octets head)) in
    elim l.ends [
      | inl closed ↦ inr (record { head = head; fits = l.head_fits; gate = l.gate; behind = l.behind; spelled = e; closed = closed })
      | inr nothing ↦ inl (let n : length octets ≡ length (head_octets head) + length (l.gate ∷ l.behind) = ap length e ∙ length-append (head_octets head) (l.gate ∷ l.behind) in
          let h = head_length head l.head_fits in let b : length l.behind ≡ 0 = ap length nothing in omega (arith, n, h, b))
    ]

pub none_last : (store : List ℕ) (last : Option ℕ) (octets : List ℕ) (read : LogRead) (old now : Option History) → IsIdle old now → IsReading octets read → read.head ≡ root_log_head store → IsRootReplay last read.entries → last ≡ None
    → IfTold now (λ disk. reading (disk file.Root) ≡ Some octets) → IfTold old (λ disk. HasNoEntry (reading (disk file.Root)))
none_last store last octets read old now idle r h f e told =
    let last_is = subst (λ (l : Option ℕ). NamesLast l f.entries) e f.last_is in
    let texts : read.entries ≡ [] = f.texts_are ∙ ap (map root_text) last_is in
    let none : HasNoEntry (Some octets) = empty_log octets read.head (subst (λ (ts : List (List ℕ)). IsLog octets read.head ts) texts r.log) in
    if_told-map _ _ old (λ disk there. subst HasNoEntry (sym there) none) (idle-back (λ (disk : DiskState). reading (disk file.Root) ≡ Some octets) old now idle told)

pub root_read : (store : List ℕ) (last : Option ℕ) (generation : ℕ) (found : InspectedLog) (octets : List ℕ) (read : LogRead) (old now new : Option History) → IsIdle old now → IsReading octets read → read.head ≡ root_log_head store
    → IsRootReplay last read.entries → last ≡ Some generation → IfTold now (λ disk. reading (disk file.Root) ≡ Some octets) → (found.name ≡ file.Root) × (found.head ≡ root_log_head store) → IfTold new (IsFound found read.entries)
    → (before : List RootEntry) × IsRootRead store generation found before old new
root_read store last generation found octets read old now new idle r h f e told log stands =
    let last_is = subst (λ (l : Option ℕ). NamesLast l f.entries) e f.last_is in
    let texts : read.entries ≡ root_texts last_is.0 generation = f.texts_are ∙ ap (map root_text) last_is.1 in
    let has = idle-back (λ (disk : DiskState). HasLog (files_of disk) file.Root (root_log_head store) (root_texts last_is.0 generation)) old now idle (has_log file.Root (root_log_head store) octets read (root_texts last_is.0 generation) now r h texts told) in (
      last_is.0,
      record {
        root = if_told-map _ _ old (λ disk l. record { before = last_is.0; log = l; in_range = subst AreRootEntries last_is.1 f.good }) has;
        log = found_as found file.Root (root_log_head store) read.entries (root_texts last_is.0 generation) new log texts stands;
      },
    )

-- ---- the map log

-- a map log's entries make this value, and this text is refused behind them
abbrev IsMapReplayed : MapIndexValue → List (List ℕ) → Type 0
IsMapReplayed value texts = IsMapReplay value.meaning texts

abbrev RefusedByMap : MapIndexValue → List ℕ → Type 0
RefusedByMap value text = RefusesMap value.meaning text

map_tells : (store : List ℕ) (value : MapIndexValue) (texts : List (List ℕ)) → value.meaning.store ≡ store → IsMapReplayed value texts → Tells map_text (AreMapEntries store) RefusedByMap value texts
map_tells store value texts same f = record {
  entries = f.entries;
  texts_are = f.texts_are;
  good = subst (λ (s : List ℕ). AreMapEntries s f.entries) same f.good;
  none = λ bad refused entry is good. refused f.entries entry f.meaning is (subst (λ (s : List ℕ). AreMapEntries s (f.entries ++ entry ∷ [])) (sym same) good);
}

-- why the map log wasn't read
pub map_cause : (store : List ℕ) (generation : ℕ) (value : MapIndexValue) (old : Option History) (error : CheckError) → IsNumber generation → value.meaning.store ≡ store
    → IsLogCause IsMapReplayed RefusedByMap value (file.Map generation) (map_log_head store generation) old error → IsMapCause store generation old error
map_cause store generation value old (check.Damaged name place) number same (is, bad) = (
  is,
  if_told-map _ _ old
      (λ disk b. inr (number, bad_log map_text (AreMapEntries store) IsMapReplayed RefusedByMap value (map_log_head store generation) (reading (disk (file.Map generation))) place (λ texts f. map_tells store value texts same f) b)) bad,
)
map_cause store generation value old check.NoStore number same c = absurd c
map_cause store generation value old check.DiskFault number same c = c
map_cause store generation value old check.NoMemory number same c = c

-- no file has this generation
pub no_number : (store : List ℕ) (generation : ℕ) (old : Option History) → (IsNumber generation → ⊥) → IfTold old (λ disk. IsBadMapLog store generation (reading (disk (file.Map generation))) 0)
no_number store generation old none = if_told-all _ old (λ disk. inl (none, refl))

pub map_read : (store : List ℕ) (generation : ℕ) (m : MapMeaning) (found : InspectedLog) (octets : List ℕ) (read : LogRead) (old new : Option History) → IsNumber generation → m.store ≡ store → IsReading octets read → read.head ≡ map_log_head store generation
    → IsMapReplay m read.entries → IfTold old (λ disk. reading (disk (file.Map generation)) ≡ Some octets) → (found.name ≡ file.Map generation) × (found.head ≡ map_log_head store generation) → IfTold new (IsFound found read.entries)
    → (entries : List MapEntry) × IsMapRead store generation found m entries old new
map_read store generation m found octets read old new number same r h f told log stands = (
  f.entries,
  record {
    number = number;
    good = subst (λ (s : List ℕ). AreMapEntries s f.entries) same f.good;
    meaning = f.meaning ∙ ap (λ (s : List ℕ). map_meaning s f.entries) same;
    log = has_log (file.Map generation) (map_log_head store generation) octets read (map map_text f.entries) old r h f.texts_are told;
    found = found_as found (file.Map generation) (map_log_head store generation) read.entries (map map_text f.entries) new log f.texts_are stands;
  },
)

-- no entries yet
pub empty_map : (store : List ℕ) (m : MapMeaning) → m ≡ map_meaning store [] → IsMapReplay m []
empty_map store m e =
    let same : store ≡ m.store = sym (ap (λ (k : MapMeaning). k.store) e) in
    record { entries = []; texts_are = refl; good = (tt, tt); meaning = e ∙ ap (λ (s : List ℕ). map_meaning s []) same }
