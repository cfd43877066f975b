-- What a log that was read says.
use Rattle.std.proofs.Common.{◌≡◌, ◌+◌, ℕ, List, [], ◌∷◌, ◌++◌, map, Option, Some, None, inl, inr, sym, ◌∙◌, ap, subst}
use Rattle.disk_model.specs.Disk.{DiskState, History, IfTold, reading}
use Rattle.disk_model.specs.declared.name.FileName.{FileName}
use Rattle.disk_model.proofs.MomentLemmas.{if_told-map}
use Rattle.model_logs.specs.declared.log_head.LogHead.{LogHead}
use Rattle.model_logs.specs.LogFile.{log_end, IsLog}
use Rattle.model_meaning.specs.BoxMeaning.{BoxMeaning}
use Rattle.box_index.specs.State.{BoxState}
use Rattle.model_meaning.specs.MapMeaning.{MapBox, MapMeaning}
use Rattle.model_logs.specs.Entries.{box_text}
use Rattle.model_store.specs.Settled.{files_of}
use Rattle.model_store.specs.Stands.{HasLog}
use Rattle.model_store.specs.Opening.{AreBoxEntries, IsBadLog}
use Rattle.gate_log.specs.Reading.{IsReading}
use Rattle.gate_log.specs.State.{InspectedLog}
use Rattle.gate_log.specs.Log.{IsFound}
use Rattle.gate_log.specs.declared.read.LogRead.{LogRead}
use Rattle.map_index.specs.Shown.{shown_box}
use Rattle.map_index.specs.declared.rows.BoxAt.{BoxAt}
use Rattle.store_checks.specs.Dangling.{IsFirstDangling}
use Rattle.store_checks.specs.Boxes.{box_file, box_head, FailsBox, IsBoxCause, IsFoundAs}
use Rattle.store_checks.specs.Replays.{IsBoxReplay, RefusesBox}
use Rattle.store_checks.specs.Logs.{IsBadReplay, IsLogCause}
use Rattle.store_checks.specs.declared.error.CheckError.{CheckError}
use Rattle.store_checks.specs.declared.error.CheckError.TheVariants as check

-- the file is this log
pub has_log : (name : FileName) (head : LogHead) (octets : List ℕ) (read : LogRead) (texts : List (List ℕ)) (old : Option History) → IsReading octets read → read.head ≡ head → read.entries ≡ texts
    → IfTold old (λ disk. reading (disk name) ≡ Some octets) → IfTold old (λ disk. HasLog (files_of disk) name head texts)
has_log name head octets read texts old r h e told =
    let whole : IsLog octets head texts = subst (λ (ts : List (List ℕ)). IsLog octets head ts) e (subst (λ (o : LogHead). IsLog octets o read.entries) h r.log) in
    if_told-map _ _ old (λ disk there. record { octets = octets; there = there; whole = whole }) told

pub found_as : (found : InspectedLog) (name : FileName) (head : LogHead) (entries texts : List (List ℕ)) (now : Option History) → (found.name ≡ name) × (found.head ≡ head) → entries ≡ texts → IfTold now (IsFound found entries) → IsFoundAs found name head texts now
found_as found name head entries texts now l e s = record { name_is = l.0; head_is = l.1; stands = subst (λ (ts : List (List ℕ)). IfTold now (IsFound found ts)) e s }

-- ---- a log whose entries can't all be replayed is bad

-- what a value says of the texts that it is made of
pub record Tells {E V : Type 0} (text : E → List ℕ) (AreGood : List E → Type 0) (Refuses : V → List ℕ → Type 0) (value : V) (texts : List (List ℕ)) : Type 0 where
  pub entries : List E
  pub texts_are : texts ≡ map text entries
  pub good : AreGood entries
  pub none : (bad : List ℕ) → Refuses value bad → (entry : E) → bad ≡ text entry → AreGood (entries ++ entry ∷ []) → ⊥

pub bad_log : {E V : Type 0} → (text : E → List ℕ) (AreGood : List E → Type 0) (IsReplay : V → List (List ℕ) → Type 0) (Refuses : V → List ℕ → Type 0) (value : V) (head : LogHead) (octets : Option (List ℕ)) (place : ℕ)
    → ((texts : List (List ℕ)) → IsReplay value texts → Tells text AreGood Refuses value texts) → IsBadReplay IsReplay Refuses value head octets place → IsBadLog text AreGood head octets place
bad_log text AreGood IsReplay Refuses value head None place tells bad = bad
bad_log text AreGood IsReplay Refuses value head (Some octets) place tells (inl d) = inl d
bad_log text AreGood IsReplay Refuses value head (Some octets) place tells (inr r) =
    let t = tells r.before r.replayed in
    inr (record {
      before = t.entries;
      bad = r.bad;
      behind = r.behind;
      whole = subst (λ (ts : List (List ℕ)). IsLog octets head (ts ++ r.bad ∷ r.behind)) t.texts_are r.whole;
      good = t.good;
      no_entry = t.none r.bad r.refused;
      is = r.is ∙ ap (λ (ts : List (List ℕ)). log_end ts + 1) t.texts_are;
    })

-- a mailbox log's entries make this value, and this text is refused behind them
abbrev IsReplay : BoxState → List (List ℕ) → Type 0
IsReplay value texts = IsBoxReplay value.meaning texts

abbrev Refuses : BoxState → List ℕ → Type 0
Refuses value text = RefusesBox value.meaning text

box_tells : (value : BoxState) (texts : List (List ℕ)) → IsReplay value texts → Tells box_text AreBoxEntries Refuses value texts
box_tells value texts f = record { entries = f.entries; texts_are = f.texts_are; good = f.good; none = λ bad refused entry is good. refused f.entries entry f.meaning is good }

-- ---- mailboxes

at_box : (P : BoxAt → Type 0) (at : BoxAt) (mailbox : MapBox) → shown_box mailbox ≡ at → P at → P (shown_box mailbox)
at_box P at mailbox e p = subst P (sym e) p

-- why a mailbox log wasn't read
pub box_cause : (m : MapMeaning) (store : List ℕ) (at : BoxAt) (value : BoxState) (old : Option History) (error : CheckError) → m.store ≡ store
    → IsLogCause IsReplay Refuses value (box_file at) (box_head store at) old error → IsBoxCause m at old error
box_cause m store at value old (check.Damaged name place) same (is, bad) = (
  is,
  λ mailbox e.
      let bad' = at_box (λ (a : BoxAt). IfTold old (λ (disk : DiskState). IsBadReplay IsReplay Refuses value (box_head store a) (reading (disk (box_file a))) place)) at mailbox e bad in
      let bad'' = subst (λ (s : List ℕ). IfTold old (λ (disk : DiskState). IsBadReplay IsReplay Refuses value (box_head s (shown_box mailbox)) (reading (disk (box_file (shown_box mailbox)))) place)) (sym same) bad' in
      if_told-map _ _ old (λ disk b. inl (bad_log box_text AreBoxEntries IsReplay Refuses value (box_head m.store (shown_box mailbox)) (reading (disk (box_file (shown_box mailbox)))) place (box_tells value) b)) bad'',
)
box_cause m store at value old check.NoStore same c = c
box_cause m store at value old check.DiskFault same c = c
box_cause m store at value old check.NoMemory same c = c

-- a message without its record
pub lacks_record : (m : MapMeaning) (store : List ℕ) (at : BoxAt) (value : BoxMeaning) (texts : List (List ℕ)) (place : ℕ) (old : Option History) → m.store ≡ store
    → (f : IsBoxReplay value texts) → IsFirstDangling m value texts place → IfTold old (λ disk. HasLog (files_of disk) (box_file at) (box_head store at) texts)
    → (mailbox : MapBox) → shown_box mailbox ≡ at → IfTold old (λ disk. FailsBox (files_of disk) m mailbox place)
lacks_record m store at value texts place old same f first log mailbox e =
    let log' = at_box (λ (a : BoxAt). IfTold old (λ (disk : DiskState). HasLog (files_of disk) (box_file a) (box_head store a) texts)) at mailbox e log in
    let dangling = first f.entries f.texts_are f.good f.meaning in
    if_told-map _ _ old
    (λ disk has. inr (record {
      entries = f.entries;
      log = record {
        log = subst (λ (ts : List (List ℕ)). HasLog (files_of disk) (box_file (shown_box mailbox)) (box_head m.store (shown_box mailbox)) ts) f.texts_are
            (subst (λ (s : List ℕ). HasLog (files_of disk) (box_file (shown_box mailbox)) (box_head s (shown_box mailbox)) texts) (sym same) has);
        in_range = f.good.0;
        fit = f.good.1;
      };
      bare = dangling.0;
      least = dangling.1;
    }))
    log'
