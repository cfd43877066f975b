-- What a mailbox's log means in an open store, and the counts that a draft with the same meaning leaves.
use Rattle.std.proofs.Common.{inl, inr, ◌≡◌, ◌≤◌, ◌+◌, ◌==◌, ℕ, Bool, List, [], ◌∷◌, map, Option, Some, None, All, sym, ◌∙◌, ap, subst, arith, sum_by, count_by, if◌then◌else◌}
use Rattle.std.proofs.lemmas.Bool.{cases_Bool}
use Rattle.std.proofs.lemmas.List.Elements.{All-weaker}
use Rattle.std.specs.List.{AllByRecursion}
use Rattle.disk_model.specs.Disk.{History}
use Rattle.mdbox_base.specs.declared.entries.BoxEntry.{BoxEntry}
use Rattle.model_appends.specs.Amounts.{IsAccounted}
use Rattle.model_logs.specs.Entries.{BoxInRange}
use Rattle.model_meaning.specs.BoxMeaning.{AllBoxFit, BoxMeaning, box_meaning, rows_after}
use Rattle.model_meaning.specs.MapMeaning.{MapBox, MapMeaning, MapRecord}
use Rattle.model_meaning.specs.Sound.{IsSoundBox}
use Rattle.model_rewritten.specs.Rewriting.{IsRewrittenBox, box_snapshot}
use Rattle.model_store.specs.Listing.{meaning_numbered}
use Rattle.model_store.specs.Opening.{AreBoxEntries, HasItsRecord, listed_of}
use Rattle.store_core.proofs.BoxAppendLemmas.{store_sound}
use Rattle.store_core.proofs.DueLemmas.{listed_meant}
use Rattle.store_core.proofs.ReplacedLogLemmas.{meanings_stay}
use Rattle.store_core.specs.Drafts.{BoxDraftValue, listed_with}
use Rattle.store_core.specs.Dues.{due_at, leak_at}
use Rattle.store_core.specs.Running.{IsStore}
use Rattle.store_core.specs.Value.{StoreValue, indexes_of, list_numbered}
use Rattle.box_snapshot.specs.BoxFilled.{CanBeRewritten}

-- a log of good entries that means this, each of whose messages has its record
record IsGoodLog (mapped : MapMeaning) (m : BoxMeaning) : Type 0 where
  entries : List BoxEntry
  good : AreBoxEntries entries
  records : All (HasItsRecord mapped) (rows_after entries)
  means : m ≡ box_meaning entries

log_there : (mapped : MapMeaning) (number : ℕ) (boxes : List MapBox) (logs : List (List BoxEntry)) (m : BoxMeaning) → AllByRecursion AreBoxEntries logs → AllByRecursion (λ log. All (HasItsRecord mapped) (rows_after log)) logs
    → meaning_numbered number boxes (map box_meaning logs) ≡ Some m → IsGoodLog mapped m
log_there mapped number [] logs m good records is = absurd (cc (let h : None ≡ Some m = is in h))
log_there mapped number (b ∷ bs) [] m good records is = absurd (cc (let h : None ≡ Some m = is in h))
log_there mapped number (b ∷ bs) (l ∷ ls) m good records is = elim (cases_Bool (b.number == number)) [
  | inl here ↦
      let found : Some (box_meaning l) ≡ Some m = sym (ap (λ (t : Bool). if t then Some (box_meaning l) else meaning_numbered number bs (map box_meaning ls)) here) ∙ is in
      record { entries = l; good = good.0; records = records.0; means = cc found }
  | inr apart ↦ log_there mapped number bs ls m good.1 records.1 (sym (ap (λ (t : Bool). if t then Some (box_meaning l) else meaning_numbered number bs (map box_meaning ls)) apart) ∙ is)
]

pub can_be_written : {D : Type 0} (h : Option History) (v : StoreValue D) (number : ℕ) (m : BoxMeaning) → IsStore h v → ((entries : List BoxEntry) → AllBoxFit [] entries → AllByRecursion BoxInRange entries → IsSoundBox (box_meaning entries))
    → ((n : BoxMeaning) → IsSoundBox n → IsRewrittenBox n (box_snapshot n)) → list_numbered v number ≡ Some m → CanBeRewritten v.map m
can_be_written h v number m s sound anew is =
    let log = log_there v.map number v.map.boxes s.logs m s.good.box_entries
    (subst (λ (mapped : MapMeaning). AllByRecursion (λ log. All (HasItsRecord mapped) (rows_after log)) s.logs) (sym s.map_is) s.good.records)
    (sym (ap (meaning_numbered number v.map.boxes) s.boxes_are) ∙ is) in
    let own : IsSoundBox m = subst IsSoundBox (sym log.means) (sound log.entries log.good.1 log.good.0) in
    let written = anew m own in
    record {
      rewritten = written;
      few = let a = written.few in let b = own.room in omega (arith, a, b);
      records = subst (λ (n : BoxMeaning). All (HasItsRecord v.map) n.rows) (sym log.means) log.records;
    }

-- ---- counts

listed_same : {D : Type 0} (h : Option History) (v : StoreValue D) (draft : BoxDraftValue) (uid : ℕ) → (s : IsStore h v) → list_numbered v draft.number.0 ≡ Some draft.index.meaning → listed_with draft uid v ≡ listed_of s.logs uid
listed_same h v draft uid s is =
    ap (λ (ms : List BoxMeaning). sum_by (λ m. count_by (λ row. row.map_uid == uid) m.rows) ms)
    (meanings_stay draft.number.0 draft.index.meaning v.map.boxes (indexes_of v.boxes) (store_sound h v s).boxes_rising is ∙ s.boxes_are)
    ∙ listed_meant uid s.logs

pub counts_stay : {D : Type 0} (h : Option History) (v : StoreValue D) (draft : BoxDraftValue) → (s : IsStore h v) → list_numbered v draft.number.0 ≡ Some draft.index.meaning
    → ((logs : List (List BoxEntry)) → indexes_of v.boxes ≡ map box_meaning logs → All (IsAccounted (λ uid. due_at uid v) (λ uid. leak_at uid v) logs) v.map.records)
    → All (λ row. listed_with draft row.uid v + due_at row.uid v + leak_at row.uid v ≤ row.count) v.map.records
counts_stay h v draft s is accounted =
    All-weaker (IsAccounted (λ uid. due_at uid v) (λ uid. leak_at uid v) s.logs) (λ (row : MapRecord). listed_with draft row.uid v + due_at row.uid v + leak_at row.uid v ≤ row.count)
    (λ row made. let same = listed_same h v draft row.uid s is in omega (arith, same, made)) v.map.records (accounted s.logs s.boxes_are)
