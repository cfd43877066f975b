-- What the entry of a resync asks.
use Rattle.resync_task.proofs.Common.{◌≡◌, ◌<◌, ◌≤◌, ◌+◌, ◌==◌, ℕ, Bool, true, false, List, [], ◌∷◌, length, refl, sym, ◌∙◌, ap, subst, arith, All, sum_by, count_by, if◌then◌else◌, All-nil, All-cons, All-head, All-tail, All-contains, All-weaker, DiskState, History, Faults, MapCount, BoxEntry}
use Rattle.resync_task.proofs.Common.{LogRow, BoxMeaning, MapRecord, MapMeaning, IsSoundRecord, map_sound, listed_of, MapFits, PutsRight, corrected_map, many_corrected, wrong_beside, wrong_of, due_at, listed_at, IsStore, listed_meant, StoreValue, indexes_of}
use Rattle.std.specs.Prelude.{Option}
use Rattle.std.specs.List.{AllByRecursion}
use Rattle.disk_model.specs.declared.name.FileName.TheVariants as file
use Rattle.disk_model.proofs.BetweenLemmas.{between-begins}
use Rattle.mdbox_base.specs.declared.entries.MapEntry.TheVariants as entry
use Rattle.model_logs.specs.Entries.{MapInRange}
use Rattle.model_meaning.specs.MapMeaning.{map_applied}
use Rattle.task_steps.proofs.UnmovedLemmas.{leaves_none, mail_still}
use Rattle.resync_task.proofs.WrongCountLemmas.{IsWrong, as_right, all_wrong, fits_map, many_in_map}
use Rattle.store_core.specs.Running.{CoverDues}
use Rattle.store_core.proofs.DueLemmas.{AreNumbers, at_own_place, dues_each}
use Rattle.store_core.specs.Keeping.{KeepsRest}
use Rattle.resync_task.proofs.StoreCountLemmas.{uids_rise}

pub entry_fits : {D : Type 0} → (history : Option History) (store : StoreValue D) (counts : List MapCount) → IsStore history store → counts ≡ wrong_of store → MapFits store.map (entry.T counts)
entry_fits history store counts s e = subst (λ (cs : List MapCount). MapFits store.map (entry.T cs)) (sym e) (fits_map store.map (λ uid. listed_at uid store + due_at uid store) (uids_rise history store s))

pub entry_due : {D : Type 0} → (store : StoreValue D) (counts : List MapCount) → counts ≡ wrong_of store → All (λ given. given.count ≡ listed_at given.uid.0 store + due_at given.uid.0 store) counts
entry_due store counts e =
    subst (λ (cs : List MapCount). All (λ given. given.count ≡ listed_at given.uid.0 store + due_at given.uid.0 store) cs) (sym e)
    (All-weaker (IsWrong (λ uid. listed_at uid store + due_at uid store) store.map.records) (λ (given : MapCount). given.count ≡ listed_at given.uid.0 store + due_at given.uid.0 store) (λ given w. ap (λ (c : MapCount). c.count) w.2 ∙ sym (ap (λ (c : MapCount). listed_at c.uid.0 store + due_at c.uid.0 store) w.2)) (wrong_of store) (all_wrong (λ uid. listed_at uid store + due_at uid store) store.map.records))

pub entry_many : {D : Type 0} → (history : Option History) (store : StoreValue D) (counts : List MapCount) → IsStore history store → counts ≡ wrong_of store → many_corrected counts store.map ≡ length counts
entry_many history store counts s e = subst (λ (cs : List MapCount). many_corrected cs store.map ≡ length cs) (sym e) (many_in_map store.map (λ uid. listed_at uid store + due_at uid store) (uids_rise history store s))

-- ---- its numbers

-- a right count is at most the one that is kept, so a resync raises none
abbrev IsCovered : {D : Type 0} → StoreValue D → MapRecord → Type 0
IsCovered store row = (listed_at row.uid store + due_at row.uid store ≤ row.count) × (row.count ≤ 65535) × (row.uid ≤ 4294967294)

covered_rows : (logs : List (List BoxEntry)) (highest : ℕ) (number : ℕ → ℕ) (rows : List MapRecord) (dues : List ℕ) → CoverDues logs rows dues → AreNumbers number rows dues → All (IsSoundRecord highest) rows → All (λ row. (listed_of logs row.uid + number row.uid ≤ row.count) × (row.count ≤ 65535) × (row.uid ≤ 4294967294)) rows
covered_rows logs highest number [] dues c n s = All-nil (λ (row : MapRecord). (listed_of logs row.uid + number row.uid ≤ row.count) × (row.count ≤ 65535) × (row.uid ≤ 4294967294))
covered_rows logs highest number (r ∷ rows) [] c n s = absurd c
covered_rows logs highest number (r ∷ rows) (d ∷ dues) c n s =
    let own = All-head (IsSoundRecord highest) r rows s in
    let here : listed_of logs r.uid + d ≤ r.count = c.0 in
    let same : number r.uid ≡ d = n.0 in
    All-cons (λ (row : MapRecord). (listed_of logs row.uid + number row.uid ≤ row.count) × (row.count ≤ 65535) × (row.uid ≤ 4294967294)) r rows (omega (arith, here, same), own.count, own.uid.high)
    (covered_rows logs highest number rows dues c.1 n.1 (All-tail (IsSoundRecord highest) r rows s))

pub all_covered : {D : Type 0} → (history : Option History) (store : StoreValue D) → IsStore history store → All (IsCovered store) store.map.records
all_covered history store s =
    let sound = map_sound store.map.store s.entries s.good.map_entries.1 s.good.map_entries.0 in
    let records = subst (λ (m : MapMeaning). All (IsSoundRecord m.highest.map) m.records) (sym s.map_is) sound.records in
    let rising = uids_rise history store s in
    let numbers = at_own_place store.map.records store.dues rising (dues_each s.logs store.map.records store.dues s.counts) in
    All-weaker (λ (row : MapRecord). (listed_of s.logs row.uid + due_at row.uid store ≤ row.count) × (row.count ≤ 65535) × (row.uid ≤ 4294967294)) (IsCovered store)
    (λ row h. (
      let listed : listed_at row.uid store ≡ listed_of s.logs row.uid = ap (λ (ms : List BoxMeaning). sum_by (λ (m : BoxMeaning). count_by (λ (r : LogRow). r.map_uid == row.uid) m.rows) ms) s.boxes_are ∙ listed_meant row.uid s.logs in
          let a = h.0 in omega (arith, listed, a),
      h.1,
      h.2,
    )) store.map.records
    (covered_rows s.logs store.map.highest.map (λ uid. due_at uid store) store.map.records store.dues s.counts numbers records)

abbrev CountInRange : MapCount → Type 0
CountInRange c = (c.uid.0 < 4294967296) × (c.count < 65536)

each_one : {X : Type 0} → (P : X → Type 0) (xs : List X) → All P xs → AllByRecursion P xs
each_one P [] h = tt
each_one P (x ∷ xs) h = (All-head P x xs h, each_one P xs (All-tail P x xs h))

wrong_few : (right : ℕ → ℕ) (rows : List MapRecord) → length (wrong_beside right rows) ≤ length rows
wrong_few right [] = omega arith
wrong_few right (row ∷ rows) = by_test (row.count == right row.uid) (wrong_few right rows)
  where
    by_test : (b : Bool) → length (wrong_beside right rows) ≤ length rows → length (if b then wrong_beside right rows else as_right right row ∷ wrong_beside right rows) ≤ length (row ∷ rows)
    by_test true h = omega (arith, h)
    by_test false h = omega (arith, h)

pub entry_in_range : {D : Type 0} → (history : Option History) (store : StoreValue D) (counts : List MapCount) → IsStore history store → counts ≡ wrong_of store → length store.map.records < 4294967296 → MapInRange (entry.T counts)
entry_in_range history store counts s e few =
    subst (λ (cs : List MapCount). MapInRange (entry.T cs)) (sym e) (
      (let k = wrong_few (λ uid. listed_at uid store + due_at uid store) store.map.records in omega (arith, k, few)),
      each_one CountInRange (wrong_of store)
          (All-weaker (IsWrong (λ uid. listed_at uid store + due_at uid store) store.map.records) CountInRange
          (λ given w. subst CountInRange (sym w.2) (let k = All-contains (IsCovered store) store.map.records w.0 (all_covered history store s) w.1 in let a = k.0 in let b = k.1 in let u = k.2 in (omega (arith, u), omega (arith, a, b)))) (wrong_of store) (all_wrong (λ uid. listed_at uid store + due_at uid store) store.map.records)),
    )

pub few_rows : (m n : MapMeaning) → m ≡ n → length m.records ≤ m.highest.map → m.highest.map < 4294967296 → length n.records < 4294967296
few_rows m n e few fits = subst (λ (x : MapMeaning). length x.records < 4294967296) e (omega (arith, few, fits))

-- ---- what the event does

pub no_length : {X : Type 0} → (xs : List X) (n : ℕ) → n ≡ length xs → n ≡ 0 → xs ≡ []
no_length [] n e z = refl
no_length (x ∷ xs) n e z = absurd (omega (arith, e, z))

abbrev SameMail : DiskState → DiskState → Type 0
SameMail a b = ((number : ℕ) → b (file.Mail number) ≡ a (file.Mail number)) × ((hash id : List ℕ) → b (file.Inst hash id) ≡ a (file.Inst hash id))

-- no count is wrong, and nothing is written
pub right_none : {D : Type 0} → (store : StoreValue D) (history : Option History) (faults : Faults) → store.stopped ≡ false → wrong_of store ≡ [] → PutsRight 0 store store history history faults faults
right_none store history faults runs none = record {
  keeps = record {
    moments = λ lists s. leaves_none history lists lists s;
    indexes = refl;
    mailboxes = refl;
    drawn = refl;
    room = omega arith;
    rest = refl;
    stays = λ m. mail_still m history;
    grows = omega arith;
    reads = refl;
    changes = omega arith;
  };
  runs = runs;
  many = ap (λ (cs : List MapCount). length cs) (sym none);
  map = ap (λ (cs : List MapCount). corrected_map cs store.map) (sym none);
  end = omega arith;
  due = λ uid. refl;
  settled = λ lists s. s;
  mail = between-begins SameMail history (λ disk. ((λ number. refl), (λ hash id. refl)));
  unfailed = refl;
}

-- with an entry the map is the corrected one
pub some_taken : (counts wrong : List MapCount) (m : MapMeaning) → counts ≡ wrong → (length counts ≡ 0 → ⊥) → map_applied (entry.T counts) m ≡ corrected_map wrong m
some_taken [] wrong m e some = absurd (some refl)
some_taken (c ∷ counts) wrong m e some = ap (λ (cs : List MapCount). corrected_map cs m) e

-- an append to the map log leaves the mailboxes and the rest of the store
pub append_rest : {D : Type 0} → (old new : StoreValue D) → new ≡ record old { disk = new.disk; map_log = new.map_log; map = new.map; drawn = new.drawn; dues = new.dues; stopped = new.stopped } → KeepsRest old new × (indexes_of new.boxes ≡ indexes_of old.boxes)
append_rest old new same = (
  same ∙ sym (ap (λ (v : StoreValue _). record old { disk = v.disk; map_log = v.map_log; map = v.map; boxes = v.boxes; drawn = v.drawn; dues = v.dues; stopped = v.stopped }) same),
  ap (λ (v : StoreValue _). indexes_of v.boxes) same,
)
