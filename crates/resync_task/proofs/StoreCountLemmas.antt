-- The wrong counts of an open store are those that a resync puts right.
use Rattle.resync_task.proofs.Common.{◌≡◌, ◌<◌, ◌+◌, ◌==◌, ℕ, List, [], ◌∷◌, refl, sym, ◌∙◌, ap, subst, arith, All, AllPairs, Contains, sum_by, count_by, ◌≢◌, All-map, All-weaker, All-contains, All-contains_itself, History, MapCount, Lists, LogRow, BoxMeaning, HasRecord, MapRecord, MapMeaning}
use Rattle.resync_task.proofs.Common.{count_given, records_by_counted, map_sound, refs_in, AreWrongCounts, corrected_map, due_at, listed_at, IsStore, StoreValue, indexes_of, listed_meant, Seen, wrong_of}
use Rattle.std.specs.Prelude.{Option}
use Rattle.model_lists.specs.Lists.{refs_of}
use Rattle.model_store.specs.Listing.{ShowLists}
use Rattle.resync_task.proofs.ListedLemmas.{refs_are_listed}
use Rattle.resync_task.proofs.WrongCountLemmas.{wrong_in_map, right_in_map}
use Rattle.store_core.proofs.ShownLemmas.{refs_shown}

-- the records whose counts are put right are those of the map, with their GUIDs
pub record IsRowOf (rows : List MapRecord) (row : MapRecord) : Type 0 where
  pub own : MapRecord
  pub there : Contains rows own
  pub uid : own.uid ≡ row.uid
  pub guid : own.guid ≡ row.guid

abbrev given_count : List MapCount → MapRecord → MapRecord
given_count counts row = record row { count = count_given row.uid counts row.count }

rows_of_map : (counts : List MapCount) (m : MapMeaning) → All (IsRowOf m.records) (corrected_map counts m).records
rows_of_map [] m = All-weaker (Contains m.records) (IsRowOf m.records) (λ row c. record { own = row; there = c; uid = refl; guid = refl }) m.records (All-contains_itself m.records)
rows_of_map (c ∷ counts) m =
    subst (λ (rows : List MapRecord). All (IsRowOf m.records) rows) (sym (records_by_counted (c ∷ counts) m.records))
    (All-map (IsRowOf m.records) (given_count (c ∷ counts)) m.records
    (All-weaker (Contains m.records) (λ (row : MapRecord). IsRowOf m.records (given_count (c ∷ counts) row)) (λ row d. record { own = row; there = d; uid = refl; guid = refl }) m.records (All-contains_itself m.records)))

-- uids rise
pub uids_rise : {D : Type 0} → (history : Option History) (store : StoreValue D) → IsStore history store → AllPairs (λ a b. a.uid < b.uid) store.map.records
uids_rise history store s = subst (λ (m : MapMeaning). AllPairs (λ a b. a.uid < b.uid) m.records) (sym s.map_is) (map_sound store.map.store s.entries s.good.map_entries.1 s.good.map_entries.0).rising

-- a record's listed messages are the references to its GUID
listed_refs : {D : Type 0} → (history : Option History) (store : StoreValue D) (lists : Lists) (row : MapRecord) → IsStore history store → ShowLists store.map.boxes (indexes_of store.boxes) lists → Contains store.map.records row → listed_at row.uid store ≡ refs_of lists row.guid
listed_refs history store lists row s shows c =
    let listed = ap (λ (ms : List BoxMeaning). sum_by (λ (m : BoxMeaning). count_by (λ (r : LogRow). r.map_uid == row.uid) m.rows) ms) s.boxes_are ∙ listed_meant row.uid s.logs in
    let refs = refs_are_listed store.map.store s.entries s.logs row s.good (subst (λ (m : MapMeaning). Contains m.records row) s.map_is c) in
    let shown = refs_shown store.map.boxes (indexes_of store.boxes) lists row.guid shows in
    listed ∙ (sym refs ∙ (ap (λ (ms : List BoxMeaning). refs_in ms row.guid) (sym s.boxes_are) ∙ shown))

pub wrong_of_store : {D : Type 0} → (history : Option History) (store : StoreValue D) (lists : Lists) (seen : Seen) → IsStore history store → ShowLists store.map.boxes (indexes_of store.boxes) lists → seen.map ≡ store.map → ((uid : ℕ) → seen.due uid ≡ due_at uid store) → AreWrongCounts (wrong_of store) lists seen
wrong_of_store history store lists seen s shows map_is due =
    let right = λ (uid : ℕ). listed_at uid store + due_at uid store in
    let rising = uids_rise history store s in
    record {
      wrong = subst (λ (m : MapMeaning). All (λ (given : MapCount). HasRecord m given.uid.0 (λ row. row.count ≢ given.count)) (wrong_of store)) (sym map_is) (wrong_in_map store.map right rising);
      right = λ row there.
          let in_map = subst (λ (m : MapMeaning). Contains (corrected_map (wrong_of store) m).records row) map_is there in
          let own = All-contains (IsRowOf store.map.records) (corrected_map (wrong_of store) store.map).records row (rows_of_map (wrong_of store) store.map) in_map in
          let counted = right_in_map store.map right row rising in_map in
          let refs : listed_at row.uid store ≡ refs_of lists row.guid =
          sym (ap (λ (u : ℕ). listed_at u store) own.uid) ∙ (listed_refs history store lists own.own s shows own.there ∙ ap (refs_of lists) own.guid) in
          let d = due row.uid in
          omega (arith, counted, refs, d);
    }
