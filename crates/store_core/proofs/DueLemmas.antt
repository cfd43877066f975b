-- Numbers that stand at records, and counts that are made up of what is listed, what is due, and a leak.
use Rattle.store_core.proofs.Common.{◌≡◌, ◌==◌, ◌<◌, ◌≤◌, ◌+◌, ◌-◌, ℕ, Bool, true, false, cond, find, List, [], ◌∷◌, map, All, Option, Some, None, refl, sym, ◌∙◌, ap, subst, arith, AllPairs, count_by, sum_by, cond-true, cond-false, ne_eqb, eq-eqb, All-head, All-tail, All-cons, All-nil, sum_by-cons}
use Rattle.store_core.proofs.Common.{BoxEntry, pairs_head, pairs_tail, BoxMeaning, box_meaning, rows_after, MapRecord, MapMeaning, record_at, listed_of, IsAccounted, History, Between, files_of, StoresMessage, number_beside, due_at, listed_at, leak_at, KeepsStored, CoverDues, IsStore, StoreValue}
use Rattle.store_core.proofs.Common.{indexes_of}
use Rattle.store_core.specs.Dues.{Amounts, Moves, Spares}

abbrev pub RecordsRise : MapRecord → MapRecord → Type 0
RecordsRise a b = a.uid < b.uid

-- each record has the number of its place
abbrev pub AreNumbers : (ℕ → ℕ) → List MapRecord → List ℕ → Type 0
AreNumbers f [] [] = Unit {0}
AreNumbers f (r ∷ rs) (n ∷ ns) = (f r.uid ≡ n) × AreNumbers f rs ns
AreNumbers f rows numbers = ⊥

-- as many numbers as records
abbrev pub OneEach : List MapRecord → List ℕ → Type 0
OneEach [] [] = Unit {0}
OneEach (r ∷ rs) (n ∷ ns) = OneEach rs ns
OneEach rows numbers = ⊥

-- a record before doesn't matter
behind_record : (r : MapRecord) (n : ℕ) (all rows : List MapRecord) (all_numbers numbers : List ℕ) → All (λ (x : MapRecord). r.uid < x.uid) rows → AreNumbers (λ uid. number_beside uid all all_numbers) rows numbers
    → AreNumbers (λ uid. number_beside uid (r ∷ all) (n ∷ all_numbers)) rows numbers
behind_record r n all [] all_numbers [] above h = tt
behind_record r n all [] all_numbers (k ∷ ks) above h = absurd h
behind_record r n all (x ∷ xs) all_numbers [] above h = absurd h
behind_record r n all (x ∷ xs) all_numbers (k ∷ ks) above h =
    let less : r.uid < x.uid = All-head (λ (y : MapRecord). r.uid < y.uid) x xs above in (
      cond-false (r.uid == x.uid) n (number_beside x.uid all all_numbers) (ne_eqb r.uid x.uid (λ (e : r.uid ≡ x.uid). omega (arith, less, e))) ∙ h.0,
      behind_record r n all xs all_numbers ks (All-tail (λ (y : MapRecord). r.uid < y.uid) x xs above) h.1,
    )

-- each record of a map has the number of its own place
pub at_own_place : (rows : List MapRecord) (numbers : List ℕ) → AllPairs RecordsRise rows → OneEach rows numbers → AreNumbers (λ uid. number_beside uid rows numbers) rows numbers
at_own_place [] [] rising h = tt
at_own_place [] (n ∷ ns) rising h = absurd h
at_own_place (r ∷ rs) [] rising h = absurd h
at_own_place (r ∷ rs) (n ∷ ns) rising h =
    (cond-true (r.uid == r.uid) n (number_beside r.uid rs ns) (eq-eqb r.uid r.uid refl), behind_record r n rs rs ns ns (pairs_head RecordsRise r rs rising) (at_own_place rs ns (pairs_tail RecordsRise r rs rising) h))

pub counts_each : (rows : List MapRecord) → OneEach rows (map (λ row. row.count) rows)
counts_each [] = tt
counts_each (r ∷ rs) = counts_each rs

pub dues_each : (logs : List (List BoxEntry)) (rows : List MapRecord) (dues : List ℕ) → CoverDues logs rows dues → OneEach rows dues
dues_each logs [] [] h = tt
dues_each logs [] (d ∷ ds) h = absurd h
dues_each logs (r ∷ rs) [] h = absurd h
dues_each logs (r ∷ rs) (d ∷ ds) h = dues_each logs rs ds h.1

-- what the indexes list of a record, and what the logs list
pub listed_meant : (uid : ℕ) (logs : List (List BoxEntry)) → sum_by (λ m. count_by (λ row. row.map_uid == uid) m.rows) (map box_meaning logs) ≡ listed_of logs uid
listed_meant uid [] = refl
listed_meant uid (l ∷ ls) =
    sum_by-cons (λ (m : BoxMeaning). count_by (λ row. row.map_uid == uid) m.rows) (box_meaning l) (map box_meaning ls)
    ∙ ap (λ (n : ℕ). count_by (λ row. row.map_uid == uid) (rows_after l) + n) (listed_meant uid ls)
    ∙ sym (sum_by-cons (λ (entries : List BoxEntry). count_by (λ row. row.map_uid == uid) (rows_after entries)) l ls)

-- covered counts are made up
pub made_up : (due count listed : ℕ → ℕ) (covered logs : List (List BoxEntry)) (rows : List MapRecord) (dues : List ℕ) → ((uid : ℕ) → listed uid ≡ listed_of covered uid) → ((uid : ℕ) → listed uid ≡ listed_of logs uid)
    → AreNumbers due rows dues → AreNumbers count rows (map (λ row. row.count) rows) → CoverDues covered rows dues → All (IsAccounted due (λ uid. count uid - (listed uid + due uid)) logs) rows
made_up due count listed covered logs [] [] same also d c h = All-nil (IsAccounted due (λ uid. count uid - (listed uid + due uid)) logs)
made_up due count listed covered logs [] (n ∷ ns) same also d c h = absurd h
made_up due count listed covered logs (r ∷ rs) [] same also d c h = absurd h
made_up due count listed covered logs (r ∷ rs) (n ∷ ns) same also d c h = All-cons (IsAccounted due (λ uid. count uid - (listed uid + due uid)) logs) r rs
    (let a = same r.uid in let b = also r.uid in let e = d.0 in let f = c.0 in let enough : listed_of covered r.uid + n ≤ r.count = h.0 in omega (arith, a, b, e, f, enough))
    (made_up due count listed covered logs rs ns same also d.1 c.1 h.1)

-- counts that are made up cover what is listed and due
pub covered_by : (due leak : ℕ → ℕ) (logs : List (List BoxEntry)) (rows : List MapRecord) → All (IsAccounted due leak logs) rows → CoverDues logs rows (map (λ row. due row.uid) rows)
covered_by due leak logs [] h = tt
covered_by due leak logs (r ∷ rs) h =
    (let e : r.count ≡ listed_of logs r.uid + due r.uid + leak r.uid = All-head (IsAccounted due leak logs) r rs h in omega (arith, e), covered_by due leak logs rs (All-tail (IsAccounted due leak logs) r rs h))

-- a store's counts, by any logs that mean what its indexes do
pub store_counts : {D : Type 0} → (history : Option History) (store : StoreValue D) (logs : List (List BoxEntry)) → IsStore history store → AllPairs RecordsRise store.map.records → indexes_of store.boxes ≡ map box_meaning logs
    → All (IsAccounted (λ uid. due_at uid store) (λ uid. leak_at uid store) logs) store.map.records
store_counts history store logs s rising same =
    made_up (λ uid. due_at uid store) (λ uid. number_beside uid store.map.records (map (λ row. row.count) store.map.records)) (λ uid. listed_at uid store) s.logs logs store.map.records store.dues
    (λ uid. ap (in_meanings uid) s.boxes_are ∙ listed_meant uid s.logs) (λ uid. ap (in_meanings uid) same ∙ listed_meant uid logs)
    (at_own_place store.map.records store.dues rising (dues_each s.logs store.map.records store.dues s.counts)) (at_own_place store.map.records (map (λ row. row.count) store.map.records) rising (counts_each store.map.records)) s.counts
  where
    in_meanings : ℕ → List BoxMeaning → ℕ
    in_meanings uid meanings = sum_by (λ m. count_by (λ row. row.map_uid == uid) m.rows) meanings

-- the same of a value that is known under two names
pub counts_seen : {D : Type 0} → (history : Option History) (inside seen : StoreValue D) (logs : List (List BoxEntry)) → inside ≡ seen → IsStore history inside → AllPairs RecordsRise inside.map.records → indexes_of seen.boxes ≡ map box_meaning logs
    → All (IsAccounted (λ uid. due_at uid seen) (λ uid. leak_at uid seen) logs) seen.map.records
counts_seen history inside seen logs is s rising same =
    store_counts history seen logs (subst (λ (v : StoreValue _). IsStore history v) is s) (subst (λ (v : StoreValue _). AllPairs RecordsRise v.map.records) is rising) same

-- ---- a record of which something is due

pub due_record : (logs : List (List BoxEntry)) (rows : List MapRecord) (dues : List ℕ) (uid : ℕ) → CoverDues logs rows dues → 1 ≤ number_beside uid rows dues → (row : MapRecord) × (find (λ r. r.uid == uid) rows ≡ Some row) × (1 ≤ row.count)
due_record logs [] [] uid covers some = absurd (omega (arith, some))
due_record logs [] (d ∷ ds) uid covers some = absurd covers
due_record logs (r ∷ rs) [] uid covers some = absurd covers
due_record logs (r ∷ rs) (d ∷ ds) uid covers some = by_test (r.uid == uid) some (λ h. due_record logs rs ds uid covers.1 h)
  where
    by_test : (t : Bool) → 1 ≤ cond t d (number_beside uid rs ds) → (1 ≤ number_beside uid rs ds → (row : MapRecord) × (find (λ r. r.uid == uid) rs ≡ Some row) × (1 ≤ row.count))
        → (row : MapRecord) × (cond t (Some r) (find (λ r. r.uid == uid) rs) ≡ Some row) × (1 ≤ row.count)
    by_test true h rest = (r, refl, (let c : listed_of logs r.uid + d ≤ r.count = covers.0 in let k : 1 ≤ d = h in omega (arith, c, k)))
    by_test false h rest = rest h

-- ---- a store of which as much is due, and whose records stay

pub moves_as : (mine all all_now : Amounts) → ((uid : ℕ) → all_now.due uid ≡ all.due uid) → Moves mine mine all all_now
moves_as mine all all_now same = record { due = λ uid. ap (λ (n : ℕ). n + mine.due uid) (same uid) }

pub spares_kept : {D : Type 0} → (mine : Amounts) (old new : StoreValue D) (before after : Option History) → new.map ≡ old.map → KeepsStored before after → Spares mine old new before after
spares_kept mine old new before after map keeps = record {
  records = λ uid row more found. record {
    now = row;
    there = ap (λ (m : MapMeaning). record_at m uid) map ∙ found;
    guid = refl;
    stores = λ octets. as_kept before after row octets keeps;
  };
}
  where
    as_kept : (a b : Option History) (row : MapRecord) (octets : List ℕ) → KeepsStored a b → Between (λ a b. StoresMessage (files_of a) row octets → StoresMessage (files_of b) row octets) a b
    as_kept None b row octets k = k
    as_kept (Some a) None row octets k = absurd k
    as_kept (Some a) (Some b) row octets k = k row octets

pub keeps_itself : (h : Option History) → KeepsStored h h
keeps_itself None = refl
keeps_itself (Some h) = λ row octets x. x
