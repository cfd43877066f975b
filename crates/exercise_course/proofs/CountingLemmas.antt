-- What the requests of a made script do to the counts that are kept: a delivery and a copy add one, and an expunge takes one.
use Rattle.exercise_course.proofs.Common.{◌≡◌, ◌≤◌, ◌<◌, ◌+◌, ◌-◌, ◌==◌, ℕ, Bool, true, false, not, cond, if◌then◌else◌, All, AllPairs, List, [], ◌∷◌, ◌++◌, filter, find, length, map, slice_get, sum_by, Option, Some, None, is_some, refl, option_or, sym, ◌∙◌, ap, arith, subst, eq-eqb, eqb-true}
use Rattle.exercise_course.proofs.Common.{eqb-false, append-nil, All-head, All-tail, All-weaker, sum_by-cons, sum_by_push, MapEntry, Uid, Request, Refusal, Lists, MapFits, MapMeaning, MapRecord, map_applied, map_meaning, record_changed, map_more, pairs_head, pairs_tail, EventPart, First, Compares}
use Rattle.exercise_course.proofs.Common.{PlacesInstance, TakesFile, PlacesMessage, StoresRecord, Last, GivesBack, StartsOver, Run, RunEvent, and_then, before, entries_of, map_of, own_events, Around, DidNothing, DidPart, IsEvent, behind_delivery, behind_event, last_refusal, entries_more}
use Rattle.exercise_course.proofs.Common.{made_request}
use Rattle.std.specs.Prelude.{◌||◌, max}
use Rattle.std.proofs.lemmas.List.Elements.{All-push}
use Rattle.mdbox_base.specs.declared.entries.MapEntry.TheVariants as entry
use Rattle.mdbox_base.specs.declared.ids.MapUid.{MapUid}
use Rattle.mdbox_base.specs.declared.requests.Request.TheVariants as request
use Rattle.model_meaning.specs.MapFits.{HasRecord}
use Rattle.model_meaning.specs.MapMeaning.{record_at}
use Rattle.model_octets.proofs.PairLemmas.{all_map, pairs_map, pairs_push}
use Rattle.journal.specs.Events.{behind_expunge, part_behind}
use Rattle.exercise_course.proofs.DeliveredLemmas.{last_unrefused}
use Rattle.exercise_course.proofs.StoringLemmas.{IsSimple, last_of, last_push, next_is, part_after}

-- ---- the map

abbrev pub count_of_row : MapRecord → ℕ
count_of_row row = row.count

abbrev pub counts_of_map : MapMeaning → ℕ
counts_of_map m = sum_by (λ row. row.count) m.records

-- map uids rise, up to the highest
pub record IsCountable (m : MapMeaning) : Type 0 where
  pub rising : AllPairs (λ a b. a.uid < b.uid) m.records
  pub below : All (λ row. row.uid ≤ m.highest.map) m.records

abbrev pub Rises : MapRecord → MapRecord → Type 0
Rises a b = a.uid < b.uid

-- by how much an entry raises and lowers counts
abbrev pub up_in : MapEntry → ℕ
up_in (entry.S origin count uid file offset size guid instances) = count
up_in (entry.U uid) = 1
up_in other = 0

abbrev pub down_in : MapEntry → ℕ
down_in (entry.D uids) = length uids
down_in other = 0

-- an entry that lowers one count at the most, neither drops nor corrects any, and neither deletes a mailbox nor renames one
abbrev pub IsStep : MapEntry → Type 0
IsStep (entry.D uids) = (uid : MapUid) × (uids ≡ uid ∷ [])
IsStep (entry.T counts) = ⊥
IsStep (entry.P file target moved dropped) = ⊥
IsStep (entry.X mailbox amounts) = ⊥
IsStep (entry.V mailbox name) = ⊥
IsStep other = Unit {0}

pub all_kept : (rows : List MapRecord) → filter (λ row. not false) rows ≡ rows
all_kept [] = refl
all_kept (row ∷ rows) = ap (λ (l : List MapRecord). row ∷ l) (all_kept rows)

-- a change that leaves this row's count
pub missed_sum : (changed : MapRecord → MapRecord) (uid : ℕ) → ((row : MapRecord) → (row.uid == uid) ≡ false → (changed row).count ≡ row.count) → (rows : List MapRecord) → All (λ row. uid < row.uid) rows → sum_by count_of_row (map changed rows) ≡ sum_by count_of_row rows
missed_sum changed uid same [] a = refl
missed_sum changed uid same (x ∷ xs) a =
    let lt = All-head (λ (row : MapRecord). uid < row.uid) x xs a in
    let e = same x (by_test (x.uid == uid) refl lt) in
    let r = missed_sum changed uid same xs (All-tail (λ (row : MapRecord). uid < row.uid) x xs a) in
    let p = sum_by-cons count_of_row (changed x) (map changed xs) in
    let q = sum_by-cons count_of_row x xs in
    omega (arith, e, r, p, q)
  where
    by_test : (b : Bool) → (x.uid == uid) ≡ b → uid < x.uid → (x.uid == uid) ≡ false
    by_test true e lt = let k = eqb-true x.uid uid e in absurd (omega (arith, k, lt))
    by_test false e lt = e

hit_sum : (changed : MapRecord → MapRecord) (uid up down : ℕ) (r : MapRecord) → ((row : MapRecord) → (row.uid == uid) ≡ false → (changed row).count ≡ row.count) → (changed r).count + down ≡ r.count + up
    → (rows : List MapRecord) → AllPairs Rises rows → find (λ row. row.uid == uid) rows ≡ Some r → sum_by count_of_row (map changed rows) + down ≡ sum_by count_of_row rows + up
hit_sum changed uid up down r same hit [] pairs f = absurd (cc f)
hit_sum changed uid up down r same hit (x ∷ xs) pairs f = by_test (x.uid == uid) refl f (λ k. hit_sum changed uid up down r same hit xs (pairs_tail Rises x xs pairs) k)
  where
    p : sum_by count_of_row (map changed (x ∷ xs)) ≡ (changed x).count + sum_by count_of_row (map changed xs)
    p = sum_by-cons count_of_row (changed x) (map changed xs)

    q : sum_by count_of_row (x ∷ xs) ≡ x.count + sum_by count_of_row xs
    q = sum_by-cons count_of_row x xs

    by_test : (b : Bool) → (x.uid == uid) ≡ b → cond b (Some x) (find (λ row. row.uid == uid) xs) ≡ Some r → (find (λ row. row.uid == uid) xs ≡ Some r → sum_by count_of_row (map changed xs) + down ≡ sum_by count_of_row xs + up)
        → sum_by count_of_row (map changed (x ∷ xs)) + down ≡ sum_by count_of_row (x ∷ xs) + up
    by_test true e g next =
        let own : x ≡ r = (let k : Some x ≡ Some r = g in cc k) in
        let is = eqb-true x.uid uid e in
        let behind = All-weaker (Rises x) (λ (row : MapRecord). uid < row.uid) (λ row lt. omega (arith, is, lt)) xs (pairs_head Rises x xs pairs) in
        let rest = missed_sum changed uid same xs behind in
        let h : (changed x).count + down ≡ x.count + up = subst (λ (row : MapRecord). (changed row).count + down ≡ row.count + up) (sym own) hit in
        omega (arith, p, q, rest, h)
    by_test false e g next = let r = next g in let s = same x e in omega (arith, p, q, r, s)

-- what an entry makes of counts
pub record Counted (up down : ℕ) (before after : MapMeaning) : Type 0 where
  pub counts : counts_of_map after + down ≡ counts_of_map before + up
  pub countable : IsCountable after

-- rows that are changed, and no more
changed_countable : (m : MapMeaning) (e : MapEntry) (changed : MapRecord → MapRecord) → ((row : MapRecord) → (changed row).uid ≡ row.uid) → IsCountable m
    → AllPairs Rises (map changed (filter (λ row. not false) m.records) ++ []) × All (λ row. row.uid ≤ (map_applied e m).highest.map) (map changed (filter (λ row. not false) m.records) ++ [])
changed_countable m e changed same c =
    let rows : map changed m.records ≡ map changed (filter (λ row. not false) m.records) ++ [] = sym (append-nil (map changed (filter (λ row. not false) m.records)) ∙ ap (map changed) (all_kept m.records)) in (
      subst (AllPairs Rises) rows (pairs_map Rises Rises changed (λ a b lt. let x = same a in let y = same b in omega (arith, x, y, lt)) m.records c.rising),
      subst (All (λ (row : MapRecord). row.uid ≤ (map_applied e m).highest.map)) rows (all_map (λ (row : MapRecord). row.uid ≤ m.highest.map) (λ (row : MapRecord). row.uid ≤ (map_applied e m).highest.map) changed (λ a le. let x = same a in omega (arith, x, le)) m.records c.below),
    )

still_sum : (rows : List MapRecord) → sum_by count_of_row (map (λ row. row) (filter (λ row. not false) rows) ++ []) ≡ sum_by count_of_row rows
still_sum [] = refl
still_sum (x ∷ xs) =
    let r = still_sum xs in
    let p = sum_by-cons count_of_row x (map (λ (row : MapRecord). row) (filter (λ (row : MapRecord). not false) xs) ++ []) in
    let q = sum_by-cons count_of_row x xs in
    omega (arith, r, p, q)

still : (m : MapMeaning) (e : MapEntry) → (map_applied e m).records ≡ map (λ row. row) (filter (λ row. not false) m.records) ++ [] → IsCountable m → Counted 0 0 m (map_applied e m)
still m e is c =
    let k = changed_countable m e (λ row. row) (λ row. refl) c in
    let s = still_sum m.records in
    let t : counts_of_map (map_applied e m) ≡ sum_by count_of_row (map (λ row. row) (filter (λ row. not false) m.records) ++ []) = ap (sum_by count_of_row) is in
    record {
      counts = omega (arith, s, t);
      countable = record { rising = subst (AllPairs Rises) (sym is) k.0; below = subst (All (λ (row : MapRecord). row.uid ≤ (map_applied e m).highest.map)) (sym is) k.1 };
    }

hit : (m : MapMeaning) (e : MapEntry) (uid up down : ℕ) (changed : MapRecord → MapRecord) (r : MapRecord) → (map_applied e m).records ≡ map changed (filter (λ row. not false) m.records) ++ []
    → ((row : MapRecord) → (changed row).uid ≡ row.uid) → ((row : MapRecord) → (row.uid == uid) ≡ false → (changed row).count ≡ row.count) → (changed r).count + down ≡ r.count + up → record_at m uid ≡ Some r → IsCountable m → Counted up down m (map_applied e m)
hit m e uid up down changed r is same miss own found c =
    let k = changed_countable m e changed same c in
    let s = hit_sum changed uid up down r miss own m.records c.rising found in
    let rows : map changed (filter (λ row. not false) m.records) ++ [] ≡ map changed m.records = append-nil (map changed (filter (λ row. not false) m.records)) ∙ ap (map changed) (all_kept m.records) in
    let t : counts_of_map (map_applied e m) ≡ sum_by count_of_row (map changed m.records) = ap (sum_by count_of_row) (is ∙ rows) in
    record {
      counts = omega (arith, s, t);
      countable = record { rising = subst (AllPairs Rises) (sym is) k.0; below = subst (All (λ (row : MapRecord). row.uid ≤ (map_applied e m).highest.map)) (sym is) k.1 };
    }

pub apart_back : (a b : ℕ) → (a == b) ≡ false → (b == a) ≡ false
apart_back a b e = by_test (b == a) refl
  where
    by_test : (t : Bool) → (b == a) ≡ t → (b == a) ≡ false
    by_test true f = absurd (eqb-false a b e (sym (eqb-true b a f)))
    by_test false f = f

same_uid : (row : MapRecord) (n : ℕ) (b : Bool) → (if b then record row { count = n } else row).uid ≡ row.uid
same_uid row n true = refl
same_uid row n false = refl

pub missed_count : (row : MapRecord) (n : ℕ) (b : Bool) → b ≡ false → (if b then record row { count = n } else row).count ≡ row.count
missed_count row n b e = ap (λ (t : Bool). (if t then record row { count = n } else row).count) e

hit_count : (row : MapRecord) (n : ℕ) (b : Bool) → b ≡ true → (if b then record row { count = n } else row).count ≡ n
hit_count row n b e = ap (λ (t : Bool). (if t then record row { count = n } else row).count) e

pub or_false : (b : Bool) → (b || false) ≡ b
or_false true = refl
or_false false = refl

found_uid : (uid : ℕ) (rows : List MapRecord) (r : MapRecord) → find (λ row. row.uid == uid) rows ≡ Some r → (r.uid == uid) ≡ true
found_uid uid [] r f = absurd (cc f)
found_uid uid (x ∷ xs) r f = by_test (x.uid == uid) refl f (λ k. found_uid uid xs r k)
  where
    by_test : (b : Bool) → (x.uid == uid) ≡ b → cond b (Some x) (find (λ row. row.uid == uid) xs) ≡ Some r → (find (λ row. row.uid == uid) xs ≡ Some r → (r.uid == uid) ≡ true) → (r.uid == uid) ≡ true
    by_test true e g next = let own : x ≡ r = (let k : Some x ≡ Some r = g in cc k) in subst (λ (row : MapRecord). (row.uid == uid) ≡ true) own e
    by_test false e g next = next g

lowered : (m : MapMeaning) (uid : MapUid) → MapFits m (entry.D (uid ∷ [])) → IsCountable m → Counted 0 1 m (map_applied (entry.D (uid ∷ [])) m)
lowered m uid fits c =
    let has = All-head (λ (u : MapUid). HasRecord m u.0 (λ row. 1 ≤ row.count)) uid [] fits.1 in
    let r = has.0 in
    let some = has.2 in
    let is = eqb-true r.uid uid.0 (found_uid uid.0 m.records r has.1) in
    let yes : ((uid.0 == r.uid) || false) ≡ true = or_false (uid.0 == r.uid) ∙ eq-eqb uid.0 r.uid (sym is) in
    let own = hit_count r (r.count - 1) ((uid.0 == r.uid) || false) yes in
    hit m (entry.D (uid ∷ [])) uid.0 0 1 (record_changed (entry.D (uid ∷ []))) r refl (λ row. same_uid row (row.count - 1) ((uid.0 == row.uid) || false))
    (λ row no. missed_count row (row.count - 1) ((uid.0 == row.uid) || false) (or_false (uid.0 == row.uid) ∙ apart_back row.uid uid.0 no))
    (omega (arith, own, some)) has.1 c

raised : (m : MapMeaning) (uid : MapUid) → MapFits m (entry.U uid) → IsCountable m → Counted 1 0 m (map_applied (entry.U uid) m)
raised m uid fits c =
    let r = fits.0 in
    let is = eqb-true r.uid uid.0 (found_uid uid.0 m.records r fits.1) in
    let own = hit_count r (r.count + 1) (uid.0 == r.uid) (eq-eqb uid.0 r.uid (sym is)) in
    hit m (entry.U uid) uid.0 1 0 (record_changed (entry.U uid)) r refl (λ row. same_uid row (row.count + 1) (uid.0 == row.uid))
    (λ row no. missed_count row (row.count + 1) (uid.0 == row.uid) (apart_back row.uid uid.0 no))
    (omega (arith, own)) fits.1 c

pub applied_counts : (m : MapMeaning) (e : MapEntry) → IsStep e → MapFits m e → IsCountable m → Counted (up_in e) (down_in e) m (map_applied e m)
applied_counts m (entry.H h) s fits c = still m (entry.H h) refl c
applied_counts m (entry.B mailbox generation name) s fits c = still m (entry.B mailbox generation name) refl c
applied_counts m (entry.G mailbox generation) s fits c = still m (entry.G mailbox generation) refl c
applied_counts m (entry.E file) s fits c = still m (entry.E file) refl c
applied_counts m (entry.S origin count uid file offset size guid instances) s fits c =
    let made : MapRecord = record { uid = uid.0; origin = origin; count = count; file = file.0; offset = offset; size = size; guid = guid.0; instances = instances } in
    let new = fits.uid_new in
    let rows : map (λ row. row) (filter (λ row. not false) m.records) ≡ m.records = sym (append-nil (map (λ row. row) (filter (λ row. not false) m.records))) ∙ still_rows m.records in
    let sum = sum_by_push count_of_row (map (λ row. row) (filter (λ row. not false) m.records)) made in
    let was : sum_by count_of_row (map (λ row. row) (filter (λ row. not false) m.records)) ≡ sum_by count_of_row m.records = ap (sum_by count_of_row) rows in
    record {
      counts = omega (arith, sum, was);
      countable = record {
        rising = subst (λ (l : List MapRecord). AllPairs Rises (l ++ made ∷ [])) (sym rows) (pairs_push Rises m.records made c.rising (All-weaker (λ (row : MapRecord). row.uid ≤ m.highest.map) (λ (row : MapRecord). row.uid < uid.0) (λ row le. omega (arith, le, new)) m.records c.below));
        below = subst (λ (l : List MapRecord). All (λ (row : MapRecord). row.uid ≤ max m.highest.map uid.0) (l ++ made ∷ [])) (sym rows)
            (All-push (λ (row : MapRecord). row.uid ≤ max m.highest.map uid.0) m.records made (All-weaker (λ (row : MapRecord). row.uid ≤ m.highest.map) (λ (row : MapRecord). row.uid ≤ max m.highest.map uid.0) (λ row le. omega (arith, le)) m.records c.below) (omega arith));
      };
    }
  where
    still_rows : (rows : List MapRecord) → map (λ row. row) (filter (λ row. not false) rows) ++ [] ≡ rows
    still_rows [] = refl
    still_rows (x ∷ xs) = ap (λ (l : List MapRecord). x ∷ l) (still_rows xs)
applied_counts m (entry.U uid) s fits c = raised m uid fits c
applied_counts m (entry.D uids) s fits c = by_one uids s.1 fits
  where
    by_one : (us : List MapUid) → us ≡ s.0 ∷ [] → MapFits m (entry.D us) → Counted 0 (length us) m (map_applied (entry.D us) m)
    by_one us e f =
        subst (λ (l : List MapUid). Counted 0 (length l) m (map_applied (entry.D l) m)) (sym e) (lowered m s.0 (subst (λ (l : List MapUid). MapFits m (entry.D l)) e f) c)
applied_counts m (entry.T counts) s fits c = absurd s
applied_counts m (entry.P file target moved dropped) s fits c = absurd s
applied_counts m (entry.X mailbox amounts) s fits c = absurd s
applied_counts m (entry.V mailbox name) s fits c = absurd s

-- ---- events

-- one entry at the most
abbrev pub IsShort : List MapEntry → Type 0
IsShort [] = Unit {0}
IsShort (e ∷ []) = IsStep e
IsShort (e ∷ more ∷ rest) = ⊥

abbrev pub up_by : RunEvent → ℕ
up_by event = sum_by up_in event.map_entries

abbrev pub down_by : RunEvent → ℕ
down_by event = sum_by down_in event.map_entries

pub record Counts (up down : ℕ) (event : RunEvent) : Type 0 where
  pub up_is : up_by event ≡ up
  pub down_is : down_by event ≡ down
  pub short : IsShort event.map_entries

pub run_counts : (run : Run) (event : RunEvent) → IsShort event.map_entries → All (MapFits (map_of run)) event.map_entries → IsCountable (map_of run) → Counted (up_by event) (down_by event) (map_of run) (map_of (and_then run event))
run_counts run event short fits c = subst (λ (l : List MapEntry). Counted (up_by event) (down_by event) (map_of run) (map_meaning run.store l)) (sym (entries_more run event)) (by_entries event.map_entries short fits)
  where
    by_entries : (es : List MapEntry) → IsShort es → All (MapFits (map_of run)) es → Counted (sum_by up_in es) (sum_by down_in es) (map_of run) (map_meaning run.store (entries_of run ++ es))
    by_entries [] s f = subst (λ (l : List MapEntry). Counted 0 0 (map_of run) (map_meaning run.store l)) (sym (append-nil (entries_of run))) (record { counts = refl; countable = c })
    by_entries (e ∷ []) s f =
        let one = applied_counts (map_of run) e s (All-head (MapFits (map_of run)) e [] f) c in
        let a : sum_by up_in (e ∷ []) ≡ up_in e = (let k = sum_by-cons up_in e [] in omega (arith, k)) in
        let b : sum_by down_in (e ∷ []) ≡ down_in e = (let k = sum_by-cons down_in e [] in omega (arith, k)) in
        subst (λ (n : ℕ). Counted n (sum_by down_in (e ∷ [])) (map_of run) (map_meaning run.store (entries_of run ++ e ∷ []))) (sym a)
        (subst (λ (n : ℕ). Counted (up_in e) n (map_of run) (map_meaning run.store (entries_of run ++ e ∷ []))) (sym b)
        (subst (Counted (up_in e) (down_in e) (map_of run)) (sym (map_more run.store (entries_of run) e)) one))
    by_entries (e ∷ more ∷ rest) s f = absurd s

counts_as : (up down : ℕ) (event other : RunEvent) → event ≡ other → Counts up down other → Counts up down event
counts_as up down event other e c = subst (Counts up down) (sym e) c

-- by how much a part raises and lowers counts
unfoldable pub up_at : Request → EventPart → ℕ
up_at (request.Deliver name time octets) StoresRecord = 1
up_at (request.Copy name uid target) First = 1
up_at q part = 0

unfoldable pub down_at : Request → EventPart → ℕ
down_at (request.Deliver name time octets) GivesBack = 1
down_at (request.Copy name uid target) GivesBack = 1
down_at (request.Expunge name uid) GivesBack = 1
down_at q part = 0

pub did_counts : (around : Around) (run : Run) (lists : Lists) (q : Request) (event : RunEvent) (part : EventPart) → IsSimple q → DidPart around run lists q event part → Counts (up_at q part) (down_at q part) event
unfolding up_at down_at
did_counts around run lists (request.Make name) event First s d = counts_as 0 0 event _ d (record { up_is = refl; down_is = refl; short = tt })
did_counts around run lists (request.Make name) event Last s d = counts_as 0 0 event _ d (record { up_is = refl; down_is = refl; short = tt })
did_counts around run lists (request.Make name) event part s d = counts_as 0 0 event _ d (record { up_is = refl; down_is = refl; short = tt })
did_counts around run lists (request.Deliver name time octets) event First s d = counts_as 0 0 event _ d (record { up_is = refl; down_is = refl; short = tt })
did_counts around run lists (request.Deliver name time octets) event Compares s d = counts_as 0 0 event _ d.3 (record { up_is = refl; down_is = refl; short = tt })
did_counts around run lists (request.Deliver name time octets) event PlacesInstance s d = counts_as 0 0 event _ d.2 (record { up_is = refl; down_is = refl; short = tt })
did_counts around run lists (request.Deliver name time octets) event (TakesFile new) s d = counts_as 0 0 event _ d (record { up_is = refl; down_is = refl; short = tt })
did_counts around run lists (request.Deliver name time octets) event PlacesMessage s d = counts_as 0 0 event _ d.3 (record { up_is = refl; down_is = refl; short = tt })
did_counts around run lists (request.Deliver name time octets) event StoresRecord s d = counts_as 1 0 event _ d.3 (record { up_is = refl; down_is = refl; short = tt })
did_counts around run lists (request.Deliver name time octets) event Last s d = counts_as 0 0 event _ d.2.4 (record { up_is = refl; down_is = refl; short = tt })
did_counts around run lists (request.Deliver name time octets) event GivesBack s d = counts_as 0 1 event _ d.2 (record { up_is = refl; down_is = refl; short = (record { 0 = d.0 }, refl) })
did_counts around run lists (request.Deliver name time octets) event part s d = absurd d
did_counts around run lists (request.Copy name uid target) event First s d = counts_as 1 0 event _ d.4 (record { up_is = refl; down_is = refl; short = tt })
did_counts around run lists (request.Copy name uid target) event Last s d = counts_as 0 0 event _ d.2.4 (record { up_is = refl; down_is = refl; short = tt })
did_counts around run lists (request.Copy name uid target) event StartsOver s d = counts_as 0 0 event _ d (record { up_is = refl; down_is = refl; short = tt })
did_counts around run lists (request.Copy name uid target) event GivesBack s d = counts_as 0 1 event _ d.2 (record { up_is = refl; down_is = refl; short = (record { 0 = d.0 }, refl) })
did_counts around run lists (request.Copy name uid target) event part s d = absurd d
did_counts around run lists (request.Expunge name uid) event First s d = counts_as 0 0 event _ d.4 (record { up_is = refl; down_is = refl; short = tt })
did_counts around run lists (request.Expunge name uid) event GivesBack s d = counts_as 0 1 event _ d.2 (record { up_is = refl; down_is = refl; short = (record { 0 = d.0 }, refl) })
did_counts around run lists (request.Expunge name uid) event part s d = counts_as 0 0 event _ d (record { up_is = refl; down_is = refl; short = tt })
did_counts around run lists (request.Flag name uid flags) event First s d = counts_as 0 0 event _ d.2 (record { up_is = refl; down_is = refl; short = tt })
did_counts around run lists (request.Flag name uid flags) event part s d = counts_as 0 0 event _ d (record { up_is = refl; down_is = refl; short = tt })
did_counts around run lists q event part s d = absurd s

pub nothing_counts : (event : RunEvent) → DidNothing event → Counts 0 0 event
nothing_counts event d = counts_as 0 0 event _ d (record { up_is = refl; down_is = refl; short = tt })

-- ---- the events of one request

-- what they have raised and lowered, by the last of them, if none was refused
unfoldable pub up_part : Request → EventPart → ℕ
up_part (request.Deliver name time octets) StoresRecord = 1
up_part (request.Deliver name time octets) Last = 1
up_part (request.Deliver name time octets) GivesBack = 1
up_part (request.Copy name uid target) part = 1
up_part q part = 0

unfoldable pub down_part : Request → EventPart → ℕ
down_part (request.Expunge name uid) First = 0
down_part (request.Expunge name uid) part = 1
down_part q part = 0

unfoldable pub up_last : Request → Option RunEvent → ℕ
up_last q None = 0
up_last q (Some e) = up_part q e.part

unfoldable pub down_last : Request → Option RunEvent → ℕ
down_last q None = 0
down_last q (Some e) = down_part q e.part

abbrev Balanced : Request → ℕ → ℕ → EventPart → Type 0
Balanced q up down p = (up + up_at q p ≡ up_part q p) × (down + down_at q p ≡ down_part q p)

some_is : {X : Type 0} → (a b : X) → Some a ≡ Some b → a ≡ b
some_is a b e = cc e

begins_balanced : (q : Request) (p : EventPart) → IsSimple q → Some First ≡ Some p → Balanced q 0 0 p
unfolding up_at down_at up_part down_part
begins_balanced (request.Make name) p s e = (refl, refl)
begins_balanced (request.Deliver name time octets) p s e = subst (Balanced (request.Deliver name time octets) 0 0) (some_is First p e) (refl, refl)
begins_balanced (request.Copy name uid target) p s e = subst (Balanced (request.Copy name uid target) 0 0) (some_is First p e) (refl, refl)
begins_balanced (request.Expunge name uid) p s e = subst (Balanced (request.Expunge name uid) 0 0) (some_is First p e) (refl, refl)
begins_balanced (request.Flag name uid flags) p s e = (refl, refl)
begins_balanced q p s e = absurd s

looking_balanced : (name : List ℕ) (time : ℕ) (octets : List ℕ) (b c new : Bool) (p : EventPart) → (if b then (if c then Some Compares else Some PlacesInstance) else Some (TakesFile new)) ≡ Some p → Balanced (request.Deliver name time octets) 0 0 p
unfolding up_at down_at up_part down_part
looking_balanced name time octets true true new p e = subst (Balanced (request.Deliver name time octets) 0 0) (some_is Compares p e) (refl, refl)
looking_balanced name time octets true false new p e = subst (Balanced (request.Deliver name time octets) 0 0) (some_is PlacesInstance p e) (refl, refl)
looking_balanced name time octets false c new p e = subst (Balanced (request.Deliver name time octets) 0 0) (some_is (TakesFile new) p e) (refl, refl)

delivery_balanced : (around : Around) (run : Run) (name : List ℕ) (time : ℕ) (octets : List ℕ) (e : RunEvent) (part p : EventPart) → behind_delivery around run e part ≡ Some p → Balanced (request.Deliver name time octets) (up_part (request.Deliver name time octets) part) 0 p
unfolding up_at down_at up_part down_part
delivery_balanced around run name time octets e (TakesFile new) p is = subst (Balanced (request.Deliver name time octets) 0 0) (some_is PlacesMessage p is) (refl, refl)
delivery_balanced around run name time octets e PlacesMessage p is = subst (Balanced (request.Deliver name time octets) 0 0) (some_is StoresRecord p is) (refl, refl)
delivery_balanced around run name time octets e StoresRecord p is = subst (Balanced (request.Deliver name time octets) 1 0) (some_is Last p is) (refl, refl)
delivery_balanced around run name time octets e Last p is = absurd (cc is)
delivery_balanced around run name time octets e GivesBack p is = absurd (cc is)
delivery_balanced around run name time octets e part p is = looking_balanced name time octets _ _ _ p is

-- A copy goes straight: it begins once, and gives its count back only if its addition was refused.
abbrev pub GoesStraight : Request → List RunEvent → EventPart → Type 0
GoesStraight (request.Copy name uid target) own First = own ≡ []
GoesStraight (request.Copy name uid target) own Last = Unit {0}
GoesStraight (request.Copy name uid target) own GivesBack = is_some (last_refusal own) ≡ true
GoesStraight (request.Copy name uid target) own part = ⊥
GoesStraight other own part = Unit {0}

abbrev pub AreStraight : ℕ → ℕ → Run → Type 0
AreStraight lanes number run = (n : ℕ) (event : RunEvent) → slice_get run.events n ≡ Some event → GoesStraight (made_request lanes number event.request).1 (own_events event.request (before n run)) event.part

-- it has begun
pub begun_own : (own : List RunEvent) (e : RunEvent) → last_of own ≡ Some e → own ≡ [] → ⊥
unfolding last_of
begun_own own e last none = let k : None ≡ Some e = sym (ap last_of none) ∙ last in cc k

copy_balanced : (name target : List ℕ) (uid : Uid) (own : List RunEvent) (e : RunEvent) (p : EventPart) → last_of own ≡ Some e → last_refusal own ≡ None → GoesStraight (request.Copy name uid target) own p → Balanced (request.Copy name uid target) 1 0 p
unfolding up_at down_at up_part down_part
copy_balanced name target uid own e First last none g = absurd (begun_own own e last g)
copy_balanced name target uid own e Last last none g = (refl, refl)
copy_balanced name target uid own e GivesBack last none g = absurd (let k : false ≡ true = sym (ap is_some none) ∙ g in cc k)
copy_balanced name target uid own e part last none g = absurd g

expunge_balanced : (name : List ℕ) (uid : Uid) (part p : EventPart) → behind_expunge part ≡ Some p → Balanced (request.Expunge name uid) 0 (down_part (request.Expunge name uid) part) p
unfolding up_at down_at up_part down_part
expunge_balanced name uid First p is = subst (Balanced (request.Expunge name uid) 0 0) (some_is GivesBack p is) (refl, refl)
expunge_balanced name uid part p is = absurd (cc is)

behind_balanced : (around : Around) (run : Run) (q : Request) (own : List RunEvent) (e : RunEvent) (p : EventPart) → IsSimple q → last_of own ≡ Some e → last_refusal own ≡ None → GoesStraight q own p → part_behind around run q e ≡ Some p → Balanced q (up_part q e.part) (down_part q e.part) p
unfolding up_at down_at up_part down_part
behind_balanced around run (request.Make name) own e p s last none g is = (refl, refl)
behind_balanced around run (request.Deliver name time octets) own e p s last none g is = delivery_balanced around run name time octets e e.part p is
behind_balanced around run (request.Copy name uid target) own e p s last none g is = copy_balanced name target uid own e p last none g
behind_balanced around run (request.Expunge name uid) own e p s last none g is = expunge_balanced name uid e.part p is
behind_balanced around run (request.Flag name uid flags) own e p s last none g is = (refl, refl)
behind_balanced around run q own e p s last none g is = absurd s

-- What the events of a request have raised and lowered, if none was refused.
abbrev pub OwnCounted : Request → List RunEvent → Type 0
OwnCounted q own = last_refusal own ≡ None → (sum_by up_by own ≡ up_last q (last_of own)) × (sum_by down_by own ≡ down_last q (last_of own))

pub counted_none : (q : Request) → OwnCounted q []
unfolding up_last down_last last_of
counted_none q none = (refl, refl)

or_both : (a b : Option Refusal) → option_or a b ≡ None → (a ≡ None) × (b ≡ None)
or_both None b e = (refl, e)
or_both (Some why) b e = absurd (cc e)

unrefused_push : (own : List RunEvent) (e : RunEvent) → last_refusal (own ++ e ∷ []) ≡ None → (last_refusal own ≡ None) × (e.refused ≡ None)
unrefused_push [] e none = (refl, (or_both None e.refused none).1)
unrefused_push (x ∷ own) e none =
    let both = or_both (last_refusal (own ++ e ∷ [])) x.refused none in
    let rest = unrefused_push own e both.0 in
    (ap (λ (o : Option Refusal). option_or o x.refused) rest.0 ∙ both.1, rest.1)

last_balanced : (around : Around) (run : Run) (q : Request) (own : List RunEvent) (last : Option RunEvent) (p : EventPart) → IsSimple q → last_of own ≡ last → last_refusal own ≡ None → GoesStraight q own p → part_after around run q last ≡ Some p → Balanced q (up_last q last) (down_last q last) p
unfolding part_after up_last down_last
last_balanced around run q own None p s is none g next = begins_balanced q p s next
last_balanced around run q own (Some e) p s is none g next =
    behind_balanced around run q own e p s is none g (sym (ap (behind_event around run q e) (last_unrefused own e is none)) ∙ next)

-- An event more.
pub counted_on : (around after : Around) (run : Run) (lists : Lists) (q : Request) (event : RunEvent) → IsSimple q → GoesStraight q (own_events event.request run) event.part → IsEvent around after run lists q event → OwnCounted q (own_events event.request run)
    → IsShort event.map_entries × OwnCounted q (own_events event.request run ++ event ∷ [])
unfolding up_last down_last
counted_on around after run lists q event s g ev o = (short event.refused refl, own)
  where
    short : (r : Option Refusal) → event.refused ≡ r → IsShort event.map_entries
    short None is = (did_counts around run lists q event event.part s (ev.did is)).short
    short (Some why) is = (nothing_counts event (ev.undone why is).0).short

    own : OwnCounted q (own_events event.request run ++ event ∷ [])
    own none =
        let both = unrefused_push (own_events event.request run) event none in
        let before = o both.0 in
        let did = did_counts around run lists q event event.part s (ev.did both.1) in
        let balance = last_balanced around run q (own_events event.request run) (last_of (own_events event.request run)) event.part s refl both.0 g (sym (next_is around run q (own_events event.request run)) ∙ ev.part_is) in
        let up = sum_by_push up_by (own_events event.request run) event in
        let down = sum_by_push down_by (own_events event.request run) event in
        let last = last_push (own_events event.request run) event in
        let up_is : up_last q (last_of (own_events event.request run ++ event ∷ [])) ≡ up_part q event.part = ap (up_last q) last in
        let down_is : down_last q (last_of (own_events event.request run ++ event ∷ [])) ≡ down_part q event.part = ap (down_last q) last in
        let a = before.0 in
        let b = before.1 in
        let c = did.up_is in
        let d = did.down_is in
        let e = balance.0 in
        let f = balance.1 in
        (omega (arith, up, up_is, a, c, e), omega (arith, down, down_is, b, d, f))
