-- The instances that a record names.
use Rattle.mail_fetch.proofs.Common.{◌≡◌, ℕ, Bool, true, false, cond, List, [], ◌∷◌, ◌++◌, map, Some, None, subst, All, filter, All-cons, All-nil, All-head, All-tail, InstRow, LogRow, MapRecord, MapMeaning, named_instances, record_at, pieces_to_read, KnownInstance, IsKnownRow, KnowsSource}
use Rattle.mail_fetch.proofs.Common.{has_octets, instance_part, parts_to_read, pieces_left, region_part, stored_at, Part}
use Rattle.std.proofs.Common.{find}
use Rattle.std.specs.Prelude.{flat_map, ◌==◌}
use Rattle.mail_fetch.proofs.PartLemmas.{pieces_of_parts}

all_left : {X : Type 0} → (P : X → Type 0) (xs ys : List X) → All P (xs ++ ys) → All P xs
all_left P [] ys h = All-nil P
all_left P (x ∷ xs) ys h = All-cons P x xs (All-head P x (xs ++ ys) h) (all_left P xs ys (All-tail P x (xs ++ ys) h))

all_right : {X : Type 0} → (P : X → Type 0) (xs ys : List X) → All P (xs ++ ys) → All P ys
all_right P [] ys h = h
all_right P (x ∷ xs) ys h = all_right P xs ys (All-tail P x (xs ++ ys) h)

named_in : (P : InstRow → Type 0) (uid : ℕ) (records : List MapRecord) (entry : MapRecord) → find (λ row. row.uid == uid) records ≡ Some entry → All P (flat_map (λ row. row.instances) records) → All P entry.instances
named_in P uid [] entry e h = absurd (let k : None ≡ Some entry = e in cc k)
named_in P uid (r ∷ rs) entry e h = by_test (r.uid == uid) e (λ k. named_in P uid rs entry k (all_right P r.instances (flat_map (λ (row : MapRecord). row.instances) rs) h))
  where
    by_test : (t : Bool) → cond t (Some r) (find (λ (row : MapRecord). row.uid == uid) rs) ≡ Some entry → (find (λ (row : MapRecord). row.uid == uid) rs ≡ Some entry → All P entry.instances) → All P entry.instances
    by_test true k rest = let same : r ≡ entry = cc k in subst (λ (x : MapRecord). All P x.instances) same (all_left P r.instances (flat_map (λ (row : MapRecord). row.instances) rs) h)
    by_test false k rest = rest k

-- what holds of all instances that records name
pub named_each : (P : InstRow → Type 0) (m : MapMeaning) (uid : ℕ) (entry : MapRecord) → record_at m uid ≡ Some entry → All P (named_instances m) → All P entry.instances
named_each P m uid entry found h = named_in P uid m.records entry found h

-- ---- what is read of them

-- as many pieces as the journal tells
pub pieces_told : (row : LogRow) (entry : MapRecord) → pieces_left (parts_to_read (stored_at row entry)) ≡ pieces_to_read entry
pieces_told row entry = pieces_of_parts (stored_at row entry)

kept_known : (known : List KnownInstance) (ps : List Part) → All (λ p. KnowsSource known p.source) ps → All (λ p. KnowsSource known p.source) (filter has_octets ps)
kept_known known [] h = All-nil (λ (p : Part). KnowsSource known p.source)
kept_known known (p ∷ ps) h = by_test (has_octets p) (kept_known known ps (All-tail (λ (q : Part). KnowsSource known q.source) p ps h))
  where
    by_test : (t : Bool) → All (λ q. KnowsSource known q.source) (filter has_octets ps) → All (λ q. KnowsSource known q.source) (cond t (p ∷ filter has_octets ps) (filter has_octets ps))
    by_test true rest = All-cons (λ (q : Part). KnowsSource known q.source) p (filter has_octets ps) (All-head (λ (q : Part). KnowsSource known q.source) p ps h) rest
    by_test false rest = rest

rows_known : (known : List KnownInstance) (rows : List InstRow) → All (IsKnownRow known) rows → All (λ p. KnowsSource known p.source) (map instance_part rows)
rows_known known [] h = All-nil (λ (p : Part). KnowsSource known p.source)
rows_known known (row ∷ rows) h = All-cons (λ (p : Part). KnowsSource known p.source) (instance_part row) (map instance_part rows) (All-head (IsKnownRow known) row rows h) (rows_known known rows (All-tail (IsKnownRow known) row rows h))

-- Its parts are of a storage file, or of instances that are known.
pub parts_known : (known : List KnownInstance) (row : LogRow) (entry : MapRecord) → All (IsKnownRow known) entry.instances → All (λ p. KnowsSource known p.source) (parts_to_read (stored_at row entry))
parts_known known row entry h = kept_known known (region_part (stored_at row entry) ∷ map instance_part entry.instances) (All-cons (λ (p : Part). KnowsSource known p.source) (region_part (stored_at row entry)) (map instance_part entry.instances) tt (rows_known known entry.instances h))
