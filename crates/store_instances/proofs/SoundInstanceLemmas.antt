-- No entry that fits names an instance past the highest number, or with another hash or size than elsewhere.
use Rattle.std.proofs.Common.{◌≡◌, ◌≢◌, ◌<◌, ◌≤◌, ◌+◌, ◌==◌, ◌&&◌, inl, inr, not, ℕ, Bool, true, false, max, fold, List, [], ◌∷◌, ◌++◌, length, flat_map, get_or, All, if◌then◌else◌, refl, sym, ◌∙◌, ap, subst, arith, append-nil, append_assoc}
use Rattle.std.specs.Prelude.{AllPairs, Contains}
use Rattle.std.specs.List.{AllByRecursion}
use Rattle.std.proofs.lemmas.Bool.{cases_lt}
use Rattle.std.proofs.lemmas.Grind.{common_steps}
use Rattle.std.proofs.lemmas.List.Elements.{All-nil, All-cons, All-head, All-tail, All-append, All-weaker, All-contains}
use Rattle.mdbox_base.specs.declared.entries.Highest.{Highest}
use Rattle.mdbox_base.specs.declared.entries.InstRow.{InstRow}
use Rattle.mdbox_base.specs.declared.entries.MapEntry.{MapEntry}
use Rattle.mdbox_base.specs.declared.entries.MapEntry.TheVariants as map
use Rattle.model_logs.specs.Entries.{MapInRange}
use Rattle.model_meaning.specs.MapFits.{AllMapFit, AgreesOn, MapFits}
use Rattle.model_meaning.specs.MapMeaning.{MapRecord, MapMeaning, map_meaning, map_applied, record_made, record_rules, own_number, instance_number, is_own, number_at, numbers_of, greatest, higher, no_numbers, named_instances}
use Rattle.model_meaning.specs.Sound.{AgreeOnInstances, IsSoundRecord, IsSoundMap}
use Rattle.model_meaning.proofs.KeptRowLemmas.{kept_all, kept_rows}
use Rattle.model_meaning.proofs.MapLemmas.{map_more}
use Rattle.model_meaning.proofs.MapPlaceLemmas.{changed_same}
use Rattle.model_octets.proofs.PairLemmas.{pairs_head, pairs_tail}
use Rattle.store_instances.specs.FoundInstances.{AreInstancesSound}

-- ---- no entry names the greatest number of its type

no_own : (own : Bool) (n : ℕ) → own_number own n ≢ 4294967295
no_own false n e = omega (arith, e)
no_own true n e = by_test (n == 4294967295) refl e
  where
    by_test : (b : Bool) → (n == 4294967295) ≡ b → (if true && not b then n else 0) ≡ 4294967295 → ⊥
    by_test true t e = omega (arith, e)
    by_test false t e = grind (arith, common_steps, t, e)

greater_of : (a b : ℕ) → a ≢ 4294967295 → b ≢ 4294967295 → max a b ≢ 4294967295
greater_of a b p q e = omega (arith, p, q, e)

abbrev number_of : List ℕ → InstRow → ℕ
number_of store row = instance_number store row.id.0

none_last : (store : List ℕ) (most : ℕ) (rows : List InstRow) → most ≢ 4294967295 → fold (λ most row. max most (number_of store row)) most rows ≢ 4294967295
none_last store most [] p = p
none_last store most (row ∷ rows) p =
    none_last store (max most (number_of store row)) rows (greater_of most (number_of store row) p (no_own (is_own store row.id.0 && (number_at 8 row.id.0 == 4294967295)) (number_at 12 row.id.0)))

no_last : (m : MapMeaning) (entry : MapEntry) → MapFits m entry → (numbers_of m.store entry).instance ≢ 4294967295
no_last m (map.H h) f = λ e. let x = f.2.high in omega (arith, x, e)
no_last m (map.B b g n) f = λ e. omega (arith, e)
no_last m (map.G b g) f = λ e. omega (arith, e)
no_last m (map.S origin count uid file offset size guid rows) f = none_last m.store 0 rows (λ e. omega (arith, e))
no_last m (map.U u) f = λ e. omega (arith, e)
no_last m (map.D us) f = λ e. omega (arith, e)
no_last m (map.T cs) f = λ e. omega (arith, e)
no_last m (map.P file target ms us) f = λ e. omega (arith, e)
no_last m (map.E file) f = λ e. omega (arith, e)
no_last m (map.X b cs) f = λ e. omega (arith, e)
no_last m (map.V b n) f = λ e. omega (arith, e)

highest_last : (store : List ℕ) (before entries : List MapEntry) (most : Highest) → most.instance ≢ 4294967295 → AllMapFit store before entries → (fold (λ most entry. higher most (numbers_of store entry)) most entries).instance ≢ 4294967295
highest_last store before [] most p f = p
highest_last store before (entry ∷ entries) most p f =
    highest_last store (before ++ entry ∷ []) entries (higher most (numbers_of store entry)) (greater_of most.instance (numbers_of store entry).instance p (no_last (map_meaning store before) entry f.0)) f.1

-- ---- each named instance is up to the highest

abbrev UpTo : List ℕ → ℕ → MapRecord → Type 0
UpTo store most row = All (λ i. number_of store i ≤ most) row.instances

fold_high : (store : List ℕ) (most : ℕ) (rows : List InstRow) → most ≤ fold (λ most row. max most (number_of store row)) most rows
fold_high store most [] = omega arith
fold_high store most (row ∷ rows) = let h = fold_high store (max most (number_of store row)) rows in omega (arith, h)

fold_each : (store : List ℕ) (most : ℕ) (rows : List InstRow) → All (λ row. number_of store row ≤ fold (λ most row. max most (number_of store row)) most rows) rows
fold_each store most [] = All-nil (λ (row : InstRow). number_of store row ≤ most)
fold_each store most (row ∷ rows) =
    let top : ℕ = fold (λ most row. max most (number_of store row)) (max most (number_of store row)) rows in
    let h : max most (number_of store row) ≤ top = fold_high store (max most (number_of store row)) rows in
    All-cons (λ (r : InstRow). number_of store r ≤ top) row rows (omega (arith, h)) (fold_each store (max most (number_of store row)) rows)

made_up_to : (store : List ℕ) (most : ℕ) (e : MapEntry) → (numbers_of store e).instance ≤ most → All (UpTo store most) (record_made e)
made_up_to store most (map.H h) le = All-nil (UpTo store most)
made_up_to store most (map.B b g n) le = All-nil (UpTo store most)
made_up_to store most (map.G b g) le = All-nil (UpTo store most)
made_up_to store most (map.S o c u f a z g is) le =
    let l : greatest (number_of store) is ≤ most = le in
    All-cons (UpTo store most) _ [] (All-weaker (λ (i : InstRow). number_of store i ≤ greatest (number_of store) is) (λ (i : InstRow). number_of store i ≤ most) (λ i h. omega (arith, h, l)) is (fold_each store 0 is)) (All-nil (UpTo store most))
made_up_to store most (map.U u) le = All-nil (UpTo store most)
made_up_to store most (map.D us) le = All-nil (UpTo store most)
made_up_to store most (map.T cs) le = All-nil (UpTo store most)
made_up_to store most (map.P f t ms us) le = All-nil (UpTo store most)
made_up_to store most (map.E f) le = All-nil (UpTo store most)
made_up_to store most (map.X b cs) le = All-nil (UpTo store most)
made_up_to store most (map.V b n) le = All-nil (UpTo store most)

abbrev NamesUpTo : MapMeaning → Type 0
NamesUpTo m = All (UpTo m.store m.highest.instance) m.records

up_to_more : (m : MapMeaning) (e : MapEntry) → NamesUpTo m → NamesUpTo (map_applied e m)
up_to_more m e h =
    let most : ℕ = (map_applied e m).highest.instance in
    let named : (numbers_of m.store e).instance ≤ most = omega arith in
    let low : m.highest.instance ≤ most = omega arith in
    All-append (UpTo m.store most) (kept_rows record_rules e m.records) (record_made e)
    (kept_all record_rules e m.records (UpTo m.store m.highest.instance) (UpTo m.store most)
    (λ row l. subst (λ (is : List InstRow). All (λ i. number_of m.store i ≤ most) is) (sym (changed_same e row).instances)
    (All-weaker (λ (i : InstRow). number_of m.store i ≤ m.highest.instance) (λ (i : InstRow). number_of m.store i ≤ most) (λ i k. omega (arith, k, low)) row.instances l)) h)
    (made_up_to m.store most e named)

up_to_from : (store : List ℕ) (before entries : List MapEntry) → NamesUpTo (map_meaning store before) → NamesUpTo (map_meaning store (before ++ entries))
up_to_from store before [] h = subst (λ (es : List MapEntry). NamesUpTo (map_meaning store es)) (sym (append-nil before)) h
up_to_from store before (e ∷ entries) h =
    let one : NamesUpTo (map_meaning store (before ++ e ∷ [])) = subst NamesUpTo (sym (map_more store before e)) (up_to_more (map_meaning store before) e h) in
    subst (λ (es : List MapEntry). NamesUpTo (map_meaning store es)) (append_assoc before (e ∷ []) entries) (up_to_from store (before ++ e ∷ []) entries one)

-- ---- all instances of all records

all_flat : {X Y : Type 0} → (P : Y → Type 0) (f : X → List Y) (xs : List X) → All (λ x. All P (f x)) xs → All P (flat_map f xs)
all_flat P f [] a = All-nil P
all_flat P f (x ∷ xs) a = All-append P (f x) (flat_map f xs) (All-head (λ y. All P (f y)) x xs a) (all_flat P f xs (All-tail (λ y. All P (f y)) x xs a))

-- two of one list agree, whichever comes first
turned : (a b : InstRow) → AgreesOn a b → AgreesOn b a
turned a b h = λ same. let p = h (sym same) in (sym p.0, sym p.1)

agree_within : (rows : List InstRow) → AllPairs AgreesOn rows → All (λ a. All (AgreesOn a) rows) rows
agree_within [] p = All-nil (λ (a : InstRow). All (AgreesOn a) [])
agree_within (x ∷ xs) p =
    let first = pairs_head AgreesOn x xs p in
    All-cons (λ (a : InstRow). All (AgreesOn a) (x ∷ xs)) x xs (All-cons (AgreesOn x) x xs (λ same. (refl, refl)) first)
    (λ k d lt. All-cons (AgreesOn (get_or xs k d)) x xs (turned x (get_or xs k d) (first k d lt)) (agree_within xs (pairs_tail AgreesOn x xs p) k d lt))

-- one against all records, and all against all
abbrev Agree : MapRecord → MapRecord → Type 0
Agree a b = All (λ j. All (AgreesOn j) a.instances) b.instances

back : (a b : MapRecord) → Agree a b → Agree b a
back a b h = λ k d lt m e le. turned _ _ (h m e le k d lt)

agree_all : (most : ℕ) (rows : List MapRecord) → All (IsSoundRecord most) rows → AllPairs AgreeOnInstances rows → All (λ a. All (Agree a) rows) rows
agree_all most [] s p = All-nil (λ (a : MapRecord). All (Agree a) [])
agree_all most (x ∷ xs) s p =
    let first = pairs_head AgreeOnInstances x xs p in
    let itself : Agree x x = agree_within x.instances (All-head (IsSoundRecord most) x xs s).agree in
    All-cons (λ (a : MapRecord). All (Agree a) (x ∷ xs)) x xs (All-cons (Agree x) x xs itself first)
    (λ k d lt. All-cons (Agree (get_or xs k d)) x xs (back x (get_or xs k d) (first k d lt)) (agree_all most xs (All-tail (IsSoundRecord most) x xs s) (pairs_tail AgreeOnInstances x xs p) k d lt))

abbrev names : List MapRecord → List InstRow
names rows = flat_map (λ row. row.instances) rows

agree_flat : (rows : List MapRecord) → All (λ a. All (Agree a) rows) rows → All (λ j. All (AgreesOn j) (names rows)) (names rows)
agree_flat rows h =
    all_flat (λ j. All (AgreesOn j) (names rows)) (λ (row : MapRecord). row.instances) rows
    (λ k d lt m e le. all_flat (AgreesOn _) (λ (row : MapRecord). row.instances) rows (λ i c at. h i c at k d lt m e le))

-- the law of the meaning of map logs
abbrev pub MapsAreSound : Type 0
MapsAreSound = (store : List ℕ) (entries : List MapEntry) → AllMapFit store [] entries → AllByRecursion MapInRange entries → IsSoundMap (map_meaning store entries)

pub instances_sound : MapsAreSound → (store : List ℕ) (entries : List MapEntry) → AllMapFit store [] entries → AllByRecursion MapInRange entries → AreInstancesSound (map_meaning store entries)
instances_sound sound store entries fit range =
    let m : MapMeaning = map_meaning store entries in
    let s : IsSoundMap m = sound store entries fit range in
    let all : All (λ j. All (AgreesOn j) (names m.records)) (names m.records) = agree_flat m.records (agree_all m.highest.map m.records s.records s.agree) in
    record {
      numbers = all_flat (λ i. number_of store i ≤ m.highest.instance) (λ (row : MapRecord). row.instances) m.records (up_to_from store [] entries (All-nil (UpTo store 0)));
      last = highest_last store [] entries no_numbers (λ e. omega (arith, e)) fit;
      agree = λ a b one other. All-contains (AgreesOn a) (names m.records) b (All-contains (λ j. All (AgreesOn j) (names m.records)) (names m.records) a all one) other;
    }
