-- What a store has, counted by its places.
use Rattle.mail_ops.proofs.Common.{◌≡◌, ◌<◌, ◌+◌, ◌==◌, ℕ, Bool, true, false, cond, List, [], ◌∷◌, ◌++◌, map, take, Option, Some, None, refl, sym, ◌∙◌, ap, subst, arith, flat_map, sum_by, if◌then◌else◌, option_map, option_map_or, bytes_eq, eq-eqb, ne_eqb, nat_tests, map-append, sum_by-cons, History}
use Rattle.mail_ops.proofs.Common.{ListedMessage, Mailbox, Lists, listing_row, BoxMeaning, MapRecord, MapBox, MapMeaning, listed_row, ShowLists, meaning_numbered, count_different, IsStore, StoreValue, indexes_of, OpenBox}
use Rattle.std.proofs.Common.{zero, suc, length, get_or, slice_get, All, AllPairs, append-nil}
use Rattle.std.specs.List.{list_any}
use Rattle.std.specs.Ordering.{is_eq, eq_by_cmp, nat_cmp}
use Rattle.std.specs.Cmp.Lexicographic.{slice_cmp}
use Rattle.std.specs.Set.{distinct_count, unique_keys, is_member}
use Rattle.std.proofs.lemmas.Bool.{cond-true, cond-false}
use Rattle.std.proofs.lemmas.Cmp.{same_from_slice_cmp}
use Rattle.std.proofs.lemmas.Grind.{flat_map-append}
use Rattle.std.proofs.lemmas.List.{take_more, length-map}
use Rattle.std.proofs.lemmas.List.Elements.{All-head, All-tail}
use Rattle.std.proofs.lemmas.List.Sums.{sum_by_more}
use Rattle.std.proofs.lemmas.Option.{slice_get-get_or, get_or_from_slice_get, slice_get_within}
use Rattle.std.proofs.Math.Seq.{take-length}
use Rattle.mdbox_base.specs.declared.entries.InstRow.{InstRow}
use Rattle.model_octets.proofs.PairLemmas.{pairs_head, pairs_tail}
use Rattle.map_index.specs.Shown.{shown_box}
use Rattle.map_index.specs.declared.rows.BoxAt.{BoxAt}
use Rattle.store_core.specs.Value.{list_numbered}
use Rattle.store_core.proofs.CountingLemmas.{one_each}
use Rattle.mail_ops.proofs.FlagListLemmas.{some_there}
use Rattle.mail_ops.proofs.MessageLemmas.{store_is_sound}

-- ---- sums, place by place

pub sum_one : {X : Type 0} → (f : X → ℕ) (xs : List X) (i : ℕ) (x : X) → slice_get xs i ≡ Some x → sum_by f (take (i + 1) xs) ≡ sum_by f (take i xs) + f x
sum_one f xs i x is = sum_by_more f xs i x (slice_get_within xs i x is) ∙ ap (λ y. sum_by f (take i xs) + f y) (get_or_from_slice_get xs i x x is)

no_record : MapRecord
no_record = record { uid = 0; origin = 0; count = 0; file = 0; offset = 0; size = 0; guid = []; instances = [] }

pub sum_record : (rows : List MapRecord) (i : ℕ) → i < length rows → sum_by (λ row. row.count) (take (i + 1) rows) ≡ sum_by (λ row. row.count) (take i rows) + option_map_or (λ row. row.count) (slice_get rows i) 0
sum_record rows i within =
    let there = slice_get-get_or rows i no_record within in
    sum_one (λ (row : MapRecord). row.count) rows i (get_or rows i no_record) there ∙ ap (λ (o : Option MapRecord). sum_by (λ (row : MapRecord). row.count) (take i rows) + option_map_or (λ row. row.count) o 0) (sym there)

pub sum_listed : (meanings : List BoxMeaning) (i many : ℕ) → option_map (λ m. length m.rows) (slice_get meanings i) ≡ Some many → sum_by (λ m. length m.rows) (take (i + 1) meanings) ≡ sum_by (λ m. length m.rows) (take i meanings) + many
sum_listed meanings i many e = by_option (slice_get meanings i) refl e
  where
    by_option : (o : Option BoxMeaning) → slice_get meanings i ≡ o → option_map (λ m. length m.rows) o ≡ Some many → sum_by (λ m. length m.rows) (take (i + 1) meanings) ≡ sum_by (λ m. length m.rows) (take i meanings) + many
    by_option None is k = absurd (let f : None ≡ Some many = k in cc f)
    by_option (Some m) is k =
        let f : Some (length m.rows) ≡ Some many = k in
        let same : length m.rows ≡ many = cc f in
        sum_one (λ (x : BoxMeaning). length x.rows) meanings i m is ∙ ap (λ (n : ℕ). sum_by (λ (x : BoxMeaning). length x.rows) (take i meanings) + n) same

pub all_of : {X : Type 0} → (xs : List X) (n : ℕ) → n ≡ length xs → take n xs ≡ xs
all_of xs n e = ap (λ (k : ℕ). take k xs) e ∙ take-length xs

-- ---- mailboxes by place

abbrev BoxesRise : MapBox → MapBox → Type 0
BoxesRise a b = a.number < b.number

later_than : (x : MapBox) (xs : List MapBox) (i : ℕ) (b : MapBox) → All (BoxesRise x) xs → slice_get xs i ≡ Some b → x.number < b.number
later_than x [] zero b above is = absurd (let k : None ≡ Some b = is in cc k)
later_than x [] (suc i) b above is = absurd (let k : None ≡ Some b = is in cc k)
later_than x (y ∷ ys) zero b above is =
    let k : Some y ≡ Some b = is in
    let same : y ≡ b = cc k in
    subst (λ (o : MapBox). x.number < o.number) same (All-head (BoxesRise x) y ys above)
later_than x (y ∷ ys) (suc i) b above is = later_than x ys i b (All-tail (BoxesRise x) y ys above) is

numbered_at : (boxes : List MapBox) (meanings : List BoxMeaning) (i : ℕ) (b : MapBox) → AllPairs BoxesRise boxes → length meanings ≡ length boxes → slice_get boxes i ≡ Some b → meaning_numbered b.number boxes meanings ≡ slice_get meanings i
numbered_at [] meanings zero b rising same is = absurd (let k : None ≡ Some b = is in cc k)
numbered_at [] meanings (suc i) b rising same is = absurd (let k : None ≡ Some b = is in cc k)
numbered_at (x ∷ xs) [] i b rising same is = absurd (omega (arith, same))
numbered_at (x ∷ xs) (m ∷ ms) zero b rising same is =
    let k : Some x ≡ Some b = is in
    let e : x ≡ b = cc k in
    cond-true (x.number == b.number) (Some m) (meaning_numbered b.number xs ms) (eq-eqb x.number b.number (ap (λ (o : MapBox). o.number) e))
numbered_at (x ∷ xs) (m ∷ ms) (suc i) b rising same is =
    let less : x.number < b.number = later_than x xs i b (pairs_head BoxesRise x xs rising) is in
    cond-false (x.number == b.number) (Some m) (meaning_numbered b.number xs ms) (ne_eqb x.number b.number (λ e. omega (arith, less, e)))
    ∙ numbered_at xs ms i b (pairs_tail BoxesRise x xs rising) (omega (arith, same)) is

pub one_meaning_each : {D : Type 0} → (history : Option History) (store : StoreValue D) → IsStore history store → length (indexes_of store.boxes) ≡ length store.map.boxes
one_meaning_each history store s = length-map store.boxes (λ (b : OpenBox). b.index.meaning) ∙ one_each store.map.store store.map.boxes store.boxes s.box_logs

-- the mailbox at a place of the map is the one at that place of the store
pub listed_there : {D : Type 0} → (history : Option History) (store : StoreValue D) (i : ℕ) (b : MapBox) → IsStore history store → slice_get store.map.boxes i ≡ Some b → list_numbered store b.number ≡ slice_get (indexes_of store.boxes) i
listed_there history store i b s is = numbered_at store.map.boxes (indexes_of store.boxes) i b (store_is_sound history store s).boxes_rising (one_meaning_each history store s) is

no_meaning : BoxMeaning
no_meaning = record { rows = []; next = 0 }

-- what is found by the number that the map tells at a place
pub found_there : {D : Type 0} → (history : Option History) (store : StoreValue D) (m : MapMeaning) (i : ℕ) (at : BoxAt) (found : Option BoxMeaning) → IsStore history store → m ≡ store.map → Some at ≡ option_map shown_box (slice_get m.boxes i) → found ≡ list_numbered store at.number.0 → found ≡ slice_get (indexes_of store.boxes) i
found_there history store m i at found s same is numbered =
    let b = some_there shown_box (slice_get m.boxes i) at is in
    numbered ∙ (ap (λ (a : BoxAt). list_numbered store a.number.0) b.2 ∙ listed_there history store i b.0 s (ap (λ (n : MapMeaning). slice_get n.boxes i) (sym same) ∙ b.1))

pub not_listed_there : {D : Type 0} → (history : Option History) (store : StoreValue D) (i : ℕ) → IsStore history store → i < length store.map.boxes → None ≡ slice_get (indexes_of store.boxes) i → ⊥
not_listed_there history store i s within none =
    let within_meanings : i < length (indexes_of store.boxes) = (let e = one_meaning_each history store s in omega (arith, within, e)) in
    let k : None ≡ Some (get_or (indexes_of store.boxes) i no_meaning) = none ∙ slice_get-get_or (indexes_of store.boxes) i no_meaning within_meanings in
    cc k

pub many_there : (meanings : List BoxMeaning) (i many : ℕ) (m : BoxMeaning) → Some m ≡ slice_get meanings i → many ≡ length m.rows → option_map (λ x. length x.rows) (slice_get meanings i) ≡ Some many
many_there meanings i many m is e = ap (option_map (λ (x : BoxMeaning). length x.rows)) (sym is) ∙ ap Some (sym e)

-- ---- what is shown

same_many : (m : BoxMeaning) (xs : List ListedMessage) → map listed_row m.rows ≡ map listing_row xs → length m.rows ≡ length xs
same_many m xs e = sym (length-map m.rows listed_row) ∙ (ap length e ∙ length-map xs listing_row)

pub shown_many : (boxes : List MapBox) (meanings : List BoxMeaning) (lists : Lists) → ShowLists boxes meanings lists → sum_by (λ m. length m.rows) meanings ≡ sum_by (λ mailbox. length mailbox.messages) lists
shown_many [] [] [] h = refl
shown_many (b ∷ bs) (m ∷ ms) (l ∷ ls) h =
    let a = sum_by-cons (λ (x : BoxMeaning). length x.rows) m ms in
    let c = sum_by-cons (λ (x : Mailbox). length x.messages) l ls in
    let e = same_many m l.messages h.0.rows in
    let f = shown_many bs ms ls h.1 in
    omega (arith, a, c, e, f)
shown_many boxes meanings lists h = absurd h

-- ---- different ids

same_test : (xs ys : List ℕ) → eq_by_cmp (slice_cmp nat_cmp) xs ys ≡ bytes_eq xs ys
same_test xs ys = same_from_slice_cmp nat_cmp is_eq bytes_eq refl (λ y ys. refl) (λ x xs. refl) (λ x y xs ys o h. grind (arith, nat_tests)) xs ys (slice_cmp nat_cmp xs ys) refl

same_member : (texts : List (List ℕ)) (text : List ℕ) → is_member (eq_by_cmp (slice_cmp nat_cmp)) texts text ≡ list_any (bytes_eq text) texts
same_member [] text = refl
same_member (t ∷ ts) text = rw (same_test text t, same_member ts text) refl

pub different_ids : (texts : List (List ℕ)) → distinct_count (eq_by_cmp (slice_cmp nat_cmp)) texts ≡ count_different texts
different_ids [] = refl
different_ids (t ∷ ts) = ap (λ (b : Bool). length (cond b (unique_keys (eq_by_cmp (slice_cmp nat_cmp)) ts) (t ∷ unique_keys (eq_by_cmp (slice_cmp nat_cmp)) ts))) (same_member ts t) ∙ by_test (list_any (bytes_eq t) ts) (different_ids ts)
  where
    by_test : (b : Bool) → length (unique_keys (eq_by_cmp (slice_cmp nat_cmp)) ts) ≡ count_different ts → length (cond b (unique_keys (eq_by_cmp (slice_cmp nat_cmp)) ts) (t ∷ unique_keys (eq_by_cmp (slice_cmp nat_cmp)) ts)) ≡ (if b then count_different ts else count_different ts + 1)
    by_test true e = e
    by_test false e = let k : length (unique_keys (eq_by_cmp (slice_cmp nat_cmp)) ts) ≡ count_different ts = e in omega (arith, k)

-- ---- ids that are gathered

pub ids_more : (rows : List InstRow) (i : ℕ) (row : InstRow) → slice_get rows i ≡ Some row → map (λ x. x.id.0) (take (i + 1) rows) ≡ map (λ x. x.id.0) (take i rows) ++ row.id.0 ∷ []
ids_more rows i row is =
    ap (map (λ (x : InstRow). x.id.0)) (take_more rows i row (slice_get_within rows i row is)) ∙ map-append (λ (x : InstRow). x.id.0) (take i rows) (get_or rows i row ∷ [])
    ∙ ap (λ (x : InstRow). map (λ (y : InstRow). y.id.0) (take i rows) ++ x.id.0 ∷ []) (get_or_from_slice_get rows i row row is)

flat_more : (rows : List MapRecord) (i : ℕ) (row : MapRecord) → slice_get rows i ≡ Some row → flat_map (λ x. x.instances) (take (i + 1) rows) ≡ flat_map (λ x. x.instances) (take i rows) ++ row.instances
flat_more rows i row is =
    ap (flat_map (λ (x : MapRecord). x.instances)) (take_more rows i row (slice_get_within rows i row is)) ∙ flat_map-append (λ (x : MapRecord). x.instances) (take i rows) (get_or rows i row ∷ [])
    ∙ (ap (λ (x : MapRecord). flat_map (λ (y : MapRecord). y.instances) (take i rows) ++ (x.instances ++ [])) (get_or_from_slice_get rows i row row is) ∙ ap (λ (l : List InstRow). flat_map (λ (y : MapRecord). y.instances) (take i rows) ++ l) (append-nil row.instances))

pub named_more : (rows : List MapRecord) (i : ℕ) (row : MapRecord) → slice_get rows i ≡ Some row
    → map (λ x. x.id.0) (flat_map (λ r. r.instances) (take (i + 1) rows)) ≡ map (λ x. x.id.0) (flat_map (λ r. r.instances) (take i rows)) ++ map (λ x. x.id.0) row.instances
named_more rows i row is = ap (map (λ (x : InstRow). x.id.0)) (flat_more rows i row is) ∙ map-append (λ (x : InstRow). x.id.0) (flat_map (λ (r : MapRecord). r.instances) (take i rows)) row.instances

-- with the instances of the record at a place
pub named_by : (rows : List MapRecord) (i : ℕ) (instances : List InstRow) (old new : List (List ℕ)) → Some instances ≡ option_map (λ r. r.instances) (slice_get rows i) → old ≡ map (λ x. x.id.0) (flat_map (λ r. r.instances) (take i rows)) → new ≡ old ++ map (λ x. x.id.0) instances
    → new ≡ map (λ x. x.id.0) (flat_map (λ r. r.instances) (take (i + 1) rows))
named_by rows i instances old new is so_far more =
    let row = some_there (λ (r : MapRecord). r.instances) (slice_get rows i) instances is in
    more ∙ (ap (λ (l : List (List ℕ)). l ++ map (λ (x : InstRow). x.id.0) instances) so_far ∙ (ap (λ (l : List InstRow). map (λ (x : InstRow). x.id.0) (flat_map (λ (r : MapRecord). r.instances) (take i rows)) ++ map (λ (x : InstRow). x.id.0) l) row.2 ∙ sym (named_more rows i row.0 row.1)))
