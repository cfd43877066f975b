-- Rows of instances that are sorted by id, and each once.
use Rattle.std.specs.Prelude.{AllPairs, Contains, IsPermutation, not, if◌then◌else◌}
use Rattle.std.specs.Cmp.{IsTotalOrder}
use Rattle.std.specs.Cmp.Lexicographic.{slice_cmp}
use Rattle.std.specs.Int.{w32, to_be_bytes, from_be_bytes}
use Rattle.std.specs.List.{dedup}
use Rattle.std.specs.List.Sorted.{IsSorted, IsStrictlySortedBy}
use Rattle.std.specs.Ordering.{nat_cmp, ordering_then, is_eq, eq_by_cmp}
use Rattle.std.specs.Str.{bytes_eq}
use Rattle.std.specs.declared.cmp.Ordering.{Ordering}
use Rattle.std.specs.declared.cmp.Ordering.TheVariants.{Less, Equal, Greater}
use Rattle.std.proofs.Common.{◌≡◌, ◌<◌, ◌≤◌, ◌+◌, ◌^◌, ◌==◌, ◌&&◌, ℕ, Bool, true, false, List, [], ◌∷◌, ◌++◌, length, map, take, drop, get_or, Some, All, refl, sym, ◌∙◌, ap, subst, arith, append-nil, append_assoc, length-append}
use Rattle.std.proofs.Math.Seq.{take-append_seam, drop-append_seam}
use Rattle.std.proofs.lemmas.Cmp.{nat_list_cmp_total, nat_cmp_total, on_total, then_total, tied_itself, eq_by_cmp_equiv}
use Rattle.std.specs.Cmp.{IsEquivalence, unsigned_ties}
use Rattle.std.proofs.lemmas.Bool.Decides.{nat_tests}
use Rattle.std.proofs.lemmas.List.Elements.{All-nil, All-cons, All-head, All-tail, All-map, All-contains, All-contains_itself, All-weaker}
use Rattle.std.proofs.lemmas.List.Filters.{All-dedup}
use Rattle.std.proofs.lemmas.List.Kept.{AllPairs-cons, IsStrictlySortedBy-dedup, Contains-dedup}
use Rattle.std.proofs.lemmas.List.Sorted.{Contains-permutation, All-permutation}
use Rattle.std.proofs.lemmas.Map.Keys.{sorted_tail}
use Rattle.std.proofs.lemmas.Map.Text.{is_eq-slice_cmp}
use Rattle.std.proofs.lemmas.Map.Views.{All-after_first}
use Rattle.std.proofs.lemmas.Nat.{from_be_bytes-to_be_bytes_4}
use Rattle.std.proofs.lemmas.Slice.Eq.{bytes_eq-Decides}
use Rattle.mdbox_base.specs.declared.entries.InstRow.{InstRow}
use Rattle.mdbox_base.specs.declared.ids.InstId.{InstId}
use Rattle.mdbox_base.specs.declared.ids.StoreId.{StoreId}
use Rattle.model_meaning.specs.MapFits.{AgreesOn}
use Rattle.model_meaning.specs.MapMeaning.{MapMeaning, instance_number, is_own, number_at, own_number, named_instances}
use Rattle.model_octets.proofs.PairLemmas.{pairs_map}
use Rattle.sis_store.proofs.IdLemmas.{same_octets, instance-in}
use Rattle.sis_store.specs.Instances.{InstancesValue, IsIdBefore, HasDrawnNumber, numbered_id, instance_found, instance_in}
use Rattle.sis_store.specs.declared.instance.KnownInstance.{KnownInstance}
use Rattle.store_instances.specs.FoundInstances.{AreInstancesSound, IsFoundInstances}
use Rattle.store_instances.specs.NamedRows.{named_row, inst_row}
use Rattle.store_instances.specs.declared.named.NamedRow.{NamedRow}

-- ---- the order of rows

abbrev pub row_order : NamedRow → NamedRow → Ordering
row_order a b = ordering_then (slice_cmp nat_cmp a.id.0 b.id.0) (ordering_then (slice_cmp nat_cmp a.hash.0 b.hash.0) (nat_cmp a.size b.size))

abbrev pub same_row : NamedRow → NamedRow → Bool
same_row a b = bytes_eq a.id.0 b.id.0 && (bytes_eq a.hash.0 b.hash.0 && (a.size == b.size))

row_total : IsTotalOrder row_order
row_total = then_total (on_total (λ (r : NamedRow). r.id.0) nat_list_cmp_total) (then_total (on_total (λ (r : NamedRow). r.hash.0) nat_list_cmp_total) (on_total (λ (r : NamedRow). r.size) nat_cmp_total))

then_eq : (o p : Ordering) → is_eq (ordering_then o p) ≡ (is_eq o && is_eq p)
then_eq Less p = refl
then_eq Equal p = refl
then_eq Greater p = refl

row_ties : (a b : NamedRow) → same_row a b ≡ eq_by_cmp row_order a b
row_ties a b =
    let i : is_eq (slice_cmp nat_cmp a.id.0 b.id.0) ≡ bytes_eq a.id.0 b.id.0 = is_eq-slice_cmp a.id.0 b.id.0 in
    let h : is_eq (slice_cmp nat_cmp a.hash.0 b.hash.0) ≡ bytes_eq a.hash.0 b.hash.0 = is_eq-slice_cmp a.hash.0 b.hash.0 in
    let s : (a.size == b.size) ≡ is_eq (nat_cmp a.size b.size) = unsigned_ties a.size b.size in
    ap (λ (t : Bool). t && (bytes_eq a.hash.0 b.hash.0 && (a.size == b.size))) (sym i)
    ∙ ap (λ (t : Bool). is_eq (slice_cmp nat_cmp a.id.0 b.id.0) && (t && (a.size == b.size))) (sym h)
    ∙ ap (λ (t : Bool). is_eq (slice_cmp nat_cmp a.id.0 b.id.0) && (is_eq (slice_cmp nat_cmp a.hash.0 b.hash.0) && t)) s
    ∙ ap (λ (t : Bool). is_eq (slice_cmp nat_cmp a.id.0 b.id.0) && t) (sym (then_eq (slice_cmp nat_cmp a.hash.0 b.hash.0) (nat_cmp a.size b.size)))
    ∙ sym (then_eq (slice_cmp nat_cmp a.id.0 b.id.0) (ordering_then (slice_cmp nat_cmp a.hash.0 b.hash.0) (nat_cmp a.size b.size)))

-- ---- ids rise

equal_octets : (xs ys : List ℕ) → xs ≡ ys → slice_cmp nat_cmp xs ys ≡ Equal
equal_octets xs ys e = ap (slice_cmp nat_cmp xs) (sym e) ∙ tied_itself nat_list_cmp_total xs

equal_number : (x y : ℕ) → x ≡ y → nat_cmp x y ≡ Equal
equal_number x y e = ap (nat_cmp x) (sym e) ∙ tied_itself nat_cmp_total x

abbrev id_made : List ℕ → InstId
id_made octets = record { 0 = octets }

-- rows that differ, of which those with one id are one, differ in their ids
id_before : (a b : NamedRow) → AgreesOn (inst_row a) (inst_row b) → row_order a b ≡ Less → IsIdBefore a.id b.id
id_before a b agree less = by (slice_cmp nat_cmp a.id.0 b.id.0) refl
  where
    by : (o : Ordering) → slice_cmp nat_cmp a.id.0 b.id.0 ≡ o → slice_cmp nat_cmp a.id.0 b.id.0 ≡ Less
    by Less e = e
    by Greater e = absurd (let k : Greater ≡ Less = sym (ap (λ (o : Ordering). ordering_then o (ordering_then (slice_cmp nat_cmp a.hash.0 b.hash.0) (nat_cmp a.size b.size))) e) ∙ less in cc k)
    by Equal e =
        let same : a.id ≡ b.id = ap id_made (same_octets a.id.0 b.id.0 e) in
        let p = agree same in
        let h : slice_cmp nat_cmp a.hash.0 b.hash.0 ≡ Equal = equal_octets a.hash.0 b.hash.0 (ap (λ (x : _). x.0) p.0) in
        let s : nat_cmp a.size b.size ≡ Equal = equal_number a.size b.size p.1 in
        let all : row_order a b ≡ Equal =
        ap (λ (o : Ordering). ordering_then o (ordering_then (slice_cmp nat_cmp a.hash.0 b.hash.0) (nat_cmp a.size b.size))) e
        ∙ ap (λ (o : Ordering). ordering_then o (nat_cmp a.size b.size)) h ∙ s in
        absurd (let k : Equal ≡ Less = sym all ∙ less in cc k)

abbrev Among : MapMeaning → NamedRow → Type 0
Among m r = Contains (named_instances m) (inst_row r)

ids_rise : (m : MapMeaning) (rows : List NamedRow) → AreInstancesSound m → All (Among m) rows → IsStrictlySortedBy row_order rows → AllPairs (λ a b. IsIdBefore a.id b.id) (map inst_row rows)
ids_rise m [] s among sorted = λ i j d lt le. absurd (omega (arith, le))
ids_rise m (r ∷ rows) s among sorted =
    let less : All (λ q. row_order r q ≡ Less) rows = All-after_first row_order r rows sorted in
    let rest : All (Among m) rows = All-tail (Among m) r rows among in
    AllPairs-cons (λ (a b : InstRow). IsIdBefore a.id b.id) (inst_row r) (map inst_row rows)
    (All-map (λ (b : InstRow). IsIdBefore r.id b.id) inst_row rows (λ k d lt. id_before r (get_or rows k d) (s.agree (inst_row r) (inst_row (get_or rows k d)) (All-head (Among m) r rows among) (rest k d lt)) (less k d lt)))
    (ids_rise m rows s rest (sorted_tail row_order r rows sorted))

-- ---- what is among them

all_among : (m : MapMeaning) (rows : List InstRow) → All (Contains (named_instances m)) rows → All (Among m) (map named_row rows)
all_among m rows a = All-map (Among m) named_row rows a

pub among_found : (m : MapMeaning) (ys zs : List NamedRow) → IsPermutation (map named_row (named_instances m)) ys → zs ≡ dedup same_row ys → All (Among m) zs
among_found m ys zs same is =
    subst (All (Among m)) (sym is) (All-dedup same_row (Among m) ys (All-permutation (Among m) (map named_row (named_instances m)) ys same (all_among m (named_instances m) (All-contains_itself (named_instances m)))))

contains_map : {X Y : Type 0} → (f : X → Y) (xs : List X) (x : X) → Contains xs x → Contains (map f xs) (f x)
contains_map f xs x c = All-contains (λ y. Contains (map f xs) (f y)) xs x (back xs (All-contains_itself (map f xs))) c
  where
    back : (ys : List _) → All (Contains (map f xs)) (map f ys) → All (λ y. Contains (map f xs) (f y)) ys
    back [] a = All-nil (λ y. Contains (map f xs) (f y))
    back (y ∷ ys) a = All-cons (λ z. Contains (map f xs) (f z)) y ys (All-head (Contains (map f xs)) (f y) (map f ys) a) (back ys (All-tail (Contains (map f xs)) (f y) (map f ys) a))

text_same : (a b : List ℕ) → bytes_eq a b ≡ true → a ≡ b
text_same a b e = (bytes_eq-Decides a b).0 e

abbrev row_of : List ℕ → List ℕ → ℕ → NamedRow
row_of i h n = record { id = record { 0 = i }; hash = record { 0 = h }; size = n }

same_is : (a b : NamedRow) → same_row a b ≡ true → a ≡ b
same_is a b e = by (bytes_eq a.id.0 b.id.0) (bytes_eq a.hash.0 b.hash.0) (a.size == b.size) refl refl refl e
  where
    by : (p q r : Bool) → bytes_eq a.id.0 b.id.0 ≡ p → bytes_eq a.hash.0 b.hash.0 ≡ q → (a.size == b.size) ≡ r → (p && (q && r)) ≡ true → a ≡ b
    by true true true i h s all =
        let x : a.id.0 ≡ b.id.0 = text_same a.id.0 b.id.0 i in
        let y : a.hash.0 ≡ b.hash.0 = text_same a.hash.0 b.hash.0 h in
        let z : a.size ≡ b.size = grind (arith, nat_tests, s) in
        let e : row_of a.id.0 a.hash.0 a.size ≡ row_of b.id.0 b.hash.0 b.size = cc (x, y, z) in
        e
    by false q r i h s all = absurd (cc all)
    by true false r i h s all = absurd (cc all)
    by true true false i h s all = absurd (cc all)

row_equiv : IsEquivalence same_row
row_equiv =
    let e = eq_by_cmp_equiv row_total in
    record {
      refl = λ x. row_ties x x ∙ e.refl x;
      symm = λ x y. row_ties x y ∙ e.symm x y ∙ sym (row_ties y x);
      congr = λ x y z same. row_ties x z ∙ e.congr x y z (sym (row_ties x y) ∙ same) ∙ sym (row_ties y z);
    }

kept_row : (m : MapMeaning) (ys zs : List NamedRow) (row : InstRow) → IsPermutation (map named_row (named_instances m)) ys → zs ≡ dedup same_row ys → Contains (named_instances m) row → Contains zs (named_row row)
kept_row m ys zs row same is c =
    subst (λ (xs : List NamedRow). Contains xs (named_row row)) (sym is)
    (Contains-dedup row_equiv same_is ys (named_row row) (Contains-permutation (map named_row (named_instances m)) ys (named_row row) same (contains_map named_row (named_instances m) row c)))

-- ---- numbers

seam_take : (a b : List ℕ) (n : ℕ) → length a ≡ n → take n (a ++ b) ≡ a
seam_take a b n long = subst (λ (k : ℕ). take k (a ++ b) ≡ a) long (take-append_seam a b)

seam_drop : (a b : List ℕ) (n : ℕ) → length a ≡ n → drop n (a ++ b) ≡ b
seam_drop a b n long = subst (λ (k : ℕ). drop k (a ++ b) ≡ b) long (drop-append_seam a b)

bytes_same : (a : List ℕ) → bytes_eq a a ≡ true
bytes_same a = (bytes_eq-Decides a a).1 refl

abbrev full : List ℕ
full = 255 ∷ 255 ∷ 255 ∷ 255 ∷ []

full_number : (number_at 0 full == 4294967295) ≡ true
full_number = refl

own_itself : (n : ℕ) → n ≤ 4294967294 → own_number true n ≡ n
own_itself n most = by (n == 4294967295) refl
  where
    by : (t : Bool) → (n == 4294967295) ≡ t → (if true && not t then n else 0) ≡ n
    by true e = absurd (let same : n ≡ 4294967295 = grind (arith, nat_tests, e) in omega (arith, same, most))
    by false e = refl

number_of_id : (store : StoreId) (n : ℕ) → length store.0 ≡ 8 → n ≤ 4294967294 → instance_number store.0 (numbered_id store n).0 ≡ n
number_of_id store n long most =
    let o : List ℕ = to_be_bytes w32 n in
    let own : is_own store.0 (store.0 ++ (full ++ o)) ≡ true = ap (λ (x : List ℕ). bytes_eq x store.0) (seam_take store.0 (full ++ o) 8 long) ∙ bytes_same store.0 in
    let eight : drop 8 (store.0 ++ (full ++ o)) ≡ full ++ o = seam_drop store.0 (full ++ o) 8 long in
    let form : (number_at 8 (store.0 ++ (full ++ o)) == 4294967295) ≡ true = ap (λ (x : List ℕ). from_be_bytes w32 (take 4 x) == 4294967295) eight ∙ full_number in
    let twelve : length (store.0 ++ full) ≡ 12 = length-append store.0 full ∙ ap (λ (k : ℕ). k + 4) long in
    let behind : drop 12 (store.0 ++ (full ++ o)) ≡ o = ap (drop 12) (sym (append_assoc store.0 full o)) ∙ seam_drop (store.0 ++ full) o 12 twelve in
    let number : number_at 12 (store.0 ++ (full ++ o)) ≡ n =
    ap (λ (x : List ℕ). from_be_bytes w32 (take 4 x)) (behind ∙ sym (append-nil o)) ∙ (ap (from_be_bytes w32) (seam_take o [] 4 refl) ∙ from_be_bytes-to_be_bytes_4 n (omega (arith, most))) in
    ap (λ (t : Bool). own_number (t && (number_at 8 (store.0 ++ (full ++ o)) == 4294967295)) (number_at 12 (store.0 ++ (full ++ o)))) own
    ∙ ap (λ (t : Bool). own_number (true && t) (number_at 12 (store.0 ++ (full ++ o)))) form
    ∙ ap (own_number true) number ∙ own_itself n most

drawn_here : (store : StoreId) (highest : ℕ) (row : InstRow) → length store.0 ≡ 8 → instance_number store.0 row.id.0 ≤ highest → HasDrawnNumber store highest row.id
drawn_here store highest row long le = λ number most is.
    let e : instance_number store.0 row.id.0 ≡ number = ap (λ (i : InstId). instance_number store.0 i.0) is ∙ number_of_id store number long most in
    omega (arith, e, le)

-- ---- what is found

-- The rows that were sorted, each once.
pub record AreSortedRows (m : MapMeaning) (zs : List NamedRow) : Type 0 where
  pub among : All (Among m) zs
  pub rise : AllPairs (λ a b. IsIdBefore a.id b.id) (map inst_row zs)
  pub has : (row : InstRow) → Contains (named_instances m) row → Contains zs (named_row row)

pub sorted_rows : (m : MapMeaning) (xs ys zs : List NamedRow) → AreInstancesSound m → xs ≡ map named_row (named_instances m) → IsPermutation xs ys → IsSorted row_order ys → zs ≡ dedup same_row ys → AreSortedRows m zs
sorted_rows m xs ys zs s all same sorted is =
    let permuted : IsPermutation (map named_row (named_instances m)) ys = subst (λ (l : List NamedRow). IsPermutation l ys) all same in
    let among : All (Among m) zs = among_found m ys zs permuted is in
    record {
      among = among;
      rise = ids_rise m zs s among (subst (IsStrictlySortedBy row_order) (sym is) (IsStrictlySortedBy-dedup row_total row_ties ys sorted));
      has = λ row c. kept_row m ys zs row permuted is c;
    }

pub rows_drawn : (m : MapMeaning) (store : StoreId) (zs : List NamedRow) (highest : ℕ) → AreInstancesSound m → AreSortedRows m zs → m.store ≡ store.0 → length store.0 ≡ 8 → highest ≡ m.highest.instance → All (λ row. HasDrawnNumber store highest row.id) (map inst_row zs)
rows_drawn m store zs highest s sorted same long is =
    All-map (λ (row : InstRow). HasDrawnNumber store highest row.id) inst_row zs
    (All-weaker (Among m) (λ (r : NamedRow). HasDrawnNumber store highest r.id)
    (λ r among. drawn_here store highest (inst_row r) long (let h = subst (λ (o : List ℕ). instance_number o r.id.0 ≤ m.highest.instance) same (All-contains (λ (i : InstRow). instance_number m.store i.id.0 ≤ m.highest.instance) (named_instances m) (inst_row r) s.numbers among) in omega (arith, h, is))) zs sorted.among)

pub rows_found : (m : MapMeaning) (store : StoreId) (zs : List NamedRow) (highest : ℕ) (value : InstancesValue) → AreSortedRows m zs → m.store ≡ store.0 → highest ≡ m.highest.instance
    → value ≡ record { known = map instance_found (map inst_row zs); store = store; highest = highest } → IsFoundInstances m value
rows_found m store zs highest value s same is made =
    let known : List KnownInstance = map instance_found (map inst_row zs) in
    subst (IsFoundInstances m) (sym made) (record {
      store = sym same;
      highest = is;
      only = All-map (λ (k : KnownInstance). Contains (named_instances m) k.row) instance_found (map inst_row zs) (All-map (Contains (named_instances m)) inst_row zs s.among);
      named = All-weaker (Contains (named_instances m)) (λ (row : InstRow). instance_in row.id known ≡ Some (instance_found row))
          (λ row c. instance-in known (instance_found row) (rise_known zs s.rise) (contains_map instance_found (map inst_row zs) row (contains_map inst_row zs (named_row row) (s.has row c)))) (named_instances m) (All-contains_itself (named_instances m));
    })
  where
    rise_known : (zs : List NamedRow) → AllPairs (λ (a b : InstRow). IsIdBefore a.id b.id) (map inst_row zs) → AllPairs (λ (a b : KnownInstance). IsIdBefore a.row.id b.row.id) (map instance_found (map inst_row zs))
    rise_known zs rise = pairs_map (λ (a b : InstRow). IsIdBefore a.id b.id) (λ (a b : KnownInstance). IsIdBefore a.row.id b.row.id) instance_found (λ a b h. h) (map inst_row zs) rise

-- the rows as they are handed on
pub row_as : (zs : List NamedRow) (seen : List NamedRow) (rows given : List InstRow) → rows ≡ map inst_row seen → seen ≡ zs → given ≡ rows → given ≡ map inst_row zs
row_as zs seen rows given are same is = is ∙ are ∙ ap (map inst_row) same
