-- Regions and instances in order.
use Rattle.std.proofs.Common.{◌≡◌, ◌<◌, ◌+◌, ◌-◌, ℕ, suc, zero, false, List, [], ◌∷◌, ◌++◌, length, map, take, get_or, slice_get, Option, Some, None, Bor, AllPairs, inl, inr, refl, sym, ◌∙◌, ap, subst, arith, append-nil, append_assoc}
use Rattle.std.specs.Ordering.{MatchOrdering, nat_cmp, ordering_then, ordering_reverse, is_lt, is_gt}
use Rattle.std.specs.declared.cmp.Ordering.{Ordering}
use Rattle.std.specs.declared.cmp.Ordering.TheVariants.{Less, Equal, Greater}
use Rattle.std.specs.Cmp.Lexicographic.{slice_cmp}
use Rattle.std.proofs.lemmas.Cmp.{ranked, upto, nat_list_cmp_total}
use Rattle.store_checks.specs.declared.instances.Instance.{Instance}
use Rattle.std.specs.Option.{option_map, option_copied}
use Rattle.std.specs.List.{flat_map}
use Rattle.std.specs.Prelude.{IsSome}
use Rattle.std.proofs.lemmas.List.{map-append}
use Rattle.mdbox_base.specs.declared.entries.InstRow.{InstRow}
use Rattle.model_meaning.specs.MapMeaning.{MapRecord, MapMeaning}
use Rattle.map_index.specs.Shown.{MapRow, shown_record}
use Rattle.store_checks.specs.declared.regions.Region.{Region}
use Rattle.store_checks.specs.Lengths.{region_of, IsNoLater, instance_of, IsNamedNoLater}
use Rattle.store_checks.proofs.WalkLemmas.{behind, map_next, take_next, there_seen}

-- the region of a row
abbrev shown_region : MapRow → Region
shown_region row = record { file = row.file.0; offset = row.offset; size = row.size }

pub region_next : (records : List MapRecord) (place : ℕ) (o : Option MapRow) (row : MapRow) (regions more : List Region) → o ≡ option_map shown_record (slice_get records place) → o ≡ Some row
    → regions ≡ map region_of (take place records) → more ≡ regions ++ shown_region row ∷ [] → more ≡ map region_of (take (place + 1) records)
region_next records place o row regions more e is same push =
    let b = behind shown_record (slice_get records place) row (sym is ∙ e) in
    map_next region_of records place b.0 (shown_region row) regions more b.1 (ap shown_region b.2) same push

-- ---- what neighbours keep, all keep

far : {X : Type 0} → (R : X → X → Type 0) → ((a b c : X) → R a b → R b c → R a c) → (xs : List X) → ((k : ℕ) (d : X) → k + 1 < length xs → R (get_or xs k d) (get_or xs (k + 1) d))
    → (i n j : ℕ) (d : X) → j ≡ i + n + 1 → j < length xs → R (get_or xs i d) (get_or xs j d)
far {X} R trans xs next i zero j d e lt =
    let P : ℕ → Type 0 = λ (k : ℕ). R (get_or xs i d) (get_or xs k d) in
    let at : i + 1 ≡ j = omega (arith, e) in
    subst P at (next i d (omega (arith, at, lt)))
far {X} R trans xs next i (suc n) j d e lt =
    let P : ℕ → Type 0 = λ (k : ℕ). R (get_or xs i d) (get_or xs k d) in
    let at : (i + n + 1) + 1 ≡ j = omega (arith, e) in
    subst P at (trans (get_or xs i d) (get_or xs (i + n + 1) d) (get_or xs ((i + n + 1) + 1) d) (far R trans xs next i n (i + n + 1) d refl (omega (arith, at, lt))) (next (i + n + 1) d (omega (arith, at, lt))))

pub chained : {X : Type 0} → (R : X → X → Type 0) → ((a b c : X) → R a b → R b c → R a c) → (xs : List X) → ((k : ℕ) (d : X) → k + 1 < length xs → R (get_or xs k d) (get_or xs (k + 1) d)) → AllPairs R xs
chained R trans xs next i j d lt within = far R trans xs next i (j - (i + 1)) j d (omega (arith, lt)) within

-- ---- regions

no_later_by : (a b : Region) (o p q : Ordering) → MatchOrdering o (b.file < a.file) (b.file ≡ a.file) (a.file < b.file) → MatchOrdering p (b.offset < a.offset) (b.offset ≡ a.offset) (a.offset < b.offset)
    → is_lt (ordering_then o (ordering_then p q)) ≡ false → IsNoLater a b
no_later_by a b Less p q f o e = absurd (cc e)
no_later_by a b Greater p q f o e = inl f
no_later_by a b Equal Less q f o e = absurd (cc e)
no_later_by a b Equal Equal q f o e = inr (sym f, omega (arith, o))
no_later_by a b Equal Greater q f o e = inr (sym f, omega (arith, o))

pub no_later : (a b : Region) → is_lt (ordering_then (nat_cmp b.file a.file) (ordering_then (nat_cmp b.offset a.offset) (nat_cmp b.size a.size))) ≡ false → IsNoLater a b
no_later a b e = no_later_by a b (nat_cmp b.file a.file) (nat_cmp b.offset a.offset) (nat_cmp b.size a.size) (ranked b.file a.file _ refl) (ranked b.offset a.offset _ refl) e

pub no_later_trans : (a b c : Region) → IsNoLater a b → IsNoLater b c → IsNoLater a c
no_later_trans a b c (inl x) (inl y) = inl (omega (arith, x, y))
no_later_trans a b c (inl x) (inr y) = let e = y.0 in inl (omega (arith, x, e))
no_later_trans a b c (inr x) (inl y) = let e = x.0 in inl (omega (arith, y, e))
no_later_trans a b c (inr x) (inr y) = let e = x.1 in let f = y.1 in inr (x.0 ∙ y.0, omega (arith, e, f))

-- ---- instances

then_assoc : (o p q : Ordering) → ordering_then (ordering_then o p) q ≡ ordering_then o (ordering_then p q)
then_assoc Less p q = refl
then_assoc Equal p q = refl
then_assoc Greater p q = refl

-- the order of texts that begin with texts of one length
pub parts : (a b c d : List ℕ) → length a ≡ length c → slice_cmp nat_cmp (a ++ b) (c ++ d) ≡ ordering_then (slice_cmp nat_cmp a c) (slice_cmp nat_cmp b d)
parts [] b [] d e = refl
parts [] b (y ∷ c) d e = absurd (omega (arith, e))
parts (x ∷ a) b [] d e = absurd (omega (arith, e))
parts (x ∷ a) b (y ∷ c) d e = ap (ordering_then (nat_cmp x y)) (parts a b c d (omega (arith, e))) ∙ sym (then_assoc (nat_cmp x y) (slice_cmp nat_cmp a c) (slice_cmp nat_cmp b d))

without_size : (o p q : Ordering) → is_lt (ordering_then o (ordering_then p q)) ≡ false → is_lt (ordering_then o p) ≡ false
without_size Less p q e = absurd (cc e)
without_size Greater p q e = refl
without_size Equal Less q e = absurd (cc e)
without_size Equal Equal q e = refl
without_size Equal Greater q e = refl

turned : (o : Ordering) → is_lt o ≡ false → is_gt (ordering_reverse o) ≡ false
turned Less e = absurd (cc e)
turned Equal e = refl
turned Greater e = refl

pub named_no_later : (a b : Instance) → length b.hash.0 ≡ length a.hash.0
    → is_lt (ordering_then (slice_cmp nat_cmp b.hash.0 a.hash.0) (ordering_then (slice_cmp nat_cmp b.id.0 a.id.0) (nat_cmp b.size a.size))) ≡ false → IsNamedNoLater a b
named_no_later a b l e =
    let p = parts b.hash.0 b.id.0 a.hash.0 a.id.0 l in
    let t : is_lt (slice_cmp nat_cmp (b.hash.0 ++ b.id.0) (a.hash.0 ++ a.id.0)) ≡ false = ap is_lt p ∙ without_size (slice_cmp nat_cmp b.hash.0 a.hash.0) (slice_cmp nat_cmp b.id.0 a.id.0) (nat_cmp b.size a.size) e in
    ap is_gt (nat_list_cmp_total.antisymm (a.hash.0 ++ a.id.0) (b.hash.0 ++ b.id.0)) ∙ turned _ t

pub named_trans : (a b c : Instance) → IsNamedNoLater a b → IsNamedNoLater b c → IsNamedNoLater a c
named_trans a b c p q = upto nat_list_cmp_total (a.hash.0 ++ a.id.0) (b.hash.0 ++ b.id.0) (c.hash.0 ++ c.id.0) p q

-- ---- the instances of a record

flat_map_push : {X Y : Type 0} → (f : X → List Y) (xs : List X) (x : X) → flat_map f (xs ++ x ∷ []) ≡ flat_map f xs ++ f x
flat_map_push f [] x = append-nil (f x)
flat_map_push f (y ∷ xs) x = ap (λ (l : List _). f y ++ l) (flat_map_push f xs x) ∙ sym (append_assoc (f y) (flat_map f xs) (f x))

-- the instances of the first records
abbrev pub first_named : MapMeaning → ℕ → List InstRow
first_named m n = flat_map (λ r. r.instances) (take n m.records)

-- there are instances at a place within the records
pub instances_there : (m : MapMeaning) (place n : ℕ) (r : Option (Bor (List InstRow))) → option_copied r ≡ option_map (λ x. x.instances) (slice_get m.records place) → n ≡ length m.records → place < n → IsSome r
instances_there m place n r e is lt = copied r (there_seen (λ (x : MapRecord). x.instances) (option_copied r) m.records place n e is lt)
  where
    copied : (r : Option (Bor (List InstRow))) → IsSome (option_copied r) → IsSome r
    copied None s = s
    copied (Some b) s = refl

pub named_next : (m : MapMeaning) (place : ℕ) (r : Option (Bor (List InstRow))) (b : Bor (List InstRow)) (items : List InstRow) (old new : List Instance) → option_copied r ≡ option_map (λ x. x.instances) (slice_get m.records place) → r ≡ Some b → items ≡ b.now
    → old ≡ map instance_of (first_named m place) → new ≡ old ++ map instance_of items → new ≡ map instance_of (first_named m (place + 1))
named_next m place r b items old new look is as_slice same push =
    let x = behind (λ (y : MapRecord). y.instances) (slice_get m.records place) b.now (sym (ap option_copied is) ∙ look) in
    let more : first_named m (place + 1) ≡ first_named m place ++ x.0.instances = ap (flat_map (λ (y : MapRecord). y.instances)) (take_next m.records place x.0 x.1) ∙ flat_map_push (λ (y : MapRecord). y.instances) (take place m.records) x.0 in
    push ∙ ap (λ (l : List Instance). l ++ map instance_of items) same ∙ sym (map-append instance_of (first_named m place) items) ∙ ap (map instance_of) (ap (λ (l : List InstRow). first_named m place ++ l) (as_slice ∙ x.2) ∙ sym more)
