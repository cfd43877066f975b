-- The instances that records name, gathered from one record after another.
use Rattle.std.specs.Prelude.{IsSome}
use Rattle.std.specs.Option.{option_map, option_copied}
use Rattle.std.proofs.Common.{◌≡◌, ◌<◌, ◌+◌, ℕ, suc, zero, List, [], ◌∷◌, ◌++◌, length, map, take, flat_map, get_or, slice_get, Option, Some, None, Bor, refl, sym, ◌∙◌, ap, subst, arith, append-nil, append_assoc}
use Rattle.std.proofs.lemmas.List.{map-append, take_more}
use Rattle.std.proofs.lemmas.Option.{slice_get_within, get_or_from_slice_get}
use Rattle.mdbox_base.specs.declared.entries.InstRow.{InstRow}
use Rattle.model_meaning.specs.MapMeaning.{MapRecord, MapMeaning}
use Rattle.store_instances.specs.NamedRows.{named_row}
use Rattle.store_instances.specs.declared.named.NamedRow.{NamedRow}

-- one instance more of a record
pub row_next : (rows : List InstRow) (k : ℕ) (d : InstRow) (row : NamedRow) (first so_far more : List NamedRow) → k < length rows → row ≡ named_row (get_or rows k d) → so_far ≡ first ++ map named_row (take k rows) → more ≡ so_far ++ row ∷ [] → more ≡ first ++ map named_row (take (k + 1) rows)
row_next rows k d row first so_far more lt is same push =
    push ∙ ap (λ (xs : List NamedRow). xs ++ row ∷ []) same ∙ append_assoc first (map named_row (take k rows)) (row ∷ [])
    ∙ ap (λ (xs : List NamedRow). first ++ xs) (ap (λ (x : NamedRow). map named_row (take k rows) ++ x ∷ []) is ∙ sym (map-append named_row (take k rows) (get_or rows k d ∷ [])) ∙ ap (map named_row) (sym (take_more rows k d lt)))

-- ---- one record more

behind : {A B : Type 0} → (f : A → B) (o : Option A) (y : B) → Some y ≡ option_map f o → (x : A) × (o ≡ Some x) × (y ≡ f x)
behind f None y e = absurd (cc e)
behind f (Some x) y e = (x, refl, let h : y ≡ f x = cc e in h)

take_next : {X : Type 0} → (xs : List X) (k : ℕ) (x : X) → slice_get xs k ≡ Some x → take (k + 1) xs ≡ take k xs ++ x ∷ []
take_next xs k x e = take_more xs k x (slice_get_within xs k x e) ∙ ap (λ (y : _). take k xs ++ y ∷ []) (get_or_from_slice_get xs k x x e)

flat_push : {X Y : Type 0} → (f : X → List Y) (xs : List X) (x : X) → flat_map f (xs ++ x ∷ []) ≡ flat_map f xs ++ f x
flat_push f [] x = append-nil (f x)
flat_push f (y ∷ xs) x = ap (λ (l : List _). f y ++ l) (flat_push f xs x) ∙ sym (append_assoc (f y) (flat_map f xs) (f x))

-- the instances of the first records
abbrev pub first_named : MapMeaning → ℕ → List InstRow
first_named m n = flat_map (λ row. row.instances) (take n m.records)

-- there are instances at a place within the records
pub named_there : (m : MapMeaning) (place n : ℕ) (r : Option (Bor (List InstRow))) → option_copied r ≡ option_map (λ x. x.instances) (slice_get m.records place) → n ≡ length m.records → place < n → IsSome r
named_there m place n r e is lt = copied r (subst IsSome (sym e) (some m.records place (omega (arith, is, lt))))
  where
    some : (xs : List MapRecord) (k : ℕ) → k < length xs → IsSome (option_map (λ (x : MapRecord). x.instances) (slice_get xs k))
    some [] k lt = absurd (omega (arith, lt))
    some (x ∷ xs) zero lt = refl
    some (x ∷ xs) (suc k) lt = some xs k (omega (arith, lt))

    copied : (r : Option (Bor (List InstRow))) → IsSome (option_copied r) → IsSome r
    copied None s = s
    copied (Some b) s = refl

pub record_next : (m : MapMeaning) (place : ℕ) (r : Option (Bor (List InstRow))) (b : Bor (List InstRow)) (items : List InstRow) (old new : List NamedRow) → option_copied r ≡ option_map (λ x. x.instances) (slice_get m.records place) → r ≡ Some b → items ≡ b.now
    → old ≡ map named_row (first_named m place) → new ≡ old ++ map named_row items → new ≡ map named_row (first_named m (place + 1))
record_next m place r b items old new look is as_slice same push =
    let x = behind (λ (y : MapRecord). y.instances) (slice_get m.records place) b.now (sym (ap option_copied is) ∙ look) in
    let more : first_named m (place + 1) ≡ first_named m place ++ x.0.instances = ap (flat_map (λ (y : MapRecord). y.instances)) (take_next m.records place x.0 x.1) ∙ flat_push (λ (y : MapRecord). y.instances) (take place m.records) x.0 in
    push ∙ ap (λ (l : List NamedRow). l ++ map named_row items) same ∙ sym (map-append named_row (first_named m place) items) ∙ ap (map named_row) (ap (λ (l : List InstRow). first_named m place ++ l) (as_slice ∙ x.2) ∙ sym more)
