-- The running number of an instance of this store's form, by its id's octets.
use Rattle.purge_task.proofs.Common.{if◌then◌else◌, ◌≡◌, ◌<◌, ◌≤◌, ◌+◌, ◌==◌, ℕ, Bool, true, false, List, [], ◌∷◌, ◌++◌, length, take, drop, refl, sym, ◌∙◌, ap, arith, nat_tests, common_steps, length-drop, InstId, instance_number, is_own, number_at, HasDrawnNumber}
use Rattle.std.specs.Prelude.{◌&&◌, not}
use Rattle.std.specs.Int.{w32, to_be_bytes}
use Rattle.std.proofs.Common.{◌^◌}
use Rattle.std.proofs.lemmas.List.{take-append-drop, length-take, drop-drop, take_all}
use Rattle.std.proofs.lemmas.List.Elements.{All-take, All-drop}
use Rattle.std.proofs.lemmas.Nat.{be_bytes_4}
use Rattle.std.proofs.lemmas.Slice.Eq.{bytes_eq-Decides}
use Rattle.mdbox_base.specs.Words.{IsOctets}
use Rattle.mdbox_base.specs.declared.ids.StoreId.{StoreId}
use Rattle.model_logs.proofs.LogHeadLemmas.{octet_at, number_below}
use Rattle.model_meaning.specs.MapMeaning.{own_number}
use Rattle.sis_store.specs.Instances.{numbered_id}

-- ---- by id

-- four octets at a place are those of their number
four_at : (place : ℕ) (octets : List ℕ) → place + 4 ≤ length octets → IsOctets octets → to_be_bytes w32 (number_at place octets) ≡ take 4 (drop place octets)
four_at place octets le o =
    be_bytes_4 (take 4 (drop place octets)) (number_at place octets) (omega (arith, le, length-take 4 (drop place octets), length-drop place octets))
    (λ i. octet_at (take 4 (drop place octets)) i (All-take (λ octet. octet < 256) 4 (drop place octets) (All-drop (λ octet. octet < 256) place octets o))) refl

-- an id by its store, its mark and its number
id_parts : (id : List ℕ) → length id ≡ 16 → id ≡ take 8 id ++ (take 4 (drop 8 id) ++ take 4 (drop 12 id))
id_parts id long =
    let front : take 8 id ++ drop 8 id ≡ id = take-append-drop 8 id in
    let middle : take 4 (drop 8 id) ++ drop 4 (drop 8 id) ≡ drop 8 id = take-append-drop 4 (drop 8 id) in
    let rest : drop 4 (drop 8 id) ≡ drop 12 id = drop-drop 4 8 id in
    let last : take 4 (drop 12 id) ≡ drop 12 id = take_all 4 (drop 12 id) (omega (arith, long, length-drop 12 id)) in
    sym front ∙ ap (λ (xs : List ℕ). take 8 id ++ xs) (sym middle ∙ ap (λ (xs : List ℕ). take 4 (drop 8 id) ++ xs) (rest ∙ sym last))

abbrev id_made : List ℕ → InstId
id_made octets = record { 0 = octets }

numbered : (store : StoreId) (id : InstId) → length id.0 ≡ 16 → IsOctets id.0 → is_own store.0 id.0 ≡ true → number_at 8 id.0 ≡ 4294967295 → id ≡ numbered_id store (number_at 12 id.0)
numbered store id long o own form =
    let store_is : take 8 id.0 ≡ store.0 = (bytes_eq-Decides (take 8 id.0) store.0).0 own in
    let mark : take 4 (drop 8 id.0) ≡ 255 ∷ 255 ∷ 255 ∷ 255 ∷ [] = sym (four_at 8 id.0 (omega (arith, long)) o) ∙ ap (to_be_bytes w32) form in
    let number : take 4 (drop 12 id.0) ≡ to_be_bytes w32 (number_at 12 id.0) = sym (four_at 12 id.0 (omega (arith, long)) o) in
    ap id_made (id_parts id.0 long ∙ ap (λ (xs : List ℕ). xs ++ (take 4 (drop 8 id.0) ++ take 4 (drop 12 id.0))) store_is
    ∙ ap (λ (xs : List ℕ). store.0 ++ (xs ++ take 4 (drop 12 id.0))) mark ∙ ap (λ (xs : List ℕ). store.0 ++ (255 ∷ 255 ∷ 255 ∷ 255 ∷ xs)) number)

is_number : (n m : ℕ) → (n == m) ≡ true → n ≡ m
is_number n m e = grind (arith, nat_tests, e)

below_last : (n : ℕ) → (n == 4294967295) ≡ false → n < 2 ^ 32 → n ≤ 4294967294
below_last n e less = let apart : n < 4294967295 = grind (arith, common_steps, e, less) in omega (arith, apart)

-- a number that counts is at most this one, where a number of the form is
counted_up_to : (own : Bool) (n most : ℕ) → (own ≡ true → (n == 4294967295) ≡ false → n ≤ most) → own_number own n ≤ most
counted_up_to false n most h = omega arith
counted_up_to true n most h = by_test (n == 4294967295) refl
  where
    by_test : (b : Bool) → (n == 4294967295) ≡ b → (if true && not b then n else 0) ≤ most
    by_test true e = omega arith
    by_test false e = h refl e

both : (p q : Bool) → (p && q) ≡ true → (p ≡ true) × (q ≡ true)
both true true e = (refl, refl)
both true false e = absurd (cc e)
both false q e = absurd (cc e)

four_few : (place : ℕ) (octets : List ℕ) → IsOctets octets → number_at place octets < 2 ^ 32
four_few place octets o = number_below (take 4 (drop place octets)) (All-take (λ octet. octet < 256) 4 (drop place octets) (All-drop (λ octet. octet < 256) place octets o))

-- the running number of an id whose number was drawn
pub drawn_id : (store : StoreId) (highest : ℕ) (id : InstId) → HasDrawnNumber store highest id → length id.0 ≡ 16 → IsOctets id.0 → instance_number store.0 id.0 ≤ highest
drawn_id store highest id drawn long o =
    counted_up_to (is_own store.0 id.0 && (number_at 8 id.0 == 4294967295)) (number_at 12 id.0) highest (λ own apart.
    let p = both (is_own store.0 id.0) (number_at 8 id.0 == 4294967295) own in
    drawn (number_at 12 id.0) (below_last (number_at 12 id.0) apart (four_few 12 id.0 o)) (numbered store id long o p.0 (is_number (number_at 8 id.0) 4294967295 p.1)))
