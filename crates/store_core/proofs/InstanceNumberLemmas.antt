-- The running numbers of instances that a message names which is stored were drawn.
use Rattle.store_core.proofs.Common.{◌&&◌, not, flat_map, if◌then◌else◌, ◌≡◌, ◌<◌, ◌≤◌, ◌+◌, ◌^◌, ◌==◌, ℕ, Bool, true, false, List, [], ◌∷◌, ◌++◌, length, take, drop, All, refl, sym, ◌∙◌, ap, subst, arith, nat_tests, All-nil, All-cons, All-head, All-tail, bytes_eq-Decides, InstRow, MapEntry, InstId}
use Rattle.store_core.proofs.Common.{map_text, MapInRange, is_own, number_at, InstancesValue, AreInstances, HasDrawnNumber, KnownInstance, NamesKnown, IsKnownRow}
use Rattle.std.specs.List.{AllByRecursion}
use Rattle.std.specs.Int.{w16, w32, to_be_bytes}
use Rattle.std.proofs.Math.Seq.{take-append_seam}
use Rattle.std.proofs.lemmas.Grind.{common_steps}
use Rattle.std.proofs.lemmas.List.{take-append-drop, length-take, length-drop, drop-drop, take_all}
use Rattle.std.proofs.lemmas.List.Elements.{All-take, All-drop}
use Rattle.std.proofs.lemmas.Nat.{be_bytes_4}
use Rattle.mdbox_base.specs.Words.{IsOctets}
use Rattle.mdbox_base.specs.declared.entries.MapEntry.TheVariants as entry
use Rattle.mdbox_base.specs.declared.ids.StoreId.{StoreId}
use Rattle.log_records.proofs.EntrySizeLemmas.{stored_size}
use Rattle.model_logs.proofs.LogHeadLemmas.{octet_at, number_below}
use Rattle.model_logs.specs.Entries.{four, instance_row_text, RowInRange}
use Rattle.model_meaning.specs.MapMeaning.{instance_number, own_number}
use Rattle.sis_store.specs.Instances.{numbered_id}
use Rattle.store_core.specs.MapAppend.{HasOctetIds}
use Rattle.store_core.proofs.InstanceAppendLemmas.{of_known}

-- ---- by id

-- four octets at a place are those of their number
four_at : (place : ℕ) (octets : List ℕ) → place + 4 ≤ length octets → IsOctets octets → to_be_bytes w32 (number_at place octets) ≡ take 4 (drop place octets)
four_at place octets le o =
    be_bytes_4 (take 4 (drop place octets)) (number_at place octets) (omega (arith, le, length-take 4 (drop place octets), length-drop place octets))
    (λ i. octet_at (take 4 (drop place octets)) i (All-take (λ octet. octet < 256) 4 (drop place octets) (All-drop (λ octet. octet < 256) place octets o))) refl

-- an id by its store, its mark and its number
id_parts : (id : List ℕ) → length id ≡ 16 → id ≡ take 8 id ++ (take 4 (drop 8 id) ++ take 4 (drop 12 id))
id_parts id long =
    let front : take 8 id ++ drop 8 id ≡ id = take-append-drop 8 id in
    let middle : take 4 (drop 8 id) ++ drop 4 (drop 8 id) ≡ drop 8 id = take-append-drop 4 (drop 8 id) in
    let rest : drop 4 (drop 8 id) ≡ drop 12 id = drop-drop 4 8 id in
    let last : take 4 (drop 12 id) ≡ drop 12 id = take_all 4 (drop 12 id) (omega (arith, long, length-drop 12 id)) in
    sym front ∙ ap (λ (xs : List ℕ). take 8 id ++ xs) (sym middle ∙ ap (λ (xs : List ℕ). take 4 (drop 8 id) ++ xs) (rest ∙ sym last))

abbrev id_made : List ℕ → InstId
id_made octets = record { 0 = octets }

numbered : (store : StoreId) (id : InstId) → length id.0 ≡ 16 → IsOctets id.0 → is_own store.0 id.0 ≡ true → number_at 8 id.0 ≡ 4294967295 → id ≡ numbered_id store (number_at 12 id.0)
numbered store id long o own form =
    let store_is : take 8 id.0 ≡ store.0 = (bytes_eq-Decides (take 8 id.0) store.0).0 own in
    let mark : take 4 (drop 8 id.0) ≡ 255 ∷ 255 ∷ 255 ∷ 255 ∷ [] = sym (four_at 8 id.0 (omega (arith, long)) o) ∙ ap (to_be_bytes w32) form in
    let number : take 4 (drop 12 id.0) ≡ to_be_bytes w32 (number_at 12 id.0) = sym (four_at 12 id.0 (omega (arith, long)) o) in
    ap id_made (id_parts id.0 long ∙ ap (λ (xs : List ℕ). xs ++ (take 4 (drop 8 id.0) ++ take 4 (drop 12 id.0))) store_is
    ∙ ap (λ (xs : List ℕ). store.0 ++ (xs ++ take 4 (drop 12 id.0))) mark ∙ ap (λ (xs : List ℕ). store.0 ++ (255 ∷ 255 ∷ 255 ∷ 255 ∷ xs)) number)

is_number : (n m : ℕ) → (n == m) ≡ true → n ≡ m
is_number n m e = grind (arith, nat_tests, e)

below_last : (n : ℕ) → (n == 4294967295) ≡ false → n < 2 ^ 32 → n ≤ 4294967294
below_last n e less = let apart : n < 4294967295 = grind (arith, common_steps, e, less) in omega (arith, apart)

-- a number that counts is at most this one, where a number of the form is
counted_up_to : (own : Bool) (n most : ℕ) → (own ≡ true → (n == 4294967295) ≡ false → n ≤ most) → own_number own n ≤ most
counted_up_to false n most h = omega arith
counted_up_to true n most h = by_test (n == 4294967295) refl
  where
    by_test : (b : Bool) → (n == 4294967295) ≡ b → (if true && not b then n else 0) ≤ most
    by_test true e = omega arith
    by_test false e = h refl e

both : (p q : Bool) → (p && q) ≡ true → (p ≡ true) × (q ≡ true)
both true true e = (refl, refl)
both true false e = absurd (cc e)
both false q e = absurd (cc e)

four_few : (place : ℕ) (octets : List ℕ) → IsOctets octets → number_at place octets < 2 ^ 32
four_few place octets o = number_below (take 4 (drop place octets)) (All-take (λ octet. octet < 256) 4 (drop place octets) (All-drop (λ octet. octet < 256) place octets o))

-- the running number of an id whose number was drawn
drawn_id : (store : StoreId) (highest : ℕ) (id : InstId) → HasDrawnNumber store highest id → length id.0 ≡ 16 → IsOctets id.0 → instance_number store.0 id.0 ≤ highest
drawn_id store highest id drawn long o =
    counted_up_to (is_own store.0 id.0 && (number_at 8 id.0 == 4294967295)) (number_at 12 id.0) highest (λ own apart.
    let p = both (is_own store.0 id.0) (number_at 8 id.0 == 4294967295) own in
    drawn (number_at 12 id.0) (below_last (number_at 12 id.0) apart (four_few 12 id.0 o)) (numbered store id long o p.0 (is_number (number_at 8 id.0) 4294967295 p.1)))

-- ---- by entry

-- the running numbers of instances that an entry names are at most this one
abbrev pub AreNumbersDrawn : MapEntry → List ℕ → ℕ → Type 0
AreNumbersDrawn (entry.S o c u f p z g is) store highest = All (λ row. instance_number store row.id.0 ≤ highest) is
AreNumbersDrawn e store highest = Unit {0}

rows_drawn : (store : StoreId) (highest : ℕ) (known : List KnownInstance) (is : List InstRow) → All (λ k. HasDrawnNumber store highest k.row.id) known → AllByRecursion RowInRange is → All (λ row. IsOctets row.id.0) is
    → All (IsKnownRow known) is → All (λ row. instance_number store.0 row.id.0 ≤ highest) is
rows_drawn store highest known [] drawn r o names = All-nil (λ (row : InstRow). instance_number store.0 row.id.0 ≤ highest)
rows_drawn store highest known (row ∷ is) drawn r o names =
    All-cons (λ (x : InstRow). instance_number store.0 x.id.0 ≤ highest) row is
    (drawn_id store highest row.id (of_known (λ (x : InstRow). HasDrawnNumber store highest x.id) known row drawn (All-head (IsKnownRow known) row is names)) r.0.1 (All-head (λ (x : InstRow). IsOctets x.id.0) row is o))
    (rows_drawn store highest known is drawn r.1 (All-tail (λ (x : InstRow). IsOctets x.id.0) row is o) (All-tail (IsKnownRow known) row is names))

pub numbers_drawn : (e : MapEntry) (value : InstancesValue) → AreInstances value → MapInRange e → HasOctetIds e → NamesKnown e value.known → AreNumbersDrawn e value.store.0 value.highest
numbers_drawn (entry.S o c u f p z g is) value are r ids names = rows_drawn value.store value.highest value.known is are.drawn r.8 ids names
numbers_drawn (entry.U u) value are r ids names = tt
numbers_drawn (entry.D us) value are r ids names = tt
numbers_drawn (entry.T cs) value are r ids names = tt
numbers_drawn (entry.H h) value are r ids names = tt
numbers_drawn (entry.B b g n) value are r ids names = tt
numbers_drawn (entry.G b g) value are r ids names = tt
numbers_drawn (entry.P f t ms us) value are r ids names = tt
numbers_drawn (entry.E f) value are r ids names = tt
numbers_drawn (entry.X b cs) value are r ids names = tt
numbers_drawn (entry.V b n) value are r ids names = tt

-- ---- by text

-- octets that are written over all of a vector's
pub written_over : (items new : List ℕ) (len : ℕ) → length new ≡ len → take len (new ++ drop (length new) items) ≡ new
written_over items new len long = subst (λ (k : ℕ). take k (new ++ drop (length new) items) ≡ new) long (take-append_seam new (drop (length new) items))

split_octets : (xs ys : List ℕ) → IsOctets (xs ++ ys) → IsOctets xs × IsOctets ys
split_octets [] ys h = (All-nil (λ octet. octet < 256), h)
split_octets (x ∷ xs) ys h =
    let r = split_octets xs ys (All-tail (λ octet. octet < 256) x (xs ++ ys) h) in
    (All-cons (λ octet. octet < 256) x xs (All-head (λ octet. octet < 256) x (xs ++ ys) h) r.0, r.1)

behind : (xs ys : List ℕ) → IsOctets (xs ++ ys) → IsOctets ys
behind xs ys h = (split_octets xs ys h).1

ids_octets : (rows : List InstRow) → IsOctets (flat_map instance_row_text rows) → All (λ row. IsOctets row.id.0) rows
ids_octets [] h = All-nil (λ (row : InstRow). IsOctets row.id.0)
ids_octets (row ∷ rows) h =
    let r = split_octets (instance_row_text row) (flat_map instance_row_text rows) h in
    let id = split_octets row.id.0 (four row.size) (behind row.hash.0 (row.id.0 ++ four row.size) r.0) in
    All-cons (λ (x : InstRow). IsOctets x.id.0) row rows id.0 (ids_octets rows r.1)

pub ids_in_text : (e : MapEntry) → IsOctets (map_text e) → HasOctetIds e
ids_in_text (entry.S o c u f p z g is) h =
    let rows : List ℕ = flat_map instance_row_text is in
    let h0 : IsOctets ((83 ∷ o ∷ []) ++ (to_be_bytes w16 c ++ (four u.0 ++ (four f.0 ++ (four p ++ (four z ++ (g.0 ++ (to_be_bytes w16 (length is) ++ rows)))))))) = h in
    let h1 = behind (83 ∷ o ∷ []) (to_be_bytes w16 c ++ (four u.0 ++ (four f.0 ++ (four p ++ (four z ++ (g.0 ++ (to_be_bytes w16 (length is) ++ rows))))))) h0 in
    let h2 = behind (to_be_bytes w16 c) (four u.0 ++ (four f.0 ++ (four p ++ (four z ++ (g.0 ++ (to_be_bytes w16 (length is) ++ rows)))))) h1 in
    let h3 = behind (four u.0) (four f.0 ++ (four p ++ (four z ++ (g.0 ++ (to_be_bytes w16 (length is) ++ rows))))) h2 in
    let h4 = behind (four f.0) (four p ++ (four z ++ (g.0 ++ (to_be_bytes w16 (length is) ++ rows)))) h3 in
    let h5 = behind (four p) (four z ++ (g.0 ++ (to_be_bytes w16 (length is) ++ rows))) h4 in
    let h6 = behind (four z) (g.0 ++ (to_be_bytes w16 (length is) ++ rows)) h5 in
    let h7 = behind g.0 (to_be_bytes w16 (length is) ++ rows) h6 in
    ids_octets is (behind (to_be_bytes w16 (length is)) rows h7)
ids_in_text (entry.U u) h = tt
ids_in_text (entry.D us) h = tt
ids_in_text (entry.T cs) h = tt
ids_in_text (entry.H h) o = tt
ids_in_text (entry.B b g n) h = tt
ids_in_text (entry.G b g) h = tt
ids_in_text (entry.P f t ms us) h = tt
ids_in_text (entry.E f) h = tt
ids_in_text (entry.X b cs) h = tt
ids_in_text (entry.V b n) h = tt

none_by_length : (is : List InstRow) → length is ≡ 0 → All (λ row. IsOctets row.id.0) is
none_by_length [] none = All-nil (λ (row : InstRow). IsOctets row.id.0)
none_by_length (row ∷ is) none = absurd (omega (arith, none))

-- an entry of at most 64 octets names none
pub ids_if_short : (e : MapEntry) → MapInRange e → length (map_text e) ≤ 64 → HasOctetIds e
ids_if_short (entry.S o c u f p z g is) r short =
    let size = stored_size (entry.S o c u f p z g is) o c u f p z g is refl r in
    none_by_length is (omega (arith, size, short))
ids_if_short (entry.U u) r short = tt
ids_if_short (entry.D us) r short = tt
ids_if_short (entry.T cs) r short = tt
ids_if_short (entry.H h) r short = tt
ids_if_short (entry.B b g n) r short = tt
ids_if_short (entry.G b g) r short = tt
ids_if_short (entry.P f t ms us) r short = tt
ids_if_short (entry.E f) r short = tt
ids_if_short (entry.X b cs) r short = tt
ids_if_short (entry.V b n) r short = tt
