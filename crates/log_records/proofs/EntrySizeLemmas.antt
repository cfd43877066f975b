-- How many octets an entry of the map log has, and entries written piece by piece.
use Rattle.std.proofs.Common.{◌≡◌, ℕ, ◌+◌, ◌*◌, ◌≤◌, List, [], ◌∷◌, ◌++◌, length, take, refl, sym, ap, ◌∙◌, subst, ◌<◌, ◌^◌, length-append, arith}
use Rattle.std.specs.List.{flat_map, AllByRecursion}
use Rattle.std.specs.Int.{w16, to_be_bytes}
use Rattle.std.proofs.lemmas.List.{take_all}
use Rattle.mdbox_base.specs.declared.ids.Guid.{Guid}
use Rattle.mdbox_base.specs.declared.ids.BoxNo.{BoxNo}
use Rattle.mdbox_base.specs.declared.ids.FileNo.{FileNo}
use Rattle.mdbox_base.specs.declared.ids.MapUid.{MapUid}
use Rattle.mdbox_base.specs.declared.entries.InstRow.{InstRow}
use Rattle.mdbox_base.specs.declared.entries.MapCount.{MapCount}
use Rattle.mdbox_base.specs.declared.entries.MapPlace.{MapPlace}
use Rattle.mdbox_base.specs.declared.entries.MapEntry.{MapEntry}
use Rattle.mdbox_base.specs.declared.entries.MapEntry.TheVariants as map
use Rattle.model_logs.specs.Entries.{four, list_text, instance_row_text, map_text, MapInRange, RowInRange}
use Rattle.log_records.specs.declared.stored.Stored.{Stored}
use Rattle.log_records.specs.Stored.{stored_text}
use Rattle.log_records.proofs.ListItemLemmas.{Sized, flat_size, row_sized}

list_size : {X : Type 0} → (text : X → List ℕ) (InRange : X → Type 0) (size : ℕ) → Sized text InRange size → (xs : List X) → AllByRecursion InRange xs → length (list_text text xs) ≡ 4 + size * length xs
list_size text InRange size sized xs all =
    omega (arith, length-append (four (length xs)) (flat_map text xs), flat_size text InRange size sized xs all)

pub uids_size : (us : List MapUid) → AllByRecursion (λ (u : MapUid). u.0 < 2 ^ 32) us → length (list_text (λ (u : MapUid). four u.0) us) ≡ 4 + 4 * length us
uids_size us all = list_size (λ (u : MapUid). four u.0) (λ (u : MapUid). u.0 < 2 ^ 32) 4 (λ u r. refl) us all

counts_size : (cs : List MapCount) → AllByRecursion (λ (c : MapCount). (c.uid.0 < 2 ^ 32) × (c.count < 2 ^ 16)) cs → length (list_text (λ (c : MapCount). four c.uid.0 ++ to_be_bytes w16 c.count) cs) ≡ 4 + 6 * length cs
counts_size cs all = list_size (λ (c : MapCount). four c.uid.0 ++ to_be_bytes w16 c.count) (λ (c : MapCount). (c.uid.0 < 2 ^ 32) × (c.count < 2 ^ 16)) 6 (λ c r. refl) cs all

places_size : (ps : List MapPlace) → AllByRecursion (λ (p : MapPlace). (p.uid.0 < 2 ^ 32) × (p.offset < 2 ^ 32)) ps → length (list_text (λ (p : MapPlace). four p.uid.0 ++ four p.offset) ps) ≡ 4 + 8 * length ps
places_size ps all = list_size (λ (p : MapPlace). four p.uid.0 ++ four p.offset) (λ (p : MapPlace). (p.uid.0 < 2 ^ 32) × (p.offset < 2 ^ 32)) 8 (λ p r. refl) ps all

pub lowered_size : (entry : MapEntry) (us : List MapUid) → entry ≡ map.D us → MapInRange entry → length (map_text entry) ≡ 5 + 4 * length us
lowered_size entry us e range =
    let r : MapInRange (map.D us) = subst MapInRange e range in
    ap (λ (m : MapEntry). length (map_text m)) e ∙ omega (arith, uids_size us r.1)

pub counted_size : (entry : MapEntry) (cs : List MapCount) → entry ≡ map.T cs → MapInRange entry → length (map_text entry) ≡ 5 + 6 * length cs
counted_size entry cs e range =
    let r : MapInRange (map.T cs) = subst MapInRange e range in
    ap (λ (m : MapEntry). length (map_text m)) e ∙ omega (arith, counts_size cs r.1)

pub deleted_size : (entry : MapEntry) (mailbox : BoxNo) (cs : List MapCount) → entry ≡ map.X mailbox cs → MapInRange entry → length (map_text entry) ≡ 9 + 6 * length cs
deleted_size entry mailbox cs e range =
    let r : MapInRange (map.X mailbox cs) = subst MapInRange e range in
    ap (λ (m : MapEntry). length (map_text m)) e ∙ omega (arith, counts_size cs r.2)

pub purged_size : (entry : MapEntry) (file : FileNo) (target : ℕ) (ps : List MapPlace) (us : List MapUid) → entry ≡ map.P file target ps us → MapInRange entry → length (map_text entry) ≡ 17 + 8 * length ps + 4 * length us
purged_size entry file target ps us e range =
    let r : MapInRange (map.P file target ps us) = subst MapInRange e range in
    let both : length (list_text (λ (p : MapPlace). four p.uid.0 ++ four p.offset) ps ++ list_text (λ (u : MapUid). four u.0) us) ≡ _ = length-append (list_text (λ (p : MapPlace). four p.uid.0 ++ four p.offset) ps) (list_text (λ (u : MapUid). four u.0) us) in
    ap (λ (m : MapEntry). length (map_text m)) e ∙ omega (arith, both, places_size ps r.4, uids_size us r.5)

pub stored_size : (entry : MapEntry) (o c : ℕ) (u : MapUid) (f : FileNo) (a z : ℕ) (g : Guid) (is : List InstRow) → entry ≡ map.S o c u f a z g is → MapInRange entry → length (map_text entry) ≡ 38 + 40 * length is
stored_size entry o c u f a z g is e range =
    let r : MapInRange (map.S o c u f a z g is) = subst MapInRange e range in
    let behind : length (g.0 ++ (to_be_bytes w16 (length is) ++ flat_map instance_row_text is)) ≡ length g.0 + length (to_be_bytes w16 (length is) ++ flat_map instance_row_text is) = length-append g.0 (to_be_bytes w16 (length is) ++ flat_map instance_row_text is) in
    ap (λ (m : MapEntry). length (map_text m)) e ∙ omega (arith, behind, r.6, flat_size instance_row_text RowInRange 40 row_sized is r.8)

filled : (n : ℕ) (into text : List ℕ) → take n into ≡ text → length into ≤ n → into ≡ text
filled n into text e l = sym (take_all n into l) ∙ e

pub stored_filled : (s : Stored) (slice is : List InstRow) (i1 i2 i3 : List ℕ) (r1 r2 r3 : ℕ) → slice ≡ is → take r1 i1 ≡ 83 ∷ [] → take r2 i2 ≡ take r1 i1 ++ stored_text s
    → take r3 i3 ≡ take r2 i2 ++ (to_be_bytes w16 (length slice) ++ flat_map instance_row_text slice) → length i3 ≤ r3 → i3 ≡ 83 ∷ (stored_text s ++ (to_be_bytes w16 (length is) ++ flat_map instance_row_text is))
stored_filled s slice is i1 i2 i3 r1 r2 r3 same e1 e2 e3 l =
    let front : take r2 i2 ≡ 83 ∷ stored_text s = e2 ∙ ap (λ (t : List ℕ). t ++ stored_text s) e1 in
    filled r3 i3 _ (e3 ∙ ap (λ (t : List ℕ). t ++ (to_be_bytes w16 (length slice) ++ flat_map instance_row_text slice)) front) l
    ∙ ap (λ (xs : List InstRow). 83 ∷ (stored_text s ++ (to_be_bytes w16 (length xs) ++ flat_map instance_row_text xs))) same
