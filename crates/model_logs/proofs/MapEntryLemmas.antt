-- Map entries have one spelling.
use Rattle.std.specs.Prelude.{◌≡◌, ◌<◌, ◌^◌, ℕ, List, [], ◌∷◌, ◌++◌, length, flat_map, refl}
use Rattle.std.specs.List.{AllByRecursion}
use Rattle.std.specs.Int.{w16, to_be_bytes}
use Rattle.std.proofs.Common.{sym, ◌∙◌, ap, arith, append_assoc, append-nil}
use Rattle.mdbox_base.specs.declared.ids.Guid.{Guid}
use Rattle.mdbox_base.specs.declared.ids.Hash.{Hash}
use Rattle.mdbox_base.specs.declared.ids.InstId.{InstId}
use Rattle.mdbox_base.specs.declared.ids.FileNo.{FileNo}
use Rattle.mdbox_base.specs.declared.ids.BoxNo.{BoxNo}
use Rattle.mdbox_base.specs.declared.ids.MapUid.{MapUid}
use Rattle.mdbox_base.specs.declared.entries.Highest.{Highest}
use Rattle.mdbox_base.specs.declared.entries.InstRow.{InstRow}
use Rattle.mdbox_base.specs.declared.entries.MapCount.{MapCount}
use Rattle.mdbox_base.specs.declared.entries.MapPlace.{MapPlace}
use Rattle.mdbox_base.specs.declared.entries.MapEntry.TheVariants as map
use Rattle.model_octets.proofs.PiecesLemmas.{split_same}
use Rattle.model_octets.proofs.NumberLemmas.{four_same, next_one, next_two, next_four, behind, differ}
use Rattle.model_logs.specs.Entries.{four, list_text, instance_row_text, map_text, MapInRange, RowInRange, HasOneText}
use Rattle.model_logs.proofs.EntryLemmas.{map_uid_same, guid_same}

-- an item in front, whatever follows it
abbrev IsOneInFront : {X : Type 0} → (X → List ℕ) → (X → Type 0) → Type 0
IsOneInFront item InRange = (a b : _) (x y : List ℕ) → InRange a → InRange b → item a ++ x ≡ item b ++ y → (a ≡ b) × (x ≡ y)

items_same : {X : Type 0} → (item : X → List ℕ) (InRange : X → Type 0) → IsOneInFront item InRange → (xs ys : List X) (r s : List ℕ) → length xs ≡ length ys →
    AllByRecursion InRange xs → AllByRecursion InRange ys → flat_map item xs ++ r ≡ flat_map item ys ++ s → (xs ≡ ys) × (r ≡ s)
items_same item InRange one [] [] r s l p q e = (refl, e)
items_same item InRange one [] (y ∷ ys) r s l p q e = absurd (omega (arith, l))
items_same item InRange one (x ∷ xs) [] r s l p q e = absurd (omega (arith, l))
items_same item InRange one (x ∷ xs) (y ∷ ys) r s l p q e =
    let f = one x y (flat_map item xs ++ r) (flat_map item ys ++ s) p.0 q.0 (sym (append_assoc (item x) (flat_map item xs) r) ∙ e ∙ append_assoc (item y) (flat_map item ys) s) in
    let t = items_same item InRange one xs ys r s (omega (arith, l)) p.1 q.1 f.1 in
    let h : x ≡ y = f.0 in
    let k : xs ≡ ys = t.0 in
    (cc (h, k), t.1)

list_same : {X : Type 0} → (item : X → List ℕ) (InRange : X → Type 0) → IsOneInFront item InRange → (xs ys : List X) (r s : List ℕ) → length xs < 2 ^ 32 → length ys < 2 ^ 32 →
    AllByRecursion InRange xs → AllByRecursion InRange ys → list_text item xs ++ r ≡ list_text item ys ++ s → (xs ≡ ys) × (r ≡ s)
list_same item InRange one xs ys r s lx ly p q e =
    let f = next_four (length xs) (length ys) (flat_map item xs ++ r) (flat_map item ys ++ s) lx ly
    (sym (append_assoc (four (length xs)) (flat_map item xs) r) ∙ e ∙ append_assoc (four (length ys)) (flat_map item ys) s) in
    items_same item InRange one xs ys r s f.0 p q f.1

uid_front : IsOneInFront (λ (u : MapUid). four u.0) (λ (u : MapUid). u.0 < 2 ^ 32)
uid_front a b x y p q e = let r = next_four a.0 b.0 x y p q e in (map_uid_same a b r.0, r.1)

made_count : MapUid → ℕ → MapCount
made_count uid count = record { uid = uid; count = count }

count_front : IsOneInFront (λ (c : MapCount). four c.uid.0 ++ to_be_bytes w16 c.count) (λ (c : MapCount). (c.uid.0 < 2 ^ 32) × (c.count < 2 ^ 16))
unfolding made_count
count_front a b x y p q e =
    let r = next_four a.uid.0 b.uid.0 (to_be_bytes w16 a.count ++ x) (to_be_bytes w16 b.count ++ y) p.0 q.0
    (sym (append_assoc (four a.uid.0) (to_be_bytes w16 a.count) x) ∙ e ∙ append_assoc (four b.uid.0) (to_be_bytes w16 b.count) y) in
    let s = next_two a.count b.count x y p.1 q.1 r.1 in
    let u : a.uid ≡ b.uid = map_uid_same a.uid b.uid r.0 in
    let n : a.count ≡ b.count = s.0 in
    let h : made_count a.uid a.count ≡ made_count b.uid b.count = cc (u, n) in
    (h, s.1)

made_place : MapUid → ℕ → MapPlace
made_place uid offset = record { uid = uid; offset = offset }

place_front : IsOneInFront (λ (c : MapPlace). four c.uid.0 ++ four c.offset) (λ (c : MapPlace). (c.uid.0 < 2 ^ 32) × (c.offset < 2 ^ 32))
unfolding made_place
place_front a b x y p q e =
    let r = next_four a.uid.0 b.uid.0 (four a.offset ++ x) (four b.offset ++ y) p.0 q.0
    (sym (append_assoc (four a.uid.0) (four a.offset) x) ∙ e ∙ append_assoc (four b.uid.0) (four b.offset) y) in
    let s = next_four a.offset b.offset x y p.1 q.1 r.1 in
    let u : a.uid ≡ b.uid = map_uid_same a.uid b.uid r.0 in
    let n : a.offset ≡ b.offset = s.0 in
    let h : made_place a.uid a.offset ≡ made_place b.uid b.offset = cc (u, n) in
    (h, s.1)

made_row : Hash → InstId → ℕ → InstRow
made_row hash id size = record { hash = hash; id = id; size = size }

pub hash_same : (a b : Hash) → a.0 ≡ b.0 → a ≡ b
hash_same a b e = ap (λ (n : List ℕ). let u : Hash = record { 0 = n } in u) e

pub id_same : (a b : InstId) → a.0 ≡ b.0 → a ≡ b
id_same a b e = ap (λ (n : List ℕ). let u : InstId = record { 0 = n } in u) e

row_front : IsOneInFront instance_row_text RowInRange
unfolding made_row
row_front a b x y p q e =
    let e1 : a.hash.0 ++ (a.id.0 ++ (four a.size ++ x)) ≡ b.hash.0 ++ (b.id.0 ++ (four b.size ++ y)) = sym (simp append_assoc) ∙ e ∙ simp append_assoc in
    let r1 = split_same a.hash.0 b.hash.0 _ _ (p.0 ∙ sym q.0) e1 in
    let r2 = split_same a.id.0 b.id.0 _ _ (p.1 ∙ sym q.1) r1.1 in
    let r3 = next_four a.size b.size x y p.2 q.2 r2.1 in
    let u : a.hash ≡ b.hash = hash_same a.hash b.hash r1.0 in
    let v : a.id ≡ b.id = id_same a.id b.id r2.0 in
    let w : a.size ≡ b.size = r3.0 in
    let h : made_row a.hash a.id a.size ≡ made_row b.hash b.id b.size = cc (u, v, w) in
    (h, r3.1)

made_highest : ℕ → ℕ → ℕ → ℕ → Highest
made_highest file uid instance mailbox = record { file = file; map = uid; instance = instance; mailbox = mailbox }

file_no_same : (a b : FileNo) → a.0 ≡ b.0 → a ≡ b
file_no_same a b e = ap (λ (n : ℕ). let u : FileNo = record { 0 = n } in u) e

box_no_same : (a b : BoxNo) → a.0 ≡ b.0 → a ≡ b
box_no_same a b e = ap (λ (n : ℕ). let u : BoxNo = record { 0 = n } in u) e

stored_same : (o o2 c c2 : ℕ) (u u2 : MapUid) (f f2 : FileNo) (a a2 z z2 : ℕ) (g g2 : Guid) (is js : List InstRow) → o ≡ o2 → c ≡ c2 → u ≡ u2 → f ≡ f2 → a ≡ a2 → z ≡ z2 → g ≡ g2 → is ≡ js →
    map.S o c u f a z g is ≡ map.S o2 c2 u2 f2 a2 z2 g2 js
stored_same o o2 c c2 u u2 f f2 a a2 z z2 g g2 is js e1 e2 e3 e4 e5 e6 e7 e8 = cc

moved_same : (f g : FileNo) (t w : ℕ) (ms ns : List MapPlace) (us vs : List MapUid) → f ≡ g → t ≡ w → ms ≡ ns → us ≡ vs → map.P f t ms us ≡ map.P g w ns vs
moved_same f g t w ms ns us vs e1 e2 e3 e4 = cc

-- No two map entries have one text.
pub map_one : HasOneText map_text MapInRange
unfolding made_highest
map_one (map.H h) (map.H k) p q e =
    let r1 = next_four h.file k.file _ _ p.0 q.0 (ap behind e) in
    let r2 = next_four h.map k.map _ _ p.1 q.1 r1.1 in
    let r3 = next_four h.instance k.instance _ _ p.2 q.2 r2.1 in
    let a : h.file ≡ k.file = r1.0 in
    let b : h.map ≡ k.map = r2.0 in
    let c : h.instance ≡ k.instance = r3.0 in
    let d : h.mailbox ≡ k.mailbox = four_same h.mailbox k.mailbox p.3 q.3 r3.1 in
    let same : made_highest h.file h.map h.instance h.mailbox ≡ made_highest k.file k.map k.instance k.mailbox = cc (a, b, c, d) in
    ap map.H same
map_one (map.B m g n) (map.B m2 g2 n2) p q e =
    let r1 = next_four m.0 m2.0 _ _ p.0 q.0 (ap behind e) in
    let r2 = next_four g g2 _ _ p.1 q.1 r1.1 in
    let r3 = next_one (length n) (length n2) n n2 r2.1 in
    let a : m ≡ m2 = box_no_same m m2 r1.0 in
    let b : g ≡ g2 = r2.0 in
    let c : n ≡ n2 = r3.1 in
    cc (a, b, c)
map_one (map.G m g) (map.G m2 g2) p q e =
    let r1 = next_four m.0 m2.0 _ _ p.0 q.0 (ap behind e) in
    let a : m ≡ m2 = box_no_same m m2 r1.0 in
    let b : g ≡ g2 = four_same g g2 p.1 q.1 r1.1 in
    cc (a, b)
map_one (map.S o c u f a z g is) (map.S o2 c2 u2 f2 a2 z2 g2 js) p q e =
    let r0 = next_one o o2 _ _ (ap behind e) in
    let r1 = next_two c c2 _ _ p.1 q.1 r0.1 in
    let r2 = next_four u.0 u2.0 _ _ p.2 q.2 r1.1 in
    let r3 = next_four f.0 f2.0 _ _ p.3 q.3 r2.1 in
    let r4 = next_four a a2 _ _ p.4 q.4 r3.1 in
    let r5 = next_four z z2 _ _ p.5 q.5 r4.1 in
    let r6 = split_same g.0 g2.0 _ _ (p.6 ∙ sym q.6) r5.1 in
    let r7 = next_two (length is) (length js) _ _ p.7 q.7 r6.1 in
    let r8 = items_same instance_row_text RowInRange row_front is js [] [] r7.0 p.8 q.8 (append-nil _ ∙ r7.1 ∙ sym (append-nil _)) in
    stored_same o o2 c c2 u u2 f f2 a a2 z z2 g g2 is js r0.0 r1.0 (map_uid_same u u2 r2.0) (file_no_same f f2 r3.0) r4.0 r5.0 (guid_same g g2 r6.0) r8.0
map_one (map.U u) (map.U v) p q e = ap map.U (map_uid_same u v (four_same u.0 v.0 p q (ap behind e)))
map_one (map.D us) (map.D vs) p q e =
    ap map.D (list_same (λ (u : MapUid). four u.0) (λ (u : MapUid). u.0 < 2 ^ 32) uid_front us vs [] [] p.0 q.0 p.1 q.1 (append-nil _ ∙ ap behind e ∙ sym (append-nil _))).0
map_one (map.T us) (map.T vs) p q e =
    ap map.T (list_same (λ (c : MapCount). four c.uid.0 ++ to_be_bytes w16 c.count) (λ (c : MapCount). (c.uid.0 < 2 ^ 32) × (c.count < 2 ^ 16)) count_front us vs [] [] p.0 q.0 p.1 q.1 (append-nil _ ∙ ap behind e ∙ sym (append-nil _))).0
map_one (map.P f t ms us) (map.P g w ns vs) p q e =
    let r1 = next_four f.0 g.0 _ _ p.0 q.0 (ap behind e) in
    let r2 = next_four t w _ _ p.1 q.1 r1.1 in
    let r3 = list_same (λ (c : MapPlace). four c.uid.0 ++ four c.offset) (λ (c : MapPlace). (c.uid.0 < 2 ^ 32) × (c.offset < 2 ^ 32)) place_front ms ns _ _ p.2 q.2 p.4 q.4 r2.1 in
    let r4 = list_same (λ (u : MapUid). four u.0) (λ (u : MapUid). u.0 < 2 ^ 32) uid_front us vs [] [] p.3 q.3 p.5 q.5 (append-nil _ ∙ r3.1 ∙ sym (append-nil _)) in
    moved_same f g t w ms ns us vs (file_no_same f g r1.0) r2.0 r3.0 r4.0
map_one (map.E f) (map.E g) p q e = ap map.E (file_no_same f g (four_same f.0 g.0 p q (ap behind e)))
map_one (map.X m us) (map.X m2 vs) p q e =
    let r1 = next_four m.0 m2.0 _ _ p.0 q.0 (ap behind e) in
    let r2 = list_same (λ (c : MapCount). four c.uid.0 ++ to_be_bytes w16 c.count) (λ (c : MapCount). (c.uid.0 < 2 ^ 32) × (c.count < 2 ^ 16)) count_front us vs [] [] p.1 q.1 p.2 q.2 (append-nil _ ∙ r1.1 ∙ sym (append-nil _)) in
    let a : m ≡ m2 = box_no_same m m2 r1.0 in
    let b : us ≡ vs = r2.0 in
    cc (a, b)
map_one (map.V m n) (map.V m2 n2) p q e =
    let r1 = next_four m.0 m2.0 _ _ p.0 q.0 (ap behind e) in
    let r2 = next_one (length n) (length n2) n n2 r1.1 in
    let a : m ≡ m2 = box_no_same m m2 r1.0 in
    let b : n ≡ n2 = r2.1 in
    cc (a, b)
map_one (map.H h) (map.B m' g' n') p q e = absurd (differ 72 66 _ _ e refl)
map_one (map.H h) (map.G m' g') p q e = absurd (differ 72 71 _ _ e refl)
map_one (map.H h) (map.S o' c' u' f' a' z' g' is') p q e = absurd (differ 72 83 _ _ e refl)
map_one (map.H h) (map.U u') p q e = absurd (differ 72 85 _ _ e refl)
map_one (map.H h) (map.D us') p q e = absurd (differ 72 68 _ _ e refl)
map_one (map.H h) (map.T us') p q e = absurd (differ 72 84 _ _ e refl)
map_one (map.H h) (map.P f' t' ms' us') p q e = absurd (differ 72 80 _ _ e refl)
map_one (map.H h) (map.E f') p q e = absurd (differ 72 69 _ _ e refl)
map_one (map.B m g n) (map.H h') p q e = absurd (differ 66 72 _ _ e refl)
map_one (map.B m g n) (map.G m' g') p q e = absurd (differ 66 71 _ _ e refl)
map_one (map.B m g n) (map.S o' c' u' f' a' z' g' is') p q e = absurd (differ 66 83 _ _ e refl)
map_one (map.B m g n) (map.U u') p q e = absurd (differ 66 85 _ _ e refl)
map_one (map.B m g n) (map.D us') p q e = absurd (differ 66 68 _ _ e refl)
map_one (map.B m g n) (map.T us') p q e = absurd (differ 66 84 _ _ e refl)
map_one (map.B m g n) (map.P f' t' ms' us') p q e = absurd (differ 66 80 _ _ e refl)
map_one (map.B m g n) (map.E f') p q e = absurd (differ 66 69 _ _ e refl)
map_one (map.G m g) (map.H h') p q e = absurd (differ 71 72 _ _ e refl)
map_one (map.G m g) (map.B m' g' n') p q e = absurd (differ 71 66 _ _ e refl)
map_one (map.G m g) (map.S o' c' u' f' a' z' g' is') p q e = absurd (differ 71 83 _ _ e refl)
map_one (map.G m g) (map.U u') p q e = absurd (differ 71 85 _ _ e refl)
map_one (map.G m g) (map.D us') p q e = absurd (differ 71 68 _ _ e refl)
map_one (map.G m g) (map.T us') p q e = absurd (differ 71 84 _ _ e refl)
map_one (map.G m g) (map.P f' t' ms' us') p q e = absurd (differ 71 80 _ _ e refl)
map_one (map.G m g) (map.E f') p q e = absurd (differ 71 69 _ _ e refl)
map_one (map.S o c u f a z g is) (map.H h') p q e = absurd (differ 83 72 _ _ e refl)
map_one (map.S o c u f a z g is) (map.B m' g' n') p q e = absurd (differ 83 66 _ _ e refl)
map_one (map.S o c u f a z g is) (map.G m' g') p q e = absurd (differ 83 71 _ _ e refl)
map_one (map.S o c u f a z g is) (map.U u') p q e = absurd (differ 83 85 _ _ e refl)
map_one (map.S o c u f a z g is) (map.D us') p q e = absurd (differ 83 68 _ _ e refl)
map_one (map.S o c u f a z g is) (map.T us') p q e = absurd (differ 83 84 _ _ e refl)
map_one (map.S o c u f a z g is) (map.P f' t' ms' us') p q e = absurd (differ 83 80 _ _ e refl)
map_one (map.S o c u f a z g is) (map.E f') p q e = absurd (differ 83 69 _ _ e refl)
map_one (map.U u) (map.H h') p q e = absurd (differ 85 72 _ _ e refl)
map_one (map.U u) (map.B m' g' n') p q e = absurd (differ 85 66 _ _ e refl)
map_one (map.U u) (map.G m' g') p q e = absurd (differ 85 71 _ _ e refl)
map_one (map.U u) (map.S o' c' u' f' a' z' g' is') p q e = absurd (differ 85 83 _ _ e refl)
map_one (map.U u) (map.D us') p q e = absurd (differ 85 68 _ _ e refl)
map_one (map.U u) (map.T us') p q e = absurd (differ 85 84 _ _ e refl)
map_one (map.U u) (map.P f' t' ms' us') p q e = absurd (differ 85 80 _ _ e refl)
map_one (map.U u) (map.E f') p q e = absurd (differ 85 69 _ _ e refl)
map_one (map.D us) (map.H h') p q e = absurd (differ 68 72 _ _ e refl)
map_one (map.D us) (map.B m' g' n') p q e = absurd (differ 68 66 _ _ e refl)
map_one (map.D us) (map.G m' g') p q e = absurd (differ 68 71 _ _ e refl)
map_one (map.D us) (map.S o' c' u' f' a' z' g' is') p q e = absurd (differ 68 83 _ _ e refl)
map_one (map.D us) (map.U u') p q e = absurd (differ 68 85 _ _ e refl)
map_one (map.D us) (map.T us') p q e = absurd (differ 68 84 _ _ e refl)
map_one (map.D us) (map.P f' t' ms' us') p q e = absurd (differ 68 80 _ _ e refl)
map_one (map.D us) (map.E f') p q e = absurd (differ 68 69 _ _ e refl)
map_one (map.T us) (map.H h') p q e = absurd (differ 84 72 _ _ e refl)
map_one (map.T us) (map.B m' g' n') p q e = absurd (differ 84 66 _ _ e refl)
map_one (map.T us) (map.G m' g') p q e = absurd (differ 84 71 _ _ e refl)
map_one (map.T us) (map.S o' c' u' f' a' z' g' is') p q e = absurd (differ 84 83 _ _ e refl)
map_one (map.T us) (map.U u') p q e = absurd (differ 84 85 _ _ e refl)
map_one (map.T us) (map.D us') p q e = absurd (differ 84 68 _ _ e refl)
map_one (map.T us) (map.P f' t' ms' us') p q e = absurd (differ 84 80 _ _ e refl)
map_one (map.T us) (map.E f') p q e = absurd (differ 84 69 _ _ e refl)
map_one (map.P f t ms us) (map.H h') p q e = absurd (differ 80 72 _ _ e refl)
map_one (map.P f t ms us) (map.B m' g' n') p q e = absurd (differ 80 66 _ _ e refl)
map_one (map.P f t ms us) (map.G m' g') p q e = absurd (differ 80 71 _ _ e refl)
map_one (map.P f t ms us) (map.S o' c' u' f' a' z' g' is') p q e = absurd (differ 80 83 _ _ e refl)
map_one (map.P f t ms us) (map.U u') p q e = absurd (differ 80 85 _ _ e refl)
map_one (map.P f t ms us) (map.D us') p q e = absurd (differ 80 68 _ _ e refl)
map_one (map.P f t ms us) (map.T us') p q e = absurd (differ 80 84 _ _ e refl)
map_one (map.P f t ms us) (map.E f') p q e = absurd (differ 80 69 _ _ e refl)
map_one (map.E f) (map.H h') p q e = absurd (differ 69 72 _ _ e refl)
map_one (map.E f) (map.B m' g' n') p q e = absurd (differ 69 66 _ _ e refl)
map_one (map.E f) (map.G m' g') p q e = absurd (differ 69 71 _ _ e refl)
map_one (map.E f) (map.S o' c' u' f' a' z' g' is') p q e = absurd (differ 69 83 _ _ e refl)
map_one (map.E f) (map.U u') p q e = absurd (differ 69 85 _ _ e refl)
map_one (map.E f) (map.D us') p q e = absurd (differ 69 68 _ _ e refl)
map_one (map.E f) (map.T us') p q e = absurd (differ 69 84 _ _ e refl)
map_one (map.E f) (map.P f' t' ms' us') p q e = absurd (differ 69 80 _ _ e refl)
map_one (map.H h) (map.X m' cs') p q e = absurd (differ 72 88 _ _ e refl)
map_one (map.H h) (map.V m' n') p q e = absurd (differ 72 86 _ _ e refl)
map_one (map.B m g n) (map.X m' cs') p q e = absurd (differ 66 88 _ _ e refl)
map_one (map.B m g n) (map.V m' n') p q e = absurd (differ 66 86 _ _ e refl)
map_one (map.G m g) (map.X m' cs') p q e = absurd (differ 71 88 _ _ e refl)
map_one (map.G m g) (map.V m' n') p q e = absurd (differ 71 86 _ _ e refl)
map_one (map.S o c u f a z g is) (map.X m' cs') p q e = absurd (differ 83 88 _ _ e refl)
map_one (map.S o c u f a z g is) (map.V m' n') p q e = absurd (differ 83 86 _ _ e refl)
map_one (map.U u) (map.X m' cs') p q e = absurd (differ 85 88 _ _ e refl)
map_one (map.U u) (map.V m' n') p q e = absurd (differ 85 86 _ _ e refl)
map_one (map.D us) (map.X m' cs') p q e = absurd (differ 68 88 _ _ e refl)
map_one (map.D us) (map.V m' n') p q e = absurd (differ 68 86 _ _ e refl)
map_one (map.T us) (map.X m' cs') p q e = absurd (differ 84 88 _ _ e refl)
map_one (map.T us) (map.V m' n') p q e = absurd (differ 84 86 _ _ e refl)
map_one (map.P f t ms us) (map.X m' cs') p q e = absurd (differ 80 88 _ _ e refl)
map_one (map.P f t ms us) (map.V m' n') p q e = absurd (differ 80 86 _ _ e refl)
map_one (map.E f) (map.X m' cs') p q e = absurd (differ 69 88 _ _ e refl)
map_one (map.E f) (map.V m' n') p q e = absurd (differ 69 86 _ _ e refl)
map_one (map.X m cs) (map.H h') p q e = absurd (differ 88 72 _ _ e refl)
map_one (map.X m cs) (map.B m' g' n') p q e = absurd (differ 88 66 _ _ e refl)
map_one (map.X m cs) (map.G m' g') p q e = absurd (differ 88 71 _ _ e refl)
map_one (map.X m cs) (map.S o' c' u' f' a' z' g' is') p q e = absurd (differ 88 83 _ _ e refl)
map_one (map.X m cs) (map.U u') p q e = absurd (differ 88 85 _ _ e refl)
map_one (map.X m cs) (map.D us') p q e = absurd (differ 88 68 _ _ e refl)
map_one (map.X m cs) (map.T us') p q e = absurd (differ 88 84 _ _ e refl)
map_one (map.X m cs) (map.P f' t' ms' us') p q e = absurd (differ 88 80 _ _ e refl)
map_one (map.X m cs) (map.E f') p q e = absurd (differ 88 69 _ _ e refl)
map_one (map.X m cs) (map.V m' n') p q e = absurd (differ 88 86 _ _ e refl)
map_one (map.V m n) (map.H h') p q e = absurd (differ 86 72 _ _ e refl)
map_one (map.V m n) (map.B m' g' n') p q e = absurd (differ 86 66 _ _ e refl)
map_one (map.V m n) (map.G m' g') p q e = absurd (differ 86 71 _ _ e refl)
map_one (map.V m n) (map.S o' c' u' f' a' z' g' is') p q e = absurd (differ 86 83 _ _ e refl)
map_one (map.V m n) (map.U u') p q e = absurd (differ 86 85 _ _ e refl)
map_one (map.V m n) (map.D us') p q e = absurd (differ 86 68 _ _ e refl)
map_one (map.V m n) (map.T us') p q e = absurd (differ 86 84 _ _ e refl)
map_one (map.V m n) (map.P f' t' ms' us') p q e = absurd (differ 86 80 _ _ e refl)
map_one (map.V m n) (map.E f') p q e = absurd (differ 86 69 _ _ e refl)
map_one (map.V m n) (map.X m' cs') p q e = absurd (differ 86 88 _ _ e refl)
