-- Entries have one spelling.
use Rattle.std.specs.Prelude.{◌≡◌, ◌==◌, ◌<◌, ◌≤◌, ℕ, List, [], ◌∷◌, ◌++◌, All, Bool, true, false, length, flat_map, map, refl}
use Rattle.std.specs.List.{AllByRecursion}
use Rattle.std.specs.Int.{w64, to_be_bytes}
use Rattle.std.proofs.Common.{ap, sym, ◌∙◌, append_assoc, arith}
use Rattle.std.proofs.lemmas.List.Elements.{All-head, All-tail}
use Rattle.mdbox_base.specs.Keywords.{IsKeyword, AreWords}
use Rattle.mdbox_base.specs.declared.ids.Guid.{Guid}
use Rattle.mdbox_base.specs.declared.ids.Uid.{Uid}
use Rattle.mdbox_base.specs.declared.ids.MapUid.{MapUid}
use Rattle.mdbox_base.specs.declared.entries.BoxEntry.TheVariants as box
use Rattle.mdbox_base.specs.declared.entries.RootEntry.TheVariants as root
use Rattle.model_octets.proofs.PiecesLemmas.{split_same}
use Rattle.model_octets.proofs.NumberLemmas.{four_same, eight_same, front, behind, differ}
use Rattle.model_logs.specs.Entries.{four, name_text, root_text, words_text, added_words, text_in, RootInRange, WordsInRange, SetInRange, InRangeIn, HasOneText}

pub texts_same : {X : Type 0} → (text : X → List ℕ) (InRange : X → Type 0) → HasOneText text InRange → (xs ys : List X) → AllByRecursion InRange xs → AllByRecursion InRange ys → map text xs ≡ map text ys → xs ≡ ys
texts_same text InRange one [] [] p q e = refl
texts_same text InRange one [] (y ∷ ys) p q e = cc e
texts_same text InRange one (x ∷ xs) [] p q e = cc e
texts_same text InRange one (x ∷ xs) (y ∷ ys) p q e =
    let h : text x ≡ text y = cc in
    let t : map text xs ≡ map text ys = cc in
    let r : xs ≡ ys = texts_same text InRange one xs ys p.1 q.1 t in
    let k : x ≡ y = one x y p.0 q.0 h in
    cc (k, r)

pub root_one : HasOneText root_text RootInRange
root_one (root.M g) (root.M h) p q e =
    let f : four g ≡ four h = cc in
    ap root.M (four_same g h p q f)

pub uid_same : (a b : Uid) → a.0 ≡ b.0 → a ≡ b
uid_same a b e = ap (λ (n : ℕ). let u : Uid = record { 0 = n } in u) e

pub map_uid_same : (a b : MapUid) → a.0 ≡ b.0 → a ≡ b
map_uid_same a b e = ap (λ (n : ℕ). let u : MapUid = record { 0 = n } in u) e

pub guid_same : (a b : Guid) → a.0 ≡ b.0 → a ≡ b
guid_same a b e = ap (λ (n : List ℕ). let u : Guid = record { 0 = n } in u) e

-- a list of keywords begins no other
pub words_same : (a b : List (List ℕ)) (x y : List ℕ) → length a ≡ length b → flat_map name_text a ++ x ≡ flat_map name_text b ++ y → (a ≡ b) × (x ≡ y)
words_same [] [] x y l e = (refl, e)
words_same [] (w ∷ b) x y l e = cc l
words_same (w ∷ a) [] x y l e = cc l
words_same (w ∷ a) (v ∷ b) x y l e =
    let t : name_text w ++ (flat_map name_text a ++ x) ≡ name_text v ++ (flat_map name_text b ++ y) =
    sym (append_assoc (name_text w) (flat_map name_text a) x) ∙ e ∙ append_assoc (name_text v) (flat_map name_text b) y in
    let n : length w ≡ length v = ap front t in
    let r = split_same w v _ _ n (ap behind t) in
    let k : length a ≡ length b = omega (arith, l) in
    let q = words_same a b x y k r.1 in
    let h : w ≡ v = r.0 in
    let j : a ≡ b = q.0 in
    (cc (h, j), q.1)

words_one : (a b : List (List ℕ)) → words_text a ≡ words_text b → a ≡ b
words_one a b e =
    let n : length a ≡ length b = ap front e in
    let t : flat_map name_text a ≡ flat_map name_text b = ap behind e in
    (words_same a b [] [] n (ap (λ (o : List ℕ). o ++ []) t)).0

added_one : (has : Bool) (a b : List (List ℕ)) → WordsInRange has a → WordsInRange has b → added_words has a ≡ added_words has b → a ≡ b
added_one true a b p q e = words_one a b e
added_one false a b p q e = p ∙ sym q

same_added : (u v : Uid) (f h t w s z : ℕ) (m n : MapUid) (g k : Guid) (a b : List (List ℕ)) → u ≡ v → f ≡ h → t ≡ w → s ≡ z → m ≡ n → g ≡ k → a ≡ b → box.A u f t s m g a ≡ box.A v h w z n k b
same_added u v f h t w s z m n g k a b e1 e2 e3 e4 e5 e6 e7 = cc

pub box_one : (version : ℕ) → HasOneText (text_in version) (InRangeIn version)
box_one version (box.N m) (box.N n) p q e = ap box.N (four_same m n p q (let f : four m ≡ four n = cc in f))
box_one version (box.R u) (box.R v) p q e = ap box.R (uid_same u v (four_same u.0 v.0 p q (let f : four u.0 ≡ four v.0 = cc in f)))
box_one version (box.F u f) (box.F v g) p q e =
    let t : four u.0 ++ f ∷ [] ≡ four v.0 ++ g ∷ [] = cc in
    let r = split_same (four u.0) (four v.0) _ _ refl t in
    let k : f ≡ g = (let w = r.1 in cc) in
    let h : u ≡ v = uid_same u v (four_same u.0 v.0 p.0 q.0 r.0) in
    cc (h, k)
box_one version (box.K u a) (box.K v b) p q e =
    let t : four u.0 ++ words_text a ≡ four v.0 ++ words_text b = ap behind e in
    let r = split_same (four u.0) (four v.0) _ _ refl t in
    let h : u ≡ v = uid_same u v (four_same u.0 v.0 p.0 q.0 r.0) in
    let k : a ≡ b = words_one a b r.1 in
    cc (h, k)
box_one version (box.A u f t s m g a) (box.A v h w z n k b) p q e =
    let e1 : four u.0 ++ (f ∷ (to_be_bytes w64 t ++ (four s ++ (four m.0 ++ (g.0 ++ added_words (version == 2) a))))) ≡ four v.0 ++ (h ∷ (to_be_bytes w64 w ++ (four z ++ (four n.0 ++ (k.0 ++ added_words (version == 2) b))))) = ap behind e in
    let r1 = split_same (four u.0) (four v.0) _ _ refl e1 in
    let flags : f ≡ h = ap front r1.1 in
    let e2 : to_be_bytes w64 t ++ (four s ++ (four m.0 ++ (g.0 ++ added_words (version == 2) a))) ≡ to_be_bytes w64 w ++ (four z ++ (four n.0 ++ (k.0 ++ added_words (version == 2) b))) = ap behind r1.1 in
    let r2 = split_same (to_be_bytes w64 t) (to_be_bytes w64 w) _ _ refl e2 in
    let r3 = split_same (four s) (four z) _ _ refl r2.1 in
    let r4 = split_same (four m.0) (four n.0) _ _ refl r3.1 in
    let r5 = split_same g.0 k.0 _ _ (p.5 ∙ sym q.5) r4.1 in
    same_added u v f h t w s z m n g k a b (uid_same u v (four_same u.0 v.0 p.0 q.0 r1.0)) flags (eight_same t w p.2 q.2 r2.0) (four_same s z p.3 q.3 r3.0) (map_uid_same m n (four_same m.0 n.0 p.4 q.4 r4.0)) (guid_same g k r5.0)
    (added_one (version == 2) a b p.6 q.6 r5.1)
box_one version (box.N m) (box.R v) p q e = absurd (differ 78 82 _ _ e refl)
box_one version (box.N m) (box.F v g) p q e = absurd (differ 78 70 _ _ e refl)
box_one version (box.N m) (box.K v b) p q e = absurd (differ 78 75 _ _ e refl)
box_one version (box.N m) (box.A v h w z n k b) p q e = absurd (differ 78 65 _ _ e refl)
box_one version (box.R u) (box.N n) p q e = absurd (differ 82 78 _ _ e refl)
box_one version (box.R u) (box.F v g) p q e = absurd (differ 82 70 _ _ e refl)
box_one version (box.R u) (box.K v b) p q e = absurd (differ 82 75 _ _ e refl)
box_one version (box.R u) (box.A v h w z n k b) p q e = absurd (differ 82 65 _ _ e refl)
box_one version (box.F u f) (box.N n) p q e = absurd (differ 70 78 _ _ e refl)
box_one version (box.F u f) (box.R v) p q e = absurd (differ 70 82 _ _ e refl)
box_one version (box.F u f) (box.K v b) p q e = absurd (differ 70 75 _ _ e refl)
box_one version (box.F u f) (box.A v h w z n k b) p q e = absurd (differ 70 65 _ _ e refl)
box_one version (box.K u a) (box.N n) p q e = absurd (differ 75 78 _ _ e refl)
box_one version (box.K u a) (box.R v) p q e = absurd (differ 75 82 _ _ e refl)
box_one version (box.K u a) (box.F v g) p q e = absurd (differ 75 70 _ _ e refl)
box_one version (box.K u a) (box.A v h w z n k b) p q e = absurd (differ 75 65 _ _ e refl)
box_one version (box.A u f t s m g a) (box.N n) p q e = absurd (differ 65 78 _ _ e refl)
box_one version (box.A u f t s m g a) (box.R v) p q e = absurd (differ 65 82 _ _ e refl)
box_one version (box.A u f t s m g a) (box.F v h) p q e = absurd (differ 65 70 _ _ e refl)
box_one version (box.A u f t s m g a) (box.K v b) p q e = absurd (differ 65 75 _ _ e refl)

below_256 : (words : List (List ℕ)) → All IsKeyword words → AllByRecursion (λ word. length word < 256) words
below_256 [] all = tt
below_256 (w ∷ words) all =
    let k : length w ≤ 64 = (All-head IsKeyword w words all).short in
    (omega (arith, k), below_256 words (All-tail IsKeyword w words all))

-- keywords of a message fit their widths
pub words_in_range : (words : List (List ℕ)) → AreWords words → WordsInRange true words
words_in_range words w =
    let few : length words ≤ 32 = w.few in
    (omega (arith, few), below_256 words w.each)
