-- Lines say one metadata at most, and a text has one first bad line at most.
use Rattle.std.specs.Prelude.{◌≡◌, ◌==◌, ◌||◌, ℕ, Bool, true, false, List, [], ◌∷◌, ◌++◌, length, map, filter, flat_map, IsTrue, Option, Some, None, ◌⊎◌, is_some, refl}
use Rattle.std.specs.List.{AllByRecursion}
use Rattle.std.proofs.Common.{sym, inl, inr, ⊎_elim, ◌∙◌, ap, subst, append_assoc, append-nil}
use Rattle.std.proofs.lemmas.Bool.{eqb-true, eq-eqb}
use Rattle.std.proofs.lemmas.List.{map-append}
use Rattle.std.proofs.lemmas.List.Elements.{filter-append}
use Rattle.hex.proofs.HexLemmas.{decode_of-same}
use Rattle.mdbox_base.specs.declared.ids.Guid.{Guid}
use Rattle.mdbox_base.specs.declared.metadata.ExtRef.{ExtRef}
use Rattle.model_storage.specs.declared.metadata_value.Metadata.{Metadata}
use Rattle.model_storage.specs.StorageFile.{Line, IsLine, AreLines, line_text, values_of}
use Rattle.model_storage.specs.References.{AreReferences}
use Rattle.model_storage.proofs.ReferenceLemmas.{references_same, until_same, behind}
use Rattle.model_storage.specs.Metadata.{IsNumberText, IsGuidText, IsOriginText, HasAtMostOne, HasAtMostOneReadable, HasReferences, is_number_key, is_known_key, is_unknown, IsMetadata, IsMetadataText, MayFollow, FollowOneAnother, IsFirstBadLine}

-- a text is read as one value at most
IsOneReading : {X : Type 0} → (List ℕ → X → Type 0) → Type 0
IsOneReading Reads = (text : List ℕ) (a b : _) → Reads text a → Reads text b → a ≡ b

number_one : (text : List ℕ) (m n : ℕ) → IsNumberText text m → IsNumberText text n → m ≡ n
number_one text m n a b = let h : Some m ≡ Some n = sym a.value ∙ b.value in cc h

guid_one : (text : List ℕ) (g h : Guid) → IsGuidText text g → IsGuidText text h → g ≡ h
guid_one text g h a b = ap (λ (n : List ℕ). let u : Guid = record { 0 = n } in u) (decode_of-same text g.0 h.0 a.octets b.octets)

origin_one : (text m n : List ℕ) → IsOriginText text m → IsOriginText text n → m ≡ n
origin_one text m n a b = sym a.same ∙ b.same

one_text : (xs : List (List ℕ)) (t u : List ℕ) → xs ≡ t ∷ [] → xs ≡ u ∷ [] → t ≡ u
one_text xs t u a b = let h : t ∷ [] ≡ u ∷ [] = sym a ∙ b in cc h

no_text : (xs : List (List ℕ)) (t : List ℕ) → xs ≡ [] → xs ≡ t ∷ [] → ⊥
no_text xs t a b = let h : [] ≡ t ∷ [] = sym a ∙ b in cc h

some_equal : {X : Type 0} → (a b : X) → a ≡ b → Some a ≡ Some b
some_equal a b e = ap (λ x. Some x) e

at_most_one : {X : Type 0} → (Reads : List ℕ → X → Type 0) → ((text : List ℕ) (a b : X) → Reads text a → Reads text b → a ≡ b) →
    (key : ℕ) (lines : List Line) (a b : Option X) → HasAtMostOne Reads key lines a → HasAtMostOne Reads key lines b → a ≡ b
at_most_one Reads one key lines None None p q = refl
at_most_one Reads one key lines None (Some b) p q = absurd (no_text _ _ p q.1)
at_most_one Reads one key lines (Some a) None p q = absurd (no_text _ _ q p.1)
at_most_one Reads one key lines (Some a) (Some b) p q =
    some_equal a b (one q.0 a b (subst (λ (t : List ℕ). Reads t a) (one_text _ p.0 q.0 p.1 q.1) p.2) q.2)

at_most_one_readable : {X : Type 0} → (Reads : List ℕ → X → Type 0) → ((text : List ℕ) (a b : X) → Reads text a → Reads text b → a ≡ b) →
    (key : ℕ) (lines : List Line) (a b : Option X) → HasAtMostOneReadable Reads key lines a → HasAtMostOneReadable Reads key lines b → a ≡ b
at_most_one_readable Reads one key lines None None p q = refl
at_most_one_readable Reads one key lines None (Some b) (inl p) q = absurd (no_text _ _ p q.1)
at_most_one_readable Reads one key lines None (Some b) (inr p) q =
    absurd (p.2 b (subst (λ (t : List ℕ). Reads t b) (one_text _ q.0 p.0 q.1 p.1) q.2))
at_most_one_readable Reads one key lines (Some a) None p (inl q) = absurd (no_text _ _ q p.1)
at_most_one_readable Reads one key lines (Some a) None p (inr q) =
    absurd (q.2 a (subst (λ (t : List ℕ). Reads t a) (one_text _ p.0 q.0 p.1 q.1) p.2))
at_most_one_readable Reads one key lines (Some a) (Some b) p q =
    some_equal a b (one q.0 a b (subst (λ (t : List ℕ). Reads t a) (one_text _ p.0 q.0 p.1 q.1) p.2) q.2)

-- Lines have one list of references at most.
pub refs_same : (lines : List Line) (rs ss : List ExtRef) → HasReferences lines rs → HasReferences lines ss → rs ≡ ss
refs_same lines [] [] a b = refl
refs_same lines [] (s ∷ ss) a b = absurd (no_text _ _ a b.1)
refs_same lines (r ∷ rs) [] a b = absurd (no_text _ _ b a.1)
refs_same lines (r ∷ rs) (s ∷ ss) a b =
    references_same b.0 (r ∷ rs) (s ∷ ss) (subst (λ (t : List ℕ). AreReferences t (r ∷ rs)) (one_text _ a.0 b.0 a.1 b.1) a.2) b.2

made : Option Guid → Option ℕ → Option ℕ → Option ℕ → Option (List ℕ) → List ExtRef → List ℕ → Metadata
made guid received physical virtual_size origin refs unknown =
    record { guid = guid; received = received; physical = physical; virtual_size = virtual_size; origin = origin; refs = refs; unknown = unknown }

-- Lines say one metadata at most.
pub metadata_same : (lines : List Line) (m n : Metadata) → IsMetadata lines m → IsMetadata lines n → m ≡ n
unfolding made
metadata_same lines m n a b =
    let guid : m.guid ≡ n.guid = at_most_one_readable IsGuidText guid_one 71 lines m.guid n.guid a.guid b.guid in
    let received : m.received ≡ n.received = at_most_one IsNumberText number_one 82 lines m.received n.received a.received b.received in
    let physical : m.physical ≡ n.physical = at_most_one IsNumberText number_one 90 lines m.physical n.physical a.physical b.physical in
    let virtual : m.virtual_size ≡ n.virtual_size = at_most_one IsNumberText number_one 86 lines m.virtual_size n.virtual_size a.virtual_size b.virtual_size in
    let origin : m.origin ≡ n.origin = at_most_one_readable IsOriginText origin_one 66 lines m.origin n.origin a.origin b.origin in
    let refs : m.refs ≡ n.refs = refs_same lines m.refs n.refs a.refs b.refs in
    let unknown : m.unknown ≡ n.unknown =
    a.unknown ∙ ap (λ (g : Option Guid). flat_map line_text (filter (is_unknown (is_some g) (is_some m.origin)) lines)) guid
    ∙ ap (λ (o : Option (List ℕ)). flat_map line_text (filter (is_unknown (is_some n.guid) (is_some o)) lines)) origin ∙ sym b.unknown in
    let h : made m.guid m.received m.physical m.virtual_size m.origin m.refs m.unknown ≡ made n.guid n.received n.physical n.virtual_size n.origin n.refs n.unknown =
    cc (guid, received, physical, virtual, origin, refs, unknown) in
    h

-- no line begins another
made_line : ℕ → List ℕ → Line
made_line key value = record { key = key; value = value }

line_same : (l k : Line) (x y : List ℕ) → IsLine l → IsLine k → line_text l ++ x ≡ line_text k ++ y → (l ≡ k) × (x ≡ y)
unfolding made_line
line_same l k x y p q e =
    let keys : l.key ≡ k.key = cc e in
    let rest : (l.value ++ 10 ∷ []) ++ x ≡ (k.value ++ 10 ∷ []) ++ y = ap behind e in
    let r = until_same 10 l.value k.value x y p.value q.value (sym (append_assoc l.value _ x) ∙ rest ∙ append_assoc k.value _ y) in
    let values : l.value ≡ k.value = r.0 in
    let h : made_line l.key l.value ≡ made_line k.key k.value = cc (keys, values) in
    (h, r.1)

-- lines that are followed by octets, cut out of lines
pub cut_lines : (lines good : List Line) (rest : List ℕ) → AllByRecursion IsLine lines → AllByRecursion IsLine good → flat_map line_text lines ≡ flat_map line_text good ++ rest →
    (more : List Line) × (lines ≡ good ++ more) × (rest ≡ flat_map line_text more)
cut_lines lines [] rest p q e = (lines, refl, sym e)
cut_lines [] (g ∷ good) rest p q e = absurd (let h : [] ≡ g.key ∷ (((g.value ++ 10 ∷ []) ++ flat_map line_text good) ++ rest) = e in cc h)
cut_lines (l ∷ lines) (g ∷ good) rest p q e =
    let r = line_same l g (flat_map line_text lines) (flat_map line_text good ++ rest) p.0 q.0 (e ∙ append_assoc (line_text g) _ rest) in
    let k = cut_lines lines good rest p.1 q.1 r.1 in
    let t : lines ≡ good ++ k.0 = k.1 in
    let h : l ≡ g = r.0 in
    (k.0, cc (h, t), k.2)

-- a text is one list of lines at most
pub lines_same : (text : List ℕ) (a b : List Line) → AreLines text a → AreLines text b → a ≡ b
lines_same text a b p q =
    let k = cut_lines a b [] p.each q.each (sym p.spelled ∙ q.spelled ∙ sym (append-nil _)) in
    let none : k.0 ≡ [] = no_lines k.0 (sym k.2) in
    k.1 ∙ ap (λ (m : List Line). b ++ m) none ∙ append-nil b
  where
    no_lines : (more : List Line) → flat_map line_text more ≡ [] → more ≡ []
    no_lines [] e = refl
    no_lines (l ∷ more) e = absurd (let h : l.key ∷ ((l.value ++ 10 ∷ []) ++ flat_map line_text more) ≡ [] = e in cc h)

-- A text says one metadata at most.
pub metadata_text_same : (text : List ℕ) (m n : Metadata) → IsMetadataText text m → IsMetadataText text n → m ≡ n
metadata_text_same text m n a b =
    let same = lines_same text a.lines b.lines a.are b.are in
    metadata_same b.lines m n (subst (λ (ls : List Line). IsMetadata ls m) same a.say) b.say

-- lines that follow one another are lines
pub follow_are_lines : (before lines : List Line) → FollowOneAnother before lines → AllByRecursion IsLine lines
follow_are_lines before [] f = tt
follow_are_lines before (line ∷ lines) f = (f.0.spelled, follow_are_lines (before ++ line ∷ []) lines f.1)

-- and each may follow those before it
pub follow_at : (before good : List Line) (line : Line) (more : List Line) → FollowOneAnother before (good ++ line ∷ more) → MayFollow (before ++ good) line
follow_at before [] line more f = rw append-nil f.0
follow_at before (g ∷ good) line more f =
    rw (← append_assoc before (g ∷ []) good) (follow_at (before ++ g ∷ []) good line more f.1)

-- two rows of lines in front of one text: one begins the other
abbrev pub Begins : List Line → List Line → List ℕ → List ℕ → Type 0
Begins a b x y = (line : Line) × (more : List Line) × (b ≡ a ++ line ∷ more) × (x ≡ line_text line ++ (flat_map line_text more ++ y))

pub side_by_side : (a b : List Line) (x y : List ℕ) → AllByRecursion IsLine a → AllByRecursion IsLine b → flat_map line_text a ++ x ≡ flat_map line_text b ++ y →
    (a ≡ b) ⊎ (Begins a b x y ⊎ Begins b a y x)
side_by_side [] [] x y p q e = inl refl
side_by_side [] (l ∷ ls) x y p q e = inr (inl (l, ls, refl, e ∙ append_assoc (line_text l) _ y))
side_by_side (l ∷ ls) [] x y p q e = inr (inr (l, ls, refl, sym e ∙ append_assoc (line_text l) _ x))
side_by_side (l ∷ ls) (k ∷ ks) x y p q e =
    let r = line_same l k (flat_map line_text ls ++ x) (flat_map line_text ks ++ y) p.0 q.0 (sym (append_assoc (line_text l) _ x) ∙ e ∙ append_assoc (line_text k) _ y) in
    let h : l ≡ k = r.0 in
    ⊎_elim
    (λ (s : ls ≡ ks). inl (let t : l ∷ ls ≡ k ∷ ks = cc (h, s) in t))
    (λ s. ⊎_elim
    (λ (b : Begins ls ks x y). inr (inl (b.0, b.1, (let u : ks ≡ ls ++ b.0 ∷ b.1 = b.2 in let t : k ∷ ks ≡ l ∷ (ls ++ b.0 ∷ b.1) = cc (h, u) in t), b.3)))
    (λ (b : Begins ks ls y x). inr (inr (b.0, b.1, (let u : ls ≡ ks ++ b.0 ∷ b.1 = b.2 in let t : l ∷ ls ≡ k ∷ (ks ++ b.0 ∷ b.1) = cc (h, u) in t), b.3)))
    s)
    (side_by_side ls ks x y p.1 q.1 r.1)

-- what begins another row of good lines has no bad line behind it
not_behind : (a b : List Line) (x y : List ℕ) → FollowOneAnother [] b → ((line : Line) (behind : List ℕ) → x ≡ line_text line ++ behind → MayFollow a line → ⊥) → Begins a b x y → ⊥
not_behind a b x y f bad (line, more, e, s) = bad line (flat_map line_text more ++ y) s (follow_at [] a line more (subst (λ (o : List Line). FollowOneAnother [] o) e f))

-- A text has one first bad line at most.
pub first_bad_same : (text : List ℕ) (i j : ℕ) → IsFirstBadLine text i → IsFirstBadLine text j → i ≡ j
first_bad_same text i j a b =
    let e : a.good ≡ b.good = ⊎_elim
    (λ (s : a.good ≡ b.good). s)
    (λ s. ⊎_elim
    (λ (l : Begins a.good b.good a.rest b.rest). absurd (not_behind a.good b.good a.rest b.rest b.follow a.bad l))
    (λ (r : Begins b.good a.good b.rest a.rest). absurd (not_behind b.good a.good b.rest a.rest a.follow b.bad r))
    s)
    (side_by_side a.good b.good a.rest b.rest (follow_are_lines [] a.good a.follow) (follow_are_lines [] b.good b.follow) (sym a.parts ∙ b.parts)) in
    a.place ∙ ap (λ (ls : List Line). length (flat_map line_text ls)) e ∙ sym b.place

-- the texts of a key are none or one
abbrev IsNoneOrOne : List (List ℕ) → Type 0
IsNoneOrOne xs = (xs ≡ []) ⊎ ((text : List ℕ) × (xs ≡ text ∷ []))

none_or_one : {X : Type 0} → (Reads : List ℕ → X → Type 0) (key : ℕ) (lines : List Line) (o : Option X) → HasAtMostOne Reads key lines o → IsNoneOrOne (values_of key lines)
none_or_one Reads key lines None h = inl h
none_or_one Reads key lines (Some x) h = inr (h.0, h.1)

none_or_one_readable : {X : Type 0} → (Reads : List ℕ → X → Type 0) (key : ℕ) (lines : List Line) (o : Option X) → HasAtMostOneReadable Reads key lines o → IsNoneOrOne (values_of key lines)
none_or_one_readable Reads key lines None (inl h) = inl h
none_or_one_readable Reads key lines None (inr h) = inr (h.0, h.1)
none_or_one_readable Reads key lines (Some x) h = inr (h.0, h.1)

none_or_one_refs : (lines : List Line) (refs : List ExtRef) → HasReferences lines refs → IsNoneOrOne (values_of 88 lines)
none_or_one_refs lines [] h = inl h
none_or_one_refs lines (r ∷ rs) h = inr (h.0, h.1)

-- a key that is none of these is unknown
key_cases : (a b : Bool) → IsTrue (a || b) → IsTrue a ⊎ IsTrue b
key_cases true b h = inl refl
key_cases false b h = inr h

-- the texts of a known key are none or one
known_once : (lines : List Line) (m : Metadata) (key : ℕ) → IsMetadata lines m → IsTrue (is_known_key key) → IsNoneOrOne (values_of key lines)
known_once lines m key say h =
    let at : (k : ℕ) → IsNoneOrOne (values_of k lines) → IsTrue (key == k) → IsNoneOrOne (values_of key lines) = λ k v e. subst (λ (n : ℕ). IsNoneOrOne (values_of n lines)) (sym (eqb-true key k e)) v in
    ⊎_elim
    (λ (h1 : IsTrue (is_number_key key || key == 71 || key == 66)). ⊎_elim
    (λ (h2 : IsTrue (is_number_key key || key == 71)). ⊎_elim
    (λ (h3 : IsTrue (is_number_key key)). ⊎_elim
    (λ (h4 : IsTrue (key == 82 || key == 90)). ⊎_elim
    (at 82 (none_or_one IsNumberText 82 lines m.received say.received))
    (at 90 (none_or_one IsNumberText 90 lines m.physical say.physical))
    (key_cases (key == 82) (key == 90) h4))
    (at 86 (none_or_one IsNumberText 86 lines m.virtual_size say.virtual_size))
    (key_cases (key == 82 || key == 90) (key == 86) h3))
    (at 71 (none_or_one_readable IsGuidText 71 lines m.guid say.guid))
    (key_cases (is_number_key key) (key == 71) h2))
    (at 66 (none_or_one_readable IsOriginText 66 lines m.origin say.origin))
    (key_cases (is_number_key key || key == 71) (key == 66) h1))
    (at 88 (none_or_one_refs lines m.refs say.refs))
    (key_cases (is_number_key key || key == 71 || key == 66) (key == 88) h)

values_append : (key : ℕ) (xs ys : List Line) → values_of key (xs ++ ys) ≡ values_of key xs ++ values_of key ys
values_append key xs ys = ap (map (λ (l : Line). l.value)) (filter-append (λ (l : Line). l.key == key) xs ys) ∙ map-append (λ (l : Line). l.value) _ _

values_here : (line : Line) (more : List Line) → values_of line.key (line ∷ more) ≡ line.value ∷ values_of line.key more
values_here line more = rw (eq-eqb line.key line.key refl) refl

single : (xs ys : List (List ℕ)) (y t : List ℕ) → xs ++ y ∷ ys ≡ t ∷ [] → (xs ≡ []) × (y ≡ t)
single [] ys y t e = (refl, cc e)
single (x ∷ []) ys y t e = absurd (let h : y ∷ ys ≡ [] = cc e in cc h)
single (x ∷ x2 ∷ xs) ys y t e = absurd (let h : x2 ∷ (xs ++ y ∷ ys) ≡ [] = cc e in cc h)

not_none : (xs ys : List (List ℕ)) (y : List ℕ) → xs ++ y ∷ ys ≡ [] → ⊥
not_none [] ys y e = let h : y ∷ ys ≡ [] = e in cc h
not_none (x ∷ xs) ys y e = let h : x ∷ (xs ++ y ∷ ys) ≡ [] = e in cc h

-- one text of the line's key: it is the line's, and none stands before
one_here : (good more : List Line) (line : Line) → IsNoneOrOne (values_of line.key (good ++ line ∷ more)) →
    (text : List ℕ) × (values_of line.key (good ++ line ∷ more) ≡ text ∷ []) × (values_of line.key good ≡ []) × (line.value ≡ text)
one_here good more line h =
    let e = values_append line.key good (line ∷ more) ∙ ap (λ (vs : List (List ℕ)). values_of line.key good ++ vs) (values_here line more) in
    ⊎_elim
    (λ (z : values_of line.key (good ++ line ∷ more) ≡ []). absurd (not_none (values_of line.key good) (values_of line.key more) line.value (sym e ∙ z)))
    (λ t. let k = single (values_of line.key good) (values_of line.key more) line.value t.0 (sym e ∙ t.1) in (t.0, t.1, k.0, k.1))
    h

number_here : (key : ℕ) (lines : List Line) (text value : List ℕ) (o : Option ℕ) → values_of key lines ≡ text ∷ [] → value ≡ text → HasAtMostOne IsNumberText key lines o → (n : ℕ) × IsNumberText value n
number_here key lines text value None v e h = absurd (no_text _ _ h v)
number_here key lines text value (Some n) v e h = (n, subst (λ (t : List ℕ). IsNumberText t n) (one_text _ h.0 text h.1 v ∙ sym e) h.2)

refs_here : (lines : List Line) (text value : List ℕ) (refs : List ExtRef) → values_of 88 lines ≡ text ∷ [] → value ≡ text → HasReferences lines refs → (rs : List ExtRef) × AreReferences value rs
refs_here lines text value [] v e h = absurd (no_text _ _ h v)
refs_here lines text value (r ∷ rs) v e h = (r ∷ rs, subst (λ (t : List ℕ). AreReferences t (r ∷ rs)) (one_text _ h.0 text h.1 v ∙ sym e) h.2)

known_number : (key : ℕ) → IsTrue (is_number_key key) → IsTrue (is_known_key key)
known_number key h = rw h refl

known_refs : (key : ℕ) → key ≡ 88 → IsTrue (is_known_key key)
known_refs key h = rw h refl

number_at_key : (lines : List Line) (m : Metadata) (key : ℕ) (text value : List ℕ) → IsMetadata lines m → IsTrue (is_number_key key) → values_of key lines ≡ text ∷ [] → value ≡ text → (n : ℕ) × IsNumberText value n
number_at_key lines m key text value say h v e =
    ⊎_elim
    (λ (h4 : IsTrue (key == 82 || key == 90)). ⊎_elim
    (λ (k : IsTrue (key == 82)). number_here 82 lines text value m.received (rw (← eqb-true key 82 k) v) e say.received)
    (λ (k : IsTrue (key == 90)). number_here 90 lines text value m.physical (rw (← eqb-true key 90 k) v) e say.physical)
    (key_cases (key == 82) (key == 90) h4))
    (λ (k : IsTrue (key == 86)). number_here 86 lines text value m.virtual_size (rw (← eqb-true key 86 k) v) e say.virtual_size)
    (key_cases (key == 82 || key == 90) (key == 86) h)

-- each line of metadata may follow those before it
may_follow : (good more : List Line) (line : Line) (m : Metadata) → IsLine line → IsMetadata (good ++ line ∷ more) m → MayFollow good line
may_follow good more line m spelled say = record {
  spelled = spelled;
  once = λ h. (one_here good more line (known_once (good ++ line ∷ more) m line.key say h)).2;
  number = λ h. let k = one_here good more line (known_once (good ++ line ∷ more) m line.key say (known_number line.key h)) in
      number_at_key (good ++ line ∷ more) m line.key k.0 line.value say h k.1 k.3;
  references = λ h. let k = one_here good more line (known_once (good ++ line ∷ more) m line.key say (known_refs line.key h)) in
      refs_here (good ++ line ∷ more) k.0 line.value m.refs (rw (← h) k.1) k.3 say.refs;
}

are_behind : (a b : List Line) → AllByRecursion IsLine (a ++ b) → AllByRecursion IsLine b
are_behind [] b h = h
are_behind (x ∷ a) b h = are_behind a b h.1

-- A text that says metadata has no bad line.
pub no_bad_line : (text : List ℕ) (m : Metadata) (offset : ℕ) → IsMetadataText text m → IsFirstBadLine text offset → ⊥
no_bad_line text m offset a b =
    let k = cut_lines a.lines b.good b.rest a.are.each (follow_are_lines [] b.good b.follow) (sym a.are.spelled ∙ b.parts) in
    by_more k.0 k.1 k.2
  where
    by_more : (more : List Line) → a.lines ≡ b.good ++ more → b.rest ≡ flat_map line_text more → ⊥
    by_more [] e s = b.more s
    by_more (line ∷ more) e s =
        let each : AllByRecursion IsLine (b.good ++ line ∷ more) = subst (λ (ls : List Line). AllByRecursion IsLine ls) e a.are.each in
        b.bad line (flat_map line_text more) s (may_follow b.good more line m (are_behind b.good (line ∷ more) each).0 (subst (λ (ls : List Line). IsMetadata ls m) e a.say))
