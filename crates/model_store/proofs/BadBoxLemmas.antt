-- The first three checks of an opening, the logs, fail at one place at most, and not where the logs pass.
use Rattle.std.specs.Prelude.{◌≡◌, ◌≤◌, ◌+◌, ℕ, List, [], ◌∷◌, ◌++◌, length, map, take, drop, codes, Option, Some, ◌⊎◌, All, refl}
use Rattle.std.specs.Int.{w32, to_be_bytes}
use Rattle.std.proofs.Common.{inl, inr, sym, ◌∙◌, ap, arith, subst, append_assoc, length-append}
use Rattle.std.proofs.lemmas.List.Elements.{All-contains}
use Rattle.std.proofs.Math.Seq.{take-append_seam}
use Rattle.disk_model.specs.Disk.{Files}
use Rattle.disk_model.specs.declared.name.FileName.{FileName}
use Rattle.disk_model.specs.declared.name.FileName.TheVariants as file
use Rattle.model_logs.specs.declared.log_head.LogHead.{LogHead}
use Rattle.model_logs.specs.declared.log_head.LogKind.TheVariants as kind
use Rattle.mdbox_base.specs.declared.entries.MapEntry.{MapEntry}
use Rattle.mdbox_base.specs.declared.entries.BoxEntry.{BoxEntry}
use Rattle.mdbox_base.specs.declared.entries.RootEntry.{RootEntry}
use Rattle.mdbox_base.specs.declared.entries.RootEntry.TheVariants as root
use Rattle.model_meaning.specs.BoxMeaning.{rows_after}
use Rattle.model_meaning.specs.MapMeaning.{MapBox, MapMeaning}
use Rattle.model_logs.specs.Entries.{root_text, map_text, box_text, RootInRange, MapInRange, BoxInRange}
use Rattle.model_logs.proofs.EntryLemmas.{box_one}
use Rattle.model_logs.specs.LogFile.{kind_letter, HeadFits, head_octets, record_octets, opened, log_front, IsLog}
use Rattle.model_logs.proofs.LogFileLemmas.{head_same, head_length}
use Rattle.model_store.specs.Stands.{head_of, HasRoot, HasMap, HasBox}
use Rattle.model_store.proofs.StandsLemmas.{log_same, root_same}
use Rattle.model_store.proofs.BadLogLemmas.{Cuts, two_cuts, root_grammar, map_grammar, box_grammar, one_bad_log, good_log, good_octets}
use Rattle.model_store.proofs.BadLogLemmas.Cuts.{Same, Later, Earlier}
use Rattle.model_store.specs.Opening.{HasNoEntry, AreRootEntries, AreMapEntries, AreBoxEntries, IsBadLog, root_head, IsBadRoot, IsBadMapLog, IsBadMap, HasItsRecord, PassesBox, PassBoxes, IsDangling, LacksRecord, IsBadBox}

some_same : {X : Type 0} → (o : Option X) (a b : X) → o ≡ Some a → o ≡ Some b → a ≡ b
some_same o a b p q = let h : Some a ≡ Some b = sym p ∙ q in cc h

-- ---- the root log

-- an entry at least
abbrev IsSome : {X : Type 0} → List X → Type 0
IsSome [] = ⊥
IsSome (x ∷ xs) = Unit {0}

some_texts : (before : List RootEntry) (entry : RootEntry) → IsSome (map root_text (before ++ entry ∷ []))
some_texts [] entry = tt
some_texts (b ∷ bs) entry = tt

-- a log with an entry is longer than a head and a gate, and its first gate is open
long_or_open : (head : LogHead) (gate : ℕ) (behind : List ℕ) (entries : List (List ℕ)) (octets : List ℕ) → HeadFits head → octets ≡ log_front head entries ++ gate ∷ behind → IsSome entries → HasNoEntry (Some octets) → ⊥
long_or_open head gate behind [] octets f e some empty = some
long_or_open head gate behind (x ∷ xs) octets f e some (inl short) =
    let l1 : length octets ≡ length (log_front head (x ∷ xs)) + length (gate ∷ behind) = ap length e ∙ length-append (log_front head (x ∷ xs)) (gate ∷ behind) in
    let l2 : length (log_front head (x ∷ xs)) ≡ length (head_octets head) + length (opened (x ∷ xs)) = length-append (head_octets head) (opened (x ∷ xs)) in
    let l3 = head_length head f in
    let l4 : length (opened (x ∷ xs)) ≡ length (1 ∷ record_octets x) + length (opened xs) = length-append (1 ∷ record_octets x) (opened xs) in
    omega (arith, l1, l2, l3, l4, short)
long_or_open head gate behind (x ∷ xs) octets f e some (inr c) =
    let s = head_same head c.head _ _ f c.fits (sym (append_assoc (head_octets head) (opened (x ∷ xs)) (gate ∷ behind)) ∙ sym e ∙ c.spelled) in
    c.closed (first_gate _ _ s.1)
  where
    first_gate : (u v : List ℕ) → 1 ∷ u ≡ c.gate ∷ v → c.gate ≡ 1
    first_gate u v h = cc

-- a root log with an entry has one
pub has_entry : (files : Files) (store : List ℕ) (generation : ℕ) → HasRoot files store generation → HasNoEntry (files file.Root) → ⊥
has_entry files store generation r empty =
    long_or_open (head_of store kind.Root 0 0) r.log.whole.gate r.log.whole.behind _ r.log.octets r.log.whole.head_fits r.log.whole.spelled (some_texts r.before (root.M generation))
    (subst HasNoEntry r.log.there empty)

store_there : (store rest : List ℕ) → length store ≡ 8 → take 8 (store ++ rest) ≡ store
store_there store rest l = subst (λ (n : ℕ). take n (store ++ rest) ≡ store) l (take-append_seam store rest)

behind_magic : (xs : List ℕ) → drop 8 (codes "MDBXLOG1" ++ xs) ≡ xs
behind_magic xs = refl

head_there : (store rest octets : List ℕ) → HeadFits (head_of store kind.Root 0 0) → octets ≡ head_octets (head_of store kind.Root 0 0) ++ rest → take 8 (drop 8 octets) ≡ store
unfolding head_octets
head_there store rest octets f e =
    ap (λ (o : List ℕ). take 8 (drop 8 o)) e
    ∙ ap (take 8) (append_assoc store (kind_letter kind.Root ∷ (to_be_bytes w32 0 ++ to_be_bytes w32 0)) rest)
    ∙ store_there store _ f.store

-- the head that a root log has to have is that which it has
root_head_is : (store : List ℕ) (entries : List (List ℕ)) (octets : List ℕ) → IsLog octets (head_of store kind.Root 0 0) entries → root_head octets ≡ head_of store kind.Root 0 0
root_head_is store entries octets log =
    ap (λ (s : List ℕ). head_of s kind.Root 0 0)
    (head_there store _ octets log.head_fits (log.spelled ∙ append_assoc (head_octets (head_of store kind.Root 0 0)) (opened entries) (log.gate ∷ log.behind)))

root_along : (h k : LogHead) (o u : List ℕ) (place : ℕ) → o ≡ u → h ≡ k → IsBadLog root_text AreRootEntries h (Some o) place → IsBadLog root_text AreRootEntries k (Some u) place
root_along h k o u place e f b =
    subst (λ (x : LogHead). IsBadLog root_text AreRootEntries x (Some u) place) f (subst (λ (x : List ℕ). IsBadLog root_text AreRootEntries h (Some x) place) e b)

-- a root log that passes isn't damaged
pub good_root : (files : Files) (store : List ℕ) (generation place : ℕ) → HasRoot files store generation → IsBadRoot files place → ⊥
good_root files store generation place r b =
    let o : b.octets ≡ r.log.octets = some_same (files file.Root) b.octets r.log.octets b.there r.log.there in
    let h : root_head b.octets ≡ head_of store kind.Root 0 0 = ap root_head o ∙ root_head_is store _ r.log.octets r.log.whole in
    good_octets root_text RootInRange AreRootEntries root_grammar (head_of store kind.Root 0 0) r.log.octets place _ r.log.whole r.in_range (root_along _ _ _ _ place o h b.bad)

pub one_bad_root : (files : Files) (p q : ℕ) → IsBadRoot files p → IsBadRoot files q → p ≡ q
one_bad_root files p q a b =
    let o : a.octets ≡ b.octets = some_same (files file.Root) a.octets b.octets a.there b.there in
    one_bad_log root_text RootInRange AreRootEntries root_grammar (root_head b.octets) (Some b.octets) p q (root_along _ _ _ _ p o (ap root_head o) a.bad) b.bad

-- ---- the map log

map_along : (files : Files) (s t : List ℕ) (g h : ℕ) (n m : FileName) (place : ℕ) → s ≡ t → g ≡ h → n ≡ m → IsBadMapLog s g (files n) place → IsBadMapLog t h (files m) place
map_along files s t g h n m place p q r b =
    subst (λ (x : List ℕ). IsBadMapLog x h (files m) place) p
    (subst (λ (x : ℕ). IsBadMapLog s x (files m) place) q (subst (λ (x : FileName). IsBadMapLog s g (files x) place) r b))

map_log_bad : (files : Files) (store : List ℕ) (entries : List MapEntry) (place : ℕ) → (m : HasMap files store entries) → IsBadMapLog store m.generation (files (file.Map m.generation)) place → ⊥
map_log_bad files store entries place m (inl b) = b.0 m.generation_number
map_log_bad files store entries place m (inr b) =
    good_log map_text MapInRange (AreMapEntries store) (map_grammar store) files (file.Map m.generation) (head_of store kind.Map 0 m.generation) place entries m.log (m.in_range, m.fit) b.1

map_log_once : (store : List ℕ) (generation : ℕ) (there : Option (List ℕ)) (p q : ℕ) → IsBadMapLog store generation there p → IsBadMapLog store generation there q → p ≡ q
map_log_once store generation there p q (inl a) (inl b) = a.1 ∙ sym b.1
map_log_once store generation there p q (inl a) (inr b) = absurd (a.0 b.0)
map_log_once store generation there p q (inr a) (inl b) = absurd (b.0 a.0)
map_log_once store generation there p q (inr a) (inr b) = one_bad_log map_text MapInRange (AreMapEntries store) (map_grammar store) (head_of store kind.Map 0 generation) there p q a.1 b.1

-- a map log that passes isn't damaged
pub good_map : (files : Files) (store : List ℕ) (entries : List MapEntry) (name : FileName) (place : ℕ) → HasMap files store entries → IsBadMap files name place → ⊥
good_map files store entries name place m b =
    let r = root_same files b.store store b.generation m.generation b.root m.root in
    map_log_bad files store entries place m (map_along files _ _ _ _ _ _ place r.0 r.1 (b.is_name ∙ ap file.Map r.1) b.bad)

pub one_bad_map : (files : Files) (n m : FileName) (p q : ℕ) → IsBadMap files n p → IsBadMap files m q → (n ≡ m) × (p ≡ q)
one_bad_map files n m p q a b =
    let r = root_same files a.store b.store a.generation b.generation a.root b.root in
    let e : n ≡ m = a.is_name ∙ ap file.Map r.1 ∙ sym b.is_name in
    (e, map_log_once b.store b.generation (files m) p q (map_along files _ _ _ _ _ _ p r.0 r.1 e a.bad) b.bad)

-- ---- mailbox logs

box_log_same : (files : Files) (store : List ℕ) (box : MapBox) (es fs : List BoxEntry) → HasBox files store box es → HasBox files store box fs → es ≡ fs
box_log_same files store box es fs a b = (log_same box_text BoxInRange (box_one 2) files _ _ _ es fs a.in_range b.in_range a.log b.log).1

-- a mailbox has one log
pub passed_same : (files : Files) (m : MapMeaning) (boxes : List MapBox) (xs ys : List (List BoxEntry)) → PassBoxes files m boxes xs → PassBoxes files m boxes ys → xs ≡ ys
passed_same files m [] [] [] a b = refl
passed_same files m [] [] (y ∷ ys) a b = absurd b
passed_same files m [] (x ∷ xs) ys a b = absurd a
passed_same files m (box ∷ boxes) [] ys a b = absurd a
passed_same files m (box ∷ boxes) (x ∷ xs) [] a b = absurd b
passed_same files m (box ∷ boxes) (x ∷ xs) (y ∷ ys) a b =
    let h : x ≡ y = box_log_same files m.store box x y a.0.log b.0.log in
    let t : xs ≡ ys = passed_same files m boxes xs ys a.1 b.1 in
    cc (h, t)

-- one of the mailboxes that pass
record PassesSome (files : Files) (m : MapMeaning) (box : MapBox) : Type 0 where
  entries : List BoxEntry
  passes : PassesBox files m box entries

one_passes : (files : Files) (m : MapMeaning) (before behind : List MapBox) (box : MapBox) (logs : List (List BoxEntry)) → PassBoxes files m (before ++ box ∷ behind) logs → PassesSome files m box
one_passes files m [] behind box [] p = absurd p
one_passes files m [] behind box (es ∷ logs) p = record { entries = es; passes = p.0 }
one_passes files m (b ∷ bs) behind box [] p = absurd p
one_passes files m (b ∷ bs) behind box (es ∷ logs) p = one_passes files m bs behind box logs p.1

-- what is wrong with a mailbox
abbrev IsWrong : Files → MapMeaning → MapBox → FileName → ℕ → Type 0
IsWrong files m box name place = IsBadLog box_text AreBoxEntries (head_of m.store kind.Box box.number box.generation) (files name) place ⊎ LacksRecord files m box place

-- a mailbox that passes isn't bad
good_box : (files : Files) (m : MapMeaning) (box : MapBox) (name : FileName) (place : ℕ) → PassesSome files m box → name ≡ file.Box box.number box.generation → IsWrong files m box name place → ⊥
good_box files m box name place s e (inl b) =
    good_log box_text BoxInRange AreBoxEntries box_grammar files (file.Box box.number box.generation) (head_of m.store kind.Box box.number box.generation) place s.entries s.passes.log.log (s.passes.log.in_range, s.passes.log.fit)
    (subst (λ (n : FileName). IsBadLog box_text AreBoxEntries (head_of m.store kind.Box box.number box.generation) (files n) place) e b)
good_box files m box name place s e (inr l) =
    let same : l.entries ≡ s.entries = box_log_same files m.store box l.entries s.entries l.log s.passes.log in
    let all : All (HasItsRecord m) (rows_after l.entries) = subst (λ (es : List BoxEntry). All (HasItsRecord m) (rows_after es)) (sym same) s.passes.records in
    l.bare.bare (All-contains (HasItsRecord m) (rows_after l.entries) l.bare.row all l.bare.listed)

pub good_boxes : (files : Files) (m : MapMeaning) (name : FileName) (place : ℕ) (logs : List (List BoxEntry)) → PassBoxes files m m.boxes logs → IsBadBox files m name place → ⊥
good_boxes files m name place logs p b =
    good_box files m b.mailbox name place (one_passes files m b.before b.behind b.mailbox logs (subst (λ (boxes : List MapBox). PassBoxes files m boxes logs) b.split p)) b.is_name b.bad

-- a mailbox log that is good isn't bad
not_bad : (files : Files) (m : MapMeaning) (box : MapBox) (name : FileName) (place : ℕ) (entries : List BoxEntry) → HasBox files m.store box entries → name ≡ file.Box box.number box.generation
    → IsBadLog box_text AreBoxEntries (head_of m.store kind.Box box.number box.generation) (files name) place → ⊥
not_bad files m box name place entries h e b =
    good_log box_text BoxInRange AreBoxEntries box_grammar files (file.Box box.number box.generation) (head_of m.store kind.Box box.number box.generation) place entries h.log (h.in_range, h.fit)
    (subst (λ (n : FileName). IsBadLog box_text AreBoxEntries (head_of m.store kind.Box box.number box.generation) (files n) place) e b)

least_same : (p q : ℕ) → p ≤ q → q ≤ p → p ≡ q
least_same p q h k = omega (arith, h, k)

lacks_once : (files : Files) (m : MapMeaning) (box : MapBox) (p q : ℕ) → LacksRecord files m box p → LacksRecord files m box q → p ≡ q
lacks_once files m box p q a b =
    let e : a.entries ≡ b.entries = box_log_same files m.store box a.entries b.entries a.log b.log in
    least_same p q (a.least q (subst (λ (es : List BoxEntry). IsDangling m es q) (sym e) b.bare)) (b.least p (subst (λ (es : List BoxEntry). IsDangling m es p) e a.bare))

wrong_once : (files : Files) (m : MapMeaning) (box : MapBox) (name : FileName) (p q : ℕ) → name ≡ file.Box box.number box.generation → IsWrong files m box name p → IsWrong files m box name q → p ≡ q
wrong_once files m box name p q e (inl a) (inl b) = one_bad_log box_text BoxInRange AreBoxEntries box_grammar _ (files name) p q a b
wrong_once files m box name p q e (inl a) (inr b) = absurd (not_bad files m box name p b.entries b.log e a)
wrong_once files m box name p q e (inr a) (inl b) = absurd (not_bad files m box name q a.entries a.log e b)
wrong_once files m box name p q e (inr a) (inr b) = lacks_once files m box p q a b

wrong_along : (files : Files) (m : MapMeaning) (a b : MapBox) (n k : FileName) (place : ℕ) → a ≡ b → n ≡ k → IsWrong files m a n place → IsWrong files m b k place
wrong_along files m a b n k place e f w = subst (λ (x : MapBox). IsWrong files m x k place) e (subst (λ (x : FileName). IsWrong files m a x place) f w)

pub one_bad_box : (files : Files) (m : MapMeaning) (n k : FileName) (p q : ℕ) → IsBadBox files m n p → IsBadBox files m k q → (n ≡ k) × (p ≡ q)
one_bad_box files m n k p q a b = by_cuts (two_cuts a.before b.before a.mailbox b.mailbox a.behind b.behind (sym a.split ∙ b.split))
  where
    by_cuts : Cuts a.before b.before a.mailbox b.mailbox → (n ≡ k) × (p ≡ q)
    by_cuts (Same front at) =
        let e : n ≡ k = a.is_name ∙ ap (λ (box : MapBox). file.Box box.number box.generation) at ∙ sym b.is_name in
        (e, wrong_once files m b.mailbox k p q b.is_name (wrong_along files m _ _ _ _ p at e a.bad) b.bad)
    by_cuts (Later between is) =
        absurd (good_box files m a.mailbox n p (one_passes files m a.before between a.mailbox b.logs (subst (λ (boxes : List MapBox). PassBoxes files m boxes b.logs) is b.passed)) a.is_name a.bad)
    by_cuts (Earlier between is) =
        absurd (good_box files m b.mailbox k q (one_passes files m b.before between b.mailbox a.logs (subst (λ (boxes : List MapBox). PassBoxes files m boxes a.logs) is a.passed)) b.is_name b.bad)
