-- Logs that were made and that the map doesn't name yet, as other files change.
use Rattle.store_core.proofs.Common.{Contains, not, list_any, ◌≡◌, ◌≢◌, ◌≤◌, ◌<◌, ◌==◌, ℕ, zero, suc, Bool, true, false, cond, List, [], ◌∷◌, ◌++◌, length, find, slice_index_or, Option, Some, None, All, refl, sym, ◌∙◌, ap, subst, arith, AllPairs, cond-true, cond-false, eq-eqb, ne_eqb, false≢true}
use Rattle.store_core.proofs.Common.{true≢false, All-nil, All-cons, All-head, All-tail, All-contains, FileState, DiskState, History, SameState, SameButFor, Keeps, reading, named, no_file, FileName, between-on, LogState, IsLogHeld, Holds, Highest, MapBox, MapMeaning, head_of, equal_is, pairs_head}
use Rattle.store_core.proofs.Common.{pairs_tail, OthersAreNamed, HaveOtherNumbers, IsMadeLog, KeepsMadeLogs, without_box, StoreValue, OpenBox}
use Rattle.std.proofs.Common.{◌||◌}
use Rattle.std.specs.Prelude.{remove}
use Rattle.disk_model.specs.declared.name.FileName.TheVariants as file
use Rattle.disk_model.proofs.FirmLemmas.{firm_from_keeps}
use Rattle.gate_log.specs.Log.{log_text}
use Rattle.model_logs.specs.declared.log_head.LogKind.TheVariants as kind
use Rattle.model_octets.proofs.PairLemmas.{pairs_nil}

-- the disk holds the log, which has no entry
abbrev pub IsHeldBy : Option History → OpenBox → Type 0
IsHeldBy history open_box = Holds open_box.log [] history

-- ---- a log beside a change of other files

held_as : (log : LogState) (texts : List (List ℕ)) (a b : DiskState) → b log.name ≡ a log.name → IsLogHeld log texts a → IsLogHeld log texts b
held_as log texts a b same h = record {
  reads = record { file = ap reading same ∙ h.reads.file; end = h.reads.end; count = h.reads.count; head_fits = h.reads.head_fits; entries_fit = h.reads.entries_fit };
  keeps = subst (λ (f : FileState). Keeps f (log_text log.head texts)) (sym same) h.keeps;
}

-- a sync of names leaves a file as it is that a crash leaves as it is
named_kept : (f : FileState) (text : List ℕ) → Keeps f text → named f ≡ f
named_kept f text k =
    let firm = firm_from_keeps f text k in
    cond-true f.is_there (record f { is_name_loose = false }) no_file firm.there ∙ ap (λ (t : Bool). record f { is_name_loose = t }) (sym firm.name)

pub held_beside : (name : FileName) (old new : Option History) (boxes : List OpenBox) → SameButFor name old new → All (λ open_box. open_box.log.name ≢ name) boxes → All (IsHeldBy old) boxes → All (IsHeldBy new) boxes
held_beside name old new boxes same apart held = λ k d lt.
    let b : OpenBox = slice_index_or boxes k d in
    between-on (λ a c. (other : FileName) → other ≢ name → c other ≡ a other) (IsLogHeld b.log []) (IsLogHeld b.log []) old new
    (λ a c s h. held_as b.log [] a c (s b.log.name (apart k d lt)) h) same (held k d lt)

pub held_named : (name : FileName) (old new : Option History) (boxes : List OpenBox) → OthersAreNamed name old new → All (λ open_box. open_box.log.name ≢ name) boxes → All (IsHeldBy old) boxes → All (IsHeldBy new) boxes
held_named name old new boxes same apart held = λ k d lt.
    let b : OpenBox = slice_index_or boxes k d in
    between-on (λ a c. (other : FileName) → other ≢ name → c other ≡ named (a other)) (IsLogHeld b.log []) (IsLogHeld b.log []) old new
    (λ a c s h. held_as b.log [] a c (s b.log.name (apart k d lt) ∙ named_kept (a b.log.name) (log_text b.log.head []) h.keeps) h) same (held k d lt)

pub held_same : (old new : Option History) (boxes : List OpenBox) → SameState old new → All (IsHeldBy old) boxes → All (IsHeldBy new) boxes
held_same old new boxes same held = λ k d lt.
    let b : OpenBox = slice_index_or boxes k d in
    between-on (λ a c. c ≡ a) (IsLogHeld b.log []) (IsLogHeld b.log []) old new (λ a c s h. subst (IsLogHeld b.log []) (sym s) h) same (held k d lt)

-- ---- their files are no others

pub apart_from : (m : MapMeaning) (drawn : Highest) (name : FileName) (boxes : List OpenBox) → ((number : ℕ) → file.Box number 1 ≢ name) → All (IsMadeLog m drawn) boxes → All (λ open_box. open_box.log.name ≢ name) boxes
apart_from m drawn name boxes apart are = λ k d lt p. apart (slice_index_or boxes k d).number.0 (sym (are k d lt).name ∙ p)

pub apart_from_named : (m : MapMeaning) (drawn : Highest) (name : FileName) (box : MapBox) (boxes : List OpenBox) → Contains m.boxes box → name ≡ file.Box box.number box.generation → All (IsMadeLog m drawn) boxes → All (λ open_box. open_box.log.name ≢ name) boxes
apart_from_named m drawn name box boxes there is are = λ k d lt p.
    let b : OpenBox = slice_index_or boxes k d in
    All-contains (λ (o : MapBox). o.number ≢ b.number.0) m.boxes box (are k d lt).unnamed there
    (let w : file.Box b.number.0 1 ≡ file.Box box.number box.generation = sym (are k d lt).name ∙ p ∙ is in cc w)

-- where no log has this number, their files are not that of it
pub apart_from_made : (m : MapMeaning) (drawn : Highest) (number generation : ℕ) (boxes : List OpenBox) → All (λ open_box. open_box.number.0 ≢ number) boxes → All (IsMadeLog m drawn) boxes → All (λ open_box. open_box.log.name ≢ file.Box number generation) boxes
apart_from_made m drawn number generation boxes others are = λ k d lt p.
    let b : OpenBox = slice_index_or boxes k d in
    others k d lt (let w : file.Box b.number.0 1 ≡ file.Box number generation = sym (are k d lt).name ∙ p in cc w)

-- ---- a store that keeps its logs

made_with : (m n : MapMeaning) (old new : Highest) (b : OpenBox) → n.boxes ≡ m.boxes → n.store ≡ m.store → old.mailbox ≤ new.mailbox → IsMadeLog m old b → IsMadeLog n new b
made_with m n old new b boxes store more l = record {
  is_number = l.is_number;
  was_drawn = let a = l.was_drawn in omega (arith, a, more);
  unnamed = subst (λ (bs : List MapBox). All (λ (box : MapBox). box.number ≢ b.number.0) bs) (sym boxes) l.unnamed;
  name = l.name;
  head = subst (λ (id : List ℕ). b.log.head ≡ head_of id kind.Box b.number.0 1) (sym store) l.head;
  empty = l.empty;
  room = l.room;
}

pub made_kept : {D : Type 0} → (old new : Option History) (v w : StoreValue D) → w.made ≡ v.made → w.map.boxes ≡ v.map.boxes → w.map.store ≡ v.map.store → v.drawn.mailbox ≤ w.drawn.mailbox → (w.stopped ≡ false → All (IsHeldBy new) v.made)
    → KeepsMadeLogs old v → KeepsMadeLogs new w
made_kept old new v w made boxes store drawn held k = record {
  are_made = subst (λ (bs : List OpenBox). All (IsMadeLog w.map w.drawn) bs) (sym made) (λ i d lt. made_with v.map w.map v.drawn w.drawn (slice_index_or v.made i d) boxes store drawn (k.are_made i d lt));
  apart = subst (λ (bs : List OpenBox). AllPairs HaveOtherNumbers bs) (sym made) k.apart;
  held = λ runs. subst (λ (bs : List OpenBox). All (IsHeldBy new) bs) (sym made) (held runs);
}

-- a store that has none
pub none_made : {D : Type 0} → (h : Option History) (v : StoreValue D) → v.made ≡ [] → KeepsMadeLogs h v
none_made h v none = record {
  are_made = subst (λ (bs : List OpenBox). All (IsMadeLog v.map v.drawn) bs) (sym none) (All-nil (IsMadeLog v.map v.drawn));
  apart = subst (λ (bs : List OpenBox). AllPairs HaveOtherNumbers bs) (sym none) (pairs_nil HaveOtherNumbers);
  held = λ runs. subst (λ (bs : List OpenBox). All (IsHeldBy h) bs) (sym none) (All-nil (IsHeldBy h));
}

-- ---- one that is taken out

abbrev has_number : ℕ → OpenBox → Bool
has_number n b = b.number.0 == n

pub none_has : (n : ℕ) (boxes : List OpenBox) → list_any (λ b. b.number.0 == n) boxes ≡ false → All (λ b. b.number.0 ≢ n) boxes
none_has n [] e = All-nil (λ (b : OpenBox). b.number.0 ≢ n)
none_has n (b ∷ bs) e = by_test (b.number.0 == n) refl e (none_has n bs)
  where
    by_test : (t : Bool) → (b.number.0 == n) ≡ t → (t || list_any (λ o. o.number.0 == n) bs) ≡ false → (list_any (λ o. o.number.0 == n) bs ≡ false → All (λ o. o.number.0 ≢ n) bs) → All (λ o. o.number.0 ≢ n) (b ∷ bs)
    by_test true is h rest = absurd (let w : true ≡ false = h in cc w)
    by_test false is h rest = All-cons (λ (o : OpenBox). o.number.0 ≢ n) b bs (λ p. false≢true (sym is ∙ eq-eqb b.number.0 n p)) (rest h)

-- what is left has other numbers
pub others_left : (n : ℕ) (boxes : List OpenBox) → All (λ b. b.number.0 ≢ n) (without_box n boxes)
others_left n [] = All-nil (λ (b : OpenBox). b.number.0 ≢ n)
others_left n (b ∷ bs) = by_test (b.number.0 == n) refl (others_left n bs)
  where
    by_test : (t : Bool) → (b.number.0 == n) ≡ t → All (λ o. o.number.0 ≢ n) (without_box n bs) → All (λ o. o.number.0 ≢ n) (cond (not t) (b ∷ without_box n bs) (without_box n bs))
    by_test true is rest = rest
    by_test false is rest = All-cons (λ (o : OpenBox). o.number.0 ≢ n) b (without_box n bs) (λ p. false≢true (sym is ∙ eq-eqb b.number.0 n p)) rest

-- where none has the number, all are left
pub all_left : (n : ℕ) (boxes : List OpenBox) → All (λ b. b.number.0 ≢ n) boxes → without_box n boxes ≡ boxes
all_left n [] none = refl
all_left n (b ∷ bs) none =
    cond-true (not (b.number.0 == n)) (b ∷ without_box n bs) (without_box n bs) (ap not (ne_eqb b.number.0 n (All-head (λ (o : OpenBox). o.number.0 ≢ n) b bs none)))
    ∙ ap (λ (os : List OpenBox). b ∷ os) (all_left n bs (All-tail (λ (o : OpenBox). o.number.0 ≢ n) b bs none))

others_than : (n : ℕ) (b : OpenBox) (bs : List OpenBox) → b.number.0 ≡ n → All (HaveOtherNumbers b) bs → All (λ o. o.number.0 ≢ n) bs
others_than n b bs is apart = λ k d lt p. apart k d lt (is ∙ sym p)

-- the one at this place is the only one with its number
pub taken_left : (n k : ℕ) (d : OpenBox) (boxes : List OpenBox) → k < length boxes → AllPairs HaveOtherNumbers boxes → (slice_index_or boxes k d).number.0 ≡ n → remove boxes k ≡ without_box n boxes
taken_left n k d [] below apart is = absurd (omega (arith, below))
taken_left n zero d (b ∷ bs) below apart is =
    sym (cond-false (not (b.number.0 == n)) (b ∷ without_box n bs) (without_box n bs) (ap not (eq-eqb b.number.0 n is)) ∙ all_left n bs (others_than n b bs is (pairs_head HaveOtherNumbers b bs apart)))
taken_left n (suc k) d (b ∷ bs) below apart is =
    let other : b.number.0 ≢ n = λ p. pairs_head HaveOtherNumbers b bs apart k d (omega (arith, below)) (p ∙ sym is) in
    ap (λ (os : List OpenBox). b ∷ os) (taken_left n k d bs (omega (arith, below)) (pairs_tail HaveOtherNumbers b bs apart) is)
    ∙ sym (cond-true (not (b.number.0 == n)) (b ∷ without_box n bs) (without_box n bs) (ap not (ne_eqb b.number.0 n other)))

pub taken_found : (n k : ℕ) (d : OpenBox) (boxes : List OpenBox) → k < length boxes → AllPairs HaveOtherNumbers boxes → (slice_index_or boxes k d).number.0 ≡ n → find (λ b. b.number.0 == n) boxes ≡ Some (slice_index_or boxes k d)
taken_found n k d [] below apart is = absurd (omega (arith, below))
taken_found n zero d (b ∷ bs) below apart is = cond-true (b.number.0 == n) (Some b) (find (λ o. o.number.0 == n) bs) (eq-eqb b.number.0 n is)
taken_found n (suc k) d (b ∷ bs) below apart is =
    let other : b.number.0 ≢ n = λ p. pairs_head HaveOtherNumbers b bs apart k d (omega (arith, below)) (p ∙ sym is) in
    cond-false (b.number.0 == n) (Some b) (find (λ o. o.number.0 == n) bs) (ne_eqb b.number.0 n other)
    ∙ taken_found n k d bs (omega (arith, below)) (pairs_tail HaveOtherNumbers b bs apart) is

pub none_found : (n : ℕ) (boxes : List OpenBox) → All (λ b. b.number.0 ≢ n) boxes → find (λ b. b.number.0 == n) boxes ≡ None
none_found n [] none = refl
none_found n (b ∷ bs) none =
    cond-false (b.number.0 == n) (Some b) (find (λ o. o.number.0 == n) bs) (ne_eqb b.number.0 n (All-head (λ (o : OpenBox). o.number.0 ≢ n) b bs none)) ∙ none_found n bs (All-tail (λ (o : OpenBox). o.number.0 ≢ n) b bs none)

-- what was found is one of them, with this number
pub found_made : (P : OpenBox → Type 0) (n : ℕ) (boxes : List OpenBox) (b : OpenBox) → find (λ o. o.number.0 == n) boxes ≡ Some b → All P boxes → P b × (b.number.0 ≡ n)
found_made P n [] b e all = absurd (let w : None ≡ Some b = e in cc w)
found_made P n (o ∷ os) b e all = by_test (o.number.0 == n) refl e (λ f. found_made P n os b f (All-tail P o os all))
  where
    by_test : (t : Bool) → (o.number.0 == n) ≡ t → cond t (Some o) (find (λ x. x.number.0 == n) os) ≡ Some b → (find (λ x. x.number.0 == n) os ≡ Some b → P b × (b.number.0 ≡ n)) → P b × (b.number.0 ≡ n)
    by_test true is h rest =
        let same : o ≡ b = cc h in
        (subst P same (All-head P o os all), ap (λ (x : OpenBox). x.number.0) (sym same) ∙ equal_is o.number.0 n is)
    by_test false is h rest = rest h

pub has_found : (n : ℕ) (boxes : List OpenBox) → list_any (λ b. b.number.0 == n) boxes ≡ true → find (λ b. b.number.0 == n) boxes ≡ None → ⊥
has_found n [] has none = absurd (false≢true has)
has_found n (b ∷ bs) has none = by_test (b.number.0 == n) has none (has_found n bs)
  where
    by_test : (t : Bool) → (t || list_any (λ o. o.number.0 == n) bs) ≡ true → cond t (Some b) (find (λ o. o.number.0 == n) bs) ≡ None → (list_any (λ o. o.number.0 == n) bs ≡ true → find (λ o. o.number.0 == n) bs ≡ None → ⊥) → ⊥
    by_test true h e rest = absurd (let w : Some b ≡ None = e in cc w)
    by_test false h e rest = rest h e

-- ---- the others are spared

pub left_has : (n other : ℕ) (boxes : List OpenBox) → other ≢ n → list_any (λ b. b.number.0 == other) boxes ≡ true → list_any (λ b. b.number.0 == other) (without_box n boxes) ≡ true
left_has n other [] apart has = has
left_has n other (b ∷ bs) apart has = by_tests (b.number.0 == n) (b.number.0 == other) refl refl has (left_has n other bs apart)
  where
    by_tests : (t s : Bool) → (b.number.0 == n) ≡ t → (b.number.0 == other) ≡ s → (s || list_any (λ o. o.number.0 == other) bs) ≡ true → (list_any (λ o. o.number.0 == other) bs ≡ true → list_any (λ o. o.number.0 == other) (without_box n bs) ≡ true)
        → list_any (λ o. o.number.0 == other) (cond (not t) (b ∷ without_box n bs) (without_box n bs)) ≡ true
    by_tests true true is too h rest = absurd (apart (sym (equal_is b.number.0 other too) ∙ equal_is b.number.0 n is))
    by_tests true false is too h rest = rest h
    by_tests false true is too h rest = ap (λ (t : Bool). t || list_any (λ o. o.number.0 == other) (without_box n bs)) too
    by_tests false false is too h rest = ap (λ (t : Bool). t || list_any (λ o. o.number.0 == other) (without_box n bs)) too ∙ rest h

pub more_has : (other : ℕ) (boxes : List OpenBox) (b : OpenBox) → list_any (λ o. o.number.0 == other) boxes ≡ true → list_any (λ o. o.number.0 == other) (boxes ++ b ∷ []) ≡ true
more_has other [] b has = absurd (false≢true has)
more_has other (o ∷ os) b has = by_test (o.number.0 == other) has (more_has other os b)
  where
    by_test : (t : Bool) → (t || list_any (λ x. x.number.0 == other) os) ≡ true → (list_any (λ x. x.number.0 == other) os ≡ true → list_any (λ x. x.number.0 == other) (os ++ b ∷ []) ≡ true) → (t || list_any (λ x. x.number.0 == other) (os ++ b ∷ [])) ≡ true
    by_test true h rest = refl
    by_test false h rest = rest h

-- ---- after a call that changes other files

pub no_less : {D : Type 0} → (v w : StoreValue D) → w.drawn.mailbox ≡ v.drawn.mailbox → v.drawn.mailbox ≤ w.drawn.mailbox
no_less v w same = omega (arith, same)

-- the disk is as it was
pub made_still : {D : Type 0} → (h : Option History) (v w : StoreValue D) → w.made ≡ v.made → w.map.boxes ≡ v.map.boxes → w.map.store ≡ v.map.store → w.drawn.mailbox ≡ v.drawn.mailbox → w.stopped ≡ v.stopped → KeepsMadeLogs h v → KeepsMadeLogs h w
made_still h v w made boxes store drawn stopped k = made_kept h h v w made boxes store (no_less v w drawn) (λ runs. k.held (sym stopped ∙ runs)) k

pub made_idle : {D : Type 0} → (old new : Option History) (v w : StoreValue D) → w.made ≡ v.made → w.map.boxes ≡ v.map.boxes → w.map.store ≡ v.map.store → w.drawn.mailbox ≡ v.drawn.mailbox → w.stopped ≡ v.stopped → SameState old new
    → KeepsMadeLogs old v → KeepsMadeLogs new w
made_idle old new v w made boxes store drawn stopped same k = made_kept old new v w made boxes store (no_less v w drawn) (λ runs. held_same old new v.made same (k.held (sym stopped ∙ runs))) k

-- a file of another name has changed
pub made_beside : {D : Type 0} → (old new : Option History) (v w : StoreValue D) (name : FileName) → w.made ≡ v.made → w.map.boxes ≡ v.map.boxes → w.map.store ≡ v.map.store → w.drawn.mailbox ≡ v.drawn.mailbox → w.stopped ≡ v.stopped
    → ((number : ℕ) → file.Box number 1 ≢ name) → SameButFor name old new → KeepsMadeLogs old v → KeepsMadeLogs new w
made_beside old new v w name made boxes store drawn stopped apart same k =
    made_kept old new v w made boxes store (no_less v w drawn) (λ runs. held_beside name old new v.made same (apart_from v.map v.drawn name v.made apart k.are_made) (k.held (sym stopped ∙ runs))) k

-- and all names were synced
pub made_named : {D : Type 0} → (old new : Option History) (v w : StoreValue D) (name : FileName) → w.made ≡ v.made → w.map.boxes ≡ v.map.boxes → w.map.store ≡ v.map.store → w.drawn.mailbox ≡ v.drawn.mailbox → w.stopped ≡ v.stopped
    → ((number : ℕ) → file.Box number 1 ≢ name) → OthersAreNamed name old new → KeepsMadeLogs old v → KeepsMadeLogs new w
made_named old new v w name made boxes store drawn stopped apart same k =
    made_kept old new v w made boxes store (no_less v w drawn) (λ runs. held_named name old new v.made same (apart_from v.map v.drawn name v.made apart k.are_made) (k.held (sym stopped ∙ runs))) k

-- a change failed
pub made_stopped : {D : Type 0} → (old new : Option History) (v w : StoreValue D) → w.made ≡ v.made → w.map.boxes ≡ v.map.boxes → w.map.store ≡ v.map.store → w.drawn.mailbox ≡ v.drawn.mailbox → w.stopped ≡ true → KeepsMadeLogs old v → KeepsMadeLogs new w
made_stopped old new v w made boxes store drawn stopped k = made_kept old new v w made boxes store (no_less v w drawn) (λ runs. absurd (true≢false (sym stopped ∙ runs))) k

-- ---- one that is there

pub find_made : (n : ℕ) (boxes : List OpenBox) → list_any (λ b. b.number.0 == n) boxes ≡ true → (b : OpenBox) × (find (λ o. o.number.0 == n) boxes ≡ Some b)
find_made n boxes has = by_found (find (λ o. o.number.0 == n) boxes) refl
  where
    by_found : (o : Option OpenBox) → find (λ x. x.number.0 == n) boxes ≡ o → (b : OpenBox) × (find (λ x. x.number.0 == n) boxes ≡ Some b)
    by_found None is = absurd (has_found n boxes has is)
    by_found (Some b) is = (b, is)
