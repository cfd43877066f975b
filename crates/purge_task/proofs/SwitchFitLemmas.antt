-- The entry that switches a file fits, and there is room for it.
use Rattle.purge_task.proofs.Common.{◌≡◌, ◌≢◌, inl, inr, ℕ, zero, suc, ◌+◌, ◌*◌, ◌<◌, ◌≤◌, ◌==◌, ◌||◌, ◌&&◌, Bool, true, false, cond, not, Option, Some, None, List, [], ◌∷◌, length, get_or, map, All, refl, sym, ap, subst, ◌∙◌, arith, AllPairs, ◌⊎◌, Contains, count_by, list_any, option_map_or}
use Rattle.purge_task.proofs.Common.{cases_lt, cases_eq, get_or_default, length-map, All-nil, All-cons, All-head, All-tail, All-contains, All-contains_itself, AllPairs-from_increasing, sum_by-cons, count_by-le-length, FileNo, MapUid, MapPlace, HasRecord, size_at, MapRecord, MapMeaning, has_map_uid}
use Rattle.purge_task.proofs.Common.{record_at, IsSoundMap, IsSoundRecord, equal_is, equal_yes, found_holds, pairs_head, pairs_tail, AreElsewhere, messages_in, AreSwitchLists, target_named}
use Rattle.std.proofs.Common.{◌^◌}
use Rattle.std.proofs.lemmas.List.Elements.{recursion_from_All}
use Rattle.std.proofs.lemmas.List.Folds.{list_any_at, list_any_none}
use Rattle.mdbox_base.specs.Words.{IsNumber}
use Rattle.mdbox_base.specs.declared.entries.MapEntry.TheVariants as map_entry
use Rattle.log_records.proofs.EntrySizeLemmas.{purged_size}
use Rattle.model_logs.specs.Entries.{map_text, MapInRange}
use Rattle.model_meaning.specs.MapFits.{ArePlacedApart, FitsPlace, FitsPurged, FitsTarget, IsMovedOrDropped}
use Rattle.purge_task.proofs.ListingLemmas.{mapped_at, record_there}
use Rattle.purge_task.proofs.WalkLemmas.{unequal}

-- ---- records by map uid

abbrev Holds : MapMeaning → ℕ → (MapRecord → Type 0) → Type 0
Holds m uid P = HasRecord m uid P

-- two records of one map uid are one
one_record : (m : MapMeaning) (uid : ℕ) (r : MapRecord) (P : MapRecord → Type 0) → record_at m uid ≡ Some r → HasRecord m uid P → P r
one_record m uid r P at h = let same : Some h.0 ≡ Some r = sym h.1 ∙ at in let e : h.0 ≡ r = cc same in subst P e h.2

pub record_here : (m : MapMeaning) (uid : ℕ) (r : MapRecord) → record_at m uid ≡ Some r → (uid ≡ r.uid) × ((P : MapRecord → Type 0) → All P m.records → P r)
record_here m uid r at = (sym (equal_is r.uid uid (found_holds (λ o. o.uid == uid) m.records r (λ _. Unit {0}) at (λ k d lt. tt)).1), λ P all. (found_holds (λ o. o.uid == uid) m.records r P at all).0)

-- ---- one or the other

any_of : {X : Type 0} → (f : X → ℕ) (n : ℕ) (xs : List X) → ((x : X) → Contains xs x → f x ≡ n → ⊥) → list_any (λ x. f x == n) xs ≡ false
any_of f n xs none = list_any_none (λ x. f x == n) xs (λ k d lt. unequal (f (get_or xs k d)) n (none (get_or xs k d) (All-contains_itself xs k d lt)))

any_step : {X : Type 0} → (f : X → ℕ) (n : ℕ) (x : X) (xs : List X) (b : Bool) → (f x == n) ≡ b → (b || list_any (λ y. f y == n) xs) ≡ true → (list_any (λ y. f y == n) xs ≡ true → (y : X) × Contains xs y × (f y ≡ n)) → (y : X) × Contains (x ∷ xs) y × (f y ≡ n)
any_step f n x xs true is e rest = (x, (zero, omega arith, refl), equal_is (f x) n is)
any_step f n x xs false is e rest = let r = rest e in let lt = r.1.1 in (r.0, (suc r.1.0, omega (arith, lt), r.1.2), r.2)

any_with : {X : Type 0} → (f : X → ℕ) (n : ℕ) (xs : List X) → list_any (λ x. f x == n) xs ≡ true → (x : X) × Contains xs x × (f x ≡ n)
any_with f n [] e = absurd (let w : false ≡ true = e in cc w)
any_with f n (x ∷ xs) e = any_step f n x xs (f x == n) refl e (any_with f n xs)

moved_or_dropped : (m : MapMeaning) (file : ℕ) (copied moved : List MapPlace) (dropped : List MapUid) (r : MapRecord) → IsSoundMap m → AreSwitchLists m file copied moved dropped → Contains m.records r → r.file ≡ file → (1 ≤ r.count → list_any (λ p. p.uid.0 == r.uid) copied ≡ true) → IsMovedOrDropped moved dropped r
moved_or_dropped m file copied moved dropped r sound listed has here every =
    let at = record_there m r sound has in
    elim (cases_eq r.count 0) [
      | inl none ↦ (
          let gone : has_map_uid r.uid dropped ≡ true = All-contains (λ o. o.file ≡ file → o.count ≡ 0 → has_map_uid o.uid dropped ≡ true) m.records r listed.each_dropped has here none in
          let stays : list_any (λ p. p.uid.0 == r.uid) moved ≡ false = any_of (λ p. p.uid.0) r.uid moved (λ p in_moved same.
          let h = All-contains (λ q. Contains copied q × HasRecord m q.uid.0 (λ row. 1 ≤ row.count)) moved p listed.moved_copied in_moved in
          let some = one_record m r.uid r (λ row. 1 ≤ row.count) at (subst (λ (u : ℕ). HasRecord m u (λ row. 1 ≤ row.count)) same h.1) in
          omega (arith, none, some)) in
          stays ∙ ap not (sym gone)
          )
      | inr some ↦ (
          let b = any_with (λ p. p.uid.0) r.uid copied (every (omega (arith, some))) in
          let wanted : HasRecord m b.0.uid.0 (λ row. 1 ≤ row.count) = subst (λ (u : ℕ). HasRecord m u (λ row. 1 ≤ row.count)) (sym b.2) (r, at, omega (arith, some)) in
          let in_moved = All-contains (λ q. HasRecord m q.uid.0 (λ row. 1 ≤ row.count) → Contains moved q) copied b.0 listed.copied_moved b.1 wanted in
          let goes : list_any (λ p. p.uid.0 == r.uid) moved ≡ true = list_any_at (λ p. p.uid.0 == r.uid) moved in_moved.0 b.0 in_moved.1 (rw in_moved.2 (equal_yes b.0.uid.0 r.uid b.2)) in
          let stays : has_map_uid r.uid dropped ≡ false = any_of (λ u. u.0) r.uid dropped (λ u in_dropped same.
          let h = All-contains (λ v. HasRecord m v.0 (λ row. (row.file ≡ file) × (row.count ≡ 0))) dropped u listed.dropped_here in_dropped in
          let none = (one_record m r.uid r (λ row. (row.file ≡ file) × (row.count ≡ 0)) at (subst (λ (v : ℕ). HasRecord m v (λ row. (row.file ≡ file) × (row.count ≡ 0))) same h)).1 in
          some none) in
          goes ∙ ap not (sym stays)
          )
    ]

-- ---- the target

ends_before : (m : MapMeaning) (a b : MapPlace) → HasRecord m a.uid.0 (λ row. a.offset + row.size ≤ b.offset) → a.offset + size_at m a.uid.0 ≤ b.offset
ends_before m a b h = let le = h.2 in let e : size_at m a.uid.0 ≡ h.0.size = ap (λ (o : Option MapRecord). option_map_or (λ row. row.size) o 0) h.1 in omega (arith, le, e)

-- each two copies are apart, in whichever order
apart_any : (m : MapMeaning) (copied : List MapPlace) (a b : MapPlace) → AllPairs (λ x y. HasRecord m x.uid.0 (λ row. x.offset + row.size ≤ y.offset)) copied → Contains copied a → Contains copied b → a.uid.0 ≢ b.uid.0 → ArePlacedApart m a b
apart_any m copied a b follow (i, li, ei) (j, lj, ej) differ =
    elim (cases_lt i j) [
      | inl lt ↦ inl (ends_before m a b (subst (λ (x : MapPlace). HasRecord m x.uid.0 (λ row. x.offset + row.size ≤ b.offset)) (get_or_default copied i b a li ∙ ei) (subst (λ (y : MapPlace). HasRecord m (get_or copied i b).uid.0 (λ row. (get_or copied i b).offset + row.size ≤ y.offset)) ej (follow i j b lt lj))))
      | inr ge ↦ elim (cases_eq i j) [
        | inl same ↦ absurd (differ (ap (λ (x : MapPlace). x.uid.0) (sym ei ∙ ap (λ (k : ℕ). get_or copied k a) same ∙ get_or_default copied j a b lj ∙ ej)))
        | inr other ↦ inr (ends_before m b a (subst (λ (x : MapPlace). HasRecord m x.uid.0 (λ row. x.offset + row.size ≤ a.offset)) (get_or_default copied j a b lj ∙ ej) (subst (λ (y : MapPlace). HasRecord m (get_or copied j a).uid.0 (λ row. (get_or copied j a).offset + row.size ≤ y.offset)) ei (follow j i a (omega (arith, ge, other)) li))))
      ]
    ]

moved_apart : (m : MapMeaning) (file : ℕ) (copied moved : List MapPlace) (dropped : List MapUid) → AreSwitchLists m file copied moved dropped → AllPairs (λ x y. HasRecord m x.uid.0 (λ row. x.offset + row.size ≤ y.offset)) copied → AllPairs (ArePlacedApart m) moved
moved_apart m file copied moved dropped listed follow = λ i j d lt l.
    let all = listed.moved_copied in
    let up = AllPairs-from_increasing (map (λ p. p.uid.0) moved) listed.moved_rising i j 0 lt (subst (λ (n : ℕ). j < n) (sym (length-map moved (λ p. p.uid.0))) l) in
    let a = mapped_at (λ (p : MapPlace). p.uid.0) moved i d (omega (arith, lt, l)) in
    let b = mapped_at (λ (p : MapPlace). p.uid.0) moved j d l in
    apart_any m copied (get_or moved i d) (get_or moved j d) follow (all i d (omega (arith, lt, l))).0 (all j d l).0 (λ e. omega (arith, up, a, b, e))

place_fits : (m : MapMeaning) (target end : ℕ) (place : MapPlace) → end ≤ 4294967295 → AreElsewhere target m.records → HasRecord m place.uid.0 (λ row. place.offset + row.size ≤ end) → FitsPlace m target place
place_fits m target end place few unnamed h = (h.0, h.1, ((let le = h.2 in omega (arith, le, few)), λ k d lt here. absurd (unnamed k d lt here)))

target_fits : (m : MapMeaning) (file target end : ℕ) (copied moved : List MapPlace) (dropped : List MapUid) → AreSwitchLists m file copied moved dropped → IsNumber target → target ≢ file → end ≤ 4294967295 → AreElsewhere target m.records
    → All (λ place. HasRecord m place.uid.0 (λ row. place.offset + row.size ≤ end)) copied → AllPairs (λ x y. HasRecord m x.uid.0 (λ row. x.offset + row.size ≤ y.offset)) copied → (place : MapPlace) (rest : List MapPlace) → moved ≡ place ∷ rest → FitsTarget m file target (place ∷ rest)
target_fits m file target end copied moved dropped listed number other few unnamed within follow place rest is = (
  number,
  other,
  subst (All (FitsPlace m target)) is (λ k d lt. place_fits m target end (get_or moved k d) few unnamed (All-contains (λ p. HasRecord m p.uid.0 (λ row. p.offset + row.size ≤ end)) copied (get_or moved k d) within (listed.moved_copied k d lt).0)),
  subst (AllPairs (ArePlacedApart m)) is (moved_apart m file copied moved dropped listed follow),
)

-- ---- how many there are

abbrev pub StandsFor : List MapRecord → (MapRecord → Bool) → ℕ → Type 0
StandsFor rows p u = (r : MapRecord) × Contains rows r × (r.uid ≡ u) × (p r ≡ true)

count_step : (b : Bool) (n : ℕ) → n ≤ cond b 1 0 + n
count_step true n = omega arith
count_step false n = omega arith

-- it stands behind the first
stands_behind : (x : MapRecord) (xs : List MapRecord) (p : MapRecord → Bool) (u : ℕ) → x.uid ≢ u → StandsFor (x ∷ xs) p u → StandsFor xs p u
stands_behind x xs p u other (r, (zero, lt, e), is, passes) = absurd (other (ap (λ (o : MapRecord). o.uid) e ∙ is))
stands_behind x xs p u other (r, (suc k, lt, e), is, passes) = (r, (k, omega (arith, lt), e), is, passes)

first_stands : (x : MapRecord) (xs : List MapRecord) (p : MapRecord → Bool) (u : ℕ) → AllPairs (λ a b. a.uid < b.uid) (x ∷ xs) → StandsFor (x ∷ xs) p u → ((x.uid ≡ u) × (p x ≡ true)) ⊎ (x.uid < u)
first_stands x xs p u rising (r, (zero, lt, e), is, passes) = inl (ap (λ (o : MapRecord). o.uid) e ∙ is, ap p e ∙ passes)
first_stands x xs p u rising (r, (suc k, lt, e), is, passes) =
    let l = All-contains (λ b. x.uid < b.uid) xs r (pairs_head (λ a b. a.uid < b.uid) x xs rising) (k, omega (arith, lt), e) in
    inr (omega (arith, l, is))

-- numbers that rise, each that of a record that passes, are no more than such records
pub no_more : (p : MapRecord → Bool) (rows : List MapRecord) (us : List ℕ) → AllPairs (λ a b. a.uid < b.uid) rows → AllPairs (λ a b. a < b) us → All (StandsFor rows p) us → length us ≤ count_by p rows
no_more p rows [] rising up stand = omega arith
no_more p [] (u ∷ us) rising up stand = let s = All-head (StandsFor [] p) u us stand in let lt = s.1.1 in absurd (omega (arith, lt))
no_more p (x ∷ xs) (u ∷ us) rising up stand =
    let sum = sum_by-cons (λ o. cond (p o) 1 0) x xs in
    let tail = pairs_tail (λ a b. a.uid < b.uid) x xs rising in
    elim (first_stands x xs p u rising (All-head (StandsFor (x ∷ xs) p) u us stand)) [
      | inl here ↦ (
          let e = here.0 in
          let behind : All (StandsFor xs p) us = λ k d lt. stands_behind x xs p (get_or us k d) (λ s. let l = pairs_head (λ a b. a < b) u us up k d lt in omega (arith, l, s, e)) (All-tail (StandsFor (x ∷ xs) p) u us stand k d lt) in
          let rest = no_more p xs us tail (pairs_tail (λ a b. a < b) u us up) behind in
          let one : ◌≡◌ {A = ℕ} (cond (p x) 1 0) 1 = ap (λ (b : Bool). cond b 1 0) here.1 in
          omega (arith, sum, rest, one)
          )
      | inr later ↦ (
          let behind : All (StandsFor xs p) (u ∷ us) = All-cons (StandsFor xs p) u us (stands_behind x xs p u (λ s. omega (arith, s, later)) (All-head (StandsFor (x ∷ xs) p) u us stand))
          (λ k d lt. stands_behind x xs p (get_or us k d) (λ s. let l = pairs_head (λ a b. a < b) u us up k d lt in omega (arith, l, s, later)) (All-tail (StandsFor (x ∷ xs) p) u us stand k d lt)) in
          let rest = no_more p xs (u ∷ us) tail up behind in
          let step = count_step (p x) (count_by p xs) in
          omega (arith, sum, rest, step)
          )
    ]

-- records of the file that are wanted, and those that aren't
abbrev is_moved : ℕ → MapRecord → Bool
is_moved file o = (o.file == file) && not (o.count == 0)

abbrev is_dropped : ℕ → MapRecord → Bool
is_dropped file o = (o.file == file) && (o.count == 0)

split_one : (a b : Bool) → cond (a && not b) 1 0 + cond (a && b) 1 0 ≡ cond a 1 0
split_one true true = refl
split_one true false = refl
split_one false true = refl
split_one false false = refl

split_count : (file : ℕ) (rows : List MapRecord) → count_by (is_moved file) rows + count_by (is_dropped file) rows ≡ count_by (λ o. o.file == file) rows
split_count file [] = refl
split_count file (x ∷ xs) =
    let a = sum_by-cons (λ o. cond (is_moved file o) 1 0) x xs in
    let b = sum_by-cons (λ o. cond (is_dropped file o) 1 0) x xs in
    let c = sum_by-cons (λ o. cond (o.file == file) 1 0) x xs in
    let one = split_one (x.file == file) (x.count == 0) in
    let rest = split_count file xs in
    omega (arith, a, b, c, one, rest)

pub mapped_all : {X : Type 0} → (f : X → ℕ) (P : ℕ → Type 0) (xs : List X) → All (λ x. P (f x)) xs → All P (map f xs)
mapped_all f P [] a = All-nil P
mapped_all f P (x ∷ xs) a = All-cons P (f x) (map f xs) (All-head (λ y. P (f y)) x xs a) (mapped_all f P xs (All-tail (λ y. P (f y)) x xs a))

stands_as : (m : MapMeaning) (p : MapRecord → Bool) (uid : ℕ) (P : MapRecord → Type 0) → HasRecord m uid P → ((r : MapRecord) → P r → p r ≡ true) → StandsFor m.records p uid
stands_as m p uid P h passes = (h.0, (record_here m uid h.0 h.1).1 (Contains m.records) (All-contains_itself m.records), sym (record_here m uid h.0 h.1).0, passes h.0 h.2)

passes_moved : (file : ℕ) (r : MapRecord) → r.file ≡ file → 1 ≤ r.count → is_moved file r ≡ true
passes_moved file r here some = rw (equal_yes r.file file here, unequal r.count 0 (λ e. omega (arith, e, some))) refl

passes_dropped : (file : ℕ) (r : MapRecord) → r.file ≡ file → r.count ≡ 0 → is_dropped file r ≡ true
passes_dropped file r here none = rw (equal_yes r.file file here, equal_yes r.count 0 none) refl

-- a record of both kinds
both_of : (m : MapMeaning) (uid : ℕ) (P Q : MapRecord → Type 0) → HasRecord m uid P → HasRecord m uid Q → HasRecord m uid (λ row. P row × Q row)
both_of m uid P Q a b = (a.0, a.1, (a.2, one_record m uid a.0 Q a.1 b))

pub no_more_than : (m : MapMeaning) (file : ℕ) (copied moved : List MapPlace) (dropped : List MapUid) → IsSoundMap m → AreSwitchLists m file copied moved dropped → All (λ place. HasRecord m place.uid.0 (λ row. row.file ≡ file)) copied → length moved + length dropped ≤ messages_in m file
no_more_than m file copied moved dropped sound listed here =
    let moves = no_more (is_moved file) m.records (map (λ p. p.uid.0) moved) sound.rising (AllPairs-from_increasing (map (λ p. p.uid.0) moved) listed.moved_rising)
    (mapped_all (λ (p : MapPlace). p.uid.0) (StandsFor m.records (is_moved file)) moved (λ k d lt. (let h = listed.moved_copied k d lt in stands_as m (is_moved file) (get_or moved k d).uid.0 (λ row. (row.file ≡ file) × (1 ≤ row.count)) (both_of m (get_or moved k d).uid.0 (λ row. row.file ≡ file) (λ row. 1 ≤ row.count) (All-contains (λ place. HasRecord m place.uid.0 (λ row. row.file ≡ file)) copied (get_or moved k d) here h.0) h.1) (λ r w. passes_moved file r w.0 w.1)))) in
    let drops = no_more (is_dropped file) m.records (map (λ u. u.0) dropped) sound.rising (AllPairs-from_increasing (map (λ u. u.0) dropped) listed.dropped_rising)
    (mapped_all (λ (u : MapUid). u.0) (StandsFor m.records (is_dropped file)) dropped (λ k d lt. stands_as m (is_dropped file) (get_or dropped k d).0 (λ row. (row.file ≡ file) × (row.count ≡ 0)) (listed.dropped_here k d lt) (λ r w. passes_dropped file r w.0 w.1))) in
    let split = split_count file m.records in
    let a = length-map moved (λ p. p.uid.0) in
    let b = length-map dropped (λ u. u.0) in
    omega (arith, moves, drops, split, a, b)

-- ---- the entry

-- what is asked of a target
pub record IsFitTarget (m : MapMeaning) (file target : ℕ) (copied : List MapPlace) : Type 0 where
  pub number : IsNumber target
  pub end : ℕ
  pub few : end ≤ 4294967295
  pub other : target ≢ file
  pub unnamed : AreElsewhere target m.records
  pub within : All (λ place. HasRecord m place.uid.0 (λ row. place.offset + row.size ≤ end)) copied
  pub follow : AllPairs (λ x y. HasRecord m x.uid.0 (λ row. x.offset + row.size ≤ y.offset)) copied

abbrev pub TargetFits : MapMeaning → ℕ → Option FileNo → List MapPlace → Type 0
TargetFits m file None copied = copied ≡ []
TargetFits m file (Some target) copied = IsFitTarget m file target.0 copied

pub none_moved : {X : Type 0} → (m : MapMeaning) (file : ℕ) (copied moved : List MapPlace) (dropped : List MapUid) (place : MapPlace) (rest : List MapPlace) → AreSwitchLists m file copied moved dropped → copied ≡ [] → moved ≡ place ∷ rest → X
none_moved m file copied moved dropped place rest listed none is =
    let has : Contains copied place = (All-head (λ p. Contains copied p × HasRecord m p.uid.0 (λ row. 1 ≤ row.count)) place rest (subst (All (λ p. Contains copied p × HasRecord m p.uid.0 (λ row. 1 ≤ row.count))) is listed.moved_copied)).0 in
    let empty : Contains [] place = subst (λ (ps : List MapPlace). Contains ps place) none has in
    let lt = empty.1 in
    absurd (omega (arith, lt))

fits_target : (m : MapMeaning) (file : ℕ) (target : Option FileNo) (copied moved : List MapPlace) (dropped : List MapUid) → AreSwitchLists m file copied moved dropped → TargetFits m file target copied → (ps : List MapPlace) → moved ≡ ps → FitsTarget m file (target_named target ps) ps
fits_target m file None copied moved dropped listed fit [] is = refl
fits_target m file (Some t) copied moved dropped listed fit [] is = refl
fits_target m file None copied moved dropped listed fit (place ∷ rest) is = none_moved m file copied moved dropped place rest listed fit is
fits_target m file (Some t) copied moved dropped listed fit (place ∷ rest) is = target_fits m file t.0 fit.end copied moved dropped listed fit.number fit.other fit.few fit.unnamed fit.within fit.follow place rest is

pub entry_fits : (m : MapMeaning) (file : ℕ) (target : Option FileNo) (copied moved : List MapPlace) (dropped : List MapUid) → IsSoundMap m → IsNumber file → AreSwitchLists m file copied moved dropped → All (λ place. HasRecord m place.uid.0 (λ row. row.file ≡ file)) copied
    → All (λ row. row.file ≡ file → 1 ≤ row.count → list_any (λ p. p.uid.0 == row.uid) copied ≡ true) m.records → TargetFits m file target copied → FitsPurged m file (target_named target moved) moved dropped
entry_fits m file target copied moved dropped sound number listed here every fit = record {
  file_number = number;
  moved_rising = listed.moved_rising;
  dropped_rising = listed.dropped_rising;
  moved_here = λ k d lt. All-contains (λ place. HasRecord m place.uid.0 (λ row. row.file ≡ file)) copied (get_or moved k d) here (listed.moved_copied k d lt).0;
  dropped_here = listed.dropped_here;
  each = λ k d lt in_file. moved_or_dropped m file copied moved dropped (get_or m.records k d) sound listed (All-contains_itself m.records k d lt) in_file (every k d lt in_file);
  target_fits = fits_target m file target copied moved dropped listed fit moved refl;
}

uid_fits : (m : MapMeaning) (uid : ℕ) (P : MapRecord → Type 0) → IsSoundMap m → HasRecord m uid P → uid < 2 ^ 32
uid_fits m uid P sound h =
    let b = record_here m uid h.0 h.1 in
    let high = (b.1 (IsSoundRecord m.highest.map) sound.records).uid.high in
    let same = b.0 in
    omega (arith, high, same)

place_in_range : (m : MapMeaning) (file : ℕ) (target : Option FileNo) (copied : List MapPlace) (place : MapPlace) → IsSoundMap m → TargetFits m file target copied → Contains copied place → HasRecord m place.uid.0 (λ row. 1 ≤ row.count) → (place.uid.0 < 2 ^ 32) × (place.offset < 2 ^ 32)
place_in_range m file None copied place sound fit has h = let empty : Contains [] place = subst (λ (ps : List MapPlace). Contains ps place) fit has in let lt = empty.1 in absurd (omega (arith, lt))
place_in_range m file (Some t) copied place sound fit has h =
    let w = All-contains (λ p. HasRecord m p.uid.0 (λ row. p.offset + row.size ≤ fit.end)) copied place fit.within has in
    let some = ((record_here m place.uid.0 w.0 w.1).1 (IsSoundRecord m.highest.map) sound.records).size in
    let le = w.2 in
    let few = fit.few in
    (uid_fits m place.uid.0 (λ row. 1 ≤ row.count) sound h, omega (arith, le, few, some))

target_below : (m : MapMeaning) (file : ℕ) (target : Option FileNo) (copied moved : List MapPlace) → TargetFits m file target copied → target_named target moved < 2 ^ 32
target_below m file None copied [] fit = omega arith
target_below m file None copied (place ∷ rest) fit = omega arith
target_below m file (Some t) copied [] fit = omega arith
target_below m file (Some t) copied (place ∷ rest) fit = let high = fit.number.high in omega (arith, high)

pub entry_in_range : (m : MapMeaning) (file : FileNo) (target : Option FileNo) (copied moved : List MapPlace) (dropped : List MapUid) → IsSoundMap m → length m.records ≤ 4294967295 → IsNumber file.0 → AreSwitchLists m file.0 copied moved dropped → All (λ place. HasRecord m place.uid.0 (λ row. row.file ≡ file.0)) copied
    → TargetFits m file.0 target copied → MapInRange (map_entry.P file (target_named target moved) moved dropped)
entry_in_range m file target copied moved dropped sound few number listed here fit =
    let high = number.high in
    let most = no_more_than m file.0 copied moved dropped sound listed here in
    let all = count_by-le-length (λ o. o.file == file.0) m.records in (
      omega (arith, high),
      target_below m file.0 target copied moved fit,
      omega (arith, most, all, few),
      omega (arith, most, all, few),
      recursion_from_All (λ p. (p.uid.0 < 2 ^ 32) × (p.offset < 2 ^ 32)) moved (λ k d lt. (let h = listed.moved_copied k d lt in place_in_range m file.0 target copied (get_or moved k d) sound fit h.0 h.1)),
      recursion_from_All (λ u. u.0 < 2 ^ 32) dropped (λ k d lt. uid_fits m (get_or dropped k d).0 (λ row. (row.file ≡ file.0) × (row.count ≡ 0)) sound (listed.dropped_here k d lt)),
    )

-- its text has room where 17 octets are, and 8 for each message of the file
pub entry_short : (m : MapMeaning) (file : FileNo) (target : ℕ) (copied moved : List MapPlace) (dropped : List MapUid) → IsSoundMap m → AreSwitchLists m file.0 copied moved dropped → All (λ place. HasRecord m place.uid.0 (λ row. row.file ≡ file.0)) copied
    → MapInRange (map_entry.P file target moved dropped) → length (map_text (map_entry.P file target moved dropped)) ≤ 17 + 8 * messages_in m file.0
entry_short m file target copied moved dropped sound listed here range =
    let most = no_more_than m file.0 copied moved dropped sound listed here in
    let size = purged_size (map_entry.P file target moved dropped) file target moved dropped refl range in
    omega (arith, most, size)
