-- Files that stay open, one call on.
use Rattle.std.proofs.Common.{◌≡◌, ◌≢◌, ◌⊎◌, inl, inr, ℕ, suc, ◌<◌, ◌≤◌, ◌+◌, ◌==◌, Bool, true, false, List, [], ◌∷◌, ◌++◌, length, get_or, set, Option, Some, None, MatchOption, IfSome, All, AllPairs, Contains, string_bytes, refl, sym, ◌∙◌, ap, subst, arith}
use Rattle.std.specs.List.{AllWithin, HoldsAt}
use Rattle.std.specs.Arc.{arc_value}
use Rattle.std.specs.List.{remove, items_where_true}
use Rattle.std.specs.List.Retain.{IsFiltered, ReturnsInTurn}
use Rattle.std.proofs.lemmas.Bool.{cases_Bool, cases_lt, eqb-true, eq-eqb, false≢true}
use Rattle.std.proofs.lemmas.List.{get_or-set_same, get_or-set_other, get_or_default, length-set}
use Rattle.std.proofs.lemmas.List.Elements.{Contains-get_or, All-set, All-contains, All-push, Contains-append_left, Contains-append_right, Contains-push}
use Rattle.std.proofs.lemmas.Grind.{in_remove}
use Rattle.std.proofs.lemmas.List.Edits.{get_or-remove_below, get_or-remove_above, length-remove}
use Rattle.std.proofs.lemmas.List.Kept.{AllPairs-cons}
use Rattle.std.proofs.lemmas.List.Quantifiers.{all_pairs_push, all_pairs_remove}
use Rattle.folder_model.proofs.PastLemmas.{first_or_later}
use Rattle.folder_kept.specs.declared.files.KeptFile.{KeptFile}
use Rattle.folder_kept.specs.declared.files.OpenFile.{OpenFile}
use Rattle.folder_kept.specs.Open.{IsOpenAt, IsKeptAt, IsOpenAs, IsOpenFor, AreAmong, AreMore, AreMarked, HaveOwnIds, KeepsUnsynced}

-- what holds of an element holds of one that the list contains
pub one_there : {X : Type 0} (P : X → Type 0) (xs : List X) (at : ℕ) → at < length xs → HoldsAt P xs at → (x : X) × Contains xs x × P x
one_there P [] at below holds = absurd (omega arith)
one_there P (x ∷ xs) at below holds = (get_or (x ∷ xs) at x, Contains-get_or (x ∷ xs) at x below, holds x)

-- the first that has it
pub first_at : {X : Type 0} (Yes No : X → Type 0) (xs : List X) (r : Option ℕ) → MatchOption r (AllWithin No xs 0 (length xs)) (λ i. (i < length xs) × HoldsAt Yes xs i × AllWithin No xs 0 i)
    → IfSome r (λ at. (at < length xs) × HoldsAt Yes xs at)
first_at Yes No xs None is = tt
first_at Yes No xs (Some at) is = (is.0, is.1)

pub open_there : {T : Type 0} (path : List ℕ) (files : List (OpenFile T)) (at : ℕ) → (at < length files) × HoldsAt (λ file. string_bytes file.path ≡ path) files at → IsOpenAt path files
open_there path files at is = one_there (λ file. string_bytes file.path ≡ path) files at is.0 is.1

pub kept_there : {T : Type 0} (path : List ℕ) (files : List (OpenFile T)) (at : ℕ) (found : OpenFile T) (one : T) → (at < length files) × HoldsAt (λ file. string_bytes file.path ≡ path) files at
    → found ≡ get_or files at found → one ≡ arc_value found.file → IsKeptAt path one files
kept_there {T} path files at found one is here same =
    let G : OpenFile T → Type 0 = λ file. arc_value file.file ≡ arc_value found.file in
    let there = Contains-get_or files at found is.0 in
    (get_or files at found, there, is.1 found, subst G here refl ∙ sym same)

-- the same files
pub among_same : {T : Type 0} (files : List (OpenFile T)) → AreAmong files files
among_same files k d below = (get_or files k d, Contains-get_or files k d below, refl, refl)

-- a mark was put at one
pub marked : {T : Type 0} (files : List (OpenFile T)) (at id : ℕ) (b : Bool) (found : OpenFile T) → at < length files → HoldsAt (λ file. file.id ≡ id) files at → found ≡ get_or files at found
    → IsOpenAs id b (set files at (record found { is_synced = b }))
marked {T} files at id b found below holds here =
    let one = record found { is_synced = b } in
    let new = set files at one in
    let F : OpenFile T → Type 0 = λ file. file.id ≡ id in
    (one, (at, subst (λ n. at < n) (sym (length-set files at one)) below, get_or-set_same files at one one below), subst F (sym here) (holds found), refl)

cases_nat : (k at : ℕ) → (k ≡ at) ⊎ (k ≢ at)
cases_nat k at = elim (cases_Bool (k == at)) [ inl e ↦ inl (eqb-true k at e) | inr n ↦ inr (λ e. false≢true (sym n ∙ eq-eqb k at e)) ]

-- numbers stay
same_id : {T : Type 0} (files : List (OpenFile T)) (at : ℕ) (b : Bool) (found : OpenFile T) → at < length files → found ≡ get_or files at found → (k : ℕ) (d : OpenFile T)
    → (get_or (set files at (record found { is_synced = b })) k d).id ≡ (get_or files k d).id
same_id {T} files at b found below here k d =
    let one = record found { is_synced = b } in
    elim (cases_nat k at) [
      | inl same ↦
          let e : get_or files at d ≡ found = get_or_default files at d found below ∙ sym here in
          let G : ℕ → Type 0 = λ j. (get_or (set files at one) j d).id ≡ (get_or files j d).id in
          subst G (sym same) (ap (λ f. f.id) (get_or-set_same files at one d below) ∙ ap (λ f. f.id) (sym e))
      | inr other ↦ ap (λ f. f.id) (get_or-set_other files at k one d other)
    ]

-- the one with this number, since it is the only one
pub marked_all : {T : Type 0} (files : List (OpenFile T)) (at id next_id : ℕ) (b : Bool) (found : OpenFile T) → at < length files → HoldsAt (λ file. file.id ≡ id) files at → found ≡ get_or files at found
    → HaveOwnIds next_id files → AreMarked id b (set files at (record found { is_synced = b }))
marked_all {T} files at id next_id b found below holds here own k d in_list same =
    let one = record found { is_synced = b } in
    let size = length-set files at one in
    let e = same_id files at b found below here k d in
    let there : (get_or files at d).id ≡ id = holds d in
    elim (cases_nat k at) [
      | inl at_it ↦ let G : ℕ → Type 0 = λ j. (get_or (set files at one) j d).is_synced ≡ b in subst G (sym at_it) (ap (λ f. f.is_synced) (get_or-set_same files at one d below))
      | inr other ↦ elim (cases_lt k at) [
        | inl before ↦ let p = own.1 k at d before below in absurd (omega (arith, e, there, p, same))
        | inr past ↦ let p = own.1 at k d (omega (arith, past, other)) (omega (arith, size)) in absurd (omega (arith, e, there, p, same))
      ]
    ]

pub marked_others : {T : Type 0} (files : List (OpenFile T)) (at id : ℕ) (b : Bool) (found : OpenFile T) → at < length files → HoldsAt (λ file. file.id ≡ id) files at → found ≡ get_or files at found
    → All (λ file. file.id ≢ id → Contains files file) (set files at (record found { is_synced = b }))
marked_others {T} files at id b found below holds here =
    let P : OpenFile T → Type 0 = λ file. file.id ≢ id → Contains files file in
    let F : OpenFile T → Type 0 = λ file. file.id ≡ id in
    All-set P files at (record found { is_synced = b }) (λ other. absurd (other (subst F (sym here) (holds found)))) (λ k d in_list other. Contains-get_or files k d in_list)

pub marked_among : {T : Type 0} (files : List (OpenFile T)) (at : ℕ) (b : Bool) (found : OpenFile T) → at < length files → found ≡ get_or files at found → AreAmong files (set files at (record found { is_synced = b }))
marked_among {T} files at b found below here =
    let P : OpenFile T → Type 0 = λ file. IsKeptAt (string_bytes file.path) (arc_value file.file) files in
    let F : OpenFile T → Type 0 = Contains files in
    All-set P files at (record found { is_synced = b }) (found, subst F (sym here) (Contains-get_or files at found below), refl, refl) (among_same files)

pub marked_keeps : {T : Type 0} (files : List (OpenFile T)) (at id : ℕ) (b : Bool) (found : OpenFile T) → at < length files → HoldsAt (λ file. file.id ≡ id) files at → found ≡ get_or files at found
    → KeepsUnsynced (λ file. (file.id ≡ id) × (b ≡ true)) files (set files at (record found { is_synced = b }))
marked_keeps files at id b found below holds here k d in_list unsynced =
    let one = record found { is_synced = b } in
    let x = get_or files k d in
    elim (cases_nat k at) [
      | inl same ↦ elim (cases_Bool b) [
        | inl synced ↦ inr (subst (λ j. (get_or files j d).id ≡ id) (sym same) (holds d), synced)
        | inr not_synced ↦
            let e : x ≡ found = ap (λ j. get_or files j d) same ∙ get_or_default files at d found below ∙ sym here in
            let u : found.is_synced ≡ false = ap (λ f. f.is_synced) (sym e) ∙ unsynced in
            let r : one ≡ x = same_mark found b (u ∙ sym not_synced) ∙ sym e in
            inl (subst (λ y. Contains (set files at one) y) r (at, subst (λ n. at < n) (sym (length-set files at one)) below, get_or-set_same files at one one below))
      ]
      | inr other ↦ inl (k, subst (λ n. k < n) (sym (length-set files at one)) in_list, get_or-set_other files at k one x other ∙ get_or_default files k x d in_list)
    ]
  where
    same_mark : {T : Type 0} (f : OpenFile T) (b : Bool) → f.is_synced ≡ b → record f { is_synced = b } ≡ f
    same_mark f b e = ap (λ s. record f { is_synced = s }) (sym e)

-- one that is synced was taken out
pub removed_keeps : {T : Type 0} (files : List (OpenFile T)) (at : ℕ) → at < length files → HoldsAt (λ file. file.is_synced ≡ true) files at → KeepsUnsynced (λ file. ⊥) files (remove files at)
removed_keeps files at below synced k d in_list unsynced =
    let F : ℕ → Type 0 = λ j. (get_or files j d).is_synced ≡ false in
    let apart : k ≢ at = λ e. false≢true (sym (subst F e unsynced) ∙ synced d) in
    inl (in_remove files at k (get_or files k d) below in_list (get_or_default files k d (get_or files k d) in_list) apart).1

removed_in : {T : Type 0} (files : List (OpenFile T)) (at : ℕ) → at < length files → All (Contains files) (remove files at)
removed_in files at below k d in_list = elim (cases_lt k at) [
  | inl before ↦ let e = get_or-remove_below files at d k before below in subst (λ y. Contains files y) (sym e) (Contains-get_or files k d (omega arith))
  | inr past ↦
      let e = get_or-remove_above files at d k past below in
      let size = length-remove files at below in
      subst (λ y. Contains files y) (sym e) (Contains-get_or files (k + 1) d (omega (arith, size)))
]

pub removed_among : {T : Type 0} (files : List (OpenFile T)) (at : ℕ) → at < length files → AreAmong files (remove files at)
removed_among files at below k d in_list = (get_or (remove files at) k d, removed_in files at below k d in_list, refl, refl)

pub removed_own : {T : Type 0} (files : List (OpenFile T)) (at next_id : ℕ) → at < length files → HaveOwnIds next_id files → HaveOwnIds next_id (remove files at)
removed_own {T} files at next_id below own =
    let Below : OpenFile T → Type 0 = λ file. file.id < next_id in (
      λ k d in_list. All-contains Below files (get_or (remove files at) k d) own.0 (removed_in files at below k d in_list),
      all_pairs_remove (λ a b. a.id < b.id) files at below own.1,
    )

-- what a test kept, and what it let go
left_by : {X F : Type 0} (R : F → X → Bool → F → Type 0) (P : X → Type 0) (f : F) → ((x : X) (f' : F) → R f x false f' → P x) → ((x : X) (b : Bool) (f' : F) → R f x b f' → f' ≡ f)
    → (bs : List Bool) (xs : List X) (q : F) → length bs ≡ length xs → ReturnsInTurn R f bs xs q → (x : X) → Contains xs x → Contains (items_where_true bs xs) x ⊎ P x
left_by R P f lets_go stays bs [] q same turns x has = absurd (let below = has.1 in omega arith)
left_by R P f lets_go stays [] (y ∷ xs) q same turns x has = absurd (omega (arith, same))
left_by {X} {F} R P f lets_go stays (true ∷ bs) (y ∷ xs) q same turns x has =
    let G : F → Type 0 = λ j. ReturnsInTurn R j bs xs q in
    let rest = subst G (stays y true turns.0 turns.1) turns.2 in
    elim (first_or_later y x xs has) [
      | inl first ↦ let H : X → Type 0 = λ z. Contains (y ∷ items_where_true bs xs) z in inl (subst H (sym first) (0, omega arith, refl))
      | inr later ↦ elim (left_by R P f lets_go stays bs xs q (omega (arith, same)) rest x later) [
        | inl kept ↦ inl (Contains-append_right (y ∷ []) (items_where_true bs xs) x kept)
        | inr gone ↦ inr gone
      ]
    ]
left_by {X} {F} R P f lets_go stays (false ∷ bs) (y ∷ xs) q same turns x has =
    let G : F → Type 0 = λ j. ReturnsInTurn R j bs xs q in
    let rest = subst G (stays y false turns.0 turns.1) turns.2 in
    elim (first_or_later y x xs has) [
      | inl first ↦ inr (subst P (sym first) (lets_go y turns.0 turns.1))
      | inr later ↦ left_by R P f lets_go stays bs xs q (omega (arith, same)) rest x later
    ]

-- what was let go
pub kept_or : {X F : Type 0} (R : F → X → Bool → F → Type 0) (P : X → Type 0) (f : F) → ((x : X) (f' : F) → R f x false f' → P x) → ((x : X) (b : Bool) (f' : F) → R f x b f' → f' ≡ f)
    → (xs ys : List X) → IsFiltered R f xs ys → All (λ x. Contains ys x ⊎ P x) xs
kept_or {X} R P f lets_go stays xs ys is k d below =
    let x = get_or xs k d in
    let G : List X → Type 0 = λ l. Contains l x ⊎ P x in
    subst G (sym is.4) (left_by R P f lets_go stays is.0 xs is.1 is.2 is.3 x (Contains-get_or xs k d below))

-- what was kept was there
of_some : {X : Type 0} (bs : List Bool) (xs : List X) (x : X) → Contains (items_where_true bs xs) x → Contains xs x
of_some [] xs x has = absurd (let below = has.1 in omega arith)
of_some (b ∷ bs) [] x has = has
of_some {X} (true ∷ bs) (y ∷ xs) x has = elim (first_or_later y x (items_where_true bs xs) has) [
  | inl first ↦ let H : X → Type 0 = λ z. Contains (y ∷ xs) z in subst H (sym first) (0, omega arith, refl)
  | inr later ↦ Contains-append_right (y ∷ []) xs x (of_some bs xs x later)
]
of_some (false ∷ bs) (y ∷ xs) x has = Contains-append_right (y ∷ []) xs x (of_some bs xs x has)

-- those that were kept are in their order
pairs_kept : {X : Type 0} (R : X → X → Type 0) (bs : List Bool) (xs : List X) → AllPairs R xs → AllPairs R (items_where_true bs xs)
pairs_kept R [] xs all = λ i j d lt within. absurd (omega arith)
pairs_kept R (b ∷ bs) [] all = all
pairs_kept R (true ∷ bs) (y ∷ xs) all =
    let rest = pairs_kept R bs xs (λ i j d lt within. all (suc i) (suc j) d (omega arith) (omega arith)) in
    let head : All (R y) xs = λ k d below. all 0 (suc k) d (omega arith) (omega arith) in
    AllPairs-cons R y (items_where_true bs xs) (λ k d below. All-contains (R y) xs (get_or (items_where_true bs xs) k d) head (of_some bs xs (get_or (items_where_true bs xs) k d) (Contains-get_or (items_where_true bs xs) k d below))) rest
pairs_kept R (false ∷ bs) (y ∷ xs) all = pairs_kept R bs xs (λ i j d lt within. all (suc i) (suc j) d (omega arith) (omega arith))

pub filtered_own : {T F : Type 0} (R : F → OpenFile T → Bool → F → Type 0) (f : F) (files rest : List (OpenFile T)) (next_id : ℕ) → IsFiltered R f files rest → HaveOwnIds next_id files → HaveOwnIds next_id rest
filtered_own {T} R f files rest next_id is own =
    let G : List (OpenFile T) → Type 0 = λ l. HaveOwnIds next_id l in
    let kept = items_where_true is.0 files in
    let Below : OpenFile T → Type 0 = λ file. file.id < next_id in
    subst G (sym is.4) (
      λ k d below. All-contains Below files (get_or kept k d) own.0 (of_some is.0 files (get_or kept k d) (Contains-get_or kept k d below)),
      pairs_kept (λ a b. a.id < b.id) is.0 files own.1,
    )

pub filtered_among : {T F : Type 0} (R : F → OpenFile T → Bool → F → Type 0) (f : F) (files rest : List (OpenFile T)) → IsFiltered R f files rest → AreAmong files rest
filtered_among {T} R f files rest is k d below =
    let x = get_or rest k d in
    let G : List (OpenFile T) → Type 0 = λ l. Contains l x in
    (x, of_some is.0 files x (subst G is.4 (Contains-get_or rest k d below)), refl, refl)

-- Of each file that isn't synced, what a test says of one that it lets go.
pub filtered_keeps : {T F : Type 0} (R : F → OpenFile T → Bool → F → Type 0) (But : OpenFile T → Type 0) (f : F) (files rest : List (OpenFile T))
    → ((x : OpenFile T) (f' : F) → R f x false f' → x.is_synced ≡ false → But x) → ((x : OpenFile T) (b : Bool) (f' : F) → R f x b f' → f' ≡ f) → IsFiltered R f files rest → KeepsUnsynced But files rest
filtered_keeps R But f files rest lets_go stays is k d below unsynced =
    elim (kept_or R (λ x. x.is_synced ≡ false → But x) f lets_go stays files rest is k d below) [ inl kept ↦ inl kept | inr gone ↦ inr (gone unsynced) ]

-- one was put at the end
pub more_among : {T : Type 0} (path : List ℕ) (one : T) (files new : List (OpenFile T)) → AreAmong files new → AreMore path one files new
more_among path one files new are k d below = inl (are k d below)

pub more_pushed : {T : Type 0} (path : List ℕ) (one : T) (files mid : List (OpenFile T)) (added : OpenFile T) → AreAmong files mid → string_bytes added.path ≡ path → arc_value added.file ≡ one
    → AreMore path one files (mid ++ added ∷ [])
more_pushed {T} path one files mid added are at is =
    let P : OpenFile T → Type 0 = λ file. IsKeptAt (string_bytes file.path) (arc_value file.file) files ⊎ ((string_bytes file.path ≡ path) × (arc_value file.file ≡ one)) in
    All-push P mid added (λ k d below. inl (are k d below)) (inr (at, is))

pub pushed_keeps : {T : Type 0} (files mid : List (OpenFile T)) (added : OpenFile T) → KeepsUnsynced (λ file. ⊥) files mid → KeepsUnsynced (λ file. ⊥) files (mid ++ added ∷ [])
pushed_keeps files mid added keeps k d below unsynced = elim (keeps k d below unsynced) [ inl kept ↦ inl (Contains-append_left mid (added ∷ []) (get_or files k d) kept) | inr none ↦ inr none ]

pub pushed_as : {T : Type 0} (mid : List (OpenFile T)) (added : OpenFile T) (id : ℕ) (b : Bool) → added.id ≡ id → added.is_synced ≡ b → IsOpenAs id b (mid ++ added ∷ [])
pushed_as mid added id b at is = (added, Contains-push mid added, at, is)

pub pushed_for : {T : Type 0} (path : List ℕ) (to_write : Bool) (kept : KeptFile T) (mid : List (OpenFile T)) (added : OpenFile T) → string_bytes added.path ≡ path → arc_value added.file ≡ arc_value kept.file → added.id ≡ kept.id
    → added.is_to_write ≡ to_write → IsOpenFor path to_write kept (mid ++ added ∷ [])
pushed_for path to_write kept mid added at is id use_of = (added, Contains-push mid added, at, is, id, λ e. use_of ∙ e)

pub open_for_there : {T : Type 0} (path : List ℕ) (to_write : Bool) (files : List (OpenFile T)) (at : ℕ) (found : OpenFile T) (kept : KeptFile T) → (at < length files) × HoldsAt (λ file. string_bytes file.path ≡ path) files at
    → found ≡ get_or files at found → arc_value kept.file ≡ arc_value found.file → kept.id ≡ found.id → (to_write ≡ true → found.is_to_write ≡ true) → IsOpenFor path to_write kept files
open_for_there {T} path to_write files at found kept is here same id use_of =
    let F : OpenFile T → Type 0 = Contains files in
    let P : OpenFile T → Type 0 = λ file. string_bytes file.path ≡ path in
    (found, subst F (sym here) (Contains-get_or files at found is.0), subst P (sym here) (is.1 found), sym same, sym id, use_of)

pub keeps_weaker : {T : Type 0} (But Other : OpenFile T → Type 0) (old new : List (OpenFile T)) → ((file : OpenFile T) → But file → Other file) → KeepsUnsynced But old new → KeepsUnsynced Other old new
keeps_weaker But Other old new weaker keeps k d below unsynced = elim (keeps k d below unsynced) [ inl kept ↦ inl kept | inr but ↦ inr (weaker (get_or old k d) but) ]

pub marked_keeps_but : {T : Type 0} (files : List (OpenFile T)) (at id : ℕ) (b : Bool) (found : OpenFile T) → at < length files → HoldsAt (λ file. file.id ≡ id) files at → found ≡ get_or files at found
    → KeepsUnsynced (λ file. file.id ≡ id) files (set files at (record found { is_synced = b }))
marked_keeps_but {T} files at id b found below holds here =
    let But : OpenFile T → Type 0 = λ file. (file.id ≡ id) × (b ≡ true) in
    keeps_weaker But (λ file. file.id ≡ id) files (set files at (record found { is_synced = b })) (λ file p. p.0) (marked_keeps files at id b found below holds here)

pub unmarked_keeps : {T : Type 0} (files : List (OpenFile T)) (at id : ℕ) (b : Bool) (found : OpenFile T) → at < length files → HoldsAt (λ file. file.id ≡ id) files at → found ≡ get_or files at found
    → b ≡ false → KeepsUnsynced (λ file. ⊥) files (set files at (record found { is_synced = b }))
unmarked_keeps {T} files at id b found below holds here not_synced =
    let But : OpenFile T → Type 0 = λ file. (file.id ≡ id) × (b ≡ true) in
    keeps_weaker But (λ file. ⊥) files (set files at (record found { is_synced = b })) (λ file p. false≢true (sym not_synced ∙ p.1)) (marked_keeps files at id b found below holds here)
