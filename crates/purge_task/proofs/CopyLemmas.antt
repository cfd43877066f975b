-- The event of a purge that copies a message.
use Rattle.purge_task.proofs.Common.{◌≡◌, ◌≤◌, ◌<◌, ◌+◌, ◌==◌, ◌&&◌, ◌||◌, ℕ, Bool, true, false, not, List, [], ◌∷◌, Some, refl, sym, ◌∙◌, ap, subst, arith, All, inl, inr, Contains, filter, nat_lt, if◌then◌else◌, list_any, cases_lt, eq-eqb, eqb-true, ne_eqb, common_steps, All-cons, All-contains}
use Rattle.purge_task.proofs.Common.{All-contains_itself, All-head, All-nil, All-tail, All-weaker, Contains-append_right, MapPlace, HasRecord, MapMeaning, MapRecord, record_at, IsSoundMap, IsSoundRecord, among, found_one, at_uid, RunEvent, is_copied_from, is_one_of, MapRow, AreUnwantedFrom}
use Rattle.purge_task.proofs.Common.{IsNextWanted, AreCopiedUpTo, HaveCopied, Source, fall}
use Rattle.journal.specs.Events.{IsCopiedNext}

-- ---- tests

both_true : (a b : Bool) → (a && b) ≡ true → (a ≡ true) × (b ≡ true)
both_true true b e = (refl, e)
both_true false b e = absurd (cc e)

and_true : (a b : Bool) → a ≡ true → b ≡ true → (a && b) ≡ true
and_true a b x y = rw (x, y) refl

is_false : (b : Bool) → (b ≡ true → ⊥) → b ≡ false
is_false true h = absurd (h refl)
is_false false h = refl

some_of : (n : ℕ) → 1 ≤ n → nat_lt 0 n ≡ true
some_of n l = grind (arith, common_steps, l)

of_some : (n : ℕ) → nat_lt 0 n ≡ true → 1 ≤ n
of_some n e = grind (arith, common_steps, e)

-- ---- which messages are left to copy

abbrev pub is_left : MapMeaning → List RunEvent → ℕ → MapRecord → Bool
is_left m own file row = is_copied_from file row && not (list_any (λ e. is_one_of e.copied row.uid) own)

-- no place of the copied ones is that of a record at this offset or behind it
copied_before : (source from end : ℕ) (copied : List MapPlace) (m : MapMeaning) (row : MapRecord) → IsSoundMap m → AreCopiedUpTo source from end copied m → Contains m.records row → from ≤ row.offset → list_any (λ place. place.uid.0 == row.uid) copied ≡ false
copied_before source from end copied m row sound c there behind = none copied c.there
  where
    none : (places : List MapPlace) → All (λ place. HasRecord m place.uid.0 (λ r. (r.file ≡ source) × (r.offset + r.size ≤ from) × (place.offset + r.size ≤ end))) places → list_any (λ place. place.uid.0 == row.uid) places ≡ false
    none [] h = refl
    none (place ∷ places) h =
        let r = All-head (λ (p : MapPlace). HasRecord m p.uid.0 (λ r. (r.file ≡ source) × (r.offset + r.size ≤ from) × (p.offset + r.size ≤ end))) place places h in
        ap (λ (b : Bool). b || list_any (λ (p : MapPlace). p.uid.0 == row.uid) places) (ne_eqb place.uid.0 row.uid (λ same. apart r.0 (let e : Some r.0 ≡ Some row = sym r.1 ∙ (ap (record_at m) same ∙ at_uid m row sound there) in e) r.2.1))
        ∙ none places (All-tail (λ (p : MapPlace). HasRecord m p.uid.0 (λ r. (r.file ≡ source) × (r.offset + r.size ≤ from) × (p.offset + r.size ≤ end))) place places h)
      where
        apart : (r : MapRecord) → Some r ≡ Some row → r.offset + r.size ≤ from → ⊥
        apart r e le =
            let is : r ≡ row = cc e in
            let l : row.offset + row.size ≤ from = subst (λ (x : MapRecord). x.offset + x.size ≤ from) is le in
            let some : 1 ≤ row.size = (All-contains (IsSoundRecord m.highest.map) m.records row sound.records there).size in
            omega (arith, l, some, behind)

-- the record of a message that is next
pub next_contained : (m : MapMeaning) (file from : ℕ) (row : MapRow) (h : IsNextWanted m file from row) → Contains m.records h.r
next_contained m file from row h = (found_one (λ (r : MapRecord). r.uid == h.r.uid) m.records h.r h.there).0

none_contained : {X : Type 0} → (x : X) → Contains [] x → ⊥
none_contained x c = let l = c.1 in omega (arith, l)

pub kept_of : {X : Type 0} → (p : X → Bool) (xs : List X) (x : X) → Contains xs x → p x ≡ true → Contains (filter p xs) x
kept_of p [] x there is = absurd (none_contained x there)
kept_of p (y ∷ ys) x there is = by_test (p y) refl (kept_of p ys x)
  where
    by_test : (b : Bool) → p y ≡ b → (Contains ys x → p x ≡ true → Contains (filter p ys) x) → Contains (if p y then y ∷ filter p ys else filter p ys) x
    by_test true e rest = subst (λ (b : Bool). Contains (if b then y ∷ filter p ys else filter p ys) x) (sym e) (elim (among y ys x there) [
      | inl same ↦ subst (λ (z : _). Contains (y ∷ filter p ys) z) same (All-head (λ (z : _). Contains (y ∷ filter p ys) z) y (filter p ys) (All-contains_itself (y ∷ filter p ys)))
      | inr later ↦ Contains-append_right (y ∷ []) (filter p ys) x (rest later is)
    ])
    by_test false e rest = subst (λ (b : Bool). Contains (if b then y ∷ filter p ys else filter p ys) x) (sym e) (elim (among y ys x there) [
      | inl same ↦ absurd (fall (p x) is (ap p (sym same) ∙ e))
      | inr later ↦ rest later is
    ])

passing : {X : Type 0} → (p : X → Bool) (P : X → Type 0) (xs : List X) → All (λ x. p x ≡ true → P x) xs → All P (filter p xs)
passing p P [] h = All-nil _
passing p P (x ∷ xs) h = by_test (p x) refl (passing p P xs (All-tail (λ y. p y ≡ true → P y) x xs h))
  where
    by_test : (b : Bool) → p x ≡ b → All P (filter p xs) → All P (if p x then x ∷ filter p xs else filter p xs)
    by_test true e rest = subst (λ (b : Bool). All P (if b then x ∷ filter p xs else filter p xs)) (sym e) (All-cons P x (filter p xs) (All-head (λ y. p y ≡ true → P y) x xs h e) rest)
    by_test false e rest = subst (λ (b : Bool). All P (if b then x ∷ filter p xs else filter p xs)) (sym e) rest

none_pass : {X : Type 0} → (p : X → Bool) (xs : List X) → All (λ x. p x ≡ false) xs → filter p xs ≡ []
none_pass p [] h = refl
none_pass p (x ∷ xs) h = ap (λ (b : Bool). if b then x ∷ filter p xs else filter p xs) (All-head (λ y. p y ≡ false) x xs h) ∙ none_pass p xs (All-tail (λ y. p y ≡ false) x xs h)

-- ---- what is copied next

-- those own events copied that are listed as copied
copied_listed : (m : MapMeaning) (own : List RunEvent) (source : Source) (row : MapRecord) → HaveCopied m own source → Contains m.records row → row.file ≡ source.file.0 → list_any (λ e. is_one_of e.copied row.uid) own ≡ list_any (λ place. place.uid.0 == row.uid) source.copied.items
copied_listed m own source row h there here = All-contains (λ (r : MapRecord). r.file ≡ source.file.0 → list_any (λ e. is_one_of e.copied r.uid) own ≡ list_any (λ place. place.uid.0 == r.uid) source.copied.items) m.records row h there here

pub next_is_left : (m : MapMeaning) (own : List RunEvent) (source : Source) (from end : ℕ) (row : MapRow) → IsSoundMap m → HaveCopied m own source → AreCopiedUpTo source.file.0 from end source.copied.items m → (h : IsNextWanted m source.file.0 from row) → IsCopiedNext (filter (is_left m own source.file.0) m.records) h.r
next_is_left m own source from end row sound have copied h =
    let there = next_contained m source.file.0 from row h in
    let uncopied : list_any (λ e. is_one_of e.copied h.r.uid) own ≡ false = copied_listed m own source h.r have there h.in_file ∙ copied_before source.file.0 from end source.copied.items m h.r sound copied there h.behind in
    let is : is_left m own source.file.0 h.r ≡ true = and_true (is_copied_from source.file.0 h.r) (not (list_any (λ e. is_one_of e.copied h.r.uid) own))
    (and_true (h.r.file == source.file.0) (nat_lt 0 h.r.count) (eq-eqb h.r.file source.file.0 h.in_file) (some_of h.r.count h.wanted)) (ap (λ (b : Bool). not b) uncopied) in (
      kept_of (is_left m own source.file.0) m.records h.r there is,
      passing (is_left m own source.file.0) (λ (other : MapRecord). h.r.offset ≤ other.offset) m.records (least m.records (All-contains_itself m.records)),
    )
  where
    behind_from : (other : MapRecord) → Contains m.records other → other.file ≡ source.file.0 → 1 ≤ other.count → list_any (λ e. is_one_of e.copied other.uid) own ≡ false → from ≤ other.offset
    behind_from other there here wanted uncopied = elim (cases_lt other.offset from) [
      | inl before ↦ absurd (fall (list_any (λ place. place.uid.0 == other.uid) source.copied.items)
          (All-contains (λ (r : MapRecord). r.file ≡ source.file.0 → r.offset < from → 1 ≤ r.count → list_any (λ place. place.uid.0 == r.uid) source.copied.items ≡ true) m.records other copied.every there here before wanted) (sym (copied_listed m own source other have there here) ∙ uncopied))
      | inr behind ↦ behind
    ]

    one : (other : MapRecord) → Contains m.records other → is_left m own source.file.0 other ≡ true → h.r.offset ≤ other.offset
    one other there is =
        let a = both_true (is_copied_from source.file.0 other) (not (list_any (λ e. is_one_of e.copied other.uid) own)) is in
        let b = both_true (other.file == source.file.0) (nat_lt 0 other.count) a.0 in
        let here = eqb-true other.file source.file.0 b.0 in
        let wanted = of_some other.count b.1 in
        let uncopied : list_any (λ e. is_one_of e.copied other.uid) own ≡ false = is_false (list_any (λ e. is_one_of e.copied other.uid) own) (λ some. fall (not (list_any (λ e. is_one_of e.copied other.uid) own)) a.1 (ap (λ (b : Bool). not b) some)) in
        All-contains (λ (r : MapRecord). r.file ≡ source.file.0 → from ≤ r.offset → 1 ≤ r.count → h.r.offset ≤ r.offset) m.records other h.first there here (behind_from other there here wanted uncopied) wanted

    least : (rows : List MapRecord) → All (Contains m.records) rows → All (λ other. is_left m own source.file.0 other ≡ true → h.r.offset ≤ other.offset) rows
    least rows each = All-weaker (Contains m.records) (λ other. is_left m own source.file.0 other ≡ true → h.r.offset ≤ other.offset) one rows each

-- where no message is wanted from here on, none is left
pub none_is_left : (m : MapMeaning) (own : List RunEvent) (source : Source) (from end : ℕ) → HaveCopied m own source → AreCopiedUpTo source.file.0 from end source.copied.items m → AreUnwantedFrom m source.file.0 from → filter (is_left m own source.file.0) m.records ≡ []
none_is_left m own source from end have copied none = none_pass (is_left m own source.file.0) m.records (All-weaker (Contains m.records) (λ row. is_left m own source.file.0 row ≡ false) one m.records (All-contains_itself m.records))
  where
    one : (row : MapRecord) → Contains m.records row → is_left m own source.file.0 row ≡ false
    one row there = is_false (is_left m own source.file.0 row) (λ is.
        let a = both_true (is_copied_from source.file.0 row) (not (list_any (λ e. is_one_of e.copied row.uid) own)) is in
        let b = both_true (row.file == source.file.0) (nat_lt 0 row.count) a.0 in
        let here = eqb-true row.file source.file.0 b.0 in
        let wanted = of_some row.count b.1 in
        elim (cases_lt row.offset from) [
          | inl before ↦ fall (not (list_any (λ e. is_one_of e.copied row.uid) own)) a.1 (ap (λ (b : Bool). not b) (copied_listed m own source row have there here
              ∙ All-contains (λ (r : MapRecord). r.file ≡ source.file.0 → r.offset < from → 1 ≤ r.count → list_any (λ place. place.uid.0 == r.uid) source.copied.items ≡ true) m.records row copied.every there here before wanted))
          | inr behind ↦ let zero = All-contains (λ (r : MapRecord). r.file ≡ source.file.0 → from ≤ r.offset → r.count ≡ 0) m.records row none there here behind in omega (arith, zero, wanted)
        ])
