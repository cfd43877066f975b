-- Regions of one file that lie apart: the one that ends last, and whether octets are free.
use Rattle.map_rows.proofs.Common.{◌⊎◌, nat_le, AllPairs, IsTrue, ◌↔◌, Bor, option_map, option_copied, ◌≡◌, ◌≢◌, ◌+◌, ◌<◌, ◌≤◌, ◌==◌, ℕ, Bool, true, false, cond, Option, Some, None, List, [], ◌∷◌, find, All, refl, sym, ◌∙◌, ap, subst, inl, inr, arith, cases_lt, cases_eq, nat_tests, All-cons}
use Rattle.map_rows.proofs.Common.{All-weaker, pairs_head, pairs_tail, found_among, MapRecord, IsApart, Record, meant_record, IsTableRow, LieApart, AreTableRows}
use Rattle.std.specs.Prelude.{min, IfSome, IfNone}
use Rattle.map_rows.specs.Lookups.{later, last_ending, IsLastBefore}
use Rattle.map_rows.proofs.BestLemmas.{IsKeeping, IsNoBetter, best_kept, none_kept}
use Rattle.map_rows.proofs.LookupLemmas.{uid_only}
use Rattle.map_rows.proofs.MemberLemmas.{equal_is}

-- ---- a record and each other one

turned : (a b : MapRecord) → LieApart a b → LieApart b a
turned a b h same = turn (h (sym same))
  where
    turn : IsApart a.offset a.size b → IsApart b.offset b.size a
    turn (inl l) = inr l
    turn (inr l) = inl l

apart_step : (q : MapRecord → Bool) (y r : MapRecord) (ys : List MapRecord) (b : Bool) → q y ≡ b → All (LieApart y) ys → (find q ys ≡ Some r → All (λ x. (x ≡ r) ⊎ LieApart r x) ys) → cond b (Some y) (find q ys) ≡ Some r → All (λ x. (x ≡ r) ⊎ LieApart r x) (y ∷ ys)
apart_step q y r ys true h all rest e =
    let k : y ≡ r = cc e in
    All-cons (λ x. (x ≡ r) ⊎ LieApart r x) y ys (inl k) (All-weaker (LieApart y) (λ x. (x ≡ r) ⊎ LieApart r x) (λ x l. inr (subst (λ (z : MapRecord). LieApart z x) k l)) ys all)
apart_step q y r ys false h all rest e = All-cons (λ x. (x ≡ r) ⊎ LieApart r x) y ys (inr (turned y r (found_among q ys r (LieApart y) e all))) (rest e)

-- a record that was found lies apart from each other one
pub lies_apart : (q : MapRecord → Bool) (rows : List MapRecord) (r : MapRecord) → AllPairs LieApart rows → find q rows ≡ Some r → All (λ x. (x ≡ r) ⊎ LieApart r x) rows
lies_apart q [] r p e = absurd (let w : None ≡ Some r = e in cc w)
lies_apart q (y ∷ ys) r p e = apart_step q y r ys (q y) refl (pairs_head LieApart y ys p) (lies_apart q ys r (pairs_tail LieApart y ys p)) e

unequal : (a b : ℕ) → a ≢ b → (a == b) ≡ false
unequal a b h = grind (arith, nat_tests, h)

equal : (a b : ℕ) → a ≡ b → (a == b) ≡ true
equal a b h = grind (arith, nat_tests, h)

le_yes : (a b : ℕ) → a ≤ b → nat_le a b ≡ true
le_yes a b h = grind (arith, nat_tests, h)

le_no : (a b : ℕ) → b < a → nat_le a b ≡ false
le_no a b h = grind (arith, nat_tests, h)

-- of the other records of its file, those with lesser offsets end before it begins
ends_before : (r x : MapRecord) → (x ≡ r) ⊎ LieApart r x → r.file ≡ x.file → 1 ≤ r.size → x.offset < r.offset → x.offset + x.size ≤ r.offset
ends_before r x (inl e) same some less = absurd (let k : x.offset ≡ r.offset = ap (λ (y : MapRecord). y.offset) e in omega (arith, k, less))
ends_before r x (inr h) same some less = apart (h same)
  where
    apart : IsApart r.offset r.size x → x.offset + x.size ≤ r.offset
    apart (inl l) = absurd (omega (arith, l, less, some))
    apart (inr l) = l

-- ---- the record that ends last

later_keeps : IsKeeping (λ (a x : MapRecord). nat_le (x.offset + x.size) (a.offset + a.size)) later
later_keeps = record { first = λ x. refl; more = λ a x. refl }

no_later : (file : ℕ) (r x : MapRecord) → r.file ≡ file → IsTableRow r → IsTableRow x → ((x.uid == r.uid) ≡ true → x ≡ r) → (x.file ≡ file → x.offset < 4294967296 → x.uid ≢ r.uid → x.offset < r.offset) → (x ≡ r) ⊎ LieApart r x
    → IsNoBetter (λ (a y : MapRecord). nat_le (y.offset + y.size) (a.offset + a.size)) (λ y. y.file == file) r x
no_later file r x here row other only others apart passes =
    let f : x.file ≡ file = equal_is x.file file passes in
    let some = row.some in
    let ends = other.ends in
    elim (cases_eq x.uid r.uid) [
      | inl same ↦ inl (only (equal x.uid r.uid same))
      | inr differ ↦
          let less : x.offset < r.offset = others f (omega (arith, ends)) differ in
          let before = ends_before r x apart (here ∙ sym f) some less in
          inr (le_yes (x.offset + x.size) (r.offset + r.size) (omega (arith, before)), le_no (r.offset + r.size) (x.offset + x.size) (omega (arith, before, some)))
    ]

pub last_ends : (rows : List MapRecord) (file : ℕ) (r : MapRecord) → AreTableRows rows → IsLastBefore rows file 4294967296 r → last_ending file rows ≡ Some r
last_ends rows file r kept last =
    let apart = lies_apart (λ x. x.uid == r.uid) rows r kept.apart last.there in
    let only = uid_only rows r.uid r kept.rising last.there in
    let row = found_among (λ x. x.uid == r.uid) rows r IsTableRow last.there kept.each in
    best_kept (λ (a y : MapRecord). nat_le (y.offset + y.size) (a.offset + a.size)) later (λ y. y.file == file) (λ x. x.uid == r.uid) r rows None later_keeps tt last.there (equal r.file file last.in_file)
    (λ i d lt. no_later file r _ last.in_file row (kept.each i d lt) (only i d lt) (last.others i d lt) (apart i d lt))

pub none_ends : (rows : List MapRecord) (file : ℕ) → AreTableRows rows → All (λ x. x.file ≡ file → 4294967296 ≤ x.offset) rows → last_ending file rows ≡ None
none_ends rows file kept none =
    none_kept later (λ y. y.file == file) rows
    (λ i d lt. elsewhere _ (kept.each i d lt) (none i d lt))
  where
    elsewhere : (x : MapRecord) → IsTableRow x → (x.file ≡ file → 4294967296 ≤ x.offset) → (x.file == file) ≡ false
    elsewhere x row h = unequal x.file file (λ e. let ends = row.ends in let l = h e in omega (arith, ends, l))

pub last_in : (rows : List MapRecord) (file : ℕ) (o : Option (Bor Record)) → AreTableRows rows → IfSome o (λ x. IsLastBefore rows file 4294967296 (meant_record x.now)) → IfNone o (All (λ x. x.file ≡ file → 4294967296 ≤ x.offset) rows) → option_map meant_record (option_copied o) ≡ last_ending file rows
last_in rows file None kept some none = sym (none_ends rows file kept none)
last_in rows file (Some x) kept some none = sym (last_ends rows file (meant_record x.now) kept some)

-- ---- free octets

abbrev pub AreFree : ℕ → ℕ → ℕ → MapRecord → Type 0
AreFree file offset size x = x.file ≡ file → IsApart offset size x

-- no record begins before the end
pub free_behind : (rows : List MapRecord) (file offset size end : ℕ) → AreTableRows rows → ((end ≡ offset + size) ⊎ (end ≡ 4294967296)) → All (λ x. x.file ≡ file → end ≤ x.offset) rows → All (AreFree file offset size) rows
free_behind rows file offset size end kept is all = λ i d lt f. free is _ (kept.each i d lt) (all i d lt f)
  where
    free : ((end ≡ offset + size) ⊎ (end ≡ 4294967296)) → (x : MapRecord) → IsTableRow x → end ≤ x.offset → IsApart offset size x
    free (inl e) x row l = inl (omega (arith, e, l))
    free (inr e) x row l = absurd (let ends = row.ends in omega (arith, e, l, ends))

free_before : (rows : List MapRecord) (file offset size end : ℕ) (last x : MapRecord) → ((end ≡ offset + size) ⊎ (end ≡ 4294967296)) → IsTableRow last → IsTableRow x → last.file ≡ file → ((x.uid == last.uid) ≡ true → x ≡ last) → (x.file ≡ file → x.offset < end → x.uid ≢ last.uid → x.offset < last.offset) → (x ≡ last) ⊎ LieApart last x
    → last.offset + last.size ≤ offset → AreFree file offset size x
free_before rows file offset size end last x is row other here only others apart ends f =
    elim (cases_lt x.offset end) [
      | inl less ↦ inr (elim (cases_eq x.uid last.uid) [
        | inl same ↦ (let k = only (equal x.uid last.uid same) in subst (λ (y : MapRecord). y.offset + y.size ≤ offset) (sym k) ends)
        | inr differ ↦ (let some = row.some in let before = ends_before last x apart (here ∙ sym f) some (others f less differ) in omega (arith, before, ends))
      ])
      | inr le ↦ behind is le
    ]
  where
    behind : ((end ≡ offset + size) ⊎ (end ≡ 4294967296)) → end ≤ x.offset → IsApart offset size x
    behind (inl e) l = inl (omega (arith, e, l))
    behind (inr e) l = absurd (let more = other.ends in omega (arith, e, l, more))

-- the last record before the end ends before these octets
pub free_from : (rows : List MapRecord) (file offset size end : ℕ) (last : MapRecord) → AreTableRows rows → ((end ≡ offset + size) ⊎ (end ≡ 4294967296)) → IsLastBefore rows file end last → last.offset + last.size ≤ offset → All (AreFree file offset size) rows
free_from rows file offset size end last kept is before ends =
    let apart = lies_apart (λ x. x.uid == last.uid) rows last kept.apart before.there in
    let only = uid_only rows last.uid last kept.rising before.there in
    let row = found_among (λ x. x.uid == last.uid) rows last IsTableRow before.there kept.each in
    λ i d lt. free_before rows file offset size end last _ is row (kept.each i d lt) before.in_file (only i d lt) (before.others i d lt) (apart i d lt) ends

-- where they are free, it does
pub free_ends : (rows : List MapRecord) (file offset size end : ℕ) (last : MapRecord) → end ≤ offset + size → IsLastBefore rows file end last → All (AreFree file offset size) rows → last.offset + last.size ≤ offset
free_ends rows file offset size end last le before free = apart (found_among (λ x. x.uid == last.uid) rows last (AreFree file offset size) before.there free before.in_file)
  where
    apart : IsApart offset size last → last.offset + last.size ≤ offset
    apart (inl l) = absurd (let below = before.below in omega (arith, l, le, below))
    apart (inr l) = l

end_is : (sum end : ℕ) → end ≡ min sum 4294967296 → (end ≡ sum) ⊎ (end ≡ 4294967296)
end_is sum end e = elim (cases_lt sum 4294967296) [
  | inl less ↦ inl (omega (arith, e, less))
  | inr le ↦ inr (omega (arith, e, le))
]

pub free_some : (rows : List MapRecord) (file offset size end : ℕ) (last : MapRecord) → AreTableRows rows → end ≡ min (offset + size) 4294967296 → IsLastBefore rows file end last → (last.offset + last.size ≤ offset → All (AreFree file offset size) rows) × (All (AreFree file offset size) rows → last.offset + last.size ≤ offset)
free_some rows file offset size end last kept e before =
    ((λ ends. free_from rows file offset size end last kept (end_is (offset + size) end e) before ends), λ free. free_ends rows file offset size end last (omega (arith, e)) before free)

pub free_test : (rows : List MapRecord) (file offset size end : ℕ) (last : MapRecord) (ends from : ℕ) → AreTableRows rows → end ≡ min (offset + size) 4294967296 → IsLastBefore rows file end last → ends ≡ last.offset + last.size → from ≡ offset → (IsTrue (nat_le ends from) ↔ All (AreFree file offset size) rows)
free_test rows file offset size end last ends from kept e before p q =
    let both = free_some rows file offset size end last kept e before in
    ((λ t. both.0 (ends_is ends from last.offset last.size offset p q t)), (λ free. is_true ends from last.offset last.size offset p q (both.1 free)))
  where
    ends_is : (m n a b c : ℕ) → m ≡ a + b → n ≡ c → nat_le m n ≡ true → a + b ≤ c
    ends_is m n a b c p q h = grind (arith, nat_tests, h, p, q)

    is_true : (m n a b c : ℕ) → m ≡ a + b → n ≡ c → a + b ≤ c → nat_le m n ≡ true
    is_true m n a b c p q h = grind (arith, nat_tests, h, p, q)
