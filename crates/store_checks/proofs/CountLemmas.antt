-- Counts that listed messages are taken off.
use Rattle.std.proofs.Common.{◌≡◌, ◌≢◌, ◌<◌, ◌≤◌, ◌+◌, ◌==◌, ℕ, suc, zero, Bool, true, false, find, List, [], ◌∷◌, ◌++◌, length, map, take, set, get_or, slice_get, Option, Some, None, All, AllPairs, inl, inr, refl, sym, ◌∙◌, ap, arith, eq-eqb, eqb-true}
use Rattle.std.specs.Prelude.{Contains, cond, count_by}
use Rattle.std.specs.List.{position}
use Rattle.std.specs.Option.{option_map, option_map_or}
use Rattle.std.proofs.lemmas.Bool.{ne_eqb}
use Rattle.std.proofs.lemmas.Option.{slice_get-map, slice_get_within, slice_get-get_or, get_or_from_slice_get}
use Rattle.std.proofs.lemmas.List.Elements.{All-nil, All-cons, All-head, All-tail}
use Rattle.std.proofs.lemmas.List.Quantifiers.{position-Some}
use Rattle.std.proofs.lemmas.List.Sums.{sum_by_more, sum_by_more_le}
use Rattle.model_octets.proofs.PairLemmas.{pairs_head, pairs_tail}
use Rattle.model_meaning.specs.BoxMeaning.{LogRow}
use Rattle.model_meaning.specs.MapMeaning.{MapRecord, MapMeaning, record_at}
use Rattle.box_index.specs.Row.{row_of}
use Rattle.box_index.specs.declared.index.BoxRow.{BoxRow}
use Rattle.map_index.specs.Shown.{MapRow, shown_record, place_of_record}
use Rattle.store_checks.specs.declared.mailbox.CheckedBox.{CheckedBox}
use Rattle.store_checks.specs.Checked.{listed_by, listed_in, once, IsCountedIn, AreTakenOff, IsUsedUp}
use Rattle.store_checks.proofs.WalkLemmas.{behind, map_next, contained, place_in}

-- ---- the counts themselves

pub count_next : (records : List MapRecord) (place : ℕ) (o : Option MapRow) (row : MapRow) (counts more : List ℕ) → o ≡ option_map shown_record (slice_get records place) → o ≡ Some row
    → counts ≡ map (λ r. r.count) (take place records) → more ≡ counts ++ row.count ∷ [] → more ≡ map (λ r. r.count) (take (place + 1) records)
count_next records place o row counts more e is same push =
    let b = behind shown_record (slice_get records place) row (sym is ∙ e) in
    map_next (λ (r : MapRecord). r.count) records place b.0 row.count counts more b.1 (ap (λ (r : MapRow). r.count) b.2) same push

-- ---- messages that are taken off, some after others

pub none_off : (many : ℕ → ℕ) (rows : List MapRecord) (left : List ℕ) → All (λ row. many row.uid ≡ 0) rows → length left ≡ length rows → AreTakenOff many rows left left
none_off many [] [] none e = tt
none_off many [] (n ∷ left) none e = absurd (omega (arith, e))
none_off many (row ∷ rows) [] none e = absurd (omega (arith, e))
none_off many (row ∷ rows) (n ∷ left) none e =
    let z = All-head (λ (r : MapRecord). many r.uid ≡ 0) row rows none in
    (omega (arith, z), none_off many rows left (All-tail (λ (r : MapRecord). many r.uid ≡ 0) row rows none) (omega (arith, e)))

pub off_then : (first second both : ℕ → ℕ) (rows : List MapRecord) (old mid new : List ℕ) → ((uid : ℕ) → both uid ≡ first uid + second uid) → AreTakenOff first rows old mid → AreTakenOff second rows mid new → AreTakenOff both rows old new
off_then first second both [] [] [] [] sum a b = tt
off_then first second both (row ∷ rows) (o ∷ old) (m ∷ mid) (n ∷ new) sum a b = (let s = sum row.uid in let p = a.0 in let q = b.0 in omega (arith, s, p, q), off_then first second both rows old mid new sum a.1 b.1)
off_then first second both [] [] [] (n ∷ new) sum a b = absurd b
off_then first second both [] [] (m ∷ mid) new sum a b = absurd a
off_then first second both [] (o ∷ old) mid new sum a b = absurd a
off_then first second both (row ∷ rows) [] mid new sum a b = absurd a
off_then first second both (row ∷ rows) (o ∷ old) [] new sum a b = absurd a
off_then first second both (row ∷ rows) (o ∷ old) (m ∷ mid) [] sum a b = absurd b

pub used_then : (first second all : ℕ → ℕ) (rows : List MapRecord) (old mid : List ℕ) → ((uid : ℕ) → first uid + second uid ≤ all uid) → AreTakenOff first rows old mid → IsUsedUp second rows mid → IsUsedUp all rows old
used_then first second all [] old mid sum a u = absurd u
used_then first second all (row ∷ rows) [] mid sum a u = absurd a
used_then first second all (row ∷ rows) (o ∷ old) [] sum a u = absurd u
used_then first second all (row ∷ rows) (o ∷ old) (m ∷ mid) sum a (inl less) = inl (let s = sum row.uid in let p = a.0 in omega (arith, s, p, less))
used_then first second all (row ∷ rows) (o ∷ old) (m ∷ mid) sum a (inr u) = inr (used_then first second all rows old mid sum a.1 u)

-- ---- one message

once_own : (uid own : ℕ) → own ≡ uid → once uid own ≡ 1
once_own uid own e = ap (λ (b : _). cond b 1 0) (eq-eqb uid own (sym e))

once_other : (uid own : ℕ) → own ≢ uid → once uid own ≡ 0
once_other uid own apart = ap (λ (b : _). cond b 1 0) (ne_eqb uid own (λ e. apart (sym e)))

pub no_record : (uid : ℕ) (rows : List MapRecord) (left : List ℕ) → All (λ row. row.uid ≢ uid) rows → length left ≡ length rows → AreTakenOff (once uid) rows left left
no_record uid rows left apart e = none_off (once uid) rows left (λ k d lt. once_other uid (get_or rows k d).uid (apart k d lt)) e

pub one_off : (uid : ℕ) (rows : List MapRecord) (left : List ℕ) (place : ℕ) (row : MapRecord) (rest : ℕ) → AllPairs (λ a b. a.uid < b.uid) rows → slice_get rows place ≡ Some row → row.uid ≡ uid → length left ≡ length rows → rest + 1 ≡ get_or left place 0
    → AreTakenOff (once uid) rows left (set left place rest)
one_off uid [] left place row rest rising at is e r = absurd (let h : None ≡ Some row = at in cc h)
one_off uid (x ∷ rows) [] place row rest rising at is e r = absurd (omega (arith, e))
one_off uid (x ∷ rows) (n ∷ left) zero row rest rising at is e r =
    let same : x ≡ row = let h : Some x ≡ Some row = at in cc h in
    let own : x.uid ≡ uid = ap (λ (y : MapRecord). y.uid) same ∙ is in
    let one = once_own uid x.uid own in (
      omega (arith, one, r),
      no_record uid rows left (λ k d lt same_uid. let less = pairs_head (λ (a b : MapRecord). a.uid < b.uid) x rows rising k d lt in omega (arith, less, own, same_uid)) (omega (arith, e)),
    )
one_off uid (x ∷ rows) (n ∷ left) (suc place) row rest rising at is e r =
    let less = pairs_head (λ (a b : MapRecord). a.uid < b.uid) x rows rising place row (slice_get_within rows place row at) in
    let found = ap (λ (y : MapRecord). y.uid) (get_or_from_slice_get rows place row row at) in
    let other = once_other uid x.uid (λ own. omega (arith, less, found, own, is)) in
    (omega (arith, other), one_off uid rows left place row rest (pairs_tail (λ (a b : MapRecord). a.uid < b.uid) x rows rising) at is (omega (arith, e)) r)

pub none_left : (uid : ℕ) (rows : List MapRecord) (left : List ℕ) (place : ℕ) (row : MapRecord) → slice_get rows place ≡ Some row → row.uid ≡ uid → length left ≡ length rows → get_or left place 0 ≡ 0 → IsUsedUp (once uid) rows left
none_left uid [] left place row at is e z = absurd (let h : None ≡ Some row = at in cc h)
none_left uid (x ∷ rows) [] place row at is e z = absurd (omega (arith, e))
none_left uid (x ∷ rows) (n ∷ left) zero row at is e z =
    let same : x ≡ row = let h : Some x ≡ Some row = at in cc h in
    let one = once_own uid x.uid (ap (λ (y : MapRecord). y.uid) same ∙ is) in inl (omega (arith, one, z))
none_left uid (x ∷ rows) (n ∷ left) (suc place) row at is e z = inr (none_left uid rows left place row at is (omega (arith, e)) z)

-- ---- the record of a map uid

none_found : {X : Type 0} → (p : X → Bool) (xs : List X) → find p xs ≡ None → All (λ x. p x ≡ false) xs
none_found p [] e = All-nil (λ x. p x ≡ false)
none_found p (x ∷ xs) e = by (none_found p xs) (p x) refl
  where
    by : (find p xs ≡ None → All (λ y. p y ≡ false) xs) → (b : Bool) → p x ≡ b → All (λ y. p y ≡ false) (x ∷ xs)
    by rest true t = absurd (let h : Some x ≡ None = sym (ap (λ (b : Bool). cond b (Some x) (find p xs)) t) ∙ e in cc h)
    by rest false t = All-cons (λ y. p y ≡ false) x xs t (rest (sym (ap (λ (b : Bool). cond b (Some x) (find p xs)) t) ∙ e))

-- no record has it
pub no_place : (m : MapMeaning) (uid : ℕ) (o : Option ℕ) (left : List ℕ) → option_map_or (λ place. slice_get m.records place) o None ≡ record_at m uid → o ≡ None → length left ≡ length m.records → AreTakenOff (once uid) m.records left left
no_place m uid o left there is e =
    let none : record_at m uid ≡ None = sym there ∙ ap (λ (p : Option ℕ). option_map_or (λ place. slice_get m.records place) p None) is in
    no_record uid m.records left (λ k d lt same. let f = none_found (λ (r : MapRecord). r.uid == uid) m.records none k d lt in let t = eq-eqb (get_or m.records k d).uid uid same in let h : false ≡ true = sym f ∙ t in cc h) e

-- the record at its place has it
pub record_there : (m : MapMeaning) (uid place : ℕ) (o : Option ℕ) → o ≡ place_of_record m uid → o ≡ Some place → (row : MapRecord) × (slice_get m.records place ≡ Some row) × (row.uid ≡ uid)
record_there m uid place o e is = at m.records (sym e ∙ is)
  where
    at : (rows : List MapRecord) → position (λ r. r.uid == uid) rows ≡ Some place → (row : MapRecord) × (slice_get rows place ≡ Some row) × (row.uid ≡ uid)
    at [] p = absurd (let h : None ≡ Some place = p in cc h)
    at (x ∷ rows) p =
        let s = position-Some (λ (r : MapRecord). r.uid == uid) (x ∷ rows) place x p in
        (get_or (x ∷ rows) place x, slice_get-get_or (x ∷ rows) place x s.0, eqb-true (get_or (x ∷ rows) place x).uid uid s.1)

-- ---- the messages of a mailbox, and of mailboxes

-- what was read at a place
pub row_here : (xs : List BoxRow) (rows : List LogRow) (k : ℕ) (row : BoxRow) → map row_of xs ≡ rows → (k < length xs) × (row ≡ get_or xs k row) → slice_get rows k ≡ Some (row_of row)
row_here xs rows k row e at =
    ap (λ (rs : List LogRow). slice_get rs k) (sym e) ∙ slice_get-map row_of xs k ∙ ap (option_map row_of) (slice_get-get_or xs k row at.0 ∙ ap Some (sym at.1))

-- no row yet
pub none_listed : (uid : ℕ) (rows : List LogRow) → count_by (λ r. r.map_uid == uid) (take 0 rows) ≡ 0
none_listed uid [] = refl
none_listed uid (row ∷ rows) = refl

pub no_mailbox : (uid : ℕ) (boxes : List CheckedBox) → listed_in uid (take 0 boxes) ≡ 0
no_mailbox uid [] = refl
no_mailbox uid (b ∷ boxes) = refl

-- one mailbox more
pub mailbox_next : (uid : ℕ) (boxes : List CheckedBox) (k : ℕ) (b : CheckedBox) → k < length boxes → b ≡ get_or boxes k b → listed_in uid (take (k + 1) boxes) ≡ listed_in uid (take k boxes) + listed_by uid b.index.meaning
mailbox_next uid boxes k b lt is =
    sum_by_more (λ (c : CheckedBox). listed_by uid c.index.meaning) boxes k b lt ∙ ap (λ (c : CheckedBox). listed_in uid (take k boxes) + listed_by uid c.index.meaning) (sym is)

pub mailbox_within : (uid : ℕ) (boxes : List CheckedBox) (k : ℕ) (b : CheckedBox) → k < length boxes → b ≡ get_or boxes k b → listed_in uid (take k boxes) + listed_by uid b.index.meaning ≤ listed_in uid boxes
mailbox_within uid boxes k b lt is =
    let le = sum_by_more_le (λ (c : CheckedBox). listed_by uid c.index.meaning) boxes k b lt in
    let own = ap {B = ℕ} (λ (c : CheckedBox). listed_by uid c.index.meaning) is in
    omega (arith, le, own)

-- as much is left as there are records
pub off_long : (many : ℕ → ℕ) (rows : List MapRecord) (old new : List ℕ) → AreTakenOff many rows old new → length new ≡ length rows
off_long many [] [] [] a = refl
off_long many (row ∷ rows) (o ∷ old) (n ∷ new) a = let e = off_long many rows old new a.1 in omega (arith, e)
off_long many [] [] (n ∷ new) a = absurd a
off_long many [] (o ∷ old) new a = absurd a
off_long many (row ∷ rows) [] new a = absurd a
off_long many (row ∷ rows) (o ∷ old) [] a = absurd a

-- one row more
pub listed_next : (uid : ℕ) (rows : List LogRow) (place : ℕ) (row : LogRow) → slice_get rows place ≡ Some row
    → count_by (λ r. r.map_uid == uid) (take (place + 1) rows) ≡ count_by (λ r. r.map_uid == uid) (take place rows) + once row.map_uid uid
listed_next uid rows place row at =
    sum_by_more (λ (r : LogRow). cond (r.map_uid == uid) 1 0) rows place row (slice_get_within rows place row at)
    ∙ ap (λ (r : LogRow). count_by (λ (s : LogRow). s.map_uid == uid) (take place rows) + cond (r.map_uid == uid) 1 0) (get_or_from_slice_get rows place row row at)

pub listed_within : (uid : ℕ) (rows : List LogRow) (place : ℕ) (row : LogRow) → slice_get rows place ≡ Some row
    → count_by (λ r. r.map_uid == uid) (take place rows) + once row.map_uid uid ≤ count_by (λ r. r.map_uid == uid) rows
listed_within uid rows place row at =
    let le = sum_by_more_le (λ (r : LogRow). cond (r.map_uid == uid) 1 0) rows place row (slice_get_within rows place row at) in
    let own = ap {B = ℕ} (λ (r : LogRow). cond (r.map_uid == uid) 1 0) (get_or_from_slice_get rows place row row at) in
    omega (arith, le, own)

-- ---- what is left of all counts

pub all_counted : (boxes : List CheckedBox) (rows : List MapRecord) (left : List ℕ) → AreTakenOff (λ uid. listed_in uid boxes) rows (map (λ row. row.count) rows) left → All (IsCountedIn boxes) rows
all_counted boxes [] left a = All-nil (IsCountedIn boxes)
all_counted boxes (row ∷ rows) [] a = absurd a
all_counted boxes (row ∷ rows) (n ∷ left) a = All-cons (IsCountedIn boxes) row rows (let h = a.0 in omega (arith, h)) (all_counted boxes rows left a.1)

pub miscounted : (boxes : List CheckedBox) (rows : List MapRecord) → IsUsedUp (λ uid. listed_in uid boxes) rows (map (λ row. row.count) rows) → (row : MapRecord) × Contains rows row × (row.count < listed_in row.uid boxes)
miscounted boxes [] u = absurd u
miscounted boxes (row ∷ rows) (inl less) = (row, contained (row ∷ rows) 0 row refl, less)
miscounted boxes (row ∷ rows) (inr u) = let r = miscounted boxes rows u in let p = place_in rows r.0 r.1 in (r.0, contained (row ∷ rows) (suc p.0) r.0 p.1, r.2)
