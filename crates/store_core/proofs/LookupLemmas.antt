-- Mailboxes that are looked up by number and by name.
use Rattle.store_core.proofs.Common.{◌≡◌, ◌<◌, ◌==◌, ℕ, Bool, true, false, cond, List, [], ◌∷◌, find, Option, Some, None, All, refl, sym, ◌∙◌, ap, subst, arith, AllPairs, bytes_eq, option_map, cond-true, cond-false, ne_eqb, eq-eqb, All-head, All-tail, BoxNo, pairs_head, pairs_tail, BoxMeaning, ◌≢◌, length, slice_get, suc, zero}
use Rattle.store_core.proofs.Common.{MapBox, MapMeaning, meaning_numbered, indexes_of, AreBoxLogs, OpenBox}
use Rattle.std.specs.Prelude.{IfSome, IfNone}
use Rattle.box_index.specs.State.{BoxState}
use Rattle.map_index.specs.Shown.{shown_box}
use Rattle.map_index.specs.declared.rows.BoxAt.{BoxAt}
use Rattle.model_meaning.specs.MapMeaning.{box_at}
use Rattle.model_store.specs.Listing.{meaning_named}

through : (b : Bool) (x : OpenBox) (rest : Option OpenBox) → option_map (λ (o : OpenBox). o.index.meaning) (cond b (Some x) rest) ≡ cond b (Some x.index.meaning) (option_map (λ (o : OpenBox). o.index.meaning) rest)
through true x rest = refl
through false x rest = refl

-- the mailbox with this number, among those that are open
pub by_number : (number : ℕ) (store : List ℕ) (mailboxes : List MapBox) (boxes : List OpenBox) → AreBoxLogs store mailboxes boxes
    → option_map (λ b. b.index.meaning) (find (λ b. b.number.0 == number) boxes) ≡ meaning_numbered number mailboxes (indexes_of boxes)
by_number number store [] [] h = refl
by_number number store [] (b ∷ bs) h = absurd h
by_number number store (m ∷ ms) [] h = absurd h
by_number number store (m ∷ ms) (b ∷ bs) h =
    through (b.number.0 == number) b (find (λ (b : OpenBox). b.number.0 == number) bs)
    ∙ ap (λ (n : ℕ). cond (n == number) (Some b.index.meaning) (option_map (λ (o : OpenBox). o.index.meaning) (find (λ (b : OpenBox). b.number.0 == number) bs))) h.0
    ∙ ap (cond (m.number == number) (Some b.index.meaning)) (by_number number store ms bs h.3)

-- no mailbox with this name
pub none_named : (name : List ℕ) (mailboxes : List MapBox) (meanings : List BoxMeaning) → None ≡ find (λ box. bytes_eq box.name name) mailboxes → None ≡ meaning_named name mailboxes meanings
none_named name [] [] e = refl
none_named name [] (b ∷ bs) e = refl
none_named name (m ∷ ms) [] e = refl
none_named name (m ∷ ms) (b ∷ bs) e = none_by (bytes_eq m.name name) m b (find (λ (box : MapBox). bytes_eq box.name name) ms) (meaning_named name ms bs) (none_named name ms bs) e
  where
    none_by : (t : Bool) (m : MapBox) (b : BoxMeaning) (found : Option MapBox) (meant : Option BoxMeaning) → (None ≡ found → None ≡ meant) → None ≡ cond t (Some m) found → None ≡ cond t (Some b) meant
    none_by true m b found meant rest e = absurd (cc (let h : None ≡ Some m = e in h))
    none_by false m b found meant rest e = rest e

-- the mailbox that is found has a number that one of them has
is_one : (name : List ℕ) (n : BoxNo) (m : MapBox) (mailboxes : List MapBox) → Some n ≡ option_map (λ b. record { 0 = b.number }) (find (λ box. bytes_eq box.name name) mailboxes) → All (λ (box : MapBox). m.number < box.number) mailboxes → m.number < n.0
is_one name n m [] e above = absurd (cc (let h : Some n ≡ None = e in h))
is_one name n m (x ∷ xs) e above =
    one_by (bytes_eq x.name name) x (find (λ (box : MapBox). bytes_eq box.name name) xs) e (All-head (λ (box : MapBox). m.number < box.number) x xs above)
    (λ h. is_one name n m xs h (All-tail (λ (box : MapBox). m.number < box.number) x xs above))
  where
    one_by : (t : Bool) (x : MapBox) (found : Option MapBox) → Some n ≡ option_map (λ b. record { 0 = b.number }) (cond t (Some x) found) → m.number < x.number
        → (Some n ≡ option_map (λ b. record { 0 = b.number }) found → m.number < n.0) → m.number < n.0
    one_by true x found e less rest =
        let h : Some n ≡ Some (record { 0 = x.number }) = e in
        let s : n.0 ≡ x.number = cc in
        subst (λ (k : ℕ). m.number < k) (sym s) less
    one_by false x found e less rest = rest e

-- the mailbox with this name, by its number
pub by_name : (name : List ℕ) (n : BoxNo) (mailboxes : List MapBox) (meanings : List BoxMeaning) → AllPairs (λ a b. a.number < b.number) mailboxes
    → Some n ≡ option_map (λ b. record { 0 = b.number }) (find (λ box. bytes_eq box.name name) mailboxes) → meaning_numbered n.0 mailboxes meanings ≡ meaning_named name mailboxes meanings
by_name name n [] meanings rising e = absurd (cc (let h : Some n ≡ None = e in h))
by_name name n (m ∷ ms) [] rising e = refl
by_name name n (m ∷ ms) (b ∷ bs) rising e =
    named_by (bytes_eq m.name name) (find (λ (box : MapBox). bytes_eq box.name name) ms) e
    (λ h. is_one name n m ms h (pairs_head (λ (a b : MapBox). a.number < b.number) m ms rising))
    (λ h. by_name name n ms bs (pairs_tail (λ (a b : MapBox). a.number < b.number) m ms rising) h)
  where
    named_by : (t : Bool) (found : Option MapBox) → Some n ≡ option_map (λ b. record { 0 = b.number }) (cond t (Some m) found)
        → (Some n ≡ option_map (λ b. record { 0 = b.number }) found → m.number < n.0)
        → (Some n ≡ option_map (λ b. record { 0 = b.number }) found → meaning_numbered n.0 ms bs ≡ meaning_named name ms bs)
        → cond (m.number == n.0) (Some b) (meaning_numbered n.0 ms bs) ≡ cond t (Some b) (meaning_named name ms bs)
    named_by true found e less rest =
        let h : Some n ≡ Some (record { 0 = m.number }) = e in
        let s : n.0 ≡ m.number = cc in
        cond-true (m.number == n.0) (Some b) (meaning_numbered n.0 ms bs) (eq-eqb m.number n.0 (sym s))
    named_by false found e less rest =
        cond-false (m.number == n.0) (Some b) (meaning_numbered n.0 ms bs) (ne_eqb m.number n.0 (λ (h : m.number ≡ n.0). omega (arith, less e, h))) ∙ rest e

abbrev the_number : MapBox → BoxNo
the_number b = record { 0 = b.number }

-- the same in a store, whose fields are known under two names
meant : (o : Option OpenBox) → option_map (λ i. i.meaning) (option_map (λ (b : OpenBox). b.index) o) ≡ option_map (λ b. b.index.meaning) o
meant None = refl
meant (Some b) = refl

pub numbered_in : (number : ℕ) (store : List ℕ) (m n : MapMeaning) (bs cs ds : List OpenBox) (r : Option BoxState) → AreBoxLogs store m.boxes bs → m ≡ n → bs ≡ cs → ds ≡ bs
    → r ≡ option_map (λ b. b.index) (find (λ b. b.number.0 == number) ds) → option_map (λ i. i.meaning) r ≡ meaning_numbered number n.boxes (indexes_of cs)
numbered_in number store m n bs cs ds r logs same_map same_boxes held e =
    ap (option_map (λ (i : BoxState). i.meaning)) e ∙ meant (find (λ (b : OpenBox). b.number.0 == number) ds)
    ∙ ap (λ (xs : List OpenBox). option_map (λ (b : OpenBox). b.index.meaning) (find (λ (b : OpenBox). b.number.0 == number) xs)) held
    ∙ by_number number store m.boxes bs logs
    ∙ ap (λ (k : MapMeaning). meaning_numbered number k.boxes (indexes_of bs)) same_map
    ∙ ap (λ (xs : List OpenBox). meaning_numbered number n.boxes (indexes_of xs)) same_boxes

pub named_in : (name : List ℕ) (k : BoxNo) (m n : MapMeaning) (meanings : List BoxMeaning) (r : Option BoxMeaning) → AllPairs (λ a b. a.number < b.number) m.boxes → m ≡ n
    → Some k ≡ option_map (λ b. record { 0 = b.number }) (find (λ box. bytes_eq box.name name) m.boxes) → r ≡ meaning_numbered k.0 n.boxes meanings → r ≡ meaning_named name n.boxes meanings
named_in name k m n meanings r rising same found e =
    e ∙ ap (λ (o : MapMeaning). meaning_numbered k.0 o.boxes meanings) (sym same) ∙ by_name name k m.boxes meanings rising found ∙ ap (λ (o : MapMeaning). meaning_named name o.boxes meanings) same

pub unnamed_in : (name : List ℕ) (m n : MapMeaning) (meanings : List BoxMeaning) (r : Option BoxMeaning) → m ≡ n
    → None ≡ option_map (λ b. the_number b) (find (λ box. bytes_eq box.name name) m.boxes) → r ≡ None → r ≡ meaning_named name n.boxes meanings
unnamed_in name m n meanings r same lost e =
    e ∙ none_named name m.boxes meanings (is_none (find (λ (box : MapBox). bytes_eq box.name name) m.boxes) lost) ∙ ap (λ (o : MapMeaning). meaning_named name o.boxes meanings) same
  where
    is_none : (o : Option MapBox) → None ≡ option_map (λ b. the_number b) o → None ≡ o
    is_none None h = refl
    is_none (Some x) h = absurd (cc (let k : None ≡ Some (the_number x) = h in k))

-- the number of the mailbox with this name, in a store, whose fields are known under two names
pub number_in : (name : List ℕ) (m n : MapMeaning) (meanings : List BoxMeaning) (r : Option BoxNo) → AllPairs (λ a b. a.number < b.number) m.boxes → m ≡ n → r ≡ option_map (λ b. the_number b) (find (λ box. bytes_eq box.name name) m.boxes)
    → IfSome r (λ number. (meaning_numbered number.0 n.boxes meanings ≡ meaning_named name n.boxes meanings) × (option_map (λ b. b.number) (find (λ b. bytes_eq b.name name) n.boxes) ≡ Some number.0))
number_in name m n meanings None rising same e = tt
number_in name m n meanings (Some k) rising same e =
    subst (λ (o : MapMeaning). (meaning_numbered k.0 o.boxes meanings ≡ meaning_named name o.boxes meanings) × (option_map (λ (b : MapBox). b.number) (find (λ (b : MapBox). bytes_eq b.name name) o.boxes) ≡ Some k.0)) same
    (by_name name k m.boxes meanings rising e, numbers (find (λ (b : MapBox). bytes_eq b.name name) m.boxes) e)
  where
    numbers : (o : Option MapBox) → Some k ≡ option_map (λ b. the_number b) o → option_map (λ (b : MapBox). b.number) o ≡ Some k.0
    numbers None h = absurd (cc (let w : Some k ≡ None = h in w))
    numbers (Some x) h = let w : Some k ≡ Some (the_number x) = h in let s : k ≡ the_number x = cc w in ap (λ (n : BoxNo). Some n.0) (sym s)

pub none_in : (name : List ℕ) (m n : MapMeaning) (meanings : List BoxMeaning) (r : Option BoxNo) → m ≡ n → r ≡ option_map (λ b. the_number b) (find (λ box. bytes_eq box.name name) m.boxes) → IfNone r (meaning_named name n.boxes meanings ≡ None)
none_in name m n meanings None same e = sym (unnamed_in name m n meanings None same e refl)
none_in name m n meanings (Some k) same e = tt

-- ---- the mailbox of the map, by the place of its log

above_at : (n k x : ℕ) (store : List ℕ) (mailboxes : List MapBox) (boxes : List OpenBox) → AreBoxLogs store mailboxes boxes → k < length boxes → option_map (λ b. b.number.0) (slice_get boxes k) ≡ Some n → All (λ box. x < box.number) mailboxes → x < n
above_at n k x store [] [] a below at up = absurd (omega (arith, below))
above_at n k x store [] (b ∷ bs) a below at up = absurd a
above_at n k x store (m ∷ ms) [] a below at up = absurd a
above_at n zero x store (m ∷ ms) (b ∷ bs) a below at up =
    let is : Some b.number.0 ≡ Some n = at in
    let same : b.number.0 ≡ n = cc is in
    let number = a.0 in
    let less : x < m.number = All-head (λ (box : MapBox). x < box.number) m ms up in
    omega (arith, same, number, less)
above_at n (suc k) x store (m ∷ ms) (b ∷ bs) a below at up = above_at n k x store ms bs a.3 (omega (arith, below)) at (All-tail (λ (box : MapBox). x < box.number) m ms up)

pub box_of_place : (n k : ℕ) (store : List ℕ) (mailboxes : List MapBox) (boxes : List OpenBox) → AreBoxLogs store mailboxes boxes → AllPairs (λ a b. a.number < b.number) mailboxes → k < length boxes → option_map (λ b. b.number.0) (slice_get boxes k) ≡ Some n
    → slice_get mailboxes k ≡ find (λ box. box.number == n) mailboxes
box_of_place n k store [] [] a rising below at = absurd (omega (arith, below))
box_of_place n k store [] (b ∷ bs) a rising below at = absurd a
box_of_place n k store (m ∷ ms) [] a rising below at = absurd a
box_of_place n zero store (m ∷ ms) (b ∷ bs) a rising below at =
    let is : Some b.number.0 ≡ Some n = at in
    let same : b.number.0 ≡ n = cc is in
    sym (cond-true (m.number == n) (Some m) (find (λ (box : MapBox). box.number == n) ms) (eq-eqb m.number n (sym a.0 ∙ same)))
box_of_place n (suc k) store (m ∷ ms) (b ∷ bs) a rising below at =
    let less : m.number < n = above_at n k m.number store ms bs a.3 (omega (arith, below)) at (pairs_head (λ (a b : MapBox). a.number < b.number) m ms rising) in
    box_of_place n k store ms bs a.3 (pairs_tail (λ (a b : MapBox). a.number < b.number) m ms rising) (omega (arith, below)) at
    ∙ sym (cond-false (m.number == n) (Some m) (find (λ (box : MapBox). box.number == n) ms) (ne_eqb m.number n (λ (e : m.number ≡ n). omega (arith, less, e))))

pub none_at : (n : ℕ) (store : List ℕ) (mailboxes : List MapBox) (boxes : List OpenBox) → AreBoxLogs store mailboxes boxes → All (λ b. b.number.0 ≢ n) boxes → find (λ box. box.number == n) mailboxes ≡ None
none_at n store [] [] a none = refl
none_at n store [] (b ∷ bs) a none = absurd a
none_at n store (m ∷ ms) [] a none = absurd a
none_at n store (m ∷ ms) (b ∷ bs) a none =
    cond-false (m.number == n) (Some m) (find (λ (box : MapBox). box.number == n) ms) (ne_eqb m.number n (λ e. All-head (λ (o : OpenBox). o.number.0 ≢ n) b bs none (a.0 ∙ e)))
    ∙ none_at n store ms bs a.3 (All-tail (λ (o : OpenBox). o.number.0 ≢ n) b bs none)

-- as many logs as mailboxes
pub as_many_logs : (store : List ℕ) (mailboxes : List MapBox) (boxes : List OpenBox) → AreBoxLogs store mailboxes boxes → length boxes ≡ length mailboxes
as_many_logs store [] [] a = refl
as_many_logs store [] (b ∷ bs) a = absurd a
as_many_logs store (m ∷ ms) [] a = absurd a
as_many_logs store (m ∷ ms) (b ∷ bs) a = ap suc (as_many_logs store ms bs a.3)

-- its generation, of a map that is known under two names
pub generation_at : (n k : ℕ) (store : List ℕ) (m seen : MapMeaning) (bs ds : List OpenBox) (at : BoxAt) → AreBoxLogs store m.boxes bs → AllPairs (λ a b. a.number < b.number) m.boxes → m ≡ seen → ds ≡ bs → (k < length ds) × (option_map (λ b. b.number.0) (slice_get ds k) ≡ Some n)
    → Some at ≡ option_map shown_box (slice_get m.boxes k) → Some at.generation ≡ option_map (λ box. box.generation) (box_at seen n)
generation_at n k store m seen bs ds at logs rising same held place shown =
    by_box (slice_get m.boxes k) shown ∙ ap (option_map (λ (box : MapBox). box.generation)) (found ∙ ap (λ (o : MapMeaning). box_at o n) same)
  where
    found : slice_get m.boxes k ≡ box_at m n
    found = box_of_place n k store m.boxes bs logs rising (subst (λ (os : List OpenBox). k < length os) held place.0) (subst (λ (os : List OpenBox). option_map (λ (b : OpenBox). b.number.0) (slice_get os k) ≡ Some n) held place.1)

    by_box : (o : Option MapBox) → Some at ≡ option_map shown_box o → Some at.generation ≡ option_map (λ (box : MapBox). box.generation) o
    by_box None e = absurd (cc (let w : Some at ≡ None = e in w))
    by_box (Some box) e = let w : Some at ≡ Some (shown_box box) = e in let is : at ≡ shown_box box = cc w in ap (λ (x : BoxAt). Some x.generation) is

pub generation_none : (n : ℕ) (store : List ℕ) (m seen : MapMeaning) (bs ds : List OpenBox) (r : Option ℕ) → AreBoxLogs store m.boxes bs → m ≡ seen → ds ≡ bs → All (λ b. b.number.0 ≢ n) ds → r ≡ None → r ≡ option_map (λ box. box.generation) (box_at seen n)
generation_none n store m seen bs ds r logs same held none is =
    is ∙ ap (option_map (λ (box : MapBox). box.generation)) (sym (none_at n store m.boxes bs logs (subst (λ (os : List OpenBox). All (λ (b : OpenBox). b.number.0 ≢ n) os) held none)) ∙ ap (λ (o : MapMeaning). box_at o n) same)

-- there is no place without a mailbox
pub some_box : (k : ℕ) (store : List ℕ) (mailboxes : List MapBox) (boxes : List OpenBox) → AreBoxLogs store mailboxes boxes → k < length boxes → None ≡ option_map shown_box (slice_get mailboxes k) → ⊥
some_box k store [] [] a below e = omega (arith, below)
some_box k store [] (b ∷ bs) a below e = absurd a
some_box k store (m ∷ ms) [] a below e = absurd a
some_box zero store (m ∷ ms) (b ∷ bs) a below e = let w : None ≡ Some (shown_box m) = e in cc w
some_box (suc k) store (m ∷ ms) (b ∷ bs) a below e = some_box k store ms bs a.3 (omega (arith, below)) e
