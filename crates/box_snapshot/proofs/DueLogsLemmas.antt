-- The mailboxes by place: the logs of the first so many aren't due.
use Rattle.std.specs.Prelude.{◌⊎◌, ◌≢◌, ◌<◌, ◌≤◌, ◌+◌, ◌*◌, ◌==◌, ◌&&◌, ◌++◌, AllPairs, find, if◌then◌else◌, nat_le, nat_lt, slice_get}
use Rattle.std.specs.Option.{option_map_or}
use Rattle.std.proofs.Common.{◌≡◌, inl, inr, ℕ, Bool, true, false, cond, List, [], ◌∷◌, length, map, suc, zero, Option, Some, None, All, refl, sym, ◌∙◌, ap, subst, arith, option_map}
use Rattle.std.proofs.lemmas.Bool.{cases_Bool, cases_lt, cond-false, cond-true, eq-eqb, le-ltb, ne_eqb, true≢false}
use Rattle.std.proofs.lemmas.List.{length-append, length-map}
use Rattle.std.proofs.lemmas.List.Elements.{All-cons, All-get_or, All-nil}
use Rattle.std.proofs.lemmas.Option.{get_or_from_slice_get, slice_get-map, slice_get_within}
use Rattle.disk_model.specs.Disk.{History}
use Rattle.gate_log.specs.State.{IsSameLog, LogState}
use Rattle.map_index.specs.Shown.{shown_box}
use Rattle.map_index.specs.declared.rows.BoxAt.{BoxAt}
use Rattle.mdbox_base.specs.declared.entries.BoxEntry.{BoxEntry}
use Rattle.mdbox_base.specs.declared.entries.BoxEntry.TheVariants as box
use Rattle.mdbox_base.specs.declared.entries.MapEntry.{MapEntry}
use Rattle.mdbox_base.specs.declared.entries.MapEntry.TheVariants as map_entry
use Rattle.mdbox_base.specs.declared.ids.BoxNo.{BoxNo}
use Rattle.model_meaning.proofs.MapPlaceLemmas.{equal_is}
use Rattle.model_meaning.specs.BoxMeaning.{BoxMeaning}
use Rattle.model_meaning.specs.MapMeaning.{MapBox, MapMeaning}
use Rattle.model_meaning.specs.SameMeaning.{MeansSame}
use Rattle.model_octets.proofs.PairLemmas.{found_holds, pairs_head, pairs_tail}
use Rattle.model_rewritten.specs.Rewriting.{box_snapshot, made_entry, map_snapshot, next_from, row_entry, seal_entry, stored_again}
use Rattle.store_core.specs.Running.{AreBoxLogs}
use Rattle.store_core.specs.Value.{StoreValue}
use Rattle.store_core.specs.declared.store.OpenBox.{OpenBox}
use Rattle.box_snapshot.specs.Due.{AreUndueTo, KeepsUndue, is_box_due, is_due_at, is_log_due, is_map_due, needs_of_box, needs_of_map}
use Rattle.box_snapshot.specs.Rewrites.{IsBoxWritten, IsLogAnew, IsMapAnew, IsMapWritten, Rewrites, WritesOnce}

-- ---- a log that was written anew

-- a log with no more entries than it needs isn't due
enough : (entries needs generation : ℕ) → entries ≤ needs → is_log_due entries needs generation ≡ false
enough entries needs generation few = neither (nat_le 1024 entries) (nat_lt (2 * needs) entries) (nat_lt generation 4294967294) (le-ltb (2 * needs) entries (omega (arith, few)))
  where
    neither : (a b c : Bool) → b ≡ false → (a && (b && c)) ≡ false
    neither true b c is = rw is
    neither false b c is = refl

at_most_one : (t : Bool) (next : ℕ) → length (if t then [] else box.N next ∷ []) ≤ 1
at_most_one true next = omega arith
at_most_one false next = omega arith

few_entries : (m : BoxMeaning) → length (box_snapshot m) ≤ needs_of_box m
few_entries m =
    let last : List BoxEntry = if next_from 1 m.rows == m.next then [] else box.N m.next ∷ [] in
    let all : length (box_snapshot m) ≡ length (map row_entry m.rows) + length last = length-append (map row_entry m.rows) last in
    let rows : length (map row_entry m.rows) ≡ length m.rows = length-map m.rows row_entry in
    let one : length last ≤ 1 = at_most_one (next_from 1 m.rows == m.next) m.next in
    omega (arith, all, rows, one)

pub box_written : (before now : OpenBox) → now.log.count ≡ length (box_snapshot before.index.meaning) → now.index.meaning ≡ before.index.meaning → is_box_due now ≡ false
box_written before now count means =
    enough now.log.count (needs_of_box now.index.meaning) now.log.head.generation
    (subst (λ (k : ℕ). k ≤ needs_of_box now.index.meaning) (sym count) (subst (λ (m : BoxMeaning). length (box_snapshot before.index.meaning) ≤ needs_of_box m) (sym means) (few_entries before.index.meaning)))

as_many_entries : (m : MapMeaning) → length (map_snapshot m) ≤ needs_of_map m
as_many_entries m =
    let highest : List MapEntry = map_entry.H m.highest ∷ [] in
    let seals : List MapEntry = map seal_entry m.sealed ++ highest in
    let stored : List MapEntry = map stored_again m.records ++ seals in
    let a : length (map made_entry m.boxes ++ stored) ≡ length (map made_entry m.boxes) + length stored = length-append (map made_entry m.boxes) stored in
    let b : length stored ≡ length (map stored_again m.records) + length seals = length-append (map stored_again m.records) seals in
    let c : length seals ≡ length (map seal_entry m.sealed) + 1 = length-append (map seal_entry m.sealed) highest in
    let d : length (map made_entry m.boxes) ≡ length m.boxes = length-map m.boxes made_entry in
    let e : length (map stored_again m.records) ≡ length m.records = length-map m.records stored_again in
    let f : length (map seal_entry m.sealed) ≡ length m.sealed = length-map m.sealed seal_entry in
    omega (arith, a, b, c, d, e, f)

pub map_written : {D : Type 0} (old new : StoreValue D) → new.map_log.count ≡ length (map_snapshot old.map) → new.map ≡ old.map → is_map_due new ≡ false
map_written old new count same =
    enough new.map_log.count (needs_of_map new.map) new.map_log.head.generation
    (subst (λ (k : ℕ). k ≤ needs_of_map new.map) (sym count) (subst (λ (m : MapMeaning). length (map_snapshot old.map) ≤ needs_of_map m) (sym same) (as_many_entries old.map)))

-- ---- a mailbox at a place

-- the mailbox with this number is at this place of those that are open, and found by its number
pub record IsAtPlace (place number : ℕ) (boxes : List OpenBox) : Type 0 where
  pub at : OpenBox
  pub there : slice_get boxes place ≡ Some at
  pub found : find (λ b. b.number.0 == number) boxes ≡ Some at

number_past : (x place : ℕ) (m : MapBox) (ms : List MapBox) → slice_get ms place ≡ Some m → All (λ b. x < b.number) ms → x < m.number
number_past x place m ms at above = subst (λ (b : MapBox). x < b.number) (get_or_from_slice_get ms place m m at) (All-get_or (λ (b : MapBox). x < b.number) ms place m (slice_get_within ms place m at) above)

pub at_place : (store : List ℕ) (place : ℕ) (m : MapBox) (ms : List MapBox) (boxes : List OpenBox) → AreBoxLogs store ms boxes → AllPairs (λ a b. a.number < b.number) ms → slice_get ms place ≡ Some m → IsAtPlace place m.number boxes
at_place store place m [] [] a rising at = absurd (let k : place < 0 = slice_get_within [] place m at in omega (arith, k))
at_place store place m [] (b ∷ bs) a rising at = absurd a
at_place store place m (x ∷ ms) [] a rising at = absurd a
at_place store zero m (x ∷ ms) (b ∷ bs) a rising at =
    let is : Some x ≡ Some m = at in
    let same : x ≡ m = cc is in
    record { at = b; there = refl; found = cond-true (b.number.0 == m.number) (Some b) (find (λ (o : OpenBox). o.number.0 == m.number) bs) (eq-eqb b.number.0 m.number (a.0 ∙ ap (λ (y : MapBox). y.number) same)) }
at_place store (suc place) m (x ∷ ms) (b ∷ bs) a rising at =
    let rest = at_place store place m ms bs a.3 (pairs_tail (λ (c d : MapBox). c.number < d.number) x ms rising) at in
    let less : x.number < m.number = number_past x.number place m ms at (pairs_head (λ (c d : MapBox). c.number < d.number) x ms rising) in
    let is : b.number.0 ≡ x.number = a.0 in
    record { at = rest.at; there = rest.there; found = cond-false (b.number.0 == m.number) (Some b) (find (λ (o : OpenBox). o.number.0 == m.number) bs) (ne_eqb b.number.0 m.number (λ e. omega (arith, less, is, e))) ∙ rest.found }

-- by what the store shows of the map
pub shown_at : (store : List ℕ) (place : ℕ) (mailbox : BoxAt) (m seen : MapMeaning) (boxes : List OpenBox) → AreBoxLogs store m.boxes boxes → AllPairs (λ a b. a.number < b.number) seen.boxes → seen ≡ m → Some mailbox ≡ option_map shown_box (slice_get seen.boxes place)
    → IsAtPlace place mailbox.number.0 boxes
shown_at store place mailbox m seen boxes a rising same shown = by_box (slice_get m.boxes place) refl (shown ∙ ap (λ (n : MapMeaning). option_map shown_box (slice_get n.boxes place)) same)
  where
    by_box : (o : Option MapBox) → slice_get m.boxes place ≡ o → Some mailbox ≡ option_map shown_box o → IsAtPlace place mailbox.number.0 boxes
    by_box None found e = absurd (cc (let k : Some mailbox ≡ None = e in k))
    by_box (Some b) found e =
        let k : Some mailbox ≡ Some (shown_box b) = e in
        let is : mailbox ≡ shown_box b = cc k in
        subst (λ (x : BoxAt). IsAtPlace place x.number.0 boxes) (sym is) (at_place store place b m.boxes boxes a (subst (λ (n : MapMeaning). AllPairs (λ c d. c.number < d.number) n.boxes) same rising) found)

pub as_many_boxes : (store : List ℕ) (ms : List MapBox) (boxes : List OpenBox) → AreBoxLogs store ms boxes → length boxes ≡ length ms
as_many_boxes store [] [] a = refl
as_many_boxes store [] (b ∷ bs) a = absurd a
as_many_boxes store (m ∷ ms) [] a = absurd a
as_many_boxes store (m ∷ ms) (b ∷ bs) a = ap suc (as_many_boxes store ms bs a.3)

pub as_many_still : (m n : MapMeaning) → MeansSame m n → length n.boxes ≡ length m.boxes
as_many_still m n same = sym (length-map n.boxes (λ (b : MapBox). b.number)) ∙ ap length same.numbers ∙ length-map m.boxes (λ (b : MapBox). b.number)

-- ---- the next place

-- the log of the mailbox at the next place isn't due
pub undue_next : (place number : ℕ) (boxes : List OpenBox) → IsAtPlace place number boxes → option_map_or is_box_due (find (λ b. b.number.0 == number) boxes) false ≡ false → AreUndueTo place boxes → AreUndueTo (place + 1) boxes
undue_next place number boxes p undue before = λ i below. elim (cases_lt i place) [
  | inl less ↦ before i less
  | inr past ↦
      let same : i ≡ place = omega (arith, below, past) in
      ap (λ (k : ℕ). option_map_or is_box_due (slice_get boxes k) false) same ∙ ap (λ (o : Option OpenBox). option_map_or is_box_due o false) (p.there ∙ sym p.found) ∙ undue
]

-- the log of the mailbox with this number is another one, which isn't due
replaced : (number : ℕ) (now : OpenBox) (found : Option OpenBox) → is_box_due now ≡ false → option_map_or is_box_due found false ≡ false → option_map_or is_box_due (option_map (λ b. if b.number.0 == number then now else b) found) false ≡ false
replaced number now None written undue = refl
replaced number now (Some b) written undue = one (b.number.0 == number)
  where
    one : (t : Bool) → is_box_due (if t then now else b) ≡ false
    one true = written
    one false = undue

all_same : (bs : List OpenBox) → All (λ (b : OpenBox). b ≡ b) bs
all_same [] = All-nil (λ (b : OpenBox). b ≡ b)
all_same (b ∷ bs) = All-cons (λ (x : OpenBox). x ≡ x) b bs refl (all_same bs)

replaced_at : (place number : ℕ) (now : OpenBox) (boxes : List OpenBox) → IsAtPlace place number boxes → is_box_due now ≡ false → option_map_or is_box_due (option_map (λ b. if b.number.0 == number then now else b) (slice_get boxes place)) false ≡ false
replaced_at place number now boxes p written =
    ap (λ (o : Option OpenBox). option_map_or is_box_due (option_map (λ (b : OpenBox). if b.number.0 == number then now else b) o) false) p.there
    ∙ ap (λ (b : OpenBox). is_box_due b) (cond-true (p.at.number.0 == number) now p.at (found_holds (λ (b : OpenBox). b.number.0 == number) boxes p.at (λ b. b ≡ b) p.found (all_same boxes)).1) ∙ written

pub undue_written : (place number : ℕ) (now : OpenBox) (old new : List OpenBox) → IsAtPlace place number old → new ≡ map (λ b. if b.number.0 == number then now else b) old → is_box_due now ≡ false → AreUndueTo place old → AreUndueTo (place + 1) new
undue_written place number now old new p is written before = λ i below.
    ap (λ (bs : List OpenBox). option_map_or is_box_due (slice_get bs i) false) is
    ∙ ap (λ (o : Option OpenBox). option_map_or is_box_due o false) (slice_get-map (λ (b : OpenBox). if b.number.0 == number then now else b) old i)
    ∙ elim (cases_lt i place) [
      | inl less ↦ replaced number now (slice_get old i) written (before i less)
      | inr past ↦
          let same : i ≡ place = omega (arith, below, past) in
          ap (λ (k : ℕ). option_map_or is_box_due (option_map (λ (b : OpenBox). if b.number.0 == number then now else b) (slice_get old k)) false) same ∙ replaced_at place number now old p written
    ]

-- ---- all mailboxes

pub all_undue : (n : ℕ) (boxes : List OpenBox) → length boxes ≤ n → AreUndueTo n boxes → All (λ b. is_box_due b ≡ false) boxes
all_undue n [] many undue = All-nil (λ (b : OpenBox). is_box_due b ≡ false)
all_undue zero (b ∷ bs) many undue = absurd (omega (arith, many))
all_undue (suc n) (b ∷ bs) many undue = All-cons (λ (x : OpenBox). is_box_due x ≡ false) b bs (undue 0 (omega arith)) (all_undue n bs (omega (arith, many)) (λ i below. undue (suc i) (omega (arith, below))))

pub none_due : (number : ℕ) (boxes : List OpenBox) → All (λ b. is_box_due b ≡ false) boxes → option_map_or is_box_due (find (λ b. b.number.0 == number) boxes) false ≡ false
none_due number boxes undue = by_found (find (λ (b : OpenBox). b.number.0 == number) boxes) refl
  where
    by_found : (o : Option OpenBox) → find (λ (b : OpenBox). b.number.0 == number) boxes ≡ o → option_map_or is_box_due o false ≡ false
    by_found None e = refl
    by_found (Some b) e = (found_holds (λ (x : OpenBox). x.number.0 == number) boxes b (λ x. is_box_due x ≡ false) e undue).0

-- ---- mailboxes that aren't due

-- another mailbox is found as it was
find_beside : (number place : ℕ) (now : OpenBox) (boxes : List OpenBox) → place ≢ number → now.number.0 ≡ place
    → find (λ b. b.number.0 == number) (map (λ b. if b.number.0 == place then now else b) boxes) ≡ find (λ b. b.number.0 == number) boxes
find_beside number place now [] apart is = refl
find_beside number place now (b ∷ bs) apart is = one (b.number.0 == place) refl (find_beside number place now bs apart is)
  where
    passed : (c : OpenBox) (rest : Option OpenBox) → c.number.0 ≡ place → cond (c.number.0 == number) (Some c) rest ≡ rest
    passed c rest e = cond-false (c.number.0 == number) (Some c) rest (ne_eqb c.number.0 number (λ same. apart (sym e ∙ same)))

    one : (t : Bool) → (b.number.0 == place) ≡ t → {rest after : Option OpenBox} → after ≡ rest → cond ((if t then now else b).number.0 == number) (Some (if t then now else b)) after ≡ cond (b.number.0 == number) (Some b) rest
    one true e {rest} {after} same = passed now after is ∙ same ∙ sym (passed b rest (equal_is b.number.0 place e))
    one false e {rest} {after} same = ap (cond (b.number.0 == number) (Some b)) same

-- the mailbox that was written anew was due
pub kept_written : {D : Type 0} (written : ℕ) (history : Option History) (old new : StoreValue D) → is_due_at written old ≡ true → IsBoxWritten written history old new → KeepsUndue old new
kept_written written history old new due w = λ number undue.
    let apart : written ≢ number = λ same. true≢false (sym due ∙ (ap (λ (k : ℕ). is_due_at k old) same ∙ undue)) in
    let own : w.before.number.0 ≡ written = equal_is w.before.number.0 written (found_holds (λ (b : OpenBox). b.number.0 == written) old.boxes w.before (λ b. b ≡ b) w.found (all_same old.boxes)).1 in
    ap (find (λ (b : OpenBox). b.number.0 == number)) w.boxes ∙ find_beside number written w.now old.boxes apart (ap (λ (n : BoxNo). n.0) w.number_is ∙ own)

pub kept_then : {D : Type 0} (a b c : StoreValue D) → KeepsUndue a b → KeepsUndue b c → KeepsUndue a c
kept_then a b c first second = λ number undue. second number (ap (λ (o : Option OpenBox). option_map_or is_box_due o false) (first number undue) ∙ undue) ∙ first number undue

pub kept_on : {D : Type 0} (a b c : StoreValue D) → c.boxes ≡ b.boxes → KeepsUndue a b → KeepsUndue a c
kept_on a b c same first = λ number undue. ap (find (λ (x : OpenBox). x.number.0 == number)) same ∙ first number undue

-- ---- mailboxes that are due

-- the mailbox is found as it was written
find_written : (number : ℕ) (now before : OpenBox) (boxes : List OpenBox) → now.number.0 ≡ number → find (λ b. b.number.0 == number) boxes ≡ Some before
    → find (λ b. b.number.0 == number) (map (λ b. if b.number.0 == number then now else b) boxes) ≡ Some now
find_written number now before [] is found = absurd (cc (let h : None ≡ Some before = found in h))
find_written number now before (b ∷ bs) is found = one (b.number.0 == number) refl (λ there. find_written number now before bs is there)
  where
    P : OpenBox → Bool
    P x = x.number.0 == number

    rest : Option OpenBox
    rest = find P (map (λ (x : OpenBox). if x.number.0 == number then now else x) bs)

    one : (t : Bool) → P b ≡ t → (find P bs ≡ Some before → rest ≡ Some now) → cond (P (if t then now else b)) (Some (if t then now else b)) rest ≡ Some now
    one true e further = cond-true (P now) (Some now) rest (eq-eqb now.number.0 number is)
    one false e further = cond-false (P b) (Some b) rest e ∙ further (sym (cond-false (P b) (Some b) (find P bs) e) ∙ found)

pub once_itself : {D : Type 0} (v : StoreValue D) → WritesOnce v v
once_itself v = λ number. inl refl

-- one more that was due, so it wasn't written anew before
pub once_then : {D : Type 0} (written : ℕ) (history : Option History) (first mid new : StoreValue D) → is_due_at written mid ≡ true → IsBoxWritten written history mid new → WritesOnce first mid → WritesOnce first new
once_then written history first mid new due w before = λ number. elim (cases_Bool (written == number)) [
  | inl here ↦ subst (λ (k : ℕ). (find (λ (b : OpenBox). b.number.0 == k) new.boxes ≡ find (λ (b : OpenBox). b.number.0 == k) first.boxes) ⊎ IsLogAnew k first new) (equal_is written number here) (inr (own (before written)))
  | inr apart ↦ elim (before number) [
    | inl same ↦ inl (beside number apart ∙ same)
    | inr anew ↦ inr (record { before = anew.before; now = anew.now; found = anew.found; found_now = beside number apart ∙ anew.found_now; generation = anew.generation; means = anew.means; count = anew.count })
  ]
]
  where
    number_now : w.now.number.0 ≡ written
    number_now = ap (λ (n : BoxNo). n.0) w.number_is ∙ equal_is w.before.number.0 written (found_holds (λ (b : OpenBox). b.number.0 == written) mid.boxes w.before (λ b. b ≡ b) w.found (all_same mid.boxes)).1

    beside : (number : ℕ) → (written == number) ≡ false → find (λ (b : OpenBox). b.number.0 == number) new.boxes ≡ find (λ (b : OpenBox). b.number.0 == number) mid.boxes
    beside number apart = ap (find (λ (b : OpenBox). b.number.0 == number)) w.boxes ∙ find_beside number written w.now mid.boxes (λ same. true≢false (sym (eq-eqb written number same) ∙ apart)) number_now

    own : (find (λ (b : OpenBox). b.number.0 == written) mid.boxes ≡ find (λ (b : OpenBox). b.number.0 == written) first.boxes) ⊎ IsLogAnew written first mid → IsLogAnew written first new
    own (inl same) = record {
      before = w.before;
      now = w.now;
      found = sym same ∙ w.found;
      found_now = ap (find (λ (b : OpenBox). b.number.0 == written)) w.boxes ∙ find_written written w.now w.before mid.boxes number_now w.found;
      generation = w.generation;
      means = w.means;
      count = w.count;
    }
    own (inr anew) = absurd (true≢false (sym due ∙ (ap (λ (o : Option OpenBox). option_map_or is_box_due o false) anew.found_now ∙ box_written anew.before anew.now anew.count anew.means)))

-- where none is due any more, each that was due was written anew; the map log is another matter
pub due_written : {D : Type 0} (old mid new : StoreValue D) → WritesOnce old mid → All (λ b. is_box_due b ≡ false) mid.boxes → new.boxes ≡ mid.boxes → (number : ℕ) → is_due_at number old ≡ true → IsLogAnew number old new
due_written old mid new once undue boxes number due = elim (once number) [
  | inl same ↦ absurd (true≢false (sym due ∙ (ap (λ (o : Option OpenBox). option_map_or is_box_due o false) (sym same) ∙ none_due number mid.boxes undue)))
  | inr anew ↦ record { before = anew.before; now = anew.now; found = anew.found; found_now = ap (find (λ (b : OpenBox). b.number.0 == number)) boxes ∙ anew.found_now; generation = anew.generation; means = anew.means; count = anew.count }
]

-- ---- the map log

pub same_log_itself : (log : LogState) → IsSameLog log log
same_log_itself log = record { name = refl; head = refl; room = refl }

pub same_log_then : (a b c : LogState) → IsSameLog a b → IsSameLog b c → IsSameLog a c
same_log_then a b c first second = record { name = second.name ∙ first.name; head = second.head ∙ first.head; room = second.room ∙ first.room }

pub map_anew : {D : Type 0} (history : Option History) (old new : StoreValue D) → new ≡ record old { disk = new.disk; root_log = new.root_log; map_log = new.map_log; stopped = new.stopped } → IsMapWritten history old new → IsMapAnew old new
map_anew history old new same w = record { generation = w.generation; count = w.count ∙ ap (λ (s : StoreValue _). length (map_snapshot s.map)) (sym same) }

pub map_log_after : {D : Type 0} (a b c : StoreValue D) → IsSameLog a.map_log b.map_log → IsMapAnew b c ⊎ IsSameLog b.map_log c.map_log → IsMapAnew a c ⊎ IsSameLog a.map_log c.map_log
map_log_after a b c log (inl did) = inl (record { generation = did.generation ∙ ap (λ h. h.generation + 1) log.head; count = did.count })
map_log_after a b c log (inr still) = inr (same_log_then a.map_log b.map_log c.map_log log still)

pub map_anew_after : {D : Type 0} (a b c : StoreValue D) → b ≡ a → is_map_due a ≡ true → (is_map_due b ≡ true → IsMapAnew b c) → IsMapAnew a c
map_anew_after a b c same due written = subst (λ (s : StoreValue _). IsMapAnew s c) same (written (ap (λ (s : StoreValue _). is_map_due s) same ∙ due))

-- ---- a store that isn't stopped, and without logs that were made

pub unmade_still : {D : Type 0} (history : D → Option History) (old new : StoreValue D) → Rewrites history old new → old.made ≡ [] → new.made ≡ []
unmade_still history old new r none = ap (λ (s : StoreValue _). s.made) r.same ∙ none

pub runs_on : (stopped : Bool) → (stopped ≡ true → ⊥) → stopped ≡ false
runs_on true never = absurd (never refl)
runs_on false never = refl
