-- Mailboxes of which one has another log, in a new generation: their open logs, what these mean, and how often messages are listed.
use Rattle.store_core.proofs.Common.{inl, inr, ◌≡◌, ◌≢◌, ◌<◌, ◌≤◌, ◌==◌, ℕ, Bool, true, false, cases_Bool, false≢true, zero, suc, if◌then◌else◌, List, [], ◌∷◌, map, length, slice_set, slice_index_or, find, Option, Some, None, All, AllPairs, refl, sym, ◌∙◌, ap, subst, arith, All-head, All-tail, Files, History}
use Rattle.store_core.proofs.Common.{BoxEntry, MapEntry, BoxNo, Lists, box_text, BoxMeaning, box_meaning, rows_after, MapBox, MapRecord, MapMeaning, HasItsRecord, IsCounted, listed_of, Reads, map_meaning, All-cons, All-contains, bytes_eq, head_of, HasBox, equal_is, pairs_head, pairs_tail, cond-true, cond-false, map_applied, IsUnnamed, AreBoxLogs, ReadBoxLogs, CoverDues, OpenBox, indexes_of}
use Rattle.std.specs.Option.{option_map_or}
use Rattle.std.proofs.lemmas.Bool.{eq-eqb, ne_eqb}
use Rattle.disk_model.specs.declared.name.FileName.TheVariants as file
use Rattle.mdbox_base.specs.declared.entries.MapEntry.TheVariants as entry
use Rattle.model_lists.specs.Lists.{Mailbox, refs_of, ListedMessage}
use Rattle.model_logs.specs.declared.log_head.LogKind.TheVariants as kind
use Rattle.model_meaning.proofs.AppliedLemmas.{boxes_by_generation}
use Rattle.model_meaning.specs.BoxMeaning.{next_after}
use Rattle.model_meaning.specs.MapMeaning.{box_at, box_changed, count_of, record_of}
use Rattle.model_meaning.specs.Sound.{IsSoundMap}
use Rattle.model_octets.proofs.PairLemmas.{IsOnly}
use Rattle.model_octets.proofs.SearchLemmas.{found_one, text_is}
use Rattle.model_store.specs.Listing.{meaning_numbered}
use Rattle.model_store.proofs.OpeningSafeLemmas.{counted, passed_by, unlisted}
use Rattle.model_store.specs.Opening.{PassBoxes, PassesBox}
use Rattle.model_store.specs.Stands.{AreListed, AreMailboxes}
use Rattle.model_rewritten.specs.Switched.{list_switched, log_switched}
use Rattle.model_rewritten.proofs.SwitchLemmas.{mailboxes_switched, only_box, switched_is}
use Rattle.model_rewritten.proofs.SwitchOpenLemmas.{untouched}
use Rattle.store_core.specs.Drafts.{meanings_with}

abbrev pub Rising : MapBox → MapBox → Type 0
Rising a b = a.number < b.number

-- ---- what the logs mean

pub meanings_are : (k : ℕ) (log : List BoxEntry) (boxes : List MapBox) (logs : List (List BoxEntry)) → meanings_with k (box_meaning log) boxes (map box_meaning logs) ≡ map box_meaning (log_switched k log boxes logs)
meanings_are k log [] [] = refl
meanings_are k log [] (l ∷ ls) = refl
meanings_are k log (b ∷ bs) [] = refl
meanings_are k log (b ∷ bs) (l ∷ ls) = ap (λ (m : BoxMeaning). m ∷ meanings_with k (box_meaning log) bs (map box_meaning ls)) (either (k == b.number)) ∙ ap (λ (ms : List BoxMeaning). box_meaning (if k == b.number then log else l) ∷ ms) (meanings_are k log bs ls)
  where
    either : (t : Bool) → (if t then box_meaning log else box_meaning l) ≡ box_meaning (if t then log else l)
    either true = refl
    either false = refl

no_meaning : (k : ℕ) (m : BoxMeaning) (b : MapBox) (boxes : List MapBox) (olds : List BoxMeaning) → All (Rising b) boxes → b.number ≡ k → meanings_with k m boxes olds ≡ olds
no_meaning k m b [] [] above is = refl
no_meaning k m b [] (o ∷ os) above is = refl
no_meaning k m b (c ∷ cs) [] above is = refl
no_meaning k m b (c ∷ cs) (o ∷ os) above is =
    let less : b.number < c.number = All-head (Rising b) c cs above in
    ap (λ (t : Bool). (if t then m else o) ∷ meanings_with k m cs os) (ne_eqb k c.number (λ (e : k ≡ c.number). omega (arith, less, is, e)))
    ∙ ap (λ (xs : List BoxMeaning). o ∷ xs) (no_meaning k m b cs os (All-tail (Rising b) c cs above) is)

-- a later mailbox has a higher number
number_later : (store : List ℕ) (k place : ℕ) (d : OpenBox) (mailboxes : List MapBox) (boxes : List OpenBox) (b : MapBox) → All (Rising b) mailboxes → AreBoxLogs store mailboxes boxes → place < length boxes → (slice_index_or boxes place d).number.0 ≡ k → b.number < k
number_later store k place d [] [] b above a below is = absurd (omega (arith, below))
number_later store k place d [] (o ∷ os) b above a below is = absurd a
number_later store k place d (m ∷ ms) [] b above a below is = absurd a
number_later store k zero d (m ∷ ms) (o ∷ os) b above a below is = let less : b.number < m.number = All-head (Rising b) m ms above in let same : m.number ≡ k = sym a.0 ∙ is in omega (arith, less, same)
number_later store k (suc place) d (m ∷ ms) (o ∷ os) b above a below is = number_later store k place d ms os b (All-tail (Rising b) m ms above) a.3 (omega (arith, below)) is

-- the open log at the mailbox's place is another
pub meanings_set : (store : List ℕ) (k place : ℕ) (d b : OpenBox) (mailboxes : List MapBox) (boxes : List OpenBox) → AllPairs Rising mailboxes → AreBoxLogs store mailboxes boxes → place < length boxes → (slice_index_or boxes place d).number.0 ≡ k
    → indexes_of (slice_set boxes place b) ≡ meanings_with k b.index.meaning mailboxes (indexes_of boxes)
meanings_set store k place d b [] [] rising a below is = absurd (omega (arith, below))
meanings_set store k place d b [] (o ∷ os) rising a below is = absurd a
meanings_set store k place d b (m ∷ ms) [] rising a below is = absurd a
meanings_set store k zero d b (m ∷ ms) (o ∷ os) rising a below is =
    let same : m.number ≡ k = sym a.0 ∙ is in
    sym (ap (λ (t : Bool). (if t then b.index.meaning else o.index.meaning) ∷ meanings_with k b.index.meaning ms (indexes_of os)) (eq-eqb k m.number (sym same))
    ∙ ap (λ (xs : List BoxMeaning). b.index.meaning ∷ xs) (no_meaning k b.index.meaning m ms (indexes_of os) (pairs_head Rising m ms rising) same))
meanings_set store k (suc place) d b (m ∷ ms) (o ∷ os) rising a below is =
    let rest = meanings_set store k place d b ms os (pairs_tail Rising m ms rising) a.3 (omega (arith, below)) is in
    let later = number_later store k place d ms os m (pairs_head Rising m ms rising) a.3 (omega (arith, below)) is in
    ap (λ (xs : List BoxMeaning). o.index.meaning ∷ xs) rest
    ∙ sym (ap (λ (t : Bool). (if t then b.index.meaning else o.index.meaning) ∷ meanings_with k b.index.meaning ms (indexes_of os)) (ne_eqb k m.number (λ (e : k ≡ m.number). omega (arith, later, e))))

-- a log that means what the one in force means leaves all meanings as they are
pub meanings_stay : (k : ℕ) (m : BoxMeaning) (mailboxes : List MapBox) (olds : List BoxMeaning) → AllPairs Rising mailboxes → meaning_numbered k mailboxes olds ≡ Some m → meanings_with k m mailboxes olds ≡ olds
meanings_stay k m [] olds rising is = refl
meanings_stay k m (b ∷ bs) [] rising is = refl
meanings_stay k m (b ∷ bs) (o ∷ os) rising is = elim (cases_Bool (b.number == k)) [
  | inl here ↦
      let same : b.number ≡ k = equal_is b.number k here in
      let found : Some o ≡ Some m = sym (ap (λ (t : Bool). if t then Some o else meaning_numbered k bs os) here) ∙ is in
      let one : o ≡ m = cc found in
      ap (λ (t : Bool). (if t then m else o) ∷ meanings_with k m bs os) (eq-eqb k b.number (sym same))
      ∙ ap (λ (xs : List BoxMeaning). m ∷ xs) (no_meaning k m b bs os (pairs_head Rising b bs rising) same) ∙ ap (λ (x : BoxMeaning). x ∷ os) (sym one)
  | inr apart ↦
      let rest : meaning_numbered k bs os ≡ Some m = sym (ap (λ (t : Bool). if t then Some o else meaning_numbered k bs os) apart) ∙ is in
      ap (λ (t : Bool). (if t then m else o) ∷ meanings_with k m bs os) (ne_eqb k b.number (λ (e : k ≡ b.number). absurd (false≢true (sym apart ∙ eq-eqb b.number k (sym e)))))
      ∙ ap (λ (xs : List BoxMeaning). o ∷ xs) (meanings_stay k m bs os (pairs_tail Rising b bs rising) rest)
]

-- ---- the open logs

abbrev changed_boxes : BoxNo → ℕ → List MapBox → List MapBox
changed_boxes k g boxes = map (box_changed (entry.G k g)) boxes

boxes_same : (k : BoxNo) (g : ℕ) (b : MapBox) (boxes : List MapBox) → All (Rising b) boxes → b.number ≡ k.0 → changed_boxes k g boxes ≡ boxes
boxes_same k g b [] above is = refl
boxes_same k g b (c ∷ cs) above is =
    let less : b.number < c.number = All-head (Rising b) c cs above in
    ap (λ (t : Bool). (if t then record c { generation = g } else c) ∷ changed_boxes k g cs) (ne_eqb k.0 c.number (λ (e : k.0 ≡ c.number). omega (arith, less, is, e)))
    ∙ ap (λ (xs : List MapBox). c ∷ xs) (boxes_same k g b cs (All-tail (Rising b) c cs above) is)

-- the open log of a mailbox, under its name and with its head
abbrev IsOpenLog : List ℕ → MapBox → OpenBox → Type 0
IsOpenLog store m o = (o.number.0 ≡ m.number) × (o.log.name ≡ file.Box m.number m.generation) × (o.log.head ≡ head_of store kind.Box m.number m.generation)

pub logs_set : (store : List ℕ) (k : BoxNo) (g place : ℕ) (d b : OpenBox) (mailboxes : List MapBox) (boxes : List OpenBox) → AllPairs Rising mailboxes → AreBoxLogs store mailboxes boxes → place < length boxes → (slice_index_or boxes place d).number.0 ≡ k.0
    → b.number.0 ≡ k.0 → b.log.name ≡ file.Box k.0 g → b.log.head ≡ head_of store kind.Box k.0 g → AreBoxLogs store (changed_boxes k g mailboxes) (slice_set boxes place b)
logs_set store k g place d b [] [] rising a below is number name head = absurd (omega (arith, below))
logs_set store k g place d b [] (o ∷ os) rising a below is number name head = absurd a
logs_set store k g place d b (m ∷ ms) [] rising a below is number name head = absurd a
logs_set store k g zero d b (m ∷ ms) (o ∷ os) rising a below is number name head =
    let same : m.number ≡ k.0 = sym a.0 ∙ is in
    let one : IsOpenLog store (record m { generation = g }) b =
    (number ∙ sym same, name ∙ ap (λ (n : ℕ). file.Box n g) (sym same), head ∙ ap (λ (n : ℕ). head_of store kind.Box n g) (sym same)) in
    subst (λ (t : Bool). AreBoxLogs store ((if t then record m { generation = g } else m) ∷ changed_boxes k g ms) (b ∷ os)) (sym (eq-eqb k.0 m.number (sym same)))
    (one.0, one.1, one.2, subst (λ (xs : List MapBox). AreBoxLogs store xs os) (sym (boxes_same k g m ms (pairs_head Rising m ms rising) same)) a.3)
logs_set store k g (suc place) d b (m ∷ ms) (o ∷ os) rising a below is number name head =
    let later = number_later store k.0 place d ms os m (pairs_head Rising m ms rising) a.3 (omega (arith, below)) is in
    subst (λ (t : Bool). AreBoxLogs store ((if t then record m { generation = g } else m) ∷ changed_boxes k g ms) (o ∷ slice_set os place b)) (sym (ne_eqb k.0 m.number (λ (e : k.0 ≡ m.number). omega (arith, later, e))))
    (a.0, a.1, a.2, logs_set store k g place d b ms os (pairs_tail Rising m ms rising) a.3 (omega (arith, below)) is number name head)

pub read_set : (store : List ℕ) (k place : ℕ) (d b : OpenBox) (log : List BoxEntry) (h : Option History) (mailboxes : List MapBox) (boxes : List OpenBox) (logs : List (List BoxEntry)) → AllPairs Rising mailboxes → AreBoxLogs store mailboxes boxes → place < length boxes
    → (slice_index_or boxes place d).number.0 ≡ k → Reads b.log (map box_text log) h → ReadBoxLogs h boxes logs → ReadBoxLogs h (slice_set boxes place b) (log_switched k log mailboxes logs)
read_set store k place d b log h [] [] logs rising a below is reads r = absurd (omega (arith, below))
read_set store k place d b log h [] (o ∷ os) logs rising a below is reads r = absurd a
read_set store k place d b log h (m ∷ ms) [] logs rising a below is reads r = absurd a
read_set store k place d b log h (m ∷ ms) (o ∷ os) [] rising a below is reads r = absurd r
read_set store k zero d b log h (m ∷ ms) (o ∷ os) (l ∷ ls) rising a below is reads r =
    let same : m.number ≡ k = sym a.0 ∙ is in
    subst (λ (t : Bool). ReadBoxLogs h (b ∷ os) ((if t then log else l) ∷ log_switched k log ms ls)) (sym (eq-eqb k m.number (sym same)))
    (reads, subst (λ (xs : List (List BoxEntry)). ReadBoxLogs h os xs) (sym (untouched k log m ms ls (pairs_head Rising m ms rising) same)) r.1)
read_set store k (suc place) d b log h (m ∷ ms) (o ∷ os) (l ∷ ls) rising a below is reads r =
    let later = number_later store k place d ms os m (pairs_head Rising m ms rising) a.3 (omega (arith, below)) is in
    subst (λ (t : Bool). ReadBoxLogs h (o ∷ slice_set os place b) ((if t then log else l) ∷ log_switched k log ms ls)) (sym (ne_eqb k m.number (λ (e : k ≡ m.number). omega (arith, later, e))))
    (r.0, read_set store k place d b log h ms os ls (pairs_tail Rising m ms rising) a.3 (omega (arith, below)) is reads r.1)

no_other : (store : List ℕ) (k : ℕ) (x : OpenBox) (b : MapBox) (mailboxes : List MapBox) (boxes : List OpenBox) → All (Rising b) mailboxes → AreBoxLogs store mailboxes boxes → b.number ≡ k → map (λ o. if o.number.0 == k then x else o) boxes ≡ boxes
no_other store k x b [] [] above a is = refl
no_other store k x b [] (o ∷ os) above a is = absurd a
no_other store k x b (m ∷ ms) [] above a is = absurd a
no_other store k x b (m ∷ ms) (o ∷ os) above a is =
    let less : b.number < m.number = All-head (Rising b) m ms above in
    let own : o.number.0 ≡ m.number = a.0 in
    ap (λ (t : Bool). (if t then x else o) ∷ map (λ (y : OpenBox). if y.number.0 == k then x else y) os) (ne_eqb o.number.0 k (λ (e : o.number.0 ≡ k). omega (arith, less, own, is, e)))
    ∙ ap (λ (xs : List OpenBox). o ∷ xs) (no_other store k x b ms os (All-tail (Rising b) m ms above) a.3 is)

-- the open log with this number is another
pub boxes_set : (store : List ℕ) (k place : ℕ) (d b : OpenBox) (mailboxes : List MapBox) (boxes : List OpenBox) → AllPairs Rising mailboxes → AreBoxLogs store mailboxes boxes → place < length boxes → (slice_index_or boxes place d).number.0 ≡ k
    → slice_set boxes place b ≡ map (λ o. if o.number.0 == k then b else o) boxes
boxes_set store k place d b [] [] rising a below is = absurd (omega (arith, below))
boxes_set store k place d b [] (o ∷ os) rising a below is = absurd a
boxes_set store k place d b (m ∷ ms) [] rising a below is = absurd a
boxes_set store k zero d b (m ∷ ms) (o ∷ os) rising a below is =
    sym (ap (λ (t : Bool). (if t then b else o) ∷ map (λ (y : OpenBox). if y.number.0 == k then b else y) os) (eq-eqb o.number.0 k is)
    ∙ ap (λ (xs : List OpenBox). b ∷ xs) (no_other store k b m ms os (pairs_head Rising m ms rising) a.3 (sym a.0 ∙ is)))
boxes_set store k (suc place) d b (m ∷ ms) (o ∷ os) rising a below is =
    let later = number_later store k place d ms os m (pairs_head Rising m ms rising) a.3 (omega (arith, below)) is in
    let own : o.number.0 ≡ m.number = a.0 in
    ap (λ (xs : List OpenBox). o ∷ xs) (boxes_set store k place d b ms os (pairs_tail Rising m ms rising) a.3 (omega (arith, below)) is)
    ∙ sym (ap (λ (t : Bool). (if t then b else o) ∷ map (λ (y : OpenBox). if y.number.0 == k then b else y) os) (ne_eqb o.number.0 k (λ (e : o.number.0 ≡ k). omega (arith, later, own, e))))

-- the open log is found by its number
pub found_set : (store : List ℕ) (k place : ℕ) (d b : OpenBox) (mailboxes : List MapBox) (boxes : List OpenBox) → AllPairs Rising mailboxes → AreBoxLogs store mailboxes boxes → place < length boxes → (slice_index_or boxes place d).number.0 ≡ k → b.number.0 ≡ k
    → find (λ o. o.number.0 == k) (slice_set boxes place b) ≡ Some b
found_set store k place d b [] [] rising a below is number = absurd (omega (arith, below))
found_set store k place d b [] (o ∷ os) rising a below is number = absurd a
found_set store k place d b (m ∷ ms) [] rising a below is number = absurd a
found_set store k zero d b (m ∷ ms) (o ∷ os) rising a below is number = cond-true (b.number.0 == k) (Some b) (find (λ (x : OpenBox). x.number.0 == k) os) (eq-eqb b.number.0 k number)
found_set store k (suc place) d b (m ∷ ms) (o ∷ os) rising a below is number =
    let later = number_later store k place d ms os m (pairs_head Rising m ms rising) a.3 (omega (arith, below)) is in
    let own : o.number.0 ≡ m.number = a.0 in
    cond-false (o.number.0 == k) (Some o) (find (λ (x : OpenBox). x.number.0 == k) (slice_set os place b)) (ne_eqb o.number.0 k (λ (e : o.number.0 ≡ k). omega (arith, later, own, e)))
    ∙ found_set store k place d b ms os (pairs_tail Rising m ms rising) a.3 (omega (arith, below)) is number

-- no mailbox has another number
unnamed_each : (k : BoxNo) (g n : ℕ) (boxes : List MapBox) → All (λ b. b.number ≢ n) boxes → All (λ b. b.number ≢ n) (changed_boxes k g boxes)
unnamed_each k g n [] none = none
unnamed_each k g n (b ∷ bs) none =
    All-cons (λ (c : MapBox). c.number ≢ n) (box_changed (entry.G k g) b) (changed_boxes k g bs) (one (k.0 == b.number)) (unnamed_each k g n bs (All-tail (λ (c : MapBox). c.number ≢ n) b bs none))
  where
    one : (t : Bool) → (if t then record b { generation = g } else b).number ≢ n
    one true = All-head (λ (c : MapBox). c.number ≢ n) b bs none
    one false = All-head (λ (c : MapBox). c.number ≢ n) b bs none

pub unnamed_then : (k : BoxNo) (g n : ℕ) (m : MapMeaning) → IsUnnamed n m → IsUnnamed n (map_applied (entry.G k g) m)
unnamed_then k g n m none = subst (λ (bs : List MapBox). All (λ (b : MapBox). b.number ≢ n) bs) (sym (boxes_by_generation k g m.boxes)) (unnamed_each k g n m.boxes none)

-- ---- the counts

pub covered_counted : (logs : List (List BoxEntry)) (rows : List MapRecord) (dues : List ℕ) → CoverDues logs rows dues → All (IsCounted logs) rows
covered_counted logs [] [] c = λ i d lt. absurd (omega (arith, lt))
covered_counted logs [] (n ∷ ns) c = absurd c
covered_counted logs (r ∷ rs) [] c = absurd c
covered_counted logs (r ∷ rs) (n ∷ ns) c = All-cons (IsCounted logs) r rs (let h = c.0 in omega (arith, h)) (covered_counted logs rs ns c.1)

passes_with : (a : Files) (m : MapMeaning) (k : BoxNo) (g : ℕ) (box : MapBox) (log : List BoxEntry) (boxes : List MapBox) (logs : List (List BoxEntry)) → HasBox a m.store (record box { generation = g }) log → All (HasItsRecord m) (rows_after log)
    → All (IsOnly (λ (c : MapBox). c.number == k.0) box) boxes → PassBoxes a m boxes logs → PassBoxes a m (changed_boxes k g boxes) (log_switched k.0 log boxes logs)
passes_with a m k g box log [] [] has records only p = tt
passes_with a m k g box log [] (l ∷ ls) has records only p = absurd p
passes_with a m k g box log (c ∷ cs) [] has records only p = absurd p
passes_with a m k g box log (c ∷ cs) (l ∷ ls) has records only p = (one (k.0 == c.number) refl, passes_with a m k g box log cs ls has records (All-tail (IsOnly (λ (d : MapBox). d.number == k.0) box) c cs only) p.1)
  where
    one : (t : Bool) → (k.0 == c.number) ≡ t → PassesBox a m (if t then record c { generation = g } else c) (if t then log else l)
    one true e =
        let is : c ≡ box = All-head (IsOnly (λ (d : MapBox). d.number == k.0) box) c cs only (eq-eqb c.number k.0 (sym (equal_is k.0 c.number e))) in
        record { log = subst (λ (d : MapBox). HasBox a m.store (record d { generation = g }) log) (sym is) has; records = records }
    one false e = p.0

-- With the log in the place of the other, messages are listed at most as often as the counts say.
pub refs_counted : (a : Files) (store : List ℕ) (entries : List MapEntry) (logs : List (List BoxEntry)) (lists : Lists) (k : BoxNo) (g : ℕ) (box : MapBox) (log : List BoxEntry) (messages : List ListedMessage) → IsSoundMap (map_meaning store entries)
    → PassBoxes a (map_meaning store entries) (map_meaning store entries).boxes logs → AreMailboxes a (map_meaning store entries) (map_meaning store entries).boxes lists → box_at (map_meaning store entries) k.0 ≡ Some box
    → HasBox a store (record box { generation = g }) log → All (HasItsRecord (map_meaning store entries)) (rows_after log) → AreListed a (map_meaning store entries) (rows_after log) messages
    → All (IsCounted (log_switched k.0 log (map_meaning store entries).boxes logs)) (map_meaning store entries).records
    → (guid : List ℕ) → refs_of (list_switched k.0 (next_after log) messages lists) guid ≤ count_of (map_meaning store entries) guid
refs_counted a store entries logs lists k g box log messages sound passes mailboxes found has records listed counts guid = by_record (record_of m guid) refl
  where
    m : MapMeaning
    m = map_meaning store entries

    later : Lists
    later = list_switched k.0 (next_after log) messages lists

    only : All (IsOnly (λ (c : MapBox). c.number == k.0) box) m.boxes
    only = only_box m k.0 box sound found

    change : Mailbox → Mailbox
    change x = record x { next_uid = next_after log; messages = messages }

    are : AreMailboxes a m (changed_boxes k g m.boxes) later
    are =
        subst (λ (xs : Lists). AreMailboxes a m (changed_boxes k g m.boxes) xs) (sym (switched_is k.0 (next_after log) messages lists))
        (mailboxes_switched a m k g change m.boxes lists
        (λ i d lt. λ is x h. record {
          entries = log;
          log = subst (λ (o : MapBox). HasBox a store (record o { generation = g }) log) (sym (only i d lt (eq-eqb (slice_index_or m.boxes i d).number k.0 is))) has;
          number = h.number;
          name = h.name;
          next = refl;
          messages = listed;
        }) mailboxes)

    by_record : (found : Option MapRecord) → record_of m guid ≡ found → refs_of later guid ≤ option_map_or (λ (row : MapRecord). row.count) (record_of m guid) 0
    by_record None none = let z = unlisted a m guid (changed_boxes k g m.boxes) later none are in omega (arith, z)
    by_record (Some row) is =
        let there = found_one (λ (r : MapRecord). bytes_eq r.guid guid) m.records row is in
        let same : row.guid ≡ guid = text_is row.guid guid there.1 in
        let listed_now : listed_of (log_switched k.0 log m.boxes logs) row.uid ≡ refs_of later row.guid = counted a m (changed_boxes k g m.boxes) (log_switched k.0 log m.boxes logs) later row sound there.0 (passed_by a m (changed_boxes k g m.boxes) (log_switched k.0 log m.boxes logs) later (passes_with a m k g box log m.boxes logs has records only passes) are) in
        let enough : listed_of (log_switched k.0 log m.boxes logs) row.uid ≤ row.count = All-contains (IsCounted (log_switched k.0 log m.boxes logs)) m.records row counts there.0 in
        let refs = ap (refs_of later) same in
        subst (λ (o : Option MapRecord). refs_of later guid ≤ option_map_or (λ (r : MapRecord). r.count) o 0) (sym is) (omega (arith, listed_now, enough, refs))
