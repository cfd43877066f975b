-- The open mailbox at a place, and another in its stead.
use Rattle.store_core.proofs.Common.{◌≡◌, ◌≢◌, ◌<◌, ◌≤◌, ℕ, zero, suc, Bool, cond, List, [], ◌∷◌, ◌++◌, map, length, slice_index_or, slice_set, Option, Some, None, All, refl, sym, ◌∙◌, ap, subst, arith, AllPairs, Contains, ne_eqb, eq-eqb, All-head, All-tail, All-cons, All-contains}
use Rattle.store_core.proofs.Common.{All-contains_itself, Files, History, SameButFor, reading, FileName, BoxEntry, BoxMeaning, rows_after, box_meaning, box_applied, MapBox, MapMeaning, box_text, head_of, HasBox, meaning_numbered, HasItsRecord, pairs_head, pairs_tail, logs_by, meanings_by, LogState}
use Rattle.store_core.proofs.Common.{Reads, IsSameBox, indexes_of, AreBoxLogs, ReadBoxLogs, OpenBox}
use Rattle.std.specs.List.{AllByRecursion}
use Rattle.disk_model.specs.declared.name.FileName.TheVariants as file
use Rattle.model_logs.specs.declared.log_head.LogKind.TheVariants as kind
use Rattle.model_store.specs.Opening.{AreBoxEntries, PassBoxes}

abbrev pub Rising : MapBox → MapBox → Type 0
Rising x y = x.number < y.number

-- the mailbox at a place, with the entries of its log
pub record Picked (history : Option History) (store : List ℕ) (mailboxes : List MapBox) (logs : List (List BoxEntry)) (b : OpenBox) : Type 0 where
  pub box : MapBox
  pub log : List BoxEntry
  pub there : Contains mailboxes box
  pub number : b.number.0 ≡ box.number
  pub name : b.log.name ≡ file.Box box.number box.generation
  pub head : b.log.head ≡ head_of store kind.Box box.number box.generation
  pub index : b.index.meaning ≡ box_meaning log
  pub found : meaning_numbered box.number mailboxes (map box_meaning logs) ≡ Some (box_meaning log)
  pub reads : Reads b.log (map box_text log) history
  pub records : (m : MapMeaning) → AllByRecursion (λ l. All (HasItsRecord m) (rows_after l)) logs → All (HasItsRecord m) (rows_after log)
  pub good : AllByRecursion AreBoxEntries logs → AreBoxEntries log
  pub has : (files : Files) (m : MapMeaning) → PassBoxes files m mailboxes logs → HasBox files m.store box log

further : {X : Type 0} → (y : X) (xs : List X) (x : X) → Contains xs x → Contains (y ∷ xs) x
further y xs x c = All-contains (Contains (y ∷ xs)) xs x (All-tail (Contains (y ∷ xs)) y xs (All-contains_itself (y ∷ xs))) c

first : {X : Type 0} → (y : X) (xs : List X) → Contains (y ∷ xs) y
first y xs = All-head (Contains (y ∷ xs)) y xs (All-contains_itself (y ∷ xs))

pub pick : (history : Option History) (store : List ℕ) (k : ℕ) (d : OpenBox) (mailboxes : List MapBox) (boxes : List OpenBox) (logs : List (List BoxEntry)) → k < length boxes → AllPairs Rising mailboxes → AreBoxLogs store mailboxes boxes
    → indexes_of boxes ≡ map box_meaning logs → ReadBoxLogs history boxes logs → Picked history store mailboxes logs (slice_index_or boxes k d)
pick history store k d [] [] logs below rising a i r = absurd (omega (arith, below))
pick history store k d [] (b ∷ bs) logs below rising a i r = absurd a
pick history store k d (m ∷ ms) [] logs below rising a i r = absurd a
pick history store k d (m ∷ ms) (b ∷ bs) [] below rising a i r = absurd r
pick history store zero d (m ∷ ms) (b ∷ bs) (log ∷ logs) below rising a i r =
    let same : b.index.meaning ∷ indexes_of bs ≡ box_meaning log ∷ map box_meaning logs = i in
    record {
      box = m;
      log = log;
      there = first m ms;
      number = a.0;
      name = a.1;
      head = a.2;
      index = cc same;
      found = ap (λ (t : Bool). cond t (Some (box_meaning log)) (meaning_numbered m.number ms (map box_meaning logs))) (eq-eqb m.number m.number refl);
      reads = r.0;
      records = λ n h. h.0;
      good = λ h. h.0;
      has = λ files n p. p.0.log;
    }
pick history store (suc k) d (m ∷ ms) (b ∷ bs) (log ∷ logs) below rising a i r =
    let same : b.index.meaning ∷ indexes_of bs ≡ box_meaning log ∷ map box_meaning logs = i in
    let rest : Picked history store ms logs (slice_index_or bs k d) = pick history store k d ms bs logs (omega (arith, below)) (pairs_tail Rising m ms rising) a.3 (cc same) r.1 in
    let less : m.number < rest.box.number = All-contains (Rising m) ms rest.box (pairs_head Rising m ms rising) rest.there in
    record {
      box = rest.box;
      log = rest.log;
      there = further m ms rest.box rest.there;
      number = rest.number;
      name = rest.name;
      head = rest.head;
      index = rest.index;
      found = ap (λ (t : Bool). cond t (Some (box_meaning log)) (meaning_numbered rest.box.number ms (map box_meaning logs))) (ne_eqb m.number rest.box.number (λ e. absurd (omega (arith, less, e)))) ∙ rest.found;
      reads = rest.reads;
      records = λ n h. rest.records n h.1;
      good = λ h. rest.good h.1;
      has = λ files n p. rest.has files n p.1;
    }

-- ---- another in its stead

pub box_logs_set : (store : List ℕ) (k : ℕ) (d x : OpenBox) (mailboxes : List MapBox) (boxes : List OpenBox) → AreBoxLogs store mailboxes boxes → k < length boxes → IsSameBox (slice_index_or boxes k d) x → AreBoxLogs store mailboxes (slice_set boxes k x)
box_logs_set store k d x [] [] a below s = absurd (omega (arith, below))
box_logs_set store k d x [] (b ∷ bs) a below s = absurd a
box_logs_set store k d x (m ∷ ms) [] a below s = absurd a
box_logs_set store zero d x (m ∷ ms) (b ∷ bs) a below s = (ap (λ (n : _). n.0) s.number ∙ a.0, s.name ∙ a.1, s.head ∙ a.2, a.3)
box_logs_set store (suc k) d x (m ∷ ms) (b ∷ bs) a below s = (a.0, a.1, a.2, box_logs_set store k d x ms bs a.3 (omega (arith, below)) s)

pub above_first : (store : List ℕ) (k : ℕ) (d : OpenBox) (m : MapBox) (ms : List MapBox) (bs : List OpenBox) → All (Rising m) ms → AreBoxLogs store ms bs → k < length bs → m.number < (slice_index_or bs k d).number.0
above_first store k d m [] [] above a below = absurd (omega (arith, below))
above_first store k d m [] (b ∷ bs) above a below = absurd a
above_first store k d m (n ∷ ns) [] above a below = absurd a
above_first store zero d m (n ∷ ns) (b ∷ bs) above a below = let h : m.number < n.number = All-head (Rising m) n ns above in let e = a.0 in omega (arith, h, e)
above_first store (suc k) d m (n ∷ ns) (b ∷ bs) above a below = above_first store k d m ns bs (All-tail (Rising m) n ns above) a.3 (omega (arith, below))

pub indexes_set : (store : List ℕ) (k : ℕ) (d x : OpenBox) (e : BoxEntry) (mailboxes : List MapBox) (boxes : List OpenBox) → AllPairs Rising mailboxes → AreBoxLogs store mailboxes boxes → k < length boxes
    → x.index.meaning ≡ box_applied e (slice_index_or boxes k d).index.meaning → indexes_of (slice_set boxes k x) ≡ meanings_by (slice_index_or boxes k d).number.0 e mailboxes (indexes_of boxes)
indexes_set store k d x e [] [] rising a below i = absurd (omega (arith, below))
indexes_set store k d x e [] (b ∷ bs) rising a below i = absurd a
indexes_set store k d x e (m ∷ ms) [] rising a below i = absurd a
indexes_set store zero d x e (m ∷ ms) (b ∷ bs) rising a below i =
    ap (λ (v : BoxMeaning). v ∷ indexes_of bs) i ∙ sym (ap (λ (t : Bool). cond t (box_applied e b.index.meaning ∷ indexes_of bs) (b.index.meaning ∷ meanings_by b.number.0 e ms (indexes_of bs))) (eq-eqb m.number b.number.0 (sym a.0)))
indexes_set store (suc k) d x e (m ∷ ms) (b ∷ bs) rising a below i =
    let less : m.number < (slice_index_or bs k d).number.0 = above_first store k d m ms bs (pairs_head Rising m ms rising) a.3 (omega (arith, below)) in
    ap (λ (vs : List BoxMeaning). b.index.meaning ∷ vs) (indexes_set store k d x e ms bs (pairs_tail Rising m ms rising) a.3 (omega (arith, below)) i)
    ∙ sym (ap (λ (t : Bool). cond t (box_applied e b.index.meaning ∷ indexes_of bs) (b.index.meaning ∷ meanings_by (slice_index_or bs k d).number.0 e ms (indexes_of bs))) (ne_eqb m.number (slice_index_or bs k d).number.0 (λ p. absurd (omega (arith, less, p)))))

pub indexes_kept : (k : ℕ) (d x : OpenBox) (boxes : List OpenBox) → x.index.meaning ≡ (slice_index_or boxes k d).index.meaning → indexes_of (slice_set boxes k x) ≡ indexes_of boxes
indexes_kept k d x [] i = refl
indexes_kept zero d x (b ∷ bs) i = ap (λ (v : BoxMeaning). v ∷ indexes_of bs) i
indexes_kept (suc k) d x (b ∷ bs) i = ap (λ (vs : List BoxMeaning). b.index.meaning ∷ vs) (indexes_kept k d x bs i)

-- ---- what is read

pub reads_other : (name : FileName) (log : LogState) (entries : List (List ℕ)) (old new : Option History) → SameButFor name old new → log.name ≢ name → Reads log entries old → Reads log entries new
reads_other name log entries None new same apart r = subst (λ (h : Option History). Reads log entries h) (sym same) tt
reads_other name log entries (Some old) None same apart r = absurd same
reads_other name log entries (Some old) (Some new) same apart r = record { file = ap reading (same log.name apart) ∙ r.file; end = r.end; count = r.count; head_fits = r.head_fits; entries_fit = r.entries_fit }

apart_boxes : (k g l h : ℕ) → k ≢ l → file.Box k g ≢ file.Box l h
apart_boxes k g l h apart e = apart (let p : file.Box k g ≡ file.Box l h = e in cc p)

reads_later : (store : List ℕ) (n g : ℕ) (mailboxes : List MapBox) (boxes : List OpenBox) (logs : List (List BoxEntry)) (old new : Option History) → All (λ (m : MapBox). n < m.number) mailboxes → AreBoxLogs store mailboxes boxes
    → SameButFor (file.Box n g) old new → ReadBoxLogs old boxes logs → ReadBoxLogs new boxes logs
reads_later store n g [] [] [] old new above a same r = tt
reads_later store n g [] [] (l ∷ ls) old new above a same r = absurd r
reads_later store n g [] (b ∷ bs) logs old new above a same r = absurd a
reads_later store n g (m ∷ ms) [] logs old new above a same r = absurd a
reads_later store n g (m ∷ ms) (b ∷ bs) [] old new above a same r = absurd r
reads_later store n g (m ∷ ms) (b ∷ bs) (l ∷ ls) old new above a same r =
    let less : n < m.number = All-head (λ (o : MapBox). n < o.number) m ms above in (
      reads_other (file.Box n g) b.log (map box_text l) old new same (λ p. apart_boxes m.number m.generation n g (λ e. absurd (omega (arith, less, e))) (sym a.1 ∙ p)) r.0,
      reads_later store n g ms bs ls old new (All-tail (λ (o : MapBox). n < o.number) m ms above) a.3 same r.1,
    )

pub reads_set : (store : List ℕ) (k : ℕ) (d x : OpenBox) (e : BoxEntry) (g : ℕ) (mailboxes : List MapBox) (boxes : List OpenBox) (logs : List (List BoxEntry)) (old new : Option History) → AllPairs Rising mailboxes → AreBoxLogs store mailboxes boxes → k < length boxes
    → SameButFor (file.Box (slice_index_or boxes k d).number.0 g) old new → ((log : List BoxEntry) → Reads (slice_index_or boxes k d).log (map box_text log) old → Reads x.log (map box_text (log ++ e ∷ [])) new)
    → ReadBoxLogs old boxes logs → ReadBoxLogs new (slice_set boxes k x) (logs_by (slice_index_or boxes k d).number.0 e mailboxes logs)
reads_set store k d x e g [] [] logs old new rising a below same more r = absurd (omega (arith, below))
reads_set store k d x e g [] (b ∷ bs) logs old new rising a below same more r = absurd a
reads_set store k d x e g (m ∷ ms) [] logs old new rising a below same more r = absurd a
reads_set store k d x e g (m ∷ ms) (b ∷ bs) [] old new rising a below same more r = absurd r
reads_set store zero d x e g (m ∷ ms) (b ∷ bs) (l ∷ ls) old new rising a below same more r =
    subst (λ (t : Bool). ReadBoxLogs new (x ∷ bs) (cond t ((l ++ e ∷ []) ∷ ls) (l ∷ logs_by b.number.0 e ms ls))) (sym (eq-eqb m.number b.number.0 (sym a.0)))
    (more l r.0, reads_later store b.number.0 g ms bs ls old new (subst (λ (n : ℕ). All (λ (o : MapBox). n < o.number) ms) (sym a.0) (pairs_head Rising m ms rising)) a.3 same r.1)
reads_set store (suc k) d x e g (m ∷ ms) (b ∷ bs) (l ∷ ls) old new rising a below same more r =
    let less : m.number < (slice_index_or bs k d).number.0 = above_first store k d m ms bs (pairs_head Rising m ms rising) a.3 (omega (arith, below)) in
    subst (λ (t : Bool). ReadBoxLogs new (b ∷ slice_set bs k x) (cond t ((l ++ e ∷ []) ∷ ls) (l ∷ logs_by (slice_index_or bs k d).number.0 e ms ls))) (sym (ne_eqb m.number (slice_index_or bs k d).number.0 (λ p. absurd (omega (arith, less, p))))) (
      reads_other (file.Box (slice_index_or bs k d).number.0 g) b.log (map box_text l) old new same (λ p. apart_boxes m.number m.generation (slice_index_or bs k d).number.0 g (λ q. absurd (omega (arith, less, q))) (sym a.1 ∙ p)) r.0,
      reads_set store k d x e g ms bs ls old new (pairs_tail Rising m ms rising) a.3 (omega (arith, below)) same more r.1,
    )

-- ---- room

pub rooms_set : (n k : ℕ) (d x : OpenBox) (boxes : List OpenBox) → k < length boxes → All (λ (b : OpenBox). n ≤ b.log.room) boxes → (slice_index_or boxes k d).log.room ≤ x.log.room → All (λ (b : OpenBox). n ≤ b.log.room) (slice_set boxes k x)
rooms_set n k d x [] below all more = absurd (omega (arith, below))
rooms_set n zero d x (b ∷ bs) below all more =
    let h : n ≤ b.log.room = All-head (λ (o : OpenBox). n ≤ o.log.room) b bs all in
    All-cons (λ (o : OpenBox). n ≤ o.log.room) x bs (omega (arith, h, more)) (All-tail (λ (o : OpenBox). n ≤ o.log.room) b bs all)
rooms_set n (suc k) d x (b ∷ bs) below all more =
    All-cons (λ (o : OpenBox). n ≤ o.log.room) b (slice_set bs k x) (All-head (λ (o : OpenBox). n ≤ o.log.room) b bs all) (rooms_set n k d x bs (omega (arith, below)) (All-tail (λ (o : OpenBox). n ≤ o.log.room) b bs all) more)

pub room_at : (n k : ℕ) (d : OpenBox) (boxes : List OpenBox) → k < length boxes → All (λ (b : OpenBox). n ≤ b.log.room) boxes → n ≤ (slice_index_or boxes k d).log.room
room_at n k d [] below all = absurd (omega (arith, below))
room_at n zero d (b ∷ bs) below all = All-head (λ (o : OpenBox). n ≤ o.log.room) b bs all
room_at n (suc k) d (b ∷ bs) below all = room_at n k d bs (omega (arith, below)) (All-tail (λ (o : OpenBox). n ≤ o.log.room) b bs all)
