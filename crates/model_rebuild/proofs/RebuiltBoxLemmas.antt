-- The logs of a rebuilt store's mailboxes, and what they list.
use Rattle.std.specs.Prelude.{◌≡◌, ◌≤◌, ◌<◌, ◌+◌, ◌^◌, ◌==◌, max, ℕ, Bool, true, false, cond, List, [], ◌∷◌, ◌++◌, length, map, filter, find, count_by, refl, Some, All}
use Rattle.std.specs.List.{AllByRecursion}
use Rattle.std.specs.Str.{bytes_eq}
use Rattle.std.proofs.Common.{sym, ◌∙◌, ap, subst, arith, append_assoc, append-nil, length-append}
use Rattle.std.proofs.lemmas.Bool.{eq-eqb, ne_eqb}
use Rattle.std.proofs.lemmas.List.{length-map}
use Rattle.std.proofs.lemmas.List.Sums.{sum_by-cons}
use Rattle.std.proofs.lemmas.List.Elements.{All-nil, All-cons, All-head, All-tail, All-weaker, All-filter}
use Rattle.disk_model.specs.Disk.{Files}
use Rattle.disk_model.specs.declared.name.FileName.TheVariants as file
use Rattle.mdbox_base.specs.declared.entries.BoxEntry.{BoxEntry}
use Rattle.mdbox_base.specs.declared.entries.BoxEntry.TheVariants as box
use Rattle.mdbox_base.specs.declared.entries.InstRow.{InstRow}
use Rattle.model_logs.specs.Entries.{BoxInRange}
use Rattle.model_meaning.specs.BoxMeaning.{LogRow, BoxMeaning, AllBoxFit, rows_after, next_after}
use Rattle.model_meaning.specs.MapMeaning.{MapRecord, MapMeaning, record_at}
use Rattle.model_meaning.proofs.AppliedLemmas.{rows_by_added}
use Rattle.model_meaning.proofs.BoxLemmas.{box_more}
use Rattle.mdbox_base.proofs.KeywordLemmas.{no_words}
use Rattle.model_store.specs.Stands.{HasInstances, StoresMessage, AreListed, HasBox, IsMailbox, AreMailboxes}
use Rattle.model_rebuild.proofs.MapFitLemmas.{boxes_from, records_from}
use Rattle.model_rebuild.specs.RebuiltLists.{listed_from, sent_to, rebuilt_mailbox, mailboxes_from}
use Rattle.model_rebuild.specs.RebuiltLogs.{MappedMessage, mapped_from, added_from, rebuilt_box, HasRebuiltBoxes, HasSameMessage}
use Rattle.model_taken.proofs.GoodListLemmas.{IsStored, IsGoodList}
use Rattle.model_taken.proofs.RangeLemmas.{TakenInRange}
use Rattle.model_taken.specs.Taken.{TakenMessage, record_for}

abbrev one_if : Bool → ℕ
one_if b = cond b 1 0

-- ---- rows

abbrev pub row_for : ℕ → MappedMessage → LogRow
row_for uid t = record { uid = uid; flags = 0; time = t.message.time; size = length t.message.octets; map_uid = t.uid; guid = t.message.guid; words = [] }

abbrev pub rows_from : ℕ → List MappedMessage → List LogRow
rows_from uid [] = []
rows_from uid (t ∷ rest) = row_for uid t ∷ rows_from (uid + 1) rest

-- a message that can be added
pub record CanBeAdded (t : MappedMessage) : Type 0 where
  pub uid : t.uid < 2 ^ 32
  pub short : length t.message.octets ≤ 67108864
  pub time : t.message.time < 2 ^ 64
  pub guid : length t.message.guid ≡ 16

pub record AddedAfter (before : List BoxEntry) (uid : ℕ) (ts : List MappedMessage) (rows : List LogRow) : Type 0 where
  pub fit : AllBoxFit before (added_from uid ts)
  pub in_range : AllByRecursion BoxInRange (added_from uid ts)
  pub rows_are : rows_after (before ++ added_from uid ts) ≡ rows ++ rows_from uid ts
  pub next_is : next_after (before ++ added_from uid ts) ≡ uid + length ts

rows_same : (entries other : List BoxEntry) (rows later : List LogRow) → entries ≡ other → rows ≡ later → rows_after entries ≡ rows → rows_after other ≡ later
rows_same entries other rows later e r h = sym (ap rows_after e) ∙ (h ∙ r)

pub added_after : (before : List BoxEntry) (uid : ℕ) (ts : List MappedMessage) (rows : List LogRow) → rows_after before ≡ rows → next_after before ≡ uid → All CanBeAdded ts → length rows + length ts ≤ 1000000 → uid + length ts ≤ 1000001 → AddedAfter before uid ts rows
added_after before uid [] rows r n h room l = record {
  fit = tt;
  in_range = tt;
  rows_are = ap rows_after (append-nil before) ∙ (r ∙ sym (append-nil rows));
  next_is = ap next_after (append-nil before) ∙ (n ∙ (omega arith));
}
added_after before uid (t ∷ ts) rows r n h room l =
    let e : BoxEntry = box.A (record { 0 = uid }) 0 t.message.time (length t.message.octets) (record { 0 = t.uid }) (record { 0 = t.message.guid }) [] in
    let m = box_more before e in
    let can = All-head CanBeAdded t ts h in
    let rows_then : rows_after (before ++ e ∷ []) ≡ rows ++ row_for uid t ∷ [] =
    ap (λ (x : BoxMeaning). x.rows) m ∙ (rows_by_added (record { 0 = uid }) 0 t.message.time (length t.message.octets) (record { 0 = t.uid }) (record { 0 = t.message.guid }) [] (rows_after before) ∙ ap (λ (rs : List LogRow). rs ++ row_for uid t ∷ []) r) in
    let next_then : next_after (before ++ e ∷ []) ≡ uid + 1 = (let k : next_after (before ++ e ∷ []) ≡ max (next_after before) (uid + 1) = ap (λ (x : BoxMeaning). x.next) m in omega (arith, k, n)) in
    let one = length-append rows (row_for uid t ∷ []) in
    let many = ap (λ (rs : List LogRow). length rs) r in
    let c = can.uid in
    let s = can.short in
    let rest = added_after (before ++ e ∷ []) (uid + 1) ts (rows ++ row_for uid t ∷ []) rows_then next_then (All-tail CanBeAdded t ts h) (omega (arith, one, room)) (omega (arith, l)) in
    let joined = append_assoc before (e ∷ []) (added_from (uid + 1) ts) in
    record {
      fit = ((omega (arith, n), omega (arith, l), omega arith, s, omega (arith, many, room), no_words), rest.fit);
      in_range = ((omega (arith, l), omega arith, can.time, omega (arith, s), c, can.guid, (omega arith, tt)), rest.in_range);
      rows_are = sym (ap rows_after joined) ∙ (rest.rows_are ∙ append_assoc rows (row_for uid t ∷ []) (rows_from (uid + 1) ts));
      next_is = sym (ap next_after joined) ∙ (rest.next_is ∙ (omega arith));
    }

-- ---- messages with their map uids

-- the map has its record, which stores it
pub record IsMapped (image : Files) (m : MapMeaning) (t : MappedMessage) : Type 0 where
  pub found : record_at m t.uid ≡ Some (record_for t.uid t.message)
  pub stores : StoresMessage image (record_for t.uid t.message) t.message.octets

abbrev to_mailbox : List ℕ → MappedMessage → Bool
to_mailbox name t = bytes_eq t.message.mailbox name

-- the messages of a mailbox, with their map uids or without
pub sent_same : (uid : ℕ) (name : List ℕ) (taken : List TakenMessage) → map (λ (t : MappedMessage). t.message) (filter (to_mailbox name) (mapped_from uid taken)) ≡ sent_to name taken
sent_same uid name [] = refl
sent_same uid name (t ∷ taken) = by_test (bytes_eq t.mailbox name) (sent_same (uid + 1) name taken)
  where
    by_test : (b : Bool) → map (λ (x : MappedMessage). x.message) (filter (to_mailbox name) (mapped_from (uid + 1) taken)) ≡ sent_to name taken
        → map (λ (x : MappedMessage). x.message) (cond b (record { uid = uid; message = t } ∷ filter (to_mailbox name) (mapped_from (uid + 1) taken)) (filter (to_mailbox name) (mapped_from (uid + 1) taken))) ≡ cond b (t ∷ sent_to name taken) (sent_to name taken)
    by_test true rest = ap (λ (ts : List TakenMessage). t ∷ ts) rest
    by_test false rest = rest

all_mapped : (P : TakenMessage → Type 0) (Q : MappedMessage → Type 0) (uid : ℕ) (taken : List TakenMessage) → ((n : ℕ) (t : TakenMessage) → uid ≤ n → n < uid + length taken → P t → Q (record { uid = n; message = t })) → All P taken → All Q (mapped_from uid taken)
all_mapped P Q uid [] f h = All-nil Q
all_mapped P Q uid (t ∷ taken) f h =
    All-cons Q (record { uid = uid; message = t }) (mapped_from (uid + 1) taken) (f uid t (omega arith) (omega arith) (All-head P t taken h))
    (all_mapped P Q (uid + 1) taken (λ n u a b p. f n u (omega (arith, a)) (omega (arith, b)) p) (All-tail P t taken h))

-- the record of a message is found by its map uid
abbrev FoundIn : List MapRecord → MappedMessage → Type 0
FoundIn rows t = find (λ (row : MapRecord). row.uid == t.uid) rows ≡ Some (record_for t.uid t.message)

found_later : (row : MapRecord) (rows : List MapRecord) (t : MappedMessage) → row.uid < t.uid → FoundIn rows t → FoundIn (row ∷ rows) t
found_later row rows t l h = ap (λ (b : Bool). cond b (Some row) (find (λ (r : MapRecord). r.uid == t.uid) rows)) (ne_eqb row.uid t.uid (λ e. omega (arith, l, e))) ∙ h

all_later : (row : MapRecord) (rows : List MapRecord) (ts : List MappedMessage) → All (λ t. row.uid < t.uid) ts → All (FoundIn rows) ts → All (FoundIn (row ∷ rows)) ts
all_later row rows [] l h = All-nil (FoundIn (row ∷ rows))
all_later row rows (t ∷ ts) l h = All-cons (FoundIn (row ∷ rows)) t ts (found_later row rows t (All-head (λ (x : MappedMessage). row.uid < x.uid) t ts l) (All-head (FoundIn rows) t ts h)) (all_later row rows ts (All-tail (λ (x : MappedMessage). row.uid < x.uid) t ts l) (All-tail (FoundIn rows) t ts h))

any_message : (taken : List TakenMessage) → All (λ (t : TakenMessage). t ≡ t) taken
any_message [] = All-nil (λ (t : TakenMessage). t ≡ t)
any_message (t ∷ taken) = All-cons (λ (x : TakenMessage). x ≡ x) t taken refl (any_message taken)

found_mapped : (uid : ℕ) (taken : List TakenMessage) → All (FoundIn (records_from uid taken)) (mapped_from uid taken)
found_mapped uid [] = All-nil (FoundIn [])
found_mapped uid (t ∷ taken) =
    All-cons (FoundIn (records_from uid (t ∷ taken))) (record { uid = uid; message = t }) (mapped_from (uid + 1) taken)
    (ap (λ (b : Bool). cond b (Some (record_for uid t)) (find (λ (row : MapRecord). row.uid == uid) (records_from (uid + 1) taken))) (eq-eqb uid uid refl))
    (all_later (record_for uid t) (records_from (uid + 1) taken) (mapped_from (uid + 1) taken)
    (all_mapped (λ (x : TakenMessage). x ≡ x) (λ (x : MappedMessage). uid < x.uid) (uid + 1) taken (λ n x a b p. omega (arith, a)) (any_message taken)) (found_mapped (uid + 1) taken))

-- ---- what the image stores

has_instances : (files image : Files) (rows : List InstRow) (octets : List (List ℕ)) → All (λ i. image (file.Inst i.hash.0 i.id.0) ≡ files (file.Inst i.hash.0 i.id.0)) rows → HasInstances files rows octets → HasInstances image rows octets
has_instances files image [] [] s h = tt
has_instances files image [] (o ∷ octets) s h = absurd h
has_instances files image (row ∷ rows) [] s h = absurd h
has_instances files image (row ∷ rows) (o ∷ octets) s h =
    (All-head (λ (i : InstRow). image (file.Inst i.hash.0 i.id.0) ≡ files (file.Inst i.hash.0 i.id.0)) row rows s ∙ h.0, has_instances files image rows octets (All-tail (λ (i : InstRow). image (file.Inst i.hash.0 i.id.0) ≡ files (file.Inst i.hash.0 i.id.0)) row rows s) h.1)

pub stores_too : (files image : Files) (uid : ℕ) (t : TakenMessage) → HasSameMessage files image t → StoresMessage files (record_for uid t) t.octets → StoresMessage image (record_for uid t) t.octets
stores_too files image uid t same kept = record {
  stored = record {
    octets_there = kept.stored.octets_there;
    message = kept.stored.message;
    meta = kept.stored.meta;
    there = same.storage ∙ kept.stored.there;
    inside = kept.stored.inside;
    region = kept.stored.region;
    says = kept.stored.says;
    guid = kept.stored.guid;
  };
  instances = kept.instances;
  names = kept.names;
  found = has_instances files image t.instances kept.instances same.instances kept.found;
  whole = kept.whole;
  size = kept.size;
}

-- ---- a mailbox

pub listed_all : (image : Files) (m : MapMeaning) (uid : ℕ) (ts : List MappedMessage) → All (IsMapped image m) ts → AreListed image m (rows_from uid ts) (listed_from uid (map (λ (t : MappedMessage). t.message) ts))
listed_all image m uid [] h = tt
listed_all image m uid (t ∷ ts) h =
    let a = All-head (IsMapped image m) t ts h in
    (record { uid = refl; flags = refl; time = refl; guid = refl; size = refl; entry = record_for t.uid t.message; found = a.found; same = refl; octets = a.stores; words = refl }, listed_all image m (uid + 1) ts (All-tail (IsMapped image m) t ts h))

-- what is known of every mapped message
pub record AllMapped (files image : Files) (m : MapMeaning) (taken : List TakenMessage) : Type 0 where
  pub mapped : All (IsMapped image m) (mapped_from 1 taken)
  pub can : All CanBeAdded (mapped_from 1 taken)

both_of : {X : Type 0} → (P Q : X → Type 0) (xs : List X) → All P xs → All Q xs → All (λ x. P x × Q x) xs
both_of P Q [] p q = All-nil (λ x. P x × Q x)
both_of P Q (x ∷ xs) p q = All-cons (λ y. P y × Q y) x xs (All-head P x xs p, All-head Q x xs q) (both_of P Q xs (All-tail P x xs p) (All-tail Q x xs q))

pub all_are_mapped : (files image : Files) (m : MapMeaning) (taken : List TakenMessage) → m.records ≡ records_from 1 taken → IsGoodList files taken → All TakenInRange taken → All (HasSameMessage files image) taken → AllMapped files image m taken
all_are_mapped files image m taken records good in_range same = record {
  mapped =
      let found = subst (λ (rows : List MapRecord). All (FoundIn rows) (mapped_from 1 taken)) (sym records) (found_mapped 1 taken) in
      let stores = all_mapped (λ (t : TakenMessage). IsStored files t × HasSameMessage files image t) (λ (x : MappedMessage). StoresMessage image (record_for x.uid x.message) x.message.octets) 1 taken
      (λ n t a b p. stores_too files image n t p.1 (p.0.stores n)) (both_of (IsStored files) (HasSameMessage files image) taken good.stored same) in
      All-weaker (λ (x : MappedMessage). FoundIn m.records x × StoresMessage image (record_for x.uid x.message) x.message.octets) (IsMapped image m) (λ x p. record { found = p.0; stores = p.1 }) (mapped_from 1 taken)
      (both_of (FoundIn m.records) (λ (x : MappedMessage). StoresMessage image (record_for x.uid x.message) x.message.octets) (mapped_from 1 taken) found stores);
  can =
      let few = good.few in
      all_mapped (λ (t : TakenMessage). IsStored files t × TakenInRange t) CanBeAdded 1 taken (λ n t a b p. record { uid = omega (arith, b, few); short = p.0.short; time = p.1.time; guid = p.1.guid }) (both_of (IsStored files) TakenInRange taken good.stored in_range);
}

sent_length : (name : List ℕ) (taken : List TakenMessage) → length (filter (to_mailbox name) (mapped_from 1 taken)) ≡ length (sent_to name taken)
sent_length name taken = sym (length-map (filter (to_mailbox name) (mapped_from 1 taken)) (λ (t : MappedMessage). t.message)) ∙ ap (λ (ts : List TakenMessage). length ts) (sent_same 1 name taken)

sent_counted : (name : List ℕ) (taken : List TakenMessage) → length (sent_to name taken) ≡ count_by (λ t. bytes_eq t.mailbox name) taken
sent_counted name [] = refl
sent_counted name (t ∷ taken) = by_test (bytes_eq t.mailbox name) (sent_counted name taken) (sum_by-cons (λ (x : TakenMessage). cond (bytes_eq x.mailbox name) 1 0) t taken) refl
  where
    by_test : (b : Bool) → length (sent_to name taken) ≡ count_by (λ x. bytes_eq x.mailbox name) taken → count_by (λ x. bytes_eq x.mailbox name) (t ∷ taken) ≡ cond (bytes_eq t.mailbox name) 1 0 + count_by (λ x. bytes_eq x.mailbox name) taken → bytes_eq t.mailbox name ≡ b
        → length (cond b (t ∷ sent_to name taken) (sent_to name taken)) ≡ count_by (λ x. bytes_eq x.mailbox name) (t ∷ taken)
    by_test true rest all e = let z : cond (bytes_eq t.mailbox name) 1 0 ≡ 1 = ap one_if e in omega (arith, rest, all, z)
    by_test false rest all e = let z : cond (bytes_eq t.mailbox name) 1 0 ≡ 0 = ap one_if e in omega (arith, rest, all, z)

pub mailbox_rebuilt : (files image : Files) (m : MapMeaning) (number generation : ℕ) (name : List ℕ) (taken : List TakenMessage) → IsGoodList files taken → AllMapped files image m taken
    → ((fit : AllBoxFit [] (rebuilt_box name taken)) → AllByRecursion BoxInRange (rebuilt_box name taken) → HasBox image m.store (record { number = number; generation = generation; name = name }) (rebuilt_box name taken))
    → IsMailbox image m (record { number = number; generation = generation; name = name }) (rebuilt_mailbox number name (sent_to name taken))
mailbox_rebuilt files image m number generation name taken good mapped log =
    let ts = filter (to_mailbox name) (mapped_from 1 taken) in
    let many = sent_length name taken in
    let counted = sent_counted name taken in
    let room = good.room name in
    let after = added_after [] 1 ts [] refl refl (All-filter (to_mailbox name) CanBeAdded (mapped_from 1 taken) mapped.can) (omega (arith, many, counted, room)) (omega (arith, many, counted, room)) in
    record {
      entries = rebuilt_box name taken;
      log = log after.fit after.in_range;
      number = refl;
      name = refl;
      next = (let n = after.next_is in let e : length (sent_to name taken) + 1 ≡ 1 + length ts = omega (arith, many) in e ∙ sym n);
      messages = subst (λ (rows : List LogRow). AreListed image m rows (listed_from 1 (sent_to name taken))) (sym after.rows_are)
          (subst (λ (us : List TakenMessage). AreListed image m (rows_from 1 ts) (listed_from 1 us)) (sent_same 1 name taken) (listed_all image m 1 ts (All-filter (to_mailbox name) (IsMapped image m) (mapped_from 1 taken) mapped.mapped)));
    }

pub mailboxes_rebuilt : (files image : Files) (m : MapMeaning) (number generation : ℕ) (names : List (List ℕ)) (taken : List TakenMessage) → IsGoodList files taken → AllMapped files image m taken → HasRebuiltBoxes image m.store number generation names taken
    → AreMailboxes image m (boxes_from number generation names) (mailboxes_from number names taken)
mailboxes_rebuilt files image m number generation [] taken good mapped logs = tt
mailboxes_rebuilt files image m number generation (name ∷ names) taken good mapped logs =
    (mailbox_rebuilt files image m number generation name taken good mapped (λ fit in_range. record { log = logs.0; in_range = in_range; fit = fit }), mailboxes_rebuilt files image m (number + 1) generation names taken good mapped logs.1)
