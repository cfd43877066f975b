-- One entry more in the log of a mailbox.
use Rattle.model_appends.proofs.Common.{◌≡◌, ◌≢◌, ◌<◌, ◌==◌, ℕ, true, false, not, cond, Bool, if◌then◌else◌, List, [], ◌∷◌, ◌++◌, map, filter, Option, All, AllPairs, Contains, refl, sym, ◌∙◌, subst, ap, arith, inl, inr, false≢true, All-head, All-tail, All-weaker, All-contains, Files, FileName}
use Rattle.model_appends.proofs.Common.{InstRow, MapEntry, BoxEntry, ListedMessage, Mailbox, Lists, rows_by, one_more, LogRow, row_made, row_rules, rows_after, box_meaning, BoxFits, MapBox, MapMeaning, map_meaning, box_text, BoxInRange, each_more, pairs_head, pairs_tail, equal_is, equal_yes}
use Rattle.model_appends.proofs.Common.{IsSoundMap, map_sound, HasBox, AreListed, IsMailbox, AreMailboxes, NamesOwn, NamesAny, StoredOnce, KeepsDetached, StandsBy, CarryOver, SameBut, HasOneMore, CarryMore, message_made, lists_by}
use Rattle.std.specs.Prelude.{max}
use Rattle.disk_model.specs.declared.name.FileName.TheVariants as file
use Rattle.mdbox_base.specs.declared.entries.BoxEntry.TheVariants as entry
use Rattle.model_meaning.specs.BoxMeaning.{row_removed, row_changed, next_after, next_named}
use Rattle.model_meaning.proofs.BoxLemmas.{next_more}
use Rattle.model_logs.proofs.EntryLemmas.{box_one}
use Rattle.model_meaning.proofs.FitLemmas.{box_fit_more}
use Rattle.model_octets.proofs.SearchLemmas.{among}
use Rattle.model_logs.specs.declared.log_head.LogKind.TheVariants as kind
use Rattle.model_store.specs.Stands.{head_of, HasMap, IsListed}
use Rattle.model_store.proofs.StandsLemmas.{log_same}
use Rattle.model_store.proofs.SettledLemmas.{all_listed_along, stands_carried}
use Rattle.model_appends.specs.Appending.{message_removed, message_changed, message_rules, mailbox_by}
use Rattle.model_appends.proofs.AppendFileLemmas.{message_as, log_more, log_as, mixed, mixed-here, same_but_mixed, carry_mixed, box_itself, SameStored, box_stored, stored_back, count_itself, kept_as}

-- ---- rows and messages

listed_as : (a b : Files) (m : MapMeaning) (row : LogRow) (x : ListedMessage) → SameStored a b → IsListed a m row x → IsListed b m row x
listed_as a b m row x s h = record {
  uid = h.uid;
  flags = h.flags;
  time = h.time;
  guid = h.guid;
  size = h.size;
  entry = h.entry;
  found = h.found;
  same = h.same;
  octets = kept_as a b h.entry h.entry x.octets s (count_itself h.entry) h.octets;
  words = h.words;
}

all_listed_as : (a b : Files) (m : MapMeaning) (rows : List LogRow) (xs : List ListedMessage) → SameStored a b → AreListed a m rows xs → AreListed b m rows xs
all_listed_as a b m [] [] s h = tt
all_listed_as a b m [] (x ∷ xs) s h = absurd h
all_listed_as a b m (row ∷ rows) [] s h = absurd h
all_listed_as a b m (row ∷ rows) (x ∷ xs) s h = (listed_as a b m row x s h.0, all_listed_as a b m rows xs s h.1)

listed_append : (image : Files) (m : MapMeaning) (rows more : List LogRow) (xs ys : List ListedMessage) → AreListed image m rows xs → AreListed image m more ys → AreListed image m (rows ++ more) (xs ++ ys)
listed_append image m [] more [] ys h k = k
listed_append image m [] more (x ∷ xs) ys h k = absurd h
listed_append image m (row ∷ rows) more [] ys h k = absurd h
listed_append image m (row ∷ rows) more (x ∷ xs) ys h k = (h.0, listed_append image m rows more xs ys h.1 k)

-- an entry removes a row where it removes its message
removed_alike : (image : Files) (m : MapMeaning) (e : BoxEntry) (row : LogRow) (x : ListedMessage) → IsListed image m row x → message_removed e x ≡ row_removed e row
removed_alike image m (entry.N n) row x h = refl
removed_alike image m (entry.A u f t z k g ws) row x h = refl
removed_alike image m (entry.F u f) row x h = refl
removed_alike image m (entry.K u ws) row x h = refl
removed_alike image m (entry.R u) row x h = ap (λ (n : ℕ). u.0 == n) h.uid

-- and changes it alike
either_alike : (image : Files) (m : MapMeaning) (t : Bool) (row other : LogRow) (x y : ListedMessage) → IsListed image m row x → IsListed image m other y → IsListed image m (if t then other else row) (if t then y else x)
either_alike image m true row other x y h k = k
either_alike image m false row other x y h k = h

flagged_alike : (image : Files) (m : MapMeaning) (flags : ℕ) (row : LogRow) (x : ListedMessage) → IsListed image m row x → IsListed image m (record row { flags = flags }) (record x { flags = flags })
flagged_alike image m flags row x h = record { uid = h.uid; flags = refl; time = h.time; guid = h.guid; size = h.size; entry = h.entry; found = h.found; same = h.same; octets = h.octets; words = h.words }

worded_alike : (image : Files) (m : MapMeaning) (words : List (List ℕ)) (row : LogRow) (x : ListedMessage) → IsListed image m row x → IsListed image m (record row { words = words }) (record x { words = words })
worded_alike image m words row x h = record { uid = h.uid; flags = h.flags; time = h.time; guid = h.guid; size = h.size; entry = h.entry; found = h.found; same = h.same; octets = h.octets; words = refl }

changed_alike : (image : Files) (m : MapMeaning) (e : BoxEntry) (row : LogRow) (x : ListedMessage) → IsListed image m row x → IsListed image m (row_changed e row) (message_changed e x)
changed_alike image m (entry.N n) row x h = h
changed_alike image m (entry.A u f t z k g ws) row x h = h
changed_alike image m (entry.F u f) row x h =
    subst (λ (t : Bool). IsListed image m (row_changed (entry.F u f) row) (if t then record x { flags = f } else x)) (ap (λ (n : ℕ). u.0 == n) (sym h.uid))
    (either_alike image m (u.0 == row.uid) row (record row { flags = f }) x (record x { flags = f }) h (flagged_alike image m f row x h))
changed_alike image m (entry.K u ws) row x h =
    subst (λ (t : Bool). IsListed image m (row_changed (entry.K u ws) row) (if t then record x { words = ws } else x)) (ap (λ (n : ℕ). u.0 == n) (sym h.uid))
    (either_alike image m (u.0 == row.uid) row (record row { words = ws }) x (record x { words = ws }) h (worded_alike image m ws row x h))
changed_alike image m (entry.R u) row x h = h

kept_rows : BoxEntry → List LogRow → List LogRow
kept_rows e rows = map (row_changed e) (filter (λ row. not (row_removed e row)) rows)

kept_messages : BoxEntry → List ListedMessage → List ListedMessage
kept_messages e xs = map (message_changed e) (filter (λ x. not (message_removed e x)) xs)

kept_alike : (image : Files) (m : MapMeaning) (e : BoxEntry) (rows : List LogRow) (xs : List ListedMessage) → AreListed image m rows xs → AreListed image m (kept_rows e rows) (kept_messages e xs)
unfolding kept_rows kept_messages
kept_alike image m e [] [] h = tt
kept_alike image m e [] (x ∷ xs) h = absurd h
kept_alike image m e (row ∷ rows) [] h = absurd h
kept_alike image m e (row ∷ rows) (x ∷ xs) h = by_test (row_removed e row) (message_removed e x) (removed_alike image m e row x h.0) (kept_alike image m e rows xs h.1)
  where
    by_test : (t u : Bool) → u ≡ t → AreListed image m (kept_rows e rows) (kept_messages e xs) → AreListed image m (map (row_changed e) (cond (not t) (row ∷ filter (λ row. not (row_removed e row)) rows) (filter (λ row. not (row_removed e row)) rows)))
        (map (message_changed e) (cond (not u) (x ∷ filter (λ x. not (message_removed e x)) xs) (filter (λ x. not (message_removed e x)) xs)))
    by_test true true s rest = rest
    by_test false false s rest = (changed_alike image m e row x h.0, rest)
    by_test true false s rest = absurd (cc s)
    by_test false true s rest = absurd (cc s)

-- one entry more of the log, whose message is listed where it adds one
pub listed_by : (image : Files) (m : MapMeaning) (octets : List ℕ) (e : BoxEntry) (rows : List LogRow) (xs : List ListedMessage) → AreListed image m rows xs → AreListed image m (row_made e) (message_made octets e)
    → AreListed image m (rows_by row_rules e rows) (rows_by (message_rules octets) e xs)
unfolding kept_rows kept_messages
listed_by image m octets e rows xs h made = listed_append image m (kept_rows e rows) (row_made e) (kept_messages e xs) (message_made octets e) (kept_alike image m e rows xs h) made

-- ---- the log

-- the log of a mailbox with one entry more
pub box_log_more : (a b : Files) (store : List ℕ) (box : MapBox) (log : List BoxEntry) (e : BoxEntry) → HasBox a store box log → BoxInRange e → BoxFits (box_meaning log) e
    → HasOneMore (box_text e) (a (file.Box box.number box.generation)) (b (file.Box box.number box.generation)) → HasBox b store box (log ++ e ∷ [])
box_log_more a b store box log e h in_range fits more = record {
  log = log_more box_text a b (file.Box box.number box.generation) (head_of store kind.Box box.number box.generation) log e more h.log;
  in_range = each_more BoxInRange log e h.in_range in_range;
  fit = box_fit_more [] log e h.fit fits;
}

pub box_log_as : (a b : Files) (store : List ℕ) (box : MapBox) (log : List BoxEntry) → b (file.Box box.number box.generation) ≡ a (file.Box box.number box.generation) → HasBox a store box log → HasBox b store box log
box_log_as a b store box log e h = record { log = log_as a b _ _ _ e h.log; in_range = h.in_range; fit = h.fit }

-- ---- the mailboxes

-- the mailbox whose log has one entry more
mailbox_more : (a b : Files) (m : MapMeaning) (box : MapBox) (log : List BoxEntry) (octets : List ℕ) (e : BoxEntry) (x : Mailbox) → SameStored a b → HasBox a m.store box log → BoxInRange e → BoxFits (box_meaning log) e
    → AreListed a m (row_made e) (message_made octets e) → HasOneMore (box_text e) (a (file.Box box.number box.generation)) (b (file.Box box.number box.generation)) → IsMailbox a m box x → IsMailbox b m box (mailbox_by octets e x)
mailbox_more a b m box log octets e x s has in_range fits made more h =
    let same : h.entries ≡ log = (log_same box_text BoxInRange (box_one 2) a _ _ _ h.entries log h.log.in_range has.in_range h.log.log has.log).1 in
    record {
      entries = log ++ e ∷ [];
      log = box_log_more a b m.store box log e has in_range fits more;
      number = h.number;
      name = h.name;
      next = ap (λ (n : ℕ). max n (next_named e)) (h.next ∙ ap next_after same) ∙ sym (next_more log e);
      messages =
          subst (λ (rows : List LogRow). AreListed b m rows (rows_by (message_rules octets) e x.messages)) (sym (one_more row_rules log e))
          (all_listed_as a b m _ _ s (listed_by a m octets e (rows_after log) x.messages (subst (λ (l : List BoxEntry). AreListed a m (rows_after l) x.messages) same h.messages) made));
    }

mailbox_as : (a b : Files) (m : MapMeaning) (box : MapBox) (x : Mailbox) → SameStored a b → b (file.Box box.number box.generation) ≡ a (file.Box box.number box.generation) → IsMailbox a m box x → IsMailbox b m box x
mailbox_as a b m box x s e h = record {
  entries = h.entries;
  log = box_log_as a b m.store box h.entries e h.log;
  number = h.number;
  name = h.name;
  next = h.next;
  messages = all_listed_as a b m _ x.messages s h.messages;
}

pub other_box : (k h l g : ℕ) → l ≢ k → file.Box l g ≢ file.Box k h
other_box k h l g apart e = apart (let p : file.Box l g ≡ file.Box k h = e in cc p)

mailboxes_as : (a b : Files) (m : MapMeaning) (k g : ℕ) (boxes : List MapBox) (xs : Lists) → SameBut (file.Box k g) a b → All (λ (box : MapBox). box.number ≢ k) boxes → AreMailboxes a m boxes xs → AreMailboxes b m boxes xs
mailboxes_as a b m k g [] [] s apart h = tt
mailboxes_as a b m k g [] (x ∷ xs) s apart h = absurd h
mailboxes_as a b m k g (box ∷ boxes) [] s apart h = absurd h
mailboxes_as a b m k g (box ∷ boxes) (x ∷ xs) s apart h = (
  mailbox_as a b m box x (box_stored k g a b s) (s (file.Box box.number box.generation) (other_box k g box.number box.generation (All-head (λ (o : MapBox). o.number ≢ k) box boxes apart))) h.0,
  mailboxes_as a b m k g boxes xs s (All-tail (λ (o : MapBox). o.number ≢ k) box boxes apart) h.1,
)

abbrev Rising : MapBox → MapBox → Type 0
Rising x y = x.number < y.number

mailboxes_more : (a b : Files) (m : MapMeaning) (box : MapBox) (log : List BoxEntry) (octets : List ℕ) (e : BoxEntry) (boxes : List MapBox) (xs : Lists) → SameBut (file.Box box.number box.generation) a b → HasBox a m.store box log
    → BoxInRange e → BoxFits (box_meaning log) e → AreListed a m (row_made e) (message_made octets e) → HasOneMore (box_text e) (a (file.Box box.number box.generation)) (b (file.Box box.number box.generation))
    → AllPairs Rising boxes → Contains boxes box → AreMailboxes a m boxes xs → AreMailboxes b m boxes (lists_by box.number octets e xs)
mailboxes_more a b m box log octets e [] [] s has in_range fits made more rising there h = tt
mailboxes_more a b m box log octets e [] (x ∷ xs) s has in_range fits made more rising there h = absurd h
mailboxes_more a b m box log octets e (y ∷ boxes) [] s has in_range fits made more rising there h = absurd h
mailboxes_more a b m box log octets e (y ∷ boxes) (x ∷ xs) s has in_range fits made more rising there h =
    by_test (x.number == box.number) refl (λ c. mailboxes_more a b m box log octets e boxes xs s has in_range fits made more (pairs_tail Rising y boxes rising) c h.1)
  where
    above : All (Rising y) boxes
    above = pairs_head Rising y boxes rising

    by_test : (t : Bool) → (x.number == box.number) ≡ t → (Contains boxes box → AreMailboxes b m boxes (lists_by box.number octets e xs)) → AreMailboxes b m (y ∷ boxes) (if t then mailbox_by octets e x ∷ xs else x ∷ lists_by box.number octets e xs)
    by_test true is rest =
        let number : y.number ≡ box.number = sym h.0.number ∙ equal_is x.number box.number is in
        let same : y ≡ box = elim (among y boxes box there) [ inl p ↦ p | inr c ↦ let less : y.number < box.number = All-contains (Rising y) boxes box above c in absurd (omega (arith, less, number)) ] in (
          subst (λ (o : MapBox). IsMailbox b m o (mailbox_by octets e x)) (sym same)
              (mailbox_more a b m box log octets e x (box_stored box.number box.generation a b s) has in_range fits made more (subst (λ (o : MapBox). IsMailbox a m o x) same h.0)),
          mailboxes_as a b m box.number box.generation boxes xs s (All-weaker (Rising y) (λ (o : MapBox). o.number ≢ box.number) (λ o less p. absurd (omega (arith, less, number, p))) boxes above) h.1,
        )
    by_test false is rest =
        let apart : y.number ≢ box.number = λ p. false≢true (sym is ∙ equal_yes x.number box.number (h.0.number ∙ p)) in
        let later : Contains boxes box = elim (among y boxes box there) [ inl p ↦ absurd (apart (ap (λ (o : MapBox). o.number) p)) | inr c ↦ c ] in
        (mailbox_as a b m y x (box_stored box.number box.generation a b s) (s (file.Box y.number y.generation) (other_box box.number box.generation y.number y.generation apart)) h.0, rest later)

-- ---- what holds whatever the logs of mailboxes say

own_as : (a b : Files) (m : MapMeaning) (inst : InstRow) (octets : List ℕ) → SameStored a b → NamesOwn b m inst octets → NamesOwn a m inst octets
own_as a b m inst octets s n = record { row = n.row; is_record = n.is_record; own = n.own; is_named = n.is_named; there = sym (s.instances inst.hash.0 inst.id.0) ∙ n.there }

any_as : (a b : Files) (m : MapMeaning) (inst : InstRow) (octets : List ℕ) → SameStored a b → NamesAny b m inst octets → NamesAny a m inst octets
any_as a b m inst octets s n = record { row = n.row; is_record = n.is_record; is_named = n.is_named; there = sym (s.instances inst.hash.0 inst.id.0) ∙ n.there }

pub once_as : (a b : Files) (m : MapMeaning) → SameStored a b → StoredOnce a m → StoredOnce b m
once_as a b m s h = record {
  once = λ i j octets p q. h.once i j octets (own_as a b m i octets s p) (own_as a b m j octets s q);
  least = λ i j octets p q same less. h.least i j octets (own_as a b m i octets s p) (any_as a b m j octets s q) same less;
  hash = λ i octets p. h.hash i octets (own_as a b m i octets s p);
}

pub detached_as : (a b : Files) (m : MapMeaning) → SameStored a b → KeepsDetached a m → KeepsDetached b m
unfolding kept_as message_as
detached_as a b m s h = λ row octets r own kept. h row octets r own (kept_as b a row row octets (stored_back a b s) (count_itself row) kept)

pub map_as : (a b : Files) (store : List ℕ) (entries : List MapEntry) (k g : ℕ) → SameBut (file.Box k g) a b → (h : HasMap a store entries) → HasMap b store entries
map_as a b store entries k g s h = record {
  generation = h.generation;
  generation_number = h.generation_number;
  root = record { before = h.root.before; log = log_as a b file.Root _ _ (s file.Root (λ e. absurd (cc e))) h.root.log; in_range = h.root.in_range };
  log = log_as a b (file.Map h.generation) _ _ (s (file.Map h.generation) (λ e. absurd (cc e))) h.log;
  in_range = h.in_range;
  fit = h.fit;
}

-- ---- the law

-- Files that carry over what a store reads but for a mailbox's log, which has one entry more, stand for the lists that the
-- entry gives. Where it adds a message, that is listed: its record is there and keeps its octets.
pub stands_by_box_entry : (a b : Files) (store : List ℕ) (entries : List MapEntry) (lists : Lists) (box : MapBox) (log : List BoxEntry) (octets : List ℕ) (e : BoxEntry) → (s : StandsBy a store entries lists)
    → Contains (map_meaning store entries).boxes box → HasBox a store box log → BoxInRange e → BoxFits (box_meaning log) e → AreListed a (map_meaning store entries) (row_made e) (message_made octets e)
    → CarryMore (file.Box box.number box.generation) (box_text e) s.map_log.generation (map_meaning store entries) a b → StandsBy b store entries (lists_by box.number octets e lists)
stands_by_box_entry a b store entries lists box log octets e s there has in_range fits made carry =
    let name : FileName = file.Box box.number box.generation in
    let m : MapMeaning = map_meaning store entries in
    let c : Files = mixed name a b in
    let along : CarryOver s.map_log.generation m a c = carry_mixed name s.map_log.generation m a b (box_itself box.number box.generation s.map_log.generation m a) carry.others in
    let t : StandsBy c store entries lists = stands_carried a c store entries lists s along in
    let same : SameBut name c b = same_but_mixed name a b in
    let stored : SameStored c b = box_stored box.number box.generation c b same in
    let sound : IsSoundMap m = map_sound store entries s.map_log.fit s.map_log.in_range in
    record {
      map_log = map_as c b store entries box.number box.generation same t.map_log;
      mailboxes = mailboxes_more c b m box log octets e m.boxes lists same (box_log_as a c store box log (mixed-here name a b) has) in_range fits (all_listed_along s.map_log.generation m a c _ _ along made)
          (subst (λ (o : Option (List ℕ)). HasOneMore (box_text e) o (b name)) (sym (mixed-here name a b)) carry.more) sound.boxes_rising there t.mailboxes;
      one_record = t.one_record;
      once = once_as c b m stored t.once;
      detached = detached_as c b m stored t.detached;
    }
