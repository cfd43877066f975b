-- Files that carry over what a store reads stand for the same lists, and are safe for the same. So do files that agree on it.
use Rattle.std.specs.Prelude.{◌≡◌, ℕ, List, [], ◌∷◌, ◌++◌, take, drop, flat_map, ◌==◌, Option, Some, None, All, Contains, refl}
use Rattle.std.proofs.Common.{sym, ◌∙◌, subst}
use Rattle.std.proofs.lemmas.List.Elements.{All-nil, All-cons, All-head, All-tail, All-append, All-contains, All-weaker}
use Rattle.disk_model.specs.Disk.{Files, DiskState, IsImage}
use Rattle.disk_model.specs.declared.name.FileName.{FileName}
use Rattle.disk_model.specs.declared.name.FileName.TheVariants as file
use Rattle.model_logs.specs.declared.log_head.LogHead.{LogHead}
use Rattle.mdbox_base.specs.declared.entries.InstRow.{InstRow}
use Rattle.mdbox_base.specs.declared.entries.MapEntry.{MapEntry}
use Rattle.model_lists.specs.Lists.{ListedMessage, Mailbox, Lists}
use Rattle.model_meaning.specs.BoxMeaning.{LogRow}
use Rattle.model_meaning.specs.MapMeaning.{MapRecord, MapBox, MapMeaning, map_meaning}
use Rattle.model_storage.specs.StorageFile.{IsMessage}
use Rattle.model_octets.proofs.PairLemmas.{found_among}
use Rattle.model_store.specs.Stands.{HasLog, HasMap, HasInstances, HoldsMessage, StoresMessage, IsListed, AreListed, IsMailbox, AreMailboxes, NamesOwn, NamesAny, StoredOnce, KeepsDetached, StandsBy}
use Rattle.model_store.specs.Safe.{LiesInFile, IsThereWhole, HasAll, SafeBy, Safe}
use Rattle.model_logs.specs.LogFile.{IsLog, IsLogFile}
use Rattle.model_store.specs.Settled.{files_of, HasSameRegion, HasSameInstance, AreAlike, IsSettled}
use Rattle.model_store.specs.Carrying.{HasSameEntries, CarryOver}

-- the other way round
region_back : (a b : Files) (row : MapRecord) → HasSameRegion a b row → HasSameRegion b a row
region_back a b row h = record {
  first = h.second;
  second = h.first;
  in_first = h.in_second;
  in_second = h.in_first;
  first_holds = h.second_holds;
  second_holds = h.first_holds;
  same = sym h.same;
}

-- a log that the second file has where the first one has it
pub log_in : (octets : Option (List ℕ)) (head : LogHead) (entries : List (List ℕ)) → IsLogFile octets head entries → (o : List ℕ) × (octets ≡ Some o) × IsLog o head entries
log_in None head entries h = absurd h
log_in (Some o) head entries h = (o, refl, h)

pub log_along : (a b : Files) (name : FileName) (head : LogHead) (entries : List (List ℕ)) → HasSameEntries (a name) (b name) → HasLog a name head entries → HasLog b name head entries
log_along a b name head entries e h =
    let found = log_in (b name) head entries (e head entries (subst (λ (o : Option (List ℕ)). IsLogFile o head entries) (sym h.there) h.whole)) in
    record { octets = found.0; there = found.1; whole = found.2 }

pub map_along : (store : List ℕ) (entries : List MapEntry) (a b : Files) → (h : HasMap a store entries) → CarryOver h.generation (map_meaning store entries) a b → HasMap b store entries
map_along store entries a b h e = record {
  generation = h.generation;
  generation_number = h.generation_number;
  root = record { before = h.root.before; log = log_along a b file.Root _ _ e.root h.root.log; in_range = h.root.in_range };
  log = log_along a b (file.Map h.generation) _ _ e.map h.log;
  in_range = h.in_range;
  fit = h.fit;
}

instances_along : (a b : Files) (rows : List InstRow) (octets : List (List ℕ)) → All (HasSameInstance a b) rows → HasInstances a rows octets → HasInstances b rows octets
instances_along a b [] [] e h = tt
instances_along a b [] (o ∷ os) e h = absurd h
instances_along a b (r ∷ rows) [] e h = absurd h
instances_along a b (r ∷ rows) (o ∷ os) e h = (All-head (HasSameInstance a b) r rows e ∙ h.0, instances_along a b rows os (All-tail (HasSameInstance a b) r rows e) h.1)

same_file : (o : Option (List ℕ)) (x y : List ℕ) → o ≡ Some x → o ≡ Some y → x ≡ y
same_file o x y p q = let h : Some x ≡ Some y = sym p ∙ q in cc h

-- a record's region is the same message in both
message_along : (a b : Files) (row : MapRecord) → HasSameRegion a b row → HoldsMessage a row → HoldsMessage b row
message_along a b row r h =
    let e : h.octets_there ≡ r.first = same_file (a (file.Mail row.file)) h.octets_there r.first h.there r.in_first in
    let region : IsMessage (take row.size (drop row.offset r.first)) h.message = subst (λ (o : List ℕ). IsMessage (take row.size (drop row.offset o)) h.message) e h.region in
    record {
      octets_there = r.second;
      message = h.message;
      meta = h.meta;
      there = r.in_second;
      inside = r.second_holds;
      region = subst (λ (o : List ℕ). IsMessage o h.message) (sym r.same) region;
      says = h.says;
      guid = h.guid;
    }

-- a record stores the same text in both
pub kept_along : (a b : Files) (row : MapRecord) (octets : List ℕ) → HasSameRegion a b row → All (HasSameInstance a b) row.instances → StoresMessage a row octets → StoresMessage b row octets
unfolding message_along
kept_along a b row octets r is h = record {
  stored = message_along a b row r h.stored;
  instances = h.instances;
  names = h.names;
  found = instances_along a b row.instances h.instances is h.found;
  whole = h.whole;
  size = h.size;
}

listed_along : (g : ℕ) (m : MapMeaning) (a b : Files) (row : LogRow) (x : ListedMessage) → CarryOver g m a b → IsListed a m row x → IsListed b m row x
listed_along g m a b row x e h = record {
  uid = h.uid;
  flags = h.flags;
  time = h.time;
  guid = h.guid;
  size = h.size;
  words = h.words;
  entry = h.entry;
  found = h.found;
  same = h.same;
  octets = kept_along a b h.entry x.octets
      (found_among (λ (r : MapRecord). r.uid == row.map_uid) m.records h.entry (HasSameRegion a b) h.found e.regions)
      (found_among (λ (r : MapRecord). r.uid == row.map_uid) m.records h.entry (λ (r : MapRecord). All (HasSameInstance a b) r.instances) h.found e.instances) h.octets;
}

pub all_listed_along : (g : ℕ) (m : MapMeaning) (a b : Files) (rows : List LogRow) (xs : List ListedMessage) → CarryOver g m a b → AreListed a m rows xs → AreListed b m rows xs
all_listed_along g m a b [] [] e h = tt
all_listed_along g m a b [] (x ∷ xs) e h = absurd h
all_listed_along g m a b (row ∷ rows) [] e h = absurd h
all_listed_along g m a b (row ∷ rows) (x ∷ xs) e h = (listed_along g m a b row x e h.0, all_listed_along g m a b rows xs e h.1)

mailbox_along : (g : ℕ) (m : MapMeaning) (a b : Files) (box : MapBox) (x : Mailbox) → CarryOver g m a b → HasSameEntries (a (file.Box box.number box.generation)) (b (file.Box box.number box.generation)) → IsMailbox a m box x → IsMailbox b m box x
mailbox_along g m a b box x e same h = record {
  entries = h.entries;
  log = record { log = log_along a b _ _ _ same h.log.log; in_range = h.log.in_range; fit = h.log.fit };
  number = h.number;
  name = h.name;
  next = h.next;
  messages = all_listed_along g m a b _ x.messages e h.messages;
}

abbrev SameLog : Files → Files → MapBox → Type 0
SameLog a b box = HasSameEntries (a (file.Box box.number box.generation)) (b (file.Box box.number box.generation))

mailboxes_along : (g : ℕ) (m : MapMeaning) (a b : Files) (boxes : List MapBox) (lists : Lists) → CarryOver g m a b → All (SameLog a b) boxes → AreMailboxes a m boxes lists → AreMailboxes b m boxes lists
mailboxes_along g m a b [] [] e s h = tt
mailboxes_along g m a b [] (x ∷ xs) e s h = absurd h
mailboxes_along g m a b (box ∷ boxes) [] e s h = absurd h
mailboxes_along g m a b (box ∷ boxes) (x ∷ xs) e s h =
    (mailbox_along g m a b box x e (All-head (SameLog a b) box boxes s) h.0, mailboxes_along g m a b boxes xs e (All-tail (SameLog a b) box boxes s) h.1)

-- an instance that a record names
named_same : (g : ℕ) (m : MapMeaning) (a b : Files) (row : MapRecord) (inst : InstRow) → CarryOver g m a b → Contains m.records row → Contains row.instances inst → HasSameInstance a b inst
named_same g m a b row inst e r i = All-contains (HasSameInstance a b) row.instances inst (All-contains (λ (x : MapRecord). All (HasSameInstance a b) x.instances) m.records row e.instances r) i

own_back : (g : ℕ) (m : MapMeaning) (a b : Files) (inst : InstRow) (octets : List ℕ) → CarryOver g m a b → NamesOwn b m inst octets → NamesOwn a m inst octets
own_back g m a b inst octets e n = record { row = n.row; is_record = n.is_record; own = n.own; is_named = n.is_named; there = sym (named_same g m a b n.row inst e n.is_record n.is_named) ∙ n.there }

any_back : (g : ℕ) (m : MapMeaning) (a b : Files) (inst : InstRow) (octets : List ℕ) → CarryOver g m a b → NamesAny b m inst octets → NamesAny a m inst octets
any_back g m a b inst octets e n = record { row = n.row; is_record = n.is_record; is_named = n.is_named; there = sym (named_same g m a b n.row inst e n.is_record n.is_named) ∙ n.there }

once_along : (g : ℕ) (m : MapMeaning) (a b : Files) → CarryOver g m a b → StoredOnce a m → StoredOnce b m
once_along g m a b e h = record {
  once = λ i j octets p q. h.once i j octets (own_back g m a b i octets e p) (own_back g m a b j octets e q);
  least = λ i j octets p q same less. h.least i j octets (own_back g m a b i octets e p) (any_back g m a b j octets e q) same less;
  hash = λ i octets p. h.hash i octets (own_back g m a b i octets e p);
}

detached_along : (g : ℕ) (m : MapMeaning) (a b : Files) → CarryOver g m a b → KeepsDetached a m → KeepsDetached b m
unfolding kept_along message_along
detached_along g m a b e h = λ row octets r own kept.
    let region : HasSameRegion a b row = All-contains (HasSameRegion a b) m.records row e.regions r in
    let is : All (HasSameInstance a b) row.instances = All-contains (λ (x : MapRecord). All (HasSameInstance a b) x.instances) m.records row e.instances r in
    h row octets r own (kept_along b a row octets (region_back a b row region) (All-weaker (HasSameInstance a b) (HasSameInstance b a) (λ i s. sym s) row.instances is) kept)

-- Files that carry over what a store reads stand for the same lists.
pub stands_carried : (a b : Files) (store : List ℕ) (entries : List MapEntry) (lists : Lists) → (s : StandsBy a store entries lists) → CarryOver s.map_log.generation (map_meaning store entries) a b → StandsBy b store entries lists
stands_carried a b store entries lists s e = record {
  map_log = map_along store entries a b s.map_log e;
  mailboxes = mailboxes_along s.map_log.generation (map_meaning store entries) a b (map_meaning store entries).boxes lists e e.boxes s.mailboxes;
  one_record = s.one_record;
  once = once_along s.map_log.generation (map_meaning store entries) a b e s.once;
  detached = detached_along s.map_log.generation (map_meaning store entries) a b e s.detached;
}

-- ---- safe

all_split : {X : Type 0} → (P : X → Type 0) (xs ys : List X) → All P (xs ++ ys) → All P xs × All P ys
all_split P [] ys a = (All-nil P, a)
all_split P (x ∷ xs) ys a = let r = all_split P xs ys (All-tail P x (xs ++ ys) a) in (All-cons P x xs (All-head P x (xs ++ ys) a) r.0, r.1)

-- the instances of records, there in the one and so in the other
there_along : (a b : Files) (rows : List MapRecord) → All (λ row. All (HasSameInstance a b) row.instances) rows → All (IsThereWhole a) (flat_map (λ row. row.instances) rows) → All (IsThereWhole b) (flat_map (λ row. row.instances) rows)
there_along a b [] e h = All-nil (IsThereWhole b)
there_along a b (row ∷ rows) e h =
    let r = all_split (IsThereWhole a) row.instances (flat_map (λ (x : MapRecord). x.instances) rows) h in
    let same : All (HasSameInstance a b) row.instances = All-head (λ (x : MapRecord). All (HasSameInstance a b) x.instances) row rows e in
    All-append (IsThereWhole b) row.instances (flat_map (λ (x : MapRecord). x.instances) rows)
    (λ k d lt. record { octets = (r.0 k d lt).octets; there = same k d lt ∙ (r.0 k d lt).there; size = (r.0 k d lt).size })
    (there_along a b rows (All-tail (λ (x : MapRecord). All (HasSameInstance a b) x.instances) row rows e) r.1)

pub has_all_carried : (g : ℕ) (m : MapMeaning) (a b : Files) (lists : Lists) → CarryOver g m a b → HasAll a m lists → HasAll b m lists
has_all_carried g m a b lists e h = record {
  counts = h.counts;
  regions = All-weaker (HasSameRegion a b) (LiesInFile b) (λ row r. record { octets = r.second; there = r.in_second; inside = r.second_holds }) m.records e.regions;
  instances = there_along a b m.records e.instances h.instances;
}

-- Files that carry over what a store reads are safe for the same lists.
pub safe_carried : (a b : Files) (store : List ℕ) (entries : List MapEntry) (lists : Lists) → (s : SafeBy a store entries lists) → CarryOver s.stands.map_log.generation (map_meaning store entries) a b → SafeBy b store entries lists
safe_carried a b store entries lists s e = record {
  stands = stands_carried a b store entries lists s.stands e;
  has_all = has_all_carried s.stands.map_log.generation (map_meaning store entries) a b lists e s.has_all;
}

-- ---- files that are alike

same_entries : (a b : Option (List ℕ)) → b ≡ a → HasSameEntries a b
same_entries a b e = λ head entries h. subst (λ (o : Option (List ℕ)). IsLogFile o head entries) (sym e) h

pub carried_alike : (g : ℕ) (m : MapMeaning) (a b : Files) → AreAlike g m a b → CarryOver g m a b
carried_alike g m a b e = record {
  root = same_entries (a file.Root) (b file.Root) e.root;
  map = same_entries (a (file.Map g)) (b (file.Map g)) e.map;
  boxes = All-weaker (λ (x : MapBox). b (file.Box x.number x.generation) ≡ a (file.Box x.number x.generation)) (SameLog a b)
      (λ x s. same_entries (a (file.Box x.number x.generation)) (b (file.Box x.number x.generation)) s) m.boxes e.boxes;
  regions = e.regions;
  instances = e.instances;
}

-- Files that agree on what a store reads stand for the same lists, and are safe for the same.
pub stands_alike : (a b : Files) (store : List ℕ) (entries : List MapEntry) (lists : Lists) → (s : StandsBy a store entries lists) → AreAlike s.map_log.generation (map_meaning store entries) a b → StandsBy b store entries lists
stands_alike a b store entries lists s e = stands_carried a b store entries lists s (carried_alike s.map_log.generation (map_meaning store entries) a b e)

pub safe_alike : (a b : Files) (store : List ℕ) (entries : List MapEntry) (lists : Lists) → (s : SafeBy a store entries lists) → AreAlike s.stands.map_log.generation (map_meaning store entries) a b → SafeBy b store entries lists
safe_alike a b store entries lists s e = safe_carried a b store entries lists s (carried_alike s.stands.map_log.generation (map_meaning store entries) a b e)

-- Each image of a settled disk is safe for its lists.
pub settled_safe : (disk : DiskState) (lists : Lists) (image : Files) → IsSettled disk lists → IsImage disk image → Safe image lists
settled_safe disk lists image s i = record { store = s.store; entries = s.entries; by = safe_alike (files_of disk) image s.store s.entries lists s.safe (s.alike image i) }
