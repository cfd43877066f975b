-- One entry more in the map log.
use Rattle.model_appends.proofs.Common.{◌≡◌, ◌≤◌, ◌==◌, ℕ, count_by, true, false, cond, Bool, List, [], ◌∷◌, ◌++◌, map, find, Option, Some, None, Contains, refl, sym, ◌∙◌, subst, ap, arith, bytes_eq, sum_by-cons, found_one, count_is, All-contains, All-contains_itself, Files, FileName, InstRow}
use Rattle.model_appends.proofs.Common.{MapEntry, ListedMessage, Mailbox, Lists, refs_of, empty_mailbox, LogRow, MapRecord, MapBox, MapMeaning, map_meaning, record_at, count_of, MapFits, map_text, box_text, MapInRange, each_more, map_fit_more, IsSoundMap, map_sound, all_map, HasBox, StoresMessage}
use Rattle.model_appends.proofs.Common.{AreListed, IsMailbox, AreMailboxes, NamesOwn, NamesAny, StoredOnce, KeepsDetached, StandsBy, bit, SameBut, HasOneMore, CarryMore, IsMapStep}
use Rattle.model_octets.proofs.SearchLemmas.{text_yes}
use Rattle.disk_model.specs.declared.name.FileName.TheVariants as file
use Rattle.model_logs.specs.declared.log_head.LogKind.TheVariants as kind
use Rattle.model_meaning.specs.MapFits.{HasRecord}
use Rattle.model_store.specs.Stands.{head_of, HasLog, HasMap, IsListed}
use Rattle.model_store.proofs.SettledLemmas.{stands_carried}
use Rattle.model_appends.proofs.AppendFileLemmas.{message_as, SameButCount, count_back, carry_back, log_more, log_as, mixed, mixed-here, mixed-other, SameStored, map_stored, count_itself, kept_as}
use Rattle.model_appends.proofs.AppendBoxLemmas.{once_as, detached_as}

-- ---- the mailboxes, by another meaning of the map

abbrev FoundIn : Files → MapMeaning → MapMeaning → Type 0
FoundIn a m n = (uid : ℕ) (row : MapRecord) → record_at m uid ≡ Some row → 1 ≤ row.count → HasRecord n uid (λ other. (other.guid ≡ row.guid) × ((octets : List ℕ) → StoresMessage a row octets → StoresMessage a other octets))

-- a GUID of listed messages is counted
abbrev AreCovered : MapMeaning → List ListedMessage → Type 0
AreCovered m xs = (guid : List ℕ) → 1 ≤ count_by (λ y. bytes_eq y.guid guid) xs → 1 ≤ count_of m guid

listed_on : (a b : Files) (m n : MapMeaning) (row : LogRow) (x : ListedMessage) → IsSoundMap m → SameStored a b → FoundIn a m n → 1 ≤ count_of m x.guid → IsListed a m row x → IsListed b n row x
listed_on a b m n row x sound s found some h =
    let one = found_one (λ (r : MapRecord). r.uid == row.map_uid) m.records h.entry h.found in
    let count : count_of m x.guid ≡ h.entry.count = ap (count_of m) (h.guid ∙ sym h.same) ∙ count_is m h.entry sound one.0 in
    let f = found row.map_uid h.entry h.found (omega (arith, some, count)) in
    record {
      uid = h.uid;
      flags = h.flags;
      time = h.time;
      guid = h.guid;
      size = h.size;
      entry = f.0;
      found = f.1;
      same = f.2.0 ∙ h.same;
      octets = kept_as a b f.0 f.0 x.octets s (count_itself f.0) (f.2.1 x.octets h.octets);
      words = h.words;
    }

covers_first : (m : MapMeaning) (x : ListedMessage) (xs : List ListedMessage) → AreCovered m (x ∷ xs) → 1 ≤ count_of m x.guid
covers_first m x xs covered =
    let a = sum_by-cons (λ (y : ListedMessage). cond (bytes_eq y.guid x.guid) 1 0) x xs in
    let b : bit (bytes_eq x.guid x.guid) ≡ 1 = ap bit (text_yes x.guid x.guid refl) in
    covered x.guid (omega (arith, a, b))

covers_rest : (m : MapMeaning) (x : ListedMessage) (xs : List ListedMessage) → AreCovered m (x ∷ xs) → AreCovered m xs
covers_rest m x xs covered = λ guid some. let a = sum_by-cons (λ (y : ListedMessage). cond (bytes_eq y.guid guid) 1 0) x xs in covered guid (omega (arith, a, some))

all_listed_on : (a b : Files) (m n : MapMeaning) (rows : List LogRow) (xs : List ListedMessage) → IsSoundMap m → SameStored a b → FoundIn a m n → AreCovered m xs → AreListed a m rows xs → AreListed b n rows xs
all_listed_on a b m n [] [] sound s f c h = tt
all_listed_on a b m n [] (x ∷ xs) sound s f c h = absurd h
all_listed_on a b m n (row ∷ rows) [] sound s f c h = absurd h
all_listed_on a b m n (row ∷ rows) (x ∷ xs) sound s f c h = (listed_on a b m n row x sound s f (covers_first m x xs c) h.0, all_listed_on a b m n rows xs sound s f (covers_rest m x xs c) h.1)

mailbox_on : (a b : Files) (m n : MapMeaning) (g : ℕ) (box : MapBox) (x : Mailbox) → IsSoundMap m → SameBut (file.Map g) a b → n.store ≡ m.store → FoundIn a m n → AreCovered m x.messages → IsMailbox a m box x → IsMailbox b n box x
mailbox_on a b m n g box x sound s same f c h = record {
  entries = h.entries;
  log = record {
    log = subst (λ (store : List ℕ). HasLog b (file.Box box.number box.generation) (head_of store kind.Box box.number box.generation) (map box_text h.entries)) (sym same) (log_as a b _ _ _ (s (file.Box box.number box.generation) (λ e. absurd (cc e))) h.log.log);
    in_range = h.log.in_range;
    fit = h.log.fit;
  };
  number = h.number;
  name = h.name;
  next = h.next;
  messages = all_listed_on a b m n _ x.messages sound (map_stored g a b s) f c h.messages;
}

abbrev RefsCovered : MapMeaning → Lists → Type 0
RefsCovered m xs = (guid : List ℕ) → 1 ≤ refs_of xs guid → 1 ≤ count_of m guid

covers_box : (m : MapMeaning) (x : Mailbox) (xs : Lists) → RefsCovered m (x ∷ xs) → AreCovered m x.messages
covers_box m x xs covered = λ guid some. let a = sum_by-cons (λ (o : Mailbox). count_by (λ (y : ListedMessage). bytes_eq y.guid guid) o.messages) x xs in covered guid (omega (arith, a, some))

covers_boxes : (m : MapMeaning) (x : Mailbox) (xs : Lists) → RefsCovered m (x ∷ xs) → RefsCovered m xs
covers_boxes m x xs covered = λ guid some. let a = sum_by-cons (λ (o : Mailbox). count_by (λ (y : ListedMessage). bytes_eq y.guid guid) o.messages) x xs in covered guid (omega (arith, a, some))

mailboxes_on : (a b : Files) (m n : MapMeaning) (g : ℕ) (boxes : List MapBox) (xs : Lists) → IsSoundMap m → SameBut (file.Map g) a b → n.store ≡ m.store → FoundIn a m n → RefsCovered m xs → AreMailboxes a m boxes xs → AreMailboxes b n boxes xs
mailboxes_on a b m n g [] [] sound s same f c h = tt
mailboxes_on a b m n g [] (x ∷ xs) sound s same f c h = absurd h
mailboxes_on a b m n g (box ∷ boxes) [] sound s same f c h = absurd h
mailboxes_on a b m n g (box ∷ boxes) (x ∷ xs) sound s same f c h =
    (mailbox_on a b m n g box x sound s same f (covers_box m x xs c) h.0, mailboxes_on a b m n g boxes xs sound s same f (covers_boxes m x xs c) h.1)

-- references that counts reach
all_covered : (m : MapMeaning) (xs : Lists) → ((guid : List ℕ) → refs_of xs guid ≤ count_of m guid) → RefsCovered m xs
all_covered m xs counts = λ guid some. let h = counts guid in omega (arith, h, some)

pub mailboxes_append : (b : Files) (n : MapMeaning) (boxes more : List MapBox) (xs ys : Lists) → AreMailboxes b n boxes xs → AreMailboxes b n more ys → AreMailboxes b n (boxes ++ more) (xs ++ ys)
mailboxes_append b n [] more [] ys h k = k
mailboxes_append b n [] more (x ∷ xs) ys h k = absurd h
mailboxes_append b n (box ∷ boxes) more [] ys h k = absurd h
mailboxes_append b n (box ∷ boxes) more (x ∷ xs) ys h k = (h.0, mailboxes_append b n boxes more xs ys h.1 k)

-- a meaning finds its own records
found_itself : (a : Files) (n : MapMeaning) → FoundIn a n n
found_itself a n uid row h some = (row, h, (refl, λ octets k. k))

-- mailboxes stand as they stood by a new meaning, which still finds what is referred to
pub mailboxes_still : (a : Files) (m n : MapMeaning) (boxes : List MapBox) (xs : Lists) → IsSoundMap m → n.store ≡ m.store → IsMapStep a m n → ((guid : List ℕ) → refs_of xs guid ≤ count_of m guid) → AreMailboxes a m boxes xs → AreMailboxes a n boxes xs
mailboxes_still a m n boxes xs sound store step counts h = mailboxes_on a a m n 0 boxes xs sound (λ name apart. refl) store step.found (all_covered m xs counts) h

-- ---- the map log

pub map_log_more : (a b : Files) (store : List ℕ) (entries : List MapEntry) (e : MapEntry) → (h : HasMap a store entries) → MapInRange e → MapFits (map_meaning store entries) e → SameBut (file.Map h.generation) a b
    → HasOneMore (map_text e) (a (file.Map h.generation)) (b (file.Map h.generation)) → HasMap b store (entries ++ e ∷ [])
map_log_more a b store entries e h in_range fits s more = record {
  generation = h.generation;
  root = record { before = h.root.before; log = log_as a b file.Root _ _ (s file.Root (λ e. absurd (cc e))) h.root.log; in_range = h.root.in_range };
  generation_number = h.generation_number;
  log = log_more map_text a b (file.Map h.generation) (head_of store kind.Map 0 h.generation) entries e more h.log;
  in_range = each_more MapInRange entries e h.in_range in_range;
  fit = map_fit_more store [] entries e h.fit fits;
}

-- ---- the law, in place and for files that carry over the rest

in_place : (a b : Files) (store : List ℕ) (entries : List MapEntry) (lists later : Lists) (e : MapEntry) → (s : StandsBy a store entries lists) → MapInRange e → MapFits (map_meaning store entries) e
    → IsMapStep a (map_meaning store entries) (map_meaning store (entries ++ e ∷ []))
    → AreMailboxes a (map_meaning store (entries ++ e ∷ [])) (map_meaning store (entries ++ e ∷ [])).boxes later → ((guid : List ℕ) → refs_of later guid ≤ count_of (map_meaning store (entries ++ e ∷ [])) guid)
    → (same : SameBut (file.Map s.map_log.generation) a b) → HasOneMore (map_text e) (a (file.Map s.map_log.generation)) (b (file.Map s.map_log.generation))
    → StandsBy b store (entries ++ e ∷ []) later
in_place a b store entries lists later e s in_range fits step boxes counts same more =
    let n : MapMeaning = map_meaning store (entries ++ e ∷ []) in
    let g : ℕ = s.map_log.generation in
    let has : HasMap b store (entries ++ e ∷ []) = map_log_more a b store entries e s.map_log in_range fits same more in
    let sound : IsSoundMap n = map_sound store (entries ++ e ∷ []) has.fit has.in_range in
    record {
      map_log = has;
      mailboxes = mailboxes_on a b n n g n.boxes later sound same refl (found_itself a n) (all_covered n later counts) boxes;
      one_record = sound.guids;
      once = once_as a b n (map_stored g a b same) step.once;
      detached = detached_as a b n (map_stored g a b same) step.detached;
    }

-- Files that carry over what a store reads by the new meaning, but for the map log, which has one entry more, stand for the
-- lists that the entry gives.
pub stands_by_map_entry : (a b : Files) (store : List ℕ) (entries : List MapEntry) (lists later : Lists) (e : MapEntry) → (s : StandsBy a store entries lists) → MapInRange e → MapFits (map_meaning store entries) e
    → IsMapStep a (map_meaning store entries) (map_meaning store (entries ++ e ∷ []))
    → AreMailboxes a (map_meaning store (entries ++ e ∷ [])) (map_meaning store (entries ++ e ∷ [])).boxes later → ((guid : List ℕ) → refs_of later guid ≤ count_of (map_meaning store (entries ++ e ∷ [])) guid)
    → CarryMore (file.Map s.map_log.generation) (map_text e) s.map_log.generation (map_meaning store (entries ++ e ∷ [])) a b → StandsBy b store (entries ++ e ∷ []) later
unfolding in_place map_log_more
stands_by_map_entry a b store entries lists later e s in_range fits step boxes counts carry =
    let g : ℕ = s.map_log.generation in
    let name : FileName = file.Map g in
    let n : MapMeaning = map_meaning store (entries ++ e ∷ []) in
    let c : Files = mixed name b a in
    let same : SameBut name a c = λ other apart. mixed-other name other b a apart in
    let t : StandsBy c store (entries ++ e ∷ []) later = in_place a c store entries lists later e s in_range fits step boxes counts same (subst (λ (o : Option (List ℕ)). HasOneMore (map_text e) (a name) o) (sym (mixed-here name b a)) carry.more) in
    stands_carried c b store (entries ++ e ∷ []) later t (carry_back g g n a b carry.others)

-- ---- entries that change counts alone

pub find_changed : (f : MapRecord → MapRecord) → ((row : MapRecord) → SameButCount row (f row)) → (uid : ℕ) (rows : List MapRecord) (row : MapRecord) → find (λ r. r.uid == uid) rows ≡ Some row → find (λ r. r.uid == uid) (map f rows) ≡ Some (f row)
find_changed f same uid [] row h = absurd (cc (let k : None ≡ Some row = h in k))
find_changed f same uid (x ∷ xs) row h =
    ap (λ (n : ℕ). cond (n == uid) (Some (f x)) (find (λ (r : MapRecord). r.uid == uid) (map f xs))) (same x).uid ∙ by_test (x.uid == uid) (find (λ (r : MapRecord). r.uid == uid) xs) h (find_changed f same uid xs row)
  where
    by_test : (t : Bool) (found : Option MapRecord) → cond t (Some x) found ≡ Some row → (found ≡ Some row → find (λ (r : MapRecord). r.uid == uid) (map f xs) ≡ Some (f row)) → cond t (Some (f x)) (find (λ (r : MapRecord). r.uid == uid) (map f xs)) ≡ Some (f row)
    by_test true found h rest = let e : Some x ≡ Some row = h in ap (λ (r : MapRecord). Some (f r)) (cc e)
    by_test false found h rest = rest h

pub contains_map : {X Y : Type 0} → (f : X → Y) (xs : List X) (y : Y) → Contains (map f xs) y → (x : X) × Contains xs x × (f x ≡ y)
contains_map f xs y c = All-contains (λ y. (x : _) × Contains xs x × (f x ≡ y)) (map f xs) y (all_map (Contains xs) (λ y. (x : _) × Contains xs x × (f x ≡ y)) f (λ a h. (a, h, refl)) xs (All-contains_itself xs)) c

-- a record of the new meaning is an old one but for its count
abbrev AreOld : MapMeaning → MapMeaning → Type 0
AreOld m n = (row : MapRecord) → Contains n.records row → (old : MapRecord) × Contains m.records old × SameButCount old row

own_old : (files : Files) (m n : MapMeaning) (inst : InstRow) (octets : List ℕ) → AreOld m n → NamesOwn files n inst octets → NamesOwn files m inst octets
own_old files m n inst octets old h =
    let o = old h.row h.is_record in
    record { row = o.0; is_record = o.1; own = sym o.2.origin ∙ h.own; is_named = subst (λ (rows : List InstRow). Contains rows inst) o.2.instances h.is_named; there = h.there }

any_old : (files : Files) (m n : MapMeaning) (inst : InstRow) (octets : List ℕ) → AreOld m n → NamesAny files n inst octets → NamesAny files m inst octets
any_old files m n inst octets old h =
    let o = old h.row h.is_record in
    record { row = o.0; is_record = o.1; is_named = subst (λ (rows : List InstRow). Contains rows inst) o.2.instances h.is_named; there = h.there }

once_old : (files : Files) (m n : MapMeaning) → AreOld m n → StoredOnce files m → StoredOnce files n
once_old files m n old h = record {
  once = λ i j octets p q. h.once i j octets (own_old files m n i octets old p) (own_old files m n j octets old q);
  least = λ i j octets p q same less. h.least i j octets (own_old files m n i octets old p) (any_old files m n j octets old q) same less;
  hash = λ i octets p. h.hash i octets (own_old files m n i octets old p);
}

same_stored : (a : Files) → SameStored a a
same_stored a = record { mails = λ n. refl; instances = λ hash id. refl }

detached_old : (files : Files) (m n : MapMeaning) → AreOld m n → KeepsDetached files m → KeepsDetached files n
unfolding kept_as message_as
detached_old files m n old h = λ row octets r own kept.
    let o = old row r in
    h o.0 octets o.1 (sym o.2.origin ∙ own) (kept_as files files row o.0 octets (same_stored files) (count_back o.0 row o.2) kept)

-- the records are the same but for their counts
pub counts_step : (files : Files) (m n : MapMeaning) (f : MapRecord → MapRecord) → ((row : MapRecord) → SameButCount row (f row)) → n.records ≡ map f m.records → StoredOnce files m → KeepsDetached files m → IsMapStep files m n
counts_step files m n f same records once detached =
    let old : AreOld m n = λ row c. let r = contains_map f m.records row (subst (λ (rows : List MapRecord). Contains rows row) records c) in (r.0, r.1, subst (λ (o : MapRecord). SameButCount r.0 o) r.2 (same r.0)) in
    record {
      found = λ uid row h some. (f row, ap (find (λ (r : MapRecord). r.uid == uid)) records ∙ find_changed f same uid m.records row h, ((same row).guid, λ octets k. kept_as files files row (f row) octets (same_stored files) (same row) k));
      once = once_old files m n old once;
      detached = detached_old files m n old detached;
    }

-- ---- an entry that stores a message, and one that makes a mailbox

pub find_first : (p : MapRecord → Bool) (rows more : List MapRecord) (row : MapRecord) → find p rows ≡ Some row → find p (rows ++ more) ≡ Some row
find_first p [] more row h = absurd (cc (let k : None ≡ Some row = h in k))
find_first p (x ∷ xs) more row h = by_test (p x) (find p xs) (find p (xs ++ more)) h (find_first p xs more row)
  where
    by_test : (t : Bool) (found later : Option MapRecord) → cond t (Some x) found ≡ Some row → (found ≡ Some row → later ≡ Some row) → cond t (Some x) later ≡ Some row
    by_test true found later h rest = h
    by_test false found later h rest = rest h

pub stored_step : (files : Files) (m n : MapMeaning) (row : MapRecord) → n.records ≡ m.records ++ row ∷ [] → StoredOnce files n → KeepsDetached files n → IsMapStep files m n
stored_step files m n row records once detached = record {
  found = λ uid old h some. (old, ap (find (λ (r : MapRecord). r.uid == uid)) records ∙ find_first (λ (r : MapRecord). r.uid == uid) m.records (row ∷ []) old h, (refl, λ octets k. k));
  once = once;
  detached = detached;
}

pub made_mailbox : (files : Files) (m : MapMeaning) (box : MapBox) → HasBox files m.store box [] → AreMailboxes files m (box ∷ []) (empty_mailbox box.number box.name ∷ [])
made_mailbox files m box log = (record { entries = []; log = log; number = refl; name = refl; next = refl; messages = tt }, tt)

pub made_step : (files : Files) (m n : MapMeaning) → n.records ≡ m.records → StoredOnce files m → KeepsDetached files m → IsMapStep files m n
made_step files m n records once detached =
    let old : AreOld m n = λ row c. (row, subst (λ (rows : List MapRecord). Contains rows row) records c, count_itself row) in
    record {
      found = λ uid row h some. (row, ap (find (λ (r : MapRecord). r.uid == uid)) records ∙ h, (refl, λ octets k. k));
      once = once_old files m n old once;
      detached = detached_old files m n old detached;
    }
