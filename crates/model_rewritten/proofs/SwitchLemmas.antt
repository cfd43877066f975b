-- A new generation of a mailbox's log, appended to the map log.
use Rattle.std.specs.Prelude.{◌≡◌, ◌≤◌, ◌==◌, ℕ, Bool, true, false, if◌then◌else◌, List, [], ◌∷◌, ◌++◌, map, flat_map, find, Some, All, refl}
use Rattle.std.specs.Option.{option_map_or}
use Rattle.std.specs.Str.{bytes_eq}
use Rattle.std.proofs.Common.{sym, ◌∙◌, ap, arith, subst}
use Rattle.std.proofs.lemmas.List.Elements.{All-head, All-tail, All-weaker}
use Rattle.disk_model.specs.Disk.{Files, DiskState, IsImage}
use Rattle.disk_model.specs.declared.name.FileName.TheVariants as file
use Rattle.mdbox_base.specs.declared.entries.BoxEntry.{BoxEntry}
use Rattle.mdbox_base.specs.declared.entries.MapEntry.{MapEntry}
use Rattle.mdbox_base.specs.declared.entries.MapEntry.TheVariants as entry
use Rattle.mdbox_base.specs.declared.ids.BoxNo.{BoxNo}
use Rattle.model_lists.specs.Lists.{ListedMessage, Mailbox, Lists, refs_of}
use Rattle.model_logs.specs.Entries.{MapInRange}
use Rattle.model_meaning.proofs.AppliedLemmas.{records_by_generation, boxes_by_generation}
use Rattle.model_meaning.proofs.MapLemmas.{map_more}
use Rattle.model_meaning.proofs.MapPlaceLemmas.{equal_is, equal_yes}
use Rattle.model_meaning.proofs.MapSoundLemmas.{map_sound}
use Rattle.model_meaning.specs.BoxMeaning.{BoxMeaning, rows_after, next_after, box_meaning}
use Rattle.model_meaning.specs.MapFits.{MapFits}
use Rattle.model_meaning.specs.MapMeaning.{MapRecord, MapBox, MapMeaning, map_meaning, box_changed, box_at, count_of}
use Rattle.model_meaning.specs.Sound.{IsSoundMap}
use Rattle.model_octets.proofs.PairLemmas.{IsOnly, all_map, found_only}
use Rattle.model_store.specs.Safe.{LiesInFile, IsThereWhole, SafeBy}
use Rattle.model_store.specs.Settled.{files_of, HasSameRegion, HasSameInstance, AreAlike, IsSettled}
use Rattle.model_store.specs.Stands.{HasBox, AreListed, IsMailbox, AreMailboxes}
use Rattle.model_appends.specs.MapAppending.{IsMapStep, IsMapAppend, LeavesAlike}
use Rattle.model_appends.proofs.AppendMapLemmas.{made_step, mailboxes_still}
use Rattle.model_rewritten.specs.Switched.{list_switched}

-- ---- the meaning

pub records_with : (store : List ℕ) (entries : List MapEntry) (k : BoxNo) (g : ℕ) → (map_meaning store (entries ++ entry.G k g ∷ [])).records ≡ (map_meaning store entries).records
records_with store entries k g = ap (λ (n : MapMeaning). n.records) (map_more store entries (entry.G k g)) ∙ records_by_generation k g (map_meaning store entries).records

pub boxes_with : (store : List ℕ) (entries : List MapEntry) (k : BoxNo) (g : ℕ) → (map_meaning store (entries ++ entry.G k g ∷ [])).boxes ≡ map (box_changed (entry.G k g)) (map_meaning store entries).boxes
boxes_with store entries k g = ap (λ (n : MapMeaning). n.boxes) (map_more store entries (entry.G k g)) ∙ boxes_by_generation k g (map_meaning store entries).boxes

-- the mailbox of a number is the only one
pub only_box : (m : MapMeaning) (number : ℕ) (box : MapBox) → IsSoundMap m → box_at m number ≡ Some box → All (IsOnly (λ (b : MapBox). b.number == number) box) m.boxes
only_box m number box s found =
    found_only (λ (b : MapBox). b.number == number) m.boxes box found
    (λ i j d lt le p q. let a = equal_is _ number p in let b = equal_is _ number q in let h = s.boxes_rising i j d lt le in omega (arith, a, b, h))

-- ---- the mailboxes

-- what a change makes of each mailbox, its log and its list
abbrev pub Switches : Files → MapMeaning → ℕ → ℕ → (Mailbox → Mailbox) → MapBox → Type 0
Switches a m k g change box = box.number ≡ k → (x : Mailbox) → IsMailbox a m box x → IsMailbox a m (record box { generation = g }) (change x)

abbrev pub changed_one : ℕ → (Mailbox → Mailbox) → Lists → Lists
changed_one k change xs = map (λ x. if k == x.number then change x else x) xs

pub mailboxes_switched : (a : Files) (m : MapMeaning) (k : BoxNo) (g : ℕ) (change : Mailbox → Mailbox) (boxes : List MapBox) (xs : Lists) → All (Switches a m k.0 g change) boxes → AreMailboxes a m boxes xs
    → AreMailboxes a m (map (box_changed (entry.G k g)) boxes) (changed_one k.0 change xs)
mailboxes_switched a m k g change [] [] all h = tt
mailboxes_switched a m k g change [] (x ∷ xs) all h = absurd h
mailboxes_switched a m k g change (box ∷ boxes) [] all h = absurd h
mailboxes_switched a m k g change (box ∷ boxes) (x ∷ xs) all h =
    (subst (λ (n : ℕ). IsMailbox a m (box_changed (entry.G k g) box) (if k.0 == n then change x else x)) (sym h.0.number) (one (k.0 == box.number) refl), mailboxes_switched a m k g change boxes xs (All-tail (Switches a m k.0 g change) box boxes all) h.1)
  where
    one : (t : Bool) → (k.0 == box.number) ≡ t → IsMailbox a m (if t then record box { generation = g } else box) (if t then change x else x)
    one true e = All-head (Switches a m k.0 g change) box boxes all (sym (equal_is k.0 box.number e)) x h.0
    one false e = h.0

-- ---- it can be appended

append_with : (a : Files) (store : List ℕ) (entries : List MapEntry) (lists later : Lists) (k : BoxNo) (g : ℕ) → SafeBy a store entries lists → MapInRange (entry.G k g) → MapFits (map_meaning store entries) (entry.G k g)
    → AreMailboxes a (map_meaning store entries) (map (box_changed (entry.G k g)) (map_meaning store entries).boxes) later → ((guid : List ℕ) → refs_of later guid ≤ count_of (map_meaning store entries) guid)
    → IsMapAppend a store entries lists later (entry.G k g)
append_with a store entries lists later k g s in_range fits mailboxes counts =
    let m : MapMeaning = map_meaning store entries in
    let n : MapMeaning = map_meaning store (entries ++ entry.G k g ∷ []) in
    let sound : IsSoundMap m = map_sound store entries s.stands.map_log.fit s.stands.map_log.in_range in
    let records : n.records ≡ m.records = records_with store entries k g in
    let step : IsMapStep a m n = made_step a m n records s.stands.once s.stands.detached in
    record {
      in_range = in_range;
      fits = fits;
      step = step;
      mailboxes = subst (λ (bs : List MapBox). AreMailboxes a n bs later) (sym (boxes_with store entries k g)) (mailboxes_still a m n (map (box_changed (entry.G k g)) m.boxes) later sound refl step counts mailboxes);
      all = record {
        counts = λ guid. subst (λ (rows : List MapRecord). refs_of later guid ≤ option_map_or (λ (row : MapRecord). row.count) (find (λ (row : MapRecord). bytes_eq row.guid guid) rows) 0) (sym records) (counts guid);
        regions = subst (λ (rows : List MapRecord). All (LiesInFile a) rows) (sym records) s.has_all.regions;
        instances = subst (λ (rows : List MapRecord). All (IsThereWhole a) (flat_map (λ (row : MapRecord). row.instances) rows)) (sym records) s.has_all.instances;
      };
    }

-- with other messages: each is stored, and the counts are enough for all
pub switched_is : (k next : ℕ) (messages : List ListedMessage) (xs : Lists) → list_switched k next messages xs ≡ changed_one k (λ x. record x { next_uid = next; messages = messages }) xs
switched_is k next messages [] = refl
switched_is k next messages (x ∷ xs) = ap (λ (ys : Lists). (if k == x.number then record x { next_uid = next; messages = messages } else x) ∷ ys) (switched_is k next messages xs)

pub switch_append : (a : Files) (store : List ℕ) (entries : List MapEntry) (lists : Lists) (mailbox : BoxNo) (generation : ℕ) (box : MapBox) (log : List BoxEntry) (messages : List ListedMessage) → SafeBy a store entries lists
    → MapInRange (entry.G mailbox generation) → MapFits (map_meaning store entries) (entry.G mailbox generation) → box_at (map_meaning store entries) mailbox.0 ≡ Some box
    → HasBox a store (record box { generation = generation }) log → AreListed a (map_meaning store entries) (rows_after log) messages
    → ((guid : List ℕ) → refs_of (list_switched mailbox.0 (next_after log) messages lists) guid ≤ count_of (map_meaning store entries) guid)
    → IsMapAppend a store entries lists (list_switched mailbox.0 (next_after log) messages lists) (entry.G mailbox generation)
switch_append a store entries lists mailbox generation box log messages s in_range fits found has listed counts =
    let m : MapMeaning = map_meaning store entries in
    let sound : IsSoundMap m = map_sound store entries s.stands.map_log.fit s.stands.map_log.in_range in
    let change : Mailbox → Mailbox = λ x. record x { next_uid = next_after log; messages = messages } in
    append_with a store entries lists (list_switched mailbox.0 (next_after log) messages lists) mailbox generation s in_range fits
    (subst (λ (xs : Lists). AreMailboxes a m (map (box_changed (entry.G mailbox generation)) m.boxes) xs) (sym (switched_is mailbox.0 (next_after log) messages lists))
    (mailboxes_switched a m mailbox generation change m.boxes lists
    (All-weaker (IsOnly (λ (b : MapBox). b.number == mailbox.0) box) (Switches a m mailbox.0 generation change)
    (λ b only is x h. record {
      entries = log;
      log = subst (λ (o : MapBox). HasBox a store (record o { generation = generation }) log) (sym (only (equal_yes b.number mailbox.0 is))) has;
      number = h.number;
      name = h.name;
      next = refl;
      messages = listed;
    }) m.boxes (only_box m mailbox.0 box sound found))
    s.stands.mailboxes)) counts

-- with a log that means the same
unchanged : (k : ℕ) (xs : Lists) → changed_one k (λ x. x) xs ≡ xs
unchanged k [] = refl
unchanged k (x ∷ xs) = ap (λ (y : Mailbox). y ∷ changed_one k (λ x. x) xs) (either (k == x.number)) ∙ ap (λ (ys : Lists). x ∷ ys) (unchanged k xs)
  where
    either : (t : Bool) → (if t then x else x) ≡ x
    either true = refl
    either false = refl

pub same_append : (a : Files) (store : List ℕ) (entries : List MapEntry) (lists : Lists) (mailbox : BoxNo) (generation : ℕ) (box : MapBox) (log : List BoxEntry) → SafeBy a store entries lists
    → MapInRange (entry.G mailbox generation) → MapFits (map_meaning store entries) (entry.G mailbox generation) → box_at (map_meaning store entries) mailbox.0 ≡ Some box
    → HasBox a store (record box { generation = generation }) log → ((old : List BoxEntry) → HasBox a store box old → box_meaning log ≡ box_meaning old)
    → IsMapAppend a store entries lists lists (entry.G mailbox generation)
same_append a store entries lists mailbox generation box log s in_range fits found has means =
    let m : MapMeaning = map_meaning store entries in
    let sound : IsSoundMap m = map_sound store entries s.stands.map_log.fit s.stands.map_log.in_range in
    append_with a store entries lists lists mailbox generation s in_range fits
    (subst (λ (xs : Lists). AreMailboxes a m (map (box_changed (entry.G mailbox generation)) m.boxes) xs) (unchanged mailbox.0 lists)
    (mailboxes_switched a m mailbox generation (λ x. x) m.boxes lists
    (All-weaker (IsOnly (λ (b : MapBox). b.number == mailbox.0) box) (Switches a m mailbox.0 generation (λ x. x))
    (λ b only is x h.
    let same : b ≡ box = only (equal_yes b.number mailbox.0 is) in
    let one : box_meaning log ≡ box_meaning h.entries = means h.entries (subst (λ (o : MapBox). HasBox a store o h.entries) same h.log) in
    record {
      entries = log;
      log = subst (λ (o : MapBox). HasBox a store (record o { generation = generation }) log) (sym same) has;
      number = h.number;
      name = h.name;
      next = h.next ∙ sym (ap (λ (o : BoxMeaning). o.next) one);
      messages = subst (λ (o : BoxMeaning). AreListed a m o.rows x.messages) (sym one) h.messages;
    }) m.boxes (only_box m mailbox.0 box sound found))
    s.stands.mailboxes)) s.has_all.counts

-- ---- what a crash may leave

abbrev LogSame : Files → Files → MapBox → Type 0
LogSame a image b = image (file.Box b.number b.generation) ≡ a (file.Box b.number b.generation)

log_same_with : (k : BoxNo) (h : ℕ) (a image : Files) (b : MapBox) → image (file.Box k.0 h) ≡ a (file.Box k.0 h) → LogSame a image b → LogSame a image (box_changed (entry.G k h) b)
log_same_with k h a image b here same = one (k.0 == b.number) refl
  where
    one : (t : Bool) → (k.0 == b.number) ≡ t → LogSame a image (if t then record b { generation = h } else b)
    one true e = subst (λ (number : ℕ). image (file.Box number h) ≡ a (file.Box number h)) (equal_is k.0 b.number e) here
    one false e = same

pub leaves_switched : (disk : DiskState) (lists : Lists) (mailbox : BoxNo) (generation : ℕ) → (s : IsSettled disk lists) → ((image : Files) → IsImage disk image → image (file.Box mailbox.0 generation) ≡ files_of disk (file.Box mailbox.0 generation))
    → LeavesAlike s.safe.stands.map_log.generation (map_meaning s.store (s.entries ++ entry.G mailbox generation ∷ [])) disk
leaves_switched disk lists mailbox generation s held image is =
    let a : Files = files_of disk in
    let m : MapMeaning = map_meaning s.store s.entries in
    let alike : AreAlike s.safe.stands.map_log.generation m a image = s.alike image is in
    let records = records_with s.store s.entries mailbox generation in
    record {
      root = alike.root;
      map = alike.map;
      boxes = subst (λ (bs : List MapBox). All (LogSame a image) bs) (sym (boxes_with s.store s.entries mailbox generation))
          (all_map (LogSame a image) (LogSame a image) (box_changed (entry.G mailbox generation)) (λ b same. log_same_with mailbox generation a image b (held image is) same) m.boxes alike.boxes);
      regions = subst (λ (rows : List MapRecord). All (HasSameRegion a image) rows) (sym records) alike.regions;
      instances = subst (λ (rows : List MapRecord). All (λ (row : MapRecord). All (HasSameInstance a image) row.instances) rows) (sym records) alike.instances;
    }
