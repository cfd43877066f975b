-- One entry more that fits keeps the order of an index.
use Rattle.map_index.proofs.Common.{◌≡◌, ◌≢◌, ◌<◌, ◌≤◌, ◌^◌, ◌==◌, ℕ, max, Bool, true, false, List, [], ◌∷◌, ◌++◌, refl, sym, ap, subst, ◌∙◌, arith, All, AllPairs, nat_lt, All-nil, All-cons, All-weaker, AllPairs-cons, BoxNo, MapUid, MapEntry, MapRecord, MapBox, MapMeaning, IsNumber, equal_is}
use Rattle.map_index.proofs.Common.{pairs_nil, pairs_head, pairs_tail, IsMapInOrder}
use Rattle.std.proofs.Common.{append-nil, length-append}
use Rattle.std.specs.Prelude.{if◌then◌else◌, slice_index_or}
use Rattle.std.proofs.lemmas.Grind.{common_steps}
use Rattle.std.proofs.lemmas.List.Elements.{All-push}
use Rattle.mdbox_base.specs.declared.entries.MapEntry.TheVariants as map
use Rattle.model_meaning.specs.MapMeaning.{map_applied, record_rules, box_rules, with_number, sealed_by}
use Rattle.model_meaning.specs.MapFits.{MapFits, FitsRenamed}
use Rattle.model_meaning.proofs.MapSoundLemmas.{KeepsNames, box_name, box_number, pair_named, turned_equal}
use Rattle.model_meaning.proofs.MapPlaceLemmas.{changed_same, equal_yes}
use Rattle.model_meaning.proofs.SealedLemmas.{all_with}
use Rattle.model_octets.proofs.PairLemmas.{found_only, pairs_push}
use Rattle.model_meaning.proofs.KeptRowLemmas.{kept_all, kept_length, kept_pairs, kept_pairs_from, kept_rows}
use Rattle.map_index.specs.Kept.{AreKeptRecords, AreKeptBoxes, AreKeptFiles}
use Rattle.map_index.proofs.RisingLemmas.{few_rising}

-- ---- records

rows_kept : (entry : MapEntry) (low high : ℕ) (rows : List MapRecord) → low ≤ high → AreKeptRecords low rows → AreKeptRecords high (kept_rows record_rules entry rows)
rows_kept entry low high rows le k = record {
  rising = kept_pairs record_rules entry rows (λ a b. a.uid < b.uid) (λ a b h. let p = (changed_same entry a).uid in let q = (changed_same entry b).uid in omega (arith, h, p, q)) k.rising;
  below = kept_all record_rules entry rows (λ row. row.uid ≤ low) (λ row. row.uid ≤ high) (λ row h. let p = (changed_same entry row).uid in omega (arith, h, p, le)) k.below;
  few = (let a = kept_length record_rules entry rows in let b = k.few in omega (arith, a, b, le));
  guids = kept_pairs record_rules entry rows (λ a b. a.guid ≢ b.guid) (λ a b h e. h (sym (changed_same entry a).guid ∙ e ∙ (changed_same entry b).guid)) k.guids;
}

rows_same : (entry : MapEntry) (low high : ℕ) (rows : List MapRecord) → low ≤ high → AreKeptRecords low rows → AreKeptRecords high (kept_rows record_rules entry rows ++ [])
rows_same entry low high rows le k = subst (AreKeptRecords high) (sym (append-nil (kept_rows record_rules entry rows))) (rows_kept entry low high rows le k)

rows_more : (m : MapMeaning) (entry : MapEntry) → AreKeptRecords m.highest.map m.records → MapFits m entry → AreKeptRecords (map_applied entry m).highest.map (map_applied entry m).records
rows_more m (map.H h) k f = rows_same (map.H h) m.highest.map _ m.records (omega arith) k
rows_more m (map.B b g n) k f = rows_same (map.B b g n) m.highest.map _ m.records (omega arith) k
rows_more m (map.G b g) k f = rows_same (map.G b g) m.highest.map _ m.records (omega arith) k
rows_more m (map.U u) k f = rows_same (map.U u) m.highest.map _ m.records (omega arith) k
rows_more m (map.D us) k f = rows_same (map.D us) m.highest.map _ m.records (omega arith) k
rows_more m (map.T cs) k f = rows_same (map.T cs) m.highest.map _ m.records (omega arith) k
rows_more m (map.P file t ms us) k f = rows_same (map.P file t ms us) m.highest.map _ m.records (omega arith) k
rows_more m (map.E file) k f = rows_same (map.E file) m.highest.map _ m.records (omega arith) k
rows_more m (map.X b cs) k f = rows_same (map.X b cs) m.highest.map _ m.records (omega arith) k
rows_more m (map.V b n) k f = rows_same (map.V b n) m.highest.map _ m.records (omega arith) k
rows_more m (map.S o c u file a z g is) k f =
    let entry : MapEntry = map.S o c u file a z g is in
    let rows : List MapRecord = kept_rows record_rules entry m.records in
    let row : MapRecord = record { uid = u.0; origin = o; count = c; file = file.0; offset = a; size = z; guid = g.0; instances = is } in
    let old = rows_kept entry m.highest.map m.highest.map m.records (omega arith) k in
    let above = f.uid_new in
    record {
      rising = pairs_push (λ x y. x.uid < y.uid) rows row old.rising (All-weaker (λ x. x.uid ≤ m.highest.map) (λ x. x.uid < u.0) (λ x h. omega (arith, h, above)) rows old.below);
      below = All-push (λ x. x.uid ≤ max m.highest.map u.0) rows row (All-weaker (λ x. x.uid ≤ m.highest.map) (λ x. x.uid ≤ max m.highest.map u.0) (λ x h. omega (arith, h)) rows old.below) (omega arith);
      few = (let l = length-append rows (row ∷ []) in let b = old.few in omega (arith, l, b, above));
      guids = pairs_push (λ x y. x.guid ≢ y.guid) rows row old.guids (kept_all record_rules entry m.records (λ x. x.guid ≢ g.0) (λ x. x.guid ≢ g.0) (λ x h. h) f.guid_new);
    }

-- ---- mailboxes

abbrev NamesDiffer : MapBox → MapBox → Type 0
NamesDiffer a b = a.name ≢ b.name

names_kept : (entry : MapEntry) (boxes : List MapBox) → KeepsNames entry → AllPairs NamesDiffer boxes → AllPairs NamesDiffer (kept_rows box_rules entry boxes)
names_kept entry boxes keeps names = kept_pairs box_rules entry boxes NamesDiffer (λ a b h e. h (sym (box_name entry a keeps) ∙ e ∙ box_name entry b keeps)) names

names_renamed : (m : MapMeaning) (mailbox : BoxNo) (name : List ℕ) (high : ℕ) → FitsRenamed m mailbox.0 name → AreKeptBoxes high m.boxes → AllPairs NamesDiffer (kept_rows box_rules (map.V mailbox name) m.boxes)
names_renamed m mailbox name high f k = kept_pairs_from box_rules (map.V mailbox name) m.boxes NamesDiffer (λ i j d lt le.
    let a : MapBox = slice_index_or m.boxes i d in
    let b : MapBox = slice_index_or m.boxes j d in
    pair_named (mailbox.0 == a.number) (mailbox.0 == b.number) mailbox.0 name a b (turned_equal mailbox.0 a.number _ refl) (turned_equal mailbox.0 b.number _ refl) (k.rising i j d lt le)
    (f.name_new i d (omega (arith, lt, le))) (f.name_new j d le) (k.names i j d lt le))

boxes_kept : (entry : MapEntry) (low high : ℕ) (boxes : List MapBox) → low ≤ high → AllPairs NamesDiffer (kept_rows box_rules entry boxes) → AreKeptBoxes low boxes → AreKeptBoxes high (kept_rows box_rules entry boxes)
boxes_kept entry low high boxes le names k = record {
  rising = kept_pairs box_rules entry boxes (λ a b. a.number < b.number) (λ a b h. let p = box_number entry a in let q = box_number entry b in omega (arith, h, p, q)) k.rising;
  below = kept_all box_rules entry boxes (λ box. box.number ≤ low) (λ box. box.number ≤ high) (λ box h. let p = box_number entry box in omega (arith, h, p, le)) k.below;
  room = (let a = kept_length box_rules entry boxes in let b = k.room in omega (arith, a, b));
  names = names;
}

boxes_same : (entry : MapEntry) (low high : ℕ) (boxes : List MapBox) → low ≤ high → AllPairs NamesDiffer (kept_rows box_rules entry boxes) → AreKeptBoxes low boxes → AreKeptBoxes high (kept_rows box_rules entry boxes ++ [])
boxes_same entry low high boxes le names k = subst (AreKeptBoxes high) (sym (append-nil (kept_rows box_rules entry boxes))) (boxes_kept entry low high boxes le names k)

boxes_more : (m : MapMeaning) (entry : MapEntry) → AreKeptBoxes m.highest.mailbox m.boxes → MapFits m entry → AreKeptBoxes (map_applied entry m).highest.mailbox (map_applied entry m).boxes
boxes_more m (map.H h) k f = boxes_same (map.H h) m.highest.mailbox _ m.boxes (omega arith) (names_kept (map.H h) m.boxes tt k.names) k
boxes_more m (map.G b g) k f = boxes_same (map.G b g) m.highest.mailbox _ m.boxes (omega arith) (names_kept (map.G b g) m.boxes tt k.names) k
boxes_more m (map.S o c u file a z g is) k f = boxes_same (map.S o c u file a z g is) m.highest.mailbox _ m.boxes (omega arith) (names_kept (map.S o c u file a z g is) m.boxes tt k.names) k
boxes_more m (map.U u) k f = boxes_same (map.U u) m.highest.mailbox _ m.boxes (omega arith) (names_kept (map.U u) m.boxes tt k.names) k
boxes_more m (map.D us) k f = boxes_same (map.D us) m.highest.mailbox _ m.boxes (omega arith) (names_kept (map.D us) m.boxes tt k.names) k
boxes_more m (map.T cs) k f = boxes_same (map.T cs) m.highest.mailbox _ m.boxes (omega arith) (names_kept (map.T cs) m.boxes tt k.names) k
boxes_more m (map.P file t ms us) k f = boxes_same (map.P file t ms us) m.highest.mailbox _ m.boxes (omega arith) (names_kept (map.P file t ms us) m.boxes tt k.names) k
boxes_more m (map.E file) k f = boxes_same (map.E file) m.highest.mailbox _ m.boxes (omega arith) (names_kept (map.E file) m.boxes tt k.names) k
boxes_more m (map.X b cs) k f = boxes_same (map.X b cs) m.highest.mailbox _ m.boxes (omega arith) (names_kept (map.X b cs) m.boxes tt k.names) k
boxes_more m (map.V b n) k f = boxes_same (map.V b n) m.highest.mailbox _ m.boxes (omega arith) (names_renamed m b n m.highest.mailbox f k) k
boxes_more m (map.B b g n) k f =
    let entry : MapEntry = map.B b g n in
    let boxes : List MapBox = kept_rows box_rules entry m.boxes in
    let box : MapBox = record { number = b.0; generation = g; name = n } in
    let old = boxes_kept entry m.highest.mailbox m.highest.mailbox m.boxes (omega arith) (names_kept entry m.boxes tt k.names) k in
    let above = f.box_new in
    let short = kept_length box_rules entry m.boxes in
    record {
      rising = pairs_push (λ x y. x.number < y.number) boxes box old.rising (All-weaker (λ x. x.number ≤ m.highest.mailbox) (λ x. x.number < b.0) (λ x h. omega (arith, h, above)) boxes old.below);
      below = All-push (λ x. x.number ≤ max m.highest.mailbox b.0) boxes box (All-weaker (λ x. x.number ≤ m.highest.mailbox) (λ x. x.number ≤ max m.highest.mailbox b.0) (λ x h. omega (arith, h)) boxes old.below) (omega arith);
      room = (let l = length-append boxes (box ∷ []) in let r = f.room in omega (arith, l, r, short));
      names = pairs_push (λ x y. x.name ≢ y.name) boxes box old.names (kept_all box_rules entry m.boxes (λ x. x.name ≢ n) (λ x. x.name ≢ n) (λ x h. h) f.name_new);
    }

-- ---- sealed files

abbrev Below : ℕ → ℕ → Type 0
Below a b = a < b

less_is : (a b : ℕ) → nat_lt a b ≡ true → a < b
less_is a b h = grind (arith, common_steps, h)

more_is : (a b : ℕ) → nat_lt a b ≡ false → (a == b) ≡ false → b < a
more_is a b h k = grind (arith, common_steps, h, k)

rises_with : (n : ℕ) (ns : List ℕ) → AllPairs Below ns → AllPairs Below (with_number n ns)
rises_with n [] a = AllPairs-cons Below n [] (All-nil (Below n)) (pairs_nil Below)
rises_with n (m ∷ rest) a = put (nat_lt n m) (n == m) refl refl (rises_with n rest (pairs_tail Below m rest a))
  where
    put : (less same : Bool) → nat_lt n m ≡ less → (n == m) ≡ same → AllPairs Below (with_number n rest) → AllPairs Below (if less then n ∷ m ∷ rest else (if same then m ∷ rest else m ∷ with_number n rest))
    put true same h k t =
        let lt : n < m = less_is n m h in
        AllPairs-cons Below n (m ∷ rest) (All-cons (Below n) m rest lt (All-weaker (Below m) (Below n) (λ x l. omega (arith, l, lt)) rest (pairs_head Below m rest a))) a
    put false true h k t = a
    put false false h k t = AllPairs-cons Below m (with_number n rest) (all_with (Below m) n rest (more_is n m h k) (pairs_head Below m rest a)) t

files_with : (n : ℕ) (files : List ℕ) → IsNumber n → AreKeptFiles files → AreKeptFiles (with_number n files)
files_with n files number k =
    let rising = rises_with n files k.rising in
    let numbers = all_with IsNumber n files number k.numbers in
    record { rising = rising; numbers = numbers; few = few_rising (with_number n files) rising numbers }

files_more : (m : MapMeaning) (entry : MapEntry) → AreKeptFiles m.sealed → MapFits m entry → AreKeptFiles (sealed_by entry m.sealed)
files_more m (map.H h) k f = k
files_more m (map.B b g n) k f = k
files_more m (map.G b g) k f = k
files_more m (map.S o c u file a z g is) k f = k
files_more m (map.U u) k f = k
files_more m (map.D us) k f = k
files_more m (map.T cs) k f = k
files_more m (map.P file t ms us) k f = k
files_more m (map.E file) k f = files_with file.0 m.sealed f k
files_more m (map.X b cs) k f = k
files_more m (map.V b n) k f = k

-- ---- the whole

pub kept_more : (m : MapMeaning) (entry : MapEntry) → IsMapInOrder m → MapFits m entry → (map_applied entry m).highest.map < 2 ^ 32 → IsMapInOrder (map_applied entry m)
kept_more m entry k f fits = record { records = rows_more m entry k.records f; boxes = boxes_more m entry k.boxes f; files = files_more m entry k.files f; fits = fits }

-- an entry that raises a count leaves it in its range
pub can_rise : (m : MapMeaning) (u : MapUid) → IsMapInOrder m → MapFits m (map.U u) → All (λ row. u.0 ≡ row.uid → row.count ≤ 65534) m.records
can_rise m u k f = λ i d lt e.
    let rising = k.records.rising in
    let only = found_only (λ row. row.uid == u.0) m.records f.0 f.1 (λ i j d l le p q. let a = equal_is _ u.0 p in let b = equal_is _ u.0 q in let h = rising i j d l le in omega (arith, a, b, h)) in
    let same : slice_index_or m.records i d ≡ f.0 = only i d lt (equal_yes _ _ (sym e)) in
    let count = f.2 in
    let n = ap (λ (row : MapRecord). row.count) same in
    omega (arith, count, n)
