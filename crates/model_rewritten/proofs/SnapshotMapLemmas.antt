-- A map log that is written anew means what it meant.
use Rattle.std.specs.Prelude.{◌≡◌, ◌≢◌, ◌<◌, ◌≤◌, ◌+◌, ◌==◌, nat_lt, ◌⊎◌, ℕ, max, Bool, false, if◌then◌else◌, List, [], ◌∷◌, ◌++◌, length, map, All, AllPairs, refl}
use Rattle.std.specs.List.{AllByRecursion}
use Rattle.std.proofs.Common.{inl, inr, sym, ◌∙◌, ap, arith, subst, append-nil, append_assoc, length-append}
use Rattle.std.proofs.lemmas.List.{length-map}
use Rattle.std.proofs.lemmas.List.Elements.{All-nil, All-cons, All-head, All-tail, All-weaker}
use Rattle.mdbox_base.specs.Words.{IsNumber}
use Rattle.mdbox_base.specs.declared.entries.Highest.{Highest}
use Rattle.mdbox_base.specs.declared.entries.InstRow.{InstRow}
use Rattle.mdbox_base.specs.declared.entries.MapEntry.{MapEntry}
use Rattle.mdbox_base.specs.declared.entries.MapEntry.TheVariants as map_entry
use Rattle.model_logs.specs.Entries.{MapInRange, RowInRange}
use Rattle.model_meaning.proofs.AppliedLemmas.{records_by_mailbox, records_by_stored, records_by_sealed, records_by_highest, boxes_by_mailbox, boxes_by_stored, boxes_by_sealed, boxes_by_highest}
use Rattle.model_meaning.proofs.MapLemmas.{map_more}
use Rattle.model_meaning.specs.MapFits.{IsApart, AgreesOn, FitsMade, FitsStored, MapFits, AllMapFit}
use Rattle.model_meaning.specs.MapMeaning.{MapRecord, MapBox, MapMeaning, map_meaning, map_applied, higher, numbers_of, no_numbers, with_number, guid_file, instance_number, greatest}
use Rattle.model_meaning.specs.Sound.{IsSoundRecord, IsSoundMapBox, IsSoundMap, AreInRange, AreApart, AgreeOnInstances}
use Rattle.model_octets.proofs.PairLemmas.{pairs_head, pairs_tail}
use Rattle.model_rewritten.specs.Rewriting.{made_entry, stored_again, seal_entry, map_snapshot, NamesUpTo, HasFew, IsRewrittenMap}

abbrev meant : List ℕ → List MapRecord → List MapBox → List ℕ → Highest → MapMeaning
meant store records boxes sealed highest = record { store = store; records = records; boxes = boxes; sealed = sealed; highest = highest }

meant_same : (store : List ℕ) (r s : List MapRecord) (b c : List MapBox) (f g : List ℕ) (h k : Highest) → r ≡ s → b ≡ c → f ≡ g → h ≡ k → meant store r b f h ≡ meant store s c g k
meant_same store r s b c f g h k p q u v = cc (p, q, u, v)

-- no number is higher than these
record IsUpTo (most h : Highest) : Type 0 where
  file : h.file ≤ most.file
  map : h.map ≤ most.map
  instance : h.instance ≤ most.instance
  mailbox : h.mailbox ≤ most.mailbox

-- ---- lists

-- what stands before an element is in this relation to it
pairs_before : {X : Type 0} → (R : X → X → Type 0) (xs ys : List X) (y : X) → AllPairs R (xs ++ y ∷ ys) → All (λ (x : X). R x y) xs
pairs_before R [] ys y p = All-nil (λ (x : _). R x y)
pairs_before R (x ∷ xs) ys y p = All-cons (λ (a : _). R a y) x xs (middle (R x) xs (pairs_head R x (xs ++ y ∷ ys) p)) (pairs_before R xs ys y (pairs_tail R x (xs ++ y ∷ ys) p))
  where
    middle : (P : _ → Type 0) (zs : List _) → All P (zs ++ y ∷ ys) → P y
    middle P [] a = All-head P y ys a
    middle P (z ∷ zs) a = middle P zs (All-tail P z (zs ++ y ∷ ys) a)

further : {X : Type 0} → (R : X → X → Type 0) (xs ys : List X) (y : X) → AllPairs R (xs ++ y ∷ ys) → AllPairs R ((xs ++ y ∷ []) ++ ys)
further R xs ys y p = subst (λ (zs : List _). AllPairs R zs) (sym (append_assoc xs (y ∷ []) ys)) p

by_append : {X : Type 0} → (P : X → Type 0) (xs ys : List X) → AllByRecursion P xs → AllByRecursion P ys → AllByRecursion P (xs ++ ys)
by_append P [] ys h k = k
by_append P (x ∷ xs) ys h k = (h.0, by_append P xs ys h.1 k)

by_map : {X Y : Type 0} → (P : X → Type 0) (Q : Y → Type 0) (f : X → Y) → ((x : X) → P x → Q (f x)) → (xs : List X) → All P xs → AllByRecursion Q (map f xs)
by_map P Q f keeps [] h = tt
by_map P Q f keeps (x ∷ xs) h = (keeps x (All-head P x xs h), by_map P Q f keeps xs (All-tail P x xs h))

each_by : {X : Type 0} → (P : X → Type 0) (xs : List X) → All P xs → AllByRecursion P xs
each_by P [] h = tt
each_by P (x ∷ xs) h = (All-head P x xs h, each_by P xs (All-tail P x xs h))

fit_append : (store : List ℕ) (before xs ys : List MapEntry) → AllMapFit store before xs → AllMapFit store (before ++ xs) ys → AllMapFit store before (xs ++ ys)
fit_append store before [] ys h k = subst (λ (es : List MapEntry). AllMapFit store es ys) (append-nil before) k
fit_append store before (x ∷ xs) ys h k = (h.0, fit_append store (before ++ x ∷ []) xs ys h.1 (subst (λ (es : List MapEntry). AllMapFit store es ys) (sym (append_assoc before (x ∷ []) xs)) k))

-- ---- one entry more

-- Behind entries of a meaning, these fit and lead to a meaning with these rows, whose highest numbers are no higher than these,
-- and whose highest map uid isn't higher than this.
record LeadsTo (store : List ℕ) (most : Highest) (low : ℕ) (before entries : List MapEntry) (records : List MapRecord) (boxes : List MapBox) (sealed : List ℕ) : Type 0 where
  highest : Highest
  means : map_meaning store (before ++ entries) ≡ meant store records boxes sealed highest
  fit : AllMapFit store before entries
  up_to : IsUpTo most highest
  low_map : highest.map ≤ low

-- no entry, and an entry with those behind it
leads_here : (store : List ℕ) (most : Highest) (low : ℕ) (before : List MapEntry) (records : List MapRecord) (boxes : List MapBox) (sealed : List ℕ) (h : Highest) → map_meaning store before ≡ meant store records boxes sealed h
    → IsUpTo most h → h.map ≤ low → LeadsTo store most low before [] records boxes sealed
leads_here store most low before records boxes sealed h m up is_low = record { highest = h; means = ap (map_meaning store) (append-nil before) ∙ m; fit = tt; up_to = up; low_map = is_low }

leads_on : (store : List ℕ) (most : Highest) (low : ℕ) (before : List MapEntry) (e : MapEntry) (rest : List MapEntry) (records : List MapRecord) (boxes : List MapBox) (sealed : List ℕ) → MapFits (map_meaning store before) e
    → LeadsTo store most low (before ++ e ∷ []) rest records boxes sealed → LeadsTo store most low before (e ∷ rest) records boxes sealed
leads_on store most low before e rest records boxes sealed fits r = record {
  highest = r.highest;
  means = ap (map_meaning store) (sym (append_assoc before (e ∷ []) rest)) ∙ r.means;
  fit = (fits, r.fit);
  up_to = r.up_to;
  low_map = r.low_map;
}

-- ---- the mailboxes

abbrev BoxesRise : MapBox → MapBox → Type 0
BoxesRise a b = a.number < b.number

abbrev NamesDiffer : MapBox → MapBox → Type 0
NamesDiffer a b = a.name ≢ b.name

boxes_lead : (store : List ℕ) (most : Highest) (before : List MapEntry) (done rest : List MapBox) (h : Highest) → map_meaning store before ≡ meant store [] done [] h → h.map ≤ 0 → IsUpTo most h
    → All (λ (b : MapBox). h.mailbox < b.number) rest → AllPairs BoxesRise rest → All (IsSoundMapBox most.mailbox) rest → AllPairs NamesDiffer (done ++ rest) → length done + length rest ≤ 1024
    → LeadsTo store most 0 before (map made_entry rest) [] (done ++ rest) []
boxes_lead store most before done [] h m none up above rising sound names room =
    leads_here store most 0 before [] (done ++ []) [] h (m ∙ meant_same store [] [] done (done ++ []) [] [] h h refl (sym (append-nil done)) refl refl) up none
boxes_lead store most before done (b ∷ rest) h m none up above rising sound names room =
    let e : MapEntry = made_entry b in
    let k : Highest = higher h (numbers_of store e) in
    let s : IsSoundMapBox most.mailbox b = All-head (IsSoundMapBox most.mailbox) b rest sound in
    let low : h.mailbox < b.number = All-head (λ (c : MapBox). h.mailbox < c.number) b rest above in
    let below = s.below in
    let f = up.file in
    let g = up.map in
    let i = up.instance in
    let j = up.mailbox in
    let l = length-append done (b ∷ []) in
    let one : map_meaning store (before ++ e ∷ []) ≡ meant store [] (done ++ b ∷ []) [] k =
    map_more store before e ∙ ap (map_applied e) m ∙ meant_same store _ [] _ (done ++ b ∷ []) [] [] k k (records_by_mailbox (record { 0 = b.number }) b.generation b.name []) (boxes_by_mailbox (record { 0 = b.number }) b.generation b.name done) refl refl in
    let new : All (λ (c : MapBox). c.name ≢ b.name) done = pairs_before NamesDiffer done rest b names in
    let fits : FitsMade (meant store [] done [] h) b.number b.generation b.name = record { box_number = s.number; box_new = low; first = s.generation; name_new = new; room = omega (arith, room) } in
    let r = boxes_lead store most (before ++ e ∷ []) (done ++ b ∷ []) rest k one (omega (arith, none)) (record { file = omega (arith, f); map = omega (arith, g); instance = omega (arith, i); mailbox = omega (arith, j, below) })
    (All-weaker (BoxesRise b) (λ (c : MapBox). k.mailbox < c.number) (λ c less. omega (arith, less, low)) rest (pairs_head BoxesRise b rest rising))
    (pairs_tail BoxesRise b rest rising) (All-tail (IsSoundMapBox most.mailbox) b rest sound) (further NamesDiffer done rest b names) (omega (arith, l, room)) in
    leads_on store most 0 before e (map made_entry rest) [] (done ++ b ∷ rest) [] (subst (λ (n : MapMeaning). MapFits n e) (sym m) fits)
    (subst (λ (bs : List MapBox). LeadsTo store most 0 (before ++ e ∷ []) (map made_entry rest) [] bs []) (append_assoc done (b ∷ []) rest) r)

-- ---- the records

-- two records, the earlier one first
record GoTogether (a b : MapRecord) : Type 0 where
  apart : AreApart a b
  guid : a.guid ≢ b.guid
  agree : AgreeOnInstances a b

abbrev RecordsRise : MapRecord → MapRecord → Type 0
RecordsRise a b = a.uid < b.uid

-- a record names no number above these
record NamesNone (store : List ℕ) (most : Highest) (row : MapRecord) : Type 0 where
  file : row.file ≤ most.file
  guid : guid_file store row.guid ≤ most.file
  instances : greatest (λ i. instance_number store i.id.0) row.instances ≤ most.instance

turned : (a b c d : ℕ) → (a ≤ b) ⊎ (c ≤ d) → (c ≤ d) ⊎ (a ≤ b)
turned a b c d (inl h) = inr h
turned a b c d (inr h) = inl h

records_lead : (store : List ℕ) (most : Highest) (before : List MapEntry) (boxes : List MapBox) (done rest : List MapRecord) (h : Highest) → map_meaning store before ≡ meant store done boxes [] h → IsUpTo most h
    → All (λ (r : MapRecord). h.map < r.uid) rest → AllPairs RecordsRise rest → All (IsSoundRecord most.map) rest → All (NamesNone store most) rest → AllPairs GoTogether (done ++ rest)
    → LeadsTo store most most.map before (map stored_again rest) (done ++ rest) boxes []
records_lead store most before boxes done [] h m up above rising sound named together =
    leads_here store most most.map before (done ++ []) boxes [] h (m ∙ meant_same store done (done ++ []) boxes boxes [] [] h h (sym (append-nil done)) refl refl refl) up up.map
records_lead store most before boxes done (row ∷ rest) h m up above rising sound named together =
    let e : MapEntry = stored_again row in
    let k : Highest = higher h (numbers_of store e) in
    let s : IsSoundRecord most.map row = All-head (IsSoundRecord most.map) row rest sound in
    let n : NamesNone store most row = All-head (NamesNone store most) row rest named in
    let low : h.map < row.uid = All-head (λ (r : MapRecord). h.map < r.uid) row rest above in
    let below = s.below in
    let file = n.file in
    let guid = n.guid in
    let instances = n.instances in
    let f = up.file in
    let g = up.map in
    let i = up.instance in
    let j = up.mailbox in
    let one : map_meaning store (before ++ e ∷ []) ≡ meant store (done ++ row ∷ []) boxes [] k =
    map_more store before e ∙ ap (map_applied e) m ∙ meant_same store _ (done ++ row ∷ []) _ boxes [] [] k k
    (records_by_stored row.origin row.count (record { 0 = row.uid }) (record { 0 = row.file }) row.offset row.size (record { 0 = row.guid }) row.instances done)
    (boxes_by_stored row.origin row.count (record { 0 = row.uid }) (record { 0 = row.file }) row.offset row.size (record { 0 = row.guid }) row.instances boxes) refl refl in
    let others : All (λ (r : MapRecord). GoTogether r row) done = pairs_before GoTogether done rest row together in
    let fits : FitsStored (meant store done boxes [] h) row.origin row.uid row.file row.offset row.size row.guid row.instances = record {
      known_origin = s.origin;
      uid_number = s.uid;
      uid_new = low;
      region = record {
        file_number = s.file;
        some = s.size;
        ends = s.ends;
        free = All-weaker (λ (r : MapRecord). GoTogether r row) (λ (r : MapRecord). r.file ≡ row.file → IsApart row.offset row.size r) (λ r t is. turned (r.offset + r.size) row.offset (row.offset + row.size) r.offset (t.apart is)) done others;
      };
      guid_new = All-weaker (λ (r : MapRecord). GoTogether r row) (λ (r : MapRecord). r.guid ≢ row.guid) (λ r t. t.guid) done others;
      known = All-weaker (λ (r : MapRecord). GoTogether r row) (λ (r : MapRecord). All (λ (inst : InstRow). All (AgreesOn inst) r.instances) row.instances) (λ r t. t.agree) done others;
      earlier = s.agree;
    } in
    let r = records_lead store most (before ++ e ∷ []) boxes (done ++ row ∷ []) rest k one
    (record { file = omega (arith, f, file, guid); map = omega (arith, g, below); instance = omega (arith, i, instances); mailbox = omega (arith, j) })
    (All-weaker (RecordsRise row) (λ (o : MapRecord). k.map < o.uid) (λ o less. omega (arith, less, low)) rest (pairs_head RecordsRise row rest rising))
    (pairs_tail RecordsRise row rest rising) (All-tail (IsSoundRecord most.map) row rest sound) (All-tail (NamesNone store most) row rest named) (further GoTogether done rest row together) in
    leads_on store most most.map before e (map stored_again rest) (done ++ row ∷ rest) boxes [] (subst (λ (o : MapMeaning). MapFits o e) (sym m) fits)
    (subst (λ (rs : List MapRecord). LeadsTo store most most.map (before ++ e ∷ []) (map stored_again rest) rs boxes []) (append_assoc done (row ∷ []) rest) r)

-- ---- the sealed files

abbrev NumbersRise : ℕ → ℕ → Type 0
NumbersRise a b = a < b

not_less : (a b : ℕ) → b < a → nat_lt a b ≡ false
not_less a b h = grind (arith, h)

not_equal : (a b : ℕ) → b < a → (a == b) ≡ false
not_equal a b h = grind (arith, h)

with_last : (n : ℕ) (xs : List ℕ) → All (λ (x : ℕ). x < n) xs → with_number n xs ≡ xs ++ n ∷ []
with_last n [] a = refl
with_last n (x ∷ xs) a =
    let less : x < n = All-head (λ (y : ℕ). y < n) x xs a in
    ap (λ (t : Bool). if t then n ∷ x ∷ xs else (if n == x then x ∷ xs else x ∷ with_number n xs)) (not_less n x less)
    ∙ ap (λ (t : Bool). if t then x ∷ xs else x ∷ with_number n xs) (not_equal n x less)
    ∙ ap (λ (ys : List ℕ). x ∷ ys) (with_last n xs (All-tail (λ (y : ℕ). y < n) x xs a))

sealed_lead : (store : List ℕ) (most : Highest) (before : List MapEntry) (records : List MapRecord) (boxes : List MapBox) (done rest : List ℕ) (h : Highest) → map_meaning store before ≡ meant store records boxes done h → IsUpTo most h
    → AllPairs NumbersRise (done ++ rest) → All IsNumber rest → All (λ (n : ℕ). n ≤ most.file) rest → LeadsTo store most most.map before (map seal_entry rest) records boxes (done ++ rest)
sealed_lead store most before records boxes done [] h m up rising numbers named =
    leads_here store most most.map before records boxes (done ++ []) h (m ∙ meant_same store records records boxes boxes done (done ++ []) h h refl refl (sym (append-nil done)) refl) up up.map
sealed_lead store most before records boxes done (n ∷ rest) h m up rising numbers named =
    let e : MapEntry = seal_entry n in
    let k : Highest = higher h (numbers_of store e) in
    let file : n ≤ most.file = All-head (λ (o : ℕ). o ≤ most.file) n rest named in
    let f = up.file in
    let g = up.map in
    let i = up.instance in
    let j = up.mailbox in
    let one : map_meaning store (before ++ e ∷ []) ≡ meant store records boxes (done ++ n ∷ []) k =
    map_more store before e ∙ ap (map_applied e) m ∙ meant_same store _ records _ boxes _ (done ++ n ∷ []) k k (records_by_sealed (record { 0 = n }) records) (boxes_by_sealed (record { 0 = n }) boxes) (with_last n done (pairs_before NumbersRise done rest n rising)) refl in
    let r = sealed_lead store most (before ++ e ∷ []) records boxes (done ++ n ∷ []) rest k one (record { file = omega (arith, f, file); map = omega (arith, g); instance = omega (arith, i); mailbox = omega (arith, j) })
    (further NumbersRise done rest n rising) (All-tail IsNumber n rest numbers) (All-tail (λ (o : ℕ). o ≤ most.file) n rest named) in
    leads_on store most most.map before e (map seal_entry rest) records boxes (done ++ n ∷ rest) (All-head IsNumber n rest numbers)
    (subst (λ (ns : List ℕ). LeadsTo store most most.map (before ++ e ∷ []) (map seal_entry rest) records boxes ns) (append_assoc done (n ∷ []) rest) r)

-- ---- the highest numbers

highest_same : (h most : Highest) → IsUpTo most h → higher h most ≡ most
highest_same h most up = of_four (max h.file most.file) (max h.map most.map) (max h.instance most.instance) (max h.mailbox most.mailbox) (let u = up.file in omega (arith, u)) (let u = up.map in omega (arith, u)) (let u = up.instance in omega (arith, u)) (let u = up.mailbox in omega (arith, u))
  where
    made : ℕ → ℕ → ℕ → ℕ → Highest
    made f m i b = record { file = f; map = m; instance = i; mailbox = b }

    of_four : (f m i b : ℕ) → f ≡ most.file → m ≡ most.map → i ≡ most.instance → b ≡ most.mailbox → made f m i b ≡ made most.file most.map most.instance most.mailbox
    of_four f m i b p q r s = cc (p, q, r, s)

-- the last entry
ends_with : (store : List ℕ) (before : List MapEntry) (records : List MapRecord) (boxes : List MapBox) (sealed : List ℕ) (h most : Highest) → map_meaning store before ≡ meant store records boxes sealed h → IsUpTo most h → AreInRange most
    → (map_meaning store (before ++ map_entry.H most ∷ []) ≡ meant store records boxes sealed most) × AllMapFit store before (map_entry.H most ∷ [])
ends_with store before records boxes sealed h most m up in_range =
    let e : MapEntry = map_entry.H most in
    let fits : MapFits (meant store records boxes sealed h) e = (
      record { no_less = up.file; high = in_range.file },
      record { no_less = up.map; high = in_range.map },
      record { no_less = up.instance; high = in_range.instance },
      record { no_less = up.mailbox; high = in_range.mailbox },
    ) in
    let end : map_meaning store (before ++ e ∷ []) ≡ meant store records boxes sealed most =
    map_more store before e ∙ ap (map_applied e) m ∙ meant_same store _ records _ boxes sealed sealed _ most (records_by_highest most records) (boxes_by_highest most boxes) refl (highest_same h most up) in
    (end, (subst (λ (n : MapMeaning). MapFits n e) (sym m) fits, tt))

-- ---- whole

record Means (m : MapMeaning) (entries : List MapEntry) : Type 0 where
  means : map_meaning m.store entries ≡ m
  fit : AllMapFit m.store [] entries

together : (m : MapMeaning) → IsSoundMap m → AllPairs GoTogether m.records
together m s = λ i j d lt le. record { apart = s.apart i j d lt le; guid = s.guids i j d lt le; agree = s.agree i j d lt le }

map_means : (m : MapMeaning) → IsSoundMap m → AreInRange m.highest → NamesUpTo m → Means m (map_snapshot m)
map_means m s in_range named =
    let store : List ℕ = m.store in
    let most : Highest = m.highest in
    let ones : List MapEntry = map made_entry m.boxes in
    let twos : List MapEntry = map stored_again m.records in
    let threes : List MapEntry = map seal_entry m.sealed in
    let last : List MapEntry = map_entry.H most ∷ [] in
    let a = boxes_lead store most [] [] m.boxes no_numbers refl (omega arith) (record { file = omega arith; map = omega arith; instance = omega arith; mailbox = omega arith })
    (All-weaker (IsSoundMapBox most.mailbox) (λ (b : MapBox). 0 < b.number) (λ b h. let l = h.number.low in omega (arith, l)) m.boxes s.boxes) s.boxes_rising s.boxes s.names (let r = s.room in omega (arith, r)) in
    let low = a.low_map in
    let b = records_lead store most ones m.boxes [] m.records a.highest a.means a.up_to
    (All-weaker (IsSoundRecord most.map) (λ (r : MapRecord). a.highest.map < r.uid) (λ r h. let l = h.uid.low in omega (arith, l, low)) m.records s.records) s.rising s.records
    (λ k d lt. record { file = s.files k d lt; guid = named.guids k d lt; instances = named.instances k d lt }) (together m s) in
    let c = sealed_lead store most (ones ++ twos) m.records m.boxes [] m.sealed b.highest b.means b.up_to named.rising s.sealed named.sealed in
    let d = ends_with store ((ones ++ twos) ++ threes) m.records m.boxes m.sealed c.highest most c.means c.up_to in_range in
    record {
      means = ap (map_meaning store) (sym (append_assoc (ones ++ twos) threes last ∙ append_assoc ones twos (threes ++ last))) ∙ d.0;
      fit = fit_append store [] ones (twos ++ (threes ++ last)) a.fit (fit_append store ones twos (threes ++ last) b.fit (fit_append store (ones ++ twos) threes last c.fit d.1));
    }

-- ---- in range

record IsWritten (most : ℕ) (row : MapRecord) : Type 0 where
  sound : IsSoundRecord most row
  few : HasFew row

record_ranges : (most : ℕ) (row : MapRecord) → IsWritten most row → MapInRange (stored_again row)
record_ranges most row w =
    let s : IsSoundRecord most row = w.sound in
    let origin = s.origin in
    let count = s.count in
    let uid = s.uid.high in
    let file = s.file.high in
    let size = s.size in
    let ends = s.ends in
    (omega (arith, origin), omega (arith, count), omega (arith, uid), omega (arith, file), omega (arith, ends, size), omega (arith, ends), s.guid, w.few, each_by RowInRange row.instances s.instances)

box_ranges : (most : ℕ) (b : MapBox) → IsSoundMapBox most b → MapInRange (made_entry b)
box_ranges most b s = let n = s.number.high in let g = s.generation.high in (omega (arith, n), omega (arith, g), s.name)

number_ranges : (n : ℕ) → IsNumber n → MapInRange (seal_entry n)
number_ranges n h = let k = h.high in omega (arith, k)

map_in_range : (m : MapMeaning) → IsSoundMap m → AreInRange m.highest → All HasFew m.records → AllByRecursion MapInRange (map_snapshot m)
map_in_range m s in_range few =
    let file = in_range.file in
    let uid = in_range.map in
    let instance = in_range.instance in
    let mailbox = in_range.mailbox in
    let tail : List MapEntry = map seal_entry m.sealed ++ map_entry.H m.highest ∷ [] in
    by_append MapInRange (map made_entry m.boxes) (map stored_again m.records ++ tail) (by_map (IsSoundMapBox m.highest.mailbox) MapInRange made_entry (box_ranges m.highest.mailbox) m.boxes s.boxes)
    (by_append MapInRange (map stored_again m.records) tail (by_map (IsWritten m.highest.map) MapInRange stored_again (record_ranges m.highest.map) m.records (λ k d lt. record { sound = s.records k d lt; few = few k d lt }))
    (by_append MapInRange (map seal_entry m.sealed) (map_entry.H m.highest ∷ []) (by_map IsNumber MapInRange seal_entry number_ranges m.sealed s.sealed)
    ((omega (arith, file), omega (arith, uid), omega (arith, instance), omega (arith, mailbox)), tt)))

pub map_rewritten : (m : MapMeaning) → IsSoundMap m → AreInRange m.highest → NamesUpTo m → All HasFew m.records → IsRewrittenMap m (map_snapshot m)
map_rewritten m s in_range named few =
    let w = map_means m s in_range named in
    let tail : List MapEntry = map seal_entry m.sealed ++ map_entry.H m.highest ∷ [] in
    let a = length-append (map made_entry m.boxes) (map stored_again m.records ++ tail) in
    let b = length-append (map stored_again m.records) tail in
    let c = length-append (map seal_entry m.sealed) (map_entry.H m.highest ∷ []) in
    let x = length-map m.boxes made_entry in
    let y = length-map m.records stored_again in
    let z = length-map m.sealed seal_entry in
    record { means = w.means; fit = w.fit; in_range = map_in_range m s in_range few; few = omega (arith, a, b, c, x, y, z) }
