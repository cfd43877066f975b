-- The entries of a rebuilt map log fit, and what they mean.
use Rattle.std.specs.Prelude.{◌≡◌, ◌≢◌, ◌≤◌, ◌<◌, ◌+◌, ◌⊎◌, max, ℕ, List, [], ◌∷◌, ◌++◌, length, map, refl, All, AllPairs, Contains}
use Rattle.std.proofs.Common.{inl, inr, sym, ◌∙◌, ap, subst, arith, append_assoc, append-nil, length-append}
use Rattle.std.proofs.lemmas.List.Elements.{All-nil, All-cons, All-head, All-tail, All-push, All-weaker, All-contains, All-contains_itself, Contains-append_left, Contains-append_right, Contains-get_or}
use Rattle.disk_model.specs.Disk.{Files}
use Rattle.mdbox_base.specs.Words.{IsNumber}
use Rattle.mdbox_base.specs.declared.entries.Highest.{Highest}
use Rattle.mdbox_base.specs.declared.entries.InstRow.{InstRow}
use Rattle.mdbox_base.specs.declared.entries.MapEntry.{MapEntry}
use Rattle.mdbox_base.specs.declared.entries.MapEntry.TheVariants as map_entry
use Rattle.model_octets.proofs.PairLemmas.{pairs_head, pairs_tail}
use Rattle.model_octets.proofs.SearchLemmas.{among}
use Rattle.model_meaning.specs.MapFits.{IsApart, AgreesOn, FitsStored, FitsMade, AllMapFit}
use Rattle.model_meaning.specs.MapMeaning.{MapRecord, MapBox, MapMeaning, map_meaning, numbers_of, record_rules, box_rules}
use Rattle.model_meaning.specs.Rows.{rows_by}
use Rattle.model_meaning.proofs.AppliedLemmas.{records_by_mailbox, records_by_stored, records_by_sealed, boxes_by_mailbox, boxes_by_stored, boxes_by_sealed}
use Rattle.model_meaning.proofs.MapLemmas.{map_more}
use Rattle.model_rebuild.specs.RebuiltLogs.{made_from, rebuilt_entry, all_stored_from}
use Rattle.model_taken.proofs.GoodListLemmas.{IsStored, StandApart, IsGoodList}
use Rattle.model_taken.specs.Taken.{TakenMessage, record_for, instances_taken}

-- ---- entries one after another

pub fit_behind : (store : List ℕ) (before xs ys : List MapEntry) → AllMapFit store before xs → AllMapFit store (before ++ xs) ys → AllMapFit store before (xs ++ ys)
fit_behind store before [] ys a b = subst (λ (es : List MapEntry). AllMapFit store es ys) (append-nil before) b
fit_behind store before (x ∷ xs) ys a b = (a.0, fit_behind store (before ++ x ∷ []) xs ys a.1 (subst (λ (es : List MapEntry). AllMapFit store es ys) (sym (append_assoc before (x ∷ []) xs)) b))

-- what is read of a meaning
pub record Reads (store : List ℕ) (entries : List MapEntry) (records : List MapRecord) (boxes : List MapBox) (uid mailbox : ℕ) : Type 0 where
  pub records_are : (map_meaning store entries).records ≡ records
  pub boxes_are : (map_meaning store entries).boxes ≡ boxes
  pub uids : (map_meaning store entries).highest.map ≤ uid
  pub numbers : (map_meaning store entries).highest.mailbox ≤ mailbox

-- with one entry more
reads_more : (store : List ℕ) (entries : List MapEntry) (e : MapEntry) (records later : List MapRecord) (boxes then : List MapBox) (uid next mailbox number : ℕ) → Reads store entries records boxes uid mailbox
    → rows_by record_rules e records ≡ later → rows_by box_rules e boxes ≡ then → max uid (numbers_of store e).map ≤ next → max mailbox (numbers_of store e).mailbox ≤ number → Reads store (entries ++ e ∷ []) later then next number
reads_more store entries e records later boxes then uid next mailbox number r re be ue ne =
    let m = map_more store entries e in
    let u : (map_meaning store (entries ++ e ∷ [])).highest.map ≡ max (map_meaning store entries).highest.map (numbers_of store e).map = ap (λ (x : MapMeaning). x.highest.map) m in
    let n : (map_meaning store (entries ++ e ∷ [])).highest.mailbox ≡ max (map_meaning store entries).highest.mailbox (numbers_of store e).mailbox = ap (λ (x : MapMeaning). x.highest.mailbox) m in
    let a = r.uids in
    let b = r.numbers in
    record {
      records_are = ap (λ (x : MapMeaning). x.records) m ∙ (ap (rows_by record_rules e) r.records_are ∙ re);
      boxes_are = ap (λ (x : MapMeaning). x.boxes) m ∙ (ap (rows_by box_rules e) r.boxes_are ∙ be);
      uids = omega (arith, u, a, ue);
      numbers = omega (arith, n, b, ne);
    }

-- ---- the first entry

pub first_reads : (store : List ℕ) (h : Highest) → h.map ≡ 0 → h.mailbox ≡ 0 → Reads store (map_entry.H h ∷ []) [] [] 0 0
first_reads store h m b = record {
  records_are = refl;
  boxes_are = refl;
  uids = omega (arith, m);
  numbers = omega (arith, b);
}

pub first_fits : (store : List ℕ) (h : Highest) → h.file ≤ 4294967294 → h.instance ≤ 4294967294 → h.map ≡ 0 → h.mailbox ≡ 0 → AllMapFit store [] (map_entry.H h ∷ [])
first_fits store h f i m b =
    ((record { no_less = omega arith; high = f }, record { no_less = omega arith; high = omega (arith, m) }, record { no_less = omega arith; high = i }, record { no_less = omega arith; high = omega (arith, b) }), tt)

-- ---- mailboxes

abbrev pub box_of : ℕ → ℕ → List ℕ → MapBox
box_of number generation name = record { number = number; generation = generation; name = name }

abbrev pub boxes_from : ℕ → ℕ → List (List ℕ) → List MapBox
boxes_from number generation [] = []
boxes_from number generation (name ∷ names) = box_of number generation name ∷ boxes_from (number + 1) generation names

abbrev AreNew : List MapBox → List (List ℕ) → Type 0
AreNew boxes names = All (λ name. All (λ box. box.name ≢ name) boxes) names

still_new : (box : MapBox) (boxes : List MapBox) (names : List (List ℕ)) → All (λ name. box.name ≢ name) names → AreNew boxes names → AreNew (boxes ++ box ∷ []) names
still_new box boxes [] p q = All-nil (λ (name : List ℕ). All (λ b. b.name ≢ name) (boxes ++ box ∷ []))
still_new box boxes (name ∷ names) p q =
    All-cons (λ (n : List ℕ). All (λ b. b.name ≢ n) (boxes ++ box ∷ [])) name names
    (All-push (λ (b : MapBox). b.name ≢ name) boxes box (All-head (λ (n : List ℕ). All (λ b. b.name ≢ n) boxes) name names q) (All-head (λ (n : List ℕ). box.name ≢ n) name names p))
    (still_new box boxes names (All-tail (λ (n : List ℕ). box.name ≢ n) name names p) (All-tail (λ (n : List ℕ). All (λ b. b.name ≢ n) boxes) name names q))

-- what the mailboxes' entries ask, and what they leave
pub record MadeAfter (store : List ℕ) (before : List MapEntry) (number generation : ℕ) (names : List (List ℕ)) (records : List MapRecord) (boxes : List MapBox) (uid : ℕ) : Type 0 where
  pub fit : AllMapFit store before (made_from number generation names)
  pub last : ℕ
  pub reads : Reads store (before ++ made_from number generation names) records (boxes ++ boxes_from number generation names) uid last

pub made_after : (store : List ℕ) (before : List MapEntry) (number generation : ℕ) (names : List (List ℕ)) (records : List MapRecord) (boxes : List MapBox) (uid mailbox : ℕ) → Reads store before records boxes uid mailbox → mailbox < number → IsNumber generation → AllPairs (λ a b. a ≢ b) names → AreNew boxes names
    → length boxes + length names ≤ 1024 → number + length names ≤ 4294967295 → MadeAfter store before number generation names records boxes uid
made_after store before number generation [] records boxes uid mailbox r l g apart new few high = record {
  fit = tt;
  last = mailbox;
  reads = subst (λ (es : List MapEntry). Reads store es records (boxes ++ []) uid mailbox) (sym (append-nil before)) (subst (λ (bs : List MapBox). Reads store before records bs uid mailbox) (sym (append-nil boxes)) r);
}
made_after store before number generation (name ∷ names) records boxes uid mailbox r l g apart new few high =
    let e : MapEntry = map_entry.B (record { 0 = number }) generation name in
    let box = box_of number generation name in
    let above : (map_meaning store before).highest.mailbox < number = (let k = r.numbers in omega (arith, k, l)) in
    let new_name : All (λ b. b.name ≢ name) (map_meaning store before).boxes = subst (λ (bs : List MapBox). All (λ b. b.name ≢ name) bs) (sym r.boxes_are) (All-head (λ (n : List ℕ). All (λ b. b.name ≢ n) boxes) name names new) in
    let room : length (map_meaning store before).boxes < 1024 = (let k = ap (λ (bs : List MapBox). length bs) r.boxes_are in omega (arith, k, few)) in
    let fits : FitsMade (map_meaning store before) number generation name = record { box_number = record { low = omega (arith, l); high = omega (arith, high) }; box_new = above; first = g; name_new = new_name; room = room } in
    let more = reads_more store before e records records boxes (boxes ++ box ∷ []) uid uid mailbox number r (records_by_mailbox (record { 0 = number }) generation name records) (boxes_by_mailbox (record { 0 = number }) generation name boxes) (omega arith) (omega (arith, l)) in
    let one = length-append boxes (box ∷ []) in
    let rest = made_after store (before ++ e ∷ []) (number + 1) generation names records (boxes ++ box ∷ []) uid number more (omega arith) g (pairs_tail (λ (a b : List ℕ). a ≢ b) name names apart)
    (still_new box boxes names (pairs_head (λ (a b : List ℕ). a ≢ b) name names apart) (All-tail (λ (n : List ℕ). All (λ b. b.name ≢ n) boxes) name names new)) (omega (arith, one, few)) (omega (arith, high)) in
    record {
      fit = (fits, rest.fit);
      last = rest.last;
      reads = subst (λ (es : List MapEntry). Reads store es records (boxes ++ box ∷ boxes_from (number + 1) generation names) uid rest.last) (append_assoc before (e ∷ []) (made_from (number + 1) generation names))
          (subst (λ (bs : List MapBox). Reads store ((before ++ e ∷ []) ++ made_from (number + 1) generation names) records bs uid rest.last) (append_assoc boxes (box ∷ []) (boxes_from (number + 1) generation names)) rest.reads);
    }

-- ---- messages

abbrev pub records_from : ℕ → List TakenMessage → List MapRecord
records_from uid [] = []
records_from uid (t ∷ rest) = record_for uid t ∷ records_from (uid + 1) rest

records_behind : (uid : ℕ) (xs ys : List TakenMessage) → records_from uid (xs ++ ys) ≡ records_from uid xs ++ records_from (uid + length xs) ys
records_behind uid [] ys = ap (λ (n : ℕ). records_from n ys) (omega arith)
records_behind uid (x ∷ xs) ys = ap (λ (rs : List MapRecord). record_for uid x ∷ rs) (records_behind (uid + 1) xs ys ∙ ap (λ (n : ℕ). records_from (uid + 1) xs ++ records_from n ys) (omega arith))

all_records : (P : TakenMessage → Type 0) (Q : MapRecord → Type 0) (uid : ℕ) (ts : List TakenMessage) → ((n : ℕ) (t : TakenMessage) → P t → Q (record_for n t)) → All P ts → All Q (records_from uid ts)
all_records P Q uid [] f h = All-nil Q
all_records P Q uid (t ∷ ts) f h = All-cons Q (record_for uid t) (records_from (uid + 1) ts) (f uid t (All-head P t ts h)) (all_records P Q (uid + 1) ts f (All-tail P t ts h))

-- each one before stands so to one after
pairs_before : {X : Type 0} → (R : X → X → Type 0) (xs ys : List X) (y : X) → AllPairs R (xs ++ y ∷ ys) → All (λ x. R x y) xs
pairs_before R [] ys y h = All-nil (λ x. R x y)
pairs_before R (x ∷ xs) ys y h = All-cons (λ z. R z y) x xs (All-contains (R x) (xs ++ y ∷ ys) y (pairs_head R x (xs ++ y ∷ ys) h) (Contains-append_right xs (y ∷ ys) y (first_of y ys))) (pairs_before R xs ys y (pairs_tail R x (xs ++ y ∷ ys) h))
  where
    first_of : {X : Type 0} → (y : X) (ys : List X) → Contains (y ∷ ys) y
    first_of y ys = All-head (Contains (y ∷ ys)) y ys (All-contains_itself (y ∷ ys))

all_middle : {X : Type 0} → (P : X → Type 0) (xs ys : List X) (y : X) → All P (xs ++ y ∷ ys) → P y
all_middle P [] ys y h = All-head P y ys h
all_middle P (x ∷ xs) ys y h = all_middle P xs ys y (All-tail P x (xs ++ y ∷ ys) h)

all_of : {X : Type 0} → (P : X → Type 0) (xs : List X) → ((x : X) → Contains xs x → P x) → All P xs
all_of P xs f = All-weaker (Contains xs) P f xs (All-contains_itself xs)

named_in : (ts : List TakenMessage) (t : TakenMessage) (i : InstRow) → Contains ts t → Contains t.instances i → Contains (instances_taken ts) i
named_in [] t i c d = absurd (let k = c.1 in omega (arith, k))
named_in (x ∷ xs) t i c d = by_place (among x xs t c) (λ e. named_in xs t i e d)
  where
    by_place : (x ≡ t) ⊎ Contains xs t → (Contains xs t → Contains (instances_taken xs) i) → Contains (instances_taken (x ∷ xs)) i
    by_place (inl e) rest = Contains-append_left x.instances (instances_taken xs) i (subst (λ (u : TakenMessage). Contains u.instances i) (sym e) d)
    by_place (inr e) rest = Contains-append_right x.instances (instances_taken xs) i (rest e)

first_of : (y : TakenMessage) (ys : List TakenMessage) → Contains (y ∷ ys) y
first_of y ys = All-head (Contains (y ∷ ys)) y ys (All-contains_itself (y ∷ ys))

-- a message fits after those before it
fits_next : (files : Files) (store : List ℕ) (before : List MapEntry) (earlier rest : List TakenMessage) (t : TakenMessage) (boxes : List MapBox) (mailbox : ℕ) → IsGoodList files (earlier ++ t ∷ rest) → Reads store before (records_from 1 earlier) boxes (length earlier) mailbox
    → FitsStored (map_meaning store before) 1 (length earlier + 1) t.file t.offset t.size t.guid t.instances
fits_next files store before earlier rest t boxes mailbox good r =
    let all = earlier ++ t ∷ rest in
    let stored = all_middle (IsStored files) earlier rest t good.stored in
    let here : Contains all t = Contains-append_right earlier (t ∷ rest) t (first_of t rest) in
    let many = length-append earlier (t ∷ rest) in
    let few = good.few in
    let up = r.uids in
    let in_map = λ (Q : MapRecord → Type 0) (h : All Q (records_from 1 earlier)). subst (λ (rows : List MapRecord). All Q rows) (sym r.records_are) h in
    record {
      known_origin = omega arith;
      uid_number = record { low = omega arith; high = omega (arith, many, few) };
      uid_new = omega (arith, up);
      region = record {
        file_number = stored.number;
        some = stored.some;
        ends = stored.ends;
        free = in_map (λ (row : MapRecord). row.file ≡ t.file → IsApart t.offset t.size row)
            (all_records (λ (u : TakenMessage). StandApart u t) (λ (row : MapRecord). row.file ≡ t.file → IsApart t.offset t.size row) 1 earlier (λ n u h e. inr (h e)) (pairs_before StandApart earlier rest t good.apart));
      };
      guid_new = in_map (λ (row : MapRecord). row.guid ≢ t.guid) (all_records (λ (u : TakenMessage). u.guid ≢ t.guid) (λ (row : MapRecord). row.guid ≢ t.guid) 1 earlier (λ n u h. h) (pairs_before (λ (a b : TakenMessage). a.guid ≢ b.guid) earlier rest t good.guids));
      known = in_map (λ (row : MapRecord). All (λ i. All (AgreesOn i) row.instances) t.instances)
          (all_records (Contains all) (λ (row : MapRecord). All (λ i. All (AgreesOn i) row.instances) t.instances) 1 earlier
          (λ n u c. all_of (λ (i : InstRow). All (AgreesOn i) u.instances) t.instances (λ i d. all_of (AgreesOn i) u.instances (λ j f. good.agree i j (named_in all t i here d) (named_in all u j c f))))
          (all_of (Contains all) earlier (λ u c. Contains-append_left earlier (t ∷ rest) u c)));
      earlier = λ i j d lt le. good.agree _ _ (named_in all t _ here (Contains-get_or t.instances i d (omega (arith, lt, le)))) (named_in all t _ here (Contains-get_or t.instances j d le));
    }

pub record StoredAfter (store : List ℕ) (before : List MapEntry) (earlier rest : List TakenMessage) (boxes : List MapBox) (mailbox : ℕ) : Type 0 where
  pub fit : AllMapFit store before (all_stored_from (length earlier + 1) rest)
  pub reads : Reads store (before ++ all_stored_from (length earlier + 1) rest) (records_from 1 (earlier ++ rest)) boxes (length (earlier ++ rest)) mailbox

pub stored_after : (files : Files) (store : List ℕ) (before : List MapEntry) (earlier rest : List TakenMessage) (boxes : List MapBox) (mailbox : ℕ) → IsGoodList files (earlier ++ rest) → Reads store before (records_from 1 earlier) boxes (length earlier) mailbox → StoredAfter store before earlier rest boxes mailbox
stored_after files store before earlier [] boxes mailbox good r = record {
  fit = tt;
  reads = subst (λ (es : List MapEntry). Reads store es (records_from 1 (earlier ++ [])) boxes (length (earlier ++ [])) mailbox) (sym (append-nil before)) (subst (λ (ts : List TakenMessage). Reads store before (records_from 1 ts) boxes (length ts) mailbox) (sym (append-nil earlier)) r);
}
stored_after files store before earlier (t ∷ rest) boxes mailbox good r =
    let e : MapEntry = rebuilt_entry (length earlier + 1) t in
    let one = length-append earlier (t ∷ []) in
    let rows : rows_by record_rules e (records_from 1 earlier) ≡ records_from 1 (earlier ++ t ∷ []) =
    records_by_stored 1 1 (record { 0 = length earlier + 1 }) (record { 0 = t.file }) t.offset t.size (record { 0 = t.guid }) t.instances (records_from 1 earlier)
    ∙ (ap (λ (n : ℕ). records_from 1 earlier ++ record_for n t ∷ []) (omega arith) ∙ sym (records_behind 1 earlier (t ∷ []))) in
    let more = reads_more store before e (records_from 1 earlier) (records_from 1 (earlier ++ t ∷ [])) boxes boxes (length earlier) (length (earlier ++ t ∷ [])) mailbox mailbox r rows
    (boxes_by_stored 1 1 (record { 0 = length earlier + 1 }) (record { 0 = t.file }) t.offset t.size (record { 0 = t.guid }) t.instances boxes) (omega (arith, one)) (omega arith) in
    let joined = append_assoc earlier (t ∷ []) rest in
    let behind = stored_after files store (before ++ e ∷ []) (earlier ++ t ∷ []) rest boxes mailbox (subst (IsGoodList files) (sym joined) good) more in
    let next : length (earlier ++ t ∷ []) + 1 ≡ length earlier + 1 + 1 = omega (arith, one) in
    record {
      fit = (fits_next files store before earlier rest t boxes mailbox good r, subst (λ (n : ℕ). AllMapFit store (before ++ e ∷ []) (all_stored_from n rest)) next behind.fit);
      reads = subst (λ (es : List MapEntry). Reads store es (records_from 1 (earlier ++ t ∷ rest)) boxes (length (earlier ++ t ∷ rest)) mailbox)
          (ap (λ (n : ℕ). (before ++ e ∷ []) ++ all_stored_from n rest) next ∙ append_assoc before (e ∷ []) (all_stored_from (length earlier + 1 + 1) rest))
          (subst (λ (ts : List TakenMessage). Reads store ((before ++ e ∷ []) ++ all_stored_from (length (earlier ++ t ∷ []) + 1) rest) (records_from 1 ts) boxes (length ts) mailbox) joined behind.reads);
    }

-- ---- seals

abbrev pub seals_of : List ℕ → List MapEntry
seals_of numbers = map (λ number. map_entry.E (record { 0 = number })) numbers

pub record SealedAfter (store : List ℕ) (before : List MapEntry) (numbers : List ℕ) (records : List MapRecord) (boxes : List MapBox) (uid mailbox : ℕ) : Type 0 where
  pub fit : AllMapFit store before (seals_of numbers)
  pub reads : Reads store (before ++ seals_of numbers) records boxes uid mailbox

pub sealed_after_all : (store : List ℕ) (before : List MapEntry) (numbers : List ℕ) (records : List MapRecord) (boxes : List MapBox) (uid mailbox : ℕ) → All IsNumber numbers → Reads store before records boxes uid mailbox → SealedAfter store before numbers records boxes uid mailbox
sealed_after_all store before [] records boxes uid mailbox all r = record { fit = tt; reads = subst (λ (es : List MapEntry). Reads store es records boxes uid mailbox) (sym (append-nil before)) r }
sealed_after_all store before (n ∷ numbers) records boxes uid mailbox all r =
    let e : MapEntry = map_entry.E (record { 0 = n }) in
    let more = reads_more store before e records records boxes boxes uid uid mailbox mailbox r (records_by_sealed (record { 0 = n }) records) (boxes_by_sealed (record { 0 = n }) boxes) (omega arith) (omega arith) in
    let rest = sealed_after_all store (before ++ e ∷ []) numbers records boxes uid mailbox (All-tail IsNumber n numbers all) more in
    record {
      fit = (All-head IsNumber n numbers all, rest.fit);
      reads = subst (λ (es : List MapEntry). Reads store es records boxes uid mailbox) (append_assoc before (e ∷ []) (seals_of numbers)) rest.reads;
    }
