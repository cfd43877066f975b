-- Files can't fail to have an answer: no store, a damaged place, or a store.
use Rattle.std.specs.Prelude.{◌≡◌, ◌≢◌, ◌<◌, ◌+◌, ◌==◌, ◌^◌, ℕ, Bool, true, false, List, [], ◌∷◌, ◌++◌, map, ◌⊎◌, All, Contains, if◌then◌else◌, refl}
use Rattle.std.specs.List.{AllByRecursion}
use Rattle.std.specs.Cmp.Lexicographic.{slice_cmp}
use Rattle.std.specs.Ordering.{nat_cmp, is_gt, ordering_reverse}
use Rattle.std.specs.declared.cmp.Ordering.{Ordering}
use Rattle.std.specs.declared.cmp.Ordering.TheVariants.{Less, Equal, Greater}
use Rattle.std.proofs.Common.{inl, inr, sym, ◌∙◌, ap, arith, subst, append_assoc, append-nil}
use Rattle.std.proofs.lemmas.Bool.{cases_lt, cases_order}
use Rattle.std.proofs.lemmas.Cmp.{nat_list_cmp_total, upto}
use Rattle.std.proofs.lemmas.List.Elements.{All-nil, All-cons, All-head, All-tail, All-append, All-contains, All-contains_itself, All-weaker}
use Rattle.disk_model.specs.Disk.{Files}
use Rattle.disk_model.specs.declared.name.FileName.{FileName}
use Rattle.disk_model.specs.declared.name.FileName.TheVariants as file
use Rattle.model_logs.specs.declared.log_head.LogKind.TheVariants as kind
use Rattle.mdbox_base.specs.declared.ids.Uid.{Uid}
use Rattle.mdbox_base.specs.declared.ids.MapUid.{MapUid}
use Rattle.mdbox_base.specs.declared.ids.Guid.{Guid}
use Rattle.mdbox_base.specs.declared.entries.InstRow.{InstRow}
use Rattle.mdbox_base.specs.declared.entries.MapEntry.{MapEntry}
use Rattle.mdbox_base.specs.declared.entries.MapEntry.TheVariants as map_entry
use Rattle.mdbox_base.specs.declared.entries.BoxEntry.{BoxEntry}
use Rattle.mdbox_base.specs.declared.entries.BoxEntry.TheVariants as box
use Rattle.model_meaning.specs.Rows.{row_behind}
use Rattle.model_meaning.proofs.RowLemmas.{all_flat, behind_all, rows_all}
use Rattle.model_meaning.specs.BoxMeaning.{LogRow, row_made, row_rules, rows_after}
use Rattle.model_meaning.proofs.BoxSoundLemmas.{changed_uid}
use Rattle.model_meaning.specs.MapMeaning.{MapRecord, MapBox, MapMeaning, map_meaning, box_made, box_changed, box_rules, boxes_after, named_instances}
use Rattle.model_logs.specs.Entries.{box_text, MapInRange}
use Rattle.model_logs.specs.LogFile.{HeadFits, log_end}
use Rattle.model_store.specs.Stands.{head_of, HasBox}
use Rattle.model_store.specs.Safe.{LiesInFile, IsThereWhole}
use Rattle.model_octets.proofs.ClassicalLemmas.{either, all_or_one, IsLeast, least_of, IsOrder, some_first}
use Rattle.model_store.proofs.ReadLogLemmas.{IsRead, read_log, root_read, map_read}
use Rattle.model_store.specs.Opening.{HoldOctets, HasNoEntry, AreBoxEntries, HasItsRecord, PassesBox, PassBoxes, IsDangling, IsBadBox, PassLogs, listed_of, IsCounted, IsNotBehind, name_of, Opens, IsDamaged}

-- ---- heads of mailbox logs

-- a mailbox's numbers fit a head
record HasNumbers (box : MapBox) : Type 0 where
  number : box.number < 2 ^ 32
  generation : box.generation < 2 ^ 32

made_numbers : (entry : MapEntry) → MapInRange entry → All HasNumbers (box_made entry)
made_numbers (map_entry.B m g n) r = All-cons HasNumbers (record { number = m.0; generation = g; name = n }) [] (record { number = r.0; generation = r.1 }) (All-nil HasNumbers)
made_numbers (map_entry.H h) r = All-nil HasNumbers
made_numbers (map_entry.G m g) r = All-nil HasNumbers
made_numbers (map_entry.S o c u f a z g is) r = All-nil HasNumbers
made_numbers (map_entry.U u) r = All-nil HasNumbers
made_numbers (map_entry.D us) r = All-nil HasNumbers
made_numbers (map_entry.T cs) r = All-nil HasNumbers
made_numbers (map_entry.P f t ms us) r = All-nil HasNumbers
made_numbers (map_entry.E f) r = All-nil HasNumbers
made_numbers (map_entry.X m cs) r = All-nil HasNumbers
made_numbers (map_entry.V m n) r = All-nil HasNumbers

with_generation : (hit : Bool) (g : ℕ) (box : MapBox) → g < 2 ^ 32 → HasNumbers box → HasNumbers (if hit then record box { generation = g } else box)
with_generation true g box fits h = record { number = h.number; generation = fits }
with_generation false g box fits h = h

renamed_numbers : (hit : Bool) (name : List ℕ) (box : MapBox) → HasNumbers box → HasNumbers (if hit then record box { name = name } else box)
renamed_numbers true name box h = record { number = h.number; generation = h.generation }
renamed_numbers false name box h = h

changed_numbers : (entry : MapEntry) (box : MapBox) → MapInRange entry → HasNumbers box → HasNumbers (box_changed entry box)
changed_numbers (map_entry.G m g) box r h = with_generation (m.0 == box.number) g box r.1 h
changed_numbers (map_entry.B m g n) box r h = h
changed_numbers (map_entry.H i) box r h = h
changed_numbers (map_entry.S o c u f a z g is) box r h = h
changed_numbers (map_entry.U u) box r h = h
changed_numbers (map_entry.D us) box r h = h
changed_numbers (map_entry.T cs) box r h = h
changed_numbers (map_entry.P f t ms us) box r h = h
changed_numbers (map_entry.E f) box r h = h
changed_numbers (map_entry.X m cs) box r h = h
changed_numbers (map_entry.V m n) box r h = renamed_numbers (m.0 == box.number) n box h

all_numbers : (entries : List MapEntry) → AllByRecursion MapInRange entries → All HasNumbers (boxes_after entries)
all_numbers entries r = rows_all box_rules MapInRange HasNumbers made_numbers changed_numbers entries r

box_head_fits : (store : List ℕ) (box : MapBox) → HeadFits (head_of store kind.Root 0 0) → HasNumbers box → HeadFits (head_of store kind.Box box.number box.generation)
box_head_fits store box f h = record { version = inr refl; store = f.store; octets = f.octets; number = h.number; generation = h.generation }

-- ---- the record that added a row

-- an entry added the row's message
record WasAdded (entries : List BoxEntry) (row : LogRow) : Type 0 where
  before : List BoxEntry
  uid : Uid
  flags : ℕ
  time : ℕ
  size : ℕ
  map_uid : MapUid
  guid : Guid
  words : List (List ℕ)
  behind : List BoxEntry
  split : entries ≡ before ++ box.A uid flags time size map_uid guid words ∷ behind
  same : row.uid ≡ uid.0

later_added : (e : BoxEntry) (es : List BoxEntry) (row : LogRow) → WasAdded es row → WasAdded (e ∷ es) row
later_added e es row w = record {
  before = e ∷ w.before;
  uid = w.uid;
  flags = w.flags;
  time = w.time;
  size = w.size;
  map_uid = w.map_uid;
  guid = w.guid;
  words = w.words;
  behind = w.behind;
  split = ap (λ (o : List BoxEntry). e ∷ o) w.split;
  same = w.same;
}

-- of every entry something holds that says nothing
abbrev Anything : BoxEntry → Type 0
Anything entry = Unit {0}

anything : (es : List BoxEntry) → AllByRecursion Anything es
anything [] = tt
anything (e ∷ es) = (tt, anything es)

own_added : (e : BoxEntry) (es : List BoxEntry) (row : LogRow) → Contains (row_made e) row → All (WasAdded (e ∷ es)) (row_behind row_rules es row)
own_added (box.A u f t s m g w) es row c =
    let same : row.uid ≡ u.0 = All-contains (λ (r : LogRow). r.uid ≡ u.0) (row_made (box.A u f t s m g w)) row (All-cons (λ (r : LogRow). r.uid ≡ u.0) (record { uid = u.0; flags = f; time = t; size = s; map_uid = m.0; guid = g.0; words = w }) [] refl (All-nil (λ (r : LogRow). r.uid ≡ u.0))) c in
    All-weaker (λ (r : LogRow). r.uid ≡ u.0) (WasAdded (box.A u f t s m g w ∷ es)) (λ r h. record {
      before = [];
      uid = u;
      flags = f;
      time = t;
      size = s;
      map_uid = m;
      guid = g;
      words = w;
      behind = es;
      split = refl;
      same = h;
    }) (row_behind row_rules es row) (behind_all row_rules Anything (λ (r : LogRow). r.uid ≡ u.0) (λ e r q h. changed_uid e r ∙ h) es row (anything es) same)
own_added (box.N n) es row c = absurd (let k = c.1 in omega (arith, k))
own_added (box.F u f) es row c = absurd (let k = c.1 in omega (arith, k))
own_added (box.K u w) es row c = absurd (let k = c.1 in omega (arith, k))
own_added (box.R u) es row c = absurd (let k = c.1 in omega (arith, k))

-- each row was added
all_added : (entries : List BoxEntry) → All (WasAdded entries) (rows_after entries)
all_added [] = All-nil (WasAdded [])
all_added (e ∷ es) =
    All-append (WasAdded (e ∷ es)) _ (rows_after es)
    (all_flat (WasAdded (e ∷ es)) (row_behind row_rules es) (row_made e) (All-weaker (Contains (row_made e)) (λ (row : LogRow). All (WasAdded (e ∷ es)) (row_behind row_rules es row)) (own_added e es) (row_made e) (All-contains_itself (row_made e))))
    (All-weaker (WasAdded es) (WasAdded (e ∷ es)) (later_added e es) (rows_after es) (all_added es))

-- where not each row has its record, there is a least place of one that has none
lacks_record : (m : MapMeaning) (entries : List BoxEntry) → (All (HasItsRecord m) (rows_after entries) → ⊥) → ((place : ℕ) → IsLeast (IsDangling m entries) place → ⊥) → ⊥
lacks_record m entries not_all k = all_or_one (HasItsRecord m) (rows_after entries) not_all (λ row c bare.
    let w : WasAdded entries row = All-contains (WasAdded entries) (rows_after entries) row (all_added entries) c in
    least_of (IsDangling m entries) (log_end (map box_text w.before) + 1) (record {
      before = w.before;
      uid = w.uid;
      flags = w.flags;
      time = w.time;
      size = w.size;
      map_uid = w.map_uid;
      guid = w.guid;
      words = w.words;
      behind = w.behind;
      split = w.split;
      row = row;
      listed = c;
      same = w.same;
      bare = bare;
      is = refl;
    }) k)

-- ---- mailbox after mailbox

one_more_passes : (files : Files) (m : MapMeaning) (before : List MapBox) (logs : List (List BoxEntry)) (box : MapBox) (entries : List BoxEntry) → PassBoxes files m before logs → PassesBox files m box entries → PassBoxes files m (before ++ box ∷ []) (logs ++ entries ∷ [])
one_more_passes files m [] [] box entries p q = (q, tt)
one_more_passes files m [] (l ∷ ls) box entries p q = absurd p
one_more_passes files m (b ∷ bs) [] box entries p q = absurd p
one_more_passes files m (b ∷ bs) (l ∷ ls) box entries p q = (p.0, one_more_passes files m bs ls box entries p.1 q)

boxes_read : (files : Files) (m : MapMeaning) → HoldOctets files → HeadFits (head_of m.store kind.Root 0 0) → ((name : FileName) (place : ℕ) → IsBadBox files m name place → ⊥) → ((logs : List (List BoxEntry)) → PassBoxes files m m.boxes logs → ⊥)
    → (boxes before : List MapBox) (logs : List (List BoxEntry)) → All HasNumbers boxes → m.boxes ≡ before ++ boxes → PassBoxes files m before logs → ⊥
boxes_read files m octets fits bad k [] before logs numbers e p = k logs (subst (λ (o : List MapBox). PassBoxes files m o logs) (sym (append-nil before) ∙ sym e) p)
boxes_read files m octets fits bad k (box ∷ rest) before logs numbers e p =
    read_log box_text AreBoxEntries files (file.Box box.number box.generation) (head_of m.store kind.Box box.number box.generation) (box_head_fits m.store box fits (All-head HasNumbers box rest numbers)) (tt, tt) octets
    (λ place b. bad (file.Box box.number box.generation) place (record { before = before; mailbox = box; behind = rest; split = e; logs = logs; passed = p; is_name = refl; bad = inl b }))
    (λ r. either (λ (h : All (HasItsRecord m) (rows_after r.entries) ⊎ (All (HasItsRecord m) (rows_after r.entries) → ⊥)). elim h [
      | inl all ↦ boxes_read files m octets fits bad k rest (before ++ box ∷ []) (logs ++ r.entries ∷ []) (All-tail HasNumbers box rest numbers) (e ∙ sym (append_assoc before (box ∷ []) rest))
          (one_more_passes files m before logs box r.entries p (record { log = log r; records = all }))
      | inr not_all ↦ lacks_record m r.entries not_all (λ place l. bad (file.Box box.number box.generation) place (record {
        before = before;
        mailbox = box;
        behind = rest;
        split = e;
        logs = logs;
        passed = p;
        is_name = refl;
        bad = inr (record { entries = r.entries; log = log r; bare = l.holds; least = l.least });
      }))
    ]))
  where
    log : (r : IsRead box_text AreBoxEntries files (file.Box box.number box.generation) (head_of m.store kind.Box box.number box.generation)) → HasBox files m.store box r.entries
    log r = record { log = r.log; in_range = r.good.0; fit = r.good.1 }

-- ---- the orders

places : IsOrder IsNotBehind
places = record { total = total; chain = λ x y z h k. chained x y z h k }
  where
    total : (x y : MapRecord) → IsNotBehind x y ⊎ IsNotBehind y x
    total x y = elim (cases_order x.file y.file) [
      | inr o ↦ elim o [ inl l ↦ inl (inl l) | inr g ↦ inr (inl g) ]
      | inl e ↦ elim (cases_lt x.offset y.offset) [ inl l ↦ inl (inr (e, omega (arith, l))) | inr g ↦ inr (inr (sym e, g)) ]
    ]

    chained : (x y z : MapRecord) → IsNotBehind x y → IsNotBehind y z → IsNotBehind x z
    chained x y z (inl a) (inl b) = inl (omega (arith, a, b))
    chained x y z (inl a) (inr b) = let e = b.0 in inl (omega (arith, a, e))
    chained x y z (inr a) (inl b) = let e = a.0 in inl (omega (arith, b, e))
    chained x y z (inr a) (inr b) = let s = a.1 in let t = b.1 in inr (a.0 ∙ b.0, omega (arith, s, t))

-- an instance isn't behind another by its name
abbrev IsNamedFirst : InstRow → InstRow → Type 0
IsNamedFirst a b = slice_cmp nat_cmp (name_of a) (name_of b) ≢ Greater

not_greater : (o : Ordering) → o ≢ Greater → is_gt o ≡ false
not_greater Less n = refl
not_greater Equal n = refl
not_greater Greater n = absurd (n refl)

greater_not : (o : Ordering) → is_gt o ≡ false → o ≢ Greater
greater_not Less n e = cc e
greater_not Equal n e = cc e
greater_not Greater n e = cc n

one_way : (o p : Ordering) → o ≡ ordering_reverse p → (o ≢ Greater) ⊎ (p ≢ Greater)
one_way Less p e = inl (λ h. cc h)
one_way Equal p e = inl (λ h. cc h)
one_way Greater Less e = inr (λ h. cc h)
one_way Greater Equal e = absurd (cc e)
one_way Greater Greater e = absurd (cc e)

names : IsOrder IsNamedFirst
names = record {
  total = λ x y. one_way _ _ (nat_list_cmp_total.antisymm (name_of x) (name_of y));
  chain = λ x y z h k. greater_not _ (upto nat_list_cmp_total (name_of x) (name_of y) (name_of z) (not_greater _ h) (not_greater _ k));
}

-- ---- behind the logs

later_read : (files : Files) (store : List ℕ) (entries : List MapEntry) (logs : List (List BoxEntry)) → PassLogs files store entries logs → ((name : FileName) (place : ℕ) → IsDamaged files name place → ⊥) → (Opens files store entries logs → ⊥) → ⊥
later_read files store entries logs p bad k = either (λ (h : All (IsCounted logs) m.records ⊎ (All (IsCounted logs) m.records → ⊥)). elim h [
  | inr not_all ↦ all_or_one (IsCounted logs) m.records not_all (λ row c less. bad (file.Map p.map_log.generation) 0 (inr (inr (inr (record {
    store = store;
    entries = entries;
    logs = logs;
    passed = p;
    bad = inl (refl, refl, (row, c, fewer row less));
  })))))
  | inl counts ↦ either (λ (g : All (LiesInFile files) m.records ⊎ (All (LiesInFile files) m.records → ⊥)). elim g [
    | inr not_all ↦ some_first IsNotBehind (λ (row : MapRecord). LiesInFile files row → ⊥) places m.records (λ none. all_or_one (LiesInFile files) m.records not_all none) (λ row f. bad (file.Mail row.file) row.offset (inr (inr (inr (record {
      store = store;
      entries = entries;
      logs = logs;
      passed = p;
      bad = inr (counts, inl (record { row = row; cut_off = record { is_record = f.element; outside = f.holds }; first = λ other o. f.first other o.is_record o.outside; is_name = refl; is = refl }));
    })))))
    | inl regions ↦ either (λ (i : All (IsThereWhole files) (named_instances m) ⊎ (All (IsThereWhole files) (named_instances m) → ⊥)). elim i [
      | inr not_all ↦ some_first IsNamedFirst (λ (inst : InstRow). IsThereWhole files inst → ⊥) names (named_instances m) (λ none. all_or_one (IsThereWhole files) (named_instances m) not_all none) (λ inst f. bad (file.Inst inst.hash.0 inst.id.0) 0 (inr (inr (inr (record {
        store = store;
        entries = entries;
        logs = logs;
        passed = p;
        bad = inr (counts, inr (regions, record { inst = inst; missing = record { is_named = f.element; not_there = f.holds }; first = λ other o. f.first other o.is_named o.not_there; is_name = refl }, refl));
      })))))
      | inl instances ↦ k (record { passed = p; counts = counts; regions = regions; instances = instances })
    ])
  ])
])
  where
    m : MapMeaning
    m = map_meaning store entries

    fewer : (row : MapRecord) → (IsCounted logs row → ⊥) → row.count < listed_of logs row.uid
    fewer row less = elim (cases_lt row.count (listed_of logs row.uid)) [ inl l ↦ l | inr g ↦ absurd (less g) ]

-- ---- opening

-- Files that are no store and damaged nowhere can't fail to open.
pub some_answer : (files : Files) → HoldOctets files → (HasNoEntry (files file.Root) → ⊥) → ((name : FileName) (place : ℕ) → IsDamaged files name place → ⊥)
    → ((store : List ℕ) (entries : List MapEntry) (logs : List (List BoxEntry)) → Opens files store entries logs → ⊥) → ⊥
some_answer files octets entry bad k =
    root_read files octets entry (λ place b. bad file.Root place (inl (refl, b))) (λ store generation r.
    map_read files store generation octets r (λ name place b. bad name place (inr (inl b))) (λ entries h.
    boxes_read files (map_meaning store entries) octets h.root.log.whole.head_fits (λ name place b. bad name place (inr (inr (inl (store, entries, h, b)))))
    (λ logs p. later_read files store entries logs (record { map_log = h; boxes = p }) bad (k store entries logs))
    (map_meaning store entries).boxes [] [] (all_numbers entries h.in_range) refl tt))
