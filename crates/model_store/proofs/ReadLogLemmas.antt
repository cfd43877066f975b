-- A log can't fail to be bad at some place or to have good entries; so the root log and the map log.
use Rattle.std.specs.Prelude.{◌≡◌, ◌<◌, ◌+◌, ℕ, List, [], ◌∷◌, ◌++◌, length, map, take, drop, Option, Some, None, ◌⊎◌, refl}
use Rattle.std.specs.List.{AllByRecursion}
use Rattle.std.specs.Option.{IfSome}
use Rattle.std.proofs.Common.{inl, inr, sym, ◌∙◌, ap, arith, subst, append_assoc, append-nil, length-append, lit<}
use Rattle.std.proofs.lemmas.Bool.{cases_lt}
use Rattle.std.proofs.lemmas.List.{map-append, length-drop, length-take-le}
use Rattle.std.proofs.lemmas.List.Elements.{All-take, All-drop}
use Rattle.disk_model.specs.Disk.{Files}
use Rattle.disk_model.specs.declared.name.FileName.{FileName}
use Rattle.disk_model.specs.declared.name.FileName.TheVariants as file
use Rattle.mdbox_base.specs.Words.{IsOctets, IsNumber}
use Rattle.model_logs.specs.declared.log_head.LogHead.{LogHead}
use Rattle.model_logs.specs.declared.log_head.LogKind.TheVariants as kind
use Rattle.mdbox_base.specs.declared.entries.MapEntry.{MapEntry}
use Rattle.mdbox_base.specs.declared.entries.RootEntry.{RootEntry}
use Rattle.mdbox_base.specs.declared.entries.RootEntry.TheVariants as root
use Rattle.model_logs.specs.Entries.{root_text, map_text, RootInRange}
use Rattle.model_logs.specs.LogFile.{HeadFits, head_octets, log_front, log_end, EndsLog, IsLog}
use Rattle.model_logs.proofs.LogFileLemmas.{head_length}
use Rattle.model_logs.proofs.LogRecordLemmas.{log_or_damage}
use Rattle.model_store.specs.Stands.{head_of, HasLog, HasRoot, HasMap}
use Rattle.model_octets.proofs.ClassicalLemmas.{either}
use Rattle.model_store.specs.Opening.{HoldOctets, HasNoEntry, AreRootEntries, AreMapEntries, IsBadLog, root_head, IsBadRoot, IsBadMap}

-- ---- entries of a log

-- the texts are those of good entries
record AreAll {E : Type 0} (text : E → List ℕ) (AreGood : List E → Type 0) (texts : List (List ℕ)) : Type 0 where
  entries : List E
  is : texts ≡ map text entries
  good : AreGood entries

-- one of the texts is the first that is none
record HasFirstBad {E : Type 0} (text : E → List ℕ) (AreGood : List E → Type 0) (texts : List (List ℕ)) : Type 0 where
  before : List E
  bad : List ℕ
  behind : List (List ℕ)
  split : texts ≡ map text before ++ bad ∷ behind
  good : AreGood before
  no_entry : (entry : E) → bad ≡ text entry → AreGood (before ++ entry ∷ []) → ⊥

-- a text is that of an entry which is good behind others
record IsNext {E : Type 0} (text : E → List ℕ) (AreGood : List E → Type 0) (before : List E) (octets : List ℕ) : Type 0 where
  entry : E
  is : octets ≡ text entry
  good : AreGood (before ++ entry ∷ [])

one_further : {E : Type 0} → (text : E → List ℕ) (before : List E) (entry : E) (octets : List ℕ) (more all : List (List ℕ)) → all ≡ map text before ++ octets ∷ more → octets ≡ text entry → all ≡ map text (before ++ entry ∷ []) ++ more
one_further text before entry octets more all e is =
    e ∙ ap (λ (o : List ℕ). map text before ++ o ∷ more) is ∙ sym (append_assoc (map text before) (text entry ∷ []) more) ∙ ap (λ (t : List (List ℕ)). t ++ more) (sym (map-append text before (entry ∷ [])))

read_entries : {E : Type 0} → (text : E → List ℕ) (AreGood : List E → Type 0) (all more : List (List ℕ)) (before : List E) → all ≡ map text before ++ more → AreGood before → (AreAll text AreGood all → ⊥) → (HasFirstBad text AreGood all → ⊥) → ⊥
read_entries text AreGood all [] before e good whole bad = whole (record { entries = before; is = e ∙ append-nil (map text before); good = good })
read_entries text AreGood all (t ∷ ts) before e good whole bad =
    either (λ (h : IsNext text AreGood before t ⊎ (IsNext text AreGood before t → ⊥)). elim h [
      | inl n ↦ read_entries text AreGood all ts (before ++ n.entry ∷ []) (one_further text before n.entry t ts all e n.is) n.good whole bad
      | inr no_next ↦ bad (record { before = before; bad = t; behind = ts; split = e; good = good; no_entry = λ entry is g. no_next (record { entry = entry; is = is; good = g }) })
    ])

-- a file is a log of this head with good entries
pub record IsRead {E : Type 0} (text : E → List ℕ) (AreGood : List E → Type 0) (files : Files) (name : FileName) (head : LogHead) : Type 0 where
  pub entries : List E
  pub log : HasLog files name head (map text entries)
  pub good : AreGood entries

pub read_there : {E : Type 0} → (text : E → List ℕ) (AreGood : List E → Type 0) (files : Files) (name : FileName) (head : LogHead) (there : Option (List ℕ)) → HeadFits head → AreGood [] → files name ≡ there → IfSome there IsOctets
    → ((place : ℕ) → IsBadLog text AreGood head there place → ⊥) → (IsRead text AreGood files name head → ⊥) → ⊥
read_there text AreGood files name head None fits none e octets bad good = bad 0 refl
read_there text AreGood files name head (Some o) fits none e octets bad good = elim (log_or_damage (Some head) o octets fits) [
  | inl r ↦ read_entries text AreGood r.1 r.1 [] refl none
      (λ a. good (record { entries = a.entries; log = record { octets = o; there = e; whole = along r.0 r.1 _ r.2 a.is r.3 }; good = a.good }))
      (λ b. bad (log_end (map text b.before) + 1) (inr (record { before = b.before; bad = b.bad; behind = b.behind; whole = along r.0 r.1 _ r.2 b.split r.3; good = b.good; no_entry = b.no_entry; is = refl })))
  | inr d ↦ bad d.0 (inl d.1)
]
  where
    along : (h : LogHead) (es fs : List (List ℕ)) → h ≡ head → es ≡ fs → IsLog o h es → IsLog o head fs
    along h es fs p q log = subst (λ (x : LogHead). IsLog o x fs) p (subst (λ (x : List (List ℕ)). IsLog o h x) q log)

-- a file is no log of this head with good entries, or it is one
pub read_log : {E : Type 0} → (text : E → List ℕ) (AreGood : List E → Type 0) (files : Files) (name : FileName) (head : LogHead) → HeadFits head → AreGood [] → HoldOctets files
    → ((place : ℕ) → IsBadLog text AreGood head (files name) place → ⊥) → (IsRead text AreGood files name head → ⊥) → ⊥
read_log text AreGood files name head fits none octets bad good = read_there text AreGood files name head (files name) fits none refl (octets name) bad good

-- ---- the root log

head_fits : (octets : List ℕ) → 26 < length octets → IsOctets octets → HeadFits (root_head octets)
head_fits octets long io =
    let l = length-drop 8 octets in
    record {
      version = refl;
      store = length-take-le 8 (drop 8 octets) (omega (arith, l, long));
      octets = All-take (λ o. o < 256) 8 (drop 8 octets) (All-drop (λ o. o < 256) 8 octets io);
      number = lit< tt;
      generation = lit< tt;
    }

-- the last of a list that isn't empty
record HasLast (entries : List RootEntry) : Type 0 where
  before : List RootEntry
  generation : ℕ
  is : entries ≡ before ++ root.M generation ∷ []

last_of : (entry : RootEntry) (entries : List RootEntry) → HasLast (entry ∷ entries)
last_of (root.M g) [] = record { before = []; generation = g; is = refl }
last_of e (f ∷ fs) = let r = last_of f fs in record { before = e ∷ r.before; generation = r.generation; is = ap (λ (es : List RootEntry). e ∷ es) r.is }

-- a log without entries has a closed gate, or is short
none_there : (octets : List ℕ) (head : LogHead) → (log : IsLog octets head []) → EndsLog log.gate log.behind → HasNoEntry (Some octets)
none_there octets head log (inl closed) = inr (record { head = head; fits = log.head_fits; gate = log.gate; behind = log.behind; spelled = log.spelled ∙ ap (λ (t : List ℕ). t ++ log.gate ∷ log.behind) (append-nil (head_octets head)); closed = closed })
none_there octets head log (inr last) =
    let l : length octets ≡ length (log_front head []) + length (log.gate ∷ log.behind) = ap length log.spelled ∙ length-append (log_front head []) (log.gate ∷ log.behind) in
    let h : length (log_front head []) ≡ 25 = ap length (append-nil (head_octets head)) ∙ head_length head log.head_fits in
    let n : length log.behind ≡ 0 = ap length last in
    inl (omega (arith, l, h, n))

with_entries : (files : Files) (store : List ℕ) (entries : List RootEntry) → HasLog files file.Root (head_of store kind.Root 0 0) (map root_text entries) → AllByRecursion RootInRange entries
    → (HasNoEntry (files file.Root) → ⊥) → ((generation : ℕ) → HasRoot files store generation → ⊥) → ⊥
with_entries files store [] log range entry k = entry (subst HasNoEntry (sym log.there) (none_there log.octets (head_of store kind.Root 0 0) log.whole log.whole.ends))
with_entries files store (e ∷ es) log range entry k =
    let r = last_of e es in
    k r.generation (record {
      before = r.before;
      log = subst (λ (o : List RootEntry). HasLog files file.Root (head_of store kind.Root 0 0) (map root_text o)) r.is log;
      in_range = subst (AllByRecursion RootInRange) r.is range;
    })

root_there : (files : Files) (there : Option (List ℕ)) → files file.Root ≡ there → IfSome there IsOctets → (HasNoEntry (files file.Root) → ⊥) → ((place : ℕ) → IsBadRoot files place → ⊥) → ((store : List ℕ) (generation : ℕ) → HasRoot files store generation → ⊥) → ⊥
root_there files None e io entry bad k = entry (subst HasNoEntry (sym e) tt)
root_there files (Some o) e io entry bad k = elim (cases_lt 26 (length o)) [
  | inr short ↦ entry (subst HasNoEntry (sym e) (inl short))
  | inl long ↦ read_there root_text AreRootEntries files file.Root (root_head o) (Some o) (head_fits o long io) tt e io
      (λ place b. bad place (record { octets = o; there = e; has_entry = λ empty. entry (subst HasNoEntry (sym e) empty); bad = b }))
      (λ r. with_entries files (take 8 (drop 8 o)) r.entries r.log r.good entry (k (take 8 (drop 8 o))))
]

pub root_read : (files : Files) → HoldOctets files → (HasNoEntry (files file.Root) → ⊥) → ((place : ℕ) → IsBadRoot files place → ⊥) → ((store : List ℕ) (generation : ℕ) → HasRoot files store generation → ⊥) → ⊥
root_read files octets entry bad k = root_there files (files file.Root) refl (octets file.Root) entry bad k

-- ---- the map log

pub map_read : (files : Files) (store : List ℕ) (generation : ℕ) → HoldOctets files → HasRoot files store generation → ((name : FileName) (place : ℕ) → IsBadMap files name place → ⊥) → ((entries : List MapEntry) → HasMap files store entries → ⊥) → ⊥
map_read files store generation octets r bad k = either (λ (h : IsNumber generation ⊎ (IsNumber generation → ⊥)). elim h [
  | inr none ↦ bad (file.Map generation) 0 (record { store = store; generation = generation; root = r; is_name = refl; bad = inl (none, refl) })
  | inl n ↦ read_log map_text (AreMapEntries store) files (file.Map generation) (head_of store kind.Map 0 generation) (fits n) (tt, tt) octets
      (λ place b. bad (file.Map generation) place (record { store = store; generation = generation; root = r; is_name = refl; bad = inr (n, b) }))
      (λ m. k m.entries (record { generation = generation; root = r; generation_number = n; log = m.log; in_range = m.good.0; fit = m.good.1 }))
])
  where
    fits : IsNumber generation → HeadFits (head_of store kind.Map 0 generation)
    fits n = record { version = refl; store = r.log.whole.head_fits.store; octets = r.log.whole.head_fits.octets; number = lit< tt; generation = (let h = n.high in omega (arith, h)) }
