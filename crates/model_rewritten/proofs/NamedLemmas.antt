-- No record, instance or sealed file names a number above the highest.
use Rattle.std.specs.Prelude.{◌≤◌, ℕ, max, List, [], ◌∷◌, ◌++◌, All}
use Rattle.std.specs.List.{AllByRecursion}
use Rattle.std.proofs.Common.{sym, ap, arith, subst, append-nil, append_assoc}
use Rattle.std.proofs.lemmas.List.Elements.{All-nil, All-cons, All-append, All-weaker}
use Rattle.mdbox_base.specs.declared.entries.InstRow.{InstRow}
use Rattle.mdbox_base.specs.declared.entries.MapEntry.{MapEntry}
use Rattle.mdbox_base.specs.declared.entries.MapEntry.TheVariants as map
use Rattle.model_logs.specs.Entries.{MapInRange}
use Rattle.model_meaning.proofs.KeptRowLemmas.{kept_rows, kept_all}
use Rattle.model_meaning.proofs.MapLemmas.{map_more}
use Rattle.model_meaning.proofs.MapPlaceLemmas.{changed_same}
use Rattle.model_meaning.proofs.RowLemmas.{rows_all}
use Rattle.model_meaning.proofs.SealedLemmas.{all_with, sealed_rises}
use Rattle.model_meaning.specs.MapMeaning.{MapRecord, MapMeaning, map_meaning, map_applied, record_made, record_rules, numbers_of, sealed_by, guid_file, instance_number, greatest}
use Rattle.model_rewritten.specs.Rewriting.{NamesUpTo, HasFew}

-- ---- one entry more

record IsUpTo (store : List ℕ) (file instance : ℕ) (row : MapRecord) : Type 0 where
  guid : guid_file store row.guid ≤ file
  instances : greatest (λ i. instance_number store i.id.0) row.instances ≤ instance

made_up_to : (store : List ℕ) (file instance : ℕ) (e : MapEntry) → (numbers_of store e).file ≤ file → (numbers_of store e).instance ≤ instance → All (IsUpTo store file instance) (record_made e)
made_up_to store file instance (map.H h) f i = All-nil (IsUpTo store file instance)
made_up_to store file instance (map.B b g n) f i = All-nil (IsUpTo store file instance)
made_up_to store file instance (map.G b g) f i = All-nil (IsUpTo store file instance)
made_up_to store file instance (map.S o c u p a z g is) f i =
    let l : max p.0 (guid_file store g.0) ≤ file = f in
    All-cons (IsUpTo store file instance) _ [] (record { guid = omega (arith, l); instances = i }) (All-nil (IsUpTo store file instance))
made_up_to store file instance (map.U u) f i = All-nil (IsUpTo store file instance)
made_up_to store file instance (map.D us) f i = All-nil (IsUpTo store file instance)
made_up_to store file instance (map.T cs) f i = All-nil (IsUpTo store file instance)
made_up_to store file instance (map.P p t ms us) f i = All-nil (IsUpTo store file instance)
made_up_to store file instance (map.E p) f i = All-nil (IsUpTo store file instance)
made_up_to store file instance (map.X b cs) f i = All-nil (IsUpTo store file instance)
made_up_to store file instance (map.V b n) f i = All-nil (IsUpTo store file instance)

higher_up_to : (low most : ℕ) (files : List ℕ) → low ≤ most → All (λ n. n ≤ low) files → All (λ n. n ≤ most) files
higher_up_to low most files le a = All-weaker (λ (n : ℕ). n ≤ low) (λ (n : ℕ). n ≤ most) (λ n l. omega (arith, l, le)) files a

sealed_up_to : (store : List ℕ) (low most : ℕ) (e : MapEntry) (files : List ℕ) → low ≤ most → (numbers_of store e).file ≤ most → All (λ n. n ≤ low) files → All (λ n. n ≤ most) (sealed_by e files)
sealed_up_to store low most (map.H h) files le named a = higher_up_to low most files le a
sealed_up_to store low most (map.B b g n) files le named a = higher_up_to low most files le a
sealed_up_to store low most (map.G b g) files le named a = higher_up_to low most files le a
sealed_up_to store low most (map.S o c u f x z g is) files le named a = higher_up_to low most files le a
sealed_up_to store low most (map.U u) files le named a = higher_up_to low most files le a
sealed_up_to store low most (map.D us) files le named a = higher_up_to low most files le a
sealed_up_to store low most (map.T cs) files le named a = higher_up_to low most files le a
sealed_up_to store low most (map.P f t ms us) files le named a = higher_up_to low most files le a
sealed_up_to store low most (map.E f) files le named a = all_with (λ (n : ℕ). n ≤ most) f.0 files named (higher_up_to low most files le a)
sealed_up_to store low most (map.X b cs) files le named a = higher_up_to low most files le a
sealed_up_to store low most (map.V b n) files le named a = higher_up_to low most files le a

record AreUpTo (m : MapMeaning) : Type 0 where
  records : All (IsUpTo m.store m.highest.file m.highest.instance) m.records
  sealed : All (λ n. n ≤ m.highest.file) m.sealed

up_to_more : (m : MapMeaning) (e : MapEntry) → AreUpTo m → AreUpTo (map_applied e m)
up_to_more m e h =
    let file : ℕ = (map_applied e m).highest.file in
    let instance : ℕ = (map_applied e m).highest.instance in
    let file_named : (numbers_of m.store e).file ≤ file = omega arith in
    let file_low : m.highest.file ≤ file = omega arith in
    let instance_named : (numbers_of m.store e).instance ≤ instance = omega arith in
    let instance_low : m.highest.instance ≤ instance = omega arith in
    record {
      records = All-append (IsUpTo m.store file instance) (kept_rows record_rules e m.records) (record_made e)
          (kept_all record_rules e m.records (IsUpTo m.store m.highest.file m.highest.instance) (IsUpTo m.store file instance)
          (λ row l.
          let g = l.guid in
          let i = l.instances in
          let same = ap (guid_file m.store) (changed_same e row).guid in
          let also = ap (greatest (λ (k : InstRow). instance_number m.store k.id.0)) (changed_same e row).instances in
          record { guid = omega (arith, g, file_low, same); instances = omega (arith, i, instance_low, also) }) h.records)
          (made_up_to m.store file instance e file_named instance_named);
      sealed = sealed_up_to m.store m.highest.file file e m.sealed file_low file_named h.sealed;
    }

up_to_from : (store : List ℕ) (before entries : List MapEntry) → AreUpTo (map_meaning store before) → AreUpTo (map_meaning store (before ++ entries))
up_to_from store before [] h = subst (λ (es : List MapEntry). AreUpTo (map_meaning store es)) (sym (append-nil before)) h
up_to_from store before (e ∷ entries) h =
    let one : AreUpTo (map_meaning store (before ++ e ∷ [])) = subst AreUpTo (sym (map_more store before e)) (up_to_more (map_meaning store before) e h) in
    subst (λ (es : List MapEntry). AreUpTo (map_meaning store es)) (append_assoc before (e ∷ []) entries) (up_to_from store (before ++ e ∷ []) entries one)

pub names_up_to : (store : List ℕ) (entries : List MapEntry) → NamesUpTo (map_meaning store entries)
names_up_to store entries =
    let m : MapMeaning = map_meaning store entries in
    let h = up_to_from store [] entries (record { records = All-nil (IsUpTo store 0 0); sealed = All-nil (λ (n : ℕ). n ≤ 0) }) in
    record {
      guids = All-weaker (IsUpTo store m.highest.file m.highest.instance) (λ (row : MapRecord). guid_file store row.guid ≤ m.highest.file) (λ row u. u.guid) m.records h.records;
      instances = All-weaker (IsUpTo store m.highest.file m.highest.instance) (λ (row : MapRecord). greatest (λ i. instance_number store i.id.0) row.instances ≤ m.highest.instance) (λ row u. u.instances) m.records h.records;
      sealed = h.sealed;
      rising = sealed_rises entries;
    }

-- ---- instances

made_few : (e : MapEntry) → MapInRange e → All HasFew (record_made e)
made_few (map.H h) r = All-nil HasFew
made_few (map.B b g n) r = All-nil HasFew
made_few (map.G b g) r = All-nil HasFew
made_few (map.S o c u p a z g is) r = All-cons HasFew _ [] r.7 (All-nil HasFew)
made_few (map.U u) r = All-nil HasFew
made_few (map.D us) r = All-nil HasFew
made_few (map.T cs) r = All-nil HasFew
made_few (map.P p t ms us) r = All-nil HasFew
made_few (map.E p) r = All-nil HasFew
made_few (map.X b cs) r = All-nil HasFew
made_few (map.V b n) r = All-nil HasFew

pub have_few : (store : List ℕ) (entries : List MapEntry) → AllByRecursion MapInRange entries → All HasFew (map_meaning store entries).records
have_few store entries r = rows_all record_rules MapInRange HasFew made_few (λ e row q h. subst (λ (is : List InstRow). HasFew (record row { instances = is })) (sym (changed_same e row).instances) h) entries r
