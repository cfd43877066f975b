-- What an opening answers is determined by the files: no store, one damaged place, or one store.
use Rattle.std.specs.Prelude.{◌≡◌, ◌≢◌, ℕ, List, [], ◌⊎◌, All, refl}
use Rattle.std.specs.List.{AllByRecursion}
use Rattle.std.specs.Cmp.Lexicographic.{slice_cmp}
use Rattle.std.specs.Ordering.{nat_cmp, ordering_reverse}
use Rattle.std.specs.declared.cmp.Ordering.{Ordering}
use Rattle.std.specs.declared.cmp.Ordering.TheVariants.{Less, Equal, Greater}
use Rattle.std.proofs.Common.{inl, inr, sym, ◌∙◌, ap, arith, subst}
use Rattle.std.proofs.lemmas.Cmp.{nat_list_cmp_total}
use Rattle.std.proofs.lemmas.Map.Lookups.{exact_bytes}
use Rattle.std.proofs.lemmas.List.Elements.{All-nil, All-cons, All-contains, All-from_recursion}
use Rattle.disk_model.specs.Disk.{Files}
use Rattle.disk_model.specs.declared.name.FileName.{FileName}
use Rattle.disk_model.specs.declared.name.FileName.TheVariants as file
use Rattle.mdbox_base.specs.declared.entries.InstRow.{InstRow}
use Rattle.mdbox_base.specs.declared.entries.MapEntry.{MapEntry}
use Rattle.mdbox_base.specs.declared.entries.MapEntry.TheVariants as map_entry
use Rattle.mdbox_base.specs.declared.entries.BoxEntry.{BoxEntry}
use Rattle.model_meaning.proofs.RowLemmas.{all_flat, rows_all}
use Rattle.model_meaning.specs.MapMeaning.{MapRecord, MapMeaning, map_meaning, record_made, record_rules, records_after, named_instances}
use Rattle.model_meaning.proofs.MapPlaceLemmas.{changed_same}
use Rattle.model_logs.specs.Entries.{MapInRange, RowInRange}
use Rattle.model_octets.proofs.PiecesLemmas.{split_same}
use Rattle.model_store.specs.Stands.{HasMap}
use Rattle.model_store.proofs.StandsLemmas.{root_same, map_same}
use Rattle.model_store.specs.Safe.{LiesInFile, IsThereWhole}
use Rattle.model_store.proofs.BadBoxLemmas.{has_entry, good_root, one_bad_root, good_map, one_bad_map, passed_same, good_boxes, one_bad_box}
use Rattle.model_store.specs.Opening.{HasNoEntry, PassBoxes, IsBadBox, PassLogs, IsCounted, IsMiscounted, IsNotBehind, IsFirstCutOff, name_of, IsFirstMissing, Opens, IsBadBehindLogs, IsDamaged}

-- ---- named_instances instances

-- the instances of a record are in range
abbrev HasInRange : MapRecord → Type 0
HasInRange row = All RowInRange row.instances

made_in_range : (entry : MapEntry) → MapInRange entry → All HasInRange (record_made entry)
made_in_range (map_entry.S o c u f a z g is) r =
    All-cons HasInRange (record { uid = u.0; origin = o; count = c; file = f.0; offset = a; size = z; guid = g.0; instances = is }) [] (All-from_recursion RowInRange is r.8) (All-nil HasInRange)
made_in_range (map_entry.H h) r = All-nil HasInRange
made_in_range (map_entry.B m g n) r = All-nil HasInRange
made_in_range (map_entry.G m g) r = All-nil HasInRange
made_in_range (map_entry.U u) r = All-nil HasInRange
made_in_range (map_entry.D us) r = All-nil HasInRange
made_in_range (map_entry.T cs) r = All-nil HasInRange
made_in_range (map_entry.P f t ms us) r = All-nil HasInRange
made_in_range (map_entry.E f) r = All-nil HasInRange
made_in_range (map_entry.X m cs) r = All-nil HasInRange
made_in_range (map_entry.V m n) r = All-nil HasInRange

-- each instance that a record names is in range
named_in_range : (store : List ℕ) (entries : List MapEntry) → AllByRecursion MapInRange entries → All RowInRange (named_instances (map_meaning store entries))
named_in_range store entries h =
    all_flat RowInRange (λ row. row.instances) (records_after entries)
    (rows_all record_rules MapInRange HasInRange made_in_range (λ entry row q a. subst (λ (is : List InstRow). All RowInRange is) (sym (changed_same entry row).instances) a) entries h)

-- ---- the first of several

-- a record's region is damaged in one file and at one place
cut_off_once : (files : Files) (m : MapMeaning) (n k : FileName) (p q : ℕ) → IsFirstCutOff files m n p → IsFirstCutOff files m k q → (n ≡ k) × (p ≡ q)
cut_off_once files m n k p q a b =
    let f = in_one_file (a.first b.row b.cut_off) (b.first a.row a.cut_off) in
    (a.is_name ∙ ap file.Mail f.0 ∙ sym b.is_name, a.is ∙ f.1 ∙ sym b.is)
  where
    in_one_file : IsNotBehind a.row b.row → IsNotBehind b.row a.row → (a.row.file ≡ b.row.file) × (a.row.offset ≡ b.row.offset)
    in_one_file (inl x) (inl y) = absurd (omega (arith, x, y))
    in_one_file (inl x) (inr y) = let e = y.0 in absurd (omega (arith, x, e))
    in_one_file (inr x) (inl y) = let e = x.0 in absurd (omega (arith, y, e))
    in_one_file (inr x) (inr y) = let s = x.1 in let t = y.1 in (x.0, (let e : a.row.offset ≡ b.row.offset = omega (arith, s, t) in e))

equal_both : (x y : Ordering) → x ≡ ordering_reverse y → x ≢ Greater → y ≢ Greater → x ≡ Equal
equal_both Less Less e f g = absurd (cc e)
equal_both Less Equal e f g = absurd (cc e)
equal_both Less Greater e f g = absurd (g refl)
equal_both Equal y e f g = refl
equal_both Greater y e f g = absurd (f refl)

-- of two lists none of which is the greater the octets are the same
least_list : (a b : List ℕ) → slice_cmp nat_cmp a b ≢ Greater → slice_cmp nat_cmp b a ≢ Greater → a ≡ b
least_list a b f g = exact_bytes a b (equal_both (slice_cmp nat_cmp a b) (slice_cmp nat_cmp b a) (nat_list_cmp_total.antisymm a b) f g)

missing_once : (files : Files) (m : MapMeaning) (n k : FileName) → All RowInRange (named_instances m) → IsFirstMissing files m n → IsFirstMissing files m k → n ≡ k
missing_once files m n k range a b =
    let e : name_of a.inst ≡ name_of b.inst = least_list (name_of a.inst) (name_of b.inst) (a.first b.inst b.missing) (b.first a.inst a.missing) in
    let r = All-contains RowInRange (named_instances m) a.inst range a.missing.is_named in
    let s = All-contains RowInRange (named_instances m) b.inst range b.missing.is_named in
    let h = split_same a.inst.hash.0 b.inst.hash.0 a.inst.id.0 b.inst.id.0 (r.0 ∙ sym s.0) e in
    a.is_name ∙ inst_same _ _ _ _ h.0 h.1 ∙ sym b.is_name
  where
    inst_same : (x y i j : List ℕ) → x ≡ y → i ≡ j → file.Inst x i ≡ file.Inst y j
    inst_same x y i j e f = cc (e, f)

-- ---- the logs that pass

-- the files have one store id, one list of map entries, and one list of logs
pub one_pass : (files : Files) (s t : List ℕ) (es fs : List MapEntry) (xs ys : List (List BoxEntry)) → PassLogs files s es xs → PassLogs files t fs ys → (s ≡ t) × (es ≡ fs) × (xs ≡ ys)
one_pass files s t es fs xs ys a b =
    let r = map_same files s t es fs a.map_log b.map_log in
    let m : map_meaning s es ≡ map_meaning t fs = meaning_same s t es fs r.0 r.1 in
    (r.0, r.1, passed_same files (map_meaning t fs) (map_meaning t fs).boxes xs ys (subst (λ (o : MapMeaning). PassBoxes files o o.boxes xs) m a.boxes) b.boxes)
  where
    meaning_same : (s t : List ℕ) (es fs : List MapEntry) → s ≡ t → es ≡ fs → map_meaning s es ≡ map_meaning t fs
    meaning_same s t es fs p q = cc (p, q)

-- one meaning of the map
one_meaning : (files : Files) (s t : List ℕ) (es fs : List MapEntry) → HasMap files s es → HasMap files t fs → map_meaning s es ≡ map_meaning t fs
one_meaning files s t es fs a b = let r = map_same files s t es fs a b in meaning_same s t es fs r.0 r.1
  where
    meaning_same : (s t : List ℕ) (es fs : List MapEntry) → s ≡ t → es ≡ fs → map_meaning s es ≡ map_meaning t fs
    meaning_same s t es fs p q = cc (p, q)

-- where the logs pass no mailbox is bad
box_passes : (files : Files) (s t : List ℕ) (es fs : List MapEntry) (logs : List (List BoxEntry)) (name : FileName) (place : ℕ) → PassLogs files s es logs → HasMap files t fs → IsBadBox files (map_meaning t fs) name place → ⊥
box_passes files s t es fs logs name place p h b =
    good_boxes files (map_meaning t fs) name place logs (subst (λ (o : MapMeaning). PassBoxes files o o.boxes logs) (one_meaning files s t es fs p.map_log h) p.boxes) b

-- ---- behind the logs

-- what fails behind the logs
abbrev FailsLater : Files → FileName → MapMeaning → List (List BoxEntry) → FileName → ℕ → Type 0
FailsLater files map_name m logs name place =
    ((name ≡ map_name) × (place ≡ 0) × IsMiscounted m logs) ⊎ (All (IsCounted logs) m.records × (IsFirstCutOff files m name place ⊎ (All (LiesInFile files) m.records × IsFirstMissing files m name × (place ≡ 0))))

miscounted_not : (m : MapMeaning) (logs : List (List BoxEntry)) → IsMiscounted m logs → All (IsCounted logs) m.records → ⊥
miscounted_not m logs h a =
    let k = All-contains (IsCounted logs) m.records h.0 a h.1 in
    let l = h.2 in
    omega (arith, k, l)

cut_off_not : (files : Files) (m : MapMeaning) (name : FileName) (place : ℕ) → IsFirstCutOff files m name place → All (LiesInFile files) m.records → ⊥
cut_off_not files m name place h a = h.cut_off.outside (All-contains (LiesInFile files) m.records h.row a h.cut_off.is_record)

missing_not : (files : Files) (m : MapMeaning) (name : FileName) → IsFirstMissing files m name → All (IsThereWhole files) (named_instances m) → ⊥
missing_not files m name h a = h.missing.not_there (All-contains (IsThereWhole files) (named_instances m) h.inst a h.missing.is_named)

later_not : (files : Files) (map_name : FileName) (m : MapMeaning) (logs : List (List BoxEntry)) (name : FileName) (place : ℕ) → All (IsCounted logs) m.records → All (LiesInFile files) m.records → All (IsThereWhole files) (named_instances m)
    → FailsLater files map_name m logs name place → ⊥
later_not files map_name m logs name place counts regions instances (inl h) = miscounted_not m logs h.2 counts
later_not files map_name m logs name place counts regions instances (inr (c, inl h)) = cut_off_not files m name place h regions
later_not files map_name m logs name place counts regions instances (inr (c, inr h)) = missing_not files m name h.1 instances

later_once : (files : Files) (map_name : FileName) (m : MapMeaning) (logs : List (List BoxEntry)) (n k : FileName) (p q : ℕ) → All RowInRange (named_instances m) → FailsLater files map_name m logs n p → FailsLater files map_name m logs k q → (n ≡ k) × (p ≡ q)
later_once files map_name m logs n k p q range (inl a) (inl b) = (a.0 ∙ sym b.0, a.1 ∙ sym b.1)
later_once files map_name m logs n k p q range (inl a) (inr b) = absurd (miscounted_not m logs a.2 b.0)
later_once files map_name m logs n k p q range (inr a) (inl b) = absurd (miscounted_not m logs b.2 a.0)
later_once files map_name m logs n k p q range (inr (c, inl a)) (inr (d, inl b)) = cut_off_once files m n k p q a b
later_once files map_name m logs n k p q range (inr (c, inl a)) (inr (d, inr b)) = absurd (cut_off_not files m n p a b.0)
later_once files map_name m logs n k p q range (inr (c, inr a)) (inr (d, inl b)) = absurd (cut_off_not files m k q b a.0)
later_once files map_name m logs n k p q range (inr (c, inr a)) (inr (d, inr b)) = (missing_once files m n k range a.1 b.1, a.2 ∙ sym b.2)

-- the same for other names of the same values
later_along : (files : Files) (u v : FileName) (s t : List ℕ) (es fs : List MapEntry) (xs ys : List (List BoxEntry)) (name : FileName) (place : ℕ) → u ≡ v → s ≡ t → es ≡ fs → xs ≡ ys
    → FailsLater files u (map_meaning s es) xs name place → FailsLater files v (map_meaning t fs) ys name place
later_along files u v s t es fs xs ys name place a b c d h =
    subst (λ (o : FileName). FailsLater files o (map_meaning t fs) ys name place) a
    (subst (λ (o : List ℕ). FailsLater files u (map_meaning o fs) ys name place) b
    (subst (λ (o : List MapEntry). FailsLater files u (map_meaning s o) ys name place) c
    (subst (λ (o : List (List BoxEntry)). FailsLater files u (map_meaning s es) o name place) d h)))

one_bad_later : (files : Files) (n k : FileName) (p q : ℕ) → IsBadBehindLogs files n p → IsBadBehindLogs files k q → (n ≡ k) × (p ≡ q)
one_bad_later files n k p q a b =
    let r = one_pass files a.store b.store a.entries b.entries a.logs b.logs a.passed b.passed in
    let g = root_same files a.store b.store a.passed.map_log.generation b.passed.map_log.generation a.passed.map_log.root b.passed.map_log.root in
    later_once files (file.Map b.passed.map_log.generation) (map_meaning b.store b.entries) b.logs n k p q (named_in_range b.store b.entries b.passed.map_log.in_range)
    (later_along files _ _ _ _ _ _ _ _ n p (ap file.Map g.1) r.0 r.1 r.2 a.bad) b.bad

-- ---- opening

-- a root log without an entry opens no store
pub no_store_or_opens : (files : Files) (store : List ℕ) (entries : List MapEntry) (logs : List (List BoxEntry)) → HasNoEntry (files file.Root) → Opens files store entries logs → ⊥
no_store_or_opens files store entries logs empty o = has_entry files store o.passed.map_log.generation o.passed.map_log.root empty

-- nor is anything damaged then
pub no_store_or_damaged : (files : Files) (name : FileName) (place : ℕ) → HasNoEntry (files file.Root) → IsDamaged files name place → ⊥
no_store_or_damaged files name place empty (inl h) = h.1.has_entry (subst HasNoEntry h.1.there empty)
no_store_or_damaged files name place empty (inr (inl h)) = has_entry files h.store h.generation h.root empty
no_store_or_damaged files name place empty (inr (inr (inl h))) = has_entry files h.0 h.2.generation h.2.root empty
no_store_or_damaged files name place empty (inr (inr (inr h))) = has_entry files h.store h.passed.map_log.generation h.passed.map_log.root empty

-- what opens isn't damaged
pub opens_or_damaged : (files : Files) (store : List ℕ) (entries : List MapEntry) (logs : List (List BoxEntry)) (name : FileName) (place : ℕ) → Opens files store entries logs → IsDamaged files name place → ⊥
opens_or_damaged files store entries logs name place o (inl h) = good_root files store o.passed.map_log.generation place o.passed.map_log.root h.1
opens_or_damaged files store entries logs name place o (inr (inl h)) = good_map files store entries name place o.passed.map_log h
opens_or_damaged files store entries logs name place o (inr (inr (inl h))) = box_passes files store h.0 entries h.1 logs name place o.passed h.2 h.3
opens_or_damaged files store entries logs name place o (inr (inr (inr h))) =
    let r = one_pass files h.store store h.entries entries h.logs logs h.passed o.passed in
    later_not files (file.Map h.passed.map_log.generation) (map_meaning store entries) logs name place o.counts o.regions o.instances
    (later_along files _ _ _ _ _ _ _ _ name place refl r.0 r.1 r.2 h.bad)

-- what opens is one store
pub one_store : (files : Files) (s t : List ℕ) (es fs : List MapEntry) (xs ys : List (List BoxEntry)) → Opens files s es xs → Opens files t fs ys → (s ≡ t) × (es ≡ fs) × (xs ≡ ys)
one_store files s t es fs xs ys a b = one_pass files s t es fs xs ys a.passed b.passed

-- a store is damaged at one place
pub one_damage : (files : Files) (n k : FileName) (p q : ℕ) → IsDamaged files n p → IsDamaged files k q → (n ≡ k) × (p ≡ q)
one_damage files n k p q (inl a) (inl b) = (a.0 ∙ sym b.0, one_bad_root files p q a.1 b.1)
one_damage files n k p q (inl a) (inr (inl b)) = absurd (good_root files b.store b.generation p b.root a.1)
one_damage files n k p q (inl a) (inr (inr (inl b))) = absurd (good_root files b.0 b.2.generation p b.2.root a.1)
one_damage files n k p q (inl a) (inr (inr (inr b))) = absurd (good_root files b.store b.passed.map_log.generation p b.passed.map_log.root a.1)
one_damage files n k p q (inr (inl a)) (inl b) = absurd (good_root files a.store a.generation q a.root b.1)
one_damage files n k p q (inr (inl a)) (inr (inl b)) = one_bad_map files n k p q a b
one_damage files n k p q (inr (inl a)) (inr (inr (inl b))) = absurd (good_map files b.0 b.1 n p b.2 a)
one_damage files n k p q (inr (inl a)) (inr (inr (inr b))) = absurd (good_map files b.store b.entries n p b.passed.map_log a)
one_damage files n k p q (inr (inr (inl a))) (inl b) = absurd (good_root files a.0 a.2.generation q a.2.root b.1)
one_damage files n k p q (inr (inr (inl a))) (inr (inl b)) = absurd (good_map files a.0 a.1 k q a.2 b)
one_damage files n k p q (inr (inr (inl a))) (inr (inr (inl b))) =
    one_bad_box files (map_meaning b.0 b.1) n k p q (subst (λ (o : MapMeaning). IsBadBox files o n p) (one_meaning files a.0 b.0 a.1 b.1 a.2 b.2) a.3) b.3
one_damage files n k p q (inr (inr (inl a))) (inr (inr (inr b))) = absurd (box_passes files b.store a.0 b.entries a.1 b.logs n p b.passed a.2 a.3)
one_damage files n k p q (inr (inr (inr a))) (inl b) = absurd (good_root files a.store a.passed.map_log.generation q a.passed.map_log.root b.1)
one_damage files n k p q (inr (inr (inr a))) (inr (inl b)) = absurd (good_map files a.store a.entries k q a.passed.map_log b)
one_damage files n k p q (inr (inr (inr a))) (inr (inr (inl b))) = absurd (box_passes files a.store b.0 a.entries b.1 a.logs k q a.passed b.2 b.3)
one_damage files n k p q (inr (inr (inr a))) (inr (inr (inr b))) = one_bad_later files n k p q a b
