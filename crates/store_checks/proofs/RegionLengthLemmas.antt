-- What the lengths of files tell of regions and instances.
use Rattle.std.proofs.Common.{◌≡◌, ◌<◌, ◌≤◌, ◌+◌, ℕ, false, List, [], ◌++◌, length, take, get_or, slice_get, Option, Some, None, All, AllPairs, IsPermutation, inr, refl, sym, ◌∙◌, ap, subst, arith, take_all}
use Rattle.std.specs.Option.{option_map}
use Rattle.std.specs.Ordering.{is_gt}
use Rattle.std.specs.declared.cmp.Ordering.TheVariants.{Greater}
use Rattle.std.proofs.lemmas.Cmp.{tied_itself, nat_list_cmp_total}
use Rattle.std.proofs.lemmas.List.Elements.{All-nil, All-weaker, All-more}
use Rattle.std.proofs.lemmas.Option.{slice_get-get_or}
use Rattle.disk_model.specs.Disk.{Files, DiskState, History, IfTold, reading, IsIdle}
use Rattle.disk_model.specs.declared.name.FileName.{FileName}
use Rattle.disk_model.specs.declared.name.FileName.TheVariants as file
use Rattle.disk_model.proofs.MomentLemmas.{if_told-all, if_told-map, if_told-both}
use Rattle.mdbox_base.specs.declared.entries.InstRow.{InstRow}
use Rattle.model_store.specs.Settled.{files_of}
use Rattle.model_store.specs.Safe.{LiesInFile, IsThereWhole}
use Rattle.model_meaning.specs.MapMeaning.{MapRecord, MapMeaning, named_instances}
use Rattle.model_store.specs.Opening.{IsFirstCutOff, IsFirstMissing}
use Rattle.disk_model.proofs.IdleLemmas.{idle-back}
use Rattle.store_checks.specs.declared.regions.Region.{Region}
use Rattle.store_checks.specs.declared.instances.Instance.{Instance}
use Rattle.store_checks.specs.Lengths.{region_of, regions_in, instance_of, instances_in, EndsWithin, IsNoLater, IsNamedNoLater, LiesIn, IsWholeIn}
use Rattle.store_checks.proofs.FirstFailureLemmas.{first_fail, all_pass}

-- ---- regions

region_lies : (files : Files) (row : MapRecord) (octets : Option (List ℕ)) → files (file.Mail row.file) ≡ octets → EndsWithin (region_of row) (option_map length octets) → LiesInFile files row
region_lies files row None e h = absurd h
region_lies files row (Some octets) e h = record { octets = octets; there = e; inside = h }

pub lies : (files : Files) (row : MapRecord) → LiesIn files (region_of row) → LiesInFile files row
lies files row h = region_lies files row (files (file.Mail row.file)) refl h

lies_back : (files : Files) (row : MapRecord) → LiesInFile files row → LiesIn files (region_of row)
lies_back files row h = subst (λ (o : Option (List ℕ)). EndsWithin (region_of row) (option_map length o)) (sym h.there) h.inside

itself : (region : Region) → IsNoLater region region
itself region = inr (refl, omega arith)

pub regions_pass : (m : MapMeaning) (regions : List Region) (files : Files) → IsPermutation (regions_in m) regions → All (LiesIn files) regions → All (LiesInFile files) m.records
regions_pass m regions files same all = All-weaker (λ (row : MapRecord). LiesIn files (region_of row)) (LiesInFile files) (lies files) m.records (all_pass region_of (LiesIn files) m.records regions same all)

pub first_cut_off : (m : MapMeaning) (regions : List Region) (files : Files) (k : ℕ) (region : Region) → IsPermutation (regions_in m) regions → AllPairs IsNoLater regions → slice_get regions k ≡ Some region
    → All (LiesIn files) (take k regions) → (LiesIn files region → ⊥) → IsFirstCutOff files m (file.Mail region.file) region.offset
first_cut_off m regions files k region same order at passed fails =
    let f = first_fail region_of (LiesIn files) IsNoLater m.records regions k region itself same order at passed fails in
    record {
      row = f.x;
      cut_off = record { is_record = f.held; outside = λ h. f.fails (lies_back files f.x h) };
      first = λ other cut. f.first other cut.is_record (λ h. cut.outside (lies files other h));
      is_name = ap (λ (r : Region). file.Mail r.file) f.is;
      is = ap (λ (r : Region). r.offset) f.is;
    }

-- ---- instances

inst_whole : (files : Files) (inst : InstRow) (octets : Option (List ℕ)) → files (file.Inst inst.hash.0 inst.id.0) ≡ octets → option_map length octets ≡ Some inst.size → IsThereWhole files inst
inst_whole files inst None e h = absurd (cc h)
inst_whole files inst (Some octets) e h = record { octets = octets; there = e; size = (let s : length octets ≡ inst.size = cc h in s) }

whole : (files : Files) (inst : InstRow) → IsWholeIn files (instance_of inst) → IsThereWhole files inst
whole files inst h = inst_whole files inst (files (file.Inst inst.hash.0 inst.id.0)) refl h

whole_back : (files : Files) (inst : InstRow) → IsThereWhole files inst → IsWholeIn files (instance_of inst)
whole_back files inst h = ap (option_map length) h.there ∙ ap Some h.size

named_itself : (inst : Instance) → IsNamedNoLater inst inst
named_itself inst = ap is_gt (tied_itself nat_list_cmp_total (inst.hash.0 ++ inst.id.0))

pub instances_pass : (m : MapMeaning) (instances : List Instance) (files : Files) → IsPermutation (instances_in m) instances → All (IsWholeIn files) instances → All (IsThereWhole files) (named_instances m)
instances_pass m instances files same all = All-weaker (λ (inst : InstRow). IsWholeIn files (instance_of inst)) (IsThereWhole files) (whole files) (named_instances m) (all_pass instance_of (IsWholeIn files) (named_instances m) instances same all)

pub first_missing : (m : MapMeaning) (instances : List Instance) (files : Files) (k : ℕ) (inst : Instance) → IsPermutation (instances_in m) instances → AllPairs IsNamedNoLater instances → slice_get instances k ≡ Some inst
    → All (IsWholeIn files) (take k instances) → (IsWholeIn files inst → ⊥) → IsFirstMissing files m (file.Inst inst.hash.0 inst.id.0)
first_missing m instances files k inst same order at passed fails =
    let f = first_fail instance_of (IsWholeIn files) IsNamedNoLater (named_instances m) instances k inst named_itself same order at passed fails in
    record {
      inst = f.x;
      missing = record { is_named = f.held; not_there = λ h. f.fails (whole_back files f.x h) };
      first = λ other missing e. absurd (let h : is_gt Greater ≡ false = sym (ap is_gt e) ∙ f.first other missing.is_named (λ w. missing.not_there (whole files other w)) in cc h);
      is_name = ap (λ (i : Instance). file.Inst i.hash.0 i.id.0) f.is;
    }

-- ---- on the disk

-- one more passes
pub told_more : {Y : Type 0} → (P : Files → Y → Type 0) (ys : List Y) (k : ℕ) (d : Y) (old now : Option History) → k < length ys → IsIdle old now
    → IfTold now (λ disk. P (files_of disk) (get_or ys k d)) → IfTold old (λ disk. All (P (files_of disk)) (take k ys)) → IfTold old (λ disk. All (P (files_of disk)) (take (k + 1) ys))
told_more P ys k d old now lt idle passes all =
    if_told-both _ _ _ old (λ disk a p. All-more (P (files_of disk)) ys k d lt a p) all (idle-back (λ (disk : DiskState). P (files_of disk) (get_or ys k d)) old now idle passes)

-- what a length that was asked for tells of a file
abbrev HasAsked : FileName → Option ℕ → DiskState → Type 0
HasAsked name long disk = option_map length (reading (disk name)) ≡ long

-- the region at a place, and the next
pub region_next : (regions : List Region) (k : ℕ) (d : Region) (old now : Option History) (long : Option ℕ) → k < length regions → IsIdle old now → IfTold now (HasAsked (file.Mail (get_or regions k d).file) long)
    → EndsWithin (get_or regions k d) long → IfTold old (λ disk. All (LiesIn (files_of disk)) (take k regions)) → IfTold old (λ disk. All (LiesIn (files_of disk)) (take (k + 1) regions))
region_next regions k d old now long lt idle asked ends all =
    told_more LiesIn regions k d old now lt idle (if_told-map _ _ now (λ disk e. subst (EndsWithin (get_or regions k d)) (sym e) ends) asked) all

pub region_fails : (m : MapMeaning) (items regions : List Region) (k : ℕ) (d : Region) (old now : Option History) (long : Option ℕ) → regions ≡ items → k < length regions → IsIdle old now
    → IfTold now (HasAsked (file.Mail (get_or regions k d).file) long) → (EndsWithin (get_or regions k d) long → ⊥) → IsPermutation (regions_in m) items → AllPairs IsNoLater items
    → IfTold old (λ disk. All (LiesIn (files_of disk)) (take k regions)) → IfTold old (λ disk. IsFirstCutOff (files_of disk) m (file.Mail (get_or regions k d).file) (get_or regions k d).offset)
region_fails m items regions k d old now long value lt idle asked fails same order all =
    if_told-both _ _ _ old
    (λ disk passed e.
    first_cut_off m regions (files_of disk) k (get_or regions k d) (subst (IsPermutation (regions_in m)) (sym value) same) (subst (AllPairs IsNoLater) (sym value) order) (slice_get-get_or regions k d lt) passed
    (λ h. fails (subst (EndsWithin (get_or regions k d)) e h)))
    all (idle-back (HasAsked (file.Mail (get_or regions k d).file) long) old now idle asked)

pub regions_done : (m : MapMeaning) (items regions : List Region) (k : ℕ) (old : Option History) → regions ≡ items → length regions ≤ k → IsPermutation (regions_in m) items
    → IfTold old (λ disk. All (LiesIn (files_of disk)) (take k regions)) → IfTold old (λ disk. All (LiesInFile (files_of disk)) m.records)
regions_done m items regions k old value le same all =
    if_told-map _ _ old (λ disk a. regions_pass m regions (files_of disk) (subst (IsPermutation (regions_in m)) (sym value) same) (subst (All (LiesIn (files_of disk))) (take_all k regions le) a)) all

-- the instance at a place, and the next
pub instance_next : (instances : List Instance) (k : ℕ) (d : Instance) (old now : Option History) (long : Option ℕ) → k < length instances → IsIdle old now
    → IfTold now (HasAsked (file.Inst (get_or instances k d).hash.0 (get_or instances k d).id.0) long) → long ≡ Some (get_or instances k d).size
    → IfTold old (λ disk. All (IsWholeIn (files_of disk)) (take k instances)) → IfTold old (λ disk. All (IsWholeIn (files_of disk)) (take (k + 1) instances))
instance_next instances k d old now long lt idle asked is all = told_more IsWholeIn instances k d old now lt idle (if_told-map _ _ now (λ disk e. e ∙ is) asked) all

pub instance_fails : (m : MapMeaning) (items instances : List Instance) (k : ℕ) (d : Instance) (old now : Option History) (long : Option ℕ) → instances ≡ items → k < length instances → IsIdle old now
    → IfTold now (HasAsked (file.Inst (get_or instances k d).hash.0 (get_or instances k d).id.0) long) → (long ≡ Some (get_or instances k d).size → ⊥) → IsPermutation (instances_in m) items → AllPairs IsNamedNoLater items
    → IfTold old (λ disk. All (IsWholeIn (files_of disk)) (take k instances)) → IfTold old (λ disk. IsFirstMissing (files_of disk) m (file.Inst (get_or instances k d).hash.0 (get_or instances k d).id.0))
instance_fails m items instances k d old now long value lt idle asked fails same order all =
    if_told-both _ _ _ old
    (λ disk passed e.
    first_missing m instances (files_of disk) k (get_or instances k d) (subst (IsPermutation (instances_in m)) (sym value) same) (subst (AllPairs IsNamedNoLater) (sym value) order) (slice_get-get_or instances k d lt) passed
    (λ h. fails (sym e ∙ h)))
    all (idle-back (HasAsked (file.Inst (get_or instances k d).hash.0 (get_or instances k d).id.0) long) old now idle asked)

pub instances_done : (m : MapMeaning) (items instances : List Instance) (k : ℕ) (old : Option History) → instances ≡ items → length instances ≤ k → IsPermutation (instances_in m) items
    → IfTold old (λ disk. All (IsWholeIn (files_of disk)) (take k instances)) → IfTold old (λ disk. All (IsThereWhole (files_of disk)) (named_instances m))
instances_done m items instances k old value le same all =
    if_told-map _ _ old (λ disk a. instances_pass m instances (files_of disk) (subst (IsPermutation (instances_in m)) (sym value) same) (subst (All (IsWholeIn (files_of disk))) (take_all k instances le) a)) all

pub none_yet : {Y : Type 0} → (P : Files → Y → Type 0) (old : Option History) → IfTold old (λ disk. All (P (files_of disk)) [])
none_yet P old = if_told-all _ old (λ disk. All-nil (P (files_of disk)))
