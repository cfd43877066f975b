-- A settled disk holds its store, and a disk that holds and reads a store is settled.
use Rattle.std.proofs.Common.{inl, inr, ◌≡◌, ◌≢◌, ℕ, ◌+◌, ◌-◌, ◌<◌, ◌≤◌, ◌++◌, ◌∷◌, [], true, List, map, length, take, drop, get_or, slice_index_or, if◌then◌else◌, Option, Some, None, All, refl, sym, ◌∙◌, ap, subst, arith, length-set, get_or-set_same, get_or-set_other}
use Rattle.std.specs.Prelude.{flat_map}
use Rattle.std.proofs.Math.ListN.{set}
use Rattle.std.proofs.lemmas.List.{length-take-le, get_or-take, get_or-drop}
use Rattle.std.proofs.lemmas.List.Elements.{All-nil, All-cons, All-head, All-tail, All-take, All-set}
use Rattle.std.proofs.lemmas.Bool.{cases_Bool, cases_lt, false≢true, cond-true, cond-false}
use Rattle.std.proofs.lemmas.Option.{same_Some}
use Rattle.disk_model.specs.Disk.{Files, FileState, DiskState, IsImage, MayLeave, MayHold, Keeps, IsThere, reading}
use Rattle.disk_model.specs.Name.{same_name}
use Rattle.disk_model.specs.declared.name.FileName.{FileName}
use Rattle.disk_model.specs.declared.name.FileName.TheVariants as file
use Rattle.disk_model.proofs.NameLemmas.{same_name-true, same_name-refl}
use Rattle.disk_model.proofs.FirmLemmas.{at_place}
use Rattle.model_logs.specs.declared.log_head.LogHead.{LogHead}
use Rattle.model_logs.specs.declared.log_head.LogKind.TheVariants as kind
use Rattle.mdbox_base.specs.declared.entries.RootEntry.TheVariants as root
use Rattle.mdbox_base.specs.declared.entries.InstRow.{InstRow}
use Rattle.mdbox_base.specs.declared.entries.MapEntry.{MapEntry}
use Rattle.model_logs.specs.LogFile.{IsLogFile}
use Rattle.model_lists.specs.Lists.{Lists}
use Rattle.model_meaning.specs.MapMeaning.{MapRecord, MapBox, MapMeaning, map_meaning}
use Rattle.model_logs.specs.Entries.{root_text}
use Rattle.model_store.specs.Stands.{head_of, HasLog, HasRoot, AreMailboxes}
use Rattle.model_store.proofs.StandsLemmas.{root_same, map_same}
use Rattle.model_store.specs.Safe.{LiesInFile, IsThereWhole, SafeBy, Safe}
use Rattle.model_store.specs.Settled.{files_of, IsSameRegion, AreAlike, IsSettled}
use Rattle.model_store.proofs.SettledLemmas.{safe_carried}
use Rattle.model_store.specs.Carrying.{HasSameEntries, CarryOver, CarriesOver}
use Rattle.model_store.proofs.CarryingLemmas.{each_name}
use Rattle.store_sweep.specs.Held.{IsHeldLog, IsFirmRegion, IsHeldInstance, IsHeldAt, IsHeldStore, IsReadStore}
use Rattle.store_sweep.specs.Swept.{OpensWith}
use Rattle.store_sweep.proofs.HeldLemmas.{reads_there}
use Rattle.store_sweep.proofs.FirmRegionLemmas.{region_left, region_long}

-- ---- an image with one file of our choice

with_file : DiskState → FileName → Option (List ℕ) → Files
with_file disk name left = λ n. if same_name n name then left else reading (disk n)

with_here : (disk : DiskState) (name : FileName) (left : Option (List ℕ)) → with_file disk name left name ≡ left
unfolding with_file
with_here disk name left = cond-true (same_name name name) left (reading (disk name)) (same_name-refl name)

with_image : (disk : DiskState) (name : FileName) (left : Option (List ℕ)) → IsImage disk (λ n. reading (disk n)) → MayLeave (disk name) left → IsImage disk (with_file disk name left)
unfolding with_file
with_image disk name left all own n = elim (cases_Bool (same_name n name)) [
  | inl same ↦
      let e : n ≡ name = same_name-true n name same in
      subst (λ (o : Option (List ℕ)). MayLeave (disk n) o) (sym (cond-true (same_name n name) left (reading (disk n)) same)) (subst (λ (k : FileName). MayLeave (disk k) left) (sym e) own)
  | inr apart ↦ subst (λ (o : Option (List ℕ)). MayLeave (disk n) o) (sym (cond-false (same_name n name) left (reading (disk n)) apart)) (all n)
]

-- ---- one file that every image leaves alike

keeps_of : (f : FileState) (octets : List ℕ) → reading f ≡ Some octets → MayLeave f (reading f) → ((left : Option (List ℕ)) → MayLeave f left → left ≡ reading f) → Keeps f octets
keeps_of f octets there own alike = record {
  reads = there;
  leaves = λ left. (λ h. alike left h ∙ there, λ e. subst (MayLeave f) (there ∙ sym e) own);
}

held_log : (f : FileState) (octets : List ℕ) → reading f ≡ Some octets → MayLeave f (reading f) → ((left : Option (List ℕ)) → MayLeave f left → left ≡ reading f) → IsHeldLog (reading f) f
held_log f octets there own alike = record { octets = octets; keeps = keeps_of f octets there own alike; same = λ head entries l. subst (λ (o : Option (List ℕ)). IsLogFile o head entries) there l }

-- another octet than this one
other_than : (x : ℕ) → (y : ℕ) × (y < 256) × (y ≡ x → ⊥)
other_than x = elim (cases_lt x 1) [
  | inl less ↦ (1, omega arith, λ e. omega (arith, e, less))
  | inr more ↦ (0, omega arith, λ e. omega (arith, e, more))
]

in_region : (octets : List ℕ) (at size i : ℕ) → at ≤ i → i < at + size → get_or (take size (drop at octets)) (i - at) 0 ≡ get_or octets i 0
in_region octets at size i from below =
    let a : get_or (take size (drop at octets)) (i - at) 0 ≡ get_or (drop at octets) (i - at) 0 = get_or-take size (drop at octets) (i - at) 0 (omega arith) in
    let b : get_or (drop at octets) (i - at) 0 ≡ get_or octets (at + (i - at)) 0 = get_or-drop at octets (i - at) 0 in
    let e : at + (i - at) ≡ i = omega arith in
    a ∙ b ∙ ap (λ (k : ℕ). get_or octets k 0) e

-- the same region of other octets that a crash may leave
left_region : (f : FileState) (row : MapRecord) (octets other : List ℕ) → reading f ≡ Some octets → IsSameRegion (reading f) (Some other) row → take row.size (drop row.offset other) ≡ take row.size (drop row.offset octets)
left_region f row octets other there s =
    let a : s.second ≡ other = same_Some _ _ (sym s.in_second) in
    let b : s.first ≡ octets = same_Some _ _ (sym s.in_first ∙ there) in
    ap (λ (o : List ℕ). take row.size (drop row.offset o)) (sym a) ∙ s.same ∙ ap (λ (o : List ℕ). take row.size (drop row.offset o)) b

firm_least : (f : FileState) (row : MapRecord) (h : MayHold f f.octets) → ((left : Option (List ℕ)) → MayLeave f left → IsSameRegion (reading f) left row) → f.least < row.offset + row.size → ⊥
firm_least f row h alike short =
    let g : f.least ≤ length f.octets = h.least in
    let most : length f.octets ≤ f.greatest = h.greatest in
    let cut : length (take f.least f.octets) ≡ f.least = length-take-le f.least f.octets g in
    let image : MayHold f (take f.least f.octets) = record {
      named = h.named;
      least = omega (arith, cut);
      greatest = omega (arith, cut);
      same = λ i below firm. at_place (take f.least f.octets) f.octets i (omega (arith, cut, below)) (omega (arith, below, g)) (get_or-take f.least f.octets i 0 below);
      are_octets = All-take (λ octet. octet < 256) f.least f.octets h.are_octets;
    } in
    let long : row.offset + row.size ≤ length (take f.least f.octets) = region_long (reading f) (take f.least f.octets) row (alike (Some (take f.least f.octets)) image) in
    omega (arith, long, cut)

firm_place : (f : FileState) (row : MapRecord) (i : ℕ) (h : MayHold f f.octets) → reading f ≡ Some f.octets → ((left : Option (List ℕ)) → MayLeave f left → IsSameRegion (reading f) left row)
    → row.offset ≤ i → i < row.offset + row.size → row.offset + row.size ≤ length f.octets → f.is_loose i ≡ true → ⊥
firm_place f row i h there alike from below inside loose =
    let y = other_than (get_or f.octets i 0) in
    let other : List ℕ = set f.octets i y.0 in
    let long : length other ≡ length f.octets = length-set f.octets i y.0 in
    let image : MayHold f other = record {
      named = h.named;
      least = let g : f.least ≤ length f.octets = h.least in omega (arith, long);
      greatest = let g : length f.octets ≤ f.greatest = h.greatest in omega (arith, long);
      same = λ j below firm.
          let g : f.least ≤ length f.octets = h.least in
          let apart : j ≢ i = λ e. false≢true (sym firm ∙ ap f.is_loose e ∙ loose) in
          at_place other f.octets j (omega (arith, long)) (omega arith) (get_or-set_other f.octets i j y.0 0 apart);
      are_octets = All-set (λ octet. octet < 256) f.octets i y.0 y.1 h.are_octets;
    } in
    let same : take row.size (drop row.offset other) ≡ take row.size (drop row.offset f.octets) = left_region f row f.octets other there (alike (Some other) image) in
    let e : get_or other i 0 ≡ get_or f.octets i 0 =
    sym (in_region other row.offset row.size i from below) ∙ ap (λ (o : List ℕ). get_or o (i - row.offset) 0) same ∙ in_region f.octets row.offset row.size i from below in
    y.2 (sym (get_or-set_same f.octets i y.0 0 (omega (arith, below, inside))) ∙ e)

firm_region : (f : FileState) (row : MapRecord) (octets : List ℕ) → reading f ≡ Some octets → MayLeave f (reading f) → ((left : Option (List ℕ)) → MayLeave f left → IsSameRegion (reading f) left row) → IsFirmRegion (reading f) row f
firm_region f row octets there own alike =
    let is_there : IsThere f = elim (cases_Bool f.is_there) [
      | inl yes_there ↦ yes_there
      | inr gone ↦ absurd (let n : reading f ≡ None = cond-false f.is_there (Some f.octets) None gone in let s : None ≡ Some octets = sym n ∙ there in cc)
    ] in
    let reads : reading f ≡ Some f.octets = reads_there f is_there in
    let h : MayHold f f.octets = subst (MayLeave f) reads own in
    let same : IsSameRegion (reading f) (Some f.octets) row = alike (Some f.octets) h in
    record {
      there = is_there;
      name = elim (cases_Bool f.is_name_loose) [
        | inl loose ↦ absurd (let s : IsSameRegion (reading f) None row = alike None (inr loose) in let e : None ≡ Some s.second = s.in_second in cc)
        | inr firm ↦ firm
      ];
      same = same;
      least = elim (cases_lt f.least (row.offset + row.size)) [ inl short ↦ absurd (firm_least f row h alike short) | inr long ↦ long ];
      firm = λ i from below. elim (cases_Bool (f.is_loose i)) [ inl loose ↦ absurd (firm_place f row i h reads alike from below (region_long (reading f) f.octets row same) loose) | inr firm ↦ firm ];
    }

-- ---- what the lists' store has

mailboxes_there : (image : Files) (m : MapMeaning) (boxes : List MapBox) (lists : Lists) → AreMailboxes image m boxes lists → All (λ box. (octets : List ℕ) × (image (file.Box box.number box.generation) ≡ Some octets)) boxes
mailboxes_there image m [] lists h = All-nil (λ (box : MapBox). (octets : List ℕ) × (image (file.Box box.number box.generation) ≡ Some octets))
mailboxes_there image m (box ∷ boxes) [] h = absurd h
mailboxes_there image m (box ∷ boxes) (x ∷ lists) h =
    All-cons (λ (b : MapBox). (octets : List ℕ) × (image (file.Box b.number b.generation) ≡ Some octets)) box boxes (h.0.log.log.octets, h.0.log.log.there) (mailboxes_there image m boxes lists h.1)

all_front : {X : Type 0} → (P : X → Type 0) (xs ys : List X) → All P (xs ++ ys) → All P xs × All P ys
all_front P [] ys a = (All-nil P, a)
all_front P (x ∷ xs) ys a = let r = all_front P xs ys (All-tail P x (xs ++ ys) a) in (All-cons P x xs (All-head P x (xs ++ ys) a) r.0, r.1)

each_named : {X Y : Type 0} → (f : X → List Y) (P : Y → Type 0) (xs : List X) → All P (flat_map f xs) → All (λ x. All P (f x)) xs
each_named f P [] a = All-nil (λ x. All P (f x))
each_named f P (x ∷ xs) a = let r = all_front P (f x) (flat_map f xs) a in All-cons (λ y. All P (f y)) x xs r.0 (each_named f P xs r.1)

-- ---- a settled disk holds its store

record Settled (g : ℕ) (m : MapMeaning) (disk : DiskState) : Type 0 where
  pub image : IsImage disk (λ name. reading (disk name))
  pub alike : (image : Files) → IsImage disk image → AreAlike g m (files_of disk) image
  pub root : (octets : List ℕ) × (reading (disk file.Root) ≡ Some octets)
  pub map : (octets : List ℕ) × (reading (disk (file.Map g)) ≡ Some octets)
  pub boxes : All (λ box. (octets : List ℕ) × (reading (disk (file.Box box.number box.generation)) ≡ Some octets)) m.boxes
  pub regions : All (LiesInFile (files_of disk)) m.records
  pub instances : All (λ row. All (IsThereWhole (files_of disk)) row.instances) m.records

alike_at : (g : ℕ) (m : MapMeaning) (disk : DiskState) (name : FileName) (left : Option (List ℕ)) → Settled g m disk → MayLeave (disk name) left → AreAlike g m (files_of disk) (with_file disk name left)
alike_at g m disk name left s h = s.alike (with_file disk name left) (with_image disk name left s.image h)

held_at : (g : ℕ) (m : MapMeaning) (disk : DiskState) (name : FileName) → Settled g m disk → IsHeldAt g m (files_of disk) name (disk name)
held_at g m disk file.Root s =
    held_log (disk file.Root) s.root.0 s.root.1 (s.image file.Root) (λ left h. sym (with_here disk file.Root left) ∙ (alike_at g m disk file.Root left s h).root)
held_at g m disk (file.Map n) s = λ e. subst (λ (k : ℕ). IsHeldLog (files_of disk (file.Map k)) (disk (file.Map k))) (sym e)
    (held_log (disk (file.Map g)) s.map.0 s.map.1 (s.image (file.Map g)) (λ left h. sym (with_here disk (file.Map g) left) ∙ (alike_at g m disk (file.Map g) left s h).map))
held_at g m disk (file.Box n o) s = λ k d below a b.
    let box : MapBox = slice_index_or m.boxes k d in
    let name : FileName = file.Box box.number box.generation in
    let there = s.boxes k d below in
    let own : IsHeldLog (files_of disk name) (disk name) = held_log (disk name) there.0 there.1 (s.image name) (λ left h. sym (with_here disk name left) ∙ (alike_at g m disk name left s h).boxes k d below) in
    let e : name ≡ file.Box n o = cc (a, b) in
    subst (λ (q : FileName). IsHeldLog (files_of disk q) (disk q)) e own
held_at g m disk (file.Mail n) s = λ k d below a.
    let row : MapRecord = slice_index_or m.records k d in
    let name : FileName = file.Mail row.file in
    let there = s.regions k d below in
    let own : IsFirmRegion (files_of disk name) row (disk name) = firm_region (disk name) row there.octets there.there (s.image name)
    (λ left h. subst (λ (o : Option (List ℕ)). IsSameRegion (reading (disk name)) o row) (with_here disk name left) ((alike_at g m disk name left s h).regions k d below)) in
    subst (λ (q : FileName). IsFirmRegion (files_of disk q) row (disk q)) (ap file.Mail a) own
held_at g m disk (file.Inst hash id) s = λ k d below i e inside a b.
    let row : MapRecord = slice_index_or m.records k d in
    let inst : InstRow = slice_index_or row.instances i e in
    let name : FileName = file.Inst inst.hash.0 inst.id.0 in
    let there = s.instances k d below i e inside in
    let own : IsHeldInstance (files_of disk name) (disk name) = record {
      octets = there.octets;
      keeps = keeps_of (disk name) there.octets there.there (s.image name) (λ left h. sym (with_here disk name left) ∙ (alike_at g m disk name left s h).instances k d below i e inside);
      same = there.there;
    } in
    let same : name ≡ file.Inst hash id = cc (a, b) in
    subst (λ (q : FileName). IsHeldInstance (files_of disk q) (disk q)) same own

pub held_settled : (disk : DiskState) (lists : Lists) → (s : IsSettled disk lists) → IsImage disk (λ name. reading (disk name)) → IsHeldStore s.safe.stands.map_log.generation (map_meaning s.store s.entries) (files_of disk) disk
held_settled disk lists s image = λ name.
    held_at s.safe.stands.map_log.generation (map_meaning s.store s.entries) disk name (record {
      image = image;
      alike = s.alike;
      root = (s.safe.stands.map_log.root.log.octets, s.safe.stands.map_log.root.log.there);
      map = (s.safe.stands.map_log.log.octets, s.safe.stands.map_log.log.there);
      boxes = mailboxes_there (files_of disk) (map_meaning s.store s.entries) (map_meaning s.store s.entries).boxes lists s.safe.stands.mailboxes;
      regions = s.safe.has_all.regions;
      instances = each_named (λ (row : MapRecord). row.instances) (IsThereWhole (files_of disk)) (map_meaning s.store s.entries).records s.safe.has_all.instances;
    })

-- ---- and back

alike_log : (found : Option (List ℕ)) (f : FileState) (left : Option (List ℕ)) → IsHeldLog found f → MayLeave f left → left ≡ reading f
alike_log found f left k h = (k.keeps.leaves left).0 h ∙ sym k.keeps.reads

own_region : (found : Option (List ℕ)) (row : MapRecord) (f : FileState) → IsFirmRegion found row f → IsFirmRegion (reading f) row f
own_region found row f k =
    let long : row.offset + row.size ≤ length f.octets = region_long found f.octets row k.same in
    record {
      there = k.there;
      name = k.name;
      same = record { first = f.octets; second = f.octets; in_first = reads_there f k.there; in_second = refl; first_holds = long; second_holds = long; same = refl };
      least = k.least;
      firm = k.firm;
    }

pub alike_held : (g : ℕ) (m : MapMeaning) (found : Files) (disk : DiskState) (image : Files) → IsHeldStore g m found disk → IsImage disk image → AreAlike g m (files_of disk) image
alike_held g m found disk image k is = record {
  root = alike_log (found file.Root) (disk file.Root) (image file.Root) (k file.Root) (is file.Root);
  map = alike_log (found (file.Map g)) (disk (file.Map g)) (image (file.Map g)) (k (file.Map g) refl) (is (file.Map g));
  boxes = λ i d below.
      let box : MapBox = slice_index_or m.boxes i d in
      let name : FileName = file.Box box.number box.generation in
      alike_log (found name) (disk name) (image name) (k name i d below refl refl) (is name);
  regions = λ i d below.
      let row : MapRecord = slice_index_or m.records i d in
      let name : FileName = file.Mail row.file in
      region_left (reading (disk name)) row (disk name) (image name) (own_region (found name) row (disk name) (k name i d below refl)) (is name);
  instances = λ i d below j e inside.
      let row : MapRecord = slice_index_or m.records i d in
      let inst : InstRow = slice_index_or row.instances j e in
      let name : FileName = file.Inst inst.hash.0 inst.id.0 in
      let own : IsHeldInstance (found name) (disk name) = k name i d below j e inside refl refl in
      (own.keeps.leaves (image name)).0 (is name) ∙ sym own.keeps.reads;
}

log_there : (image : Files) (name : FileName) (head : LogHead) (entries : List (List ℕ)) (o : Option (List ℕ)) → image name ≡ o → IsLogFile o head entries → HasLog image name head entries
log_there image name head entries None e l = absurd l
log_there image name head entries (Some octets) e l = record { octets = octets; there = e; whole = l }

log_read : (found : Files) (disk : DiskState) (store : List ℕ) (g : ℕ) → HasSameEntries (found file.Root) (reading (disk file.Root)) → HasRoot found store g → HasRoot (files_of disk) store g
log_read found disk store g same h =
    let head : LogHead = head_of store kind.Root 0 0 in
    let entries : List (List ℕ) = map root_text (h.before ++ root.M g ∷ []) in
    record {
      before = h.before;
      in_range = h.in_range;
      log = log_there (files_of disk) file.Root head entries (reading (disk file.Root)) refl (same head entries (subst (λ (o : Option (List ℕ)). IsLogFile o head entries) (sym h.log.there) h.log.whole));
    }

pub settled_held : (found : Files) (store : List ℕ) (entries : List MapEntry) (lists : Lists) (disk : DiskState) → (s : SafeBy found store entries lists)
    → IsHeldStore s.stands.map_log.generation (map_meaning store entries) found disk → IsReadStore s.stands.map_log.generation (map_meaning store entries) found disk → IsSettled disk lists
settled_held found store entries lists disk s k r =
    let g : ℕ = s.stands.map_log.generation in
    let m : MapMeaning = map_meaning store entries in
    let safe : SafeBy (files_of disk) store entries lists = safe_carried found (files_of disk) store entries lists s (each_name g m found (files_of disk) r) in
    let one : g ≡ safe.stands.map_log.generation = (root_same (files_of disk) store store g safe.stands.map_log.generation (log_read found disk store g (r file.Root) s.stands.map_log.root) safe.stands.map_log.root).1 in
    record {
      store = store;
      entries = entries;
      safe = safe;
      alike = λ image is. subst (λ (n : ℕ). AreAlike n m (files_of disk) image) one (alike_held g m found disk image k is);
    }

-- ---- the store that was opened, and the one that is settled, are one

tied : (g : ℕ) (m : MapMeaning) (disk : DiskState) (lists : Lists) → OpensWith g m disk → (s : IsSettled disk lists) → (s.safe.stands.map_log.generation ≡ g) × (map_meaning s.store s.entries ≡ m)
tied g m disk lists o s =
    let same = map_same (files_of disk) s.store o.store s.entries o.entries s.safe.stands.map_log o.opens.passed.map_log in
    let one = root_same (files_of disk) s.store o.store s.safe.stands.map_log.generation o.opens.passed.map_log.generation s.safe.stands.map_log.root o.opens.passed.map_log.root in
    (one.1 ∙ o.generation_is, cc (same.0, same.1, o.map_is))

-- what a settled disk that opened holds
pub held_opened : (g : ℕ) (m : MapMeaning) (disk : DiskState) (lists : Lists) → OpensWith g m disk → IsImage disk (λ name. reading (disk name)) → IsSettled disk lists → IsHeldStore g m (files_of disk) disk
held_opened g m disk lists o image s =
    let t = tied g m disk lists o s in
    subst (λ (n : ℕ). IsHeldStore n m (files_of disk) disk) t.0 (subst (λ (k : MapMeaning). IsHeldStore s.safe.stands.map_log.generation k (files_of disk) disk) t.1 (held_settled disk lists s image))

-- files that carry over what it has are safe for its lists
pub carried_safe : (g : ℕ) (m : MapMeaning) (disk : DiskState) (lists : Lists) (image : Files) → OpensWith g m disk → IsSettled disk lists → CarryOver g m (files_of disk) image → Safe image lists
carried_safe g m disk lists image o s carry =
    let t = tied g m disk lists o s in
    record {
      store = s.store;
      entries = s.entries;
      by = safe_carried (files_of disk) image s.store s.entries lists s.safe
          (subst (λ (n : ℕ). CarryOver n (map_meaning s.store s.entries) (files_of disk) image) (sym t.0) (subst (λ (k : MapMeaning). CarryOver g k (files_of disk) image) (sym t.1) carry));
    }

-- and a disk that still holds and reads it is settled for them
pub still_settled : (g : ℕ) (m : MapMeaning) (old new : DiskState) (lists : Lists) → OpensWith g m old → IsSettled old lists → IsHeldStore g m (files_of old) new → IsReadStore g m (files_of old) new → IsSettled new lists
still_settled g m old new lists o s k r =
    let t = tied g m old lists o s in
    settled_held (files_of old) s.store s.entries lists new s.safe
    (subst (λ (n : ℕ). IsHeldStore n (map_meaning s.store s.entries) (files_of old) new) (sym t.0) (subst (λ (q : MapMeaning). IsHeldStore g q (files_of old) new) (sym t.1) k))
    (subst (λ (n : ℕ). IsReadStore n (map_meaning s.store s.entries) (files_of old) new) (sym t.0) (subst (λ (q : MapMeaning). IsReadStore g q (files_of old) new) (sym t.1) r))

-- ---- a disk that opened reads its store

pub reads_opened : (g : ℕ) (m : MapMeaning) (disk : DiskState) → OpensWith g m disk → IsReadStore g m (files_of disk) disk
reads_opened g m disk o = read_at
  where
    regions : All (LiesInFile (files_of disk)) m.records
    regions = subst (λ (q : MapMeaning). All (LiesInFile (files_of disk)) q.records) (sym o.map_is) o.opens.regions

    read_at : (name : FileName) → CarriesOver g m (files_of disk) name (reading (disk name))
    read_at file.Root = λ head entries l. l
    read_at (file.Map n) = λ e head entries l. l
    read_at (file.Box n p) = λ k d below a b head entries l. l
    read_at (file.Mail n) = λ k d below a.
        let row : MapRecord = slice_index_or m.records k d in
        let lies : LiesInFile (files_of disk) row = regions k d below in
        subst (λ (q : ℕ). IsSameRegion (reading (disk (file.Mail q))) (reading (disk (file.Mail q))) row) a
        (record { first = lies.octets; second = lies.octets; in_first = lies.there; in_second = lies.there; first_holds = lies.inside; second_holds = lies.inside; same = refl })
    read_at (file.Inst hash id) = λ k d below i e inside a b. refl
