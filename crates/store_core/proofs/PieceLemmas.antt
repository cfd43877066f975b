-- A store to whose storage file a piece was added, or of which a placing was ended: what is settled, and what no crash takes away.
use Rattle.store_core.proofs.Common.{◌⊎◌, list_any, inl, inr, ◌≡◌, ◌≢◌, ◌≤◌, ◌+◌, ◌==◌, ℕ, true, false, List, ◌++◌, length, take, drop, Option, Some, None, refl, sym, ◌∙◌, ap, subst, arith, length-append, option_map, cases_eq, cond-true, Files, FileState, DiskState, History, IsThere, IfTold}
use Rattle.store_core.proofs.Common.{Between, SameButFor, EachImage, OthersStay, MayLeave, reading, FileName, reads_there, each_image-map, Lists, MapRecord, Safe, files_of, IsSameRegion, IsSettledFor, Leaves, mixed, mixed-here, MailFile, FilesValue, end_in, changed_in, ending_at, IsAsKnown}
use Rattle.store_core.proofs.Common.{FrontStays, MayGrow, StayThere, StoreValue, IsStore}
use Rattle.disk_model.specs.declared.name.FileName.TheVariants as file
use Rattle.disk_model.proofs.MomentLemmas.{since-now}
use Rattle.storage_files.specs.Files.{placing_ended}
use Rattle.storage_files.specs.OnDisk.{IsPieceAdded, IsSyncedFile, IsLeftAsBefore}
use Rattle.store_core.proofs.KeptFileLemmas.{with_change, CameAll, came_longer, came_changed, grew, pins_kept, kept_on}
use Rattle.store_core.proofs.MailChangeLemmas.{Own, MailChange, left_image, region_grown, region_nowhere, region_untaken, part_behind, mail_safe, regions_left}
use Rattle.store_core.proofs.StoreFileLemmas.{store_on}

-- ---- a piece that isn't synced yet

-- what a crash leaves of the file now has, below its old end, what it could leave before
abbrev pub LeavesFront : ℕ → ℕ → DiskState → DiskState → Type 0
LeavesFront n end a b = (left : Option (List ℕ)) → MayLeave (b (file.Mail n)) left → MayLeave (a (file.Mail n)) (option_map (take end) left)

-- the images of the present say so
leaves_front : (n end : ℕ) (old new : History) → Own new.now → EachImage (λ _ image. FrontStays (file.Mail n) end (Some old) image × OthersStay (file.Mail n) (Some old) image) (Some old) (Some new) → LeavesFront n end old.now new.now
leaves_front n end old new own each = λ left may.
    let name : FileName = file.Mail n in
    let image : Files = mixed name (λ _. left) (files_of new.now) in
    let stays = since-now (λ _ i. FrontStays name end (Some old) i × OthersStay name (Some old) i) old new each image (left_image name new.now left (files_of new.now) may (λ other apart. own other)) in
    subst (λ (o : Option (List ℕ)). MayLeave (old.now name) (option_map (take end) o)) (mixed-here name (λ _. left) (files_of new.now)) stays.0

region_first_grown : (x y : List ℕ) (o : Option (List ℕ)) (row : MapRecord) → IsSameRegion (Some x) o row → IsSameRegion (Some (x ++ y)) o row
region_first_grown x y o row h =
    let is : h.first ≡ x = let w : Some x ≡ Some h.first = h.in_first in cc w in
    let le : row.offset + row.size ≤ length x = subst (λ (z : List ℕ). row.offset + row.size ≤ length z) is h.first_holds in
    record {
      first = x ++ y;
      second = h.second;
      in_first = refl;
      in_second = h.in_second;
      first_holds = let l = length-append x y in omega (arith, le, l);
      second_holds = h.second_holds;
      same = h.same ∙ ap (λ (z : List ℕ). take row.size (drop row.offset z)) is ∙ sym (part_behind row.size row.offset x y le);
    }

mail_pieced : (n end : ℕ) (a b : DiskState) (octets : List ℕ) → ((other : FileName) → other ≢ file.Mail n → b other ≡ a other) → IsPieceAdded octets (a (file.Mail n)) (b (file.Mail n)) → LeavesFront n end a b → MailChange n a b
mail_pieced n end a b octets same added front = record {
  reads = λ other apart. ap reading (same other apart);
  leaves = λ other apart left h. subst (λ (f : FileState). MayLeave f left) (same other apart) h;
  kept = λ row h.
      subst (λ (o : Option (List ℕ)). IsSameRegion (reading (a (file.Mail n))) o row) (sym added.reads)
      (region_grown (reading (a (file.Mail n))) added.before octets row (subst (λ (o : Option (List ℕ)). IsSameRegion (reading (a (file.Mail n))) o row) added.read h));
  left = λ left may. record {
    before = option_map (take end) left;
    may = front left may;
    regions = λ row h.
        subst (λ (o : Option (List ℕ)). IsSameRegion o left row) (sym added.reads)
        (region_first_grown added.before octets left row (subst (λ (o : Option (List ℕ)). IsSameRegion o left row) added.read (region_untaken end (reading (a (file.Mail n))) left row h)));
  };
}

pub change_pieced : (n end : ℕ) (octets : List ℕ) (old new : Option History) → IfTold new Own → SameButFor (file.Mail n) old new → Between (λ a b. IsPieceAdded octets (a (file.Mail n)) (b (file.Mail n))) old new
    → EachImage (λ _ image. FrontStays (file.Mail n) end old image × OthersStay (file.Mail n) old image) old new → Between (MailChange n) old new
change_pieced n end octets None new own same added each = same
change_pieced n end octets (Some old) None own same added each = absurd same
change_pieced n end octets (Some old) (Some new) own same added each = mail_pieced n end old.now new.now octets same added (leaves_front n end old new own each)

-- ---- a file that was synced

mail_synced : (n : ℕ) (a b : DiskState) → Own a → ((other : FileName) → other ≢ file.Mail n → b other ≡ a other) → IsSyncedFile (a (file.Mail n)) (b (file.Mail n)) → MailChange n a b
mail_synced n a b own same synced = record {
  reads = λ other apart. ap reading (same other apart);
  leaves = λ other apart left h. subst (λ (f : FileState). MayLeave f left) (same other apart) h;
  kept = λ row h. subst (λ (o : Option (List ℕ)). IsSameRegion (reading (a (file.Mail n))) o row) (sym synced.reads) h;
  left = λ left may. elim (synced.leaves left may) [
    | inl is ↦ record {
      before = reading (a (file.Mail n));
      may = own (file.Mail n);
      regions = λ row h.
          subst (λ (o : Option (List ℕ)). IsSameRegion (reading (b (file.Mail n))) o row) (sym is)
          (subst (λ (o : Option (List ℕ)). IsSameRegion o (reading (a (file.Mail n))) row) (sym synced.reads) h);
    }
    | inr gone ↦ record { before = None; may = gone.1; regions = λ row h. absurd (region_nowhere (reading (a (file.Mail n))) row h) }
  ];
}

pub change_synced : (n : ℕ) (old new : Option History) → IfTold old Own → SameButFor (file.Mail n) old new → Between (λ a b. IsSyncedFile (a (file.Mail n)) (b (file.Mail n))) old new → Between (MailChange n) old new
change_synced n None new own same synced = same
change_synced n (Some old) None own same synced = absurd same
change_synced n (Some old) (Some new) own same synced = mail_synced n old.now new.now own same synced

-- within the call each image is one of before
pub left_leaves : (n : ℕ) (old new : Option History) → IfTold old Own → EachImage (λ _ image. IsLeftAsBefore (file.Mail n) old image × OthersStay (file.Mail n) old image) old new → (lists : Lists) → IsSettledFor lists old → Leaves lists lists old new
left_leaves n None new own each lists settled = absurd settled
left_leaves n (Some old) new own each lists settled =
    each_image-map (λ _ image. IsLeftAsBefore (file.Mail n) (Some old) image × OthersStay (file.Mail n) (Some old) image) (λ _ image. Safe image lists ⊎ Safe image lists) (Some old) new
    (λ moment image i. inl (mail_safe old.now lists settled n image own i.1 (regions_left old.now lists settled n (image (file.Mail n)) own i.0))) each

-- ---- files that no crash takes away

stay_narrow : (old new : List MailFile) (rows : List MapRecord) (n : ℕ) (a b : DiskState) → CameAll old new → ((other : FileName) → other ≢ file.Mail n → b other ≡ a other) → (IsThere (b (file.Mail n)) → IsThere (a (file.Mail n))) → (MayLeave (b (file.Mail n)) None → MayLeave (a (file.Mail n)) None)
    → StayThere old rows a → StayThere new rows b
stay_narrow old new rows n a b came same there narrow stay = λ number f found grows here.
    let c = came number f found in
    let grown : MayGrow c.was = grew old number f c grows in
    elim (cases_eq number n) [
      | inl is ↦
          let before : IsThere (a (file.Mail number)) = subst (λ (k : ℕ). IsThere (a (file.Mail k))) (sym is) (there (subst (λ (k : ℕ). IsThere (b (file.Mail k))) is here)) in
          elim (stay number c.was c.found grown before) [
            | inl has ↦ inl has
            | inr firm ↦ inr (λ gone. firm (subst (λ (k : ℕ). MayLeave (a (file.Mail k)) None) (sym is) (narrow (subst (λ (k : ℕ). MayLeave (b (file.Mail k)) None) is gone))))
          ]
      | inr apart ↦
          let e : b (file.Mail number) ≡ a (file.Mail number) = same (file.Mail number) (λ p. apart (let w : file.Mail number ≡ file.Mail n = p in cc w)) in
          subst (λ (s : FileState). (list_any (λ row. row.file == number) rows ≡ true) ⊎ (MayLeave s None → ⊥)) (sym e)
          (stay number c.was c.found grown (subst IsThere e here))
    ]

synced_narrow : (f g : FileState) → MayLeave f (reading f) → IsSyncedFile f g → MayLeave g None → MayLeave f None
synced_narrow f g own s may = elim (s.leaves None may) [
  | inl is ↦ subst (λ (o : Option (List ℕ)). MayLeave f o) (sym is) own
  | inr gone ↦ gone.1
]

there_before : (f g : FileState) → reading g ≡ reading f → IsThere g → IsThere f
there_before f g same there =
    let read : reading g ≡ Some g.octets = cond-true g.is_there (Some g.octets) None there in
    (reads_there f g.octets (sym same ∙ read)).0

stay_pieced : (old new : List MailFile) (rows : List MapRecord) (n : ℕ) (octets : List ℕ) (a b : Option History) → CameAll old new → SameButFor (file.Mail n) a b → Between (λ x y. IsPieceAdded octets (x (file.Mail n)) (y (file.Mail n))) a b → IfTold a (StayThere old rows) → IfTold b (StayThere new rows)
stay_pieced old new rows n octets None b came same added stay = subst (λ (h : Option History). IfTold h (StayThere new rows)) (sym same) tt
stay_pieced old new rows n octets (Some a) None came same added stay = absurd same
stay_pieced old new rows n octets (Some a) (Some b) came same added stay =
    stay_narrow old new rows n a.now b.now came same (λ there. (reads_there (a.now (file.Mail n)) added.before added.read).0) added.leaves stay

stay_synced : (old new : List MailFile) (rows : List MapRecord) (n : ℕ) (a b : Option History) → CameAll old new → IfTold a Own → SameButFor (file.Mail n) a b → Between (λ x y. IsSyncedFile (x (file.Mail n)) (y (file.Mail n))) a b → IfTold a (StayThere old rows) → IfTold b (StayThere new rows)
stay_synced old new rows n None b came own same synced stay = subst (λ (h : Option History). IfTold h (StayThere new rows)) (sym same) tt
stay_synced old new rows n (Some a) None came own same synced stay = absurd same
stay_synced old new rows n (Some a) (Some b) came own same synced stay =
    stay_narrow old new rows n a.now b.now came same (there_before (a.now (file.Mail n)) (b.now (file.Mail n)) synced.reads) (synced_narrow (a.now (file.Mail n)) (b.now (file.Mail n)) (own (file.Mail n)) synced) stay

-- ---- the store

pub pieced_store : {D : Type 0} → (n end : ℕ) (octets : List ℕ) (old new : Option History) (v : StoreValue D) (disk : D) (files : FilesValue) → IsStore old v → v.stopped ≡ false → IfTold new Own → end_in n v.files.files ≡ Some end
    → files ≡ with_change n (ending_at (end + length octets)) v.files → SameButFor (file.Mail n) old new → Between (λ a b. IsPieceAdded octets (a (file.Mail n)) (b (file.Mail n))) old new
    → EachImage (λ _ image. FrontStays (file.Mail n) end old image × OthersStay (file.Mail n) old image) old new
    → ((number : ℕ) → IsAsKnown v.files.files number old → IsAsKnown files.files number new) → IsStore new (record v { disk = disk; files = files })
pieced_store n end octets old new v disk files s runs own ends is same added each still =
    let later : FilesValue = with_change n (ending_at (end + length octets)) v.files in
    let r = s.running runs in
    let came : CameAll v.files.files later.files = came_longer n end (length octets) v.files.files ends in
    subst (λ (f : FilesValue). IsStore new (record v { disk = disk; files = f })) (sym is)
    (store_on n old new v disk later s runs (change_pieced n end octets old new own same added each)
    (λ number. subst (λ (f : FilesValue). IsAsKnown f.files number new) is (still number (r.files_known number)))
    (stay_pieced v.files.files later.files v.map.records n octets old new came same added r.files_stay)
    (kept_on v.files later v.drawn v.map came refl (pins_kept n (ending_at (end + length octets)) v.files.files v.map.records (λ f. refl) (λ f. refl) (λ f. refl) s.files.pinned) s.files))

pub synced_store : {D : Type 0} → (n : ℕ) (old new : Option History) (v : StoreValue D) (disk : D) (files : FilesValue) → IsStore old v → v.stopped ≡ false → IfTold old Own
    → files ≡ record v.files { files = changed_in n placing_ended v.files.files } → SameButFor (file.Mail n) old new → Between (λ a b. IsSyncedFile (a (file.Mail n)) (b (file.Mail n))) old new
    → ((number : ℕ) → IsAsKnown v.files.files number old → IsAsKnown files.files number new) → IsStore new (record v { disk = disk; files = files })
synced_store n old new v disk files s runs own is same synced still =
    let later : FilesValue = record v.files { files = changed_in n placing_ended v.files.files } in
    let r = s.running runs in
    let came : CameAll v.files.files later.files =
    came_changed n placing_ended v.files.files (record { number = λ f. refl; sealed = λ f. refl; barred = λ f. refl; doomed = λ f. refl; taken = λ f at t. inl t; ends = λ f end at e. (end, e, omega arith) }) in
    subst (λ (f : FilesValue). IsStore new (record v { disk = disk; files = f })) (sym is)
    (store_on n old new v disk later s runs (change_synced n old new own same synced)
    (λ number. subst (λ (f : FilesValue). IsAsKnown f.files number new) is (still number (r.files_known number)))
    (stay_synced v.files.files later.files v.map.records n old new came own same synced r.files_stay)
    (kept_on v.files later v.drawn v.map came refl (pins_kept n placing_ended v.files.files v.map.records (λ f. refl) (λ f. refl) (λ f. refl) s.files.pinned) s.files))
