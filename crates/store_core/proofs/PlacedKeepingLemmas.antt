-- What the placing of an instance leaves to a task that compares instances, or has found some; and the one that is placed is found.
use Rattle.store_core.proofs.Common.{option_map, ◌≡◌, ◌≢◌, ℕ, ◌+◌, ◌<◌, true, List, length, Option, Some, None, All, refl, sym, ◌∙◌, ap, subst, arith, All-weaker, DiskState, History, Between, IfTold, Keeps, reading, between-map, InstRow, Hash, InstId, MapMeaning, named_instances, IsThereWhole}
use Rattle.store_core.proofs.Common.{files_of, InstancesValue, AreInstances, after_placing, instance_placed, is_of_kind, next_id, with_instance, IsUnlikeKnown, instance_file, next_instance_file, KnownInstance, instance-in, AreInstancesFirm, AreInstancesThere, IsFirstKnown, IsKnownRow, IsOtherThan}
use Rattle.store_core.proofs.Common.{StoreValue}
use Rattle.sis_store.specs.Comparing.{IsUnlikeCompared}
use Rattle.sis_store.proofs.CandidateLemmas.{compared_placed}
use Rattle.sis_store.proofs.IdLemmas.{all-with, not_before_itself}
use Rattle.store_core.specs.Keeping.{KeepsInstances}
use Rattle.store_core.specs.StoreInstances.{IsFirstWith}
use Rattle.store_core.proofs.InstanceAppendLemmas.{of_known}
use Rattle.store_core.proofs.PlacedInstanceLemmas.{FileMade, IsUnlike, apart_read, firm_placed, kind_turned, new_known, reads_made, row_placed}

-- an instance is placed beside those that are there, none of which has its octets
pub record IsPlaced (hash : Hash) (octets : List ℕ) (value : InstancesValue) (a b : DiskState) : Type 0 where
  pub made : FileMade (next_instance_file hash value) a b
  pub there : AreInstancesThere value.known a
  pub unlike : IsUnlike hash octets value.known a
  pub keeps : Keeps (b (next_instance_file hash value)) octets

abbrev Reads : List KnownInstance → DiskState → DiskState → Type 0
Reads known a b = (row : InstRow) → IsKnownRow known row → reading (b (instance_file row)) ≡ reading (a (instance_file row))

abbrev Firsts : List KnownInstance → List KnownInstance → DiskState → DiskState → Type 0
Firsts old new a b = (row : InstRow) → IsKnownRow old row → IsFirstKnown old a row → IsFirstKnown new b row

abbrev ReadAlike : List KnownInstance → DiskState → DiskState → Type 0
ReadAlike known a b = All (λ k. reading (b (instance_file k.row)) ≡ reading (a (instance_file k.row))) known

abbrev placed_row : Hash → List ℕ → InstancesValue → InstRow
placed_row hash octets value = (instance_placed value hash (length octets)).row

pub is_placed : (hash : Hash) (octets : List ℕ) (value : InstancesValue) (old new : Option History) → IfTold old (AreInstancesThere value.known) → IsUnlikeKnown hash (length octets) octets value.known old → Between (FileMade (next_instance_file hash value)) old new
    → IfTold new (λ now. Keeps (now (next_instance_file hash value)) octets) → Between (IsPlaced hash octets value) old new
is_placed hash octets value None new there unlike made keeps = made
is_placed hash octets value (Some old) None there unlike made keeps = absurd made
is_placed hash octets value (Some old) (Some new) there unlike made keeps = record { made = made; there = there; unlike = unlike; keeps = keeps }

alike : (hash : Hash) (octets : List ℕ) (value : InstancesValue) (a b : DiskState) → IsPlaced hash octets value a b → ReadAlike value.known a b
alike hash octets value a b p =
    All-weaker (λ (k : KnownInstance). IsThereWhole (files_of a) k.row) (λ (k : KnownInstance). reading (b (instance_file k.row)) ≡ reading (a (instance_file k.row)))
    (λ k w. reads_made (next_instance_file hash value) (instance_file k.row) a b p.made (apart_read (next_instance_file hash value) (instance_file k.row) a w.octets p.made.absent w.there)) value.known p.there.whole

reads_known : (hash : Hash) (octets : List ℕ) (value : InstancesValue) (a b : DiskState) → IsPlaced hash octets value a b → Reads value.known a b
reads_known hash octets value a b p row known = of_known (λ (r : InstRow). reading (b (instance_file r)) ≡ reading (a (instance_file r))) value.known row (alike hash octets value a b p) known

-- a known instance that was first is so beside the new one, whose octets it hasn't
first_known : (hash : Hash) (octets : List ℕ) (value : InstancesValue) (a b : DiskState) → IsPlaced hash octets value a b → Firsts value.known (with_instance (instance_placed value hash (length octets)) value.known) a b
first_known hash octets value a b p row known first =
    let here : reading (b (instance_file row)) ≡ reading (a (instance_file row)) = reads_known hash octets value a b p row known in
    let same : ReadAlike value.known a b = alike hash octets value a b p in
    all-with (λ (k : KnownInstance). IsOtherThan b row k.row) value.known (instance_placed value hash (length octets)) (λ i d lt kind earlier e. first i d lt kind earlier (sym (same i d lt) ∙ e ∙ here)) (λ kind earlier e.
    of_known (λ (r : InstRow). is_of_kind hash (length octets) r ≡ true → reading (a (instance_file r)) ≢ Some octets) value.known row p.unlike known (kind_turned row (placed_row hash octets value) kind) (sym here ∙ sym e ∙ p.keeps.reads))

pub kept_placed : {D : Type 0} → (hash : Hash) (octets : List ℕ) (old new : Option History) (v w : StoreValue D) → AreInstances v.instances → v.instances.highest < 4294967294 → AreInstances w.instances → w.instances ≡ after_placing hash (length octets) v.instances → w.map ≡ v.map → All (IsKnownRow v.instances.known) (named_instances v.map)
    → Between (IsPlaced hash octets v.instances) old new → KeepsInstances v w old new
kept_placed hash octets old new v w are less later is map_is named placed =
    let value : InstancesValue = v.instances in
    let known : w.instances.known ≡ with_instance (instance_placed value hash (length octets)) value.known = ap (λ (i : InstancesValue). i.known) is in
    let highest : w.instances.highest ≡ value.highest + 1 = ap (λ (i : InstancesValue). i.highest) is in
    let rise : AreInstances (after_placing hash (length octets) value) = subst AreInstances is later in
    let P : DiskState → DiskState → Type 0 = IsPlaced hash octets value in
    record {
      store = ap (λ (i : InstancesValue). i.store) is;
      drawn = omega (arith, highest);
      known = λ row k. subst (λ (ks : List KnownInstance). IsKnownRow ks row) (sym known) (row_placed hash (length octets) value row are less rise k);
      reads = between-map P (Reads value.known) old new (λ a b p. reads_known hash octets value a b p) placed;
      first = subst (λ (ks : List KnownInstance). Between (Firsts value.known ks) old new) (sym known)
          (between-map P (Firsts value.known (with_instance (instance_placed value hash (length octets)) value.known)) old new (λ a b p. first_known hash octets value a b p) placed);
      compared = λ kind size text last drawn le unlike. subst (λ (i : InstancesValue). IsUnlikeCompared value.store kind size text last drawn i.known new) (sym is)
          (compared_placed value hash kind (length octets) size text last drawn old new less le (between-map P (ReadAlike value.known) old new (λ a b p. alike hash octets value a b p) placed) unlike);
      firm = record {
        stays = subst (λ (m : MapMeaning). Between (λ a b. AreInstancesFirm value.known v.map a → AreInstancesFirm w.instances.known m b) old new) (sym map_is)
            (subst (λ (ks : List KnownInstance). Between (λ a b. AreInstancesFirm value.known v.map a → AreInstancesFirm ks v.map b) old new) (sym known)
            (between-map P (λ a b. AreInstancesFirm value.known v.map a → AreInstancesFirm (with_instance (instance_placed value hash (length octets)) value.known) v.map b) old new (λ a b p firm. firm_placed hash octets value v.map a b p.unlike named p.made p.keeps p.there firm) placed));
      };
    }

pub placing_kept : {D : Type 0} → (H : D → Option History) (hash : Hash) (octets : List ℕ) (v now w : StoreValue D) → v ≡ now → AreInstances v.instances → v.instances.highest < 4294967294 → AreInstances w.instances → w.instances ≡ after_placing hash (length octets) v.instances → w.map ≡ v.map → All (IsKnownRow v.instances.known) (named_instances v.map)
    → Between (IsPlaced hash octets v.instances) (H v.disk) (H w.disk) → KeepsInstances now w (H now.disk) (H w.disk)
placing_kept H hash octets v now w same are less later is map_is named placed = subst (λ (n : StoreValue _). KeepsInstances n w (H n.disk) (H w.disk)) same (kept_placed hash octets (H v.disk) (H w.disk) v w are less later is map_is named placed)

-- ---- the one that is placed

first_placed : (hash : Hash) (octets : List ℕ) (value : InstancesValue) (a b : DiskState) → IsPlaced hash octets value a b → IsFirstKnown (with_instance (instance_placed value hash (length octets)) value.known) b (placed_row hash octets value)
first_placed hash octets value a b p =
    let same : ReadAlike value.known a b = alike hash octets value a b p in
    let id : List ℕ = (next_id value).0 in
    all-with (λ (k : KnownInstance). IsOtherThan b (placed_row hash octets value) k.row) value.known (instance_placed value hash (length octets)) (λ i d lt kind earlier e. p.unlike i d lt kind (sym (same i d lt) ∙ e ∙ p.keeps.reads)) (λ kind earlier e. absurd (not_before_itself id id refl earlier))

told_since : (P : DiskState → DiskState → Type 0) (Q : DiskState → Type 0) (old new : Option History) → ((a b : DiskState) → P a b → Q b) → Between P old new → IfTold new Q
told_since P Q None new f p = subst (λ (h : Option History). IfTold h Q) (sym p) tt
told_since P Q (Some old) None f p = absurd p
told_since P Q (Some old) (Some new) f p = f old.now new.now p

pub found_placed : (hash : Hash) (octets : List ℕ) (old new : Option History) (value now : InstancesValue) (id : InstId) → AreInstances now → now ≡ after_placing hash (length octets) value → id ≡ next_id value → Between (IsPlaced hash octets value) old new
    → IsFirstWith octets (record { hash = hash; id = id; size = length octets }) now.known new
found_placed hash octets old new value now id later is same placed =
    let rise : AreInstances (after_placing hash (length octets) value) = subst AreInstances is later in
    let P : DiskState → DiskState → Type 0 = IsPlaced hash octets value in
    subst (λ (v : InstancesValue). IsFirstWith octets (record { hash = hash; id = id; size = length octets }) v.known new) (sym is)
    (subst (λ (i : InstId). IsFirstWith octets (record { hash = hash; id = i; size = length octets }) (after_placing hash (length octets) value).known new) (sym same) (record {
      is_known = ap (option_map (λ (k : KnownInstance). k.row)) (instance-in (after_placing hash (length octets) value).known (instance_placed value hash (length octets)) rise.rising (new_known value.known (instance_placed value hash (length octets))));
      reads = told_since P (λ now. reading (now (next_instance_file hash value)) ≡ Some octets) old new (λ a b p. p.keeps.reads) placed;
      first = told_since P (λ now. IsFirstKnown (after_placing hash (length octets) value).known now (placed_row hash octets value)) old new (λ a b p. first_placed hash octets value a b p) placed;
    }))
