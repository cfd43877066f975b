-- A record that is kept stores the text that it stored.
use Rattle.std.proofs.Common.{◌≡◌, ℕ, List, [], ◌∷◌, take, drop, Option, Some, refl, sym, ◌∙◌, ap, subst}
use Rattle.std.proofs.lemmas.List.Elements.{All-head, All-tail}
use Rattle.disk_model.specs.Disk.{DiskState, Files, History, Between}
use Rattle.disk_model.proofs.BetweenLemmas.{between-both, between-map}
use Rattle.mdbox_base.specs.declared.entries.InstRow.{InstRow}
use Rattle.model_meaning.specs.MapMeaning.{MapRecord}
use Rattle.model_storage.specs.StorageFile.{IsMessage}
use Rattle.model_store.specs.Settled.{files_of}
use Rattle.model_store.specs.Stands.{HasInstances, HoldsMessage, NameInstances, StoresMessage}
use Rattle.sis_store.specs.OnDisk.{instance_file}
use Rattle.store_core.specs.Dues.{IsSpared}
use Rattle.store_core.specs.Value.{StoreValue}
use Rattle.task_claims.specs.Leaving.{HasRegionOctets, HaveSameInstances, LeavesRecord}

-- what files keep of a record: another row has its GUID, size and instances, its region has the same octets, and its instances are there
pub record KeepsRow (a b : Files) (row now : MapRecord) : Type 0 where
  pub guid : now.guid ≡ row.guid
  pub size : now.size ≡ row.size
  pub instances : now.instances ≡ row.instances
  pub region : (octets : List ℕ) → HasRegionOctets a row octets → HasRegionOctets b now octets
  pub same : HaveSameInstances row.instances a b

abbrev Stays : Files → Files → InstRow → Type 0
Stays a b inst = (own : List ℕ) → a (instance_file inst) ≡ Some own → b (instance_file inst) ≡ Some own

pub instances_on : (a b : Files) (rows : List InstRow) (octets : List (List ℕ)) → HaveSameInstances rows a b → HasInstances a rows octets → HasInstances b rows octets
instances_on a b [] [] same h = tt
instances_on a b [] (o ∷ os) same h = absurd h
instances_on a b (r ∷ rs) [] same h = absurd h
instances_on a b (r ∷ rs) (o ∷ os) same h = (All-head (Stays a b) r rs same o h.0, instances_on a b rs os (All-tail (Stays a b) r rs same) h.1)

unfoldable pub holds_on : (a b : Files) (row now : MapRecord) → KeepsRow a b row now → (h : HoldsMessage a row) → HoldsMessage b now
holds_on a b row now k h =
    let octets : List ℕ = take row.size (drop row.offset h.octets_there) in
    let r = k.region octets (record { there = h.octets_there; in_file = h.there; inside = h.inside; same = refl }) in
    record {
      octets_there = r.there;
      message = h.message;
      meta = h.meta;
      there = r.in_file;
      inside = r.inside;
      region = subst (λ (o : List ℕ). IsMessage o h.message) (sym r.same) h.region;
      says = h.says;
      guid = h.guid ∙ ap (λ (g : List ℕ). Some (record { 0 = g })) (sym k.guid);
    }

pub stores_on : (a b : Files) (row now : MapRecord) (octets : List ℕ) → KeepsRow a b row now → StoresMessage a row octets → StoresMessage b now octets
unfolding holds_on
stores_on a b row now octets k s = record {
  stored = holds_on a b row now k s.stored;
  instances = s.instances;
  names = subst (λ (rows : List InstRow). NameInstances s.stored.meta.refs rows) (sym k.instances) s.names;
  found = subst (λ (rows : List InstRow). HasInstances b rows s.instances) (sym k.instances) (instances_on a b row.instances s.instances k.same s.found);
  whole = s.whole;
  size = s.size;
}

-- what is kept of a record from one state to another
abbrev Regions : MapRecord → MapRecord → DiskState → DiskState → Type 0
Regions row now a b = (octets : List ℕ) → HasRegionOctets (files_of a) row octets → HasRegionOctets (files_of b) now octets

abbrev Insts : MapRecord → DiskState → DiskState → Type 0
Insts row a b = HaveSameInstances row.instances (files_of a) (files_of b)

pub row_kept : {D : Type 0} → (uid : ℕ) (row : MapRecord) (new : StoreValue D) (before after : Option History) → (k : LeavesRecord uid row new before after) → Between (λ a b. KeepsRow (files_of a) (files_of b) row k.now) before after
row_kept uid row new before after k =
    between-both (Regions row k.now) (Insts row) (λ a b. KeepsRow (files_of a) (files_of b) row k.now) before after
    (λ a b r s. record { guid = ap (λ (x : MapRecord). x.guid) k.is_same; size = ap (λ (x : MapRecord). x.size) k.is_same; instances = ap (λ (x : MapRecord). x.instances) k.is_same; region = r; same = s }) k.region k.instances

-- So what was said of records of which others have something is said still.
pub kept_spared : {D : Type 0} → (uid : ℕ) (row : MapRecord) (new : StoreValue D) (before after : Option History) → LeavesRecord uid row new before after → IsSpared uid row new before after
kept_spared uid row new before after k = record {
  now = k.now;
  there = k.there;
  guid = ap (λ (r : MapRecord). r.guid) k.is_same;
  stores = λ octets. between-map (λ a b. KeepsRow (files_of a) (files_of b) row k.now) (λ a b. StoresMessage (files_of a) row octets → StoresMessage (files_of b) k.now octets) before after
      (λ a b r h. stores_on (files_of a) (files_of b) row k.now octets r h) (row_kept uid row new before after k);
}
