-- The instances that a delivery has found stay so, as other files change, and its record may name them.
use Rattle.mail_save.proofs.Common.{◌≡◌, ◌≤◌, ℕ, List, [], ◌∷◌, All, Option, length, sym, subst, arith, All-cons, All-head, All-nil, All-tail, All-weaker, History, Between, IfTold, between-map, between-on, if_told-map, InstRow, AreHeld, InstancesValue, KeepsFirm, KeepsInstances, IsKnownRow}
use Rattle.mail_save.proofs.Common.{StoreValue, HasAppended, ReadsSameMail, TakesWithHeader, AreAttached, IsAttached, SavedParts}
use Rattle.disk_model.specs.declared.name.FileName.TheVariants as file
use Rattle.save_instances.proofs.FoundLemmas.{of_parts_kept, rows_first, rows_known}
use Rattle.saved_message.proofs.ReferenceLemmas.{parts_few}
use Rattle.store_core.proofs.InstanceAppendLemmas.{of_known}
use Rattle.store_core.proofs.InstanceKeepingLemmas.{kept_same, names_same}
use Rattle.store_core.proofs.KnownInstanceLemmas.{firm_same}
use Rattle.store_core.specs.Keeping.{ReadsInstances, SyncsInstances}
use Rattle.store_core.specs.StoreInstances.{AreInstancesFirm, IsFirmInstance, IsFirstKnown}
use Rattle.mail_save.specs.Left.{HoldsInstances}
use Rattle.mail_save.specs.MailFiles.{ReadsOtherMail}
use Rattle.mail_save.specs.Record.{MayBeNamed}
use Rattle.mail_save.proofs.MailFileLemmas.{synced_reads}

-- ---- what leaves the instances leaves those that are held

pub holds_on : {D : Type 0} → (rows : List InstRow) (old new : StoreValue D) (before after : Option History) → KeepsInstances old new before after → AreHeld rows new.instances.known → HoldsInstances rows old before → HoldsInstances rows new after
holds_on rows old new before after keeps held h = record {
  known = All-weaker (IsKnownRow old.instances.known) (IsKnownRow new.instances.known) (λ row k. keeps.known row k) rows h.known;
  held = held;
  first = between-on (λ a b. (row : InstRow) → IsKnownRow old.instances.known row → IsFirstKnown old.instances.known a row → IsFirstKnown new.instances.known b row) (λ now. All (IsFirstKnown old.instances.known now) rows) (λ now. All (IsFirstKnown new.instances.known now) rows) before after
      (λ a b kept all. both (IsFirstKnown old.instances.known a) (IsFirstKnown new.instances.known b) kept rows h.known all) keeps.first h.first;
  few = h.few;
}
  where
    both : (P Q : InstRow → Type 0) → ((row : InstRow) → IsKnownRow old.instances.known row → P row → Q row) → (is : List InstRow) → All (IsKnownRow old.instances.known) is → All P is → All Q is
    both P Q each [] known all = All-nil Q
    both P Q each (row ∷ is) known all = All-cons Q row is (each row (All-head (IsKnownRow old.instances.known) row is known) (All-head P row is all)) (both P Q each is (All-tail (IsKnownRow old.instances.known) row is known) (All-tail P row is all))

pub held_same : {D : Type 0} → (rows : List InstRow) (old new : StoreValue D) → new.instances ≡ old.instances → AreHeld rows old.instances.known → AreHeld rows new.instances.known
held_same rows old new same held = subst (λ (i : InstancesValue). AreHeld rows i.known) (sym same) held

pub attached_on : {D : Type 0} → (name : List ℕ) (time : ℕ) (octets : List ℕ) (parts : SavedParts) (old new : StoreValue D) (before after : Option History) → KeepsInstances old new before after → AreAttached name time octets parts old before → AreAttached name time octets parts new after
attached_on name time octets parts old new before after keeps a = record { prepared = a.prepared; form = a.form; laid = a.laid; found = of_parts_kept parts.rows a.prepared.parts old new before after keeps a.found; one_each = a.one_each }

-- of a store whose instances are the same
pub is_attached_on : {D : Type 0} → (name : List ℕ) (time : ℕ) (parts : SavedParts) (old new : StoreValue D) (before after : Option History) → KeepsInstances old new before after → new.instances ≡ old.instances → IsAttached name time parts old before → IsAttached name time parts new after
is_attached_on name time parts old new before after keeps same a = ((a.0.0, a.0.1, attached_on name time a.0.0 parts old new before after keeps a.0.2), held_same parts.rows old new same a.1)

-- ---- as storage files change

syncs_other : (file : ℕ) (before after : Option History) → ReadsOtherMail file before after → Between SyncsInstances before after
syncs_other file before after same = between-map _ SyncsInstances before after (λ a b both. both.1) same

syncs_same : (before after : Option History) → ReadsSameMail before after → Between SyncsInstances before after
syncs_same before after same = between-map _ SyncsInstances before after (λ a b both. both.1) same

syncs_read : (before after : Option History) → Between SyncsInstances before after → Between ReadsInstances before after
syncs_read before after same = between-map SyncsInstances ReadsInstances before after (λ a b s hash id. synced_reads (a (file.Inst hash id)) (b (file.Inst hash id)) (s hash id)) same

-- where the records name what they named
kept_synced : {D : Type 0} → (old new : StoreValue D) (before after : Option History) → new.instances ≡ old.instances → new.map ≡ old.map → Between SyncsInstances before after → KeepsInstances old new before after
kept_synced old new before after same map_is synced =
    kept_same old new before after same (syncs_read before after synced) (firm_same old new before after same (names_same old.map new.map map_is) synced)

-- a storage file was taken, a region placed, or nothing written to the storage files and instances
pub taken_keeps : {D : Type 0} → (header : List ℕ) (file : ℕ) (old new : StoreValue D) (before after : Option History) → new.instances ≡ old.instances → new.map ≡ old.map → TakesWithHeader header file old before after → KeepsInstances old new before after
taken_keeps header file old new before after same map_is t = kept_synced old new before after same map_is (syncs_other file before after t.others)

pub placed_keeps : {D : Type 0} → (region : List ℕ) (file : ℕ) (old new : StoreValue D) (before after : Option History) → new.instances ≡ old.instances → new.map ≡ old.map → HasAppended region file before after → KeepsInstances old new before after
placed_keeps region file old new before after same map_is a = kept_synced old new before after same map_is (syncs_other file before after a.others)

pub same_keeps : {D : Type 0} → (old new : StoreValue D) (before after : Option History) → new.instances ≡ old.instances → new.map ≡ old.map → ReadsSameMail before after → KeepsInstances old new before after
same_keeps old new before after same map_is reads = kept_synced old new before after same map_is (syncs_same before after reads)

-- an entry of the map log was added
pub logged_keeps : {D : Type 0} → (old new : StoreValue D) (before after : Option History) → new.instances ≡ old.instances → KeepsFirm old new before after → ReadsSameMail before after → KeepsInstances old new before after
logged_keeps old new before after same firm reads = kept_same old new before after same (syncs_read before after (syncs_same before after reads)) firm

-- ---- its record may name them

pub holds_attached : {D : Type 0} → (name : List ℕ) (time : ℕ) (parts : SavedParts) (store : StoreValue D) (history : Option History) → IsAttached name time parts store history → HoldsInstances parts.rows store history
holds_attached name time parts store history a =
    let at : AreAttached name time a.0.0 parts store history = a.0.2 in
    let few : length at.prepared.parts ≤ 512 = parts_few a.0.0 at.prepared a.0.1 at.form in
    record { known = rows_known parts.rows at.prepared.parts store.instances.known history at.found; held = a.1; first = rows_first parts.rows at.prepared.parts store.instances.known history at.found; few = (let one = at.one_each in omega (arith, few, one)) }

-- what was found may be named, where all that is known may
pub rows_firm : {D : Type 0} → (rows : List InstRow) (store : StoreValue D) (history : Option History) → All (IsKnownRow store.instances.known) rows → IfTold history (AreInstancesFirm store.instances.known store.map) → MayBeNamed rows store history
rows_firm rows store history known firm =
    if_told-map (AreInstancesFirm store.instances.known store.map) (λ now. All (IsFirmInstance store.map now) rows) history
    (λ disk all. All-weaker (IsKnownRow store.instances.known) (IsFirmInstance store.map disk) (λ inst is. of_known (IsFirmInstance store.map disk) store.instances.known inst all is) rows known) firm
