-- What an opening leaves of a disk, and what it shows.
use Rattle.std.proofs.Common.{◌≡◌, ℕ, List, map, Option, Some, None, refl, sym, ◌∙◌, subst}
use Rattle.disk_model.specs.Disk.{Between, DiskState, History, IfTold, EachImage, SameState, IsIdle}
use Rattle.disk_model.proofs.MomentLemmas.{each_image-then}
use Rattle.mdbox_base.specs.declared.entries.BoxEntry.{BoxEntry}
use Rattle.mdbox_base.specs.declared.entries.MapEntry.{MapEntry}
use Rattle.model_meaning.specs.BoxMeaning.{BoxMeaning, box_meaning}
use Rattle.model_lists.specs.Lists.{Lists}
use Rattle.model_store.specs.Listing.{HaveListings, ShowLists}
use Rattle.model_meaning.specs.MapMeaning.{MapBox, MapMeaning, map_meaning}
use Rattle.model_store.specs.Opening.{Opens}
use Rattle.model_store.proofs.OpeningLemmas.{one_store}
use Rattle.model_store.proofs.OpeningSafeLemmas.{safe_opens}
use Rattle.model_store.specs.Safe.{Safe}
use Rattle.model_store.specs.Settled.{files_of, IsSettled, IsSettledFor}
use Rattle.model_store.proofs.SettledLemmas.{settled_safe}
use Rattle.disk_model.proofs.IdleLemmas.{same_state-back, idle-images, idle-between}
use Rattle.disk_model.proofs.BetweenLemmas.{same-between, between-if, between-map}
use Rattle.model_store.specs.Carrying.{CarryOver}
use Rattle.model_store.proofs.CarryingLemmas.{each_name}
use Rattle.model_store.proofs.StandsLemmas.{root_same}
use Rattle.store_sweep.specs.Swept.{FilesCarry, IsSwept}
use Rattle.store_sweep.proofs.HeldStoreLemmas.{reads_opened}
use Rattle.store_open.specs.Opened.{CarriesAll, CarriesOpened, StoreCarries}
use Rattle.store_open.proofs.CheckedLemmas.{OpensAt}
use Rattle.store_open.proofs.StillOpensLemmas.{carries_own}

-- ---- at every moment

-- calls that change nothing
pub idle_settled : (lists : Lists) (old new : Option History) → IsIdle old new → IsSettledFor lists old → IsSettledFor lists new
idle_settled lists None new idle s = absurd s
idle_settled lists (Some old) None idle s = absurd idle.same
idle_settled lists (Some old) (Some new) idle s = subst (λ (d : DiskState). IsSettled d lists) (sym idle.same) s

pub idle_safe : (lists : Lists) (old new : Option History) → IsIdle old new → IsSettledFor lists old → EachImage (λ _ image. Safe image lists) old new
idle_safe lists None new idle s = absurd s
idle_safe lists (Some old) new idle s = idle-images (λ image. Safe image lists) (Some old) new idle (λ image is. settled_safe old.now lists image s is)

-- and then a sweep
pub swept_safe : (lists : Lists) (old now new : Option History) → IsIdle old now → IsSettledFor lists old → (IsSettledFor lists now → EachImage (λ _ image. Safe image lists) now new) → EachImage (λ _ image. Safe image lists) old new
swept_safe lists old now new idle s each = each_image-then _ old now new (idle_safe lists old now idle s) (each (idle_settled lists old now idle s))

-- ---- afterwards

-- what was carried since the checks was carried
pub reads_since : (generation : ℕ) (m : MapMeaning) (old now new : Option History) → SameState old now → FilesCarry generation m now new → FilesCarry generation m old new
reads_since generation m old now new same carry = same-between (λ a b. CarryOver generation m (files_of a) (files_of b)) old now new same carry

pub swept_since : (generation : ℕ) (m : MapMeaning) (old now new : Option History) → SameState old now → IsSwept generation m now new → IsSwept generation m old new
swept_since generation m old now new same swept = record {
  reads = same-between _ old now new same swept.reads;
  only = swept.only;
  kept = same-between _ old now new same swept.kept;
  mail = same-between _ old now new same swept.mail;
  ends = swept.ends;
  names = same-between _ old now new same swept.names;
}

-- files that stay carry over all that they have
pub carry_self : (disk : DiskState) (store : List ℕ) (entries : List MapEntry) (logs : List (List BoxEntry)) → (o : Opens (files_of disk) store entries logs) → CarryOver o.passed.map_log.generation (map_meaning store entries) (files_of disk) (files_of disk)
carry_self disk store entries logs o =
    let g : ℕ = o.passed.map_log.generation in
    let m : MapMeaning = map_meaning store entries in
    each_name g m (files_of disk) (files_of disk) (reads_opened g m disk (record { store = store; entries = entries; logs = logs; opens = o; generation_is = refl; map_is = refl }))

pub all-idle : (old new : Option History) → IsIdle old new → Between CarriesAll old new
all-idle old new idle = idle-between _ old new idle (λ disk. carry_self disk)

-- then they open again, with the same logs
pub all_opened : (old new : Option History) → Between CarriesAll old new → StoreCarries old new
all_opened old new all =
    between-map CarriesAll CarriesOpened old new (λ a b carry. record { again = λ store entries logs o. carries_own store entries logs (files_of a) (files_of b) o (carry store entries logs o); undue = λ none. carry }) all

pub carries-idle : (old new : Option History) → IsIdle old new → StoreCarries old new
carries-idle old new idle = all_opened old new (all-idle old new idle)

-- the store that was opened is the one that the files open with
carry_one : (generation : ℕ) (m : MapMeaning) (store : List ℕ) (entries : List MapEntry) (logs : List (List BoxEntry)) (a b : DiskState) → m ≡ map_meaning store entries → CarryOver generation m (files_of a) (files_of b) → OpensAt store generation entries logs a
    → (other : List ℕ) (es : List MapEntry) (ls : List (List BoxEntry)) (o : Opens (files_of a) other es ls) → CarryOver o.passed.map_log.generation (map_meaning other es) (files_of a) (files_of b)
carry_one generation m store entries logs a b is carry at other es ls o =
    let e = one_store (files_of a) store other entries es logs ls at.0 o in
    let g = root_same (files_of a) store other at.0.passed.map_log.generation o.passed.map_log.generation at.0.passed.map_log.root o.passed.map_log.root in
    let F : ℕ → MapMeaning → Type 0 = λ n k. CarryOver n k (files_of a) (files_of b) in
    let means : m ≡ map_meaning other es = cc (is, e.0, e.1) in
    subst (λ (n : ℕ). F n (map_meaning other es)) (sym at.1 ∙ g.1) (subst (F generation) means carry)

pub all-swept : (generation : ℕ) (m : MapMeaning) (store : List ℕ) (entries : List MapEntry) (logs : List (List BoxEntry)) (old now new : Option History) → SameState old now → m ≡ map_meaning store entries → IfTold now (OpensAt store generation entries logs) → FilesCarry generation m now new → Between CarriesAll old new
all-swept generation m store entries logs old now new same is opens carry =
    between-if (λ a b. CarryOver generation m (files_of a) (files_of b)) CarriesAll (OpensAt store generation entries logs) old new (λ a b c at. carry_one generation m store entries logs a b is c at)
    (reads_since generation m old now new same carry) (same_state-back (OpensAt store generation entries logs) old now same opens)

-- ---- what is shown

listings : (store : List ℕ) (entries : List MapEntry) (logs : List (List BoxEntry)) (lists : Lists) (disk : DiskState) → Opens (files_of disk) store entries logs → IsSettled disk lists → HaveListings (map_meaning store entries).boxes logs lists
listings store entries logs lists disk o s =
    let r = safe_opens (files_of disk) s.store s.entries lists s.safe in
    let e = one_store (files_of disk) s.store store s.entries entries r.0 logs r.1 o in
    subst (λ (xs : List (List BoxEntry)). HaveListings (map_meaning store entries).boxes xs lists) e.2
    (subst (λ (es : List MapEntry). HaveListings (map_meaning store es).boxes r.0 lists) e.1
    (subst (λ (t : List ℕ). HaveListings (map_meaning t s.entries).boxes r.0 lists) e.0 r.2))

-- the law of the open store
abbrev pub LogsShow : Type 0
LogsShow = (boxes : List MapBox) (logs : List (List BoxEntry)) (lists : Lists) → HaveListings boxes logs lists → ShowLists boxes (map box_meaning logs) lists

pub shown : (store : List ℕ) (entries : List MapEntry) (logs : List (List BoxEntry)) (m : MapMeaning) (meanings : List BoxMeaning) (lists : Lists) (old : Option History) → LogsShow → m ≡ map_meaning store entries → meanings ≡ map box_meaning logs
    → IfTold old (λ disk. Opens (files_of disk) store entries logs) → IsSettledFor lists old → ShowLists m.boxes meanings lists
shown store entries logs m meanings lists None show is are opens s = absurd s
shown store entries logs m meanings lists (Some old) show is are opens s =
    subst (λ (xs : List BoxMeaning). ShowLists m.boxes xs lists) (sym are)
    (subst (λ (k : MapMeaning). ShowLists k.boxes (map box_meaning logs) lists) (sym is) (show (map_meaning store entries).boxes logs lists (listings store entries logs lists old.now opens s)))
