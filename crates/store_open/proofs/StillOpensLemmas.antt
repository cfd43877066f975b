-- Files that carry over what a store reads open as they did.
use Rattle.std.proofs.Common.{◌≡◌, ℕ, List, [], ◌∷◌, Option, Some, None, All, refl, sym, ◌∙◌, subst, arith}
use Rattle.std.proofs.lemmas.List.Elements.{All-head, All-tail}
use Rattle.disk_model.specs.Disk.{Files, DiskState, History, IfTold}
use Rattle.disk_model.specs.declared.name.FileName.TheVariants as file
use Rattle.mdbox_base.specs.declared.entries.BoxEntry.{BoxEntry}
use Rattle.mdbox_base.specs.declared.entries.MapEntry.{MapEntry}
use Rattle.model_meaning.specs.MapMeaning.{MapBox, MapMeaning, map_meaning}
use Rattle.model_meaning.proofs.SameMeaningLemmas.{means_itself}
use Rattle.model_rewritten.specs.CarriedStore.{CarriesStore}
use Rattle.model_store.specs.Settled.{files_of}
use Rattle.model_store.proofs.SettledLemmas.{has_all_carried, log_along}
use Rattle.model_store.specs.Stands.{HasRoot, HasMap}
use Rattle.model_store.specs.Safe.{HasAll}
use Rattle.model_store.specs.Carrying.{HasSameEntries, CarryOver}
use Rattle.model_store.specs.Opening.{PassBoxes, Opens}
use Rattle.store_sweep.specs.Swept.{FilesCarry}
use Rattle.store_open.proofs.CheckedLemmas.{OpensAt}

abbrev SameLog : Files → Files → MapBox → Type 0
SameLog a b box = HasSameEntries (a (file.Box box.number box.generation)) (b (file.Box box.number box.generation))

boxes_along : (m : MapMeaning) (a b : Files) (boxes : List MapBox) (logs : List (List BoxEntry)) → All (SameLog a b) boxes → PassBoxes a m boxes logs → PassBoxes b m boxes logs
boxes_along m a b [] [] s h = tt
boxes_along m a b [] (l ∷ ls) s h = absurd h
boxes_along m a b (x ∷ xs) [] s h = absurd h
boxes_along m a b (x ∷ xs) (l ∷ ls) s h =
    let one = h.0 in (
      record { log = record { log = log_along a b _ _ _ (All-head (SameLog a b) x xs s) one.log.log; in_range = one.log.in_range; fit = one.log.fit }; records = one.records },
      boxes_along m a b xs ls (All-tail (SameLog a b) x xs s) h.1,
    )

-- under the same generation
same_map : (store : List ℕ) (entries : List MapEntry) (a b : Files) → (h : HasMap a store entries) → CarryOver h.generation (map_meaning store entries) a b → HasMap b store entries
same_map store entries a b h e = record {
  generation = h.generation;
  generation_number = h.generation_number;
  root = record { before = h.root.before; log = log_along a b file.Root _ _ e.root h.root.log; in_range = h.root.in_range };
  log = log_along a b (file.Map h.generation) _ _ e.map h.log;
  in_range = h.in_range;
  fit = h.fit;
}

-- the regions and the instances of records, which no list needs
all_there : (store : List ℕ) (entries : List MapEntry) (logs : List (List BoxEntry)) (a : Files) → Opens a store entries logs → HasAll a (map_meaning store entries) []
all_there store entries logs a o = record { counts = λ guid. omega arith; regions = o.regions; instances = o.instances }

pub opens_along : (store : List ℕ) (entries : List MapEntry) (logs : List (List BoxEntry)) (a b : Files) → (o : Opens a store entries logs) → CarryOver o.passed.map_log.generation (map_meaning store entries) a b
    → (p : Opens b store entries logs) × (p.passed.map_log.generation ≡ o.passed.map_log.generation)
unfolding same_map
opens_along store entries logs a b o e =
    let all = has_all_carried o.passed.map_log.generation (map_meaning store entries) a b [] e (all_there store entries logs a o) in (
      record {
        passed = record { map_log = same_map store entries a b o.passed.map_log e; boxes = boxes_along (map_meaning store entries) a b (map_meaning store entries).boxes logs e.boxes o.passed.boxes };
        counts = o.counts;
        regions = all.regions;
        instances = all.instances;
      },
      refl,
    )

-- The files open again, with the same logs and the same mail.
pub carries_own : (store : List ℕ) (entries : List MapEntry) (logs : List (List BoxEntry)) (a b : Files) → (o : Opens a store entries logs) → CarryOver o.passed.map_log.generation (map_meaning store entries) a b → CarriesStore store entries logs a b
carries_own store entries logs a b o e = record {
  later = entries;
  later_logs = logs;
  opens = (opens_along store entries logs a b o e).0;
  means = means_itself (map_meaning store entries);
  boxes = refl;
  mail = record { regions = e.regions; instances = e.instances };
}

-- What opened opens, under the same generation.
pub still_opens : (store : List ℕ) (generation : ℕ) (entries : List MapEntry) (logs : List (List BoxEntry)) (m : MapMeaning) (now new : Option History) → m ≡ map_meaning store entries → IfTold now (OpensAt store generation entries logs) → FilesCarry generation m now new
    → IfTold new (OpensAt store generation entries logs)
still_opens store generation entries logs m None None is opens carry = tt
still_opens store generation entries logs m None (Some new) is opens carry = absurd (let e : Some new ≡ None = carry in cc e)
still_opens store generation entries logs m (Some now) None is opens carry = absurd carry
still_opens store generation entries logs m (Some now) (Some new) is opens carry =
    let e : CarryOver opens.0.passed.map_log.generation (map_meaning store entries) (files_of now.now) (files_of new.now) =
    subst (λ (g : ℕ). CarryOver g (map_meaning store entries) (files_of now.now) (files_of new.now)) (sym opens.1) (subst (λ (k : MapMeaning). CarryOver generation k (files_of now.now) (files_of new.now)) is carry) in
    let r = opens_along store entries logs (files_of now.now) (files_of new.now) opens.0 e in
    (r.0, r.1 ∙ opens.1)

pub has_root : (store : List ℕ) (generation : ℕ) (entries : List MapEntry) (logs : List (List BoxEntry)) (disk : DiskState) → OpensAt store generation entries logs disk → HasRoot (files_of disk) store generation
has_root store generation entries logs disk o = subst (λ (g : ℕ). HasRoot (files_of disk) store g) o.1 o.0.passed.map_log.root
