-- Logs that were made, beside an append to the log of a mailbox or to the map log.
use Rattle.store_core.proofs.Common.{◌≡◌, ℕ, Option, All, refl, sym, ◌∙◌, ap, subst, arith, History, SameButFor, BoxEntry, Highest, MapEntry, MapMeaning, map_meaning, map_applied, IsMadeLog, KeepsMadeLogs, drawn_by, StoreValue, OpenBox}
use Rattle.disk_model.specs.declared.name.FileName.TheVariants as file
use Rattle.mdbox_base.specs.declared.entries.MapEntry.TheVariants as entry
use Rattle.store_core.proofs.BoxAppendLemmas.{Placed, own_box}
use Rattle.store_core.proofs.MadeLogLemmas.{made_kept, no_less, held_beside, apart_from, apart_from_named}
use Rattle.store_core.proofs.MapAppendLemmas.{Readied}
use Rattle.store_core.proofs.MapDueLemmas.{mailboxes_stay}
use Rattle.store_core.proofs.PickingLemmas.{Picked}

-- an entry was added to the log of a mailbox
pub made_placed : {D : Type 0} → (old new : Option History) (v w : StoreValue D) (k : ℕ) (b : OpenBox) (number : ℕ) (e : BoxEntry) → Placed old v k b number e → w.made ≡ v.made → w.map.boxes ≡ v.map.boxes → w.map.store ≡ v.map.store → w.stopped ≡ v.stopped
    → w.drawn.mailbox ≡ v.drawn.mailbox → SameButFor b.log.name old new → KeepsMadeLogs old v → KeepsMadeLogs new w
made_placed old new v w k b number e p made boxes store stopped drawn same kept =
    let s = p.store in
    let q : Picked old v.map.store (map_meaning v.map.store s.entries).boxes s.logs b = own_box old v k b number e p in
    made_kept old new v w made boxes store (no_less v w drawn) (λ runs. held_beside b.log.name old new v.made same
    (apart_from_named (map_meaning v.map.store s.entries) v.drawn b.log.name q.box v.made q.there q.name (subst (λ (m : MapMeaning). All (λ (o : OpenBox). IsMadeLog m v.drawn o) v.made) s.map_is kept.are_made))
    (kept.held (sym stopped ∙ runs))) kept

same_box_drawn : (e : MapEntry) (drawn : Highest) → (drawn_by e drawn).mailbox ≡ drawn.mailbox
same_box_drawn (entry.U u) drawn = refl
same_box_drawn (entry.D us) drawn = refl
same_box_drawn (entry.T cs) drawn = refl
same_box_drawn (entry.S o c u f p z g is) drawn = refl
same_box_drawn (entry.H h) drawn = refl
same_box_drawn (entry.B b g n) drawn = refl
same_box_drawn (entry.G b g) drawn = refl
same_box_drawn (entry.P f t ms us) drawn = refl
same_box_drawn (entry.E f) drawn = refl
same_box_drawn (entry.X b cs) drawn = refl
same_box_drawn (entry.V b n) drawn = refl

-- an entry was added to the map log that makes no mailbox
pub made_with_entry : {D : Type 0} → (old new : Option History) (v ready w : StoreValue D) (e : MapEntry) → (r : Readied old ready e) → w.map ≡ map_applied e ready.map → w.drawn ≡ drawn_by e v.drawn → ready.map ≡ v.map
    → w.made ≡ v.made → w.stopped ≡ v.stopped → SameButFor ready.map_log.name old new → KeepsMadeLogs old v → KeepsMadeLogs new w
made_with_entry old new v ready w e r applied drew same made stopped others kept =
    made_kept old new v w made
    (ap (λ (x : MapMeaning). x.boxes) applied ∙ mailboxes_stay e r.kind ready.map ∙ ap (λ (x : MapMeaning). x.boxes) same)
    (ap (λ (x : MapMeaning). x.store) applied ∙ ap (λ (x : MapMeaning). x.store) same)
    (let d : w.drawn.mailbox ≡ v.drawn.mailbox = ap (λ (x : Highest). x.mailbox) drew ∙ same_box_drawn e v.drawn in omega (arith, d))
    (λ runs. held_beside ready.map_log.name old new v.made others
    (apart_from v.map v.drawn ready.map_log.name v.made (λ number q. absurd (let p : file.Box number 1 ≡ file.Map r.store.generation = q ∙ r.store.map_name in cc p)) kept.are_made)
    (kept.held (sym stopped ∙ runs))) kept

-- the map log has an entry more that makes no mailbox
pub made_with_map : {D : Type 0} → (old new : Option History) (v w : StoreValue D) (generation : ℕ) → v.map_log.name ≡ file.Map generation → w.map.boxes ≡ v.map.boxes → w.map.store ≡ v.map.store → w.drawn ≡ v.drawn → w.made ≡ v.made → w.stopped ≡ v.stopped → SameButFor v.map_log.name old new
    → KeepsMadeLogs old v → KeepsMadeLogs new w
made_with_map old new v w generation name boxes store drawn made stopped others kept =
    made_kept old new v w made boxes store (let d : w.drawn.mailbox ≡ v.drawn.mailbox = ap (λ (x : Highest). x.mailbox) drawn in omega (arith, d))
    (λ runs. held_beside v.map_log.name old new v.made others
    (apart_from v.map v.drawn v.map_log.name v.made (λ number q. absurd (let p : file.Box number 1 ≡ file.Map generation = q ∙ name in cc p)) kept.are_made)
    (kept.held (sym stopped ∙ runs))) kept
