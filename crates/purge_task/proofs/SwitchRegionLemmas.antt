-- Records keep the octets of their regions where a file is switched.
use Rattle.purge_task.proofs.Common.{◌≡◌, ℕ, false, List, [], Option, Some, None, refl, sym, ◌∙◌, subst, All, Between, DiskState, History, IfTold, reading, between-if, MapPlace, FileNo, MapUid, AreCopied, MapMeaning, LiesInFile, files_of, IsStore, StoreValue, store_sound, HaveSameRegions}
use Rattle.purge_task.proofs.Common.{AreSwitchLists, IsTargetWritten, ReadsMail, target_named, Source}
use Rattle.disk_model.specs.declared.name.FileName.TheVariants as file
use Rattle.disk_model.proofs.MomentLemmas.{if_told-both}
use Rattle.purge_task.proofs.QuietRegionLemmas.{switched_regions}
use Rattle.purge_task.proofs.SameRegionLemmas.{lie_told}
use Rattle.purge_task.proofs.SwitchRowLemmas.{map_switched}

abbrev AreAtTarget : Source → MapMeaning → DiskState → Type 0
AreAtTarget source m now = (t : FileNo) → source.target ≡ Some t → AreCopied (files_of now) m t.0 source.copied.items

at_target_told : {D : Type 0} → (target : Option FileNo) (source : Source) (store : StoreValue D) (history : Option History) → source.target ≡ target → IsTargetWritten target source store history → IfTold history (AreAtTarget source store.map)
at_target_told target source store None is written = tt
at_target_told None source store (Some d) is written = λ t e. absurd (let k : None ≡ Some t = sym is ∙ e in cc k)
at_target_told (Some target) source store (Some d) is written = λ t e. (let k : Some target ≡ Some t = sym is ∙ e in let same : target ≡ t = cc k in subst (λ (f : FileNo). AreCopied (files_of d.now) store.map f.0 source.copied.items) same written.octets)

pub regions_switched : {D : Type 0} → (source : Source) (moved : List MapPlace) (dropped : List MapUid) (old : StoreValue D) (before later : Option History) → IsStore before old → old.stopped ≡ false → AreSwitchLists old.map source.file.0 source.copied.items moved dropped → (source.target ≡ None → moved ≡ []) → IsTargetWritten source.target source old before → ReadsMail before later
    → Between (λ a b. HaveSameRegions (files_of a) (files_of b) old.map (map_switched source.file (target_named source.target moved) moved dropped old.map)) before later
regions_switched source moved dropped old before later is runs listed untargeted written reads =
    between-if (λ a b. ((number : ℕ) → reading (b (file.Mail number)) ≡ reading (a (file.Mail number))) × ((hash id : List ℕ) → b (file.Inst hash id) ≡ a (file.Inst hash id))) (λ a b. HaveSameRegions (files_of a) (files_of b) old.map (map_switched source.file (target_named source.target moved) moved dropped old.map))
    (λ now. AreAtTarget source old.map now × All (LiesInFile (files_of now)) old.map.records) before later
    (λ a b same has. switched_regions (files_of a) (files_of b) old.map source.file source.target source.copied.items moved dropped (store_sound before old is) listed untargeted has.0 has.1 same.0) reads
    (if_told-both (AreAtTarget source old.map) (λ now. All (LiesInFile (files_of now)) old.map.records) (λ now. AreAtTarget source old.map now × All (LiesInFile (files_of now)) old.map.records) before (λ now copied whole. (copied, whole)) (at_target_told source.target source old before refl written) (lie_told old before is runs))
