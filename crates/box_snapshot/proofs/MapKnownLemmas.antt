-- The entries of the map log of a store, written anew.
use Rattle.std.proofs.Common.{Option, arith}
use Rattle.disk_model.specs.Disk.{History}
use Rattle.model_meaning.specs.Sound.{AreInRange, IsSoundMap}
use Rattle.sis_store.specs.Instances.{AreInstances}
use Rattle.storage_files.specs.Files.{AreFilesInOrder}
use Rattle.store_core.specs.Running.{IsStore}
use Rattle.store_core.specs.StoreInstances.{HasKnownInstances}
use Rattle.store_core.specs.Value.{StoreValue}

-- the highest numbers of a store's map are in range: files and instances go up to those that were drawn
pub highest_known : {D : Type 0} → (h : Option History) (v : StoreValue D) → IsStore h v → IsSoundMap v.map → AreFilesInOrder v.files → HasKnownInstances h v → AreInstances v.instances → AreInRange v.map.highest
highest_known h v s sound files known instances =
    let file = s.drawn.file in
    let file_drawn = s.files.highest in
    let file_last = files.last in
    let instance = s.drawn.instance in
    let instance_drawn = known.kept.highest in
    let instance_last = instances.last in
    record {
      file = omega (arith, file, file_drawn, file_last);
      map = sound.map_high;
      instance = omega (arith, instance, instance_drawn, instance_last);
      mailbox = sound.mailbox_high;
    }
