-- What a purge gives back of what it has taken.
use Rattle.purge_task.proofs.Common.{◌≡◌, List, StoreValue, CanRelease, all_released, Source}

-- Of these files only those are still to be given back. No more of the store has changed than who has taken its storage files.
pub record IsReleasedTo {D : Type 0} (left sources : List Source) (initial store : StoreValue D) : Type 0 where
  pub same : store ≡ record initial { files = record initial.files { files = store.files.files } }
  pub rest : all_released left store.files.files ≡ all_released sources initial.files.files
  pub can : CanRelease left store.files.files
