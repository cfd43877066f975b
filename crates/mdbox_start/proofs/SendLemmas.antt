-- The disk over a folder may go to another thread if the folder may, and its open files be shared.
use denote.RattleType.{RattleType}
use denote.Param.Send.{IsSend, IsSync, owning_send, sendable}
use Rattle.std.specs.contracts.alloc.Global as Heap
use Rattle.std.specs.contracts.collections.BTreeSet as BTreeSet
use Rattle.std.specs.contracts.impls.GlobalAllocator.TheImpl.{ghosts}
use Rattle.std.specs.declared.cmp.Ord as ord
use Rattle.std.specs.declared.cmp.PartialEq as eq
use Rattle.std.specs.declared.cmp.PartialOrd as partial
use Rattle.std.proofs.Crossing.{crosses, frees, send}
use Rattle.std.proofs.MapsCrossingOver.{BTreeSet-send}
use Rattle.disk_record.specs.contracts.record.Record as Record
use Rattle.folder_disk.specs.contracts.disk.FolderDisk as FolderDisk
use Rattle.folder_kept.specs.contracts.kept.KeptFolder as KeptFolder
use Rattle.folder_model.specs.declared.folder.Folder.{Ghosts}

pub KeptFolder-send : (F T : RattleType) (g : Ghosts F.Denot T.Denot) → IsSend F → IsSend T → IsSync T → IsSend (KeptFolder.the_row F T g)
KeptFolder-send F T g s t y = search (sendable, crosses) depth 200 fits 100000

-- a set, at the heap
Set-send : (K : RattleType) (o : ord.Ghosts K.Denot) (e : eq.Ghosts K.Denot) (p : partial.Ghosts K.Denot) → IsSend K → IsSend (BTreeSet.the_field K Heap.the_row o e p ghosts).row
Set-send K o e p s = BTreeSet-send K Heap.the_row o e p ghosts s send frees

-- it owns nothing
Record-send : IsSend Record.the_row
Record-send = owning_send Record.the_type (search sendable, tt) (λ d. tt) (λ k x w. tt)

pub FolderDisk-send : (F T : RattleType) (g : Ghosts F.Denot T.Denot) → IsSend F → IsSend (FolderDisk.the_row F T g)
FolderDisk-send F T g s = search (Set-send, Record-send, sendable, crosses) depth 200 fits 100000
