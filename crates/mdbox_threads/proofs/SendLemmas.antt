-- A world may go to another thread if its disk may: each large type in it by those below. So may the seats of its lock, which threads share.
use denote.RattleType.{RattleType}
use denote.Param.Send.{IsSend, IsSync, sendable}
use Rattle.std.proofs.Crossing.{crosses}
use Rattle.atomic_table.proofs.send_lease.SendLease.TheSendSync as lease
use Rattle.atomic_table.proofs.shared.Seat.TheSendSync as seat
use Rattle.atomic_table.proofs.shared.Shared.TheSendSync as shared
use Rattle.box_index.specs.contracts.index.BoxIndex as BoxIndex
use Rattle.disk_model.specs.declared.disk.Disk.{Ghosts}
use Rattle.gate_log.specs.contracts.log.GateLog as GateLog
use Rattle.lane_tasks.specs.contracts.task.Task as Task
use Rattle.lanes.specs.contracts.lane.Lane as Lane
use Rattle.lanes.specs.contracts.lane.Queued as Queued
use Rattle.lanes.specs.contracts.world.World as World
use Rattle.mail_fetch.specs.contracts.task.FetchTask as FetchTask
use Rattle.mail_ops.specs.contracts.copy.CopyTask as CopyTask
use Rattle.mail_ops.specs.contracts.counting.CountsTask as CountsTask
use Rattle.mail_ops.specs.contracts.deleting.DeleteTask as DeleteTask
use Rattle.mail_ops.specs.contracts.expunging.ExpungeTask as ExpungeTask
use Rattle.mail_ops.specs.contracts.making.MakeTask as MakeTask
use Rattle.mail_ops.specs.contracts.moving.MoveStage as MoveStage
use Rattle.mail_ops.specs.contracts.moving.MoveTask as MoveTask
use Rattle.mail_ops.specs.contracts.renaming.RenameTask as RenameTask
use Rattle.mail_ops.specs.contracts.task.OpsTask as OpsTask
use Rattle.mail_save.specs.contracts.task.SaveTask as SaveTask
use Rattle.map_index.specs.contracts.index.MapIndex as MapIndex
use Rattle.mdbox_threads.specs.contracts.handed.Handed as Handed
use Rattle.purge_task.specs.contracts.task.PurgeTask as PurgeTask
use Rattle.resync_task.specs.contracts.task.ResyncTask as ResyncTask
use Rattle.sis_store.specs.contracts.instances.Instances as Instances
use Rattle.storage_files.specs.contracts.files.MailFiles as MailFiles
use Rattle.store_core.specs.contracts.store.OpenBox as OpenBox
use Rattle.store_core.specs.contracts.store.Store as Store
use Rattle.turn_lock.specs.contracts.lock.TurnLock as TurnLock
use Rattle.turn_lock.specs.contracts.lock.TurnSeat as TurnSeat
use Rattle.turn_lock.specs.declared.charter.Charter as charter

-- ---- a store

GateLog-send : IsSend GateLog.the_row
GateLog-send = search (sendable, crosses) depth 200 fits 100000

MapIndex-send : IsSend MapIndex.the_row
MapIndex-send = search (sendable, crosses) depth 200 fits 100000

BoxIndex-send : IsSend BoxIndex.the_row
BoxIndex-send = search (sendable, crosses) depth 200 fits 100000

OpenBox-send : IsSend OpenBox.the_row
OpenBox-send = search (GateLog-send, BoxIndex-send, sendable, crosses) depth 200 fits 100000

MailFiles-send : IsSend MailFiles.the_row
MailFiles-send = search (sendable, crosses) depth 200 fits 100000

Instances-send : IsSend Instances.the_row
Instances-send = search (sendable, crosses) depth 200 fits 100000

Store-send : (D : RattleType) (g : Ghosts D.Denot) → IsSend D → IsSend (Store.the_row D g)
Store-send D g s = search (GateLog-send, MapIndex-send, OpenBox-send, MailFiles-send, Instances-send, sendable, crosses) depth 200 fits 100000

-- ---- tasks

OpsTask-send : IsSend OpsTask.the_row
OpsTask-send = search (sendable, crosses) depth 200 fits 100000

CountsTask-send : IsSend CountsTask.the_row
CountsTask-send = search (sendable, crosses) depth 200 fits 100000

MakeTask-send : IsSend MakeTask.the_row
MakeTask-send = search (sendable, crosses) depth 200 fits 100000

CopyTask-send : IsSend CopyTask.the_row
CopyTask-send = search (sendable, crosses) depth 200 fits 100000

MoveStage-send : IsSend (MoveStage.the_field).row
MoveStage-send = search (sendable, crosses) depth 200 fits 100000

MoveTask-send : IsSend MoveTask.the_row
MoveTask-send = search (MoveStage-send, sendable, crosses) depth 200 fits 100000

ExpungeTask-send : IsSend ExpungeTask.the_row
ExpungeTask-send = search (sendable, crosses) depth 200 fits 100000

FetchTask-send : IsSend FetchTask.the_row
FetchTask-send = search (sendable, crosses) depth 200 fits 100000

SaveTask-send : IsSend SaveTask.the_row
SaveTask-send = search (sendable, crosses) depth 200 fits 100000

ResyncTask-send : IsSend ResyncTask.the_row
ResyncTask-send = search (sendable, crosses) depth 200 fits 100000

PurgeTask-send : IsSend PurgeTask.the_row
PurgeTask-send = search (sendable, crosses) depth 200 fits 100000

DeleteTask-send : IsSend DeleteTask.the_row
DeleteTask-send = search (sendable, crosses) depth 200 fits 100000

RenameTask-send : IsSend RenameTask.the_row
RenameTask-send = search (sendable, crosses) depth 200 fits 100000

Task-send : IsSend (Task.the_field).row
Task-send = search (OpsTask-send, CountsTask-send, MakeTask-send, CopyTask-send, MoveTask-send, ExpungeTask-send, FetchTask-send, SaveTask-send, ResyncTask-send, PurgeTask-send, DeleteTask-send, RenameTask-send, sendable, crosses) depth 200 fits 100000

-- ---- a world

Queued-send : IsSend Queued.the_row
Queued-send = search (Task-send, sendable, crosses) depth 200 fits 100000

Lane-send : IsSend Lane.the_row
Lane-send = search (Queued-send, sendable, crosses) depth 200 fits 100000

pub World-send : (D : RattleType) (g : Ghosts D.Denot) → IsSend D → IsSend (World.the_row D g)
World-send D g s = search (Store-send, Lane-send, sendable, crosses) depth 200 fits 100000

pub Handed-send : (D : RattleType) (g : Ghosts D.Denot) → IsSend D → IsSend (Handed.the_row D g)
Handed-send D g s = search (World-send, sendable, crosses) depth 200 fits 100000

-- ---- its lock

pub TurnSeat-send : (W T : RattleType) → IsSend W → IsSend (TurnSeat.the_row W T)
TurnSeat-send W T s = search (seat.the_send, sendable, crosses) depth 200 fits 100000

pub TurnLock-sync : (W T : RattleType) (g : charter.Ghosts W.Denot T.Denot) → IsSend W → IsSync (TurnLock.the_row W T g)
TurnLock-sync W T g s = search (shared.the_sync, lease.the_sync, sendable, crosses) depth 200 fits 100000
