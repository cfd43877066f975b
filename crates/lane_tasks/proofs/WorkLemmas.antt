-- No event of another task raises the number of events that are still to come.
use Rattle.lane_tasks.proofs.Common.{◌+◌, ℕ, Option, arith, ◌≤◌, History, StoreValue, Claims, MakeStage, SaveStage, IsMakeNumber, IsReadyTask, work_left, Task}
use Rattle.std.proofs.Common.{◌*◌, ◌-◌}
use Rattle.std.specs.Prelude.{nat_lt, if◌then◌else◌}
use Rattle.std.proofs.lemmas.Bool.Decides.{nat_tests}
use Rattle.sis_store.specs.Instances.{InstancesValue}
use Rattle.task_claims.specs.Leaving.{LeavesOthers, PlacesFew}
use Rattle.save_instances.specs.Attaching.{nothing_found}
use Rattle.save_instances.proofs.AttachCountLemmas.{none_more}
use Rattle.mail_ops.specs.Making.{make_left}
use Rattle.mail_ops.specs.declared.making.MakeStage.TheVariants as make_stage
use Rattle.mail_save.specs.Task.{save_events_left}
use Rattle.mail_save.specs.declared.task.SaveStage.TheVariants as save_stage
use Rattle.purge_task.proofs.StableLemmas.{left_stays}
use Rattle.lane_tasks.specs.declared.task.Task.TheVariants as task

-- ---- a make

-- a number that is overtaken was overtaken by a mailbox
naming_left : (n was is : ℕ) → n ≤ 4294967294 → was ≤ is → (if nat_lt is n then 1 else 3) + 2 * (4294967295 - is) ≤ (if nat_lt was n then 1 else 3) + 2 * (4294967295 - was)
naming_left n was is high grows = grind (arith, nat_tests)

make_keeps : {D : Type 0} → (now : MakeStage) (old new : StoreValue D) → IsMakeNumber now → old.map.highest.mailbox ≤ new.map.highest.mailbox → make_left now new + 2 * (4294967295 - new.map.highest.mailbox) ≤ make_left now old + 2 * (4294967295 - old.map.highest.mailbox)
make_keeps make_stage.First old new high grows = omega (arith, grows)
make_keeps (make_stage.Naming number) old new high grows = naming_left number.0 old.map.highest.mailbox new.map.highest.mailbox high grows

-- ---- a delivery

save_keeps : (now : SaveStage) (old new : InstancesValue) → PlacesFew old new → save_events_left now new ≤ save_events_left now old
save_keeps (save_stage.First prepared) old new few = let h = none_more (nothing_found prepared.parts) old new few.drawn few.last few.few few.candidates in omega (arith, h)
save_keeps (save_stage.Attaching parts attaching) old new few = let h = none_more attaching old new few.drawn few.last few.few few.candidates in omega (arith, h)
save_keeps now old new few = omega arith

-- ---- each kind

pub work_stays : {D : Type 0} → (t : Task) (mine : Claims) (old new : StoreValue D) (before after : Option History) → IsReadyTask t old before → LeavesOthers mine old new before after → work_left t new ≤ work_left t old
work_stays (task.Make t) mine old new before after ready leaves = make_keeps t.stage old new ready.1 leaves.mailboxes
work_stays (task.Deliver t) mine old new before after ready leaves = save_keeps t.stage old.instances new.instances leaves.numbers
work_stays (task.Copy t) mine old new before after ready leaves = let e = leaves.end in omega (arith, e)
work_stays (task.Move t) mine old new before after ready leaves = let e = leaves.end in omega (arith, e)
work_stays (task.Purge t) mine old new before after ready leaves = left_stays t.stage mine old new before after leaves
work_stays t mine old new before after ready leaves = omega arith
