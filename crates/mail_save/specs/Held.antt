-- What a delivery holds: behind the event that stores its record, one of that, which is due in the store; and before it, the
-- instances of its attachments.
use Rattle.std.specs.Prelude.{◌≤◌, ◌+◌, ℕ}
use Rattle.mdbox_base.specs.declared.ids.InstId.{InstId}
use Rattle.sis_store.specs.Instances.{holders_in}
use Rattle.store_core.specs.Keeping.{holds_of}
use Rattle.store_core.specs.Value.{StoreValue}
use Rattle.task_steps.specs.ExpungeStages.{one_due}
use Rattle.store_core.specs.Dues.{Amounts}
use Rattle.mail_save.specs.declared.task.SaveStage.{SaveStage}
use Rattle.mail_save.specs.declared.task.SaveStage.TheVariants as stage

abbrev pub save_dues : SaveStage → ℕ → ℕ
save_dues (stage.Adding added room) uid = one_due added.map_uid.0 uid
save_dues (stage.GivingBack held why room) uid = one_due held.0 uid
save_dues now uid = 0

abbrev pub save_amounts : SaveStage → Amounts
save_amounts now = record { due = save_dues now }

-- how often it holds an instance
abbrev pub save_holds : SaveStage → InstId → ℕ
save_holds (stage.Attaching parts attaching) id = holds_of attaching.found id
save_holds (stage.Taking parts) id = holds_of parts.rows id
save_holds (stage.Placing parts file) id = holds_of parts.rows id
save_holds (stage.Storing at rows room) id = holds_of rows id
save_holds now id = 0

-- Each instance can be held so many times more.
abbrev pub HasHoldRoom : {D : Type 0} → ℕ → StoreValue D → Type 0
HasHoldRoom more store = (id : InstId) → holders_in id store.instances.known + more ≤ 4294967295
