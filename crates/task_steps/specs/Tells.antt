-- Events that leave what a store keeps of its tasks.
use Rattle.std.specs.Prelude.{◌≡◌, ℕ, false, List, []}
use Rattle.mdbox_base.specs.declared.entries.InstRow.{InstRow}
use Rattle.list_machine.specs.Run.{RunEvent, is_unpinning}
use Rattle.task_steps.specs.Step.{Seen}

-- an event that makes, pins, unpins, dooms and removes no file, places and removes no instance, and gives no GUID
pub record LeavesFiles (event : RunEvent) : Type 0 where
  pub made : event.made ≡ []
  pub pins : event.pins ≡ []
  pub unpins : is_unpinning event ≡ false
  pub doomed : event.doomed ≡ []
  pub removed : event.removed ≡ []
  pub given : event.given ≡ []
  pub placed : event.placed ≡ []
  pub gone : event.gone ≡ []

-- a store tells the same of files, instances and GUIDs as before, and ran before if it does now
pub record TellsSame (old new : Seen) : Type 0 where
  pub ran : new.stopped ≡ false → old.stopped ≡ false
  pub pins : (file : ℕ) → new.pins file ≡ old.pins file
  pub doomed : (file : ℕ) → new.doomed file ≡ old.doomed file
  pub used : (file : ℕ) → new.used file ≡ old.used file
  pub barred : (file : ℕ) → new.barred file ≡ old.barred file
  pub gave : (guid : List ℕ) → new.gave guid ≡ old.gave guid
  pub gone : (instance : InstRow) → new.gone instance ≡ old.gone instance
  pub files : (file : ℕ) → new.files file ≡ old.files file
  pub instances : (instance : InstRow) → new.instances instance ≡ old.instances instance
