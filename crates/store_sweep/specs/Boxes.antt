-- Mailboxes that were checked, and that are open.
use Rattle.std.specs.Prelude.{◌≡◌, List, map}
use Rattle.gate_log.specs.State.{LogState, InspectedLog}
use Rattle.model_meaning.specs.MapMeaning.{MapMeaning}
use Rattle.store_checks.specs.declared.mailbox.CheckedBox.{CheckedBox}
use Rattle.store_core.specs.declared.store.OpenBox.{OpenBox}

-- their logs, as they were found and as they are opened

abbrev pub found_logs : List CheckedBox → List InspectedLog
found_logs boxes = map (λ b. b.log) boxes

abbrev pub opened_logs : List OpenBox → List LogState
opened_logs boxes = map (λ b. b.log) boxes

-- the open mailboxes have the numbers of those of the map, and the indexes of those that were checked
pub record HaveIndexes (m : MapMeaning) (checked : List CheckedBox) (opened : List OpenBox) : Type 0 where
  pub numbers : map (λ b. b.number.0) opened ≡ map (λ b. b.number) m.boxes
  pub indexes : map (λ b. b.index) opened ≡ map (λ b. b.index) checked
