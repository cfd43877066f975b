-- What the events of one request tell of the instances that it uses.
use Rattle.std.specs.Prelude.{◌≡◌, ◌||◌, ◌⊎◌, Bool, true, false, List}
use Rattle.std.specs.List.{list_any}
use Rattle.mdbox_base.specs.declared.entries.InstRow.{InstRow}
use Rattle.list_machine.specs.Run.{RunEvent, is_unpinning}
use Rattle.journal.specs.Found.{is_same_instance}

-- an event found the instance equal to a part of a message, or placed it
abbrev pub finds_instance : InstRow → RunEvent → Bool
finds_instance instance event = list_any (is_same_instance instance) event.equal || list_any (is_same_instance instance) event.placed

-- an event pinned the instance
abbrev pub pins_instance : InstRow → RunEvent → Bool
pins_instance instance event = list_any (λ p. list_any (is_same_instance instance) p.instances) event.pins

-- Of the events of a request one found the instance; or one pinned it, and none has unpinned.
abbrev pub UsesInstance : InstRow → List RunEvent → Type 0
UsesInstance instance own = (list_any (finds_instance instance) own ≡ true) ⊎ ((list_any (pins_instance instance) own ≡ true) × (list_any is_unpinning own ≡ false))
