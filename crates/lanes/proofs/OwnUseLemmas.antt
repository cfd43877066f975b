-- Which events of a legal run use instances: only those of a delivery find or place them, and only those of a fetch pin them.
use Rattle.std.proofs.Common.{◌≡◌, ◌||◌, ℕ, true, false, List, [], Option, Some, None, refl, sym, ◌∙◌, ap}
use Rattle.std.specs.List.{list_any}
use Rattle.mdbox_base.specs.declared.entries.InstRow.{InstRow}
use Rattle.mdbox_base.specs.declared.ids.Uid.{Uid}
use Rattle.mdbox_base.specs.declared.replies.Refusal.{Refusal}
use Rattle.mdbox_base.specs.declared.requests.Request.{Request}
use Rattle.mdbox_base.specs.declared.requests.Request.TheVariants as request
use Rattle.model_lists.specs.Lists.{Lists}
use Rattle.list_machine.specs.Run.{Compares, CopiesMessage, EventPart, First, GivesBack, Last, MakesTarget, Pin, PlacesInstance, PlacesMessage, RemovesFile, RemovesInstance, RunEvent, Run, StoresRecord, Switches, TakesFile}
use Rattle.journal.specs.Events.{Around, DidDeliver, DidFetch, DidNothing, DidPart, DidPurge, IsEvent}
use Rattle.journal.specs.Found.{is_same_instance}
use Rattle.lane_tasks.proofs.FilesLemmas.{touches_none}
use Rattle.lane_tasks.specs.Uses.{finds_instance, pins_instance}

-- ---- one event

-- it found no instance, and pinned none
abbrev pub FindsNone : RunEvent → Type 0
FindsNone event = (event.equal ≡ []) × (event.placed ≡ [])

abbrev pub PinsNone : RunEvent → Type 0
PinsNone event = event.pins ≡ []

finds_as : (a b : RunEvent) → a ≡ b → (a.equal ≡ b.equal) × (a.placed ≡ b.placed)
finds_as a b e = (ap (λ (x : RunEvent). x.equal) e, ap (λ (x : RunEvent). x.placed) e)

pins_as : (a b : RunEvent) → a ≡ b → a.pins ≡ b.pins
pins_as a b e = ap (λ (x : RunEvent). x.pins) e

-- neither
abbrev pub UsesNone : RunEvent → Type 0
UsesNone event = FindsNone event × PinsNone event

uses_as : (a b : RunEvent) → a ≡ b → ((a.equal ≡ b.equal) × (a.placed ≡ b.placed)) × (a.pins ≡ b.pins)
uses_as a b e = (finds_as a b e, pins_as a b e)

-- ---- each kind, where it wasn't refused

purged_none : (around : Around) (run : Run) (event : RunEvent) (part : EventPart) → DidPurge around run event part → UsesNone event
purged_none around run event First d = uses_as event _ d.2
purged_none around run event MakesTarget d = uses_as event _ d.2
purged_none around run event CopiesMessage d = uses_as event _ d.2
purged_none around run event Switches d = uses_as event _ d.7
purged_none around run event RemovesFile d = uses_as event _ d.4
purged_none around run event RemovesInstance d = uses_as event _ d.2
purged_none around run event part d = uses_as event _ d

delivered_pins : (around : Around) (run : Run) (lists : Lists) (name : List ℕ) (time : ℕ) (octets : List ℕ) (event : RunEvent) (part : EventPart) → DidDeliver around run lists name time octets event part → PinsNone event
delivered_pins around run lists name time octets event First d = pins_as event _ d
delivered_pins around run lists name time octets event Compares d = pins_as event _ d.3
delivered_pins around run lists name time octets event PlacesInstance d = pins_as event _ d.2
delivered_pins around run lists name time octets event (TakesFile new) d = pins_as event _ d
delivered_pins around run lists name time octets event PlacesMessage d = pins_as event _ d.3
delivered_pins around run lists name time octets event StoresRecord d = pins_as event _ d.3
delivered_pins around run lists name time octets event Last d = pins_as event _ d.2.4
delivered_pins around run lists name time octets event GivesBack d = pins_as event _ d.2
delivered_pins around run lists name time octets event part d = absurd d

fetched_finds : (run : Run) (lists : Lists) (name : List ℕ) (uid : ℕ) (event : RunEvent) (part : EventPart) → DidFetch run lists name uid event part → FindsNone event
fetched_finds run lists name uid event First d = finds_as event _ d.2
fetched_finds run lists name uid event RemovesFile d = finds_as event _ d.4
fetched_finds run lists name uid event part d = finds_as event _ d

-- ---- of whatever request

-- An event finds no instance unless it is one of a delivery, and pins none unless it is one of a fetch.
abbrev pub UsesAs : Request → RunEvent → Type 0
UsesAs (request.Deliver name time octets) event = PinsNone event
UsesAs (request.Fetch name uid) event = FindsNone event
UsesAs asked event = UsesNone event

used_as : (asked : Request) (event : RunEvent) → UsesNone event → UsesAs asked event
used_as (request.Deliver name time octets) event none = none.1
used_as (request.Fetch name uid) event none = none.0
used_as asked event none = none

did_uses : (asked : Request) (around : Around) (run : Run) (lists : Lists) (event : RunEvent) (part : EventPart) → DidPart around run lists asked event part → UsesAs asked event
did_uses (request.Deliver name time octets) around run lists event part d = delivered_pins around run lists name time octets event part d
did_uses (request.Fetch name uid) around run lists event part d = fetched_finds run lists name uid.0 event part d
did_uses request.Purge around run lists event part d = purged_none around run event part d
did_uses asked around run lists event part d = let none = touches_none asked tt around run lists event part d in ((none.1, none.2), none.3)

pub nothing_used : (event : RunEvent) → DidNothing event → UsesNone event
nothing_used event d = uses_as event _ d

pub event_uses : (around after : Around) (run : Run) (lists : Lists) (asked : Request) (event : RunEvent) → IsEvent around after run lists asked event → UsesAs asked event
event_uses around after run lists asked event e = by_refusal event.refused refl
  where
    by_refusal : (o : Option Refusal) → event.refused ≡ o → UsesAs asked event
    by_refusal None none = did_uses asked around run lists event event.part (e.did none)
    by_refusal (Some why) is = used_as asked event (nothing_used event (e.undone why is).0)

-- ---- so

no_true : {X : Type 0} → false ≡ true → X
no_true e = absurd (cc e)

finds_false : (instance : InstRow) (event : RunEvent) → FindsNone event → finds_instance instance event ≡ false
finds_false instance event none = ap (λ (rows : List InstRow). list_any (is_same_instance instance) rows || list_any (is_same_instance instance) event.placed) none.0 ∙ ap (list_any (is_same_instance instance)) none.1

pub pins_false : (instance : InstRow) (event : RunEvent) → PinsNone event → pins_instance instance event ≡ false
pins_false instance event none = ap (λ (pins : List Pin). list_any (λ p. list_any (is_same_instance instance) p.instances) pins) none

-- an event that found an instance is one of a delivery
abbrev pub IsDelivery : Request → Type 0
IsDelivery asked = (name : List ℕ) × (time : ℕ) × (octets : List ℕ) × (asked ≡ request.Deliver name time octets)

pub finds_in_delivery : (asked : Request) (event : RunEvent) (instance : InstRow) → UsesAs asked event → finds_instance instance event ≡ true → IsDelivery asked
finds_in_delivery (request.Deliver name time octets) event instance uses found = (name, time, octets, refl)
finds_in_delivery (request.Fetch name uid) event instance uses found = no_true (sym (finds_false instance event uses) ∙ found)
finds_in_delivery asked event instance uses found = no_true (sym (finds_false instance event uses.0) ∙ found)

-- and one that pinned an instance, one of a fetch
abbrev pub IsFetch : Request → Type 0
IsFetch asked = (name : List ℕ) × (uid : Uid) × (asked ≡ request.Fetch name uid)

pub pins_in_fetch : (asked : Request) (event : RunEvent) (instance : InstRow) → UsesAs asked event → pins_instance instance event ≡ true → IsFetch asked
pins_in_fetch (request.Fetch name uid) event instance uses pinned = (name, uid, refl)
pins_in_fetch (request.Deliver name time octets) event instance uses pinned = no_true (sym (pins_false instance event uses) ∙ pinned)
pins_in_fetch asked event instance uses pinned = no_true (sym (pins_false instance event uses.1) ∙ pinned)
