-- Events of which none moves or drops records: all but those of a purge.
use Rattle.std.specs.Prelude.{◌≡◌, ℕ, suc, Bool, true, false, List, [], ◌∷◌, All, slice_get, Option, Some, None}
use Rattle.std.specs.List.{list_any}
use Rattle.std.proofs.Common.{refl, ◌∙◌, ap}
use Rattle.std.proofs.lemmas.List.Elements.{All-cons, All-nil}
use Rattle.mdbox_base.specs.declared.entries.MapCount.{MapCount}
use Rattle.mdbox_base.specs.declared.replies.Refusal.{Refusal}
use Rattle.mdbox_base.specs.declared.requests.Request.{Request}
use Rattle.mdbox_base.specs.declared.requests.Request.TheVariants as request
use Rattle.model_lists.specs.Lists.{ListedMessage, Lists}
use Rattle.list_machine.specs.Machine.{message_numbered}
use Rattle.list_machine.specs.Run.{EventPart, RunEvent, Run, before, source_of, First, Compares, PlacesInstance, TakesFile, PlacesMessage, StoresRecord, Last, SecondHalf, GivesBack, StartsOver, RemovesFile}
use Rattle.journal.specs.Events.{Around, DidCopy, DidDeliver, DidPart, IsEvent, RemovesIfThere, corrects}
use Rattle.journal.specs.Journal.{JournalStep, Requests}
use Rattle.journal.specs.Makes.{AreNextEvents, lists_before}
use Rattle.task_steps.specs.Serves.{NoneMoved, moves_records}
use Rattle.script_run.specs.Script.{is_purge}

abbrev entries_moved : RunEvent → Bool
entries_moved event = list_any moves_records event.map_entries

abbrev Unmoved : RunEvent → Type 0
Unmoved event = entries_moved event ≡ false

delivered_unmoved : (around : Around) (run : Run) (lists : Lists) (name : List ℕ) (time : ℕ) (octets : List ℕ) (event : RunEvent) (part : EventPart) → DidDeliver around run lists name time octets event part → Unmoved event
delivered_unmoved around run lists name time octets event First d = ap entries_moved d
delivered_unmoved around run lists name time octets event Compares d = ap entries_moved d.3
delivered_unmoved around run lists name time octets event PlacesInstance d = ap entries_moved d.2
delivered_unmoved around run lists name time octets event (TakesFile new) d = ap entries_moved d
delivered_unmoved around run lists name time octets event PlacesMessage d = ap entries_moved d.3
delivered_unmoved around run lists name time octets event StoresRecord d = ap entries_moved d.3
delivered_unmoved around run lists name time octets event Last d = ap entries_moved d.2.4
delivered_unmoved around run lists name time octets event GivesBack d = ap entries_moved d.2
delivered_unmoved around run lists name time octets event part d = absurd d

copied_unmoved : (run : Run) (lists : Lists) (name : List ℕ) (uid : ℕ) (target : List ℕ) (event : RunEvent) (part : EventPart) → DidCopy run lists name uid target event part → Unmoved event
copied_unmoved run lists name uid target event First d = ap entries_moved d.4
copied_unmoved run lists name uid target event Last d = ap entries_moved d.2.4
copied_unmoved run lists name uid target event StartsOver d = ap entries_moved d
copied_unmoved run lists name uid target event GivesBack d = ap entries_moved d.2
copied_unmoved run lists name uid target event part d = absurd d

removed_unmoved : (run : Run) (number uid : ℕ) (event : RunEvent) (found : Option ListedMessage) → RemovesIfThere run number uid event found → Unmoved event
removed_unmoved run number uid event None d = ap entries_moved d
removed_unmoved run number uid event (Some message) d = ap entries_moved d.2

-- a resync changes counts at the most
corrects_counts : (counts : List MapCount) → list_any moves_records (corrects counts) ≡ false
corrects_counts [] = refl
corrects_counts (count ∷ counts) = refl

by_part : (around : Around) (run : Run) (lists : Lists) (asked : Request) (event : RunEvent) (part : EventPart) → is_purge asked ≡ false → DidPart around run lists asked event part → Unmoved event
by_part around run lists request.Purge event part none d = absurd (let k : true ≡ false = none in cc k)
by_part around run lists (request.Deliver name time octets) event part none d = delivered_unmoved around run lists name time octets event part d
by_part around run lists (request.Fetch name uid) event First none d = ap entries_moved d.2
by_part around run lists (request.Fetch name uid) event RemovesFile none d = ap entries_moved d.4
by_part around run lists (request.Flag name uid flags) event First none d = ap entries_moved d.2
by_part around run lists (request.Keywords name uid words) event First none d = ap entries_moved d.2
by_part around run lists (request.Copy name uid target) event part none d = copied_unmoved run lists name uid.0 target event part d
by_part around run lists (request.Move name uid target) event SecondHalf none d = removed_unmoved run (source_of event.request run) uid.0 event (message_numbered (source_of event.request run) uid.0 lists) d
by_part around run lists (request.Move name uid target) event part none d = copied_unmoved run lists name uid.0 target event part d
by_part around run lists (request.Expunge name uid) event First none d = ap entries_moved d.4
by_part around run lists (request.Expunge name uid) event GivesBack none d = ap entries_moved d.2
by_part around run lists (request.Make name) event Last none d = ap entries_moved d
by_part around run lists (request.Delete name) event First none d = ap entries_moved d.4
by_part around run lists (request.Rename name target) event First none d = ap entries_moved d.2
by_part around run lists request.Resync event Last none d = ap entries_moved d.3 ∙ corrects_counts d.0
by_part around run lists asked event part none d = ap entries_moved d

-- an event that was refused did nothing
unmoved_event : (around after : Around) (run : Run) (lists : Lists) (asked : Request) (event : RunEvent) → is_purge asked ≡ false → IsEvent around after run lists asked event → Unmoved event
unmoved_event around after run lists asked event none is = by_refused event.refused refl
  where
    by_refused : (o : Option Refusal) → event.refused ≡ o → Unmoved event
    by_refused None e = by_part around run lists asked event event.part none (is.did e)
    by_refused (Some why) e = ap entries_moved (is.undone why e).0

pub all_at : {X : Type 0} → (P : X → Type 0) (xs : List X) → ((n : ℕ) (x : X) → slice_get xs n ≡ Some x → P x) → All P xs
all_at P [] each = All-nil P
all_at P (x ∷ xs) each = All-cons P x xs (each 0 x refl) (all_at P xs (λ n y at. each (suc n) y at))

-- No event of a script moves records that has no purge.
pub none_moved : (around after : ℕ → Around) (script : Requests) (start : Lists) (run : Run) (journal : List JournalStep) → ((i : ℕ) (asked : ℕ × Request) → slice_get script i ≡ Some asked → is_purge asked.1 ≡ false) → AreNextEvents around after script start run journal → NoneMoved run.events
none_moved around after script start run journal none next = all_at Unmoved run.events
    (λ n event at. let e = next n event at in unmoved_event (around n) (after n) (before n run) (lists_before start journal n) e.asked.1 event (none event.request e.asked e.request_is) e.is_event)
