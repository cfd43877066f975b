-- Events of requests that read or change mailboxes take no storage file.
use Rattle.lane_tasks.proofs.Common.{◌≡◌, ◌==◌, ℕ, false, List, [], Option, Some, None, refl, sym, ap, subst, ◌≢◌, ◌&&◌, ◌||◌, All, is_none, list_any, eq-eqb, ne_eqb, Uid, Refusal, Request, Lists, EventPart, First, RunEvent, Run, TakenFile, and_then, own_events}
use Rattle.lane_tasks.proofs.Common.{Around, took_file, own_more, own_other, TookNoFile}
use Rattle.std.proofs.lemmas.List.Elements.{All-push, All-weaker}
use Rattle.std.proofs.lemmas.List.Folds.{list_any_none}
use Rattle.mdbox_base.specs.declared.requests.Request.TheVariants as request
use Rattle.model_lists.specs.Lists.{ListedMessage}
use Rattle.list_machine.specs.Machine.{message_numbered}
use Rattle.list_machine.specs.Run.{Last, SecondHalf, GivesBack, StartsOver, RemovesFile, source_of}
use Rattle.journal.specs.Events.{DidCopy, DidPart, RemovesIfThere}

-- ---- one event

-- it took no file, found or placed no instance, and pinned none
abbrev pub TouchesNone : RunEvent → Type 0
TouchesNone event = (event.files ≡ []) × (event.equal ≡ []) × (event.placed ≡ []) × (event.pins ≡ [])

touches_as : (a b : RunEvent) → a ≡ b → (a.files ≡ b.files) × (a.equal ≡ b.equal) × (a.placed ≡ b.placed) × (a.pins ≡ b.pins)
touches_as a b e = (ap (λ (x : RunEvent). x.files) e, ap (λ (x : RunEvent). x.equal) e, ap (λ (x : RunEvent). x.placed) e, ap (λ (x : RunEvent). x.pins) e)

copied_none : (run : Run) (lists : Lists) (name : List ℕ) (uid : ℕ) (target : List ℕ) (event : RunEvent) (part : EventPart) → DidCopy run lists name uid target event part → TouchesNone event
copied_none run lists name uid target event First d = touches_as event _ d.4
copied_none run lists name uid target event Last d = touches_as event _ d.2.4
copied_none run lists name uid target event StartsOver d = touches_as event _ d
copied_none run lists name uid target event GivesBack d = touches_as event _ d.2
copied_none run lists name uid target event part d = absurd d

removed_none : (run : Run) (number uid : ℕ) (event : RunEvent) (there : Option ListedMessage) → RemovesIfThere run number uid event there → TouchesNone event
removed_none run number uid event None d = touches_as event _ d
removed_none run number uid event (Some message) d = touches_as event _ d.2

-- requests that are neither a delivery, nor a fetch, nor a purge
abbrev pub TouchesNoMail : Request → Type 0
TouchesNoMail (request.Deliver name time octets) = ⊥
TouchesNoMail (request.Fetch name uid) = ⊥
TouchesNoMail request.Purge = ⊥
TouchesNoMail other = Unit {0}

-- an event of such a request that wasn't refused
pub touches_none : (asked : Request) → TouchesNoMail asked → (around : Around) (run : Run) (lists : Lists) (event : RunEvent) (part : EventPart) → DidPart around run lists asked event part → TouchesNone event
touches_none (request.Deliver name time octets) plain around run lists event part d = absurd plain
touches_none (request.Fetch name uid) plain around run lists event part d = absurd plain
touches_none request.Purge plain around run lists event part d = absurd plain
touches_none (request.Flag name uid flags) plain around run lists event First d = touches_as event _ d.2
touches_none (request.Keywords name uid words) plain around run lists event First d = touches_as event _ d.2
touches_none (request.Copy name uid target) plain around run lists event part d = copied_none run lists name uid.0 target event part d
touches_none (request.Move name uid target) plain around run lists event SecondHalf d = removed_none run (source_of event.request run) uid.0 event (message_numbered (source_of event.request run) uid.0 lists) d
touches_none (request.Move name uid target) plain around run lists event part d = copied_none run lists name uid.0 target event part d
touches_none (request.Expunge name uid) plain around run lists event First d = touches_as event _ d.4
touches_none (request.Expunge name uid) plain around run lists event GivesBack d = touches_as event _ d.2
touches_none (request.Make name) plain around run lists event Last d = touches_as event _ d
touches_none (request.Delete name) plain around run lists event First d = touches_as event _ d.4
touches_none (request.Rename name target) plain around run lists event First d = touches_as event _ d.2
touches_none request.Resync plain around run lists event Last d = touches_as event _ d.3
touches_none asked plain around run lists event part d = touches_as event _ d

-- took none
abbrev pub TakesNone : Request → Type 0
TakesNone asked = (around : Around) (run : Run) (lists : Lists) (event : RunEvent) (part : EventPart) → DidPart around run lists asked event part → event.files ≡ []

pub takes_none : (asked : Request) → TouchesNoMail asked → TakesNone asked
takes_none asked plain around run lists event part d = (touches_none asked plain around run lists event part d).0

pub fetch_takes_none : (name : List ℕ) (uid : Uid) → TakesNone (request.Fetch name uid)
fetch_takes_none name uid around run lists event First d = (touches_as event _ d.2).0
fetch_takes_none name uid around run lists event RemovesFile d = (touches_as event _ d.4).0
fetch_takes_none name uid around run lists event part d = (touches_as event _ d).0

-- ---- all of a request's

abbrev TookNone : RunEvent → Type 0
TookNone event = event.refused ≡ None → event.files ≡ []

pub took_none_more : (run : Run) (place : ℕ) (event : RunEvent) → event.request ≡ place → (event.refused ≡ None → event.files ≡ []) → TookNoFile run place → TookNoFile (and_then run event) place
took_none_more run place event at none took =
    subst (λ (own : List RunEvent). All TookNone own) (sym (own_more place run event (eq-eqb event.request place at)))
    (All-push TookNone (own_events place run) event took none)

pub took_none_other : (run : Run) (place : ℕ) (event : RunEvent) → event.request ≢ place → TookNoFile run place → TookNoFile (and_then run event) place
took_none_other run place event other took = subst (λ (own : List RunEvent). All TookNone own) (sym (own_other place run event (ne_eqb event.request place other))) took

-- so it has taken no file
one_not_taken : (file : ℕ) (refused : Option Refusal) (files : List TakenFile) → (refused ≡ None → files ≡ []) → (is_none refused && list_any (λ t. (t.file == file) || (t.target == file)) files) ≡ false
one_not_taken file None files none = ap (λ (ts : List TakenFile). list_any (λ t. (t.file == file) || (t.target == file)) ts) (none refl)
one_not_taken file (Some why) files none = refl

pub none_taken : (file : ℕ) (own : List RunEvent) → All TookNone own → list_any (took_file file) own ≡ false
none_taken file own all = list_any_none (took_file file) own (All-weaker TookNone (λ event. took_file file event ≡ false) (λ event none. one_not_taken file event.refused event.files none) own all)
