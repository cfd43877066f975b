-- The events of two of the examples: each is what the table of events asks for.
use Rattle.std.specs.Prelude.{◌≡◌, ◌≤◌, true, Some, None, refl, false, List, [], ◌∷◌, ◌++◌, length, filter, Option, All}
use Rattle.std.specs.Option.{IfSome}
use Rattle.std.proofs.Common.{inl, sym, ◌∙◌, ap, subst, arith, lit≤, lit<}
use Rattle.std.proofs.lemmas.List.Elements.{All-nil, All-cons}
use Rattle.mdbox_base.specs.declared.ids.MapUid.{MapUid}
use Rattle.mdbox_base.specs.declared.entries.MapEntry.{MapEntry}
use Rattle.mdbox_base.specs.declared.entries.MapEntry.TheVariants as entry
use Rattle.model_octets.proofs.PairLemmas.{pairs_nil}
use Rattle.model_meaning.specs.MapFits.{AgreesOn, HasRecord, MapFits}
use Rattle.mdbox_base.specs.declared.requests.Request.{Request}
use Rattle.mdbox_base.specs.declared.requests.Request.TheVariants as request
use Rattle.mdbox_base.specs.declared.replies.Refusal.{Refusal}
use Rattle.mdbox_base.specs.declared.replies.Refusal.TheVariants as refusal
use Rattle.mdbox_base.specs.declared.replies.Reply.{Reply}
use Rattle.model_lists.specs.Lists.{Lists}
use Rattle.model_meaning.specs.MapMeaning.{MapRecord, no_numbers, record_at}
use Rattle.model_meaning.specs.MeaningExamples.{example_guid}
use Rattle.list_machine.specs.Run.{EventPart, TakesFile, PlacesMessage, StoresRecord, Last, GivesBack, RunEvent, Run, before, and_then, map_of, own_events}
use Rattle.list_machine.specs.Machine.{is_step, first_refusal, checks_of}
use Rattle.model_mime.specs.Parts.{parts_in}
use Rattle.journal.specs.Journal.{refusal_in}
use Rattle.journal.specs.Events.{Around, next_part, behind_event, DidPart, DidNothing, Finds, MayMeet, last_refusal, IsRepliedBy, IsEvent}
use Rattle.journal.specs.JournalExamples.{inbox, hello, nothing_around, stored, first_event, takes_event, places_event, stores_event, adds_event, raise_event, remove_event, lower_event, refused_event, back_event, first_run, first_lists, lists_saved, second_run, lists_left}

-- an event that ends no request, and one that ends it with a reply
by_none : (own : List RunEvent) (ended : Option Reply) → ended ≡ None → IsRepliedBy own ended
by_none own ended e = subst (λ (o : Option Reply). IsRepliedBy own o) (sym e) tt

by_reply : (own : List RunEvent) (ended : Option Reply) (given : Reply) → ended ≡ Some given → last_refusal own ≡ refusal_in given → IsRepliedBy own ended
by_reply own ended given e h = subst (λ (o : Option Reply). IsRepliedBy own o) (sym e) h

-- an event that isn't refused, and after which the request goes on or is answered
pub went_on : (around after : Around) (run : Run) (lists : Lists) (q : Request) (event : RunEvent) (part : EventPart) → Finds around q event → event.refused ≡ None → event.reply ≡ None → next_part around run q (own_events event.request run) ≡ Some event.part
    → first_refusal run lists (checks_of run q event) ≡ None → DidPart around run lists q event event.part → All (MapFits (map_of run)) event.map_entries → behind_event after (and_then run event) q event event.refused ≡ Some part → IsEvent around after run lists q event
went_on around after run lists q event part parts free unanswered next allowed did fits behind = record {
  finds = parts;
  part_is = next;
  refused = λ r e. absurd (clash r (sym free) e);
  undone = λ r e. absurd (clash r (sym free) e);
  drew = λ h. absurd (h free);
  memory = λ e. absurd (clash refusal.NoMemory (sym free) e);
  may = subst (λ (o : Option Refusal). IfSome o (MayMeet event.part q)) (sym free) tt;
  allowed = λ e. allowed;
  did = λ e. did;
  fits = fits;
  ends = record { 0 = λ h. absurd (h unanswered); 1 = λ h. absurd (some part (sym behind) h) };
  replied = by_none (own_events event.request run ++ event ∷ []) event.reply unanswered;
}
  where
    clash : (r : Refusal) → None ≡ event.refused → event.refused ≡ Some r → ⊥
    clash r p q = let z : None ≡ Some r = p ∙ q in cc z

    some : (p : EventPart) → Some p ≡ behind_event after (and_then run event) q event event.refused → behind_event after (and_then run event) q event event.refused ≡ None → ⊥
    some p a b = let z : Some p ≡ None = a ∙ b in cc z

pub answered : (around after : Around) (run : Run) (lists : Lists) (q : Request) (event : RunEvent) (given : Reply) → Finds around q event → event.refused ≡ None → event.reply ≡ Some given → next_part around run q (own_events event.request run) ≡ Some event.part
    → first_refusal run lists (checks_of run q event) ≡ None → DidPart around run lists q event event.part → All (MapFits (map_of run)) event.map_entries → behind_event after (and_then run event) q event event.refused ≡ None → last_refusal (own_events event.request run ++ event ∷ []) ≡ refusal_in given
    → IsEvent around after run lists q event
answered around after run lists q event given parts free reply_is next allowed did fits behind by = record {
  finds = parts;
  part_is = next;
  refused = λ r e. absurd (clash r (sym free) e);
  undone = λ r e. absurd (clash r (sym free) e);
  drew = λ h. absurd (h free);
  memory = λ e. absurd (clash refusal.NoMemory (sym free) e);
  may = subst (λ (o : Option Refusal). IfSome o (MayMeet event.part q)) (sym free) tt;
  allowed = λ e. allowed;
  did = λ e. did;
  fits = fits;
  ends = record { 0 = λ h. behind; 1 = λ h e. some (sym reply_is) e };
  replied = by_reply (own_events event.request run ++ event ∷ []) event.reply given reply_is by;
}
  where
    clash : (r : Refusal) → None ≡ event.refused → event.refused ≡ Some r → ⊥
    clash r p q = let z : None ≡ Some r = p ∙ q in cc z

    some : Some given ≡ event.reply → event.reply ≡ None → ⊥
    some a b = let z : Some given ≡ None = a ∙ b in cc z

-- ---- the entries fit

one_fits : (run : Run) (x : MapEntry) → MapFits (map_of run) x → All (MapFits (map_of run)) (x ∷ [])
one_fits run x fits = All-cons (MapFits (map_of run)) x [] fits (All-nil _)

stored_fits : MapFits (map_of (before 3 first_run)) stored
stored_fits = record {
  known_origin = lit≤ tt;
  uid_number = record { low = lit≤ tt; high = lit≤ tt };
  uid_new = lit< tt;
  region = record { file_number = record { low = lit≤ tt; high = lit≤ tt }; some = lit≤ tt; ends = lit≤ tt; free = All-nil _ };
  guid_new = All-nil _;
  known = All-nil _;
  earlier = pairs_nil AgreesOn;
}

abbrev one_lowered : MapEntry
one_lowered = entry.D (record { 0 = 1 } ∷ [])

lowered_fits : (run : Run) (row : MapRecord) → record_at (map_of run) 1 ≡ Some row → 1 ≤ row.count → MapFits (map_of run) one_lowered
lowered_fits run row is some = (λ k lt. absurd (omega (arith, lt)), All-cons (λ (u : MapUid). HasRecord (map_of run) u.0 (λ r. 1 ≤ r.count)) (record { 0 = 1 }) [] (row, is, some) (All-nil _))

abbrev delivery : Request
delivery = request.Deliver inbox 7 hello

-- the delivery of a message of which nothing is detached
pub begins_delivery : (0 ≡ length (filter (λ part. part.detachable) (parts_in hello))) → IsEvent nothing_around nothing_around (before 0 first_run) first_lists delivery first_event
begins_delivery hello_parts = went_on nothing_around nothing_around (before 0 first_run) first_lists delivery first_event (TakesFile true) hello_parts refl refl refl refl refl (All-nil _) refl

pub takes_file : (0 ≡ length (filter (λ part. part.detachable) (parts_in hello))) → IsEvent nothing_around nothing_around (before 1 first_run) first_lists delivery takes_event
takes_file hello_parts = went_on nothing_around nothing_around (before 1 first_run) first_lists delivery takes_event PlacesMessage hello_parts refl refl refl refl refl (All-nil _) refl

pub places_message : (0 ≡ length (filter (λ part. part.detachable) (parts_in hello))) → IsEvent nothing_around nothing_around (before 2 first_run) first_lists delivery places_event
places_message hello_parts = went_on nothing_around nothing_around (before 2 first_run) first_lists delivery places_event StoresRecord hello_parts refl refl refl refl (example_guid, refl, refl, refl) (All-nil _) refl

pub stores_record : (0 ≡ length (filter (λ part. part.detachable) (parts_in hello))) → IsEvent nothing_around nothing_around (before 3 first_run) first_lists delivery stores_event
stores_record hello_parts = went_on nothing_around nothing_around (before 3 first_run) first_lists delivery stores_event Last hello_parts refl refl refl refl (example_guid, 0x5e, refl, refl) (one_fits (before 3 first_run) stored stored_fits) refl

pub adds_message : (0 ≡ length (filter (λ part. part.detachable) (parts_in hello))) → IsEvent nothing_around nothing_around (before 4 first_run) first_lists delivery adds_event
adds_message hello_parts = answered nothing_around nothing_around (before 4 first_run) first_lists delivery adds_event _ hello_parts refl refl refl refl (example_guid, refl, (_, 1, refl, refl, refl)) (All-nil _) refl refl

-- an event that is refused, and behind which counts are given back
refused_on : (around after : Around) (run : Run) (lists : Lists) (q : Request) (event : RunEvent) (r : Refusal) (part : EventPart) → Finds around q event → event.refused ≡ Some r → event.reply ≡ None → next_part around run q (own_events event.request run) ≡ Some event.part
    → is_step r ≡ true → MayMeet event.part q r → first_refusal run lists (checks_of run q event) ≡ Some r → DidNothing event → All (MapFits (map_of run)) event.map_entries → event.drew ≡ no_numbers → behind_event after (and_then run event) q event event.refused ≡ Some part → IsEvent around after run lists q event
refused_on around after run lists q event r part parts is_refused unanswered next step may first nothing fits drew behind = record {
  finds = parts;
  part_is = next;
  refused = λ x e s. first ∙ (sym is_refused ∙ e);
  undone = λ x e. (nothing, λ s. drew);
  drew = λ h. inl drew;
  memory = λ e. absurd (no_memory (sym is_refused ∙ e));
  may = subst (λ (o : Option Refusal). IfSome o (MayMeet event.part q)) (sym is_refused) may;
  allowed = λ e. absurd (some r (sym is_refused ∙ e));
  did = λ e. absurd (some r (sym is_refused ∙ e));
  fits = fits;
  ends = record { 0 = λ h. absurd (h unanswered); 1 = λ h. absurd (some_part (sym behind ∙ h)) };
  replied = by_none (own_events event.request run ++ event ∷ []) event.reply unanswered;
}
  where
    some : (r : Refusal) → Some r ≡ None → ⊥
    some r e = cc e

    same : Some r ≡ Some refusal.NoMemory → r ≡ refusal.NoMemory
    same e = cc e

    no_memory : Some r ≡ Some refusal.NoMemory → ⊥
    no_memory e = let k : true ≡ false = sym step ∙ ap is_step (same e) in cc k

    some_part : Some part ≡ None → ⊥
    some_part e = cc e

abbrev pub copying : Request
copying = request.Copy inbox (record { 0 = 1 }) inbox

abbrev pub expunging : Request
expunging = request.Expunge inbox (record { 0 = 1 })

-- a copy whose message is expunged between its two events
pub raises_count : IsEvent nothing_around nothing_around (before 0 second_run) lists_saved copying raise_event
raises_count = went_on nothing_around nothing_around (before 0 second_run) lists_saved copying raise_event Last tt refl refl refl refl (_, _, refl, (_, refl, refl), refl) (one_fits (before 0 second_run) (entry.U (record { 0 = 1 })) (_, refl, (lit≤ tt, lit≤ tt))) refl

pub removes_message : IsEvent nothing_around nothing_around (before 1 second_run) lists_saved expunging remove_event
removes_message = went_on nothing_around nothing_around (before 1 second_run) lists_saved expunging remove_event GivesBack tt refl refl refl refl (_, _, refl, (_, refl, refl), refl) (All-nil _) refl

pub lowers_count : IsEvent nothing_around nothing_around (before 2 second_run) lists_left expunging lower_event
lowers_count = answered nothing_around nothing_around (before 2 second_run) lists_left expunging lower_event _ tt refl refl refl refl (1, refl, refl) (one_fits (before 2 second_run) one_lowered (lowered_fits (before 2 second_run) _ refl (lit≤ tt))) refl refl

pub refuses_message : IsEvent nothing_around nothing_around (before 3 second_run) lists_left copying refused_event
refuses_message = refused_on nothing_around nothing_around (before 3 second_run) lists_left copying refused_event refusal.NoMessage GivesBack tt refl refl refl refl tt refl refl (All-nil _) refl refl

pub gives_back : IsEvent nothing_around nothing_around (before 4 second_run) lists_left copying back_event
gives_back = answered nothing_around nothing_around (before 4 second_run) lists_left copying back_event _ tt refl refl refl refl (1, refl, refl) (one_fits (before 4 second_run) one_lowered (lowered_fits (before 4 second_run) _ refl (lit≤ tt))) refl refl
