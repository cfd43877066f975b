-- What the two events of an expunge make.
use Rattle.std.specs.Prelude.{◌≡◌, ◌≤◌, ℕ, List, [], ◌∷◌, ◌++◌, flat_map, Option, Some, None, refl}
use Rattle.std.specs.Option.{option_or}
use Rattle.std.proofs.Common.{inl, ◌∙◌, ap}
use Rattle.std.proofs.lemmas.List.Elements.{All-nil, All-cons}
use Rattle.mdbox_base.specs.declared.ids.Uid.{Uid}
use Rattle.mdbox_base.specs.declared.entries.Highest.{Highest}
use Rattle.mdbox_base.specs.declared.requests.Request.TheVariants as request
use Rattle.mdbox_base.specs.declared.replies.Refusal.{Refusal}
use Rattle.mdbox_base.specs.declared.replies.Reply.{Reply}
use Rattle.mdbox_base.specs.declared.replies.Reply.TheVariants as reply
use Rattle.model_lists.specs.Lists.{Mailbox, Lists}
use Rattle.model_meaning.specs.MapMeaning.{MapRecord, MapMeaning, map_applied, no_numbers}
use Rattle.model_meaning.specs.MapFits.{MapFits}
use Rattle.list_machine.specs.Run.{EventPart, First, GivesBack, RunEvent, Run, map_of, drawn_also, own_events, first_in}
use Rattle.list_machine.specs.Machine.{mailbox_named, expunge, first_refusal, part_checks}
use Rattle.journal.specs.Events.{last_refusal, Around, IsRecord, owed_by, next_part, behind_event, behind_expunge}
use Rattle.journal.specs.Makes.{HasCome, Makes}
use Rattle.journal.proofs.RunLemmas.{comes_on, comes_on_with}
use Rattle.mdbox_base.specs.declared.entries.MapEntry.TheVariants as entry
use Rattle.journal.specs.Stages.{ToRemove, ToLower, IsAtStage, removal, lowering}

-- ---- the events of one request in a run that grows

-- ---- the stages of an expunge

pub no_refusal : (r : Refusal) → None ≡ Some r → ⊥
no_refusal r e = cc e

pub some_part : (p : EventPart) → Some p ≡ None → ⊥
some_part p e = cc e

pub some_reply : (r : Reply) → Some r ≡ None → ⊥
some_reply r e = cc e

-- The first event: the entry that removes the message is appended, and the lists are those without it.
unfoldable pub removal_makes : (around after : Around) (run : Run) (lane place : ℕ) (name : List ℕ) (uid : Uid) (old : Lists) (m : MapMeaning) (drawn : Highest) (calls later : ℕ) (mailbox : Mailbox) (row : MapRecord)
    → HasCome run m drawn calls → calls ≤ later → IsAtStage ToRemove (own_events place run) → first_refusal run old (part_checks run (removal lane place mailbox uid row.uid later) (request.Expunge name uid) First) ≡ None
    → mailbox_named name old ≡ Some mailbox → IsRecord run old name uid.0 row
    → (k : Makes around after run lane place (request.Expunge name uid) old (expunge name uid.0 old) m drawn later None) × IsAtStage (ToLower row.uid) (own_events place run ++ k.event ∷ [])
removal_makes around after run lane place name uid old m drawn calls later mailbox row come le stands allowed there is_record =
    let event = removal lane place mailbox uid row.uid later in (
      record {
        event = event;
        lane_is = refl;
        request_is = refl;
        moment_is = refl;
        ended_is = refl;
        is_event = record {
          finds = tt;
          part_is = ap (λ (es : List RunEvent). next_part around run (request.Expunge name uid) es) stands;
          refused = λ r e. absurd (no_refusal r e);
          undone = λ r e. absurd (no_refusal r e);
          drew = λ h. inl refl;
          memory = λ e. absurd (no_refusal _ e);
          may = tt;
          allowed = λ e. allowed;
          did = λ e. (mailbox, row, there, is_record, refl);
          fits = All-nil _;
          ends = record { 0 = λ h. absurd (h refl); 1 = λ h. absurd (some_part GivesBack h) };
          replied = tt;
        };
        answer = Some reply.Done;
        is_told = refl;
        made = ((allowed, refl), refl);
        come = comes_on run event m drawn calls come le refl refl;
      },
      (event, ap (λ (es : List RunEvent). es ++ event ∷ []) stands, refl, refl, refl),
    )

pub owed_is : (place uid : ℕ) (run : Run) (e : RunEvent) → own_events place run ≡ e ∷ [] → e.owes ≡ uid ∷ [] → owed_by place run ≡ Some uid
owed_is place uid run e one owes =
    ap (λ (es : List RunEvent). first_in (λ (u : ℕ). Some u) (flat_map (λ (x : RunEvent). x.owes) es)) one ∙ ap (λ (us : List ℕ). first_in (λ (u : ℕ). Some u) (us ++ [])) owes

pub next_is : (around : Around) (run : Run) (name : List ℕ) (uid : Uid) (own : List RunEvent) (e : RunEvent) → own ≡ e ∷ [] → e.part ≡ First → e.refused ≡ None → next_part around run (request.Expunge name uid) own ≡ Some GivesBack
next_is around run name uid own e one part free =
    (ap (λ (es : List RunEvent). next_part around run (request.Expunge name uid) es) one ∙ ap (λ (r : Option Refusal). behind_event around run (request.Expunge name uid) e r) free) ∙ ap (λ (p : EventPart). behind_expunge p) part

pub never_refused : (own : List RunEvent) (e last : RunEvent) → own ≡ e ∷ [] → e.refused ≡ None → last_refusal (own ++ last ∷ []) ≡ option_or (option_or None last.refused) None
never_refused own e last one free =
    ap (λ (es : List RunEvent). last_refusal (es ++ last ∷ [])) one ∙ ap (λ (r : Option Refusal). option_or (option_or None last.refused) r) free

-- The second: the count of the record that is owed is lowered, and the request is answered.
unfoldable pub lowering_makes : (around after : Around) (run : Run) (lane place : ℕ) (name : List ℕ) (uid : Uid) (old : Lists) (m : MapMeaning) (drawn : Highest) (calls later owed : ℕ) → HasCome run m drawn calls → calls ≤ later
    → IsAtStage (ToLower owed) (own_events place run) → MapFits (map_of run) (entry.D (record { 0 = owed } ∷ []))
    → Makes around after run lane place (request.Expunge name uid) old old (map_applied (entry.D (record { 0 = owed } ∷ [])) m) (drawn_also drawn no_numbers) later (Some reply.Done)
lowering_makes around after run lane place name uid old m drawn calls later owed come le stands fits =
    let event = lowering lane place owed later in
    record {
      event = event;
      lane_is = refl;
      request_is = refl;
      moment_is = refl;
      ended_is = refl;
      is_event = record {
        finds = tt;
        part_is = next_is around run name uid (own_events place run) stands.0 stands.1 stands.2 stands.3;
        refused = λ r e. absurd (no_refusal r e);
        undone = λ r e. absurd (no_refusal r e);
        drew = λ h. inl refl;
        memory = λ e. absurd (no_refusal _ e);
        may = tt;
        allowed = λ e. refl;
        did = λ e. (owed, owed_is place owed run stands.0 stands.1 stands.4, refl);
        fits = All-cons (MapFits (map_of run)) (entry.D (record { 0 = owed } ∷ [])) [] fits (All-nil _);
        ends = record { 0 = λ h. refl; 1 = λ h e. some_reply reply.Done e };
        replied = never_refused (own_events place run) stands.0 event stands.1 stands.3;
      };
      answer = None;
      is_told = refl;
      made = refl;
      come = comes_on_with run event (entry.D (record { 0 = owed } ∷ [])) m drawn calls come le refl;
    }
