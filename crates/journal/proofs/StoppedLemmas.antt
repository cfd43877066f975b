-- An event that a stopped store refuses ends its request, which is replied so.
use Rattle.std.specs.Prelude.{◌≡◌, List, [], ◌∷◌, ◌++◌, Option, Some, None, refl}
use Rattle.std.proofs.Common.{sym, ◌∙◌, ap, subst}
use Rattle.std.specs.Option.{option_or}
use Rattle.mdbox_base.specs.declared.requests.Request.{Request}
use Rattle.mdbox_base.specs.declared.requests.Request.TheVariants as request
use Rattle.mdbox_base.specs.declared.replies.Refusal.{Refusal}
use Rattle.mdbox_base.specs.declared.replies.Refusal.TheVariants as refusal
use Rattle.mdbox_base.specs.declared.replies.Reply.{Reply}
use Rattle.mdbox_base.specs.declared.replies.Reply.TheVariants as reply
use Rattle.model_lists.specs.Lists.{Lists}
use Rattle.list_machine.specs.Run.{EventPart, First, Compares, PlacesInstance, TakesFile, PlacesMessage, StoresRecord, Last, SecondHalf, GivesBack, StartsOver, RemovesLog, ReadsPiece, Unpins, RemovesFile, MakesTarget, CopiesMessage, Switches, RemovesInstance, ReadsFile, RunEvent, Run, and_then, own_events}
use Rattle.journal.specs.Journal.{refusal_in}
use Rattle.journal.specs.Events.{Around, behind_addition, behind_piece, behind_refused, behind_event, last_refusal, IsRepliedBy, IsEvent}

addition_ends : (part : EventPart) → behind_addition part refusal.Stopped ≡ None
addition_ends First = refl
addition_ends Compares = refl
addition_ends PlacesInstance = refl
addition_ends (TakesFile new) = refl
addition_ends PlacesMessage = refl
addition_ends StoresRecord = refl
addition_ends Last = refl
addition_ends SecondHalf = refl
addition_ends GivesBack = refl
addition_ends StartsOver = refl
addition_ends RemovesLog = refl
addition_ends ReadsPiece = refl
addition_ends Unpins = refl
addition_ends RemovesFile = refl
addition_ends MakesTarget = refl
addition_ends CopiesMessage = refl
addition_ends Switches = refl
addition_ends RemovesInstance = refl
addition_ends ReadsFile = refl

piece_ends : (part : EventPart) → behind_piece part refusal.Stopped ≡ None
piece_ends First = refl
piece_ends Compares = refl
piece_ends PlacesInstance = refl
piece_ends (TakesFile new) = refl
piece_ends PlacesMessage = refl
piece_ends StoresRecord = refl
piece_ends Last = refl
piece_ends SecondHalf = refl
piece_ends GivesBack = refl
piece_ends StartsOver = refl
piece_ends RemovesLog = refl
piece_ends ReadsPiece = refl
piece_ends Unpins = refl
piece_ends RemovesFile = refl
piece_ends MakesTarget = refl
piece_ends CopiesMessage = refl
piece_ends Switches = refl
piece_ends RemovesInstance = refl
piece_ends ReadsFile = refl

refused_ends : (q : Request) (part : EventPart) → behind_refused q part refusal.Stopped ≡ None
refused_ends (request.Deliver name time octets) part = addition_ends part
refused_ends (request.List name) part = refl
refused_ends (request.Fetch name uid) part = piece_ends part
refused_ends (request.Flag name uid flags) part = refl
refused_ends (request.Keywords name uid words) part = refl
refused_ends (request.Copy name uid target) part = addition_ends part
refused_ends (request.Move name uid target) part = addition_ends part
refused_ends (request.Expunge name uid) part = refl
refused_ends (request.Make name) part = refl
refused_ends (request.Delete name) part = refl
refused_ends (request.Rename name target) part = refl
refused_ends request.Counts part = refl
refused_ends request.Purge part = refl
refused_ends request.Resync part = refl

last_of : (own : List RunEvent) (event : RunEvent) (r : Refusal) → event.refused ≡ Some r → last_refusal (own ++ event ∷ []) ≡ Some r
last_of [] event r e = e
last_of (x ∷ xs) event r e = ap (λ (o : Option Refusal). option_or o x.refused) (last_of xs event r e)

same_refusal : (a b : Refusal) → Some a ≡ Some b → a ≡ b
same_refusal a b e = cc e

no_refusal : (b : Refusal) → None ≡ Some b → ⊥
no_refusal b e = cc e

the_refusal : (given : Reply) (r : Refusal) → refusal_in given ≡ Some r → given ≡ reply.Refused r
the_refusal (reply.Refused a) r e = ap (λ (x : Refusal). reply.Refused x) (same_refusal a r e)
the_refusal (reply.Saved uid guid) r e = absurd (no_refusal r e)
the_refusal (reply.Listed rows) r e = absurd (no_refusal r e)
the_refusal (reply.Fetched octets) r e = absurd (no_refusal r e)
the_refusal reply.Done r e = absurd (no_refusal r e)
the_refusal (reply.Copied uid) r e = absurd (no_refusal r e)
the_refusal (reply.Moved uid gone) r e = absurd (no_refusal r e)
the_refusal (reply.Counted records references counts instances) r e = absurd (no_refusal r e)
the_refusal (reply.Purged dropped files instances) r e = absurd (no_refusal r e)
the_refusal (reply.Resynced corrected damaged) r e = absurd (no_refusal r e)
the_refusal (reply.AltMoved moved dropped) r e = absurd (no_refusal r e)

pub stopped_is_replied : (around after : Around) (run : Run) (lists : Lists) (q : Request) (event : RunEvent) → IsEvent around after run lists q event → event.refused ≡ Some refusal.Stopped → event.reply ≡ Some (reply.Refused refusal.Stopped)
stopped_is_replied around after run lists q event is why = by_reply event.reply refl
  where
    none : behind_event after (and_then run event) q event event.refused ≡ None
    none = ap (λ (o : Option Refusal). behind_event after (and_then run event) q event o) why ∙ refused_ends q event.part

    by_reply : (o : Option Reply) → event.reply ≡ o → event.reply ≡ Some (reply.Refused refusal.Stopped)
    by_reply None e = absurd (is.ends.1 none e)
    by_reply (Some given) e =
        let said : last_refusal (own_events event.request run ++ event ∷ []) ≡ refusal_in given = subst (λ (o : Option Reply). IsRepliedBy (own_events event.request run ++ event ∷ []) o) e is.replied in
        e ∙ ap (λ (x : Reply). Some x) (the_refusal given refusal.Stopped (sym said ∙ last_of (own_events event.request run) event refusal.Stopped why))
