-- No message that a script fetches is damaged, where the fetch finds the messages of the lists from which it is served.
use Rattle.std.proofs.Common.{◌≡◌, ◌==◌, ℕ, Bool, true, false, List, [], ◌∷◌, ◌++◌, slice_set, Option, Some, None, refl, sym, ◌∙◌, ap, subst, inl, inr}
use Rattle.std.specs.Prelude.{◌≢◌, All, slice_get}
use Rattle.std.specs.Option.{IfSome, option_or}
use Rattle.std.proofs.lemmas.List.Elements.{All-cons, All-head, All-nil, All-tail, All-weaker, All-push}
use Rattle.std.proofs.lemmas.Bool.{eq-eqb, eqb-true, false≢true}
use Rattle.disk_model.specs.Disk.{History}
use Rattle.mdbox_base.specs.declared.ids.FileNo.{FileNo}
use Rattle.mdbox_base.specs.declared.ids.Uid.{Uid}
use Rattle.mdbox_base.specs.declared.replies.Refusal.{Refusal}
use Rattle.mdbox_base.specs.declared.replies.Refusal.TheVariants as refusal
use Rattle.mdbox_base.specs.declared.replies.Reply.{Reply}
use Rattle.mdbox_base.specs.declared.replies.Reply.TheVariants as reply
use Rattle.mdbox_base.specs.declared.requests.Request.{Request}
use Rattle.mdbox_base.specs.declared.requests.Request.TheVariants as request
use Rattle.model_lists.specs.Lists.{Lists}
use Rattle.list_machine.specs.Run.{EventPart, Run, RunEvent, and_then, own_events, ReadsPiece, Unpins}
use Rattle.journal.specs.Events.{Around, IsEvent, IsRepliedBy, MayMeet, behind_event, is_piece, last_refusal}
use Rattle.journal.specs.Journal.{HasReply, IsReplyOf, Requests, refusal_in}
use Rattle.journal.proofs.OwnEventLemmas.{own_more, own_other}
use Rattle.serving.specs.Lanes.{replies_behind}
use Rattle.serving.proofs.LaneLemmas.{get_set_other, get_set_same, nat_cases, one_some}
use Rattle.store_core.specs.Value.{StoreValue}
use Rattle.mail_fetch.specs.Stages.{HasReadAllBut, IsAtFetch, IsTrueReply, ReadPiece, UnpinsNext}
use Rattle.mail_fetch.specs.declared.parts.StoredAt.{StoredAt}
use Rattle.mail_fetch.specs.declared.task.FetchStage.{FetchStage}
use Rattle.mail_fetch.specs.declared.task.FetchStage.TheVariants as stage
use Rattle.mail_ops.specs.Task.{IsAt}
use Rattle.mail_ops.specs.declared.task.TaskStage.{TaskStage}
use Rattle.mail_ops.specs.declared.task.TaskStage.TheVariants as ops_stage
use Rattle.lane_tasks.specs.Tasks.{StandsTask}
use Rattle.lane_tasks.specs.declared.task.Task.{Task}
use Rattle.lane_tasks.specs.declared.task.Task.TheVariants as task
use Rattle.lanes.specs.Going.{AreUndamaged, TellsDamage, IsUndamaged}

-- ---- the last of a list

pub not_empty : {X : Type 0} → (xs : List X) (x : X) → xs ++ x ∷ [] ≡ [] → ⊥
not_empty [] x e = cc e
not_empty (a ∷ xs) x e = cc e

-- ---- damage

unrefused : (event : RunEvent) → event.refused ≡ None → IsUndamaged event
unrefused event none damage = subst TellsDamage none damage

last_undamaged : (own : List RunEvent) → All IsUndamaged own → TellsDamage (last_refusal own) → ⊥
last_undamaged [] all damage = damage
last_undamaged (event ∷ rest) all damage = by_rest (last_refusal rest) (last_undamaged rest (All-tail IsUndamaged event rest all)) damage
  where
    by_rest : (o : Option Refusal) → (TellsDamage o → ⊥) → TellsDamage (option_or o event.refused) → ⊥
    by_rest None rest_none damage = All-head IsUndamaged event rest all damage
    by_rest (Some why) rest_none damage = rest_none damage

read_undamaged : (pieces : List RunEvent) → All (ReadPiece None) pieces → All IsUndamaged pieces
read_undamaged pieces all = All-weaker (ReadPiece None) IsUndamaged (λ event read. unrefused event read.refused_is) pieces all

-- what a fetch has pinned and read
read_but : (from : StoredAt) (left : ℕ) (own : List RunEvent) → HasReadAllBut from left own → All IsUndamaged own
read_but from left own h = subst (λ (es : List RunEvent). All IsUndamaged es) (sym h.1.own_are) (All-cons IsUndamaged h.1.pin h.0 (unrefused h.1.pin h.1.unrefused) (read_undamaged h.0 h.2))

true_refusal : (octets : List ℕ) (given : Reply) (why : Refusal) → IsTrueReply octets given → refusal_in given ≡ Some why → TellsDamage (Some why) → ⊥
true_refusal octets given why (inl e) is damage = let z : None ≡ Some why = sym (ap refusal_in e) ∙ is in absurd (cc z)
true_refusal octets given why (inr e) is damage = subst TellsDamage (sym is ∙ ap refusal_in e) damage

unpins_undamaged : (from : StoredAt) (given : Reply) (octets : List ℕ) (own : List RunEvent) → UnpinsNext from given own → IsTrueReply octets given → All IsUndamaged own
unpins_undamaged from given octets own (inl all) told = read_but from 0 own all.1
unpins_undamaged from given octets own (inr (why, front, last, refused, is_piece, pinned, read, failed)) told =
    subst (λ (es : List RunEvent). All IsUndamaged es) (sym pinned.own_are)
    (All-cons IsUndamaged pinned.pin (front ++ last ∷ []) (unrefused pinned.pin pinned.unrefused)
    (All-push IsUndamaged front last (read_undamaged front read) (λ damage. true_refusal octets given why told refused (subst TellsDamage failed.refused_is damage))))

-- a fetch that goes on has met no damage
fetch_undamaged : (at : FetchStage) (stopped : Bool) (history : Option History) (run : Run) (place : ℕ) (said : List Reply) → IsAtFetch at stopped history run place said → All IsUndamaged (own_events place run)
fetch_undamaged stage.First stopped history run place said at = subst (λ (es : List RunEvent). All IsUndamaged es) (sym at.0) (All-nil IsUndamaged)
fetch_undamaged (stage.Reading region) stopped history run place said at = read_but _ _ (own_events place run) at.0
fetch_undamaged (stage.Unpinning from given) stopped history run place said at = unpins_undamaged from given at.1.0 (own_events place run) at.0 at.1.2
fetch_undamaged (stage.Removing file given) stopped history run place said at =
    let r = at.0 in
    subst (λ (es : List RunEvent). All IsUndamaged es) (sym r.own_are) (All-push IsUndamaged r.front r.last (unpins_undamaged r.from given at.2.0 r.front r.unpinned at.2.2) (unrefused r.last r.unrefused))

pub stands_undamaged : {D : Type 0} → (t : Task) (store : StoreValue D) (history : Option History) (name : List ℕ) (uid : Uid) (run : Run) (place : ℕ) (said : List Reply) → StandsTask t store history (request.Fetch name uid) run place said → All IsUndamaged (own_events place run)
stands_undamaged (task.Ops t) store history name uid run place said s = begun t.stage s.at
  where
    begun : (at : TaskStage) → IsAt at run place said → All IsUndamaged (own_events place run)
    begun ops_stage.First at = subst (λ (es : List RunEvent). All IsUndamaged es) (sym at.0) (All-nil IsUndamaged)
stands_undamaged (task.Fetch t) store history name uid run place said s = fetch_undamaged t.stage store.stopped history run place said s.at
stands_undamaged (task.Deliver t) store history name uid run place said s = absurd s.is_of
stands_undamaged t store history name uid run place said s = absurd (cc s.is_of)

-- ---- an event

piece_of : (part : EventPart) → is_piece part ≡ true → part ≡ ReadsPiece
piece_of ReadsPiece is = refl
piece_of part is = absurd (false≢true is)

-- a fetch that met damage goes on
damage_goes_on : (around behind : Around) (run : Run) (lists : Lists) (name : List ℕ) (uid : Uid) (event : RunEvent) → IsEvent around behind run lists (request.Fetch name uid) event → TellsDamage event.refused → event.reply ≡ None
damage_goes_on around behind run lists name uid event is damage = by_refused event.refused refl damage
  where
    by_reply : (o : Option Reply) → event.reply ≡ o → (event.reply ≢ None → ⊥) → event.reply ≡ None
    by_reply None e none = e
    by_reply (Some given) e none = absurd (none (λ no. let z : Some given ≡ None = sym e ∙ no in cc z))

    by_refused : (o : Option Refusal) → event.refused ≡ o → TellsDamage o → event.reply ≡ None
    by_refused None e d = absurd d
    by_refused (Some (refusal.Damaged file offset)) e d =
        let piece = piece_of event.part (subst (λ (o : Option Refusal). IfSome o (MayMeet event.part (request.Fetch name uid))) e is.may) in
        by_reply event.reply refl (λ some.
        let none = is.ends.0 some in
        let next : behind_event behind (and_then run event) (request.Fetch name uid) event event.refused ≡ Some Unpins = ap (behind_event behind (and_then run event) (request.Fetch name uid) event) e ∙ ap (λ (p : EventPart). behind_event behind (and_then run event) (request.Fetch name uid) (record event { part = p }) (Some (refusal.Damaged file offset))) piece in
        let z : Some Unpins ≡ None = sym next ∙ none in cc z)
    by_refused (Some why) e d = absurd d

-- only a fetch replies damage
damaged_fetch : (asked : Request) (steps : List Reply) (file : FileNo) (offset : ℕ) → IsReplyOf asked steps (reply.Refused (refusal.Damaged file offset)) → (name : List ℕ) × (uid : Uid) × (asked ≡ request.Fetch name uid)
damaged_fetch (request.Fetch name uid) steps file offset is = (name, uid, refl)
damaged_fetch asked steps file offset is = absurd is

-- none is met by an event, nor told by a reply
pub undamaged_on : (around behind : Around) (script : Requests) (run : Run) (replies : List (Option Reply)) (lane place : ℕ) (asked : Request) (lists : Lists) (event : RunEvent) (ended : Option Reply) (steps : List Reply) → slice_get script place ≡ Some (lane, asked) → slice_get replies place ≡ Some None → event.request ≡ place → event.reply ≡ ended
    → IsEvent around behind run lists asked event → ((given : Reply) → ended ≡ Some given → IsReplyOf asked steps given) → (ended ≡ None → (name : List ℕ) (uid : Uid) → asked ≡ request.Fetch name uid → All IsUndamaged (own_events place (and_then run event))) → AreUndamaged script run replies
    → AreUndamaged script (and_then run event) (replies_behind ended place replies)
undamaged_on around behind script run replies lane place asked lists event ended steps there unanswered own gives is replied stands old = record {
  events = λ other in_lane name uid at. by_test other in_lane name uid at (event.request == other) refl;
  none_told = λ i given has. by_reply ended refl i given has;
}
  where
    -- an event that answers a fetch met none
    answered : (given : Reply) (name : List ℕ) (uid : Uid) → ended ≡ Some given → asked ≡ request.Fetch name uid → IsUndamaged event
    answered given name uid e fetch damage = let z : None ≡ Some given = sym (damage_goes_on around behind run lists name uid event (subst (λ (q : Request). IsEvent around behind run lists q event) fetch is) damage) ∙ (gives ∙ e) in cc z

    fetched : (name : List ℕ) (uid : Uid) → asked ≡ request.Fetch name uid → All IsUndamaged (own_events place (and_then run event))
    fetched name uid fetch = by_end ended refl
      where
        by_end : (o : Option Reply) → ended ≡ o → All IsUndamaged (own_events place (and_then run event))
        by_end None e = stands e name uid fetch
        by_end (Some given) e =
            subst (λ (es : List RunEvent). All IsUndamaged es) (sym (own_more place run event (eq-eqb event.request place own)))
            (All-push IsUndamaged (own_events place run) event (old.events place lane name uid (there ∙ ap (λ (q : Request). Some (lane, q)) fetch)) (answered given name uid e fetch))

    by_test : (other in_lane : ℕ) (name : List ℕ) (uid : Uid) → slice_get script other ≡ Some (in_lane, request.Fetch name uid) → (b : Bool) → (event.request == other) ≡ b → All IsUndamaged (own_events other (and_then run event))
    by_test other in_lane name uid at false e = subst (λ (es : List RunEvent). All IsUndamaged es) (sym (own_other other run event e)) (old.events other in_lane name uid at)
    by_test other in_lane name uid at true e =
        let here : place ≡ other = sym own ∙ eqb-true event.request other e in
        let asks : (lane, asked) ≡ (in_lane, request.Fetch name uid) = one_some (lane, asked) (in_lane, request.Fetch name uid) (sym there ∙ (ap (slice_get script) here ∙ at)) in
        subst (λ (n : ℕ). All IsUndamaged (own_events n (and_then run event))) here (fetched name uid (ap (λ (q : ℕ × Request). q.1) asks))

    -- a reply that told one would be that of a fetch whose event met it
    none_refused : (why : Refusal) → ended ≡ Some (reply.Refused why) → TellsDamage (Some why) → ⊥
    none_refused (refusal.Damaged file offset) e damage =
        let fetch = damaged_fetch asked steps file offset (replied (reply.Refused (refusal.Damaged file offset)) e) in
        let all = subst (λ (es : List RunEvent). All IsUndamaged es) (own_more place run event (eq-eqb event.request place own)) (fetched fetch.0 fetch.1 fetch.2) in
        let by : IsRepliedBy (own_events place run ++ event ∷ []) (Some (reply.Refused (refusal.Damaged file offset))) =
        subst (λ (o : Option Reply). IsRepliedBy (own_events place run ++ event ∷ []) o) (gives ∙ e) (subst (λ (n : ℕ). IsRepliedBy (own_events n run ++ event ∷ []) event.reply) own is.replied) in
        last_undamaged (own_events place run ++ event ∷ []) all (subst TellsDamage (sym by) tt)
    none_refused why e damage = absurd damage

    none_given : (given : Reply) → ended ≡ Some given → TellsDamage (refusal_in given) → ⊥
    none_given (reply.Refused why) e damage = none_refused why e damage
    none_given given e damage = absurd damage

    by_reply : (o : Option Reply) → ended ≡ o → (i : ℕ) (given : Reply) → HasReply (replies_behind o place replies) i given → TellsDamage (refusal_in given) → ⊥
    by_reply None e i given has = old.none_told i given has
    by_reply (Some one) e i given has = elim (nat_cases place i) [
      | inl at ↦
          let mine : Some one ≡ Some given = one_some (Some one) (Some given) (sym (get_set_same replies place (Some one) None unanswered) ∙ (ap (slice_get (slice_set replies place (Some one))) at ∙ has)) in
          none_given given (e ∙ mine)
      | inr apart ↦ old.none_told i given (sym (get_set_other replies place i (Some one) apart) ∙ has)
    ]
