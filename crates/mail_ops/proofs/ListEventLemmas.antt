-- A listing as an event, which changes nothing.
use Rattle.mail_ops.proofs.Common.{All-nil, ◌≡◌, ℕ, false, List, Some, refl, arith, ListRow, Reply, told_calls, Lists, First, RunEvent, event_of, Run, own_events, PartAnswers, Around, Seen, ShowsSeen, HasComeTo, HasNotBegun, tells_itself, did_own, ends_well, own_event, some_reply, comes_along}
use Rattle.mail_ops.proofs.Common.{first_reply, IsPlain, refusal_last, mail_still, nothing}
use Rattle.mdbox_base.specs.declared.progress.Did.TheVariants as did
use Rattle.mdbox_base.specs.declared.requests.Request.TheVariants as request
use Rattle.mdbox_base.specs.declared.replies.Refusal.TheVariants as refusal
use Rattle.mdbox_base.specs.declared.replies.Reply.TheVariants as reply
use Rattle.mdbox_base.specs.declared.script.Half.TheVariants as half
use Rattle.task_steps.specs.Step.{DidEvent}
use Rattle.task_steps.proofs.OneEventLemmas.{first_turn, next_first}

pub list_is_plain : (name : List ℕ) → IsPlain (request.List name)
list_is_plain name = record { found = λ around run event. tt; finds = λ around event. tt; memory = refl; behind = λ why. refl; half_is = refl; halves_are = refl }

abbrev list_event : ℕ → ℕ → List ListRow → ℕ → RunEvent
list_event lane place rows calls = record (event_of lane place First calls) { reply = Some (reply.Listed rows) }

listed_is : (rows : List ListRow) → Some (reply.Listed rows) ≡ Some (reply.Refused refusal.Stopped) → ⊥
listed_is rows e = let k : reply.Listed rows ≡ reply.Refused refusal.Stopped = cc e in cc k

pub does_list : (around after : Around) (run : Run) (lane place : ℕ) (said : List Reply) (name : List ℕ) (lists : Lists) (seen : Seen) (rows : List ListRow) → HasComeTo run seen → ShowsSeen seen lists → HasNotBegun run place said → seen.stopped ≡ false
    → ((event : RunEvent) → PartAnswers run event lists (request.List name) First (reply.Listed rows) lists) → DidEvent around after run lane place said (request.List name) lists seen seen (did.Step half.Whole) (Some (reply.Listed rows))
does_list around after run lane place said name lists seen rows come shows stage runs answers =
    let q = request.List name in
    let given = reply.Listed rows in
    let event : RunEvent = list_event lane place rows (told_calls seen.history) in
    (did_own around after run lane place said q lists lists seen seen (did.Step half.Whole) (Some given) (Some given) event
    (record {
      own = own_event event refl;
      finds = tt;
      found = tt;
      part_is = next_first around run q (own_events place run) stage.0;
      allowed = (answers event).0;
      did = refl;
      fits = All-nil _;
      ends = record { 0 = λ e. refl; 1 = λ e k. some_reply given k };
      replied = refusal_last (own_events place run) event stage.0;
    }) (record { made = refl; pins = refl; unpins = refl; doomed = refl; removed = refl; given = refl; placed = refl; gone = refl }) come (comes_along run event seen seen come refl refl (omega arith) refl refl refl) (λ uid. refl) (tells_itself seen) shows (omega arith) (mail_still seen.map seen.history) refl (answers event, refl)
    (refl, refl, runs, nothing lists seen)
    (ends_well q said event (Some given) (Some given) (did.Step half.Whole) seen seen refl runs runs refl (λ x. x) (listed_is rows) (λ some. first_turn q said (list_is_plain name) stage.1) (first_reply q said (Some given) given stage.1 refl))).so
