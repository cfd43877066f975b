-- A count as an event, which changes nothing.
use Rattle.mail_ops.proofs.Common.{All-nil, ◌≡◌, ℕ, true, false, List, Option, Some, refl, sym, ◌∙◌, ap, arith, slice_get, sum_by, History, Faults, told_calls, Did, Reply, MapMeaning, First, RunEvent, event_of, own_events, count_different, halves_of, Around, next_part, StoreValue, HasNotBegun}
use Rattle.mail_ops.proofs.Common.{Steps, tells_itself, seen_of, did_own, ends_well, own_event, some_reply, comes_along, first_reply, IsPlain, never_more, plain_stopped, refusal_last, mail_still, nothing}
use Rattle.std.proofs.Common.{length}
use Rattle.mdbox_base.specs.declared.progress.Did.TheVariants as did
use Rattle.mdbox_base.specs.declared.replies.Refusal.TheVariants as refusal
use Rattle.mdbox_base.specs.declared.replies.Reply.TheVariants as reply
use Rattle.mdbox_base.specs.declared.requests.Request.TheVariants as request
use Rattle.mdbox_base.specs.declared.script.Half.TheVariants as half
use Rattle.list_machine.specs.Machine.{AreCounts}
use Rattle.mail_ops.specs.Counting.{listed_messages, named_ids}
use Rattle.mail_ops.proofs.CountingLemmas.{shown_many}
use Rattle.task_steps.proofs.OneEventLemmas.{plain_forgets}

counts_are_plain : IsPlain request.Counts
counts_are_plain = record { found = λ around run event. tt; finds = λ around event. tt; memory = refl; behind = λ why. refl; half_is = refl; halves_are = refl }

-- the clause of the step
abbrev pub CountsClause : {D : Type 0} → StoreValue D → Option History → Faults → Did → Option Reply → Type 0
CountsClause store history faults how ended = (around behind : Around) (pins : ℕ → ℕ) → Steps HasNotBegun HasNotBegun around behind request.Counts (seen_of pins store history faults) (seen_of pins store history faults) how ended

pub counts_stopped : {D : Type 0} → (store : StoreValue D) (history : Option History) (faults : Faults) → store.stopped ≡ true → CountsClause store history faults did.Quiet (Some (reply.Refused refusal.Stopped))
counts_stopped store history faults stopped = λ around behind pins run lane place said lists come shows stood. (
  plain_stopped around behind run lane place said request.Counts lists (seen_of pins store history faults) counts_are_plain come shows stood stopped,
  λ e. absurd (never_more _ e),
)

pub counts_unremembered : {D : Type 0} → (store : StoreValue D) (history : Option History) (faults : Faults) → store.stopped ≡ false → CountsClause store history faults did.Quiet (Some (reply.Refused refusal.NoMemory))
counts_unremembered store history faults runs = λ around behind pins run lane place said lists come shows stood. (
  plain_forgets around behind run lane place said request.Counts lists (seen_of pins store history faults) counts_are_plain come shows stood runs,
  λ e. absurd (never_more _ e),
)

abbrev counting_event : ℕ → ℕ → Reply → ℕ → RunEvent
counting_event lane place given calls = record (event_of lane place First calls) { reply = Some given }

counted_runs : (a b c d : ℕ) → Some (reply.Counted a b c d) ≡ Some (reply.Refused refusal.Stopped) → ⊥
counted_runs a b c d e = let k : reply.Counted a b c d ≡ reply.Refused refusal.Stopped = cc e in cc k

pub counts_done : {D : Type 0} → (store : StoreValue D) (history : Option History) (faults : Faults) (a b c d : ℕ) → store.stopped ≡ false → a ≡ length store.map.records → b ≡ listed_messages store → c ≡ sum_by (λ row. row.count) store.map.records → d ≡ count_different (named_ids store.map)
    → CountsClause store history faults (did.Step half.Whole) (Some (reply.Counted a b c d))
counts_done store history faults a b c d runs records listed counts ids = λ around behind pins run lane place said lists come shows stood.
    let q = request.Counts in
    let seen = seen_of pins store history faults in
    let given = reply.Counted a b c d in
    let event : RunEvent = counting_event lane place given (told_calls history) in
    let are : AreCounts run lists a b c d = record {
      records_are = records ∙ ap (λ (m : MapMeaning). length m.records) (sym come.come.map_is);
      references_are = listed ∙ shown_many store.map.boxes _ lists shows.1;
      counts_are = counts ∙ ap (λ (m : MapMeaning). sum_by (λ row. row.count) m.records) (sym come.come.map_is);
      instances_are = ids ∙ ap (λ (m : MapMeaning). count_different (named_ids m)) (sym come.come.map_is);
    } in (
      (did_own around behind run lane place said q lists lists seen seen (did.Step half.Whole) (Some given) (Some given) event
          (record {
            own = own_event event refl;
            finds = tt;
            found = tt;
            part_is = ap (λ (es : List RunEvent). next_part around run q es) stood.0;
            allowed = refl;
            fits = All-nil _;
            did = refl;
            ends = record { 0 = λ e. refl; 1 = λ e f. some_reply given f };
            replied = refusal_last (own_events place run) event stood.0;
          }) (record { made = refl; pins = refl; unpins = refl; doomed = refl; removed = refl; given = refl; placed = refl; gone = refl }) come (comes_along run event seen seen come refl refl (omega arith) refl refl refl) (λ uid. refl) (tells_itself seen) shows (omega arith) (mail_still store.map history) refl ((refl, (are, refl)), refl) (refl, refl, runs, nothing lists seen)
          (ends_well q said event (Some given) (Some given) (did.Step half.Whole) seen seen refl runs runs refl (λ x. x) (counted_runs a b c d) (λ some. ap (λ (s : List Reply). slice_get (halves_of q) (length s)) stood.1)
          (first_reply q said (Some given) given stood.1 refl))).so,
      λ e. absurd (never_more _ e),
    )
