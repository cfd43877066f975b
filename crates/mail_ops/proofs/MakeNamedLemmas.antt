-- The event of a make that names its mailbox, by the clause of a step.
use Rattle.mail_ops.proofs.Common.{MapFits, ◌≡◌, ◌≤◌, ◌<◌, ℕ, Bool, true, false, List, [], ◌∷◌, ◌++◌, Option, Some, None, refl, sym, ◌∙◌, ap, subst, arith, inl, All, All-nil, All-cons, History, Faults, told_calls, IsNumber, Highest, BoxNo, Reply, Mailbox, Lists, AreWellFormed, BoxMeaning}
use Rattle.mail_ops.proofs.Common.{box_meaning, MapRecord, MapBox, MapMeaning, map_applied, no_numbers, ShowLists, Last, RunEvent, event_of, Run, own_events, first_refusal, answers_well, IsReplyOf, due_at, IsStore, StoreValue, indexes_of, ShowsSeen, HasComeTo, NamesLog, IsStoppedSo, CanBeNamed}
use Rattle.mail_ops.proofs.Common.{HasChangedDisk, FellChanging, seen_of, MakeStage, did_fall, did_own, ends_well, own_event, some_reply, stays_left, never_more}
use Rattle.mail_ops.proofs.MakeCallLemmas.{naming_fits}
use Rattle.std.proofs.lemmas.List.Elements.{All-head, All-tail}
use Rattle.mdbox_base.specs.Words.{IsName}
use Rattle.mdbox_base.specs.declared.entries.MapEntry.TheVariants as map_entry
use Rattle.mdbox_base.specs.declared.progress.Did.TheVariants as did
use Rattle.mdbox_base.specs.declared.replies.Refusal.TheVariants as refusal
use Rattle.mdbox_base.specs.declared.replies.Reply.TheVariants as reply
use Rattle.mdbox_base.specs.declared.requests.Request.TheVariants as request
use Rattle.mdbox_base.specs.declared.script.Half.TheVariants as half
use Rattle.model_lists.specs.Lists.{empty_mailbox}
use Rattle.model_meaning.specs.Sound.{IsSoundMapBox}
use Rattle.model_store.specs.Listing.{ShowsMailbox}
use Rattle.list_machine.specs.Machine.{IsMade, make_checks}
use Rattle.journal.specs.Events.{number_of}
use Rattle.store_core.specs.Dues.{number_beside}
use Rattle.store_core.proofs.NamingLemmas.{same_records, one_box_more, box_named}
use Rattle.mail_ops.specs.Making.{with_mailbox}
use Rattle.mail_ops.specs.declared.making.MakeStage.TheVariants as stage
use Rattle.task_steps.proofs.EventLaws.{one_reply}
use Rattle.mail_ops.proofs.LoweringLemmas.{comes_with, one_fits}
use Rattle.mail_ops.proofs.MakeCheckLemmas.{naming_checked}
use Rattle.mail_ops.proofs.MakeEventLemmas.{MakeClause, naming_refuses, in_turn, above_not, stopped_stays, stopped_shows}
use Rattle.mail_ops.proofs.LastEventLemmas.{last_before}
use Rattle.mail_ops.proofs.MakeStageLemmas.{naming_part, naming_next}
use Rattle.mail_ops.proofs.MessageLemmas.{store_is_sound}
use Rattle.mail_ops.proofs.RemovalLemmas.{store_tells}

-- ---- what is shown

-- the mailboxes that are shown have numbers up to the highest
shown_below : (highest number : ℕ) (boxes : List MapBox) (meanings : List BoxMeaning) (lists : Lists) → ShowLists boxes meanings lists → All (IsSoundMapBox highest) boxes → highest < number → All (λ (x : Mailbox). x.number < number) lists
shown_below highest number [] [] [] h sound above = All-nil (λ (x : Mailbox). x.number < number)
shown_below highest number (b ∷ bs) (m ∷ ms) (l ∷ ls) h sound above =
    let own : b.number ≤ highest = (All-head (IsSoundMapBox highest) b bs sound).below in
    let same : l.number ≡ b.number = h.0.number in
    All-cons (λ (x : Mailbox). x.number < number) l ls (omega (arith, own, same, above)) (shown_below highest number bs ms ls h.1 (All-tail (IsSoundMapBox highest) b bs sound) above)
shown_below highest number boxes meanings lists h sound above = absurd h

-- one mailbox more is shown last
shows_more : (boxes : List MapBox) (meanings : List BoxMeaning) (lists : Lists) (b : MapBox) (m : BoxMeaning) (x : Mailbox) → ShowLists boxes meanings lists → ShowsMailbox b m x → ShowLists (boxes ++ b ∷ []) (meanings ++ m ∷ []) (lists ++ x ∷ [])
shows_more [] [] [] b m x h last = (last, tt)
shows_more (c ∷ cs) (n ∷ ns) (l ∷ ls) b m x h last = (h.0, shows_more cs ns ls b m x h.1 last)
shows_more boxes meanings lists b m x h last = absurd h

shows_empty : (number : BoxNo) (name : List ℕ) → ShowsMailbox (box_named number name) (box_meaning []) (empty_mailbox number.0 name)
shows_empty number name = record { number = refl; name = refl; next = refl; rows = refl }

-- ---- the event

abbrev pub naming_event : ℕ → ℕ → ℕ → List ℕ → ℕ → RunEvent
naming_event lane place number name calls = record (event_of lane place Last calls) { reply = Some reply.Done; map_entries = map_entry.B (record { 0 = number }) 1 name ∷ [] }

-- What is known of a mailbox that can be named: its number was drawn.
pub record IsNamedSo {D : Type 0} (name : List ℕ) (number : ℕ) (store : StoreValue D) : Type 0 where
  pub can : CanBeNamed name number store
  pub is_name : IsName name
  pub is_number : IsNumber number
  pub was_drawn : number ≤ store.drawn.mailbox

-- it is the machine's step
made_so : {D : Type 0} → (pins : ℕ → ℕ) → (run : Run) (lane place : ℕ) (name : List ℕ) (number : BoxNo) (store : StoreValue D) (history : Option History) (faults : Faults) (lists : Lists) (calls : ℕ) → IsStore history store → HasComeTo run (seen_of pins store history faults) → ShowsSeen (seen_of pins store history faults) lists → IsNamedSo name number.0 store
    → number_of run place ≡ number.0 → IsMade run (naming_event lane place (number_of run place) name calls) lists name (with_mailbox number.0 name lists)
made_so pins run lane place name number store history faults lists calls is come shows n drew = record {
  number = number.0;
  number_is = ap Some drew;
  above = shown_below store.map.highest.mailbox number.0 store.map.boxes (indexes_of store.boxes) lists shows.1 (store_is_sound history store is).boxes n.can.above;
  fresh = subst (λ (m : MapMeaning). m.highest.mailbox < number.0) (sym come.come.map_is) n.can.above;
  drawn = subst (λ (d : Highest). number.0 ≤ d.mailbox) (sym come.come.drawn_is) n.was_drawn;
  fits = n.is_number.high;
  new_is = refl;
}

no_check : {D : Type 0} → (pins : ℕ → ℕ) → (run : Run) (name : List ℕ) (number : ℕ) (store : StoreValue D) (history : Option History) (faults : Faults) (lists : Lists) → ShowsSeen (seen_of pins store history faults) lists → IsNamedSo name number store → first_refusal run lists (make_checks name Last) ≡ None
no_check pins run name number store history faults lists shows n = naming_checked run name store lists false shows.1 ∙ n.can.free

done_stopped : Some reply.Done ≡ Some (reply.Refused refusal.Stopped) → ⊥
done_stopped e = let k : reply.Done ≡ reply.Refused refusal.Stopped = cc e in cc k

pub named_due : {D : Type 0} → (old new : StoreValue D) (number : BoxNo) (name : List ℕ) (uid : ℕ) → NamesLog number name old new → due_at uid new ≡ due_at uid old
named_due old new number name uid n =
    ap (λ (rows : List MapRecord). number_beside uid rows new.dues) (ap (λ (m : MapMeaning). m.records) n.map ∙ same_records old.map number name) ∙ ap (λ (dues : List ℕ). number_beside uid old.map.records dues) (ap (λ (s : StoreValue _). s.dues) n.same)

pub naming_done : {D : Type 0} → (name : List ℕ) (number : BoxNo) (next : MakeStage) (old new : StoreValue D) (before after : Option History) (began then : Faults) → IsStore before old → old.stopped ≡ false → IsNamedSo name number.0 old → NamesLog number name old new → HasChangedDisk (with_mailbox number.0 name) before after began then
    → MakeClause name (stage.Naming number) next old new before after began then (did.Step half.Whole) (Some reply.Done)
naming_done name number next old new before after began then is ran n named d = λ around behind pins run lane place said lists come shows stood.
    let seen = seen_of pins old before began in
    let later = seen_of pins new after then in
    let left = with_mailbox number.0 name lists in
    let none = stood.0.unanswered in
    let event : RunEvent = naming_event lane place (number_of run place) name (told_calls after) in
    let runs : new.stopped ≡ false = ap (λ (s : StoreValue _). s.stopped) named.same ∙ ran in
    let free = no_check pins run name number.0 old before began lists shows n in
    let made = made_so pins run lane place name number old before began lists (told_calls after) is come shows n stood.2 in
    let well : AreWellFormed left = answers_well run lists (request.Make name) event reply.Done left shows.0 n.is_name (free, made) in
    let boxes : new.map.boxes ≡ old.map.boxes ++ box_named number name ∷ [] = ap (λ (m : MapMeaning). m.boxes) named.map ∙ one_box_more old.map number name in
    let shown : ShowsSeen later left = (
      well,
      subst (λ (bs : List MapBox). ShowLists bs (indexes_of new.boxes) left) (sym boxes) (subst (λ (ms : List BoxMeaning). ShowLists (old.map.boxes ++ box_named number name ∷ []) ms left) (sym named.indexes)
          (shows_more old.map.boxes (indexes_of old.boxes) lists (box_named number name) (box_meaning []) (empty_mailbox number.0 name) shows.1 (shows_empty number name))),
    ) in (
      (did_own around behind run lane place said (request.Make name) lists left seen later (did.Step half.Whole) (Some reply.Done) (Some reply.Done) event
          (record {
            own = own_event event refl;
            finds = tt;
            found = tt;
            part_is = naming_next around run name place said number.0 old.map stood come.come.map_is ∙ ap (λ (b : Bool). Some (naming_part b)) (above_not number.0 old.map.highest.mailbox n.can.above);
            allowed = free;
            fits = one_fits run seen (map_entry.B (record { 0 = number_of run place }) 1 name) come (subst (λ (k : ℕ). MapFits old.map (map_entry.B (record { 0 = k }) 1 name)) (sym stood.2) (naming_fits before name number.0 old is n.can.free n.is_number n.can.above));
            did = refl;
            ends = record { 0 = λ h. refl; 1 = λ h e. some_reply reply.Done e };
            replied = last_before (own_events place run) event refl ∙ stood.0.unrefused;
          }) (record { made = refl; pins = refl; unpins = refl; doomed = refl; removed = refl; given = refl; placed = refl; gone = refl }) come
          (comes_with run event (map_entry.B (record { 0 = number_of run place }) 1 name) seen later come (subst (λ (k : ℕ). new.map ≡ map_applied (map_entry.B (record { 0 = k }) 1 name) old.map) (sym stood.2) named.map) (ap (λ (s : StoreValue _). s.drawn) named.same) d.change.grows refl refl refl)
          (λ uid. let e = named_due old new number name uid named in omega (arith, e))
          (store_tells pins old new before after began then (λ runs. ran) (ap (λ (m : MapMeaning). m.store) named.map) (ap (λ (s : StoreValue _). s.drawn) named.same) (ap (λ (s : StoreValue _). s.files) named.same) (ap (λ (s : StoreValue _). s.instances) named.same)) shown d.change.grows (d.change.stays old.map) refl ((free, made), refl)
          (refl, refl, runs, record { stops = λ s. d.change.moments lists s.0; settled = λ s. d.settled lists s.0 })
          (ends_well (request.Make name) said event (Some reply.Done) (Some reply.Done) (did.Step half.Whole) seen later refl ran runs d.unfailed (λ x. x) done_stopped (λ some. in_turn name said Last none)
          (λ given e. subst (λ (r : Reply). IsReplyOf (request.Make name) (said ++ reply.Done ∷ []) r) (one_reply reply.Done given e) (ap (λ (before_it : List Reply). before_it ++ reply.Done ∷ []) none)))).so,
      λ e. absurd (never_more _ e),
    )

-- the append failed
pub naming_fell : {D : Type 0} → (name : List ℕ) (number : BoxNo) (next : MakeStage) (old new : StoreValue D) (before after : Option History) (began then : Faults) → IsStore before old → old.stopped ≡ false → IsNamedSo name number.0 old → IsStoppedSo old new → FellChanging (with_mailbox number.0 name) before after began then
    → MakeClause name (stage.Naming number) next old new before after began then (did.Broken half.Whole) (Some (reply.Refused refusal.Stopped))
naming_fell name number next old new before after began then is ran n same f = λ around behind pins run lane place said lists come shows stood.
    let seen = seen_of pins old before began in
    let later = seen_of pins new after then in
    let stops : new.stopped ≡ true = ap (λ (s : StoreValue _). s.stopped) same in
    let left = with_mailbox number.0 name lists in
    let would : RunEvent = naming_event lane place (number_of run place) name (told_calls after) in (
      (did_fall around behind run lane place said (request.Make name) Last lists seen later (did.Broken half.Whole) no_numbers (naming_refuses around run place said name number.0 old.map false refusal.Stopped (above_not number.0 old.map.highest.mailbox n.can.above) stood come.come.map_is)
          (stays_left _ _ _ _ _ _ _ _ _ come (stopped_stays pins old new before after began then (with_mailbox number.0 name) same f.change) (stopped_shows pins old new before after began then lists same shows)) ran stops f.rose (λ event. inl refl) tt (
            record { refused = refl; unanswered = refl; ran = ran; stopped = stops },
            refl,
            (
              record {
                would = would;
                lane_is = refl;
                request_is = refl;
                part_is = refl;
                did = λ other e. refl;
                answer = reply.Done;
                left = left;
                made = ((no_check pins run name number.0 old before began lists shows n, made_so pins run lane place name number old before began lists (told_calls after) is come shows n stood.2), refl);
              },
              λ s. f.change.moments lists s.0,
            ),
          )).so,
      λ e. absurd (never_more _ e),
    )
