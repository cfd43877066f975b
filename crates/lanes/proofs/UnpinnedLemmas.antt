-- A fetch of a legal run that is answered has unpinned what it pinned, unless a stopped store refused it.
use Rattle.std.proofs.Common.{◌≡◌, ◌≤◌, ◌&&◌, ◌||◌, ℕ, zero, suc, Bool, true, false, List, [], ◌∷◌, ◌++◌, length, take, Option, Some, None, refl, sym, ◌∙◌, ap, subst, arith, inl, inr}
use Rattle.std.specs.Prelude.{◌≢◌, ◌⊎◌, is_none, slice_get, if◌then◌else◌}
use Rattle.std.specs.List.{list_any}
use Rattle.std.specs.Option.{IfSome, option_or}
use Rattle.std.proofs.lemmas.Bool.{eq-eqb, ne_eqb, or_left, or_right, cases_cond}
use Rattle.std.proofs.lemmas.List.{take_all}
use Rattle.std.proofs.lemmas.List.Folds.{list_any-append}
use Rattle.mdbox_base.specs.declared.entries.InstRow.{InstRow}
use Rattle.mdbox_base.specs.declared.ids.FileNo.{FileNo}
use Rattle.mdbox_base.specs.declared.ids.Uid.{Uid}
use Rattle.mdbox_base.specs.declared.replies.Refusal.{Refusal}
use Rattle.mdbox_base.specs.declared.replies.Refusal.TheVariants as refusal
use Rattle.mdbox_base.specs.declared.replies.Reply.{Reply}
use Rattle.mdbox_base.specs.declared.requests.Request.{Request}
use Rattle.mdbox_base.specs.declared.requests.Request.TheVariants as request
use Rattle.model_lists.specs.Lists.{Lists}
use Rattle.list_machine.specs.Machine.{checks_of, first_refusal, is_step, part_checks}
use Rattle.list_machine.specs.Run.{EventPart, First, ReadsPiece, RemovesFile, Run, RunEvent, Unpins, and_then, before, is_unpinning, is_unpinning_part, first_in, own_events, reply_of}
use Rattle.journal.specs.Events.{Around, IsEvent, IsNextEvent, MayMeet, behind_event, behind_fetch, behind_piece, has_memory, leaves_doomed, next_part, piece_left}
use Rattle.journal.specs.Journal.{JournalStep, Requests}
use Rattle.journal.specs.Makes.{AreNextEvents, lists_before}
use Rattle.journal.proofs.OwnEventLemmas.{own_more, own_other}
use Rattle.serving.proofs.LaneLemmas.{nat_cases, one_some}
use Rattle.serving.proofs.ServingLemmas.{all_at, some_at}
use Rattle.task_steps.specs.Serves.{NoneStopped}
use Rattle.lane_tasks.specs.Uses.{pins_instance}
use Rattle.lanes.proofs.OwnUseLemmas.{nothing_used, pins_false}

-- ---- the parts of a fetch

-- what stands before an event of a fetch, by its part
abbrev pub StandsBefore : List RunEvent → EventPart → Type 0
StandsBefore own First = own ≡ []
StandsBefore own ReadsPiece = Unit {0}
StandsBefore own Unpins = Unit {0}
StandsBefore own RemovesFile = list_any is_unpinning own ≡ true
StandsBefore own part = ⊥

-- behind other events the same parts stand, but for the first
later : (event : RunEvent) (own : List RunEvent) (part : EventPart) → (own ≡ [] → ⊥) → StandsBefore own part → StandsBefore (event ∷ own) part
later event own First some s = absurd (some s)
later event own ReadsPiece some s = tt
later event own Unpins some s = tt
later event own RemovesFile some s = or_right (is_unpinning event) (list_any is_unpinning own) s
later event own part some s = absurd s

no_part : {X : Type 0} → (part : EventPart) → None ≡ Some part → X
no_part part e = absurd (cc e)

one_part : (a b : EventPart) → Some a ≡ Some b → a ≡ b
one_part a b e = cc e

unpinned_last : (event : RunEvent) → event.part ≡ Unpins → event.refused ≡ None → is_unpinning event ≡ true
unpinned_last event part refused = ap (λ (o : Option Refusal). is_none o && is_unpinning_part event.part) refused ∙ ap is_unpinning_part part

behind_one : (run : Run) (event : RunEvent) (now part : EventPart) → event.part ≡ now → event.refused ≡ None → behind_fetch run event now ≡ Some part → StandsBefore (event ∷ []) part
behind_one run event Unpins part at none is = elim (cases_cond (leaves_doomed event.request run) (Some RemovesFile) None (Some part) (sym is)) [
  | inl e ↦ subst (StandsBefore (event ∷ [])) (one_part RemovesFile part (sym e)) (ap (λ (b : Bool). b || false) (unpinned_last event at none))
  | inr e ↦ no_part part (sym e)
]
behind_one run event RemovesFile part at none is = no_part part is
behind_one run event now part at none is = elim (cases_cond (piece_left event.request run) (Some ReadsPiece) (Some Unpins) (Some part) (sym is)) [
  | inl e ↦ subst (StandsBefore (event ∷ [])) (one_part ReadsPiece part (sym e)) tt
  | inr e ↦ subst (StandsBefore (event ∷ [])) (one_part Unpins part (sym e)) tt
]

behind_refusal : (event : RunEvent) (now part : EventPart) (why : Refusal) → behind_piece now why ≡ Some part → StandsBefore (event ∷ []) part
behind_refusal event ReadsPiece part refusal.ReadFault is = subst (StandsBefore (event ∷ [])) (one_part Unpins part is) tt
behind_refusal event ReadsPiece part (refusal.Damaged file offset) is = subst (StandsBefore (event ∷ [])) (one_part Unpins part is) tt
behind_refusal event now part why is = no_part part is

behind_last : (around : Around) (run : Run) (name : List ℕ) (uid : Uid) (event : RunEvent) (part : EventPart) (refused : Option Refusal) → event.refused ≡ refused → behind_event around run (request.Fetch name uid) event refused ≡ Some part → StandsBefore (event ∷ []) part
behind_last around run name uid event part None none is = behind_one run event event.part part refl none is
behind_last around run name uid event part (Some why) refused is = behind_refusal event event.part part why is

some_events : (event : RunEvent) (own : List RunEvent) → event ∷ own ≡ [] → ⊥
some_events event own e = cc e

pub stands_before : (around : Around) (run : Run) (name : List ℕ) (uid : Uid) (own : List RunEvent) (part : EventPart) → next_part around run (request.Fetch name uid) own ≡ Some part → StandsBefore own part
stands_before around run name uid [] part is = subst (StandsBefore []) (one_part First part is) refl
stands_before around run name uid (event ∷ []) part is = behind_last around run name uid event part event.refused refl is
stands_before around run name uid (event ∷ more ∷ rest) part is = later event (more ∷ rest) part (some_events more rest) (stands_before around run name uid (more ∷ rest) part is)

-- ---- how a fetch ends

-- it pinned nothing, or has unpinned
abbrev pub HoldsNothing : List RunEvent → Type 0
HoldsNothing own = ((instance : InstRow) → list_any (pins_instance instance) own ≡ false) ⊎ (list_any is_unpinning own ≡ true)

-- a refusal that a fetch goes on behind, and one that it doesn't meet there
not_met : {X : Type 0} → (around after : Around) (run : Run) (lists : Lists) (name : List ℕ) (uid : Uid) (event : RunEvent) (why : Refusal) → IsEvent around after run lists (request.Fetch name uid) event → event.refused ≡ Some why → why ≢ refusal.Stopped → has_memory event.part (request.Fetch name uid) ≡ true
    → checks_of run (request.Fetch name uid) event ≡ [] → ((why ≡ refusal.ReadFault) → ⊥) → ((file : FileNo) (offset : ℕ) → why ≡ refusal.Damaged file offset → ⊥) → X
not_met {X = X} around after run lists name uid event why e is running memory none unread undamaged = by_why why refl
  where
    stepless : is_step why ≡ true → X
    stepless step = absurd (let k : Some why ≡ None = sym (e.refused why is step) ∙ ap (first_refusal run lists) none in cc k)

    by_why : (w : Refusal) → why ≡ w → X
    by_why refusal.Stopped at = absurd (running at)
    by_why refusal.NoMemory at = absurd (let k : true ≡ false = sym memory ∙ e.memory (is ∙ ap (λ (r : Refusal). Some r) at) in cc k)
    by_why refusal.ReadFault at = absurd (unread at)
    by_why (refusal.Damaged file offset) at = absurd (undamaged file offset at)
    by_why w at = stepless (ap is_step at)

goes_on : {X : Type 0} → (b : Bool) → (if b then Some ReadsPiece else Some Unpins) ≡ None → X
goes_on true e = absurd (let k : Some ReadsPiece ≡ None = e in cc k)
goes_on false e = absurd (let k : Some Unpins ≡ None = e in cc k)

-- an event of a fetch with which it is replied
ends_so : (around after : Around) (run : Run) (lists : Lists) (name : List ℕ) (uid : Uid) (event : RunEvent) → IsEvent around after run lists (request.Fetch name uid) event → event.refused ≢ Some refusal.Stopped → event.reply ≢ None → HoldsNothing (own_events event.request run ++ event ∷ [])
ends_so around after run lists name uid event e running ends = by_part event.part refl (stands_before around run name uid (own_events event.request run) event.part e.part_is)
  where
    none_if : (o : Option Refusal) → event.refused ≡ o → behind_event after (and_then run event) (request.Fetch name uid) event o ≡ None
    none_if o is = ap (λ (r : Option Refusal). behind_event after (and_then run event) (request.Fetch name uid) event r) (sym is) ∙ e.ends.0 ends

    unrefused : (part : EventPart) → event.refused ≡ None → event.part ≡ part → behind_fetch (and_then run event) event part ≡ None
    unrefused part none at = ap (behind_fetch (and_then run event) event) (sym at) ∙ none_if None none

    refused : (part : EventPart) (why : Refusal) → event.refused ≡ Some why → event.part ≡ part → behind_piece part why ≡ None
    refused part why is at = ap (λ (p : EventPart). behind_piece p why) (sym at) ∙ none_if (Some why) is

    runs : (why : Refusal) → event.refused ≡ Some why → why ≢ refusal.Stopped
    runs why is stopped = running (is ∙ ap (λ (r : Refusal). Some r) stopped)

    no_pins : (why : Refusal) → event.refused ≡ Some why → (instance : InstRow) → (pins_instance instance event || false) ≡ false
    no_pins why is instance = ap (λ (b : Bool). b || false) (pins_false instance event (nothing_used event (e.undone why is).0).1)

    by_first : (o : Option Refusal) → event.refused ≡ o → event.part ≡ First → own_events event.request run ≡ [] → HoldsNothing (own_events event.request run ++ event ∷ [])
    by_first None none at begun = goes_on (piece_left event.request (and_then run event)) (unrefused First none at)
    by_first (Some why) is at begun = inl (λ instance. ap (λ (own : List RunEvent). list_any (pins_instance instance) (own ++ event ∷ [])) begun ∙ no_pins why is instance)

    by_reading : (o : Option Refusal) → event.refused ≡ o → event.part ≡ ReadsPiece → HoldsNothing (own_events event.request run ++ event ∷ [])
    by_reading None none at = goes_on (piece_left event.request (and_then run event)) (unrefused ReadsPiece none at)
    by_reading (Some why) is at =
        not_met around after run lists name uid event why e is (runs why is) (ap (λ (p : EventPart). has_memory p (request.Fetch name uid)) at) (ap (part_checks run event (request.Fetch name uid)) at)
        (λ read. absurd (let k : Some Unpins ≡ None = ap (λ (r : Refusal). behind_piece ReadsPiece r) (sym read) ∙ refused ReadsPiece why is at in cc k))
        (λ file offset damaged. absurd (let k : Some Unpins ≡ None = ap (λ (r : Refusal). behind_piece ReadsPiece r) (sym damaged) ∙ refused ReadsPiece why is at in cc k))

    may : (why : Refusal) → event.refused ≡ Some why → event.part ≡ Unpins → MayMeet Unpins (request.Fetch name uid) why
    may why is at = subst (λ (p : EventPart). MayMeet p (request.Fetch name uid) why) at (subst (λ (o : Option Refusal). IfSome o (MayMeet event.part (request.Fetch name uid))) is e.may)

    by_unpinning : (o : Option Refusal) → event.refused ≡ o → event.part ≡ Unpins → HoldsNothing (own_events event.request run ++ event ∷ [])
    by_unpinning None none at =
        inr (list_any-append is_unpinning (own_events event.request run) (event ∷ []) ∙ or_right (list_any is_unpinning (own_events event.request run)) (is_unpinning event || false) (or_left (is_unpinning event) false (unpinned_last event at none)))
    by_unpinning (Some why) is at =
        not_met around after run lists name uid event why e is (runs why is) (ap (λ (p : EventPart). has_memory p (request.Fetch name uid)) at) (ap (part_checks run event (request.Fetch name uid)) at)
        (λ read. absurd (let k : false ≡ true = subst (λ (r : Refusal). MayMeet Unpins (request.Fetch name uid) r) read (may why is at) in cc k))
        (λ file offset damaged. absurd (let k : false ≡ true = subst (λ (r : Refusal). MayMeet Unpins (request.Fetch name uid) r) damaged (may why is at) in cc k))

    by_part : (part : EventPart) → event.part ≡ part → StandsBefore (own_events event.request run) part → HoldsNothing (own_events event.request run ++ event ∷ [])
    by_part First at stands = by_first event.refused refl at stands
    by_part ReadsPiece at stands = by_reading event.refused refl at
    by_part Unpins at stands = by_unpinning event.refused refl at
    by_part RemovesFile at stands = inr (list_any-append is_unpinning (own_events event.request run) (event ∷ []) ∙ or_left (list_any is_unpinning (own_events event.request run)) (is_unpinning event || false) stands)
    by_part part at stands = absurd stands

-- ---- replies

-- the request isn't answered, or holds nothing
abbrev pub IsLet : Run → ℕ → Type 0
IsLet run place = (reply_of place run ≡ None) ⊎ HoldsNothing (own_events place run)

reply_first : (own : List RunEvent) (event : RunEvent) → first_in (λ e. e.reply) own ≡ None → event.reply ≡ None → first_in (λ e. e.reply) (own ++ event ∷ []) ≡ None
reply_first [] event none last = ap (λ (o : Option Reply). option_or o None) last
reply_first (e ∷ own) event none last =
    let both = first_none e.reply (first_in (λ x. x.reply) own) none in ap (λ (o : Option Reply). option_or o (first_in (λ x. x.reply) (own ++ event ∷ []))) both.0 ∙ reply_first own event both.1 last
  where
    first_none : (a b : Option Reply) → option_or a b ≡ None → (a ≡ None) × (b ≡ None)
    first_none None b e = (refl, e)
    first_none (Some x) b e = absurd (let k : Some x ≡ None = e in cc k)

let_own : (around after : Around) (run : Run) (lists : Lists) (name : List ℕ) (uid : Uid) (place : ℕ) (event : RunEvent) → event.request ≡ place → reply_of place run ≡ None → IsEvent around after run lists (request.Fetch name uid) event → event.refused ≢ Some refusal.Stopped → IsLet (and_then run event) place
let_own around after run lists name uid place event at unanswered e running = by_reply event.reply refl
  where
    own : own_events place (and_then run event) ≡ own_events place run ++ event ∷ []
    own = own_more place run event (eq-eqb event.request place at)

    by_reply : (o : Option Reply) → event.reply ≡ o → IsLet (and_then run event) place
    by_reply None none = inl (ap (λ (events : List RunEvent). first_in (λ x. x.reply) events) own ∙ reply_first (own_events place run) event unanswered none)
    by_reply (Some given) is =
        inr (subst HoldsNothing (sym own) (subst (λ (n : ℕ). HoldsNothing (own_events n run ++ event ∷ [])) at (ends_so around after run lists name uid event e running (λ none. absurd (let k : Some given ≡ None = sym is ∙ none in cc k)))))

let_other : (run : Run) (place : ℕ) (event : RunEvent) → event.request ≢ place → IsLet run place → IsLet (and_then run event) place
let_other run place event other stands = by_case stands
  where
    same : own_events place (and_then run event) ≡ own_events place run
    same = own_other place run event (ne_eqb event.request place other)

    by_case : IsLet run place → IsLet (and_then run event) place
    by_case (inl none) = inl (ap (λ (events : List RunEvent). first_in (λ x. x.reply) events) same ∙ none)
    by_case (inr holds) = inr (subst HoldsNothing (sym same) holds)

take_next : {X : Type 0} → (xs : List X) (n : ℕ) (x : X) → slice_get xs n ≡ Some x → take (suc n) xs ≡ take n xs ++ x ∷ []
take_next [] n x there = absurd (let k : None ≡ Some x = there in cc k)
take_next (a ∷ more) zero x there = ap (λ (y : _). y ∷ []) (one_some a x there)
take_next (a ∷ more) (suc n) x there = ap (λ (ys : List _). a ∷ ys) (take_next more n x there)

-- at each place of the run
let_at : (around after : ℕ → Around) (script : Requests) (start : Lists) (run : Run) (journal : List JournalStep) (place lane : ℕ) (name : List ℕ) (uid : Uid) → AreNextEvents around after script start run journal → NoneStopped run.events → slice_get script place ≡ Some (lane, request.Fetch name uid) → (n : ℕ) → n ≤ length run.events → IsLet (before n run) place
let_at around after script start run journal place lane name uid next running asked zero within = inl refl
let_at around after script start run journal place lane name uid next running asked (suc n) within = subst (λ (r : Run). IsLet r place) (sym then_is) (by_case (nat_cases event.request place) (let_at around after script start run journal place lane name uid next running asked n (omega (arith, within))))
  where
    here : (event : RunEvent) × (slice_get run.events n ≡ Some event)
    here = some_at run.events n (omega (arith, within))

    event : RunEvent
    event = here.0

    then_is : before (suc n) run ≡ and_then (before n run) event
    then_is = ap (λ (events : List RunEvent). record run { events = events }) (take_next run.events n event here.1)

    is : IsNextEvent (around n) (after n) script (before n run) (lists_before start journal n) event
    is = next n event here.1

    request_is : event.request ≡ place → is.asked.1 ≡ request.Fetch name uid
    request_is same = ap (λ (q : ℕ × Request). q.1) (one_some is.asked (lane, request.Fetch name uid) (sym is.request_is ∙ (ap (slice_get script) same ∙ asked)))

    by_case : (event.request ≡ place) ⊎ (event.request ≢ place) → IsLet (before n run) place → IsLet (and_then (before n run) event) place
    by_case (inl same) so_far =
        let_own (around n) (after n) (before n run) (lists_before start journal n) name uid place event same (ap (λ (p : ℕ). reply_of p (before n run)) (sym same) ∙ is.unanswered)
        (subst (λ (q : Request). IsEvent (around n) (after n) (before n run) (lists_before start journal n) q event) (request_is same) is.is_event)
        (all_at (λ (e : RunEvent). e.refused ≢ Some refusal.Stopped) run.events n event running here.1)
    by_case (inr other) so_far = let_other (before n run) place event other so_far

-- an answered fetch holds nothing
pub answered_holds_nothing : (around after : ℕ → Around) (script : Requests) (start : Lists) (run : Run) (journal : List JournalStep) (place lane : ℕ) (name : List ℕ) (uid : Uid) (given : Reply) → AreNextEvents around after script start run journal → NoneStopped run.events → slice_get script place ≡ Some (lane, request.Fetch name uid)
    → reply_of place run ≡ Some given → HoldsNothing (own_events place run)
answered_holds_nothing around after script start run journal place lane name uid given next running asked answered =
    elim (subst (λ (events : List RunEvent). IsLet (record run { events = events }) place) (take_all (length run.events) run.events (omega arith)) (let_at around after script start run journal place lane name uid next running asked (length run.events) (omega arith))) [
      | inl none ↦ absurd (let k : None ≡ Some given = sym none ∙ answered in cc k)
      | inr holds ↦ holds
    ]
