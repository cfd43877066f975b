-- Where a make stands, and the part that comes next.
use Rattle.mail_ops.proofs.Common.{◌≡◌, ◌+◌, ◌==◌, ℕ, Bool, true, cond, List, [], ◌∷◌, ◌++◌, Some, None, refl, sym, ◌∙◌, ap, subst, inl, inr, arith, common_steps, nat_tests, ◌⊎◌, nat_le, eq-eqb, ne_eqb, Highest, Reply, MapMeaning, EventPart, First, Last, StartsOver, RunEvent, Run, and_then}
use Rattle.mail_ops.proofs.Common.{own_events, map_of, drawn_also, Around, next_part, own_other, IsKept, EndsInPart, MakeStage}
use Rattle.std.specs.Prelude.{fold}
use Rattle.mdbox_base.specs.declared.requests.Request.TheVariants as request
use Rattle.list_machine.specs.Run.{drawn_of}
use Rattle.journal.specs.Events.{behind_make, is_overtaken, number_drawn, number_of}
use Rattle.task_steps.proofs.SeenLemmas.{number_still}
use Rattle.mail_ops.proofs.LastEventLemmas.{ends_in, last_own, next_behind, unrefused_more, unrefused_still}
use Rattle.mail_ops.specs.MakeStages.{WasNotRefused, IsToMakeLog, HasMadeLog}
use Rattle.mail_ops.specs.Making.{IsAtMake}
use Rattle.mail_ops.specs.declared.making.MakeStage.TheVariants as stage

-- behind a row that ends in this part and in which none was refused
made_behind : (around : Around) (run : Run) (name : List ℕ) (place : ℕ) (said : List Reply) (part : EventPart) → WasNotRefused run place said → EndsInPart part (own_events place run) → next_part around run (request.Make name) (own_events place run) ≡ behind_make (is_overtaken run place) part
made_behind around run name place said part w e =
    next_behind around run (request.Make name) place part w.unrefused e
    ∙ (ap (λ (p : EventPart). behind_make (is_overtaken run e.last.request) p) e.part_is ∙ ap (λ (n : ℕ). behind_make (is_overtaken run n) part) (last_own place run part e))

pub first_next : (around : Around) (run : Run) (name : List ℕ) (place : ℕ) (said : List Reply) → IsToMakeLog run place said → next_part around run (request.Make name) (own_events place run) ≡ Some First
first_next around run name place said stood = by_case stood.1
  where
    by_case : (own_events place run ≡ []) ⊎ EndsInPart StartsOver (own_events place run) → next_part around run (request.Make name) (own_events place run) ≡ Some First
    by_case (inl none) = ap (λ (es : List RunEvent). next_part around run (request.Make name) es) none
    by_case (inr ends) = made_behind around run name place said StartsOver stood.0 ends

-- the part of the second event
abbrev pub naming_part : Bool → EventPart
naming_part overtaken = cond overtaken StartsOver Last

makes_on : (b : Bool) → behind_make b First ≡ Some (naming_part b)
makes_on b = grind (arith, common_steps, nat_tests)

pub naming_next : (around : Around) (run : Run) (name : List ℕ) (place : ℕ) (said : List Reply) (number : ℕ) (m : MapMeaning) → HasMadeLog number run place said → map_of run ≡ m → next_part around run (request.Make name) (own_events place run) ≡ Some (naming_part (nat_le number m.highest.mailbox))
naming_next around run name place said number m stood is =
    made_behind around run name place said First stood.0 stood.1
    ∙ (ap (λ (n : ℕ). behind_make (nat_le n (map_of run).highest.mailbox) First) stood.2 ∙ (ap (λ (k : MapMeaning). behind_make (nat_le number k.highest.mailbox) First) is ∙ makes_on (nat_le number m.highest.mailbox)))

-- ---- the number

drew_last : (request : ℕ) (event : RunEvent) → (event.request == request) ≡ true → event.drew.mailbox ≡ 1 → (events : List RunEvent) (last : ℕ) (d : Highest) → number_drawn request last d.mailbox (events ++ event ∷ []) ≡ (fold (λ drawn e. drawn_also drawn e.drew) d events).mailbox + 1
drew_last request event own one [] last d = rw (own, one) refl
drew_last request event own one (x ∷ xs) last d = drew_last request event own one xs _ (drawn_also d x.drew)

-- the event draws the next number, which is its request's then
pub draws_next : (run : Run) (event : RunEvent) (place : ℕ) → event.request ≡ place → event.drew.mailbox ≡ 1 → number_of (and_then run event) place ≡ (drawn_of run).mailbox + 1
draws_next run event place own one = drew_last place event (eq-eqb event.request place own) one run.events 0 run.opened

-- ---- behind an event of its own

pub makes_log_then : (run : Run) (event : RunEvent) (place : ℕ) (said : List Reply) (number : ℕ) → IsToMakeLog run place said → event.request ≡ place → event.part ≡ First → event.refused ≡ None → event.drew.mailbox ≡ 1 → number ≡ (drawn_of run).mailbox + 1 → HasMadeLog number (and_then run event) place said
makes_log_then run event place said number stood own part unrefused one next =
    (unrefused_more run event place said own unrefused stood.0, ends_in place run event First own part, draws_next run event place own one ∙ sym next)

pub starts_over_then : (run : Run) (event : RunEvent) (place : ℕ) (said : List Reply) (number : ℕ) → HasMadeLog number run place said → event.request ≡ place → event.part ≡ StartsOver → event.refused ≡ None → IsToMakeLog (and_then run event) place said
starts_over_then run event place said number stood own part unrefused =
    (unrefused_more run event place said own unrefused stood.0, inr (ends_in place run event StartsOver own part))

-- ---- as other requests go on

pub make_kept : (now : MakeStage) → IsKept (IsAtMake now)
make_kept stage.First = λ run place said event other new stood.
    let same = own_other place run event (ne_eqb event.request place other) in (
      unrefused_still run event place said same stood.0,
      subst (λ (own : List RunEvent). (own ≡ []) ⊎ EndsInPart StartsOver own) (sym same) stood.1,
    )
make_kept (stage.Naming number) = λ run place said event other new stood.
    let same = own_other place run event (ne_eqb event.request place other) in (
      unrefused_still run event place said same stood.0,
      subst (λ (own : List RunEvent). EndsInPart First own) (sym same) stood.1,
      number_still run event place other ∙ stood.2,
    )
