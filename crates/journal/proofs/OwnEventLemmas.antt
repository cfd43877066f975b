-- The events of one request in a run that grows.
use Rattle.std.specs.Prelude.{◌≡◌, ◌==◌, ℕ, Bool, true, false, cond, List, [], ◌∷◌, ◌++◌, filter}
use Rattle.std.proofs.Common.{◌∙◌, ap}
use Rattle.std.proofs.lemmas.List.{append-nil}
use Rattle.std.proofs.lemmas.List.Elements.{filter-append}
use Rattle.list_machine.specs.Run.{RunEvent, Run, and_then, own_events}

one_kept : {X : Type 0} → (p : X → Bool) (x : X) (b : Bool) → p x ≡ b → filter p (x ∷ []) ≡ cond b (x ∷ []) []
one_kept p x b e = ap (λ (c : Bool). cond c (x ∷ []) []) e

pub own_more : (place : ℕ) (run : Run) (event : RunEvent) → (event.request == place) ≡ true → own_events place (and_then run event) ≡ own_events place run ++ event ∷ []
own_more place run event e =
    filter-append (λ (x : RunEvent). x.request == place) run.events (event ∷ []) ∙ ap (λ (l : List RunEvent). own_events place run ++ l) (one_kept (λ (x : RunEvent). x.request == place) event true e)

pub own_other : (place : ℕ) (run : Run) (event : RunEvent) → (event.request == place) ≡ false → own_events place (and_then run event) ≡ own_events place run
own_other place run event e =
    (filter-append (λ (x : RunEvent). x.request == place) run.events (event ∷ []) ∙ ap (λ (l : List RunEvent). own_events place run ++ l) (one_kept (λ (x : RunEvent). x.request == place) event false e))
    ∙ append-nil (own_events place run)
