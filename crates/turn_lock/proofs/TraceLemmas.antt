-- Traces that go on from what was seen.
use Rattle.std.proofs.Common.{ℕ, List, [], ◌∷◌, ◌++◌, sym, ap, ◌∙◌, append_assoc, append-nil, ⊎_elim}
use Rattle.turn_lock.specs.LockRule.{StartsWith, StartsWithEach}
use Rattle.turn_lock.specs.Seats.{IsOneTurnAtMost}

pub starts_with_itself : (trace : List ℕ) → StartsWith trace trace
starts_with_itself trace = ([], sym (append-nil trace))

pub starts_along : (a b c : List ℕ) → StartsWith a b → StartsWith b c → StartsWith a c
starts_along a b c (r, e) (q, g) = (q ++ r, e ∙ ap (λ x. x ++ r) g ∙ append_assoc c q r)

pub starts_with_each_along : (a b : List ℕ) (xss : List (List ℕ)) → StartsWith a b → StartsWithEach b xss → StartsWithEach a xss
starts_with_each_along a b [] s h = tt
starts_with_each_along a b (xs ∷ xss) s h = (starts_along a b xs s h.0, starts_with_each_along a b xss s h.1)

pub one_turn_starts_with : (found trace : List ℕ) → IsOneTurnAtMost found trace → StartsWith trace found
one_turn_starts_with found trace h = ⊎_elim (λ same. ([], same ∙ sym (append-nil found))) (λ more. (more.0 ∷ [], more.1)) h
