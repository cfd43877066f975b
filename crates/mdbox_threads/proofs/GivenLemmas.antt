-- What the requests of a script are given, one after another.
use Rattle.std.specs.Prelude.{◌≡◌, ◌<◌, ◌+◌, ◌++◌, ℕ, List, [], ◌∷◌, get_or, length, take, Option}
use Rattle.std.proofs.Common.{sym, ◌∙◌, ap, subst}
use Rattle.std.proofs.lemmas.List.{take_more}
use Rattle.attach_detach.specs.declared.message.Prepared.{Prepared}
use Rattle.lanes.specs.Worlds.{AreGiven, HasItsMessage}
use Rattle.mdbox_base.specs.declared.requests.Request.{Request}

pub given_more : (requests : List (ℕ × Request)) (given : List (Option Prepared)) (asked : ℕ × Request) (one : Option Prepared) → AreGiven requests given → HasItsMessage asked.1 one → AreGiven (requests ++ asked ∷ []) (given ++ one ∷ [])
given_more [] [] asked one g h = (h, tt)
given_more [] (x ∷ rest) asked one g h = absurd g
given_more (x ∷ requests) [] asked one g h = absurd g
given_more (x ∷ requests) (y ∷ rest) asked one g h = (g.0, given_more requests rest asked one g.1 h)

-- one request more in a walk over them
pub given_next : (requests : List (ℕ × Request)) (given more : List (Option Prepared)) (k : ℕ) (asked : ℕ × Request) (one : Option Prepared) → k < length requests → asked ≡ get_or requests k asked → AreGiven (take k requests) given → HasItsMessage asked.1 one → more ≡ given ++ one ∷ [] → AreGiven (take (k + 1) requests) more
given_next requests given more k asked one lt is g h e =
    let next : take (k + 1) requests ≡ take k requests ++ asked ∷ [] = take_more requests k asked lt ∙ ap (λ (x : ℕ × Request). take k requests ++ x ∷ []) (sym is) in
    subst (λ (x : List (ℕ × Request)). AreGiven x more) (sym next) (subst (λ (x : List (Option Prepared)). AreGiven (take k requests ++ asked ∷ []) x) (sym e) (given_more (take k requests) given asked one g h))
