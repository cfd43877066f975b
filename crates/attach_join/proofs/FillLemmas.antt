-- Octets that are added at the end, up to a place.
use Rattle.std.specs.Prelude.{◌≡◌, ◌≤◌, ◌+◌, ◌++◌, ℕ, List, [], length, vec_capacity}
use Rattle.std.proofs.Common.{sym, ◌∙◌, ap, arith, append-nil, append_assoc, length-append}
use Rattle.std.specs.Global.{Vec}

-- octets were added, up to a place at the most
pub record IsFilling (old now : Vec ℕ) (end : ℕ) : Type 0 where
  pub added : (more : List ℕ) × (now.items ≡ old.items ++ more)
  pub most : length now.items ≤ end
  pub kept : vec_capacity old ≤ vec_capacity now

pub filling_begins : (old : Vec ℕ) (end : ℕ) → length old.items ≤ end → IsFilling old old end
filling_begins old end most = record { added = ([], sym (append-nil old.items)); most = most; kept = omega arith }

pub filling_goes_on : (old now next : Vec ℕ) (end : ℕ) (more : List ℕ) → IsFilling old now end → next.items ≡ now.items ++ more → length now.items + length more ≤ end → vec_capacity now ≤ vec_capacity next → IsFilling old next end
filling_goes_on old now next end more f is few room = record {
  added = (f.added.0 ++ more, is ∙ (ap (λ (xs : List ℕ). xs ++ more) f.added.1 ∙ append_assoc old.items f.added.0 more));
  most = let long = ap length is in let both = length-append now.items more in omega (arith, long, both, few);
  kept = let kept = f.kept in omega (arith, kept, room);
}
