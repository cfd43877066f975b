-- How the seats are knows_both to one, and what that one knows in the end.
use Rattle.std.proofs.Common.{◌≡◌, ℕ, ◌+◌, List, [], ◌∷◌, ◌++◌, All, Bool, Option, Some, None, sym, refl, ap, ◌∙◌, subst, arith, length, MatchOption, sum_by}
use Rattle.std.proofs.lemmas.List.Elements.{All-pop, All-push, All-nil}
use Rattle.std.specs.Option.{option_to_list}
use mathlib.Core.Option.{none, some}
use lib.ListN.{get_elem?}
use Rattle.atomic_table.specs.Table.{Me, Joins, Seen, Final}
use Rattle.atomic_table.specs.Seated.{TableId}
use Rattle.turn_lock.specs.declared.place.Known.{Known}
use Rattle.turn_lock.specs.declared.place.Place.{Place}
use Rattle.turn_lock.specs.declared.place.Place.TheVariants.{Free, Spent}
use Rattle.turn_lock.specs.LockRule.{Tells, StartsWith, StartsWithEach, IsInTurns, parts_at}
use Rattle.turn_lock.specs.LockSteps.{joined, knows_both}
use Rattle.turn_lock.specs.Seats.{IsFreeOf, IsUnder, KnowsAt, Knows, seen_at_place, seen_by, parts_with}
use Rattle.turn_lock.specs.declared.lock.TurnSeat.{TurnSeat}
use Rattle.std.proofs.lemmas.List.Sums.{sum_by_push}
use Rattle.turn_lock.proofs.SeatLemmas.{joining_keeps, closing_finds}

pub none_left : {X : Type 0} → (xs : List X) (r : Option X) (n m : ℕ) (P : X → Type 0) → n ≡ length xs → r ≡ None → MatchOption r ((n ≡ 0) × (m ≡ 0)) P → xs ≡ []
none_left [] r n m P len is h = refl
none_left {X} (x ∷ xs) r n m P len is h = let h' : MatchOption None ((n ≡ 0) × (m ≡ 0)) P = subst (λ (o : Option X). MatchOption o ((n ≡ 0) × (m ≡ 0)) P) is h in let z = h'.0 in absurd (omega arith)

module _ {W C : Type 0} (tells : Tells W C) (key : W) where
  pub joins_keep : (id other : ℕ) (m n : Me (Option W) (Place C)) (k l : Known C) → m ≡ (Free k, []) → n ≡ (Free l, []) → Joins (IsInTurns tells key) id m.0 other n.0 (joined m.0 n.0) Spent
  joins_keep id other m n k l e g = subst (λ (x : Me (Option W) (Place C)). Joins (IsInTurns tells key) id x.0 other n.0 (joined x.0 n.0) Spent) (sym e)
      (subst (λ (x : Me (Option W) (Place C)). Joins (IsInTurns tells key) id (Free k) other x.0 (joined (Free k) x.0) Spent) (sym g) (joining_keeps tells key id other k l))

module _ {W C : Type 0} where
  abbrev pub AllSeen : List ℕ → List (TurnSeat W C) → Type 0
  AllSeen trace xs = All (λ s. StartsWith trace (seen_by s)) xs

  abbrev pub AllUnder : C → Bool → List (TurnSeat W C) → Type 0
  AllUnder charter finished xs = All (IsUnder charter finished) xs

  -- one seat, at the place m, was told of all seats but those that are left
  pub record Collected (lock : TableId) (seats left : List (TurnSeat W C)) (m : Me (Option W) (Place C)) : Type 0 where
    pub known : Known C
    pub place : m ≡ (Free known, [])
    pub free : All (IsFreeOf lock) left
    pub parts : known.parts + sum_by parts_with left ≡ 64
    pub seen : (trace : List ℕ) → StartsWithEach trace (known.seen ∷ known.told) → AllSeen trace left → AllSeen trace seats
    pub under : (charter : C) (finished : Bool) → AllUnder charter finished seats → AllUnder charter finished left × Knows charter finished known

  known_parts : (m : Me (Option W) (Place C)) (k : Known C) → m ≡ (Free k, []) → parts_at m.0 ≡ k.parts
  known_parts m k e = ap (λ (x : Me (Option W) (Place C)). parts_at x.0) e

  starts_with : (m : Me (Option W) (Place C)) (k : Known C) (trace : List ℕ) → m ≡ (Free k, []) → StartsWith trace k.seen → StartsWith trace (seen_at_place m.0)
  starts_with m k trace e h = subst (λ (x : Me (Option W) (Place C)). StartsWith trace (seen_at_place x.0)) (sym e) h

  is_known : (m : Me (Option W) (Place C)) (k : Known C) (charter : C) (finished : Bool) → m ≡ (Free k, []) → KnowsAt charter finished m.0 → Knows charter finished k
  is_known m k charter finished e h = subst (λ (x : Me (Option W) (Place C)). KnowsAt charter finished x.0) e h

  pub first_collected : (lock : TableId) (seats left : List (TurnSeat W C)) (last : TurnSeat W C) (r : Option (TurnSeat W C)) → r ≡ Some last → seats ≡ left ++ option_to_list r → All (IsFreeOf lock) seats
      → sum_by parts_with seats ≡ 64 → Collected lock seats left last.seat.me
  first_collected lock seats left last r is e free whole =
      let e' : seats ≡ left ++ option_to_list (Some last) = subst (λ (o : Option (TurnSeat W C)). seats ≡ left ++ option_to_list o) is e in
      let f = All-pop (IsFreeOf lock) seats left (Some last) e' free in
      let k = f.1.1.0 in
      let sum = sum_by_push parts_with left last in
      let one = known_parts last.seat.me k f.1.1.1 in
      let whole' : sum_by parts_with (left ++ last ∷ []) ≡ 64 = ap (sum_by parts_with) (sym e') ∙ whole in
      record {
        known = k;
        place = f.1.1.1;
        free = f.0;
        parts = omega arith;
        seen = (λ trace b all. subst (AllSeen trace) (sym e') (All-push (λ s. StartsWith trace (seen_by s)) left last all (starts_with last.seat.me k trace f.1.1.1 b.0)));
        under = (λ charter finished all. let u = All-pop (IsUnder charter finished) seats left (Some last) e' all in (u.0, is_known last.seat.me k charter finished f.1.1.1 u.1));
      }

  pub last_is_free : (lock : TableId) (seats left : List (TurnSeat W C)) (last : TurnSeat W C) (r : Option (TurnSeat W C)) → r ≡ Some last → seats ≡ left ++ option_to_list r → All (IsFreeOf lock) seats → IsFreeOf lock last
  last_is_free lock seats left last r is e free =
      let e' : seats ≡ left ++ option_to_list (Some last) = subst (λ (o : Option (TurnSeat W C)). seats ≡ left ++ option_to_list o) is e in
      (All-pop (IsFreeOf lock) seats left (Some last) e' free).1

  pub more_collected : (lock : TableId) (seats left left' : List (TurnSeat W C)) (next : TurnSeat W C) (r : Option (TurnSeat W C)) (m m' : Me (Option W) (Place C)) → r ≡ Some next → left ≡ left' ++ option_to_list r
      → m' ≡ (joined m.0 next.seat.me.0, m.1) → Collected lock seats left m → Collected lock seats left' m'
  more_collected lock seats left left' next r m m' is e now old =
      let e' : left ≡ left' ++ option_to_list (Some next) = subst (λ (o : Option (TurnSeat W C)). left ≡ left' ++ option_to_list o) is e in
      let f = All-pop (IsFreeOf lock) left left' (Some next) e' old.free in
      let k = f.1.1.0 in
      let sum = sum_by_push parts_with left' next in
      let one = known_parts next.seat.me k f.1.1.1 in
      let more : sum_by parts_with left ≡ sum_by parts_with (left' ++ next ∷ []) = ap (sum_by parts_with) e' in
      let whole = old.parts in
      record {
        known = knows_both old.known k;
        place = now ∙ ap (λ (x : Me (Option W) (Place C)). (joined x.0 next.seat.me.0, x.1)) old.place ∙ ap (λ (x : Me (Option W) (Place C)). (joined (Free old.known) x.0, [])) f.1.1.1;
        free = f.0;
        parts = omega arith;
        seen = (λ trace b all. old.seen trace (b.0, b.1.1) (subst (AllSeen trace) (sym e') (All-push (λ s. StartsWith trace (seen_by s)) left' next all (starts_with next.seat.me k trace f.1.1.1 b.1.0))));
        under = (λ charter finished all. let o = old.under charter finished all in let u = All-pop (IsUnder charter finished) left left' (Some next) e' o.0 in (u.0, o.1));
      }

  module _ (tells : Tells W C) (key : W) where
    -- with all seats knows_both, the world is in the slot
    pub world_home : (lock : TableId) (seats left : List (TurnSeat W C)) (m : Me (Option W) (Place C)) (id : ℕ) (ws : List ℕ) (xs : List (Option W)) (x : Option W) → left ≡ [] → Collected lock seats left m
        → Final (Seen (IsInTurns tells key) id m.0) ws xs → get_elem? xs 0 ≡ some x
        → (w : W) × (x ≡ Some w) × ((charter : C) (finished : Bool) → AllUnder charter finished seats → (tells.charter w ≡ charter) × (tells.finished w ≡ finished)) × AllSeen (tells.trace w) seats
    world_home lock seats left m id ws xs x none_left c final at =
        let k = c.known in
        let sum : sum_by parts_with left ≡ 0 = ap (sum_by parts_with) none_left in
        let p = c.parts in
        let h = closing_finds tells key id k ws xs (omega arith) (subst (λ (y : Me (Option W) (Place C)). Final (Seen (IsInTurns tells key) id y.0) ws xs) c.place final) in (
          h.0,
          mathlib.Core.Option.some-injective x (Some h.0) (sym at ∙ h.1),
          (λ charter finished all. let u = (c.under charter finished all).1 in (h.2.0 ∙ sym u.0, h.2.1 ∙ sym u.1)),
          c.seen (tells.trace h.0) h.3 (subst (AllSeen (tells.trace h.0)) (sym none_left) (All-nil (λ s. StartsWith (tells.trace h.0) (seen_by s)))),
        )
