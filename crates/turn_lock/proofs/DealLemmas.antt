-- How the first seat is split into as many as there are to be.
use Rattle.std.proofs.Common.{◌≡◌, ℕ, ◌+◌, ◌-◌, ◌<◌, List, [], ◌∷◌, ◌++◌, All, length, sym, refl, ap, ◌∙◌, subst, arith, length-append, Option, Some, sum_by}
use Rattle.std.proofs.lemmas.List.Elements.{All-push, All-nil, All-weaker}
use Rattle.atomic_table.specs.Table.{Me, Splits, opening}
use Rattle.atomic_table.specs.Seated.{TableId}
use Rattle.atomic_table.specs.declared.shared.Seat.{Seat}
use Rattle.turn_lock.specs.declared.place.Known.{Known}
use Rattle.turn_lock.specs.declared.place.Place.{Place}
use Rattle.turn_lock.specs.declared.place.Place.TheVariants.{Free}
use Rattle.turn_lock.specs.LockRule.{Tells, IsInTurns, parts_at, first_seat}
use Rattle.turn_lock.specs.LockSteps.{one_part_less, one_part, with_parts}
use Rattle.turn_lock.specs.Seats.{IsFreeOf, IsUnder, KnowsAt, Knows, seen_at_place, seen_by, parts_with}
use Rattle.turn_lock.specs.declared.lock.TurnSeat.{TurnSeat}
use Rattle.std.proofs.lemmas.List.Sums.{sum_by_push}
use Rattle.turn_lock.proofs.SeatLemmas.{splitting_keeps, opening_keeps}

module _ {W C : Type 0} (tells : Tells W C) (key : W) where
  pub splits_keep : (id : ℕ) (m : Me (Option W) (Place C)) (k : Known C) → m ≡ (Free k, []) → 0 < k.parts → Splits (IsInTurns tells key) id m.0 (one_part_less m.0) (one_part m.0)
  splits_keep id m k e some_part = subst (λ (x : Me (Option W) (Place C)). Splits (IsInTurns tells key) id x.0 (one_part_less x.0) (one_part x.0)) (sym e) (splitting_keeps tells key id k some_part)

module _ {W C : Type 0} (tells : Tells W C) (world : W) where
  abbrev pub IsNew : TableId → TurnSeat W C → Type 0
  IsNew lock s = IsFreeOf lock s × IsUnder (tells.charter world) (tells.finished world) s × (seen_by s ≡ tells.trace world)

  pub record Dealt (lock : TableId) (seats : List (TurnSeat W C)) (first : Seat (Option W) (Place C)) : Type 0 where
    pub known : Known C
    pub id : first.table_id ≡ lock
    pub place : first.me ≡ (Free known, [])
    pub parts : known.parts + length seats ≡ 64
    pub sum : sum_by parts_with seats ≡ length seats
    pub under : Knows (tells.charter world) (tells.finished world) known
    pub seen : known.seen ≡ tells.trace world
    pub each : All (IsNew lock) seats

  is_new : (lock : TableId) (s : TurnSeat W C) (k : Known C) → s.seat.table_id ≡ lock → s.seat.me ≡ (Free k, []) → 0 < k.parts → Knows (tells.charter world) (tells.finished world) k → k.seen ≡ tells.trace world → IsNew lock s
  is_new lock s k id place some_part under seen = (
    (id, (k, place, some_part)),
    subst (λ (x : Me (Option W) (Place C)). KnowsAt (tells.charter world) (tells.finished world) x.0) (sym place) under,
    ap (λ (x : Me (Option W) (Place C)). seen_at_place x.0) place ∙ seen,
  )

  pub none_dealt : (lock : TableId) (seats : List (TurnSeat W C)) (first : Seat (Option W) (Place C)) → seats ≡ [] → first.table_id ≡ lock → first.me ≡ (first_seat tells world, []) → Dealt lock seats first
  none_dealt lock seats first none id place =
      let len : length seats ≡ 0 = ap length none in
      let sum : sum_by parts_with seats ≡ 0 = ap (sum_by parts_with) none in
      record {
        known = record { charter = tells.charter world; finished = tells.finished world; parts = 64; seen = tells.trace world; told = [] };
        id = id;
        place = place;
        parts = omega arith;
        sum = omega arith;
        under = (refl, refl);
        seen = refl;
        each = subst (All (IsNew lock)) (sym none) (All-nil (IsNew lock));
      }

  pub one_dealt : (lock : TableId) (seats seats' : List (TurnSeat W C)) (first first' : Seat (Option W) (Place C)) (new : TurnSeat W C) → Dealt lock seats first → length seats < 63 → seats' ≡ seats ++ new ∷ []
      → first'.table_id ≡ first.table_id → first'.me ≡ (one_part_less first.me.0, first.me.1) → new.seat.table_id ≡ first.table_id → new.seat.me ≡ (one_part first.me.0, []) → Dealt lock seats' first'
  one_dealt lock seats seats' first first' new d room more same left id right =
      let k = d.known in
      let place : new.seat.me ≡ (Free (with_parts 1 k), []) = right ∙ ap (λ (x : Me (Option W) (Place C)). (one_part x.0, [])) d.place in
      let n = is_new lock new (with_parts 1 k) (id ∙ d.id) place (omega arith) d.under d.seen in
      let p = d.parts in let s = d.sum in
      let len : length seats' ≡ length seats + 1 = ap length more ∙ length-append seats (new ∷ []) in
      let one : parts_with new ≡ 1 = ap (λ (x : Me (Option W) (Place C)). parts_at x.0) place in
      let sum : sum_by parts_with seats' ≡ sum_by parts_with seats + parts_with new = ap (sum_by parts_with) more ∙ sum_by_push parts_with seats new in
      record {
        known = with_parts (k.parts - 1) k;
        id = same ∙ d.id;
        place = left ∙ ap (λ (x : Me (Option W) (Place C)). (one_part_less x.0, x.1)) d.place;
        parts = omega arith;
        sum = omega arith;
        under = d.under;
        seen = d.seen;
        each = subst (All (IsNew lock)) (sym more) (All-push (IsNew lock) seats new d.each n);
      }

  pub all_dealt : (lock : TableId) (seats seats' : List (TurnSeat W C)) (new : TurnSeat W C) → Dealt lock seats new.seat → length seats < 64 → seats' ≡ seats ++ new ∷ []
      → All (IsFreeOf lock) seats' × (sum_by parts_with seats' ≡ 64)
      × All (IsUnder (tells.charter world) (tells.finished world)) seats' × All (λ s. seen_by s ≡ tells.trace world) seats'
  all_dealt lock seats seats' new d room more =
      let p = d.parts in let s = d.sum in
      let n = is_new lock new d.known d.id d.place (omega arith) d.under d.seen in
      let one : parts_with new ≡ d.known.parts = ap (λ (x : Me (Option W) (Place C)). parts_at x.0) d.place in
      let sum : sum_by parts_with seats' ≡ sum_by parts_with seats + parts_with new = ap (sum_by parts_with) more ∙ sum_by_push parts_with seats new in
      let each = subst (All (IsNew lock)) (sym more) (All-push (IsNew lock) seats new d.each n) in (
        All-weaker (IsNew lock) (IsFreeOf lock) (λ s h. h.0) seats' each,
        omega arith,
        All-weaker (IsNew lock) (IsUnder (tells.charter world) (tells.finished world)) (λ s h. h.1) seats' each,
        All-weaker (IsNew lock) (λ s. seen_by s ≡ tells.trace world) (λ s h. h.2) seats' each,
      )

module _ {W C : Type 0} (tells : Tells W C) where
  pub opens_keep : (more : List ℕ) (key world : W) (xs : List (Option W)) → key ≡ world → xs ≡ Some world ∷ [] → IsInTurns tells key (opening (0 ∷ 0 ∷ more) xs (first_seat tells key))
  opens_keep more key world xs same is = subst (λ (ys : List (Option W)). IsInTurns tells key (opening (0 ∷ 0 ∷ more) ys (first_seat tells key))) (ap (λ (w : W). Some w ∷ []) same ∙ sym is) (opening_keeps tells key more)
