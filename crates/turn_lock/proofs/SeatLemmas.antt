-- The rule is kept where a seat is split or joined to another, and holds where a lock is made and closed.
use Rattle.std.proofs.Common.{◌≡◌, ◌⊎◌, ℕ, zero, suc, ◌+◌, ◌<◌, List, [], ◌∷◌, ◌++◌, set, sym, refl, ap, ◌∙◌, subst, ⊎_elim, inl, inr, arith, Option, Some, sum_by}
use Rattle.std.proofs.lemmas.List.Sums.{sum_by_push}
use mathlib.Core.Logic.{dite}
use mathlib.Core.Option.{some, some-injective, some-ne-none}
use native.Mathlib.Decide.{ℕ_discrete}
use lib.ListN.{get_elem?}
use Rattle.atomic_table.specs.Table.{Final, Splits, Joins, Seen, opening}
use Rattle.atomic_table.proofs.Lists.{at_longer, at_snoc, set_else}
use Rattle.turn_lock.specs.declared.place.Known.{Known}
use Rattle.turn_lock.specs.declared.place.Place.{Place}
use Rattle.turn_lock.specs.declared.place.Place.TheVariants.{Spent, Free}
use Rattle.turn_lock.specs.LockRule.{Tells, in_word, parts_at, tickets_at, HasTicket, IsAtTurn, Suits, first_seat, GoesOnFrom, IsSoundSeat, IsInTurns}
use Rattle.turn_lock.specs.LockSteps.{knows_both, one_part_less, one_part, joined}
use Rattle.turn_lock.proofs.PlaceLemmas.{apart_set, each_set, out_set}
use Rattle.turn_lock.proofs.SoundLemmas.{more_drawn, turn_parts, at_home}
use Rattle.turn_lock.proofs.SumLemmas.{sum_set, sum_of_two}
use Rattle.turn_lock.proofs.TraceLemmas.{starts_with_itself}

module _ {W C : Type 0} (tells : Tells W C) (key : W) where
  pub splitting_keeps : (id : ℕ) (k : Known C) → 0 < k.parts → Splits (IsInTurns tells key) id (Free k) (one_part_less (Free k)) (one_part (Free k))
  splitting_keeps id k some_part s r at =
      let p : Place C = one_part_less (Free k) in let n : Place C = one_part (Free k) in let l : List (Place C) = set s.views id p in let views : List (Place C) = l ++ n ∷ [] in
      let more = sum_set tickets_at s.views id (Free k) p at in
      let same = sum_set parts_at s.views id (Free k) p at in
      let more' = sum_by_push tickets_at l n in
      let same' = sum_by_push parts_at l n in
      let mine = r.each id (Free k) at in
      let drawn : ℕ = r.ended + sum_by tickets_at s.views in
      let t' : ℕ = r.ended + sum_by tickets_at views in
      let is : drawn ≡ t' = omega arith in
      let older : (j : ℕ) (q : Place C) → get_elem? views j ≡ some q → (get_elem? l j ≡ some q) ⊎ (n ≡ q) = λ j q e. at_snoc l n q j e in
      record {
        ended = r.ended;
        trace = r.trace;
        sleeping = r.sleeping;
        words = r.words ∙ ap (λ (x : ℕ). in_word x ∷ in_word r.ended ∷ r.sleeping) is;
        whole = (let x = r.whole in omega arith);
        slot = ⊎_elim inl (λ o. let o' = out_set s.homes s.views id (Free k) p at (λ h. h) o in inr (o'.0, (o'.1.0, o'.1.1, at_longer l (n ∷ []) o'.1.0 o'.1.1 o'.1.2, o'.1.3))) r.slot;
        each = (λ j q e. ⊎_elim
            (λ a. each_set (IsSoundSeat tells key r.ended t' r.trace) s.views id p (λ i u ne g. more_drawn tells key u r.ended drawn t' r.trace (omega arith) (r.each i u g)) mine j q a)
            (λ b. subst (IsSoundSeat tells key r.ended t' r.trace) b mine) (older j q e));
        apart = (λ i j t a b e g h x. ⊎_elim
            (λ a1. ⊎_elim (λ b1. apart_set s.views id p r.apart (λ _ _ _ _ _ y _. y) i j t a b a1 b1 h x) (λ b2. absurd (subst (HasTicket t) (sym b2) x)) (older j b g))
            (λ a2. absurd (subst (HasTicket t) (sym a2) h)) (older i a e));
      }

  pub joining_keeps : (id other : ℕ) (k l : Known C) → Joins (IsInTurns tells key) id (Free k) other (Free l) (joined (Free k) (Free l)) Spent
  joining_keeps id other k l s r at ne at' =
      let p : Place C = Free (knows_both k l) in let views : List (Place C) = set s.views id p in let last : List (Place C) = set views other Spent in
      let at'' : get_elem? s.views other ≡ some (Free l) = sym (set_else s.views id other p ne) ∙ at' in
      let more = sum_set tickets_at s.views id (Free k) p at in
      let same = sum_set parts_at s.views id (Free k) p at in
      let more' = sum_set tickets_at views other (Free l) Spent at' in
      let same' = sum_set parts_at views other (Free l) Spent at' in
      let mine = r.each id (Free k) at in let theirs = r.each other (Free l) at'' in
      let drawn : ℕ = r.ended + sum_by tickets_at s.views in
      let t' : ℕ = r.ended + sum_by tickets_at last in
      let is : drawn ≡ t' = omega arith in
      record {
        ended = r.ended;
        trace = r.trace;
        sleeping = r.sleeping;
        words = r.words ∙ ap (λ (x : ℕ). in_word x ∷ in_word r.ended ∷ r.sleeping) is;
        whole = (let x = r.whole in omega arith);
        slot = ⊎_elim inl (λ o. inr (out_set s.homes views other (Free l) Spent at' (λ h. h) (out_set s.homes s.views id (Free k) p at (λ h. h) o))) r.slot;
        each = each_set (IsSoundSeat tells key r.ended t' r.trace) views other Spent
            (λ j q _ e. each_set (IsSoundSeat tells key r.ended t' r.trace) s.views id p (λ i u _ g. more_drawn tells key u r.ended drawn t' r.trace (omega arith) (r.each i u g)) (mine.0, (mine.1.0, (theirs.1.0, mine.1.1))) j q e) tt;
        apart = apart_set views other Spent (apart_set s.views id p r.apart (λ _ _ _ _ _ y _. y)) (λ _ _ _ _ _ y _. y);
      }

  pub opening_keeps : (more : List ℕ) → IsInTurns tells key (opening (0 ∷ 0 ∷ more) (Some key ∷ []) (first_seat tells key))
  opening_keeps more = record {
    ended = 0;
    trace = tells.trace key;
    sleeping = more;
    words = refl;
    whole = refl;
    slot = inl (key, refl, refl, refl, refl);
    each = (λ j q e. each_first j q e);
    apart = (λ i j t p q e g h x. absurd (none_first i t p e h));
  } where
    each_first : (j : ℕ) (q : Place C) → get_elem? (first_seat tells key ∷ []) j ≡ some q → IsSoundSeat tells key 0 0 (tells.trace key) q
    each_first zero q e = subst (IsSoundSeat tells key 0 0 (tells.trace key)) (some-injective _ _ e) ((refl, refl), (starts_with_itself (tells.trace key), tt))
    each_first (suc j) q e = absurd (some-ne-none q (sym e))

    none_first : (i t : ℕ) (p : Place C) → get_elem? (first_seat tells key ∷ []) i ≡ some p → HasTicket t p → ⊥
    none_first zero t p e h = subst (HasTicket t) (sym (some-injective _ _ e)) h
    none_first (suc i) t p e h = absurd (some-ne-none p (sym e))

  -- a seat with all parts finds the world at home
  pub closing_finds : (id : ℕ) (k : Known C) (ws : List ℕ) (xs : List (Option W)) → k.parts ≡ 64 → Final (Seen (IsInTurns tells key) id (Free k)) ws xs
      → (w : W) × (get_elem? xs 0 ≡ some (Some w)) × Suits tells w k × GoesOnFrom (tells.trace w) k
  closing_finds id k ws xs all (s, (r, at), words, wide, kept) =
      let mine = r.each id (Free k) at in
      let home = at_home tells key s r (λ j q e turn. dite (ℕ_discrete j id)
      (λ here. subst IsAtTurn (some-injective q (Free k) (sym e ∙ ap (get_elem? s.views) here ∙ at)) turn)
      (λ ne. let x = sum_of_two parts_at s.views id j (Free k) q ne at e in let y = turn_parts tells key q r.ended (r.ended + sum_by tickets_at s.views) r.trace (r.each j q e) turn in let z = r.whole in omega arith)) in
      (home.0, kept 0 (Some home.0) (ap (λ hs. get_elem? hs 0) home.1), (home.2 ∙ mine.0.0, home.3 ∙ mine.0.1), subst (λ x. GoesOnFrom x k) (sym home.4) mine.1)
