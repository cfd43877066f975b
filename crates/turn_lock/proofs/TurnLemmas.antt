-- Each step of a turn keeps the rule.
use Rattle.std.proofs.Common.{◌≡◌, ◌≢◌, ℕ, zero, suc, ◌+◌, ◌<◌, ◌≤◌, List, [], ◌∷◌, get_or, set, sym, refl, ap, ◌∙◌, subst, ⊎_elim, inl, inr, arith, Option, Some, sum_by}
use mathlib.Core.Logic.{dite}
use mathlib.Core.Option.{none, some, some-injective}
use native.Mathlib.Decide.{ℕ_discrete}
use lib.ListN.{get_elem?}
use Rattle.atomic_table.specs.Table.{State, Me, step, Act, Valid, keeps, takes, gives, chain, stepped, carried_after, Allows}
use Rattle.atomic_table.proofs.Lists.{one_turn, set_again}
use Rattle.turn_lock.specs.declared.place.Known.{Known}
use Rattle.turn_lock.specs.declared.place.Place.{Place}
use Rattle.turn_lock.specs.declared.place.Place.TheVariants.{Free, Waits, HasTurn}
use Rattle.turn_lock.specs.LockRule.{StartsWith, Tells, in_word, parts_at, tickets_at, IsAtTurn, Suits, GoesOnFrom, IsSoundSeat, HasWorld, IsInTurns}
use Rattle.turn_lock.specs.LockSteps.{having_seen, draws_ticket, looks_for_turn, goes_on, ends_turn, calls_next}
use Rattle.turn_lock.proofs.PlaceLemmas.{apart_set, each_set, out_set}
use Rattle.turn_lock.proofs.SoundLemmas.{more_drawn, more_ended, more_seen, below_drawn, few, some_out, turn_ticket, at_home}
use Rattle.turn_lock.proofs.SumLemmas.{sum_set, set_there}
use Rattle.turn_lock.proofs.TraceLemmas.{starts_with_each_along, starts_with_itself}

module _ {W C : Type 0} (tells : Tells W C) (key : W) where
  pub drawing_keeps : (slots id : ℕ) (k : Known C) (c : List (ℕ × Option W)) → 0 < k.parts
      → Allows (IsInTurns tells key) slots id (Free k, c) 0 (λ n. in_word (n + 1)) (draws_ticket (step slots 0 1 0 none) (Free k, c))
  drawing_keeps slots id k c some_part s r _ at _ =
      let t : ℕ = r.ended + sum_by tickets_at s.views in let p : Place C = Waits k t in
      let more = sum_set tickets_at s.views id (Free k) p at in
      let same = sum_set parts_at s.views id (Free k) p at in
      let mine = r.each id (Free k) at in
      let t' : ℕ = r.ended + sum_by tickets_at (set s.views id p) in
      let one : t' ≡ t + 1 = omega arith in (
        p,
        keeps,
        tt,
        record {
          ended = r.ended;
          trace = r.trace;
          sleeping = r.sleeping;
          words = ap (λ ws. set ws 0 (in_word (get_or ws 0 0 + 1))) r.words ∙ ap (λ (n : ℕ). n ∷ in_word r.ended ∷ r.sleeping) (let go : in_word (in_word t + 1) ≡ in_word t' = omega arith in go);
          whole = (let w = r.whole in omega arith);
          slot = ⊎_elim inl (λ o. inr (out_set s.homes s.views id (Free k) p at (λ h. h) o)) r.slot;
          each = each_set (IsSoundSeat tells key r.ended t' r.trace) s.views id p (λ j q ne e. more_drawn tells key q r.ended t t' r.trace (omega arith) (r.each j q e))
              (mine.0, mine.1, some_part, omega arith, omega arith);
          apart = apart_set s.views id p r.apart (λ j u q ne e h g. let b : u < t = below_drawn tells key q r.ended t u r.trace (let x = some_out tells key s j u q e g in omega arith) (r.each j q e) g in let is : t ≡ u = h in omega arith);
        },
        (t, ap (λ ws. get_or ws 0 0) r.words, refl),
      )

  -- where the turn has come, the slot is at home
  looks_hit : (slots id : ℕ) (k : Known C) (t : ℕ) (c : List (ℕ × Option W)) (s : State (Option W) (Place C)) (r : IsInTurns tells key s) → get_elem? s.views id ≡ some (Waits k t) → t ≡ r.ended
      → HasWorld tells key r.trace s.homes
      → (w : Place C) × (a : Act (Option W)) × Valid s.homes c a × IsInTurns tells key (stepped s 1 (get_or s.words 1 0) id c w a)
      × looks_for_turn tells (step slots 1 0 0 none) (Waits k t, c) (get_or s.words 1 0) (w, carried_after c a)
  looks_hit slots id k t c s r at is (w, home, charter, finished, trace) =
      let p : Place C = HasTurn k t (tells.trace w) in
      let more = sum_set tickets_at s.views id (Waits k t) p at in
      let same = sum_set parts_at s.views id (Waits k t) p at in
      let mine = r.each id (Waits k t) at in
      let t' : ℕ = r.ended + sum_by tickets_at (set s.views id p) in
      let drawn : ℕ = r.ended + sum_by tickets_at s.views in
      let found : get_or s.words 1 0 ≡ in_word r.ended = ap (λ ws. get_or ws 1 0) r.words in (
        p,
        takes 0 (Some w),
        ap (λ hs. get_elem? hs 0) home,
        record {
          ended = r.ended;
          trace = r.trace;
          sleeping = r.sleeping;
          words = ap (λ ws. set ws 1 (get_or ws 1 0)) r.words ∙ ap (λ (n : ℕ). in_word n ∷ in_word r.ended ∷ r.sleeping) (let go : drawn ≡ t' = omega arith in go);
          whole = (let x = r.whole in omega arith);
          slot = inr (ap (λ hs. set hs 0 none) home, (id, p, set_there s.views id (Waits k t) p at, tt));
          each = each_set (IsSoundSeat tells key r.ended t' r.trace) s.views id p (λ j q ne e. more_drawn tells key q r.ended drawn t' r.trace (omega arith) (r.each j q e))
              (mine.0, mine.1, mine.2, is, trace);
          apart = apart_set s.views id p r.apart (λ j u q ne e h g. ne (sym (r.apart id j u (Waits k t) q at e h g)));
        },
        ((λ ne. absurd (ne (found ∙ ap (λ (n : ℕ). in_word n) (sym is)))), λ e. (w, refl, (charter ∙ mine.0.0, finished ∙ mine.0.1), subst (λ x. GoesOnFrom x k) (sym trace) mine.1)),
      )

  pub looking_keeps : (slots id : ℕ) (k : Known C) (t : ℕ) (c : List (ℕ × Option W)) → Allows (IsInTurns tells key) slots id (Waits k t, c) 1 (λ n. n) (looks_for_turn tells (step slots 1 0 0 none) (Waits k t, c))
  looking_keeps slots id k t c s r _ at _ =
      let mine = r.each id (Waits k t) at in
      let found : get_or s.words 1 0 ≡ in_word r.ended = ap (λ ws. get_or ws 1 0) r.words in
      dite (ℕ_discrete t r.ended)
      (λ is. looks_hit slots id k t c s r at is (at_home tells key s r (λ j q e turn.
      let here : id ≡ j = r.apart id j r.ended (Waits k t) q at e is (turn_ticket tells key q r.ended (r.ended + sum_by tickets_at s.views) r.trace (r.each j q e) turn) in
      subst IsAtTurn (some-injective q (Waits k t) (sym e ∙ ap (get_elem? s.views) (sym here) ∙ at)) turn)))
      (λ not.
      let all = few tells key s r in let low = mine.3 in let high = mine.4 in
      let apart : (get_or s.words 1 0) ≢ in_word t = λ e. not (sym (one_turn r.ended t 18446744073709551616 low (omega arith) (sym found ∙ e))) in
      let back : set s.views id (Waits k t) ≡ s.views = set_again s.views id (Waits k t) at in (
        Waits k t,
        keeps,
        tt,
        subst (λ (x : List ℕ × List (Place C)). IsInTurns tells key record { words = x.0; homes = s.homes; views = x.1 }) (λ i. (sym (ap (λ ws. set ws 1 (get_or ws 1 0)) r.words ∙ sym r.words) i, sym back i)) r,
        ((λ _. refl), λ e. absurd (apart e)),
      ))

  pub ending_keeps : (slots id : ℕ) (k : Known C) (t : ℕ) (found : List ℕ) (w : W) → Suits tells w k → StartsWith (tells.trace w) found
      → Allows (IsInTurns tells key) slots id (HasTurn k t found, (0, Some w) ∷ []) 1 (λ n. in_word (n + 1)) (ends_turn tells (step slots 1 1 0 none) (HasTurn k t found, (0, Some w) ∷ []))
  ending_keeps slots id k t found w suits longer s r _ at _ =
      let mine = r.each id (HasTurn k t found) at in
      let p : Place C = Free (having_seen (tells.trace w) k) in
      let more = sum_set tickets_at s.views id (HasTurn k t found) p at in
      let same = sum_set parts_at s.views id (HasTurn k t found) p at in
      let t' : ℕ = (r.ended + 1) + sum_by tickets_at (set s.views id p) in
      let drawn : ℕ = r.ended + sum_by tickets_at s.views in
      let now' : List ℕ = tells.trace w in
      let along : StartsWith now' r.trace = subst (StartsWith now') mine.4 longer in (
        p,
        gives,
        tt,
        record {
          ended = r.ended + 1;
          trace = now';
          sleeping = r.sleeping;
          words = ap (λ ws. set ws 1 (in_word (get_or ws 1 0 + 1))) r.words
              ∙ (λ i. (let go : in_word drawn ≡ in_word t' = omega arith in go) i ∷ (let go : in_word (in_word r.ended + 1) ≡ in_word (r.ended + 1) = omega arith in go) i ∷ r.sleeping);
          whole = (let x = r.whole in omega arith);
          slot = inl (w, ⊎_elim (λ h. ap (λ hs. set hs 0 (some (Some w))) h.1) (λ o. ap (λ hs. set hs 0 (some (Some w))) o.0) r.slot, suits.0 ∙ sym mine.0.0, suits.1 ∙ sym mine.0.1, refl);
          each = each_set (IsSoundSeat tells key (r.ended + 1) t' now') s.views id p
              (λ j q ne e. more_ended tells key q r.ended drawn t' r.trace now' (omega arith) along (λ h. ne (r.apart j id r.ended q (HasTurn k t found) e at h mine.3)) (r.each j q e))
              (mine.0, (starts_with_itself now', (starts_with_each_along now' r.trace k.told along mine.1.1)));
          apart = apart_set s.views id p r.apart (λ j u q ne e h g. h);
        },
        refl,
      )

  pub going_on_keeps : (slots id : ℕ) (k : Known C) (t : ℕ) (found : List ℕ) (w : W) → Suits tells w k → StartsWith (tells.trace w) found
      → Allows (IsInTurns tells key) slots id (HasTurn k t found, (0, Some w) ∷ []) 1 (λ n. n) (goes_on tells (step slots 1 0 0 none) (HasTurn k t found, (0, Some w) ∷ []))
  going_on_keeps slots id k t found w suits longer s r _ at _ =
      let mine = r.each id (HasTurn k t found) at in
      let now' : List ℕ = tells.trace w in
      let p : Place C = HasTurn (having_seen now' k) t now' in
      let more = sum_set tickets_at s.views id (HasTurn k t found) p at in
      let same = sum_set parts_at s.views id (HasTurn k t found) p at in
      let t' : ℕ = r.ended + sum_by tickets_at (set s.views id p) in
      let drawn : ℕ = r.ended + sum_by tickets_at s.views in
      let along : StartsWith now' r.trace = subst (StartsWith now') mine.4 longer in (
        p,
        chain gives (takes 0 (Some w)),
        (tt, ⊎_elim (λ h. ap (λ hs. get_elem? (set hs 0 (some (Some w))) 0) h.1) (λ o. ap (λ hs. get_elem? (set hs 0 (some (Some w))) 0) o.0) r.slot),
        record {
          ended = r.ended;
          trace = now';
          sleeping = r.sleeping;
          words = ap (λ ws. set ws 1 (get_or ws 1 0)) r.words ∙ ap (λ (n : ℕ). in_word n ∷ in_word r.ended ∷ r.sleeping) (let go : drawn ≡ t' = omega arith in go);
          whole = (let x = r.whole in omega arith);
          slot = inr (⊎_elim (λ h. ap (λ hs. set (set hs 0 (some (Some w))) 0 none) h.1) (λ o. ap (λ hs. set (set hs 0 (some (Some w))) 0 none) o.0) r.slot, (id, p, set_there s.views id (HasTurn k t found) p at, tt));
          each = each_set (IsSoundSeat tells key r.ended t' now') s.views id p
              (λ j q ne e. more_seen tells key q r.ended drawn t' r.trace now' (omega arith) along (λ h. ne (r.apart j id r.ended q (HasTurn k t found) e at h mine.3)) (r.each j q e))
              (mine.0, (starts_with_itself now', (starts_with_each_along now' r.trace k.told along mine.1.1)), mine.2, mine.3, refl);
          apart = apart_set s.views id p r.apart (λ j u q ne e h g. ne (sym (r.apart id j u (HasTurn k t found) q at e h g)));
        },
        refl,
      )

  -- a word on which seats sleep may change as it will
  pub calling_keeps_there : (slots id v : ℕ) (p : Place C) (c : List (ℕ × Option W)) → Allows (IsInTurns tells key) slots id (p, c) (suc (suc v)) (λ n. in_word (n + 1)) (calls_next (step slots (suc (suc v)) 1 0 none) (p, c))
  calling_keeps_there slots id v p c s r _ at _ =
      let back : set s.views id p ≡ s.views = set_again s.views id p at in
      let x : ℕ = in_word (get_or s.words (suc (suc v)) 0 + 1) in
      let there : IsInTurns tells key (record { words = set s.words (suc (suc v)) x; homes = s.homes; views = s.views }) = record {
        ended = r.ended;
        trace = r.trace;
        sleeping = set r.sleeping v x;
        words = ap (λ ws. set ws (suc (suc v)) x) r.words;
        whole = r.whole;
        slot = r.slot;
        each = r.each;
        apart = r.apart;
      } in (
        p,
        keeps,
        tt,
        subst (λ (l : List (Place C)). IsInTurns tells key (record { words = set s.words (suc (suc v)) x; homes = s.homes; views = l })) (sym back) there,
        refl,
      )

  abbrev Sat : Type 0
  Sat = Me (Option W) (Place C)

  pub draws_keep : (slots id : ℕ) (m : Sat) (k : Known C) → m ≡ (Free k, []) → 0 < k.parts → Allows (IsInTurns tells key) slots id m 0 (λ n. in_word (n + 1)) (draws_ticket (step slots 0 1 0 none) m)
  draws_keep slots id m k e some_part = subst (λ (x : Sat). Allows (IsInTurns tells key) slots id x 0 (λ n. in_word (n + 1)) (draws_ticket (step slots 0 1 0 none) x)) (sym e) (drawing_keeps slots id k [] some_part)

  pub looks_keep : (slots id : ℕ) (m : Sat) (k : Known C) (t : ℕ) → m ≡ (Waits k t, []) → Allows (IsInTurns tells key) slots id m 1 (λ n. n) (looks_for_turn tells (step slots 1 0 0 none) m)
  looks_keep slots id m k t e = subst (λ (x : Sat). Allows (IsInTurns tells key) slots id x 1 (λ n. n) (looks_for_turn tells (step slots 1 0 0 none) x)) (sym e) (looking_keeps slots id k t [])

  pub ends_keep : (slots id : ℕ) (m : Sat) (k : Known C) (t : ℕ) (found : List ℕ) (w : W) → m ≡ (HasTurn k t found, (0, Some w) ∷ []) → Suits tells w k → StartsWith (tells.trace w) found
      → Allows (IsInTurns tells key) slots id m 1 (λ n. in_word (n + 1)) (ends_turn tells (step slots 1 1 0 none) m)
  ends_keep slots id m k t found w e suits longer = subst (λ (x : Sat). Allows (IsInTurns tells key) slots id x 1 (λ n. in_word (n + 1)) (ends_turn tells (step slots 1 1 0 none) x)) (sym e) (ending_keeps slots id k t found w suits longer)

  pub goes_on_keep : (slots id : ℕ) (m : Sat) (k : Known C) (t : ℕ) (found : List ℕ) (w : W) → m ≡ (HasTurn k t found, (0, Some w) ∷ []) → Suits tells w k → StartsWith (tells.trace w) found
      → Allows (IsInTurns tells key) slots id m 1 (λ n. n) (goes_on tells (step slots 1 0 0 none) m)
  goes_on_keep slots id m k t found w e suits longer = subst (λ (x : Sat). Allows (IsInTurns tells key) slots id x 1 (λ n. n) (goes_on tells (step slots 1 0 0 none) x)) (sym e) (going_on_keeps slots id k t found w suits longer)

  pub calls_keep : (slots id w : ℕ) (m : Sat) → 2 ≤ w → Allows (IsInTurns tells key) slots id m w (λ n. in_word (n + 1)) (calls_next (step slots w 1 0 none) m)
  calls_keep slots id zero m two = absurd (omega arith)
  calls_keep slots id (suc zero) m two = absurd (omega arith)
  calls_keep slots id (suc (suc v)) m two = calling_keeps_there slots id v m.0 m.1
