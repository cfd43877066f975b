-- Calls of the system that a disk doesn't tell.
use Rattle.folder_disk.proofs.Common.{◌≡◌, ◌⊎◌, inl, inr, ℕ, Bool, true, false, List, Option, Some, None, Result, Ok, Err, Contains, refl, sym, ◌∙◌, ap, subst, ∥∥₁_map, false≢true, DiskState, Change, System, Modelled, IfModelled, IsLocked, IsDoneOrNot, HasPassed, done_by, CoversSystem, covered}
use Rattle.folder_disk.proofs.Common.{IsSoundSystem, IsUnseen, IsDiskOf, IsOver, IsDiskOver, told_history}
use Rattle.std.proofs.Common.{OnOk, OnErr}
use Rattle.folder_model.specs.System.{with_lock}
use Rattle.folder_disk.proofs.OverLemmas.{so_far, over_same, over_locked, over_refused, since_covered}

-- a disk whose next change is refused
pub spoiled_over : (m : Option Modelled) (past : List System) (changes : List (Change × List ℕ)) → ∥ IsDiskOver m past changes false ∥₁ → ∥ IsDiskOver m past changes true ∥₁
spoiled_over None past changes over = ∣ tt ∣₁
spoiled_over (Some m) past changes over = ∥∥₁_map over (λ o. record { covered = o.covered; now = o.now; disk = o.disk; is = λ e. absurd (false≢true (sym e)) })

-- nothing was done
unseen_none : (old new : Option Modelled) (before after : List System) → new ≡ old → after ≡ before → IsUnseen old before new after false
unseen_none old new before after same still = record {
  told = λ changes. ap (λ n. told_history n changes) same;
  over = λ changes over. over_same old new before after changes false over same still;
  locked = let F : Option Modelled → Type 0 = IsLocked in subst F (sym same);
}

-- what was unseen before a failure
unseen_spoils : (old new : Option Modelled) (before after : List System) → IsUnseen old before new after false → IsUnseen old before new after true
unseen_spoils old new before after is = record {
  told = is.told;
  over = λ changes over. spoiled_over new after changes (is.over changes over);
  locked = is.locked;
}

pub unseen_same : (spoiled : Bool) (old new : Option Modelled) (before after : List System) → new ≡ old → after ≡ before → IsUnseen old before new after spoiled
unseen_same false old new before after same still = unseen_none old new before after same still
unseen_same true old new before after same still = unseen_spoils old new before after (unseen_none old new before after same still)

-- one run after another
pub unseen_then : (spoiled : Bool) (old mid new : Option Modelled) (before between after : List System) → IsUnseen old before mid between false → IsUnseen mid between new after spoiled
    → IsUnseen old before new after spoiled
unseen_then spoiled old mid new before between after first second = record {
  told = λ changes. second.told changes ∙ first.told changes;
  over = λ changes over. second.over changes (first.over changes over);
  locked = λ l. second.locked (first.locked l);
}

-- a disk over a system that a call has left
quiet : (m : Modelled) (t : System) (before after : List System) (changes : List (Change × List ℕ)) → IsOver m before changes false
    → HasPassed (Some m) before (Some (record m { now = t })) after → IsDiskOf (so_far m changes).now t → IsOver (record m { now = t }) after changes false
quiet m t before after changes over has is = record {
  covered = since_covered m (record m { now = t }) before after changes over.now has over.covered;
  now = covered (so_far m changes).now t is.follows;
  disk = over.disk;
  is = λ e. is;
}

quiet_failed : (m : Modelled) (t : System) (before after : List System) (changes : List (Change × List ℕ)) → IsOver m before changes false
    → HasPassed (Some m) before (Some (record m { now = t })) after → CoversSystem (so_far m changes).now t → IsOver (record m { now = t }) after changes true
quiet_failed m t before after changes over has covers = record {
  covered = since_covered m (record m { now = t }) before after changes over.now has over.covered;
  now = covers;
  disk = over.disk;
  is = λ e. absurd (false≢true (sym e));
}

-- one call
pub unseen_step : (step : System → System) (P : System → Type 0) (old new : Option Modelled) (before after : List System) → ((s : System) → (step s).is_locked ≡ s.is_locked)
    → ((disk : DiskState) (s : System) → P s → IsDiskOf disk s → IsDiskOf disk (step s)) → IfModelled old P → new ≡ done_by step old → HasPassed old before new after
    → IsUnseen old before new after false
unseen_step step P None new before after lock goes holds is has =
    let F : Option Modelled → Type 0 = λ n. IsUnseen None before n after false in
    subst F (sym is) (record { told = λ changes. refl; over = λ changes over. ∣ tt ∣₁; locked = λ l. tt })
unseen_step step P (Some m) new before after lock goes holds is has =
    let F : Option Modelled → Type 0 = λ n. IsUnseen (Some m) before n after false in
    let G : Option Modelled → Type 0 = λ n. HasPassed (Some m) before n after in
    let has_passed : HasPassed (Some m) before (Some (record m { now = step m.now })) after = subst G is has in
    subst F (sym is) (record {
      told = λ changes. refl;
      over = λ changes over. ∥∥₁_map over (λ o. quiet m (step m.now) before after changes o has_passed (goes (so_far m changes).now m.now holds (o.is refl)));
      locked = λ l. lock m.now ∙ l;
    })

-- one call that failed
pub unseen_failed : (step : System → System) (P : System → Type 0) (old new : Option Modelled) (before after : List System) → ((s : System) → (step s).is_locked ≡ s.is_locked)
    → ((disk : DiskState) (s : System) → P s → IsDiskOf disk s → CoversSystem disk (step s)) → IfModelled old P → IsDoneOrNot step old new → HasPassed old before new after
    → IsUnseen old before new after true
unseen_failed step P None new before after lock goes holds is has =
    let none : new ≡ None = elim is [ inl same ↦ same | inr done ↦ done ] in
    let F : Option Modelled → Type 0 = λ n. IsUnseen None before n after true in
    subst F (sym none) (record { told = λ changes. refl; over = λ changes over. ∣ tt ∣₁; locked = λ l. tt })
unseen_failed step P (Some m) new before after lock goes holds (inl same) has =
    let F : Option Modelled → Type 0 = λ n. IsUnseen (Some m) before n after true in
    let G : Option Modelled → Type 0 = λ n. HasPassed (Some m) before n after in
    let has_passed : HasPassed (Some m) before (Some m) after = subst G same has in
    subst F (sym same) (record {
      told = λ changes. refl;
      over = λ changes over. ∥∥₁_map over (λ o. quiet_failed m m.now before after changes o has_passed o.now);
      locked = λ l. l;
    })
unseen_failed step P (Some m) new before after lock goes holds (inr done) has =
    let F : Option Modelled → Type 0 = λ n. IsUnseen (Some m) before n after true in
    let G : Option Modelled → Type 0 = λ n. HasPassed (Some m) before n after in
    let has_passed : HasPassed (Some m) before (Some (record m { now = step m.now })) after = subst G done has in
    subst F (sym done) (record {
      told = λ changes. refl;
      over = λ changes over. ∥∥₁_map over (λ o. quiet_failed m (step m.now) before after changes o has_passed (goes (so_far m changes).now m.now holds (o.is refl)));
      locked = λ l. lock m.now ∙ l;
    })

-- one call that changed nothing
pub unseen_kept : (old new : Option Modelled) (before after : List System) → new ≡ old → HasPassed old before new after → IsUnseen old before new after true
unseen_kept old new before after same has =
    unseen_failed (λ s. s) (λ s. s ≡ s) old new before after (λ s. refl) (λ disk s here d. covered disk s d.follows) (here old) (inl same) has
  where
    here : (m : Option Modelled) → IfModelled m (λ s. s ≡ s)
    here None = tt
    here (Some m) = refl

-- what holds of an answer whatever it is
pub on_err : {T E : Type 0} (r : Result T E) {A : Type 0} → A → OnErr r A
on_err (Ok v) a = tt
on_err (Err e) a = a

pub on_ok : {T E : Type 0} (r : Result T E) {A : Type 0} → A → OnOk r A
on_ok (Ok v) a = a
on_ok (Err e) a = tt

pub on_ok_map : {T E : Type 0} (r : Result T E) {A B : Type 0} → (A → B) → OnOk r A → OnOk r B
on_ok_map (Ok v) f a = f a
on_ok_map (Err e) f a = tt

pub on_err_map : {T E : Type 0} (r : Result T E) {A B : Type 0} → (A → B) → OnErr r A → OnErr r B
on_err_map (Ok v) f a = tt
on_err_map (Err e) f a = f a

pub on_ok_both : {T E : Type 0} (r : Result T E) {A B C : Type 0} → (A → B → C) → OnOk r A → OnOk r B → OnOk r C
on_ok_both (Ok v) f a b = f a b
on_ok_both (Err e) f a b = tt

-- the lock was had
pub locked_unseen : (old new : Option Modelled) (before after : List System) → new ≡ done_by with_lock old → HasPassed old before new after → IsUnseen old before new after false
locked_unseen None new before after is has =
    let F : Option Modelled → Type 0 = λ n. IsUnseen None before n after false in
    subst F (sym is) (record { told = λ changes. refl; over = λ changes over. ∣ tt ∣₁; locked = λ l. tt })
locked_unseen (Some m) new before after is has =
    let F : Option Modelled → Type 0 = λ n. IsUnseen (Some m) before n after false in
    let G : Option Modelled → Type 0 = λ n. HasPassed (Some m) before n after in
    let has_passed = subst G is has in
    subst F (sym is) (record { told = λ changes. refl; over = λ changes over. ∥∥₁_map over (λ o. over_locked m before after changes false o has_passed); locked = λ l. refl })

pub lock_had : (old new : Option Modelled) → new ≡ done_by with_lock old → IsLocked new
lock_had None new is = let F : Option Modelled → Type 0 = IsLocked in subst F (sym is) tt
lock_had (Some m) new is = let F : Option Modelled → Type 0 = IsLocked in subst F (sym is) refl

-- it was not
pub refused_unseen : (old new : Option Modelled) (before after : List System) → new ≡ old → HasPassed old before new after → IsUnseen old before new after false
refused_unseen old new before after same has =
    let F : Option Modelled → Type 0 = λ n. IsUnseen old before n after false in
    let G : Option Modelled → Type 0 = λ n. HasPassed old before n after in
    subst F (sym same) (go old (subst G same has))
  where
    go : (m : Option Modelled) → HasPassed m before m after → IsUnseen m before m after false
    go None has = record { told = λ changes. refl; over = λ changes over. ∣ tt ∣₁; locked = λ l. l }
    go (Some m) has = record { told = λ changes. refl; over = λ changes over. ∥∥₁_map over (λ o. over_refused m before after changes false o has); locked = λ l. l }

pub on_ok_three : {T E : Type 0} (r : Result T E) {A B C D : Type 0} → (A → B → C → D) → OnOk r A → OnOk r B → OnOk r C → OnOk r D
on_ok_three (Ok v) f a b c = f a b c
on_ok_three (Err e) f a b c = tt
