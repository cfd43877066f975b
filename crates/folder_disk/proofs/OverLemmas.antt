-- A disk over a system, one call on.
use Rattle.folder_disk.proofs.Common.{◌≡◌, ◌⊎◌, inl, inr, ℕ, ◌<◌, Bool, true, false, List, [], ◌∷◌, Option, Some, None, Contains, refl, sym, ◌∙◌, ap, subst, arith, ∥∥₁_elim, ∥∥₁_map, props, cases_Bool, cond-true, cond-false, Contains-append_right, FileState, DiskState, History, MayLeave, IfTold}
use Rattle.folder_disk.proofs.Common.{after, reading, System, IsSystem, Modelled, IfModelled, IsLocked, HasPassed, AreSince, Becomes, done_by, first_or_later, FollowsSystem, CoversSystem, covered, Change, state_after, IsStoreSystem, IsDiskOf, IsStoreDisk, IsCovered, IsOver, IsDiskOver, told_history}
use Rattle.folder_disk.proofs.Common.{IsSoundSystem}
use Rattle.disk_model.specs.Disk.{MayHold, IsImage}
use Rattle.folder_model.specs.System.{with_lock}
use Rattle.disk_files.proofs.StepLemmas.{flags_follow}
use Rattle.disk_record.specs.declared.change.Change.TheVariants.{Nothing}
use Rattle.disk_record.specs.Record.{history_of}
use Rattle.folder_disk.specs.Start.{started_disk}
use Rattle.folder_disk.specs.Over.{HasBegun}
use Rattle.folder_disk.proofs.StartLemmas.{start_follows, start_is_disk}

pub more_in : {A : Type 0} (x y : A) (xs : List A) → Contains xs y → Contains (x ∷ xs) y
more_in x y xs has = Contains-append_right (x ∷ []) xs y has

-- the history so far
abbrev pub so_far : Modelled → List (Change × List ℕ) → History
so_far m changes = history_of (started_disk m.start) changes

-- what a call leaves
abbrev pub next_of : Modelled → List (Change × List ℕ) → Change → List ℕ → DiskState
next_of m changes change octets = state_after change octets (so_far m changes).now

-- A disk has begun.
over_begins : (m : Modelled) → IsSystem m.now → m.start ≡ m.now → IsStoreSystem m.now → IsOver m [] [] false
over_begins m system same store =
    let F : System → Type 0 = λ s. FollowsSystem (started_disk s) m.now in
    let G : System → Type 0 = λ s. IsStoreDisk (started_disk s) in
    let follows : FollowsSystem (started_disk m.start) m.now = subst F (sym same) (start_follows m.now system store.own) in
    record {
      covered = λ s has. absurd (let below : has.0 < 0 = has.1 in omega arith);
      now = covered (started_disk m.start) m.now follows;
      disk = subst G (sym same) (start_is_disk m.now system);
      is = λ e. record { follows = follows; system = store };
    }

pub disk_begins : (m : Option Modelled) (past : List System) → IfModelled m IsSystem → HasBegun m past → IfModelled m IsStoreSystem → ∥ IsDiskOver m past [] false ∥₁
disk_begins None past system begun store = ∣ tt ∣₁
disk_begins (Some m) past system begun store =
    let F : List System → Type 0 = λ l. IsOver m l [] false in
    ∣ subst F (sym begun.1) (over_begins m system begun.0 store) ∣₁

-- One call more.
pub over_goes_on : (m n : Modelled) (before after : List System) (changes : List (Change × List ℕ)) (change : Change) (octets : List ℕ) (was spoiled : Bool)
    → IsOver m before changes was → n.start ≡ m.start
    → AreSince (λ s. IsCovered (so_far m changes) s ⊎ CoversSystem (next_of m changes change octets) s) before after
    → CoversSystem (next_of m changes change octets) n.now
    → IsStoreDisk (next_of m changes change octets)
    → (spoiled ≡ false → IsDiskOf (next_of m changes change octets) n.now)
    → IsOver n after ((change, octets) ∷ changes) spoiled
over_goes_on m n before after changes change octets was spoiled over start since covers store is =
    let old = so_far m changes in
    let next = next_of m changes change octets in
    let later : (s : System) → IsCovered old s → IsCovered (history_of (started_disk m.start) ((change, octets) ∷ changes)) s =
    λ s c. (c.0, more_in next c.0 (old.now ∷ old.before) c.1, c.2) in
    let F : System → Type 0 = λ s. IsOver (record { start = s; now = n.now }) after ((change, octets) ∷ changes) spoiled in
    subst F (sym start) (record {
      covered = λ s has. elim (since s has) [
        | inl earlier ↦ later s (over.covered s earlier)
        | inr either ↦ elim either [
          | inl here ↦ later s here
          | inr there ↦ (next, (0, omega arith, refl), there)
        ]
      ];
      now = covers;
      disk = store;
      is = is;
    })

-- the present system is covered
pub now_covered : (m : Modelled) (past : List System) (changes : List (Change × List ℕ)) (spoiled : Bool) → IsOver m past changes spoiled → IsCovered (so_far m changes) m.now
now_covered m past changes spoiled over = ((so_far m changes).now, (0, omega arith, refl), over.now)

-- A call that changed nothing, of a disk that goes on or is spoiled.
pub over_stays : (m : Option Modelled) (past : List System) (changes : List (Change × List ℕ)) (octets : List ℕ) (spoiled : Bool)
    → ∥ IsDiskOver m past changes spoiled ∥₁ → ∥ IsDiskOver m past ((Nothing, octets) ∷ changes) spoiled ∥₁
over_stays None past changes octets spoiled over = ∣ tt ∣₁
over_stays (Some m) past changes octets spoiled over = ∥∥₁_map over (λ o.
    over_goes_on m m past past changes Nothing octets spoiled spoiled o refl (λ s has. inl has) o.now o.disk o.is)

-- a fact of two systems, of which the one is modelled if and only if the other is
pub history_goes_on : (R : System → System → Type 0) (old new : Option Modelled) (changes : List (Change × List ℕ)) (change : Change) (octets : List ℕ)
    → Becomes R old new → told_history new ((change, octets) ∷ changes) ≡ after (state_after change octets) (told_history old changes)
history_goes_on R None new changes change octets is =
    let F : Option Modelled → Type 0 = λ n. told_history n ((change, octets) ∷ changes) ≡ None in
    subst F (sym is) refl
history_goes_on R (Some m) None changes change octets is = elim is [ ]
history_goes_on R (Some m) (Some n) changes change octets is =
    ap (λ s. told_history (Some (record { start = s; now = n.now })) ((change, octets) ∷ changes)) is.0

-- a call that changed nothing
pub history_stays : (m : Option Modelled) (changes : List (Change × List ℕ)) (octets : List ℕ) → told_history m ((Nothing, octets) ∷ changes) ≡ after (λ disk. disk) (told_history m changes)
history_stays None changes octets = refl
history_stays (Some m) changes octets = refl

-- no sync has failed, of a disk that goes on
pub over_sound : (m : Option Modelled) (past : List System) (changes : List (Change × List ℕ)) (spoiled : Bool) → ∥ IsDiskOver m past changes spoiled ∥₁ → spoiled ≡ false → IsSoundSystem m
over_sound None past changes spoiled over is = tt
over_sound (Some m) past changes spoiled over is = ∥∥₁_elim over (hlevel props) (λ o. (o.is is).system.sound)

-- a system that was covered before it was left
pub since_covered : (m n : Modelled) (before after : List System) (changes : List (Change × List ℕ)) → CoversSystem (so_far m changes).now m.now
    → HasPassed (Some m) before (Some n) after → ((s : System) → Contains before s → IsCovered (so_far m changes) s) → (s : System) → Contains after s → IsCovered (so_far m changes) s
since_covered m n before after changes now (inl e) earlier s has =
    let F : List System → Type 0 = λ l. Contains l s in
    elim (first_or_later m.now s before (subst F e has)) [
      | inl here ↦
          let G : System → Type 0 = IsCovered (so_far m changes) in
          subst G (sym here) ((so_far m changes).now, (0, omega arith, refl), now)
      | inr past ↦ earlier s past
    ]
since_covered m n before after changes now (inr e) earlier s has = let F : List System → Type 0 = λ l. Contains l s in earlier s (subst F e.0 has)

-- the lock was asked for
pub over_locked : (m : Modelled) (before after : List System) (changes : List (Change × List ℕ)) (spoiled : Bool) → IsOver m before changes spoiled
    → HasPassed (Some m) before (Some (record m { now = with_lock m.now })) after → IsOver (record m { now = with_lock m.now }) after changes spoiled
over_locked m before after changes spoiled over has = record {
  covered = since_covered m (record m { now = with_lock m.now }) before after changes over.now has over.covered;
  now = λ left crash name is. over.now left (record { current = crash.current; node = crash.node; earlier = crash.earlier; content = crash.content; count = crash.count; sound = crash.sound; free = crash.free }) name is;
  disk = over.disk;
  is = λ e.
      let d = over.is e in
      record {
        follows = flags_follow m.now.is_sound true (so_far m changes).now m.now d.follows;
        system = record { sound = d.system.sound; own = record { own = d.system.own.own; one = d.system.own.one }; folders = d.system.folders };
      };
}

pub over_refused : (m : Modelled) (before after : List System) (changes : List (Change × List ℕ)) (spoiled : Bool) → IsOver m before changes spoiled
    → HasPassed (Some m) before (Some m) after → IsOver m after changes spoiled
over_refused m before after changes spoiled over has = record { covered = since_covered m m before after changes over.now has over.covered; now = over.now; disk = over.disk; is = over.is }

pub locked_of : (held spoiled : Bool) (m : Option Modelled) → ∥ (held ≡ true → spoiled ≡ false → IsLocked m) ∥₁ → held ≡ true → spoiled ≡ false → IsLocked m
locked_of held spoiled None locked h s = tt
locked_of held spoiled (Some m) locked h s = ∥∥₁_elim locked (hlevel props) (λ l. l h s)

-- a call that left the system and its past as they were
pub over_same : (old new : Option Modelled) (before after : List System) (changes : List (Change × List ℕ)) (spoiled : Bool)
    → ∥ IsDiskOver old before changes spoiled ∥₁ → new ≡ old → after ≡ before → ∥ IsDiskOver new after changes spoiled ∥₁
over_same old new before after changes spoiled over same still =
    let F : Option Modelled → Type 0 = λ m. ∥ IsDiskOver m after changes spoiled ∥₁ in
    let G : List System → Type 0 = λ l. ∥ IsDiskOver old l changes spoiled ∥₁ in
    subst F (sym same) (subst G (sym still) over)

pub locked_same : (old new : Option Modelled) (held spoiled : Bool) → ∥ (held ≡ true → spoiled ≡ false → IsLocked old) ∥₁ → new ≡ old → ∥ (held ≡ true → spoiled ≡ false → IsLocked new) ∥₁
locked_same old new held spoiled locked same =
    let F : Option Modelled → Type 0 = λ m. ∥ (held ≡ true → spoiled ≡ false → IsLocked m) ∥₁ in
    subst F (sym same) locked
