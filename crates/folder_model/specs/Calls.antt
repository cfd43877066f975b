-- What a call of the system says, where the system's files are modelled.
use Rattle.std.specs.Prelude.{◌≡◌, ◌⊎◌, ℕ, Bool, true, List, ◌∷◌, Option, Some, None, MatchOption, Contains, ⊤}
use Rattle.disk_model.specs.Disk.{FileState}
use Rattle.folder_model.specs.System.{Node, Nothing, PlainFile, AFolder, Another, System, with_content, weakened}
use Rattle.folder_model.specs.declared.folder.Kind.{Kind}
use Rattle.folder_model.specs.declared.folder.Kind.TheVariants as kind

-- the system as this process got its lock, and now
pub record Modelled : Type 0 where
  pub start : System
  pub now : System

-- a fact of the present system, where it is modelled
abbrev pub IfModelled : Option Modelled → (System → Type 0) → Type 0
IfModelled m P = MatchOption m ⊤ (λ told. P told.now)

-- a fact of the present system, where it is modelled and no sync has failed
abbrev pub IfSound : Option Modelled → (System → Type 0) → Type 0
IfSound m P = IfModelled m (λ s. s.is_sound ≡ true → P s)

-- this process has the lock
abbrev pub IsLocked : Option Modelled → Type 0
IsLocked m = IfModelled m (λ s. s.is_locked ≡ true)

-- a call that did this
abbrev pub done_by : (System → System) → Option Modelled → Option Modelled
done_by step None = None
done_by step (Some m) = Some (record m { now = step m.now })

-- A relation of the systems before and after a call, where they are modelled.
abbrev pub Becomes : (System → System → Type 0) → Option Modelled → Option Modelled → Type 0
Becomes R None new = new ≡ None
Becomes R (Some old) None = ⊥
Becomes R (Some old) (Some new) = (new.start ≡ old.start) × R old.now new.now

-- a call that failed has done this, or nothing
abbrev pub IsDoneOrNot : (System → System) → Option Modelled → Option Modelled → Type 0
IsDoneOrNot step old new = (new ≡ old) ⊎ (new ≡ done_by step old)

-- the systems that calls have left before, the latest first, and the present one before them
abbrev pub passed : Option Modelled → List System → List System
passed None past = past
passed (Some m) past = m.now ∷ past

-- After a call the system before it is one of the past, or it is still the present one.
abbrev pub HasPassed : Option Modelled → List System → Option Modelled → List System → Type 0
HasPassed old before new after = (after ≡ passed old before) ⊎ ((after ≡ before) × (new ≡ old))

-- each system that calls have left since is so
abbrev pub AreSince : (System → Type 0) → List System → List System → Type 0
AreSince P old new = (s : System) → Contains new s → Contains old s ⊎ P s

-- A call that failed has done a part of a change of one file, or nothing. The system may go on as after a sync that failed: an
-- earlier write may have been lost.
abbrev pub IsPartlyDone : ℕ → (FileState → FileState → Type 0) → Option Modelled → Option Modelled → Type 0
IsPartlyDone number R old new =
    (new ≡ old) ⊎ Becomes (λ before after. (f : FileState) × R (before.content number) f × (sound : Bool) × (after ≡ weakened sound (with_content number (λ _. f) before))) old new

-- what a look at a path tells
abbrev pub kind_of_node : Node → Kind
kind_of_node Nothing = kind.Nothing
kind_of_node (PlainFile number) = kind.File
kind_of_node AFolder = kind.Folder
kind_of_node Another = kind.Other
