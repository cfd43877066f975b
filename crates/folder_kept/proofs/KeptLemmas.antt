-- A folder whose files stay open, one call on.
use Rattle.std.proofs.Common.{◌≡◌, ◌≢◌, ◌↔◌, inl, inr, ℕ, Bool, true, false, ◌&&◌, List, get_or, Option, Some, None, Result, Ok, Err, IfOk, OnErr, OnOk, string_bytes, refl, sym, ◌∙◌, ap, subst}
use Rattle.std.specs.Arc.{arc_value}
use Rattle.std.proofs.Math.Logic.{∥∥₁_elim, ∥∥₁_map}
use Rattle.std.proofs.Props.{props}
use Rattle.std.proofs.lemmas.Bool.{cases_Bool, cond-true, cond-false, false≢true}
use Rattle.std.proofs.lemmas.List.Elements.{All-contains}
use Rattle.disk_model.specs.Disk.{FileState}
use Rattle.disk_model.specs.Name.{same_octets}
use Rattle.disk_model.proofs.NameLemmas.{same_octets-true, same_octets-refl}
use Rattle.folder_model.specs.System.{Node, Nothing, PlainFile, AFolder, Another, System, with_node, with_new_file, with_content, with_failed_sync, with_lock}
use Rattle.folder_model.specs.Calls.{Modelled, IfModelled, IfSound, IsDoneOrNot, IsPartlyDone, Becomes, done_by, kind_of_node}
use Rattle.folder_model.specs.declared.folder.CallError.{CallError}
use Rattle.folder_model.specs.declared.folder.Kind.{Kind}
use Rattle.folder_model.specs.declared.folder.Kind.TheVariants as kind
use Rattle.folder_kept.specs.declared.files.OpenFile.{OpenFile}
use Rattle.folder_kept.specs.Open.{IsOpenAt, IsNotOpen, IsKeptAt, AreAmong, AreMore, StandAtPaths}

-- the open files stand at their paths, unless a sync has failed
abbrev pub AreKept : {T : Type 0} → (T → ℕ) → Option Modelled → List (OpenFile T) → Type 0
AreKept number m files = ∥ IfSound m (λ s. StandAtPaths number s files) ∥₁

stand_among : {T : Type 0} (number : T → ℕ) (s : System) (old new : List (OpenFile T)) → AreAmong old new → StandAtPaths number s old → StandAtPaths number s new
stand_among {T} number s old new among stand k d below =
    let is = among k d below in
    let at = All-contains (λ (file : OpenFile T). s.node (string_bytes file.path) ≡ PlainFile (number (arc_value file.file))) old is.0 stand is.1 in
    ap (λ p. s.node p) (sym is.2) ∙ at ∙ ap (λ one. PlainFile (number one)) is.3

-- files were closed
pub kept_among : {T : Type 0} (number : T → ℕ) (m : Option Modelled) (old new : List (OpenFile T)) → AreAmong old new → AreKept number m old → AreKept number m new
kept_among number None old new among kept = ∣ tt ∣₁
kept_among number (Some m) old new among kept = ∥∥₁_map kept (λ k sound. stand_among number m.now old new among (k sound))

-- the system is as it was
pub kept_same : {T : Type 0} (number : T → ℕ) (old new : Option Modelled) (files : List (OpenFile T)) → new ≡ old → AreKept number old files → AreKept number new files
kept_same number old new files same kept = let F : Option Modelled → Type 0 = λ m. AreKept number m files in subst F (sym same) kept

-- the same stands at each path but one
pub record KeepsNodesBut (path : List ℕ) (before s : System) : Type 0 where
  pub node : (p : List ℕ) → p ≢ path → s.node p ≡ before.node p
  pub sound : s.is_sound ≡ true → before.is_sound ≡ true

-- the same stands at each path
pub record KeepsNodes (before s : System) : Type 0 where
  pub node : (p : List ℕ) → s.node p ≡ before.node p
  pub sound : s.is_sound ≡ true → before.is_sound ≡ true

pub kept_through : {T : Type 0} (number : T → ℕ) (old new : Option Modelled) (files : List (OpenFile T)) → Becomes KeepsNodes old new → AreKept number old files → AreKept number new files
kept_through number None new files becomes kept = let F : Option Modelled → Type 0 = λ m. AreKept number m files in subst F (sym becomes) ∣ tt ∣₁
kept_through number (Some m) None files becomes kept = elim becomes [ ]
kept_through number (Some m) (Some n) files becomes kept = ∥∥₁_map kept (λ k sound at d below. becomes.1.node (string_bytes (get_or files at d).path) ∙ k (becomes.1.sound sound) at d below)

pub kept_apart : {T : Type 0} (number : T → ℕ) (path : List ℕ) (old new : Option Modelled) (files : List (OpenFile T)) → Becomes (KeepsNodesBut path) old new → IsNotOpen path files
    → AreKept number old files → AreKept number new files
kept_apart number path None new files becomes none kept = let F : Option Modelled → Type 0 = λ m. AreKept number m files in subst F (sym becomes) ∣ tt ∣₁
kept_apart number path (Some m) None files becomes none kept = elim becomes [ ]
kept_apart number path (Some m) (Some n) files becomes none kept =
    ∥∥₁_map kept (λ k sound at d below. becomes.1.node (string_bytes (get_or files at d).path) (none at d below) ∙ k (becomes.1.sound sound) at d below)

-- what a call has done
pub done_keeps : (step : System → System) (old new : Option Modelled) → ((s : System) → KeepsNodes s (step s)) → new ≡ done_by step old → Becomes KeepsNodes old new
done_keeps step None new keeps done = done
done_keeps step (Some m) new keeps done = let F : Option Modelled → Type 0 = Becomes KeepsNodes (Some m) in subst F (sym done) (refl, keeps m.now)

pub same_keeps : (old new : Option Modelled) → new ≡ old → Becomes KeepsNodes old new
same_keeps None new same = same
same_keeps (Some m) new same = let F : Option Modelled → Type 0 = Becomes KeepsNodes (Some m) in subst F (sym same) (refl, record { node = λ p. refl; sound = λ e. e })

pub maybe_keeps : (step : System → System) (old new : Option Modelled) → ((s : System) → KeepsNodes s (step s)) → IsDoneOrNot step old new → Becomes KeepsNodes old new
maybe_keeps step old new keeps (inl same) = same_keeps old new same
maybe_keeps step old new keeps (inr done) = done_keeps step old new keeps done

failed_sync : (s : System) → KeepsNodes s (with_failed_sync s)
failed_sync s = record { node = λ p. refl; sound = λ e. absurd (false≢true e) }

sound_before : (a b : Bool) → (a && b) ≡ true → b ≡ true
sound_before true b e = e
sound_before false b e = absurd (false≢true e)

pub partly_keeps : (number : ℕ) (R : FileState → FileState → Type 0) (old new : Option Modelled) → IsPartlyDone number R old new → Becomes KeepsNodes old new
partly_keeps number R old new (inl same) = same_keeps old new same
partly_keeps number R None new (inr done) = done
partly_keeps number R (Some m) None (inr done) = elim done [ ]
partly_keeps number R (Some m) (Some n) (inr done) =
    let F : System → Type 0 = KeepsNodes m.now in
    (done.0, subst F (sym done.1.3) (record { node = λ p. refl; sound = λ e. sound_before done.1.2 m.now.is_sound e }))

-- one name was changed
apart : (path : List ℕ) (put : Node) (s : System) (p : List ℕ) → p ≢ path → (with_node path put s).node p ≡ s.node p
apart path put s p differs = elim (cases_Bool (same_octets p path)) [
  | inl same ↦ absurd (differs (same_octets-true p path same))
  | inr other ↦ cond-false (same_octets p path) put (s.node p) other
]

pub put_keeps : (path : List ℕ) (put : Node) (s : System) → KeepsNodesBut path s (with_node path put s)
put_keeps path put s = record { node = apart path put s; sound = λ e. e }

pub new_keeps : (path : List ℕ) (s : System) → KeepsNodesBut path s (with_new_file path s)
new_keeps path s = record { node = apart path (PlainFile s.count) s; sound = λ e. e }

pub done_keeps_but : (path : List ℕ) (step : System → System) (old new : Option Modelled) → ((s : System) → KeepsNodesBut path s (step s)) → new ≡ done_by step old → Becomes (KeepsNodesBut path) old new
done_keeps_but path step None new keeps done = done
done_keeps_but path step (Some m) new keeps done = let F : Option Modelled → Type 0 = Becomes (KeepsNodesBut path) (Some m) in subst F (sym done) (refl, keeps m.now)

pub maybe_keeps_but : (path : List ℕ) (step : System → System) (old new : Option Modelled) → ((s : System) → KeepsNodesBut path s (step s)) → IsDoneOrNot step old new → Becomes (KeepsNodesBut path) old new
maybe_keeps_but path step None new keeps (inl same) = same
maybe_keeps_but path step (Some m) new keeps (inl same) =
    let F : Option Modelled → Type 0 = Becomes (KeepsNodesBut path) (Some m) in subst F (sym same) (refl, record { node = λ p differs. refl; sound = λ e. e })
maybe_keeps_but path step old new keeps (inr done) = done_keeps_but path step old new keeps done

abbrev is_plain_node : Node → Bool
is_plain_node Nothing = false
is_plain_node (PlainFile number) = true
is_plain_node AFolder = false
is_plain_node Another = false

plain_kind : (node : Node) → is_plain_node node ≡ true → kind.File ≡ kind_of_node node
plain_kind Nothing e = absurd (false≢true e)
plain_kind (PlainFile number) e = refl
plain_kind AFolder e = absurd (false≢true e)
plain_kind Another e = absurd (false≢true e)

-- a file that is open stands there
pub open_stands : {T : Type 0} (number : T → ℕ) (m : Option Modelled) (path : List ℕ) (files : List (OpenFile T)) → AreKept number m files → IsOpenAt path files → IfSound m (λ s. kind.File ≡ kind_of_node (s.node path))
open_stands number None path files kept is = tt
open_stands {T} number (Some m) path files kept is = λ sound.
    plain_kind (m.now.node path) (∥∥₁_elim kept (hlevel props) (λ k.
    ap (λ p. is_plain_node (m.now.node p)) (sym is.2)
    ∙ ap is_plain_node (All-contains (λ (file : OpenFile T). m.now.node (string_bytes file.path) ≡ PlainFile (number (arc_value file.file))) files is.0 (k sound) is.1)))

abbrev number_of : Node → ℕ
number_of Nothing = 0
number_of (PlainFile number) = number
number_of AFolder = 0
number_of Another = 0

-- its number is that of the file that stands there
pub open_number : {T : Type 0} (number : T → ℕ) (m : Option Modelled) (path : List ℕ) (one : T) (files : List (OpenFile T)) → AreKept number m files → IsKeptAt path one files
    → IfSound m (λ s. (n : ℕ) → s.node path ≡ PlainFile n → number one ≡ n)
open_number number None path one files kept is = tt
open_number {T} number (Some m) path one files kept is = λ sound n stands.
    ∥∥₁_elim kept (hlevel props) (λ k.
    let at = All-contains (λ (file : OpenFile T). m.now.node (string_bytes file.path) ≡ PlainFile (number (arc_value file.file))) files is.0 (k sound) is.1 in
    ap number (sym is.3) ∙ ap number_of (sym at ∙ ap (λ p. m.now.node p) is.2 ∙ stands))

file_of_kind : (node : Node) → kind.File ≡ kind_of_node node → (n : ℕ) × (node ≡ PlainFile n)
file_of_kind Nothing e = absurd (let d : kind.File ≡ kind.Nothing = e in cc)
file_of_kind (PlainFile n) e = (n, refl)
file_of_kind AFolder e = absurd (let d : kind.File ≡ kind.Folder = e in cc)
file_of_kind Another e = absurd (let d : kind.File ≡ kind.Other = e in cc)

-- one more is open, which stands at its path
pub kept_more : {T : Type 0} (number : T → ℕ) (m : Option Modelled) (path : List ℕ) (one : T) (old new : List (OpenFile T)) → AreMore path one old new → IfSound m (λ s. s.node path ≡ PlainFile (number one))
    → AreKept number m old → AreKept number m new
kept_more number None path one old new more stands kept = ∣ tt ∣₁
kept_more {T} number (Some m) path one old new more stands kept = ∥∥₁_map kept (λ k sound at d below. elim (more at d below) [
  | inl is ↦
      let there = All-contains (λ (file : OpenFile T). m.now.node (string_bytes file.path) ≡ PlainFile (number (arc_value file.file))) old is.0 (k sound) is.1 in
      ap (λ p. m.now.node p) (sym is.2) ∙ there ∙ ap (λ x. PlainFile (number x)) is.3
  | inr new ↦ ap (λ p. m.now.node p) new.0 ∙ stands sound ∙ ap (λ x. PlainFile (number x)) (sym new.1)
])

-- what was opened after a look
pub opened_stands : {T : Type 0} (number : T → ℕ) (m : Option Modelled) (path : List ℕ) (k : Kind) (one : T) → k ≡ kind.File → IfSound m (λ s. k ≡ kind_of_node (s.node path))
    → IfSound m (λ s. (n : ℕ) → s.node path ≡ PlainFile n → number one ≡ n) → IfSound m (λ s. s.node path ≡ PlainFile (number one))
opened_stands number None path k one is looked opened = tt
opened_stands number (Some m) path k one is looked opened = λ sound.
    let found = file_of_kind (m.now.node path) (sym is ∙ looked sound) in
    found.1 ∙ ap PlainFile (sym (opened sound found.0 found.1))

-- what was made
pub made_stands : {T : Type 0} (number : T → ℕ) (old new : Option Modelled) (path : List ℕ) (one : T) → new ≡ done_by (with_new_file path) old → IfModelled old (λ s. number one ≡ s.count)
    → IfSound new (λ s. s.node path ≡ PlainFile (number one))
made_stands number None new path one done is = let F : Option Modelled → Type 0 = λ m. IfSound m (λ s. s.node path ≡ PlainFile (number one)) in subst F (sym done) tt
made_stands number (Some m) new path one done is =
    let F : Option Modelled → Type 0 = λ m. IfSound m (λ s. s.node path ≡ PlainFile (number one)) in
    subst F (sym done) (λ sound. cond-true (same_octets path path) (PlainFile m.now.count) (m.now.node path) (same_octets-refl path) ∙ ap PlainFile (sym is))

-- The answers of calls.
pub lock_keeps : (r : Result Bool CallError) (old new : Option Modelled) → IfOk r (λ locked. locked ≡ true → new ≡ done_by with_lock old) → IfOk r (λ locked. locked ≡ false → new ≡ old) → OnErr r (new ≡ old)
    → Becomes KeepsNodes old new
lock_keeps (Ok true) old new locked refused failed = done_keeps with_lock old new (λ s. record { node = λ p. refl; sound = λ e. e }) (locked refl)
lock_keeps (Ok false) old new locked refused failed = same_keeps old new (refused refl)
lock_keeps (Err e) old new locked refused failed = same_keeps old new failed

pub wrote_keeps : (r : Result ℕ CallError) (number : ℕ) (step : ℕ → FileState → FileState) (R : FileState → FileState → Type 0) (old new : Option Modelled)
    → IfOk r (λ n. new ≡ done_by (with_content number (step n)) old) → OnErr r (IsPartlyDone number R old new) → Becomes KeepsNodes old new
wrote_keeps (Ok n) number step R old new wrote failed = done_keeps (with_content number (step n)) old new (λ s. record { node = λ p. refl; sound = λ e. e }) wrote
wrote_keeps (Err e) number step R old new wrote failed = partly_keeps number R old new failed

pub changed_keeps : {T : Type 0} (r : Result T CallError) (number : ℕ) (step : FileState → FileState) (R : FileState → FileState → Type 0) (old new : Option Modelled)
    → OnOk r (new ≡ done_by (with_content number step) old) → OnErr r (IsPartlyDone number R old new) → Becomes KeepsNodes old new
changed_keeps (Ok v) number step R old new done failed = done_keeps (with_content number step) old new (λ s. record { node = λ p. refl; sound = λ e. e }) done
changed_keeps (Err e) number step R old new done failed = partly_keeps number R old new failed

pub synced_keeps : {T : Type 0} (r : Result T CallError) (step : System → System) (old new : Option Modelled) → ((s : System) → KeepsNodes s (step s))
    → OnOk r (new ≡ done_by step old) → OnErr r (IsDoneOrNot with_failed_sync old new) → Becomes KeepsNodes old new
synced_keeps (Ok v) step old new keeps done failed = done_keeps step old new keeps done
synced_keeps (Err e) step old new keeps done failed = maybe_keeps with_failed_sync old new failed_sync failed

pub removed_keeps : {T : Type 0} (r : Result T CallError) (path : List ℕ) (step : System → System) (old new : Option Modelled) → ((s : System) → KeepsNodesBut path s (step s))
    → OnOk r (new ≡ done_by step old) → OnErr r (IsDoneOrNot step old new) → Becomes (KeepsNodesBut path) old new
removed_keeps (Ok v) path step old new keeps done failed = done_keeps_but path step old new keeps done
removed_keeps (Err e) path step old new keeps done failed = maybe_keeps_but path step old new keeps failed

pub folder_keeps : (r : Result Bool CallError) (path : List ℕ) (step : System → System) (old new : Option Modelled) → ((s : System) → KeepsNodesBut path s (step s))
    → IfOk r (λ made. made ≡ true → new ≡ done_by step old) → IfOk r (λ made. made ≡ false → new ≡ old) → OnErr r (IsDoneOrNot step old new) → Becomes (KeepsNodesBut path) old new
folder_keeps (Ok true) path step old new keeps made kept failed = done_keeps_but path step old new keeps (made refl)
folder_keeps (Ok false) path step old new keeps made kept failed = maybe_keeps_but path step old new keeps (inl (kept refl))
folder_keeps (Err e) path step old new keeps made kept failed = maybe_keeps_but path step old new keeps failed

-- where a file is open a folder can't be made
pub not_free : {T : Type 0} (number : T → ℕ) (m : Option Modelled) (path : List ℕ) (files : List (OpenFile T)) → AreKept number m files → IsOpenAt path files → IfSound m (λ s. (false ≡ true) ↔ (s.node path ≡ Nothing))
not_free number None path files kept is = tt
not_free number (Some m) path files kept is = λ sound.
    let there : kind.File ≡ kind_of_node (m.now.node path) = open_stands number (Some m) path files kept is sound in
    (λ e. absurd (false≢true e), λ e. absurd (let d : kind.File ≡ kind.Nothing = there ∙ ap kind_of_node e in cc))
