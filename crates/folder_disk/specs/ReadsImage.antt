-- What a disk over a folder reads is one of its images.
use Rattle.std.specs.Prelude.{◌≡◌, ℕ, Bool, true, List, Option, Some, None, refl}
use Rattle.std.proofs.Common.{inl, inr, sym, subst}
use Rattle.std.proofs.Math.Logic.{∥∥₁_elim}
use Rattle.std.proofs.Props.{props}
use Rattle.std.proofs.lemmas.Bool.{cases_Bool, cond-true, cond-false}
use Rattle.disk_model.specs.Disk.{FileState, DiskState, MayHold, MayLeave, IsImage, IfTold, reading}
use Rattle.disk_record.specs.declared.change.Change.{Change}
use Rattle.disk_record.specs.Record.{history_of}
use Rattle.folder_model.specs.System.{System}
use Rattle.folder_model.specs.Calls.{Modelled}
use Rattle.folder_disk.specs.Start.{started_disk}
use Rattle.folder_disk.specs.Over.{IsDiskOver, told_history}

-- what is read is an image
pub hold_is : (f : FileState) → f.is_there ≡ true → MayLeave f (reading f) → MayHold f f.octets
hold_is f there left = let F : Option (List ℕ) → Type 0 = MayLeave f in subst F (cond-true f.is_there (Some f.octets) None there) left

pub over_reads : (m : Option Modelled) (past : List System) (changes : List (Change × List ℕ)) (spoiled : Bool) → ∥ IsDiskOver m past changes spoiled ∥₁
    → IfTold (told_history m changes) (λ state. IsImage state (λ name. reading (state name)))
over_reads None past changes spoiled over = tt
over_reads (Some m) past changes spoiled over = λ name.
    let f = (history_of (started_disk m.start) changes).now name in
    elim (cases_Bool f.is_there) [
      | inl there ↦
          let F : Option (List ℕ) → Type 0 = MayLeave f in
          subst F (sym (cond-true f.is_there (Some f.octets) None there)) (record {
            named = inl there;
            least = ∥∥₁_elim over (hlevel props) (λ o. (hold_is f there (o.disk.reads name)).least);
            greatest = ∥∥₁_elim over (hlevel props) (λ o. (hold_is f there (o.disk.reads name)).greatest);
            same = λ i below firm. refl;
            are_octets = λ k d below. ∥∥₁_elim over (hlevel props) (λ o. (hold_is f there (o.disk.reads name)).are_octets k d below);
          })
      | inr gone ↦
          let F : Option (List ℕ) → Type 0 = MayLeave f in
          subst F (sym (cond-false f.is_there (Some f.octets) None gone)) (inl gone)
    ]
