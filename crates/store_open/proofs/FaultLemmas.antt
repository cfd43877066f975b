-- Faults of the checks and of the sweep, as an opening answers them.
use Rattle.std.proofs.Common.{◌≡◌, Result, Err, sym, ◌∙◌, ap, subst}
use Rattle.std.specs.Prelude.{IfErr, IsErrOf, IsErrAnd}
use Rattle.std.proofs.lemmas.Result.{err_from_is_err_and}
use Rattle.disk_model.specs.Disk.{Faults}
use Rattle.disk_model.specs.FaultCounts.{NoFault}
use Rattle.store_checks.specs.declared.error.CheckError.{CheckError}
use Rattle.store_checks.specs.declared.error.CheckError.TheVariants as check
use Rattle.store_sweep.specs.Moments.{NoFailedChange}
use Rattle.store_open.specs.Causes.{of_check}
use Rattle.store_open.specs.declared.error.OpenError.{OpenError}
use Rattle.store_open.specs.declared.error.OpenError.TheVariants.{DiskFault}

same_check : {S : Type 0} → (given : CheckError) → IsErrOf {T = S} (Err given) check.DiskFault → given ≡ check.DiskFault
same_check given e = cc e

-- a fault of the checks is answered as one
pub check_fault : {T S : Type 0} → (r : Result T OpenError) (given : CheckError) → IsErrAnd r (λ e. e ≡ of_check given) → IsErrOf {T = S} (Err given) check.DiskFault → IsErrOf r DiskFault
check_fault r given is fault = let p = err_from_is_err_and r is in p.1 ∙ ap Err (p.2 ∙ ap of_check (same_check given fault))

-- and a fault of the sweep is one
pub fault_is : {T : Type 0} → (r : Result T OpenError) → IsErrAnd r (λ e. e ≡ DiskFault) → IsErrOf r DiskFault
fault_is r is = let p = err_from_is_err_and r is in p.1 ∙ ap Err p.2

-- no failed change was counted since
pub none_swept : {F G : Type 0} → (old now new : Faults) → NoFault old now → (G → F) → NoFailedChange F old new → NoFailedChange G now new
none_swept {F} {G} old now new same turn none = λ g. subst (λ (f : Faults). NoFailedChange F f new) (sym same) none (turn g)

-- what holds of an error holds of it as it is answered
pub kept_err : {T : Type 0} → (r : Result T OpenError) (e given : OpenError) (P : OpenError → Type 0) → r ≡ Err e → e ≡ given → P given → IfErr r P
kept_err r e given P is same p = subst (λ (q : Result _ OpenError). IfErr q P) (sym is) (subst P (sym same) p)
