-- Counts of faults behind calls that did not fail.
use Rattle.std.proofs.Common.{Ok, Err, refl, sym, subst}
use Rattle.std.specs.Prelude.{IsErrOf}
use Rattle.disk_model.specs.Disk.{Faults, ReadCause}
use Rattle.disk_model.specs.FaultCounts.{NoFault, ChangeFaultCounted, AnyFaultCounted}
use Rattle.disk_model.specs.declared.error.DiskError.{DiskError}
use Rattle.disk_model.specs.declared.error.DiskError.TheVariants.{Absent}
use Rattle.disk_model.proofs.FaultCountLemmas.{read_fault-present, any_fault-of_read, any_fault-map, change_fault-map, no_fault-read}
use Rattle.store_sweep.specs.Moments.{NoFailedChange}

-- what was counted since was counted before
pub any_since : {F G : Type 0} → (old now new : Faults) → NoFault old now → F → AnyFaultCounted F now new → AnyFaultCounted G old new
any_since {F} {G} old now new same failed counted = subst (λ (f : Faults). AnyFaultCounted G f new) same (any_fault-map now new (λ _. failed) counted)

pub change_since : {F G : Type 0} → (old now new : Faults) → NoFault old now → F → ChangeFaultCounted F now new → ChangeFaultCounted G old new
change_since {F} {G} old now new same failed counted = subst (λ (f : Faults). ChangeFaultCounted G f new) same (change_fault-map now new (λ _. failed) counted)

-- a look for the next name that failed
pub name_since : {T G : Type 0} → (e : DiskError) (old now new : Faults) → NoFault old now → (IsErrOf {T = T} (Err e) Absent → ⊥) → ReadCause {T = T} (Err e) now new → AnyFaultCounted G old new
name_since {T} {G} e old now new same present cause = any_since old now new same refl (any_fault-of_read now new (read_fault-present (Err e) now new present cause))

-- no failed change was counted since either
pub none_since : {F G : Type 0} → (old now new : Faults) → NoFault old now → F → NoFailedChange F old new → NoFailedChange G now new
none_since {F} {G} old now new same failed none = λ g. subst (λ (f : Faults). NoFailedChange F f new) (sym same) none failed

-- a read that was answered Ok
pub read_ok : {T : Type 0} → (x : T) (old new : Faults) → ReadCause {T = T} (Ok x) old new → NoFault old new
read_ok x old new cause = no_fault-read (Ok x) old new (λ failed. cc failed) cause
