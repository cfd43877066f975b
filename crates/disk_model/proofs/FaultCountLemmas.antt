-- Counts of faults, call by call.
use Rattle.std.proofs.Common.{◌≡◌, inl, inr, ◌≤◌, ℕ, Result, Ok, Err, refl, ◌∙◌, ap, arith}
use Rattle.std.proofs.lemmas.Bool.{false≢true}
use Rattle.std.specs.Prelude.{IsOk, IsErr, IsErrOf}
use Rattle.mdbox_base.specs.Streams.{Rose}
use Rattle.disk_model.specs.Disk.{Faults, ReadCause, ChangeCause}
use Rattle.disk_model.specs.FaultCounts.{NoFault, ReadFaultCounted, ChangeFaultCounted, AnyFaultCounted}
use Rattle.disk_model.specs.declared.error.DiskError.{DiskError}
use Rattle.disk_model.specs.declared.error.DiskError.TheVariants.{Failed, Absent}

-- a count that rose later rose since
rose-since : (start old new : Faults) → start.reads ≤ old.reads → Rose old.reads new.reads → Rose start.reads new.reads
rose-since start old new no_less rose = omega (arith, no_less, rose)

change_rose-since : (start old new : Faults) → start.changes ≤ old.changes → Rose old.changes new.changes → Rose start.changes new.changes
change_rose-since start old new no_less rose = omega (arith, no_less, rose)

-- no call failed

counts : ℕ → ℕ → Faults
counts reads changes = record { reads = reads; changes = changes }

pub no_fault-of_counts : (old new : Faults) → new.reads ≡ old.reads → new.changes ≡ old.changes → NoFault old new
unfolding counts
no_fault-of_counts old new reads changes = ap (λ (n : ℕ). counts n new.changes) reads ∙ ap (counts old.reads) changes

pub no_fault-then : (old now new : Faults) → NoFault old now → NoFault now new → NoFault old new
no_fault-then old now new first second = second ∙ first

pub no_fault-read : {T : Type 0} → (r : Result T DiskError) (old new : Faults) → (IsErrOf r Failed → ⊥) → ReadCause r old new → NoFault old new
no_fault-read r old new unfailed cause = no_fault-of_counts old new (cause.unfailed unfailed) cause.changes

pub no_fault-change : {T : Type 0} → (r : Result T DiskError) (old new : Faults) → IsOk r → ChangeCause r old new → NoFault old new
no_fault-change r old new ok cause = no_fault-of_counts old new cause.reads (cause.unfailed ok)

-- reads

pub read_fault-none : {F : Type 0} → (old new : Faults) → (F → ⊥) → NoFault old new → ReadFaultCounted F old new
read_fault-none old new unfailed same = record {
  reads = let e = ap (λ (f : Faults). f.reads) same in omega (arith, e);
  changes = ap (λ (f : Faults). f.changes) same;
  rose = λ f. absurd (unfailed f);
}

pub read_fault-begins : {F : Type 0} → (old : Faults) → (F → ⊥) → ReadFaultCounted F old old
read_fault-begins old unfailed = read_fault-none old old unfailed refl

pub read_fault-map : {F G : Type 0} → (old new : Faults) → (G → F) → ReadFaultCounted F old new → ReadFaultCounted G old new
read_fault-map old new f counted = record { reads = counted.reads; changes = counted.changes; rose = λ g. counted.rose (f g) }

-- calls so far, and one more that counted where this holds
pub read_fault-then : {E F : Type 0} → (old now new : Faults) → ReadFaultCounted E old now → ReadFaultCounted F now new → ReadFaultCounted F old new
read_fault-then old now new first second = record {
  reads = let a = first.reads in let b = second.reads in omega (arith, a, b);
  changes = second.changes ∙ first.changes;
  rose = λ f. rose-since old now new first.reads (second.rose f);
}

-- calls that counted where this holds, and more
pub read_fault-goes_on : {E F : Type 0} → (old now new : Faults) → ReadFaultCounted F old now → ReadFaultCounted E now new → ReadFaultCounted F old new
read_fault-goes_on old now new first second = record {
  reads = let a = first.reads in let b = second.reads in omega (arith, a, b);
  changes = second.changes ∙ first.changes;
  rose = λ f. let r = first.rose f in let b = second.reads in omega (arith, r, b);
}

pub read_fault-call : {T : Type 0} → (r : Result T DiskError) (old new : Faults) → ReadCause r old new → ReadFaultCounted (IsErrOf r Failed) old new
read_fault-call r old new cause = record { reads = cause.no_less; changes = cause.changes; rose = cause.failed }

-- one that isn't answered by absence, as a look for the next name
pub read_fault-present : {T : Type 0} → (r : Result T DiskError) (old new : Faults) → (IsErrOf r Absent → ⊥) → ReadCause r old new → ReadFaultCounted (IsErr r) old new
read_fault-present r old new present cause = read_fault-map old new (failed r present) (read_fault-call r old new cause)
  where
    failed : {T : Type 0} → (r : Result T DiskError) → (IsErrOf r Absent → ⊥) → IsErr r → IsErrOf r Failed
    failed (Ok x) present err = absurd (false≢true err)
    failed (Err Failed) present err = refl
    failed (Err Absent) present err = absurd (present refl)

-- changes

pub change_fault-none : {F : Type 0} → (old new : Faults) → (F → ⊥) → NoFault old new → ChangeFaultCounted F old new
change_fault-none old new unfailed same = record {
  reads = ap (λ (f : Faults). f.reads) same;
  changes = let e = ap (λ (f : Faults). f.changes) same in omega (arith, e);
  rose = λ f. absurd (unfailed f);
}

pub change_fault-begins : {F : Type 0} → (old : Faults) → (F → ⊥) → ChangeFaultCounted F old old
change_fault-begins old unfailed = change_fault-none old old unfailed refl

pub change_fault-map : {F G : Type 0} → (old new : Faults) → (G → F) → ChangeFaultCounted F old new → ChangeFaultCounted G old new
change_fault-map old new f counted = record { reads = counted.reads; changes = counted.changes; rose = λ g. counted.rose (f g) }

pub change_fault-then : {E F : Type 0} → (old now new : Faults) → ChangeFaultCounted E old now → ChangeFaultCounted F now new → ChangeFaultCounted F old new
change_fault-then old now new first second = record {
  reads = second.reads ∙ first.reads;
  changes = let a = first.changes in let b = second.changes in omega (arith, a, b);
  rose = λ f. change_rose-since old now new first.changes (second.rose f);
}

pub change_fault-goes_on : {E F : Type 0} → (old now new : Faults) → ChangeFaultCounted F old now → ChangeFaultCounted E now new → ChangeFaultCounted F old new
change_fault-goes_on old now new first second = record {
  reads = second.reads ∙ first.reads;
  changes = let a = first.changes in let b = second.changes in omega (arith, a, b);
  rose = λ f. let r = first.rose f in let b = second.changes in omega (arith, r, b);
}

pub change_fault-call : {T : Type 0} → (r : Result T DiskError) (old new : Faults) → ChangeCause r old new → ChangeFaultCounted (IsErr r) old new
change_fault-call r old new cause = record {
  reads = cause.reads;
  changes = cause.no_less;
  rose = λ err. (cause.failed err).1;
}

-- reads and changes

pub any_fault-none : {F : Type 0} → (old new : Faults) → (F → ⊥) → NoFault old new → AnyFaultCounted F old new
any_fault-none old new unfailed same = record {
  reads = let e = ap (λ (f : Faults). f.reads) same in omega (arith, e);
  changes = let e = ap (λ (f : Faults). f.changes) same in omega (arith, e);
  rose = λ f. absurd (unfailed f);
}

pub any_fault-begins : {F : Type 0} → (old : Faults) → (F → ⊥) → AnyFaultCounted F old old
any_fault-begins old unfailed = any_fault-none old old unfailed refl

pub any_fault-map : {F G : Type 0} → (old new : Faults) → (G → F) → AnyFaultCounted F old new → AnyFaultCounted G old new
any_fault-map old new f counted = record { reads = counted.reads; changes = counted.changes; rose = λ g. counted.rose (f g) }

pub any_fault-of_read : {F : Type 0} → (old new : Faults) → ReadFaultCounted F old new → AnyFaultCounted F old new
any_fault-of_read old new counted = record {
  reads = counted.reads;
  changes = let e = counted.changes in omega (arith, e);
  rose = λ f. inl (counted.rose f);
}

pub any_fault-of_change : {F : Type 0} → (old new : Faults) → ChangeFaultCounted F old new → AnyFaultCounted F old new
any_fault-of_change old new counted = record {
  reads = let e = counted.reads in omega (arith, e);
  changes = counted.changes;
  rose = λ f. inr (counted.rose f);
}

pub any_fault-then : {E F : Type 0} → (old now new : Faults) → AnyFaultCounted E old now → AnyFaultCounted F now new → AnyFaultCounted F old new
any_fault-then old now new first second = record {
  reads = let a = first.reads in let b = second.reads in omega (arith, a, b);
  changes = let a = first.changes in let b = second.changes in omega (arith, a, b);
  rose = λ f. elim (second.rose f) [
    | inl reads ↦ inl (rose-since old now new first.reads reads)
    | inr changes ↦ inr (change_rose-since old now new first.changes changes)
  ];
}

pub any_fault-goes_on : {E F : Type 0} → (old now new : Faults) → AnyFaultCounted F old now → AnyFaultCounted E now new → AnyFaultCounted F old new
any_fault-goes_on old now new first second = record {
  reads = let a = first.reads in let b = second.reads in omega (arith, a, b);
  changes = let a = first.changes in let b = second.changes in omega (arith, a, b);
  rose = λ f. elim (first.rose f) [
    | inl r ↦ inl (let b = second.reads in omega (arith, r, b))
    | inr r ↦ inr (let b = second.changes in omega (arith, r, b))
  ];
}
