-- Relations of the states at two times, over calls.
use Rattle.std.proofs.Common.{◌≡◌, ◌≢◌, inl, inr, Option, Some, None, refl, sym, subst}
use Rattle.disk_model.specs.Disk.{FileState, DiskState, History, IfTold, IsTold, Between, SameState, Unchanged, AfterFailed, after, change, reading}
use Rattle.disk_model.specs.declared.name.FileName.{FileName}
use Rattle.disk_model.proofs.OneFileLemmas.{change-other}

-- no call yet
pub between-begins : (R : DiskState → DiskState → Type 0) (h : Option History) → ((disk : DiskState) → R disk disk) → Between R h h
between-begins R None r = refl
between-begins R (Some h) r = r h.now

-- one after another
pub between-then : (R S T : DiskState → DiskState → Type 0) (old now new : Option History) → ((a b c : DiskState) → R a b → S b c → T a c)
    → Between R old now → Between S now new → Between T old new
between-then R S T None None new f r s = s
between-then R S T None (Some now) new f r s = absurd (let e : Some now ≡ None = r in cc)
between-then R S T (Some old) None new f r s = elim r [ ]
between-then R S T (Some old) (Some now) None f r s = elim s [ ]
between-then R S T (Some old) (Some now) (Some new) f r s = f old.now now.now new.now r s

pub between-map : (R S : DiskState → DiskState → Type 0) (old new : Option History) → ((a b : DiskState) → R a b → S a b) → Between R old new → Between S old new
between-map R S None new f r = r
between-map R S (Some old) None f r = r
between-map R S (Some old) (Some new) f r = f old.now new.now r

pub between-both : (R S T : DiskState → DiskState → Type 0) (old new : Option History) → ((a b : DiskState) → R a b → S a b → T a b)
    → Between R old new → Between S old new → Between T old new
between-both R S T None new f r s = r
between-both R S T (Some old) None f r s = r
between-both R S T (Some old) (Some new) f r s = f old.now new.now r s

-- with a fact of the first state, or of the last

pub between-if : (R S : DiskState → DiskState → Type 0) (P : DiskState → Type 0) (old new : Option History) → ((a b : DiskState) → R a b → P a → S a b)
    → Between R old new → IfTold old P → Between S old new
between-if R S P None new f r p = r
between-if R S P (Some old) None f r p = r
between-if R S P (Some old) (Some new) f r p = f old.now new.now r p

pub between-since : (R S : DiskState → DiskState → Type 0) (P : DiskState → Type 0) (old new : Option History) → ((a b : DiskState) → R a b → P b → S a b)
    → Between R old new → IfTold new P → Between S old new
between-since R S P None new f r p = r
between-since R S P (Some old) None f r p = r
between-since R S P (Some old) (Some new) f r p = f old.now new.now r p

-- a fact of the last state by one of the first, and back

pub between-on : (R : DiskState → DiskState → Type 0) (P Q : DiskState → Type 0) (old new : Option History) → ((a b : DiskState) → R a b → P a → Q b)
    → Between R old new → IfTold old P → IfTold new Q
between-on R P Q None new f r p = subst (λ (h : Option History). IfTold h Q) (sym r) tt
between-on R P Q (Some old) None f r p = elim r [ ]
between-on R P Q (Some old) (Some new) f r p = f old.now new.now r p

pub between-back : (R : DiskState → DiskState → Type 0) (P Q : DiskState → Type 0) (old new : Option History) → ((a b : DiskState) → R a b → P b → Q a)
    → Between R old new → IfTold new P → IfTold old Q
between-back R P Q None new f r p = tt
between-back R P Q (Some old) None f r p = elim r [ ]
between-back R P Q (Some old) (Some new) f r p = f old.now new.now r p

-- a disk that tells goes on to tell
pub between-told : (R : DiskState → DiskState → Type 0) (old new : Option History) → Between R old new → IsTold old → IsTold new
between-told R None new r told = elim told [ ]
between-told R (Some old) None r told = elim r [ ]
between-told R (Some old) (Some new) r told = tt

-- one call

pub between-step : (R : DiskState → DiskState → Type 0) (step : DiskState → DiskState) (old new : Option History) → new ≡ after step old
    → ((disk : DiskState) → R disk (step disk)) → Between R old new
between-step R step None new is r = is
between-step R step (Some old) new is r = subst (λ (h : Option History). Between R (Some old) h) (sym is) (r old.now)

pub between-unchanged : (R : DiskState → DiskState → Type 0) (old new : Option History) → Unchanged old new → ((disk : DiskState) → R disk disk) → Between R old new
between-unchanged R old new (inl is) r = between-step R (λ disk. disk) old new is r
between-unchanged R old new (inr same) r = subst (λ (h : Option History). Between R old h) (sym same.0) (between-begins R old r)

-- a file that a failed call was not about reads as before
pub between-failed : (step : DiskState → DiskState) (old new : Option History) → AfterFailed step old new
    → Between (λ a b. (name : FileName) → step a name ≡ a name → reading (b name) ≡ reading (a name)) old new
between-failed step None new failed = failed
between-failed step (Some old) None failed = elim failed [ ]
between-failed step (Some old) (Some new) (inl within) = λ name e.
    let F : History → Type 0 = λ h. reading (h.now name) ≡ reading (old.now name) in
    subst F (sym within.is) (within.reads name e)
between-failed step (Some old) (Some new) (inr same) = λ name e.
    let F : History → Type 0 = λ h. reading (h.now name) ≡ reading (old.now name) in
    subst F (sym same.0) refl

pub failed-others : (name : FileName) (step : FileState → FileState) (old new : Option History) → AfterFailed (change name step) old new
    → Between (λ a b. (other : FileName) → other ≢ name → reading (b other) ≡ reading (a other)) old new
failed-others name step old new failed =
    between-map _ _ old new (λ a b reads other apart. reads other (change-other name other step a apart)) (between-failed (change name step) old new failed)

-- one more call

pub between-after : (R S : DiskState → DiskState → Type 0) (P : DiskState → Type 0) (step : DiskState → DiskState) (old now new : Option History)
    → ((a b : DiskState) → R a b → P b → S a (step b)) → Between R old now → IfTold now P → new ≡ after step now → Between S old new
between-after R S P step None None new f r p is = is
between-after R S P step None (Some now) new f r p is = absurd (let e : Some now ≡ None = r in cc)
between-after R S P step (Some old) None new f r p is = elim r [ ]
between-after R S P step (Some old) (Some now) new f r p is = subst (λ (h : Option History). Between S (Some old) h) (sym is) (f old.now now.now r p)

-- and calls that change nothing, before or behind

pub between-same : (R : DiskState → DiskState → Type 0) (old now new : Option History) → Between R old now → SameState now new → Between R old new
between-same R old now new r same = between-then R (λ b c. c ≡ b) R old now new (λ a b c q e. subst (R a) (sym e) q) r same

pub same-between : (R : DiskState → DiskState → Type 0) (old now new : Option History) → SameState old now → Between R now new → Between R old new
same-between R old now new same r = between-then (λ a b. b ≡ a) R R old now new (λ a b c e q. subst (λ (d : DiskState). R d c) e q) same r

pub between-goes_on : (R : DiskState → DiskState → Type 0) (old now new : Option History) → Between R old now → Unchanged now new → Between R old new
between-goes_on R old now new r unchanged = between-same R old now new r (between-unchanged (λ a b. b ≡ a) now new unchanged (λ disk. refl))
