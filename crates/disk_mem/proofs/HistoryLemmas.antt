-- The history that a record tells, call by call.
use Rattle.std.proofs.Common.{◌≡◌, inl, inr, ℕ, zero, suc, ◌+◌, ◌-◌, ◌^◌, ◌<◌, ◌≤◌, List, [], ◌∷◌, ◌++◌, Some, refl, sym, ◌∙◌, ap, arith, add-one}
use Rattle.std.proofs.lemmas.Bool.{cases_lt}
use Rattle.disk_model.specs.Disk.{History, calls, joined_by, Unchanged}
use Rattle.disk_mem.specs.declared.file.File.{File}
use Rattle.disk_mem.specs.declared.note.Note.{Note}
use Rattle.disk_mem.specs.Record.{stepped, waited, played, from_rest, told_of}
use Rattle.disk_mem.specs.Numbers.{next}

pub waited-now : (k : ℕ) (h : History) → (waited k h).now ≡ h.now
waited-now zero h = refl
waited-now (suc k) h = waited-now k h

pub waited-calls : (k : ℕ) (h : History) → calls (waited k h) ≡ calls h + k
waited-calls zero h = omega arith
waited-calls (suc k) h = omega (arith, waited-calls k h)

pub waited-more : (k : ℕ) (h : History) → waited (k + 1) h ≡ joined_by (waited k h).now (waited k h)
waited-more k h = rw add-one refl

pub played-push : (notes : List Note) (note : Note) (h : History)
    → played (notes ++ note ∷ []) h ≡ joined_by (stepped note (waited note.idle (played notes h)).now) (waited note.idle (played notes h))
played-push [] note h = refl
played-push (first ∷ notes) note h = played-push notes note (joined_by (stepped first (waited first.idle h).now) (waited first.idle h))

pub told-begun : (base : List File) → told_of base [] 0 ≡ from_rest base
unfolding told_of
told-begun base = refl

pub told-noted : (base : List File) (notes : List Note) (note : Note)
    → told_of base (notes ++ note ∷ []) 0 ≡ joined_by (stepped note (told_of base notes note.idle).now) (told_of base notes note.idle)
unfolding told_of
told-noted base notes note = played-push notes note (from_rest base)

pub told-waits : (base : List File) (notes : List Note) (idle : ℕ)
    → told_of base notes (idle + 1) ≡ joined_by (told_of base notes idle).now (told_of base notes idle)
unfolding told_of
told-waits base notes idle = waited-more idle (played notes (from_rest base))

pub told-now : (base : List File) (notes : List Note) (idle other : ℕ) → (told_of base notes idle).now ≡ (told_of base notes other).now
unfolding told_of
told-now base notes idle other = waited-now idle (played notes (from_rest base)) ∙ sym (waited-now other (played notes (from_rest base)))

pub told-full : (base : List File) (notes : List Note) (idle : ℕ) → 2 ^ 64 - 1 ≤ idle → 2 ^ 64 ≤ calls (told_of base notes idle) + 1
unfolding told_of
told-full base notes idle full = omega (arith, waited-calls idle (played notes (from_rest base)))

-- a call that changes nothing
pub unchanged-waits : (base : List File) (notes : List Note) (idle : ℕ) → idle < 2 ^ 64
    → Unchanged (Some (told_of base notes idle)) (Some (told_of base notes (next idle)))
unchanged-waits base notes idle fits = elim (cases_lt idle (2 ^ 64 - 1)) [
  | inl below ↦
      let e : next idle ≡ idle + 1 = omega arith in
      inl (ap Some (ap (told_of base notes) e ∙ told-waits base notes idle))
  | inr full ↦
      let e : next idle ≡ idle = omega arith in
      inr (ap Some (ap (told_of base notes) e), told-full base notes idle full)
]
