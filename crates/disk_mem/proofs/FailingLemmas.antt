-- Calls that failed, and what they leave.
use Rattle.std.proofs.Common.{◌≡◌, inl, inr, ℕ, true, false, ◌||◌, List, Option, Some, None, Result, Ok, Err, OnOk, OnErr, refl, sym, ◌∙◌, ap, subst, arith, ◌≤◌, length}
use Rattle.std.proofs.lemmas.Bool.{cases_Bool, cond-true, cond-false, or_parts}
use Rattle.disk_model.specs.Disk.{Files, FileState, DiskState, History, MayLeave, IsImage, Unchanged, AfterFailed, joined_by, after, change, written, half_written}
use Rattle.disk_model.specs.Name.{same_name}
use Rattle.disk_model.specs.declared.name.FileName.{FileName}
use Rattle.disk_mem.specs.declared.text.Text.{Text}
use Rattle.disk_mem.specs.declared.note.Change.{Change}
use Rattle.disk_mem.specs.declared.note.Change.TheVariants.{Written, HalfWritten, HalfCut, HalfMade, HalfRemoved}
use Rattle.disk_mem.specs.Record.{changed, is_for_all, is_half, done}

pub failed_still : (step : DiskState → DiskState) (h g : History) → ((image : Files) → IsImage h.now image → IsImage (step h.now) image)
    → Unchanged (Some h) (Some g) → AfterFailed step (Some h) (Some g)
failed_still step h g wider (inl is) =
    let e : g ≡ joined_by h.now h = let t : Some g ≡ Some (joined_by h.now h) = is in cc in
    inl (record { state = h.now; is = e; at_least = λ image of. of; at_most = wider; reads = λ name same. refl })
failed_still step h g wider (inr same) =
    let e : g ≡ h = let t : Some g ≡ Some h = same.0 in cc in
    inr (e, same.1)

pub half_wider : (half : Change) (f : FileState) (left : Option (List ℕ)) → is_half half ≡ true → MayLeave f left → MayLeave (changed half f) left
half_wider (HalfWritten at n) f None h (inl gone) = inl gone
half_wider (HalfWritten at n) f None h (inr loose) = inr loose
half_wider (HalfWritten at n) f (Some octets) h holds = record {
  named = holds.named;
  least = holds.least;
  greatest = let g : length octets ≤ f.greatest = holds.greatest in omega arith;
  same = λ i below firm. holds.same i below (or_parts _ _ firm).0;
  are_octets = holds.are_octets;
}
half_wider (HalfCut n) f None h (inl gone) = inl gone
half_wider (HalfCut n) f None h (inr loose) = inr loose
half_wider (HalfCut n) f (Some octets) h holds = record {
  named = holds.named;
  least = let l : f.least ≤ length octets = holds.least in omega arith;
  greatest = holds.greatest;
  same = λ i below firm. holds.same i (omega arith) firm;
  are_octets = holds.are_octets;
}
half_wider HalfMade f None h leaves = inr refl
half_wider HalfMade f (Some octets) h holds = record {
  named = inr refl;
  least = omega arith;
  greatest = holds.greatest;
  same = λ i below firm. absurd (omega arith);
  are_octets = holds.are_octets;
}
half_wider HalfRemoved f None h leaves = inr refl
half_wider HalfRemoved f (Some octets) h holds = record {
  named = inr refl;
  least = holds.least;
  greatest = holds.greatest;
  same = holds.same;
  are_octets = holds.are_octets;
}
half_wider _ f left h leaves = absurd (let e : false ≡ true = h in cc)

pub done_wider : (own : FileName) (half : Change) (disk : DiskState) (image : Files) → is_half half ≡ true → IsImage disk image → IsImage (done own half disk) image
done_wider own half disk image h is = λ name. elim (cases_Bool (is_for_all half || same_name name own)) [
  | inl its ↦
      let F : FileState → Type 0 = λ f. MayLeave f (image name) in
      subst F (sym (cond-true (is_for_all half || same_name name own) (changed half (disk name)) (disk name) its)) (half_wider half (disk name) (image name) h (is name))
  | inr other ↦
      let F : FileState → Type 0 = λ f. MayLeave f (image name) in
      subst F (sym (cond-false (is_for_all half || same_name name own) (changed half (disk name)) (disk name) other)) (is name)
]

pub failed_done : (own : FileName) (half : Change) (h g : History) → is_half half ≡ true → Unchanged (Some h) (Some g) → AfterFailed (done own half) (Some h) (Some g)
failed_done own half h g is unchanged = failed_still (done own half) h g (λ image of. done_wider own half h.now image is of) unchanged

pub failed_sync : (h g : History) → Unchanged (Some h) (Some g) → AfterFailed (λ disk. disk) (Some h) (Some g)
failed_sync h g unchanged = failed_still (λ disk. disk) h g (λ image of. of) unchanged

pub write_state : (name : FileName) (at : ℕ) (text : Text) (from : List ℕ) (h g : History) → text.octets.items ≡ from
    → g ≡ joined_by (done name (Written at text) h.now) h → Some g ≡ after (change name (written at from)) (Some h)
unfolding change
write_state name at text from h g same is =
    let F : List ℕ → History = λ octets. joined_by (change name (written at octets) h.now) h in
    let e : g ≡ F text.octets.items = is in
    ap Some (e ∙ ap F same)

pub write_failed : (name : FileName) (at n m : ℕ) (h g : History) → n ≡ m → AfterFailed (done name (HalfWritten at n)) (Some h) (Some g)
    → AfterFailed (change name (half_written at m)) (Some h) (Some g)
unfolding change
write_failed name at n m h g same failed =
    let F : ℕ → Type 0 = λ k. AfterFailed (change name (half_written at k)) (Some h) (Some g) in
    subst F same failed

pub write_starved : (name : FileName) (at n : ℕ) (h g : History) → Unchanged (Some h) (Some g) → AfterFailed (change name (half_written at n)) (Some h) (Some g)
write_starved name at n h g unchanged = write_failed name at n n h g refl (failed_done name (HalfWritten at n) h g refl unchanged)

pub on_err_all : {T E : Type 0} (r : Result T E) {P : Type 0} → P → OnErr r P
on_err_all (Ok x) p = tt
on_err_all (Err x) p = p

pub on_ok_all : {T E : Type 0} (r : Result T E) {P : Type 0} → P → OnOk r P
on_ok_all (Ok x) p = p
on_ok_all (Err x) p = tt
