-- Files at rest, and what a crash leaves of them.
use Rattle.std.proofs.Common.{◌≤◌, length, ◌≡◌, ◌↔◌, inl, inr, ℕ, ◌<◌, List, Option, Some, None, All, refl, sym, ◌∙◌, ap, subst, arith}
use Rattle.std.proofs.lemmas.Bool.{false≢true, true≢false}
use Rattle.disk_model.specs.Disk.{Files, FileState, DiskState, MayLeave, IsImage, IsAtRest, Keeps, IsThere, no_file, still, reading}
use Rattle.disk_model.specs.declared.name.FileName.{FileName}
use Rattle.disk_model.proofs.OneFileLemmas.{same_by_get}

none_leaves : (left : Option (List ℕ)) → MayLeave no_file left → left ≡ None
none_leaves None leaves = refl
none_leaves (Some octets) holds = elim holds.named [ inl there ↦ absurd (false≢true there) | inr loose ↦ absurd (false≢true loose) ]

-- a file that stands still is left as it reads
pub still_leaves : (text : List ℕ) (octets : Option (List ℕ)) → MayLeave (still text) octets → octets ≡ Some text
still_leaves text None (inl gone) = absurd (true≢false gone)
still_leaves text None (inr loose) = absurd (false≢true loose)
still_leaves text (Some octets) holds =
    let long : length octets ≡ length text = let a : length text ≤ length octets = holds.least in let b : length octets ≤ length text = holds.greatest in omega arith in
    let same : octets ≡ text = same_by_get octets text long (λ i below. holds.same i below refl) in
    ap Some same

still_left : (text : List ℕ) → All (λ octet. octet < 256) text → MayLeave (still text) (Some text)
still_left text are = record { named = inl refl; least = omega arith; greatest = omega arith; same = λ i below firm. refl; are_octets = are }

pub still_keeps : (text : List ℕ) → All (λ octet. octet < 256) text → Keeps (still text) text
still_keeps text are = record {
  reads = refl;
  leaves = λ left. (still_leaves text left, λ e. let F : Option (List ℕ) → Type 0 = MayLeave (still text) in subst F (sym e) (still_left text are));
}

-- a crash leaves of a file at rest just what it reads
pub at_rest-leaves : (f : FileState) → IsAtRest f → (left : Option (List ℕ)) → MayLeave f left ↔ (left ≡ reading f)
at_rest-leaves f (inl none) left = subst F (sym none) (none_leaves left, λ e. subst (MayLeave no_file) (sym e) (inl refl))
  where
    F : FileState → Type 0
    F g = MayLeave g left ↔ (left ≡ reading g)
at_rest-leaves f (inr (text, are, is)) left = subst F (sym is) ((still_keeps text are).leaves left)
  where
    F : FileState → Type 0
    F g = MayLeave g left ↔ (left ≡ reading g)

-- a file at rest that reads these octets keeps them
pub at_rest-keeps : (f : FileState) (text : List ℕ) → IsAtRest f → reading f ≡ Some text → Keeps f text
at_rest-keeps f text rests reads = record {
  reads = reads;
  leaves = λ left. (λ h. (at_rest-leaves f rests left).0 h ∙ reads, λ e. (at_rest-leaves f rests left).1 (e ∙ sym reads));
}

-- a file at rest that isn't there is none
pub at_rest-none : (f : FileState) → IsAtRest f → (IsThere f → ⊥) → f ≡ no_file
at_rest-none f (inl none) gone = none
at_rest-none f (inr (text, are, is)) gone = absurd (gone (ap (λ (g : FileState). g.is_there) is))

-- the images of a disk at rest are what it reads
pub at_rest-images : (disk : DiskState) → ((name : FileName) → IsAtRest (disk name)) → (image : Files) → IsImage disk image ↔ ((name : FileName) → image name ≡ reading (disk name))
at_rest-images disk rests image = (
  λ is name. (at_rest-leaves (disk name) (rests name) (image name)).0 (is name),
  λ same name. (at_rest-leaves (disk name) (rests name) (image name)).1 (same name),
)
