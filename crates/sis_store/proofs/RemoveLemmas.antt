-- What a crash may leave of a file that is removed, and of the others.
use Rattle.std.specs.Prelude.{◌⊎◌}
use Rattle.std.proofs.Common.{◌≡◌, inl, inr, ℕ, List, Option, Some, None, true, false, refl}
use Rattle.disk_model.specs.Disk.{FileState, History, MayLeave, IsThere, IfTold, AfterFailed, EachImage, after, change, removed, half_removed}
use Rattle.disk_model.specs.declared.name.FileName.{FileName}
use Rattle.disk_model.proofs.OneFileLemmas.{IsAlong, Along, along-begins, along-goes_on, along-fails}

-- what the images have of the file
abbrev pub P : FileName → Option History → Option (List ℕ) → Type 0
P name old left = IfTold old (λ disk. (left ≡ None) ⊎ MayLeave (disk name) left)

-- of a file that is there

removed_left : (f : FileState) → f.is_there ≡ true → (left : Option (List ℕ)) → MayLeave (removed f) left → (left ≡ None) ⊎ MayLeave f left
removed_left f there None h = inl refl
removed_left f there (Some o) h = inr (record { named = inl there; least = h.least; greatest = h.greatest; same = h.same; are_octets = h.are_octets })

half_removed_left : (f : FileState) → f.is_there ≡ true → (left : Option (List ℕ)) → MayLeave (half_removed f) left → (left ≡ None) ⊎ MayLeave f left
half_removed_left f there None h = inl refl
half_removed_left f there (Some o) h = inr (record { named = inl there; least = h.least; greatest = h.greatest; same = h.same; are_octets = h.are_octets })

begun : (name : FileName) (old : Option History) → Along name (P name old) old old
begun name None = along-begins name (P name None) None tt
begun name (Some old) = along-begins name (P name (Some old)) (Some old) (λ left h. inr h)

pub fails : (name : FileName) (old new : Option History) → IfTold old (λ now. IsThere (now name)) → AfterFailed (change name half_removed) old new → EachImage (IsAlong name (P name old) old) old new
fails name None new there failed = along-fails name (P name None) half_removed None None new (begun name None) failed tt
fails name (Some old) new there failed = along-fails name (P name (Some old)) half_removed (Some old) (Some old) new (begun name (Some old)) failed (λ left h. half_removed_left (old.now name) there left h)

along : (name : FileName) (old h1 : Option History) → IfTold old (λ now. IsThere (now name)) → h1 ≡ after (change name removed) old → Along name (P name old) old h1
along name None h1 there is = along-goes_on name (P name None) removed None None h1 (begun name None) is tt
along name (Some old) h1 there is = along-goes_on name (P name (Some old)) removed (Some old) (Some old) h1 (begun name (Some old)) is (λ left h. removed_left (old.now name) there left h)

pub goes : (name : FileName) (old h1 : Option History) → IfTold old (λ now. IsThere (now name)) → h1 ≡ after (change name removed) old → EachImage (IsAlong name (P name old) old) old h1
goes name old h1 there is = (along name old h1 there is).each
