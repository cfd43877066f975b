-- What a disk in memory reads is one of its images.
use Rattle.std.specs.Prelude.{◌≡◌, ℕ, zero, suc, ◌+◌, ◌-◌, ◌<◌, ◌≤◌, min, false, ◌||◌, List, [], ◌∷◌, ◌++◌, length, take, drop, Option, Some, None, refl, All}
use Rattle.std.proofs.Common.{inl, inr, sym, ◌∙◌, ap, subst, arith, length-append, length-drop}
use Rattle.std.proofs.lemmas.Bool.{cases_Bool, cond-true, cond-false}
use Rattle.std.proofs.lemmas.List.{length-take}
use Rattle.std.proofs.lemmas.List.Elements.{All-append, All-take, All-drop}
use Rattle.disk_model.specs.Disk.{FileState, History, MayLeave, IsImage, reading, no_file, still, joined_by, overlaid, named}
use Rattle.disk_model.specs.Name.{same_name}
use Rattle.disk_model.specs.declared.name.FileName.{FileName}
use Rattle.disk_mem.specs.declared.file.File.{File}
use Rattle.disk_mem.specs.declared.note.Note.{Note}
use Rattle.disk_mem.specs.declared.note.Change.{Change}
use Rattle.disk_mem.specs.declared.note.Change.TheVariants.{Written, HalfWritten, Cut, HalfCut, Synced, Made, HalfMade, Removed, HalfRemoved, NamesSynced}
use Rattle.disk_mem.specs.Record.{changed, is_for_all, at_name, stepped, waited, played, found, at_rest, from_rest, told_of}

pub record IsSound (f : FileState) : Type 0 where
  pub least : f.least ≤ length f.octets
  pub greatest : length f.octets ≤ f.greatest
  pub are_octets : All (λ octet. octet < 256) f.octets

overlaid-fit : (old : List ℕ) (at : ℕ) (text : List ℕ) → All (λ octet. octet < 256) old → All (λ octet. octet < 256) text → All (λ octet. octet < 256) (overlaid old at text)
overlaid-fit old at text a b =
    All-append (λ octet. octet < 256) (take at old ++ text) (drop (at + length text) old)
    (All-append (λ octet. octet < 256) (take at old) text (All-take (λ octet. octet < 256) at old a) b)
    (All-drop (λ octet. octet < 256) (at + length text) old a)

pub length-overlaid : (old : List ℕ) (at : ℕ) (text : List ℕ) → length (overlaid old at text) ≡ min at (length old) + length text + (length old - (at + length text))
length-overlaid old at text =
    length-append (take at old ++ text) (drop (at + length text) old)
    ∙ ap (λ n. n + length (drop (at + length text) old)) (length-append (take at old) text ∙ ap (λ n. n + length text) (length-take at old))
    ∙ ap (λ n. min at (length old) + length text + n) (length-drop (at + length text) old)

named_sound : (f : FileState) → IsSound f → IsSound (named f)
named_sound f s = elim (cases_Bool f.is_there) [
  | inl there ↦ subst IsSound (sym (cond-true f.is_there (record f { is_name_loose = false }) no_file there))
      (record { least = s.least; greatest = s.greatest; are_octets = s.are_octets })
  | inr gone ↦ subst IsSound (sym (cond-false f.is_there (record f { is_name_loose = false }) no_file gone))
      (record { least = omega arith; greatest = omega arith; are_octets = λ k d below. absurd (omega (arith, below)) })
]

pub changed_sound : (change : Change) (f : FileState) → IsSound f → IsSound (changed change f)
changed_sound (Written at text) f s =
    let e = length-overlaid f.octets at text.octets.items in
    let l : f.least ≤ length f.octets = s.least in
    let g : length f.octets ≤ f.greatest = s.greatest in
    record {
      least = omega (arith, e, l, g);
      greatest = omega (arith, e, l, g);
      are_octets = overlaid-fit f.octets at text.octets.items s.are_octets text.fit;
    }
changed_sound (HalfWritten at n) f s =
    let g : length f.octets ≤ f.greatest = s.greatest in
    record { least = s.least; greatest = omega (arith, g); are_octets = s.are_octets }
changed_sound (Cut n) f s =
    let e = length-take n f.octets in
    let l : f.least ≤ length f.octets = s.least in
    let g : length f.octets ≤ f.greatest = s.greatest in
    record { least = omega (arith, e, l); greatest = omega (arith, e, g); are_octets = All-take (λ octet. octet < 256) n f.octets s.are_octets }
changed_sound (HalfCut n) f s =
    let l : f.least ≤ length f.octets = s.least in
    record { least = omega (arith, l); greatest = s.greatest; are_octets = s.are_octets }
changed_sound Synced f s = record { least = omega arith; greatest = omega arith; are_octets = s.are_octets }
changed_sound Made f s = record { least = omega arith; greatest = omega arith; are_octets = λ k d below. absurd (omega (arith, below)) }
changed_sound HalfMade f s = record { least = omega arith; greatest = s.greatest; are_octets = s.are_octets }
changed_sound Removed f s = record { least = s.least; greatest = s.greatest; are_octets = s.are_octets }
changed_sound HalfRemoved f s = record { least = s.least; greatest = s.greatest; are_octets = s.are_octets }
changed_sound NamesSynced f s = named_sound f s

pub at_name_sound : (own : FileName) (change : Change) (name : FileName) (f : FileState) → IsSound f → IsSound (at_name own change name f)
at_name_sound own change name f s = elim (cases_Bool (is_for_all change || same_name name own)) [
  | inl is ↦ subst IsSound (sym (cond-true (is_for_all change || same_name name own) (changed change f) f is)) (changed_sound change f s)
  | inr other ↦ subst IsSound (sym (cond-false (is_for_all change || same_name name own) (changed change f) f other)) s
]

pub still_sound : (octets : List ℕ) → All (λ octet. octet < 256) octets → IsSound (still octets)
still_sound octets fit = record { least = omega arith; greatest = omega arith; are_octets = fit }

pub no_file_sound : IsSound no_file
no_file_sound = record { least = omega arith; greatest = omega arith; are_octets = λ k d below. absurd (omega (arith, below)) }

pub rest_sound : (file : Option File) → IsSound (at_rest file)
rest_sound None = no_file_sound
rest_sound (Some file) = elim (cases_Bool file.is_there) [
  | inl there ↦ subst IsSound (sym (cond-true file.is_there (still file.text.octets.items) no_file there)) (still_sound file.text.octets.items file.text.fit)
  | inr gone ↦ subst IsSound (sym (cond-false file.is_there (still file.text.octets.items) no_file gone)) no_file_sound
]

pub waited_sound : (k : ℕ) (h : History) → ((name : FileName) → IsSound (h.now name)) → (name : FileName) → IsSound ((waited k h).now name)
waited_sound zero h s = s
waited_sound (suc k) h s = waited_sound k h s

pub played_sound : (notes : List Note) (h : History) → ((name : FileName) → IsSound (h.now name)) → (name : FileName) → IsSound ((played notes h).now name)
played_sound [] h s = s
played_sound (note ∷ notes) h s = played_sound notes (joined_by (stepped note (waited note.idle h).now) (waited note.idle h))
    (λ name. at_name_sound note.name note.change name ((waited note.idle h).now name) (waited_sound note.idle h s name))

pub told_sound : (base : List File) (notes : List Note) (idle : ℕ) (name : FileName) → IsSound ((told_of base notes idle).now name)
unfolding told_of
told_sound base notes idle = waited_sound idle (played notes (from_rest base)) (played_sound notes (from_rest base) (λ name. rest_sound (found base name)))

-- a file as it reads is what a crash may leave
pub reading_left : (f : FileState) → IsSound f → MayLeave f (reading f)
reading_left f s = elim (cases_Bool f.is_there) [
  | inl there ↦
      let F : Option (List ℕ) → Type 0 = MayLeave f in
      subst F (sym (cond-true f.is_there (Some f.octets) None there))
      (record { named = inl there; least = s.least; greatest = s.greatest; same = λ i below firm. refl; are_octets = s.are_octets })
  | inr gone ↦
      let F : Option (List ℕ) → Type 0 = MayLeave f in
      subst F (sym (cond-false f.is_there (Some f.octets) None gone)) (inl gone)
]

-- the law of a disk in memory
pub told_reads_image : (base : List File) (notes : List Note) (idle : ℕ) → IsImage (told_of base notes idle).now (λ name. reading ((told_of base notes idle).now name))
told_reads_image base notes idle name = reading_left ((told_of base notes idle).now name) (told_sound base notes idle name)
