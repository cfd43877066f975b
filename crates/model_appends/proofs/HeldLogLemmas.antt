-- A settled disk leaves its logs as it reads them, and how logs compare is known from their heads and entries.
use Rattle.model_appends.proofs.Common.{◌≡◌, ℕ, List, Bool, true, false, Option, Contains, refl, sym, ◌∙◌, subst, All-contains, Files, DiskState, IsImage, reading, same_name, same_name-true, same_name-apart, FileName, Lists, MapBox, map_meaning, files_of, IsSettled, LeavesAsRead}
use Rattle.disk_model.specs.Disk.{MayLeave}
use Rattle.disk_model.specs.declared.name.FileName.TheVariants as file
use Rattle.model_appends.proofs.AppendFileLemmas.{mixed, mixed-here, mixed-other}

-- an image with what may be left of one file, and the rest as the disk reads it
one_left : (log : FileName) (disk : DiskState) (left : Option (List ℕ)) → IsImage disk (files_of disk) → MayLeave (disk log) left → IsImage disk (mixed log (λ name. left) (files_of disk))
one_left log disk left own may = λ name. by_test (same_name name log) name refl
  where
    by_test : (t : Bool) (name : FileName) → same_name name log ≡ t → MayLeave (disk name) (mixed log (λ name. left) (files_of disk) name)
    by_test true name e =
        subst (λ (n : FileName). MayLeave (disk n) (mixed log (λ name. left) (files_of disk) n)) (sym (same_name-true name log e)) (subst (λ (o : Option (List ℕ)). MayLeave (disk log) o) (sym (mixed-here log (λ name. left) (files_of disk))) may)
    by_test false name e = subst (λ (o : Option (List ℕ)). MayLeave (disk name) o) (sym (mixed-other log name (λ name. left) (files_of disk) (same_name-apart name log e))) (own name)

-- a file on which each image agrees with the disk is left as it reads
left_as_read : (log : FileName) (disk : DiskState) → IsImage disk (files_of disk) → ((image : Files) → IsImage disk image → image log ≡ reading (disk log)) → LeavesAsRead log disk
left_as_read log disk own alike = λ left may. sym (mixed-here log (λ name. left) (files_of disk)) ∙ alike (mixed log (λ name. left) (files_of disk)) (one_left log disk left own may)

pub holds_root : (disk : DiskState) (lists : Lists) → IsSettled disk lists → IsImage disk (files_of disk) → LeavesAsRead file.Root disk
holds_root disk lists s own = left_as_read file.Root disk own (λ image i. (s.alike image i).root)

pub holds_map : (disk : DiskState) (lists : Lists) → (s : IsSettled disk lists) → IsImage disk (files_of disk) → LeavesAsRead (file.Map s.safe.stands.map_log.generation) disk
holds_map disk lists s own = left_as_read (file.Map s.safe.stands.map_log.generation) disk own (λ image i. (s.alike image i).map)

pub holds_box : (disk : DiskState) (lists : Lists) (box : MapBox) → (s : IsSettled disk lists) → IsImage disk (files_of disk) → Contains (map_meaning s.store s.entries).boxes box → LeavesAsRead (file.Box box.number box.generation) disk
holds_box disk lists box s own there = left_as_read (file.Box box.number box.generation) disk own (λ image i.
    All-contains (λ (b : MapBox). image (file.Box b.number b.generation) ≡ files_of disk (file.Box b.number b.generation)) (map_meaning s.store s.entries).boxes box (s.alike image i).boxes there)
