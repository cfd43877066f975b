-- What is read into the middle of a buffer.
use Rattle.std.specs.Prelude.{◌≡◌, ◌≤◌, ℕ, List, ◌++◌, length, take, drop, Option, Some, None, IfOk, Result, Ok, Err}
use Rattle.std.proofs.Common.{◌∙◌, ap}
use Rattle.std.proofs.lemmas.List.{length-take-le, drop_at, take-append-le}
use Rattle.disk_model.specs.Disk.{History, IfTold, reading}
use Rattle.disk_model.specs.declared.name.FileName.TheVariants as file
use Rattle.storage_files.specs.OnDisk.{piece_read}
use Rattle.storage_files.specs.declared.error.DiskFault.{DiskFault}
use borrow.Rule.Slice.PartMut.{put_mid}

-- the front of what was put after the first 30 octets
put_front : (octets into : List ℕ) (k n : ℕ) → 30 ≤ length octets → n ≤ length into → take n (drop 30 (put_mid 30 k octets into)) ≡ take n into
put_front octets into k n long few =
    ap (take n) (drop_at (take 30 octets) (into ++ drop k (drop 30 octets)) 30 (length-take-le 30 octets long)) ∙ take-append-le n into (drop k (drop 30 octets)) few

pub piece_put : (r : Result ℕ DiskFault) (h : Option History) (octets into : List ℕ) (k size wanted offset number : ℕ) → 30 ≤ length octets → size ≡ wanted → IfOk r (λ n. n ≤ length into)
    → IfOk r (λ n. IfTold h (λ now. take n into ≡ piece_read offset size (reading (now (file.Mail number))))) → IfOk r (λ n. IfTold h (λ now. take n (drop 30 (put_mid 30 k octets into)) ≡ piece_read offset wanted (reading (now (file.Mail number)))))
piece_put (Ok n) None octets into k size wanted offset number long same few piece = piece
piece_put (Ok n) (Some h) octets into k size wanted offset number long same few piece =
    put_front octets into k n long few ∙ (piece ∙ ap (λ (x : ℕ). piece_read offset x (reading (h.now (file.Mail number)))) same)
piece_put (Err e) h octets into k size wanted offset number long same few piece = piece
