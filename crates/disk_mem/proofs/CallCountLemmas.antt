-- How many calls a record stands for.
use Rattle.std.proofs.Common.{◌≡◌, ◌+◌, ℕ, List, [], ◌∷◌, sum_by, arith, refl}
use Rattle.std.proofs.lemmas.List.Sums.{sum_by-cons}
use Rattle.disk_model.specs.Disk.{History, calls, joined_by}
use Rattle.disk_mem.specs.declared.file.File.{File}
use Rattle.disk_mem.specs.declared.note.Note.{Note}
use Rattle.disk_mem.specs.Left.{calls_by}
use Rattle.disk_mem.specs.Record.{stepped, waited, played, from_rest, told_of}
use Rattle.disk_mem.proofs.HistoryLemmas.{waited-calls}

played-calls : (notes : List Note) (h : History) → calls (played notes h) ≡ calls h + sum_by calls_by notes
played-calls [] h = omega arith
played-calls (note ∷ notes) h =
    let g : History = waited note.idle h in
    let long : calls g ≡ calls h + note.idle = waited-calls note.idle h in
    let rest : calls (played notes (joined_by (stepped note g.now) g)) ≡ calls (joined_by (stepped note g.now) g) + sum_by calls_by notes = played-calls notes (joined_by (stepped note g.now) g) in
    let more : calls (joined_by (stepped note g.now) g) ≡ calls g + 1 = omega arith in
    let same : calls (played (note ∷ notes) h) ≡ calls (played notes (joined_by (stepped note g.now) g)) = refl in
    let sum : sum_by calls_by (note ∷ notes) ≡ (note.idle + 1) + sum_by calls_by notes = sum_by-cons calls_by note notes in
    omega (arith, long, rest, more, same, sum)

pub told-calls : (base : List File) (notes : List Note) (idle : ℕ) → calls (told_of base notes idle) ≡ idle + sum_by calls_by notes
unfolding told_of
told-calls base notes idle =
    let long = waited-calls idle (played notes (from_rest base)) in
    let all = played-calls notes (from_rest base) in
    omega (arith, long, all)
