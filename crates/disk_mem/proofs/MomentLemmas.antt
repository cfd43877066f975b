-- The state at each moment, by the notes.
use Rattle.std.proofs.Common.{◌≡◌, inl, inr, ℕ, zero, suc, ◌+◌, ◌-◌, ◌≤◌, List, [], ◌∷◌, take, Some, refl, sym, ◌∙◌, ap, arith, nat_lt, add-one}
use Rattle.std.proofs.lemmas.Bool.{cases_lt, cond-true, cond-false, lt-ltb, le-ltb}
use Rattle.disk_model.specs.Disk.{DiskState, History, calls, joined_by, state_at}
use Rattle.disk_model.specs.declared.name.FileName.{FileName}
use Rattle.disk_model.proofs.MomentLemmas.{state_at-now, state_at-joined}
use Rattle.disk_mem.specs.declared.file.File.{File}
use Rattle.disk_mem.specs.declared.note.Note.{Note}
use Rattle.disk_mem.specs.Left.{noted}
use Rattle.disk_mem.specs.Record.{stepped, at_file, file_after, waited, played, from_rest, told_of}
use Rattle.disk_mem.proofs.HistoryLemmas.{waited-now, waited-calls}

waited_keeps : (k : ℕ) (h : History) (m : ℕ) → m ≤ calls h → state_at (waited k h) m ≡ state_at h m
waited_keeps zero h m below = refl
waited_keeps (suc k) h m below =
    let long = waited-calls k h in
    state_at-joined (waited k h).now (waited k h) m (let l : calls (waited k h) ≡ calls h + k = long in omega (arith, l, below)) ∙ waited_keeps k h m below

waited_at : (k : ℕ) (h : History) (m : ℕ) → m ≤ k → state_at (waited k h) (calls h + m) ≡ Some h.now
waited_at zero h m below =
    let e : calls h + m ≡ calls h = let z : m ≡ 0 = omega arith in omega (arith, z) in
    ap (state_at h) e ∙ state_at-now h
waited_at (suc k) h m below = elim (cases_lt k m) [
  | inl past ↦
      let e : calls h + m ≡ calls (waited (suc k) h) = let l = waited-calls (suc k) h in omega (arith, l) in
      ap (state_at (waited (suc k) h)) e ∙ state_at-now (waited (suc k) h) ∙ ap Some (waited-now (suc k) h)
  | inr within ↦
      let long = waited-calls k h in
      state_at-joined (waited k h).now (waited k h) (calls h + m) (let l : calls (waited k h) ≡ calls h + k = long in omega (arith, l)) ∙ waited_at k h m within
]

played_keeps : (notes : List Note) (h : History) (m : ℕ) → m ≤ calls h → state_at (played notes h) m ≡ state_at h m
played_keeps [] h m below = refl
played_keeps (note ∷ notes) h m below =
    let g = waited note.idle h in
    let long : calls g ≡ calls h + note.idle = waited-calls note.idle h in
    let within : m ≤ calls g = omega (arith, long) in
    let more : calls (joined_by (stepped note g.now) g) ≡ calls g + 1 = omega arith in
    played_keeps notes (joined_by (stepped note g.now) g) m (omega (arith, within, more))
    ∙ state_at-joined (stepped note g.now) g m within
    ∙ waited_keeps note.idle h m below

played_grows : (notes : List Note) (h : History) (m : ℕ) → m ≤ calls h → m ≤ calls (played notes h)
played_grows [] h m below = below
played_grows (note ∷ notes) h m below =
    let g = waited note.idle h in
    let long : calls g ≡ calls h + note.idle = waited-calls note.idle h in
    let more : calls (joined_by (stepped note g.now) g) ≡ calls g + 1 = omega arith in
    played_grows notes (joined_by (stepped note g.now) g) m (omega (arith, long, more))

moment_at : (notes : List Note) (h : History) (idle m : ℕ) → calls h + m ≤ calls (waited idle (played notes h))
    → state_at (waited idle (played notes h)) (calls h + m) ≡ Some (played (take (noted m notes) notes) h).now
moment_at [] h idle m below = waited_at idle h m (let l : calls (waited idle h) ≡ calls h + idle = waited-calls idle h in omega (arith, l, below))
moment_at (note ∷ notes) h idle m below =
    let g = waited note.idle h in
    let next = joined_by (stepped note g.now) g in
    let long : calls g ≡ calls h + note.idle = waited-calls note.idle h in
    let more : calls next ≡ calls g + 1 = omega arith in
    elim (cases_lt note.idle m) [
      | inl past ↦
          let e : calls next + (m - (note.idle + 1)) ≡ calls h + m = omega (arith, long, more) in
          let rest : state_at (waited idle (played notes next)) (calls next + (m - (note.idle + 1))) ≡ Some (played (take (noted (m - (note.idle + 1)) notes) notes) next).now =
          moment_at notes next idle (m - (note.idle + 1)) (omega (arith, e, below)) in
          let count : noted m (note ∷ notes) ≡ suc (noted (m - (note.idle + 1)) notes) =
          cond-true (nat_lt note.idle m) (noted (m - (note.idle + 1)) notes + 1) 0 (lt-ltb note.idle m past) ∙ add-one _ in
          ap (state_at (waited idle (played notes next))) (sym e) ∙ rest
          ∙ ap (λ n. Some (played (take n (note ∷ notes)) h).now) (sym count)
      | inr before ↦
          let count : noted m (note ∷ notes) ≡ 0 = cond-false (nat_lt note.idle m) (noted (m - (note.idle + 1)) notes + 1) 0 (le-ltb note.idle m before) in
          let within : calls h + m ≤ calls g = omega (arith, long) in
          let last : calls g ≤ calls (played notes next) = played_grows notes next (calls g) (omega (arith, more)) in
          waited_keeps idle (played notes next) (calls h + m) (omega (arith, within, last))
          ∙ played_keeps notes next (calls h + m) (omega (arith, within, more))
          ∙ state_at-joined (stepped note g.now) g (calls h + m) within
          ∙ waited_at note.idle h m before
          ∙ ap (λ n. Some (played (take n (note ∷ notes)) h).now) (sym count)
    ]

pub told_at : (base : List File) (notes : List Note) (idle m : ℕ) → m ≤ calls (told_of base notes idle)
    → state_at (told_of base notes idle) m ≡ Some (played (take (noted m notes) notes) (from_rest base)).now
unfolding told_of
told_at base notes idle m below =
    let none : calls (from_rest base) ≡ 0 = refl in
    let e : calls (from_rest base) + m ≡ m = omega (arith, none) in
    ap (state_at (waited idle (played notes (from_rest base)))) (sym e) ∙ moment_at notes (from_rest base) idle m (omega (arith, e, below))

pub played-file : (notes : List Note) (h : History) (name : FileName) → (played notes h).now name ≡ file_after name notes (h.now name)
played-file [] h name = refl
played-file (note ∷ notes) h name =
    played-file notes (joined_by (stepped note (waited note.idle h).now) (waited note.idle h)) name
    ∙ ap (λ (disk : DiskState). file_after name notes (at_file name note (disk name))) (waited-now note.idle h)
