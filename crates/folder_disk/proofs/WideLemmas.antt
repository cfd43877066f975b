-- What a crash may leave of a disk after a part of a change it may leave after the change.
use Rattle.folder_disk.proofs.Common.{◌≡◌, inl, inr, ℕ, ◌+◌, ◌<◌, ◌≤◌, ◌||◌, if◌then◌else◌, Bool, true, false, List, length, take, slice_get, Option, Some, None, refl, sym, ◌∙◌, ap, subst, arith, cases_Bool, cond-true, cond-false, false≢true, FileState, DiskState, History, AfterFailed, after}
use Rattle.folder_disk.proofs.Common.{MayLeave, reading, written, half_written, half_cut, half_made, half_removed, same_name, FileName, same_name-true, System, Change, state_after, IsFailedChange, CoversSystem}
use Rattle.std.proofs.Common.{max}
use Rattle.std.proofs.lemmas.Bool.Decides.{nat_tests}
use Rattle.std.proofs.lemmas.List.{length-take}
use Rattle.disk_model.specs.Disk.{covers, change}
use Rattle.folder_model.specs.System.{IsHalfWritten, weakened}
use Rattle.folder_model.proofs.PartLemmas.{overlaid-get}
use Rattle.disk_record.specs.declared.change.Change.TheVariants as change
use Rattle.disk_files.specs.Follows.{files_at, half_written_as}

-- what the one file may leave the other may
abbrev pub Leaves : FileState → FileState → Type 0
Leaves less more = (left : Option (List ℕ)) → MayLeave less left → MayLeave more left

or_false : (a b : Bool) → a || b ≡ false → (a ≡ false) × (b ≡ false)
or_false true b e = absurd (false≢true (sym e))
or_false false b e = (refl, e)

-- a part of a range
part_apart : (at size n i : ℕ) → size ≤ n → covers at n i ≡ false → covers at size i ≡ false
part_apart at size n i fewer apart = grind (arith, nat_tests)

-- the first of a write and the whole
pub front_leaves : (f : FileState) (at done : ℕ) (octets : List ℕ) → at ≤ length f.octets → f.least ≤ length f.octets → Leaves (written at (take done octets) f) (written at octets f)
front_leaves f at done octets within least None left = left
front_leaves f at done octets within least (Some text) left =
    let shorter : length (take done octets) ≤ length octets = let e = length-take done octets in omega (arith, e) in
    let greatest : length text ≤ max f.greatest (at + length (take done octets)) = left.greatest in
    record {
      named = left.named;
      least = left.least;
      greatest = omega (arith, shorter, greatest);
      same = λ i below firm.
          let parts = or_false (f.is_loose i) (covers at (length octets) i) firm in
          let apart : covers at (length (take done octets)) i ≡ false = part_apart at (length (take done octets)) (length octets) i shorter parts.1 in
          let within_file : i < length f.octets = omega (arith, below, least) in
          left.same i below (ap (λ b. b || covers at (length (take done octets)) i) parts.0 ∙ apart)
          ∙ overlaid-get f.octets at (take done octets) i within apart within_file
          ∙ sym (overlaid-get f.octets at octets i within parts.1 within_file);
      are_octets = left.are_octets;
    }

-- a write that failed, as its octets read, and as the disk keeps it
pub half_leaves : (f g h : FileState) (at n : ℕ) → f.octets ≡ g.octets → f.least ≤ length f.octets → IsHalfWritten at n g h → Leaves (half_written_as at n h.octets f) (half_written at n f)
half_leaves f g h at n same_octets least half None left = left
half_leaves f g h at n same_octets least half (Some text) left = record {
  named = left.named;
  least = left.least;
  greatest = left.greatest;
  same = λ i below firm.
      let parts = or_false (f.is_loose i) (covers at n i) firm in
      let e : length f.octets ≡ length g.octets = ap length same_octets in
      let is : h.octets ≡ half.octets = ap (λ (k : FileState). k.octets) half.is in
      left.same i below firm ∙ ap (λ l. slice_get l i) is
      ∙ half.same i (omega (arith, below, least, e)) (part_apart at half.size n i half.at_most parts.1) ∙ ap (λ l. slice_get l i) (sym same_octets);
  are_octets = left.are_octets;
}

-- a disk that leaves more covers what the other does
pub covers_more : (disk wide : DiskState) (s : System) → ((name : FileName) → Leaves (disk name) (wide name)) → CoversSystem disk s → CoversSystem wide s
covers_more disk wide s more covers after left name is = more name (files_at after name) (covers after left name is)

-- one file leaves more
pub change_leaves : (name : FileName) (step wide : FileState → FileState) (disk : DiskState) → Leaves (step (disk name)) (wide (disk name))
    → (n : FileName) → Leaves (change name step disk n) (change name wide disk n)
unfolding change
change_leaves name step wide disk more n = elim (cases_Bool (same_name n name)) [
  | inl is ↦
      let e : n ≡ name = same_name-true n name is in
      let F : FileName → Type 0 = λ k. Leaves (step (disk k)) (wide (disk k)) in
      let G : FileState → Type 0 = λ f. Leaves f (change name wide disk n) in
      let H : FileState → Type 0 = λ f. Leaves (step (disk n)) f in
      subst G (sym (cond-true (same_name n name) (step (disk n)) (disk n) is))
      (subst H (sym (cond-true (same_name n name) (wide (disk n)) (disk n) is)) (subst F (sym e) more))
  | inr differs ↦
      let G : FileState → Type 0 = λ f. Leaves f (change name wide disk n) in
      let H : FileState → Type 0 = λ f. Leaves (disk n) f in
      subst G (sym (cond-false (same_name n name) (step (disk n)) (disk n) differs))
      (subst H (sym (cond-false (same_name n name) (wide (disk n)) (disk n) differs)) (λ left may. may))
]

-- the same files, whatever has become of the system besides
pub covers_weakened : (disk : DiskState) (sound : Bool) (s : System) → CoversSystem disk s → CoversSystem disk (weakened sound s)
covers_weakened disk sound s covers after left name is =
    covers after (record { current = left.current; node = left.node; earlier = left.earlier; content = left.content; count = left.count; sound = left.sound; free = left.free }) name is

-- the first of a write, and a write that failed
pub front_half_leaves : (f : FileState) (at done : ℕ) (octets : List ℕ) → at ≤ length f.octets → f.least ≤ length f.octets → Leaves (written at (take done octets) f) (half_written at (length octets) f)
front_half_leaves f at done octets within least None left = left
front_half_leaves f at done octets within least (Some text) left =
    let shorter : length (take done octets) ≤ length octets = let e = length-take done octets in omega (arith, e) in
    let greatest : length text ≤ max f.greatest (at + length (take done octets)) = left.greatest in
    record {
      named = left.named;
      least = left.least;
      greatest = omega (arith, shorter, greatest);
      same = λ i below firm.
          let parts = or_false (f.is_loose i) (covers at (length octets) i) firm in
          let apart : covers at (length (take done octets)) i ≡ false = part_apart at (length (take done octets)) (length octets) i shorter parts.1 in
          left.same i below (ap (λ b. b || covers at (length (take done octets)) i) parts.0 ∙ apart)
          ∙ overlaid-get f.octets at (take done octets) i within apart (omega (arith, below, least));
      are_octets = left.are_octets;
    }

-- The wide file reads as the other one, and a crash may leave more of it.
pub record IsWider (f wide : FileState) : Type 0 where
  pub there : wide.is_there ≡ f.is_there
  pub octets : wide.octets ≡ f.octets
  pub least : wide.least ≤ f.least
  pub greatest : f.greatest ≤ wide.greatest
  pub firm : (i : ℕ) → wide.is_loose i ≡ false → f.is_loose i ≡ false
  pub named : f.is_name_loose ≡ true → wide.is_name_loose ≡ true

pub wider_leaves : (f wide : FileState) → IsWider f wide → Leaves f wide
wider_leaves f wide is None left = elim left [ inl gone ↦ inl (is.there ∙ gone) | inr loose ↦ inr (is.named loose) ]
wider_leaves f wide is (Some text) left =
    let least : wide.least ≤ f.least = is.least in
    let shortest : f.least ≤ length text = left.least in
    let greatest : f.greatest ≤ wide.greatest = is.greatest in
    let longest : length text ≤ f.greatest = left.greatest in
    record {
      named = elim left.named [ inl there ↦ inl (is.there ∙ there) | inr loose ↦ inr (is.named loose) ];
      least = omega (arith, least, shortest);
      greatest = omega (arith, greatest, longest);
      same = λ i below firm. left.same i (omega (arith, below, least)) (is.firm i firm) ∙ ap (λ l. slice_get l i) (sym is.octets);
      are_octets = left.are_octets;
    }

pub wider_reads : (f wide : FileState) → IsWider f wide → MayLeave f (reading f) → MayLeave wide (reading wide)
wider_reads f wide is left =
    let same : reading wide ≡ reading f = ap (λ b. if b then Some wide.octets else None) is.there ∙ ap (λ o. if f.is_there then Some o else None) is.octets in
    let F : Option (List ℕ) → Type 0 = MayLeave wide in
    subst F (sym same) (wider_leaves f wide is (reading f) left)

itself : (f : FileState) → IsWider f f
itself f = record { there = refl; octets = refl; least = omega arith; greatest = omega arith; firm = λ i e. e; named = λ e. e }

wider_change : (name : FileName) (step : FileState → FileState) → ((f : FileState) → IsWider f (step f)) → (disk : DiskState) (n : FileName) → IsWider (disk n) (change name step disk n)
unfolding change
wider_change name step wider disk n = elim (cases_Bool (same_name n name)) [
  | inl is ↦ let F : FileState → Type 0 = IsWider (disk n) in subst F (sym (cond-true (same_name n name) (step (disk n)) (disk n) is)) (wider (disk n))
  | inr differs ↦ let F : FileState → Type 0 = IsWider (disk n) in subst F (sym (cond-false (same_name n name) (step (disk n)) (disk n) differs)) (itself (disk n))
]

pub failed_wider : (c : Change) → IsFailedChange c → (octets : List ℕ) (disk : DiskState) (n : FileName) → IsWider (disk n) (state_after c octets disk n)
failed_wider change.Nothing is octets disk n = itself (disk n)
failed_wider (change.Written name at) is octets disk n = elim is [ ]
failed_wider (change.HalfWritten name at size) is octets disk n = wider_change name (half_written at size) (λ f. record {
  there = refl;
  octets = refl;
  least = omega arith;
  greatest = omega arith;
  firm = λ i e. (or_false (f.is_loose i) (covers at size i) e).0;
  named = λ e. e;
}) disk n
failed_wider (change.Cut name end) is octets disk n = elim is [ ]
failed_wider (change.HalfCut name end) is octets disk n = wider_change name (half_cut end) (λ f. record { there = refl; octets = refl; least = omega arith; greatest = omega arith; firm = λ i e. e; named = λ e. e }) disk n
failed_wider (change.Synced name) is octets disk n = elim is [ ]
failed_wider (change.Made name) is octets disk n = elim is [ ]
failed_wider (change.HalfMade name) is octets disk n = wider_change name half_made (λ f. record { there = refl; octets = refl; least = omega arith; greatest = omega arith; firm = λ i e. e; named = λ e. refl }) disk n
failed_wider (change.Removed name) is octets disk n = elim is [ ]
failed_wider (change.HalfRemoved name) is octets disk n = wider_change name half_removed (λ f. record { there = refl; octets = refl; least = omega arith; greatest = omega arith; firm = λ i e. e; named = λ e. refl }) disk n
failed_wider change.NamesSynced is octets disk n = elim is [ ]

-- what is said of a failed call in the words of `Disk`
pub failed_after : (c : Change) (octets : List ℕ) (old : Option History) → IsFailedChange c → AfterFailed (state_after c octets) old (after (state_after c octets) old)
failed_after c octets None is = refl
failed_after c octets (Some h) is = inl (record {
  state = state_after c octets h.now;
  is = refl;
  at_least = λ image may n. wider_leaves (h.now n) (state_after c octets h.now n) (failed_wider c is octets h.now n) (image n) (may n);
  at_most = λ image may. may;
  reads = λ n same. ap reading same;
})
