-- A piece that is read behind those before it.
use Rattle.mail_fetch.proofs.Common.{◌≡◌, ◌≤◌, ◌+◌, ℕ, List, ◌∷◌, ◌++◌, length, take, drop, Option, sym, ◌∙◌, ap, subst, arith, length-append, length-take, sum_by, sum_by-cons, [], take-append_seam, length-take, DiskState, History, IfTold, files_of, next_piece, octets_to_read, with_piece, left_after, part_read, RegionValue}
use Rattle.mail_fetch.proofs.Common.{IsPart, Part, StoredAt}
use Rattle.std.specs.Prelude.{All, ◌<◌, ◌⊎◌, min, vec_capacity}
use Rattle.std.specs.Global.{Vec}
use Rattle.mail_fetch.specs.Parts.{first_read}
use Rattle.mail_fetch.specs.Room.{IsPartlyRead}
use Rattle.mail_fetch.proofs.PartLemmas.{first_size, range_after, sizes_after}

-- A block into which a piece was read.
pub block_now : (new old : List ℕ) (len : ℕ) → length new ≡ 65536 → len ≡ 65536 → take len (new ++ drop (length new) old) ≡ new
block_now new old len long is = ap (λ (n : ℕ). take n (new ++ drop (length new) old)) (is ∙ sym long) ∙ take-append_seam new (drop (length new) old)

-- The piece is no longer than the first one that is left may be.
pub piece_few : (left rest : List Part) (part : Part) (block : List ℕ) (count : ℕ) → left ≡ part ∷ rest → count ≤ min 65536 part.size → length (take count block) ≤ first_size left
piece_few left rest part block count at few = subst (λ (ps : List Part). length (take count block) ≤ first_size ps) (sym at) (let size = length-take count block in omega (arith, size, few))

-- There is room for it.
pub piece_fits : (from : StoredAt) (total : ℕ) (head : Vec ℕ) (read : List ℕ) (left : List Part) (piece : List ℕ) → IsPartlyRead from total head read left → length piece ≤ first_size left → length read + length piece ≤ octets_to_read from
piece_fits from total head read left piece h few = let fits = h.fits in let is = h.total_is in let sizes = sizes_after left in omega (arith, fits, is, sizes, few)

-- what a disk told of the first part is the next piece
pub next_told : (history : Option History) (left rest : List Part) (part : Part) (piece : List ℕ) → left ≡ part ∷ rest
    → IfTold history (λ now. piece ≡ part_read (files_of now) (record part { size = min 65536 part.size })) → IfTold history (λ now. piece ≡ first_read (files_of now) left)
next_told history left rest part piece at h = subst (λ (ps : List Part). IfTold history (λ (now : DiskState). piece ≡ first_read (files_of now) ps)) (sym at) h

-- The message with the piece behind it, as it is seen.
pub piece_seen : (history : Option History) (region seen : RegionValue) (joined piece : List ℕ) (after : List Part) → region ≡ seen → joined ≡ region.octets ++ piece → after ≡ left_after region.left → IfTold history (λ now. piece ≡ first_read (files_of now) region.left)
    → (read : List ℕ) × IfTold history (λ disk. read ≡ next_piece seen disk) × (record { from = region.from; octets = joined; left = after } ≡ with_piece seen read)
piece_seen history region seen joined piece after same joins goes told =
    subst (λ (r : RegionValue). (read : List ℕ) × IfTold history (λ (disk : DiskState). read ≡ next_piece r disk) × (record { from = region.from; octets = joined; left = after } ≡ with_piece r read)) same
    (piece, told, ap (λ (xs : List ℕ). as_read xs after) joins ∙ ap (as_read (region.octets ++ piece)) goes)
  where
    as_read : List ℕ → List Part → RegionValue
    as_read xs ps = record { from = region.from; octets = xs; left = ps }

-- There is still room.
pub room_on : (from : StoredAt) (total : ℕ) (head more_head : Vec ℕ) (read more : List ℕ) (left after : List Part) (piece : List ℕ) → IsPartlyRead from total head read left → vec_capacity head ≤ vec_capacity more_head
    → more ≡ read ++ piece → length piece ≤ first_size left → after ≡ left_after left → IsPartlyRead from total more_head more after
room_on from total head more_head read more left after piece h heads items few goes = record {
  total_is = h.total_is;
  head_room = let first = h.head_room in omega (arith, first, heads);
  fits =
      let fits = h.fits in
      let long = ap (λ (xs : List ℕ). length xs) items ∙ length-append read piece in
      let sizes = sizes_after left in
      let now : sum_by (λ (part : Part). part.size) after ≡ sum_by (λ (part : Part). part.size) (left_after left) = ap (sum_by (λ (part : Part). part.size)) goes in
      omega (arith, fits, long, sizes, now, few);
  each = subst (All IsPart) (sym goes) (range_after left h.each);
}

-- how many octets the parts have that are left
abbrev pub octets_left : List Part → ℕ
octets_left parts = sum_by (λ part. part.size) parts

-- with the piece read there are fewer
pub left_less : (left after : List Part) (piece : List ℕ) → after ≡ left_after left → length piece ≤ first_size left → octets_left after + length piece ≤ octets_left left
left_less left after piece goes few = let sizes = sizes_after left in let now = ap octets_left goes in omega (arith, sizes, now, few)

-- what is left behind the first part, once that is passed
pub first_passed : (old new now : List Part) (next after : ℕ) → next ≡ 0 → now ≡ new → (after ≡ next) ⊎ (after ≡ next + 1) → drop (next + 1) new ≡ drop (next + 1) old → (0 < after → drop after now ≡ drop 1 old) × (after ≡ 0 → drop 1 now ≡ drop 1 old)
first_passed old new now next after first is goes same =
    let one : next + 1 ≡ 1 = omega (arith, first) in
    let behind : drop 1 now ≡ drop 1 old = ap (drop 1) is ∙ (ap (λ (n : ℕ). drop n new) (sym one) ∙ same ∙ ap (λ (n : ℕ). drop n old) one) in
    (λ some. let at : after ≡ 1 = omega (arith, some, first, goes) in ap (λ (n : ℕ). drop n now) at ∙ behind, λ none. behind)

-- while the region isn't passed, what was read is of it
pub region_within : (from : StoredAt) (total : ℕ) (head : Vec ℕ) (read : List ℕ) (parts : List Part) (next : ℕ) → IsPartlyRead from total head read (drop next parts) → next ≡ 0 → octets_left (drop 1 parts) ≡ sum_by (λ row. row.size) from.instances → length read ≤ from.size
region_within from total head read parts next h first behind =
    let fits = h.fits in
    let is = h.total_is in
    let here = ap (λ (n : ℕ). octets_left (drop n parts)) first in
    let more = fewer_behind parts in
    omega (arith, fits, is, here, more, behind)
  where
    fewer_behind : (ps : List Part) → octets_left (drop 1 ps) ≤ octets_left ps
    fewer_behind [] = omega arith
    fewer_behind (p ∷ ps) = let sum = sum_by-cons (λ (q : Part). q.size) p ps in omega (arith, sum)

-- once it is passed, the instances are left
pub region_passed : (from : StoredAt) (total : ℕ) (head : Vec ℕ) (read : List ℕ) (after old : List Part) → IsPartlyRead from total head read after → after ≡ drop 1 old → octets_left (drop 1 old) ≡ sum_by (λ row. row.size) from.instances
    → (length read ≤ from.size) × (octets_left after ≤ sum_by (λ row. row.size) from.instances)
region_passed from total head read after old h goes behind =
    let fits = h.fits in
    let is = h.total_is in
    let now = ap octets_left goes in
    (omega (arith, fits, is, now, behind), omega (arith, now, behind))
