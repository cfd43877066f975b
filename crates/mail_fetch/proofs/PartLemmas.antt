-- Parts that are read piece by piece.
use Rattle.mail_fetch.proofs.Common.{◌≡◌, ◌≤◌, ◌<◌, ◌+◌, ◌-◌, ℕ, suc, Bool, true, false, cond, List, [], ◌∷◌, ◌++◌, length, take, drop, map, refl, sym, ◌∙◌, ap, subst, arith, All, append_assoc, append-nil, filter, nat_lt, sum_by, if◌then◌else◌, inl, inr, cases_lt, common_steps, take_all}
use Rattle.mail_fetch.proofs.Common.{length-drop, All-cons, All-nil, All-head, All-tail, sum_by-cons, Files, InstRow, KnownInstance, piece_read, KnowsSource, has_octets, instance_part, left_after, octets_to_read, part_read, parts_to_read, parts_read, pieces_left, region_part, source_file, IsPart}
use Rattle.mail_fetch.proofs.Common.{Part, StoredAt}
use Rattle.std.proofs.Common.{◌*◌, ◌^◌, add-one, drop-cons}
use Rattle.std.specs.Prelude.{Option, Some, None, ◌⊎◌, min, slice_index_or}
use Rattle.std.proofs.Math.Seq.{take-add}
use Rattle.std.proofs.lemmas.List.{drop-drop, length-map}
use Rattle.std.proofs.lemmas.Nat.{div-add-mod'}
use Rattle.mail_fetch.specs.Parts.{HasSomeOctets, first_read, pieces_in}
use Rattle.mail_fetch.specs.Task.{most_pieces}

less : (a b : ℕ) → a < b → nat_lt a b ≡ true
less a b l = grind (arith, common_steps, l)

not_less : (a b : ℕ) → b ≤ a → nat_lt a b ≡ false
not_less a b l = grind (arith, common_steps, l)

-- ---- the parts that are left

abbrev size_of_part : Part → ℕ
size_of_part part = part.size

pub range_octets : (parts : List Part) → All IsPart parts → All HasSomeOctets parts
range_octets [] h = All-nil HasSomeOctets
range_octets (p ∷ ps) h = All-cons HasSomeOctets p ps (All-head IsPart p ps h).some (range_octets ps (All-tail IsPart p ps h))

pub some_piece : (size : ℕ) → 1 ≤ size → 0 < pieces_in size
some_piece size h = let e = div-add-mod' (size + 65535) 65536 in omega (arith, h, e)

one_piece_less : (size : ℕ) → 65536 < size → pieces_in (size - 65536) + 1 ≡ pieces_in size
one_piece_less size h =
    let e = div-add-mod' (size + 65535) 65536 in
    let f = div-add-mod' (size - 65536 + 65535) 65536 in
    omega (arith, h, e, f)

last_piece_of : (size : ℕ) → 1 ≤ size → size ≤ 65536 → pieces_in size ≡ 1
last_piece_of size some h = let e = div-add-mod' (size + 65535) 65536 in omega (arith, some, h, e)

few_in : (size : ℕ) → size < 2 ^ 32 → pieces_in size ≤ 65536
few_in size h = let e = div-add-mod' (size + 65535) 65536 in omega (arith, h, e)

few_of : (parts : List Part) → All IsPart parts → pieces_left parts ≤ length parts * 65536
few_of [] each = omega arith
few_of (p ∷ ps) each =
    let all : pieces_left (p ∷ ps) ≡ pieces_in p.size + pieces_left ps = sum_by-cons (λ (q : Part). pieces_in q.size) p ps in
    let one = few_in p.size (All-head IsPart p ps each).size in
    let rest = few_of ps (All-tail IsPart p ps each) in
    omega (arith, all, one, rest)

few_kept : (parts : List Part) → length (filter has_octets parts) ≤ length parts
few_kept [] = omega arith
few_kept (p ∷ ps) = by_test (has_octets p) (few_kept ps)
  where
    by_test : (t : Bool) → length (filter has_octets ps) ≤ length ps → length (cond t (p ∷ filter has_octets ps) (filter has_octets ps)) ≤ length (p ∷ ps)
    by_test true rest = omega (arith, rest)
    by_test false rest = omega (arith, rest)

-- A message with at most 65,535 instances has no more pieces than a message may have.
pub few_pieces : (from : StoredAt) → length from.instances ≤ 65535 → All IsPart (parts_to_read from) → pieces_left (parts_to_read from) ≤ most_pieces
few_pieces from few each =
    let kept = few_kept (region_part from ∷ map instance_part from.instances) in
    let rows = length-map from.instances instance_part in
    let most = few_of (parts_to_read from) each in
    omega (arith, few, kept, rows, most)

-- with the first piece read there is one less
pub pieces_after : (parts : List Part) → All HasSomeOctets parts → 0 < pieces_left parts → pieces_left (left_after parts) + 1 ≡ pieces_left parts
pieces_after [] each some = absurd (omega (arith, some))
pieces_after (p ∷ ps) each some = by_size (cases_lt 65536 p.size)
  where
    rest : Part
    rest = record { source = p.source; offset = p.offset + 65536; size = p.size - 65536 }

    by_size : (65536 < p.size) ⊎ (p.size ≤ 65536) → pieces_left (left_after (p ∷ ps)) + 1 ≡ pieces_left (p ∷ ps)
    by_size (inl more) =
        let now : left_after (p ∷ ps) ≡ record p { offset = p.offset + 65536; size = p.size - 65536 } ∷ ps = ap (λ (b : Bool). if b then record p { offset = p.offset + 65536; size = p.size - 65536 } ∷ ps else ps) (less 65536 p.size more) in
        let sum : pieces_left (left_after (p ∷ ps)) ≡ pieces_in (p.size - 65536) + pieces_left ps = ap pieces_left now ∙ sum_by-cons (λ (q : Part). pieces_in q.size) (record p { offset = p.offset + 65536; size = p.size - 65536 }) ps in
        let all : pieces_left (p ∷ ps) ≡ pieces_in p.size + pieces_left ps = sum_by-cons (λ (q : Part). pieces_in q.size) p ps in
        let one = one_piece_less p.size more in
        omega (arith, sum, all, one)
    by_size (inr last) =
        let now : left_after (p ∷ ps) ≡ ps = ap (λ (b : Bool). if b then record p { offset = p.offset + 65536; size = p.size - 65536 } ∷ ps else ps) (not_less 65536 p.size last) in
        let sum : pieces_left (left_after (p ∷ ps)) ≡ pieces_left ps = ap pieces_left now in
        let all : pieces_left (p ∷ ps) ≡ pieces_in p.size + pieces_left ps = sum_by-cons (λ (q : Part). pieces_in q.size) p ps in
        let one = last_piece_of p.size (All-head HasSomeOctets p ps each) last in
        omega (arith, sum, all, one)

-- what holds of the rest of a part
pub each_after : (P : Part → Type 0) (parts : List Part) → ((p : Part) → 65536 < p.size → P p → P (record p { offset = p.offset + 65536; size = p.size - 65536 })) → All P parts → All P (left_after parts)
each_after P [] on each = each
each_after P (p ∷ ps) on each = by_size (cases_lt 65536 p.size)
  where
    by_size : (65536 < p.size) ⊎ (p.size ≤ 65536) → All P (left_after (p ∷ ps))
    by_size (inl more) = subst (All P) (sym (ap (λ (b : Bool). if b then record p { offset = p.offset + 65536; size = p.size - 65536 } ∷ ps else ps) (less 65536 p.size more)))
        (All-cons P (record p { offset = p.offset + 65536; size = p.size - 65536 }) ps (on p more (All-head P p ps each)) (All-tail P p ps each))
    by_size (inr last) = subst (All P) (sym (ap (λ (b : Bool). if b then record p { offset = p.offset + 65536; size = p.size - 65536 } ∷ ps else ps) (not_less 65536 p.size last))) (All-tail P p ps each)

pub octets_after : (parts : List Part) → All HasSomeOctets parts → All HasSomeOctets (left_after parts)
octets_after parts each = each_after HasSomeOctets parts (λ p more h. omega (arith, more)) each

pub range_after : (parts : List Part) → All IsPart parts → All IsPart (left_after parts)
range_after parts each = each_after IsPart parts (λ p more h. let ends = h.ends in let size = h.size in record { some = omega (arith, more); size = omega (arith, size); ends = omega (arith, more, ends) }) each

pub known_after : (known : List KnownInstance) (parts : List Part) → All (λ p. KnowsSource known p.source) parts → All (λ p. KnowsSource known p.source) (left_after parts)
known_after known parts each = each_after (λ p. KnowsSource known p.source) parts (λ p more h. h) each

-- how many octets the first piece has at the most
abbrev pub first_size : List Part → ℕ
first_size [] = 0
first_size (p ∷ ps) = min 65536 p.size

pub sizes_after : (parts : List Part) → sum_by size_of_part (left_after parts) + first_size parts ≡ sum_by size_of_part parts
sizes_after [] = refl
sizes_after (p ∷ ps) = by_size (cases_lt 65536 p.size)
  where
    by_size : (65536 < p.size) ⊎ (p.size ≤ 65536) → sum_by size_of_part (left_after (p ∷ ps)) + first_size (p ∷ ps) ≡ sum_by size_of_part (p ∷ ps)
    by_size (inl more) =
        let now : left_after (p ∷ ps) ≡ record p { offset = p.offset + 65536; size = p.size - 65536 } ∷ ps = ap (λ (b : Bool). if b then record p { offset = p.offset + 65536; size = p.size - 65536 } ∷ ps else ps) (less 65536 p.size more) in
        let sum : sum_by size_of_part (left_after (p ∷ ps)) ≡ p.size - 65536 + sum_by size_of_part ps = ap (sum_by size_of_part) now ∙ sum_by-cons size_of_part (record p { offset = p.offset + 65536; size = p.size - 65536 }) ps in
        let all : sum_by size_of_part (p ∷ ps) ≡ p.size + sum_by size_of_part ps = sum_by-cons size_of_part p ps in
        omega (arith, sum, all, more)
    by_size (inr last) =
        let now : left_after (p ∷ ps) ≡ ps = ap (λ (b : Bool). if b then record p { offset = p.offset + 65536; size = p.size - 65536 } ∷ ps else ps) (not_less 65536 p.size last) in
        let sum : sum_by size_of_part (left_after (p ∷ ps)) ≡ sum_by size_of_part ps = ap (sum_by size_of_part) now in
        let all : sum_by size_of_part (p ∷ ps) ≡ p.size + sum_by size_of_part ps = sum_by-cons size_of_part p ps in
        omega (arith, sum, all, last)

pub none_left : (parts : List Part) → All HasSomeOctets parts → pieces_left parts ≡ 0 → parts ≡ []
none_left [] each none = refl
none_left (p ∷ ps) each none =
    let all : pieces_left (p ∷ ps) ≡ pieces_in p.size + pieces_left ps = sum_by-cons (λ (q : Part). pieces_in q.size) p ps in
    let one = some_piece p.size (All-head HasSomeOctets p ps each) in
    absurd (omega (arith, all, one, none))

-- ---- parts in a vector

drop_past : (n : ℕ) (parts : List Part) → length parts ≤ n → drop n parts ≡ []
drop_past n parts le = nothing (drop n parts) (let h = length-drop n parts in omega (arith, h, le))
  where
    nothing : (ps : List Part) → length ps ≡ 0 → ps ≡ []
    nothing [] e = refl
    nothing (p ∷ ps) e = absurd (cc e)

-- the part at a place
pub part_next : (parts : List Part) (next : ℕ) (part : Part) → part ≡ slice_index_or parts next part → 0 < pieces_left (drop next parts) → drop next parts ≡ part ∷ drop (next + 1) parts
part_next parts next part is some = by_place (cases_lt next (length parts))
  where
    by_place : (next < length parts) ⊎ (length parts ≤ next) → drop next parts ≡ part ∷ drop (next + 1) parts
    by_place (inl lt) = drop-cons parts next part lt ∙ (ap (λ (p : Part). p ∷ drop (suc next) parts) (sym is) ∙ ap (λ (n : ℕ). part ∷ drop n parts) (sym (add-one next)))
    by_place (inr le) = absurd (let e = ap pieces_left (drop_past next parts le) in omega (arith, e, some))

pub known_next : (known : List KnownInstance) (parts left : List Part) (next : ℕ) (part : Part) → part ≡ slice_index_or parts next part → drop next parts ≡ left → 0 < pieces_left left → All (λ p. KnowsSource known p.source) left → KnowsSource known part.source
known_next known parts left next part is same some each =
    let at = part_next parts next part is (subst (λ (ps : List Part). 0 < pieces_left ps) (sym same) some) in
    All-head (λ (p : Part). KnowsSource known p.source) part (drop (next + 1) parts) (subst (All (λ (p : Part). KnowsSource known p.source)) (sym same ∙ at) each)

-- all parts are read, by the place of the next one
pub read_all : (parts left : List Part) (next len : ℕ) → len ≡ length parts → All IsPart (drop next parts) → drop next parts ≡ left → (len ≤ next → pieces_left left ≡ 0) × (pieces_left left ≡ 0 → len ≤ next)
read_all parts left next len e each same = (
  λ le. ap pieces_left (sym same ∙ drop_past next parts (omega (arith, le, e))),
  λ none. by_place (cases_lt next len) (none_left (drop next parts) (range_octets (drop next parts) each) (ap pieces_left same ∙ none)),
)
  where
    by_place : (next < len) ⊎ (len ≤ next) → drop next parts ≡ [] → len ≤ next
    by_place (inr le) empty = le
    by_place (inl lt) empty = absurd (let h = length-drop next parts in let k = ap (λ (ps : List Part). length ps) empty in omega (arith, h, k, lt, e))

-- A vector that was changed through its slice.
pub written_over_parts : (new there old : List Part) (len : ℕ) → len ≡ length old → there ≡ old → length new ≡ length there → take len (new ++ drop (length new) old) ≡ new
written_over_parts new there old len e same long =
    let many : length there ≡ length old = ap (λ (ps : List Part). length ps) same in
    ap (λ (ps : List Part). take len (new ++ ps)) (drop_past (length new) old (omega (arith, long, many)))
    ∙ (ap (take len) (append-nil new) ∙ take_all len new (omega (arith, e, long, many)))

-- The parts behind the first piece, as they stand in such a vector.
pub passed : (old new there left : List Part) (len next after : ℕ) → len ≡ length old → there ≡ old → length new ≡ length there → drop after new ≡ left_after (drop next there) → drop next old ≡ left → drop after (take len (new ++ drop (length new) old)) ≡ left_after left
passed old new there left len next after e same long goes at =
    ap (drop after) (written_over_parts new there old len e same long) ∙ (goes ∙ (ap (λ (ps : List Part). left_after (drop next ps)) same ∙ ap left_after at))

-- ---- all parts of a message

filter_one : (size : ℕ) (p : Part) (ps : List Part) → p.size ≡ size → (filter has_octets (p ∷ ps) ≡ p ∷ filter has_octets ps) ⊎ ((size ≡ 0) × (filter has_octets (p ∷ ps) ≡ filter has_octets ps))
filter_one size p ps e = by_size (cases_lt 0 size)
  where
    by_size : (0 < size) ⊎ (size ≤ 0) → (filter has_octets (p ∷ ps) ≡ p ∷ filter has_octets ps) ⊎ ((size ≡ 0) × (filter has_octets (p ∷ ps) ≡ filter has_octets ps))
    by_size (inl some) = inl (ap (λ (b : Bool). cond b (p ∷ filter has_octets ps) (filter has_octets ps)) (less 0 p.size (omega (arith, some, e))))
    by_size (inr none) = inr (omega (arith, none), ap (λ (b : Bool). cond b (p ∷ filter has_octets ps) (filter has_octets ps)) (not_less 0 p.size (omega (arith, none, e))))

-- a sum over parts that have octets
sum_kept : (f : Part → ℕ) → ((p : Part) → p.size ≡ 0 → f p ≡ 0) → (ps : List Part) → sum_by f (filter has_octets ps) ≡ sum_by f ps
sum_kept f none [] = refl
sum_kept f none (p ∷ ps) = elim (filter_one p.size p ps refl) [
  | inl e ↦ ap (sum_by f) e ∙ (sum_by-cons f p (filter has_octets ps) ∙ (ap (λ (n : ℕ). f p + n) (sum_kept f none ps) ∙ sym (sum_by-cons f p ps)))
  | inr e ↦ let k = sum_by-cons f p ps in let z = none p e.0 in let rest = sum_kept f none ps in ap (sum_by f) e.1 ∙ (let w : sum_by f (filter has_octets ps) ≡ sum_by f (p ∷ ps) = omega (arith, k, z, rest) in w)
]

sum_of_rows : (f : Part → ℕ) (rows : List InstRow) → sum_by f (map instance_part rows) ≡ sum_by (λ row. f (instance_part row)) rows
sum_of_rows f [] = refl
sum_of_rows f (row ∷ rows) = sum_by-cons f (instance_part row) (map instance_part rows) ∙ (ap (λ (n : ℕ). f (instance_part row) + n) (sum_of_rows f rows) ∙ sym (sum_by-cons (λ (r : InstRow). f (instance_part r)) row rows))

sum_of_parts : (f : Part → ℕ) → ((p : Part) → p.size ≡ 0 → f p ≡ 0) → (from : StoredAt) → sum_by f (parts_to_read from) ≡ f (region_part from) + sum_by (λ row. f (instance_part row)) from.instances
sum_of_parts f none from =
    sum_kept f none (region_part from ∷ map instance_part from.instances)
    ∙ (sum_by-cons f (region_part from) (map instance_part from.instances) ∙ ap (λ (n : ℕ). f (region_part from) + n) (sum_of_rows f from.instances))

pub total_of_parts : (from : StoredAt) → sum_by (λ part. part.size) (parts_to_read from) ≡ octets_to_read from
total_of_parts from = sum_of_parts size_of_part (λ p e. e) from

-- behind the region there are the instances
pub behind_region : (from : StoredAt) → 1 ≤ from.size → sum_by (λ part. part.size) (drop 1 (parts_to_read from)) ≡ sum_by (λ row. row.size) from.instances
behind_region from some = elim (filter_one from.size (region_part from) (map instance_part from.instances) refl) [
  | inl e ↦
      let total = total_of_parts from in
      let all = ap (sum_by size_of_part) e in
      let one = sum_by-cons size_of_part (region_part from) (filter has_octets (map instance_part from.instances)) in
      ap (λ (ps : List Part). sum_by size_of_part (drop 1 ps)) e ∙ omega (arith, total, all, one)
  | inr none ↦ absurd (let zero = none.0 in omega (arith, zero, some))
]

pub pieces_of_parts : (from : StoredAt) → pieces_left (parts_to_read from) ≡ pieces_in from.size + sum_by (λ row. pieces_in row.size) from.instances
pieces_of_parts from = sum_of_parts (λ p. pieces_in p.size) (λ p e. ap pieces_in e) from

octets_kept : (ps : List Part) → All HasSomeOctets (filter has_octets ps)
octets_kept [] = All-nil HasSomeOctets
octets_kept (p ∷ ps) = by_size (cases_lt 0 p.size) (octets_kept ps)
  where
    by_size : (0 < p.size) ⊎ (p.size ≤ 0) → All HasSomeOctets (filter has_octets ps) → All HasSomeOctets (filter has_octets (p ∷ ps))
    by_size (inl some) rest = subst (All HasSomeOctets) (sym (ap (λ (b : Bool). cond b (p ∷ filter has_octets ps) (filter has_octets ps)) (less 0 p.size some))) (All-cons HasSomeOctets p (filter has_octets ps) (omega (arith, some)) rest)
    by_size (inr none) rest = subst (All HasSomeOctets) (sym (ap (λ (b : Bool). cond b (p ∷ filter has_octets ps) (filter has_octets ps)) (not_less 0 p.size none))) rest

pub octets_of_parts : (from : StoredAt) → All HasSomeOctets (parts_to_read from)
octets_of_parts from = octets_kept (region_part from ∷ map instance_part from.instances)

-- ---- what files have of them

read_none : (found : Option (List ℕ)) (offset size : ℕ) → size ≡ 0 → piece_read offset size found ≡ []
read_none None offset size e = refl
read_none (Some xs) offset size e = ap (λ (n : ℕ). take n (drop offset xs)) e

-- a part without octets tells nothing
reads_kept : (files : Files) (ps : List Part) → parts_read files (filter has_octets ps) ≡ parts_read files ps
reads_kept files [] = refl
reads_kept files (p ∷ ps) = elim (filter_one p.size p ps refl) [
  | inl e ↦ ap (parts_read files) e ∙ ap (λ (xs : List ℕ). part_read files p ++ xs) (reads_kept files ps)
  | inr e ↦ ap (parts_read files) e.1 ∙ (reads_kept files ps ∙ ap (λ (xs : List ℕ). xs ++ parts_read files ps) (sym (read_none (files (source_file p.source)) p.offset p.size e.0)))
]

pub reads_of_parts : (files : Files) (from : StoredAt) → parts_read files (parts_to_read from) ≡ part_read files (region_part from) ++ parts_read files (map instance_part from.instances)
reads_of_parts files from = reads_kept files (region_part from ∷ map instance_part from.instances)

-- the first piece of what a file has, and what is left of it
front_piece : (found : Option (List ℕ)) (offset size : ℕ) → 65536 < size → piece_read offset (min 65536 size) found ++ piece_read (offset + 65536) (size - 65536) found ≡ piece_read offset size found
front_piece None offset size more = refl
front_piece (Some xs) offset size more =
    ap (λ (n : ℕ). take n (drop offset xs) ++ take (size - 65536) (drop (offset + 65536) xs)) (let e : min 65536 size ≡ 65536 = omega (arith, more) in e)
    ∙ (ap (λ (ys : List ℕ). take 65536 (drop offset xs) ++ take (size - 65536) ys) (ap (λ (n : ℕ). drop n xs) (let e : offset + 65536 ≡ 65536 + offset = omega arith in e) ∙ sym (drop-drop' xs))
    ∙ (sym (take-add 65536 (size - 65536) (drop offset xs)) ∙ ap (λ (n : ℕ). take n (drop offset xs)) (let e : 65536 + (size - 65536) ≡ size = omega (arith, more) in e)))
  where
    drop-drop' : (ys : List ℕ) → drop 65536 (drop offset ys) ≡ drop (65536 + offset) ys
    drop-drop' ys = drop-drop 65536 offset ys ∙ ap (λ (n : ℕ). drop n ys) (let e : offset + 65536 ≡ 65536 + offset = omega arith in e)

-- The first piece, and behind it what is left, is what the files have.
pub reads_after : (files : Files) (parts : List Part) → first_read files parts ++ parts_read files (left_after parts) ≡ parts_read files parts
reads_after files [] = refl
reads_after files (p ∷ ps) = by_size (cases_lt 65536 p.size)
  where
    found : Option (List ℕ)
    found = files (source_file p.source)

    by_size : (65536 < p.size) ⊎ (p.size ≤ 65536) → first_read files (p ∷ ps) ++ parts_read files (left_after (p ∷ ps)) ≡ parts_read files (p ∷ ps)
    by_size (inl more) =
        ap (λ (b : Bool). piece_read p.offset (min 65536 p.size) found ++ parts_read files (if b then record p { offset = p.offset + 65536; size = p.size - 65536 } ∷ ps else ps)) (less 65536 p.size more)
        ∙ (sym (append_assoc (piece_read p.offset (min 65536 p.size) found) (piece_read (p.offset + 65536) (p.size - 65536) found) (parts_read files ps))
        ∙ ap (λ (xs : List ℕ). xs ++ parts_read files ps) (front_piece found p.offset p.size more))
    by_size (inr last) =
        ap (λ (b : Bool). piece_read p.offset (min 65536 p.size) found ++ parts_read files (if b then record p { offset = p.offset + 65536; size = p.size - 65536 } ∷ ps else ps)) (not_less 65536 p.size last)
        ∙ ap (λ (n : ℕ). piece_read p.offset n found ++ parts_read files ps) (let e : min 65536 p.size ≡ p.size = omega (arith, last) in e)

pub reads_none : (files : Files) (parts : List Part) → pieces_left parts ≡ 0 → parts_read files parts ≡ []
reads_none files [] none = refl
reads_none files (p ∷ ps) none =
    let all : pieces_left (p ∷ ps) ≡ pieces_in p.size + pieces_left ps = sum_by-cons (λ (q : Part). pieces_in q.size) p ps in
    let e = div-add-mod' (p.size + 65535) 65536 in
    let zero_size : p.size ≡ 0 = omega (arith, all, e, none) in
    let rest : pieces_left ps ≡ 0 = omega (arith, all, none) in
    ap (λ (xs : List ℕ). xs ++ parts_read files ps) (read_none (files (source_file p.source)) p.offset p.size zero_size) ∙ reads_none files ps rest
