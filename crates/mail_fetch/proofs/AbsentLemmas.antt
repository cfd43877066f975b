-- A message whose storage file isn't there: fewer octets are read than it has.
use Rattle.mail_fetch.proofs.Common.{◌≡◌, ◌≤◌, ◌<◌, ◌+◌, ℕ, List, [], ◌∷◌, ◌++◌, length, map, drop, Option, Some, None, ◌∙◌, ap, arith, sum_by, length-take, sum_by-cons, Files, InstRow, LogRow, MapRecord, piece_read, instance_part, octets_to_read, part_read, parts_read, parts_to_read, region_part}
use Rattle.mail_fetch.proofs.Common.{source_file, HoldsWhole, stored_at}
use Rattle.std.proofs.lemmas.List.{length-append}
use Rattle.disk_model.specs.declared.name.FileName.TheVariants.{Mail}
use Rattle.mail_fetch.specs.declared.parts.Source.TheVariants as source
use Rattle.mail_fetch.proofs.PartLemmas.{reads_of_parts}

piece_few : (offset size : ℕ) (o : Option (List ℕ)) → length (piece_read offset size o) ≤ size
piece_few offset size None = omega arith
piece_few offset size (Some octets) = let e = length-take size (drop offset octets) in omega (arith, e)

rows_few : (files : Files) (rows : List InstRow) → length (parts_read files (map instance_part rows)) ≤ sum_by (λ row. row.size) rows
rows_few files [] = omega arith
rows_few files (row ∷ rows) =
    let one = piece_few 0 row.size (files (source_file (source.Instance row))) in
    let rest = rows_few files rows in
    let long = length-append (part_read files (instance_part row)) (parts_read files (map instance_part rows)) in
    let sum = sum_by-cons (λ (r : InstRow). r.size) row rows in
    omega (arith, one, rest, long, sum)

few_read : (files : Files) (row : LogRow) (entry : MapRecord) → files (Mail entry.file) ≡ None → 1 ≤ entry.size → length (parts_read files (parts_to_read (stored_at row entry))) < octets_to_read (stored_at row entry)
few_read files row entry none some =
    let region : part_read files (region_part (stored_at row entry)) ≡ [] = ap (piece_read entry.offset entry.size) none in
    let all = ap length (reads_of_parts files (stored_at row entry) ∙ ap (λ (xs : List ℕ). xs ++ parts_read files (map instance_part entry.instances)) region) in
    let rest = rows_few files entry.instances in
    omega (arith, all, rest, some)

pub absent_damaged : (files : Files) (row : LogRow) (entry : MapRecord) (octets : List ℕ) → files (Mail entry.file) ≡ None → 1 ≤ entry.size → HoldsWhole (stored_at row entry) (parts_read files (parts_to_read (stored_at row entry))) octets → ⊥
absent_damaged files row entry octets none some holds = let few = few_read files row entry none some in let long = holds.long in omega (arith, few, long)

-- nor does it hold a message if nothing is read
pub nothing_damaged : (row : LogRow) (entry : MapRecord) (octets : List ℕ) → 1 ≤ entry.size → HoldsWhole (stored_at row entry) [] octets → ⊥
nothing_damaged row entry octets some holds = let long : 0 ≡ entry.size + sum_by (λ row. row.size) entry.instances = holds.long in omega (arith, long, some)
