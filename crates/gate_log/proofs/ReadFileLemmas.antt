-- A file that is read from its beginning, whole or its first octets.
use Rattle.disk_model.proofs.IdleLemmas.{idle-back}
use Rattle.std.specs.Option.{option_map}
use Rattle.std.proofs.Common.{◌≡◌, ◌<◌, ◌≤◌, ℕ, List, length, take, Option, Some, None, sym, ◌∙◌, subst, ap, arith}
use Rattle.std.proofs.lemmas.List.{take_all, length-take}
use Rattle.std.proofs.lemmas.Option.{same_Some}
use Rattle.disk_model.specs.Disk.{History, IfTold, reading, IsIdle}
use Rattle.disk_model.specs.declared.name.FileName.{FileName}
use Rattle.disk_model.proofs.MomentLemmas.{if_told-both, if_told-map}
use Rattle.gate_log.specs.Reading.{IsPeekedFront}

-- a file that was read from its beginning to its end
pub whole_file : (name : FileName) (old mid : Option History) (count : ℕ) (n : ℕ) (buffer result : List ℕ) → IsIdle old mid
    → IfTold old (λ disk. option_map length (reading (disk name)) ≡ Some n)
    → IfTold mid (λ disk. (reading (disk name) ≡ Some (disk name).octets) × (take count buffer ≡ take n (disk name).octets))
    → result ≡ take count buffer → IfTold old (λ disk. reading (disk name) ≡ Some result)
whole_file name old mid count n buffer result idle long read e =
    if_told-both _ _ _ old
    (λ disk l r.
    let s : option_map length (Some (disk name).octets) ≡ Some n = ap (option_map length) (sym r.0) ∙ l in
    let m : length (disk name).octets ≡ n = same_Some _ _ s in
    let all : take n (disk name).octets ≡ (disk name).octets = take_all n (disk name).octets (omega (arith, m)) in
    r.0 ∙ ap Some (sym (e ∙ r.1 ∙ all)))
    long (idle-back _ old mid idle read)

-- the first octets of a file that has fewer
pub front-short : (name : FileName) (old : Option History) (front : List ℕ) (count : ℕ) → length front ≡ 27 → count < 27
    → IfTold old (λ disk. (reading (disk name) ≡ Some (disk name).octets) × (take count front ≡ take 27 (disk name).octets)) → IfTold old (λ disk. IsPeekedFront (reading (disk name)) None)
front-short name old front count long less read =
    if_told-map _ _ old
    (λ disk r.
    let a = length-take count front in
    let b = length-take 27 (disk name).octets in
    let e : length (take count front) ≡ length (take 27 (disk name).octets) = ap length r.1 in
    subst (λ (file : Option (List ℕ)). IsPeekedFront file None) (sym r.0) (omega (arith, a, b, e, long, less)))
    read

-- and of one that has them
pub front-whole : (name : FileName) (old : Option History) (front : List ℕ) (count : ℕ) → length front ≡ 27 → 27 ≤ count
    → IfTold old (λ disk. (reading (disk name) ≡ Some (disk name).octets) × (take count front ≡ take 27 (disk name).octets)) → IfTold old (λ disk. IsPeekedFront (reading (disk name)) (Some front))
front-whole name old front count long more read =
    if_told-map _ _ old
    (λ disk r.
    let is : front ≡ take 27 (disk name).octets = sym (take_all count front (omega (arith, long, more))) ∙ r.1 in
    let b = length-take 27 (disk name).octets in
    let e : length front ≡ length (take 27 (disk name).octets) = ap length is in
    ((disk name).octets, r.0, omega (arith, b, e, long), is))
    read
