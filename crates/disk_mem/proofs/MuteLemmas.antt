-- A disk that gives one octet wrong.
use Rattle.std.proofs.Common.{◌≡◌, ◌<◌, ◌≤◌, ◌+◌, ◌-◌, ℕ, List, length, take, drop, set, Some, None, min, sym, ◌∙◌, ap, arith, Result, Ok, Err, IsErr, IsErrOf, OnOk, OnErr, inl, inr, refl}
use Rattle.std.proofs.Math.Seq.{take-set-lt}
use Rattle.std.proofs.lemmas.Bool.{cases_lt, false≢true}
use Rattle.std.proofs.lemmas.List.{drop-set-add, drop-set-lt, length-take, length-take-le, set_past, take-set-le}
use Rattle.mdbox_base.specs.Streams.{Rose}
use Rattle.disk_model.specs.Disk.{ChangeCause, FileState, Reaches, reading}
use Rattle.disk_model.specs.declared.error.DiskError.{DiskError}
use Rattle.disk_model.specs.declared.error.DiskError.TheVariants.{Failed}
use Rattle.disk_mem.proofs.ReadingLemmas.{reading-there, reading_octets, there-reading}

-- a file that reads as these octets reaches their length
pub reads_reach : (f : FileState) (octets : List ℕ) (n : ℕ) → reading f ≡ Some octets → n ≤ length octets → Reaches f n
reads_reach f octets n is le =
    let same = ap length (reading_octets f octets is) in
    (there-reading f octets is, omega (arith, same, le))

pub reaches_reads : (f : FileState) (octets : List ℕ) (n : ℕ) → reading f ≡ Some octets → Reaches f n → n ≤ length octets
reaches_reads f octets n is reaches =
    let same = ap length (reading_octets f octets is) in
    omega (arith, same, reaches.1)

-- a change that fails raises the count, and no other does
pub counts_cause : (answer : Result (Unit {0}) DiskError) (reads later old new : ℕ) → later ≡ reads → (IsErr answer → IsErrOf answer Failed)
    → OnOk answer (new ≡ old) → OnErr answer (Rose old new) → old ≤ new
    → ChangeCause answer (record { reads = reads; changes = old }) (record { reads = later; changes = new })
counts_cause (Ok done) reads later old new same failed ok err le = record { no_less = le; failed = λ bad. absurd (false≢true bad); unfailed = λ _. ok; reads = same }
counts_cause (Err why) reads later old new same failed ok err le = record { no_less = le; failed = λ bad. (failed bad, err); unfailed = λ good. absurd (false≢true good); reads = same }

-- what is read with an octet altered, where the octet lies in it, before it, or behind it
pub read_altered : (into octets : List ℕ) (from place most n : ℕ) (octet : ℕ) → from ≤ place → place - from < n → n ≤ length into
    → take n into ≡ take most (drop from octets) → take n (set into (place - from) octet) ≡ take most (drop from (set octets place octet))
read_altered into octets from place most n octet after within fits is =
    let k = place - from in
    let at : from + k ≡ place = omega (arith, after) in
    let long : length (take n into) ≡ n = length-take-le n into fits in
    let short : length (take most (drop from octets)) ≡ min most (length (drop from octets)) = length-take most (drop from octets) in
    let same : length (take n into) ≡ length (take most (drop from octets)) = ap length is in
    let below : k < most = omega (arith, long, short, same, within) in
    take-set-lt n into k octet within ∙ ap (λ xs. set xs k octet) is ∙ sym (take-set-lt most (drop from octets) k octet below)
    ∙ ap (take most) (sym (drop-set-add from octets k octet)) ∙ ap (λ p. take most (drop from (set octets p octet))) at

pub read_before : (octets : List ℕ) (from place most : ℕ) (octet : ℕ) → place < from → take most (drop from (set octets place octet)) ≡ take most (drop from octets)
read_before octets from place most octet before = ap (take most) (drop-set-lt from octets place octet before)

pub read_behind : (into octets : List ℕ) (from place most n : ℕ) (octet : ℕ) → n ≤ place - from → from ≤ place → n ≤ length into
    → take n into ≡ take most (drop from octets) → take most (drop from (set octets place octet)) ≡ take most (drop from octets)
read_behind into octets from place most n octet behind after fits is =
    let k = place - from in
    let at : place ≡ from + k = omega (arith, after) in
    let long : length (take n into) ≡ n = length-take-le n into fits in
    let short : length (take most (drop from octets)) ≡ min most (length (drop from octets)) = length-take most (drop from octets) in
    let same : length (take n into) ≡ length (take most (drop from octets)) = ap length is in
    let moved : take most (drop from (set octets place octet)) ≡ take most (set (drop from octets) k octet) =
    ap (λ p. take most (drop from (set octets p octet))) at ∙ ap (take most) (drop-set-add from octets k octet) in
    moved ∙ elim (cases_lt k most) [
      | inl inside ↦ ap (take most) (set_past (drop from octets) k octet (omega (arith, long, short, same, behind, inside)))
      | inr past ↦ take-set-le most (drop from octets) k octet past
    ]

pub gone_reach : (f : FileState) (n : ℕ) → reading f ≡ None → Reaches f n → ⊥
gone_reach f n gone reaches = let e : None ≡ Some f.octets = sym gone ∙ reading-there f f.octets reaches.0 refl in absurd (let e : None ≡ Some f.octets = e in cc)
