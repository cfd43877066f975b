-- The test of a store's file names.
use Rattle.folder_disk.proofs.Common.{◌≡◌, ℕ, suc, ◌==◌, ◌&&◌, ◌<◌, Bool, true, false, List, [], ◌∷◌, length, refl, arith, list_all, false≢true, FileName, IsStoreFile, is_store_file}
use Rattle.std.proofs.Common.{nat_lt, nat_le}
use Rattle.std.proofs.lemmas.Bool.{leb-true, ltb-true, lt-ltb, le-leb, eqb-true, eq-eqb}
use Rattle.std.proofs.lemmas.List.Elements.{All-nil, All-cons}
use Rattle.disk_model.specs.declared.name.FileName.TheVariants as file
use Rattle.mdbox_base.specs.Words.{IsNumber, IsOctets}
use Rattle.folder_disk.specs.Start.{is_file_number, are_so_many_octets}

pub and_parts : (a b : Bool) → a && b ≡ true → (a ≡ true) × (b ≡ true)
and_parts true b e = (refl, e)
and_parts false b e = absurd (false≢true e)

pub and_both : (a b : Bool) → a ≡ true → b ≡ true → a && b ≡ true
and_both true b p q = q
and_both false b p q = absurd (false≢true p)

number_true : (n : ℕ) → is_file_number n ≡ true → IsNumber n
number_true n e = let p = and_parts (nat_le 1 n) (nat_le n 4294967294) e in record { low = leb-true 1 n p.0; high = leb-true n 4294967294 p.1 }

number_from : (n : ℕ) → IsNumber n → is_file_number n ≡ true
number_from n is = and_both (nat_le 1 n) (nat_le n 4294967294) (le-leb 1 n is.low) (le-leb n 4294967294 is.high)

abbrev is_octet : ℕ → Bool
is_octet octet = nat_lt octet 256

octets_true : (octets : List ℕ) → list_all is_octet octets ≡ true → IsOctets octets
octets_true [] e = All-nil (λ octet. octet < 256)
octets_true (octet ∷ octets) e =
    let p = and_parts (is_octet octet) (list_all is_octet octets) e in
    All-cons (λ o. o < 256) octet octets (ltb-true octet 256 p.0) (octets_true octets p.1)

octets_from : (octets : List ℕ) → IsOctets octets → list_all is_octet octets ≡ true
octets_from [] h = refl
octets_from (octet ∷ octets) h =
    and_both (is_octet octet) (list_all is_octet octets) (lt-ltb octet 256 (h 0 0 (omega arith))) (octets_from octets (λ k d lt. h (suc k) d (omega arith)))

many_true : (count : ℕ) (octets : List ℕ) → are_so_many_octets count octets ≡ true → (length octets ≡ count) × IsOctets octets
many_true count octets e =
    let p = and_parts (length octets == count) (list_all is_octet octets) e in
    (eqb-true (length octets) count p.0, octets_true octets p.1)

many_from : (count : ℕ) (octets : List ℕ) → length octets ≡ count → IsOctets octets → are_so_many_octets count octets ≡ true
many_from count octets e h = and_both (length octets == count) (list_all is_octet octets) (eq-eqb (length octets) count e) (octets_from octets h)

pub file_true : (name : FileName) → is_store_file name ≡ true → IsStoreFile name
file_true file.Root e = tt
file_true (file.Map generation) e = number_true generation e
file_true (file.Box number generation) e = let p = and_parts (is_file_number number) (is_file_number generation) e in (number_true number p.0, number_true generation p.1)
file_true (file.Mail number) e = number_true number e
file_true (file.Inst hash id) e =
    let p = and_parts (are_so_many_octets 20 hash) (are_so_many_octets 16 id) e in
    let a = many_true 20 hash p.0 in
    let b = many_true 16 id p.1 in
    (a.0, a.1, b.0, b.1)

pub file_from : (name : FileName) → IsStoreFile name → is_store_file name ≡ true
file_from file.Root is = refl
file_from (file.Map generation) is = number_from generation is
file_from (file.Box number generation) is = and_both (is_file_number number) (is_file_number generation) (number_from number is.0) (number_from generation is.1)
file_from (file.Mail number) is = number_from number is
file_from (file.Inst hash id) is = and_both (are_so_many_octets 20 hash) (are_so_many_octets 16 id) (many_from 20 hash is.0 is.1) (many_from 16 id is.2 is.3)
