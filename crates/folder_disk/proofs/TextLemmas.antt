-- Paths of a store are text.
use Rattle.folder_disk.proofs.Common.{◌≡◌, Bool, true, ℕ, suc, ◌+◌, ◌<◌, List, [], ◌∷◌, ◌++◌, codes, refl, sym, ◌∙◌, ap, subst, arith, IsUtf8, list_all, encode_lower, FileName, path_text, IsStoreFile}
use Rattle.std.proofs.Common.{nat_lt, zero, ◌/◌, ◌%◌, ◌^◌, slice_index}
use Rattle.std.specs.Str.{IsAscii}
use Rattle.std.proofs.lemmas.Bool.{ltb-true}
use Rattle.std.proofs.lemmas.Grind.{common_steps}
use Rattle.std.proofs.lemmas.Str.{IsUtf8-append, IsUtf8-from_ascii}
use Rattle.hex.specs.Hex.{encode_with, lower_digits}
use Rattle.mdbox_base.specs.Numbers.{decimal_text}
use Rattle.mdbox_base.specs.Words.{IsOctets, IsNumber}
use Rattle.mdbox_base.proofs.DecimalLemmas.{is_text}
use Rattle.mdbox_base.proofs.LowerHexLemmas.{lower_digit}
use Rattle.disk_model.specs.declared.name.FileName.TheVariants as file
use Rattle.file_paths.specs.InstPath.{inst_path}
use Rattle.file_paths.proofs.InstLemmas.{inst_text, one_octet}
use Rattle.folder_disk.proofs.NameTestLemmas.{and_parts}

ascii_digit : (d : ℕ) → d < 16 → slice_index lower_digits d < 128
ascii_digit d lt = rw (lower_digit d lt) (grind (arith, common_steps))

ascii_digits : (octets : List ℕ) → IsOctets octets → IsAscii (encode_lower octets)
unfolding encode_with
ascii_digits [] is i = omega arith
ascii_digits (b ∷ rest) is zero = let fits : b < 256 = is 0 0 (omega arith) in ascii_digit (b / 16) (omega arith)
ascii_digits (b ∷ rest) is (suc zero) = ascii_digit (b % 16) (omega arith)
ascii_digits (b ∷ rest) is (suc (suc i)) = ascii_digits rest (λ k d lt. is (suc k) d (omega arith)) i

digits_text : (octets : List ℕ) → IsOctets octets → IsUtf8 (encode_lower octets)
digits_text octets is = IsUtf8-from_ascii (encode_lower octets) (ascii_digits octets is)

number_text : (n : ℕ) → IsNumber n → IsUtf8 (decimal_text n)
number_text n is = is_text (decimal_text n) n (omega (arith, is)) refl

then_text : (a b : List ℕ) → IsUtf8 a → IsUtf8 b → IsUtf8 (a ++ b)
then_text a b p q = IsUtf8-append a b p q

-- text of ASCII alone
ascii_text : (text : List ℕ) → list_all (λ c. nat_lt c 128) text ≡ true → IsAscii text
ascii_text [] e i = omega arith
ascii_text (c ∷ rest) e zero = ltb-true c 128 (and_parts (nat_lt c 128) (list_all (λ c. nat_lt c 128) rest) e).0
ascii_text (c ∷ rest) e (suc i) = ascii_text rest (and_parts (nat_lt c 128) (list_all (λ c. nat_lt c 128) rest) e).1 i

plain_text : (text : List ℕ) → list_all (λ c. nat_lt c 128) text ≡ true → IsUtf8 text
plain_text text e = IsUtf8-from_ascii text (ascii_text text e)

-- a name of two digits in a folder whose path is text
pub below_text : (above : List ℕ) (octet : ℕ) → octet < 256 → IsUtf8 above → IsUtf8 (above ++ (codes "/" ++ encode_lower (octet ∷ [])))
below_text above octet fits is =
    then_text above (codes "/" ++ encode_lower (octet ∷ [])) is
    (then_text (codes "/") (encode_lower (octet ∷ [])) (plain_text (codes "/") refl) (digits_text (octet ∷ []) (one_octet octet fits)))

pub path_is_text : (name : FileName) → IsStoreFile name → IsUtf8 (path_text name)
path_is_text file.Root is = plain_text (codes "storage/root.log") refl
path_is_text (file.Map generation) is =
    then_text (codes "storage/map.") (decimal_text generation ++ codes ".log") (plain_text (codes "storage/map.") refl)
    (then_text (decimal_text generation) (codes ".log") (number_text generation is) (plain_text (codes ".log") refl))
path_is_text (file.Box number generation) is =
    then_text (codes "mailboxes/b.") (decimal_text number ++ (codes "." ++ (decimal_text generation ++ codes ".log"))) (plain_text (codes "mailboxes/b.") refl)
    (then_text (decimal_text number) (codes "." ++ (decimal_text generation ++ codes ".log")) (number_text number is.0)
    (then_text (codes ".") (decimal_text generation ++ codes ".log") (plain_text (codes ".") refl)
    (then_text (decimal_text generation) (codes ".log") (number_text generation is.1) (plain_text (codes ".log") refl))))
path_is_text (file.Mail number) is = then_text (codes "storage/m.") (decimal_text number) (plain_text (codes "storage/m.") refl) (number_text number is)
path_is_text (file.Inst hash id) is =
    let first = slice_index hash 0 in
    let second = slice_index hash 1 in
    let first_fits : first < 256 = is.1 0 0 (omega (arith, is.0)) in
    let second_fits : second < 256 = is.1 1 0 (omega (arith, is.0)) in
    let slash = plain_text (codes "/") refl in
    let text = encode_lower hash ++ (codes "-" ++ encode_lower id) in
    let in_folder = then_text (encode_lower hash) (codes "-" ++ encode_lower id) (digits_text hash is.1)
    (then_text (codes "-") (encode_lower id) (plain_text (codes "-") refl) (digits_text id is.3)) in
    subst IsUtf8 (sym (inst_text hash id (omega (arith, is.0))))
    (then_text (codes "attachments/") _ (plain_text (codes "attachments/") refl)
    (then_text (encode_lower (first ∷ [])) _ (digits_text (first ∷ []) (one_octet first first_fits))
    (then_text (codes "/") _ slash
    (then_text (encode_lower (second ∷ [])) _ (digits_text (second ∷ []) (one_octet second second_fits))
    (then_text (codes "/") text slash in_folder)))))
