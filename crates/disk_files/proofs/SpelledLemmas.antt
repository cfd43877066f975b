-- The paths of a store's files are of one spelling.
use Rattle.std.proofs.Common.{◌≡◌, ◌≢◌, ℕ, suc, ◌<◌, ◌≤◌, ◌^◌, ◌+◌, ◌/◌, ◌%◌, ◌&&◌, Bool, true, false, List, [], ◌∷◌, ◌++◌, length, slice_index, get_or, codes, IsTrue, refl, sym, ◌∙◌, ap, subst, arith}
use Rattle.std.specs.List.{list_all}
use Rattle.std.proofs.lemmas.List.Folds.{list_all-append}
use Rattle.std.proofs.lemmas.List.{length-append}
use Rattle.std.proofs.lemmas.Grind.{common_steps}
use Rattle.hex.specs.Hex.{encode_with, encode_lower, lower_digits}
use Rattle.hex.proofs.HexLemmas.{length-encode_with}
use Rattle.mdbox_base.specs.Numbers.{decimal_text}
use Rattle.mdbox_base.specs.Words.{IsOctets, IsNumber, is_other_than}
use Rattle.mdbox_base.proofs.LowerHexLemmas.{lower_digit}
use Rattle.model_storage.proofs.ReferenceLemmas.{both, others, decimal_digits}
use Rattle.disk_model.specs.declared.name.FileName.{FileName}
use Rattle.disk_model.specs.declared.name.FileName.TheVariants as file
use Rattle.file_paths.specs.InstPath.{inst_path}
use Rattle.file_paths.specs.Paths.{path_text, IsStoreFile}
use Rattle.file_paths.proofs.InstLemmas.{inst_text, one_octet}
use Rattle.folder_model.specs.Paths.{IsPathName, IsPath, Single, Within, lock_name}

-- no octet of these is the mark
abbrev pub HasNo : ℕ → List ℕ → Type 0
HasNo mark text = IsTrue (list_all (is_other_than mark) text)

pub none_in : (mark : ℕ) (a b : List ℕ) → HasNo mark a → HasNo mark b → HasNo mark (a ++ b)
none_in mark a b p q = list_all-append (is_other_than mark) a b ∙ both (list_all (is_other_than mark) a) (list_all (is_other_than mark) b) p q

other_digit : (mark d : ℕ) → mark < 48 → d < 16 → is_other_than mark (slice_index lower_digits d) ≡ true
other_digit mark d low lt = rw (lower_digit d lt) (grind (arith, common_steps))

other_digits : (mark : ℕ) (octets : List ℕ) → mark < 48 → IsOctets octets → HasNo mark (encode_lower octets)
unfolding encode_with
other_digits mark [] low h = refl
other_digits mark (b ∷ rest) low h =
    let fits : b < 256 = h 0 0 (omega arith) in
    rw (other_digit mark (b / 16) low (omega arith), other_digit mark (b % 16) low (omega arith))
    (other_digits mark rest low (λ k d lt. h (suc k) d (omega arith)))

pub no_slash_in_number : (n : ℕ) → IsNumber n → HasNo 47 (decimal_text n)
no_slash_in_number n is = others 47 (decimal_text n) refl (decimal_digits n (omega (arith, is)))

-- a text that begins with another octet than ".", and differs from the lock's name at a place
by_place : (k : ℕ) (text : List ℕ) → HasNo 47 text → get_or text 0 0 ≢ 46 → get_or text 0 0 ≢ 0 → get_or text k 0 ≢ get_or lock_name k 0 → IsPathName text
by_place k text slash dot some lock = record {
  some = λ e. some (ap (λ l. get_or l 0 0) e);
  no_slash = slash;
  not_itself = λ e. dot (ap (λ l. get_or l 0 0) e);
  not_above = λ e. dot (ap (λ l. get_or l 0 0) e);
  not_lock = λ e. lock (ap (λ l. get_or l k 0) e);
}

pub storage : IsPath (codes "storage")
storage = Single (codes "storage") (by_place 0 (codes "storage") refl (λ e. omega (arith, e)) (λ e. omega (arith, e)) (λ e. omega (arith, e)))

pub mailboxes : IsPath (codes "mailboxes")
mailboxes = Single (codes "mailboxes") (by_place 1 (codes "mailboxes") refl (λ e. omega (arith, e)) (λ e. omega (arith, e)) (λ e. omega (arith, e)))

pub attachments : IsPath (codes "attachments")
attachments = Single (codes "attachments") (by_place 0 (codes "attachments") refl (λ e. omega (arith, e)) (λ e. omega (arith, e)) (λ e. omega (arith, e)))

-- the digits of one octet
abbrev pub digits_of : ℕ → List ℕ
digits_of octet = encode_lower (octet ∷ [])

pub two_digits : (octet : ℕ) → length (digits_of octet) ≡ 2
two_digits octet = length-encode_with lower_digits (octet ∷ [])

-- a text of hexadecimal digits, and what is longer
digits_name : (text : List ℕ) → HasNo 46 text → HasNo 47 text → 1 ≤ length text → length text ≢ 10 → IsPathName text
digits_name text dots slash some long = record {
  some = λ e. let n : length text ≡ 0 = ap length e in omega (arith, some, n);
  no_slash = slash;
  not_itself = λ e. let F : List ℕ → Type 0 = HasNo 46 in let h : HasNo 46 (codes ".") = subst F e dots in cc;
  not_above = λ e. let F : List ℕ → Type 0 = HasNo 46 in let h : HasNo 46 (codes "..") = subst F e dots in cc;
  not_lock = λ e. long (ap length e);
}

pub octet_name : (octet : ℕ) → octet < 256 → IsPathName (digits_of octet)
octet_name octet fits =
    let two = two_digits octet in
    digits_name (digits_of octet) (other_digits 46 (octet ∷ []) (omega arith) (one_octet octet fits)) (other_digits 47 (octet ∷ []) (omega arith) (one_octet octet fits))
    (omega (arith, two)) (λ e. omega (arith, two, e))

pub outer_path : (first : ℕ) → first < 256 → IsPath (codes "attachments/" ++ digits_of first)
outer_path first fits = Within (codes "attachments") (digits_of first) attachments (octet_name first fits)

pub regroup : (first second : ℕ) (text : List ℕ) → inst_path first second text ≡ ((codes "attachments/" ++ digits_of first) ++ 47 ∷ digits_of second) ++ 47 ∷ text
unfolding encode_with
regroup first second text = refl

pub inst_name : (hash id : List ℕ) → IsStoreFile (file.Inst hash id) → IsPathName (encode_lower hash ++ (codes "-" ++ encode_lower id))
inst_name hash id is =
    let text = encode_lower hash ++ (codes "-" ++ encode_lower id) in
    let long = length-append (encode_lower hash) (codes "-" ++ encode_lower id) in
    let first = length-encode_with lower_digits hash in
    let second = length-encode_with lower_digits id in
    digits_name text
    (none_in 46 (encode_lower hash) (codes "-" ++ encode_lower id) (other_digits 46 hash (omega arith) is.1) (none_in 46 (codes "-") (encode_lower id) refl (other_digits 46 id (omega arith) is.3)))
    (none_in 47 (encode_lower hash) (codes "-" ++ encode_lower id) (other_digits 47 hash (omega arith) is.1) (none_in 47 (codes "-") (encode_lower id) refl (other_digits 47 id (omega arith) is.3)))
    (omega (arith, long, first, is.0)) (λ e. omega (arith, long, first, is.0, e))

pub spelled : (name : FileName) → IsStoreFile name → IsPath (path_text name)
spelled file.Root is = Within (codes "storage") (codes "root.log") storage (by_place 0 (codes "root.log") refl (λ e. omega (arith, e)) (λ e. omega (arith, e)) (λ e. omega (arith, e)))
spelled (file.Map generation) is =
    let text = codes "map." ++ (decimal_text generation ++ codes ".log") in
    Within (codes "storage") text storage (by_place 1 text (none_in 47 (decimal_text generation) (codes ".log") (no_slash_in_number generation is) refl)
    (λ e. omega (arith, e)) (λ e. omega (arith, e)) (λ e. omega (arith, e)))
spelled (file.Box number generation) is =
    let text = codes "b." ++ (decimal_text number ++ (codes "." ++ (decimal_text generation ++ codes ".log"))) in
    Within (codes "mailboxes") text mailboxes (by_place 0 text
    (none_in 47 (decimal_text number) (codes "." ++ (decimal_text generation ++ codes ".log")) (no_slash_in_number number is.0)
    (none_in 47 (decimal_text generation) (codes ".log") (no_slash_in_number generation is.1) refl))
    (λ e. omega (arith, e)) (λ e. omega (arith, e)) (λ e. omega (arith, e)))
spelled (file.Mail number) is =
    let text = codes "m." ++ decimal_text number in
    Within (codes "storage") text storage (by_place 1 text (no_slash_in_number number is) (λ e. omega (arith, e)) (λ e. omega (arith, e)) (λ e. omega (arith, e)))
spelled (file.Inst hash id) is =
    let first = slice_index hash 0 in
    let second = slice_index hash 1 in
    let first_fits : first < 256 = is.1 0 0 (omega (arith, is.0)) in
    let second_fits : second < 256 = is.1 1 0 (omega (arith, is.0)) in
    let text = encode_lower hash ++ (codes "-" ++ encode_lower id) in
    let F : List ℕ → Type 0 = IsPath in
    subst F (sym (inst_text hash id (omega (arith, is.0)) ∙ regroup first second text))
    (Within ((codes "attachments/" ++ digits_of first) ++ 47 ∷ digits_of second) text
    (Within (codes "attachments/" ++ digits_of first) (digits_of second) (outer_path first first_fits) (octet_name second second_fits)) (inst_name hash id is))
