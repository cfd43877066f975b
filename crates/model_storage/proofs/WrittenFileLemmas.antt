-- The written form of a message and of a header line is one of the spellings.
use Rattle.std.specs.Prelude.{◌≡◌, ◌<◌, ◌+◌, ◌*◌, ◌/◌, ◌%◌, ◌^◌, ℕ, zero, suc, List, [], ◌∷◌, ◌++◌, length, drop, replicate, flat_map, codes, refl, IsTrue, Some}
use Rattle.std.specs.List.{list_all}
use Rattle.std.proofs.Common.{sym, ◌∙◌, ap, inr, append-nil, length-append, arith, lit≤}
use Rattle.std.proofs.lemmas.Bool.Decides.{nat_tests}
use Rattle.std.proofs.lemmas.Grind.{common_steps}
use Rattle.std.proofs.lemmas.Option.{option_and_then_some}
use Rattle.mdbox_base.specs.Numbers.{hex_digit_value, hex_from, hex_text}
use Rattle.model_storage.proofs.FileLemmas.{first, second}
use Rattle.model_octets.proofs.HexTextLemmas.{hex_text_is_hex, hex_text_is_lower, is_lower_hex}
use Rattle.model_storage.specs.StorageFile.{line_text, Message, IsMessage, is_letter_or_digit, IsHeaderLine, IsFile}
use Rattle.model_storage.specs.WrittenFile.{upper_digit, upper_digits, FitsInFile, written_message, written_header, first_header, first_message, first_octets}

digit_again : (d : ℕ) → d < 16 → hex_digit_value (upper_digit d) ≡ Some d
digit_again d h = grind (arith, common_steps, nat_tests)

hex_push : (ds : List ℕ) (high m c d : ℕ) → hex_from high ds ≡ Some m → hex_digit_value c ≡ Some d → hex_from high (ds ++ c ∷ []) ≡ Some (16 * m + d)
hex_push [] high m c d e v = let h : high ≡ m = cc in rw (v, h) refl
hex_push (x ∷ ds) high m c d e v =
    let p : (k : ℕ) × (hex_digit_value x ≡ Some k) × (hex_from (16 * high + k) ds ≡ Some m) = option_and_then_some (λ (k : ℕ). hex_from (16 * high + k) ds) (hex_digit_value x) m e (λ k f g. (k, f, g)) in
    rw p.1 (hex_push ds (16 * high + p.0) m c d p.2 v)

-- 16 times itself so often
abbrev weight : ℕ → ℕ
weight zero = 1
weight (suc k) = 16 * weight k

pub digits_again : (k n : ℕ) → n < weight k → hex_from 0 (upper_digits k n) ≡ Some n
digits_again zero n h = let e : 0 ≡ n = omega (arith, h) in ap Some e
digits_again (suc k) n h =
    let less : n / 16 < weight k = omega (arith, h) in
    let whole : 16 * (n / 16) + n % 16 ≡ n = omega arith in
    hex_push (upper_digits k (n / 16)) 0 (n / 16) (upper_digit (n % 16)) (n % 16) (digits_again k (n / 16) less) (digit_again (n % 16) (omega arith)) ∙ ap Some whole

pub digits_length : (k n : ℕ) → length (upper_digits k n) ≡ k
digits_length zero n = refl
digits_length (suc k) n = omega (arith, length-append (upper_digits k (n / 16)) (upper_digit (n % 16) ∷ []), digits_length k (n / 16))

pub written_message_spells : (m : Message) → FitsInFile m → IsMessage (written_message m) m
written_message_spells m p = record {
  header = 1 ∷ 2 ∷ 78 ∷ (replicate 10 32 ++ (upper_digits 16 (length m.body) ++ 10 ∷ []));
  block = 10 ∷ 1 ∷ 3 ∷ 10 ∷ (flat_map line_text m.lines ++ 10 ∷ []);
  spelled = refl;
  begins = record {
    filler = replicate 10 32;
    digits = upper_digits 16 (length m.body);
    spelled = refl;
    filler_length = refl;
    filler_octets = refl;
    digits_length = digits_length 16 (length m.body);
    value = digits_again 16 (length m.body) (omega (arith, p.size));
    fits = p.size;
  };
  ends = record {
    each = p.each;
    spelled = refl;
    short = omega (arith, p.block, length-append (flat_map line_text m.lines) (10 ∷ []));
  };
}

lower_is_value : (c : ℕ) → IsTrue (is_lower_hex c) → IsTrue (is_letter_or_digit c)
lower_is_value c h = grind (arith, common_steps, nat_tests)

lowers_are_values : (ds : List ℕ) → IsTrue (list_all is_lower_hex ds) → IsTrue (list_all is_letter_or_digit ds)
lowers_are_values [] h = refl
lowers_are_values (c ∷ ds) h = rw (lower_is_value c (first (is_lower_hex c) (list_all is_lower_hex ds) h)) (lowers_are_values ds (second (is_lower_hex c) (list_all is_lower_hex ds) h))

pub written_header_spells : (time : ℕ) → time < 2 ^ 64 → IsHeaderLine (written_header time) 30
written_header_spells time h =
    let hex = hex_text_is_hex time h in
    record {
      fields = record { key = 77; value = codes "1e" } ∷ record { key = 67; value = hex_text time } ∷ [];
      spelled = ap (λ (o : List ℕ). codes "2 M1e C" ++ (o ++ 10 ∷ [])) (sym (append-nil (hex_text time)));
      each = (record { letter = refl; value = refl }, (record { letter = refl; value = lowers_are_values (hex_text time) (hex_text_is_lower time) }, tt));
      short = omega (arith, hex.short, length-append (hex_text time) (10 ∷ []));
      size = (codes "1e", refl, record { some = lit≤ tt; short = lit≤ tt; value = refl });
      time = inr (time, (hex_text time, refl, hex));
    }

first_is_message : IsMessage (drop 16 first_octets) first_message
first_is_message = record {
  header = (1 ∷ 2 ∷ []) ++ (codes "N          000000000000000b" ++ 10 ∷ []);
  block = (10 ∷ 1 ∷ 3 ∷ 10 ∷ []) ++ (codes "R65000001" ++ (10 ∷ (codes "Vb" ++ (10 ∷ (codes "G00112233445566770000000100000010" ++ (10 ∷ (codes "Pabc" ++ (10 ∷ 10 ∷ []))))))));
  spelled = refl;
  begins = record {
    filler = replicate 10 32;
    digits = codes "000000000000000b";
    spelled = refl;
    filler_length = refl;
    filler_octets = refl;
    digits_length = refl;
    value = refl;
    fits = lit≤ tt;
  };
  ends = record {
    each = (record { key = refl; value = refl }, (record { key = refl; value = refl }, (record { key = refl; value = refl }, (record { key = refl; value = refl }, tt))));
    spelled = refl;
    short = lit≤ tt;
  };
}

pub first_is_file : IsFile first_octets first_header (first_message ∷ [])
first_is_file = record {
  rest = drop 16 first_octets;
  parts = refl;
  begins = record {
    fields = record { key = 77; value = codes "1e" } ∷ record { key = 67; value = codes "65000000" } ∷ [];
    spelled = refl;
    each = (record { letter = refl; value = refl }, (record { letter = refl; value = refl }, tt));
    short = lit≤ tt;
    size = (codes "1e", refl, record { some = lit≤ tt; short = lit≤ tt; value = refl });
    time = inr (1694498816, (codes "65000000", refl, record { some = lit≤ tt; short = lit≤ tt; value = refl }));
  };
  follow = (drop 16 first_octets, [], refl, first_is_message, refl);
}
