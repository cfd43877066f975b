-- Symbols of base64, written two at a time.
use Rattle.std.proofs.Common.{refl, ◌≡◌, ◌<◌, ◌≤◌, ◌+◌, ◌-◌, ◌*◌, ◌/◌, ◌%◌, ℕ, List, [], ◌∷◌, ◌++◌, length, take, drop, sym, ◌∙◌, ap, arith, append_assoc, append-nil, length-append}
use Rattle.std.proofs.Common.{inl, inr, ◌⊎◌}
use Rattle.std.specs.Prelude.{replicate, slice_index}
use Rattle.std.proofs.lemmas.Bool.{cases_lt}
use Rattle.std.proofs.Math.Seq.{drop-append-add, drop-append_seam, take-append-add, take-append_seam}
use Rattle.std.proofs.lemmas.List.{drop-drop, drop-take, length-take-le, nil_from_length, take-take, take_all}
use Rattle.base64.specs.Engines.{standard}
use Rattle.base64.specs.Rfc4648.{encode_group, encode_symbols, padding_len}
use Rattle.model_base64.specs.Base64Text.{padded}
use Rattle.b64_lines.specs.Pairs.{pair_of, symbols_of}
use Rattle.b64_lines.proofs.WriterLemmas.{behind_later}

-- ---- symbols

-- three octets are two times twelve bits
group_is : (a b c : ℕ) → a < 256 → b < 256 → c < 256 → encode_group standard.encode_table a b c ≡ pair_of (a * 16 + b / 16) ++ pair_of (b % 16 * 256 + c)
group_is a b c x y z =
    let one : a / 4 ≡ (a * 16 + b / 16) / 64 = omega (arith, x, y) in
    let two : a % 4 * 16 + b / 16 ≡ (a * 16 + b / 16) % 64 = omega (arith, x, y) in
    let three : b % 16 * 4 + c / 64 ≡ (b % 16 * 256 + c) / 64 = omega (arith, y, z) in
    let four : c % 64 ≡ (b % 16 * 256 + c) % 64 = omega (arith, y, z) in
    ap (λ (n : ℕ). slice_index standard.encode_table n ∷ slice_index standard.encode_table (a % 4 * 16 + b / 16) ∷ slice_index standard.encode_table (b % 16 * 4 + c / 64) ∷ slice_index standard.encode_table (c % 64) ∷ []) one
    ∙ ap (λ (n : ℕ). slice_index standard.encode_table ((a * 16 + b / 16) / 64) ∷ slice_index standard.encode_table n ∷ slice_index standard.encode_table (b % 16 * 4 + c / 64) ∷ slice_index standard.encode_table (c % 64) ∷ []) two
    ∙ ap (λ (n : ℕ). slice_index standard.encode_table ((a * 16 + b / 16) / 64) ∷ slice_index standard.encode_table ((a * 16 + b / 16) % 64) ∷ slice_index standard.encode_table n ∷ slice_index standard.encode_table (c % 64) ∷ []) three
    ∙ ap (λ (n : ℕ). slice_index standard.encode_table ((a * 16 + b / 16) / 64) ∷ slice_index standard.encode_table ((a * 16 + b / 16) % 64) ∷ slice_index standard.encode_table ((b % 16 * 256 + c) / 64) ∷ slice_index standard.encode_table n ∷ []) four

symbols_more : (a b c : ℕ) (others : List ℕ) → symbols_of (a ∷ b ∷ c ∷ others) ≡ encode_group standard.encode_table a b c ++ symbols_of others
unfolding encode_symbols
symbols_more a b c others = refl

symbols_none : symbols_of [] ≡ []
unfolding encode_symbols
symbols_none = refl

symbols_append : (t xs ys : List ℕ) → length xs % 3 ≡ 0 → encode_symbols t (xs ++ ys) ≡ encode_symbols t xs ++ encode_symbols t ys
unfolding encode_symbols
symbols_append t [] ys h = refl
symbols_append t (a ∷ []) ys h = absurd (omega arith)
symbols_append t (a ∷ b ∷ []) ys h = absurd (omega arith)
symbols_append t (a ∷ b ∷ c ∷ rest) ys h =
    ap (λ (xs : List ℕ). encode_group t a b c ++ xs) (symbols_append t rest ys (omega (arith, h))) ∙ sym (append_assoc (encode_group t a b c) (encode_symbols t rest) (encode_symbols t ys))

-- the padding is told by what is behind groups of three
pub padded_parts : (octets groups last : List ℕ) → octets ≡ groups ++ last → length groups % 3 ≡ 0 → padded octets ≡ symbols_of groups ++ padded last
padded_parts octets groups last is three =
    let T : List ℕ = standard.encode_table in
    let long = length-append groups last in
    let rest : padding_len (length (groups ++ last)) ≡ padding_len (length last) = omega (arith, long, three) in
    ap padded is
    ∙ ap (λ (xs : List ℕ). xs ++ replicate {A = ℕ} (padding_len (length (groups ++ last))) 61) (symbols_append T groups last three)
    ∙ ap (λ (n : ℕ). (encode_symbols T groups ++ encode_symbols T last) ++ replicate {A = ℕ} n 61) rest
    ∙ append_assoc (encode_symbols T groups) (encode_symbols T last) (replicate {A = ℕ} (padding_len (length last)) 61)

pub padded_alone : (octets groups last : List ℕ) → octets ≡ groups ++ last → length groups % 3 ≡ 0 → length last ≡ 0 → padded octets ≡ symbols_of groups
padded_alone octets groups last is three none =
    let empty : last ≡ [] = nil_from_length last none in
    padded_parts octets groups last is three ∙ ap (λ (xs : List ℕ). symbols_of groups ++ padded xs) empty ∙ (ap (λ (xs : List ℕ). symbols_of groups ++ (xs ++ [])) symbols_none ∙ append-nil (symbols_of groups))

-- ---- one pair

-- what is written over two octets
pub pair_put : (into new : List ℕ) (at n : ℕ) (pair : List ℕ) → at + 2 ≤ length into → n ≡ 2 → length pair ≡ 2 → new ≡ take at into ++ (pair ++ drop n (drop at into)) → (take (at + 2) new ≡ take at into ++ pair) × (drop (at + 2) new ≡ drop (at + 2) into)
pair_put into new at n pair room is two put =
    let front = length-take-le at into (omega (arith, room)) in
    let end : at + 2 ≡ length (take at into) + length pair = omega (arith, front, two) in (
      ap (λ (k : ℕ). take k new) end ∙ ap (take (length (take at into) + length pair)) put ∙ take-append-add (take at into) (pair ++ drop n (drop at into)) (length pair) ∙ ap (λ (xs : List ℕ). take at into ++ xs) (take-append_seam pair (drop n (drop at into))),
      ap (λ (k : ℕ). drop k new) end ∙ ap (drop (length (take at into) + length pair)) put ∙ drop-append-add (take at into) (pair ++ drop n (drop at into)) (length pair) ∙ drop-append_seam pair (drop n (drop at into))
          ∙ ap (λ (k : ℕ). drop k (drop at into)) is ∙ drop-drop 2 at into,
    )

-- ---- the table

pub table_next : (pairs new : List ℕ) (place n : ℕ) (pair : List ℕ) → 2 * place + 2 ≤ length pairs → n ≡ 2 → length pair ≡ 2 → pair ≡ pair_of place → new ≡ take (2 * place) pairs ++ (pair ++ drop n (drop (2 * place) pairs))
    → ((bits : ℕ) → bits < place → take 2 (drop (2 * bits) pairs) ≡ pair_of bits) → (bits : ℕ) → bits < place + 1 → take 2 (drop (2 * bits) new) ≡ pair_of bits
table_next pairs new place n pair room is two pair_is put done bits less = by_place (cases_lt bits place)
  where
    p : (take (2 * place + 2) new ≡ take (2 * place) pairs ++ pair) × (drop (2 * place + 2) new ≡ drop (2 * place + 2) pairs)
    p = pair_put pairs new (2 * place) n pair room is two put

    front : length (take (2 * place) pairs) ≡ 2 * place
    front = length-take-le (2 * place) pairs (omega (arith, room))

    by_place : (bits < place) ⊎ (place ≤ bits) → take 2 (drop (2 * bits) new) ≡ pair_of bits
    by_place (inl before) =
        let most : 2 * bits + 2 ≤ 2 * place = omega (arith, before) in
        let same : take (2 * place) new ≡ take (2 * place) pairs =
        ap (take (2 * place)) put ∙ ap (λ (k : ℕ). take k (take (2 * place) pairs ++ (pair ++ drop n (drop (2 * place) pairs)))) (sym front) ∙ take-append_seam (take (2 * place) pairs) (pair ++ drop n (drop (2 * place) pairs)) in
        sym (drop-take (2 * bits) 2 new) ∙ ap (drop (2 * bits)) (sym (take-take (2 * bits + 2) (2 * place) new most) ∙ ap (take (2 * bits + 2)) same ∙ take-take (2 * bits + 2) (2 * place) pairs most) ∙ drop-take (2 * bits) 2 pairs ∙ done bits before
    by_place (inr here) =
        let at : bits ≡ place = omega (arith, here, less) in
        ap (λ (k : ℕ). take 2 (drop (2 * k) new)) at ∙ sym (drop-take (2 * place) 2 new) ∙ ap (drop (2 * place)) p.0 ∙ ap (λ (k : ℕ). drop k (take (2 * place) pairs ++ pair)) (sym front) ∙ drop-append_seam (take (2 * place) pairs) pair ∙ pair_is ∙ ap pair_of (sym at)

-- ---- groups

-- Of these octets some groups are written behind what stood there, and these are left.
pub record ArePutPairs (octets : List ℕ) (start : ℕ) (old rest : List ℕ) (at : ℕ) (now : List ℕ) : Type 0 where
  pub text : take at now ++ symbols_of rest ≡ take start old ++ symbols_of octets
  pub ends : at + length (symbols_of rest) ≡ start + length (symbols_of octets)
  pub room : at + length (symbols_of rest) ≤ length now
  pub groups : length rest % 3 ≡ 0
  pub size : length now ≡ length old
  pub order : start ≤ at
  pub behind : drop at now ≡ drop at old

pub pairs_begin : (octets : List ℕ) (start : ℕ) (old : List ℕ) → start + length (symbols_of octets) ≤ length old → length octets % 3 ≡ 0 → ArePutPairs octets start old octets start old
pairs_begin octets start old room three = record { text = refl; ends = refl; room = room; groups = three; size = refl; order = omega arith; behind = refl }

group_long : (a b c : ℕ) (others : List ℕ) → length (symbols_of (a ∷ b ∷ c ∷ others)) ≡ 4 + length (symbols_of others)
group_long a b c others = let all = ap length (symbols_more a b c others) in let both = length-append (encode_group standard.encode_table a b c) (symbols_of others) in omega (arith, all, both)

pub group_room : (octets : List ℕ) (start : ℕ) (old rest : List ℕ) (at : ℕ) (now : List ℕ) (a b c : ℕ) (others : List ℕ) → ArePutPairs octets start old rest at now → rest ≡ a ∷ b ∷ c ∷ others → at + 4 ≤ length now
group_room octets start old rest at now a b c others p is = let room = p.room in let long = ap (λ (xs : List ℕ). length (symbols_of xs)) is ∙ group_long a b c others in omega (arith, room, long)

pub pairs_go_on : (octets : List ℕ) (start : ℕ) (old rest : List ℕ) (at : ℕ) (now mid new : List ℕ) (a b c : ℕ) (others : List ℕ) → ArePutPairs octets start old rest at now → rest ≡ a ∷ b ∷ c ∷ others → a < 256 → b < 256 → c < 256
    → take (at + 2) mid ≡ take at now ++ pair_of (a * 16 + b / 16) → drop (at + 2) mid ≡ drop (at + 2) now → length mid ≡ length now
    → take (at + 2 + 2) new ≡ take (at + 2) mid ++ pair_of (b % 16 * 256 + c) → drop (at + 2 + 2) new ≡ drop (at + 2 + 2) mid → length new ≡ length mid → ArePutPairs octets start old others (at + 4) new
pairs_go_on octets start old rest at now mid new a b c others p is x y z put_one stays_one size_one put_two stays_two size_two =
    let end : at + 4 ≡ at + 2 + 2 = omega arith in
    let one : List ℕ = pair_of (a * 16 + b / 16) in
    let two : List ℕ = pair_of (b % 16 * 256 + c) in
    let all : symbols_of rest ≡ (one ++ two) ++ symbols_of others = ap symbols_of is ∙ symbols_more a b c others ∙ ap (λ (xs : List ℕ). xs ++ symbols_of others) (group_is a b c x y z) in
    let long = ap (λ (xs : List ℕ). length (symbols_of xs)) is ∙ group_long a b c others in
    let front : take (at + 4) new ≡ take at now ++ (one ++ two) = ap (λ (n : ℕ). take n new) end ∙ put_two ∙ ap (λ (xs : List ℕ). xs ++ two) put_one ∙ append_assoc (take at now) one two in
    let lens = ap (λ (xs : List ℕ). length xs) is in
    let three = p.groups in
    let room = p.room in
    let ends = p.ends in
    let order = p.order in
    record {
      text = ap (λ (xs : List ℕ). xs ++ symbols_of others) front ∙ append_assoc (take at now) (one ++ two) (symbols_of others) ∙ ap (λ (xs : List ℕ). take at now ++ xs) (sym all) ∙ p.text;
      ends = omega (arith, ends, long);
      room = omega (arith, room, long, size_one, size_two);
      groups = omega (arith, three, lens);
      size = size_two ∙ size_one ∙ p.size;
      order = omega (arith, order);
      behind = ap (λ (n : ℕ). drop n new) end ∙ stays_two ∙ behind_later (at + 2) (at + 2 + 2) now mid (omega arith) stays_one ∙ behind_later at (at + 2 + 2) old now (omega arith) p.behind ∙ ap (λ (n : ℕ). drop n old) (sym end);
    }

pub pairs_end : (octets : List ℕ) (start : ℕ) (old rest : List ℕ) (at : ℕ) (now : List ℕ) → ArePutPairs octets start old rest at now → length rest < 3 → (take at now ≡ take start old ++ symbols_of octets) × (at ≡ start + length (symbols_of octets))
pairs_end octets start old rest at now p few =
    let three = p.groups in
    let none : rest ≡ [] = nil_from_length rest (omega (arith, three, few)) in
    let empty : symbols_of rest ≡ [] = ap symbols_of none ∙ symbols_none in
    let long = ap length empty in
    let ends = p.ends in
    (sym (append-nil (take at now)) ∙ ap (λ (xs : List ℕ). take at now ++ xs) (sym empty) ∙ p.text, omega (arith, ends, long))

-- what has three octets at least
pub three_first : (rest : List ℕ) → 3 ≤ length rest → rest ≡ slice_index rest 0 ∷ slice_index rest 1 ∷ slice_index rest 2 ∷ take (length rest - 3) (drop 3 rest)
three_first [] h = absurd (omega (arith, h))
three_first (a ∷ []) h = absurd (omega (arith, h))
three_first (a ∷ b ∷ []) h = absurd (omega (arith, h))
three_first (a ∷ b ∷ c ∷ others) h = ap (λ (xs : List ℕ). a ∷ b ∷ c ∷ xs) (sym (take_all (length (a ∷ b ∷ c ∷ others) - 3) others (omega arith)))
