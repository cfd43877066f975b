-- The script that a number makes fits its lanes.
use Rattle.std.specs.Prelude.{◌≡◌, ◌≢◌, ◌<◌, ◌≤◌, ◌+◌, ◌-◌, ◌*◌, ◌/◌, ◌%◌, ◌^◌, ℕ, zero, suc, Bool, List, [], ◌∷◌, ◌++◌, length, map, All, IsTrue, codes, slice_index, refl}
use Rattle.std.specs.List.{list_all, AllByRecursion}
use Rattle.std.specs.Str.{IsAscii}
use Rattle.std.proofs.Common.{sym, ◌∙◌, ap, arith, length-append, subst}
use Rattle.std.proofs.lemmas.Fmt.{length-decimal-le, IsAscii-decimal}
use Rattle.std.proofs.lemmas.Grind.{common_steps}
use Rattle.std.proofs.lemmas.List.Elements.{All-nil, All-cons}
use Rattle.std.proofs.lemmas.Str.{IsUtf8-from_ascii}
use Rattle.mdbox_base.specs.Numbers.{decimal_text}
use Rattle.mdbox_base.specs.Words.{IsName, IsNumber}
use Rattle.mdbox_base.specs.declared.requests.Request.{Request}
use Rattle.mdbox_base.specs.declared.requests.Request.TheVariants as request
use Rattle.script_text.specs.MadeScript.{below, made_octet, made_message, lane_name, made_turn, made_round, made_request, made_script}
use Rattle.script_text.specs.Script.{FitsScript, FitsLanes, IsForLanes}
use Rattle.script_text.proofs.CutLemmas.{is_digit, first, second, decimal_digits}

-- ---- names

printing_digit : (c : ℕ) → IsTrue (is_digit c) → 32 ≤ c
printing_digit c h = grind (arith, common_steps, h)

no_delete_digit : (c : ℕ) → IsTrue (is_digit c) → c ≢ 127
no_delete_digit c h e = grind (arith, common_steps, h, e)

printing : (ds : List ℕ) → IsTrue (list_all is_digit ds) → All (λ octet. 32 ≤ octet) ds
printing [] h = All-nil (λ (octet : ℕ). 32 ≤ octet)
printing (d ∷ ds) h = All-cons (λ (octet : ℕ). 32 ≤ octet) d ds (printing_digit d (first (is_digit d) _ h)) (printing ds (second (is_digit d) _ h))

no_delete : (ds : List ℕ) → IsTrue (list_all is_digit ds) → All (λ octet. octet ≢ 127) ds
no_delete [] h = All-nil (λ (octet : ℕ). octet ≢ 127)
no_delete (d ∷ ds) h = All-cons (λ (octet : ℕ). octet ≢ 127) d ds (no_delete_digit d (first (is_digit d) _ h)) (no_delete ds (second (is_digit d) _ h))

ascii_cons : (c : ℕ) (text : List ℕ) → c < 128 → IsAscii text → IsAscii (c ∷ text)
ascii_cons c text h k zero = h
ascii_cons c text h k (suc i) = k i

pub lane_is_name : (lane : ℕ) → lane < 2 ^ 32 → IsName (lane_name lane)
lane_is_name lane lt =
    let small : lane < 2 ^ 64 = omega (arith, lt) in
    let long : length (decimal_text lane) ≤ 20 = length-decimal-le 20 lane (omega arith) (omega (arith, lt)) small in
    record {
      some = omega arith;
      short = omega (arith, long);
      printing = All-cons (λ (octet : ℕ). 32 ≤ octet) 120 (decimal_text lane) (omega arith) (printing (decimal_text lane) (decimal_digits lane small));
      no_delete = All-cons (λ (octet : ℕ). octet ≢ 127) 120 (decimal_text lane) (λ e. omega (arith, e)) (no_delete (decimal_text lane) (decimal_digits lane small));
      utf8 = IsUtf8-from_ascii (lane_name lane) (ascii_cons 120 (decimal_text lane) (omega arith) (IsAscii-decimal lane small));
    }

-- ---- messages

length_below : (n : ℕ) → length (below n) ≡ n
length_below zero = refl
length_below (suc n) = length-append (below n) (n ∷ []) ∙ (let e = length_below n in omega (arith, e))

length_mapped : {X Y : Type 0} → (f : X → Y) (xs : List X) → length (map f xs) ≡ length xs
length_mapped f [] = refl
length_mapped f (x ∷ xs) = ap suc (length_mapped f xs)

pub message_length : (size : ℕ) → length (made_message size) ≡ size
message_length size = length_mapped (made_octet size) (below size) ∙ length_below size

map_last : {X Y : Type 0} → (f : X → Y) (xs : List X) (x : X) → map f (xs ++ x ∷ []) ≡ map f xs ++ f x ∷ []
map_last f [] x = refl
map_last f (y ∷ xs) x = ap (λ (t : List _). f y ∷ t) (map_last f xs x)

-- one more
pub mapped_more : {Y : Type 0} → (f : ℕ → Y) (n : ℕ) → map f (below (n + 1)) ≡ map f (below n) ++ f n ∷ []
mapped_more f n =
    let one : n + 1 ≡ suc n = omega arith in
    ap (λ (k : ℕ). map f (below k)) one ∙ map_last f (below n) n

-- ---- requests

turn_fits : (number i lane round turn : ℕ) → i < 100000 → lane < 2 ^ 32 → round ≤ i → FitsScript (made_turn number i lane round turn)
turn_fits number i lane round zero few small r =
    (lane_is_name lane small, omega (arith, few), omega (arith, message_length ((number % 1000 + i) % 1000)))
turn_fits number i lane round (suc zero) few small r = (lane_is_name lane small, record { low = omega arith; high = omega (arith, few, r) }, lane_is_name lane small)
turn_fits number i lane round (suc (suc zero)) few small r = (lane_is_name lane small, record { low = omega arith; high = omega (arith, few, r) })
turn_fits number i lane round (suc (suc (suc turn))) few small r = (lane_is_name lane small, record { low = omega arith; high = omega (arith, few, r) }, omega arith)

round_fits : (number i lane s : ℕ) → i < 100000 → lane < 2 ^ 32 → s ≤ i → FitsScript (made_round number i lane s)
round_fits number i lane zero few small r = lane_is_name lane small
round_fits number i lane (suc s) few small r = turn_fits number i lane (s / 4) (s % 4) few small (omega (arith, r))

request_fits : (lanes number i : ℕ) → 1 ≤ lanes → lanes ≤ 64 → i < 100000 → FitsLanes lanes (made_request lanes number i)
request_fits lanes number i one most few =
    let lane : i % lanes < lanes = omega (arith, one) in
    let round : i / lanes ≤ i = omega (arith, one) in
    record {
      first = omega arith;
      last = omega (arith, lane);
      fits = round_fits number i (i % lanes + 1) (i / lanes) few (omega (arith, lane, most)) round;
    }

each_more : (lanes : ℕ) (xs : List (ℕ × Request)) (x : ℕ × Request) → AllByRecursion (FitsLanes lanes) xs → FitsLanes lanes x → AllByRecursion (FitsLanes lanes) (xs ++ x ∷ [])
each_more lanes [] x p q = (q, tt)
each_more lanes (y ∷ xs) x p q = (p.0, each_more lanes xs x p.1 q)

each_fits : (lanes number n : ℕ) → 1 ≤ lanes → lanes ≤ 64 → n ≤ 100000 → AllByRecursion (FitsLanes lanes) (map (made_request lanes number) (below n))
each_fits lanes number zero one most few = tt
each_fits lanes number (suc n) one most few =
    subst (AllByRecursion (FitsLanes lanes)) (sym (map_last (made_request lanes number) (below n) n))
    (each_more lanes (map (made_request lanes number) (below n)) (made_request lanes number n) (each_fits lanes number n one most (omega (arith, few))) (request_fits lanes number n one most (omega (arith, few))))

pub made_fits : (lanes count number : ℕ) → 1 ≤ lanes → lanes ≤ 64 → count ≤ 100000 → IsForLanes (made_script lanes count number)
made_fits lanes count number one most few = record {
  few = omega (arith, few, length_mapped (made_request lanes number) (below count), length_below count);
  each = each_fits lanes number count one most few;
}
