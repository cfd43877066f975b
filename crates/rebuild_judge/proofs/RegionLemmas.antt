-- The parts of a message at its place.
use Rattle.std.proofs.Common.{refl, ◌≡◌, ◌+◌, ◌-◌, ◌≤◌, ℕ, List, [], ◌∷◌, ◌++◌, length, take, drop, sym, ◌∙◌, ap, subst, arith, append_assoc, append-nil, length-append}
use Rattle.std.proofs.lemmas.List.{take_at, drop_at, drop-drop}
use Rattle.std.specs.Prelude.{flat_map}
use Rattle.model_storage.proofs.FileLemmas.{message_same}
use Rattle.model_storage.proofs.ScanLemmas.{message_length}
use Rattle.model_storage.specs.declared.places.MessageAt.{MessageAt}
use Rattle.model_storage.specs.StorageFile.{Message, IsMessage, IsMessageHeader, StandsAt, line_text, place_at}
use Rattle.rebuild_judge.specs.Reading.{HasMessageAt}

header_long : (header : List ℕ) (n : ℕ) → IsMessageHeader header n → length header ≡ 30
header_long header n h =
    let a = ap length h.spelled in
    let b = length-append h.filler (h.digits ++ 10 ∷ []) in
    let c = length-append h.digits (10 ∷ []) in
    let d = h.filler_length in
    let e = h.digits_length in
    omega (arith, a, b, c, d, e)

behind_header : (octets : List ℕ) (place : MessageAt) (m : Message) → (s : HasMessageAt octets place m) → drop (place.offset + 30) octets ≡ m.body ++ (s.is_message.block ++ s.behind)
behind_header octets place m s =
    let p = s.is_message in
    sym (drop-drop 30 place.offset octets) ∙ (ap (drop 30) (s.here ∙ (ap (λ (xs : List ℕ). xs ++ s.behind) p.spelled ∙ append_assoc p.header (m.body ++ p.block) s.behind))
    ∙ (drop_at p.header ((m.body ++ p.block) ++ s.behind) 30 (header_long p.header (length m.body) p.begins) ∙ append_assoc m.body p.block s.behind))

behind_body : (octets : List ℕ) (place : MessageAt) (m : Message) → (s : HasMessageAt octets place m) → drop (place.offset + 30 + length m.body + 4) octets ≡ flat_map line_text m.lines ++ (10 ∷ s.behind)
behind_body octets place m s =
    let p = s.is_message in
    let text = flat_map line_text m.lines in
    sym (drop-drop 4 (place.offset + 30 + length m.body) octets)
    ∙ (ap (drop 4) (sym (drop-drop (length m.body) (place.offset + 30) octets) ∙ (ap (drop (length m.body)) (behind_header octets place m s) ∙ (drop_at m.body (p.block ++ s.behind) (length m.body) refl ∙ ap (λ (xs : List ℕ). xs ++ s.behind) p.ends.spelled)))
    ∙ (drop_at (10 ∷ 1 ∷ 3 ∷ 10 ∷ []) ((text ++ 10 ∷ []) ++ s.behind) 4 refl ∙ append_assoc text (10 ∷ []) s.behind))

-- its body
pub body_in : (octets : List ℕ) (place : MessageAt) (m : Message) → HasMessageAt octets place m → take place.size (drop place.body octets) ≡ m.body
body_in octets place m s =
    let size = ap (λ (p : MessageAt). p.size) s.place_is in
    let body = ap (λ (p : MessageAt). p.body) s.place_is in
    ap (λ (n : ℕ). take n (drop place.body octets)) size ∙ (ap (λ (n : ℕ). take (length m.body) (drop n octets)) body ∙ (ap (take (length m.body)) (behind_header octets place m s) ∙ take_at m.body (s.is_message.block ++ s.behind) (length m.body) refl))

-- its body, and what follows it
pub body_front : (octets : List ℕ) (place : MessageAt) (m : Message) → HasMessageAt octets place m → drop place.body octets ≡ m.body ++ (drop (length m.body) (drop place.body octets))
body_front octets place m s =
    let e = ap (λ (k : ℕ). drop k octets) (ap (λ (p : MessageAt). p.body) s.place_is) ∙ behind_header octets place m s in
    e ∙ ap (λ (xs : List ℕ). m.body ++ xs) (sym (ap (drop (length m.body)) e ∙ drop_at m.body (s.is_message.block ++ s.behind) (length m.body) refl))

-- its lines
pub lines_in : (octets : List ℕ) (place : MessageAt) (m : Message) → HasMessageAt octets place m → take (place.end - place.lines - 1) (drop place.lines octets) ≡ flat_map line_text m.lines
lines_in octets place m s =
    let lines = ap (λ (p : MessageAt). p.lines) s.place_is in
    let end = ap (λ (p : MessageAt). p.end) s.place_is in
    let size : place.end - place.lines - 1 ≡ length (flat_map line_text m.lines) = omega (arith, lines, end) in
    ap (λ (n : ℕ). take n (drop place.lines octets)) size ∙ (ap (λ (n : ℕ). take (length (flat_map line_text m.lines)) (drop n octets)) lines
    ∙ (ap (take (length (flat_map line_text m.lines))) (behind_body octets place m s) ∙ take_at (flat_map line_text m.lines) (10 ∷ s.behind) (length (flat_map line_text m.lines)) refl))

-- its region is the message
pub region_in : (octets : List ℕ) (place : MessageAt) (m : Message) → HasMessageAt octets place m → IsMessage (take (place.end - place.offset) (drop place.offset octets)) m
region_in octets place m s =
    let long = message_length s.first m place.offset s.is_message in
    let end = ap (λ (p : MessageAt). p.end) s.place_is in
    let offset = ap (λ (p : MessageAt). p.offset) s.place_is in
    let size : length s.first ≡ place.end - place.offset = omega (arith, long, end, offset) in
    subst (λ (xs : List ℕ). IsMessage xs m) (sym (ap (take (place.end - place.offset)) s.here ∙ take_at s.first s.behind (place.end - place.offset) size)) s.is_message

-- a message that octets begin with, if they are one: it is this one, and nothing else stands there
pub only_message : (octets : List ℕ) (place : MessageAt) (m : Message) → StandsAt octets 0 place → IsMessage octets m → HasMessageAt octets place m
only_message octets place m (first, behind, n, here, is, at) whole =
    let same = message_same first octets behind [] n m is whole (sym here ∙ sym (append-nil octets)) in
    let where_is : place ≡ place_at 0 m = at ∙ ap (place_at 0) same.1 in
    let offset : place.offset ≡ 0 = ap (λ (p : MessageAt). p.offset) where_is in
    record {
      first = octets;
      behind = [];
      here = ap (λ (n : ℕ). drop n octets) offset ∙ sym (append-nil octets);
      is_message = whole;
      place_is = where_is ∙ ap (λ (n : ℕ). place_at n m) (sym offset);
    }

-- its lines and its body lie within
pub stands_within : (octets : List ℕ) (place : MessageAt) → StandsAt octets 0 place → (place.lines + (place.end - place.lines - 1) ≤ length octets) × (place.body + place.size ≤ length octets)
stands_within octets place (first, behind, m, here, is, at) =
    let long = message_length first m 0 is in
    let all = ap length here ∙ length-append first behind in
    let end = ap (λ (p : MessageAt). p.end) at in
    let lines = ap (λ (p : MessageAt). p.lines) at in
    let body = ap (λ (p : MessageAt). p.body) at in
    let size = ap (λ (p : MessageAt). p.size) at in
    (omega (arith, long, all, end, lines), omega (arith, long, all, end, body, size))
