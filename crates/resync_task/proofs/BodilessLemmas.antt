-- A message and the same without its body: its header tells no octets, and its block of metadata follows.
use Rattle.resync_task.proofs.Common.{◌≡◌, ◌≤◌, ◌+◌, ℕ, List, [], ◌∷◌, ◌++◌, length, take, drop, Some, refl, sym, ◌∙◌, ap, subst, arith, length-append, IsTrue, ◌↔◌, Result, Ok, Err, length-take-le, length-drop, drop-drop, Message, IsMessage, IsMessageWith, bodiless_header}
use Rattle.std.proofs.Common.{append_assoc}
use Rattle.std.specs.Prelude.{codes, Bool, IfOk}
use Rattle.std.proofs.lemmas.List.{take-append-drop}
use Rattle.std.proofs.Math.Seq.{take-add}
use borrow.Rule.Slice.PartMut.{put_mid}
use Rattle.model_octets.proofs.PiecesLemmas.{split_same}
use Rattle.mdbox_base.specs.Numbers.{IsHex, hex_from}
use Rattle.model_storage.specs.StorageFile.{Line, IsBlock, IsMessageHeader}
use Rattle.resync_task.proofs.RegionLemmas.{behind_front, header_length, in_front}

-- ---- the parts of a header

abbrev front : (header : List ℕ) (n : ℕ) → IsMessageHeader header n → List ℕ
front header n h = 1 ∷ 2 ∷ 78 ∷ h.filler

front_long : (header : List ℕ) (n : ℕ) (h : IsMessageHeader header n) → length (front header n h) ≡ 13
front_long header n h = let f = h.filler_length in omega (arith, f)

header_parts : (header : List ℕ) (n : ℕ) (h : IsMessageHeader header n) → header ≡ front header n h ++ (h.digits ++ 10 ∷ [])
header_parts header n h = h.spelled

header_front : (header : List ℕ) (n : ℕ) (h : IsMessageHeader header n) → take 13 header ≡ front header n h
header_front header n h = ap (take 13) (header_parts header n h) ∙ in_front (front header n h) (h.digits ++ 10 ∷ []) 13 (front_long header n h)

header_digits : (header : List ℕ) (n : ℕ) (h : IsMessageHeader header n) → take 16 (drop 13 header) ≡ h.digits
header_digits header n h =
    ap (λ (o : List ℕ). take 16 (drop 13 o)) (header_parts header n h)
    ∙ (ap (take 16) (behind_front (front header n h) (h.digits ++ 10 ∷ []) 13 (front_long header n h)) ∙ in_front h.digits (10 ∷ []) 16 h.digits_length)

header_end : (header : List ℕ) (n : ℕ) (h : IsMessageHeader header n) → drop 29 header ≡ 10 ∷ []
header_end header n h =
    ap (drop 29) (header_parts header n h ∙ sym (append_assoc (front header n h) h.digits (10 ∷ [])))
    ∙ behind_front (front header n h ++ h.digits) (10 ∷ []) 29 (let a = length-append (front header n h) h.digits in let b = front_long header n h in let c = h.digits_length in omega (arith, a, b, c))

-- ---- the header of a message without its body

abbrev zeros : List ℕ
zeros = codes "0000000000000000"

zeros_long : length zeros ≡ 16
zeros_long = refl

pub bodiless_is : (header : List ℕ) (n : ℕ) → IsMessageHeader header n → IsMessageHeader (bodiless_header header) 0
bodiless_is header n h = record {
  filler = h.filler;
  digits = zeros;
  spelled = spelled_as (take 13 header) (drop 29 header) (header_front header n h) (header_end header n h);
  filler_length = h.filler_length;
  filler_octets = h.filler_octets;
  digits_length = refl;
  value = refl;
  fits = omega arith;
}
  where
    spelled_as : (a b : List ℕ) → a ≡ front header n h → b ≡ 10 ∷ [] → a ++ (zeros ++ b) ≡ front header n h ++ (zeros ++ 10 ∷ [])
    spelled_as a b e f = ap (λ (o : List ℕ). o ++ (zeros ++ b)) e ∙ ap (λ (o : List ℕ). front header n h ++ (zeros ++ o)) f

-- its digits are put in place of those that were there
pub digits_put : (header digits : List ℕ) → digits ≡ zeros → put_mid 13 16 header digits ≡ bodiless_header header
digits_put header digits e = ap (λ (o : List ℕ). take 13 header ++ (o ++ drop 16 (drop 13 header))) e ∙ ap (λ (o : List ℕ). take 13 header ++ (zeros ++ o)) (drop-drop 16 13 header)

-- its parts are those of the header
bare_front : (header : List ℕ) → length header ≡ 30 → take 13 (bodiless_header header) ≡ take 13 header
bare_front header long = in_front (take 13 header) (zeros ++ drop 29 header) 13 (length-take-le 13 header (omega (arith, long)))

bare_digits : (header : List ℕ) → length header ≡ 30 → take 16 (drop 13 (bodiless_header header)) ≡ zeros
bare_digits header long = ap (take 16) (behind_front (take 13 header) (zeros ++ drop 29 header) 13 (length-take-le 13 header (omega (arith, long)))) ∙ in_front zeros (drop 29 header) 16 refl

bare_end : (header : List ℕ) → length header ≡ 30 → drop 29 (bodiless_header header) ≡ drop 29 header
bare_end header long =
    ap (drop 29) (sym (append_assoc (take 13 header) zeros (drop 29 header)))
    ∙ behind_front (take 13 header ++ zeros) (drop 29 header) 29 (let a = length-append (take 13 header) zeros in let b = length-take-le 13 header (omega (arith, long)) in let z = zeros_long in omega (arith, a, b, z))

pub bare_long : (header : List ℕ) → length header ≡ 30 → length (bodiless_header header) ≡ 30
bare_long header long =
    let a = length-append (take 13 header) (zeros ++ drop 29 header) in
    let b = length-append zeros (drop 29 header) in
    let c = length-take-le 13 header (omega (arith, long)) in
    let d = length-drop 29 header in
    let z = zeros_long in
    omega (arith, a, b, c, d, z, long)

some_same : (a b : ℕ) → Some a ≡ Some b → a ≡ b
some_same a b e = cc e

no_size : (header : List ℕ) (n : ℕ) → length header ≡ 30 → IsMessageHeader (bodiless_header header) n → 0 ≡ n
no_size header n long h = some_same 0 n (ap (hex_from 0) (sym (bare_digits header long) ∙ header_digits (bodiless_header header) n h) ∙ h.value)

whole_header : (header : List ℕ) → header ≡ take 13 header ++ (take 16 (drop 13 header) ++ drop 29 header)
whole_header header =
    sym (take-append-drop 13 header)
    ∙ ap (λ (o : List ℕ). take 13 header ++ o) (sym (take-append-drop 16 (drop 13 header)) ∙ ap (λ (o : List ℕ). take 16 (drop 13 header) ++ o) (drop-drop 16 13 header))

-- the header again, of the size that its digits tell
header_again : (header : List ℕ) (n size : ℕ) → length header ≡ 30 → hex_from 0 (take 16 (drop 13 header)) ≡ Some size → size ≤ 4294967295 → IsMessageHeader (bodiless_header header) n → IsMessageHeader header size
header_again header n size long told fits h = record {
  filler = h.filler;
  digits = take 16 (drop 13 header);
  spelled = whole_header header ∙ spelled_as (take 13 header) (drop 29 header) (sym (bare_front header long) ∙ header_front (bodiless_header header) n h) (sym (bare_end header long) ∙ header_end (bodiless_header header) n h);
  filler_length = h.filler_length;
  filler_octets = h.filler_octets;
  digits_length = length-take-le 16 (drop 13 header) (let d = length-drop 13 header in omega (arith, d, long));
  value = told;
  fits = fits;
}
  where
    spelled_as : (a b : List ℕ) → a ≡ front (bodiless_header header) n h → b ≡ 10 ∷ [] → a ++ (take 16 (drop 13 header) ++ b) ≡ front (bodiless_header header) n h ++ (take 16 (drop 13 header) ++ 10 ∷ [])
    spelled_as a b e f = ap (λ (o : List ℕ). o ++ (take 16 (drop 13 header) ++ b)) e ∙ ap (λ (o : List ℕ). front (bodiless_header header) n h ++ (take 16 (drop 13 header) ++ o)) f

-- ---- a message

-- how long its parts are
pub size_parts : (region : List ℕ) (m : Message) (p : IsMessage region m) → length region ≡ 30 + length m.body + length p.block
size_parts region m p =
    let a = ap length p.spelled in
    let b = length-append p.header (m.body ++ p.block) in
    let c = length-append m.body p.block in
    let d = header_length p.header (length m.body) p.begins in
    omega (arith, a, b, c, d)

pub block_some : (block : List ℕ) (lines : List Line) → IsBlock block lines → 1 ≤ length block
block_some block lines b = let e = ap length b.spelled in omega (arith, e)

header_there : (region : List ℕ) (m : Message) (p : IsMessage region m) → take 30 region ≡ p.header
header_there region m p = ap (take 30) p.spelled ∙ in_front p.header (m.body ++ p.block) 30 (header_length p.header (length m.body) p.begins)

pub block_there : (region : List ℕ) (m : Message) (p : IsMessage region m) → drop (30 + length m.body) region ≡ p.block
block_there region m p =
    ap (drop (30 + length m.body)) (p.spelled ∙ sym (append_assoc p.header m.body p.block))
    ∙ behind_front (p.header ++ m.body) p.block (30 + length m.body) (let a = length-append p.header m.body in let b = header_length p.header (length m.body) p.begins in omega (arith, a, b))

-- its header tells the size of its body
pub body_told : (region header : List ℕ) (m : Message) → take 30 region ≡ header → IsMessage region m → hex_from 0 (take 16 (drop 13 header)) ≡ Some (length m.body)
body_told region header m e p =
    ap (λ (o : List ℕ). hex_from 0 (take 16 (drop 13 o))) (sym e ∙ header_there region m p) ∙ (ap (hex_from 0) (header_digits p.header (length m.body) p.begins) ∙ p.begins.value)

pub body_is : (region header : List ℕ) (m : Message) (size : ℕ) → IsHex 16 (take 16 (drop 13 header)) size → take 30 region ≡ header → IsMessage region m → length m.body ≡ size
body_is region header m size digits first p = some_same (length m.body) size (sym (body_told region header m first p) ∙ digits.value)

-- ---- without its body, and with it again

without_body : (region : List ℕ) (m : Message) → IsMessage region m → IsMessage (bodiless_header (take 30 region) ++ drop (30 + length m.body) region) (record { body = []; lines = m.lines })
without_body region m p = record {
  header = bodiless_header (take 30 region);
  block = p.block;
  spelled = ap (λ (o : List ℕ). bodiless_header (take 30 region) ++ o) (block_there region m p);
  begins = subst (λ (o : List ℕ). IsMessageHeader (bodiless_header o) 0) (sym (header_there region m p)) (bodiless_is p.header (length m.body) p.begins);
  ends = p.ends;
}

nothing : (xs : List ℕ) → 0 ≡ length xs → xs ≡ []
nothing [] e = refl
nothing (x ∷ xs) e = absurd (omega (arith, e))

with_body : (region header tail : List ℕ) (size : ℕ) (m : Message) → take 30 region ≡ header → drop (30 + size) region ≡ tail → length header ≡ 30 → 30 + size ≤ length region → size ≤ 4294967295
    → hex_from 0 (take 16 (drop 13 header)) ≡ Some size → IsMessage (bodiless_header header ++ tail) m → IsMessage region (record { body = take size (drop 30 region); lines = m.lines })
with_body region header tail size m first last long within fits told p =
    let same = split_same (bodiless_header header) p.header tail (m.body ++ p.block) (bare_long header long ∙ sym (header_length p.header (length m.body) p.begins)) p.spelled in
    let begins : IsMessageHeader (bodiless_header header) (length m.body) = subst (λ (o : List ℕ). IsMessageHeader o (length m.body)) (sym same.0) p.begins in
    let none : m.body ≡ [] = nothing m.body (no_size header (length m.body) long begins) in
    let block : tail ≡ p.block = same.1 ∙ ap (λ (o : List ℕ). o ++ p.block) none in
    let size_is : size ≡ length (take size (drop 30 region)) = sym (length-take-le size (drop 30 region) (let d = length-drop 30 region in omega (arith, d, within))) in
    record {
      header = header;
      block = p.block;
      spelled = whole region ∙ (ap (λ (o : List ℕ). o ++ (take size (drop 30 region) ++ drop (30 + size) region)) first ∙ ap (λ (o : List ℕ). header ++ (take size (drop 30 region) ++ o)) (last ∙ block));
      begins = subst (λ (n : ℕ). IsMessageHeader header n) size_is (header_again header (length m.body) size long told fits begins);
      ends = p.ends;
    }
  where
    whole : (region : List ℕ) → region ≡ take 30 region ++ (take size (drop 30 region) ++ drop (30 + size) region)
    whole region =
        sym (take-append-drop 30 region)
        ∙ ap (λ (o : List ℕ). take 30 region ++ o) (sym (take-append-drop size (drop 30 region)) ∙ ap (λ (o : List ℕ). take size (drop 30 region) ++ o) (drop-drop size 30 region))

-- ---- with a GUID

-- what stands behind a header
pub framed : (octets header : List ℕ) (tail : ℕ) → length header ≡ 30 → take (30 + tail) (bodiless_header header ++ drop 30 octets) ≡ bodiless_header header ++ take tail (drop 30 octets)
framed octets header tail long =
    let b = bare_long header long in
    take-add 30 tail (bodiless_header header ++ drop 30 octets)
    ∙ (ap (λ (o : List ℕ). o ++ take tail (drop 30 (bodiless_header header ++ drop 30 octets))) (in_front (bodiless_header header) (drop 30 octets) 30 b)
    ∙ ap (λ (o : List ℕ). bodiless_header header ++ take tail o) (behind_front (bodiless_header header) (drop 30 octets) 30 b))

pub framed_answer : {E : Type 0} → (r : Result Bool E) (guid region header part : List ℕ) (tail : ℕ) → region ≡ bodiless_header header ++ take tail part → tail ≤ length part → IfOk r (λ is. IsTrue is ↔ IsMessageWith guid region)
    → IfOk r (λ is. IsTrue is ↔ ((tail ≤ length part) × IsMessageWith guid (bodiless_header header ++ take tail part)))
framed_answer (Ok is) guid region header part tail same enough told = record {
  0 = λ t. (enough, subst (IsMessageWith guid) same (told.0 t));
  1 = λ h. told.1 (subst (IsMessageWith guid) (sym same) h.1);
}
framed_answer (Err e) guid region header part tail same enough told = told

pub ends_of : (guid region header tail : List ℕ) (size : ℕ) (h : IsMessageWith guid region) → take 30 region ≡ header → length h.message.body ≡ size → drop (30 + size) region ≡ tail → IsMessageWith guid (bodiless_header header ++ tail)
ends_of guid region header tail size h first same last = record {
  message = record { body = []; lines = h.message.lines };
  meta = h.meta;
  spelled = subst (λ (o : List ℕ). IsMessage (bodiless_header o ++ tail) (record { body = []; lines = h.message.lines })) first
      (subst (λ (o : List ℕ). IsMessage (bodiless_header (take 30 region) ++ o) (record { body = []; lines = h.message.lines })) (ap (λ (n : ℕ). drop (30 + n) region) same ∙ last) (without_body region h.message h.spelled));
  says = h.says;
  has = h.has;
}

pub of_ends : (guid region header tail : List ℕ) (size : ℕ) → take 30 region ≡ header → drop (30 + size) region ≡ tail → length header ≡ 30 → 30 + size ≤ length region → size ≤ 4294967295
    → hex_from 0 (take 16 (drop 13 header)) ≡ Some size → IsMessageWith guid (bodiless_header header ++ tail) → IsMessageWith guid region
of_ends guid region header tail size first last long within fits told h = record {
  message = record { body = take size (drop 30 region); lines = h.message.lines };
  meta = h.meta;
  spelled = with_body region header tail size h.message first last long within fits told h.spelled;
  says = h.says;
  has = h.has;
}

-- a message has more than its header
pub tail_some : (guid header tail : List ℕ) → length header ≡ 30 → IsMessageWith guid (bodiless_header header ++ tail) → 1 ≤ length tail
tail_some guid header tail long h =
    let parts = size_parts (bodiless_header header ++ tail) h.message h.spelled in
    let some = block_some h.spelled.block h.message.lines h.spelled.ends in
    let a = length-append (bodiless_header header) tail in
    let b = bare_long header long in
    omega (arith, parts, some, a, b)

-- ---- a header that is none of a message of a size

pub no_message_of : (header : List ℕ) (size body : ℕ) → (IsHex 16 (take 16 (drop 13 header)) body → 30 + body ≤ size → size ≤ 30 + body + 1048576 → ⊥)
    → (region : List ℕ) (m : Message) → length m.body ≡ body → take 30 region ≡ header → length region ≡ size → IsMessage region m → ⊥
no_message_of header size body none region m same first long p =
    let parts = size_parts region m p in
    let short = p.ends.short in
    none (subst (λ (n : ℕ). IsHex 16 (take 16 (drop 13 header)) n) same (digits_hex first)) (omega (arith, parts, same, long)) (omega (arith, parts, same, long, short))
  where
    digits_hex : take 30 region ≡ header → IsHex 16 (take 16 (drop 13 header)) (length m.body)
    digits_hex e =
        let l : length (take 16 (drop 13 header)) ≡ 16 = ap (λ (o : List ℕ). length (take 16 (drop 13 o))) (sym e ∙ header_there region m p) ∙ (ap length (header_digits p.header (length m.body) p.begins) ∙ p.begins.digits_length) in
        record { some = omega (arith, l); short = omega (arith, l); value = body_told region header m e p }
