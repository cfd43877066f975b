-- A message in its parts.
use Rattle.std.specs.Prelude.{◌≡◌, ◌≤◌, ◌<◌, ◌-◌, ℕ, replicate, take, drop, List, [], ◌∷◌, ◌++◌, length, flat_map, refl, Some}
use Rattle.std.proofs.Common.{sym, ◌∙◌, ap, subst, length-append, arith, lit≤}
use Rattle.std.proofs.lemmas.List.{length-replicate, take-append-drop, length-take-le}
use Rattle.mdbox_base.specs.Numbers.{is_between}
use Rattle.model_storage.specs.Grammars.{Grammar, IsPrefixFree}
use Rattle.model_octets.proofs.PiecesLemmas.{split_same}
use Rattle.model_storage.specs.StorageFile.{Line, line_text, Message, IsMessageHeader, IsBlock, IsMessage}
use Rattle.model_storage.proofs.FileLemmas.{message_header_same}
use Rattle.dbox_file.specs.declared.reading.Flaw.{Flaw}
use Rattle.dbox_file.specs.declared.reading.Flaw.TheVariants.{Short}
use Rattle.dbox_file.specs.MessageFound.{HasMessage}
use Rattle.dbox_file.specs.Reading.{StandsFirst, FoundSome, Flawed, IsText, IsRun}
use Rattle.dbox_file.specs.Rows.{IsRows}
use Rattle.dbox_file.specs.Sizes.{IsSize}
use Rattle.dbox_file.proofs.PrefixLemmas.{Then, CanFollow, flawed_first, flawed_behind, found_behind, flawed_along}
use Rattle.dbox_file.proofs.RunLemmas.{text_free, run_free}
use Rattle.dbox_file.proofs.SizeLemmas.{size_free}

-- The header of a message: its mark, ten printing octets, the digits, LF.
abbrev pub mark : List ℕ
mark = 1 ∷ 2 ∷ 78 ∷ []

abbrev printing : Grammar (Unit {0})
printing = IsRun 10 (is_between 32 126)

-- LF, behind the digits of this size
abbrev IsEndOf : ℕ → List ℕ → ℕ → Type 0
IsEndOf size octets n = (octets ≡ 10 ∷ []) × (n ≡ size)

abbrev IsBehindFiller : Grammar ℕ
IsBehindFiller = Then IsSize IsEndOf

abbrev IsBehindMark : Grammar ℕ
IsBehindMark = Then printing (λ _. IsBehindFiller)

abbrev IsHeaderInParts : Grammar ℕ
IsHeaderInParts = Then (IsText mark) (λ _. IsBehindMark)

header_texts : (o a r b s d e : List ℕ) → o ≡ a ++ r → a ≡ 1 ∷ 2 ∷ 78 ∷ [] → r ≡ b ++ s → s ≡ d ++ e → e ≡ 10 ∷ [] → o ≡ 1 ∷ 2 ∷ 78 ∷ (b ++ (d ++ 10 ∷ []))
header_texts o a r b s d e eo ea er es ee = cc

header_of_parts : (o : List ℕ) (n : ℕ) → IsHeaderInParts o n → IsMessageHeader o n
header_of_parts o n q =
    let f = q.5 in
    let d = f.5 in
    record {
      filler = f.0;
      digits = d.0;
      spelled = header_texts o q.0 q.1 f.0 f.1 d.0 d.1 q.3 q.4 f.3 d.3 d.5.0;
      filler_length = f.4.0;
      filler_octets = f.4.1;
      digits_length = d.4.count;
      value = d.4.value ∙ ap Some (sym d.5.1);
      fits = omega (arith, d.4.fits, d.5.1);
    }

header_in_parts : (o : List ℕ) (n : ℕ) → IsMessageHeader o n → IsHeaderInParts o n
header_in_parts o n p = (
  mark,
  p.filler ++ (p.digits ++ 10 ∷ []),
  tt,
  p.spelled,
  refl,
  (
    p.filler,
    p.digits ++ 10 ∷ [],
    tt,
    refl,
    (p.filler_length, p.filler_octets),
    (p.digits, 10 ∷ [], n, refl, record { count = p.digits_length; value = p.value; fits = p.fits }, (refl, refl)),
  ),
)

sixteen_zeros : IsSize (replicate 16 48) 0
sixteen_zeros = record { count = refl; value = refl; fits = lit≤ tt }

size_can : CanFollow IsSize IsEndOf
size_can a n p = (10 ∷ [], n, (refl, refl))

filler_can : CanFollow printing (λ _. IsBehindFiller)
filler_can a u p = (replicate 16 48 ++ 10 ∷ [], 0, (replicate 16 48, 10 ∷ [], 0, refl, sixteen_zeros, (refl, refl)))

mark_can : CanFollow (IsText mark) (λ _. IsBehindMark)
mark_can a u p =
    let k = filler_can [] tt in
    (replicate 10 32 ++ (replicate 16 48 ++ 10 ∷ []), 0, (replicate 10 32, replicate 16 48 ++ 10 ∷ [], tt, refl, (refl, refl), (replicate 16 48, 10 ∷ [], 0, refl, sixteen_zeros, (refl, refl))))

header_along : (t : List ℕ) (e : Flaw) → Flawed IsHeaderInParts t e → Flawed IsMessageHeader t e
header_along t e f = flawed_along IsHeaderInParts IsMessageHeader (λ o n p. (n, header_of_parts o n p)) (λ o n p. (n, header_in_parts o n p)) t e f

-- what is wrong with a part is wrong with the header
pub header_flaw_mark : (t : List ℕ) (e : Flaw) → Flawed (IsText mark) t e → Flawed IsMessageHeader t e
header_flaw_mark t e f = header_along t e (flawed_first (IsText mark) (λ _. IsBehindMark) t e mark_can f)

pub header_flaw_filler : (t r : List ℕ) (e : Flaw) → FoundSome (IsText mark) t r → Flawed (IsRun 10 (is_between 32 126)) r e → Flawed IsMessageHeader t e
header_flaw_filler t r e a f =
    header_along t e (flawed_behind (IsText mark) (λ _. IsBehindMark) (text_free mark) t r a.0 e a.1 (flawed_first printing (λ _. IsBehindFiller) r e filler_can f))

pub header_flaw_size : (t r s : List ℕ) (e : Flaw) → FoundSome (IsText mark) t r → FoundSome (IsRun 10 (is_between 32 126)) r s → Flawed IsSize s e → Flawed IsMessageHeader t e
header_flaw_size t r s e a b f =
    header_along t e (flawed_behind (IsText mark) (λ _. IsBehindMark) (text_free mark) t r a.0 e a.1
    (flawed_behind printing (λ _. IsBehindFiller) (run_free 10 (is_between 32 126)) r s b.0 e b.1 (flawed_first IsSize IsEndOf s e size_can f)))

pub header_flaw_end : (t r s u : List ℕ) (n : ℕ) (e : Flaw) → FoundSome (IsText mark) t r → FoundSome (IsRun 10 (is_between 32 126)) r s → StandsFirst IsSize s n u → Flawed (IsText (10 ∷ [])) u e → Flawed IsMessageHeader t e
header_flaw_end t r s u n e a b d f =
    header_along t e (flawed_behind (IsText mark) (λ _. IsBehindMark) (text_free mark) t r a.0 e a.1
    (flawed_behind printing (λ _. IsBehindFiller) (run_free 10 (is_between 32 126)) r s b.0 e b.1
    (flawed_behind IsSize IsEndOf size_free s u n e d (flawed_along (IsText (10 ∷ [])) (IsEndOf n) (λ o x p. (n, (p, refl))) (λ o x p. (tt, p.0)) u e f))))

pub header_found : (t r s u v : List ℕ) (n : ℕ) → FoundSome (IsText mark) t r → FoundSome (IsRun 10 (is_between 32 126)) r s → StandsFirst IsSize s n u → FoundSome (IsText (10 ∷ [])) u v → StandsFirst IsMessageHeader t n v
header_found t r s u v n a b d f =
    let all : StandsFirst IsHeaderInParts t n v = found_behind (IsText mark) (λ _. IsBehindMark) t r v a.0 n a.1
    (found_behind printing (λ _. IsBehindFiller) r s v b.0 n b.1
    (found_behind IsSize IsEndOf s u v n n d (f.1.0, f.1.1, (f.1.2, refl)))) in
    (all.0, all.1, header_of_parts all.0 n all.2)

-- The block of metadata: what stands before its lines, and these.
abbrev pub trailer : List ℕ
trailer = 10 ∷ 1 ∷ 3 ∷ 10 ∷ []

abbrev IsBlockInParts : Grammar (List Line)
IsBlockInParts = Then (IsText trailer) (λ _. IsRows 1048572)

block_texts : (o a r : List ℕ) (lines : List ℕ) → o ≡ a ++ r → a ≡ 10 ∷ 1 ∷ 3 ∷ 10 ∷ [] → r ≡ lines ++ 10 ∷ [] → o ≡ 10 ∷ 1 ∷ 3 ∷ 10 ∷ (lines ++ 10 ∷ [])
block_texts o a r lines eo ea er = cc

block_of_parts : (o : List ℕ) (ls : List Line) → IsBlockInParts o ls → (ks : List Line) × IsBlock o ks
block_of_parts o ls q =
    let p = q.5 in (
      ls,
      record {
        each = p.each;
        spelled = block_texts o q.0 q.1 (flat_map line_text ls) q.3 q.4 p.spelled;
        short = omega (arith, p.short, ap length q.3, ap length q.4, length-append q.0 q.1);
      },
    )

block_in_parts : (o : List ℕ) (ls : List Line) → IsBlock o ls → (ks : List Line) × IsBlockInParts o ks
block_in_parts o ls p = (
  ls,
  (
    trailer,
    flat_map line_text ls ++ 10 ∷ [],
    tt,
    p.spelled,
    refl,
    record { each = p.each; spelled = refl; short = omega (arith, p.short, ap length p.spelled) },
  ),
)

trailer_can : CanFollow (IsText trailer) (λ _. IsRows 1048572)
trailer_can a u p = (10 ∷ [], [], record { each = tt; spelled = refl; short = lit≤ tt })

pub block_flaw_trailer : (t : List ℕ) (e : Flaw) → Flawed (IsText trailer) t e → Flawed IsBlock t e
block_flaw_trailer t e f = flawed_along IsBlockInParts IsBlock block_of_parts block_in_parts t e (flawed_first (IsText trailer) (λ _. IsRows 1048572) t e trailer_can f)

pub block_flaw_lines : (t r : List ℕ) (e : Flaw) → FoundSome (IsText trailer) t r → Flawed (IsRows 1048572) r e → Flawed IsBlock t e
block_flaw_lines t r e a f = flawed_along IsBlockInParts IsBlock block_of_parts block_in_parts t e (flawed_behind (IsText trailer) (λ _. IsRows 1048572) (text_free trailer) t r a.0 e a.1 f)

pub block_found : (t r s : List ℕ) → FoundSome (IsText trailer) t r → FoundSome (IsRows 1048572) r s → FoundSome IsBlock t s
block_found t r s a f =
    let all : StandsFirst IsBlockInParts t f.0 s = found_behind (IsText trailer) (λ _. IsRows 1048572) t r s a.0 f.0 a.1 f.1 in
    let b = block_of_parts all.0 f.0 all.2 in
    (b.0, (all.0, all.1, b.1))

-- The message: its header, so many octets, its block.
abbrev pub IsBody : ℕ → List ℕ → List ℕ → Type 0
IsBody size octets body = (length octets ≡ size) × (body ≡ octets)

abbrev IsBlockOf : List ℕ → List ℕ → Message → Type 0
IsBlockOf body octets m = (m.body ≡ body) × IsBlock octets m.lines

abbrev IsBehindHeader : ℕ → List ℕ → Message → Type 0
IsBehindHeader size = Then (IsBody size) IsBlockOf

abbrev IsMessageInParts : Grammar Message
IsMessageInParts = Then IsMessageHeader IsBehindHeader

message_texts : (o h r b k body : List ℕ) → o ≡ h ++ r → r ≡ b ++ k → body ≡ b → o ≡ h ++ (body ++ k)
message_texts o h r b k body eo er eb = cc

message_of_parts : (o : List ℕ) (m : Message) → IsMessageInParts o m → IsMessage o m
message_of_parts o m q =
    let p = q.5 in
    let body : m.body ≡ p.0 = p.5.0 ∙ p.4.1 in
    record {
      header = q.0;
      block = p.1;
      spelled = message_texts o q.0 q.1 p.0 p.1 m.body q.3 p.3 body;
      begins = subst (IsMessageHeader q.0) (sym (ap length body ∙ p.4.0)) q.4;
      ends = p.5.1;
    }

message_in_parts : (o : List ℕ) (m : Message) → IsMessage o m → IsMessageInParts o m
message_in_parts o m p = (p.header, m.body ++ p.block, length m.body, p.spelled, p.begins, (m.body, p.block, m.body, refl, (refl, refl), (refl, p.ends)))

some_block : IsBlock (10 ∷ 1 ∷ 3 ∷ 10 ∷ 10 ∷ []) []
some_block = record { each = tt; spelled = refl; short = lit≤ tt }

body_can : (size : ℕ) → CanFollow (IsBody size) IsBlockOf
body_can size a body p = (10 ∷ 1 ∷ 3 ∷ 10 ∷ 10 ∷ [], record { body = body; lines = [] }, (refl, some_block))

header_can : CanFollow IsMessageHeader IsBehindHeader
header_can a size p =
    let body : List ℕ = replicate size 0 in
    (body ++ (10 ∷ 1 ∷ 3 ∷ 10 ∷ 10 ∷ []), record { body = body; lines = [] }, (body, 10 ∷ 1 ∷ 3 ∷ 10 ∷ 10 ∷ [], body, refl, (length-replicate {A = ℕ} size 0, refl), (refl, some_block)))

body_free : (size : ℕ) → IsPrefixFree (IsBody size)
body_free size a b x y m n pa pb e =
    let s = (split_same a b x y (pa.0 ∙ sym pb.0) e).0 in
    (s, pa.1 ∙ s ∙ sym pb.1)

message_along : (t : List ℕ) (e : Flaw) → Flawed IsMessageInParts t e → Flawed IsMessage t e
message_along t e f = flawed_along IsMessageInParts IsMessage (λ o m p. (m, message_of_parts o m p)) (λ o m p. (m, message_in_parts o m p)) t e f

-- what is wrong with a part is wrong with the message
pub message_flaw_header : (t : List ℕ) (e : Flaw) → Flawed IsMessageHeader t e → Flawed IsMessage t e
message_flaw_header t e f = message_along t e (flawed_first IsMessageHeader IsBehindHeader t e header_can f)

few_octets : (t : List ℕ) (size : ℕ) → length t < size → Flawed (IsBody size) t Short
few_octets t size h = (
  λ q. omega (arith, h, ap length q.3, length-append q.0 q.1, q.4.0),
  (replicate (size - length t) 0, t ++ replicate (size - length t) 0, (omega (arith, h, length-append t (replicate (size - length t) 0), length-replicate {A = ℕ} (size - length t) 0), refl)),
)

pub message_flaw_body : (t r : List ℕ) (size : ℕ) → StandsFirst IsMessageHeader t size r → length r < size → Flawed IsMessage t Short
message_flaw_body t r size a h =
    message_along t Short (flawed_behind IsMessageHeader IsBehindHeader message_header_same t r size Short a (flawed_first (IsBody size) IsBlockOf r Short (body_can size) (few_octets r size h)))

body_found : (r : List ℕ) (size : ℕ) → size ≤ length r → StandsFirst (IsBody size) r (take size r) (drop size r)
body_found r size h = (take size r, sym (take-append-drop size r), (length-take-le size r h, refl))

block_across : (body t : List ℕ) (e : Flaw) → Flawed IsBlock t e → Flawed (IsBlockOf body) t e
block_across body t e f = flawed_along IsBlock (IsBlockOf body) (λ o ls p. (record { body = body; lines = ls }, (refl, p))) (λ o m p. (m.lines, p.1)) t e f

pub message_flaw_block : (t r s : List ℕ) (size : ℕ) (e : Flaw) → StandsFirst IsMessageHeader t size r → size ≤ length r → s ≡ drop size r → Flawed IsBlock s e → Flawed IsMessage t e
message_flaw_block t r s size e a h es f =
    message_along t e (flawed_behind IsMessageHeader IsBehindHeader message_header_same t r size e a
    (flawed_behind (IsBody size) IsBlockOf (body_free size) r (drop size r) (take size r) e (body_found r size h) (block_across (take size r) (drop size r) e (subst (λ (o : List ℕ). Flawed IsBlock o e) es f))))

pub message_found : (t r s u : List ℕ) (size : ℕ) → StandsFirst IsMessageHeader t size r → size ≤ length r → s ≡ drop size r → FoundSome IsBlock s u → HasMessage t size u
message_found t r s u size a h es f =
    let m : Message = record { body = take size r; lines = f.0 } in
    let behind : StandsFirst (IsBlockOf (take size r)) (drop size r) m u = (f.1.0, sym es ∙ f.1.1, (refl, f.1.2)) in
    let all : StandsFirst IsMessageInParts t m u = found_behind IsMessageHeader IsBehindHeader t r u size m a (found_behind (IsBody size) IsBlockOf r (drop size r) u (take size r) m (body_found r size h) behind) in
    (m, length-take-le size r h, (all.0, all.1, message_of_parts all.0 m all.2))
