-- What a part of a text tells of the whole.
use Rattle.std.specs.Prelude.{◌≡◌, ◌≤◌, ◌<◌, ◌⊎◌, ℕ, List, [], ◌∷◌, ◌++◌, codes, length, take, drop, refl, Option, Some, None, Result, Ok, Err}
use Rattle.std.proofs.Common.{inl, inr, sym, ◌∙◌, ap, subst, arith, lit≤, append_assoc, append-nil, length-append}
use Rattle.std.specs.Option.{IfSome, IfNone}
use Rattle.std.proofs.lemmas.List.{length-take-le, take-append-drop, take_at, drop_at}
use Rattle.dbox_file.proofs.MessageLemmas.{message_flaw_body, message_flaw_block, message_found}
use Rattle.dbox_file.proofs.PrefixLemmas.{two_fronts}
use Rattle.dbox_file.specs.MessageFound.{HasMessage}
use Rattle.dbox_file.specs.Reading.{StandsFirst, FoundSome, Flawed}
use Rattle.dbox_file.specs.declared.reading.Flaw.{Flaw}
use Rattle.dbox_file.specs.declared.reading.Flaw.TheVariants.{Short, Bad}
use Rattle.mdbox_base.specs.Numbers.{IsHex, hex_from}
use Rattle.model_octets.proofs.PiecesLemmas.{split_same}
use Rattle.model_storage.proofs.FileLemmas.{message_header_same}
use Rattle.model_storage.proofs.ScanLemmas.{message_length}
use Rattle.model_storage.specs.declared.places.MessageAt.{MessageAt}
use Rattle.model_storage.specs.declared.places.PlaceError.{PlaceError}
use Rattle.model_storage.specs.declared.places.PlaceError.TheVariants as at
use Rattle.model_storage.specs.Grammars.{Grammar, Begins, IsFrontOf}
use Rattle.model_storage.specs.StorageFile.{Line, Message, IsBlock, IsMessage, IsMessageHeader, PlaceGives}
use Rattle.scan_pieces.specs.Pieces.{TextGives, BlockGives, empty_header}

-- ---- a front and the whole

-- No spelling begins the whole if none begins its front and the front isn't a prefix of one.
none_begins : {X : Type 0} → (G : Grammar X) (front rest : List ℕ) → ¬ Begins G front → ¬ IsFrontOf G front → ¬ Begins G (front ++ rest)
none_begins G front rest none bad q = elim (two_fronts front q.0 rest q.1 q.3) [
  | inl p ↦ none (q.0, p.0, q.2, p.1, q.4)
  | inr p ↦ bad (p.0, q.2, subst (λ (o : List ℕ). G o q.2) p.1 q.4)
]

no_front : {X : Type 0} → (G : Grammar X) (front rest : List ℕ) → ¬ IsFrontOf G front → ¬ IsFrontOf G (front ++ rest)
no_front G front rest bad q = bad (rest ++ q.0, q.1, subst (λ (o : List ℕ). G o q.1) (append_assoc front rest q.0) q.2)

-- the answer stays the same whatever follows, unless the text was only a prefix of a message
abbrev pub IsFinal : Result MessageAt PlaceError → Type 0
IsFinal (Ok place) = Unit {0}
IsFinal (Err (at.Truncated n)) = ⊥
IsFinal (Err (at.BadMessage n)) = Unit {0}

pub front_gives : (front rest : List ℕ) (offset : ℕ) (r : Result MessageAt PlaceError) → IsFinal r → TextGives front offset r → TextGives (front ++ rest) offset r
front_gives front rest offset (Ok place) f g = (g.0, g.1 ++ rest, g.2, ap (λ (o : List ℕ). o ++ rest) g.3 ∙ append_assoc g.0 g.1 rest, g.4, g.5)
front_gives front rest offset (Err (at.Truncated n)) f g = absurd f
front_gives front rest offset (Err (at.BadMessage n)) f g = (g.0, none_begins IsMessage front rest g.1 g.2, no_front IsMessage front rest g.2)

-- ---- a block in a window

-- In a window as long as a block may be stands what stands in the whole text.
pub block_found_on : (front rest more : List ℕ) → FoundSome IsBlock front more → FoundSome IsBlock (front ++ rest) (more ++ rest)
block_found_on front rest more f = (f.0, (f.1.0, ap (λ (o : List ℕ). o ++ rest) f.1.1 ∙ append_assoc f.1.0 more rest, f.1.2))

-- a window is the whole text, or longer than a block may be
abbrev pub IsWide : List ℕ → List ℕ → Type 0
IsWide front rest = (rest ≡ []) ⊎ (1048576 ≤ length front)

no_more : (more : List ℕ) → length more ≤ 0 → more ≡ []
no_more [] h = refl
no_more (x ∷ xs) h = absurd (omega (arith, h))

pub block_flaw_on : (front rest : List ℕ) (e : Flaw) → IsWide front rest → Flawed IsBlock front e → Flawed IsBlock (front ++ rest) e
block_flaw_on front rest e (inl none) f = subst (λ (o : List ℕ). Flawed IsBlock o e) (sym (ap (λ (o : List ℕ). front ++ o) none ∙ append-nil front)) f
block_flaw_on front rest Short (inr wide) f =
    let long = f.1.2.short in
    let l = length-append front f.1.0 in
    let none : f.1.0 ≡ [] = no_more f.1.0 (omega (arith, long, l, wide)) in
    absurd (f.0 (front, [], f.1.1, sym (append-nil front), subst (λ (o : List ℕ). IsBlock o f.1.1) (ap (λ (o : List ℕ). front ++ o) none ∙ append-nil front) f.1.2))
block_flaw_on front rest Bad (inr wide) f = (none_begins IsBlock front rest f.0 f.1, no_front IsBlock front rest f.1)

-- ---- a block after the header of a message without a body

pub empty_is_header : IsMessageHeader empty_header 0
empty_is_header = record { filler = codes "          "; digits = codes "0000000000000000"; spelled = refl; filler_length = refl; filler_octets = refl; digits_length = refl; value = refl; fits = lit≤ tt }

nothing : (xs : List ℕ) → 0 ≡ length xs → xs ≡ []
nothing [] e = refl
nothing (x ∷ xs) e = absurd (omega (arith, e))

-- a message that the header begins has no body, and a block follows the header
block_after : (text first rest : List ℕ) (m : Message) → empty_header ++ text ≡ first ++ rest → (is : IsMessage first m) → text ≡ is.block ++ rest
block_after text first rest m e is =
    let joined : empty_header ++ text ≡ is.header ++ ((m.body ++ is.block) ++ rest) =
    e ∙ (ap (λ (o : List ℕ). o ++ rest) is.spelled ∙ append_assoc is.header (m.body ++ is.block) rest) in
    let same = message_header_same empty_header is.header text ((m.body ++ is.block) ++ rest) 0 (length m.body) empty_is_header is.begins joined in
    let body : m.body ≡ [] = nothing m.body same.1 in
    (split_same empty_header is.header text ((m.body ++ is.block) ++ rest) (ap length same.0) joined).1 ∙ ap (λ (o : List ℕ). (o ++ is.block) ++ rest) body

empty_message : (block : List ℕ) (lines : List Line) → IsBlock block lines → IsMessage (empty_header ++ block) (record { body = []; lines = lines })
empty_message block lines is = record { header = empty_header; block = block; spelled = refl; begins = empty_is_header; ends = is }

block_begins : (text : List ℕ) → Begins IsBlock text → Begins IsMessage (empty_header ++ text)
block_begins text q = (empty_header ++ q.0, q.1, record { body = []; lines = q.2 }, ap (λ (o : List ℕ). empty_header ++ o) q.3 ∙ sym (append_assoc empty_header q.0 q.1), empty_message q.0 q.2 q.4)

block_front : (text : List ℕ) → IsFrontOf IsBlock text → IsFrontOf IsMessage (empty_header ++ text)
block_front text q = (q.0, record { body = []; lines = q.1 }, subst (λ (o : List ℕ). IsMessage o (record { body = []; lines = q.1 })) (sym (append_assoc empty_header text q.0)) (empty_message (text ++ q.0) q.1 q.2))

front_block : (text : List ℕ) → IsFrontOf IsMessage (empty_header ++ text) → IsFrontOf IsBlock text
front_block text q =
    let joined : empty_header ++ (text ++ q.0) ≡ ((empty_header ++ text) ++ q.0) ++ [] = sym (append_assoc empty_header text q.0) ∙ sym (append-nil ((empty_header ++ text) ++ q.0)) in
    let block = block_after (text ++ q.0) ((empty_header ++ text) ++ q.0) [] q.1 joined q.2 in
    (q.0, q.1.lines, subst (λ (o : List ℕ). IsBlock o q.1.lines) (sym (block ∙ append-nil q.2.block)) q.2.ends)

pub framed_gives : (text : List ℕ) (r : Result MessageAt PlaceError) → TextGives (empty_header ++ text) 0 r → BlockGives text r
framed_gives text (Ok place) g =
    let block = block_after text g.0 g.1 g.2 g.3 g.4 in
    let long = message_length g.0 g.2 0 g.4 in
    let end = ap (λ (p : MessageAt). p.end) g.5 in
    let parts = ap length (sym g.3 ∙ ap (λ (o : List ℕ). empty_header ++ o) block) in
    let a = length-append g.0 g.1 in
    let b = length-append g.4.block g.1 in
    let c = length-append empty_header (g.4.block ++ g.1) in
    (g.4.block, g.1, g.2.lines, block, g.4.ends, omega (arith, long, end, parts, a, b, c))
framed_gives text (Err (at.Truncated n)) g = (λ q. g.1 (block_begins text q), front_block text g.2)
framed_gives text (Err (at.BadMessage n)) g = (λ q. g.1 (block_begins text q), λ q. g.2 (block_front text q))

-- ---- a message in two parts

-- the header of a message whose prefix this is
pub header_of_front : (text : List ℕ) → 30 ≤ length text → IsFrontOf IsMessage text → (size : ℕ) × IsMessageHeader (take 30 text) size
header_of_front text h q =
    let is = q.2 in
    let long : length is.header ≡ 30 = header_long is.header (length q.1.body) is.begins in
    let joined : take 30 text ++ (drop 30 text ++ q.0) ≡ is.header ++ (q.1.body ++ is.block) = sym (append_assoc (take 30 text) (drop 30 text) q.0) ∙ (ap (λ (o : List ℕ). o ++ q.0) (take-append-drop 30 text) ∙ is.spelled) in
    let same = (split_same (take 30 text) is.header (drop 30 text ++ q.0) (q.1.body ++ is.block) (length-take-le 30 text h ∙ sym long) joined).0 in
    (length q.1.body, subst (λ (o : List ℕ). IsMessageHeader o (length q.1.body)) (sym same) is.begins)
  where
    header_long : (octets : List ℕ) (size : ℕ) → IsMessageHeader octets size → length octets ≡ 30
    header_long octets size p =
        let a = ap length p.spelled in
        let b = length-append p.filler (p.digits ++ 10 ∷ []) in
        let c = length-append p.digits (10 ∷ []) in
        let d = p.filler_length in
        let e = p.digits_length in
        omega (arith, a, b, c, d, e)

stands_header : (text : List ℕ) (size : ℕ) → IsMessageHeader (take 30 text) size → StandsFirst IsMessageHeader text size (drop 30 text)
stands_header text size h = (take 30 text, sym (take-append-drop 30 text), h)

-- the file ends in the body
pub short_body : (text : List ℕ) (size offset : ℕ) → IsMessageHeader (take 30 text) size → length (drop 30 text) < size → TextGives text offset (Err (at.Truncated offset))
short_body text size offset h l = let f = message_flaw_body text (drop 30 text) size (stands_header text size h) l in (refl, f.0, f.1)

-- the block after the body decides
pub block_decides : (text : List ℕ) (size offset : ℕ) (e : Flaw) → IsMessageHeader (take 30 text) size → size ≤ length (drop 30 text) → Flawed IsBlock (drop size (drop 30 text)) e → Flawed IsMessage text e
block_decides text size offset e h l f = message_flaw_block text (drop 30 text) (drop size (drop 30 text)) size e (stands_header text size h) l refl f

pub block_completes : (text : List ℕ) (size : ℕ) (more : List ℕ) → IsMessageHeader (take 30 text) size → size ≤ length (drop 30 text) → FoundSome IsBlock (drop size (drop 30 text)) more → HasMessage text size more
block_completes text size more h l f = message_found text (drop 30 text) (drop size (drop 30 text)) more size (stands_header text size h) l refl f

-- ---- answers of calls

pub place_text : (octets : List ℕ) (offset : ℕ) (r : Result MessageAt PlaceError) → PlaceGives octets offset r → TextGives (drop offset octets) offset r
place_text octets offset (Ok place) g = g
place_text octets offset (Err (at.Truncated n)) g = g
place_text octets offset (Err (at.BadMessage n)) g = g

pub text_place : (octets : List ℕ) (offset : ℕ) (r : Result MessageAt PlaceError) → TextGives (drop offset octets) offset r → PlaceGives octets offset r
text_place octets offset (Ok place) g = g
text_place octets offset (Err (at.Truncated n)) g = g
text_place octets offset (Err (at.BadMessage n)) g = g

-- the digits of a header's size
digits_are : (text : List ℕ) (size : ℕ) → 30 ≤ length text → (h : IsMessageHeader (take 30 text) size) → take 16 (drop 13 text) ≡ h.digits
digits_are text size long h =
    let front : List ℕ = 1 ∷ 2 ∷ 78 ∷ h.filler in
    let behind : List ℕ = 10 ∷ drop 30 text in
    let parts : text ≡ front ++ (h.digits ++ behind) =
    sym (take-append-drop 30 text) ∙ (ap (λ (o : List ℕ). o ++ drop 30 text) h.spelled
    ∙ ap (λ (o : List ℕ). 1 ∷ 2 ∷ 78 ∷ o) (append_assoc h.filler (h.digits ++ 10 ∷ []) (drop 30 text) ∙ ap (λ (o : List ℕ). h.filler ++ o) (append_assoc h.digits (10 ∷ []) (drop 30 text)))) in
    let f = h.filler_length in
    ap (λ (o : List ℕ). take 16 (drop 13 o)) parts ∙ (ap (take 16) (drop_at front (h.digits ++ behind) 13 (omega (arith, f))) ∙ take_at h.digits behind 16 h.digits_length)

pub told_size : (text : List ℕ) (size : ℕ) (r : Option ℕ) → 30 ≤ length text → IsMessageHeader (take 30 text) size → IfSome r (IsHex 16 (take 16 (drop 13 text))) → IfNone r ((n : ℕ) → IsHex 16 (take 16 (drop 13 text)) n → ⊥) → r ≡ Some size
told_size text size (Some n) long h some none =
    let digits = digits_are text size long h in
    let same : Some n ≡ Some size = sym (subst (λ (o : List ℕ). hex_from 0 o ≡ Some n) digits some.value) ∙ h.value in
    same
told_size text size None long h some none =
    let digits = digits_are text size long h in
    let l = h.digits_length in
    absurd (none size (subst (λ (o : List ℕ). IsHex 16 o size) (sym digits) (record { some = omega (arith, l); short = omega (arith, l); value = h.value })))
