-- A message that is longer than a window: its header, and its block in a window of its own.
use Rattle.std.specs.Prelude.{◌≡◌, ◌≤◌, ◌<◌, ◌+◌, ◌-◌, ℕ, List, [], ◌∷◌, ◌++◌, length, take, drop, flat_map, refl, Option, Some, None, IfOk, Result, Ok, Err}
use Rattle.std.proofs.Common.{inl, inr, sym, ◌∙◌, ap, subst, arith, length-append}
use Rattle.std.proofs.lemmas.Bool.{cases_lt}
use Rattle.std.proofs.lemmas.List.{length-drop, length-take, take-append-drop, take-take, drop-drop}
use Rattle.std.proofs.Math.ListN.{drop_of_length-le}
use Rattle.dbox_file.specs.Reading.{FoundSome, Flawed}
use Rattle.dbox_file.specs.declared.reading.Flaw.{Flaw}
use Rattle.dbox_file.specs.declared.reading.Flaw.TheVariants.{Short, Bad}
use Rattle.disk_model.specs.Disk.{History, IfTold, reading}
use Rattle.disk_model.specs.declared.name.FileName.TheVariants as file
use Rattle.model_storage.proofs.ScanLemmas.{message_length}
use Rattle.model_storage.specs.declared.places.MessageAt.{MessageAt}
use Rattle.model_storage.specs.declared.places.PlaceError.{PlaceError}
use Rattle.model_storage.specs.declared.places.PlaceError.TheVariants as at
use Rattle.model_storage.specs.StorageFile.{Line, Message, IsBlock, IsMessageHeader, PlaceGives, line_text, place_at}
use Rattle.scan_pieces.proofs.PieceLemmas.{IsWide, block_completes, block_decides, block_flaw_on, block_found_on, header_of_front, short_body, text_place}
use Rattle.scan_pieces.specs.Pieces.{TextGives, BlockGives}
use Rattle.scan_pieces.specs.WindowValue.{WindowValue, GivesOn, IsLoadedOf, IsLoadedOn, IsWindowOf, IsWindowOn}

-- ---- the header

pub some_same : (a b : ℕ) → Some a ≡ Some b → b ≡ a
some_same a b e = cc e

pub none_some : (a : ℕ) → None ≡ Some a → ⊥
none_some a e = cc e

-- the window's first octets are the file's
front_same : (w : WindowValue) (octets : List ℕ) → IsLoadedOf w octets → take 30 w.part ≡ take 30 (drop w.start octets)
front_same w octets l = ap (take 30) l.part ∙ take-take 30 2097152 (drop w.start octets) (omega arith)

-- a window that isn't the whole rest of the file is full
pub full : (w : WindowValue) (octets : List ℕ) → IsLoadedOf w octets → w.start + length w.part < w.size → length w.part ≡ 2097152
full w octets l more =
    let size = l.size in
    let rest = length-drop w.start octets in
    let part = ap length l.part in
    let least = length-take 2097152 (drop w.start octets) in
    omega (arith, size, rest, part, least, more)

abbrev pub IsShortAt : WindowValue → Type 0
IsShortAt w = TextGives w.part w.start (Err (at.Truncated w.start))

pub header_told : (w : WindowValue) (octets : List ℕ) (size : ℕ) (r : Option ℕ) → IsLoadedOf w octets → 30 ≤ length w.part → IsShortAt w → ((n : ℕ) → IsMessageHeader (take 30 w.part) n → r ≡ Some n) → r ≡ Some size → IsMessageHeader (take 30 (drop w.start octets)) size
header_told w octets size r l long short told is =
    let h = header_of_front w.part long short.2 in
    let same : size ≡ h.0 = sym (some_same size h.0 (sym is ∙ told h.0 h.1)) in
    subst (λ (o : List ℕ). IsMessageHeader o size) (front_same w octets l) (subst (λ (n : ℕ). IsMessageHeader (take 30 w.part) n) (sym same) h.1)

pub some_header : (w : WindowValue) → 30 ≤ length w.part → IsShortAt w → ((n : ℕ) → IsMessageHeader (take 30 w.part) n → None ≡ Some n) → ⊥
some_header w long short told = let h = header_of_front w.part long short.2 in none_some h.0 (told h.0 h.1)

-- the file ends within the body
pub ends_in_body : (w : WindowValue) (octets : List ℕ) (size : ℕ) → IsLoadedOf w octets → 30 ≤ length w.part → w.start + length w.part ≤ w.size → IsMessageHeader (take 30 (drop w.start octets)) size → w.size - w.start - 30 < size → PlaceGives octets w.start (Err (at.Truncated w.start))
ends_in_body w octets size l long inside h few =
    let file = l.size in
    let rest = length-drop w.start octets in
    let body = length-drop 30 (drop w.start octets) in
    text_place octets w.start (Err (at.Truncated w.start)) (short_body (drop w.start octets) size w.start h (omega (arith, file, rest, body, long, inside, few)))

-- ---- the block

wide : (k : ℕ) (text : List ℕ) → 1048576 ≤ k → IsWide (take k text) (drop k text)
wide k text h = elim (cases_lt k (length text)) [
  | inl lt ↦ inr (let l = length-take k text in omega (arith, l, lt, h))
  | inr le ↦ inl (drop_of_length-le text le)
]

pub block_long : (block : List ℕ) (lines : List Line) → IsBlock block lines → 5 ≤ length block
block_long block lines is =
    let e = ap length is.spelled in
    let l = length-append (flat_map line_text lines) (10 ∷ []) in
    omega (arith, e, l)

-- what the window tells of the text after the body
block_whole : (text : List ℕ) (e : Flaw) → Flawed IsBlock (take 2097152 text) e → Flawed IsBlock text e
block_whole text e f = subst (λ (o : List ℕ). Flawed IsBlock o e) (take-append-drop 2097152 text) (block_flaw_on (take 2097152 text) (drop 2097152 text) e (wide 2097152 text (omega arith)) f)

place_of : ℕ → ℕ → ℕ → ℕ → ℕ → MessageAt
place_of offset body size lines end = record { offset = offset; body = body; size = size; lines = lines; end = end }

-- a place with this size and this end
place_same : (offset size end : ℕ) (m : Message) → length m.body ≡ size → end ≡ (place_at offset m).end → record { offset = offset; body = offset + 30; size = size; lines = offset + 30 + size + 4; end = end } ≡ place_at offset m
unfolding place_of
place_same offset size end m s e =
    let lines : offset + 30 + size + 4 ≡ offset + 30 + length m.body + 4 = omega (arith, s) in
    let sizes : size ≡ length m.body = sym s in
    let same : place_of offset (offset + 30) size (offset + 30 + size + 4) end ≡ place_of offset (offset + 30) (length m.body) (offset + 30 + length m.body + 4) (place_at offset m).end = cc in
    same

-- the text from the message on
abbrev text_at : ℕ → List ℕ → List ℕ
text_at offset octets = drop offset octets

after_body : (w : WindowValue) (octets : List ℕ) (offset size : ℕ) → IsLoadedOf w octets → w.start ≡ offset + 30 + size → w.part ≡ take 2097152 (drop size (drop 30 (drop offset octets)))
after_body w octets offset size l e =
    let at : w.start ≡ offset + 30 + size = e in
    l.part ∙ ap (take 2097152) (ap (λ (k : ℕ). drop k octets) at ∙ (sym (drop-drop size (offset + 30) octets) ∙ ap (drop size) (sym (drop-drop 30 offset octets))))

-- where the message ends, reckoned from its block
end_is : (offset size start end all text body behind spelling more block rest left : ℕ) → start ≤ all → start ≡ offset + 30 + size → text ≡ all - offset → body ≡ text - 30 → behind ≡ body - size → text ≡ spelling + more → more ≡ rest + left → behind ≡ block + rest + left → end ≡ 30 + block
    → start + (end - 30) ≡ offset + spelling
end_is offset size start end all text body behind spelling more block rest left i a b c d e f g h = omega (arith, i, a, b, c, d, e, f, g, h)

-- the answer for the message, made of that for its block
abbrev pub placed : ℕ → ℕ → ℕ → Result MessageAt PlaceError → Result MessageAt PlaceError
placed offset size start (Ok place) = Ok (record { offset = offset; body = offset + 30; size = size; lines = offset + 30 + size + 4; end = start + (place.end - 30) })
placed offset size start (Err (at.Truncated n)) = Err (at.Truncated offset)
placed offset size start (Err (at.BadMessage n)) = Err (at.BadMessage offset)

pub message_after : (w : WindowValue) (octets : List ℕ) (offset size : ℕ) (r : Result MessageAt PlaceError) → IsLoadedOf w octets → w.start ≡ offset + 30 + size → w.start ≤ w.size → IsMessageHeader (take 30 (drop offset octets)) size → BlockGives w.part r
    → PlaceGives octets offset (placed offset size w.start r)
message_after w octets offset size (Ok place) l e inside h g =
    let text = drop offset octets in
    let file = l.size in
    let rest = length-drop offset octets in
    let body = length-drop 30 text in
    let long : size ≤ length (drop 30 text) = omega (arith, file, rest, body, e, inside) in
    let part = after_body w octets offset size l e in
    let behind = drop size (drop 30 text) in
    let window : FoundSome IsBlock (take 2097152 behind) g.1 = (g.2, (g.0, sym part ∙ g.3, g.4)) in
    let found : FoundSome IsBlock behind (g.1 ++ drop 2097152 behind) = subst (λ (o : List ℕ). FoundSome IsBlock o (g.1 ++ drop 2097152 behind)) (take-append-drop 2097152 behind) (block_found_on (take 2097152 behind) (drop 2097152 behind) g.1 window) in
    let m = block_completes text size (g.1 ++ drop 2097152 behind) h long found in
    let whole = message_length m.2.0 m.0 offset m.2.2 in
    let more = g.1 ++ drop 2097152 behind in
    let end = end_is offset size w.start place.end (length octets) (length text) (length (drop 30 text)) (length behind) (length m.2.0) (length more) (length g.0) (length g.1) (length (drop 2097152 behind))
    (omega (arith, file, inside)) e rest body (length-drop size (drop 30 text)) (ap length m.2.1 ∙ length-append m.2.0 more) (length-append g.1 (drop 2097152 behind))
    (ap length (sym (take-append-drop 2097152 behind)) ∙ (length-append (take 2097152 behind) (drop 2097152 behind) ∙ ap (λ (n : ℕ). n + length (drop 2097152 behind)) (ap length (sym part ∙ g.3) ∙ length-append g.0 g.1))) g.5 in
    text_place octets offset (placed offset size w.start (Ok place)) (m.2.0, more, m.0, m.2.1, m.2.2, place_same offset size (w.start + (place.end - 30)) m.0 m.1 (end ∙ whole))
message_after w octets offset size (Err (at.Truncated n)) l e inside h g =
    let text = drop offset octets in
    let file = l.size in
    let rest = length-drop offset octets in
    let body = length-drop 30 text in
    let flaw = block_decides text size offset Short h (omega (arith, file, rest, body, e, inside)) (block_whole (drop size (drop 30 text)) Short (subst (λ (o : List ℕ). Flawed IsBlock o Short) (after_body w octets offset size l e) g)) in
    (refl, flaw.0, flaw.1)
message_after w octets offset size (Err (at.BadMessage n)) l e inside h g =
    let text = drop offset octets in
    let file = l.size in
    let rest = length-drop offset octets in
    let body = length-drop 30 text in
    let flaw = block_decides text size offset Bad h (omega (arith, file, rest, body, e, inside)) (block_whole (drop size (drop 30 text)) Bad (subst (λ (o : List ℕ). Flawed IsBlock o Bad) (after_body w octets offset size l e) g)) in
    (refl, flaw.0, flaw.1)

pub block_within : (text : List ℕ) (r : Result MessageAt PlaceError) → BlockGives text r → IfOk r (λ place. (35 ≤ place.end) × (place.end ≤ 30 + length text))
block_within text (Ok place) g =
    let long = block_long g.0 g.2 g.4 in
    let parts = ap length g.3 in
    let l = length-append g.0 g.1 in
    let end = g.5 in
    (omega (arith, long, end), omega (arith, parts, l, end))
block_within text (Err e) g = tt

-- ---- on a disk

pub shown_told : (h : Option History) (w : WindowValue) (offset : ℕ) (r : Result MessageAt PlaceError) → IfTold h (IsWindowOn w) → ((octets : List ℕ) → IsWindowOf w octets → PlaceGives octets offset r) → IfTold h (GivesOn w.number offset r)
shown_told None w offset r is gives = tt
shown_told (Some h) w offset r is gives = λ octets there. gives octets (is octets there)

pub loaded_gives : (h : Option History) (w : WindowValue) (offset : ℕ) (r : Result MessageAt PlaceError) → IfTold h (IsLoadedOn w) → ((octets : List ℕ) → IsLoadedOf w octets → PlaceGives octets offset r) → IfTold h (GivesOn w.number offset r)
loaded_gives None w offset r is gives = tt
loaded_gives (Some h) w offset r is gives = λ octets there. gives octets (is octets there)

-- a header in one window, and a block in the next
pub long_told : (h : Option History) (w v : WindowValue) (offset size : ℕ) (r : Result MessageAt PlaceError) → v.number ≡ w.number → IfTold h (IsLoadedOn w) → IfTold h (IsLoadedOn v)
    → ((octets : List ℕ) → IsLoadedOf w octets → IsMessageHeader (take 30 (drop w.start octets)) size) → w.start ≡ offset → ((octets : List ℕ) → IsLoadedOf v octets → IsMessageHeader (take 30 (drop offset octets)) size → PlaceGives octets offset r) → IfTold h (GivesOn v.number offset r)
long_told None w v offset size r e is then header at gives = tt
long_told (Some h) w v offset size r e is then header at gives = λ octets there.
    gives octets (then octets there)
    (subst (λ (k : ℕ). IsMessageHeader (take 30 (drop k octets)) size) at (header octets (is octets (subst (λ (n : ℕ). reading (h.now (file.Mail n)) ≡ Some octets) e there))))

pub short_here : (w : WindowValue) (offset : ℕ) → w.start ≡ offset → TextGives (drop (offset - w.start) w.part) offset (Err (at.Truncated offset)) → IsShortAt w
short_here w offset e g =
    let zero : offset - w.start ≡ 0 = omega (arith, e) in
    let here = subst (λ (k : ℕ). TextGives (drop k w.part) offset (Err (at.Truncated offset))) zero g in
    (refl, here.1, here.2)

pub start_gives : (w : WindowValue) (offset : ℕ) → w.start ≡ offset → ((octets : List ℕ) → IsLoadedOf w octets → PlaceGives octets w.start (Err (at.Truncated w.start))) → (octets : List ℕ) → IsLoadedOf w octets → PlaceGives octets offset (Err (at.Truncated offset))
start_gives w offset e gives octets l = subst (λ (k : ℕ). PlaceGives octets k (Err (at.Truncated k))) e (gives octets l)
