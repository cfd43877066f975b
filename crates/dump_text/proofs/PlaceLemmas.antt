-- The metadata lines of a storage file stand at the places of its messages.
use Rattle.std.specs.Prelude.{◌≡◌, ◌-◌, ℕ, List, [], ◌∷◌, ◌++◌, length, take, drop, flat_map, refl}
use Rattle.std.proofs.Common.{sym, ◌∙◌, ap, subst, append_assoc, length-append, arith}
use Rattle.std.proofs.lemmas.List.{take_at, drop_at}
use Rattle.model_storage.specs.declared.places.MessageAt.{MessageAt}
use Rattle.dump_text.specs.DumpText.{shown_message, dump_text, ShowsMessage, ShowsMessages}
use Rattle.model_storage.proofs.ScanLemmas.{message_length}
use Rattle.model_storage.specs.StorageFile.{line_text, Message, IsMessage, AreMessages, IsFile, place_at, message_places_from}

-- a message between what stands before and behind it, cut before its lines and behind them
cut_lines : (front header body lines behind : List ℕ) → front ++ ((header ++ (body ++ (10 ∷ 1 ∷ 3 ∷ 10 ∷ (lines ++ 10 ∷ [])))) ++ behind)
    ≡ (front ++ (header ++ (body ++ (10 ∷ 1 ∷ 3 ∷ 10 ∷ [])))) ++ (lines ++ 10 ∷ behind)
cut_lines front header body lines behind = simp append_assoc

header_length : (octets : List ℕ) (m : Message) (p : IsMessage octets m) → length p.header ≡ 30
header_length octets m p =
    let h = p.begins in
    omega (arith, ap length h.spelled, length-append h.filler (h.digits ++ 10 ∷ []), length-append h.digits (10 ∷ []), h.filler_length, h.digits_length)

message_shown : (file front first behind : List ℕ) (m : Message) → file ≡ front ++ (first ++ behind) → IsMessage first m → ShowsMessage file (place_at (length front) m) (shown_message (length front) m)
message_shown file front first behind m e p =
    let lines = flat_map line_text m.lines in
    let before = front ++ (p.header ++ (m.body ++ (10 ∷ 1 ∷ 3 ∷ 10 ∷ []))) in
    let cut : file ≡ before ++ (lines ++ 10 ∷ behind) =
    e ∙ ap (λ (o : List ℕ). front ++ (o ++ behind)) (p.spelled ∙ ap (λ (o : List ℕ). p.header ++ (m.body ++ o)) p.ends.spelled) ∙ cut_lines front p.header m.body lines behind in
    let size : length before ≡ (place_at (length front) m).lines =
    omega (arith, header_length first m p, length-append front (p.header ++ (m.body ++ (10 ∷ 1 ∷ 3 ∷ 10 ∷ []))), length-append p.header (m.body ++ (10 ∷ 1 ∷ 3 ∷ 10 ∷ [])), length-append m.body (10 ∷ 1 ∷ 3 ∷ 10 ∷ [])) in
    let at : drop (place_at (length front) m).lines file ≡ lines ++ 10 ∷ behind = ap (drop (place_at (length front) m).lines) cut ∙ drop_at before (lines ++ 10 ∷ behind) _ size in
    let count : length lines ≡ (place_at (length front) m).end - 1 - (place_at (length front) m).lines = omega arith in
    let these : take ((place_at (length front) m).end - 1 - (place_at (length front) m).lines) (drop (place_at (length front) m).lines file) ≡ lines = ap (take ((place_at (length front) m).end - 1 - (place_at (length front) m).lines)) at ∙ take_at lines (10 ∷ behind) _ count in (
      m.lines,
      omega arith,
      omega (arith, message_length first m (length front) p, ap length e, length-append front (first ++ behind), length-append first behind),
      record { each = p.ends.each; spelled = these },
      refl,
    )

messages_shown : (file front rest : List ℕ) (ms : List Message) → file ≡ front ++ rest → AreMessages rest ms → ShowsMessages file (message_places_from (length front) ms) (dump_text (length front) ms)
messages_shown file front rest [] e a = refl
messages_shown file front rest (m ∷ ms) e a =
    let cut = e ∙ ap (λ (o : List ℕ). front ++ o) a.2 in
    let next : length (front ++ a.0) ≡ (place_at (length front) m).end = length-append front a.0 ∙ message_length a.0 m (length front) a.3 in
    let behind = messages_shown file (front ++ a.0) a.1 ms (cut ∙ sym (append_assoc front a.0 a.1)) a.4 in (
      shown_message (length front) m,
      dump_text (place_at (length front) m).end ms,
      message_shown file front a.0 a.1 m cut a.3,
      subst (λ (n : ℕ). ShowsMessages file (message_places_from n ms) (dump_text n ms)) next behind,
      refl,
    )

-- what is printed at the places of a storage file's messages is its dump
pub file_shown : (file header : List ℕ) (ms : List Message) (places : List MessageAt) → IsFile file header ms → places ≡ message_places_from (length header) ms → ShowsMessages file places (dump_text (length header) ms)
file_shown file header ms places p e = subst (λ (ps : List MessageAt). ShowsMessages file ps (dump_text (length header) ms)) (sym e) (messages_shown file header p.rest ms p.parts p.follow)
