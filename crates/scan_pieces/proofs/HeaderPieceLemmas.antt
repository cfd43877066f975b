-- The header line of a storage file, read as a file without messages.
use Rattle.std.specs.Prelude.{◌≡◌, ◌≤◌, ◌<◌, ◌+◌, ◌==◌, ◌⊎◌, min, ℕ, true, List, [], ◌∷◌, ◌++◌, length, take, drop, get_or, slice_index, refl, IsTrue, Option, Some, None, Result, Ok, Err}
use Rattle.std.specs.List.{list_all}
use Rattle.std.proofs.Common.{inl, inr, sym, ◌∙◌, ap, subst, arith, append_assoc, append-nil, length-append}
use Rattle.std.proofs.lemmas.Bool.{cases_lt, eqb-true}
use Rattle.std.proofs.lemmas.List.{length-take, length-take-le, take-append-drop, take_all}
use Rattle.std.proofs.lemmas.Grind.{take_at_read}
use Rattle.disk_model.specs.Disk.{History, IfTold, reading}
use Rattle.disk_model.specs.declared.name.FileName.TheVariants as file
use Rattle.dbox_file.proofs.HeaderLemmas.{IsLineOf, first_line, header_cut, line_is_cut, no_line}
use Rattle.dbox_file.proofs.PrefixLemmas.{two_fronts}
use Rattle.dbox_file.specs.HeaderFields.{HasHeaderLine}
use Rattle.model_octets.proofs.PiecesLemmas.{split_same}
use Rattle.model_storage.specs.declared.places.MessageAt.{MessageAt}
use Rattle.model_storage.specs.declared.places.ScanError.{ScanError}
use Rattle.model_storage.specs.declared.places.ScanError.TheVariants as scan
use Rattle.model_storage.specs.Grammars.{Begins}
use Rattle.model_storage.specs.StorageFile.{is_no_end, IsHeaderLine, ScanGives, StopsAt}
use Rattle.scan_pieces.specs.Pieces.{HeaderGives}
use Rattle.scan_pieces.specs.WindowValue.{WindowValue, HeaderOn, IsLoadedOn}

-- no LF within the length of a header line
pub no_header : (text window more : List ℕ) → text ≡ window ++ more → length window ≡ min (length text) 512 → IsTrue (list_all is_no_end window) → ¬ Begins IsHeaderLine text
no_header text window more e size none q =
    let h = header_cut text q.0 q.1 q.2 q.3 q.4 in
    no_line text window more h.0 q.1 q.2 e size none h.1

-- a header line ends at the first LF
only_line : (text line behind header rest : List ℕ) (n : ℕ) → IsLineOf text line behind → text ≡ header ++ rest → IsHeaderLine header n → header ≡ line ++ 10 ∷ []
only_line text line behind header rest n is e h =
    let cut = header_cut text header rest n e h in
    let same = line_is_cut text line behind cut.0 rest n is cut.1 in
    let joined : header ++ rest ≡ (line ++ 10 ∷ []) ++ rest =
    sym e ∙ (cut.1.whole ∙ (ap (λ (o : List ℕ). o ++ 10 ∷ rest) (sym same) ∙ sym (append_assoc line (10 ∷ []) rest))) in
    let a = ap length joined in
    let b = length-append header rest in
    let c = length-append (line ++ 10 ∷ []) rest in
    (split_same header (line ++ 10 ∷ []) rest rest (omega (arith, a, b, c)) joined).0

-- the line alone is a line, too
alone : (text line behind : List ℕ) → IsLineOf text line behind → IsLineOf (line ++ 10 ∷ []) line []
alone text line behind is = record { whole = refl; no_end = is.no_end }

pub line_found : (text line behind : List ℕ) (places : List MessageAt) → IsLineOf text line behind → ScanGives (line ++ 10 ∷ []) (Ok places) → HasHeaderLine text (length line + 1) 30
line_found text line behind places is g =
    let header = only_line (line ++ 10 ∷ []) line [] g.0 g.2.rest 30 (alone text line behind is) g.2.parts g.2.begins in
    (line ++ 10 ∷ [], behind, is.whole ∙ sym (append_assoc line (10 ∷ []) behind), subst (λ (o : List ℕ). IsHeaderLine o 30) header g.2.begins, length-append line (10 ∷ []))

nothing_after : (line front rest : List ℕ) → line ≡ line ++ (front ++ rest) → rest ≡ []
nothing_after line front [] e = refl
nothing_after line front (x ∷ rest) e =
    let a = ap length e in
    let b = length-append line (front ++ x ∷ rest) in
    let c = length-append front (x ∷ rest) in
    absurd (omega (arith, a, b, c))

stops_not : (line : List ℕ) (offset : ℕ) (rest : List ℕ) → IsTrue (list_all is_no_end line) → StopsAt (line ++ 10 ∷ []) offset rest → ⊥
stops_not line offset rest none s =
    let header = only_line (line ++ 10 ∷ []) line [] s.header (s.front ++ rest) 30 (record { whole = refl; no_end = none }) s.parts s.begins in
    s.some (nothing_after (line ++ 10 ∷ []) s.front rest (s.parts ∙ ap (λ (o : List ℕ). o ++ (s.front ++ rest)) header))

pub line_refused : (text line behind : List ℕ) (error : ScanError) → IsLineOf text line behind → ScanGives (line ++ 10 ∷ []) (Err error) → HeaderGives text (Err error)
line_refused text line behind scan.BadHeader is g =
    λ q. let header = only_line text line behind q.0 q.1 q.2 is q.3 q.4 in g (q.0, [], q.2, sym header ∙ sym (append-nil q.0), q.4)
line_refused text line behind (scan.HeaderSize size) is g =
    (g.0, (g.1.0, g.1.1 ++ behind, is.whole ∙ (sym (append_assoc line (10 ∷ []) behind) ∙ (ap (λ (o : List ℕ). o ++ behind) g.1.2 ∙ append_assoc g.1.0 g.1.1 behind)), g.1.3))
line_refused text line behind (scan.Truncated offset) is g = absurd (stops_not line offset g.0 is.no_end g.1)
line_refused text line behind (scan.BadMessage offset) is g = absurd (stops_not line offset g.0 is.no_end g.1)
line_refused text line behind scan.NoMemory is g = tt

-- what an answer to the line tells of the text
abbrev pub LineAnswers : List ℕ → List ℕ → Result (List MessageAt) ScanError → Type 0
LineAnswers text line (Ok places) = HasHeaderLine text (length line + 1) 30
LineAnswers text line (Err error) = HeaderGives text (Err error)

-- a scan of these octets may answer so
abbrev pub MayAnswer : Result (List MessageAt) ScanError → List ℕ → Type 0
MayAnswer answer octets = (answer ≡ Err scan.NoMemory) ⊎ ScanGives octets answer

pub line_answered : (text line behind : List ℕ) (answer : Result (List MessageAt) ScanError) → IsLineOf text line behind → MayAnswer answer (line ++ 10 ∷ []) → LineAnswers text line answer
line_answered text line behind answer is (inl e) = subst (LineAnswers text line) (sym e) tt
line_answered text line behind (Ok places) is (inr g) = line_found text line behind places is g
line_answered text line behind (Err error) is (inr g) = line_refused text line behind error is g

-- the first LF of a window, and the line that ends there
pub cut_line : (text : List ℕ) (k end : ℕ) → end < length (take k text) → (slice_index (take k text) end == 10) ≡ true → ((j : ℕ) → 0 ≤ j → j < end → (slice_index (take k text) j == 10) ≡ true → ⊥)
    → IsLineOf text (take end (take k text)) (drop (end + 1) (take k text) ++ drop k text) × (take (end + 1) (take k text) ≡ take end (take k text) ++ 10 ∷ []) × (length (take end (take k text)) ≡ end)
cut_line text k end h mark before =
    let window = take k text in
    let ten : get_or window end 0 ≡ 10 = eqb-true (get_or window end 0) 10 mark in (
      first_line text window (drop k text) end (sym (take-append-drop k text)) h mark before,
      (take_at_read window end 0 h).1 ∙ ap (λ (x : ℕ). take end window ++ x ∷ []) ten,
      length-take-le end window (omega (arith, h)),
    )

-- ---- in the first window of a file

header_on : (front rest : List ℕ) (r : Result ℕ ScanError) → 512 ≤ length front → HeaderGives front r → HeaderGives (front ++ rest) r
header_on front rest (Ok n) long g = (g.0, g.1 ++ rest, ap (λ (o : List ℕ). o ++ rest) g.2 ∙ append_assoc g.0 g.1 rest, g.3, g.4)
header_on front rest (Err scan.BadHeader) long g = λ q. elim (two_fronts front q.0 rest q.1 q.3) [
  | inl p ↦ g (q.0, p.0, q.2, p.1, q.4)
  | inr p ↦
      let short = q.4.short in
      let l = ap length p.1 ∙ length-append front p.0 in
      let none : p.0 ≡ [] = nothing_left p.0 (omega (arith, short, l, long)) in
      g (q.0, [], q.2, sym (append-nil front) ∙ (ap (λ (o : List ℕ). front ++ o) (sym none) ∙ (sym p.1 ∙ sym (append-nil q.0))), q.4)
]
  where
    nothing_left : (xs : List ℕ) → length xs ≤ 0 → xs ≡ []
    nothing_left [] h = refl
    nothing_left (x ∷ xs) h = absurd (omega (arith, h))
header_on front rest (Err (scan.HeaderSize size)) long g = (g.0, (g.1.0, g.1.1 ++ rest, ap (λ (o : List ℕ). o ++ rest) g.1.2 ∙ append_assoc g.1.0 g.1.1 rest, g.1.3))
header_on front rest (Err (scan.Truncated offset)) long g = g
header_on front rest (Err (scan.BadMessage offset)) long g = g
header_on front rest (Err scan.NoMemory) long g = g

header_of_window : (octets : List ℕ) (r : Result ℕ ScanError) → HeaderGives (take 2097152 octets) r → HeaderGives octets r
header_of_window octets r g = elim (cases_lt 2097152 (length octets)) [
  | inl lt ↦ subst (λ (o : List ℕ). HeaderGives o r) (take-append-drop 2097152 octets) (header_on (take 2097152 octets) (drop 2097152 octets) r (let l = length-take 2097152 octets in omega (arith, l, lt)) g)
  | inr le ↦ subst (λ (o : List ℕ). HeaderGives o r) (take_all 2097152 octets le) g
]

pub header_told_on : (h : Option History) (w : WindowValue) (number : ℕ) (r : Result ℕ ScanError) → w.number ≡ number → w.start ≡ 0 → IfTold h (IsLoadedOn w) → HeaderGives w.part r → IfTold h (HeaderOn number r)
header_told_on None w number r n s is g = tt
header_told_on (Some h) w number r n s is g = λ octets there.
    let loaded = is octets (subst (λ (k : ℕ). reading (h.now (file.Mail k)) ≡ Some octets) (sym n) there) in
    let part : w.part ≡ take 2097152 octets = loaded.part ∙ ap (λ (k : ℕ). take 2097152 (drop k octets)) s in
    header_of_window octets r (subst (λ (o : List ℕ). HeaderGives o r) part g)
