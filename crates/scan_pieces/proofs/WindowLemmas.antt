-- What a window has of a file, and what it tells of it.
use Rattle.std.specs.Prelude.{◌≡◌, ◌≤◌, ◌+◌, ◌-◌, ◌⊎◌, min, ℕ, true, false, List, [], ◌++◌, length, take, drop, refl, Option, Some, None, Result, Ok, Err}
use Rattle.std.proofs.Common.{inl, inr, sym, ◌∙◌, ap, subst, arith, append-nil}
use Rattle.std.proofs.lemmas.Bool.{cases_lt}
use Rattle.std.proofs.lemmas.List.{length-drop, length-take, take-append-drop, take_all, drop-append-le, drop-drop}
use Rattle.std.proofs.Math.ListN.{drop_of_length-le}
use Rattle.disk_model.specs.Disk.{DiskState, History, IfTold, reading}
use Rattle.disk_model.specs.declared.name.FileName.TheVariants as file
use Rattle.model_storage.specs.declared.places.MessageAt.{MessageAt}
use Rattle.model_storage.specs.declared.places.PlaceError.{PlaceError}
use Rattle.model_storage.specs.declared.places.PlaceError.TheVariants as at
use Rattle.model_storage.specs.StorageFile.{PlaceGives}
use Rattle.storage_files.specs.OnDisk.{piece_read}
use Rattle.scan_pieces.proofs.PieceLemmas.{IsFinal, front_gives, text_place}
use Rattle.scan_pieces.specs.Pieces.{TextGives}
use Rattle.scan_pieces.specs.WindowValue.{WindowValue, IsWindowOf, IsLoadedOf, IsWindowOn, IsLoadedOn, is_short}

-- ---- loading

pub take_min : (k size : ℕ) (xs : List ℕ) → length xs ≡ size → take (min size k) xs ≡ take k xs
take_min k size xs e = elim (cases_lt size k) [
  | inl le ↦ take_all (min size k) xs (omega (arith, e, le)) ∙ sym (take_all k xs (omega (arith, e, le)))
  | inr gt ↦ ap (λ (n : ℕ). take n xs) (omega (arith, gt))
]

abbrev pub loaded_as : WindowValue → ℕ → List ℕ → WindowValue
loaded_as w offset part = record { number = w.number; size = w.size; start = offset; part = part }

load_on : (w : WindowValue) (disk : DiskState) (offset wanted : ℕ) (part : List ℕ) → IsWindowOn w disk → wanted ≡ min (w.size - offset) 2097152 → part ≡ piece_read offset wanted (reading (disk (file.Mail w.number))) → IsLoadedOn (loaded_as w offset part) disk
load_on w disk offset wanted part is e read octets there =
    let size = (is octets there).size in
    let rest = length-drop offset octets in
    let least = take_min 2097152 (w.size - offset) (drop offset octets) (omega (arith, size, rest)) in
    record { size = size; part = read ∙ (ap (piece_read offset wanted) there ∙ (ap (λ (n : ℕ). take n (drop offset octets)) e ∙ least)) }

pub loaded_told : (h : Option History) (w : WindowValue) (offset wanted : ℕ) (part : List ℕ) → IfTold h (IsWindowOn w) → wanted ≡ min (w.size - offset) 2097152 → IfTold h (λ now. part ≡ piece_read offset wanted (reading (now (file.Mail w.number)))) → IfTold h (IsLoadedOn (loaded_as w offset part))
loaded_told None w offset wanted part is e read = tt
loaded_told (Some h) w offset wanted part is e read = load_on w h.now offset wanted part is e read

pub loaded_window : (w : WindowValue) (octets : List ℕ) → IsLoadedOf w octets → IsWindowOf w octets
loaded_window w octets l =
    let rest = drop w.start octets in
    let short : take (length w.part) rest ≡ take 2097152 rest =
    ap (λ (n : ℕ). take n rest) (ap length l.part ∙ (length-take 2097152 rest ∙ (omega arith))) ∙ take_min 2097152 (length rest) rest refl in
    record { size = l.size; part = l.part ∙ sym short }

pub window_told : (h : Option History) (w : WindowValue) → IfTold h (IsLoadedOn w) → IfTold h (IsWindowOn w)
window_told None w l = tt
window_told (Some h) w l = λ octets there. loaded_window w octets (l octets there)

-- a window over nothing
pub empty_told : (h : Option History) (w : WindowValue) (offset : ℕ) → IfTold h (IsWindowOn w) → IfTold h (IsWindowOn (loaded_as w offset []))
empty_told None w offset is = tt
empty_told (Some h) w offset is = λ octets there. record { size = (is octets there).size; part = refl }

-- ---- what a window shows

-- what follows an offset in the file begins with what follows it in the window
pub rest_of : (w : WindowValue) (octets : List ℕ) (offset : ℕ) → IsWindowOf w octets → w.start ≤ offset → offset ≤ w.start + length w.part → drop (offset - w.start) w.part ++ drop (w.start + length w.part) octets ≡ drop offset octets
rest_of w octets offset is low high =
    let n = length w.part in
    let rest = drop w.start octets in
    let whole : w.part ++ drop n rest ≡ rest = ap (λ (o : List ℕ). o ++ drop n rest) is.part ∙ take-append-drop n rest in
    let behind : drop n rest ≡ drop (w.start + n) octets = drop-drop n w.start octets in
    let same : w.start + (offset - w.start) ≡ offset = omega (arith, low) in
    ap (λ (o : List ℕ). drop (offset - w.start) w.part ++ o) (sym behind)
    ∙ (sym (drop-append-le (offset - w.start) w.part (drop n rest) (omega (arith, low, high)))
    ∙ (ap (drop (offset - w.start)) whole ∙ (drop-drop (offset - w.start) w.start octets ∙ ap (λ (k : ℕ). drop k octets) same)))

pub shown_gives : (w : WindowValue) (octets : List ℕ) (offset : ℕ) (r : Result MessageAt PlaceError) → IsWindowOf w octets → w.start ≤ offset → offset ≤ w.start + length w.part → TextGives (drop (offset - w.start) w.part) offset r → IsFinal r ⊎ (w.size ≤ w.start + length w.part) → PlaceGives octets offset r
shown_gives w octets offset r is low high g (inl final) =
    text_place octets offset r (subst (λ (o : List ℕ). TextGives o offset r) (rest_of w octets offset is low high) (front_gives (drop (offset - w.start) w.part) (drop (w.start + length w.part) octets) offset r final g))
shown_gives w octets offset r is low high g (inr last) =
    let size = is.size in
    let none : drop (w.start + length w.part) octets ≡ [] = drop_of_length-le octets (omega (arith, size, last)) in
    text_place octets offset r (subst (λ (o : List ℕ). TextGives o offset r)
    (sym (append-nil (drop (offset - w.start) w.part)) ∙ (ap (λ (o : List ℕ). drop (offset - w.start) w.part ++ o) (sym none) ∙ rest_of w octets offset is low high)) g)

-- an answer that is not short is final
pub final_of : (r : Result MessageAt PlaceError) → is_short r ≡ false → IsFinal r
final_of (Ok place) e = tt
final_of (Err (at.Truncated n)) e = absurd (let k : true ≡ false = e in cc k)
final_of (Err (at.BadMessage n)) e = tt

pub short_is : (text : List ℕ) (offset : ℕ) (r : Result MessageAt PlaceError) → is_short r ≡ true → TextGives text offset r → TextGives text offset (Err (at.Truncated offset))
short_is text offset (Ok place) e g = absurd (let k : false ≡ true = e in cc k)
short_is text offset (Err (at.Truncated n)) e g = (refl, g.1, g.2)
short_is text offset (Err (at.BadMessage n)) e g = absurd (let k : false ≡ true = e in cc k)

-- the rest of a slice from an offset on
pub slice_rest : (p q : List ℕ) (a b : ℕ) → p ≡ q → a ≡ b → take (length p - a) (drop a p) ≡ drop b q
slice_rest p q a b e f = let l = length-drop a p in take_all (length p - a) (drop a p) (omega (arith, l)) ∙ (ap (λ (k : ℕ). drop k p) f ∙ ap (drop b) e)
