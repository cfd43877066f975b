-- What a window has of a storage file.
use Rattle.resync_task.proofs.Common.{◌≡◌, ◌≤◌, ◌<◌, ◌+◌, ◌-◌, ℕ, zero, suc, List, [], ◌∷◌, ◌++◌, length, take, drop, Option, Some, None, refl, sym, ◌∙◌, ap, subst, arith, length-take-le, length-drop, take-take, drop-drop, History, reading, piece_read, EndsBefore, IsReadOf, IsHeaderAt}
use Rattle.std.specs.Prelude.{IfSome, IfNone}
use Rattle.std.proofs.lemmas.List.{drop_at, take_at, take-append-le, drop-take}
use Rattle.disk_model.specs.Disk.{IsIdle}
use Rattle.disk_model.proofs.IdleLemmas.{idle-back, idle-on}
use Rattle.disk_model.specs.declared.name.FileName.TheVariants as file
use Rattle.resync_task.specs.Window.{WindowPart, HasHeader, IsPieceAt}
use borrow.Rule.Slice.PartMut.{put_mid}

abbrev pub window_of : ℕ → List ℕ → WindowPart
window_of start part = record { start = start; part = part }

-- ---- what was read last

take_again : (n : ℕ) (xs : List ℕ) → take (length (take n xs)) xs ≡ take n xs
take_again zero xs = refl
take_again (suc n) [] = refl
take_again (suc n) (x ∷ xs) = ap (λ (o : List ℕ). x ∷ o) (take_again n xs)

piece_again : (offset size : ℕ) (r : Option (List ℕ)) (part : List ℕ) → part ≡ piece_read offset size r → part ≡ piece_read offset (length part) r
piece_again offset size None part e = e
piece_again offset size (Some octets) part e = e ∙ sym (ap (λ (n : ℕ). take n (drop offset octets)) (ap length e) ∙ take_again size (drop offset octets))

pub has_piece : (history : Option History) (number offset size : ℕ) (w : WindowPart) → w.start ≡ offset → IsPieceAt history number offset size w.part → IsReadOf history number w
has_piece None number offset size w at piece = tt
has_piece (Some h) number offset size w at piece =
    subst (λ (n : ℕ). w.part ≡ piece_read n (length w.part) (reading (h.now (file.Mail number)))) (sym at) (piece_again offset size (reading (h.now (file.Mail number))) w.part piece)

-- nothing was read
pub has_none : (history : Option History) (number : ℕ) (w : WindowPart) → w.part ≡ [] → IsReadOf history number w
has_none None number w none = tt
has_none (Some h) number w none = by_read (reading (h.now (file.Mail number)))
  where
    by_read : (r : Option (List ℕ)) → w.part ≡ piece_read w.start (length w.part) r
    by_read None = none
    by_read (Some octets) = none ∙ sym (ap (λ (p : List ℕ). take (length p) (drop w.start octets)) none)

-- what was put after the first 30 octets
pub put_there : (octets into : List ℕ) (k n : ℕ) → 30 ≤ length octets → n ≤ length into → take n (drop 30 (put_mid 30 k octets into)) ≡ take n into
put_there octets into k n long few =
    ap (take n) (drop_at (take 30 octets) (into ++ drop k (drop 30 octets)) 30 (length-take-le 30 octets long)) ∙ take-append-le n into (drop k (drop 30 octets)) few

pub piece_put : (h : Option History) (octets into : List ℕ) (k n size wanted offset number : ℕ) → 30 ≤ length octets → size ≡ wanted → n ≤ length into → IsPieceAt h number offset size (take n into) → IsPieceAt h number offset wanted (take n (drop 30 (put_mid 30 k octets into)))
piece_put None octets into k n size wanted offset number long same few piece = tt
piece_put (Some h) octets into k n size wanted offset number long same few piece =
    put_there octets into k n long few ∙ (piece ∙ ap (λ (x : ℕ). piece_read offset x (reading (h.now (file.Mail number)))) same)

-- the same, in a vector of so many octets
pub loaded : (h : Option History) (octets into items : List ℕ) (len k n size wanted offset number : ℕ) → 30 ≤ length octets → size ≡ wanted → n ≤ length into → length (put_mid 30 k octets into) ≡ len → IsPieceAt h number offset size (take n into)
    → IsPieceAt h number offset wanted (take n (drop 30 (take len (put_mid 30 k octets into ++ drop (length (put_mid 30 k octets into)) items))))
loaded h octets into items len k n size wanted offset number long same few full piece =
    subst (λ (o : List ℕ). IsPieceAt h number offset wanted (take n (drop 30 o))) (sym (take_at (put_mid 30 k octets into) (drop (length (put_mid 30 k octets into)) items) len full)) (piece_put h octets into k n size wanted offset number long same few piece)

-- nothing has changed since
pub piece_on : (old new : Option History) (number offset size : ℕ) (part : List ℕ) → IsIdle old new → IsPieceAt old number offset size part → IsPieceAt new number offset size part
piece_on old new number offset size part idle piece = idle-on (λ now. part ≡ piece_read offset size (reading (now (file.Mail number)))) old new idle piece

pub piece_back : (old new : Option History) (number offset size : ℕ) (part : List ℕ) → IsIdle old new → IsPieceAt new number offset size part → IsPieceAt old number offset size part
piece_back old new number offset size part idle piece = idle-back (λ now. part ≡ piece_read offset size (reading (now (file.Mail number)))) old new idle piece

-- what another header before them leaves
pub same_part : (start count len : ℕ) (items octets given : List ℕ) → length given ≡ len → drop 30 given ≡ drop 30 octets → octets ≡ items
    → window_of start (take count (drop 30 (take len (given ++ drop (length given) items)))) ≡ window_of start (take count (drop 30 items))
same_part start count len items octets given full rest same =
    ap (λ (o : List ℕ). window_of start (take count o)) (ap (drop 30) (take_at given (drop (length given) items) len full) ∙ (rest ∙ ap (drop 30) same))

-- ---- a header in it

inside : (start many offset : ℕ) (octets : List ℕ) → start ≤ offset → offset + 30 ≤ start + many → take 30 (drop (offset - start) (take many (drop start octets))) ≡ take 30 (drop offset octets)
inside start many offset octets from within =
    let k = offset - start in
    let parts : many ≡ k + (many - k) = omega (arith, from, within) in
    let at : start + k ≡ offset = omega (arith, from) in
    let enough : 30 ≤ many - k = omega (arith, from, within) in
    ap (λ (n : ℕ). take 30 (drop k (take n (drop start octets)))) parts
    ∙ (ap (take 30) (drop-take k (many - k) (drop start octets))
    ∙ (take-take 30 (many - k) (drop k (drop start octets)) enough ∙ ap (take 30) (drop-drop k start octets ∙ ap (λ (n : ℕ). drop n octets) at)))

header_long : (w : WindowPart) (offset : ℕ) (header : List ℕ) → HasHeader w offset header → length header ≡ 30
header_long w offset header h =
    let f = h.from in
    let i = h.within in
    ap length h.is ∙ length-take-le 30 (drop (offset - w.start) w.part) (let d = length-drop (offset - w.start) w.part in omega (arith, d, f, i))

pub header_found : (history : Option History) (number offset : ℕ) (w : WindowPart) (header : List ℕ) → IsReadOf history number w → HasHeader w offset header → IsHeaderAt history number offset header
header_found None number offset w header read h = record { long = header_long w offset header h; there = tt }
header_found (Some d) number offset w header read h = record { long = header_long w offset header h; there = by_read (reading (d.now (file.Mail number))) read }
  where
    by_read : (r : Option (List ℕ)) → w.part ≡ piece_read w.start (length w.part) r → header ≡ piece_read offset 30 r
    by_read None none = absurd (let l = ap length none in let f = h.from in let i = h.within in omega (arith, l, f, i))
    by_read (Some octets) part = h.is ∙ (ap (λ (p : List ℕ). take 30 (drop (offset - w.start) p)) part ∙ inside w.start (length w.part) offset octets h.from h.within)

pub header_short : (history : Option History) (number offset : ℕ) (part : List ℕ) → IsPieceAt history number offset 30 part → length part < 30 → EndsBefore history number offset 30
header_short None number offset part piece short = tt
header_short (Some h) number offset part piece short = subst (λ (p : List ℕ). length p < 30) piece short

-- one that was found after a reading
pub found_then : (r : Option (List ℕ)) (old new : Option History) (number offset : ℕ) (w : WindowPart) → IsIdle old new → IsReadOf new number w → IfSome r (HasHeader w offset) → IfSome r (IsHeaderAt old number offset)
found_then None old new number offset w idle read found = tt
found_then (Some header) old new number offset w idle read found = header_found old number offset w header (piece_back old new number w.start (length w.part) w.part idle read) found

pub none_then : (r : Option (List ℕ)) (old : Option History) (number offset : ℕ) (w : WindowPart) → IsPieceAt old number offset 30 w.part → w.start ≡ offset → IfNone r (w.start ≡ offset → length w.part < 30) → IfNone r (EndsBefore old number offset 30)
none_then None old number offset w piece at short = header_short old number offset w.part piece (short at)
none_then (Some header) old number offset w piece at short = tt

pub none_is : {X : Type 0} → (r : Option X) (P : Type 0) → r ≡ None → IfNone {T = X} r P → P
none_is {X} r P is p = let here : IfNone {T = X} None P = subst (λ (o : Option X). IfNone {T = X} o P) is p in here

pub some_is : {X : Type 0} → (r : Option X) (x : X) (P : X → Type 0) → r ≡ Some x → IfSome r P → P x
some_is {X} r x P is p = let here : IfSome (Some x) P = subst (λ (o : Option X). IfSome o P) is p in here
