-- What a scan of a header line gives, and a file that begins with one.
use Rattle.purge_task.proofs.Common.{◌≡◌, ℕ, ◌<◌, ◌≤◌, List, [], ◌∷◌, ◌++◌, length, Option, Some, None, refl, sym, ap, subst, ◌∙◌, arith, Result, Ok, Err, ◌⊎◌, inl, inr, ◌==◌, true, false, equal_is, equal_yes, append-nil, IsHeaderLine}
use Rattle.model_storage.specs.declared.places.MessageAt.{MessageAt}
use Rattle.model_storage.specs.declared.places.ScanError.{ScanError}
use Rattle.model_storage.specs.declared.places.ScanError.TheVariants as scan
use Rattle.model_storage.specs.StorageFile.{IsFile, Message, ScanGives, HasPlaces, AreMessages, message_places_from}
use Rattle.storage_files.specs.OnDisk.{piece_read}
use Rattle.purge_task.specs.Found.{IsHeaderOf}

no_places : (offset : ℕ) (messages : List Message) → length (message_places_from offset messages) ≡ 0 → messages ≡ []
no_places offset [] e = refl
no_places offset (m ∷ rest) e = absurd (omega (arith, e))

whole_line : (octets header : List ℕ) (messages : List Message) → IsFile octets header messages → messages ≡ [] → IsHeaderLine octets 30
whole_line octets header messages f none =
    let empty : f.rest ≡ [] = subst (AreMessages f.rest) none f.follow in
    let same : octets ≡ header = f.parts ∙ ap (λ (r : List ℕ). header ++ r) empty ∙ append-nil header in
    subst (λ (o : List ℕ). IsHeaderLine o 30) (sym same) f.begins

-- octets in which a scan finds no message are a header line
pub line_of_scan : (octets : List ℕ) (places : List MessageAt) → HasPlaces octets places → length places ≡ 0 → IsHeaderLine octets 30
line_of_scan octets places (header, messages, f, e) none = whole_line octets header messages f (no_places (length header) messages (sym (ap length e) ∙ none))

-- a scan of a header line finds no message
pub scan_of_line : (octets : List ℕ) → IsHeaderLine octets 30 → ScanGives octets (Ok [])
scan_of_line octets line = (octets, [], record { rest = []; parts = sym (append-nil octets); begins = line; follow = refl }, refl)

abbrev refused_by : ScanError → Result (List MessageAt) ScanError
refused_by why = Err why

err_is : (why : ScanError) → refused_by why ≡ refused_by scan.NoMemory → why ≡ scan.NoMemory
err_is why e = cc e

err_not : (why : ScanError) → refused_by why ≡ Ok [] → ⊥
err_not why e = cc e

-- what a scan of these octets gives tells whether they are a header line
pub line_found : (octets : List ℕ) (places : List MessageAt) (n : ℕ) → (Ok places ≡ Err scan.NoMemory) ⊎ ScanGives octets (Ok places) → ((answer : Result (List MessageAt) ScanError) → ScanGives octets answer → (Ok places ≡ Err scan.NoMemory) ⊎ (Ok places ≡ answer)) → n ≡ length places
    → ((n == 0) ≡ true → IsHeaderLine octets 30) × (IsHeaderLine octets 30 → (n == 0) ≡ true)
line_found octets places n gives exactly count = (
  (λ none. elim gives [
    | inl memory ↦ absurd (let w : Ok places ≡ Err scan.NoMemory = memory in cc w)
    | inr has ↦ line_of_scan octets places has (sym count ∙ equal_is n 0 none)
  ]),
  λ line. elim (exactly (Ok []) (scan_of_line octets line)) [
    | inl memory ↦ absurd (let w : Ok places ≡ Err scan.NoMemory = memory in cc w)
    | inr same ↦ (let e : places ≡ [] = cc same in equal_yes n 0 (count ∙ ap length e))
  ],
)

pub line_refused : (octets : List ℕ) (why : ScanError) → (why ≡ scan.NoMemory → ⊥) → ((answer : Result (List MessageAt) ScanError) → ScanGives octets answer → (refused_by why ≡ refused_by scan.NoMemory) ⊎ (refused_by why ≡ answer))
    → (false ≡ true → IsHeaderLine octets 30) × (IsHeaderLine octets 30 → false ≡ true)
line_refused octets why other exactly = (
  (λ h. absurd (let w : false ≡ true = h in cc w)),
  λ line. absurd (elim (exactly (Ok []) (scan_of_line octets line)) [
    | inl memory ↦ other (err_is why memory)
    | inr same ↦ err_not why same
  ]),
)

-- ---- what a file begins with

-- as many octets were read as were asked for
pub begins_as_read : (size : ℕ) (line : List ℕ) (octets : Option (List ℕ)) → length line ≡ size → line ≡ piece_read 0 size octets → 1 ≤ size → IsHeaderLine line 30 → IsHeaderOf size octets
begins_as_read size line None long read some is = absurd (let e = ap length read in omega (arith, e, long, some))
begins_as_read size line (Some octets) long read some is = (line, is, sym read, long)

pub line_as_read : (size : ℕ) (line : List ℕ) (octets : Option (List ℕ)) → line ≡ piece_read 0 size octets → IsHeaderOf size octets → IsHeaderLine line 30
line_as_read size line None read of = absurd of
line_as_read size line (Some octets) read (header, is, begins, long) = subst (λ (o : List ℕ). IsHeaderLine o 30) (sym (read ∙ begins)) is

-- where fewer were read, it doesn't begin with a line of that length
pub too_few : (size n : ℕ) (octets : Option (List ℕ)) → n ≡ length (piece_read 0 size octets) → n < size → IsHeaderOf size octets → ⊥
too_few size n None e lt of = of
too_few size n (Some octets) e lt (header, is, begins, long) = let l = ap length begins in omega (arith, e, lt, l, long)

-- a line has an octet, and 512 at the most
pub line_short : (size : ℕ) (octets : Option (List ℕ)) → IsHeaderOf size octets → size ≤ 512
line_short size None of = absurd of
line_short size (Some octets) (header, is, begins, long) = let s = is.short in omega (arith, s, long)

pub line_some : (line : List ℕ) (n : ℕ) → IsHeaderLine line n → 1 ≤ length line
line_some line n is = let e = ap length is.spelled in omega (arith, e)
