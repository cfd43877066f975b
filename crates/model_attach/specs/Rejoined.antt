-- The whole of a stored body: each reference's text is put back where it was.
use Rattle.std.specs.Prelude.{◌≡◌, ◌+◌, ◌==◌, ◌||◌, ◌&&◌, ℕ, nat_lt, Bool, false, List, [], ◌∷◌, ◌++◌, length, sum_by, if◌then◌else◌, Option, Some, None, option_map}
use Rattle.mdbox_base.specs.declared.metadata.LineForm.{LineForm}
use Rattle.mdbox_base.specs.declared.metadata.ExtRef.{ExtRef}
use Rattle.model_attach.specs.declared.join_error.JoinError.{JoinError}
use Rattle.model_attach.specs.declared.join_error.JoinError.TheVariants.{RangeBad, Compressed, SizeDiffers, InstanceDiffers}
use Rattle.model_base64.specs.Base64Text.{text_of}

-- the text that fills a reference's range: the instance itself, or its base64 text
abbrev pub part_text : Option LineForm → List ℕ → List ℕ
part_text None octets = octets
part_text (Some form) octets = text_of form octets

-- From a place on the whole is the body with each reference's text from its start on, for its count.
abbrev pub IsWholeFrom : ℕ → List ℕ → List ℕ → List ExtRef → List (List ℕ) → Type 0
IsWholeFrom place whole body [] [] = whole ≡ body
IsWholeFrom place whole body [] (octets ∷ instances) = ⊥
IsWholeFrom place whole body (ref ∷ refs) [] = ⊥
IsWholeFrom place whole body (ref ∷ refs) (octets ∷ instances) =
    (front : List ℕ) × (whole' : List ℕ) × (body' : List ℕ)
    × (whole ≡ front ++ (part_text ref.form octets ++ whole')) × (body ≡ front ++ body')
    × (place + length front ≡ ref.start) × (length (part_text ref.form octets) ≡ ref.count)
    × IsWholeFrom (ref.start + ref.count) whole' body' refs instances

-- The whole of a body, references and instances.
abbrev pub IsWhole : List ℕ → List ℕ → List ExtRef → List (List ℕ) → Type 0
IsWhole whole body refs instances = IsWholeFrom 0 whole body refs instances

-- ---- what is wrong, where there is no whole

-- A reference's range is bad: it starts before where the one before ends, ends past the octets stored and counted
-- with it, or has an end above 4,294,967,295. `room` is what is stored and what the references before it count.
abbrev pub is_bad : ℕ → ℕ → ExtRef → Bool
is_bad before room ref = nat_lt ref.start before || (nat_lt (room + ref.count) (ref.start + ref.count) || nat_lt 4294967295 (ref.start + ref.count))

-- the first bad range, counted from 0
unfoldable pub first_bad : ℕ → ℕ → List ExtRef → Option ℕ
first_bad before room [] = None
first_bad before room (ref ∷ refs) = if is_bad before room ref then Some 0 else option_map (λ i. 1 + i) (first_bad (ref.start + ref.count) (room + ref.count) refs)

-- the size that the stored octets and all counts give
abbrev pub found_size : ℕ → List ExtRef → ℕ
found_size stored refs = stored + sum_by (λ ref. ref.count) refs

-- a gzip stream begins with these two octets (RFC 1952)
abbrev pub is_compressed : List ℕ → Bool
is_compressed [] = false
is_compressed (a ∷ []) = false
is_compressed (a ∷ b ∷ rest) = a == 31 && b == 139

abbrev pub one_later : JoinError → JoinError
one_later (InstanceDiffers index kept found) = InstanceDiffers (1 + index) kept found
one_later e = e

-- The first reference whose text has another length than its count.
unfoldable pub first_differs : List ExtRef → List (List ℕ) → Option JoinError
first_differs [] instances = None
first_differs (ref ∷ refs) [] = None
first_differs (ref ∷ refs) (octets ∷ instances) =
    if length (part_text ref.form octets) == ref.count then option_map one_later (first_differs refs instances)
    else Some (InstanceDiffers 0 ref.count (length (part_text ref.form octets)))

abbrev pub range_error : Option ℕ → Option JoinError → Option JoinError
range_error None rest = rest
range_error (Some i) rest = Some (RangeBad i)

abbrev pub size_error : List ℕ → ℕ → ℕ → Option JoinError → Option JoinError
size_error body whole found rest = if whole == found then rest else Some (if is_compressed body then Compressed else SizeDiffers whole found)

-- What is wrong, in this order: a bad range, then the size, then an instance. None where nothing is.
abbrev pub join_error : List ℕ → ℕ → List ExtRef → List (List ℕ) → Option JoinError
join_error body whole refs instances =
    range_error (first_bad 0 (length body) refs) (size_error body whole (found_size (length body) refs) (first_differs refs instances))
