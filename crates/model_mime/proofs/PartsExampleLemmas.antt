-- Small header blocks and messages, computed.
use Rattle.std.specs.Prelude.{refl, ◌≡◌, ℕ, List, [], ◌∷◌, ◌++◌, map, codes, flat_map}
use Rattle.model_mime.specs.declared.mime.Coding.TheVariants as codings
use Rattle.model_mime.specs.declared.mime.Kind.TheVariants as kinds
use Rattle.model_mime.specs.declared.mime.Part.{Part}
use Rattle.model_mime.specs.Lines.{content}
use Rattle.model_mime.specs.Fields.{fields_of, token, parameter_value, parameter, boundary_among, is_boundary, kind_by, typed, coding_of}
use Rattle.model_mime.specs.Parts.{parts_in, part_of, found_in, is_delimiter, is_closing, part_lines, part_end, parts_of}

abbrev pub lf : List ℕ
lf = 10 ∷ []

abbrev pub crlf : List ℕ
crlf = 13 ∷ 10 ∷ []

abbrev pub quote : List ℕ
quote = 34 ∷ []

-- content-type: Multipart/x; boundary="a\"b"
abbrev pub with_quotes : List ℕ
with_quotes = codes "content-type: Multipart/x; boundary=" ++ (quote ++ (codes "a\\" ++ (quote ++ (codes "b" ++ (quote ++ lf)))))

pub quoted_boundary : (fields_of with_quotes).kind ≡ kinds.Multipart (97 ∷ 34 ∷ 98 ∷ [])
unfolding fields_of content token parameter_value parameter boundary_among is_boundary kind_by typed coding_of
quoted_boundary = refl

pub no_boundary : (fields_of (codes "Content-Type: multipart/mixed" ++ lf)).kind ≡ kinds.Unreadable
unfolding fields_of content token parameter_value parameter boundary_among is_boundary kind_by typed coding_of
no_boundary = refl

pub folded : (fields_of (codes "Subject: a" ++ (lf ++ (codes "Content-Type: multipart/mixed;" ++ (crlf ++ (codes "  boundary = b1 ; x" ++ crlf)))))).kind ≡ kinds.Multipart (codes "b1")
unfolding fields_of content token parameter_value parameter boundary_among is_boundary kind_by typed coding_of
folded = refl

pub coded : (fields_of (codes "CONTENT-Transfer-Encoding:  Base64 " ++ (crlf ++ codes "Content-Type: application/pdf; name=r.pdf"))) ≡ record { kind = kinds.Other; coding = codings.Base64 }
unfolding fields_of content token parameter_value parameter boundary_among is_boundary kind_by typed coding_of
coded = refl

-- the form of a message with two parts, with short texts
abbrev pub two_parts : List ℕ
two_parts = flat_map (λ line. line ++ crlf) (codes "From: a@example.org" ∷ codes "MIME-Version: 1.0" ∷ (codes "Content-Type: multipart/mixed; boundary=" ++ (quote ++ (codes "b1" ++ quote))) ∷ [] ∷ codes "--b1" ∷ codes "Content-Type: text/plain" ∷ [] ∷ codes "See the file." ∷ codes "--b1" ∷ (codes "Content-Type: application/pdf; name=" ++ (quote ++ (codes "r.pdf" ++ quote))) ∷ codes "Content-Transfer-Encoding: base64" ∷ [] ∷ codes "Zm9v" ∷ codes "--b1--" ∷ [])

abbrev pub ranges : List Part → List (ℕ × ℕ)
ranges parts = map (λ part. (part.start, part.end)) parts

pub two_leaves : ranges (parts_in two_parts) ≡ (122, 135) ∷ (225, 229) ∷ []
unfolding fields_of content token parameter_value parameter boundary_among is_boundary kind_by typed coding_of parts_in part_of found_in is_delimiter is_closing part_lines part_end parts_of
two_leaves = refl

abbrev pub head : List ℕ → List ℕ
head b = codes "Content-Type: multipart/x; boundary=" ++ b

abbrev pub lines : List (List ℕ) → List ℕ
lines ls = flat_map (λ line. line ++ lf) ls

-- two delimiter lines in a row: an empty part behind the first; an unclosed last part goes to the end
pub adjacent : ranges (parts_in (lines (head (codes "a") ∷ [] ∷ codes "--a" ∷ codes "--a" ∷ [] ∷ codes "xy" ∷ []))) ≡ (43, 43) ∷ (48, 51) ∷ []
unfolding fields_of content token parameter_value parameter boundary_among is_boundary kind_by typed coding_of parts_in part_of found_in is_delimiter is_closing part_lines part_end parts_of
adjacent = refl

-- an inner delimiter line directly before an outer one: an empty part at the body's end
pub inner_last : ranges (parts_in (lines (head (codes "a") ∷ [] ∷ codes "--a" ∷ head (codes "b") ∷ [] ∷ codes "--b" ∷ codes "--a--" ∷ []))) ≡ (85, 85) ∷ []
unfolding fields_of content token parameter_value parameter boundary_among is_boundary kind_by typed coding_of parts_in part_of found_in is_delimiter is_closing part_lines part_end parts_of
inner_last = refl

-- an outer line ends an inner part, and what stands behind the closing line is no part
pub outer_ends : ranges (parts_in (lines (head (codes "a") ∷ [] ∷ codes "--a" ∷ head (codes "b") ∷ [] ∷ codes "--b" ∷ [] ∷ codes "in" ∷ codes "--a" ∷ [] ∷ codes "out" ∷ codes "--a--" ∷ codes "--a" ∷ codes "z" ∷ []))) ≡ (87, 89) ∷ (95, 98) ∷ []
unfolding fields_of content token parameter_value parameter boundary_among is_boundary kind_by typed coding_of parts_in part_of found_in is_delimiter is_closing part_lines part_end parts_of
outer_ends = refl
