-- References to attachments that are stored outside, as the value of an `X` line has them. The reference's form
-- `aa/bb/HASH-ID` is that of Dovecot's attachment storage, start, count and options are this project's own.
use Rattle.std.specs.Prelude.{◌≡◌, ◌≤◌, ◌<◌, ◌^◌, ℕ, List, ◌++◌, length, take, drop, codes, if◌then◌else◌, Option, Some, None}
use Rattle.std.specs.List.{AllByRecursion, join_by}
use Rattle.hex.specs.Hex.{encode_lower}
use Rattle.mdbox_base.specs.Numbers.{decimal_text}
use Rattle.mdbox_base.specs.Words.{IsOctets}
use Rattle.mdbox_base.specs.declared.ids.Hash.{Hash}
use Rattle.mdbox_base.specs.declared.ids.InstId.{InstId}
use Rattle.mdbox_base.specs.declared.metadata.LineForm.{LineForm}
use Rattle.mdbox_base.specs.declared.metadata.ExtRef.{ExtRef}
use Rattle.model_base64.specs.Base64Text.{IsForm}

-- `-` where the text is the instance itself, else `B`, the characters of a line, and `C` where lines end with CRLF
abbrev pub options_text : Option LineForm → List ℕ
options_text None = codes "-"
options_text (Some form) = codes "B" ++ (decimal_text form.length ++ (if form.crlf then codes "C" else codes ""))

-- `aa/bb/HASH-ID`: hash and id in lower-case hexadecimal digits, aa and bb those of the hash's first two octets
abbrev pub instance_path : Hash → InstId → List ℕ
instance_path hash id =
    encode_lower (take 1 hash.0) ++ (codes "/" ++ (encode_lower (take 1 (drop 1 hash.0)) ++ (codes "/" ++ (encode_lower hash.0 ++ (codes "-" ++ encode_lower id.0)))))

-- a group: start, count, options and instance, separated by one space
abbrev pub reference_text : ExtRef → List ℕ
reference_text ref =
    decimal_text ref.start ++ (codes " " ++ (decimal_text ref.count ++ (codes " " ++ (options_text ref.form ++ (codes " " ++ instance_path ref.hash ref.id)))))

-- groups, separated by one space
abbrev pub references_text : List ExtRef → List ℕ
references_text refs = join_by reference_text (codes " ") refs

-- lines have a length that base64 text can have
abbrev pub FormFits : Option LineForm → Type 0
FormFits None = Unit {0}
FormFits (Some form) = IsForm form

-- A reference that can be written: its numbers in range, and at least one octet.
pub record ReferenceFits (ref : ExtRef) : Type 0 where
  pub start : ref.start < 2 ^ 32
  pub some : 1 ≤ ref.count
  pub count : ref.count < 2 ^ 32
  pub form : FormFits ref.form
  pub hash_length : length ref.hash.0 ≡ 20
  pub hash : IsOctets ref.hash.0
  pub id_length : length ref.id.0 ≡ 16
  pub id : IsOctets ref.id.0

-- The text spells these references, of which there is at least one.
pub record AreReferences (text : List ℕ) (refs : List ExtRef) : Type 0 where
  pub some : 1 ≤ length refs
  pub fit : AllByRecursion ReferenceFits refs
  pub spelled : text ≡ references_text refs
