-- The detached form of a message: its detachable parts as pieces, and the body that is left.
use Rattle.std.specs.Prelude.{◌≡◌, ◌+◌, ℕ, List, [], ◌∷◌, ◌++◌, length, drop, filter, Option, Some, None}
use Rattle.mdbox_base.specs.declared.metadata.LineForm.{LineForm}
use Rattle.mdbox_base.specs.declared.metadata.ExtRef.{ExtRef}
use Rattle.model_mime.specs.declared.mime.Coding.{Coding}
use Rattle.model_mime.specs.declared.mime.Coding.TheVariants.{Base64}
use Rattle.model_mime.specs.declared.mime.Part.{Part}
use Rattle.model_mime.specs.Lines.{range}
use Rattle.model_mime.specs.Parts.{parts_in}
use Rattle.model_base64.specs.Base64Text.{IsCanonical}

-- a piece: where its text starts in the message, how long that is, its form where it is canonical base64, and the
-- octets of its instance
pub record Piece : Type 0 where
  pub start : ℕ
  pub count : ℕ
  pub form : Option LineForm
  pub octets : List ℕ

-- The instance of a part's text: its decoded octets where the part's coding is base64 and the text is canonical,
-- else the text itself.
abbrev pub IsInstance : Coding → List ℕ → Option LineForm → List ℕ → Type 0
IsInstance coding text None octets = (octets ≡ text) × (coding ≡ Base64 → (form : LineForm) (decoded : List ℕ) → IsCanonical text form decoded → ⊥)
IsInstance coding text (Some form) octets = (coding ≡ Base64) × IsCanonical text form octets

-- From a place on these parts are cut out of the message as these pieces, and this body is left.
abbrev pub AreCut : List ℕ → ℕ → List Part → List Piece → List ℕ → Type 0
AreCut message at [] [] body = body ≡ drop at message
AreCut message at [] (piece ∷ pieces) body = ⊥
AreCut message at (part ∷ parts) [] body = ⊥
AreCut message at (part ∷ parts) (piece ∷ pieces) body =
    (body' : List ℕ) × (body ≡ range message at part.start ++ body')
    × (piece.start ≡ part.start) × (part.start + piece.count ≡ part.end) × IsInstance part.coding (range message part.start part.end) piece.form piece.octets
    × AreCut message part.end parts pieces body'

-- The detached form of a message: every detachable part is cut out, in order.
abbrev pub IsDetached : List ℕ → List Piece → List ℕ → Type 0
IsDetached message pieces body = AreCut message 0 (filter (λ part. part.detachable) (parts_in message)) pieces body

-- references and instances as pieces
abbrev pub pieces_of : List ExtRef → List (List ℕ) → List Piece
pieces_of [] instances = []
pieces_of (ref ∷ refs) [] = []
pieces_of (ref ∷ refs) (octets ∷ instances) = record { start = ref.start; count = ref.count; form = ref.form; octets = octets } ∷ pieces_of refs instances

-- A stored body, references and their instances are the detached form of a message.
pub record AreDetached (message body : List ℕ) (refs : List ExtRef) (instances : List (List ℕ)) : Type 0 where
  pub one_each : length refs ≡ length instances
  pub detached : IsDetached message (pieces_of refs instances) body
