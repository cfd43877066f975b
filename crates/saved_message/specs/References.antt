-- References that stand one behind another in a text.
use Rattle.std.specs.Prelude.{◌≡◌, ℕ, List, [], ◌∷◌, ◌++◌, All, length, map}
use Rattle.mdbox_base.specs.declared.ids.InstId.{InstId}
use Rattle.mdbox_base.specs.declared.metadata.ExtRef.{ExtRef}
use Rattle.model_storage.specs.References.{reference_text}
use Rattle.attach_detach.specs.declared.message.Detached.{Detached}
use Rattle.saved_message.specs.Laid.{AreSixteen}
use Rattle.saved_message.specs.Region.{reference_to, references_naming, unknown_id}

-- references with an octet before each: this one before the first, a space before each other
abbrev pub marked : ℕ → List ExtRef → List ℕ
marked mark [] = []
marked mark (ref ∷ refs) = mark ∷ (reference_text ref ++ marked 32 refs)

-- The references to these attachments, with these ids, begin at this place of a text, and have these sizes.
pub record HasReferencesAt (front : List ℕ) (parts : List Detached) (ids : List InstId) (back : List ℕ) (mark start : ℕ) (sizes text : List ℕ) : Type 0 where
  pub stand : text ≡ front ++ (marked mark (references_naming parts ids) ++ back)
  pub begin : start ≡ length front
  pub one_each : length ids ≡ length parts
  pub ids_fit : All (λ id. AreSixteen id.0) ids
  pub sizes_are : sizes ≡ map (λ d. length (reference_text (reference_to d unknown_id))) parts
