-- A writer of text in lines, and what it has written.
use Rattle.std.specs.Prelude.{◌≡◌, ◌≤◌, ◌++◌, ℕ, List, length, take}
use Rattle.mdbox_base.specs.declared.metadata.LineForm.{LineForm}
use Rattle.model_base64.specs.Base64Text.{text_of}

-- The form of the text, how many octets of it are written, and the octets that are kept for its next line.
pub record WriterValue : Type 0 where
  pub form : LineForm
  pub at : ℕ
  pub carry : List ℕ

-- Of these octets the text is written, but for those that are kept: what is written, and the text of the kept ones with whatever comes
-- yet, are the text of all.
pub record HasWrittenText (writer : WriterValue) (octets into : List ℕ) : Type 0 where
  pub within : writer.at ≤ length into
  pub text : (more : List ℕ) → take writer.at into ++ text_of writer.form (writer.carry ++ more) ≡ text_of writer.form (octets ++ more)
