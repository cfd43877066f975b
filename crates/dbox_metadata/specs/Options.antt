-- The options of a reference to an attachment whose text is in lines.
use Rattle.std.specs.Prelude.{ℕ, List, ◌++◌, codes, if◌then◌else◌}
use Rattle.mdbox_base.specs.Numbers.{decimal_text}
use Rattle.mdbox_base.specs.declared.metadata.LineForm.{LineForm}

-- the characters of a line, and `C` where lines end with CRLF: what options have behind `B`
abbrev pub lines_text : LineForm → List ℕ
lines_text form = decimal_text form.length ++ (if form.crlf then codes "C" else codes "")
