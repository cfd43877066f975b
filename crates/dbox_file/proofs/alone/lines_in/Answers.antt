use Rattle.std.proofs.Common.{sym, ◌∙◌}
use Rattle.model_storage.specs.StorageFile.{IsBlock}
use Rattle.model_storage.proofs.FileLemmas.{block_same}
use Rattle.dbox_file.proofs.AloneLemmas.{flawed_none, goes_on_none}
use Rattle.dbox_file.proofs.alone.lines_in.Goals as goal
use Rattle.dbox_file.proofs.alone.lines_in.Goals.{in_default-via-in-Ok+else-is_empty, in_default-via-in_default}

pub returns-in_default-clause-none : goal.returns-in_default-clause-none
returns-in_default-clause-none c lines h = elim c.in_default.branch [
  | in_default-via-in-Ok+else-is_empty w ↦ goes_on_none IsBlock c.args.block.now _ lines block_same w.in-Ok.ensures.found (sym w.is_empty.ensures ∙ w.if-is_empty.false) h
  | in_default-via-in_default w ↦ flawed_none IsBlock c.args.block.now _ lines w.in_default.ensures.flaw h
]
