use Rattle.dbox_file.proofs.WrittenLemmas.{written_is_file}
use Rattle.dbox_file.proofs.laws.written_files_are_files.Goals as goal

pub returns : goal.returns
returns c = written_is_file
