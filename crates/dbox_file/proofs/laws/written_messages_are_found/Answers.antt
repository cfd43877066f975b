use Rattle.dbox_file.proofs.WrittenLemmas.{found_where_written}
use Rattle.dbox_file.proofs.laws.written_messages_are_found.Goals as goal

pub returns : goal.returns
returns c = found_where_written
