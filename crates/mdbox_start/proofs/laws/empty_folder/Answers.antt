use Rattle.folder_mem.specs.Mem.{mem_model}
use Rattle.mdbox_start.proofs.EmptyLemmas.{empty_serves}
use Rattle.mdbox_start.proofs.laws.empty_folder.Goals as goal

pub returns-clause-store : goal.returns-clause-store
returns-clause-store c = empty_serves (mem_model c.empty.result) c.empty.ensures.model
