use Rattle.std.proofs.Common.{List, Some, ◌∙◌, ap}
use Rattle.folder_mem.specs.declared.note.Change.{Change}
use Rattle.folder_mem.specs.Seen.{modelled_by, past_by}
use Rattle.folder_mem.proofs.NoteLemmas.{system-none}
use Rattle.folder_mem.proofs.folder.MemFolder.empty.Goals as goal

pub returns-clause-model : goal.returns-clause-model
returns-clause-model c = ap (λ (l : List Change). Some (modelled_by 0 l)) c.new.ensures.items ∙ ap (λ s. Some (record { start = s; now = s })) system-none

pub returns-clause-past : goal.returns-clause-past
returns-clause-past c = ap (past_by 0) c.new.ensures.items
