use Rattle.std.proofs.Common.{Some, ◌∙◌, ap, arith}
use Rattle.folder_mem.specs.declared.note.Change.TheVariants.{Ended}
use Rattle.folder_mem.specs.Notes.{system_after}
use Rattle.folder_mem.proofs.NoteLemmas.{system-push, model-whole, past-whole}
use Rattle.folder_mem.proofs.folder.MemFolder.kill.Goals as goal

pub returns-clause-model : goal.returns-clause-model
returns-clause-model c =
    let all = c.push.new.self.items in
    model-whole c.len.result all (omega arith)
    ∙ ap (λ s. Some (record { start = s; now = s })) (ap system_after c.in_ok-push.ensures.items ∙ system-push c.args.self.changes.items Ended)

pub returns-clause-past : goal.returns-clause-past
returns-clause-past c = past-whole c.len.result c.push.new.self.items (omega arith)
