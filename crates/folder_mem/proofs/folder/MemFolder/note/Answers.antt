use Rattle.std.proofs.Common.{List, Some, ◌∙◌, ap}
use Rattle.folder_mem.specs.declared.note.Change.{Change}
use Rattle.folder_mem.specs.Seen.{modelled_by, past_by}
use Rattle.folder_mem.proofs.NoteLemmas.{model-push, past-push}
use Rattle.folder_mem.proofs.folder.MemFolder.note.Goals as goal

pub returns-clause-ok : goal.returns-clause-ok
returns-clause-ok c =
    let self = c.args.self.now in
    ap (λ (l : List Change). Some (modelled_by self.from l)) c.in_ok-push.ensures.items ∙ model-push self.from self.changes.items c.args.change self.begun

pub returns-clause-passed : goal.returns-clause-passed
returns-clause-passed c =
    let self = c.args.self.now in
    ap (past_by self.from) c.in_ok-push.ensures.items ∙ past-push self.from self.changes.items c.args.change self.begun
