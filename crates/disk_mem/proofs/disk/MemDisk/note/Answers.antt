use Rattle.std.proofs.Common.{◌≡◌, ◌++◌, ◌∷◌, [], sym, ◌∙◌, ap, subst, List}
use Rattle.disk_model.specs.Disk.{DiskState, History}
use Rattle.disk_mem.specs.declared.note.Note.{Note}
use Rattle.disk_mem.specs.Record.{ReadsAll, told_of}
use Rattle.disk_mem.proofs.HistoryLemmas.{told-noted}
use Rattle.disk_mem.proofs.disk.MemDisk.note.Goals as goal

pub invariant_of-self-in-Break-branch-2 : goal.invariant_of-self-in-Break-branch-2
invariant_of-self-in-Break-branch-2 c =
    let self = c.args.self.now in
    let F : List Note → Type 0 = λ notes. ReadsAll c.apply_to.new.files.items (told_of self.base.items notes self.idle).now in
    record {
      agrees = subst F (sym c.reserve.ensures.items) (c.in_err-apply_to.ensures.err (told_of self.base.items self.notes.items self.idle).now self.agrees);
      counts = self.counts;
    }

pub invariant_of-self-in-Ok : goal.invariant_of-self-in-Ok
invariant_of-self-in-Ok c =
    let self = c.args.self.now in
    let note : Note = record { idle = self.idle; name = c.args.name; change = c.args.change } in
    let e : c.push.new.self.items ≡ self.notes.items ++ note ∷ [] = c.in-Ok.ensures.items ∙ ap (λ notes. notes ++ note ∷ []) c.reserve.ensures.items in
    let F : DiskState → Type 0 = ReadsAll c.apply_to.new.files.items in
    record {
      agrees = subst F (ap (λ (h : History). h.now) (sym (ap (λ notes. told_of self.base.items notes 0) e ∙ told-noted self.base.items self.notes.items note)))
          (c.in_ok-apply_to.ensures.ok (told_of self.base.items self.notes.items self.idle).now self.agrees);
      counts = self.counts;
    }

pub returns-clause-ok : goal.returns-clause-ok
returns-clause-ok c =
    let self = c.args.self.now in
    let note : Note = record { idle = self.idle; name = c.args.name; change = c.args.change } in
    let e : c.push.new.self.items ≡ self.notes.items ++ note ∷ [] = c.in-Ok.ensures.items ∙ ap (λ notes. notes ++ note ∷ []) c.reserve.ensures.items in
    ap (λ notes. told_of self.base.items notes 0) e ∙ told-noted self.base.items self.notes.items note
