use Rattle.purge_task.proofs.Common.{refl}
use Rattle.purge_task.proofs.WorkLemmas.{noted}
use Rattle.purge_task.proofs.work.Work.note_copy.Goals as goal

pub returns : goal.returns
returns c = noted c.args.row c.args.offset c.args.self.now c.index_mut.result.now _ c.requires.room c.index_mut.ensures.value (record { same = refl; listed = c.push_reserved.ensures.items; room = c.push_reserved.ensures.capacity })
