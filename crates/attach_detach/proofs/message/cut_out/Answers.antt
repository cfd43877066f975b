use Rattle.model_mime.proofs.PartsLemmas.{detachable_in_order}
use Rattle.attach_detach.proofs.message.cut_out.Goals as goal

pub cut-requires : goal.cut-requires
cut-requires c = rw c.requires.leaves (detachable_in_order c.args.message.now)
