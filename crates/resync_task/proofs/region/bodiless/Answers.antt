use Rattle.resync_task.proofs.BodilessLemmas.{digits_put}
use Rattle.resync_task.proofs.region.bodiless.Goals as goal

pub returns : goal.returns
returns c = digits_put c.args.header.now c.copy_from_slice.new.self c.copy_from_slice.ensures.after
