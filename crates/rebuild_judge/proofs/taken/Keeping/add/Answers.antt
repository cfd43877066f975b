use Rattle.rebuild_judge.proofs.KeepingLemmas.{kept_more}
use Rattle.rebuild_judge.proofs.taken.Keeping.add.Goals as goal

pub returns : goal.returns
returns c = λ files taken t was can is.
    kept_more files taken t c.args.row c.args.self.now _ was can is c.in_ok-add_one.ensures (rw c.as_slice.ensures at c.in_ok-add_hashes.ensures) (rw c.length.ensures at c.in_ok-insert.ensures.updates.0) c.in_ok-push.ensures.ok
