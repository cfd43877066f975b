use Rattle.store_open.proofs.RootFrontLemmas.{front_tells}
use Rattle.store_open.proofs.free.lacks_entry.Goals as goal

pub returns-clause-told : goal.returns-clause-told
returns-clause-told g c = front_tells _ c.in_ok-has_no_entry.field-0 _ c.in_ok-has_no_entry.ensures (rw c.in-Some.is at c.in_ok-front.ensures.front)
