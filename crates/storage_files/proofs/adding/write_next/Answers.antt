use Rattle.storage_files.proofs.AddLemmas.{are_octets}
use Rattle.storage_files.proofs.AddingLemmas.{next_reaches, write_added, write_failed}
use Rattle.storage_files.proofs.adding.write_next.Goals as goal

pub write_at-requires : goal.write_at-requires
write_at-requires g c = let r = c.requires.begun in next_reaches c.args.name r.0 c.args.at r.1 r.2 _ r.3 r.4

pub returns-in_err-write_at-clause-any_moment : goal.returns-in_err-write_at-clause-any_moment
returns-in_err-write_at-clause-any_moment g c = λ end added first h is. write_failed c.args.name end c.args.at _ added first _ _ h is c.in_err-write_at.ensures.failed

pub returns-clause-any_moment : goal.returns-clause-any_moment
returns-clause-any_moment g c = λ end added first h is. (write_added c.args.name end c.args.at added c.args.octets.now first _ _ h is (are_octets c.args.octets.now c.type_inv.octets) c.in_ok-write_at.ensures.state).images

pub returns-clause-added : goal.returns-clause-added
returns-clause-added g c = λ end added first h is. write_added c.args.name end c.args.at added c.args.octets.now first _ _ h is (are_octets c.args.octets.now c.type_inv.octets) c.in_ok-write_at.ensures.state
