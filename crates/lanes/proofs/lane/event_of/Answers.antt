use Rattle.std.proofs.Common.{refl}
use Rattle.lanes.proofs.lane.event_of.Goals as goal

pub step-ended-requires-clause-ready : goal.step-ended-requires-clause-ready
step-ended-requires-clause-ready g c = c.requires.ready

pub returns : goal.returns
returns g c = (
  c.step-ended.new.self,
  record {
    place_is = refl;
    did_is = c.did.ensures;
    steps = c.step-ended.ensures.does;
    claims = λ runs. (c.step-ended.ensures.claims runs).moves;
    leaves = λ runs. (c.step-ended.ensures.claims runs).leaves;
    ready = c.step-ended.ensures.ready;
    unclaimed = λ given is runs. (c.step-ended.ensures.claims runs).ended given is;
    left = c.step-ended.ensures.left;
    stopped = c.step-ended.ensures.stopped.0;
    halted = c.step-ended.ensures.stopped.1;
    keeps = c.step-ended.ensures.keeps;
    store = c.facts.ensures.store;
    ordered = c.facts.ensures.files;
    store_then = c.facts-2.ensures.store;
    ordered_then = c.facts-2.ensures.files;
    image = g.met.D.Disk.reads_image c.args.store.now.disk;
  },
  c.if_more-goes_on.ensures,
)
