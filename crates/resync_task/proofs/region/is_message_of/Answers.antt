use Rattle.resync_task.proofs.RegionLemmas.{as_told, no_lines, no_message}
use Rattle.resync_task.proofs.region.is_message_of.Goals as goal

pub returns-in_default : goal.returns-in_default
returns-in_default c = no_message c.args.guid.0 c.args.region.now c.in_default.ensures.none

pub returns-in_default-2 : goal.returns-in_default-2
returns-in_default-2 c = no_lines c.args.guid.0 c.args.region.now c.in-Some.place c.in_ok-meta.field-0 c.in-Some.ensures.some c.in_ok-meta.ensures c.in_default-2.is

pub returns : goal.returns
returns c = as_told c.args.guid c.args.region.now c.in-Some.place c.in_ok-meta.field-0 c.in-Some-2.meta c.is_of.result c.in-Some.ensures.some c.in_ok-meta.ensures c.in-Some-2.is c.is_of.ensures
