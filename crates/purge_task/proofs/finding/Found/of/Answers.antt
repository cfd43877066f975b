use Rattle.purge_task.proofs.Common.{◌∙◌, ap, arith, StoreValue}
use Rattle.purge_task.proofs.FindLemmas.{has_found}
use Rattle.purge_task.proofs.finding.Found.of.Goals as goal

pub count_targets-requires : goal.count_targets-requires
count_targets-requires g c = let last = c.facts.ensures.files.last in let e = c.drawn_file.ensures in omega (arith, last, e)

pub returns-in-Some-clause-found : goal.returns-in-Some-clause-found
returns-in-Some-clause-found g c =
    has_found c.args.store.now (g.D.Disk.history c.args.store.now.disk) _ c.as_slice-listed.result.now c.drawn_file.result c.in_ok-files.ensures.found c.as_slice-listed.ensures.value (c.drawn_file.ensures ∙ ap (λ (v : StoreValue _). v.files.highest) c.in_ok-files.ensures.same) c.in-Some.ensures.some c.most_messages-most.ensures
