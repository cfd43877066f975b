use Rattle.std.proofs.Common.{subst, List}
use Rattle.std.proofs.lemmas.List.{nil_from_length}
use Rattle.mdbox_base.specs.declared.entries.InstRow.{InstRow}
use Rattle.rebuild_judge.proofs.HashLemmas.{IsAdding, adding_begins, adding_ends, adding_more}
use Rattle.rebuild_judge.proofs.hashes.add_hashes.Goals as goal

pub loop-row-init : goal.loop-row-init
loop-row-init c = λ named are alike. adding_begins c.args.hashes.now named c.args.rows.now are alike

pub loop-row-preserved : goal.loop-row-preserved
loop-row-preserved c = λ named are alike. adding_more c.loop-row.hashes c.insert.new.self named c.args.rows.now c.loop-row.rest.now c.in-Some.others.now c.in-Some.row.now (c.loop-row.invariant named are alike) c.in-Some.ensures.cases.0 c.in_ok-insert.ensures.updates.0

pub returns : goal.returns
returns c = λ named are alike. adding_ends c.loop-row.hashes named c.args.rows.now (subst (λ (xs : List InstRow). IsAdding c.loop-row.hashes named c.args.rows.now xs) (nil_from_length c.loop-row.rest.now c.in_default.ensures.cases) (c.loop-row.invariant named are alike))
