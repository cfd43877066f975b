use Rattle.std.proofs.Common.{◌++◌, ℕ, List, length, length-append, ap, arith}
use Rattle.std.proofs.lemmas.List.{nil_from_length}
use Rattle.store_rebuild.specs.NewLogs.{box_logs_for}
use Rattle.store_rebuild.proofs.BoxTextLemmas.{log_ends, log_more}
use Rattle.store_rebuild.proofs.boxes.new_boxes.Goals as goal

pub loop-name-init : goal.loop-name-init
loop-name-init c = record {
  logs = λ messages e. ap (λ (ls : List (List (List ℕ))). ls ++ box_logs_for c.args.names.now messages) c.new-logs.ensures.items;
  one_each = let e = ap length c.new-logs.ensures.items in omega (arith, e);
}

pub loop-name-preserved : goal.loop-name-preserved
loop-name-preserved c = record {
  logs = λ messages e. log_more c.loop-name.rest.now c.in-Some.others.now c.in-Some.name.now messages c.loop-name.logs.items _ _ _ (c.loop-name.invariant.logs messages e) c.in-Some.ensures.cases.0 (c.in_ok-log.ensures messages e) c.in_ok-push.ensures.items;
  one_each =
      let a = ap length c.in_ok-push.ensures.items in
      let b = ap length c.in-Some.ensures.cases.0 in
      let i = c.loop-name.invariant.one_each in
      omega (arith, a, b, i, length-append {A = List (List ℕ)});
}

pub returns-clause-logs : goal.returns-clause-logs
returns-clause-logs c = λ messages e. log_ends c.loop-name.rest.now messages c.loop-name.logs.items _ (nil_from_length c.loop-name.rest.now c.in_default.ensures.cases) (c.loop-name.invariant.logs messages e)
