use Rattle.std.proofs.Common.{◌≡◌, ◌-◌, length, arith}
use Rattle.std.specs.Prelude.{count_by, not}
use Rattle.request_text.specs.Outcomes.{is_no}
use Rattle.store_core.specs.Value.{indexes_of}
use Rattle.mdbox_top.proofs.NumbersLemmas.{both_counted, summary_told, told_counts}
use Rattle.mdbox_top.proofs.numbers.count_up.Goals as goal

pub returns-in-Done-Counted : goal.returns-in-Done-Counted
returns-in-Done-Counted g c =
    let told = told_counts c.args.store.now c.step.result c.in-Done-Counted.records c.in-Done-Counted.references c.in-Done-Counted.counts c.in-Done-Counted.instances c.requires.running c.step.ensures.replies (cc (c.in-Done-Counted.is, c.in-Done-Counted.field-0-is)) in
    let both = both_counted is_no c.args.replies.now in
    let no = c.refused_in-no.ensures in
    let ok : length c.args.replies.now - c.refused_in-no.result ≡ count_by (λ one. not (is_no one)) c.args.replies.now = omega (arith, both, no) in
    summary_told c.args.replies.now c.args.store.now.map (indexes_of c.args.store.now.boxes) _ _ _ _ _ _ _ ok no c.octets_of-octets.ensures told.0 told.1 told.2 told.3
