use Rattle.resync_task.proofs.Common.{◌+◌, arith}
use Rattle.resync_task.proofs.UnlikeLemmas.{shown_there, wrong_on}
use Rattle.resync_task.proofs.counting.counts_unlike.Goals as goal

pub note_unlike-requires : goal.note_unlike-requires
note_unlike-requires c =
    let within = (shown_there c.args.map.now.meaning.records c.args.listed.now c.args.dues.now c.loop-place.place 0 c.in-Some.row c.known_facts.ensures.records.rising c.requires.listed c.requires.due c.requires.covered c.in-Some.ensures).within in
    let a = c.from.ensures in let b = c.from-in-loop-place.ensures in omega (arith, within, a, b)

pub loop-place-preserved : goal.loop-place-preserved
loop-place-preserved c =
    wrong_on c.args.map.now.meaning.records c.args.listed.now c.args.dues.now c.loop-place.place 0 (c.from.result + c.from-in-loop-place.result) c.in-Some.row c.loop-place.counts c.note_unlike.new.counts
    (shown_there c.args.map.now.meaning.records c.args.listed.now c.args.dues.now c.loop-place.place 0 c.in-Some.row c.known_facts.ensures.records.rising c.requires.listed c.requires.due c.requires.covered c.in-Some.ensures)
    (let a = c.from.ensures in let b = c.from-in-loop-place.ensures in omega (arith, a, b)) c.loop-place.invariant c.in_ok-note_unlike.ensures
