use Rattle.store_core.proofs.Common.{◌≡◌, ◌+◌, ◌∷◌, [], ◌∙◌, ℕ, List, length, length-append, take, sym, ap, subst, arith, length-map, row_of, BoxRow, number_beside, StandBeside, in_rows}
use Rattle.std.specs.Borrow.{Bor}
use Rattle.std.proofs.lemmas.Iterator.Consumers.{YieldsList-from_first, YieldsList-turn, YieldsList-end}
use Rattle.store_core.proofs.CountingLemmas.{row_here}
use Rattle.store_core.proofs.BesideLemmas.{walk_begins, walk_has_room, walk_goes_on, walk_ends, rows_few}
use Rattle.store_core.proofs.store.beside.add_rows.Goals as goal

pub loop-row-init : goal.loop-row-init
loop-row-init c = walk_begins c.args.map.now.meaning.records c.args.sums.now.items c.args.index.now.meaning.rows c.known_facts.ensures.records.rising c.requires.size

pub raise_due-requires-clause-room : goal.raise_due-requires-clause-room
raise_due-requires-clause-room c =
    walk_has_room (λ u. number_beside u c.args.map.now.meaning.records c.args.sums.now.items) c.in-Some.row.now.map_uid.0 (length c.loop-row.yielded) c.args.map.now.meaning.records c.loop-row.sums.items c.args.index.now.meaning.rows
    c.requires.room c.known_facts-2.ensures.few c.loop-row.invariant

pub loop-row-preserved : goal.loop-row-preserved
loop-row-preserved c =
    let all = YieldsList-from_first (λ (x : Bor BoxRow). x.now) (λ (rows : List BoxRow). rows) {s = c.into_iter-row-iterator.result} c.rows-row-items.result c.into_iter-row-iterator.ensures.into_iter_gives in
    let turn = YieldsList-turn all c.loop-row.yielded _ c.loop-row.yielded_by _ _ c.in-Some.row c.in-Some.is c.next.ensures.steps in
    let within = turn.0 in
    let at = row_here c.rows-row-items.result c.args.index.now.meaning.rows (length c.loop-row.yielded) c.in-Some.row.now c.rows-row-items.ensures turn in
    let long : length c.rows-row-items.result ≡ length c.args.index.now.meaning.rows = sym (length-map c.rows-row-items.result row_of) ∙ ap length c.rows-row-items.ensures in
    let more = length-append c.loop-row.yielded (c.in-Some.row ∷ []) in
    subst (λ (n : ℕ). StandBeside (λ u. number_beside u c.args.map.now.meaning.records c.args.sums.now.items + in_rows u (take n c.args.index.now.meaning.rows)) c.args.map.now.meaning.records c.raise_due.new.dues.items) (sym more)
    (walk_goes_on (λ u. number_beside u c.args.map.now.meaning.records c.args.sums.now.items) (length c.loop-row.yielded) c.args.map.now.meaning.records c.loop-row.sums.items c.raise_due.new.dues.items c.args.index.now.meaning.rows c.in-Some.row.now
    c.known_facts.ensures.records.rising (omega (arith, within, long)) at c.loop-row.invariant c.raise_due.ensures)

pub returns-clause-added : goal.returns-clause-added
returns-clause-added c =
    let all = YieldsList-from_first (λ (x : Bor BoxRow). x.now) (λ (rows : List BoxRow). rows) {s = c.into_iter-row-iterator.result} c.rows-row-items.result c.into_iter-row-iterator.ensures.into_iter_gives in
    let end = YieldsList-end all c.loop-row.yielded _ c.loop-row.yielded_by _ _ c.in-None.is c.next.ensures.steps in
    let long : length c.rows-row-items.result ≡ length c.args.index.now.meaning.rows = sym (length-map c.rows-row-items.result row_of) ∙ ap length c.rows-row-items.ensures in
    let last = end.1 in
    walk_ends (λ u. number_beside u c.args.map.now.meaning.records c.args.sums.now.items) (length c.loop-row.yielded) c.args.map.now.meaning.records c.loop-row.sums.items c.args.index.now.meaning.rows (omega (arith, last, long)) c.loop-row.invariant

pub returns-clause-few : goal.returns-clause-few
returns-clause-few c = λ uid. let a = rows_few uid c.args.index.now.meaning.rows in let b = c.known_facts-2.ensures.few in omega (arith, a, b)
