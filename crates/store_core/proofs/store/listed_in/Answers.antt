use Rattle.store_core.proofs.Common.{◌≡◌, ◌∙◌, ◌∷◌, ◌+◌, [], ℕ, List, length, length-append, take, sym, ap, arith, count_by, bytes_eq, length-map, row_of, BoxRow, LogRow}
use Rattle.std.proofs.Common.{take_all}
use Rattle.std.specs.Borrow.{Bor}
use Rattle.std.proofs.lemmas.Iterator.Consumers.{YieldsList-from_first, YieldsList-turn, YieldsList-end}
use Rattle.store_core.proofs.CountingLemmas.{count_more, count_none, row_here}
use Rattle.store_core.proofs.store.listed_in.Goals as goal

pub loop-row-init : goal.loop-row-init
loop-row-init c = (sym (count_none c.args.guid.0 c.args.index.now.meaning.rows), omega arith)

pub overflow_add-count : goal.overflow_add-count
overflow_add-count c =
    let all = YieldsList-from_first (λ (x : Bor BoxRow). x.now) (λ (rows : List BoxRow). rows) {s = c.into_iter-row-iterator.result} c.rows-row-items.result c.into_iter-row-iterator.ensures.into_iter_gives in
    let turn = YieldsList-turn all c.loop-row.yielded _ c.loop-row.yielded_by _ _ c.in-Some.row c.in-Some.is c.next.ensures.steps in
    let within = turn.0 in
    let long : length c.rows-row-items.result ≡ length c.args.index.now.meaning.rows = sym (length-map c.rows-row-items.result row_of) ∙ ap length c.rows-row-items.ensures in
    let few = c.known_facts.ensures.few in
    let so_far = c.loop-row.invariant.1 in
    let most = c.one_if-count.ensures.most in
    omega (arith, within, long, few, so_far, most)

pub loop-row-preserved : goal.loop-row-preserved
loop-row-preserved c =
    let all = YieldsList-from_first (λ (x : Bor BoxRow). x.now) (λ (rows : List BoxRow). rows) {s = c.into_iter-row-iterator.result} c.rows-row-items.result c.into_iter-row-iterator.ensures.into_iter_gives in
    let turn = YieldsList-turn all c.loop-row.yielded _ c.loop-row.yielded_by _ _ c.in-Some.row c.in-Some.is c.next.ensures.steps in
    let within = turn.0 in
    let at = row_here c.rows-row-items.result c.args.index.now.meaning.rows (length c.loop-row.yielded) c.in-Some.row.now c.rows-row-items.ensures turn in
    let long : length c.rows-row-items.result ≡ length c.args.index.now.meaning.rows = sym (length-map c.rows-row-items.result row_of) ∙ ap length c.rows-row-items.ensures in
    let more = length-append c.loop-row.yielded (c.in-Some.row ∷ []) in
    let so_far = c.loop-row.invariant.1 in
    let most = c.one_if-count.ensures.most in (
      ap (λ (n : ℕ). n + c.one_if-count.result) c.loop-row.invariant.0
          ∙ (sym (count_more c.args.guid.0 c.args.index.now.meaning.rows (length c.loop-row.yielded) c.in-Some.row.now c.one_if-count.result (omega (arith, within, long)) at c.one_if-count.ensures.one)
          ∙ ap (λ (n : ℕ). count_by (λ (row : LogRow). bytes_eq row.guid c.args.guid.0) (take n c.args.index.now.meaning.rows)) (sym more)),
      omega (arith, so_far, most, more),
    )

pub returns-clause-count : goal.returns-clause-count
returns-clause-count c =
    let all = YieldsList-from_first (λ (x : Bor BoxRow). x.now) (λ (rows : List BoxRow). rows) {s = c.into_iter-row-iterator.result} c.rows-row-items.result c.into_iter-row-iterator.ensures.into_iter_gives in
    let end = YieldsList-end all c.loop-row.yielded _ c.loop-row.yielded_by _ _ c.in-None.is c.next.ensures.steps in
    let long : length c.rows-row-items.result ≡ length c.args.index.now.meaning.rows = sym (length-map c.rows-row-items.result row_of) ∙ ap length c.rows-row-items.ensures in
    c.loop-row.invariant.0 ∙ ap (count_by (λ (row : LogRow). bytes_eq row.guid c.args.guid.0)) (take_all (length c.loop-row.yielded) c.args.index.now.meaning.rows (omega (arith, end.1, long)))

pub returns-clause-short : goal.returns-clause-short
returns-clause-short c =
    let all = YieldsList-from_first (λ (x : Bor BoxRow). x.now) (λ (rows : List BoxRow). rows) {s = c.into_iter-row-iterator.result} c.rows-row-items.result c.into_iter-row-iterator.ensures.into_iter_gives in
    let end = YieldsList-end all c.loop-row.yielded _ c.loop-row.yielded_by _ _ c.in-None.is c.next.ensures.steps in
    let long : length c.rows-row-items.result ≡ length c.args.index.now.meaning.rows = sym (length-map c.rows-row-items.result row_of) ∙ ap length c.rows-row-items.ensures in
    let few = c.known_facts.ensures.few in
    let so_far = c.loop-row.invariant.1 in
    let last = end.1 in
    omega (arith, last, long, few, so_far)
