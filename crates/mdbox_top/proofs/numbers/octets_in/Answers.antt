use Rattle.std.proofs.Common.{◌≡◌, ◌∙◌, ◌∷◌, ◌+◌, ◌++◌, [], ℕ, List, Bor, length, length-append, take, take_all, sym, ap, arith}
use Rattle.std.specs.Prelude.{sum_by}
use Rattle.std.proofs.lemmas.List.{length-map}
use Rattle.std.proofs.lemmas.Iterator.Consumers.{YieldsList-from_first, YieldsList-turn, YieldsList-end}
use Rattle.box_index.specs.Row.{row_of}
use Rattle.box_index.specs.declared.index.BoxRow.{BoxRow}
use Rattle.model_meaning.specs.BoxMeaning.{LogRow}
use Rattle.store_core.proofs.CountingLemmas.{row_here}
use Rattle.mdbox_top.proofs.NumbersLemmas.{no_size, size_more}
use Rattle.mdbox_top.proofs.numbers.octets_in.Goals as goal

pub loop-row-init : goal.loop-row-init
loop-row-init c = (sym (no_size c.args.index.now.meaning.rows), omega arith)

pub overflow_add-octets : goal.overflow_add-octets
overflow_add-octets c =
    let all = YieldsList-from_first (λ (x : Bor BoxRow). x.now) (λ (rows : List BoxRow). rows) {s = c.into_iter-row-iterator.result} c.rows-row-items.result c.into_iter-row-iterator.ensures.into_iter_gives in
    let turn = YieldsList-turn all c.loop-row.yielded _ c.loop-row.yielded_by _ _ c.in-Some.row c.in-Some.is c.next.ensures.steps in
    let within = turn.0 in
    let long : length c.rows-row-items.result ≡ length c.args.index.now.meaning.rows = sym (length-map c.rows-row-items.result row_of) ∙ ap length c.rows-row-items.ensures in
    let few = c.known_facts.ensures.few in
    let so_far = c.loop-row.invariant.1 in
    let short = c.size_of-octets.ensures.short in
    omega (arith, within, long, few, so_far, short)

pub loop-row-preserved : goal.loop-row-preserved
loop-row-preserved c =
    let all = YieldsList-from_first (λ (x : Bor BoxRow). x.now) (λ (rows : List BoxRow). rows) {s = c.into_iter-row-iterator.result} c.rows-row-items.result c.into_iter-row-iterator.ensures.into_iter_gives in
    let turn = YieldsList-turn all c.loop-row.yielded _ c.loop-row.yielded_by _ _ c.in-Some.row c.in-Some.is c.next.ensures.steps in
    let at = row_here c.rows-row-items.result c.args.index.now.meaning.rows (length c.loop-row.yielded) c.in-Some.row.now c.rows-row-items.ensures turn in
    let more : length (c.loop-row.yielded ++ c.in-Some.row ∷ []) ≡ length c.loop-row.yielded + 1 = length-append c.loop-row.yielded (c.in-Some.row ∷ []) in
    let so_far = c.loop-row.invariant.1 in
    let same = c.size_of-octets.ensures.size in
    let short = c.size_of-octets.ensures.short in (
      ap (λ (n : ℕ). n + c.size_of-octets.result) c.loop-row.invariant.0
          ∙ (ap (λ (n : ℕ). sum_by (λ (r : LogRow). r.size) (take (length c.loop-row.yielded) c.args.index.now.meaning.rows) + n) same
          ∙ (sym (size_more c.args.index.now.meaning.rows (length c.loop-row.yielded) c.in-Some.row.now at)
          ∙ ap (λ (n : ℕ). sum_by (λ (r : LogRow). r.size) (take n c.args.index.now.meaning.rows)) (sym more))),
      omega (arith, so_far, short, more),
    )

pub returns-clause-octets : goal.returns-clause-octets
returns-clause-octets c =
    let all = YieldsList-from_first (λ (x : Bor BoxRow). x.now) (λ (rows : List BoxRow). rows) {s = c.into_iter-row-iterator.result} c.rows-row-items.result c.into_iter-row-iterator.ensures.into_iter_gives in
    let end = YieldsList-end all c.loop-row.yielded _ c.loop-row.yielded_by _ _ c.in-None.is c.next.ensures.steps in
    let long : length c.rows-row-items.result ≡ length c.args.index.now.meaning.rows = sym (length-map c.rows-row-items.result row_of) ∙ ap length c.rows-row-items.ensures in
    c.loop-row.invariant.0 ∙ ap (sum_by (λ (r : LogRow). r.size)) (take_all (length c.loop-row.yielded) c.args.index.now.meaning.rows (omega (arith, end.1, long)))

pub returns-clause-few : goal.returns-clause-few
returns-clause-few c =
    let all = YieldsList-from_first (λ (x : Bor BoxRow). x.now) (λ (rows : List BoxRow). rows) {s = c.into_iter-row-iterator.result} c.rows-row-items.result c.into_iter-row-iterator.ensures.into_iter_gives in
    let end = YieldsList-end all c.loop-row.yielded _ c.loop-row.yielded_by _ _ c.in-None.is c.next.ensures.steps in
    let long : length c.rows-row-items.result ≡ length c.args.index.now.meaning.rows = sym (length-map c.rows-row-items.result row_of) ∙ ap length c.rows-row-items.ensures in
    let few = c.known_facts.ensures.few in
    let so_far = c.loop-row.invariant.1 in
    let last = end.1 in
    omega (arith, last, long, few, so_far)
