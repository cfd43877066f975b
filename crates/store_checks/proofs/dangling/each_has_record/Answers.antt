use Rattle.std.proofs.Common.{◌≡◌, ◌∷◌, [], ℕ, List, length, length-append, take, slice_get, Some, All, true, false, refl, sym, ap, ◌∙◌, subst, arith}
use Rattle.std.proofs.lemmas.List.{length-map}
use Rattle.std.specs.Borrow.{Bor}
use Rattle.std.proofs.lemmas.Iterator.Consumers.{YieldsList-from_first, YieldsList-turn, YieldsList-end}
use Rattle.box_index.specs.Row.{row_of}
use Rattle.box_index.specs.declared.index.BoxRow.{BoxRow}
use Rattle.model_store.specs.Opening.{HasItsRecord}
use Rattle.store_checks.proofs.CountLemmas.{row_here}
use Rattle.store_checks.proofs.WalkLemmas.{all_next, all_places, at_place, none_of}
use Rattle.store_checks.proofs.dangling.each_has_record.Goals as goal

pub loop-row-init : goal.loop-row-init
loop-row-init c = none_of (HasItsRecord c.args.map.now.meaning) c.args.index.now.meaning.rows

pub returns-then-not-has_record : goal.returns-then-not-has_record
returns-then-not-has_record c =
    let every = YieldsList-from_first (λ (x : Bor BoxRow). x.now) (λ (rows : List BoxRow). rows) {s = c.into_iter-row-iterator.result} c.rows-row-items.result c.into_iter-row-iterator.ensures.into_iter_gives in
    let turn = YieldsList-turn every c.loop-row.yielded _ c.loop-row.yielded_by _ _ c.in-Some.row c.in-Some.is c.next.ensures.steps in
    let at : slice_get c.args.index.now.meaning.rows (length c.loop-row.yielded) ≡ Some (row_of c.in-Some.row.now) = row_here c.rows-row-items.result c.args.index.now.meaning.rows (length c.loop-row.yielded) c.in-Some.row.now c.rows-row-items.ensures turn in
    (λ f. absurd (let e : false ≡ true = f in cc e), λ all. c.if-not-has_record.ensures.1 (at_place (HasItsRecord c.args.map.now.meaning) c.args.index.now.meaning.rows (length c.loop-row.yielded) (row_of c.in-Some.row.now) at all))

pub loop-row-preserved : goal.loop-row-preserved
loop-row-preserved c =
    let every = YieldsList-from_first (λ (x : Bor BoxRow). x.now) (λ (rows : List BoxRow). rows) {s = c.into_iter-row-iterator.result} c.rows-row-items.result c.into_iter-row-iterator.ensures.into_iter_gives in
    let turn = YieldsList-turn every c.loop-row.yielded _ c.loop-row.yielded_by _ _ c.in-Some.row c.in-Some.is c.next.ensures.steps in
    let at : slice_get c.args.index.now.meaning.rows (length c.loop-row.yielded) ≡ Some (row_of c.in-Some.row.now) = row_here c.rows-row-items.result c.args.index.now.meaning.rows (length c.loop-row.yielded) c.in-Some.row.now c.rows-row-items.ensures turn in
    let F : ℕ → Type 0 = λ n. All (HasItsRecord c.args.map.now.meaning) (take n c.args.index.now.meaning.rows) in
    subst F (sym (length-append c.loop-row.yielded (c.in-Some.row ∷ [])))
    (all_next (HasItsRecord c.args.map.now.meaning) c.args.index.now.meaning.rows (length c.loop-row.yielded) (row_of c.in-Some.row.now) at c.loop-row.invariant (c.if-not-has_record.ensures.0 refl))

pub returns : goal.returns
returns c =
    let every = YieldsList-from_first (λ (x : Bor BoxRow). x.now) (λ (rows : List BoxRow). rows) {s = c.into_iter-row-iterator.result} c.rows-row-items.result c.into_iter-row-iterator.ensures.into_iter_gives in
    let end = YieldsList-end every c.loop-row.yielded _ c.loop-row.yielded_by _ _ c.in-None.is c.next.ensures.steps in
    let long : length c.rows-row-items.result ≡ length c.args.index.now.meaning.rows = sym (length-map c.rows-row-items.result row_of) ∙ ap length c.rows-row-items.ensures in
    (λ t. all_places (HasItsRecord c.args.map.now.meaning) c.args.index.now.meaning.rows (length c.loop-row.yielded) c.loop-row.invariant (omega (arith, end.1, long)), λ all. refl)
