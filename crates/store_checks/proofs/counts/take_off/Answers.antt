use Rattle.std.proofs.Common.{◌≡◌, ◌==◌, ◌∷◌, [], ℕ, List, length, take, take_all, get_or, length-append, sym, ap, ◌∙◌, subst, arith}
use Rattle.std.specs.Prelude.{count_by}
use Rattle.std.proofs.lemmas.List.{length-map}
use Rattle.std.specs.Borrow.{Bor}
use Rattle.std.proofs.lemmas.Iterator.Consumers.{YieldsList-from_first, YieldsList-turn, YieldsList-end}
use Rattle.box_index.specs.Row.{row_of}
use Rattle.box_index.specs.declared.index.BoxRow.{BoxRow}
use Rattle.model_meaning.specs.BoxMeaning.{LogRow}
use Rattle.store_checks.specs.Checked.{listed_by, once, AreTakenOff}
use Rattle.store_checks.proofs.CountLemmas.{none_off, off_then, off_long, used_then, row_here, none_listed, listed_next, listed_within}
use Rattle.store_checks.proofs.counts.take_off.Goals as goal

pub loop-row-init : goal.loop-row-init
loop-row-init c = none_off (λ uid. count_by (λ row. row.map_uid == uid) (take 0 c.args.index.now.meaning.rows)) c.args.map.now.meaning.records c.args.left.now (λ k d lt. none_listed (get_or c.args.map.now.meaning.records k d).uid c.args.index.now.meaning.rows) c.requires

pub take_one-requires : goal.take_one-requires
take_one-requires c = off_long _ c.args.map.now.meaning.records _ _ c.loop-row.invariant

pub returns-then-not-take_one : goal.returns-then-not-take_one
returns-then-not-take_one c =
    let all = YieldsList-from_first (λ (x : Bor BoxRow). x.now) (λ (rows : List BoxRow). rows) {s = c.into_iter-row-iterator.result} c.rows-row-items.result c.into_iter-row-iterator.ensures.into_iter_gives in
    let turn = YieldsList-turn all c.loop-row.yielded _ c.loop-row.yielded_by _ _ c.in-Some.row c.in-Some.is c.next.ensures.steps in
    let at = row_here c.rows-row-items.result c.args.index.now.meaning.rows (length c.loop-row.yielded) c.in-Some.row.now c.rows-row-items.ensures turn in
    used_then (λ uid. count_by (λ row. row.map_uid == uid) (take (length c.loop-row.yielded) c.args.index.now.meaning.rows)) (once c.in-Some.row.now.map_uid.0) (λ uid. listed_by uid c.args.index.now.meaning) c.args.map.now.meaning.records c.args.left.now c.loop-row.left
    (λ uid. listed_within uid c.args.index.now.meaning.rows (length c.loop-row.yielded) (row_of c.in-Some.row.now) at) c.loop-row.invariant c.if-not-take_one.ensures

pub loop-row-preserved : goal.loop-row-preserved
loop-row-preserved c =
    let all = YieldsList-from_first (λ (x : Bor BoxRow). x.now) (λ (rows : List BoxRow). rows) {s = c.into_iter-row-iterator.result} c.rows-row-items.result c.into_iter-row-iterator.ensures.into_iter_gives in
    let turn = YieldsList-turn all c.loop-row.yielded _ c.loop-row.yielded_by _ _ c.in-Some.row c.in-Some.is c.next.ensures.steps in
    let at = row_here c.rows-row-items.result c.args.index.now.meaning.rows (length c.loop-row.yielded) c.in-Some.row.now c.rows-row-items.ensures turn in
    let F : ℕ → Type 0 = λ n. AreTakenOff (λ uid. count_by (λ row. row.map_uid == uid) (take n c.args.index.now.meaning.rows)) c.args.map.now.meaning.records c.args.left.now c.take_one.new.left in
    subst F (sym (length-append c.loop-row.yielded (c.in-Some.row ∷ [])))
    (off_then (λ uid. count_by (λ row. row.map_uid == uid) (take (length c.loop-row.yielded) c.args.index.now.meaning.rows)) (once c.in-Some.row.now.map_uid.0) _ c.args.map.now.meaning.records c.args.left.now c.loop-row.left c.take_one.new.left
    (λ uid. listed_next uid c.args.index.now.meaning.rows (length c.loop-row.yielded) (row_of c.in-Some.row.now) at) c.loop-row.invariant c.if-not-take_one.ensures)

pub returns : goal.returns
returns c =
    let all = YieldsList-from_first (λ (x : Bor BoxRow). x.now) (λ (rows : List BoxRow). rows) {s = c.into_iter-row-iterator.result} c.rows-row-items.result c.into_iter-row-iterator.ensures.into_iter_gives in
    let end = YieldsList-end all c.loop-row.yielded _ c.loop-row.yielded_by _ _ c.in-None.is c.next.ensures.steps in
    let long : length c.rows-row-items.result ≡ length c.args.index.now.meaning.rows = sym (length-map c.rows-row-items.result row_of) ∙ ap length c.rows-row-items.ensures in
    let F : List LogRow → Type 0 = λ rows. AreTakenOff (λ uid. count_by (λ row. row.map_uid == uid) rows) c.args.map.now.meaning.records c.args.left.now c.loop-row.left in
    subst F (take_all (length c.loop-row.yielded) c.args.index.now.meaning.rows (omega (arith, end.1, long))) c.loop-row.invariant
