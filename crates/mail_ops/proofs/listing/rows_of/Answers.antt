use Rattle.mail_ops.proofs.Common.{List, ◌++◌, ◌∷◌, [], ◌∙◌, ap, ListRow}
use Rattle.std.proofs.lemmas.Iterator.Consumers.{YieldsList-from_first, YieldsList-end}
use Rattle.box_index.specs.declared.index.BoxRow.{BoxRow}
use denote.Ref.{Bor}
use Rattle.mail_ops.proofs.RowLemmas.{row_more, rows_all}
use Rattle.mail_ops.proofs.listing.rows_of.Goals as goal

pub loop-row-preserved : goal.loop-row-preserved
loop-row-preserved c = row_more c.loop-row.yielded c.in-Some.row c.loop-row.rows.items _ c.loop-row.invariant (c.in_ok-push.ensures.items ∙ ap (λ (row : ListRow). c.loop-row.rows.items ++ row ∷ []) c.in_ok-row_of.ensures)

pub returns : goal.returns
returns c =
    let all = YieldsList-from_first (λ (x : Bor BoxRow). x.now) (λ (rows : List BoxRow). rows) {s = c.into_iter-row-iterator.result} c.rows-row-items.result c.into_iter-row-iterator.ensures.into_iter_gives in
    let end = YieldsList-end all c.loop-row.yielded _ c.loop-row.yielded_by _ _ c.in-None.is c.next.ensures.steps in
    c.of.ensures ∙ rows_all c.loop-row.yielded c.rows-row-items.result c.args.index.now.meaning.rows c.loop-row.rows.items end.0 c.rows-row-items.ensures c.loop-row.invariant
