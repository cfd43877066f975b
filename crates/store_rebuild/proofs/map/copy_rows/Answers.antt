use Rattle.std.proofs.Common.{◌++◌, List, ap, append-nil, append_assoc, sym, ◌∙◌, ◌∷◌, []}
use Rattle.std.proofs.lemmas.List.{nil_from_length}
use Rattle.mdbox_base.specs.declared.entries.InstRow.{InstRow}
use Rattle.store_rebuild.proofs.map.copy_rows.Goals as goal

pub loop-row-init : goal.loop-row-init
loop-row-init c = ap (λ (rs : List InstRow). rs ++ c.args.rows.now) c.empty-copy.ensures

pub loop-row-preserved : goal.loop-row-preserved
loop-row-preserved c =
    ap (λ (rs : List InstRow). rs ++ c.in-Some.others.now) c.in_ok-push.ensures.ok ∙ append_assoc c.loop-row.copy (c.in-Some.row.now ∷ []) c.in-Some.others.now
    ∙ ap (λ (rs : List InstRow). c.loop-row.copy ++ rs) (sym c.in-Some.ensures.cases.0) ∙ c.loop-row.invariant

pub returns : goal.returns
returns c = sym (append-nil c.loop-row.copy) ∙ ap (λ (rs : List InstRow). c.loop-row.copy ++ rs) (sym (nil_from_length c.loop-row.rest.now c.in_default.ensures.cases)) ∙ c.loop-row.invariant
