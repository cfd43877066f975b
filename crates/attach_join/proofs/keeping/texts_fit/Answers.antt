use Rattle.std.proofs.Common.{◌∙◌, sym, subst}
use Rattle.std.specs.Prelude.{IfSome}
use Rattle.std.proofs.lemmas.List.Elements.{All-tail}
use Rattle.mdbox_base.specs.declared.metadata.ExtRef.{ExtRef}
use Rattle.model_base64.specs.Base64Text.{IsForm}
use Rattle.attach_join.proofs.KeptLemmas.{AreForms, first_texts, no_long_text, with_first}
use Rattle.attach_join.proofs.keeping.texts_fit.Goals as goal

pub returns-then-text_size-from : goal.returns-then-text_size-from
returns-then-text_size-from c = (
  λ yes. absurd (cc yes),
  λ fit.
      let two = first_texts c.loop-reference.refs.now c.in-Some.others.now c.loop-reference.rows.now c.in-Some-split_first.behind.now c.in-Some.reference.now c.in-Some-split_first.row.now c.in-Some.ensures.cases.0 c.in-Some-split_first.ensures.cases.0 (c.loop-reference.invariant.on fit) in
      absurd (no_long_text c.in-Some.reference.now c.in-Some-split_first.row.now c.text_size.result c.from.result two.0 c.text_size.ensures c.from.ensures c.if-text_size-from.true),
)

pub loop-reference-preserved : goal.loop-reference-preserved
loop-reference-preserved c = record {
  back = λ fit. c.loop-reference.invariant.back (with_first c.loop-reference.refs.now c.in-Some.others.now c.loop-reference.rows.now c.in-Some-split_first.behind.now c.in-Some.reference.now c.in-Some-split_first.row.now c.in-Some.ensures.cases.0 c.in-Some-split_first.ensures.cases.0
      (λ octets long. sym (c.text_size.ensures octets long) ∙ c.if-text_size-from.false ∙ c.from.ensures) fit);
  on = λ fit. (first_texts c.loop-reference.refs.now c.in-Some.others.now c.loop-reference.rows.now c.in-Some-split_first.behind.now c.in-Some.reference.now c.in-Some-split_first.row.now c.in-Some.ensures.cases.0 c.in-Some-split_first.ensures.cases.0 (c.loop-reference.invariant.on fit)).1;
  forms = All-tail (λ (ref : ExtRef). IfSome ref.form IsForm) c.in-Some.reference.now c.in-Some.others.now (subst AreForms c.in-Some.ensures.cases.0 c.loop-reference.invariant.forms);
}
