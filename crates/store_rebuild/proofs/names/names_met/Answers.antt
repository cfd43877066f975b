use Rattle.std.proofs.Common.{◌∷◌, ◌++◌, [], ◌∙◌, ℕ, List, length, length-append, ap, arith}
use Rattle.std.proofs.lemmas.List.{nil_from_length}
use Rattle.model_taken.specs.Taken.{and_name}
use Rattle.store_rebuild.proofs.BoxTextLemmas.{meet_begins, meet_ends, meet_more}
use Rattle.model_store.proofs.StoreExampleLemmas.{inbox_is_name}
use Rattle.store_rebuild.proofs.names.names_met.Goals as goal

pub loop-row-init : goal.loop-row-init
loop-row-init c = record {
  met = λ messages e. meet_begins c.args.taken.now messages _ (c.in_ok-push.ensures.items ∙ ap (λ (ns : List (List ℕ)). ns ++ c.in_ok-inbox.inbox ∷ []) c.new-names.ensures.items ∙ ap (λ (n : List ℕ). n ∷ []) c.in_ok-inbox.ensures) e;
  few = let a = ap length c.in_ok-push.ensures.items in let b = ap length c.new-names.ensures.items in omega (arith, a, b, length-append {A = List ℕ});
}

pub loop-row-preserved : goal.loop-row-preserved
loop-row-preserved c = record {
  met = λ messages e. meet_more messages c.loop-row.rest.now c.in-Some.others.now c.in-Some.row.now c.loop-row.names.items _ (c.loop-row.invariant.met messages e) c.in-Some.ensures.cases.0 (c.in_ok-names.ensures.names ∙ ap (λ (n : List ℕ). and_name c.loop-row.names.items n) c.as_octets.ensures.same);
  few = c.in_ok-names.ensures.few;
}

pub returns-clause-met : goal.returns-clause-met
returns-clause-met c = λ messages e. meet_ends messages c.loop-row.rest.now c.loop-row.names.items (nil_from_length c.loop-row.rest.now c.in_default.ensures.cases) (c.loop-row.invariant.met messages e)

pub copy_of-requires : goal.copy_of-requires
copy_of-requires c = inbox_is_name
