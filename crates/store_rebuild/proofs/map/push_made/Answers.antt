use Rattle.std.proofs.Common.{◌++◌, ◌∷◌, [], ◌∙◌, ap}
use Rattle.mdbox_base.specs.declared.entries.MapEntry.{MapEntry}
use Rattle.model_logs.specs.Entries.{map_text}
use Rattle.std.proofs.lemmas.List.{nil_from_length}
use Rattle.store_rebuild.proofs.MapTextLemmas.{made_ends, made_more}
use Rattle.store_rebuild.proofs.map.push_made.Goals as goal

pub loop-name-preserved : goal.loop-name-preserved
loop-name-preserved c = made_more c.loop-name.number _ c.args.generation c.loop-name.rest.now c.in-Some.others.now c.in-Some.name.now c.in_ok-name.name c.loop-name.draft _ _ c.loop-name.invariant c.in-Some.ensures.cases.0 (c.in_ok-name.ensures ∙ c.as_octets.ensures.same) c.in_ok-number.ensures.next
    (c.in_ok-draft.ensures ∙ ap (λ (e : MapEntry). c.loop-name.draft ++ map_text e ∷ []) c.made.ensures.entry)

pub returns : goal.returns
returns c = made_ends c.loop-name.number c.args.generation c.loop-name.rest.now c.loop-name.draft _ (nil_from_length c.loop-name.rest.now c.in_default.ensures.cases) c.loop-name.invariant
