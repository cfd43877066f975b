use Rattle.std.proofs.Common.{◌<◌, ◌^◌, ◌++◌, sym, ◌∙◌, refl, rules}
use Rattle.mdbox_base.specs.declared.entries.MapPlace.{MapPlace}
use Rattle.model_logs.specs.Entries.{four}
use Rattle.model_octets.proofs.NumberLemmas.{next_four}
use Rattle.log_records.proofs.ListItemLemmas.{none_of, some_of, list_rest}
use Rattle.log_records.proofs.map_read.purged.Goals as goal

pub returns-in_default-3 : goal.returns-in_default-3
returns-in_default-3 c = λ file target moved dropped lf lt lm ld am ad is.
    let f : c.in-Some.file < 2 ^ 32 = search rules in
    let t : c.in-Some-number_at.target < 2 ^ 32 = search rules in
    let h = some_of _ _ _ _ c.in-Some-2.is c.in_ok-moved.ensures in
    let n1 = next_four c.in-Some.file file c.in-Some.rest.now _ f lf (sym c.in-Some.ensures.0 ∙ is) in
    let n2 = next_four c.in-Some-number_at.target target c.in-Some-number_at.rest.now _ t lt (sym c.in-Some-number_at.ensures.0 ∙ n1.1) in
    let rest = list_rest (λ (p : MapPlace). four p.uid.0 ++ four p.offset) (λ (p : MapPlace). (p.uid.0 < 2 ^ 32) × (p.offset < 2 ^ 32)) 8 (λ p r. refl) c.in-Some-2.moved moved c.in-Some-2.rest.now _ h.1 lm h.2 am (sym h.0 ∙ n2.1) in
    none_of _ _ _ c.in_default-3.is c.in_ok-dropped.ensures dropped ld ad rest
