use Rattle.std.proofs.Common.{List, map, flat_map, ◌∙◌, ap, take_all, arith}
use Rattle.model_meaning.specs.MapMeaning.{MapRecord}
use Rattle.store_instances.specs.NamedRows.{named_row}
use Rattle.store_instances.proofs.GatheredLemmas.{named_there, record_next}
use Rattle.store_instances.proofs.named.all_named.Goals as goal

pub unwrap-requires : goal.unwrap-requires
unwrap-requires c = named_there c.args.map.now.meaning c.loop-place.place c.rows-place-end.result c.instances_at.result c.instances_at.ensures c.rows-place-end.ensures c.loop-place-test.true

pub loop-place-preserved : goal.loop-place-preserved
loop-place-preserved c = record_next c.args.map.now.meaning c.loop-place.place c.instances_at.result c.unwrap.result c.as_slice.result.now c.loop-place.rows.items c.add_rows.new.rows.items c.instances_at.ensures c.unwrap.ensures c.as_slice.ensures c.loop-place.invariant c.in_ok-add_rows.ensures

pub returns : goal.returns
returns c = c.loop-place.invariant ∙ ap (λ (rows : List MapRecord). map named_row (flat_map (λ (r : MapRecord). r.instances) rows)) (take_all c.loop-place.place c.args.map.now.meaning.records (omega (arith, c.rows-place-end.ensures)))
