use Rattle.std.proofs.Common.{map, List, ◌∙◌, ap, take_all, arith}
use Rattle.model_meaning.specs.MapMeaning.{MapRecord}
use Rattle.store_files.proofs.BarredLemmas.{barred_among, bar_next, bar_none, bar_rises}
use Rattle.store_files.proofs.barred.bar_files.Goals as goal

pub loop-place-init : goal.loop-place-init
loop-place-init c = bar_none c.args.map.now.meaning.store c.args.map.now.meaning.records c.args.states.now

pub bar_file-requires : goal.bar_file-requires
bar_file-requires c = record { rising = bar_rises c.args.map.now.meaning.store _ c.args.states.now c.loop-place.states c.loop-place.invariant c.requires.rising }

pub loop-place-preserved : goal.loop-place-preserved
loop-place-preserved c = bar_next c.args.map.now.meaning.store c.args.id.0 c.args.map.now.meaning.records c.loop-place.place c.row_at.result c.unwrap-row.result c.args.states.now c.loop-place.states c.bar_file.new.states c.requires.id c.row_at.ensures c.unwrap-row.ensures c.loop-place.invariant c.bar_file.ensures

pub returns : goal.returns
returns c = c.loop-place.invariant ∙ ap (λ (rows : List MapRecord). map (barred_among c.args.map.now.meaning.store rows) c.args.states.now) (take_all c.loop-place.place c.args.map.now.meaning.records (omega (arith, c.rows-place-end.ensures)))
