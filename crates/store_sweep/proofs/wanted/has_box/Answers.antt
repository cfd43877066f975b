use Rattle.std.proofs.Common.{◌==◌, ◌&&◌, ℕ, Bool, false, slice_get, refl, sym, ◌∙◌, ap}
use Rattle.std.specs.Option.{option_map_or}
use Rattle.map_index.specs.Shown.{shown_box}
use Rattle.map_index.specs.declared.rows.BoxAt.{BoxAt}
use Rattle.store_sweep.proofs.ScanLemmas.{tested}
use Rattle.store_sweep.proofs.BoxSearchLemmas.{has_log, log_at}
use Rattle.store_sweep.proofs.wanted.has_box.Goals as goal

pub returns : goal.returns
returns c =
    tested shown_box (has_log c.args.number c.args.generation) (λ (at : BoxAt). (at.number.0 == c.args.number) && (at.generation == c.args.generation)) (λ box. refl) (slice_get c.args.map.now.meaning.boxes c.first_box.result) c.box_at.result c.has_log.result c.box_at.ensures c.has_log.ensures
    ∙ ap {B = Bool} (λ (n : ℕ). option_map_or (has_log c.args.number c.args.generation) (slice_get c.args.map.now.meaning.boxes n) false) c.first_box.ensures
    ∙ sym (log_at c.args.number c.args.generation c.args.map.now.meaning.boxes c.known_facts.ensures.boxes.rising)
