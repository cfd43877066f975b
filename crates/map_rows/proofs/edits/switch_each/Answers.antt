use Rattle.map_rows.proofs.Common.{not, rules, MapRecord, has_map_uid, moved_record, place_given, meant_record}
use Rattle.map_rows.proofs.SwitchLemmas.{retained_as}
use Rattle.map_rows.proofs.edits.switch_each.Goals as goal

pub returns-clause-records : goal.returns-clause-records
returns-clause-records c =
    retained_as _ meant_record (λ (row : MapRecord). not (has_map_uid row.uid c.args.dropped.now)) (λ (row : MapRecord). moved_record row c.args.target (place_given row.uid c.args.moved.now)) _ (λ x b t y called. search rules) _ _ c.retain_mut.ensures.filtered
