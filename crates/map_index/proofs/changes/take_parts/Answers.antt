use Rattle.map_index.proofs.Common.{◌++◌, ◌∷◌, [], ◌∙◌, sym, ap, map, arith, TableValue, box_of, Mailbox}
use Rattle.std.proofs.lemmas.List.{map_push}
use Rattle.model_meaning.proofs.AppliedLemmas.{records_by_stored, records_by_mailbox, records_by_sealed, records_by_renamed, boxes_by_stored, boxes_by_mailbox, boxes_by_sealed, boxes_by_renamed}
use Rattle.map_index.proofs.ListedLemmas.{table_is}
use Rattle.map_index.proofs.MapAppliedLemmas.{adds_none, room_stays}
use Rattle.map_index.proofs.changes.take_parts.Goals as goal

pub add-requires-clause-fits : goal.add-requires-clause-fits
add-requires-clause-fits c = rw c.in-S.is at c.requires.fits

pub returns-in-S-clause-records : goal.returns-in-S-clause-records
returns-in-S-clause-records c =
    rw c.in-S.is
    (table_is _ _ _ _
    (ap (λ (t : TableValue). t.records) c.add.ensures ∙ sym (records_by_stored c.in-S.origin c.in-S.count c.in-S.uid c.in-S.file c.in-S.offset c.in-S.size c.in-S.guid c.in-S.instances c.args.records.now.records))
    (ap (λ (t : TableValue). t.record_room) c.add.ensures) (ap (λ (t : TableValue). t.instance_room) c.add.ensures))

pub returns-in-S-clause-boxes : goal.returns-in-S-clause-boxes
returns-in-S-clause-boxes c = rw c.in-S.is (sym (boxes_by_stored c.in-S.origin c.in-S.count c.in-S.uid c.in-S.file c.in-S.offset c.in-S.size c.in-S.guid c.in-S.instances (map box_of c.args.boxes.now.items)))

pub returns-in-B-clause-boxes : goal.returns-in-B-clause-boxes
returns-in-B-clause-boxes c =
    rw c.in-B.is
    (ap (map box_of) (c.push_reserved.ensures.items ∙ ap (λ (b : Mailbox). c.args.boxes.now.items ++ b ∷ []) c.of.ensures) ∙ map_push box_of _ _
    ∙ sym (boxes_by_mailbox c.in-B.mailbox c.in-B.generation c.in-B.name (map box_of c.args.boxes.now.items)))

pub returns-in-B-clause-records : goal.returns-in-B-clause-records
returns-in-B-clause-records c =
    rw c.in-B.is
    (table_is c.args.records.now _ _ _ (sym (records_by_mailbox c.in-B.mailbox c.in-B.generation c.in-B.name c.args.records.now.records)) (omega arith) (omega arith))

pub returns-in-E-clause-records : goal.returns-in-E-clause-records
returns-in-E-clause-records c = rw c.in-E.is (table_is c.args.records.now _ _ _ (sym (records_by_sealed c.in-E.file c.args.records.now.records)) (omega arith) (omega arith))

pub returns-in-E-clause-boxes : goal.returns-in-E-clause-boxes
returns-in-E-clause-boxes c = rw c.in-E.is (sym (boxes_by_sealed c.in-E.file (map box_of c.args.boxes.now.items)))

pub returns-in-E-clause-files : goal.returns-in-E-clause-files
returns-in-E-clause-files c = rw c.in-E.is c.seal.ensures.files

pub change_parts-requires : goal.change_parts-requires
change_parts-requires c = record { fits = c.requires.fits; boxes_rising = c.requires.boxes_rising; changes = adds_none c.args.entry c.in_default.not-S c.in_default.not-B c.in_default.not-E c.in_default.not-V }

pub returns-in_default-clause-records : goal.returns-in_default-clause-records
returns-in_default-clause-records c = c.change_parts.ensures.records ∙ room_stays c.args.entry c.args.records.now _ (adds_none c.args.entry c.in_default.not-S c.in_default.not-B c.in_default.not-E c.in_default.not-V)

pub returns-in-V-clause-records : goal.returns-in-V-clause-records
returns-in-V-clause-records c = rw c.in-V.is (table_is c.args.records.now _ _ _ (sym (records_by_renamed c.in-V.mailbox c.in-V.name c.args.records.now.records)) (omega arith) (omega arith))

pub returns-in-V-clause-boxes : goal.returns-in-V-clause-boxes
returns-in-V-clause-boxes c = rw c.in-V.is (c.rename.ensures.boxes ∙ sym (boxes_by_renamed c.in-V.mailbox c.in-V.name (map box_of c.args.boxes.now.items)))
