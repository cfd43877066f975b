use Rattle.purge_task.proofs.Common.{◌∙◌, ap, target_named, Source}
use Rattle.mdbox_base.specs.declared.entries.MapEntry.TheVariants as map_entry
use Rattle.purge_task.proofs.switching.spend.Goals as goal

pub returns-clause-entry : goal.returns-clause-entry
returns-clause-entry c = record {
  moved = c.list_records.new.source.copied.items;
  dropped = c.list_records.new.source.dropped.items;
  is = c.take_entry.ensures.entry ∙ ap (λ (s : Source). map_entry.P s.file (target_named s.target c.list_records.new.source.copied.items) c.list_records.new.source.copied.items c.list_records.new.source.dropped.items) c.list_records.ensures.same;
  listed = c.list_records.ensures.lists;
}
