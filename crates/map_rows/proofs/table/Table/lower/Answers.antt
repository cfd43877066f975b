use Rattle.map_rows.proofs.Common.{◌<◌, ◌∷◌, [], List, map, ap, sym, subst, ◌∙◌, arith, MapRecord, record_changed, meant_record, AreIndexed, TableValue}
use Rattle.mdbox_base.specs.declared.entries.MapEntry.TheVariants as entry
use Rattle.map_rows.proofs.NameLemmas.{names_changed}
use Rattle.map_rows.proofs.SearchLemmas.{pairs_unmap}
use Rattle.map_rows.proofs.TableLemmas.{counted_indexed, lowers_count, same_table}
use Rattle.map_rows.proofs.table.Table.lower.Goals as goal

pub lower-requires : goal.lower-requires
lower-requires c = pairs_unmap (λ (a b : MapRecord). a.uid < b.uid) meant_record c.self.inside.records.items c.self.invariant.0.kept.rising

pub invariant_of-self : goal.invariant_of-self
invariant_of-self c =
    let i = c.self.invariant in
    let space = i.1 in
    let l = c.lower.ensures.space.0 in
    let k = c.lower.ensures.space.1 in (
      subst (λ (rows : List MapRecord). AreIndexed rows c.self.inside.by_guid.keys c.self.inside.by_place.keys) (sym c.lower.ensures.records)
          (counted_indexed (record_changed (entry.D (c.args.uid ∷ []))) (lowers_count (c.args.uid ∷ [])) (map meant_record c.self.inside.records.items) c.self.inside.by_guid.keys c.self.inside.by_place.keys i.0),
      omega (arith, space, l, k),
      i.2,
      i.3,
      names_changed c.self.inside.names.named (map meant_record c.self.inside.records.items) _ (record_changed (entry.D (c.args.uid ∷ []))) c.lower.ensures.records (λ r. ap (λ (row : MapRecord). row.instances) (lowers_count (c.args.uid ∷ []) r)) i.4,
    )

pub returns : goal.returns
returns c =
    same_table _ _ _ _ _ _ (c.lower.ensures.records ∙ ap (λ (v : TableValue). map (record_changed (entry.D (c.args.uid ∷ []))) v.records) c.self.view_is) (ap (λ (v : TableValue). v.record_room) c.self.view_is) (ap (λ (v : TableValue). v.instance_room) c.self.view_is)
