use Rattle.map_rows.proofs.Common.{◌≡◌, ◌<◌, ◌≤◌, List, All, map, ap, sym, subst, ◌∙◌, arith, MapRecord, record_changed, meant_record, AreIndexed, TableValue}
use Rattle.mdbox_base.specs.declared.entries.MapEntry.TheVariants as entry
use Rattle.map_rows.proofs.NameLemmas.{names_changed}
use Rattle.map_rows.proofs.SearchLemmas.{pairs_unmap}
use Rattle.map_rows.proofs.TableLemmas.{counted_indexed, raises_count, same_table}
use Rattle.map_rows.proofs.table.Table.raise.Goals as goal

pub raise-requires-clause-rising : goal.raise-requires-clause-rising
raise-requires-clause-rising c = pairs_unmap (λ (a b : MapRecord). a.uid < b.uid) meant_record c.self.inside.records.items c.self.invariant.0.kept.rising

pub invariant_of-self : goal.invariant_of-self
invariant_of-self c =
    let i = c.self.invariant in
    let space = i.1 in
    let l = c.raise.ensures.space.0 in
    let k = c.raise.ensures.space.1 in (
      subst (λ (rows : List MapRecord). AreIndexed rows c.self.inside.by_guid.keys c.self.inside.by_place.keys) (sym c.raise.ensures.records)
          (counted_indexed (record_changed (entry.U c.args.uid)) (raises_count c.args.uid) (map meant_record c.self.inside.records.items) c.self.inside.by_guid.keys c.self.inside.by_place.keys i.0),
      omega (arith, space, l, k),
      i.2,
      i.3,
      names_changed c.self.inside.names.named (map meant_record c.self.inside.records.items) _ (record_changed (entry.U c.args.uid)) c.raise.ensures.records (λ r. ap (λ (row : MapRecord). row.instances) (raises_count c.args.uid r)) i.4,
    )

pub returns : goal.returns
returns c =
    same_table _ _ _ _ _ _ (c.raise.ensures.records ∙ ap (λ (v : TableValue). map (record_changed (entry.U c.args.uid)) v.records) c.self.view_is) (ap (λ (v : TableValue). v.record_room) c.self.view_is) (ap (λ (v : TableValue). v.instance_room) c.self.view_is)

pub raise-requires-clause-rise : goal.raise-requires-clause-rise
raise-requires-clause-rise c = subst (λ (v : TableValue). All (λ row. c.args.uid.0 ≡ row.uid → row.count ≤ 65534) v.records) (sym c.self.view_is) c.requires
