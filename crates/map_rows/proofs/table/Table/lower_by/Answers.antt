use Rattle.map_rows.proofs.Common.{◌<◌, ◌∷◌, [], List, map, ap, sym, subst, ◌∙◌, arith, MapRecord, lowered_by, meant_record, AreIndexed, TableValue}
use Rattle.map_rows.proofs.NameLemmas.{names_changed}
use Rattle.map_rows.proofs.SearchLemmas.{pairs_unmap}
use Rattle.map_rows.proofs.TableLemmas.{counted_indexed, lowers_by_count, same_table}
use Rattle.map_rows.proofs.table.Table.lower_by.Goals as goal

pub lower_by-requires : goal.lower_by-requires
lower_by-requires c = pairs_unmap (λ (a b : MapRecord). a.uid < b.uid) meant_record c.self.inside.records.items c.self.invariant.0.kept.rising

pub invariant_of-self : goal.invariant_of-self
invariant_of-self c =
    let i = c.self.invariant in
    let space = i.1 in
    let l = c.lower_by.ensures.space.0 in
    let k = c.lower_by.ensures.space.1 in (
      subst (λ (rows : List MapRecord). AreIndexed rows c.self.inside.by_guid.keys c.self.inside.by_place.keys) (sym c.lower_by.ensures.records)
          (counted_indexed (lowered_by (c.args.given ∷ [])) (lowers_by_count (c.args.given ∷ [])) (map meant_record c.self.inside.records.items) c.self.inside.by_guid.keys c.self.inside.by_place.keys i.0),
      omega (arith, space, l, k),
      i.2,
      i.3,
      names_changed c.self.inside.names.named (map meant_record c.self.inside.records.items) _ (lowered_by (c.args.given ∷ [])) c.lower_by.ensures.records (λ r. ap (λ (row : MapRecord). row.instances) (lowers_by_count (c.args.given ∷ []) r)) i.4,
    )

pub returns : goal.returns
returns c =
    same_table _ _ _ _ _ _ (c.lower_by.ensures.records ∙ ap (λ (v : TableValue). map (lowered_by (c.args.given ∷ [])) v.records) c.self.view_is) (ap (λ (v : TableValue). v.record_room) c.self.view_is) (ap (λ (v : TableValue). v.instance_room) c.self.view_is)
