use Rattle.map_rows.proofs.Common.{AllPairs, ◌<◌, ◌∙◌, List, map, ap, sym, subst, refl, arith, MapRecord, Record, meant_record, AreNamesOf, instances_of, TableValue}
use Rattle.model_meaning.proofs.AppliedLemmas.{records_by_purged}
use Rattle.map_rows.specs.TableKept.{CanMoveEach}
use Rattle.map_rows.proofs.SearchLemmas.{pairs_unmap}
use Rattle.map_rows.proofs.SwitchLemmas.{switched, switched_indexed, switched_names, places_apart}
use Rattle.map_rows.proofs.TableLemmas.{same_indexed, same_table}
use Rattle.map_rows.proofs.table.Table.switch.Goals as goal

pub switch-requires-clause-apart : goal.switch-requires-clause-apart
switch-requires-clause-apart c =
    let can = subst (λ (v : TableValue). CanMoveEach v.records c.args.target c.args.moved.now) (sym c.self.view_is) c.requires.places in
    places_apart (map meant_record c.self.inside.records.items) c.self.inside.by_place.keys c.args.target c.args.moved.now c.args.dropped.now c.self.invariant.0.by_place c.requires.moved can c.self.invariant.0.kept

pub remove_each-requires-2-clause-rising : goal.remove_each-requires-2-clause-rising
remove_each-requires-2-clause-rising c =
    subst (λ (rs : List Record). AllPairs (λ a b. a.row.uid.0 < b.row.uid.0) rs) (sym c.deref.ensures.value)
    (pairs_unmap (λ (a b : MapRecord). a.uid < b.uid) meant_record c.self.inside.records.items c.self.invariant.0.kept.rising)

pub invariant_of-self : goal.invariant_of-self
invariant_of-self c =
    let rows = map meant_record c.self.inside.records.items in
    let can = subst (λ (v : TableValue). CanMoveEach v.records c.args.target c.args.moved.now) (sym c.self.view_is) c.requires.places in
    let i = c.self.invariant in
    let space = i.1 in
    let l = c.switch_each.ensures.space.0 in
    let k = c.switch_each.ensures.space.1 in
    let p = i.2 in
    let q = i.3 in
    let a = c.remove_each.ensures.room in
    let b = c.switch.ensures.room in (
      same_indexed _ _ _ _ _ _ c.switch_each.ensures.records c.remove_each.ensures.keys refl
          (switched_indexed rows c.self.inside.by_guid.keys c.self.inside.by_place.keys c.switch.new.self.keys c.args.target c.args.moved.now c.args.dropped.now i.0 c.requires.moved can c.switch.ensures.keys),
      omega (arith, space, l, k),
      omega (arith, p, a),
      omega (arith, q, b),
      subst (λ (ms : List MapRecord). AreNamesOf c.remove_each-2.new.self.named (instances_of ms)) (sym c.switch_each.ensures.records)
          (switched_names c.remove_each-2.new.self.named c.args.target c.args.moved.now c.args.dropped.now rows (rw c.deref.ensures.value at c.remove_each-2.ensures.names)),
    )

pub returns : goal.returns
returns c =
    same_table _ _ _ _ _ _
    (c.switch_each.ensures.records ∙ ap (λ (v : TableValue). switched c.args.target c.args.moved.now c.args.dropped.now v.records) c.self.view_is ∙ sym (records_by_purged c.args.file c.args.target c.args.moved.now c.args.dropped.now c.args.self.now.records))
    (ap (λ (v : TableValue). v.record_room) c.self.view_is) (c.remove_each-2.ensures.room ∙ ap (λ (v : TableValue). v.instance_room) c.self.view_is)
