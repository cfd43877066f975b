use Rattle.map_rows.proofs.Common.{AllPairs, ◌≡◌, ◌≤◌, ◌==◌, ◌∙◌, List, All, None, map, find, ap, sym, subst, arith, OrderKey, meant_record, AreNamesOf, instances_of, with_key, MapRecord, AgreesOn, InstRow, TableValue, OrderValue}
use Rattle.map_rows.specs.Named.{IsOnlyNaming}
use Rattle.map_rows.proofs.NameLemmas.{names_added, names_new}
use Rattle.map_rows.specs.TableKept.{FitsBehind}
use Rattle.map_rows.proofs.TableLemmas.{guid_key_new, place_key_new, added_indexed, same_indexed, mapped_push}
use Rattle.map_rows.proofs.table.Table.add.Goals as goal

pub add-requires-clause-new : goal.add-requires-clause-new
add-requires-clause-new c =
    let keys = c.self.inside.by_guid.keys in
    let fits = subst (λ (v : TableValue). FitsBehind v.records (meant_record c.args.added)) (sym c.self.view_is) c.requires.fits in
    subst (λ (k : OrderKey). find (λ (x : OrderKey). x.number == k.number) keys ≡ None) (sym c.guid_key.ensures.key)
    (guid_key_new (map meant_record c.self.inside.records.items) keys (meant_record c.args.added) c.self.invariant.0.kept c.self.invariant.0.by_guid fits c.guid_key.ensures.long c.guid_key.ensures.octets)

pub add-requires-2-clause-new : goal.add-requires-2-clause-new
add-requires-2-clause-new c =
    let keys = c.self.inside.by_place.keys in
    let fits = subst (λ (v : TableValue). FitsBehind v.records (meant_record c.args.added)) (sym c.self.view_is) c.requires.fits in
    subst (λ (k : OrderKey). find (λ (x : OrderKey). x.number == k.number) keys ≡ None) (sym c.place_key.ensures)
    (place_key_new (map meant_record c.self.inside.records.items) keys (meant_record c.args.added) c.self.invariant.0.kept c.self.invariant.0.by_place fits)

pub invariant_of-self : goal.invariant_of-self
invariant_of-self c =
    let rows = map meant_record c.self.inside.records.items in
    let fits = subst (λ (v : TableValue). FitsBehind v.records (meant_record c.args.added)) (sym c.self.view_is) c.requires.fits in
    let room : 1 ≤ c.self.inside.room = subst (λ (v : TableValue). 1 ≤ v.record_room) (sym c.self.view_is) c.requires.room in
    let i = c.self.invariant in
    let space = i.1 in
    let l = c.push_reserved.ensures.len in
    let k = c.push_reserved.ensures.capacity in
    let p = i.2 in
    let q = i.3 in
    let a = ap (λ (v : OrderValue). v.room) c.add.ensures in
    let b = ap (λ (v : OrderValue). v.room) c.add-2.ensures in (
      same_indexed _ _ _ _ _ _
          (ap (map meant_record) c.push_reserved.ensures.items ∙ mapped_push c.self.inside.records.items c.args.added)
          (ap (λ (v : OrderValue). v.keys) c.add.ensures ∙ ap (λ (key : OrderKey). with_key key c.self.inside.by_guid.keys) c.guid_key.ensures.key)
          (ap (λ (v : OrderValue). v.keys) c.add-2.ensures ∙ ap (λ (key : OrderKey). with_key key c.self.inside.by_place.keys) c.place_key.ensures)
          (added_indexed rows c.self.inside.by_guid.keys c.self.inside.by_place.keys (meant_record c.args.added) i.0 fits c.guid_key.ensures.long c.guid_key.ensures.octets),
      omega (arith, space, l, k, room),
      omega (arith, p, a),
      omega (arith, q, b),
      subst (λ (ms : List MapRecord). AreNamesOf c.add_each.new.self.named (instances_of ms)) (sym (ap (map meant_record) c.push_reserved.ensures.items ∙ mapped_push c.self.inside.records.items c.args.added))
          (names_added c.self.inside.names.named c.add_each.new.self.named rows (meant_record c.args.added) i.4 (rw c.as_slice.ensures at c.add_each.ensures.names)),
    )

pub add_each-requires-clause-only : goal.add_each-requires-clause-only
add_each-requires-clause-only c =
    let fits = subst (λ (v : TableValue). FitsBehind v.records (meant_record c.args.added)) (sym c.self.view_is) c.requires.fits in
    subst (λ (is : List InstRow). All (λ i. All (IsOnlyNaming i) c.self.inside.names.named) is) (sym c.as_slice.ensures)
    (names_new c.self.inside.names.named (map meant_record c.self.inside.records.items) c.args.added.instances c.known_facts.ensures c.self.invariant.4 fits.known)

pub add_each-requires-clause-agree : goal.add_each-requires-clause-agree
add_each-requires-clause-agree c = subst (λ (is : List InstRow). AllPairs AgreesOn is) (sym c.as_slice.ensures) c.requires.fits.earlier
