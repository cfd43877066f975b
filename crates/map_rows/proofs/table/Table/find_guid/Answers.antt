use Rattle.map_rows.proofs.Common.{option_map, ◌==◌, ◌∙◌, ℕ, List, find, ap, sym, subst, MapRecord, OrderKey, AreIndexed, TableValue}
use Rattle.map_rows.proofs.LookupLemmas.{guid_found, guid_missing}
use Rattle.map_rows.proofs.table.Table.find_guid.Goals as goal

pub returns : goal.returns
returns c =
    let keys = c.self.inside.by_guid.keys in
    let are = subst (λ (rows : List MapRecord). AreIndexed rows keys c.self.inside.by_place.keys) (ap (λ (v : TableValue). v.records) c.self.view_is) c.self.invariant.0 in
    c.find.ensures
    ∙ guid_found c.args.self.now.records keys c.args.guid.0 c.in_ok-uid.uid are.kept are.by_guid c.known_facts.ensures c.guid_number.ensures.long c.guid_number.ensures.octets
    (sym c.in_ok-uid.was ∙ c.uid_of.ensures ∙ ap (λ (n : ℕ). option_map (λ (k : OrderKey). k.uid) (find (λ (k : OrderKey). k.number == n) keys)) c.guid_number.ensures.number)

pub returns-in_err-uid : goal.returns-in_err-uid
returns-in_err-uid c =
    let keys = c.self.inside.by_guid.keys in
    let are = subst (λ (rows : List MapRecord). AreIndexed rows keys c.self.inside.by_place.keys) (ap (λ (v : TableValue). v.records) c.self.view_is) c.self.invariant.0 in
    rw c.from_residual.ensures
    (sym (guid_missing c.args.self.now.records keys c.args.guid.0 are.kept are.by_guid c.guid_number.ensures.long c.guid_number.ensures.octets
    (sym c.in_err-uid.was ∙ c.uid_of.ensures ∙ ap (λ (n : ℕ). option_map (λ (k : OrderKey). k.uid) (find (λ (k : OrderKey). k.number == n) keys)) c.guid_number.ensures.number)))
