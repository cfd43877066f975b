use Rattle.map_rows.proofs.Common.{nat_le, option_map, ◌∙◌, ℕ, List, find, ap, sym, subst, MapRecord, OrderKey, meant_record, place_number, AreIndexed, TableValue}
use Rattle.map_rows.proofs.LookupLemmas.{first_here, first_elsewhere, first_none, row_there}
use Rattle.map_rows.proofs.table.Table.first_in_file.Goals as goal

pub returns-in_err-uid : goal.returns-in_err-uid
returns-in_err-uid c =
    let keys = c.self.inside.by_place.keys in
    let are = subst (λ (rows : List MapRecord). AreIndexed rows c.self.inside.by_guid.keys keys) (ap (λ (v : TableValue). v.records) c.self.view_is) c.self.invariant.0 in
    rw c.from_residual.ensures
    (sym (first_none c.args.self.now.records keys c.args.file.0 c.args.from are.by_place
    (sym c.in_err-uid.was ∙ c.first_from.ensures ∙ ap (λ (n : ℕ). option_map (λ (k : OrderKey). k.uid) (find (λ (k : OrderKey). nat_le n k.number) keys)) (c.place_number.ensures ∙ ap (λ (n : ℕ). place_number c.args.file.0 n) c.from.ensures))))

pub returns-in_err-record : goal.returns-in_err-record
returns-in_err-record c =
    let keys = c.self.inside.by_place.keys in
    let are = subst (λ (rows : List MapRecord). AreIndexed rows c.self.inside.by_guid.keys keys) (ap (λ (v : TableValue). v.records) c.self.view_is) c.self.invariant.0 in
    absurd (row_there c.args.self.now.records keys (λ (k : OrderKey). nat_le (place_number c.args.file.0 c.args.from) k.number) c.in_ok-uid.uid are.kept.rising are.by_place
    (sym c.in_ok-uid.was ∙ c.first_from.ensures ∙ ap (λ (n : ℕ). option_map (λ (k : OrderKey). k.uid) (find (λ (k : OrderKey). nat_le n k.number) keys)) (c.place_number.ensures ∙ ap (λ (n : ℕ). place_number c.args.file.0 n) c.from.ensures))
    (sym (rw c.in_err-record.was at c.find.ensures)))

pub returns-then-record-file : goal.returns-then-record-file
returns-then-record-file c =
    let keys = c.self.inside.by_place.keys in
    let are = subst (λ (rows : List MapRecord). AreIndexed rows c.self.inside.by_guid.keys keys) (ap (λ (v : TableValue). v.records) c.self.view_is) c.self.invariant.0 in
    let found = rw c.in_ok-record.was at c.find.ensures in
    sym (first_here c.args.self.now.records keys c.args.file.0 c.args.from c.in_ok-uid.uid (meant_record c.in_ok-record.record.now) are.kept are.by_place c.known_facts.ensures
    (sym c.in_ok-uid.was ∙ c.first_from.ensures ∙ ap (λ (n : ℕ). option_map (λ (k : OrderKey). k.uid) (find (λ (k : OrderKey). nat_le n k.number) keys)) (c.place_number.ensures ∙ ap (λ (n : ℕ). place_number c.args.file.0 n) c.from.ensures))
    (sym found) c.if-record-file.true)

pub returns-else-record-file : goal.returns-else-record-file
returns-else-record-file c =
    let keys = c.self.inside.by_place.keys in
    let are = subst (λ (rows : List MapRecord). AreIndexed rows c.self.inside.by_guid.keys keys) (ap (λ (v : TableValue). v.records) c.self.view_is) c.self.invariant.0 in
    let found = rw c.in_ok-record.was at c.find.ensures in
    sym (first_elsewhere c.args.self.now.records keys c.args.file.0 c.args.from c.in_ok-uid.uid (meant_record c.in_ok-record.record.now) are.kept are.by_place c.known_facts.ensures
    (sym c.in_ok-uid.was ∙ c.first_from.ensures ∙ ap (λ (n : ℕ). option_map (λ (k : OrderKey). k.uid) (find (λ (k : OrderKey). nat_le n k.number) keys)) (c.place_number.ensures ∙ ap (λ (n : ℕ). place_number c.args.file.0 n) c.from.ensures))
    (sym found) c.if-record-file.false)
