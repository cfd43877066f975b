use Rattle.map_rows.proofs.Common.{nat_lt, option_map, ◌∙◌, ℕ, List, filter, ap, sym, subst, MapRecord, OrderKey, meant_record, place_number, last_of, AreIndexed, TableValue}
use Rattle.map_rows.proofs.LookupLemmas.{last_here, last_elsewhere, last_none, last_there}
use Rattle.map_rows.proofs.table.Table.last_before.Goals as goal

pub returns-in_err-uid-clause-none : goal.returns-in_err-uid-clause-none
returns-in_err-uid-clause-none c =
    let keys = c.self.inside.by_place.keys in
    let are = subst (λ (rows : List MapRecord). AreIndexed rows c.self.inside.by_guid.keys keys) (ap (λ (v : TableValue). v.records) c.self.view_is) c.self.invariant.0 in
    rw c.from_residual.ensures
    (last_none c.args.self.now.records keys c.args.file c.args.offset are.by_place
    (sym c.in_err-uid.was ∙ c.last_below.ensures ∙ ap (λ (n : ℕ). option_map (λ (k : OrderKey). k.uid) (last_of (filter (λ (k : OrderKey). nat_lt k.number n) keys))) c.place_number.ensures))

pub returns-in_err-record : goal.returns-in_err-record
returns-in_err-record c =
    let keys = c.self.inside.by_place.keys in
    let are = subst (λ (rows : List MapRecord). AreIndexed rows c.self.inside.by_guid.keys keys) (ap (λ (v : TableValue). v.records) c.self.view_is) c.self.invariant.0 in
    absurd (last_there c.args.self.now.records keys (place_number c.args.file c.args.offset) c.in_ok-uid.uid are.kept.rising are.by_place c.known_facts.ensures
    (sym c.in_ok-uid.was ∙ c.last_below.ensures ∙ ap (λ (n : ℕ). option_map (λ (k : OrderKey). k.uid) (last_of (filter (λ (k : OrderKey). nat_lt k.number n) keys))) c.place_number.ensures)
    (sym (rw c.in_err-record.was at c.find.ensures)))

pub returns-then-record-file-clause-some : goal.returns-then-record-file-clause-some
returns-then-record-file-clause-some c =
    let keys = c.self.inside.by_place.keys in
    let are = subst (λ (rows : List MapRecord). AreIndexed rows c.self.inside.by_guid.keys keys) (ap (λ (v : TableValue). v.records) c.self.view_is) c.self.invariant.0 in
    let found = rw c.in_ok-record.was at c.find.ensures in
    (last_here c.args.self.now.records keys c.args.file c.args.offset c.in_ok-uid.uid (meant_record c.in_ok-record.record.now) are.kept are.by_place c.known_facts.ensures
    (sym c.in_ok-uid.was ∙ c.last_below.ensures ∙ ap (λ (n : ℕ). option_map (λ (k : OrderKey). k.uid) (last_of (filter (λ (k : OrderKey). nat_lt k.number n) keys))) c.place_number.ensures)
    (sym found) c.if-record-file.true)

pub returns-else-record-file-clause-none : goal.returns-else-record-file-clause-none
returns-else-record-file-clause-none c =
    let keys = c.self.inside.by_place.keys in
    let are = subst (λ (rows : List MapRecord). AreIndexed rows c.self.inside.by_guid.keys keys) (ap (λ (v : TableValue). v.records) c.self.view_is) c.self.invariant.0 in
    let found = rw c.in_ok-record.was at c.find.ensures in
    (last_elsewhere c.args.self.now.records keys c.args.file c.args.offset c.in_ok-uid.uid (meant_record c.in_ok-record.record.now) are.kept are.by_place c.known_facts.ensures c.requires
    (sym c.in_ok-uid.was ∙ c.last_below.ensures ∙ ap (λ (n : ℕ). option_map (λ (k : OrderKey). k.uid) (last_of (filter (λ (k : OrderKey). nat_lt k.number n) keys))) c.place_number.ensures)
    (sym found) c.if-record-file.false)
