use Rattle.map_rows.proofs.Common.{bytes_eq, ◌≡◌, map, ap, ◌∙◌, rules, meant_record, TableValue}
use Rattle.map_rows.proofs.NameLemmas.{file_in_records, no_file_in_records}
use Rattle.map_rows.proofs.table.Table.names_file.Goals as goal

pub returns-in-Some : goal.returns-in-Some
returns-in-Some c =
    let same : c.eq.result ≡ bytes_eq c.in-Some.row.now.hash.0 c.args.hash.0 = search rules in
    same ∙ file_in_records c.self.inside.names.named (map meant_record c.self.inside.records.items) c.args.self.now.records c.args.hash.0 c.args.id.0 c.in-Some.row.now (ap (λ (v : TableValue). v.records) c.self.view_is) c.known_facts.ensures c.self.invariant.4 c.in-Some.ensures

pub returns-in-None : goal.returns-in-None
returns-in-None c = no_file_in_records c.self.inside.names.named (map meant_record c.self.inside.records.items) c.args.self.now.records c.args.hash.0 c.args.id.0 (ap (λ (v : TableValue). v.records) c.self.view_is) c.self.invariant.4 c.in-None.ensures
