use Rattle.map_rows.proofs.Common.{IsTrue, ◌↔◌, map, subst, refl, AgreesOn, meant_record, instances_of, TableValue}
use Rattle.std.specs.Prelude.{All}
use Rattle.map_rows.proofs.NameLemmas.{agrees_some, agrees_none}
use Rattle.map_rows.proofs.table.Table.agrees_on.Goals as goal

pub returns-in-Some : goal.returns-in-Some
returns-in-Some c =
    subst (λ (v : TableValue). IsTrue c.agree_on.result ↔ All (AgreesOn c.args.instance.now) (instances_of v.records)) c.self.view_is
    (agrees_some c.self.inside.names.named (instances_of (map meant_record c.self.inside.records.items)) c.args.instance.now c.in-Some.row.now c.agree_on.result c.known_facts.ensures c.self.invariant.4 c.in-Some.ensures c.agree_on.ensures)

pub returns-in-None : goal.returns-in-None
returns-in-None c =
    subst (λ (v : TableValue). IsTrue _ ↔ All (AgreesOn c.args.instance.now) (instances_of v.records)) c.self.view_is
    ((λ _. agrees_none c.self.inside.names.named (instances_of (map meant_record c.self.inside.records.items)) c.args.instance.now c.self.invariant.4 c.in-None.ensures), λ _. refl)
