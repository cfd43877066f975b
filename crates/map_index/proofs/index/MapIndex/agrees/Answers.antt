use Rattle.map_index.proofs.Common.{subst, All, ◌↔◌, MapRecord, AgreesOn, MapIndexValue}
use Rattle.std.proofs.Common.{IsTrue}
use Rattle.map_index.proofs.index.MapIndex.agrees.Goals as goal

pub returns : goal.returns
returns c = subst (λ (v : MapIndexValue). IsTrue c.agrees.result ↔ All (λ (row : MapRecord). All (λ i. All (AgreesOn i) row.instances) c.args.instances.now) v.meaning.records) c.self.view_is c.agrees.ensures
