use Rattle.map_rows.proofs.Common.{option_map, bytes_eq, ◌∙◌, Some, find, ap, sym, NamedInstance, NamesValue}
use Rattle.map_rows.proofs.NameLemmas.{numbered, named_at, named_gap}
use Rattle.map_rows.proofs.names.InstanceNames.find.Goals as goal

pub returns-in-Ok : goal.returns-in-Ok
returns-in-Ok c =
    let there = rw (c.deref.ensures.value, c.id_number.ensures.number) at c.in-Ok.ensures.found in
    ap (λ (n : NamedInstance). Some n.row) c.index.ensures
    ∙ sym (ap (option_map (λ (n : NamedInstance). n.row)) (named_at c.self.inside.named.items c.args.id.0 c.in-Ok.place c.index.result.now (numbered _ c.self.invariant.0) c.id_number.ensures.long c.id_number.ensures.octets there))
    ∙ ap (λ (v : NamesValue). option_map (λ (n : NamedInstance). n.row) (find (λ (n : NamedInstance). bytes_eq n.row.id.0 c.args.id.0) v.named)) c.self.view_is

pub returns-in-Err : goal.returns-in-Err
returns-in-Err c =
    let gap = rw (c.deref.ensures.value, c.id_number.ensures.number) at c.in-Err.ensures.absent in
    sym (ap (option_map (λ (n : NamedInstance). n.row)) (named_gap c.self.inside.named.items c.args.id.0 c.in-Err.field-0 (numbered _ c.self.invariant.0) gap))
    ∙ ap (λ (v : NamesValue). option_map (λ (n : NamedInstance). n.row) (find (λ (n : NamedInstance). bytes_eq n.row.id.0 c.args.id.0) v.named)) c.self.view_is
