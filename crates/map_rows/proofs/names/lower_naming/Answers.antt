use Rattle.map_rows.proofs.Common.{◌≤◌, ◌∙◌, ap, sym, subst, refl, arith, NamedInstance}
use Rattle.map_rows.proofs.NameLemmas.{named_there, row_there, one_less}
use Rattle.map_rows.proofs.names.lower_naming.Goals as goal

pub unreachable-requires : goal.unreachable-requires
unreachable-requires c =
    let gap = rw (c.deref.ensures.value, c.id_number.ensures.number) at c.in-Err.ensures.absent in
    row_there c.args.named.now.items c.args.row.now c.in-Err.field-0 c.requires.are c.requires.there gap

pub overflow_sub-namings : goal.overflow_sub-namings
overflow_sub-namings c =
    let at = rw (c.deref.ensures.value, c.id_number.ensures.number) at c.in-Ok.ensures.found in
    let there = named_there c.args.named.now.items c.args.row.now c.in-Ok.place c.index-old.result.now c.requires.are c.requires.there at in
    subst (λ (n : NamedInstance). 1 ≤ n.namings) (sym c.index-old.ensures) there.1

pub returns-clause-names : goal.returns-clause-names
returns-clause-names c =
    let at = rw (c.deref.ensures.value, c.id_number.ensures.number) at c.in-Ok.ensures.found in
    let there = named_there c.args.named.now.items c.args.row.now c.in-Ok.place c.index-old.result.now c.requires.are c.requires.there at in
    let same = ap (λ (n : NamedInstance). n.row) c.index-old.ensures ∙ there.0 in
    let some : 1 ≤ c.index-old.result.now.namings = subst (λ (n : NamedInstance). 1 ≤ n.namings) (sym c.index-old.ensures) there.1 in
    λ p. one_less p c.args.named.now.items c.in-Ok.place c.index-old.result.now _ c.args.row.now at.within c.index-old.ensures same refl (omega (arith, some))
