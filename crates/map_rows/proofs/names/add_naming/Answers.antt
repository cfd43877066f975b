use Rattle.map_rows.proofs.Common.{◌∙◌, List, ap, sym, subst, refl, arith, NamedInstance, AreNamings, namings_of}
use Rattle.map_rows.proofs.NameLemmas.{namings_within, same_at, one_more, first_naming, insert_are}
use Rattle.map_rows.proofs.names.add_naming.Goals as goal

pub overflow_add-namings : goal.overflow_add-namings
overflow_add-namings c =
    let there = rw (c.deref.ensures.value, c.id_number-number.ensures.number) at c.in-Ok.ensures.found in
    let h = namings_within c.args.named.now.items c.in-Ok.place c.index-old.result.now there.within c.index-old.ensures in
    let k = c.requires.count in
    omega (arith, h, k)

pub returns-in-Ok-clause-names : goal.returns-in-Ok-clause-names
returns-in-Ok-clause-names c =
    let there = rw (c.deref.ensures.value, c.id_number-number.ensures.number) at c.in-Ok.ensures.found in
    let same = same_at c.args.named.now.items c.args.row c.in-Ok.place c.index-old.result.now c.requires.are c.requires.only c.id_number-number.ensures.long c.id_number-number.ensures.octets there c.index-old.ensures in
    λ p. one_more p c.args.named.now.items c.in-Ok.place c.index-old.result.now _ c.args.row there.within c.index-old.ensures same refl refl

pub returns-in-Err-clause-are : goal.returns-in-Err-clause-are
returns-in-Err-clause-are c =
    let gap = rw c.deref.ensures.value at c.in-Err.ensures.absent in
    subst AreNamings (sym c.insert_naming.ensures.items)
    (insert_are c.args.named.now.items c.in-Err.place _ c.requires.are gap (record { is = record { number = c.id_number-number.ensures.number; long = c.id_number-number.ensures.long; octets = c.id_number-number.ensures.octets }; some = omega arith }))

pub returns-in-Err-clause-names : goal.returns-in-Err-clause-names
returns-in-Err-clause-names c = λ p. ap (λ (named : List NamedInstance). namings_of p named) c.insert_naming.ensures.items ∙ first_naming p c.args.named.now.items c.in-Err.place _ refl
