use Rattle.std.proofs.Common.{◌≤◌, ◌+◌, sym, ◌∙◌, ap, arith, option_map}
use Rattle.std.specs.Option.{option_copied}
use Rattle.box_index.specs.Row.{row_of}
use Rattle.box_snapshot.proofs.BoxEntryLemmas.{last_row}
use Rattle.box_snapshot.proofs.box_entries.next_behind.Goals as goal

pub overflow_add-result : goal.overflow_add-result
overflow_add-result c =
    let m = c.args.index.now.meaning in
    let end = c.known_facts.ensures.last in
    let at = last_row 1 1 m.next c.in-Some.last m.rows (row_of c.unwrap.result.now) c.known_facts.ensures.rise (let a = c.in-Some.ensures.0 in let b = c.in-Some.ensures.1 in let n = c.length.ensures in omega (arith, a, b, n))
    (sym (ap (λ o. option_map row_of (option_copied o)) c.unwrap.ensures) ∙ c.row_at.ensures) in
    let below : c.unwrap.result.now.uid.0 + 1 ≤ m.next = at.1 in
    omega (arith, below, end)

pub returns-in-Some : goal.returns-in-Some
returns-in-Some c =
    let m = c.args.index.now.meaning in
    (last_row 1 1 m.next c.in-Some.last m.rows (row_of c.unwrap.result.now) c.known_facts.ensures.rise (let a = c.in-Some.ensures.0 in let b = c.in-Some.ensures.1 in let n = c.length.ensures in omega (arith, a, b, n))
    (sym (ap (λ o. option_map row_of (option_copied o)) c.unwrap.ensures) ∙ c.row_at.ensures)).0
