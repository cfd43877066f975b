use Rattle.std.proofs.Common.{◌≡◌, ◌≤◌, [], length, sym, ◌∙◌, append-nil, rules}
use Rattle.log_records.proofs.ListItemLemmas.{none_of, some_of, list_over, ends}
use Rattle.log_records.proofs.lists.only_list.Goals as goal

pub returns-in_default : goal.returns-in_default
returns-in_default g c = λ xs lx all is. none_of _ _ _ c.in_default.is c.in_ok-items.ensures xs [] lx all (is ∙ sym (append-nil _))

pub returns-then-not-is_empty : goal.returns-then-not-is_empty
returns-then-not-is_empty g c =
    let h = some_of _ _ _ _ c.in-Some.is c.in_ok-items.ensures in
    let some : 1 ≤ length c.in-Some.rest.now = search rules in
    list_over g.T.Item.item_text g.T.Item.in_range g.T.Item.SIZE g.met.T.Item.sized c.args.text.now c.in-Some.items c.in-Some.rest.now h.1 h.2 h.0 some

pub returns : goal.returns
returns g c =
    let h = some_of _ _ _ _ c.in-Some.is c.in_ok-items.ensures in
    let none : length c.in-Some.rest.now ≡ 0 = search rules in
    (ends _ _ c.in-Some.rest.now h.0 none, h.1, h.2)
