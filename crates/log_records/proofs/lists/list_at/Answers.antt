use Rattle.std.proofs.Common.{◌<◌, ◌^◌, arith, rules}
use Rattle.std.proofs.lemmas.Result.{IfOk-weaker}
use Rattle.log_records.proofs.ListItemLemmas.{match_weaker, list_short, list_whole}
use Rattle.log_records.proofs.lists.list_at.Goals as goal

pub returns : goal.returns
returns g c =
    let fits : c.in-Some.count < 2 ^ 32 = search rules in
    IfOk-weaker c.items_at.result _ _
    (λ found h. match_weaker found _ _ _ _
    (λ short. list_short g.T.Item.item_text g.T.Item.in_range g.T.Item.SIZE g.met.T.Item.sized c.args.text.now c.in-Some.count c.in-Some.rest.now fits c.in-Some.ensures.0 short)
    (λ x i. (list_whole g.T.Item.item_text c.args.text.now c.in-Some.count c.in-Some.rest.now x.1.now x.0 c.in-Some.ensures.0 i.0 i.1, omega (arith, fits, i.1), i.2))
    h)
    c.items_at.ensures
