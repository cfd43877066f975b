use Rattle.std.proofs.Common.{List, All, length, map, sym, ◌∙◌, ap, subst}
use Rattle.std.specs.Prelude.{AllPairs}
use Rattle.std.proofs.lemmas.List.Filters.{dedup_is}
use Rattle.std.proofs.lemmas.Result.{IfOk-weaker}
use Rattle.mdbox_base.specs.declared.entries.InstRow.{InstRow}
use Rattle.mdbox_base.specs.declared.ids.StoreId.{StoreId}
use Rattle.sis_store.specs.Instances.{IsIdBefore, HasDrawnNumber, instance_found}
use Rattle.store_instances.proofs.FoundRowLemmas.{sorted_rows, rows_drawn, rows_found, row_as}
use Rattle.store_instances.proofs.find.find_instances.Goals as goal

pub of-requires-2-clause-rising : goal.of-requires-2-clause-rising
of-requires-2-clause-rising c =
    subst (AllPairs (λ (a b : InstRow). IsIdBefore a.id b.id)) (sym (row_as c.dedup.new.self.items c.deref.result.now c.in_ok-rows.rows.items c.of.result c.in_ok-rows.ensures c.deref.ensures.value c.of.ensures))
    (sorted_rows c.args.map.now.meaning c.in_ok-named.named.items c.sort_unstable.new.self.items c.dedup.new.self.items c.requires.sound c.in_ok-named.ensures c.sort_unstable.ensures.permutation c.sort_unstable.ensures.sorted (dedup_is _ _ _ c.dedup.ensures.filtered)).rise

pub of-requires-2-clause-drawn : goal.of-requires-2-clause-drawn
of-requires-2-clause-drawn c =
    let rows = sorted_rows c.args.map.now.meaning c.in_ok-named.named.items c.sort_unstable.new.self.items c.dedup.new.self.items c.requires.sound c.in_ok-named.ensures c.sort_unstable.ensures.permutation c.sort_unstable.ensures.sorted (dedup_is _ _ _ c.dedup.ensures.filtered) in
    subst (All (λ (row : InstRow). HasDrawnNumber c.sized.result c.highest_of-highest.result row.id)) (sym (row_as c.dedup.new.self.items c.deref.result.now c.in_ok-rows.rows.items c.of.result c.in_ok-rows.ensures c.deref.ensures.value c.of.ensures))
    (rows_drawn c.args.map.now.meaning c.sized.result c.dedup.new.self.items c.highest_of-highest.result c.requires.sound rows (c.requires.id ∙ sym (ap (λ (s : StoreId). s.0) c.sized.ensures.same)) (ap (λ (s : StoreId). length s.0) c.sized.ensures.same ∙ c.sized.ensures.size) c.highest_of-highest.ensures.same)

pub returns : goal.returns
returns c =
    let rows = sorted_rows c.args.map.now.meaning c.in_ok-named.named.items c.sort_unstable.new.self.items c.dedup.new.self.items c.requires.sound c.in_ok-named.ensures c.sort_unstable.ensures.permutation c.sort_unstable.ensures.sorted (dedup_is _ _ _ c.dedup.ensures.filtered) in
    IfOk-weaker c.of-2.result _ _
    (λ made is. rows_found c.args.map.now.meaning c.sized.result c.dedup.new.self.items c.highest_of-highest.result made rows (c.requires.id ∙ sym (ap (λ (s : StoreId). s.0) c.sized.ensures.same)) c.highest_of-highest.ensures.same
    (is ∙ ap (λ (known : List InstRow). record { known = map instance_found known; store = c.sized.result; highest = c.highest_of-highest.result }) (row_as c.dedup.new.self.items c.deref.result.now c.in_ok-rows.rows.items c.of.result c.in_ok-rows.ensures c.deref.ensures.value c.of.ensures))) c.of-2.ensures
