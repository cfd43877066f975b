use Rattle.store_core.proofs.Common.{◌-◌, ℕ, List, sym, ◌∙◌, ap, MapUid, change_beside}
use Rattle.std.proofs.lemmas.List.Sums.{fold_more}
use Rattle.store_core.proofs.DueChangeLemmas.{length_after}
use Rattle.store_core.proofs.due.lower_dues.Goals as goal

pub loop-uid-preserved : goal.loop-uid-preserved
loop-uid-preserved c = record {
  so_far = c.lower_due.ensures ∙ ap (change_beside _ (λ n. n - 1) c.args.map.now.meaning.records) c.loop-uid.invariant.so_far
      ∙ sym (fold_more (λ (numbers : List ℕ) (uid : MapUid). change_beside uid.0 (λ n. n - 1) c.args.map.now.meaning.records numbers) c.args.dues.now.items c.args.uids.now c.loop-uid.uid-index _ c.loop-uid-test.true);
  size = length_after _ (λ n. n - 1) c.args.map.now.meaning.records c.loop-uid.dues.items c.lower_due.new.dues.items c.lower_due.ensures c.loop-uid.invariant.size;
}
