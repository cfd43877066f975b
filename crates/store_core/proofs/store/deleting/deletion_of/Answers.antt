use Rattle.store_core.proofs.Common.{List, LogRow, ℕ, map, refl, subst, sym}
use Rattle.mdbox_base.specs.declared.entries.MapCount.{MapCount}
use Rattle.store_core.specs.Deleting.{AreAmountsOf}
use Rattle.store_core.proofs.AmountsLemmas.{few_sorted, sorted_are}
use Rattle.store_core.proofs.store.deleting.deletion_of.Goals as goal

pub amounts_of-requires-clause-few : goal.amounts_of-requires-clause-few
amounts_of-requires-clause-few c = few_sorted c.args.index.now.meaning.rows c.in_ok-uids.uids.items c.deref.result.now c.in_ok-uids.ensures.same c.deref.ensures.value c.requires.few

pub returns : goal.returns
returns c = (
  c.of.result,
  refl,
  subst (λ (cs : List MapCount). AreAmountsOf (map (λ (row : LogRow). row.map_uid) c.args.index.now.meaning.rows) cs) (sym c.of.ensures)
      (sorted_are (map (λ (row : LogRow). row.map_uid) c.args.index.now.meaning.rows) c.in_ok-uids.uids.items c.in_ok-amounts.amounts.items c.in_ok-uids.ensures.same (subst (λ (us : List ℕ). AreAmountsOf us c.in_ok-amounts.amounts.items) c.deref.ensures.value c.in_ok-amounts.ensures)),
)
