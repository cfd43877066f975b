use Rattle.std.proofs.Common.{◌≡◌, Some, sym, subst}
use Rattle.mdbox_base.specs.declared.ids.BoxNo.{BoxNo}
use Rattle.store_core.specs.Value.{list_numbered}
use Rattle.box_snapshot.proofs.BoxMeantLemmas.{counts_stay}
use Rattle.box_snapshot.proofs.box_log.known_counts.Goals as goal

pub returns-clause-counts : goal.returns-clause-counts
returns-clause-counts g c =
    counts_stay _ c.args.store.now c.args.draft.now c.facts.ensures.store
    (subst (λ (n : BoxNo). list_numbered c.args.store.now n.0 ≡ Some c.args.draft.now.index.meaning) (sym c.requires.number) c.requires.means) c.counts.ensures
