use Rattle.store_core.proofs.Common.{◌+◌, List, arith, refl, slice_index_or, subst, sym}
use Rattle.mdbox_base.specs.declared.entries.MapCount.{MapCount}
use Rattle.store_core.proofs.AmountsLemmas.{Counting, counting_begins, counting_ends, counting_goes_on, counting_has_room}
use Rattle.store_core.proofs.store.deleting.amounts_of.Goals as goal

pub loop-uid-init : goal.loop-uid-init
loop-uid-init c = subst (λ (cs : List MapCount). Counting c.args.uids.now 0 cs) (sym c.new-amounts.ensures.items) (counting_begins c.args.uids.now)

pub note_uid-requires : goal.note_uid-requires
note_uid-requires c = counting_has_room c.args.uids.now c.loop-uid.uid-index 0 (slice_index_or c.args.uids.now c.loop-uid.uid-index 0) c.loop-uid.amounts.items c.requires.few c.loop-uid-test.true refl c.loop-uid.invariant

pub loop-uid-preserved : goal.loop-uid-preserved
loop-uid-preserved c =
    subst (λ (cs : List MapCount). Counting c.args.uids.now (c.loop-uid.uid-index + 1) cs) (sym c.in_ok-note_uid.ensures)
    (counting_goes_on c.args.uids.now c.loop-uid.uid-index 0 (slice_index_or c.args.uids.now c.loop-uid.uid-index 0) c.loop-uid.amounts.items c.requires.sorted c.loop-uid-test.true refl c.loop-uid.invariant)

pub returns : goal.returns
returns c = counting_ends c.args.uids.now c.loop-uid.uid-index c.loop-uid.amounts.items (omega (arith, c.loop-uid-test.false)) c.loop-uid.invariant
