use Rattle.purge_task.proofs.Common.{◌+◌, ◌∙◌, length, take, refl, subst, arith, store_sound}
use Rattle.purge_task.proofs.RegionLemmas.{IsCopying, begun_now, copying_begins, copying_fails, copying_more, counts_same, ends_now, piece_long, row_ends, same_end}
use Rattle.purge_task.proofs.copying.copy_region.Goals as goal

pub loop-done-init : goal.loop-done-init
loop-done-init g c = copying_begins c.args.row c.args.target.0 c.requires.fits.0 c.args.store.now (g.D.Disk.history c.args.store.now.disk) (g.D.Disk.faults c.args.store.now.disk) c.facts.ensures.store c.facts.ensures.files c.requires.running c.requires.row c.requires.fits.1

pub overflow_add-row : goal.overflow_add-row
overflow_add-row g c =
    let ends = (row_ends c.args.store.now.map c.args.row (store_sound _ _ c.facts.ensures.store) c.requires.row).1 in
    let part = c.loop-done.invariant.part in
    omega (arith, ends, part)

pub copy_piece-requires-clause-begun : goal.copy_piece-requires-clause-begun
copy_piece-requires-clause-begun g c = (c.requires.begun.0, begun_now c.args.row c.args.target.0 c.loop-done.done c.requires.begun.0 c.args.store.now c.loop-done.store _ _ _ _ c.loop-done.invariant c.requires.begun.1)

pub copy_piece-requires-clause-fits : goal.copy_piece-requires-clause-fits
copy_piece-requires-clause-fits g c =
    let so = c.loop-done.invariant in
    let long = piece_long c.loop-done.block c.args.row.size c.loop-done.done c.min-count.result (c.loop-done.auto.block ∙ c.requires.block) c.min-count.ensures in
    let few = long.1 so.part in
    let end = same_end c.args.row c.args.target.0 c.loop-done.done c.requires.fits.0 c.args.store.now c.loop-done.store _ _ _ _ so c.requires.fits.1 in
    let fits = c.requires.fits.2 in
    (so.end + c.loop-done.done, ends_now c.args.row c.args.target.0 c.loop-done.done c.args.store.now c.loop-done.store _ _ _ _ so, omega (arith, few, end, fits))

pub returns-in_err-copy_piece-clause-any_moment : goal.returns-in_err-copy_piece-clause-any_moment
returns-in_err-copy_piece-clause-any_moment g c =
    let e = c.in_err-copy_piece.ensures in
    (copying_fails c.args.row c.args.target.0 c.loop-done.done c.in_err-copy_piece.field-0.0 c.args.store.now c.loop-done.store c.copy_piece.new.store _ _ _ _ _ (g.met.D.Disk.reads_image c.loop-done.store.disk) c.requires.running c.loop-done.invariant (record { any_moment = e.any_moment; mail = e.mail_stays; settled = e.settled; others = e.others; stored = e.stored; grows = e.grows }) e.refused).any_moment

pub returns-in_err-copy_piece-clause-mail_stays : goal.returns-in_err-copy_piece-clause-mail_stays
returns-in_err-copy_piece-clause-mail_stays g c =
    let e = c.in_err-copy_piece.ensures in
    (copying_fails c.args.row c.args.target.0 c.loop-done.done c.in_err-copy_piece.field-0.0 c.args.store.now c.loop-done.store c.copy_piece.new.store _ _ _ _ _ (g.met.D.Disk.reads_image c.loop-done.store.disk) c.requires.running c.loop-done.invariant (record { any_moment = e.any_moment; mail = e.mail_stays; settled = e.settled; others = e.others; stored = e.stored; grows = e.grows }) e.refused).mail

pub returns-in_err-copy_piece-clause-settled : goal.returns-in_err-copy_piece-clause-settled
returns-in_err-copy_piece-clause-settled g c = λ runs lists settled. c.in_err-copy_piece.ensures.settled runs lists (c.loop-done.invariant.settled lists settled)

pub returns-in_err-copy_piece-clause-stored : goal.returns-in_err-copy_piece-clause-stored
returns-in_err-copy_piece-clause-stored g c =
    let e = c.in_err-copy_piece.ensures in
    (copying_fails c.args.row c.args.target.0 c.loop-done.done c.in_err-copy_piece.field-0.0 c.args.store.now c.loop-done.store c.copy_piece.new.store _ _ _ _ _ (g.met.D.Disk.reads_image c.loop-done.store.disk) c.requires.running c.loop-done.invariant (record { any_moment = e.any_moment; mail = e.mail_stays; settled = e.settled; others = e.others; stored = e.stored; grows = e.grows }) e.refused).stored

pub loop-done-preserved : goal.loop-done-preserved
loop-done-preserved g c =
    let so = c.loop-done.invariant in
    let e = c.in_ok-copy_piece.ensures in
    let long = piece_long c.loop-done.block c.args.row.size c.loop-done.done c.min-count.result (c.loop-done.auto.block ∙ c.requires.block) c.min-count.ensures in
    let more = copying_more c.args.row c.args.target.0 c.loop-done.done (length (take c.min-count.result c.loop-done.block)) c.args.store.now c.loop-done.store c.copy_piece.new.store _ _ _ _ _ _ (g.met.D.Disk.reads_image c.loop-done.store.disk) c.requires.other (long.1 so.part) so
    (record { any_moment = e.any_moment; mail = e.mail_stays; settled = e.settled; others = e.others; stored = e.stored; grows = e.grows }) e.copied e.ok (counts_same _ c.in_ok-copy_piece.field-0 _ _ refl e.fault) in
    subst (λ n. IsCopying c.args.row c.args.target.0 (c.loop-done.done + n) c.args.store.now c.copy_piece.new.store (g.D.Disk.history c.args.store.now.disk) (g.D.Disk.history c.copy_piece.new.store.disk) (g.D.Disk.faults c.args.store.now.disk) (g.D.Disk.faults c.copy_piece.new.store.disk)) long.0 more
