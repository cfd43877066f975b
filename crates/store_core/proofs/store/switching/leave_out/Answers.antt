use Rattle.store_core.proofs.Common.{◌<◌, ◌+◌, ℕ, length, slice_set, sym, ◌∙◌, subst, arith}
use Rattle.store_core.proofs.LeaveOutLemmas.{IsLeftOut, left_begins, left_gone, left_kept, left_ends}
use Rattle.store_core.proofs.store.switching.leave_out.Goals.{then-not-is_dropped, else-not-is_dropped}
use Rattle.store_core.proofs.store.switching.leave_out.Goals as goal

pub loop-place-init : goal.loop-place-init
loop-place-init c = left_begins c.args.dropped.now c.args.index.now.meaning.records c.args.dues.now.items

pub index_mut-requires : goal.index_mut-requires
index_mut-requires c =
    let bound = c.loop-place.invariant.bound in
    let size = c.loop-place.invariant.size in
    omega (arith, bound, size)

pub loop-place-preserved : goal.loop-place-preserved
loop-place-preserved c =
    let within : c.loop-place.place < length c.args.index.now.meaning.records = omega arith in
    elim c.if-not-is_dropped.branch [
      | then-not-is_dropped w ↦
          subst (λ v. IsLeftOut c.args.dropped.now c.args.index.now.meaning.records c.args.dues.now.items v.items c.if-not-is_dropped.kept (c.loop-place.place + 1)) (sym w.dues-is)
          (subst (λ (k : ℕ). IsLeftOut c.args.dropped.now c.args.index.now.meaning.records c.args.dues.now.items (slice_set c.loop-place.dues.items c.loop-place.kept w.index.result.now) k (c.loop-place.place + 1)) (sym w.kept-is)
          (left_kept c.args.dropped.now c.args.index.now.meaning.records c.args.dues.now.items c.loop-place.dues.items c.loop-place.kept c.loop-place.place w.index.result.now within c.requires.size (sym w.if-not-is_dropped.true ∙ c.is_dropped.ensures) w.index.ensures c.loop-place.invariant))
      | else-not-is_dropped w ↦
          subst (λ v. IsLeftOut c.args.dropped.now c.args.index.now.meaning.records c.args.dues.now.items v.items c.if-not-is_dropped.kept (c.loop-place.place + 1)) (sym w.dues-is)
          (subst (λ (k : ℕ). IsLeftOut c.args.dropped.now c.args.index.now.meaning.records c.args.dues.now.items c.loop-place.dues.items k (c.loop-place.place + 1)) (sym w.kept-is)
          (left_gone c.args.dropped.now c.args.index.now.meaning.records c.args.dues.now.items c.loop-place.dues.items c.loop-place.kept c.loop-place.place within c.requires.size (sym w.if-not-is_dropped.false ∙ c.is_dropped.ensures) c.loop-place.invariant))
    ]

pub returns : goal.returns
returns c = c.truncate.ensures.items ∙ left_ends c.args.dropped.now c.args.index.now.meaning.records c.args.dues.now.items c.loop-place.dues.items c.loop-place.kept c.loop-place.place (omega arith) c.loop-place.invariant
