use Rattle.std.proofs.Common.{take, refl, sym, subst, arith}
use Rattle.folder_model.specs.System.{System}
use Rattle.folder_mem.specs.Notes.{system_after}
use Rattle.folder_mem.specs.Seen.{IsSeenPath}
use Rattle.folder_mem.proofs.NoteLemmas.{system-none, system-next}
use Rattle.folder_mem.proofs.seen.seen_path.Goals as goal

pub loop-change-init : goal.loop-change-init
loop-change-init c =
    let F : System → Type 0 = IsSeenPath c.args.path.now (record { thing = c.first_thing.result; count = 0 }) in
    (omega arith, subst F (sym system-none) (record { count = refl; node = c.first_thing.ensures }))

pub loop-change-preserved : goal.loop-change-preserved
loop-change-preserved c =
    let i = c.loop-change.change-index in
    let before = system_after (take i c.args.changes.now) in
    let inv = c.loop-change.invariant in
    let more = c.follow.ensures.count in
    let F : System → Type 0 = IsSeenPath c.args.path.now c.follow.new.self in (
      omega (arith, inv.0, more),
      subst F (sym (system-next c.args.changes.now i c.change-item.result c.loop-change-test.true c.change-item.is)) (c.follow.ensures.seen before inv.1),
    )
