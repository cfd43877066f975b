use Rattle.std.proofs.Common.{◌∙◌, ap, length, refl, sym}
use Rattle.disk_model.proofs.BetweenLemmas.{between-both, between-if, between-map, same-between}
use Rattle.disk_model.proofs.IdleLemmas.{idle-on, idle-then}
use Rattle.disk_model.specs.Disk.{IsIdle}
use Rattle.store_rebuild.specs.Planned.{IsPlanned}
use Rattle.store_rebuild.specs.Rebuilding.{IsRebuilt}
use Rattle.store_rebuild.specs.Writing.{HasStoreOf, MailReadsSame, OthersReadSame}
use Rattle.store_rebuild.proofs.MakeLemmas.{err_idle, idle_leaves, idle_whole, leaves_behind, lost_whole, mail_of_others}
use Rattle.store_rebuild.proofs.ReportLemmas.{StoreAndOthers, rebuilt_of}
use Rattle.store_rebuild.proofs.make.make_again.Goals as goal

pub returns-in_err-check_lost-clause-any_moment : goal.returns-in_err-check_lost-clause-any_moment
returns-in_err-check_lost-clause-any_moment g c = idle_leaves _ _ c.in_err-check_lost.ensures.idle

pub returns-in_err-check_lost-clause-untouched : goal.returns-in_err-check_lost-clause-untouched
returns-in_err-check_lost-clause-untouched g c = idle_whole _ _ c.in_err-check_lost.ensures.idle

pub returns-in_err-rows-clause-any_moment : goal.returns-in_err-rows-clause-any_moment
returns-in_err-rows-clause-any_moment g c = idle_leaves _ _ (idle-then _ _ _ c.in_ok-check_lost.ensures.idle c.in_err-rows.ensures.idle)

pub returns-in_err-rows-clause-untouched : goal.returns-in_err-rows-clause-untouched
returns-in_err-rows-clause-untouched g c = lost_whole _ _ c.in_ok-check_lost.ensures.lost

pub returns-in_err-logs-clause-any_moment : goal.returns-in_err-logs-clause-any_moment
returns-in_err-logs-clause-any_moment g c = idle_leaves _ _ (idle-then _ _ _ c.in_ok-check_lost.ensures.idle c.in_ok-rows.ensures.idle)

pub returns-in_err-logs-clause-untouched : goal.returns-in_err-logs-clause-untouched
returns-in_err-logs-clause-untouched g c = lost_whole _ _ c.in_ok-check_lost.ensures.lost

pub write_all-requires-clause-planned : goal.write_all-requires-clause-planned
write_all-requires-clause-planned g c = idle-on (IsPlanned c.args.id.0 c.in_ok-rows.rows) _ _ c.in_ok-rows.ensures.idle c.in_ok-rows.ensures.planned

pub write_all-requires-clause-few : goal.write_all-requires-clause-few
write_all-requires-clause-few g c = (sym c.as_slice.ensures.len ∙ ap length c.as_slice.ensures.value, c.in_ok-logs.ensures.few)

pub returns-in_err-write_all-clause-any_moment : goal.returns-in_err-write_all-clause-any_moment
returns-in_err-write_all-clause-any_moment g c = leaves_behind _ _ _ (idle-then _ _ _ c.in_ok-check_lost.ensures.idle c.in_ok-rows.ensures.idle) c.in_err-write_all.ensures.any_moment

pub returns-in_err-write_all-clause-untouched : goal.returns-in_err-write_all-clause-untouched
returns-in_err-write_all-clause-untouched g c = lost_whole _ _ c.in_ok-check_lost.ensures.lost

pub returns-clause-any_moment : goal.returns-clause-any_moment
returns-clause-any_moment g c = leaves_behind _ _ _ (idle-then _ _ _ c.in_ok-check_lost.ensures.idle c.in_ok-rows.ensures.idle) c.in_ok-write_all.ensures.any_moment

pub returns-clause-untouched : goal.returns-clause-untouched
returns-clause-untouched g c = lost_whole _ _ c.in_ok-check_lost.ensures.lost

pub returns-clause-rebuilt : goal.returns-clause-rebuilt
returns-clause-rebuilt g c =
    let idle : IsIdle (g.D.Disk.history c.args.disk.now) (g.D.Disk.history c.plan_of.new.disk) = idle-then _ _ _ c.in_ok-check_lost.ensures.idle c.in_ok-rows.ensures.idle in
    same-between (IsRebuilt c.args.id.0 _) _ _ _ idle.same
    (between-if (StoreAndOthers c.args.id.0 c.in_ok-rows.rows) (IsRebuilt c.args.id.0 _) (IsPlanned c.args.id.0 c.in_ok-rows.rows) _ _ (λ a b h p. rebuilt_of c.args.id.0 c.in_ok-rows.rows c.in_ok-logs.logs _ a b h.0 h.1 p c.in_ok-logs.ensures.logs (ap length c.as_slice.ensures.value) c.length.ensures refl)
    (between-both (HasStoreOf c.args.id.0 c.in_ok-rows.rows) (OthersReadSame c.in_ok-rows.rows.map_generation c.in_ok-rows.rows.box_generation) (StoreAndOthers c.args.id.0 c.in_ok-rows.rows) _ _ (λ a b h o. (h, o)) c.in_ok-write_all.ensures.made c.in_ok-write_all.ensures.others)
    (idle-on (IsPlanned c.args.id.0 c.in_ok-rows.rows) _ _ c.in_ok-rows.ensures.idle c.in_ok-rows.ensures.planned))

pub returns-clause-mail : goal.returns-clause-mail
returns-clause-mail g c =
    let idle : IsIdle (g.D.Disk.history c.args.disk.now) (g.D.Disk.history c.plan_of.new.disk) = idle-then _ _ _ c.in_ok-check_lost.ensures.idle c.in_ok-rows.ensures.idle in
    same-between MailReadsSame _ _ _ idle.same
    (between-map (OthersReadSame c.in_ok-rows.rows.map_generation c.in_ok-rows.rows.box_generation) MailReadsSame _ _ (mail_of_others c.in_ok-rows.rows.map_generation c.in_ok-rows.rows.box_generation) c.in_ok-write_all.ensures.others)

pub returns-in_err-rows-clause-idle : goal.returns-in_err-rows-clause-idle
returns-in_err-rows-clause-idle g c = err_idle c.from_residual-in_err-rows.result _ _ (idle-then _ _ _ c.in_ok-check_lost.ensures.idle c.in_err-rows.ensures.idle)

pub returns-in_err-logs-clause-idle : goal.returns-in_err-logs-clause-idle
returns-in_err-logs-clause-idle g c = err_idle c.from_residual-in_err-logs.result _ _ (idle-then _ _ _ c.in_ok-check_lost.ensures.idle c.in_ok-rows.ensures.idle)
