use Rattle.std.proofs.Common.{◌<◌, get_or, Fits, arith}
use Rattle.std.proofs.lemmas.List.Elements.{All-from_get_or}
use mir.Syntax.{w8}
use Rattle.disk_model.proofs.OtherFileLemmas.{apart_begins, apart_goes_on, apart_fails, apart_fails_still, apart_named}
use Rattle.sis_store.proofs.MakeLemmas.{apart_2, apart_3, keeps_then, others_then, ask_2, ask_3}
use Rattle.sis_store.proofs.device.make_with.Goals as goal

pub returns-in_err-make-clause-any_moment : goal.returns-in_err-make-clause-any_moment
returns-in_err-make-clause-any_moment g c = apart_fails c.args.name _ _ _ _ (apart_begins _ _) c.in_err-make.ensures.failed

pub write_at-requires : goal.write_at-requires
write_at-requires g c = ask_2 c.args.name _ _ c.in_ok-make.ensures.state

pub returns-in_err-write_at-clause-any_moment : goal.returns-in_err-write_at-clause-any_moment
returns-in_err-write_at-clause-any_moment g c = apart_fails c.args.name _ _ _ _ (apart_goes_on _ _ _ _ _ (apart_begins _ _) c.in_ok-make.ensures.state) c.in_err-write_at.ensures.failed

pub sync-requires : goal.sync-requires
sync-requires g c = ask_3 c.args.name c.args.octets.now _ _ _ c.in_ok-make.ensures.state c.in_ok-write_at.ensures.state

pub returns-in_err-sync-clause-any_moment : goal.returns-in_err-sync-clause-any_moment
returns-in_err-sync-clause-any_moment g c = apart_fails_still c.args.name _ _ _ (apart_2 c.args.name _ _ _ _ _ c.in_ok-make.ensures.state c.in_ok-write_at.ensures.state) c.in_err-sync.ensures.failed

pub returns-in_err-sync_names-clause-any_moment : goal.returns-in_err-sync_names-clause-any_moment
returns-in_err-sync_names-clause-any_moment g c =
    apart_fails_still c.args.name _ _ _ (apart_3 c.args.name _ _ _ _ _ _ _ c.in_ok-make.ensures.state c.in_ok-write_at.ensures.state c.in_ok-sync.ensures.state) c.in_err-sync_names.ensures.failed

pub returns-clause-any_moment : goal.returns-clause-any_moment
returns-clause-any_moment g c = apart_named c.args.name _ _ _ (apart_3 c.args.name _ _ _ _ _ _ _ c.in_ok-make.ensures.state c.in_ok-write_at.ensures.state c.in_ok-sync.ensures.state) c.in_ok-sync_names.ensures.state

pub returns-clause-made : goal.returns-clause-made
returns-clause-made g c =
    keeps_then c.args.name c.args.octets.now _ _ _ _ _ (All-from_get_or (λ o. o < 256) c.args.octets.now 0 (λ i l. let f : Fits w8 (get_or c.args.octets.now i 0) = c.type_inv.octets i in omega arith))
    c.in_ok-make.ensures.state c.in_ok-write_at.ensures.state c.in_ok-sync.ensures.state c.in_ok-sync_names.ensures.state

pub returns-clause-others : goal.returns-clause-others
returns-clause-others g c = others_then c.args.name _ _ _ (apart_3 c.args.name _ _ _ _ _ _ _ c.in_ok-make.ensures.state c.in_ok-write_at.ensures.state c.in_ok-sync.ensures.state) c.in_ok-sync_names.ensures.state
