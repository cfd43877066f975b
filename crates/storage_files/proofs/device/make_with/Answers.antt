use Rattle.storage_files.proofs.AddLemmas.{are_octets}
use Rattle.storage_files.proofs.MakeLemmas.{fails_1, fails_2, fails_3, fails_4, goes_well, keeps_then, others_then, ask_2, ask_3}
use Rattle.storage_files.proofs.device.make_with.Goals as goal

pub returns-in_err-make-clause-any_moment : goal.returns-in_err-make-clause-any_moment
returns-in_err-make-clause-any_moment g c = fails_1 c.args.name c.args.text.now _ _ c.in_err-make.ensures.failed

pub write_at-requires : goal.write_at-requires
write_at-requires g c = ask_2 c.args.name c.args.text.now _ _ c.in_ok-make.ensures.state

pub returns-in_err-write_at-clause-any_moment : goal.returns-in_err-write_at-clause-any_moment
returns-in_err-write_at-clause-any_moment g c = fails_2 c.args.name c.args.text.now _ _ _ c.in_ok-make.ensures.state c.in_err-write_at.ensures.failed

pub sync-requires : goal.sync-requires
sync-requires g c = ask_3 c.args.name c.args.text.now _ _ _ c.in_ok-make.ensures.state c.in_ok-write_at.ensures.state

pub returns-in_err-sync-clause-any_moment : goal.returns-in_err-sync-clause-any_moment
returns-in_err-sync-clause-any_moment g c = fails_3 c.args.name c.args.text.now _ _ _ _ c.in_ok-make.ensures.state c.in_ok-write_at.ensures.state c.in_err-sync.ensures.failed

pub returns-in_err-sync_names-clause-any_moment : goal.returns-in_err-sync_names-clause-any_moment
returns-in_err-sync_names-clause-any_moment g c = fails_4 c.args.name c.args.text.now _ _ _ _ _ c.in_ok-make.ensures.state c.in_ok-write_at.ensures.state c.in_ok-sync.ensures.state c.in_err-sync_names.ensures.failed

pub returns-clause-any_moment : goal.returns-clause-any_moment
returns-clause-any_moment g c = goes_well c.args.name c.args.text.now _ _ _ _ _ c.in_ok-make.ensures.state c.in_ok-write_at.ensures.state c.in_ok-sync.ensures.state c.in_ok-sync_names.ensures.state

pub returns-clause-made : goal.returns-clause-made
returns-clause-made g c = keeps_then c.args.name c.args.text.now _ _ _ _ _ (are_octets c.args.text.now c.type_inv.text) c.in_ok-make.ensures.state c.in_ok-write_at.ensures.state c.in_ok-sync.ensures.state c.in_ok-sync_names.ensures.state

pub returns-clause-others : goal.returns-clause-others
returns-clause-others g c = others_then c.args.name c.args.text.now _ _ _ _ _ c.in_ok-make.ensures.state c.in_ok-write_at.ensures.state c.in_ok-sync.ensures.state c.in_ok-sync_names.ensures.state
