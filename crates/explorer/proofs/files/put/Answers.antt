use Rattle.explorer.proofs.LaidLemmas.{made_reaches, written_is_there}
use Rattle.explorer.proofs.files.put.Goals as goal

pub write_at-requires : goal.write_at-requires
write_at-requires g c = made_reaches c.args.name _ _ c.in_ok-make.ensures.state

pub sync-requires : goal.sync-requires
sync-requires g c = written_is_there c.args.name c.args.octets.now _ _ _ c.in_ok-make.ensures.state c.in_ok-write_at.ensures.state
