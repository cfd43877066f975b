use Rattle.std.proofs.Common.{◌≡◌, ◌≤◌, length, refl, ◌∙◌, arith}
use Rattle.gate_log.proofs.AppendLemmas.{block_is}
use Rattle.disk_model.proofs.IdleLemmas.{idle-begins, idle-unchanged}
use Rattle.gate_log.proofs.ReadFileLemmas.{whole_file}
use Rattle.gate_log.proofs.device.read_file.Goals as goal

pub returns-in_err-length-clause-idle : goal.returns-in_err-length-clause-idle
returns-in_err-length-clause-idle g c = idle-unchanged _ _ _ (idle-begins _) c.length.ensures.state

pub returns-in_err-octets-clause-idle : goal.returns-in_err-octets-clause-idle
returns-in_err-octets-clause-idle g c = idle-unchanged _ _ _ (idle-begins _) c.length.ensures.state

pub returns-in_err-count-clause-idle : goal.returns-in_err-count-clause-idle
returns-in_err-count-clause-idle g c = idle-unchanged _ _ _ (idle-unchanged _ _ _ (idle-begins _) c.length.ensures.state) c.read_at.ensures.state

pub returns-clause-octets : goal.returns-clause-octets
returns-clause-octets g c =
    let size : c.in_ok-octets.octets.len ≡ c.in_ok-length.length = c.in_ok-octets.ensures.len in
    let room : length c.deref_mut.result.now ≡ c.in_ok-octets.octets.len = c.deref_mut.ensures.len in
    let into : length c.read_at.new.into ≡ length c.deref_mut.result.now = c.read_at.auto.into in
    let within : c.in_ok-count.count ≤ length c.read_at.new.into = c.in_ok-count.ensures.count in
    whole_file c.args.name _ (g.D.Disk.history c.length.new.self) c.in_ok-count.count (length c.deref_mut.result.now) c.read_at.new.into c.front_of.result.items
    (idle-unchanged _ _ _ (idle-begins _) c.length.ensures.state)
    (rw (room, size) c.in_ok-length.ensures.length)
    c.in_ok-count.ensures.octets
    (c.front_of.ensures ∙ block_is c.in_ok-count.count c.in_ok-octets.octets.len _ c.read_at.new.into _ refl (omega (arith, within, into, room)) within)

pub returns-clause-idle : goal.returns-clause-idle
returns-clause-idle g c = idle-unchanged _ _ _ (idle-unchanged _ _ _ (idle-begins _) c.length.ensures.state) c.read_at.ensures.state
