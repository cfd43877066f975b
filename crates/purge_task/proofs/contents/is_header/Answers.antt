use Rattle.purge_task.proofs.Common.{◌≡◌, length, arith, common_steps, idle-begins}
use Rattle.purge_task.proofs.CleanLemmas.{header_as_read, header_cut_off, header_too_long}
use Rattle.purge_task.proofs.contents.is_header.Goals as goal

pub returns-then-octets-gt-HEADER-clause-header : goal.returns-then-octets-gt-HEADER-clause-header
returns-then-octets-gt-HEADER-clause-header g c = header_too_long (g.D.Disk.history c.args.store.now.disk) c.args.file.0 c.args.octets (omega arith)

pub returns-then-octets-gt-HEADER-clause-idle : goal.returns-then-octets-gt-HEADER-clause-idle
returns-then-octets-gt-HEADER-clause-idle g c = idle-begins (g.D.Disk.history c.args.store.now.disk)

pub returns-then-branch-clause-header : goal.returns-then-branch-clause-header
returns-then-branch-clause-header g c =
    let long : length c.read_front.new.into ≡ c.args.octets = grind (arith, common_steps, c.read_front.auto.into) in
    header_as_read (g.D.Disk.history c.args.store.now.disk) c.args.file.0 c.args.octets c.read_front.new.into c.is_header_line.result long (c.in_ok-read_front.ensures.whole c.if-branch.true) c.is_header_line.ensures.line

pub returns-else-branch-clause-header : goal.returns-else-branch-clause-header
returns-else-branch-clause-header g c =
    let long : length c.read_front.new.into ≡ c.args.octets = grind (arith, common_steps, c.read_front.auto.into) in
    header_cut_off (g.D.Disk.history c.args.store.now.disk) c.args.file.0 c.args.octets (length c.read_front.new.into) long (c.in_ok-read_front.ensures.short c.if-branch.false)
