use Rattle.std.proofs.Common.{arith}
use Rattle.storage_files.proofs.OrderLemmas.{order-without}
use Rattle.storage_files.proofs.files.MailFiles.forget.Goals as goal

pub invariant_of-self : goal.invariant_of-self
invariant_of-self c =
    let l = c.leave_out.ensures.len in
    let k = c.leave_out.ensures.capacity in
    let i = c.self.invariant.1 in
    (rw c.leave_out.ensures.items (order-without c.self.inside.files.items c.self.inside.highest c.self.inside.spare c.args.file.0 c.self.invariant.0), omega (arith, l, k, i))
