use Rattle.std.proofs.Common.{◌∙◌, ap}
use Rattle.std.specs.Prelude.{List, Some, map}
use Rattle.mdbox_base.specs.declared.replies.Reply.{Reply as ReplyValue}
use Rattle.script_run.proofs.AloneLemmas.{one_given}
use Rattle.script_run.proofs.StillLemmas.{unopened_still}
use Rattle.script_run.proofs.WorkedLemmas.{worked_alone}
use Rattle.script_run.proofs.run.run_request.Goals as goal

pub only_reply-requires : goal.only_reply-requires
only_reply-requires g c =
    let served = c.in_ok-replies-in-Ok.ensures.served in
    let one = one_given c.args.request c.in-Ok.script.requests served.0 c.in-Ok.ensures.1 served.2.done.each in
    (one.0, served.1 ∙ ap (λ (given : List ReplyValue). map Some given) one.1)

pub returns-in_ok-replies-in-Ok-clause-done : goal.returns-in_ok-replies-in-Ok-clause-done
returns-in_ok-replies-in-Ok-clause-done g c =
    let served = c.in_ok-replies-in-Ok.ensures.served in
    let parts = c.in_ok-replies-in-Ok.field-0 in
    worked_alone g.D.Disk.history g.D.Disk.faults c.args.request c.in-Ok.script served.0 c.only_reply.result parts.replies parts.journal (g.D.Disk.history c.args.disk) (g.D.Disk.faults c.args.disk) parts.store c.into_disk.result c.into_disk.ensures c.in-Ok.ensures.0 c.in-Ok.ensures.1 served.1 c.only_reply.ensures served.2 c.in_ok-replies-in-Ok.ensures.worked

pub returns-in-Err-clause-refused : goal.returns-in-Err-clause-refused
returns-in-Err-clause-refused g c = unopened_still (g.D.Disk.history c.args.disk) (g.D.Disk.faults c.args.disk)
