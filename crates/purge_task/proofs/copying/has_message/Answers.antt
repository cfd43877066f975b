use Rattle.purge_task.proofs.Common.{◌∙◌}
use Rattle.purge_task.proofs.StepLemmas.{one_there}
use Rattle.purge_task.proofs.copying.has_message.Goals as goal

pub returns : goal.returns
returns c = c.is_some.ensures ∙ one_there c.args.map.now.meaning c.args.file.0 c.in_file.result c.in_file.ensures
