use Rattle.model_storage.specs.StorageFile.{IsMessageHeader}
use Rattle.dbox_file.proofs.AloneLemmas.{flawed_none}
use Rattle.dbox_file.proofs.alone.header_size.Goals as goal

pub returns-in-Err-clause-none : goal.returns-in-Err-clause-none
returns-in-Err-clause-none c size h = flawed_none IsMessageHeader c.args.header.now c.in-Err.field-0 size c.in-Err.ensures.flaw h
