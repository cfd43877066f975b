use Rattle.purge_task.proofs.Common.{◌∙◌, sym, idle-begins}
use Rattle.purge_task.proofs.CleanLemmas.{clean_as_begins, unclean_unfilled}
use Rattle.purge_task.proofs.contents.Contents.is_clean.Goals as goal

pub returns-in-Some-clause-clean : goal.returns-in-Some-clause-clean
returns-in-Some-clause-clean g c =
    clean_as_begins c.args.store.now (g.D.Disk.history c.args.store.now.disk) c.args.file.0 c.in-Some.first c.args.self.now c.is_header.result c.facts.ensures.store c.requires.running c.requires.contents c.in-Some.ensures.some.0 c.in-Some.ensures.some.1 (sym c.end_of.ensures ∙ c.in-Some.ensures.some.2) c.is_header.ensures.header

pub returns-in-None-clause-clean : goal.returns-in-None-clause-clean
returns-in-None-clause-clean g c =
    unclean_unfilled c.args.store.now (g.D.Disk.history c.args.store.now.disk) c.args.file.0 c.args.self.now c.facts.ensures.store c.requires.running c.requires.contents (λ first at full ends. c.in-None.ensures.none first at full (c.end_of.ensures ∙ ends))

pub returns-in-None-clause-idle : goal.returns-in-None-clause-idle
returns-in-None-clause-idle g c = idle-begins (g.D.Disk.history c.args.store.now.disk)
