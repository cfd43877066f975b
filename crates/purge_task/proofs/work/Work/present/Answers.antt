use Rattle.purge_task.proofs.Common.{◌∙◌, ◌+◌, ◌∷◌, ap, sym, refl, drop, arith, drop_more, Source}
use Rattle.purge_task.proofs.work.Work.present.Goals as goal

pub returns-clause-some : goal.returns-clause-some
returns-clause-some c =
    let item = c.index-source.result.now in
    (item, drop_more c.args.self.now.sources.items c.args.self.now.next item (omega arith) ∙ ap (λ (s : Source). s ∷ drop (c.args.self.now.next + 1) c.args.self.now.sources.items) (sym c.index-source.ensures), (refl, refl))
