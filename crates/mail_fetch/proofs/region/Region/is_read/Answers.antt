use Rattle.mail_fetch.proofs.Common.{◌∙◌, ap, arith, common_steps, RegionValue}
use Rattle.mail_fetch.proofs.PartLemmas.{read_all}
use Rattle.mail_fetch.proofs.region.Region.is_read.Goals as goal

pub returns : goal.returns
returns c =
    let all = read_all c.self.inside.parts.items c.args.self.now.left c.self.inside.next c.len.result (c.len.ensures ∙ c.self.inside.parts.ok.0) c.self.invariant.0.each (ap (λ (v : RegionValue). v.left) c.self.view_is) in
    (λ t. all.0 (grind (arith, common_steps, t)), λ none. let l = all.1 none in grind (arith, common_steps, l))
