use Rattle.store_core.proofs.Common.{refl, sym, ◌∙◌, ap, useless_past}
use Rattle.store_core.proofs.UselessLemmas.{next_found, next_passed, none_next, fewer_unheld}
use Rattle.store_core.proofs.store.Store.next_useless.Goals as goal

pub loop-id-init : goal.loop-id-init
loop-id-init g c = refl

pub returns-then-not-is_instance_named : goal.returns-then-not-is_instance_named
returns-then-not-is_instance_named g c =
    sym (next_found c.self.inside.map.meaning c.loop-id.last c.in-Some.id c.self.inside.instances.known c.known_facts.ensures.rising (sym c.next_unheld.ensures ∙ c.in-Some.is) (sym c.is_instance_named.ensures ∙ c.if-not-is_instance_named.true))
    ∙ c.loop-id.invariant ∙ ap (λ v. useless_past c.args.after v.map v.instances.known) c.self.view_is

pub loop-id-smaller : goal.loop-id-smaller
loop-id-smaller g c = fewer_unheld c.loop-id.last c.in-Some.id c.self.inside.instances.known c.known_facts.ensures.rising (sym c.next_unheld.ensures ∙ c.in-Some.is)

pub loop-id-preserved : goal.loop-id-preserved
loop-id-preserved g c =
    next_passed c.self.inside.map.meaning c.loop-id.last c.in-Some.id c.self.inside.instances.known c.known_facts.ensures.rising (sym c.next_unheld.ensures ∙ c.in-Some.is) (sym c.is_instance_named.ensures ∙ c.if-not-is_instance_named.false)
    ∙ c.loop-id.invariant

pub returns : goal.returns
returns g c =
    sym (none_next c.self.inside.map.meaning c.loop-id.last c.self.inside.instances.known (sym c.next_unheld.ensures ∙ c.in_default.is)) ∙ c.loop-id.invariant ∙ ap (λ v. useless_past c.args.after v.map v.instances.known) c.self.view_is
