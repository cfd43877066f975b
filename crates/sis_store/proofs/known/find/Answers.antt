use Rattle.std.proofs.Common.{Some, refl, sym, ◌∙◌, ap}
use Rattle.sis_store.proofs.IdLemmas.{got, instance-at, instance-none}
use Rattle.sis_store.proofs.known.find.Goals as goal

pub returns-in-Some : goal.returns-in-Some
returns-in-Some c =
    let s = c.in-Some.ensures.some in
    ap Some (got c.args.known.now c.in-Some.at s.0 _ s.1) ∙ sym (instance-at c.args.known.now c.args.id c.in-Some.at s.0 c.requires s.1 s.2)

pub returns-in-None : goal.returns-in-None
returns-in-None c = sym (instance-none c.args.known.now c.args.id (c.in-None.ensures.none refl))
