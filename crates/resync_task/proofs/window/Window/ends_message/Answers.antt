use Rattle.resync_task.proofs.Common.{◌≤◌, ◌++◌, ℕ, List, length, take, drop, sym, ◌∙◌, ap, subst, arith, length-take, length-drop, take-take, IsMessageWith, bodiless_header}
use Rattle.std.proofs.Common.{◌↔◌, IsTrue, IfOk}
use Rattle.resync_task.specs.Window.{WindowPart}
use Rattle.resync_task.proofs.BodilessLemmas.{framed_answer}
use Rattle.resync_task.proofs.WindowLemmas.{same_part}
use Rattle.resync_task.proofs.window.Window.ends_message.Goals as goal

pub returns-clause-is : goal.returns-clause-is
returns-clause-is c =
    let few : c.args.tail ≤ c.self.inside.count = (let f = c.if-self-tail.false in omega (arith, f)) in
    let items = c.self.inside.octets.items in
    let enough = length-take c.self.inside.count (drop 30 items) in
    let rest = length-drop 30 items in
    let inv = c.self.invariant in
    let ok = c.self.inside.octets.ok in
    subst (λ (w : WindowPart). IfOk c.is_ended.result (λ is. IsTrue is ↔ ((c.args.tail ≤ length w.part) × IsMessageWith c.args.guid.0 (bodiless_header c.args.header.now ++ take c.args.tail w.part)))) c.self.view_is
    (framed_answer c.is_ended.result c.args.guid.0 (bodiless_header c.args.header.now ++ take c.args.tail (drop 30 c.deref_mut.result.now)) c.args.header.now (take c.self.inside.count (drop 30 items)) c.args.tail
    (ap (λ (o : List ℕ). bodiless_header c.args.header.now ++ o) (ap (λ (o : List ℕ). take c.args.tail (drop 30 o)) c.deref_mut.ensures.value ∙ sym (take-take c.args.tail c.self.inside.count (drop 30 items) few)))
    (omega (arith, few, enough, rest, inv, ok)) c.is_ended.ensures.is)

pub returns-clause-same : goal.returns-clause-same
returns-clause-same c =
    let full = c.is_ended.auto.octets in
    let len = c.deref_mut.ensures.len in
    let ok = c.self.inside.octets.ok in
    same_part c.self.inside.start c.self.inside.count c.self.inside.octets.len c.self.inside.octets.items c.deref_mut.result.now _ (omega (arith, full, len, ok)) c.is_ended.ensures.rest c.deref_mut.ensures.value ∙ c.self.view_is
