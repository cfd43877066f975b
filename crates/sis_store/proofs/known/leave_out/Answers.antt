use Rattle.std.proofs.Common.{◌≡◌, ◌+◌, List, Some, None, false, refl, sym, ap, ◌∙◌}
use Rattle.std.specs.Prelude.{remove, sum_by}
use Rattle.std.proofs.lemmas.Option.{same_Some}
use Rattle.std.proofs.lemmas.List.Elements.{All-weaker}
use Rattle.mdbox_base.specs.declared.ids.InstId.{InstId}
use Rattle.sis_store.specs.declared.instance.KnownInstance.{KnownInstance}
use Rattle.sis_store.specs.Instances.{has_id, without_instance}
use Rattle.sis_store.proofs.IdLemmas.{got, is_within, hasnt, without-at, without-none, instance-at, instance-none}
use Rattle.sis_store.proofs.HashLemmas.{sums_remove}
use Rattle.sis_store.proofs.known.leave_out.Goals as goal

pub returns-in-Some-clause-items : goal.returns-in-Some-clause-items
returns-in-Some-clause-items c =
    let s = rw c.deref.ensures.value at c.in-Some.ensures.some in
    c.remove.ensures.items ∙ without-at c.args.known.now.items c.in-Some.at s.0 c.requires s.1 ∙ ap (λ (i : InstId). without_instance i c.args.known.now.items) s.2

pub returns-in-Some-clause-same : goal.returns-in-Some-clause-same
returns-in-Some-clause-same c = λ k f is.
    let s = rw c.deref.ensures.value at c.in-Some.ensures.some in
    let same : s.0 ≡ k = same_Some _ _ (sym (instance-at c.args.known.now.items c.args.id c.in-Some.at s.0 c.requires s.1 s.2) ∙ is) in
    sums_remove f c.args.known.now.items c.in-Some.at s.0 (is_within c.args.known.now.items c.in-Some.at s.0 s.1) (got c.args.known.now.items c.in-Some.at s.0 s.0 s.1)
    ∙ ap (λ (x : KnownInstance). f x + sum_by f (remove c.args.known.now.items c.in-Some.at)) same ∙ ap (λ (xs : List KnownInstance). f k + sum_by f xs) (sym c.remove.ensures.items)

pub returns-in_default-clause-items : goal.returns-in_default-clause-items
returns-in_default-clause-items c =
    let none = rw c.deref.ensures.value at (c.in_default.ensures.none refl) in
    sym (without-none c.args.id c.args.known.now.items (All-weaker _ (λ k. has_id c.args.id k ≡ false) (λ k h. hasnt c.args.id k h) c.args.known.now.items none))

pub returns-in_default-clause-same : goal.returns-in_default-clause-same
returns-in_default-clause-same c = λ k f is.
    let none = rw c.deref.ensures.value at (c.in_default.ensures.none refl) in
    absurd (let e : None ≡ Some k = sym (instance-none c.args.known.now.items c.args.id none) ∙ is in cc e)
