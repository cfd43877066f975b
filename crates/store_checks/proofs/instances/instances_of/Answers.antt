use Rattle.std.proofs.Common.{◌≡◌, ◌+◌, ◌++◌, map, sym, ◌∙◌, ap, subst, List, IsPermutation, take_all, get_or, length, append-nil, arith}
use Rattle.std.proofs.lemmas.List.Elements.{All-push}
use Rattle.std.proofs.lemmas.List.Sorted.{All-permutation}
use Rattle.store_checks.specs.declared.instances.Instance.{Instance}
use Rattle.store_checks.specs.Lengths.{instance_of, IsNamedNoLater}
use Rattle.std.specs.List.{flat_map}
use Rattle.model_meaning.specs.MapMeaning.{MapRecord}
use Rattle.mdbox_base.specs.declared.entries.InstRow.{InstRow}
use Rattle.store_checks.proofs.WalkLemmas.{grown}
use Rattle.store_checks.proofs.SortLemmas.{instances_there, named_next, chained, named_no_later, named_trans}
use Rattle.store_checks.proofs.instances.instances_of.Goals as goal

pub unwrap-requires : goal.unwrap-requires
unwrap-requires c = instances_there c.args.map.now.meaning c.loop-place.place c.rows-place-end.result c.instances_at.result c.instances_at.ensures c.rows-place-end.ensures c.loop-place-test.true

pub loop-inst-init : goal.loop-inst-init
loop-inst-init c = record { same = sym (append-nil c.loop-place.instances.items); sized = c.loop-place.invariant.sized }

pub loop-inst-preserved : goal.loop-inst-preserved
loop-inst-preserved c = record {
  same = grown instance_of c.as_slice-inst-items.result.now c.loop-inst.inst-index _ c.instance_of.result c.loop-place.instances.items c.loop-inst.instances.items c.push.new.self.items c.loop-inst-test.true c.instance_of.ensures.same c.loop-inst.invariant.same c.in_ok-push.ensures.items;
  sized = rw c.in_ok-push.ensures.items (All-push (λ (i : Instance). length i.hash.0 ≡ 20) c.loop-inst.instances.items c.instance_of.result c.loop-inst.invariant.sized c.instance_of.ensures.hash);
}

pub loop-place-preserved : goal.loop-place-preserved
loop-place-preserved c = record {
  same = named_next c.args.map.now.meaning c.loop-place.place c.instances_at.result c.unwrap.result c.as_slice-inst-items.result.now c.loop-place.instances.items c.loop-inst.instances.items c.instances_at.ensures c.unwrap.ensures c.as_slice-inst-items.ensures c.loop-place.invariant.same
      (c.loop-inst.invariant.same ∙ ap (λ (l : List InstRow). c.loop-place.instances.items ++ map instance_of l) (take_all c.loop-inst.inst-index c.as_slice-inst-items.result.now c.loop-inst-test.false));
  sized = c.loop-inst.invariant.sized;
}

pub returns-clause-same : goal.returns-clause-same
returns-clause-same c =
    subst (λ (is : List Instance). IsPermutation is c.sort_unstable.new.self.items)
    (c.loop-place.invariant.same ∙ ap (λ (l : List MapRecord). map instance_of (flat_map (λ (r : MapRecord). r.instances) l)) (take_all c.loop-place.place c.args.map.now.meaning.records (omega (arith, c.rows-place-end.ensures)))) c.sort_unstable.ensures.permutation

pub returns-clause-order : goal.returns-clause-order
returns-clause-order c =
    let sized = All-permutation (λ (i : Instance). length i.hash.0 ≡ 20) c.loop-place.instances.items c.sort_unstable.new.self.items c.sort_unstable.ensures.permutation c.loop-place.invariant.sized in
    chained IsNamedNoLater named_trans c.sort_unstable.new.self.items
    (λ k d lt. named_no_later (get_or c.sort_unstable.new.self.items k d) (get_or c.sort_unstable.new.self.items (k + 1) d) (sized (k + 1) d lt ∙ sym (sized k d (omega (arith, lt)))) (c.sort_unstable.ensures.sorted k d (omega arith) lt))
