use Rattle.std.proofs.Common.{◌≡◌, ◌-◌, ◌++◌, ◌∷◌, [], List, length, map, slice_get, slice_set, vec_len, Option, Some, None, sym, ◌∙◌, ap, subst, arith}
use Rattle.std.proofs.lemmas.List.{length-append, length-set}
use Rattle.std.proofs.lemmas.Option.{slice_get-get_or}
use Rattle.std.specs.declared.snapshot.Snapshot.{Snapshot}
use Rattle.mdbox_base.specs.declared.replies.Reply.{Reply}
use Rattle.lanes.specs.Kept.{AreKeptOf}
use Rattle.lanes.proofs.KeptLemmas.{AreKeptSince, kept_since, map_more, one_less, one_more_kept}
use Rattle.lanes.proofs.replies.Replies.ask.Goals as goal
use Rattle.lanes.proofs.replies.Replies.ask.Goals.{then-place-self, else-place-self}

pub invariant_of-self : goal.invariant_of-self
invariant_of-self c =
    let now = c.if-place-self.self-inside in
    let since : AreKeptSince now.first (map (λ (one : Snapshot (Option Reply)). one.value) now.given.items) now.kept.items × (vec_len now.kept ≡ length now.kept.items) × (vec_len now.given ≡ length now.given.items) =
    elim c.if-place-self.branch [
      | then-place-self w ↦
          let many = c.len-place.ensures in
          let long = c.self.invariant.1 in
          let behind = w.if-place-self.true in
          let there : slice_get c.self.inside.kept.items (c.len-place.result - 1) ≡ Some w.index_mut.result.now =
          slice_get-get_or c.self.inside.kept.items (c.len-place.result - 1) w.index_mut.result.now (omega (arith, many, long, behind)) ∙ ap (λ (o : Option Reply). Some o) (sym w.index_mut.ensures.value) in
          rw w.self-inside-is (
            subst (λ (o : Option Reply). AreKeptSince c.self.inside.first (map (λ (one : Snapshot (Option Reply)). one.value) c.self.inside.given.items) (slice_set c.self.inside.kept.items (c.len-place.result - 1) o)) (sym w.let_go.ensures)
                (one_less c.self.inside.first _ c.self.inside.kept.items (c.len-place.result - 1) w.index_mut.result.now c.self.invariant.0 (omega (arith, behind)) there),
            c.self.invariant.1 ∙ sym (length-set c.self.inside.kept.items (c.len-place.result - 1) w.let_go.new.reply),
            c.self.invariant.2,
          )
      | else-place-self w ↦ rw w.self-inside-is (kept_since _ _ _ c.self.invariant.0, c.self.invariant.1, c.self.invariant.2)
    ] in
    let given : map (λ (one : Snapshot (Option Reply)). one.value) c.push_reserved-2.new.self.items ≡ map (λ (one : Snapshot (Option Reply)). one.value) now.given.items ++ None ∷ [] =
    ap (map (λ (one : Snapshot (Option Reply)). one.value)) c.push_reserved-2.ensures.items ∙ (map_more (λ (one : Snapshot (Option Reply)). one.value) now.given.items c.of.result ∙ ap (λ (o : Option Reply). map (λ (one : Snapshot (Option Reply)). one.value) now.given.items ++ o ∷ []) c.of.ensures) in
    let kept_len = c.push_reserved.ensures.len in
    let given_len = c.push_reserved-2.ensures.len in
    let kept_many = ap length c.push_reserved.ensures.items ∙ length-append now.kept.items (None ∷ []) in
    let given_many = ap length c.push_reserved-2.ensures.items ∙ length-append now.given.items (c.of.result ∷ []) in
    let kept_was = since.1 in
    let given_was = since.2 in (
      subst (λ (rs : List (Option Reply)). AreKeptOf now.first rs c.push_reserved.new.self.items) (sym given)
          (subst (λ (rs : List (Option Reply)). AreKeptOf now.first (map (λ (one : Snapshot (Option Reply)). one.value) now.given.items ++ None ∷ []) rs) (sym c.push_reserved.ensures.items) (one_more_kept now.first _ now.kept.items since.0)),
      omega (arith, kept_len, kept_many, kept_was),
      omega (arith, given_len, given_many, given_was),
    )
