use Rattle.std.proofs.Common.{◌<◌, List, length, map, slice_set, Option, Some, sym, ◌∙◌, ap, subst}
use Rattle.std.proofs.lemmas.List.{length-set}
use Rattle.std.specs.declared.snapshot.Snapshot.{Snapshot}
use Rattle.mdbox_base.specs.declared.replies.Reply.{Reply}
use Rattle.lanes.specs.Kept.{AreKeptOf, RepliesValue}
use Rattle.lanes.proofs.KeptLemmas.{map_set, one_put}
use Rattle.lanes.proofs.replies.Replies.put.Goals as goal

pub invariant_of-self : goal.invariant_of-self
invariant_of-self c =
    let inside = subst (λ (r : RepliesValue). c.args.place < length r.given) (sym c.self.view_is) c.requires in
    let set = map_set (λ (one : Snapshot (Option Reply)). one.value) c.self.inside.given.items c.args.place c.of.result ∙ ap (slice_set (map (λ (one : Snapshot (Option Reply)). one.value) c.self.inside.given.items) c.args.place) c.of.ensures in (
      subst (λ (rs : List (Option Reply)). AreKeptOf c.self.inside.first rs (slice_set c.self.inside.kept.items c.args.place (Some c.args.reply))) (sym set)
          (one_put c.self.inside.first _ c.self.inside.kept.items c.args.place (Some c.args.reply) c.self.invariant.0 inside),
      c.self.invariant.1 ∙ sym (length-set c.self.inside.kept.items c.args.place (Some c.args.reply)),
      c.self.invariant.2 ∙ sym (length-set c.self.inside.given.items c.args.place c.of.result),
    )

pub returns : goal.returns
returns c =
    let set = map_set (λ (one : Snapshot (Option Reply)). one.value) c.self.inside.given.items c.args.place c.of.result ∙ ap (slice_set (map (λ (one : Snapshot (Option Reply)). one.value) c.self.inside.given.items) c.args.place) c.of.ensures in (
      set ∙ ap (λ (r : RepliesValue). slice_set r.given c.args.place (Some c.args.reply)) c.self.view_is,
      ap (λ (r : RepliesValue). r.first) c.self.view_is,
    )
