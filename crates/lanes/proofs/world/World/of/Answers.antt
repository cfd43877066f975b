use Rattle.std.proofs.Common.{◌≡◌, ℕ, List, length, sym, ◌∙◌, ap, subst, ◌≤◌}
use Rattle.std.proofs.lemmas.List.{length-replicate}
use Rattle.lanes.specs.Worlds.{PartsValue}
use Rattle.lanes.proofs.OpeningLemmas.{fresh_sound}
use Rattle.lanes.proofs.world.World.of.Goals as goal

pub invariant_of-result : goal.invariant_of-result
invariant_of-result g c =
    let fresh = c.parts.invariant.0 in
    let none = c.parts.invariant.2 in
    let few : length c.parts.inside.lanes.items ≤ 64 = subst (λ (parts : PartsValue). length parts.rows ≤ 64) (sym c.parts.view_is) c.requires.lanes in
    let many : length c.parts.inside.replied.items ≡ length c.parts.inside.lanes.items = ap (λ (ns : List ℕ). length ns) none.none_replied ∙ length-replicate (length c.parts.inside.lanes.items) 0 in (
      fresh_sound c.args.store c.parts.inside.lanes.items c.parts.inside.replies.given c.parts.inside.replies.first c.parts.inside.replied.items c.parts.inside.journal.items c.parts.inside.broken.items c.moment.result c.parts.inside.turns.items c.parts.inside.turn_room
          (g.D.Disk.history c.args.store.disk) c.requires.unused.0 few fresh none.unreplied many none.room_is c.moment.type_inv,
      c.parts.invariant.1,
    )
