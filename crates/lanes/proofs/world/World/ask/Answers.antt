use Rattle.std.proofs.Common.{◌≡◌, ◌<◌, ◌+◌, ◌-◌, ◌++◌, ◌∷◌, [], ℕ, false, List, length, slice_get, Option, Some, None, sym, ◌∙◌, ap, subst, arith}
use Rattle.std.proofs.lemmas.List.{length-append, length-set}
use Rattle.mdbox_base.specs.declared.replies.Reply.{Reply}
use Rattle.lanes.proofs.SoundLemmas.{row_read}
use Rattle.lanes.specs.Asked.{world_asked}
use Rattle.lanes.specs.Worlds.{IsSoundWorld, WorldValue}
use Rattle.lanes.proofs.AskLemmas.{sound_asked, world_set}
use Rattle.lanes.proofs.world.World.ask.Goals as goal

pub invariant_of-self-2 : goal.invariant_of-self-2
invariant_of-self-2 g c =
    let few = subst (λ (w : WorldValue _). length w.replies < 100000) (sym c.self.view_is) c.requires.few in
    let running = subst (λ (w : WorldValue _). w.finished ≡ false) (sym c.self.view_is) c.requires.running in
    let there = row_read _ _ c.args.lane c.index_mut.result.now c.self.view_is c.requires.lane c.index_mut.ensures.value in
    let room = c.self.invariant.1 in
    let place : c.len-place.result ≡ length c.self.inside.replies.given = c.len-place.ensures in
    let told : c.ask.new.self.given ≡ c.self.inside.replies.given ++ None ∷ [] = c.ask.ensures.0 ∙ ap (λ (rs : List (Option Reply)). rs ++ None ∷ []) c.in_ok-reserve.ensures.same.0 in
    let long : length c.ask.new.self.given ≡ length c.self.inside.replies.given + 1 = ap (λ (rs : List (Option Reply)). length rs) told ∙ length-append c.self.inside.replies.given (None ∷ []) in
    let journal_fits = c.in_ok-reserve_to.ensures.ok in
    let turns_fit = c.in_ok-reserve_to-2.ensures.ok in (
      subst (λ (w : WorldValue _). IsSoundWorld (g.D.Disk.history c.self.inside.store.disk) w)
          (sym (world_set c.args.lane c.task_for.result c.index_mut.result.now c.push_back.new.self (record { place = c.len-place.result; task = c.task_for.result }) _ c.ask.new.self.given c.ask.new.self.first c.reserve_to.new.items.items c.reserve_to-2.new.items.items c.in_ok-push_back.ensures.ok (ap (λ (n : ℕ). record { place = n; task = c.task_for.result }) place) told (c.ask.ensures.1 ∙ c.in_ok-reserve.ensures.same.1) c.in_ok-reserve_to.ensures.same.0 c.in_ok-reserve_to-2.ensures.same.0))
          (sound_asked c.args.lane c.args.request c.task_for.result c.index_mut.result.now _ (g.D.Disk.history c.self.inside.store.disk) there c.task_for.ensures few running c.self.invariant.0),
      record {
        lanes_are = room.lanes_are ∙ sym (length-set c.self.inside.lanes.items (c.args.lane - 1) c.push_back.new.self);
        replied_are = room.replied_are;
        journal_is = c.in_ok-reserve_to.ensures.same.1 ∙ (room.journal_is ∙ sym (ap length c.in_ok-reserve_to.ensures.same.0));
        journal_room = omega (arith, long, place, journal_fits);
        broken_is = room.broken_is;
        broken_room = room.broken_room;
        turns_are = c.in_ok-reserve_to-2.ensures.same.1 ∙ (room.turns_are ∙ sym (ap length c.in_ok-reserve_to-2.ensures.same.0));
        turns_room = omega (arith, turns_fit);
      },
    )

pub returns-clause-ok : goal.returns-clause-ok
returns-clause-ok g c =
    let there = row_read _ _ c.args.lane c.index_mut.result.now c.self.view_is c.requires.lane c.index_mut.ensures.value in
    let place : c.len-place.result ≡ length c.self.inside.replies.given = c.len-place.ensures in
    let told : c.ask.new.self.given ≡ c.self.inside.replies.given ++ None ∷ [] = c.ask.ensures.0 ∙ ap (λ (rs : List (Option Reply)). rs ++ None ∷ []) c.in_ok-reserve.ensures.same.0 in (
      place ∙ ap (λ (w : WorldValue _). length w.replies) c.self.view_is,
      record {
        is_lane = c.requires.lane.0;
        row = c.index_mut.result.now;
        there = subst (λ (w : WorldValue _). slice_get w.rows (c.args.lane - 1) ≡ Some c.index_mut.result.now) c.self.view_is there;
        task = c.task_for.result;
        begins = c.task_for.ensures;
        new_is =
            world_set c.args.lane c.task_for.result c.index_mut.result.now c.push_back.new.self (record { place = c.len-place.result; task = c.task_for.result }) _ c.ask.new.self.given c.ask.new.self.first c.reserve_to.new.items.items c.reserve_to-2.new.items.items c.in_ok-push_back.ensures.ok (ap (λ (n : ℕ). record { place = n; task = c.task_for.result }) place) told (c.ask.ensures.1 ∙ c.in_ok-reserve.ensures.same.1) c.in_ok-reserve_to.ensures.same.0 c.in_ok-reserve_to-2.ensures.same.0
            ∙ ap (world_asked c.args.lane c.task_for.result c.index_mut.result.now) c.self.view_is;
      },
    )
