use Rattle.std.proofs.Common.{◌≡◌, ◌-◌, ℕ, List, length, Option, refl, sym, ◌∙◌, ap, subst, arith}
use Rattle.std.proofs.lemmas.List.{length-set}
use Rattle.mdbox_base.specs.declared.replies.Reply.{Reply}
use Rattle.task_steps.specs.Step.{ended_by}
use Rattle.lanes.specs.Worlds.{IsIdleLane, WorldValue}
use Rattle.lanes.proofs.LeftLemmas.{left_from}
use Rattle.lanes.proofs.RoomLemmas.{has_room, row_ready}
use Rattle.lanes.proofs.SoundLemmas.{place_within, replied_many, replies_many, sound_on, works_made, row_read}
use Rattle.lanes.proofs.WorldLemmas.{works_from}
use Rattle.lanes.proofs.world.World.work.Goals as goal

pub advance-requires-clause-ready : goal.advance-requires-clause-ready
advance-requires-clause-ready g c =
    let there = row_read _ _ c.args.lane c.index_mut.result.now c.self.view_is c.requires.lane c.index_mut.ensures.value in
    row_ready (c.args.lane - 1) c.index_mut.result.now _ _ c.self.invariant.0 there

pub advance-requires-clause-room : goal.advance-requires-clause-room
advance-requires-clause-room g c = has_room _ _ c.self.invariant.0

-- the lane has a request left
pub returns-in_default-clause-works : goal.returns-in_default-clause-works
returns-in_default-clause-works g c =
    let there = row_read _ _ c.args.lane c.index_mut.result.now c.self.view_is c.requires.lane c.index_mut.ensures.value in
    let none = c.in_default.ensures.none refl in
    absurd (c.requires.busy (subst (λ (w : WorldValue _). IsIdleLane c.args.lane w.rows) c.self.view_is (c.index_mut.result.now, there, none.0, none.1)))

pub returns-in_default-clause-left : goal.returns-in_default-clause-left
returns-in_default-clause-left g c =
    let there = row_read _ _ c.args.lane c.index_mut.result.now c.self.view_is c.requires.lane c.index_mut.ensures.value in
    let none = c.in_default.ensures.none refl in
    absurd (c.requires.busy (subst (λ (w : WorldValue _). IsIdleLane c.args.lane w.rows) c.self.view_is (c.index_mut.result.now, there, none.0, none.1)))

pub keep_reply-requires : goal.keep_reply-requires
keep_reply-requires g c =
    let there = row_read _ _ c.args.lane c.index_mut.result.now c.self.view_is c.requires.lane c.index_mut.ensures.value in
    let inside = place_within (c.args.lane - 1) c.index_mut.result.now c.advance.new.self c.in-Some.event _ _ _ _ _ _ _ c.in-Some.ensures.some _ c.self.invariant.0 there in
    inside

pub returns-clause-works : goal.returns-clause-works
returns-clause-works g c =
    let there = row_read _ _ c.args.lane c.index_mut.result.now c.self.view_is c.requires.lane c.index_mut.ensures.value in
    let room = c.self.invariant.1 in
    works_from g.D.Disk.history g.D.Disk.faults (c.args.lane - 1) _ _ _ c.self.view_is
    (works_made c.args.lane _ c.advance.new.store c.keep_reply.new.replies.given c.keep_reply.new.replies.first c.keep_count.new.counts.items c.keep_step.new.journal.items c.keep_broken.new.broken.items _ _ _ _ c.index_mut.result.now c.advance.new.self c.in-Some.event
    c.moment-earlier.result c.moment-later.result c.saturating_sub-made.result c.saturating_sub-broken.result _ _ c.requires.lane.0 c.self.invariant.0 there c.in-Some.ensures.some c.keep_reply.ensures.replies c.keep_reply.ensures.same c.keep_count.ensures.counts
    c.moment-earlier.ensures c.moment-later.ensures c.saturating_sub-made.ensures c.saturating_sub-broken.ensures c.keep_step.ensures.added (λ short. omega (arith, short, room)) c.keep_broken.ensures.added (λ short. omega (arith, short, room)))

pub returns-clause-left : goal.returns-clause-left
returns-clause-left g c =
    let there = row_read _ _ c.args.lane c.index_mut.result.now c.self.view_is c.requires.lane c.index_mut.ensures.value in
    let room = c.self.invariant.1 in
    let w = works_made c.args.lane _ c.advance.new.store c.keep_reply.new.replies.given c.keep_reply.new.replies.first c.keep_count.new.counts.items c.keep_step.new.journal.items c.keep_broken.new.broken.items _ _ _ _ c.index_mut.result.now c.advance.new.self c.in-Some.event
    c.moment-earlier.result c.moment-later.result c.saturating_sub-made.result c.saturating_sub-broken.result _ _ c.requires.lane.0 c.self.invariant.0 there c.in-Some.ensures.some c.keep_reply.ensures.replies c.keep_reply.ensures.same c.keep_count.ensures.counts
    c.moment-earlier.ensures c.moment-later.ensures c.saturating_sub-made.ensures c.saturating_sub-broken.ensures c.keep_step.ensures.added (λ short. omega (arith, short, room)) c.keep_broken.ensures.added (λ short. omega (arith, short, room)) in
    left_from (c.args.lane - 1) _ c.args.self.now _ _ _ _ _ c.self.view_is w c.self.invariant.0

pub invariant_of-self-2 : goal.invariant_of-self-2
invariant_of-self-2 g c =
    let there = row_read _ _ c.args.lane c.index_mut.result.now c.self.view_is c.requires.lane c.index_mut.ensures.value in
    let room = c.self.invariant.1 in
    let w = works_made c.args.lane _ c.advance.new.store c.keep_reply.new.replies.given c.keep_reply.new.replies.first c.keep_count.new.counts.items c.keep_step.new.journal.items c.keep_broken.new.broken.items _ _ _ _ c.index_mut.result.now c.advance.new.self c.in-Some.event
    c.moment-earlier.result c.moment-later.result c.saturating_sub-made.result c.saturating_sub-broken.result _ _ c.requires.lane.0 c.self.invariant.0 there c.in-Some.ensures.some c.keep_reply.ensures.replies c.keep_reply.ensures.same c.keep_count.ensures.counts
    c.moment-earlier.ensures c.moment-later.ensures c.saturating_sub-made.ensures c.saturating_sub-broken.ensures c.keep_step.ensures.added (λ short. omega (arith, short, room)) c.keep_broken.ensures.added (λ short. omega (arith, short, room)) in
    let replies : length c.keep_reply.new.replies.given ≡ length c.self.inside.replies.given = ap (λ (rs : List (Option Reply)). length rs) c.keep_reply.ensures.replies ∙ replies_many (ended_by c.in-Some.event.ended) c.in-Some.event.place c.self.inside.replies.given in
    let replied : length c.keep_count.new.counts.items ≡ length c.self.inside.replied.items = ap (λ (ns : List ℕ). length ns) c.keep_count.ensures.counts ∙ replied_many (ended_by c.in-Some.event.ended) (c.args.lane - 1) c.self.inside.replied.items in
    let journal_grows = c.keep_step.ensures.room.0 in
    let broken_grows = c.keep_broken.ensures.room.0 in (
      sound_on (c.args.lane - 1) _ _ _ _ _ _ w c.self.invariant.0,
      record {
        lanes_are = room.lanes_are ∙ sym (length-set c.self.inside.lanes.items (c.args.lane - 1) c.advance.new.self);
        replied_are = c.keep_count.ensures.same ∙ (room.replied_are ∙ sym replied);
        journal_is = c.keep_step.ensures.room.1 room.journal_is;
        journal_room = omega (arith, replies, journal_grows, room);
        broken_is = c.keep_broken.ensures.room.1 room.broken_is;
        broken_room = omega (arith, broken_grows, room);
        turns_are = room.turns_are;
        turns_room = room.turns_room;
      },
    )
