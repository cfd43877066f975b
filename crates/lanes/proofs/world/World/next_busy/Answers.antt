use Rattle.std.proofs.Common.{◌+◌, List, length, sym, ◌∙◌, subst}
use Rattle.std.proofs.lemmas.Option.{IfSome_then}
use Rattle.serving.specs.Serving.{AreIdle}
use Rattle.lanes.specs.Rows.{LaneRow, lanes_of}
use Rattle.lanes.specs.Worlds.{AreIdleBetween, IsNextBusy, WorldValue}
use Rattle.lanes.proofs.RoundLemmas.{next_on, next_round}
use Rattle.lanes.proofs.SoundLemmas.{idle_between}
use Rattle.lanes.proofs.world.World.next_busy.Goals as goal

-- a lane behind the last one
pub returns-then-is_some-clause-some : goal.returns-then-is_some-clause-some
returns-then-is_some-clause-some g c = IfSome_then c.first_busy-next.result c.first_busy-next.ensures.some (λ lane f.
    subst (λ (w : WorldValue _). IsNextBusy c.args.last lane w.rows) c.self.view_is
    (subst (λ (rows : List LaneRow). IsNextBusy c.args.last lane rows) c.as_slice.ensures.value (next_on c.args.last lane c.as_slice.result.now f.0 f.1 f.2 f.3)))

-- there is none, and it is the first of all
pub returns-clause-some : goal.returns-clause-some
returns-clause-some g c =
    let behind = subst (λ (rows : List LaneRow). AreIdleBetween c.args.last (length rows + 1) rows) c.as_slice.ensures.value (c.first_busy-next.ensures.none (sym c.is_some.ensures ∙ c.if-is_some.false)) in
    IfSome_then c.first_busy.result c.first_busy.ensures.some (λ lane f.
    subst (λ (w : WorldValue _). IsNextBusy c.args.last lane w.rows) c.self.view_is
    (subst (λ (rows : List LaneRow). AreIdleBetween c.args.last (length rows + 1) rows → IsNextBusy c.args.last lane rows) c.as_slice-2.ensures.value (λ none. next_round c.args.last lane c.as_slice-2.result.now f.0 f.1 f.2 f.3 none) behind))

pub returns-clause-none : goal.returns-clause-none
returns-clause-none g c = λ none.
    subst (λ (w : WorldValue _). AreIdle (lanes_of w.rows)) c.self.view_is (idle_between c.self.inside.lanes.items (subst (λ (rows : List LaneRow). AreIdleBetween 0 (length rows + 1) rows) c.as_slice-2.ensures.value (c.first_busy.ensures.none none)))
