use Rattle.std.proofs.Common.{◌≡◌, ◌-◌, [], List, Option, Some, length, slice_get, slice_set, sym, ◌∙◌, ap, subst, arith}
use Rattle.std.proofs.lemmas.List.{append-nil, length-set}
use Rattle.std.proofs.lemmas.Option.{slice_get-get_or}
use Rattle.attach_detach.specs.declared.message.Prepared.{Prepared}
use Rattle.journal.specs.Journal.{Requests}
use Rattle.lanes.specs.Rows.{LaneRow}
use Rattle.lanes.specs.Worlds.{AreGiven, AreRowsFrom}
use Rattle.lanes.proofs.PartsLemmas.{Behind, behind_more, last_lane, none_left, rows_empty}
use Rattle.lanes.proofs.parts.lanes_for.Goals as goal

pub loop-lane-init : goal.loop-lane-init
loop-lane-init c =
    let requests : c.into_vec-requests.result.items ≡ c.args.script.requests = c.into_vec-requests.ensures in
    let lanes = c.in_ok-lanes.ensures.0 in
    let first = rows_empty c.args.script.requests c.args.script.lanes (length c.into_vec-requests.result.items) in record {
      behind = ([], sym requests ∙ sym (append-nil c.into_vec-requests.result.items), subst (λ (rows : List LaneRow). AreRowsFrom c.args.script.requests c.args.script.lanes (length c.into_vec-requests.result.items) [] rows) (sym lanes) first);
      given = subst (λ (rs : Requests). AreGiven rs c.into_vec-prepared.result.items) (sym requests) (subst (λ (gs : List (Option Prepared)). AreGiven c.args.script.requests gs) (sym c.into_vec-prepared.ensures) c.requires.given);
      prepared_len = c.into_vec-prepared.result.ok.0;
      requests_len = c.into_vec-requests.result.ok.0;
      lanes_len = c.in_ok-lanes.lanes.ok.0;
    }

pub overflow_sub-lane : goal.overflow_sub-lane
overflow_sub-lane c = (last_lane c.args.script.requests c.args.script.lanes c.loop-lane.requests.items c.pop.new.self.items (c.in-Some.lane, c.in-Some.request) c.loop-lane.lanes.items c.requires.lanes c.loop-lane.invariant.behind c.in-Some.ensures.items).0

pub index_mut-requires : goal.index_mut-requires
index_mut-requires c =
    let number = last_lane c.args.script.requests c.args.script.lanes c.loop-lane.requests.items c.pop.new.self.items (c.in-Some.lane, c.in-Some.request) c.loop-lane.lanes.items c.requires.lanes c.loop-lane.invariant.behind c.in-Some.ensures.items in
    let low = number.0 in
    let high = number.1 in
    let many = c.loop-lane.invariant.behind.2.0 in
    let len = c.loop-lane.invariant.lanes_len in
    omega (arith, low, high, many, len)

pub loop-lane-preserved : goal.loop-lane-preserved
loop-lane-preserved c =
    let number = last_lane c.args.script.requests c.args.script.lanes c.loop-lane.requests.items c.pop.new.self.items (c.in-Some.lane, c.in-Some.request) c.loop-lane.lanes.items c.requires.lanes c.loop-lane.invariant.behind c.in-Some.ensures.items in
    let low = number.0 in
    let high = number.1 in
    let many = c.loop-lane.invariant.behind.2.0 in
    let here : slice_get c.loop-lane.lanes.items (c.in-Some.lane - 1) ≡ Some c.index_mut.result.now = slice_get-get_or c.loop-lane.lanes.items (c.in-Some.lane - 1) c.index_mut.result.now (omega (arith, low, high, many)) ∙ ap (λ (r : LaneRow). Some r) (sym c.index_mut.ensures.value) in
    let at : c.len.result ≡ length c.pop.new.self.items = c.len.ensures ∙ c.pop.new.self.ok.0 in
    let more = behind_more c.args.script.requests c.args.script.lanes c.loop-lane.requests.items c.pop.new.self.items c.in-Some.lane c.in-Some.request c.loop-lane.lanes.items c.index_mut.result.now (record { place = c.len.result; task = c.task_for.result }) c.loop-lane.invariant.behind c.in-Some.ensures.items low here at c.task_for.ensures in record {
      behind = subst (λ (rows : List LaneRow). Behind c.args.script.requests c.args.script.lanes c.pop.new.self.items rows) (ap (λ (r : LaneRow). slice_set c.loop-lane.lanes.items (c.in-Some.lane - 1) r) (sym c.in_ok-push_front.ensures.ok)) more;
      given = (c.last_given-given.ensures.given c.pop.new.self.items c.in-Some.lane c.in-Some.request (subst (λ (rs : Requests). AreGiven rs c.loop-lane.prepared.items) c.in-Some.ensures.items c.loop-lane.invariant.given)).0;
      prepared_len = c.last_given-given.ensures.len;
      requests_len = c.pop.new.self.ok.0;
      lanes_len = c.loop-lane.invariant.lanes_len ∙ sym (length-set c.loop-lane.lanes.items (c.in-Some.lane - 1) c.push_front.new.self);
    }

pub returns : goal.returns
returns c =
    let e = c.in_default.ensures.cases in
    let len = c.loop-lane.requests.ok.0 in
    let none : length c.loop-lane.requests.items ≡ 0 = sym len ∙ e.0 in
    (c.loop-lane.invariant.lanes_len, none_left c.args.script.requests c.args.script.lanes c.loop-lane.requests.items c.loop-lane.lanes.items c.loop-lane.invariant.behind none)
