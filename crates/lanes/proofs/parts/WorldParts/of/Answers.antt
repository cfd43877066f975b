use Rattle.std.proofs.Common.{rules, ◌≡◌, ℕ, List, Option, None, length, replicate, sym, ◌∙◌, ap, arith}
use Rattle.mdbox_base.specs.declared.replies.Reply.{Reply}
use Rattle.mdbox_base.specs.declared.script.JournalEntry.{JournalEntry}
use Rattle.serving.specs.Turns.{LaneTurn}
use Rattle.lanes.proofs.PartsLemmas.{parts_fresh, parts_of, replies_many}
use Rattle.lanes.proofs.parts.WorldParts.of.Goals as goal

pub invariant_of-result : goal.invariant_of-result
invariant_of-result c =
    let requests : c.length-requests.result ≡ length c.args.script.requests = c.length-requests.ensures in
    let items : c.in_ok-none.field-0.given ≡ replicate c.length-requests.result None = c.in_ok-none.ensures.0 in
    let many : length c.in_ok-none.field-0.given ≡ c.length-requests.result = ap (λ (rs : List (Option Reply)). length rs) items ∙ replies_many c.length-requests.result in
    let from = c.in_ok-lanes_for.ensures.1 in
    let lanes : length c.in_ok-lanes_for.field-0.items ≡ c.args.script.lanes = from.0 in
    let zeros : c.in_ok-vec.field-0.items ≡ replicate c.args.script.lanes 0 = search rules in
    let journal_room = c.in_ok-with_capacity.ensures.capacity in
    let turns_room = c.in_ok-with_capacity-3.ensures.capacity in (
      parts_fresh c.args.script.requests c.args.script.lanes (length c.in_ok-none.field-0.given) c.in_ok-lanes_for.field-0.items from c.requires.lanes.2 (many ∙ requests) c.requires.few,
      record {
        lanes_are = c.in_ok-lanes_for.ensures.0;
        replied_are = c.in_ok-vec.field-0.ok.0;
        journal_is = c.in_ok-with_capacity.ensures.len ∙ sym (ap (λ (es : List JournalEntry). length es) c.in_ok-with_capacity.ensures.items);
        journal_room = omega (arith, many, journal_room);
        broken_is = c.in_ok-with_capacity-2.ensures.len ∙ sym (ap (λ (es : List JournalEntry). length es) c.in_ok-with_capacity-2.ensures.items);
        broken_room = c.in_ok-with_capacity-2.ensures.capacity;
        turns_are = c.in_ok-with_capacity-3.ensures.len ∙ sym (ap (λ (ts : List LaneTurn). length ts) c.in_ok-with_capacity-3.ensures.items);
        turns_room = turns_room;
      },
      record {
        unreplied = items ∙ ap (λ (n : ℕ). replicate n None) (sym many);
        scripted_are = c.in_ok-none.ensures.1 ∙ sym many;
        none_replied = zeros ∙ ap (λ (n : ℕ). replicate n 0) (sym lanes);
        no_entries = c.in_ok-with_capacity.ensures.items;
        none_broken = c.in_ok-with_capacity-2.ensures.items;
        no_turns = c.in_ok-with_capacity-3.ensures.items;
        room_is = omega (arith, many, lanes);
      },
    )

pub returns : goal.returns
returns c =
    let requests : c.length-requests.result ≡ length c.args.script.requests = c.length-requests.ensures in
    let items : c.in_ok-none.field-0.given ≡ replicate c.length-requests.result None = c.in_ok-none.ensures.0 in
    let many : length c.in_ok-none.field-0.given ≡ c.length-requests.result = ap (λ (rs : List (Option Reply)). length rs) items ∙ replies_many c.length-requests.result in
    parts_of c.args.script.requests c.args.script.lanes (length c.in_ok-none.field-0.given) c.in_ok-lanes_for.field-0.items c.in_ok-lanes_for.ensures.1 (many ∙ requests)
