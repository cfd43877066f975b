use Rattle.std.proofs.Common.{◌+◌, ◌-◌, ◌++◌, ◌∙◌, length, take, drop, ap, arith}
use Rattle.std.specs.Prelude.{slice_index}
use Rattle.b64_lines.specs.Pairs.{pair_of}
use Rattle.b64_lines.proofs.PairLemmas.{group_room, pairs_begin, pairs_end, pairs_go_on, three_first}
use Rattle.b64_lines.proofs.pairs.put_groups.Goals as goal

pub loop-rest-init : goal.loop-rest-init
loop-rest-init c = pairs_begin c.args.octets.now c.args.at c.args.into.now c.requires.room c.requires.groups

pub put_pair-requires-clause-room : goal.put_pair-requires-clause-room
put_pair-requires-clause-room c =
    let rest = c.loop-rest.rest.now in
    let room = group_room c.args.octets.now c.args.at c.args.into.now rest c.loop-rest.at c.loop-rest.into (slice_index rest 0) (slice_index rest 1) (slice_index rest 2) (take (length rest - 3) (drop 3 rest)) c.loop-rest.invariant (three_first rest c.in-len3-up.len_at_least) in
    omega (arith, room)

pub put_pair-requires-in-len3-up-clause-room : goal.put_pair-requires-in-len3-up-clause-room
put_pair-requires-in-len3-up-clause-room c =
    let rest = c.loop-rest.rest.now in
    let room = group_room c.args.octets.now c.args.at c.args.into.now rest c.loop-rest.at c.loop-rest.into (slice_index rest 0) (slice_index rest 1) (slice_index rest 2) (take (length rest - 3) (drop 3 rest)) c.loop-rest.invariant (three_first rest c.in-len3-up.len_at_least) in
    let same = c.put_pair.ensures.size in
    omega (arith, room, same)

pub loop-rest-preserved : goal.loop-rest-preserved
loop-rest-preserved c =
    let rest = c.loop-rest.rest.now in
    let octets = c.bits_of-first.ensures.octets in
    let bits = c.bits_of-first.ensures.bits in
    pairs_go_on c.args.octets.now c.args.at c.args.into.now rest c.loop-rest.at c.loop-rest.into c.put_pair.new.into c.put_pair-in-len3-up.new.into (slice_index rest 0) (slice_index rest 1) (slice_index rest 2) (take (length rest - 3) (drop 3 rest))
    c.loop-rest.invariant (three_first rest c.in-len3-up.len_at_least) octets.0 octets.1 octets.2
    (c.put_pair.ensures.put ∙ ap (λ n. take c.loop-rest.at c.loop-rest.into ++ pair_of n) bits.0) c.put_pair.ensures.behind c.put_pair.ensures.size
    (c.put_pair-in-len3-up.ensures.put ∙ ap (λ n. take (c.loop-rest.at + 2) c.put_pair.new.into ++ pair_of n) bits.1) c.put_pair-in-len3-up.ensures.behind c.put_pair-in-len3-up.ensures.size

pub returns-clause-put : goal.returns-clause-put
returns-clause-put c = (pairs_end c.args.octets.now c.args.at c.args.into.now c.loop-rest.rest.now c.loop-rest.at c.loop-rest.into c.loop-rest.invariant c.in_default.len_below).0

pub returns-clause-end : goal.returns-clause-end
returns-clause-end c = (pairs_end c.args.octets.now c.args.at c.args.into.now c.loop-rest.rest.now c.loop-rest.at c.loop-rest.into c.loop-rest.invariant c.in_default.len_below).1
