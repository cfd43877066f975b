use Rattle.std.proofs.Common.{◌≡◌, ◌%◌, ◌∙◌, ◌++◌, List, ℕ, length, length-append, take, sym, ap, append_assoc, arith}
use Rattle.model_base64.specs.Base64Text.{padded}
use Rattle.b64_lines.specs.Pairs.{symbols_of}
use Rattle.b64_lines.proofs.PairLemmas.{padded_parts}
use Rattle.b64_lines.proofs.WriterLemmas.{behind_later}
use Rattle.b64_lines.proofs.writer.put_encoded.Goals as goal

pub put_groups-end-requires-clause-room : goal.put_groups-end-requires-clause-room
put_groups-end-requires-clause-room c =
    let groups = c.split_at.result.0.now in
    let last = c.split_at.result.1.now in
    let three : length groups % 3 ≡ 0 = (let long = c.split_at.ensures.front_len in omega (arith, long)) in
    let parts = ap length (padded_parts c.args.octets.now groups last c.split_at.ensures.by_index.0 three) in
    let both = length-append (symbols_of groups) (padded last) in
    let room = c.requires.room in
    omega (arith, parts, both, room)

pub put_last-requires : goal.put_last-requires
put_last-requires c =
    let groups = c.split_at.result.0.now in
    let last = c.split_at.result.1.now in
    let three : length groups % 3 ≡ 0 = (let long = c.split_at.ensures.front_len in omega (arith, long)) in
    let parts = ap length (padded_parts c.args.octets.now groups last c.split_at.ensures.by_index.0 three) in
    let both = length-append (symbols_of groups) (padded last) in
    let room = c.requires.room in
    let end = c.put_groups-end.ensures.end in
    let same = c.put_groups-end.ensures.size in
    omega (arith, parts, both, room, end, same)

pub returns-else-is_empty-clause-put : goal.returns-else-is_empty-clause-put
returns-else-is_empty-clause-put c =
    let groups = c.split_at.result.0.now in
    let last = c.split_at.result.1.now in
    let three : length groups % 3 ≡ 0 = (let long = c.split_at.ensures.front_len in omega (arith, long)) in
    c.put_last.ensures.put ∙ ap (λ (xs : List ℕ). xs ++ padded last) c.put_groups-end.ensures.put ∙ append_assoc (take c.args.at c.args.into.now) (symbols_of groups) (padded last)
    ∙ ap (λ (xs : List ℕ). take c.args.at c.args.into.now ++ xs) (sym (padded_parts c.args.octets.now groups last c.split_at.ensures.by_index.0 three))

pub returns-else-is_empty-clause-behind : goal.returns-else-is_empty-clause-behind
returns-else-is_empty-clause-behind c =
    let end = c.put_last.ensures.end in
    c.put_last.ensures.behind ∙ behind_later c.put_groups-end.result c.put_last.result c.args.into.now c.put_groups-end.new.into (omega (arith, end)) c.put_groups-end.ensures.behind

pub returns-else-is_empty-clause-end : goal.returns-else-is_empty-clause-end
returns-else-is_empty-clause-end c =
    let groups = c.split_at.result.0.now in
    let last = c.split_at.result.1.now in
    let three : length groups % 3 ≡ 0 = (let long = c.split_at.ensures.front_len in omega (arith, long)) in
    let parts = ap length (padded_parts c.args.octets.now groups last c.split_at.ensures.by_index.0 three) in
    let both = length-append (symbols_of groups) (padded last) in
    let end = c.put_groups-end.ensures.end in
    let all = c.put_last.ensures.end in
    omega (arith, parts, both, end, all)
