use Rattle.std.proofs.Common.{rules, ◌≡◌, length}
use Rattle.saved_message.proofs.GuidLemmas.{sixteen_octets}
use Rattle.saved_message.proofs.place.joined.Goals as goal

pub returns : goal.returns
returns c =
    let first : length c.args.first ≡ 8 = search rules in
    let second : length c.args.second ≡ 4 = search rules in
    let third : length c.args.third ≡ 4 = search rules in
    sixteen_octets c.args.first c.args.second c.args.third first second third
