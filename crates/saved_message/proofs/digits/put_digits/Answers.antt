use Rattle.std.proofs.Common.{rules, ◌≡◌, ◌<◌, get_or, length, Fits, w8, arith}
use Rattle.std.proofs.lemmas.List.Elements.{All-from_get_or}
use Rattle.saved_message.proofs.digits.put_digits.Goals as goal

pub returns-clause-octets : goal.returns-clause-octets
returns-clause-octets c =
    let long : length c.args.octets ≡ 16 = search rules in
    record { long = long; each = All-from_get_or (λ octet. octet < 256) c.args.octets 0 (λ k below. let f : Fits w8 (get_or c.args.octets k 0) = search rules in omega arith) }
