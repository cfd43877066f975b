use Rattle.std.proofs.Common.{◌<◌, get_or, Fits, w8, arith}
use Rattle.std.proofs.lemmas.List.Elements.{All-from_get_or}
use Rattle.printed_replies.proofs.known.known_octets.Goals as goal

pub returns : goal.returns
returns c = All-from_get_or (λ octet. octet < 256) c.args.octets.now 0 (λ k below. let f : Fits w8 (get_or c.args.octets.now k 0) = c.type_inv.octets k in omega arith)
