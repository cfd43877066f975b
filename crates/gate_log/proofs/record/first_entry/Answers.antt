use Rattle.std.proofs.Common.{◌≡◌, ◌<◌, ◌≤◌, ◌+◌, ℕ, List, length, take, drop, sym, ◌∙◌, ap, arith}
use Rattle.std.specs.Int.{w32, from_be_bytes}
use Rattle.model_logs.proofs.LogRecordLemmas.{said, record_there}
use Rattle.gate_log.proofs.HeadLemmas.{octets_of}
use Rattle.gate_log.proofs.record.first_entry.Goals as goal

pub returns : goal.returns
returns c =
    let four : c.in_ok-size.size.now ≡ take 4 c.args.octets.now = c.in_ok-size.ensures.cases.0 in
    let behind : c.in_ok-size.behind.now ≡ drop 4 c.args.octets.now = c.in_ok-size.ensures.cases.1 in
    let whole : length c.in_ok-size.behind.now + 4 ≡ length c.args.octets.now = c.in_ok-size.ensures.cases.2 in
    let size : c.from_be_bytes-size.result ≡ said c.args.octets.now = c.from_be_bytes-size.ensures ∙ ap (from_be_bytes w32) four in
    let some : 1 ≤ said c.args.octets.now = omega (arith, size, c.if-size-eq0.false) in
    let within : 4 + said c.args.octets.now < length c.args.octets.now = omega (arith, size, whole, c.if-behind-size.false) in
    let r = record_there c.args.octets.now (octets_of c.args.octets.now c.type_inv.octets) some within in
    (r.0, r.1 ∙ ap (λ (n : ℕ). take n (drop 4 c.args.octets.now)) (sym size) ∙ ap (λ (t : List ℕ). take c.from_be_bytes-size.result t) (sym behind))
