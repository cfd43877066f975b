use Rattle.std.proofs.Common.{sym, ◌∙◌}
use Rattle.gate_log.specs.Text.{IsLogText}
use Rattle.gate_log.proofs.TextLemmas.{text-read}
use Rattle.gate_log.proofs.found.inspect_log.Given.{Over}
use Rattle.gate_log.proofs.found.inspect_log.Goals.{In_ok-read}
use Rattle.gate_log.proofs.found.inspect_log.Goals as goal

-- the text is a log with the entries that were read
text : (g : Over) (c : In_ok-read g) → IsLogText c.in_ok-found.text c.in_ok-read.read.entries
text g c = text-read c.in_ok-found.text c.as_slice.result.now c.args.head c.in_ok-read.read c.in_ok-found.ensures.text c.in_ok-found.ensures.log.3 c.as_slice.ensures c.in_ok-read.ensures.read

pub returns-clause-log : goal.returns-clause-log
returns-clause-log g c =
    let found = c.in_ok-found.ensures.log in
    let t = text g (goal.at.returns-clause-log g c).In_ok-read in
    (found.0, found.1, found.2 ∙ t.end ∙ sym c.in_ok-read.ensures.read.0.end, c.in_ok-read.ensures.read.1, found.4 ∙ t.count)

pub returns-clause-found : goal.returns-clause-found
returns-clause-found g c = c.in_ok-found.ensures.found c.in_ok-read.read.entries (text g (goal.at.returns-clause-found g c).In_ok-read)

pub returns-clause-stands : goal.returns-clause-stands
returns-clause-stands g c = c.in_ok-found.ensures.stands c.in_ok-read.read.entries (text g (goal.at.returns-clause-stands g c).In_ok-read)

pub returns-clause-kept : goal.returns-clause-kept
returns-clause-kept g c = λ octets k. c.in_ok-found.ensures.kept c.in_ok-read.read.entries octets (text g (goal.at.returns-clause-kept g c).In_ok-read) k
