use Rattle.std.proofs.Common.{◌≡◌, ℕ, List, Some, sym, ◌∙◌, subst}
use Rattle.disk_model.specs.Disk.{IfTold, Keeps, reading}
use Rattle.disk_model.specs.declared.name.FileName.{FileName}
use Rattle.disk_model.proofs.IdleLemmas.{idle-begins}
use Rattle.model_logs.specs.declared.log_head.LogHead.{LogHead}
use Rattle.model_logs.specs.LogFile.{IsLog}
use Rattle.gate_log.specs.Text.{IsLogText}
use Rattle.gate_log.proofs.OpenLogLemmas.{found-mid, found_kept-mid}
use Rattle.gate_log.proofs.found.inspect_text.Given.{Over}
use Rattle.gate_log.proofs.found.inspect_text.Goals.{After-found_in-found}
use Rattle.gate_log.proofs.found.inspect_text.Goals as goal

log : (g : Over) (c : After-found_in-found g) (entries : List (List ℕ)) → IsLogText c.in_ok-text.text entries → IsLog c.in_ok-text.text.octets c.found_in-found.result.head entries
log g c entries t = subst (λ (h : LogHead). IsLog c.in_ok-text.text.octets h entries) (sym c.found_in-found.ensures.log.1) t.log

-- the file reads what the text has
told : (g : Over) (c : After-found_in-found g) → IfTold (g.D.Disk.history c.args.disk.now) (λ now. reading (now c.found_in-found.result.name) ≡ Some c.in_ok-text.text.octets)
told g c = rw (c.found_in-found.ensures.log.0, c.in_ok-text.ensures.checked.2, c.of.ensures) c.in_ok-octets.ensures.octets

pub returns-clause-octets : goal.returns-clause-octets
returns-clause-octets g c = rw (c.in_ok-text.ensures.checked.2, c.of.ensures) c.in_ok-octets.ensures.octets

pub returns-clause-found : goal.returns-clause-found
returns-clause-found g c = λ entries t.
    let d = (goal.at.returns-clause-found g c).After-found_in-found in
    let l = log g d entries t in
    let e = c.found_in-found.ensures.end entries l t.end in
    found-mid c.found_in-found.result entries c.in_ok-text.text.octets _ _ l (c.found_in-found.ensures.log.2 ∙ t.end) (c.found_in-found.ensures.log.3 ∙ t.count) e.0 e.1 (idle-begins _) (told g d)

pub returns-clause-stands : goal.returns-clause-stands
returns-clause-stands g c = λ entries t.
    let d = (goal.at.returns-clause-stands g c).After-found_in-found in
    let l = log g d entries t in
    let e = c.found_in-found.ensures.end entries l t.end in
    found-mid c.found_in-found.result entries c.in_ok-text.text.octets _ _ l (c.found_in-found.ensures.log.2 ∙ t.end) (c.found_in-found.ensures.log.3 ∙ t.count) e.0 e.1 c.in_ok-octets.ensures.idle (told g d)

pub returns-clause-kept : goal.returns-clause-kept
returns-clause-kept g c = λ entries octets t k.
    let d = (goal.at.returns-clause-kept g c).After-found_in-found in
    let l = log g d entries t in
    let e = c.found_in-found.ensures.end entries l t.end in
    found_kept-mid c.found_in-found.result entries c.in_ok-text.text.octets octets _ _ l (c.found_in-found.ensures.log.2 ∙ t.end) (c.found_in-found.ensures.log.3 ∙ t.count) e.0 e.1 c.in_ok-octets.ensures.idle (told g d)
    (subst (λ (n : FileName). IfTold (g.D.Disk.history c.args.disk.now) (λ now. Keeps (now n) octets)) (sym c.found_in-found.ensures.log.0) k)
