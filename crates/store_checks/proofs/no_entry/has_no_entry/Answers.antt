use Rattle.std.proofs.Common.{inr, refl}
use Rattle.std.proofs.lemmas.Bool.{false≢true}
use Rattle.store_checks.proofs.NoEntryLemmas.{closed, whole}
use Rattle.store_checks.proofs.no_entry.has_no_entry.Goals as goal
use Rattle.store_checks.proofs.no_entry.has_no_entry.Goals.{in-Ok, in-Err-LogDamaged, in-Err}

pub returns : goal.returns
returns c = elim c.match-read_log.branch [
  | in-Ok w ↦ rw w.result-is ((λ _. inr (closed c.args.octets.now w.in-Ok.field-0.head w.in-Ok.field-0.entries c.if-octets-lt-FRONT_SIZE.false w.in-Ok.ensures.read.log)), λ _. refl)
  | in-Err-LogDamaged w ↦ rw w.result-is ((λ e. absurd (false≢true e)), λ none. absurd (whole c.args.octets.now w.in-Err-LogDamaged.field-0-0 c.if-octets-lt-FRONT_SIZE.false (rw w.in-Err-LogDamaged.field-0-is at w.in-Err-LogDamaged.ensures.refused) none))
  | in-Err w ↦ rw w.result-is tt
]
