use Rattle.map_index.proofs.Common.{◌∙◌, sym, ap, List, MapRecord}
use Rattle.model_meaning.proofs.AppliedLemmas.{records_by_raised, records_by_lowered, records_by_counted, records_by_deleted}
use Rattle.map_index.proofs.MapAppliedLemmas.{records_stay}
use Rattle.map_index.proofs.changes.change_records.Goals as goal

pub switch-requires-clause-moved : goal.switch-requires-clause-moved
switch-requires-clause-moved c = (rw (c.in-P.is, ← c.as_slice.ensures) at c.requires.fits).0

pub switch-requires-clause-dropped : goal.switch-requires-clause-dropped
switch-requires-clause-dropped c = (rw (c.in-P.is, ← c.as_slice-in-P.ensures) at c.requires.fits).1

pub switch-requires-clause-places : goal.switch-requires-clause-places
switch-requires-clause-places c = (rw (c.in-P.is, ← c.as_slice.ensures) at c.requires.fits).2

pub returns-in-P : goal.returns-in-P
returns-in-P c = rw c.in-P.is (rw (c.as_slice.ensures, c.as_slice-in-P.ensures) at c.switch.ensures)

pub raise-requires : goal.raise-requires
raise-requires c = rw c.in-U.is at c.requires.fits

pub returns-in-U : goal.returns-in-U
returns-in-U c = rw c.in-U.is (c.raise.ensures ∙ ap (λ (rs : List MapRecord). record c.args.records.now { records = rs }) (sym (records_by_raised c.in-U.uid c.args.records.now.records)))

pub lower_each-requires : goal.lower_each-requires
lower_each-requires c = rw (c.in-D.is, ← c.as_slice-in-D.ensures) at c.requires.fits

pub returns-in-D : goal.returns-in-D
returns-in-D c = rw c.in-D.is ((rw c.as_slice-in-D.ensures at c.lower_each.ensures) ∙ ap (λ (rs : List MapRecord). record c.args.records.now { records = rs }) (sym (records_by_lowered c.in-D.uids c.args.records.now.records)))

pub set_counts-requires : goal.set_counts-requires
set_counts-requires c = rw (c.in-T.is, ← c.as_slice-in-T.ensures) at c.requires.fits

pub returns-in-T : goal.returns-in-T
returns-in-T c = rw c.in-T.is ((rw c.as_slice-in-T.ensures at c.set_counts.ensures) ∙ ap (λ (rs : List MapRecord). record c.args.records.now { records = rs }) (sym (records_by_counted c.in-T.counts c.args.records.now.records)))

pub returns-in_default : goal.returns-in_default
returns-in_default c = ap (λ (rs : List MapRecord). record c.args.records.now { records = rs }) (sym (records_stay c.args.entry.now c.requires.changes c.in_default.not-P c.in_default.not-U c.in_default.not-D c.in_default.not-T c.in_default.not-X c.args.records.now.records))

pub lower_by_each-requires : goal.lower_by_each-requires
lower_by_each-requires c = rw (c.in-X.is, ← c.as_slice-in-X.ensures) at c.requires.fits

pub returns-in-X : goal.returns-in-X
returns-in-X c = rw c.in-X.is ((rw c.as_slice-in-X.ensures at c.lower_by_each.ensures) ∙ ap (λ (rs : List MapRecord). record c.args.records.now { records = rs }) (sym (records_by_deleted c.in-X.mailbox c.in-X.amounts c.args.records.now.records)))
