use Rattle.std.proofs.Common.{sym, ◌∙◌, refl}
use Rattle.mdbox_base.specs.Numbers.{is_between}
use Rattle.dbox_file.proofs.RunLemmas.{run_short, run_bad}
use Rattle.dbox_file.proofs.reading.behind_printing.Goals as goal
use Rattle.dbox_file.proofs.reading.behind_printing.Goals.{then-all_printing, else-all_printing}

pub returns-then-text-count-clause-flaw : goal.returns-then-text-count-clause-flaw
returns-then-text-count-clause-flaw c =
    elim c.if-all_printing.branch [
      | then-all_printing w ↦ rw w.result-is (run_short c.args.count 32 (is_between 32 126) c.args.text.now refl c.if-text-count.true (sym c.all_printing.ensures ∙ w.if-all_printing.true))
      | else-all_printing w ↦ rw w.result-is (run_bad c.args.count (is_between 32 126) c.args.text.now c.if-text-count.true (sym c.all_printing.ensures ∙ w.if-all_printing.false))
    ]
