use Rattle.std.proofs.Common.{refl}
use Rattle.store_core.specs.Value.{indexes_of}
use Rattle.script_run.proofs.EndImageLemmas.{safe_in_the_end}
use Rattle.script_run.proofs.ShownLemmas.{opens_again}
use Rattle.mdbox_top.proofs.BoxesLemmas.{shown_rows}
use Rattle.mdbox_top.proofs.boxes.open_alone.Goals as goal

pub returns-in-Ok-clause-are : goal.returns-in-Ok-clause-are
returns-in-Ok-clause-are g c =
    let o = c.in-Ok.ensures in
    let s = c.in-Ok.store in
    record {
      m = s.map;
      meanings = indexes_of s.boxes;
      opened = o.opened;
      again = opens_again (g.D.Disk.history s.disk) s c.facts.ensures.store o.state.1;
      rows_are = refl;
      lists_are = λ lists safe. shown_rows s.map.boxes (indexes_of s.boxes) lists (c.safe_files_are_shown.ensures (g.D.Disk.history c.args.disk) s.map (indexes_of s.boxes) lists o.opened safe).1;
      settled = o.settled_again (λ f. absurd f);
      carried = o.carried (λ f. absurd f);
      swept = (o.swept.0, o.swept.2);
    }

pub returns-in-Ok-clause-moments : goal.returns-in-Ok-clause-moments
returns-in-Ok-clause-moments g c =
    let o = c.in-Ok.ensures in
    record { safe = o.any_moment; stays = o.mail_stays; closed_well = o.closed_well }

pub returns-in-Ok-clause-unfailed : goal.returns-in-Ok-clause-unfailed
returns-in-Ok-clause-unfailed g c = c.in-Ok.ensures.unfailed (λ f. f)

pub returns-in-Err-clause-refused : goal.returns-in-Err-clause-refused
returns-in-Err-clause-refused g c =
    let o = c.in-Err.ensures in
    record { cause = o.refused; idle = o.idle; memory = o.memory; untouched = o.untouched; stays = o.mail_stays; closed_well = o.closed_well; moments = o.any_moment; safe = λ lists at. safe_in_the_end lists (g.D.Disk.history c.args.disk) (g.D.Disk.history c.in-Err.refused.disk) (g.met.D.Disk.reads_image c.in-Err.refused.disk) (o.any_moment lists at) at; settled_again = o.settled_again; carried = o.carried; fault = o.fault; unfailed = o.unfailed }
