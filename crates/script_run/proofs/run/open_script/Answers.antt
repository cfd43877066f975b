use Rattle.std.proofs.Common.{◌∙◌, ap}
use Rattle.std.specs.Prelude.{length}
use Rattle.lanes.specs.Worlds.{WorldValue}
use Rattle.script_run.proofs.DoneLemmas.{no_task}
use Rattle.script_run.proofs.EndImageLemmas.{safe_in_the_end}
use Rattle.script_run.proofs.StillLemmas.{unopened_still}
use Rattle.script_run.specs.OpenScript.{IsStoreOpened}
use Rattle.script_run.proofs.run.open_script.Goals as goal

pub returns-in_default-clause-refused : goal.returns-in_default-clause-refused
returns-in_default-clause-refused g c = unopened_still (g.D.Disk.history c.args.disk) (g.D.Disk.faults c.args.disk)

pub returns-in-Err-clause-refused : goal.returns-in-Err-clause-refused
returns-in-Err-clause-refused g c =
    let o = c.in-Err.ensures in
    record { cause = o.refused; idle = o.idle; memory = o.memory; untouched = o.untouched; stays = o.mail_stays; closed_well = o.closed_well; moments = o.any_moment; safe = λ lists at. safe_in_the_end lists (g.D.Disk.history c.args.disk) (g.D.Disk.history c.in-Err.refused.disk) (g.met.D.Disk.reads_image c.in-Err.refused.disk) (o.any_moment lists at) at; settled_again = o.settled_again; carried = o.carried; fault = o.fault; unfailed = o.unfailed }

pub of-requires-in-Ok-open_store-clause-unused : goal.of-requires-in-Ok-open_store-clause-unused
of-requires-in-Ok-open_store-clause-unused g c =
    let o = c.in-Ok-open_store.ensures in (
      no_task (g.D.Disk.history c.args.disk) (g.D.Disk.history c.in-Ok-open_store.store.disk) c.in-Ok-open_store.store
          (record {
            opened = o.opened;
            store = c.facts.ensures.store;
            known = c.facts.ensures.instances;
            drawn = o.state.3;
            free = o.state.4;
            order = c.facts.ensures.files;
            files = o.files;
            instances = o.instances;
            running = o.state.1;
            undue = o.undue;
            safe = o.any_moment;
            settled_again = o.settled_again (λ f. absurd f);
            carried = o.carried (λ f. absurd f);
            swept = (o.swept.0, o.swept.2);
            stays = o.mail_stays;
            closed_well = o.closed_well;
          }) c.facts.ensures.ids o.made,
      o.state.1,
    )

pub returns-in-Ok-open_store-clause-opened : goal.returns-in-Ok-open_store-clause-opened
returns-in-Ok-open_store-clause-opened g c =
    let o = c.in-Ok-open_store.ensures in
    let s = c.in-Ok-open_store.store in
    let history = g.D.Disk.history in
    let opened : IsStoreOpened (history c.args.disk) (history s.disk) s = record {
      opened = o.opened;
      store = c.facts.ensures.store;
      known = c.facts.ensures.instances;
      drawn = o.state.3;
      free = o.state.4;
      order = c.facts.ensures.files;
      files = o.files;
      instances = o.instances;
      running = o.state.1;
      undue = o.undue;
      safe = o.any_moment;
      settled_again = o.settled_again (λ f. absurd f);
      carried = o.carried (λ f. absurd f);
      swept = (o.swept.0, o.swept.2);
      stays = o.mail_stays;
      closed_well = o.closed_well;
    } in record {
      store = s;
      opened = opened;
      unclaimed = no_task (history c.args.disk) (history s.disk) s opened c.facts.ensures.ids o.made;
      unfailed = o.unfailed (λ f. f);
      few = c.requires.lanes.1;
      of_lanes = c.requires.lanes.2;
      parts = c.in-Ok.parts;
      are = c.in-Ok.ensures;
      begins = c.of-in-Ok-open_store.ensures;
    }

pub returns-in-Ok-open_store-clause-fresh : goal.returns-in-Ok-open_store-clause-fresh
returns-in-Ok-open_store-clause-fresh g c =
    let is = c.of-in-Ok-open_store.ensures.2 in (
      ap (λ (w : WorldValue _). length w.rows) is ∙ c.in-Ok.ensures.many,
      ap (λ (w : WorldValue _). w.turns) is,
      ap (λ (w : WorldValue _). w.finished) is,
    )
