use Rattle.std.proofs.Common.{◌∙◌, ap, subst}
use Rattle.script_run.proofs.DoneLemmas.{EndedParts, no_task}
use Rattle.script_run.specs.OpenScript.{IsStoreOpened}
use Rattle.script_run.proofs.EndImageLemmas.{safe_in_the_end}
use Rattle.script_run.proofs.StillLemmas.{unopened_still}
use Rattle.store_core.specs.Running.{IsStore}
use Rattle.request_text.proofs.OrderLemmas.{told_in_order}
use Rattle.session.proofs.FinishLemmas.{fresh_empty, fresh_waits, session_finished, session_over}
use Rattle.session.proofs.GoneLemmas.{gone_done}
use Rattle.session.proofs.serve.serve_session.Goals as goal

pub returns-in_default-clause-refused : goal.returns-in_default-clause-refused
returns-in_default-clause-refused g c = unopened_still (g.D.Disk.history c.args.disk) (g.D.Disk.faults c.args.disk)

pub of-world-requires-clause-unused : goal.of-world-requires-clause-unused
of-world-requires-clause-unused g c =
    let o = c.in-Ok-open_store.ensures in (
      no_task (g.D.Disk.history c.args.disk) (g.D.Disk.history c.in-Ok-open_store.store.disk) c.in-Ok-open_store.store
          (record {
            opened = o.opened;
            store = c.facts.ensures.store;
            known = c.facts.ensures.instances;
            drawn = o.state.3;
            free = o.state.4;
            order = c.facts.ensures.files;
            files = o.files;
            instances = o.instances;
            running = o.state.1;
            undue = o.undue;
            safe = o.any_moment;
            settled_again = o.settled_again (λ f. absurd f);
            carried = o.carried (λ f. absurd f);
            swept = (o.swept.0, o.swept.2);
            stays = o.mail_stays;
            closed_well = o.closed_well;
          }) c.facts.ensures.ids o.made,
      o.state.1,
    )

pub serve_all-ended-requires-clause-waiting : goal.serve_all-ended-requires-clause-waiting
serve_all-ended-requires-clause-waiting g c = fresh_waits c.in-Ok-open_store.store c.in-Ok.parts _ c.of-world.result c.in-Ok.ensures c.of-world.ensures

pub serve_all-ended-requires-clause-fresh : goal.serve_all-ended-requires-clause-fresh
serve_all-ended-requires-clause-fresh g c = fresh_empty c.in-Ok-open_store.store c.in-Ok.parts _ c.of-world.result c.in-Ok.ensures c.of-world.ensures

pub returns-in-Ok-open_store-clause-done : goal.returns-in-Ok-open_store-clause-done
returns-in-Ok-open_store-clause-done g c =
    let o = c.in-Ok-open_store.ensures in
    let s = c.in-Ok-open_store.store in
    let history = g.D.Disk.history in
    let faults = g.D.Disk.faults in
    let gone = c.serve_all-ended.new.world in
    let ended = c.finish.new.self in
    let opened : IsStoreOpened (history c.args.disk) (history s.disk) s = record {
      opened = o.opened;
      store = c.facts.ensures.store;
      known = c.facts.ensures.instances;
      drawn = o.state.3;
      free = o.state.4;
      order = c.facts.ensures.files;
      files = o.files;
      instances = o.instances;
      running = o.state.1;
      undue = o.undue;
      safe = o.any_moment;
      settled_again = o.settled_again (λ f. absurd f);
      carried = o.carried (λ f. absurd f);
      swept = (o.swept.0, o.swept.2);
      stays = o.mail_stays;
      closed_well = o.closed_well;
    } in
    let kept = c.worlds_go_on.ensures.keeps c.finish.ensures.goes.0 gone ended _ _ _ _ c.finish.ensures.goes.1 in
    let later = subst (λ (p : EndedParts _). IsStore (history p.0.disk) p.0) c.into_parts-store.ensures.kept.0 c.facts-in-Ok-open_store.ensures.store in
    let end = session_finished history faults (history c.args.disk) c.in-Ok.parts s c.of-world.result gone ended c.finish.ensures.goes.0 opened g.met.D.Disk.reads_image c.listings_are_shown.ensures.logs c.in-Ok.ensures
    (no_task (history c.args.disk) (history s.disk) s opened c.facts.ensures.ids o.made) c.lanes_begin.ensures c.worlds_begin.ensures c.lanes_end.ensures c.of-world.ensures c.finish.ensures.goes.1 kept
    (c.idle_worlds_have_replied.ensures ended _ c.known_facts.ensures c.finish.ensures.idle) c.finish.ensures.idle later c.known_facts.ensures.short in
    let done = gone_done history faults (history c.args.disk) c.of-world.result gone ended _ _ _ _ end told_in_order c.serve_all-ended.result c.serve_all-ended.ensures.gone in
    session_over history faults (history c.args.disk) ended _ _ _ _ _ _ _ c.serve_all-ended.result (c.into_disk.ensures ∙ ap (λ (p : EndedParts _). p.0.disk) c.into_parts-store.ensures.kept.0) (ap (λ (w : _). faults w.store.disk) c.of-world.ensures.2 ∙ o.unfailed (λ f. f)) done

pub returns-in-Err-clause-refused : goal.returns-in-Err-clause-refused
returns-in-Err-clause-refused g c =
    let o = c.in-Err.ensures in
    record { cause = o.refused; idle = o.idle; memory = o.memory; untouched = o.untouched; stays = o.mail_stays; closed_well = o.closed_well; moments = o.any_moment; safe = λ lists at. safe_in_the_end lists (g.D.Disk.history c.args.disk) (g.D.Disk.history c.in-Err.refused.disk) (g.met.D.Disk.reads_image c.in-Err.refused.disk) (o.any_moment lists at) at; settled_again = o.settled_again; carried = o.carried; fault = o.fault; unfailed = o.unfailed }
