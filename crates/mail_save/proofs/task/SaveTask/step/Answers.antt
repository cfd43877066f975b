use Rattle.mail_save.proofs.Common.{rules, ◌<◌, ◌^◌, sym, ◌∙◌}
use Rattle.mail_save.proofs.SaveClaimLemmas.{save_ended, save_ends, save_moves, stopped_ends}
use Rattle.mail_save.proofs.SaveDoesLemmas.{IsOpenStore, seen_does, seen_stopped}
use Rattle.mail_save.proofs.SaveEventLemmas.{done_goes_on, seen_saves, unfallen}
use Rattle.mail_save.proofs.SaveLeavesLemmas.{save_leaves}
use Rattle.mail_save.proofs.SaveReadyLemmas.{save_ready}
use Rattle.mail_save.proofs.task.SaveTask.step.Goals as goal

pub returns-clause-saves : goal.returns-clause-saves
returns-clause-saves g c = λ ran. seen_saves _ c.args.self.now c.replace-now.result _ _ _ _ _ _ _ _ _ c.self.view_is c.replace-now.ensures.value c.next_event-next.ensures

pub returns-then-stopped-clause-does : goal.returns-then-stopped-clause-does
returns-then-stopped-clause-does g c = λ octets pins after parts ready.
    let known : IsOpenStore (g.D.Disk.history c.args.store.now.disk) c.args.store.now = record {
      is = c.facts.ensures.store;
      order = c.facts.ensures.files;
      ids = c.facts.ensures.ids;
      kept = c.facts.ensures.instances.kept;
      id_long = c.known_id.ensures.long;
      id_octets = c.known_id.ensures.each;
      own = g.met.D.Disk.reads_image c.args.store.now.disk;
    } in
    seen_stopped pins g.D.Disk.history g.D.Disk.faults _ c.args.self.now octets c.args.store.now c.self.view_is known parts (sym c.stopped.ensures ∙ c.if-stopped.true) after

pub returns-clause-does : goal.returns-clause-does
returns-clause-does g c = λ octets pins after parts ready.
    let timed : c.args.self.now.time < 2 ^ 64 = search rules in
    let ran = sym c.stopped.ensures ∙ c.if-stopped.false in
    let known : IsOpenStore (g.D.Disk.history c.args.store.now.disk) c.args.store.now = record {
      is = c.facts.ensures.store;
      order = c.facts.ensures.files;
      ids = c.facts.ensures.ids;
      kept = c.facts.ensures.instances.kept;
      id_long = c.known_id.ensures.long;
      id_octets = c.known_id.ensures.each;
      own = g.met.D.Disk.reads_image c.args.store.now.disk;
    } in
    seen_does pins g.D.Disk.history g.D.Disk.faults _ c.args.self.now c.replace-now.result _ octets _ _ c.args.store.now c.next_event-next.new.store c.self.view_is c.replace-now.ensures.value known timed ran (c.requires.left ran) parts (ready ran) c.next_event-next.ensures after

pub returns-then-stopped-clause-ready : goal.returns-then-stopped-clause-ready
returns-then-stopped-clause-ready g c = λ more. absurd (done_goes_on _ more)

pub returns-clause-ready : goal.returns-clause-ready
returns-clause-ready g c = λ more octets ready.
    let s = seen_saves _ c.args.self.now c.replace-now.result _ _ _ _ _ _ _ _ _ c.self.view_is c.replace-now.ensures.value c.next_event-next.ensures in
    save_ready c.args.self.now.stage _ _ _ _ _ _ c.args.store.now _ _ _ _ _ s more octets ready

pub returns-then-stopped-clause-claims : goal.returns-then-stopped-clause-claims
returns-then-stopped-clause-claims g c = λ ran. absurd (unfallen c.args.store.now.stopped (sym c.stopped.ensures ∙ c.if-stopped.true) ran)

pub returns-clause-claims : goal.returns-clause-claims
returns-clause-claims g c = λ ran.
    let s = seen_saves _ c.args.self.now c.replace-now.result _ _ _ _ _ _ _ _ _ c.self.view_is c.replace-now.ensures.value c.next_event-next.ensures in
    let left = c.requires.left (sym c.stopped.ensures ∙ c.if-stopped.false) in record {
      moves = save_moves c.args.self.now.stage _ _ _ _ _ _ c.args.store.now _ _ _ _ _ c.facts.ensures.files left ran s;
      leaves = save_leaves c.args.self.now.stage _ _ _ _ _ _ c.args.store.now _ _ _ _ _ c.facts.ensures.store (sym c.stopped.ensures ∙ c.if-stopped.false) c.facts.ensures.files c.facts.ensures.instances.kept.highest left ran s;
      ended = λ given is. save_ended c.args.self.now.stage _ _ _ _ _ given c.args.store.now _ s.effects is;
    }

pub returns-then-stopped-clause-ended : goal.returns-then-stopped-clause-ended
returns-then-stopped-clause-ended g c = stopped_ends c.args.store.now (sym c.stopped.ensures ∙ c.if-stopped.true)

pub returns-clause-ended : goal.returns-clause-ended
returns-clause-ended g c =
    let s = seen_saves _ c.args.self.now c.replace-now.result _ _ _ _ _ _ _ _ _ c.self.view_is c.replace-now.ensures.value c.next_event-next.ensures in
    save_ends c.args.self.now.stage _ _ _ _ _ _ c.args.store.now _ _ _ _ _ (sym c.stopped.ensures ∙ c.if-stopped.false) c.facts.ensures.files (c.requires.left (sym c.stopped.ensures ∙ c.if-stopped.false)) s

pub returns-then-stopped-clause-left : goal.returns-then-stopped-clause-left
returns-then-stopped-clause-left g c = λ more. absurd (done_goes_on _ more)

pub returns-clause-left : goal.returns-clause-left
returns-clause-left g c = (seen_saves _ c.args.self.now c.replace-now.result _ _ _ _ _ _ _ _ _ c.self.view_is c.replace-now.ensures.value c.next_event-next.ensures).fewer
