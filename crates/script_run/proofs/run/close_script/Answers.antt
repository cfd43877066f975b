use Rattle.std.proofs.Common.{ap, subst}
use Rattle.script_run.proofs.DoneLemmas.{EndedParts, all_scripted, handed_out, run_done}
use Rattle.script_run.proofs.WorkedLemmas.{worked_out}
use Rattle.store_core.specs.Running.{IsStore}
use Rattle.store_core.specs.StoreInstances.{HasKnownInstances}
use Rattle.script_run.proofs.run.close_script.Goals as goal

pub returns-clause-parts : goal.returns-clause-parts
returns-clause-parts g c =
    let kept = c.into_parts-store.ensures.kept in (ap (λ (p : EndedParts _). p.0) kept.0, ap (λ (p : EndedParts _). p.2) kept.0, kept.1)

pub returns-clause-served : goal.returns-clause-served
returns-clause-served g c script lanes old began first o went =
    let history = g.D.Disk.history in
    let faults = g.D.Disk.faults in
    let ended = c.args.world in
    let apart = c.into_parts-store.ensures.whole (all_scripted history faults script lanes old began first ended o c.events_are_in_order.ensures.keeps went) in
    let later = subst (λ (p : EndedParts _). IsStore (history p.0.disk) p.0) apart c.facts.ensures.store in
    handed_out history faults script old began ended c.into_parts-store.result apart
    (run_done history faults script lanes old began first ended g.met.D.Disk.reads_image c.listings_are_shown.ensures.logs c.lanes_begin.ensures c.worlds_begin.ensures c.lanes_end.ensures c.events_are_in_order.ensures.keeps c.events_are_in_order.ensures.untraced o went
    (c.idle_worlds_have_replied.ensures ended _ c.known_facts.ensures c.requires.idle) c.requires.idle later)

pub returns-clause-worked : goal.returns-clause-worked
returns-clause-worked g c script lanes old began first o went =
    let history = g.D.Disk.history in
    let faults = g.D.Disk.faults in
    let ended = c.args.world in
    let apart = c.into_parts-store.ensures.whole (all_scripted history faults script lanes old began first ended o c.events_are_in_order.ensures.keeps went) in
    let later = subst (λ (p : EndedParts _). IsStore (history p.0.disk) p.0) apart c.facts.ensures.store in
    let known = subst (λ (p : EndedParts _). HasKnownInstances (history p.0.disk) p.0) apart c.facts.ensures.instances in
    worked_out history faults script lanes old began first ended c.into_parts-store.result o went later known apart
