use Rattle.purge_task.proofs.Common.{◌≡◌, ◌∙◌, ℕ, List, drop, length, refl, sym, ap, subst, arith, Err, Result, IsIdle, NoFault, idle-begins, Refusal, StoreValue, IsPurgeStep, answer_of, came_to, uncounted, CanTakeAll, take_all, targets_given, PurgeStage, Source, KeepsQuiet}
use Rattle.std.specs.Vec.{with_items}
use Rattle.std.proofs.lemmas.List.{with_items_is}
use Rattle.std.proofs.lemmas.Result.{err_from_is_err_and}
use Rattle.purge_task.proofs.DropLemmas.{map_taken, next_begun}
use Rattle.purge_task.proofs.FewInstanceLemmas.{true_le}
use Rattle.purge_task.proofs.FirstCallLemmas.{few_taken, find_refused_says, known_taken, memory_says, most_fits, store_ready, store_taken, taken_says}
use Rattle.purge_task.proofs.FurtherLemmas.{further_first}
use Rattle.purge_task.proofs.QuietOuterLemmas.{begun_quiet}
use Rattle.purge_task.proofs.TakeableLemmas.{can_take_all}
use Rattle.purge_task.proofs.TakenLemmas.{given_long}
use Rattle.purge_task.proofs.first_event.begin.Goals as goal

pub returns-then-not-has_few_instances-clause-step :
    goal.returns-then-not-has_few_instances-clause-step
returns-then-not-has_few_instances-clause-step g c t at =
    memory_says g.D.Disk.history g.D.Disk.faults t _ c.args.store.now.files.spare c.args.store.now.map_log.room c.args.store.now c.args.store.now at refl refl c.requires refl (omega arith) (idle-begins (g.D.Disk.history c.args.store.now.disk)) refl c.facts.ensures.store

pub returns-in_err-found-clause-step : goal.returns-in_err-found-clause-step
returns-in_err-found-clause-step g c t at =
    let p = err_from_is_err_and c.from_residual.result c.from_residual.ensures.1 in
    subst (λ (r : Result PurgeStage Refusal). IsPurgeStep t (came_to r (uncounted t)) (answer_of r) c.args.store.now c.of.new.store (g.D.Disk.history c.args.store.now.disk) (g.D.Disk.history c.of.new.store.disk) (g.D.Disk.faults c.args.store.now.disk) (g.D.Disk.faults c.of.new.store.disk)) (sym (p.1 ∙ ap (λ (why : Refusal). Err why) p.2))
    (find_refused_says g.D.Disk.history g.D.Disk.faults t c.in_err-found.field-0.0 c.args.store.now c.of.new.store at c.requires c.facts.ensures.store c.in_err-found.ensures.refused c.in_err-found.ensures.same c.in_err-found.ensures.idle c.in_err-found.ensures.fault c.in_err-found.ensures.unfailed)

pub reserve-requires : goal.reserve-requires
reserve-requires g c = most_fits (g.D.Disk.history c.args.store.now.disk) c.in_ok-found.found c.args.store.now c.facts.ensures.store c.in_ok-found.ensures.found

pub returns-in-Err-clause-step : goal.returns-in-Err-clause-step
returns-in-Err-clause-step g c t at =
    let ready = store_ready c.args.store.now c.of.new.store c.reserve.new.store c.in_ok-found.ensures.same c.reserve.ensures.same in
    let room = ap (λ (s : StoreValue _). s.map_log.room) c.in_ok-found.ensures.same in
    let more = c.reserve.ensures.no_less.1 in
    memory_says g.D.Disk.history g.D.Disk.faults t _ c.reserve.new.store.files.spare c.reserve.new.store.map_log.room c.args.store.now c.reserve.new.store at refl refl c.requires ready.0 (omega (arith, room, more))
    (subst (λ d. IsIdle (g.D.Disk.history c.args.store.now.disk) (g.D.Disk.history d)) (sym ready.1) c.in_ok-found.ensures.idle)
    (subst (λ d. NoFault (g.D.Disk.faults c.args.store.now.disk) (g.D.Disk.faults d)) (sym ready.1) (c.in_ok-found.ensures.unfailed (λ e. cc e))) c.facts.ensures.store

pub take_files-requires : goal.take_files-requires
take_files-requires g c =
    let ready = store_ready c.args.store.now c.of.new.store c.reserve.new.store c.in_ok-found.ensures.same c.reserve.ensures.same in
    subst (λ (ss : List Source). CanTakeAll c.reserve.new.store ss) (sym c.deref_mut.ensures.value)
    (can_take_all c.args.store.now c.reserve.new.store (g.D.Disk.history c.args.store.now.disk) c.in_ok-found.found c.in-Ok.work c.in_ok-found.ensures.found c.in-Ok.ensures.work (ap (λ (s : StoreValue _). s.files.files) ready.0) (ap (λ (s : StoreValue _). s.files.highest) ready.0) c.in-Ok.ensures.spare)

pub returns-clause-step : goal.returns-clause-step
returns-clause-step g c t at =
    let store = store_taken c.in-Ok.work.sources.items c.args.store.now c.of.new.store c.reserve.new.store c.take_files.new.store c.in_ok-found.ensures.same c.reserve.ensures.same (subst (λ (ss : List Source). c.take_files.new.store ≡ take_all ss c.reserve.new.store) c.deref_mut.ensures.value c.take_files.ensures.store) in
    let room = ap (λ (s : StoreValue _). s.map_log.room) c.in_ok-found.ensures.same in
    let more = c.reserve.ensures.no_less.1 in
    taken_says g.D.Disk.history g.D.Disk.faults t _ c.in_ok-found.found c.in-Ok.work (record c.in-Ok.work { sources = with_items c.in-Ok.work.sources c.take_files.new.sources }) c.reserve.new.store.files.spare c.reserve.new.store.map_log.room c.args.store.now c.take_files.new.store at c.goes_on.ensures refl refl refl refl c.requires
    (record {
      store = c.facts.ensures.store;
      order = c.facts.ensures.files;
      found_is = c.in_ok-found.ensures.found;
      work_is = c.in-Ok.ensures.work;
      spares = c.in-Ok.ensures.spare;
      log = c.in-Ok.ensures.room;
      more = omega (arith, room, more);
      is = store.0;
      left = ap (λ (n : ℕ). drop n (with_items c.in-Ok.work.sources c.take_files.new.sources).items) c.in-Ok.ensures.work.next ∙ (with_items_is c.in-Ok.work.sources c.take_files.new.sources (ap (λ (ss : List Source). length ss) c.take_files.ensures.sources ∙ (given_long c.reserve.new.store.files.highest c.deref_mut.result.now ∙ c.deref_mut.ensures.len)) ∙ (c.take_files.ensures.sources ∙ (ap (λ (ss : List Source). targets_given c.reserve.new.store.files.highest ss) c.deref_mut.ensures.value ∙ ap (λ (n : ℕ). targets_given n c.in-Ok.work.sources.items) (ap (λ (s : StoreValue _). s.files.highest) (store_ready c.args.store.now c.of.new.store c.reserve.new.store c.in_ok-found.ensures.same c.reserve.ensures.same).0))));
      from = c.in-Ok.ensures.work.from;
      text = refl;
      block = refl;
    })
    (subst (λ d. IsIdle (g.D.Disk.history c.args.store.now.disk) (g.D.Disk.history d)) (sym store.1) c.in_ok-found.ensures.idle)
    (subst (λ d. NoFault (g.D.Disk.faults c.args.store.now.disk) (g.D.Disk.faults d)) (sym store.1) (c.in_ok-found.ensures.unfailed (λ e. cc e)))

pub returns-clause-further : goal.returns-clause-further
returns-clause-further g c =
    let store = store_taken c.in-Ok.work.sources.items c.args.store.now c.of.new.store c.reserve.new.store c.take_files.new.store c.in_ok-found.ensures.same c.reserve.ensures.same (subst (λ (ss : List Source). c.take_files.new.store ≡ take_all ss c.reserve.new.store) c.deref_mut.ensures.value c.take_files.ensures.store) in
    let room = ap (λ (s : StoreValue _). s.map_log.room) c.in_ok-found.ensures.same in
    let more = c.reserve.ensures.no_less.1 in
    further_first (record c.in-Ok.work { sources = with_items c.in-Ok.work.sources c.take_files.new.sources }) c.goes_on.result c.goes_on.ensures (few_taken (g.D.Disk.history c.args.store.now.disk) c.in_ok-found.found c.in-Ok.work (record c.in-Ok.work { sources = with_items c.in-Ok.work.sources c.take_files.new.sources }) c.take_files.new.store.disk c.reserve.new.store.files.spare c.reserve.new.store.map_log.room c.args.store.now c.take_files.new.store
    (record {
      store = c.facts.ensures.store;
      order = c.facts.ensures.files;
      found_is = c.in_ok-found.ensures.found;
      work_is = c.in-Ok.ensures.work;
      spares = c.in-Ok.ensures.spare;
      log = c.in-Ok.ensures.room;
      more = omega (arith, room, more);
      is = store.0;
      left = ap (λ (n : ℕ). drop n (with_items c.in-Ok.work.sources c.take_files.new.sources).items) c.in-Ok.ensures.work.next ∙ (with_items_is c.in-Ok.work.sources c.take_files.new.sources (ap (λ (ss : List Source). length ss) c.take_files.ensures.sources ∙ (given_long c.reserve.new.store.files.highest c.deref_mut.result.now ∙ c.deref_mut.ensures.len)) ∙ (c.take_files.ensures.sources ∙ (ap (λ (ss : List Source). targets_given c.reserve.new.store.files.highest ss) c.deref_mut.ensures.value ∙ ap (λ (n : ℕ). targets_given n c.in-Ok.work.sources.items) (ap (λ (s : StoreValue _). s.files.highest) (store_ready c.args.store.now c.of.new.store c.reserve.new.store c.in_ok-found.ensures.same c.reserve.ensures.same).0))));
      from = c.in-Ok.ensures.work.from;
      text = refl;
      block = refl;
    }))

pub returns-clause-few : goal.returns-clause-few
returns-clause-few g c =
    let store = store_taken c.in-Ok.work.sources.items c.args.store.now c.of.new.store c.reserve.new.store c.take_files.new.store c.in_ok-found.ensures.same c.reserve.ensures.same (subst (λ (ss : List Source). c.take_files.new.store ≡ take_all ss c.reserve.new.store) c.deref_mut.ensures.value c.take_files.ensures.store) in
    known_taken c.in-Ok.work.sources.items c.take_files.new.store.disk c.reserve.new.store.files.spare c.reserve.new.store.map_log.room 9223372036854775808 c.args.store.now c.take_files.new.store store.0 (true_le (length c.args.store.now.instances.known) 9223372036854775808 (sym c.if-not-has_few_instances.ensures))

pub returns-then-not-has_few_instances-clause-map : goal.returns-then-not-has_few_instances-clause-map
returns-then-not-has_few_instances-clause-map g c = refl

pub returns-in_err-found-clause-map : goal.returns-in_err-found-clause-map
returns-in_err-found-clause-map g c = ap (λ (s : StoreValue _). s.map) c.in_err-found.ensures.same

pub returns-in-Err-clause-map : goal.returns-in-Err-clause-map
returns-in-Err-clause-map g c = ap (λ (s : StoreValue _). s.map) c.reserve.ensures.same ∙ ap (λ (s : StoreValue _). s.map) c.in_ok-found.ensures.same

pub returns-clause-map : goal.returns-clause-map
returns-clause-map g c = ap (λ (s : StoreValue _). s.map) (subst (λ (ss : List Source). c.take_files.new.store ≡ take_all ss c.reserve.new.store) c.deref_mut.ensures.value c.take_files.ensures.store) ∙ (map_taken c.in-Ok.work.sources.items c.reserve.new.store ∙ (ap (λ (s : StoreValue _). s.map) c.reserve.ensures.same ∙ ap (λ (s : StoreValue _). s.map) c.in_ok-found.ensures.same))

pub returns-clause-begun : goal.returns-clause-begun
returns-clause-begun g c = next_begun _ c.goes_on.result c.goes_on.ensures

pub returns-then-not-has_few_instances-clause-quiet : goal.returns-then-not-has_few_instances-clause-quiet
returns-then-not-has_few_instances-clause-quiet g c t at = tt

pub returns-in_err-found-clause-quiet : goal.returns-in_err-found-clause-quiet
returns-in_err-found-clause-quiet g c t at =
    let p = err_from_is_err_and c.from_residual.result c.from_residual.ensures.1 in
    subst (λ (r : Result PurgeStage Refusal). KeepsQuiet t (came_to r (uncounted t)) (answer_of r) c.args.store.now c.of.new.store (g.D.Disk.history c.args.store.now.disk) (g.D.Disk.history c.of.new.store.disk)) (sym (p.1 ∙ ap (λ (why : Refusal). Err why) p.2)) tt

pub returns-in-Err-clause-quiet : goal.returns-in-Err-clause-quiet
returns-in-Err-clause-quiet g c t at = tt

pub returns-clause-quiet : goal.returns-clause-quiet
returns-clause-quiet g c t at =
    let store = store_taken c.in-Ok.work.sources.items c.args.store.now c.of.new.store c.reserve.new.store c.take_files.new.store c.in_ok-found.ensures.same c.reserve.ensures.same (subst (λ (ss : List Source). c.take_files.new.store ≡ take_all ss c.reserve.new.store) c.deref_mut.ensures.value c.take_files.ensures.store) in
    let room = ap (λ (s : StoreValue _). s.map_log.room) c.in_ok-found.ensures.same in
    let more = c.reserve.ensures.no_less.1 in
    begun_quiet g.D.Disk.history t c.goes_on.result c.in_ok-found.found c.in-Ok.work (record c.in-Ok.work { sources = with_items c.in-Ok.work.sources c.take_files.new.sources }) c.reserve.new.store.files.spare c.reserve.new.store.map_log.room c.args.store.now c.take_files.new.store at c.requires
    (record {
      store = c.facts.ensures.store;
      order = c.facts.ensures.files;
      found_is = c.in_ok-found.ensures.found;
      work_is = c.in-Ok.ensures.work;
      spares = c.in-Ok.ensures.spare;
      log = c.in-Ok.ensures.room;
      more = omega (arith, room, more);
      is = store.0;
      left = ap (λ (n : ℕ). drop n (with_items c.in-Ok.work.sources c.take_files.new.sources).items) c.in-Ok.ensures.work.next ∙ (with_items_is c.in-Ok.work.sources c.take_files.new.sources (ap (λ (ss : List Source). length ss) c.take_files.ensures.sources ∙ (given_long c.reserve.new.store.files.highest c.deref_mut.result.now ∙ c.deref_mut.ensures.len)) ∙ (c.take_files.ensures.sources ∙ (ap (λ (ss : List Source). targets_given c.reserve.new.store.files.highest ss) c.deref_mut.ensures.value ∙ ap (λ (n : ℕ). targets_given n c.in-Ok.work.sources.items) (ap (λ (s : StoreValue _). s.files.highest) (store_ready c.args.store.now c.of.new.store c.reserve.new.store c.in_ok-found.ensures.same c.reserve.ensures.same).0))));
      from = c.in-Ok.ensures.work.from;
      text = refl;
      block = refl;
    }) c.goes_on.ensures (subst (λ d. IsIdle (g.D.Disk.history c.args.store.now.disk) (g.D.Disk.history d)) (sym store.1) c.in_ok-found.ensures.idle) (ap (λ (s : StoreValue _). s.map) (subst (λ (ss : List Source). c.take_files.new.store ≡ take_all ss c.reserve.new.store) c.deref_mut.ensures.value c.take_files.ensures.store) ∙ (map_taken c.in-Ok.work.sources.items c.reserve.new.store ∙ (ap (λ (s : StoreValue _). s.map) c.reserve.ensures.same ∙ ap (λ (s : StoreValue _). s.map) c.in_ok-found.ensures.same)))
    (λ runs. ((returns-clause-step g c t at).claims runs).moves)
