use Rattle.std.proofs.Common.{◌≡◌, ◌∷◌, [], ℕ, List, map, take, slice_get, ap, length, length-append, refl, sym, subst, ◌∙◌, arith}
use Rattle.std.proofs.lemmas.List.{length-map}
use Rattle.std.specs.Option.{option_map}
use Rattle.map_index.specs.Shown.{shown_box}
use Rattle.model_meaning.specs.MapMeaning.{MapBox}
use Rattle.store_core.specs.declared.store.OpenBox.{OpenBox}
use Rattle.store_sweep.proofs.ScanLemmas.{fold_over}
use Rattle.std.proofs.lemmas.Bool.{false≢true}
use Rattle.std.specs.List.{AllZip}
use Rattle.gate_log.specs.State.{InspectedLog}
use Rattle.store_checks.specs.declared.mailbox.CheckedBox.{CheckedBox}
use Rattle.store_sweep.specs.Boxes.{found_logs, opened_logs}
use Rattle.store_sweep.specs.Moments.{SameWhere}
use Rattle.store_sweep.specs.Repaired.{IsRepaired, is_outside}
use Rattle.store_sweep.proofs.SweepStepLemmas.{images_now, keeps_now, where_now}
use Rattle.store_sweep.proofs.BoxLogLemmas.{Next, next_log, next_stands, next_images, next_keeps, next_opened, next_outside, whole_next, whole_more, whole_done, left_more, is_room, made_repaired, pushed_opened, one_longer, none_opened, logs_whole, logs_more, gates_more, indexes_more, numbers_more, many}
use Rattle.disk_model.proofs.FaultCountLemmas.{no_fault-then, change_fault-none}
use Rattle.store_sweep.proofs.FaultLemmas.{change_since}
use Rattle.store_sweep.proofs.FittedLemmas.{there-begins, there-then}
use Rattle.store_sweep.proofs.RepairLemmas.{repaired_there}
use Rattle.model_kept.proofs.KeptLemmas.{kept_begins}
use Rattle.store_sweep.proofs.StayLemmas.{box_stays, whole_log}
use Rattle.store_sweep.proofs.repairs.repair_boxes.Goals as goal

pub loop-checked-init : goal.loop-checked-init
loop-checked-init g c = record {
  whole = c.into_iter-checked-iterator.ensures.into_iter_gives.0;
  left = c.into_iter-checked-iterator.ensures.into_iter_gives.1 ∙ c.requires.room.0 ∙ sym (ap length c.into_iter-checked-iterator.ensures.into_iter_gives.0);
  images = λ generation. images_now generation c.args.map.now.meaning (g.D.Disk.history c.args.disk.now);
  keeps = λ generation. keeps_now generation c.args.map.now.meaning (g.D.Disk.history c.args.disk.now);
  outside = where_now (is_outside []) (g.D.Disk.history c.args.disk.now);
  opened = none_opened (g.D.Disk.history c.args.disk.now) (opened_logs c.args.opened.now.items) (ap opened_logs c.requires.empty.0);
  numbers = ap (map (λ (b : OpenBox). b.number.0)) c.requires.empty.0;
  indexes = ap (map (λ (b : OpenBox). b.index)) c.requires.empty.0;
  items = ap length c.requires.empty.0;
  mail_stays = kept_begins c.args.map.now.meaning (g.D.Disk.history c.args.disk.now);
  untouched = λ whole. refl;
  len = c.requires.empty.1;
  capacity = omega arith;
  there = there-begins (g.D.Disk.history c.args.disk.now);
  faults = refl;
}

pub repair-requires : goal.repair-requires
repair-requires g c =
    let whole = whole_next c.loop-checked.yielded c.in-Some.checked _ _ c.args.found.items c.in-Some.ensures.steps.0 c.loop-checked.invariant.whole in
    let logs = logs_whole c.loop-checked.yielded c.in-Some.checked _ c.args.found.items whole in
    let next : Next c.args.map.now.meaning (found_logs c.loop-checked.yielded) c.in-Some.checked.log = next_log c.args.map.now.meaning (found_logs c.args.found.items) (found_logs c.loop-checked.yielded) c.in-Some.checked.log _ c.known_facts.ensures.boxes.rising c.requires.logs logs in
    record { stands = next_stands c.args.map.now.meaning (found_logs c.args.found.items) (found_logs c.loop-checked.yielded) c.in-Some.checked.log _ _ _ next logs c.requires.stand c.loop-checked.invariant.outside }

pub returns-in_err-log-clause-images : goal.returns-in_err-log-clause-images
returns-in_err-log-clause-images g c = λ generation.
    let whole = whole_next c.loop-checked.yielded c.in-Some.checked _ _ c.args.found.items c.in-Some.ensures.steps.0 c.loop-checked.invariant.whole in
    let logs = logs_whole c.loop-checked.yielded c.in-Some.checked _ c.args.found.items whole in
    let next : Next c.args.map.now.meaning (found_logs c.loop-checked.yielded) c.in-Some.checked.log = next_log c.args.map.now.meaning (found_logs c.args.found.items) (found_logs c.loop-checked.yielded) c.in-Some.checked.log _ c.known_facts.ensures.boxes.rising c.requires.logs logs in
    let stands = next_stands c.args.map.now.meaning (found_logs c.args.found.items) (found_logs c.loop-checked.yielded) c.in-Some.checked.log _ _ _ next logs c.requires.stand c.loop-checked.invariant.outside in
    next_images generation c.args.map.now.meaning (found_logs c.loop-checked.yielded) c.in-Some.checked.log _ _ _ next stands (c.loop-checked.invariant.images generation) (c.loop-checked.invariant.keeps generation) c.in_err-log.ensures.any_moment

pub push_box-requires : goal.push_box-requires
push_box-requires g c =
    let whole = whole_next c.loop-checked.yielded c.in-Some.checked _ _ c.args.found.items c.in-Some.ensures.steps.0 c.loop-checked.invariant.whole in
    is_room c.loop-checked.yielded c.in-Some.checked _ c.args.found.items _ _ _ whole (omega (arith, c.requires.room.0, c.requires.room.1)) c.loop-checked.invariant.capacity c.loop-checked.invariant.len

pub loop-checked-preserved : goal.loop-checked-preserved
loop-checked-preserved g c =
    let whole = whole_next c.loop-checked.yielded c.in-Some.checked _ _ c.args.found.items c.in-Some.ensures.steps.0 c.loop-checked.invariant.whole in
    let logs = logs_whole c.loop-checked.yielded c.in-Some.checked _ c.args.found.items whole in
    let next : Next c.args.map.now.meaning (found_logs c.loop-checked.yielded) c.in-Some.checked.log = next_log c.args.map.now.meaning (found_logs c.args.found.items) (found_logs c.loop-checked.yielded) c.in-Some.checked.log _ c.known_facts.ensures.boxes.rising c.requires.logs logs in
    let stands = next_stands c.args.map.now.meaning (found_logs c.args.found.items) (found_logs c.loop-checked.yielded) c.in-Some.checked.log _ _ _ next logs c.requires.stand c.loop-checked.invariant.outside in
    let r : IsRepaired (g.D.Disk.history c.loop-checked.disk) (g.D.Disk.history c.repair.new.disk) c.in-Some.checked.log c.in_ok-log.log = made_repaired _ _ c.in-Some.checked.log c.in_ok-log.log c.in_ok-log.ensures.log c.in_ok-log.ensures.reads c.in_ok-log.ensures.holds in
    record {
      whole = whole_more c.loop-checked.yielded c.in-Some.checked _ _ c.args.found.items c.in-Some.ensures.steps.0 c.loop-checked.invariant.whole;
      left = left_more c.in-Some.checked _ _ _ _ c.in-Some.ensures.steps.0 c.loop-checked.invariant.left c.in-Some.ensures.steps.1;
      images = λ generation. next_images generation c.args.map.now.meaning (found_logs c.loop-checked.yielded) c.in-Some.checked.log _ _ _ next stands (c.loop-checked.invariant.images generation) (c.loop-checked.invariant.keeps generation) c.in_ok-log.ensures.any_moment;
      keeps = λ generation. next_keeps generation c.args.map.now.meaning (found_logs c.loop-checked.yielded) c.in-Some.checked.log c.in_ok-log.log _ _ _ next stands (c.loop-checked.invariant.keeps generation) c.in_ok-log.ensures.others r;
      outside = subst (λ (xs : List InspectedLog). SameWhere (is_outside xs) (g.D.Disk.history c.args.disk.now) (g.D.Disk.history c.repair.new.disk)) (sym (logs_more c.loop-checked.yielded c.in-Some.checked)) (next_outside (found_logs c.loop-checked.yielded) c.in-Some.checked.log _ _ _ c.loop-checked.invariant.outside c.in_ok-log.ensures.others);
      opened = subst (λ (xs : List InspectedLog). AllZip (IsRepaired (g.D.Disk.history c.args.disk.now) (g.D.Disk.history c.repair.new.disk)) xs (opened_logs c.push_box.new.boxes.items)) (sym (logs_more c.loop-checked.yielded c.in-Some.checked))
          (pushed_opened _ _ (found_logs c.loop-checked.yielded) c.in-Some.checked.log (opened_logs c.loop-checked.opened.items) _ c.in_ok-log.log (gates_more c.loop-checked.opened.items _ _ c.push_box.ensures.items)
          (next_opened c.args.map.now.meaning (found_logs c.loop-checked.yielded) c.in-Some.checked.log (opened_logs c.loop-checked.opened.items) c.in_ok-log.log _ _ _ next c.loop-checked.invariant.outside c.in_ok-log.ensures.others r c.loop-checked.invariant.opened));
      numbers = numbers_more c.args.map.now.meaning.boxes (length c.loop-checked.yielded) c.unwrap-at.result c.box_at.result c.loop-checked.opened.items _ _ (c.box_at.ensures ∙ ap (λ (k : ℕ). option_map shown_box (slice_get c.args.map.now.meaning.boxes k)) (let l = c.as_slice.ensures.len in let v = ap length c.as_slice.ensures.value in let i = c.loop-checked.invariant.items in omega (arith, l, v, i))) c.unwrap-at.ensures refl c.push_box.ensures.items c.loop-checked.invariant.numbers
          ∙ ap (λ (k : ℕ). map (λ (b : MapBox). b.number) (take k c.args.map.now.meaning.boxes)) (sym (length-append c.loop-checked.yielded (c.in-Some.checked ∷ [])));
      indexes = indexes_more c.loop-checked.yielded c.in-Some.checked c.loop-checked.opened.items _ _ c.push_box.ensures.items refl c.loop-checked.invariant.indexes;
      items = let l = ap length c.push_box.ensures.items in let i = c.loop-checked.invariant.items in omega (arith, l, i, length-append {A = OpenBox}, length-append {A = CheckedBox});
      mail_stays = box_stays c.args.map.now.meaning (found_logs c.loop-checked.yielded) c.in-Some.checked.log _ _ _ next c.loop-checked.invariant.mail_stays (g.met.D.Disk.reads_image c.loop-checked.disk) c.in_ok-log.ensures.others_stay;
      untouched = λ all. (c.in_ok-log.ensures.untouched (whole_log (found_logs c.loop-checked.yielded) c.in-Some.checked.log _ (found_logs c.args.found.items) logs all)).1 ∙ c.loop-checked.invariant.untouched all;
      len = one_longer c.loop-checked.yielded c.in-Some.checked _ _ c.push_box.ensures.len c.loop-checked.invariant.len;
      capacity = omega (arith, c.loop-checked.invariant.capacity, c.push_box.ensures.capacity);
      there = there-then _ _ _ c.loop-checked.invariant.there (repaired_there c.in-Some.checked.log c.in_ok-log.log stands.0 _ _ stands.1 c.in_ok-log.ensures.others r);
      faults = no_fault-then _ _ _ c.loop-checked.invariant.faults c.in_ok-log.ensures.unfailed;
    }

pub returns-clause-images : goal.returns-clause-images
returns-clause-images g c = c.loop-checked.invariant.images

pub returns-clause-keeps : goal.returns-clause-keeps
returns-clause-keeps g c = c.loop-checked.invariant.keeps

pub returns-clause-opened : goal.returns-clause-opened
returns-clause-opened g c =
    let e = whole_done c.loop-checked.yielded _ c.args.found.items _ c.in-None.ensures.steps.0 c.loop-checked.invariant.left c.loop-checked.invariant.whole in
    let F : List CheckedBox → Type 0 = λ xs. AllZip (IsRepaired (g.D.Disk.history c.args.disk.now) (g.D.Disk.history c.loop-checked.disk)) (found_logs xs) (opened_logs c.loop-checked.opened.items) in
    subst F e c.loop-checked.invariant.opened

pub returns-clause-others : goal.returns-clause-others
returns-clause-others g c =
    let e = whole_done c.loop-checked.yielded _ c.args.found.items _ c.in-None.ensures.steps.0 c.loop-checked.invariant.left c.loop-checked.invariant.whole in
    let F : List CheckedBox → Type 0 = λ xs. SameWhere (is_outside (found_logs xs)) (g.D.Disk.history c.args.disk.now) (g.D.Disk.history c.loop-checked.disk) in
    subst F e c.loop-checked.invariant.outside

pub returns-clause-there : goal.returns-clause-there
returns-clause-there g c = c.loop-checked.invariant.there

pub returns-in_err-log-clause-fault : goal.returns-in_err-log-clause-fault
returns-in_err-log-clause-fault g c = change_since _ _ _ c.loop-checked.invariant.faults refl c.in_err-log.ensures.fault

pub returns-clause-fault : goal.returns-clause-fault
returns-clause-fault g c = change_fault-none _ _ (λ e. false≢true e) c.loop-checked.invariant.faults

pub returns-clause-unfailed : goal.returns-clause-unfailed
returns-clause-unfailed g c = c.loop-checked.invariant.faults

pub returns-clause-indexes : goal.returns-clause-indexes
returns-clause-indexes g c =
    let e = whole_done c.loop-checked.yielded _ c.args.found.items _ c.in-None.ensures.steps.0 c.loop-checked.invariant.left c.loop-checked.invariant.whole in
    let l : length c.loop-checked.yielded ≡ length c.args.map.now.meaning.boxes = ap length e ∙ sym (length-map c.args.found.items (λ (b : CheckedBox). b.log)) ∙ many c.args.map.now.meaning (found_logs c.args.found.items) c.requires.logs in
    record {
      numbers = c.loop-checked.invariant.numbers ∙ fold_over (map (λ (b : MapBox). b.number)) c.args.map.now.meaning.boxes (length c.loop-checked.yielded) (omega (arith, l));
      indexes = c.loop-checked.invariant.indexes ∙ ap (map (λ (b : CheckedBox). b.index)) e;
    }

pub returns-in_err-log-clause-mail_stays : goal.returns-in_err-log-clause-mail_stays
returns-in_err-log-clause-mail_stays g c =
    let whole = whole_next c.loop-checked.yielded c.in-Some.checked _ _ c.args.found.items c.in-Some.ensures.steps.0 c.loop-checked.invariant.whole in
    let logs = logs_whole c.loop-checked.yielded c.in-Some.checked _ c.args.found.items whole in
    let next : Next c.args.map.now.meaning (found_logs c.loop-checked.yielded) c.in-Some.checked.log = next_log c.args.map.now.meaning (found_logs c.args.found.items) (found_logs c.loop-checked.yielded) c.in-Some.checked.log _ c.known_facts.ensures.boxes.rising c.requires.logs logs in
    box_stays c.args.map.now.meaning (found_logs c.loop-checked.yielded) c.in-Some.checked.log _ _ _ next c.loop-checked.invariant.mail_stays (g.met.D.Disk.reads_image c.loop-checked.disk) c.in_err-log.ensures.others_stay

pub returns-clause-mail_stays : goal.returns-clause-mail_stays
returns-clause-mail_stays g c = c.loop-checked.invariant.mail_stays

pub returns-in_err-log-clause-untouched : goal.returns-in_err-log-clause-untouched
returns-in_err-log-clause-untouched g c =
    let whole = whole_next c.loop-checked.yielded c.in-Some.checked _ _ c.args.found.items c.in-Some.ensures.steps.0 c.loop-checked.invariant.whole in
    let logs = logs_whole c.loop-checked.yielded c.in-Some.checked _ c.args.found.items whole in
    λ all. (c.in_err-log.ensures.untouched (whole_log (found_logs c.loop-checked.yielded) c.in-Some.checked.log _ (found_logs c.args.found.items) logs all)).1 ∙ c.loop-checked.invariant.untouched all

pub returns-clause-untouched : goal.returns-clause-untouched
returns-clause-untouched g c = c.loop-checked.invariant.untouched
