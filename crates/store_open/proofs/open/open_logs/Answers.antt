use Rattle.std.proofs.Common.{rules, refl, sym, ◌∙◌, ap, subst}
use Rattle.std.proofs.lemmas.Bool.{false≢true}
use Rattle.disk_model.specs.Disk.{IsIdle}
use Rattle.disk_model.proofs.FaultCountLemmas.{no_fault-then}
use Rattle.disk_model.proofs.IdleLemmas.{idle-then}
use Rattle.gate_log.specs.State.{LogState}
use Rattle.model_meaning.specs.MapMeaning.{MapMeaning, map_meaning}
use Rattle.model_meaning.specs.Sound.{IsSoundMap}
use Rattle.store_files.specs.Found.{IsFoundFiles}
use Rattle.store_sweep.specs.Swept.{IsSwept}
use Rattle.store_open.proofs.IdleUnlessLemmas.{stays, has_it, opening}
use Rattle.store_open.proofs.CheckedLemmas.{stands_found, names_are, all_stand, opens_at, opens_with, checked_since}
use Rattle.store_open.proofs.FoundFileLemmas.{has_files, found_on, found_back}
use Rattle.store_open.proofs.FoundInstanceLemmas.{instances_opened, found_as, only_found}
use Rattle.store_open.proofs.OpenStoreLemmas.{indexes_are, opened_store, opened_as, id_is, room_is, store_is}
use Rattle.store_open.proofs.SweptStoreLemmas.{idle_settled, idle_safe, swept_safe, swept_since, all-idle, all-swept, shown}
use Rattle.store_open.proofs.FaultLemmas.{fault_is, none_swept}
use Rattle.model_kept.proofs.KeptLemmas.{kept_idle, kept_then}
use Rattle.store_sweep.proofs.IdleSweepLemmas.{idle_if}
use Rattle.store_open.specs.Opened.{Opening, IsClosedWell}
use Rattle.store_open.proofs.ClosedStoreLemmas.{mail_of_opened, closed_sweep}
use Rattle.store_open.proofs.open.open_logs.Goals as goal

-- what the search for files begins with

pub find_files-requires-clause-id : goal.find_files-requires-clause-id
find_files-requires-clause-id g c =
    let k = c.in_ok-checked.ensures.checked in
    sym (store_is c.in_ok-checked.checked.map.meaning c.in_ok-checked.checked.id.0 k.1 k.3.map_is)

pub find_instances-requires-clause-id : goal.find_instances-requires-clause-id
find_instances-requires-clause-id g c =
    let k = c.in_ok-checked.ensures.checked in
    sym (store_is c.in_ok-checked.checked.map.meaning c.in_ok-checked.checked.id.0 k.1 k.3.map_is)

pub find_instances-requires-clause-sound : goal.find_instances-requires-clause-sound
find_instances-requires-clause-sound g c =
    let k = c.in_ok-checked.ensures.checked in
    rw k.3.map_is (c.named_instances_are_sound.ensures c.in_ok-checked.checked.id.0 k.1 k.3.good.map_entries.1 k.3.good.map_entries.0)

pub find_files-requires-clause-highest : goal.find_files-requires-clause-highest
find_files-requires-clause-highest g c =
    let k = c.in_ok-checked.ensures.checked in
    rw k.3.map_is (c.highest_file_is_named.ensures c.in_ok-checked.checked.id.0 k.1 k.3.good.map_entries.1 k.3.good.map_entries.0)

-- what the sweep begins with

pub sweep-requires-clause-root : goal.sweep-requires-clause-root
sweep-requires-clause-root g c =
    let k = c.in_ok-checked.ensures.checked in
    let s = checked_since c.in_ok-checked.checked k.0 k.1 k.2 _ _ _ c.in_ok-files.ensures.idle k.3 in
    (s.root_log.name_is, stands_found c.in_ok-checked.checked.root_log _ _ _ _ s.root_log)

pub sweep-requires-clause-map_log : goal.sweep-requires-clause-map_log
sweep-requires-clause-map_log g c =
    let k = c.in_ok-checked.ensures.checked in
    let s = checked_since c.in_ok-checked.checked k.0 k.1 k.2 _ _ _ c.in_ok-files.ensures.idle k.3 in
    (s.map_log.name_is, stands_found c.in_ok-checked.checked.map_log _ _ _ _ s.map_log)

pub sweep-requires-clause-opened : goal.sweep-requires-clause-opened
sweep-requires-clause-opened g c =
    let k = c.in_ok-checked.ensures.checked in
    let s = checked_since c.in_ok-checked.checked k.0 k.1 k.2 _ _ _ c.in_ok-files.ensures.idle k.3 in
    opens_with c.in_ok-checked.checked.id.0 c.in_ok-checked.checked.generation k.1 k.2 c.in_ok-checked.checked.map.meaning _ k.3.map_is (opens_at c.in_ok-checked.checked k.0 k.1 k.2 _ _ (idle-then _ _ _ c.in_ok-checked.ensures.idle c.in_ok-files.ensures.idle) s)

pub sweep-requires-clause-box_logs : goal.sweep-requires-clause-box_logs
sweep-requires-clause-box_logs g c =
    let k = c.in_ok-checked.ensures.checked in
    names_are c.in_ok-checked.checked.id.0 c.in_ok-checked.checked.map.meaning.boxes c.in_ok-checked.checked.boxes k.2 _ k.3.box_logs

pub sweep-requires-clause-box_logs_stand : goal.sweep-requires-clause-box_logs_stand
sweep-requires-clause-box_logs_stand g c =
    let k = c.in_ok-checked.ensures.checked in
    let s = checked_since c.in_ok-checked.checked k.0 k.1 k.2 _ _ _ c.in_ok-files.ensures.idle k.3 in
    all_stand c.in_ok-checked.checked.id.0 c.in_ok-checked.checked.map.meaning.boxes c.in_ok-checked.checked.boxes k.2 _ s.box_logs

-- at every moment

pub returns-in_err-checked-clause-any_moment : goal.returns-in_err-checked-clause-any_moment
returns-in_err-checked-clause-any_moment g c = λ lists s. idle_safe lists _ _ c.in_err-checked.ensures.idle s

pub returns-in_err-boxes-clause-any_moment : goal.returns-in_err-boxes-clause-any_moment
returns-in_err-boxes-clause-any_moment g c = λ lists s. idle_safe lists _ _ c.in_ok-checked.ensures.idle s

pub returns-in_err-room-clause-any_moment : goal.returns-in_err-room-clause-any_moment
returns-in_err-room-clause-any_moment g c = λ lists s. idle_safe lists _ _ c.in_ok-checked.ensures.idle s

pub returns-in_err-instances-clause-any_moment : goal.returns-in_err-instances-clause-any_moment
returns-in_err-instances-clause-any_moment g c = λ lists s. idle_safe lists _ _ c.in_ok-checked.ensures.idle s

pub returns-in_err-files-clause-any_moment : goal.returns-in_err-files-clause-any_moment
returns-in_err-files-clause-any_moment g c = λ lists s. idle_safe lists _ _ (idle-then _ _ _ c.in_ok-checked.ensures.idle c.in_err-files.ensures.idle) s

pub returns-in_err-logs-clause-any_moment : goal.returns-in_err-logs-clause-any_moment
returns-in_err-logs-clause-any_moment g c = λ lists s. swept_safe lists _ _ _ (idle-then _ _ _ c.in_ok-checked.ensures.idle c.in_ok-files.ensures.idle) s (c.in_err-logs.ensures.any_moment lists)

pub returns-clause-any_moment : goal.returns-clause-any_moment
returns-clause-any_moment g c = λ lists s. swept_safe lists _ _ _ (idle-then _ _ _ c.in_ok-checked.ensures.idle c.in_ok-files.ensures.idle) s (c.in_ok-logs.ensures.any_moment lists)

-- the store

pub returns-clause-id : goal.returns-clause-id
returns-clause-id g c =
    let k = c.in_ok-checked.ensures.checked in
    id_is c.in_ok-checked.checked k.0 k.1 k.2 c.in_ok-logs.logs _ _ k.3 c.in_ok-logs.ensures.same.0 (ap (λ i. i.meaning) c.in_ok-logs.ensures.same.1)

pub returns-clause-store : goal.returns-clause-store
returns-clause-store g c = λ lanes some few.
    let k = c.in_ok-checked.ensures.checked in
    let e = c.in_ok-logs.ensures in
    let s = checked_since c.in_ok-checked.checked k.0 k.1 k.2 _ _ _ c.in_ok-files.ensures.idle k.3 in
    let idle = idle-then _ _ _ c.in_ok-checked.ensures.idle c.in_ok-files.ensures.idle in
    let opens = opens_with c.in_ok-checked.checked.id.0 c.in_ok-checked.checked.generation k.1 k.2 c.in_ok-checked.checked.map.meaning _ k.3.map_is (opens_at c.in_ok-checked.checked k.0 k.1 k.2 _ _ idle s) in
    let sound : IsSoundMap c.in_ok-checked.checked.map.meaning = rw k.3.map_is (c.meanings_are_sound.ensures.map c.in_ok-checked.checked.id.0 k.1 k.3.good.map_entries.1 k.3.good.map_entries.0) in
    let has = has_files c.in_ok-checked.checked.generation c.in_ok-checked.checked.map.meaning c.in_ok-files.files _ _ sound c.swept_files_are_known.ensures opens (found_on c.in_ok-checked.checked.map.meaning _ _ c.in_ok-files.files c.in_ok-files.ensures.idle c.in_ok-files.ensures.found) e.swept in
    opened_store c.args.alloc c.sweep.new.disk c.in_ok-checked.checked k.0 k.1 k.2 c.in_ok-logs.logs c.in_ok-files.files c.in_ok-instances.instances lanes _ _ _ c.counts_cover_listings.ensures.nothing_due has idle s (e.carried (λ fault. absurd (false≢true fault))) (ap (λ i. i.meaning) e.same.1) e.root_log e.map_log e.box_logs e.same.2 some few

pub returns-clause-known : goal.returns-clause-known
returns-clause-known g c = λ lanes some few.
    let k = c.in_ok-checked.ensures.checked in
    let e = c.in_ok-logs.ensures in
    let s = checked_since c.in_ok-checked.checked k.0 k.1 k.2 _ _ _ c.in_ok-files.ensures.idle k.3 in
    let idle = idle-then _ _ _ c.in_ok-checked.ensures.idle c.in_ok-files.ensures.idle in
    let opens = opens_with c.in_ok-checked.checked.id.0 c.in_ok-checked.checked.generation k.1 k.2 c.in_ok-checked.checked.map.meaning _ k.3.map_is (opens_at c.in_ok-checked.checked k.0 k.1 k.2 _ _ idle s) in
    let sound : IsSoundMap c.in_ok-checked.checked.map.meaning = rw k.3.map_is (c.meanings_are_sound.ensures.map c.in_ok-checked.checked.id.0 k.1 k.3.good.map_entries.1 k.3.good.map_entries.0) in
    let has = has_files c.in_ok-checked.checked.generation c.in_ok-checked.checked.map.meaning c.in_ok-files.files _ _ sound c.swept_files_are_known.ensures opens (found_on c.in_ok-checked.checked.map.meaning _ _ c.in_ok-files.files c.in_ok-files.ensures.idle c.in_ok-files.ensures.found) e.swept in
    instances_opened _ _ (opened_store c.args.alloc c.sweep.new.disk c.in_ok-checked.checked k.0 k.1 k.2 c.in_ok-logs.logs c.in_ok-files.files c.in_ok-instances.instances lanes _ _ _ c.counts_cover_listings.ensures.nothing_due has idle s (e.carried (λ fault. absurd (false≢true fault))) (ap (λ i. i.meaning) e.same.1) e.root_log e.map_log e.box_logs e.same.2 some few) refl (found_as c.in_ok-checked.checked.map.meaning c.in_ok-logs.logs.map.meaning c.in_ok-instances.instances (ap (λ i. i.meaning) e.same.1) c.in_ok-instances.ensures) refl (only_found c.in_ok-checked.checked.generation c.in_ok-checked.checked.map.meaning c.in_ok-instances.instances _ c.in_ok-instances.ensures e.swept.only)

pub returns-clause-instances : goal.returns-clause-instances
returns-clause-instances g c = found_as c.in_ok-checked.checked.map.meaning c.in_ok-logs.logs.map.meaning c.in_ok-instances.instances (ap (λ i. i.meaning) c.in_ok-logs.ensures.same.1) c.in_ok-instances.ensures

pub returns-clause-files : goal.returns-clause-files
returns-clause-files g c =
    let F : MapMeaning → Type 0 = λ m. IsFoundFiles m (g.D.Disk.history c.args.disk.now) c.in_ok-files.files in
    subst F (sym (ap (λ i. i.meaning) c.in_ok-logs.ensures.same.1)) (found_back c.in_ok-checked.checked.map.meaning _ _ c.in_ok-files.files c.in_ok-checked.ensures.idle c.in_ok-files.ensures.found)

pub returns-clause-opened : goal.returns-clause-opened
returns-clause-opened g c =
    let k = c.in_ok-checked.ensures.checked in
    opened_as c.in_ok-checked.checked k.0 k.1 k.2 c.in_ok-logs.logs _ _ k.3 (ap (λ i. i.meaning) c.in_ok-logs.ensures.same.1) c.in_ok-logs.ensures.same.2

pub returns-clause-shows : goal.returns-clause-shows
returns-clause-shows g c = λ lists s.
    let k = c.in_ok-checked.ensures.checked in
    shown c.in_ok-checked.checked.id.0 k.1 k.2 c.in_ok-logs.logs.map.meaning _ lists _ c.listings_are_shown.ensures.logs (ap (λ i. i.meaning) c.in_ok-logs.ensures.same.1 ∙ k.3.map_is)
    (indexes_are c.in_ok-checked.checked k.0 k.1 k.2 c.in_ok-logs.logs.boxes.items _ _ k.3 c.in_ok-logs.ensures.same.2) k.3.opens s

pub returns-clause-swept : goal.returns-clause-swept
returns-clause-swept g c =
    let F : MapMeaning → Type 0 = λ m. IsSwept c.in_ok-checked.checked.generation m (g.D.Disk.history c.args.disk.now) (g.D.Disk.history c.sweep.new.disk) in
    let idle = idle-then _ _ _ c.in_ok-checked.ensures.idle c.in_ok-files.ensures.idle in (
      c.in_ok-checked.checked.generation,
      ap (λ (l : LogState). l.name) c.in_ok-logs.ensures.map_log.is ∙ c.in_ok-checked.ensures.checked.3.map_log.name_is,
      subst F (sym (ap (λ i. i.meaning) c.in_ok-logs.ensures.same.1)) (swept_since c.in_ok-checked.checked.generation c.in_ok-checked.checked.map.meaning _ _ _ idle.same c.in_ok-logs.ensures.swept),
    )

-- where no change failed

pub returns-in_err-checked-clause-settled_again : goal.returns-in_err-checked-clause-settled_again
returns-in_err-checked-clause-settled_again g c = λ none lists s. idle_settled lists _ _ c.in_err-checked.ensures.idle s

pub returns-in_err-boxes-clause-settled_again : goal.returns-in_err-boxes-clause-settled_again
returns-in_err-boxes-clause-settled_again g c = λ none lists s. idle_settled lists _ _ c.in_ok-checked.ensures.idle s

pub returns-in_err-room-clause-settled_again : goal.returns-in_err-room-clause-settled_again
returns-in_err-room-clause-settled_again g c = λ none lists s. idle_settled lists _ _ c.in_ok-checked.ensures.idle s

pub returns-in_err-instances-clause-settled_again : goal.returns-in_err-instances-clause-settled_again
returns-in_err-instances-clause-settled_again g c = λ none lists s. idle_settled lists _ _ c.in_ok-checked.ensures.idle s

pub returns-in_err-files-clause-settled_again : goal.returns-in_err-files-clause-settled_again
returns-in_err-files-clause-settled_again g c = λ none lists s. idle_settled lists _ _ (idle-then _ _ _ c.in_ok-checked.ensures.idle c.in_err-files.ensures.idle) s

pub returns-in_err-logs-clause-settled_again : goal.returns-in_err-logs-clause-settled_again
returns-in_err-logs-clause-settled_again g c = λ none lists s.
    let quiet = no_fault-then (g.D.Disk.faults c.args.disk.now) (g.D.Disk.faults c.check_store.new.disk) (g.D.Disk.faults c.find_files.new.disk) (c.in_ok-checked.ensures.unfailed (λ e. cc e)) (c.in_ok-files.ensures.unfailed (λ e. cc e)) in
    c.in_err-logs.ensures.settled_again
    (none_swept (g.D.Disk.faults c.args.disk.now) (g.D.Disk.faults c.find_files.new.disk) (g.D.Disk.faults c.sweep.new.disk) quiet (λ e. fault_is c.from_residual-in_err-logs.result c.from_residual-in_err-logs.ensures.1) none)
    lists (idle_settled lists _ _ (idle-then _ _ _ c.in_ok-checked.ensures.idle c.in_ok-files.ensures.idle) s)

pub returns-clause-settled_again : goal.returns-clause-settled_again
returns-clause-settled_again g c = λ none lists s. c.in_ok-logs.ensures.settled_again (λ fault. absurd (false≢true fault)) lists (idle_settled lists _ _ (idle-then _ _ _ c.in_ok-checked.ensures.idle c.in_ok-files.ensures.idle) s)

pub returns-in_err-checked-clause-carried : goal.returns-in_err-checked-clause-carried
returns-in_err-checked-clause-carried g c = λ none. all-idle _ _ c.in_err-checked.ensures.idle

pub returns-in_err-boxes-clause-carried : goal.returns-in_err-boxes-clause-carried
returns-in_err-boxes-clause-carried g c = λ none. all-idle _ _ c.in_ok-checked.ensures.idle

pub returns-in_err-room-clause-carried : goal.returns-in_err-room-clause-carried
returns-in_err-room-clause-carried g c = λ none. all-idle _ _ c.in_ok-checked.ensures.idle

pub returns-in_err-instances-clause-carried : goal.returns-in_err-instances-clause-carried
returns-in_err-instances-clause-carried g c = λ none. all-idle _ _ c.in_ok-checked.ensures.idle

pub returns-in_err-files-clause-carried : goal.returns-in_err-files-clause-carried
returns-in_err-files-clause-carried g c = λ none. all-idle _ _ (idle-then _ _ _ c.in_ok-checked.ensures.idle c.in_err-files.ensures.idle)

pub returns-in_err-logs-clause-carried : goal.returns-in_err-logs-clause-carried
returns-in_err-logs-clause-carried g c = λ none.
    let k = c.in_ok-checked.ensures.checked in
    let s = checked_since c.in_ok-checked.checked k.0 k.1 k.2 _ _ _ c.in_ok-files.ensures.idle k.3 in
    let idle = idle-then _ _ _ c.in_ok-checked.ensures.idle c.in_ok-files.ensures.idle in
    let quiet = no_fault-then (g.D.Disk.faults c.args.disk.now) (g.D.Disk.faults c.check_store.new.disk) (g.D.Disk.faults c.find_files.new.disk) (c.in_ok-checked.ensures.unfailed (λ e. cc e)) (c.in_ok-files.ensures.unfailed (λ e. cc e)) in
    all-swept c.in_ok-checked.checked.generation c.in_ok-checked.checked.map.meaning c.in_ok-checked.checked.id.0 k.1 k.2 _ _ _ idle.same k.3.map_is (opens_at c.in_ok-checked.checked k.0 k.1 k.2 _ _ idle s)
    (c.in_err-logs.ensures.carried
    (none_swept (g.D.Disk.faults c.args.disk.now) (g.D.Disk.faults c.find_files.new.disk) (g.D.Disk.faults c.sweep.new.disk) quiet (λ e. fault_is c.from_residual-in_err-logs.result c.from_residual-in_err-logs.ensures.1) none))

pub returns-clause-carried : goal.returns-clause-carried
returns-clause-carried g c = λ none.
    let k = c.in_ok-checked.ensures.checked in
    let s = checked_since c.in_ok-checked.checked k.0 k.1 k.2 _ _ _ c.in_ok-files.ensures.idle k.3 in
    let idle = idle-then _ _ _ c.in_ok-checked.ensures.idle c.in_ok-files.ensures.idle in
    all-swept c.in_ok-checked.checked.generation c.in_ok-checked.checked.map.meaning c.in_ok-checked.checked.id.0 k.1 k.2 _ _ _ idle.same k.3.map_is (opens_at c.in_ok-checked.checked k.0 k.1 k.2 _ _ idle s) (c.in_ok-logs.ensures.carried (λ fault. absurd (false≢true fault)))

-- files that don't open

pub returns-in_err-checked-clause-untouched : goal.returns-in_err-checked-clause-untouched
returns-in_err-checked-clause-untouched g c = stays Opening _ _ c.in_err-checked.ensures.idle

pub returns-in_err-boxes-clause-untouched : goal.returns-in_err-boxes-clause-untouched
returns-in_err-boxes-clause-untouched g c = let k = c.in_ok-checked.ensures.checked in has_it Opening _ _ (opening _ c.in_ok-checked.checked.id.0 k.1 k.2 k.3.opens)

pub returns-in_err-room-clause-untouched : goal.returns-in_err-room-clause-untouched
returns-in_err-room-clause-untouched g c = let k = c.in_ok-checked.ensures.checked in has_it Opening _ _ (opening _ c.in_ok-checked.checked.id.0 k.1 k.2 k.3.opens)

pub returns-in_err-instances-clause-untouched : goal.returns-in_err-instances-clause-untouched
returns-in_err-instances-clause-untouched g c = let k = c.in_ok-checked.ensures.checked in has_it Opening _ _ (opening _ c.in_ok-checked.checked.id.0 k.1 k.2 k.3.opens)

pub returns-in_err-files-clause-untouched : goal.returns-in_err-files-clause-untouched
returns-in_err-files-clause-untouched g c = let k = c.in_ok-checked.ensures.checked in has_it Opening _ _ (opening _ c.in_ok-checked.checked.id.0 k.1 k.2 k.3.opens)

pub returns-in_err-logs-clause-untouched : goal.returns-in_err-logs-clause-untouched
returns-in_err-logs-clause-untouched g c = let k = c.in_ok-checked.ensures.checked in has_it Opening _ _ (opening _ c.in_ok-checked.checked.id.0 k.1 k.2 k.3.opens)

pub returns-clause-untouched : goal.returns-clause-untouched
returns-clause-untouched g c = let k = c.in_ok-checked.ensures.checked in has_it Opening _ _ (opening _ c.in_ok-checked.checked.id.0 k.1 k.2 k.3.opens)

pub returns-in_err-files-clause-idle : goal.returns-in_err-files-clause-idle
returns-in_err-files-clause-idle g c =
    let idle : IsIdle (g.D.Disk.history c.args.disk.now) (g.D.Disk.history c.find_files.new.disk) = idle-then _ _ _ c.in_ok-checked.ensures.idle c.in_err-files.ensures.idle in
    search rules

pub returns-clause-room : goal.returns-clause-room
returns-clause-room g c = room_is c.in_ok-checked.checked c.in_ok-logs.logs c.in_ok-room.room.boxes c.in_ok-room.room.records c.in_ok-logs.ensures.same.1 c.in_ok-logs.ensures.same.2
    (ap (λ r. r.boxes) c.in_ok-room.ensures ∙ c.boxes.ensures) (ap (λ r. r.records) c.in_ok-room.ensures ∙ c.rows.ensures)

pub returns-in_err-checked-clause-mail_stays : goal.returns-in_err-checked-clause-mail_stays
returns-in_err-checked-clause-mail_stays g c = λ store entries logs opens. kept_idle (map_meaning store entries) _ _ c.in_err-checked.ensures.idle

pub returns-in_err-checked-clause-closed_well : goal.returns-in_err-checked-clause-closed_well
returns-in_err-checked-clause-closed_well g c = idle_if IsClosedWell _ _ c.in_err-checked.ensures.idle

pub returns-in_err-boxes-clause-mail_stays : goal.returns-in_err-boxes-clause-mail_stays
returns-in_err-boxes-clause-mail_stays g c = λ store entries logs opens. kept_idle (map_meaning store entries) _ _ c.in_ok-checked.ensures.idle

pub returns-in_err-boxes-clause-closed_well : goal.returns-in_err-boxes-clause-closed_well
returns-in_err-boxes-clause-closed_well g c = idle_if IsClosedWell _ _ c.in_ok-checked.ensures.idle

pub returns-in_err-room-clause-mail_stays : goal.returns-in_err-room-clause-mail_stays
returns-in_err-room-clause-mail_stays g c = λ store entries logs opens. kept_idle (map_meaning store entries) _ _ c.in_ok-checked.ensures.idle

pub returns-in_err-room-clause-closed_well : goal.returns-in_err-room-clause-closed_well
returns-in_err-room-clause-closed_well g c = idle_if IsClosedWell _ _ c.in_ok-checked.ensures.idle

pub returns-in_err-instances-clause-mail_stays : goal.returns-in_err-instances-clause-mail_stays
returns-in_err-instances-clause-mail_stays g c = λ store entries logs opens. kept_idle (map_meaning store entries) _ _ c.in_ok-checked.ensures.idle

pub returns-in_err-instances-clause-closed_well : goal.returns-in_err-instances-clause-closed_well
returns-in_err-instances-clause-closed_well g c = idle_if IsClosedWell _ _ c.in_ok-checked.ensures.idle

pub returns-in_err-files-clause-mail_stays : goal.returns-in_err-files-clause-mail_stays
returns-in_err-files-clause-mail_stays g c = λ store entries logs opens. kept_idle (map_meaning store entries) _ _ (idle-then _ _ _ c.in_ok-checked.ensures.idle c.in_err-files.ensures.idle)

pub returns-in_err-files-clause-closed_well : goal.returns-in_err-files-clause-closed_well
returns-in_err-files-clause-closed_well g c = idle_if IsClosedWell _ _ (idle-then _ _ _ c.in_ok-checked.ensures.idle c.in_err-files.ensures.idle)

pub returns-in_err-logs-clause-mail_stays : goal.returns-in_err-logs-clause-mail_stays
returns-in_err-logs-clause-mail_stays g c =
    let k = c.in_ok-checked.ensures.checked in
    let idle = idle-then _ _ _ c.in_ok-checked.ensures.idle c.in_ok-files.ensures.idle in
    mail_of_opened c.in_ok-checked.checked.map.meaning c.in_ok-checked.checked.id.0 k.1 k.2 _ _ k.3.map_is k.3.opens
    (kept_then c.in_ok-checked.checked.map.meaning _ _ _ (g.met.D.Disk.reads_image c.find_files.new.disk) (kept_idle c.in_ok-checked.checked.map.meaning _ _ idle) c.in_err-logs.ensures.mail_stays)

pub returns-clause-mail_stays : goal.returns-clause-mail_stays
returns-clause-mail_stays g c =
    let k = c.in_ok-checked.ensures.checked in
    let idle = idle-then _ _ _ c.in_ok-checked.ensures.idle c.in_ok-files.ensures.idle in
    mail_of_opened c.in_ok-checked.checked.map.meaning c.in_ok-checked.checked.id.0 k.1 k.2 _ _ k.3.map_is k.3.opens
    (kept_then c.in_ok-checked.checked.map.meaning _ _ _ (g.met.D.Disk.reads_image c.find_files.new.disk) (kept_idle c.in_ok-checked.checked.map.meaning _ _ idle) c.in_ok-logs.ensures.mail_stays)

pub returns-in_err-logs-clause-closed_well : goal.returns-in_err-logs-clause-closed_well
returns-in_err-logs-clause-closed_well g c =
    let k = c.in_ok-checked.ensures.checked in
    closed_sweep c.in_ok-checked.checked k.0 k.1 k.2 _ _ _ _ c.in_ok-checked.ensures.idle c.in_ok-files.ensures.idle k.3 c.in_err-logs.ensures.idle

pub returns-clause-closed_well : goal.returns-clause-closed_well
returns-clause-closed_well g c =
    let k = c.in_ok-checked.ensures.checked in
    closed_sweep c.in_ok-checked.checked k.0 k.1 k.2 _ _ _ _ c.in_ok-checked.ensures.idle c.in_ok-files.ensures.idle k.3 c.in_ok-logs.ensures.idle
