use Rattle.purge_task.proofs.Common.{◌≡◌, ◌∙◌, ◌==◌, inl, inr, Option, length, sym, subst, ap, arith, FileNo, kept_then, MailIsKept, MapMeaning, record_at, IsSoundMap, IsSettledFor, Leaves, changed_in, made_doomed, pins_in, IsSpared, KeepsStored, KeepsFirm, StoreValue, store_sound, sources_left}
use Rattle.purge_task.proofs.Common.{IsSwitched, IsTargetWritten, KeepsButTarget, target_released, target_synced, Source, Work, fall}
use Rattle.purge_task.proofs.ReadingLemmas.{leaves_then}
use Rattle.purge_task.proofs.RegionLemmas.{keeps_then}
use Rattle.purge_task.proofs.SwitchReadyLemmas.{heads, listable_of, prepared, spent_is}
use Rattle.purge_task.proofs.SwitchedLemmas.{firm_still, is_switched, spared_still, still_kept, taken_still}
use Rattle.purge_task.proofs.switching.switch.Goals as goal

pub make_entry-entry-requires-clause-sound : goal.make_entry-entry-requires-clause-sound
make_entry-entry-requires-clause-sound g c = subst IsSoundMap (sym c.map-2.ensures) (store_sound _ _ c.facts.ensures.store)

pub make_entry-entry-requires-clause-listable : goal.make_entry-entry-requires-clause-listable
make_entry-entry-requires-clause-listable g c =
    listable_of c.args.work.now c.requires.ready.0 c.requires.ready.1 c.args.store.now c.sync_target.new.store c.in-Some.present.target (g.D.Disk.history c.args.store.now.disk) c.map-2.result.now.meaning c.requires.ready.2 c.in_ok-sync_target.ensures.ok c.map-2.ensures c.requires.ready.3

pub append-requires-clause-ready : goal.append-requires-clause-ready
append-requires-clause-ready g c =
    let ready = c.requires.ready in
    let p = prepared c.args.work.now ready.0 ready.1 _ c.in-Some.present c.make_entry-entry.result c.args.store.now c.sync_target.new.store (g.D.Disk.history c.args.store.now.disk) (g.D.Disk.history c.sync_target.new.store.disk) c.map.result.now.meaning c.map-2.result.now.meaning ready.2 c.in-Some.ensures.some c.in_ok-sync_target.ensures.ok c.facts.ensures.store c.facts.ensures.files c.known_facts.ensures c.map.ensures c.map-2.ensures c.in_ok-sync_target.ensures.reads c.in_ok-sync_target.ensures.held ready.3 c.make_entry-entry.ensures.entry in
    p.append

pub append-requires-clause-text : goal.append-requires-clause-text
append-requires-clause-text g c =
    let ready = c.requires.ready in
    let p = prepared c.args.work.now ready.0 ready.1 _ c.in-Some.present c.make_entry-entry.result c.args.store.now c.sync_target.new.store (g.D.Disk.history c.args.store.now.disk) (g.D.Disk.history c.sync_target.new.store.disk) c.map.result.now.meaning c.map-2.result.now.meaning ready.2 c.in-Some.ensures.some c.in_ok-sync_target.ensures.ok c.facts.ensures.store c.facts.ensures.files c.known_facts.ensures c.map.ensures c.map-2.ensures c.in_ok-sync_target.ensures.reads c.in_ok-sync_target.ensures.held ready.3 c.make_entry-entry.ensures.entry in
    let fits = p.text in
    let value = ap length c.deref_mut.ensures.value in
    let same = ap (λ (w : Work). length w.text.items) c.make_entry-entry.ensures.same in
    omega (arith, fits, value, same)

pub returns-in_err-is_unpinned-clause-any_moment : goal.returns-in_err-is_unpinned-clause-any_moment
returns-in_err-is_unpinned-clause-any_moment g c = λ lists settled. leaves_then lists _ _ _ (c.in_ok-sync_target.ensures.any_moment lists settled) (c.in_err-is_unpinned.ensures.any_moment lists (c.in_ok-sync_target.ensures.settled lists settled))

pub returns-in_err-is_unpinned-clause-mail_stays : goal.returns-in_err-is_unpinned-clause-mail_stays
returns-in_err-is_unpinned-clause-mail_stays g c =
    kept_then c.args.store.now.map _ _ _ (g.met.D.Disk.reads_image c.sync_target.new.store.disk) c.in_ok-sync_target.ensures.mail_stays (subst (λ (m : MapMeaning). MailIsKept m (g.D.Disk.history c.sync_target.new.store.disk) (g.D.Disk.history c.append.new.store.disk)) (ap (λ (v : StoreValue _). v.map) c.in_ok-sync_target.ensures.ok) c.in_err-is_unpinned.ensures.mail_stays)

pub returns-in_err-is_unpinned-clause-work : goal.returns-in_err-is_unpinned-clause-work
returns-in_err-is_unpinned-clause-work g c = λ source left e. spent_is _ _ source left e c.make_entry-entry.ensures.spent

pub release_target-requires : goal.release_target-requires
release_target-requires g c =
    let ready = c.requires.ready in
    let p = prepared c.args.work.now ready.0 ready.1 _ c.in-Some.present c.make_entry-entry.result c.args.store.now c.sync_target.new.store (g.D.Disk.history c.args.store.now.disk) (g.D.Disk.history c.sync_target.new.store.disk) c.map.result.now.meaning c.map-2.result.now.meaning ready.2 c.in-Some.ensures.some c.in_ok-sync_target.ensures.ok c.facts.ensures.store c.facts.ensures.files c.known_facts.ensures c.map.ensures c.map-2.ensures c.in_ok-sync_target.ensures.reads c.in_ok-sync_target.ensures.held ready.3 c.make_entry-entry.ensures.entry in
    let second = subst (λ (f : FileNo). c.append.new.store ≡ record c.sync_target.new.store { disk = c.append.new.store.disk; map_log = c.append.new.store.map_log; map = c.append.new.store.map; files = record c.sync_target.new.store.files { files = changed_in f.0 made_doomed c.sync_target.new.store.files.files }; dues = c.append.new.store.dues }) p.file_is c.in_ok-is_unpinned.ensures.ok in
    taken_still c.in-Some.present.target ready.0 c.args.store.now c.sync_target.new.store c.append.new.store (g.D.Disk.history c.args.store.now.disk) p.first second (subst (λ (t : Option FileNo). IsTargetWritten t ready.0 c.args.store.now (g.D.Disk.history c.args.store.now.disk)) (sym p.target_is) ready.3.target)

pub returns-clause-any_moment : goal.returns-clause-any_moment
returns-clause-any_moment g c = λ lists settled. subst (λ (d : _). Leaves lists lists (g.D.Disk.history c.args.store.now.disk) (g.D.Disk.history d)) (sym (ap (λ (v : StoreValue _). v.disk) c.release_target.ensures)) (leaves_then lists _ _ _ (c.in_ok-sync_target.ensures.any_moment lists settled) (c.in_ok-is_unpinned.ensures.any_moment lists (c.in_ok-sync_target.ensures.settled lists settled)))

pub returns-clause-mail_stays : goal.returns-clause-mail_stays
returns-clause-mail_stays g c =
    subst (λ (d : _). MailIsKept c.args.store.now.map (g.D.Disk.history c.args.store.now.disk) (g.D.Disk.history d)) (sym (ap (λ (v : StoreValue _). v.disk) c.release_target.ensures)) (kept_then c.args.store.now.map _ _ _ (g.met.D.Disk.reads_image c.sync_target.new.store.disk) c.in_ok-sync_target.ensures.mail_stays (subst (λ (m : MapMeaning). MailIsKept m (g.D.Disk.history c.sync_target.new.store.disk) (g.D.Disk.history c.append.new.store.disk)) (ap (λ (v : StoreValue _). v.map) c.in_ok-sync_target.ensures.ok) c.in_ok-is_unpinned.ensures.mail_stays))

pub returns-clause-settled : goal.returns-clause-settled
returns-clause-settled g c = λ lists settled. subst (λ (d : _). IsSettledFor lists (g.D.Disk.history d)) (sym (ap (λ (v : StoreValue _). v.disk) c.release_target.ensures)) (c.in_ok-is_unpinned.ensures.settled lists (c.in_ok-sync_target.ensures.settled lists settled))

pub returns-clause-stored : goal.returns-clause-stored
returns-clause-stored g c = subst (λ (d : _). KeepsStored (g.D.Disk.history c.args.store.now.disk) (g.D.Disk.history d)) (sym (ap (λ (v : StoreValue _). v.disk) c.release_target.ensures)) (keeps_then _ _ _ c.in_ok-sync_target.ensures.stored c.in_ok-is_unpinned.ensures.stored)

pub returns-clause-switched : goal.returns-clause-switched
returns-clause-switched g c = λ source left e.
    let ready = c.requires.ready in
    let p = prepared c.args.work.now ready.0 ready.1 _ c.in-Some.present c.make_entry-entry.result c.args.store.now c.sync_target.new.store (g.D.Disk.history c.args.store.now.disk) (g.D.Disk.history c.sync_target.new.store.disk) c.map.result.now.meaning c.map-2.result.now.meaning ready.2 c.in-Some.ensures.some c.in_ok-sync_target.ensures.ok c.facts.ensures.store c.facts.ensures.files c.known_facts.ensures c.map.ensures c.map-2.ensures c.in_ok-sync_target.ensures.reads c.in_ok-sync_target.ensures.held ready.3 c.make_entry-entry.ensures.entry in
    let second = subst (λ (f : FileNo). c.append.new.store ≡ record c.sync_target.new.store { disk = c.append.new.store.disk; map_log = c.append.new.store.map_log; map = c.append.new.store.map; files = record c.sync_target.new.store.files { files = changed_in f.0 made_doomed c.sync_target.new.store.files.files }; dues = c.append.new.store.dues }) p.file_is c.in_ok-is_unpinned.ensures.ok in
    let third = subst (λ (t : Option FileNo). c.release_target.new.store ≡ record c.append.new.store { files = record c.append.new.store.files { files = target_released t c.append.new.store.files.files } }) p.target_is c.release_target.ensures in
    let unpinned = subst (λ (f : FileNo). c.in_ok-is_unpinned.is_unpinned ≡ (pins_in f.0 c.sync_target.new.store.files.files == 0)) p.file_is c.in_ok-is_unpinned.ensures.unpinned in
    subst (λ (s : Source). IsSwitched s (record { is_unpinned = c.in_ok-is_unpinned.is_unpinned; dropped = c.count_dropped-dropped.result }) c.args.store.now c.release_target.new.store) (heads (sources_left c.args.work.now) ready.0 source ready.1 left ready.2 e)
    (is_switched ready.0 (record { is_unpinned = c.in_ok-is_unpinned.is_unpinned; dropped = c.count_dropped-dropped.result }) c.make_entry-entry.result c.args.store.now c.sync_target.new.store c.append.new.store c.release_target.new.store p.first second third p.of p.append.fits c.in_ok-is_unpinned.ensures.taken unpinned c.count_dropped-dropped.ensures)

pub returns-clause-spared : goal.returns-clause-spared
returns-clause-spared g c = λ uid row found some.
    subst (λ (d : _). IsSpared uid row c.release_target.new.store (g.D.Disk.history c.args.store.now.disk) (g.D.Disk.history d)) (sym (ap (λ (v : StoreValue _). v.disk) c.release_target.ensures)) (spared_still uid row c.in-Some.present.target c.append.new.store c.release_target.new.store (g.D.Disk.history c.args.store.now.disk) (g.D.Disk.history c.sync_target.new.store.disk) (g.D.Disk.history c.append.new.store.disk) c.in_ok-sync_target.ensures.stored c.release_target.ensures (c.in_ok-is_unpinned.ensures.spared uid row (ap (λ (v : StoreValue _). record_at v.map uid) c.in_ok-sync_target.ensures.ok ∙ found) some))

pub returns-clause-firm : goal.returns-clause-firm
returns-clause-firm g c =
    subst (λ (d : _). KeepsFirm c.args.store.now c.release_target.new.store (g.D.Disk.history c.args.store.now.disk) (g.D.Disk.history d)) (sym (ap (λ (v : StoreValue _). v.disk) c.release_target.ensures)) (firm_still c.in-Some.present.target c.args.store.now c.sync_target.new.store c.append.new.store c.release_target.new.store (g.D.Disk.history c.args.store.now.disk) (g.D.Disk.history c.sync_target.new.store.disk) (g.D.Disk.history c.append.new.store.disk) c.in_ok-sync_target.ensures.firm c.in_ok-is_unpinned.ensures.firm c.release_target.ensures)

pub returns-clause-work : goal.returns-clause-work
returns-clause-work g c = λ source left e. spent_is _ _ source left e c.make_entry-entry.ensures.spent

pub returns-clause-kept : goal.returns-clause-kept
returns-clause-kept g c = λ source left e.
    let ready = c.requires.ready in
    let pres = c.in-Some.ensures.some in
    let same = pres.2.1 ∙ ap (λ (s : Source). s.target) (heads (sources_left c.args.work.now) pres.0 source _ left pres.1 e) in
    subst (λ (d : _). KeepsButTarget source.target (g.D.Disk.history c.args.store.now.disk) (g.D.Disk.history d)) (sym (ap (λ (v : StoreValue _). v.disk) c.release_target.ensures))
    (subst (λ (t : Option FileNo). KeepsButTarget t (g.D.Disk.history c.args.store.now.disk) (g.D.Disk.history c.append.new.store.disk)) same (still_kept c.in-Some.present.target _ _ _ c.in_ok-sync_target.ensures.kept c.in_ok-is_unpinned.ensures.others))

pub returns-in_err-sync_target-clause-stopped_files : goal.returns-in_err-sync_target-clause-stopped_files
returns-in_err-sync_target-clause-stopped_files g c = λ stopped source left e. inl (ap (λ (v : StoreValue _). v.files) c.in_err-sync_target.ensures.refused.1)

pub returns-in_err-is_unpinned-clause-stopped_files : goal.returns-in_err-is_unpinned-clause-stopped_files
returns-in_err-is_unpinned-clause-stopped_files g c = λ stopped source left e.
    let pres = c.in-Some.ensures.some in
    let same = pres.2.1 ∙ ap (λ (s : Source). s.target) (heads (sources_left c.args.work.now) pres.0 source _ left pres.1 e) in
    let mid = ap (λ (v : StoreValue _). v.files) c.in_ok-sync_target.ensures.ok in
    inr (ap (λ (v : StoreValue _). v.files) c.in_err-is_unpinned.ensures.refused.1 ∙ subst (λ (t : Option FileNo). c.sync_target.new.store.files ≡ record c.args.store.now.files { files = target_synced t c.args.store.now.files.files }) same mid)

pub returns-clause-stopped_files : goal.returns-clause-stopped_files
returns-clause-stopped_files g c = λ stopped source left e.
    absurd (fall c.release_target.new.store.stopped stopped (ap (λ (v : StoreValue _). v.stopped) c.release_target.ensures ∙ ap (λ (v : StoreValue _). v.stopped) c.in_ok-is_unpinned.ensures.ok ∙ ap (λ (v : StoreValue _). v.stopped) c.in_ok-sync_target.ensures.ok ∙ c.requires.running))
