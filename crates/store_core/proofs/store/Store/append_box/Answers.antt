use Rattle.store_core.proofs.Common.{◌≡◌, ◌+◌, ◌-◌, ◌==◌, ℕ, List, map, slice_set, sym, ◌∙◌, ap, subst, refl, Some, count_by, sum_by, due_by_box, meanings_by, Lists, BoxMeaning, IsSettledFor, Leaves, number_beside, due_at, leak_at, KeepsStored, indexes_of, list_numbered, KeepsMail, MailIsKept}
use Rattle.store_core.proofs.Common.{kept_begins}
use Rattle.std.proofs.Common.{Err}
use Rattle.model_appends.specs.Appending.{lists_by}
use Rattle.store_core.specs.Append.{Brings}
use Rattle.store_core.specs.Value.{log_count_of}
use Rattle.store_core.proofs.BoxAppendLemmas.{store_there, stopped_there}
use Rattle.store_core.proofs.BoxCrashLemmas.{leaves_there, settled_there, stored_there, leaves_none}
use Rattle.store_core.proofs.KeptMailLemmas.{mail_boxed}
use Rattle.store_core.proofs.PickingLemmas.{indexes_kept}
use Rattle.store_core.proofs.PlacingLemmas.{placed, place_below, must_be, read_there, fits_there, room_there, room_stays, taken_there, size_there, counted_there, due_there, due_room, leak_there, how_is, dues_are_by}
use Rattle.store_core.proofs.MadeLogLemmas.{made_stopped}
use Rattle.store_core.proofs.MadePlaceLemmas.{made_placed}
use Rattle.store_core.proofs.KnownInstanceLemmas.{instances_boxed, instances_stopped}
use Rattle.store_core.proofs.BoxAppendLemmas.{own_box}
use Rattle.store_core.proofs.MailStayLemmas.{box_log_kept}
use Rattle.store_core.proofs.store.Store.append_box.Goals as goal

pub unreachable-requires : goal.unreachable-requires
unreachable-requires g c = must_be _ _ c.args.self.now c.deref.result.now c.args.mailbox.0 c.args.entry.now c.self.invariant.1 c.self.view_is c.deref.ensures.value c.requires.fits c.in_default.ensures.none

pub append_in-requires-clause-read : goal.append_in-requires-clause-read
append_in-requires-clause-read g c = read_there _ _ c.in-Some.place c.index_mut.result.now c.args.mailbox.0 c.args.entry.now (placed _ _ c.args.self.now c.deref.result.now c.in-Some.place c.index_mut.result.now c.args.mailbox.0 c.args.entry.now c.self.invariant.1 c.self.view_is c.deref.ensures.value c.requires.running c.requires.range c.requires.fits c.requires.held c.requires.record c.in-Some.ensures.some c.index_mut.ensures.value)

pub append_in-requires-clause-fits : goal.append_in-requires-clause-fits
append_in-requires-clause-fits g c = fits_there _ _ c.in-Some.place c.index_mut.result.now c.args.mailbox.0 c.args.entry.now (placed _ _ c.args.self.now c.deref.result.now c.in-Some.place c.index_mut.result.now c.args.mailbox.0 c.args.entry.now c.self.invariant.1 c.self.view_is c.deref.ensures.value c.requires.running c.requires.range c.requires.fits c.requires.held c.requires.record c.in-Some.ensures.some c.index_mut.ensures.value)

pub append_in-requires-clause-room : goal.append_in-requires-clause-room
append_in-requires-clause-room g c = room_there _ _ c.in-Some.place c.index_mut.result.now c.args.mailbox.0 c.args.entry.now (placed _ _ c.args.self.now c.deref.result.now c.in-Some.place c.index_mut.result.now c.args.mailbox.0 c.args.entry.now c.self.invariant.1 c.self.view_is c.deref.ensures.value c.requires.running c.requires.range c.requires.fits c.requires.held c.requires.record c.in-Some.ensures.some c.index_mut.ensures.value) c.self.invariant.2

pub change_due-requires-clause-size : goal.change_due-requires-clause-size
change_due-requires-clause-size g c = size_there _ _ c.in-Some.place c.index_mut.result.now c.args.mailbox.0 c.args.entry.now (placed _ _ c.args.self.now c.deref.result.now c.in-Some.place c.index_mut.result.now c.args.mailbox.0 c.args.entry.now c.self.invariant.1 c.self.view_is c.deref.ensures.value c.requires.running c.requires.range c.requires.fits c.requires.held c.requires.record c.in-Some.ensures.some c.index_mut.ensures.value)

pub change_due-requires-clause-room : goal.change_due-requires-clause-room
change_due-requires-clause-room g c = λ uid is. due_room _ _ c.in-Some.place c.index_mut.result.now c.args.mailbox.0 c.args.entry.now uid (placed _ _ c.args.self.now c.deref.result.now c.in-Some.place c.index_mut.result.now c.args.mailbox.0 c.args.entry.now c.self.invariant.1 c.self.view_is c.deref.ensures.value c.requires.running c.requires.range c.requires.fits c.requires.held c.requires.record c.in-Some.ensures.some c.index_mut.ensures.value)
    (how_is c.self.inside.boxes.items c.in-Some.place c.index.result.now c.index_mut.result.now c.args.entry.now c.due_change-how.result c.due_change-how.ensures (place_below c.self.inside.boxes.items c.deref.result.now c.in-Some.place c.args.mailbox.0 c.deref.ensures.value c.in-Some.ensures.some) c.index.ensures c.index_mut.ensures.value ∙ is)

pub invariant_of-self : goal.invariant_of-self
invariant_of-self g c = (
  c.self.invariant.0,
  store_there _ _ _ _ c.in-Some.place c.index_mut.result.now c.append_in.new.open_box c.args.mailbox.0 c.args.entry.now _ (placed _ _ c.args.self.now c.deref.result.now c.in-Some.place c.index_mut.result.now c.args.mailbox.0 c.args.entry.now c.self.invariant.1 c.self.view_is c.deref.ensures.value c.requires.running c.requires.range c.requires.fits c.requires.held c.requires.record c.in-Some.ensures.some c.index_mut.ensures.value) c.in-Ok.ensures.same c.in-Ok.ensures.taken c.in-Ok.ensures.others c.in-Ok.ensures.added
      (dues_are_by c.self.inside.map.meaning.records c.self.inside.dues.items c.change_due.new.dues.items c.self.inside.boxes.items c.in-Some.place c.index.result.now c.index_mut.result.now c.args.entry.now c.due_change-how.result c.change_due.ensures c.due_change-how.ensures (place_below c.self.inside.boxes.items c.deref.result.now c.in-Some.place c.args.mailbox.0 c.deref.ensures.value c.in-Some.ensures.some) c.index.ensures c.index_mut.ensures.value),
  room_stays _ _ _ c.in-Some.place c.index_mut.result.now c.append_in.new.open_box c.args.mailbox.0 c.args.entry.now (placed _ _ c.args.self.now c.deref.result.now c.in-Some.place c.index_mut.result.now c.args.mailbox.0 c.args.entry.now c.self.invariant.1 c.self.view_is c.deref.ensures.value c.requires.running c.requires.range c.requires.fits c.requires.held c.requires.record c.in-Some.ensures.some c.index_mut.ensures.value) c.self.invariant.2 c.in-Ok.ensures.same.room refl refl,
  made_placed _ _ _ _ c.in-Some.place c.index_mut.result.now c.args.mailbox.0 c.args.entry.now (placed _ _ c.args.self.now c.deref.result.now c.in-Some.place c.index_mut.result.now c.args.mailbox.0 c.args.entry.now c.self.invariant.1 c.self.view_is c.deref.ensures.value c.requires.running c.requires.range c.requires.fits c.requires.held c.requires.record c.in-Some.ensures.some c.index_mut.ensures.value) refl refl refl refl refl c.in-Ok.ensures.others c.self.invariant.3,
  instances_boxed _ _ _ _ c.in-Some.place c.index_mut.result.now c.args.mailbox.0 c.args.entry.now (placed _ _ c.args.self.now c.deref.result.now c.in-Some.place c.index_mut.result.now c.args.mailbox.0 c.args.entry.now c.self.invariant.1 c.self.view_is c.deref.ensures.value c.requires.running c.requires.range c.requires.fits c.requires.held c.requires.record c.in-Some.ensures.some c.index_mut.ensures.value) c.self.invariant.4 c.in-Ok.ensures.others refl refl refl,
)

pub invariant_of-self-in-Err-Stopped : goal.invariant_of-self-in-Err-Stopped
invariant_of-self-in-Err-Stopped g c = (
  c.self.invariant.0,
  stopped_there _ _ _ _ c.in-Some.place c.index_mut.result.now c.append_in.new.open_box c.args.mailbox.0 c.args.entry.now (placed _ _ c.args.self.now c.deref.result.now c.in-Some.place c.index_mut.result.now c.args.mailbox.0 c.args.entry.now c.self.invariant.1 c.self.view_is c.deref.ensures.value c.requires.running c.requires.range c.requires.fits c.requires.held c.requires.record c.in-Some.ensures.some c.index_mut.ensures.value) c.in-Err-Stopped.ensures.same (c.in-Err-Stopped.ensures.untaken refl),
  room_stays _ _ _ c.in-Some.place c.index_mut.result.now c.append_in.new.open_box c.args.mailbox.0 c.args.entry.now (placed _ _ c.args.self.now c.deref.result.now c.in-Some.place c.index_mut.result.now c.args.mailbox.0 c.args.entry.now c.self.invariant.1 c.self.view_is c.deref.ensures.value c.requires.running c.requires.range c.requires.fits c.requires.held c.requires.record c.in-Some.ensures.some c.index_mut.ensures.value) c.self.invariant.2 c.in-Err-Stopped.ensures.same.room refl refl,
  made_stopped _ _ _ _ refl refl refl refl refl c.self.invariant.3,
  instances_stopped _ _ _ _ c.self.invariant.4 refl refl refl refl,
)

pub returns-in-Ok-clause-any_moment : goal.returns-in-Ok-clause-any_moment
returns-in-Ok-clause-any_moment g c =
    subst (λ v. (lists : Lists) (octets : List ℕ) → Brings v.map c.args.entry.now octets (g.D.Disk.history v.disk) → IsSettledFor lists (g.D.Disk.history v.disk) → Leaves lists (lists_by c.args.mailbox.0 octets c.args.entry.now lists) (g.D.Disk.history v.disk) (g.D.Disk.history c.append_in.new.disk)) c.self.view_is
    (leaves_there _ _ _ c.in-Some.place c.index_mut.result.now c.args.mailbox.0 c.args.entry.now (placed _ _ c.args.self.now c.deref.result.now c.in-Some.place c.index_mut.result.now c.args.mailbox.0 c.args.entry.now c.self.invariant.1 c.self.view_is c.deref.ensures.value c.requires.running c.requires.range c.requires.fits c.requires.held c.requires.record c.in-Some.ensures.some c.index_mut.ensures.value) (g.met.D.Disk.reads_image c.self.inside.disk) (c.in-Ok.ensures.any_moment (λ no. absurd (cc no))))

pub returns-in-Err-Stopped-clause-any_moment : goal.returns-in-Err-Stopped-clause-any_moment
returns-in-Err-Stopped-clause-any_moment g c =
    subst (λ v. (lists : Lists) (octets : List ℕ) → Brings v.map c.args.entry.now octets (g.D.Disk.history v.disk) → IsSettledFor lists (g.D.Disk.history v.disk) → Leaves lists (lists_by c.args.mailbox.0 octets c.args.entry.now lists) (g.D.Disk.history v.disk) (g.D.Disk.history c.append_in.new.disk)) c.self.view_is
    (leaves_there _ _ _ c.in-Some.place c.index_mut.result.now c.args.mailbox.0 c.args.entry.now (placed _ _ c.args.self.now c.deref.result.now c.in-Some.place c.index_mut.result.now c.args.mailbox.0 c.args.entry.now c.self.invariant.1 c.self.view_is c.deref.ensures.value c.requires.running c.requires.range c.requires.fits c.requires.held c.requires.record c.in-Some.ensures.some c.index_mut.ensures.value) (g.met.D.Disk.reads_image c.self.inside.disk) (c.in-Err-Stopped.ensures.any_moment (λ no. absurd (cc no))))

pub returns-in-Err-NoMemory-clause-any_moment : goal.returns-in-Err-NoMemory-clause-any_moment
returns-in-Err-NoMemory-clause-any_moment g c = λ lists octets brings settled.
    subst (λ d. Leaves lists (lists_by c.args.mailbox.0 octets c.args.entry.now lists) (g.D.Disk.history c.args.self.now.disk) (g.D.Disk.history d))
    (ap (λ v. v.disk) (sym c.self.view_is) ∙ sym (c.in-Err-NoMemory.ensures.memory (ap Err c.in-Err-NoMemory.field-0-is)).1)
    (leaves_none _ lists (lists_by c.args.mailbox.0 octets c.args.entry.now lists) settled)

pub returns-in-Ok-clause-settled : goal.returns-in-Ok-clause-settled
returns-in-Ok-clause-settled g c =
    subst (λ v. (lists : Lists) (octets : List ℕ) → Brings v.map c.args.entry.now octets (g.D.Disk.history v.disk) → IsSettledFor lists (g.D.Disk.history v.disk) → IsSettledFor (lists_by c.args.mailbox.0 octets c.args.entry.now lists) (g.D.Disk.history c.append_in.new.disk)) c.self.view_is
    (settled_there _ _ _ c.in-Some.place c.index_mut.result.now c.append_in.new.open_box c.args.mailbox.0 c.args.entry.now (placed _ _ c.args.self.now c.deref.result.now c.in-Some.place c.index_mut.result.now c.args.mailbox.0 c.args.entry.now c.self.invariant.1 c.self.view_is c.deref.ensures.value c.requires.running c.requires.range c.requires.fits c.requires.held c.requires.record c.in-Some.ensures.some c.index_mut.ensures.value) (g.met.D.Disk.reads_image c.self.inside.disk) c.in-Ok.ensures.same c.in-Ok.ensures.others c.in-Ok.ensures.held)

pub returns-in-Ok-clause-taken : goal.returns-in-Ok-clause-taken
returns-in-Ok-clause-taken g c =
    subst (λ v. indexes_of (slice_set c.self.inside.boxes.items c.in-Some.place c.append_in.new.open_box) ≡ meanings_by c.args.mailbox.0 c.args.entry.now v.map.boxes (indexes_of v.boxes)) c.self.view_is
    (taken_there _ _ c.in-Some.place c.index_mut.result.now c.append_in.new.open_box c.args.mailbox.0 c.args.entry.now (placed _ _ c.args.self.now c.deref.result.now c.in-Some.place c.index_mut.result.now c.args.mailbox.0 c.args.entry.now c.self.invariant.1 c.self.view_is c.deref.ensures.value c.requires.running c.requires.range c.requires.fits c.requires.held c.requires.record c.in-Some.ensures.some c.index_mut.ensures.value) c.in-Ok.ensures.taken)

pub returns-in-Ok-clause-due : goal.returns-in-Ok-clause-due
returns-in-Ok-clause-due g c =
    subst (λ v. (m : BoxMeaning) (uid : ℕ) → list_numbered v c.args.mailbox.0 ≡ Some m → number_beside uid c.self.inside.map.meaning.records c.change_due.new.dues.items ≡ due_by_box m c.args.entry.now (λ other. due_at other v) uid) c.self.view_is
    (λ m uid at. ap (number_beside uid c.self.inside.map.meaning.records) (dues_are_by c.self.inside.map.meaning.records c.self.inside.dues.items c.change_due.new.dues.items c.self.inside.boxes.items c.in-Some.place c.index.result.now c.index_mut.result.now c.args.entry.now c.due_change-how.result c.change_due.ensures c.due_change-how.ensures (place_below c.self.inside.boxes.items c.deref.result.now c.in-Some.place c.args.mailbox.0 c.deref.ensures.value c.in-Some.ensures.some) c.index.ensures c.index_mut.ensures.value) ∙ due_there _ _ c.in-Some.place c.index_mut.result.now c.args.mailbox.0 c.args.entry.now m uid (placed _ _ c.args.self.now c.deref.result.now c.in-Some.place c.index_mut.result.now c.args.mailbox.0 c.args.entry.now c.self.invariant.1 c.self.view_is c.deref.ensures.value c.requires.running c.requires.range c.requires.fits c.requires.held c.requires.record c.in-Some.ensures.some c.index_mut.ensures.value) at)

pub returns-in-Ok-clause-counted : goal.returns-in-Ok-clause-counted
returns-in-Ok-clause-counted g c =
    subst (λ v. log_count_of c.args.mailbox.0 (slice_set c.self.inside.boxes.items c.in-Some.place c.append_in.new.open_box) ≡ log_count_of c.args.mailbox.0 v.boxes + 1) c.self.view_is
    (counted_there _ _ c.in-Some.place c.index_mut.result.now c.append_in.new.open_box c.args.mailbox.0 c.args.entry.now (placed _ _ c.args.self.now c.deref.result.now c.in-Some.place c.index_mut.result.now c.args.mailbox.0 c.args.entry.now c.self.invariant.1 c.self.view_is c.deref.ensures.value c.requires.running c.requires.range c.requires.fits c.requires.held c.requires.record c.in-Some.ensures.some c.index_mut.ensures.value) c.in-Ok.ensures.same.number c.in-Ok.ensures.counted)

pub returns-in-Ok-clause-leak : goal.returns-in-Ok-clause-leak
returns-in-Ok-clause-leak g c =
    subst (λ v. (uid : ℕ) → number_beside uid c.self.inside.map.meaning.records (map (λ row. row.count) c.self.inside.map.meaning.records) - (sum_by (λ m. count_by (λ row. row.map_uid == uid) m.rows) (indexes_of (slice_set c.self.inside.boxes.items c.in-Some.place c.append_in.new.open_box)) + number_beside uid c.self.inside.map.meaning.records c.change_due.new.dues.items) ≡ leak_at uid v) c.self.view_is
    (λ uid. leak_there _ _ c.in-Some.place c.index_mut.result.now c.args.mailbox.0 c.args.entry.now (indexes_of (slice_set c.self.inside.boxes.items c.in-Some.place c.append_in.new.open_box)) c.change_due.new.dues.items uid (placed _ _ c.args.self.now c.deref.result.now c.in-Some.place c.index_mut.result.now c.args.mailbox.0 c.args.entry.now c.self.invariant.1 c.self.view_is c.deref.ensures.value c.requires.running c.requires.range c.requires.fits c.requires.held c.requires.record c.in-Some.ensures.some c.index_mut.ensures.value) (taken_there _ _ c.in-Some.place c.index_mut.result.now c.append_in.new.open_box c.args.mailbox.0 c.args.entry.now (placed _ _ c.args.self.now c.deref.result.now c.in-Some.place c.index_mut.result.now c.args.mailbox.0 c.args.entry.now c.self.invariant.1 c.self.view_is c.deref.ensures.value c.requires.running c.requires.range c.requires.fits c.requires.held c.requires.record c.in-Some.ensures.some c.index_mut.ensures.value) c.in-Ok.ensures.taken) (dues_are_by c.self.inside.map.meaning.records c.self.inside.dues.items c.change_due.new.dues.items c.self.inside.boxes.items c.in-Some.place c.index.result.now c.index_mut.result.now c.args.entry.now c.due_change-how.result c.change_due.ensures c.due_change-how.ensures (place_below c.self.inside.boxes.items c.deref.result.now c.in-Some.place c.args.mailbox.0 c.deref.ensures.value c.in-Some.ensures.some) c.index.ensures c.index_mut.ensures.value))

pub returns-in-Err-Stopped-clause-leak : goal.returns-in-Err-Stopped-clause-leak
returns-in-Err-Stopped-clause-leak g c = λ uid.
    ap (λ (ms : List BoxMeaning). number_beside uid c.self.inside.map.meaning.records (map (λ row. row.count) c.self.inside.map.meaning.records) - (sum_by (λ m. count_by (λ row. row.map_uid == uid) m.rows) ms + number_beside uid c.self.inside.map.meaning.records c.self.inside.dues.items))
    (indexes_kept c.in-Some.place c.index_mut.result.now c.append_in.new.open_box c.self.inside.boxes.items (c.in-Err-Stopped.ensures.untaken refl ∙ ap (λ b. b.index.meaning) c.index_mut.ensures.value))
    ∙ ap (λ v. leak_at uid v) c.self.view_is

pub returns-in-Err-Stopped-clause-untaken : goal.returns-in-Err-Stopped-clause-untaken
returns-in-Err-Stopped-clause-untaken g c = λ failed. (
  indexes_kept c.in-Some.place c.index_mut.result.now c.append_in.new.open_box c.self.inside.boxes.items (c.in-Err-Stopped.ensures.untaken refl ∙ ap (λ b. b.index.meaning) c.index_mut.ensures.value) ∙ ap (λ v. indexes_of v.boxes) c.self.view_is,
  ap (λ v. v.dues) c.self.view_is,
)

pub returns-in-Ok-clause-stored : goal.returns-in-Ok-clause-stored
returns-in-Ok-clause-stored g c =
    subst (λ v. KeepsStored (g.D.Disk.history v.disk) (g.D.Disk.history c.append_in.new.disk)) c.self.view_is
    (stored_there _ _ _ c.in-Some.place c.index_mut.result.now c.args.mailbox.0 c.args.entry.now (placed _ _ c.args.self.now c.deref.result.now c.in-Some.place c.index_mut.result.now c.args.mailbox.0 c.args.entry.now c.self.invariant.1 c.self.view_is c.deref.ensures.value c.requires.running c.requires.range c.requires.fits c.requires.held c.requires.record c.in-Some.ensures.some c.index_mut.ensures.value) c.in-Ok.ensures.others)

pub returns-in-Ok-clause-others : goal.returns-in-Ok-clause-others
returns-in-Ok-clause-others g c =
    subst (λ v. KeepsMail (g.D.Disk.history v.disk) (g.D.Disk.history c.append_in.new.disk)) c.self.view_is
    (mail_boxed _ _ _ c.in-Some.place c.index_mut.result.now c.args.mailbox.0 c.args.entry.now (placed _ _ c.args.self.now c.deref.result.now c.in-Some.place c.index_mut.result.now c.args.mailbox.0 c.args.entry.now c.self.invariant.1 c.self.view_is c.deref.ensures.value c.requires.running c.requires.range c.requires.fits c.requires.held c.requires.record c.in-Some.ensures.some c.index_mut.ensures.value) c.in-Ok.ensures.others)

pub returns-in-Ok-clause-mail_stays : goal.returns-in-Ok-clause-mail_stays
returns-in-Ok-clause-mail_stays g c = λ m.
    let q = own_box _ _ c.in-Some.place c.index_mut.result.now c.args.mailbox.0 c.args.entry.now (placed _ _ c.args.self.now c.deref.result.now c.in-Some.place c.index_mut.result.now c.args.mailbox.0 c.args.entry.now c.self.invariant.1 c.self.view_is c.deref.ensures.value c.requires.running c.requires.range c.requires.fits c.requires.held c.requires.record c.in-Some.ensures.some c.index_mut.ensures.value) in
    subst (λ v. MailIsKept m (g.D.Disk.history v.disk) (g.D.Disk.history c.append_in.new.disk)) c.self.view_is
    (box_log_kept m c.index_mut.result.now.log.name q.box.number q.box.generation _ _ q.name (c.in-Ok.ensures.others_stay (λ no. absurd (cc no))))

pub returns-in-Err-Stopped-clause-mail_stays : goal.returns-in-Err-Stopped-clause-mail_stays
returns-in-Err-Stopped-clause-mail_stays g c = λ m.
    let q = own_box _ _ c.in-Some.place c.index_mut.result.now c.args.mailbox.0 c.args.entry.now (placed _ _ c.args.self.now c.deref.result.now c.in-Some.place c.index_mut.result.now c.args.mailbox.0 c.args.entry.now c.self.invariant.1 c.self.view_is c.deref.ensures.value c.requires.running c.requires.range c.requires.fits c.requires.held c.requires.record c.in-Some.ensures.some c.index_mut.ensures.value) in
    subst (λ v. MailIsKept m (g.D.Disk.history v.disk) (g.D.Disk.history c.append_in.new.disk)) c.self.view_is
    (box_log_kept m c.index_mut.result.now.log.name q.box.number q.box.generation _ _ q.name (c.in-Err-Stopped.ensures.others_stay (λ no. absurd (cc no))))

pub returns-in-Err-NoMemory-clause-mail_stays : goal.returns-in-Err-NoMemory-clause-mail_stays
returns-in-Err-NoMemory-clause-mail_stays g c = λ m.
    subst (λ d. MailIsKept m (g.D.Disk.history c.args.self.now.disk) (g.D.Disk.history d))
    (ap (λ v. v.disk) (sym c.self.view_is) ∙ sym (c.in-Err-NoMemory.ensures.memory (ap Err c.in-Err-NoMemory.field-0-is)).1)
    (kept_begins m (g.D.Disk.history c.args.self.now.disk))
