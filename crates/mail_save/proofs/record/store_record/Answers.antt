use Rattle.mail_save.proofs.Common.{rules, Err, inl, inr, List, [], Some, All, ◌≡◌, ◌∙◌, ap, sym, subst, refl, All-head, InstRow, RowInRange, MapRecord, record_at, IsSettledFor, Leaves, MailIsKept, AreSpared, saved_row}
use Rattle.mail_save.proofs.StayingLemmas.{kept_same}
use Rattle.mail_save.proofs.PlaceLemmas.{unchanged_leaves, unchanged_settled}
use Rattle.mail_save.proofs.RecordLemmas.{rows_in_range, file_drawn, guid_drawn, record_fits, record_below, record_lies, ready_as}
use Rattle.mail_save.proofs.SaveEventLemmas.{uids_full, unfallen}
use Rattle.mail_save.proofs.StoringLemmas.{gives_back, left_alone, released_firm, spared_as, stores_placed}
use Rattle.mail_save.proofs.record.store_record.Goals.{in-Ok, in-Err-Stopped, in-Err-NoMemory}
use Rattle.mail_save.proofs.record.store_record.Goals as goal

pub returns-in_default-clause-any_moment : goal.returns-in_default-clause-any_moment
returns-in_default-clause-any_moment g c = λ lists ready named s. unchanged_leaves g.D.Disk.history c.args.store.now.disk c.release.new.self.disk (ap (λ v. v.disk) c.release.ensures.same) lists lists s

pub append_map-requires-clause-fits : goal.append_map-requires-clause-fits
append_map-requires-clause-fits g c =
    record_fits c.in-Some.uid c.args.at c.args.rows c.args.store.now _ (c.known_rows_agree.ensures _ c.args.store.now c.args.rows c.facts.ensures.instances c.requires.instances.known) c.facts.ensures.store c.facts.ensures.files c.requires.placed c.requires.size c.in-Some.ensures.some.0 c.in-Some.ensures.some.1

pub append_map-requires-clause-drawn : goal.append_map-requires-clause-drawn
append_map-requires-clause-drawn g c =
    (c.in-Some.ensures.some.0, file_drawn c.args.at c.args.store.now _ c.facts.ensures.store c.facts.ensures.files c.requires.placed, guid_drawn c.args.at c.args.store.now _ c.facts.ensures.store c.facts.ensures.files c.requires.placed)

pub append_map-requires-clause-below : goal.append_map-requires-clause-below
append_map-requires-clause-below g c = record_below c.in-Some.uid c.args.at c.args.rows c.args.store.now _ c.facts.ensures.store c.requires.placed c.requires.size

pub append_map-requires-clause-region : goal.append_map-requires-clause-region
append_map-requires-clause-region g c =
    record_lies c.in-Some.uid c.args.at c.args.rows c.args.store.now _ c.requires.placed ((c.facts.ensures.store.running c.requires.running).files_known c.args.at.file.0)

pub append_map-requires-clause-instances : goal.append_map-requires-clause-instances
append_map-requires-clause-instances g c = c.requires.instances.known

pub append_map-requires-clause-once : goal.append_map-requires-clause-once
append_map-requires-clause-once g c = λ own. c.requires.instances.first

pub returns-in_default-clause-refused : goal.returns-in_default-clause-refused
returns-in_default-clause-refused g c = inl (uids_full c.args.store.now.drawn.map c.in_default.ensures.none)

-- ---- what it makes of the store

pub returns-in_default-clause-none : goal.returns-in_default-clause-none
returns-in_default-clause-none g c = inr ((λ e. cc e), gives_back c.args.at.file.0 c.args.store.now c.args.store.now c.release.new.self refl c.release.ensures.same c.release.ensures.ends)

pub append_map-requires-clause-range : goal.append_map-requires-clause-range
append_map-requires-clause-range g c =
    let rows = rows_in_range c.args.rows (subst (λ (is : List InstRow). All RowInRange is) c.as_slice.ensures c.known_rows.ensures) in
    (search rules, search rules, search rules, search rules, search rules, search rules, search rules, c.requires.instances.few, rows)

-- ---- by how the append went

pub returns-clause-any_moment : goal.returns-clause-any_moment
returns-clause-any_moment g c = λ lists ready named s.
    let at_next = ready_as c.args.rows c.in-Some.uid c.args.at _ _ c.in-Some.ensures.some.0 ready in
    elim c.match-append_map.branch [
      | in-Ok w ↦
          subst (λ d. Leaves lists lists (g.D.Disk.history c.args.store.now.disk) (g.D.Disk.history d)) (ap (λ v. v.disk) (sym (w.store-is ∙ w.release-in-Ok.ensures.same)))
          (c.append_map.ensures.any_moment lists at_next named s)
      | in-Err-Stopped w ↦
          subst (λ d. Leaves lists lists (g.D.Disk.history c.args.store.now.disk) (g.D.Disk.history d)) (ap (λ v. v.disk) (sym w.store-is))
          (c.append_map.ensures.any_moment lists at_next named s)
      | in-Err-NoMemory w ↦
          subst (λ d. Leaves lists lists (g.D.Disk.history c.args.store.now.disk) (g.D.Disk.history d)) (ap (λ v. v.disk) (sym (w.store-is ∙ w.release-in-Err-NoMemory.ensures.same)))
          (c.append_map.ensures.any_moment lists at_next named s)
    ]

pub returns-clause-stores : goal.returns-clause-stores
returns-clause-stores g c = elim c.match-append_map.branch [
  | in-Ok w ↦
      rw (w.stored-is, w.store-is) (λ time size.
      let row = saved_row c.args.rows c.in-Some.uid c.args.at in
      let made = All-head (λ (r : MapRecord). record_at c.append_map.new.self.map r.uid ≡ Some r) row [] w.in-Ok.ensures.made in
      stores_placed c.args.at c.args.rows time size c.in-Some.uid c.args.store.now c.append_map.new.self w.release-in-Ok.new.self c.in-Some.ensures.some.0 c.in-Some.ensures.some.1.high
      (record_fits c.in-Some.uid c.args.at c.args.rows c.args.store.now _ (c.known_rows_agree.ensures _ c.args.store.now c.args.rows c.facts.ensures.instances c.requires.instances.known) c.facts.ensures.store c.facts.ensures.files c.requires.placed c.requires.size c.in-Some.ensures.some.0 c.in-Some.ensures.some.1)
      w.in-Ok.ensures.taken made w.in-Ok.ensures.drawn w.in-Ok.ensures.due
      c.append_map.ensures.mailboxes c.append_map.ensures.same c.append_map.ensures.room w.in-Ok.ensures.further w.release-in-Ok.ensures.same w.release-in-Ok.ensures.ends)
  | in-Err-Stopped w ↦ rw w.stored-is tt
  | in-Err-NoMemory w ↦ rw w.stored-is tt
]

pub returns-clause-spared : goal.returns-clause-spared
returns-clause-spared g c = elim c.match-append_map.branch [
  | in-Ok w ↦
      rw (w.stored-is, w.store-is) (subst (λ d. AreSpared c.args.store.now w.release-in-Ok.new.self (g.D.Disk.history c.args.store.now.disk) (g.D.Disk.history d)) (ap (λ v. v.disk) (sym w.release-in-Ok.ensures.same))
      (spared_as c.args.store.now c.append_map.new.self w.release-in-Ok.new.self _ _ (ap (λ v. v.map) w.release-in-Ok.ensures.same) w.in-Ok.ensures.spared))
  | in-Err-Stopped w ↦ rw w.stored-is tt
  | in-Err-NoMemory w ↦ rw w.stored-is tt
]

pub returns-clause-firm : goal.returns-clause-firm
returns-clause-firm g c = elim c.match-append_map.branch [
  | in-Ok w ↦
      rw (w.stored-is, w.store-is) (released_firm g.D.Disk.history c.args.at.file.0 c.args.store.now c.append_map.new.self w.release-in-Ok.new.self w.release-in-Ok.ensures.same w.in-Ok.ensures.firm)
  | in-Err-Stopped w ↦ rw w.stored-is tt
  | in-Err-NoMemory w ↦ rw w.stored-is tt
]

pub returns-clause-none : goal.returns-clause-none
returns-clause-none g c = elim c.match-append_map.branch [
  | in-Ok w ↦ rw w.stored-is tt
  | in-Err-Stopped w ↦
      rw (w.stored-is, w.store-is) (let o = c.append_map.ensures in
      let k = w.in-Err-Stopped.ensures.untaken refl in
      inl (refl, left_alone c.args.store.now c.append_map.new.self (w.in-Err-Stopped.ensures.stopped.0 (ap Err w.in-Err-Stopped.field-0-is)) o.same o.room k.0 k.1 k.2))
  | in-Err-NoMemory w ↦
      rw (w.stored-is, w.store-is) (inr ((λ e. cc e), gives_back c.args.at.file.0 c.args.store.now c.append_map.new.self w.release-in-Err-NoMemory.new.self (w.in-Err-NoMemory.ensures.memory (ap Err w.in-Err-NoMemory.field-0-is)).0 w.release-in-Err-NoMemory.ensures.same w.release-in-Err-NoMemory.ensures.ends))
]

pub returns-clause-settled : goal.returns-clause-settled
returns-clause-settled g c = elim c.match-append_map.branch [
  | in-Ok w ↦
      rw w.store-is (λ ran lists ready named s.
      subst (λ d. IsSettledFor lists (g.D.Disk.history d)) (ap (λ v. v.disk) (sym w.release-in-Ok.ensures.same))
      (w.in-Ok.ensures.settled lists (ready_as c.args.rows c.in-Some.uid c.args.at _ _ c.in-Some.ensures.some.0 ready) named s))
  | in-Err-Stopped w ↦ rw w.store-is (λ ran. absurd (unfallen c.append_map.new.self.stopped (w.in-Err-Stopped.ensures.stopped.0 (ap Err w.in-Err-Stopped.field-0-is)) ran))
  | in-Err-NoMemory w ↦ rw w.store-is (λ ran lists ready named s.
      unchanged_settled g.D.Disk.history c.args.store.now.disk w.release-in-Err-NoMemory.new.self.disk (ap (λ v. v.disk) w.release-in-Err-NoMemory.ensures.same ∙ ap (λ v. v.disk) (w.in-Err-NoMemory.ensures.memory (ap Err w.in-Err-NoMemory.field-0-is)).0) lists s)
]

pub returns-in_default-clause-mail_stays : goal.returns-in_default-clause-mail_stays
returns-in_default-clause-mail_stays g c = kept_same g.D.Disk.history _ c.args.store.now.disk c.release.new.self.disk (ap (λ v. v.disk) c.release.ensures.same)

pub returns-clause-mail_stays : goal.returns-clause-mail_stays
returns-clause-mail_stays g c = elim c.match-append_map.branch [
  | in-Ok w ↦ subst (λ d. MailIsKept c.args.store.now.map (g.D.Disk.history c.args.store.now.disk) (g.D.Disk.history d)) (ap (λ v. v.disk) (sym (w.store-is ∙ w.release-in-Ok.ensures.same))) (c.append_map.ensures.mail_stays _)
  | in-Err-Stopped w ↦ subst (λ d. MailIsKept c.args.store.now.map (g.D.Disk.history c.args.store.now.disk) (g.D.Disk.history d)) (ap (λ v. v.disk) (sym w.store-is)) (c.append_map.ensures.mail_stays _)
  | in-Err-NoMemory w ↦ subst (λ d. MailIsKept c.args.store.now.map (g.D.Disk.history c.args.store.now.disk) (g.D.Disk.history d)) (ap (λ v. v.disk) (sym (w.store-is ∙ w.release-in-Err-NoMemory.ensures.same))) (c.append_map.ensures.mail_stays _)
]
