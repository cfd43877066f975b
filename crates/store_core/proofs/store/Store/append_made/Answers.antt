use Rattle.store_core.proofs.Common.{rules, ◌≡◌, ◌++◌, ◌∷◌, [], true, List, refl, sym, ◌∙◌, ap, subst, MapEntry, LogState, Lists, empty_mailbox, map_text, box_meaning, MapMeaning, map_applied, IsSettledFor, Leaves, AddsText, KeepsStored, KeepsMail, has_made_log, indexes_of, OpenBox, MailIsKept}
use Rattle.store_core.proofs.Common.{kept_begins}
use Rattle.mdbox_base.specs.declared.entries.MapEntry.TheVariants as entry
use Rattle.store_core.proofs.BoxCrashLemmas.{leaves_none}
use Rattle.store_core.proofs.KnownInstanceLemmas.{instances_naming}
use Rattle.store_core.proofs.MadeCallLemmas.{left_others}
use Rattle.store_core.proofs.KeptMailLemmas.{mail_mapped}
use Rattle.store_core.proofs.NamingLemmas.{same_records, leaves_named, settled_named, stored_named}
use Rattle.store_core.proofs.NamingCallLemmas.{AddsRead, AddsHeld, can_name, some_name, read_named, store_after_naming, made_after_naming, room_after_naming, indexes_more, due_stays, leak_stays}
use Rattle.store_core.proofs.MailStayLemmas.{map_log_kept}
use Rattle.store_core.proofs.store.Store.append_made.Goals as goal

pub returns-in_err-entry-clause-any_moment : goal.returns-in_err-entry-clause-any_moment
returns-in_err-entry-clause-any_moment g c =
    subst (λ v. (lists : Lists) → IsSettledFor lists (g.D.Disk.history v.disk) → Leaves lists (lists ++ empty_mailbox c.args.mailbox.0 c.args.name.now ∷ []) (g.D.Disk.history v.disk) (g.D.Disk.history c.self.inside.disk)) c.self.view_is
    (λ lists settled. leaves_none _ lists (lists ++ empty_mailbox c.args.mailbox.0 c.args.name.now ∷ []) settled)

pub append_entry-requires-clause-read : goal.append_entry-requires-clause-read
append_entry-requires-clause-read g c =
    let s = some_name _ _ c.args.self.now c.take_naming.new.log c.take_naming.new.map.meaning c.args.mailbox c.args.name.now c.self.invariant.1 c.self.invariant.3 c.self.view_is c.requires.running c.take_naming.ensures.name c.requires.fits c.take_naming.ensures.log c.take_naming.ensures.map c.requires.made in
    read_named _ _ s.0 c.args.mailbox c.args.name.now s.1

pub invariant_of-self-in-Ok : goal.invariant_of-self-in-Ok
invariant_of-self-in-Ok g c =
    let is = c.in_ok-entry.ensures.entry.0 in
    let b = c.move_made.ensures.moved.0 in
    let can = can_name _ _ c.args.self.now c.take_naming.new.log c.take_naming.new.map.meaning b c.args.mailbox c.args.name.now c.self.invariant.1 c.self.invariant.3 c.self.view_is c.requires.running c.take_naming.ensures.name c.requires.fits c.take_naming.ensures.log c.take_naming.ensures.map c.move_made.ensures.moved.1 in
    let applied : c.take_in.new.self.meaning ≡ map_applied (entry.B c.args.mailbox 1 c.args.name.now) c.take_naming.new.map.meaning = ap (λ x. x.meaning) c.take_in.ensures ∙ ap (λ (e : MapEntry). map_applied e c.take_naming.new.map.meaning) is in
    let more = c.move_made.ensures.moved.2 ∙ ap (λ (bs : List OpenBox). bs ++ b ∷ []) c.take_naming.ensures.boxes in (
      c.self.invariant.0 ∙ ap (λ (m : MapMeaning). m.store) (sym (applied ∙ ap (map_applied (entry.B c.args.mailbox 1 c.args.name.now)) c.take_naming.ensures.map)),
      store_after_naming _ _ _ c.append_entry.new.disk c.take_naming.new.log c.append_entry.new.log c.take_naming.new.map.meaning c.take_in.new.self.meaning c.take_naming.new.boxes.items c.move_made.new.boxes.items c.move_made.new.made.items b c.args.mailbox c.args.name.now c.self.invariant.1 can c.in-Ok.ensures.log c.in-Ok.ensures.others
          (subst (AddsRead c.take_naming.new.log c.append_entry.new.log (g.D.Disk.history c.self.inside.disk) (g.D.Disk.history c.append_entry.new.disk)) is c.in-Ok.ensures.added) applied c.take_naming.ensures.boxes c.move_made.ensures.moved.2,
      room_after_naming _ _ c.take_naming.new.log b c.self.invariant.2 c.take_naming.ensures.no_less c.in-Ok.ensures.log.room can.is_made.room more,
      made_after_naming _ _ _ _ c.take_naming.new.log c.take_naming.new.map.meaning b c.args.mailbox c.args.name.now can c.self.invariant.3 c.in-Ok.ensures.others c.take_naming.ensures.map applied refl c.move_made.ensures.left,
      instances_naming c.take_naming.new.log.name c.self.invariant.1.generation _ _ _ _ c.self.invariant.4 (ap (λ (l : LogState). l.name) c.take_naming.ensures.log ∙ c.self.invariant.1.map_name) c.in-Ok.ensures.others refl refl
          (ap (λ (m : MapMeaning). m.store) (applied ∙ ap (map_applied (entry.B c.args.mailbox 1 c.args.name.now)) c.take_naming.ensures.map))
          (ap (λ (m : MapMeaning). m.records) (applied ∙ ap (map_applied (entry.B c.args.mailbox 1 c.args.name.now)) c.take_naming.ensures.map) ∙ same_records c.self.inside.map.meaning c.args.mailbox c.args.name.now) (λ on. on),
    )

pub returns-in-Ok-clause-any_moment : goal.returns-in-Ok-clause-any_moment
returns-in-Ok-clause-any_moment g c =
    let is = c.in_ok-entry.ensures.entry.0 in
    let s = some_name _ _ c.args.self.now c.take_naming.new.log c.take_naming.new.map.meaning c.args.mailbox c.args.name.now c.self.invariant.1 c.self.invariant.3 c.self.view_is c.requires.running c.take_naming.ensures.name c.requires.fits c.take_naming.ensures.log c.take_naming.ensures.map c.requires.made in
    subst (λ v. (lists : Lists) → IsSettledFor lists (g.D.Disk.history v.disk) → Leaves lists (lists ++ empty_mailbox c.args.mailbox.0 c.args.name.now ∷ []) (g.D.Disk.history v.disk) (g.D.Disk.history c.append_entry.new.disk)) c.self.view_is
    (leaves_named _ _ _ s.0 c.args.mailbox c.args.name.now s.1 (g.met.D.Disk.reads_image c.self.inside.disk)
    (subst (λ (e : MapEntry). AddsText c.take_naming.new.log (map_text e) (g.D.Disk.history c.self.inside.disk) (g.D.Disk.history c.append_entry.new.disk)) is c.append_entry.ensures.any_moment))

pub returns-in-Err-clause-any_moment : goal.returns-in-Err-clause-any_moment
returns-in-Err-clause-any_moment g c =
    let is = c.in_ok-entry.ensures.entry.0 in
    let s = some_name _ _ c.args.self.now c.take_naming.new.log c.take_naming.new.map.meaning c.args.mailbox c.args.name.now c.self.invariant.1 c.self.invariant.3 c.self.view_is c.requires.running c.take_naming.ensures.name c.requires.fits c.take_naming.ensures.log c.take_naming.ensures.map c.requires.made in
    let left : (lists : Lists) → IsSettledFor lists (g.D.Disk.history c.args.self.now.disk) → Leaves lists (lists ++ empty_mailbox c.args.mailbox.0 c.args.name.now ∷ []) (g.D.Disk.history c.args.self.now.disk) (g.D.Disk.history c.append_entry.new.disk) =
    subst (λ v. (lists : Lists) → IsSettledFor lists (g.D.Disk.history v.disk) → Leaves lists (lists ++ empty_mailbox c.args.mailbox.0 c.args.name.now ∷ []) (g.D.Disk.history v.disk) (g.D.Disk.history c.append_entry.new.disk)) c.self.view_is
    (leaves_named _ _ _ s.0 c.args.mailbox c.args.name.now s.1 (g.met.D.Disk.reads_image c.self.inside.disk)
    (subst (λ (e : MapEntry). AddsText c.take_naming.new.log (map_text e) (g.D.Disk.history c.self.inside.disk) (g.D.Disk.history c.append_entry.new.disk)) is c.append_entry.ensures.any_moment)) in
    let same : c.match-entry.self.disk ≡ c.append_entry.new.disk = search rules in
    subst (λ d. (lists : Lists) → IsSettledFor lists (g.D.Disk.history c.args.self.now.disk) → Leaves lists (lists ++ empty_mailbox c.args.mailbox.0 c.args.name.now ∷ []) (g.D.Disk.history c.args.self.now.disk) (g.D.Disk.history d)) (sym same) left

pub returns-in-Ok-clause-settled : goal.returns-in-Ok-clause-settled
returns-in-Ok-clause-settled g c =
    let is = c.in_ok-entry.ensures.entry.0 in
    let s = some_name _ _ c.args.self.now c.take_naming.new.log c.take_naming.new.map.meaning c.args.mailbox c.args.name.now c.self.invariant.1 c.self.invariant.3 c.self.view_is c.requires.running c.take_naming.ensures.name c.requires.fits c.take_naming.ensures.log c.take_naming.ensures.map c.requires.made in
    subst (λ v. (lists : Lists) → IsSettledFor lists (g.D.Disk.history v.disk) → IsSettledFor (lists ++ empty_mailbox c.args.mailbox.0 c.args.name.now ∷ []) (g.D.Disk.history c.append_entry.new.disk)) c.self.view_is
    (settled_named _ _ _ s.0 c.args.mailbox c.args.name.now c.append_entry.new.log s.1 (g.met.D.Disk.reads_image c.self.inside.disk) c.in-Ok.ensures.log c.in-Ok.ensures.others
    (subst (AddsHeld c.take_naming.new.log c.append_entry.new.log (g.D.Disk.history c.self.inside.disk) (g.D.Disk.history c.append_entry.new.disk)) is c.in-Ok.ensures.held))

pub returns-in-Ok-clause-stored : goal.returns-in-Ok-clause-stored
returns-in-Ok-clause-stored g c =
    let s = some_name _ _ c.args.self.now c.take_naming.new.log c.take_naming.new.map.meaning c.args.mailbox c.args.name.now c.self.invariant.1 c.self.invariant.3 c.self.view_is c.requires.running c.take_naming.ensures.name c.requires.fits c.take_naming.ensures.log c.take_naming.ensures.map c.requires.made in
    subst (λ v. KeepsStored (g.D.Disk.history v.disk) (g.D.Disk.history c.append_entry.new.disk)) c.self.view_is (stored_named _ _ _ s.1.store c.in-Ok.ensures.others)

pub returns-in-Ok-clause-indexes : goal.returns-in-Ok-clause-indexes
returns-in-Ok-clause-indexes g c =
    let b = c.move_made.ensures.moved.0 in
    let can = can_name _ _ c.args.self.now c.take_naming.new.log c.take_naming.new.map.meaning b c.args.mailbox c.args.name.now c.self.invariant.1 c.self.invariant.3 c.self.view_is c.requires.running c.take_naming.ensures.name c.requires.fits c.take_naming.ensures.log c.take_naming.ensures.map c.move_made.ensures.moved.1 in
    indexes_more _ c.move_made.new.boxes.items b c.move_made.ensures.moved.2 can.is_made.empty ∙ ap (λ (bs : List OpenBox). indexes_of bs ++ box_meaning [] ∷ []) (c.take_naming.ensures.boxes ∙ ap (λ v. v.boxes) c.self.view_is)

pub returns-in-Ok-clause-spared : goal.returns-in-Ok-clause-spared
returns-in-Ok-clause-spared g c = λ other apart has. left_others c.args.mailbox.0 other _ c.move_made.new.made.items c.move_made.ensures.left apart (subst (λ v. has_made_log other v ≡ true) (sym c.self.view_is) has)

pub returns-in-Ok-clause-records : goal.returns-in-Ok-clause-records
returns-in-Ok-clause-records g c =
    ap (λ x. x.meaning.records) c.take_in.ensures ∙ ap (λ (e : MapEntry). (map_applied e c.take_naming.new.map.meaning).records) c.in_ok-entry.ensures.entry.0 ∙ same_records c.take_naming.new.map.meaning c.args.mailbox c.args.name.now
    ∙ ap (λ (m : MapMeaning). m.records) (c.take_naming.ensures.map ∙ ap (λ v. v.map) c.self.view_is)

pub returns-in-Ok-clause-due : goal.returns-in-Ok-clause-due
returns-in-Ok-clause-due g c = λ uid. due_stays uid c.take_in.new.self.meaning.records c.args.self.now.map.records c.self.inside.dues.items c.args.self.now.dues
    (ap (λ x. x.meaning.records) c.take_in.ensures ∙ ap (λ (e : MapEntry). (map_applied e c.take_naming.new.map.meaning).records) c.in_ok-entry.ensures.entry.0 ∙ same_records c.take_naming.new.map.meaning c.args.mailbox c.args.name.now
    ∙ ap (λ (m : MapMeaning). m.records) (c.take_naming.ensures.map ∙ ap (λ v. v.map) c.self.view_is)) (ap (λ v. v.dues) c.self.view_is)

pub returns-in-Ok-clause-leak : goal.returns-in-Ok-clause-leak
returns-in-Ok-clause-leak g c =
    let b = c.move_made.ensures.moved.0 in
    let can = can_name _ _ c.args.self.now c.take_naming.new.log c.take_naming.new.map.meaning b c.args.mailbox c.args.name.now c.self.invariant.1 c.self.invariant.3 c.self.view_is c.requires.running c.take_naming.ensures.name c.requires.fits c.take_naming.ensures.log c.take_naming.ensures.map c.move_made.ensures.moved.1 in
    λ uid. leak_stays uid c.take_in.new.self.meaning.records c.args.self.now.map.records c.self.inside.dues.items c.args.self.now.dues (indexes_of c.move_made.new.boxes.items) (indexes_of c.args.self.now.boxes)
    (ap (λ x. x.meaning.records) c.take_in.ensures ∙ ap (λ (e : MapEntry). (map_applied e c.take_naming.new.map.meaning).records) c.in_ok-entry.ensures.entry.0 ∙ same_records c.take_naming.new.map.meaning c.args.mailbox c.args.name.now
    ∙ ap (λ (m : MapMeaning). m.records) (c.take_naming.ensures.map ∙ ap (λ v. v.map) c.self.view_is)) (ap (λ v. v.dues) c.self.view_is)
    (indexes_more _ c.move_made.new.boxes.items b c.move_made.ensures.moved.2 can.is_made.empty ∙ ap (λ (bs : List OpenBox). indexes_of bs ++ box_meaning [] ∷ []) (c.take_naming.ensures.boxes ∙ ap (λ v. v.boxes) c.self.view_is))

pub returns-in-Ok-clause-others : goal.returns-in-Ok-clause-others
returns-in-Ok-clause-others g c =
    subst (λ v. KeepsMail (g.D.Disk.history v.disk) (g.D.Disk.history c.append_entry.new.disk)) c.self.view_is
    (mail_mapped c.take_naming.new.log.name c.self.invariant.1.generation _ _ (ap (λ (l : LogState). l.name) c.take_naming.ensures.log ∙ c.self.invariant.1.map_name) c.in-Ok.ensures.others)

pub returns-in_err-entry-clause-mail_stays : goal.returns-in_err-entry-clause-mail_stays
returns-in_err-entry-clause-mail_stays g c = λ m.
    subst (λ v. MailIsKept m (g.D.Disk.history v.disk) (g.D.Disk.history c.self.inside.disk)) c.self.view_is
    (kept_begins m _)

pub returns-in-Ok-clause-mail_stays : goal.returns-in-Ok-clause-mail_stays
returns-in-Ok-clause-mail_stays g c = λ m.
    subst (λ v. MailIsKept m (g.D.Disk.history v.disk) (g.D.Disk.history c.append_entry.new.disk)) c.self.view_is
    (map_log_kept m c.take_naming.new.log.name c.self.invariant.1.generation _ _ (ap (λ (l : LogState). l.name) c.take_naming.ensures.log ∙ c.self.invariant.1.map_name) c.append_entry.ensures.others_stay)

pub returns-in-Err-clause-mail_stays : goal.returns-in-Err-clause-mail_stays
returns-in-Err-clause-mail_stays g c = λ m.
    let left : MailIsKept m (g.D.Disk.history c.args.self.now.disk) (g.D.Disk.history c.append_entry.new.disk) =
    subst (λ v. MailIsKept m (g.D.Disk.history v.disk) (g.D.Disk.history c.append_entry.new.disk)) c.self.view_is
    (map_log_kept m c.take_naming.new.log.name c.self.invariant.1.generation _ _ (ap (λ (l : LogState). l.name) c.take_naming.ensures.log ∙ c.self.invariant.1.map_name) c.append_entry.ensures.others_stay) in
    let same : c.match-entry.self.disk ≡ c.append_entry.new.disk = search rules in
    subst (λ d. MailIsKept m (g.D.Disk.history c.args.self.now.disk) (g.D.Disk.history d)) (sym same) left
