use Rattle.store_core.proofs.Common.{rules, ◌≡◌, refl, sym, ◌∙◌, ap, subst, MapEntry, LogState, Lists, map_text, MapInRange, MapMeaning, map_applied, IsSettledFor, Leaves, AddsText, KeepsStored, KeepsMail, MailIsKept, IsUnnamed}
use Rattle.store_core.proofs.Common.{kept_begins}
use Rattle.disk_model.specs.declared.name.FileName.TheVariants as file
use Rattle.mdbox_base.specs.declared.entries.MapEntry.TheVariants as entry
use Rattle.model_appends.specs.MapAppending.{lists_changed}
use Rattle.store_core.proofs.BoxCrashLemmas.{leaves_none}
use Rattle.store_core.proofs.ChangeCallLemmas.{can_rename, gone_renamed, gone_untaken, leak_renamed, made_after_change, store_after_change, uids_renamed, uids_untaken, unnamed_renamed}
use Rattle.store_core.proofs.ChangingLemmas.{leaves_changed, read_changed, settled_changed}
use Rattle.store_core.proofs.KeptMailLemmas.{mail_mapped}
use Rattle.store_core.proofs.KnownInstanceLemmas.{instances_changed}
use Rattle.store_core.proofs.MailStayLemmas.{map_log_kept}
use Rattle.store_core.proofs.MapAppendLemmas.{room_after}
use Rattle.store_core.proofs.NamingCallLemmas.{AddsHeld, due_stays}
use Rattle.store_core.proofs.NamingLemmas.{stored_named}
use Rattle.store_core.proofs.RenamingLemmas.{same_records}
use Rattle.store_core.proofs.store.Store.append_name.Goals as goal

pub returns-in_err-entry-clause-any_moment : goal.returns-in_err-entry-clause-any_moment
returns-in_err-entry-clause-any_moment g c =
    subst (λ v. (lists : Lists) → IsSettledFor lists (g.D.Disk.history v.disk) → Leaves lists (lists_changed (entry.V c.args.mailbox c.args.name.now) lists) (g.D.Disk.history v.disk) (g.D.Disk.history c.self.inside.disk)) c.self.view_is
    (λ lists settled. leaves_none _ lists (lists_changed (entry.V c.args.mailbox c.args.name.now) lists) settled)

pub append_entry-requires-clause-read : goal.append_entry-requires-clause-read
append_entry-requires-clause-read g c =
    read_changed _ _ _ _ (can_rename _ _ c.args.self.now c.take_renaming.new.log c.args.mailbox c.args.name.now c.self.invariant.1 c.self.view_is c.requires.running c.take_renaming.ensures.log c.in_ok-entry.ensures.name c.requires.fits)

pub append_entry-requires-clause-range : goal.append_entry-requires-clause-range
append_entry-requires-clause-range g c =
    let can = can_rename _ _ c.args.self.now c.take_renaming.new.log c.args.mailbox c.args.name.now c.self.invariant.1 c.self.view_is c.requires.running c.take_renaming.ensures.log c.in_ok-entry.ensures.name c.requires.fits in
    subst MapInRange (sym c.in_ok-entry.ensures.entry) can.in_range

pub invariant_of-self-in-Ok : goal.invariant_of-self-in-Ok
invariant_of-self-in-Ok g c =
    let is = c.in_ok-entry.ensures.entry in
    let can = can_rename _ _ c.args.self.now c.take_renaming.new.log c.args.mailbox c.args.name.now c.self.invariant.1 c.self.view_is c.requires.running c.take_renaming.ensures.log c.in_ok-entry.ensures.name c.requires.fits in
    let applied : c.take_in.new.self.meaning ≡ map_applied (entry.V c.args.mailbox c.args.name.now) c.self.inside.map.meaning = ap (λ x. x.meaning) c.take_in.ensures ∙ ap (λ (e : MapEntry). map_applied e c.self.inside.map.meaning) is in
    let named : c.take_renaming.new.log.name ≡ file.Map c.self.invariant.1.generation = ap (λ (l : LogState). l.name) c.take_renaming.ensures.log ∙ c.self.invariant.1.map_name in (
      c.self.invariant.0 ∙ ap (λ (m : MapMeaning). m.store) (sym applied),
      store_after_change _ _ _ c.append_entry.new.disk c.take_renaming.new.log c.append_entry.new.log (entry.V c.args.mailbox c.args.name.now) c.in_ok-entry.entry c.take_in.new.self.meaning _ _ c.self.invariant.1 can c.in-Ok.ensures.log c.in-Ok.ensures.others c.in-Ok.ensures.added is applied refl,
      room_after _ _ c.take_renaming.new.log c.self.invariant.2 c.take_renaming.ensures.no_less c.in-Ok.ensures.log.room refl,
      made_after_change c.self.invariant.1.generation _ _ _ _ c.take_renaming.new.log.name c.self.invariant.3 can.running named c.in-Ok.ensures.others refl (ap (λ (m : MapMeaning). m.store) applied) refl
          (λ n unnamed. subst (IsUnnamed n) (sym applied) (unnamed_renamed c.args.mailbox c.args.name.now c.self.inside.map.meaning n unnamed)),
      instances_changed c.take_renaming.new.log.name c.self.invariant.1.generation _ _ _ _ (entry.V c.args.mailbox c.args.name.now) c.self.invariant.4 tt tt named c.in-Ok.ensures.others refl refl applied (λ on. on),
    )

pub returns-in-Ok-clause-any_moment : goal.returns-in-Ok-clause-any_moment
returns-in-Ok-clause-any_moment g c =
    let can = can_rename _ _ c.args.self.now c.take_renaming.new.log c.args.mailbox c.args.name.now c.self.invariant.1 c.self.view_is c.requires.running c.take_renaming.ensures.log c.in_ok-entry.ensures.name c.requires.fits in
    subst (λ v. (lists : Lists) → IsSettledFor lists (g.D.Disk.history v.disk) → Leaves lists (lists_changed (entry.V c.args.mailbox c.args.name.now) lists) (g.D.Disk.history v.disk) (g.D.Disk.history c.append_entry.new.disk)) c.self.view_is
    (leaves_changed _ _ _ (entry.V c.args.mailbox c.args.name.now) _ can (g.met.D.Disk.reads_image c.self.inside.disk)
    (subst (λ (e : MapEntry). AddsText c.take_renaming.new.log (map_text e) (g.D.Disk.history c.self.inside.disk) (g.D.Disk.history c.append_entry.new.disk)) c.in_ok-entry.ensures.entry c.append_entry.ensures.any_moment))

pub returns-in-Err-clause-any_moment : goal.returns-in-Err-clause-any_moment
returns-in-Err-clause-any_moment g c =
    let can = can_rename _ _ c.args.self.now c.take_renaming.new.log c.args.mailbox c.args.name.now c.self.invariant.1 c.self.view_is c.requires.running c.take_renaming.ensures.log c.in_ok-entry.ensures.name c.requires.fits in
    let left : (lists : Lists) → IsSettledFor lists (g.D.Disk.history c.args.self.now.disk) → Leaves lists (lists_changed (entry.V c.args.mailbox c.args.name.now) lists) (g.D.Disk.history c.args.self.now.disk) (g.D.Disk.history c.append_entry.new.disk) =
    subst (λ v. (lists : Lists) → IsSettledFor lists (g.D.Disk.history v.disk) → Leaves lists (lists_changed (entry.V c.args.mailbox c.args.name.now) lists) (g.D.Disk.history v.disk) (g.D.Disk.history c.append_entry.new.disk)) c.self.view_is
    (leaves_changed _ _ _ (entry.V c.args.mailbox c.args.name.now) _ can (g.met.D.Disk.reads_image c.self.inside.disk)
    (subst (λ (e : MapEntry). AddsText c.take_renaming.new.log (map_text e) (g.D.Disk.history c.self.inside.disk) (g.D.Disk.history c.append_entry.new.disk)) c.in_ok-entry.ensures.entry c.append_entry.ensures.any_moment)) in
    let same : c.match-entry.self.disk ≡ c.append_entry.new.disk = search rules in
    subst (λ d. (lists : Lists) → IsSettledFor lists (g.D.Disk.history c.args.self.now.disk) → Leaves lists (lists_changed (entry.V c.args.mailbox c.args.name.now) lists) (g.D.Disk.history c.args.self.now.disk) (g.D.Disk.history d)) (sym same) left

pub returns-in-Ok-clause-settled : goal.returns-in-Ok-clause-settled
returns-in-Ok-clause-settled g c =
    let can = can_rename _ _ c.args.self.now c.take_renaming.new.log c.args.mailbox c.args.name.now c.self.invariant.1 c.self.view_is c.requires.running c.take_renaming.ensures.log c.in_ok-entry.ensures.name c.requires.fits in
    subst (λ v. (lists : Lists) → IsSettledFor lists (g.D.Disk.history v.disk) → IsSettledFor (lists_changed (entry.V c.args.mailbox c.args.name.now) lists) (g.D.Disk.history c.append_entry.new.disk)) c.self.view_is
    (settled_changed _ _ _ (entry.V c.args.mailbox c.args.name.now) _ c.append_entry.new.log can (g.met.D.Disk.reads_image c.self.inside.disk) c.in-Ok.ensures.log c.in-Ok.ensures.others
    (subst (AddsHeld c.take_renaming.new.log c.append_entry.new.log (g.D.Disk.history c.self.inside.disk) (g.D.Disk.history c.append_entry.new.disk)) c.in_ok-entry.ensures.entry c.in-Ok.ensures.held))

pub returns-in-Ok-clause-stored : goal.returns-in-Ok-clause-stored
returns-in-Ok-clause-stored g c =
    let can = can_rename _ _ c.args.self.now c.take_renaming.new.log c.args.mailbox c.args.name.now c.self.invariant.1 c.self.view_is c.requires.running c.take_renaming.ensures.log c.in_ok-entry.ensures.name c.requires.fits in
    subst (λ v. KeepsStored (g.D.Disk.history v.disk) (g.D.Disk.history c.append_entry.new.disk)) c.self.view_is (stored_named _ _ _ can.store c.in-Ok.ensures.others)

pub returns-in-Ok-clause-taken : goal.returns-in-Ok-clause-taken
returns-in-Ok-clause-taken g c =
    ap (λ x. x.meaning) c.take_in.ensures ∙ ap (λ (e : MapEntry). map_applied e c.self.inside.map.meaning) c.in_ok-entry.ensures.entry ∙ ap (λ v. map_applied (entry.V c.args.mailbox c.args.name.now) v.map) c.self.view_is

pub returns-in-Ok-clause-records : goal.returns-in-Ok-clause-records
returns-in-Ok-clause-records g c =
    ap (λ x. x.meaning.records) c.take_in.ensures ∙ ap (λ (e : MapEntry). (map_applied e c.self.inside.map.meaning).records) c.in_ok-entry.ensures.entry ∙ same_records c.self.inside.map.meaning c.args.mailbox c.args.name.now ∙ ap (λ v. v.map.records) c.self.view_is

pub returns-in-Ok-clause-due : goal.returns-in-Ok-clause-due
returns-in-Ok-clause-due g c = λ uid. due_stays uid c.take_in.new.self.meaning.records c.args.self.now.map.records c.self.inside.dues.items c.args.self.now.dues
    (ap (λ x. x.meaning.records) c.take_in.ensures ∙ ap (λ (e : MapEntry). (map_applied e c.self.inside.map.meaning).records) c.in_ok-entry.ensures.entry ∙ same_records c.self.inside.map.meaning c.args.mailbox c.args.name.now ∙ ap (λ v. v.map.records) c.self.view_is) (ap (λ v. v.dues) c.self.view_is)

pub returns-in-Ok-clause-leak : goal.returns-in-Ok-clause-leak
returns-in-Ok-clause-leak g c = λ uid. leak_renamed uid c.take_in.new.self.meaning.records c.args.self.now.map.records c.self.inside.dues.items c.args.self.now.dues c.self.inside.boxes.items c.args.self.now.boxes
    (ap (λ x. x.meaning.records) c.take_in.ensures ∙ ap (λ (e : MapEntry). (map_applied e c.self.inside.map.meaning).records) c.in_ok-entry.ensures.entry ∙ same_records c.self.inside.map.meaning c.args.mailbox c.args.name.now ∙ ap (λ v. v.map.records) c.self.view_is)
    (ap (λ v. v.dues) c.self.view_is) (ap (λ v. v.boxes) c.self.view_is)

pub returns-in-Ok-clause-others : goal.returns-in-Ok-clause-others
returns-in-Ok-clause-others g c =
    subst (λ v. KeepsMail (g.D.Disk.history v.disk) (g.D.Disk.history c.append_entry.new.disk)) c.self.view_is
    (mail_mapped c.take_renaming.new.log.name c.self.invariant.1.generation _ _ (ap (λ (l : LogState). l.name) c.take_renaming.ensures.log ∙ c.self.invariant.1.map_name) c.in-Ok.ensures.others)

pub returns-in-Ok-clause-uids : goal.returns-in-Ok-clause-uids
returns-in-Ok-clause-uids g c = uids_renamed c.args.mailbox c.args.name.now c.args.self.now _
    (ap (λ x. x.meaning) c.take_in.ensures ∙ ap (λ (e : MapEntry). map_applied e c.self.inside.map.meaning) c.in_ok-entry.ensures.entry ∙ ap (λ v. map_applied (entry.V c.args.mailbox c.args.name.now) v.map) c.self.view_is) (ap (λ v. v.boxes) c.self.view_is)

pub returns-in-Ok-clause-gone : goal.returns-in-Ok-clause-gone
returns-in-Ok-clause-gone g c = gone_renamed c.args.mailbox c.args.name.now c.args.self.now _
    (ap (λ x. x.meaning) c.take_in.ensures ∙ ap (λ (e : MapEntry). map_applied e c.self.inside.map.meaning) c.in_ok-entry.ensures.entry ∙ ap (λ v. map_applied (entry.V c.args.mailbox c.args.name.now) v.map) c.self.view_is) (ap (λ v. v.made) c.self.view_is)

pub returns-in_err-entry-clause-uids : goal.returns-in_err-entry-clause-uids
returns-in_err-entry-clause-uids g c = uids_untaken c.args.self.now _ (ap (λ v. v.map) c.self.view_is) (ap (λ v. v.boxes) c.self.view_is)

pub returns-in_err-entry-clause-gone : goal.returns-in_err-entry-clause-gone
returns-in_err-entry-clause-gone g c = gone_untaken c.args.self.now _ (ap (λ v. v.map) c.self.view_is) (ap (λ v. v.made) c.self.view_is)

pub returns-in-Err-clause-uids : goal.returns-in-Err-clause-uids
returns-in-Err-clause-uids g c = uids_untaken c.args.self.now _ (search rules) (search rules)

pub returns-in-Err-clause-gone : goal.returns-in-Err-clause-gone
returns-in-Err-clause-gone g c = gone_untaken c.args.self.now _ (search rules) (search rules)

pub returns-in_err-entry-clause-mail_stays : goal.returns-in_err-entry-clause-mail_stays
returns-in_err-entry-clause-mail_stays g c = λ m.
    subst (λ v. MailIsKept m (g.D.Disk.history v.disk) (g.D.Disk.history c.self.inside.disk)) c.self.view_is (kept_begins m _)

pub returns-in-Ok-clause-mail_stays : goal.returns-in-Ok-clause-mail_stays
returns-in-Ok-clause-mail_stays g c = λ m.
    subst (λ v. MailIsKept m (g.D.Disk.history v.disk) (g.D.Disk.history c.append_entry.new.disk)) c.self.view_is
    (map_log_kept m c.take_renaming.new.log.name c.self.invariant.1.generation _ _ (ap (λ (l : LogState). l.name) c.take_renaming.ensures.log ∙ c.self.invariant.1.map_name) c.append_entry.ensures.others_stay)

pub returns-in-Err-clause-mail_stays : goal.returns-in-Err-clause-mail_stays
returns-in-Err-clause-mail_stays g c = λ m.
    let left : MailIsKept m (g.D.Disk.history c.args.self.now.disk) (g.D.Disk.history c.append_entry.new.disk) =
    subst (λ v. MailIsKept m (g.D.Disk.history v.disk) (g.D.Disk.history c.append_entry.new.disk)) c.self.view_is
    (map_log_kept m c.take_renaming.new.log.name c.self.invariant.1.generation _ _ (ap (λ (l : LogState). l.name) c.take_renaming.ensures.log ∙ c.self.invariant.1.map_name) c.append_entry.ensures.others_stay) in
    let same : c.match-entry.self.disk ≡ c.append_entry.new.disk = search rules in
    subst (λ d. MailIsKept m (g.D.Disk.history c.args.self.now.disk) (g.D.Disk.history d)) (sym same) left
