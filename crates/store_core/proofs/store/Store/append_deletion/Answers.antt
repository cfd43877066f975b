use Rattle.store_core.proofs.Common.{rules, ◌≡◌, Some, None, option_map, refl, sym, ◌∙◌, ap, subst, MapEntry, LogState, Lists, map_text, MapInRange, MapFits, IsStore, MapMeaning, map_applied, IsSettledFor, Leaves, AddsText, KeepsStored, MailIsKept, IsUnnamed, indexes_of, list_numbered}
use Rattle.store_core.proofs.Common.{kept_begins}
use Rattle.std.specs.Option.{option_copied}
use Rattle.box_index.specs.State.{BoxState}
use Rattle.disk_model.specs.declared.name.FileName.TheVariants as file
use Rattle.mdbox_base.specs.declared.entries.MapEntry.TheVariants as entry
use Rattle.model_appends.specs.MapAppending.{beside_without}
use Rattle.store_core.specs.Deleting.{lists_without}
use Rattle.store_core.proofs.BoxCrashLemmas.{leaves_none}
use Rattle.store_core.proofs.ChangeCallLemmas.{amounts_as, boxes_apart, deletion_there, due_deleted, few_there, gone_deleted, indexes_deleted, leak_deleted, made_after_change, range_there, room_deleted, store_after_change, uids_deleted, unnamed_deleted}
use Rattle.store_core.proofs.ChangingLemmas.{leaves_changed, read_changed, settled_changed}
use Rattle.store_core.proofs.KnownInstanceLemmas.{instances_changed}
use Rattle.store_core.proofs.LookupLemmas.{numbered_in}
use Rattle.store_core.proofs.MailStayLemmas.{map_log_kept}
use Rattle.store_core.proofs.NamingCallLemmas.{AddsHeld}
use Rattle.store_core.proofs.NamingLemmas.{stored_named}
use Rattle.store_core.proofs.store.Store.append_deletion.Goals as goal

pub unreachable-requires : goal.unreachable-requires
unreachable-requires g c =
    let none = numbered_in c.args.mailbox.0 _ c.self.inside.map.meaning c.args.self.now.map c.self.inside.boxes.items c.args.self.now.boxes c.deref.result.now _ c.self.invariant.1.box_logs (ap (λ v. v.map) c.self.view_is) (ap (λ v. v.boxes) c.self.view_is) c.deref.ensures.value c.index_of.ensures in
    let lost : Some c.requires.there.0 ≡ None = sym c.requires.there.1 ∙ sym none ∙ ap (λ o. option_map (λ (i : BoxState). i.meaning) (option_copied o)) c.in_default.is in
    cc lost

pub take_deletion-requires-clause-few : goal.take_deletion-requires-clause-few
take_deletion-requires-clause-few g c =
    let at : list_numbered c.args.self.now c.args.mailbox.0 ≡ Some c.in-Some.index.now.meaning =
    sym (numbered_in c.args.mailbox.0 _ c.self.inside.map.meaning c.args.self.now.map c.self.inside.boxes.items c.args.self.now.boxes c.deref.result.now _ c.self.invariant.1.box_logs (ap (λ v. v.map) c.self.view_is) (ap (λ v. v.boxes) c.self.view_is) c.deref.ensures.value c.index_of.ensures) ∙ ap (λ o. option_map (λ (i : BoxState). i.meaning) (option_copied o)) c.in-Some.is in
    few_there _ _ c.args.self.now c.args.mailbox.0 c.in-Some.index.now.meaning c.self.invariant.1 c.self.view_is at

pub take_deletion-requires-clause-range : goal.take_deletion-requires-clause-range
take_deletion-requires-clause-range g c =
    let at : list_numbered c.args.self.now c.args.mailbox.0 ≡ Some c.in-Some.index.now.meaning =
    sym (numbered_in c.args.mailbox.0 _ c.self.inside.map.meaning c.args.self.now.map c.self.inside.boxes.items c.args.self.now.boxes c.deref.result.now _ c.self.invariant.1.box_logs (ap (λ v. v.map) c.self.view_is) (ap (λ v. v.boxes) c.self.view_is) c.deref.ensures.value c.index_of.ensures) ∙ ap (λ o. option_map (λ (i : BoxState). i.meaning) (option_copied o)) c.in-Some.is in
    range_there _ _ c.args.self.now c.args.mailbox c.in-Some.index.now.meaning c.self.invariant.1 c.self.view_is at c.known_facts.ensures.few

pub append_entry-requires-clause-read : goal.append_entry-requires-clause-read
append_entry-requires-clause-read g c =
    let at : list_numbered c.args.self.now c.args.mailbox.0 ≡ Some c.in-Some.index.now.meaning =
    sym (numbered_in c.args.mailbox.0 _ c.self.inside.map.meaning c.args.self.now.map c.self.inside.boxes.items c.args.self.now.boxes c.deref.result.now _ c.self.invariant.1.box_logs (ap (λ v. v.map) c.self.view_is) (ap (λ v. v.boxes) c.self.view_is) c.deref.ensures.value c.index_of.ensures) ∙ ap (λ o. option_map (λ (i : BoxState). i.meaning) (option_copied o)) c.in-Some.is in
    let d = deletion_there _ _ c.args.self.now c.take_deletion.new.log c.args.mailbox c.in-Some.index.now.meaning c.in_ok-entry.field-0.entry c.self.invariant.1 c.self.view_is c.requires.running c.take_deletion.ensures.log at c.known_facts.ensures.few c.in_ok-entry.ensures.entry in
    read_changed _ _ _ _ d.can

pub append_entry-requires-clause-range : goal.append_entry-requires-clause-range
append_entry-requires-clause-range g c =
    let at : list_numbered c.args.self.now c.args.mailbox.0 ≡ Some c.in-Some.index.now.meaning =
    sym (numbered_in c.args.mailbox.0 _ c.self.inside.map.meaning c.args.self.now.map c.self.inside.boxes.items c.args.self.now.boxes c.deref.result.now _ c.self.invariant.1.box_logs (ap (λ v. v.map) c.self.view_is) (ap (λ v. v.boxes) c.self.view_is) c.deref.ensures.value c.index_of.ensures) ∙ ap (λ o. option_map (λ (i : BoxState). i.meaning) (option_copied o)) c.in-Some.is in
    let d = deletion_there _ _ c.args.self.now c.take_deletion.new.log c.args.mailbox c.in-Some.index.now.meaning c.in_ok-entry.field-0.entry c.self.invariant.1 c.self.view_is c.requires.running c.take_deletion.ensures.log at c.known_facts.ensures.few c.in_ok-entry.ensures.entry in
    subst MapInRange (sym d.is) d.can.in_range

pub forget_log-requires : goal.forget_log-requires
forget_log-requires g c = boxes_apart _ _ c.self.invariant.1

pub apply_deletion-requires-clause-fits : goal.apply_deletion-requires-clause-fits
apply_deletion-requires-clause-fits g c =
    let at : list_numbered c.args.self.now c.args.mailbox.0 ≡ Some c.in-Some.index.now.meaning =
    sym (numbered_in c.args.mailbox.0 _ c.self.inside.map.meaning c.args.self.now.map c.self.inside.boxes.items c.args.self.now.boxes c.deref.result.now _ c.self.invariant.1.box_logs (ap (λ v. v.map) c.self.view_is) (ap (λ v. v.boxes) c.self.view_is) c.deref.ensures.value c.index_of.ensures) ∙ ap (λ o. option_map (λ (i : BoxState). i.meaning) (option_copied o)) c.in-Some.is in
    let d = deletion_there _ _ c.args.self.now c.take_deletion.new.log c.args.mailbox c.in-Some.index.now.meaning c.in_ok-entry.field-0.entry c.self.invariant.1 c.self.view_is c.requires.running c.take_deletion.ensures.log at c.known_facts.ensures.few c.in_ok-entry.ensures.entry in
    subst (MapFits c.self.inside.map.meaning) (sym d.is) d.are.fits

pub invariant_of-self-in-Ok : goal.invariant_of-self-in-Ok
invariant_of-self-in-Ok g c =
    let at : list_numbered c.args.self.now c.args.mailbox.0 ≡ Some c.in-Some.index.now.meaning =
    sym (numbered_in c.args.mailbox.0 _ c.self.inside.map.meaning c.args.self.now.map c.self.inside.boxes.items c.args.self.now.boxes c.deref.result.now _ c.self.invariant.1.box_logs (ap (λ v. v.map) c.self.view_is) (ap (λ v. v.boxes) c.self.view_is) c.deref.ensures.value c.index_of.ensures) ∙ ap (λ o. option_map (λ (i : BoxState). i.meaning) (option_copied o)) c.in-Some.is in
    let d = deletion_there _ _ c.args.self.now c.take_deletion.new.log c.args.mailbox c.in-Some.index.now.meaning c.in_ok-entry.field-0.entry c.self.invariant.1 c.self.view_is c.requires.running c.take_deletion.ensures.log at c.known_facts.ensures.few c.in_ok-entry.ensures.entry in
    let e : MapEntry = entry.X c.args.mailbox d.amounts in
    let applied : c.apply_deletion.new.map.meaning ≡ map_applied e c.self.inside.map.meaning = c.apply_deletion.ensures ∙ ap (λ (x : MapEntry). map_applied x c.self.inside.map.meaning) d.is in
    let named : c.take_deletion.new.log.name ≡ file.Map c.self.invariant.1.generation = ap (λ (l : LogState). l.name) c.take_deletion.ensures.log ∙ c.self.invariant.1.map_name in (
      c.self.invariant.0 ∙ ap (λ (m : MapMeaning). m.store) (sym applied),
      store_after_change _ _ _ c.append_entry.new.disk c.take_deletion.new.log c.append_entry.new.log e c.in_ok-entry.field-0.entry c.apply_deletion.new.map.meaning _ c.forget_log.new.made.items c.self.invariant.1 d.can c.in-Ok.ensures.log c.in-Ok.ensures.others c.in-Ok.ensures.added d.is applied c.forget_log.ensures,
      room_deleted c.args.mailbox.0 _ _ c.take_deletion.new.log c.self.invariant.2 c.take_deletion.ensures.no_less c.in-Ok.ensures.log.room c.forget_log.ensures,
      made_after_change c.self.invariant.1.generation _ _ _ _ c.take_deletion.new.log.name c.self.invariant.3 d.can.running named c.in-Ok.ensures.others refl (ap (λ (m : MapMeaning). m.store) applied) refl
          (λ n unnamed. subst (IsUnnamed n) (sym applied) (unnamed_deleted c.args.mailbox d.amounts c.self.inside.map.meaning n unnamed)),
      instances_changed c.take_deletion.new.log.name c.self.invariant.1.generation _ _ _ _ e c.self.invariant.4 tt tt named c.in-Ok.ensures.others refl refl applied (λ on. on),
    )

pub returns-in_err-entry-clause-any_moment : goal.returns-in_err-entry-clause-any_moment
returns-in_err-entry-clause-any_moment g c =
    subst (λ v. (lists : Lists) → IsSettledFor lists (g.D.Disk.history v.disk) → Leaves lists (lists_without c.args.mailbox.0 lists) (g.D.Disk.history v.disk) (g.D.Disk.history c.self.inside.disk)) c.self.view_is (λ lists settled. leaves_none _ lists (lists_without c.args.mailbox.0 lists) settled)

pub returns-in-Ok-clause-any_moment : goal.returns-in-Ok-clause-any_moment
returns-in-Ok-clause-any_moment g c =
    let at : list_numbered c.args.self.now c.args.mailbox.0 ≡ Some c.in-Some.index.now.meaning =
    sym (numbered_in c.args.mailbox.0 _ c.self.inside.map.meaning c.args.self.now.map c.self.inside.boxes.items c.args.self.now.boxes c.deref.result.now _ c.self.invariant.1.box_logs (ap (λ v. v.map) c.self.view_is) (ap (λ v. v.boxes) c.self.view_is) c.deref.ensures.value c.index_of.ensures) ∙ ap (λ o. option_map (λ (i : BoxState). i.meaning) (option_copied o)) c.in-Some.is in
    let d = deletion_there _ _ c.args.self.now c.take_deletion.new.log c.args.mailbox c.in-Some.index.now.meaning c.in_ok-entry.field-0.entry c.self.invariant.1 c.self.view_is c.requires.running c.take_deletion.ensures.log at c.known_facts.ensures.few c.in_ok-entry.ensures.entry in
    subst (λ v. (lists : Lists) → IsSettledFor lists (g.D.Disk.history v.disk) → Leaves lists (lists_without c.args.mailbox.0 lists) (g.D.Disk.history v.disk) (g.D.Disk.history c.append_entry.new.disk)) c.self.view_is
    (leaves_changed _ _ _ (entry.X c.args.mailbox d.amounts) _ d.can (g.met.D.Disk.reads_image c.self.inside.disk)
    (subst (λ (e : MapEntry). AddsText c.take_deletion.new.log (map_text e) (g.D.Disk.history c.self.inside.disk) (g.D.Disk.history c.append_entry.new.disk)) d.is c.append_entry.ensures.any_moment))

pub returns-clause-any_moment : goal.returns-clause-any_moment
returns-clause-any_moment g c =
    let at : list_numbered c.args.self.now c.args.mailbox.0 ≡ Some c.in-Some.index.now.meaning =
    sym (numbered_in c.args.mailbox.0 _ c.self.inside.map.meaning c.args.self.now.map c.self.inside.boxes.items c.args.self.now.boxes c.deref.result.now _ c.self.invariant.1.box_logs (ap (λ v. v.map) c.self.view_is) (ap (λ v. v.boxes) c.self.view_is) c.deref.ensures.value c.index_of.ensures) ∙ ap (λ o. option_map (λ (i : BoxState). i.meaning) (option_copied o)) c.in-Some.is in
    let d = deletion_there _ _ c.args.self.now c.take_deletion.new.log c.args.mailbox c.in-Some.index.now.meaning c.in_ok-entry.field-0.entry c.self.invariant.1 c.self.view_is c.requires.running c.take_deletion.ensures.log at c.known_facts.ensures.few c.in_ok-entry.ensures.entry in
    let left : (lists : Lists) → IsSettledFor lists (g.D.Disk.history c.args.self.now.disk) → Leaves lists (lists_without c.args.mailbox.0 lists) (g.D.Disk.history c.args.self.now.disk) (g.D.Disk.history c.append_entry.new.disk) =
    subst (λ v. (lists : Lists) → IsSettledFor lists (g.D.Disk.history v.disk) → Leaves lists (lists_without c.args.mailbox.0 lists) (g.D.Disk.history v.disk) (g.D.Disk.history c.append_entry.new.disk)) c.self.view_is
    (leaves_changed _ _ _ (entry.X c.args.mailbox d.amounts) _ d.can (g.met.D.Disk.reads_image c.self.inside.disk)
    (subst (λ (e : MapEntry). AddsText c.take_deletion.new.log (map_text e) (g.D.Disk.history c.self.inside.disk) (g.D.Disk.history c.append_entry.new.disk)) d.is c.append_entry.ensures.any_moment)) in
    subst (λ d. (lists : Lists) → IsSettledFor lists (g.D.Disk.history c.args.self.now.disk) → Leaves lists (lists_without c.args.mailbox.0 lists) (g.D.Disk.history c.args.self.now.disk) (g.D.Disk.history d)) (sym (search rules)) left

pub returns-in-Ok-clause-settled : goal.returns-in-Ok-clause-settled
returns-in-Ok-clause-settled g c =
    let at : list_numbered c.args.self.now c.args.mailbox.0 ≡ Some c.in-Some.index.now.meaning =
    sym (numbered_in c.args.mailbox.0 _ c.self.inside.map.meaning c.args.self.now.map c.self.inside.boxes.items c.args.self.now.boxes c.deref.result.now _ c.self.invariant.1.box_logs (ap (λ v. v.map) c.self.view_is) (ap (λ v. v.boxes) c.self.view_is) c.deref.ensures.value c.index_of.ensures) ∙ ap (λ o. option_map (λ (i : BoxState). i.meaning) (option_copied o)) c.in-Some.is in
    let d = deletion_there _ _ c.args.self.now c.take_deletion.new.log c.args.mailbox c.in-Some.index.now.meaning c.in_ok-entry.field-0.entry c.self.invariant.1 c.self.view_is c.requires.running c.take_deletion.ensures.log at c.known_facts.ensures.few c.in_ok-entry.ensures.entry in
    subst (λ v. (lists : Lists) → IsSettledFor lists (g.D.Disk.history v.disk) → IsSettledFor (lists_without c.args.mailbox.0 lists) (g.D.Disk.history c.append_entry.new.disk)) c.self.view_is
    (settled_changed _ _ _ (entry.X c.args.mailbox d.amounts) _ c.append_entry.new.log d.can (g.met.D.Disk.reads_image c.self.inside.disk) c.in-Ok.ensures.log c.in-Ok.ensures.others
    (subst (AddsHeld c.take_deletion.new.log c.append_entry.new.log (g.D.Disk.history c.self.inside.disk) (g.D.Disk.history c.append_entry.new.disk)) d.is c.in-Ok.ensures.held))

pub returns-in-Ok-clause-stored : goal.returns-in-Ok-clause-stored
returns-in-Ok-clause-stored g c =
    let at : list_numbered c.args.self.now c.args.mailbox.0 ≡ Some c.in-Some.index.now.meaning =
    sym (numbered_in c.args.mailbox.0 _ c.self.inside.map.meaning c.args.self.now.map c.self.inside.boxes.items c.args.self.now.boxes c.deref.result.now _ c.self.invariant.1.box_logs (ap (λ v. v.map) c.self.view_is) (ap (λ v. v.boxes) c.self.view_is) c.deref.ensures.value c.index_of.ensures) ∙ ap (λ o. option_map (λ (i : BoxState). i.meaning) (option_copied o)) c.in-Some.is in
    let d = deletion_there _ _ c.args.self.now c.take_deletion.new.log c.args.mailbox c.in-Some.index.now.meaning c.in_ok-entry.field-0.entry c.self.invariant.1 c.self.view_is c.requires.running c.take_deletion.ensures.log at c.known_facts.ensures.few c.in_ok-entry.ensures.entry in
    subst (λ v. KeepsStored (g.D.Disk.history v.disk) (g.D.Disk.history c.append_entry.new.disk)) c.self.view_is (stored_named _ _ _ d.can.store c.in-Ok.ensures.others)

pub returns-in-Ok-clause-amounts : goal.returns-in-Ok-clause-amounts
returns-in-Ok-clause-amounts g c =
    let at : list_numbered c.args.self.now c.args.mailbox.0 ≡ Some c.in-Some.index.now.meaning =
    sym (numbered_in c.args.mailbox.0 _ c.self.inside.map.meaning c.args.self.now.map c.self.inside.boxes.items c.args.self.now.boxes c.deref.result.now _ c.self.invariant.1.box_logs (ap (λ v. v.map) c.self.view_is) (ap (λ v. v.boxes) c.self.view_is) c.deref.ensures.value c.index_of.ensures) ∙ ap (λ o. option_map (λ (i : BoxState). i.meaning) (option_copied o)) c.in-Some.is in
    let d = deletion_there _ _ c.args.self.now c.take_deletion.new.log c.args.mailbox c.in-Some.index.now.meaning c.in_ok-entry.field-0.entry c.self.invariant.1 c.self.view_is c.requires.running c.take_deletion.ensures.log at c.known_facts.ensures.few c.in_ok-entry.ensures.entry in
    λ _. (d.amounts, amounts_as _ c.args.self.now c.args.mailbox d.amounts c.self.view_is d.are, c.apply_deletion.ensures ∙ ap (λ (x : MapEntry). map_applied x c.self.inside.map.meaning) d.is ∙ ap (λ v. map_applied (entry.X c.args.mailbox d.amounts) v.map) c.self.view_is)

pub returns-clause-amounts : goal.returns-clause-amounts
returns-clause-amounts g c =
    let at : list_numbered c.args.self.now c.args.mailbox.0 ≡ Some c.in-Some.index.now.meaning =
    sym (numbered_in c.args.mailbox.0 _ c.self.inside.map.meaning c.args.self.now.map c.self.inside.boxes.items c.args.self.now.boxes c.deref.result.now _ c.self.invariant.1.box_logs (ap (λ v. v.map) c.self.view_is) (ap (λ v. v.boxes) c.self.view_is) c.deref.ensures.value c.index_of.ensures) ∙ ap (λ o. option_map (λ (i : BoxState). i.meaning) (option_copied o)) c.in-Some.is in
    let d = deletion_there _ _ c.args.self.now c.take_deletion.new.log c.args.mailbox c.in-Some.index.now.meaning c.in_ok-entry.field-0.entry c.self.invariant.1 c.self.view_is c.requires.running c.take_deletion.ensures.log at c.known_facts.ensures.few c.in_ok-entry.ensures.entry in
    λ _. (d.amounts, amounts_as _ c.args.self.now c.args.mailbox d.amounts c.self.view_is d.are, tt)

pub returns-in-Ok-clause-indexes : goal.returns-in-Ok-clause-indexes
returns-in-Ok-clause-indexes g c =
    indexes_deleted _ c.args.mailbox.0 _ c.forget_log.new.made.items c.self.invariant.1 c.forget_log.ensures ∙ ap (λ v. beside_without c.args.mailbox.0 v.map.boxes (indexes_of v.boxes)) c.self.view_is

pub returns-in-Ok-clause-due : goal.returns-in-Ok-clause-due
returns-in-Ok-clause-due g c =
    let at : list_numbered c.args.self.now c.args.mailbox.0 ≡ Some c.in-Some.index.now.meaning =
    sym (numbered_in c.args.mailbox.0 _ c.self.inside.map.meaning c.args.self.now.map c.self.inside.boxes.items c.args.self.now.boxes c.deref.result.now _ c.self.invariant.1.box_logs (ap (λ v. v.map) c.self.view_is) (ap (λ v. v.boxes) c.self.view_is) c.deref.ensures.value c.index_of.ensures) ∙ ap (λ o. option_map (λ (i : BoxState). i.meaning) (option_copied o)) c.in-Some.is in
    let d = deletion_there _ _ c.args.self.now c.take_deletion.new.log c.args.mailbox c.in-Some.index.now.meaning c.in_ok-entry.field-0.entry c.self.invariant.1 c.self.view_is c.requires.running c.take_deletion.ensures.log at c.known_facts.ensures.few c.in_ok-entry.ensures.entry in
    λ uid. due_deleted c.args.mailbox d.amounts uid c.args.self.now (record c.args.self.now { map = c.apply_deletion.new.map.meaning; boxes = c.forget_log.new.made.items; dues = c.self.inside.dues.items }) (c.apply_deletion.ensures ∙ ap (λ (x : MapEntry). map_applied x c.self.inside.map.meaning) d.is ∙ ap (λ v. map_applied (entry.X c.args.mailbox d.amounts) v.map) c.self.view_is) (ap (λ v. v.dues) c.self.view_is)

pub returns-in-Ok-clause-leak : goal.returns-in-Ok-clause-leak
returns-in-Ok-clause-leak g c =
    let at : list_numbered c.args.self.now c.args.mailbox.0 ≡ Some c.in-Some.index.now.meaning =
    sym (numbered_in c.args.mailbox.0 _ c.self.inside.map.meaning c.args.self.now.map c.self.inside.boxes.items c.args.self.now.boxes c.deref.result.now _ c.self.invariant.1.box_logs (ap (λ v. v.map) c.self.view_is) (ap (λ v. v.boxes) c.self.view_is) c.deref.ensures.value c.index_of.ensures) ∙ ap (λ o. option_map (λ (i : BoxState). i.meaning) (option_copied o)) c.in-Some.is in
    let d = deletion_there _ _ c.args.self.now c.take_deletion.new.log c.args.mailbox c.in-Some.index.now.meaning c.in_ok-entry.field-0.entry c.self.invariant.1 c.self.view_is c.requires.running c.take_deletion.ensures.log at c.known_facts.ensures.few c.in_ok-entry.ensures.entry in
    λ uid. leak_deleted _ c.args.mailbox d.amounts uid c.args.self.now (record c.args.self.now { map = c.apply_deletion.new.map.meaning; boxes = c.forget_log.new.made.items; dues = c.self.inside.dues.items }) (subst (λ v. IsStore (g.D.Disk.history v.disk) v) c.self.view_is c.self.invariant.1) (amounts_as _ c.args.self.now c.args.mailbox d.amounts c.self.view_is d.are) (c.apply_deletion.ensures ∙ ap (λ (x : MapEntry). map_applied x c.self.inside.map.meaning) d.is ∙ ap (λ v. map_applied (entry.X c.args.mailbox d.amounts) v.map) c.self.view_is) (ap (λ v. v.dues) c.self.view_is)
    (indexes_deleted _ c.args.mailbox.0 _ c.forget_log.new.made.items c.self.invariant.1 c.forget_log.ensures ∙ ap (λ v. beside_without c.args.mailbox.0 v.map.boxes (indexes_of v.boxes)) c.self.view_is)

pub returns-in-Ok-clause-uids : goal.returns-in-Ok-clause-uids
returns-in-Ok-clause-uids g c =
    let at : list_numbered c.args.self.now c.args.mailbox.0 ≡ Some c.in-Some.index.now.meaning =
    sym (numbered_in c.args.mailbox.0 _ c.self.inside.map.meaning c.args.self.now.map c.self.inside.boxes.items c.args.self.now.boxes c.deref.result.now _ c.self.invariant.1.box_logs (ap (λ v. v.map) c.self.view_is) (ap (λ v. v.boxes) c.self.view_is) c.deref.ensures.value c.index_of.ensures) ∙ ap (λ o. option_map (λ (i : BoxState). i.meaning) (option_copied o)) c.in-Some.is in
    let d = deletion_there _ _ c.args.self.now c.take_deletion.new.log c.args.mailbox c.in-Some.index.now.meaning c.in_ok-entry.field-0.entry c.self.invariant.1 c.self.view_is c.requires.running c.take_deletion.ensures.log at c.known_facts.ensures.few c.in_ok-entry.ensures.entry in
    uids_deleted c.args.mailbox d.amounts c.args.self.now _ (c.apply_deletion.ensures ∙ ap (λ (x : MapEntry). map_applied x c.self.inside.map.meaning) d.is ∙ ap (λ v. map_applied (entry.X c.args.mailbox d.amounts) v.map) c.self.view_is) (indexes_deleted _ c.args.mailbox.0 _ c.forget_log.new.made.items c.self.invariant.1 c.forget_log.ensures ∙ ap (λ v. beside_without c.args.mailbox.0 v.map.boxes (indexes_of v.boxes)) c.self.view_is)

pub returns-in-Ok-clause-gone : goal.returns-in-Ok-clause-gone
returns-in-Ok-clause-gone g c =
    let at : list_numbered c.args.self.now c.args.mailbox.0 ≡ Some c.in-Some.index.now.meaning =
    sym (numbered_in c.args.mailbox.0 _ c.self.inside.map.meaning c.args.self.now.map c.self.inside.boxes.items c.args.self.now.boxes c.deref.result.now _ c.self.invariant.1.box_logs (ap (λ v. v.map) c.self.view_is) (ap (λ v. v.boxes) c.self.view_is) c.deref.ensures.value c.index_of.ensures) ∙ ap (λ o. option_map (λ (i : BoxState). i.meaning) (option_copied o)) c.in-Some.is in
    let d = deletion_there _ _ c.args.self.now c.take_deletion.new.log c.args.mailbox c.in-Some.index.now.meaning c.in_ok-entry.field-0.entry c.self.invariant.1 c.self.view_is c.requires.running c.take_deletion.ensures.log at c.known_facts.ensures.few c.in_ok-entry.ensures.entry in
    gone_deleted c.args.mailbox d.amounts c.args.self.now _ (c.apply_deletion.ensures ∙ ap (λ (x : MapEntry). map_applied x c.self.inside.map.meaning) d.is ∙ ap (λ v. map_applied (entry.X c.args.mailbox d.amounts) v.map) c.self.view_is) (ap (λ v. v.made) c.self.view_is)

pub returns-in_err-entry-clause-mail_stays : goal.returns-in_err-entry-clause-mail_stays
returns-in_err-entry-clause-mail_stays g c = λ m.
    subst (λ v. MailIsKept m (g.D.Disk.history v.disk) (g.D.Disk.history c.self.inside.disk)) c.self.view_is (kept_begins m _)

pub returns-in-Ok-clause-mail_stays : goal.returns-in-Ok-clause-mail_stays
returns-in-Ok-clause-mail_stays g c = λ m.
    subst (λ v. MailIsKept m (g.D.Disk.history v.disk) (g.D.Disk.history c.append_entry.new.disk)) c.self.view_is
    (map_log_kept m c.take_deletion.new.log.name c.self.invariant.1.generation _ _ (ap (λ (l : LogState). l.name) c.take_deletion.ensures.log ∙ c.self.invariant.1.map_name) c.append_entry.ensures.others_stay)

pub returns-clause-mail_stays : goal.returns-clause-mail_stays
returns-clause-mail_stays g c =
    λ m.
    let left : MailIsKept m (g.D.Disk.history c.args.self.now.disk) (g.D.Disk.history c.append_entry.new.disk) =
    subst (λ v. MailIsKept m (g.D.Disk.history v.disk) (g.D.Disk.history c.append_entry.new.disk)) c.self.view_is
    (map_log_kept m c.take_deletion.new.log.name c.self.invariant.1.generation _ _ (ap (λ (l : LogState). l.name) c.take_deletion.ensures.log ∙ c.self.invariant.1.map_name) c.append_entry.ensures.others_stay) in
    subst (λ d. MailIsKept m (g.D.Disk.history c.args.self.now.disk) (g.D.Disk.history d)) (sym (search rules)) left
