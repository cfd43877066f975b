use Rattle.store_core.proofs.Common.{slice_set, refl, sym, ◌∙◌, ap, subst, MapMeaning, IsUnnamed, KeepsStored, MailIsKept, indexes_of}
use Rattle.mdbox_base.specs.declared.entries.MapEntry.TheVariants as entry
use Rattle.model_meaning.specs.SameMeaning.{MeansSame}
use Rattle.store_core.specs.Drafts.{boxes_with, meanings_with}
use Rattle.store_core.proofs.ChangeCallLemmas.{made_after_change}
use Rattle.store_core.proofs.DraftSwitchLemmas.{leak_then}
use Rattle.store_core.proofs.KnownInstanceLemmas.{instances_changed}
use Rattle.store_core.proofs.MailStayLemmas.{map_log_kept}
use Rattle.store_core.proofs.NamingLemmas.{stored_named}
use Rattle.store_core.proofs.PutInForceLemmas.{boxes_then, can_switch, draft_of, fits_now, indexes_then, leaves_seen, leaves_then, must_be_there, room_then, same_means, settled_seen, settled_then, store_put, indexes_seen, indexes_stay}
use Rattle.store_core.proofs.ReplacedLogLemmas.{unnamed_then}
use Rattle.store_core.proofs.store.Store.put_in_force.Goals as goal

pub unreachable-requires : goal.unreachable-requires
unreachable-requires g c = must_be_there _ _ c.args.self.now c.draft.inside.open_box c.draft.inside.generation c.args.draft c.deref.result.now c.self.invariant.1 c.self.view_is c.draft.view_is c.requires.named c.deref.ensures.value c.in_default.ensures.none

pub apply_generation-requires : goal.apply_generation-requires
apply_generation-requires g c =
    let can = can_switch g.D.Disk.history _ c.args.self.now c.draft.inside.open_box c.draft.inside.generation c.args.draft c.deref.result.now c.in-Some.place c.self.invariant.1 c.self.view_is c.draft.view_is c.requires.running c.requires.held c.requires.named c.requires.counts c.deref.ensures.value c.in-Some.ensures.some in
    fits_now _ _ _ _ _ can

pub invariant_of-self : goal.invariant_of-self
invariant_of-self g c =
    let can = can_switch g.D.Disk.history _ c.args.self.now c.draft.inside.open_box c.draft.inside.generation c.args.draft c.deref.result.now c.in-Some.place c.self.invariant.1 c.self.view_is c.draft.view_is c.requires.running c.requires.held c.requires.named c.requires.counts c.deref.ensures.value c.in-Some.ensures.some in
    let applied = c.apply_generation.ensures in (
      c.self.invariant.0 ∙ ap (λ (m : MapMeaning). m.store) (sym applied),
      store_put _ _ _ c.append_generation.new.disk (draft_of c.draft.inside.open_box c.draft.inside.generation) c.draft.inside.open_box c.in-Some.place c.append_generation.new.log c.apply_generation.new.map.meaning can applied c.in-Ok.ensures.log c.in-Ok.ensures.others c.in-Ok.ensures.added,
      room_then _ _ c.draft.inside.open_box c.in-Some.place c.self.invariant.2 c.in-Ok.ensures.log.room refl c.draft.invariant,
      made_after_change c.self.invariant.1.generation _ _ _ _ c.self.inside.map_log.name c.self.invariant.3 can.running c.self.invariant.1.map_name c.in-Ok.ensures.others refl (ap (λ (m : MapMeaning). m.store) applied) refl
          (λ n unnamed. subst (IsUnnamed n) (sym applied) (unnamed_then c.draft.inside.open_box.number c.draft.inside.generation n c.self.inside.map.meaning unnamed)),
      instances_changed c.self.inside.map_log.name c.self.invariant.1.generation _ _ _ _ (entry.G c.draft.inside.open_box.number c.draft.inside.generation) c.self.invariant.4 tt tt c.self.invariant.1.map_name c.in-Ok.ensures.others refl refl applied (λ on. on),
    )

pub returns-in-Ok-clause-any_moment : goal.returns-in-Ok-clause-any_moment
returns-in-Ok-clause-any_moment g c =
    let can = can_switch g.D.Disk.history _ c.args.self.now c.draft.inside.open_box c.draft.inside.generation c.args.draft c.deref.result.now c.in-Some.place c.self.invariant.1 c.self.view_is c.draft.view_is c.requires.running c.requires.held c.requires.named c.requires.counts c.deref.ensures.value c.in-Some.ensures.some in
    leaves_seen g.D.Disk.history _ c.args.self.now _ c.args.draft (g.D.Disk.history c.append_generation.new.disk) c.self.view_is c.draft.view_is
    (leaves_then _ _ _ (draft_of c.draft.inside.open_box c.draft.inside.generation) c.draft.inside.open_box c.in-Some.place can (g.met.D.Disk.reads_image c.self.inside.disk) c.append_generation.ensures.any_moment)

pub returns-in-Ok-clause-mail_stays : goal.returns-in-Ok-clause-mail_stays
returns-in-Ok-clause-mail_stays g c = λ m.
    subst (λ v. MailIsKept m (g.D.Disk.history v.disk) (g.D.Disk.history c.append_generation.new.disk)) c.self.view_is
    (map_log_kept m c.self.inside.map_log.name c.self.invariant.1.generation _ _ c.self.invariant.1.map_name c.append_generation.ensures.others_stay)

pub returns-in-Err-clause-any_moment : goal.returns-in-Err-clause-any_moment
returns-in-Err-clause-any_moment g c =
    let can = can_switch g.D.Disk.history _ c.args.self.now c.draft.inside.open_box c.draft.inside.generation c.args.draft c.deref.result.now c.in-Some.place c.self.invariant.1 c.self.view_is c.draft.view_is c.requires.running c.requires.held c.requires.named c.requires.counts c.deref.ensures.value c.in-Some.ensures.some in
    leaves_seen g.D.Disk.history _ c.args.self.now _ c.args.draft (g.D.Disk.history c.append_generation.new.disk) c.self.view_is c.draft.view_is
    (leaves_then _ _ _ (draft_of c.draft.inside.open_box c.draft.inside.generation) c.draft.inside.open_box c.in-Some.place can (g.met.D.Disk.reads_image c.self.inside.disk) c.append_generation.ensures.any_moment)

pub returns-in-Err-clause-mail_stays : goal.returns-in-Err-clause-mail_stays
returns-in-Err-clause-mail_stays g c = λ m.
    subst (λ v. MailIsKept m (g.D.Disk.history v.disk) (g.D.Disk.history c.append_generation.new.disk)) c.self.view_is
    (map_log_kept m c.self.inside.map_log.name c.self.invariant.1.generation _ _ c.self.invariant.1.map_name c.append_generation.ensures.others_stay)

pub returns-in-Ok-clause-settled : goal.returns-in-Ok-clause-settled
returns-in-Ok-clause-settled g c =
    let can = can_switch g.D.Disk.history _ c.args.self.now c.draft.inside.open_box c.draft.inside.generation c.args.draft c.deref.result.now c.in-Some.place c.self.invariant.1 c.self.view_is c.draft.view_is c.requires.running c.requires.held c.requires.named c.requires.counts c.deref.ensures.value c.in-Some.ensures.some in
    settled_seen g.D.Disk.history _ c.args.self.now _ c.args.draft (g.D.Disk.history c.append_generation.new.disk) c.self.view_is c.draft.view_is
    (settled_then _ _ _ (draft_of c.draft.inside.open_box c.draft.inside.generation) c.draft.inside.open_box c.in-Some.place c.append_generation.new.log can (g.met.D.Disk.reads_image c.self.inside.disk) c.in-Ok.ensures.log c.in-Ok.ensures.others c.in-Ok.ensures.held)

pub returns-in-Ok-clause-stored : goal.returns-in-Ok-clause-stored
returns-in-Ok-clause-stored g c =
    subst (λ v. KeepsStored (g.D.Disk.history v.disk) (g.D.Disk.history c.append_generation.new.disk)) c.self.view_is (stored_named _ _ _ c.self.invariant.1 c.in-Ok.ensures.others)

pub returns-in-Ok-clause-indexes : goal.returns-in-Ok-clause-indexes
returns-in-Ok-clause-indexes g c =
    let can = can_switch g.D.Disk.history _ c.args.self.now c.draft.inside.open_box c.draft.inside.generation c.args.draft c.deref.result.now c.in-Some.place c.self.invariant.1 c.self.view_is c.draft.view_is c.requires.running c.requires.held c.requires.named c.requires.counts c.deref.ensures.value c.in-Some.ensures.some in
    indexes_then _ _ (draft_of c.draft.inside.open_box c.draft.inside.generation) c.draft.inside.open_box c.in-Some.place can
    ∙ ap (λ d. meanings_with d.number.0 d.index.meaning c.self.inside.map.meaning.boxes (indexes_of c.self.inside.boxes.items)) c.draft.view_is
    ∙ ap (λ v. meanings_with c.args.draft.number.0 c.args.draft.index.meaning v.map.boxes (indexes_of v.boxes)) c.self.view_is

pub returns-in-Ok-clause-boxes : goal.returns-in-Ok-clause-boxes
returns-in-Ok-clause-boxes g c =
    let can = can_switch g.D.Disk.history _ c.args.self.now c.draft.inside.open_box c.draft.inside.generation c.args.draft c.deref.result.now c.in-Some.place c.self.invariant.1 c.self.view_is c.draft.view_is c.requires.running c.requires.held c.requires.named c.requires.counts c.deref.ensures.value c.in-Some.ensures.some in
    boxes_then _ _ (draft_of c.draft.inside.open_box c.draft.inside.generation) c.draft.inside.open_box c.in-Some.place can ∙ ap (λ d. boxes_with d c.self.inside.boxes.items) c.draft.view_is ∙ ap (λ v. boxes_with c.args.draft v.boxes) c.self.view_is

pub returns-in-Ok-clause-means : goal.returns-in-Ok-clause-means
returns-in-Ok-clause-means g c =
    let can = can_switch g.D.Disk.history _ c.args.self.now c.draft.inside.open_box c.draft.inside.generation c.args.draft c.deref.result.now c.in-Some.place c.self.invariant.1 c.self.view_is c.draft.view_is c.requires.running c.requires.held c.requires.named c.requires.counts c.deref.ensures.value c.in-Some.ensures.some in
    subst (λ v. MeansSame v.map c.apply_generation.new.map.meaning) c.self.view_is
    (subst (λ (m : MapMeaning). MeansSame c.self.inside.map.meaning m) (sym c.apply_generation.ensures) (same_means _ _ (draft_of c.draft.inside.open_box c.draft.inside.generation) c.draft.inside.open_box c.in-Some.place can))

pub returns-in-Ok-clause-leak : goal.returns-in-Ok-clause-leak
returns-in-Ok-clause-leak g c = λ uid.
    let can = can_switch g.D.Disk.history _ c.args.self.now c.draft.inside.open_box c.draft.inside.generation c.args.draft c.deref.result.now c.in-Some.place c.self.invariant.1 c.self.view_is c.draft.view_is c.requires.running c.requires.held c.requires.named c.requires.counts c.deref.ensures.value c.in-Some.ensures.some in
    leak_then g.D.Disk.history _ c.args.self.now (record c.args.self.now { map = c.apply_generation.new.map.meaning; boxes = slice_set c.self.inside.boxes.items c.in-Some.place c.draft.inside.open_box; dues = c.self.inside.dues.items })
    (draft_of c.draft.inside.open_box c.draft.inside.generation) c.args.draft c.draft.inside.open_box c.in-Some.place uid c.self.view_is c.draft.view_is can c.apply_generation.ensures refl refl

pub returns-in-Ok-clause-same_indexes : goal.returns-in-Ok-clause-same_indexes
returns-in-Ok-clause-same_indexes g c =
    let can = can_switch g.D.Disk.history _ c.args.self.now c.draft.inside.open_box c.draft.inside.generation c.args.draft c.deref.result.now c.in-Some.place c.self.invariant.1 c.self.view_is c.draft.view_is c.requires.running c.requires.held c.requires.named c.requires.counts c.deref.ensures.value c.in-Some.ensures.some in
    indexes_seen _ c.args.self.now (draft_of c.draft.inside.open_box c.draft.inside.generation) c.args.draft c.draft.inside.open_box c.in-Some.place c.self.view_is c.draft.view_is (indexes_stay _ _ (draft_of c.draft.inside.open_box c.draft.inside.generation) c.draft.inside.open_box c.in-Some.place can)
