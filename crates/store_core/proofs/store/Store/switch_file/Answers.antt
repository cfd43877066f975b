use Rattle.store_core.proofs.Common.{arith, refl, sym, ◌∙◌, ap, subst, Lists, MapMeaning, record_at, IsSettledFor, Leaves, KeepsStored, due_at, leak_at, MailIsKept, KeepsMail}
use Rattle.store_core.proofs.MailStayLemmas.{map_log_kept}
use Rattle.store_core.specs.Switching.{HasCopies, HasCopiesSynced}
use Rattle.store_core.proofs.KnownInstanceLemmas.{firm_seen}
use Rattle.store_core.proofs.KeptMailLemmas.{mail_mapped}
use Rattle.store_core.proofs.MapAppendLemmas.{room_after}
use Rattle.store_core.proofs.SwitchCallLemmas.{switch_of, size_call, store_call, leaves_call, settled_call, due_call, leak_call, boxes_call, stored_call, spared_call, made_call, instances_call, firm_call, spared_as}
use Rattle.store_core.proofs.store.Store.switch_file.Goals as goal

pub drop_dues-requires-clause-size : goal.drop_dues-requires-clause-size
drop_dues-requires-clause-size g c = size_call _ _ c.self.invariant.1

pub invariant_of-self : goal.invariant_of-self
invariant_of-self g c =
    let o = switch_of _ _ c.args.self.now c.args.entry.now c.args.file.0 c.self.invariant.1 c.self.view_is c.known_facts.ensures c.requires.running c.requires.switches c.requires.range c.requires.fits c.requires.emptied c.requires.places (subst (λ v. HasCopies c.args.entry.now c.args.self.now.map (g.D.Disk.history v.disk)) (sym c.self.view_is) c.requires.copies) in (
      c.self.invariant.0 ∙ ap (λ (m : MapMeaning). m.store) (sym c.apply_switch.ensures),
      store_call _ _ _ c.append_laid.new.disk c.append_laid.new.log c.apply_switch.new.map.meaning c.doom.new.self c.drop_dues.new.dues.items c.args.entry.now c.args.file.0 o c.apply_switch.ensures c.doom.ensures.files c.drop_dues.ensures c.in-Ok.ensures.log c.in-Ok.ensures.others c.in-Ok.ensures.added,
      room_after _ _ c.self.inside.map_log c.self.invariant.2 (omega arith) c.in-Ok.ensures.log.room refl,
      made_call _ _ _ _ c.args.entry.now c.args.file.0 o c.apply_switch.ensures refl refl refl c.in-Ok.ensures.others c.self.invariant.3,
      instances_call _ _ _ _ c.args.entry.now c.args.file.0 o c.apply_switch.ensures refl refl refl c.in-Ok.ensures.others c.self.invariant.4,
    )

pub returns-in-Ok-clause-any_moment : goal.returns-in-Ok-clause-any_moment
returns-in-Ok-clause-any_moment g c =
    let o = switch_of _ _ c.args.self.now c.args.entry.now c.args.file.0 c.self.invariant.1 c.self.view_is c.known_facts.ensures c.requires.running c.requires.switches c.requires.range c.requires.fits c.requires.emptied c.requires.places (subst (λ v. HasCopies c.args.entry.now c.args.self.now.map (g.D.Disk.history v.disk)) (sym c.self.view_is) c.requires.copies) in
    subst (λ v. (lists : Lists) → HasCopiesSynced c.args.entry.now v.map (g.D.Disk.history v.disk) → IsSettledFor lists (g.D.Disk.history v.disk) → Leaves lists lists (g.D.Disk.history v.disk) (g.D.Disk.history c.append_laid.new.disk)) c.self.view_is
    (leaves_call _ _ _ c.args.entry.now c.args.file.0 o (g.met.D.Disk.reads_image c.self.inside.disk) c.append_laid.ensures.any_moment)

pub returns-in-Err-clause-any_moment : goal.returns-in-Err-clause-any_moment
returns-in-Err-clause-any_moment g c =
    let o = switch_of _ _ c.args.self.now c.args.entry.now c.args.file.0 c.self.invariant.1 c.self.view_is c.known_facts.ensures c.requires.running c.requires.switches c.requires.range c.requires.fits c.requires.emptied c.requires.places (subst (λ v. HasCopies c.args.entry.now c.args.self.now.map (g.D.Disk.history v.disk)) (sym c.self.view_is) c.requires.copies) in
    subst (λ v. (lists : Lists) → HasCopiesSynced c.args.entry.now v.map (g.D.Disk.history v.disk) → IsSettledFor lists (g.D.Disk.history v.disk) → Leaves lists lists (g.D.Disk.history v.disk) (g.D.Disk.history c.append_laid.new.disk)) c.self.view_is
    (leaves_call _ _ _ c.args.entry.now c.args.file.0 o (g.met.D.Disk.reads_image c.self.inside.disk) c.append_laid.ensures.any_moment)

pub returns-in-Ok-clause-settled : goal.returns-in-Ok-clause-settled
returns-in-Ok-clause-settled g c =
    let o = switch_of _ _ c.args.self.now c.args.entry.now c.args.file.0 c.self.invariant.1 c.self.view_is c.known_facts.ensures c.requires.running c.requires.switches c.requires.range c.requires.fits c.requires.emptied c.requires.places (subst (λ v. HasCopies c.args.entry.now c.args.self.now.map (g.D.Disk.history v.disk)) (sym c.self.view_is) c.requires.copies) in
    subst (λ v. (lists : Lists) → HasCopiesSynced c.args.entry.now v.map (g.D.Disk.history v.disk) → IsSettledFor lists (g.D.Disk.history v.disk) → IsSettledFor lists (g.D.Disk.history c.append_laid.new.disk)) c.self.view_is
    (settled_call _ _ _ c.append_laid.new.log c.args.entry.now c.args.file.0 o (g.met.D.Disk.reads_image c.self.inside.disk) c.in-Ok.ensures.log c.in-Ok.ensures.others c.in-Ok.ensures.held)

pub returns-in-Ok-clause-due : goal.returns-in-Ok-clause-due
returns-in-Ok-clause-due g c = λ uid.
    let o = switch_of _ _ c.args.self.now c.args.entry.now c.args.file.0 c.self.invariant.1 c.self.view_is c.known_facts.ensures c.requires.running c.requires.switches c.requires.range c.requires.fits c.requires.emptied c.requires.places (subst (λ v. HasCopies c.args.entry.now c.args.self.now.map (g.D.Disk.history v.disk)) (sym c.self.view_is) c.requires.copies) in
    due_call _ _ c.apply_switch.new.map.meaning c.drop_dues.new.dues.items c.args.entry.now c.args.file.0 uid o c.apply_switch.ensures c.drop_dues.ensures ∙ ap (λ v. due_at uid v) c.self.view_is

pub returns-in-Ok-clause-mailboxes : goal.returns-in-Ok-clause-mailboxes
returns-in-Ok-clause-mailboxes g c =
    let o = switch_of _ _ c.args.self.now c.args.entry.now c.args.file.0 c.self.invariant.1 c.self.view_is c.known_facts.ensures c.requires.running c.requires.switches c.requires.range c.requires.fits c.requires.emptied c.requires.places (subst (λ v. HasCopies c.args.entry.now c.args.self.now.map (g.D.Disk.history v.disk)) (sym c.self.view_is) c.requires.copies) in
    boxes_call _ _ c.apply_switch.new.map.meaning c.args.entry.now c.args.file.0 o c.apply_switch.ensures ∙ ap (λ v. v.map.boxes) c.self.view_is

pub returns-in-Ok-clause-stored : goal.returns-in-Ok-clause-stored
returns-in-Ok-clause-stored g c =
    let o = switch_of _ _ c.args.self.now c.args.entry.now c.args.file.0 c.self.invariant.1 c.self.view_is c.known_facts.ensures c.requires.running c.requires.switches c.requires.range c.requires.fits c.requires.emptied c.requires.places (subst (λ v. HasCopies c.args.entry.now c.args.self.now.map (g.D.Disk.history v.disk)) (sym c.self.view_is) c.requires.copies) in
    subst (λ v. KeepsStored (g.D.Disk.history v.disk) (g.D.Disk.history c.append_laid.new.disk)) c.self.view_is (stored_call _ _ _ c.args.entry.now c.args.file.0 o c.in-Ok.ensures.others)

pub returns-in-Ok-clause-spared : goal.returns-in-Ok-clause-spared
returns-in-Ok-clause-spared g c = λ uid row found some.
    let o = switch_of _ _ c.args.self.now c.args.entry.now c.args.file.0 c.self.invariant.1 c.self.view_is c.known_facts.ensures c.requires.running c.requires.switches c.requires.range c.requires.fits c.requires.emptied c.requires.places (subst (λ v. HasCopies c.args.entry.now c.args.self.now.map (g.D.Disk.history v.disk)) (sym c.self.view_is) c.requires.copies) in
    spared_as _ uid row _ _ _ (ap (λ v. g.D.Disk.history v.disk) c.self.view_is) (spared_call _ _ _ _ c.args.entry.now c.args.file.0 uid row o c.apply_switch.ensures c.in-Ok.ensures.others (ap (λ v. record_at v.map uid) c.self.view_is ∙ found) some)

pub returns-in-Ok-clause-leak : goal.returns-in-Ok-clause-leak
returns-in-Ok-clause-leak g c = λ uid.
    let o = switch_of _ _ c.args.self.now c.args.entry.now c.args.file.0 c.self.invariant.1 c.self.view_is c.known_facts.ensures c.requires.running c.requires.switches c.requires.range c.requires.fits c.requires.emptied c.requires.places (subst (λ v. HasCopies c.args.entry.now c.args.self.now.map (g.D.Disk.history v.disk)) (sym c.self.view_is) c.requires.copies) in
    leak_call _ _ c.apply_switch.new.map.meaning c.drop_dues.new.dues.items c.args.entry.now c.args.file.0 uid o c.apply_switch.ensures c.drop_dues.ensures ∙ ap (λ v. leak_at uid v) c.self.view_is

pub returns-in-Ok-clause-others : goal.returns-in-Ok-clause-others
returns-in-Ok-clause-others g c =
    subst (λ v. KeepsMail (g.D.Disk.history v.disk) (g.D.Disk.history c.append_laid.new.disk)) c.self.view_is
    (mail_mapped c.self.inside.map_log.name c.self.invariant.1.generation _ _ c.self.invariant.1.map_name c.in-Ok.ensures.others)

pub returns-in-Ok-clause-mail_stays : goal.returns-in-Ok-clause-mail_stays
returns-in-Ok-clause-mail_stays g c = λ m.
    subst (λ v. MailIsKept m (g.D.Disk.history v.disk) (g.D.Disk.history c.append_laid.new.disk)) c.self.view_is
    (map_log_kept m c.self.inside.map_log.name c.self.invariant.1.generation _ _ c.self.invariant.1.map_name c.append_laid.ensures.others_stay)

pub returns-in-Err-clause-mail_stays : goal.returns-in-Err-clause-mail_stays
returns-in-Err-clause-mail_stays g c = λ m.
    subst (λ v. MailIsKept m (g.D.Disk.history v.disk) (g.D.Disk.history c.append_laid.new.disk)) c.self.view_is
    (map_log_kept m c.self.inside.map_log.name c.self.invariant.1.generation _ _ c.self.invariant.1.map_name c.append_laid.ensures.others_stay)

pub returns-in-Ok-clause-firm : goal.returns-in-Ok-clause-firm
returns-in-Ok-clause-firm g c =
    let o = switch_of _ _ c.args.self.now c.args.entry.now c.args.file.0 c.self.invariant.1 c.self.view_is c.known_facts.ensures c.requires.running c.requires.switches c.requires.range c.requires.fits c.requires.emptied c.requires.places (subst (λ v. HasCopies c.args.entry.now c.args.self.now.map (g.D.Disk.history v.disk)) (sym c.self.view_is) c.requires.copies) in
    firm_seen g.D.Disk.history _ c.args.self.now _ c.self.view_is (firm_call _ _ _ _ c.args.entry.now c.args.file.0 o c.apply_switch.ensures refl c.in-Ok.ensures.others)
