use Rattle.store_core.proofs.Common.{rules, ◌≡◌, sym, ◌∙◌, ap, subst, refl, Between, LogState, Lists, same_record, MapMeaning, map_applied, record_at, record_changed, files_of, IsSettledFor, Leaves, StoresMessage, KeepsStored, KeepsMail, NamesFirm, NamesKnown, NamesFirst, MailIsKept, kept_begins}
use Rattle.store_core.specs.MapAppend.{HasRegion, IsReadyToStore}
use Rattle.store_core.proofs.BoxCrashLemmas.{leaves_none}
use Rattle.store_core.proofs.KeptMailLemmas.{mail_mapped}
use Rattle.store_core.proofs.MapAppendLemmas.{readied, seen_prepared, store_after, room_after, read_with, size_with, room_to_rise, due_seen, leak_seen, made_with}
use Rattle.store_core.proofs.MapCrashLemmas.{leaves_with, settled_with, stored_with, still_stored}
use Rattle.store_core.proofs.MapDueLemmas.{adds, mailboxes_stay, found_with}
use Rattle.store_core.proofs.MadePlaceLemmas.{made_with_entry}
use Rattle.store_core.proofs.KnownInstanceLemmas.{firm_seen, firm_with, instances_with}
use Rattle.store_core.proofs.MailStayLemmas.{map_log_kept}
use Rattle.store_core.proofs.store.Store.append_map.Goals as goal

pub append_entry-requires-clause-read : goal.append_entry-requires-clause-read
append_entry-requires-clause-read g c = read_with _ _ c.args.entry.now (readied _ _ c.args.self.now c.take_room.new.log c.take_room.new.map.meaning c.take_room.new.dues.items c.args.entry.now c.self.invariant.1 c.self.view_is c.take_room.ensures.log c.take_room.ensures.map c.take_room.ensures.dues c.requires.running c.requires.range c.requires.kind c.requires.fits c.requires.drawn c.requires.due c.requires.below (subst (λ v. HasRegion c.args.entry.now (g.D.Disk.history v.disk)) (sym c.self.view_is) c.requires.region) c.self.invariant.4 c.known_facts.ensures c.requires.instances (subst (λ v. NamesFirst c.args.entry.now c.args.self.now.instances.known (g.D.Disk.history v.disk)) (sym c.self.view_is) c.requires.once) c.in_ok-text.ensures.ids)

pub change_dues-requires-clause-size : goal.change_dues-requires-clause-size
change_dues-requires-clause-size g c = size_with _ _ c.args.entry.now (readied _ _ c.args.self.now c.take_room.new.log c.take_room.new.map.meaning c.take_room.new.dues.items c.args.entry.now c.self.invariant.1 c.self.view_is c.take_room.ensures.log c.take_room.ensures.map c.take_room.ensures.dues c.requires.running c.requires.range c.requires.kind c.requires.fits c.requires.drawn c.requires.due c.requires.below (subst (λ v. HasRegion c.args.entry.now (g.D.Disk.history v.disk)) (sym c.self.view_is) c.requires.region) c.self.invariant.4 c.known_facts.ensures c.requires.instances (subst (λ v. NamesFirst c.args.entry.now c.args.self.now.instances.known (g.D.Disk.history v.disk)) (sym c.self.view_is) c.requires.once) c.in_ok-text.ensures.ids)

pub change_dues-requires-clause-room : goal.change_dues-requires-clause-room
change_dues-requires-clause-room g c = λ uid is. room_to_rise _ _ c.args.entry.now uid.0 (readied _ _ c.args.self.now c.take_room.new.log c.take_room.new.map.meaning c.take_room.new.dues.items c.args.entry.now c.self.invariant.1 c.self.view_is c.take_room.ensures.log c.take_room.ensures.map c.take_room.ensures.dues c.requires.running c.requires.range c.requires.kind c.requires.fits c.requires.drawn c.requires.due c.requires.below (subst (λ v. HasRegion c.args.entry.now (g.D.Disk.history v.disk)) (sym c.self.view_is) c.requires.region) c.self.invariant.4 c.known_facts.ensures c.requires.instances (subst (λ v. NamesFirst c.args.entry.now c.args.self.now.instances.known (g.D.Disk.history v.disk)) (sym c.self.view_is) c.requires.once) c.in_ok-text.ensures.ids)

pub invariant_of-self-in-Ok : goal.invariant_of-self-in-Ok
invariant_of-self-in-Ok g c = (
  c.self.invariant.0 ∙ ap (λ (m : MapMeaning). m.store) (sym (c.take_in.ensures ∙ ap (map_applied c.args.entry.now) c.take_room.ensures.map)),
  store_after _ _ _ c.append_entry.new.disk c.append_entry.new.log c.args.entry.now c.take_in.new.map.meaning c.drawn_with-self-inside.result c.change_dues.new.dues.items (readied _ _ c.args.self.now c.take_room.new.log c.take_room.new.map.meaning c.take_room.new.dues.items c.args.entry.now c.self.invariant.1 c.self.view_is c.take_room.ensures.log c.take_room.ensures.map c.take_room.ensures.dues c.requires.running c.requires.range c.requires.kind c.requires.fits c.requires.drawn c.requires.due c.requires.below (subst (λ v. HasRegion c.args.entry.now (g.D.Disk.history v.disk)) (sym c.self.view_is) c.requires.region) c.self.invariant.4 c.known_facts.ensures c.requires.instances (subst (λ v. NamesFirst c.args.entry.now c.args.self.now.instances.known (g.D.Disk.history v.disk)) (sym c.self.view_is) c.requires.once) c.in_ok-text.ensures.ids) c.in-Ok.ensures.log c.in-Ok.ensures.others c.in-Ok.ensures.added c.take_in.ensures c.drawn_with-self-inside.ensures c.change_dues.ensures,
  room_after _ _ c.take_room.new.log c.self.invariant.2 c.take_room.ensures.no_less c.in-Ok.ensures.log.room refl,
  made_with_entry _ _ _ _ _ c.args.entry.now (readied _ _ c.args.self.now c.take_room.new.log c.take_room.new.map.meaning c.take_room.new.dues.items c.args.entry.now c.self.invariant.1 c.self.view_is c.take_room.ensures.log c.take_room.ensures.map c.take_room.ensures.dues c.requires.running c.requires.range c.requires.kind c.requires.fits c.requires.drawn c.requires.due c.requires.below (subst (λ v. HasRegion c.args.entry.now (g.D.Disk.history v.disk)) (sym c.self.view_is) c.requires.region) c.self.invariant.4 c.known_facts.ensures c.requires.instances (subst (λ v. NamesFirst c.args.entry.now c.args.self.now.instances.known (g.D.Disk.history v.disk)) (sym c.self.view_is) c.requires.once) c.in_ok-text.ensures.ids) c.take_in.ensures c.drawn_with-self-inside.ensures c.take_room.ensures.map refl refl c.in-Ok.ensures.others c.self.invariant.3,
  instances_with c.take_room.new.log.name c.self.invariant.1.generation _ _ _ _ c.args.entry.now c.self.invariant.4 c.requires.kind (subst (λ v. NamesKnown c.args.entry.now v.instances.known) (sym c.self.view_is) c.requires.instances) (subst (λ v. NamesFirst c.args.entry.now v.instances.known (g.D.Disk.history v.disk)) (sym c.self.view_is) c.requires.once) (ap (λ (l : LogState). l.name) c.take_room.ensures.log ∙ c.self.invariant.1.map_name) c.in-Ok.ensures.others refl c.drawn_with-self-inside.ensures (c.take_in.ensures ∙ ap (map_applied c.args.entry.now) c.take_room.ensures.map) (λ on. on),
)

pub returns-in_err-text-clause-any_moment : goal.returns-in_err-text-clause-any_moment
returns-in_err-text-clause-any_moment g c =
    subst (λ v. (lists : Lists) → IsReadyToStore c.args.entry.now (g.D.Disk.history v.disk) → NamesFirm c.args.entry.now v.map (g.D.Disk.history v.disk) → IsSettledFor lists (g.D.Disk.history v.disk) → Leaves lists lists (g.D.Disk.history v.disk) (g.D.Disk.history c.self.inside.disk)) c.self.view_is
    (λ lists synced firm settled. leaves_none _ lists lists settled)

pub returns-in-Ok-clause-any_moment : goal.returns-in-Ok-clause-any_moment
returns-in-Ok-clause-any_moment g c =
    subst (λ v. (lists : Lists) → IsReadyToStore c.args.entry.now (g.D.Disk.history v.disk) → NamesFirm c.args.entry.now v.map (g.D.Disk.history v.disk) → IsSettledFor lists (g.D.Disk.history v.disk) → Leaves lists lists (g.D.Disk.history v.disk) (g.D.Disk.history c.append_entry.new.disk)) c.self.view_is
    (λ lists synced firm settled. leaves_with _ _ _ c.args.entry.now (readied _ _ c.args.self.now c.take_room.new.log c.take_room.new.map.meaning c.take_room.new.dues.items c.args.entry.now c.self.invariant.1 c.self.view_is c.take_room.ensures.log c.take_room.ensures.map c.take_room.ensures.dues c.requires.running c.requires.range c.requires.kind c.requires.fits c.requires.drawn c.requires.due c.requires.below (subst (λ v. HasRegion c.args.entry.now (g.D.Disk.history v.disk)) (sym c.self.view_is) c.requires.region) c.self.invariant.4 c.known_facts.ensures c.requires.instances (subst (λ v. NamesFirst c.args.entry.now c.args.self.now.instances.known (g.D.Disk.history v.disk)) (sym c.self.view_is) c.requires.once) c.in_ok-text.ensures.ids) (g.met.D.Disk.reads_image c.self.inside.disk) c.append_entry.ensures.any_moment lists synced (subst (λ m. NamesFirm c.args.entry.now m (g.D.Disk.history c.self.inside.disk)) (sym c.take_room.ensures.map) firm) settled)

pub returns-in-Err-clause-any_moment : goal.returns-in-Err-clause-any_moment
returns-in-Err-clause-any_moment g c =
    let left : (lists : Lists) → IsReadyToStore c.args.entry.now (g.D.Disk.history c.args.self.now.disk) → NamesFirm c.args.entry.now c.args.self.now.map (g.D.Disk.history c.args.self.now.disk) → IsSettledFor lists (g.D.Disk.history c.args.self.now.disk) → Leaves lists lists (g.D.Disk.history c.args.self.now.disk) (g.D.Disk.history c.append_entry.new.disk) =
    subst (λ v. (lists : Lists) → IsReadyToStore c.args.entry.now (g.D.Disk.history v.disk) → NamesFirm c.args.entry.now v.map (g.D.Disk.history v.disk) → IsSettledFor lists (g.D.Disk.history v.disk) → Leaves lists lists (g.D.Disk.history v.disk) (g.D.Disk.history c.append_entry.new.disk)) c.self.view_is
    (λ lists synced firm settled. leaves_with _ _ _ c.args.entry.now (readied _ _ c.args.self.now c.take_room.new.log c.take_room.new.map.meaning c.take_room.new.dues.items c.args.entry.now c.self.invariant.1 c.self.view_is c.take_room.ensures.log c.take_room.ensures.map c.take_room.ensures.dues c.requires.running c.requires.range c.requires.kind c.requires.fits c.requires.drawn c.requires.due c.requires.below (subst (λ v. HasRegion c.args.entry.now (g.D.Disk.history v.disk)) (sym c.self.view_is) c.requires.region) c.self.invariant.4 c.known_facts.ensures c.requires.instances (subst (λ v. NamesFirst c.args.entry.now c.args.self.now.instances.known (g.D.Disk.history v.disk)) (sym c.self.view_is) c.requires.once) c.in_ok-text.ensures.ids) (g.met.D.Disk.reads_image c.self.inside.disk) c.append_entry.ensures.any_moment lists synced (subst (λ m. NamesFirm c.args.entry.now m (g.D.Disk.history c.self.inside.disk)) (sym c.take_room.ensures.map) firm) settled) in
    let same : c.match-copy.self.disk ≡ c.append_entry.new.disk = search rules in
    subst (λ d. (lists : Lists) → IsReadyToStore c.args.entry.now (g.D.Disk.history c.args.self.now.disk) → NamesFirm c.args.entry.now c.args.self.now.map (g.D.Disk.history c.args.self.now.disk) → IsSettledFor lists (g.D.Disk.history c.args.self.now.disk) → Leaves lists lists (g.D.Disk.history c.args.self.now.disk) (g.D.Disk.history d)) (sym same) left

pub returns-in-Ok-clause-settled : goal.returns-in-Ok-clause-settled
returns-in-Ok-clause-settled g c =
    subst (λ v. (lists : Lists) → IsReadyToStore c.args.entry.now (g.D.Disk.history v.disk) → NamesFirm c.args.entry.now v.map (g.D.Disk.history v.disk) → IsSettledFor lists (g.D.Disk.history v.disk) → IsSettledFor lists (g.D.Disk.history c.append_entry.new.disk)) c.self.view_is
    (λ lists synced firm settled. settled_with _ _ _ c.append_entry.new.log c.args.entry.now (readied _ _ c.args.self.now c.take_room.new.log c.take_room.new.map.meaning c.take_room.new.dues.items c.args.entry.now c.self.invariant.1 c.self.view_is c.take_room.ensures.log c.take_room.ensures.map c.take_room.ensures.dues c.requires.running c.requires.range c.requires.kind c.requires.fits c.requires.drawn c.requires.due c.requires.below (subst (λ v. HasRegion c.args.entry.now (g.D.Disk.history v.disk)) (sym c.self.view_is) c.requires.region) c.self.invariant.4 c.known_facts.ensures c.requires.instances (subst (λ v. NamesFirst c.args.entry.now c.args.self.now.instances.known (g.D.Disk.history v.disk)) (sym c.self.view_is) c.requires.once) c.in_ok-text.ensures.ids) (g.met.D.Disk.reads_image c.self.inside.disk) c.in-Ok.ensures.log c.in-Ok.ensures.others c.in-Ok.ensures.held lists synced (subst (λ m. NamesFirm c.args.entry.now m (g.D.Disk.history c.self.inside.disk)) (sym c.take_room.ensures.map) firm) settled)

pub returns-in-Ok-clause-due : goal.returns-in-Ok-clause-due
returns-in-Ok-clause-due g c = λ uid. due_seen _ _ c.args.self.now _ c.args.entry.now c.take_in.new.map.meaning c.change_dues.new.dues.items uid (readied _ _ c.args.self.now c.take_room.new.log c.take_room.new.map.meaning c.take_room.new.dues.items c.args.entry.now c.self.invariant.1 c.self.view_is c.take_room.ensures.log c.take_room.ensures.map c.take_room.ensures.dues c.requires.running c.requires.range c.requires.kind c.requires.fits c.requires.drawn c.requires.due c.requires.below (subst (λ v. HasRegion c.args.entry.now (g.D.Disk.history v.disk)) (sym c.self.view_is) c.requires.region) c.self.invariant.4 c.known_facts.ensures c.requires.instances (subst (λ v. NamesFirst c.args.entry.now c.args.self.now.instances.known (g.D.Disk.history v.disk)) (sym c.self.view_is) c.requires.once) c.in_ok-text.ensures.ids) (seen_prepared _ c.args.self.now c.take_room.new.log c.take_room.new.map.meaning c.take_room.new.dues.items c.self.view_is c.take_room.ensures.log c.take_room.ensures.map c.take_room.ensures.dues) c.take_in.ensures c.change_dues.ensures

pub returns-in-Ok-clause-leak : goal.returns-in-Ok-clause-leak
returns-in-Ok-clause-leak g c = λ uid. leak_seen _ _ c.args.self.now _ c.args.entry.now c.take_in.new.map.meaning c.change_dues.new.dues.items uid (readied _ _ c.args.self.now c.take_room.new.log c.take_room.new.map.meaning c.take_room.new.dues.items c.args.entry.now c.self.invariant.1 c.self.view_is c.take_room.ensures.log c.take_room.ensures.map c.take_room.ensures.dues c.requires.running c.requires.range c.requires.kind c.requires.fits c.requires.drawn c.requires.due c.requires.below (subst (λ v. HasRegion c.args.entry.now (g.D.Disk.history v.disk)) (sym c.self.view_is) c.requires.region) c.self.invariant.4 c.known_facts.ensures c.requires.instances (subst (λ v. NamesFirst c.args.entry.now c.args.self.now.instances.known (g.D.Disk.history v.disk)) (sym c.self.view_is) c.requires.once) c.in_ok-text.ensures.ids) (seen_prepared _ c.args.self.now c.take_room.new.log c.take_room.new.map.meaning c.take_room.new.dues.items c.self.view_is c.take_room.ensures.log c.take_room.ensures.map c.take_room.ensures.dues) c.take_in.ensures c.change_dues.ensures

pub returns-in-Ok-clause-mailboxes : goal.returns-in-Ok-clause-mailboxes
returns-in-Ok-clause-mailboxes g c =
    ap (λ (m : MapMeaning). m.boxes) c.take_in.ensures ∙ mailboxes_stay c.args.entry.now c.requires.kind c.take_room.new.map.meaning ∙ ap (λ (m : MapMeaning). m.boxes) (c.take_room.ensures.map ∙ ap (λ v. v.map) c.self.view_is)

pub returns-in-Ok-clause-stored : goal.returns-in-Ok-clause-stored
returns-in-Ok-clause-stored g c =
    subst (λ v. KeepsStored (g.D.Disk.history v.disk) (g.D.Disk.history c.append_entry.new.disk)) c.self.view_is (stored_with _ _ _ c.args.entry.now (readied _ _ c.args.self.now c.take_room.new.log c.take_room.new.map.meaning c.take_room.new.dues.items c.args.entry.now c.self.invariant.1 c.self.view_is c.take_room.ensures.log c.take_room.ensures.map c.take_room.ensures.dues c.requires.running c.requires.range c.requires.kind c.requires.fits c.requires.drawn c.requires.due c.requires.below (subst (λ v. HasRegion c.args.entry.now (g.D.Disk.history v.disk)) (sym c.self.view_is) c.requires.region) c.self.invariant.4 c.known_facts.ensures c.requires.instances (subst (λ v. NamesFirst c.args.entry.now c.args.self.now.instances.known (g.D.Disk.history v.disk)) (sym c.self.view_is) c.requires.once) c.in_ok-text.ensures.ids) c.in-Ok.ensures.others)

pub returns-in-Ok-clause-spared : goal.returns-in-Ok-clause-spared
returns-in-Ok-clause-spared g c = λ uid row found. record {
  now = record_changed c.args.entry.now row;
  there = ap (λ (m : MapMeaning). record_at m uid) c.take_in.ensures
      ∙ found_with c.args.entry.now c.requires.kind c.take_room.new.map.meaning uid row (ap (λ (m : MapMeaning). record_at m uid) (c.take_room.ensures.map ∙ ap (λ v. v.map) c.self.view_is) ∙ found);
  guid = (same_record c.args.entry.now (adds c.args.entry.now c.requires.kind) row).guid;
  stores = λ octets. subst (λ v. Between (λ a b. StoresMessage (files_of a) row octets → StoresMessage (files_of b) (record_changed c.args.entry.now row) octets) (g.D.Disk.history v.disk) (g.D.Disk.history c.append_entry.new.disk)) c.self.view_is
      (still_stored _ _ _ c.args.entry.now row octets (readied _ _ c.args.self.now c.take_room.new.log c.take_room.new.map.meaning c.take_room.new.dues.items c.args.entry.now c.self.invariant.1 c.self.view_is c.take_room.ensures.log c.take_room.ensures.map c.take_room.ensures.dues c.requires.running c.requires.range c.requires.kind c.requires.fits c.requires.drawn c.requires.due c.requires.below (subst (λ v. HasRegion c.args.entry.now (g.D.Disk.history v.disk)) (sym c.self.view_is) c.requires.region) c.self.invariant.4 c.known_facts.ensures c.requires.instances (subst (λ v. NamesFirst c.args.entry.now c.args.self.now.instances.known (g.D.Disk.history v.disk)) (sym c.self.view_is) c.requires.once) c.in_ok-text.ensures.ids) c.in-Ok.ensures.others);
}

pub returns-in-Ok-clause-made : goal.returns-in-Ok-clause-made
returns-in-Ok-clause-made g c = made_with _ _ c.args.entry.now c.take_in.new.map.meaning (readied _ _ c.args.self.now c.take_room.new.log c.take_room.new.map.meaning c.take_room.new.dues.items c.args.entry.now c.self.invariant.1 c.self.view_is c.take_room.ensures.log c.take_room.ensures.map c.take_room.ensures.dues c.requires.running c.requires.range c.requires.kind c.requires.fits c.requires.drawn c.requires.due c.requires.below (subst (λ v. HasRegion c.args.entry.now (g.D.Disk.history v.disk)) (sym c.self.view_is) c.requires.region) c.self.invariant.4 c.known_facts.ensures c.requires.instances (subst (λ v. NamesFirst c.args.entry.now c.args.self.now.instances.known (g.D.Disk.history v.disk)) (sym c.self.view_is) c.requires.once) c.in_ok-text.ensures.ids) c.take_in.ensures

pub returns-in-Ok-clause-others : goal.returns-in-Ok-clause-others
returns-in-Ok-clause-others g c =
    subst (λ v. KeepsMail (g.D.Disk.history v.disk) (g.D.Disk.history c.append_entry.new.disk)) c.self.view_is
    (mail_mapped c.take_room.new.log.name c.self.invariant.1.generation _ _ (ap (λ (l : LogState). l.name) c.take_room.ensures.log ∙ c.self.invariant.1.map_name) c.in-Ok.ensures.others)

pub returns-in_err-text-clause-mail_stays : goal.returns-in_err-text-clause-mail_stays
returns-in_err-text-clause-mail_stays g c = λ m.
    subst (λ v. MailIsKept m (g.D.Disk.history v.disk) (g.D.Disk.history c.self.inside.disk)) c.self.view_is
    (kept_begins m _)

pub returns-in-Ok-clause-mail_stays : goal.returns-in-Ok-clause-mail_stays
returns-in-Ok-clause-mail_stays g c = λ m.
    subst (λ v. MailIsKept m (g.D.Disk.history v.disk) (g.D.Disk.history c.append_entry.new.disk)) c.self.view_is
    (map_log_kept m c.take_room.new.log.name c.self.invariant.1.generation _ _ (ap (λ (l : LogState). l.name) c.take_room.ensures.log ∙ c.self.invariant.1.map_name) c.append_entry.ensures.others_stay)

pub returns-in-Err-clause-mail_stays : goal.returns-in-Err-clause-mail_stays
returns-in-Err-clause-mail_stays g c = λ m.
    let left : MailIsKept m (g.D.Disk.history c.args.self.now.disk) (g.D.Disk.history c.append_entry.new.disk) =
    subst (λ v. MailIsKept m (g.D.Disk.history v.disk) (g.D.Disk.history c.append_entry.new.disk)) c.self.view_is
    (map_log_kept m c.take_room.new.log.name c.self.invariant.1.generation _ _ (ap (λ (l : LogState). l.name) c.take_room.ensures.log ∙ c.self.invariant.1.map_name) c.append_entry.ensures.others_stay) in
    let same : c.match-copy.self.disk ≡ c.append_entry.new.disk = search rules in
    subst (λ d. MailIsKept m (g.D.Disk.history c.args.self.now.disk) (g.D.Disk.history d)) (sym same) left

pub returns-in-Ok-clause-firm : goal.returns-in-Ok-clause-firm
returns-in-Ok-clause-firm g c =
    firm_seen g.D.Disk.history _ c.args.self.now _ c.self.view_is
    (firm_with c.take_room.new.log.name c.self.invariant.1.generation _ _ _ _ c.args.entry.now (subst (λ v. NamesFirst c.args.entry.now v.instances.known (g.D.Disk.history v.disk)) (sym c.self.view_is) c.requires.once) (ap (λ (l : LogState). l.name) c.take_room.ensures.log ∙ c.self.invariant.1.map_name) c.in-Ok.ensures.others refl
    (c.take_in.ensures ∙ ap (map_applied c.args.entry.now) c.take_room.ensures.map))
