use Rattle.store_core.proofs.Common.{◌≡◌, ◌+◌, refl, ◌∙◌, ap, subst, Lists, IsSettledFor, Leaves, KeepsStored, MailIsKept, kept_begins}
use Rattle.disk_model.specs.declared.name.FileName.TheVariants as file
use Rattle.store_core.proofs.BoxCrashLemmas.{leaves_none}
use Rattle.store_core.proofs.DraftLemmas.{drafts_nothing}
use Rattle.store_core.proofs.KnownInstanceLemmas.{instances_named, instances_on, map_is_none}
use Rattle.store_core.proofs.MadeCallLemmas.{room_same}
use Rattle.store_core.proofs.MadeLogLemmas.{made_named}
use Rattle.store_core.proofs.MailStayLemmas.{map_log_kept}
use Rattle.store_core.proofs.MapDraftLemmas.{free_map, new_map_draft, next_map, next_number}
use Rattle.store_core.proofs.UnneededLogLemmas.{besides, leaves_free, named_but, settled_free, store_free, stored_free}
use Rattle.store_core.proofs.store.Store.draft_map.Goals as goal

pub returns-in_err-room-clause-any_moment : goal.returns-in_err-room-clause-any_moment
returns-in_err-room-clause-any_moment g c = λ lists settled. leaves_none _ lists lists settled

pub returns-in_err-room-clause-mail_stays : goal.returns-in_err-room-clause-mail_stays
returns-in_err-room-clause-mail_stays g c = λ m. kept_begins m _

pub returns-in_err-root_room-clause-any_moment : goal.returns-in_err-root_room-clause-any_moment
returns-in_err-root_room-clause-any_moment g c = λ lists settled. leaves_none _ lists lists settled

pub returns-in_err-root_room-clause-mail_stays : goal.returns-in_err-root_room-clause-mail_stays
returns-in_err-root_room-clause-mail_stays g c = λ m. kept_begins m _

pub returns-in_err-map-clause-any_moment : goal.returns-in_err-map-clause-any_moment
returns-in_err-map-clause-any_moment g c = λ lists settled. leaves_none _ lists lists settled

pub returns-in_err-map-clause-mail_stays : goal.returns-in_err-map-clause-mail_stays
returns-in_err-map-clause-mail_stays g c = λ m. kept_begins m _

pub invariant_of-self : goal.invariant_of-self
invariant_of-self g c =
    let runs = ap (λ v. v.stopped) c.self.view_is ∙ c.requires.running in
    let n = c.map_generation-generation.result in
    let name = file.Map (n + 1) in
    let other = next_map _ n (n + 1) (ap (λ v. v.map_log.name) c.self.view_is ∙ c.map_generation-generation.ensures) refl in
    let free = free_map _ _ (n + 1) c.self.invariant.1 other in
    let others = named_but name _ _ c.in-Ok.ensures.others in (
      c.self.invariant.0,
      store_free name _ _ _ c.make_map_log.new.disk c.self.inside.made.items c.self.invariant.1 runs free (besides name _ _ others),
      room_same _ _ refl refl c.self.invariant.2,
      made_named _ _ _ _ name refl refl refl refl refl (λ number e. absurd (let w : file.Box number 1 ≡ file.Map (n + 1) = e in cc w)) others c.self.invariant.3,
      instances_on _ _ _ _ c.self.invariant.4 (instances_named name _ _ (map_is_none name (n + 1) refl) others) refl refl refl (λ on. on),
    )

pub returns-in-Ok-clause-any_moment : goal.returns-in-Ok-clause-any_moment
returns-in-Ok-clause-any_moment g c =
    let runs = ap (λ v. v.stopped) c.self.view_is ∙ c.requires.running in
    let n = c.map_generation-generation.result in
    let name = file.Map (n + 1) in
    let other = next_map _ n (n + 1) (ap (λ v. v.map_log.name) c.self.view_is ∙ c.map_generation-generation.ensures) refl in
    let free = free_map _ _ (n + 1) c.self.invariant.1 other in
    subst (λ v. (lists : Lists) → IsSettledFor lists (g.D.Disk.history v.disk) → Leaves lists lists (g.D.Disk.history v.disk) (g.D.Disk.history c.make_map_log.new.disk)) c.self.view_is
    (leaves_free name _ _ _ c.self.invariant.1 runs free (g.met.D.Disk.reads_image c.self.inside.disk) c.make_map_log.ensures.any_moment)

pub returns-in-Ok-clause-mail_stays : goal.returns-in-Ok-clause-mail_stays
returns-in-Ok-clause-mail_stays g c = λ m.
    subst (λ v. MailIsKept m (g.D.Disk.history v.disk) (g.D.Disk.history c.make_map_log.new.disk)) c.self.view_is
    (map_log_kept m _ (c.map_generation-generation.result + 1) _ _ refl c.make_map_log.ensures.any_moment)

pub returns-in-Err-clause-any_moment : goal.returns-in-Err-clause-any_moment
returns-in-Err-clause-any_moment g c =
    let runs = ap (λ v. v.stopped) c.self.view_is ∙ c.requires.running in
    let n = c.map_generation-generation.result in
    let name = file.Map (n + 1) in
    let other = next_map _ n (n + 1) (ap (λ v. v.map_log.name) c.self.view_is ∙ c.map_generation-generation.ensures) refl in
    let free = free_map _ _ (n + 1) c.self.invariant.1 other in
    subst (λ v. (lists : Lists) → IsSettledFor lists (g.D.Disk.history v.disk) → Leaves lists lists (g.D.Disk.history v.disk) (g.D.Disk.history c.make_map_log.new.disk)) c.self.view_is
    (leaves_free name _ _ _ c.self.invariant.1 runs free (g.met.D.Disk.reads_image c.self.inside.disk) c.make_map_log.ensures.any_moment)

pub returns-in-Err-clause-mail_stays : goal.returns-in-Err-clause-mail_stays
returns-in-Err-clause-mail_stays g c = λ m.
    subst (λ v. MailIsKept m (g.D.Disk.history v.disk) (g.D.Disk.history c.make_map_log.new.disk)) c.self.view_is
    (map_log_kept m _ (c.map_generation-generation.result + 1) _ _ refl c.make_map_log.ensures.any_moment)

pub returns-in-Ok-clause-settled : goal.returns-in-Ok-clause-settled
returns-in-Ok-clause-settled g c =
    let runs = ap (λ v. v.stopped) c.self.view_is ∙ c.requires.running in
    let n = c.map_generation-generation.result in
    let name = file.Map (n + 1) in
    let other = next_map _ n (n + 1) (ap (λ v. v.map_log.name) c.self.view_is ∙ c.map_generation-generation.ensures) refl in
    let free = free_map _ _ (n + 1) c.self.invariant.1 other in
    subst (λ v. (lists : Lists) → IsSettledFor lists (g.D.Disk.history v.disk) → IsSettledFor lists (g.D.Disk.history c.make_map_log.new.disk)) c.self.view_is
    (settled_free name _ _ _ c.self.invariant.1 runs free (g.met.D.Disk.reads_image c.self.inside.disk) (besides name _ _ (named_but name _ _ c.in-Ok.ensures.others)))

pub returns-in-Ok-clause-stored : goal.returns-in-Ok-clause-stored
returns-in-Ok-clause-stored g c =
    let name = file.Map (c.map_generation-generation.result + 1) in
    subst (λ v. KeepsStored (g.D.Disk.history v.disk) (g.D.Disk.history c.make_map_log.new.disk)) c.self.view_is (stored_free name _ _ refl (besides name _ _ (named_but name _ _ c.in-Ok.ensures.others)))

pub returns-in-Ok-clause-draft : goal.returns-in-Ok-clause-draft
returns-in-Ok-clause-draft g c =
    let n = c.map_generation-generation.result in
    let number = next_number n (n + 1) (c.requires.more n c.map_generation-generation.ensures) refl in
    let other = next_map _ n (n + 1) (ap (λ v. v.map_log.name) c.self.view_is ∙ c.map_generation-generation.ensures) refl in
    new_map_draft _ _ _ c.in-Ok.log c.self.inside.id.0 _ number other c.self.invariant.0 c.in-Ok.ensures.log c.take_room.ensures (ap (λ i. i.meaning) c.in_ok-map.ensures) c.in-Ok.ensures.made

pub returns-in-Ok-clause-nothing : goal.returns-in-Ok-clause-nothing
returns-in-Ok-clause-nothing g c = drafts_nothing c.in-Ok.log _ _ _ c.take_room.ensures c.in-Ok.ensures.made
