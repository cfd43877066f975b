use Rattle.store_core.proofs.Common.{◌≡◌, ◌==◌, ◌++◌, ◌∷◌, ◌≤◌, [], false, true, List, refl, sym, ◌∙◌, ap, subst, arith, ◌||◌, NamedButFor, Lists, IsSettledFor, Leaves, KeepsStored, IsUnnamed, has_made_log, OpenBox, MailIsKept, kept_begins}
use Rattle.disk_model.specs.declared.name.FileName.TheVariants as file
use Rattle.store_core.proofs.BoxCrashLemmas.{leaves_none}
use Rattle.store_core.proofs.KnownInstanceLemmas.{instances_logged}
use Rattle.store_core.proofs.MadeCallLemmas.{created, one_more, keeps_others, logged_as, room_same}
use Rattle.store_core.proofs.UnneededLogLemmas.{besides, leaves_beside, named_but, settled_then, store_beside, stored_then, unnamed_free}
use Rattle.store_core.proofs.MailStayLemmas.{box_log_kept}
use Rattle.store_core.proofs.store.Store.create_box.Goals as goal

pub returns-in_err-room-clause-any_moment : goal.returns-in_err-room-clause-any_moment
returns-in_err-room-clause-any_moment g c = λ lists settled. leaves_none _ lists lists settled

pub returns-in_err-index-clause-any_moment : goal.returns-in_err-index-clause-any_moment
returns-in_err-index-clause-any_moment g c = λ lists settled. leaves_none _ lists lists settled

pub returns-in_err-reserve_one-clause-any_moment : goal.returns-in_err-reserve_one-clause-any_moment
returns-in_err-reserve_one-clause-any_moment g c =
    subst (λ v. (lists : Lists) → IsSettledFor lists (g.D.Disk.history v.disk) → Leaves lists lists (g.D.Disk.history v.disk) (g.D.Disk.history c.self.inside.disk)) c.self.view_is (λ lists settled. leaves_none _ lists lists settled)

pub invariant_of-self-in-Ok : goal.invariant_of-self-in-Ok
invariant_of-self-in-Ok g c =
    let runs = ap (λ v. v.stopped) c.self.view_is ∙ c.requires.running in
    let unnamed = subst (λ v. IsUnnamed c.args.number.0 v.map) (sym c.self.view_is) c.requires.unnamed in
    let free = unnamed_free c.args.number.0 1 c.self.inside.map.meaning unnamed in
    let others = named_but (file.Box c.args.number.0 1) _ _ c.in-Ok.ensures.others in (
      c.self.invariant.0,
      store_beside c.args.number.0 1 _ _ _ c.make_log.new.disk c.keep_log.new.made.items c.self.invariant.1 runs free (besides (file.Box c.args.number.0 1) _ _ others),
      room_same _ _ refl refl c.self.invariant.2,
      created _ _ _ _ c.keep_log.ensures.0 c.in-Ok.log c.in_ok-room.room c.args.number.0 c.self.invariant.3 runs (c.keep_log.ensures.1 ∙ ap (λ (bs : List OpenBox). bs ++ c.keep_log.ensures.0 ∷ []) c.reserve_one.ensures.same) refl refl
          c.requires.number (subst (λ v. c.args.number.0 ≤ v.drawn.mailbox) (sym c.self.view_is) c.requires.drawn) unnamed (subst (λ v. has_made_log c.args.number.0 v ≡ false) (sym c.self.view_is) c.requires.unmade)
          (ap (λ n. n.0) c.keep_log.ensures.2) (logged_as c.in-Ok.log _ _ c.args.number.0 c.in-Ok.ensures.log c.self.invariant.0) c.keep_log.ensures.3 (let r = c.in_ok-room.ensures in omega (arith, r))
          (ap (λ i. i.meaning) (c.keep_log.ensures.4 ∙ c.in_ok-index.ensures)) c.in-Ok.ensures.made others,
      instances_logged c.args.number.0 1 _ _ _ _ c.self.invariant.4 others refl refl refl (λ on. on),
    )

pub returns-in-Ok-clause-any_moment : goal.returns-in-Ok-clause-any_moment
returns-in-Ok-clause-any_moment g c =
    let runs = ap (λ v. v.stopped) c.self.view_is ∙ c.requires.running in
    let unnamed = subst (λ v. IsUnnamed c.args.number.0 v.map) (sym c.self.view_is) c.requires.unnamed in
    let free = unnamed_free c.args.number.0 1 c.self.inside.map.meaning unnamed in
    subst (λ v. (lists : Lists) → IsSettledFor lists (g.D.Disk.history v.disk) → Leaves lists lists (g.D.Disk.history v.disk) (g.D.Disk.history c.make_log.new.disk)) c.self.view_is
    (leaves_beside c.args.number.0 1 _ _ _ c.self.invariant.1 runs free (g.met.D.Disk.reads_image c.self.inside.disk) c.make_log.ensures.any_moment)

pub returns-in-Err-clause-any_moment : goal.returns-in-Err-clause-any_moment
returns-in-Err-clause-any_moment g c =
    let runs = ap (λ v. v.stopped) c.self.view_is ∙ c.requires.running in
    let unnamed = subst (λ v. IsUnnamed c.args.number.0 v.map) (sym c.self.view_is) c.requires.unnamed in
    let free = unnamed_free c.args.number.0 1 c.self.inside.map.meaning unnamed in
    subst (λ v. (lists : Lists) → IsSettledFor lists (g.D.Disk.history v.disk) → Leaves lists lists (g.D.Disk.history v.disk) (g.D.Disk.history c.make_log.new.disk)) c.self.view_is
    (leaves_beside c.args.number.0 1 _ _ _ c.self.invariant.1 runs free (g.met.D.Disk.reads_image c.self.inside.disk) c.make_log.ensures.any_moment)

pub returns-in-Ok-clause-settled : goal.returns-in-Ok-clause-settled
returns-in-Ok-clause-settled g c =
    let runs = ap (λ v. v.stopped) c.self.view_is ∙ c.requires.running in
    let unnamed = subst (λ v. IsUnnamed c.args.number.0 v.map) (sym c.self.view_is) c.requires.unnamed in
    let free = unnamed_free c.args.number.0 1 c.self.inside.map.meaning unnamed in
    subst (λ v. (lists : Lists) → IsSettledFor lists (g.D.Disk.history v.disk) → IsSettledFor lists (g.D.Disk.history c.make_log.new.disk)) c.self.view_is
    (settled_then c.args.number.0 1 _ _ _ c.self.invariant.1 runs free (g.met.D.Disk.reads_image c.self.inside.disk) (besides (file.Box c.args.number.0 1) _ _ (named_but (file.Box c.args.number.0 1) _ _ c.in-Ok.ensures.others)))

pub returns-in-Ok-clause-stored : goal.returns-in-Ok-clause-stored
returns-in-Ok-clause-stored g c =
    subst (λ v. KeepsStored (g.D.Disk.history v.disk) (g.D.Disk.history c.make_log.new.disk)) c.self.view_is (stored_then c.args.number.0 1 _ _ (besides (file.Box c.args.number.0 1) _ _ (named_but (file.Box c.args.number.0 1) _ _ c.in-Ok.ensures.others)))

pub returns-in-Ok-clause-made : goal.returns-in-Ok-clause-made
returns-in-Ok-clause-made g c = λ other.
    one_more c.args.number.0 other _ _ c.keep_log.new.made.items c.keep_log.ensures.0 c.keep_log.ensures.1 c.reserve_one.ensures.same (ap (λ n. n.0) c.keep_log.ensures.2) ∙ ap (λ v. has_made_log other v || c.args.number.0 == other) c.self.view_is

pub returns-in-Ok-clause-others : goal.returns-in-Ok-clause-others
returns-in-Ok-clause-others g c = subst (λ v. NamedButFor (file.Box c.args.number.0 1) (g.D.Disk.history v.disk) (g.D.Disk.history c.make_log.new.disk)) c.self.view_is c.in-Ok.ensures.others

pub returns-in-Ok-clause-spared : goal.returns-in-Ok-clause-spared
returns-in-Ok-clause-spared g c = λ other apart has.
    keeps_others other _ _ c.keep_log.new.made.items c.keep_log.ensures.0 c.keep_log.ensures.1 c.reserve_one.ensures.same (subst (λ v. has_made_log other v ≡ true) (sym c.self.view_is) has)

pub returns-in_err-room-clause-mail_stays : goal.returns-in_err-room-clause-mail_stays
returns-in_err-room-clause-mail_stays g c = λ m.
    kept_begins m _

pub returns-in_err-index-clause-mail_stays : goal.returns-in_err-index-clause-mail_stays
returns-in_err-index-clause-mail_stays g c = λ m.
    kept_begins m _

pub returns-in_err-reserve_one-clause-mail_stays : goal.returns-in_err-reserve_one-clause-mail_stays
returns-in_err-reserve_one-clause-mail_stays g c = λ m.
    subst (λ v. MailIsKept m (g.D.Disk.history v.disk) (g.D.Disk.history c.self.inside.disk)) c.self.view_is
    (kept_begins m _)

pub returns-in-Ok-clause-mail_stays : goal.returns-in-Ok-clause-mail_stays
returns-in-Ok-clause-mail_stays g c = λ m.
    subst (λ v. MailIsKept m (g.D.Disk.history v.disk) (g.D.Disk.history c.make_log.new.disk)) c.self.view_is
    (box_log_kept m _ c.args.number.0 1 _ _ refl c.make_log.ensures.any_moment)

pub returns-in-Err-clause-mail_stays : goal.returns-in-Err-clause-mail_stays
returns-in-Err-clause-mail_stays g c = λ m.
    subst (λ v. MailIsKept m (g.D.Disk.history v.disk) (g.D.Disk.history c.make_log.new.disk)) c.self.view_is
    (box_log_kept m _ c.args.number.0 1 _ _ refl c.make_log.ensures.any_moment)
