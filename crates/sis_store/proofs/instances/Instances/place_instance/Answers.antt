use Rattle.std.proofs.Common.{◌≡◌, ◌<◌, ap, ◌∙◌, subst, arith}
use Rattle.disk_model.specs.Disk.{EachImage, OthersStay}
use Rattle.disk_model.specs.declared.name.FileName.TheVariants.{Inst}
use Rattle.disk_model.proofs.OtherFileLemmas.{apart_begins, apart_images}
use Rattle.mdbox_base.specs.declared.ids.InstId.{InstId}
use Rattle.sis_store.specs.Instances.{next_id}
use Rattle.sis_store.proofs.KeysLemmas.{kept-placed, keys-more}
use Rattle.sis_store.proofs.instances.Instances.place_instance.Goals as goal

pub returns-then-self-clause-any_moment : goal.returns-then-self-clause-any_moment
returns-then-self-clause-any_moment g c = apart_images _ _ _ (apart_begins _ _).each

pub returns-in_err-make_room-clause-any_moment : goal.returns-in_err-make_room-clause-any_moment
returns-in_err-make_room-clause-any_moment g c = apart_images _ _ _ (apart_begins _ _).each

pub returns-in_err-make_with-clause-any_moment : goal.returns-in_err-make_with-clause-any_moment
returns-in_err-make_with-clause-any_moment g c =
    let id : c.numbered_id-id.result ≡ next_id c.args.self.now = c.numbered_id-id.ensures ∙ ap next_id c.self.view_is in
    subst (λ (i : InstId). EachImage (λ m image. OthersStay (Inst c.args.hash.0 i.0) (g.D.Disk.history c.args.disk.now) image) (g.D.Disk.history c.args.disk.now) (g.D.Disk.history c.make_with.new.disk)) id c.in_err-make_with.ensures.any_moment

pub invariant_of-self-2 : goal.invariant_of-self-2
invariant_of-self-2 g c =
    let last = c.self.invariant.0.last in
    let apart = c.if-self.false in
    let less : c.self.inside.highest < 4294967294 = omega (arith, last, apart) in (
      rw (c.add.ensures.items, c.in_ok-make_room.ensures.known) (kept-placed (record { known = c.self.inside.known.items; store = c.self.inside.store; highest = c.self.inside.highest }) _ c.self.invariant.0 less c.numbered_id-id.ensures),
      keys-more c.self.inside.keys.items c.add_key.new.keys.items c.self.inside.known.items c.add.new.known.items c.hash_key.result _ c.self.invariant.1 c.add_key.ensures.order (λ f. rw c.in_ok-make_room.ensures.keys at (c.add_key.ensures.same f))
          (λ h. rw c.in_ok-make_room.ensures.known at (c.add.ensures.same h)) c.hash_key.ensures,
    )

pub returns-clause-any_moment : goal.returns-clause-any_moment
returns-clause-any_moment g c =
    let id : c.numbered_id-id.result ≡ next_id c.args.self.now = c.numbered_id-id.ensures ∙ ap next_id c.self.view_is in
    subst (λ (i : InstId). EachImage (λ m image. OthersStay (Inst c.args.hash.0 i.0) (g.D.Disk.history c.args.disk.now) image) (g.D.Disk.history c.args.disk.now) (g.D.Disk.history c.make_with.new.disk)) id c.in_ok-make_with.ensures.any_moment
