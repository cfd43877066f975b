use Rattle.folder_disk.proofs.Common.{◌≡◌, Bool, true, false, ℕ, List, [], ◌∷◌, ◌++◌, Option, Ok, Err, Contains, map, codes, string_bytes, refl, sym, ◌∙◌, ap, subst, System, AFolder, Modelled, IfModelled, folder_text, HasOctetNames, HasFoldersOf, FolderName}
use Rattle.folder_disk.specs.declared.folder_name.FolderName.TheVariants as folder
use Rattle.folder_disk.proofs.EachLemmas.{each_none, each_at}
use Rattle.folder_disk.proofs.ListingLemmas.{has_last, outer_at, told_more, folders_more, all_told}
use Rattle.folder_disk.proofs.listing.folders_there.Goals as goal

pub loop-outer-init : goal.loop-outer-init
loop-outer-init g c =
    (each_none (λ (first : ℕ). IfModelled (g.F.Folder.modelled c.args.folder.now) (λ s. HasFoldersOf s first c.add_there-3.new.names.items)) c.deref-outer-items.result.now, λ x has. has, c.in_ok-octets.ensures.same ∙ c.in_ok-add_there-3.ensures.same ∙ c.in_ok-add_there-2.ensures.same ∙ c.in_ok-add_there.ensures.same, c.in_ok-octets.ensures.still ∙ c.in_ok-add_there-3.ensures.still ∙ c.in_ok-add_there-2.ensures.still ∙ c.in_ok-add_there.ensures.still)

pub loop-outer-preserved : goal.loop-outer-preserved
loop-outer-preserved g c = (
  each_at (λ (first : ℕ). IfModelled (g.F.Folder.modelled c.args.folder.now) (λ s. HasFoldersOf s first c.loop-outer.names.items)) (λ (first : ℕ). IfModelled (g.F.Folder.modelled c.args.folder.now) (λ s. HasFoldersOf s first c.add_outer.new.names.items)) c.deref-outer-items.result.now c.loop-outer.outer-index 0
      (λ first told. folders_more (g.F.Folder.modelled c.args.folder.now) first c.loop-outer.names.items c.add_outer.new.names.items c.in_ok-add_outer.ensures.keeps told)
      c.loop-outer-test.true c.loop-outer.invariant.0 (outer_at (g.F.Folder.modelled c.loop-outer.folder) (g.F.Folder.modelled c.args.folder.now) _ c.add_outer.new.names.items c.loop-outer.invariant.2 c.in_ok-add_outer.ensures.outer),
  λ x has. c.in_ok-add_outer.ensures.keeps x (c.loop-outer.invariant.1 x has),
  c.in_ok-add_outer.ensures.same ∙ c.loop-outer.invariant.2,
  c.in_ok-add_outer.ensures.still ∙ c.loop-outer.invariant.3,
)

pub returns-clause-all : goal.returns-clause-all
returns-clause-all g c =
    let top : Contains c.add.new.list.items folder.Top = let T : List FolderName → Type 0 = λ l. Contains l folder.Top in subst T (sym c.in_ok-add.ensures) (has_last _ folder.Top) in
    let F : Option Modelled → Type 0 = λ m. IfModelled m (λ s. HasOctetNames s (folder_text folder.Attachments) c.in_ok-octets.octets.items) in
    let G : List ℕ → Type 0 = λ l. IfModelled (g.F.Folder.modelled c.args.folder.now) (λ s. HasOctetNames s (folder_text folder.Attachments) l) in
    all_told (g.F.Folder.modelled c.args.folder.now) c.deref-outer-items.result.now c.loop-outer.outer-index c.loop-outer.names.items
    (c.loop-outer.invariant.1 folder.Top (c.in_ok-add_there-3.ensures.keeps folder.Top (c.in_ok-add_there-2.ensures.keeps folder.Top (c.in_ok-add_there.ensures.keeps folder.Top top))))
    (told_more (g.F.Folder.modelled c.args.folder.now) folder.Storage c.add_there-3.new.names.items c.loop-outer.names.items c.loop-outer.invariant.1 (told_more (g.F.Folder.modelled c.args.folder.now) folder.Storage c.add_there-2.new.names.items c.add_there-3.new.names.items c.in_ok-add_there-3.ensures.keeps (told_more (g.F.Folder.modelled c.args.folder.now) folder.Storage c.add_there.new.names.items c.add_there-2.new.names.items c.in_ok-add_there-2.ensures.keeps c.in_ok-add_there.ensures.there)))
    (told_more (g.F.Folder.modelled c.args.folder.now) folder.Mailboxes c.add_there-3.new.names.items c.loop-outer.names.items c.loop-outer.invariant.1 (told_more (g.F.Folder.modelled c.args.folder.now) folder.Mailboxes c.add_there-2.new.names.items c.add_there-3.new.names.items c.in_ok-add_there-3.ensures.keeps (let H : Option Modelled → Type 0 = λ m. IfModelled m (λ s. s.node (folder_text folder.Mailboxes) ≡ AFolder → Contains c.add_there-2.new.names.items folder.Mailboxes) in subst H (c.in_ok-add_there.ensures.same) c.in_ok-add_there-2.ensures.there)))
    (told_more (g.F.Folder.modelled c.args.folder.now) folder.Attachments c.add_there-3.new.names.items c.loop-outer.names.items c.loop-outer.invariant.1 (let H : Option Modelled → Type 0 = λ m. IfModelled m (λ s. s.node (folder_text folder.Attachments) ≡ AFolder → Contains c.add_there-3.new.names.items folder.Attachments) in subst H (c.in_ok-add_there-2.ensures.same ∙ c.in_ok-add_there.ensures.same) c.in_ok-add_there-3.ensures.there))
    (subst G (sym c.deref-outer-items.ensures.value) (subst F (c.in_ok-add_there-3.ensures.same ∙ c.in_ok-add_there-2.ensures.same ∙ c.in_ok-add_there.ensures.same) c.in_ok-octets.ensures.all)) c.loop-outer-test.false c.loop-outer.invariant.0
