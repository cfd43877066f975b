use Rattle.folder_disk.proofs.Common.{◌≡◌, Bool, true, false, ℕ, List, [], ◌∷◌, ◌++◌, Option, Ok, Err, Contains, get_or, map, codes, string_bytes, refl, sym, ◌∙◌, ap, subst, System, AFolder, Modelled, IfModelled, folder_text, HasOctetNames}
use Rattle.folder_disk.specs.declared.folder_name.FolderName.TheVariants as folder
use Rattle.folder_disk.proofs.EachLemmas.{each_none, each_at}
use Rattle.folder_disk.proofs.ListingLemmas.{told_at, told_more, outer_told}
use Rattle.folder_disk.proofs.listing.add_outer.Goals as goal

pub loop-inner-init : goal.loop-inner-init
loop-inner-init g c =
    (each_none (λ (second : ℕ). IfModelled (g.F.Folder.modelled c.args.folder.now) (λ s. s.node (folder_text (folder.Inner c.args.outer second)) ≡ AFolder → Contains c.add_there.new.names.items (folder.Inner c.args.outer second))) c.deref-inner-items.result.now, λ x has. has, c.in_ok-octets.ensures.same ∙ c.in_ok-add_there.ensures.same, c.in_ok-octets.ensures.still ∙ c.in_ok-add_there.ensures.still)

pub loop-inner-preserved : goal.loop-inner-preserved
loop-inner-preserved g c = (
  each_at (λ (second : ℕ). IfModelled (g.F.Folder.modelled c.args.folder.now) (λ s. s.node (folder_text (folder.Inner c.args.outer second)) ≡ AFolder → Contains c.loop-inner.names.items (folder.Inner c.args.outer second))) (λ (second : ℕ). IfModelled (g.F.Folder.modelled c.args.folder.now) (λ s. s.node (folder_text (folder.Inner c.args.outer second)) ≡ AFolder → Contains c.add_there-in-loop-inner.new.names.items (folder.Inner c.args.outer second))) c.deref-inner-items.result.now c.loop-inner.inner-index 0
      (λ second told. told_more (g.F.Folder.modelled c.args.folder.now) (folder.Inner c.args.outer second) c.loop-inner.names.items c.add_there-in-loop-inner.new.names.items c.in_ok-add_there-2.ensures.keeps told)
      c.loop-inner-test.true c.loop-inner.invariant.0 (told_at (g.F.Folder.modelled c.loop-inner.folder) (g.F.Folder.modelled c.args.folder.now) (folder.Inner c.args.outer (get_or c.deref-inner-items.result.now c.loop-inner.inner-index 0)) c.add_there-in-loop-inner.new.names.items c.loop-inner.invariant.2 c.in_ok-add_there-2.ensures.there),
  λ x has. c.in_ok-add_there-2.ensures.keeps x (c.loop-inner.invariant.1 x has),
  c.in_ok-add_there-2.ensures.same ∙ c.loop-inner.invariant.2,
  c.in_ok-add_there-2.ensures.still ∙ c.loop-inner.invariant.3,
)

pub returns-clause-outer : goal.returns-clause-outer
returns-clause-outer g c =
    let F : Option Modelled → Type 0 = λ m. IfModelled m (λ s. HasOctetNames s (folder_text (folder.Outer c.args.outer)) c.in_ok-octets.octets.items) in
    let G : List ℕ → Type 0 = λ l. IfModelled (g.F.Folder.modelled c.args.folder.now) (λ s. HasOctetNames s (folder_text (folder.Outer c.args.outer)) l) in
    outer_told (g.F.Folder.modelled c.args.folder.now) c.args.outer c.deref-inner-items.result.now c.loop-inner.inner-index c.loop-inner.names.items
    (told_more (g.F.Folder.modelled c.args.folder.now) (folder.Outer c.args.outer) c.add_there.new.names.items c.loop-inner.names.items c.loop-inner.invariant.1 c.in_ok-add_there.ensures.there)
    (subst G (sym c.deref-inner-items.ensures.value) (subst F c.in_ok-add_there.ensures.same c.in_ok-octets.ensures.all)) c.loop-inner-test.false c.loop-inner.invariant.0

pub returns-clause-keeps : goal.returns-clause-keeps
returns-clause-keeps g c = λ x has. c.loop-inner.invariant.1 x (c.in_ok-add_there.ensures.keeps x has)
