use Rattle.folder_disk.proofs.Common.{◌≡◌, ◌<◌, ◌++◌, ◌∷◌, [], List, ℕ, Contains, codes, sym, ◌∙◌, ap, subst, refl, encode_lower, KeepsAll}
use Rattle.folder_disk.proofs.ListingLemmas.{keeps_more, added_octet}
use Rattle.folder_disk.proofs.UnseenLemmas.{on_ok_map}
use Rattle.folder_disk.proofs.listing.add_octet.Goals as goal

pub returns-in-Some-clause-keeps : goal.returns-in-Some-clause-keeps
returns-in-Some-clause-keeps c =
    let F : List ℕ → Type 0 = KeepsAll c.args.octets.now.items in
    on_ok_map c.add.result (λ e. subst F (sym e) (keeps_more c.args.octets.now.items c.in-Some.octet)) c.add.ensures

pub returns-in-Some-clause-added : goal.returns-in-Some-clause-added
returns-in-Some-clause-added c =
    on_ok_map c.add.result (λ e. added_octet c.args.path.now c.args.above.now c.args.octets.now.items c.add.new.list.items c.in-Some.octet c.type_inv.octets e c.in-Some.ensures.some) c.add.ensures

pub returns-in-None-clause-keeps : goal.returns-in-None-clause-keeps
returns-in-None-clause-keeps c = λ x has. has

pub returns-in-None-clause-added : goal.returns-in-None-clause-added
returns-in-None-clause-added c = λ octet fits e. absurd (c.in-None.ensures.none octet fits e)
