use Rattle.folder_disk.proofs.Common.{◌≡◌, Bool, true, false, ℕ, List, [], ◌∷◌, ◌++◌, Option, Ok, Err, Contains, map, codes, string_bytes, refl, sym, ◌∙◌, ap, subst, encode_lower, ◌<◌, IsUtf8, System, ArePathsIn, IfModelled, IfSound, folder_text}
use Rattle.std.proofs.lemmas.Str.{IsUtf8-string_bytes}
use Rattle.folder_disk.proofs.EachLemmas.{each_none, each_more}
use Rattle.folder_disk.proofs.PlaceLemmas.{folder_path_is}
use Rattle.folder_disk.proofs.ListingLemmas.{ListsOctet, octets_told}
use Rattle.folder_disk.proofs.listing.octets_in.Goals as goal

pub paths_in-requires-clause-spelled : goal.paths_in-requires-clause-spelled
paths_in-requires-clause-spelled g c =
    let value = c.as_str.ensures.value in
    let named = c.in_ok-above.ensures in
    let is : c.as_str.result.now ≡ folder_text c.args.name = cc in
    folder_path_is c.args.name c.as_str.result.now c.known_folder.ensures is

pub loop-path-init : goal.loop-path-init
loop-path-init g c = each_none (ListsOctet string_bytes (string_bytes c.in_ok-above.above) c.new-octets.result.items) c.deref-path-items.result.now

pub loop-path-preserved : goal.loop-path-preserved
loop-path-preserved g c =
    let above = string_bytes c.in_ok-above.above in
    each_more (ListsOctet string_bytes above c.loop-path.octets.items) (ListsOctet string_bytes above c.add_octet.new.octets.items) c.deref-path-items.result.now c.loop-path.path-index c.path-item.result
    (λ path lists octet fits e. c.in_ok-add_octet.ensures.keeps octet (lists octet fits e)) c.loop-path-test.true c.path-item.is c.loop-path.invariant
    (λ octet fits e. c.in_ok-add_octet.ensures.added octet fits (c.as_bytes.ensures.value ∙ e ∙ ap (λ l. l ++ (codes "/" ++ encode_lower (octet ∷ []))) (sym c.as_bytes-in-loop-path.ensures.value)))

pub returns-clause-all : goal.returns-clause-all
returns-clause-all g c =
    let above = string_bytes c.in_ok-above.above in
    let F : List ℕ → Type 0 = λ p. IfSound (g.F.Folder.modelled c.args.folder.now) (λ s. ArePathsIn s p (map string_bytes c.in_ok-paths.paths.items)) in
    let G : List _ → Type 0 = λ l. IfSound (g.F.Folder.modelled c.args.folder.now) (λ s. ArePathsIn s above (map string_bytes l)) in
    octets_told string_bytes (g.F.Folder.modelled c.args.folder.now) above (folder_text c.args.name) c.deref-path-items.result.now c.loop-path.path-index c.in_ok-above.above c.loop-path.octets.items (IsUtf8-string_bytes c.in_ok-above.above)
    c.in_ok-above.ensures c.loop-path-test.false c.requires.sound (subst G (sym c.deref-path-items.ensures.value) (subst F c.as_str.ensures.value c.in_ok-paths.ensures.paths)) c.loop-path.invariant
