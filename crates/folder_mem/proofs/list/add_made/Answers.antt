use Rattle.std.proofs.Common.{◌≡◌, ◌∷◌, [], List, ℕ, map, Contains, string_bytes, Global, sym, ◌∙◌, ap, subst, refl}
use Rattle.std.proofs.lemmas.List.{map_push}
use Rattle.std.proofs.lemmas.List.Elements.{Contains-append_left}
use Rattle.folder_mem.specs.Notes.{system_after}
use Rattle.folder_model.specs.System.{StandsIn}
use Rattle.folder_mem.specs.Listing.{AllStandIn}
use Rattle.folder_mem.proofs.ListLemmas.{stand-push}
use Rattle.folder_mem.proofs.list.add_made.Goals as goal

pub returns-in_ok-push-in-MadeFile-clause-stand : goal.returns-in_ok-push-in-MadeFile-clause-stand
returns-in_ok-push-in-MadeFile-clause-stand c =
    let paths = map (string_bytes {Z = Global}) c.args.paths.now.items in
    let text = c.in_ok-from_str-in-MadeFile.field-0 in
    let s = system_after c.args.changes.now in
    let is = ap (map (string_bytes {Z = Global})) c.in_ok-push-in-MadeFile.ensures.items ∙ map_push (string_bytes {Z = Global}) c.args.paths.now.items text in
    let F : List (List ℕ) → Type 0 = AllStandIn s c.args.folder.now in
    let stands : StandsIn s c.args.folder.now (string_bytes text) =
    let e : c.as_str.result.now ≡ string_bytes text = c.as_str.ensures.value ∙ sym c.as_str-then-stands_in.ensures.value ∙ sym c.in_ok-from_str-in-MadeFile.ensures.ok in
    let G : List ℕ → Type 0 = StandsIn s c.args.folder.now in
    subst G e (c.if-stands_in.ensures.yes refl) in
    λ all. subst F (sym is) (stand-push s c.args.folder.now paths (string_bytes text) stands all)

pub returns-in_ok-push-in-MadeFile-clause-kept : goal.returns-in_ok-push-in-MadeFile-clause-kept
returns-in_ok-push-in-MadeFile-clause-kept c = λ path has.
    let paths = map (string_bytes {Z = Global}) c.args.paths.now.items in
    let text = c.in_ok-from_str-in-MadeFile.field-0 in
    let is = ap (map (string_bytes {Z = Global})) c.in_ok-push-in-MadeFile.ensures.items ∙ map_push (string_bytes {Z = Global}) c.args.paths.now.items text in
    let F : List (List ℕ) → Type 0 = λ l. Contains l path in
    subst F (sym is) (Contains-append_left paths (string_bytes text ∷ []) path has)
