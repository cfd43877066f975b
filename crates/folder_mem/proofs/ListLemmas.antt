-- Which paths stand in a folder.
use Rattle.std.proofs.Common.{◌≡◌, ◌≢◌, ◌⊎◌, inl, inr, ℕ, suc, ◌<◌, true, List, [], ◌∷◌, ◌++◌, length, Some, codes, string_bytes, refl, sym, ◌∙◌, ap, subst, arith}
use Rattle.std.proofs.lemmas.Bool.{cases_Bool, cond-true, cond-false}
use Rattle.std.proofs.lemmas.List.Elements.{Contains-push_cases}
use Rattle.disk_model.specs.Name.{same_octets}
use Rattle.disk_model.proofs.NameLemmas.{same_octets-true, same_octets-refl}
use Rattle.folder_model.specs.System.{Node, Nothing, PlainFile, AFolder, System, StandsIn, with_node}
use Rattle.folder_mem.specs.declared.note.Change.{Change}
use Rattle.folder_mem.specs.declared.note.Change.TheVariants.{Locked, Ended, MadeFile, MadeFolder, Removed, Written, Cut, Synced, NamesSynced, SyncFailed}
use Rattle.folder_mem.specs.Notes.{changes_to, empty_system, replayed_from, system_after}
use Rattle.folder_mem.specs.Listing.{path_made, AllStandIn, IsMadeAmong}

pub same_octets-is : (a b : List ℕ) → a ≡ b → same_octets a b ≡ true
same_octets-is a b e = let F : List ℕ → Type 0 = λ l. same_octets a l ≡ true in subst F e (same_octets-refl a)

pub stand-push : (s : System) (folder : List ℕ) (paths : List (List ℕ)) (path : List ℕ) → StandsIn s folder path → AllStandIn s folder paths → AllStandIn s folder (paths ++ path ∷ [])
stand-push s folder paths path stands all p has = elim (Contains-push_cases paths path p has) [
  | inl before ↦ all p before
  | inr is ↦ let F : List ℕ → Type 0 = StandsIn s folder in subst F is stands
]

-- a thing stands where one stood, or where it was put
put_cases : (path own : List ℕ) (node : Node) (s : System) → (with_node own node s).node path ≢ Nothing → (s.node path ≢ Nothing) ⊎ ((own ≡ path) × (node ≢ Nothing))
put_cases path own node s there = elim (cases_Bool (same_octets path own)) [
  | inl is ↦ inr (sym (same_octets-true path own is), λ none. there (cond-true (same_octets path own) node (s.node path) is ∙ none))
  | inr apart ↦ inl (λ none. there (cond-false (same_octets path own) node (s.node path) apart ∙ none))
]

made_here : (change : Change) (s : System) (path : List ℕ) → (changes_to change s).node path ≢ Nothing → (s.node path ≢ Nothing) ⊎ (path_made change ≡ Some path)
made_here Locked s path there = inl there
made_here Ended s path there = inl there
made_here (MadeFile own) s path there = elim (put_cases path (string_bytes own) (PlainFile s.count) s there) [ inl was ↦ inl was | inr is ↦ inr (ap Some is.0) ]
made_here (MadeFolder own) s path there = elim (put_cases path (string_bytes own) AFolder s there) [ inl was ↦ inl was | inr is ↦ inr (ap Some is.0) ]
made_here (Removed own) s path there = elim (put_cases path (string_bytes own) Nothing s there) [ inl was ↦ inl was | inr is ↦ absurd (is.1 refl) ]
made_here (Written number at text) s path there = inl there
made_here (Cut number end) s path there = inl there
made_here (Synced number) s path there = inl there
made_here (NamesSynced folder) s path there = inl there
made_here SyncFailed s path there = inl there

made_since : (changes : List Change) (s : System) (path : List ℕ) → (replayed_from changes s).node path ≢ Nothing → (s.node path ≢ Nothing) ⊎ IsMadeAmong changes path
made_since [] s path there = inl there
made_since (change ∷ changes) s path there = elim (made_since changes (changes_to change s) path there) [
  | inl here ↦ elim (made_here change s path here) [
    | inl was ↦ inl was
    | inr made ↦ inr (0, change, omega arith, refl, made)
  ]
  | inr later ↦ inr (suc later.0, later.1, (let below : later.0 < length changes = later.2 in omega arith), later.3, later.4)
]

-- What stands at a path below the current folder was made there.
pub stands_made : (changes : List Change) (folder path : List ℕ) → StandsIn (system_after changes) folder path → IsMadeAmong changes path
unfolding system_after
stands_made changes folder path stands = elim (made_since changes empty_system path stands.there) [
  | inl was ↦ absurd (was (elim (cases_Bool (same_octets path (codes "."))) [
    | inl is ↦ absurd (stands.below (same_octets-true path (codes ".") is))
    | inr apart ↦ cond-false (same_octets path (codes ".")) AFolder Nothing apart
  ]))
  | inr made ↦ made
]
