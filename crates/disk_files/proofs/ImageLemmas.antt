-- What a crash leaves of a system is an image of a disk that follows it.
use Rattle.std.proofs.Common.{◌≡◌, ◌≢◌, ◌⊎◌, inl, inr, ℕ, ◌≤◌, true, false, List, length, Option, Some, None, refl, sym, ◌∙◌, ap, subst, arith}
use Rattle.std.proofs.lemmas.Bool.{cases_Bool, cond-true, cond-false}
use Rattle.disk_model.specs.Disk.{FileState, DiskState, MayHold, MayLeave, reading}
use Rattle.file_paths.specs.Paths.{path_text}
use Rattle.folder_model.specs.Paths.{folder_at}
use Rattle.folder_model.specs.System.{Node, Nothing, PlainFile, AFolder, Another, System, MayStand, IsLeftByCrash}
use Rattle.disk_files.specs.Follows.{octets_at, CoversFile, StaysFolder, Current, Below, FollowsPath, FollowsSystem, CoversSystem}

-- octets that the narrow file may hold, the wide one may
pub covers-hold : (wide narrow : FileState) (octets : List ℕ) → (wide.is_there ≡ true) ⊎ (wide.is_name_loose ≡ true) → CoversFile wide narrow → MayHold narrow octets → MayHold wide octets
covers-hold wide narrow octets named covers holds = record {
  named = named;
  least = let a : wide.least ≤ narrow.least = covers.least in let b : narrow.least ≤ length octets = holds.least in omega arith;
  greatest = let a : narrow.greatest ≤ wide.greatest = covers.greatest in let b : length octets ≤ narrow.greatest = holds.greatest in omega arith;
  same = λ i below firm.
      let a : wide.least ≤ narrow.least = covers.least in
      holds.same i (omega arith) (covers.firm i below firm) ∙ covers.same i below firm;
  are_octets = holds.are_octets;
}

folder_stays : (s after : System) (path : List ℕ) → IsLeftByCrash s after → StaysFolder s path → after.node path ≡ AFolder
folder_stays s after _ left Current = left.current
folder_stays s after _ left (Below path all above) = elim (left.node path) [
  | inl may ↦ all (after.node path) may
  | inr gone ↦ absurd (gone.1 (folder_stays s after (folder_at path) left above))
]

-- whether a file that reads so is there
there_or_not : (f : FileState) (octets : Option (List ℕ)) → reading f ≡ octets → ((f.is_there ≡ true) × (octets ≡ Some f.octets)) ⊎ ((f.is_there ≡ false) × (octets ≡ None))
there_or_not f octets reads = elim (cases_Bool f.is_there) [
  | inl there ↦ inl (there, sym reads ∙ cond-true f.is_there (Some f.octets) None there)
  | inr gone ↦ inr (gone, sym reads ∙ cond-false f.is_there (Some f.octets) None gone)
]

-- no file stands there
left_none : (f : FileState) (s : System) (path : List ℕ) (node : Node) → FollowsPath f s path → MayStand s path node → octets_at s node ≡ None → MayLeave f None
left_none f s path node follows may none = elim (cases_Bool f.is_name_loose) [
  | inl loose ↦ inr loose
  | inr firm ↦
      let is : node ≡ s.node path = follows.firm firm node may in
      elim (there_or_not f (octets_at s (s.node path)) follows.reads) [
        | inl there ↦ absurd (let e : None ≡ Some f.octets = sym none ∙ ap (octets_at s) is ∙ there.1 in cc)
        | inr gone ↦ inl gone.0
      ]
]

-- a file stands there
left_some : (f : FileState) (s : System) (path : List ℕ) (number : ℕ) (octets : List ℕ) → FollowsPath f s path → MayStand s path (PlainFile number)
    → MayHold (s.content number) octets → MayLeave f (Some octets)
left_some f s path number octets follows may holds = covers-hold f (s.content number) octets named (follows.holds number may) holds
  where
    named : (f.is_there ≡ true) ⊎ (f.is_name_loose ≡ true)
    named = elim (cases_Bool f.is_name_loose) [
      | inl loose ↦ inr loose
      | inr firm ↦
          let is : PlainFile number ≡ s.node path = follows.firm firm (PlainFile number) may in
          elim (there_or_not f (octets_at s (s.node path)) follows.reads) [
            | inl there ↦ inl there.0
            | inr gone ↦ absurd (let e : Some (s.content number).octets ≡ None = ap (octets_at s) is ∙ gone.1 in cc)
          ]
    ]

left_at : (f : FileState) (s after : System) (path : List ℕ) (node : Node) → FollowsPath f s path → IsLeftByCrash s after → MayStand s path node → MayLeave f (octets_at after node)
left_at f s after path Nothing follows left may = left_none f s path Nothing follows may refl
left_at f s after path AFolder follows left may = left_none f s path AFolder follows may refl
left_at f s after path Another follows left may = left_none f s path Another follows may refl
left_at f s after path (PlainFile number) follows left may =
    let content = left.content number in
    let F : Option (List ℕ) → Type 0 = MayLeave f in
    subst F (ap (λ (g : FileState). Some g.octets) (sym content.2)) (left_some f s path number content.0 follows may content.1)

-- its folder is gone
left_without : (f : FileState) (s after : System) (path : List ℕ) → FollowsPath f s path → IsLeftByCrash s after → after.node (folder_at path) ≢ AFolder → MayLeave f None
left_without f s after path follows left gone = elim (cases_Bool f.is_name_loose) [
  | inl loose ↦ inr loose
  | inr firm ↦ elim (cases_Bool f.is_there) [
    | inl there ↦ absurd (gone (folder_stays s after (folder_at path) left (follows.stays firm there)))
    | inr none ↦ inl none
  ]
]

pub left_by_crash : (f : FileState) (s after : System) (path : List ℕ) → FollowsPath f s path → IsLeftByCrash s after → MayLeave f (octets_at after (after.node path))
left_by_crash f s after path follows left = elim (left.node path) [
  | inl may ↦ left_at f s after path (after.node path) follows left may
  | inr gone ↦
      let F : Node → Type 0 = λ node. MayLeave f (octets_at after node) in
      subst F (sym gone.0) (left_without f s after path follows left gone.1)
]

pub covered : (disk : DiskState) (s : System) → FollowsSystem disk s → CoversSystem disk s
covered disk s follows after left name file = left_by_crash (disk name) s after (path_text name) (follows name file) left
