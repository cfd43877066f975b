-- A disk over a system, one cut on.
use Rattle.folder_disk.proofs.Common.{◌≡◌, inl, inr, ℕ, ◌<◌, ◌≤◌, true, false, List, ◌∷◌, [], length, take, slice_get, get_or, Option, Some, None, refl, sym, ◌∙◌, ap, subst, arith, ∥∥₁_map, cond-true, false≢true, FileState, History, MayLeave, IfTold, AfterFailed, reading, cut_to, half_cut, after}
use Rattle.folder_disk.proofs.Common.{FileName, path_text, IsStoreFile, own_paths, System, IsHalfCut, with_content, Modelled, HasPassed, Becomes, CoversFile, FollowsSystem, CoversSystem, covered, content_follows, Change, IsChanged, IsPartlyChanged, IsStoreSystem, IsOver, IsDiskOver, told_history}
use Rattle.folder_disk.proofs.Common.{hold_is}
use Rattle.std.proofs.lemmas.Bool.{cases_lt}
use Rattle.std.proofs.lemmas.List.{length-take, places}
use Rattle.std.proofs.lemmas.List.Elements.{All-take}
use Rattle.std.proofs.lemmas.Option.{slice_get-get_or, slice_get_past}
use Rattle.disk_model.specs.Disk.{Reaches, change}
use Rattle.disk_files.specs.Follows.{ChangesAlike}
use Rattle.disk_files.proofs.StepLemmas.{cut-alike}
use Rattle.disk_record.specs.declared.change.Change.TheVariants.{Cut, HalfCut}
use Rattle.folder_disk.proofs.OverLemmas.{so_far, over_goes_on}
use Rattle.folder_disk.proofs.WideLemmas.{Leaves, covers_more, change_leaves, covers_weakened, wider_leaves, failed_wider, failed_after}
use Rattle.folder_disk.proofs.ChangeLemmas.{after_then, by_path, changed_store, failed_store, content_stays}
use Rattle.folder_disk.proofs.SyncLemmas.{passed_covered}

-- an octet before the cut
take_get : (n : ℕ) (xs : List ℕ) (i : ℕ) → i < n → slice_get (take n xs) i ≡ slice_get xs i
take_get n xs i below = elim (cases_lt i (length xs)) [
  | inl within ↦
      let long = length-take n xs in
      let same : get_or (take n xs) i 0 ≡ get_or xs i 0 = grind (arith, places) in
      slice_get-get_or (take n xs) i 0 (omega (arith, long, below, within)) ∙ ap Some same ∙ sym (slice_get-get_or xs i 0 within)
  | inr past ↦
      let long = length-take n xs in
      slice_get_past (take n xs) i (omega (arith, long, past)) ∙ sym (slice_get_past xs i past)
]

-- a cut that failed, as the file reads
abbrev half_cut_as : ℕ → ℕ → FileState → FileState
half_cut_as end n f = record (half_cut n f) { octets = take end f.octets }

half_cut_alike : (n : ℕ) (f g h : FileState) (half : IsHalfCut n g h) → ChangesAlike (half_cut_as half.end n) (λ _. h) f g
half_cut_alike n f g h half = record {
  there = refl;
  loose = refl;
  octets = λ same. ap (take half.end) same ∙ ap (λ (k : FileState). k.octets) (sym half.is);
  covers = λ same covers.
      let F : FileState → Type 0 = CoversFile (half_cut_as half.end n f) in
      subst F (sym half.is) (record {
        least = let a : f.least ≤ g.least = covers.least in omega arith;
        greatest = covers.greatest;
        firm = λ i below is. covers.firm i (omega (arith, below)) is;
        same = λ i below is. ap (λ l. slice_get (take half.end l) i) (sym same);
      });
}

half_cut_leaves : (f : FileState) (n end : ℕ) → n ≤ end → Leaves (half_cut_as end n f) (half_cut n f)
half_cut_leaves f n end least None left = left
half_cut_leaves f n end least (Some text) left = record {
  named = left.named;
  least = left.least;
  greatest = left.greatest;
  same = λ i below firm. left.same i below firm ∙ take_get end f.octets i (omega (arith, below, least));
  are_octets = left.are_octets;
}

cut_reads : (f : FileState) (end : ℕ) → Reaches f end → MayLeave f (reading f) → MayLeave (cut_to end f) (reading (cut_to end f))
cut_reads f end reaches left =
    let there : f.is_there ≡ true = reaches.0 in
    let hold = hold_is f there left in
    let long = length-take end f.octets in
    let least : f.least ≤ length f.octets = hold.least in
    let greatest : length f.octets ≤ f.greatest = hold.greatest in
    let F : Option (List ℕ) → Type 0 = MayLeave (cut_to end f) in
    subst F (sym (cond-true f.is_there (Some (take end f.octets)) None there)) (record {
      named = inl there;
      least = omega (arith, long, least);
      greatest = omega (arith, long, greatest);
      same = λ i below firm. refl;
      are_octets = All-take (λ octet. octet < 256) end f.octets hold.are_octets;
    })

-- a file was cut
pub cut_one : (m n : Modelled) (before after : List System) (changes : List (Change × List ℕ)) (name : FileName) (path : List ℕ) (end : ℕ) (none : List ℕ)
    → IsStoreFile name → path ≡ path_text name → Reaches ((so_far m changes).now name) end
    → IsOver m before changes false → Becomes (IsChanged path (cut_to end)) (Some m) (Some n) → HasPassed (Some m) before (Some n) after
    → IsOver n after ((Cut name end, none) ∷ changes) false
cut_one m n before after changes name path end none file is reaches over becomes has_passed =
    let disk = (so_far m changes).now in
    let next = change name (cut_to end) disk in
    let d = over.is refl in
    let has = by_path path name m.now (λ number. n.now ≡ with_content number (cut_to end) m.now) is becomes.1 in
    let number = has.0 in
    let follows : FollowsSystem next n.now =
    let F : System → Type 0 = FollowsSystem next in
    subst F (sym has.2) (content_follows number (cut_to end) (cut_to end) m.now name disk own_paths d.system.own file has.1 (cut-alike end (disk name) (m.now.content number)) d.follows) in
    let system : IsStoreSystem n.now = let F : System → Type 0 = IsStoreSystem in subst F (sym has.2) (content_stays number (cut_to end) m.now d.system) in
    over_goes_on m n before after changes (Cut name end) none false false over becomes.0
    (passed_covered m n before after changes false next over has_passed)
    (covered next n.now follows)
    (changed_store name (cut_to end) disk file (cut_reads (disk name) end reaches (over.disk.reads name)) over.disk)
    (λ e. record { follows = follows; system = system })

pub cut_over : (old new : Option Modelled) (before after : List System) (changes : List (Change × List ℕ)) (name : FileName) (path : List ℕ) (end : ℕ) (none : List ℕ)
    → IsStoreFile name → path ≡ path_text name → IfTold (told_history old changes) (λ disk. Reaches (disk name) end)
    → ∥ IsDiskOver old before changes false ∥₁ → Becomes (IsChanged path (cut_to end)) old new → HasPassed old before new after
    → ∥ IsDiskOver new after ((Cut name end, none) ∷ changes) false ∥₁
cut_over None new before after changes name path end none file is reaches over becomes has =
    let F : Option Modelled → Type 0 = λ n. ∥ IsDiskOver n after ((Cut name end, none) ∷ changes) false ∥₁ in
    subst F (sym becomes) ∣ tt ∣₁
cut_over (Some m) None before after changes name path end none file is reaches over becomes has = elim becomes [ ]
cut_over (Some m) (Some n) before after changes name path end none file is reaches over becomes has =
    ∥∥₁_map over (λ o. cut_one m n before after changes name path end none file is reaches o becomes has)

-- a cut failed
pub half_cut_one : (m n : Modelled) (before after : List System) (changes : List (Change × List ℕ)) (name : FileName) (path : List ℕ) (end : ℕ) (none : List ℕ)
    → IsStoreFile name → path ≡ path_text name
    → IsOver m before changes false → Becomes (IsPartlyChanged path (IsHalfCut end)) (Some m) (Some n) → HasPassed (Some m) before (Some n) after
    → IsOver n after ((HalfCut name end, none) ∷ changes) true
half_cut_one m n before after changes name path end none file is over becomes has_passed =
    let disk = (so_far m changes).now in
    let next = change name (half_cut end) disk in
    let d = over.is refl in
    let covers : CoversSystem next n.now = elim becomes.1 [
      | inl same ↦
          let F : System → Type 0 = CoversSystem next in
          subst F (sym same) (covers_more disk next m.now (λ k. wider_leaves (disk k) (next k) (failed_wider (HalfCut name end) tt none disk k)) over.now)
      | inr part ↦
          let has = by_path path name m.now _ is part in
          let number = has.0 in
          let f = has.2.0 in
          let half = has.2.1 in
          let step = half_cut_as half.end end in
          let follows = content_follows number step (λ _. f) m.now name disk own_paths d.system.own file has.1 (half_cut_alike end (disk name) (m.now.content number) f half) d.follows in
          let F : System → Type 0 = CoversSystem next in
          subst F (sym has.2.3) (covers_weakened next has.2.2 (with_content number (λ _. f) m.now)
          (covers_more (change name step disk) next (with_content number (λ _. f) m.now)
          (change_leaves name step (half_cut end) disk (half_cut_leaves (disk name) end half.end half.least))
          (covered (change name step disk) (with_content number (λ _. f) m.now) follows)))
    ] in
    over_goes_on m n before after changes (HalfCut name end) none false true over becomes.0
    (passed_covered m n before after changes false next over has_passed)
    covers
    (failed_store (HalfCut name end) none disk tt over.disk)
    (λ e. absurd (false≢true (sym e)))

pub half_cut_over : (old new : Option Modelled) (before after : List System) (changes : List (Change × List ℕ)) (name : FileName) (path : List ℕ) (end : ℕ) (none : List ℕ)
    → IsStoreFile name → path ≡ path_text name
    → ∥ IsDiskOver old before changes false ∥₁ → Becomes (IsPartlyChanged path (IsHalfCut end)) old new → HasPassed old before new after
    → ∥ IsDiskOver new after ((HalfCut name end, none) ∷ changes) true ∥₁
half_cut_over None new before after changes name path end none file is over becomes has =
    let F : Option Modelled → Type 0 = λ n. ∥ IsDiskOver n after ((HalfCut name end, none) ∷ changes) true ∥₁ in
    subst F (sym becomes) ∣ tt ∣₁
half_cut_over (Some m) None before after changes name path end none file is over becomes has = elim becomes [ ]
half_cut_over (Some m) (Some n) before after changes name path end none file is over becomes has =
    ∥∥₁_map over (λ o. half_cut_one m n before after changes name path end none file is o becomes has)

-- a cut that failed, in the words of `Disk`
pub half_cut_then : (name : FileName) (end : ℕ) (old mid new : Option History) → mid ≡ old → new ≡ after (change name (half_cut end)) mid
    → AfterFailed (change name (half_cut end)) old new
half_cut_then name end old mid new same is =
    let F : Option History → Type 0 = AfterFailed (change name (half_cut end)) old in
    subst F (sym (after_then (change name (half_cut end)) old mid new same is)) (failed_after (HalfCut name end) [] old tt)
