-- What a crash may leave of a file that is made anew.
use Rattle.std.specs.Prelude.{IfSome}
use Rattle.std.proofs.Common.{◌≡◌, ◌≢◌, ℕ, ◌<◌, ◌≤◌, List, [], length, Option, Some, None, true, false, All, refl, sym, subst, ap, max, arith}
use Rattle.std.proofs.lemmas.Bool.{cond-true}
use Rattle.disk_model.specs.Disk.{FileState, History, MayLeave, IsThere, Reaches, Keeps, IfTold, AfterFailed, EachImage, after, change, change_all, made, half_made, written, half_written, synced, named, no_file}
use Rattle.disk_model.specs.declared.name.FileName.{FileName}
use Rattle.disk_model.proofs.MomentLemmas.{if_told-all, if_told-map, if_told-after}
use Rattle.disk_model.proofs.OneFileLemmas.{IsAlong, Along, along-begins, along-goes_on, along-fails, along-fails_still, along-named, named-narrows}
use Rattle.disk_model.proofs.ChangeAndSyncLemmas.{changed_state}
use Rattle.disk_model.proofs.FirmLemmas.{keeps_from_firm, end_octets}
use Rattle.disk_model.proofs.BetweenLemmas.{between-after}
use Rattle.storage_files.specs.OnDisk.{OthersAreNamed}

-- the file could be so long before, or is no longer than the text
abbrev pub IsWide : FileName → ℕ → Option History → FileState → Type 0
IsWide name n old f = IfTold old (λ before. f.greatest ≤ max (before name).greatest n)

-- what each image has of the file
abbrev pub P : FileName → ℕ → Option History → Option (List ℕ) → Type 0
P name n old octets = IfTold old (λ before. IfSome octets (λ o. length o ≤ max (before name).greatest n))

wide-begins : (name : FileName) (n : ℕ) (old : Option History) → IfTold old (λ disk. IsWide name n old (disk name))
wide-begins name n None = tt
wide-begins name n (Some old) = omega arith

wide-leaves : (name : FileName) (n : ℕ) (old : Option History) (f : FileState) → IsWide name n old f → (octets : Option (List ℕ)) → MayLeave f octets → P name n old octets
wide-leaves name n old f wide None h = if_told-all _ old (λ before. tt)
wide-leaves name n old f wide (Some octets) h = if_told-map _ _ old (λ before w. let g : length octets ≤ f.greatest = h.greatest in omega (arith, w, g)) wide

pub record Stage (name : FileName) (n : ℕ) (old : Option History) (text : List ℕ) (f : FileState) : Type 0 where
  pub wide : IsWide name n old f
  pub there : f.is_there ≡ true
  pub octets : f.octets ≡ text

made-stage : (name : FileName) (n : ℕ) (old : Option History) (f : FileState) → IsWide name n old f → Stage name n old [] (made f)
made-stage name n old f wide = record { wide = wide; there = refl; octets = refl }

written-wide : (name : FileName) (old : Option History) (text : List ℕ) (f : FileState) → IsWide name (length text) old f → IsWide name (length text) old (written 0 text f)
written-wide name old text f wide = if_told-map _ _ old (λ before w. omega (arith, w)) wide

half_written-wide : (name : FileName) (old : Option History) (text : List ℕ) (f : FileState) → IsWide name (length text) old f → IsWide name (length text) old (half_written 0 (length text) f)
half_written-wide name old text f wide = if_told-map _ _ old (λ before w. omega (arith, w)) wide

written-stage : (name : FileName) (old : Option History) (text : List ℕ) (f : FileState) → Stage name (length text) old [] f → Stage name (length text) old text (written 0 text f)
written-stage name old text f s = record { wide = written-wide name old text f s.wide; there = s.there; octets = end_octets f [] text s.octets }

synced-stage : (name : FileName) (old : Option History) (text : List ℕ) (f : FileState) → Stage name (length text) old text f → Stage name (length text) old text (synced f)
synced-stage name old text f s = record { wide = if_told-all _ old (λ before. let l : length f.octets ≡ length text = ap length s.octets in omega (arith, l)); there = s.there; octets = s.octets }

-- synced, but for the name
pub record Nearly (text : List ℕ) (f : FileState) : Type 0 where
  pub there : f.is_there ≡ true
  pub octets : f.octets ≡ text
  pub least : f.least ≡ length text
  pub greatest : f.greatest ≡ length text
  pub firm : (i : ℕ) → f.is_loose i ≡ false

synced-nearly : (name : FileName) (old : Option History) (text : List ℕ) (f : FileState) → Stage name (length text) old text f → Nearly text (synced f)
synced-nearly name old text f s = record { there = s.there; octets = s.octets; least = ap length s.octets; greatest = ap length s.octets; firm = λ i. refl }

named-keeps : (text : List ℕ) (f : FileState) → All (λ octet. octet < 256) text → Nearly text f → Keeps (named f) text
named-keeps text f are k =
    let e : named f ≡ record f { is_name_loose = false } = cond-true f.is_there (record f { is_name_loose = false }) no_file k.there in
    let F : FileState → Type 0 = λ s. Keeps s text in
    subst F (sym e) (keeps_from_firm (record f { is_name_loose = false }) text (record { there = k.there; octets = k.octets; least = k.least; greatest = k.greatest; firm = λ i l. k.firm i; name = refl; are_octets = are }))

-- the run

along_0 : (name : FileName) (text : List ℕ) (old : Option History) → Along name (P name (length text) old) old old
along_0 name text old = along-begins name (P name (length text) old) old (if_told-map _ _ old (λ disk w. wide-leaves name (length text) old (disk name) w) (wide-begins name (length text) old))

pub fails_1 : (name : FileName) (text : List ℕ) (old new : Option History) → AfterFailed (change name half_made) old new → EachImage (IsAlong name (P name (length text) old) old) old new
fails_1 name text old new failed =
    along-fails name (P name (length text) old) half_made old old new (along_0 name text old) failed
    (if_told-map _ _ old (λ disk w. wide-leaves name (length text) old (half_made (disk name)) w) (wide-begins name (length text) old))

pub stage_1 : (name : FileName) (text : List ℕ) (old h1 : Option History) → h1 ≡ after (change name made) old → IfTold h1 (λ disk. Stage name (length text) old [] (disk name))
stage_1 name text old h1 is1 = changed_state name (IsWide name (length text) old) (Stage name (length text) old []) made old h1 is1 (λ f w. made-stage name (length text) old f w) (wide-begins name (length text) old)

along_1 : (name : FileName) (text : List ℕ) (old h1 : Option History) → h1 ≡ after (change name made) old → Along name (P name (length text) old) old h1
along_1 name text old h1 is1 =
    along-goes_on name (P name (length text) old) made old old h1 (along_0 name text old) is1
    (if_told-map _ _ old (λ disk w. wide-leaves name (length text) old (made (disk name)) w) (wide-begins name (length text) old))

pub fails_2 : (name : FileName) (text : List ℕ) (old h1 new : Option History) → h1 ≡ after (change name made) old → AfterFailed (change name (half_written 0 (length text))) h1 new → EachImage (IsAlong name (P name (length text) old) old) old new
fails_2 name text old h1 new is1 failed =
    along-fails name (P name (length text) old) (half_written 0 (length text)) old h1 new (along_1 name text old h1 is1) failed
    (if_told-map _ _ h1 (λ disk s. wide-leaves name (length text) old (half_written 0 (length text) (disk name)) (half_written-wide name old text (disk name) s.wide)) (stage_1 name text old h1 is1))

pub stage_2 : (name : FileName) (text : List ℕ) (old h1 h2 : Option History) → h1 ≡ after (change name made) old → h2 ≡ after (change name (written 0 text)) h1 → IfTold h2 (λ disk. Stage name (length text) old text (disk name))
stage_2 name text old h1 h2 is1 is2 = changed_state name (Stage name (length text) old []) (Stage name (length text) old text) (written 0 text) h1 h2 is2 (λ f s. written-stage name old text f s) (stage_1 name text old h1 is1)

along_2 : (name : FileName) (text : List ℕ) (old h1 h2 : Option History) → h1 ≡ after (change name made) old → h2 ≡ after (change name (written 0 text)) h1 → Along name (P name (length text) old) old h2
along_2 name text old h1 h2 is1 is2 =
    along-goes_on name (P name (length text) old) (written 0 text) old h1 h2 (along_1 name text old h1 is1) is2
    (if_told-map _ _ h1 (λ disk s. wide-leaves name (length text) old (written 0 text (disk name)) (written-wide name old text (disk name) s.wide)) (stage_1 name text old h1 is1))

pub fails_3 : (name : FileName) (text : List ℕ) (old h1 h2 new : Option History) → h1 ≡ after (change name made) old → h2 ≡ after (change name (written 0 text)) h1 → AfterFailed (λ disk. disk) h2 new → EachImage (IsAlong name (P name (length text) old) old) old new
fails_3 name text old h1 h2 new is1 is2 failed = along-fails_still name (P name (length text) old) old h2 new (along_2 name text old h1 h2 is1 is2) failed

pub along_3 : (name : FileName) (text : List ℕ) (old h1 h2 h3 : Option History) → h1 ≡ after (change name made) old → h2 ≡ after (change name (written 0 text)) h1 → h3 ≡ after (change name synced) h2 → Along name (P name (length text) old) old h3
along_3 name text old h1 h2 h3 is1 is2 is3 =
    along-goes_on name (P name (length text) old) synced old h2 h3 (along_2 name text old h1 h2 is1 is2) is3
    (if_told-map _ _ h2 (λ disk s. wide-leaves name (length text) old (synced (disk name)) (synced-stage name old text (disk name) s).wide) (stage_2 name text old h1 h2 is1 is2))

stage_3 : (name : FileName) (text : List ℕ) (old h1 h2 h3 : Option History) → h1 ≡ after (change name made) old → h2 ≡ after (change name (written 0 text)) h1 → h3 ≡ after (change name synced) h2 → IfTold h3 (λ disk. Stage name (length text) old text (disk name))
stage_3 name text old h1 h2 h3 is1 is2 is3 = changed_state name (Stage name (length text) old text) (Stage name (length text) old text) synced h2 h3 is3 (λ f s. synced-stage name old text f s) (stage_2 name text old h1 h2 is1 is2)

nearly_3 : (name : FileName) (text : List ℕ) (old h1 h2 h3 : Option History) → h1 ≡ after (change name made) old → h2 ≡ after (change name (written 0 text)) h1 → h3 ≡ after (change name synced) h2 → IfTold h3 (λ disk. Nearly text (disk name))
nearly_3 name text old h1 h2 h3 is1 is2 is3 = changed_state name (Stage name (length text) old text) (Nearly text) synced h2 h3 is3 (λ f s. synced-nearly name old text f s) (stage_2 name text old h1 h2 is1 is2)

pub fails_4 : (name : FileName) (text : List ℕ) (old h1 h2 h3 new : Option History) → h1 ≡ after (change name made) old → h2 ≡ after (change name (written 0 text)) h1 → h3 ≡ after (change name synced) h2 → AfterFailed (λ disk. disk) h3 new → EachImage (IsAlong name (P name (length text) old) old) old new
fails_4 name text old h1 h2 h3 new is1 is2 is3 failed = along-fails_still name (P name (length text) old) old h3 new (along_3 name text old h1 h2 h3 is1 is2 is3) failed

pub goes_well : (name : FileName) (text : List ℕ) (old h1 h2 h3 new : Option History) → h1 ≡ after (change name made) old → h2 ≡ after (change name (written 0 text)) h1 → h3 ≡ after (change name synced) h2 → new ≡ after (change_all named) h3
    → EachImage (IsAlong name (P name (length text) old) old) old new
goes_well name text old h1 h2 h3 new is1 is2 is3 is4 =
    along-named name (P name (length text) old) old h3 new (along_3 name text old h1 h2 h3 is1 is2 is3) is4
    (if_told-map _ _ h3 (λ disk s octets h. wide-leaves name (length text) old (disk name) s.wide octets (named-narrows (disk name) octets h)) (stage_3 name text old h1 h2 h3 is1 is2 is3))

pub keeps_then : (name : FileName) (text : List ℕ) (old h1 h2 h3 new : Option History) → All (λ octet. octet < 256) text → h1 ≡ after (change name made) old → h2 ≡ after (change name (written 0 text)) h1 → h3 ≡ after (change name synced) h2 → new ≡ after (change_all named) h3
    → IfTold new (λ now. Keeps (now name) text)
keeps_then name text old h1 h2 h3 new are is1 is2 is3 is4 =
    if_told-after (λ disk. Nearly text (disk name)) (λ disk. Keeps (disk name) text) (change_all named) h3 new is4 (λ disk k. named-keeps text (disk name) are k) (nearly_3 name text old h1 h2 h3 is1 is2 is3)

pub others_then : (name : FileName) (text : List ℕ) (old h1 h2 h3 new : Option History) → h1 ≡ after (change name made) old → h2 ≡ after (change name (written 0 text)) h1 → h3 ≡ after (change name synced) h2 → new ≡ after (change_all named) h3 → OthersAreNamed name old new
others_then name text old h1 h2 h3 new is1 is2 is3 is4 =
    between-after (λ a b. (other : FileName) → other ≢ name → b other ≡ a other) (λ a b. (other : FileName) → other ≢ name → b other ≡ named (a other)) (λ disk. Unit {0}) (change_all named) old h3 new
    (λ a b same t other apart. ap named (same other apart)) (along_3 name text old h1 h2 h3 is1 is2 is3).same (if_told-all _ h3 (λ disk. tt)) is4

-- what the calls ask

pub ask_2 : (name : FileName) (text : List ℕ) (old h1 : Option History) → h1 ≡ after (change name made) old → IfTold h1 (λ disk. Reaches (disk name) 0)
ask_2 name text old h1 is1 = if_told-map _ _ h1 (λ disk s. (s.there, omega arith)) (stage_1 name text old h1 is1)

pub ask_3 : (name : FileName) (text : List ℕ) (old h1 h2 : Option History) → h1 ≡ after (change name made) old → h2 ≡ after (change name (written 0 text)) h1 → IfTold h2 (λ disk. IsThere (disk name))
ask_3 name text old h1 h2 is1 is2 = if_told-map _ _ h2 (λ disk s. s.there) (stage_2 name text old h1 h2 is1 is2)
