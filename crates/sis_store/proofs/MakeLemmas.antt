-- What a crash may leave of a file that is made anew, and that the other files stay.
use Rattle.std.proofs.Common.{◌≡◌, ◌≢◌, ℕ, ◌<◌, List, [], length, Option, true, false, All, refl, subst, sym, ap, arith}
use Rattle.std.proofs.lemmas.Bool.{cond-true}
use Rattle.disk_model.specs.Disk.{FileState, History, IsThere, Reaches, Keeps, IfTold, after, change, change_all, made, written, synced, named, no_file}
use Rattle.disk_model.specs.declared.name.FileName.{FileName}
use Rattle.disk_model.proofs.MomentLemmas.{if_told-all, if_told-map, if_told-after}
use Rattle.disk_model.proofs.OtherFileLemmas.{Apart, apart_begins, apart_goes_on}
use Rattle.disk_model.proofs.ChangeAndSyncLemmas.{changed_state}
use Rattle.disk_model.proofs.FirmLemmas.{keeps_from_firm, end_octets}
use Rattle.disk_model.proofs.BetweenLemmas.{between-after}
use Rattle.sis_store.specs.OnDisk.{OnlyNamesSynced}

-- the file is there and has these octets
pub record Stage (text : List ℕ) (f : FileState) : Type 0 where
  pub there : f.is_there ≡ true
  pub octets : f.octets ≡ text

-- synced, but for the name
pub record Nearly (text : List ℕ) (f : FileState) : Type 0 where
  pub there : f.is_there ≡ true
  pub octets : f.octets ≡ text
  pub least : f.least ≡ length text
  pub greatest : f.greatest ≡ length text
  pub firm : (i : ℕ) → f.is_loose i ≡ false

made-stage : (f : FileState) → Stage [] (made f)
made-stage f = record { there = refl; octets = refl }

written-stage : (text : List ℕ) (f : FileState) → Stage [] f → Stage text (written 0 text f)
written-stage text f s = record { there = s.there; octets = end_octets f [] text s.octets }

synced-nearly : (text : List ℕ) (f : FileState) → Stage text f → Nearly text (synced f)
synced-nearly text f s = record { there = s.there; octets = s.octets; least = ap length s.octets; greatest = ap length s.octets; firm = λ i. refl }

named-keeps : (text : List ℕ) (f : FileState) → All (λ octet. octet < 256) text → Nearly text f → Keeps (named f) text
named-keeps text f are k =
    let e : named f ≡ record f { is_name_loose = false } = cond-true f.is_there (record f { is_name_loose = false }) no_file k.there in
    let F : FileState → Type 0 = λ s. Keeps s text in
    subst F (sym e) (keeps_from_firm (record f { is_name_loose = false }) text (record { there = k.there; octets = k.octets; least = k.least; greatest = k.greatest; firm = λ i l. k.firm i; name = refl; are_octets = are }))

-- what is known of the file after each call

pub stage_1 : (name : FileName) (old h1 : Option History) → h1 ≡ after (change name made) old → IfTold h1 (λ disk. Stage [] (disk name))
stage_1 name old h1 is1 = changed_state name (λ f. Unit {0}) (Stage []) made old h1 is1 (λ f t. made-stage f) (if_told-all _ old (λ disk. tt))

pub stage_2 : (name : FileName) (text : List ℕ) (old h1 h2 : Option History) → h1 ≡ after (change name made) old → h2 ≡ after (change name (written 0 text)) h1 → IfTold h2 (λ disk. Stage text (disk name))
stage_2 name text old h1 h2 is1 is2 = changed_state name (Stage []) (Stage text) (written 0 text) h1 h2 is2 (λ f s. written-stage text f s) (stage_1 name old h1 is1)

nearly_3 : (name : FileName) (text : List ℕ) (old h1 h2 h3 : Option History) → h1 ≡ after (change name made) old → h2 ≡ after (change name (written 0 text)) h1 → h3 ≡ after (change name synced) h2 → IfTold h3 (λ disk. Nearly text (disk name))
nearly_3 name text old h1 h2 h3 is1 is2 is3 = changed_state name (Stage text) (Nearly text) synced h2 h3 is3 (λ f s. synced-nearly text f s) (stage_2 name text old h1 h2 is1 is2)

pub keeps_then : (name : FileName) (text : List ℕ) (old h1 h2 h3 new : Option History) → All (λ octet. octet < 256) text → h1 ≡ after (change name made) old → h2 ≡ after (change name (written 0 text)) h1 → h3 ≡ after (change name synced) h2 → new ≡ after (change_all named) h3
    → IfTold new (λ now. Keeps (now name) text)
keeps_then name text old h1 h2 h3 new are is1 is2 is3 is4 =
    if_told-after (λ disk. Nearly text (disk name)) (λ disk. Keeps (disk name) text) (change_all named) h3 new is4 (λ disk k. named-keeps text (disk name) are k) (nearly_3 name text old h1 h2 h3 is1 is2 is3)

-- the other files

pub apart_2 : (name : FileName) (s1 s2 : FileState → FileState) (old h1 h2 : Option History) → h1 ≡ after (change name s1) old → h2 ≡ after (change name s2) h1 → Apart name old h2
apart_2 name s1 s2 old h1 h2 is1 is2 = apart_goes_on name s2 old h1 h2 (apart_goes_on name s1 old old h1 (apart_begins name old) is1) is2

pub apart_3 : (name : FileName) (s1 s2 s3 : FileState → FileState) (old h1 h2 h3 : Option History) → h1 ≡ after (change name s1) old → h2 ≡ after (change name s2) h1 → h3 ≡ after (change name s3) h2 → Apart name old h3
apart_3 name s1 s2 s3 old h1 h2 h3 is1 is2 is3 = apart_goes_on name s3 old h2 h3 (apart_2 name s1 s2 old h1 h2 is1 is2) is3

-- names are synced after calls on one file
pub others_then : (name : FileName) (old now new : Option History) → Apart name old now → new ≡ after (change_all named) now → OnlyNamesSynced name old new
others_then name old now new apart is =
    between-after (λ a b. (other : FileName) → other ≢ name → b other ≡ a other) (λ a b. (other : FileName) → other ≢ name → b other ≡ named (a other)) (λ disk. Unit {0}) (change_all named) old now new
    (λ a b same t other differs. ap named (same other differs)) apart.same (if_told-all _ now (λ disk. tt)) is

-- what the calls ask

pub ask_2 : (name : FileName) (old h1 : Option History) → h1 ≡ after (change name made) old → IfTold h1 (λ disk. Reaches (disk name) 0)
ask_2 name old h1 is1 = if_told-map _ _ h1 (λ disk s. (s.there, omega arith)) (stage_1 name old h1 is1)

pub ask_3 : (name : FileName) (text : List ℕ) (old h1 h2 : Option History) → h1 ≡ after (change name made) old → h2 ≡ after (change name (written 0 text)) h1 → IfTold h2 (λ disk. IsThere (disk name))
ask_3 name text old h1 h2 is1 is2 = if_told-map _ _ h2 (λ disk s. s.there) (stage_2 name text old h1 h2 is1 is2)
