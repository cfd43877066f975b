-- What a purge alone makes of a store.
use Rattle.std.specs.Prelude.{ℕ, List, [], ◌∷◌, All, Option}
use Rattle.std.specs.List.Sorted.{IsStrictlyIncreasing}
use Rattle.disk_model.specs.Disk.{Between, History, IfTold}
use Rattle.mdbox_base.specs.declared.replies.Refusal.TheVariants as refusal
use Rattle.mdbox_base.specs.declared.replies.Reply.{Reply}
use Rattle.mdbox_base.specs.declared.replies.Reply.TheVariants as reply
use Rattle.mdbox_base.specs.declared.requests.Request.TheVariants as request
use Rattle.model_meaning.specs.MapMeaning.{MapMeaning}
use Rattle.model_store.specs.Settled.{files_of}
use Rattle.journal.specs.Journal.{Requests}
use Rattle.journal.specs.QuietPurge.{IsCleanFile, PurgesQuietly}
use Rattle.purge_task.specs.Clause.{KeepsRegions}
use Rattle.purge_task.specs.Dropped.{DropsUnwanted}
use Rattle.purge_task.specs.Found.{IsFoundFile, LacksTargets, found_numbers}
use Rattle.purge_task.specs.declared.finding.FoundFile.{FoundFile}

-- as far as the disk tells, a purge led from these files and this map's meaning to those, with these numbers
abbrev pub HasPurgedQuietly : ℕ → ℕ → ℕ → Option History → Option History → MapMeaning → MapMeaning → Type 0
HasPurgedQuietly dropped files instances opened now m later = Between (λ old new. PurgesQuietly (files_of old) (files_of new) m later dropped files instances) opened now

-- What a purge made of the files that the opening left and of the map, by its reply: what a quiet purge does, with the reply's numbers. It
-- dropped as many records as the reply says, none of which was wanted; where it is refused, some, and each other one has its octets. Of a
-- store that is stopped nothing is said.
abbrev pub IsPurgeAnswer : Reply → Option History → Option History → MapMeaning → MapMeaning → Type 0
IsPurgeAnswer (reply.Purged dropped files instances) opened now m later = DropsUnwanted m later dropped × HasPurgedQuietly dropped files instances opened now m later
IsPurgeAnswer (reply.Refused refusal.Stopped) opened now m later = Unit {0}
IsPurgeAnswer given opened now m later = (dropped : ℕ) × DropsUnwanted m later dropped × KeepsRegions m later opened now

-- So a purge alone is answered.
abbrev pub IsPurgedAlone : Requests → List Reply → Option History → Option History → MapMeaning → MapMeaning → Type 0
IsPurgedAlone ((lane, request.Purge) ∷ []) (given ∷ []) opened now m later = IsPurgeAnswer given opened now m later
IsPurgedAlone script given opened now m later = Unit {0}

-- There are files that aren't clean, each counted once, whose targets need more numbers than are left behind this one, or of which one
-- has a target that would be too long for a storage file.
pub record LacksRoom (m : MapMeaning) (drawn : ℕ) (opened : Option History) : Type 0 where
  pub files : List FoundFile
  pub rising : IsStrictlyIncreasing (found_numbers files)
  pub unclean : IfTold opened (λ now. All (λ number. IsCleanFile (files_of now) m number → ⊥) (found_numbers files))
  pub each : All (IsFoundFile m) files
  pub lacks : LacksTargets m drawn files

-- So it is where a purge alone is refused for them.
abbrev pub IsRefusedRoomAlone : Requests → List Reply → Option History → MapMeaning → Type 0
IsRefusedRoomAlone ((lane, request.Purge) ∷ []) (reply.Refused (refusal.StoreFull limit) ∷ []) opened m = LacksRoom m m.highest.file opened
IsRefusedRoomAlone script given opened m = Unit {0}
