-- How `purge` ends.
use Rattle.std.specs.Prelude.{◌≡◌, ℕ, List, Option}
use Rattle.disk_model.specs.Disk.{History, Faults, EachImage}
use Rattle.mdbox_base.specs.declared.replies.Refusal.{Refusal}
use Rattle.mdbox_base.specs.declared.replies.Refusal.TheVariants as refusal
use Rattle.mdbox_base.specs.declared.replies.Reply.{Reply}
use Rattle.mdbox_base.specs.declared.replies.Reply.TheVariants as reply
use Rattle.mdbox_base.specs.declared.requests.Request.TheVariants as request
use Rattle.model_lists.specs.Lists.{Lists, AreWellFormed}
use Rattle.model_meaning.specs.BoxMeaning.{BoxMeaning}
use Rattle.model_meaning.specs.MapMeaning.{MapMeaning}
use Rattle.model_store.specs.Listing.{ShowLists}
use Rattle.model_store.specs.Safe.{Safe}
use Rattle.model_store.specs.Settled.{IsSettledFor}
use Rattle.purge_task.specs.Clause.{KeepsRegions}
use Rattle.purge_task.specs.Dropped.{DropsUnwanted}
use Rattle.store_open.specs.Opened.{IsOpenedAs}
use Rattle.store_sweep.specs.Moments.{NoFailedChange}
use Rattle.store_sweep.specs.Swept.{IsSwept}
use Rattle.request_text.specs.declared.outcome.Outcome.{Outcome}
use Rattle.script_run.specs.One.{OpensUnchanged}
use Rattle.script_run.specs.Opening.{StaysSettled}
use Rattle.script_run.specs.Purged.{HasPurgedQuietly, LacksRoom}
use Rattle.script_run.specs.Sealed.{KeepsSealed}
use Rattle.mdbox_top.specs.Served.{RequestOutcome}

-- The files open with logs in which so many records were dropped, none of which was wanted, and each other one keeps all but its place; and
-- which show the lists that these logs showed.
pub record OpensPurged (dropped : ℕ) (m : MapMeaning) (meanings : List BoxMeaning) (new : Option History) : Type 0 where
  pub map : MapMeaning
  pub listings : List BoxMeaning
  pub opens : IsOpenedAs new map listings
  pub drops : DropsUnwanted m map dropped
  pub shows : (lists : Lists) → AreWellFormed lists → ShowLists m.boxes meanings lists → ShowLists map.boxes listings lists

-- its three numbers are replied; or there were no numbers for new storage files, or no room in one, or no memory, a read failed, or a
-- change of the disk did, and the store is stopped
abbrev pub MayReplyPurge : Reply → Type 0
MayReplyPurge (reply.Purged dropped files instances) = Unit {0}
MayReplyPurge (reply.Refused (refusal.StoreFull limit)) = limit ≡ 4294967294
MayReplyPurge (reply.Refused refusal.NoMemory) = Unit {0}
MayReplyPurge (reply.Refused refusal.ReadFault) = Unit {0}
MayReplyPurge (reply.Refused refusal.Stopped) = Unit {0}
MayReplyPurge given = ⊥

-- The reply to a purge, by what the logs mean from which the store opened, whether the files are safe for some lists or not. The opening
-- swept the disk. Where its numbers are replied, it did to the files that the opening left just what a quiet purge does, with these numbers.
-- Where it is refused, the files that it has switched by then are purged, and each record that is there has the octets that it had; and but
-- for a failed call nothing has changed since the opening; for lack of numbers or room it is refused only where these lack for files that
-- the opening left unclean. Unless the store is stopped, a disk that was settled for lists is settled for them
-- again.
pub record IsPurgeReply (old new : Option History) (given : Reply) : Type 0 where
  pub m : MapMeaning
  pub meanings : List BoxMeaning
  pub opened : IsOpenedAs old m meanings
  pub given_is : MayReplyPurge given
  pub generation : ℕ
  pub read : Option History
  pub swept : IsSwept generation m old read
  pub done : (dropped files instances : ℕ) → given ≡ reply.Purged dropped files instances → OpensPurged dropped m meanings new
  pub quiet : (dropped files instances : ℕ) (is : given ≡ reply.Purged dropped files instances) → HasPurgedQuietly dropped files instances read new m (done dropped files instances is).map
  pub refused : (why : Refusal) → given ≡ reply.Refused why → (why ≡ refusal.Stopped → ⊥) → (dropped : ℕ) × OpensPurged dropped m meanings new
  pub kept : (why : Refusal) (is : given ≡ reply.Refused why) (runs : why ≡ refusal.Stopped → ⊥) → KeepsRegions m (refused why is runs).1.map read new
  pub undone : (why : Refusal) → given ≡ reply.Refused why → (why ≡ refusal.ReadFault → ⊥) → (why ≡ refusal.Stopped → ⊥) → OpensUnchanged m meanings old new
  pub room : (limit : ℕ) → given ≡ reply.Refused (refusal.StoreFull limit) → LacksRoom m m.highest.file read
  pub settled : (given ≡ reply.Refused refusal.Stopped → ⊥) → StaysSettled old new

-- How `purge` ends: the reply is printed, which is `OK` and three numbers, or `NO 16 store full`, `NO 17 memory`, `NO 18 read fault` or
-- `NO 19 stopped`; or a prefix of it; or the store was not opened.
abbrev pub PurgeOutcome : Type 0 → Option (List ℕ) → Option (List ℕ) → Option History → Option History → Faults → Faults → Outcome → Type 0
PurgeOutcome D = RequestOutcome D IsPurgeReply request.Purge

-- A crash at any moment leaves a disk that is safe for the lists for which it was settled, whatever fails; and settled or not, sealed
-- storage files stay, of which some may have no record.
pub record PurgeMoments (old new : Option History) : Type 0 where
  pub safe : (lists : Lists) → IsSettledFor lists old → EachImage (λ _ image. Safe image lists) old new
  pub sealed : KeepsSealed old new

-- If no change of the disk failed, a disk that was settled is settled again.
abbrev pub PurgeRests : Type 0 → Faults → Faults → Option History → Option History → Type 0
PurgeRests failed began now old new = NoFailedChange failed began now → StaysSettled old new
