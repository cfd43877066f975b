-- What a request alone of several events makes of a store that it may change.
use Rattle.std.specs.Prelude.{◌≡◌, ◌⊎◌, ℕ, List, Option}
use Rattle.disk_model.specs.Disk.{History, Faults}
use Rattle.mdbox_base.specs.declared.replies.Refusal.TheVariants as refusal
use Rattle.mdbox_base.specs.declared.replies.Reply.{Reply}
use Rattle.mdbox_base.specs.declared.replies.Reply.TheVariants as reply
use Rattle.model_lists.specs.Lists.{Lists, AreWellFormed}
use Rattle.model_meaning.specs.BoxMeaning.{BoxMeaning}
use Rattle.model_meaning.specs.MapMeaning.{MapMeaning}
use Rattle.model_store.specs.Listing.{ShowLists}
use Rattle.model_store.specs.Settled.{IsSettledFor, Leaves}
use Rattle.task_claims.specs.Leaving.{SyncsMail}
use Rattle.store_open.specs.Opened.{IsOpenedAs, KeepsOpenedMail}
use Rattle.store_sweep.specs.Moments.{NoFailedChange}
use Rattle.store_sweep.specs.Swept.{IsSwept}

-- The files open, and of any lists that these logs showed their logs show those that the change makes of them.
pub record OpensChanged (change : Lists → Lists) (m : MapMeaning) (meanings : List BoxMeaning) (new : Option History) : Type 0 where
  pub map : MapMeaning
  pub changed : List BoxMeaning
  pub opened : IsOpenedAs new map changed
  pub shows : (lists : Lists) → AreWellFormed lists → ShowLists m.boxes meanings lists → ShowLists map.boxes changed (change lists)

-- The files open with the same listings, and with the same mailboxes and records of the map, and their counts.
pub record OpensAsBefore (m : MapMeaning) (meanings : List BoxMeaning) (new : Option History) : Type 0 where
  pub map : MapMeaning
  pub opened : IsOpenedAs new map meanings
  pub mailboxes : map.boxes ≡ m.boxes
  pub records : map.records ≡ m.records

-- The opening swept the disk, and storage files and instances stayed at each moment of it and afterwards, whatever failed. Unless the
-- store is stopped, they are as the opening left them, but that their names may be synced.
pub record LeavesMail (m : MapMeaning) (given : Reply) (old new : Option History) : Type 0 where
  pub generation : ℕ
  pub opened : Option History
  pub swept : IsSwept generation m old opened
  pub stays : KeepsOpenedMail old new
  pub mail : (given ≡ reply.Refused refusal.Stopped → ⊥) → SyncsMail opened new

-- A crash at any moment leaves a disk that is safe for the lists for which it was settled, or for those that the change makes
-- of them.
abbrev pub ChangeMoments : (Lists → Lists) → Option History → Option History → Type 0
ChangeMoments change old new = (lists : Lists) → IsSettledFor lists old → Leaves lists (change lists) old new

-- If no change of the disk failed, a disk that was settled for lists is settled for these, or for those that the change makes
-- of them.
abbrev pub ChangeRests : (Lists → Lists) → Type 0 → Faults → Faults → Option History → Option History → Type 0
ChangeRests change failed began now old new = NoFailedChange failed began now → (lists : Lists) → IsSettledFor lists old → IsSettledFor lists new ⊎ IsSettledFor (change lists) new
