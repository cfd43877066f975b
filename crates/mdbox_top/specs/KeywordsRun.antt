-- How `keywords` ends.
use Rattle.std.specs.Prelude.{◌≡◌, ℕ, List, Option}
use Rattle.disk_model.specs.Disk.{History, Faults}
use Rattle.mdbox_base.specs.declared.ids.Uid.{Uid}
use Rattle.mdbox_base.specs.declared.replies.Refusal.{Refusal}
use Rattle.mdbox_base.specs.declared.replies.Refusal.TheVariants as refusal
use Rattle.mdbox_base.specs.declared.replies.Reply.{Reply}
use Rattle.mdbox_base.specs.declared.replies.Reply.TheVariants as reply
use Rattle.mdbox_base.specs.declared.requests.Request.TheVariants as request
use Rattle.model_lists.specs.Lists.{Lists}
use Rattle.list_machine.specs.Machine.{set_words}
use Rattle.model_meaning.specs.BoxMeaning.{BoxMeaning}
use Rattle.model_meaning.specs.MapMeaning.{MapMeaning}
use Rattle.model_store.specs.Listing.{meaning_named}
use Rattle.model_store.specs.Settled.{IsSettledFor}
use Rattle.store_open.specs.Opened.{IsOpenedAs}
use Rattle.request_text.specs.declared.outcome.Outcome.{Outcome}
use Rattle.script_run.specs.One.{IsChangeAnswer, OpensUnchanged, lists_told, missing_cause}
use Rattle.mdbox_top.specs.Changed.{OpensChanged, ChangeMoments, ChangeRests, LeavesMail}
use Rattle.mdbox_top.specs.Served.{RequestOutcome}

-- the lists in which the message has these keywords
abbrev pub lists_with_words : List ℕ → Uid → List (List ℕ) → Lists → Lists
lists_with_words name uid words lists = set_words name uid.0 words lists

-- The reply to the setting of these keywords, by what the logs mean from which the store opened. Where it is refused, or out of
-- memory, the store opens again, with logs that mean the same and the same mail, and the disk was swept. Where it is
-- done, its logs show the lists with the keywords. Unless the store is stopped, a disk that was settled for lists is settled
-- for those that the reply tells, and storage files and instances are left as the opening left them.
pub record IsKeywordsReply (name : List ℕ) (uid : Uid) (words : List (List ℕ)) (old new : Option History) (given : Reply) : Type 0 where
  pub m : MapMeaning
  pub meanings : List BoxMeaning
  pub opened : IsOpenedAs old m meanings
  pub given_is : IsChangeAnswer (missing_cause (meaning_named name m.boxes meanings) uid.0) given
  pub refused : (why : Refusal) → given ≡ reply.Refused why → (why ≡ refusal.Stopped → ⊥) → OpensUnchanged m meanings old new
  pub done : given ≡ reply.Done → OpensChanged (lists_with_words name uid words) m meanings new
  pub settled : (given ≡ reply.Refused refusal.Stopped → ⊥) → (lists : Lists) → IsSettledFor lists old → IsSettledFor (lists_told (request.Keywords name uid words) given lists) new
  pub mail : LeavesMail m given old new

-- How `keywords` ends: the reply is printed, which is `OK`, or `NO 10 no mailbox` or `NO 12 no message` if there is none, or
-- `NO 17 memory`, or `NO 19 stopped`; or a prefix of it; or the store was not opened.
abbrev pub KeywordsOutcome : Type 0 → List ℕ → Uid → List (List ℕ) → Option (List ℕ) → Option (List ℕ) → Option History → Option History → Faults → Faults → Outcome → Type 0
KeywordsOutcome D name uid words = RequestOutcome D (IsKeywordsReply name uid words) (request.Keywords name uid words)

-- A crash at any moment leaves a disk that is safe for the lists for which it was settled, or for those with the keywords,
-- whatever fails.
abbrev pub KeywordsMoments : List ℕ → Uid → List (List ℕ) → Option History → Option History → Type 0
KeywordsMoments name uid words old new = ChangeMoments (lists_with_words name uid words) old new

-- If no change of the disk failed, a disk that was settled for lists is settled for these, or for those with the keywords.
abbrev pub KeywordsRests : List ℕ → Uid → List (List ℕ) → Type 0 → Faults → Faults → Option History → Option History → Type 0
KeywordsRests name uid words failed began now old new = ChangeRests (lists_with_words name uid words) failed began now old new
