-- The reply to a listing.
use Rattle.std.specs.Prelude.{◌≡◌, ◌⊎◌, ℕ, false, List, Option, Some, None}
use Rattle.std.proofs.Common.{sym, ◌∙◌, ap, inl, inr}
use Rattle.disk_model.specs.Disk.{History}
use Rattle.mdbox_base.specs.declared.replies.Refusal.TheVariants as refusal
use Rattle.mdbox_base.specs.declared.replies.Reply.{Reply}
use Rattle.mdbox_base.specs.declared.replies.Reply.TheVariants as reply
use Rattle.model_meaning.specs.BoxMeaning.{BoxMeaning}
use Rattle.model_store.specs.Listing.{listing_of}
use Rattle.journal.specs.Journal.{is_read_fault}
use Rattle.mdbox_top.specs.ListRun.{IsListReply}

-- it is no read fault, nor that the store is stopped
listing_calm : (found : Option BoxMeaning) (given : Reply) → (given ≡ listing_of found) ⊎ (given ≡ reply.Refused refusal.NoMemory) → is_read_fault (Some given) ≡ false
listing_calm None given (inl e) = ap (λ (r : Reply). is_read_fault (Some r)) e
listing_calm (Some m) given (inl e) = ap (λ (r : Reply). is_read_fault (Some r)) e
listing_calm found given (inr e) = ap (λ (r : Reply). is_read_fault (Some r)) e

listing_runs : (found : Option BoxMeaning) (given : Reply) → (given ≡ listing_of found) ⊎ (given ≡ reply.Refused refusal.NoMemory) → given ≡ reply.Refused refusal.Stopped → ⊥
listing_runs None given (inl e) s = let k : reply.Refused refusal.NoMailbox ≡ reply.Refused refusal.Stopped = sym e ∙ s in let r : refusal.NoMailbox ≡ refusal.Stopped = cc k in cc r
listing_runs (Some m) given (inl e) s = let k : listing_of (Some m) ≡ reply.Refused refusal.Stopped = sym e ∙ s in cc k
listing_runs found given (inr e) s = let k : reply.Refused refusal.NoMemory ≡ reply.Refused refusal.Stopped = sym e ∙ s in let r : refusal.NoMemory ≡ refusal.Stopped = cc k in cc r

pub list_calm : (name : List ℕ) (old new : Option History) (given : Reply) → IsListReply name old new given → is_read_fault (Some given) ≡ false
list_calm name old new given l = listing_calm _ given l.given_is

pub list_runs : (name : List ℕ) (old new : Option History) (given : Reply) → IsListReply name old new given → given ≡ reply.Refused refusal.Stopped → ⊥
list_runs name old new given l = listing_runs _ given l.given_is
