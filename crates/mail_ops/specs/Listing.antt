-- What is replied to requests that list a mailbox.
use Rattle.std.specs.Prelude.{ℕ, List, if◌then◌else◌}
use Rattle.mdbox_base.specs.declared.replies.Refusal.TheVariants as refusal
use Rattle.mdbox_base.specs.declared.replies.Reply.{Reply}
use Rattle.mdbox_base.specs.declared.replies.Reply.TheVariants as reply
use Rattle.model_store.specs.Listing.{listing_of}
use Rattle.store_core.specs.Value.{StoreValue, list_named}

-- the reply to a listing: a store that is stopped replies so, any other what its indexes mean
abbrev pub listing_reply : {D : Type 0} → List ℕ → StoreValue D → Reply
listing_reply name store = if store.stopped then reply.Refused refusal.Stopped else listing_of (list_named store name)
