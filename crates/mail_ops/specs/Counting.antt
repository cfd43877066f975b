-- Requests that count what a store has, and what is replied to them.
use Rattle.std.specs.Prelude.{ℕ, List, length, map, sum_by, if◌then◌else◌}
use Rattle.mdbox_base.specs.declared.replies.Refusal.TheVariants as refusal
use Rattle.mdbox_base.specs.declared.replies.Reply.{Reply}
use Rattle.mdbox_base.specs.declared.replies.Reply.TheVariants as reply
use Rattle.mdbox_base.specs.Words.{count_different}
use Rattle.model_meaning.specs.MapMeaning.{MapMeaning, named_instances}
use Rattle.store_core.specs.Value.{StoreValue, indexes_of}

-- the ids of the instances that records name, once for each naming
abbrev pub named_ids : MapMeaning → List (List ℕ)
named_ids m = map (λ instance. instance.id.0) (named_instances m)

-- how many messages mailboxes list
abbrev pub listed_messages : {D : Type 0} → StoreValue D → ℕ
listed_messages store = sum_by (λ m. length m.rows) (indexes_of store.boxes)

-- The reply: the numbers of records and of listed messages, the sum of the counts that are kept, and the number of different
-- instances that records name. A stopped store replies that it is.
abbrev pub counts_reply : {D : Type 0} → StoreValue D → Reply
counts_reply store =
    if store.stopped then reply.Refused refusal.Stopped
    else reply.Counted (length store.map.records) (listed_messages store) (sum_by (λ row. row.count) store.map.records) (count_different (named_ids store.map))
