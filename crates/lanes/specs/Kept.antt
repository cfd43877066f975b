-- What is kept of replies, and how they were given.
use Rattle.std.specs.Prelude.{◌≡◌, ◌<◌, ◌+◌, ◌⊎◌, ℕ, List, [], length, option_map, slice_get, Option, Some}
use Rattle.mdbox_base.specs.declared.replies.Reply.{Reply}
use Rattle.mdbox_base.specs.declared.replies.Reply.TheVariants as reply

-- the reply without its octets or rows
abbrev pub emptied : Reply → Reply
emptied (reply.Fetched octets) = reply.Fetched []
emptied (reply.Listed rows) = reply.Listed []
emptied other = other

-- It is kept as it was given, or without its octets or rows.
abbrev pub IsKeptOf : Option Reply → Option Reply → Type 0
IsKeptOf given kept = (kept ≡ given) ⊎ (kept ≡ option_map emptied given)

-- Of each reply this is kept. Those of the first so many requests, and that of the last, are kept as they were given.
pub record AreKeptOf (first : ℕ) (given kept : List (Option Reply)) : Type 0 where
  pub many : length kept ≡ length given
  pub each : (i : ℕ) (one : Option Reply) → slice_get given i ≡ Some one → (now : Option Reply) × (slice_get kept i ≡ Some now) × IsKeptOf one now
  pub whole : (i : ℕ) → (i < first) ⊎ (i + 1 ≡ length given) → slice_get kept i ≡ slice_get given i

-- Replies as they were given, those of how many requests are kept so to the end, and for how many replies there is room.
pub record RepliesValue : Type 0 where
  pub given : List (Option Reply)
  pub first : ℕ
  pub room : ℕ
