-- What an exercise asks for as it begins, and what may keep a request of it from being done.
use Rattle.std.specs.Prelude.{◌≡◌, ◌≤◌, ◌+◌, ℕ, Bool, true, false, length, None}
use Rattle.mdbox_base.specs.declared.replies.Refusal.TheVariants as refusal
use Rattle.mdbox_base.specs.declared.replies.Reply.{Reply}
use Rattle.mdbox_base.specs.declared.replies.Reply.TheVariants as reply
use Rattle.model_lists.specs.Lists.{Lists}
use Rattle.list_machine.specs.Machine.{mailbox_named}
use Rattle.script_text.specs.MadeScript.{lane_name}

-- The mailbox of no lane is there, and there is room for one of each lane: a store has 1,024 at the most.
pub record BeginsFree (lanes : ℕ) (start : Lists) : Type 0 where
  pub free : (lane : ℕ) → 1 ≤ lane → lane ≤ lanes → mailbox_named (lane_name lane) start ≡ None
  pub room : length start + lanes ≤ 1024

-- The store is full, since a number has run out: NO 16.
abbrev pub is_full : Reply → Bool
is_full (reply.Refused (refusal.StoreFull most)) = true
is_full other = false

-- So it is, or there was no memory (NO 17), or a call of the disk failed (NO 18 and NO 19).
abbrev pub is_stopped : Reply → Bool
is_stopped (reply.Refused refusal.NoMemory) = true
is_stopped (reply.Refused refusal.ReadFault) = true
is_stopped (reply.Refused refusal.Stopped) = true
is_stopped other = is_full other

-- So it is, or a message has as many copies as are counted (NO 13).
abbrev pub is_hindered : Reply → Bool
is_hindered (reply.Refused (refusal.TooManyCopies most)) = true
is_hindered other = is_stopped other

-- it isn't NO
abbrev pub is_ok : Reply → Bool
is_ok (reply.Refused why) = false
is_ok other = true
