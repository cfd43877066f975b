-- What the checks of a make and of a copy refuse.
use Rattle.std.proofs.Common.{◌≡◌, ◌<◌, ◌≤◌, ℕ, true, false, List, [], ◌∷◌, length, Some, None, refl, arith}
use Rattle.std.specs.Prelude.{nat_le, is_some, is_none, All, codes}
use Rattle.std.specs.Str.{bytes_eq}
use Rattle.std.proofs.lemmas.Grind.{common_steps}
use Rattle.mdbox_base.specs.declared.replies.Refusal.TheVariants.{NoMailbox, Inbox, Exists, NoMessage, TooManyCopies, MailboxFull, TooManyMailboxes, StoreFull}
use Rattle.model_lists.specs.Lists.{ListedMessage, Mailbox, Lists, refs_of}
use Rattle.model_meaning.specs.MapMeaning.{count_of}
use Rattle.list_machine.specs.Run.{Run, First, Last, map_of, drawn_of}
use Rattle.list_machine.specs.Machine.{Check, HasMailbox, IsNotInbox, IsNewName, first_refusal, make_checks, copy_checks, mailbox_named, message_at}
use Rattle.plain_lists.specs.AtOnce.{IsAlone}
use Rattle.plain_lists.specs.View.{ListsMade}

le_true : (m n : ℕ) → m ≤ n → nat_le m n ≡ true
le_true m n h = grind (arith, common_steps, h)

le_false : (m n : ℕ) → n < m → nat_le m n ≡ false
le_false m n h = grind (arith, common_steps, h)

-- a make
pub make_exists : (run : Run) (lists : Lists) (name : List ℕ) → is_some (mailbox_named name lists) ≡ true → first_refusal run lists (make_checks name First) ≡ Some Exists
make_exists run lists name h = rw h refl

pub make_full : (run : Run) (lists : Lists) (name : List ℕ) → is_some (mailbox_named name lists) ≡ false → 1024 ≤ length lists → first_refusal run lists (make_checks name First) ≡ Some (TooManyMailboxes 1024)
make_full run lists name h full = rw (h, le_true 1024 (length lists) full) refl

pub make_used_up : (run : Run) (lists : Lists) (name : List ℕ) → is_some (mailbox_named name lists) ≡ false → length lists < 1024 → 4294967294 ≤ (drawn_of run).mailbox →
    first_refusal run lists (make_checks name First) ≡ Some (StoreFull 4294967294)
make_used_up run lists name h room used = rw (h, le_false 1024 (length lists) room, le_true 4294967294 (drawn_of run).mailbox used) refl

pub make_passes : (run : Run) (lists : Lists) (name : List ℕ) → is_some (mailbox_named name lists) ≡ false → length lists < 1024 → (drawn_of run).mailbox < 4294967294 → first_refusal run lists (make_checks name First) ≡ None
make_passes run lists name h room unused = rw (h, le_false 1024 (length lists) room, le_false 4294967294 (drawn_of run).mailbox unused) refl

pub make_last : (run : Run) (lists : Lists) (name : List ℕ) → is_some (mailbox_named name lists) ≡ false → length lists < 1024 → first_refusal run lists (make_checks name Last) ≡ None
make_last run lists name h room = rw (h, le_false 1024 (length lists) room) refl

-- a copy
pub copy_no_source : (run : Run) (lists : Lists) (name : List ℕ) (uid : ℕ) (target : List ℕ) → mailbox_named name lists ≡ None → first_refusal run lists (copy_checks name uid target First) ≡ Some NoMailbox
copy_no_source run lists name uid target h = rw h refl

pub copy_no_target : (run : Run) (lists : Lists) (name : List ℕ) (uid : ℕ) (target : List ℕ) → is_none (mailbox_named name lists) ≡ false → mailbox_named target lists ≡ None →
    first_refusal run lists (copy_checks name uid target First) ≡ Some NoMailbox
copy_no_target run lists name uid target h k = rw (h, k) refl

pub copy_no_message : (run : Run) (lists : Lists) (name : List ℕ) (uid : ℕ) (target : List ℕ) → is_none (mailbox_named name lists) ≡ false → is_none (mailbox_named target lists) ≡ false →
    message_at name uid lists ≡ None → first_refusal run lists (copy_checks name uid target First) ≡ Some NoMessage
copy_no_message run lists name uid target h k m = rw (m, h, k) refl

-- what is known of a copy's mailboxes and message
pub record IsFound (lists : Lists) (name : List ℕ) (uid : ℕ) (target : List ℕ) (source into : Mailbox) (message : ListedMessage) : Type 0 where
  pub source_is : mailbox_named name lists ≡ Some source
  pub target_is : mailbox_named target lists ≡ Some into
  pub message_is : message_at name uid lists ≡ Some message

pub copy_full : (run : Run) (lists : Lists) (name : List ℕ) (uid : ℕ) (target : List ℕ) (source into : Mailbox) (message : ListedMessage) → IsFound lists name uid target source into message →
    1000000 ≤ length into.messages → first_refusal run lists (copy_checks name uid target First) ≡ Some (MailboxFull 1000000)
copy_full run lists name uid target source into message f full =
    rw (f.message_is, f.source_is, f.target_is, le_true 1000000 (length into.messages) full) refl

pub copy_used_up : (run : Run) (lists : Lists) (name : List ℕ) (uid : ℕ) (target : List ℕ) (source into : Mailbox) (message : ListedMessage) → IsFound lists name uid target source into message →
    length into.messages < 1000000 → 4294967294 < into.next_uid → first_refusal run lists (copy_checks name uid target First) ≡ Some (StoreFull 4294967294)
copy_used_up run lists name uid target source into message f room used =
    rw (f.message_is, f.source_is, f.target_is, le_false 1000000 (length into.messages) room, le_true 4294967295 into.next_uid (omega (arith, used))) refl

pub copy_shared : (run : Run) (made : ListsMade) (name : List ℕ) (uid : ℕ) (target : List ℕ) (source into : Mailbox) (message : ListedMessage) → IsFound made.lists name uid target source into message →
    IsAlone run made → length into.messages < 1000000 → into.next_uid ≤ 4294967294 → 65535 ≤ refs_of made.lists message.guid → first_refusal run made.lists (copy_checks name uid target First) ≡ Some (TooManyCopies 65535)
copy_shared run made name uid target source into message f alone room unused shared =
    let kept : 65535 ≤ count_of (map_of run) message.guid = omega (arith, alone.counts message.guid, shared) in
    rw (f.message_is, f.source_is, f.target_is, le_false 1000000 (length into.messages) room, le_false 4294967295 into.next_uid (omega (arith, unused)), le_true 65535 (count_of (map_of run) message.guid) kept) refl

pub copy_passes : (run : Run) (made : ListsMade) (name : List ℕ) (uid : ℕ) (target : List ℕ) (source into : Mailbox) (message : ListedMessage) → IsFound made.lists name uid target source into message →
    IsAlone run made → length into.messages < 1000000 → into.next_uid ≤ 4294967294 → refs_of made.lists message.guid < 65535 → first_refusal run made.lists (copy_checks name uid target First) ≡ None
copy_passes run made name uid target source into message f alone room unused few =
    let kept : count_of (map_of run) message.guid < 65535 = omega (arith, alone.counts message.guid, few) in
    rw (f.message_is, f.source_is, f.target_is, le_false 1000000 (length into.messages) room, le_false 4294967295 into.next_uid (omega (arith, unused)), le_false 65535 (count_of (map_of run) message.guid) kept) refl

pub copy_last : (run : Run) (lists : Lists) (name : List ℕ) (uid : ℕ) (target : List ℕ) (source into : Mailbox) (message : ListedMessage) → IsFound lists name uid target source into message →
    length into.messages < 1000000 → into.next_uid ≤ 4294967294 → first_refusal run lists (copy_checks name uid target Last) ≡ None
copy_last run lists name uid target source into message f room unused =
    rw (f.message_is, f.source_is, f.target_is, le_false 1000000 (length into.messages) room, le_false 4294967295 into.next_uid (omega (arith, unused))) refl

-- a number above the highest that was ever given is above that of each mailbox
pub all_below : (made : ListsMade) (number : ℕ) → All (λ m. m.number ≤ made.highest) made.lists → made.highest < number → All (λ m. m.number < number) made.lists
all_below made number given lt k d within = let r = given k d within in omega (arith, r, lt)

-- a deletion and a renaming
pub inbox_refused : (run : Run) (lists : Lists) (name : List ℕ) (rest : List Check) → is_none (mailbox_named name lists) ≡ false → bytes_eq name (codes "INBOX") ≡ true →
    first_refusal run lists (HasMailbox name ∷ IsNotInbox name ∷ rest) ≡ Some Inbox
inbox_refused run lists name rest h k = rw (h, k) refl

pub delete_passes : (run : Run) (lists : Lists) (name : List ℕ) → is_none (mailbox_named name lists) ≡ false → bytes_eq name (codes "INBOX") ≡ false →
    first_refusal run lists (HasMailbox name ∷ IsNotInbox name ∷ []) ≡ None
delete_passes run lists name h k = rw (h, k) refl

pub rename_exists : (run : Run) (lists : Lists) (name target : List ℕ) → is_none (mailbox_named name lists) ≡ false → bytes_eq name (codes "INBOX") ≡ false → is_some (mailbox_named target lists) ≡ true →
    first_refusal run lists (HasMailbox name ∷ IsNotInbox name ∷ IsNewName target ∷ []) ≡ Some Exists
rename_exists run lists name target h k t = rw (h, k, t) refl

pub rename_passes : (run : Run) (lists : Lists) (name target : List ℕ) → is_none (mailbox_named name lists) ≡ false → bytes_eq name (codes "INBOX") ≡ false → is_some (mailbox_named target lists) ≡ false →
    first_refusal run lists (HasMailbox name ∷ IsNotInbox name ∷ IsNewName target ∷ []) ≡ None
rename_passes run lists name target h k t = rw (h, k, t) refl
