-- A request whose mailbox and message are there is done, unless it is hindered.
use Rattle.exercise_course.proofs.Common.{◌≡◌, ◌<◌, ℕ, Bool, true, false, List, [], ◌∷◌, ◌++◌, length, Option, Some, None, is_some, refl, ◌⊎◌, option_map_or, option_or, sym, ◌∙◌, ap, arith, inl, inr, common_steps, Request, Refusal, Reply, ListedMessage, Mailbox, Lists, empty_mailbox, EventPart}
use Rattle.exercise_course.proofs.Common.{First, PlacesInstance, TakesFile, StoresRecord, Last, StartsOver, RunEvent, Run, Answers, Does, add_message, expunge, mailbox_named, message_at, set_flags, is_hindered, is_ok}
use Rattle.std.specs.Prelude.{nat_le, is_none}
use Rattle.mdbox_base.specs.declared.requests.Request.TheVariants as request
use Rattle.mdbox_base.specs.declared.replies.Refusal.TheVariants as refusal
use Rattle.mdbox_base.specs.declared.replies.Reply.TheVariants as reply
use Rattle.list_machine.specs.Run.{SecondHalf}
use Rattle.list_machine.specs.Machine.{Check, HasMailbox, IsNewName, HasUid, RoomForMailbox, RoomForMessage, NextUid, NextMapUid, NextFiles, NextInstance, NextMailbox, MayBeCopied, first_refusal, part_checks, refusal_at, refused_where}

-- ---- checks

-- this check refuses only what is hindered, and so do all of these
abbrev pub IsMild : Run → Lists → Check → Type 0
IsMild run old check = (r : Refusal) → refusal_at run old check ≡ Some r → is_hindered (reply.Refused r) ≡ true

abbrev pub AreMild : Run → Lists → List Check → Type 0
AreMild run old [] = Unit {0}
AreMild run old (check ∷ checks) = IsMild run old check × AreMild run old checks

first_mild : (run : Run) (old : Lists) (checks : List Check) (r : Refusal) → AreMild run old checks → first_refusal run old checks ≡ Some r → is_hindered (reply.Refused r) ≡ true
first_mild run old [] r mild e = absurd (let k : None ≡ Some r = e in cc k)
first_mild run old (check ∷ checks) r mild e = by_first (refusal_at run old check) refl e (λ f. first_mild run old checks r mild.1 f)
  where
    by_first : (o : Option Refusal) → refusal_at run old check ≡ o → option_or o (first_refusal run old checks) ≡ Some r → (first_refusal run old checks ≡ Some r → is_hindered (reply.Refused r) ≡ true) → is_hindered (reply.Refused r) ≡ true
    by_first None f g next = next g
    by_first (Some x) f g next = let k : x ≡ r = (let z : Some x ≡ Some r = g in cc z) in mild.0 r (f ∙ ap Some k)

never : (holds : Bool) (x r : Refusal) → holds ≡ false → refused_where holds x ≡ Some r → ⊥
never true x r h e = let k : true ≡ false = h in cc k
never false x r h e = let k : None ≡ Some r = e in cc k

only_so : (holds : Bool) (x r : Refusal) → refused_where holds x ≡ Some r → is_hindered (reply.Refused x) ≡ true → is_hindered (reply.Refused r) ≡ true
only_so true x r e h = let k : x ≡ r = (let z : Some x ≡ Some r = e in cc z) in ap (λ (y : Refusal). is_hindered (reply.Refused y)) (sym k) ∙ h
only_so false x r e h = absurd (let k : None ≡ Some r = e in cc k)

used_mild : (holds : Bool) (r : Refusal) → refused_where holds (refusal.StoreFull 4294967294) ≡ Some r → is_hindered (reply.Refused r) ≡ true
used_mild holds r e = only_so holds (refusal.StoreFull 4294967294) r e refl

named_mild : (run : Run) (old : Lists) (name : List ℕ) (box : Mailbox) → mailbox_named name old ≡ Some box → IsMild run old (HasMailbox name)
named_mild run old name box here r e = absurd (never (is_none (mailbox_named name old)) refusal.NoMailbox r (ap is_none here) e)

new_mild : (run : Run) (old : Lists) (name : List ℕ) → mailbox_named name old ≡ None → IsMild run old (IsNewName name)
new_mild run old name none r e = absurd (never (is_some (mailbox_named name old)) refusal.Exists r (ap is_some none) e)

uid_mild : (run : Run) (old : Lists) (name : List ℕ) (uid : ℕ) (m : ListedMessage) → message_at name uid old ≡ Some m → IsMild run old (HasUid name uid)
uid_mild run old name uid m here r e = absurd (never (is_none (message_at name uid old)) refusal.NoMessage r (ap is_none here) e)

above_is : (a b : ℕ) → b < a → nat_le a b ≡ false
above_is a b lt = grind (arith, common_steps, lt)

box_mild : (run : Run) (old : Lists) → length old < 1024 → IsMild run old RoomForMailbox
box_mild run old few r e = absurd (never (nat_le 1024 (length old)) (refusal.TooManyMailboxes 1024) r (above_is 1024 (length old) few) e)

room_mild : (run : Run) (old : Lists) (name : List ℕ) (box : Mailbox) → mailbox_named name old ≡ Some box → length box.messages < 1000000 → IsMild run old (RoomForMessage name)
room_mild run old name box here few r e =
    absurd (never (option_map_or (λ (m : Mailbox). nat_le 1000000 (length m.messages)) (mailbox_named name old) false) (refusal.MailboxFull 1000000) r
    (ap (λ (o : Option Mailbox). option_map_or (λ (m : Mailbox). nat_le 1000000 (length m.messages)) o false) here ∙ above_is 1000000 (length box.messages) few) e)

next_mild : (run : Run) (old : Lists) (name : List ℕ) → IsMild run old (NextUid name)
next_mild run old name r e = used_mild _ r e

map_mild : (run : Run) (old : Lists) → IsMild run old NextMapUid
map_mild run old r e = used_mild _ r e

files_mild : (run : Run) (old : Lists) (many : ℕ) → IsMild run old (NextFiles many)
files_mild run old many r e = used_mild _ r e

instance_mild : (run : Run) (old : Lists) → IsMild run old NextInstance
instance_mild run old r e = used_mild _ r e

mailbox_mild : (run : Run) (old : Lists) → IsMild run old NextMailbox
mailbox_mild run old r e = used_mild _ r e

copied_mild : (run : Run) (old : Lists) (name : List ℕ) (uid : ℕ) → IsMild run old (MayBeCopied name uid)
copied_mild run old name uid r e = only_so _ (refusal.TooManyCopies 65535) r e refl

-- ---- requests

-- the mailbox is there, and has room
pub record HasRoom (name : List ℕ) (old : Lists) : Type 0 where
  pub box : Mailbox
  pub here : mailbox_named name old ≡ Some box
  pub few : length box.messages < 1000000

-- the mailbox and the message are there
pub record IsListed (name : List ℕ) (uid : ℕ) (old : Lists) : Type 0 where
  pub box : Mailbox
  pub message : ListedMessage
  pub here : mailbox_named name old ≡ Some box
  pub there : message_at name uid old ≡ Some message

-- A request finds what it asks for.
abbrev pub IsReady : Request → Lists → Type 0
IsReady (request.Make name) old = (mailbox_named name old ≡ None) × (length old < 1024)
IsReady (request.Deliver name time octets) old = HasRoom name old
IsReady (request.Copy name uid target) old = IsListed name uid.0 old × HasRoom target old
IsReady (request.Expunge name uid) old = IsListed name uid.0 old
IsReady (request.Flag name uid flags) old = IsListed name uid.0 old
IsReady other old = ⊥

pub ready_checks : (run : Run) (event : RunEvent) (old : Lists) (q : Request) (part : EventPart) → IsReady q old → AreMild run old (part_checks run event q part)
ready_checks run event old (request.Make name) First h = (new_mild run old name h.0, (box_mild run old h.1, (mailbox_mild run old, tt)))
ready_checks run event old (request.Make name) Last h = (new_mild run old name h.0, (box_mild run old h.1, tt))
ready_checks run event old (request.Make name) StartsOver h = (new_mild run old name h.0, (box_mild run old h.1, tt))
ready_checks run event old (request.Make name) part h = tt
ready_checks run event old (request.Deliver name time octets) First h = (named_mild run old name h.box h.here, (room_mild run old name h.box h.here h.few, (next_mild run old name, (map_mild run old, tt))))
ready_checks run event old (request.Deliver name time octets) PlacesInstance h = (instance_mild run old, tt)
ready_checks run event old (request.Deliver name time octets) (TakesFile true) h = (files_mild run old 1, tt)
ready_checks run event old (request.Deliver name time octets) StoresRecord h = (map_mild run old, tt)
ready_checks run event old (request.Deliver name time octets) Last h = (named_mild run old name h.box h.here, (room_mild run old name h.box h.here h.few, (next_mild run old name, tt)))
ready_checks run event old (request.Deliver name time octets) part h = tt
ready_checks run event old (request.Copy name uid target) First h =
    (named_mild run old name h.0.box h.0.here, (named_mild run old target h.1.box h.1.here, (uid_mild run old name uid.0 h.0.message h.0.there, (room_mild run old target h.1.box h.1.here h.1.few, (next_mild run old target, (copied_mild run old name uid.0, tt))))))
ready_checks run event old (request.Copy name uid target) Last h =
    (named_mild run old name h.0.box h.0.here, (named_mild run old target h.1.box h.1.here, (uid_mild run old name uid.0 h.0.message h.0.there, (room_mild run old target h.1.box h.1.here h.1.few, (next_mild run old target, tt)))))
ready_checks run event old (request.Copy name uid target) StartsOver h =
    (named_mild run old name h.0.box h.0.here, (named_mild run old target h.1.box h.1.here, (uid_mild run old name uid.0 h.0.message h.0.there, (room_mild run old target h.1.box h.1.here h.1.few, (next_mild run old target, tt)))))
ready_checks run event old (request.Copy name uid target) part h = tt
ready_checks run event old (request.Expunge name uid) First h = (named_mild run old name h.box h.here, (uid_mild run old name uid.0 h.message h.there, tt))
ready_checks run event old (request.Expunge name uid) part h = tt
ready_checks run event old (request.Flag name uid flags) First h = (named_mild run old name h.box h.here, (uid_mild run old name uid.0 h.message h.there, tt))
ready_checks run event old (request.Flag name uid flags) part h = tt
ready_checks run event old q part h = absurd h

-- what a request does to the lists: a mailbox's number and a message's GUID may be any
abbrev pub IsDone : Request → Lists → Lists → Type 0
IsDone (request.Make name) old new = (number : ℕ) × (new ≡ old ++ empty_mailbox number name ∷ [])
IsDone (request.Deliver name time octets) old new = (m : ListedMessage) × (m.octets ≡ octets) × (new ≡ add_message name m old)
IsDone (request.Copy name uid target) old new = (m : ListedMessage) × (message_at name uid.0 old ≡ Some m) × (new ≡ add_message target m old)
IsDone (request.Expunge name uid) old new = new ≡ expunge name uid.0 old
IsDone (request.Flag name uid flags) old new = new ≡ set_flags name uid.0 flags old
IsDone other old new = Unit {0}

does_so : (run : Run) (event : RunEvent) (old : Lists) (q : Request) (part : EventPart) (r : Reply) (new : Lists) → Does run event old q part r new → (is_ok r ≡ true) × IsDone q old new
does_so run event old (request.List name) First (reply.Listed rows) new d = (refl, tt)
does_so run event old (request.Fetch name uid) First (reply.Fetched octets) new d = (refl, tt)
does_so run event old (request.Flag name uid flags) First reply.Done new d = (refl, d)
does_so run event old (request.Keywords name uid words) First reply.Done new d = (refl, tt)
does_so run event old (request.Make name) Last reply.Done new d = (refl, (d.number, d.new_is))
does_so run event old (request.Delete name) First reply.Done new d = (refl, tt)
does_so run event old (request.Rename name target) First reply.Done new d = (refl, tt)
does_so run event old (request.Deliver name time octets) Last (reply.Saved uid own) new d = (refl, (record { uid = uid.0; flags = 0; time = time; guid = own.0; octets = octets; words = [] }, refl, d.new_is))
does_so run event old (request.Copy name uid target) Last (reply.Copied given) new d = (refl, (d.message, d.source_is, d.new_is))
does_so run event old (request.Move name uid target) Last (reply.Copied given) new d = (refl, tt)
does_so run event old (request.Move name uid target) SecondHalf (reply.Moved given gone) new d = (refl, tt)
does_so run event old (request.Expunge name uid) First reply.Done new d = (refl, d)
does_so run event old request.Counts First (reply.Counted records references counts instances) new d = (refl, tt)
does_so run event old (request.Purge) Last (reply.Purged dropped files instances) new d = (refl, tt)
does_so run event old (request.Resync) Last (reply.Resynced corrected damaged) new d = (refl, tt)
does_so run event old q part r new d = absurd d

-- A ready request is answered OK and done, or it is hindered.
pub ready_answers : (run : Run) (old : Lists) (q : Request) (event : RunEvent) (r : Reply) (new : Lists) → IsReady q old → Answers run old q event r new → (is_hindered r ≡ true) ⊎ ((is_ok r ≡ true) × IsDone q old new)
ready_answers run old q event (reply.Refused why) new h a = inl (first_mild run old (part_checks run event q event.part) why (ready_checks run event old q event.part h) a.0)
ready_answers run old q event r new h a = inr (does_so run event old q event.part r new a.1)
