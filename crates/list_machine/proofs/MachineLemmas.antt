-- Laws of the list machine: references, and that a refusal changes nothing.
use Rattle.std.specs.Prelude.{◌≡◌, ◌+◌, ℕ, Bool, true, false, List, [], ◌∷◌, find, sum_by, cond, if◌then◌else◌, Option, Some, None, is_none, option_and_then, refl}
use Rattle.std.specs.Option.{option_or}
use Rattle.std.specs.Str.{bytes_eq}
use Rattle.std.proofs.Common.{sym, ◌∙◌, ap, arith}
use Rattle.std.proofs.lemmas.List.Sums.{sum_by-cons, sum_by-append}
use Rattle.model_lists.specs.Lists.{ListedMessage, Mailbox, Lists, refs_of, empty_mailbox, change_first}
use Rattle.mdbox_base.specs.declared.requests.Request.{Request}
use Rattle.mdbox_base.specs.declared.requests.Request.TheVariants as request
use Rattle.mdbox_base.specs.declared.replies.Refusal.{Refusal}
use Rattle.mdbox_base.specs.declared.replies.Refusal.TheVariants.{NoMailbox, Inbox, Exists, NoMessage, TooManyCopies, MailboxFull, TooManyMailboxes, StoreFull}
use Rattle.mdbox_base.specs.declared.replies.Reply.{Reply}
use Rattle.mdbox_base.specs.declared.replies.Reply.TheVariants as reply
use Rattle.list_machine.specs.Run.{EventPart, First, Last, SecondHalf, RunEvent, Run, source_of}
use Rattle.list_machine.specs.Machine.{Check, HasMailbox, IsNotInbox, IsNewName, HasUid, RoomForMailbox, RoomForMessage, NextUid, NextMapUid, NextFiles, TargetFits, NextInstance, NextMailbox, MayBeCopied, refused_where, refusal_at, is_step, Answers, Does, IsCopied, IsDelivered, IsMade, IsSecondHalf, checks_of, first_refusal, refs_added, refs_taken, refs_within, without_first, has_name, is_message_of_uid, mailbox_named, message_at, message_in, message_numbered, set_flags, set_words, expunge, expunge_from, delete_mailbox, rename_mailbox, has_number, add_last, add_message, one_of_guid}

-- what a change of the first that passes does to a sum
sum_change : {X : Type 0} → (f : X → ℕ) (test : X → Bool) (change : X → X) (more less : ℕ) (xs : List X) → ((x : X) → find test xs ≡ Some x → f (change x) + less ≡ f x + more) →
    (find test xs ≡ None → more ≡ less) → sum_by f (change_first test change xs) + less ≡ sum_by f xs + more
sum_change f test change more less [] found none = omega (arith, none refl)
sum_change f test change more less (x ∷ xs) found none =
    by_test (test x) found none (λ p q. sum_change f test change more less xs p q)
  where
    by_test : (b : Bool) → ((y : _) → cond b (Some x) (find test xs) ≡ Some y → f (change y) + less ≡ f y + more) → (cond b (Some x) (find test xs) ≡ None → more ≡ less) →
        (((y : _) → find test xs ≡ Some y → f (change y) + less ≡ f y + more) → (find test xs ≡ None → more ≡ less) → sum_by f (change_first test change xs) + less ≡ sum_by f xs + more) →
        sum_by f (if b then change x ∷ xs else x ∷ change_first test change xs) + less ≡ sum_by f (x ∷ xs) + more
    by_test true found none rest = let h = found x refl in omega (arith, h, sum_by-cons f (change x) xs, sum_by-cons f x xs)
    by_test false found none rest = let h = rest found none in omega (arith, h, sum_by-cons f x (change_first test change xs), sum_by-cons f x xs)

-- what leaving does to it
sum_without : {X : Type 0} → (f : X → ℕ) (test : X → Bool) (less : ℕ) (xs : List X) → ((x : X) → find test xs ≡ Some x → less ≡ f x) →
    (find test xs ≡ None → less ≡ 0) → sum_by f (without_first test xs) + less ≡ sum_by f xs
sum_without f test less [] found none = omega (arith, none refl)
sum_without f test less (x ∷ xs) found none = by_test (test x) found none (λ p q. sum_without f test less xs p q)
  where
    by_test : (b : Bool) → ((y : _) → cond b (Some x) (find test xs) ≡ Some y → less ≡ f y) → (cond b (Some x) (find test xs) ≡ None → less ≡ 0) →
        (((y : _) → find test xs ≡ Some y → less ≡ f y) → (find test xs ≡ None → less ≡ 0) → sum_by f (without_first test xs) + less ≡ sum_by f xs) →
        sum_by f (if b then xs else x ∷ without_first test xs) + less ≡ sum_by f (x ∷ xs)
    by_test true found none rest = let h = found x refl in omega (arith, h, sum_by-cons f x xs)
    by_test false found none rest = let h = rest found none in omega (arith, h, sum_by-cons f x (without_first test xs), sum_by-cons f x xs)

-- the references in a mailbox
abbrev of_guid : List ℕ → ListedMessage → ℕ
of_guid guid message = cond (bytes_eq message.guid guid) 1 0

abbrev refs_in : List ℕ → Mailbox → ℕ
refs_in guid mailbox = sum_by (of_guid guid) mailbox.messages

some_or_none : {X : Type 0} → (o : Option X) (x : X) → o ≡ Some x → o ≡ None → ⊥
some_or_none o x p q = let h : Some x ≡ None = sym p ∙ q in cc h

pub some_one : {X : Type 0} → (o : Option X) (x y : X) → o ≡ Some x → o ≡ Some y → x ≡ y
some_one o x y p q = let h : Some x ≡ Some y = sym p ∙ q in cc h

-- flags are no matter
pub refs_flagged : (old : Lists) (name : List ℕ) (uid flags : ℕ) (guid : List ℕ) → refs_of (set_flags name uid flags old) guid ≡ refs_of old guid
refs_flagged old name uid flags guid =
    let h = sum_change (refs_in guid) (has_name name) (λ (mailbox : Mailbox). record mailbox { messages = change_first (is_message_of_uid uid) (λ message. record message { flags = flags }) mailbox.messages }) 0 0 old
    (λ mailbox e. sum_change (of_guid guid) (is_message_of_uid uid) (λ message. record message { flags = flags }) 0 0 mailbox.messages (λ message e. refl) (λ e. refl)) (λ e. refl) in
    omega (arith, h)

-- nor are keywords
pub refs_worded : (old : Lists) (name : List ℕ) (uid : ℕ) (words : List (List ℕ)) (guid : List ℕ) → refs_of (set_words name uid words old) guid ≡ refs_of old guid
refs_worded old name uid words guid =
    let h = sum_change (refs_in guid) (has_name name) (λ (mailbox : Mailbox). record mailbox { messages = change_first (is_message_of_uid uid) (λ message. record message { words = words }) mailbox.messages }) 0 0 old
    (λ mailbox e. sum_change (of_guid guid) (is_message_of_uid uid) (λ message. record message { words = words }) 0 0 mailbox.messages (λ message e. refl) (λ e. refl)) (λ e. refl) in
    omega (arith, h)

-- one message more
pub refs_added_last : (old : Lists) (name : List ℕ) (message : ListedMessage) (mailbox : Mailbox) (guid : List ℕ) → mailbox_named name old ≡ Some mailbox →
    refs_of (add_message name message old) guid ≡ refs_of old guid + of_guid guid message
refs_added_last old name message mailbox guid here =
    let h = sum_change (refs_in guid) (has_name name) (add_last message) (of_guid guid message) 0 old
    (λ m e. let k = sum_by-append (of_guid guid) m.messages (record message { uid = m.next_uid } ∷ []) in omega (arith, k)) (λ e. absurd (some_or_none _ mailbox here e)) in
    omega (arith, h)

-- one less
one_is_of : (guid : List ℕ) (message : ListedMessage) → one_of_guid guid (Some message) ≡ of_guid guid message
one_is_of guid message = refl

refs_expunged_by : (test : Mailbox → Bool) (old : Lists) (uid : ℕ) (guid : List ℕ)
    → refs_of (change_first test (λ mailbox. record mailbox { messages = without_first (is_message_of_uid uid) mailbox.messages }) old) guid + one_of_guid guid (option_and_then (message_in uid) (find test old)) ≡ refs_of old guid
refs_expunged_by test old uid guid =
    let found : Option ListedMessage = option_and_then (message_in uid) (find test old) in
    let h = sum_change (refs_in guid) test (λ (mailbox : Mailbox). record mailbox { messages = without_first (is_message_of_uid uid) mailbox.messages }) 0 (one_of_guid guid found) old
    (λ m e. let k = sum_without (of_guid guid) (is_message_of_uid uid) (one_of_guid guid found) m.messages
    (λ x f. rw (e, f) refl) (λ f. rw (e, f) refl) in omega (arith, k)) (λ e. rw e refl) in
    omega (arith, h)

pub refs_expunged : (old : Lists) (name : List ℕ) (uid : ℕ) (guid : List ℕ) → refs_of (expunge name uid old) guid + one_of_guid guid (message_at name uid old) ≡ refs_of old guid
refs_expunged old name uid guid = refs_expunged_by (has_name name) old uid guid

-- a mailbox with all that it lists
refs_deleted : (old : Lists) (name guid : List ℕ) → refs_of (delete_mailbox name old) guid + refs_within guid (mailbox_named name old) ≡ refs_of old guid
refs_deleted old name guid = sum_without (refs_in guid) (has_name name) (refs_within guid (mailbox_named name old)) old (λ m e. rw e refl) (λ e. rw e refl)

-- names are no matter
refs_renamed : (old : Lists) (name target guid : List ℕ) → refs_of (rename_mailbox name target old) guid ≡ refs_of old guid
refs_renamed old name target guid =
    let h = sum_change (refs_in guid) (has_name name) (λ (mailbox : Mailbox). record mailbox { name = target }) 0 0 old (λ m e. refl) (λ e. refl) in
    omega (arith, h)

same_lists : (old new : Lists) (guid : List ℕ) → new ≡ old → refs_of new guid + 0 ≡ refs_of old guid + 0
same_lists old new guid e = ap (λ (lists : Lists). refs_of lists guid + 0) e

copied_refs : (old new : Lists) (name : List ℕ) (uid : ℕ) (target : List ℕ) (given : ℕ) (guid : List ℕ) → IsCopied old name uid target given new →
    refs_of new guid + 0 ≡ refs_of old guid + one_of_guid guid (message_at name uid old)
copied_refs old new name uid target given guid c =
    let k = refs_added_last old target c.message c.mailbox guid c.target_is in
    let e : one_of_guid guid (message_at name uid old) ≡ of_guid guid c.message = ap (one_of_guid guid) c.source_is in
    let n : refs_of new guid ≡ refs_of (add_message target c.message old) guid = ap (λ (lists : Lists). refs_of lists guid) c.new_is in
    omega (arith, k, e, n)

delivered_refs : (run : Run) (event : RunEvent) (old new : Lists) (name : List ℕ) (time : ℕ) (octets : List ℕ) (given : ℕ) (own guid : List ℕ) → IsDelivered run event old name time octets given own new →
    refs_of new guid + 0 ≡ refs_of old guid + (if bytes_eq own guid then 1 else 0)
delivered_refs run event old new name time octets given own guid d =
    let k = refs_added_last old name (record { uid = given; flags = 0; time = time; guid = own; octets = octets; words = [] }) d.mailbox guid d.target_is in
    let n = ap (λ (lists : Lists). refs_of lists guid) d.new_is in
    omega (arith, k, n)

made_refs : (run : Run) (event : RunEvent) (old new : Lists) (name guid : List ℕ) → IsMade run event old name new → refs_of new guid + 0 ≡ refs_of old guid + 0
made_refs run event old new name guid m =
    let k = sum_by-append (refs_in guid) old (empty_mailbox m.number name ∷ []) in
    let n = ap (λ (lists : Lists). refs_of lists guid) m.new_is in
    omega (arith, k, n)

half_refs : (old new : Lists) (number : ℕ) (uid : ℕ) (gone : Bool) (guid : List ℕ) → IsSecondHalf old number uid gone new →
    refs_of new guid + one_of_guid guid (message_numbered number uid old) ≡ refs_of old guid + 0
half_refs old new number uid true guid h =
    let e : one_of_guid guid (message_numbered number uid old) ≡ 0 = by_none (message_numbered number uid old) h.0 in
    let n : refs_of new guid ≡ refs_of old guid = ap (λ (lists : Lists). refs_of lists guid) h.1 in
    omega (arith, e, n)
  where
    by_none : (o : Option ListedMessage) → true ≡ is_none o → one_of_guid guid o ≡ 0
    by_none None e = refl
    by_none (Some m) e = cc e
half_refs old new number uid false guid h =
    let k = refs_expunged_by (has_number number) old uid guid in
    let n = ap (λ (lists : Lists). refs_of lists guid) h.1 in
    omega (arith, k, n)

-- What a step does to the references of each GUID, where it isn't refused.
does_refs : (run : Run) (event : RunEvent) (old : Lists) (q : Request) (part : EventPart) (r : Reply) (new : Lists) (guid : List ℕ) → Does run event old q part r new →
    refs_of new guid + refs_taken run event old q part r guid ≡ refs_of old guid + refs_added old q part r guid
does_refs run event old (request.List name) First (reply.Listed rows) new guid d = same_lists old new guid d.3
does_refs run event old (request.Fetch name uid) First (reply.Fetched octets) new guid d = same_lists old new guid d.3
does_refs run event old (request.Flag name uid flags) First reply.Done new guid d =
    let k = refs_flagged old name uid.0 flags guid in let n = ap (λ (lists : Lists). refs_of lists guid) d in omega (arith, k, n)
does_refs run event old (request.Keywords name uid words) First reply.Done new guid d =
    let k = refs_worded old name uid.0 words guid in let n = ap (λ (lists : Lists). refs_of lists guid) d in omega (arith, k, n)
does_refs run event old (request.Make name) Last reply.Done new guid d = made_refs run event old new name guid d
does_refs run event old (request.Deliver name time octets) Last (reply.Saved uid own) new guid d = delivered_refs run event old new name time octets uid.0 own.0 guid d
does_refs run event old (request.Copy name uid target) Last (reply.Copied given) new guid d = copied_refs old new name uid.0 target given.0 guid d
does_refs run event old (request.Move name uid target) Last (reply.Copied given) new guid d = copied_refs old new name uid.0 target given.0 guid d
does_refs run event old (request.Move name uid target) SecondHalf (reply.Moved given gone) new guid d = half_refs old new (source_of event.request run) uid.0 gone guid d.1
does_refs run event old (request.Expunge name uid) First reply.Done new guid d =
    let k = refs_expunged old name uid.0 guid in let n = ap (λ (lists : Lists). refs_of lists guid) d in omega (arith, k, n)
does_refs run event old (request.Delete name) First reply.Done new guid d =
    let k = refs_deleted old name guid in let n = ap (λ (lists : Lists). refs_of lists guid) d in omega (arith, k, n)
does_refs run event old (request.Rename name target) First reply.Done new guid d =
    let k = refs_renamed old name target guid in let n = ap (λ (lists : Lists). refs_of lists guid) d in omega (arith, k, n)
does_refs run event old request.Counts First (reply.Counted records references counts instances) new guid d = same_lists old new guid d.1
does_refs run event old (request.Purge) Last (reply.Purged dropped files instances) new guid d = same_lists old new guid d.1
does_refs run event old (request.Resync) Last (reply.Resynced corrected damaged) new guid d = same_lists old new guid d.1
does_refs run event old q part r new guid d = absurd d

refused_taken : (run : Run) (event : RunEvent) (old : Lists) (q : Request) (part : EventPart) (refusal : Refusal) (guid : List ℕ) → refs_taken run event old q part (reply.Refused refusal) guid ≡ 0
refused_taken run event old (request.Expunge name uid) First refusal guid = refl
refused_taken run event old (request.Move name uid target) SecondHalf refusal guid = refl
refused_taken run event old (request.Delete name) First refusal guid = refl
refused_taken run event old q part refusal guid = refl

refused_added : (old : Lists) (q : Request) (part : EventPart) (refusal : Refusal) (guid : List ℕ) → refs_added old q part (reply.Refused refusal) guid ≡ 0
refused_added old (request.Deliver name time octets) Last refusal guid = refl
refused_added old (request.Copy name uid target) Last refusal guid = refl
refused_added old (request.Move name uid target) Last refusal guid = refl
refused_added old q part refusal guid = refl

-- What a step does to the references of each GUID.
pub answers_refs : (run : Run) (old : Lists) (q : Request) (event : RunEvent) (r : Reply) (new : Lists) (guid : List ℕ) → Answers run old q event r new →
    refs_of new guid + refs_taken run event old q event.part r guid ≡ refs_of old guid + refs_added old q event.part r guid
answers_refs run old q event (reply.Refused refusal) new guid a =
    let same = same_lists old new guid a.1 in
    rw (refused_taken run event old q event.part refusal guid, refused_added old q event.part refusal guid) same
answers_refs run old q event r new guid a = does_refs run event old q event.part r new guid a.1

-- A refusal changes no list.
pub refused_same : (run : Run) (old : Lists) (q : Request) (event : RunEvent) (refusal : Refusal) (new : Lists) → Answers run old q event (reply.Refused refusal) new → new ≡ old
refused_same run old q event refusal new a = a.1

-- a refusal is one of the steps
refused_so : (holds : Bool) (x r : Refusal) → is_step x ≡ true → refused_where holds x ≡ Some r → is_step r ≡ true
refused_so true x r h e = let k : x ≡ r = (let z : Some x ≡ Some r = e in cc z) in rw (← k) h
refused_so false x r h e = absurd (let z : None ≡ Some r = e in cc z)

check_refusal : (run : Run) (old : Lists) (check : Check) (refusal : Refusal) → refusal_at run old check ≡ Some refusal → is_step refusal ≡ true
check_refusal run old (HasMailbox name) r e = refused_so _ NoMailbox r refl e
check_refusal run old (IsNotInbox name) r e = refused_so _ Inbox r refl e
check_refusal run old (IsNewName name) r e = refused_so _ Exists r refl e
check_refusal run old (HasUid name uid) r e = refused_so _ NoMessage r refl e
check_refusal run old RoomForMailbox r e = refused_so _ (TooManyMailboxes 1024) r refl e
check_refusal run old (RoomForMessage name) r e = refused_so _ (MailboxFull 1000000) r refl e
check_refusal run old (NextUid name) r e = refused_so _ (StoreFull 4294967294) r refl e
check_refusal run old NextMapUid r e = refused_so _ (StoreFull 4294967294) r refl e
check_refusal run old (NextFiles many) r e = refused_so _ (StoreFull 4294967294) r refl e
check_refusal run old (TargetFits octets) r e = refused_so _ (StoreFull 4294967294) r refl e
check_refusal run old NextInstance r e = refused_so _ (StoreFull 4294967294) r refl e
check_refusal run old NextMailbox r e = refused_so _ (StoreFull 4294967294) r refl e
check_refusal run old (MayBeCopied name uid) r e = refused_so _ (TooManyCopies 65535) r refl e

first_is_step : (run : Run) (old : Lists) (checks : List Check) (refusal : Refusal) → first_refusal run old checks ≡ Some refusal → is_step refusal ≡ true
first_is_step run old [] r e = absurd (let h : None ≡ Some r = e in cc h)
first_is_step run old (check ∷ checks) r e = by_first (refusal_at run old check) refl e (λ h. first_is_step run old checks r h)
  where
    by_first : (o : Option Refusal) → refusal_at run old check ≡ o → option_or o (first_refusal run old checks) ≡ Some r → (first_refusal run old checks ≡ Some r → is_step r ≡ true) → is_step r ≡ true
    by_first None h e rest = rest e
    by_first (Some x) h e rest = let k : x ≡ r = (let z : Some x ≡ Some r = e in cc z) in rw (← k) (check_refusal run old check x h)

-- A refusal is a step, and where one is due no other answer is.
pub refused_is_step : (run : Run) (old : Lists) (q : Request) (event : RunEvent) (refusal : Refusal) (new : Lists) → Answers run old q event (reply.Refused refusal) new → is_step refusal ≡ true
refused_is_step run old q event refusal new a = first_is_step run old (checks_of run q event) refusal a.0

not_both : (o : Option Refusal) (r : Refusal) → o ≡ Some r → o ≡ None → ⊥
not_both o r p q = let h : Some r ≡ None = sym p ∙ q in cc h

pub refused_alone : (run : Run) (old : Lists) (q : Request) (event : RunEvent) (refusal : Refusal) (r : Reply) (new other : Lists) →
    Answers run old q event (reply.Refused refusal) new → Answers run old q event r other → r ≡ reply.Refused refusal
refused_alone run old q event refusal (reply.Refused second) new other a b =
    let h : Some second ≡ Some refusal = sym b.0 ∙ a.0 in
    let k : second ≡ refusal = cc h in
    ap (λ (x : Refusal). reply.Refused x) k
refused_alone run old q event refusal r new other a b = absurd (not_both _ refusal a.0 b.0)
