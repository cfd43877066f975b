-- Laws of the list machine: a step keeps well formed lists so.
use Rattle.std.specs.Prelude.{◌≡◌, ◌≢◌, ◌<◌, ◌≤◌, ◌+◌, ◌^◌, nat_le, ℕ, Bool, true, false, List, [], ◌∷◌, length, find, cond, if◌then◌else◌, Option, Some, None, is_some, option_and_then, All, AllPairs, refl}
use Rattle.std.specs.Option.{option_map_or, option_or}
use Rattle.std.proofs.Common.{sym, ◌∙◌, ap, arith, subst}
use Rattle.std.proofs.lemmas.Grind.{common_steps}
use Rattle.std.proofs.lemmas.List.Elements.{All-nil, All-cons, All-head, All-tail, All-weaker, All-push}
use Rattle.std.proofs.lemmas.List.Kept.{AllPairs-cons}
use Rattle.std.proofs.lemmas.Slice.Eq.{bytes_eq-Decides}
use Rattle.mdbox_base.proofs.KeywordLemmas.{no_words}
use Rattle.mdbox_base.specs.Keywords.{AreWords}
use Rattle.mdbox_base.specs.Words.{IsName}
use Rattle.mdbox_base.specs.declared.requests.Request.{Request}
use Rattle.mdbox_base.specs.declared.requests.Request.TheVariants as request
use Rattle.mdbox_base.specs.declared.replies.Refusal.{Refusal}
use Rattle.mdbox_base.specs.declared.replies.Refusal.TheVariants.{Exists, StoreFull}
use Rattle.mdbox_base.specs.declared.replies.Reply.{Reply}
use Rattle.mdbox_base.specs.declared.replies.Reply.TheVariants as reply
use Rattle.model_lists.specs.Lists.{ListedMessage, Mailbox, Lists, IsMessageInRange, IsMailboxInOrder, AreWellFormed, empty_mailbox, change_first}
use Rattle.list_machine.specs.Run.{EventPart, First, Last, SecondHalf, RunEvent, Run, source_of}
use Rattle.list_machine.specs.Machine.{HasMailbox, IsNotInbox, IsNewName, HasUid, RoomForMailbox, RoomForMessage, NextUid, refused_where, refusal_at, first_refusal, part_checks, Answers, Does, RequestInRange, IsCopied, IsDelivered, IsMade, IsSecondHalf, without_first, has_name, has_number, is_message_of_uid, mailbox_named, message_in, message_at, set_flags, set_words, expunge, expunge_from, delete_mailbox, rename_mailbox, add_last, add_message}
use Rattle.list_machine.proofs.MachineLemmas.{some_one}
use Rattle.model_octets.proofs.PairLemmas.{found_among, pairs_nil, pairs_head, pairs_tail, pairs_push}

-- ---- lists with one element changed, or without it

all_changed : {X : Type 0} → (P : X → Type 0) (test : X → Bool) (change : X → X) (xs : List X) → ((x : X) → find test xs ≡ Some x → P x → P (change x)) → All P xs → All P (change_first test change xs)
all_changed P test change [] keeps a = All-nil P
all_changed P test change (x ∷ xs) keeps a = by_test (test x) keeps (λ more. all_changed P test change xs more (All-tail P x xs a))
  where
    by_test : (b : Bool) → ((y : _) → cond b (Some x) (find test xs) ≡ Some y → P y → P (change y)) → (((y : _) → find test xs ≡ Some y → P y → P (change y)) → All P (change_first test change xs))
        → All P (if b then change x ∷ xs else x ∷ change_first test change xs)
    by_test true more rest = All-cons P (change x) xs (more x refl (All-head P x xs a)) (All-tail P x xs a)
    by_test false more rest = All-cons P x (change_first test change xs) (All-head P x xs a) (rest more)

pairs_changed : {X : Type 0} → (R : X → X → Type 0) (test : X → Bool) (change : X → X) → ((a b : X) → R a b → R (change a) b) → ((a b : X) → R a b → R a (change b)) → (xs : List X) → AllPairs R xs → AllPairs R (change_first test change xs)
pairs_changed R test change left right [] p = pairs_nil R
pairs_changed R test change left right (x ∷ xs) p = by_test (test x) (pairs_changed R test change left right xs (pairs_tail R x xs p))
  where
    by_test : (b : Bool) → AllPairs R (change_first test change xs) → AllPairs R (if b then change x ∷ xs else x ∷ change_first test change xs)
    by_test true rest = AllPairs-cons R (change x) xs (All-weaker (R x) (R (change x)) (left x) xs (pairs_head R x xs p)) (pairs_tail R x xs p)
    by_test false rest = AllPairs-cons R x (change_first test change xs) (all_changed (R x) test change xs (λ y e h. right x y h) (pairs_head R x xs p)) rest

all_without : {X : Type 0} → (P : X → Type 0) (test : X → Bool) (xs : List X) → All P xs → All P (without_first test xs)
all_without P test [] a = All-nil P
all_without P test (x ∷ xs) a = by_test (test x) (all_without P test xs (All-tail P x xs a))
  where
    by_test : (b : Bool) → All P (without_first test xs) → All P (if b then xs else x ∷ without_first test xs)
    by_test true rest = All-tail P x xs a
    by_test false rest = All-cons P x (without_first test xs) (All-head P x xs a) rest

pairs_without : {X : Type 0} → (R : X → X → Type 0) (test : X → Bool) (xs : List X) → AllPairs R xs → AllPairs R (without_first test xs)
pairs_without R test [] p = pairs_nil R
pairs_without R test (x ∷ xs) p = by_test (test x) (pairs_without R test xs (pairs_tail R x xs p))
  where
    by_test : (b : Bool) → AllPairs R (without_first test xs) → AllPairs R (if b then xs else x ∷ without_first test xs)
    by_test true rest = pairs_tail R x xs p
    by_test false rest = AllPairs-cons R x (without_first test xs) (all_without (R x) test xs (pairs_head R x xs p)) rest

-- ---- a mailbox that changes

abbrev Rises : ListedMessage → ListedMessage → Type 0
Rises a b = a.uid < b.uid

abbrev IsBelow : ℕ → ListedMessage → Type 0
IsBelow next message = message.uid < next

-- other messages, in order below the same next UID
with_messages : (mailbox : Mailbox) (messages : List ListedMessage) → IsMailboxInOrder mailbox → AllPairs Rises messages → All (IsBelow mailbox.next_uid) messages → All IsMessageInRange messages → IsMailboxInOrder (record mailbox { messages = messages })
with_messages mailbox messages o rising below in_range = record {
  number_some = o.number_some;
  number_fits = o.number_fits;
  name = o.name;
  next_some = o.next_some;
  next_fits = o.next_fits;
  rising = rising;
  below = below;
  in_range = in_range;
}

flagged_fits : (message : ListedMessage) (flags : ℕ) → flags ≤ 31 → IsMessageInRange message → IsMessageInRange (record message { flags = flags })
flagged_fits message flags le f = record { uid_some = f.uid_some; uid_fits = f.uid_fits; flags = le; time = f.time; guid = f.guid; size = f.size; words = f.words }

flagged_in_order : (mailbox : Mailbox) (uid flags : ℕ) → flags ≤ 31 → IsMailboxInOrder mailbox → IsMailboxInOrder (record mailbox { messages = change_first (is_message_of_uid uid) (λ message. record message { flags = flags }) mailbox.messages })
flagged_in_order mailbox uid flags le o =
    with_messages mailbox (change_first (is_message_of_uid uid) (λ message. record message { flags = flags }) mailbox.messages) o
    (pairs_changed Rises (is_message_of_uid uid) (λ message. record message { flags = flags }) (λ a b h. h) (λ a b h. h) mailbox.messages o.rising)
    (all_changed (IsBelow mailbox.next_uid) (is_message_of_uid uid) (λ message. record message { flags = flags }) mailbox.messages (λ x e h. h) o.below)
    (all_changed IsMessageInRange (is_message_of_uid uid) (λ message. record message { flags = flags }) mailbox.messages (λ x e h. flagged_fits x flags le h) o.in_range)

worded_fits : (message : ListedMessage) (words : List (List ℕ)) → AreWords words → IsMessageInRange message → IsMessageInRange (record message { words = words })
worded_fits message words are f = record { uid_some = f.uid_some; uid_fits = f.uid_fits; flags = f.flags; time = f.time; guid = f.guid; size = f.size; words = are }

worded_in_order : (mailbox : Mailbox) (uid : ℕ) (words : List (List ℕ)) → AreWords words → IsMailboxInOrder mailbox → IsMailboxInOrder (record mailbox { messages = change_first (is_message_of_uid uid) (λ message. record message { words = words }) mailbox.messages })
worded_in_order mailbox uid words are o =
    with_messages mailbox (change_first (is_message_of_uid uid) (λ message. record message { words = words }) mailbox.messages) o
    (pairs_changed Rises (is_message_of_uid uid) (λ message. record message { words = words }) (λ a b h. h) (λ a b h. h) mailbox.messages o.rising)
    (all_changed (IsBelow mailbox.next_uid) (is_message_of_uid uid) (λ message. record message { words = words }) mailbox.messages (λ x e h. h) o.below)
    (all_changed IsMessageInRange (is_message_of_uid uid) (λ message. record message { words = words }) mailbox.messages (λ x e h. worded_fits x words are h) o.in_range)

expunged_in_order : (mailbox : Mailbox) (uid : ℕ) → IsMailboxInOrder mailbox → IsMailboxInOrder (record mailbox { messages = without_first (is_message_of_uid uid) mailbox.messages })
expunged_in_order mailbox uid o =
    with_messages mailbox (without_first (is_message_of_uid uid) mailbox.messages) o (pairs_without Rises (is_message_of_uid uid) mailbox.messages o.rising)
    (all_without (IsBelow mailbox.next_uid) (is_message_of_uid uid) mailbox.messages o.below) (all_without IsMessageInRange (is_message_of_uid uid) mailbox.messages o.in_range)

-- what is in range of a message whatever its UID
record IsContentInRange (message : ListedMessage) : Type 0 where
  flags : message.flags ≤ 31
  time : message.time < 2 ^ 64
  guid : length message.guid ≡ 16
  size : length message.octets ≤ 67108864
  words : AreWords message.words

added_in_order : (mailbox : Mailbox) (message : ListedMessage) → mailbox.next_uid ≤ 4294967294 → IsContentInRange message → IsMailboxInOrder mailbox → IsMailboxInOrder (add_last message mailbox)
added_in_order mailbox message le f o =
    let some = o.next_some in
    let last : ListedMessage = record message { uid = mailbox.next_uid } in
    record {
      number_some = o.number_some;
      number_fits = o.number_fits;
      name = o.name;
      next_some = omega arith;
      next_fits = omega (arith, le);
      rising = pairs_push Rises mailbox.messages last o.rising o.below;
      below = All-push (IsBelow (mailbox.next_uid + 1)) mailbox.messages last (All-weaker (IsBelow mailbox.next_uid) (IsBelow (mailbox.next_uid + 1)) (λ x h. omega (arith, h)) mailbox.messages o.below) (omega arith);
      in_range = All-push IsMessageInRange mailbox.messages last o.in_range (record { uid_some = some; uid_fits = le; flags = f.flags; time = f.time; guid = f.guid; size = f.size; words = f.words });
    }

empty_in_order : (number : ℕ) (name : List ℕ) → 1 ≤ number → number ≤ 4294967294 → IsName name → IsMailboxInOrder (empty_mailbox number name)
empty_in_order number name some fits is_name = record {
  number_some = some;
  number_fits = fits;
  name = is_name;
  next_some = omega arith;
  next_fits = omega arith;
  rising = pairs_nil Rises;
  below = All-nil (IsBelow 1);
  in_range = All-nil IsMessageInRange;
}

-- ---- lists in which a mailbox changes

abbrev NamesDiffer : Mailbox → Mailbox → Type 0
NamesDiffer a b = a.name ≢ b.name

abbrev NumbersRise : Mailbox → Mailbox → Type 0
NumbersRise a b = a.number < b.number

-- a change of one mailbox that keeps its name, its number and its order
record KeepsMailbox (lists : Lists) (test : Mailbox → Bool) (change : Mailbox → Mailbox) : Type 0 where
  name : (mailbox : Mailbox) → (change mailbox).name ≡ mailbox.name
  number : (mailbox : Mailbox) → (change mailbox).number ≡ mailbox.number
  order : (mailbox : Mailbox) → find test lists ≡ Some mailbox → IsMailboxInOrder mailbox → IsMailboxInOrder (change mailbox)

changed_well : (lists : Lists) (test : Mailbox → Bool) (change : Mailbox → Mailbox) → KeepsMailbox lists test change → AreWellFormed lists → AreWellFormed (change_first test change lists)
changed_well lists test change k w = record {
  names = pairs_changed NamesDiffer test change (λ a b h e. h (sym (k.name a) ∙ e)) (λ a b h e. h (e ∙ k.name b)) lists w.names;
  numbers = pairs_changed NumbersRise test change (λ a b h. let n = k.number a in omega (arith, h, n)) (λ a b h. let n = k.number b in omega (arith, h, n)) lists w.numbers;
  each = all_changed IsMailboxInOrder test change lists k.order w.each;
}

flagged_well : (lists : Lists) (name : List ℕ) (uid flags : ℕ) → flags ≤ 31 → AreWellFormed lists → AreWellFormed (set_flags name uid flags lists)
flagged_well lists name uid flags le w =
    changed_well lists (has_name name) (λ (mailbox : Mailbox). record mailbox { messages = change_first (is_message_of_uid uid) (λ message. record message { flags = flags }) mailbox.messages })
    (record { name = λ m. refl; number = λ m. refl; order = λ m e o. flagged_in_order m uid flags le o }) w

worded_well : (lists : Lists) (name : List ℕ) (uid : ℕ) (words : List (List ℕ)) → AreWords words → AreWellFormed lists → AreWellFormed (set_words name uid words lists)
worded_well lists name uid words are w =
    changed_well lists (has_name name) (λ (mailbox : Mailbox). record mailbox { messages = change_first (is_message_of_uid uid) (λ message. record message { words = words }) mailbox.messages })
    (record { name = λ m. refl; number = λ m. refl; order = λ m e o. worded_in_order m uid words are o }) w

expunged_well : (lists : Lists) (test : Mailbox → Bool) (uid : ℕ) → AreWellFormed lists → AreWellFormed (change_first test (λ mailbox. record mailbox { messages = without_first (is_message_of_uid uid) mailbox.messages }) lists)
expunged_well lists test uid w =
    changed_well lists test (λ (mailbox : Mailbox). record mailbox { messages = without_first (is_message_of_uid uid) mailbox.messages })
    (record { name = λ m. refl; number = λ m. refl; order = λ m e o. expunged_in_order m uid o }) w

deleted_well : (lists : Lists) (name : List ℕ) → AreWellFormed lists → AreWellFormed (delete_mailbox name lists)
deleted_well lists name w = record {
  names = pairs_without NamesDiffer (has_name name) lists w.names;
  numbers = pairs_without NumbersRise (has_name name) lists w.numbers;
  each = all_without IsMailboxInOrder (has_name name) lists w.each;
}

-- the mailbox with another name
abbrev with_name : List ℕ → Mailbox → Mailbox
with_name target mailbox = record mailbox { name = target }

renamed_in_order : (target : List ℕ) (mailbox : Mailbox) → IsName target → IsMailboxInOrder mailbox → IsMailboxInOrder (with_name target mailbox)
renamed_in_order target mailbox n o = record {
  number_some = o.number_some;
  number_fits = o.number_fits;
  name = n;
  next_some = o.next_some;
  next_fits = o.next_fits;
  rising = o.rising;
  below = o.below;
  in_range = o.in_range;
}

renamed_names : (target : List ℕ) (test : Mailbox → Bool) (lists : Lists) → All (λ mailbox. mailbox.name ≢ target) lists → AllPairs NamesDiffer lists → AllPairs NamesDiffer (change_first test (with_name target) lists)
renamed_names target test [] new p = pairs_nil NamesDiffer
renamed_names target test (x ∷ xs) new p = by_test (test x) (renamed_names target test xs (All-tail IsOther x xs new) (pairs_tail NamesDiffer x xs p))
  where
    IsOther : Mailbox → Type 0
    IsOther mailbox = mailbox.name ≢ target

    by_test : (b : Bool) → AllPairs NamesDiffer (change_first test (with_name target) xs) → AllPairs NamesDiffer (if b then with_name target x ∷ xs else x ∷ change_first test (with_name target) xs)
    by_test true rest =
        AllPairs-cons NamesDiffer (with_name target x) xs (All-weaker IsOther (NamesDiffer (with_name target x)) (λ y h e. h (sym e)) xs (All-tail IsOther x xs new)) (pairs_tail NamesDiffer x xs p)
    by_test false rest =
        AllPairs-cons NamesDiffer x (change_first test (with_name target) xs) (all_changed (NamesDiffer x) test (with_name target) xs (λ y e h. All-head IsOther x xs new) (pairs_head NamesDiffer x xs p)) rest

renamed_well : (lists : Lists) (name target : List ℕ) → IsName target → All (λ mailbox. mailbox.name ≢ target) lists → AreWellFormed lists → AreWellFormed (rename_mailbox name target lists)
renamed_well lists name target n new w = record {
  names = renamed_names target (has_name name) lists new w.names;
  numbers = pairs_changed NumbersRise (has_name name) (with_name target) (λ a b h. h) (λ a b h. h) lists w.numbers;
  each = all_changed IsMailboxInOrder (has_name name) (with_name target) lists (λ m e o. renamed_in_order target m n o) w.each;
}

added_well : (lists : Lists) (name : List ℕ) (message : ListedMessage) (mailbox : Mailbox) → mailbox_named name lists ≡ Some mailbox → mailbox.next_uid ≤ 4294967294 → IsContentInRange message → AreWellFormed lists
    → AreWellFormed (add_message name message lists)
added_well lists name message mailbox here le f w =
    changed_well lists (has_name name) (add_last message)
    (record {
      name = λ m. refl;
      number = λ m. refl;
      order = λ m e o. added_in_order m message (subst (λ (x : Mailbox). x.next_uid ≤ 4294967294) (some_one (mailbox_named name lists) mailbox m here e) le) f o;
    }) w

-- ---- what checks say that don't refuse

or_none : (a b : Option Refusal) → option_or a b ≡ None → (a ≡ None) × (b ≡ None)
or_none None b e = (refl, e)
or_none (Some x) b e = absurd (let h : Some x ≡ None = e in cc h)

not_refused : (holds : Bool) (x : Refusal) → refused_where holds x ≡ None → holds ≡ false
not_refused true x e = absurd (let h : Some x ≡ None = e in cc h)
not_refused false x e = refl

below_is : (a b : ℕ) → nat_le a b ≡ false → b < a
below_is a b e = grind (arith, common_steps, e)

-- a mailbox whose next UID isn't refused
next_fits : (run : Run) (old : Lists) (name : List ℕ) (mailbox : Mailbox) → mailbox_named name old ≡ Some mailbox → refusal_at run old (NextUid name) ≡ None → mailbox.next_uid ≤ 4294967294
next_fits run old name mailbox here e =
    let test : option_map_or (λ (m : Mailbox). nat_le 4294967295 m.next_uid) (mailbox_named name old) false ≡ false = not_refused _ (StoreFull 4294967294) e in
    let found : option_map_or (λ (m : Mailbox). nat_le 4294967295 m.next_uid) (mailbox_named name old) false ≡ nat_le 4294967295 mailbox.next_uid =
    ap (λ (o : Option Mailbox). option_map_or (λ (m : Mailbox). nat_le 4294967295 m.next_uid) o false) here in
    let less : mailbox.next_uid < 4294967295 = below_is 4294967295 mailbox.next_uid (sym found ∙ test) in
    omega (arith, less)

none_found : {X : Type 0} → (test : X → Bool) (xs : List X) → is_some (find test xs) ≡ false → All (λ x. test x ≡ false) xs
none_found test [] e = All-nil (λ x. test x ≡ false)
none_found test (x ∷ xs) e = by_test (test x) refl e (λ f. none_found test xs f)
  where
    by_test : (b : Bool) → test x ≡ b → is_some (cond b (Some x) (find test xs)) ≡ false → (is_some (find test xs) ≡ false → All (λ y. test y ≡ false) xs) → All (λ y. test y ≡ false) (x ∷ xs)
    by_test true h f rest = absurd (let k : true ≡ false = f in cc k)
    by_test false h f rest = All-cons (λ y. test y ≡ false) x xs h (rest f)

-- a name that isn't refused differs from all others
name_is_new : (run : Run) (old : Lists) (name : List ℕ) → refusal_at run old (IsNewName name) ≡ None → All (λ mailbox. mailbox.name ≢ name) old
name_is_new run old name e =
    All-weaker (λ (mailbox : Mailbox). has_name name mailbox ≡ false) (λ (mailbox : Mailbox). mailbox.name ≢ name)
    (λ mailbox h same. let k : true ≡ false = sym ((bytes_eq-Decides mailbox.name name).1 same) ∙ h in cc k)
    old (none_found (has_name name) old (not_refused _ Exists e))

-- ---- steps

-- a message that is listed is in range
listed_fits : (old : Lists) (name : List ℕ) (uid : ℕ) (message : ListedMessage) → AreWellFormed old → message_at name uid old ≡ Some message → IsMessageInRange message
listed_fits old name uid message w e = by_mailbox (mailbox_named name old) refl e
  where
    by_mailbox : (o : Option Mailbox) → mailbox_named name old ≡ o → option_and_then (message_in uid) o ≡ Some message → IsMessageInRange message
    by_mailbox None h f = absurd (let k : None ≡ Some message = f in cc k)
    by_mailbox (Some mailbox) h f = found_among (is_message_of_uid uid) mailbox.messages message IsMessageInRange f (found_among (has_name name) old mailbox IsMailboxInOrder h w.each).in_range

content_of : (message : ListedMessage) → IsMessageInRange message → IsContentInRange message
content_of message f = record { flags = f.flags; time = f.time; guid = f.guid; size = f.size; words = f.words }

copied_well : (run : Run) (old new : Lists) (name : List ℕ) (uid : ℕ) (target : List ℕ) (given : ℕ) → AreWellFormed old → first_refusal run old (HasMailbox name ∷ HasMailbox target ∷ HasUid name uid ∷ RoomForMessage target ∷ NextUid target ∷ []) ≡ None
    → IsCopied old name uid target given new → AreWellFormed new
copied_well run old new name uid target given w e c =
    let e1 = (or_none (refusal_at run old (HasMailbox name)) _ e).1 in
    let e2 = (or_none (refusal_at run old (HasMailbox target)) _ e1).1 in
    let e3 = (or_none (refusal_at run old (HasUid name uid)) _ e2).1 in
    let e4 = (or_none (refusal_at run old (RoomForMessage target)) _ e3).1 in
    let room = (or_none (refusal_at run old (NextUid target)) None e4).0 in
    subst AreWellFormed (sym c.new_is)
    (added_well old target c.message c.mailbox c.target_is (next_fits run old target c.mailbox c.target_is room) (content_of c.message (listed_fits old name uid c.message w c.source_is)) w)

delivered_well : (run : Run) (event : RunEvent) (old new : Lists) (name : List ℕ) (time : ℕ) (octets : List ℕ) (given : ℕ) (own : List ℕ) → AreWellFormed old → (time < 2 ^ 64) × (length octets ≤ 67108864)
    → first_refusal run old (HasMailbox name ∷ RoomForMessage name ∷ NextUid name ∷ []) ≡ None → IsDelivered run event old name time octets given own new → AreWellFormed new
delivered_well run event old new name time octets given own w f e d =
    let e1 = (or_none (refusal_at run old (HasMailbox name)) _ e).1 in
    let e2 = (or_none (refusal_at run old (RoomForMessage name)) _ e1).1 in
    let room = (or_none (refusal_at run old (NextUid name)) None e2).0 in
    subst AreWellFormed (sym d.new_is)
    (added_well old name (record { uid = given; flags = 0; time = time; guid = own; octets = octets; words = [] }) d.mailbox d.target_is (next_fits run old name d.mailbox d.target_is room)
    (record { flags = omega arith; time = f.0; guid = d.guid_length; size = f.1; words = no_words }) w)

made_well : (run : Run) (event : RunEvent) (old new : Lists) (name : List ℕ) → AreWellFormed old → IsName name → first_refusal run old (IsNewName name ∷ RoomForMailbox ∷ []) ≡ None → IsMade run event old name new → AreWellFormed new
made_well run event old new name w is_name e m =
    let free = (or_none (refusal_at run old (IsNewName name)) _ e).0 in
    let made : Mailbox = empty_mailbox m.number name in
    let fresh = m.fresh in
    let some : 1 ≤ m.number = omega (arith, fresh) in
    subst AreWellFormed (sym m.new_is) (record {
      names = pairs_push NamesDiffer old made w.names (name_is_new run old name free);
      numbers = pairs_push NumbersRise old made w.numbers m.above;
      each = All-push IsMailboxInOrder old made w.each (empty_in_order m.number name some m.fits is_name);
    })

half_well : (old new : Lists) (number : ℕ) (uid : ℕ) (gone : Bool) → AreWellFormed old → IsSecondHalf old number uid gone new → AreWellFormed new
half_well old new number uid true w h = subst AreWellFormed (sym h.1) w
half_well old new number uid false w h = subst AreWellFormed (sym h.1) (expunged_well old (has_number number) uid w)

-- a name that no mailbox has
target_well : (run : Run) (old new : Lists) (name target : List ℕ) → AreWellFormed old → IsName target → first_refusal run old (HasMailbox name ∷ IsNotInbox name ∷ IsNewName target ∷ []) ≡ None → new ≡ rename_mailbox name target old → AreWellFormed new
target_well run old new name target w n e d =
    let e1 = (or_none (refusal_at run old (HasMailbox name)) _ e).1 in
    let e2 = (or_none (refusal_at run old (IsNotInbox name)) _ e1).1 in
    let free = (or_none (refusal_at run old (IsNewName target)) None e2).0 in
    subst AreWellFormed (sym d) (renamed_well old name target n (name_is_new run old target free) w)

-- Where none of its checks refuses, what a request does keeps well formed lists so.
does_well : (run : Run) (event : RunEvent) (old : Lists) (q : Request) (part : EventPart) (r : Reply) (new : Lists) → AreWellFormed old → RequestInRange q → first_refusal run old (part_checks run event q part) ≡ None → Does run event old q part r new → AreWellFormed new
does_well run event old (request.List name) First (reply.Listed rows) new w f e d = subst AreWellFormed (sym d.3) w
does_well run event old (request.Fetch name uid) First (reply.Fetched octets) new w f e d = subst AreWellFormed (sym d.3) w
does_well run event old (request.Flag name uid flags) First reply.Done new w f e d = subst AreWellFormed (sym d) (flagged_well old name uid.0 flags f w)
does_well run event old (request.Keywords name uid words) First reply.Done new w f e d = subst AreWellFormed (sym d) (worded_well old name uid.0 words f w)
does_well run event old (request.Make name) Last reply.Done new w f e d = made_well run event old new name w f e d
does_well run event old (request.Deliver name time octets) Last (reply.Saved uid own) new w f e d = delivered_well run event old new name time octets uid.0 own.0 w f e d
does_well run event old (request.Copy name uid target) Last (reply.Copied given) new w f e d = copied_well run old new name uid.0 target given.0 w e d
does_well run event old (request.Move name uid target) Last (reply.Copied given) new w f e d = copied_well run old new name uid.0 target given.0 w e d
does_well run event old (request.Move name uid target) SecondHalf (reply.Moved given gone) new w f e d = half_well old new (source_of event.request run) uid.0 gone w d.1
does_well run event old (request.Expunge name uid) First reply.Done new w f e d = subst AreWellFormed (sym d) (expunged_well old (has_name name) uid.0 w)
does_well run event old (request.Delete name) First reply.Done new w f e d = subst AreWellFormed (sym d) (deleted_well old name w)
does_well run event old (request.Rename name target) First reply.Done new w f e d = target_well run old new name target w f e d
does_well run event old request.Counts First (reply.Counted records references counts instances) new w f e d = subst AreWellFormed (sym d.1) w
does_well run event old request.Purge Last (reply.Purged dropped files instances) new w f e d = subst AreWellFormed (sym d.1) w
does_well run event old request.Resync Last (reply.Resynced corrected damaged) new w f e d = subst AreWellFormed (sym d.1) w
does_well run event old q part r new w f e d = absurd d

-- A step of a request in range keeps well formed lists so.
pub answers_well : (run : Run) (old : Lists) (q : Request) (event : RunEvent) (r : Reply) (new : Lists) → AreWellFormed old → RequestInRange q → Answers run old q event r new → AreWellFormed new
answers_well run old q event (reply.Refused refusal) new w f a = subst AreWellFormed (sym a.1) w
answers_well run old q event r new w f a = does_well run event old q event.part r new w f a.0 a.1
