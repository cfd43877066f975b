-- The lists that an entry of a mailbox log gives are those of the list machine's step.
use Rattle.std.specs.Prelude.{◌≡◌, ◌<◌, ◌≤◌, ◌+◌, ◌==◌, ℕ, max, true, false, not, cond, Bool, if◌then◌else◌, List, [], ◌∷◌, ◌++◌, map, filter, slice_index_or, Some, All, AllPairs, refl}
use Rattle.std.proofs.Common.{sym, ◌∙◌, subst, ap, arith, append-nil}
use Rattle.std.proofs.lemmas.List.Elements.{All-head, All-tail}
use Rattle.mdbox_base.specs.declared.ids.Uid.{Uid}
use Rattle.mdbox_base.specs.declared.ids.MapUid.{MapUid}
use Rattle.mdbox_base.specs.declared.ids.Guid.{Guid}
use Rattle.mdbox_base.specs.declared.entries.BoxEntry.TheVariants as entry
use Rattle.model_lists.specs.Lists.{ListedMessage, Mailbox, Lists, change_first, AreWellFormed, IsMailboxInOrder}
use Rattle.list_machine.specs.Machine.{has_name, has_number, is_message_of_uid, mailbox_named, without_first, set_flags, set_words, expunge, expunge_from, delete_mailbox, rename_mailbox, add_message}
use Rattle.model_meaning.proofs.AppliedLemmas.{only_changes, only_adds}
use Rattle.model_octets.proofs.PairLemmas.{pairs_head, pairs_tail, found_holds}
use Rattle.model_octets.proofs.SearchLemmas.{both_same}
use Rattle.model_meaning.proofs.MapPlaceLemmas.{equal_is, equal_yes}
use Rattle.mdbox_base.specs.declared.entries.MapCount.{MapCount}
use Rattle.mdbox_base.specs.declared.entries.MapEntry.TheVariants as map_entry
use Rattle.mdbox_base.specs.declared.ids.BoxNo.{BoxNo}
use Rattle.model_appends.specs.Appending.{message_changed, mailbox_by, lists_by}
use Rattle.model_appends.specs.MapAppending.{lists_changed, named_anew}

abbrev Rising : Mailbox → Mailbox → Type 0
Rising x y = x.number < y.number

abbrev UidsRise : ListedMessage → ListedMessage → Type 0
UidsRise a b = a.uid < b.uid

no_test : (b : Bool) → (b ≡ true → ⊥) → b ≡ false
no_test true h = absurd (h refl)
no_test false h = refl

turned : (m n : ℕ) → (m == n) ≡ (n == m)
turned m n = both_same (m == n) (n == m) (λ p. equal_yes n m (sym (equal_is m n p))) (λ p. equal_yes m n (sym (equal_is n m p)))

-- the mailbox of a number is that of the name
pub change_named : (f g : Mailbox → Mailbox) (name : List ℕ) (number : ℕ) (lists : Lists) (x : Mailbox) → AllPairs Rising lists → mailbox_named name lists ≡ Some x → x.number ≡ number → f x ≡ g x
    → change_first (λ mailbox. mailbox.number == number) f lists ≡ change_first (has_name name) g lists
change_named f g name number [] x rising found is same = refl
change_named f g name number (y ∷ ys) x rising found is same = by_test (has_name name y) refl (λ h. change_named f g name number ys x (pairs_tail Rising y ys rising) h is same)
  where
    by_test : (t : Bool) → has_name name y ≡ t → (mailbox_named name ys ≡ Some x → change_first (λ mailbox. mailbox.number == number) f ys ≡ change_first (has_name name) g ys)
        → cond (y.number == number) (f y ∷ ys) (y ∷ change_first (λ mailbox. mailbox.number == number) f ys) ≡ cond t (g y ∷ ys) (y ∷ change_first (has_name name) g ys)
    by_test true t rest =
        let h : cond true (Some y) (mailbox_named name ys) ≡ Some x = subst (λ (b : Bool). cond b (Some y) (mailbox_named name ys) ≡ Some x) t found in
        let e : y ≡ x = let k : Some y ≡ Some x = h in cc k in
        ap (λ (b : Bool). cond b (f y ∷ ys) (y ∷ change_first (λ (mailbox : Mailbox). mailbox.number == number) f ys)) (equal_yes y.number number (ap (λ (m : Mailbox). m.number) e ∙ is))
        ∙ ap (λ (m : Mailbox). m ∷ ys) (ap f e ∙ same ∙ ap g (sym e))
    by_test false t rest =
        let h : mailbox_named name ys ≡ Some x = subst (λ (b : Bool). cond b (Some y) (mailbox_named name ys) ≡ Some x) t found in
        let less : y.number < x.number = (found_holds (has_name name) ys x (Rising y) h (pairs_head Rising y ys rising)).0 in
        let no : (y.number == number) ≡ false = no_test (y.number == number) (λ p. let e = equal_is y.number number p in absurd (omega (arith, less, e, is))) in
        ap (λ (b : Bool). cond b (f y ∷ ys) (y ∷ change_first (λ (mailbox : Mailbox). mailbox.number == number) f ys)) no ∙ ap (λ (zs : Lists). y ∷ zs) (rest h)

-- ---- messages

-- what changes each message with this UID changes the first, where UIDs rise
changes_first : (uid : ℕ) (f : ListedMessage → ListedMessage) (xs : List ListedMessage) → AllPairs UidsRise xs → map (λ x. if uid == x.uid then f x else x) xs ≡ change_first (is_message_of_uid uid) f xs
changes_first uid f [] rising = refl
changes_first uid f (x ∷ xs) rising = by_test (x.uid == uid) refl (changes_first uid f xs (pairs_tail UidsRise x xs rising))
  where
    untouched : (ys : List ListedMessage) → All (UidsRise x) ys → x.uid ≡ uid → map (λ y. if uid == y.uid then f y else y) ys ≡ ys
    untouched [] above is = refl
    untouched (y ∷ ys) above is =
        let less : x.uid < y.uid = All-head (UidsRise x) y ys above in
        let no : (uid == y.uid) ≡ false = no_test (uid == y.uid) (λ p. let e = equal_is uid y.uid p in absurd (omega (arith, less, e, is))) in
        ap (λ (b : Bool). cond b (f y) y ∷ map (λ (z : ListedMessage). if uid == z.uid then f z else z) ys) no ∙ ap (λ (zs : List ListedMessage). y ∷ zs) (untouched ys (All-tail (UidsRise x) y ys above) is)

    by_test : (t : Bool) → (x.uid == uid) ≡ t → map (λ z. if uid == z.uid then f z else z) xs ≡ change_first (is_message_of_uid uid) f xs
        → cond (uid == x.uid) (f x) x ∷ map (λ z. if uid == z.uid then f z else z) xs ≡ cond t (f x ∷ xs) (x ∷ change_first (is_message_of_uid uid) f xs)
    by_test true t rest =
        let is : x.uid ≡ uid = equal_is x.uid uid t in
        ap (λ (b : Bool). cond b (f x) x ∷ map (λ (z : ListedMessage). if uid == z.uid then f z else z) xs) (turned uid x.uid ∙ t)
        ∙ ap (λ (zs : List ListedMessage). f x ∷ zs) (untouched xs (pairs_head UidsRise x xs rising) is)
    by_test false t rest =
        ap (λ (b : Bool). cond b (f x) x ∷ map (λ (z : ListedMessage). if uid == z.uid then f z else z) xs) (turned uid x.uid ∙ t) ∙ ap (λ (zs : List ListedMessage). x ∷ zs) rest

-- what removes each removes the first
removes_first : (uid : ℕ) (xs : List ListedMessage) → AllPairs UidsRise xs → filter (λ x. not (uid == x.uid)) xs ≡ without_first (is_message_of_uid uid) xs
removes_first uid [] rising = refl
removes_first uid (x ∷ xs) rising = by_test (x.uid == uid) refl (removes_first uid xs (pairs_tail UidsRise x xs rising))
  where
    untouched : (ys : List ListedMessage) → All (UidsRise x) ys → x.uid ≡ uid → filter (λ y. not (uid == y.uid)) ys ≡ ys
    untouched [] above is = refl
    untouched (y ∷ ys) above is =
        let less : x.uid < y.uid = All-head (UidsRise x) y ys above in
        let no : (uid == y.uid) ≡ false = no_test (uid == y.uid) (λ p. let e = equal_is uid y.uid p in absurd (omega (arith, less, e, is))) in
        ap (λ (b : Bool). cond (not b) (y ∷ filter (λ (z : ListedMessage). not (uid == z.uid)) ys) (filter (λ (z : ListedMessage). not (uid == z.uid)) ys)) no ∙ ap (λ (zs : List ListedMessage). y ∷ zs) (untouched ys (All-tail (UidsRise x) y ys above) is)

    by_test : (t : Bool) → (x.uid == uid) ≡ t → filter (λ z. not (uid == z.uid)) xs ≡ without_first (is_message_of_uid uid) xs
        → cond (not (uid == x.uid)) (x ∷ filter (λ z. not (uid == z.uid)) xs) (filter (λ z. not (uid == z.uid)) xs) ≡ cond t xs (x ∷ without_first (is_message_of_uid uid) xs)
    by_test true t rest =
        ap (λ (b : Bool). cond (not b) (x ∷ filter (λ (z : ListedMessage). not (uid == z.uid)) xs) (filter (λ (z : ListedMessage). not (uid == z.uid)) xs)) (turned uid x.uid ∙ t)
        ∙ untouched xs (pairs_head UidsRise x xs rising) (equal_is x.uid uid t)
    by_test false t rest =
        ap (λ (b : Bool). cond (not b) (x ∷ filter (λ (z : ListedMessage). not (uid == z.uid)) xs) (filter (λ (z : ListedMessage). not (uid == z.uid)) xs)) (turned uid x.uid ∙ t) ∙ ap (λ (zs : List ListedMessage). x ∷ zs) rest

-- ---- the lists

with_parts : ℕ → List ℕ → ℕ → List ListedMessage → Mailbox
with_parts number name next messages = record { number = number; name = name; next_uid = next; messages = messages }

same_parts : (x : Mailbox) (next later : ℕ) (xs ys : List ListedMessage) → next ≡ later → xs ≡ ys → with_parts x.number x.name next xs ≡ with_parts x.number x.name later ys
same_parts x next later xs ys p q = cc (p, q)

in_order : (name : List ℕ) (lists : Lists) (x : Mailbox) → AreWellFormed lists → mailbox_named name lists ≡ Some x → IsMailboxInOrder x
in_order name lists x well found = (found_holds (has_name name) lists x IsMailboxInOrder found well.each).0

-- a flag
pub flagged_by : (lists : Lists) (name : List ℕ) (x : Mailbox) (octets : List ℕ) (uid : Uid) (flags : ℕ) → AreWellFormed lists → mailbox_named name lists ≡ Some x → lists_by x.number octets (entry.F uid flags) lists ≡ set_flags name uid.0 flags lists
unfolding with_parts
flagged_by lists name x octets uid flags well found =
    let order = in_order name lists x well found in
    let some : 1 ≤ x.next_uid = order.next_some in
    change_named _ _ name x.number lists x well.numbers found refl
    (same_parts x _ _ _ _ (let e : max x.next_uid 1 ≡ x.next_uid = omega (arith, some) in e)
    (only_changes (message_changed (entry.F uid flags)) x.messages ∙ changes_first uid.0 (λ (m : ListedMessage). record m { flags = flags }) x.messages order.rising))

-- keywords
pub worded_by : (lists : Lists) (name : List ℕ) (x : Mailbox) (octets : List ℕ) (uid : Uid) (words : List (List ℕ)) → AreWellFormed lists → mailbox_named name lists ≡ Some x → lists_by x.number octets (entry.K uid words) lists ≡ set_words name uid.0 words lists
unfolding with_parts
worded_by lists name x octets uid words well found =
    let order = in_order name lists x well found in
    let some : 1 ≤ x.next_uid = order.next_some in
    change_named _ _ name x.number lists x well.numbers found refl
    (same_parts x _ _ _ _ (let e : max x.next_uid 1 ≡ x.next_uid = omega (arith, some) in e)
    (only_changes (message_changed (entry.K uid words)) x.messages ∙ changes_first uid.0 (λ (m : ListedMessage). record m { words = words }) x.messages order.rising))

-- an expunge
pub removed_by : (lists : Lists) (name : List ℕ) (x : Mailbox) (octets : List ℕ) (uid : Uid) → AreWellFormed lists → mailbox_named name lists ≡ Some x → lists_by x.number octets (entry.R uid) lists ≡ expunge name uid.0 lists
unfolding with_parts
removed_by lists name x octets uid well found =
    let order = in_order name lists x well found in
    let some : 1 ≤ x.next_uid = order.next_some in
    change_named _ _ name x.number lists x well.numbers found refl
    (same_parts x _ _ _ _ (let e : max x.next_uid 1 ≡ x.next_uid = omega (arith, some) in e)
    (append-nil _ ∙ unchanged (filter (λ (m : ListedMessage). not (uid.0 == m.uid)) x.messages) ∙ removes_first uid.0 x.messages order.rising))
  where
    unchanged : (xs : List ListedMessage) → map (λ m. m) xs ≡ xs
    unchanged [] = refl
    unchanged (x ∷ xs) = ap (λ (ys : List ListedMessage). x ∷ ys) (unchanged xs)

-- a message that is added with the next UID
pub added_by : (lists : Lists) (name : List ℕ) (x : Mailbox) (octets : List ℕ) (uid : Uid) (flags time size : ℕ) (map_uid : MapUid) (guid : Guid) (words : List (List ℕ)) → AreWellFormed lists → mailbox_named name lists ≡ Some x → uid.0 ≡ x.next_uid
    → lists_by x.number octets (entry.A uid flags time size map_uid guid words) lists ≡ add_message name (record { uid = uid.0; flags = flags; time = time; guid = guid.0; octets = octets; words = words }) lists
unfolding with_parts
added_by lists name x octets uid flags time size map_uid guid words well found next =
    change_named _ _ name x.number lists x well.numbers found refl
    (same_parts x _ _ _ _ (let e : max x.next_uid (uid.0 + 1) ≡ x.next_uid + 1 = omega (arith, next) in e)
    (only_adds x.messages _ ∙ ap (λ (n : ℕ). x.messages ++ record { uid = n; flags = flags; time = time; guid = guid.0; octets = octets; words = words } ∷ []) next))

-- an expunge from the mailbox with this number
change_same : (f g : Mailbox → Mailbox) (test : Mailbox → Bool) (lists : Lists) → All (λ x. f x ≡ g x) lists → change_first test f lists ≡ change_first test g lists
change_same f g test [] same = refl
change_same f g test (y ∷ ys) same = by_test (test y) (change_same f g test ys (All-tail (λ (x : Mailbox). f x ≡ g x) y ys same))
  where
    by_test : (t : Bool) → change_first test f ys ≡ change_first test g ys → cond t (f y ∷ ys) (y ∷ change_first test f ys) ≡ cond t (g y ∷ ys) (y ∷ change_first test g ys)
    by_test true rest = ap (λ (m : Mailbox). m ∷ ys) (All-head (λ (x : Mailbox). f x ≡ g x) y ys same)
    by_test false rest = ap (λ (zs : Lists). y ∷ zs) rest

pub removed_from : (lists : Lists) (number : ℕ) (octets : List ℕ) (uid : Uid) → AreWellFormed lists → lists_by number octets (entry.R uid) lists ≡ expunge_from number uid.0 lists
unfolding with_parts
removed_from lists number octets uid well =
    change_same (mailbox_by octets (entry.R uid)) (λ (mailbox : Mailbox). record mailbox { messages = without_first (is_message_of_uid uid.0) mailbox.messages }) (has_number number) lists
    (λ i d lt. of_mailbox (slice_index_or lists i d) (well.each i d lt))
  where
    unchanged : (xs : List ListedMessage) → map (λ m. m) xs ≡ xs
    unchanged [] = refl
    unchanged (x ∷ xs) = ap (λ (ys : List ListedMessage). x ∷ ys) (unchanged xs)

    of_mailbox : (x : Mailbox) → IsMailboxInOrder x → mailbox_by octets (entry.R uid) x ≡ record x { messages = without_first (is_message_of_uid uid.0) x.messages }
    of_mailbox x order =
        let some : 1 ≤ x.next_uid = order.next_some in
        same_parts x _ _ _ _ (let e : max x.next_uid 1 ≡ x.next_uid = omega (arith, some) in e)
        (append-nil _ ∙ unchanged (filter (λ (m : ListedMessage). not (uid.0 == m.uid)) x.messages) ∙ removes_first uid.0 x.messages order.rising)

-- ---- mailboxes

later_differs : (y : Mailbox) (ys : Lists) (number : ℕ) → All (Rising y) ys → y.number ≡ number → All (λ m. (number == m.number) ≡ false) ys
later_differs y ys number above is = λ i d lt. no_test _ (λ p. let less = above i d lt in let e = equal_is number (slice_index_or ys i d).number p in absurd (omega (arith, less, e, is)))

kept_all : (number : ℕ) (ys : Lists) → All (λ m. (number == m.number) ≡ false) ys → filter (λ m. not (number == m.number)) ys ≡ ys
kept_all number [] others = refl
kept_all number (y ∷ ys) others =
    ap (λ (b : Bool). cond (not b) (y ∷ filter (λ (m : Mailbox). not (number == m.number)) ys) (filter (λ (m : Mailbox). not (number == m.number)) ys)) (All-head (λ (m : Mailbox). (number == m.number) ≡ false) y ys others)
    ∙ ap (λ (zs : Lists). y ∷ zs) (kept_all number ys (All-tail (λ (m : Mailbox). (number == m.number) ≡ false) y ys others))

named_all : (number : ℕ) (target : List ℕ) (ys : Lists) → All (λ m. (number == m.number) ≡ false) ys → map (named_anew number target) ys ≡ ys
named_all number target [] others = refl
named_all number target (y ∷ ys) others =
    ap (λ (b : Bool). cond b (record y { name = target }) y ∷ map (named_anew number target) ys) (All-head (λ (m : Mailbox). (number == m.number) ≡ false) y ys others)
    ∙ ap (λ (zs : Lists). y ∷ zs) (named_all number target ys (All-tail (λ (m : Mailbox). (number == m.number) ≡ false) y ys others))

-- the mailbox with this number is that of the name: it leaves, or has another name
removes_named : (name : List ℕ) (number : ℕ) (lists : Lists) (x : Mailbox) → AllPairs Rising lists → mailbox_named name lists ≡ Some x → x.number ≡ number → filter (λ m. not (number == m.number)) lists ≡ delete_mailbox name lists
removes_named name number [] x rising found is = refl
removes_named name number (y ∷ ys) x rising found is = by_test (has_name name y) refl (λ h. removes_named name number ys x (pairs_tail Rising y ys rising) h is)
  where
    by_test : (t : Bool) → has_name name y ≡ t → (mailbox_named name ys ≡ Some x → filter (λ m. not (number == m.number)) ys ≡ delete_mailbox name ys)
        → cond (not (number == y.number)) (y ∷ filter (λ m. not (number == m.number)) ys) (filter (λ m. not (number == m.number)) ys) ≡ cond t ys (y ∷ delete_mailbox name ys)
    by_test true t rest =
        let h : cond true (Some y) (mailbox_named name ys) ≡ Some x = subst (λ (b : Bool). cond b (Some y) (mailbox_named name ys) ≡ Some x) t found in
        let e : y ≡ x = let k : Some y ≡ Some x = h in cc k in
        let own : y.number ≡ number = ap (λ (m : Mailbox). m.number) e ∙ is in
        ap (λ (b : Bool). cond (not b) (y ∷ filter (λ (m : Mailbox). not (number == m.number)) ys) (filter (λ (m : Mailbox). not (number == m.number)) ys)) (equal_yes number y.number (sym own))
        ∙ kept_all number ys (later_differs y ys number (pairs_head Rising y ys rising) own)
    by_test false t rest =
        let h : mailbox_named name ys ≡ Some x = subst (λ (b : Bool). cond b (Some y) (mailbox_named name ys) ≡ Some x) t found in
        let less : y.number < x.number = (found_holds (has_name name) ys x (Rising y) h (pairs_head Rising y ys rising)).0 in
        let no : (number == y.number) ≡ false = no_test (number == y.number) (λ p. let e = equal_is number y.number p in absurd (omega (arith, less, e, is))) in
        ap (λ (b : Bool). cond (not b) (y ∷ filter (λ (m : Mailbox). not (number == m.number)) ys) (filter (λ (m : Mailbox). not (number == m.number)) ys)) no ∙ ap (λ (zs : Lists). y ∷ zs) (rest h)

renames_named : (name target : List ℕ) (number : ℕ) (lists : Lists) (x : Mailbox) → AllPairs Rising lists → mailbox_named name lists ≡ Some x → x.number ≡ number → map (named_anew number target) lists ≡ rename_mailbox name target lists
renames_named name target number [] x rising found is = refl
renames_named name target number (y ∷ ys) x rising found is = by_test (has_name name y) refl (λ h. renames_named name target number ys x (pairs_tail Rising y ys rising) h is)
  where
    by_test : (t : Bool) → has_name name y ≡ t → (mailbox_named name ys ≡ Some x → map (named_anew number target) ys ≡ rename_mailbox name target ys)
        → cond (number == y.number) (record y { name = target }) y ∷ map (named_anew number target) ys ≡ cond t (record y { name = target } ∷ ys) (y ∷ rename_mailbox name target ys)
    by_test true t rest =
        let h : cond true (Some y) (mailbox_named name ys) ≡ Some x = subst (λ (b : Bool). cond b (Some y) (mailbox_named name ys) ≡ Some x) t found in
        let e : y ≡ x = let k : Some y ≡ Some x = h in cc k in
        let own : y.number ≡ number = ap (λ (m : Mailbox). m.number) e ∙ is in
        ap (λ (b : Bool). cond b (record y { name = target }) y ∷ map (named_anew number target) ys) (equal_yes number y.number (sym own))
        ∙ ap (λ (zs : Lists). record y { name = target } ∷ zs) (named_all number target ys (later_differs y ys number (pairs_head Rising y ys rising) own))
    by_test false t rest =
        let h : mailbox_named name ys ≡ Some x = subst (λ (b : Bool). cond b (Some y) (mailbox_named name ys) ≡ Some x) t found in
        let less : y.number < x.number = (found_holds (has_name name) ys x (Rising y) h (pairs_head Rising y ys rising)).0 in
        let no : (number == y.number) ≡ false = no_test (number == y.number) (λ p. let e = equal_is number y.number p in absurd (omega (arith, less, e, is))) in
        ap (λ (b : Bool). cond b (record y { name = target }) y ∷ map (named_anew number target) ys) no ∙ ap (λ (zs : Lists). y ∷ zs) (rest h)

pub deleted_by : (lists : Lists) (name : List ℕ) (x : Mailbox) (number : BoxNo) (amounts : List MapCount) → AreWellFormed lists → mailbox_named name lists ≡ Some x → x.number ≡ number.0 → lists_changed (map_entry.X number amounts) lists ≡ delete_mailbox name lists
deleted_by lists name x number amounts well found is = removes_named name number.0 lists x well.numbers found is

pub renamed_by : (lists : Lists) (name target : List ℕ) (x : Mailbox) (number : BoxNo) → AreWellFormed lists → mailbox_named name lists ≡ Some x → x.number ≡ number.0 → lists_changed (map_entry.V number target) lists ≡ rename_mailbox name target lists
renamed_by lists name target x number well found is = renames_named name target number.0 lists x well.numbers found is
