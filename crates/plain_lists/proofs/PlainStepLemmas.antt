-- What is found and changed in lists of plain vectors.
use Rattle.std.proofs.Common.{◌≡◌, ◌<◌, ℕ, zero, suc, arith, List, [], ◌∷◌, ◌++◌, length, get_or, set, map, Option, Some, None, refl, sym, ap, ◌∙◌}
use Rattle.std.specs.Prelude.{is_some, is_none, Bool, true, false, if◌then◌else◌}
use Rattle.std.proofs.lemmas.List.{map-append}
use Rattle.std.specs.List.{position, remove}
use Rattle.model_lists.specs.Lists.{ListedMessage, Mailbox, Lists, empty_mailbox, change_first}
use Rattle.list_machine.specs.Machine.{has_name, has_number, is_message_of_uid, mailbox_named, mailbox_numbered, message_at, message_numbered, message_in, without_first, set_flags, set_words, expunge, expunge_from, delete_mailbox, rename_mailbox}
use Rattle.plain_lists.specs.declared.lists.PlainMessage.{PlainMessage}
use Rattle.plain_lists.specs.declared.lists.PlainMailbox.{PlainMailbox}
use Rattle.plain_lists.specs.View.{mailbox_of, message_of}
use Rattle.plain_lists.proofs.CheckLemmas.{IsFound}
use Rattle.plain_lists.proofs.PositionLemmas.{IsFirstPlace, position_is_place, found_at, changed_at, removed_at}

-- the places that walks answer
pub mailbox_place : (boxes : List PlainMailbox) (name : List ℕ) (i : ℕ) → Some i ≡ position (λ m. has_name name (mailbox_of m)) boxes → IsFirstPlace mailbox_of (has_name name) boxes i
mailbox_place boxes name i e = position_is_place mailbox_of (has_name name) boxes (Some i) (sym e)

pub message_place : (messages : List PlainMessage) (uid i : ℕ) → Some i ≡ position (λ m. is_message_of_uid uid (message_of m)) messages → IsFirstPlace message_of (is_message_of_uid uid) messages i
message_place messages uid i e = position_is_place message_of (is_message_of_uid uid) messages (Some i) (sym e)

pub number_place : (boxes : List PlainMailbox) (number i : ℕ) → Some i ≡ position (λ m. has_number number (mailbox_of m)) boxes → IsFirstPlace mailbox_of (has_number number) boxes i
number_place boxes number i e = position_is_place mailbox_of (has_number number) boxes (Some i) (sym e)

pub no_number_here : (boxes : List PlainMailbox) (number : ℕ) → None ≡ position (λ m. has_number number (mailbox_of m)) boxes → mailbox_numbered number (map mailbox_of boxes) ≡ None
no_number_here boxes number e = position_is_place mailbox_of (has_number number) boxes None (sym e)

pub no_mailbox_here : (boxes : List PlainMailbox) (name : List ℕ) → None ≡ position (λ m. has_name name (mailbox_of m)) boxes → mailbox_named name (map mailbox_of boxes) ≡ None
no_mailbox_here boxes name e = position_is_place mailbox_of (has_name name) boxes None (sym e)

-- the mailbox at its place
pub mailbox_here : (boxes : List PlainMailbox) (name : List ℕ) (i : ℕ) (b : PlainMailbox) → IsFirstPlace mailbox_of (has_name name) boxes i → b ≡ get_or boxes i b →
    mailbox_named name (map mailbox_of boxes) ≡ Some (mailbox_of b)
mailbox_here boxes name i b place here = found_at mailbox_of (has_name name) boxes i b place ∙ ap (λ (m : PlainMailbox). Some (mailbox_of m)) (sym here)

pub numbered_here : (boxes : List PlainMailbox) (number i : ℕ) (b : PlainMailbox) → IsFirstPlace mailbox_of (has_number number) boxes i → b ≡ get_or boxes i b →
    mailbox_numbered number (map mailbox_of boxes) ≡ Some (mailbox_of b)
numbered_here boxes number i b place here = found_at mailbox_of (has_number number) boxes i b place ∙ ap (λ (m : PlainMailbox). Some (mailbox_of m)) (sym here)

-- the message at its place
pub message_here : (boxes : List PlainMailbox) (name : List ℕ) (uid i j : ℕ) (b : PlainMailbox) (m : PlainMessage) → IsFirstPlace mailbox_of (has_name name) boxes i → b ≡ get_or boxes i b →
    IsFirstPlace message_of (is_message_of_uid uid) b.messages.items j → m ≡ get_or b.messages.items j m → message_at name uid (map mailbox_of boxes) ≡ Some (message_of m)
message_here boxes name uid i j b m place here inner there =
    let k : message_in uid (mailbox_of b) ≡ Some (message_of m) = found_at message_of (is_message_of_uid uid) b.messages.items j m inner ∙ ap (λ (x : PlainMessage). Some (message_of x)) (sym there) in
    rw (mailbox_here boxes name i b place here) k

pub numbered_message : (boxes : List PlainMailbox) (number uid i j : ℕ) (b : PlainMailbox) (m : PlainMessage) → IsFirstPlace mailbox_of (has_number number) boxes i → b ≡ get_or boxes i b →
    IsFirstPlace message_of (is_message_of_uid uid) b.messages.items j → m ≡ get_or b.messages.items j m → message_numbered number uid (map mailbox_of boxes) ≡ Some (message_of m)
numbered_message boxes number uid i j b m place here inner there =
    let k : message_in uid (mailbox_of b) ≡ Some (message_of m) = found_at message_of (is_message_of_uid uid) b.messages.items j m inner ∙ ap (λ (x : PlainMessage). Some (message_of x)) (sym there) in
    rw (numbered_here boxes number i b place here) k

pub no_numbered_message : (boxes : List PlainMailbox) (number uid i : ℕ) (b : PlainMailbox) → IsFirstPlace mailbox_of (has_number number) boxes i → b ≡ get_or boxes i b →
    None ≡ position (λ m. is_message_of_uid uid (message_of m)) b.messages.items → message_numbered number uid (map mailbox_of boxes) ≡ None
no_numbered_message boxes number uid i b place here none = rw (numbered_here boxes number i b place here) (position_is_place message_of (is_message_of_uid uid) b.messages.items None (sym none))

pub no_message_here : (boxes : List PlainMailbox) (name : List ℕ) (uid i : ℕ) (b : PlainMailbox) → IsFirstPlace mailbox_of (has_name name) boxes i → b ≡ get_or boxes i b →
    None ≡ position (λ m. is_message_of_uid uid (message_of m)) b.messages.items → message_at name uid (map mailbox_of boxes) ≡ None
no_message_here boxes name uid i b place here none = rw (mailbox_here boxes name i b place here) (position_is_place message_of (is_message_of_uid uid) b.messages.items None (sym none))

-- a mailbox is changed at its place
pub box_changed_at : (test : Mailbox → Bool) (change : Mailbox → Mailbox) (boxes : List PlainMailbox) (i : ℕ) (b b' : PlainMailbox) → IsFirstPlace mailbox_of test boxes i → b ≡ get_or boxes i b →
    mailbox_of b' ≡ change (mailbox_of b) → map mailbox_of (set boxes i b') ≡ change_first test change (map mailbox_of boxes)
box_changed_at test change boxes i b b' place here e =
    changed_at mailbox_of test change boxes i b' b place (e ∙ ap (λ (m : PlainMailbox). change (mailbox_of m)) here)

pub mailbox_changed : (change : Mailbox → Mailbox) (boxes : List PlainMailbox) (name : List ℕ) (i : ℕ) (b b' : PlainMailbox) → IsFirstPlace mailbox_of (has_name name) boxes i → b ≡ get_or boxes i b →
    mailbox_of b' ≡ change (mailbox_of b) → map mailbox_of (set boxes i b') ≡ change_first (has_name name) change (map mailbox_of boxes)
mailbox_changed change boxes name i b b' place here e = box_changed_at (has_name name) change boxes i b b' place here e

made_mailbox : ℕ → List ℕ → ℕ → List ListedMessage → Mailbox
made_mailbox number name next messages = record { number = number; name = name; next_uid = next; messages = messages }

-- a mailbox that keeps all but its messages
pub other_messages : (b b' : PlainMailbox) (messages : List ListedMessage) → b'.number ≡ b.number → b'.name ≡ b.name → b'.next_uid ≡ b.next_uid → map message_of b'.messages.items ≡ messages →
    mailbox_of b' ≡ record (mailbox_of b) { messages = messages }
unfolding made_mailbox
other_messages b b' messages e1 e2 e3 e4 =
    let h : made_mailbox b'.number.0 b'.name b'.next_uid (map message_of b'.messages.items) ≡ made_mailbox b.number.0 b.name b.next_uid messages = cc in h

-- flags are set in place
pub flagged : (boxes : List PlainMailbox) (name : List ℕ) (uid flags i j : ℕ) (b b' : PlainMailbox) (m m' : PlainMessage) → IsFirstPlace mailbox_of (has_name name) boxes i → b ≡ get_or boxes i b →
    IsFirstPlace message_of (is_message_of_uid uid) b.messages.items j → m ≡ get_or b.messages.items j m → message_of m' ≡ record (message_of m) { flags = flags } →
    b'.number ≡ b.number → b'.name ≡ b.name → b'.next_uid ≡ b.next_uid → b'.messages.items ≡ set b.messages.items j m' →
    map mailbox_of (set boxes i b') ≡ set_flags name uid flags (map mailbox_of boxes)
flagged boxes name uid flags i j b b' m m' place here inner there flag e1 e2 e3 e4 =
    let k : map message_of b'.messages.items ≡ change_first (is_message_of_uid uid) (λ message. record message { flags = flags }) (map message_of b.messages.items) =
    ap (map message_of) e4 ∙ changed_at message_of (is_message_of_uid uid) (λ message. record message { flags = flags }) b.messages.items j m' m inner (flag ∙ ap (λ (x : PlainMessage). record (message_of x) { flags = flags }) there) in
    mailbox_changed (λ mailbox. record mailbox { messages = change_first (is_message_of_uid uid) (λ message. record message { flags = flags }) mailbox.messages }) boxes name i b b' place here (other_messages b b' _ e1 e2 e3 k)

-- keywords are set in place
pub worded : (boxes : List PlainMailbox) (name : List ℕ) (uid : ℕ) (words : List (List ℕ)) (i j : ℕ) (b b' : PlainMailbox) (m m' : PlainMessage) → IsFirstPlace mailbox_of (has_name name) boxes i → b ≡ get_or boxes i b →
    IsFirstPlace message_of (is_message_of_uid uid) b.messages.items j → m ≡ get_or b.messages.items j m → message_of m' ≡ record (message_of m) { words = words } →
    b'.number ≡ b.number → b'.name ≡ b.name → b'.next_uid ≡ b.next_uid → b'.messages.items ≡ set b.messages.items j m' →
    map mailbox_of (set boxes i b') ≡ set_words name uid words (map mailbox_of boxes)
worded boxes name uid words i j b b' m m' place here inner there given e1 e2 e3 e4 =
    let k : map message_of b'.messages.items ≡ change_first (is_message_of_uid uid) (λ message. record message { words = words }) (map message_of b.messages.items) =
    ap (map message_of) e4 ∙ changed_at message_of (is_message_of_uid uid) (λ message. record message { words = words }) b.messages.items j m' m inner (given ∙ ap (λ (x : PlainMessage). record (message_of x) { words = words }) there) in
    mailbox_changed (λ mailbox. record mailbox { messages = change_first (is_message_of_uid uid) (λ message. record message { words = words }) mailbox.messages }) boxes name i b b' place here (other_messages b b' _ e1 e2 e3 k)

-- a message is removed in place
pub expunged : (boxes : List PlainMailbox) (name : List ℕ) (uid i j : ℕ) (b b' : PlainMailbox) → IsFirstPlace mailbox_of (has_name name) boxes i → b ≡ get_or boxes i b →
    IsFirstPlace message_of (is_message_of_uid uid) b.messages.items j →
    b'.number ≡ b.number → b'.name ≡ b.name → b'.next_uid ≡ b.next_uid → b'.messages.items ≡ remove b.messages.items j →
    map mailbox_of (set boxes i b') ≡ expunge name uid (map mailbox_of boxes)
expunged boxes name uid i j b b' place here inner e1 e2 e3 e4 =
    let k : map message_of b'.messages.items ≡ without_first (is_message_of_uid uid) (map message_of b.messages.items) = ap (map message_of) e4 ∙ removed_at message_of (is_message_of_uid uid) b.messages.items j inner in
    mailbox_changed (λ mailbox. record mailbox { messages = without_first (is_message_of_uid uid) mailbox.messages }) boxes name i b b' place here (other_messages b b' _ e1 e2 e3 k)

pub numbered_expunged : (boxes : List PlainMailbox) (number uid i j : ℕ) (b b' : PlainMailbox) → IsFirstPlace mailbox_of (has_number number) boxes i → b ≡ get_or boxes i b →
    IsFirstPlace message_of (is_message_of_uid uid) b.messages.items j →
    b'.number ≡ b.number → b'.name ≡ b.name → b'.next_uid ≡ b.next_uid → b'.messages.items ≡ remove b.messages.items j →
    map mailbox_of (set boxes i b') ≡ expunge_from number uid (map mailbox_of boxes)
numbered_expunged boxes number uid i j b b' place here inner e1 e2 e3 e4 =
    let k : map message_of b'.messages.items ≡ without_first (is_message_of_uid uid) (map message_of b.messages.items) = ap (map message_of) e4 ∙ removed_at message_of (is_message_of_uid uid) b.messages.items j inner in
    box_changed_at (has_number number) (λ mailbox. record mailbox { messages = without_first (is_message_of_uid uid) mailbox.messages }) boxes i b b' place here (other_messages b b' _ e1 e2 e3 k)

-- a mailbox is removed, and has another name
pub mailbox_removed : (boxes : List PlainMailbox) (name : List ℕ) (i : ℕ) → IsFirstPlace mailbox_of (has_name name) boxes i → map mailbox_of (remove boxes i) ≡ delete_mailbox name (map mailbox_of boxes)
mailbox_removed boxes name i place = removed_at mailbox_of (has_name name) boxes i place

pub mailbox_renamed : (boxes : List PlainMailbox) (name target : List ℕ) (i : ℕ) (b b' : PlainMailbox) → IsFirstPlace mailbox_of (has_name name) boxes i → b ≡ get_or boxes i b →
    mailbox_of b' ≡ record (mailbox_of b) { name = target } → map mailbox_of (set boxes i b') ≡ rename_mailbox name target (map mailbox_of boxes)
mailbox_renamed boxes name target i b b' place here e = mailbox_changed (λ mailbox. record mailbox { name = target }) boxes name i b b' place here e

-- an element read twice is one
pub read_twice : {X : Type 0} → (xs : List X) (i : ℕ) (a b : X) → i < length xs → a ≡ get_or xs i a → b ≡ get_or xs i b → a ≡ b
read_twice [] i a b lt e f = absurd (omega (arith, lt))
read_twice (x ∷ xs) zero a b lt e f = e ∙ sym f
read_twice (x ∷ xs) (suc i) a b lt e f = read_twice xs i a b (omega (arith, lt)) e f

-- a name is in use where it has a place
pub named_as_placed : (boxes : List PlainMailbox) (name : List ℕ) (o : Option ℕ) → o ≡ position (λ m. has_name name (mailbox_of m)) boxes → is_some (mailbox_named name (map mailbox_of boxes)) ≡ is_some o
named_as_placed boxes name None e = rw (no_mailbox_here boxes name e) refl
named_as_placed [] name (Some i) e = absurd (let h : Some i ≡ None = e in cc h)
named_as_placed (b ∷ boxes) name (Some i) e = rw (found_at mailbox_of (has_name name) (b ∷ boxes) i b (mailbox_place (b ∷ boxes) name i e)) refl

-- an empty mailbox is pushed
pub pushed_empty : (boxes new : List PlainMailbox) (lists : Lists) (number : ℕ) (name : List ℕ) (b : PlainMailbox) → new ≡ boxes ++ b ∷ [] → map mailbox_of boxes ≡ lists → b.number.0 ≡ number → b.name ≡ name →
    b.next_uid ≡ 1 → b.messages.items ≡ [] → map mailbox_of new ≡ lists ++ empty_mailbox number name ∷ []
unfolding made_mailbox
pushed_empty boxes new lists number name b e view e1 e2 e3 e4 =
    let messages : map message_of b.messages.items ≡ [] = ap (map message_of) e4 in
    let box : made_mailbox b.number.0 b.name b.next_uid (map message_of b.messages.items) ≡ made_mailbox number name 1 [] = cc (e1, e2, e3, messages) in
    ap (map mailbox_of) e ∙ map-append mailbox_of boxes (b ∷ []) ∙ ap (λ (l : Lists). l ++ mailbox_of b ∷ []) view ∙ ap (λ (m : Mailbox). lists ++ m ∷ []) box

-- what a copy finds
pub copy_found : (boxes : List PlainMailbox) (lists : Lists) (name target : List ℕ) (uid i j k : ℕ) (b t : PlainMailbox) (m : PlainMessage) → map mailbox_of boxes ≡ lists →
    Some i ≡ position (λ x. has_name name (mailbox_of x)) boxes → b ≡ get_or boxes i b → Some j ≡ position (λ x. is_message_of_uid uid (message_of x)) b.messages.items → m ≡ get_or b.messages.items j m →
    Some k ≡ position (λ x. has_name target (mailbox_of x)) boxes → t ≡ get_or boxes k t → IsFound lists name uid target (mailbox_of b) (mailbox_of t) (message_of m)
copy_found boxes lists name target uid i j k b t m view ei eb ej em ek et = record {
  source_is = sym (ap (mailbox_named name) view) ∙ mailbox_here boxes name i b (mailbox_place boxes name i ei) eb;
  target_is = sym (ap (mailbox_named target) view) ∙ mailbox_here boxes target k t (mailbox_place boxes target k ek) et;
  message_is = sym (ap (message_at name uid) view) ∙ message_here boxes name uid i j b m (mailbox_place boxes name i ei) eb (message_place b.messages.items uid j ej) em;
}

-- a mailbox that stays as it was
pub same_mailbox : (boxes : List PlainMailbox) (target : List ℕ) (k : ℕ) (t t' : PlainMailbox) → Some k ≡ position (λ x. has_name target (mailbox_of x)) boxes → t ≡ get_or boxes k t →
    mailbox_of t' ≡ mailbox_of t → map mailbox_of (set boxes k t') ≡ map mailbox_of boxes
same_mailbox boxes target k t t' ek et e =
    mailbox_changed (λ m. m) boxes target k t t' (mailbox_place boxes target k ek) et e ∙ unchanged (has_name target) (map mailbox_of boxes)
  where
    unchanged : {X : Type 0} → (test : X → Bool) (xs : List X) → change_first test (λ x. x) xs ≡ xs
    unchanged test [] = refl
    unchanged test (x ∷ xs) = by_test (test x) (unchanged test xs)
      where
        by_test : (b : Bool) → change_first test (λ y. y) xs ≡ xs → (if b then x ∷ xs else x ∷ change_first test (λ y. y) xs) ≡ x ∷ xs
        by_test true h = refl
        by_test false h = ap (λ (ys : List _). x ∷ ys) h

pub placed_named : (boxes : List PlainMailbox) (name : List ℕ) (i : ℕ) → Some i ≡ position (λ m. has_name name (mailbox_of m)) boxes → is_none (mailbox_named name (map mailbox_of boxes)) ≡ false
placed_named [] name i e = absurd (let h : Some i ≡ None = e in cc h)
placed_named (b ∷ boxes) name i e = rw (found_at mailbox_of (has_name name) (b ∷ boxes) i b (mailbox_place (b ∷ boxes) name i e)) refl
