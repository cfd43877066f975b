-- A message that can be copied, in the lists that a store shows.
use Rattle.mail_ops.proofs.Common.{◌≡◌, ℕ, List, ◌∷◌, map, Option, Some, None, refl, sym, ◌∙◌, ap, subst, arith, common_steps, nat_tests, nat_le, is_some, if◌then◌else◌, option_map, option_map_or, option_or, Refusal, ListedMessage, Lists, listing_row, LogRow, BoxMeaning, row_at, listed_row}
use Rattle.mail_ops.proofs.Common.{ShowLists, Run, HasMailbox, HasUid, first_refusal, refused_where, message_in, StoreValue, indexes_of, list_named, room_refusal, copy_refusal}
use Rattle.std.proofs.Common.{length}
use Rattle.std.proofs.lemmas.List.{length-map}
use Rattle.mdbox_base.specs.declared.replies.Refusal.TheVariants as refusal
use Rattle.list_machine.specs.Machine.{Check, RoomForMessage, NextUid}
use Rattle.mail_ops.proofs.FlagListLemmas.{found_row, none_there, some_there}
pub use Rattle.mail_ops.proofs.NamedListLemmas.{ShownBox, ShowsBox, shows_box}

same_length : (rows : List LogRow) (xs : List ListedMessage) → map listed_row rows ≡ map listing_row xs → length xs ≡ length rows
same_length rows xs e = sym (length-map xs listing_row) ∙ (sym (ap length e) ∙ length-map rows listed_row)

-- ---- the checks

-- the checks of both events, before any others
abbrev pub place_checks : List ℕ → ℕ → List ℕ → List Check → List Check
place_checks name uid target rest = HasMailbox name ∷ HasMailbox target ∷ HasUid name uid ∷ RoomForMessage target ∷ NextUid target ∷ rest

or_or : (a b c : Option Refusal) → option_or (option_or a b) c ≡ option_or a (option_or b c)
or_or a b c = grind (arith, common_steps, nat_tests)

-- They refuse just what the store does.
pub place_checked : {D : Type 0} → (run : Run) (name : List ℕ) (uid : ℕ) (target : List ℕ) (store : StoreValue D) (lists : Lists) (rest : List Check) → ShowLists store.map.boxes (indexes_of store.boxes) lists
    → first_refusal run lists (place_checks name uid target rest) ≡ option_or (copy_refusal name uid target store) (first_refusal run lists rest)
place_checked run name uid target store lists rest h = by_source (list_named store name) refl
  where
    shown : (other : List ℕ) (o : Option BoxMeaning) → list_named store other ≡ o → ShowsBox other lists o
    shown other o is = subst (ShowsBox other lists) is (shows_box other store.map.boxes (indexes_of store.boxes) lists h)

    Refuses : Option BoxMeaning → Option BoxMeaning → Type 0
    Refuses from to = first_refusal run lists (place_checks name uid target rest)
        ≡ option_or (option_map_or (λ f. option_map_or (λ t. if is_some (row_at f uid) then room_refusal t else Some refusal.NoMessage) to (Some refusal.NoMailbox)) from (Some refusal.NoMailbox)) (first_refusal run lists rest)

    by_row : (from to : BoxMeaning) → ShownBox name lists from → ShownBox target lists to → (o : Option LogRow) → row_at from uid ≡ o → first_refusal run lists (place_checks name uid target rest) ≡ option_or (if is_some o then room_refusal to else Some refusal.NoMessage) (first_refusal run lists rest)
    by_row from to f t None none =
        let n : message_in uid f.mailbox ≡ None = none_there listing_row (message_in uid f.mailbox) (sym (ap (option_map listed_row) none) ∙ found_row uid from.rows f.mailbox.messages f.rows) in
        rw (f.named, t.named, n) refl
    by_row from to f t (Some row) some =
        let n = some_there listing_row (message_in uid f.mailbox) (listed_row row) (sym (ap (option_map listed_row) some) ∙ found_row uid from.rows f.mailbox.messages f.rows) in
        rw (f.named, t.named, n.1)
        (ap (λ (k : ℕ). option_or (refused_where (nat_le 1000000 k) (refusal.MailboxFull 1000000)) (option_or (refused_where (nat_le 4294967295 t.mailbox.next_uid) (refusal.StoreFull 4294967294)) (first_refusal run lists rest))) (same_length to.rows t.mailbox.messages t.rows)
        ∙ (ap (λ (k : ℕ). option_or (refused_where (nat_le 1000000 (length to.rows)) (refusal.MailboxFull 1000000)) (option_or (refused_where (nat_le 4294967295 k) (refusal.StoreFull 4294967294)) (first_refusal run lists rest))) t.next
        ∙ sym (or_or (refused_where (nat_le 1000000 (length to.rows)) (refusal.MailboxFull 1000000)) (refused_where (nat_le 4294967295 to.next) (refusal.StoreFull 4294967294)) (first_refusal run lists rest))))

    by_target : (from : BoxMeaning) → ShownBox name lists from → (o : Option BoxMeaning) → list_named store target ≡ o → Refuses (Some from) o
    by_target from f None is = rw (f.named, shown target None is) refl
    by_target from f (Some to) is = by_row from to f (shown target (Some to) is) (row_at from uid) refl

    by_source : (o : Option BoxMeaning) → list_named store name ≡ o → first_refusal run lists (place_checks name uid target rest) ≡ option_or (copy_refusal name uid target store) (first_refusal run lists rest)
    by_source None is = subst (λ (o : Option BoxMeaning). Refuses o (list_named store target)) (sym is) (rw (shown name None is) refl)
    by_source (Some from) is = subst (λ (o : Option BoxMeaning). Refuses o (list_named store target)) (sym is) (by_target from (shown name (Some from) is) (list_named store target) refl)
