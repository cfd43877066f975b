-- Lists that are shown, with keywords set, and such a request by the list machine.
use Rattle.mail_ops.proofs.Common.{◌≡◌, ℕ, List, [], Some, None, refl, sym, ◌∙◌, ap, subst, option_map, bytes_eq, Uid, Lists, AreWellFormed, listing_row, First, RunEvent}
use Rattle.mail_ops.proofs.Common.{Run, PartAnswers, mailbox_named, message_in, LogRow, BoxMeaning, row_at, MapBox, listed_row, ShowLists, meaning_named, lists_by}
use Rattle.std.proofs.Common.{find}
use Rattle.mdbox_base.specs.declared.entries.BoxEntry.TheVariants as entry
use Rattle.mdbox_base.specs.declared.replies.Refusal.TheVariants as refusal
use Rattle.mdbox_base.specs.declared.replies.Reply.TheVariants as reply
use Rattle.mdbox_base.specs.declared.requests.Request.TheVariants as request
use Rattle.list_machine.specs.Machine.{set_words}
use Rattle.entry_steps.proofs.AppendListLemmas.{worded_by}
use Rattle.mail_ops.proofs.FlagListLemmas.{found_row, none_there, numbered, some_there}
use Rattle.mail_ops.proofs.NamedListLemmas.{ShownBox, ShowsBox, shows_box}

-- ---- by the list machine

pub no_mailbox : (run : Run) (event : RunEvent) (boxes : List MapBox) (meanings : List BoxMeaning) (lists : Lists) (name : List ℕ) (u : Uid) (words : List (List ℕ)) → ShowLists boxes meanings lists → meaning_named name boxes meanings ≡ None
    → PartAnswers run event lists (request.Keywords name u words) First (reply.Refused refusal.NoMailbox) lists
no_mailbox run event boxes meanings lists name u words h none =
    let f : mailbox_named name lists ≡ None = subst (ShowsBox name lists) none (shows_box name boxes meanings lists h) in
    (rw f refl, refl)

pub no_message : (run : Run) (event : RunEvent) (boxes : List MapBox) (meanings : List BoxMeaning) (lists : Lists) (name : List ℕ) (u : Uid) (words : List (List ℕ)) (m : BoxMeaning) → ShowLists boxes meanings lists → meaning_named name boxes meanings ≡ Some m → row_at m u.0 ≡ None
    → PartAnswers run event lists (request.Keywords name u words) First (reply.Refused refusal.NoMessage) lists
no_message run event boxes meanings lists name u words m h is none =
    let f : ShownBox name lists m = subst (ShowsBox name lists) is (shows_box name boxes meanings lists h) in
    let n : message_in u.0 f.mailbox ≡ None = none_there listing_row (message_in u.0 f.mailbox) (sym (ap (option_map listed_row) none) ∙ found_row u.0 m.rows f.mailbox.messages f.rows) in
    (rw (f.named, n) refl, refl)

-- the entry gives the lists with the keywords set
pub set_by : (boxes : List MapBox) (meanings : List BoxMeaning) (lists : Lists) (name : List ℕ) (number : ℕ) (u : Uid) (words : List (List ℕ)) (m : BoxMeaning) → AreWellFormed lists → ShowLists boxes meanings lists
    → meaning_named name boxes meanings ≡ Some m → option_map (λ b. b.number) (find (λ b. bytes_eq b.name name) boxes) ≡ Some number → lists_by number [] (entry.K u words) lists ≡ set_words name u.0 words lists
set_by boxes meanings lists name number u words m well h is at =
    let f : ShownBox name lists m = subst (ShowsBox name lists) is (shows_box name boxes meanings lists h) in
    let same : f.mailbox.number ≡ number = numbered name number boxes meanings lists f.mailbox h at f.named in
    subst (λ (k : ℕ). lists_by k [] (entry.K u words) lists ≡ set_words name u.0 words lists) same (worded_by lists name f.mailbox [] u words well f.named)

pub is_worded : (run : Run) (event : RunEvent) (boxes : List MapBox) (meanings : List BoxMeaning) (lists : Lists) (name : List ℕ) (number : ℕ) (u : Uid) (words : List (List ℕ)) (m : BoxMeaning) (row : LogRow) → AreWellFormed lists → ShowLists boxes meanings lists
    → meaning_named name boxes meanings ≡ Some m → row_at m u.0 ≡ Some row → option_map (λ b. b.number) (find (λ b. bytes_eq b.name name) boxes) ≡ Some number
    → (lists_by number [] (entry.K u words) lists ≡ set_words name u.0 words lists) × PartAnswers run event lists (request.Keywords name u words) First reply.Done (set_words name u.0 words lists)
is_worded run event boxes meanings lists name number u words m row well h is found at =
    let f : ShownBox name lists m = subst (ShowsBox name lists) is (shows_box name boxes meanings lists h) in
    let n = some_there listing_row (message_in u.0 f.mailbox) (listed_row row) (sym (ap (option_map listed_row) found) ∙ found_row u.0 m.rows f.mailbox.messages f.rows) in
    (set_by boxes meanings lists name number u words m well h is at, (rw (f.named, n.1) refl, refl))
