-- Lists that are shown, with flags set, and a flag by the list machine.
use Rattle.mail_ops.proofs.Common.{◌≡◌, ◌==◌, ℕ, Bool, true, false, cond, List, [], ◌∷◌, map, Option, Some, None, refl, sym, ◌∙◌, ap, subst, arith, common_steps, nat_tests, if◌then◌else◌, option_map, bytes_eq, Uid, ListRow, ListedMessage, Mailbox, Lists, AreWellFormed, listing_row, First, RunEvent}
use Rattle.mail_ops.proofs.Common.{Run, PartAnswers, mailbox_named, message_in, LogRow, BoxMeaning, row_at, MapBox, listed_row, ShowLists, meaning_named, lists_by}
use Rattle.std.proofs.Common.{find}
use Rattle.mdbox_base.specs.declared.entries.BoxEntry.TheVariants as entry
use Rattle.mdbox_base.specs.declared.replies.Refusal.TheVariants as refusal
use Rattle.mdbox_base.specs.declared.replies.Reply.TheVariants as reply
use Rattle.mdbox_base.specs.declared.requests.Request.TheVariants as request
use Rattle.list_machine.specs.Machine.{set_flags}
use Rattle.entry_steps.proofs.AppendListLemmas.{flagged_by}
use Rattle.mail_ops.proofs.NamedListLemmas.{ShownBox, ShowsBox, shows_box}

-- ---- rows and messages, with flags and with keywords

pub flag_row : (u flags : ℕ) (row : LogRow) (x : ListedMessage) → listed_row row ≡ listing_row x → listed_row (if u == row.uid then record row { flags = flags } else row) ≡ listing_row (if u == x.uid then record x { flags = flags } else x)
flag_row u flags row x e =
    let same : row.uid ≡ x.uid = ap (λ (r : ListRow). r.uid.0) e in
    by_test (u == row.uid) (u == x.uid) (ap (λ (n : ℕ). u == n) same)
  where
    by_test : (t s : Bool) → t ≡ s → listed_row (if t then record row { flags = flags } else row) ≡ listing_row (if s then record x { flags = flags } else x)
    by_test true true p = ap (λ (r : ListRow). record r { flags = flags }) e
    by_test false false p = e
    by_test true false p = absurd (cc p)
    by_test false true p = absurd (cc p)

pub words_row : (u : ℕ) (words : List (List ℕ)) (row : LogRow) (x : ListedMessage) → listed_row row ≡ listing_row x → listed_row (if u == row.uid then record row { words = words } else row) ≡ listing_row (if u == x.uid then record x { words = words } else x)
words_row u words row x e =
    let same : row.uid ≡ x.uid = ap (λ (r : ListRow). r.uid.0) e in
    by_test (u == row.uid) (u == x.uid) (ap (λ (n : ℕ). u == n) same)
  where
    by_test : (t s : Bool) → t ≡ s → listed_row (if t then record row { words = words } else row) ≡ listing_row (if s then record x { words = words } else x)
    by_test true true p = ap (λ (r : ListRow). record r { words = words }) e
    by_test false false p = e
    by_test true false p = absurd (cc p)
    by_test false true p = absurd (cc p)

-- ---- what is found

-- the mailbox that the map finds by name is found in the lists, with the number that the map gives it
pub shown_number : (name : List ℕ) (number : ℕ) (boxes : List MapBox) (meanings : List BoxMeaning) (lists : Lists) → ShowLists boxes meanings lists → option_map (λ b. b.number) (find (λ b. bytes_eq b.name name) boxes) ≡ Some number
    → (x : Mailbox) × (mailbox_named name lists ≡ Some x) × (x.number ≡ number)
shown_number name number [] [] [] h is = absurd (let k : None ≡ Some number = is in cc k)
shown_number name number (b ∷ bs) (m ∷ ms) (l ∷ ls) h is = by_test (bytes_eq b.name name) (bytes_eq l.name name) (ap (λ (n : List ℕ). bytes_eq n name) (sym h.0.name)) is (shown_number name number bs ms ls h.1)
  where
    by_test : (t s : Bool) → t ≡ s → option_map (λ (o : MapBox). o.number) (cond t (Some b) (find (λ (o : MapBox). bytes_eq o.name name) bs)) ≡ Some number
        → (option_map (λ (o : MapBox). o.number) (find (λ (o : MapBox). bytes_eq o.name name) bs) ≡ Some number → (x : Mailbox) × (mailbox_named name ls ≡ Some x) × (x.number ≡ number)) → (x : Mailbox) × (cond s (Some l) (mailbox_named name ls) ≡ Some x) × (x.number ≡ number)
    by_test true true p i rest = let e : Some b.number ≡ Some number = i in let r : b.number ≡ number = cc e in (l, refl, h.0.number ∙ r)
    by_test false false p i rest = rest i
    by_test true false p i rest = absurd (cc p)
    by_test false true p i rest = absurd (cc p)
shown_number name number boxes meanings lists h is = absurd h

pub numbered : (name : List ℕ) (number : ℕ) (boxes : List MapBox) (meanings : List BoxMeaning) (lists : Lists) (x : Mailbox) → ShowLists boxes meanings lists → option_map (λ b. b.number) (find (λ b. bytes_eq b.name name) boxes) ≡ Some number
    → mailbox_named name lists ≡ Some x → x.number ≡ number
numbered name number boxes meanings lists x h is there =
    let y = shown_number name number boxes meanings lists h is in
    let e : y.0 ≡ x = (let k : Some y.0 ≡ Some x = sym y.1 ∙ there in cc k) in
    sym (ap (λ (o : Mailbox). o.number) e) ∙ y.2

-- a row is found where its message is
pub found_row : (uid : ℕ) (rows : List LogRow) (xs : List ListedMessage) → map listed_row rows ≡ map listing_row xs → option_map listed_row (find (λ r. r.uid == uid) rows) ≡ option_map listing_row (find (λ x. x.uid == uid) xs)
found_row uid [] [] e = refl
found_row uid [] (x ∷ xs) e = absurd (let h : [] ≡ listing_row x ∷ map listing_row xs = e in cc)
found_row uid (r ∷ rs) [] e = absurd (let h : listed_row r ∷ map listed_row rs ≡ [] = e in cc)
found_row uid (r ∷ rs) (x ∷ xs) e =
    let h : listed_row r ∷ map listed_row rs ≡ listing_row x ∷ map listing_row xs = e in
    let first : listed_row r ≡ listing_row x = cc in
    let rest : map listed_row rs ≡ map listing_row xs = cc in
    by_test (r.uid == uid) (x.uid == uid) (ap (λ (n : ListRow). n.uid.0 == uid) first) first (found_row uid rs xs rest)
  where
    by_test : (t s : Bool) → t ≡ s → listed_row r ≡ listing_row x → option_map listed_row (find (λ (o : LogRow). o.uid == uid) rs) ≡ option_map listing_row (find (λ (o : ListedMessage). o.uid == uid) xs)
        → option_map listed_row (cond t (Some r) (find (λ (o : LogRow). o.uid == uid) rs)) ≡ option_map listing_row (cond s (Some x) (find (λ (o : ListedMessage). o.uid == uid) xs))
    by_test true true p first rest = ap Some first
    by_test false false p first rest = rest
    by_test true false p first rest = absurd (cc p)
    by_test false true p first rest = absurd (cc p)

pub none_there : {X Y : Type 0} → (f : X → Y) (o : Option X) → None ≡ option_map f o → o ≡ None
none_there f o e = grind (arith, common_steps, nat_tests)

pub some_there : {X Y : Type 0} → (f : X → Y) (o : Option X) (y : Y) → Some y ≡ option_map f o → (x : X) × (o ≡ Some x) × (y ≡ f x)
some_there f o y e = grind (arith, common_steps, nat_tests)

-- ---- by the list machine

pub no_mailbox : (run : Run) (event : RunEvent) (boxes : List MapBox) (meanings : List BoxMeaning) (lists : Lists) (name : List ℕ) (u : Uid) (flags : ℕ) → ShowLists boxes meanings lists → meaning_named name boxes meanings ≡ None
    → PartAnswers run event lists (request.Flag name u flags) First (reply.Refused refusal.NoMailbox) lists
no_mailbox run event boxes meanings lists name u flags h none =
    let f : mailbox_named name lists ≡ None = subst (ShowsBox name lists) none (shows_box name boxes meanings lists h) in
    (rw f refl, refl)

pub no_message : (run : Run) (event : RunEvent) (boxes : List MapBox) (meanings : List BoxMeaning) (lists : Lists) (name : List ℕ) (u : Uid) (flags : ℕ) (m : BoxMeaning) → ShowLists boxes meanings lists → meaning_named name boxes meanings ≡ Some m → row_at m u.0 ≡ None
    → PartAnswers run event lists (request.Flag name u flags) First (reply.Refused refusal.NoMessage) lists
no_message run event boxes meanings lists name u flags m h is none =
    let f : ShownBox name lists m = subst (ShowsBox name lists) is (shows_box name boxes meanings lists h) in
    let n : message_in u.0 f.mailbox ≡ None = none_there listing_row (message_in u.0 f.mailbox) (sym (ap (option_map listed_row) none) ∙ found_row u.0 m.rows f.mailbox.messages f.rows) in
    (rw (f.named, n) refl, refl)

-- the entry gives the lists with the flags set
pub set_by : (boxes : List MapBox) (meanings : List BoxMeaning) (lists : Lists) (name : List ℕ) (number : ℕ) (u : Uid) (flags : ℕ) (m : BoxMeaning) → AreWellFormed lists → ShowLists boxes meanings lists
    → meaning_named name boxes meanings ≡ Some m → option_map (λ b. b.number) (find (λ b. bytes_eq b.name name) boxes) ≡ Some number → lists_by number [] (entry.F u flags) lists ≡ set_flags name u.0 flags lists
set_by boxes meanings lists name number u flags m well h is at =
    let f : ShownBox name lists m = subst (ShowsBox name lists) is (shows_box name boxes meanings lists h) in
    let same : f.mailbox.number ≡ number = numbered name number boxes meanings lists f.mailbox h at f.named in
    subst (λ (k : ℕ). lists_by k [] (entry.F u flags) lists ≡ set_flags name u.0 flags lists) same (flagged_by lists name f.mailbox [] u flags well f.named)

pub is_flagged : (run : Run) (event : RunEvent) (boxes : List MapBox) (meanings : List BoxMeaning) (lists : Lists) (name : List ℕ) (number : ℕ) (u : Uid) (flags : ℕ) (m : BoxMeaning) (row : LogRow) → AreWellFormed lists → ShowLists boxes meanings lists
    → meaning_named name boxes meanings ≡ Some m → row_at m u.0 ≡ Some row → option_map (λ b. b.number) (find (λ b. bytes_eq b.name name) boxes) ≡ Some number
    → (lists_by number [] (entry.F u flags) lists ≡ set_flags name u.0 flags lists) × PartAnswers run event lists (request.Flag name u flags) First reply.Done (set_flags name u.0 flags lists)
is_flagged run event boxes meanings lists name number u flags m row well h is found at =
    let f : ShownBox name lists m = subst (ShowsBox name lists) is (shows_box name boxes meanings lists h) in
    let n = some_there listing_row (message_in u.0 f.mailbox) (listed_row row) (sym (ap (option_map listed_row) found) ∙ found_row u.0 m.rows f.mailbox.messages f.rows) in
    (set_by boxes meanings lists name number u flags m well h is at, (rw (f.named, n.1) refl, refl))
