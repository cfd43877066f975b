-- A mailbox that is found by name, or by number, in what the logs mean and in the lists that they show.
use Rattle.mail_ops.proofs.Common.{◌≡◌, ◌==◌, ℕ, Bool, true, false, cond, List, [], ◌∷◌, map, Option, Some, None, refl, sym, ◌∙◌, ap, subst, bytes_eq, Mailbox, Lists, listing_row, First, RunEvent, Run, PartAnswers, mailbox_named, BoxMeaning, MapBox, listed_row, ShowLists, meaning_named, meaning_numbered}
use Rattle.std.proofs.lemmas.Bool.{cond-true, cond-false}
use Rattle.mdbox_base.specs.declared.requests.Request.TheVariants.{List as ListBox}
use Rattle.model_store.specs.Listing.{listing_of}
use Rattle.list_machine.specs.Machine.{mailbox_numbered}

-- a mailbox that is found by name has the next UID, and the messages, that its log means
pub record ShownBox (name : List ℕ) (lists : Lists) (m : BoxMeaning) : Type 0 where
  pub mailbox : Mailbox
  pub named : mailbox_named name lists ≡ Some mailbox
  pub next : mailbox.next_uid ≡ m.next
  pub rows : map listed_row m.rows ≡ map listing_row mailbox.messages

abbrev pub ShowsBox : List ℕ → Lists → Option BoxMeaning → Type 0
ShowsBox name lists None = mailbox_named name lists ≡ None
ShowsBox name lists (Some m) = ShownBox name lists m

pub shows_box : (name : List ℕ) (boxes : List MapBox) (meanings : List BoxMeaning) (lists : Lists) → ShowLists boxes meanings lists → ShowsBox name lists (meaning_named name boxes meanings)
shows_box name [] [] [] h = refl
shows_box name (b ∷ bs) (m ∷ ms) (l ∷ ls) h = by_test (bytes_eq b.name name) refl (shows_box name bs ms ls h.1)
  where
    own : bytes_eq l.name name ≡ bytes_eq b.name name
    own = ap (λ (n : List ℕ). bytes_eq n name) h.0.name

    later : (o : Option BoxMeaning) → bytes_eq b.name name ≡ false → ShowsBox name ls o → ShowsBox name (l ∷ ls) o
    later None differs f = cond-false (bytes_eq l.name name) (Some l) (mailbox_named name ls) (own ∙ differs) ∙ f
    later (Some x) differs f = record { mailbox = f.mailbox; named = cond-false (bytes_eq l.name name) (Some l) (mailbox_named name ls) (own ∙ differs) ∙ f.named; next = f.next; rows = f.rows }

    by_test : (t : Bool) → bytes_eq b.name name ≡ t → ShowsBox name ls (meaning_named name bs ms) → ShowsBox name (l ∷ ls) (cond (bytes_eq b.name name) (Some m) (meaning_named name bs ms))
    by_test true same f = subst (ShowsBox name (l ∷ ls)) (sym (cond-true (bytes_eq b.name name) (Some m) (meaning_named name bs ms) same))
        (record { mailbox = l; named = cond-true (bytes_eq l.name name) (Some l) (mailbox_named name ls) (own ∙ same); next = h.0.next; rows = h.0.rows })
    by_test false differs f = subst (ShowsBox name (l ∷ ls)) (sym (cond-false (bytes_eq b.name name) (Some m) (meaning_named name bs ms) differs)) (later (meaning_named name bs ms) differs f)
shows_box name boxes meanings lists h = absurd h

-- ---- by number

-- and so has one that is found by number
pub record ShownNumber (number : ℕ) (lists : Lists) (m : BoxMeaning) : Type 0 where
  pub mailbox : Mailbox
  pub numbered : mailbox_numbered number lists ≡ Some mailbox
  pub rows : map listed_row m.rows ≡ map listing_row mailbox.messages

abbrev pub ShowsNumber : ℕ → Lists → Option BoxMeaning → Type 0
ShowsNumber number lists None = mailbox_numbered number lists ≡ None
ShowsNumber number lists (Some m) = ShownNumber number lists m

pub shows_number : (number : ℕ) (boxes : List MapBox) (meanings : List BoxMeaning) (lists : Lists) → ShowLists boxes meanings lists → ShowsNumber number lists (meaning_numbered number boxes meanings)
shows_number number [] [] [] h = refl
shows_number number (b ∷ bs) (m ∷ ms) (l ∷ ls) h = by_test (b.number == number) refl (shows_number number bs ms ls h.1)
  where
    own : (l.number == number) ≡ (b.number == number)
    own = ap (λ (n : ℕ). n == number) h.0.number

    later : (o : Option BoxMeaning) → (b.number == number) ≡ false → ShowsNumber number ls o → ShowsNumber number (l ∷ ls) o
    later None differs f = cond-false (l.number == number) (Some l) (mailbox_numbered number ls) (own ∙ differs) ∙ f
    later (Some x) differs f = record { mailbox = f.mailbox; numbered = cond-false (l.number == number) (Some l) (mailbox_numbered number ls) (own ∙ differs) ∙ f.numbered; rows = f.rows }

    by_test : (t : Bool) → (b.number == number) ≡ t → ShowsNumber number ls (meaning_numbered number bs ms) → ShowsNumber number (l ∷ ls) (cond (b.number == number) (Some m) (meaning_numbered number bs ms))
    by_test true same f =
        subst (ShowsNumber number (l ∷ ls)) (sym (cond-true (b.number == number) (Some m) (meaning_numbered number bs ms) same)) (record { mailbox = l; numbered = cond-true (l.number == number) (Some l) (mailbox_numbered number ls) (own ∙ same); rows = h.0.rows })
    by_test false differs f = subst (ShowsNumber number (l ∷ ls)) (sym (cond-false (b.number == number) (Some m) (meaning_numbered number bs ms) differs)) (later (meaning_numbered number bs ms) differs f)
shows_number number boxes meanings lists h = absurd h

-- ---- a listing

pub answered : (run : Run) (event : RunEvent) (lists : Lists) (name : List ℕ) (o : Option BoxMeaning) → ShowsBox name lists o → PartAnswers run event lists (ListBox name) First (listing_of o) lists
answered run event lists name None f = (rw f refl, refl)
answered run event lists name (Some m) f = (rw f.named refl, (f.mailbox, f.named, f.rows, refl))
