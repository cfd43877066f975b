-- What a deletion and a renaming look at: the checks of their events, by what the store has, and the mailbox that they find.
use Rattle.mail_ops.proofs.Common.{◌≡◌, ◌==◌, ℕ, Bool, true, false, List, [], ◌∷◌, Option, Some, None, refl, sym, ◌∙◌, ap, subst, arith, common_steps, nat_tests, is_some, option_map, option_or, bytes_eq, find, cond, Refusal, Lists, BoxMeaning, MapBox, ShowLists, meaning_numbered, Run, first_refusal, is_step}
use Rattle.mail_ops.proofs.Common.{HasMailbox, mailbox_named, refused_where, StoreValue, indexes_of, list_named}
use Rattle.std.specs.Prelude.{codes, is_none}
use Rattle.mdbox_base.specs.declared.replies.Refusal.TheVariants as refusal
use Rattle.list_machine.specs.Machine.{Check, IsNotInbox, IsNewName}
use Rattle.model_meaning.specs.MapFits.{HasMapBox}
use Rattle.model_meaning.specs.MapMeaning.{box_at}
use Rattle.mail_ops.specs.Changing.{MayChangeBox, deleting_refusal, renaming_refusal}
use Rattle.mail_ops.specs.Messages.{IsBoxOf}
use Rattle.mail_ops.proofs.FlagListLemmas.{numbered}
use Rattle.mail_ops.proofs.NamedListLemmas.{ShownBox, ShowsBox, shows_box}

-- ---- the checks

abbrev no_mailbox : Bool → Option Refusal
no_mailbox none = refused_where none refusal.NoMailbox

abbrev inbox : List ℕ → Option Refusal
inbox name = refused_where (bytes_eq name (codes "INBOX")) refusal.Inbox

or_both : (a b c : Option Refusal) → option_or a (option_or b c) ≡ option_or (option_or a b) c
or_both a b c = grind (arith, common_steps, nat_tests)

or_none : (a : Option Refusal) → option_or a None ≡ a
or_none a = grind (arith, common_steps, nat_tests)

none_there : (name : List ℕ) (lists : Lists) (o : Option BoxMeaning) → ShowsBox name lists o → is_none (mailbox_named name lists) ≡ is_none o
none_there name lists None f = ap is_none f
none_there name lists (Some m) f = ap is_none f.named

name_there : (name : List ℕ) (lists : Lists) (o : Option BoxMeaning) → ShowsBox name lists o → is_some (mailbox_named name lists) ≡ is_some o
name_there name lists None f = ap is_some f
name_there name lists (Some m) f = ap is_some f.named

-- the first two, with more behind them
checked_then : {D : Type 0} → (run : Run) (name : List ℕ) (store : StoreValue D) (lists : Lists) (rest : List Check) → ShowLists store.map.boxes (indexes_of store.boxes) lists
    → first_refusal run lists (HasMailbox name ∷ IsNotInbox name ∷ rest) ≡ option_or (deleting_refusal name store) (first_refusal run lists rest)
checked_then run name store lists rest h =
    ap (λ (b : Bool). option_or (no_mailbox b) (option_or (inbox name) (first_refusal run lists rest))) (none_there name lists (list_named store name) (shows_box name store.map.boxes (indexes_of store.boxes) lists h))
    ∙ or_both (no_mailbox (is_none (list_named store name))) (inbox name) (first_refusal run lists rest)

pub deleting_checked : {D : Type 0} → (run : Run) (name : List ℕ) (store : StoreValue D) (lists : Lists) → ShowLists store.map.boxes (indexes_of store.boxes) lists → first_refusal run lists (HasMailbox name ∷ IsNotInbox name ∷ []) ≡ deleting_refusal name store
deleting_checked run name store lists h = checked_then run name store lists [] h ∙ or_none (deleting_refusal name store)

pub renaming_checked : {D : Type 0} → (run : Run) (name target : List ℕ) (store : StoreValue D) (lists : Lists) → ShowLists store.map.boxes (indexes_of store.boxes) lists
    → first_refusal run lists (HasMailbox name ∷ IsNotInbox name ∷ IsNewName target ∷ []) ≡ renaming_refusal name target store
renaming_checked run name target store lists h =
    checked_then run name store lists (IsNewName target ∷ []) h
    ∙ (ap (λ (b : Bool). option_or (deleting_refusal name store) (option_or (refused_where b refusal.Exists) None)) (name_there target lists (list_named store target) (shows_box target store.map.boxes (indexes_of store.boxes) lists h))
    ∙ ap (λ (r : Option Refusal). option_or (deleting_refusal name store) r) (or_none (refused_where (is_some (list_named store target)) refusal.Exists)))

-- ---- a refusal of them is a step

two_step : (a b : Bool) (why : Refusal) → option_or (refused_where a refusal.NoMailbox) (refused_where b refusal.Inbox) ≡ Some why → is_step why ≡ true
two_step a b why e = grind (arith, common_steps, nat_tests)

pub deleting_steps : {D : Type 0} → (name : List ℕ) (store : StoreValue D) (why : Refusal) → deleting_refusal name store ≡ Some why → is_step why ≡ true
deleting_steps name store why e = two_step (is_none (list_named store name)) (bytes_eq name (codes "INBOX")) why e

three_step : (first : Option Refusal) (c : Bool) (why : Refusal) → ((w : Refusal) → first ≡ Some w → is_step w ≡ true) → option_or first (refused_where c refusal.Exists) ≡ Some why → is_step why ≡ true
three_step first c why f e = grind (arith, common_steps, nat_tests)

pub renaming_steps : {D : Type 0} → (name target : List ℕ) (store : StoreValue D) (why : Refusal) → renaming_refusal name target store ≡ Some why → is_step why ≡ true
renaming_steps name target store why e = three_step (deleting_refusal name store) (is_some (list_named store target)) why (deleting_steps name store) e

-- what refuses a deletion refuses a renaming
first_also : (first second : Option Refusal) → option_or first second ≡ None → (first ≡ None) × (second ≡ None)
first_also None second e = (refl, e)
first_also (Some why) second e = absurd (let k : Some why ≡ None = e in cc k)

pub renaming_deletes : {D : Type 0} → (name target : List ℕ) (store : StoreValue D) → renaming_refusal name target store ≡ None → (deleting_refusal name store ≡ None) × (refused_where (is_some (list_named store target)) refusal.Exists ≡ None)
renaming_deletes name target store e = first_also (deleting_refusal name store) (refused_where (is_some (list_named store target)) refusal.Exists) e

-- ---- the mailbox that is found

-- the one of lists that are shown
pub record ShownMailbox (name : List ℕ) (number : ℕ) (lists : Lists) (m : BoxMeaning) : Type 0 where
  pub shown : ShownBox name lists m
  pub number_is : shown.mailbox.number ≡ number

pub shown_box : {D : Type 0} → (name : List ℕ) (number : ℕ) (store : StoreValue D) (lists : Lists) (m : BoxMeaning) → IsBoxOf name store number m → ShowLists store.map.boxes (indexes_of store.boxes) lists → ShownMailbox name number lists m
shown_box name number store lists m b h =
    let f : ShownBox name lists m = subst (ShowsBox name lists) b.named (shows_box name store.map.boxes (indexes_of store.boxes) lists h) in
    record { shown = f; number_is = numbered name number store.map.boxes (indexes_of store.boxes) lists f.mailbox h b.number_is f.named }

-- and of the map, as its log is found
pub mailbox_there : (number : ℕ) (boxes : List MapBox) (meanings : List BoxMeaning) (m : BoxMeaning) → meaning_numbered number boxes meanings ≡ Some m → (box : MapBox) × (find (λ b. b.number == number) boxes ≡ Some box)
mailbox_there number [] meanings m e = absurd (let k : None ≡ Some m = e in cc k)
mailbox_there number (b ∷ bs) [] m e = absurd (let k : None ≡ Some m = e in cc k)
mailbox_there number (b ∷ bs) (x ∷ xs) m e = by_test (b.number == number) e (mailbox_there number bs xs m)
  where
    by_test : (t : Bool) → cond t (Some x) (meaning_numbered number bs xs) ≡ Some m → (meaning_numbered number bs xs ≡ Some m → (box : MapBox) × (find (λ (o : MapBox). o.number == number) bs ≡ Some box))
        → (box : MapBox) × (cond t (Some b) (find (λ (o : MapBox). o.number == number) bs) ≡ Some box)
    by_test true k rest = (b, refl)
    by_test false k rest = rest k

-- its log has a generation
pub generation_there : {D : Type 0} → (name : List ℕ) (number generation : ℕ) (store : StoreValue D) → MayChangeBox name number store → Some generation ≡ option_map (λ box. box.generation) (box_at store.map number) → HasMapBox store.map number (λ box. box.generation ≡ generation)
generation_there name number generation store b e =
    let at = mailbox_there number store.map.boxes (indexes_of store.boxes) b.m b.box.numbered in
    let k : Some generation ≡ Some at.0.generation = e ∙ ap (option_map (λ (box : MapBox). box.generation)) at.1 in
    (at.0, at.1, (let same : generation ≡ at.0.generation = cc k in sym same))

pub no_generation : {D : Type 0} → (name : List ℕ) (number : ℕ) (store : StoreValue D) → MayChangeBox name number store → None ≡ option_map (λ box. box.generation) (box_at store.map number) → ⊥
no_generation name number store b e =
    let at = mailbox_there number store.map.boxes (indexes_of store.boxes) b.m b.box.numbered in
    let k : None ≡ Some at.0.generation = e ∙ ap (option_map (λ (box : MapBox). box.generation)) at.1 in
    cc k
