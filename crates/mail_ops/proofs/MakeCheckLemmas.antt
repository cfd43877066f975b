-- What a make looks at: the checks of its events, by what the store has.
use Rattle.mail_ops.proofs.Common.{◌≡◌, ℕ, Bool, true, false, List, [], ◌∷◌, Option, Some, None, refl, sym, ◌∙◌, ap, arith, common_steps, nat_tests, nat_le, length, is_some, option_or, History, Faults, Highest, Refusal, Lists, BoxMeaning, MapBox, ShowLists, First, Run, first_refusal, is_step}
use Rattle.mail_ops.proofs.Common.{mailbox_named, refused_where, StoreValue, indexes_of, list_named, HasComeTo, naming_refusal, making_refusal, seen_of}
use Rattle.std.proofs.Common.{suc}
use Rattle.mdbox_base.specs.declared.replies.Refusal.TheVariants as refusal
use Rattle.list_machine.specs.Machine.{IsNewName, RoomForMailbox, NextMailbox, Check, make_checks}
use Rattle.mail_ops.proofs.MakeStageLemmas.{naming_part}
use Rattle.mail_ops.proofs.NamedListLemmas.{ShowsBox, shows_box}

-- ---- what is shown

name_there : (name : List ℕ) (lists : Lists) (o : Option BoxMeaning) → ShowsBox name lists o → is_some (mailbox_named name lists) ≡ is_some o
name_there name lists None f = ap is_some f
name_there name lists (Some m) f = ap is_some f.named

as_many : (boxes : List MapBox) (meanings : List BoxMeaning) (lists : Lists) → ShowLists boxes meanings lists → length lists ≡ length boxes
as_many [] [] [] h = refl
as_many (b ∷ bs) (m ∷ ms) (l ∷ ls) h = ap (λ (n : ℕ). suc n) (as_many bs ms ls h.1)
as_many boxes meanings lists h = absurd h

-- ---- the checks

or_none : (a : Option Refusal) → option_or a None ≡ a
or_none a = grind (arith, common_steps, nat_tests)

or_both : (a b c : Option Refusal) → option_or a (option_or b c) ≡ option_or (option_or a b) c
or_both a b c = grind (arith, common_steps, nat_tests)

abbrev taken_name : Bool → Option Refusal
taken_name there = refused_where there refusal.Exists

abbrev full_store : ℕ → Option Refusal
full_store boxes = refused_where (nat_le 1024 boxes) (refusal.TooManyMailboxes 1024)

abbrev used_up : ℕ → Option Refusal
used_up drawn = refused_where (nat_le 4294967294 drawn) (refusal.StoreFull 4294967294)

-- the first two, with more behind them
checked_then : {D : Type 0} → (run : Run) (name : List ℕ) (store : StoreValue D) (lists : Lists) (rest : List Check) → ShowLists store.map.boxes (indexes_of store.boxes) lists
    → first_refusal run lists (IsNewName name ∷ RoomForMailbox ∷ rest) ≡ option_or (naming_refusal name store) (first_refusal run lists rest)
checked_then run name store lists rest h =
    ap (λ (b : Bool). option_or (taken_name b) (option_or (full_store (length lists)) (first_refusal run lists rest))) (name_there name lists (list_named store name) (shows_box name store.map.boxes (indexes_of store.boxes) lists h))
    ∙ (ap (λ (n : ℕ). option_or (taken_name (is_some (list_named store name))) (option_or (full_store n) (first_refusal run lists rest))) (as_many store.map.boxes (indexes_of store.boxes) lists h)
    ∙ or_both (taken_name (is_some (list_named store name))) (full_store (length store.map.boxes)) (first_refusal run lists rest))

pub naming_checked : {D : Type 0} → (run : Run) (name : List ℕ) (store : StoreValue D) (lists : Lists) (overtaken : Bool) → ShowLists store.map.boxes (indexes_of store.boxes) lists → first_refusal run lists (make_checks name (naming_part overtaken)) ≡ naming_refusal name store
naming_checked run name store lists true h = checked_then run name store lists [] h ∙ or_none (naming_refusal name store)
naming_checked run name store lists false h = checked_then run name store lists [] h ∙ or_none (naming_refusal name store)

pub making_checked : {D : Type 0} → (pins : ℕ → ℕ) → (history : Option History) (faults : Faults) (run : Run) (name : List ℕ) (store : StoreValue D) (lists : Lists) → ShowLists store.map.boxes (indexes_of store.boxes) lists → HasComeTo run (seen_of pins store history faults)
    → first_refusal run lists (make_checks name First) ≡ making_refusal name store
making_checked pins history faults run name store lists h come =
    checked_then run name store lists (NextMailbox ∷ []) h
    ∙ (ap (λ (d : Highest). option_or (naming_refusal name store) (option_or (used_up d.mailbox) None)) come.come.drawn_is ∙ ap (λ (r : Option Refusal). option_or (naming_refusal name store) r) (or_none (used_up store.drawn.mailbox)))

-- ---- a refusal of them is a step

why_steps : (a why : Refusal) → Some a ≡ Some why → is_step a ≡ true → is_step why ≡ true
why_steps a why e s = let same : a ≡ why = cc e in sym (ap is_step same) ∙ s

two_step : (a b : Bool) (why : Refusal) → option_or (refused_where a refusal.Exists) (refused_where b (refusal.TooManyMailboxes 1024)) ≡ Some why → is_step why ≡ true
two_step a b why e = grind (arith, common_steps, nat_tests)

pub naming_steps : {D : Type 0} → (name : List ℕ) (store : StoreValue D) (why : Refusal) → naming_refusal name store ≡ Some why → is_step why ≡ true
naming_steps name store why e = two_step (is_some (list_named store name)) (nat_le 1024 (length store.map.boxes)) why e

three_step : (first : Option Refusal) (c : Bool) (why : Refusal) → ((w : Refusal) → first ≡ Some w → is_step w ≡ true) → option_or first (refused_where c (refusal.StoreFull 4294967294)) ≡ Some why → is_step why ≡ true
three_step first c why f e = grind (arith, common_steps, nat_tests)

pub making_steps : {D : Type 0} → (name : List ℕ) (store : StoreValue D) (why : Refusal) → making_refusal name store ≡ Some why → is_step why ≡ true
making_steps name store why e = three_step (naming_refusal name store) (nat_le 4294967294 store.drawn.mailbox) why (naming_steps name store) e
