-- What a step leaves of a mailbox, of the others, and of what all messages weigh.
use Rattle.exercise_course.proofs.Common.{◌≡◌, ◌≢◌, ◌≤◌, ◌<◌, ◌+◌, ◌==◌, ℕ, suc, Bool, true, false, cond, if◌then◌else◌, List, [], ◌∷◌, ◌++◌, find, length, sum_by, Option, Some, None, refl, option_or, bytes_eq, sym, ◌∙◌, ap, arith, eq-eqb, eqb-true, find-append, sum_by-cons, ListedMessage, Mailbox}
use Rattle.exercise_course.proofs.Common.{Lists, empty_mailbox, change_first, add_last, add_message, expunge, has_name, is_message_of_uid, mailbox_named, message_in, set_flags, without_first, text_is}
use Rattle.std.proofs.lemmas.List.Sums.{sum_by-append}
use Rattle.model_octets.proofs.SearchLemmas.{text_yes}

-- ---- the mailbox with a name

pub named_changed : (name : List ℕ) (change : Mailbox → Mailbox) → ((m : Mailbox) → (change m).name ≡ m.name) → (lists : Lists) (box : Mailbox) → mailbox_named name lists ≡ Some box → mailbox_named name (change_first (has_name name) change lists) ≡ Some (change box)
named_changed name change keeps [] box e = absurd (let k : None ≡ Some box = e in cc k)
named_changed name change keeps (x ∷ xs) box e = by_test (has_name name x) refl (λ k. named_changed name change keeps xs box k) e
  where
    by_test : (b : Bool) → has_name name x ≡ b → (mailbox_named name xs ≡ Some box → mailbox_named name (change_first (has_name name) change xs) ≡ Some (change box)) → cond b (Some x) (mailbox_named name xs) ≡ Some box → mailbox_named name (if b then change x ∷ xs else x ∷ change_first (has_name name) change xs) ≡ Some (change box)
    by_test true t next f =
        let same : x ≡ box = (let k : Some x ≡ Some box = f in cc k) in
        let yes : has_name name (change x) ≡ true = ap (λ (n : List ℕ). bytes_eq n name) (keeps x) ∙ t in
        ap (λ (b : Bool). cond b (Some (change x)) (mailbox_named name xs)) yes ∙ ap (λ (m : Mailbox). Some (change m)) same
    by_test false t next f = ap (λ (b : Bool). cond b (Some x) (mailbox_named name (change_first (has_name name) change xs))) t ∙ next f

-- two names of one mailbox are the same
two_names : (name other : List ℕ) (x : Mailbox) → other ≢ name → has_name name x ≡ true → has_name other x ≡ false
two_names name other x apart t = by_test (has_name other x) refl
  where
    by_test : (b : Bool) → has_name other x ≡ b → has_name other x ≡ false
    by_test true e = absurd (apart (sym (text_is x.name other e) ∙ text_is x.name name t))
    by_test false e = e

pub named_other : (name other : List ℕ) (change : Mailbox → Mailbox) → ((m : Mailbox) → (change m).name ≡ m.name) → other ≢ name → (lists : Lists) → mailbox_named other (change_first (has_name name) change lists) ≡ mailbox_named other lists
named_other name other change keeps apart [] = refl
named_other name other change keeps apart (x ∷ xs) = by_test (has_name name x) refl (named_other name other change keeps apart xs)
  where
    by_test : (b : Bool) → has_name name x ≡ b → mailbox_named other (change_first (has_name name) change xs) ≡ mailbox_named other xs → mailbox_named other (if b then change x ∷ xs else x ∷ change_first (has_name name) change xs) ≡ mailbox_named other (x ∷ xs)
    by_test true t next =
        let was : has_name other x ≡ false = two_names name other x apart t in
        let now : has_name other (change x) ≡ false = ap (λ (n : List ℕ). bytes_eq n other) (keeps x) ∙ was in
        ap (λ (b : Bool). cond b (Some (change x)) (mailbox_named other xs)) now ∙ sym (ap (λ (b : Bool). cond b (Some x) (mailbox_named other xs)) was)
    by_test false t next = ap (λ (o : Option Mailbox). cond (has_name other x) (Some x) o) next

or_none : {X : Type 0} → (o : Option X) → option_or o None ≡ o
or_none None = refl
or_none (Some x) = refl

pub named_made : (lists : Lists) (name : List ℕ) (number : ℕ) → mailbox_named name lists ≡ None → mailbox_named name (lists ++ empty_mailbox number name ∷ []) ≡ Some (empty_mailbox number name)
named_made lists name number none =
    let made = empty_mailbox number name in
    let yes : has_name name made ≡ true = text_yes name name refl in
    find-append (has_name name) lists (made ∷ [])
    ∙ ap (λ (o : Option Mailbox). option_or o (mailbox_named name (made ∷ []))) none
    ∙ ap (λ (b : Bool). cond b (Some made) None) yes

pub named_beside : (lists : Lists) (name other : List ℕ) (number : ℕ) → other ≢ name → mailbox_named other (lists ++ empty_mailbox number name ∷ []) ≡ mailbox_named other lists
named_beside lists name other number apart =
    let made = empty_mailbox number name in
    let none : has_name other made ≡ false = two_names name other made apart (text_yes name name refl) in
    find-append (has_name other) lists (made ∷ [])
    ∙ ap (λ (b : Bool). option_or (mailbox_named other lists) (cond b (Some made) None)) none
    ∙ or_none (mailbox_named other lists)

-- ---- the message of a UID

pub kept_added : (m : ListedMessage) (box : Mailbox) (uid : ℕ) (x : ListedMessage) → message_in uid box ≡ Some x → message_in uid (add_last m box) ≡ Some x
kept_added m box uid x e =
    find-append (is_message_of_uid uid) box.messages (record m { uid = box.next_uid } ∷ [])
    ∙ ap (λ (o : Option ListedMessage). option_or o (find (is_message_of_uid uid) (record m { uid = box.next_uid } ∷ []))) e

-- the message that is added has the mailbox's next UID
pub new_added : (m : ListedMessage) (box : Mailbox) (uid : ℕ) → box.next_uid ≡ uid → message_in uid box ≡ None → message_in uid (add_last m box) ≡ Some (record m { uid = box.next_uid })
new_added m box uid same none =
    let made : ListedMessage = record m { uid = box.next_uid } in
    let yes : (box.next_uid == uid) ≡ true = eq-eqb box.next_uid uid same in
    find-append (is_message_of_uid uid) box.messages (made ∷ [])
    ∙ ap (λ (o : Option ListedMessage). option_or o (find (is_message_of_uid uid) (made ∷ []))) none
    ∙ ap (λ (b : Bool). cond b (Some made) None) yes

differ : (a b : ℕ) → a < b → (a == b) ≡ false
differ a b lt = by_test (a == b) refl
  where
    by_test : (t : Bool) → (a == b) ≡ t → (a == b) ≡ false
    by_test true e = let k = eqb-true a b e in absurd (omega (arith, k, lt))
    by_test false e = e

pub none_added : (m : ListedMessage) (box : Mailbox) (uid : ℕ) → box.next_uid < uid → message_in uid box ≡ None → message_in uid (add_last m box) ≡ None
none_added m box uid lt none =
    let made : ListedMessage = record m { uid = box.next_uid } in
    find-append (is_message_of_uid uid) box.messages (made ∷ [])
    ∙ ap (λ (o : Option ListedMessage). option_or o (find (is_message_of_uid uid) (made ∷ []))) none
    ∙ ap (λ (b : Bool). cond b (Some made) None) (differ box.next_uid uid lt)

-- what isn't found isn't among fewer
pub none_without : {X : Type 0} → (p q : X → Bool) (xs : List X) → find p xs ≡ None → find p (without_first q xs) ≡ None
none_without p q [] e = refl
none_without {X} p q (x ∷ xs) e = by_test (p x) refl (λ k. none_without p q xs k) e
  where
    by_change : (b : Bool) → p x ≡ false → find p xs ≡ None → find p (without_first q xs) ≡ None → find p (if b then xs else x ∷ without_first q xs) ≡ None
    by_change true t rest next = rest
    by_change false t rest next = ap (λ (b : Bool). cond b (Some x) (find p (without_first q xs))) t ∙ next

    by_test : (b : Bool) → p x ≡ b → (find p xs ≡ None → find p (without_first q xs) ≡ None) → cond b (Some x) (find p xs) ≡ None → find p (without_first q (x ∷ xs)) ≡ None
    by_test true t next f = absurd (let k : Some x ≡ None = f in cc k)
    by_test false t next f = by_change (q x) t f (next f)

-- nor among those of which one is changed
pub none_changed : {X : Type 0} → (p q : X → Bool) (change : X → X) → ((x : X) → p (change x) ≡ p x) → (xs : List X) → find p xs ≡ None → find p (change_first q change xs) ≡ None
none_changed p q change keeps [] e = refl
none_changed {X} p q change keeps (x ∷ xs) e = by_test (p x) refl (λ k. none_changed p q change keeps xs k) e
  where
    by_change : (b : Bool) → p x ≡ false → find p xs ≡ None → find p (change_first q change xs) ≡ None → find p (if b then change x ∷ xs else x ∷ change_first q change xs) ≡ None
    by_change true t rest next = ap (λ (b : Bool). cond b (Some (change x)) (find p xs)) (keeps x ∙ t) ∙ rest
    by_change false t rest next = ap (λ (b : Bool). cond b (Some x) (find p (change_first q change xs))) t ∙ next

    by_test : (b : Bool) → p x ≡ b → (find p xs ≡ None → find p (change_first q change xs) ≡ None) → cond b (Some x) (find p xs) ≡ None → find p (change_first q change (x ∷ xs)) ≡ None
    by_test true t next f = absurd (let k : Some x ≡ None = f in cc k)
    by_test false t next f = by_change (q x) t f (next f)

-- another message stays
pub other_without : (uid gone : ℕ) (xs : List ListedMessage) → gone < uid → find (is_message_of_uid uid) (without_first (is_message_of_uid gone) xs) ≡ find (is_message_of_uid uid) xs
other_without uid gone [] lt = refl
other_without uid gone (x ∷ xs) lt = by_test (x.uid == gone) refl (other_without uid gone xs lt)
  where
    by_test : (b : Bool) → (x.uid == gone) ≡ b → find (is_message_of_uid uid) (without_first (is_message_of_uid gone) xs) ≡ find (is_message_of_uid uid) xs → find (is_message_of_uid uid) (if b then xs else x ∷ without_first (is_message_of_uid gone) xs) ≡ find (is_message_of_uid uid) (x ∷ xs)
    by_test true t next =
        let same = eqb-true x.uid gone t in
        let apart : (x.uid == uid) ≡ false = differ x.uid uid (omega (arith, same, lt)) in
        sym (ap (λ (b : Bool). cond b (Some x) (find (is_message_of_uid uid) xs)) apart)
    by_test false t next = ap (λ (o : Option ListedMessage). cond (x.uid == uid) (Some x) o) next

-- ---- how many

pub length_changed : {X : Type 0} → (p : X → Bool) (change : X → X) (xs : List X) → length (change_first p change xs) ≡ length xs
length_changed p change [] = refl
length_changed {X} p change (x ∷ xs) = by_test (p x) (length_changed p change xs)
  where
    by_test : (b : Bool) → length (change_first p change xs) ≡ length xs → length (if b then change x ∷ xs else x ∷ change_first p change xs) ≡ length (x ∷ xs)
    by_test true next = refl
    by_test false next = ap suc next

pub length_without : {X : Type 0} → (p : X → Bool) (xs : List X) → length (without_first p xs) ≤ length xs
length_without p [] = omega arith
length_without {X} p (x ∷ xs) = by_test (p x) (length_without p xs)
  where
    by_test : (b : Bool) → length (without_first p xs) ≤ length xs → length (if b then xs else x ∷ without_first p xs) ≤ length (x ∷ xs)
    by_test true next = omega arith
    by_test false next = omega (arith, next)

-- ---- what messages weigh

-- each message weighs something, by its size
abbrev pub weight : (ℕ → ℕ) → ListedMessage → ℕ
weight v m = v (length m.octets)

abbrev pub weight_in : (ℕ → ℕ) → Mailbox → ℕ
weight_in v box = sum_by (weight v) box.messages

abbrev pub weight_of : (ℕ → ℕ) → Lists → ℕ
weight_of v lists = sum_by (weight_in v) lists

-- what a change of the first that passes does to a sum
sum_change : {X : Type 0} → (f : X → ℕ) (test : X → Bool) (change : X → X) (more less : ℕ) (xs : List X) → ((x : X) → find test xs ≡ Some x → f (change x) + less ≡ f x + more) →
    (find test xs ≡ None → more ≡ less) → sum_by f (change_first test change xs) + less ≡ sum_by f xs + more
sum_change f test change more less [] found none = omega (arith, none refl)
sum_change f test change more less (x ∷ xs) found none =
    by_test (test x) found none (λ p q. sum_change f test change more less xs p q)
  where
    by_test : (b : Bool) → ((y : _) → cond b (Some x) (find test xs) ≡ Some y → f (change y) + less ≡ f y + more) → (cond b (Some x) (find test xs) ≡ None → more ≡ less) →
        (((y : _) → find test xs ≡ Some y → f (change y) + less ≡ f y + more) → (find test xs ≡ None → more ≡ less) → sum_by f (change_first test change xs) + less ≡ sum_by f xs + more) →
        sum_by f (if b then change x ∷ xs else x ∷ change_first test change xs) + less ≡ sum_by f (x ∷ xs) + more
    by_test true found none rest = let h = found x refl in omega (arith, h, sum_by-cons f (change x) xs, sum_by-cons f x xs)
    by_test false found none rest = let h = rest found none in omega (arith, h, sum_by-cons f x (change_first test change xs), sum_by-cons f x xs)

-- and what leaving does
sum_without : {X : Type 0} → (f : X → ℕ) (test : X → Bool) (less : ℕ) (xs : List X) → ((x : X) → find test xs ≡ Some x → less ≡ f x) →
    (find test xs ≡ None → less ≡ 0) → sum_by f (without_first test xs) + less ≡ sum_by f xs
sum_without f test less [] found none = omega (arith, none refl)
sum_without f test less (x ∷ xs) found none = by_test (test x) found none (λ p q. sum_without f test less xs p q)
  where
    by_test : (b : Bool) → ((y : _) → cond b (Some x) (find test xs) ≡ Some y → less ≡ f y) → (cond b (Some x) (find test xs) ≡ None → less ≡ 0) →
        (((y : _) → find test xs ≡ Some y → less ≡ f y) → (find test xs ≡ None → less ≡ 0) → sum_by f (without_first test xs) + less ≡ sum_by f xs) →
        sum_by f (if b then xs else x ∷ without_first test xs) + less ≡ sum_by f (x ∷ xs)
    by_test true found none rest = let h = found x refl in omega (arith, h, sum_by-cons f x xs)
    by_test false found none rest = let h = rest found none in omega (arith, h, sum_by-cons f x (without_first test xs), sum_by-cons f x xs)

two_found : {X : Type 0} → (o : Option X) (x y : X) → o ≡ Some x → o ≡ Some y → x ≡ y
two_found o x y p q = let h : Some x ≡ Some y = sym p ∙ q in cc h

found_none : {X : Type 0} → (o : Option X) (x : X) → o ≡ Some x → o ≡ None → ⊥
found_none o x p q = let h : Some x ≡ None = sym p ∙ q in cc h

pub weight_added : (v : ℕ → ℕ) (name : List ℕ) (m : ListedMessage) (old : Lists) (box : Mailbox) → mailbox_named name old ≡ Some box → weight_of v (add_message name m old) ≡ weight_of v old + weight v m
weight_added v name m old box here =
    let h = sum_change (weight_in v) (has_name name) (add_last m) (weight v m) 0 old
    (λ x e. let k = sum_by-append (weight v) x.messages (record m { uid = x.next_uid } ∷ []) in omega (arith, k)) (λ e. absurd (found_none _ box here e)) in
    omega (arith, h)

pub weight_expunged : (v : ℕ → ℕ) (name : List ℕ) (uid : ℕ) (old : Lists) (box : Mailbox) (m : ListedMessage) → mailbox_named name old ≡ Some box → message_in uid box ≡ Some m → weight_of v (expunge name uid old) + weight v m ≡ weight_of v old
weight_expunged v name uid old box m here there =
    let h = sum_change (weight_in v) (has_name name) (λ (mailbox : Mailbox). record mailbox { messages = without_first (is_message_of_uid uid) mailbox.messages }) 0 (weight v m) old
    (λ x e.
    let in_x : message_in uid x ≡ Some m = ap (message_in uid) (two_found _ x box e here) ∙ there in
    let k = sum_without (weight v) (is_message_of_uid uid) (weight v m) x.messages
    (λ y f. ap (weight v) (two_found _ m y in_x f)) (λ f. absurd (found_none _ m in_x f)) in
    omega (arith, k))
    (λ e. absurd (found_none _ box here e)) in
    omega (arith, h)

pub weight_flagged : (v : ℕ → ℕ) (name : List ℕ) (uid flags : ℕ) (old : Lists) → weight_of v (set_flags name uid flags old) ≡ weight_of v old
weight_flagged v name uid flags old =
    let h = sum_change (weight_in v) (has_name name) (λ (mailbox : Mailbox). record mailbox { messages = change_first (is_message_of_uid uid) (λ message. record message { flags = flags }) mailbox.messages }) 0 0 old
    (λ x e. sum_change (weight v) (is_message_of_uid uid) (λ message. record message { flags = flags }) 0 0 x.messages (λ y f. refl) (λ f. refl)) (λ e. refl) in
    omega (arith, h)

pub weight_made : (v : ℕ → ℕ) (name : List ℕ) (number : ℕ) (old : Lists) → weight_of v (old ++ empty_mailbox number name ∷ []) ≡ weight_of v old
weight_made v name number old = let k = sum_by-append (weight_in v) old (empty_mailbox number name ∷ []) in omega (arith, k)
