-- The mailboxes of taken messages, counted.
use Rattle.std.proofs.Common.{refl, ◌≡◌, ◌+◌, ℕ, Bool, true, false, cond, List, [], ◌∷◌, ◌++◌, length, map, sym, ◌∙◌, ap, arith, Some, None}
use Rattle.std.proofs.lemmas.List.{length-map}
use Rattle.std.proofs.lemmas.List.Folds.{list_any-append}
use Rattle.std.proofs.lemmas.List.Sums.{fold-append, sum_by-append, sum_by-cons}
use Rattle.std.specs.List.{list_any, find, fold}
use Rattle.std.specs.Prelude.{◌&&◌, ◌||◌, nat_le, not, count_by, if◌then◌else◌, codes}
use Rattle.std.specs.Str.{bytes_eq}
use Rattle.model_octets.proofs.SearchLemmas.{both_same, text_is, text_yes}
use Rattle.model_taken.specs.Taken.{TakenMessage, and_name, mailboxes_met}
use Rattle.rebuild_judge.specs.Kept.{are_full, counted_mailboxes, with_one_more}
use Rattle.rebuild_judge.specs.declared.mailboxes.MetMailbox.{MetMailbox}

bytes_turn : (a b : List ℕ) → bytes_eq a b ≡ bytes_eq b a
bytes_turn a b = both_same (bytes_eq a b) (bytes_eq b a) (λ e. text_yes b a (sym (text_is a b e))) (λ e. text_yes a b (sym (text_is b a e)))

or_none : (a b : Bool) → (a || b) ≡ false → (a ≡ false) × (b ≡ false)
or_none true b e = absurd (cc e)
or_none false b e = (refl, e)

-- ---- each name once

-- no name stands again behind it
abbrev pub AreNew : List (List ℕ) → Type 0
AreNew [] = Unit {0}
AreNew (name ∷ names) = (list_any (bytes_eq name) names ≡ false) × AreNew names

new_push : (names : List (List ℕ)) (name : List ℕ) → AreNew names → list_any (bytes_eq name) names ≡ false → AreNew (names ++ name ∷ [])
new_push [] name new none = (refl, tt)
new_push (n ∷ names) name new none =
    let apart = or_none (bytes_eq name n) (list_any (bytes_eq name) names) none in
    (list_any-append (bytes_eq n) names (name ∷ []) ∙ rw (new.0, bytes_turn n name, apart.0) refl, new_push names name new.1 apart.1)

new_and : (names : List (List ℕ)) (name : List ℕ) (b : Bool) → list_any (bytes_eq name) names ≡ b → AreNew names → AreNew (if b then names else names ++ name ∷ [])
new_and names name true t new = new
new_and names name false t new = new_push names name new t

new_from : (taken : List TakenMessage) (names : List (List ℕ)) → AreNew names → AreNew (fold (λ ns t. and_name ns t.mailbox) names taken)
new_from [] names new = new
new_from (t ∷ taken) names new = new_from taken (and_name names t.mailbox) (new_and names t.mailbox (list_any (bytes_eq t.mailbox) names) refl new)

pub met_new : (taken : List TakenMessage) → AreNew (mailboxes_met taken)
met_new taken = new_from taken (codes "INBOX" ∷ []) (refl, tt)

-- ---- a name that isn't met

abbrev going_to : List ℕ → TakenMessage → Bool
going_to name t = bytes_eq t.mailbox name

and_none : (name other : List ℕ) (names : List (List ℕ)) (b : Bool) → list_any (bytes_eq other) names ≡ b → list_any (bytes_eq name) (if b then names else names ++ other ∷ []) ≡ false → (list_any (bytes_eq name) names ≡ false) × (bytes_eq other name ≡ false)
and_none name other names true t none = (none, apart (bytes_eq other name) refl)
  where
    apart : (b : Bool) → bytes_eq other name ≡ b → bytes_eq other name ≡ false
    apart true e = absurd (let k : true ≡ false = sym t ∙ (ap (λ (x : List ℕ). list_any (bytes_eq x) names) (text_is other name e) ∙ none) in cc k)
    apart false e = e
and_none name other names false t none =
    let two = or_none (list_any (bytes_eq name) names) (bytes_eq name other || false) (sym (list_any-append (bytes_eq name) names (other ∷ [])) ∙ none) in
    (two.0, bytes_turn other name ∙ (or_none (bytes_eq name other) false two.1).0)

count_next : (p : TakenMessage → Bool) (t : TakenMessage) (taken : List TakenMessage) → p t ≡ false → count_by p (t ∷ taken) ≡ count_by p taken
count_next p t taken e = sum_by-cons (λ (u : TakenMessage). cond (p u) 1 0) t taken ∙ (ap (λ (c : Bool). cond c 1 0 + count_by p taken) e ∙ none_and (count_by p taken))
  where
    none_and : (n : ℕ) → 0 + n ≡ n
    none_and n = omega arith

none_from : (name : List ℕ) (taken : List TakenMessage) (names : List (List ℕ)) → list_any (bytes_eq name) (fold (λ ns t. and_name ns t.mailbox) names taken) ≡ false → (list_any (bytes_eq name) names ≡ false) × (count_by (going_to name) taken ≡ 0)
none_from name [] names none = (none, refl)
none_from name (t ∷ taken) names none =
    let behind = none_from name taken (and_name names t.mailbox) none in
    let here = and_none name t.mailbox names (list_any (bytes_eq t.mailbox) names) refl behind.0 in
    (here.0, count_next (going_to name) t taken here.1 ∙ behind.1)

pub none_go : (name : List ℕ) (taken : List TakenMessage) → list_any (bytes_eq name) (mailboxes_met taken) ≡ false → count_by (going_to name) taken ≡ 0
none_go name taken none = (none_from name taken (codes "INBOX" ∷ []) none).1

-- ---- whether it is full

abbrev counted : List TakenMessage → List ℕ → MetMailbox
counted taken name = record { name = name; count = count_by (going_to name) taken }

found_step : (taken : List TakenMessage) (name n : List ℕ) (names : List (List ℕ)) (a b : Bool) → bytes_eq n name ≡ a → (bytes_eq name n || list_any (bytes_eq name) names) ≡ b
    → ((c : Bool) → list_any (bytes_eq name) names ≡ c → find (λ m. bytes_eq m.name name) (map (counted taken) names) ≡ (if c then Some (counted taken name) else None))
    → find (λ m. bytes_eq m.name name) (counted taken n ∷ map (counted taken) names) ≡ (if b then Some (counted taken name) else None)
found_step taken name n names true true e t more = rw e (ap (λ (x : List ℕ). Some (counted taken x)) (text_is n name e))
found_step taken name n names true false e t more = absurd (let k = (or_none (bytes_eq name n) (list_any (bytes_eq name) names) t).0 in let w : true ≡ false = sym e ∙ (bytes_turn n name ∙ k) in cc w)
found_step taken name n names false b e t more = rw e (more b (sym (ap (λ (x : Bool). x || list_any (bytes_eq name) names) (bytes_turn name n ∙ e)) ∙ t))

found_in : (taken : List TakenMessage) (name : List ℕ) (names : List (List ℕ)) (b : Bool) → list_any (bytes_eq name) names ≡ b → find (λ m. bytes_eq m.name name) (map (counted taken) names) ≡ (if b then Some (counted taken name) else None)
found_in taken name [] true t = absurd (cc t)
found_in taken name [] false t = refl
found_in taken name (n ∷ names) b t = found_step taken name n names (bytes_eq n name) b refl t (λ c e. found_in taken name names c e)

abbrev pub is_full : List TakenMessage → List ℕ → Bool → Bool
is_full taken name rest = (not (list_any (bytes_eq name) (mailboxes_met taken)) && nat_le 1024 (length (mailboxes_met taken))) || (nat_le 1000000 (count_by (λ t. bytes_eq t.mailbox name) taken) || rest)

last_full : (rest b : Bool) → (b || rest) ≡ (b || (nat_le 1000000 0 || rest))
last_full rest true = refl
last_full rest false = refl

pub full_is : (taken : List TakenMessage) (name : List ℕ) (met : List MetMailbox) (rest : Bool) → met ≡ counted_mailboxes taken → (are_full name met || rest) ≡ is_full taken name rest
full_is taken name met rest is = ap (λ (ms : List MetMailbox). are_full name ms || rest) is ∙ either (list_any (bytes_eq name) (mailboxes_met taken)) refl
  where
    either : (b : Bool) → list_any (bytes_eq name) (mailboxes_met taken) ≡ b → (are_full name (map (counted taken) (mailboxes_met taken)) || rest) ≡ ((not b && nat_le 1024 (length (mailboxes_met taken))) || (nat_le 1000000 (count_by (going_to name) taken) || rest))
    either true t = rw (found_in taken name (mailboxes_met taken) true t) refl
    either false t = rw (found_in taken name (mailboxes_met taken) false t, length-map (mailboxes_met taken) (counted taken), none_go name taken t) (last_full rest (nat_le 1024 (length (mailboxes_met taken))))

-- ---- one message more

count_push : (p : TakenMessage → Bool) (taken : List TakenMessage) (t : TakenMessage) (b : Bool) → p t ≡ b → count_by p (taken ++ t ∷ []) ≡ (if b then count_by p taken + 1 else count_by p taken)
count_push p taken t true e = sum_by-append (λ (u : TakenMessage). cond (p u) 1 0) taken (t ∷ []) ∙ ap (λ (c : Bool). count_by p taken + (0 + cond c 1 0)) e
count_push p taken t false e = sum_by-append (λ (u : TakenMessage). cond (p u) 1 0) taken (t ∷ []) ∙ (ap (λ (c : Bool). count_by p taken + (0 + cond c 1 0)) e ∙ and_none (count_by p taken))
  where
    and_none : (n : ℕ) → n + (0 + 0) ≡ n
    and_none n = omega arith

abbrev more : List TakenMessage → TakenMessage → List TakenMessage
more taken t = taken ++ t ∷ []

same_counted : (taken : List TakenMessage) (t : TakenMessage) (names : List (List ℕ)) → list_any (bytes_eq t.mailbox) names ≡ false → map (counted taken) names ≡ map (counted (more taken t)) names
same_counted taken t [] none = refl
same_counted taken t (n ∷ names) none =
    let apart = or_none (bytes_eq t.mailbox n) (list_any (bytes_eq t.mailbox) names) none in
    let count : count_by (going_to n) taken ≡ count_by (going_to n) (more taken t) = sym (count_push (going_to n) taken t false apart.0) in
    ap (λ (k : ℕ). record { name = n; count = k } ∷ map (counted taken) names) count ∙ ap (λ (xs : List MetMailbox). counted (more taken t) n ∷ xs) (same_counted taken t names apart.1)

-- the name is among them
one_counted : (taken : List TakenMessage) (t : TakenMessage) (names : List (List ℕ)) → AreNew names → list_any (bytes_eq t.mailbox) names ≡ true → with_one_more t.mailbox (map (counted taken) names) ≡ map (counted (more taken t)) names
one_counted taken t [] new some = absurd (cc some)
one_counted taken t (n ∷ names) new some = first (bytes_eq n t.mailbox) refl (λ s. one_counted taken t names new.1 s)
  where
    first : (a : Bool) → bytes_eq n t.mailbox ≡ a → (list_any (bytes_eq t.mailbox) names ≡ true → with_one_more t.mailbox (map (counted taken) names) ≡ map (counted (more taken t)) names) → with_one_more t.mailbox (counted taken n ∷ map (counted taken) names) ≡ counted (more taken t) n ∷ map (counted (more taken t)) names
    first true e rest =
        let count : count_by (going_to n) taken + 1 ≡ count_by (going_to n) (more taken t) = sym (count_push (going_to n) taken t true (bytes_turn t.mailbox n ∙ e)) in
        rw e (ap (λ (k : ℕ). record { name = n; count = k } ∷ map (counted taken) names) count
        ∙ ap (λ (xs : List MetMailbox). counted (more taken t) n ∷ xs) (same_counted taken t names (ap (λ (x : List ℕ). list_any (bytes_eq x) names) (sym (text_is n t.mailbox e)) ∙ new.0)))
    first false e rest =
        let turned : bytes_eq t.mailbox n ≡ false = bytes_turn t.mailbox n ∙ e in
        let count : count_by (going_to n) taken ≡ count_by (going_to n) (more taken t) = sym (count_push (going_to n) taken t false turned) in
        rw e (ap (λ (k : ℕ). record { name = n; count = k } ∷ with_one_more t.mailbox (map (counted taken) names)) count
        ∙ ap (λ (xs : List MetMailbox). counted (more taken t) n ∷ xs) (rest (sym (ap (λ (x : Bool). x || list_any (bytes_eq t.mailbox) names) turned) ∙ some)))

-- the name is new
new_counted : (taken : List TakenMessage) (t : TakenMessage) (names : List (List ℕ)) → list_any (bytes_eq t.mailbox) names ≡ false → count_by (going_to t.mailbox) taken ≡ 0 → with_one_more t.mailbox (map (counted taken) names) ≡ map (counted (more taken t)) (names ++ t.mailbox ∷ [])
new_counted taken t [] none zero_is =
    let one : 1 ≡ count_by (going_to t.mailbox) (more taken t) = sym (count_push (going_to t.mailbox) taken t true (text_yes t.mailbox t.mailbox refl) ∙ ap (λ (k : ℕ). k + 1) zero_is) in
    ap (λ (k : ℕ). record { name = t.mailbox; count = k } ∷ []) one
new_counted taken t (n ∷ names) none zero_is =
    let apart = or_none (bytes_eq t.mailbox n) (list_any (bytes_eq t.mailbox) names) none in
    let count : count_by (going_to n) taken ≡ count_by (going_to n) (more taken t) = sym (count_push (going_to n) taken t false apart.0) in
    let e : bytes_eq n t.mailbox ≡ false = bytes_turn n t.mailbox ∙ apart.0 in
    rw e (ap (λ (k : ℕ). record { name = n; count = k } ∷ with_one_more t.mailbox (map (counted taken) names)) count ∙ ap (λ (xs : List MetMailbox). counted (more taken t) n ∷ xs) (new_counted taken t names apart.1 zero_is))

and_counted : (taken : List TakenMessage) (t : TakenMessage) (b : Bool) → list_any (bytes_eq t.mailbox) (mailboxes_met taken) ≡ b
    → with_one_more t.mailbox (counted_mailboxes taken) ≡ map (counted (more taken t)) (if b then mailboxes_met taken else mailboxes_met taken ++ t.mailbox ∷ [])
and_counted taken t true e = one_counted taken t (mailboxes_met taken) (met_new taken) e
and_counted taken t false e = new_counted taken t (mailboxes_met taken) e (none_go t.mailbox taken e)

pub counted_more : (taken : List TakenMessage) (t : TakenMessage) → with_one_more t.mailbox (counted_mailboxes taken) ≡ counted_mailboxes (taken ++ t ∷ [])
counted_more taken t =
    and_counted taken t (list_any (bytes_eq t.mailbox) (mailboxes_met taken)) refl
    ∙ ap (map (counted (more taken t))) (sym (fold-append (λ (ns : List (List ℕ)) (u : TakenMessage). and_name ns u.mailbox) (codes "INBOX" ∷ []) taken (t ∷ [])))
