-- Which storage file has room for a message, and what a store tells of it.
use Rattle.mail_save.proofs.Common.{◌≡◌, ◌≤◌, ◌<◌, ◌+◌, ◌==◌, ◌&&◌, ◌||◌, ℕ, Bool, true, false, not, List, [], ◌∷◌, ◌⊎◌, Option, Some, None, refl, ◌∙◌, ap, subst, arith, inl, inr, nat_le, nat_lt, Contains, if◌then◌else◌, option_map_or, option_or, eq-eqb, ne_eqb, cond-false, cond-true, common_steps}
use Rattle.mail_save.proofs.Common.{All-head, All-tail, MayBeTakenFor, file_in, MailFile}
use Rattle.std.specs.Prelude.{All, AllPairs}
use Rattle.std.proofs.lemmas.List.Elements.{Contains-append_cases, Contains-push_cases}
use Rattle.model_octets.proofs.PairLemmas.{pairs_head, pairs_tail}
use Rattle.mail_save.specs.SaveSeen.{has_room_for, room_among}

abbrev pub Rising : List MailFile → Type 0
Rising files = AllPairs (λ a b. a.file.0 < b.file.0) files

-- ---- the test

pub both_true : (a b : Bool) → (a && b) ≡ true → (a ≡ true) × (b ≡ true)
both_true true b e = (refl, e)
both_true false b e = absurd (let k : false ≡ true = e in cc k)

pub le_true : (a b : ℕ) → a ≤ b → nat_le a b ≡ true
le_true a b l = grind (arith, common_steps, l)

pub true_le : (a b : ℕ) → nat_le a b ≡ true → a ≤ b
true_le a b e = grind (arith, common_steps, e)

pub lt_true : (a b : ℕ) → nat_lt a b ≡ true → a < b
lt_true a b e = grind (arith, common_steps, e)

pub true_lt : (a b : ℕ) → a < b → nat_lt a b ≡ true
true_lt a b l = grind (arith, common_steps, l)

pub room_taken : (size : ℕ) (f : MailFile) → has_room_for size f ≡ true → MayBeTakenFor size f
room_taken size f e = by_end f.end f.taken f.emptied f.doomed f.sealed f.barred refl refl refl refl refl refl e
  where
    by_end : (o : Option ℕ) (t m d s b : Bool) → f.end ≡ o → f.taken ≡ t → f.emptied ≡ m → f.doomed ≡ d → f.sealed ≡ s → f.barred ≡ b → (option_map_or (λ end. nat_le (end + size) 10485760) o false && not (t || (m || (d || (s || b))))) ≡ true → MayBeTakenFor size f
    by_end None t m d s b p q v w r u k = absurd (let z : false ≡ true = k in cc z)
    by_end (Some end) false false false false false p q v w r u k =
        record { end = end; ends = p; room = true_le (end + size) 10485760 (both_true (nat_le (end + size) 10485760) true k).0; free = record { free = record { untaken = q; unemptied = v; undoomed = w }; unsealed = r; unbarred = u } }
    by_end (Some end) true m d s b p q v w r u k = absurd (let z : false ≡ true = (both_true (nat_le (end + size) 10485760) false k).1 in cc z)
    by_end (Some end) false true d s b p q v w r u k = absurd (let z : false ≡ true = (both_true (nat_le (end + size) 10485760) false k).1 in cc z)
    by_end (Some end) false false true s b p q v w r u k = absurd (let z : false ≡ true = (both_true (nat_le (end + size) 10485760) false k).1 in cc z)
    by_end (Some end) false false false true b p q v w r u k = absurd (let z : false ≡ true = (both_true (nat_le (end + size) 10485760) false k).1 in cc z)
    by_end (Some end) false false false false true p q v w r u k = absurd (let z : false ≡ true = (both_true (nat_le (end + size) 10485760) false k).1 in cc z)

pub taken_room : (size : ℕ) (f : MailFile) → MayBeTakenFor size f → has_room_for size f ≡ true
taken_room size f m = rw (m.ends, m.free.free.untaken, m.free.free.unemptied, m.free.free.undoomed, m.free.unsealed, m.free.unbarred) (ap (λ (b : Bool). b && true) (le_true (m.end + size) 10485760 m.room))

unless : (size : ℕ) (f : MailFile) → (MayBeTakenFor size f → ⊥) → has_room_for size f ≡ false
unless size f none = by_test (has_room_for size f) refl
  where
    by_test : (b : Bool) → has_room_for size f ≡ b → b ≡ false
    by_test true e = absurd (none (room_taken size f e))
    by_test false e = refl

-- ---- which file has room

pub no_room : (size : ℕ) (files : List MailFile) → All (λ g. MayBeTakenFor size g → ⊥) files → room_among size files ≡ None
no_room size [] h = refl
no_room size (f ∷ files) h =
    ap (λ (o : Option ℕ). option_or o (if has_room_for size f then Some f.file.0 else None)) (no_room size files (All-tail (λ (g : MailFile). MayBeTakenFor size g → ⊥) f files h))
    ∙ ap (λ (b : Bool). option_or None (if b then Some f.file.0 else None)) (unless size f (All-head (λ (g : MailFile). MayBeTakenFor size g → ⊥) f files h))

none_later : (size : ℕ) (f : MailFile) (files : List MailFile) → All (λ g. f.file.0 < g.file.0) files → All (λ g. MayBeTakenFor size g → g.file.0 ≤ f.file.0) files → All (λ g. MayBeTakenFor size g → ⊥) files
none_later size f files later most = λ k d lt room. let a = later k d lt in let b = most k d lt room in omega (arith, a, b)

nobody : (f : MailFile) → Contains [] f → ⊥
nobody f c = let lt = c.1 in omega (arith, lt)

pub known_room : (size : ℕ) (files : List MailFile) (f : MailFile) → Rising files → Contains files f → MayBeTakenFor size f → All (λ g. MayBeTakenFor size g → g.file.0 ≤ f.file.0) files → room_among size files ≡ Some f.file.0
known_room size [] f order there room most = absurd (nobody f there)
known_room size (g ∷ gs) f order there room most = by_place (Contains-append_cases (g ∷ []) gs f there) (λ c. known_room size gs f (pairs_tail (λ (a b : MailFile). a.file.0 < b.file.0) g gs order) c room (All-tail (λ (x : MailFile). MayBeTakenFor size x → x.file.0 ≤ f.file.0) g gs most))
  where
    here : g ≡ f → room_among size (g ∷ gs) ≡ Some f.file.0
    here same =
        let later = subst (λ (x : MailFile). All (λ y. x.file.0 < y.file.0) gs) same (pairs_head (λ (a b : MailFile). a.file.0 < b.file.0) g gs order) in
        ap (λ (o : Option ℕ). option_or o (if has_room_for size g then Some g.file.0 else None)) (no_room size gs (none_later size f gs later (All-tail (λ (x : MailFile). MayBeTakenFor size x → x.file.0 ≤ f.file.0) g gs most)))
        ∙ (ap (λ (x : MailFile). option_or None (if has_room_for size x then Some x.file.0 else None)) same ∙ ap (λ (b : Bool). option_or None (if b then Some f.file.0 else None)) (taken_room size f room))

    first : Contains [] f ⊎ (g ≡ f) → room_among size (g ∷ gs) ≡ Some f.file.0
    first (inl c) = absurd (nobody f c)
    first (inr same) = here same

    by_place : Contains (g ∷ []) f ⊎ Contains gs f → (Contains gs f → room_among size gs ≡ Some f.file.0) → room_among size (g ∷ gs) ≡ Some f.file.0
    by_place (inl c) rest = first (Contains-push_cases [] g f c)
    by_place (inr c) rest = ap (λ (o : Option ℕ). option_or o (if has_room_for size g then Some g.file.0 else None)) (rest c)

-- the file that has room
pub record RoomIs (size n : ℕ) (files : List MailFile) : Type 0 where
  pub f : MailFile
  pub found : file_in n files ≡ Some f
  pub has : MayBeTakenFor size f
  pub above : (k : ℕ) → All (λ g. k < g.file.0) files → k < n

some_number : (a b : ℕ) → Some a ≡ Some b → a ≡ b
some_number a b e = cc e

pub room_is : (size n : ℕ) (files : List MailFile) → Rising files → room_among size files ≡ Some n → RoomIs size n files
room_is size n [] order e = absurd (let k : None ≡ Some n = e in cc k)
room_is size n (g ∷ gs) order e = by_rest (room_among size gs) (has_room_for size g) refl refl e (λ k. room_is size n gs (pairs_tail (λ (a b : MailFile). a.file.0 < b.file.0) g gs order) k)
  where
    later : All (λ y. g.file.0 < y.file.0) gs
    later = pairs_head (λ (a b : MailFile). a.file.0 < b.file.0) g gs order

    by_rest : (o : Option ℕ) (b : Bool) → room_among size gs ≡ o → has_room_for size g ≡ b → option_or o (if b then Some g.file.0 else None) ≡ Some n → (room_among size gs ≡ Some n → RoomIs size n gs) → RoomIs size n (g ∷ gs)
    by_rest (Some m) b p q k rest =
        let same : m ≡ n = some_number m n k in
        let r = rest (p ∙ ap (λ (x : ℕ). Some x) same) in
        let up = r.above g.file.0 later in
        record {
          f = r.f;
          found = cond-false (g.file.0 == n) (Some g) (file_in n gs) (ne_eqb g.file.0 n (λ z. omega (arith, z, up))) ∙ r.found;
          has = r.has;
          above = λ j all. r.above j (All-tail (λ (x : MailFile). j < x.file.0) g gs all);
        }
    by_rest None true p q k rest =
        let same : g.file.0 ≡ n = some_number g.file.0 n k in
        record { f = g; found = cond-true (g.file.0 == n) (Some g) (file_in n gs) (eq-eqb g.file.0 n same); has = room_taken size g q; above = λ j all. let a = All-head (λ (x : MailFile). j < x.file.0) g gs all in omega (arith, a, same) }
    by_rest None false p q k rest = absurd (let z : None ≡ Some n = k in cc z)
