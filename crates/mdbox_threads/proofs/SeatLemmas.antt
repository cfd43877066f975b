-- What a worker's seat knows, and what all seats know once the workers are done.
use Rattle.std.proofs.Common.{◌≡◌, ℕ, suc, ◌+◌, ◌-◌, ◌<◌, ◌≤◌, ◌⊎◌, inl, inr, Bool, true, false, List, [], ◌∷◌, ◌++◌, All, length, map, slice_index_or, sym, refl, ap, ◌∙◌, subst, ⊎_elim, arith}
use Rattle.std.specs.Prelude.{sum_by}
use Rattle.std.proofs.lemmas.List.{length-map}
use Rattle.std.proofs.lemmas.List.Sums.{sum_by-cons}
use Rattle.turn_lock.specs.LockRule.{StartsWith}
use Rattle.turn_lock.specs.Seats.{IsFreeSeat, IsOneTurnAtMost, IsUnder, KnowsAt, parts_with, seen_by}
use Rattle.turn_lock.specs.declared.place.Place.{Place}
use Rattle.turn_lock.specs.declared.place.Place.TheVariants.{Spent, Free, Waits, HasTurn}
use Rattle.lanes.specs.Worlds.{WorldValue, turn_of}
use Rattle.lanes.specs.declared.turn.Turned.{Turned}
use Rattle.lanes.specs.declared.turn.Turned.TheVariants.{Idle, Worked, NoMemory}
use Rattle.mdbox_threads.specs.Handed.{HandedValue, IsAdvanced, KeepsFirst}
use Rattle.mdbox_threads.specs.Traces.{HasMarkOrIsFull, turn_number, turn_numbers}
use Rattle.mdbox_threads.specs.Work.{HasTakenTurn, HasWorkedAway, IsReadySeat, LockOf, SeatOf}
use Rattle.mdbox_threads.proofs.TraceLemmas.{grown_along, grown_by, mark_is_last, mark_stays, numbers_more}

-- ---- the charter that a seat knows

one_at : {C : Type 0} → (p : Place C) (c d : C) (f h : Bool) → KnowsAt c f p → KnowsAt d h p → (c ≡ d) × (f ≡ h)
one_at Spent c d f h a b = absurd a
one_at (Free k) c d f h a b = (a.0 ∙ sym b.0, a.1 ∙ sym b.1)
one_at (Waits k t) c d f h a b = (a.0 ∙ sym b.0, a.1 ∙ sym b.1)
one_at (HasTurn k t found) c d f h a b = (a.0 ∙ sym b.0, a.1 ∙ sym b.1)

-- a seat knows one charter
pub one_charter : {D : Type 0} → (s : SeatOf D) (v w : WorldValue D) (f h : Bool) → IsUnder v f s → IsUnder w h s → v ≡ w
one_charter {D} s v w f h a b = (one_at s.seat.me.0 v w f h a b).0

pub under_along : {D : Type 0} → (s : SeatOf D) (v w : HandedValue D) → KeepsFirst v w → IsUnder v.first v.world.finished s → IsUnder w.first w.world.finished s
under_along {D} s v w e h = let P : WorldValue D × Bool → Type 0 = λ x. IsUnder x.0 x.1 s in
    let p : (v.first, v.world.finished) ≡ (w.first, w.world.finished) = λ i. (sym e.0 i, sym e.1 i) in subst P p h

-- ---- a turn

-- what a turn adds to the trace
pub one_turn : {D : Type 0} → (lane : ℕ) (t : Turned) (old new : HandedValue D) (found : List ℕ) → found ≡ turn_numbers old.world.turns → IsAdvanced lane t old new → IsOneTurnAtMost found (turn_numbers new.world.turns)
one_turn lane Idle old new found is a = inr (turn_number (turn_of lane true), numbers_more old.world.turns new.world.turns (turn_of lane true) a ∙ ap (λ l. l ++ turn_number (turn_of lane true) ∷ []) (sym is))
one_turn lane Worked old new found is a = inr (turn_number (turn_of lane false), numbers_more old.world.turns new.world.turns (turn_of lane false) a ∙ ap (λ l. l ++ turn_number (turn_of lane false) ∷ []) (sym is))
one_turn lane NoMemory old new found is a = inl (ap (map turn_number) a.0 ∙ sym is)

-- what a turn adds to what was seen
pub turn_seen : {D : Type 0} → (lane room : ℕ) (t : Turned) (old new : HandedValue D) (before after : List ℕ) → StartsWith (turn_numbers old.world.turns) before → after ≡ turn_numbers new.world.turns → old.first.turn_room ≡ room → IsAdvanced lane t old new → HasTakenTurn lane room t before after
turn_seen lane room Idle old new before after s e r a = (turn_numbers old.world.turns, s, e ∙ numbers_more old.world.turns new.world.turns (turn_of lane true) a)
turn_seen lane room Worked old new before after s e r a = (turn_numbers old.world.turns, s, e ∙ numbers_more old.world.turns new.world.turns (turn_of lane false) a)
turn_seen lane room NoMemory old new before after s e r a = let same : after ≡ turn_numbers old.world.turns = e ∙ ap (map turn_number) a.0 in
    let long = length-map old.world.turns turn_number in
    let most = a.1 in
    (subst (λ x. StartsWith x before) (sym same) s, subst (λ (x : List ℕ). room ≤ length x) (sym same) (omega (arith, long, most, r)))

pub turn_starts : (lane room : ℕ) (t : Turned) (before after : List ℕ) → HasTakenTurn lane room t before after → StartsWith after before
turn_starts lane room Idle before after (found, s, e) = grown_by before found after (turn_number (turn_of lane true)) s e
turn_starts lane room Worked before after (found, s, e) = grown_by before found after (turn_number (turn_of lane false)) s e
turn_starts lane room NoMemory before after h = h.0

-- what a turn leaves of what was seen before
pub turn_grown : {D : Type 0} → (lane : ℕ) (t : Turned) (old new : HandedValue D) (before : List ℕ) → StartsWith (turn_numbers old.world.turns) before → IsAdvanced lane t old new → StartsWith (turn_numbers new.world.turns) before
turn_grown lane Idle old new before s a = grown_by before (turn_numbers old.world.turns) (turn_numbers new.world.turns) (turn_number (turn_of lane true)) s (numbers_more old.world.turns new.world.turns (turn_of lane true) a)
turn_grown lane Worked old new before s a = grown_by before (turn_numbers old.world.turns) (turn_numbers new.world.turns) (turn_number (turn_of lane false)) s (numbers_more old.world.turns new.world.turns (turn_of lane false) a)
turn_grown lane NoMemory old new before s a = subst (λ x. StartsWith x before) (ap (map turn_number) (sym a.0)) s

turn_marks : (lane room : ℕ) (t : Turned) (before after : List ℕ) → (t ≡ Idle) ⊎ (t ≡ NoMemory) → HasTakenTurn lane room t before after → HasMarkOrIsFull (turn_number (turn_of lane true)) room after
turn_marks lane room t before after is turn = ⊎_elim
    (λ e. let h : HasTakenTurn lane room Idle before after = subst (λ (x : Turned). HasTakenTurn lane room x before after) e turn in mark_is_last (turn_number (turn_of lane true)) room h.0 after h.2)
    (λ e. inr (let h : HasTakenTurn lane room NoMemory before after = subst (λ (x : Turned). HasTakenTurn lane room x before after) e turn in h.1)) is

-- the turn that ends a lane's work
pub last_turn : {D : Type 0} → (lock : LockOf D) (first : WorldValue D) (lane : ℕ) (t : Turned) (s0 s1 s2 : SeatOf D) → (t ≡ Idle) ⊎ (t ≡ NoMemory)
    → parts_with s1 ≡ parts_with s0 → StartsWith (seen_by s1) (seen_by s0) → IsReadySeat lock first s2 → parts_with s2 ≡ parts_with s1 → HasTakenTurn lane first.turn_room t (seen_by s1) (seen_by s2) → HasWorkedAway lock first lane s0 s2
last_turn lock first lane t s0 s1 s2 is parts begun ready same turn = record {
  ready = ready;
  parts = same ∙ parts;
  later = grown_along (seen_by s0) (seen_by s1) (seen_by s2) begun (turn_starts lane first.turn_room t (seen_by s1) (seen_by s2) turn);
  done = turn_marks lane first.turn_room t (seen_by s1) (seen_by s2) is turn;
}

-- ---- all seats

some_of : {A : Type 0} → (xs : List A) → 0 < length xs → A
some_of [] h = absurd (omega arith)
some_of (x ∷ xs) h = x

same_sum : {A : Type 0} → (f : A → ℕ) (xs ys : List A) → length ys ≡ length xs → ((i : ℕ) (d : A) → i < length xs → f (slice_index_or ys i d) ≡ f (slice_index_or xs i d)) → sum_by f ys ≡ sum_by f xs
same_sum f [] [] len h = refl
same_sum f [] (y ∷ ys) len h = absurd (omega arith)
same_sum f (x ∷ xs) [] len h = absurd (omega arith)
same_sum f (x ∷ xs) (y ∷ ys) len h =
    let here : f y ≡ f x = h 0 x (omega arith) in
    let more = same_sum f xs ys (omega arith) (λ i d lt. h (suc i) d (omega arith)) in
    let a = sum_by-cons f x xs in
    let b = sum_by-cons f y ys in
    omega (arith, here, more, a, b)

-- seats of a new lock are ready
pub all_ready : {D : Type 0} → (lock : LockOf D) (first : WorldValue D) (handed : HandedValue D) (seats now : List (SeatOf D)) → handed ≡ record { world = first; first = first } → now ≡ seats → All (IsFreeSeat lock) seats → All (IsUnder handed.first handed.world.finished) seats → All (IsReadySeat lock first) now
all_ready {D} lock first handed seats now is same free under =
    subst (λ (l : List (SeatOf D)). All (IsReadySeat lock first) l) (sym same) (λ k d h. (free k d h, subst (λ (v : HandedValue D). IsUnder v.first v.world.finished (slice_index_or seats k d)) is (under k d h)))

module _ {D : Type 0} (lock : LockOf D) (first : WorldValue D) (old new : List (SeatOf D)) (len : length new ≡ length old)
    (each : (i : ℕ) (d : SeatOf D) → i < length old → HasWorkedAway lock first (i + 1) (slice_index_or old i d) (slice_index_or new i d)) where
  pub all_free : All (IsFreeSeat lock) new
  all_free k d h = (each k d (omega arith)).ready.0

  pub all_under : All (IsUnder first first.finished) new
  all_under k d h = (each k d (omega arith)).ready.1

  pub all_parts : sum_by parts_with old ≡ 64 → sum_by parts_with new ≡ 64
  all_parts e = same_sum parts_with old new len (λ i d h. (each i d h).parts) ∙ e

  pub all_done : (trace : List ℕ) → All (λ s. StartsWith trace (seen_by s)) new → (lane : ℕ) → 0 < lane → lane ≤ length old → HasMarkOrIsFull (turn_number (turn_of lane true)) first.turn_room trace
  all_done trace starts lane some most = let h : lane - 1 < length old = omega arith in let d = some_of old (omega arith) in
      let is : (lane - 1) + 1 ≡ lane = omega arith in
      mark_stays (turn_number (turn_of lane true)) first.turn_room (seen_by (slice_index_or new (lane - 1) d)) trace (starts (lane - 1) d (omega arith)) (subst (λ (n : ℕ). HasMarkOrIsFull (turn_number (turn_of n true)) first.turn_room (seen_by (slice_index_or new (lane - 1) d))) is (each (lane - 1) d h).done)
